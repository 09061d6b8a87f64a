use Rattle.std.proofs.Common.{replicate, arith}
use Rattle.wasm_operands.proofs.Cells.{bits_more, fits_more, bits_zeros, fits_zeros, filled_up}
use Rattle.wasm_operands.proofs.operands.Operands.push_zeros.Goals as goal

pub invariant_of-self-2 : goal.invariant_of-self-2
invariant_of-self-2 c =
    let n = c.args.group.count in
    record {
      bits = bits_more c.args.self.now.known.values (replicate n c.zero_of.result) c.known_as-self.result.values
          c.args.self.now.cells.items (replicate n 0) c.resize.new.self.items c.args.self.now.bits
          (bits_zeros n c.args.group.value_type c.zero_of.result c.zero_of.ensures) c.known_as-self.ensures
          (filled_up c.len.result n _ c.args.self.now.cells.items c.resize.new.self.items
          (omega (arith, c.len.ensures, c.args.self.now.cells.ok.0)) (omega (arith, c.args.self.now.cells.ok.0))
          c.in_ok-resize.ensures.items);
      fits = fits_more c.args.self.now.known.values (replicate n c.zero_of.result) c.known_as-self.result.values
          c.args.self.now.fits (fits_zeros n c.args.group.value_type c.zero_of.result c.zero_of.ensures)
          c.known_as-self.ensures;
    }
