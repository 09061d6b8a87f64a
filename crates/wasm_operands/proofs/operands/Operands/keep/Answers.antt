use Rattle.std.proofs.Common.{◌-◌, length, refl}
use Rattle.wasm_operands.proofs.Cells.{bits_kept, fits_kept}
use Rattle.wasm_operands.proofs.operands.Operands.keep.Goals as goal

pub invariant_of-self : goal.invariant_of-self
invariant_of-self c =
    record {
      bits = bits_kept c.args.height c.args.count (length c.args.self.now.cells.items - c.args.count)
          c.args.self.now.known.values c.known_as-self.result.values c.args.self.now.cells.items c.keep.new.cells.items
          c.args.self.now.bits refl c.known_as-self.ensures c.keep.ensures;
      fits = fits_kept c.args.height (length c.args.self.now.known.values - c.args.count) c.args.self.now.known.values
          c.known_as-self.result.values c.args.self.now.fits c.known_as-self.ensures;
    }
