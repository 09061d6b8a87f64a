use Rattle.wasm_operands.proofs.Cells.{bits_take, fits_take}
use Rattle.wasm_operands.proofs.operands.Operands.truncate.Goals as goal

pub invariant_of-self : goal.invariant_of-self
invariant_of-self c =
    record {
      bits = bits_take c.args.height c.args.self.now.known.values c.known_as-self.result.values
          c.args.self.now.cells.items c.truncate.new.self.items c.args.self.now.bits c.known_as-self.ensures
          c.truncate.ensures.items;
      fits = fits_take c.args.height c.args.self.now.known.values c.known_as-self.result.values c.args.self.now.fits
          c.known_as-self.ensures;
    }
