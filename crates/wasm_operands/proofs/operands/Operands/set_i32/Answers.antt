use Rattle.std.proofs.Common.{◌≡◌, ◌-◌, length, sym, arith}
use Rattle.wasm_tree.specs.declared.store.Value.TheVariants.{I32}
use Rattle.wasm_operands.proofs.Cells.{as_many, bits_set, fits_set, set_top, small_i32}
use Rattle.wasm_operands.proofs.operands.Operands.set_i32.Goals as goal

pub invariant_of-self : goal.invariant_of-self
invariant_of-self c =
    let j : length c.args.self.now.known.values - 1 ≡ c.len-last.result - 1 =
    omega (
      arith,
      c.len-last.ensures,
      c.args.self.now.cells.ok.0,
      as_many c.args.self.now.known.values
          c.args.self.now.cells.items c.args.self.now.bits,
    ) in
    record {
      bits = bits_set c.args.self.now.known.values c.known_as-self.result.values c.args.self.now.cells.items
          (length c.args.self.now.known.values - 1) (c.len-last.result - 1) c.from.result (I32 c.args.number)
          c.args.self.now.bits j c.known_as-self.ensures (sym c.from.ensures);
      fits = fits_set c.args.self.now.known.values c.known_as-self.result.values
          (length c.args.self.now.known.values - 1) (I32 c.args.number) c.args.self.now.fits
          (small_i32 c.args.number c.ranges.number.fits) c.known_as-self.ensures;
    }

pub returns : goal.returns
returns c = set_top c.args.self.now.known.values c.known_as-self.result.values (I32 c.args.number) c.requires
    c.known_as-self.ensures
