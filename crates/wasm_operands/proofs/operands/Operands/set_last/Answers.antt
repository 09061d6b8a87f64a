use Rattle.std.specs.Prelude.{slice_index_or}
use Rattle.std.proofs.Common.{◌≡◌, ◌-◌, ◌<◌, length, refl, ap, ◌∙◌, arith}
use Rattle.wasm_operands.specs.Bits.{last_of}
use Rattle.wasm_operands.proofs.Cells.{as_many, bits_at, fits_at, bits_set, fits_set}
use Rattle.wasm_operands.proofs.operands.Operands.set_last.Goals as goal

pub invariant_of-self : goal.invariant_of-self
invariant_of-self c =
    let j : c.len.result - 1 ≡ length c.args.from.now.known.values - 1 =
    omega (
      arith,
      c.len.ensures,
      c.args.from.now.cells.ok.0,
      as_many c.args.from.now.known.values
          c.args.from.now.cells.items c.args.from.now.bits,
    ) in
    let less : length c.args.from.now.known.values - 1 < length c.args.from.now.known.values =
    omega (arith, c.requires.one) in
    let is : c.index.result.now ≡ slice_index_or c.args.from.now.cells.items (length c.args.from.now.known.values - 1)
    c.index.result.now = c.index.ensures ∙ ap (λ k. slice_index_or c.args.from.now.cells.items k c.index.result.now)
    j in
    record {
      bits = bits_set c.args.self.now.known.values c.known_as-self.result.values c.args.self.now.cells.items
          c.args.place c.args.place c.index.result.now (last_of c.args.from.now.known.values) c.args.self.now.bits refl
          c.known_as-self.ensures (bits_at c.args.from.now.known.values c.args.from.now.cells.items
          (length c.args.from.now.known.values - 1) c.index.result.now c.args.from.now.bits less is);
      fits = fits_set c.args.self.now.known.values c.known_as-self.result.values c.args.place
          (last_of c.args.from.now.known.values) c.args.self.now.fits
          (fits_at c.args.from.now.known.values (length c.args.from.now.known.values - 1) c.args.from.now.fits less)
          c.known_as-self.ensures;
    }
