use Rattle.std.proofs.lemmas.List.{take_rest}
use Rattle.std.proofs.Common.{◌≡◌, ◌-◌, length, drop, ap, ◌∙◌, arith, ◌++◌}
use Rattle.wasm_operands.proofs.Cells.{as_many, bits_more, fits_more, bits_drop, fits_drop}
use Rattle.wasm_operands.proofs.operands.Operands.push_end.Goals as goal

pub invariant_of-self-2 : goal.invariant_of-self-2
invariant_of-self-2 c =
    let h = c.len.result - c.args.count in
    record {
      bits = bits_more c.args.self.now.known.values (drop h c.args.from.now.known.values) c.known_as-self.result.values
          c.args.self.now.cells.items (drop h c.args.from.now.cells.items) c.append.new.cells.items c.args.self.now.bits
          (bits_drop h c.args.from.now.known.values c.args.from.now.cells.items c.args.from.now.bits)
          c.known_as-self.ensures (c.in_ok-append.ensures
          ∙ ap (λ l. c.args.self.now.cells.items ++ l)
          (take_rest c.deref.result.now h ∙ ap (drop h) c.deref.ensures.value));
      fits = fits_more c.args.self.now.known.values (drop h c.args.from.now.known.values) c.known_as-self.result.values
          c.args.self.now.fits (fits_drop h c.args.from.now.known.values c.args.from.now.fits) c.known_as-self.ensures;
    }

pub returns : goal.returns
returns c =
    let j : c.len.result - c.args.count ≡ length c.args.from.now.known.values - c.args.count =
    omega (
      arith,
      c.len.ensures,
      c.args.from.now.cells.ok.0,
      as_many c.args.from.now.known.values
          c.args.from.now.cells.items c.args.from.now.bits,
    ) in
    c.known_as-self.ensures ∙ ap (λ k. c.args.self.now.known.values ++ drop k c.args.from.now.known.values) j
