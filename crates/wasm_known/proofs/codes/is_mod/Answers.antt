use Rattle.std.proofs.Common.{sym, ◌∙◌}
use Rattle.wasm_link.specs.Placed.{typed_function}
use Rattle.wasm_helpers.specs.Codes.{mod_code, one_wide}
use Rattle.wasm_known.proofs.Same.{no, function_is, two_wide, wide}
use Rattle.wasm_known.proofs.codes.is_mod.Goals as goal
use Rattle.wasm_known.proofs.codes.is_mod.Goals.{then-has_types, else-has_types}

pub returns-then-is_one_wide : goal.returns-then-is_one_wide
returns-then-is_one_wide c same =
    elim c.if-has_types.branch [
      | then-has_types w ↦ (
        c.args.function.function.now.type_index,
        function_is two_wide wide one_wide mod_code (typed_function c.args.function)
            (sym c.has_types.ensures ∙ w.if-has_types.true)
            (sym w.as_slice.ensures ∙ w.is_one_wide.ensures (sym w.value-is ∙ c.if-is_one_wide.true))
            (sym c.ops.ensures ∙ c.is_mod_code.ensures same),
      )
      | else-has_types w ↦ absurd (no (sym w.if-has_types.false ∙ sym w.value-is ∙ c.if-is_one_wide.true))
    ]
