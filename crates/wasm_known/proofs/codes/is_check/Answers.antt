use Rattle.std.proofs.Common.{sym, [], ◌∙◌}
use Rattle.wasm_link.specs.Placed.{typed_function}
use Rattle.wasm_helpers.specs.Codes.{check_code}
use Rattle.wasm_known.proofs.Same.{no, function_is, four_wide, wide}
use Rattle.wasm_known.proofs.codes.is_check.Goals as goal
use Rattle.wasm_known.proofs.codes.is_check.Goals.{then-has_types, else-has_types}

pub returns-then-is_empty : goal.returns-then-is_empty
returns-then-is_empty c same =
    elim c.if-has_types.branch [
      | then-has_types w ↦ (
        c.args.function.function.now.type_index,
        function_is four_wide wide [] check_code (typed_function c.args.function)
            (sym c.has_types.ensures ∙ w.if-has_types.true) (w.is_empty.ensures.0 (sym w.value-is ∙ c.if-is_empty.true))
            (sym c.ops.ensures ∙ c.is_check_code.ensures same),
      )
      | else-has_types w ↦ absurd (no (sym w.if-has_types.false ∙ sym w.value-is ∙ c.if-is_empty.true))
    ]
