use Rattle.std.proofs.Common.{refl, sym, ◌∙◌, rules, arith, inl, inr, Some}
use Rattle.std.proofs.lemmas.Grind.{common_steps}
use Rattle.m2_tree.specs.declared.token.Symbol.TheVariants.{Semicolon}
use Rattle.def_grammar.specs.declared.kind.Kind.TheVariants as the
use Rattle.def_grammar.specs.Grammar.{◌▸◌, opt}
use Rattle.def_grammar.specs.Ebnf.{field}
use Rattle.def_grammar.specs.Trees.{present, with_first}
use Rattle.def_grammar.proofs.Rules as rules_of
use Rattle.def_grammar.proofs.Turns.{many-is}
use Rattle.def_grammar.proofs.Loops.{optional, loop_turn, loop_stop, word_then, turn_shorter, mapped_ok}
use Rattle.def_grammar.proofs.Items as each
use Rattle.def_grammar.proofs.Flat.{procedure_type_flat}
use Rattle.parse_expr.proofs.cursor.Cursor.+types.Goals as goal

pub fields-returns-in_err-maybe_field-2 : goal.fields-returns-in_err-maybe_field-2
fields-returns-in_err-maybe_field-2 t c =
    let u = many-is (Semicolon ▸ opt field) c.args.room each.more_fields c.loop-self.self in
    first_of (search rules, grind (arith, common_steps))

pub fields-loop-self-smaller : goal.fields-loop-self-smaller
fields-loop-self-smaller t c =
    let w = c.loop-self-test.ensures in
    let v = c.in_ok-maybe_field-2.ensures in
    turn_shorter (Semicolon ▸ opt field) c.args.room _ _ _ refl
    (word_then (the.Symbol Semicolon) (opt field) c.args.room _ _ _ _ _ w.2 v.1)

pub fields-loop-self-preserved : goal.fields-loop-self-preserved
fields-loop-self-preserved t c =
    let w = c.loop-self-test.ensures in
    let v = c.in_ok-maybe_field-2.ensures in
    rw v.2 (sym (loop_turn (Semicolon ▸ opt field) _ _ optional each.more_fields c.args.room _ c.loop-self.found _ _ w.0
    (word_then (the.Symbol Semicolon) (opt field) c.args.room _ _ _ _ _ w.2 v.1)) ∙ c.loop-self.invariant)

pub fields-returns : goal.fields-returns
fields-returns t c =
    let w = c.loop-self-test.ensures in
    rw w.1 (mapped_ok (λ p. present (with_first p)) _ _ _
    (sym c.loop-self.invariant ∙ loop_stop (Semicolon ▸ opt field) _ _ optional each.more_fields c.args.room _
    c.loop-self.found w.0))

pub maybe_field-returns : goal.maybe_field-returns
maybe_field-returns t c =
    (Some c.in_ok-field.field-0, first_of (search rules, grind (arith, common_steps)), c.in_ok-push.ensures.ok)

pub inner_array-returns : goal.inner_array-returns
inner_array-returns t c =
    let e = rules_of.inner_dims_is c.args.room c.args.self.now in (
      (c.in_ok-index.index, c.in_ok-index.element),
      first_of (search rules, grind (arith, common_steps)),
      first_of
          (search rules, grind (arith, common_steps)),
    )

pub structure_type-returns-then-sees : goal.structure_type-returns-then-sees
structure_type-returns-then-sees t c =
    let w = c.in_ok-pos.ensures in (
      inl (w.0, (c.in_ok-index.index, c.in_ok-index.element)),
      first_of (search rules, grind (arith, common_steps)),
      first_of (search rules, grind (arith, common_steps)),
    )

pub structure_type-returns-then-sees-2 : goal.structure_type-returns-then-sees-2
structure_type-returns-then-sees-2 t c =
    let v = c.in_ok-pos-2.ensures in
    let w = c.in_ok-fields.ensures in (
      inr (inl (v.0, w.0)),
      first_of (search rules, grind (arith, common_steps)),
      first_of
          (search rules, grind (arith, common_steps)),
    )

pub structure_type-returns : goal.structure_type-returns
structure_type-returns t c =
    let e = procedure_type_flat c.args.room c.args.self.now in
    let w = c.in_ok-found.ensures in (
      inr (inr w.0),
      first_of (search rules, grind (arith, common_steps)),
      first_of
          (search rules, grind (arith, common_steps)),
    )

pub structure_type-returns-in_err-found : goal.structure_type-returns-in_err-found
structure_type-returns-in_err-found t c =
    let e = procedure_type_flat c.args.room c.args.self.now in
    first_of (search rules, grind (arith, common_steps))
