-- The selector of a CASE is answered exactly.
use Rattle.std.proofs.Common.{◌≡◌, ℕ, ℤ, pos, Bool, true, false, cond, Option, Some, None, Result, Ok, ◌⊎◌, inl, inr, refl, sym, ap, subst, ◌∙◌}
use Rattle.std.specs.Prelude.{int_lt}
use Rattle.m2_rule.specs.declared.breach.Breach.{Breach}
use Rattle.m2_rule.specs.declared.rule.Rule.TheVariants as rule
use Rattle.m2_tree.specs.declared.pos.Pos.{Pos}
use Rattle.m2_tree.specs.declared.name.Ident.{Ident}
use Rattle.m2_tree.specs.declared.expr.Expr.{Expr}
use Rattle.typed_tree.specs.declared.types.TypeNo.{TypeNo}
use Rattle.typed_tree.specs.declared.computed.TypedExpr.{TypedExpr}
use Rattle.typed_tree.specs.Types.{integer, cardinal}
use Rattle.check_scope.specs.declared.scope.Scope.{Scope}
use Rattle.check_scope.specs.Elaborated.{Gathers, report, ◌▷◌}
use Rattle.check_value.specs.declared.side.Amount.TheVariants.{Known as KnownSide, Run}
use Rattle.check_value.specs.declared.side.Side.{Side}
use Rattle.check_value.specs.Sides.{side_of}
use Rattle.check_value.specs.Effects.{type_of_number}
use Rattle.check_expr.specs.Meanings.{meanings_of, value_of}
use Rattle.check_stmt_parts.specs.Simple.{selector_amount, selector_of, case_selector}
use Rattle.def_typing.specs.Amounts.{Amount, Constant, Value}
use Rattle.def_typing.specs.Operators.{◌!◌, Kind, Scalar, operand}
use Rattle.def_typing.specs.Things.{Standing}
use Rattle.def_typing.specs.Parts.{first}
use Rattle.def_typing.specs.Expressions.{Has, BrokenAsValue}
use Rattle.def_typing.specs.Cases.{SelectsIn, constant_type, value_type, negative, not_negative, IsSelector, is_selector, BrokenSelector, in_selector, no_scalar}
use Rattle.law_typing.specs.Judging.{Judges, Answers, means}
use Rattle.law_typing.specs.Exact.{Knows, Repeats}
use Rattle.law_typing.proofs.Combining.{Lawful, declined, exact, then_answer}
use Rattle.law_typing.proofs.Joining.{IsSide, side_scalar, side_set, side_routine, side_procedure, side_text, side_whole, side_untaken, side_is}
use Rattle.law_typing.proofs.Places.{at_is}
use Rattle.law_typing.proofs.Expressing.{exactly}

number_in : (n : ℤ) (b : Bool) → int_lt n (pos 0) ≡ b → SelectsIn (Constant None n) (cond b integer cardinal)
number_in n true e = negative e
number_in n false e = not_negative e

pub constant_in : (n : ℤ) (sort : Option TypeNo) → SelectsIn (Constant sort n) (type_of_number n sort)
constant_in n None = number_in n (int_lt n (pos 0)) refl
constant_in n (Some t) = constant_type

pub one_base : {a : Amount} {t u : TypeNo} → SelectsIn a t → SelectsIn a u → u ≡ t
one_base constant_type constant_type = refl
one_base value_type value_type = refl
one_base (negative e) (negative h) = refl
one_base (negative e) (not_negative h) = let z = sym e ∙ h in absurd cc
one_base (not_negative e) (negative h) = let z = sym e ∙ h in absurd cc
one_base (not_negative e) (not_negative h) = refl

abbrev amount_in : Amount → Kind → Amount
amount_in a (Scalar b) = b
amount_in a other = a

module _ (g : Gathers) (j : Judges g) (lawful : Lawful g j) (O : Breach → Type 0) (at : Pos) where
  abbrev Selecting : Kind → TypeNo → Type 0
  Selecting c t = (a : Amount) × (c ≡ Scalar a) × SelectsIn a t

  abbrev NoScalar : Kind → Breach → Type 0
  NoScalar c f = ((a : Amount) → c ≡ Scalar a → ⊥) × (f ≡ at ! rule.WrongType)

  abbrev SelectorSo : Kind → Result (TypeNo × TypedExpr) g.Reported → Type 0
  SelectorSo c r = Answers g j O (λ v t. v.0 ≡ t) (Selecting c) (NoScalar c) r

  no_selector : {c : Kind} → ((a : Amount) → c ≡ Scalar a → ⊥) → SelectorSo c (report g at rule.WrongType)
  no_selector n = declined g j lawful O at rule.WrongType (λ t m. n m.0 m.1) (n, refl) (λ f z. z.1)

  a_selector : (a : Amount) (v : TypeNo × TypedExpr) → SelectsIn a v.0 → SelectorSo (Scalar a) (Ok v)
  a_selector a v m = means v v.0 refl (a, refl, m)
      (λ t q. one_base m (subst (λ (b : Amount). SelectsIn b t) (sym (ap (amount_in a) q.1)) q.2)) (λ f z. z.0 a refl)

  side_selects : {p : Option Side} {c : Kind} → IsSide p c → SelectorSo c (selector_of g at p)
  side_selects (side_scalar (KnownSide a)) =
      a_selector (Constant a.sort a.number) (selector_amount (KnownSide a)) (constant_in a.number a.sort)
  side_selects (side_scalar (Run b e)) = a_selector (Value b) (b, e) value_type
  side_selects (side_set m e) = no_selector (λ a q. absurd cc)
  side_selects (side_routine t e) = no_selector (λ a q. absurd cc)
  side_selects (side_procedure p) = no_selector (λ a q. absurd cc)
  side_selects (side_text text) = no_selector (λ a q. absurd cc)
  side_selects (side_whole t) = no_selector (λ a q. absurd cc)
  side_selects side_untaken = no_selector (λ a q. absurd cc)

module _ (g : Gathers) (j : Judges g) (lawful : Lawful g j) (names : Ident → Standing) (exports : ℕ → Ident → Standing)
    (s : Scope g.Reported) (knows : Knows g j names exports s) where
  abbrev E : Breach → Type 0
  E = Repeats g j names s

  pub selector_answers : (e : Expr) → Answers g j E (λ (v : TypeNo × TypedExpr) (t : TypeNo). v.0 ≡ t)
      (IsSelector s.types names exports e) (BrokenSelector s.types names exports e)
      (case_selector g s (meanings_of g e))
  selector_answers e = subst (λ (at : Pos). Answers g j E (λ (v : TypeNo × TypedExpr) (t : TypeNo). v.0 ≡ t)
      (IsSelector s.types names exports e) (BrokenSelector s.types names exports e)
      (value_of g s (meanings_of g e) ▷ λ v. selector_of g at (side_of v))) (sym (at_is g e))
      (exact g j lawful E (λ t m. is_selector m.1 m.2.1 m.2.2) parts into out
      (then_answer g j lawful E {N = λ k t. Selecting g j lawful E (first e) (operand k) t}
      {D = λ k f. NoScalar g j lawful E (first e) (operand k) f} (exactly g j lawful names exports s knows e)
      (λ v k q. side_selects g j lawful E (first e) (side_is q))))
    where
      parts : (t : TypeNo) → IsSelector s.types names exports e t → (k : Kind) × Has s.types names exports e k
          × Selecting g j lawful E (first e) (operand k) t
      parts t (is_selector {k = k} {a = a} h q m) = (k, h, (a, q, m))

      into : (f : Breach) → BrokenAsValue s.types names exports e f
          ⊎ ((k : Kind) × Has s.types names exports e k × NoScalar g j lawful E (first e) (operand k) f)
          → BrokenSelector s.types names exports e f
      into f (inl b) = in_selector b
      into f (inr (k, h, (n, q))) = subst (BrokenSelector s.types names exports e) (sym q) (no_scalar h n)

      out : (f : Breach) → BrokenSelector s.types names exports e f → BrokenAsValue s.types names exports e f
          ⊎ ((k : Kind) × Has s.types names exports e k × NoScalar g j lawful E (first e) (operand k) f)
      out f (in_selector b) = inl b
      out _ (no_scalar {k = k} h n) = inr (k, h, (n, refl))
