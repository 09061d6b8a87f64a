-- RETURN and EXIT answer exactly.
use Rattle.std.proofs.Common.{◌≡◌, ℕ, Bool, true, false, Option, Some, None, Result, Ok, Err, ◌⊎◌, inl, inr, refl, sym, ap, subst}
use Rattle.m2_rule.specs.declared.breach.Breach.{Breach}
use Rattle.m2_rule.specs.declared.rule.Rule.TheVariants as rule
use Rattle.m2_tree.specs.declared.pos.Pos.{Pos}
use Rattle.m2_tree.specs.declared.name.Ident.{Ident}
use Rattle.m2_tree.specs.declared.expr.Expr.{Expr}
use Rattle.typed_tree.specs.declared.types.TypeNo.{TypeNo}
use Rattle.typed_tree.specs.declared.statement.TypedStmt.{TypedStmt}
use Rattle.typed_tree.specs.declared.statement.TypedStmt.TheVariants as statement
use Rattle.check_scope.specs.declared.scope.Scope.{Scope}
use Rattle.check_scope.specs.Elaborated.{Gathers, report, reported_beside, ◌▷◌}
use Rattle.check_value.specs.Suits.{value_suited}
use Rattle.check_expr.specs.Meanings.{meanings_of, value_of}
use Rattle.check_stmt_parts.specs.declared.around.Around.{Around}
use Rattle.check_stmt_parts.specs.Simple.{meant_if, exit_statement, given_back, return_statement}
use Rattle.def_typing.specs.Operators.{◌!◌, Kind, operand}
use Rattle.def_typing.specs.Things.{Standing, IsAssignable, Misassigned}
use Rattle.def_typing.specs.Parts.{first}
use Rattle.def_typing.specs.Expressions.{Has, BrokenAsValue}
use Rattle.def_typing.specs.Returns as rules
use Rattle.def_typing.specs.Returns.{Giving, Nothing, AResult, AnyResult, IsFunction, with_type, without_type, IsExit, is_exit, BrokenExit, no_loop, Returns, ends, gives, BrokenReturn, in_value, wrong_value}
use Rattle.law_typing.specs.Judging.{Judges, Answers, means, refuses}
use Rattle.law_typing.specs.Exact.{IsKind, Knows, KnowsResult, knows_nothing, knows_type, knows_broken, RepeatsResult, in_result}
use Rattle.law_typing.proofs.Combining.{Lawful, declined, exact, both_answer, declined_beside, Checks, passes, stopped, then_check, map_checks, Tells, silent, tells}
use Rattle.law_typing.proofs.Placing.{value_suits}
use Rattle.law_typing.proofs.Places.{at_is}
use Rattle.law_typing.proofs.Elements.{checks_answer}
use Rattle.law_typing.proofs.Expressing.{exactly}

-- more that is repeated
pub repeats_more : {g : Gathers} {j : Judges g} {O U : Breach → Type 0} {A K : Type 0} {Is : A → K → Type 0}
    {M : K → Type 0} {B : Breach → Type 0} {r : Result A g.Reported} → ((f : Breach) → O f → U f)
    → Answers g j O Is M B r → Answers g j U Is M B r
repeats_more h (means a k i m u n) = means a k i m u n
repeats_more h (refuses r a n) = refuses r
    (record { only = λ f m. elim (a.only f m) [ inl b ↦ inl b | inr o ↦ inr (h f o) ]; each = a.each }) n

module _ (g : Gathers) (j : Judges g) (lawful : Lawful g j) (O : Breach → Type 0) where
  -- a value of which only what is broken counts
  pub value_tells : {A K : Type 0} {Is : A → K → Type 0} {M : K → Type 0} {B : Breach → Type 0}
      {r : Result A g.Reported} → Answers g j O Is M B r → Tells g j lawful O B (r ▷ λ v. Ok tt)
  value_tells (means a k i m u n) = silent n
  value_tells (refuses r a n) = tells r a

  pub exit_answers : (at : Pos) (w : Around g.Reported)
      → Answers g j O {A = TypedStmt} {K = Unit {0}} (λ v u. Unit {0}) (λ u. IsExit w.in_loop) (BrokenExit at w.in_loop)
      (exit_statement g at w)
  exit_answers at w = by w.in_loop
    where
      none : (f : Breach) → BrokenExit at true f → ⊥
      none f z = elim z [ ]

      one : (f : Breach) → BrokenExit at false f → f ≡ at ! rule.LonelyExit
      one _ no_loop = refl

      by : (b : Bool) → Answers g j O {A = TypedStmt} {K = Unit {0}} (λ v u. Unit {0}) (λ u. IsExit b) (BrokenExit at b)
          (exit_statement g at (record { gives = w.gives; in_loop = b }))
      by true = checks_answer g j lawful O (passes statement.Exit is_exit none)
      by false = checks_answer g j lawful O (stopped g j lawful O at rule.LonelyExit (λ m. elim m [ ]) no_loop one)

module _ (g : Gathers) (j : Judges g) (lawful : Lawful g j) (names : Ident → Standing) (exports : ℕ → Ident → Standing)
    (s : Scope g.Reported) (knows : Knows g j names exports s) where
  abbrev H : Expr → Kind → Type 0
  H = Has s.types names exports

  abbrev V : Expr → Breach → Type 0
  V = BrokenAsValue s.types names exports

  abbrev R : Giving → Option Expr → Type 0
  R = Returns s.types names exports

  abbrev BR : Pos → Giving → Option Expr → Breach → Type 0
  BR = BrokenReturn s.types names exports

  module _ (result : Option (Result TypeNo g.Reported)) where
    abbrev E : Breach → Type 0
    E = RepeatsResult g j names s result

    abbrev So : Pos → Giving → Option Expr → Result TypedStmt g.Reported → Type 0
    So at w e r = Answers g j E {A = TypedStmt} {K = Unit {0}} (λ v u. Unit {0}) (λ u. R w e) (BR at w e) r

    valued : (e : Expr) → Answers g j E IsKind (H e) (V e) (value_of g s (meanings_of g e))
    valued e = repeats_more (λ f o. inl o) (exactly g j lawful names exports s knows e)

    no_value_there : (at : Pos) (w : Giving) → IsFunction w → So at w None (report g at rule.WrongReturn)
    no_value_there at w i = declined g j lawful E at rule.WrongReturn (λ k m. nothing i m) (rules.no_value i)
        (λ f z. one z)
      where
        nothing : {w : Giving} → IsFunction w → R w None → ⊥
        nothing i ends = elim i [ ]

        one : {w : Giving} {f : Breach} → BR at w None f → f ≡ at ! rule.WrongReturn
        one (rules.no_value i) = refl

    no_value_asked : (at : Pos) (e : Expr)
        → So at Nothing (Some e) (reported_beside g at rule.WrongReturn (value_of g s (meanings_of g e) ▷ λ v. Ok tt))
    no_value_asked at e = exact g j lawful E {M = λ u. ⊥} (λ k c. absurd c) (λ k m. elim m [ ]) (λ f z. into f z)
        (λ f z. out f z) (declined_beside g j lawful E at rule.WrongReturn (λ u c. c)
        (value_tells g j lawful E (valued e)))
      where
        into : (f : Breach) → (f ≡ at ! rule.WrongReturn) ⊎ V e f → BR at Nothing (Some e) f
        into f (inl q) = subst (BR at Nothing (Some e)) (sym q) rules.no_function
        into f (inr b) = in_value b

        out : (f : Breach) → BR at Nothing (Some e) f → (f ≡ at ! rule.WrongReturn) ⊎ V e f
        out _ rules.no_function = inl refl
        out f (in_value b) = inr b

    -- the type of the result
    abbrev TypeIs : Giving → Result TypeNo g.Reported → Type 0
    TypeIs w q = Answers g j E (λ t u. t ≡ u) (λ t. w ≡ AResult t) (λ f. ⊥) q

    abbrev Given : Giving → Expr → Type 0
    Given w e = (p : TypeNo × Kind) × ((w ≡ AResult p.0) × H e p.1) × IsAssignable s.types p.0 (operand p.1)

    abbrev GivenFails : Giving → Expr → Breach → Type 0
    GivenFails w e f = (⊥ ⊎ V e f) ⊎ ((p : TypeNo × Kind) × ((w ≡ AResult p.0) × H e p.1)
        × Misassigned s.types p.0 (first e) rule.NotAssignable (operand p.1) f)

    value_given : (at : Pos) (w : Giving) (q : Result TypeNo g.Reported) (e : Expr) → IsFunction w → TypeIs w q
        → So at w (Some e) (given_back g s.types q (meanings_of g e).fixed.at (value_of g s (meanings_of g e)))
    value_given at w q e c t = subst (λ (spot : Pos). So at w (Some e)
        (given_back g s.types q spot (value_of g s (meanings_of g e)))) (sym (at_is g e))
        (exact g j lawful E {M = λ u. Given w e} {B = GivenFails w e} (λ u z. into_return z) (λ u z. out_return z)
        (λ f z. into f z) (λ f z. out c f z)
        (checks_answer g j lawful E (then_check g j lawful E {P = λ p. IsAssignable s.types p.0 (operand p.1)}
        {D = λ p f. Misassigned s.types p.0 (first e) rule.NotAssignable (operand p.1) f}
        (both_answer g j lawful E t (valued e))
        (λ v p m. subst (λ (u : TypeNo). Checks g j lawful E (IsAssignable s.types u (operand p.1))
        (Misassigned s.types u (first e) rule.NotAssignable (operand p.1))
        (value_suited g rule.NotAssignable s.types v.0 (first e) v.1 ▷ λ x. Ok (statement.Give v.0 x))) m.0
        (map_checks g j lawful E (λ x. statement.Give v.0 x)
        (value_suits s.types v.0 g j lawful E rule.NotAssignable (first e) m.1))))))
      where
        into_return : Given w e → R w (Some e)
        into_return (p, (m, h), a) = subst (λ (w : Giving). R w (Some e)) (sym m) (gives h a)

        out_return : {w : Giving} → R w (Some e) → Given w e
        out_return (gives {t = t} {k = k} h a) = ((t, k), (refl, h), a)

        into : (f : Breach) → GivenFails w e f → BR at w (Some e) f
        into f (inl (inl b)) = absurd b
        into f (inl (inr b)) = in_value b
        into f (inr (p, (m, h), a)) = subst (λ (w : Giving). BR at w (Some e) f) (sym m) (wrong_value h a)

        out : {w : Giving} → IsFunction w → (f : Breach) → BR at w (Some e) f → GivenFails w e f
        out c _ rules.no_function = elim c [ ]
        out c f (in_value b) = inl (inr b)
        out c f (wrong_value {t = t} {k = k} h a) = inr ((t, k), (refl, h), a)

abbrev given_type : TypeNo → Giving → TypeNo
given_type t (AResult u) = u
given_type t other = t

module _ (g : Gathers) (j : Judges g) (lawful : Lawful g j) (names : Ident → Standing) (exports : ℕ → Ident → Standing)
    (s : Scope g.Reported) (knows : Knows g j names exports s) where
  pub return_answers : (at : Pos) (w : Giving) (result : Option (Result TypeNo g.Reported)) (e : Option Expr)
      → KnowsResult g j w result → So g j lawful names exports s knows result at w e
      (return_statement g s at result (meant_if g e))
  return_answers at _ _ None knows_nothing = checks_answer g j lawful _ (passes statement.Return ends (λ f z. none f z))
    where
      none : (f : Breach) → BrokenReturn s.types names exports at Nothing None f → ⊥
      none _ (rules.no_value c) = elim c [ ]
  return_answers at _ _ (Some e) knows_nothing = no_value_asked g j lawful names exports s knows None at e
  return_answers at _ _ None (knows_type t) = no_value_there g j lawful names exports s knows _ at _ with_type
  return_answers at _ _ (Some e) (knows_type t) =
      value_given g j lawful names exports s knows (Some (Ok t)) at (AResult t) (Ok t) e with_type
      (means t t refl refl (λ u q. ap (given_type t) (sym q)) (λ f b. b))
  return_answers at _ _ None (knows_broken r) = no_value_there g j lawful names exports s knows _ at _ without_type
  return_answers at _ _ (Some e) (knows_broken r) =
      value_given g j lawful names exports s knows (Some (Err r)) at AnyResult (Err r) e without_type
      (refuses r (record { only = λ f m. inr (inr (in_result m)); each = λ f b. absurd b }) (λ u q. absurd cc))
