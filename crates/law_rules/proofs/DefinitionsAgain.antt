-- Constant expressions in a definition, read again behind its declarations.
use Rattle.std.proofs.Common.{◌≡◌, ℕ, Bool, true, false, List, [], ◌∷◌, ◌++◌, refl, sym, ap, ◌∙◌}
use Rattle.std.specs.Prelude.{◌||◌}
use Rattle.std.specs.List.{fold}
use Rattle.m2_tree.specs.declared.name.Ident.{Ident}
use Rattle.m2_tree.specs.declared.decl.Def.{Def}
use Rattle.m2_tree.specs.declared.decl.Def.TheVariants as def
use Rattle.check_scope.specs.declared.scope.Scope.{Scope}
use Rattle.check_scope.specs.Elaborated.{Gathers}
use Rattle.check_definition.specs.Again.{Passing, again_def}
use Rattle.def_typing.specs.Things.{Standing, Ahead}
use Rattle.def_typing.specs.Parts.{here, later}
use Rattle.def_typing.specs.Declarations as blocks
use Rattle.def_typing.specs.Declarations.{Declaration, OfConstant, OfType, OfVariables, OfProcedure, names_of, constants_of, Declares, AnyDeclares, is_among, without}
use Rattle.def_typing.specs.Definitions.{Context, Placed, Means, says, says_nothing, Behind, its_own, its_constant, as_before, Follows, AllFollow, nothing_follows, one_follows}
use Rattle.law_typing.proofs.Combining.{Decided, holds, fails_it}
use Rattle.law_typing.proofs.Entering.{among_decided}
use Rattle.law_typing.proofs.Rereading.{fold_again, declaration_again, constants_again, types_again, variables_again}
use Rattle.law_rules.specs.Defining.{declared_in, all_declared}

-- ---- a definition's declarations, one behind the other

module _ (g : Gathers) (s : Scope g.Reported) where
  def_again : (d : Def) (p : Passing g.Reported)
      → again_def g s p d ≡ fold (declaration_again g s) p (declared_in d)
  def_again (def.Constants cs) p = constants_again g s p cs
  def_again (def.Types ts) p = types_again g s p ts
  def_again (def.Variables vs) p = variables_again g s p vs
  def_again (def.Procedure h) p = refl

  pub defs_again : (ds : List Def) (p : Passing g.Reported)
      → fold (again_def g s) p ds ≡ fold (declaration_again g s) p (all_declared ds)
  defs_again [] p = refl
  defs_again (d ∷ ds) p = ap (λ (q : Passing g.Reported). fold (again_def g s) q ds) (def_again d p)
      ∙ defs_again ds (fold (declaration_again g s) p (declared_in d))
      ∙ fold_again (declaration_again g s) p (declared_in d) (all_declared ds)

-- ---- Behind its declarations a name of a definition stands for what one of them says.

without_ahead : (d : Declaration) → without false d ≡ Ahead → ⊥
without_ahead (OfConstant c) e = absurd cc
without_ahead (OfType d) e = absurd cc
without_ahead (OfVariables v) e = absurd cc
without_ahead (OfProcedure h) e = absurd cc

no_both : {b : Bool} → b ≡ true → b ≡ false → ⊥
no_both e q = let z = sym e ∙ q in absurd cc

either_taken : (b t : Bool) → t ≡ true → (b || t) ≡ true
either_taken true t e = refl
either_taken false t e = e

now_taken : {P : Type 0} {b : Bool} (t : Bool) → Decided P b → P → (b || t) ≡ true
now_taken t (holds h) p = refl
now_taken t (fails_it c) p = absurd (c p)

now_untaken : {P : Type 0} {b t : Bool} → Decided P b → (P → ⊥) → t ≡ false → (b || t) ≡ false
now_untaken (holds h) c e = absurd (c h)
now_untaken (fails_it c) d e = e

other_declares : {n : List ℕ} {d : Declaration} {ds : List Declaration} → (Declares d n → ⊥) → AnyDeclares (d ∷ ds) n
    → AnyDeclares ds n
other_declares c (_, here, h) = absurd (c h)
other_declares c (e, later m, h) = (e, m, h)

abbrev decides : Declaration → List ℕ → Bool
decides d n = is_among n (names_of d ++ constants_of d)

decided : (d : Declaration) (n : List ℕ) → Decided (Declares d n) (decides d n)
decided d n = among_decided (names_of d ++ constants_of d) n

module _ {exports : ℕ → Ident → Standing} where
  means_ahead : {p : Placed} {s : Standing} → Means exports p s → s ≡ Ahead → ⊥
  means_ahead (says all (blocks.constant f)) e = absurd cc
  means_ahead (says all (blocks.a_type t)) e = absurd cc
  means_ahead (says all (blocks.variables t)) e = absurd cc
  means_ahead (says all (blocks.a_procedure h)) e = absurd cc
  means_ahead {p = p} (says_nothing all n) e = without_ahead p.what e

  module _ (x : Ident) where
    as_it_was : {p : Placed} {s : Standing} → Behind exports p x s → p.at.taken x.name ≡ true → s ≡ p.at.names x
    as_it_was (its_own t o m) q = absurd (no_both q t)
    as_it_was (its_constant t o h e) q = absurd (no_both q t)
    as_it_was (as_before c) q = refl

    -- a name that is taken stands for what it stood for
    stays : {c last : Context} {ds : List Declaration} {ps : List Placed} → AllFollow exports c ds ps last
        → c.taken x.name ≡ true → last.names x ≡ c.names x
    stays nothing_follows t = refl
    stays (one_follows {p = p} a f k) t =
        stays k (f.taken x.name ∙ either_taken (decides p.what x.name) (p.at.taken x.name) t) ∙ as_it_was (f.names x) t

    first_ahead : {p : Placed} {s : Standing} → Behind exports p x s → p.at.taken x.name ≡ false
        → Declares p.what x.name → s ≡ Ahead → ⊥
    first_ahead (its_own t o m) q h e = means_ahead m e
    first_ahead (its_constant t o d m) q h e = absurd cc
    first_ahead (as_before c) q h e = c q h

    ahead_by : {p : Placed} {c last : Context} {ps : List Placed} {b : Bool} → Decided (Declares p.what x.name) b
        → Follows exports p c → AllFollow exports c p.left ps last → p.at.taken x.name ≡ false
        → (c.taken x.name ≡ false → AnyDeclares p.left x.name → ⊥) → AnyDeclares (p.what ∷ p.left) x.name
        → last.names x ≡ Ahead → ⊥
    ahead_by {p = p} (holds h) f k t more a e = first_ahead (f.names x) t h
        (sym (stays k (f.taken x.name ∙ now_taken (p.at.taken x.name) (decided p.what x.name) h)) ∙ e)
    ahead_by {p = p} (fails_it c) f k t more a e =
        more (f.taken x.name ∙ now_untaken (decided p.what x.name) c t) (other_declares c a)

    pub never_ahead : {c last : Context} {ds : List Declaration} {ps : List Placed} → AllFollow exports c ds ps last
        → c.taken x.name ≡ false → AnyDeclares ds x.name → last.names x ≡ Ahead → ⊥
    never_ahead nothing_follows t a e = elim a.1 [ ]
    never_ahead (one_follows {p = p} s f k) t a e =
        ahead_by (decided p.what x.name) f k t (λ u b. never_ahead k u b e) a e
