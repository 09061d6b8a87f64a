-- Behind the declarations of a block all is known of the scopes in which their expressions are read again.
use Rattle.std.proofs.Common.{◌≡◌, ℕ, Bool, List, [], Option, Some, None, inl, inr, sym, ◌∙◌, length}
use Rattle.m2_tree.specs.declared.name.Ident.{Ident}
use Rattle.m2_tree.specs.declared.decl.Decl.{Decl}
use Rattle.typed_tree.specs.declared.types.TypeNo.{TypeNo}
use Rattle.typed_tree.specs.Names.{find_name}
use Rattle.check_scope.specs.declared.known.Known.{Known}
use Rattle.check_scope.specs.declared.scope.Scope.{Scope}
use Rattle.check_scope.specs.Elaborated.{Gathers}
use Rattle.def_typing.specs.Things.{Standing}
use Rattle.def_typing.specs.Declarations.{Declaration, declarations_of, AllStand}
use Rattle.law_typing.specs.Judging.{Judges}
use Rattle.law_typing.specs.Exact.{TakenAs, is_nested, IsAsBefore, as_before, has_heading, IsBlockExact}
use Rattle.law_typing.specs.Again.{ReadsAgain}
use Rattle.law_rules.proofs.Reading.{never_ahead}
use Rattle.law_rules.proofs.Turns.{in_turn, decls_turn}
use Rattle.law_rules.proofs.Insides.{untaken_is, reads_again}
use Rattle.law_rules.proofs.Placing.{behind_all, marks_behind, declared_keeps, declares_there}

module _ (g : Gathers) (j : Judges g) (exports : ℕ → Ident → Standing) (outside : Ident → Standing)
    (start : Scope g.Reported) (taken : List ℕ → Bool) (awaited : List ℕ → Option TypeNo)
    (takes : (n : List ℕ) → TakenAs g j (taken n) (awaited n) (find_name n start.own)) (no_withs : start.withs ≡ [])
    (ends : List ℕ) (first : ℕ) (ds : List Decl)
    (exact : IsBlockExact g j exports outside start taken awaited ends first ds) where
  abbrev block : List Declaration
  block = declarations_of ds

  abbrev there : Scope g.Reported
  there = behind_all g ends first start ds

  clash : {A : Type 0} {k : A} {o : Option A} → o ≡ None → o ≡ Some k → ⊥
  clash e f = let z = sym e ∙ f in absurd cc

  none_still : {o k : Option (Known g.Reported)} → IsAsBefore o k → o ≡ None → k ≡ None
  none_still as_before e = e
  none_still (has_heading p) e = absurd cc

  module _ (names : Ident → Standing)
      (all : AllStand start.types exports outside taken awaited (is_nested start) block exact.whole names) where
    pub block_again : ReadsAgain g j exports names there taken block (length start.own)
    block_again = let keeps = declared_keeps g ends first start ds in
        reads_again g j exports names start there taken awaited takes block start.level keeps.grows
        (λ n t a e. declares_there g j exports outside start taken awaited takes no_withs ends first ds n t a e)
        (λ n c e. none_still (exact.others n (λ t a. c a)) e)
        (λ n k e t. elim (keeps.entries n k e)
        [ inl q ↦ absurd (clash (untaken_is g j (takes n) t) q) | inr f ↦ f ])
        (exact.known names all) (keeps.withs ∙ no_withs)
        (λ name t a e. never_ahead start.types exports outside taken awaited (is_nested start) block exact.whole
        exact.in_text name t a (all name) e)
        (in_turn (decls_turn ds start) (marks_behind g ends first start ds).grows)
