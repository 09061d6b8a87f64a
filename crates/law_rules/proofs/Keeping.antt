-- Declarations keep what holds of the names of a scope, if it holds with one name more.
use Rattle.std.proofs.Common.{ℕ, List, Result, Ok, Err}
use Rattle.std.specs.List.{fold}
use Rattle.m2_tree.specs.declared.decl.Def.{Def}
use Rattle.typed_tree.specs.declared.types.TypeNo.{TypeNo}
use Rattle.typed_tree.specs.Names.{enter_name}
use Rattle.check_scope.specs.declared.known.Known.{Known}
use Rattle.check_scope.specs.declared.known.Known.TheVariants.{Begun}
use Rattle.check_scope.specs.declared.scope.Scope.{Scope}
use Rattle.check_scope.specs.Elaborated.{Gathers}
use Rattle.check_scope.specs.Scopes.{State}
use Rattle.check_definition.specs.Declare.{with_variable_type, with_procedure_type, with_def}
use Rattle.law_folds.proofs.TypeSteps.{by_shapes}
use Rattle.law_folds.proofs.Orders.{fact}
use Rattle.law_folds.proofs.DefinitionSteps.{KeepsDefinitions}
use Rattle.law_folds.proofs.DefinitionSteps as all_definitions

module _ (g : Gathers) (P : List (List ℕ × Known g.Reported) → Type 0)
    (more : (name : List ℕ) (k : Known g.Reported) (es : List (List ℕ × Known g.Reported)) → P es
    → P (enter_name name k es)) where
  abbrev Stays : Scope g.Reported → Scope g.Reported → Type 0
  Stays s t = P s.own → P t.own

  varied : (s : Scope g.Reported) (t : Result TypeNo g.Reported) → Stays s (with_variable_type s t)
  varied s (Ok t) h = h
  varied s (Err e) h = h

  headed : (s : Scope g.Reported) (t : Result TypeNo g.Reported) → Stays s (with_procedure_type s t)
  headed s (Ok t) h = h
  headed s (Err e) h = h

  definitions : KeepsDefinitions g Stays
  definitions = record {
    names = record {
      types = by_shapes g (record {
        order = fact (λ s. P s.own);
        shaped = λ s m h. h;
        listed = λ s name t n e h. more name _ s.own h;
      });
      begun = λ s name e h. more name Begun s.own h;
      constant_ends = λ s c e h. more c.name.name _ s.own h;
      type_ends = λ s name t n e h. more name _ s.own h;
    };
    varied = varied;
    variable_ends = λ s name t e h. more name _ (with_variable_type s t).own (varied s t h);
    headed = headed;
    procedure = λ s name t e h. more name _ (with_procedure_type s t).own (headed s t h);
  }

  pub defs_keep : (ds : List Def) (st : State (Unit {0}) g.Reported) → Stays st.0 (fold (with_def g) st ds).0
  defs_keep = all_definitions.defs_keep g definitions
