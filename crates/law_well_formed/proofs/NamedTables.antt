-- Declarations keep the tables of a scope, and which module it is of.
use Rattle.std.proofs.Common.{◌≡◌, ℕ, List, Result, Ok, Err, refl, ◌∙◌}
use Rattle.std.specs.List.{fold}
use Rattle.m2_tree.specs.declared.decl.Import.{Import}
use Rattle.m2_tree.specs.declared.decl.Def.{Def}
use Rattle.typed_tree.specs.declared.table.Table.{Table}
use Rattle.typed_tree.specs.declared.types.TypeNo.{TypeNo}
use Rattle.check_scope.specs.Elaborated.{Gathers}
use Rattle.check_scope.specs.Scopes.{State}
use Rattle.check_scope.specs.declared.scope.Scope.{Scope}
use Rattle.check_definition.specs.Marking.{marked_def}
use Rattle.check_definition.specs.Declare.{with_variable_type, with_procedure_type, with_def}
use Rattle.check_definition.specs.Importing.{with_import}
use Rattle.law_folds.proofs.TypeSteps.{by_shapes}
use Rattle.law_folds.proofs.Orders.{IsOrder, steps}
use Rattle.law_folds.proofs.MarkSteps.{KeepsMarks}
use Rattle.law_folds.proofs.MarkSteps as fold_marks
use Rattle.law_folds.proofs.DefinitionSteps.{KeepsDefinitions}
use Rattle.law_folds.proofs.DefinitionSteps as fold_definitions
use Rattle.law_folds.proofs.ImportSteps.{KeepsImports, imports_keep}

module _ {T : Type 0} where
  abbrev pub kept : Scope T → List Table × ℕ
  kept s = (s.tables, s.types.home)

  abbrev pub Keeps : Scope T → Scope T → Type 0
  Keeps s s' = kept s' ≡ kept s

  order : IsOrder {T = T} Keeps
  order = record { same = λ s. refl; next = λ a b c p q. q ∙ p }

  module _ {A X : Type 0} (at : A → Scope T) (f : A → X → A) (k : (a : A) (x : X) → Keeps (at a) (at (f a x))) where
    pub fold_keeps : (xs : List X) (a : A) → Keeps (at a) (at (fold f a xs))
    fold_keeps = steps order at f k

  -- ---- marks

  pub marks : KeepsMarks {T = T} Keeps
  marks = record { order = order; later = λ s name e. refl; ahead = λ s name e. refl }

pub def_marks : (T : Type 0) (s : Scope T) (d : Def) → Keeps s (marked_def s d)
def_marks T = fold_marks.def_marks marks

-- ---- types that are made

module _ {T : Type 0} where
  pub variable_type_keeps : (s : Scope T) (t : Result TypeNo T) → Keeps s (with_variable_type s t)
  variable_type_keeps s (Ok t) = refl
  variable_type_keeps s (Err e) = refl

  pub procedure_type_keeps : (s : Scope T) (t : Result TypeNo T) → Keeps s (with_procedure_type s t)
  procedure_type_keeps s (Ok t) = refl
  procedure_type_keeps s (Err e) = refl

module _ (g : Gathers) where
  pub definitions : KeepsDefinitions g Keeps
  definitions = record {
    names = record {
      types = by_shapes g (record { order = order; shaped = λ s m. refl; listed = λ s name t n e. refl });
      begun = λ s name e. refl;
      constant_ends = λ s c e. refl;
      type_ends = λ s name t n e. refl;
    };
    varied = variable_type_keeps;
    variable_ends = λ s name t e. variable_type_keeps s t;
    headed = procedure_type_keeps;
    procedure = λ s name t e. procedure_type_keeps s t;
  }

  pub def_keeps : (st : State (Unit {0}) g.Reported) (d : Def) → Keeps st.0 (with_def g st d).0
  def_keeps = fold_definitions.def_keeps g definitions

  -- ---- imports

  imports : KeepsImports g Keeps
  imports = record { order = order; modules = λ s name n e. refl; exports = λ s name n m e. refl }

  pub import_keeps : (modules : List (List ℕ × ℕ)) (is : List Import) (st : State (Unit {0}) g.Reported)
      → Keeps st.0 (fold (with_import g modules) st is).0
  import_keeps = imports_keep g imports
