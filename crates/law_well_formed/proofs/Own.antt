-- Declarations lead from scopes whose own names are the module's own to such scopes.
use Rattle.std.proofs.Common.{◌≡◌, ℕ, false, List, length, Result, Ok, Err, refl, sym, subst, ◌∙◌}
use Rattle.std.specs.Prelude.{IfOk}
use Rattle.std.specs.List.{fold, AllByRecursion}
use Rattle.m2_tree.specs.declared.decl.Import.{Import}
use Rattle.m2_tree.specs.declared.decl.Def.{Def}
use Rattle.typed_tree.specs.declared.meaning.Meaning.{Meaning}
use Rattle.typed_tree.specs.declared.meaning.Meaning.TheVariants as meaning
use Rattle.typed_tree.specs.declared.meaning.Value.{Value}
use Rattle.typed_tree.specs.declared.shape.Made.{Made}
use Rattle.typed_tree.specs.declared.types.TypeNo.{TypeNo}
use Rattle.check_scope.specs.Elaborated.{Gathers}
use Rattle.check_scope.specs.Scopes.{State, with_known, heading_means}
use Rattle.check_scope.specs.declared.known.Origin.{Origin}
use Rattle.check_scope.specs.declared.known.Origin.TheVariants.{Module, Export}
use Rattle.check_scope.specs.declared.known.Known.{Known}
use Rattle.check_scope.specs.declared.known.Known.TheVariants.{Later, Ahead, Begun, Headed, Declared}
use Rattle.check_scope.specs.declared.known.Origin.TheVariants.{Here}
use Rattle.check_scope.specs.declared.scope.Scope.{Scope}
use Rattle.check_const.specs.Parts.{constant}
use Rattle.check_expr.specs.Meanings.{part}
use Rattle.check_type_expr.specs.Made.{enumeration_constant, with_shape}
use Rattle.check_definition.specs.Marking.{marked_def}
use Rattle.check_definition.specs.Declare.{constant_meaning, type_meaning, variable_meaning, with_variable_type, procedure_meaning, with_procedure_type, with_def}
use Rattle.check_definition.specs.Importing.{with_import}
use Rattle.law_folds.proofs.TypeSteps.{by_shapes}
use Rattle.law_folds.proofs.Orders.{IsOrder, steps}
use Rattle.law_folds.proofs.MarkSteps.{KeepsMarks}
use Rattle.law_folds.proofs.MarkSteps.{def_marks as marked_def_keeps}
use Rattle.law_folds.proofs.DefinitionSteps.{KeepsDefinitions, def_keeps}
use Rattle.law_folds.proofs.ImportSteps.{KeepsImports, imports_keep}
use Rattle.law_well_formed.proofs.ImportsLists.{each_entered}
use Rattle.law_well_formed.specs.FormedTables.{IsExport}

-- what is declared here is the module's own
abbrev pub OwnFrom : {T : Type 0} → (home : ℕ) → Origin → Result Meaning T → Type 0
OwnFrom home Here r = IfOk r (IsExport home)
OwnFrom home (Module k) r = Unit {0}
OwnFrom home (Export k) r = Unit {0}

abbrev pub OwnKnown : {T : Type 0} → (home : ℕ) → Known T → Type 0
OwnKnown home Later = Unit {0}
OwnKnown home Ahead = Unit {0}
OwnKnown home Begun = Unit {0}
OwnKnown home (Headed r) = IfOk r (IsExport home)
OwnKnown home (Declared o r) = OwnFrom home o r

abbrev pub AreOwn : {T : Type 0} → (home : ℕ) → List (List ℕ × Known T) → Type 0
AreOwn home ns = AllByRecursion (λ e. OwnKnown home e.1) ns

pub record Leads {T : Type 0} (s s' : Scope T) : Type 0 where
  pub home : s'.types.home ≡ s.types.home
  pub own : AreOwn s.types.home s.own → AreOwn s.types.home s'.own

module _ {T : Type 0} where
  pub same_leads : (s : Scope T) → Leads s s
  same_leads s = record { home = refl; own = λ p. p }

  infixl 10 ◌⨾◌
  pub ◌⨾◌ : {a b c : Scope T} → Leads b c → Leads a b → Leads a c
  ◌⨾◌ {a} {b} {c} q p = record {
    home = q.home ∙ p.home;
    own = λ all. subst (λ (h : ℕ). AreOwn {T = T} h c.own) p.home
        (q.own (subst (λ (h : ℕ). AreOwn {T = T} h b.own) (sym p.home) (p.own all)));
  }

  pub known_leads : (name : List ℕ) (k : Known T) (s : Scope T) → OwnKnown s.types.home k
      → Leads s (with_known name k s)
  known_leads name k s p = record {
    home = refl;
    own =
        λ all. each_entered (λ (e : List ℕ × Known T). OwnKnown s.types.home e.1) name k s.own (λ other e. p) all;
  }

  order : IsOrder {T = T} Leads
  order = record { same = same_leads; next = λ a b c p q. q ⨾ p }

  marks : KeepsMarks {T = T} Leads
  marks = record {
    order = order;
    later = λ s name e. known_leads name Later s tt;
    ahead = λ s name e. known_leads name Ahead s tt;
  }

  module _ {A X : Type 0} (at : A → Scope T) (f : A → X → A) (k : (a : A) (x : X) → Leads (at a) (at (f a x))) where
    pub fold_leads : (xs : List X) (a : A) → Leads (at a) (at (fold f a xs))
    fold_leads = steps order at f k

pub def_marks : (T : Type 0) (s : Scope T) (d : Def) → Leads s (marked_def s d)
def_marks T = marked_def_keeps marks

-- ---- types that are made

module _ {T : Type 0} where
  shape_leads : (s : Scope T) (m : Made) → Leads s (with_shape s m)
  shape_leads s m = record { home = refl; own = λ p. p }

  variable_type_leads : (s : Scope T) (t : Result TypeNo T) → Leads s (with_variable_type s t)
  variable_type_leads s (Ok t) = record { home = refl; own = λ p. p }
  variable_type_leads s (Err e) = same_leads s

  procedure_type_leads : (s : Scope T) (t : Result TypeNo T) → Leads s (with_procedure_type s t)
  procedure_type_leads s (Ok t) = record { home = refl; own = λ p. p }
  procedure_type_leads s (Err e) = same_leads s

  variable_own : (s : Scope T) (n : ℕ) (t : Result TypeNo T)
      → IfOk (variable_meaning s.types.home n t) (IsExport (with_variable_type s t).types.home)
  variable_own s n (Ok t) = refl
  variable_own s n (Err e) = tt

  procedure_own : (s : Scope T) (n : ℕ) (t : Result TypeNo T)
      → IfOk (heading_means false (procedure_meaning s.types.home n t)) (IsExport (with_procedure_type s t).types.home)
  procedure_own s n (Ok t) = refl
  procedure_own s n (Err e) = tt

  constant_own : (home : ℕ) (v : Result Value T) → IfOk (constant_meaning v) (IsExport home)
  constant_own home (Ok v) = tt
  constant_own home (Err e) = tt

  type_own : (home : ℕ) (t : Result TypeNo T) (n : ℕ) → IfOk (type_meaning t n) (IsExport home)
  type_own home (Ok t) n = tt
  type_own home (Err e) n = tt

module _ (g : Gathers) where
  -- ---- declarations

  definitions : KeepsDefinitions g Leads
  definitions = record {
    names = record {
      types = by_shapes g (record {
        order = order;
        shaped = shape_leads;
        listed = λ s name t n e. known_leads name (Declared Here (Ok (enumeration_constant t n))) s tt;
      });
      begun = λ s name e. known_leads name Begun s tt;
      constant_ends = λ s c e. known_leads c.name.name _ s (constant_own s.types.home (constant g s (part g c.value)));
      type_ends = λ s name t n e. known_leads name _ s (type_own s.types.home t n);
    };
    varied = variable_type_leads;
    variable_ends = λ s name t e.
        known_leads name _ (with_variable_type s t) (variable_own s (length s.variables) t) ⨾ variable_type_leads s t;
    headed = procedure_type_leads;
    procedure = λ s name t e.
        known_leads name _ (with_procedure_type s t) (procedure_own s (length s.procedures) t)
        ⨾ procedure_type_leads s t;
  }

  pub def_leads : (st : State (Unit {0}) g.Reported) (d : Def) → Leads st.0 (with_def g st d).0
  def_leads = def_keeps g definitions

  -- ---- imports

  imports : KeepsImports g Leads
  imports = record {
    order = order;
    modules = λ s name n e. known_leads name (Declared (Module n) (Ok (meaning.Module n))) s tt;
    exports = λ s name n m e. known_leads name (Declared (Export n) (Ok m)) s tt;
  }

  pub import_leads : (modules : List (List ℕ × ℕ)) (is : List Import) (st : State (Unit {0}) g.Reported)
      → Leads st.0 (fold (with_import g modules) st is).0
  import_leads = imports_keep g imports
