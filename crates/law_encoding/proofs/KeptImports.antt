-- What one name more keeps, imports keep.
use Rattle.std.proofs.Common.{◌≡◌, refl, ℕ, Bool, true, false, cond, List, [], ◌∷◌, Option, Some, None, Result, Ok, Err}
use Rattle.std.specs.Prelude.{take, drop, slice_get}
use Rattle.std.specs.List.{fold}
use Rattle.m2_rule.specs.declared.rule.Rule.TheVariants as rule
use Rattle.m2_tree.specs.declared.pos.Pos.{Pos}
use Rattle.m2_tree.specs.declared.name.Ident.{Ident}
use Rattle.m2_tree.specs.declared.decl.Import.{Import}
use Rattle.typed_tree.specs.declared.meaning.Meaning.{Meaning}
use Rattle.typed_tree.specs.declared.meaning.Meaning.TheVariants as meaning
use Rattle.typed_tree.specs.Names.{find_name, place_of}
use Rattle.check_scope.specs.Elaborated.{Gathers, report}
use Rattle.check_scope.specs.Scopes.{State, is_free, with_known, is_again, import_name}
use Rattle.check_scope.specs.declared.known.Known.{Known}
use Rattle.check_scope.specs.declared.known.Known.TheVariants.{Declared}
use Rattle.check_scope.specs.declared.known.Origin.{Origin}
use Rattle.check_scope.specs.declared.known.Origin.TheVariants as origin
use Rattle.check_scope.specs.declared.scope.Scope.{Scope}
use Rattle.check_definition.specs.Importing.{module_named, with_module_as, with_module_name, with_entry, brings_in, reported_of_taken, unless_taken, from_place, with_from, exports_of, from_module, with_imports, with_import}

module _ (g : Gathers) (P : Scope g.Reported → Type 0)
    (named : (s : Scope g.Reported) (name : List ℕ) (k : Known g.Reported) → is_free (find_name name s.own) ≡ true → P s
    → P (with_known name k s)) where
  free_keeps : (s : Scope g.Reported) (at : Pos) (name : List ℕ) (k : Known g.Reported) (b : Bool)
      → (b ≡ true → P (with_known name k s)) → P s
      → P (cond {A = State (Unit {0}) g.Reported} b (with_known name k s, Ok tt) (s, report g at rule.DeclaredTwice)).0
  free_keeps s at name k true n h = n refl
  free_keeps s at name k false n h = h

  again_keeps : (s : Scope g.Reported) (x : State (Unit {0}) g.Reported) (b : Bool) → P s → P x.0
      → P (cond {A = State (Unit {0}) g.Reported} b (s, Ok tt) x).0
  again_keeps s x true h p = h
  again_keeps s x false h p = p

  imported_keeps : (s : Scope g.Reported) (at : Pos) (name : List ℕ) (o : Origin) (m : Result Meaning g.Reported) → P s
      → P (import_name g s at name o m).0
  imported_keeps s at name o m h = again_keeps s _ (is_again (find_name name s.own) o) h
      (free_keeps s at name (Declared o m) (is_free (find_name name s.own)) (λ e. named s name (Declared o m) e h) h)

  module_as_keeps : (s : Scope g.Reported) (name : Ident) (r : Result ℕ g.Reported) → P s
      → P (with_module_as g s name r).0
  module_as_keeps s name (Ok k) h = imported_keeps s name.pos name.name (origin.Module k) (Ok (meaning.Module k)) h
  module_as_keeps s name (Err e) h = h

  modules_keep : (modules : List (List ℕ × ℕ)) (names : List Ident) (st : State (Unit {0}) g.Reported) → P st.0
      → P (fold (with_module_name g modules) st names).0
  modules_keep modules [] st h = h
  modules_keep modules (x ∷ xs) st h = modules_keep modules xs (with_module_name g modules st x)
      (module_as_keeps st.0 x (module_named g modules x) h)

  entries_keep : (at : Pos) (k : ℕ) (es : List (List ℕ × Meaning)) (st : State (Unit {0}) g.Reported) → P st.0
      → P (fold (with_entry g at k) st es).0
  entries_keep at k [] st h = h
  entries_keep at k (e ∷ es) st h = entries_keep at k es (with_entry g at k st e)
      (imported_keeps st.0 at e.0 (origin.Export k) (Ok e.1) h)

  taken_keeps : (s : Scope g.Reported) (at : Pos) (k : ℕ) (es : List (List ℕ × Meaning)) (i : ℕ)
      (o : Option (Result (Unit {0}) g.Reported)) → P s → P (unless_taken g s at k es i o).0
  taken_keeps s at k es i (Some j) h = h
  taken_keeps s at k es i None h = entries_keep at k (take (brings_in (slice_get es i)) (drop i es)) (s, Ok tt) h

  place_keeps : (s : Scope g.Reported) (name : Ident) (k : ℕ) (es : List (List ℕ × Meaning)) (o : Option ℕ) → P s
      → P (from_place g s name k es o).0
  place_keeps s name k es None h = h
  place_keeps s name k es (Some i) h = taken_keeps s name.pos k es i
      (reported_of_taken g name.pos k (find_name name.name s.own)) h

  from_keeps : (k : ℕ) (es : List (List ℕ × Meaning)) (names : List Ident) (st : State (Unit {0}) g.Reported) → P st.0
      → P (fold (with_from g k es) st names).0
  from_keeps k es [] st h = h
  from_keeps k es (x ∷ xs) st h = from_keeps k es xs (with_from g k es st x)
      (place_keeps st.0 x k es (place_of x.name es) h)

  from_module_keeps : (r : Result ℕ g.Reported) (st : State (Unit {0}) g.Reported) (names : List Ident) → P st.0
      → P (from_module g r st names).0
  from_module_keeps (Ok k) st names h = from_keeps k (exports_of (slice_get st.0.tables k)) names st h
  from_module_keeps (Err e) st names h = h

  with_imports_keep : (modules : List (List ℕ × ℕ)) (st : State (Unit {0}) g.Reported) (o : Option Ident)
      (names : List Ident) → P st.0 → P (with_imports g modules st o names).0
  with_imports_keep modules st None names h = modules_keep modules names st h
  with_imports_keep modules st (Some m) names h = from_module_keeps (module_named g modules m) st names h

  pub imports_keep : (modules : List (List ℕ × ℕ)) (is : List Import) (st : State (Unit {0}) g.Reported) → P st.0
      → P (fold (with_import g modules) st is).0
  imports_keep modules [] st h = h
  imports_keep modules (i ∷ is) st h = imports_keep modules is (with_import g modules st i)
      (with_imports_keep modules st i.from i.names h)
