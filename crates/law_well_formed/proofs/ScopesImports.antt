-- Imports lead from scopes to scopes, where the modules are open and what they export is formed.
use Rattle.std.proofs.Common.{◌≡◌, ℕ, Bool, true, false, cond, List, [], ◌∷◌, take, drop, Option, Some, None, Result, Ok, refl, sym, subst, zero, suc}
use Rattle.std.specs.Prelude.{slice_get}
use Rattle.std.specs.List.{fold}
use Rattle.m2_rule.specs.declared.rule.Rule.TheVariants as rule
use Rattle.m2_tree.specs.declared.pos.Pos.{Pos}
use Rattle.m2_tree.specs.declared.name.Ident.{Ident}
use Rattle.m2_tree.specs.declared.decl.Import.{Import}
use Rattle.typed_tree.specs.declared.meaning.Meaning.{Meaning}
use Rattle.typed_tree.specs.declared.meaning.Meaning.TheVariants as meaning
use Rattle.typed_tree.specs.declared.table.Table.{Table}
use Rattle.typed_tree.specs.declared.typed_module.TypedModule.{TypedModule}
use Rattle.typed_tree.specs.Names.{find_name, place_of}
use Rattle.check_scope.specs.Elaborated.{Gathers, report}
use Rattle.check_scope.specs.Scopes.{State, is_free, with_known, is_again, import_name}
use Rattle.check_scope.specs.declared.known.Known.{Known}
use Rattle.check_scope.specs.declared.known.Known.TheVariants.{Declared}
use Rattle.check_scope.specs.declared.known.Origin.{Origin}
use Rattle.check_scope.specs.declared.known.Origin.TheVariants.{Module, Export}
use Rattle.check_scope.specs.declared.scope.Scope.{Scope}
use Rattle.check_definition.specs.Importing.{module_found, with_module_as, with_module_name, with_entry, brings_in, reported_of_taken, unless_taken, from_place, with_from, exports_of, from_module, with_imports, with_import}
use Rattle.law_well_formed.specs.Formed.{fine}
use Rattle.law_well_formed.specs.FormedScopes.{is_awaiting, FormedKnown, Leads, ExportsFormed, OpensNames, OpensImports}
use Rattle.law_well_formed.proofs.ScopesGrowth.{free_unheaded, leads_refl, leads_then, known_leads}

module _ (m : TypedModule) (opens : ℕ → Bool) (g : Gathers) where
  abbrev Goes : Scope g.Reported → Scope g.Reported → Type 0
  Goes s s' = Leads m opens s s'

  free_by : (s : Scope g.Reported) (at : Pos) (name : List ℕ) (k : Known g.Reported) (b : Bool)
      → (b ≡ true → Goes s (with_known name k s))
      → Goes s (cond {A = State (Unit {0}) g.Reported} b (with_known name k s, Ok tt)
      (s, report g at rule.DeclaredTwice)).0
  free_by s at name k true p = p refl
  free_by s at name k false p = leads_refl m opens s

  again_by : (s : Scope g.Reported) (b : Bool) (st : State (Unit {0}) g.Reported) → Goes s st.0
      → Goes s (cond {A = State (Unit {0}) g.Reported} b (s, Ok tt) st).0
  again_by s true st p = leads_refl m opens s
  again_by s false st p = p

  imported_leads : (s : Scope g.Reported) (at : Pos) (name : List ℕ) (o : Origin) (r : Result Meaning g.Reported)
      → is_awaiting (Declared o r) ≡ false → FormedKnown m opens (Declared o r) → Goes s (import_name g s at name o r).0
  imported_leads s at name o r a p =
      again_by s (is_again (find_name name s.own) o) _
      (free_by s at name (Declared o r) (is_free (find_name name s.own))
      (λ e. known_leads m opens s name (Declared o r) (free_unheaded (find_name name s.own) e) a (λ h. p)))

  -- ---- IMPORT M

  name_by : (s : Scope g.Reported) (name : Ident) (o : Option ℕ) → OpensNames opens o
      → Goes s (with_module_as g s name (module_found g name.pos o)).0
  name_by s name None k = leads_refl m opens s
  name_by s name (Some n) k = imported_leads s name.pos name.name (Module n) (Ok (meaning.Module n)) refl
      (fine (meaning.Module n) k)

  names_lead : (modules : List (List ℕ × ℕ)) (names : List Ident) (st : State (Unit {0}) g.Reported)
      → OpensImports opens modules names → Goes st.0 (fold (with_module_name g modules) st names).0
  names_lead modules [] st k = leads_refl m opens st.0
  names_lead modules (x ∷ xs) st k = leads_then m opens (name_by st.0 x (find_name x.name modules) k.0)
      (names_lead modules xs (with_module_name g modules st x) k.1)

  -- ---- FROM M IMPORT x

  entries_lead : (at : Pos) (n : ℕ) (es : List (List ℕ × Meaning)) (st : State (Unit {0}) g.Reported)
      → ExportsFormed m opens es → Goes st.0 (fold (with_entry g at n) st es).0
  entries_lead at n [] st k = leads_refl m opens st.0
  entries_lead at n (e ∷ es) st k = leads_then m opens
      (imported_leads st.0 at e.0 (Export n) (Ok e.1) refl (fine e.1 k.0))
      (entries_lead at n es (with_entry g at n st e) k.1)

  taken_formed : (n : ℕ) (es : List (List ℕ × Meaning)) → ExportsFormed m opens es → ExportsFormed m opens (take n es)
  taken_formed zero es k = tt
  taken_formed (suc n) [] k = tt
  taken_formed (suc n) (e ∷ es) k = (k.0, taken_formed n es k.1)

  dropped_formed : (n : ℕ) (es : List (List ℕ × Meaning)) → ExportsFormed m opens es → ExportsFormed m opens (drop n es)
  dropped_formed zero es k = k
  dropped_formed (suc n) [] k = tt
  dropped_formed (suc n) (e ∷ es) k = dropped_formed n es k.1

  unless_leads : (s : Scope g.Reported) (at : Pos) (n : ℕ) (es : List (List ℕ × Meaning)) (i : ℕ)
      (o : Option (Result (Unit {0}) g.Reported)) → ExportsFormed m opens es → Goes s (unless_taken g s at n es i o).0
  unless_leads s at n es i (Some j) k = leads_refl m opens s
  unless_leads s at n es i None k = entries_lead at n (take (brings_in (slice_get es i)) (drop i es)) (s, Ok tt)
      (taken_formed (brings_in (slice_get es i)) (drop i es) (dropped_formed i es k))

  place_leads : (s : Scope g.Reported) (name : Ident) (n : ℕ) (es : List (List ℕ × Meaning)) (o : Option ℕ)
      → ExportsFormed m opens es → Goes s (from_place g s name n es o).0
  place_leads s name n es None k = leads_refl m opens s
  place_leads s name n es (Some i) k = unless_leads s name.pos n es i
      (reported_of_taken g name.pos n (find_name name.name s.own)) k

  from_lead : (n : ℕ) (es : List (List ℕ × Meaning)) (names : List Ident) (st : State (Unit {0}) g.Reported)
      → ExportsFormed m opens es → Goes st.0 (fold (with_from g n es) st names).0
  from_lead n es [] st k = leads_refl m opens st.0
  from_lead n es (x ∷ xs) st k = leads_then m opens (place_leads st.0 x n es (place_of x.name es) k)
      (from_lead n es xs (with_from g n es st x) k)

  -- what open modules export is formed
  abbrev pub OpenTables : List Table → Type 0
  OpenTables tables = (n : ℕ) → opens n ≡ true → ExportsFormed m opens (exports_of (slice_get tables n))

  module_by : (at : Pos) (st : State (Unit {0}) g.Reported) (names : List Ident) (o : Option ℕ) → OpenTables st.0.tables
      → OpensNames opens o → Goes st.0 (from_module g (module_found g at o) st names).0
  module_by at st names None t k = leads_refl m opens st.0
  module_by at st names (Some n) t k = from_lead n (exports_of (slice_get st.0.tables n)) names st (t n k)

  abbrev pub OpensImport : List (List ℕ × ℕ) → Option Ident → List Ident → Type 0
  OpensImport modules None names = OpensImports opens modules names
  OpensImport modules (Some n) names = OpensNames opens (find_name n.name modules)

  import_leads : (modules : List (List ℕ × ℕ)) (st : State (Unit {0}) g.Reported) (o : Option Ident)
      (names : List Ident) → OpenTables st.0.tables → OpensImport modules o names
      → Goes st.0 (with_imports g modules st o names).0
  import_leads modules st None names t k = names_lead modules names st k
  import_leads modules st (Some n) names t k = module_by n.pos st names (find_name n.name modules) t k

  abbrev pub OpensAll : List (List ℕ × ℕ) → List Import → Type 0
  OpensAll modules [] = Unit {0}
  OpensAll modules (i ∷ is) = OpensImport modules i.from i.names × OpensAll modules is

  pub imports_lead : (modules : List (List ℕ × ℕ)) (is : List Import) (st : State (Unit {0}) g.Reported)
      → OpenTables st.0.tables → OpensAll modules is → Goes st.0 (fold (with_import g modules) st is).0
  imports_lead modules [] st t k = leads_refl m opens st.0
  imports_lead modules (i ∷ is) st t k =
      let one = import_leads modules st i.from i.names t k.0 in
      leads_then m opens one (imports_lead modules is (with_import g modules st i)
      (subst (λ (ts : List Table). OpenTables ts) (sym one.tables) t) k.1)
