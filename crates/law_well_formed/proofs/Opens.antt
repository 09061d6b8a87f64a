-- Which modules names may stand for: Console, and those that are imported.
use Rattle.std.proofs.Common.{◌≡◌, ℕ, ◌==◌, Bool, true, false, ◌||◌, cond, List, [], ◌∷◌, ◌++◌, Option, Some, None, refl, ap, subst, ◌∙◌}
use Rattle.std.specs.Prelude.{slice_get, codes}
use Rattle.std.specs.List.{fold, list_any, AllByRecursion}
use Rattle.std.proofs.lemmas.List.Folds.{list_any-append}
use Rattle.m2_tree.specs.declared.name.Ident.{Ident}
use Rattle.m2_tree.specs.declared.decl.Import.{Import}
use Rattle.typed_tree.specs.declared.table.Table.{Table}
use Rattle.typed_tree.specs.declared.typed_module.Imported.{Imported}
use Rattle.typed_tree.specs.declared.typed_module.TypedModule.{TypedModule}
use Rattle.m2_tree.specs.Names.{same_name}
use Rattle.typed_tree.specs.Names.{find_name, enter_name}
use Rattle.check_scope.specs.Elaborated.{Gathers}
use Rattle.check_definition.specs.Export.{with_table_if, with_place_if, with_imported, with_imports_of, with_import_of}
use Rattle.check_body.specs.Imports.{definition_imports, all_imports, imported_as, with_table_of, with_place_of, with_module_of, typed_imports}
use Rattle.law_well_formed.specs.FormedScopes.{OpensNames, OpensImports}
use Rattle.law_well_formed.proofs.ScopesDeclarations.{same_home}
use Rattle.law_well_formed.proofs.ScopesImports.{OpensImport, OpensAll}
use Rattle.law_well_formed.proofs.ImportsLists.{same_refl, same_is, or_left, or_right}
use Rattle.law_well_formed.specs.FormedModules.{is_console_table}

abbrev pub open_table : List Imported → Option Table → Bool
open_table is None = true
open_table is (Some t) = is_console_table t || list_any (λ i. i.number == t.number) is

abbrev pub open_in : List Table → List Imported → ℕ → Bool
open_in tables is k = open_table is (slice_get tables k)

-- ---- names that stand in a list

abbrev has : List ℕ → List (List ℕ × ℕ) → Bool
has name es = list_any (λ e. same_name name e.0) es

or_more : (a b c : Bool) → (a || b) ≡ true → (b ≡ true → c ≡ true) → (a || c) ≡ true
or_more true b c h k = refl
or_more false b c h k = k h

any_cond : {A : Type 0} (p : A → Bool) (b : Bool) (xs ys : List A)
    → list_any p (cond b xs ys) ≡ cond b (list_any p xs) (list_any p ys)
any_cond p true xs ys = refl
any_cond p false xs ys = refl

now_step : (b rest new : Bool) → new ≡ true → cond b (b || rest) (b || new) ≡ true
now_step true rest new e = refl
now_step false rest new e = e

has_now : (name : List ℕ) (v : ℕ) (es : List (List ℕ × ℕ)) → has name (enter_name name v es) ≡ true
has_now name v [] = or_left (same_name name name) false (same_refl name)
has_now name v (e ∷ es) =
    any_cond (λ (e : List ℕ × ℕ). same_name name e.0) (same_name name e.0) ((e.0, v) ∷ es) (e ∷ enter_name name v es)
    ∙ now_step (same_name name e.0) (has name es) (has name (enter_name name v es)) (has_now name v es)

still_step : (b here rest new : Bool) → (here || rest) ≡ true → (rest ≡ true → new ≡ true)
    → cond b (here || rest) (here || new) ≡ true
still_step true here rest new e k = e
still_step false true rest new e k = refl
still_step false false rest new e k = k e

has_still : (name other : List ℕ) (v : ℕ) (es : List (List ℕ × ℕ)) → has name es ≡ true
    → has name (enter_name other v es) ≡ true
has_still name other v [] h = absurd cc
has_still name other v (e ∷ es) h =
    any_cond (λ (e : List ℕ × ℕ). same_name name e.0) (same_name other e.0) ((e.0, v) ∷ es) (e ∷ enter_name other v es)
    ∙ still_step (same_name other e.0) (same_name name e.0) (has name es) (has name (enter_name other v es)) h
    (has_still name other v es)

-- ---- the names that are imported

module _ (modules : List (List ℕ × ℕ)) (tables : List Table) where
  -- a module of this name is known
  abbrev Stands : List ℕ → Table → Type 0
  Stands name t = (k : ℕ) × (find_name name modules ≡ Some k) × (slice_get tables k ≡ Some t)

  table_still : (name other : List ℕ) (so : List (List ℕ × ℕ)) (o : Option Table) → has name so ≡ true
      → has name (with_table_if so other o) ≡ true
  table_still name other so None h = h
  table_still name other so (Some t) h = has_still name other t.number so h

  place_still : (name other : List ℕ) (so : List (List ℕ × ℕ)) (o : Option ℕ) → has name so ≡ true
      → has name (with_place_if tables so other o) ≡ true
  place_still name other so None h = h
  place_still name other so (Some k) h = table_still name other so (slice_get tables k) h

  names_still : (name : List ℕ) (names : List Ident) (so : List (List ℕ × ℕ)) → has name so ≡ true
      → has name (fold (with_imported modules tables) so names) ≡ true
  names_still name [] so h = h
  names_still name (x ∷ xs) so h = names_still name xs (with_imported modules tables so x)
      (place_still name x.name so (find_name x.name modules) h)

  import_still : (name : List ℕ) (from : Option Ident) (names : List Ident) (so : List (List ℕ × ℕ))
      → has name so ≡ true → has name (with_imports_of modules tables so from names) ≡ true
  import_still name None names so h = names_still name names so h
  import_still name (Some m) names so h = place_still name m.name so (find_name m.name modules) h

  imports_still : (name : List ℕ) (is : List Import) (so : List (List ℕ × ℕ)) → has name so ≡ true
      → has name (fold (with_import_of modules tables) so is) ≡ true
  imports_still name [] so h = h
  imports_still name (i ∷ is) so h = imports_still name is (with_import_of modules tables so i)
      (import_still name i.from i.names so h)

  name_now : (name : List ℕ) (so : List (List ℕ × ℕ)) (t : Table) → Stands name t
      → has name (with_place_if tables so name (find_name name modules)) ≡ true
  name_now name so t s =
      ap (λ (o : Option ℕ). has name (with_place_if tables so name o)) s.1
      ∙ ap (λ (o : Option Table). has name (with_table_if so name o)) s.2
      ∙ has_now name t.number so

  -- ---- the modules that are imported

  module _ (t : Table) where
    abbrev is_it : Imported → Bool
    is_it i = i.number == t.number

    abbrev IsOpen : List Imported → Type 0
    IsOpen is = open_table is (Some t) ≡ true

    more_open : (so : List Imported) (x : Imported) → IsOpen so → IsOpen (so ++ x ∷ [])
    more_open so x h = or_more (is_console_table t) (list_any is_it so) (list_any is_it (so ++ x ∷ [])) h
        (λ e. list_any-append is_it so (x ∷ []) ∙ or_left (list_any is_it so) (list_any is_it (x ∷ [])) e)

    cond_open : (b : Bool) (so : List Imported) (x : Imported) → IsOpen so → IsOpen (cond b so (so ++ x ∷ []))
    cond_open true so x h = h
    cond_open false so x h = more_open so x h

    table_open : (so : List Imported) (o : Option Table) → IsOpen so → IsOpen (with_table_of so o)
    table_open so None h = h
    table_open so (Some u) h = cond_open (is_console_table u) so (imported_as u) h

    place_open : (so : List Imported) (e : List ℕ × ℕ) (o : Option ℕ) → IsOpen so → IsOpen (with_place_of tables so e o)
    place_open so e None h = cond_open (same_name e.0 (codes "Console")) so
        (record { name = e.0; number = e.1; variables = [] }) h
    place_open so e (Some k) h = table_open so (slice_get tables k) h

    all_open : (names : List (List ℕ × ℕ)) (so : List Imported) → IsOpen so
        → IsOpen (fold (with_module_of modules tables) so names)
    all_open [] so h = h
    all_open (e ∷ es) so h = all_open es (with_module_of modules tables so e)
        (place_open so e (find_name e.0 modules) h)

    new_open : (b : Bool) (so : List Imported) → (b || list_any is_it (cond b so (so ++ imported_as t ∷ []))) ≡ true
    new_open true so = refl
    new_open false so =
        list_any-append is_it so (imported_as t ∷ [])
        ∙ or_right (list_any is_it so) (list_any is_it (imported_as t ∷ []))
        (or_left (t.number == t.number) false (same_home t.number t.number refl))

    now_open : (name : List ℕ) (v : ℕ) (so : List Imported) → Stands name t
        → IsOpen (with_module_of modules tables so (name, v))
    now_open name v so s =
        ap (λ (o : Option ℕ). open_table (with_place_of tables so (name, v) o) (Some t)) s.1
        ∙ ap (λ (o : Option Table). open_table (with_table_of so o) (Some t)) s.2
        ∙ new_open (is_console_table t) so

    name_by : (name : List ℕ) (e : List ℕ × ℕ) (es : List (List ℕ × ℕ)) (so : List Imported) (b : Bool)
        → same_name name e.0 ≡ b → Stands name t → (rest : Bool)
        → (rest ≡ true → IsOpen (fold (with_module_of modules tables) (with_module_of modules tables so e) es))
        → (b || rest) ≡ true → IsOpen (fold (with_module_of modules tables) (with_module_of modules tables so e) es)
    name_by name e es so true q s rest k h =
        all_open es (with_module_of modules tables so e)
        (now_open e.0 e.1 so (subst (λ (n : List ℕ). Stands n t) (same_is name e.0 q) s))
    name_by name e es so false q s rest k h = k h

    name_open : (name : List ℕ) (names : List (List ℕ × ℕ)) (so : List Imported) → Stands name t → has name names ≡ true
        → IsOpen (fold (with_module_of modules tables) so names)
    name_open name [] so s h = absurd cc
    name_open name (e ∷ es) so s h = name_by name e es so (same_name name e.0) refl s (has name es)
        (λ r. name_open name es (with_module_of modules tables so e) s r) h

  -- ---- all imports

  module _ (all : List (List ℕ × ℕ)) where
    -- what stands under a name that is imported is imported
    abbrev IsIn : List ℕ → Type 0
    IsIn name = (t : Table) → Stands name t → has name all ≡ true

    names_in : (names : List Ident) (so : List (List ℕ × ℕ))
        → ((name : List ℕ) → has name (fold (with_imported modules tables) so names) ≡ true → has name all ≡ true)
        → AllByRecursion (λ x. IsIn x.name) names
    names_in [] so k = tt
    names_in (x ∷ xs) so k = (
      λ t s. k x.name
          (names_still x.name xs (with_imported modules tables so x) (name_now x.name so t s)),
      names_in xs
          (with_imported modules tables so x) k,
    )

    abbrev ImportIn : Option Ident → List Ident → Type 0
    ImportIn None names = AllByRecursion (λ x. IsIn x.name) names
    ImportIn (Some m) names = IsIn m.name

    import_in : (from : Option Ident) (names : List Ident) (so : List (List ℕ × ℕ))
        → ((name : List ℕ) → has name (with_imports_of modules tables so from names) ≡ true → has name all ≡ true)
        → ImportIn from names
    import_in None names so k = names_in names so k
    import_in (Some m) names so k = λ t s. k m.name (name_now m.name so t s)

    imports_in : (is : List Import) (so : List (List ℕ × ℕ))
        → ((name : List ℕ) → has name (fold (with_import_of modules tables) so is) ≡ true → has name all ≡ true)
        → AllByRecursion (λ i. ImportIn i.from i.names) is
    imports_in [] so k = tt
    imports_in (i ∷ is) so k = (
      import_in i.from i.names so
          (λ name h. k name (imports_still name is (with_import_of modules tables so i) h)),
      imports_in is
          (with_import_of modules tables so i) k,
    )

    abbrev opened : ℕ → Bool
    opened = open_in tables (typed_imports modules tables all)

    table_known : (name : List ℕ) (k : ℕ) (o : Option Table) → slice_get tables k ≡ o → find_name name modules ≡ Some k
        → IsIn name → open_table (typed_imports modules tables all) o ≡ true
    table_known name k None e f i = refl
    table_known name k (Some t) e f i = name_open t name all [] (k, f, e) (i t (k, f, e))

    name_opens : (name : List ℕ) (o : Option ℕ) → find_name name modules ≡ o → IsIn name → OpensNames opened o
    name_opens name None e i = tt
    name_opens name (Some k) e i = table_known name k (slice_get tables k) refl e i

    names_open : (names : List Ident) → AllByRecursion (λ x. IsIn x.name) names → OpensImports opened modules names
    names_open [] k = tt
    names_open (x ∷ xs) k = (name_opens x.name (find_name x.name modules) refl k.0, names_open xs k.1)

    module _ (m : TypedModule) (g : Gathers) where
      import_opens : (from : Option Ident) (names : List Ident) → ImportIn from names
          → OpensImport m opened g modules from names
      import_opens None names k = names_open names k
      import_opens (Some x) names k = name_opens x.name (find_name x.name modules) refl k

      imports_open : (is : List Import) → AllByRecursion (λ i. ImportIn i.from i.names) is
          → OpensAll m opened g modules is
      imports_open [] k = tt
      imports_open (i ∷ is) k = (import_opens i.from i.names k.0, imports_open is k.1)

  pub opens_all : (m : TypedModule) (g : Gathers) (own : Option Table) (is : List Import)
      → OpensAll m (open_in tables (typed_imports modules tables (all_imports modules tables own is))) g modules is
  opens_all m g own is = imports_open (all_imports modules tables own is) m g is
      (imports_in (all_imports modules tables own is) is (definition_imports own) (λ name h. h))
