-- What a module imports: tables that jobs make, by their names and numbers.
use Rattle.std.proofs.Common.{◌≡◌, ◌⊎◌, inl, inr, ℕ, zero, suc, Bool, true, false, cond, List, [], ◌∷◌, ◌++◌, Option, Some, None, refl, sym, ap, subst, ◌∙◌}
use Rattle.std.specs.Prelude.{slice_get, codes}
use Rattle.std.specs.List.{AllByRecursion, fold}
use Rattle.std.proofs.lemmas.Option.{same_Some}
use Rattle.m2_tree.specs.declared.name.Ident.{Ident}
use Rattle.m2_tree.specs.declared.decl.Import.{Import}
use Rattle.typed_tree.specs.declared.table.Table.{Table}
use Rattle.typed_tree.specs.declared.known_types.Types.{Types}
use Rattle.typed_tree.specs.declared.typed_module.Imported.{Imported}
use Rattle.m2_tree.specs.Names.{same_name, is_console}
use Rattle.typed_tree.specs.Names.{find_name, enter_name}
use Rattle.check_definition.specs.Importing.{numbered_modules}
use Rattle.check_definition.specs.Export.{with_table_if, with_place_if, with_imported, with_imports_of, with_import_of, imported_modules}
use Rattle.check_body.specs.Own.{exported_variables}
use Rattle.check_body.specs.Imports.{with_import_copy, definition_imports, all_imports, imported_as, with_table_of, with_place_of, with_module_of, typed_imports}
use Rattle.law_well_formed.proofs.ImportsLists.{same_is, each_entered, found_each}
use Rattle.law_well_formed.proofs.NamedImports.{IsPlaced, numbered_placed}
use Rattle.law_well_formed.specs.FormedKnown.{HasReached}
use Rattle.law_well_formed.proofs.Gathered.{each_more}

got : {X : Type 0} (F : X → Type 0) (xs : List X) → AllByRecursion F xs → (k : ℕ) (x : X) → slice_get xs k ≡ Some x
    → F x
got F [] h k x e = absurd cc
got F (y ∷ xs) h zero x e = let same : y ≡ x = cc in subst F same h.0
got F (y ∷ xs) h (suc k) x e = got F xs h.1 k x e

-- the module that is found under a name has this name
named_at : (tables : List Table) (name : List ℕ) (k : ℕ) → find_name name (numbered_modules tables).0 ≡ Some k
    → (t : Table) → slice_get tables k ≡ Some t → t.name ≡ name
named_at tables name k h t e =
    let f = found_each (IsPlaced tables) name (numbered_modules tables).0 k (numbered_placed tables) h in
    let same : t ≡ f.2.0 = same_Some t f.2.0 (sym e ∙ f.2.1) in
    ap (λ (x : Table). x.name) same ∙ (f.2.2 ∙ sym (same_is name f.0 f.1))

module _ (IsMade : Table → Type 0) where
  -- a table that a job makes, of a module of this name and number
  pub record IsTableOf (name : List ℕ) (number : ℕ) : Type 0 where
    pub table : Table
    pub made : IsMade table
    pub number_is : table.number ≡ number
    pub name_is : table.name ≡ name

  abbrev pub IsListed : List ℕ → ℕ → Type 0
  IsListed name number = (is_console name ≡ true) ⊎ IsTableOf name number

  abbrev pub AreListed : List (List ℕ × ℕ) → Type 0
  AreListed es = AllByRecursion (λ e. IsListed e.0 e.1) es

  abbrev pub AreMade : List Table → Type 0
  AreMade ts = AllByRecursion (λ t. (is_console t.name ≡ true) ⊎ IsMade t) ts

  abbrev pub OwnListed : Option Table → Type 0
  OwnListed None = Unit {0}
  OwnListed (Some t) = AreListed t.imports

  -- what a module with these types knows of one that it imports: no variables, or those that its table exports
  pub record IsImportOf (types : Types) (i : Imported) : Type 0 where
    pub table : Table
    pub made : IsMade table
    pub number_is : table.number ≡ i.number
    pub name_is : table.name ≡ i.name
    pub variables : (i.variables ≡ []) ⊎ ((i.variables ≡ exported_variables table.exported)
        × HasReached types table.reached)

  abbrev pub AreImports : Types → List Imported → Type 0
  AreImports types is = AllByRecursion (IsImportOf types) is

  listed_of : (t : Table) → (is_console t.name ≡ true) ⊎ IsMade t → IsListed t.name t.number
  listed_of t h = elim h [
    | inl c ↦ inl c
    | inr m ↦ inr (record { table = t; made = m; number_is = refl; name_is = refl })
  ]

  entry_more : (name : List ℕ) (number : ℕ) (es : List (List ℕ × ℕ)) → IsListed name number → AreListed es
      → AreListed (enter_name name number es)
  entry_more name number es p all = each_entered (λ (e : List ℕ × ℕ). IsListed e.0 e.1) name number es
      (λ other e. subst (λ (n : List ℕ). IsListed n number) (same_is name other e) p) all

  copies : (es so : List (List ℕ × ℕ)) → AreListed es → AreListed so → AreListed (fold with_import_copy so es)
  copies [] so p all = all
  copies (e ∷ es) so p all = copies es (enter_name e.0 e.1 so) p.1 (entry_more e.0 e.1 so p.0 all)

  -- ---- the modules that imports name

  module _ (tables : List Table) (made : AreMade tables) where
    table_listed : (so : List (List ℕ × ℕ)) (name : List ℕ) (k : ℕ)
        → find_name name (numbered_modules tables).0 ≡ Some k → (o : Option Table) → slice_get tables k ≡ o
        → AreListed so → AreListed (with_table_if so name o)
    table_listed so name k h None e all = all
    table_listed so name k h (Some t) e all =
        let named : t.name ≡ name = named_at tables name k h t e in
        entry_more name t.number so (subst (λ (n : List ℕ). IsListed n t.number) named
        (listed_of t (got (λ (u : Table). (is_console u.name ≡ true) ⊎ IsMade u) tables made k t e))) all

    place_listed : (so : List (List ℕ × ℕ)) (name : List ℕ) (o : Option ℕ)
        → find_name name (numbered_modules tables).0 ≡ o → AreListed so → AreListed (with_place_if tables so name o)
    place_listed so name None h all = all
    place_listed so name (Some k) h all = table_listed so name k h (slice_get tables k) refl all

    name_listed : (so : List (List ℕ × ℕ)) (x : Ident) → AreListed so
        → AreListed (with_imported (numbered_modules tables).0 tables so x)
    name_listed so x all = place_listed so x.name (find_name x.name (numbered_modules tables).0) refl all

    names_listed : (xs : List Ident) (so : List (List ℕ × ℕ)) → AreListed so
        → AreListed (fold (with_imported (numbered_modules tables).0 tables) so xs)
    names_listed [] so all = all
    names_listed (x ∷ xs) so all = names_listed xs (with_imported (numbered_modules tables).0 tables so x)
        (name_listed so x all)

    import_listed : (so : List (List ℕ × ℕ)) (from : Option Ident) (names : List Ident) → AreListed so
        → AreListed (with_imports_of (numbered_modules tables).0 tables so from names)
    import_listed so None names all = names_listed names so all
    import_listed so (Some m) names all = name_listed so m all

    pub imports_listed : (is : List Import) (so : List (List ℕ × ℕ)) → AreListed so
        → AreListed (fold (with_import_of (numbered_modules tables).0 tables) so is)
    imports_listed [] so all = all
    imports_listed (i ∷ is) so all = imports_listed is (with_import_of (numbered_modules tables).0 tables so i)
        (import_listed so i.from i.names all)

    -- those of a definition
    pub table_imports : (is : List Import) → AreListed (imported_modules (numbered_modules tables).0 tables is)
    table_imports is = imports_listed is [] tt

    own_listed : (o : Option Table) → OwnListed o → AreListed (definition_imports o)
    own_listed None h = tt
    own_listed (Some t) h = copies t.imports [] h tt

    -- ---- the imports of a typed module

    module _ (types : Types) (has : AllByRecursion (λ u. HasReached types u.reached) tables) where
      table_by : (so : List Imported) (t : Table) → (is_console t.name ≡ true) ⊎ IsMade t → HasReached types t.reached
          → (b : Bool) → is_console t.name ≡ b → AreImports types so
          → AreImports types (cond b so (so ++ imported_as t ∷ []))
      table_by so t m h true e all = all
      table_by so t m h false e all = elim m [
        | inl c ↦ (let clash : true ≡ false = sym c ∙ e in absurd cc)
        | inr k ↦ each_more (IsImportOf types) so (imported_as t) all
            (record { table = t; made = k; number_is = refl; name_is = refl; variables = inr (refl, h) })
      ]

      table_of : (so : List Imported) (k : ℕ) (o : Option Table) → slice_get tables k ≡ o → AreImports types so
          → AreImports types (with_table_of so o)
      table_of so k None e all = all
      table_of so k (Some t) e all =
          table_by so t (got (λ (u : Table). (is_console u.name ≡ true) ⊎ IsMade u) tables made k t e)
          (got (λ (u : Table). HasReached types u.reached) tables has k t e) (is_console t.name) refl all

      name_by : (so : List Imported) (e : List ℕ × ℕ) → IsListed e.0 e.1 → (b : Bool) → is_console e.0 ≡ b
          → AreImports types so → AreImports types
          (cond b so (so ++ record { name = e.0; number = e.1; variables = [] } ∷ []))
      name_by so e p true q all = all
      name_by so e p false q all = elim p [
        | inl c ↦ (let clash : true ≡ false = sym c ∙ q in absurd cc)
        | inr k ↦ each_more (IsImportOf types) so (record { name = e.0; number = e.1; variables = [] }) all
            (record {
              table = k.table;
              made = k.made;
              number_is = k.number_is;
              name_is = k.name_is;
              variables =
                  inl refl;
            })
      ]

      place_of : (so : List Imported) (e : List ℕ × ℕ) → IsListed e.0 e.1 → (o : Option ℕ) → AreImports types so
          → AreImports types (with_place_of tables so e o)
      place_of so e p None all = name_by so e p (is_console e.0) refl all
      place_of so e p (Some k) all = table_of so k (slice_get tables k) refl all

      modules_of : (es : List (List ℕ × ℕ)) (so : List Imported) → AreListed es → AreImports types so
          → AreImports types (fold (with_module_of (numbered_modules tables).0 tables) so es)
      modules_of [] so p all = all
      modules_of (e ∷ es) so p all = modules_of es (with_module_of (numbered_modules tables).0 tables so e) p.1
          (place_of so e p.0 (find_name e.0 (numbered_modules tables).0) all)

      pub typed_are : (own : Option Table) → OwnListed own → (is : List Import)
          → AreImports types (typed_imports (numbered_modules tables).0 tables
          (all_imports (numbered_modules tables).0 tables own is))
      typed_are own o is = modules_of (all_imports (numbered_modules tables).0 tables own is) []
          (imports_listed is (definition_imports own) (own_listed own o)) tt
