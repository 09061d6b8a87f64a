-- The modules that a definition imports stand in its table, each once, in the order of the text.
use Rattle.std.proofs.Common.{◌≡◌, ℕ, Bool, true, false, cond, List, [], ◌∷◌, ◌++◌, Option, Some, None, refl, sym, ap, subst, ◌∙◌}
use Rattle.std.specs.Prelude.{map, reverse}
use Rattle.std.specs.List.{fold, flat_map}
use Rattle.std.proofs.lemmas.List.{reverse-append}
use Rattle.m2_tree.specs.declared.name.Ident.{Ident}
use Rattle.m2_tree.specs.declared.decl.Import.{Import}
use Rattle.typed_tree.specs.declared.table.Table.{Table}
use Rattle.typed_tree.specs.Names.{find_name, enter_name}
use Rattle.check_definition.specs.Importing.{numbered_modules}
use Rattle.check_definition.specs.Export.{with_table_if, with_place_if, with_imported, with_imports_of, with_import_of, imported_modules}
use Rattle.def_typing.specs.Imports.{Imported, OfModule, FromModule, OfName, parts_of, all_imported, IsFoundAt}
use Rattle.law_typing.proofs.Heading.{nil_right, append_assoc}
use Rattle.law_typing.proofs.Entering.{entered_all}
use Rattle.law_rules.proofs.Tables.{Found, is_found, is_nowhere, found_same, found_get, module_found_by}
use Rattle.law_rules.specs.Exports.{NamesModule, by_import, by_from, AreModules, no_import, a_module, again, without_definition, a_name_of_it}
use Rattle.law_rules.proofs.Keys.{entered_last}

-- ---- imports in turn

abbrev behind_parts : List Imported → List Imported → List Imported
behind_parts front [] = front
behind_parts front (x ∷ xs) = behind_parts (x ∷ front) xs

abbrev behind : List Imported → List Import → List Imported
behind front [] = front
behind front (x ∷ xs) = behind (behind_parts front (parts_of x.from x.names)) xs

parts_are : (xs front : List Imported) → behind_parts front xs ≡ reverse xs ++ front
parts_are [] front = refl
parts_are (x ∷ xs) front = parts_are xs (x ∷ front) ∙ sym (append_assoc (reverse xs) (x ∷ []) front)
    ∙ ap (λ (ys : List Imported). ys ++ front) (sym (reverse-append (x ∷ []) xs))

imports_are : (imports : List Import) (front : List Imported) → behind front imports ≡ all_imported imports ++ front
imports_are [] front = refl
imports_are (x ∷ xs) front = let ps = parts_of x.from x.names in
    let rest = flat_map (λ (x : Import). parts_of x.from x.names) xs in
    imports_are xs (behind_parts front ps) ∙ ap (λ (ys : List Imported). all_imported xs ++ ys) (parts_are ps front)
    ∙ sym (append_assoc (all_imported xs) (reverse ps) front)
    ∙ ap (λ (ys : List Imported). ys ++ front) (sym (reverse-append ps rest))

-- ---- a name that is there stays

same_by : (n : List ℕ) (v : ℕ) (e : List ℕ × ℕ) (es : List (List ℕ × ℕ)) (b : Bool)
    → cond b (Some e.1) (find_name n es) ≡ Some v → (find_name n es ≡ Some v → enter_name n v es ≡ es)
    → cond b ((e.0, v) ∷ es) (e ∷ enter_name n v es) ≡ e ∷ es
same_by n v e es true q h = ap (λ (k : ℕ). let y : List (List ℕ × ℕ) = (e.0, k) ∷ es in y) (one_number (sym q))
  where
    one_number : {a b : ℕ} → ◌≡◌ {A = Option ℕ} (Some a) (Some b) → a ≡ b
    one_number q = cc
same_by n v e es false q h = ap (λ (xs : List (List ℕ × ℕ)). e ∷ xs) (h q)

entered_same : (n : List ℕ) (v : ℕ) (es : List (List ℕ × ℕ)) → find_name n es ≡ Some v → enter_name n v es ≡ es
entered_same n v [] q = absurd cc
entered_same n v (e ∷ es) q = same_by n v e es _ q (entered_same n v es)

module _ (tables : List Table) where
  abbrev modules : List (List ℕ × ℕ)
  modules = (numbered_modules tables).0

  abbrev IsAt : List ℕ → Table → ℕ → Type 0
  IsAt n t k = IsFoundAt (λ (t : Table). t.name ≡ n) t tables k

  -- numbers are those of tables
  abbrev AreNumbers : List (List ℕ × ℕ) → Type 0
  AreNumbers ms = (n : List ℕ) (v : ℕ) → find_name n ms ≡ Some v → (t : Table) × (k : ℕ) × IsAt n t k × (t.number ≡ v)

  record Lists (front : List Imported) (ms : List (List ℕ × ℕ)) : Type 0 where
    are : AreModules tables front ms
    numbers : AreNumbers ms

  one_number : {a b : ℕ} → ◌≡◌ {A = Option ℕ} (Some a) (Some b) → a ≡ b
  one_number q = cc

  module _ (front : List Imported) (ms : List (List ℕ × ℕ)) (l : Lists front ms) (x : Imported) (name : Ident)
      (i : NamesModule name x) where
    there_by : (t : Table) (k : ℕ) → IsAt name.name t k → (o : Option ℕ) → find_name name.name ms ≡ o
        → AreModules tables (x ∷ front) (enter_name name.name t.number ms)
    there_by t k f None e = subst (λ (ns : List (List ℕ × ℕ)). AreModules tables (x ∷ front) ns)
        (sym (entered_last name.name t.number ms e)) (a_module l.are i f e)
    there_by t k f (Some v) e =
        let q = l.numbers name.name v e in
        let z : v ≡ t.number = sym q.3 ∙ ap (λ (t : Table). t.number)
        (found_same (λ (t : Table). t.name ≡ name.name) q.2 f).0 in
        subst (λ (ns : List (List ℕ × ℕ)). AreModules tables (x ∷ front) ns)
        (sym (entered_same name.name t.number ms (e ∙ ap (λ (n : ℕ). let o : Option ℕ = Some n in o) z)))
        (again l.are i (λ n. let y = sym e ∙ n in absurd cc))

    numbers_by : (t : Table) (k : ℕ) → IsAt name.name t k → AreNumbers (enter_name name.name t.number ms)
    numbers_by t k f = entered_all (λ n o. (v : ℕ) → o ≡ Some v → (t : Table) × (k : ℕ) × IsAt n t k × (t.number ≡ v))
        name.name t.number ms (λ v e. (t, k, f, one_number e)) (λ n c v e. l.numbers n v e)

    found_lists : {o : Option ℕ} → Found (λ (t : Table). t.name ≡ name.name) tables o
        → Lists (x ∷ front) (with_place_if tables ms name.name o)
    found_lists (is_found {a = t} {k = k} f) =
        subst (λ (o : Option Table). Lists (x ∷ front) (with_table_if ms name.name o))
        (sym (found_get (λ (t : Table). t.name ≡ name.name) f))
        (record { are = there_by t k f (find_name name.name ms) refl; numbers = numbers_by t k f })
    found_lists (is_nowhere c) = record { are = without_definition l.are i c; numbers = l.numbers }

    one_lists : Lists (x ∷ front) (with_imported modules tables ms name)
    one_lists = found_lists (module_found_by name.name tables)

  modules_list : (names : List Ident) (front : List Imported) (ms : List (List ℕ × ℕ)) → Lists front ms
      → Lists (behind_parts front (map OfModule names)) (fold (with_imported modules tables) ms names)
  modules_list [] front ms l = l
  modules_list (x ∷ xs) front ms l = modules_list xs (OfModule x ∷ front) (with_imported modules tables ms x)
      (one_lists front ms l (OfModule x) x by_import)

  names_list : (from : Ident) (names : List Ident) (front : List Imported) (ms : List (List ℕ × ℕ)) → Lists front ms
      → Lists (behind_parts front (map (OfName from) names)) ms
  names_list from [] front ms l = l
  names_list from (x ∷ xs) front ms l = names_list from xs (OfName from x ∷ front) ms
      (record { are = a_name_of_it l.are; numbers = l.numbers })

  import_lists : (from : Option Ident) (names : List Ident) (front : List Imported) (ms : List (List ℕ × ℕ))
      → Lists front ms → Lists (behind_parts front (parts_of from names)) (with_imports_of modules tables ms from names)
  import_lists None names front ms l = modules_list names front ms l
  import_lists (Some m) names front ms l =
      names_list m names (FromModule m ∷ front) (with_imported modules tables ms m)
      (one_lists front ms l (FromModule m) m by_from)

  imports_list : (imports : List Import) (front : List Imported) (ms : List (List ℕ × ℕ)) → Lists front ms
      → Lists (behind front imports) (fold (with_import_of modules tables) ms imports)
  imports_list [] front ms l = l
  imports_list (x ∷ xs) front ms l = imports_list xs (behind_parts front (parts_of x.from x.names))
      (with_import_of modules tables ms x) (import_lists x.from x.names front ms l)

  pub modules_are : (imports : List Import)
      → AreModules tables (all_imported imports) (imported_modules modules tables imports)
  modules_are imports = subst (λ (front : List Imported). AreModules tables front
      (imported_modules modules tables imports)) (imports_are imports [] ∙ nil_right (all_imported imports))
      (imports_list imports [] [] (record { are = no_import; numbers = λ n v e. absurd cc })).are
