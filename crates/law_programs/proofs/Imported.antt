-- What stands among a module's imports: the tables that it is checked with, and names of modules without a table.
use Rattle.std.proofs.Common.{◌≡◌, ◌⊎◌, inl, inr, ℕ, zero, suc, Bool, true, false, cond, List, [], ◌∷◌, ◌++◌, Option, Some, None, refl, sym, ap, subst, ◌∙◌}
use Rattle.std.specs.Prelude.{slice_get, codes}
use Rattle.std.specs.List.{AllByRecursion, fold}
use Rattle.std.specs.Option.{is_some}
use Rattle.typed_tree.specs.declared.table.Table.{Table}
use Rattle.typed_tree.specs.declared.typed_module.Imported.{Imported}
use Rattle.m2_tree.specs.Names.{same_name, is_console}
use Rattle.typed_tree.specs.Names.{find_name, enter_name}
use Rattle.check_definition.specs.Importing.{with_place, with_numbered, numbered_modules}
use Rattle.check_body.specs.Imports.{imported_as, with_table_of, with_place_of, with_module_of, typed_imports}
use Rattle.law_well_formed.proofs.Names.{found_self}
use Rattle.law_well_formed.proofs.Gathered.{each_more}

-- ---- a table has a place under its name

is_there : List ℕ → List (List ℕ × ℕ) → Bool
is_there name es = is_some (find_name name es)

step_there : (b c : Bool) (v old : ℕ) (rest new : Option ℕ) → is_some (cond c (Some old) rest) ≡ true
    → (is_some rest ≡ true → is_some new ≡ true)
    → is_some (cond b (cond c (Some v) rest) (cond c (Some old) new)) ≡ true
step_there true true v old rest new e k = refl
step_there true false v old rest new e k = e
step_there false true v old rest new e k = refl
step_there false false v old rest new e k = k e

found_cond : (other : List ℕ) (b : Bool) (xs ys : List (List ℕ × ℕ))
    → find_name other (cond b xs ys) ≡ cond b (find_name other xs) (find_name other ys)
found_cond other true xs ys = refl
found_cond other false xs ys = refl

still_there : (name other : List ℕ) (v : ℕ) (es : List (List ℕ × ℕ)) → is_some (find_name other es) ≡ true
    → is_some (find_name other (enter_name name v es)) ≡ true
still_there name other v [] e = absurd cc
still_there name other v (x ∷ es) e =
    ap is_some (found_cond other (same_name name x.0) ((x.0, v) ∷ es) (x ∷ enter_name name v es))
    ∙ step_there (same_name name x.0) (same_name other x.0) v x.1 (find_name other es)
    (find_name other (enter_name name v es)) e (still_there name other v es)

place_keeps : (name other : List ℕ) (k : ℕ) (es : List (List ℕ × ℕ)) → is_some (find_name other es) ≡ true
    → is_some (find_name other (with_place name k es)) ≡ true
place_keeps name other k es e = by (is_some (find_name name es)) where
  by : (b : Bool) → is_some (find_name other (cond b es (enter_name name k es))) ≡ true
  by true = e
  by false = still_there name other k es e

place_there : (name : List ℕ) (k : ℕ) (es : List (List ℕ × ℕ)) → is_some (find_name name (with_place name k es)) ≡ true
place_there name k es = by (is_some (find_name name es)) refl where
  by : (b : Bool) → is_some (find_name name es) ≡ b → is_some (find_name name (cond b es (enter_name name k es))) ≡ true
  by true e = e
  by false e = ap is_some (found_self name k es)

all_keep : (ts : List Table) (st : List (List ℕ × ℕ) × ℕ) (name : List ℕ) → is_some (find_name name st.0) ≡ true
    → is_some (find_name name (fold with_numbered st ts).0) ≡ true
all_keep [] st name e = e
all_keep (t ∷ ts) st name e = all_keep ts (with_numbered st t) name (place_keeps t.name name st.1 st.0 e)

table_there : (ts : List Table) (st : List (List ℕ × ℕ) × ℕ) (k : ℕ) (u : Table) → slice_get ts k ≡ Some u
    → is_some (find_name u.name (fold with_numbered st ts).0) ≡ true
table_there [] st k u e = absurd cc
table_there (t ∷ ts) st zero u e =
    let same : t ≡ u = cc in subst (λ (x : Table). is_some
    (find_name x.name (fold with_numbered (with_numbered st t) ts).0) ≡ true) same
    (all_keep ts (with_numbered st t) t.name (place_there t.name st.1 st.0))
table_there (t ∷ ts) st (suc k) u e = table_there ts (with_numbered st t) k u e

-- ---- imports

-- the table stands there, and the import is made of it
pub record IsAs (tables : List Table) (i : Imported) : Type 0 where
  pub table : Table
  pub place : ℕ
  pub there : slice_get tables place ≡ Some table
  pub named : same_name table.name (codes "Console") ≡ false
  pub is : i ≡ imported_as table

module _ (tables : List Table) where
  abbrev modules : List (List ℕ × ℕ)
  modules = (numbered_modules tables).0

  -- an import has no table here, or it is made of one
  abbrev pub IsWithin : Imported → Type 0
  IsWithin i = (find_name i.name modules ≡ None) ⊎ IsAs tables i

  abbrev AreWithin : List Imported → Type 0
  AreWithin is = AllByRecursion IsWithin is

  table_by : (so : List Imported) (t : Table) (k : ℕ) → slice_get tables k ≡ Some t → (b : Bool) → is_console t.name ≡ b
      → AreWithin so → AreWithin (cond b so (so ++ imported_as t ∷ []))
  table_by so t k e true q all = all
  table_by so t k e false q all = each_more IsWithin so (imported_as t) all
      (inr (record { table = t; place = k; there = e; named = q; is = refl }))

  table_of : (so : List Imported) (k : ℕ) (o : Option Table) → slice_get tables k ≡ o → AreWithin so
      → AreWithin (with_table_of so o)
  table_of so k None e all = all
  table_of so k (Some t) e all = table_by so t k e (is_console t.name) refl all

  name_by : (so : List Imported) (e : List ℕ × ℕ) → find_name e.0 modules ≡ None → (b : Bool) → AreWithin so
      → AreWithin (cond b so (so ++ record { name = e.0; number = e.1; variables = [] } ∷ []))
  name_by so e q true all = all
  name_by so e q false all = each_more IsWithin so (record { name = e.0; number = e.1; variables = [] }) all (inl q)

  place_of : (so : List Imported) (e : List ℕ × ℕ) (o : Option ℕ) → find_name e.0 modules ≡ o → AreWithin so
      → AreWithin (with_place_of tables so e o)
  place_of so e None q all = name_by so e q (is_console e.0) all
  place_of so e (Some k) q all = table_of so k (slice_get tables k) refl all

  modules_of : (es : List (List ℕ × ℕ)) (so : List Imported) → AreWithin so
      → AreWithin (fold (with_module_of modules tables) so es)
  modules_of [] so all = all
  modules_of (e ∷ es) so all = modules_of es (with_module_of modules tables so e)
      (place_of so e (find_name e.0 modules) refl all)

  pub typed_within : (es : List (List ℕ × ℕ)) → AreWithin (typed_imports modules tables es)
  typed_within es = modules_of es [] tt

  -- an import of a table's name is made of a table
  pub made_of_table : (i : Imported) → IsWithin i → (k : ℕ) (u : Table) → slice_get tables k ≡ Some u → i.name ≡ u.name
      → IsAs tables i
  made_of_table i (inr a) k u e n = a
  made_of_table i (inl q) k u e n =
      let some : is_some (find_name u.name modules) ≡ true = table_there tables ([], 0) k u e in
      let none : is_some (find_name u.name modules) ≡ false = ap (λ (x : List ℕ). is_some (find_name x modules)) (sym n)
      ∙ ap is_some q in
      absurd (let clash : true ≡ false = sym some ∙ none in cc)
