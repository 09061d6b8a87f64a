-- A module imports each module once, so it imports no more modules than a program has.
use Rattle.std.proofs.Common.{◌≡◌, ℕ, zero, suc, ◌≤◌, Bool, true, false, cond, List, [], ◌∷◌, ◌++◌, map, length, Option, Some, None, Result, Ok, Err, refl, sym, ap, subst, ◌∙◌, arith}
use Rattle.std.specs.Prelude.{All, slice_get, IfOk}
use Rattle.std.specs.List.{fold, AllByRecursion}
use Rattle.std.proofs.lemmas.Option.{same_Some}
use Rattle.std.proofs.lemmas.List.Elements.{All-head, All-tail}
use Rattle.m2_tree.specs.declared.name.Ident.{Ident}
use Rattle.m2_tree.specs.declared.decl.Block.{Block, out-Block}
use Rattle.m2_tree.specs.declared.decl.Contents.{Contents}
use Rattle.m2_tree.specs.declared.decl.Contents.TheVariants as contents
use Rattle.m2_tree.specs.declared.decl.Import.{Import}
use Rattle.m2_tree.specs.declared.decl.Module.{Module}
use Rattle.m2_tree.specs.Names.{same_name, is_console}
use Rattle.typed_tree.specs.declared.table.Table.{Table}
use Rattle.typed_tree.specs.declared.statement.TypedStmt.{TypedStmt}
use Rattle.typed_tree.specs.declared.typed_module.Imported.{Imported}
use Rattle.typed_tree.specs.declared.typed_module.TypedModule.{TypedModule}
use Rattle.typed_tree.specs.Names.{find_name, enter_name}
use Rattle.check_scope.specs.Elaborated.{Gathers, both, ◌▷◌}
use Rattle.check_scope.specs.declared.scope.Scope.{Scope}
use Rattle.check_definition.specs.Export.{with_table_if, with_place_if, with_imported, with_imports_of, with_import_of}
use Rattle.check_definition.specs.Importing.{numbered_modules}
use Rattle.check_definition.specs.Predeclared.{console, first_scope}
use Rattle.check_block.specs.Nesting.{procedure_ends}
use Rattle.check_body.specs.Imports.{with_import_copy, definition_imports, all_imports, imported_as, with_table_of, with_place_of, with_module_of, typed_imports}
use Rattle.check_body.specs.Own.{implementation_scope}
use Rattle.check_body.specs.Routines.{typed_module}
use Rattle.check_body.specs.declared.routine.Bodies.{Bodies}
use Rattle.check_body.specs.Elaborating.{Elaborates}
use Rattle.check_body.specs.Checked.{walk_body, of_body, of_implementation, of_contents, body_module}
use Rattle.law_modules.specs.Linked.{Program}
use Rattle.law_simulation.specs.Knows.{Knows}
use Rattle.law_well_formed.proofs.ImportsLists.{same_is, same_refl, each_entered, found_each}
use Rattle.law_well_formed.proofs.NamedImports.{IsPlaced, numbered_placed}
use Rattle.law_well_formed.proofs.ImportsWalks.{walk_keeps}

-- ---- lists whose elements differ

abbrev pub Differ : {A : Type 0} → List A → Type 0
Differ [] = Unit {0}
Differ (x ∷ xs) = AllByRecursion (λ y. x ≡ y → ⊥) xs × Differ xs

each_less : {A : Type 0} (P : A → Type 0) (xs : List A) (y : A) (ys : List A) → AllByRecursion P (xs ++ y ∷ ys)
    → AllByRecursion P (xs ++ ys)
each_less P [] y ys all = all.1
each_less P (x ∷ xs) y ys all = (all.0, each_less P xs y ys all.1)

one_less : {A : Type 0} (xs : List A) (y : A) (ys : List A) → Differ (xs ++ y ∷ ys) → Differ (xs ++ ys)
one_less [] y ys d = d.1
one_less (x ∷ xs) y ys d = (each_less (λ z. x ≡ z → ⊥) xs y ys d.0, one_less xs y ys d.1)

first_each : {A : Type 0} (P : A → Type 0) (xs : List A) → AllByRecursion P (xs ++ []) → AllByRecursion P xs
first_each P [] all = tt
first_each P (x ∷ xs) all = (all.0, first_each P xs all.1)

first_differ : {A : Type 0} (xs : List A) → Differ (xs ++ []) → Differ xs
first_differ [] d = tt
first_differ (x ∷ xs) d = (first_each (λ y. x ≡ y → ⊥) xs d.0, first_differ xs d.1)

-- ---- they are no more than those that they stand among

abbrev IsIn : {A : Type 0} → List A → A → Type 0
IsIn xs x = (k : ℕ) × (slice_get xs k ≡ Some x)

abbrev without : {A : Type 0} → List A → ℕ → List A
without [] k = []
without (x ∷ xs) zero = xs
without (x ∷ xs) (suc k) = x ∷ without xs k

one_out : {A : Type 0} (xs : List A) (k : ℕ) (x : A) → slice_get xs k ≡ Some x → suc (length (without xs k)) ≡ length xs
one_out [] k x h = absurd cc
one_out (y ∷ xs) zero x h = refl
one_out (y ∷ xs) (suc k) x h = ap suc (one_out xs k x h)

others_in : {A : Type 0} (xs : List A) (k : ℕ) (x : A) (j : ℕ) (y : A) → slice_get xs k ≡ Some x
    → slice_get xs j ≡ Some y → (x ≡ y → ⊥) → IsIn (without xs k) y
others_in [] k x j y h i d = absurd cc
others_in (z ∷ xs) zero x zero y h i d = absurd (d (same_Some x y (sym h ∙ i)))
others_in (z ∷ xs) zero x (suc j) y h i d = (j, i)
others_in (z ∷ xs) (suc k) x zero y h i d = (zero, i)
others_in (z ∷ xs) (suc k) x (suc j) y h i d = let r = others_in xs k x j y h i d in (suc r.0, r.1)

all_others : {A : Type 0} (xs : List A) (k : ℕ) (x : A) (ys : List A) → slice_get xs k ≡ Some x
    → AllByRecursion (λ y. x ≡ y → ⊥) ys → AllByRecursion (IsIn xs) ys → AllByRecursion (IsIn (without xs k)) ys
all_others xs k x [] h d all = tt
all_others xs k x (y ∷ ys) h d all = (others_in xs k x all.0.0 y h all.0.1 d.0, all_others xs k x ys h d.1 all.1)

one_more : (a b c : ℕ) → a ≤ b → suc b ≡ c → suc a ≤ c
one_more a b c l e = omega (arith, l, e)

pub differ_few : {A : Type 0} (ys xs : List A) → Differ ys → AllByRecursion (IsIn xs) ys → length ys ≤ length xs
differ_few [] xs d all = omega arith
differ_few (y ∷ ys) xs d all =
    one_more (length ys) (length (without xs all.0.0)) (length xs)
    (differ_few ys (without xs all.0.0) d.1 (all_others xs all.0.0 y ys all.0.1 d.0 all.1))
    (one_out xs all.0.0 y all.0.1)

-- ---- names that are entered

abbrev pub KeysDiffer : {V : Type 0} → List (List ℕ × V) → Type 0
KeysDiffer [] = Unit {0}
KeysDiffer (e ∷ es) = AllByRecursion (λ x. e.0 ≡ x.0 → ⊥) es × KeysDiffer es

apart : (name other key : List ℕ) → same_name name key ≡ false → same_name name other ≡ true → key ≡ other → ⊥
apart name other key n s e =
    let same : name ≡ key = same_is name other s ∙ sym e in
    let t : same_name name key ≡ true = subst (λ k. same_name name k ≡ true) same (same_refl name) in
    absurd cc

module _ {V : Type 0} where
  differ_by : (name : List ℕ) (v : V) (e : List ℕ × V) (es : List (List ℕ × V)) (b : Bool) → same_name name e.0 ≡ b
      → KeysDiffer (e ∷ es) → KeysDiffer (enter_name name v es)
      → KeysDiffer (cond b ((e.0, v) ∷ es) (e ∷ enter_name name v es))
  differ_by name v e es true h d more = d
  differ_by name v e es false h d more = (
    each_entered (λ (x : List ℕ × V). e.0 ≡ x.0 → ⊥) name v es
        (λ other s. apart name other e.0 h s) d.0,
    more,
  )

  pub entered_differ : (name : List ℕ) (v : V) (es : List (List ℕ × V)) → KeysDiffer es
      → KeysDiffer (enter_name name v es)
  entered_differ name v [] d = (tt, tt)
  entered_differ name v (e ∷ es) d = differ_by name v e es (same_name name e.0) refl d (entered_differ name v es d.1)

copies_differ : (es so : List (List ℕ × ℕ)) → KeysDiffer so → KeysDiffer (fold with_import_copy so es)
copies_differ [] so d = d
copies_differ (e ∷ es) so d = copies_differ es (enter_name e.0 e.1 so) (entered_differ e.0 e.1 so d)

definition_differ : (own : Option Table) → KeysDiffer (definition_imports own)
definition_differ None = tt
definition_differ (Some t) = copies_differ t.imports [] tt

module _ (modules : List (List ℕ × ℕ)) (tables : List Table) where
  table_differ : (so : List (List ℕ × ℕ)) (name : List ℕ) (o : Option Table) → KeysDiffer so
      → KeysDiffer (with_table_if so name o)
  table_differ so name None d = d
  table_differ so name (Some t) d = entered_differ name t.number so d

  place_differ : (so : List (List ℕ × ℕ)) (name : List ℕ) (o : Option ℕ) → KeysDiffer so
      → KeysDiffer (with_place_if tables so name o)
  place_differ so name None d = d
  place_differ so name (Some k) d = table_differ so name (slice_get tables k) d

  one_differ : (so : List (List ℕ × ℕ)) (name : Ident) → KeysDiffer so
      → KeysDiffer (with_imported modules tables so name)
  one_differ so name d = place_differ so name.name (find_name name.name modules) d

  names_differ : (names : List Ident) (so : List (List ℕ × ℕ)) → KeysDiffer so
      → KeysDiffer (fold (with_imported modules tables) so names)
  names_differ [] so d = d
  names_differ (x ∷ xs) so d = names_differ xs (with_imported modules tables so x) (one_differ so x d)

  of_import_differ : (so : List (List ℕ × ℕ)) (from : Option Ident) (names : List Ident) → KeysDiffer so
      → KeysDiffer (with_imports_of modules tables so from names)
  of_import_differ so None names d = names_differ names so d
  of_import_differ so (Some m) names d = one_differ so m d

  imports_differ : (is : List Import) (so : List (List ℕ × ℕ)) → KeysDiffer so
      → KeysDiffer (fold (with_import_of modules tables) so is)
  imports_differ [] so d = d
  imports_differ (i ∷ is) so d = imports_differ is (with_import_of modules tables so i)
      (of_import_differ so i.from i.names d)

  all_differ : (own : Option Table) (is : List Import) → KeysDiffer (all_imports modules tables own is)
  all_differ own is = imports_differ is (definition_imports own) (definition_differ own)

-- ---- the imports of a typed module

abbrev pub keys : {V : Type 0} → List (List ℕ × V) → List (List ℕ)
keys es = map (λ e. e.0) es

abbrev pub imported_by_name : List Imported → List (List ℕ)
imported_by_name is = map (λ i. i.name) is

keys_apart : {V : Type 0} (name : List ℕ) (es : List (List ℕ × V)) → AllByRecursion (λ x. name ≡ x.0 → ⊥) es
    → AllByRecursion (λ y. name ≡ y → ⊥) (keys es)
keys_apart name [] d = tt
keys_apart name (e ∷ es) d = (d.0, keys_apart name es d.1)

pub keys_differ : {V : Type 0} (es : List (List ℕ × V)) → KeysDiffer es → Differ (keys es)
keys_differ [] d = tt
keys_differ (e ∷ es) d = (keys_apart e.0 es d.0, keys_differ es d.1)

-- those so far, and those to come
abbrev WillDiffer : List Imported → List (List ℕ) → Type 0
WillDiffer so rest = Differ (imported_by_name so ++ rest)

pushed : (so : List Imported) (i : Imported) (rest : List (List ℕ))
    → imported_by_name (so ++ i ∷ []) ++ rest ≡ imported_by_name so ++ i.name ∷ rest
pushed [] i rest = refl
pushed (s ∷ so) i rest = ap (λ ns. s.name ∷ ns) (pushed so i rest)

instance_differs : (b : Bool) (so : List Imported) (i : Imported) (rest : List (List ℕ)) → WillDiffer so (i.name ∷ rest)
    → WillDiffer (cond b so (so ++ i ∷ [])) rest
instance_differs true so i rest d = one_less (imported_by_name so) i.name rest d
instance_differs false so i rest d = subst Differ (sym (pushed so i rest)) d

module _ (tables : List Table) where
  table_named : (so : List Imported) (name : List ℕ) (rest : List (List ℕ)) (o : Option Table)
      → ((t : Table) → o ≡ Some t → t.name ≡ name) → WillDiffer so (name ∷ rest) → WillDiffer (with_table_of so o) rest
  table_named so name rest None k d = one_less (imported_by_name so) name rest d
  table_named so name rest (Some t) k d =
      instance_differs (is_console t.name) so (imported_as t) rest
      (subst (λ n. WillDiffer so (n ∷ rest)) (sym (k t refl)) d)

  place_named : (so : List Imported) (e : List ℕ × ℕ) (rest : List (List ℕ)) (o : Option ℕ)
      → ((k : ℕ) → o ≡ Some k → (t : Table) → slice_get tables k ≡ Some t → t.name ≡ e.0) → WillDiffer so (e.0 ∷ rest)
      → WillDiffer (with_place_of tables so e o) rest
  place_named so e rest None k d = instance_differs (is_console e.0) so
      (record { name = e.0; number = e.1; variables = [] }) rest d
  place_named so e rest (Some n) k d = table_named so e.0 rest (slice_get tables n) (k n refl) d

  module _ (modules : List (List ℕ × ℕ)) (placed : AllByRecursion (IsPlaced tables) modules) where
    named_at : (name : List ℕ) (k : ℕ) → find_name name modules ≡ Some k → (t : Table) → slice_get tables k ≡ Some t
        → t.name ≡ name
    named_at name k h t e =
        let f = found_each (IsPlaced tables) name modules k placed h in
        let same : t ≡ f.2.0 = same_Some t f.2.0 (sym e ∙ f.2.1) in
        ap (λ (x : Table). x.name) same ∙ (f.2.2 ∙ sym (same_is name f.0 f.1))

    typed_differ : (es : List (List ℕ × ℕ)) (so : List Imported) → WillDiffer so (keys es)
        → WillDiffer (fold (with_module_of modules tables) so es) []
    typed_differ [] so d = d
    typed_differ (e ∷ es) so d = typed_differ es (with_module_of modules tables so e)
        (place_named so e (keys es) (find_name e.0 modules) (named_at e.0) d)

-- ---- whole modules

abbrev pub ImportsDiffer : TypedModule → Type 0
ImportsDiffer t = Differ (imported_by_name t.imports)

module _ (m : Module) (own : Option Table) where
  abbrev imports_by : (tables others : List Table) → List Imported
  imports_by tables others = typed_imports (numbered_modules tables).0 others
      (all_imports (numbered_modules tables).0 others own m.imports)

  imports_at : (tables others : List Table) → others ≡ tables → Differ (imported_by_name (imports_by tables others))
  imports_at tables others e =
      let modules = (numbered_modules tables).0 in
      subst (λ (ts : List Table). Differ (imported_by_name (imports_by tables ts))) (sym e)
      (first_differ (imported_by_name (imports_by tables tables))
      (typed_differ tables modules (numbered_placed tables) (all_imports modules tables own m.imports) []
      (keys_differ _ (all_differ modules tables own m.imports))))

  module _ (g : Gathers) where
    differ_if : (s : Scope g.Reported) (tables : List Table) (rs : Bodies)
        (r : Result (Unit {0} × List TypedStmt) g.Reported) → s.tables ≡ tables
        → IfOk (r ▷ λ p. Ok (typed_module s (numbered_modules tables).0 own m rs p.1)) ImportsDiffer
    differ_if s tables rs (Ok p) e = imports_at tables s.tables e
    differ_if s tables rs (Err f) e = tt

    body_differs : (elaborates : Elaborates g.Reported) (s : Scope g.Reported) (b : Block)
        → IfOk (of_body g elaborates s own m b) ImportsDiffer
    body_differs elaborates s b =
        let modules = (numbered_modules s.tables).0 in
        let c = walk_body g elaborates modules (procedure_ends (out-Block b).decls) s m b in
        differ_if c.0.scope s.tables c.0.bodies (both g c.0.so_far c.1)
        (ap (λ (k : List Table × ℕ). k.0) (walk_keeps g elaborates (procedure_ends (out-Block b).decls) modules s m
        b))

module _ (g : Gathers) (elaborates : Elaborates g.Reported) (m : Module) where
  implementation_differs : (o : Option Table) (tables : List Table) (b : Block)
      → IfOk (of_implementation g elaborates m o tables b) ImportsDiffer
  implementation_differs None tables b = tt
  implementation_differs (Some own) tables b =
      body_differs m (Some own) g elaborates (implementation_scope own tables) b

  contents_differ : (home : ℕ) (o : Option Table) (tables : List Table) (c : Contents)
      → IfOk (of_contents g elaborates home m o tables c) ImportsDiffer
  contents_differ home o tables (contents.Definition defs) = tt
  contents_differ home o tables (contents.Implementation b) = implementation_differs o tables b
  contents_differ home o tables (contents.Program b) = body_differs m None g elaborates (first_scope home tables) b

  pub module_differs : (home : ℕ) (o : Option Table) (tables : List Table)
      → IfOk (body_module g elaborates home m o tables) ImportsDiffer
  module_differs home o tables = contents_differ home o (tables ++ console ∷ []) m.contents

-- ---- in a program

module _ (p : Program) (m : TypedModule) where
  name_at : (k : ℕ) (q : Program) (home : TypedModule) → slice_get q k ≡ Some home
      → slice_get (map (λ (n : TypedModule). n.name) q) k ≡ Some home.name
  name_at k [] home h = absurd cc
  name_at zero (n ∷ q) home h = ap (λ (x : TypedModule). Some x.name) (same_Some n home h)
  name_at (suc k) (n ∷ q) home h = name_at k q home h

  all_in : (is : List Imported) → All (Knows p m) is
      → AllByRecursion (IsIn (map (λ (n : TypedModule). n.name) p)) (imported_by_name is)
  all_in [] known = tt
  all_in (i ∷ is) known =
      let k = All-head (Knows p m) i is known in
      ((_, name_at _ p k.home k.there ∙ ap Some (sym k.name)), all_in is (All-tail (Knows p m) i is known))

  count_names : {A B : Type 0} (f : A → B) (xs : List A) → length (map f xs) ≡ length xs
  count_names f [] = refl
  count_names f (x ∷ xs) = ap suc (count_names f xs)

  as_counted : (a b c d : ℕ) → a ≤ b → a ≡ c → b ≡ d → c ≤ d
  as_counted a b c d l e f = omega (arith, l, e, f)

  pub imports_few : ImportsDiffer m → All (Knows p m) m.imports → length m.imports ≤ length p
  imports_few differ known =
      as_counted (length (imported_by_name m.imports)) (length (map (λ (n : TypedModule). n.name) p)) (length m.imports)
      (length p)
      (differ_few (imported_by_name m.imports) (map (λ (n : TypedModule). n.name) p) differ (all_in m.imports known))
      (count_names (λ (i : Imported). i.name) m.imports) (count_names (λ (n : TypedModule). n.name) p)
