-- The modules that a table or a typed module names are imported.
use Rattle.std.proofs.Common.{◌≡◌, ℕ, ◌+◌, Bool, true, false, ◌||◌, cond, List, [], ◌∷◌, ◌++◌, length, Option, Some, None, Result, Ok, Err, refl, sym, ap, subst, ◌∙◌, append_assoc}
use Rattle.std.specs.Prelude.{slice_get, codes, IfOk}
use Rattle.std.specs.List.{fold, AllByRecursion}
use Rattle.std.specs.Option.{is_some}
use Rattle.std.proofs.lemmas.Option.{same_Some}
use Rattle.std.proofs.lemmas.List.{length-append}
use Rattle.m2_tree.specs.declared.name.Ident.{Ident}
use Rattle.m2_tree.specs.declared.decl.Block.{Block, out-Block}
use Rattle.m2_tree.specs.declared.decl.Contents.{Contents}
use Rattle.m2_tree.specs.declared.decl.Contents.TheVariants as contents
use Rattle.m2_tree.specs.declared.decl.Def.{Def}
use Rattle.m2_tree.specs.declared.decl.Import.{Import}
use Rattle.m2_tree.specs.declared.decl.Module.{Module}
use Rattle.m2_graph.specs.Imports.{named_by}
use Rattle.typed_tree.specs.declared.table.Table.{Table}
use Rattle.typed_tree.specs.declared.statement.TypedStmt.{TypedStmt}
use Rattle.typed_tree.specs.declared.typed_module.Imported.{Imported}
use Rattle.typed_tree.specs.declared.typed_module.TypedModule.{TypedModule}
use Rattle.m2_tree.specs.Names.{same_name}
use Rattle.typed_tree.specs.Names.{find_name, enter_name}
use Rattle.check_scope.specs.Elaborated.{Gathers, both, ◌▷◌}
use Rattle.check_scope.specs.Scopes.{State}
use Rattle.check_scope.specs.declared.scope.Scope.{Scope}
use Rattle.check_definition.specs.Compiled.{table_of, table_or, declared_in, of_definition, of_contents, definition_table}
use Rattle.check_definition.specs.Declare.{with_def}
use Rattle.check_definition.specs.Export.{with_table_if, with_place_if, with_imported, with_imports_of, with_import_of, imported_modules}
use Rattle.check_definition.specs.Importing.{with_place, with_numbered, numbered_modules, with_import}
use Rattle.check_definition.specs.Marking.{marked_def}
use Rattle.check_definition.specs.Predeclared.{console, first_scope}
use Rattle.check_block.specs.Nesting.{procedure_ends}
use Rattle.check_body.specs.Imports.{with_import_copy, definition_imports, all_imports, imported_as, with_table_of, with_place_of, with_module_of, typed_imports}
use Rattle.check_body.specs.Own.{implementation_scope}
use Rattle.check_body.specs.Routines.{typed_module}
use Rattle.check_body.specs.declared.routine.Bodies.{Bodies}
use Rattle.check_body.specs.Elaborating.{Elaborates}
use Rattle.check_body.specs.Checked.{module_or, walk_body, of_walk, of_body, of_implementation, body_module}
use Rattle.check_body.specs.Checked as bodies
use Rattle.law_well_formed.specs.FormedImports.{is_imported, is_imported_by, IsImport, NamesImports, StandsOnImports}
use Rattle.law_well_formed.proofs.ImportsLists.{same_is, or_left, or_right, all_each, each_push, Each, each_entered, found_each, keys_in, EachImported, imports_in, get_last}
use Rattle.law_well_formed.proofs.NamedTables.{Keeps, fold_keeps, def_marks, def_keeps, import_keeps}
use Rattle.law_well_formed.proofs.ImportsWalks.{walk_keeps}

-- ---- modules by name

-- the table at this place has this name
abbrev pub IsPlaced : List Table → List ℕ × ℕ → Type 0
IsPlaced tables e = (t : Table) × (slice_get tables e.1 ≡ Some t) × (t.name ≡ e.0)

module _ (tables : List Table) where
  place_by : (b : Bool) (name : List ℕ) (k : ℕ) (ms : List (List ℕ × ℕ)) → IsPlaced tables (name, k)
      → Each (IsPlaced tables) ms → Each (IsPlaced tables) (cond b ms (enter_name name k ms))
  place_by true name k ms p all = all
  place_by false name k ms p all = each_entered (IsPlaced tables) name k ms
      (λ other e. (p.0, p.1, p.2 ∙ same_is name other e)) all

  numbered_from : (before rest : List Table) (ms : List (List ℕ × ℕ)) → before ++ rest ≡ tables
      → Each (IsPlaced tables) ms → Each (IsPlaced tables) (fold with_numbered (ms, length before) rest).0
  numbered_from before [] ms e all = all
  numbered_from before (t ∷ rest) ms e all =
      let there : IsPlaced tables (t.name, length before) =
      (t, subst (λ (ts : List Table). slice_get ts (length before) ≡ Some t) e (get_last before t rest), refl) in
      let count : length (before ++ t ∷ []) ≡ length before + 1 = length-append before (t ∷ []) in
      subst (λ (n : ℕ). Each (IsPlaced tables) (fold with_numbered (with_place t.name (length before) ms, n) rest).0)
      count
      (numbered_from (before ++ t ∷ []) rest (with_place t.name (length before) ms)
      (append_assoc before (t ∷ []) rest ∙ e)
      (place_by (is_some (find_name t.name ms)) t.name (length before) ms there all))

  pub numbered_placed : Each (IsPlaced tables) (numbered_modules tables).0
  numbered_placed = numbered_from [] tables [] refl tt

-- ---- names

module _ (Q : List ℕ → Type 0) where
  abbrev KeysAre : List (List ℕ × ℕ) → Type 0
  KeysAre es = AllByRecursion (λ e. Q e.0) es

  key_more : (name : List ℕ) (n : ℕ) (es : List (List ℕ × ℕ)) → Q name → KeysAre es → KeysAre (enter_name name n es)
  key_more name n es p all = each_entered (λ (e : List ℕ × ℕ). Q e.0) name n es
      (λ other e. subst Q (same_is name other e) p) all

  copies : (es so : List (List ℕ × ℕ)) → KeysAre es → KeysAre so → KeysAre (fold with_import_copy so es)
  copies [] so all p = p
  copies (e ∷ es) so all p = copies es (enter_name e.0 e.1 so) all.1 (key_more e.0 e.1 so all.0 p)

  module _ (modules : List (List ℕ × ℕ)) (tables : List Table) where
    table_if : (so : List (List ℕ × ℕ)) (name : List ℕ) (o : Option Table) → Q name → KeysAre so
        → KeysAre (with_table_if so name o)
    table_if so name None p all = all
    table_if so name (Some t) p all = key_more name t.number so p all

    place_if : (so : List (List ℕ × ℕ)) (name : List ℕ) (o : Option ℕ) → Q name → KeysAre so
        → KeysAre (with_place_if tables so name o)
    place_if so name None p all = all
    place_if so name (Some k) p all = table_if so name (slice_get tables k) p all

    one_imported : (so : List (List ℕ × ℕ)) (name : Ident) → Q name.name → KeysAre so
        → KeysAre (with_imported modules tables so name)
    one_imported so name p all = place_if so name.name (find_name name.name modules) p all

    names_imported : (names : List Ident) (so : List (List ℕ × ℕ)) → AllByRecursion (λ x. Q x.name) names → KeysAre so
        → KeysAre (fold (with_imported modules tables) so names)
    names_imported [] so p all = all
    names_imported (x ∷ xs) so p all = names_imported xs (with_imported modules tables so x) p.1
        (one_imported so x p.0 all)

    imports_of : (so : List (List ℕ × ℕ)) (from : Option Ident) (names : List Ident)
        → AllByRecursion (λ x. Q x.name) (named_by from names) → KeysAre so
        → KeysAre (with_imports_of modules tables so from names)
    imports_of so None names p all = names_imported names so p all
    imports_of so (Some m) names p all = one_imported so m p.0 all

    pub imports_are : (is : List Import) (so : List (List ℕ × ℕ)) → EachImported Q is → KeysAre so
        → KeysAre (fold (with_import_of modules tables) so is)
    imports_are [] so p all = all
    imports_are (i ∷ is) so p all = imports_are is (with_import_of modules tables so i) p.1
        (imports_of so i.from i.names p.0 all)

  -- ---- the imports of a typed module

  abbrev IsNamed : Imported → Type 0
  IsNamed i = Q i.name × (same_name i.name (codes "Console") ≡ false)

  abbrev AreNamed : List Imported → Type 0
  AreNamed is = AllByRecursion IsNamed is

  instance_by : (b : Bool) (so : List Imported) (i : Imported) → same_name i.name (codes "Console") ≡ b → Q i.name
      → AreNamed so → AreNamed (cond b so (so ++ i ∷ []))
  instance_by true so i e p all = all
  instance_by false so i e p all = each_push IsNamed so i all (p, e)

  module _ (tables : List Table) where
    table_of_named : (so : List Imported) (name : List ℕ) (o : Option Table)
        → ((t : Table) → o ≡ Some t → t.name ≡ name) → Q name → AreNamed so → AreNamed (with_table_of so o)
    table_of_named so name None k p all = all
    table_of_named so name (Some t) k p all =
        instance_by (same_name t.name (codes "Console")) so (imported_as t) refl (subst Q (sym (k t refl)) p) all

    place_of_named : (so : List Imported) (e : List ℕ × ℕ) (o : Option ℕ)
        → ((k : ℕ) → o ≡ Some k → (t : Table) → slice_get tables k ≡ Some t → t.name ≡ e.0) → Q e.0 → AreNamed so
        → AreNamed (with_place_of tables so e o)
    place_of_named so e None k p all = instance_by (same_name e.0 (codes "Console")) so
        (record { name = e.0; number = e.1; variables = [] }) refl p all
    place_of_named so e (Some n) k p all = table_of_named so e.0 (slice_get tables n) (k n refl) p all

    module _ (modules : List (List ℕ × ℕ)) (placed : Each (IsPlaced tables) modules) where
      named_at : (name : List ℕ) (k : ℕ) → find_name name modules ≡ Some k → (t : Table) → slice_get tables k ≡ Some t
          → t.name ≡ name
      named_at name k h t e =
          let f = found_each (IsPlaced tables) name modules k placed h in
          let same : t ≡ f.2.0 = same_Some t f.2.0 (sym e ∙ f.2.1) in
          ap (λ (x : Table). x.name) same ∙ (f.2.2 ∙ sym (same_is name f.0 f.1))

      pub typed_are : (es : List (List ℕ × ℕ)) (so : List Imported) → KeysAre es → AreNamed so
          → AreNamed (fold (with_module_of modules tables) so es)
      typed_are [] so p all = all
      typed_are (e ∷ es) so p all = typed_are es (with_module_of modules tables so e) p.1
          (place_of_named so e (find_name e.0 modules) (named_at e.0) p.0 all)

-- ---- tables of definitions

module _ (m : Module) where
  own_imports : EachImported (λ name. is_imported m name ≡ true) m.imports
  own_imports = imports_in (λ name. is_imported m name ≡ true) m.imports (λ name h. h)

module _ (g : Gathers) (m : Module) where
  table_names : (home : ℕ) (modules : List (List ℕ × ℕ)) (s : Scope g.Reported) → s.types.home ≡ home
      → NamesImports m home (table_of m modules s)
  table_names home modules s e = record {
    name = refl;
    number = e;
    imports = all_each (λ (x : List ℕ × ℕ). is_imported m x.0 ≡ true) (imported_modules modules s.tables m.imports)
        (imports_are (λ name. is_imported m name ≡ true) modules s.tables m.imports [] (own_imports m) tt);
  }

  named_or : (home : ℕ) (modules : List (List ℕ × ℕ)) (s : Scope g.Reported) (r : Result (Unit {0}) g.Reported)
      → s.types.home ≡ home → IfOk (table_or m modules s r) (NamesImports m home)
  named_or home modules s (Ok x) e = table_names home modules s e
  named_or home modules s (Err f) e = tt

  declared_keeps : (modules : List (List ℕ × ℕ)) (s : Scope g.Reported) (defs : List Def)
      → Keeps s (declared_in g m modules s defs).0
  declared_keeps modules s defs =
      let i : State (Unit {0}) g.Reported = fold (with_import g modules) (s, Ok tt) m.imports in
      fold_keeps (λ (st : State (Unit {0}) g.Reported). st.0) (with_def g) (def_keeps g) defs
      (fold marked_def i.0 defs, i.1)
      ∙ (fold_keeps (λ (s : Scope g.Reported). s) marked_def (def_marks g.Reported) defs i.0
      ∙ import_keeps g modules m.imports (s, Ok tt))

  definition_named : (home : ℕ) (tables : List Table) (defs : List Def)
      → IfOk (of_definition g home m tables defs) (NamesImports m home)
  definition_named home tables defs =
      let modules = (numbered_modules tables).0 in
      let s : Scope g.Reported = first_scope home tables in
      let st = declared_in g m modules s defs in
      named_or home modules st.0 st.1 (ap (λ (k : List Table × ℕ). k.1) (declared_keeps modules s defs))

  contents_named : (home : ℕ) (tables : List Table) (c : Contents)
      → IfOk (of_contents g home m tables c) (NamesImports m home)
  contents_named home tables (contents.Definition defs) = definition_named home tables defs
  contents_named home tables (contents.Implementation b) = tt
  contents_named home tables (contents.Program b) = tt

pub tables_named : (g : Gathers) (home : ℕ) (m : Module) (tables : List Table)
    → IfOk (definition_table g home m tables) (NamesImports m home)
tables_named g home m tables = contents_named g m home (tables ++ console ∷ []) m.contents

-- ---- typed modules

module _ (m : Module) (own : Option Table) where
  abbrev IsOne : List ℕ → Type 0
  IsOne name = (is_imported_by own name || is_imported m name) ≡ true

  definition_ones : (o : Option Table) → ((name : List ℕ) → is_imported_by o name ≡ true → IsOne name)
      → KeysAre IsOne (definition_imports o)
  definition_ones None k = tt
  definition_ones (Some t) k = copies IsOne t.imports [] (keys_in IsOne t.imports k) tt

  all_ones : (modules : List (List ℕ × ℕ)) (tables : List Table)
      → KeysAre IsOne (all_imports modules tables own m.imports)
  all_ones modules tables =
      imports_are IsOne modules tables m.imports (definition_imports own)
      (imports_in IsOne m.imports (λ name h. or_right (is_imported_by own name) (is_imported m name) h))
      (definition_ones own (λ name h. or_left (is_imported_by own name) (is_imported m name) h))

  ones_are : (is : List Imported) → AreNamed IsOne is → AllByRecursion (IsImport m own) is
  ones_are [] all = tt
  ones_are (i ∷ is) all = (record { known = all.0.0; instance = all.0.1 }, ones_are is all.1)

  modules_are : (tables : List Table) → AllByRecursion (IsImport m own)
      (typed_imports (numbered_modules tables).0 tables (all_imports (numbered_modules tables).0 tables own m.imports))
  modules_are tables = let modules = (numbered_modules tables).0 in
      ones_are _ (typed_are IsOne tables modules (numbered_placed tables) (all_imports modules tables own m.imports) []
      (all_ones modules tables) tt)

  imports_at : (tables others : List Table) → others ≡ tables
      → AllByRecursion (IsImport m own) (typed_imports (numbered_modules tables).0 others
      (all_imports (numbered_modules tables).0 others own m.imports))
  imports_at tables others e = subst (λ (ts : List Table). AllByRecursion (IsImport m own)
      (typed_imports (numbered_modules tables).0 ts (all_imports (numbered_modules tables).0 ts own m.imports))) (sym e)
      (modules_are tables)

  module _ (g : Gathers) where
    module_stands : (s : Scope g.Reported) (tables : List Table) (rs : Bodies) (body : List TypedStmt)
        → s.tables ≡ tables → StandsOnImports m own (typed_module s (numbered_modules tables).0 own m rs body)
    module_stands s tables rs body e = record {
      name = refl;
      imports =
          all_each (IsImport m own) _ (imports_at tables s.tables e);
    }

    stands_if : (s : Scope g.Reported) (tables : List Table) (rs : Bodies)
        (r : Result (Unit {0} × List TypedStmt) g.Reported) → s.tables ≡ tables
        → IfOk (r ▷ λ p. Ok (typed_module s (numbered_modules tables).0 own m rs p.1)) (StandsOnImports m own)
    stands_if s tables rs (Ok p) e = module_stands s tables rs p.1 e
    stands_if s tables rs (Err f) e = tt

    body_stands : (elaborates : Elaborates g.Reported) (s : Scope g.Reported) (b : Block)
        → IfOk (of_body g elaborates s own m b) (StandsOnImports m own)
    body_stands elaborates s b =
        let modules = (numbered_modules s.tables).0 in
        let c = walk_body g elaborates modules (procedure_ends (out-Block b).decls) s m b in
        stands_if c.0.scope s.tables c.0.bodies (both g c.0.so_far c.1)
        (ap (λ (k : List Table × ℕ). k.0) (walk_keeps g elaborates (procedure_ends (out-Block b).decls) modules s m
        b))

module _ (g : Gathers) (elaborates : Elaborates g.Reported) (m : Module) where
  implementation_stands : (o : Option Table) (tables : List Table) (b : Block)
      → IfOk (of_implementation g elaborates m o tables b) (StandsOnImports m o)
  implementation_stands None tables b = tt
  implementation_stands (Some own) tables b = body_stands m (Some own) g elaborates (implementation_scope own tables) b

  -- a program has no definition of its own
  program_import : (o : Option Table) (i : Imported) → IsImport m None i → IsImport m o i
  program_import o i k = record {
    known = or_right (is_imported_by o i.name) (is_imported m i.name) k.known;
    instance =
        k.instance;
  }

  program_if : (o : Option Table) (r : Result TypedModule g.Reported) → IfOk r (StandsOnImports m None)
      → IfOk r (StandsOnImports m o)
  program_if o (Ok t) p = record { name = p.name; imports = λ k d h. program_import o _ (p.imports k d h) }
  program_if o (Err f) p = tt

  contents_stand : (home : ℕ) (o : Option Table) (tables : List Table) (c : Contents)
      → IfOk (bodies.of_contents g elaborates home m o tables c) (StandsOnImports m o)
  contents_stand home o tables (contents.Definition defs) = tt
  contents_stand home o tables (contents.Implementation b) = implementation_stands o tables b
  contents_stand home o tables (contents.Program b) =
      program_if o _ (body_stands m None g elaborates (first_scope home tables) b)

pub modules_stand : (g : Gathers) (elaborates : Elaborates g.Reported) (home : ℕ) (m : Module) (own : Option Table)
    (tables : List Table) → IfOk (body_module g elaborates home m own tables) (StandsOnImports m own)
modules_stand g elaborates home m own tables =
    contents_stand g elaborates m home own (tables ++ console ∷ []) m.contents
