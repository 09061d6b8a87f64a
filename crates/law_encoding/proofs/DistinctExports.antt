-- The table of a definition exports each name once.
use Rattle.std.proofs.Common.{◌≡◌, ℕ, List, [], ◌∷◌, ◌++◌, Some, Result, Ok, Err}
use Rattle.std.specs.Prelude.{IfOk}
use Rattle.std.specs.List.{fold}
use Rattle.std.proofs.lemmas.List.Elements.{All-from_recursion}
use Rattle.m2_tree.specs.declared.decl.Contents.{Contents}
use Rattle.m2_tree.specs.declared.decl.Contents.TheVariants as contents
use Rattle.m2_tree.specs.declared.decl.Module.{Module}
use Rattle.wasm_tree.specs.Validity.{AreDistinct}
use Rattle.typed_tree.specs.declared.meaning.Meaning.{Meaning}
use Rattle.typed_tree.specs.declared.table.Table.{Table}
use Rattle.check_scope.specs.Elaborated.{Gathers}
use Rattle.check_scope.specs.declared.known.Known.{Known}
use Rattle.check_scope.specs.declared.known.Known.TheVariants.{Later, Ahead, Begun, Headed, Declared}
use Rattle.check_scope.specs.declared.known.Origin.{Origin}
use Rattle.check_scope.specs.declared.known.Origin.TheVariants as origin
use Rattle.check_scope.specs.declared.scope.Scope.{Scope}
use Rattle.check_definition.specs.Compiled.{declared_in, table_or, of_contents, definition_table}
use Rattle.check_definition.specs.Export.{with_meaning, with_declared, with_known, with_export, exports}
use Rattle.check_definition.specs.Importing.{numbered_modules}
use Rattle.check_definition.specs.Predeclared.{console, first_scope}
use Rattle.law_encoding.specs.DeclaredProcedures.{ExportsOnce}
use Rattle.law_encoding.proofs.DistinctImports.{Differ, KeysDiffer, entered_differ, keys, keys_differ}

-- ---- names that are exported

meaning_differs : {E : Type 0} (so : List (List ℕ × Meaning)) (name : List ℕ) (r : Result Meaning E) → KeysDiffer so
    → KeysDiffer (with_meaning so name r)
meaning_differs so name (Ok m) d = entered_differ name m so d
meaning_differs so name (Err e) d = d

module _ {T : Type 0} where
  declared_differs : (so : List (List ℕ × Meaning)) (name : List ℕ) (o : Origin) (r : Result Meaning T) → KeysDiffer so
      → KeysDiffer (with_declared so name o r)
  declared_differs so name origin.Here r d = meaning_differs so name r d
  declared_differs so name (origin.Module k) r d = d
  declared_differs so name (origin.Export k) r d = d

  known_differs : (so : List (List ℕ × Meaning)) (name : List ℕ) (k : Known T) → KeysDiffer so
      → KeysDiffer (with_known so name k)
  known_differs so name Later d = d
  known_differs so name Ahead d = d
  known_differs so name Begun d = d
  known_differs so name (Headed r) d = meaning_differs so name r d
  known_differs so name (Declared o r) d = declared_differs so name o r d

  exports_differ : (es : List (List ℕ × Known T)) (so : List (List ℕ × Meaning)) → KeysDiffer so
      → KeysDiffer (fold with_export so es)
  exports_differ [] so d = d
  exports_differ (e ∷ es) so d = exports_differ es (with_export so e) (known_differs so e.0 e.1 d)

-- ---- tables

pub differ_distinct : (xs : List (List ℕ)) → Differ xs → AreDistinct xs
differ_distinct [] d = tt
differ_distinct (x ∷ xs) d = (All-from_recursion (λ y. x ≡ y → ⊥) xs d.0, differ_distinct xs d.1)

exported_once : {T : Type 0} (s : Scope T) → AreDistinct (keys (exports s.own))
exported_once s = differ_distinct (keys (exports s.own)) (keys_differ (exports s.own) (exports_differ s.own [] tt))

module _ (g : Gathers) where
  table_once : (m : Module) (modules : List (List ℕ × ℕ)) (s : Scope g.Reported) (r : Result (Unit {0}) g.Reported)
      → IfOk (table_or m modules s r) (λ t. ExportsOnce (Some t))
  table_once m modules s (Ok u) = exported_once s
  table_once m modules s (Err e) = tt

  contents_once : (number : ℕ) (m : Module) (tables : List Table) (c : Contents)
      → IfOk (of_contents g number m tables c) (λ t. ExportsOnce (Some t))
  contents_once number m tables (contents.Definition defs) =
      let modules = (numbered_modules tables).0 in
      let st = declared_in g m modules (first_scope number tables) defs in
      table_once m modules st.0 st.1
  contents_once number m tables (contents.Implementation b) = tt
  contents_once number m tables (contents.Program b) = tt

  pub tables_once : (number : ℕ) (m : Module) (tables : List Table)
      → IfOk (definition_table g number m tables) (λ t. ExportsOnce (Some t))
  tables_once number m tables = contents_once number m (tables ++ console ∷ []) m.contents
