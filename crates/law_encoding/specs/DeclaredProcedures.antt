-- The procedures of a module are those that its text declares outermost, so the module counts no
-- more than its tree.
use Rattle.std.specs.Prelude.{ℕ, List, map, length, Option, Some, None, IfOk}
use Rattle.m2_tree.specs.declared.decl.Decl.{Decl, Decl-F, out-Decl}
use Rattle.m2_tree.specs.declared.decl.Decl.TheOpen as layer
use Rattle.m2_tree.specs.declared.decl.Block.{out-Block}
use Rattle.m2_tree.specs.declared.decl.Contents.{Contents}
use Rattle.m2_tree.specs.declared.decl.Contents.TheVariants as contents
use Rattle.m2_tree.specs.declared.decl.Module.{Module}
use Rattle.wasm_tree.specs.Validity.{AreDistinct}
use Rattle.typed_tree.specs.declared.table.Table.{Table}
use Rattle.typed_tree.specs.declared.typed_module.TypedModule.{TypedModule}
use Rattle.check_scope.specs.Elaborated.{Gathers}
use Rattle.check_definition.specs.Compiled.{definition_table}
use Rattle.check_body.specs.Checks.{body_module}
use Rattle.law_encoding.specs.Sizes.{sum_of, size_module}
use Rattle.law_encoding.specs.Counted.{AtMost}
use Rattle.law_encoding.specs.Short.{counts_in}

-- one for a procedure
abbrev pub headings_of : {A B : Type 0} → Decl-F A B → ℕ
headings_of (layer.Constants cs) = 0
headings_of (layer.Types ts) = 0
headings_of (layer.Variables vs) = 0
headings_of (layer.Procedure h b) = 1

abbrev pub declared_headings : List Decl → ℕ
declared_headings ds = sum_of (λ d. headings_of (out-Decl d)) ds

-- the procedures that the block of a module declares, without those in them
abbrev pub outermost_in : Contents → ℕ
outermost_in (contents.Definition defs) = 0
outermost_in (contents.Implementation b) = declared_headings (out-Block b).decls
outermost_in (contents.Program b) = declared_headings (out-Block b).decls

-- a definition exports each name once
abbrev pub ExportsOnce : Option Table → Type 0
ExportsOnce None = Unit {0}
ExportsOnce (Some t) = AreDistinct (map (λ e. e.0) t.exported)

-- So does the table that the checker makes of a definition.
abbrev pub TablesExportOnce : Gathers → Type 0
TablesExportOnce g = (number : ℕ) (m : Module) (tables : List Table)
    → IfOk (definition_table g number m tables) (λ t. ExportsOnce (Some t))

-- the procedures of a typed module, without those in them
abbrev pub procedures_of : TypedModule → ℕ
procedures_of t = length t.procedures

-- In a module that the checker accepts there are no others: each procedure that the definition
-- exports is declared.
abbrev pub ProceduresAreDeclared : Gathers → Type 0
ProceduresAreDeclared g =
    (number : ℕ) (m : Module) (own : Option Table) (tables : List Table) → ExportsOnce own
    → AtMost procedures_of (outermost_in m.contents) (body_module g number m own tables)

-- Procedures, formals and bodies count no more than the module's tree.
abbrev pub CountsAreSmall : Gathers → Type 0
CountsAreSmall g =
    (number : ℕ) (m : Module) (own : Option Table) (tables : List Table) → ExportsOnce own
    → AtMost counts_in (size_module m) (body_module g number m own tables)
