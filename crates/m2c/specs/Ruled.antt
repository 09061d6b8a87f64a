-- That the rules of the language decide what is answered of each module.
use Rattle.std.specs.Prelude.{◌≡◌, ℕ, List, Option, Some, None, slice_get, slice_index_or}
use Rattle.m2_tree.specs.declared.decl.Block.{Block}
use Rattle.m2_tree.specs.declared.decl.Contents.{Contents}
use Rattle.m2_tree.specs.declared.decl.Contents.TheVariants as contents
use Rattle.m2_tree.specs.declared.decl.Module.{Module}
use Rattle.typed_tree.specs.declared.table.Table.{Table}
use Rattle.law_rules.specs.Ruled.{IsDefinitionRuled, IsProgramRuled, IsImplementationRuled, IsLonely}
use Rattle.build_jobs.specs.Own.{own_table, tables_behind}
use Rattle.build_jobs.specs.Compiling.{tables_of}
use Rattle.build_jobs.specs.Jobs.{needed_of}

-- an implementation, by the table of its definition
abbrev pub IsRuledBy : Option Table → (number : ℕ) → Module → List Table → Block → Type 0
IsRuledBy (Some own) number m imported b = IsImplementationRuled own m imported b
IsRuledBy None number m imported b = IsLonely number m imported

-- a module of this number, beside the tables of those that it needs
abbrev pub IsRuled : Module → (number : ℕ) → List Table → Contents → Type 0
IsRuled m number tables (contents.Definition defs) = IsDefinitionRuled number m tables defs
IsRuled m number tables (contents.Program b) =
    IsProgramRuled number m (tables_behind (own_table m tables) tables) b
IsRuled m number tables (contents.Implementation b) =
    let own = own_table m tables in IsRuledBy own number m (tables_behind own tables) b

-- The rules decide which modules have a table or a typed tree, and which refusal the others have.
abbrev pub AreRuled : List Module → (files : List ℕ) → (jobs : List (List ℕ)) → Type 0
AreRuled trees files jobs =
    (job : ℕ) (m : Module) → slice_get trees (slice_index_or files job 0) ≡ Some m
    → IsRuled m job (tables_of (needed_of trees files jobs job)) m.contents
