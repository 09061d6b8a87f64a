-- How deep the procedures of a module stand.
use Rattle.std.specs.Prelude.{ℕ, List, Option}
use Rattle.m2_tree.specs.declared.token.Token.{Token}
use Rattle.m2_tree.specs.declared.decl.Module.{Module}
use Rattle.typed_tree.specs.declared.table.Table.{Table}
use Rattle.typed_tree.specs.declared.typed_module.Routine.{Routine}
use Rattle.typed_tree.specs.declared.typed_module.TypedModule.{TypedModule}
use Rattle.def_grammar.specs.Refusal.{IsTree, max_nesting}
use Rattle.check_scope.specs.Elaborated.{Gathers}
use Rattle.check_body.specs.Checks.{body_module}
use Rattle.law_encoding.specs.Nesting.{◌⊔◌, deepest_of}
use Rattle.law_encoding.specs.Counted.{AtMost}
use Rattle.law_encoding.specs.Outward.{outward_bodies}
use Rattle.law_encoding.specs.ProcedureNesting.{procedures_module}

abbrev pub level_of : Routine → ℕ
level_of r = r.level

abbrev pub greatest_level : TypedModule → ℕ
greatest_level m = deepest_of level_of m.procedures ⊔ deepest_of level_of m.locals

-- In a module that the checker accepts, no procedure stands deeper than procedures nest in its
-- tree. One that waits for its body has level 1.
abbrev pub LevelsAreLow : Gathers → Type 0
LevelsAreLow g = (number : ℕ) (m : Module) (own : Option Table) (tables : List Table)
    → AtMost greatest_level (1 ⊔ procedures_module m) (body_module g number m own tables)

-- So the bodies of what is parsed and accepted go at most 200 procedures outwards.
abbrev pub AcceptedAreNear : Gathers → Type 0
AcceptedAreNear g = (ts : List Token) (m : Module) → IsTree ts m
    → (number : ℕ) (own : Option Table) (tables : List Table)
    → AtMost outward_bodies max_nesting (body_module g number m own tables)
