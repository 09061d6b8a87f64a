-- Trees nest no deeper than the parser's limit allows, typed trees no deeper than trees, and code
-- no deeper than typed trees.
use Rattle.std.specs.Prelude.{◌≡◌, ◌≤◌, ℕ, ◌+◌, ◌*◌, List, Option}
use Rattle.m2_tree.specs.declared.token.Token.{Token}
use Rattle.m2_tree.specs.declared.decl.Module.{Module}
use Rattle.typed_tree.specs.declared.table.Table.{Table}
use Rattle.typed_tree.specs.declared.statement.TypedStmt.{TypedStmt}
use Rattle.typed_tree.specs.declared.typed_module.TypedModule.{TypedModule}
use Rattle.def_grammar.specs.Refusal.{IsTree, max_nesting}
use Rattle.check_scope.specs.Elaborated.{Gathers}
use Rattle.check_body.specs.Checks.{body_module}
use Rattle.def_scheme.specs.Coded.{Setting, Counts}
use Rattle.def_scheme.specs.Exprs.{Numbered}
use Rattle.def_scheme.specs.Steps.{body_code}
use Rattle.def_scheme.specs.Modules.{functions, typed_link}
use Rattle.law_encoding.specs.Nesting.{◌⊔◌, deepest_of, case_levels, depth_module}
use Rattle.law_encoding.specs.TypedNesting.{depth_body, depth_bodies}
use Rattle.law_encoding.specs.CodeNesting.{levels, function_levels}
use Rattle.law_encoding.specs.Counted.{AtMost}
pub use Rattle.wasm_code.specs.Instructions.{max_levels}

-- what an expression without brackets nests: one level, and one more as a second operand of a
-- relation, of a sum and of a term
abbrev pub expression_levels : ℕ
expression_levels = 4

-- at each of the parser's levels a CASE, and at last an expression
abbrev pub most_nesting : ℕ
most_nesting = case_levels * max_nesting + expression_levels

-- The tree of a text nests no deeper than the parser's limit allows.
abbrev pub TreesAreShallow : Type 0
TreesAreShallow = (ts : List Token) (m : Module) → IsTree ts m → depth_module m ≤ most_nesting

-- The bodies of a module that the checker accepts nest no deeper than the module does.
abbrev pub ModulesAreShallow : Gathers → Type 0
ModulesAreShallow g = (number : ℕ) (m : Module) (own : Option Table) (tables : List Table)
    → AtMost depth_bodies (depth_module m) (body_module g number m own tables)

-- The code of statements nests no deeper than they do.
abbrev pub CodeIsShallow : Type 0
CodeIsShallow = (numbered : Numbered) (xs : List TypedStmt) (s : Setting) (c : Counts)
    → levels (body_code numbered xs s c).0 ≤ depth_body xs

-- The functions of a module nest no deeper than its bodies, or two levels.
abbrev pub FunctionsAreShallow : Type 0
FunctionsAreShallow = (m : TypedModule)
    → deepest_of function_levels (functions m) ≤ 2 ⊔ depth_bodies m

-- The function of the module link nests no level.
abbrev pub LinkIsFlat : Type 0
LinkIsFlat = (ms : List TypedModule) (pages : ℕ)
    → deepest_of function_levels (typed_link ms pages).functions ≡ 0

-- The functions of each module that is parsed and accepted nest no deeper than a WebAssembly module
-- may.
abbrev pub most_levels : TypedModule → ℕ
most_levels m = deepest_of function_levels (functions m)

abbrev pub AcceptedAreShallow : Gathers → Type 0
AcceptedAreShallow g = (ts : List Token) (m : Module) → IsTree ts m
    → (number : ℕ) (own : Option Table) (tables : List Table)
    → AtMost most_levels max_levels (body_module g number m own tables)
