-- Program and implementation modules, checked with the statements of their bodies.
use Rattle.std.specs.Prelude.{ℕ, false, List, Option, Result}
use Rattle.m2_tree.specs.declared.decl.Module.{Module}
use Rattle.typed_tree.specs.declared.table.Table.{Table}
use Rattle.typed_tree.specs.declared.typed_module.TypedModule.{TypedModule}
use Rattle.check_scope.specs.Elaborated.{Gathers}
use Rattle.check_body.specs.Elaborating.{Elaborates}
use Rattle.check_body.specs.Checked as bodies
use Rattle.check_stmt.specs.Statements.{statements}

-- no LOOP stands around the statements of a body
abbrev pub elaborate_body : (g : Gathers) → Elaborates g.Reported
elaborate_body g s returns body = statements g s (record { gives = returns; in_loop = false }) body

-- The module of a body, given the table of its own definition, if it has one, and the tables of
-- those that it imports.
abbrev pub body_module : (g : Gathers) → ℕ → Module → Option Table → List Table
    → Result TypedModule g.Reported
body_module g number m own imports = bodies.body_module g (elaborate_body g) number m own imports
