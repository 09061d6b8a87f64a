-- Program and implementation modules, checked.
use Rattle.std.specs.Prelude.{ℕ, List, [], ◌∷◌, ◌++◌, Option, Some, None, Result, Ok}
use Rattle.m2_rule.specs.declared.rule.Rule.TheVariants as rule
use Rattle.m2_tree.specs.declared.decl.Decl.{Decl}
use Rattle.m2_tree.specs.declared.decl.Block.{Block, out-Block}
use Rattle.m2_tree.specs.declared.decl.Contents.{Contents}
use Rattle.m2_tree.specs.declared.decl.Contents.TheVariants as contents
use Rattle.m2_tree.specs.declared.decl.Module.{Module}
use Rattle.typed_tree.specs.declared.table.Table.{Table}
use Rattle.typed_tree.specs.declared.typed_module.TypedModule.{TypedModule}
use Rattle.check_scope.specs.declared.scope.Scope.{Scope}
use Rattle.check_scope.specs.Elaborated.{Gathers, report, both, ◌▷◌}
use Rattle.check_definition.specs.Predeclared.{console, first_scope}
use Rattle.check_definition.specs.Importing.{numbered_modules}
use Rattle.check_block.specs.Nesting.{procedure_ends}
use Rattle.check_block.specs.Declarations.{declared_module}
use Rattle.check_body.specs.Own.{implementation_scope}
use Rattle.check_body.specs.Routines.{no_bodies, typed_module}
use Rattle.check_body.specs.declared.procedure.Walk.{Walk}
use Rattle.check_body.specs.Elaborating.{Elaborates}
use Rattle.check_body.specs.Bodies.{Checked, begun_from, with_statements, bodies_checked}

-- the module if no rule is broken, in its declarations, in its procedures or in its statements
abbrev pub module_or : (g : Gathers) → (modules : List (List ℕ × ℕ)) → Option Table → Module
    → Checked g.Reported → Result TypedModule g.Reported
module_or g modules own m c =
    both g c.0.so_far c.1 ▷ λ p. Ok (typed_module c.0.scope modules own m c.0.bodies p.1)

-- the walk behind the declarations of a module, and how many names stand before each
abbrev pub begun_module : (g : Gathers) → (modules : List (List ℕ × ℕ)) → (ends : List ℕ)
    → Scope g.Reported → Module → List Decl → Walk g.Reported × List ℕ
begun_module g modules ends s m ds =
    let d = declared_module g modules ends s m ds in (begun_from d (no_bodies d.0.procedures), d.2)

module _ (g : Gathers) (elaborates : Elaborates g.Reported) where
  -- behind its declarations the bodies of its procedures, and then its own
  abbrev pub walk_body : (modules : List (List ℕ × ℕ)) → (ends : List ℕ) → Scope g.Reported → Module
      → Block → Checked g.Reported
  walk_body modules ends s m b =
      let w = begun_module g modules ends s m (out-Block b).decls in
      with_statements elaborates None (out-Block b).body
      (bodies_checked g elaborates ends None w.1 w.0 (out-Block b).decls)

  abbrev pub of_walk : (modules : List (List ℕ × ℕ)) → Scope g.Reported → Option Table → Module
      → Block → Result TypedModule g.Reported
  of_walk modules s own m b =
      module_or g modules own m (walk_body modules (procedure_ends (out-Block b).decls) s m b)

  -- from the scope where it begins
  abbrev pub of_body : Scope g.Reported → Option Table → Module → Block
      → Result TypedModule g.Reported
  of_body s own m b = of_walk (numbered_modules s.tables).0 s own m b

  -- an implementation stands on the table of its definition
  abbrev pub of_implementation : Module → Option Table → List Table → Block
      → Result TypedModule g.Reported
  of_implementation m None tables b = report g m.name.pos rule.LonelyModule
  of_implementation m (Some own) tables b = of_body (implementation_scope own tables) (Some own) m b

  abbrev pub of_contents : ℕ → Module → Option Table → List Table → Contents
      → Result TypedModule g.Reported
  of_contents number m own tables (contents.Definition defs) =
      report g m.name.pos rule.LonelyModule
  of_contents number m own tables (contents.Implementation b) = of_implementation m own tables b
  of_contents number m own tables (contents.Program b) =
      of_body (first_scope number tables) None m b

  -- The module of a body, given the table of its own definition, if it has one, and the tables of
  -- those that it imports; the table of Console is always there.
  abbrev pub body_module : ℕ → Module → Option Table → List Table → Result TypedModule g.Reported
  body_module number m own imports = of_contents number m own (imports ++ console ∷ []) m.contents
