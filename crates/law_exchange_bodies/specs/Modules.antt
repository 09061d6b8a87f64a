-- What is checked of a body, and typed modules, with other numbers of modules.
use Rattle.std.specs.Prelude.{ℕ, map, List, Option, Result}
use Rattle.std.specs.Option.{option_map}
use Rattle.typed_tree.specs.declared.types.TypeNo.{TypeNo}
use Rattle.typed_tree.specs.declared.statement.TypedStmt.{TypedStmt}
use Rattle.typed_tree.specs.declared.typed_module.Imported.{Imported}
use Rattle.typed_tree.specs.declared.typed_module.Routine.{Routine}
use Rattle.typed_tree.specs.declared.typed_module.TypedModule.{TypedModule}
use Rattle.check_block.specs.declared.heading.Standing.{Standing}
use Rattle.check_block.specs.declared.heading.Standing.TheVariants.{Free, Awaited, Taken}
use Rattle.check_scope.specs.declared.inner.Outside.{Outside}
use Rattle.check_block.specs.Inner.{Formals}
use Rattle.check_block.specs.Declarations.{Course, Declared}
use Rattle.check_body.specs.declared.routine.Numbered.{Numbered}
use Rattle.check_body.specs.declared.routine.Bodies.{Bodies}
use Rattle.check_body.specs.declared.procedure.Walk.{Walk}
use Rattle.check_body.specs.declared.procedure.Begun.{Begun}
use Rattle.check_body.specs.Bodies.{Checked}
use Rattle.def_exchange.specs.Moved.{Exchange, moved_procedure, moved_type, moved_types}
use Rattle.law_exchange_types.specs.Pieces.{map_ok}
use Rattle.law_exchange_types.specs.Scopes.{moved_names, moved_scope}
use Rattle.law_exchange_exprs.specs.Steps.{moved_stmt}

module _ (x : Exchange) where
  -- ---- blocks

  abbrev pub moved_standing : Standing → Standing
  moved_standing Free = Free
  moved_standing (Awaited p) = Awaited (moved_procedure x p)
  moved_standing Taken = Taken

  abbrev pub moved_outside : Outside → Outside
  moved_outside o = record { level = o.level; variables = map (moved_type x) o.variables }

  abbrev pub moved_formals : {T : Type 0} → Formals T → Formals T
  moved_formals fs = (moved_names x fs.0, map (moved_type x) fs.1)

  -- the number of the next procedure in a procedure stays
  abbrev pub moved_course : {T : Type 0} → Course T → Course T
  moved_course c = (moved_scope x c.0, c.1, c.2)

  abbrev pub moved_declared : {T : Type 0} → Declared T → Declared T
  moved_declared d = (moved_scope x d.0, d.1, d.2)

  -- ---- procedures with their bodies

  abbrev pub moved_routine : Routine → Routine
  moved_routine r = record {
    pos = r.pos;
    heading = moved_type x r.heading;
    level = r.level;
    around = r.around;
    variables = map (moved_type x) r.variables;
    body = map (moved_stmt x) r.body;
  }

  abbrev pub moved_numbered : Numbered → Numbered
  moved_numbered p = record { which = p.which; heading = moved_type x p.heading }

  abbrev pub moved_bodies : Bodies → Bodies
  moved_bodies rs = record {
    procedures = map moved_routine rs.procedures;
    locals = map moved_routine rs.locals;
    order = rs.order;
  }

  -- ---- walks

  abbrev pub moved_walk : {T : Type 0} → Walk T → Walk T
  moved_walk w =
      record { scope = moved_scope x w.scope; so_far = w.so_far; bodies = moved_bodies w.bodies }

  abbrev pub moved_returns : {T : Type 0} → Option (Result TypeNo T) → Option (Result TypeNo T)
  moved_returns r = option_map (map_ok (moved_type x)) r

  abbrev pub moved_begun : {T : Type 0} → Begun T → Begun T
  moved_begun b = record {
    outside = moved_outside b.outside;
    procedure = option_map moved_numbered b.procedure;
    formals = b.formals;
    returns = moved_returns b.returns;
  }

  abbrev pub moved_body : {T : Type 0} → Result (List TypedStmt) T → Result (List TypedStmt) T
  moved_body body = map_ok (map (moved_stmt x)) body

  abbrev pub moved_checked : {T : Type 0} → Checked T → Checked T
  moved_checked c = (moved_walk c.0, moved_body c.1)

  -- ---- modules

  abbrev pub moved_imported : Imported → Imported
  moved_imported i = record {
    name = i.name;
    number = x.there i.number;
    variables = map (moved_type x) i.variables;
  }

  -- the modules that are imported, by their names
  abbrev pub moved_imports : List (List ℕ × ℕ) → List (List ℕ × ℕ)
  moved_imports is = map (λ i. (i.0, x.there i.1)) is

  abbrev pub moved_module : TypedModule → TypedModule
  moved_module m = record {
    name = m.name;
    pos = m.pos;
    imports = map moved_imported m.imports;
    types = moved_types x m.types;
    variables = map (moved_type x) m.variables;
    procedures = map moved_routine m.procedures;
    locals = map moved_routine m.locals;
    order = m.order;
    body = map (moved_stmt x) m.body;
  }
