-- The procedures of a module with their bodies, and the module of them.
use Rattle.std.specs.Prelude.{ℕ, ◌==◌, cond, List, [], ◌∷◌, ◌++◌, map, drop, Option, Some, None, Result, Ok, Err, slice_set}
use Rattle.m2_tree.specs.declared.name.Ident.{Ident}
use Rattle.m2_tree.specs.declared.pos.Pos.{Pos}
use Rattle.m2_tree.specs.declared.decl.Module.{Module}
use Rattle.typed_tree.specs.declared.types.TypeNo.{TypeNo}
use Rattle.typed_tree.specs.declared.meaning.Meaning.{Meaning}
use Rattle.typed_tree.specs.declared.meaning.Meaning.TheVariants as meaning
use Rattle.typed_tree.specs.declared.statement.TypedStmt.{TypedStmt}
use Rattle.typed_tree.specs.declared.table.Table.{Table}
use Rattle.typed_tree.specs.declared.typed_module.Routine.{Routine}
use Rattle.typed_tree.specs.declared.typed_module.Which.{Which}
use Rattle.typed_tree.specs.declared.typed_module.Which.TheVariants as which
use Rattle.typed_tree.specs.declared.typed_module.Imported.{Imported}
use Rattle.typed_tree.specs.declared.typed_module.TypedModule.{TypedModule}
use Rattle.typed_tree.specs.Types.{integer}
use Rattle.typed_tree.specs.Names.{find_name}
use Rattle.check_scope.specs.declared.known.Known.{Known}
use Rattle.check_scope.specs.declared.known.Known.TheVariants.{Later, Ahead, Begun, Headed, Declared}
use Rattle.check_scope.specs.declared.scope.Scope.{Scope}
use Rattle.check_body.specs.declared.routine.Numbered.{Numbered}
use Rattle.check_body.specs.declared.routine.Bodies.{Bodies}
use Rattle.check_body.specs.Imports.{all_imports, typed_imports}

-- ---- which procedure a heading of the block begins

abbrev pub numbered_by : Meaning → Option Numbered
numbered_by (meaning.Procedure p) =
    Some (record { which = which.Module p.number; heading = p.heading })
numbered_by (meaning.LocalProcedure p) =
    Some (record { which = which.Local p.number; heading = p.heading })
numbered_by (meaning.Constant v) = None
numbered_by (meaning.Type t n) = None
numbered_by (meaning.Variable v) = None
numbered_by (meaning.Local v) = None
numbered_by (meaning.Field f) = None
numbered_by meaning.Ahead = None
numbered_by (meaning.Standard f) = None
numbered_by (meaning.Module k) = None

abbrev pub numbered_elaborated : {T : Type 0} → Result Meaning T → Option Numbered
numbered_elaborated (Ok m) = numbered_by m
numbered_elaborated (Err e) = None

abbrev pub numbered_known : {T : Type 0} → Option (Known T) → Option Numbered
numbered_known None = None
numbered_known (Some Later) = None
numbered_known (Some Ahead) = None
numbered_known (Some Begun) = None
numbered_known (Some (Headed m)) = numbered_elaborated m
numbered_known (Some (Declared o m)) = None

abbrev pub procedure_named : {T : Type 0} → Scope T → Ident → Option Numbered
procedure_named s name = numbered_known (find_name name.name s.own)

-- ---- their places in the two lists

-- the place of a procedure whose body is not checked yet
abbrev pub empty_routine : TypeNo → Routine
empty_routine heading = record {
  pos = record { line = 1; col = 1 };
  heading = heading;
  level = 1;
  around = None;
  variables = [];
  body = [];
}

-- where a module's block is declared
abbrev pub no_bodies : List TypeNo → Bodies
no_bodies headings = record { procedures = map empty_routine headings; locals = []; order = [] }

-- where a procedure begins in a block of this level
abbrev pub begun_at : (level : ℕ) → Bodies → Bodies
begun_at level rs =
    cond (level == 0) rs (record rs { locals = rs.locals ++ empty_routine integer ∷ [] })

abbrev pub put_routine : Bodies → Which → Routine → Bodies
put_routine rs (which.Module n) r = record {
  procedures = slice_set rs.procedures n r;
  locals = rs.locals;
  order = rs.order ++ which.Module n ∷ [];
}
put_routine rs (which.Local n) r = record {
  procedures = rs.procedures;
  locals = slice_set rs.locals n r;
  order = rs.order ++ which.Local n ∷ [];
}

-- a procedure with its body, from the scope where its body ends; its formals come before its
-- variables
abbrev pub routine : {T : Type 0} → Scope T → Ident → Numbered → (around : Option Which)
    → (formals : ℕ) → List TypedStmt → Routine
routine s name p around formals body = record {
  pos = name.pos;
  heading = p.heading;
  level = s.level;
  around = around;
  variables = drop formals s.variables;
  body = body;
}

-- ---- the module

abbrev pub imports_of : {T : Type 0} → Scope T → (modules : List (List ℕ × ℕ)) → Option Table
    → Module → List Imported
imports_of s modules own m =
    typed_imports modules s.tables (all_imports modules s.tables own m.imports)

abbrev pub with_scope : {T : Type 0} → (name : List ℕ) → Pos → List Imported → Scope T → Bodies
    → List TypedStmt → TypedModule
with_scope name pos imports s rs body = record {
  name = name;
  pos = pos;
  imports = imports;
  types = s.types;
  variables = s.variables;
  procedures = rs.procedures;
  locals = rs.locals;
  order = rs.order;
  body = body;
}

abbrev pub typed_module : {T : Type 0} → Scope T → (modules : List (List ℕ × ℕ)) → Option Table
    → Module → Bodies → List TypedStmt → TypedModule
typed_module s modules own m rs body =
    with_scope m.name.name m.name.pos (imports_of s modules own m) s rs body
