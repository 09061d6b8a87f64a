-- Into the body of a procedure, and out of it.
use Rattle.std.specs.Prelude.{ℕ, List, length, Option, Some, None, Result, Ok, Err}
use Rattle.m2_tree.specs.declared.name.Ident.{Ident}
use Rattle.m2_tree.specs.declared.decl.Heading.{Heading}
use Rattle.typed_tree.specs.declared.types.TypeNo.{TypeNo}
use Rattle.typed_tree.specs.declared.statement.TypedStmt.{TypedStmt}
use Rattle.typed_tree.specs.declared.typed_module.Which.{Which}
use Rattle.check_scope.specs.declared.scope.Scope.{Scope}
use Rattle.check_scope.specs.Scopes.{State}
use Rattle.check_scope.specs.Elaborated.{Gathers, beside, ◌▷◌}
use Rattle.check_scope.specs.Inwards.{outside, left_procedure}
use Rattle.check_block.specs.Inner.{entered_procedure}
use Rattle.check_body.specs.declared.routine.Numbered.{Numbered}
use Rattle.check_body.specs.declared.routine.Bodies.{Bodies}
use Rattle.check_body.specs.Routines.{procedure_named, begun_at, put_routine, routine}
use Rattle.check_body.specs.declared.procedure.Walk.{Walk}
use Rattle.check_body.specs.declared.procedure.Begun.{Begun}

-- ---- inwards

-- what a RETURN in the body gives. If the heading breaks a rule, so does what looks at it.
abbrev pub returns_of : {T : Type 0} → Result (Option TypeNo) T → Option (Result TypeNo T)
returns_of (Ok None) = None
returns_of (Ok (Some t)) = Some (Ok t)
returns_of (Err e) = Some (Err e)

abbrev pub which_of : Option Numbered → Option Which
which_of None = None
which_of (Some p) = Some p.which

abbrev pub begun_as : {T : Type 0} → Walk T → Option Numbered → State (Option TypeNo) T
    → Walk T × Begun T
begun_as w p e = (
  record { scope = e.0; so_far = w.so_far; bodies = begun_at w.scope.level w.bodies },
  record {
    outside = outside w.scope;
    procedure = p;
    formals = length e.0.variables;
    returns = returns_of e.1;
  },
)

-- the walk where a procedure's block begins, and what is kept of the procedure up to its end
abbrev pub begun_procedure : (g : Gathers) → Walk g.Reported → (seen : ℕ) → Heading
    → Walk g.Reported × Begun g.Reported
begun_procedure g w seen h =
    begun_as w (procedure_named w.scope h.name) (entered_procedure g w.scope seen h)

-- ---- outwards

abbrev pub reported_in : {T : Type 0} → Result (List TypedStmt) T → Result (Unit {0}) T
reported_in body = body ▷ λ xs. Ok tt

-- a procedure has its body if it has a number, and no rule is broken in its statements
abbrev pub with_routine : {T : Type 0} → Scope T → Ident → (around : Option Which) → (formals : ℕ)
    → Option Numbered → Result (List TypedStmt) T → Bodies → Bodies
with_routine s name around n None body rs = rs
with_routine s name around n (Some p) (Ok xs) rs =
    put_routine rs p.which (routine s name p around n xs)
with_routine s name around n (Some p) (Err e) rs = rs

-- behind the END of a procedure; what its statements reported counts now
abbrev pub ended_procedure : (g : Gathers) → Ident → (around : Option Which) → Begun g.Reported
    → Walk g.Reported × Result (List TypedStmt) g.Reported → Walk g.Reported
ended_procedure g name around b e = record {
  scope = left_procedure b.outside e.0.scope;
  so_far = beside g e.0.so_far (reported_in e.1);
  bodies = with_routine e.0.scope name around b.formals b.procedure e.1 e.0.bodies;
}
