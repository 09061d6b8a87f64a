-- Inside of check_body, with other numbers of modules.
use Rattle.check_body.specs.Inside.{with_routine, begun_as, begun_procedure, returns_of, reported_in, which_of, ended_procedure}
use Rattle.check_body.specs.declared.procedure.Begun.{Begun}
use Rattle.check_body.specs.declared.procedure.Walk.{Walk}
use Rattle.check_body.specs.declared.routine.Bodies.{Bodies}
use Rattle.check_body.specs.declared.routine.Numbered.{Numbered}
use Rattle.check_scope.specs.Elaborated.{Gathers, beside}
use Rattle.check_scope.specs.Scopes.{State}
use Rattle.check_scope.specs.declared.scope.Scope.{Scope}
use Rattle.def_exchange.specs.Moved.{moved_type, Exchange}
use Rattle.law_exchange_bodies.proofs.Inner.{entered_procedure_moves, left_procedure_moves}
use Rattle.law_exchange_bodies.proofs.Routines.{begun_at_moves, procedure_named_moves, put_routine_moves, routine_moves}
use Rattle.law_exchange_bodies.specs.Modules.{moved_begun, moved_bodies, moved_numbered, moved_walk, moved_outside}
use Rattle.law_exchange_exprs.specs.Steps.{moved_stmt}
use Rattle.law_exchange_types.proofs.Basics.{then_map}
use Rattle.law_exchange_types.specs.Pieces.{map_ok, moved_pair}
use Rattle.law_exchange_types.specs.Scopes.{moved_scope, moved_state_of}
use Rattle.m2_tree.specs.declared.decl.Heading.{Heading}
use Rattle.m2_tree.specs.declared.name.Ident.{Ident}
use Rattle.std.proofs.Common.{◌≡◌, refl, Err, List, None, Ok, Option, Result, Some, map, option_map, ℕ, ap, ap₂, ◌∙◌}
use Rattle.std.proofs.lemmas.List.{length-map}
use Rattle.typed_tree.specs.declared.statement.TypedStmt.{TypedStmt}
use Rattle.typed_tree.specs.declared.typed_module.Which.{Which}
use Rattle.typed_tree.specs.declared.types.TypeNo.{TypeNo}
use Rattle.check_scope.specs.Inwards.{outside, left_procedure}
use Rattle.check_block.specs.Inner.{entered_procedure}
use Rattle.check_body.specs.Routines.{procedure_named, put_routine, routine}

pub returns_of_moves : (z : Exchange) {T : Type 0} (r : Result (Option TypeNo) T)
    → returns_of (map_ok (option_map (moved_type z)) r) ≡ option_map (map_ok (moved_type z)) (returns_of r)
returns_of_moves z (Ok None) = refl
returns_of_moves z (Ok (Some t)) = refl
returns_of_moves z (Err e) = refl

pub which_of_moves : (z : Exchange) (p : Option Numbered)
    → which_of (option_map (moved_numbered z) p) ≡ which_of p
which_of_moves z None = refl
which_of_moves z (Some p) = refl

pub begun_as_moves : (z : Exchange) {T : Type 0} (w : Walk T) (p : Option Numbered) (e : State (Option TypeNo) T)
    → begun_as (moved_walk z w) (option_map (moved_numbered z) p) (moved_state_of z (option_map (moved_type z)) e)
    ≡ moved_pair (moved_walk z) (moved_begun z) (begun_as w p e)
begun_as_moves z {T} w p e =
    ap₂ (λ (rs : Bodies) (b : Begun T). (record { scope = moved_scope z e.0; so_far = w.so_far; bodies = rs }, b))
    (begun_at_moves z w.scope.level w.bodies)
    (ap₂ (λ (n : ℕ) (r : Option (Result TypeNo T)). record {
      outside = moved_outside z (outside w.scope);
      procedure = option_map (moved_numbered z) p;
      formals = n;
      returns = r;
    }) (length-map e.0.variables (moved_type z)) (returns_of_moves z e.1))

pub begun_procedure_moves : (z : Exchange) (g : Gathers) (w : Walk g.Reported) (seen : ℕ) (h : Heading)
    → begun_procedure g (moved_walk z w) seen h ≡ moved_pair (moved_walk z) (moved_begun z) (begun_procedure g w seen h)
begun_procedure_moves z g w seen h =
    ap₂ (begun_as (moved_walk z w)) (procedure_named_moves z w.scope h.name)
    (entered_procedure_moves z g w.scope seen h)
    ∙ begun_as_moves z w (procedure_named w.scope h.name) (entered_procedure g w.scope seen h)

pub reported_in_moves : (z : Exchange) {T : Type 0} (body : Result (List TypedStmt) T)
    → reported_in (map_ok (map (moved_stmt z)) body) ≡ reported_in body
reported_in_moves z body = simp (then_map)

pub with_routine_moves : (z : Exchange) {T : Type 0} (s : Scope T) (name : Ident) (around : Option Which) (formals : ℕ)
    (which : Option Numbered) (body : Result (List TypedStmt) T) (rs : Bodies)
    → with_routine (moved_scope z s) name around formals (option_map (moved_numbered z) which)
    (map_ok (map (moved_stmt z)) body) (moved_bodies z rs)
    ≡ moved_bodies z (with_routine s name around formals which body rs)
with_routine_moves z s name around n None body rs = refl
with_routine_moves z s name around n (Some p) (Ok xs) rs =
    ap (put_routine (moved_bodies z rs) p.which) (routine_moves z s name p around n xs)
    ∙ put_routine_moves z rs p.which (routine s name p around n xs)
with_routine_moves z s name around n (Some p) (Err e) rs = refl

pub ended_procedure_moves : (z : Exchange) (g : Gathers) (name : Ident) (around : Option Which) (b : Begun g.Reported)
    (e : Walk g.Reported × Result (List TypedStmt) g.Reported)
    → ended_procedure g name around (moved_begun z b) (moved_pair (moved_walk z) (map_ok (map (moved_stmt z))) e)
    ≡ moved_walk z (ended_procedure g name around b e)
ended_procedure_moves z g name around b e =
    ap₂ (λ (s : Scope g.Reported) (rs : Bodies). record {
      scope = s;
      so_far = beside g e.0.so_far (reported_in (map_ok (map (moved_stmt z)) e.1));
      bodies = rs;
    }) (left_procedure_moves z b.outside e.0.scope)
    (with_routine_moves z e.0.scope name around b.formals b.procedure e.1 e.0.bodies)
    ∙ ap (λ (r : Result (Unit {0}) g.Reported). record {
      scope = moved_scope z (left_procedure b.outside e.0.scope);
      so_far = beside g e.0.so_far r;
      bodies = moved_bodies z (with_routine e.0.scope name around b.formals b.procedure e.1 e.0.bodies);
    }) (reported_in_moves z e.1)
