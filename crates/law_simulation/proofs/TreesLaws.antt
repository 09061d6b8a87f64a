-- The laws, from what is made of each tree.
use Rattle.std.proofs.Common.{subst}
use Rattle.typed_tree.specs.declared.types.TypeNo.{TypeNo}
use Rattle.def_meaning.specs.Expressions.{value}
use Rattle.law_simulation.specs.Scene.{Agrees}
use Rattle.law_simulation.specs.TreesLaws.{Exprs, ProcedureExprs, Places, CallsOf}
use Rattle.law_simulation.proofs.Exprs.{expr_made, held_made, place_made, call_made}

pub exprs : Exprs
exprs x ask ws a b e t h = let m = expr_made x ask ws a b e t h in
    (m.placed, m.pins, λ k fit. subst (λ (t : TypeNo). Agrees k t m.placed (value x.p ask e)) m.of (m.agrees k fit))

pub procedure_exprs : ProcedureExprs
procedure_exprs x ask ws a b e h is = let m = held_made x ask ws a b e h is in (m.placed, m.pins, m.agrees)

pub places : Places
places x ask ws a b d t h = let m = place_made x ask ws a b d t h in (m.placed, m.pins, m.locates)

pub calls : CallsOf
calls x ask ws a b c r h = let m = call_made x ask ws a b c r h in (m.placed, m.pins, m.calls)
