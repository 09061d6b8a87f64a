use Rattle.std.proofs.Common.{◌≡◌, take}
use Rattle.std.specs.List.{fold}
use Rattle.def_scheme.specs.Coded.{Setting}
use Rattle.emit_expr.specs.Values.{linked_by}
use Rattle.emit_expr.proofs.exprs.chain_type.Given as goal

abbrev pub invariant-loop-link : goal.invariant-loop-link
invariant-loop-link l = (s : Setting) → l.t ≡ fold (linked_by s) l.fn.first (take l.link-index l.links)
