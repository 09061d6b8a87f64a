use Rattle.std.proofs.Common.{◌≡◌}
use Rattle.def_scheme.specs.Exprs.{outwards}
use Rattle.emit_buffer.specs.Drafts.{put}
use Rattle.emit_expr.proofs.places.outwards.Given as goal

abbrev pub invariant-loop-k : goal.invariant-loop-k
invariant-loop-k l = l.draft ≡ put (outwards l._k) l.fn.draft
