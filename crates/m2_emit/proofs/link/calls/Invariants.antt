use Rattle.std.proofs.Common.{◌≡◌, ◌++◌, drop, map}
use Rattle.emit_buffer.specs.Cut.{cut_op}
use Rattle.m2_emit.specs.Emitted.{parts}
use Rattle.m2_emit.proofs.Lists.{call_ops}
use Rattle.m2_emit.proofs.link.calls.Given as goal

abbrev pub invariant-loop : goal.invariant-loop
invariant-loop l = l.ops.items ++ map cut_op
    (call_ops l.stack l.global (parts (map (λ m. m.now) (drop l.index l.modules))))
    ≡ map cut_op (call_ops l.stack 3 (parts (map (λ m. m.now) l.modules)))
