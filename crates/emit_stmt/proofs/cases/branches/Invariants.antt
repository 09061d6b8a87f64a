use Rattle.std.proofs.Common.{◌≡◌, drop}
use Rattle.std.specs.Prelude.{map}
use Rattle.wasm_tree.specs.declared.code.Op.TheVariants as op
use Rattle.emit_buffer.specs.Cut.{cut}
use Rattle.emit_buffer.specs.Drafts.{with_ops}
use Rattle.emit_stmt.proofs.cases.branches.Given as goal

abbrev pub invariant-loop-target : goal.invariant-loop-target
invariant-loop-target l = with_ops (map (λ l. op.Br (cut l)) (drop l.target-index l.targets)) l.draft
    ≡ with_ops (map (λ l. op.Br (cut l)) l.targets) l.initial.draft
