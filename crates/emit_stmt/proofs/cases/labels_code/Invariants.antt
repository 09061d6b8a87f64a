use Rattle.std.proofs.Common.{◌≡◌, drop}
use Rattle.std.specs.List.{flat_map}
use Rattle.def_scheme.specs.Steps.{label_code}
use Rattle.emit_buffer.specs.Drafts.{put}
use Rattle.emit_stmt.proofs.cases.labels_code.Given as goal

abbrev pub invariant-loop-label : goal.invariant-loop-label
invariant-loop-label l = put (flat_map (label_code l.t) (drop l.label-index l.labels)) l.draft
    ≡ put (flat_map (label_code l.t) l.labels) l.initial.draft
