use Rattle.std.proofs.Common.{◌≡◌, drop}
use Rattle.emit_buffer.specs.Frames.{setting_of}
use Rattle.emit_buffer.specs.Drafts.{put}
use Rattle.def_scheme.specs.Functions.{formals_kept}
use Rattle.emit_proc.specs.Kept.{own}
use Rattle.emit_proc.proofs.prologue.formals_kept.Given as goal

abbrev pub invariant-loop-formal : goal.invariant-loop-formal
invariant-loop-formal l = (l.v ≡ l.formal-index)
    × (put (formals_kept l.setting.home.types l.locals.top l.locals.copy (own (setting_of l.setting)) l.v l.x
    (drop l.formal-index l.formals)) l.draft
    ≡ put (formals_kept l.setting.home.types l.locals.top l.locals.copy (own (setting_of l.setting)) 0 l.first
    l.formals) l.initial.draft)
