use Rattle.std.proofs.Common.{◌∙◌}
use Rattle.emit_buffer.specs.Frames.{setting_of}
use Rattle.emit_proc.specs.Kept.{own}
use Rattle.emit_proc.proofs.Entered.{open_formal, on_ok}
use Rattle.emit_proc.proofs.prologue.formal_kept.Goals as goal

pub returns-then-formal : goal.returns-then-formal
returns-then-formal c =
    on_ok c.open_copied.result
    (λ h. h ∙ open_formal c.args.setting.now.home.types c.args.locals.now.top c.args.locals.now.copy
    (own (setting_of c.args.setting.now)) c.args.v c.args.x.now c.args.formal.now c.size_in.result c.args.draft.now
    c.if-formal.true c.if-formal-2.false c.size_in.ensures)
    c.open_copied.ensures
