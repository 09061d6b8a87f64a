use Rattle.scan_tokens.specs.Steps.{nothing, one_more}
use Rattle.scan_tokens.proofs.Walks.{room_behind}
use Rattle.scan_tokens.proofs.cut.cut_blanks.Goals as goal

pub loop-cut-init : goal.loop-cut-init
loop-cut-init c = (nothing, c.requires.room)

pub loop-cut-preserved : goal.loop-cut-preserved
loop-cut-preserved c =
    let t = c.cut_space.ensures in
    let old = c.loop-cut.cut in
    let left = c.cut_space.new.cut in (
      one_more old.rest.now old.pos left.rest.now left.pos c.loop-cut.invariant.0 t,
      room_behind t.0 old.pos left.pos old.rest.now left.rest.now c.loop-cut.invariant.1 t.1 t.5,
    )
