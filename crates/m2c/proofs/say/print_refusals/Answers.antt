use Rattle.std.proofs.Common.{ap}
use Rattle.run_directory.proofs.Saying.{not_said}
use Rattle.m2_tree.specs.Lines.{line_of}
use Rattle.m2c.proofs.Building.{said_more}
use Rattle.m2c.proofs.say.print_refusals.Goals as goal

pub loop-refusal-preserved : goal.loop-refusal-preserved
loop-refusal-preserved g c =
    said_more g.S.Sink.reported g.S.Sink.failed line_of c.args.refusals.now c.loop-refusal.refusal-index
    c.refusal-item.result c.args.out.now c.loop-refusal.out c.print_refusal.new.out c.loop-refusal-test.true
    c.refusal-item.is c.loop-refusal.invariant c.if-not-print_refusal.ensures

pub returns-then-not-print_refusal : goal.returns-then-not-print_refusal
returns-then-not-print_refusal g c =
    not_said g.S.Sink.reported g.S.Sink.failed line_of c.args.refusals.now c.loop-refusal.refusal-index
    c.refusal-item.result (line_of c.refusal-item.result) c.args.out.now c.loop-refusal.out c.print_refusal.new.out
    c.loop-refusal-test.true (ap line_of c.refusal-item.is) c.loop-refusal.invariant c.if-not-print_refusal.ensures
