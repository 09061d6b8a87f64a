use Rattle.std.proofs.Common.{subst}
use Rattle.m2c.proofs.Building.{is_refused, is_saved}
use Rattle.m2c.specs.Build.{IsBuilt}
use Rattle.m2c.specs.declared.files.Outcome.{Outcome}
use Rattle.m2c.proofs.compiling.end_of_outcome.Goals as goal

pub returns-in-Refused : goal.returns-in-Refused
returns-in-Refused g c = λ sources pages built.
    is_refused g.D.OutDir.calls g.D.OutDir.failed g.S.Sink.reported g.S.Sink.failed sources pages
    c.print_refusals.result c.in-Refused.refusals c.deref.result.now c.deref.ensures.value
    (subst (λ (o : Outcome). IsBuilt sources pages o) c.in-Refused.is built) c.args.dir.now c.args.out.now
    c.print_refusals.new.out c.print_refusals.ensures

pub returns-in-Built : goal.returns-in-Built
returns-in-Built g c = λ sources pages built.
    is_saved g.D.OutDir.calls g.D.OutDir.failed g.S.Sink.reported g.S.Sink.failed sources pages c.save.result
    c.in-Built.link c.in-Built.modules
    c.deref-in-Built.result.now c.deref-in-Built-2.result.now c.deref-in-Built.ensures.value
    c.deref-in-Built-2.ensures.value
    (subst (λ (o : Outcome). IsBuilt sources pages o) c.in-Built.is built) c.args.dir.now c.save.new.dir c.args.out.now
    c.save.ensures.calls
