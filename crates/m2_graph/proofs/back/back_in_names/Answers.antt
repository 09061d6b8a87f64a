use Rattle.std.proofs.Common.{sym, arith, ◌∙◌}
use Rattle.std.proofs.lemmas.Bool.{false≢true}
use Rattle.m2_graph.specs.Program.{modules_of}
use Rattle.m2_graph.proofs.LeadingBack.{back_here, back_later, back_never}
use Rattle.m2_graph.proofs.back.back_in_names.Goals as goal

pub returns-then-leads_back : goal.returns-then-leads_back
returns-then-leads_back c = back_here (modules_of c.args.program.now) c.args.node c.args.names.now
    c.loop-ident.ident-index c.ident-item.result (omega arith) c.ident-item.is c.loop-ident.invariant
    (c.leads_back.ensures.0 c.if-leads_back.true)

pub loop-ident-preserved : goal.loop-ident-preserved
loop-ident-preserved c = back_later (modules_of c.args.program.now) c.args.node c.args.names.now
    c.loop-ident.ident-index c.ident-item.result (omega arith) c.ident-item.is c.loop-ident.invariant
    (λ b. false≢true (sym c.if-leads_back.false ∙ c.leads_back.ensures.1 b))

pub returns : goal.returns
returns c = back_never (modules_of c.args.program.now) c.args.node c.args.names.now c.loop-ident.ident-index
    (omega arith) c.loop-ident.invariant
