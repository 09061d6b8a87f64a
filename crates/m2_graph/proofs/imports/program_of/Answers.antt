use Rattle.std.proofs.Common.{sym, ◌∙◌, arith}
use Rattle.std.specs.Borrow.{Bor}
use Rattle.m2_tree.specs.declared.decl.Module.{Module}
use Rattle.m2_graph.specs.Imports.{is_program}
use Rattle.m2_graph.proofs.Importing.{first_later, first_here}
use Rattle.m2_graph.proofs.imports.program_of.Goals as goal

pub returns-then-is_program : goal.returns-then-is_program
returns-then-is_program c = first_here (is_program) (λ (m : Bor Module). m.now) c.args.modules.now c.loop-number.number
    c.index-modules-number.result (omega arith) c.index-modules-number.is c.loop-number.invariant
    (sym c.is_program.ensures ∙ c.if-is_program.true)

pub loop-number-preserved : goal.loop-number-preserved
loop-number-preserved c = first_later (is_program) (λ (m : Bor Module). m.now) c.args.modules.now c.loop-number.number
    c.index-modules-number.result (omega arith) c.index-modules-number.is c.loop-number.invariant
    (sym c.is_program.ensures ∙ c.if-is_program.false)
