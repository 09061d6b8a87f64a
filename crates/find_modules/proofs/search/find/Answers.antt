use Rattle.std.proofs.Common.{◌≤◌, length, arith, rules}
use Rattle.find_modules.proofs.Steps.{at_end, begun, gone_on}
use Rattle.find_modules.proofs.search.find.Goals as goal
use Rattle.find_modules.proofs.search.find.Goals.{else-loop-at-test, then-loop-at-test+then-at-len}

pub loop-at-init : goal.loop-at-init
loop-at-init g c = (
  begun (g.F.ModuleFolders.gives c.args.folders.now) (g.F.ModuleFolders.count c.args.folders.now) c.args.program.now
      c.in_ok-names.names.items c.deref.result.now c.new-modules.result.items c.add_modules.new.modules.items
      c.new-modules.ensures.items c.deref.ensures.value c.in_ok-names.ensures c.in_ok-add_modules.ensures.added,
  c.in_ok-add_modules.ensures.known,
)

pub loop-at-preserved : goal.loop-at-preserved
loop-at-preserved g c = (
  gone_on (g.F.ModuleFolders.gives c.args.folders.now) (g.F.ModuleFolders.count c.args.folders.now)
      c.args.program.now c.loop-at.at c.index.result.now c.in_ok-names-2.names.items c.deref-in-loop-at.result.now
      c.loop-at.modules.items c.add_modules-in-loop-at.new.modules.items (search rules) (search rules)
      c.loop-at.invariant.0 c.in_ok-names-2.ensures c.deref-in-loop-at.ensures.value
      c.in_ok-add_modules-2.ensures.added,
  c.in_ok-add_modules-2.ensures.known,
)

pub returns : goal.returns
returns g c = λ (short : length c.loop-at.modules.items ≤ 1024). elim c.loop-at-test.branch [
  | else-loop-at-test w ↦ at_end (g.F.ModuleFolders.gives c.args.folders.now)
      (g.F.ModuleFolders.count c.args.folders.now) c.args.program.now c.loop-at.at c.loop-at.modules.items (omega arith)
      c.loop-at.invariant.0
  | then-loop-at-test+then-at-len w ↦ at_end (g.F.ModuleFolders.gives c.args.folders.now)
      (g.F.ModuleFolders.count c.args.folders.now) c.args.program.now c.loop-at.at c.loop-at.modules.items (omega arith)
      c.loop-at.invariant.0
]
