use Rattle.std.proofs.Common.{◌≡◌, drop}
use Rattle.wasm_tree.specs.Linking.{each, with_global}
use Rattle.wasm_link.specs.Placed.{link_result}
use Rattle.wasm_link.proofs.store.with_globals.Given as goal

abbrev pub invariant-loop-global : goal.invariant-loop-global
invariant-loop-global l = each with_global (drop l.global-index l.globals) (link_result l.store l.instance)
    ≡ each with_global l.globals (link_result l.fn.store l.fn.instance)
