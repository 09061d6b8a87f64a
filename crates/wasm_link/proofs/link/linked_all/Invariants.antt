use Rattle.std.proofs.Common.{◌≡◌, drop}
use Rattle.wasm_tree.specs.Linking.{linked_from, host_store}
use Rattle.wasm_link.proofs.link.linked_all.Given as goal

abbrev pub invariant-loop-number : goal.invariant-loop-number
invariant-loop-number l = linked_from l.modules l.number (drop l.number l.modules) l.store
    ≡ linked_from l.modules 0 l.modules host_store
