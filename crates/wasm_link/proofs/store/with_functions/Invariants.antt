use Rattle.std.proofs.Common.{◌≡◌, drop}
use Rattle.wasm_tree.specs.Linking.{with_functions}
use Rattle.wasm_link.specs.Placed.{link_result}
use Rattle.wasm_link.proofs.store.with_functions.Given as goal

abbrev pub invariant-loop-function : goal.invariant-loop-function
invariant-loop-function l =
    with_functions l.number l.function (drop l.function l.functions) (link_result l.store l.instance)
    ≡ with_functions l.number 0 l.functions (link_result l.fn.store l.fn.instance)
