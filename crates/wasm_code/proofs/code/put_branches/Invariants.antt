use Rattle.std.proofs.Common.{◌≡◌, ◌++◌, map, take}
use Rattle.wasm_tree.specs.declared.code.Op.TheVariants.{Br}
use Rattle.wasm_code.proofs.code.put_branches.Given as goal

abbrev pub invariant-loop-label : goal.invariant-loop-label
invariant-loop-label l = l.scratch.items ≡ l.fn.scratch.items ++ map Br (take l.label-index l.labels)
