use Rattle.std.proofs.Common.{◌≡◌, ◌++◌, length, take, true}
use Rattle.std.specs.List.{flat_map, list_all}
use Rattle.wasm_code.specs.Number.{unsigned}
use Rattle.wasm_binary.proofs.binary.write_vector.Given as goal

abbrev pub invariant-loop-item : goal.invariant-loop-item
invariant-loop-item g l =
    (l.out ≡ l.fn.out ++ (unsigned.encoding (length l.items)
    ++ flat_map g.T.Binary.format.encoding (take l.item-index l.items)))
    × (list_all g.T.Binary.format.fits (take l.item-index l.items) ≡ true)
