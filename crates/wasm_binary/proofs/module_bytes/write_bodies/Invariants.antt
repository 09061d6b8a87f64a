use Rattle.std.proofs.Common.{◌≡◌, ◌++◌, length, take, true}
use Rattle.std.specs.List.{flat_map, list_all}
use Rattle.wasm_code.specs.Number.{unsigned}
use Rattle.wasm_binary.specs.Binary.{body, body_encoding}
use Rattle.wasm_binary.proofs.module_bytes.write_bodies.Given as goal

abbrev pub invariant-loop-function : goal.invariant-loop-function
invariant-loop-function l =
    (l.out ≡ l.fn.out ++ (unsigned.encoding (length l.functions)
    ++ flat_map body_encoding (take l.function-index l.functions)))
    × (list_all (λ f. body.fits f.body) (take l.function-index l.functions) ≡ true)
