use Rattle.std.specs.Prelude.{All, take}
use Rattle.wasm_valid.specs.CodeScope.{scope_of}
use Rattle.wasm_valid.proofs.valid.check_parts.Given as goal

abbrev pub invariant-loop-part : goal.invariant-loop-part
invariant-loop-part g l = All (g.T.Part.IsPart (scope_of l.scope)) (take l.part-index l.parts)
