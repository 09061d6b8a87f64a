use Rattle.std.proofs.Common.{◌≡◌, ◌∷◌}
use Rattle.wasm_tree.specs.declared.kinds.ValueType.TheVariants.{I32}
use Rattle.def_scheme.specs.Signatures.{so_many}
use Rattle.m2_emit.proofs.types.params_of.Given as goal

abbrev pub invariant-loop : goal.invariant-loop
invariant-loop l = l.params ≡ I32 ∷ so_many l.counter
