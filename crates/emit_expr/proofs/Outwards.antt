-- From a frame to the ones around it.
use Rattle.std.proofs.Common.{◌≡◌, ℕ, zero, suc, ◌+◌, ◌*◌, refl, ap, ◌∙◌, add-one, arith}
use Rattle.wasm_tree.specs.declared.instr.Instr.TheVariants.{Load}
use Rattle.wasm_tree.specs.declared.instr.Load.TheVariants as load
use Rattle.def_scheme.specs.Coded.{wrap_word}
use Rattle.def_scheme.specs.Exprs.{outwards}
use Rattle.emit_buffer.specs.Drafts.{Drafted, one, put}

outwards_suc : (k : ℕ) (d : Drafted) → put (outwards (suc k)) d
    ≡ one wrap_word (one (Load load.I64) (put (outwards k) d))
outwards_suc zero d = refl
outwards_suc (suc k) d = outwards_suc k (one wrap_word (one (Load load.I64) d))

pub outwards_more : (k : ℕ) (d : Drafted)
    → put (outwards (k + 1)) d ≡ one wrap_word (one (Load load.I64) (put (outwards k) d))
outwards_more k d = ap (λ (n : ℕ). put (outwards n) d) (add-one k) ∙ outwards_suc k d

pub twice_is : (first n : ℕ) → first + (n + n) ≡ first + 2 * n
twice_is first n = omega arith
