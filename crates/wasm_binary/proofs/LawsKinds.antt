-- The laws of types.
use Rattle.std.proofs.Common.{◌≡◌, ℕ, zero, suc, Bool, true, false, ◌&&◌, List, [], ◌∷◌, ◌++◌, Option, Some, None, Ok, refl, sym, ◌∙◌, append_assoc}
use Rattle.std.proofs.lemmas.Bool.{and_parts}
use Rattle.wasm_tree.specs.declared.kinds.Limits.{Limits}
use Rattle.wasm_code.specs.Number.{unsigned}
use Rattle.wasm_code.specs.Parts.{◌▸◌, ◌·◌, vector}
use Rattle.wasm_code.specs.Instructions.{value_type}
use Rattle.wasm_code.proofs.LawsTagged.{tagged, bind_pair, value_type_law}
use Rattle.wasm_binary.specs.Binary.{func_type, limits, table_type, memory_type}
use Rattle.wasm_code.proofs.Laws.{IsBytes, IsBytes-tail, Taken, Law}
use Rattle.wasm_code.proofs.LawsNumber.{unsigned_law}
use Rattle.wasm_code.proofs.LawsParts.{before_law, then_law, seen_law, vector_law}

pub func_type_law : Law func_type
unfolding func_type
func_type_law =
    seen_law (λ p. record { params = p.0; results = p.1 }) (λ t. (t.params, t.results))
    (0x60 ▸ vector value_type · vector value_type)
    (before_law 0x60 (vector value_type · vector value_type)
    (then_law (vector value_type) (vector value_type) (vector_law value_type value_type_law)
    (vector_law value_type value_type_law)))
    (λ y. refl) (λ x. refl)

and_true : (b : Bool) → (b && true) ≡ b
and_true true = refl
and_true false = refl

abbrev least : ℕ → Limits
least n = record { min = n; max = None }

abbrev between : ℕ × ℕ → Limits
between p = record { min = p.0; max = Some p.1 }

limits_takes : (bytes : List ℕ) (x : Limits) (rest : List ℕ) → IsBytes bytes → limits.reading bytes ≡ Ok (x, rest)
    → Taken limits bytes x rest
unfolding limits
limits_takes [] x rest fits e = absurd cc
limits_takes (zero ∷ bytes) x rest fits e =
    tagged limits unsigned least 0 unsigned_law (λ n. refl) (λ n. and_true (unsigned.fits n)) 0 bytes x rest
    (IsBytes-tail 0 bytes fits) refl e
limits_takes (suc zero ∷ bytes) x rest fits e =
    tagged limits (unsigned · unsigned) between 1 (then_law unsigned unsigned unsigned_law unsigned_law) (λ p. refl)
    (λ p. refl) 1 bytes x rest (IsBytes-tail 1 bytes fits) refl
    (bind_pair unsigned unsigned between bytes (x, rest) e)
limits_takes (suc (suc b) ∷ bytes) x rest fits e = absurd cc

limits_again : (min : ℕ) (max : Option ℕ) (rest : List ℕ) → limits.fits (record { min = min; max = max }) ≡ true
    → limits.reading (limits.encoding (record { min = min; max = max }) ++ rest)
    ≡ Ok (record { min = min; max = max }, rest)
unfolding limits
limits_again min None rest fits = rw (unsigned_law.again min rest (sym (and_true (unsigned.fits min)) ∙ fits)) refl
limits_again min (Some max) rest fits =
    let f = and_parts (unsigned.fits min) (unsigned.fits max) fits in
    rw (
      append_assoc (unsigned.encoding min) (unsigned.encoding max) rest,
      unsigned_law.again min
          (unsigned.encoding max ++ rest) f.0,
      unsigned_law.again max rest f.1,
    ) refl

pub limits_law : Law limits
limits_law = record { takes = limits_takes; again = λ l rest fits. limits_again l.min l.max rest fits }

pub table_type_law : Law table_type
unfolding table_type
table_type_law = seen_law (λ l. record { limits = l }) (λ t. t.limits) (0x70 ▸ limits)
    (before_law 0x70 limits limits_law) (λ y. refl) (λ x. refl)

pub memory_type_law : Law memory_type
unfolding memory_type
memory_type_law = seen_law (λ l. record { limits = l }) (λ t. t.limits) limits limits_law (λ y. refl) (λ x. refl)
