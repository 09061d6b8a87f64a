-- Checks: what is within bounds stays, and else the run ends with a fault.
use Rattle.std.proofs.Common.{◌≡◌, ℕ, suc, ◌≤◌, ℤ, ◌<ℤ◌, Bool, true, false, not, List, [], ◌∷◌, ◌++◌, if◌then◌else◌, refl, sym, ap, subst, ◌∙◌, arith}
use Rattle.std.specs.Prelude.{int_lt, ◌&&◌, nat_le}
use Rattle.std.specs.Int.{w64, cast_signed}
use Rattle.std.proofs.lemmas.Bool.{le-leb}
use Rattle.wasm_tree.specs.declared.instr.Instr.{Instr}
use Rattle.wasm_tree.specs.declared.instr.Instr.TheVariants as instr
use Rattle.wasm_tree.specs.declared.store.Value.{Value}
use Rattle.wasm_tree.specs.declared.store.Value.TheVariants.{I64}
use Rattle.wasm_tree.specs.Numbers.{is_less}
use Rattle.law_effect.specs.Effect.{State as Target, Effect, then_run}
use Rattle.law_effect.specs.Effect as does
use Rattle.law_effect.proofs.Steps.{split_end_at, i64_runs}
use Rattle.typed_tree.specs.declared.types.TypeNo.{TypeNo}
use Rattle.def_meaning.specs.Answer.{State as Source, Answer}
use Rattle.def_meaning.specs.Answer as answer
use Rattle.def_meaning.specs.Operators.{is_between}
use Rattle.def_meaning.specs.Expressions.{within}
use Rattle.def_scheme.specs.Coded.{check_code}
use Rattle.def_scheme.specs.Helpers.{check_typed}
use Rattle.law_memory.specs.Called.{stopped_by}
use Rattle.law_memory.proofs.Helpers.{check_called}
use Rattle.law_simulation.specs.Scene.{Scene, calls, runs, HasHelpers, IsValue, word, Stands, Into, GivesNumber}
use Rattle.law_simulation.proofs.Served.{tested_on, served_runs}
use Rattle.law_simulation.proofs.Words.{IsWide, signed, less_is, less_true, between_is}

four_pushed : (s : List Value) (a b c d : Value)
    → (((s ++ a ∷ []) ++ b ∷ []) ++ c ∷ []) ++ d ∷ [] ≡ s ++ a ∷ b ∷ c ∷ d ∷ []
four_pushed [] a b c d = refl
four_pushed (x ∷ s) a b c d = ap (λ (r : List Value). x ∷ r) (four_pushed s a b c d)

-- a fault's number is one that the run can end with
stops : (j : ℕ) (out : List ℕ) → 1 ≤ j → j ≤ 255 → stopped_by j out ≡ does.Ended j out
stops j out l h = ap (λ (b : Bool). if b && nat_le j 255 then does.Ended j out else does.Traps out) (le-leb 1 j l)
    ∙ ap (λ (b : Bool). if b then does.Ended j out else does.Traps out) (le-leb j 255 h)

module _ (k : Scene) (has : HasHelpers k) where
  abbrev tested : (below above : Bool) → (j : ℕ) → (out : List ℕ) → Effect → Effect
  tested below above j out on = if below then does.Ended j out else (if above then does.Ended j out else on)

  -- of any word
  word_checked : (low high : ℤ) (n j : ℕ) → 1 ≤ j → j ≤ 255 → (rest : List Instr) (st : Target) (stack : List Value)
      → runs k (check_code low high j ++ rest) st (stack ++ I64 n ∷ [])
      ≡ tested (is_less w64 n (word low)) (is_less w64 (word high) n) j st.out
      (runs k rest st (stack ++ I64 n ∷ []))
  word_checked low high n j least most rest st stack =
      let s1 = stack ++ I64 n ∷ [] in
      let s2 = s1 ++ I64 (word low) ∷ [] in
      let s3 = s2 ++ I64 (word high) ∷ [] in
      let go : List Value → Effect = runs k (instr.Call 4 ∷ rest) st in
      let given : List Value = I64 n ∷ I64 (word low) ∷ I64 (word high) ∷ I64 j ∷ [] in
      i64_runs k.modules k.fixed k.turns (calls k) k.own
      (instr.I64Const (word high) ∷ instr.I64Const j ∷ instr.Call 4 ∷ rest) st (word low) s1
      ∙ i64_runs k.modules k.fixed k.turns (calls k) k.own (instr.I64Const j ∷ instr.Call 4 ∷ rest) st (word high) s2
      ∙ i64_runs k.modules k.fixed k.turns (calls k) k.own (instr.Call 4 ∷ rest) st j s3
      ∙ ap go (four_pushed stack (I64 n) (I64 (word low)) (I64 (word high)) (I64 j))
      ∙ served_runs k has 4 2 (check_typed has.check_index) st (stack ++ given) stack given rest (omega arith)
      (has.check st.bytes) has.check_there (split_end_at stack given 4 refl)
      ∙ ap (λ (e : Effect). then_run e (runs k rest))
      (check_called k.modules k.fixed k.extra k.turns (suc has.levels) k.turns k.own 4 k.own 2 has.check_index st
      (has.check st.bytes) has.check_there (has.stop st.bytes) n (word low) (word high) j stack [])
      ∙ ap (λ (e : Effect). then_run (if is_less w64 n (word low) then e else
      (if is_less w64 (word high) n then e else does.FellThrough st (stack ++ I64 n ∷ []))) (runs k rest))
      (stops j st.out least most)
      ∙ tested_on (is_less w64 n (word low)) (is_less w64 (word high) n) j st.out st (stack ++ I64 n ∷ []) (runs k rest)

  check_runs : (low high v : ℤ) (j : ℕ) → IsWide low → IsWide high → IsWide v → 1 ≤ j → j ≤ 255
      → (rest : List Instr) (st : Target) (stack : List Value)
      → runs k (check_code low high j ++ rest) st (stack ++ I64 (word v) ∷ [])
      ≡ tested (int_lt v low) (int_lt high v) j st.out (runs k rest st (stack ++ I64 (word v) ∷ []))
  check_runs low high v j hl hh hv least most rest st stack =
      word_checked low high (word v) j least most rest st stack
      ∙ ap (λ (b : Bool). tested b (is_less w64 (word high) (word v)) j st.out
      (runs k rest st (stack ++ I64 (word v) ∷ []))) (less_is v low hv hl)
      ∙ ap (λ (b : Bool). tested (int_lt v low) b j st.out (runs k rest st (stack ++ I64 (word v) ∷ [])))
      (less_is high v hh hv)

  -- a word below the lower bound
  pub below_fails : (low high : ℤ) (n j : ℕ) → IsWide low → cast_signed w64 n <ℤ low → 1 ≤ j → j ≤ 255
      → (rest : List Instr) (st : Target) (stack : List Value)
      → runs k (check_code low high j ++ rest) st (stack ++ I64 n ∷ []) ≡ does.Ended j st.out
  below_fails low high n j hl below least most rest st stack =
      let is : is_less w64 n (word low) ≡ true = ap (λ (z : ℤ). int_lt (cast_signed w64 n) z) (signed low hl)
      ∙ less_true (cast_signed w64 n) low below in
      word_checked low high n j least most rest st stack
      ∙ ap (λ (b : Bool). tested b (is_less w64 (word high) n) j st.out (runs k rest st (stack ++ I64 n ∷ []))) is

  -- a value that is within bounds is one of a type
  pub checked_gives : (u : TypeNo) (low high v : ℤ) (j : ℕ) → IsWide low → IsWide high → IsWide v → 1 ≤ j → j ≤ 255
      → (is_between low v high ≡ true → IsValue k.setting.home.types u v)
      → (s : Source) (st : Target) → Stands k s st → (rest : List Instr) (stack : List Value)
      → Into (GivesNumber k u (runs k rest) stack)
      (runs k (check_code low high j ++ rest) st (stack ++ I64 (word v) ∷ [])) (within low high j v s)
  checked_gives u low high v j hl hh hv least most is s st h rest stack =
      subst (λ (r : Effect). Into (GivesNumber k u (runs k rest) stack) r (within low high j v s))
      (sym (check_runs low high v j hl hh hv least most rest st stack))
      (subst (λ (b : Bool). Into (GivesNumber k u (runs k rest) stack) after
      (if b then answer.Value v s else answer.Ended j s.out)) (sym (between_is low v high))
      (by (int_lt v low) (int_lt high v) refl refl))
    where
      after : Effect
      after = tested (int_lt v low) (int_lt high v) j st.out (runs k rest st (stack ++ I64 (word v) ∷ []))

      by : (a b : Bool) → int_lt v low ≡ a → int_lt high v ≡ b
          → Into (GivesNumber k u (runs k rest) stack)
          (tested a b j st.out (runs k rest st (stack ++ I64 (word v) ∷ [])))
          (if not a && not b then answer.Value v s else answer.Ended j s.out)
      by true b ea eb = ap (λ (out : List ℕ). does.Ended j out) h.out
      by false true ea eb = ap (λ (out : List ℕ). does.Ended j out) h.out
      by false false ea eb = record {
        st = st;
        stands = h;
        is = is (between_is low v high ∙ ap (λ (a : Bool). not a && not (int_lt high v)) ea
            ∙ ap (λ (b : Bool). not false && not b) eb);
        run = refl;
      }
