-- A reader takes tokens from the front, and a repetition is one turn and the repetition of what is left.
use Rattle.std.proofs.Common.{◌≡◌, ℕ, zero, suc, ◌<◌, ◌≤◌, Bool, true, false, not, cond, List, [], ◌∷◌, ◌++◌, length, Ok, Err, refl, sym, ap, ◌∙◌, arith}
use Rattle.std.proofs.lemmas.List.{length-append}
use Rattle.def_grammar.specs.declared.kind.Kind.{Kind}
use Rattle.def_grammar.specs.declared.kind.Kind.TheVariants as the
use Rattle.m2_tree.specs.declared.token.Token.{Token}
use Rattle.def_grammar.specs.Grammar.{Ty, El, Gr, many}
use Rattle.def_grammar.specs.Reading.{Outcome, Reader, and_then, nullable, first, begins, is_among, turns, repetition_of, read}
use Rattle.def_grammar.proofs.Truth.{and_both}
use Rattle.def_grammar.proofs.Sets.{not_true, clash}
use Rattle.def_grammar.proofs.OneAhead.{is_repeatable}
use Rattle.def_grammar.proofs.First.{FirstOf, first_of_text}
use Rattle.def_grammar.proofs.Sound.{Right, read_right}

-- what is left is no more than there was
abbrev pub IsShorter : {A : Type 0} → List Token → Outcome A → Type 0
IsShorter ts (Ok p) = length p.1 < length ts
IsShorter ts (Err e) = length e.0 ≤ length ts

text_shorter : {a : Ty} (g : Gr a) (text ts rest : List Token) → nullable g ≡ false → FirstOf g text → ts ≡ text ++ rest
    → length rest < length ts
text_shorter g [] ts rest e f parts = clash (nullable g) f e
text_shorter g (t ∷ text) ts rest e f parts = rw parts (omega (arith, length-append text rest))

pub right_shorter : {a : Ty} (g : Gr a) (n : ℕ) (ts : List Token) (o : Outcome (El a)) → nullable g ≡ false
    → Right g n ts o → IsShorter ts o
right_shorter g n ts (Ok p) e r = text_shorter g r.text ts p.1 e (first_of_text r.spelt) r.parts
right_shorter g n ts (Err d) e r = rw r.0.parts (omega (arith, length-append r.0.front d.0))

pub read_shorter : {a : Ty} (g : Gr a) (n : ℕ) → nullable g ≡ false → (ts : List Token) → IsShorter ts (read g n ts)
read_shorter g n e ts = right_shorter g n ts (read g n ts) e (read_right g n ts)

-- ---- turns

module _ {A : Type 0} (ks : List Kind) (p : Reader A) (shorter : (ts : List Token) → IsShorter ts (p ts))
    (no_end : is_among the.End ks ≡ false) where
  turn_same : (ts : List Token) (b : Bool) (m k : ℕ) (o : Outcome A) → IsShorter ts o
      → ((us : List Token) → length us < length ts → turns ks p m us ≡ turns ks p k us)
      → cond b (and_then o (λ x mid. and_then (turns ks p m mid) (λ xs rest. Ok (x ∷ xs, rest)))) (Ok ([], ts))
      ≡ cond b (and_then o (λ x mid. and_then (turns ks p k mid) (λ xs rest. Ok (x ∷ xs, rest)))) (Ok ([], ts))
  turn_same ts true m k (Ok q) s h = ap (λ r. and_then r (λ xs rest. Ok (q.0 ∷ xs, rest))) (h q.1 s)
  turn_same ts true m k (Err e) s h = refl
  turn_same ts false m k o s h = refl

  stop_same : (ts : List Token) (k : ℕ) → length ts ≤ 0 → turns ks p 0 ts ≡ turns ks p k ts
  unfolding turns
  stop_same [] zero le = refl
  stop_same [] (suc k) le = rw no_end refl
  stop_same (t ∷ ts) k le = absurd (omega arith)

  pub turns_same : (m k : ℕ) (ts : List Token) → length ts ≤ m → length ts ≤ k → turns ks p m ts ≡ turns ks p k ts
  unfolding turns
  turns_same zero k ts lm lk = stop_same ts k lm
  turns_same (suc m) zero ts lm lk = sym (stop_same ts (suc m) lk)
  turns_same (suc m) (suc k) ts lm lk = turn_same ts (begins ks ts) m k (p ts) (shorter ts)
      (λ us lt. turns_same m k us (omega arith) (omega arith))

  settle : (ts : List Token) (b : Bool) (o : Outcome A) → IsShorter ts o
      → cond b (and_then o (λ x mid. and_then (turns ks p (length ts) mid) (λ xs rest. Ok (x ∷ xs, rest))))
      (Ok ([], ts))
      ≡ cond b (and_then o (λ x mid. and_then (repetition_of ks p mid) (λ xs rest. Ok (x ∷ xs, rest)))) (Ok ([], ts))
  unfolding repetition_of
  settle ts true (Ok q) s = ap (λ r. and_then r (λ xs rest. Ok (q.0 ∷ xs, rest)))
      (turns_same (length ts) (length q.1) q.1 (omega arith) (omega arith))
  settle ts true (Err e) s = refl
  settle ts false o s = refl

  repeated-is : (ts : List Token) → repetition_of ks p ts
      ≡ cond (begins ks ts) (and_then (p ts)
      (λ x mid. and_then (repetition_of ks p mid) (λ xs rest. Ok (x ∷ xs, rest)))) (Ok ([], ts))
  unfolding repetition_of turns
  repeated-is ts = turns_same (length ts) (suc (length ts)) ts (omega arith) (omega arith)
      ∙ settle ts (begins ks ts) (p ts) (shorter ts)

pub many-is : {a : Ty} (g : Gr a) (n : ℕ) → is_repeatable g ≡ true → (ts : List Token)
    → read (many g) n ts ≡ cond (begins (first g) ts)
    (and_then (read g n ts) (λ x mid. and_then (read (many g) n mid) (λ xs rest. Ok (x ∷ xs, rest)))) (Ok ([], ts))
many-is g n e ts =
    let b = and_both (not (nullable g)) (not (is_among the.End (first g))) e in
    repeated-is (first g) (read g n) (read_shorter g n (not_true (nullable g) b.0))
    (not_true (is_among the.End (first g)) b.1) ts
