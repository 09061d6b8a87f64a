-- Runs of several reductions.
use Rattle.std.proofs.Common.{◌≡◌, ℕ, zero, suc, ◌+◌, List, [], ◌++◌, Option, Some, None, refl, sym, ap, ◌∙◌, append_assoc, add-one, arith}
use Rattle.std.proofs.lemmas.List.{append-nil}
use Rattle.wasm_tree.specs.declared.module.WModule.{WModule}
use Rattle.wasm_tree.specs.Machine.{Config, Going, Over, Trapped, Progress, reduce, run}
use Rattle.wasm_engine.specs.Reported.{with_bytes}

-- one reduction behind others
abbrev pub behind : List WModule → Progress → Progress
behind modules p = ((reduce modules p.0).0, p.1 ++ (reduce modules p.0).1)

pub run-suc : (modules : List WModule) (n : ℕ) (c : Config) → run modules (suc n) c ≡ behind modules (run modules n c)
unfolding run
run-suc modules zero c = ap (λ (bytes : List ℕ). ((reduce modules c).0, bytes)) (append-nil (reduce modules c).1)
run-suc modules (suc n) c =
    ap (λ (p : Progress). (p.0, (reduce modules c).1 ++ p.1)) (run-suc modules n (reduce modules c).0)
    ∙ ap (λ (bytes : List ℕ). ((reduce modules (run modules n (reduce modules c).0).0).0, bytes))
    (sym (append_assoc (reduce modules c).1 (run modules n (reduce modules c).0).1
    (reduce modules (run modules n (reduce modules c).0).0).1))

pub run-zero : (modules : List WModule) (c : Config) → run modules 0 c ≡ (c, [])
unfolding run
run-zero modules c = refl

-- one reduction more where nothing was printed before
pub after_silent : (modules : List WModule) (k : ℕ) (c next : Config) → run modules k c ≡ (next, [])
    → run modules (k + 1) c ≡ reduce modules next
after_silent modules k c next e = rw (add-one, run-suc modules k c, e) refl

-- so many reductions behind others
abbrev pub printed_after : List ℕ → Progress → Progress
printed_after bytes p = (p.0, bytes ++ p.1)

abbrev pub followed : List WModule → ℕ → Progress → Progress
followed modules n p = printed_after p.1 (run modules n p.0)

no_others : (k : ℕ) → k + 0 ≡ k
no_others k = omega arith

another : (k n : ℕ) → k + suc n ≡ suc (k + n)
another k n = omega arith

followed_none : (modules : List WModule) (p : Progress) → followed modules 0 p ≡ p
followed_none modules p = ap (printed_after p.1) (run-zero modules p.0)
    ∙ ap (λ (bytes : List ℕ). (p.0, bytes)) (append-nil p.1)

followed_more : (modules : List WModule) (n : ℕ) (p : Progress)
    → behind modules (followed modules n p) ≡ followed modules (suc n) p
followed_more modules n p =
    let first = run modules n p.0 in
    let one = reduce modules first.0 in
    ap (λ (bytes : List ℕ). (one.0, bytes)) (append_assoc p.1 first.1 one.1)
    ∙ sym (ap (printed_after p.1) (run-suc modules n p.0))

pub run-plus : (modules : List WModule) (k n : ℕ) (c : Config)
    → run modules (k + n) c ≡ followed modules n (run modules k c)
run-plus modules k zero c = ap (λ m. run modules m c) (no_others k) ∙ sym (followed_none modules (run modules k c))
run-plus modules k (suc n) c =
    ap (λ m. run modules m c) (another k n)
    ∙ (run-suc modules (k + n) c ∙ (ap (behind modules) (run-plus modules k n c)
    ∙ followed_more modules n (run modules k c)))

-- what is over stays over
abbrev pub IsOver : Config → Type 0
IsOver (Going st now callers) = ⊥
IsOver (Over k) = Unit {0}
IsOver Trapped = Unit {0}

over_stays : (modules : List WModule) (c : Config) → IsOver c → reduce modules c ≡ (c, [])
unfolding reduce
over_stays modules (Going st now callers) h = absurd h
over_stays modules (Over k) h = refl
over_stays modules Trapped h = refl

behind_over : (modules : List WModule) (p : Progress) → IsOver p.0 → behind modules p ≡ p
behind_over modules p h = rw (over_stays modules p.0 h) (ap (λ (bytes : List ℕ). (p.0, bytes)) (append-nil p.1))

pub run_over : (modules : List WModule) (k more : ℕ) (c : Config) → IsOver (run modules k c).0
    → run modules (more + k) c ≡ run modules k c
run_over modules k zero c h = ap (λ n. run modules n c) (zero-add' k)
  where
    zero-add' : (k : ℕ) → 0 + k ≡ k
    zero-add' k = omega arith
run_over modules k (suc more) c h =
    let same = run_over modules k more c h in
    let one : suc more + k ≡ suc (more + k) = omega arith in
    ap (λ n. run modules n c) one ∙ run-suc modules (more + k) c ∙ ap (behind modules) same
    ∙ behind_over modules (run modules k c) h

pub with_bytes-append : (reported : Option (List ℕ)) (a b : List ℕ)
    → with_bytes (with_bytes reported a) b ≡ with_bytes reported (a ++ b)
with_bytes-append None a b = refl
with_bytes-append (Some bytes) a b = ap (λ (x : List ℕ). Some x) (append_assoc bytes a b)

pub with_bytes-nil : (reported : Option (List ℕ)) → with_bytes reported [] ≡ reported
with_bytes-nil None = refl
with_bytes-nil (Some bytes) = ap (λ (x : List ℕ). Some x) (append-nil bytes)
