-- Texts, one behind another.
use Rattle.std.proofs.Common.{◌≡◌, ℕ, suc, ◌+◌, List, [], ◌++◌, refl, sym, ap, subst, ◌∙◌, add-one, append_assoc}
use Rattle.std.proofs.lemmas.List.{append-nil}
use Rattle.input_module.specs.Text.{arm, arms}

pub three : (t a b c t1 t2 t3 : List ℕ) → t1 ≡ t ++ a → t2 ≡ t1 ++ b → t3 ≡ t2 ++ c → t3 ≡ t ++ (a ++ (b ++ c))
three t a b c t1 t2 t3 e1 e2 e3 = e3 ∙ (ap (λ x. x ++ c) (e2 ∙ ap (λ x. x ++ b) e1) ∙ simp append_assoc)

pub five : (t a b c d e t1 t2 t3 t4 t5 : List ℕ) → t1 ≡ t ++ a → t2 ≡ t1 ++ b → t3 ≡ t2 ++ c → t4 ≡ t3 ++ d
    → t5 ≡ t4 ++ e → t5 ≡ t ++ (a ++ (b ++ (c ++ (d ++ e))))
five t a b c d e t1 t2 t3 t4 t5 e1 e2 e3 e4 e5 =
    three t (a ++ (b ++ c)) d e t3 t4 t5 (three t a b c t1 t2 t3 e1 e2 e3) e4 e5 ∙ simp append_assoc

pub no_arms : (t bytes : List ℕ) → t ≡ t ++ arms bytes 0
unfolding arms
no_arms t bytes = sym (append-nil t)

pub next_arm : (t bytes old new : List ℕ) (n : ℕ) → old ≡ t ++ arms bytes n → new ≡ old ++ arm bytes n
    → new ≡ t ++ arms bytes (n + 1)
unfolding arms
next_arm t bytes old new n e f = subst (λ (k : ℕ). new ≡ t ++ arms bytes k) (sym (add-one n))
    (f ∙ (ap (λ x. x ++ arm bytes n) e ∙ append_assoc t (arms bytes n) (arm bytes n)))

pub whole : (f a b t1 t2 t3 : List ℕ) → t1 ≡ f → t2 ≡ t1 ++ a → t3 ≡ t2 ++ b → t3 ≡ f ++ (a ++ b)
whole f a b t1 t2 t3 e1 e2 e3 = e3 ∙ (ap (λ x. x ++ b) (e2 ∙ ap (λ x. x ++ a) e1) ∙ append_assoc f a b)
