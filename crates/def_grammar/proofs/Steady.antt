-- A reader looks one token ahead: what comes behind the token at which it stops changes nothing.
use Rattle.std.proofs.Common.{◌≡◌, ℕ, zero, suc, ◌+◌, ◌*◌, ◌≤◌, Bool, true, false, not, cond, List, [], ◌∷◌, ◌++◌, length, Some, None, Ok, Err, refl, sym, ap, ◌∙◌, subst, arith, append_assoc, inl, inr}
use Rattle.std.proofs.lemmas.List.{length-append, append_cancel_right}
use Rattle.std.specs.Str.{bytes_eq}
use Rattle.def_grammar.specs.declared.kind.Kind.{Kind}
use Rattle.def_grammar.specs.declared.kind.Kind.TheVariants as the
use Rattle.m2_tree.specs.declared.token.Token.{Token}
use Rattle.def_grammar.specs.declared.refusal.GrammarRule.{GrammarRule}
use Rattle.def_grammar.specs.declared.refusal.GrammarRule.TheVariants.{Unfit, Misnamed, TooDeep}
use Rattle.def_grammar.specs.Rule.{Rule}
use Rattle.def_grammar.specs.Grammar.{Ty, Gr, tok, rule, ◌·◌, ◌∣◌, lead, trail, opt, many, nest, named}
use Rattle.def_grammar.specs.Ebnf.{grammar}
use Rattle.def_grammar.specs.Trees.{name_of, tree}
use Rattle.def_grammar.specs.Kinds.{kind_of}
use Rattle.def_grammar.specs.Tables.{rank}
use Rattle.def_grammar.specs.Reading.{Outcome, Reader, Readers, and_then, nullable, first, begins, is_among, one_token, closing, no_deeper, turns, repetition_of, read_by, read_within, read_rule}
use Rattle.def_grammar.proofs.Truth.{and_both}
use Rattle.def_grammar.proofs.Sets.{not_true}
use Rattle.def_grammar.proofs.OneAhead.{ext, disjoint, one_ahead, tabled}
use Rattle.def_grammar.proofs.Sound.{IsRight, by_right, within_right}
use Rattle.def_grammar.proofs.Turns.{IsShorter, right_shorter, turns_same}

abbrev pub Trims : {A : Type 0} → List Token → Outcome A → Type 0
Trims ts (Ok p) = (u : List Token) × (ts ≡ u ++ p.1)
Trims ts (Err e) = (u : List Token) × (ts ≡ u ++ e.0)

-- with another tail behind the token t the outcome is the same, with that tail
abbrev pub Moves : {A : Type 0} → Token → List Token → List Token → Outcome A → Outcome A → Type 0
Moves t tail other (Ok p) o = (left : List Token) → p.1 ≡ left ++ t ∷ tail → o ≡ Ok (p.0, left ++ t ∷ other)
Moves t tail other (Err e) o = (left : List Token) → e.0 ≡ left ++ t ∷ tail → o ≡ Err (left ++ t ∷ other, e.1)

pub record IsSteady {A : Type 0} (p : Reader A) : Type 0 where
  pub trims : (ts : List Token) → Trims ts (p ts)
  pub moves : (t : Token) (tail other front : List Token)
      → Moves t tail other (p (front ++ t ∷ tail)) (p (front ++ t ∷ other))

-- ---- the steps

trims_on : {B : Type 0} (ts mid u : List Token) (q : Outcome B) → ts ≡ u ++ mid → Trims mid q → Trims ts q
trims_on ts mid u (Ok p) e r = (u ++ r.0, e ∙ ap (λ (us : List Token). u ++ us) r.1 ∙ sym (append_assoc u r.0 p.1))
trims_on ts mid u (Err d) e r = (u ++ r.0, e ∙ ap (λ (us : List Token). u ++ us) r.1 ∙ sym (append_assoc u r.0 d.0))

then_trims : {A B : Type 0} (ts : List Token) (o : Outcome A) (f : A → Reader B) → Trims ts o
    → ((x : A) → IsSteady (f x)) → Trims ts (and_then o f)
then_trims ts (Ok p) f s h = trims_on ts p.1 s.0 (f p.0 p.1) s.1 ((h p.0).trims p.1)
then_trims ts (Err e) f s h = s

same_left : (front left : List Token) (t : Token) (tail other : List Token) → front ++ t ∷ tail ≡ left ++ t ∷ tail
    → front ++ t ∷ other ≡ left ++ t ∷ other
same_left front left t tail other e = ap (λ (us : List Token). us ++ t ∷ other)
    (append_cancel_right front left (t ∷ tail) e)

module _ (t : Token) (tail other : List Token) where
  chain : {B : Type 0} (mid : List Token) (q r : Outcome B) (next : List Token → Outcome B) → Trims mid q
      → ((left : List Token) → mid ≡ left ++ t ∷ tail → Moves t tail other q (next left))
      → ((left : List Token) → mid ≡ left ++ t ∷ tail → r ≡ next left) → Moves t tail other q r
  chain mid (Ok p) r next s m n = λ left e.
      let whole = s.1 ∙ ap (λ (us : List Token). s.0 ++ us) e ∙ sym (append_assoc s.0 left (t ∷ tail)) in
      n (s.0 ++ left) whole ∙ m (s.0 ++ left) whole left e
  chain mid (Err d) r next s m n = λ left e.
      let whole = s.1 ∙ ap (λ (us : List Token). s.0 ++ us) e ∙ sym (append_assoc s.0 left (t ∷ tail)) in
      n (s.0 ++ left) whole ∙ m (s.0 ++ left) whole left e

  then_moves : {A B : Type 0} (o r : Outcome A) (f : A → Reader B) → Moves t tail other o r → ((x : A) → IsSteady (f x))
      → Moves t tail other (and_then o f) (and_then r f)
  then_moves (Ok p) r f m h =
      chain p.1 (f p.0 p.1) (and_then r f) (λ left. f p.0 (left ++ t ∷ other)) ((h p.0).trims p.1)
      (λ left e. subst (λ (us : List Token). Moves t tail other (f p.0 us) (f p.0 (left ++ t ∷ other))) (sym e)
      ((h p.0).moves t tail other left))
      (λ left e. ap (λ q. and_then q f) (m left e))
  then_moves (Err e) r f m h = λ left is. ap (λ q. and_then q f) (m left is)

  begins_same : (ks : List Kind) (front : List Token) → begins ks (front ++ t ∷ tail) ≡ begins ks (front ++ t ∷ other)
  begins_same ks [] = refl
  begins_same ks (u ∷ front) = refl

  cond_moves : {A : Type 0} (b : Bool) (p q r s : Outcome A) → Moves t tail other p r → Moves t tail other q s
      → Moves t tail other (cond b p q) (cond b r s)
  cond_moves true p q r s m n = m
  cond_moves false p q r s m n = n

cond_trims : {A : Type 0} (ts : List Token) (b : Bool) (p q : Outcome A) → Trims ts p → Trims ts q
    → Trims ts (cond b p q)
cond_trims ts true p q m n = m
cond_trims ts false p q m n = n

steady_then : {A B : Type 0} (p : Reader A) (f : A → Reader B) → IsSteady p → ((x : A) → IsSteady (f x))
    → IsSteady (λ ts. and_then (p ts) f)
steady_then p f s h = record {
  trims = λ ts. then_trims ts (p ts) f (s.trims ts) h;
  moves = λ t tail other front. then_moves t tail other (p (front ++ t ∷ tail)) (p (front ++ t ∷ other)) f
      (s.moves t tail other front) h;
}

ok_moves : {A : Type 0} (x : A) (t : Token) (tail other front : List Token)
    → Moves t tail other (Ok (x, front ++ t ∷ tail)) (Ok (x, front ++ t ∷ other))
ok_moves x t tail other front = λ left e. ap (λ us. Ok (x, us)) (same_left front left t tail other e)

err_moves : {A : Type 0} (f : GrammarRule) (t : Token) (tail other front : List Token)
    → Moves {A = A} t tail other (Err (front ++ t ∷ tail, f)) (Err (front ++ t ∷ other, f))
err_moves f t tail other front = λ left e. ap (λ us. Err (us, f)) (same_left front left t tail other e)

-- the token itself was taken
past_moves : {A : Type 0} (x : A) (t : Token) (tail other : List Token) (o : Outcome A)
    → Moves t tail other (Ok (x, tail)) o
past_moves x t tail other o = λ left e. absurd (omega (arith, ap length e, length-append left (t ∷ tail)))

steady_ok : {A : Type 0} (x : A) → IsSteady (λ ts. Ok (x, ts))
steady_ok x = record { trims = λ ts. ([], refl); moves = ok_moves x }

steady_err : {A : Type 0} (f : GrammarRule) → IsSteady {A = A} (λ ts. Err (ts, f))
steady_err f = record { trims = λ ts. ([], refl); moves = err_moves f }

steady_cond : {A : Type 0} (ks : List Kind) (p q : Reader A) → IsSteady p → IsSteady q
    → IsSteady (λ ts. cond (begins ks ts) (p ts) (q ts))
steady_cond ks p q s r = record {
  trims = λ ts. cond_trims ts (begins ks ts) (p ts) (q ts) (s.trims ts) (r.trims ts);
  moves = λ t tail other front. subst (λ (b : Bool). Moves t tail other
      (cond (begins ks (front ++ t ∷ tail)) (p (front ++ t ∷ tail)) (q (front ++ t ∷ tail)))
      (cond b (p (front ++ t ∷ other)) (q (front ++ t ∷ other)))) (begins_same t tail other ks front)
      (cond_moves t tail other (begins ks (front ++ t ∷ tail)) _ _ _ _ (s.moves t tail other front)
      (r.moves t tail other front));
}

-- ---- one token

one_trims : (ks : List Kind) (ts : List Token) → Trims ts (one_token ks ts)
one_trims ks [] = ([], refl)
one_trims ks (t ∷ ts) = cond_trims (t ∷ ts) (is_among (kind_of t) ks) (Ok (t, ts)) (Err (t ∷ ts, Unfit)) (t ∷ [], refl)
    ([], refl)

one_moves : (ks : List Kind) (t : Token) (tail other front : List Token)
    → Moves t tail other (one_token ks (front ++ t ∷ tail)) (one_token ks (front ++ t ∷ other))
one_moves ks t tail other [] = cond_moves t tail other (is_among (kind_of t) ks) _ _ _ _
    (past_moves t t tail other (Ok (t, other))) (err_moves Unfit t tail other [])
one_moves ks t tail other (u ∷ front) = cond_moves t tail other (is_among (kind_of u) ks) _ _ _ _
    (ok_moves u t tail other front) (err_moves Unfit t tail other (u ∷ front))

steady_one : (ks : List Kind) → IsSteady (one_token ks)
steady_one ks = record { trims = one_trims ks; moves = one_moves ks }

-- ---- a closing name

close_at : List ℕ → Token → List Token → Bool → Outcome Token
close_at name u ts b = and_then (cond b (Ok (u, ts)) (Err (u ∷ ts, Unfit)))
    (λ v rest. cond (bytes_eq name (name_of v)) (Ok (v, rest)) (Err (u ∷ ts, Misnamed)))

close_trims_at : (name : List ℕ) (u : Token) (ts : List Token) (b : Bool) → Trims (u ∷ ts) (close_at name u ts b)
unfolding close_at
close_trims_at name u ts true = cond_trims (u ∷ ts) (bytes_eq name (name_of u)) (Ok (u, ts)) (Err (u ∷ ts, Misnamed))
    (u ∷ [], refl) ([], refl)
close_trims_at name u ts false = ([], refl)

close_trims : (name : List ℕ) (ts : List Token) → Trims ts (closing name ts)
unfolding close_at
close_trims name [] = ([], refl)
close_trims name (u ∷ ts) = close_trims_at name u ts (is_among (kind_of u) (the.Name ∷ []))

module _ (o : List ℕ) (t : Token) (tail other : List Token) where
  close_here : (b : Bool) → Moves t tail other (close_at o t tail b) (close_at o t other b)
  unfolding close_at
  close_here true = cond_moves t tail other (bytes_eq o (name_of t)) _ _ _ _ (past_moves t t tail other (Ok (t, other)))
      (err_moves Misnamed t tail other [])
  close_here false = err_moves Unfit t tail other []

  close_later : (u : Token) (front : List Token) (b : Bool)
      → Moves t tail other (close_at o u (front ++ t ∷ tail) b) (close_at o u (front ++ t ∷ other) b)
  unfolding close_at
  close_later u front true = cond_moves t tail other (bytes_eq o (name_of u)) _ _ _ _ (ok_moves u t tail other front)
      (err_moves Misnamed t tail other (u ∷ front))
  close_later u front false = err_moves Unfit t tail other (u ∷ front)

  close_moves : (front : List Token) → Moves t tail other (closing o (front ++ t ∷ tail))
      (closing o (front ++ t ∷ other))
  unfolding close_at
  close_moves [] = close_here (is_among (kind_of t) (the.Name ∷ []))
  close_moves (u ∷ front) = close_later u front (is_among (kind_of u) (the.Name ∷ []))

steady_close : (name : List ℕ) → IsSteady (closing name)
steady_close o = record { trims = close_trims o; moves = λ t tail other front. close_moves o t tail other front }

-- ---- no level left

deep_trims : (A : Type 0) (ks : List Kind) (ts : List Token) → Trims {A = A} ts (no_deeper ks ts)
deep_trims A ks [] = ([], refl)
deep_trims A ks (t ∷ ts) = cond_trims (t ∷ ts) (is_among (kind_of t) ks) (Err (t ∷ ts, TooDeep)) (Err (t ∷ ts, Unfit))
    ([], refl) ([], refl)

deep_moves : (A : Type 0) (ks : List Kind) (t : Token) (tail other front : List Token)
    → Moves {A = A} t tail other (no_deeper ks (front ++ t ∷ tail)) (no_deeper ks (front ++ t ∷ other))
deep_moves A ks t tail other [] = cond_moves t tail other (is_among (kind_of t) ks) _ _ _ _
    (err_moves TooDeep t tail other []) (err_moves Unfit t tail other [])
deep_moves A ks t tail other (u ∷ front) =
    cond_moves t tail other (is_among (kind_of u) ks) _ _ _ _ (err_moves TooDeep t tail other (u ∷ front))
    (err_moves Unfit t tail other (u ∷ front))

steady_deep : {A : Type 0} (ks : List Kind) → IsSteady {A = A} (no_deeper ks)
steady_deep {A} ks = record { trims = deep_trims A ks; moves = deep_moves A ks }

-- ---- turns

steady_turns : {A : Type 0} (ks : List Kind) (p : Reader A) → IsSteady p → (m : ℕ) → IsSteady (turns ks p m)
unfolding turns
steady_turns ks p s zero = steady_ok []
steady_turns ks p s (suc m) = steady_cond ks
    (λ ts. and_then (p ts) (λ x mid. and_then (turns ks p m mid) (λ xs rest. Ok (x ∷ xs, rest)))) (λ ts. Ok ([], ts))
    (steady_then p _ s (λ x. steady_then (turns ks p m) _ (steady_turns ks p s m) (λ xs. steady_ok (x ∷ xs))))
    (steady_ok [])

module _ {A : Type 0} (ks : List Kind) (p : Reader A) (s : IsSteady p)
    (shorter : (ts : List Token) → IsShorter ts (p ts)) (no_end : is_among the.End ks ≡ false) where
  repeated_turns : (m : ℕ) (ts : List Token) → length ts ≤ m → turns ks p m ts ≡ repetition_of ks p ts
  unfolding repetition_of
  repeated_turns m ts le = turns_same ks p shorter no_end m (length ts) ts le (omega arith)

  repeated_moves : (t : Token) (tail other front : List Token)
      → Moves t tail other (repetition_of ks p (front ++ t ∷ tail)) (repetition_of ks p (front ++ t ∷ other))
  repeated_moves t tail other front =
      let m = length (front ++ t ∷ tail) + length (front ++ t ∷ other) in
      subst (λ (o : Outcome (List A)). Moves t tail other o (repetition_of ks p (front ++ t ∷ other)))
      (repeated_turns m (front ++ t ∷ tail) (omega arith))
      (subst (λ (o : Outcome (List A)). Moves t tail other (turns ks p m (front ++ t ∷ tail)) o)
      (repeated_turns m (front ++ t ∷ other) (omega arith))
      ((steady_turns ks p s m).moves t tail other front))

  steady_repeated : IsSteady (repetition_of ks p)
  unfolding repetition_of
  steady_repeated = record { trims = λ ts. (steady_turns ks p s (length ts)).trims ts; moves = repeated_moves }

-- ---- the grammar

module _ (ρ : Readers) (all_right : (n : ℕ) (r : Rule) → IsRight (rule r) n (ρ n r))
    (all : (n : ℕ) (r : Rule) → IsSteady (ρ n r)) where
  by_steady : {a : Ty} (g : Gr a) (n : ℕ) → one_ahead g ≡ true → IsSteady (read_by ρ g n)
  by_steady (tok k ks) n l = steady_one (k ∷ ks)
  by_steady (rule r) n l = all n r
  by_steady (g · h) n l =
      let b = and_both (one_ahead g) _ l in
      let c = and_both (one_ahead h) _ b.1 in
      steady_then (read_by ρ g n) _ (by_steady g n b.0)
      (λ x. steady_then (read_by ρ h n) _ (by_steady h n c.0) (λ y. steady_ok (x, y)))
  by_steady (g ∣ h) n l =
      let b = and_both (one_ahead g) _ l in
      let c = and_both (one_ahead h) _ b.1 in
      steady_cond (first g) _ _ (steady_then (read_by ρ g n) _ (by_steady g n b.0) (λ x. steady_ok (inl x)))
      (steady_then (read_by ρ h n) _ (by_steady h n c.0) (λ y. steady_ok (inr y)))
  by_steady (lead k g) n l = steady_then (one_token (k ∷ [])) _ (steady_one (k ∷ [])) (λ t. by_steady g n l)
  by_steady (trail g k) n l = steady_then (read_by ρ g n) _ (by_steady g n (and_both (one_ahead g) _ l).0)
      (λ x. steady_then (one_token (k ∷ [])) _ (steady_one (k ∷ [])) (λ t. steady_ok x))
  by_steady (opt g) n l = steady_cond (first g) _ _
      (steady_then (read_by ρ g n) _ (by_steady g n (and_both (one_ahead g) _ l).0) (λ x. steady_ok (Some x)))
      (steady_ok None)
  by_steady (many g) n l =
      let b = and_both (one_ahead g) _ l in
      let c = and_both (disjoint (ext g) (first g)) _ b.1 in
      let d = and_both (not (nullable g)) _ c.1 in
      steady_repeated (first g) (read_by ρ g n) (by_steady g n b.0)
      (λ ts. right_shorter g n ts (read_by ρ g n ts) (not_true (nullable g) d.0) (by_right ρ all_right g n ts))
      (not_true (is_among the.End (first g)) d.1)
  by_steady (nest g) zero l = steady_deep (first g)
  by_steady (nest g) (suc n) l = by_steady g n (and_both (one_ahead g) _ l).0
  by_steady (named g) n l =
      steady_then (one_token (the.Name ∷ [])) _ (steady_one (the.Name ∷ []))
      (λ t. steady_then (read_by ρ g n) _ (by_steady g n (and_both (one_ahead g) _ l).0)
      (λ x. steady_then (closing (name_of t)) _ (steady_close (name_of t)) (λ u. steady_ok (t, x))))

within_steady : (k n : ℕ) (r : Rule) → IsSteady (read_within k n r)
unfolding read_within
within_steady zero n r = steady_err Unfit
within_steady (suc k) n r =
    steady_then (read_by (read_within k) (grammar r).form n) _
    (by_steady (read_within k) (within_right k) (within_steady k) (grammar r).form n (tabled r).ahead)
    (λ x. steady_ok (tree r x))

pub rule_steady : (n : ℕ) (r : Rule) → IsSteady (read_rule n r)
unfolding read_rule
rule_steady n r = within_steady (suc (n * 16 + rank r)) n r
