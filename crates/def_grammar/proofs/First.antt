-- What the texts of a part begin with.
use Rattle.std.proofs.Common.{◌≡◌, ℕ, zero, suc, Bool, true, false, cond, List, [], ◌∷◌, ◌++◌, refl, sym, ◌∙◌, inl, inr, ◌⊎◌, Some}
use Rattle.def_grammar.specs.declared.kind.Kind.{Kind}
use Rattle.def_grammar.specs.declared.kind.Kind.TheVariants as the
use Rattle.m2_tree.specs.declared.token.Token.{Token}
use Rattle.def_grammar.specs.Rule.{Rule}
use Rattle.def_grammar.specs.Grammar.{Ty, El, Gr, tok, rule, ◌·◌, ◌∣◌, lead, trail, opt, many, nest, named}
use Rattle.def_grammar.specs.Ebnf.{grammar}
use Rattle.def_grammar.specs.Trees.{tree}
use Rattle.def_grammar.specs.Spelling.{Among, here, there, Spells, one, made, pair, left, right, before, behind, absent, there_is, none, more, nested, closed, CanBegin}
use Rattle.def_grammar.specs.Kinds.{kind_of, same_kind}
use Rattle.def_grammar.specs.Tables.{starters}
use Rattle.def_grammar.specs.Reading.{first, first_by, nullable, is_among}
use Rattle.def_grammar.proofs.Truth.{is-same_kind}
use Rattle.def_grammar.proofs.Sets.{or_left, or_right, among_left, among_right, among_either, within-among}
use Rattle.def_grammar.proofs.OneAhead.{reached, tabled}
use Rattle.def_grammar.proofs.Filled.{token_of, kind_token, fill, empty}
use Rattle.def_grammar.proofs.One.{among_is, among_one}

-- a text begins with a token that the part can begin with, or is empty where it may be
abbrev pub FirstOf : {a : Ty} → Gr a → List Token → Type 0
FirstOf g [] = nullable g ≡ true
FirstOf g (t ∷ ts) = is_among (kind_of t) (first g) ≡ true

pub is-among : {k : Kind} {ks : List Kind} → Among k ks → is_among k ks ≡ true
is-among {k} (here {ks = ks}) = or_left (same_kind k k) (is_among k ks) (is-same_kind k k refl)
is-among {k} (there {j = j} {ks = ks} a) = or_right (same_kind k j) (is_among k ks) (is-among a)

pub of_word : (t : Token) (k : Kind) → (kind_of t) ≡ k → is_among (kind_of t) (k ∷ []) ≡ true
of_word t k e = or_left (same_kind (kind_of t) k) false (is-same_kind (kind_of t) k e)

pub skip_first : (b : Bool) (k : Kind) (xs ys : List Kind) → is_among k xs ≡ true
    → is_among k (cond b (xs ++ ys) xs) ≡ true
skip_first true k xs ys e = among_left k xs ys e
skip_first false k xs ys e = e

pub reach_second : (b : Bool) (k : Kind) (xs ys : List Kind) → b ≡ true → is_among k ys ≡ true
    → is_among k (cond b (xs ++ ys) xs) ≡ true
reach_second true k xs ys e d = among_right k xs ys d
reach_second false k xs ys e d = absurd cc

pair_first : {a b : Ty} (g : Gr a) (h : Gr b) (ts us : List Token) → FirstOf g ts → FirstOf h us
    → FirstOf (g · h) (ts ++ us)
pair_first g h [] [] p q = rw (p, q) refl
pair_first g h [] (u ∷ us) p q = reach_second (nullable g) (kind_of u) (first g) (first h) p q
pair_first g h (t ∷ ts) us p q = skip_first (nullable g) (kind_of t) (first g) (first h) p

behind_first : {a : Ty} (k : Kind) (g : Gr a) (ts : List Token) (t : Token) → FirstOf g ts → (kind_of t) ≡ k
    → FirstOf (trail g k) (ts ++ t ∷ [])
behind_first k g [] t p e = reach_second (nullable g) (kind_of t) (first g) (k ∷ []) p (of_word t k e)
behind_first k g (u ∷ ts) t p e = skip_first (nullable g) (kind_of u) (first g) (k ∷ []) p

left_first : {a b : Ty} (g : Gr a) (h : Gr b) (ts : List Token) → FirstOf g ts → FirstOf (g ∣ h) ts
left_first g h [] p = or_left (nullable g) (nullable h) p
left_first g h (t ∷ ts) p = among_left (kind_of t) (first g) (first h) p

right_first : {a b : Ty} (g : Gr a) (h : Gr b) (ts : List Token) → FirstOf h ts → FirstOf (g ∣ h) ts
right_first g h [] p = or_right (nullable g) (nullable h) p
right_first g h (t ∷ ts) p = among_right (kind_of t) (first g) (first h) p

opt_first : {a : Ty} (g : Gr a) (ts : List Token) → FirstOf g ts → FirstOf (opt g) ts
opt_first g [] p = refl
opt_first g (t ∷ ts) p = p

more_first : {a : Ty} (g : Gr a) (ts us : List Token) → FirstOf g ts → FirstOf (many g) us → FirstOf (many g) (ts ++ us)
more_first g [] us p q = q
more_first g (t ∷ ts) us p q = p

rule_first : (r : Rule) (ts : List Token) → FirstOf (grammar r).form ts → FirstOf (rule r) ts
rule_first r [] p = sym (tabled r).empty ∙ p
rule_first r (t ∷ ts) p = within-among (kind_of t) (first (grammar r).form) (starters r) (tabled r).firsts p

nest_first : {a : Ty} (g : Gr a) (ts : List Token) → FirstOf g ts → FirstOf (nest g) ts
nest_first g [] p = p
nest_first g (t ∷ ts) p = p

pub first_of_text : {a : Ty} {g : Gr a} {x : El a} {ts : List Token} → Spells a g x ts → FirstOf g ts
first_of_text (one a) = is-among a
first_of_text (made {r = r} {ts = ts} p) = rule_first r ts (first_of_text p)
first_of_text (pair {g = g} {h = h} {ts = ts} {us = us} p q) = pair_first g h ts us (first_of_text p) (first_of_text q)
first_of_text (left {g = g} {h = h} {ts = ts} p) = left_first g h ts (first_of_text p)
first_of_text (right {g = g} {h = h} {ts = ts} p) = right_first g h ts (first_of_text p)
first_of_text (before {k = k} {t = t} e p) = of_word t k e
first_of_text (behind {k = k} {g = g} {ts = ts} t p e) = behind_first k g ts t (first_of_text p) e
first_of_text absent = refl
first_of_text (there_is {g = g} {ts = ts} p) = opt_first g ts (first_of_text p)
first_of_text none = refl
first_of_text (more {g = g} {ts = ts} {us = us} p q) = more_first g ts us (first_of_text p) (first_of_text q)
first_of_text (nested {g = g} {ts = ts} p) = nest_first g ts (first_of_text p)
first_of_text (closed t u e p f) = of_word t the.Name e

-- ---- each token that a part begins with begins a text of it

IsReal : (Rule → List Kind) → Type 0
IsReal ρ = (r : Rule) (t : Token) → is_among (kind_of t) (ρ r) ≡ true → CanBegin (rule r) t

pick : (b : Bool) (k : Kind) (xs ys : List Kind) → is_among k (cond b (xs ++ ys) xs) ≡ true → (is_among k xs ≡ true)
    ⊎ ((b ≡ true) × (is_among k ys ≡ true))
pick true k xs ys e = elim (among_either k xs ys e) [ inl p ↦ inl p | inr q ↦ inr (refl, q) ]
pick false k xs ys e = inl e

pair_real : {a b : Ty} (g : Gr a) (h : Gr b) (t : Token) (xs ys : List Kind)
    → (is_among (kind_of t) xs ≡ true → CanBegin g t) → (is_among (kind_of t) ys ≡ true → CanBegin h t)
    → (is_among (kind_of t) xs ≡ true) ⊎ ((nullable g ≡ true) × (is_among (kind_of t) ys ≡ true)) → CanBegin (g · h) t
pair_real g h t xs ys f s (inl e) = let x = f e in let y = fill h in ((x.0, y.value), x.1 ++ y.text, pair x.2 y.spelt)
pair_real g h t xs ys f s (inr e) = let x = empty g e.0 in let y = s e.1 in ((x.0, y.0), y.1, pair x.1 y.2)

either_real : {a b : Ty} (g : Gr a) (h : Gr b) (t : Token) (xs ys : List Kind)
    → (is_among (kind_of t) xs ≡ true → CanBegin g t) → (is_among (kind_of t) ys ≡ true → CanBegin h t)
    → (is_among (kind_of t) xs ≡ true) ⊎ (is_among (kind_of t) ys ≡ true) → CanBegin (g ∣ h) t
either_real g h t xs ys f s (inl e) = let x = f e in (inl x.0, x.1, left x.2)
either_real g h t xs ys f s (inr e) = let y = s e in (inr y.0, y.1, right y.2)

behind_real : {a : Ty} (g : Gr a) (k : Kind) (t : Token) (xs : List Kind)
    → (is_among (kind_of t) xs ≡ true → CanBegin g t)
    → (is_among (kind_of t) xs ≡ true) ⊎ ((nullable g ≡ true) × (is_among (kind_of t) (k ∷ []) ≡ true))
    → CanBegin (trail g k) t
behind_real g k t xs f (inl e) = let x = f e in (x.0, x.1 ++ token_of k ∷ [], behind (token_of k) x.2 (kind_token k))
behind_real g k t xs f (inr e) = let x = empty g e.0 in (x.0, [], behind t x.1 (among_one (kind_of t) k e.1))

module _ (ρ : Rule → List Kind) (real : IsReal ρ) where
  real_by : {a : Ty} (g : Gr a) (t : Token) → is_among (kind_of t) (first_by ρ g) ≡ true → CanBegin g t
  unfolding IsReal
  real_by (tok k ks) t e = (t, [], one (among_is (kind_of t) (k ∷ ks) e))
  real_by (rule r) t e = real r t e
  real_by (g · h) t e = pair_real g h t (first_by ρ g) (first_by ρ h) (real_by g t) (real_by h t)
      (pick (nullable g) (kind_of t) (first_by ρ g) (first_by ρ h) e)
  real_by (g ∣ h) t e = either_real g h t (first_by ρ g) (first_by ρ h) (real_by g t) (real_by h t)
      (among_either (kind_of t) (first_by ρ g) (first_by ρ h) e)
  real_by (lead k g) t e = let f = fill g in (f.value, f.text, before (among_one (kind_of t) k e) f.spelt)
  real_by (trail g k) t e = behind_real g k t (first_by ρ g) (real_by g t)
      (pick (nullable g) (kind_of t) (first_by ρ g) (k ∷ []) e)
  real_by (opt g) t e = let x = real_by g t e in (Some x.0, x.1, there_is x.2)
  real_by (many g) t e = let x = real_by g t e in (x.0 ∷ [], x.1 ++ [], more x.2 none)
  real_by (nest g) t e = let x = real_by g t e in (x.0, x.1, nested x.2)
  real_by (named g) t e = let f = fill g in (
    (t, f.value),
    f.text ++ token_of the.Name
        ∷ [],
    closed t (token_of the.Name) (among_one (kind_of t) the.Name e) f.spelt refl,
  )

made_real : (r : Rule) (t : Token) → CanBegin (grammar r).form t → CanBegin (rule r) t
made_real r t x = (tree r x.0, x.1, made x.2)

reached_real : (n : ℕ) → IsReal (reached n)
unfolding IsReal
reached_real zero r t e = absurd cc
reached_real (suc n) r t e = made_real r t (real_by (reached n) (reached_real n) (grammar r).form t e)

starters_real : IsReal starters
unfolding IsReal
starters_real r t e = reached_real 8 r t (within-among (kind_of t) (starters r) (reached 8 r) (tabled r).real e)

pub can_begin : {a : Ty} (g : Gr a) (t : Token) → is_among (kind_of t) (first g) ≡ true → CanBegin g t
can_begin g t e = real_by starters starters_real g t e
