-- What has a tree is read, unless a rule on names or nesting is broken before its end.
use Rattle.std.proofs.Common.{◌≡◌, ℕ, zero, suc, ◌<◌, ◌≤◌, Bool, true, false, not, cond, List, [], ◌∷◌, ◌++◌, length, Some, Ok, Err, refl, sym, ap, subst, arith, append_assoc, inl, inr, ◌⊎◌}
use Rattle.std.proofs.lemmas.List.{length-append}
use Rattle.std.specs.Str.{bytes_eq}
use Rattle.def_grammar.specs.declared.kind.Kind.{Kind}
use Rattle.def_grammar.specs.declared.kind.Kind.TheVariants as the
use Rattle.m2_tree.specs.declared.token.Token.{Token}
use Rattle.def_grammar.specs.declared.refusal.GrammarRule.{GrammarRule}
use Rattle.def_grammar.specs.declared.refusal.GrammarRule.TheVariants.{Unfit, Misnamed, TooDeep}
use Rattle.def_grammar.specs.Grammar.{Ty, El, Gr, ◌·◌, ◌∣◌, many}
use Rattle.def_grammar.specs.Ebnf.{grammar}
use Rattle.def_grammar.specs.Trees.{name_of, tree}
use Rattle.def_grammar.specs.Spelling.{Spells, one, made, pair, left, right, before, behind, absent, there_is, none, more, nested, closed}
use Rattle.def_grammar.specs.Kinds.{kind_of}
use Rattle.def_grammar.specs.Reading.{Outcome, Reader, and_then, nullable, first, kind_at, begins, is_among, one_token, no_deeper, read}
use Rattle.def_grammar.proofs.Truth.{and_both}
use Rattle.def_grammar.proofs.Sets.{not_true, clash, among_neither, within-not, disjoint-not}
use Rattle.def_grammar.proofs.OneAhead.{ext, extenders, disjoint, one_ahead, tabled}
use Rattle.def_grammar.proofs.First.{FirstOf, first_of_text, is-among, of_word}
use Rattle.def_grammar.proofs.Knot.{read_rule-is}
use Rattle.def_grammar.proofs.Turns.{many-is}

abbrev pub IsRule : GrammarRule → Type 0
IsRule Unfit = ⊥
IsRule Misnamed = Unit {0}
IsRule TooDeep = Unit {0}

-- a rule is broken before this
abbrev pub Trips : {A : Type 0} → Outcome A → List Token → Type 0
Trips (Ok p) rest = ⊥
Trips (Err e) rest = IsRule e.1 × (length rest < length e.0)

abbrev pub Meets : {A : Type 0} → Outcome A → A → List Token → Type 0
Meets o x rest = (o ≡ Ok (x, rest)) ⊎ Trips o rest

-- the part cannot go on with what follows
abbrev pub Ends : {a : Ty} → Gr a → List Token → Type 0
Ends g rest = is_among (kind_at rest) (ext g) ≡ false

-- ---- what ends a part

cond_right : (b : Bool) (k : Kind) (xs ys : List Kind) → is_among k (cond b (xs ++ ys) ys) ≡ false
    → is_among k ys ≡ false
cond_right true k xs ys e = (among_neither k xs ys e).1
cond_right false k xs ys e = e

cond_left : (b : Bool) (k : Kind) (xs ys : List Kind) → b ≡ true → is_among k (cond b (xs ++ ys) ys) ≡ false
    → is_among k xs ≡ false
cond_left true k xs ys d e = (among_neither k xs ys e).0
cond_left false k xs ys d e = absurd cc

ends_first : {a b : Ty} (g : Gr a) (h : Gr b) (us rest : List Token) → disjoint (ext g) (first h) ≡ true → FirstOf h us
    → Ends (g · h) rest → Ends g (us ++ rest)
ends_first g h [] rest d f e = cond_left (nullable h) (kind_at rest) (ext g) (ext h) f e
ends_first g h (u ∷ us) rest d f e = disjoint-not (kind_of u) (ext g) (first h) d f

ends_turn : {a : Ty} (g : Gr a) (us rest : List Token) → disjoint (ext g) (first g) ≡ true → FirstOf (many g) us
    → Ends (many g) rest → Ends g (us ++ rest)
ends_turn g [] rest d f e = (among_neither (kind_at rest) (first g) (ext g) e).1
ends_turn g (u ∷ us) rest d f e = disjoint-not (kind_of u) (ext g) (first g) d f

pub begun : {a : Ty} (g : Gr a) (ts rest : List Token) → nullable g ≡ false → FirstOf g ts
    → begins (first g) (ts ++ rest) ≡ true
begun g [] rest e f = clash (nullable g) f e
begun g (t ∷ ts) rest e f = f

cond_some : (b : Bool) (k : Kind) (xs : List Kind) → b ≡ true → is_among k (cond b xs []) ≡ false
    → is_among k xs ≡ false
cond_some true k xs d e = e
cond_some false k xs d e = absurd cc

not_begun : {a b : Ty} (g : Gr a) (h : Gr b) (us rest : List Token) → disjoint (first g) (first h) ≡ true → FirstOf h us
    → Ends (g ∣ h) rest → begins (first g) (us ++ rest) ≡ false
not_begun g h [] rest d f e = cond_some (nullable h) (kind_at rest) (first g) f
    (among_neither (kind_at rest) (ext g ++ ext h) (cond (nullable h) (first g) []) e).1
not_begun g h (u ∷ us) rest d f e = disjoint-not (kind_of u) (first g) (first h) d f

-- ---- what follows in turn

mapped_meets : {A B : Type 0} (f : A → B) (o : Outcome A) (x : A) (rest : List Token) → Meets o x rest
    → Meets (and_then o (λ y r. Ok (f y, r))) (f x) rest
mapped_meets f o x rest (inl e) = inl (ap (λ r. and_then r (λ y r. Ok (f y, r))) e)
mapped_meets f (Ok p) x rest (inr t) = absurd t
mapped_meets f (Err e) x rest (inr t) = inr t

then_meets : {A B : Type 0} (o : Outcome A) (f : A → Reader B) (x : A) (y : B) (mid rest : List Token) → Meets o x mid
    → length rest ≤ length mid → Meets (f x mid) y rest → Meets (and_then o f) y rest
then_meets o f x y mid rest (inl e) le m = subst (λ r. Meets (and_then r f) y rest) (sym e) m
then_meets (Ok p) f x y mid rest (inr t) le m = absurd t
then_meets (Err e) f x y mid rest (inr t) le m = inr (t.0, omega (arith, t.1))

token_read : (k : Kind) (ks : List Kind) (t : Token) (rest : List Token) → is_among (kind_of t) (k ∷ ks) ≡ true
    → one_token (k ∷ ks) (t ∷ rest) ≡ Ok (t, rest)
token_read k ks t rest e = rw e refl

close_meets : {A : Type 0} (t u : Token) (x : A) (rest : List Token) (b : Bool)
    → Meets (and_then {B = Token × A} (cond b (Ok (u, rest)) (Err (u ∷ rest, Misnamed)))
    (λ u after. Ok ((t, x), after))) (t, x) rest
close_meets t u x rest true = inl refl
close_meets t u x rest false = inr (tt, omega arith)

deep_meets : {a : Ty} (g : Gr a) (x : El a) (ts rest : List Token) → nullable g ≡ false → FirstOf g ts
    → Meets {A = El a} (no_deeper (first g) (ts ++ rest)) x rest
deep_meets g x [] rest e f = clash (nullable g) f e
deep_meets g x (t ∷ ts) rest e f = inr (rw f (tt, omega (arith, length-append ts rest)))

pub complete : {a : Ty} {g : Gr a} {x : El a} {ts : List Token} → Spells a g x ts → one_ahead g ≡ true
    → (n : ℕ) (rest : List Token) → Ends g rest → Meets (read g n (ts ++ rest)) x rest
complete (one {k = k} {ks = ks} {t = t} m) l n rest e = inl (token_read k ks t rest (is-among m))
complete (made {r = r} {x = x} {ts = ts} p) l n rest e =
    rw (read_rule-is n r (ts ++ rest))
    (mapped_meets (tree r) _ x rest (complete p (tabled r).ahead n rest
    (within-not (kind_at rest) (ext (grammar r).form) (extenders r) (tabled r).exts e)))
complete (pair {g = g} {h = h} {x = x} {y = y} {ts = ts} {us = us} p q) l n rest e =
    let b = and_both (one_ahead g) _ l in
    let c = and_both (one_ahead h) _ b.1 in
    rw (append_assoc ts us rest)
    (then_meets (read g n (ts ++ (us ++ rest))) _ x (x, y) (us ++ rest) rest
    (complete p b.0 n (us ++ rest) (ends_first g h us rest c.1 (first_of_text q) e))
    (omega (arith, length-append us rest))
    (mapped_meets (λ y. (x, y)) _ y rest (complete q c.0 n rest
    (cond_right (nullable h) (kind_at rest) (ext g) (ext h) e))))
complete (left {g = g} {h = h} {x = x} {ts = ts} p) l n rest e =
    let b = and_both (one_ahead g) _ l in
    let c = and_both (one_ahead h) _ b.1 in
    let d = and_both (disjoint (first g) (first h)) _ c.1 in
    rw (begun g ts rest (not_true (nullable g) d.1) (first_of_text p))
    (mapped_meets inl _ x rest (complete p b.0 n rest
    (among_neither (kind_at rest) (ext g) (ext h) (among_neither (kind_at rest) (ext g ++ ext h) _ e).0).0))
complete (right {g = g} {h = h} {y = y} {ts = ts} p) l n rest e =
    let b = and_both (one_ahead g) _ l in
    let c = and_both (one_ahead h) _ b.1 in
    let d = and_both (disjoint (first g) (first h)) _ c.1 in
    rw (not_begun g h ts rest d.0 (first_of_text p) e)
    (mapped_meets inr _ y rest (complete p c.0 n rest
    (among_neither (kind_at rest) (ext g) (ext h) (among_neither (kind_at rest) (ext g ++ ext h) _ e).0).1))
complete (before {k = k} {g = g} {t = t} {ts = ts} is p) l n rest e = rw (of_word t k is) (complete p l n rest e)
complete (behind {k = k} {g = g} {x = x} {ts = ts} t p is) l n rest e =
    let b = and_both (one_ahead g) _ l in
    rw (append_assoc ts (t ∷ []) rest)
    (then_meets (read g n (ts ++ t ∷ rest)) _ x x (t ∷ rest) rest
    (complete p b.0 n (t ∷ rest) (disjoint-not (kind_of t) (ext g) (k ∷ []) b.1 (of_word t k is))) (omega arith)
    (rw (of_word t k is) (inl refl)))
complete (absent {g = g}) l n rest e = rw (among_neither (kind_at rest) (first g) (ext g) e).0 (inl refl)
complete (there_is {g = g} {x = x} {ts = ts} p) l n rest e =
    let b = and_both (one_ahead g) _ l in
    rw (begun g ts rest (not_true (nullable g) b.1) (first_of_text p))
    (mapped_meets Some _ x rest (complete p b.0 n rest (among_neither (kind_at rest) (first g) (ext g) e).1))
complete (none {g = g}) l n rest e =
    let b = and_both (one_ahead g) _ l in
    let c = and_both (disjoint (ext g) (first g)) _ b.1 in
    rw (many-is g n c.1 rest, (among_neither (kind_at rest) (first g) (ext g) e).0) (inl refl)
complete (more {g = g} {x = x} {xs = xs} {ts = ts} {us = us} p q) l n rest e =
    let b = and_both (one_ahead g) _ l in
    let c = and_both (disjoint (ext g) (first g)) _ b.1 in
    let d = and_both (not (nullable g)) _ c.1 in
    rw (
      append_assoc ts us rest,
      many-is g n c.1 (ts ++ (us ++ rest)),
      begun g ts (us ++ rest)
          (not_true (nullable g) d.0) (first_of_text p),
    )
    (then_meets (read g n (ts ++ (us ++ rest))) _ x (x ∷ xs) (us ++ rest) rest
    (complete p b.0 n (us ++ rest) (ends_turn g us rest c.0 (first_of_text q) e))
    (omega (arith, length-append us rest))
    (mapped_meets (λ xs. x ∷ xs) _ xs rest (complete q l n rest e)))
complete (nested {g = g} {x = x} {ts = ts} p) l zero rest e =
    let b = and_both (one_ahead g) _ l in
    deep_meets g x ts rest (not_true (nullable g) b.1) (first_of_text p)
complete (nested {g = g} {x = x} {ts = ts} p) l (suc n) rest e = let b = and_both (one_ahead g) _ l in
    complete p b.0 n rest e
complete (closed {g = g} {x = x} {ts = ts} t u ti p ui) l n rest e =
    let b = and_both (one_ahead g) _ l in
    rw (of_word t the.Name ti, append_assoc ts (u ∷ []) rest)
    (then_meets (read g n (ts ++ u ∷ rest)) _ x (t, x) (u ∷ rest) rest
    (complete p b.0 n (u ∷ rest) (disjoint-not (kind_of u) (ext g) (the.Name ∷ []) b.1 (of_word u the.Name ui)))
    (omega arith)
    (rw (of_word u the.Name ui) (close_meets t u x rest (bytes_eq (name_of t) (name_of u)))))
