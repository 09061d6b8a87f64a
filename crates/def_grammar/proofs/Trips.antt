-- Where a rule on names or nesting is broken, the reader stops before, or there and for this fault.
use Rattle.std.proofs.Common.{◌≡◌, ◌≡◌, ℕ, ◌<◌, ◌≤◌, true, false, not, List, [], ◌∷◌, ◌++◌, length, Ok, Err, refl, sym, subst, arith, inl, inr, ◌⊎◌}
use Rattle.std.proofs.lemmas.List.{length-append}
use Rattle.std.proofs.lemmas.Slice.Eq.{bytes_eq-Decides}
use Rattle.std.specs.Str.{bytes_eq}
use Rattle.def_grammar.specs.declared.kind.Kind.TheVariants as the
use Rattle.m2_tree.specs.declared.token.Token.{Token}
use Rattle.def_grammar.specs.declared.refusal.GrammarRule.{GrammarRule}
use Rattle.def_grammar.specs.declared.refusal.GrammarRule.TheVariants.{Misnamed}
use Rattle.def_grammar.specs.Grammar.{Ty, Gr, ◌·◌}
use Rattle.def_grammar.specs.Ebnf.{grammar}
use Rattle.def_grammar.specs.Trees.{name_of}
use Rattle.def_grammar.specs.Spelling.{Breaks, too_deep, misnamed, in_rule, in_first, in_second, in_left, in_right, in_rest, in_front, in_opt, in_turn_now, in_turn_later, in_nest, in_named}
use Rattle.def_grammar.specs.Kinds.{kind_of}
use Rattle.def_grammar.specs.Tables.{starters}
use Rattle.def_grammar.specs.Reading.{Outcome, Reader, and_then, nullable, first, kind_at, begins, read}
use Rattle.def_grammar.proofs.Truth.{and_both}
use Rattle.def_grammar.proofs.Sets.{not_true, false_from, among_left, among_right, within-among, disjoint-not}
use Rattle.def_grammar.proofs.OneAhead.{ext, disjoint, one_ahead, tabled}
use Rattle.def_grammar.proofs.First.{FirstOf, first_of_text, of_word, skip_first, reach_second}
use Rattle.def_grammar.proofs.Knot.{read_rule-is}
use Rattle.def_grammar.proofs.Turns.{many-is}
use Rattle.def_grammar.proofs.Complete.{Meets, complete, begun}

second_begins : {a b : Ty} (g : Gr a) (h : Gr b) (us ts : List Token) → FirstOf g us → begins (first h) ts ≡ true
    → begins (first (g · h)) (us ++ ts) ≡ true
second_begins g h [] ts f e = reach_second (nullable g) (kind_at ts) (first g) (first h) f e
second_begins g h (u ∷ us) ts f e = skip_first (nullable g) (kind_of u) (first g) (first h) f

later_begins : {a : Ty} (g : Gr a) (us ts : List Token) → FirstOf g us → begins (first g) ts ≡ true
    → begins (first g) (us ++ ts) ≡ true
later_begins g [] ts f e = e
later_begins g (u ∷ us) ts f e = f

breaks_begins : {a : Ty} {g : Gr a} {n : ℕ} {ts at : List Token} {f : GrammarRule} → Breaks a g n ts at f
    → begins (first g) ts ≡ true
breaks_begins (too_deep x) = first_of_text x.2
breaks_begins (misnamed t u us ti p ui d) = of_word t the.Name ti
breaks_begins (in_rule {r = r} {ts = ts} p) =
    within-among (kind_at ts) (first (grammar r).form) (starters r) (tabled r).firsts (breaks_begins p)
breaks_begins (in_first {g = g} {h = h} {ts = ts} p) =
    skip_first (nullable g) (kind_at ts) (first g) (first h) (breaks_begins p)
breaks_begins (in_second {g = g} {h = h} {us = us} {ts = ts} q p) =
    second_begins g h us ts (first_of_text q) (breaks_begins p)
breaks_begins (in_left {g = g} {h = h} {ts = ts} p) = among_left (kind_at ts) (first g) (first h) (breaks_begins p)
breaks_begins (in_right {g = g} {h = h} {ts = ts} p) = among_right (kind_at ts) (first g) (first h) (breaks_begins p)
breaks_begins (in_rest {k = k} {t = t} is p) = of_word t k is
breaks_begins (in_front {k = k} {g = g} {ts = ts} p) =
    skip_first (nullable g) (kind_at ts) (first g) (k ∷ []) (breaks_begins p)
breaks_begins (in_opt p) = breaks_begins p
breaks_begins (in_turn_now p) = breaks_begins p
breaks_begins (in_turn_later {g = g} {us = us} {ts = ts} q p) = later_begins g us ts (first_of_text q) (breaks_begins p)
breaks_begins (in_nest p) = breaks_begins p
breaks_begins (in_named {t = t} is p) = of_word t the.Name is

breaks_within : {a : Ty} {g : Gr a} {n : ℕ} {ts at : List Token} {f : GrammarRule} → Breaks a g n ts at f
    → length at ≤ length ts
breaks_within (too_deep x) = omega arith
breaks_within (misnamed {ts = ts} t u us ti p ui d) = omega (arith, length-append ts (u ∷ us))
breaks_within (in_rule p) = breaks_within p
breaks_within (in_first p) = breaks_within p
breaks_within (in_second {us = us} {ts = ts} q p) = let h = breaks_within p in omega (arith, length-append us ts)
breaks_within (in_left p) = breaks_within p
breaks_within (in_right p) = breaks_within p
breaks_within (in_rest is p) = let h = breaks_within p in omega arith
breaks_within (in_front p) = breaks_within p
breaks_within (in_opt p) = breaks_within p
breaks_within (in_turn_now p) = breaks_within p
breaks_within (in_turn_later {us = us} {ts = ts} q p) = let h = breaks_within p in omega (arith, length-append us ts)
breaks_within (in_nest p) = breaks_within p
breaks_within (in_named is p) = let h = breaks_within p in omega arith

-- the reader stops before, or here and for this fault
abbrev pub Fails : {A : Type 0} → Outcome A → List Token → GrammarRule → Type 0
Fails (Ok p) at f = ⊥
Fails (Err e) at f = (length at < length e.0) ⊎ (e ≡ (at, f))

pub fails_within : (d : List Token × GrammarRule) (at : List Token) (f : GrammarRule) → (length at < length d.0)
    ⊎ (d ≡ (at, f)) → length at ≤ length d.0
fails_within d at f (inl lt) = omega arith
fails_within d at f (inr e) = rw e (omega arith)

and_fails : {A B : Type 0} (o : Outcome A) (p : A → Reader B) (at : List Token) (f : GrammarRule) → Fails o at f
    → Fails (and_then o p) at f
and_fails (Ok q) p at f h = absurd h
and_fails (Err e) p at f h = h

then_fails : {A B : Type 0} (o : Outcome A) (p : A → Reader B) (x : A) (mid at : List Token) (f : GrammarRule)
    → Meets o x mid → length at ≤ length mid → Fails (p x mid) at f → Fails (and_then o p) at f
then_fails o p x mid at f (inl e) le h = subst (λ r. Fails (and_then r p) at f) (sym e) h
then_fails (Ok q) p x mid at f (inr t) le h = absurd t
then_fails (Err e) p x mid at f (inr t) le h = inl (omega (arith, t.1))

pub trips : {a : Ty} {g : Gr a} {n : ℕ} {ts at : List Token} {f : GrammarRule} → Breaks a g n ts at f
    → one_ahead g ≡ true → Fails (read g n ts) at f
trips (too_deep x) l = rw (first_of_text x.2) (inr refl)
trips (misnamed {g = g} {n = n} {x = x} {ts = ts} t u us ti p ui d) l =
    let b = and_both (one_ahead g) _ l in
    let unlike : bytes_eq (name_of t) (name_of u) ≡ false =
    false_from (bytes_eq (name_of t) (name_of u)) (λ e. d ((bytes_eq-Decides (name_of t) (name_of u)).0 e)) in
    rw (of_word t the.Name ti)
    (then_fails (read g n (ts ++ u ∷ us)) _ x (u ∷ us) (u ∷ us) Misnamed
    (complete p b.0 n (u ∷ us) (disjoint-not (kind_of u) (ext g) (the.Name ∷ []) b.1 (of_word u the.Name ui)))
    (omega arith)
    (rw (of_word u the.Name ui, unlike) (inr refl)))
trips (in_rule {r = r} {n = n} {ts = ts} {at = at} p) l =
    rw (read_rule-is n r ts) (and_fails _ _ at _ (trips p (tabled r).ahead))
trips (in_first {g = g} {at = at} p) l = and_fails _ _ at _ (trips p (and_both (one_ahead g) _ l).0)
trips (in_second {g = g} {h = h} {n = n} {x = x} {us = us} {ts = ts} {at = at} q p) l =
    let b = and_both (one_ahead g) _ l in
    let c = and_both (one_ahead h) _ b.1 in
    then_fails (read g n (us ++ ts)) _ x ts at _
    (complete q b.0 n ts (disjoint-not (kind_at ts) (ext g) (first h) c.1 (breaks_begins p))) (breaks_within p)
    (and_fails _ _ at _ (trips p c.0))
trips (in_left {g = g} {at = at} p) l = rw (breaks_begins p)
    (and_fails _ _ at _ (trips p (and_both (one_ahead g) _ l).0))
trips (in_right {g = g} {h = h} {ts = ts} {at = at} p) l =
    let b = and_both (one_ahead g) _ l in
    let c = and_both (one_ahead h) _ b.1 in
    let d = and_both (disjoint (first g) (first h)) _ c.1 in
    rw (disjoint-not (kind_at ts) (first g) (first h) d.0 (breaks_begins p)) (and_fails _ _ at _ (trips p c.0))
trips (in_rest {k = k} {t = t} is p) l = rw (of_word t k is) (trips p l)
trips (in_front {g = g} {at = at} p) l = and_fails _ _ at _ (trips p (and_both (one_ahead g) _ l).0)
trips (in_opt {g = g} {at = at} p) l = rw (breaks_begins p)
    (and_fails _ _ at _ (trips p (and_both (one_ahead g) _ l).0))
trips (in_turn_now {g = g} {n = n} {ts = ts} {at = at} p) l =
    let b = and_both (one_ahead g) _ l in
    let c = and_both (disjoint (ext g) (first g)) _ b.1 in
    rw (many-is g n c.1 ts, breaks_begins p) (and_fails _ _ at _ (trips p b.0))
trips (in_turn_later {g = g} {n = n} {x = x} {us = us} {ts = ts} {at = at} q p) l =
    let b = and_both (one_ahead g) _ l in
    let c = and_both (disjoint (ext g) (first g)) _ b.1 in
    let d = and_both (not (nullable g)) _ c.1 in
    rw (many-is g n c.1 (us ++ ts), begun g us ts (not_true (nullable g) d.0) (first_of_text q))
    (then_fails (read g n (us ++ ts)) _ x ts at _
    (complete q b.0 n ts (disjoint-not (kind_at ts) (ext g) (first g) c.0 (breaks_begins p))) (breaks_within p)
    (and_fails _ _ at _ (trips p l)))
trips (in_nest {g = g} p) l = trips p (and_both (one_ahead g) _ l).0
trips (in_named {g = g} {t = t} {at = at} is p) l =
    rw (of_word t the.Name is) (and_fails _ _ at _ (trips p (and_both (one_ahead g) _ l).0))
