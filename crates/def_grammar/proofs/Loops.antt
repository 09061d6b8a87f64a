-- A repetition as a loop reads it.
use lib.Dec.{eqb-suc-zero}
use Rattle.std.proofs.Common.{◌≡◌, ℕ, zero, suc, ◌-◌, arith, Bool, true, false, cond, List, [], ◌∷◌, ◌<◌, ◌++◌, length, Option, Some, None, Ok, Err, refl, sym, ap, ◌∙◌, subst, append_assoc}
use Rattle.std.proofs.lemmas.List.{append-nil}
use Rattle.std.specs.Prelude.{map, option_to_list}
use Rattle.def_grammar.specs.declared.kind.Kind.{Kind}
use Rattle.m2_tree.specs.declared.token.Token.{Token}
use Rattle.def_grammar.specs.declared.refusal.GrammarRule.{GrammarRule}
use Rattle.def_grammar.specs.Grammar.{Ty, El, Gr, many, nest, lead, trail, ◌·◌}
use Rattle.def_grammar.specs.Trees.{with_first, flatten_lists, present, ident_of}
use Rattle.def_grammar.specs.Kinds.{kind_of}
use Rattle.def_grammar.specs.Reading.{Outcome, Reader, and_then, first, begins, is_among, nullable, one_token, no_deeper, read, map_outcome, gather_turns, enter_level, AteIf, HadIf, TookIf, TookAs}
use Rattle.def_grammar.proofs.OneAhead.{is_repeatable}
use Rattle.def_grammar.proofs.Turns.{IsShorter, read_shorter, many-is}

left_of : {A : Type 0} → A → Outcome A → A
left_of x (Ok p) = p.0
left_of x (Err e) = x

right_of : {A : Type 0} → Outcome A → List Token
right_of (Ok p) = p.1
right_of (Err e) = []

abbrev done : {A : Type 0} → A → List Token → Outcome A
done x ts = Ok (x, ts)

ok_left : {A : Type 0} (x y : A) (ts us : List Token) → done x ts ≡ done y us → x ≡ y
unfolding left_of
ok_left x y ts us e = ap (left_of x) e

ok_right : {A : Type 0} (x y : A) (ts us : List Token) → done x ts ≡ done y us → ts ≡ us
unfolding right_of
ok_right x y ts us e = ap right_of e

-- a collection that takes the items one after the other
pub record Collects {A B : Type 0} (collect : List A → List B) (item : A → List B) : Type 0 where
  pub empty : collect [] ≡ []
  pub more : (x : A) (xs : List A) → collect (x ∷ xs) ≡ item x ++ collect xs

gathered_turn : {A B : Type 0} (collect : List A → List B) (item : A → List B) → Collects collect item
    → (front : List B) (x : A) (o : Outcome (List A))
    → gather_turns collect front (and_then o (λ xs rest. Ok (x ∷ xs, rest))) ≡ gather_turns collect (front ++ item x) o
gathered_turn collect item c front x (Ok p) =
    ap (λ ys. Ok (ys, p.1)) (ap (λ ys. front ++ ys) (c.more x p.0) ∙ sym (append_assoc front (item x) (collect p.0)))
gathered_turn collect item c front x (Err e) = refl

module _ {a : Ty} {B : Type 0} (g : Gr a) (collect : List (El a) → List B) (item : El a → List B)
    (c : Collects collect item) (e : is_repeatable g ≡ true) (n : ℕ) (ts : List Token) (front : List B) where
  pub loop_turn : (x : El a) (mid : List Token) → begins (first g) ts ≡ true → read g n ts ≡ Ok (x, mid)
      → gather_turns collect front (read (many g) n ts) ≡ gather_turns collect (front ++ item x) (read (many g) n mid)
  loop_turn x mid b r = rw (many-is g n e ts, b, r) (gathered_turn collect item c front x (read (many g) n mid))

  pub loop_stop : begins (first g) ts ≡ false → gather_turns collect front (read (many g) n ts) ≡ Ok (front, ts)
  loop_stop b = rw (many-is g n e ts, b) (ap (λ ys. Ok (ys, ts)) (ap (λ ys. front ++ ys) c.empty ∙ append-nil front))

  pub loop_fail : (d : List Token × GrammarRule) → begins (first g) ts ≡ true → read g n ts ≡ Err d
      → gather_turns collect front (read (many g) n ts) ≡ Err d
  loop_fail d b r = rw (many-is g n e ts, b, r) refl

pub plain : {A : Type 0} → Collects {A = A} (λ xs. xs) (λ x. x ∷ [])
plain = record { empty = refl; more = λ x xs. refl }

pub mapped_each : {A B : Type 0} (f : A → B) → Collects (map f) (λ x. f x ∷ [])
mapped_each f = record { empty = refl; more = λ x xs. refl }

pub joined_each : {A B : Type 0} (f : A → List B) → Collects (λ xs. flatten_lists (map f xs)) f
joined_each f = record { empty = refl; more = λ x xs. refl }

pub with_first-is : {A : Type 0} (x : A) (o : Outcome (List A))
    → map_outcome with_first (and_then o (λ xs rest. Ok ((x, xs), rest))) ≡ gather_turns (λ xs. xs) (x ∷ []) o
with_first-is x (Ok p) = refl
with_first-is x (Err e) = refl

pub word_then : {a : Ty} (k : Kind) (g : Gr a) (n : ℕ) (t : Token) (x : El a) (ts mid rest : List Token)
    → one_token (k ∷ []) ts ≡ Ok (t, mid) → read g n mid ≡ Ok (x, rest) → read (lead k g) n ts ≡ Ok (x, rest)
word_then k g n t x ts mid rest e d = rw (e, d) refl

pub pair_then : {a b : Ty} (g : Gr a) (h : Gr b) (n : ℕ) (x : El a) (y : El b) (ts mid rest : List Token)
    → read g n ts ≡ Ok (x, mid) → read h n mid ≡ Ok (y, rest) → read (g · h) n ts ≡ Ok ((x, y), rest)
pair_then g h n x y ts mid rest e d = rw (e, d) refl

pub behind_then : {a : Ty} (g : Gr a) (k : Kind) (n : ℕ) (x : El a) (t : Token) (ts mid rest : List Token)
    → read g n ts ≡ Ok (x, mid) → one_token (k ∷ []) mid ≡ Ok (t, rest) → read (trail g k) n ts ≡ Ok (x, rest)
behind_then g k n x t ts mid rest e d = rw (e, d) refl

pub turn_shorter : {a : Ty} (g : Gr a) (n : ℕ) (x : El a) (ts rest : List Token) → nullable g ≡ false
    → read g n ts ≡ Ok (x, rest) → length rest < length ts
turn_shorter g n x ts rest e d = subst (IsShorter ts) d (read_shorter g n e ts)

pub took_as : {A : Type 0} (ks : List Kind) (f : Token → A) (ts : List Token) (found : Option A) (rest : List Token)
    → TookIf ks f ts found rest → TookAs ks f ts found rest
took_as ks f ts None rest h = (None, rw (h.0, h.1) refl, refl)
took_as ks f ts (Some x) rest h = (Some h.1, rw (h.0, h.2) refl, ap Some h.3)

pub had_if : (k : Kind) (ts : List Token) (b : Bool) (rest : List Token) → AteIf k ts b rest → HadIf k ts b rest
had_if k ts false rest h = (None, rw (h.0, h.1) refl, refl)
had_if k ts true rest h = (Some h.1, rw (h.0, h.2) refl, refl)

pub mapped_ok : {A B : Type 0} (f : A → B) (o : Outcome A) (y : B) (rest : List Token) → map_outcome f o ≡ Ok (y, rest)
    → (x : A) × (o ≡ Ok (x, rest)) × (y ≡ f x)
mapped_ok f (Ok p) y rest e = (p.0, ap (λ r. Ok (p.0, r)) (ok_right _ _ _ _ e), sym (ok_left _ _ _ _ e))
mapped_ok f (Err d) y rest e = absurd cc

-- ---- items that may be absent

optional_more : {A : Type 0} (x : Option A) (xs : List (Option A)) → present (x ∷ xs) ≡ option_to_list x ++ present xs
optional_more None xs = refl
optional_more (Some x) xs = refl

pub optional : {A : Type 0} → Collects {A = Option A} present option_to_list
optional = record { empty = refl; more = optional_more }

pub present-is : {A : Type 0} (x : Option A) (o : Outcome (List (Option A)))
    → map_outcome (λ p. present (with_first p)) (and_then o (λ xs rest. Ok ((x, xs), rest)))
    ≡ gather_turns present (option_to_list x) o
present-is x (Ok p) = ap (λ ys. Ok (ys, p.1)) (optional_more x p.0)
present-is x (Err e) = refl

pub words-is : (t : Token) (o : Outcome (List Token))
    → map_outcome (λ p. map ident_of (with_first p)) (and_then o (λ xs rest. Ok ((t, xs), rest)))
    ≡ gather_turns (map ident_of) (ident_of t ∷ []) o
words-is t (Ok p) = refl
words-is t (Err e) = refl

-- ---- a level of nesting

enter_by : {A : Type 0} (b : Bool) (ts : List Token) (e d : List Token × GrammarRule) (p : ℕ → Reader A)
    → cond {A = Outcome A} b (Err e) (Err d) ≡ and_then (cond b (Err e) (Err d)) p
enter_by true ts e d p = refl
enter_by false ts e d p = refl

enter_none : {A : Type 0} (ks : List Kind) (ts : List Token) (p : ℕ → Reader A)
    → no_deeper {A = A} ks ts ≡ and_then (no_deeper ks ts) p
enter_none ks [] p = refl
enter_none ks (t ∷ ts) p = enter_by (is_among (kind_of t) ks) ts _ _ p

pub nest-is : {a : Ty} (g : Gr a) (n : ℕ) (ts : List Token)
    → read (nest g) n ts ≡ and_then (enter_level (first g) n ts) (read g)
nest-is g zero ts = enter_none (first g) ts (read g)
nest-is g (suc n) ts = let e : suc n - 1 ≡ n = omega arith in rw (eqb-suc-zero n, e) refl

pub ruleset lists = (with_first-is, present-is, words-is)
