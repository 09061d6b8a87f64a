-- What a reader takes is a text of its part. Where it stops, the text could have gone on, or a rule is broken.
use Rattle.std.proofs.Common.{◌≡◌, ℕ, zero, suc, ◌+◌, ◌*◌, Bool, true, false, cond, List, [], ◌∷◌, ◌++◌, length, Some, None, Ok, Err, refl, sym, ap, subst, ◌∙◌, append_assoc, inl, inr}
use Rattle.std.proofs.lemmas.List.{append-nil}
use Rattle.std.specs.Str.{bytes_eq}
use Rattle.def_grammar.specs.declared.kind.Kind.{Kind}
use Rattle.def_grammar.specs.declared.kind.Kind.TheVariants as the
use Rattle.m2_tree.specs.declared.token.Token.{Token}
use Rattle.def_grammar.specs.declared.refusal.GrammarRule.{GrammarRule}
use Rattle.def_grammar.specs.declared.refusal.GrammarRule.TheVariants.{Unfit, Misnamed, TooDeep}
use Rattle.def_grammar.specs.Rule.{Rule}
use Rattle.def_grammar.specs.Grammar.{Ty, El, Gr, token, both, tok, rule, ◌·◌, ◌∣◌, lead, trail, opt, many, nest, named}
use Rattle.def_grammar.specs.Ebnf.{grammar}
use Rattle.def_grammar.specs.Trees.{name_of, tree}
use Rattle.def_grammar.specs.Spelling.{Spells, one, made, pair, left, right, before, behind, absent, there_is, none, more, nested, closed, Breaks, too_deep, misnamed, in_rule, in_first, in_second, in_left, in_right, in_rest, in_front, in_opt, in_turn_now, in_turn_later, in_nest, in_named}
use Rattle.def_grammar.specs.Kinds.{kind_of}
use Rattle.def_grammar.specs.Tables.{rank}
use Rattle.def_grammar.specs.Reading.{Outcome, Reader, Readers, and_then, first, begins, is_among, one_token, closing, turns, repetition_of, no_deeper, read_by, read_within, read_rule, read}
use Rattle.def_grammar.proofs.Filled.{Filled, token_of, kind_token, fill}
use Rattle.std.proofs.lemmas.Slice.Eq.{bytes_eq-Decides}
use Rattle.def_grammar.proofs.Sets.{clash}
use Rattle.def_grammar.proofs.First.{can_begin}
use Rattle.def_grammar.proofs.One.{OneOf, among_is, among_one, one_of}

-- the part is spelt by the front of the tokens
pub record Takes {a : Ty} (g : Gr a) (x : El a) (ts rest : List Token) : Type 0 where
  pub text : List Token
  pub parts : ts ≡ text ++ rest
  pub spelt : Spells a g x text

-- the front of the tokens begins a text of the part
pub record Leads {a : Ty} (g : Gr a) (ts at : List Token) : Type 0 where
  pub front : List Token
  pub parts : ts ≡ front ++ at
  pub rest : List Token
  pub value : El a
  pub spelt : Spells a g value (front ++ rest)

abbrev pub IfBroken : GrammarRule → Type 0 → Type 0
IfBroken Unfit P = Unit {0}
IfBroken Misnamed P = P
IfBroken TooDeep P = P

if_broken : (f : GrammarRule) {P Q : Type 0} → (P → Q) → IfBroken f P → IfBroken f Q
if_broken Unfit h p = tt
if_broken Misnamed h p = h p
if_broken TooDeep h p = h p

abbrev pub Right : {a : Ty} → Gr a → ℕ → List Token → Outcome (El a) → Type 0
Right g n ts (Ok p) = Takes g p.0 ts p.1
Right {a} g n ts (Err e) = Leads g ts e.0 × IfBroken e.1 (Breaks a g n ts e.0 e.1)

abbrev pub IsRight : {a : Ty} → Gr a → ℕ → Reader (El a) → Type 0
IsRight g n p = (ts : List Token) → Right g n ts (p ts)

-- ---- one token

-- a part that can be completed is completed from its beginning
at_once : {a : Ty} (g : Gr a) (n : ℕ) (ts : List Token) (e : List Token × GrammarRule) → Filled g → e ≡ (ts, Unfit)
    → Right g n ts (Err e)
at_once g n ts e fill is =
    subst (λ (e : List Token × GrammarRule). Right g n ts (Err e)) (sym is)
    (record { front = []; parts = refl; rest = fill.text; value = fill.value; spelt = fill.spelt }, tt)

tok_right : (k : Kind) (ks : List Kind) (n : ℕ) (ts : List Token) (o : Outcome Token) → Filled (tok k ks)
    → OneOf (k ∷ ks) ts o → Right (tok k ks) n ts o
tok_right k ks n ts (Ok p) fill h = record {
  text = p.0 ∷ [];
  parts = h.0;
  spelt =
      one (among_is (kind_of p.0) (k ∷ ks) h.1);
}
tok_right k ks n ts (Err e) fill h = at_once (tok k ks) n ts e fill h

-- ---- two parts

module _ {a b : Ty} (g : Gr a) (h : Gr b) (n : ℕ) where
  leads_first : (ts at : List Token) → Filled h → Leads g ts at → Leads (g · h) ts at
  leads_first ts at fill l = record {
    front = l.front;
    parts = l.parts;
    rest = l.rest ++ fill.text;
    value = (l.value, fill.value);
    spelt = rw (← append_assoc l.front l.rest fill.text) (pair l.spelt fill.spelt);
  }

  leads_second : (x : El a) (ts mid at : List Token) → Takes g x ts mid → Leads h mid at → Leads (g · h) ts at
  leads_second x ts mid at t l = record {
    front = t.text ++ l.front;
    parts = t.parts ∙ ap (λ (u : List Token). t.text ++ u) l.parts ∙ sym (append_assoc t.text l.front at);
    rest = l.rest;
    value = (x, l.value);
    spelt = rw (append_assoc t.text l.front l.rest) (pair t.spelt l.spelt);
  }

  pair_second : (x : El a) (ts mid : List Token) (o : Outcome (El b)) → Takes g x ts mid → Right h n mid o
      → Right (g · h) n ts (and_then o (λ y rest. Ok ((x, y), rest)))
  pair_second x ts mid (Ok p) t r = record {
    text = t.text ++ r.text;
    parts = t.parts ∙ ap (λ (u : List Token). t.text ++ u) r.parts ∙ sym (append_assoc t.text r.text p.1);
    spelt = pair t.spelt r.spelt;
  }
  pair_second x ts mid (Err e) t r = (
    leads_second x ts mid e.0 t r.0,
    if_broken e.1
        (λ b. subst (λ (us : List Token). Breaks _ (g · h) n us e.0 e.1) (sym t.parts) (in_second t.spelt b)) r.1,
  )

  pair_right : (ts : List Token) (o : Outcome (El a)) (q : Reader (El b)) → Filled h → Right g n ts o → IsRight h n q
      → Right (g · h) n ts (and_then o (λ x mid. and_then (q mid) (λ y rest. Ok ((x, y), rest))))
  pair_right ts (Ok p) q fill r k = pair_second p.0 ts p.1 (q p.1) r (k p.1)
  pair_right ts (Err e) q fill r k = (leads_first ts e.0 fill r.0, if_broken e.1 in_first r.1)

  left_right : (ts : List Token) (o : Outcome (El a)) → Right g n ts o
      → Right (g ∣ h) n ts (and_then o (λ x rest. Ok (inl x, rest)))
  left_right ts (Ok p) r = record { text = r.text; parts = r.parts; spelt = left r.spelt }
  left_right ts (Err e) r = (
    record {
      front = r.0.front;
      parts = r.0.parts;
      rest = r.0.rest;
      value =
          inl r.0.value;
      spelt = left r.0.spelt;
    },
    if_broken e.1 in_left r.1,
  )

  right_right : (ts : List Token) (o : Outcome (El b)) → Right h n ts o
      → Right (g ∣ h) n ts (and_then o (λ y rest. Ok (inr y, rest)))
  right_right ts (Ok p) r = record { text = r.text; parts = r.parts; spelt = right r.spelt }
  right_right ts (Err e) r = (
    record {
      front = r.0.front;
      parts = r.0.parts;
      rest = r.0.rest;
      value =
          inr r.0.value;
      spelt = right r.0.spelt;
    },
    if_broken e.1 in_right r.1,
  )

-- ---- a part beside a word

module _ {a : Ty} (k : Kind) (g : Gr a) (n : ℕ) where
  before_second : (t : Token) (ts : List Token) (o : Outcome (El a)) → (kind_of t) ≡ k → Right g n ts o
      → Right (lead k g) n (t ∷ ts) o
  before_second t ts (Ok p) e r = record {
    text = t ∷ r.text;
    parts = ap (λ (u : List Token). t ∷ u) r.parts;
    spelt =
        before e r.spelt;
  }
  before_second t ts (Err d) e r = (
    record {
      front = t ∷ r.0.front;
      parts = ap (λ (u : List Token). t ∷ u) r.0.parts;
      rest = r.0.rest;
      value =
          r.0.value;
      spelt = before e r.0.spelt;
    },
    if_broken d.1 (in_rest e) r.1,
  )

  before_right : (ts : List Token) (o : Outcome Token) (q : Reader (El a)) → Filled (lead k g) → OneOf (k ∷ []) ts o
      → IsRight g n q → Right (lead k g) n ts (and_then o (λ t mid. q mid))
  before_right ts (Ok p) q fill r h =
      subst (λ (us : List Token). Right (lead k g) n us (q p.1)) (sym r.0)
      (before_second p.0 p.1 (q p.1) (among_one (kind_of p.0) k r.1) (h p.1))
  before_right ts (Err e) q fill r h = at_once (lead k g) n ts e fill r

  behind_second : (x : El a) (ts mid : List Token) (o : Outcome Token) → Takes g x ts mid → OneOf (k ∷ []) mid o
      → Right (trail g k) n ts (and_then o (λ t rest. Ok (x, rest)))
  behind_second x ts mid (Ok p) t r = record {
    text = t.text ++ p.0 ∷ [];
    parts = t.parts ∙ ap (λ (u : List Token). t.text ++ u) r.0 ∙ sym (append_assoc t.text (p.0 ∷ []) p.1);
    spelt = behind p.0 t.spelt (among_one (kind_of p.0) k r.1);
  }
  behind_second x ts mid (Err e) t r =
      subst (λ (d : List Token × GrammarRule). Right (trail g k) n ts (Err d)) (sym r) (
        record {
          front = t.text;
          parts = t.parts;
          rest = token_of k ∷ [];
          value = x;
          spelt =
              behind (token_of k) t.spelt (kind_token k);
        },
        tt,
      )

  behind_right : (ts : List Token) (o : Outcome (El a)) → Right g n ts o
      → Right (trail g k) n ts (and_then o (λ x mid. and_then (one_token (k ∷ []) mid) (λ t rest. Ok (x, rest))))
  behind_right ts (Ok p) r = behind_second p.0 ts p.1 (one_token (k ∷ []) p.1) r (one_of (k ∷ []) p.1)
  behind_right ts (Err e) r = (
    record {
      front = r.0.front;
      parts = r.0.parts;
      rest = r.0.rest ++ token_of k ∷ [];
      value = r.0.value;
      spelt =
          rw (← append_assoc r.0.front r.0.rest (token_of k ∷ [])) (behind (token_of k) r.0.spelt (kind_token k));
    },
    if_broken e.1 in_front r.1,
  )

-- ---- parts that may be absent or come again

module _ {a : Ty} (g : Gr a) (n : ℕ) where
  some_right : (ts : List Token) (o : Outcome (El a)) → Right g n ts o
      → Right (opt g) n ts (and_then o (λ x rest. Ok (Some x, rest)))
  some_right ts (Ok p) r = record { text = r.text; parts = r.parts; spelt = there_is r.spelt }
  some_right ts (Err e) r = (
    record {
      front = r.0.front;
      parts = r.0.parts;
      rest = r.0.rest;
      value =
          Some r.0.value;
      spelt = there_is r.0.spelt;
    },
    if_broken e.1 in_opt r.1,
  )

  opt_right : (ts : List Token) (b : Bool) (o : Outcome (El a)) → Right g n ts o
      → Right (opt g) n ts (cond b (and_then o (λ x rest. Ok (Some x, rest))) (Ok (None, ts)))
  opt_right ts true o r = some_right ts o r
  opt_right ts false o r = record { text = []; parts = refl; spelt = absent }

  leads_turn : (ts at : List Token) → Leads g ts at → Leads (many g) ts at
  leads_turn ts at l = record {
    front = l.front;
    parts = l.parts;
    rest = l.rest;
    value = l.value ∷ [];
    spelt =
        rw (← append-nil (l.front ++ l.rest)) (more l.spelt none);
  }

  more_second : (x : El a) (ts mid : List Token) (o : Outcome (List (El a))) → Takes g x ts mid → Right (many g) n mid o
      → Right (many g) n ts (and_then o (λ xs rest. Ok (x ∷ xs, rest)))
  more_second x ts mid (Ok p) t r = record {
    text = t.text ++ r.text;
    parts = t.parts ∙ ap (λ (u : List Token). t.text ++ u) r.parts ∙ sym (append_assoc t.text r.text p.1);
    spelt = more t.spelt r.spelt;
  }
  more_second x ts mid (Err e) t r = (
    record {
      front = t.text ++ r.0.front;
      parts = t.parts ∙ ap (λ (u : List Token). t.text ++ u) r.0.parts ∙ sym (append_assoc t.text r.0.front e.0);
      rest = r.0.rest;
      value = x ∷ r.0.value;
      spelt = rw (append_assoc t.text r.0.front r.0.rest) (more t.spelt r.0.spelt);
    },
    if_broken e.1 (λ b. subst (λ (us : List Token). Breaks _ (many g) n us e.0 e.1) (sym t.parts)
        (in_turn_later t.spelt b)) r.1,
  )

  more_right : (ts : List Token) (o : Outcome (El a)) (q : Reader (List (El a))) → Right g n ts o → IsRight (many g) n q
      → Right (many g) n ts (and_then o (λ x mid. and_then (q mid) (λ xs rest. Ok (x ∷ xs, rest))))
  more_right ts (Ok p) q r k = more_second p.0 ts p.1 (q p.1) r (k p.1)
  more_right ts (Err e) q r k = (leads_turn ts e.0 r.0, if_broken e.1 in_turn_now r.1)

  turn_right : (ts : List Token) (b : Bool) (o : Outcome (List (El a))) → Right (many g) n ts o
      → Right (many g) n ts (cond b o (Ok ([], ts)))
  turn_right ts true o r = r
  turn_right ts false o r = record { text = []; parts = refl; spelt = none }

  turns_right : (ks : List Kind) (p : Reader (El a)) → IsRight g n p → (m : ℕ) → IsRight (many g) n (turns ks p m)
  unfolding turns
  turns_right ks p r zero ts = record { text = []; parts = refl; spelt = none }
  turns_right ks p r (suc m) ts = turn_right ts (begins ks ts) _
      (more_right ts (p ts) (turns ks p m) (r ts) (turns_right ks p r m))

-- ---- levels of nesting, and names

module _ {a : Ty} (g : Gr a) where
  deep_by : (t : Token) (ts : List Token) (b : Bool) → is_among (kind_of t) (first g) ≡ b
      → Right (nest g) 0 (t ∷ ts) (cond b (Err (t ∷ ts, TooDeep)) (Err (t ∷ ts, Unfit)))
  deep_by t ts true e = let x = can_begin g t e in
      (record { front = []; parts = refl; rest = t ∷ x.1; value = x.0; spelt = nested x.2 }, too_deep x)
  deep_by t ts false e = at_once (nest g) 0 (t ∷ ts) (t ∷ ts, Unfit) (fill (nest g)) refl

  deep_right : IsRight (nest g) 0 (no_deeper (first g))
  deep_right [] = at_once (nest g) 0 [] ([], Unfit) (fill (nest g)) refl
  deep_right (t ∷ ts) = deep_by t ts (is_among (kind_of t) (first g)) refl

  nest_right : (n : ℕ) (ts : List Token) (o : Outcome (El a)) → Right g n ts o → Right (nest g) (suc n) ts o
  nest_right n ts (Ok p) r = record { text = r.text; parts = r.parts; spelt = nested r.spelt }
  nest_right n ts (Err e) r = (
    record {
      front = r.0.front;
      parts = r.0.parts;
      rest = r.0.rest;
      value =
          r.0.value;
      spelt = nested r.0.spelt;
    },
    if_broken e.1 in_nest r.1,
  )

unlike : (xs ys : List ℕ) → bytes_eq xs ys ≡ false → xs ≡ ys → ⊥
unlike xs ys e same = clash (bytes_eq xs ys) ((bytes_eq-Decides xs ys).1 same) e

module _ {a : Ty} (g : Gr a) (n : ℕ) where
  -- behind the opening name, behind the part, and behind the closing name
  named_third : (t : Token) (x : El a) (mid rest after : List Token) (u : Token) (b : Bool)
      → bytes_eq (name_of t) (name_of u) ≡ b → (kind_of t) ≡ the.Name → (kind_of u) ≡ the.Name → Takes g x mid rest
      → rest ≡ u ∷ after
      → Right (named g) n (t ∷ mid) (and_then {B = El (both token a)} (cond b (Ok (u, after)) (Err (rest, Misnamed)))
      (λ u after. Ok ((t, x), after)))
  named_third t x mid rest after u true e ti ui s parts = record {
    text = t ∷ s.text ++ u ∷ [];
    parts = ap (λ (us : List Token). t ∷ us)
        (s.parts ∙ ap (λ (us : List Token). s.text ++ us) parts ∙ sym (append_assoc s.text (u ∷ []) after));
    spelt = closed t u ti s.spelt ui;
  }
  named_third t x mid rest after u false e ti ui s parts = (
    record {
      front = t ∷ s.text;
      parts = ap (λ (us : List Token). t ∷ us) s.parts;
      rest = u ∷ [];
      value =
          (t, x);
      spelt = closed t u ti s.spelt ui;
    },
    subst (λ (us : List Token). Breaks _ (named g) n (t ∷ us) rest Misnamed) (sym s.parts)
        (subst (λ (us : List Token). Breaks _ (named g) n (t ∷ s.text ++ us) us Misnamed) (sym parts)
        (misnamed t u after ti s.spelt ui (λ same. unlike (name_of t) (name_of u) e same))),
  )

  named_closed : (t : Token) (x : El a) (mid rest : List Token) (o : Outcome Token) → (kind_of t) ≡ the.Name
      → Takes g x mid rest → OneOf (the.Name ∷ []) rest o
      → Right (named g) n (t ∷ mid) (and_then
      (and_then o (λ u after. cond (bytes_eq (name_of t) (name_of u)) (Ok (u, after)) (Err (rest, Misnamed))))
      (λ u after. Ok ((t, x), after)))
  named_closed t x mid rest (Ok p) ti s r =
      named_third t x mid rest p.1 p.0 (bytes_eq (name_of t) (name_of p.0)) refl ti
      (among_one (kind_of p.0) the.Name r.1) s r.0
  named_closed t x mid rest (Err e) ti s r =
      subst (λ (d : List Token × GrammarRule). Right (named g) n (t ∷ mid) (Err d)) (sym r) (
        record {
          front = t ∷ s.text;
          parts = ap (λ (us : List Token). t ∷ us) s.parts;
          rest =
              token_of the.Name ∷ [];
          value = (t, x);
          spelt = closed t (token_of the.Name) ti s.spelt refl;
        },
        tt,
      )

  named_second : (t : Token) (mid : List Token) (o : Outcome (El a)) → (kind_of t) ≡ the.Name → Right g n mid o
      → Right (named g) n (t ∷ mid) (and_then o
      (λ x rest. and_then (closing (name_of t) rest) (λ u after. Ok ((t, x), after))))
  named_second t mid (Ok p) ti r = named_closed t p.0 mid p.1 (one_token (the.Name ∷ []) p.1) ti r
      (one_of (the.Name ∷ []) p.1)
  named_second t mid (Err e) ti r = (
    record {
      front = t ∷ r.0.front;
      parts = ap (λ (us : List Token). t ∷ us) r.0.parts;
      rest = r.0.rest ++ token_of the.Name ∷ [];
      value = (t, r.0.value);
      spelt = subst (λ (us : List Token). Spells _ (named g) (t, r.0.value) (t ∷ us))
          (append_assoc r.0.front r.0.rest (token_of the.Name ∷ [])) (closed t (token_of the.Name) ti r.0.spelt refl);
    },
    if_broken e.1 (in_named ti) r.1,
  )

  named_right : (p : Reader (El a)) → IsRight g n p → (ts : List Token) (o : Outcome Token) → OneOf (the.Name ∷ []) ts o
      → Right (named g) n ts (and_then o (λ t mid. and_then (p mid)
      (λ x rest. and_then (closing (name_of t) rest) (λ u after. Ok ((t, x), after)))))
  named_right p h ts (Ok q) r = subst (λ (us : List Token). Right (named g) n us
      (and_then (p q.1) (λ x rest. and_then (closing (name_of q.0) rest) (λ u after. Ok ((q.0, x), after))))) (sym r.0)
      (named_second q.0 q.1 (p q.1) (among_one (kind_of q.0) the.Name r.1) (h q.1))
  named_right p h ts (Err e) r = at_once (named g) n ts e (fill (named g)) r

-- ---- productions

made_right : (r : Rule) (n : ℕ) (ts : List Token) (o : Outcome (El (grammar r).shape)) → Right (grammar r).form n ts o
    → Right (rule r) n ts (and_then o (λ x rest. Ok (tree r x, rest)))
made_right r n ts (Ok p) h = record { text = h.text; parts = h.parts; spelt = made h.spelt }
made_right r n ts (Err e) h = (
  record {
    front = h.0.front;
    parts = h.0.parts;
    rest = h.0.rest;
    value =
        tree r h.0.value;
    spelt = made h.0.spelt;
  },
  if_broken e.1 in_rule h.1,
)

either_right : {a b : Ty} (g : Gr a) (h : Gr b) (n : ℕ) (ts : List Token) (c : Bool) (o : Outcome (El a))
    (q : Outcome (El b)) → Right g n ts o → Right h n ts q
    → Right (g ∣ h) n ts (cond c (and_then o (λ x rest. Ok (inl x, rest))) (and_then q (λ y rest. Ok (inr y, rest))))
either_right g h n ts true o q r s = left_right g h n ts o r
either_right g h n ts false o q r s = right_right g h n ts q s

module _ (ρ : Readers) (all : (n : ℕ) (r : Rule) → IsRight (rule r) n (ρ n r)) where
  pub by_right : {a : Ty} (g : Gr a) (n : ℕ) → IsRight g n (read_by ρ g n)
  unfolding repetition_of
  by_right (tok k ks) n ts = tok_right k ks n ts (one_token (k ∷ ks) ts) (fill (tok k ks)) (one_of (k ∷ ks) ts)
  by_right (rule r) n ts = all n r ts
  by_right (g · h) n ts = pair_right g h n ts (read_by ρ g n ts) (read_by ρ h n) (fill h) (by_right g n ts)
      (by_right h n)
  by_right (g ∣ h) n ts = either_right g h n ts (begins (first g) ts) (read_by ρ g n ts) (read_by ρ h n ts)
      (by_right g n ts) (by_right h n ts)
  by_right (lead k g) n ts = before_right k g n ts (one_token (k ∷ []) ts) (read_by ρ g n) (fill (lead k g))
      (one_of (k ∷ []) ts) (by_right g n)
  by_right (trail g k) n ts = behind_right k g n ts (read_by ρ g n ts) (by_right g n ts)
  by_right (opt g) n ts = opt_right g n ts (begins (first g) ts) (read_by ρ g n ts) (by_right g n ts)
  by_right (many g) n ts = turns_right g n (first g) (read_by ρ g n) (by_right g n) (length ts) ts
  by_right (nest g) zero ts = deep_right g ts
  by_right (nest g) (suc n) ts = nest_right g n ts (read_by ρ g n ts) (by_right g n ts)
  by_right (named g) n ts = named_right g n (read_by ρ g n) (by_right g n) ts (one_token (the.Name ∷ []) ts)
      (one_of (the.Name ∷ []) ts)

pub within_right : (k n : ℕ) (r : Rule) → IsRight (rule r) n (read_within k n r)
unfolding read_within
within_right zero n r ts = at_once (rule r) n ts (ts, Unfit) (fill (rule r)) refl
within_right (suc k) n r ts = made_right r n ts (read_by (read_within k) (grammar r).form n ts)
    (by_right (read_within k) (within_right k) (grammar r).form n ts)

rule_right : (n : ℕ) (r : Rule) → IsRight (rule r) n (read_rule n r)
unfolding read_rule
rule_right n r = within_right (suc (n * 16 + rank r)) n r

pub read_right : {a : Ty} (g : Gr a) (n : ℕ) → IsRight g n (read g n)
read_right g n = by_right read_rule rule_right g n
