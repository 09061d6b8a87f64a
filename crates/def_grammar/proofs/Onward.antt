-- A token at which a rule on names or nesting is broken goes on with the text.
use Rattle.std.proofs.Common.{◌≡◌, ℕ, List, [], ◌∷◌, ◌++◌, Some, refl, sym, ap, ◌∙◌, append_assoc, inl, inr}
use Rattle.std.proofs.lemmas.List.{append-nil}
use Rattle.m2_tree.specs.declared.token.Token.{Token}
use Rattle.def_grammar.specs.declared.kind.Kind.TheVariants as the
use Rattle.def_grammar.specs.declared.refusal.GrammarRule.{GrammarRule}
use Rattle.def_grammar.specs.Grammar.{Ty, El, Gr}
use Rattle.def_grammar.specs.Trees.{tree}
use Rattle.def_grammar.specs.Spelling.{Spells, made, pair, left, right, before, behind, there_is, none, more, nested, closed, Breaks, too_deep, misnamed, in_rule, in_first, in_second, in_left, in_right, in_rest, in_front, in_opt, in_turn_now, in_turn_later, in_nest, in_named}
use Rattle.def_grammar.proofs.Filled.{token_of, kind_token, fill}

-- the front and the next token begin a text of the part
pub record Onward {a : Ty} (g : Gr a) (ts at : List Token) : Type 0 where
  pub front : List Token
  pub next : Token
  pub tail : List Token
  pub parts : ts ≡ front ++ next ∷ tail
  pub here : at ≡ next ∷ tail
  pub rest : List Token
  pub value : El a
  pub spelt : Spells a g value (front ++ next ∷ rest)

-- behind a text of another part
later : (us ts front : List Token) (next : Token) (tail : List Token) → ts ≡ front ++ next ∷ tail
    → us ++ ts ≡ (us ++ front) ++ next ∷ tail
later us ts front next tail e = ap (λ (vs : List Token). us ++ vs) e ∙ sym (append_assoc us front (next ∷ tail))

pub onward : {a : Ty} {g : Gr a} {n : ℕ} {ts at : List Token} {f : GrammarRule} → Breaks a g n ts at f → Onward g ts at
onward (too_deep {t = t} {ts = ts} x) = record {
  front = [];
  next = t;
  tail = ts;
  parts = refl;
  here = refl;
  rest =
      x.1;
  value = x.0;
  spelt = nested x.2;
}
onward (misnamed {x = x} {ts = ts} t u us ti p ui d) =
    record {
      front = t ∷ ts;
      next = u;
      tail = us;
      parts = refl;
      here = refl;
      rest = [];
      value = (t, x);
      spelt =
          closed t u ti p ui;
    }
onward (in_rule {r = r} p) = let o = onward p in
    record {
      front = o.front;
      next = o.next;
      tail = o.tail;
      parts = o.parts;
      here = o.here;
      rest = o.rest;
      value =
          tree r o.value;
      spelt = made o.spelt;
    }
onward (in_first {g = g} {h = h} p) = let o = onward p in let s = fill h in record {
  front = o.front;
  next = o.next;
  tail = o.tail;
  parts = o.parts;
  here = o.here;
  rest = o.rest ++ s.text;
  value = (o.value, s.value);
  spelt = rw (← append_assoc o.front (o.next ∷ o.rest) s.text) (pair o.spelt s.spelt);
}
onward (in_second {x = x} {us = us} {ts = ts} q p) = let o = onward p in record {
  front = us ++ o.front;
  next = o.next;
  tail = o.tail;
  parts = later us ts o.front o.next o.tail o.parts;
  here = o.here;
  rest = o.rest;
  value = (x, o.value);
  spelt = rw (append_assoc us o.front (o.next ∷ o.rest)) (pair q o.spelt);
}
onward (in_left p) = let o = onward p in
    record {
      front = o.front;
      next = o.next;
      tail = o.tail;
      parts = o.parts;
      here = o.here;
      rest = o.rest;
      value =
          inl o.value;
      spelt = left o.spelt;
    }
onward (in_right p) = let o = onward p in
    record {
      front = o.front;
      next = o.next;
      tail = o.tail;
      parts = o.parts;
      here = o.here;
      rest = o.rest;
      value =
          inr o.value;
      spelt = right o.spelt;
    }
onward (in_rest {t = t} is p) = let o = onward p in
    record {
      front = t ∷ o.front;
      next = o.next;
      tail = o.tail;
      parts = ap (λ (us : List Token). t ∷ us) o.parts;
      here =
          o.here;
      rest = o.rest;
      value = o.value;
      spelt = before is o.spelt;
    }
onward (in_front {k = k} p) = let o = onward p in record {
  front = o.front;
  next = o.next;
  tail = o.tail;
  parts = o.parts;
  here = o.here;
  rest = o.rest ++ token_of k ∷ [];
  value = o.value;
  spelt = rw (← append_assoc o.front (o.next ∷ o.rest) (token_of k ∷ [])) (behind (token_of k) o.spelt (kind_token k));
}
onward (in_opt p) = let o = onward p in record {
  front = o.front;
  next = o.next;
  tail = o.tail;
  parts = o.parts;
  here =
      o.here;
  rest = o.rest;
  value = Some o.value;
  spelt = there_is o.spelt;
}
onward (in_turn_now p) = let o = onward p in record {
  front = o.front;
  next = o.next;
  tail = o.tail;
  parts = o.parts;
  here = o.here;
  rest = o.rest;
  value = o.value ∷ [];
  spelt = rw (← append-nil (o.front ++ o.next ∷ o.rest)) (more o.spelt none);
}
onward (in_turn_later {x = x} {us = us} {ts = ts} q p) = let o = onward p in record {
  front = us ++ o.front;
  next = o.next;
  tail = o.tail;
  parts = later us ts o.front o.next o.tail o.parts;
  here = o.here;
  rest = o.rest;
  value = x ∷ o.value;
  spelt = rw (append_assoc us o.front (o.next ∷ o.rest)) (more q o.spelt);
}
onward (in_nest p) = let o = onward p in
    record {
      front = o.front;
      next = o.next;
      tail = o.tail;
      parts = o.parts;
      here = o.here;
      rest = o.rest;
      value =
          o.value;
      spelt = nested o.spelt;
    }
onward (in_named {t = t} is p) = let o = onward p in record {
  front = t ∷ o.front;
  next = o.next;
  tail = o.tail;
  parts = ap (λ (us : List Token). t ∷ us) o.parts;
  here = o.here;
  rest = o.rest ++ token_of the.Name ∷ [];
  value = (t, o.value);
  spelt = rw (← append_assoc o.front (o.next ∷ o.rest) (token_of the.Name ∷ []))
      (closed t (token_of the.Name) is o.spelt refl);
}
