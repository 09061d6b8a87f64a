-- A walk through a comment, and the levels that are open.
use Rattle.std.proofs.Common.{◌≡◌, ◌≢◌, ◌≤◌, ◌<◌, ℕ, suc, ◌+◌, ◌-◌, true, [], ◌∷◌, ◌++◌, length, ap, sym, refl, ◌∙◌, subst, append_assoc, take, drop, arith}
use Rattle.std.proofs.lemmas.List.{append_cancel_right, take_rest}
use Rattle.std.specs.List.{list_all}
use Rattle.m2_tree.specs.declared.pos.Pos.{Pos}
use Rattle.scan_tokens.specs.Bytes.{Text, is_line_end}
use Rattle.scan_tokens.specs.Forms.{opening, closing}
use Rattle.scan_tokens.specs.Steps.{place_after, over, HasRoom, Closes, NeverCloses}
use Rattle.scan_tokens.proofs.Levels.{Ends, one_level, from_one_level, no_levels_left, open_enters, open_leaves, close_enters, close_leaves, other_enters, other_leaves, not_at_end, not_at_last}
use Rattle.scan_tokens.proofs.Places.{in_one_line, over-append, over_line, room_over}

-- So many levels are open before the rest of a text that began inside of one.
pub record Walks (text : Text) (start : Pos) (levels : ℕ) (rest : Text) (pos : Pos) : Type 0 where
  pub inside : 0 < levels
  pub few : levels + length rest ≤ length text + 1
  pub room : HasRoom pos rest
  pub front : Text
  pub is : text ≡ front ++ rest
  pub at : pos ≡ over start front
  pub enters : (more : Text) → Ends levels rest more → Ends 1 text more
  pub leaves : (more : Text) → Ends 1 text more → Ends levels rest more

pub begins : (text : Text) (start : Pos) → HasRoom start text → Walks text start 1 text start
begins text start room = record {
  inside = omega arith;
  few = omega arith;
  room = room;
  front = [];
  is = refl;
  at = refl;
  enters = λ more h. h;
  leaves = λ more h. h;
}

marks_in_line : (list_all in_one_line opening ≡ true) × (list_all in_one_line closing ≡ true)
unfolding is_line_end
marks_in_line = (refl, refl)

longer_front : (text : Text) (front : Text) (w : Text) (rest : Text) (more : Text) → text ≡ front ++ rest
    → rest ≡ w ++ more → text ≡ (front ++ w) ++ more
longer_front text front w rest more e d = e ∙ ap (λ t. front ++ t) d ∙ sym (append_assoc front w more)

same_place : {k l m n : ℕ} → k ≡ m → l ≡ n
    → (let p : Pos = record { line = k; col = l } in p) ≡ record { line = m; col = n }
same_place e f = cc

passed_mark : (w : Text) → list_all in_one_line w ≡ true → length w ≡ 2 → (p q : Pos) → q.line ≡ p.line
    → q.col ≡ p.col + 2 → q ≡ over p w
passed_mark w h n p q line col = let e = over_line p w h in
    let k : q ≡ record { line = p.line; col = p.col + length w } =
    same_place line (col ∙ ap (λ n. p.col + n) (sym n)) in k ∙ sym e

pub room_behind : (w : Text) (p q : Pos) (rest s : Text) → HasRoom p rest → rest ≡ w ++ s → q ≡ over p w → HasRoom q s
room_behind w p q rest s room e at =
    let P : Pos → Type 0 = λ p. HasRoom p s in
    let Q : Text → Type 0 = λ t. HasRoom p t in
    subst P (sym at) (room_over p w s (subst Q e room))

cast : (n m : ℕ) (s more : Text) → n ≡ m → Ends n s more → Ends m s more
cast n m s more e h = let P : ℕ → Type 0 = λ n. Ends n s more in subst P e h

swap_text : (n : ℕ) (s t more : Text) → s ≡ t → Ends n s more → Ends n t more
swap_text n s t more e h = let P : Text → Type 0 = λ s. Ends n s more in subst P e h

pub opens : (text : Text) (start : Pos) (n : ℕ) (rest : Text) (p : Pos) (s : Text) (q : Pos) → Walks text start n rest p
    → rest ≡ 40 ∷ 42 ∷ s → q.line ≡ p.line → q.col ≡ p.col + 2
    → Walks text start (n + 1) s q
opens text start n rest p s q w e line col =
    let at : q ≡ over p opening = passed_mark opening marks_in_line.0 refl p q line col in
    let one : n ≡ suc (n - 1) = omega (arith, w.inside) in
    let two : n + 1 ≡ suc (suc (n - 1)) = omega (arith, w.inside) in
    record {
      inside = omega arith;
      few = omega (arith, w.few, ap length e);
      room = room_behind opening p q rest s w.room e at;
      front = w.front ++ opening;
      is = longer_front text w.front opening rest s w.is e;
      at = at ∙ ap (λ p. over p opening) w.at ∙ sym (over-append start w.front opening);
      enters = λ more h. w.enters more (cast _ n rest more (sym one)
          (swap_text (suc (n - 1)) _ rest more (sym e) (open_enters (n - 1) s more (cast (n + 1) _ s more two h))));
      leaves = λ more h. cast _ (n + 1) s more (sym two)
          (open_leaves (n - 1) s more (swap_text (suc (n - 1)) rest _ more e
          (cast n _ rest more one (w.leaves more h))));
    }

pub closes : (text : Text) (start : Pos) (n : ℕ) (rest : Text) (p : Pos) (s : Text) (q : Pos)
    → Walks text start n rest p → rest ≡ 42 ∷ 41 ∷ s → q.line ≡ p.line → q.col ≡ p.col + 2
    → 0 < n - 1 → Walks text start (n - 1) s q
closes text start n rest p s q w e line col more_open =
    let at : q ≡ over p closing = passed_mark closing marks_in_line.1 refl p q line col in
    let one : n ≡ suc (n - 1) = omega (arith, w.inside) in
    record {
      inside = more_open;
      few = omega (arith, w.few, ap length e);
      room = room_behind closing p q rest s w.room e at;
      front = w.front ++ closing;
      is = longer_front text w.front closing rest s w.is e;
      at = at ∙ ap (λ p. over p closing) w.at ∙ sym (over-append start w.front closing);
      enters = λ more h. w.enters more (cast _ n rest more (sym one)
          (swap_text (suc (n - 1)) _ rest more (sym e) (close_enters (n - 1) s more h)));
      leaves = λ more h. close_leaves (n - 1) s more
          (swap_text (suc (n - 1)) rest _ more e (cast n _ rest more one (w.leaves more h)));
    }

pub ends : (text : Text) (start : Pos) (n : ℕ) (rest : Text) (p : Pos) (s : Text) (q : Pos) → Walks text start n rest p
    → rest ≡ 42 ∷ 41 ∷ s → q.line ≡ p.line → q.col ≡ p.col + 2
    → n - 1 ≡ 0 → Closes text start s q
ends text start n rest p s q w e line col last =
    let at : q ≡ over p closing = passed_mark closing marks_in_line.1 refl p q line col in
    let one : n ≡ suc 0 = omega (arith, w.inside, last) in
    let h = w.enters s (cast _ n rest s (sym one)
    (swap_text (suc 0) _ rest s (sym e) (close_enters 0 s s (no_levels_left s)))) in
    let k = from_one_level text s h in
    let cut : w.front ++ closing ≡ k.0 = append_cancel_right (w.front ++ closing) k.0 s
    (sym (longer_front text w.front closing rest s w.is e) ∙ k.2) in
    (k.0, k.1, k.2, at ∙ ap (λ p. over p closing) w.at ∙ sym (over-append start w.front closing) ∙ ap (over start) cut)

pub goes_on : (text : Text) (start : Pos) (n : ℕ) (rest : Text) (p : Pos) (b c : ℕ) (s : Text) (q : Pos)
    → Walks text start n rest p → rest ≡ b ∷ c ∷ s
    → (b ∷ c ∷ [] ≢ opening) → (b ∷ c ∷ [] ≢ closing) → q ≡ place_after p b → Walks text start n (c ∷ s) q
goes_on text start n rest p b c s q w e no_open no_close at =
    let one : n ≡ suc (n - 1) = omega (arith, w.inside) in
    record {
      inside = w.inside;
      few = omega (arith, w.few, ap length e);
      room = room_behind (b ∷ []) p q rest (c ∷ s) w.room e at;
      front = w.front ++ b ∷ [];
      is = longer_front text w.front (b ∷ []) rest (c ∷ s) w.is e;
      at = at ∙ ap (λ p. over p (b ∷ [])) w.at ∙ sym (over-append start w.front (b ∷ []));
      enters = λ more h. w.enters more (cast _ n rest more (sym one)
          (swap_text (suc (n - 1)) _ rest more (sym e)
          (other_enters (n - 1) b c s more no_open no_close (cast n _ (c ∷ s) more one h))));
      leaves = λ more h. cast _ n (c ∷ s) more (sym one)
          (other_leaves (n - 1) b c s more no_open no_close
          (swap_text (suc (n - 1)) rest _ more e (cast n _ rest more one (w.leaves more h))));
    }

few_left : (n : ℕ) (rest more : Text) → length rest ≤ 1 → Ends (suc n) rest more → ⊥
few_left n [] more h k = not_at_end n more k
few_left n (b ∷ []) more h k = not_at_last n b more k
few_left n (b ∷ c ∷ rest) more h k = omega arith

pub never : (text : Text) (start : Pos) (n : ℕ) (rest : Text) (p : Pos) → Walks text start n rest p → length rest ≤ 1
    → NeverCloses text
never text start n rest p w few bs more e closed =
    let one : n ≡ suc (n - 1) = omega (arith, w.inside) in
    let h = w.leaves more (swap_text 1 (bs ++ more) text more (sym e) (one_level bs more closed)) in
    few_left (n - 1) rest more few (cast n _ rest more one h)

-- what a slice from its third or its second byte on is
pub from_third : (rest : Text) (a b : ℕ) (s : Text) → rest ≡ a ∷ b ∷ s
    → rest ≡ a ∷ b ∷ take (length rest - 2) (drop 2 rest)
from_third rest a b s e = e ∙ ap (λ t. a ∷ b ∷ t) (sym (take_rest rest 2 ∙ ap (drop 2) e))

pub from_second : (rest : Text) (a : ℕ) (s : Text) → rest ≡ a ∷ s → s ≡ take (length rest - 1) (drop 1 rest)
from_second rest a s e = sym (take_rest rest 1 ∙ ap (drop 1) e)
