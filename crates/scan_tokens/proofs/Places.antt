-- Places, one byte after another.
use Rattle.std.proofs.Common.{◌≡◌, ℕ, ◌+◌, Bool, true, false, not, cond, [], ◌∷◌, ◌++◌, length, ap, sym, refl, ◌∙◌, append_assoc, append-nil, zero-add, add-zero, arith}
use Rattle.std.specs.List.{list_all, count_by, suffix_len, prefix_len}
use Rattle.std.proofs.lemmas.List.{reverse-append}
use Rattle.std.proofs.lemmas.List.Sums.{sum_by-append}
use Rattle.scan_tokens.proofs.Lists.{and_true}
use Rattle.m2_tree.specs.declared.pos.Pos.{Pos}
use Rattle.scan_tokens.specs.Bytes.{Text, is_line_end}
use Rattle.scan_tokens.specs.Division.{place}
use Rattle.scan_tokens.specs.Steps.{place_after, over, HasRoom}

abbrev start : Pos
start = record { line = 1; col = 1 }

pub place_start : place [] ≡ start
unfolding place
place_start = refl

abbrev pub in_one_line : ℕ → Bool
in_one_line b = not (is_line_end b)

not_true : (v : Bool) → not v ≡ true → v ≡ false
not_true true h = cc
not_true false h = refl

same_place : (k l m n : ℕ) → k ≡ m → l ≡ n
    → (let p : Pos = record { line = k; col = l } in p) ≡ record { line = m; col = n }
same_place k l m n e f = cc

count_push : (p : ℕ → Bool) (front : Text) (b : ℕ) → count_by p (front ++ b ∷ []) ≡ count_by p front + cond (p b) 1 0
count_push p front b = sum_by-append (λ x. cond (p x) 1 0) front (b ∷ [])
    ∙ ap (λ n. count_by p front + n) (zero-add (cond (p b) 1 0))

suffix_push : (p : ℕ → Bool) (front : Text) (b : ℕ)
    → suffix_len p (front ++ b ∷ []) ≡ cond (p b) (1 + suffix_len p front) 0
suffix_push p front b = ap (prefix_len p) (reverse-append front (b ∷ []))

pushed : (v : Bool) (l c : ℕ) → (let p : Pos = record { line = l + cond v 1 0 + 1; col = cond (not v) (1 + c) 0 + 1 } in
    p) ≡ cond v (record { line = l + 1 + 1; col = 1 }) (record { line = l + 1; col = c + 1 + 1 })
pushed true l c = same_place _ _ _ _ refl refl
pushed false l c = same_place _ _ _ _ (omega arith) (omega arith)

pub place_push : (front : Text) (b : ℕ) → place (front ++ b ∷ []) ≡ place_after (place front) b
unfolding place
place_push front b =
    same_place _ _ _ _ (ap (λ n. n + 1) (count_push is_line_end front b))
    (ap (λ n. n + 1) (suffix_push (λ x. not (is_line_end x)) front b))
    ∙ pushed (is_line_end b) (count_by is_line_end front) (suffix_len (λ x. not (is_line_end x)) front)

pub place_over : (front w : Text) → place (front ++ w) ≡ over (place front) w
place_over front [] = ap place (append-nil front)
place_over front (b ∷ w) =
    ap place (sym (append_assoc front (b ∷ []) w)) ∙ place_over (front ++ b ∷ []) w
    ∙ ap (λ p. over p w) (place_push front b)

pub over-append : (p : Pos) (v w : Text) → over p (v ++ w) ≡ over (over p v) w
over-append p [] w = refl
over-append p (b ∷ v) w = over-append (place_after p b) v w

pub moved_in_line : (p : Pos) (b : ℕ) → in_one_line b ≡ true
    → place_after p b ≡ record { line = p.line; col = p.col + 1 }
moved_in_line p b h = ap (λ c. cond c (record { line = p.line + 1; col = 1 })
    (record { line = p.line; col = p.col + 1 })) (not_true (is_line_end b) h)

-- bytes of one line
pub over_line : (p : Pos) (w : Text) → list_all in_one_line w ≡ true
    → over p w ≡ record { line = p.line; col = p.col + length w }
over_line p [] h = same_place _ _ _ _ refl (sym (add-zero p.col))
over_line p (b ∷ w) h =
    let a = and_true (in_one_line b) (list_all in_one_line w) h in
    let same : place_after p b ≡ record { line = p.line; col = p.col + 1 } = moved_in_line p b a.0 in
    ap (λ q. over q w) same ∙ over_line (record { line = p.line; col = p.col + 1 }) w a.1
    ∙ same_place _ _ _ _ refl (omega arith)

pub room_moved : (p : Pos) (b : ℕ) (w : Text) → HasRoom p (b ∷ w) → HasRoom (place_after p b) w
room_moved p b w h =
    let P : Bool → Type 0 = λ v. HasRoom (cond v (record { line = p.line + 1; col = 1 })
    (record { line = p.line; col = p.col + 1 })) w in
    elim (is_line_end b) as P [
      | true ↦ (omega (arith, h), omega (arith, h))
      | false ↦
          (omega (arith, h), omega (arith, h))
    ]

pub room_over : (p : Pos) (v w : Text) → HasRoom p (v ++ w) → HasRoom (over p v) w
room_over p [] w h = h
room_over p (b ∷ v) w h = room_over (place_after p b) v w (room_moved p b (v ++ w) h)
