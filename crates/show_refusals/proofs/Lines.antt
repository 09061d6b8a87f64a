-- One more line is printed, and what it says.
use Rattle.std.proofs.Common.{◌≡◌, ℕ, ◌+◌, ◌<◌, true, List, [], ◌∷◌, ◌++◌, length, take, get_or, map, Option, Result, Err, IsOk, is_ok, refl, sym, ap, subst, ◌∙◌}
use Rattle.std.specs.List.{flat_map}
use Rattle.std.proofs.lemmas.List.{append-nil, map-append, take_more}
use Rattle.std.proofs.lemmas.Grind.{flat_map-append}
use Rattle.std.proofs.lemmas.Bool.{false≢true}
use Rattle.m2_tree.specs.declared.refusal.Refusal.{Refusal}
use Rattle.run_directory.specs.Reported.{Printed}
use Rattle.run_directory.proofs.Saying.{says_more}
use Rattle.show_refusals.specs.Objects.{Row, line_of}

pub err_not_ok : {T E : Type 0} (r : Result T E) (y : E) → r ≡ Err y → IsOk r → ⊥
err_not_ok r y e ok = false≢true (sym (ap is_ok e) ∙ ok)

module _ {S : Type 0} (reported : S → Option (List ℕ)) (failed : S → ℕ) where
  pub said_more : {X : Type 0} (text : X → List ℕ) (xs : List X) (k : ℕ) (x : X) (before between after : S)
      → k < length xs → x ≡ get_or xs k x
      → Printed reported failed (flat_map text (take k xs)) before between
      → Printed reported failed (text x) between after
      → Printed reported failed (flat_map text (take (k + 1) xs)) before after
  said_more {X = X} text xs k x before between after h is so_far next =
      subst (λ (b : List ℕ). Printed reported failed b before after) (sym split)
      (says_more reported failed true (flat_map text (take k xs)) (text x) before between after so_far next)
    where
      split : flat_map text (take (k + 1) xs) ≡ flat_map text (take k xs) ++ text x
      split =
          ap (flat_map text) (take_more xs k x h)
          ∙ flat_map-append text (take k xs) (get_or xs k x ∷ [])
          ∙ ap (λ (t : List ℕ). flat_map text (take k xs) ++ t) (append-nil (text (get_or xs k x)))
          ∙ ap (λ (y : X). flat_map text (take k xs) ++ text y) (sym is)

-- objects behind objects

pub rows_more : (rows : List Row) (xs : List Refusal) (k : ℕ) (row : Row) → k < length xs
    → row.refusal ≡ get_or xs k row.refusal
    → map (λ (r : Row). r.refusal) rows ≡ take k xs → map (λ (r : Row). r.refusal) (rows ++ row ∷ []) ≡ take (k + 1) xs
rows_more rows xs k row h is e =
    map-append (λ (r : Row). r.refusal) rows (row ∷ [])
    ∙ ap (λ (rs : List Refusal). rs ++ row.refusal ∷ []) e
    ∙ ap (λ (y : Refusal). take k xs ++ y ∷ []) is
    ∙ sym (take_more xs k row.refusal h)

pub bytes_more : (rows : List Row) (row : Row)
    → flat_map line_of (rows ++ row ∷ []) ≡ flat_map line_of rows ++ line_of row
bytes_more rows row = flat_map-append line_of rows (row ∷ [])
    ∙ ap (λ (t : List ℕ). flat_map line_of rows ++ t) (append-nil (line_of row))
