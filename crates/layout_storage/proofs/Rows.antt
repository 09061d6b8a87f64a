-- Parts that stand one after another, and the components of records.
use Rattle.std.proofs.Common.{◌≡◌, ℕ, zero, suc, ◌+◌, ◌*◌, List, [], ◌∷◌, ◌++◌, map, refl, sym, ap, ◌∙◌, append_assoc, arith}
use Rattle.std.specs.Prelude.{slice_get}
use Rattle.std.specs.List.{fold}
use Rattle.std.proofs.lemmas.List.{append-nil}
use Rattle.std.proofs.Math.Nat.{add_assoc, add-zero}
use Rattle.layout_storage.specs.declared.row.Row.{Row}
use Rattle.layout_storage.specs.Capped.{cap_size}
use Rattle.layout_storage.specs.Types.{Ty, Scalar, Natural, Integer, Between, Callable, Cell, Hidden, Array, Nothing, Field, row}
use Rattle.layout_storage.specs.Sizes.{Room, One, Two, Four, room_of, bytes_in, width, size, offset}
use Rattle.layout_storage.specs.Extents.{kind_of, scalar_of, starts, total, row_of, with_part, or_end, start_in, fields, extent_of, size_in, element_in, field_in, kind_in, element_tree, kind_of_tree, IsRecord, IsMade}
use Rattle.layout_storage.proofs.Capping.{sum_both, product_both, from_nought}

-- ---- rows

abbrev row_with : List ℕ → ℕ → Row
row_with ss n = record { starts = ss; size = n }

pub parts : (at : ℕ) (ss ns : List ℕ) → fold with_part (row_with ss (cap_size at)) (map cap_size ns)
    ≡ row_with (ss ++ starts at ns) (cap_size (at + total ns))
parts at ss [] = ap (λ (xs : List ℕ). row_with xs (cap_size at)) (sym (append-nil ss))
    ∙ ap (λ (n : ℕ). row_with (ss ++ []) (cap_size n)) (sym (add-zero at))
parts at ss (n ∷ ns) =
    ap (λ (k : ℕ). fold with_part (row_with (ss ++ cap_size at ∷ []) k) (map cap_size ns)) (sum_both at n)
    ∙ parts (at + n) (ss ++ cap_size at ∷ []) ns
    ∙ ap (λ (xs : List ℕ). row_with xs (cap_size (at + n + total ns)))
    (append_assoc ss (cap_size at ∷ []) (starts (at + n) ns))
    ∙ ap (λ (k : ℕ). row_with (ss ++ starts at (n ∷ ns)) (cap_size k)) (add_assoc at n (total ns))

pub fields_row : (ts : List Ty) → fields (row ts) ≡ map size ts
fields_row [] = refl
fields_row (t ∷ ts) = ap (λ (ns : List ℕ). size t ∷ ns) (fields_row ts)

pub row_is : (ts : List Ty) → IsRecord (row ts)
row_is [] = tt
row_is (t ∷ ts) = row_is ts

-- ---- records

pub fields_sum : (t : Ty) → IsRecord t → total (fields t) ≡ size t
unfolding size
fields_sum (Cell c) h = absurd h
fields_sum (Hidden n) h = absurd h
fields_sum (Array n t) h = absurd h
fields_sum Nothing h = refl
fields_sum (Field t others) h = ap (λ (n : ℕ). size t + n) (fields_sum others h)

pub offset_nil : (t : Ty) → offset t [] ≡ 0
unfolding offset
offset_nil (Cell c) = refl
offset_nil (Hidden n) = refl
offset_nil (Array n t) = refl
offset_nil Nothing = refl
offset_nil (Field t others) = refl

pub start_is : (at : ℕ) (t : Ty) (k : ℕ) → IsRecord t
    → start_in (row_of at (fields t)) k ≡ cap_size (at + offset t (k ∷ []))
unfolding offset
start_is at (Cell c) k h = absurd h
start_is at (Hidden n) k h = absurd h
start_is at (Array n t) k h = absurd h
start_is at Nothing k h = refl
start_is at (Field t others) zero h = ap (λ (n : ℕ). cap_size n) (sym (add-zero at))
    ∙ ap (λ (n : ℕ). cap_size (at + n)) (sym (offset_nil t))
start_is at (Field t others) (suc k) h =
    ap (λ (n : ℕ). or_end (cap_size n) (slice_get (starts (at + size t) (fields others)) k))
    (sym (add_assoc at (size t) (total (fields others))))
    ∙ start_is (at + size t) others k h ∙ ap (λ (n : ℕ). cap_size n) (add_assoc at (size t) (offset others (k ∷ [])))

-- ---- what is kept of a type

width_small : (r : Room) → bytes_in r ≡ cap_size (bytes_in r)
width_small One = refl
width_small Two = refl
width_small Four = refl

same_width : (c : Scalar) → width (scalar_of (kind_of c)) ≡ width c
same_width (Natural g) = refl
same_width Integer = refl
same_width (Between l g) = refl
same_width (Callable h) = refl

pub size_is : (t : Ty) → IsMade t → size_in (extent_of t) ≡ cap_size (size t)
unfolding size
size_is (Cell c) h = same_width c ∙ width_small (room_of c)
size_is (Hidden n) h = refl
size_is (Array n t) h = refl
size_is Nothing h = refl
size_is (Field t others) h = ap (λ (n : ℕ). cap_size n) (omega (arith, fields_sum others h))

pub element_is : (t : Ty) → element_in (extent_of t) ≡ cap_size (size (element_tree t))
unfolding size
element_is (Cell c) = refl
element_is (Hidden n) = refl
element_is (Array n t) = refl
element_is Nothing = refl
element_is (Field t others) = refl

pub kind_is : (t : Ty) → kind_in (extent_of t) ≡ kind_of_tree t
kind_is (Cell c) = refl
kind_is (Hidden n) = refl
kind_is (Array n t) = refl
kind_is Nothing = refl
kind_is (Field t others) = refl

pub field_is : (t : Ty) (k : ℕ) → IsMade t → field_in (extent_of t) k ≡ cap_size (offset t (k ∷ []))
unfolding offset
field_is (Cell c) k h = refl
field_is (Hidden n) k h = omega arith
field_is (Array n t) k h = product_both k (size t)
    ∙ ap (λ (m : ℕ). cap_size m) (sym (add-zero (k * size t)) ∙ ap (λ (m : ℕ). k * size t + m) (sym (offset_nil t)))
field_is Nothing k h = start_is 0 Nothing k tt ∙ from_nought (offset Nothing (k ∷ []))
field_is (Field t others) k h = start_is 0 (Field t others) k h ∙ from_nought (offset (Field t others) (k ∷ []))
