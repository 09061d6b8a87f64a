-- Where the formals and variables of procedures stand.
use Rattle.std.proofs.Common.{◌≡◌, ℕ, zero, suc, ◌+◌, ◌-◌, Bool, true, false, List, [], ◌∷◌, ◌++◌, map, length, Option, Some, None, refl, sym, ap, ◌∙◌, arith, add_assoc, zero-add}
use Rattle.std.specs.Prelude.{slice_get, if◌then◌else◌}
use Rattle.std.specs.Option.{option_map}
use Rattle.std.proofs.lemmas.Option.{slice_get-map}
use Rattle.std.proofs.lemmas.List.{length-map}
use Rattle.typed_tree.specs.declared.types.TypeNo.{TypeNo}
use Rattle.typed_tree.specs.declared.shape.Formal.{Formal}
use Rattle.typed_tree.specs.declared.known_types.Types.{Types}
use Rattle.typed_tree.specs.declared.typed_module.Routine.{Routine}
use Rattle.layout_storage.specs.declared.row.Row.{Row}
use Rattle.layout_storage.specs.Capped.{cap_size}
use Rattle.layout_storage.specs.Types.{Ty, Cell, Hidden, Array, Nothing, Field, row, frame_of}
use Rattle.layout_storage.specs.Sizes.{size, offset}
use Rattle.layout_storage.specs.Shapes.{tree}
use Rattle.layout_storage.specs.Extents.{element_tree as kept_element}
use Rattle.layout_storage.specs.Frames.{formals_of, formal_tree, variable_trees, frame}
use Rattle.layout_storage.specs.Rows.{frame_row}
use Rattle.layout_storage.proofs.Framed.{part_at}
use Rattle.def_scheme.specs.Exprs.{frame_at, element_tree}
use Rattle.emit_buffer.specs.Homes.{start_or}
use Rattle.emit_buffer.specs.Cut.{cut}
use Rattle.emit_buffer.specs.Slots.{slot_at, slot_from, behind_formal, behind_variable, behind_found, behind_first, second_of, second_in, second_at}

-- ---- components

in_frame : (ts : List Ty) (n : ℕ) (path : List ℕ)
    → offset (frame_of ts) (suc n ∷ path) ≡ 16 + offset (row ts) (n ∷ path)
unfolding offset size
in_frame ts n path = refl

none_there : (n : ℕ) (path : List ℕ) → offset Nothing (n ∷ path) ≡ 0
unfolding offset
none_there n path = refl

-- the first component stands where the whole begins
first_is : (t : Ty) → offset t (0 ∷ []) ≡ offset t []
unfolding offset
first_is (Cell c) = refl
first_is (Hidden n) = refl
first_is (Array n (Cell c)) = omega arith
first_is (Array n (Hidden m)) = omega arith
first_is (Array n (Array m t)) = omega arith
first_is (Array n Nothing) = omega arith
first_is (Array n (Field t others)) = omega arith
first_is Nothing = refl
first_is (Field (Cell c) others) = refl
first_is (Field (Hidden n) others) = refl
first_is (Field (Array n t) others) = refl
first_is (Field Nothing others) = refl
first_is (Field (Field t u) others) = refl

first_of_row : (ts : List Ty) (n : ℕ) → offset (row ts) (n ∷ 0 ∷ []) ≡ offset (row ts) (n ∷ [])
unfolding offset
first_of_row [] n = refl
first_of_row (t ∷ ts) zero = first_is t
first_of_row (t ∷ ts) (suc n) = ap (λ (k : ℕ). size t + k) (first_of_row ts n)

first_in_frame : (types : Types) (r : Option Routine) (n : ℕ)
    → offset (frame_at (option_map (frame types) r)) (suc n ∷ 0 ∷ [])
    ≡ offset (frame_at (option_map (frame types) r)) (suc n ∷ [])
first_in_frame types None n = none_there (suc n) (0 ∷ []) ∙ sym (none_there (suc n) [])
first_in_frame types (Some r) n =
    in_frame (variable_trees types r) n (0 ∷ []) ∙ ap (λ (k : ℕ). 16 + k) (first_of_row (variable_trees types r) n)
    ∙ sym (in_frame (variable_trees types r) n [])

-- the first cell of a slot
pub first_cell : (types : Types) (rs : List Routine) (up n : ℕ)
    → slot_at types rs up n (0 ∷ []) ≡ slot_at types rs up n []
first_cell types [] zero n = in_frame [] n (0 ∷ []) ∙ ap (λ (k : ℕ). 16 + k) (first_of_row [] n)
    ∙ sym (in_frame [] n [])
first_cell types [] (suc up) n = none_there (suc n) (0 ∷ []) ∙ sym (none_there (suc n) [])
first_cell types (r ∷ rs) up n =
    ap (λ (o : Option Ty). offset (frame_at o) (suc n ∷ 0 ∷ [])) (slice_get-map (frame types) (r ∷ rs) up)
    ∙ first_in_frame types (slice_get (r ∷ rs) up) n
    ∙ sym (ap (λ (o : Option Ty). offset (frame_at o) (suc n ∷ [])) (slice_get-map (frame types) (r ∷ rs) up))

-- ---- offsets of slots

kept_is : (types : Types) (r : Option Routine) (n : ℕ)
    → start_or (option_map (frame_row types) r) n
    ≡ cap_size (offset (frame_at (option_map (frame types) r)) (suc n ∷ []))
kept_is types None n = ap cap_size (sym (none_there (suc n) []))
kept_is types (Some r) n = part_at 16 (variable_trees types r) n
    ∙ ap cap_size (sym (in_frame (variable_trees types r) n []))

pub slot_is : (types : Types) (rs : List Routine) (up n : ℕ)
    → slot_from (map (frame_row types) rs) up n ≡ cap_size (slot_at types rs up n [])
slot_is types [] zero n = ap (λ (k : ℕ). cap_size (16 + k)) (sym (none_there n []))
    ∙ ap cap_size (sym (in_frame [] n []))
slot_is types [] (suc up) n = ap cap_size (sym (none_there (suc n) []))
slot_is types (r ∷ rs) up n =
    ap (λ (o : Option Row). start_or o n) (slice_get-map (frame_row types) (r ∷ rs) up)
    ∙ kept_is types (slice_get (r ∷ rs) up) n
    ∙ ap (λ (o : Option Ty). cap_size (offset (frame_at o) (suc n ∷ [])))
    (sym (slice_get-map (frame types) (r ∷ rs) up))

-- ---- the second cell

abbrev or_other : Option Ty → Option Ty → Option Ty
or_other None y = y
or_other (Some x) y = Some x

nil_nought : (t : Ty) → offset t [] ≡ 0
unfolding offset
nil_nought (Cell c) = refl
nil_nought (Hidden n) = refl
nil_nought (Array n t) = refl
nil_nought Nothing = refl
nil_nought (Field t others) = refl

-- how far a component's second one stands behind it
abbrev behind_part : Option Ty → ℕ
behind_part None = 0
behind_part (Some t) = offset t (1 ∷ [])

part_here : (t : Ty) → offset t (1 ∷ []) ≡ offset t [] + offset t (1 ∷ [])
part_here t = sym (zero-add (offset t (1 ∷ []))) ∙ ap (λ (k : ℕ). k + offset t (1 ∷ [])) (sym (nil_nought t))

part_of : (ts : List Ty) (n : ℕ) → offset (row ts) (n ∷ 1 ∷ [])
    ≡ offset (row ts) (n ∷ []) + behind_part (slice_get ts n)
unfolding offset
part_of [] n = refl
part_of (t ∷ ts) zero = part_here t
part_of (t ∷ ts) (suc n) = ap (λ (k : ℕ). size t + k) (part_of ts n)
    ∙ sym (add_assoc (size t) (offset (row ts) (n ∷ [])) (behind_part (slice_get ts n)))

in_two : (a b : List Ty) (n : ℕ) (o : Option Ty) → slice_get a n ≡ o
    → behind_part (slice_get (a ++ b) n) ≡ behind_part (or_other o (slice_get b (n - length a)))
in_two [] b n None e = ap (λ (k : ℕ). behind_part (slice_get b k)) (omega arith)
in_two [] b n (Some t) e = absurd (cc e)
in_two (x ∷ a) b zero None e = absurd (cc e)
in_two (x ∷ a) b zero (Some t) e = ap behind_part e
in_two (x ∷ a) b (suc n) o e = in_two a b n o e ∙ ap (λ (k : ℕ). behind_part (or_other o (slice_get b k))) (omega arith)

formal_cells : (types : Types) (f : Formal) (b c : Bool) → f.is_open ≡ b → f.is_var ≡ c
    → offset (formal_tree types f) (1 ∷ []) ≡ behind_formal types f
unfolding offset size
formal_cells types f true c e g =
    ap (λ (b : Bool). offset (if b then row (Hidden 4 ∷ Hidden 4 ∷ []) else
    (if f.is_var then Hidden 4 else tree types f.of)) (1 ∷ [])) e
    ∙ sym (ap (λ (b : Bool). if b then 4 else (if f.is_var then 0 else offset (tree types f.of) (1 ∷ []))) e)
formal_cells types f false true e g =
    ap (λ (b : Bool). offset (if b then row (Hidden 4 ∷ Hidden 4 ∷ []) else
    (if f.is_var then Hidden 4 else tree types f.of)) (1 ∷ [])) e
    ∙ ap (λ (b : Bool). offset (if b then Hidden 4 else tree types f.of) (1 ∷ [])) g
    ∙ sym (ap (λ (b : Bool). if b then 4 else (if f.is_var then 0 else offset (tree types f.of) (1 ∷ []))) e
    ∙ ap (λ (b : Bool). if b then 0 else offset (tree types f.of) (1 ∷ [])) g)
formal_cells types f false false e g =
    ap (λ (b : Bool). offset (if b then row (Hidden 4 ∷ Hidden 4 ∷ []) else
    (if f.is_var then Hidden 4 else tree types f.of)) (1 ∷ [])) e
    ∙ ap (λ (b : Bool). offset (if b then Hidden 4 else tree types f.of) (1 ∷ [])) g
    ∙ sym (ap (λ (b : Bool). if b then 4 else (if f.is_var then 0 else offset (tree types f.of) (1 ∷ []))) e
    ∙ ap (λ (b : Bool). if b then 0 else offset (tree types f.of) (1 ∷ [])) g)

variable_cells : (types : Types) (t : Option TypeNo) → behind_part (option_map (tree types) t) ≡ behind_variable types t
variable_cells types None = refl
variable_cells types (Some t) = refl

found_cells : (types : Types) (f : Option Formal) (t : Option TypeNo)
    → behind_part (or_other (option_map (formal_tree types) f) (option_map (tree types) t)) ≡ behind_found types f t
found_cells types None t = variable_cells types t
found_cells types (Some f) t = formal_cells types f f.is_open f.is_var refl refl

cells_in : (types : Types) (fs : List Formal) (ts : List TypeNo) (n : ℕ)
    → behind_part (slice_get (map (formal_tree types) fs ++ map (tree types) ts) n) ≡ behind_first types fs ts n
cells_in types fs ts n =
    in_two (map (formal_tree types) fs) (map (tree types) ts) n (option_map (formal_tree types) (slice_get fs n))
    (slice_get-map (formal_tree types) fs n)
    ∙ ap (λ (o : Option Ty). behind_part (or_other (option_map (formal_tree types) (slice_get fs n)) o))
    (slice_get-map (tree types) ts (n - length (map (formal_tree types) fs)))
    ∙ ap (λ (k : ℕ). behind_part (or_other (option_map (formal_tree types) (slice_get fs n))
    (option_map (tree types) (slice_get ts (n - k))))) (length-map fs (formal_tree types))
    ∙ found_cells types (slice_get fs n) (slice_get ts (n - length fs))

second_of_frame : (types : Types) (r : Option Routine) (n : ℕ)
    → offset (frame_at (option_map (frame types) r)) (suc n ∷ 1 ∷ [])
    ≡ offset (frame_at (option_map (frame types) r)) (suc n ∷ []) + second_in types r n
second_of_frame types None n = none_there (suc n) (1 ∷ []) ∙ ap (λ (k : ℕ). k + 0) (sym (none_there (suc n) []))
second_of_frame types (Some r) n =
    in_frame (variable_trees types r) n (1 ∷ [])
    ∙ ap (λ (k : ℕ). 16 + k) (part_of (variable_trees types r) n
    ∙ ap (λ (k : ℕ). offset (row (variable_trees types r)) (n ∷ []) + k)
    (cells_in types (formals_of types r.heading) r.variables n))
    ∙ sym (add_assoc 16 (offset (row (variable_trees types r)) (n ∷ [])) (second_of types r n))
    ∙ ap (λ (k : ℕ). k + second_of types r n) (sym (in_frame (variable_trees types r) n []))

-- where the second cell of a slot stands
second_cell : (types : Types) (rs : List Routine) (up n : ℕ)
    → slot_at types rs up n (1 ∷ []) ≡ slot_at types rs up n [] + second_at types rs up n
second_cell types [] zero n = in_frame [] n (1 ∷ []) ∙ ap (λ (k : ℕ). 16 + k) (part_of [] n)
    ∙ sym (add_assoc 16 (offset (row []) (n ∷ [])) 0) ∙ ap (λ (k : ℕ). k + 0) (sym (in_frame [] n []))
second_cell types [] (suc up) n = none_there (suc n) (1 ∷ []) ∙ ap (λ (k : ℕ). k + 0) (sym (none_there (suc n) []))
second_cell types (r ∷ rs) up n =
    ap (λ (o : Option Ty). offset (frame_at o) (suc n ∷ 1 ∷ [])) (slice_get-map (frame types) (r ∷ rs) up)
    ∙ second_of_frame types (slice_get (r ∷ rs) up) n
    ∙ sym (ap (λ (o : Option Ty). offset (frame_at o) (suc n ∷ []) + second_at types (r ∷ rs) up n)
    (slice_get-map (frame types) (r ∷ rs) up))

pub second_is : (types : Types) (rs : List Routine) (up n : ℕ)
    → cut (slot_at types rs up n [] + second_at types rs up n) ≡ cut (slot_at types rs up n (1 ∷ []))
second_is types rs up n = ap cut (sym (second_cell types rs up n))

-- ---- elements

pub element_is : (t : Ty) → kept_element t ≡ element_tree t
element_is (Cell c) = refl
element_is (Hidden n) = refl
element_is (Array n t) = refl
element_is Nothing = refl
element_is (Field t others) = refl
