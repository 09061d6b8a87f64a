-- Frames and the variables of modules, made part by part.
use Rattle.std.proofs.Common.{◌≡◌, ℕ, ◌+◌, List, [], ◌∷◌, map, refl, sym, ap, ◌∙◌}
use Rattle.std.specs.List.{fold}
use Rattle.std.specs.Prelude.{Result, Ok, Err, IfOk}
use Rattle.std.proofs.lemmas.List.Sums.{fold-append}
use Rattle.typed_tree.specs.declared.types.TypeNo.{TypeNo}
use Rattle.typed_tree.specs.declared.known_types.Types.{Types}
use Rattle.typed_tree.specs.declared.typed_module.Routine.{Routine}
use Rattle.layout_storage.specs.declared.row.Row.{Row}
use Rattle.layout_storage.specs.Capped.{cap_size}
use Rattle.layout_storage.specs.Types.{Ty, row}
use Rattle.layout_storage.specs.Sizes.{size, offset}
use Rattle.layout_storage.specs.Shapes.{tree}
use Rattle.layout_storage.specs.Frames.{formals_of, formal_tree, variable_trees}
use Rattle.layout_storage.specs.Extents.{row_of, begin_row, with_part, start_in}
use Rattle.layout_storage.specs.Rows.{variables_row, frame_row, with_formal, with_variable}
use Rattle.layout_storage.proofs.Rows.{parts, fields_row, row_is, start_is}

abbrev with_tree : Row → Ty → Row
with_tree r t = with_part r (cap_size (size t))

trees_are : (r : Row) (ts : List Ty) → fold with_tree r ts ≡ fold with_part r (map cap_size (map size ts))
trees_are r [] = refl
trees_are r (t ∷ ts) = trees_are (with_tree r t) ts

over : {A : Type 0} (f : A → Ty) (r : Row) (xs : List A)
    → fold (λ r x. with_tree r (f x)) r xs ≡ fold with_tree r (map f xs)
over f r [] = refl
over f r (x ∷ xs) = over f (with_tree r (f x)) xs

made : (at : ℕ) (ts : List Ty) → fold with_tree (record { starts = []; size = cap_size at }) ts
    ≡ row_of at (map size ts)
made at ts = trees_are (record { starts = []; size = cap_size at }) ts ∙ parts at [] (map size ts)

pub variables_are : (types : Types) (ts : List TypeNo)
    → fold (with_variable types) (begin_row 0) ts ≡ variables_row types ts
variables_are types ts = over (tree types) (begin_row 0) ts ∙ made 0 (map (tree types) ts)

pub frame_is : (types : Types) (r : Routine)
    → fold (with_variable types) (fold (with_formal types) (begin_row 16) (formals_of types r.heading)) r.variables
    ≡ frame_row types r
frame_is types r =
    ap (λ (x : Row). fold (with_variable types) x r.variables)
    (over (formal_tree types) (begin_row 16) (formals_of types r.heading))
    ∙ over (tree types) (fold with_tree (begin_row 16) (map (formal_tree types) (formals_of types r.heading)))
    r.variables
    ∙ sym (fold-append with_tree (begin_row 16) (map (formal_tree types) (formals_of types r.heading))
    (map (tree types) r.variables))
    ∙ made 16 (variable_trees types r)

pub ok_variables : {E : Type 0} (types : Types) (ts : List TypeNo) (start : Row) → start ≡ begin_row 0
    → (x : Result Row E) → IfOk x (λ y. y ≡ fold (with_variable types) start ts)
    → IfOk x (λ y. y ≡ variables_row types ts)
ok_variables types ts start e (Err f) h = tt
ok_variables types ts start e (Ok x) h = h ∙ ap (λ (r : Row). fold (with_variable types) r ts) e
    ∙ variables_are types ts

-- where a part of a row begins
pub part_at : (at : ℕ) (ts : List Ty) (k : ℕ)
    → start_in (row_of at (map size ts)) k ≡ cap_size (at + offset (row ts) (k ∷ []))
part_at at ts k = ap (λ (ns : List ℕ). start_in (row_of at ns) k) (sym (fields_row ts))
    ∙ start_is at (row ts) k (row_is ts)
