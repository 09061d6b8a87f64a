-- Where one variable begins, and how large one frame is, if all storage fits.
use Rattle.std.proofs.Common.{◌≡◌, ℕ, zero, suc, ◌+◌, ◌≤◌, List, [], ◌∷◌, map, Option, Some, refl, sym, ap, subst, ◌∙◌, arith}
use Rattle.std.specs.Prelude.{slice_get}
use Rattle.std.specs.Option.{option_map}
use Rattle.typed_tree.specs.declared.known_types.Types.{Types}
use Rattle.typed_tree.specs.declared.typed_module.Routine.{Routine}
use Rattle.typed_tree.specs.declared.typed_module.TypedModule.{TypedModule}
use Rattle.typed_tree.specs.declared.typed_module.Which.{Which}
use Rattle.typed_tree.specs.declared.typed_module.Which.TheVariants as which
use Rattle.layout_storage.specs.declared.row.Row.{Row}
use Rattle.layout_storage.specs.declared.layout.Layout.{Layout}
use Rattle.layout_storage.specs.Capped.{cap_size}
use Rattle.layout_storage.specs.Types.{Ty, row}
use Rattle.layout_storage.specs.Sizes.{size, offset}
use Rattle.layout_storage.specs.Shapes.{tree}
use Rattle.layout_storage.specs.Frames.{frame, module_row}
use Rattle.layout_storage.specs.Texts.{characters, module_texts}
use Rattle.layout_storage.specs.Extents.{row_of, start_in}
use Rattle.layout_storage.specs.Rows.{frame_row}
use Rattle.layout_storage.specs.Layouts.{max_storage, FramesFit, AllFits, IsLayout, routine_of}
use Rattle.layout_storage.proofs.Rows.{fields_row, row_is, offset_nil, start_is}
use Rattle.layout_storage.proofs.Sized.{frame_size}

-- ---- variables

within : (ts : List Ty) (k : ℕ) → offset (row ts) (k ∷ []) ≤ size (row ts)
unfolding offset size
within [] k = omega arith
within (t ∷ ts) zero = let e : offset t [] ≡ 0 = offset_nil t in omega (arith, e)
within (t ∷ ts) (suc k) = let l : offset (row ts) (k ∷ []) ≤ size (row ts) = within ts k in omega (arith, l)

kept_whole : (n : ℕ) → n ≤ max_storage → cap_size n ≡ n
kept_whole n l = omega (arith, l)

from_nothing : (n : ℕ) → cap_size (0 + n) ≡ cap_size n
from_nothing n = omega arith

start_at : (ts : List Ty) (k : ℕ) → start_in (row_of 0 (map size ts)) k ≡ cap_size (offset (row ts) (k ∷ []))
start_at ts k = subst (λ (ns : List ℕ). start_in (row_of 0 ns) k ≡ cap_size (offset (row ts) (k ∷ []))) (fields_row ts)
    (start_is 0 (row ts) k (row_is ts) ∙ from_nothing (offset (row ts) (k ∷ [])))

small_enough : (n k b : ℕ) → n ≤ k → k + b ≤ max_storage → n ≤ max_storage
small_enough n k b l h = omega (arith, l, h)

pub offset_fits : (m : TypedModule) (x : Layout) → IsLayout m x → AllFits m → (k n : ℕ) → n ≡ start_in x.variables k
    → n ≡ offset (module_row m) (k ∷ [])
offset_fits m x h f k n e =
    let ts : List Ty = map (tree m.types) m.variables in
    e ∙ ap (λ (r : Row). start_in r k) h.variables ∙ start_at ts k
    ∙ kept_whole (offset (row ts) (k ∷ []))
    (small_enough (offset (row ts) (k ∷ [])) (size (row ts)) (characters (module_texts m)) (within ts k) f.bytes)

-- ---- frames

abbrev end : Row → ℕ
end r = r.size

abbrev bytes : Types → Routine → ℕ
bytes types r = size (frame types r)

end_at : (types : Types) (rs : List Routine) (n : ℕ) → FramesFit types rs
    → option_map end (slice_get (map (frame_row types) rs) n) ≡ option_map (bytes types) (slice_get rs n)
end_at types [] n f = refl
end_at types (r ∷ rs) zero f = ap (λ (b : ℕ). Some b) (frame_size types r ∙ kept_whole (size (frame types r)) f.0)
end_at types (r ∷ rs) (suc n) f = end_at types rs n f.1

frame_at_module : (m : TypedModule) (x : Layout) → IsLayout m x → AllFits m → (n : ℕ)
    → option_map end (slice_get x.procedures n) ≡ option_map (bytes m.types) (slice_get m.procedures n)
frame_at_module m x h f n = ap (λ (rs : List Row). option_map end (slice_get rs n)) h.procedures
    ∙ end_at m.types m.procedures n f.procedures

frame_at_local : (m : TypedModule) (x : Layout) → IsLayout m x → AllFits m → (n : ℕ)
    → option_map end (slice_get x.locals n) ≡ option_map (bytes m.types) (slice_get m.locals n)
frame_at_local m x h f n = ap (λ (rs : List Row). option_map end (slice_get rs n)) h.locals
    ∙ end_at m.types m.locals n f.locals

pub frame_in_module : (m : TypedModule) (x : Layout) → IsLayout m x → AllFits m → (w : Which) (n : ℕ)
    → w ≡ which.Module n
    → (found : Option Row) → found ≡ slice_get x.procedures n → (o : Option ℕ) → o ≡ option_map end found
    → o ≡ option_map (bytes m.types) (routine_of m w)
frame_in_module m x h f w n e found is o made =
    made ∙ ap (λ (r : Option Row). option_map end r) is ∙ frame_at_module m x h f n
    ∙ ap (λ (v : Which). option_map (bytes m.types) (routine_of m v)) (sym e)

pub frame_in_local : (m : TypedModule) (x : Layout) → IsLayout m x → AllFits m → (w : Which) (n : ℕ) → w ≡ which.Local n
    → (found : Option Row) → found ≡ slice_get x.locals n → (o : Option ℕ) → o ≡ option_map end found
    → o ≡ option_map (bytes m.types) (routine_of m w)
frame_in_local m x h f w n e found is o made =
    made ∙ ap (λ (r : Option Row). option_map end r) is ∙ frame_at_local m x h f n
    ∙ ap (λ (v : Which). option_map (bytes m.types) (routine_of m v)) (sym e)
