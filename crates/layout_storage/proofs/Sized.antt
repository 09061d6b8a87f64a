-- What does not fit, from sizes in 32 bits.
use Rattle.std.proofs.Common.{◌≡◌, ℕ, ◌+◌, ◌<◌, ◌≤◌, Bool, true, false, List, [], ◌∷◌, ◌++◌, map, Option, Some, None, refl, sym, ap, subst, ◌∙◌, append_assoc, arith}
use Rattle.std.specs.Prelude.{nat_lt, if◌then◌else◌}
use Rattle.std.specs.List.{fold}
use Rattle.std.proofs.lemmas.List.{append-nil}
use Rattle.std.proofs.lemmas.Bool.{lt-ltb, le-ltb, ltb-true, ltb-false}
use Rattle.m2_tree.specs.declared.pos.Pos.{Pos}
use Rattle.typed_tree.specs.declared.known_types.Types.{Types}
use Rattle.typed_tree.specs.declared.typed_module.Routine.{Routine}
use Rattle.typed_tree.specs.declared.typed_module.TypedModule.{TypedModule}
use Rattle.layout_storage.specs.declared.row.Row.{Row}
use Rattle.layout_storage.specs.declared.layout.Frames.{Frames}
use Rattle.layout_storage.specs.declared.layout.Layout.{Layout}
use Rattle.layout_storage.specs.declared.layout.Checked.{Checked}
use Rattle.layout_storage.specs.Capped.{cap_size}
use Rattle.layout_storage.specs.Types.{Ty, row}
use Rattle.layout_storage.specs.Sizes.{size}
use Rattle.layout_storage.specs.Shapes.{tree}
use Rattle.layout_storage.specs.Frames.{frame, module_row, variable_trees}
use Rattle.layout_storage.specs.Texts.{characters, module_texts}
use Rattle.layout_storage.specs.Extents.{total}
use Rattle.layout_storage.specs.Rows.{variables_row, frame_row}
use Rattle.layout_storage.specs.Layouts.{max_storage, too_large, least_with, with_size, with_frame, data_too_large, with_routine, together, IsWithoutFrames, IsChecked, FramesFit, AllFits}
use Rattle.layout_storage.proofs.Capping.{sum_both, from_nought}
use Rattle.layout_storage.proofs.Rows.{fields_row, fields_sum, row_is}

less_case : (n : ℕ) (b : Bool) → nat_lt max_storage n ≡ b → nat_lt max_storage (cap_size n) ≡ b
less_case n true e = let h : max_storage < n = ltb-true max_storage n e in lt-ltb max_storage (cap_size n) (omega arith)
less_case n false e = let h : n ≤ max_storage = ltb-false max_storage n e in
    le-ltb max_storage (cap_size n) (omega arith)

pub less_capped : (n : ℕ) → nat_lt max_storage (cap_size n) ≡ nat_lt max_storage n
less_capped n = less_case n (nat_lt max_storage n) refl

abbrev sized : Option Pos → Pos → Bool → Option Pos
sized found at true = Some (least_with found at)
sized found at false = found

same_sized : (found : Option Pos) (n : ℕ) (at : Pos) (b : Bool)
    → (if b then Some (least_with found at) else found) ≡ sized found at b
same_sized found n at true = refl
same_sized found n at false = refl

size_capped : (found : Option Pos) (n : ℕ) (at : Pos) → with_size found (cap_size n) at ≡ with_size found n at
size_capped found n at = same_sized found n at (nat_lt max_storage (cap_size n))
    ∙ ap (λ (b : Bool). sized found at b) (less_capped n) ∙ sym (same_sized found n at (nat_lt max_storage n))

-- ---- rows and frames

row_size : (ts : List Ty) → total (map size ts) ≡ size (row ts)
row_size ts = ap total (sym (fields_row ts)) ∙ fields_sum (row ts) (row_is ts)

pub frame_size : (types : Types) (r : Routine) → (frame_row types r).size ≡ cap_size (size (frame types r))
unfolding size
frame_size types r = ap (λ (n : ℕ). cap_size (16 + n)) (row_size (variable_trees types r))

frame_sized : (types : Types) (found : Option Pos) (r : Routine)
    → with_size found (frame_row types r).size r.pos ≡ with_frame types found r
frame_sized types found r = ap (λ (n : ℕ). with_size found n r.pos) (frame_size types r)
    ∙ size_capped found (size (frame types r)) r.pos

abbrev frames : List Row → Option Pos → Frames
frames rows found = record { rows = rows; too_large = found }

frames_are : (types : Types) (rows : List Row) (found : Option Pos) (rs : List Routine)
    → fold (with_routine types) (frames rows found) rs
    ≡ frames (rows ++ map (frame_row types) rs) (fold (with_frame types) found rs)
frames_are types rows found [] = ap (λ (xs : List Row). frames xs found) (sym (append-nil rows))
frames_are types rows found (r ∷ rs) =
    ap (λ (o : Option Pos). fold (with_routine types) (frames (rows ++ frame_row types r ∷ []) o) rs)
    (frame_sized types found r)
    ∙ frames_are types (rows ++ frame_row types r ∷ []) (with_frame types found r) rs
    ∙ ap (λ (xs : List Row). frames xs (fold (with_frame types) (with_frame types found r) rs))
    (append_assoc rows (frame_row types r ∷ []) (map (frame_row types) rs))

-- ---- the variables and texts of a module

module_size : (m : TypedModule) → (variables_row m.types m.variables).size ≡ cap_size (size (module_row m))
module_size m = ap (λ (n : ℕ). cap_size (0 + n)) (row_size (map (tree m.types) m.variables))
    ∙ from_nought (size (module_row m))

pub data_is : (m : TypedModule) (x : Layout) → IsWithoutFrames m x → (n : ℕ) (found : Option Pos)
    → n ≡ cap_size (x.variables.size + x.texts) → found ≡ with_size None n m.pos → found ≡ data_too_large m
data_is m x h n found e f =
    f ∙ ap (λ (k : ℕ). with_size None k m.pos)
    (e ∙ ap (λ (r : Row). cap_size (r.size + x.texts)) h.variables
    ∙ ap (λ (k : ℕ). cap_size (k + x.texts)) (module_size m)
    ∙ ap (λ (k : ℕ). cap_size (cap_size (size (module_row m)) + k)) h.texts
    ∙ sum_both (size (module_row m)) (characters (module_texts m)))
    ∙ size_capped None (size (module_row m) + characters (module_texts m)) m.pos

-- ---- the whole

pub checked : (m : TypedModule) (x : Layout) → IsWithoutFrames m x
    → (found : Option Pos) (ps ls : Frames) (all : Checked) → found ≡ data_too_large m
    → ps ≡ fold (with_routine m.types) (frames [] found) m.procedures
    → ls ≡ fold (with_routine m.types) (frames [] ps.too_large) m.locals → all ≡ together x ps ls → IsChecked m all
checked m x h found ps ls all e f g a =
    let procedures = f ∙ frames_are m.types [] found m.procedures in
    let locals = g ∙ frames_are m.types [] ps.too_large m.locals in
    subst (IsChecked m) (sym a) (record {
      layout = record {
        extents = h.extents;
        variables = h.variables;
        imported = h.imported;
        procedures =
            ap (λ (y : Frames). y.rows) procedures;
        locals = ap (λ (y : Frames). y.rows) locals;
        texts = h.texts;
      };
      too_large = ap (λ (y : Frames). y.too_large) locals
          ∙ ap (λ (o : Option Pos). fold (with_frame m.types) o m.locals)
          (ap (λ (y : Frames). y.too_large) procedures
          ∙ ap (λ (o : Option Pos). fold (with_frame m.types) o m.procedures) e);
    })

-- ---- where nothing is reported, all fits

size_none : (found : Option Pos) (n : ℕ) (at : Pos) (b : Bool) → nat_lt max_storage n ≡ b
    → (if b then Some (least_with found at) else found) ≡ None → (found ≡ None) × (n ≤ max_storage)
size_none found n at true e h = cc h
size_none found n at false e h = (h, ltb-false max_storage n e)

frames_none : (types : Types) (found : Option Pos) (rs : List Routine) → fold (with_frame types) found rs ≡ None
    → (found ≡ None) × FramesFit types rs
frames_none types found [] h = (h, tt)
frames_none types found (r ∷ rs) h =
    let p = frames_none types (with_frame types found r) rs h in
    let q = size_none found (size (frame types r)) r.pos (nat_lt max_storage (size (frame types r))) refl p.0 in
    (q.0, (q.1, p.1))

pub all_fits : (m : TypedModule) → too_large m ≡ None → AllFits m
all_fits m h =
    let l = frames_none m.types (fold (with_frame m.types) (data_too_large m) m.procedures) m.locals h in
    let p = frames_none m.types (data_too_large m) m.procedures l.0 in
    let d = size_none None (size (module_row m) + characters (module_texts m)) m.pos
    (nat_lt max_storage (size (module_row m) + characters (module_texts m))) refl p.0 in
    record { bytes = d.1; procedures = p.1; locals = l.1 }
