-- Where all variables of a module stand, and where its storage does not fit.
use Rattle.std.specs.Prelude.{◌≡◌, ℕ, ◌+◌, ◌≤◌, ◌==◌, nat_lt, slice_get, Bool, ◌&&◌, ◌||◌, ◌∷◌, [], ◌++◌, map, Option, Some, None, Result, Ok, Err, if◌then◌else◌, List}
use Rattle.std.specs.List.{fold}
use Rattle.m2_tree.specs.declared.pos.Pos.{Pos}
use Rattle.typed_tree.specs.declared.known_types.Types.{Types}
use Rattle.typed_tree.specs.declared.typed_module.Routine.{Routine}
use Rattle.typed_tree.specs.declared.typed_module.Imported.{Imported}
use Rattle.typed_tree.specs.declared.typed_module.Which.{Which}
use Rattle.typed_tree.specs.declared.typed_module.Which.TheVariants as which
use Rattle.typed_tree.specs.declared.typed_module.TypedModule.{TypedModule}
use Rattle.layout_storage.specs.declared.row.Row.{Row}
use Rattle.layout_storage.specs.declared.layout.Frames.{Frames}
use Rattle.layout_storage.specs.declared.layout.Layout.{Layout}
use Rattle.layout_storage.specs.declared.layout.Checked.{Checked}
use Rattle.layout_storage.specs.Sizes.{size}
use Rattle.layout_storage.specs.Frames.{frame, module_row}
use Rattle.layout_storage.specs.Texts.{characters, module_texts}
use Rattle.layout_storage.specs.Extents.{AreExtents}
use Rattle.layout_storage.specs.Rows.{variables_row, frame_row}
use Rattle.layout_storage.specs.Counted.{character_count}

-- ---- what does not fit

-- how many bytes the variables and texts of a module may have, and a frame
abbrev pub max_storage : ℕ
max_storage = 16777216

abbrev pub is_before : Pos → Pos → Bool
is_before p q = nat_lt p.line q.line || (p.line == q.line && nat_lt p.col q.col)

abbrev pub least_with : Option Pos → Pos → Pos
least_with None p = p
least_with (Some q) p = if is_before p q then p else q

-- one more size, with its place
abbrev pub with_size : Option Pos → ℕ → Pos → Option Pos
with_size found n at = if nat_lt max_storage n then Some (least_with found at) else found

abbrev pub with_frame : Types → Option Pos → Routine → Option Pos
with_frame types found r = with_size found (size (frame types r)) r.pos

abbrev pub data_too_large : TypedModule → Option Pos
data_too_large m = with_size None (size (module_row m) + characters (module_texts m)) m.pos

-- the least place at which the variables and texts of the module, or a frame, are too large: at the
-- module's name, and at the procedure's
abbrev pub too_large : TypedModule → Option Pos
too_large m =
    fold (with_frame m.types) (fold (with_frame m.types) (data_too_large m) m.procedures) m.locals

-- ---- what is kept

abbrev pub imported_row : Types → Imported → Row
imported_row types i = variables_row types i.variables

pub record IsLayout (m : TypedModule) (x : Layout) : Type 0 where
  pub extents : AreExtents m.types x.extents
  pub variables : x.variables ≡ variables_row m.types m.variables
  pub imported : x.imported ≡ map (imported_row m.types) m.imports
  pub procedures : x.procedures ≡ map (frame_row m.types) m.procedures
  pub locals : x.locals ≡ map (frame_row m.types) m.locals
  pub texts : x.texts ≡ character_count (module_texts m)

abbrev pub FramesFit : Types → List Routine → Type 0
FramesFit types [] = Unit {0}
FramesFit types (r ∷ rs) = (size (frame types r) ≤ max_storage) × FramesFit types rs

-- so what is kept of the variables and of frames is not cut
pub record AllFits (m : TypedModule) : Type 0 where
  pub bytes : size (module_row m) + characters (module_texts m) ≤ max_storage
  pub procedures : FramesFit m.types m.procedures
  pub locals : FramesFit m.types m.locals

-- where each variable stands, if all storage fits, and else the least place where it does not
abbrev pub IsAnswer : TypedModule → Result Layout Pos → Type 0
IsAnswer m (Ok x) = (too_large m ≡ None) × AllFits m × IsLayout m x
IsAnswer m (Err at) = too_large m ≡ Some at

-- ---- one procedure

-- the procedure of this number in its list
abbrev pub routine_of : TypedModule → Which → Option Routine
routine_of m (which.Module n) = slice_get m.procedures n
routine_of m (which.Local n) = slice_get m.locals n

-- ---- how frames are found

abbrev pub no_frames : Option Pos → Frames
no_frames found = record { rows = []; too_large = found }

abbrev pub with_routine : Types → Frames → Routine → Frames
with_routine types x r = record {
  rows = x.rows ++ frame_row types r ∷ [];
  too_large = with_size x.too_large (frame_row types r).size r.pos;
}

-- all but the frames
pub record IsWithoutFrames (m : TypedModule) (x : Layout) : Type 0 where
  pub extents : AreExtents m.types x.extents
  pub variables : x.variables ≡ variables_row m.types m.variables
  pub imported : x.imported ≡ map (imported_row m.types) m.imports
  pub texts : x.texts ≡ character_count (module_texts m)

abbrev pub together : Layout → Frames → Frames → Checked
together x procedures locals = record {
  layout = record x { procedures = procedures.rows; locals = locals.rows };
  too_large = locals.too_large;
}

pub record IsChecked (m : TypedModule) (x : Checked) : Type 0 where
  pub layout : IsLayout m x.layout
  pub too_large : x.too_large ≡ too_large m
