-- Where code stands: the frames that it sees, and the rest of the scheme's setting.
use Rattle.std.specs.Prelude.{◌≡◌, ℕ, List, [], ◌∷◌, map}
use Rattle.typed_tree.specs.declared.known_types.Types.{Types}
use Rattle.typed_tree.specs.declared.typed_module.Routine.{Routine}
use Rattle.typed_tree.specs.declared.typed_module.TypedModule.{TypedModule}
use Rattle.layout_storage.specs.Types.{Ty, frame_of}
use Rattle.layout_storage.specs.Frames.{frame}
use Rattle.layout_storage.specs.Rows.{frame_row}
use Rattle.def_scheme.specs.Coded.{Setting}
use Rattle.emit_buffer.specs.declared.frame.Framed.{Framed}

-- the body of a module has a frame without formals and variables
abbrev pub frames_of : Types → List Routine → List Ty
frames_of types [] = frame_of [] ∷ []
frames_of types (r ∷ rs) = frame types r ∷ map (frame types) rs

-- a setting with procedures in place of their frames
pub record Standing : Type 0 where
  pub home : TypedModule
  pub routines : List Routine
  pub arguments : ℕ
  pub addresses : ℕ
  pub exit : ℕ
  pub withs : List ℕ

-- the setting that it means
abbrev pub setting_of : Standing → Setting
setting_of s = record {
  home = s.home;
  frames = frames_of s.home.types s.routines;
  arguments = s.arguments;
  addresses = s.addresses;
  exit = s.exit;
  withs = s.withs;
}

abbrev pub routines_in : List Framed → List Routine
routines_in fs = map (λ f. f.routine.now) fs

-- what is kept of a frame is the frame of the procedure
pub record IsFramed (types : Types) (f : Framed) : Type 0 where
  pub row : f.row.now ≡ frame_row types f.routine.now

abbrev pub AreFramed : Types → List Framed → Type 0
AreFramed types fs = map (λ f. f.row.now) fs ≡ map (frame_row types) (routines_in fs)
