-- The frames of procedures: what the formals and variables of a procedure, and of those around it,
-- stand for.
use Rattle.std.specs.Prelude.{◌≡◌, ℕ, suc, ◌<◌, ◌^◌, List, [], ◌∷◌, ◌++◌, map, length, Option, Some, None, slice_get, if◌then◌else◌}
use Rattle.std.specs.Int.{w64, to_le_bytes}
use Rattle.wasm_tree.specs.declared.store.Value.TheVariants.{I32}
use Rattle.typed_tree.specs.declared.computed.Slot.{Slot}
use Rattle.typed_tree.specs.declared.shape.Formal.{Formal}
use Rattle.typed_tree.specs.declared.known_types.Types.{Types}
use Rattle.typed_tree.specs.declared.typed_module.Routine.{Routine}
use Rattle.layout_storage.specs.Types.{Ty, Hidden, Array, row, frame_of, component}
use Rattle.layout_storage.specs.Sizes.{Four, offset}
use Rattle.layout_storage.specs.Shapes.{tree}
use Rattle.layout_storage.specs.Frames.{formals_of}
use Rattle.def_meaning.specs.Store.{Location}
use Rattle.def_meaning.specs.Environment.{Named, At, Elements, Frames}
use Rattle.law_memory.specs.Cells.{stored_in}
use Rattle.law_memory.specs.Relation.{Keeps}
use Rattle.law_simulation.specs.Scene.{Scene, place}

-- ---- what is known of a procedure before it runs

-- a formal or a variable: it holds a value, or it is another name of a variable, or of an array of
-- any length
pub data Kind : Type 0 where
  Kept : (t : Ty) → Kind
  Alias : (t : Ty) → Kind
  Open : (element : Ty) → Kind

-- what it has in the frame
abbrev pub kind_tree : Kind → Ty
kind_tree (Kept t) = t
kind_tree (Alias t) = Hidden 4
kind_tree (Open t) = row (Hidden 4 ∷ Hidden 4 ∷ [])

abbrev pub Kinds : Type 0
Kinds = List Kind

abbrev pub frame_kinds : Kinds → Ty
frame_kinds ks = frame_of (map kind_tree ks)

abbrev pub formal_kind : Types → Formal → Kind
formal_kind types f =
    if f.is_open
    then Open (tree types f.of)
    else (if f.is_var then Alias (tree types f.of) else Kept (tree types f.of))

abbrev pub kinds_of : Types → Routine → Kinds
kinds_of types r =
    map (formal_kind types) (formals_of types r.heading)
    ++ map (λ t. Kept (tree types t)) r.variables

abbrev pub or_none : Option Kinds → Kinds
or_none None = []
or_none (Some ks) = ks

-- the frames from the own one outwards have this at a slot
abbrev pub kind_at : List Kinds → Slot → Option Kind
kind_at kss slot = slice_get (or_none (slice_get kss slot.up)) slot.number

-- ---- while it runs

module _ (world : List Ty) (x : Location → ℕ → ℕ) where
  -- variable v of the frame root stands for this
  abbrev pub IsNamed : (root v : ℕ) → Kind → Named → Type 0
  IsNamed root v (Kept t) (At l) = l ≡ root ∷ suc v ∷ []
  IsNamed root v (Kept t) (Elements l high) = ⊥
  IsNamed root v (Alias t) (At l) =
      (component (row world) l ≡ Some t) × (0 < length l)
      × Keeps x (root ∷ suc v ∷ []) (stored_in Four (offset (row world) l))
  IsNamed root v (Alias t) (Elements l high) = ⊥
  IsNamed root v (Open t) (At l) = ⊥
  IsNamed root v (Open t) (Elements l high) =
      (component (row world) l ≡ Some (Array (suc high) t))
      × (0 < length l)
      × (high < 2 ^ 32)
      × Keeps x (root ∷ suc v ∷ 0 ∷ []) (stored_in Four (offset (row world) l))
      × Keeps x (root ∷ suc v ∷ 1 ∷ []) (stored_in Four high)

  abbrev pub AreNamed : (root v : ℕ) → Kinds → List Named → Type 0
  AreNamed root v [] [] = Unit {0}
  AreNamed root v [] (n ∷ ns) = ⊥
  AreNamed root v (k ∷ ks) [] = ⊥
  AreNamed root v (k ∷ ks) (n ∷ ns) = IsNamed root v k n × AreNamed root (suc v) ks ns

  -- the address of the frame around it stands in the first bytes of a frame
  abbrev pub IsLink : (root : ℕ) → (outer : List ℕ) → Type 0
  IsLink root [] = Unit {0}
  IsLink root (r ∷ rs) = Keeps x (root ∷ 0 ∷ 0 ∷ []) (to_le_bytes w64 (offset (row world) (r ∷ [])))

  -- the frames from the own one outwards, each an instance
  pub data IsChain : List Kinds → Frames → (roots : List ℕ) → Type 0 where
    chain_end : IsChain [] [] []
    chain_more : (ks : Kinds) (kss : List Kinds) (ns : List Named) (nss : Frames) (root : ℕ)
        (roots : List ℕ)
        → component (row world) (root ∷ []) ≡ Some (frame_kinds ks)
        → AreNamed root 0 ks ns
        → IsLink root roots
        → IsChain kss nss roots
        → IsChain (ks ∷ kss) (ns ∷ nss) (root ∷ roots)

-- the code knows the frames
abbrev pub AreFrames : List Kinds → List Ty → Type 0
AreFrames [] ts = Unit {0}
AreFrames (ks ∷ kss) [] = ⊥
AreFrames (ks ∷ kss) (t ∷ ts) = (t ≡ frame_kinds ks) × AreFrames kss ts

-- local 0 has the address of the own frame
abbrev pub IsOwnFrame : Scene → List ℕ → Type 0
IsOwnFrame k [] = Unit {0}
IsOwnFrame k (r ∷ rs) = k.kept 0 ≡ Some (I32 (place k (r ∷ [])))

pub record HasFrames (k : Scene) (kss : List Kinds) : Type 0 where
  pub roots : List ℕ
  pub chain : IsChain k.world k.hidden kss k.around.frames roots
  pub frames : AreFrames kss k.setting.frames
  pub own : IsOwnFrame k roots
