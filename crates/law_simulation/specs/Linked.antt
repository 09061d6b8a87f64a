-- The procedures of a program with their functions, and what linking gives each module.
use Rattle.std.specs.Prelude.{◌≡◌, ℕ, suc, ◌+◌, ◌≤◌, ◌<◌, ◌^◌, pos, true, List, [], ◌∷◌, length, get_or, Some, slice_get}
use Rattle.wasm_tree.specs.declared.module.WModule.{WModule}
use Rattle.wasm_tree.specs.declared.store.Callee.TheVariants.{Own}
use Rattle.wasm_tree.specs.declared.store.Value.TheVariants.{I32}
use Rattle.wasm_tree.specs.Machine.{Typed, callee_at, callee_in, global_at, own_function, type_at}
use Rattle.law_effect.specs.Effect.{Fixed, store_of}
use Rattle.typed_tree.specs.declared.meaning.Procedure.{Procedure}
use Rattle.typed_tree.specs.declared.meaning.Variable.{Variable}
use Rattle.typed_tree.specs.declared.typed_module.Routine.{Routine}
use Rattle.typed_tree.specs.declared.typed_module.Which.{Which}
use Rattle.typed_tree.specs.declared.typed_module.Which.TheVariants as which
use Rattle.typed_tree.specs.declared.typed_module.TypedModule.{TypedModule}
use Rattle.layout_storage.specs.Types.{Ty, Hidden, row, component}
use Rattle.layout_storage.specs.Sizes.{offset}
use Rattle.layout_storage.specs.Texts.{characters, module_texts, texts_before}
use Rattle.def_meaning.specs.Store.{Location}
use Rattle.def_meaning.specs.Environment.{Modules, module_place, procedure_value}
use Rattle.law_memory.specs.Relation.{value_number}
use Rattle.def_scheme.specs.Coded.{body_index}
use Rattle.def_scheme.specs.Exprs.{base_global, slots_global, text_global, variables_row, slot_number, has_result}
use Rattle.def_scheme.specs.Functions.{routine_of, frames_around, numbers_of, routine_function}
use Rattle.def_scheme.specs.Modules.{numbering_of, all_characters}
use Rattle.def_scheme.specs.Signatures.{Signature, signature, signatures_needed, is_among, type_of}
use Rattle.law_simulation.specs.Frames.{Kinds}
use Rattle.law_simulation.specs.TreesTyped.{Context, IsVariable, IsNamed, kinds_around}
use Rattle.law_simulation.specs.Knot.{Part}

-- ---- procedures

-- a procedure of a program
pub record Spot (p : Modules) : Type 0 where
  pub place : ℕ
  pub home : TypedModule
  pub there : slice_get p place ≡ Some home
  pub at : Which
  pub routine : Routine
  pub is : routine_of home at ≡ Some routine

-- five helpers and the body stand before the functions of procedures
abbrev pub function_of : TypedModule → Which → ℕ
function_of m (which.Module n) = 6 + n
function_of m (which.Local n) = 6 + (length m.procedures + n)

-- by which the module calls them, behind two of the host
abbrev pub called_by : TypedModule → Which → ℕ
called_by m (which.Module n) = suc body_index + n
called_by m (which.Local n) = suc body_index + (length m.procedures + n)

abbrev pub routine_typed : TypedModule → Which → Routine → Typed
routine_typed m w r = record {
  type = type_of (signature (numbers_of m.types r) (has_result m.types r.heading));
  function = routine_function (numbering_of m) m w r;
}

abbrev pub environment_of : TypedModule → Routine → List Kinds
environment_of m r = kinds_around m r.level r.around

abbrev pub text_of : TypedModule → Which → ℕ
text_of m w = characters (texts_before m w m.order)

-- link is the module 0, and the others follow in start order
abbrev pub part_of : {p : Modules} → Spot p → Part
part_of o = record {
  own = suc o.place;
  place = o.place;
  home = o.home;
  routine = o.routine;
  outer = frames_around o.home o.routine.level o.routine.around;
  text = text_of o.home o.at;
  kinds = environment_of o.home o.routine;
  function = function_of o.home o.at;
  typed = routine_typed o.home o.at o.routine;
}

-- ---- modules

-- the instances of the modules, with their texts
module _ (p : Modules) (base : List Ty) (texts : Location → ℕ → ℕ) where
  -- where a tree of a module stands, in procedures with these frames
  abbrev pub context : (place : ℕ) → TypedModule → List Kinds → Context
  context place m kinds = record {
    p = p;
    home = m;
    place = place;
    kinds = kinds;
    base = base;
    texts = texts;
    characters = all_characters (module_texts m);
  }

  module _ (modules : List WModule) (fx : Fixed) (place : ℕ) (m : TypedModule) where
    -- a global of the module has this number
    abbrev pub HasGlobal : (global n : ℕ) → Type 0
    HasGlobal global n =
        (bytes : List ℕ) → global_at (store_of fx bytes) (suc place) global ≡ Some (I32 n)

    -- a global has the place of the variables of its module
    pub record HasVariable (v : Variable) : Type 0 where
      pub address : ℕ
      pub there : HasGlobal (base_global m v.home) address
      pub at : address + offset (variables_row m v.home) (v.number ∷ [])
          ≡ offset (row base) (module_place p v.home ∷ v.number ∷ [])

    -- a global has the first slot of its module, and the procedure's slot has its function
    pub record HasProcedure (f : Procedure) : Type 0 where
      pub slot : ℕ
      pub there : HasGlobal (slots_global m f.home) slot
      pub is : procedure_value p f.home f.number ≡ pos (slot + slot_number f)
      pub small : slot + slot_number f < 2 ^ 32
      pub filled : (bytes : List ℕ)
          → callee_in (store_of fx bytes) (suc place) (slot + slot_number f)
          ≡ Some (Own (suc (module_place p f.home)) (6 + f.number))

    -- the slot of a procedure's value has its function
    pub record HasEntry (to number : ℕ) : Type 0 where
      pub small : value_number p to number < 2 ^ 32
      pub filled : (bytes : List ℕ)
          → callee_in (store_of fx bytes) (suc place) (value_number p to number)
          ≡ Some (Own (suc to) (6 + number))

    -- a global has the place of its texts, which stand behind one another
    pub record HasTexts : Type 0 where
      pub address : ℕ
      pub there : HasGlobal text_global address
      pub number : ℕ
      pub bytes : ℕ
      pub type : component (row base) (place ∷ number ∷ []) ≡ Some (Hidden bytes)
      pub at : offset (row base) (place ∷ number ∷ []) ≡ address
      pub fits : length (all_characters (module_texts m)) ≤ bytes
      pub same : (j : ℕ) → j < length (all_characters (module_texts m))
          → texts (place ∷ number ∷ []) j ≡ get_or (all_characters (module_texts m)) j 0

    -- the module at this place
    pub record IsLinked : Type 0 where
      pub there : slice_get p place ≡ Some m
      pub own : module_place p m.types.home ≡ place
      pub variables : (v : Variable) (t : Ty) → IsVariable (context place m []) v t → HasVariable v
      pub procedures : (f : Procedure) → IsNamed (context place m []) f → HasProcedure f
      -- the procedures of all modules stand in the table
      pub entries :
          (to : ℕ) (home : TypedModule) (number : ℕ) (r : Routine) → slice_get p to ≡ Some home
          → slice_get home.procedures number ≡ Some r → HasEntry to number
      pub characters : HasTexts
      -- the types of the functions that it calls stand under their numbers
      pub types : (s : Signature) → is_among (signatures_needed m) s ≡ true
          → type_at modules (suc place) (numbering_of m s.arguments s.result) ≡ Some (type_of s)
      -- the functions of its procedures
      pub called : (w : Which) (r : Routine)
          → routine_of m w ≡ Some r
          → (bytes : List ℕ)
          → callee_at (store_of fx bytes) (suc place) (called_by m w)
          ≡ Some (Own (suc place) (function_of m w))
      pub functions : (w : Which) (r : Routine) → routine_of m w ≡ Some r
          → own_function modules (suc place) (function_of m w) ≡ Some (routine_typed m w r)
