-- Scenes in which a tree's code runs.
use Rattle.std.specs.Prelude.{◌≡◌, ℕ, suc, ◌+◌, true, List, [], ◌∷◌, length, drop, Some, slice_get}
use Rattle.wasm_tree.specs.declared.instr.Instr.{Instr}
use Rattle.wasm_tree.specs.Machine.{Typed, type_at}
use Rattle.typed_tree.specs.declared.computed.LocalProcedure.{LocalProcedure}
use Rattle.typed_tree.specs.declared.meaning.Procedure.{Procedure}
use Rattle.typed_tree.specs.declared.meaning.Variable.{Variable}
use Rattle.typed_tree.specs.declared.types.TypeNo.{TypeNo}
use Rattle.layout_storage.specs.Types.{Ty}
use Rattle.layout_storage.specs.Frames.{formals_of}
use Rattle.def_meaning.specs.Store.{Location}
use Rattle.def_meaning.specs.Environment.{Callee, module_place, module_callee, nested_in}
use Rattle.def_meaning.specs.Expressions.{Asks}
use Rattle.def_scheme.specs.Exprs.{all_arguments, has_result, module_call, nested_call}
use Rattle.def_scheme.specs.Modules.{numbering_of}
use Rattle.def_scheme.specs.Signatures.{signatures_needed, of_heading, is_among, type_of}
use Rattle.law_simulation.specs.Scene.{Scene, IsSet, IsGlobal, IsWith, calls}
use Rattle.law_simulation.specs.Held.{HasCallees}
use Rattle.law_simulation.specs.CallsLaws.{HasSlot, IsText}
use Rattle.law_simulation.specs.Frames.{Kinds, HasFrames}
use Rattle.law_simulation.specs.Passing.{all_operands, forms_of, result_of, HasTop, DoesAsked, IsCallOf}
use Rattle.law_simulation.specs.TreesTyped.{Context, IsVariable, IsNamed, IsCallable, IsInner, HasText}

-- this code calls a function that does what is asked of a procedure with this heading
pub record IsCalled (x : Context) (ask : Asks) (k : Scene) (c : Callee) (kinds : List Kinds)
    (heading : TypeNo) (code : List Instr) (links : ℕ) : Type 0 where
  pub own : ℕ
  pub function : ℕ
  pub typed : Typed
  pub does : DoesAsked k.program x.base x.texts k.limit (calls k) ask c kinds
      (forms_of x.home.types heading) (result_of x.home.types heading) own function typed
  pub is_call : IsCallOf k code own function typed
  pub count : length typed.type.params ≡ suc (links + all_operands (forms_of x.home.types heading))

-- the scene is one of the context, within WITHs of records of these types
pub record Fits (x : Context) (ask : Asks) (ws : List Ty) (k : Scene) : Type 0 where
  pub set : IsSet k
  pub home : x.home ≡ k.setting.home
  pub program : k.program ≡ x.p
  pub place : k.around.place ≡ x.place
  pub frames : HasFrames k x.kinds
  pub top : HasTop k x.base x.texts
  pub withs : (j : ℕ) (t : Ty) → slice_get ws j ≡ Some t → (l : Location) × IsWith k j l t
  pub count : (length k.setting.withs ≡ length ws) × (length k.around.withs ≡ length ws)
  pub globals : (v : Variable) (t : Ty) → IsVariable x v t
      → IsGlobal k v (module_place x.p v.home ∷ v.number ∷ []) t
  pub slots : (f : Procedure) → IsNamed x f → HasSlot k x.p f
  pub texts : (at : ℕ) (text : List ℕ) → HasText x at text → IsText k at text
  pub modules : (f : Procedure)
      → IsCallable x f
      → (c : Callee)
      × (module_callee x.p (module_place x.p f.home) f.number ≡ Some c)
      × (c.frames ≡ [])
      × IsCalled x ask k c [] f.heading (module_call (numbering_of x.home) k.setting.home f) 0
  pub nested : (f : LocalProcedure)
      → IsInner x f
      → (c : Callee)
      × (nested_in x.place (slice_get x.p x.place) (drop f.up k.around.frames) f.number ≡ Some c)
      × (c.frames ≡ drop f.up k.around.frames)
      × IsCalled x ask k c (drop f.up x.kinds) f.heading
      (nested_call (numbering_of x.home) k.setting.home f) 1
  -- the procedures of all modules stand in the table, and the types of the functions that it calls
  -- under their numbers
  pub callees : HasCallees k ask x.base x.texts
  pub signed : (t : TypeNo)
      → is_among (signatures_needed x.home) (of_heading x.home.types t) ≡ true
      → type_at k.modules k.own
      (numbering_of x.home (all_arguments (formals_of x.home.types t)) (has_result x.home.types t))
      ≡ Some (type_of (of_heading x.home.types t))
