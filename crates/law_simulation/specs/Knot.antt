-- All functions of a program do what is asked, to every depth of calls.
use Rattle.std.specs.Prelude.{◌≡◌, ℕ, Bool, false, List, [], None}
use Rattle.wasm_tree.specs.declared.module.WModule.{WModule}
use Rattle.wasm_tree.specs.Machine.{Typed}
use Rattle.law_effect.specs.Effect.{Fixed, nest_calls}
use Rattle.typed_tree.specs.declared.typed_module.Routine.{Routine}
use Rattle.typed_tree.specs.declared.typed_module.TypedModule.{TypedModule}
use Rattle.layout_storage.specs.Types.{Ty}
use Rattle.def_meaning.specs.Store.{Location}
use Rattle.def_meaning.specs.Environment.{Modules, Environment, Frames}
use Rattle.def_scheme.specs.Functions.{setting}
use Rattle.def_scheme.specs.Modules.{numbering_of}
use Rattle.law_simulation.specs.Begun.{calling}
use Rattle.law_simulation.specs.Scene.{Scene}
use Rattle.law_simulation.specs.Frames.{Kinds}
use Rattle.law_simulation.specs.Passing.{forms_of, result_of, DoesAsked}
use Rattle.law_simulation.specs.ProceduresLaws.{IsProcedure, IsFunction, DoesBody, callee_of}

-- a procedure of a module, and the function that it has
pub record Part : Type 0 where
  pub own : ℕ  -- the module of the function
  pub place : ℕ  -- the module of the procedure, in start order
  pub home : TypedModule
  pub routine : Routine
  pub outer : List Ty  -- the frames around its own
  pub text : ℕ  -- where its texts begin
  pub kinds : List Kinds
  pub function : ℕ
  pub typed : Typed

module _ (modules : List WModule) (fx : Fixed) (serves : (k f : ℕ) → Bool) (extra : (k f : ℕ) → ℕ)
    (n limit : ℕ) (p : Modules) (base : List Ty) (texts : Location → ℕ → ℕ) where
  abbrev pub nowhere : (place : ℕ) → TypedModule → Environment
  nowhere place m =
      record { place = place; types = m.types; frames = []; withs = []; next = 0; free = 0 }

  -- what all scenes in a module have in common, if calls nest so deep
  abbrev pub core : (own place : ℕ) → TypedModule → (d : ℕ) → Scene
  core own place m d = record {
    modules = modules;
    fixed = fx;
    own = own;
    extra = extra;
    turns = n;
    functions = nest_calls modules fx serves extra n d;
    program = p;
    result = None;
    around = nowhere place m;
    setting = setting m [] 0 0;
    world = [];
    hidden = λ l j. 0;
    limit = limit;
    locals = 0;
    kept = λ w. None;
  }

  abbrev pub PartDoes : (d : ℕ) → Part → Type 0
  PartDoes d o =
      (nss : Frames)
      → DoesAsked p base texts limit (nest_calls modules fx serves extra n d) (calling p n d)
      (callee_of o.place o.home o.routine nss) o.kinds (forms_of o.home.types o.routine.heading)
      (result_of o.home.types o.routine.heading) o.own o.function o.typed

  module _ (Index : Type 0) (part : Index → Part) where
    abbrev pub AllDo : (d : ℕ) → Type 0
    AllDo d = (i : Index) → PartDoes d (part i)

    -- the function is the scheme's, and its body does what the definition says if all functions do
    -- what is asked
    pub record IsPart (i : Index) : Type 0 where
      pub procedure : (d : ℕ)
          → IsProcedure (core (part i).own (part i).place (part i).home d) (part i).home
          (part i).routine (part i).outer (part i).kinds
      pub function : IsFunction (numbering_of (part i).home) (part i).home (part i).routine
          (part i).outer (part i).text (part i).typed
      pub ours : serves (part i).own (part i).function ≡ false
      pub bound : extra (part i).own (part i).function ≡ 0
      pub body : (d : ℕ)
          → AllDo d
          → DoesBody (core (part i).own (part i).place (part i).home d) p (calling p n d)
          (numbering_of (part i).home) (part i).home (part i).place (part i).routine (part i).outer
          (part i).text (part i).kinds base texts

    abbrev pub Knot : Type 0
    Knot = ((i : Index) → IsPart i) → (d : ℕ) → AllDo d
