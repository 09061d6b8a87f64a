-- The function of a module's body does what its statements do.
use Rattle.std.specs.Prelude.{◌≡◌, ℕ, suc, ◌+◌, ◌-◌, Bool, false, List, [], ◌∷◌, ◌++◌, length}
use Rattle.wasm_tree.specs.declared.instr.Instr.{Instr}
use Rattle.wasm_tree.specs.declared.module.WModule.{WModule}
use Rattle.wasm_tree.specs.Machine.{Typed}
use Rattle.law_effect.specs.Effect.{Fixed, nest_calls}
use Rattle.typed_tree.specs.declared.typed_module.TypedModule.{TypedModule}
use Rattle.layout_storage.specs.Types.{Ty, row, frame_of}
use Rattle.layout_storage.specs.Sizes.{size, offset}
use Rattle.def_meaning.specs.Store.{Location, overlay}
use Rattle.def_meaning.specs.Environment.{Modules, Environment}
use Rattle.def_meaning.specs.Expressions.{Asks}
use Rattle.def_meaning.specs.Runs.{body_environment, body_frame, storage}
use Rattle.def_scheme.specs.Coded.{Coded, Counts}
use Rattle.def_scheme.specs.Addresses.{addresses_in}
use Rattle.def_scheme.specs.Functions.{setting, from_text, locals_of, enter_code, function_code}
use Rattle.def_scheme.specs.Modules.{numbering_of}
use Rattle.law_simulation.specs.Begun.{body_does, calling}
use Rattle.law_simulation.specs.Bodies.{BodyDoes, statements_do}
use Rattle.law_simulation.specs.Scene.{Scene, HasHelpers, AreSmall, IsSet, Executes}
use Rattle.law_simulation.specs.Frames.{HasFrames}
use Rattle.law_simulation.specs.Passing.{HasTop}
use Rattle.law_simulation.specs.Stage.{HasLimit}
use Rattle.law_simulation.specs.ProceduresLaws.{kept_in}
use Rattle.law_simulation.specs.Knot.{core}

-- ---- the body of a module

-- its frame has the reserved bytes alone
abbrev pub body_row : Ty
body_row = frame_of []

abbrev pub coded_main : TypedModule → (text : ℕ) → List Instr × Counts
coded_main m text = function_code (numbering_of m) m (body_row ∷ []) 1 text m.body

abbrev pub locals_main : TypedModule → (text : ℕ) → ℕ
locals_main m text = 1 + (2 + (coded_main m text).1.addresses + (coded_main m text).1.numbers)

-- where it runs
abbrev pub main_scene : Scene → TypedModule → (text : ℕ) → (base : List Ty)
    (texts : Location → ℕ → ℕ) → Environment → Scene
main_scene k m text base texts a = record k {
  around = a;
  setting = setting m (body_row ∷ []) 1 (addresses_in m.body);
  world = base ++ body_row ∷ [];
  hidden = overlay (length base ∷ []) (λ q j. 0) texts;
  locals = locals_main m text;
  kept = kept_in (offset (row (base ++ body_row ∷ [])) (length base ∷ []))
      (size (row (base ++ body_row ∷ []))) 1;
}

-- the function is the scheme's, and the body does what the definition says
pub record IsMain (k : Scene) (p : Modules) (ask : Asks) (m : TypedModule) (place text : ℕ)
    (base : List Ty) (texts : Location → ℕ → ℕ) (left : ℕ) (t : Typed) : Type 0 where
  pub helpers : HasHelpers k
  pub limit : HasLimit k
  pub small : AreSmall m.types
  pub locals : t.function.body.locals ≡ locals_of (coded_main m text).1
  pub code : t.function.body.code ≡ enter_code 1 (size body_row) ++ ((coded_main m text).0 ++ [])
  pub addresses : (coded_main m text).1.addresses ≡ addresses_in m.body
  -- the code with its texts where they are
  pub placed : Coded
  pub same : placed (setting m (body_row ∷ []) 1 (addresses_in m.body)) (from_text text)
      ≡ coded_main m text
  pub executes : IsSet (main_scene k m text base texts (body_environment p place m left))
      → HasFrames (main_scene k m text base texts (body_environment p place m left)) []
      → HasTop (main_scene k m text base texts (body_environment p place m left)) base texts
      → Executes (main_scene k m text base texts (body_environment p place m left)) false placed
      (body_does p k.turns ask m.body)

-- The function of a body does what its statements do.
abbrev pub MainDoes : Type 0
MainDoes =
    (modules : List WModule) (fx : Fixed) (serves : (k f : ℕ) → Bool) (extra : (k f : ℕ) → ℕ)
    (limit : ℕ) (p : Modules) (pages : ℕ) (base : List Ty) (texts : Location → ℕ → ℕ)
    (n own place text f : ℕ) (m : TypedModule) (t : Typed)
    → length base ≡ length p
    → size (row base) + ((storage p pages - body_frame) + body_frame) ≡ limit
    → serves own f ≡ false
    → extra own f ≡ 0
    → IsMain (core modules fx serves extra n limit p base texts own place m n) p (calling p n n) m
    place text base texts (storage p pages - body_frame) t
    → BodyDoes (record { program = p; base = base; texts = texts; limit = limit })
    (nest_calls modules fx serves extra n (suc n)) (statements_do p pages n place m) own f t
