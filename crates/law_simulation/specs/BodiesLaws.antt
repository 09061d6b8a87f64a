-- The functions of a program do what is asked and what its bodies do, if its bodies are typed and
-- its modules linked.
use Rattle.std.specs.Prelude.{◌≡◌, ℕ, suc, ◌+◌, ◌-◌, Bool, false, List, [], ◌∷◌, length, None, Some, slice_get}
use Rattle.wasm_tree.specs.declared.module.WModule.{WModule}
use Rattle.law_effect.specs.Effect.{Fixed, nest_calls}
use Rattle.typed_tree.specs.declared.typed_module.Which.TheVariants as which
use Rattle.typed_tree.specs.declared.typed_module.TypedModule.{TypedModule}
use Rattle.layout_storage.specs.Types.{Ty, row}
use Rattle.layout_storage.specs.Sizes.{size}
use Rattle.layout_storage.specs.Texts.{characters, routines_texts}
use Rattle.def_meaning.specs.Store.{Location}
use Rattle.def_meaning.specs.Environment.{Modules}
use Rattle.def_meaning.specs.Runs.{storage, body_frame}
use Rattle.def_scheme.specs.Addresses.{addresses_in}
use Rattle.def_scheme.specs.Functions.{frames_around}
use Rattle.def_scheme.specs.Modules.{numbering_of}
use Rattle.law_simulation.specs.Begun.{calling}
use Rattle.law_simulation.specs.Scene.{HasHelpers, AreSmall}
use Rattle.law_simulation.specs.Frames.{kinds_of}
use Rattle.law_simulation.specs.Passing.{result_of}
use Rattle.law_simulation.specs.StmtsTyped.{AreStmts}
use Rattle.law_simulation.specs.Bodies.{BodyDoes, statements_do}
use Rattle.law_simulation.specs.RunsPrograms.{body_typed}
use Rattle.law_simulation.specs.Stage.{HasLimit}
use Rattle.law_simulation.specs.ProceduresLaws.{IsProcedure, coded_body}
use Rattle.law_simulation.specs.Knot.{core, AllDo, IsPart}
use Rattle.law_simulation.specs.Main.{coded_main, IsMain}
use Rattle.law_simulation.specs.Linked.{Spot, function_of, environment_of, text_of, part_of, context, IsLinked}

module _ (modules : List WModule) (fx : Fixed) (serves : (k f : ℕ) → Bool) (extra : (k f : ℕ) → ℕ)
    (n limit : ℕ) (p : Modules) (base : List Ty) (texts : Location → ℕ → ℕ) where
  -- all modules are linked
  abbrev pub AreLinked : Type 0
  AreLinked =
      (place : ℕ) (m : TypedModule) → slice_get p place ≡ Some m
      → IsLinked p base texts modules fx place m

  -- a procedure whose body is typed. Its code keeps as many addresses as were counted.
  pub record IsTypedRoutine (o : Spot p) : Type 0 where
    pub procedure : (d : ℕ)
        → IsProcedure
        (core modules fx serves extra n limit p base texts (suc o.place) o.place o.home d) o.home
        o.routine (frames_around o.home o.routine.level o.routine.around)
        (environment_of o.home o.routine)
    -- a procedure of the module itself stands in no other
    pub outermost : (number : ℕ) → o.at ≡ which.Module number → environment_of o.home o.routine ≡ []
    pub addresses : (coded_body (numbering_of o.home) o.home o.routine
        (frames_around o.home o.routine.level o.routine.around) (text_of o.home o.at)).1.addresses
        ≡ addresses_in o.routine.body
    pub ours : serves (suc o.place) (function_of o.home o.at) ≡ false
    pub bound : extra (suc o.place) (function_of o.home o.at) ≡ 0
    pub to : ℕ
    pub typed : AreStmts
        (context p base texts o.place o.home
        (kinds_of o.home.types o.routine ∷ environment_of o.home o.routine))
        (result_of o.home.types o.routine.heading) [] false (text_of o.home o.at) to o.routine.body

  abbrev pub AreTyped : Type 0
  AreTyped = (o : Spot p) → IsTypedRoutine o

  -- a module whose body is typed. Its texts stand behind the texts of the procedures.
  pub record IsTypedMain (place : ℕ) (m : TypedModule) : Type 0 where
    pub there : slice_get p place ≡ Some m
    pub helpers :
        HasHelpers (core modules fx serves extra n limit p base texts (suc place) place m n)
    pub limited : HasLimit (core modules fx serves extra n limit p base texts (suc place) place m n)
    pub small : AreSmall m.types
    pub addresses : (coded_main m (characters (routines_texts m))).1.addresses ≡ addresses_in m.body
    pub to : ℕ
    pub typed : AreStmts (context p base texts place m []) None [] false
        (characters (routines_texts m)) to m.body

-- each procedure is a part whose body does what the definition says
abbrev pub Parts : Type 0
Parts =
    (modules : List WModule) (fx : Fixed) (serves : (k f : ℕ) → Bool) (extra : (k f : ℕ) → ℕ)
    (n limit : ℕ) (p : Modules) (base : List Ty) (texts : Location → ℕ → ℕ)
    → AreLinked modules fx serves extra n limit p base texts
    → AreTyped modules fx serves extra n limit p base texts
    → (o : Spot p)
    → IsPart modules fx serves extra n limit p base texts (Spot p) part_of o

-- so does the body of each module, if all functions do what is asked
abbrev pub Mains : Type 0
Mains =
    (modules : List WModule) (fx : Fixed) (serves : (k f : ℕ) → Bool) (extra : (k f : ℕ) → ℕ)
    (n limit : ℕ) (p : Modules) (base : List Ty) (texts : Location → ℕ → ℕ)
    → AreLinked modules fx serves extra n limit p base texts
    → AreTyped modules fx serves extra n limit p base texts
    → AllDo modules fx serves extra n limit p base texts (Spot p) part_of n
    → (place : ℕ) (m : TypedModule)
    → IsTypedMain modules fx serves extra n limit p base texts place m
    → (left : ℕ)
    → IsMain (core modules fx serves extra n limit p base texts (suc place) place m n) p
    (calling p n n) m place (characters (routines_texts m)) base texts left (body_typed m)

-- and then the function of each body does what its statements do, with calls to every depth
abbrev pub TypedBodies : Type 0
TypedBodies =
    (modules : List WModule) (fx : Fixed) (serves : (k f : ℕ) → Bool) (extra : (k f : ℕ) → ℕ)
    (n limit : ℕ) (p : Modules) (pages : ℕ) (base : List Ty) (texts : Location → ℕ → ℕ)
    → length base ≡ length p
    → size (row base) + ((storage p pages - body_frame) + body_frame) ≡ limit
    → AreLinked modules fx serves extra n limit p base texts
    → AreTyped modules fx serves extra n limit p base texts
    → (place : ℕ) (m : TypedModule)
    → IsTypedMain modules fx serves extra n limit p base texts place m
    → serves (suc place) 5 ≡ false
    → extra (suc place) 5 ≡ 0
    → BodyDoes (record { program = p; base = base; texts = texts; limit = limit })
    (nest_calls modules fx serves extra n (suc n)) (statements_do p pages n place m) (suc place) 5
    (body_typed m)
