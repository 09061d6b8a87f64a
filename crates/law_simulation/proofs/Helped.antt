-- The helpers of a module are where its code looks for them.
use Rattle.std.proofs.Common.{◌≡◌, ℕ, zero, suc, ◌+◌, ◌*◌, ◌<◌, ◌≤◌, ◌^◌, Bool, true, List, [], ◌∷◌, ◌++◌, length, Option, Some, if◌then◌else◌, ap, arith}
use Rattle.std.specs.Prelude.{slice_get}
use Rattle.std.specs.Option.{option_and_then}
use Rattle.std.proofs.lemmas.Bool.{lt-ltb}
use Rattle.wasm_tree.specs.declared.module.Function.{Function}
use Rattle.wasm_tree.specs.declared.module.WModule.{WModule}
use Rattle.wasm_tree.specs.declared.store.Callee.TheVariants.{Own}
use Rattle.wasm_tree.specs.declared.store.Value.{Value}
use Rattle.wasm_tree.specs.Machine.{Typed, own_function, callee_at, enter_function}
use Rattle.law_effect.specs.Effect.{StillRunning, store_of, effect, nest_calls, calling, State as Target}
use Rattle.typed_tree.specs.declared.typed_module.TypedModule.{TypedModule}
use Rattle.layout_storage.specs.Types.{Ty}
use Rattle.def_meaning.specs.Store.{Location}
use Rattle.def_scheme.specs.Modules.{typed_module}
use Rattle.law_modules.specs.Linked.{Program, all, count}
use Rattle.law_modules.proofs.Placed.{enough}
use Rattle.law_simulation.specs.Scene.{Scene, HasHelpers}
use Rattle.law_simulation.specs.Stage.{HasLimit}
use Rattle.law_simulation.specs.Knot.{core}
use Rattle.law_simulation.specs.RunsPrograms.{fixtures_of}
use Rattle.law_simulation.specs.BodiesPrograms.{serving, more_turns}
use Rattle.law_simulation.proofs.LinkedPlaces.{own, module_there, callee_there, put_there, stop_there, memory_there, limit_there}

-- a function of a module, with its type
abbrev pub function_in : (f : ℕ) → Option WModule → Option Typed
function_in f o =
    option_and_then (λ (tree : WModule). option_and_then
    (λ (function : Function). option_and_then (λ t. Some (record { type = t; function = function }))
    (slice_get tree.types function.type_index)) (slice_get tree.functions f)) o

serves_five : (k f : ℕ) → f < 5 → serving (suc k) f ≡ true
serves_five k f h = lt-ltb f 5 h

extra_five : (k f : ℕ) → f < 5 → more_turns (suc k) f ≡ 2 ^ 32
extra_five k f h = ap (λ (b : Bool). if b then 2 ^ 32 else 0) (serves_five k f h)

module _ (p : Program) (pages : ℕ) (before rest : Program) (m : TypedModule) (is : p ≡ before ++ m ∷ rest) where
  abbrev me : ℕ
  me = own p pages before rest m is

  -- what the function f of the module is
  pub function_there : (f : ℕ) → own_function (all p pages) me f ≡ function_in f (Some (typed_module m))
  function_there f = ap (function_in f) (module_there p pages before rest m is)

  five : 5 < count m
  five = let h = enough m in omega (arith, h)

  at : (bytes : List ℕ) (j : ℕ) → j < 5 → callee_at (store_of (fixtures_of p pages) bytes) me (suc (suc j))
      ≡ Some (Own me j)
  at bytes j h = callee_there p pages before rest m is bytes j (let few = five in omega (arith, h, few))

  module _ (base : List Ty) (texts : Location → ℕ → ℕ) (place n d : ℕ) where
    abbrev pub here : Scene
    here = core (all p pages) (fixtures_of p pages) serving more_turns n (65536 * pages) p base texts me place m d

    serve : (e : ℕ) (f : ℕ) → f < 5 → (t : Typed) (args : List Value) (bytes out : List ℕ)
        → nest_calls (all p pages) (fixtures_of p pages) serving more_turns n e me f t args bytes out
        ≡ calling (all p pages) (fixtures_of p pages) more_turns n (suc (suc n)) me f t args bytes out
    unfolding nest_calls
    serve zero f h t args bytes out = ap (λ (b : Bool). if b then calling (all p pages) (fixtures_of p pages) more_turns
        n (suc (suc n)) me f t args bytes out else StillRunning out) (serves_five (length before) f h)
    serve (suc e) f h t args bytes out =
        let start : Target = record { locals = (enter_function me t args).locals; bytes = bytes; out = out } in
        ap (λ (b : Bool). if b then calling (all p pages) (fixtures_of p pages) more_turns n (suc (suc n)) me f t args
        bytes out else effect (all p pages) (fixtures_of p pages) (n + more_turns me f)
        (nest_calls (all p pages) (fixtures_of p pages) serving more_turns n e) me t.function.body.code start [])
        (serves_five (length before) f h)

    pub has_helpers : HasHelpers here
    has_helpers = record {
      memory = memory_there p pages before rest m is;
      put = put_there p pages before rest m is;
      stop = stop_there p pages before rest m is;
      check = λ bytes. at bytes 2 (omega arith);
      check_index = 3;
      check_there = function_there 2;
      quotient = λ bytes. at bytes 3 (omega arith);
      quotient_index = 4;
      quotient_there = function_there 3;
      remainder = λ bytes. at bytes 4 (omega arith);
      remainder_index = 4;
      remainder_there = function_there 4;
      copy = λ bytes. at bytes 0 (omega arith);
      copy_index = 1;
      copy_there = function_there 0;
      fill = λ bytes. at bytes 1 (omega arith);
      fill_index = 2;
      fill_there = function_there 1;
      levels = n;
      serves = serve d;
      many = λ f h. let e = extra_five (length before) f (omega (arith, h)) in omega (arith, e);
    }

    pub has_limit : pages ≤ 1024 → HasLimit here
    has_limit h = record { there = limit_there p pages before rest m is; small = omega (arith, h) }
