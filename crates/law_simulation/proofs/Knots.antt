-- By induction on the depth of calls.
use Rattle.std.proofs.Common.{◌≡◌, ℕ, zero, suc, ◌+◌, Bool, false, List, [], ◌++◌, length, if◌then◌else◌, refl, ap, ◌∙◌, arith}
use Rattle.std.specs.List.{flat_map}
use Rattle.wasm_tree.specs.declared.module.WModule.{WModule}
use Rattle.wasm_tree.specs.declared.store.Value.{Value}
use Rattle.wasm_tree.specs.Machine.{Typed, zeros}
use Rattle.law_effect.specs.Effect.{Fixed, StillRunning, State as Target, back, effect, nest_calls, calling as helping}
use Rattle.layout_storage.specs.Types.{Ty}
use Rattle.def_meaning.specs.Store.{Location}
use Rattle.def_meaning.specs.Environment.{Modules}
use Rattle.def_scheme.specs.Modules.{numbering_of}
use Rattle.def_meaning.specs.Whiles.{calling_with}
use Rattle.law_simulation.specs.Begun.{calling}
use Rattle.law_simulation.proofs.Routines.{routine_does}
use Rattle.law_simulation.specs.Knot.{Part, core, Knot}

module _ (modules : List WModule) (fx : Fixed) (serves : (k f : ℕ) → Bool) (extra : (k f : ℕ) → ℕ) (n limit : ℕ)
    (p : Modules) (base : List Ty) (texts : Location → ℕ → ℕ) where
  -- calls that nest no deeper still run
  none_left : (k f : ℕ) (t : Typed) (args : List Value) (bytes out : List ℕ) → serves k f ≡ false
      → nest_calls modules fx serves extra n 0 k f t args bytes out ≡ StillRunning out
  unfolding nest_calls
  none_left k f t args bytes out e = ap (λ (b : Bool). if b then helping modules fx extra n (suc (suc n)) k f t args
      bytes out else StillRunning out) e

  pub one_more : (d k f : ℕ) (t : Typed) (args : List Value) (bytes out : List ℕ) → serves k f ≡ false → extra k f ≡ 0
      → nest_calls modules fx serves extra n (suc d) k f t args bytes out
      ≡ effect modules fx n (nest_calls modules fx serves extra n d) k t.function.body.code
      (record { locals = args ++ flat_map zeros t.function.body.locals; bytes = bytes; out = out }) []
  unfolding nest_calls
  one_more d k f t args bytes out e bound =
      let start : Target = record { locals = args ++ flat_map zeros t.function.body.locals; bytes = bytes; out = out }
      in
      let same : n + extra k f ≡ n = omega (arith, bound) in
      ap (λ (b : Bool). if b then helping modules fx extra n (suc (suc n)) k f t args bytes out else effect modules fx
      (n + extra k f) (nest_calls modules fx serves extra n d) k t.function.body.code start []) e
      ∙ ap (λ (j : ℕ). effect modules fx j (nest_calls modules fx serves extra n d) k t.function.body.code start [])
      same

  module _ (Index : Type 0) (part : Index → Part) where
    pub knot : Knot modules fx serves extra n limit p base texts Index part
    unfolding calling_with
    knot are zero i nss = λ world x based roots chain s bytes holds long vs values passed left whole locals below.
        ap (back (length (part i).typed.type.results) locals below)
        (none_left (part i).own (part i).function (part i).typed _ bytes s.out (are i).ours)
    knot are (suc d) i nss =
        let o : Part = part i in
        let is = are i in
        routine_does (core modules fx serves extra n limit p base texts o.own o.place o.home d) p (calling p n d)
        (calling p n (suc d)) (nest_calls modules fx serves extra n (suc d)) (numbering_of o.home) o.home o.place
        o.routine o.outer o.text o.kinds base texts o.function o.typed
        (is.procedure d) is.function (is.body d (knot are d))
        (λ args bytes out. one_more d o.own o.function o.typed args bytes out is.ours is.bound) nss
        (λ vs next left s. refl)
