-- The arguments of a call that is next, where a run is well typed.
use Rattle.std.proofs.Common.{◌≡◌, ℕ, List, ◌∷◌, ◌++◌, map, Some, sym, ap, subst, ◌∙◌, append_assoc}
use Rattle.std.specs.Prelude.{slice_get}
use Rattle.std.specs.Option.{option_and_then}
use Rattle.std.proofs.lemmas.List.{append-nil}
use Rattle.wasm_tree.specs.declared.kinds.ValueType.{ValueType}
use Rattle.wasm_tree.specs.declared.kinds.FuncType.{FuncType}
use Rattle.wasm_tree.specs.declared.instr.Instr.{Instr}
use Rattle.wasm_tree.specs.declared.instr.Instr.TheOpen as layer
use Rattle.wasm_tree.specs.declared.instr.Instr.TheVariants as instr
use Rattle.wasm_tree.specs.declared.instr.Instr.TheVariants.{outs-Call}
use Rattle.wasm_tree.specs.declared.module.WModule.{WModule}
use Rattle.wasm_tree.specs.declared.store.Value.{Value}
use Rattle.wasm_tree.specs.declared.store.Callee.TheVariants.{Own}
use Rattle.wasm_tree.specs.declared.store.Instance.{Instance}
use Rattle.wasm_tree.specs.declared.store.Store.{Store}
use Rattle.wasm_tree.specs.Validity.{Context, context, Leads}
use Rattle.wasm_tree.specs.Machine.{Activation, Typed, instance_of, callee_at, callee_type, own_function}
use Rattle.wasm_tree.specs.Linking.{type_of}
use Rattle.wasm_sound.specs.Sound.{IsFunctionAt, IsGoing}
use Rattle.wasm_sound.proofs.Lists.{same_at, parts, pair_at}
use Rattle.wasm_sound.proofs.Rules.{Layered, layered, first_of}
use Rattle.wasm_sound.proofs.Scenes.{Scene, names, instance_at}
use Rattle.wasm_sound.proofs.Calls.{some_then}

module _ (modules : List WModule) (st : Store) (now : Activation) (callers : List Activation)
    (h : IsGoing modules st now callers) where
  -- they are on top, and of the types that the function asks for
  pub arguments : (g m f : ℕ) (rest : List Instr) (t : Typed) → now.rest ≡ instr.Call g ∷ rest
      → callee_at st now.instance g ≡ Some (Own m f) → own_function modules m f ≡ Some t
      → (below args : List Value) × (now.stack ≡ below ++ args) × (map type_of args ≡ t.type.params)
  arguments g m f rest t e at is =
      let inner = h.running.inner in
      let a : Activation = record now { rest = rest } in
      let x = first_of inner.context (instr.Call g) rest h.running.above inner.gives
      (subst (λ (is : List Instr). Leads inner.context is h.running.above inner.gives) e h.running.leads) in
      let y : Layered inner.context (layer.Call g) x.1 x.2 =
      subst (λ (l : layer.Instr-F Instr). Layered inner.context l x.1 x.2) (outs-Call g)
      (layered inner.context (instr.Call g) x.1 x.2 x.4) in
      let s : Scene modules a h.returns inner x.1 x.2 = record {
        context = h.running.context;
        frame = h.running.frame;
        labels = h.running.labels;
        lower = x.0;
        stack = sym (append-nil (map type_of now.stack)) ∙ h.running.stack
            ∙ ap (λ (l : List ValueType). inner.below ++ l) x.3;
        leads = x.5;
      } in
      let known = names modules a h.returns inner x.1 x.2 s in
      let instance = instance_at modules a h.returns inner x.1 x.2 s st h.store in
      let found = pair_at (IsFunctionAt modules st s.frame.tree) (context s.frame.tree).functions instance.0.functions g
      y.0 instance.2.functions (ap (λ (c : Context). slice_get c.functions g) (sym known) ∙ y.2) in
      let same : found.2.0 ≡ y.1 = same_at (slice_get s.frame.tree.types y.0) found.2.0 y.1 found.2.1
      (ap (λ (c : Context). slice_get c.types y.0) (sym known) ∙ y.3) in
      let callee = found.2.2 in
      let there : callee_at st now.instance g ≡ Some callee.0 =
      some_then (λ (j : Instance). option_and_then (λ (b : ℕ). slice_get st.functions b) (slice_get j.functions g))
      (instance_of st now.instance) instance.0 callee.0 instance.1
      (some_then (λ (b : ℕ). slice_get st.functions b) (slice_get instance.0.functions g) found.0 callee.0 found.1
      callee.1) in
      let one : callee.0 ≡ Own m f = same_at (callee_at st now.instance g) callee.0 (Own m f) there at in
      let type : callee_type modules (Own m f) ≡ Some y.1 = ap (callee_type modules) (sym one) ∙ callee.2
      ∙ ap (λ (u : FuncType). Some u) same in
      let asked : t.type ≡ y.1 = same_at (callee_type modules (Own m f)) t.type y.1
      (ap (option_and_then (λ (u : Typed). Some u.type)) is) type in
      let cut = parts type_of now.stack (inner.below ++ s.lower) x.1
      (s.stack ∙ sym (append_assoc inner.below s.lower x.1)) in
      (cut.0, cut.1, cut.2, cut.4 ∙ y.4.0 ∙ ap (λ (u : FuncType). u.params) (sym asked))
