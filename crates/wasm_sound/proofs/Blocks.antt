-- Blocks begin.
use Rattle.std.proofs.Common.{◌≡◌, ℕ, Bool, true, false, List, [], ◌∷◌, ◌++◌, length, map, Option, Some, None, refl, sym, ap, ◌∙◌}
use Rattle.std.specs.Prelude.{◌==◌}
use Rattle.std.proofs.lemmas.List.{append-nil, length-map}
use Rattle.wasm_tree.specs.declared.kinds.ValueType.{ValueType}
use Rattle.wasm_tree.specs.declared.kinds.ValueType.TheVariants as types
use Rattle.wasm_tree.specs.declared.instr.Instr.{Instr}
use Rattle.wasm_tree.specs.declared.instr.Instr.TheOpen as layer
use Rattle.wasm_tree.specs.declared.module.WModule.{WModule}
use Rattle.wasm_tree.specs.declared.store.Value.{Value}
use Rattle.wasm_tree.specs.declared.store.Value.TheVariants.{I32}
use Rattle.wasm_tree.specs.declared.store.Store.{Store}
use Rattle.wasm_tree.specs.Validity.{Context, Types, Leads, More, within, result_types, side_of}
use Rattle.wasm_tree.specs.Machine.{Label, Activation, top_i32, inside, results_of, side}
use Rattle.wasm_tree.specs.Linking.{type_of}
use Rattle.wasm_sound.specs.Sound.{Level, Opens, outermost, IsActivation}
use Rattle.wasm_sound.proofs.Lists.{through_push}
use Rattle.wasm_sound.proofs.Operands.{one_is_i32, top_i32_at}
use Rattle.wasm_sound.proofs.Scenes.{Outside, Scene, Works, going, or_trap_at, operands}

one_result : (t : Option ValueType) → results_of t ≡ length (result_types t)
one_result None = refl
one_result (Some t) = refl

chosen : (c : Context) (b : Bool) (n : ℕ) (body : List Instr) (otherwise : Option (List Instr)) (r : List ValueType)
    → (n == 0) ≡ b → Leads c body [] r → Leads c (side_of otherwise) [] r → Leads c (side n body otherwise) [] r
chosen c true n body None r e h g = rw e g
chosen c false n body None r e h g = rw e h
chosen c true n body (Some other) r e h g = rw e g
chosen c false n body (Some other) r e h g = rw e h

module _ (modules : List WModule) (a : Activation) (returns : List ValueType) (inner : Level) (p r : List ValueType)
    (s : Scene modules a returns inner p r) where
  -- within the block
  inside_typed : (us : List Value) (taken : List ValueType) (arity : ℕ) (again body : List Instr)
      → map type_of us ≡ inner.below ++ s.lower → arity ≡ length taken
      → Leads inner.context again (s.lower ++ taken) inner.gives → Leads (within taken inner.context) body [] r
      → IsActivation modules returns (record a {
        stack = us;
        labels = a.labels ++ record { arity = arity; height = length us; again = again; rest = a.rest }
            ∷ [];
        rest = body;
      }) []
  inside_typed us taken arity again body e n back h =
      let below = inner.below ++ s.lower in
      let deep : Level = record { context = within taken inner.context; gives = r; below = below } in
      let new : Label = record { arity = arity; height = length us; again = again; rest = a.rest } in
      let opens : Opens inner new deep = record {
        taken = taken;
        between = s.lower;
        context = refl;
        below = refl;
        arity = n;
        height = sym (length-map us type_of) ∙ ap length e;
        again = back;
        rest = s.leads;
      } in
      record {
        context = s.context;
        inner = deep;
        above = [];
        frame = s.frame;
        labels = through_push Opens a.labels new (outermost s.context) inner deep s.labels opens;
        stack = append-nil (map type_of us) ∙ (e ∙ sym (append-nil below));
        leads = h;
      }

module _ (modules : List WModule) (st : Store) (a : Activation) (callers : List Activation) (returns : List ValueType)
    (inner : Level) (o : Outside modules st callers returns) (i : Instr) where
  pub block : (t : Option ValueType) (body : List Instr)
      → Leads (within (result_types t) inner.context) body [] (result_types t)
      → Scene modules a returns inner [] (result_types t) → Works modules st a callers i (layer.Block t body)
  block t body h s =
      let e : map type_of a.stack ≡ inner.below ++ s.lower = s.stack
      ∙ ap (λ (l : List ValueType). inner.below ++ l) (append-nil s.lower) in
      let new = inside_typed modules a returns inner [] (result_types t) s a.stack (result_types t) (results_of t)
      a.rest body e (one_result t) s.leads h in
      (tt, going modules st callers returns _ o new)

  pub loop : (t : Option ValueType) (body : List Instr) → Types inner.context i [] (result_types t)
      → Leads (within [] inner.context) body [] (result_types t) → Scene modules a returns inner [] (result_types t)
      → Works modules st a callers i (layer.Loop t body)
  loop t body again h s =
      let e : map type_of a.stack ≡ inner.below ++ s.lower = s.stack
      ∙ ap (λ (l : List ValueType). inner.below ++ l) (append-nil s.lower) in
      let new = inside_typed modules a returns inner [] (result_types t) s a.stack [] 0 (i ∷ a.rest) body e refl
      (More inner.context i a.rest s.lower [] (result_types t) inner.gives again s.leads) h in
      (tt, going modules st callers returns _ o new)

  pub conditional : (t : Option ValueType) (body : List Instr) (otherwise : Option (List Instr))
      → Leads (within (result_types t) inner.context) body [] (result_types t)
      → Leads (within (result_types t) inner.context) (side_of otherwise) [] (result_types t)
      → Scene modules a returns inner (types.I32 ∷ []) (result_types t)
      → Works modules st a callers i (layer.If t body otherwise)
  conditional t body otherwise h g s =
      let on = operands modules a returns inner (types.I32 ∷ []) (result_types t) s in
      let n = one_is_i32 on.1 on.4 in
      let there : a.stack ≡ on.0 ++ I32 n.0 ∷ [] = on.2 ∙ ap (λ (l : List Value). on.0 ++ l) n.1 in
      let code = chosen (within (result_types t) inner.context) (n.0 == 0) n.0 body otherwise (result_types t) refl h g
      in
      let new = inside_typed modules a returns inner (types.I32 ∷ []) (result_types t) s on.0 (result_types t)
      (results_of t) a.rest (side n.0 body otherwise) on.3 (one_result t) s.leads code in (
        (on.0, n.0, there),
        or_trap_at modules (top_i32 a.stack) (on.0, n.0)
            (λ p. inside st (record a { stack = p.0 }) callers (results_of t) a.rest (side p.1 body otherwise))
            (ap top_i32 there ∙ top_i32_at on.0 n.0)
            (going modules st callers returns _ o new),
      )
