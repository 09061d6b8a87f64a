-- An instruction is about to begin.
use Rattle.std.proofs.Common.{◌≡◌, ℕ, zero, suc, ◌<◌, Bool, true, false, List, [], ◌∷◌, ◌++◌, length, map, Option, Some, None, refl, sym, ap, subst, ◌∙◌, append_assoc}
use Rattle.std.specs.Prelude.{slice_get, slice_set, if◌then◌else◌}
use Rattle.std.specs.Option.{option_and_then, option_map}
use Rattle.std.proofs.lemmas.List.{append-nil, map-append, map-set}
use Rattle.std.proofs.lemmas.Option.{none-some, same_Some, slice_get-map}
use Rattle.wasm_tree.specs.declared.kinds.ValueType.{ValueType}
use Rattle.wasm_tree.specs.declared.instr.Instr.{Instr}
use Rattle.wasm_tree.specs.declared.instr.Instr.TheOpen as layer
use Rattle.wasm_tree.specs.declared.module.WModule.{WModule}
use Rattle.wasm_tree.specs.declared.store.Value.{Value}
use Rattle.wasm_tree.specs.declared.store.Memory.{Memory}
use Rattle.wasm_tree.specs.declared.store.Instance.{Instance}
use Rattle.wasm_tree.specs.declared.store.Store.{Store}
use Rattle.wasm_tree.specs.Validity.{Context, context, function_context, Leads}
use Rattle.wasm_tree.specs.Machine.{Activation, Progress, or_trap, trap_now, begun_layer, global_at, memory_of, with_memory_bytes}
use Rattle.wasm_tree.specs.Linking.{type_of}
use Rattle.wasm_sound.specs.Sound.{Through, IsMemoryAt, IsGlobalAt, IsInstance, IsStore, Level, Opens, outermost, IsFrame, IsActivation, IsGoing, IsSound}
use Rattle.wasm_sound.specs.Ready.{IsReady}
use Rattle.wasm_sound.proofs.Lists.{some_at, at-map, parts, pair_at, pairs_imply}
use Rattle.wasm_sound.proofs.Levels.{bare, same_names}

-- what is round an activation that runs
pub record Outside (modules : List WModule) (st : Store) (callers : List Activation) (returns : List ValueType) : Type 0
  where
    pub store : IsStore modules modules st
    pub first : List ValueType
    pub waiting : Through (IsActivation modules) first callers returns

-- the operands that the next instruction takes are on top, and with those that it gives the rest of the code leads on
pub record Scene (modules : List WModule) (a : Activation) (returns : List ValueType) (inner : Level)
    (p r : List ValueType) : Type 0 where
  pub context : Context
  pub frame : IsFrame modules a.instance a.arity a.locals returns context
  pub labels : Through Opens (outermost context) a.labels inner
  pub lower : List ValueType
  pub stack : map type_of a.stack ≡ inner.below ++ (lower ++ p)
  pub leads : Leads inner.context a.rest (lower ++ r) inner.gives

-- the instruction finds what it needs, and leads to a configuration that is well typed
abbrev pub Works : List WModule → Store → Activation → List Activation → Instr → layer.Instr-F Instr → Type 0
Works modules st a callers i l = IsReady modules st a l × IsSound modules (begun_layer modules st a callers i l).0

-- ---- configurations

pub going : (modules : List WModule) (st : Store) (callers : List Activation) (returns : List ValueType)
    (now : Activation) → Outside modules st callers returns → IsActivation modules returns now []
    → IsGoing modules st now callers
going modules st callers returns now o h =
    record { store = o.store; first = o.first; returns = returns; waiting = o.waiting; running = h }

-- what is found leads on, or it traps
pub or_trap_sound : {A : Type 0} (modules : List WModule) (o : Option A) (go : A → Progress)
    → ((x : A) → o ≡ Some x → IsSound modules (go x).0) → IsSound modules (or_trap o go).0
or_trap_sound modules None go h = tt
or_trap_sound modules (Some x) go h = h x refl

pub or_trap_at : {A : Type 0} (modules : List WModule) (o : Option A) (x : A) (go : A → Progress) → o ≡ Some x
    → IsSound modules (go x).0 → IsSound modules (or_trap o go).0
or_trap_at {A} modules o x go e h = subst (λ (y : Option A). IsSound modules (or_trap y go).0) (sym e) h

pub if_sound : (modules : List WModule) (b : Bool) (p : Progress) → IsSound modules p.0
    → IsSound modules (if b then p else trap_now).0
if_sound modules true p h = h
if_sound modules false p h = tt

-- ---- operands

module _ (modules : List WModule) (a : Activation) (returns : List ValueType) (inner : Level) (p r : List ValueType)
    (s : Scene modules a returns inner p r) where
  pub operands : (us vs : List Value) × (a.stack ≡ us ++ vs) × (map type_of us ≡ inner.below ++ s.lower)
      × (map type_of vs ≡ p)
  operands = parts type_of a.stack (inner.below ++ s.lower) p (s.stack ∙ sym (append_assoc inner.below s.lower p))

  pub placed : (us ws : List Value) → map type_of us ≡ inner.below ++ s.lower → map type_of ws ≡ r
      → map type_of (us ++ ws) ≡ inner.below ++ (s.lower ++ r)
  placed us ws e g =
      map-append type_of us ws ∙ ap (λ (l : List ValueType). l ++ map type_of ws) e
      ∙ ap (λ (l : List ValueType). inner.below ++ s.lower ++ l) g ∙ append_assoc inner.below s.lower r

  pub goes_on : (vs : List Value) → map type_of vs ≡ inner.below ++ (s.lower ++ r)
      → IsActivation modules returns (record a { stack = vs }) []
  goes_on vs e = record {
    context = s.context;
    inner = inner;
    above = s.lower ++ r;
    frame = s.frame;
    labels = s.labels;
    stack = append-nil (map type_of vs) ∙ e;
    leads = s.leads;
  }

  pub replaced : (st : Store) (callers : List Activation) → Outside modules st callers returns → (us ws : List Value)
      → map type_of us ≡ inner.below ++ s.lower → map type_of ws ≡ r
      → IsGoing modules st (record a { stack = us ++ ws }) callers
  replaced st callers o us ws e g = going modules st callers returns (record a { stack = us ++ ws }) o
      (goes_on (us ++ ws) (placed us ws e g))

  -- ---- what names stand for

  pub names : bare inner.context ≡ bare (function_context (context s.frame.tree) s.frame.type s.frame.groups)
  names = same_names a.labels (outermost s.context) inner s.labels ∙ ap bare s.frame.context_is

  pub returned_is : inner.context.returns ≡ returns
  returned_is = ap (λ (c : Context). c.returns) names ∙ sym s.frame.returns_is

  pub locals_typed : inner.context.locals ≡ map type_of a.locals
  locals_typed = ap (λ (c : Context). c.locals) names ∙ sym s.frame.locals_are

  pub local_at : (x : ℕ) (t : ValueType) → slice_get inner.context.locals x ≡ Some t → (v : Value)
      × (slice_get a.locals x ≡ Some v) × (type_of v ≡ t)
  local_at x t e = at-map type_of a.locals x t (ap (λ (l : List ValueType). slice_get l x) (sym locals_typed) ∙ e)

  pub instance_at : (st : Store) → IsStore modules modules st → (i : Instance)
      × (slice_get st.instances a.instance ≡ Some i) × IsInstance modules st s.frame.tree i
  instance_at st h = pair_at (IsInstance modules st) modules st.instances a.instance s.frame.tree h.instances
      s.frame.module_is

  pub global_there : (st : Store) (g : ℕ) (t : ValueType) → IsStore modules modules st
      → slice_get inner.context.globals g ≡ Some t → (v : Value) × (global_at st a.instance g ≡ Some v)
      × (type_of v ≡ t)
  global_there st g t h e =
      let i = instance_at st h in
      let found = pair_at (IsGlobalAt st) (context s.frame.tree).globals i.0.globals g t i.2.globals
      (ap (λ (c : Context). slice_get c.globals g) (sym names) ∙ e) in (
        found.2.0,
        ap (λ (o : Option Instance). option_and_then
            (λ (x : Instance). option_and_then (λ (b : ℕ). slice_get st.globals b) (slice_get x.globals g)) o) i.1
            ∙ ap (λ (o : Option ℕ). option_and_then (λ (b : ℕ). slice_get st.globals b) o) found.1
            ∙ found.2.1,
        found.2.2,
      )

  pub memory_there : (st : Store) → IsStore modules modules st → 0 < length inner.context.memories → (m : ℕ × Memory)
      × (memory_of st a.instance ≡ Some m)
  memory_there st h some =
      let i = instance_at st h in
      let one = some_at inner.context.memories 0 some in
      let found = pair_at (IsMemoryAt st) (context s.frame.tree).memories i.0.memories 0 one.0 i.2.memories
      (ap (λ (c : Context). slice_get c.memories 0) (sym names) ∙ one.1) in (
        (found.0, found.2.0),
        ap (λ (o : Option Instance). option_and_then
            (λ (x : Instance). option_and_then (λ (b : ℕ). option_map (λ (memory : Memory). (b, memory))
            (slice_get st.memories b)) (slice_get x.memories 0)) o) i.1
            ∙ ap (λ (o : Option ℕ). option_and_then
            (λ (b : ℕ). option_map (λ (memory : Memory). (b, memory)) (slice_get st.memories b)) o) found.1
            ∙ ap (λ (o : Option Memory). option_map (λ (memory : Memory). (found.0, memory)) o) found.2.1,
      )

-- ---- what is written

pub set_there : {A : Type 0} (xs : List A) (k j : ℕ) (x y : A) → slice_get xs j ≡ Some x → (z : A)
    × (slice_get (slice_set xs k y) j ≡ Some z)
set_there [] k j x y e = absurd (none-some x e)
set_there (w ∷ xs) zero zero x y e = (y, refl)
set_there (w ∷ xs) zero (suc j) x y e = (x, e)
set_there (w ∷ xs) (suc k) zero x y e = (x, e)
set_there (w ∷ xs) (suc k) (suc j) x y e = set_there xs k j x y e

pub set_same : {A : Type 0} (xs : List A) (k : ℕ) (x : A) → slice_get xs k ≡ Some x → slice_set xs k x ≡ xs
set_same [] k x e = absurd (none-some x e)
set_same {A} (w ∷ xs) zero x e = ap (λ (y : A). y ∷ xs) (sym (same_Some w x e))
set_same {A} (w ∷ xs) (suc k) x e = ap (λ (ys : List A). w ∷ ys) (set_same xs k x e)

-- a local gets a value of its type
pub set_local : (modules : List WModule) (m arity : ℕ) (locals : List Value) (returns : List ValueType) (c : Context)
    (x : ℕ) (old v : Value) → slice_get locals x ≡ Some old → type_of v ≡ type_of old
    → IsFrame modules m arity locals returns c → IsFrame modules m arity (slice_set locals x v) returns c
set_local modules m arity locals returns c x old v e t f = record {
  tree = f.tree;
  type = f.type;
  groups = f.groups;
  module_is = f.module_is;
  context_is = f.context_is;
  returns_is = f.returns_is;
  arity_is = f.arity_is;
  locals_are =
      let there : slice_get (map type_of locals) x ≡ Some (type_of v) = slice_get-map type_of locals x
      ∙ ap (λ (o : Option Value). option_map type_of o) e ∙ ap (λ (u : ValueType). Some u) (sym t) in
      map-set type_of locals x v ∙ set_same (map type_of locals) x (type_of v) there ∙ f.locals_are;
}

-- bytes of a memory change
pub memory_set : (modules linked : List WModule) (st : Store) (place : ℕ) (m : Memory) (bytes : List ℕ)
    → IsStore modules linked st → IsStore modules linked (with_memory_bytes st place m bytes)
memory_set modules linked st place m bytes h =
    let new = with_memory_bytes st place m bytes in
    record {
      instances =
          pairs_imply (IsInstance modules st) (IsInstance modules new) linked st.instances (λ tree i k. record {
            functions = k.functions;
            tables = k.tables;
            memories = pairs_imply (IsMemoryAt st) (IsMemoryAt new) (context tree).memories i.memories
                (λ l b there. set_there st.memories place b there.0 (record m { bytes = bytes }) there.1) k.memories;
            globals = k.globals;
          }) h.instances;
      functions = h.functions;
      slots = h.slots;
    }
