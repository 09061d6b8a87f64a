-- The parts of a module, and the whole.
use Rattle.std.proofs.Common.{◌≡◌, ◌⊎◌, ◌<◌, List, [], Some, Result, length, refl, sym, subst, ◌∙◌, inl, inr}
use Rattle.std.specs.Prelude.{All, slice_get}
use Rattle.wasm_tree.specs.declared.fault.WFault.{WFault}
use Rattle.wasm_tree.specs.declared.fault.WFault.TheVariants.{Malformed, OutsideProfile, Invalid, Unlinked, SegmentOutside, NoMemory}
use Rattle.wasm_tree.specs.declared.kinds.ValueType.{ValueType}
use Rattle.wasm_tree.specs.declared.kinds.ValueType.TheVariants.{I32}
use Rattle.wasm_tree.specs.declared.kinds.FuncType.{FuncType}
use Rattle.wasm_tree.specs.declared.instr.Instr.{Instr}
use Rattle.wasm_tree.specs.declared.module.Global.{Global}
use Rattle.wasm_tree.specs.declared.module.Element.{Element}
use Rattle.wasm_tree.specs.declared.module.Function.{Function}
use Rattle.wasm_tree.specs.declared.module.Data.{Data}
use Rattle.wasm_tree.specs.declared.module.WModule.{WModule}
use Rattle.wasm_tree.specs.Validity.{Context, context, initial_context, function_context, Leads, IsConstantOf, IsFunction, IsGlobal, IsElement, IsData, AreKinds, AreBodies, IsValid}
use Rattle.wasm_valid.specs.Single.{AreSingle}
use Rattle.wasm_valid.specs.Typing.{Refuses, Decides}
use Rattle.wasm_valid.proofs.Stacks.{refuses_so}
use Rattle.wasm_valid.proofs.Walks.{decides_same}

-- ---- the parts

some_same : (s t : FuncType) → Some s ≡ Some t → s ≡ t
some_same s t e = cc

pub function_decides : {A : Type 0} (result : Result A WFault) (c : Context) (f : Function) (t : FuncType)
    → Some t ≡ slice_get c.types f.type_index
    → Decides result (Leads (function_context c t f.body.locals) f.body.code [] t.results)
    → Decides result (IsFunction c f)
function_decides result c f t e h = decides_same result
    (Leads (function_context c t f.body.locals) f.body.code [] t.results) (IsFunction c f) (
      λ x. (t, sym e, x),
      λ x.
          let same : x.0 ≡ t = some_same x.0 t (sym x.1 ∙ sym e) in
          subst (λ (y : FuncType). Leads (function_context c y f.body.locals) f.body.code [] y.results) same x.2,
    ) h

pub constant_at : {A : Type 0} (result : Result A WFault) (c : Context) (t : ValueType) (code other : List Instr)
    → code ≡ other → Decides result (IsConstantOf c t code) → Decides result (IsConstantOf c t other)
constant_at result c t code other e h = subst (λ (x : List Instr). Decides result (IsConstantOf c t x)) e h

pub element_decides : {A : Type 0} (result : Result A WFault) (c : Context) (e : Element) (code : List Instr)
    → code ≡ e.offset → e.table < length c.tables → All (λ f. f < length c.functions) e.functions
    → Decides result (IsConstantOf c I32 code) → Decides result (IsElement c e)
element_decides result c e code o lt all h =
    decides_same result (IsConstantOf c I32 e.offset) (IsElement c e) (λ x. (lt, x, all), λ x. x.1)
    (constant_at result c I32 code e.offset o h)

pub data_decides : {A : Type 0} (result : Result A WFault) (c : Context) (d : Data) (code : List Instr)
    → code ≡ d.offset → d.memory < length c.memories → Decides result (IsConstantOf c I32 code)
    → Decides result (IsData c d)
data_decides result c d code o lt h = decides_same result (IsConstantOf c I32 d.offset) (IsData c d)
    (λ x. (lt, x), λ x. x.1) (constant_at result c I32 code d.offset o h)

pub not_part : {X : Type 0} (P : X → Type 0) (xs ys : List X) (whole : Type 0) (e : WFault) → xs ≡ ys
    → (whole → All P ys) → Refuses e (¬ All P xs) → Refuses e (¬ whole)
not_part {X} P xs ys whole e same f h = refuses_so e (¬ All P xs) (¬ whole)
    (λ n w. n (subst (λ (zs : List X). All P zs) (sym same) (f w))) h

-- ---- the whole

pub not_single : (c : Context) (m : WModule) (e : WFault) → c ≡ context m → Refuses e (¬ AreSingle c m)
    → Refuses e (¬ IsValid m)
not_single c m e same h = refuses_so e (¬ AreSingle c m) (¬ IsValid m)
    (λ n v. n (subst (λ (x : Context). AreSingle x m) (sym same)
    (record { one_table = v.one_table; one_memory = v.one_memory; names = v.names }))) h

pub not_kinds : (c : Context) (m : WModule) (e : WFault) → c ≡ context m → Refuses e (¬ AreKinds c m)
    → Refuses e (¬ IsValid m)
not_kinds c m e same h = refuses_so e (¬ AreKinds c m) (¬ IsValid m)
    (λ n v. n (subst (λ (x : Context). AreKinds x m) (sym same) v.kinds)) h

pub not_bodies : (c : Context) (m : WModule) (e : WFault) → c ≡ context m → Refuses e (¬ AreBodies c m)
    → Refuses e (¬ IsValid m)
not_bodies c m e same h = refuses_so e (¬ AreBodies c m) (¬ IsValid m)
    (λ n v. n (subst (λ (x : Context). AreBodies x m) (sym same) v.bodies)) h

pub not_globals : (c : Context) (m : WModule) (gs : List Global) (e : WFault) → c ≡ initial_context m → gs ≡ m.globals
    → Refuses e (¬ All (IsGlobal c) gs) → Refuses e (¬ IsValid m)
not_globals c m gs e same also h = refuses_so e (¬ All (IsGlobal c) gs) (¬ IsValid m)
    (λ n v. n (subst (λ (x : Context). All (IsGlobal x) gs) (sym same)
    (subst (λ (x : List Global). All (IsGlobal (initial_context m)) x) (sym also) v.globals))) h

pub valid_whole : (c i : Context) (m : WModule) (gs : List Global) → c ≡ context m → i ≡ initial_context m
    → gs ≡ m.globals → AreSingle c m → AreKinds c m → AreBodies c m → All (IsGlobal i) gs → IsValid m
valid_whole c i m gs same initial also single kinds bodies globals =
    let s = subst (λ (x : Context). AreSingle x m) same single in
    record {
      kinds = subst (λ (x : Context). AreKinds x m) same kinds;
      bodies = subst (λ (x : Context). AreBodies x m) same bodies;
      globals = subst (λ (x : List Global). All (IsGlobal (initial_context m)) x) also
          (subst (λ (x : Context). All (IsGlobal x) gs) initial globals);
      one_table = s.one_table;
      one_memory = s.one_memory;
      names = s.names;
    }

pub faults : (e : WFault) (refusal : Type 0) → Refuses e refusal → ((e ≡ Invalid) × refusal) ⊎ (e ≡ NoMemory)
faults Malformed refusal h = absurd h
faults OutsideProfile refusal h = absurd h
faults Invalid refusal h = inl (refl, h)
faults Unlinked refusal h = absurd h
faults SegmentOutside refusal h = absurd h
faults NoMemory refusal h = inr refl
