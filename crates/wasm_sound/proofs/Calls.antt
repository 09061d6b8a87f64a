-- Calls.
use Rattle.std.proofs.Common.{◌≡◌, ℕ, zero, suc, ◌+◌, ◌%◌, ◌<◌, Bool, true, false, ◌&&◌, List, [], ◌∷◌, ◌++◌, length, map, replicate, Option, Some, None, refl, sym, ap, ap₂, subst, ◌∙◌, append_assoc, arith}
use Rattle.std.specs.Prelude.{slice_get, All, nat_le, if◌then◌else◌}
use Rattle.std.specs.Option.{option_and_then}
use Rattle.std.specs.List.{flat_map}
use Rattle.std.proofs.lemmas.List.{map-append, length-append}
use Rattle.std.proofs.lemmas.Option.{none-some, same_Some}
use Rattle.wasm_tree.specs.declared.kinds.ValueType.{ValueType}
use Rattle.wasm_tree.specs.declared.kinds.ValueType.TheVariants as types
use Rattle.wasm_tree.specs.declared.kinds.FuncType.{FuncType}
use Rattle.wasm_tree.specs.declared.instr.Instr.{Instr}
use Rattle.wasm_tree.specs.declared.instr.Instr.TheOpen as layer
use Rattle.wasm_tree.specs.declared.module.Locals.{Locals}
use Rattle.wasm_tree.specs.declared.module.Function.{Function}
use Rattle.wasm_tree.specs.declared.module.WModule.{WModule}
use Rattle.wasm_tree.specs.declared.store.Value.{Value}
use Rattle.wasm_tree.specs.declared.store.Value.TheVariants.{I64}
use Rattle.wasm_tree.specs.declared.store.Callee.{Callee}
use Rattle.wasm_tree.specs.declared.store.Callee.TheVariants.{Put, Stop, Own}
use Rattle.wasm_tree.specs.declared.store.Table.{Table}
use Rattle.wasm_tree.specs.declared.store.Instance.{Instance}
use Rattle.wasm_tree.specs.declared.store.Store.{Store}
use Rattle.wasm_tree.specs.Validity.{Context, context, function_context, local_types, Leads, IsFunction, IsValid}
use Rattle.wasm_tree.specs.Machine.{Activation, Going, Over, Trapped, Progress, Typed, trap_now, or_trap, split_end, top_i32, top_i64, instance_of, callee_at, callee_in, function_in_slot, own_function, type_at, callee_type, is_same_value_type, are_same, is_same_type, agree, zero_of, zeros, enter_function, stop_with, call_function, call_typed}
use Rattle.wasm_tree.specs.Linking.{type_of}
use Rattle.wasm_sound.specs.Sound.{IsFunctionAt, IsTableAt, Level, outermost, IsActivation, IsGoing, IsSound}
use Rattle.wasm_sound.specs.Ready.{CanCall, CanCallSlot}
use Rattle.wasm_sound.proofs.Lists.{at, some_at, same_at, parts, split_end_at, through_push, pair_at}
use Rattle.wasm_sound.proofs.Operands.{one_is_i64, top_i32_at, top_i64_at}
use Rattle.wasm_sound.proofs.Scenes.{Outside, Scene, Works, going, or_trap_sound, or_trap_at, names, instance_at}
use Rattle.wasm_sound.proofs.Branches.{length_typed}
use Rattle.wasm_sound.proofs.Jumps.{top_number, deep}

-- ---- types that are the same

both_true : (b c : Bool) → (b && c) ≡ true → (b ≡ true) × (c ≡ true)
both_true true true e = (refl, refl)
both_true true false e = absurd (grind arith)
both_true false c e = absurd (grind arith)

pub same_value_type : (t u : ValueType) → is_same_value_type t u ≡ true → t ≡ u
same_value_type types.I32 types.I32 e = refl
same_value_type types.I64 types.I64 e = refl
same_value_type types.I32 types.I64 e = absurd (grind arith)
same_value_type types.I64 types.I32 e = absurd (grind arith)

same_types : (ts us : List ValueType) → are_same ts us ≡ true → ts ≡ us
same_types [] [] e = refl
same_types [] (u ∷ us) e = absurd (grind arith)
same_types (t ∷ ts) [] e = absurd (grind arith)
same_types (t ∷ ts) (u ∷ us) e =
    let b = both_true (is_same_value_type t u) (are_same ts us) e in
    ap₂ (λ (x : ValueType) (xs : List ValueType). x ∷ xs) (same_value_type t u b.0) (same_types ts us b.1)

pub same_type : (t u : FuncType) → is_same_type t u ≡ true → t ≡ u
same_type t u e =
    let b = both_true (are_same t.params u.params) (are_same t.results u.results) e in
    ap₂ (λ (p r : List ValueType). record { params = p; results = r }) (same_types t.params u.params b.0)
    (same_types t.results u.results b.1)

-- ---- what an option that is there was made of

pub then_some : {A B : Type 0} (f : A → Option B) (o : Option A) (y : B) → option_and_then f o ≡ Some y → (x : A)
    × (o ≡ Some x) × (f x ≡ Some y)
then_some f None y e = absurd (none-some y e)
then_some f (Some x) y e = (x, refl, e)

pub some_then : {A B : Type 0} (f : A → Option B) (o : Option A) (x : A) (y : B) → o ≡ Some x → f x ≡ Some y
    → option_and_then f o ≡ Some y
some_then f o x y e g = ap (option_and_then f) e ∙ g

if_when : (modules : List WModule) (b : Bool) (p : Progress) → (b ≡ true → IsSound modules p.0)
    → IsSound modules (if b then p else trap_now).0
if_when modules true p h = h refl
if_when modules false p h = tt

over_or_trapped : (modules : List WModule) (b : Bool) (k : ℕ) → IsSound modules (if b then Over k else Trapped)
over_or_trapped modules true k = tt
over_or_trapped modules false k = tt

-- ---- a function begins

zero_typed : (t : ValueType) → type_of (zero_of t) ≡ t
zero_typed types.I32 = refl
zero_typed types.I64 = refl

zeros_typed : (n : ℕ) (t : ValueType) → map type_of (replicate n (zero_of t)) ≡ replicate n t
zeros_typed zero t = refl
zeros_typed (suc n) t = ap₂ (λ (x : ValueType) (xs : List ValueType). x ∷ xs) (zero_typed t) (zeros_typed n t)

fresh_typed : (groups : List Locals) → map type_of (flat_map zeros groups) ≡ local_types groups
fresh_typed [] = refl
fresh_typed (g ∷ groups) =
    map-append type_of (zeros g) (flat_map zeros groups)
    ∙ ap₂ (λ (xs ys : List ValueType). xs ++ ys) (zeros_typed g.count g.value_type) (fresh_typed groups)

body_entered : (modules : List WModule) (m : ℕ) (tree : WModule) (t : FuncType) (function : Function)
    (args : List Value) → slice_get modules m ≡ Some tree → slice_get tree.types function.type_index ≡ Some t
    → IsFunction (context tree) function → map type_of args ≡ t.params
    → IsActivation modules t.results (enter_function m (record { type = t; function = function }) args) []
body_entered modules m tree t function args e g h a =
    let c = function_context (context tree) t function.body.locals in
    let same : h.0 ≡ t = same_at (slice_get tree.types function.type_index) h.0 t h.1 g in
    record {
      context = c;
      inner = outermost c;
      above = [];
      frame = record {
        tree = tree;
        type = t;
        groups = function.body.locals;
        module_is = e;
        context_is = refl;
        returns_is = refl;
        arity_is = refl;
        locals_are = map-append type_of args (flat_map zeros function.body.locals)
            ∙ ap₂ (λ (xs ys : List ValueType). xs ++ ys) a (fresh_typed function.body.locals);
      };
      labels = refl;
      stack = refl;
      leads = subst (λ (u : FuncType). Leads (function_context (context tree) u function.body.locals) function.body.code
          [] u.results) same h.2;
    }

pub entered_typed : (modules : List WModule) (m f : ℕ) (t : Typed) (args : List Value) → All IsValid modules
    → own_function modules m f ≡ Some t → map type_of args ≡ t.type.params
    → IsActivation modules t.type.results (enter_function m t args) []
entered_typed modules m f t args valid e a =
    let tree = then_some (λ (tree : WModule). option_and_then
    (λ (function : Function). option_and_then (λ (u : FuncType). Some (record { type = u; function = function }))
    (slice_get tree.types function.type_index)) (slice_get tree.functions f)) (slice_get modules m) t e in
    let function = then_some (λ (function : Function). option_and_then
    (λ (u : FuncType). Some (record { type = u; function = function }))
    (slice_get tree.0.types function.type_index)) (slice_get tree.0.functions f) t tree.2 in
    let type = then_some (λ (u : FuncType). Some (record { type = u; function = function.0 }))
    (slice_get tree.0.types function.0.type_index) t function.2 in
    let same : record { type = type.0; function = function.0 } ≡ t =
    same_Some (record { type = type.0; function = function.0 }) t type.2 in
    let is = at (IsFunction (context tree.0)) tree.0.functions f function.0
    (at IsValid modules m tree.0 valid tree.1).bodies.functions function.1 in
    subst (λ (u : Typed). IsActivation modules u.type.results (enter_function m u args) []) same
    (body_entered modules m tree.0 type.0 function.0 args tree.1 type.1 is
    (a ∙ ap (λ (u : Typed). u.type.params) (sym same)))

-- ---- calls

module _ (modules : List WModule) (valid : All IsValid modules) (st : Store) (a : Activation)
    (callers : List Activation) (returns : List ValueType) (inner : Level) (o : Outside modules st callers returns)
  where
    -- the caller waits, with what stands below the arguments
    waits : (p r : List ValueType) (s : Scene modules a returns inner p r) (us : List Value)
        → map type_of us ≡ inner.below ++ s.lower → IsActivation modules returns (record a { stack = us }) r
    waits p r s us e = record {
      context = s.context;
      inner = inner;
      above = s.lower ++ r;
      frame = s.frame;
      labels = s.labels;
      stack = ap (λ (x : List ValueType). x ++ r) e ∙ append_assoc inner.below s.lower r;
      leads = s.leads;
    }

    -- it goes on at once, where nothing is given to it
    goes_on_at_once : (p r : List ValueType) (s : Scene modules a returns inner p r) (us : List Value) → r ≡ []
        → map type_of us ≡ inner.below ++ s.lower → IsGoing modules st (record a { stack = us }) callers
    goes_on_at_once p r s us n e = going modules st callers returns (record a { stack = us }) o
        (subst (IsActivation modules returns (record a { stack = us })) n (waits p r s us e))

    -- a function of the host
    host_argument : (p : List ValueType) (t : FuncType) (s : Scene modules a returns inner p t.results)
        (us : List Value)
        → t ≡ record { params = types.I64 ∷ []; results = [] } → map type_of us ≡ inner.below ++ s.lower ++ t.params
        → (vs : List Value) × (n : ℕ) × (us ≡ vs ++ I64 n ∷ []) × IsGoing modules st (record a { stack = vs }) callers
    host_argument p t s us is e =
        let cut = parts type_of us (inner.below ++ s.lower) t.params e in
        let n = one_is_i64 cut.1 (cut.4 ∙ ap (λ (u : FuncType). u.params) is) in (
          cut.0,
          n.0,
          cut.2 ∙ ap (λ (l : List Value). cut.0 ++ l) n.1,
          goes_on_at_once p t.results s cut.0
              (ap (λ (u : FuncType). u.results) is) cut.3,
        )

    put : (us vs : List Value) (n : ℕ) → us ≡ vs ++ I64 n ∷ [] → IsGoing modules st (record a { stack = vs }) callers
        → CanCall modules us Put × IsSound modules (call_function modules st (record a { stack = us }) callers Put).0
    put us vs n e h = (
      (vs, n, e),
      or_trap_at modules (top_i64 us) (vs, n) (λ p. (Going st (record a { stack = p.0 }) callers, p.1 % 256 ∷ []))
          (ap top_i64 e ∙ top_i64_at vs n) h,
    )

    stop : (us vs : List Value) (n : ℕ) → us ≡ vs ++ I64 n ∷ [] → CanCall modules us Stop
        × IsSound modules (call_function modules st (record a { stack = us }) callers Stop).0
    stop us vs n e = (
      (vs, n, e),
      or_trap_at modules (top_i64 us) (vs, n) (λ p. (stop_with p.1, [])) (ap top_i64 e ∙ top_i64_at vs n)
          (over_or_trapped modules (nat_le 1 n && nat_le n 255) n),
    )

    own : (p : List ValueType) (t : FuncType) (s : Scene modules a returns inner p t.results) (us : List Value)
        (m f : ℕ)
        (u : Typed) → own_function modules m f ≡ Some u → u.type ≡ t
        → map type_of us ≡ inner.below ++ s.lower ++ t.params
        → CanCall modules us (Own m f) × IsSound modules
        (call_function modules st (record a { stack = us }) callers (Own m f)).0
    own p t s us m f u e same typed =
        let cut = parts type_of us (inner.below ++ s.lower) t.params typed in
        let args : map type_of cut.1 ≡ u.type.params = cut.4 ∙ ap (λ (x : FuncType). x.params) (sym same) in
        let size : length u.type.params ≡ length cut.1 = sym (length_typed cut.1 u.type.params args) in
        let long : length us ≡ length cut.0 + length cut.1 = ap length cut.2 ∙ length-append cut.0 cut.1 in
        let caller : IsActivation modules returns (record a { stack = cut.0 }) u.type.results =
        subst (λ (x : FuncType). IsActivation modules returns (record a { stack = cut.0 }) x.results) (sym same)
        (waits p t.results s cut.0 cut.3) in
        let new : IsGoing modules st (enter_function m u cut.1) (callers ++ record a { stack = cut.0 } ∷ []) = record {
          store = o.store;
          first = o.first;
          returns = u.type.results;
          waiting = through_push (IsActivation modules) callers (record a { stack = cut.0 }) o.first returns
              u.type.results o.waiting caller;
          running = entered_typed modules m f u cut.1 valid e args;
        } in (
          (u, e, omega (arith, size, long)),
          or_trap_at modules (own_function modules m f) u
              (λ x. or_trap (split_end (length x.type.params) us)
              (λ q. (Going st (enter_function m x q.1) (callers ++ record a { stack = q.0 } ∷ []), []))) e
              (or_trap_at modules (split_end (length u.type.params) us) (cut.0, cut.1)
              (λ q. (Going st (enter_function m u q.1) (callers ++ record a { stack = q.0 } ∷ []), []))
              (ap (split_end (length u.type.params)) cut.2 ∙ split_end_at cut.0 cut.1 (length u.type.params) size) new),
        )

    -- a call of a function of this type, with its arguments on top
    pub call_of : (p : List ValueType) (t : FuncType) (s : Scene modules a returns inner p t.results) (us : List Value)
        (c : Callee) → callee_type modules c ≡ Some t → map type_of us ≡ inner.below ++ s.lower ++ t.params
        → CanCall modules us c × IsSound modules (call_function modules st (record a { stack = us }) callers c).0
    call_of p t s us Put e typed =
        let h = host_argument p t s us (sym (same_Some (record { params = types.I64 ∷ []; results = [] }) t e)) typed in
        put us h.0 h.1 h.2 h.3
    call_of p t s us Stop e typed =
        let h = host_argument p t s us (sym (same_Some (record { params = types.I64 ∷ []; results = [] }) t e)) typed in
        stop us h.0 h.1 h.2
    call_of p t s us (Own m f) e typed =
        let found = then_some (λ (u : Typed). Some u.type) (own_function modules m f) t e in
        own p t s us m f found.0 found.1 (same_Some found.0.type t found.2) typed

    pub call : (i : Instr) (f x : ℕ) (t : FuncType) → slice_get inner.context.functions f ≡ Some x
        → slice_get inner.context.types x ≡ Some t → Scene modules a returns inner t.params t.results
        → Works modules st a callers i (layer.Call f)
    call i f x t e g s =
        let known = names modules a returns inner t.params t.results s in
        let instance = instance_at modules a returns inner t.params t.results s st o.store in
        let found = pair_at (IsFunctionAt modules st s.frame.tree) (context s.frame.tree).functions instance.0.functions
        f
        x instance.2.functions (ap (λ (c : Context). slice_get c.functions f) (sym known) ∙ e) in
        let same : found.2.0 ≡ t = same_at (slice_get s.frame.tree.types x) found.2.0 t found.2.1
        (ap (λ (c : Context). slice_get c.types x) (sym known) ∙ g) in
        let callee = found.2.2 in
        let there : callee_at st a.instance f ≡ Some callee.0 =
        some_then (λ (j : Instance). option_and_then (λ (b : ℕ). slice_get st.functions b) (slice_get j.functions f))
        (instance_of st a.instance) instance.0 callee.0 instance.1
        (some_then (λ (b : ℕ). slice_get st.functions b) (slice_get instance.0.functions f) found.0 callee.0 found.1
        callee.1) in
        let does = call_of t.params t s a.stack callee.0 (callee.2 ∙ ap (λ (u : FuncType). Some u) same)
        (s.stack ∙ sym (append_assoc inner.below s.lower t.params)) in (
          (callee.0, there, does.0),
          or_trap_at modules (callee_at st a.instance f) callee.0
              (call_function modules st a callers) there does.1,
        )

    -- ---- calls by a slot

    slot_function : (m slot : ℕ) (c : Callee) → callee_in st m slot ≡ Some c → (b : ℕ)
        × (slice_get st.functions b ≡ Some c)
    slot_function m slot c e =
        let i = then_some (λ (j : Instance). option_and_then
        (λ (t : ℕ). option_and_then (λ (table : Table). option_and_then (λ (b : ℕ). slice_get st.functions b)
        (function_in_slot (slice_get table.slots slot))) (slice_get st.tables t)) (slice_get j.tables 0))
        (instance_of st m) c e in
        let t = then_some (λ (t : ℕ). option_and_then
        (λ (table : Table). option_and_then (λ (b : ℕ). slice_get st.functions b)
        (function_in_slot (slice_get table.slots slot))) (slice_get st.tables t)) (slice_get i.0.tables 0) c i.2 in
        let table = then_some (λ (table : Table). option_and_then (λ (b : ℕ). slice_get st.functions b)
        (function_in_slot (slice_get table.slots slot))) (slice_get st.tables t.0) c t.2 in
        let b = then_some (λ (b : ℕ). slice_get st.functions b) (function_in_slot (slice_get table.0.slots slot)) c
        table.2 in
        (b.0, b.2)

    called_as_sound : (p : List ValueType) (t : FuncType) (s : Scene modules a returns inner p t.results)
        (us : List Value) (c : Callee) → map type_of us ≡ inner.below ++ s.lower ++ t.params → (b : ℕ)
        → slice_get st.functions b ≡ Some c
        → IsSound modules (call_typed modules st (record a { stack = us }) callers (Some t) c).0
    called_as_sound p t s us c typed b e =
        let known = o.store.functions b c e in
        let agreed : agree (Some t) (callee_type modules c) ≡ is_same_type t known.0 = ap (agree (Some t)) known.1 in
        if_when modules (agree (Some t) (callee_type modules c))
        (call_function modules st (record a { stack = us }) callers c)
        (λ y. (call_of p t s us c (known.1 ∙ ap (λ (u : FuncType). Some u) (sym (same_type t known.0 (sym agreed ∙ y))))
        typed).1)

    can_call_slot : (p : List ValueType) (t : FuncType) (s : Scene modules a returns inner p t.results)
        (us : List Value)
        → map type_of us ≡ inner.below ++ s.lower ++ t.params
        → (place slot b : ℕ) (table : Table) → slice_get st.tables place ≡ Some table
        → slice_get table.slots slot ≡ Some (Some b) → CanCallSlot modules st us t b
    can_call_slot p t s us typed place slot b table e g =
        let c = o.store.slots place table slot b e g in
        let known = o.store.functions b c.0 c.1 in (
          c.0,
          known.0,
          c.1,
          known.1,
          λ y. (call_of p t s us c.0
              (known.1 ∙ ap (λ (u : FuncType). Some u) (sym (same_type t known.0 y))) typed).0,
        )

    pub call_indirect : (i : Instr) (x : ℕ) (t : FuncType) → 0 < length inner.context.tables
        → slice_get inner.context.types x ≡ Some t
        → Scene modules a returns inner (t.params ++ types.I32 ∷ []) t.results
        → Works modules st a callers i (layer.CallIndirect x)
    call_indirect i x t some e s =
        let p = t.params ++ types.I32 ∷ [] in
        let top = top_number a.stack (inner.below ++ (s.lower ++ t.params))
        (s.stack ∙ deep inner.below s.lower t.params (types.I32 ∷ [])) in
        let typed : map type_of top.0 ≡ inner.below ++ s.lower ++ t.params = top.3
        ∙ sym (append_assoc inner.below s.lower t.params) in
        let known = names modules a returns inner p t.results s in
        let instance = instance_at modules a returns inner p t.results s st o.store in
        let one = some_at inner.context.tables 0 some in
        let found = pair_at (IsTableAt st) (context s.frame.tree).tables instance.0.tables 0 one.0 instance.2.tables
        (ap (λ (c : Context). slice_get c.tables 0) (sym known) ∙ one.1) in
        let asked : type_at modules a.instance x ≡ Some t =
        some_then (λ (tree : WModule). slice_get tree.types x) (slice_get modules a.instance) s.frame.tree t
        s.frame.module_is (ap (λ (c : Context). slice_get c.types x) (sym known) ∙ e) in (
          (
            top.0,
            top.1,
            top.2,
            (
              t,
              instance.0,
              found.0,
              found.2.0,
              asked,
              instance.1,
              found.1,
              found.2.1,
              λ b g.
                  can_call_slot p t s top.0 typed found.0 top.1 b found.2.0 found.2.1 g,
            ),
          ),
          or_trap_at modules (top_i32 a.stack) (top.0, top.1)
              (λ q. or_trap (callee_in st a.instance q.1)
              (call_typed modules st (record a { stack = q.0 }) callers (type_at modules a.instance x)))
              (ap top_i32 top.2 ∙ top_i32_at top.0 top.1)
              (or_trap_sound modules (callee_in st a.instance top.1)
              (call_typed modules st (record a { stack = top.0 }) callers (type_at modules a.instance x))
              (λ c g.
              let b = slot_function a.instance top.1 c g in
              subst (λ (y : Option FuncType). IsSound modules
              (call_typed modules st (record a { stack = top.0 }) callers y c).0) (sym asked)
              (called_as_sound p t s top.0 c typed b.0 b.1))),
        )
