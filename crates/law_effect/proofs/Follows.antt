-- The machine does what the effect of the code says.
use Rattle.std.proofs.Common.{◌≡◌, ℕ, zero, suc, ◌+◌, ◌-◌, ◌%◌, ◌&&◌, ◌==◌, ◌≤◌, List, [], ◌∷◌, ◌++◌, length, map, take, drop, Bool, true, false, Option, Some, None, if◌then◌else◌, refl, sym, ap, ◌∙◌, subst, arith}
use Rattle.std.specs.Prelude.{slice_get, slice_index_or, nat_le, nat_lt}
use Rattle.std.proofs.lemmas.List.{append-nil}
use Rattle.std.proofs.Math.Dec.{leb-suc-zero}
use Rattle.wasm_tree.specs.declared.instr.Instr.{Instr, Instr-F, out-Instr, roll-Instr, out-roll-Instr, map-Instr, fold_out-Instr, ind-Instr}
use Rattle.wasm_tree.specs.declared.instr.Instr.TheOpen as layer
use Rattle.wasm_tree.specs.declared.instr.Instr.TheVariants.{Unreachable}
use Rattle.wasm_tree.specs.declared.module.WModule.{WModule}
use Rattle.wasm_tree.specs.declared.store.Value.{Value}
use Rattle.wasm_tree.specs.declared.store.Callee.{Callee}
use Rattle.wasm_tree.specs.declared.store.Callee.TheVariants.{Put, Stop, Own}
use Rattle.wasm_tree.specs.Machine.{Label, Activation, Config, Going, Over, Trapped, Progress, Typed, trap_now, or_trap, split_last, split_end, topmost, top_i32, top_i64, branch_to, branch_by, inside, return_to, callee_at, callee_in, own_function, type_at, callee_type, agree, enter_function, call_function, stop_with, global_at, calculation, bytes_at, begun_layer, results_of, reduce}
use Rattle.wasm_tree.specs.Numbers.{store_bytes, load_size}
use Rattle.law_effect.specs.Effect.{Fixed, State, store_of, Effect, FellThrough, Branched, Returned, Ended, Traps, StillRunning, Does, Calling, or_traps, exec, out_of, back, of_config, alone, call, does_layer, does, effect, calling, nest_calls}
use Rattle.law_effect.specs.Laws.{Around, frame, at, Reaches, Leads, Follows, RunLeads, Runs, NestedFollows, NestedRuns}
use Rattle.law_effect.proofs.Reaching.{got, silent, one, none, join, behind, begins, then_leads}
use Rattle.law_effect.proofs.Plain.{config_of, Same, same_or, same_if, same_memory, same_leads}
use Rattle.law_effect.proofs.Ways.{under, block_label, block_leads, turns_lead, callee, back_leads, found_silent, branched_silent, still}

module _ (modules : List WModule) (fx : Fixed) where
  -- the module m calls with this frame
  abbrev calls_here : (m : ℕ) → Around → List Instr → State → List Value → Callee → Progress
  calls_here m a rest st stack c = call_function modules (store_of fx st.bytes) (frame m a rest st stack) a.callers c

  -- where a callee begins
  abbrev callee_begins : (m : ℕ) → Around → List Instr → State → (below : List Value) → (k : ℕ) → Typed → List Value
      → Config
  callee_begins m a rest st below k t args =
      Going (store_of fx st.bytes) (enter_function k t args) (a.callers ++ frame m a rest st below ∷ [])

  -- what calls lead to
  abbrev pub CallsLead : ℕ → Calling → Type 0
  CallsLead w calls =
      (m : ℕ) (a : Around) (before rest : List Instr) (st : State) (stack below : List Value) (k f : ℕ) (t : Typed)
      (args : List Value)
      → reduce modules (at fx m a before st stack) ≡ (callee_begins m a rest st below k t args, [])
      → Leads modules fx w m a rest (at fx m a before st stack) st.out
      (back (length t.type.results) st.locals below (calls k f t args st.bytes st.out))

  -- the reductions of an instruction, given by its layer
  abbrev Opens : (m : ℕ) → Instr → Instr-F Instr → Type 0
  Opens m i x = (a : Around) (rest : List Instr) (st : State) (stack : List Value)
      → reduce modules (at fx m a (i ∷ rest) st stack)
      ≡ begun_layer modules (store_of fx st.bytes) (frame m a rest st stack) a.callers i x

  opens : (m : ℕ) (i : Instr) (x : Instr-F Instr) → out-Instr i ≡ x → Opens m i x
  unfolding reduce
  opens m i x e a rest st stack = ap (begun_layer modules (store_of fx st.bytes) (frame m a rest st stack) a.callers i)
      e

  module _ (n w : ℕ) (le : w ≤ n) (calls : Calling) (good : CallsLead w calls) (m : ℕ) where
    abbrev doing : Instr → Does
    doing = does modules fx n calls m

    -- what an instruction leads to
    abbrev P : Instr → Type 0
    P i = (a : Around) (rest : List Instr) (st : State) (stack : List Value)
        → Leads modules fx w m a rest (at fx m a (i ∷ rest) st stack) st.out (doing i st stack)

    abbrev S : Type 0
    S = (i : Instr) × P i

    abbrev bare : Instr-F S → Instr-F Instr
    bare = map-Instr S Instr (λ e. e.0)

    exec_leads : (ss : List S) (a : Around) (rest : List Instr) (st : State) (stack : List Value)
        → Leads modules fx w m a rest (at fx m a (map (λ e. e.0) ss ++ rest) st stack) st.out
        (exec (map doing (map (λ e. e.0) ss)) st stack)
    exec_leads [] a rest st stack = none modules _ st.out
    exec_leads (s ∷ ss) a rest st stack =
        then_leads modules fx m a w (map (λ e. e.0) ss ++ rest) rest _ st.out (exec (map doing (map (λ e. e.0) ss)))
        (doing s.0 st stack) (s.1 a (map (λ e. e.0) ss ++ rest) st stack) (λ s vs. exec_leads ss a rest s vs)

    -- with nothing behind
    whole_leads : (ss : List S) (a : Around) (st : State) (stack : List Value)
        → Leads modules fx w m a [] (at fx m a (map (λ e. e.0) ss) st stack) st.out
        (exec (map doing (map (λ e. e.0) ss)) st stack)
    whole_leads ss a st stack =
        subst (λ (is : List Instr). Leads modules fx w m a [] (at fx m a is st stack) st.out
        (exec (map doing (map (λ e. e.0) ss)) st stack)) (append-nil (map (λ (e : S). e.0) ss))
        (exec_leads ss a [] st stack)

    -- a block's code, once it was begun
    inside_leads : (arity : ℕ) (ss : List S) (before : List Instr) (a : Around) (rest : List Instr) (st : State)
        (stack vs : List Value)
        → reduce modules (at fx m a before st stack)
        ≡ inside (store_of fx st.bytes) (frame m a rest st vs) a.callers arity rest (map (λ e. e.0) ss)
        → Leads modules fx w m a rest (at fx m a before st stack) st.out
        (out_of arity (length vs) (exec (map doing (map (λ e. e.0) ss)) st vs))
    inside_leads arity ss before a rest st stack vs e =
        behind modules fx m a w rest _ _ st.out st.out
        (out_of arity (length vs) (exec (map doing (map (λ e. e.0) ss)) st vs)) (silent modules _ _ st.out e)
        (block_leads modules fx m a w arity (length vs) rest _ st.out (exec (map doing (map (λ e. e.0) ss)) st vs)
        (whole_leads ss (under a (block_label modules fx m a arity (length vs) rest)) st vs))

    -- one of two blocks
    either_leads : (b : Bool) (arity : ℕ) (xs ys : List S) (before : List Instr) (a : Around) (rest : List Instr)
        (st : State) (stack vs : List Value)
        → reduce modules (at fx m a before st stack)
        ≡ inside (store_of fx st.bytes) (frame m a rest st vs) a.callers arity rest
        (if b then map (λ e. e.0) xs else map (λ e. e.0) ys)
        → Leads modules fx w m a rest (at fx m a before st stack) st.out
        (out_of arity (length vs) (exec (if b then map doing (map (λ e. e.0) xs) else map doing (map (λ e. e.0) ys))
        st vs))
    either_leads true arity xs ys before a rest st stack vs e = inside_leads arity xs before a rest st stack vs e
    either_leads false arity xs ys before a rest st stack vs e = inside_leads arity ys before a rest st stack vs e

    -- where something was found, or not
    or_leads : {A : Type 0} (o : Option A) (f : A → Progress) (g : A → Effect) (a : Around) (rest : List Instr)
        (c : Config) (out : List ℕ)
        → ((x : A) → reduce modules c ≡ f x → Leads modules fx w m a rest c out (g x)) → reduce modules c ≡ or_trap o f
        → Leads modules fx w m a rest c out (or_traps out o g)
    or_leads None f g a rest c out h e = silent modules c Trapped out e
    or_leads (Some x) f g a rest c out h e = h x e

    same_branch : (l : ℕ) (a : Around) (code : List Instr) (st : State) (stack : List Value)
        → branch_by (store_of fx st.bytes) (frame m a code st stack) a.callers l
        ≡ branch_by (store_of fx st.bytes) (frame m a [] st stack) a.callers l
    same_branch l a code st stack = go (nat_le l (length a.labels)) (split_last (take (length a.labels - l) a.labels))
      where
        go : (b : Bool) (o : Option (List Label × Label))
            → (if b then branch_to (store_of fx st.bytes) (frame m a code st stack) a.callers o else trap_now)
            ≡ (if b then branch_to (store_of fx st.bytes) (frame m a [] st stack) a.callers o else trap_now)
        go true None = refl
        go true (Some x) = refl
        go false o = refl

    branch_leads : (l : ℕ) (a : Around) (rest : List Instr) (c : Config) (code : List Instr) (st : State)
        (stack : List Value)
        → reduce modules c ≡ branch_by (store_of fx st.bytes) (frame m a code st stack) a.callers l
        → Leads modules fx w m a rest c st.out (Branched l st stack)
    branch_leads l a rest c code st stack e =
        let to : Progress = branch_by (store_of fx st.bytes) (frame m a [] st stack) a.callers l in
        silent modules c to.0 st.out (e ∙ same_branch l a code st stack
        ∙ ap (λ (x : List ℕ). got to.0 x) (branched_silent (store_of fx st.bytes) (frame m a [] st stack) a.callers
        l))

    return_leads : (a : Around) (rest : List Instr) (c : Config) (code : List Instr) (st : State) (stack : List Value)
        → reduce modules c ≡ branch_to (store_of fx st.bytes) (frame m a code st stack) a.callers None
        → Leads modules fx w m a rest c st.out (Returned st stack)
    return_leads a rest c code st stack e =
        let to : Progress = branch_to (store_of fx st.bytes) (frame m a [] st stack) a.callers None in
        silent modules c to.0 st.out (e ∙ ap (λ (x : List ℕ). got to.0 x)
        (found_silent (store_of fx st.bytes) (frame m a [] st stack) a.callers None))

    branch_if_leads : (b : Bool) (l : ℕ) (a : Around) (rest : List Instr) (c : Config) (st : State) (stack : List Value)
        → reduce modules c ≡ (if b then (at fx m a rest st stack, []) else branch_by (store_of fx st.bytes)
        (frame m a rest st stack) a.callers l)
        → Leads modules fx w m a rest c st.out (if b then FellThrough st stack else Branched l st stack)
    branch_if_leads true l a rest c st stack e = silent modules c _ st.out e
    branch_if_leads false l a rest c st stack e = branch_leads l a rest c rest st stack e

    -- an instruction that neither branches nor calls
    plain_leads : (a : Around) (rest : List Instr) (c : Config) (out : List ℕ) (here there : Progress)
        → reduce modules c ≡ here → Same modules fx m a rest out here there
        → Leads modules fx w m a rest c out (of_config out there.0)
    plain_leads a rest c out here there e s = same_leads modules fx m a rest w c out there.0 (e ∙ s)

    -- ---- calls

    put_leads : (o : Option (List Value × ℕ)) (a : Around) (rest : List Instr) (c : Config) (st : State)
        (stack : List Value)
        → reduce modules c ≡ or_trap o (λ p. (at fx m a rest st p.0, p.1 % 256 ∷ []))
        → Leads modules fx w m a rest c st.out
        (let p = or_trap o (λ p. (
          Going (store_of fx st.bytes) (record (alone m st stack) { stack = p.0 }) [],
          p.1 %
              256 ∷ [],
        )) in of_config (st.out ++ p.1) p.0)
    put_leads None a rest c st stack e = one modules c Trapped st.out [] e
    put_leads (Some p) a rest c st stack e = one modules c _ st.out (p.1 % 256 ∷ []) e

    stop_same : (out : List ℕ) (a : Around) (rest : List Instr) (p : List Value × ℕ)
        → Same modules fx m a rest out (stop_with p.1, []) (stop_with p.1, [])
    stop_same out a rest p = go (nat_le 1 p.1 && nat_le p.1 255)
      where
        go : (b : Bool) → got (if b then Over p.1 else Trapped) []
            ≡ (config_of modules fx m a rest (of_config out (if b then Over p.1 else Trapped)), [])
        go true = refl
        go false = refl

    call_leads : (c : Callee) (a : Around) (before rest : List Instr) (st : State) (stack vs : List Value)
        → reduce modules (at fx m a before st stack) ≡ calls_here m a rest st vs c
        → Leads modules fx w m a rest (at fx m a before st stack) st.out (call modules fx calls m c st vs)
    call_leads Put a before rest st stack vs e = put_leads (top_i64 vs) a rest _ st vs e
    call_leads Stop a before rest st stack vs e =
        plain_leads a rest _ st.out _ (call_function modules (store_of fx st.bytes) (alone m st vs) [] Stop) e
        (same_or modules fx m a rest st.out (top_i64 vs) _ _ (stop_same st.out a rest))
    call_leads (Own k f) a before rest st stack vs e =
        or_leads (own_function modules k f) _ _ a rest _ st.out
        (λ t. or_leads (split_end (length t.type.params) vs) _ _ a rest _ st.out
        (λ p e'. good m a before rest st stack p.0 k f t p.1 e')) e

    agreed_leads : (b : Bool) (c : Callee) (a : Around) (before rest : List Instr) (st : State) (stack vs : List Value)
        → reduce modules (at fx m a before st stack) ≡ (if b then calls_here m a rest st vs c else trap_now)
        → Leads modules fx w m a rest (at fx m a before st stack) st.out
        (if b then call modules fx calls m c st vs else Traps st.out)
    agreed_leads true c a before rest st stack vs e = call_leads c a before rest st stack vs e
    agreed_leads false c a before rest st stack vs e = silent modules _ Trapped st.out e

    -- a plain instruction, given by its layer
    same : (x : Instr-F Instr) (i : Instr) → Opens m i x
        → (a : Around) (rest : List Instr) (st : State) (stack : List Value)
        → Same modules fx m a rest st.out (begun_layer modules (store_of fx st.bytes) (frame m a rest st stack)
        a.callers i x) (begun_layer modules (store_of fx st.bytes) (alone m st stack) [] Unreachable x)
        → Leads modules fx w m a rest (at fx m a (i ∷ rest) st stack) st.out
        (of_config st.out (begun_layer modules (store_of fx st.bytes) (alone m st stack) [] Unreachable x).0)
    same x i h a rest st stack s = plain_leads a rest _ st.out _
        (begun_layer modules (store_of fx st.bytes) (alone m st stack) [] Unreachable x) (h a rest st stack) s

    layer_leads : (i : Instr) (y : Instr-F S) → Opens m i (bare y)
        → (a : Around) (rest : List Instr) (st : State) (stack : List Value)
        → Leads modules fx w m a rest (at fx m a (i ∷ rest) st stack) st.out
        (does_layer modules fx n calls m (map-Instr Instr Does doing (bare y)) st stack)
    layer_leads i layer.Unreachable h a rest st stack = silent modules _ Trapped st.out (h a rest st stack)
    layer_leads i (layer.Block t ss) h a rest st stack =
        inside_leads (results_of t) ss (i ∷ rest) a rest st stack stack (h a rest st stack)
    layer_leads i (layer.Loop t ss) h a rest st stack =
        turns_lead modules fx m a w (i ∷ rest) (map (λ e. e.0) ss) rest (exec (map doing (map (λ e. e.0) ss)))
        (λ s vs. h a rest s vs) (λ l s vs. whole_leads ss (under a l) s vs) n w le (omega arith) st stack
    layer_leads i (layer.If t ss None) h a rest st stack =
        or_leads (top_i32 stack) _ _ a rest _ st.out
        (λ p e. either_leads (p.1 == 0) (results_of t) [] ss (i ∷ rest) a rest st stack p.0 e) (h a rest st stack)
    layer_leads i (layer.If t ss (Some rs)) h a rest st stack =
        or_leads (top_i32 stack) _ _ a rest _ st.out
        (λ p e. either_leads (p.1 == 0) (results_of t) rs ss (i ∷ rest) a rest st stack p.0 e) (h a rest st stack)
    layer_leads i (layer.Br l) h a rest st stack = branch_leads l a rest _ rest st stack (h a rest st stack)
    layer_leads i (layer.BrIf l) h a rest st stack =
        or_leads (top_i32 stack) _ _ a rest _ st.out (λ p e. branch_if_leads (p.1 == 0) l a rest _ st p.0 e)
        (h a rest st stack)
    layer_leads i (layer.BrTable ls l) h a rest st stack =
        or_leads (top_i32 stack) _ _ a rest _ st.out
        (λ p e. branch_leads (slice_index_or ls p.1 l) a rest _ rest st p.0 e) (h a rest st stack)
    layer_leads i layer.Return h a rest st stack = return_leads a rest _ rest st stack (h a rest st stack)
    layer_leads i (layer.Call f) h a rest st stack =
        or_leads (callee_at (store_of fx st.bytes) m f) _ _ a rest _ st.out
        (λ c e. call_leads c a (i ∷ rest) rest st stack stack e) (h a rest st stack)
    layer_leads i (layer.CallIndirect t) h a rest st stack =
        or_leads (top_i32 stack) _ _ a rest _ st.out
        (λ p. or_leads (callee_in (store_of fx st.bytes) m p.1) _ _ a rest _ st.out
        (λ c e. agreed_leads (agree (type_at modules m t) (callee_type modules c)) c a (i ∷ rest) rest st stack p.0
        e)) (h a rest st stack)
    layer_leads i layer.Drop h a rest st stack =
        same layer.Drop i h a rest st stack (same_or modules fx m a rest st.out (split_last stack) _ _ (λ p. refl))
    layer_leads i (layer.LocalGet x) h a rest st stack =
        same (layer.LocalGet x) i h a rest st stack
        (same_or modules fx m a rest st.out (slice_get st.locals x) _ _ (λ v. refl))
    layer_leads i (layer.LocalSet x) h a rest st stack =
        same (layer.LocalSet x) i h a rest st stack
        (same_or modules fx m a rest st.out (split_last stack) _ _
        (λ p. same_if modules fx m a rest st.out (nat_lt x (length st.locals)) _ _ refl))
    layer_leads i (layer.LocalTee x) h a rest st stack =
        same (layer.LocalTee x) i h a rest st stack
        (same_or modules fx m a rest st.out (topmost stack) _ _
        (λ v. same_if modules fx m a rest st.out (nat_lt x (length st.locals)) _ _ refl))
    layer_leads i (layer.GlobalGet x) h a rest st stack =
        same (layer.GlobalGet x) i h a rest st stack
        (same_or modules fx m a rest st.out (global_at (store_of fx st.bytes) m x) _ _ (λ v. refl))
    layer_leads i (layer.Load kind) h a rest st stack =
        same (layer.Load kind) i h a rest st stack
        (same_or modules fx m a rest st.out (top_i32 stack) _ _
        (λ p. same_memory modules fx m a rest st.out st.bytes _ _
        (same_or modules fx m a rest st.out (bytes_at (load_size kind) p.1 st.bytes) _ _ (λ bytes. refl))))
    layer_leads i (layer.Store width) h a rest st stack =
        same (layer.Store width) i h a rest st stack
        (same_or modules fx m a rest st.out (top_i64 stack) _ _
        (λ v. same_or modules fx m a rest st.out (top_i32 v.0) _ _
        (λ p. same_memory modules fx m a rest st.out st.bytes _ _
        (same_if modules fx m a rest st.out (nat_le (p.1 + length (store_bytes width v.1)) (length st.bytes)) _ _
        refl))))
    layer_leads i (layer.I32Const k) h a rest st stack = same (layer.I32Const k) i h a rest st stack refl
    layer_leads i (layer.I64Const k) h a rest st stack = same (layer.I64Const k) i h a rest st stack refl
    layer_leads i (layer.Numeric o) h a rest st stack =
        same (layer.Numeric o) i h a rest st stack
        (same_or modules fx m a rest st.out (calculation o stack) _ _ (λ p. refl))

    does_is : (i : Instr) → doing i ≡ does_layer modules fx n calls m (map-Instr Instr Does doing (out-Instr i))
    unfolding does
    does_is i = fold_out-Instr Does (does_layer modules fx n calls m) i

    stepped : (y : Instr-F S) → P (roll-Instr (bare y))
    stepped y a rest st stack =
        let i : Instr = roll-Instr (bare y) in
        let e : out-Instr i ≡ bare y = out-roll-Instr (bare y) in
        let d : doing i ≡ does_layer modules fx n calls m (map-Instr Instr Does doing (bare y)) =
        does_is i ∙ ap (λ (x : Instr-F Instr). does_layer modules fx n calls m (map-Instr Instr Does doing x)) e
        in
        subst (λ (go : Does). Leads modules fx w m a rest (at fx m a (i ∷ rest) st stack) st.out (go st stack)) (sym d)
        (layer_leads i y (opens m i (bare y) e) a rest st stack)

    pub instr_leads : (i : Instr) → P i
    instr_leads = ind-Instr P (λ x y e. subst (λ (z : Instr-F Instr). P (roll-Instr z)) e (stepped y))

    pub code_leads : (code : List Instr) (a : Around) (rest : List Instr) (st : State) (stack : List Value)
        → Leads modules fx w m a rest (at fx m a (code ++ rest) st stack) st.out
        (effect modules fx n calls m code st stack)
    code_leads [] a rest st stack = none modules _ st.out
    code_leads (i ∷ is) a rest st stack =
        then_leads modules fx m a w (is ++ rest) rest _ st.out (effect modules fx n calls m is) (doing i st stack)
        (instr_leads i a (is ++ rest) st stack) (λ s vs. code_leads is a rest s vs)

    pub body_leads : (code : List Instr) (a : Around) (st : State) (stack : List Value)
        → Leads modules fx w m a [] (at fx m a code st stack) st.out (effect modules fx n calls m code st stack)
    body_leads code a st stack =
        subst (λ (is : List Instr). Leads modules fx w m a [] (at fx m a is st stack) st.out
        (effect modules fx n calls m code st stack)) (append-nil code) (code_leads code a [] st stack)

  module _ (extra : (k f : ℕ) → ℕ) where
    pub calls_lead : (n d w : ℕ) → w ≤ n → w ≤ d → CallsLead w (calling modules fx extra n d)
    unfolding calling
    calls_lead n zero zero le le' m a before rest st stack below k f t args e =
        still modules fx m a (at fx m a before st stack) st.out _ _ _
    calls_lead n zero (suc w) le le' m a before rest st stack below k f t args e = absurd (omega (arith, le'))
    calls_lead n (suc d) zero le le' m a before rest st stack below k f t args e =
        let caller : Activation = frame m a rest st below in
        let did : Effect = calling modules fx extra n (suc d) k f t args st.bytes st.out in
        let inner = callee modules fx m a (length t.type.results) caller in
        behind modules fx m a 0 rest _ (callee_begins m a rest st below k t args) st.out st.out
        (back (length t.type.results) st.locals below did) (silent modules _ _ st.out e)
        (back_leads modules fx m a 0 k (length t.type.results) rest (callee_begins m a rest st below k t args) st.out st
        below did
        (body_leads (n + extra k f) 0 (omega arith) (calling modules fx extra n d) (calls_lead n d 0 le (omega arith)) k
        t.function.body.code inner (record {
          locals = (enter_function k t args).locals;
          bytes = st.bytes;
          out =
              st.out;
        }) []))
    calls_lead n (suc d) (suc w) le le' m a before rest st stack below k f t args e =
        let caller : Activation = frame m a rest st below in
        let did : Effect = calling modules fx extra n (suc d) k f t args st.bytes st.out in
        let inner = callee modules fx m a (length t.type.results) caller in
        begins modules fx m a w rest _ (callee_begins m a rest st below k t args) st.out
        (back (length t.type.results) st.locals below did) e
        (back_leads modules fx m a w k (length t.type.results) rest (callee_begins m a rest st below k t args) st.out st
        below did
        (body_leads (n + extra k f) w (omega (arith, le)) (calling modules fx extra n d)
        (calls_lead n d w (omega (arith, le)) (omega (arith, le'))) k t.function.body.code inner
        (record { locals = (enter_function k t args).locals; bytes = st.bytes; out = st.out }) []))

pub follows : Follows
follows modules fx extra n m a code rest st stack =
    code_leads modules fx n n (omega arith) (calling modules fx extra n n)
    (calls_lead modules fx extra n n n (omega arith) (omega arith)) m code a rest st stack

-- ---- a whole run

-- the function that began the run ends with these operands
abbrev outermost : (arity : ℕ) → Around
outermost arity = record { arity = arity; labels = []; callers = [] }

module _ (modules : List WModule) (fx : Fixed) (w m arity : ℕ) (c : Config) where
  abbrev over : State → List Value → Progress
  over st stack = branch_to (store_of fx st.bytes) (frame m (outermost arity) [] st stack) [] None

  abbrev cut : List Value → Bool → Option (List Value × List Value)
  cut stack b = if b then Some (take (length stack - arity) stack, drop (length stack - arity) stack) else None

  over_is : (st : State) (stack : List Value)
      → (over st stack).0 ≡ (if nat_le arity (length stack) then Over 0 else Trapped)
  over_is st stack = go (nat_le arity (length stack))
    where
      go : (b : Bool) → (or_trap (cut stack b) (λ p. return_to (store_of fx st.bytes) [] p.1)).0
          ≡ (if b then Over 0 else Trapped)
      go true = refl
      go false = refl

  ends : (st : State) (stack : List Value)
      → reduce modules (at fx m (outermost arity) [] st stack) ≡ ((over st stack).0, [])
  unfolding reduce
  ends st stack = ap (λ (x : List ℕ). got (over st stack).0 x)
      (found_silent (store_of fx st.bytes) (frame m (outermost arity) [] st stack) [] None)

  to_over : (st : State) (stack : List Value) → Reaches modules c [] (over st stack).0 st.out
      → Reaches modules c [] (if nat_le arity (length stack) then Over 0 else Trapped) st.out
  to_over st stack r = subst (λ (d : Config). Reaches modules c [] d st.out) (over_is st stack) r

  abbrev if_over : State → List Value → (k : ℕ) → Bool → Progress
  if_over st stack k b = if b then branch_to (store_of fx st.bytes) (frame m (outermost arity) [] st stack) []
      (split_last (take (0 - suc k) [])) else trap_now

  run_leads_from : (e : Effect) → Leads modules fx w m (outermost arity) [] c [] e → RunLeads modules w arity c e
  run_leads_from (FellThrough st stack) l =
      to_over st stack (join modules c _ _ [] st.out st.out l
      (silent modules _ (over st stack).0 st.out (ends st stack)))
  run_leads_from (Branched zero st stack) l = to_over st stack l
  run_leads_from (Branched (suc k) st stack) l =
      subst (λ (b : Bool). Reaches modules c [] (if_over st stack k b).0 st.out) (leb-suc-zero k) l
  run_leads_from (Returned st stack) l = to_over st stack l
  run_leads_from (Ended k out) l = l
  run_leads_from (Traps out) l = l
  run_leads_from (StillRunning out) l = l

pub runs : Runs
unfolding calling
runs modules fx extra n m f t bytes =
    run_leads_from modules fx n m (length t.type.results) _ (calling modules fx extra n (suc n) m f t [] bytes [])
    (body_leads modules fx (n + extra m f) n (omega arith) (calling modules fx extra n n)
    (calls_lead modules fx extra n n n (omega arith) (omega arith)) m t.function.body.code
    (outermost (length t.type.results))
    (record { locals = (enter_function m t []).locals; bytes = bytes; out = [] }) [])

-- ---- where some functions serve the others

module _ (modules : List WModule) (fx : Fixed) (serves : (k f : ℕ) → Bool) (extra : (k f : ℕ) → ℕ) where
  -- what a call leads to, whether its function serves or not
  either : (w m : ℕ) (a : Around) (rest : List Instr) (c : Config) (out : List ℕ) (arity : ℕ)
      (locals below : List Value) (first second : Effect) (b : Bool)
      → (b ≡ true → Leads modules fx w m a rest c out (back arity locals below first))
      → (b ≡ false → Leads modules fx w m a rest c out (back arity locals below second))
      → Leads modules fx w m a rest c out (back arity locals below (if b then first else second))
  either w m a rest c out arity locals below first second true h g = h refl
  either w m a rest c out arity locals below first second false h g = g refl

  pub nested_lead : (n d w : ℕ) → w ≤ n → w ≤ d → CallsLead modules fx w (nest_calls modules fx serves extra n d)
  unfolding nest_calls
  nested_lead n zero zero le le' m a before rest st stack below k f t args e =
      either 0 m a rest (at fx m a before st stack) st.out (length t.type.results) st.locals below
      (calling modules fx extra n (suc (suc n)) k f t args st.bytes st.out) (StillRunning st.out) (serves k f)
      (λ b. calls_lead modules fx extra n (suc (suc n)) 0 le (omega arith) m a before rest st stack below k f t args e)
      (λ b. still modules fx m a (at fx m a before st stack) st.out _ _ _)
  nested_lead n zero (suc w) le le' m a before rest st stack below k f t args e = absurd (omega (arith, le'))
  nested_lead n (suc d) zero le le' m a before rest st stack below k f t args e =
      let caller : Activation = frame m a rest st below in
      let start : State = record { locals = (enter_function k t args).locals; bytes = st.bytes; out = st.out } in
      let did : Effect = effect modules fx (n + extra k f) (nest_calls modules fx serves extra n d) k
      t.function.body.code start [] in
      let inner = callee modules fx m a (length t.type.results) caller in
      either 0 m a rest (at fx m a before st stack) st.out (length t.type.results) st.locals below
      (calling modules fx extra n (suc (suc n)) k f t args st.bytes st.out) did (serves k f)
      (λ b. calls_lead modules fx extra n (suc (suc n)) 0 le (omega arith) m a before rest st stack below k f t args e)
      (λ b. behind modules fx m a 0 rest _ (callee_begins modules fx m a rest st below k t args) st.out st.out
      (back (length t.type.results) st.locals below did) (silent modules _ _ st.out e)
      (back_leads modules fx m a 0 k (length t.type.results) rest (callee_begins modules fx m a rest st below k t args)
      st.out st below did
      (body_leads modules fx (n + extra k f) 0 (omega arith) (nest_calls modules fx serves extra n d)
      (nested_lead n d 0 le (omega arith)) k t.function.body.code inner start [])))
  nested_lead n (suc d) (suc w) le le' m a before rest st stack below k f t args e =
      let caller : Activation = frame m a rest st below in
      let start : State = record { locals = (enter_function k t args).locals; bytes = st.bytes; out = st.out } in
      let did : Effect = effect modules fx (n + extra k f) (nest_calls modules fx serves extra n d) k
      t.function.body.code start [] in
      let inner = callee modules fx m a (length t.type.results) caller in
      either (suc w) m a rest (at fx m a before st stack) st.out (length t.type.results) st.locals below
      (calling modules fx extra n (suc (suc n)) k f t args st.bytes st.out) did (serves k f)
      (λ b. calls_lead modules fx extra n (suc (suc n)) (suc w) le (omega (arith, le)) m a before rest st stack below k
      f t args e)
      (λ b. begins modules fx m a w rest _ (callee_begins modules fx m a rest st below k t args) st.out
      (back (length t.type.results) st.locals below did) e
      (back_leads modules fx m a w k (length t.type.results) rest (callee_begins modules fx m a rest st below k t args)
      st.out st below did
      (body_leads modules fx (n + extra k f) w (omega (arith, le)) (nest_calls modules fx serves extra n d)
      (nested_lead n d w (omega (arith, le)) (omega (arith, le'))) k t.function.body.code inner start [])))

pub nested_follows : NestedFollows
nested_follows modules fx serves extra n d m le a code rest st stack =
    code_leads modules fx n n (omega arith) (nest_calls modules fx serves extra n d)
    (nested_lead modules fx serves extra n d n (omega arith) le) m code a rest st stack

pub nested_runs : NestedRuns
unfolding nest_calls
nested_runs modules fx serves extra n d m f le none t bytes =
    let start : State = record { locals = (enter_function m t []).locals; bytes = bytes; out = [] } in
    let first : Effect = calling modules fx extra n (suc (suc n)) m f t [] bytes [] in
    let did : Effect = effect modules fx (n + extra m f) (nest_calls modules fx serves extra n d) m t.function.body.code
    start [] in
    subst (λ (b : Bool). RunLeads modules n (length t.type.results)
    (Going (store_of fx bytes) (enter_function m t []) []) (if b then first else did)) (sym none)
    (run_leads_from modules fx n m (length t.type.results) _ did
    (body_leads modules fx (n + extra m f) n (omega arith) (nest_calls modules fx serves extra n d)
    (nested_lead modules fx serves extra n d n (omega arith) le) m t.function.body.code
    (outermost (length t.type.results))
    start []))
