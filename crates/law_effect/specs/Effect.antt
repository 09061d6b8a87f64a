-- What nested code of a module does, as a function: each loop is begun at most n times, and calls
-- nest at most n deep. The loops of a function may be given more turns.
use Rattle.std.specs.Prelude.{ℕ, zero, suc, ◌+◌, ◌==◌, Bool, List, [], ◌∷◌, ◌++◌, length, map, slice_index_or, Option, Some, None, if◌then◌else◌}
use Rattle.wasm_tree.specs.declared.instr.Instr.{Instr, Instr-F, map-Instr, fold-Instr}
use Rattle.wasm_tree.specs.declared.instr.Instr.TheOpen as layer
use Rattle.wasm_tree.specs.declared.instr.Instr.TheVariants.{Unreachable}
use Rattle.wasm_tree.specs.declared.module.WModule.{WModule}
use Rattle.wasm_tree.specs.declared.store.Value.{Value}
use Rattle.wasm_tree.specs.declared.store.Callee.{Callee}
use Rattle.wasm_tree.specs.declared.store.Callee.TheVariants.{Put, Stop, Own}
use Rattle.wasm_tree.specs.declared.store.Table.{Table}
use Rattle.wasm_tree.specs.declared.store.Memory.{Memory}
use Rattle.wasm_tree.specs.declared.store.Instance.{Instance}
use Rattle.wasm_tree.specs.declared.store.Store.{Store}
use Rattle.wasm_tree.specs.Machine.{Activation, Config, Going, Over, Trapped, Typed, split_end, keep_operands, top_i32, callee_at, callee_in, own_function, type_at, callee_type, agree, enter_function, call_function, begun_layer, results_of}

-- what a run does not change: all of the store but the bytes of the one memory
pub record Fixed : Type 0 where
  pub functions : List Callee
  pub tables : List Table
  pub globals : List Value
  pub instances : List Instance
  pub max : Option ℕ

-- the locals of the running function, the memory's bytes, and what was printed
pub record State : Type 0 where
  pub locals : List Value
  pub bytes : List ℕ
  pub out : List ℕ

abbrev pub store_of : Fixed → (bytes : List ℕ) → Store
store_of fx bytes = record {
  functions = fx.functions;
  tables = fx.tables;
  memories = record { bytes = bytes; max = fx.max } ∷ [];
  globals = fx.globals;
  instances = fx.instances;
}

-- what code does: it falls through, branches to the label of this number outside of the code,
-- returns, ends the run, traps, or still runs. The operands come with it, the last one on top; a
-- label or the end of a function keeps what it asks for
pub data Effect : Type 0 where
  FellThrough : (st : State) (stack : List Value) → Effect
  Branched : (label : ℕ) (st : State) (stack : List Value) → Effect
  Returned : (st : State) (stack : List Value) → Effect
  Ended : (number : ℕ) (out : List ℕ) → Effect
  Traps : (out : List ℕ) → Effect
  StillRunning : (out : List ℕ) → Effect

abbrev pub Does : Type 0
Does = State → List Value → Effect

-- what a call of the function f of the module k does, with these arguments, bytes and printed bytes
abbrev pub Calling : Type 0
Calling = (k f : ℕ) → Typed → (args : List Value) (bytes out : List ℕ) → Effect

abbrev pub or_traps : {A : Type 0} → List ℕ → Option A → (A → Effect) → Effect
or_traps out None go = Traps out
or_traps out (Some x) go = go x

abbrev pub then_run : Effect → Does → Effect
then_run (FellThrough st stack) go = go st stack
then_run (Branched k st stack) go = Branched k st stack
then_run (Returned st stack) go = Returned st stack
then_run (Ended k out) go = Ended k out
then_run (Traps out) go = Traps out
then_run (StillRunning out) go = StillRunning out

-- one after the other
abbrev pub exec : List Does → Does
exec [] st stack = FellThrough st stack
exec (d ∷ ds) st stack = then_run (d st stack) (exec ds)

-- a branch to a label: this many operands are kept above those that stood below the block
abbrev pub to_label : (arity height : ℕ) → State → List Value → Does → Effect
to_label arity height st stack go =
    or_traps st.out (split_end arity stack) (λ p. go st (keep_operands height p))

-- out of a block that began above this many operands
abbrev pub out_of : (arity height : ℕ) → Effect → Effect
out_of arity height (FellThrough st stack) = FellThrough st stack
out_of arity height (Branched zero st stack) = to_label arity height st stack FellThrough
out_of arity height (Branched (suc k) st stack) = Branched k st stack
out_of arity height (Returned st stack) = Returned st stack
out_of arity height (Ended k out) = Ended k out
out_of arity height (Traps out) = Traps out
out_of arity height (StillRunning out) = StillRunning out

-- one turn of a loop, and the next one
abbrev pub turn : (height : ℕ) → Effect → Does → Effect
turn height (FellThrough st stack) next = FellThrough st stack
turn height (Branched zero st stack) next = to_label 0 height st stack next
turn height (Branched (suc k) st stack) next = Branched k st stack
turn height (Returned st stack) next = Returned st stack
turn height (Ended k out) next = Ended k out
turn height (Traps out) next = Traps out
turn height (StillRunning out) next = StillRunning out

-- at most this many turns
abbrev pub turns : ℕ → (body : Does) → Does
turns zero body st stack = StillRunning st.out
turns (suc k) body st stack = turn (length stack) (body st stack) (turns k body)

-- back in the caller, whose locals and operands were these, with this many results
abbrev pub back_with : (arity : ℕ) (locals below : List Value) → State → List Value → Effect
back_with arity locals below st stack =
    or_traps st.out (split_end arity stack) (λ p.
    FellThrough (record st { locals = locals }) (below ++ p.1))

abbrev pub back : (arity : ℕ) (locals below : List Value) → Effect → Effect
back arity locals below (FellThrough st stack) = back_with arity locals below st stack
back arity locals below (Branched zero st stack) = back_with arity locals below st stack
back arity locals below (Branched (suc k) st stack) = Traps st.out
back arity locals below (Returned st stack) = back_with arity locals below st stack
back arity locals below (Ended k out) = Ended k out
back arity locals below (Traps out) = Traps out
back arity locals below (StillRunning out) = StillRunning out

-- what the machine came to by one reduction, of an instruction that neither branches nor calls
abbrev pub bytes_of : List Memory → List ℕ
bytes_of [] = []
bytes_of (m ∷ ms) = m.bytes

abbrev pub of_config : (out : List ℕ) → Config → Effect
of_config out (Going st now callers) =
    FellThrough (record { locals = now.locals; bytes = bytes_of st.memories; out = out }) now.stack
of_config out (Over k) = Ended k out
of_config out Trapped = Traps out

-- the function that runs, with nothing around it
abbrev pub alone : (m : ℕ) → State → List Value → Activation
alone m st stack =
    record { instance = m; arity = 0; locals = st.locals; labels = []; rest = []; stack = stack }

abbrev pub pick_branch : (condition : ℕ) → List Does → Option (List Does) → List Does
pick_branch condition body None = if condition == 0 then [] else body
pick_branch condition body (Some otherwise) = if condition == 0 then otherwise else body

module _ (modules : List WModule) (fx : Fixed) where
  -- the machine's own meaning
  abbrev pub plainly : (m : ℕ) → Instr-F Does → Does
  plainly m x st stack =
      of_config st.out
      (begun_layer modules (store_of fx st.bytes) (alone m st stack) [] Unreachable
      (map-Instr Does Instr (λ d. Unreachable) x)).0

  -- the caller is the module of the number m
  abbrev pub call : Calling → (m : ℕ) → Callee → Does
  call calls m Put st stack =
      let p = call_function modules (store_of fx st.bytes) (alone m st stack) [] Put in
      of_config (st.out ++ p.1) p.0
  call calls m Stop st stack =
      of_config st.out (call_function modules (store_of fx st.bytes) (alone m st stack) [] Stop).0
  call calls m (Own k f) st stack =
      or_traps st.out (own_function modules k f) (λ t.
      or_traps st.out (split_end (length t.type.params) stack) (λ p.
      back (length t.type.results) st.locals p.0 (calls k f t p.1 st.bytes st.out)))

  abbrev pub does_layer : (n : ℕ) → Calling → (m : ℕ) → Instr-F Does → Does
  does_layer n calls m (layer.Block t body) st stack =
      out_of (results_of t) (length stack) (exec body st stack)
  does_layer n calls m (layer.Loop t body) st stack = turns n (exec body) st stack
  does_layer n calls m (layer.If t body otherwise) st stack =
      or_traps st.out (top_i32 stack) (λ p.
      out_of (results_of t) (length p.0) (exec (pick_branch p.1 body otherwise) st p.0))
  does_layer n calls m (layer.Br l) st stack = Branched l st stack
  does_layer n calls m (layer.BrIf l) st stack =
      or_traps st.out (top_i32 stack) (λ p.
      if p.1 == 0 then FellThrough st p.0 else Branched l st p.0)
  does_layer n calls m (layer.BrTable ls l) st stack =
      or_traps st.out (top_i32 stack) (λ p. Branched (slice_index_or ls p.1 l) st p.0)
  does_layer n calls m layer.Return st stack = Returned st stack
  does_layer n calls m (layer.Call f) st stack =
      or_traps st.out (callee_at (store_of fx st.bytes) m f) (λ c. call calls m c st stack)
  does_layer n calls m (layer.CallIndirect t) st stack =
      or_traps st.out (top_i32 stack) (λ p.
      or_traps st.out (callee_in (store_of fx st.bytes) m p.1) (λ c.
      if agree (type_at modules m t) (callee_type modules c)
      then call calls m c st p.0
      else Traps st.out))
  does_layer n calls m x st stack = plainly m x st stack

  -- what an instruction does, and what code does
  unfoldable pub does : (n : ℕ) → Calling → (m : ℕ) → Instr → Does
  does n calls m = fold-Instr Does (does_layer n calls m)

  abbrev pub effect : (n : ℕ) → Calling → (m : ℕ) → List Instr → Does
  effect n calls m code = exec (map (does n calls m) code)

  -- calls that nest at most d deep. The loops of the function f of the module k are begun extra k f
  -- more times at most
  unfoldable pub calling : (extra : (k f : ℕ) → ℕ) (n d : ℕ) → Calling
  calling extra n zero k f t args bytes out = StillRunning out
  calling extra n (suc d) k f t args bytes out =
      effect (n + extra k f) (calling extra n d) k t.function.body.code
      (record { locals = (enter_function k t args).locals; bytes = bytes; out = out }) []

  -- Calls that nest at most d deep. Functions that serve the others do not count: they call as deep
  -- as they need to.
  unfoldable pub nest_calls : (serves : (k f : ℕ) → Bool) (extra : (k f : ℕ) → ℕ) (n d : ℕ)
      → Calling
  nest_calls serves extra n zero k f t args bytes out =
      if serves k f then calling extra n (suc (suc n)) k f t args bytes out else StillRunning out
  nest_calls serves extra n (suc d) k f t args bytes out =
      if serves k f
      then calling extra n (suc (suc n)) k f t args bytes out
      else effect (n + extra k f) (nest_calls serves extra n d) k t.function.body.code
      (record { locals = (enter_function k t args).locals; bytes = bytes; out = out }) []
