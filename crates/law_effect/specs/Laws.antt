-- The machine does what the effect of the code says.
use Rattle.std.specs.Prelude.{◌≡◌, ℕ, zero, suc, ◌≤◌, Bool, false, List, [], ◌++◌, length, nat_le, Option, Some, None, if◌then◌else◌}
use Rattle.wasm_tree.specs.declared.instr.Instr.{Instr}
use Rattle.wasm_tree.specs.declared.module.WModule.{WModule}
use Rattle.wasm_tree.specs.declared.store.Value.{Value}
use Rattle.wasm_tree.specs.declared.store.Store.{Store}
use Rattle.wasm_tree.specs.Machine.{Label, Activation, Config, Going, Over, Trapped, Progress, Typed, enter_function, branch_to, branch_by, run}
use Rattle.law_effect.specs.Effect.{Fixed, State, store_of, Effect, FellThrough, Branched, Returned, Ended, Traps, StillRunning, effect, calling, nest_calls}

-- what stands around the code that runs: how many results its function has, the labels, and the
-- callers
pub record Around : Type 0 where
  pub arity : ℕ
  pub labels : List Label
  pub callers : List Activation

-- the function of the module m runs there
abbrev pub frame : (m : ℕ) → Around → (code : List Instr) → State → List Value → Activation
frame m a code st stack = record {
  instance = m;
  arity = a.arity;
  locals = st.locals;
  labels = a.labels;
  rest = code;
  stack = stack;
}

abbrev pub at : Fixed → (m : ℕ) → Around → (code : List Instr) → State → List Value → Config
at fx m a code st stack = Going (store_of fx st.bytes) (frame m a code st stack) a.callers

-- a run, with what was printed before
abbrev pub after : (out : List ℕ) → Progress → Progress
after out p = (p.0, out ++ p.1)

-- from one configuration to another. First and last are what was printed until then
pub record Reaches (modules : List WModule) (c : Config) (first : List ℕ) (d : Config)
    (last : List ℕ) : Type 0 where
  pub count : ℕ
  pub path : after first (run modules count c) ≡ (d, last)

-- after this many reductions or more it still runs, and has printed this
pub record GoesOn (modules : List WModule) (least : ℕ) (c : Config) (first last : List ℕ)
    : Type 0 where
  pub count : ℕ
  pub enough : least ≤ count
  pub store : Store
  pub now : Activation
  pub callers : List Activation
  pub path : after first (run modules count c) ≡ (Going store now callers, last)

-- where an effect leads, with this code behind it
abbrev pub Leads : List WModule → Fixed → (least m : ℕ) → Around → (code : List Instr) → Config
    → (first : List ℕ) → Effect → Type 0
Leads modules fx least m a code c first (FellThrough st stack) =
    Reaches modules c first (at fx m a code st stack) st.out
Leads modules fx least m a code c first (Branched k st stack) =
    Reaches modules c first (branch_by (store_of fx st.bytes) (frame m a [] st stack) a.callers k).0
    st.out
Leads modules fx least m a code c first (Returned st stack) =
    Reaches modules c first
    (branch_to (store_of fx st.bytes) (frame m a [] st stack) a.callers None).0 st.out
Leads modules fx least m a code c first (Ended k out) = Reaches modules c first (Over k) out
Leads modules fx least m a code c first (Traps out) = Reaches modules c first Trapped out
Leads modules fx least m a code c first (StillRunning out) = GoesOn modules least c first out

-- from each configuration with this code in front the machine comes to what the effect says
abbrev pub Follows : Type 0
Follows =
    (modules : List WModule) (fx : Fixed) (extra : (k f : ℕ) → ℕ) (n m : ℕ) (a : Around)
    (code rest : List Instr) (st : State) (stack : List Value)
    → Leads modules fx n m a rest (at fx m a (code ++ rest) st stack) st.out
    (effect modules fx n (calling modules fx extra n n) m code st stack)

-- where a run leads whose first function is to give this many results
abbrev pub RunLeads : List WModule → (least arity : ℕ) → Config → Effect → Type 0
RunLeads modules least arity c (FellThrough st stack) =
    Reaches modules c [] (if nat_le arity (length stack) then Over 0 else Trapped) st.out
RunLeads modules least arity c (Branched zero st stack) =
    Reaches modules c [] (if nat_le arity (length stack) then Over 0 else Trapped) st.out
RunLeads modules least arity c (Branched (suc k) st stack) = Reaches modules c [] Trapped st.out
RunLeads modules least arity c (Returned st stack) =
    Reaches modules c [] (if nat_le arity (length stack) then Over 0 else Trapped) st.out
RunLeads modules least arity c (Ended k out) = Reaches modules c [] (Over k) out
RunLeads modules least arity c (Traps out) = Reaches modules c [] Trapped out
RunLeads modules least arity c (StillRunning out) = GoesOn modules least c [] out

-- a run that begins in the function f of the module m
abbrev pub Runs : Type 0
Runs =
    (modules : List WModule) (fx : Fixed) (extra : (k f : ℕ) → ℕ) (n m f : ℕ) (t : Typed)
    (bytes : List ℕ)
    → RunLeads modules n (length t.type.results)
    (Going (store_of fx bytes) (enter_function m t []) [])
    (calling modules fx extra n (suc n) m f t [] bytes [])

-- what the effect of this run's function says that the run comes to, unless it still runs
abbrev pub comes : (arity : ℕ) → Effect → Option Progress
comes arity (FellThrough st stack) =
    Some (if nat_le arity (length stack) then Over 0 else Trapped, st.out)
comes arity (Branched zero st stack) =
    Some (if nat_le arity (length stack) then Over 0 else Trapped, st.out)
comes arity (Branched (suc k) st stack) = Some (Trapped, st.out)
comes arity (Returned st stack) =
    Some (if nat_le arity (length stack) then Over 0 else Trapped, st.out)
comes arity (Ended k out) = Some (Over k, out)
comes arity (Traps out) = Some (Trapped, out)
comes arity (StillRunning out) = None

abbrev pub output_shown : Effect → List ℕ
output_shown (FellThrough st stack) = st.out
output_shown (Branched k st stack) = st.out
output_shown (Returned st stack) = st.out
output_shown (Ended k out) = out
output_shown (Traps out) = out
output_shown (StillRunning out) = out

abbrev pub IsOver : Config → Type 0
IsOver (Going store now callers) = ⊥
IsOver (Over k) = Unit {0}
IsOver Trapped = Unit {0}

-- a run that is over after j reductions is what the effect with the bound j says
abbrev pub Only : Type 0
Only =
    (modules : List WModule) (fx : Fixed) (extra : (k f : ℕ) → ℕ) (m f : ℕ) (t : Typed)
    (bytes : List ℕ) (j : ℕ) (d : Config) (out : List ℕ)
    → IsOver d
    → run modules j (Going (store_of fx bytes) (enter_function m t []) []) ≡ (d, out)
    → comes (length t.type.results) (calling modules fx extra j (suc j) m f t [] bytes [])
    ≡ Some (d, out)

-- what was printed after j reductions is a beginning of what the effect with the bound j prints
abbrev pub Prints : Type 0
Prints =
    (modules : List WModule) (fx : Fixed) (extra : (k f : ℕ) → ℕ) (m f : ℕ) (t : Typed)
    (bytes : List ℕ) (j : ℕ)
    → (rest : List ℕ)
    × (output_shown (calling modules fx extra j (suc j) m f t [] bytes [])
    ≡ (run modules j (Going (store_of fx bytes) (enter_function m t []) [])).1 ++ rest)

-- ---- if some functions serve the others

abbrev pub NestedFollows : Type 0
NestedFollows =
    (modules : List WModule) (fx : Fixed) (serves : (k f : ℕ) → Bool) (extra : (k f : ℕ) → ℕ)
    (n d m : ℕ)
    → n ≤ d
    → (a : Around) (code rest : List Instr) (st : State) (stack : List Value)
    → Leads modules fx n m a rest (at fx m a (code ++ rest) st stack) st.out
    (effect modules fx n (nest_calls modules fx serves extra n d) m code st stack)

-- a run that begins in a function that does not serve
abbrev pub NestedRuns : Type 0
NestedRuns =
    (modules : List WModule) (fx : Fixed) (serves : (k f : ℕ) → Bool) (extra : (k f : ℕ) → ℕ)
    (n d m f : ℕ)
    → n ≤ d
    → serves m f ≡ false
    → (t : Typed) (bytes : List ℕ)
    → RunLeads modules n (length t.type.results)
    (Going (store_of fx bytes) (enter_function m t []) [])
    (nest_calls modules fx serves extra n (suc d) m f t [] bytes [])

abbrev pub NestedOnly : Type 0
NestedOnly =
    (modules : List WModule) (fx : Fixed) (serves : (k f : ℕ) → Bool) (extra : (k f : ℕ) → ℕ)
    (d m f : ℕ)
    → serves m f ≡ false
    → (t : Typed) (bytes : List ℕ) (j : ℕ)
    → j ≤ d
    → (end : Config) (out : List ℕ)
    → IsOver end
    → run modules j (Going (store_of fx bytes) (enter_function m t []) []) ≡ (end, out)
    → comes (length t.type.results) (nest_calls modules fx serves extra j (suc d) m f t [] bytes [])
    ≡ Some (end, out)

abbrev pub NestedPrints : Type 0
NestedPrints =
    (modules : List WModule) (fx : Fixed) (serves : (k f : ℕ) → Bool) (extra : (k f : ℕ) → ℕ)
    (d m f : ℕ)
    → serves m f ≡ false
    → (t : Typed) (bytes : List ℕ) (j : ℕ)
    → j ≤ d
    → (rest : List ℕ)
    × (output_shown (nest_calls modules fx serves extra j (suc d) m f t [] bytes [])
    ≡ (run modules j (Going (store_of fx bytes) (enter_function m t []) [])).1 ++ rest)
