-- Configurations that are well typed under their modules (Core 1.0, the appendix on soundness).
use Rattle.std.specs.Prelude.{◌≡◌, ℕ, List, [], ◌∷◌, ◌++◌, length, map, slice_get, Some}
use Rattle.wasm_tree.specs.declared.kinds.ValueType.{ValueType}
use Rattle.wasm_tree.specs.declared.kinds.FuncType.{FuncType}
use Rattle.wasm_tree.specs.declared.kinds.Limits.{Limits}
use Rattle.wasm_tree.specs.declared.module.Locals.{Locals}
use Rattle.wasm_tree.specs.declared.module.WModule.{WModule}
use Rattle.wasm_tree.specs.declared.store.Value.{Value}
use Rattle.wasm_tree.specs.declared.store.Callee.{Callee}
use Rattle.wasm_tree.specs.declared.store.Table.{Table}
use Rattle.wasm_tree.specs.declared.store.Memory.{Memory}
use Rattle.wasm_tree.specs.declared.store.Instance.{Instance}
use Rattle.wasm_tree.specs.declared.store.Store.{Store}
use Rattle.wasm_tree.specs.Validity.{Context, context, function_context, within, local_types, Leads}
use Rattle.wasm_tree.specs.Machine.{Label, Activation, Config, Going, Over, Trapped, callee_type}
use Rattle.wasm_tree.specs.Linking.{type_of}

-- ---- lists

-- each element leads from one state to the next
abbrev pub Through : {S X : Type 0} → (S → X → S → Type 0) → S → List X → S → Type 0
Through Step first [] last = first ≡ last
Through {S} Step first (x ∷ xs) last = (next : S) × Step first x next × Through Step next xs last

-- the lists are as long, and the relation holds at each place
abbrev pub Pairwise : {X Y : Type 0} → (X → Y → Type 0) → List X → List Y → Type 0
Pairwise R [] [] = Unit {0}
Pairwise R (x ∷ xs) (y ∷ ys) = R x y × Pairwise R xs ys
Pairwise R [] (y ∷ ys) = ⊥
Pairwise R (x ∷ xs) [] = ⊥

-- ---- the store

-- the function at this address has this type
abbrev pub IsCallable : List WModule → Store → (address : ℕ) → FuncType → Type 0
IsCallable modules st a t =
    (c : Callee) × (slice_get st.functions a ≡ Some c) × (callee_type modules c ≡ Some t)

-- the function at this address has the type of this index
abbrev pub IsFunctionAt : List WModule → Store → WModule → (type_index address : ℕ) → Type 0
IsFunctionAt modules st tree i a =
    (t : FuncType) × (slice_get tree.types i ≡ Some t) × IsCallable modules st a t

abbrev pub IsTableAt : Store → Limits → (address : ℕ) → Type 0
IsTableAt st l a = (t : Table) × (slice_get st.tables a ≡ Some t)

abbrev pub IsMemoryAt : Store → Limits → (address : ℕ) → Type 0
IsMemoryAt st l a = (m : Memory) × (slice_get st.memories a ≡ Some m)

abbrev pub IsGlobalAt : Store → ValueType → (address : ℕ) → Type 0
IsGlobalAt st t a = (v : Value) × (slice_get st.globals a ≡ Some v) × (type_of v ≡ t)

-- what the module's indices stand for is what its context says of them
pub record IsInstance (modules : List WModule) (st : Store) (tree : WModule) (i : Instance)
    : Type 0 where
  pub functions : Pairwise (IsFunctionAt modules st tree) (context tree).functions i.functions
  pub tables : Pairwise (IsTableAt st) (context tree).tables i.tables
  pub memories : Pairwise (IsMemoryAt st) (context tree).memories i.memories
  pub globals : Pairwise (IsGlobalAt st) (context tree).globals i.globals

-- the store of these modules, of which the second ones were linked so far
pub record IsStore (modules linked : List WModule) (st : Store) : Type 0 where
  pub instances : Pairwise (IsInstance modules st) linked st.instances
  -- each function has a type
  pub functions : (a : ℕ) (c : Callee) → slice_get st.functions a ≡ Some c
      → (t : FuncType) × (callee_type modules c ≡ Some t)
  -- a slot that is filled has the address of a function
  pub slots : (a : ℕ) (t : Table) (slot f : ℕ) → slice_get st.tables a ≡ Some t
      → slice_get t.slots slot ≡ Some (Some f) → (c : Callee) × (slice_get st.functions f ≡ Some c)

-- ---- labels and activations

-- what code may name and what it gives, above operands that it leaves alone
pub record Level : Type 0 where
  pub context : Context
  pub gives : List ValueType
  pub below : List ValueType

-- the code of a function, outside all blocks
abbrev pub outermost : Context → Level
outermost c = record { context = c; gives = c.returns; below = [] }

-- a block with this label was begun at the first level, and its code is at the second
pub record Opens (outer : Level) (l : Label) (inner : Level) : Type 0 where
  -- what a branch takes
  pub taken : List ValueType
  -- the operands of the outer code that the block leaves alone
  pub between : List ValueType
  pub context : inner.context ≡ within taken outer.context
  pub below : inner.below ≡ outer.below ++ between
  pub arity : l.arity ≡ length taken
  pub height : l.height ≡ length inner.below
  -- where a branch and where the end of the block lead
  pub again : Leads outer.context l.again (between ++ taken) outer.gives
  pub rest : Leads outer.context l.rest (between ++ inner.gives) outer.gives

-- a function of this type with these locals
pub record IsFrame (modules : List WModule) (instance arity : ℕ) (locals : List Value)
    (returns : List ValueType) (c : Context) : Type 0 where
  pub tree : WModule
  pub type : FuncType
  pub groups : List Locals
  pub module_is : slice_get modules instance ≡ Some tree
  pub context_is : c ≡ function_context (context tree) type groups
  pub returns_is : returns ≡ type.results
  pub arity_is : arity ≡ length type.results
  pub locals_are : map type_of locals ≡ type.params ++ local_types groups

-- a function returns values of the first types, once it has got operands of the last types from the
-- one that it called
pub record IsActivation (modules : List WModule) (returns : List ValueType) (a : Activation)
    (given : List ValueType) : Type 0 where
  pub context : Context
  pub inner : Level
  -- the operands that the innermost code may take
  pub above : List ValueType
  pub frame : IsFrame modules a.instance a.arity a.locals returns context
  pub labels : Through Opens (outermost context) a.labels inner
  pub stack : map type_of a.stack ++ given ≡ inner.below ++ above
  pub leads : Leads inner.context a.rest above inner.gives

-- ---- configurations

pub record IsGoing (modules : List WModule) (st : Store) (now : Activation)
    (callers : List Activation) : Type 0 where
  pub store : IsStore modules modules st
  -- what the first function returns, and what the one that runs returns
  pub first : List ValueType
  pub returns : List ValueType
  pub waiting : Through (IsActivation modules) first callers returns
  pub running : IsActivation modules returns now []

abbrev pub IsSound : List WModule → Config → Type 0
IsSound modules (Going st now callers) = IsGoing modules st now callers
IsSound modules (Over k) = Unit {0}
IsSound modules Trapped = Unit {0}
