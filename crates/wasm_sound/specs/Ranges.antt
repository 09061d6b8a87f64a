-- Numbers of 32 and of 64 bits, and bytes, that are no greater: a tree's constants and bytes are
-- numbers of any size, so it is asked of the modules.
use Rattle.std.specs.Prelude.{◌≡◌, ℕ, ◌^◌, ◌<◌, List, [], ◌∷◌, All, Option}
use Rattle.wasm_tree.specs.declared.kinds.ValueType.{ValueType}
use Rattle.wasm_tree.specs.declared.instr.Instr.{Instr, out-Instr}
use Rattle.wasm_tree.specs.declared.instr.Instr.TheOpen as layer
use Rattle.wasm_tree.specs.declared.module.WModule.{WModule}
use Rattle.wasm_tree.specs.declared.store.Value.{Value}
use Rattle.wasm_tree.specs.declared.store.Value.TheVariants.{I32, I64}
use Rattle.wasm_tree.specs.declared.store.Store.{Store}
use Rattle.wasm_tree.specs.Validity.{side_of}
use Rattle.wasm_tree.specs.Machine.{Label, Activation, Config, Going, Over, Trapped}

abbrev pub ValueFits : Value → Type 0
ValueFits (I32 n) = n < 2 ^ 32
ValueFits (I64 n) = n < 2 ^ 64

abbrev pub IsByte : ℕ → Type 0
IsByte b = b < 2 ^ 8

-- an instruction without code inside it, whose constant fits
abbrev pub ConstantFits : layer.Instr-F Instr → Type 0
ConstantFits (layer.I32Const n) = n < 2 ^ 32
ConstantFits (layer.I64Const n) = n < 2 ^ 64
ConstantFits (layer.Block t body) = ⊥
ConstantFits (layer.Loop t body) = ⊥
ConstantFits (layer.If t body otherwise) = ⊥
ConstantFits l = Unit {0}

mutual
  -- the constants of an instruction and of the code inside it fit
  pub data InstrFits : Instr → Type 0 where
    Plain : (i : Instr) → ConstantFits (out-Instr i) → InstrFits i
    Block : (i : Instr) (t : Option ValueType) (body : List Instr)
        → out-Instr i ≡ layer.Block t body → CodeFits body → InstrFits i
    Loop : (i : Instr) (t : Option ValueType) (body : List Instr) → out-Instr i ≡ layer.Loop t body
        → CodeFits body → InstrFits i
    If : (i : Instr) (t : Option ValueType) (body : List Instr) (otherwise : Option (List Instr))
        → out-Instr i ≡ layer.If t body otherwise
        → CodeFits body
        → CodeFits (side_of otherwise)
        → InstrFits i

  pub data CodeFits : List Instr → Type 0 where
    Empty : CodeFits []
    More : (i : Instr) (is : List Instr) → InstrFits i → CodeFits is → CodeFits (i ∷ is)

pub record ModuleFits (m : WModule) : Type 0 where
  pub functions : All (λ f. CodeFits f.body.code) m.functions
  pub globals : All (λ g. CodeFits g.value) m.globals
  pub segments : All (λ d. All IsByte d.bytes) m.data

pub record StoreFits (st : Store) : Type 0 where
  pub globals : All ValueFits st.globals
  pub memories : All (λ m. All IsByte m.bytes) st.memories

pub record LabelFits (l : Label) : Type 0 where
  pub again : CodeFits l.again
  pub rest : CodeFits l.rest

pub record ActivationFits (a : Activation) : Type 0 where
  pub locals : All ValueFits a.locals
  pub stack : All ValueFits a.stack
  pub labels : All LabelFits a.labels
  pub rest : CodeFits a.rest

pub record GoingFits (st : Store) (now : Activation) (callers : List Activation) : Type 0 where
  pub store : StoreFits st
  pub running : ActivationFits now
  pub waiting : All ActivationFits callers

abbrev pub ConfigFits : Config → Type 0
ConfigFits (Going st now callers) = GoingFits st now callers
ConfigFits (Over k) = Unit {0}
ConfigFits Trapped = Unit {0}
