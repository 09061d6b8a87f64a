-- Code in the making: the locals and the texts that it needs are numbered in order of the code.
use Rattle.std.specs.Prelude.{ℕ, zero, suc, ◌+◌, ◌-◌, ◌==◌, ℤ, List, [], ◌∷◌, ◌++◌, map, length, Option, Some, None, slice_get, if◌then◌else◌}
use Rattle.std.specs.Int.{w64, cast_unsigned}
use Rattle.wasm_tree.specs.declared.kinds.ValueType.{ValueType}
use Rattle.wasm_tree.specs.declared.kinds.ValueType.TheVariants as type
use Rattle.wasm_tree.specs.declared.instr.Instr.{Instr}
use Rattle.wasm_tree.specs.declared.instr.Instr.TheVariants.{Unreachable, Block, Loop, If, Br, BrIf, Return, Call, LocalGet, LocalSet, LocalTee, GlobalGet, Load, Store, I32Const, I64Const, Numeric}
use Rattle.wasm_tree.specs.declared.instr.Numeric.TheVariants as numeric
use Rattle.wasm_tree.specs.declared.instr.Relation.{Relation}
use Rattle.wasm_tree.specs.declared.instr.Operation.{Operation}
use Rattle.typed_tree.specs.declared.typed_module.TypedModule.{TypedModule}
use Rattle.layout_storage.specs.Types.{Ty}

-- how many locals for addresses and for numbers, and how many bytes of texts, stand before
pub record Counts : Type 0 where
  pub addresses : ℕ
  pub numbers : ℕ
  pub texts : ℕ

-- where code stands
pub record Setting : Type 0 where
  pub home : TypedModule
  pub frames : List Ty  -- the procedure's own frame, then the frames of the procedures around it
  pub arguments : ℕ  -- how many arguments the function has
  pub addresses : ℕ  -- how many locals for addresses it has in all
  pub exit : ℕ  -- the label of the block that EXIT leaves
  pub withs : List ℕ  -- the locals with the records of the WITHs, the outermost first

abbrev pub Coded : Type 0
Coded = Setting → Counts → List Instr × Counts

abbrev pub plain : List Instr → Coded
plain code s c = (code, c)

-- one behind the other
infixr 6 ◌⨾◌
abbrev pub ◌⨾◌ : Coded → Coded → Coded
(x ⨾ y) s c = let first = x s c in let second = y s first.1 in (first.0 ++ second.0, second.1)

abbrev pub nothing : Coded
nothing = plain []

abbrev pub all_coded : List Coded → Coded
all_coded [] = nothing
all_coded (x ∷ xs) = x ⨾ all_coded xs

-- code inside this many more blocks
abbrev pub within : (labels : ℕ) → (List Instr → List Instr) → Coded → Coded
within labels wrap x s c =
    let inner = x (record s { exit = s.exit + labels }) c in (wrap inner.0, inner.1)

-- ---- locals: the stack's top and an address of a copy stand before those for addresses, and those
-- for numbers behind them

abbrev pub top_local : Setting → ℕ
top_local s = s.arguments

abbrev pub copy_local : Setting → ℕ
copy_local s = s.arguments + 1

abbrev pub address_local : Setting → ℕ → ℕ
address_local s k = s.arguments + (2 + k)

abbrev pub number_local : Setting → ℕ → ℕ
number_local s k = s.arguments + (2 + (s.addresses + k))

-- code that needs a local for an address, or for a number
abbrev pub with_address : (ℕ → Coded) → Coded
with_address f s c = f (address_local s c.addresses) s (record c { addresses = suc c.addresses })

abbrev pub with_number : (ℕ → Coded) → Coded
with_number f s c = f (number_local s c.numbers) s (record c { numbers = suc c.numbers })

-- code that needs a text of this many bytes, given by its offset
abbrev pub with_text : (bytes : ℕ) → (ℕ → Coded) → Coded
with_text bytes f s c = f c.texts s (record c { texts = c.texts + bytes })

abbrev pub with_setting : (Setting → Coded) → Coded
with_setting f s c = f s s c

-- ---- pieces

abbrev pub number : ℤ → Instr
number n = I64Const (cast_unsigned w64 n)

abbrev pub raise_address : ℕ → List Instr
raise_address n = I32Const n ∷ Numeric numeric.I32Add ∷ []

abbrev pub relation : Relation → Instr
relation r = Numeric (numeric.I64Relation r)

abbrev pub operation : Operation → Instr
operation o = Numeric (numeric.I64Operation o)

abbrev pub wrap_word : Instr
wrap_word = Numeric numeric.I32WrapI64

abbrev pub extend_word : Instr
extend_word = Numeric numeric.I64ExtendI32U

abbrev pub is_zero : Instr
is_zero = Numeric numeric.I64Eqz

-- the functions that each module has before its own
abbrev pub put : ℕ
put = 0

abbrev pub stop : ℕ
stop = 1

abbrev pub copy : ℕ
copy = 2

abbrev pub fill : ℕ
fill = 3

abbrev pub check : ℕ
check = 4

abbrev pub quotient : ℕ
quotient = 5

abbrev pub remainder : ℕ
remainder = 6

abbrev pub body_index : ℕ
body_index = 7

abbrev pub fault : ℕ → List Instr
fault k = I64Const k ∷ Call stop ∷ Unreachable ∷ []

-- a value within these bounds, or else this fault
abbrev pub check_code : (low high : ℤ) → (fault : ℕ) → List Instr
check_code low high k = number low ∷ number high ∷ I64Const k ∷ Call check ∷ []
