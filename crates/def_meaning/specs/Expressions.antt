-- What expressions, designators, calls and arguments give. Operands are evaluated from free to
-- right, and what is checked is checked as soon as it is there.
use Rattle.std.specs.Prelude.{ℕ, ◌-◌, ℤ, pos, ◌+ℤ◌, ◌-ℤ◌, ◌*ℤ◌, true, false, not, int_lt, unsigned_abs, List, [], ◌∷◌, ◌++◌, drop, Option, Some, None, slice_get, if◌then◌else◌}
use Rattle.typed_tree.specs.declared.computed.Argument.{Argument-F}
use Rattle.typed_tree.specs.declared.computed.Argument.TheOpen as layer
use Rattle.typed_tree.specs.declared.computed.Call.{Call, Call-F, fold-Call}
use Rattle.typed_tree.specs.declared.computed.Component.{Component-F}
use Rattle.typed_tree.specs.declared.computed.Link.{Link-F}
use Rattle.typed_tree.specs.declared.computed.Place.{Place, Place-F, fold-Place}
use Rattle.typed_tree.specs.declared.computed.Root.{Root}
use Rattle.typed_tree.specs.declared.computed.Root.TheVariants as root
use Rattle.typed_tree.specs.declared.computed.TypedExpr.{TypedExpr, TypedExpr-F, fold-TypedExpr}
use Rattle.typed_tree.specs.declared.computed.Arithmetic.{Arithmetic}
use Rattle.typed_tree.specs.declared.computed.Arithmetic.TheVariants as op
use Rattle.typed_tree.specs.declared.types.TypeNo.{TypeNo}
use Rattle.typed_tree.specs.declared.shape.Scalar.{Scalar as Range}
use Rattle.typed_tree.specs.declared.shape.Shape.{Shape}
use Rattle.typed_tree.specs.declared.shape.Shape.TheVariants as shape
use Rattle.typed_tree.specs.declared.shape.Made.{Made}
use Rattle.typed_tree.specs.declared.known_types.Types.{Types}
use Rattle.typed_tree.specs.Types.{integer}
use Rattle.typed_tree.specs.Known.{made_at, scalar_at}
use Rattle.layout_storage.specs.Shapes.{elements_of}
use Rattle.def_meaning.specs.Store.{Location}
use Rattle.def_meaning.specs.Answer.{State, Answer, Value, Ended, ◌▷◌, range_fault, overflow, index_fault, divisor_fault, empty_procedure}
use Rattle.def_meaning.specs.Operators.{is_between, truth, is_true, comparison_holds, set_operation, inclusion_holds, has, absolute, capital, odd, quotient, remainder}
use Rattle.def_meaning.specs.Environment.{Modules, Environment, Callee, Passed, Number, Variable, Array, Text, module_place, procedure_value, entry_of, entry_callee, module_callee, nested_in, slot_named, location_of, high_of, or_root}

-- ---- checks

-- the value, if it is within these bounds, else this fault
abbrev pub within : (low high : ℤ) → (fault : ℕ) → ℤ → State → Answer ℤ
within low high fault v st = if is_between low v high then Value v st else Ended fault st.out

-- the value as one of a type; BITSET and procedure types hold each value that they are given
abbrev pub within_range : Option Range → (fault : ℕ) → ℤ → State → Answer ℤ
within_range None fault v st = Value v st
within_range (Some s) fault v st = within s.low s.high fault v st

abbrev pub as_type : Types → TypeNo → ℤ → State → Answer ℤ
as_type types t v st = within_range (scalar_at types t) range_fault v st

-- the result of an operation in a base type
abbrev pub in_base : Types → TypeNo → ℤ → State → Answer ℤ
in_base types t v st = within_range (scalar_at types t) overflow v st

-- ---- arrays

abbrev pub index_in : Types → Shape → Option Range
index_in types (shape.Array i e) = scalar_at types i
index_in types (shape.Scalar s) = None
index_in types shape.Set = None
index_in types (shape.Record fs) = None
index_in types (shape.Procedure p) = None
index_in types (shape.Open e) = None

abbrev pub index_made : Types → Option Made → Option Range
index_made types None = None
index_made types (Some m) = index_in types m.shape

-- the range of the index of an array type
abbrev pub index_range : Types → TypeNo → Option Range
index_range types t = index_made types (made_at types t)

abbrev pub high_index : Types → TypeNo → ℕ
high_index types t = elements_of (index_range types t) - 1

-- the element with this index, if the least index is low
abbrev pub element : Location → (low high index : ℤ) → State → Answer Location
element l low high i st =
    if is_between low i high
    then Value (l ++ unsigned_abs (i -ℤ low) ∷ []) st
    else Ended index_fault st.out

abbrev pub element_in : Location → Option Range → ℤ → State → Answer Location
element_in l None i st = Ended index_fault st.out
element_in l (Some s) i st = element l s.low s.high i st

-- ---- operations

abbrev pub division_by : (ℤ → ℤ → ℤ) → ℤ → ℤ → State → Answer ℤ
division_by f x y st = if int_lt (pos 0) y then Value (f x y) st else Ended divisor_fault st.out

abbrev pub arithmetic_result : Types → Arithmetic → TypeNo → ℤ → ℤ → State → Answer ℤ
arithmetic_result types op.Add t x y st = in_base types t (x +ℤ y) st
arithmetic_result types op.Subtract t x y st = in_base types t (x -ℤ y) st
arithmetic_result types op.Multiply t x y st = in_base types t (x *ℤ y) st
arithmetic_result types op.Divide t x y st = division_by quotient x y st
arithmetic_result types op.Remainder t x y st = division_by remainder x y st

-- the ordinal number of a value: a negative one is a fault
abbrev pub ordinal : ℤ → State → Answer ℤ
ordinal v st = if int_lt v (pos 0) then Ended range_fault st.out else Value v st

-- ---- what is asked of a call: the procedure, if there is one, its arguments, the number of the
-- next instance, and the bytes of storage that are free

abbrev pub Asks : Type 0
Asks = Option Callee → List Passed → (next free : ℕ) → State → Answer ℤ

abbrev pub Gives : Type 0 → Type 0
Gives A = Environment → State → Answer A

-- what a component makes of a location, and an operator with its second operand of the first
abbrev pub Reaches : Type 0
Reaches = Location → Gives Location

abbrev pub Continues : Type 0
Continues = ℤ → Gives ℤ

abbrev pub one_by_one : {A : Type 0} → List (A → Gives A) → A → Gives A
one_by_one [] x a st = Value x st
one_by_one (f ∷ fs) x a st = f x a st ▷ λ y st. one_by_one fs y a st

module _ (p : Modules) (ask : Asks) where
  -- one argument after the other
  abbrev pub all_given : List (Gives Passed) → Environment → State → Answer (List Passed)
  all_given [] a st = Value [] st
  all_given (x ∷ xs) a st =
      x a st ▷ λ v st. all_given xs a st ▷ λ vs st. Value (v ∷ vs) st

  abbrev pub call_with : Option Callee → List (Gives Passed) → Environment → State → Answer ℤ
  call_with callee args a st = all_given args a st ▷ λ vs st. ask callee vs a.next a.free st

  -- the value of a procedure variable is taken before the arguments
  abbrev pub asked_if : Option Callee → List (Gives Passed) → Environment → State → Answer ℤ
  asked_if None args a st = Ended empty_procedure st.out
  asked_if (Some callee) args a st = call_with (Some callee) args a st

  abbrev pub argument_layer :
      Argument-F (Gives Passed) (Gives ℤ) Reaches Continues (Gives ℤ) (Gives Location)
      → Gives Passed
  argument_layer (layer.Value t e) a st =
      e a st ▷ λ v st. as_type a.types t v st ▷ λ v st. Value (Number v) st
  argument_layer (layer.Place d) a st = d a st ▷ λ l st. Value (Variable l) st
  argument_layer (layer.Array t d) a st =
      d a st ▷ λ l st. Value (Array l (high_index a.types t)) st
  argument_layer (layer.Open slot) a st =
      Value (Array (location_of (slot_named a slot)) (high_of (slot_named a slot))) st
  argument_layer (layer.Text text) a st = Value (Text text) st

  abbrev pub call_layer :
      Call-F (Gives Passed) (Gives ℤ) Reaches Continues (Gives ℤ) (Gives Location) → Gives ℤ
  call_layer (layer.Module f args) a st =
      call_with (module_callee p (module_place p f.home) f.number) args a st
  call_layer (layer.Nested f args) a st =
      call_with (nested_in a.place (slice_get p a.place) (drop f.up a.frames) f.number) args a st
  call_layer (layer.Variable t d args) a st =
      d a st ▷ λ l st. asked_if (entry_callee p (entry_of p (st.store l))) args a st

  abbrev pub root_layer : Root → Environment → Location
  root_layer (root.Global v) a = module_place p v.home ∷ v.number ∷ []
  root_layer (root.Local slot) a = location_of (slot_named a slot)
  root_layer (root.Alias slot) a = location_of (slot_named a slot)
  root_layer (root.Open slot) a = location_of (slot_named a slot)
  root_layer (root.With k) a = or_root (slice_get a.withs k)

  -- free to right: an index is evaluated, and checked, behind what stands before its bracket
  abbrev pub component_layer :
      Component-F (Gives Passed) (Gives ℤ) Reaches Continues (Gives ℤ) (Gives Location) → Reaches
  component_layer (layer.Field t k) l a st = Value (l ++ k ∷ []) st
  component_layer (layer.Element t i) l a st =
      i a st ▷ λ v st. element_in l (index_range a.types t) v st
  component_layer (layer.OpenElement slot t i) l a st =
      i a st ▷ λ v st. element l (pos 0) (pos (high_of (slot_named a slot))) v st

  abbrev pub place_layer :
      Place-F (Gives Passed) (Gives ℤ) Reaches Continues (Gives ℤ) (Gives Location) → Gives Location
  place_layer d a st = one_by_one d.components (root_layer d.root a) a st

  abbrev pub unary : Gives ℤ → (ℤ → State → Answer ℤ) → Gives ℤ
  unary e f a st = e a st ▷ f

  abbrev pub binary : Gives ℤ → Gives ℤ → (ℤ → ℤ → State → Answer ℤ) → Gives ℤ
  binary e e' f a st = e a st ▷ λ x st. e' a st ▷ λ y st. f x y st

  -- AND and OR evaluate their second operand only if the first does not decide
  abbrev pub link_layer :
      Link-F (Gives Passed) (Gives ℤ) Reaches Continues (Gives ℤ) (Gives Location) → Continues
  link_layer (layer.Arithmetic o t e) x a st =
      e a st ▷ λ y st. arithmetic_result a.types o t x y st
  link_layer (layer.And e) v a st = if is_true v then e a st else Value (truth false) st
  link_layer (layer.Or e) v a st = if is_true v then Value (truth true) st else e a st
  link_layer (layer.Combine o e) x a st = e a st ▷ λ y st. Value (set_operation o x y) st

  abbrev pub expr_layer :
      TypedExpr-F (Gives Passed) (Gives ℤ) Reaches Continues (Gives ℤ) (Gives Location) → Gives ℤ
  expr_layer (layer.Constant t n) a st = Value n st
  expr_layer (layer.Load t d) a st = d a st ▷ λ l st. Value (st.store l) st
  expr_layer (layer.Procedure f) a st = Value (procedure_value p f.home f.number) st
  expr_layer (layer.Plus t e) a st = e a st
  expr_layer (layer.Negate e) a st = unary e (λ v st. in_base a.types integer (pos 0 -ℤ v) st) a st
  expr_layer (layer.Chain e links) a st = e a st ▷ λ v st. one_by_one links v a st
  expr_layer (layer.Compare o e e') a st =
      binary e e' (λ x y st. Value (truth (comparison_holds o x y)) st) a st
  expr_layer (layer.Not e) a st = unary e (λ v st. Value (truth (not (is_true v))) st) a st
  expr_layer (layer.Include o e e') a st =
      binary e e' (λ x y st. Value (truth (inclusion_holds o x y)) st) a st
  expr_layer (layer.In e e') a st =
      e a st ▷ λ x st.
      within (pos 0) (pos 31) range_fault x st ▷ λ x st.
      e' a st ▷ λ s st. Value (truth (has s x)) st
  expr_layer (layer.Abs t e) a st = unary e (λ v st. in_base a.types t (absolute v) st) a st
  expr_layer (layer.Cap e) a st = unary e (λ v st. Value (capital v) st) a st
  expr_layer (layer.Chr e) a st = unary e (λ v st. within (pos 0) (pos 255) range_fault v st) a st
  expr_layer (layer.Odd e) a st = unary e (λ v st. Value (truth (odd v)) st) a st
  expr_layer (layer.Ord e) a st = unary e ordinal a st
  expr_layer (layer.Val t e) a st = unary e (as_type a.types t) a st
  expr_layer (layer.High slot) a st = Value (pos (high_of (slot_named a slot))) st
  expr_layer (layer.Call t c) a st = c a st

  unfoldable pub value : TypedExpr → Gives ℤ
  value =
      fold-TypedExpr (Gives Passed) (Gives ℤ) Reaches Continues (Gives ℤ) (Gives Location)
      argument_layer call_layer component_layer link_layer expr_layer place_layer

  unfoldable pub locate : Place → Gives Location
  locate =
      fold-Place (Gives Passed) (Gives ℤ) Reaches Continues (Gives ℤ) (Gives Location)
      argument_layer call_layer component_layer link_layer expr_layer place_layer

  unfoldable pub call_value : Call → Gives ℤ
  call_value =
      fold-Call (Gives Passed) (Gives ℤ) Reaches Continues (Gives ℤ) (Gives Location) argument_layer
      call_layer component_layer link_layer expr_layer place_layer
