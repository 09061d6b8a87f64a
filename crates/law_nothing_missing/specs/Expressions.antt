-- What expressions, designators, calls and arguments give, if nothing that they ask for may be
-- missing: the definition of def_meaning once more, with an end of its own in place of each
-- default.
use Rattle.std.specs.Prelude.{ℕ, zero, suc, ◌==◌, ◌-◌, ℤ, pos, negsuc, Bool, true, false, not, ◌&&◌, ◌||◌, nat_lt, List, [], ◌∷◌, ◌++◌, drop, length, Option, Some, None, slice_get, if◌then◌else◌}
use Rattle.std.specs.List.{list_any}
use Rattle.typed_tree.specs.declared.computed.Argument.{Argument-F}
use Rattle.typed_tree.specs.declared.computed.Argument.TheOpen as layer
use Rattle.typed_tree.specs.declared.computed.Call.{Call, Call-F, fold-Call}
use Rattle.typed_tree.specs.declared.computed.Component.{Component-F}
use Rattle.typed_tree.specs.declared.computed.Link.{Link-F, map-Link}
use Rattle.typed_tree.specs.declared.computed.Place.{Place, Place-F, fold-Place}
use Rattle.typed_tree.specs.declared.computed.Root.{Root}
use Rattle.typed_tree.specs.declared.computed.Root.TheVariants as root
use Rattle.typed_tree.specs.declared.computed.TypedExpr.{TypedExpr, TypedExpr-F, fold-TypedExpr, map-TypedExpr}
use Rattle.typed_tree.specs.declared.computed.Arithmetic.{Arithmetic}
use Rattle.typed_tree.specs.declared.computed.Arithmetic.TheVariants as op
use Rattle.typed_tree.specs.declared.types.TypeNo.{TypeNo}
use Rattle.typed_tree.specs.declared.shape.Shape.{Shape}
use Rattle.typed_tree.specs.declared.shape.Shape.TheVariants as shape
use Rattle.typed_tree.specs.declared.shape.Made.{Made}
use Rattle.typed_tree.specs.declared.known_types.Types.{Types}
use Rattle.typed_tree.specs.Known.{made_at, scalar_at}
use Rattle.layout_storage.specs.Shapes.{tree, elements_of}
use Rattle.def_meaning.specs.Store.{Location}
use Rattle.def_meaning.specs.Answer.{State, Answer, Value, Ended, ◌▷◌, empty_procedure}
use Rattle.def_meaning.specs.Environment.{Modules, Environment, Named, At, Elements, Callee, Passed, Number, Variable, Array, Text, module_place, procedure_value, entry_of, entry_callee, module_callee, nested_in, slot_named}
use Rattle.def_meaning.specs.Operators.{absolute}
use Rattle.def_meaning.specs.Calls.{is_there, is_function}
use Rattle.def_meaning.specs.Expressions as meaning
use Rattle.def_meaning.specs.Expressions.{Asks, Gives, Reaches, Continues, index_range, element, arithmetic_result, one_by_one}
use Rattle.law_nothing_missing.specs.Worlds.{World, type_at, is_cell}

-- a call, and whether its value is wanted
abbrev pub Calls : Type 0
Calls = (wanted : Bool) → Gives ℤ

-- a module has this number
abbrev pub is_module : Modules → (home : ℕ) → Bool
is_module p home = list_any (λ m. m.types.home == home) p

-- a type with a range
abbrev pub is_ranged : Types → TypeNo → Bool
is_ranged types t = is_there (scalar_at types t)

-- a procedure type
abbrev pub is_procedure_shape : Shape → Bool
is_procedure_shape (shape.Procedure p) = true
is_procedure_shape (shape.Scalar s) = false
is_procedure_shape shape.Set = false
is_procedure_shape (shape.Array i e) = false
is_procedure_shape (shape.Record fs) = false
is_procedure_shape (shape.Open e) = false

abbrev pub is_procedure_made : Option Made → Bool
is_procedure_made None = false
is_procedure_made (Some m) = is_procedure_shape m.shape

abbrev pub is_procedure_type : Types → TypeNo → Bool
is_procedure_type types t = is_procedure_made (made_at types t)

-- a type of which a value is one number
abbrev pub is_number_type : Types → TypeNo → Bool
is_number_type types t = is_cell (Some (tree types t))

-- what a name stands for, if it is a variable, and if it is an open array
abbrev pub variable_of : Option Named → Option Location
variable_of None = None
variable_of (Some (At l)) = Some l
variable_of (Some (Elements l high)) = None

abbrev pub elements_named : Option Named → Option (Location × ℕ)
elements_named None = None
elements_named (Some (At l)) = None
elements_named (Some (Elements l high)) = Some (l, high)

abbrev pub first_of : Option (Location × ℕ) → Option Location
first_of None = None
first_of (Some e) = Some e.0

-- a run that lacks something ends with this number
module _ (lacking : ℕ) where
  abbrev pub lacks : {A : Type 0} → State → Answer A
  lacks st = Ended lacking st.out

  abbrev pub if_provided : {A : Type 0} → Bool → (State → Answer A) → State → Answer A
  if_provided true go st = go st
  if_provided false go st = lacks st

  abbrev pub needs : {A B : Type 0} → Option A → (A → State → Answer B) → State → Answer B
  needs None next st = lacks st
  needs (Some x) next st = next x st

  module _ (p : Modules) (ask : Asks) (world : World) where
    -- something stands there, and a number does
    abbrev pub at_there : Location → State → Answer Location
    at_there l st = if_provided (is_there (type_at world l)) (Value l) st

    abbrev pub at_cell : Location → State → Answer Location
    at_cell l st = if_provided (is_cell (type_at world l)) (Value l) st

    -- what is called has a heading, and if a value is wanted, it is a function
    abbrev pub suits_call : (wanted : Bool) → Callee → Bool
    suits_call wanted c =
        is_procedure_type c.types c.routine.heading
        && (not wanted || is_function c.types c.routine)

    abbrev pub call_with : (wanted : Bool) → Option Callee → List (Gives Passed) → Environment
        → State → Answer ℤ
    call_with wanted None args a st = lacks st
    call_with wanted (Some c) args a st =
        if_provided (suits_call wanted c) (meaning.call_with p ask (Some c) args a) st

    -- 0 is the empty procedure, and any other value is the value of a procedure
    abbrev pub asked_value : (wanted : Bool) → ℤ → List (Gives Passed) → Environment → State
        → Answer ℤ
    asked_value wanted (pos zero) args a st = Ended empty_procedure st.out
    asked_value wanted (pos (suc k)) args a st =
        call_with wanted (entry_callee p (entry_of p (pos (suc k)))) args a st
    asked_value wanted (negsuc k) args a st = lacks st

    -- a value is taken as one of a type that is there
    abbrev pub as_type : Types → TypeNo → ℤ → State → Answer ℤ
    as_type types t v st = if_provided (is_number_type types t) (meaning.as_type types t v) st

    abbrev pub argument_layer :
        Argument-F (Gives Passed) Calls Reaches Continues (Gives ℤ) (Gives Location) → Gives Passed
    argument_layer (layer.Value t e) a st =
        e a st ▷ λ v st.
        as_type a.types t v st ▷ λ v st. Value (Number v) st
    argument_layer (layer.Place d) a st = d a st ▷ λ l st. Value (Variable l) st
    argument_layer (layer.Array t d) a st =
        d a st ▷ λ l st.
        needs (index_range a.types t) (λ r st. Value (Array l (elements_of (Some r) - 1)) st) st
    argument_layer (layer.Open slot) a st =
        needs (elements_named (slot_named a slot)) (λ e st. Value (Array e.0 e.1) st) st
    argument_layer (layer.Text text) a st = Value (Text text) st

    abbrev pub call_layer : Call-F (Gives Passed) Calls Reaches Continues (Gives ℤ) (Gives Location)
        → Calls
    call_layer (layer.Module f args) wanted a st =
        if_provided (is_module p f.home)
        (call_with wanted (module_callee p (module_place p f.home) f.number) args a) st
    call_layer (layer.Nested f args) wanted a st =
        if_provided (nat_lt f.up (length a.frames))
        (call_with wanted (nested_in a.place (slice_get p a.place) (drop f.up a.frames) f.number)
        args a)
        st
    call_layer (layer.Variable t d args) wanted a st =
        (d a st ▷ at_cell) ▷ λ l st. asked_value wanted (st.store l) args a st

    abbrev pub root_layer : Root → Environment → Option Location
    root_layer (root.Global v) a =
        if is_module p v.home then Some (module_place p v.home ∷ v.number ∷ []) else None
    root_layer (root.Local slot) a = variable_of (slot_named a slot)
    root_layer (root.Alias slot) a = variable_of (slot_named a slot)
    root_layer (root.Open slot) a = first_of (elements_named (slot_named a slot))
    root_layer (root.With k) a = slice_get a.withs k

    abbrev pub component_layer :
        Component-F (Gives Passed) Calls Reaches Continues (Gives ℤ) (Gives Location) → Reaches
    component_layer (layer.Field t k) l a st = at_there (l ++ k ∷ []) st
    component_layer (layer.Element t i) l a st =
        i a st ▷ λ v st.
        needs (index_range a.types t) (λ r st. element l r.low r.high v st ▷ at_there) st
    component_layer (layer.OpenElement slot t i) l a st =
        i a st ▷ λ v st.
        needs (elements_named (slot_named a slot))
        (λ e st. element l (pos 0) (pos e.1) v st ▷ at_there) st

    -- a variable, and then its components
    abbrev pub place_layer :
        Place-F (Gives Passed) Calls Reaches Continues (Gives ℤ) (Gives Location) → Gives Location
    place_layer d a st =
        needs (root_layer d.root a)
        (λ l st. at_there l st ▷ λ l st. one_by_one d.components l a st) st

    abbrev pub wanting_link :
        Link-F (Gives Passed) Calls Reaches Continues (Gives ℤ) (Gives Location)
        → Link-F (Gives Passed) (Gives ℤ) Reaches Continues (Gives ℤ) (Gives Location)
    wanting_link x =
        map-Link (Gives Passed) Calls Reaches Continues (Gives ℤ) (Gives Location) (Gives Passed)
        (Gives ℤ) Reaches Continues (Gives ℤ) (Gives Location) (λ g. g) (λ c. c true) (λ r. r)
        (λ f. f) (λ e. e) (λ d. d) x

    -- what is checked against a range has one
    abbrev pub has_range : Types → Arithmetic → TypeNo → Bool
    has_range types op.Add t = is_ranged types t
    has_range types op.Subtract t = is_ranged types t
    has_range types op.Multiply t = is_ranged types t
    has_range types op.Divide t = true
    has_range types op.Remainder t = true

    abbrev pub link_layer : Link-F (Gives Passed) Calls Reaches Continues (Gives ℤ) (Gives Location)
        → Continues
    link_layer (layer.Arithmetic o t e) x a st =
        e a st ▷ λ y st. if_provided (has_range a.types o t) (arithmetic_result a.types o t x y) st
    link_layer other x a st = meaning.link_layer p ask (wanting_link other) x a st

    -- the value of a call in an expression is wanted
    abbrev pub wanting :
        TypedExpr-F (Gives Passed) Calls Reaches Continues (Gives ℤ) (Gives Location)
        → TypedExpr-F (Gives Passed) (Gives ℤ) Reaches Continues (Gives ℤ) (Gives Location)
    wanting x =
        map-TypedExpr (Gives Passed) Calls Reaches Continues (Gives ℤ) (Gives Location)
        (Gives Passed) (Gives ℤ) Reaches Continues (Gives ℤ) (Gives Location) (λ g. g) (λ c. c true)
        (λ r. r) (λ f. f) (λ e. e) (λ d. d) x

    -- a number is loaded, a procedure that is a value is there, an open array of which HIGH is
    -- asked, and the ranges of ABS and VAL
    abbrev pub expr_layer :
        TypedExpr-F (Gives Passed) Calls Reaches Continues (Gives ℤ) (Gives Location) → Gives ℤ
    expr_layer (layer.Load t d) a st =
        (d a st ▷ at_cell) ▷ λ l st. Value (st.store l) st
    expr_layer (layer.Procedure f) a st =
        if_provided (is_module p f.home)
        (λ st.
        if_provided (is_there (module_callee p (module_place p f.home) f.number))
        (Value (procedure_value p f.home f.number)) st)
        st
    expr_layer (layer.High slot) a st =
        needs (elements_named (slot_named a slot)) (λ e st. Value (pos e.1) st) st
    expr_layer (layer.Abs t e) a st =
        e a st ▷ λ v st.
        if_provided (is_ranged a.types t) (meaning.in_base a.types t (absolute v)) st
    expr_layer (layer.Val t e) a st =
        e a st ▷ λ v st. if_provided (is_ranged a.types t) (meaning.as_type a.types t v) st
    expr_layer other a st = meaning.expr_layer p ask (wanting other) a st

    unfoldable pub value : TypedExpr → Gives ℤ
    value =
        fold-TypedExpr (Gives Passed) Calls Reaches Continues (Gives ℤ) (Gives Location)
        argument_layer call_layer component_layer link_layer expr_layer place_layer

    unfoldable pub locate : Place → Gives Location
    locate =
        fold-Place (Gives Passed) Calls Reaches Continues (Gives ℤ) (Gives Location) argument_layer
        call_layer component_layer link_layer expr_layer place_layer

    unfoldable pub call_value : Call → Calls
    call_value =
        fold-Call (Gives Passed) Calls Reaches Continues (Gives ℤ) (Gives Location) argument_layer
        call_layer component_layer link_layer expr_layer place_layer
