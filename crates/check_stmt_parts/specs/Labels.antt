-- Labels of CASE.
use Rattle.std.specs.Prelude.{ℕ, Bool, true, false, not, cond, if◌then◌else◌, List, [], Option, Some, None, Result, Ok, Err}
use Rattle.std.specs.List.{fold}
use Rattle.m2_rule.specs.declared.rule.Rule.TheVariants as rule
use Rattle.m2_tree.specs.declared.pos.Pos.{Pos}
use Rattle.m2_tree.specs.declared.expr.Item.{Item, out-Item}
use Rattle.typed_tree.specs.declared.types.TypeNo.{TypeNo}
use Rattle.typed_tree.specs.declared.statement.Label.{Label}
use Rattle.typed_tree.specs.declared.known_types.Types.{Types}
use Rattle.typed_tree.specs.declared.types.Home.{Home}
use Rattle.typed_tree.specs.declared.types.Home.TheVariants.{Predeclared, Module}
use Rattle.typed_tree.specs.Types.{integer, are_same, is_numeric}
use Rattle.check_scope.specs.declared.meaningless.Meaningless.{Meaningless}
use Rattle.check_scope.specs.declared.meaningless.Meaningless.TheVariants.{Broken, Headless}
use Rattle.check_scope.specs.Elaborated.{Gathers, report, reported_where, both, beside, ◌▷◌}
use Rattle.check_scope.specs.declared.scope.Scope.{Scope}
use Rattle.check_const.specs.declared.operand.Ordinal.{Ordinal}
use Rattle.check_const.specs.declared.operand.Operand.{Operand}
use Rattle.check_const.specs.declared.operand.Operand.TheVariants as operand
use Rattle.check_const.specs.Operands.{operand_of}
use Rattle.check_const.specs.Numbers.{fits}
use Rattle.check_const.specs.Common.{common}
use Rattle.check_const.specs.Bounds.{is_of_base, fits_base, ordered_if}
use Rattle.check_value.specs.declared.class.Class.{Class}
use Rattle.check_value.specs.declared.class.Class.TheVariants as class
use Rattle.check_value.specs.declared.computed.Computed.{Computed}
use Rattle.check_value.specs.declared.computed.Computed.TheVariants as value
use Rattle.check_value.specs.declared.computed.Designated.{Designated}
use Rattle.check_value.specs.declared.computed.Designated.TheVariants as designated
use Rattle.check_value.specs.Classes.{class_at}
use Rattle.check_expr.specs.Meanings.{Meant, meanings_of}
use Rattle.check_stmt_parts.specs.declared.ranges.Point.{Point}
use Rattle.check_stmt_parts.specs.Ranges.{Range, enter_range}
use Rattle.check_stmt_parts.specs.Lists.{with_next}
use Rattle.check_stmt_parts.specs.Simple.{meant_if}

-- ---- The selector's base type, if the selector has a meaning. Else nothing is asked of the types
-- of labels.

abbrev pub suits_selector : Option TypeNo → TypeNo → Bool
suits_selector None b = true
suits_selector (Some base) b = are_same b base

-- what has no base type
abbrev pub suits_without : Option TypeNo → Bool
suits_without None = true
suits_without (Some base) = false

-- ---- one bound at its place, with its number; a label at its own place is no constant: 49

abbrev pub Bound : Type 0 → Type 0
Bound T = Result (Option Ordinal) T

abbrev pub of_type : (g : Gathers) → (alike : Bool) → Pos → Result (Unit {0}) g.Reported
of_type g alike at = reported_where g (not alike) at rule.WrongType (Ok tt)

abbrev pub no_constant : (g : Gathers) → (alike : Bool) → (label at : Pos) → Bound g.Reported
no_constant g alike label at =
    both g (of_type g alike at) (report g {A = Option Ordinal} label rule.WrongLabel) ▷ λ p. Ok p.1

-- a constant without a number, as a set is one: if the selector has no meaning, none is asked for
abbrev pub without_number : (g : Gathers) → Option TypeNo → Pos → Bound g.Reported
without_number g None at = Ok None
without_number g (Some base) at = report g at rule.WrongType

abbrev pub constant_bound : (g : Gathers) → Option TypeNo → Pos → Option Operand → Bound g.Reported
constant_bound g base at None = without_number g base at
constant_bound g base at (Some (operand.Set bits)) = without_number g base at
constant_bound g base at (Some (operand.Scalar a)) = Ok (Some a)

abbrev pub value_bound : (g : Gathers) → Option TypeNo → (label at : Pos) → Computed
    → Bound g.Reported
value_bound g base label at (value.Constant v) = constant_bound g base at (operand_of v)
value_bound g base label at (value.Scalar t b e) = no_constant g (suits_selector base b) label at
value_bound g base label at (value.Set e) = no_constant g (suits_without base) label at
value_bound g base label at (value.Routine t e) = no_constant g (suits_without base) label at
value_bound g base label at (value.Procedure p) = no_constant g (suits_without base) label at
value_bound g base label at (value.Whole t d) = no_constant g (suits_without base) label at
value_bound g base label at value.Untaken = no_constant g (suits_without base) label at

abbrev pub variable_bound : (g : Gathers) → Option TypeNo → (label at : Pos) → Class
    → Bound g.Reported
variable_bound g base label at (class.Scalar s) =
    no_constant g (suits_selector base s.base) label at
variable_bound g base label at class.Set = no_constant g (suits_without base) label at
variable_bound g base label at class.Procedure = no_constant g (suits_without base) label at
variable_bound g base label at class.Whole = no_constant g (suits_without base) label at

abbrev pub bound_by : (g : Gathers) → Types → Option TypeNo → (label at : Pos) → Designated
    → Bound g.Reported
bound_by g types base label at (designated.Value x) = value_bound g base label at x
bound_by g types base label at (designated.Variable t d) =
    variable_bound g base label at (class_at types t)
bound_by g types base label at (designated.Open t slot) =
    no_constant g (suits_without base) label at
bound_by g types base label at (designated.Type t) = no_constant g false label at
bound_by g types base label at (designated.Procedure p) =
    no_constant g (suits_without base) label at
bound_by g types base label at (designated.Nested p) = report g at rule.NoProcedureValue
bound_by g types base label at (designated.Standard f) = report g at rule.NoProcedureValue
bound_by g types base label at (designated.Module k) = no_constant g false label at

-- a procedure is no constant, and one in a procedure no value, whatever its heading
abbrev pub bound_in : (g : Gathers) → Types → Option TypeNo → (label at : Pos)
    → Result Designated (Meaningless g.Reported) → Bound g.Reported
bound_in g types base label at (Ok d) = bound_by g types base label at d
bound_in g types base label at (Err (Broken e)) = Err e
bound_in g types base label at (Err (Headless true e)) = report g at rule.NoProcedureValue
bound_in g types base label at (Err (Headless false e)) =
    no_constant g (suits_without base) label at

abbrev pub bound_of : (g : Gathers) → Scope g.Reported → Option TypeNo → (label : Pos)
    → Meant g.Reported → Bound g.Reported
bound_of g s base label x = bound_in g s.types base label x.fixed.at (x.means s)

-- ---- bounds have the base type of the selector

abbrev pub suits_base : (g : Gathers) → Option TypeNo → Pos → Ordinal → Result (Unit {0}) g.Reported
suits_base g None at a = Ok tt
suits_base g (Some base) at a =
    reported_where g (not (is_of_base base a.sort)) at rule.WrongType
    (fits_base g at base a.sort a.number)

abbrev pub suits_if : (g : Gathers) → Option TypeNo → Pos → Option Ordinal
    → Result (Unit {0}) g.Reported
suits_if g base at None = Ok tt
suits_if g base at (Some a) = suits_base g base at a

abbrev pub bound_suits : (g : Gathers) → Option TypeNo → Pos → Bound g.Reported
    → Result (Unit {0}) g.Reported
bound_suits g base at a = a ▷ suits_if g base at

-- ---- a label, by its bounds

-- the first and the last, if both have a number
abbrev pub Bounds : Type 0
Bounds = Option (Ordinal × Ordinal)

abbrev pub bounds_of : Option Ordinal → Option Ordinal → Bounds
bounds_of (Some a) (Some b) = Some (a, b)
bounds_of (Some a) None = None
bounds_of None b = None

abbrev pub single : (g : Gathers) → Option TypeNo → Pos → Bound g.Reported
    → Result Bounds g.Reported
single g base at a = both g a (bound_suits g base at a) ▷ λ p. Ok (bounds_of p.0 p.0)

abbrev pub ordered_both : (g : Gathers) → Pos → Option Ordinal → Option Ordinal
    → Result (Unit {0}) g.Reported
ordered_both g at (Some a) (Some b) = ordered_if g at a b (common a.sort b.sort)
ordered_both g at (Some a) None = Ok tt
ordered_both g at None b = Ok tt

abbrev pub bounds_ordered : (g : Gathers) → Pos → Bound g.Reported → Bound g.Reported
    → Result (Unit {0}) g.Reported
bounds_ordered g at a b = both g a b ▷ λ p. ordered_both g at p.0 p.1

-- a range: each bound for itself, and both
abbrev pub label_range : (g : Gathers) → Option TypeNo → Pos → Bound g.Reported → Pos
    → Bound g.Reported → Result Bounds g.Reported
label_range g base at a at' b =
    both g (both g a b)
    (beside g (beside g (bound_suits g base at a) (bound_suits g base at' b))
    (bounds_ordered g at a b))
    ▷ λ p.
    Ok (bounds_of p.0.0 p.0.1)

abbrev pub label_between : (g : Gathers) → Scope g.Reported → Option TypeNo → Meant g.Reported
    → Option (Meant g.Reported) → Result Bounds g.Reported
label_between g s base low None = single g base low.fixed.at (bound_of g s base low.fixed.at low)
label_between g s base low (Some high) =
    label_range g base low.fixed.at (bound_of g s base low.fixed.at low) high.fixed.at
    (bound_of g s base low.fixed.at high)

-- ---- where labels stand

-- Whole numbers stand together, whatever their type.
abbrev pub base_of : Option TypeNo → TypeNo
base_of None = integer
base_of (Some t) = if is_numeric t then integer else t

abbrev pub module_of : Home → Option ℕ
module_of Predeclared = None
module_of (Module m) = Some m

abbrev pub point_of : Ordinal → Point
point_of a =
    let base = base_of a.sort in
    record { home = module_of base.home; place = base.number; number = a.number }

-- the values of a label among those of the labels so far; one whose bounds are of two bases has
-- none
abbrev pub enter_label : Ordinal × Ordinal → List Range → List Range × Bool
enter_label b ranges =
    cond (are_same (base_of b.0.sort) (base_of b.1.sort))
    (enter_range (point_of b.0) (point_of b.1) ranges) (ranges, true)

-- ---- one after another, with the values of the labels so far

abbrev pub Labels : Type 0 → Type 0
Labels T = List Range × Result (List Label) T

abbrev pub label_by : Ordinal × Ordinal → Label
label_by b = record { low = b.0.number; high = b.1.number }

-- no two labels have a value in common
abbrev pub with_new : (g : Gathers) → Pos → Labels g.Reported → Ordinal × Ordinal
    → Labels g.Reported
with_new g at st b =
    let t = enter_label b st.0 in
    (t.0, with_next g st.1 (reported_where g (not t.1) at rule.WrongLabel (Ok (label_by b))))

abbrev pub with_label : (g : Gathers) → Pos → Labels g.Reported → Result Bounds g.Reported
    → Labels g.Reported
with_label g at st (Ok (Some b)) = with_new g at st b
with_label g at st (Ok None) = st
with_label g at st (Err e) = (st.0, with_next g st.1 (Err e))

abbrev pub item_label : (g : Gathers) → Scope g.Reported → Option TypeNo → Item
    → Result Bounds g.Reported
item_label g s base i =
    label_between g s base (meanings_of g (out-Item i).low) (meant_if g (out-Item i).high)

abbrev pub with_item : (g : Gathers) → Scope g.Reported → Option TypeNo → Labels g.Reported → Item
    → Labels g.Reported
with_item g s base st i =
    with_label g (meanings_of g (out-Item i).low).fixed.at st (item_label g s base i)

abbrev pub labels_in : (g : Gathers) → Scope g.Reported → Option TypeNo → List Range → List Item
    → Labels g.Reported
labels_in g s base ranges items = fold (with_item g s base) (ranges, Ok []) items
