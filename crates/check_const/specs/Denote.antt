-- What designators stand for.
use Rattle.std.specs.Prelude.{ℕ, not, List, Option, Some, None, Result, Ok, Err, slice_get}
use Rattle.m2_rule.specs.declared.rule.Rule.TheVariants as rule
use Rattle.m2_tree.specs.declared.pos.Pos.{Pos}
use Rattle.m2_tree.specs.declared.name.Ident.{Ident}
use Rattle.typed_tree.specs.declared.types.TypeNo.{TypeNo}
use Rattle.typed_tree.specs.declared.meaning.Value.{Value}
use Rattle.typed_tree.specs.declared.meaning.Meaning.{Meaning}
use Rattle.typed_tree.specs.declared.meaning.Meaning.TheVariants as meaning
use Rattle.typed_tree.specs.declared.table.Table.{Table}
use Rattle.typed_tree.specs.Types.{are_same, bitset}
use Rattle.typed_tree.specs.Names.{find_name}
use Rattle.check_scope.specs.declared.meaningless.Meaningless.{Meaningless}
use Rattle.check_scope.specs.declared.meaningless.Meaningless.TheVariants.{Broken, Headless}
use Rattle.check_scope.specs.Elaborated.{Gathers, report, reported_where, ◌▷◌}
use Rattle.check_const.specs.declared.denoted.Denoted.{Denoted}
use Rattle.check_const.specs.declared.denoted.Denoted.TheVariants as denoted

abbrev pub denoted_by : Meaning → Denoted
denoted_by (meaning.Constant v) = denoted.Value v
denoted_by (meaning.Type t n) = denoted.Type t
denoted_by (meaning.Variable v) = denoted.Variable
denoted_by (meaning.Local v) = denoted.Variable
denoted_by (meaning.Field f) = denoted.Variable
denoted_by (meaning.Procedure p) = denoted.Procedure
denoted_by (meaning.LocalProcedure p) = denoted.Procedure
denoted_by meaning.Ahead = denoted.Procedure
denoted_by (meaning.Standard f) = denoted.Standard f
denoted_by (meaning.Module k) = denoted.Module k

-- a procedure is no constant, whatever its heading
abbrev pub denoted_of : {T : Type 0} → Result Meaning (Meaningless T) → Result Denoted T
denoted_of (Ok m) = Ok (denoted_by m)
denoted_of (Err (Broken e)) = Err e
denoted_of (Err (Headless nested e)) = Ok denoted.Procedure

-- ---- constants

abbrev pub as_constant : (g : Gathers) → Pos → Denoted → Result Value g.Reported
as_constant g at (denoted.Value v) = Ok v
as_constant g at (denoted.Type t) = report g at rule.NoConstant
as_constant g at denoted.Variable = report g at rule.NoConstant
as_constant g at denoted.Procedure = report g at rule.NoConstant
as_constant g at (denoted.Standard f) = report g at rule.NoConstant
as_constant g at (denoted.Module k) = report g at rule.NoConstant

abbrev pub constant_by : (g : Gathers) → Pos → Result Denoted g.Reported → Result Value g.Reported
constant_by g at d = d ▷ as_constant g at

abbrev pub of_value : {T : Type 0} → Result Value T → Result Denoted T
of_value v = v ▷ λ x. Ok (denoted.Value x)

abbrev pub is_bitset : (g : Gathers) → Pos → Meaning → Result (Unit {0}) g.Reported
is_bitset g at (meaning.Type t n) =
    reported_where g (not (are_same t bitset)) at rule.NoType (Ok tt)
is_bitset g at (meaning.Constant v) = report g at rule.NoType
is_bitset g at (meaning.Variable v) = report g at rule.NoType
is_bitset g at (meaning.Local v) = report g at rule.NoType
is_bitset g at (meaning.Field f) = report g at rule.NoType
is_bitset g at (meaning.Procedure p) = report g at rule.NoType
is_bitset g at (meaning.LocalProcedure p) = report g at rule.NoType
is_bitset g at meaning.Ahead = report g at rule.NoType
is_bitset g at (meaning.Standard f) = report g at rule.NoType
is_bitset g at (meaning.Module k) = report g at rule.NoType

-- ---- components, and names of modules

-- Constants have no components. A type, a procedure or a module with selectors is no constant.
abbrev pub component : (g : Gathers) → Pos → Denoted → Result Denoted g.Reported
component g at denoted.Variable = Ok denoted.Variable
component g at (denoted.Value v) = report g at rule.WrongType
component g at (denoted.Type t) = Ok denoted.Variable
component g at denoted.Procedure = Ok denoted.Variable
component g at (denoted.Standard f) = Ok denoted.Variable
component g at (denoted.Module k) = Ok denoted.Variable

abbrev pub exported_by : List ℕ → Option Table → Option Meaning
exported_by name None = None
exported_by name (Some table) = find_name name table.exported

abbrev pub export_of : (g : Gathers) → Pos → Option Meaning → Result Meaning g.Reported
export_of g at None = report g at rule.NotExported
export_of g at (Some m) = Ok m

abbrev pub exported_meaning : (g : Gathers) → List Table → ℕ → Ident → Result Meaning g.Reported
exported_meaning g tables k name = export_of g name.pos (exported_by name.name (slice_get tables k))
