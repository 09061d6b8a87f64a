-- Names of types.
use Rattle.std.specs.Prelude.{ℕ, Option, Some, None, Result, Ok, Err}
use Rattle.m2_rule.specs.declared.rule.Rule.TheVariants as rule
use Rattle.m2_tree.specs.declared.pos.Pos.{Pos}
use Rattle.m2_tree.specs.declared.name.Ident.{Ident}
use Rattle.m2_tree.specs.declared.expr.Qualified.{Qualified}
use Rattle.typed_tree.specs.declared.types.TypeNo.{TypeNo}
use Rattle.typed_tree.specs.declared.meaning.Meaning.{Meaning}
use Rattle.typed_tree.specs.declared.meaning.Meaning.TheVariants as meaning
use Rattle.check_scope.specs.Elaborated.{Gathers, report, of_sort, ◌▷◌}
use Rattle.check_scope.specs.declared.scope.Scope.{Scope}
use Rattle.check_scope.specs.Scopes.{looked_up}
use Rattle.check_const.specs.Denote.{exported_meaning}

-- the place of a name's first token
abbrev pub first_place : Option Ident → Ident → Pos
first_place None name = name.pos
first_place (Some home) name = home.pos

abbrev pub first_of : Qualified → Pos
first_of q = first_place q.module q.name

abbrev pub type_meant : (g : Gathers) → Pos → Meaning → Result TypeNo g.Reported
type_meant g at (meaning.Type t n) = Ok t
type_meant g at (meaning.Constant v) = report g at rule.NoType
type_meant g at (meaning.Variable v) = report g at rule.NoType
type_meant g at (meaning.Local v) = report g at rule.NoType
type_meant g at (meaning.Field f) = report g at rule.NoType
type_meant g at (meaning.Procedure p) = report g at rule.NoType
type_meant g at (meaning.LocalProcedure p) = report g at rule.NoType
type_meant g at meaning.Ahead = report g at rule.NoType
type_meant g at (meaning.Standard f) = report g at rule.NoType
type_meant g at (meaning.Module k) = report g at rule.NoType

-- M.x, if M means a module
abbrev pub in_module : (g : Gathers) → Scope g.Reported → Pos → Ident → Meaning
    → Result TypeNo g.Reported
in_module g s at name (meaning.Module k) = exported_meaning g s.tables k name ▷ type_meant g at
in_module g s at name (meaning.Type t n) = report g at rule.NoType
in_module g s at name (meaning.Constant v) = report g at rule.NoType
in_module g s at name (meaning.Variable v) = report g at rule.NoType
in_module g s at name (meaning.Local v) = report g at rule.NoType
in_module g s at name (meaning.Field f) = report g at rule.NoType
in_module g s at name (meaning.Procedure p) = report g at rule.NoType
in_module g s at name (meaning.LocalProcedure p) = report g at rule.NoType
in_module g s at name meaning.Ahead = report g at rule.NoType
in_module g s at name (meaning.Standard f) = report g at rule.NoType

abbrev pub of_module : (g : Gathers) → Scope g.Reported → Option Ident → Ident
    → Result TypeNo g.Reported
of_module g s None name =
    of_sort g name.pos rule.NoType (looked_up g s name) ▷ type_meant g name.pos
of_module g s (Some home) name =
    of_sort g home.pos rule.NoType (looked_up g s home) ▷ in_module g s home.pos name

abbrev pub named_type : (g : Gathers) → Scope g.Reported → Qualified → Result TypeNo g.Reported
named_type g s q = of_module g s q.module q.name
