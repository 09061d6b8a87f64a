-- The checker answers the same with other numbers of modules.
use Rattle.std.specs.Prelude.{◌≡◌, ℕ, List, map}
use Rattle.m2_tree.specs.declared.name.Ident.{Ident}
use Rattle.m2_tree.specs.declared.expr.Expr.{Expr}
use Rattle.m2_tree.specs.declared.decl.TypeExpr.{TypeExpr}
use Rattle.m2_tree.specs.declared.decl.Heading.{Heading}
use Rattle.m2_tree.specs.declared.decl.Module.{Module}
use Rattle.typed_tree.specs.declared.table.Table.{Table}
use Rattle.check_scope.specs.Elaborated.{least}
use Rattle.check_scope.specs.declared.scope.Scope.{Scope}
use Rattle.check_scope.specs.Scopes.{looked_up}
use Rattle.check_const.specs.Parts.{constant}
use Rattle.check_expr.specs.Meanings.{meanings_of, part}
use Rattle.check_type_expr.specs.Headings.{heading_of}
use Rattle.check_type_expr.specs.Made.{type_of}
use Rattle.check_definition.specs.Predeclared.{console}
use Rattle.check_definition.specs.Compiled.{definition_table}
use Rattle.def_exchange.specs.Moved.{Exchange, moved_type, moved_made, moved_value, moved_meaning, moved_table}
use Rattle.law_exchange_types.specs.Pieces.{map_ok}
use Rattle.law_exchange_types.specs.Scopes.{moved_scope, moved_state_of}
use Rattle.law_exchange_types.specs.Values.{moved_designated}

abbrev pub NamesMove : Type 0
NamesMove =
    (x : Exchange) (s : Scope (least).Reported) (name : Ident)
    → looked_up least (moved_scope x s) name ≡ map_ok (moved_meaning x) (looked_up least s name)

abbrev pub ConstantsMove : Type 0
ConstantsMove =
    (x : Exchange) (s : Scope (least).Reported) (e : Expr)
    → constant least (moved_scope x s) (part least e)
    ≡ map_ok (moved_value x) (constant least s (part least e))

abbrev pub ExpressionsMove : Type 0
ExpressionsMove =
    (x : Exchange) (s : Scope (least).Reported) (e : Expr)
    → (meanings_of least e).means (moved_scope x s)
    ≡ map_ok (moved_designated x) ((meanings_of least e).means s)

-- a type that is made has the number of the module, which moves too
abbrev pub TypesMove : Type 0
TypesMove =
    (x : Exchange) (s : Scope (least).Reported) (t : TypeExpr)
    → type_of least t (moved_scope x s) ≡ moved_state_of x (moved_type x) (type_of least t s)

abbrev pub HeadingsMove : Type 0
HeadingsMove =
    (x : Exchange) (s : Scope (least).Reported) (h : Heading)
    → heading_of least (moved_scope x s) h ≡ map_ok (moved_made x) (heading_of least s h)

-- the table of Console is the checker's own, so its number stays
abbrev pub DefinitionsMove : Type 0
DefinitionsMove =
    (x : Exchange) → x.there console.number ≡ console.number → (number : ℕ) (m : Module)
    (tables : List Table)
    → definition_table least (x.there number) m (map (moved_table x) tables)
    ≡ map_ok (moved_table x) (definition_table least number m tables)
