-- Expressions mean the same with other numbers of modules.
use Rattle.std.specs.Prelude.{◌≡◌, List, map}
use Rattle.m2_tree.specs.declared.pos.Pos.{Pos}
use Rattle.m2_tree.specs.declared.name.Ident.{Ident}
use Rattle.m2_tree.specs.declared.expr.Expr.{Expr}
use Rattle.m2_tree.specs.declared.expr.Selector.{Selector}
use Rattle.m2_tree.specs.declared.expr.Designator.{Designator}
use Rattle.m2_tree.specs.declared.expr.Item.{Item}
use Rattle.check_scope.specs.Elaborated.{Gathers}
use Rattle.check_scope.specs.declared.scope.Scope.{Scope}
use Rattle.check_const.specs.Parts.{Part, constant}
use Rattle.check_value.specs.declared.computed.Designated.{Designated}
use Rattle.check_expr.specs.Meanings.{Meant, meanings_of, picks, head, item, part, value_of, first_name, field_of}
use Rattle.check_expr.specs.Effects.{call_statement}
use Rattle.def_exchange.specs.Moved.{Exchange, moved_value}
use Rattle.law_exchange_types.specs.Pieces.{map_ok}
use Rattle.law_exchange_types.specs.Scopes.{moved_scope}
use Rattle.law_exchange_types.specs.Values.{moved_computed, moved_designated}
use Rattle.law_exchange_exprs.specs.Steps.{moved_stmt}
use Rattle.law_exchange_exprs.specs.Moving.{PartMoves, MeantMoves, PicksMoves, AddMoves, MeantsMove}

-- ---- of trees

abbrev pub ExpressionsMove : Gathers → Type 0
ExpressionsMove g = (z : Exchange) (e : Expr) → MeantMoves z (meanings_of g e)

abbrev pub DesignatorsMove : Gathers → Type 0
DesignatorsMove g = (z : Exchange) (d : Designator) → MeantMoves z (head g d)

abbrev pub SelectorsMove : Gathers → Type 0
SelectorsMove g = (z : Exchange) (x : Selector) → PicksMoves z (picks g x)

abbrev pub ItemsMove : Gathers → Type 0
ItemsMove g = (z : Exchange) (i : Item) → AddMoves z (item g i)

abbrev pub ConstantPartsMove : Gathers → Type 0
ConstantPartsMove g = (z : Exchange) (e : Expr) → PartMoves z (part g e)

abbrev pub ArgumentsMove : Gathers → Type 0
ArgumentsMove g = (z : Exchange) (es : List Expr) → MeantsMove z (map (meanings_of g) es)

-- ---- of parts, whatever they are

abbrev pub ConstantsMove : Gathers → Type 0
ConstantsMove g =
    (z : Exchange) (s : Scope g.Reported) (p : Part g.Reported) → PartMoves z p
    → constant g (moved_scope z s) p ≡ map_ok (moved_value z) (constant g s p)

abbrev pub ValuesMove : Gathers → Type 0
ValuesMove g =
    (z : Exchange) (s : Scope g.Reported) (m : Meant g.Reported) → MeantMoves z m
    → value_of g (moved_scope z s) m ≡ map_ok (moved_computed z) (value_of g s m)

abbrev pub FirstNamesMove : Gathers → Type 0
FirstNamesMove g =
    (z : Exchange) (s : Scope g.Reported) (name : Ident)
    → first_name g (moved_scope z s) name ≡ map_ok (moved_designated z) (first_name g s name)

abbrev pub FieldsMove : Gathers → Type 0
FieldsMove g =
    (z : Exchange) (s : Scope g.Reported) (at : Pos) (name : Ident) (d : Designated)
    → field_of g (moved_scope z s) at name (moved_designated z d)
    ≡ map_ok (moved_designated z) (field_of g s at name d)

abbrev pub CallsMove : Gathers → Type 0
CallsMove g =
    (z : Exchange) (s : Scope g.Reported) (d : Meant g.Reported) (args : List (Meant g.Reported))
    → MeantMoves z d → MeantsMove z args
    → call_statement g (moved_scope z s) d args ≡ map_ok (moved_stmt z) (call_statement g s d args)
