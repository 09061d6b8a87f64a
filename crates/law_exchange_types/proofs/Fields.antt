-- Fields of check_type_expr, with other numbers of modules.
use Rattle.check_scope.specs.Elaborated.{Gathers, report}
use Rattle.check_type_expr.specs.Cells.{plus}
use Rattle.check_type_expr.specs.Fields.{with_field, no_fields, with_name}
use Rattle.check_type_expr.specs.declared.field.Fields.{Fields}
use Rattle.def_exchange.specs.Moved.{moved_type, Exchange}
use Rattle.law_exchange_types.specs.Pieces.{moved_pair, same}
use Rattle.law_exchange_types.specs.Types.{moved_fields}
use Rattle.m2_tree.specs.declared.name.Ident.{Ident}
use Rattle.std.proofs.Common.{◌≡◌, refl, Bool, List, None, Ok, Option, Result, Some, ap, ap₂, cond, false, is_some, option_map, true, ℕ, ◌∙◌}
use Rattle.typed_tree.specs.Names.{find_name, enter_name}
use Rattle.typed_tree.specs.declared.types.TypeNo.{TypeNo}
use Rattle.m2_rule.specs.declared.rule.Rule.TheVariants as rule
use Rattle.law_exchange_types.proofs.Basics.{find_moves, enter_moves}

pub no_fields_moves : (z : Exchange)
    → moved_fields z (no_fields) ≡ no_fields
no_fields_moves z = refl

pub some_moves : {A B : Type 0} (f : A → B) (o : Option A) → is_some (option_map f o) ≡ is_some o
some_moves f None = refl
some_moves f (Some a) = refl

field_choice : (z : Exchange) {T : Type 0} (b : Bool) (fs hs : Fields) (r q : Result (Unit {0}) T)
    → cond {A = Fields × Result (Unit {0}) T} b (moved_fields z fs, r) (moved_fields z hs, q)
    ≡ moved_pair (moved_fields z) same (cond b (fs, r) (hs, q))
field_choice z true fs hs r q = refl
field_choice z false fs hs r q = refl

pub with_field_moves : (z : Exchange) (g : Gathers) (t : TypeNo) (cells : ℕ) (fs : Fields) (name : Ident)
    → with_field g (moved_type z t) cells (moved_fields z fs) name
    ≡ moved_pair (moved_fields z) same (with_field g t cells fs name)
with_field_moves z g t cells fs name =
    ap₂ (λ (b : Bool) (ns : List (List ℕ × TypeNo)). cond {A = Fields × Result (Unit {0}) g.Reported} b
    (moved_fields z fs, report g name.pos rule.DeclaredTwice)
    (record { names = ns; cells = plus fs.cells cells }, Ok tt))
    (ap is_some (find_moves (moved_type z) name.name fs.names)
    ∙ some_moves (moved_type z) (find_name name.name fs.names))
    (enter_moves (moved_type z) name.name t fs.names)
    ∙ field_choice z (is_some (find_name name.name fs.names)) fs
    (record { names = enter_name name.name t fs.names; cells = plus fs.cells cells })
    (report g name.pos rule.DeclaredTwice) (Ok tt)

pub with_name_moves : (z : Exchange) (g : Gathers) (t : TypeNo) (cells : ℕ) (st : Fields × Result (Unit {0}) g.Reported)
    (name : Ident)
    → with_name g (moved_type z t) cells (moved_pair (moved_fields z) same st) name
    ≡ moved_pair (moved_fields z) same (with_name g t cells st name)
with_name_moves z g t cells st name = simp (with_field_moves)
