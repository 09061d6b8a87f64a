-- Fields of records, and formals of procedures.
use Rattle.std.specs.Prelude.{ℕ, cond, List, [], Result, Ok, Err}
use Rattle.std.specs.Option.{is_some}
use Rattle.m2_rule.specs.declared.rule.Rule.TheVariants as rule
use Rattle.m2_tree.specs.declared.name.Ident.{Ident}
use Rattle.typed_tree.specs.declared.types.TypeNo.{TypeNo}
use Rattle.typed_tree.specs.Names.{find_name, enter_name}
use Rattle.check_scope.specs.Elaborated.{Gathers, report, beside}
use Rattle.check_type_expr.specs.declared.field.Fields.{Fields}
use Rattle.check_type_expr.specs.Cells.{plus}

abbrev pub no_fields : Fields
no_fields = record { names = []; cells = 0 }

-- the first of a name holds
abbrev pub with_field : (g : Gathers) → TypeNo → ℕ → Fields → Ident
    → Fields × Result (Unit {0}) g.Reported
with_field g t cells fs name =
    cond (is_some (find_name name.name fs.names)) (fs, report g name.pos rule.DeclaredTwice)
    (record { names = enter_name name.name t fs.names; cells = plus fs.cells cells }, Ok tt)

abbrev pub with_name : (g : Gathers) → TypeNo → ℕ → Fields × Result (Unit {0}) g.Reported → Ident
    → Fields × Result (Unit {0}) g.Reported
with_name g t cells st name =
    let one = with_field g t cells st.0 name in (one.0, beside g st.1 one.1)
