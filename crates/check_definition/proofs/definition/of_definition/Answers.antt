use Rattle.std.proofs.Common.{◌≡◌, IfOk, Result, subst}
use Rattle.typed_tree.specs.declared.table.Table.{Table}
use Rattle.m2_rule.specs.declared.breach.Breach.{Breach}
use Rattle.check_definition.proofs.Defined.{definition_is}
use Rattle.check_definition.proofs.definition.of_definition.Goals as goal

pub returns : goal.returns
returns c =
    subst (λ (x : Result Table Breach). IfOk c.table_or.result (λ j. j ≡ x))
    (definition_is c.args.number c.args.tree.now c.args.tables _ c.args.defs.now _ _ _ _ _ c.as_slice.ensures
    c.in_ok-modules.ensures c.in_ok-scope.ensures c.in_ok-elaborated.ensures) c.table_or.ensures
