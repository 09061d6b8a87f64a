use Rattle.std.proofs.Common.{◌≡◌, take}
use Rattle.std.specs.List.{fold}
use Rattle.check_scope.specs.Elaborated.{least}
use Rattle.check_body.specs.Bodies.{checks_decl, with_body}
use Rattle.check_body.proofs.procedures.+procedures.Given as goal

abbrev pub invariant-check_procedures-loop-place : goal.invariant-check_procedures-loop-place
invariant-check_procedures-loop-place t l =
    (l.walk, l.place) ≡ fold (with_body (λ d. checks_decl least (t.S.Statements.elaborated l.statements) l.ends d
    l.around) l.seen) (l.fn.walk, 0) (take l.place l.decls)
