-- What the statements of a body mean.
use Rattle.std.proofs.Common.{◌≡◌, ℕ, false, List, [], map, Option, Some, None, Result, Ok, refl, subst}
use Rattle.m2_tree.specs.declared.name.Ident.{Ident}
use Rattle.m2_tree.specs.declared.stmt.Stmt.{Stmt}
use Rattle.typed_tree.specs.declared.types.TypeNo.{TypeNo}
use Rattle.typed_tree.specs.declared.statement.TypedStmt.{TypedStmt}
use Rattle.check_scope.specs.declared.scope.Scope.{Scope}
use Rattle.check_scope.specs.Elaborated.{Gathers}
use Rattle.check_stmt_parts.specs.declared.around.Around.{Around}
use Rattle.check_stmt.specs.Statements.{stmt, statements, with_written, all_of, with_stmt}
use Rattle.check_body.specs.Elaborating.{statements_of}
use Rattle.check_body.specs.Checks.{elaborate_body}
use Rattle.def_typing.specs.Things.{Standing}
use Rattle.def_typing.specs.Bodies.{statements_in}
use Rattle.def_typed.specs.Statements as rules
use Rattle.def_typed.specs.Statements.{Site, AllMean}
use Rattle.law_typing.specs.Judging.{Judges}
use Rattle.law_typing.proofs.Combining.{Lawful}
use Rattle.law_typed.specs.Typed.{IsOne, KnowsSite}
use Rattle.law_typed.proofs.Meant.{IfMeant, meant}
use Rattle.law_typed.proofs.Statements.{list_so, statement_so}
use Rattle.law_rules.proofs.Layers.{fold_agrees}

module _ (g : Gathers) (j : Judges g) (lawful : Lawful g j) (exports : ℕ → Ident → Standing) (w : Site)
    (s : Scope g.Reported) where
  nothing : IsOne (AllMean s.types exports w []) []
  nothing = record { holds = rules.no_statement; alone = λ ys r. alone ys r }
    where
      alone : (ys : List TypedStmt) → AllMean s.types exports w [] ys → ys ≡ []
      alone _ rules.no_statement = refl

  listed : (a : Around g.Reported) (xs : List Stmt) → all_of g s a (map (stmt g) xs) ≡ statements g s a xs
  listed a xs = fold_agrees (with_stmt g s a) (with_written g s a) (stmt g) (λ so x. refl) (Ok []) xs

  pub statements_meant : (returns : Option (Result TypeNo g.Reported))
      → KnowsSite g j exports w s (record { gives = returns; in_loop = false }) → (body : Option (List Stmt))
      → IfMeant (IsOne (AllMean s.types exports w (statements_in body)))
      (statements_of (elaborate_body g) s returns body)
  statements_meant returns k None = meant [] nothing
  statements_meant returns k (Some xs) =
      let a : Around g.Reported = record { gives = returns; in_loop = false } in
      subst (λ (r : Result (List TypedStmt) g.Reported). IfMeant (IsOne (AllMean s.types exports w xs)) r) (listed a xs)
      (list_so g j lawful exports w s a xs (λ x m. statement_so g j lawful exports w s a k x))
