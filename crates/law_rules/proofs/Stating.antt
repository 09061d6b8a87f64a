-- What is reported of the statements of a body.
use Rattle.std.proofs.Common.{◌≡◌, ℕ, false, List, [], ◌∷◌, Option, Some, None, Result, Ok, Err, ◌⊎◌, inl, inr, refl, sym, subst}
use Rattle.std.specs.List.{fold}
use Rattle.m2_rule.specs.declared.breach.Breach.{Breach}
use Rattle.m2_tree.specs.declared.name.Ident.{Ident}
use Rattle.m2_tree.specs.declared.stmt.Stmt.{Stmt}
use Rattle.typed_tree.specs.declared.types.TypeNo.{TypeNo}
use Rattle.typed_tree.specs.declared.statement.TypedStmt.{TypedStmt}
use Rattle.check_scope.specs.declared.scope.Scope.{Scope}
use Rattle.check_scope.specs.Elaborated.{Gathers, beside, ◌▷◌}
use Rattle.check_stmt_parts.specs.declared.around.Around.{Around}
use Rattle.check_stmt_parts.specs.Lists.{with_next}
use Rattle.check_stmt.specs.Statements.{stmt, with_written}
use Rattle.check_body.specs.Elaborating.{statements_of}
use Rattle.check_body.specs.Inside.{reported_in}
use Rattle.check_body.specs.Checks.{elaborate_body}
use Rattle.def_typing.specs.Things.{Standing}
use Rattle.def_typing.specs.Parts.{Among, here, later}
use Rattle.def_typing.specs.Statements.{Spot, Broken}
use Rattle.def_typing.specs.Bodies.{statements_in}
use Rattle.law_typing.specs.Judging.{Judges}
use Rattle.law_typing.specs.Exact.{RepeatsResult, KnowsSpot}
use Rattle.law_typing.proofs.Combining.{Lawful, Tells, silent, tells_as, beside_tells}
use Rattle.law_typing.proofs.Returning.{value_tells}
use Rattle.law_typing.proofs.Obeying.{statement_answers}

module _ (g : Gathers) (j : Judges g) (lawful : Lawful g j) (exports : ℕ → Ident → Standing) (w : Spot)
    (s : Scope g.Reported) (a : Around g.Reported) (k : KnowsSpot g j exports w s a) where
  abbrev O : Breach → Type 0
  O = RepeatsResult g j w.names s a.gives

  abbrev pub Any : List Stmt → Breach → Type 0
  Any xs f = (x : Stmt) × Among x xs × Broken s.types exports w x f

  next_is : (so : Result (List TypedStmt) g.Reported) (r : Result TypedStmt g.Reported)
      → reported_in (with_next g so r) ≡ beside g (reported_in so) (r ▷ λ v. Ok tt)
  next_is (Ok xs) (Ok x) = refl
  next_is (Ok xs) (Err e) = refl
  next_is (Err e) (Ok x) = refl
  next_is (Err e) (Err f) = refl

  any_more : (x : Stmt) (xs : List Stmt) (f : Breach) → Broken s.types exports w x f ⊎ Any xs f → Any (x ∷ xs) f
  any_more x xs f (inl b) = (x, here, b)
  any_more x xs f (inr (y, m, b)) = (y, later m, b)

  more_any : (x : Stmt) (xs : List Stmt) (f : Breach) → Any (x ∷ xs) f → Broken s.types exports w x f ⊎ Any xs f
  more_any x xs f (y, here, b) = inl b
  more_any x xs f (y, later m, b) = inr (y, m, b)

  one_tells : (x : Stmt) → {B : Breach → Type 0} (so : Result (List TypedStmt) g.Reported)
      → Tells g j lawful O B (reported_in so)
      → Tells g j lawful O (λ f. B f ⊎ Broken s.types exports w x f) (reported_in (with_written g s a so x))
  one_tells x {B = B} so t = subst (λ (r : Result (Unit {0}) g.Reported). Tells g j lawful O
      (λ f. B f ⊎ Broken s.types exports w x f) r) (sym (next_is so (stmt g x s a)))
      (beside_tells g j lawful O t (value_tells g j lawful O (statement_answers g j lawful exports w s a k x)))

  all_tell : (xs : List Stmt) → {B : Breach → Type 0} (so : Result (List TypedStmt) g.Reported)
      → Tells g j lawful O B (reported_in so)
      → Tells g j lawful O (λ f. B f ⊎ Any xs f) (reported_in (fold (with_written g s a) so xs))
  all_tell [] so t = tells_as g j lawful O (λ f b. inl b) (λ f z. elim z [ inl b ↦ b | inr q ↦ elim q.1 [ ] ]) t
  all_tell (x ∷ xs) so t = tells_as g j lawful O
      (λ f z. elim z [
        | inl y ↦ elim y [ inl b ↦ inl b | inr c ↦ inr (any_more x xs f (inl c)) ]
        | inr q ↦ inr
            (any_more x xs f (inr q))
      ])
      (λ f z. elim z [ inl b ↦ inl (inl b) | inr q ↦ elim (more_any x xs f q) [ inl c ↦ inl (inr c) | inr c ↦ inr c ] ])
      (all_tell xs (with_written g s a so x) (one_tells x so t))

  list_tells : (xs : List Stmt) → Tells g j lawful O (Any xs) (reported_in (fold (with_written g s a) (Ok []) xs))
  list_tells xs = tells_as g j lawful O (λ f z. elim z [ inl b ↦ absurd b | inr q ↦ q ]) (λ f q. inr q)
      (all_tell xs {B = λ f. ⊥} (Ok []) (silent (λ f b. b)))

-- the statements behind a BEGIN, if there is one
pub statements_tell : (g : Gathers) (j : Judges g) (lawful : Lawful g j) (exports : ℕ → Ident → Standing) (w : Spot)
    (s : Scope g.Reported) (returns : Option (Result TypeNo g.Reported))
    → KnowsSpot g j exports w s (record { gives = returns; in_loop = false }) → (body : Option (List Stmt))
    → Tells g j lawful (RepeatsResult g j w.names s returns)
    (λ f. (x : Stmt) × Among x (statements_in body) × Broken s.types exports w x f)
    (reported_in (statements_of (elaborate_body g) s returns body))
statements_tell g j lawful exports w s returns k None = silent (λ f z. elim z.1 [ ])
statements_tell g j lawful exports w s returns k (Some xs) =
    list_tells g j lawful exports w s (record { gives = returns; in_loop = false }) k xs
