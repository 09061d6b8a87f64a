use Rattle.std.proofs.Common.{◌≡◌, true, false, List, [], rules}
use Rattle.std.specs.Prelude.{IsTrue}
use Rattle.m2_tree.specs.declared.token.Token.{Token}
use Rattle.def_grammar.proofs.Exact.{is_tree, reported, reported_rest, none_refused, none_rest, one_tree}
use Rattle.m2_parse.proofs.module.parse.Goals as goal

never : IsTrue false → ⊥
never h = search rules

ended : (rest : List Token) → (IsTrue true → rest ≡ []) → rest ≡ []
ended rest h = h (search rules)

pub returns-then-not-is_at_end-clause-exact : goal.returns-then-not-is_at_end-clause-exact
returns-then-not-is_at_end-clause-exact c =
    reported_rest _ _ _ _ (rw c.new-cursor.ensures at c.in-Ok.ensures) (λ e. never (c.if-not-is_at_end.ensures.1 e))
    c.refusal.ensures.pos c.refusal.ensures.number

pub returns-then-not-is_at_end-clause-complete : goal.returns-then-not-is_at_end-clause-complete
returns-then-not-is_at_end-clause-complete c m =
    none_rest _ _ _ m (rw c.new-cursor.ensures at c.in-Ok.ensures) (λ e. never (c.if-not-is_at_end.ensures.1 e))

pub returns-else-not-is_at_end-clause-exact : goal.returns-else-not-is_at_end-clause-exact
returns-else-not-is_at_end-clause-exact c =
    let e = rw c.new-cursor.ensures at c.in-Ok.ensures in
    let d = rw (ended _ c.if-not-is_at_end.ensures.0) at e in
    is_tree _ _ d

pub returns-else-not-is_at_end-clause-complete : goal.returns-else-not-is_at_end-clause-complete
returns-else-not-is_at_end-clause-complete c m =
    let e = rw c.new-cursor.ensures at c.in-Ok.ensures in
    one_tree _ _ m (rw (ended _ c.if-not-is_at_end.ensures.0) at e)

pub returns-in-Err-Refused-clause-exact : goal.returns-in-Err-Refused-clause-exact
returns-in-Err-Refused-clause-exact c =
    let e = rw c.in-Err-Refused.field-0-is at c.in-Err-Refused.ensures in
    reported _ _ _ _ (rw c.new-cursor.ensures at e) c.refusal-in-Err-Refused.ensures.pos
    c.refusal-in-Err-Refused.ensures.number

pub returns-in-Err-Refused-clause-complete : goal.returns-in-Err-Refused-clause-complete
returns-in-Err-Refused-clause-complete c m =
    let e = rw c.in-Err-Refused.field-0-is at c.in-Err-Refused.ensures in
    none_refused _ _ _ m (rw c.new-cursor.ensures at e)
