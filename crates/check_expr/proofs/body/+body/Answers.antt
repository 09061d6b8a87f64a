use Rattle.std.proofs.Common.{◌≡◌, inl, inr}
use Rattle.std.proofs.lemmas.Result.{IfOk-weaker}
use Rattle.check_expr.specs.Meanings.{meanings_of, value_of}
use Rattle.check_scope.specs.Elaborated.{least}
use Rattle.check_expr.proofs.Variants.{relation_is, relation_by, not_by, sum_by, stands_by, means_Not, means_Bracketed, means_Term, means_Sum, means_Relation, value_Not, value_Bracketed, value_Term, value_Sum, value_Relation}
use Rattle.check_expr.proofs.body.+body.Goals as goal

pub denotes-returns-in_ok-right-in-Relation : goal.denotes-returns-in_ok-right-in-Relation
denotes-returns-in_ok-right-in-Relation t c =
    relation_is c.args.scope.now c.args.e.now c.in-Relation.first c.in-Relation.operator c.in-Relation.second _ _
    c.related_parts.result _ _
    c.in-Relation.is c.get-first.ensures c.get-second.ensures c.in_ok-left-in-Relation.ensures
    c.in_ok-right-in-Relation.ensures c.related_parts.ensures

pub operation_value-returns-in_ok-value-in-Relation : goal.operation_value-returns-in_ok-value-in-Relation
operation_value-returns-in_ok-value-in-Relation t c =
    relation_by c.args.scope.now c.args.e.now c.in-Relation.a c.in-Relation.operator c.in-Relation.b _ _
    c.in_ok-value-in-Relation.value _ _
    c.in-Relation.is c.get-a.ensures c.get-b.ensures c.in_ok-x-in-Relation.ensures c.in_ok-y-in-Relation.ensures
    c.in_ok-value-in-Relation.ensures

pub operation_value-returns-in_ok-operand-in-Not : goal.operation_value-returns-in_ok-operand-in-Not
operation_value-returns-in_ok-operand-in-Not t c =
    IfOk-weaker c.negation.result _ (λ v. v ≡ value_of least c.args.scope.now (meanings_of least c.args.e.now))
    (λ v q. not_by c.args.scope.now c.args.e.now c.in-Not.inner _ c.in-Not.at c.in_ok-operand-in-Not.operand v
    c.in-Not.is c.get.ensures c.in_ok-operand-in-Not.ensures q) c.negation.ensures

pub operation_value-returns-in_ok-start-in-Sum : goal.operation_value-returns-in_ok-start-in-Sum
operation_value-returns-in_ok-start-in-Sum t c =
    IfOk-weaker c.terms.result _ (λ v. v ≡ value_of least c.args.scope.now (meanings_of least c.args.e.now))
    (λ v q. sum_by c.args.scope.now c.args.e.now c.in-Sum.front _ _ c.in-Sum.sign c.in-Sum.rest _
    c.in_ok-term-in-Sum.term c.in_ok-start-in-Sum.start v _ _
    c.in-Sum.is c.get-in-Sum.ensures c.get-in-Sum-2.ensures c.as_slice-in-Sum.ensures c.in_ok-term-in-Sum.ensures
    c.in_ok-start-in-Sum.ensures
    c.place_of-in-Sum.ensures c.sign_place-place.ensures q) c.terms.ensures

pub stands_for-returns-in-Not : goal.stands_for-returns-in-Not
stands_for-returns-in-Not t c =
    let s = c.args.scope.now in
    let e = c.args.e.now in
    IfOk-weaker c.value_itself-in-Not.result _ (λ d. d ≡ (meanings_of least c.args.e.now).means c.args.scope.now)
    (λ d q. elim c.in-Not.is [
      | inl w ↦ stands_by s e _ d _ (means_Not s w.0 w.1) (value_Not s w.0 w.1) w.2 q
      | inr w ↦ elim w [
        | inl w ↦ stands_by s e _ d _ (means_Bracketed s w.0 w.1) (value_Bracketed s w.0 w.1) w.2 q
        | inr w ↦ elim w [
          | inl w ↦ stands_by s e _ d _ (means_Term s w.0 w.1) (value_Term s w.0 w.1) w.2 q
          | inr w ↦ elim w [
            | inl w ↦ stands_by s e _ d _ (means_Sum s w.0 w.1 w.2) (value_Sum s w.0 w.1 w.2) w.3 q
            | inr w ↦ stands_by s e _ d _ (means_Relation s w.0 w.1 w.2) (value_Relation s w.0 w.1 w.2) w.3 q
          ]
        ]
      ]
    ]) c.value_itself-in-Not.ensures
