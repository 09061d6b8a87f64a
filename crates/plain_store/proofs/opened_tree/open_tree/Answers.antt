use Rattle.std.proofs.Common.{◌≡◌, ℤ, w64, to_z, of_z, rules, List, ap, ◌∙◌}
use Rattle.plain_store.specs.declared.held.Held.{Held}
use Rattle.plain_store.specs.declared.held.Held.TheVariants.{Same}
use Rattle.plain_store.specs.Contents.{spread}
use Rattle.plain_store.proofs.Spreads.{says_by, opened_same, opened_parts, opened_array_by}
use Rattle.plain_store.proofs.opened_tree.open_tree.Goals as goal

pub returns-in-Same : goal.returns-in-Same
returns-in-Same c =
    let v : to_z w64 (of_z w64 c.in-Same.v) ≡ c.in-Same.v = search rules in
    says_by _ _ _ _ (c.spread.ensures ∙ ap (λ (n : ℤ). spread n c.new.result (Same n)) v
    ∙ ap (λ (ps : List Held). spread c.in-Same.v ps (Same c.in-Same.v)) c.new.ensures) c.in-Same.is
    (opened_same c.in-Same.v)

pub returns-in-Parts : goal.returns-in-Parts
returns-in-Parts c =
    let v : to_z w64 (of_z w64 c.in-Parts.own) ≡ c.in-Parts.own = search rules in
    says_by _ _ _ _ (c.spread-in-Parts.ensures ∙ ap (λ (n : ℤ). spread n c.in-Parts.parts c.into_inner.result) v
    ∙ ap (λ (h : Held). spread c.in-Parts.own c.in-Parts.parts h) c.into_inner.ensures) c.in-Parts.is
    (opened_parts c.in-Parts.own c.in-Parts.parts c.in-Parts.rest)

pub returns-in_ok-parts-in-Array : goal.returns-in_ok-parts-in-Array
returns-in_ok-parts-in-Array c = opened_array_by c.in-Array.count c.in-Array.one c.new-in-Array.result
    c.in_ok-parts-in-Array.parts c.get.result.now c.spread-in-Array.result c.args.held c.new-in-Array.ensures
    c.get.ensures c.in_ok-parts-in-Array.ensures c.spread-in-Array.ensures c.in-Array.is
