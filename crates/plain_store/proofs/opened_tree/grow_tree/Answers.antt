use Rattle.std.proofs.Common.{◌≡◌, ℤ, w64, to_z, of_z, rules, [], ◌∷◌, ◌++◌, ◌-◌, ap, ◌∙◌, arith}
use Rattle.plain_store.specs.declared.held.Held.{Held}
use Rattle.plain_store.specs.Contents.{spread}
use Rattle.plain_store.proofs.Spreads.{is_longer}
use Rattle.plain_store.proofs.opened_tree.grow_tree.Goals as goal

pub returns : goal.returns
returns c =
    let own : to_z w64 (of_z w64 c.args.tree.own) ≡ c.args.tree.own = search rules in
    is_longer c.args.tree c.args.number (c.args.number - c.len-2.result) c.in_ok-parts.parts c.push.new.self
    c.spread.result (omega (arith, c.len.ensures, c.len-2.ensures, c.if-number-len.false))
    c.in_ok-parts.ensures (c.in_ok-push.ensures.ok
    ∙ ap (λ (h : Held). c.in_ok-parts.parts ++ h ∷ []) c.in_ok-copy.ensures)
    (c.spread.ensures ∙ ap (λ (v : ℤ). spread v c.push.new.self c.args.tree.rest) own)
