use Rattle.std.proofs.Common.{◌≡◌, ℕ, ◌++◌, codes, decimal, rules, subst}
use Rattle.show_code.specs.Pages.{Puts}
use Rattle.show_code.specs.Instructions.{callee_text}
use Rattle.show_code.proofs.Joined.{before}
use Rattle.show_code.proofs.instructions.put_callee.Goals as goal

pub returns : goal.returns
unfolding callee_text
returns c =
    let same : c.from.result ≡ c.args.type_index = search rules in
    subst (λ (n : ℕ). Puts c.args.page.now c.put-2.new.self
    (codes "call_indirect (type " ++ (decimal n ++ codes ")"))) same
    (before c.args.page.now c.put.new.self c.put-2.new.self (codes "call_indirect (type ")
    (decimal c.from.result ++ codes ")") c.put.ensures
    (before c.put.new.self c.put_number.new.self c.put-2.new.self (decimal c.from.result) (codes ")")
    c.put_number.ensures (c.put-2.ensures)))
