use Rattle.std.proofs.Common.{◌≡◌, ℕ, ◌++◌, codes, decimal, rules, subst}
use Rattle.show_code.specs.Pages.{Puts}
use Rattle.show_code.specs.Modules.{function_kind_text}
use Rattle.show_code.proofs.Joined.{before}
use Rattle.show_code.proofs.module.put_function_kind.Goals as goal

pub returns : goal.returns
unfolding function_kind_text
returns c =
    let same : c.from.result ≡ c.args.type_index = search rules in
    subst (λ (n : ℕ). Puts c.args.page.now c.put-2.new.self
    (codes " (func (type " ++ (decimal n ++ codes "))"))) same
    (before c.args.page.now c.put.new.self c.put-2.new.self (codes " (func (type ")
    (decimal c.from.result ++ codes "))") c.put.ensures
    (before c.put.new.self c.put_number.new.self c.put-2.new.self (decimal c.from.result)
    (codes "))") c.put_number.ensures (c.put-2.ensures)))
