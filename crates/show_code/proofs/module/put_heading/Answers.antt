use Rattle.std.proofs.Common.{◌≡◌, ℕ, ◌++◌, codes, decimal, rules, subst}
use Rattle.show_code.specs.Pages.{Puts}
use Rattle.show_code.specs.Modules.{heading_text, title_at}
use Rattle.show_code.proofs.Joined.{before}
use Rattle.show_code.proofs.module.put_heading.Goals as goal

pub returns : goal.returns
unfolding heading_text
returns c =
    let same : c.from.result ≡ c.args.type_index = search rules in
    subst (λ (n : ℕ). Puts c.args.page.now c.put-3.new.self
    (codes "  (func (type " ++ (decimal n
    ++ (codes ")" ++ (title_at c.args.titles.now c.args.number ++ codes "\n"))))) same
    (before c.args.page.now c.put.new.self c.put-3.new.self (codes "  (func (type ")
    (decimal c.from.result ++ (codes ")" ++ (title_at c.args.titles.now c.args.number ++ codes "\n")))
    c.put.ensures (before c.put.new.self c.put_number.new.self c.put-3.new.self
    (decimal c.from.result) (codes ")" ++ (title_at c.args.titles.now c.args.number ++ codes "\n"))
    c.put_number.ensures (before c.put_number.new.self c.put-2.new.self c.put-3.new.self
    (codes ")") (title_at c.args.titles.now c.args.number ++ codes "\n") c.put-2.ensures
    (before c.put-2.new.self c.put_title.new.page c.put-3.new.self
    (title_at c.args.titles.now c.args.number) (codes "\n") c.put_title.ensures (c.put-3.ensures)))))
