use Rattle.std.proofs.Common.{◌++◌, codes}
use Rattle.show_code.specs.Instructions.{code_text}
use Rattle.show_code.specs.Modules.{offset_text}
use Rattle.show_code.proofs.Joined.{before}
use Rattle.show_code.proofs.module.put_offset.Goals as goal

pub returns : goal.returns
unfolding offset_text
returns c =
    before c.args.page.now c.put.new.self c.put-4.new.self (codes "  (")
    (c.args.word.now ++ (codes " (offset\n" ++ (code_text 2 c.args.offset.now ++ codes "    )")))
    c.put.ensures (before c.put.new.self c.put-2.new.self c.put-4.new.self (c.args.word.now)
    (codes " (offset\n" ++ (code_text 2 c.args.offset.now ++ codes "    )")) c.put-2.ensures
    (before c.put-2.new.self c.put-3.new.self c.put-4.new.self (codes " (offset\n")
    (code_text 2 c.args.offset.now ++ codes "    )") c.put-3.ensures
    (before c.put-3.new.self c.put_code.new.page c.put-4.new.self (code_text 2 c.args.offset.now)
    (codes "    )") c.put_code.ensures (c.put-4.ensures))))
