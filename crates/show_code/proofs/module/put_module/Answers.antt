use Rattle.std.proofs.Common.{◌++◌}
use Rattle.show_code.specs.Modules.{back_text, front_text, functions_text, middle_text, module_text}
use Rattle.show_code.proofs.Joined.{before}
use Rattle.show_code.proofs.module.put_module.Goals as goal

pub returns : goal.returns
unfolding module_text
returns c =
    before c.args.page.now c.put_front.new.page c.put_back.new.page
    (front_text c.args.module_tree.now) (middle_text c.args.module_tree.now
    ++ (functions_text c.args.titles.now 0 c.args.module_tree.now.functions ++ back_text c.args.module_tree.now))
    c.put_front.ensures (before c.put_front.new.page c.put_middle.new.page
    c.put_back.new.page (middle_text c.args.module_tree.now)
    (functions_text c.args.titles.now 0 c.args.module_tree.now.functions ++ back_text c.args.module_tree.now)
    c.put_middle.ensures (before c.put_middle.new.page c.put_all_functions.new.page
    c.put_back.new.page (functions_text c.args.titles.now 0 c.args.module_tree.now.functions)
    (back_text c.args.module_tree.now) c.put_all_functions.ensures (c.put_back.ensures)))
