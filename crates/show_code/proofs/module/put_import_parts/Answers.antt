use Rattle.std.proofs.Common.{◌++◌, codes}
use Rattle.show_code.specs.Modules.{import_parts, kind_text, string_text}
use Rattle.show_code.proofs.Joined.{before}
use Rattle.show_code.proofs.module.put_import_parts.Goals as goal

pub returns : goal.returns
unfolding import_parts
returns c =
    before c.args.page.now c.put.new.self c.put-2.new.self (codes "  (import")
    (string_text c.args.module_name.now ++ (string_text c.args.name.now ++ (kind_text c.args.kind ++ codes ")\n")))
    c.put.ensures (before c.put.new.self c.put_string.new.page c.put-2.new.self
    (string_text c.args.module_name.now) (string_text c.args.name.now ++ (kind_text c.args.kind ++ codes ")\n"))
    c.put_string.ensures (before c.put_string.new.page c.put_string-2.new.page c.put-2.new.self
    (string_text c.args.name.now) (kind_text c.args.kind ++ codes ")\n") c.put_string-2.ensures
    (before c.put_string-2.new.page c.put_kind.new.page c.put-2.new.self (kind_text c.args.kind)
    (codes ")\n") c.put_kind.ensures (c.put-2.ensures))))
