use Rattle.std.proofs.Common.{◌++◌, codes}
use Rattle.show_code.specs.Modules.{signature_text, types_text}
use Rattle.show_code.proofs.Joined.{before}
use Rattle.show_code.proofs.module.put_signature.Goals as goal

pub returns : goal.returns
unfolding signature_text
returns c =
    before c.args.page.now c.put.new.self c.put-2.new.self (codes "  (type (func")
    (types_text (codes " (param ") c.args.params.now
    ++ (types_text (codes " (result ") c.args.results.now ++ codes "))\n")) c.put.ensures
    (before c.put.new.self c.put_value_types.new.page c.put-2.new.self
    (types_text (codes " (param ") c.args.params.now)
    (types_text (codes " (result ") c.args.results.now ++ codes "))\n") c.put_value_types.ensures
    (before c.put_value_types.new.page c.put_value_types-2.new.page c.put-2.new.self
    (types_text (codes " (result ") c.args.results.now) (codes "))\n") c.put_value_types-2.ensures
    (c.put-2.ensures)))
