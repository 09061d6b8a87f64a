use Rattle.std.specs.String.{string_bytes}
use Rattle.run_directory.proofs.Words.{name_added}
use Rattle.run_directory.proofs.names.add_name.Goals as goal

pub returns-in_ok-push : goal.returns-in_ok-push
returns-in_ok-push c =
    name_added string_bytes c.args.names.now.items c.push.new.self.items c.in_ok-from_utf8_lossy.field-0
    c.args.export.now.name c.as_slice.result.now c.module_named.result c.in-Some.name
    c.in_ok-push.ensures.items c.as_slice.ensures c.module_named.ensures c.in-Some.is c.in_ok-from_utf8_lossy.ensures.ok
