use Rattle.list_imports.specs.Listed.{texts}
use Rattle.compile_module.proofs.Telling.{all_imports}
use Rattle.compile_module.proofs.told.imports_of.Goals as goal

pub returns-in_ok-add_imports-in-len1-up : goal.returns-in_ok-add_imports-in-len1-up
returns-in_ok-add_imports-in-len1-up c =
    let front = c.in_ok-imports-in-len1-up in
    all_imports (texts front.imports.items) (texts c.add_imports.new.names.items) c.args.trees.now c.first-item.result
    c.in-len1-up.len_at_least c.first-item.is front.ensures c.in_ok-add_imports-in-len1-up.ensures
