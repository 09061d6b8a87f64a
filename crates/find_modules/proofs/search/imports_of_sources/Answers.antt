use Rattle.find_modules.proofs.Importing.{of_texts}
use Rattle.find_modules.proofs.search.imports_of_sources.Goals as goal

pub returns : goal.returns
returns c = of_texts c.args.sources.now c.deref.result.now c.in_ok-names.names.items c.in_ok-more.more.items
    c.append.new.self.items c.deref.ensures.value c.in_ok-names.ensures c.in_ok-more.ensures
    c.in_ok-append.ensures.items
