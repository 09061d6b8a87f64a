use Rattle.std.proofs.Common.{◌∙◌, ap}
use Rattle.typed_tree.specs.Names.{find_name}
use Rattle.typed_tree.proofs.Entries.{found_is}
use Rattle.typed_tree.proofs.dictionary.Dictionary.find.Goals as goal

pub returns : goal.returns
returns g c = c.get.ensures.value ∙ found_is (λ k. k.items) c.args.name.now c.self.inside.names.entries
    ∙ ap (find_name c.args.name.now) c.self.view_is
