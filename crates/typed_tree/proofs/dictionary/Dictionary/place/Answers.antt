use Rattle.std.proofs.Common.{◌∙◌, ap}
use Rattle.typed_tree.specs.Names.{place_of}
use Rattle.typed_tree.proofs.Entries.{place_is}
use Rattle.typed_tree.proofs.dictionary.Dictionary.place.Goals as goal

pub returns : goal.returns
returns g c = c.get_index_of.ensures.index ∙ place_is (λ k. k.items) c.args.name.now c.self.inside.names.entries
    ∙ ap (place_of c.args.name.now) c.self.view_is
