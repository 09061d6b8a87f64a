use Rattle.std.proofs.Common.{◌∙◌, ap, ℕ, List}
use Rattle.typed_tree.specs.Names.{enter_name}
use Rattle.typed_tree.proofs.Entries.{entered_is, named}
use Rattle.typed_tree.proofs.dictionary.Dictionary.enter.Goals as goal

pub returns : goal.returns
returns g c = ap (named (λ k. k.items)) c.in_ok-insert.ensures.entries
    ∙ entered_is (λ k. k.items) c.in_ok-key.key c.args.value c.self.inside.names.entries
    ∙ ap (λ (k : List ℕ). enter_name k c.args.value (named (λ k. k.items) c.self.inside.names.entries))
    c.in_ok-key.ensures.items ∙ ap (enter_name c.args.name.now c.args.value) c.self.view_is
