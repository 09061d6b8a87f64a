use Rattle.std.proofs.Common.{◌≡◌, true, false, sym, ◌∙◌}
use Rattle.std.specs.Prelude.{slice_get}
use Rattle.std.proofs.lemmas.List.Elements.{All-map}
use Rattle.wasm_tree.specs.Code.{label_of}
use Rattle.wasm_valid.specs.Framed.{labels_of}
use Rattle.wasm_valid.proofs.Located.{all_names}
use Rattle.wasm_valid.proofs.typing.check_labels.Goals as goal

pub returns-then-are_same_labels-clause-same : goal.returns-then-are_same_labels-clause-same
returns-then-are_same_labels-clause-same c =
    All-map (λ l. slice_get (labels_of c.args.blocks.now) l ≡ slice_get (labels_of c.args.blocks.now) c.args.last)
    label_of c.args.branches.now (c.are_same_labels.ensures.0 c.if-are_same_labels.true)

pub returns-else-are_same_labels-clause-same : goal.returns-else-are_same_labels-clause-same
returns-else-are_same_labels-clause-same c = λ h.
    let found = c.are_same_labels.ensures.1
    (all_names (λ l. slice_get (labels_of c.args.blocks.now) l
    ≡ slice_get (labels_of c.args.blocks.now) c.args.last) label_of c.args.branches.now h) in
    let e : false ≡ true = sym c.if-are_same_labels.false ∙ found in
    cc
