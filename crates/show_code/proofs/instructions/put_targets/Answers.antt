use Rattle.std.proofs.Common.{ℕ, List, ◌++◌, codes, subst, sym}
use Rattle.std.specs.List.{flat_map}
use Rattle.wasm_tree.specs.Code.{label_of}
use Rattle.show_code.specs.Pages.{Puts}
use Rattle.show_code.specs.Instructions.{label_text, targets_text}
use Rattle.show_code.proofs.Joined.{before}
use Rattle.show_code.proofs.Texts.{each_label}
use Rattle.show_code.proofs.instructions.put_targets.Goals as goal

pub returns : goal.returns
unfolding targets_text
returns c =
    subst (λ (ls : List ℕ). Puts c.args.page.now c.put_label.new.page
    (codes "br_table" ++ (ls ++ label_text c.args.last)))
    (sym (each_label c.args.labels.now))
    (before c.args.page.now c.put.new.self c.put_label.new.page (codes "br_table")
    (flat_map (λ o. label_text (label_of o)) c.args.labels.now ++ label_text c.args.last) c.put.ensures
    (before c.put.new.self c.put_labels.new.page c.put_label.new.page
    (flat_map (λ o. label_text (label_of o)) c.args.labels.now) (label_text c.args.last) c.put_labels.ensures
    c.put_label.ensures))
