use Rattle.std.proofs.Common.{◌≡◌, ℕ, List, ◌++◌, subst}
use Rattle.input_module.specs.Text.{arms, parts_of, front, back, text_of}
use Rattle.input_module.proofs.Joining.{whole}
use Rattle.input_module.proofs.text.whole_text.Goals as goal

pub returns : goal.returns
unfolding text_of
returns c = whole (front c.args.bytes.now) (arms c.args.bytes.now (parts_of c.args.bytes.now)) back
    c.in_ok-text.text.items c.put_arms.new.text.items c.extend_from_slice.new.self.items
    c.in_ok-text.ensures c.in_ok-put_arms.ensures
    (subst (λ (p : List ℕ). c.extend_from_slice.new.self.items ≡ c.put_arms.new.text.items ++ p)
    c.as_bytes.ensures.value c.in_ok-extend_from_slice.ensures.items)
