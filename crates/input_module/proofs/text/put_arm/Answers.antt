use Rattle.std.proofs.Common.{◌≡◌, ℕ, List, ◌++◌, subst, codes, decimal}
use Rattle.input_module.specs.Spelling.{spelled}
use Rattle.input_module.specs.Text.{part}
use Rattle.input_module.proofs.Joining.{five}
use Rattle.input_module.proofs.text.put_arm.Goals as goal

pub returns : goal.returns
returns c = five c.args.text.now.items (codes "  | ") (decimal c.args.number)
    (codes ": part := \"") (spelled (part c.args.bytes.now c.args.number)) (codes "\"\n")
    c.extend_from_slice.new.self.items c.put_number.new.text.items c.extend_from_slice-2.new.self.items
    c.put_bytes.new.text.items c.extend_from_slice-3.new.self.items
    c.in_ok-extend_from_slice.ensures.items c.in_ok-put_number.ensures c.in_ok-extend_from_slice-2.ensures.items
    (subst (λ (p : List ℕ). c.put_bytes.new.text.items ≡ c.extend_from_slice-2.new.self.items ++ spelled p)
    c.part_of.ensures c.in_ok-put_bytes.ensures) c.in_ok-extend_from_slice-3.ensures.items
