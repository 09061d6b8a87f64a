use Rattle.std.proofs.Common.{◌≡◌, List, ℕ, sym, subst, ◌∙◌}
use Rattle.std.specs.Str.{IsUtf8}
use Rattle.std.specs.String.{string_bytes}
use Rattle.std.proofs.lemmas.Result.{IfOk-weaker}
use Rattle.m2c.proofs.Bodies.{name_utf8}
use Rattle.m2c.proofs.modules.text_of.Goals as goal

pub returns : goal.returns
returns c =
    let text = name_utf8 c.args.name.now c.requires in
    IfOk-weaker c.from_utf8_lossy.result (λ t. IsUtf8 c.as_bytes.result.now → string_bytes t ≡ c.as_bytes.result.now)
    (λ t. string_bytes t ≡ c.args.name.now)
    (λ t h. h (subst (λ (bs : List ℕ). IsUtf8 bs) (sym c.as_bytes.ensures.value) text) ∙ c.as_bytes.ensures.value)
    c.from_utf8_lossy.ensures.ok
