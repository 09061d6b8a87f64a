use Rattle.std.proofs.Common.{◌≡◌, ◌∙◌, ◌++◌, ℕ, List, ap, sym, codes, decimal}
use Rattle.m2c.specs.Endings.{range_words}
use Rattle.run_directory.proofs.Saying.{said}
use Rattle.m2c.proofs.say.say_range.Goals as goal

pub returns : goal.returns
returns g c =
    let words : List ℕ → List ℕ → List ℕ =
    λ upper number. c.args.front.now ++ (c.args.option.now
    ++ (codes " takes a number from 1 to " ++ (upper ++ (codes ", and not '" ++ (number ++ codes "'\n"))))) in
    let e : words (decimal c.args.most) (decimal c.args.given)
    ≡ words c.format-upper.result.now c.format-number.result.now =
    ap (λ (u : List ℕ). words u (decimal c.args.given)) (sym c.format-upper.ensures.text)
    ∙ ap (λ (n : List ℕ). words c.format-upper.result.now n) (sym c.format-number.ensures.text) in
    said g.E.Sink.reported g.E.Sink.failed c.say_all.result (words c.format-upper.result.now c.format-number.result.now)
    (range_words c.args.front.now c.args.option.now c.args.most c.args.given) c.args.err.now c.say_all.new.err
    c.say_all.ensures e
