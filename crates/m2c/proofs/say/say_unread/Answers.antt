use Rattle.std.proofs.Common.{◌∙◌, ℕ, List, ap, sym}
use Rattle.m2c.specs.Endings.{unread_words}
use Rattle.run_directory.proofs.Saying.{said}
use Rattle.m2c.proofs.say.say_unread.Goals as goal

pub returns : goal.returns
returns g c =
    said g.E.Sink.reported g.E.Sink.failed c.say_all.result
    (unread_words c.front.result.now c.reason.result.now c.args.name.now)
    (unread_words (g.I.InDir.in_front c.args.files.now) (g.I.InDir.behind c.args.files.now) c.args.name.now)
    c.args.err.now c.say_all.new.err c.say_all.ensures
    (ap (λ (f : List ℕ). unread_words f (g.I.InDir.behind c.args.files.now) c.args.name.now) (sym c.front.ensures)
    ∙ ap (λ (r : List ℕ). unread_words c.front.result.now r c.args.name.now) (sym c.reason.ensures))
