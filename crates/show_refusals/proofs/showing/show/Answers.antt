use Rattle.std.proofs.Common.{◌+◌, true, false, List, ℕ, ◌++◌, ◌≡◌, codes, length, refl, sym, ap, subst, ◌∙◌}
use Rattle.std.specs.List.{flat_map}
use Rattle.std.proofs.Math.Seq.{take-length}
use Rattle.std.proofs.lemmas.Result.{err_from_is_err_and}
use Rattle.m2_tree.specs.declared.refusal.Refusal.{Refusal}
use Rattle.run_directory.specs.Reported.{Says}
use Rattle.run_directory.proofs.Saying.{not_said, said}
use Rattle.m2_tree.specs.Lines.{line_of}
use Rattle.show_refusals.proofs.Lines.{said_more, err_not_ok}
use Rattle.show_refusals.proofs.showing.show.Goals as goal

pub returns-then-not-say_all : goal.returns-then-not-say_all
returns-then-not-say_all g c =
    let e : c.as_str.result.now ++ codes "\n" ≡ line_of c.refusal-item.result =
    ap (λ (l : List ℕ). l ++ codes "\n") (c.as_str.ensures.value ∙ c.in_ok-line.ensures.ok) in
    let part = not_said g.O.Sink.reported g.O.Sink.failed line_of c.args.refusals.now c.loop-refusal.refusal-index
    c.refusal-item.result (c.as_str.result.now ++ codes "\n") c.args.out.now c.loop-refusal.out c.say_all.new.err
    c.loop-refusal-test.true (e ∙ ap line_of c.refusal-item.is) c.loop-refusal.invariant c.if-not-say_all.ensures in (
      length c.args.refusals.now,
      false,
      λ _. refl,
      subst
          (λ (rs : List Refusal). Says g.O.Sink.reported g.O.Sink.failed false (flat_map line_of rs) c.args.out.now
          c.say_all.new.err) (sym (take-length c.args.refusals.now)) part,
    )

pub returns-in_err-words : goal.returns-in_err-words
returns-in_err-words g c =
    let e : c.as_str.result.now ++ codes "\n" ≡ line_of c.refusal-item.result =
    ap (λ (l : List ℕ). l ++ codes "\n") (c.as_str.ensures.value ∙ c.in_ok-line.ensures.ok) in
    let next = said g.O.Sink.reported g.O.Sink.failed true (c.as_str.result.now ++ codes "\n")
    (line_of c.refusal-item.result) c.loop-refusal.out c.say_all.new.err c.if-not-say_all.ensures (sym e) in
    let p = err_from_is_err_and c.from_residual-in_err-words.result c.from_residual-in_err-words.ensures.1 in (
      c.loop-refusal.refusal-index + 1,
      true,
      (λ ok. absurd (err_not_ok c.from_residual-in_err-words.result p.0 p.1 ok)),
      said_more g.O.Sink.reported g.O.Sink.failed line_of c.args.refusals.now c.loop-refusal.refusal-index
          c.refusal-item.result c.args.out.now c.loop-refusal.out c.say_all.new.err c.loop-refusal-test.true
          c.refusal-item.is c.loop-refusal.invariant next,
    )

pub loop-refusal-preserved : goal.loop-refusal-preserved
loop-refusal-preserved g c =
    let e : c.as_str.result.now ++ codes "\n" ≡ line_of c.refusal-item.result =
    ap (λ (l : List ℕ). l ++ codes "\n") (c.as_str.ensures.value ∙ c.in_ok-line.ensures.ok) in
    let next = said g.O.Sink.reported g.O.Sink.failed true (c.as_str.result.now ++ codes "\n")
    (line_of c.refusal-item.result) c.loop-refusal.out c.say_all.new.err c.if-not-say_all.ensures (sym e) in
    said_more g.O.Sink.reported g.O.Sink.failed line_of c.args.refusals.now c.loop-refusal.refusal-index
    c.refusal-item.result c.args.out.now c.loop-refusal.out c.say_all.new.err c.loop-refusal-test.true
    c.refusal-item.is c.loop-refusal.invariant next
