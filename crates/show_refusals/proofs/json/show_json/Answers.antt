use Rattle.std.proofs.Common.{◌+◌, true, false, List, [], ◌∷◌, ℕ, ◌++◌, ◌≡◌, codes, sym, ap, ◌∙◌}
use Rattle.std.specs.List.{flat_map}
use Rattle.std.proofs.lemmas.Bool.{false≢true}
use Rattle.run_directory.proofs.Saying.{said, says_more}
use Rattle.show_refusals.specs.Objects.{Row, line_of}
use Rattle.show_refusals.proofs.Lines.{bytes_more, rows_more}
use Rattle.show_refusals.proofs.json.show_json.Goals as goal

pub returns-then-not-say_all : goal.returns-then-not-say_all
returns-then-not-say_all g c =
    let inv = c.loop-refusal.invariant in
    let row : Row = record {
      refusal = c.refusal-item.result;
      end = c.end_of-end.result;
      words =
          c.unwrap_or-words.result.now;
      detail = c.detail_of-detail.result.now;
    } in
    let line = c.as_str.result.now ++ codes "\n" in
    let e : line ≡ line_of row = ap (λ (l : List ℕ). l ++ codes "\n") (c.as_str.ensures.value ∙ c.in_ok-line.ensures) in
    let split = bytes_more inv.0 row ∙ ap (λ (t : List ℕ). flat_map line_of inv.0 ++ t) (sym e) in
    let whole = says_more g.O.Sink.reported g.O.Sink.failed false (flat_map line_of inv.0) line c.args.out.now
    c.loop-refusal.out c.say_all.new.err inv.2 c.if-not-say_all.ensures in (
      c.loop-refusal.refusal-index + 1,
      inv.0 ++ row
          ∷ [],
      false,
      rows_more inv.0 c.args.refusals.now c.loop-refusal.refusal-index row c.loop-refusal-test.true
          c.refusal-item.is inv.1,
      (λ _ no. absurd (false≢true no)),
      said g.O.Sink.reported g.O.Sink.failed false
          (flat_map line_of inv.0 ++ line) (flat_map line_of (inv.0 ++ row ∷ [])) c.args.out.now c.say_all.new.err whole
          split,
    )

pub loop-refusal-preserved : goal.loop-refusal-preserved
loop-refusal-preserved g c =
    let inv = c.loop-refusal.invariant in
    let row : Row = record {
      refusal = c.refusal-item.result;
      end = c.end_of-end.result;
      words =
          c.unwrap_or-words.result.now;
      detail = c.detail_of-detail.result.now;
    } in
    let line = c.as_str.result.now ++ codes "\n" in
    let e : line ≡ line_of row = ap (λ (l : List ℕ). l ++ codes "\n") (c.as_str.ensures.value ∙ c.in_ok-line.ensures) in
    let split = bytes_more inv.0 row ∙ ap (λ (t : List ℕ). flat_map line_of inv.0 ++ t) (sym e) in
    let whole = says_more g.O.Sink.reported g.O.Sink.failed true (flat_map line_of inv.0) line c.args.out.now
    c.loop-refusal.out c.say_all.new.err inv.2 c.if-not-say_all.ensures in (
      inv.0 ++ row ∷ [],
      rows_more inv.0 c.args.refusals.now c.loop-refusal.refusal-index row c.loop-refusal-test.true
          c.refusal-item.is inv.1,
      said g.O.Sink.reported g.O.Sink.failed true (flat_map line_of inv.0 ++ line)
          (flat_map line_of (inv.0 ++ row ∷ [])) c.args.out.now c.say_all.new.err whole split,
    )
