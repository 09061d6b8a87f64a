use Rattle.std.proofs.Common.{◌∙◌, sym, List, length, subst}
use Rattle.std.proofs.lemmas.Result.{err_from_is_err_and}
use Rattle.std.proofs.lemmas.Bool.{eqb-true}
use Rattle.std.proofs.lemmas.List.{nil_from_length}
use Rattle.m2_tree.specs.declared.token.Token.{Token}
use Rattle.scan_tokens.proofs.Scanned.{Scanned, begins, goes_on, skipped, shorter, ends, stops, tokens_once, too_long, only_memory, only_refusal, never_both}
use Rattle.scan_tokens.proofs.tokens.scan.Goals as goal

pub returns-then-text-gt-MAX_TEXT-clause-refused : goal.returns-then-text-gt-MAX_TEXT-clause-refused
returns-then-text-gt-MAX_TEXT-clause-refused c =
    too_long c.args.text.now c.scan_refusal.result c.if-text-gt-MAX_TEXT.true c.scan_refusal.ensures

pub loop-alloc-init : goal.loop-alloc-init
loop-alloc-init c =
    let P : List Token → Type 0 = λ ts. Scanned c.args.text.now c.args.text.now (record { line = 1; col = 1 }) ts in
    subst P (sym c.new-tokens.ensures.items) (begins c.args.text.now c.if-text-gt-MAX_TEXT.false)

pub returns-in_err-next_cut-clause-refused : goal.returns-in_err-next_cut-clause-refused
returns-in_err-next_cut-clause-refused c =
    let p = err_from_is_err_and c.from_residual.result c.from_residual.ensures.1 in
    rw (p.1, p.2) (stops c.args.text.now c.loop-alloc.cut.rest.now c.loop-alloc.cut.pos c.loop-alloc.tokens.items _
    c.loop-alloc.invariant c.in_err-next_cut.ensures.refused)

pub returns-in_err-next_cut-clause-accepted : goal.returns-in_err-next_cut-clause-accepted
returns-in_err-next_cut-clause-accepted c =
    let p = err_from_is_err_and c.from_residual.result c.from_residual.ensures.1 in
    rw (p.1, p.2) (λ ts small h. only_memory c.args.text.now _ ts small h
    (stops c.args.text.now c.loop-alloc.cut.rest.now c.loop-alloc.cut.pos c.loop-alloc.tokens.items _
    c.loop-alloc.invariant c.in_err-next_cut.ensures.refused))

pub cut_blanks-requires : goal.cut_blanks-requires
cut_blanks-requires c =
    let a = c.in_ok-next_cut.ensures.taken in
    let s = goes_on c.args.text.now c.loop-alloc.cut.rest.now c.loop-alloc.cut.pos c.loop-alloc.tokens.items a.0
    c.next_cut.new.cut.rest.now c.next_cut.new.cut.pos c.next_cut.new.tokens.items c.loop-alloc.invariant a.1 a.2 in
    record { room = s.room }

pub loop-alloc-smaller : goal.loop-alloc-smaller
loop-alloc-smaller c =
    let a = c.in_ok-next_cut.ensures.taken in
    let mid = c.next_cut.new.cut in
    shorter c.loop-alloc.cut.rest.now c.loop-alloc.cut.pos a.0 mid.rest.now mid.pos c.cut_blanks.new.cut.rest.now
    c.cut_blanks.new.cut.pos a.1 c.cut_blanks.ensures

pub loop-alloc-preserved : goal.loop-alloc-preserved
loop-alloc-preserved c =
    let a = c.in_ok-next_cut.ensures.taken in
    let mid = c.next_cut.new.cut in
    let s = goes_on c.args.text.now c.loop-alloc.cut.rest.now c.loop-alloc.cut.pos c.loop-alloc.tokens.items a.0
    mid.rest.now mid.pos c.next_cut.new.tokens.items c.loop-alloc.invariant a.1 a.2 in
    skipped c.args.text.now mid.rest.now mid.pos c.next_cut.new.tokens.items c.cut_blanks.new.cut.rest.now
    c.cut_blanks.new.cut.pos s c.cut_blanks.ensures

pub returns-clause-tokens : goal.returns-clause-tokens
returns-clause-tokens c = (
  c.loop-alloc.invariant.small,
  ends c.args.text.now c.loop-alloc.cut.rest.now c.loop-alloc.cut.pos
      c.loop-alloc.tokens.items c.put.new.tokens.items c.loop-alloc.invariant
      (nil_from_length c.loop-alloc.cut.rest.now
      (eqb-true (length c.loop-alloc.cut.rest.now) 0 (sym c.is_empty.ensures ∙ c.loop-alloc-test.false)))
      c.in_ok-put.ensures,
)

pub returns-clause-accepted : goal.returns-clause-accepted
returns-clause-accepted c = λ ts small h.
    tokens_once c.args.text.now c.put.new.tokens.items ts
    (ends c.args.text.now c.loop-alloc.cut.rest.now c.loop-alloc.cut.pos c.loop-alloc.tokens.items
    c.put.new.tokens.items c.loop-alloc.invariant
    (nil_from_length c.loop-alloc.cut.rest.now
    (eqb-true (length c.loop-alloc.cut.rest.now) 0 (sym c.is_empty.ensures ∙ c.loop-alloc-test.false)))
    c.in_ok-put.ensures) h

pub returns-then-text-gt-MAX_TEXT-clause-reported : goal.returns-then-text-gt-MAX_TEXT-clause-reported
returns-then-text-gt-MAX_TEXT-clause-reported c =
    λ r h. only_refusal c.args.text.now c.scan_refusal.result r h
    (too_long c.args.text.now c.scan_refusal.result c.if-text-gt-MAX_TEXT.true c.scan_refusal.ensures)

pub returns-in_err-next_cut-clause-reported : goal.returns-in_err-next_cut-clause-reported
returns-in_err-next_cut-clause-reported c =
    let p = err_from_is_err_and c.from_residual.result c.from_residual.ensures.1 in
    rw (p.1, p.2) (λ r h. only_refusal c.args.text.now _ r h
    (stops c.args.text.now c.loop-alloc.cut.rest.now c.loop-alloc.cut.pos c.loop-alloc.tokens.items _
    c.loop-alloc.invariant c.in_err-next_cut.ensures.refused))

pub returns-clause-reported : goal.returns-clause-reported
returns-clause-reported c = λ r h.
    let last = nil_from_length c.loop-alloc.cut.rest.now
    (eqb-true (length c.loop-alloc.cut.rest.now) 0 (sym c.is_empty.ensures ∙ c.loop-alloc-test.false)) in
    never_both c.args.text.now c.put.new.tokens.items r c.loop-alloc.invariant.small
    (ends c.args.text.now c.loop-alloc.cut.rest.now c.loop-alloc.cut.pos c.loop-alloc.tokens.items
    c.put.new.tokens.items c.loop-alloc.invariant last c.in_ok-put.ensures) h
