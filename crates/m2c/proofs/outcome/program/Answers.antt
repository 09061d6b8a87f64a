use Rattle.std.proofs.Common.{◌≡◌, ◌≤◌, ◌<◌, ◌+◌, ◌*◌, ℕ, List, length, map, inr, sym, ap, subst, ◌∙◌, arith}
use Rattle.std.specs.Borrow.{Bor}
use Rattle.std.specs.Global.{Vec}
use Rattle.std.proofs.lemmas.Bool.{ltb-true, ltb-false}
use Rattle.std.proofs.lemmas.List.{length-map}
use Rattle.def_scheme.specs.Modules.{stack_begin}
use Rattle.m2_emit.specs.declared.emitted.ModuleBytes.{ModuleBytes}
use Rattle.m2_emit.specs.Emitted.{parts}
use Rattle.build_jobs.specs.Borrowed.{borrow_trees}
use Rattle.m2c.proofs.Graphs.{program_count, is_too_large}
use Rattle.m2c.proofs.outcome.program.Goals as goal

abbrev items_of : Vec ℕ → List ℕ
items_of v = v.items

pub is_too_large-requires : goal.is_too_large-requires
is_too_large-requires c =
    let g = c.args.graph.now in
    let few = program_count c.args.files.now (borrow_trees c.args.trees.now) g.files.items (map items_of g.jobs.items)
    g.starts.items c.requires.graph c.requires.none in
    omega (
      arith,
      few,
      length-map c.args.modules.now (λ (m : Bor ModuleBytes). m.now),
      ap
          (λ (ms : List ModuleBytes). length ms) c.requires.modules,
    )

pub returns-then-is_too_large : goal.returns-then-is_too_large
returns-then-is_too_large c =
    let g = c.args.graph.now in
    let whole = map (λ (m : Bor ModuleBytes). m.now) c.args.modules.now in
    let more : 65536 * c.args.pages < stack_begin (parts whole) + 4096 =
    ltb-true (65536 * c.args.pages) (stack_begin (parts whole) + 4096)
    (sym c.is_too_large.ensures ∙ c.if-is_too_large.true) in
    let more' = subst (λ (ms : List ModuleBytes). 65536 * c.args.pages < stack_begin (parts ms) + 4096)
    c.requires.modules more in
    inr (inr (inr (is_too_large c.args.files.now (borrow_trees c.args.trees.now) g.files.items
    (map items_of g.jobs.items) g.starts.items c.requires.graph c.requires.none c.args.pages more'
    _ (c.in_ok-refusals.refusals.items, c.in_ok-refusals.ensures, c.in_ok-in_order.ensures))))

pub build_modules-requires-clause-fits : goal.build_modules-requires-clause-fits
build_modules-requires-clause-fits c =
    let whole = map (λ (m : Bor ModuleBytes). m.now) c.args.modules.now in
    ltb-false (65536 * c.args.pages) (stack_begin (parts whole) + 4096)
    (sym c.is_too_large.ensures ∙ c.if-is_too_large.false)
