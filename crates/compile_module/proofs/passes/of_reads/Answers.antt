use Rattle.std.proofs.Common.{◌≡◌, [], map, vec_len, sym, ap, ◌∙◌, arith}
use Rattle.std.proofs.lemmas.Bool.{eqb-true}
use Rattle.std.proofs.lemmas.Result.{IfOk-weaker}
use Rattle.build_jobs.specs.Borrowed.{borrow_trees}
use Rattle.build_results.specs.Reported.{report_of}
use Rattle.compile_module.specs.Alone.{Comes, ComesOf}
use Rattle.compile_module.proofs.Coming.{no_items, comes_of}
use Rattle.compile_module.proofs.passes.of_reads.Goals as goal

pub returns : goal.returns
returns c =
    let rs = c.in_ok-refused.refused in
    let none : rs.items ≡ [] = no_items rs.items
    (let zero : vec_len rs ≡ 0 = eqb-true (vec_len rs) 0 (sym c.is_empty.ensures ∙ c.if-not-is_empty.false) in
    omega (arith, rs.ok.0, zero)) in
    IfOk-weaker c.compile_trees.result (Comes (borrow_trees c.deref.result.now)) (ComesOf c.args.files.now)
    (λ m h. comes_of c.args.files.now m (
      borrow_trees c.deref.result.now,
      record {
        reads = c.args.reads.now;
        are_read = c.requires.read;
        fine = sym c.in_ok-refused.ensures
            ∙ ap (map report_of) none;
        all = ap borrow_trees c.deref.ensures.value ∙ c.in_ok-trees.ensures;
      },
      h,
    ))
    c.compile_trees.ensures
