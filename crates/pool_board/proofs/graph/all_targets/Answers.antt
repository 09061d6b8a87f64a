use Rattle.std.proofs.Common.{◌≡◌, ℕ, ◌<◌, ◌++◌, ◌∷◌, [], List, length, map, get_or, take, drop, sym, ap, ◌∙◌, arith}
use Rattle.std.proofs.lemmas.List.{length-map}
use Rattle.std.proofs.Math.Seq.{take-length, take-append_seam}
use Rattle.pool_board.specs.Graph.{naming_from, prerequisites_of}
use Rattle.pool_board.proofs.Graphs.{naming_more, whole_table}
use Rattle.pool_board.proofs.Targets.{row_at}
use Rattle.pool_board.proofs.graph.all_targets.Goals as goal
use Rattle.pool_board.proofs.graph.all_targets.Goals.{After-as_slice}

row_is : (c : After-as_slice) → c.as_slice.result.now
    ≡ prerequisites_of (map (λ v. v.items) c.args.prerequisites.now) c.loop-job.job
row_is c = c.as_slice.ensures.value ∙ (ap (λ v. v.items) c.index-prerequisites-job.is
    ∙ row_at (λ v. v.items) c.args.prerequisites.now c.loop-job.job c.index-prerequisites-job.result
    c.loop-job-test.true)

pub put_in_all-requires-clause-sound : goal.put_in_all-requires-clause-sound
put_in_all-requires-clause-sound c =
    let w : After-as_slice = (goal.at.put_in_all-requires-clause-sound c).After-as_slice in
    let low : c.loop-job.job < length (map (λ v. v.items) c.args.prerequisites.now) =
    rw (length-map c.args.prerequisites.now (λ v. v.items)) c.loop-job-test.true in
    rw (row_is w) (λ p. c.requires c.loop-job.job p low)

pub loop-job-preserved : goal.loop-job-preserved
loop-job-preserved c =
    let w : After-as_slice = (goal.at.loop-job-preserved c).After-as_slice in
    let graph : List (List ℕ) = map (λ v. v.items) c.args.prerequisites.now in
    let rows = c.put_in_all.new.table in
    let n : length graph ≡ length c.args.prerequisites.now = length-map c.args.prerequisites.now (λ v. v.items) in
    let len : c.loop-job.table.len ≡ length rows = omega (arith, c.put_in_all.auto.table, c.as_mut_slice.ensures.len) in
    let all_rows = ap (λ (k : ℕ). take k (rows ++ drop (length rows) c.loop-job.table.items)) len
    ∙ take-append_seam rows (drop (length rows) c.loop-job.table.items) in
    let low_job : c.loop-job.job < length graph = omega (arith, c.loop-job-test.true) in
    record {
      count = ap length all_rows ∙ omega (
        arith,
        c.put_in_all.auto.table,
        c.as_mut_slice.ensures.len,
        c.loop-job.invariant.count,
        c.loop-job.table.ok.0,
      );
      rows = λ p low.
          let was = ap (λ t. get_or (map (λ v. v.items) t) p []) c.as_mut_slice.ensures.value
          ∙ c.loop-job.invariant.rows p low in
          let at = ap (λ (r : List ℕ). naming_from c.loop-job.job (r ∷ []) p) (row_is w) in
          ap (λ t. get_or (map (λ v. v.items) t) p []) all_rows
          ∙ (c.in_ok-put_in_all.ensures p (omega
          (arith, low, c.as_mut_slice.ensures.len, c.loop-job.invariant.count, c.loop-job.table.ok.0))
          ∙ (ap (λ (l : List ℕ). l ++ naming_from c.loop-job.job (c.as_slice.result.now ∷ []) p) was
          ∙ (ap (λ (l : List ℕ). naming_from 0 (take c.loop-job.job graph) p ++ l) at
          ∙ sym (naming_more graph c.loop-job.job p low_job))));
    }

pub returns : goal.returns
returns c =
    let n : length c.args.prerequisites.now ≡ length (map (λ v. v.items) c.args.prerequisites.now) =
    sym (length-map c.args.prerequisites.now (λ v. v.items)) in
    let every : c.loop-job.job ≡ length (map (λ v. v.items) c.args.prerequisites.now) =
    omega (arith, n, c.loop-job-test.false, c.loop-job.auto.job-end) in
    let whole : take c.loop-job.job (map (λ v. v.items) c.args.prerequisites.now)
    ≡ map (λ v. v.items) c.args.prerequisites.now =
    ap (λ (k : ℕ). take k (map (λ v. v.items) c.args.prerequisites.now)) every
    ∙ take-length (map (λ v. v.items) c.args.prerequisites.now) in
    whole_table (map (λ v. v.items) c.args.prerequisites.now) (map (λ v. v.items) c.loop-job.table.items)
    (length-map c.loop-job.table.items (λ v. v.items) ∙ (c.loop-job.invariant.count ∙ n))
    (λ p low. c.loop-job.invariant.rows p (rw (sym n) at low) ∙ ap (λ (g : List (List ℕ)). naming_from 0 g p) whole)
