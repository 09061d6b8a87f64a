use Rattle.std.proofs.Common.{◌≡◌, ℕ, ◌<◌, List, [], length, map, get_or, take, sym, ap, ◌∙◌, subst, arith}
use Rattle.std.proofs.lemmas.List.{append-nil, length-map}
use Rattle.std.proofs.Math.Seq.{take-length}
use Rattle.pool_board.proofs.Graphs.{ArePut, low_prerequisite, put_more}
use Rattle.pool_board.proofs.graph.put_in_all.Goals as goal

pub loop-i-init : goal.loop-i-init
loop-i-init c = λ p low. sym (append-nil (get_or (map (λ v. v.items) c.args.table.now) p []))

pub put_last-requires : goal.put_last-requires
put_last-requires c =
    let low = low_prerequisite c.args.list.now c.loop-i.i c.args.job c.loop-i-test.true c.requires.sound in
    omega (arith, c.requires.count, c.loop-i.auto.table)

pub loop-i-preserved : goal.loop-i-preserved
loop-i-preserved c =
    let low = low_prerequisite c.args.list.now c.loop-i.i c.args.job c.loop-i-test.true c.requires.sound in
    let rows : List (List ℕ) = map (λ v. v.items) c.loop-i.table in
    let room : get_or c.args.list.now c.loop-i.i 0 < length rows =
    omega (arith, c.requires.count, c.loop-i.auto.table, length-map c.loop-i.table (λ v. v.items)) in
    let same : length rows ≡ length (map (λ v. v.items) c.args.table.now) =
    omega (
      arith,
      c.loop-i.auto.table,
      length-map c.loop-i.table (λ v. v.items),
      length-map c.args.table.now
          (λ v. v.items),
    ) in
    rw c.in_ok-put_last.ensures
    (put_more (map (λ v. v.items) c.args.table.now) rows c.args.job c.args.list.now c.loop-i.i c.loop-i-test.true room
    same c.requires.sound c.loop-i.invariant)

pub returns : goal.returns
returns c =
    let every : c.loop-i.i ≡ length c.args.list.now = omega (arith, c.loop-i-test.false, c.loop-i.auto.i-end) in
    let whole : take c.loop-i.i c.args.list.now ≡ c.args.list.now = ap (λ (k : ℕ). take k c.args.list.now) every
    ∙ take-length c.args.list.now in
    let put = subst (λ (l : List ℕ). ArePut (map (λ v. v.items) c.args.table.now) (map (λ v. v.items) c.loop-i.table)
    c.args.job l) whole c.loop-i.invariant in
    λ p low. put p (omega (arith, low, length-map c.args.table.now (λ v. v.items)))
