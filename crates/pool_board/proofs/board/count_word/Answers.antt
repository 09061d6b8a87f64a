use Rattle.std.proofs.Common.{arith}
use Rattle.pool_board.proofs.Keeps.{counts_down}
use Rattle.pool_board.proofs.Targets.{target_names}
use Rattle.pool_board.proofs.board.count_word.Goals as goal

pub fetch_sub-requires : goal.fetch_sub-requires
fetch_sub-requires g c =
    let r = c.requires.may in
    let low = (target_names c.args.shared.now.key.graph.value c.args.from c.args.edge r.edge_is).0 in
    let words = r.words_are in
    let at = r.waiting_is in (
      r.seat_is,
      omega (arith, low, words, at),
      rw (← c.requires.edge.0, ← c.requires.edge.1, r.waiting_is)
          (counts_down (Unit {0}) c.args.shared.now.key.graph.value c.args.shared.now.key.workers r.is_graph _ _
          c.args.from c.args.edge _ r.edge_is low r.fresh r.had r.share),
    )
