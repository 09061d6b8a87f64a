-- The results of a graph's jobs: the words of `pool_board`, passed on.
pub use Rattle.pool_board.specs.Results.{with_item, items_at, results_below, results, AreCoherent, AreResults, IsCopy}
