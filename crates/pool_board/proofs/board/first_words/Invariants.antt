use Rattle.std.proofs.Common.{◌≡◌, ℕ, ◌+◌, ◌<◌, length, slice_index}
use Rattle.pool_board.specs.Graph.{waiting_of}
use Rattle.pool_board.proofs.board.first_words.Given as goal

abbrev pub invariant-loop-job : goal.invariant-loop-job
invariant-loop-job l = record {
  length_is : length l.words.items ≡ length l.graph + l.job;
  unclaimed : (j : ℕ) → j < length l.graph → slice_index l.words.items j ≡ 0;
  waiting : (j : ℕ) → j < l.job → slice_index l.words.items (length l.graph + j) ≡ waiting_of l.graph j;
}
