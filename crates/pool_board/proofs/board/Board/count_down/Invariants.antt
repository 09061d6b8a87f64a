use Rattle.pool_board.proofs.board.Board.count_down.Given as goal

abbrev pub ghosts-count_word : goal.ghosts-count_word
ghosts-count_word a = record { from = a.from; edge = a.edge }
