use Rattle.std.proofs.Common.{◌≡◌, ◌+◌, ◌*◌, length}
use Rattle.m2_tree.specs.declared.token.Symbol.TheVariants.{Bar, Semicolon}
use Rattle.def_grammar.specs.Rule.{stmts_rule}
use Rattle.def_grammar.specs.Grammar.{◌▸◌, many, opt}
use Rattle.def_grammar.specs.Ebnf.{arm, arms, stmt}
use Rattle.def_grammar.specs.Trees.{present, with_first}
use Rattle.def_grammar.specs.Reading.{gather_turns, map_outcome, read, read_rule}
use Rattle.parse_stmt.proofs.stmt.+stmt.Given as goal

abbrev pub decreases-arm : goal.decreases-arm
decreases-arm l = l.room * 32 + 23

abbrev pub decreases-arms : goal.decreases-arms
decreases-arms l = l.room * 32 + 25

abbrev pub decreases-case_stmt : goal.decreases-case_stmt
decreases-case_stmt l = l.room * 32 + 10

abbrev pub decreases-elsif_part : goal.decreases-elsif_part
decreases-elsif_part l = l.room * 32 + 10

abbrev pub decreases-for_rest : goal.decreases-for_rest
decreases-for_rest l = l.room * 32 + 23

abbrev pub decreases-for_stmt : goal.decreases-for_stmt
decreases-for_stmt l = l.room * 32 + 10

abbrev pub decreases-if_stmt : goal.decreases-if_stmt
decreases-if_stmt l = l.room * 32 + 10

abbrev pub decreases-loop_stmt : goal.decreases-loop_stmt
decreases-loop_stmt l = l.room * 32 + 10

abbrev pub decreases-maybe_arm : goal.decreases-maybe_arm
decreases-maybe_arm l = l.room * 32 + 24

abbrev pub decreases-maybe_else : goal.decreases-maybe_else
decreases-maybe_else l = l.room * 32 + 23

abbrev pub decreases-maybe_stmt : goal.decreases-maybe_stmt
decreases-maybe_stmt l = l.room * 32 + 21

abbrev pub decreases-other_stmt : goal.decreases-other_stmt
decreases-other_stmt l = l.room * 32 + 19

abbrev pub decreases-repeat_stmt : goal.decreases-repeat_stmt
decreases-repeat_stmt l = l.room * 32 + 10

abbrev pub decreases-rest : goal.decreases-rest
decreases-rest l = l.room * 32 + 24

abbrev pub decreases-stmt : goal.decreases-stmt
decreases-stmt l = l.room * 32 + 20

abbrev pub decreases-stmts : goal.decreases-stmts
decreases-stmts l = l.room * 32 + 22

abbrev pub decreases-while_stmt : goal.decreases-while_stmt
decreases-while_stmt l = l.room * 32 + 10

abbrev pub decreases-with_stmt : goal.decreases-with_stmt
decreases-with_stmt l = l.room * 32 + 10

abbrev pub invariant-stmts-loop-cursor : goal.invariant-stmts-loop-cursor
invariant-stmts-loop-cursor l = gather_turns present l.found (read (many (Semicolon ▸ opt stmt)) l.room l.cursor)
    ≡ read_rule l.room stmts_rule l.fn.cursor

abbrev pub decreases-stmts-loop-cursor : goal.decreases-stmts-loop-cursor
decreases-stmts-loop-cursor l = length l.cursor

abbrev pub invariant-arms-loop-cursor : goal.invariant-arms-loop-cursor
invariant-arms-loop-cursor l = gather_turns present l.found (read (many (Bar ▸ opt arm)) l.room l.cursor)
    ≡ map_outcome (λ p. present (with_first p)) (read arms l.room l.fn.cursor)

abbrev pub decreases-arms-loop-cursor : goal.decreases-arms-loop-cursor
decreases-arms-loop-cursor l = length l.cursor
