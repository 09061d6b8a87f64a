use Rattle.std.proofs.Common.{◌≡◌, [], ◌+◌, ◌*◌, length}
use Rattle.def_grammar.specs.Grammar.{many}
use Rattle.def_grammar.specs.Ebnf.{decl}
use Rattle.def_grammar.specs.Reading.{gather_turns, read}
use Rattle.m2_parse.proofs.decl.+decl.Given as goal

abbrev pub decreases-block : goal.decreases-block
decreases-block l = l.room * 32 + 11

abbrev pub decreases-contents : goal.decreases-contents
decreases-contents l = l.room * 32 + 12

abbrev pub decreases-decl : goal.decreases-decl
decreases-decl l = l.room * 32 + 9

abbrev pub decreases-decls : goal.decreases-decls
decreases-decls l = l.room * 32 + 10

abbrev pub decreases-procedure : goal.decreases-procedure
decreases-procedure l = l.room * 32 + 8

abbrev pub invariant-decls-loop-found : goal.invariant-decls-loop-found
invariant-decls-loop-found l = gather_turns (λ xs. xs) l.found (read (many decl) l.room l.cursor)
    ≡ gather_turns (λ xs. xs) [] (read (many decl) l.room l.fn.cursor)

abbrev pub decreases-decls-loop-found : goal.decreases-decls-loop-found
decreases-decls-loop-found l = length l.cursor
