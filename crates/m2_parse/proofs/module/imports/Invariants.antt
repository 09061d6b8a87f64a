use Rattle.std.proofs.Common.{◌≡◌, [], length}
use Rattle.def_grammar.specs.Grammar.{many}
use Rattle.def_grammar.specs.Ebnf.{import}
use Rattle.def_grammar.specs.Refusal.{max_nesting}
use Rattle.def_grammar.specs.Reading.{gather_turns, read}
use Rattle.m2_parse.proofs.module.imports.Given as goal

abbrev pub invariant-loop-found : goal.invariant-loop-found
invariant-loop-found l = gather_turns (λ xs. xs) l.found (read (many import) max_nesting l.cursor)
    ≡ gather_turns (λ xs. xs) [] (read (many import) max_nesting l.fn.cursor)

abbrev pub decreases-loop-found : goal.decreases-loop-found
decreases-loop-found l = length l.cursor
