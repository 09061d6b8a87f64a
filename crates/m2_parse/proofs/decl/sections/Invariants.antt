use Rattle.std.proofs.Common.{◌≡◌, length}
use Rattle.m2_tree.specs.declared.token.Symbol.TheVariants.{Semicolon}
use Rattle.def_grammar.specs.Grammar.{◌▸◌, many}
use Rattle.def_grammar.specs.Ebnf.{section, sections}
use Rattle.def_grammar.specs.Trees.{with_first}
use Rattle.def_grammar.specs.Reading.{gather_turns, map_outcome, read}
use Rattle.m2_parse.proofs.decl.sections.Given as goal

abbrev pub invariant-loop-semicolon : goal.invariant-loop-semicolon
invariant-loop-semicolon l = gather_turns (λ xs. xs) l.found (read (many (Semicolon ▸ section)) 0 l.cursor)
    ≡ map_outcome with_first (read sections 0 l.fn.cursor)

abbrev pub decreases-loop-semicolon : goal.decreases-loop-semicolon
decreases-loop-semicolon l = length l.cursor
