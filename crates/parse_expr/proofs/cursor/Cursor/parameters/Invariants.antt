use Rattle.std.proofs.Common.{◌≡◌, length}
use Rattle.m2_tree.specs.declared.token.Symbol.TheVariants.{Comma}
use Rattle.def_grammar.specs.Grammar.{◌▸◌, many}
use Rattle.def_grammar.specs.Ebnf.{parameter, parameters}
use Rattle.def_grammar.specs.Trees.{with_first}
use Rattle.def_grammar.specs.Reading.{gather_turns, map_outcome, read}
use Rattle.parse_expr.proofs.cursor.Cursor.parameters.Given as goal

abbrev pub invariant-loop-comma : goal.invariant-loop-comma
invariant-loop-comma l = gather_turns (λ xs. xs) l.found (read (many (Comma ▸ parameter)) 0 l.self)
    ≡ map_outcome with_first (read parameters 0 l.fn.self)

abbrev pub decreases-loop-comma : goal.decreases-loop-comma
decreases-loop-comma l = length l.self
