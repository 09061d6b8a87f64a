use Rattle.std.proofs.Common.{◌≡◌, length}
use Rattle.std.specs.Prelude.{map}
use Rattle.m2_tree.specs.declared.token.Symbol.TheVariants.{Comma}
use Rattle.def_grammar.specs.Rule.{idents_rule}
use Rattle.def_grammar.specs.Grammar.{◌▸◌, many}
use Rattle.def_grammar.specs.Ebnf.{ident}
use Rattle.def_grammar.specs.Trees.{ident_of}
use Rattle.def_grammar.specs.Reading.{gather_turns, read, read_rule}
use Rattle.parse_expr.proofs.cursor.Cursor.idents.Given as goal

abbrev pub invariant-loop-found : goal.invariant-loop-found
invariant-loop-found l = gather_turns (map ident_of) l.found (read (many (Comma ▸ ident)) 0 l.self)
    ≡ read_rule 0 idents_rule l.fn.self

abbrev pub decreases-loop-found : goal.decreases-loop-found
decreases-loop-found l = length l.self
