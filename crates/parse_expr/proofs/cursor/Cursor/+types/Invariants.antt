use Rattle.std.proofs.Common.{◌≡◌, ◌+◌, ◌*◌, length}
use Rattle.m2_tree.specs.declared.token.Symbol.TheVariants.{Semicolon}
use Rattle.def_grammar.specs.Grammar.{◌▸◌, many, opt}
use Rattle.def_grammar.specs.Ebnf.{field, fields}
use Rattle.def_grammar.specs.Trees.{present, with_first}
use Rattle.def_grammar.specs.Reading.{gather_turns, map_outcome, read}
use Rattle.parse_expr.proofs.cursor.Cursor.+types.Given as goal

abbrev pub decreases-dims : goal.decreases-dims
decreases-dims l = l.room * 32 + 22

abbrev pub decreases-field : goal.decreases-field
decreases-field l = l.room * 32 + 22

abbrev pub decreases-fields : goal.decreases-fields
decreases-fields l = l.room * 32 + 24

abbrev pub decreases-inner_array : goal.decreases-inner_array
decreases-inner_array l = l.room * 32 + 21

abbrev pub decreases-maybe_field : goal.decreases-maybe_field
decreases-maybe_field l = l.room * 32 + 23

abbrev pub decreases-structure_type : goal.decreases-structure_type
decreases-structure_type l = l.room * 32 + 25

abbrev pub decreases-type_expr : goal.decreases-type_expr
decreases-type_expr l = l.room * 32 + 20

abbrev pub invariant-fields-loop-self : goal.invariant-fields-loop-self
invariant-fields-loop-self l = gather_turns present l.found (read (many (Semicolon ▸ opt field)) l.room l.self)
    ≡ map_outcome (λ p. present (with_first p)) (read fields l.room l.fn.self)

abbrev pub decreases-fields-loop-self : goal.decreases-fields-loop-self
decreases-fields-loop-self l = length l.self
