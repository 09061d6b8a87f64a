use Rattle.std.proofs.Common.{◌≡◌, [], ◌+◌, ◌*◌, length}
use Rattle.std.specs.Prelude.{map}
use Rattle.m2_tree.specs.declared.token.Symbol.TheVariants.{Comma}
use Rattle.def_grammar.specs.Rule.{selectors_rule}
use Rattle.def_grammar.specs.Grammar.{◌·◌, ◌▸◌, many}
use Rattle.def_grammar.specs.Ebnf.{add_op, expr, exprs, factor, item, items, mul_op, selector, term}
use Rattle.def_grammar.specs.Trees.{add_operand, flatten_lists, multiply_operand, selectors_of, with_first}
use Rattle.def_grammar.specs.Reading.{gather_turns, map_outcome, read, read_rule}
use Rattle.parse_expr.proofs.cursor.Cursor.+expr.Given as goal

abbrev pub decreases-args : goal.decreases-args
decreases-args l = l.room * 32 + 10

abbrev pub decreases-bracket_expr : goal.decreases-bracket_expr
decreases-bracket_expr l = l.room * 32 + 15

abbrev pub decreases-expr : goal.decreases-expr
decreases-expr l = l.room * 32 + 22

abbrev pub decreases-exprs : goal.decreases-exprs
decreases-exprs l = l.room * 32 + 23

abbrev pub decreases-factor : goal.decreases-factor
decreases-factor l = l.room * 32 + 16

abbrev pub decreases-factors : goal.decreases-factors
decreases-factors l = l.room * 32 + 17

abbrev pub decreases-item : goal.decreases-item
decreases-item l = l.room * 32 + 24

abbrev pub decreases-items : goal.decreases-items
decreases-items l = l.room * 32 + 25

abbrev pub decreases-name_use : goal.decreases-name_use
decreases-name_use l = l.room * 32 + 15

abbrev pub decreases-negation : goal.decreases-negation
decreases-negation l = l.room * 32 + 15

abbrev pub decreases-selector : goal.decreases-selector
decreases-selector l = l.room * 32 + 12

abbrev pub decreases-selectors : goal.decreases-selectors
decreases-selectors l = l.room * 32 + 13

abbrev pub decreases-set : goal.decreases-set
decreases-set l = l.room * 32 + 8

abbrev pub decreases-subscript : goal.decreases-subscript
decreases-subscript l = l.room * 32 + 11

abbrev pub decreases-sum : goal.decreases-sum
decreases-sum l = l.room * 32 + 20

abbrev pub decreases-term : goal.decreases-term
decreases-term l = l.room * 32 + 18

abbrev pub decreases-terms : goal.decreases-terms
decreases-terms l = l.room * 32 + 19

abbrev pub invariant-exprs-loop-found : goal.invariant-exprs-loop-found
invariant-exprs-loop-found l = gather_turns (λ xs. xs) l.found (read (many (Comma ▸ expr)) l.room l.self)
    ≡ map_outcome with_first (read exprs l.room l.fn.self)

abbrev pub decreases-exprs-loop-found : goal.decreases-exprs-loop-found
decreases-exprs-loop-found l = length l.self

abbrev pub invariant-items-loop-found : goal.invariant-items-loop-found
invariant-items-loop-found l = gather_turns (λ xs. xs) l.found (read (many (Comma ▸ item)) l.room l.self)
    ≡ map_outcome with_first (read items l.room l.fn.self)

abbrev pub decreases-items-loop-found : goal.decreases-items-loop-found
decreases-items-loop-found l = length l.self

abbrev pub invariant-factors-loop-op : goal.invariant-factors-loop-op
invariant-factors-loop-op l = gather_turns (map multiply_operand) l.found (read (many (mul_op · factor)) l.room l.self)
    ≡ gather_turns (map multiply_operand) [] (read (many (mul_op · factor)) l.room l.fn.self)

abbrev pub decreases-factors-loop-op : goal.decreases-factors-loop-op
decreases-factors-loop-op l = length l.self

abbrev pub invariant-terms-loop-op : goal.invariant-terms-loop-op
invariant-terms-loop-op l = gather_turns (map add_operand) l.found (read (many (add_op · term)) l.room l.self)
    ≡ gather_turns (map add_operand) [] (read (many (add_op · term)) l.room l.fn.self)

abbrev pub decreases-terms-loop-op : goal.decreases-terms-loop-op
decreases-terms-loop-op l = length l.self

abbrev pub invariant-selectors-loop-self : goal.invariant-selectors-loop-self
invariant-selectors-loop-self l = gather_turns (λ xs. flatten_lists (map selectors_of xs)) l.found
    (read (many selector) l.room l.self) ≡ read_rule l.room selectors_rule l.fn.self

abbrev pub decreases-selectors-loop-self : goal.decreases-selectors-loop-self
decreases-selectors-loop-self l = length l.self
