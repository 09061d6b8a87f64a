-- The items of the grammar's repetitions: each turn takes a token.
use Rattle.std.proofs.Common.{◌≡◌, true, refl}
use Rattle.m2_tree.specs.declared.token.Symbol.TheVariants.{Bar, Comma, Semicolon}
use Rattle.def_grammar.specs.Kinds.{same_kind, same_symbol}
use Rattle.def_grammar.specs.Grammar.{◌▸◌, ◌·◌, opt}
use Rattle.def_grammar.specs.Ebnf.{ident, import, def, decl, constant, type_decl, variables, section, parameter, field, stmt, arm, expr, item, term, factor, add_op, mul_op, selector}
use Rattle.def_grammar.proofs.OneAhead.{is_repeatable}

pub more_names : is_repeatable (Comma ▸ ident) ≡ true
unfolding same_kind same_symbol
more_names = refl

pub more_exprs : is_repeatable (Comma ▸ expr) ≡ true
unfolding same_kind same_symbol
more_exprs = refl

pub more_items : is_repeatable (Comma ▸ item) ≡ true
unfolding same_kind same_symbol
more_items = refl

pub more_terms : is_repeatable (add_op · term) ≡ true
unfolding same_kind same_symbol
more_terms = refl

pub more_factors : is_repeatable (mul_op · factor) ≡ true
unfolding same_kind same_symbol
more_factors = refl

pub more_selectors : is_repeatable (selector) ≡ true
unfolding same_kind same_symbol
more_selectors = refl

pub more_fields : is_repeatable (Semicolon ▸ opt field) ≡ true
unfolding same_kind same_symbol
more_fields = refl

pub more_stmts : is_repeatable (Semicolon ▸ opt stmt) ≡ true
unfolding same_kind same_symbol
more_stmts = refl

pub more_arms : is_repeatable (Bar ▸ opt arm) ≡ true
unfolding same_kind same_symbol
more_arms = refl

pub more_imports : is_repeatable (import) ≡ true
unfolding same_kind same_symbol
more_imports = refl

pub more_defs : is_repeatable (def) ≡ true
unfolding same_kind same_symbol
more_defs = refl

pub more_decls : is_repeatable (decl) ≡ true
unfolding same_kind same_symbol
more_decls = refl

pub more_constants : is_repeatable (constant) ≡ true
unfolding same_kind same_symbol
more_constants = refl

pub more_type_decls : is_repeatable (type_decl) ≡ true
unfolding same_kind same_symbol
more_type_decls = refl

pub more_variables : is_repeatable (variables) ≡ true
unfolding same_kind same_symbol
more_variables = refl

pub more_sections : is_repeatable (Semicolon ▸ section) ≡ true
unfolding same_kind same_symbol
more_sections = refl

pub more_parameters : is_repeatable (Comma ▸ parameter) ≡ true
unfolding same_kind same_symbol
more_parameters = refl
