-- All productions, and the induction over the grammar.
use Rattle.std.proofs.Common.{◌≡◌, ℕ, true, List, [], ◌∷◌}
use Rattle.std.specs.List.{list_all}
use Rattle.std.specs.Option.{option_map}
use Rattle.m2_tree.specs.declared.token.Token.{Token}
use Rattle.m2_tree.specs.declared.decl.Module.{Module}
use Rattle.scan_tokens.specs.Division.{HasTokens}
use Rattle.def_grammar.specs.Rule.{Rule, module_rule, import_rule, idents_rule, def_rule, block_rule, decl_rule, constant_rule, type_decl_rule, variables_rule, formals_rule, section_rule, formal_rule, qual_rule, simple_rule, type_rule, dims_rule, parameter_rule, field_rule, stmts_rule, stmt_rule, rest_rule, arm_rule, item_rule, desig_rule, selectors_rule, args_rule, expr_rule, sum_rule, term_rule, factor_rule, set_rule}
use Rattle.def_grammar.specs.Grammar.{Ty, El, Gr, ast, rule}
use Rattle.def_grammar.specs.Ebnf.{grammar}
use Rattle.def_grammar.specs.Trees.{tree, with_first, ident_of, sign_of}
use Rattle.def_grammar.specs.Spelling.{Spells, one, made, pair, left, right, before, behind, absent, there_is, none, more, nested, closed}
use Rattle.law_well_formed.specs.FormedFits.{token_fits}
use Rattle.law_well_formed.proofs.Spelled.{PartFits, TokensFit, front_fits, rest_fits, spelled_fits, tokens_from}
use Rattle.law_well_formed.proofs.Tokens.{tokens_fit}
use Rattle.law_programs.specs.TypingStmts.{fits_label, fits_stmt}
use Rattle.law_programs.specs.TypingBodies.{fits_inside}
use Rattle.law_programs.specs.FormedTrees.{fits_contents}
use Rattle.law_programs.proofs.Fits.{Fits, FitsEl, all_true, there_true}
use Rattle.law_programs.proofs.Exprs.{head_fits, product_fits, sum_fits, relation_fits, factor_fits, selectors_fit, arguments_fit}
use Rattle.law_programs.proofs.Stmts.{arm_fits, label_fits, stmt_fits}
use Rattle.law_programs.proofs.Stmts as stmts
use Rattle.law_programs.proofs.GraphsBlocks.{block_fits, decl_fits, module_fits}

tree_fits : (r : Rule) (x : El (grammar r).shape) → PartFits (grammar r).shape x → FitsEl (grammar r).shape x
    → Fits r (tree r x)
tree_fits module_rule x b h = module_fits x b h
tree_fits import_rule x b h = tt
tree_fits idents_rule x b h = tt
tree_fits def_rule x b h = tt
tree_fits block_rule x b h = block_fits x.0 x.1 (all_true fits_inside x.0 h.0) h.1
tree_fits decl_rule x b h = decl_fits x b h
tree_fits constant_rule x b h = tt
tree_fits type_decl_rule x b h = tt
tree_fits variables_rule x b h = tt
tree_fits formals_rule x b h = tt
tree_fits section_rule x b h = tt
tree_fits formal_rule x b h = tt
tree_fits qual_rule x b h = tt
tree_fits simple_rule x b h = tt
tree_fits type_rule x b h = tt
tree_fits dims_rule x b h = tt
tree_fits parameter_rule x b h = tt
tree_fits field_rule x b h = tt
tree_fits stmts_rule x b h = there_true fits_stmt (with_first x) h
tree_fits stmt_rule x b h = stmt_fits x b h
tree_fits rest_rule x b h = stmts.rest_fits x h
tree_fits arm_rule x b h = arm_fits (with_first x.0) x.1 (all_true fits_label (with_first x.0) h.0) h.1
tree_fits item_rule x b h = label_fits x.0 x.1 h.0 h.1
tree_fits desig_rule x b h = head_fits (ident_of x.0) x.1 h.1
tree_fits selectors_rule x b h = selectors_fit x h
tree_fits args_rule x b h = arguments_fit x h
tree_fits expr_rule x b h = relation_fits x.0 x.1 h.0 h.1
tree_fits sum_rule x b h = sum_fits (option_map sign_of x.0) x.1.0 x.1.1 h.1.0 h.1.1
tree_fits term_rule x b h = product_fits x.0 x.1 h.0 h.1
tree_fits factor_rule x b h = factor_fits x h
tree_fits set_rule x b h = tt

whole : {a : Ty} {g : Gr a} {x : El a} {ts : List Token} → Spells a g x ts → TokensFit ts → FitsEl a x
whole (one i) h = h.0
whole (made {r = r} {x = x} d) h = tree_fits r x (spelled_fits d h) (whole d h)
whole (pair {ts = ts} {us = us} d c) h = (whole d (front_fits ts us h), whole c (rest_fits ts us h))
whole (left d) h = whole d h
whole (right d) h = whole d h
whole (before k d) h = whole d h.1
whole (behind {ts = ts} t d k) h = whole d (front_fits ts (t ∷ []) h)
whole absent h = tt
whole (there_is d) h = whole d h
whole none h = tt
whole (more {ts = ts} {us = us} d c) h = (whole d (front_fits ts us h), whole c (rest_fits ts us h))
whole (nested d) h = whole d h
whole (closed {ts = ts} t u k d l) h = (h.0, whole d (front_fits ts (u ∷ []) h.1))

pub tree_whole : (ts : List Token) (m : Module) → list_all token_fits ts ≡ true
    → Spells (ast module_rule) (rule module_rule) m ts → fits_contents m.contents ≡ true
tree_whole ts m e d = whole d (tokens_from ts e)

pub text_whole : (text : List ℕ) (ts : List Token) (m : Module) → HasTokens text ts
    → Spells (ast module_rule) (rule module_rule) m ts → fits_contents m.contents ≡ true
text_whole text ts m t d = tree_whole ts m (tokens_fit text ts t) d
