-- What fits in each part of the grammar, with the statements in it.
use Rattle.std.proofs.Common.{◌≡◌, Bool, true, false, ◌&&◌, List, [], ◌∷◌, ◌++◌, map, Option, Some, None, refl}
use Rattle.std.specs.List.{AllByRecursion, list_all}
use Rattle.def_grammar.specs.Rule.{Rule, Ast, module_rule, import_rule, idents_rule, def_rule, block_rule, decl_rule, constant_rule, type_decl_rule, variables_rule, formals_rule, section_rule, formal_rule, qual_rule, simple_rule, type_rule, dims_rule, parameter_rule, field_rule, stmts_rule, stmt_rule, rest_rule, arm_rule, item_rule, desig_rule, selectors_rule, args_rule, expr_rule, sum_rule, term_rule, factor_rule, set_rule}
use Rattle.def_grammar.specs.Grammar.{Ty, El, token, ast, both, either, maybe, list}
use Rattle.def_grammar.specs.Trees.{present}
use Rattle.law_well_formed.specs.FormedRanges.{itself}
use Rattle.law_well_formed.specs.FormedFits.{token_fits}
use Rattle.law_well_formed.proofs.Spelled.{EitherFits, MaybeFits}
use Rattle.law_programs.specs.Typing.{fits_whole, fits_picked, fits_head}
use Rattle.law_programs.specs.TypingStmts.{fits_label, fits_stmt, fits_rest, fits_arm}
use Rattle.law_programs.specs.TypingBodies.{fits_inside, fits_whole_block}
use Rattle.law_programs.specs.FormedTrees.{fits_contents}

abbrev pub True : Bool → Type 0
True b = b ≡ true

abbrev pub Fits : (r : Rule) → Ast r → Type 0
Fits module_rule x = True (fits_contents x.contents)
Fits import_rule x = Unit {0}
Fits idents_rule x = Unit {0}
Fits def_rule x = Unit {0}
Fits block_rule x = True (fits_whole_block x)
Fits decl_rule x = True (fits_inside x)
Fits constant_rule x = Unit {0}
Fits type_decl_rule x = Unit {0}
Fits variables_rule x = Unit {0}
Fits formals_rule x = Unit {0}
Fits section_rule x = Unit {0}
Fits formal_rule x = Unit {0}
Fits qual_rule x = Unit {0}
Fits simple_rule x = Unit {0}
Fits type_rule x = Unit {0}
Fits dims_rule x = Unit {0}
Fits parameter_rule x = Unit {0}
Fits field_rule x = Unit {0}
Fits stmts_rule x = True (list_all fits_stmt x)
Fits stmt_rule x = True (fits_stmt x)
Fits rest_rule x = True (fits_rest x)
Fits arm_rule x = True (fits_arm x)
Fits item_rule x = True (fits_label x)
Fits desig_rule x = True (fits_head x)
Fits selectors_rule x = True (list_all fits_picked x)
Fits args_rule x = True (list_all fits_whole x)
Fits expr_rule x = True (fits_whole x)
Fits sum_rule x = True (fits_whole x)
Fits term_rule x = True (fits_whole x)
Fits factor_rule x = True (fits_whole x)
Fits set_rule x = Unit {0}

abbrev pub FitsEl : (a : Ty) → El a → Type 0
FitsEl token x = True (token_fits x)
FitsEl (ast r) x = Fits r x
FitsEl (both a b) x = FitsEl a x.0 × FitsEl b x.1
FitsEl (either a b) x = EitherFits (FitsEl a) (FitsEl b) x
FitsEl (maybe a) x = MaybeFits (FitsEl a) x
FitsEl (list a) x = AllByRecursion (FitsEl a) x

-- ---- lists

pub both_true : (a b : Bool) → True a → True b → True (a && b)
both_true true true p q = refl
both_true true false p q = absurd cc
both_true false b p q = absurd cc

pub all_true : {A : Type 0} (f : A → Bool) (xs : List A) → AllByRecursion (λ x. True (f x)) xs → True (list_all f xs)
all_true f [] p = refl
all_true f (x ∷ xs) p = both_true (f x) (list_all f xs) p.0 (all_true f xs p.1)

pub there_true : {A : Type 0} (f : A → Bool) (xs : List (Option A)) → AllByRecursion (MaybeFits (λ x. True (f x))) xs
    → True (list_all f (present xs))
there_true f [] p = refl
there_true f (None ∷ xs) p = there_true f xs p.1
there_true f (Some x ∷ xs) p = both_true (f x) (list_all f (present xs)) p.0 (there_true f xs p.1)

pub left_true : (a b : Bool) → True (a && b) → True a
left_true true b p = refl
left_true false b p = absurd cc

pub right_true : (a b : Bool) → True (a && b) → True b
right_true true b p = p
right_true false b p = absurd cc

pub itself_true : {A : Type 0} (f : A → Bool) (xs : List A) → True (list_all f xs) → True (list_all itself (map f xs))
itself_true f [] p = refl
itself_true f (x ∷ xs) p =
    both_true (f x) (list_all itself (map f xs)) (left_true (f x) (list_all f xs) p)
    (itself_true f xs (right_true (f x) (list_all f xs) p))

pub appended : {A : Type 0} (f : A → Bool) (xs ys : List A) → True (list_all f xs) → True (list_all f ys)
    → True (list_all f (xs ++ ys))
appended f [] ys h q = q
appended f (x ∷ xs) ys h q = both_true (f x) (list_all f (xs ++ ys)) (left_true (f x) (list_all f xs) h)
    (appended f xs ys (right_true (f x) (list_all f xs) h) q)
