-- The tree of each production fits where its parts do, by induction over the grammar.
use Rattle.std.proofs.Common.{◌≡◌, ◌⊎◌, inl, inr, pos, Bool, true, false, ◌&&◌, List, [], ◌∷◌, ◌++◌, Option, Some, None, refl, subst}
use Rattle.std.specs.Prelude.{map, option_map}
use Rattle.std.specs.List.{AllByRecursion, list_all}
use Rattle.m2_tree.specs.declared.name.Ident.{Ident}
use Rattle.m2_tree.specs.declared.pos.Pos.{Pos}
use Rattle.m2_tree.specs.declared.token.Lexeme.{Lexeme}
use Rattle.m2_tree.specs.declared.token.Lexeme.TheVariants as lexeme
use Rattle.m2_tree.specs.declared.token.Token.{Token}
use Rattle.m2_tree.specs.declared.expr.Qualified.{Qualified}
use Rattle.m2_tree.specs.declared.expr.Sign.{Sign}
use Rattle.m2_tree.specs.declared.expr.AddOp.{AddOp}
use Rattle.m2_tree.specs.declared.expr.MulOp.{MulOp}
use Rattle.m2_tree.specs.declared.expr.Operator.{Operator}
use Rattle.m2_tree.specs.declared.expr.Expr.{Expr}
use Rattle.m2_tree.specs.declared.expr.Item.{Item}
use Rattle.m2_tree.specs.declared.expr.Selector.{Selector}
use Rattle.m2_tree.specs.declared.expr.Designator.{roll-Designator}
use Rattle.m2_tree.specs.declared.decl.Simple.{Simple}
use Rattle.m2_tree.specs.declared.decl.TypeExpr.{TypeExpr}
use Rattle.m2_tree.specs.declared.decl.Field.{Field}
use Rattle.m2_tree.specs.declared.decl.Block.{Block}
use Rattle.m2_tree.specs.declared.decl.Module.{Module}
use Rattle.def_grammar.specs.Rule.{Rule, Ast, module_rule, import_rule, idents_rule, def_rule, block_rule, decl_rule, constant_rule, type_decl_rule, variables_rule, formals_rule, section_rule, formal_rule, qual_rule, simple_rule, type_rule, dims_rule, parameter_rule, field_rule, stmts_rule, stmt_rule, rest_rule, arm_rule, item_rule, desig_rule, selectors_rule, args_rule, expr_rule, sum_rule, term_rule, factor_rule, set_rule}
use Rattle.def_grammar.specs.Grammar.{Ty, token, ast, both, either, maybe, list, El, Gr, rule}
use Rattle.def_grammar.specs.Ebnf.{grammar}
use Rattle.def_grammar.specs.Trees.{ident_of, literal_said, with_first, present, if_any, is_there, sign_of, add_operand, multiply_operand, relation_or_operand, sum_of, product_of, begun_by, factor_of, named_simple, simple_of, element_of, formals_of, type_of, def_of, decl_of, contents_with, module_of, tree}
use Rattle.def_grammar.specs.Spelling.{Spells, one, made, pair, left, right, before, behind, absent, there_is, none, more, nested, closed}
use Rattle.law_well_formed.specs.FormedRanges.{has_names, fits, fits_simple, fits_type, fits_constant, fits_type_decl, fits_variables, fits_def}
use Rattle.law_well_formed.specs.FormedKnown.{fits_within, fits_block, fits_contents, fits_module}
use Rattle.law_well_formed.specs.FormedFits.{lexeme_fits, token_fits}
use Rattle.law_well_formed.proofs.Folds.{and_both, all_true, number_fits, char_fits, text_fits, set_fits, not_fits, bracketed_fits, use_fits, term_fits, sum_fits, relation_fits, fits_list, simple_type_fits, array_fits, record_fits, procedure_fits, field_fits, constants_fit, types_fit, variables_fit, body_fits, block_fits}

-- ---- what fits in a part of the grammar

abbrev pub AllFit : {X : Type 0} → (X → Bool) → List X → Type 0
AllFit f xs = AllByRecursion (λ x. f x ≡ true) xs

abbrev pub TreeFits : (r : Rule) → Ast r → Type 0
TreeFits module_rule x = fits_module x ≡ true
TreeFits import_rule x = Unit {0}
TreeFits idents_rule x = has_names x ≡ true
TreeFits def_rule x = fits_def x ≡ true
TreeFits block_rule x = fits_block x ≡ true
TreeFits decl_rule x = fits_within x ≡ true
TreeFits constant_rule x = fits_constant x ≡ true
TreeFits type_decl_rule x = fits_type_decl x ≡ true
TreeFits variables_rule x = fits_variables x ≡ true
TreeFits formals_rule x = Unit {0}
TreeFits section_rule x = Unit {0}
TreeFits formal_rule x = Unit {0}
TreeFits qual_rule x = Unit {0}
TreeFits simple_rule x = fits_simple x ≡ true
TreeFits type_rule x = fits_type x ≡ true
TreeFits dims_rule x = (fits_simple x.0 ≡ true) × (fits_type x.1 ≡ true)
TreeFits parameter_rule x = Unit {0}
TreeFits field_rule x = fits_list x ≡ true
TreeFits stmts_rule x = Unit {0}
TreeFits stmt_rule x = Unit {0}
TreeFits rest_rule x = Unit {0}
TreeFits arm_rule x = Unit {0}
TreeFits item_rule x = Unit {0}
TreeFits desig_rule x = Unit {0}
TreeFits selectors_rule x = Unit {0}
TreeFits args_rule x = AllFit fits x
TreeFits expr_rule x = fits x ≡ true
TreeFits sum_rule x = fits x ≡ true
TreeFits term_rule x = fits x ≡ true
TreeFits factor_rule x = fits x ≡ true
TreeFits set_rule x = Unit {0}

abbrev pub EitherFits : {A B : Type 0} → (A → Type 0) → (B → Type 0) → A ⊎ B → Type 0
EitherFits P Q (inl x) = P x
EitherFits P Q (inr y) = Q y

abbrev pub MaybeFits : {A : Type 0} → (A → Type 0) → Option A → Type 0
MaybeFits P None = Unit {0}
MaybeFits P (Some x) = P x

abbrev pub PartFits : (a : Ty) → El a → Type 0
PartFits token t = token_fits t ≡ true
PartFits (ast r) x = TreeFits r x
PartFits (both a b) p = PartFits a p.0 × PartFits b p.1
PartFits (either a b) x = EitherFits (PartFits a) (PartFits b) x
PartFits (maybe a) x = MaybeFits (PartFits a) x
PartFits (list a) xs = AllByRecursion (PartFits a) xs

-- ---- expressions

said_fits : (p : Pos) (l : Lexeme) → lexeme_fits l ≡ true → fits (literal_said p l) ≡ true
said_fits p (lexeme.Number n) h = number_fits p n h
said_fits p (lexeme.Char c) h = char_fits p c h
said_fits p (lexeme.Text t) h = text_fits p t h
said_fits p (lexeme.Name n) h = number_fits p 0 refl
said_fits p (lexeme.Symbol s) h = number_fits p 0 refl
said_fits p lexeme.End h = number_fits p 0 refl

related_fits : (x : Expr) (o : Option (Token × Expr)) → fits x ≡ true
    → MaybeFits (λ (p : Token × Expr). (token_fits p.0 ≡ true) × (fits p.1 ≡ true)) o
    → fits (relation_or_operand x o) ≡ true
related_fits x None h k = h
related_fits x (Some p) h k = relation_fits x _ p.1 h k.1

adds_fit : (ps : List (Token × Expr)) → AllByRecursion
    (λ (p : Token × Expr). (token_fits p.0 ≡ true) × (fits p.1 ≡ true)) ps
    → AllByRecursion (λ (p : Operator AddOp × Expr). fits p.1 ≡ true) (map add_operand ps)
adds_fit [] h = tt
adds_fit (p ∷ ps) h = (h.0.1, adds_fit ps h.1)

times_fit : (ps : List (Token × Expr)) →
    AllByRecursion (λ (p : Token × Expr). (token_fits p.0 ≡ true) × (fits p.1 ≡ true)) ps
    → AllByRecursion (λ (p : Operator MulOp × Expr). fits p.1 ≡ true) (map multiply_operand ps)
times_fit [] h = tt
times_fit (p ∷ ps) h = (h.0.1, times_fit ps h.1)

sum_tree : (o : Option (Operator Sign)) (x : Expr) (ps : List (Operator AddOp × Expr)) → fits x ≡ true
    → AllByRecursion (λ (p : Operator AddOp × Expr). fits p.1 ≡ true) ps → fits (sum_of o x ps) ≡ true
sum_tree None x [] h k = h
sum_tree None x (p ∷ ps) h k = sum_fits None x (p ∷ ps) h k
sum_tree (Some s) x ps h k = sum_fits (Some s) x ps h k

product_tree : (x : Expr) (ps : List (Operator MulOp × Expr)) → fits x ≡ true
    → AllByRecursion (λ (p : Operator MulOp × Expr). fits p.1 ≡ true) ps → fits (product_of x ps) ≡ true
product_tree x [] h k = h
product_tree x (p ∷ ps) h k = term_fits x (p ∷ ps) h k

args_fit : (o : Option (List Expr)) → MaybeFits (AllFit fits) o → (es : List Expr) → o ≡ Some es → AllFit fits es
args_fit None h es q = absurd cc
args_fit (Some xs) h es q = let same : xs ≡ es = cc in subst (λ (ys : List Expr). AllFit fits ys) same h

begun_fits : (name : Ident) (x : (Pos × List Item) ⊎ (List Selector × Option (List Expr)))
    → EitherFits (λ (s : Pos × List Item). Unit {0})
    (λ (p : List Selector × Option (List Expr)). Unit {0} × MaybeFits (AllFit fits) p.1) x
    → fits (begun_by name x) ≡ true
begun_fits name (inl s) h = set_fits (Some name) s.0 s.1
begun_fits name (inr p) h = use_fits (roll-Designator (record { name = name; selectors = p.0 })) p.1 (args_fit p.1 h.1)

factor_fits : (x : El (grammar factor_rule).shape) → PartFits (grammar factor_rule).shape x → fits (factor_of x) ≡ true
factor_fits (inl t) h = said_fits t.pos t.lexeme h
factor_fits (inr (inl p)) h = begun_fits (ident_of p.0) p.1 h.1
factor_fits (inr (inr (inl s))) h = set_fits None s.0 s.1
factor_fits (inr (inr (inr (inl p)))) h = not_fits p.0.pos p.1 h.1
factor_fits (inr (inr (inr (inr p)))) h = bracketed_fits p.0.pos p.1 h.1

if_any_fits : {X : Type 0} (P : X → Type 0) (o : Option (X × List X))
    → MaybeFits (λ (p : X × List X). P p.0 × AllByRecursion P p.1) o → AllByRecursion P (if_any o)
if_any_fits P None h = tt
if_any_fits P (Some p) h = (h.0, h.1)

-- ---- types

range_fits : (low high : Expr) → fits low ≡ true → fits high ≡ true → (fits low && fits high) ≡ true
range_fits low high h k = and_both (fits low) (fits high) h k

named_fits : (q : Qualified) (o : Option (Token × (Expr × Expr)))
    → MaybeFits (λ (p : Token × (Expr × Expr)). (token_fits p.0 ≡ true) × ((fits p.1.0 ≡ true) × (fits p.1.1 ≡ true))) o
    → fits_simple (named_simple q o) ≡ true
named_fits q None h = refl
named_fits q (Some p) h = range_fits p.1.0 p.1.1 h.1.0 h.1.1

simple_fits : (x : El (grammar simple_rule).shape) → PartFits (grammar simple_rule).shape x
    → fits_simple (simple_of x) ≡ true
simple_fits (inl p) h = named_fits p.0 p.1 h.1
simple_fits (inr (inl p)) h = h.1
simple_fits (inr (inr p)) h = range_fits p.1.0 p.1.1 h.1.0 h.1.1

element_fits : (x : (Simple × TypeExpr) ⊎ TypeExpr)
    → EitherFits (λ (p : Simple × TypeExpr). (fits_simple p.0 ≡ true) × (fits_type p.1 ≡ true))
    (λ (t : TypeExpr). fits_type t ≡ true) x → fits_type (element_of x) ≡ true
element_fits (inl p) h = array_fits _ p.0 p.1 h.0 h.1
element_fits (inr t) h = h

present_fit : {X : Type 0} (P : X → Type 0) (xs : List (Option X)) → AllByRecursion (MaybeFits P) xs
    → AllByRecursion P (present xs)
present_fit P [] h = tt
present_fit P (None ∷ xs) h = present_fit P xs h.1
present_fit P (Some x ∷ xs) h = (h.0, present_fit P xs h.1)

type_fits : (x : El (grammar type_rule).shape) → PartFits (grammar type_rule).shape x → fits_type (type_of x) ≡ true
type_fits (inl s) h = simple_type_fits s h
type_fits (inr (inl p)) h = array_fits p.0.pos p.1.0 p.1.1 h.1.0 h.1.1
type_fits (inr (inr (inl p))) h = record_fits p.0.pos (present (with_first p.1))
    (present_fit (λ (f : Field). fits_list f ≡ true) (with_first p.1) (h.1.0, h.1.1))
type_fits (inr (inr (inr p))) h = procedure_fits p.0.pos (formals_of p.1).0 (formals_of p.1).1

-- ---- declarations and modules

def_fits : (x : El (grammar def_rule).shape) → PartFits (grammar def_rule).shape x → fits_def (def_of x) ≡ true
def_fits (inl (inl cs)) h = all_true fits_constant cs h
def_fits (inl (inr (inl ts))) h = all_true fits_type_decl ts h
def_fits (inl (inr (inr vs))) h = all_true fits_variables vs h
def_fits (inr p) h = refl

decl_fits : (x : El (grammar decl_rule).shape) → PartFits (grammar decl_rule).shape x → fits_within (decl_of x) ≡ true
decl_fits (inl (inl cs)) h = constants_fit cs (all_true fits_constant cs h)
decl_fits (inl (inr (inl ts))) h = types_fit ts (all_true fits_type_decl ts h)
decl_fits (inl (inr (inr vs))) h = variables_fit vs (all_true fits_variables vs h)
decl_fits (inr p) h = body_fits _ p.1.1 h.1.1

held_fits : (b : Bool) (x : Block) → fits_block x ≡ true → fits_contents (contents_with b x) ≡ true
held_fits true x h = h
held_fits false x h = h

module_tree : (x : El (grammar module_rule).shape) → PartFits (grammar module_rule).shape x
    → fits_module (module_of x) ≡ true
module_tree (inl p) h = all_true fits_def p.1.1 h.1.1
module_tree (inr p) h = held_fits (is_there p.0) p.1.1.1 h.1.1.1

-- ---- all productions

tree_fits : (r : Rule) (x : El (grammar r).shape) → PartFits (grammar r).shape x → TreeFits r (tree r x)
tree_fits module_rule x h = module_tree x h
tree_fits import_rule x h = tt
tree_fits idents_rule x h = refl
tree_fits def_rule x h = def_fits x h
tree_fits block_rule x h = block_fits x.0 x.1 h.0
tree_fits decl_rule x h = decl_fits x h
tree_fits constant_rule x h = h.1
tree_fits type_decl_rule x h = h.1
tree_fits variables_rule x h = h.1
tree_fits formals_rule x h = tt
tree_fits section_rule x h = tt
tree_fits formal_rule x h = tt
tree_fits qual_rule x h = tt
tree_fits simple_rule x h = simple_fits x h
tree_fits type_rule x h = type_fits x h
tree_fits dims_rule x h = (h.0, element_fits x.1 h.1)
tree_fits parameter_rule x h = tt
tree_fits field_rule x h = field_fits x.0 x.1 h.1
tree_fits stmts_rule x h = tt
tree_fits stmt_rule x h = tt
tree_fits rest_rule x h = tt
tree_fits arm_rule x h = tt
tree_fits item_rule x h = tt
tree_fits desig_rule x h = tt
tree_fits selectors_rule x h = tt
tree_fits args_rule x h = if_any_fits (λ (y : Expr). fits y ≡ true) x h
tree_fits expr_rule x h = related_fits x.0 x.1 h.0 h.1
tree_fits sum_rule x h = sum_tree (option_map sign_of x.0) x.1.0 (map add_operand x.1.1) h.1.0 (adds_fit x.1.1 h.1.1)
tree_fits term_rule x h = product_tree x.0 (map multiply_operand x.1) h.0 (times_fit x.1 h.1)
tree_fits factor_rule x h = factor_fits x h
tree_fits set_rule x h = tt

-- ---- the induction

abbrev pub TokensFit : List Token → Type 0
TokensFit ts = AllFit token_fits ts

pub front_fits : (ts us : List Token) → TokensFit (ts ++ us) → TokensFit ts
front_fits [] us h = tt
front_fits (t ∷ ts) us h = (h.0, front_fits ts us h.1)

pub rest_fits : (ts us : List Token) → TokensFit (ts ++ us) → TokensFit us
rest_fits [] us h = h
rest_fits (t ∷ ts) us h = rest_fits ts us h.1

pub spelled_fits : {a : Ty} {g : Gr a} {x : El a} {ts : List Token} → Spells a g x ts → TokensFit ts → PartFits a x
spelled_fits (one i) h = h.0
spelled_fits (made {r = r} {x = x} d) h = tree_fits r x (spelled_fits d h)
spelled_fits (pair {ts = ts} {us = us} d c) h =
    (spelled_fits d (front_fits ts us h), spelled_fits c (rest_fits ts us h))
spelled_fits (left d) h = spelled_fits d h
spelled_fits (right d) h = spelled_fits d h
spelled_fits (before k d) h = spelled_fits d h.1
spelled_fits (behind {ts = ts} t d k) h = spelled_fits d (front_fits ts (t ∷ []) h)
spelled_fits absent h = tt
spelled_fits (there_is d) h = spelled_fits d h
spelled_fits none h = tt
spelled_fits (more {ts = ts} {us = us} d c) h =
    (spelled_fits d (front_fits ts us h), spelled_fits c (rest_fits ts us h))
spelled_fits (nested d) h = spelled_fits d h
spelled_fits (closed {ts = ts} t u k d l) h = (h.0, spelled_fits d (front_fits ts (u ∷ []) h.1))

pub tokens_from : (ts : List Token) → list_all token_fits ts ≡ true → TokensFit ts
tokens_from [] e = tt
tokens_from (t ∷ ts) e = (
  left_of (token_fits t) (list_all token_fits ts) e,
  tokens_from ts
      (right_of (token_fits t) (list_all token_fits ts) e),
) where
  left_of : (a b : Bool) → (a && b) ≡ true → a ≡ true
  left_of true b q = refl
  left_of false b q = absurd cc

  right_of : (a b : Bool) → (a && b) ≡ true → b ≡ true
  right_of true b q = q
  right_of false b q = absurd cc

pub module_fits : (ts : List Token) (m : Module) → list_all token_fits ts ≡ true
    → Spells (ast module_rule) (rule module_rule) m ts → fits_module m ≡ true
module_fits ts m e d = spelled_fits d (tokens_from ts e)
