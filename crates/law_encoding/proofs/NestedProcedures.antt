-- Procedures nest no deeper than the levels that their text may have.
use Rattle.std.proofs.Common.{◌≡◌, inl, inr, ℕ, suc, ◌+◌, ◌≤◌, zero, Bool, true, false, List, [], ◌∷◌, ◌++◌, Option, Some, None, refl, ap, subst, append_assoc, ◌∙◌, arith}
use Rattle.m2_tree.specs.declared.token.Token.{Token}
use Rattle.m2_tree.specs.declared.stmt.Stmt.{Stmt}
use Rattle.m2_tree.specs.declared.token.Symbol.TheVariants.{Implementation}
use Rattle.m2_tree.specs.declared.decl.Constant.{Constant}
use Rattle.m2_tree.specs.declared.decl.TypeDecl.{TypeDecl}
use Rattle.m2_tree.specs.declared.decl.Variables.{Variables}
use Rattle.m2_tree.specs.declared.decl.Heading.{Heading}
use Rattle.m2_tree.specs.declared.decl.Decl.{Decl, Decl-F, out-Decl, map-Decl, fold_out-Decl}
use Rattle.m2_tree.specs.declared.decl.Decl.TheOpen as dlayer
use Rattle.m2_tree.specs.declared.decl.Decl.TheVariants as decl
use Rattle.m2_tree.specs.declared.decl.Decl.TheVariants.{outs-Constants, outs-Types, outs-Variables}
use Rattle.m2_tree.specs.declared.decl.Decl.TheVariants.{outs-Procedure as outs-Body}
use Rattle.m2_tree.specs.declared.decl.Block.{Block, Block-F, out-Block, roll-Block, out-roll-Block, map-Block, fold_out-Block}
use Rattle.def_grammar.specs.Rule.{Rule, Ast, module_rule, import_rule, idents_rule, def_rule, block_rule, decl_rule, constant_rule, type_decl_rule, variables_rule, formals_rule, section_rule, formal_rule, qual_rule, simple_rule, type_rule, dims_rule, parameter_rule, field_rule, stmts_rule, stmt_rule, rest_rule, arm_rule, item_rule, desig_rule, selectors_rule, args_rule, expr_rule, sum_rule, term_rule, factor_rule, set_rule}
use Rattle.def_grammar.specs.Grammar.{Ty, ast, El, Gr, tok, rule, ◌·◌, ◌∣◌, lead, trail, opt, many, nest, named}
use Rattle.def_grammar.specs.Ebnf.{grammar, symbol}
use Rattle.def_grammar.specs.Trees.{is_there, contents_with, tree}
use Rattle.def_grammar.specs.Spelling.{Spells, one, made, pair, left, right, before, behind, absent, there_is, none, more, nested, closed}
use Rattle.def_grammar.specs.Spelling.{Breaks, too_deep, in_rule, in_first, in_second, in_left, in_right, in_rest, in_front, in_opt, in_turn_now, in_turn_later, in_nest, in_named}
use Rattle.def_grammar.specs.declared.refusal.GrammarRule.TheVariants.{TooDeep}
use Rattle.def_grammar.specs.Reading.{nullable}
use Rattle.def_grammar.specs.Refusal.{IsTree, max_nesting}
use Rattle.def_grammar.proofs.Truth.{and_both}
use Rattle.def_grammar.proofs.Sets.{not_true, clash}
use Rattle.def_grammar.proofs.OneAhead.{one_ahead, tabled}
use Rattle.def_grammar.proofs.First.{FirstOf, first_of_text}
use Rattle.m2_tree.specs.declared.decl.Module.{Module}
use Rattle.law_encoding.specs.Nesting.{◌⊔◌, deepest_of}
use Rattle.law_encoding.specs.ProcedureNesting.{decl_layer, block_layer, procedures_decl, procedures_block, procedures_contents, procedures_module}
use Rattle.law_encoding.proofs.Sums.{le_trans, le_by}
use Rattle.law_encoding.proofs.Deepest.{deepest_map}

-- ---- declarations, by their variants

abbrev pub all_decl : Decl-F Decl Block → Decl-F ℕ ℕ
all_decl x = map-Decl Decl Block ℕ ℕ procedures_decl procedures_block x

abbrev pub all_block : Block-F Decl Block → Block-F ℕ ℕ
all_block x = map-Block Decl Block ℕ ℕ procedures_decl procedures_block x

pub at_decl : (d : Decl) (x : Decl-F Decl Block) → out-Decl d ≡ x → procedures_decl d ≡ decl_layer (all_decl x)
unfolding procedures_decl procedures_block
at_decl d x q = fold_out-Decl ℕ ℕ decl_layer block_layer d ∙ ap (λ (y : Decl-F Decl Block). decl_layer (all_decl y)) q

pub at_block : (b : Block) (x : Block-F Decl Block) → out-Block b ≡ x → procedures_block b ≡ block_layer (all_block x)
unfolding procedures_decl procedures_block
at_block b x q = fold_out-Block ℕ ℕ decl_layer block_layer b
    ∙ ap (λ (y : Block-F Decl Block). block_layer (all_block y)) q

constants_none : (cs : List Constant) → procedures_decl (decl.Constants cs) ≡ 0
constants_none cs = at_decl (decl.Constants cs) (dlayer.Constants cs) (outs-Constants cs)

types_none : (ts : List TypeDecl) → procedures_decl (decl.Types ts) ≡ 0
types_none ts = at_decl (decl.Types ts) (dlayer.Types ts) (outs-Types ts)

variables_none : (vs : List Variables) → procedures_decl (decl.Variables vs) ≡ 0
variables_none vs = at_decl (decl.Variables vs) (dlayer.Variables vs) (outs-Variables vs)

one_around : (x : Heading) (b : Block) → procedures_decl (decl.Procedure x b) ≡ 1 + procedures_block b
one_around x b = at_decl (decl.Procedure x b) (dlayer.Procedure x b) (outs-Body x b)

of_block : (ds : List Decl) (body : Option (List Stmt))
    → procedures_block (roll-Block (record { decls = ds; body = body })) ≡ deepest_of procedures_decl ds
of_block ds body =
    at_block (roll-Block (record { decls = ds; body = body })) (record { decls = ds; body = body })
    (out-roll-Block (record { decls = ds; body = body }))
    ∙ deepest_map procedures_decl ds

-- ---- what parts of the grammar count

abbrev tree_procedures : (r : Rule) → Ast r → ℕ
tree_procedures module_rule x = procedures_module x
tree_procedures import_rule x = 0
tree_procedures idents_rule x = 0
tree_procedures def_rule x = 0
tree_procedures block_rule x = procedures_block x
tree_procedures decl_rule x = procedures_decl x
tree_procedures constant_rule x = 0
tree_procedures type_decl_rule x = 0
tree_procedures variables_rule x = 0
tree_procedures formals_rule x = 0
tree_procedures section_rule x = 0
tree_procedures formal_rule x = 0
tree_procedures qual_rule x = 0
tree_procedures simple_rule x = 0
tree_procedures type_rule x = 0
tree_procedures dims_rule x = 0
tree_procedures parameter_rule x = 0
tree_procedures field_rule x = 0
tree_procedures stmts_rule xs = 0
tree_procedures stmt_rule x = 0
tree_procedures rest_rule x = 0
tree_procedures arm_rule x = 0
tree_procedures item_rule x = 0
tree_procedures desig_rule x = 0
tree_procedures selectors_rule xs = 0
tree_procedures args_rule xs = 0
tree_procedures expr_rule x = 0
tree_procedures sum_rule x = 0
tree_procedures term_rule x = 0
tree_procedures factor_rule x = 0
tree_procedures set_rule x = 0

abbrev weight : {a : Ty} → Gr a → El a → ℕ
weight (tok k ks) t = 0
weight (rule r) x = tree_procedures r x
weight (g · h) p = weight g p.0 ⊔ weight h p.1
weight (g ∣ h) (inl x) = weight g x
weight (g ∣ h) (inr y) = weight h y
weight (lead k g) x = weight g x
weight (trail g k) x = weight g x
weight (opt g) None = 0
weight (opt g) (Some x) = weight g x
weight (many g) xs = deepest_of (weight g) xs
weight (nest g) x = 1 + weight g x
weight (named g) p = weight g p.1

abbrev Shallow : (r : Rule) → El (grammar r).shape → Type 0
Shallow r x = tree_procedures r (tree r x) ≤ weight (grammar r).form x

-- ---- declarations and modules

none_below : (n a : ℕ) → n ≡ 0 → n ≤ a
none_below n a e = omega (arith, e)

procedure_below : (n s b : ℕ) → n ≡ 1 + b → n ≤ 1 + (s ⊔ b)
procedure_below n s b q = omega (arith, q)

decl_below : (x : El (grammar decl_rule).shape) → Shallow decl_rule x
decl_below (inl (inl cs)) = none_below _ _ (constants_none cs)
decl_below (inl (inr (inl ts))) = none_below _ _ (types_none ts)
decl_below (inl (inr (inr vs))) = none_below _ _ (variables_none vs)
decl_below (inr p) = procedure_below _ 0 _ (one_around _ p.1.1)

block_step : (n a b : ℕ) → n ≡ a → n ≤ a ⊔ b
block_step n a b q = omega (arith, q)

block_below : (ds : List Decl) (o : Option (List Stmt)) → Shallow block_rule (ds, o)
block_below ds o = block_step _ _ _ (of_block ds o)

body_below : (o i b : ℕ) → b ≤ o ⊔ (i ⊔ b)
body_below o i b = omega arith

held_in : (h : Bool) (b : Block) → procedures_contents (contents_with h b) ≡ procedures_block b
held_in true b = refl
held_in false b = refl

no_procedure : (n : ℕ) → 0 ≤ n
no_procedure n = omega arith

module_below : (x : El (grammar module_rule).shape) → Shallow module_rule x
module_below (inl p) = no_procedure _
module_below (inr p) =
    le_by _ _ _ (held_in (is_there p.0) p.1.1.1)
    (body_below (weight (opt (symbol Implementation)) p.0) _ (procedures_block p.1.1.1))

-- ---- all productions

shallow : (r : Rule) (x : El (grammar r).shape) → Shallow r x
shallow module_rule x = module_below x
shallow block_rule x = block_below x.0 x.1
shallow decl_rule x = decl_below x
shallow import_rule x = no_procedure _
shallow idents_rule x = no_procedure _
shallow def_rule x = no_procedure _
shallow constant_rule x = no_procedure _
shallow type_decl_rule x = no_procedure _
shallow variables_rule x = no_procedure _
shallow formals_rule x = no_procedure _
shallow section_rule x = no_procedure _
shallow formal_rule x = no_procedure _
shallow qual_rule x = no_procedure _
shallow simple_rule x = no_procedure _
shallow type_rule x = no_procedure _
shallow dims_rule x = no_procedure _
shallow parameter_rule x = no_procedure _
shallow field_rule x = no_procedure _
shallow stmts_rule x = no_procedure _
shallow stmt_rule x = no_procedure _
shallow rest_rule x = no_procedure _
shallow arm_rule x = no_procedure _
shallow item_rule x = no_procedure _
shallow desig_rule x = no_procedure _
shallow selectors_rule x = no_procedure _
shallow args_rule x = no_procedure _
shallow expr_rule x = no_procedure _
shallow sum_rule x = no_procedure _
shallow term_rule x = no_procedure _
shallow factor_rule x = no_procedure _
shallow set_rule x = no_procedure _

-- ---- the induction: no level more than are left

-- no rule on nesting is broken before what follows
abbrev NotDeep : {a : Ty} → Gr a → ℕ → List Token → Type 0
NotDeep g n ts = (at : List Token) → Breaks _ g n ts at TooDeep → ⊥

two_texts : (a b n : ℕ) → a ≤ n → b ≤ n → a ⊔ b ≤ n
two_texts a b n h i = omega (arith, h, i)

one_level : (a n : ℕ) → a ≤ n → 1 + a ≤ suc n
one_level a n h = omega (arith, h)

-- a part that counts has a token
begins_deep : {a : Ty} (g : Gr a) (x : El a) (ts us : List Token) → Spells a g x ts → nullable g ≡ false → FirstOf g ts
    → NotDeep (nest g) 0 (ts ++ us) → ⊥
begins_deep g x [] us p e f h = clash (nullable g) f e
begins_deep g x (t ∷ ts) us p e f h = h (t ∷ (ts ++ us)) (too_deep (x, ts, p))

pub spelled_below : {a : Ty} {g : Gr a} {x : El a} {ts : List Token} → Spells a g x ts → one_ahead g ≡ true
    → (n : ℕ) (us : List Token) → NotDeep g n (ts ++ us) → weight g x ≤ n
spelled_below (one i) l n us h = no_procedure n
spelled_below (made {r = r} {x = x} d) l n us h =
    le_trans _ _ _ (shallow r x) (spelled_below d (tabled r).ahead n us (λ at b. h at (in_rule b)))
spelled_below (pair {g = g} {h = k} {ts = ts} {us = vs} d c) l n us h =
    let b = and_both (one_ahead g) _ l in
    let o = and_both (one_ahead k) _ b.1 in
    let all = subst (λ (ws : List Token). NotDeep (g · k) n ws) (append_assoc ts vs us) h in
    two_texts _ _ n (spelled_below d b.0 n (vs ++ us) (λ at x. all at (in_first x)))
    (spelled_below c o.0 n us (λ at x. all at (in_second d x)))
spelled_below (left {g = g} d) l n us h = let b = and_both (one_ahead g) _ l in
    spelled_below d b.0 n us (λ at x. h at (in_left x))
spelled_below (right {g = g} {h = k} d) l n us h =
    let b = and_both (one_ahead g) _ l in
    let o = and_both (one_ahead k) _ b.1 in
    spelled_below d o.0 n us (λ at x. h at (in_right x))
spelled_below (before k d) l n us h = (spelled_below d l n us (λ at x. h at (in_rest k x)))
spelled_below (behind {k = j} {g = g} {ts = ts} t d i) l n us h =
    let b = and_both (one_ahead g) _ l in
    let all = subst (λ (ws : List Token). NotDeep (trail g j) n ws) (append_assoc ts (t ∷ []) us) h in
    (spelled_below d b.0 n (t ∷ us) (λ at x. all at (in_front x)))
spelled_below absent l n us h = no_procedure n
spelled_below (there_is {g = g} d) l n us h = let b = and_both (one_ahead g) _ l in
    spelled_below d b.0 n us (λ at x. h at (in_opt x))
spelled_below none l n us h = no_procedure n
spelled_below (more {g = g} {ts = ts} {us = vs} d c) l n us h =
    let b = and_both (one_ahead g) _ l in
    let all = subst (λ (ws : List Token). NotDeep (many g) n ws) (append_assoc ts vs us) h in
    two_texts _ _ n (spelled_below d b.0 n (vs ++ us) (λ at x. all at (in_turn_now x)))
    (spelled_below c l n us (λ at x. all at (in_turn_later d x)))
spelled_below (nested {g = g} {x = x} {ts = ts} d) l zero us h =
    let b = and_both (one_ahead g) _ l in absurd
    (begins_deep g x ts us d (not_true (nullable g) b.1) (first_of_text d) h)
spelled_below (nested {g = g} d) l (suc n) us h = let b = and_both (one_ahead g) _ l in
    one_level _ n (spelled_below d b.0 n us (λ at x. h at (in_nest x)))
spelled_below (closed {g = g} {ts = ts} t u k d i) l n us h =
    let b = and_both (one_ahead g) _ l in
    let all = subst (λ (ws : List Token). NotDeep (named g) n (t ∷ ws)) (append_assoc ts (u ∷ []) us) h in
    (spelled_below d b.0 n (u ∷ us) (λ at x. all at (in_named k x)))

-- ---- modules

no_more : (ts : List Token) → ts ++ [] ≡ ts
no_more [] = refl
no_more (t ∷ ts) = ap (λ (us : List Token). t ∷ us) (no_more ts)

pub tree_below : (ts : List Token) (m : Module) → IsTree ts m → procedures_module m ≤ max_nesting
tree_below ts m d = spelled_below d.0 refl max_nesting []
    (λ at b. d.1 at TooDeep (subst (λ (us : List Token). Breaks (ast module_rule) (rule module_rule) max_nesting us at
    TooDeep) (no_more ts) b))
