-- Each part has a text.
use Rattle.std.proofs.Common.{◌≡◌, List, [], ◌∷◌, ◌++◌, None, true, refl, sym, subst, inl, inr, ◌⊎◌}
use Rattle.def_grammar.specs.declared.kind.Kind.{Kind}
use Rattle.def_grammar.specs.declared.kind.Kind.TheVariants as the
use Rattle.m2_tree.specs.declared.token.Token.{Token}
use Rattle.m2_tree.specs.declared.token.Lexeme.{Lexeme}
use Rattle.m2_tree.specs.declared.token.Lexeme.TheVariants as lexeme
use Rattle.m2_tree.specs.declared.token.Symbol.TheVariants.{Of}
use Rattle.def_grammar.specs.Rule.{Rule, Ast, module_rule, import_rule, idents_rule, def_rule, block_rule, decl_rule, constant_rule, type_decl_rule, variables_rule, formals_rule, section_rule, formal_rule, qual_rule, simple_rule, type_rule, dims_rule, parameter_rule, field_rule, stmts_rule, stmt_rule, rest_rule, arm_rule, item_rule, desig_rule, selectors_rule, args_rule, expr_rule, sum_rule, term_rule, factor_rule, set_rule}
use Rattle.def_grammar.specs.Grammar.{Ty, El, Gr, ast, either, tok, rule, ◌·◌, ◌∣◌, lead, trail, opt, many, nest, named}
use Rattle.def_grammar.specs.Ebnf.{grammar}
use Rattle.def_grammar.specs.Trees.{tree}
use Rattle.def_grammar.specs.Kinds.{kind_of}
use Rattle.def_grammar.specs.Tables.{vanishes}
use Rattle.def_grammar.specs.Reading.{nullable}
use Rattle.def_grammar.proofs.Truth.{and_both, or_either}
use Rattle.def_grammar.specs.Spelling.{Among, here, Spells, one, made, pair, left, right, before, behind, absent, none, nested, closed}

abbrev lexeme_of : Kind → Lexeme
lexeme_of the.Name = lexeme.Name []
lexeme_of the.Number = lexeme.Number 0
lexeme_of the.Char = lexeme.Char 0
lexeme_of the.Text = lexeme.Text []
lexeme_of (the.Symbol s) = lexeme.Symbol s
lexeme_of the.End = lexeme.End

abbrev pub token_of : Kind → Token
token_of k = record { lexeme = lexeme_of k; pos = record { line = 1; col = 1 } }

pub kind_token : (k : Kind) → kind_of (token_of k) ≡ k
kind_token the.Name = refl
kind_token the.Number = refl
kind_token the.Char = refl
kind_token the.Text = refl
kind_token (the.Symbol s) = refl
kind_token the.End = refl

pub record Filled {a : Ty} (g : Gr a) : Type 0 where
  pub value : El a
  pub text : List Token
  pub spelt : Spells a g value text

fill_rule : {r : Rule} → Filled (grammar r).form → Filled (rule r)
fill_rule {r} f = record { value = tree r f.value; text = f.text; spelt = made f.spelt }

either_empty : {a b : Ty} (g : Gr a) (h : Gr b) → (nullable g ≡ true) ⊎ (nullable h ≡ true)
    → (nullable g ≡ true → (x : El a) × Spells a g x []) → (nullable h ≡ true → (y : El b) × Spells b h y [])
    → (z : El (either a b)) × Spells (either a b) (g ∣ h) z []
either_empty g h (inl e) f s = let x = f e in (inl x.0, left x.1)
either_empty g h (inr e) f s = let y = s e in (inr y.0, right y.1)

f_tok : {k : Kind} {ks : List Kind} → Filled (tok k ks)
f_tok {k} {ks} = record {
  value = token_of k;
  text = token_of k ∷ [];
  spelt =
      one (subst (λ (j : Kind). Among j (k ∷ ks)) (sym (kind_token k)) here);
}

f_pair : {a b : Ty} {g : Gr a} {h : Gr b} → Filled g → Filled h → Filled (g · h)
f_pair f s = record { value = (f.value, s.value); text = f.text ++ s.text; spelt = pair f.spelt s.spelt }

f_left : {a b : Ty} {g : Gr a} {h : Gr b} → Filled g → Filled (g ∣ h)
f_left f = record { value = inl f.value; text = f.text; spelt = left f.spelt }

f_before : {a : Ty} {k : Kind} {g : Gr a} → Filled g → Filled (lead k g)
f_before {k = k} f = record { value = f.value; text = token_of k ∷ f.text; spelt = before (kind_token k) f.spelt }

f_behind : {a : Ty} {g : Gr a} {k : Kind} → Filled g → Filled (trail g k)
f_behind {k = k} f = record {
  value = f.value;
  text = f.text ++ token_of k ∷ [];
  spelt =
      behind (token_of k) f.spelt (kind_token k);
}

f_opt : {a : Ty} {g : Gr a} → Filled (opt g)
f_opt = record { value = None; text = []; spelt = absent }

f_many : {a : Ty} {g : Gr a} → Filled (many g)
f_many = record { value = []; text = []; spelt = none }

f_nest : {a : Ty} {g : Gr a} → Filled g → Filled (nest g)
f_nest f = record { value = f.value; text = f.text; spelt = nested f.spelt }

f_named : {a : Ty} {g : Gr a} → Filled g → Filled (named g)
f_named f = record {
  value = (token_of the.Name, f.value);
  text =
      token_of the.Name ∷ f.text ++ token_of the.Name ∷ [];
  spelt =
      closed (token_of the.Name) (token_of the.Name) refl f.spelt refl;
}

-- the productions, each after those that its shortest text has
factor_filled : Filled (rule factor_rule)
factor_filled = fill_rule (f_left f_tok)

term_filled : Filled (rule term_rule)
term_filled = fill_rule (f_pair factor_filled f_many)

sum_filled : Filled (rule sum_rule)
sum_filled = fill_rule (f_pair f_opt (f_pair term_filled f_many))

expr_filled : Filled (rule expr_rule)
expr_filled = fill_rule (f_pair sum_filled f_opt)

item_filled : Filled (rule item_rule)
item_filled = fill_rule (f_pair expr_filled f_opt)

selectors_filled : Filled (rule selectors_rule)
selectors_filled = fill_rule (f_many)

desig_filled : Filled (rule desig_rule)
desig_filled = fill_rule (f_pair f_tok selectors_filled)

stmts_filled : Filled (rule stmts_rule)
stmts_filled = fill_rule (f_pair f_opt f_many)

idents_filled : Filled (rule idents_rule)
idents_filled = fill_rule (f_pair f_tok f_many)

qual_filled : Filled (rule qual_rule)
qual_filled = fill_rule (f_pair f_tok f_opt)

simple_filled : Filled (rule simple_rule)
simple_filled = fill_rule (f_left (f_pair qual_filled f_opt))

type_filled : Filled (rule type_rule)
type_filled = fill_rule (f_nest (f_left simple_filled))

formal_filled : Filled (rule formal_rule)
formal_filled = fill_rule (f_pair f_opt qual_filled)

formals_filled : Filled (rule formals_rule)
formals_filled = fill_rule (f_opt)

block_filled : Filled (rule block_rule)
block_filled = fill_rule (f_pair f_many (f_behind f_opt))

pub filled : (r : Rule) → Filled (rule r)
filled module_rule = fill_rule (f_behind
    (f_left (f_before (f_before (f_behind (f_named (f_before (f_pair f_many (f_behind f_many)))))))))
filled import_rule = fill_rule (f_pair f_opt (f_before (f_behind idents_filled)))
filled idents_rule = idents_filled
filled def_rule = fill_rule (f_left (f_left (f_before f_many)))
filled block_rule = block_filled
filled decl_rule = fill_rule (f_left (f_left (f_before f_many)))
filled constant_rule = fill_rule (f_pair f_tok (f_before (f_behind expr_filled)))
filled type_decl_rule = fill_rule (f_pair f_tok (f_before (f_behind type_filled)))
filled variables_rule = fill_rule (f_pair idents_filled (f_before (f_behind type_filled)))
filled formals_rule = formals_filled
filled section_rule = fill_rule (f_pair f_opt (f_pair idents_filled (f_before formal_filled)))
filled formal_rule = formal_filled
filled qual_rule = qual_filled
filled simple_rule = simple_filled
filled type_rule = type_filled
filled dims_rule = fill_rule (f_pair simple_filled
    (record {
      value = inr type_filled.value;
      text = token_of (the.Symbol Of) ∷ type_filled.text;
      spelt =
          right (before refl type_filled.spelt);
    }))
filled parameter_rule = fill_rule (f_pair f_opt formal_filled)
filled field_rule = fill_rule (f_pair idents_filled (f_before type_filled))
filled stmts_rule = stmts_filled
filled stmt_rule = fill_rule (f_left (f_pair desig_filled (f_left (f_before expr_filled))))
filled rest_rule = fill_rule (record { value = inr None; text = []; spelt = right absent })
filled arm_rule = fill_rule (f_pair (f_pair item_filled f_many) (f_before stmts_filled))
filled item_rule = item_filled
filled desig_rule = desig_filled
filled selectors_rule = selectors_filled
filled args_rule = fill_rule (f_nest (f_before (f_behind f_opt)))
filled expr_rule = expr_filled
filled sum_rule = sum_filled
filled term_rule = term_filled
filled factor_rule = factor_filled
filled set_rule = fill_rule (f_nest (f_pair f_tok (f_behind f_opt)))

pub fill : {a : Ty} (g : Gr a) → Filled g
fill (tok k ks) = f_tok
fill (rule r) = filled r
fill (g · h) = f_pair (fill g) (fill h)
fill (g ∣ h) = f_left (fill g)
fill (lead k g) = f_before (fill g)
fill (trail g k) = f_behind (fill g)
fill (opt g) = f_opt
fill (many g) = f_many
fill (nest g) = f_nest (fill g)
fill (named g) = f_named (fill g)

-- ---- parts that may be empty

empty_rule : (r : Rule) → vanishes r ≡ true → (x : Ast r) × Spells (ast r) (rule r) x []
empty_rule formals_rule e = (_, made absent)
empty_rule stmts_rule e = (_, made (pair absent none))
empty_rule rest_rule e = (_, made (right absent))
empty_rule selectors_rule e = (_, made none)
empty_rule _ e = absurd cc

pub empty : {a : Ty} (g : Gr a) → nullable g ≡ true → (x : El a) × Spells a g x []
empty (tok k ks) e = absurd cc
empty (rule r) e = empty_rule r e
empty (g · h) e = let p = and_both (nullable g) (nullable h) e in let x = empty g p.0 in let y = empty h p.1 in
    ((x.0, y.0), pair x.1 y.1)
empty (g ∣ h) e = either_empty g h (or_either (nullable g) (nullable h) e) (empty g) (empty h)
empty (lead k g) e = absurd cc
empty (trail g k) e = absurd cc
empty (opt g) e = (None, absent)
empty (many g) e = ([], none)
empty (nest g) e = let x = empty g e in (x.0, nested x.1)
empty (named g) e = absurd cc
