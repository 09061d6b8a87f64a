-- The grammar is read by one token ahead: what a part begins with and goes on with, and the test that these never
-- clash.
use Rattle.std.proofs.Common.{◌≡◌, ℕ, zero, suc, Bool, true, not, ◌&&◌, cond, List, [], ◌∷◌, ◌++◌, refl}
use Rattle.def_grammar.specs.declared.kind.Kind.{Kind}
use Rattle.def_grammar.specs.declared.kind.Kind.TheVariants as the
use Rattle.def_grammar.specs.Rule.{Rule, module_rule, import_rule, idents_rule, def_rule, block_rule, decl_rule, constant_rule, type_decl_rule, variables_rule, formals_rule, section_rule, formal_rule, qual_rule, simple_rule, type_rule, dims_rule, parameter_rule, field_rule, stmts_rule, stmt_rule, rest_rule, arm_rule, item_rule, desig_rule, selectors_rule, args_rule, expr_rule, sum_rule, term_rule, factor_rule, set_rule}
use Rattle.def_grammar.specs.Grammar.{Ty, Gr, tok, rule, ◌·◌, ◌∣◌, lead, trail, opt, many, nest, named}
use Rattle.def_grammar.specs.Ebnf.{grammar}
use Rattle.def_grammar.specs.Kinds.{same_kind, same_symbol}
use Rattle.m2_tree.specs.declared.token.Symbol.TheVariants.{Assign, Comma, Dot, LeftBracket, LeftParen, LeftBrace, Semicolon, DotDot, Elsif, Else, Colon}
use Rattle.def_grammar.specs.Tables.{symbols, vanishes, starters, in_selector, in_expr, in_stmt, relations, add_ops, mul_ops}
use Rattle.def_grammar.specs.Reading.{first, first_by, nullable, is_among}

-- ---- the tokens that a part can go on with where it could also end

abbrev past_factor : List Kind
past_factor = in_selector ++ symbols (LeftParen ∷ LeftBrace ∷ [])

abbrev past_term : List Kind
past_term = mul_ops ++ past_factor

abbrev past_expr : List Kind
past_expr = relations ++ add_ops ++ past_term

abbrev past_stmt : List Kind
past_stmt = the.Symbol Assign ∷ in_expr ++ past_expr

abbrev past_type : List Kind
past_type = symbols (Dot ∷ LeftBracket ∷ LeftParen ∷ Colon ∷ [])

abbrev pub extenders : Rule → List Kind
extenders module_rule = []
extenders import_rule = []
extenders idents_rule = symbols (Comma ∷ [])
extenders def_rule = the.Name ∷ []
extenders block_rule = []
extenders decl_rule = the.Name ∷ []
extenders constant_rule = []
extenders type_decl_rule = []
extenders variables_rule = []
extenders formals_rule = symbols (LeftParen ∷ Colon ∷ Dot ∷ [])
extenders section_rule = symbols (Dot ∷ [])
extenders formal_rule = symbols (Dot ∷ [])
extenders qual_rule = symbols (Dot ∷ [])
extenders simple_rule = symbols (Dot ∷ LeftBracket ∷ [])
extenders type_rule = past_type
extenders dims_rule = past_type
extenders parameter_rule = symbols (Dot ∷ [])
extenders field_rule = past_type
extenders stmts_rule = the.Symbol Semicolon ∷ in_stmt ++ past_stmt
extenders stmt_rule = past_stmt
extenders rest_rule = symbols (Elsif ∷ Else ∷ Semicolon ∷ []) ++ in_stmt ++ past_stmt
extenders arm_rule = the.Symbol Semicolon ∷ in_stmt ++ past_stmt
extenders item_rule = the.Symbol DotDot ∷ past_expr
extenders desig_rule = in_selector
extenders selectors_rule = in_selector
extenders args_rule = []
extenders expr_rule = past_expr
extenders sum_rule = add_ops ++ past_term
extenders term_rule = past_term
extenders factor_rule = past_factor
extenders set_rule = []

abbrev pub ext : {a : Ty} → Gr a → List Kind
ext (tok k ks) = []
ext (rule r) = extenders r
ext (g · h) = cond (nullable h) (ext g ++ ext h) (ext h)
ext (g ∣ h) = ext g ++ ext h ++ cond (nullable h) (first g) []
ext (lead k g) = ext g
ext (trail g k) = []
ext (opt g) = first g ++ ext g
ext (many g) = first g ++ ext g
ext (nest g) = ext g
ext (named g) = []

abbrev pub disjoint : List Kind → List Kind → Bool
disjoint [] js = true
disjoint (k ∷ ks) js = not (is_among k js) && disjoint ks js

abbrev pub within : List Kind → List Kind → Bool
within [] js = true
within (k ∷ ks) js = is_among k js && within ks js

-- whether each turn of a repetition takes a token
abbrev pub is_repeatable : {a : Ty} → Gr a → Bool
is_repeatable g = not (nullable g) && not (is_among the.End (first g))

-- whether one token ahead says what to read
abbrev pub one_ahead : {a : Ty} → Gr a → Bool
one_ahead (tok k ks) = true
one_ahead (rule r) = true
one_ahead (g · h) = one_ahead g && (one_ahead h && disjoint (ext g) (first h))
one_ahead (g ∣ h) = one_ahead g && (one_ahead h && (disjoint (first g) (first h) && not (nullable g)))
one_ahead (lead k g) = one_ahead g
one_ahead (trail g k) = one_ahead g && disjoint (ext g) (k ∷ [])
one_ahead (opt g) = one_ahead g && not (nullable g)
one_ahead (many g) = one_ahead g && (disjoint (ext g) (first g) && is_repeatable g)
one_ahead (nest g) = one_ahead g && not (nullable g)
one_ahead (named g) = one_ahead g && disjoint (ext g) (the.Name ∷ [])

-- what each production truly begins with, by so many steps
abbrev pub reached : ℕ → Rule → List Kind
reached zero r = []
reached (suc n) r = first_by (reached n) (grammar r).form

-- the tables of a production are right
pub record IsTabled (r : Rule) : Type 0 where
  pub ahead : one_ahead (grammar r).form ≡ true
  pub firsts : within (first (grammar r).form) (starters r) ≡ true
  pub exts : within (ext (grammar r).form) (extenders r) ≡ true
  pub empty : (nullable (grammar r).form) ≡ vanishes r
  pub real : within (starters r) (reached 8 r) ≡ true

pub tabled : (r : Rule) → IsTabled r
unfolding same_kind same_symbol
tabled module_rule = record { ahead = refl; firsts = refl; exts = refl; empty = refl; real = refl }
tabled import_rule = record { ahead = refl; firsts = refl; exts = refl; empty = refl; real = refl }
tabled idents_rule = record { ahead = refl; firsts = refl; exts = refl; empty = refl; real = refl }
tabled def_rule = record { ahead = refl; firsts = refl; exts = refl; empty = refl; real = refl }
tabled block_rule = record { ahead = refl; firsts = refl; exts = refl; empty = refl; real = refl }
tabled decl_rule = record { ahead = refl; firsts = refl; exts = refl; empty = refl; real = refl }
tabled constant_rule = record { ahead = refl; firsts = refl; exts = refl; empty = refl; real = refl }
tabled type_decl_rule = record { ahead = refl; firsts = refl; exts = refl; empty = refl; real = refl }
tabled variables_rule = record { ahead = refl; firsts = refl; exts = refl; empty = refl; real = refl }
tabled formals_rule = record { ahead = refl; firsts = refl; exts = refl; empty = refl; real = refl }
tabled section_rule = record { ahead = refl; firsts = refl; exts = refl; empty = refl; real = refl }
tabled formal_rule = record { ahead = refl; firsts = refl; exts = refl; empty = refl; real = refl }
tabled qual_rule = record { ahead = refl; firsts = refl; exts = refl; empty = refl; real = refl }
tabled simple_rule = record { ahead = refl; firsts = refl; exts = refl; empty = refl; real = refl }
tabled type_rule = record { ahead = refl; firsts = refl; exts = refl; empty = refl; real = refl }
tabled dims_rule = record { ahead = refl; firsts = refl; exts = refl; empty = refl; real = refl }
tabled parameter_rule = record { ahead = refl; firsts = refl; exts = refl; empty = refl; real = refl }
tabled field_rule = record { ahead = refl; firsts = refl; exts = refl; empty = refl; real = refl }
tabled stmts_rule = record { ahead = refl; firsts = refl; exts = refl; empty = refl; real = refl }
tabled stmt_rule = record { ahead = refl; firsts = refl; exts = refl; empty = refl; real = refl }
tabled rest_rule = record { ahead = refl; firsts = refl; exts = refl; empty = refl; real = refl }
tabled arm_rule = record { ahead = refl; firsts = refl; exts = refl; empty = refl; real = refl }
tabled item_rule = record { ahead = refl; firsts = refl; exts = refl; empty = refl; real = refl }
tabled desig_rule = record { ahead = refl; firsts = refl; exts = refl; empty = refl; real = refl }
tabled selectors_rule = record { ahead = refl; firsts = refl; exts = refl; empty = refl; real = refl }
tabled args_rule = record { ahead = refl; firsts = refl; exts = refl; empty = refl; real = refl }
tabled expr_rule = record { ahead = refl; firsts = refl; exts = refl; empty = refl; real = refl }
tabled sum_rule = record { ahead = refl; firsts = refl; exts = refl; empty = refl; real = refl }
tabled term_rule = record { ahead = refl; firsts = refl; exts = refl; empty = refl; real = refl }
tabled factor_rule = record { ahead = refl; firsts = refl; exts = refl; empty = refl; real = refl }
tabled set_rule = record { ahead = refl; firsts = refl; exts = refl; empty = refl; real = refl }
