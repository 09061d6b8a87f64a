-- The name of a module that is read consists of letters and digits, 64 at most.
use Rattle.std.proofs.Common.{◌≡◌, ◌⊎◌, inl, inr, ℕ, ◌<◌, ◌≤◌, Bool, true, false, ◌&&◌, ◌||◌, List, [], ◌∷◌, ◌++◌, length, Option, Some, None, refl, sym, ap, subst, ◌∙◌, arith}
use Rattle.std.specs.Prelude.{nat_le, All, if◌then◌else◌}
use Rattle.std.specs.List.{AllByRecursion, list_all}
use Rattle.std.proofs.lemmas.Bool.{leb-true, le-leb, false≢true, and_from, and_parts}
use Rattle.std.proofs.lemmas.List.Sums.{AllPass-from_list_all}
use Rattle.std.proofs.lemmas.List.Elements.{All-weaker}
use Rattle.m2_tree.specs.declared.token.Lexeme.{Lexeme}
use Rattle.m2_tree.specs.declared.token.Lexeme.TheVariants as lexeme
use Rattle.m2_tree.specs.declared.token.Token.{Token}
use Rattle.m2_tree.specs.declared.decl.Module.{Module}
use Rattle.scan_tokens.specs.declared.class.Class.TheVariants.{Space, Letter, Digit, Quote, Other}
use Rattle.scan_tokens.specs.Bytes.{Text, is_space, is_letter, is_digit, is_quote, class, in_run, is_run_byte}
use Rattle.scan_tokens.specs.Forms.{IsRun, Member}
use Rattle.scan_tokens.specs.Forms as forms
use Rattle.scan_tokens.specs.Division.{place, Divides, tokens_behind, HasTokens}
use Rattle.def_grammar.specs.declared.kind.Kind.TheVariants as the
use Rattle.def_grammar.specs.declared.kind.Kind.{Kind}
use Rattle.def_grammar.specs.Kinds.{kind_of, kind_said}
use Rattle.def_grammar.specs.Rule.{Rule, Ast, module_rule, import_rule, idents_rule, def_rule, block_rule, decl_rule, constant_rule, type_decl_rule, variables_rule, formals_rule, section_rule, formal_rule, qual_rule, simple_rule, type_rule, dims_rule, parameter_rule, field_rule, stmts_rule, stmt_rule, rest_rule, arm_rule, item_rule, desig_rule, selectors_rule, args_rule, expr_rule, sum_rule, term_rule, factor_rule, set_rule}
use Rattle.def_grammar.specs.Grammar.{Ty, token, ast, both, either, maybe, list, El, Gr}
use Rattle.def_grammar.specs.Ebnf.{grammar}
use Rattle.def_grammar.specs.Trees.{name_said, name_of, module_of, tree}
use Rattle.def_grammar.specs.Spelling.{Spells, one, made, pair, left, right, before, behind, absent, there_is, none, more, nested, closed}
use Rattle.def_grammar.specs.Refusal.{IsModule}
use Rattle.build_jobs.specs.Reading.{HasTree}

-- ---- the names among tokens

-- letters and digits, 64 at most
abbrev word : List ℕ → Bool
word name = nat_le (length name) 64 && list_all is_run_byte name

abbrev named : Token → Bool
named t = word (name_of t)

run_bytes : (w : Text) → IsRun Letter w → list_all is_run_byte w ≡ true
run_bytes [] h = absurd h
run_bytes (b ∷ bs) h = and_from (is_run_byte b) (list_all is_run_byte bs) (ap in_run h.0) h.1

word_from : (w : Text) → IsRun Letter w → length w ≤ 64 → word w ≡ true
word_from w run short = and_from (nat_le (length w) 64) (list_all is_run_byte w) (le-leb (length w) 64 short)
    (run_bytes w run)

lexeme_named : (w : Text) (l : Lexeme) → forms.Spells w l → word (name_said l) ≡ true
lexeme_named w (lexeme.Name n) h = subst (λ (name : List ℕ). word name ≡ true) (sym h.3) (word_from w h.0 h.1)
lexeme_named w (lexeme.Number n) h = refl
lexeme_named w (lexeme.Char c) h = refl
lexeme_named w (lexeme.Text text) h = refl
lexeme_named w (lexeme.Symbol s) h = refl
lexeme_named w lexeme.End h = refl

abbrev AllNamed : List Token → Type 0
AllNamed ts = AllByRecursion (λ t. named t ≡ true) ts

members_named : (text front : Text) (ms : List Member) (rest : Text) → Divides text ms rest
    → AllNamed (tokens_behind front ms)
members_named text front [] rest h = tt
members_named text front ((w, None) ∷ ms) rest h = members_named h.0 (front ++ w) ms rest h.4
members_named text front ((w, Some t) ∷ ms) rest h = (lexeme_named w t h.3, members_named h.0 (front ++ w) ms rest h.4)

with_end : (ts : List Token) (t : Token) → AllNamed ts → named t ≡ true → AllNamed (ts ++ t ∷ [])
with_end [] t h k = (k, tt)
with_end (x ∷ ts) t h k = (h.0, with_end ts t h.1 k)

tokens_named : (text : Text) (ts : List Token) → HasTokens text ts → AllNamed ts
tokens_named text ts h =
    subst AllNamed (sym h.2) (with_end (tokens_behind [] h.0) (record { lexeme = lexeme.End; pos = place text })
    (members_named text [] h.0 [] h.1) refl)

-- ---- the name of a module, by induction over the grammar

abbrev TreeNamed : (r : Rule) → Ast r → Type 0
TreeNamed module_rule x = word x.name.name ≡ true
TreeNamed import_rule x = Unit {0}
TreeNamed idents_rule x = Unit {0}
TreeNamed def_rule x = Unit {0}
TreeNamed block_rule x = Unit {0}
TreeNamed decl_rule x = Unit {0}
TreeNamed constant_rule x = Unit {0}
TreeNamed type_decl_rule x = Unit {0}
TreeNamed variables_rule x = Unit {0}
TreeNamed formals_rule x = Unit {0}
TreeNamed section_rule x = Unit {0}
TreeNamed formal_rule x = Unit {0}
TreeNamed qual_rule x = Unit {0}
TreeNamed simple_rule x = Unit {0}
TreeNamed type_rule x = Unit {0}
TreeNamed dims_rule x = Unit {0}
TreeNamed parameter_rule x = Unit {0}
TreeNamed field_rule x = Unit {0}
TreeNamed stmts_rule x = Unit {0}
TreeNamed stmt_rule x = Unit {0}
TreeNamed rest_rule x = Unit {0}
TreeNamed arm_rule x = Unit {0}
TreeNamed item_rule x = Unit {0}
TreeNamed desig_rule x = Unit {0}
TreeNamed selectors_rule x = Unit {0}
TreeNamed args_rule x = Unit {0}
TreeNamed expr_rule x = Unit {0}
TreeNamed sum_rule x = Unit {0}
TreeNamed term_rule x = Unit {0}
TreeNamed factor_rule x = Unit {0}
TreeNamed set_rule x = Unit {0}

abbrev MaybeNamed : {A : Type 0} → (A → Type 0) → Option A → Type 0
MaybeNamed P None = Unit {0}
MaybeNamed P (Some x) = P x

abbrev EitherNamed : {A B : Type 0} → (A → Type 0) → (B → Type 0) → A ⊎ B → Type 0
EitherNamed P Q (inl x) = P x
EitherNamed P Q (inr y) = Q y

abbrev PartNamed : (a : Ty) → El a → Type 0
PartNamed token t = named t ≡ true
PartNamed (ast r) x = TreeNamed r x
PartNamed (both a b) p = PartNamed a p.0 × PartNamed b p.1
PartNamed (either a b) x = EitherNamed (PartNamed a) (PartNamed b) x
PartNamed (maybe a) x = MaybeNamed (PartNamed a) x
PartNamed (list a) xs = AllByRecursion (PartNamed a) xs

module_named : (x : El (grammar module_rule).shape) → PartNamed (grammar module_rule).shape x
    → TreeNamed module_rule (module_of x)
module_named (inl p) h = h.0
module_named (inr p) h = h.1.0

tree_named : (r : Rule) (x : El (grammar r).shape) → PartNamed (grammar r).shape x → TreeNamed r (tree r x)
tree_named module_rule x h = module_named x h
tree_named import_rule x h = tt
tree_named idents_rule x h = tt
tree_named def_rule x h = tt
tree_named block_rule x h = tt
tree_named decl_rule x h = tt
tree_named constant_rule x h = tt
tree_named type_decl_rule x h = tt
tree_named variables_rule x h = tt
tree_named formals_rule x h = tt
tree_named section_rule x h = tt
tree_named formal_rule x h = tt
tree_named qual_rule x h = tt
tree_named simple_rule x h = tt
tree_named type_rule x h = tt
tree_named dims_rule x h = tt
tree_named parameter_rule x h = tt
tree_named field_rule x h = tt
tree_named stmts_rule x h = tt
tree_named stmt_rule x h = tt
tree_named rest_rule x h = tt
tree_named arm_rule x h = tt
tree_named item_rule x h = tt
tree_named desig_rule x h = tt
tree_named selectors_rule x h = tt
tree_named args_rule x h = tt
tree_named expr_rule x h = tt
tree_named sum_rule x h = tt
tree_named term_rule x h = tt
tree_named factor_rule x h = tt
tree_named set_rule x h = tt

front_named : (ts us : List Token) → AllNamed (ts ++ us) → AllNamed ts
front_named [] us h = tt
front_named (t ∷ ts) us h = (h.0, front_named ts us h.1)

rest_named : (ts us : List Token) → AllNamed (ts ++ us) → AllNamed us
rest_named [] us h = h
rest_named (t ∷ ts) us h = rest_named ts us h.1

spelled_named : {a : Ty} {g : Gr a} {x : El a} {ts : List Token} → Spells a g x ts → AllNamed ts → PartNamed a x
spelled_named (one i) h = h.0
spelled_named (made {r = r} {x = x} d) h = tree_named r x (spelled_named d h)
spelled_named (pair {ts = ts} {us = us} d c) h =
    (spelled_named d (front_named ts us h), spelled_named c (rest_named ts us h))
spelled_named (left d) h = spelled_named d h
spelled_named (right d) h = spelled_named d h
spelled_named (before k d) h = spelled_named d h.1
spelled_named (behind {ts = ts} t d k) h = spelled_named d (front_named ts (t ∷ []) h)
spelled_named absent h = tt
spelled_named (there_is d) h = spelled_named d h
spelled_named none h = tt
spelled_named (more {ts = ts} {us = us} d c) h =
    (spelled_named d (front_named ts us h), spelled_named c (rest_named ts us h))
spelled_named (nested d) h = spelled_named d h
spelled_named (closed {ts = ts} t u k d l) h = (h.0, spelled_named d (front_named ts (u ∷ []) h.1))

whole_named : (ts : List Token) (m : Module) → AllNamed ts → IsModule ts m → word m.name.name ≡ true
whole_named ts m h d = spelled_named d h

-- ---- what letters and digits are

either_of : (p q : Bool) → (p || q) ≡ true → (p ≡ true) ⊎ (q ≡ true)
either_of true q e = inl refl
either_of false q e = inr e

classed : (s l d q : Bool) → in_run (if s then Space else if l then Letter else if d then Digit else if q then Quote
    else Other) ≡ true → (l ≡ true) ⊎ (d ≡ true)
classed true l d q e = absurd (false≢true e)
classed false true d q e = inl refl
classed false false true q e = inr refl
classed false false false true e = absurd (false≢true e)
classed false false false false e = absurd (false≢true e)

between : (low high b : ℕ) → (nat_le low b && nat_le b high) ≡ true → (low ≤ b) × (b ≤ high)
between low high b e = let both = and_parts (nat_le low b) (nat_le b high) e in
    (leb-true low b both.0, leb-true b high both.1)

-- a letter or a digit
pub run_byte : (b : ℕ) → is_run_byte b ≡ true → (is_letter b ≡ true) ⊎ (is_digit b ≡ true)
unfolding class
run_byte b e = classed (is_space b) (is_letter b) (is_digit b) (is_quote b) e

pub run_bound : (b : ℕ) → is_run_byte b ≡ true → (48 ≤ b) × (b < 123)
unfolding class
run_bound b e = elim (classed (is_space b) (is_letter b) (is_digit b) (is_quote b) e) [
  | inr d ↦ let w = between 48 57 b d in (omega (arith, w.0), omega (arith, w.1))
  | inl l ↦ elim (either_of (nat_le 65 b && nat_le b 90) (nat_le 97 b && nat_le b 122) l) [
    | inl c ↦ let w = between 65 90 b c in (omega (arith, w.0), omega (arith, w.1))
    | inr c ↦ let w = between 97 122 b c in (omega (arith, w.0), omega (arith, w.1))
  ]
]

-- the name of a module that is read
pub name_read : (text : List ℕ) (m : Module) → HasTree text m → (length m.name.name ≤ 64)
    × All (λ b. (48 ≤ b) × (b < 123)) m.name.name
name_read text m h =
    let is = and_parts (nat_le (length m.name.name) 64) (list_all is_run_byte m.name.name)
    (whole_named h.tokens m (tokens_named text h.tokens h.divides.divides) h.is_tree.0) in (
      leb-true (length m.name.name) 64 is.0,
      All-weaker (λ b. is_run_byte b ≡ true) (λ b. (48 ≤ b) × (b < 123)) run_bound
          m.name.name (AllPass-from_list_all is_run_byte m.name.name is.1),
    )

-- ---- its first letter

abbrev pub Begins : List ℕ → Type 0
Begins [] = ⊥
Begins (b ∷ bs) = is_letter b ≡ true

letter_class : (s l d q : Bool) → (if s then Space else if l then Letter else if d then Digit else if q then Quote else
    Other) ≡ Letter → l ≡ true
letter_class true l d q e = absurd cc
letter_class false true d q e = refl
letter_class false false true q e = absurd cc
letter_class false false false true e = absurd cc
letter_class false false false false e = absurd cc

begins_run : (w : Text) → IsRun Letter w → Begins w
unfolding class
begins_run [] h = h
begins_run (b ∷ bs) h = letter_class (is_space b) (is_letter b) (is_digit b) (is_quote b) h.0

abbrev Begun : Token → Type 0
Begun t = kind_of t ≡ the.Name → Begins (name_of t)

lexeme_begun : (w : Text) (l : Lexeme) (t : Token) → t.lexeme ≡ l → forms.Spells w l → Begun t
lexeme_begun w l t same h k = by l same h (subst (λ (x : Lexeme). kind_said x ≡ the.Name) same k) where
  by : (x : Lexeme) → t.lexeme ≡ x → forms.Spells w x → kind_said x ≡ the.Name → Begins (name_of t)
  by (lexeme.Name n) e h k = subst (λ (y : Lexeme). Begins (name_said y)) (sym e)
      (subst Begins (sym h.3) (begins_run w h.0))
  by (lexeme.Number n) e h k = absurd cc
  by (lexeme.Char c) e h k = absurd cc
  by (lexeme.Text text) e h k = absurd cc
  by (lexeme.Symbol s) e h k = absurd cc
  by lexeme.End e h k = absurd cc

abbrev AllBegun : List Token → Type 0
AllBegun ts = AllByRecursion Begun ts

members_begun : (text front : Text) (ms : List Member) (rest : Text) → Divides text ms rest
    → AllBegun (tokens_behind front ms)
members_begun text front [] rest h = tt
members_begun text front ((w, None) ∷ ms) rest h = members_begun h.0 (front ++ w) ms rest h.4
members_begun text front ((w, Some t) ∷ ms) rest h =
    (lexeme_begun w t (record { lexeme = t; pos = place front }) refl h.3, members_begun h.0 (front ++ w) ms rest h.4)

end_begun : (ts : List Token) (t : Token) → AllBegun ts → Begun t → AllBegun (ts ++ t ∷ [])
end_begun [] t h k = (k, tt)
end_begun (x ∷ ts) t h k = (h.0, end_begun ts t h.1 k)

no_name : (k : Kind) → the.End ≡ k → k ≡ the.Name → ⊥
no_name k e f = let same : the.End ≡ the.Name = e ∙ f in cc

tokens_begun : (text : Text) (ts : List Token) → HasTokens text ts → AllBegun ts
tokens_begun text ts h =
    subst AllBegun (sym h.2) (end_begun (tokens_behind [] h.0) (record { lexeme = lexeme.End; pos = place text })
    (members_begun text [] h.0 [] h.1) (λ k. absurd (no_name the.End refl k)))

rest_begun : (ts us : List Token) → AllBegun (ts ++ us) → AllBegun us
rest_begun [] us h = h
rest_begun (t ∷ ts) us h = rest_begun ts us h.1

begun_behind : (ts : List Token) (a t : Token) (us end : List Token) → AllBegun ((ts ++ a ∷ t ∷ us) ++ end) → Begun t
begun_behind [] a t us end h = h.1.0
begun_behind (x ∷ ts) a t us end h = begun_behind ts a t us end h.1

module_begun : (ts : List Token) (m : Module) → AllBegun ts → IsModule ts m → Begins m.name.name
module_begun _ _ h (made (behind e (left (before a (before b (behind f (closed t u k d l) g)))) j)) = h.1.1.0 k
module_begun _ _ h (made (behind e (right (pair {ts = ts} o (before b (behind f (closed t u k d l) g)))) j)) =
    begun_behind ts _ t _ _ h k

pub name_begins : (text : List ℕ) (m : Module) → HasTree text m → Begins m.name.name
name_begins text m h = module_begun h.tokens m (tokens_begun text h.tokens h.divides.divides) h.is_tree.0

-- a name of letters and digits, 64 at most, of which the first is a letter
pub record IsWord (name : List ℕ) : Type 0 where
  pub few : length name ≤ 64
  pub run : list_all is_run_byte name ≡ true
  pub begins : Begins name

pub name_word : (text : List ℕ) (m : Module) → HasTree text m → IsWord m.name.name
name_word text m h =
    let is = and_parts (nat_le (length m.name.name) 64) (list_all is_run_byte m.name.name)
    (whole_named h.tokens m (tokens_named text h.tokens h.divides.divides) h.is_tree.0) in
    record { few = leb-true (length m.name.name) 64 is.0; run = is.1; begins = name_begins text m h }
