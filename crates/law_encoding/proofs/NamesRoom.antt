-- The names of texts are short, by induction over the grammar, and so there is room for them.
use Rattle.std.proofs.Common.{◌≡◌, ◌⊎◌, inl, inr, ℕ, suc, ◌+◌, ◌*◌, ◌≤◌, ◌<◌, Bool, true, false, ◌&&◌, ◌||◌, List, [], ◌∷◌, ◌++◌, length, Some, None, refl, sym, ap, subst, arith}
use Rattle.std.specs.Prelude.{nat_lt, nat_le, if◌then◌else◌}
use Rattle.std.specs.List.{AllByRecursion, list_all}
use Rattle.std.proofs.lemmas.Bool.{and_parts, lt-ltb, le-leb, leb-true}
use Rattle.m2_tree.specs.Limits.{max_name}
use Rattle.m2_tree.specs.declared.token.Lexeme.{Lexeme}
use Rattle.m2_tree.specs.declared.token.Lexeme.TheVariants as lexeme
use Rattle.m2_tree.specs.declared.token.Token.{Token}
use Rattle.m2_tree.specs.declared.decl.Module.{Module}
use Rattle.scan_tokens.specs.declared.class.Class.TheVariants.{Space, Letter, Digit, Quote, Other}
use Rattle.scan_tokens.specs.Bytes.{Text, is_space, is_letter, is_digit, is_quote, class, in_run, is_run_byte}
use Rattle.scan_tokens.specs.Forms as forms
use Rattle.scan_tokens.specs.Forms.{IsRun, Member}
use Rattle.scan_tokens.specs.Division.{place, Divides, tokens_behind, HasTokens}
use Rattle.def_grammar.specs.Rule.{Rule, Ast, module_rule, import_rule, idents_rule, def_rule, block_rule, decl_rule, constant_rule, type_decl_rule, variables_rule, formals_rule, section_rule, formal_rule, qual_rule, simple_rule, type_rule, dims_rule, parameter_rule, field_rule, stmts_rule, stmt_rule, rest_rule, arm_rule, item_rule, desig_rule, selectors_rule, args_rule, expr_rule, sum_rule, term_rule, factor_rule, set_rule}
use Rattle.def_grammar.specs.Grammar.{Ty, token, ast, both, either, maybe, list, El, Gr}
use Rattle.def_grammar.specs.Ebnf.{grammar}
use Rattle.def_grammar.specs.Trees.{name_said, module_of, tree}
use Rattle.def_grammar.specs.Refusal.{IsModule}
use Rattle.def_grammar.specs.Spelling.{Spells, one, made, pair, left, right, before, behind, absent, there_is, none, more, nested, closed}
use Rattle.law_well_formed.proofs.Spelled.{EitherFits, MaybeFits}
use Rattle.typed_tree.specs.declared.typed_module.TypedModule.{TypedModule}
use Rattle.wasm_code.specs.Parts.{name}
use Rattle.law_encoding.specs.Sizes.{sum_of}
use Rattle.law_encoding.specs.Fits.{few_entries, max_bytes}
use Rattle.law_encoding.specs.ImportsRoom.{imported_length, NamesAreShort}
use Rattle.law_encoding.specs.NamesRoom.{is_short_name, few_names}
use Rattle.law_encoding.proofs.Names.{ascii_fits}
use Rattle.law_encoding.proofs.CodeFits.{both_true}

-- ---- letters and digits

run_case : (s l d q : Bool) → in_run (if s then Space else if l then Letter else if d then Digit else if q then Quote
    else Other) ≡ true → (l ≡ true) ⊎ (d ≡ true)
run_case true l d q e = absurd cc
run_case false true d q e = inl refl
run_case false false true q e = inr refl
run_case false false false true e = absurd cc
run_case false false false false e = absurd cc

in_range : (a n b : ℕ) → (nat_le a n && nat_le n b) ≡ true → n ≤ b
in_range a n b e = leb-true n b (and_parts (nat_le a n) (nat_le n b) e).1

either_case : (a b : Bool) → (a || b) ≡ true → (a ≡ true) ⊎ (b ≡ true)
either_case true b e = inl refl
either_case false b e = inr e

below : (n m : ℕ) → n ≤ m → m ≤ 127 → n < 128
below n m h l = omega (arith, h, l)

letter_low : (b : ℕ) → (nat_le 65 b && nat_le b 90 ≡ true) ⊎ (nat_le 97 b && nat_le b 122 ≡ true) → b < 128
letter_low b (inl e) = below b 90 (in_range 65 b 90 e) (omega arith)
letter_low b (inr e) = below b 122 (in_range 97 b 122 e) (omega arith)

byte_low : (b : ℕ) → (is_letter b ≡ true) ⊎ (is_digit b ≡ true) → b < 128
byte_low b (inl e) = letter_low b (either_case (nat_le 65 b && nat_le b 90) (nat_le 97 b && nat_le b 122) e)
byte_low b (inr e) = below b 57 (in_range 48 b 57 e) (omega arith)

run_low : (b : ℕ) → is_run_byte b ≡ true → nat_lt b 128 ≡ true
unfolding class
run_low b e = lt-ltb b 128 (byte_low b (run_case (is_space b) (is_letter b) (is_digit b) (is_quote b) e))

bytes_low : (bs : List ℕ) → list_all is_run_byte bs ≡ true → list_all (λ b. nat_lt b 128) bs ≡ true
bytes_low [] e = refl
bytes_low (b ∷ bs) e = let both = and_parts (is_run_byte b) (list_all is_run_byte bs) e in
    both_true _ _ (run_low b both.0) (bytes_low bs both.1)

name_low : (w : Text) → IsRun Letter w → list_all (λ b. nat_lt b 128) w ≡ true
name_low [] h = absurd h
name_low (b ∷ bs) h = both_true _ _ (run_low b (ap in_run h.0)) (bytes_low bs h.1)

-- ---- tokens

abbrev is_short : Token → Bool
is_short t = is_short_name (name_said t.lexeme)

abbrev AreShort : List Token → Type 0
AreShort ts = AllByRecursion (λ t. is_short t ≡ true) ts

lexeme_short : (w : Text) (l : Lexeme) → forms.Spells w l → is_short_name (name_said l) ≡ true
lexeme_short w (lexeme.Name n) h = subst (λ (v : Text). is_short_name v ≡ true) (sym h.3)
    (both_true _ _ (name_low w h.0) (le-leb (length w) max_name h.1))
lexeme_short w (lexeme.Number n) h = refl
lexeme_short w (lexeme.Char c) h = refl
lexeme_short w (lexeme.Text text) h = refl
lexeme_short w (lexeme.Symbol s) h = refl
lexeme_short w lexeme.End h = refl

members_short : (text front : Text) (ms : List Member) (rest : Text) → Divides text ms rest
    → AreShort (tokens_behind front ms)
members_short text front [] rest h = tt
members_short text front ((w, None) ∷ ms) rest h = members_short h.0 (front ++ w) ms rest h.4
members_short text front ((w, Some t) ∷ ms) rest h = (lexeme_short w t h.3, members_short h.0 (front ++ w) ms rest h.4)

with_end : (ts : List Token) (t : Token) → AreShort ts → is_short t ≡ true → AreShort (ts ++ t ∷ [])
with_end [] t h k = (k, tt)
with_end (x ∷ ts) t h k = (h.0, with_end ts t h.1 k)

tokens_short : (text : Text) (ts : List Token) → HasTokens text ts → AreShort ts
tokens_short text ts h = subst (λ (us : List Token). AreShort us) (sym h.2)
    (with_end (tokens_behind [] h.0) (record { lexeme = lexeme.End; pos = place text })
    (members_short text [] h.0 [] h.1) refl)

front_short : (ts us : List Token) → AreShort (ts ++ us) → AreShort ts
front_short [] us h = tt
front_short (t ∷ ts) us h = (h.0, front_short ts us h.1)

rest_short : (ts us : List Token) → AreShort (ts ++ us) → AreShort us
rest_short [] us h = h
rest_short (t ∷ ts) us h = rest_short ts us h.1

-- ---- the grammar

abbrev Named : (r : Rule) → Ast r → Type 0
Named module_rule x = is_short_name x.name.name ≡ true
Named _ x = Unit {0}

abbrev NamesIn : (a : Ty) → El a → Type 0
NamesIn token x = is_short x ≡ true
NamesIn (ast r) x = Named r x
NamesIn (both a b) x = NamesIn a x.0 × NamesIn b x.1
NamesIn (either a b) x = EitherFits (NamesIn a) (NamesIn b) x
NamesIn (maybe a) x = MaybeFits (NamesIn a) x
NamesIn (list a) x = AllByRecursion (NamesIn a) x

module_named : (x : El (grammar module_rule).shape) → NamesIn (grammar module_rule).shape x
    → is_short_name (module_of x).name.name ≡ true
module_named (inl p) h = h.0
module_named (inr p) h = h.1.0

tree_named : (r : Rule) (x : El (grammar r).shape) → NamesIn (grammar r).shape x → Named r (tree r x)
tree_named module_rule x h = module_named x h
tree_named import_rule x h = tt
tree_named idents_rule x h = tt
tree_named def_rule x h = tt
tree_named block_rule x h = tt
tree_named decl_rule x h = tt
tree_named constant_rule x h = tt
tree_named type_decl_rule x h = tt
tree_named variables_rule x h = tt
tree_named formals_rule x h = tt
tree_named section_rule x h = tt
tree_named formal_rule x h = tt
tree_named qual_rule x h = tt
tree_named simple_rule x h = tt
tree_named type_rule x h = tt
tree_named dims_rule x h = tt
tree_named parameter_rule x h = tt
tree_named field_rule x h = tt
tree_named stmts_rule x h = tt
tree_named stmt_rule x h = tt
tree_named rest_rule x h = tt
tree_named arm_rule x h = tt
tree_named item_rule x h = tt
tree_named desig_rule x h = tt
tree_named selectors_rule x h = tt
tree_named args_rule x h = tt
tree_named expr_rule x h = tt
tree_named sum_rule x h = tt
tree_named term_rule x h = tt
tree_named factor_rule x h = tt
tree_named set_rule x h = tt

spelled_named : {a : Ty} {g : Gr a} {x : El a} {ts : List Token} → Spells a g x ts → AreShort ts → NamesIn a x
spelled_named (one i) h = h.0
spelled_named (made {r = r} {x = x} d) h = tree_named r x (spelled_named d h)
spelled_named (pair {ts = ts} {us = us} d c) h =
    (spelled_named d (front_short ts us h), spelled_named c (rest_short ts us h))
spelled_named (left d) h = spelled_named d h
spelled_named (right d) h = spelled_named d h
spelled_named (before k d) h = spelled_named d h.1
spelled_named (behind {ts = ts} t d k) h = spelled_named d (front_short ts (t ∷ []) h)
spelled_named absent h = tt
spelled_named (there_is d) h = spelled_named d h
spelled_named none h = tt
spelled_named (more {ts = ts} {us = us} d c) h =
    (spelled_named d (front_short ts us h), spelled_named c (rest_short ts us h))
spelled_named (nested d) h = spelled_named d h
spelled_named (closed {ts = ts} t u k d l) h = (h.0, spelled_named d (front_short ts (u ∷ []) h.1))

pub text_named : (text : List ℕ) (ts : List Token) (m : Module) → HasTokens text ts → IsModule ts m
    → is_short_name m.name.name ≡ true
text_named text ts m t d = spelled_named d (tokens_short text ts t)

-- ---- room

short_parts : (n : List ℕ) → is_short_name n ≡ true → (list_all (λ b. nat_lt b 128) n ≡ true) × (length n ≤ 64)
short_parts n e = let both = and_parts (list_all (λ b. nat_lt b 128) n) (nat_le (length n) max_name) e in
    (both.0, leb-true (length n) max_name both.1)

short_sum : (n : ℕ) → n ≤ 64 → n < max_bytes
short_sum n h = omega (arith, h)

few_sum : (n : ℕ) → n ≤ 64 → n ≤ few_entries
few_sum n h = omega (arith, h)

pub short_fits : (n : List ℕ) → is_short_name n ≡ true → name.fits n ≡ true
short_fits n e = let s = short_parts n e in ascii_fits n s.0 (short_sum (length n) s.1)

more_sum : (n s k : ℕ) → n ≤ 64 → s ≤ 64 * k → n + s ≤ 64 * suc k
more_sum n s k h l = omega (arith, h, l)

module _ {A : Type 0} (called : A → List ℕ) where
  pub all_fit : (xs : List A) → list_all (λ x. is_short_name (called x)) xs ≡ true
      → list_all (λ x. name.fits (called x)) xs ≡ true
  all_fit [] e = refl
  all_fit (x ∷ xs) e = let both = and_parts (is_short_name (called x)) (list_all (λ y. is_short_name (called y)) xs) e
      in both_true _ _ (short_fits (called x) both.0) (all_fit xs both.1)

  pub all_sum : (xs : List A) → list_all (λ x. is_short_name (called x)) xs ≡ true
      → sum_of (λ x. length (called x)) xs ≤ 64 * length xs
  all_sum [] e = omega arith
  all_sum (x ∷ xs) e =
      let both = and_parts (is_short_name (called x)) (list_all (λ y. is_short_name (called y)) xs) e in
      more_sum (length (called x)) (sum_of (λ y. length (called y)) xs) (length xs) (short_parts (called x) both.0).1
      (all_sum xs both.1)

pub sum_few : (s n : ℕ) → s ≤ 64 * n → n ≤ few_names → s ≤ few_entries
sum_few s n h l = omega (arith, h, l)

pub count_few : (n : ℕ) → n ≤ few_names → n ≤ few_entries
count_few n h = omega (arith, h)

pub names_room : (m : TypedModule) → is_short_name m.name ≡ true → list_all (λ i. is_short_name i.name) m.imports ≡ true
    → length m.imports ≤ few_names → NamesAreShort m
names_room m own others few = record {
  own = short_fits m.name own;
  own_length = few_sum (length m.name) (short_parts m.name own).1;
  names = all_fit (λ i. i.name) m.imports others;
  lengths = sum_few (sum_of imported_length m.imports) (length m.imports) (all_sum (λ i. i.name) m.imports others) few;
  count = count_few (length m.imports) few;
}
