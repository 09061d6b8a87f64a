-- The names of a module that is read, its own and those of the modules that it imports, are texts.
use Rattle.std.proofs.Common.{◌≡◌, ◌⊎◌, inl, inr, ℕ, ◌<◌, ◌≤◌, length, true, List, [], ◌∷◌, ◌++◌, map, Option, Some, None, refl, sym, ap, subst, arith}
use Rattle.std.specs.Prelude.{option_map}
use Rattle.std.specs.List.{AllByRecursion, list_all, flat_map}
use Rattle.std.specs.Str.Lossy.{utf8_lossy}
use Rattle.std.proofs.lemmas.Bool.{and_from}
use Rattle.std.proofs.lemmas.List.Sums.{AllPass-from_list_all}
use Rattle.std.proofs.lemmas.List.Elements.{All-weaker}
use Rattle.std.proofs.lemmas.Str.{IsUtf8-from_ascii, utf8_lossy-IsUtf8}
use Rattle.std.proofs.lemmas.Str.Ascii.{IsAscii-from_all}
use Rattle.m2_tree.specs.declared.name.Ident.{Ident}
use Rattle.m2_tree.specs.declared.decl.Import.{Import}
use Rattle.m2_tree.specs.declared.decl.Module.{Module}
use Rattle.m2_tree.specs.declared.token.Lexeme.{Lexeme}
use Rattle.m2_tree.specs.declared.token.Lexeme.TheVariants as lexeme
use Rattle.m2_tree.specs.declared.token.Token.{Token}
use Rattle.scan_tokens.specs.declared.class.Class.TheVariants.{Letter}
use Rattle.scan_tokens.specs.Bytes.{Text, in_run, is_run_byte}
use Rattle.scan_tokens.specs.Forms.{IsRun, Member}
use Rattle.scan_tokens.specs.Forms as forms
use Rattle.scan_tokens.specs.Division.{place, Divides, tokens_behind, HasTokens}
use Rattle.def_grammar.specs.Rule.{Rule, Ast, module_rule, import_rule, idents_rule, def_rule, block_rule, decl_rule, constant_rule, type_decl_rule, variables_rule, formals_rule, section_rule, formal_rule, qual_rule, simple_rule, type_rule, dims_rule, parameter_rule, field_rule, stmts_rule, stmt_rule, rest_rule, arm_rule, item_rule, desig_rule, selectors_rule, args_rule, expr_rule, sum_rule, term_rule, factor_rule, set_rule}
use Rattle.def_grammar.specs.Grammar.{Ty, token, ast, both, either, maybe, list, El, Gr}
use Rattle.def_grammar.specs.Ebnf.{grammar}
use Rattle.def_grammar.specs.Trees.{name_said, name_of, ident_of, module_of, tree}
use Rattle.def_grammar.specs.Spelling.{Spells, one, made, pair, left, right, before, behind, absent, there_is, none, more, nested, closed}
use Rattle.def_grammar.specs.Refusal.{IsModule}
use Rattle.m2_graph.specs.Imports.{named_by, imports_of}
use Rattle.law_graph.proofs.Lists.{Among, none_among, among_cases}
use Rattle.build_jobs.specs.Reading.{HasTree}
use Rattle.build_jobs.proofs.Named.{run_bound}

-- ---- the names among tokens

-- letters and digits, 64 at most
abbrev pub IsRunWord : List ℕ → Type 0
IsRunWord name = (length name ≤ 64) × (list_all is_run_byte name ≡ true)

run_bytes : (w : Text) → IsRun Letter w → list_all is_run_byte w ≡ true
run_bytes [] h = absurd h
run_bytes (b ∷ bs) h = and_from (is_run_byte b) (list_all is_run_byte bs) (ap in_run h.0) h.1

none_named : IsRunWord []
none_named = (omega arith, refl)

lexeme_named : (w : Text) (l : Lexeme) → forms.Spells w l → IsRunWord (name_said l)
lexeme_named w (lexeme.Name n) h = subst IsRunWord (sym h.3) (h.1, run_bytes w h.0)
lexeme_named w (lexeme.Number n) h = none_named
lexeme_named w (lexeme.Char c) h = none_named
lexeme_named w (lexeme.Text text) h = none_named
lexeme_named w (lexeme.Symbol s) h = none_named
lexeme_named w lexeme.End h = none_named

abbrev IsNamed : Token → Type 0
IsNamed t = IsRunWord (name_of t)

abbrev AllNamed : List Token → Type 0
AllNamed ts = AllByRecursion IsNamed ts

members_named : (text front : Text) (ms : List Member) (rest : Text) → Divides text ms rest
    → AllNamed (tokens_behind front ms)
members_named text front [] rest h = tt
members_named text front ((w, None) ∷ ms) rest h = members_named h.0 (front ++ w) ms rest h.4
members_named text front ((w, Some t) ∷ ms) rest h = (lexeme_named w t h.3, members_named h.0 (front ++ w) ms rest h.4)

with_end : (ts : List Token) (t : Token) → AllNamed ts → IsNamed t → AllNamed (ts ++ t ∷ [])
with_end [] t h k = (k, tt)
with_end (x ∷ ts) t h k = (h.0, with_end ts t h.1 k)

tokens_named : (text : Text) (ts : List Token) → HasTokens text ts → AllNamed ts
tokens_named text ts h =
    subst AllNamed (sym h.2) (with_end (tokens_behind [] h.0) (record { lexeme = lexeme.End; pos = place text })
    (members_named text [] h.0 [] h.1) none_named)

-- ---- the names of a module, by induction over the grammar

abbrev pub AreWords : List Ident → Type 0
AreWords is = AllByRecursion (λ (i : Ident). IsRunWord i.name) is

abbrev ImportNamed : Import → Type 0
ImportNamed i = AreWords (named_by i.from i.names)

abbrev ModuleNamed : Module → Type 0
ModuleNamed m = IsRunWord m.name.name × AllByRecursion ImportNamed m.imports

abbrev TreeNamed : (r : Rule) → Ast r → Type 0
TreeNamed module_rule x = ModuleNamed x
TreeNamed import_rule x = ImportNamed x
TreeNamed idents_rule x = AreWords x
TreeNamed def_rule x = Unit {0}
TreeNamed block_rule x = Unit {0}
TreeNamed decl_rule x = Unit {0}
TreeNamed constant_rule x = Unit {0}
TreeNamed type_decl_rule x = Unit {0}
TreeNamed variables_rule x = Unit {0}
TreeNamed formals_rule x = Unit {0}
TreeNamed section_rule x = Unit {0}
TreeNamed formal_rule x = Unit {0}
TreeNamed qual_rule x = Unit {0}
TreeNamed simple_rule x = Unit {0}
TreeNamed type_rule x = Unit {0}
TreeNamed dims_rule x = Unit {0}
TreeNamed parameter_rule x = Unit {0}
TreeNamed field_rule x = Unit {0}
TreeNamed stmts_rule x = Unit {0}
TreeNamed stmt_rule x = Unit {0}
TreeNamed rest_rule x = Unit {0}
TreeNamed arm_rule x = Unit {0}
TreeNamed item_rule x = Unit {0}
TreeNamed desig_rule x = Unit {0}
TreeNamed selectors_rule x = Unit {0}
TreeNamed args_rule x = Unit {0}
TreeNamed expr_rule x = Unit {0}
TreeNamed sum_rule x = Unit {0}
TreeNamed term_rule x = Unit {0}
TreeNamed factor_rule x = Unit {0}
TreeNamed set_rule x = Unit {0}

abbrev MaybeNamed : {A : Type 0} → (A → Type 0) → Option A → Type 0
MaybeNamed P None = Unit {0}
MaybeNamed P (Some x) = P x

abbrev EitherNamed : {A B : Type 0} → (A → Type 0) → (B → Type 0) → A ⊎ B → Type 0
EitherNamed P Q (inl x) = P x
EitherNamed P Q (inr y) = Q y

abbrev PartNamed : (a : Ty) → El a → Type 0
PartNamed token t = IsNamed t
PartNamed (ast r) x = TreeNamed r x
PartNamed (both a b) p = PartNamed a p.0 × PartNamed b p.1
PartNamed (either a b) x = EitherNamed (PartNamed a) (PartNamed b) x
PartNamed (maybe a) x = MaybeNamed (PartNamed a) x
PartNamed (list a) xs = AllByRecursion (PartNamed a) xs

module_named : (x : El (grammar module_rule).shape) → PartNamed (grammar module_rule).shape x
    → TreeNamed module_rule (module_of x)
module_named (inl p) h = (h.0, h.1.0)
module_named (inr p) h = (h.1.0, h.1.1.0)

import_from : (o : Option Token) (is : List Ident) → MaybeNamed IsNamed o → AreWords is
    → AreWords (named_by (option_map ident_of o) is)
import_from None is h k = k
import_from (Some t) is h k = (h, tt)

idents_named : (ts : List Token) → AllNamed ts → AreWords (map ident_of ts)
idents_named [] h = tt
idents_named (t ∷ ts) h = (h.0, idents_named ts h.1)

tree_named : (r : Rule) (x : El (grammar r).shape) → PartNamed (grammar r).shape x → TreeNamed r (tree r x)
tree_named module_rule x h = module_named x h
tree_named import_rule x h = import_from x.0 x.1 h.0 h.1
tree_named idents_rule x h = (h.0, idents_named x.1 h.1)
tree_named def_rule x h = tt
tree_named block_rule x h = tt
tree_named decl_rule x h = tt
tree_named constant_rule x h = tt
tree_named type_decl_rule x h = tt
tree_named variables_rule x h = tt
tree_named formals_rule x h = tt
tree_named section_rule x h = tt
tree_named formal_rule x h = tt
tree_named qual_rule x h = tt
tree_named simple_rule x h = tt
tree_named type_rule x h = tt
tree_named dims_rule x h = tt
tree_named parameter_rule x h = tt
tree_named field_rule x h = tt
tree_named stmts_rule x h = tt
tree_named stmt_rule x h = tt
tree_named rest_rule x h = tt
tree_named arm_rule x h = tt
tree_named item_rule x h = tt
tree_named desig_rule x h = tt
tree_named selectors_rule x h = tt
tree_named args_rule x h = tt
tree_named expr_rule x h = tt
tree_named sum_rule x h = tt
tree_named term_rule x h = tt
tree_named factor_rule x h = tt
tree_named set_rule x h = tt

front_named : (ts us : List Token) → AllNamed (ts ++ us) → AllNamed ts
front_named [] us h = tt
front_named (t ∷ ts) us h = (h.0, front_named ts us h.1)

rest_named : (ts us : List Token) → AllNamed (ts ++ us) → AllNamed us
rest_named [] us h = h
rest_named (t ∷ ts) us h = rest_named ts us h.1

spelled_named : {a : Ty} {g : Gr a} {x : El a} {ts : List Token} → Spells a g x ts → AllNamed ts → PartNamed a x
spelled_named (one i) h = h.0
spelled_named (made {r = r} {x = x} d) h = tree_named r x (spelled_named d h)
spelled_named (pair {ts = ts} {us = us} d c) h =
    (spelled_named d (front_named ts us h), spelled_named c (rest_named ts us h))
spelled_named (left d) h = spelled_named d h
spelled_named (right d) h = spelled_named d h
spelled_named (before k d) h = spelled_named d h.1
spelled_named (behind {ts = ts} t d k) h = spelled_named d (front_named ts (t ∷ []) h)
spelled_named absent h = tt
spelled_named (there_is d) h = spelled_named d h
spelled_named none h = tt
spelled_named (more {ts = ts} {us = us} d c) h =
    (spelled_named d (front_named ts us h), spelled_named c (rest_named ts us h))
spelled_named (nested d) h = spelled_named d h
spelled_named (closed {ts = ts} t u k d l) h = (h.0, spelled_named d (front_named ts (u ∷ []) h.1))

whole_named : (ts : List Token) (m : Module) → AllNamed ts → IsModule ts m → ModuleNamed m
whole_named ts m h d = spelled_named d h

-- ---- what is read

words_append : (is js : List Ident) → AreWords is → AreWords js → AreWords (is ++ js)
words_append [] js h k = k
words_append (i ∷ is) js h k = (h.0, words_append is js h.1 k)

imports_words : (is : List Import) → AllByRecursion ImportNamed is
    → AreWords (flat_map (λ (i : Import). named_by i.from i.names) is)
imports_words [] h = tt
imports_words (i ∷ is) h = words_append (named_by i.from i.names)
    (flat_map (λ (i : Import). named_by i.from i.names) is) h.0 (imports_words is h.1)

-- A module's name is a word, and so are those that it imports.
pub record HasWords (m : Module) : Type 0 where
  pub name : IsRunWord m.name.name
  pub imports : AreWords (imports_of m)

pub read_words : (text : List ℕ) (m : Module) → HasTree text m → HasWords m
read_words text m h =
    let w = whole_named h.tokens m (tokens_named text h.tokens h.divides.divides) h.is_tree.0 in
    record { name = w.0; imports = imports_words m.imports w.1 }

-- ---- words are texts

pub word_text : (name : List ℕ) → IsRunWord name → utf8_lossy name ≡ name
word_text name h =
    utf8_lossy-IsUtf8 name (IsUtf8-from_ascii name (IsAscii-from_all name
    (All-weaker (λ b. is_run_byte b ≡ true) (λ b. b < 128) (λ b w. let l = run_bound b w in omega (arith, l.1)) name
    (AllPass-from_list_all is_run_byte name h.1))))

pub words_short : (is : List Ident) → AreWords is → (n : List ℕ) → Among (map (λ (i : Ident). i.name) is) n
    → length n ≤ 64
words_short [] h n a = absurd (none_among n a)
words_short (i ∷ is) h n a = elim (among_cases i.name (map (λ (j : Ident). j.name) is) n a) [
  | inl e ↦ subst (λ (m : List ℕ). length m ≤ 64) e h.0.0
  | inr later ↦ words_short is h.1 n later
]
