-- A module that is read has a name.
use Rattle.std.proofs.Common.{◌≡◌, ◌⊎◌, inl, inr, ℕ, List, [], ◌∷◌, ◌++◌, Some, None, refl, sym, ap, subst, ◌∙◌}
use Rattle.std.specs.List.{AllByRecursion}
use Rattle.m2_tree.specs.declared.decl.Module.{Module}
use Rattle.m2_tree.specs.declared.token.Lexeme.{Lexeme}
use Rattle.m2_tree.specs.declared.token.Lexeme.TheVariants as lexeme
use Rattle.m2_tree.specs.declared.token.Token.{Token}
use Rattle.scan_tokens.specs.declared.class.Class.TheVariants.{Letter}
use Rattle.scan_tokens.specs.Bytes.{Text}
use Rattle.scan_tokens.specs.Forms.{IsRun, Member}
use Rattle.scan_tokens.specs.Forms as forms
use Rattle.scan_tokens.specs.Division.{place, Divides, tokens_behind, HasTokens}
use Rattle.def_grammar.specs.declared.kind.Kind.TheVariants as the
use Rattle.def_grammar.specs.Kinds.{kind_of, kind_said}
use Rattle.def_grammar.specs.Rule.{Rule, Ast, module_rule}
use Rattle.def_grammar.specs.Grammar.{Ty, ast, El, Gr, tok, rule, ◌·◌, ◌∣◌, lead, trail, opt, many, nest, named}
use Rattle.def_grammar.specs.Ebnf.{grammar}
use Rattle.def_grammar.specs.Trees.{name_said, name_of, module_of, tree}
use Rattle.def_grammar.specs.Spelling.{Spells, one, made, pair, left, right, before, behind, absent, there_is, none, more, nested, closed}
use Rattle.build_jobs.specs.Reading.{HasTree}

-- ---- the names among tokens

-- if it is a name, it is not empty
abbrev Says : Token → Type 0
Says t = kind_of t ≡ the.Name → name_of t ≡ [] → ⊥

abbrev AllSay : List Token → Type 0
AllSay ts = AllByRecursion Says ts

no_run : (w : Text) → IsRun Letter w → w ≡ [] → ⊥
no_run [] h e = h
no_run (b ∷ bs) h e = cc

lexeme_says : (w : Text) (l : Lexeme) → forms.Spells w l → kind_said l ≡ the.Name → name_said l ≡ [] → ⊥
lexeme_says w (lexeme.Name n) h k e = no_run w h.0 (sym h.3 ∙ e)
lexeme_says w (lexeme.Number n) h k e = cc
lexeme_says w (lexeme.Char c) h k e = cc
lexeme_says w (lexeme.Text text) h k e = cc
lexeme_says w (lexeme.Symbol s) h k e = cc
lexeme_says w lexeme.End h k e = cc

members_say : (text front : Text) (ms : List Member) (rest : Text) → Divides text ms rest
    → AllSay (tokens_behind front ms)
members_say text front [] rest h = tt
members_say text front ((w, None) ∷ ms) rest h = members_say h.0 (front ++ w) ms rest h.4
members_say text front ((w, Some t) ∷ ms) rest h = (lexeme_says w t h.3, members_say h.0 (front ++ w) ms rest h.4)

with_end : (ts : List Token) (t : Token) → AllSay ts → Says t → AllSay (ts ++ t ∷ [])
with_end [] t h k = (k, tt)
with_end (x ∷ ts) t h k = (h.0, with_end ts t h.1 k)

tokens_say : (text : Text) (ts : List Token) → HasTokens text ts → AllSay ts
tokens_say text ts h =
    subst AllSay (sym h.2) (with_end (tokens_behind [] h.0) (record { lexeme = lexeme.End; pos = place text })
    (members_say text [] h.0 [] h.1) (λ k e. cc))

front_says : (ts us : List Token) → AllSay (ts ++ us) → AllSay ts
front_says [] us h = tt
front_says (t ∷ ts) us h = (h.0, front_says ts us h.1)

rest_says : (ts us : List Token) → AllSay (ts ++ us) → AllSay us
rest_says [] us h = h
rest_says (t ∷ ts) us h = rest_says ts us h.1

-- ---- names before and behind a part

abbrev EitherOpens : {A B : Type 0} → (A → Type 0) → (B → Type 0) → A ⊎ B → Type 0
EitherOpens P Q (inl x) = P x
EitherOpens P Q (inr y) = Q y

abbrev Opens : {a : Ty} → (g : Gr a) → El a → Type 0
Opens (tok k ks) x = Unit {0}
Opens (rule r) x = Unit {0}
Opens (g · h) x = Opens g x.0 × Opens h x.1
Opens (g ∣ h) x = EitherOpens (Opens g) (Opens h) x
Opens (lead k g) x = Opens g x
Opens (trail g k) x = Opens g x
Opens (opt g) x = Unit {0}
Opens (many g) x = Unit {0}
Opens (nest g) x = Opens g x
Opens (named g) x = (name_of x.0 ≡ [] → ⊥) × Opens g x.1

opens : {a : Ty} {g : Gr a} {x : El a} {ts : List Token} → Spells a g x ts → AllSay ts → Opens g x
opens (one i) h = tt
opens (made d) h = tt
opens (pair {ts = ts} {us = us} d c) h = (opens d (front_says ts us h), opens c (rest_says ts us h))
opens (left d) h = opens d h
opens (right d) h = opens d h
opens (before k d) h = opens d h.1
opens (behind {ts = ts} t d k) h = opens d (front_says ts (t ∷ []) h)
opens absent h = tt
opens (there_is d) h = tt
opens none h = tt
opens (more d c) h = tt
opens (nested d) h = opens d h
opens (closed {ts = ts} t u k d l) h = (h.0 k, opens d (front_says ts (u ∷ []) h.1))

-- ---- modules

unmade : {r : Rule} {m : Ast r} {ts : List Token} → Spells (ast r) (rule r) m ts → AllSay ts
    → (x : El (grammar r).shape) × Opens (grammar r).form x × (tree r x ≡ m)
unmade (made {x = x} d) h = (x, opens d h, refl)

module_named : (x : El (grammar module_rule).shape) → Opens (grammar module_rule).form x
    → (module_of x).name.name ≡ [] → ⊥
module_named (inl p) h = h.0
module_named (inr p) h = h.1.0

pub has_name : (text : List ℕ) (m : Module) → HasTree text m → m.name.name ≡ [] → ⊥
has_name text m h e =
    let u = unmade h.is_tree.0 (tokens_say text h.tokens h.divides.divides) in
    module_named u.0 u.1 (ap (λ (x : Module). x.name.name) u.2 ∙ e)
