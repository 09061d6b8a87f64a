-- Every text has tokens or a refusal.
use Rattle.std.proofs.Common.{◌≡◌, ◌≤◌, ◌<◌, ℕ, zero, suc, List, [], ◌∷◌, ◌++◌, length, Option, Some, Result, Ok, Err, ◌⊎◌, inl, inr, refl, ap, length-append, arith}
use Rattle.std.proofs.lemmas.Bool.{cases_lt}
use Rattle.m2_tree.specs.declared.pos.Pos.{Pos}
use Rattle.m2_tree.specs.declared.token.Token.{Token}
use Rattle.m2_tree.specs.declared.token.Lexeme.{Lexeme}
use Rattle.m2_tree.specs.declared.token.Lexeme.TheVariants as lexeme
use Rattle.scan_tokens.specs.declared.refusal.TokenRule.TheVariants.{TooLong}
use Rattle.scan_tokens.specs.declared.refusal.ScanRefusal.{ScanRefusal}
use Rattle.scan_tokens.specs.declared.refusal.ScanError.TheVariants.{Refused}
use Rattle.scan_tokens.specs.Bytes.{Text}
use Rattle.scan_tokens.specs.Division.{tokens_at, max_text}
use Rattle.scan_tokens.specs.Steps.{Takes}
use Rattle.scan_tokens.proofs.Scanned.{Scanned, begins, goes_on, ends, stops, tokens_once, never_both, too_long}
use Rattle.scan_tokens.proofs.Refusals.{one_refusal}
use Rattle.law_texts.specs.Laws.{IsScanned, TextsAreScanned}
use Rattle.law_texts.proofs.Members.{Cut, cut}

abbrev Answer : Text → Type 0
Answer text = (r : Result (List Token) ScanRefusal) × IsScanned text r

less_left : (bound : ℕ) (rest after : Text) (pos next : Pos) (m : Option Lexeme) → length rest ≤ suc bound
    → Takes rest pos m after next → length after ≤ bound
less_left bound rest after pos next m le h = omega (arith, le, h.2, ap length h.1, length-append h.0 after)

-- one member more and what follows, or what is refused
take_member : (text rest : Text) (pos : Pos) (tokens : List Token) → Scanned text rest pos tokens → Cut rest pos
    → ((m : Option Lexeme) (after : Text) (next : Pos) → Takes rest pos m after next
    → Scanned text after next (tokens ++ tokens_at pos m) → Answer text) → Answer text
take_member text rest pos tokens s (inl h) follows =
    follows h.0 h.1 h.2 h.3 (goes_on text rest pos tokens h.0 h.1 h.2 (tokens ++ tokens_at pos h.0) s h.3 refl)
take_member text rest pos tokens s (inr h) follows = (Err h.0, stops text rest pos tokens (Refused h.0) s h.1)

-- the bound is one of what is left
scan_rest : (bound : ℕ) (text rest : Text) (pos : Pos) (tokens : List Token) → length rest ≤ bound
    → Scanned text rest pos tokens → Answer text
scan_rest bound text [] pos tokens le s = (
  Ok (tokens ++ tokens_at pos (Some lexeme.End)),
  (s.small, ends text [] pos tokens (tokens ++ tokens_at pos (Some lexeme.End)) s refl refl),
)
scan_rest zero text (b ∷ bs) pos tokens le s = absurd (omega (arith, le))
scan_rest (suc bound) text (b ∷ bs) pos tokens le s =
    take_member text (b ∷ bs) pos tokens s (cut b bs pos)
    (λ m after next h more. scan_rest bound text after next (tokens ++ tokens_at pos m)
    (less_left bound (b ∷ bs) after pos next m le h) more)

length_refusal : ScanRefusal
length_refusal = record { pos = record { line = 1; col = 1 }; broken = TooLong }

scan_text : (text : Text) → (max_text < length text) ⊎ (length text ≤ max_text) → Answer text
unfolding length_refusal
scan_text text (inl long) = (Err length_refusal, too_long text (Refused length_refusal) long refl)
scan_text text (inr short) = scan_rest (length text) text text (record { line = 1; col = 1 }) [] (omega arith)
    (begins text short)

one_answer : (text : Text) (r q : Result (List Token) ScanRefusal) → IsScanned text r → IsScanned text q → q ≡ r
one_answer text (Ok ts) (Ok us) h k = ap Ok (tokens_once text us ts k.1 h.1)
one_answer text (Ok ts) (Err q) h k = absurd (never_both text ts q h.0 h.1 k)
one_answer text (Err r) (Ok us) h k = absurd (never_both text us r k.0 k.1 h)
one_answer text (Err r) (Err q) h k = ap Err (one_refusal text q r k h)

pub texts_are_scanned : TextsAreScanned
texts_are_scanned text =
    let a = scan_text text (cases_lt max_text (length text)) in
    (a.0, record { has = a.1; none_else = λ q h. one_answer text a.0 q a.1 h })
