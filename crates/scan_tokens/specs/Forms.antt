-- What the members of a text look like, and what they say.
use Rattle.std.specs.Prelude.{◌≡◌, ◌≢◌, ◌≤◌, ◌<◌, ℕ, ◌^◌, true, [], ◌∷◌, ◌++◌, length, Option, Some, None, ◌⊎◌}
use Rattle.std.specs.List.{list_all}
use Rattle.m2_tree.specs.declared.token.Symbol.{Symbol}
use Rattle.m2_tree.specs.declared.token.Lexeme.{Lexeme}
use Rattle.m2_tree.specs.declared.token.Lexeme.TheVariants as lexeme
use Rattle.m2_tree.specs.Limits.{max_name}
use Rattle.scan_tokens.specs.declared.class.Class.{Class}
use Rattle.scan_tokens.specs.declared.class.Class.TheVariants.{Space, Letter, Digit, Quote}
use Rattle.scan_tokens.specs.declared.number.Numeral.{Numeral}
use Rattle.scan_tokens.specs.declared.number.Numeral.TheVariants.{Code}
use Rattle.scan_tokens.specs.Bytes.{Text, class, is_run_byte, is_printable, is_inside}
use Rattle.scan_tokens.specs.Numbers.{Writes}
use Rattle.scan_tokens.specs.Symbols.{word_of, sign_of}

-- letters and digits, of which the first is of this class
abbrev pub IsRun : Class → Text → Type 0
IsRun k [] = ⊥
IsRun k (b ∷ bs) = (class b ≡ k) × (list_all is_run_byte bs ≡ true)

-- a quote, what stands inside on one line, and the same quote
abbrev pub IsQuoted : Text → Text → Type 0
IsQuoted w inside =
    (q : ℕ) × (class q ≡ Quote) × (list_all (is_inside q) inside ≡ true)
    × (w ≡ q ∷ inside ++ q ∷ [])

-- `(*` and `*)`
abbrev pub opening : Text
opening = 40 ∷ 42 ∷ []

abbrev pub closing : Text
closing = 42 ∷ 41 ∷ []

-- What follows an opening, up to its closing: the closing, or a byte with which neither of the two
-- begins, or a comment, and behind these two again what follows an opening.
pub data IsClosed : Text → Type 0 where
  close : IsClosed (42 ∷ 41 ∷ [])
  other : (b c : ℕ) (bs : Text) → (b ∷ c ∷ [] ≢ opening) → (b ∷ c ∷ [] ≢ closing)
      → IsClosed (c ∷ bs) → IsClosed (b ∷ c ∷ bs)
  inner : (bs cs : Text) → IsClosed bs → IsClosed cs → IsClosed (40 ∷ 42 ∷ bs ++ cs)

-- The bytes look like a member, whether or not they are allowed: a space, a name or a number of any
-- length, a string of any bytes, an operator or delimiter, a comment, or the opening of one.
pub data IsForm : Text → Type 0 where
  space : (b : ℕ) → class b ≡ Space → IsForm (b ∷ [])
  name : (w : Text) → IsRun Letter w → IsForm w
  number : (w : Text) → IsRun Digit w → IsForm w
  quoted : (w inside : Text) → IsQuoted w inside → IsForm w
  sign : (w : Text) (s : Symbol) → sign_of w ≡ Some s → IsForm w
  comment : (bs : Text) → IsClosed bs → IsForm (40 ∷ 42 ∷ bs)
  opened : IsForm (40 ∷ 42 ∷ [])

-- Before this rest the bytes are a form, and none that begins where they do is longer.
pub record IsLongest (w rest : Text) : Type 0 where
  pub form : IsForm w
  pub longest : (v more : Text) → w ++ rest ≡ v ++ more → IsForm v → length v ≤ length w

abbrev pub IsSpace : Text → Type 0
IsSpace w = (b : ℕ) × (class b ≡ Space) × (w ≡ b ∷ [])

abbrev pub IsComment : Text → Type 0
IsComment w = (bs : Text) × IsClosed bs × (w ≡ opening ++ bs)

-- The bytes are this token.
abbrev pub Spells : Text → Lexeme → Type 0
Spells w (lexeme.Name n) = IsRun Letter w × (length w ≤ max_name) × (word_of w ≡ None) × (n ≡ w)
Spells w (lexeme.Number n) =
    IsRun Digit w × ((form : Numeral) × (form ≢ Code) × Writes w form n) × (n < 2 ^ 32)
Spells w (lexeme.Char c) = IsRun Digit w × Writes w Code c × (c < 256)
Spells w (lexeme.Text inside) = IsQuoted w inside × (list_all is_printable inside ≡ true)
Spells w (lexeme.Symbol s) = (word_of w ≡ Some s) ⊎ (sign_of w ≡ Some s)
Spells w lexeme.End = ⊥

-- the bytes of a space, a comment or a token, and the token
abbrev pub Member : Type 0
Member = Text × Option Lexeme

abbrev pub IsMember : Member → Type 0
IsMember (w, None) = IsSpace w ⊎ IsComment w
IsMember (w, Some t) = Spells w t
