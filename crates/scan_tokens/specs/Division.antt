-- The tokens of a text, and what is refused in one.
use Rattle.std.specs.Prelude.{◌≡◌, ◌≤◌, ◌<◌, ℕ, ◌+◌, true, false, not, List, [], ◌∷◌, ◌++◌, length, Option, Some, None, ◌⊎◌}
use Rattle.std.specs.List.{list_all, count_by, suffix_len}
use Rattle.m2_tree.specs.declared.pos.Pos.{Pos}
use Rattle.m2_tree.specs.declared.token.Token.{Token}
use Rattle.m2_tree.specs.declared.token.Lexeme.{Lexeme}
use Rattle.m2_tree.specs.declared.token.Lexeme.TheVariants as lexeme
use Rattle.m2_tree.specs.Limits.{max_name}
use Rattle.scan_tokens.specs.declared.class.Class.TheVariants.{Letter, Digit, Quote}
use Rattle.scan_tokens.specs.declared.number.Numeral.{Numeral}
use Rattle.scan_tokens.specs.declared.refusal.TokenRule.{TokenRule}
use Rattle.scan_tokens.specs.declared.refusal.TokenRule.TheVariants.{TooLong, StrayByte, OpenComment, OpenString, BadNumber, LargeNumber, LongName}
use Rattle.scan_tokens.specs.declared.refusal.ScanRefusal.{ScanRefusal}
use Rattle.scan_tokens.specs.Bytes.{Text, class, is_inside, is_printable, is_line_end}
use Rattle.scan_tokens.specs.Forms.{IsRun, IsQuoted, IsClosed, IsForm, IsLongest, IsMember, Member}
use Rattle.scan_tokens.specs.Numbers.{Writes, limit}

-- the place behind these bytes of a text: one line more than there are ends of lines, and one
-- column more than there are bytes behind the last of them
unfoldable pub place : Text → Pos
place front = record {
  line = count_by is_line_end front + 1;
  col = suffix_len (λ b. not (is_line_end b)) front + 1;
}

-- ---- division

-- Up to this rest the text is these members, one after another, and none of them could be longer.
abbrev pub Divides : Text → List Member → Text → Type 0
Divides text [] rest = text ≡ rest
Divides text (m ∷ ms) rest =
    (more : Text) × (text ≡ m.0 ++ more) × IsLongest m.0 more × IsMember m × Divides more ms rest

abbrev pub bytes_of : List Member → Text
bytes_of [] = []
bytes_of (m ∷ ms) = m.0 ++ bytes_of ms

-- what a member at this place adds to the tokens: a token, or nothing
abbrev pub tokens_at : Pos → Option Lexeme → List Token
tokens_at pos None = []
tokens_at pos (Some t) = record { lexeme = t; pos = pos } ∷ []

-- the tokens among the members, with their places behind these bytes
abbrev pub tokens_behind : Text → List Member → List Token
tokens_behind front [] = []
tokens_behind front (m ∷ ms) = tokens_at (place front) m.1 ++ tokens_behind (front ++ m.0) ms

-- The text divides, and these are its tokens, the last of which is its end.
abbrev pub HasTokens : Text → List Token → Type 0
HasTokens text ts =
    (ms : List Member) × Divides text ms []
    × (ts ≡ tokens_behind [] ms ++ tokens_at (place text) (Some lexeme.End))

-- The text before this place divides: `front` stands before it, and `rest` behind it.
abbrev pub Reaches : Text → Text → Text → Type 0
Reaches text front rest = (ms : List Member) × Divides text ms rest × (front ≡ bytes_of ms)

-- ---- refusals

abbrev pub max_text : ℕ
max_text = 1048576

-- a run of letters and digits that stands here as long as it is, before `more`
abbrev pub StandsRun : Text → Text → Text → Type 0
StandsRun rest w more = (rest ≡ w ++ more) × IsLongest w more

-- What is refused where `rest` is what is left: `before` stands between this place and the refused
-- one.
abbrev pub RefusesIn : TokenRule → Text → Text → Type 0
RefusesIn TooLong rest before = ⊥
-- a byte that begins no member, or one that may not stand in a string and stands in one
RefusesIn StrayByte rest before =
    ((b : ℕ) × (more : Text) × (rest ≡ b ∷ more) × (before ≡ [])
    × ((v : Text) → IsForm (b ∷ v) → ⊥))
    ⊎ ((q : ℕ) × (b : ℕ) × (inside : Text) × (more : Text)
    × (class q ≡ Quote)
    × (list_all (is_inside q) inside ≡ true)
    × (is_inside q b ≡ true)
    × (is_printable b ≡ false)
    × (rest ≡ q ∷ inside ++ b ∷ more)
    × (before ≡ q ∷ inside))
-- an opening that nothing closes
RefusesIn OpenComment rest before =
    (behind : Text) × (rest ≡ 40 ∷ 42 ∷ behind) × (before ≡ [])
    × ((bs more : Text) → behind ≡ bs ++ more → IsClosed bs → ⊥)
-- a quote that nothing closes on its line
RefusesIn OpenString rest before =
    (q : ℕ) × (behind : Text) × (class q ≡ Quote) × (rest ≡ q ∷ behind) × (before ≡ [])
    × ((w inside more : Text) → rest ≡ w ++ more → IsQuoted w inside → ⊥)
-- digits and letters that are no number
RefusesIn BadNumber rest before =
    (w : Text) × (more : Text) × StandsRun rest w more × IsRun Digit w × (before ≡ [])
    × ((form : Numeral) (n : ℕ) → Writes w form n → ⊥)
RefusesIn LargeNumber rest before =
    (w : Text) × (more : Text) × StandsRun rest w more × IsRun Digit w × (before ≡ [])
    × (form : Numeral) × (n : ℕ) × Writes w form n × (limit form ≤ n)
RefusesIn LongName rest before =
    (w : Text) × (more : Text) × StandsRun rest w more × IsRun Letter w × (before ≡ [])
    × (max_name < length w)

-- The text has this fault behind `front`.
abbrev pub HasFault : Text → TokenRule → Text → Type 0
HasFault text broken front =
    (reached : Text) × (rest : Text) × (before : Text) × Reaches text reached rest
    × RefusesIn broken rest before × (front ≡ reached ++ before)

-- The refusal of a text: that it is too long, or else the fault with the least place.
abbrev pub Refuses : Text → ScanRefusal → Type 0
Refuses text r =
    ((max_text < length text) × (r.broken ≡ TooLong) × (r.pos ≡ place []))
    ⊎ ((length text ≤ max_text)
    × (front : Text)
    × HasFault text r.broken front
    × (r.pos ≡ place front)
    × ((broken : TokenRule) (other : Text) → HasFault text broken other
    → length front ≤ length other))
