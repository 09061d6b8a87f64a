-- What the parts of the scanner say to one another. No public contract speaks of it.
use Rattle.std.specs.Prelude.{◌≡◌, ◌≢◌, ◌≤◌, ◌<◌, ℕ, ◌+◌, ◌^◌, ◌==◌, true, false, List, [], ◌∷◌, ◌++◌, length, Option, Some, None, if◌then◌else◌}
use Rattle.std.specs.List.{list_all}
use Rattle.m2_tree.specs.declared.pos.Pos.{Pos}
use Rattle.m2_tree.specs.declared.token.Token.{Token}
use Rattle.m2_tree.specs.declared.token.Lexeme.{Lexeme}
use Rattle.m2_tree.specs.declared.token.Symbol.{Symbol}
use Rattle.scan_tokens.specs.declared.class.Class.{Class}
use Rattle.scan_tokens.specs.declared.number.Numeral.{Numeral}
use Rattle.scan_tokens.specs.declared.number.Numeral.TheVariants.{Decimal, Octal, Hexadecimal, Code}
use Rattle.scan_tokens.specs.declared.refusal.TokenRule.{TokenRule}
use Rattle.scan_tokens.specs.declared.refusal.TokenRule.TheVariants.{BadNumber, LargeNumber}
use Rattle.scan_tokens.specs.declared.refusal.ScanError.{ScanError}
use Rattle.scan_tokens.specs.declared.refusal.ScanRefusal.{ScanRefusal}
use Rattle.scan_tokens.specs.declared.refusal.ScanError.TheVariants.{Refused, NoMemory}
use Rattle.scan_tokens.specs.Bytes.{Text, class, is_line_end}
use Rattle.scan_tokens.specs.Symbols.{sign_of}
use Rattle.scan_tokens.specs.Numbers.{base, limit, is_digit_of, value}
use Rattle.scan_tokens.specs.declared.comment.Mark.{Mark}
use Rattle.scan_tokens.specs.declared.comment.Mark.TheVariants.{Opening, Closing, Byte, End}
use Rattle.scan_tokens.specs.Forms.{IsLongest, IsMember, IsClosed, opening, closing}
use Rattle.scan_tokens.specs.Division.{RefusesIn, tokens_at}

-- the place behind one byte more
abbrev pub place_after : Pos → ℕ → Pos
place_after p b =
    if is_line_end b
    then record { line = p.line + 1; col = 1 }
    else record { line = p.line; col = p.col + 1 }

-- the place behind these bytes more
abbrev pub over : Pos → Text → Pos
over p [] = p
over p (b ∷ bs) = over (place_after p b) bs

-- Neither number of a place gets too large over these bytes.
abbrev pub HasRoom : Pos → Text → Type 0
HasRoom p w = (p.line + length w < 2 ^ 32) × (p.col + length w < 2 ^ 32)

-- A member was taken from the front of the text, and this is left.
abbrev pub Takes : Text → Pos → Option Lexeme → Text → Pos → Type 0
Takes text pos m rest after =
    (w : Text) × (text ≡ w ++ rest) × (0 < length w) × IsLongest w rest × IsMember (w, m)
    × (after ≡ over pos w)

-- A member was taken so, and its token, if it is one, put behind those that were there before.
abbrev pub Adds : Text → Pos → Text → Pos → List Token → List Token → Type 0
Adds text pos rest after before tokens =
    (m : Option Lexeme) × Takes text pos m rest after × (tokens ≡ before ++ tokens_at pos m)

-- Members without a token were taken from the front of the text, one after another.
pub data Skips (text : Text) (pos : Pos) : Text → Pos → Type 0 where
  nothing : Skips text pos text pos
  one_more : (mid : Text) (at : Pos) (rest : Text) (after : Pos) → Skips text pos mid at
      → Takes mid at None rest after → Skips text pos rest after

-- What stands at the front of the text is refused, and this is the least place of a refusal there.
abbrev pub Stops : Text → Pos → ScanError → Type 0
Stops text pos NoMemory = Unit {0}
Stops text pos (Refused r) =
    (before : Text)
    × RefusesIn r.broken text before
    × (r.pos ≡ over pos before)
    × ((broken : TokenRule) (other : Text) → RefusesIn broken text other
    → length before ≤ length other)

-- how a number is written, by its last byte
abbrev pub form_by : ℕ → Numeral
form_by c =
    if c == 66 then Octal else if c == 72 then Hexadecimal else if c == 67 then Code else Decimal

-- what is wrong with the digits of a number
abbrev pub RefusesDigits : Numeral → Text → TokenRule → Type 0
RefusesDigits form digits BadNumber = list_all (is_digit_of (base form)) digits ≡ false
RefusesDigits form digits LargeNumber =
    (list_all (is_digit_of (base form)) digits ≡ true) × (limit form ≤ value (base form) digits)
RefusesDigits form digits _ = ⊥

-- what stands at the front of a text inside of a comment
abbrev pub IsMark : Text → Mark → Type 0
IsMark text Opening = (behind : Text) × (text ≡ 40 ∷ 42 ∷ behind)
IsMark text Closing = (behind : Text) × (text ≡ 42 ∷ 41 ∷ behind)
IsMark text Byte =
    (b : ℕ) × (c : ℕ) × (behind : Text) × (text ≡ b ∷ c ∷ behind) × (b ∷ c ∷ [] ≢ opening)
    × (b ∷ c ∷ [] ≢ closing)
IsMark text End = length text ≤ 1

-- The comment that was opened before this text ends before the rest.
abbrev pub Closes : Text → Pos → Text → Pos → Type 0
Closes text pos rest after = (bs : Text) × IsClosed bs × (text ≡ bs ++ rest) × (after ≡ over pos bs)

-- It doesn't end.
abbrev pub NeverCloses : Text → Type 0
NeverCloses text = (bs more : Text) → text ≡ bs ++ more → IsClosed bs → ⊥

-- The first byte is of this class.
abbrev pub Begins : Class → Text → Type 0
Begins k text = (b : ℕ) × (bs : Text) × (text ≡ b ∷ bs) × (class b ≡ k)

abbrev pub Opens : Text → Type 0
Opens text = (behind : Text) × (text ≡ 40 ∷ 42 ∷ behind)

-- the operator or delimiter of two bytes at the front
abbrev pub IsPair : Text → Option Symbol → Type 0
IsPair text (Some s) =
    (b : ℕ) × (c : ℕ) × (bs : Text) × (text ≡ b ∷ c ∷ bs) × (sign_of (b ∷ c ∷ []) ≡ Some s)
IsPair text None = (b c : ℕ) (bs : Text) → text ≡ b ∷ c ∷ bs → sign_of (b ∷ c ∷ []) ≡ None

-- The error is that memory ran out, or a refusal of which this holds.
abbrev pub IfRefused : (ScanRefusal → Type 0) → ScanError → Type 0
IfRefused P NoMemory = Unit {0}
IfRefused P (Refused r) = P r
