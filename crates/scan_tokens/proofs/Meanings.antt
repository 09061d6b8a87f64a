-- What a member says, by the class of its first byte.
use Rattle.std.proofs.Common.{◌≡◌, ◌≢◌, ◌≤◌, ◌<◌, ℕ, ◌^◌, true, [], ◌∷◌, ◌++◌, length, Option, Some, None, option_map, inl, inr, ap, sym, refl, ◌∙◌, subst, arith}
use Rattle.std.specs.List.{list_all}
use Rattle.std.proofs.lemmas.List.{same_from_push}
use Rattle.m2_tree.specs.declared.token.Symbol.{Symbol}
use Rattle.m2_tree.specs.declared.token.Lexeme.{Lexeme}
use Rattle.m2_tree.specs.declared.token.Lexeme.TheVariants as lexeme
use Rattle.m2_tree.specs.Limits.{max_name}
use Rattle.scan_tokens.specs.declared.class.Class.{Class}
use Rattle.scan_tokens.specs.declared.class.Class.TheVariants.{Space, Letter, Digit, Quote, Other}
use Rattle.scan_tokens.specs.declared.number.Numeral.{Numeral}
use Rattle.scan_tokens.specs.declared.number.Numeral.TheVariants.{Decimal, Octal, Hexadecimal, Code}
use Rattle.scan_tokens.specs.Bytes.{Text, class, is_printable}
use Rattle.scan_tokens.specs.Numbers.{Writes, limit}
use Rattle.scan_tokens.specs.Symbols.{word_of, sign_of}
use Rattle.scan_tokens.specs.Forms.{IsRun, IsQuoted, IsMember}
use Rattle.scan_tokens.proofs.Levels.{closed_two}
use Rattle.scan_tokens.proofs.Numerals.{written_once}
use Rattle.scan_tokens.proofs.Shapes.{sign_is, sign_length, word_is, class_open}

-- a reserved word or a name
abbrev pub named : Text → Option Symbol → Lexeme
named w None = lexeme.Name w
named w (Some s) = lexeme.Symbol s

-- a number or a character
abbrev pub numbered : Numeral → ℕ → Lexeme
numbered Code n = lexeme.Char n
numbered _ n = lexeme.Number n

abbrev pub MeansOf : Class → Text → Option Lexeme → Type 0
MeansOf Space w m = m ≡ None
MeansOf Letter w m = (length w ≤ max_name) × (m ≡ Some (named w (word_of w)))
MeansOf Digit w m = (form : Numeral) × (n : ℕ) × Writes w form n × (n < limit form) × (m ≡ Some (numbered form n))
MeansOf Quote w m = (inside : Text) × IsQuoted w inside × (list_all is_printable inside ≡ true)
    × (m ≡ Some (lexeme.Text inside))
MeansOf Other w m = m ≡ option_map lexeme.Symbol (sign_of w)

abbrev pub Means : Text → Option Lexeme → Type 0
Means w m = (b : ℕ) × (v : Text) × (w ≡ b ∷ v) × MeansOf (class b) w m

of_class : (w : Text) (m : Option Lexeme) (b : ℕ) (v : Text) (k : Class) → w ≡ b ∷ v → class b ≡ k → MeansOf k w m
    → Means w m
of_class w m b v k e c h = let P : Class → Type 0 = λ c. MeansOf c w m in (b, v, e, subst P (sym c) h)

of_run : (w : Text) (m : Option Lexeme) (k : Class) → IsRun k w → MeansOf k w m → Means w m
of_run [] m k r h = absurd r
of_run (b ∷ v) m k r h = of_class (b ∷ v) m b v k refl r.0 h

is_no_sign : (w : Text) (o : Option Symbol) → sign_of w ≡ o → 2 < length w → None ≡ option_map lexeme.Symbol o
is_no_sign w None e h = refl
is_no_sign w (Some s) e h = absurd (omega (arith, sign_length w s e))

number_means : (form : Numeral) (n : ℕ) → form ≢ Code → n < 2 ^ 32 → (n < limit form)
    × (Some (lexeme.Number n) ≡ Some (numbered form n))
number_means Decimal n apart h = (h, refl)
number_means Octal n apart h = (h, refl)
number_means Hexadecimal n apart h = (h, refl)
number_means Code n apart h = absurd (apart refl)

pub means : (w : Text) (m : Option Lexeme) → IsMember (w, m) → Means w m
means w None (inl s) = of_class w None s.0 [] Space s.2 s.1 refl
means w None (inr c) =
    let two = closed_two c.0 c.1 in
    let long : 2 < length w = omega (arith, ap length c.2, ap length two.3) in
    of_class w None 40 (42 ∷ c.0) Other c.2 class_open (is_no_sign w (sign_of w) refl long)
means w (Some (lexeme.Name n)) h = of_run w (Some (lexeme.Name n)) Letter h.0
    (h.1, ap (λ n. Some (lexeme.Name n)) h.3 ∙ ap (λ o. Some (named w o)) (sym h.2))
means w (Some (lexeme.Number n)) h =
    let k = number_means h.1.0 n h.1.1 h.2 in
    of_run w (Some (lexeme.Number n)) Digit h.0 (h.1.0, n, h.1.2, k.0, k.1)
means w (Some (lexeme.Char n)) h = of_run w (Some (lexeme.Char n)) Digit h.0 (Code, n, h.1, h.2, refl)
means w (Some (lexeme.Text inside)) h = of_class w (Some (lexeme.Text inside)) h.0.0 (inside ++ h.0.0 ∷ []) Quote h.0.3
    h.0.1 (inside, h.0, h.1, refl)
means w (Some (lexeme.Symbol s)) (inl e) =
    let k = word_is w s e in
    of_class w (Some (lexeme.Symbol s)) k.0 k.1 Letter k.2 k.3 (k.4, ap (λ o. Some (named w o)) (sym e))
means w (Some (lexeme.Symbol s)) (inr e) =
    let k = sign_is w s e in
    of_class w (Some (lexeme.Symbol s)) k.first k.others Other k.is k.other (ap (option_map lexeme.Symbol) (sym e))
means w (Some lexeme.End) h = absurd h

pub last_of : (b : ℕ) (v : Text) → (front : Text) × (c : ℕ) × (b ∷ v ≡ front ++ c ∷ [])
last_of b [] = ([], b, refl)
last_of b (c ∷ v) = let h = last_of c v in (b ∷ h.0, h.1, ap (λ t. b ∷ t) h.2)

pub quoted_once : (w i j : Text) → IsQuoted w i → IsQuoted w j → i ≡ j
quoted_once w i j h k =
    let whole : h.0 ∷ i ++ h.0 ∷ [] ≡ k.0 ∷ j ++ k.0 ∷ [] = sym h.3 ∙ k.3 in
    let tails : i ++ h.0 ∷ [] ≡ j ++ k.0 ∷ [] = cc in
    (same_from_push i j h.0 k.0 tails).0

one_meaning : (k : Class) (w : Text) (m n : Option Lexeme) (b : ℕ) (v : Text) → w ≡ b ∷ v → MeansOf k w m
    → MeansOf k w n → m ≡ n
one_meaning Space w m n b v e h k = h ∙ sym k
one_meaning Letter w m n b v e h k = h.1 ∙ sym k.1
one_meaning Digit w m n b v e h k =
    let l = last_of b v in
    let same = written_once w h.0 k.0 h.1 k.1 l.0 l.1 (e ∙ l.2) h.2 k.2 in
    h.4 ∙ ap (λ f. Some (numbered f h.1)) same.0 ∙ ap (λ n. Some (numbered k.0 n)) same.1 ∙ sym k.4
one_meaning Quote w m n b v e h k = h.3 ∙ ap (λ i. Some (lexeme.Text i)) (quoted_once w h.0 k.0 h.1 k.1) ∙ sym k.3
one_meaning Other w m n b v e h k = h ∙ sym k

-- Bytes say one thing.
pub means_once : (w : Text) (m n : Option Lexeme) → IsMember (w, m) → IsMember (w, n) → m ≡ n
means_once w m n h k =
    let a = means w m h in
    let c = means w n k in
    let whole : a.0 ∷ a.1 ≡ c.0 ∷ c.1 = sym a.2 ∙ c.2 in
    let same : c.0 ≡ a.0 = cc in
    let P : ℕ → Type 0 = λ b. MeansOf (class b) w n in
    one_meaning (class a.0) w m n a.0 a.1 a.2 a.3 (subst P same c.3)

-- what a member says, where the class of its first byte is known
pub means_at : (k : Class) (q : ℕ) (t w more : Text) (m : Option Lexeme) → q ∷ t ≡ w ++ more → class q ≡ k
    → IsMember (w, m) → MeansOf k w m
means_at k q t w more m e c h =
    let a = means w m h in
    let whole : q ∷ t ≡ (a.0 ∷ a.1) ++ more = e ∙ ap (λ w. w ++ more) a.2 in
    let same : q ≡ a.0 = cc in
    let P : Class → Type 0 = λ c. MeansOf c w m in
    subst P (ap class (sym same) ∙ c) a.3
