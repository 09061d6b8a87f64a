-- At the front of a text that is not empty stands a member, or something that is refused.
use Rattle.std.proofs.Common.{◌≡◌, ◌≢◌, ◌≤◌, ◌<◌, ℕ, ◌+◌, false, eqb, [], ◌∷◌, ◌++◌, length, take, drop, get_or, Option, Some, None, ◌⊎◌, inl, inr, ap, sym, refl, ◌∙◌, subst, append-nil, arith}
use Rattle.std.specs.List.{list_all, prefix_len}
use Rattle.std.proofs.lemmas.Bool.{eqb-true, eqb-false, cases_Bool, cases_lt}
use Rattle.m2_tree.specs.declared.pos.Pos.{Pos}
use Rattle.m2_tree.specs.declared.token.Symbol.{Symbol}
use Rattle.m2_tree.specs.declared.token.Lexeme.{Lexeme}
use Rattle.m2_tree.specs.declared.token.Lexeme.TheVariants as lexeme
use Rattle.m2_tree.specs.Limits.{max_name}
use Rattle.scan_tokens.specs.declared.class.Class.{Class}
use Rattle.scan_tokens.specs.declared.class.Class.TheVariants.{Space, Letter, Digit, Quote, Other}
use Rattle.scan_tokens.specs.declared.number.Numeral.{Numeral}
use Rattle.scan_tokens.specs.declared.number.Numeral.TheVariants.{Decimal, Octal, Hexadecimal, Code}
use Rattle.scan_tokens.specs.declared.refusal.TokenRule.{TokenRule}
use Rattle.scan_tokens.specs.declared.refusal.TokenRule.TheVariants.{StrayByte, OpenComment, OpenString, BadNumber, LargeNumber, LongName}
use Rattle.scan_tokens.specs.declared.refusal.ScanRefusal.{ScanRefusal}
use Rattle.scan_tokens.specs.declared.refusal.ScanError.TheVariants.{Refused}
use Rattle.scan_tokens.specs.Bytes.{Text, class, is_run_byte, is_printable, is_inside}
use Rattle.scan_tokens.specs.Symbols.{word_of, sign_of}
use Rattle.scan_tokens.specs.Numbers.{Writes, RefusesNumber, base, limit, suffix, is_digit_of, value}
use Rattle.scan_tokens.specs.Forms.{IsRun, Spells}
use Rattle.scan_tokens.specs.Steps.{form_by, place_after, Begins, Opens, IsPair, Takes, Stops, Closes, NeverCloses}
use Rattle.scan_tokens.proofs.Meanings.{named, numbered, last_of}
use Rattle.scan_tokens.proofs.Numerals.{refused_digits}
use Rattle.scan_tokens.proofs.Fronts.{space_taken, IsFront, run_front, name_taken, name_stops, number_taken, number_stops, comment_taken, pair_taken, sign_taken, stray_stops, stops_here, string_open, string_is, string_taken, string_stops}
use Rattle.law_texts.proofs.Comments.{same_two, closes}

-- a member, or what is refused
abbrev pub Cut : Text → Pos → Type 0
Cut text pos = ((m : Option Lexeme) × (rest : Text) × (after : Pos) × Takes text pos m rest after)
    ⊎ ((r : ScanRefusal) × Stops text pos (Refused r))

refusal_at : Pos → TokenRule → ScanRefusal
refusal_at pos broken = record { pos = pos; broken = broken }

right : Pos → ℕ → Pos
right pos n = record { line = pos.line; col = pos.col + n }

-- ---- names

word_spells : (w : Text) (o : Option Symbol) → word_of w ≡ o → IsRun Letter w → length w ≤ max_name
    → Spells w (named w o)
word_spells w None e r le = (r, le, e, refl)
word_spells w (Some s) e r le = inl e

name_cut : (text : Text) (pos : Pos) → Begins Letter text → Cut text pos
unfolding refusal_at right
name_cut text pos h =
    let n = prefix_len is_run_byte text in
    elim (cases_lt max_name n) [
      | inl long ↦ inr (
        refusal_at pos LongName,
        name_stops text n pos (Refused (refusal_at pos LongName)) h refl long
            refl,
      )
      | inr le ↦
          let f = run_front Letter text (take n text) (drop n text) n refl h refl refl refl in
          let run = take n text in
          let l = named run (word_of run) in
          inl (
            Some l,
            drop n text,
            right pos n,
            name_taken text run (drop n text) n pos (right pos n) l f
                (word_spells run (word_of run) refl f.runs (omega (arith, le, f.count))) refl refl,
          )
    ]

-- ---- numbers

decimal : (c : ℕ) → eqb c 66 ≡ false → eqb c 72 ≡ false → eqb c 67 ≡ false → form_by c ≡ Decimal
decimal c e f g = cc

-- the digits before the letter that says the base
digits_of : (front : Text) (c : ℕ) → (digits : Text) × (front ++ c ∷ [] ≡ digits ++ suffix (form_by c))
digits_of front c =
    elim (cases_Bool (eqb c 66)) [
      | inl e ↦ (front, subst (λ (k : ℕ). front ++ k ∷ [] ≡ front ++ suffix (form_by k)) (sym (eqb-true c 66 e)) refl)
      | inr e ↦
          elim (cases_Bool (eqb c 72)) [
            | inl f ↦ (
              front,
              subst (λ (k : ℕ). front ++ k ∷ [] ≡ front ++ suffix (form_by k)) (sym (eqb-true c 72 f))
                  refl,
            )
            | inr f ↦
                elim (cases_Bool (eqb c 67)) [
                  | inl g ↦ (
                    front,
                    subst (λ (k : ℕ). front ++ k ∷ [] ≡ front ++ suffix (form_by k))
                        (sym (eqb-true c 67 g)) refl,
                  )
                  | inr g ↦ (
                    front ++ c ∷ [],
                    (let d : form_by c ≡ Decimal = decimal c e f g in
                        sym (append-nil (front ++ c ∷ []))
                        ∙ ap (λ (form : Numeral). (front ++ c ∷ []) ++ suffix form) (sym d)),
                  )
                ]
          ]
    ]

number_spells : (w : Text) (form : Numeral) (n : ℕ) → IsRun Digit w → Writes w form n → n < limit form
    → Spells w (numbered form n)
number_spells w Decimal n r h lt = (r, (Decimal, (λ e. cc), h), lt)
number_spells w Octal n r h lt = (r, (Octal, (λ e. cc), h), lt)
number_spells w Hexadecimal n r h lt = (r, (Hexadecimal, (λ e. cc), h), lt)
number_spells w Code n r h lt = (r, h, lt)

-- a number or a character, or what is wrong with it
abbrev NumberOrFault : Text → Type 0
NumberOrFault w = ((l : Lexeme) × Spells w l) ⊎ ((broken : TokenRule) × RefusesNumber w broken)

number_by : (w front digits : Text) (c : ℕ) (form : Numeral) → w ≡ front ++ c ∷ [] → form ≡ form_by c
    → w ≡ digits ++ suffix form → IsRun Digit w → NumberOrFault w
number_by w front digits c form e is d r =
    elim (cases_Bool (list_all (is_digit_of (base form)) digits)) [
      | inl all ↦
          elim (cases_lt (value (base form) digits) (limit form)) [
            | inl lt ↦ inl (
              numbered form (value (base form) digits),
              number_spells w form (value (base form) digits) r
                  (digits, d, all, refl) lt,
            )
            | inr le ↦ inr (LargeNumber, refused_digits form w digits front c LargeNumber e is d (all, le))
          ]
      | inr wrong ↦ inr (BadNumber, refused_digits form w digits front c BadNumber e is d wrong)
    ]

number_of : (w : Text) → IsRun Digit w → NumberOrFault w
number_of [] r = absurd r
number_of (b ∷ v) r =
    let l = last_of b v in
    let d = digits_of l.0 l.1 in
    number_by (b ∷ v) l.0 d.0 l.1 (form_by l.1) l.2 refl (l.2 ∙ d.1) r

number_cut_by : (text : Text) (pos : Pos) (n : ℕ) → IsFront Digit text (take n text) (drop n text) n
    → NumberOrFault (take n text) → Cut text pos
unfolding refusal_at right
number_cut_by text pos n f (inl h) = inl (
  Some h.0,
  drop n text,
  right pos n,
  number_taken text (take n text) (drop n text) n pos (right pos n) h.0 f h.1
      refl refl,
)
number_cut_by text pos n f (inr h) = inr (
  refusal_at pos h.0,
  number_stops text (take n text) (drop n text) n pos h.0 (Refused (refusal_at pos h.0)) f h.1
      refl,
)

number_cut : (text : Text) (pos : Pos) → Begins Digit text → Cut text pos
number_cut text pos h =
    let n = prefix_len is_run_byte text in
    let f = run_front Digit text (take n text) (drop n text) n refl h refl refl refl in
    number_cut_by text pos n f (number_of (take n text) f.runs)

-- ---- strings

module _ (q : ℕ) (behind : Text) (pos : Pos) (h : Begins Quote (q ∷ behind)) where
  count : ℕ
  count = prefix_len (is_inside q) behind

  open_cut : (count ≡ length behind) ⊎ (get_or behind count 0 ≢ q) → Cut (q ∷ behind) pos
  unfolding refusal_at right count
  open_cut why = inr (
    refusal_at pos OpenString,
    string_open (q ∷ behind) behind q count pos
        (Refused (refusal_at pos OpenString)) h refl refl refl why refl,
  )

  closed_cut : count ≢ length behind → get_or behind count 0 ≡ q → Cut (q ∷ behind) pos
  unfolding refusal_at right count
  closed_cut short closed =
      let text = q ∷ behind in
      let inside = take count behind in
      let rest = drop (count + 2) text in
      let good = prefix_len is_printable inside in
      let s = string_is text behind inside rest q count h refl refl refl short closed refl refl in
      elim (cases_lt good count) [
        | inl lt ↦ (let at = right pos (good + 1) in
            inr (
              refusal_at at StrayByte,
              string_stops text inside rest q count good pos at
                  (Refused (refusal_at at StrayByte)) s refl lt refl refl refl,
            ))
        | inr le ↦ inl (
          Some (lexeme.Text inside),
          rest,
          right pos (count + 2),
          string_taken text inside rest q count
              good pos (right pos (count + 2)) inside s refl le refl refl refl,
        )
      ]

  string_cut : Cut (q ∷ behind) pos
  string_cut =
      elim (cases_Bool (eqb count (length behind))) [
        | inl e ↦ open_cut (inl (eqb-true count (length behind) e))
        | inr e ↦
            elim (cases_Bool (eqb (get_or behind count 0) q)) [
              | inl f ↦ closed_cut (eqb-false count (length behind) e) (eqb-true (get_or behind count 0) q f)
              | inr f ↦ open_cut (inr (eqb-false (get_or behind count 0) q f))
            ]
      ]

-- ---- comments, operators and delimiters

comment_cut_by : (text behind : Text) (pos : Pos) → text ≡ 40 ∷ 42 ∷ behind
    → ((rest : Text) × (after : Pos) × Closes behind (right pos 2) rest after) ⊎ NeverCloses behind → Cut text pos
unfolding refusal_at right
comment_cut_by text behind pos e (inl c) =
    inl (
      None,
      c.0,
      c.1,
      comment_taken text behind c.0 pos (right pos 2) c.1 (behind, e) (sym (ap (drop 2) e)) refl refl
          c.2,
    )
comment_cut_by text behind pos e (inr never) =
    inr (
      refusal_at pos OpenComment,
      stops_here text pos OpenComment (Refused (refusal_at pos OpenComment)) refl
          (behind, e, refl, never),
    )

comment_cut : (text : Text) (pos : Pos) → Opens text → Cut text pos
comment_cut text pos h = comment_cut_by text h.0 pos h.1 (closes h.0 (right pos 2))

single_cut : (b : ℕ) (rest : Text) (pos : Pos) → Begins Other (b ∷ rest) → (Opens (b ∷ rest) → ⊥)
    → IsPair (b ∷ rest) None → (o : Option Symbol) → sign_of (b ∷ []) ≡ o → Cut (b ∷ rest) pos
unfolding refusal_at right
single_cut b rest pos h no_comment no_pair None e =
    inr (refusal_at pos StrayByte, stray_stops (b ∷ rest) pos (Refused (refusal_at pos StrayByte)) h e refl)
single_cut b rest pos h no_comment no_pair (Some s) e =
    inl (
      Some (lexeme.Symbol s),
      rest,
      right pos 1,
      sign_taken (b ∷ rest) rest pos (right pos 1) s h no_comment no_pair
          e refl refl refl,
    )

same_pair : (b c x y : ℕ) (t u : Text) → b ∷ c ∷ t ≡ x ∷ y ∷ u → b ∷ c ∷ [] ≡ x ∷ y ∷ []
same_pair b c x y t u e = cc

pair_cut : (b c : ℕ) (t : Text) (pos : Pos) → Begins Other (b ∷ c ∷ t) → (Opens (b ∷ c ∷ t) → ⊥) → (o : Option Symbol)
    → sign_of (b ∷ c ∷ []) ≡ o → Cut (b ∷ c ∷ t) pos
unfolding right
pair_cut b c t pos h no_comment None e =
    single_cut b (c ∷ t) pos h no_comment (λ x y u d. ap sign_of (sym (same_pair b c x y t u d)) ∙ e) (sign_of (b ∷ []))
    refl
pair_cut b c t pos h no_comment (Some s) e =
    inl (
      Some (lexeme.Symbol s),
      t,
      right pos 2,
      pair_taken (b ∷ c ∷ t) t pos (right pos 2) s (b, c, t, refl, e) refl
          refl refl,
    )

opens_no_comment : (b c : ℕ) (t : Text) → (b ∷ c ∷ [] ≢ 40 ∷ 42 ∷ []) → Opens (b ∷ c ∷ t) → ⊥
opens_no_comment b c t other o = other (same_pair b c 40 42 t o.0 o.1)

other_cut : (b : ℕ) (rest : Text) (pos : Pos) → Begins Other (b ∷ rest) → Cut (b ∷ rest) pos
other_cut b [] pos h = single_cut b [] pos h (λ o. (let e : b ∷ [] ≡ 40 ∷ 42 ∷ o.0 = o.1 in cc)) (λ x y u d. absurd cc)
    (sign_of (b ∷ [])) refl
other_cut b (c ∷ t) pos h =
    elim (same_two b c 40 42) [
      | inl e ↦ comment_cut (b ∷ c ∷ t) pos (t, (let d : b ∷ c ∷ t ≡ 40 ∷ 42 ∷ t = cc (e.0, e.1) in d))
      | inr other ↦ pair_cut b c t pos h (opens_no_comment b c t other) (sign_of (b ∷ c ∷ [])) refl
    ]

-- ---- all of them

cut_by : (b : ℕ) (bs : Text) (pos : Pos) (k : Class) → class b ≡ k → Cut (b ∷ bs) pos
cut_by b bs pos Space e = inl (
  None,
  bs,
  place_after pos b,
  space_taken (b ∷ bs) bs pos (place_after pos b)
      (b, bs, refl, e) refl refl,
)
cut_by b bs pos Letter e = name_cut (b ∷ bs) pos (b, bs, refl, e)
cut_by b bs pos Digit e = number_cut (b ∷ bs) pos (b, bs, refl, e)
cut_by b bs pos Quote e = string_cut b bs pos (b, bs, refl, e)
cut_by b bs pos Other e = other_cut b bs pos (b, bs, refl, e)

pub cut : (b : ℕ) (bs : Text) (pos : Pos) → Cut (b ∷ bs) pos
cut b bs pos = cut_by b bs pos (class b) refl
