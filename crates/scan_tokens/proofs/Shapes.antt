-- What a form is, by the class of its first byte, and which one is the longest.
use Rattle.std.proofs.Common.{◌≡◌, ◌≢◌, ◌≤◌, ℕ, ◌+◌, Bool, true, false, not, ◌&&◌, leb, cond, [], ◌∷◌, ◌++◌, length, Option, Some, None, is_some, ◌⊎◌, inl, inr, ap, sym, refl, ◌∙◌, subst, append_assoc, append-nil, length-append, ◌||◌, ◌==◌, arith}
use Rattle.std.proofs.Common.{eq-eqb}
use Rattle.std.proofs.lemmas.Bool.{leb-true}
use Rattle.std.specs.List.{list_all, prefix_len}
use Rattle.std.specs.Str.{bytes_eq}
use Rattle.std.proofs.lemmas.Slice.Eq.{bytes_eq-Decides}
use Rattle.m2_tree.specs.declared.token.Symbol.{Symbol}
use Rattle.m2_tree.specs.Limits.{max_name}
use Rattle.scan_tokens.specs.declared.class.Class.{Class}
use Rattle.scan_tokens.specs.declared.class.Class.TheVariants.{Space, Letter, Digit, Quote, Other}
use Rattle.scan_tokens.specs.Bytes.{Text, class, in_run, is_run_byte, is_inside, is_line_end}
use Rattle.scan_tokens.specs.Symbols.{Spellings, words, signs, lookup, word_of, sign_of}
use Rattle.scan_tokens.specs.Forms.{IsRun, IsQuoted, IsClosed, IsForm, space, name, number, quoted, sign, comment, opened, IsLongest, opening}
use Rattle.scan_tokens.proofs.Lists.{and_true, same_head, passes_within, passes_to}
use Rattle.scan_tokens.proofs.Levels.{closed_once}
use Rattle.scan_tokens.proofs.Places.{in_one_line}

-- ---- the tables

same_bytes : (v w : Text) → bytes_eq v w ≡ true → v ≡ w
same_bytes v w h = (bytes_eq-Decides v w).0 h

if_found : (v : Bool) (s t : Symbol) (o : Option Symbol) → cond v (Some s) o ≡ Some t → (v ≡ true) ⊎ (o ≡ Some t)
if_found true s t o h = inl refl
if_found false s t o h = inr h

lookup_passes : (p : Text → Bool) (es : Spellings) (w : Text) (s : Symbol) → list_all (λ e. p e.0) es ≡ true
    → lookup es w ≡ Some s → p w ≡ true
lookup_passes p [] w s h e = cc
lookup_passes p (x ∷ es) w s h e =
    let a = and_true (p x.0) (list_all (λ e. p e.0) es) h in
    elim (if_found (bytes_eq x.0 w) x.1 s (lookup es w) e)
    [ inl same ↦ ap p (sym (same_bytes x.0 w same)) ∙ a.0 | inr later ↦ lookup_passes p es w s a.1 later ]

is_other : Class → Bool
is_other Other = true
is_other _ = false

is_letter_class : Class → Bool
is_letter_class Letter = true
is_letter_class _ = false

other_class : (c : Class) → is_other c ≡ true → c ≡ Other
unfolding is_other
other_class Other h = refl
other_class Space h = cc
other_class Letter h = cc
other_class Digit h = cc
other_class Quote h = cc

letter_class : (c : Class) → is_letter_class c ≡ true → c ≡ Letter
unfolding is_letter_class
letter_class Letter h = refl
letter_class Space h = cc
letter_class Other h = cc
letter_class Digit h = cc
letter_class Quote h = cc

sign_test : Text → Bool
sign_test [] = false
sign_test (b ∷ bs) = is_other (class b) &&
    (is_some (sign_of (b ∷ [])) && (leb (length bs) 1 && list_all in_one_line (b ∷ bs)))

word_test : Text → Bool
word_test [] = false
word_test (b ∷ bs) = is_letter_class (class b) && leb (length (b ∷ bs)) 64

-- a sign: one or two bytes, of which the first is a sign by itself
pub record IsSign (w : Text) : Type 0 where
  pub first : ℕ
  pub others : Text
  pub is : w ≡ first ∷ others
  pub other : class first ≡ Other
  pub alone : is_some (sign_of (first ∷ [])) ≡ true
  pub short : length others ≤ 1
  pub line : list_all in_one_line w ≡ true

sign_parts : (w : Text) → sign_test w ≡ true → IsSign w
unfolding sign_test
sign_parts [] h = cc
sign_parts (b ∷ bs) h =
    let a = and_true (is_other (class b)) _ h in
    let c = and_true (is_some (sign_of (b ∷ []))) _ a.1 in
    let d = and_true (leb (length bs) 1) (list_all in_one_line (b ∷ bs)) c.1 in
    record {
      first = b;
      others = bs;
      is = refl;
      other = other_class (class b) a.0;
      alone = c.0;
      short =
          leb-true (length bs) 1 d.0;
      line = d.1;
    }

signs_pass : list_all (λ e. sign_test e.0) signs ≡ true
unfolding sign_test is_other class sign_of is_line_end
signs_pass = refl

pub sign_is : (w : Text) (s : Symbol) → sign_of w ≡ Some s → IsSign w
unfolding sign_of
sign_is w s e = sign_parts w (lookup_passes sign_test signs w s signs_pass e)

words_pass : list_all (λ e. word_test e.0) words ≡ true
unfolding word_test is_letter_class class
words_pass = refl

word_parts : (w : Text) → word_test w ≡ true → (b : ℕ) × (bs : Text) × (w ≡ b ∷ bs) × (class b ≡ Letter)
    × (length w ≤ max_name)
unfolding word_test
word_parts [] h = cc
word_parts (b ∷ bs) h =
    let a = and_true (is_letter_class (class b)) _ h in
    (b, bs, refl, letter_class (class b) a.0, leb-true (length (b ∷ bs)) 64 a.1)

pub word_is : (w : Text) (s : Symbol) → word_of w ≡ Some s → (b : ℕ) × (bs : Text) × (w ≡ b ∷ bs) × (class b ≡ Letter)
    × (length w ≤ max_name)
unfolding word_of
word_is w s e = word_parts w (lookup_passes word_test words w s words_pass e)

pub class_open : class 40 ≡ Other
unfolding class
class_open = refl

pub no_sign_opens : sign_of opening ≡ None
unfolding sign_of
no_sign_opens = refl

pub open_is_sign : is_some (sign_of (40 ∷ [])) ≡ true
unfolding sign_of
open_is_sign = refl

-- ---- forms by the class of their first byte

abbrev pub FormOf : Class → Text → Type 0
FormOf Space w = length w ≡ 1
FormOf Letter w = IsRun Letter w
FormOf Digit w = IsRun Digit w
FormOf Quote w = (inside : Text) × IsQuoted w inside
FormOf Other w = ((s : Symbol) × (sign_of w ≡ Some s))
    ⊎ (((bs : Text) × IsClosed bs × (w ≡ 40 ∷ 42 ∷ bs)) ⊎ (w ≡ opening))

abbrev pub Sorted : Text → Type 0
Sorted w = (b : ℕ) × (v : Text) × (w ≡ b ∷ v) × FormOf (class b) w

of_class : (w : Text) (k c : Class) → c ≡ k → FormOf k w → FormOf c w
of_class w k c e h = let P : Class → Type 0 = λ c. FormOf c w in subst P (sym e) h

run_sorted : (k : Class) (w : Text) → IsRun k w → FormOf k w → Sorted w
run_sorted k [] r f = absurd r
run_sorted k (b ∷ bs) r f = (b, bs, refl, of_class (b ∷ bs) k (class b) r.0 f)

pub sorted : (w : Text) → IsForm w → Sorted w
sorted _ (space b c) = (b, [], refl, of_class (b ∷ []) Space (class b) c refl)
sorted w (name _ r) = run_sorted Letter w r r
sorted w (number _ r) = run_sorted Digit w r r
sorted w (quoted _ inside h) = (h.0, inside ++ h.0 ∷ [], h.3, of_class w Quote (class h.0) h.1 (inside, h))
sorted w (sign _ s e) = let p = sign_is w s e in
    (p.first, p.others, p.is, of_class w Other (class p.first) p.other (inl (s, e)))
sorted _ (comment bs p) = (
  40,
  42 ∷ bs,
  refl,
  of_class (40 ∷ 42 ∷ bs) Other (class 40) class_open
      (inr (inl (bs, p, refl))),
)
sorted _ opened = (40, 42 ∷ [], refl, of_class (40 ∷ 42 ∷ []) Other (class 40) class_open (inr (inr refl)))

-- a form at the front of a text whose first byte is of this class
pub front_form : (k : Class) (b : ℕ) (s v more : Text) → class b ≡ k → b ∷ s ≡ v ++ more → IsForm v → FormOf k v
front_form k b s v more c e f =
    let p = sorted v f in
    let same : b ≡ p.0 = same_head (e ∙ ap (λ v. v ++ more) p.2) in
    let P : Class → Type 0 = λ c. FormOf c v in
    subst P (ap class (sym same) ∙ c) p.3

-- ---- longest forms

pub longest_space : (b : ℕ) (more : Text) → class b ≡ Space → IsLongest (b ∷ []) more
longest_space b more c = record {
  form = space b c;
  longest = λ v m e f. let one : length v ≡ 1 = front_form Space b more v m c e f in omega arith;
}

pub run_passes : (k : Class) (w : Text) → in_run k ≡ true → IsRun k w → list_all is_run_byte w ≡ true
run_passes k [] i r = absurd r
run_passes k (b ∷ bs) i r = ap (λ v. v && list_all is_run_byte bs) (ap in_run r.0 ∙ i) ∙ r.1

run_front : (k : Class) (b : ℕ) (s v more : Text) → in_run k ≡ true → FormOf k v → IsRun k v → b ∷ s ≡ v ++ more
    → length v ≤ prefix_len is_run_byte (b ∷ s)
run_front k b s v more i f r e =
    let h = passes_within is_run_byte v more (run_passes k v i r) in
    let same : prefix_len is_run_byte (b ∷ s) ≡ prefix_len is_run_byte (v ++ more) = ap (prefix_len is_run_byte) e in
    omega (arith, h, same)

pub longest_name : (s w more : Text) → s ≡ w ++ more → length w ≡ prefix_len is_run_byte s → IsRun Letter w
    → IsLongest w more
longest_name s [] more e n r = absurd r
longest_name s (b ∷ bs) more e n r = record {
  form = name (b ∷ bs) r;
  longest = λ v m d f.
      let k : IsRun Letter v = front_form Letter b (bs ++ more) v m r.0 d f in
      let h = run_front Letter b (bs ++ more) v m refl k k d in
      let same : prefix_len is_run_byte s ≡ prefix_len is_run_byte (b ∷ bs ++ more) = ap (prefix_len is_run_byte) e in
      omega (arith, h, same, n);
}

pub longest_number : (s w more : Text) → s ≡ w ++ more → length w ≡ prefix_len is_run_byte s → IsRun Digit w
    → IsLongest w more
longest_number s [] more e n r = absurd r
longest_number s (b ∷ bs) more e n r = record {
  form = number (b ∷ bs) r;
  longest = λ v m d f.
      let k : IsRun Digit v = front_form Digit b (bs ++ more) v m r.0 d f in
      let h = run_front Digit b (bs ++ more) v m refl k k d in
      let same : prefix_len is_run_byte s ≡ prefix_len is_run_byte (b ∷ bs ++ more) = ap (prefix_len is_run_byte) e in
      omega (arith, h, same, n);
}

not_inside : (q : ℕ) → is_inside q q ≡ false
unfolding is_inside
not_inside q = ap (λ v. not (v || (q == 10))) (eq-eqb q q refl)

-- how long a string is
pub quoted_length : (q : ℕ) (s v inside more : Text) → q ∷ s ≡ v ++ more → IsQuoted v inside
    → length v ≡ prefix_len (is_inside q) s + 2
quoted_length q s v inside more e h =
    let whole : q ∷ s ≡ (h.0 ∷ inside ++ h.0 ∷ []) ++ more = e ∙ ap (λ v. v ++ more) h.3 in
    let same : q ≡ h.0 = same_head whole in
    let tail : s ≡ (inside ++ h.0 ∷ []) ++ more = cc in
    let cut : s ≡ inside ++ h.0 ∷ more = tail ∙ append_assoc inside (h.0 ∷ []) more in
    let P : ℕ → Type 0 = λ q. prefix_len (is_inside q) s ≡ length inside in
    let n = subst P (sym same) (ap (prefix_len (is_inside h.0)) cut
    ∙ passes_to (is_inside h.0) inside h.0 more h.2 (not_inside h.0)) in
    let m = ap length h.3 in
    omega (arith, n, m, length-append inside (h.0 ∷ []))

pub longest_string : (w inside more : Text) → IsQuoted w inside → IsLongest w more
longest_string w inside more h = record {
  form = quoted w inside h;
  longest = λ v m e f.
      let q = h.0 in
      let s = (inside ++ q ∷ []) ++ more in
      let d : q ∷ s ≡ w ++ more = ap (λ w. w ++ more) (sym h.3) in
      let k : (i : Text) × IsQuoted v i = front_form Quote q s v m h.1 (d ∙ e) f in
      omega (arith, quoted_length q s v k.0 m (d ∙ e) k.1, quoted_length q s w inside more d h);
}

pub sign_length : (v : Text) (s : Symbol) → sign_of v ≡ Some s → length v ≤ 2
sign_length v s e = let p = sign_is v s e in omega (arith, p.short, ap length p.is)

tail_two : {a b x y : ℕ} {s t : Text} → a ∷ b ∷ s ≡ x ∷ y ∷ t → s ≡ t
tail_two e = cc

pub longest_comment : (bs more : Text) → IsClosed bs → IsLongest (40 ∷ 42 ∷ bs) more
longest_comment bs more p = record {
  form = comment bs p;
  longest = λ v m e f.
      elim (front_form Other 40 (42 ∷ bs ++ more) v m class_open e f) [
        | inl k ↦ omega (arith, sign_length v k.0 k.1)
        | inr k ↦ elim k [
          | inl c ↦ (let d : bs ++ more ≡ c.0 ++ m = tail_two (e ∙ ap (λ v. v ++ m) c.2) in
              omega (arith, closed_once bs p c.0 c.1 more m d, ap length c.2))
          | inr o ↦ omega (arith, ap length o)
        ]
      ];
}

not_opening : (b : ℕ) (more t : Text) → b ∷ more ≡ 40 ∷ 42 ∷ t
    → ((c : ℕ) (u : Text) → more ≡ c ∷ u → b ∷ c ∷ [] ≢ opening) → ⊥
not_opening b more t e alone = let first : b ≡ 40 = same_head e in let rest : more ≡ 42 ∷ t = cc in
    alone 42 t rest (ap (λ b. b ∷ 42 ∷ []) first)

sign_alone : (b : ℕ) (more v m : Text) (s : Symbol) → b ∷ more ≡ v ++ m → sign_of v ≡ Some s
    → ((c : ℕ) (t : Text) → more ≡ c ∷ t → sign_of (b ∷ c ∷ []) ≡ None) → length v ≤ 1
sign_alone b more [] m s d e alone = omega arith
sign_alone b more (x ∷ []) m s d e alone = omega arith
sign_alone b more (x ∷ y ∷ []) m s d e alone =
    let rest : more ≡ y ∷ m = cc in
    let first : b ≡ x = same_head d in
    let none : sign_of (x ∷ y ∷ []) ≡ None = ap (λ b. sign_of (b ∷ y ∷ [])) (sym first) ∙ alone y m rest in
    cc
sign_alone b more (x ∷ y ∷ z ∷ v) m s d e alone = absurd (omega (arith, sign_length (x ∷ y ∷ z ∷ v) s e))

pair_class : (b c : ℕ) (s : Symbol) → sign_of (b ∷ c ∷ []) ≡ Some s → class b ≡ Other
pair_class b c s e = let p = sign_is (b ∷ c ∷ []) s e in ap class (same_head p.is) ∙ p.other

pair_not_opening : (b c : ℕ) (s : Symbol) (more t : Text) → sign_of (b ∷ c ∷ []) ≡ Some s → b ∷ c ∷ more ≡ 40 ∷ 42 ∷ t
    → ⊥
pair_not_opening b c s more t e d =
    let first : b ≡ 40 = same_head d in
    let rest : c ∷ more ≡ 42 ∷ t = cc in
    let second : c ≡ 42 = same_head rest in
    let none : sign_of (b ∷ c ∷ []) ≡ None = ap (λ b. sign_of (b ∷ c ∷ [])) first
    ∙ ap (λ c. sign_of (40 ∷ c ∷ [])) second ∙ no_sign_opens in
    cc

opens_something : (b : ℕ) → b ≡ 40 → sign_of (b ∷ []) ≡ None → ⊥
opens_something b h e =
    let some : is_some (sign_of (b ∷ [])) ≡ true = ap (λ b. is_some (sign_of (b ∷ []))) h ∙ open_is_sign in
    let none : is_some (sign_of (b ∷ [])) ≡ false = ap is_some e in
    cc

-- a sign of one byte, before what makes no longer one
pub longest_sign : (b : ℕ) (s : Symbol) (more : Text) → class b ≡ Other → sign_of (b ∷ []) ≡ Some s
    → ((c : ℕ) (t : Text) → more ≡ c ∷ t → (b ∷ c ∷ [] ≢ opening) × (sign_of (b ∷ c ∷ []) ≡ None))
    → IsLongest (b ∷ []) more
longest_sign b s more c e alone = record {
  form = sign (b ∷ []) s e;
  longest = λ v m d f.
      elim (front_form Other b more v m c d f) [
        | inl k ↦ sign_alone b more v m k.0 d k.1 (λ c t h. (alone c t h).1)
        | inr k ↦ elim k [
          | inl w ↦ absurd (not_opening b more (w.0 ++ m) (d ∙ ap (λ v. v ++ m) w.2) (λ c t h. (alone c t h).0))
          | inr o ↦ absurd (not_opening b more m (d ∙ ap (λ v. v ++ m) o) (λ c t h. (alone c t h).0))
        ]
      ];
}

-- a sign of two bytes
pub longest_pair : (b c : ℕ) (s : Symbol) (more : Text) → sign_of (b ∷ c ∷ []) ≡ Some s → IsLongest (b ∷ c ∷ []) more
longest_pair b c s more e = record {
  form = sign (b ∷ c ∷ []) s e;
  longest = λ v m d f.
      elim (front_form Other b (c ∷ more) v m (pair_class b c s e) d f) [
        | inl k ↦ sign_length v k.0 k.1
        | inr k ↦ elim k [
          | inl w ↦ absurd (pair_not_opening b c s more (w.0 ++ m) e (d ∙ ap (λ v. v ++ m) w.2))
          | inr o ↦ omega (arith, ap length o)
        ]
      ];
}

-- no form begins with a byte that is no sign
pub begins_nothing : (b : ℕ) (v : Text) → class b ≡ Other → sign_of (b ∷ []) ≡ None → IsForm (b ∷ v) → ⊥
begins_nothing b v c e f =
    elim (front_form Other b v (b ∷ v) [] c (sym (append-nil (b ∷ v))) f) [
      | inl k ↦ (let p = sign_is (b ∷ v) k.0 k.1 in
          let same : b ≡ p.first = same_head p.is in
          let some : is_some (sign_of (b ∷ [])) ≡ true = ap (λ b. is_some (sign_of (b ∷ []))) same ∙ p.alone in
          let none : is_some (sign_of (b ∷ [])) ≡ false = ap is_some e in
          cc)
      | inr k ↦ elim k [
        | inl w ↦ opens_something b (same_head w.2) e
        | inr o ↦ opens_something b (same_head o) e
      ]
    ]
