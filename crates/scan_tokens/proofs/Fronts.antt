-- What stands at the front of a text, as the scanner's functions find it.
use Rattle.std.proofs.Common.{◌≡◌, ◌≢◌, ◌≤◌, ◌<◌, ℕ, suc, ◌+◌, Bool, true, false, not, cond, eqb, ◌&&◌, ◌||◌, [], ◌∷◌, ◌++◌, length, take, drop, get_or, Some, None, ◌⊎◌, inl, inr, ap, sym, refl, ◌∙◌, subst, append_assoc, length-append, arith}
use Rattle.std.specs.List.{list_all, prefix_len}
use Rattle.std.proofs.lemmas.Bool.{eqb-true, cases_Bool}
use Rattle.std.proofs.lemmas.List.Folds.{list_all-append}
use Rattle.std.proofs.lemmas.List.{take-append-drop, length-take-le, drop_more, take_all, get_or_at, drop_at}
use Rattle.std.proofs.lemmas.List.Sums.{prefix_len-le-length, prefix_len_stops}
use Rattle.m2_tree.specs.declared.pos.Pos.{Pos}
use Rattle.m2_tree.specs.declared.token.Symbol.{Symbol}
use Rattle.m2_tree.specs.declared.token.Lexeme.{Lexeme}
use Rattle.m2_tree.specs.declared.token.Lexeme.TheVariants as lexeme
use Rattle.m2_tree.specs.Limits.{max_name}
use Rattle.scan_tokens.specs.declared.class.Class.{Class}
use Rattle.scan_tokens.specs.declared.class.Class.TheVariants.{Space, Letter, Digit, Quote, Other}
use Rattle.scan_tokens.specs.declared.refusal.TokenRule.{TokenRule}
use Rattle.scan_tokens.specs.declared.refusal.TokenRule.TheVariants.{TooLong, StrayByte, OpenComment, OpenString, BadNumber, LargeNumber, LongName}
use Rattle.scan_tokens.specs.declared.refusal.ScanError.{ScanError}
use Rattle.scan_tokens.specs.declared.refusal.ScanError.TheVariants.{Refused}
use Rattle.scan_tokens.specs.Bytes.{Text, class, in_run, is_run_byte, is_printable, is_inside, is_line_end}
use Rattle.scan_tokens.specs.Symbols.{sign_of}
use Rattle.scan_tokens.specs.Forms.{IsRun, IsQuoted, IsForm, quoted, Spells, opening}
use Rattle.scan_tokens.specs.Division.{RefusesIn}
use Rattle.scan_tokens.specs.Numbers.{RefusesNumber}
use Rattle.scan_tokens.specs.Steps.{place_after, over, Begins, Opens, IsPair, Takes, Stops, Closes}
use Rattle.scan_tokens.proofs.Lists.{and_true, same_head, all_append, all_prefix, passes_within, fails_beyond}
use Rattle.scan_tokens.proofs.Places.{in_one_line, over_line}
use Rattle.scan_tokens.proofs.Shapes.{longest_space, longest_name, longest_number, longest_string, longest_comment, longest_sign, longest_pair, begins_nothing, quoted_length, sign_is, class_open}

-- ---- bytes that end no line

all_mono : (p r : ℕ → Bool) (w : Text) → ((b : ℕ) → p b ≡ true → r b ≡ true) → list_all p w ≡ true → list_all r w ≡ true
all_mono p r [] h e = refl
all_mono p r (b ∷ w) h e =
    let a = and_true (p b) (list_all p w) e in
    ap (λ v. v && list_all r w) (h b a.0) ∙ all_mono p r w h a.1

line_end_class : (b : ℕ) → is_line_end b ≡ true → class b ≡ Space
unfolding is_line_end class
line_end_class b h = ap class (eqb-true b 10 h)

goes_on : (b : ℕ) → is_line_end b ≡ false → in_one_line b ≡ true
goes_on b h = ap not h

class_goes_on : (b : ℕ) (k : Class) → class b ≡ k → Space ≢ k → in_one_line b ≡ true
class_goes_on b k c apart =
    elim (cases_Bool (is_line_end b)) [ inl e ↦ absurd (apart (sym (line_end_class b e) ∙ c)) | inr e ↦ goes_on b e ]

run_byte_goes_on : (b : ℕ) → is_run_byte b ≡ true → in_one_line b ≡ true
run_byte_goes_on b h =
    elim (cases_Bool (is_line_end b)) [
      | inl e ↦
          (let s : in_run (class b) ≡ false = ap in_run (line_end_class b e) in absurd (cc))
      | inr e ↦ goes_on b e
    ]

or_true : (a b : Bool) → b ≡ true → not (a || b) ≡ true → ⊥
or_true true b e h = cc
or_true false true e h = cc
or_true false false e h = cc

inside_goes_on : (q b : ℕ) → is_inside q b ≡ true → in_one_line b ≡ true
unfolding is_inside is_line_end
inside_goes_on q b h =
    elim (cases_Bool (eqb b 10)) [ inl e ↦ absurd (or_true (eqb b q) (eqb b 10) e h) | inr e ↦ ap not e ]

same_place : {k l m n : ℕ} → k ≡ m → l ≡ n
    → (let p : Pos = record { line = k; col = l } in p) ≡ record { line = m; col = n }
same_place e f = cc

pub opening_line : list_all in_one_line opening ≡ true
unfolding is_line_end
opening_line = refl

pub right_is : (pos q : Pos) (w : Text) → list_all in_one_line w ≡ true → q.line ≡ pos.line → q.col ≡ pos.col + length w
    → q ≡ over pos w
right_is pos q w h line col = same_place line col ∙ sym (over_line pos w h)

-- ---- stops

pub stops_at : (text before : Text) (pos q : Pos) (broken : TokenRule) (e : ScanError)
    → e ≡ Refused (record { pos = q; broken = broken }) → RefusesIn broken text before → q ≡ over pos before
    → ((f : TokenRule) (other : Text) → RefusesIn f text other → length before ≤ length other) → Stops text pos e
stops_at text before pos q broken e is h at least =
    let P : ScanError → Type 0 = λ e. Stops text pos e in
    subst P (sym is) (before, h, at, least)

pub stops_here : (text : Text) (pos : Pos) (broken : TokenRule) (e : ScanError)
    → e ≡ Refused (record { pos = pos; broken = broken }) → RefusesIn broken text [] → Stops text pos e
stops_here text pos broken e is h = stops_at text [] pos pos broken e is h refl (λ f other k. omega arith)

-- ---- spaces

pub space_taken : (text rest : Text) (pos q : Pos) → Begins Space text → rest ≡ drop 1 text
    → q ≡ place_after pos (get_or text 0 0) → Takes text pos None rest q
space_taken text rest pos q h e at =
    let b = h.0 in
    let tail : rest ≡ h.1 = e ∙ ap (drop 1) h.2 in
    let first : get_or text 0 0 ≡ b = ap (λ (t : Text). get_or t 0 0) h.2 in (
      b ∷ [],
      h.2 ∙ ap (λ t. b ∷ t) (sym tail),
      omega arith,
      longest_space b rest h.3,
      inl (b, h.3, refl),
      at
          ∙ ap (place_after pos) first,
    )

pub blank_begins : (text : Text) → eqb (get_or text 0 0) 32 ≡ true → Begins Space text
unfolding class
blank_begins [] h = absurd (cc)
blank_begins (b ∷ bs) h = (b, bs, refl, ap class (eqb-true b 32 h))

-- ---- runs

pub record IsFront (k : Class) (text run rest : Text) (n : ℕ) : Type 0 where
  pub is : text ≡ run ++ rest
  pub count : length run ≡ n
  pub some : 0 < n
  pub most : length run ≡ prefix_len is_run_byte text
  pub runs : IsRun k run
  pub line : list_all in_one_line run ≡ true

run_of : (k : Class) (b : ℕ) (bs run rest : Text) → b ∷ bs ≡ run ++ rest → 0 < length run
    → list_all is_run_byte run ≡ true → class b ≡ k → IsRun k run
run_of k b bs [] rest e some h c = absurd (omega arith)
run_of k b bs (x ∷ run) rest e some h c =
    let first : b ≡ x = same_head e in
    (ap class (sym first) ∙ c, (and_true (is_run_byte x) (list_all is_run_byte run) h).1)

pub run_front : (k : Class) (text run rest : Text) (n : ℕ) → in_run k ≡ true → Begins k text
    → n ≡ prefix_len is_run_byte text → run ≡ take n text → rest ≡ drop n text → IsFront k text run rest n
run_front k text run rest n i h len front back =
    let b = h.0 in
    let within : n ≤ length text = omega (arith, prefix_len-le-length is_run_byte text) in
    let count : length run ≡ n = ap length front ∙ length-take-le n text within in
    let is : text ≡ run ++ rest = sym (take-append-drop n text) ∙ ap (λ w. w ++ drop n text) (sym front)
    ∙ ap (λ w. run ++ w) (sym back) in
    let passes : list_all is_run_byte run ≡ true = ap (list_all is_run_byte) front
    ∙ ap (λ n. list_all is_run_byte (take n text)) len ∙ all_prefix is_run_byte text in
    let first : is_run_byte b ≡ true = ap in_run h.3 ∙ i in
    let one : prefix_len is_run_byte text ≡ 1 + prefix_len is_run_byte h.1 = ap (prefix_len is_run_byte) h.2
    ∙ ap (λ v. cond v (1 + prefix_len is_run_byte h.1) 0) first in
    let some : 0 < length run = omega arith in
    record {
      is = is;
      count = count;
      some = omega arith;
      most = count ∙ len;
      runs = run_of k b h.1 run rest (sym h.2 ∙ is) some passes h.3;
      line = all_mono is_run_byte in_one_line run run_byte_goes_on passes;
    }

pub name_taken : (text run rest : Text) (n : ℕ) (pos q : Pos) (l : Lexeme) → IsFront Letter text run rest n
    → Spells run l → q.line ≡ pos.line → q.col ≡ pos.col + n → Takes text pos (Some l) rest q
name_taken text run rest n pos q l f s line col = (
  run,
  f.is,
  omega (arith, f.some, f.count),
  longest_name text run rest f.is f.most f.runs,
  s,
  right_is pos q run
      f.line line (col ∙ ap (λ n. pos.col + n) (sym f.count)),
)

pub number_taken : (text run rest : Text) (n : ℕ) (pos q : Pos) (l : Lexeme) → IsFront Digit text run rest n
    → Spells run l → q.line ≡ pos.line → q.col ≡ pos.col + n → Takes text pos (Some l) rest q
number_taken text run rest n pos q l f s line col = (
  run,
  f.is,
  omega (arith, f.some, f.count),
  longest_number text run rest f.is f.most f.runs,
  s,
  right_is pos q run
      f.line line (col ∙ ap (λ n. pos.col + n) (sym f.count)),
)

pub name_stops : (text : Text) (n : ℕ) (pos : Pos) (e : ScanError) → Begins Letter text
    → n ≡ prefix_len is_run_byte text → max_name < n → e ≡ Refused (record { pos = pos; broken = LongName })
    → Stops text pos e
name_stops text n pos e h len long is =
    let f = run_front Letter text (take n text) (drop n text) n refl h len refl refl in
    stops_here text pos LongName e is (
      take n text,
      drop n text,
      (f.is, longest_name text (take n text) (drop n text) f.is f.most f.runs),
      f.runs,
      refl,
      omega (arith, f.count),
    )

pub number_stops : (text run rest : Text) (n : ℕ) (pos : Pos) (broken : TokenRule) (e : ScanError)
    → IsFront Digit text run rest n → RefusesNumber run broken → e ≡ Refused (record { pos = pos; broken = broken })
    → Stops text pos e
number_stops text run rest n pos BadNumber e f h is =
    stops_here text pos BadNumber e is (
      run,
      rest,
      (f.is, longest_number text run rest f.is f.most f.runs),
      f.runs,
      refl,
      h,
    )
number_stops text run rest n pos LargeNumber e f h is =
    stops_here text pos LargeNumber e is (
      run,
      rest,
      (f.is, longest_number text run rest f.is f.most f.runs),
      f.runs,
      refl,
      h.0,
      h.1,
      h.2,
      h.3,
    )
number_stops text run rest n pos TooLong e f h is = absurd h
number_stops text run rest n pos StrayByte e f h is = absurd h
number_stops text run rest n pos OpenComment e f h is = absurd h
number_stops text run rest n pos OpenString e f h is = absurd h
number_stops text run rest n pos LongName e f h is = absurd h

-- ---- comments

pub comment_taken : (text behind rest : Text) (pos p q : Pos) → Opens text → behind ≡ drop 2 text → p.line ≡ pos.line
    → p.col ≡ pos.col + 2 → Closes behind p rest q → Takes text pos None rest q
comment_taken text behind rest pos p q h e line col c =
    let tail : behind ≡ h.0 = e ∙ ap (drop 2) h.1 in
    let at : p ≡ over pos opening = right_is pos p opening opening_line line col in (
      40 ∷ 42 ∷ c.0,
      h.1 ∙ ap (λ t. 40 ∷ 42 ∷ t) (sym tail ∙ c.2),
      omega arith,
      longest_comment c.0 rest c.1,
      inr (c.0, c.1, refl),
      c.3 ∙ ap (λ p. over p c.0) at,
    )

-- ---- operators and delimiters

pub pair_taken : (text rest : Text) (pos q : Pos) (s : Symbol) → IsPair text (Some s) → rest ≡ drop 2 text
    → q.line ≡ pos.line → q.col ≡ pos.col + 2 → Takes text pos (Some (lexeme.Symbol s)) rest q
pair_taken text rest pos q s h e line col =
    let b = h.0 in
    let c = h.1 in
    let tail : rest ≡ h.2 = e ∙ ap (drop 2) h.3 in (
      b ∷ c ∷ [],
      h.3 ∙ ap (λ t. b ∷ c ∷ t) (sym tail),
      omega arith,
      longest_pair b c s rest h.4,
      inr h.4,
      right_is pos q (b ∷ c ∷ []) (sign_is (b ∷ c ∷ []) s h.4).line line col,
    )

alone_before : (text : Text) (b : ℕ) (rest : Text) → text ≡ b ∷ rest → (Opens text → ⊥) → IsPair text None
    → (c : ℕ) (t : Text) → rest ≡ c ∷ t → (b ∷ c ∷ [] ≢ opening) × (sign_of (b ∷ c ∷ []) ≡ None)
alone_before text b rest whole no_comment no_pair c t d =
    let two : text ≡ b ∷ c ∷ t = whole ∙ ap (λ t. b ∷ t) d in
    ((λ o. no_comment (t, two ∙ ap (λ (w : Text). w ++ t) o)), no_pair b c t two)

pub sign_taken : (text rest : Text) (pos q : Pos) (s : Symbol) → Begins Other text → (Opens text → ⊥) → IsPair text None
    → sign_of (get_or text 0 0 ∷ []) ≡ Some s → rest ≡ drop 1 text
    → q.line ≡ pos.line → q.col ≡ pos.col + 1 → Takes text pos (Some (lexeme.Symbol s)) rest q
sign_taken text rest pos q s h no_comment no_pair found e line col =
    let b = h.0 in
    let first : get_or text 0 0 ≡ b = ap (λ (t : Text). get_or t 0 0) h.2 in
    let tail : rest ≡ h.1 = e ∙ ap (drop 1) h.2 in
    let sign : sign_of (b ∷ []) ≡ Some s = ap (λ b. sign_of (b ∷ [])) (sym first) ∙ found in
    let whole : text ≡ b ∷ rest = h.2 ∙ ap (λ t. b ∷ t) (sym tail) in (
      b ∷ [],
      whole,
      omega arith,
      longest_sign b s rest h.3 sign (alone_before text b rest whole no_comment no_pair),
      inr
          sign,
      right_is pos q (b ∷ []) (sign_is (b ∷ []) s sign).line line col,
    )

pub stray_stops : (text : Text) (pos : Pos) (e : ScanError) → Begins Other text → sign_of (get_or text 0 0 ∷ []) ≡ None
    → e ≡ Refused (record { pos = pos; broken = StrayByte }) → Stops text pos e
stray_stops text pos e h none is =
    let b = h.0 in
    let first : get_or text 0 0 ≡ b = ap (λ (t : Text). get_or t 0 0) h.2 in
    let nothing : sign_of (b ∷ []) ≡ None = ap (λ b. sign_of (b ∷ [])) (sym first) ∙ none in
    stops_here text pos StrayByte e is (inl (b, h.1, h.2, refl, λ v f. begins_nothing b v h.3 nothing f))

-- ---- strings

string_closed : (q : ℕ) (behind w inside more : Text) (n : ℕ) → q ∷ behind ≡ w ++ more → IsQuoted w inside
    → n ≡ prefix_len (is_inside q) behind → ((n ≡ length behind) ⊎ (get_or behind n 0 ≢ q)) → ⊥
string_closed q behind w inside more n e k len why =
    let size = quoted_length q behind w inside more e k in
    let whole : q ∷ behind ≡ (k.0 ∷ inside ++ k.0 ∷ []) ++ more = e ∙ ap (λ w. w ++ more) k.3 in
    let same : q ≡ k.0 = same_head whole in
    let tail : behind ≡ (inside ++ k.0 ∷ []) ++ more = cc in
    let cut : behind ≡ inside ++ k.0 ∷ more = tail ∙ append_assoc inside (k.0 ∷ []) more in
    let m : length w ≡ length inside + 2 = omega (arith, ap length k.3, length-append inside (k.0 ∷ [])) in
    let count : n ≡ length inside = omega (arith, size, m) in
    let long : length behind ≡ length inside + suc (length more) = ap length cut ∙ length-append inside (k.0 ∷ more) in
    let at : get_or behind n 0 ≡ q = ap (λ (t : Text). get_or t n 0) cut ∙ get_or_at inside k.0 more 0 n (sym count)
    ∙ sym same in
    elim why [ inl all ↦ omega arith | inr other ↦ other at ]

pub string_open : (text behind : Text) (q : ℕ) (n : ℕ) (pos : Pos) (e : ScanError) → Begins Quote text
    → behind ≡ drop 1 text → q ≡ get_or text 0 0 → n ≡ prefix_len (is_inside q) behind
    → ((n ≡ length behind) ⊎ (get_or behind n 0 ≢ q)) → e ≡ Refused (record { pos = pos; broken = OpenString })
    → Stops text pos e
string_open text behind q n pos e h tail first len why is =
    let b = h.0 in
    let same : q ≡ b = first ∙ ap (λ (t : Text). get_or t 0 0) h.2 in
    let rest : behind ≡ h.1 = tail ∙ ap (drop 1) h.2 in
    let whole : text ≡ q ∷ behind = h.2 ∙ ap (λ t. b ∷ t) (sym rest) ∙ ap (λ b. b ∷ behind) (sym same) in
    let never = λ (w : Text) (inside : Text) (more : Text) (d : text ≡ w ++ more) (k : IsQuoted w inside).
    string_closed q behind w inside more n (sym whole ∙ d) k len why in
    stops_here text pos OpenString e is (q, behind, ap class same ∙ h.3, whole, refl, never)

pub record IsString (text inside rest : Text) (q n : ℕ) : Type 0 where
  pub quote : class q ≡ Quote
  pub is : text ≡ (q ∷ inside ++ q ∷ []) ++ rest
  pub inside_line : list_all (is_inside q) inside ≡ true
  pub count : length inside ≡ n

pub string_is : (text behind inside rest : Text) (q n : ℕ) → Begins Quote text → behind ≡ drop 1 text
    → q ≡ get_or text 0 0 → n ≡ prefix_len (is_inside q) behind → n ≢ length behind → get_or behind n 0 ≡ q
    → inside ≡ take n behind → rest ≡ drop (n + 2) text → IsString text inside rest q n
string_is text behind inside rest q n h tail first len short closed front back =
    let b = h.0 in
    let same : q ≡ b = first ∙ ap (λ (t : Text). get_or t 0 0) h.2 in
    let behind_is : behind ≡ h.1 = tail ∙ ap (drop 1) h.2 in
    let within : n ≤ length behind = omega (arith, prefix_len-le-length (is_inside q) behind) in
    let strictly : n < length behind = omega arith in
    let count : length inside ≡ n = ap length front ∙ length-take-le n behind within in
    let cut : behind ≡ inside ++ q ∷ drop (n + 1) behind =
    sym (take-append-drop n behind) ∙ ap (λ w. w ++ drop n behind) (sym front)
    ∙ ap (λ t. inside ++ t) (drop_more behind n 0 strictly ∙ ap (λ c. c ∷ drop (n + 1) behind) closed) in
    let whole : text ≡ (q ∷ inside ++ q ∷ []) ++ drop (n + 1) behind =
    h.2 ∙ ap (λ t. b ∷ t) (sym behind_is) ∙ ap (λ b. b ∷ behind) (sym same)
    ∙ ap (λ t. q ∷ t) (cut ∙ sym (append_assoc inside (q ∷ []) (drop (n + 1) behind))) in
    let size : length (q ∷ inside ++ q ∷ []) ≡ n + 2 = omega (arith, count, length-append inside (q ∷ [])) in
    let left : rest ≡ drop (n + 1) behind = back ∙ ap (drop (n + 2)) whole
    ∙ drop_at (q ∷ inside ++ q ∷ []) (drop (n + 1) behind) (n + 2) size in
    record {
      quote = ap class same ∙ h.3;
      is = whole ∙ ap (λ t. (q ∷ inside ++ q ∷ []) ++ t) (sym left);
      inside_line = ap (list_all (is_inside q)) front ∙ ap (λ n. list_all (is_inside q) (take n behind)) len
          ∙ all_prefix (is_inside q) behind;
      count = count;
    }

quoted_is : (text inside rest : Text) (q n : ℕ) → IsString text inside rest q n → IsQuoted (q ∷ inside ++ q ∷ []) inside
quoted_is text inside rest q n s = (q, s.quote, s.inside_line, refl)

quote_goes_on : (q : ℕ) → class q ≡ Quote → in_one_line q ≡ true
quote_goes_on q c = class_goes_on q Quote c (λ e. cc)

all_join : (p : ℕ → Bool) (v w : Text) → list_all p v ≡ true → list_all p w ≡ true → list_all p (v ++ w) ≡ true
all_join p v w h k = list_all-append p v w ∙ ap (λ b. b && list_all p w) h ∙ k

pub string_taken : (text inside rest : Text) (q n good : ℕ) (pos after : Pos) (bytes : Text)
    → IsString text inside rest q n → good ≡ prefix_len is_printable inside → n ≤ good → bytes ≡ inside
    → after.line ≡ pos.line → after.col ≡ pos.col + (n + 2) → Takes text pos (Some (lexeme.Text bytes)) rest after
string_taken text inside rest q n good pos after bytes s len much same line col =
    let all : take (prefix_len is_printable inside) inside ≡ inside =
    take_all (prefix_len is_printable inside) inside (omega (arith, s.count)) in
    let printable : list_all is_printable inside ≡ true = ap (list_all is_printable) (sym all)
    ∙ all_prefix is_printable inside in
    let goes = all_mono (is_inside q) in_one_line inside (inside_goes_on q) s.inside_line in
    let last : list_all in_one_line (q ∷ []) ≡ true = ap (λ v. v && true) (quote_goes_on q s.quote) in
    let in_line : list_all in_one_line (q ∷ inside ++ q ∷ []) ≡ true =
    ap (λ v. v && list_all in_one_line (inside ++ q ∷ [])) (quote_goes_on q s.quote)
    ∙ all_join in_one_line inside (q ∷ []) goes last in
    let size : length (q ∷ inside ++ q ∷ []) ≡ n + 2 = omega (arith, s.count, length-append inside (q ∷ [])) in (
      q ∷ inside ++ q ∷ [],
      s.is,
      omega (arith, size),
      longest_string (q ∷ inside ++ q ∷ []) inside rest (quoted_is text inside rest q n s),
      (
        (q, s.quote, ap (list_all (is_inside q)) same ∙ s.inside_line, ap (λ t. q ∷ t ++ q ∷ []) (sym same)),
        ap
            (list_all is_printable) same ∙ printable,
      ),
      right_is pos after (q ∷ inside ++ q ∷ []) in_line line (col ∙ ap (λ n. pos.col + n) (sym size)),
    )

prefix_more : (p : ℕ → Bool) (v w : Text) → prefix_len p v ≤ prefix_len p (v ++ w)
prefix_more p v w =
    let n = prefix_len p v in
    let within : n ≤ length v = prefix_len-le-length p v in
    let h = passes_within p (take n v) (drop n v ++ w) (all_prefix p v) in
    let e : take n v ++ (drop n v ++ w) ≡ v ++ w = sym (append_assoc (take n v) (drop n v) w)
    ∙ ap (λ t. t ++ w) (take-append-drop n v) in
    omega (arith, h, ap (prefix_len p) e, length-take-le n v within)

run_no_quote : (k : Class) (w : Text) → IsRun k w → (q : ℕ) (t more : Text) → q ∷ t ≡ w ++ more → class q ≡ Quote
    → Quote ≢ k → ⊥
run_no_quote k [] r q t more e c apart = r
run_no_quote k (x ∷ w) r q t more e c apart = apart (sym c ∙ ap class (same_head e) ∙ r.0)

-- A string that is closed has no refusal before its first byte that may not stand there.
stray_least : (text inside rest : Text) (q n : ℕ) (broken : TokenRule) (other : Text) → IsString text inside rest q n
    → RefusesIn broken text other → prefix_len is_printable inside < length inside
    → prefix_len is_printable inside < length other
stray_least text inside rest q n TooLong other s h few = absurd h
stray_least text inside rest q n StrayByte other s (inl k) few =
    let same : k.0 ≡ q = same_head (sym k.2 ∙ s.is) in
    let P : ℕ → Type 0 = λ b. IsForm (b ∷ inside ++ q ∷ []) in
    absurd (k.4 (inside ++ q ∷ []) (subst P (sym same)
    (quoted (q ∷ inside ++ q ∷ []) inside (quoted_is text inside rest q n s))))
stray_least text inside rest q n StrayByte other s (inr k) few =
    let whole : q ∷ (inside ++ q ∷ []) ++ rest ≡ k.0 ∷ k.2 ++ k.1 ∷ k.3 = sym s.is ∙ k.8 in
    let tails : (inside ++ q ∷ []) ++ rest ≡ k.2 ++ k.1 ∷ k.3 = cc in
    let lists : inside ++ q ∷ rest ≡ k.2 ++ k.1 ∷ k.3 = sym (append_assoc inside (q ∷ []) rest) ∙ tails in
    let beyond = fails_beyond is_printable k.2 k.1 k.3 k.7 in
    let within = prefix_more is_printable inside (q ∷ rest) in
    let same = ap (prefix_len is_printable) lists in
    omega (arith, ap length k.9, beyond, within, same)
stray_least text inside rest q n OpenComment other s h few =
    let same : q ≡ 40 = same_head (sym s.is ∙ h.1) in
    let c : Quote ≡ Other = sym s.quote ∙ ap class same ∙ class_open in
    absurd (cc)
stray_least text inside rest q n OpenString other s h few =
    absurd (h.5 (q ∷ inside ++ q ∷ []) inside rest s.is (quoted_is text inside rest q n s))
stray_least text inside rest q n BadNumber other s h few =
    absurd (run_no_quote Digit h.0 h.3 q ((inside ++ q ∷ []) ++ rest) h.1 (sym s.is ∙ h.2.0) s.quote (λ e. cc))
stray_least text inside rest q n LargeNumber other s h few =
    absurd (run_no_quote Digit h.0 h.3 q ((inside ++ q ∷ []) ++ rest) h.1 (sym s.is ∙ h.2.0) s.quote (λ e. cc))
stray_least text inside rest q n LongName other s h few =
    absurd (run_no_quote Letter h.0 h.3 q ((inside ++ q ∷ []) ++ rest) h.1 (sym s.is ∙ h.2.0) s.quote (λ e. cc))

pub string_stops : (text inside rest : Text) (q n good : ℕ) (pos p : Pos) (e : ScanError)
    → IsString text inside rest q n → good ≡ prefix_len is_printable inside → good < n
    → p.line ≡ pos.line → p.col ≡ pos.col + (good + 1) → e ≡ Refused (record { pos = p; broken = StrayByte })
    → Stops text pos e
string_stops text inside rest q n good pos p e s len few line col is =
    let within : good < length inside = omega (arith, s.count) in
    let front = take good inside in
    let count : length front ≡ good = length-take-le good inside (omega arith) in
    let bad = get_or inside good 0 in
    let cut : inside ≡ front ++ bad ∷ drop (good + 1) inside = sym (take-append-drop good inside)
    ∙ ap (λ t. front ++ t) (drop_more inside good 0 within) in
    let fails : is_printable bad ≡ false = ap (λ n. is_printable (get_or inside n 0)) len
    ∙ prefix_len_stops is_printable inside 0 (omega arith) in
    let parts = all_append (is_inside q) front (bad ∷ drop (good + 1) inside)
    (ap (list_all (is_inside q)) (sym cut) ∙ s.inside_line) in
    let bad_inside : is_inside q bad ≡ true =
    (and_true (is_inside q bad) (list_all (is_inside q) (drop (good + 1) inside)) parts.1).0 in
    let more = drop (good + 1) inside ++ q ∷ rest in
    let whole : text ≡ q ∷ front ++ bad ∷ more =
    s.is ∙ ap (λ t. q ∷ t) (append_assoc inside (q ∷ []) rest ∙ ap (λ t. t ++ q ∷ rest) cut
    ∙ append_assoc front (bad ∷ drop (good + 1) inside) (q ∷ rest)) in
    let goes = all_mono (is_inside q) in_one_line front (inside_goes_on q) parts.0 in
    let in_line : list_all in_one_line (q ∷ front) ≡ true =
    ap (λ v. v && list_all in_one_line front) (quote_goes_on q s.quote) ∙ goes in
    let size : length (q ∷ front) ≡ good + 1 = omega arith in
    stops_at text (q ∷ front) pos p StrayByte e is
    (inr (q, bad, front, more, s.quote, parts.0, bad_inside, fails, whole, refl))
    (right_is pos p (q ∷ front) in_line line (col ∙ ap (λ n. pos.col + n) (sym size)))
    (λ f other h. omega (arith, size, len, stray_least text inside rest q n f other s h (omega (arith, within, len))))
