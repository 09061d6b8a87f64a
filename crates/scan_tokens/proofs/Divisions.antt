-- A text divides in one way, and no member stands where one is refused.
use Rattle.std.proofs.Common.{◌≡◌, ◌≤◌, ◌<◌, ℕ, ◌+◌, Bool, true, false, List, [], ◌∷◌, ◌++◌, length, Option, Some, None, option_map, ◌&&◌, inl, inr, ap, sym, refl, ◌∙◌, subst, append_assoc, append-nil, length-append, arith}
use Rattle.std.specs.List.{list_all, prefix_len}
use Rattle.std.proofs.lemmas.List.Folds.{list_all-append}
use Rattle.m2_tree.specs.declared.token.Lexeme.{Lexeme}
use Rattle.m2_tree.specs.declared.token.Lexeme.TheVariants as lexeme
use Rattle.scan_tokens.specs.declared.class.Class.{Class}
use Rattle.scan_tokens.specs.declared.class.Class.TheVariants.{Letter, Digit, Quote, Other}
use Rattle.scan_tokens.specs.declared.refusal.TokenRule.{TokenRule}
use Rattle.scan_tokens.specs.declared.refusal.TokenRule.TheVariants.{TooLong, StrayByte, OpenComment, OpenString, BadNumber, LargeNumber, LongName}
use Rattle.scan_tokens.specs.declared.number.Numeral.{Numeral}
use Rattle.scan_tokens.specs.Numbers.{Writes, limit}
use Rattle.scan_tokens.specs.Symbols.{sign_of}
use Rattle.scan_tokens.specs.Bytes.{Text, is_printable, is_inside}
use Rattle.scan_tokens.specs.Forms.{IsRun, IsQuoted, IsClosed, IsForm, opened, IsLongest, IsMember, Member, opening}
use Rattle.scan_tokens.specs.Division.{Divides, bytes_of, tokens_behind, tokens_at, place, RefusesIn}
use Rattle.scan_tokens.proofs.Lists.{and_true, same_head, same_cut, all_append, passes_within, inner_cut}
use Rattle.scan_tokens.proofs.Levels.{closed_two}
use Rattle.scan_tokens.proofs.Shapes.{sorted, front_form, quoted_length, sign_length, no_sign_opens, class_open}
use Rattle.scan_tokens.proofs.Numerals.{written_once}
use Rattle.scan_tokens.proofs.Meanings.{MeansOf, means, means_at, means_once, last_of}

-- Two longest forms at one place are one.
pub longest_once : (w r v t : Text) → IsLongest w r → IsLongest v t → w ++ r ≡ v ++ t → (w ≡ v) × (r ≡ t)
longest_once w r v t h k e =
    let a = h.longest v t e k.form in
    let b = k.longest w r (sym e) h.form in
    same_cut w v r t e (omega arith)

pub member_some : (w more : Text) (m : Option Lexeme) → IsMember (w, m) → w ++ more ≡ [] → ⊥
member_some w more m h e = let a = means w m h in
    let f : (a.0 ∷ a.1) ++ more ≡ [] = ap (λ w. w ++ more) (sym a.2) ∙ e in cc

-- No member stands at the front.
abbrev pub IsStuck : Text → Type 0
IsStuck rest = (w more : Text) (m : Option Lexeme) → rest ≡ w ++ more → IsLongest w more → IsMember (w, m) → ⊥

pub end_stuck : IsStuck []
end_stuck w more m e l h = member_some w more m h (sym e)

pair : (w v : Text) (m n : Option Lexeme) → w ≡ v → m ≡ n → (let p : Member = (w, m) in p) ≡ (v, n)
pair w v m n e f = cc

-- Two divisions that go on as far as they can are one.
pub stuck_once : (text : Text) (ms ns : List Member) (rest other : Text) → IsStuck rest → IsStuck other
    → Divides text ms rest → Divides text ns other → (ms ≡ ns) × (rest ≡ other)
stuck_once text [] [] rest other s t h k = (refl, sym h ∙ k)
stuck_once text [] (n ∷ ns) rest other s t h k = absurd (s n.0 k.0 n.1 (sym h ∙ k.1) k.2 k.3)
stuck_once text (m ∷ ms) [] rest other s t h k = absurd (t m.0 h.0 m.1 (sym k ∙ h.1) h.2 h.3)
stuck_once text (m ∷ ms) (n ∷ ns) rest other s t h k =
    let same = longest_once m.0 h.0 n.0 k.0 h.2 k.2 (sym h.1 ∙ k.1) in
    let P : Text → Type 0 = λ w. IsMember (w, n.1) in
    let says : m.1 ≡ n.1 = means_once m.0 m.1 n.1 h.3 (subst P (sym same.0) k.3) in
    let Q : Text → Type 0 = λ t. Divides t ns other in
    let rests = stuck_once h.0 ms ns rest other s t h.4 (subst Q (sym same.1) k.4) in
    ((let first : m ≡ n = pair m.0 n.0 m.1 n.1 same.0 says in cc (rests.0)), rests.1)

pub divides_once : (text : Text) (ms ns : List Member) → Divides text ms [] → Divides text ns [] → ms ≡ ns
divides_once text ms ns h k = (stuck_once text ms ns [] [] end_stuck end_stuck h k).0

-- ---- one member more

pub divides_push : (text : Text) (ms : List Member) (rest w more : Text) (m : Option Lexeme) → Divides text ms rest
    → rest ≡ w ++ more → IsLongest w more → IsMember (w, m) → Divides text (ms ++ (w, m) ∷ []) more
divides_push text [] rest w more m h e l k = (more, h ∙ e, l, k, refl)
divides_push text (n ∷ ms) rest w more m h e l k = (h.0, h.1, h.2, h.3, divides_push h.0 ms rest w more m h.4 e l k)

pub bytes_push : (ms : List Member) (m : Member) → bytes_of (ms ++ m ∷ []) ≡ bytes_of ms ++ m.0
bytes_push [] m = append-nil m.0
bytes_push (n ∷ ms) m = ap (λ t. n.0 ++ t) (bytes_push ms m) ∙ sym (append_assoc n.0 (bytes_of ms) m.0)

pub tokens_push : (front : Text) (ms : List Member) (m : Member)
    → tokens_behind front (ms ++ m ∷ []) ≡ tokens_behind front ms ++ tokens_at (place (front ++ bytes_of ms)) m.1
tokens_push front [] m = append-nil (tokens_at (place front) m.1)
    ∙ ap (λ t. tokens_at (place t) m.1) (sym (append-nil front))
tokens_push front (n ∷ ms) m =
    ap (λ ts. tokens_at (place front) n.1 ++ ts)
    (tokens_push (front ++ n.0) ms m ∙ ap (λ t. tokens_behind (front ++ n.0) ms ++ tokens_at (place t) m.1)
    (append_assoc front n.0 (bytes_of ms)))
    ∙ sym (append_assoc (tokens_at (place front) n.1) (tokens_behind (front ++ n.0) ms)
    (tokens_at (place (front ++ (n.0 ++ bytes_of ms))) m.1))

pub divides_whole : (text : Text) (ms : List Member) (rest : Text) → Divides text ms rest → text ≡ bytes_of ms ++ rest
divides_whole text [] rest h = h
divides_whole text (m ∷ ms) rest h = h.1 ∙ ap (λ t. m.0 ++ t) (divides_whole h.0 ms rest h.4)
    ∙ sym (append_assoc m.0 (bytes_of ms) rest)

-- ---- refusals

passes_both : (p : ℕ → Bool) (v : Text) (b : ℕ) → list_all p v ≡ true → p b ≡ true → list_all p (v ++ b ∷ []) ≡ true
passes_both p v b h k = list_all-append p v (b ∷ []) ∙ ap (λ x. x && (p b && true)) h ∙ ap (λ x. x && true) k

opening_says : (w : Text) (m : Option Lexeme) → w ≡ opening → IsMember (w, m) → ⊥
opening_says w None e (inl s) = let f : s.0 ∷ [] ≡ 40 ∷ 42 ∷ [] = sym s.2 ∙ e in cc
opening_says w None e (inr c) =
    let two = closed_two c.0 c.1 in
    omega (arith, ap length e, ap length c.2, ap length two.3)
opening_says w (Some t) e h =
    let k : Some t ≡ option_map lexeme.Symbol (sign_of w) =
    means_at Other 40 (42 ∷ []) w [] (Some t) (sym e ∙ sym (append-nil w)) class_open h in
    let none : Some t ≡ None = k ∙ ap (λ w. option_map lexeme.Symbol (sign_of w)) e
    ∙ ap (option_map lexeme.Symbol) no_sign_opens in
    cc

pub large_stuck : (v : Text) (form other : Numeral) (n l : ℕ) → IsRun Digit v → Writes v form n → Writes v other l
    → limit form ≤ n → l < limit other → ⊥
large_stuck [] form other n l r h k much few = r
large_stuck (b ∷ v) form other n l r h k much few =
    let last = last_of b v in
    let same = written_once (b ∷ v) form other n l last.0 last.1 last.2 h k in
    omega (arith, much, few, ap limit same.0, same.1)

run_some : (k : Class) (w more : Text) → IsRun k w → w ++ more ≡ [] → ⊥
run_some k [] more r e = r
run_some k (b ∷ w) more r e = cc

stray_stuck : (b : ℕ) (more w m : Text) (t : Option Lexeme) → b ∷ more ≡ w ++ m → ((v : Text) → IsForm (b ∷ v) → ⊥)
    → IsForm w → ⊥
stray_stuck b more w m t e none f =
    let s = sorted w f in
    let same : b ≡ s.0 = same_head (e ∙ ap (λ w. w ++ m) s.2) in
    let whole : w ≡ b ∷ s.1 = s.2 ∙ ap (λ x. x ∷ s.1) (sym same) in
    let P : Text → Type 0 = IsForm in
    none s.1 (subst P whole f)

in_string_stuck : (q b : ℕ) (inside more w after i : Text) → list_all (is_inside q) inside ≡ true → is_inside q b ≡ true
    → is_printable b ≡ false → q ∷ inside ++ b ∷ more ≡ w ++ after
    → IsQuoted w i → list_all is_printable i ≡ true → ⊥
in_string_stuck q b inside more w after i all here fails e k printable =
    let whole : q ∷ inside ++ b ∷ more ≡ (k.0 ∷ i ++ k.0 ∷ []) ++ after = e ∙ ap (λ w. w ++ after) k.3 in
    let same : q ≡ k.0 = same_head whole in
    let tails : inside ++ b ∷ more ≡ (i ++ k.0 ∷ []) ++ after = cc in
    let cut : inside ++ b ∷ more ≡ i ++ k.0 ∷ after = tails ∙ append_assoc i (k.0 ∷ []) after in
    let size = quoted_length q (inside ++ b ∷ more) w i after e k in
    let length_is : length w ≡ length i + 2 = omega (arith, ap length k.3, length-append i (k.0 ∷ [])) in
    let far = passes_within (is_inside q) (inside ++ b ∷ []) more (passes_both (is_inside q) inside b all here) in
    let lists : (inside ++ b ∷ []) ++ more ≡ inside ++ b ∷ more = append_assoc inside (b ∷ []) more in
    let longer : length inside < length i =
    omega (arith, far, ap (prefix_len (is_inside q)) lists, size, length_is, length-append inside (b ∷ [])) in
    let u = inner_cut inside b more i (k.0 ∷ after) cut longer in
    let parts = all_append is_printable inside (b ∷ u.0) (ap (list_all is_printable) (sym u.1) ∙ printable) in
    let passes = (and_true (is_printable b) (list_all is_printable u.0) parts.1).0 in
    let bad : true ≡ false = sym passes ∙ fails in
    cc

comment_stuck : (behind w more : Text) (m : Option Lexeme) → 40 ∷ 42 ∷ behind ≡ w ++ more → IsLongest w more
    → IsMember (w, m) → ((bs more : Text) → behind ≡ bs ++ more → IsClosed bs → ⊥) → ⊥
comment_stuck behind w more m e l h never =
    let long = l.longest opening behind (sym e) opened in
    elim (front_form Other 40 (42 ∷ behind) w more class_open e l.form) [
      | inl k ↦ (let two : length opening ≡ length w = omega (arith, long, sign_length w k.0 k.1) in
          let same = (same_cut opening w behind more e two).0 in
          let none : Some k.0 ≡ None = sym k.1 ∙ ap sign_of (sym same) ∙ no_sign_opens in
          cc)
      | inr k ↦ elim k [
        | inl c ↦ (let whole : 40 ∷ 42 ∷ behind ≡ (40 ∷ 42 ∷ c.0) ++ more = e ∙ ap (λ w. w ++ more) c.2 in
            let tail : behind ≡ c.0 ++ more = cc in
            never c.0 more tail c.1)
        | inr o ↦ opening_says w m o h
      ]
    ]

run_stuck : (k : Class) (rest w more v after : Text) (m : Option Lexeme) → IsRun k v → rest ≡ v ++ after
    → IsLongest v after → rest ≡ w ++ more → IsLongest w more → IsMember (w, m) → MeansOf k v m
run_stuck k rest w more [] after m r e l d j h = absurd r
run_stuck k rest w more (b ∷ v) after m r e l d j h =
    let same = (longest_once w more (b ∷ v) after j l (sym d ∙ e)).0 in
    let P : Text → Type 0 = λ w. IsMember (w, m) in
    means_at k b v (b ∷ v) [] m (sym (append-nil (b ∷ v))) r.0 (subst P same h)

-- Where something is refused, no member stands.
pub refuses_stuck : (broken : TokenRule) (rest before : Text) → RefusesIn broken rest before → IsStuck rest
refuses_stuck TooLong rest before r w more m e l h = r
refuses_stuck StrayByte rest before (inl r) w more m e l h = stray_stuck r.0 r.1 w more m (sym r.2 ∙ e) r.4 l.form
refuses_stuck StrayByte rest before (inr r) w more m e l h =
    let d = sym r.8 ∙ e in
    let k = means_at Quote r.0 (r.2 ++ r.1 ∷ r.3) w more m d r.4 h in
    in_string_stuck r.0 r.1 r.2 r.3 w more k.0 r.5 r.6 r.7 d k.1 k.2
refuses_stuck OpenComment rest before r w more m e l h = comment_stuck r.0 w more m (sym r.1 ∙ e) l h r.3
refuses_stuck OpenString rest before r w more m e l h =
    let k = means_at Quote r.0 r.1 w more m (sym r.3 ∙ e) r.2 h in
    r.5 w k.0 more e k.1
refuses_stuck BadNumber rest before r w more m e l h =
    let k = run_stuck Digit rest w more r.0 r.1 m r.3 r.2.0 r.2.1 e l h in
    r.5 k.0 k.1 k.2
refuses_stuck LargeNumber rest before r w more m e l h =
    let k = run_stuck Digit rest w more r.0 r.1 m r.3 r.2.0 r.2.1 e l h in
    large_stuck r.0 r.5 k.0 r.6 k.1 r.3 r.7 k.2 r.8 k.3
refuses_stuck LongName rest before r w more m e l h =
    let k = run_stuck Letter rest w more r.0 r.1 m r.3 r.2.0 r.2.1 e l h in
    omega (arith, k.0, r.5)

-- Something stands where something is refused.
pub refuses_some : (broken : TokenRule) (rest before : Text) → RefusesIn broken rest before → rest ≡ [] → ⊥
refuses_some TooLong rest before r e = r
refuses_some StrayByte rest before (inl r) e = let f : r.0 ∷ r.1 ≡ [] = sym r.2 ∙ e in cc
refuses_some StrayByte rest before (inr r) e = let f : r.0 ∷ r.2 ++ r.1 ∷ r.3 ≡ [] = sym r.8 ∙ e in cc
refuses_some OpenComment rest before r e = let f : 40 ∷ 42 ∷ r.0 ≡ [] = sym r.1 ∙ e in cc
refuses_some OpenString rest before r e = let f : r.0 ∷ r.1 ≡ [] = sym r.3 ∙ e in cc
refuses_some BadNumber rest before r e = run_some Digit r.0 r.1 r.3 (sym r.2.0 ∙ e)
refuses_some LargeNumber rest before r e = run_some Digit r.0 r.1 r.3 (sym r.2.0 ∙ e)
refuses_some LongName rest before r e = run_some Letter r.0 r.1 r.3 (sym r.2.0 ∙ e)
