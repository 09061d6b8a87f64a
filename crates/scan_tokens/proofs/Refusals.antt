-- A text has one refusal.
use Rattle.std.proofs.Common.{◌≡◌, ◌≤◌, ◌<◌, ℕ, [], ◌∷◌, ◌++◌, length, ◌⊎◌, inl, inr, ap, sym, refl, ◌∙◌, subst, length-append, arith}
use Rattle.m2_tree.specs.declared.pos.Pos.{Pos}
use Rattle.scan_tokens.specs.declared.class.Class.{Class}
use Rattle.scan_tokens.specs.declared.class.Class.TheVariants.{Space, Letter, Digit, Quote, Other}
use Rattle.scan_tokens.specs.declared.number.Numeral.{Numeral}
use Rattle.scan_tokens.specs.declared.refusal.TokenRule.{TokenRule}
use Rattle.scan_tokens.specs.declared.refusal.TokenRule.TheVariants.{TooLong, StrayByte, OpenComment, OpenString, BadNumber, LargeNumber, LongName}
use Rattle.scan_tokens.specs.declared.refusal.ScanRefusal.{ScanRefusal}
use Rattle.scan_tokens.specs.Bytes.{Text, class}
use Rattle.scan_tokens.specs.Numbers.{Writes}
use Rattle.scan_tokens.specs.Forms.{IsRun, IsForm, space, name, number, quoted, opened, IsLongest}
use Rattle.scan_tokens.specs.Division.{Refuses, RefusesIn, bytes_of, place}
use Rattle.scan_tokens.proofs.Lists.{same_head, same_cut}
use Rattle.scan_tokens.proofs.Shapes.{class_open}
use Rattle.scan_tokens.proofs.Divisions.{longest_once, stuck_once, refuses_stuck}

-- what a fault is, by the class of the first byte
abbrev FaultOf : Class → TokenRule → Text → Text → Type 0
FaultOf Space f rest before = ⊥
FaultOf Letter f rest before = (before ≡ []) × (f ≡ LongName)
FaultOf Digit f rest before =
    (before ≡ []) × (w : Text) × (more : Text) × (rest ≡ w ++ more) × IsLongest w more
    × (((f ≡ BadNumber) × ((form : Numeral) (n : ℕ) → Writes w form n → ⊥))
    ⊎ ((f ≡ LargeNumber) × ((form : Numeral) × (n : ℕ) × Writes w form n)))
FaultOf Quote f rest before = ((before ≡ []) × (f ≡ OpenString))
    ⊎ ((f ≡ StrayByte) × (0 < length before) × (more : Text) × (rest ≡ before ++ more))
FaultOf Other f rest before =
    (before ≡ []) × (((f ≡ StrayByte) × ((t : Text) → rest ≡ 40 ∷ 42 ∷ t → ⊥))
    ⊎ ((f ≡ OpenComment) × ((t : Text) × (rest ≡ 40 ∷ 42 ∷ t))))

abbrev FaultAt : TokenRule → Text → Text → Type 0
FaultAt f rest before = (b : ℕ) × (t : Text) × (rest ≡ b ∷ t) × FaultOf (class b) f rest before

at_class : (f : TokenRule) (rest before : Text) (b : ℕ) (t : Text) (k : Class) → rest ≡ b ∷ t → class b ≡ k
    → FaultOf k f rest before → FaultAt f rest before
at_class f rest before b t k e c h = let P : Class → Type 0 = λ c. FaultOf c f rest before in
    (b, t, e, subst P (sym c) h)

at_run : (f : TokenRule) (k : Class) (rest before w more : Text) → IsRun k w → rest ≡ w ++ more
    → FaultOf k f rest before → FaultAt f rest before
at_run f k rest before [] more r e h = absurd r
at_run f k rest before (b ∷ w) more r e h = at_class f rest before b (w ++ more) k e r.0 h

stray_class : (b : ℕ) (k : Class) → class b ≡ k → ((v : Text) → IsForm (b ∷ v) → ⊥) → k ≡ Other
stray_class b Space c none = absurd (none [] (space b c))
stray_class b Letter c none = absurd (none [] (name (b ∷ []) (c, refl)))
stray_class b Digit c none = absurd (none [] (number (b ∷ []) (c, refl)))
stray_class b Quote c none = absurd (none (b ∷ []) (quoted (b ∷ b ∷ []) [] (b, c, refl, refl)))
stray_class b Other c none = refl

stray_opens : (b : ℕ) (more t rest : Text) → rest ≡ b ∷ more → ((v : Text) → IsForm (b ∷ v) → ⊥) → rest ≡ 40 ∷ 42 ∷ t
    → ⊥
stray_opens b more t rest e none d =
    let P : ℕ → Type 0 = λ b. IsForm (b ∷ 42 ∷ []) in
    none (42 ∷ []) (subst P (sym (same_head (sym e ∙ d))) opened)

fault_at : (f : TokenRule) (rest before : Text) → RefusesIn f rest before → FaultAt f rest before
fault_at TooLong rest before r = absurd r
fault_at StrayByte rest before (inl r) =
    at_class StrayByte rest before r.0 r.1 Other r.2 (stray_class r.0 (class r.0) refl r.4)
    (r.3, inl (refl, λ t d. stray_opens r.0 r.1 t rest r.2 r.4 d))
fault_at StrayByte rest before (inr r) =
    let some : 0 < length before = omega (arith, ap length r.9) in
    at_class StrayByte rest before r.0 (r.2 ++ r.1 ∷ r.3) Quote r.8 r.4
    (inr (refl, some, r.1 ∷ r.3, r.8 ∙ ap (λ w. w ++ r.1 ∷ r.3) (sym r.9)))
fault_at OpenComment rest before r = at_class OpenComment rest before 40 (42 ∷ r.0) Other r.1 class_open
    (r.2, inr (refl, (r.0, r.1)))
fault_at OpenString rest before r = at_class OpenString rest before r.0 r.1 Quote r.3 r.2 (inl (r.4, refl))
fault_at BadNumber rest before r = at_run BadNumber Digit rest before r.0 r.1 r.3 r.2.0
    (r.4, r.0, r.1, r.2.0, r.2.1, inl (refl, r.5))
fault_at LargeNumber rest before r = at_run LargeNumber Digit rest before r.0 r.1 r.3 r.2.0
    (r.4, r.0, r.1, r.2.0, r.2.1, inr (refl, (r.5, r.6, r.7)))
fault_at LongName rest before r = at_run LongName Letter rest before r.0 r.1 r.3 r.2.0 (r.4, refl)

number_fault : (w v : Text) (f g : TokenRule) → w ≡ v
    → ((f ≡ BadNumber) × ((form : Numeral) (n : ℕ) → Writes w form n → ⊥))
    ⊎ ((f ≡ LargeNumber) × ((form : Numeral) × (n : ℕ) × Writes w form n))
    → ((g ≡ BadNumber) × ((form : Numeral) (n : ℕ) → Writes v form n → ⊥))
    ⊎ ((g ≡ LargeNumber) × ((form : Numeral) × (n : ℕ) × Writes v form n)) → f ≡ g
number_fault w v f g same (inl h) (inl k) = h.0 ∙ sym k.0
number_fault w v f g same (inl h) (inr k) = let P : Text → Type 0 = λ v. Writes v k.1.0 k.1.1 in
    absurd (h.1 k.1.0 k.1.1 (subst P (sym same) k.1.2))
number_fault w v f g same (inr h) (inl k) = let P : Text → Type 0 = λ w. Writes w h.1.0 h.1.1 in
    absurd (k.1 h.1.0 h.1.1 (subst P same h.1.2))
number_fault w v f g same (inr h) (inr k) = h.0 ∙ sym k.0

other_fault : (rest : Text) (f g : TokenRule)
    → ((f ≡ StrayByte) × ((t : Text) → rest ≡ 40 ∷ 42 ∷ t → ⊥))
    ⊎ ((f ≡ OpenComment) × ((t : Text) × (rest ≡ 40 ∷ 42 ∷ t)))
    → ((g ≡ StrayByte) × ((t : Text) → rest ≡ 40 ∷ 42 ∷ t → ⊥))
    ⊎ ((g ≡ OpenComment) × ((t : Text) × (rest ≡ 40 ∷ 42 ∷ t))) → f ≡ g
other_fault rest f g (inl h) (inl k) = h.0 ∙ sym k.0
other_fault rest f g (inl h) (inr k) = absurd (h.1 k.1.0 k.1.1)
other_fault rest f g (inr h) (inl k) = absurd (k.1 h.1.0 h.1.1)
other_fault rest f g (inr h) (inr k) = h.0 ∙ sym k.0

one_of : (k : Class) (f g : TokenRule) (rest b c : Text) → FaultOf k f rest b → FaultOf k g rest c → length b ≡ length c
    → (f ≡ g) × (b ≡ c)
one_of Space f g rest b c h k n = absurd h
one_of Letter f g rest b c h k n = (h.1 ∙ sym k.1, h.0 ∙ sym k.0)
one_of Quote f g rest b c (inl h) (inl k) n = (h.1 ∙ sym k.1, h.0 ∙ sym k.0)
one_of Quote f g rest b c (inl h) (inr k) n = absurd (omega (arith, ap length h.0, k.1))
one_of Quote f g rest b c (inr h) (inl k) n = absurd (omega (arith, ap length k.0, h.1))
one_of Quote f g rest b c (inr h) (inr k) n = (h.0 ∙ sym k.0, (same_cut b c h.2 k.2 (sym h.3 ∙ k.3) n).0)
one_of Digit f g rest b c h k n =
    let same = (longest_once h.1 h.2 k.1 k.2 h.4 k.4 (sym h.3 ∙ k.3)).0 in
    (number_fault h.1 k.1 f g same h.5 k.5, h.0 ∙ sym k.0)
one_of Other f g rest b c h k n = (other_fault rest f g h.1 k.1, h.0 ∙ sym k.0)

-- A place has one fault.
one_fault : (f g : TokenRule) (rest b c : Text) → RefusesIn f rest b → RefusesIn g rest c → length b ≡ length c
    → (f ≡ g) × (b ≡ c)
one_fault f g rest b c h k n =
    let p = fault_at f rest b h in
    let q = fault_at g rest c k in
    let same : q.0 ≡ p.0 = same_head (sym q.2 ∙ p.2) in
    let P : ℕ → Type 0 = λ x. FaultOf (class x) g rest c in
    one_of (class p.0) f g rest b c p.3 (subst P same q.3) n

same_refusal : (r q : ScanRefusal) → r.pos ≡ q.pos → r.broken ≡ q.broken → r ≡ q
same_refusal r q e f =
    let p : (r.pos, r.broken) ≡ (q.pos, q.broken) = cc in
    ap (λ (p : Pos × TokenRule). record { pos = p.0; broken = p.1 }) p

-- A text has one refusal.
pub one_refusal : (text : Text) (r q : ScanRefusal) → Refuses text r → Refuses text q → r ≡ q
one_refusal text r q (inl h) (inl k) = same_refusal r q (h.2 ∙ sym k.2) (h.1 ∙ sym k.1)
one_refusal text r q (inl h) (inr k) = absurd (omega (arith, h.0, k.0))
one_refusal text r q (inr h) (inl k) = absurd (omega (arith, h.0, k.0))
one_refusal text r q (inr h) (inr k) =
    let f = h.2 in
    let g = k.2 in
    let same = stuck_once text f.3.0 g.3.0 f.1 g.1 (refuses_stuck r.broken f.1 f.2 f.4)
    (refuses_stuck q.broken g.1 g.2 g.4) f.3.1 g.3.1 in
    let fronts : f.0 ≡ g.0 = f.3.2 ∙ ap bytes_of same.0 ∙ sym g.3.2 in
    let below : length h.1 ≤ length k.1 = h.4 q.broken k.1 g in
    let above : length k.1 ≤ length h.1 = k.4 r.broken h.1 f in
    let n : length f.2 ≡ length g.2 = omega (
      arith,
      below,
      above,
      ap length f.5,
      ap length g.5,
      ap length fronts,
      length-append f.0 f.2,
      length-append g.0
          g.2,
    ) in
    let P : Text → Type 0 = λ t. RefusesIn q.broken t g.2 in
    let one = one_fault r.broken q.broken f.1 f.2 g.2 f.4 (subst P (sym same.1) g.4) n in
    let places : h.1 ≡ k.1 = f.5 ∙ ap (λ a. a ++ f.2) fronts ∙ ap (λ b. g.0 ++ b) one.1 ∙ sym g.5 in
    same_refusal r q (h.3 ∙ ap place places ∙ sym k.3) one.0
