-- Comments by how many levels are open.
use Rattle.std.proofs.Common.{◌≡◌, ◌≢◌, ℕ, zero, suc, [], ◌∷◌, ◌++◌, ap, sym, refl, ◌∙◌, append_assoc, append-nil, length, length-append, subst, arith}
use Rattle.scan_tokens.proofs.Lists.{same_cut, same_head}
use Rattle.scan_tokens.specs.Bytes.{Text}
use Rattle.scan_tokens.specs.Forms.{IsClosed, close, other, inner, opening, closing}

-- Two closed parts at one place end at one place.
pub closed_once : (a : Text) → IsClosed a → (b : Text) → IsClosed b → (r t : Text) → a ++ r ≡ b ++ t
    → length a ≡ length b
closed_once _ close _ close r t e = refl
closed_once _ close _ (other x y bs no_open no_close p) r t e =
    absurd (no_close (let h : x ≡ 42 = cc in let k : y ≡ 41 = cc in cc))
closed_once _ close _ (inner bs cs p q) r t e = absurd (omega (arith, same_head e))
closed_once _ (other x y zs no_open no_close p) _ close r t e =
    absurd (no_close (let h : x ≡ 42 = cc in let k : y ≡ 41 = cc in cc))
closed_once _ (other x y zs no_open no_close p) _ (other u v bs _ _ q) r t e =
    let rest : (y ∷ zs) ++ r ≡ (v ∷ bs) ++ t = cc in
    ap suc (closed_once (y ∷ zs) p (v ∷ bs) q r t rest)
closed_once _ (other x y zs no_open no_close p) _ (inner bs cs _ q) r t e =
    absurd (no_open (let h : x ≡ 40 = cc in let k : y ≡ 42 = cc in cc))
closed_once _ (inner zs bs p q) _ close r t e = absurd (omega (arith, same_head e))
closed_once _ (inner zs bs p q) _ (other u v cs no_open no_close _) r t e =
    absurd (no_open (let h : u ≡ 40 = cc in let k : v ≡ 42 = cc in cc))
closed_once _ (inner zs bs p q) _ (inner cs ds p' q') r t e =
    let tails : (zs ++ bs) ++ r ≡ (cs ++ ds) ++ t = cc in
    let whole : zs ++ (bs ++ r) ≡ cs ++ (ds ++ t) = sym (append_assoc zs bs r) ∙ tails ∙ append_assoc cs ds t in
    let first = closed_once zs p cs p' (bs ++ r) (ds ++ t) whole in
    let cut = same_cut zs cs (bs ++ r) (ds ++ t) whole first in
    let second = closed_once bs q ds q' r t cut.1 in
    omega (arith, first, second, length-append zs bs, length-append cs ds)

-- what closes so many levels, one after another
abbrev pub AreClosed : ℕ → Text → Type 0
AreClosed zero w = w ≡ []
AreClosed (suc n) w = (a : Text) × (b : Text) × IsClosed a × AreClosed n b × (w ≡ a ++ b)

-- Inside of so many levels the outermost is closed before `more`.
abbrev pub Ends : ℕ → Text → Text → Type 0
Ends n s more = (w : Text) × AreClosed n w × (s ≡ w ++ more)

-- what is closed has two bytes at least
pub closed_two : (a : Text) → IsClosed a → (x : ℕ) × (y : ℕ) × (bs : Text) × (a ≡ x ∷ y ∷ bs)
closed_two _ close = (42, 41, [], refl)
closed_two _ (other b c bs n m p) = (b, c, bs, refl)
closed_two _ (inner bs cs p q) = (40, 42, bs ++ cs, refl)

pub one_level : (bs more : Text) → IsClosed bs → Ends 1 (bs ++ more) more
one_level bs more p = (bs ++ [], (bs, [], p, refl, refl), ap (λ w. w ++ more) (sym (append-nil bs)))

pub from_one_level : (s more : Text) → Ends 1 s more → (bs : Text) × IsClosed bs × (s ≡ bs ++ more)
from_one_level s more h =
    let p = h.1 in
    (p.0, p.2, h.2 ∙ ap (λ w. w ++ more) (p.4 ∙ ap (λ b. p.0 ++ b) p.3 ∙ append-nil p.0))

pub no_levels : (s more : Text) → Ends 0 s more → s ≡ more
no_levels s more h = h.2 ∙ ap (λ w. w ++ more) h.1

pub no_levels_left : (s : Text) → Ends 0 s s
no_levels_left s = ([], refl, refl)

pub open_enters : (n : ℕ) (s more : Text) → Ends (suc (suc n)) s more → Ends (suc n) (40 ∷ 42 ∷ s) more
open_enters n s more h =
    let p = h.1 in
    let q = p.3 in (
      40 ∷ 42 ∷ (p.0 ++ q.0) ++ q.1,
      (40 ∷ 42 ∷ p.0 ++ q.0, q.1, inner p.0 q.0 p.2 q.2, q.3, refl),
      ap (λ t. 40 ∷ 42 ∷ t) (h.2 ∙ ap (λ w. w ++ more) (p.4 ∙ ap (λ b. p.0 ++ b) q.4 ∙ sym (append_assoc p.0 q.0 q.1))),
    )

open_opened : (n : ℕ) (a : Text) → IsClosed a → (b s more : Text) → AreClosed n b → 40 ∷ 42 ∷ s ≡ (a ++ b) ++ more
    → Ends (suc (suc n)) s more
open_opened n _ close b s more r e = absurd (omega (arith, same_head e))
open_opened n _ (other x y bs no_open no_close p) b s more r e =
    absurd (no_open (let h : x ≡ 40 = cc in let k : y ≡ 42 = cc in cc))
open_opened n _ (inner bs cs p q) b s more r e =
    let h : s ≡ ((bs ++ cs) ++ b) ++ more = cc in
    (bs ++ (cs ++ b), (bs, cs ++ b, p, (cs, b, q, r, refl), refl), h ∙ ap (λ w. w ++ more) (append_assoc bs cs b))

pub open_leaves : (n : ℕ) (s more : Text) → Ends (suc n) (40 ∷ 42 ∷ s) more → Ends (suc (suc n)) s more
open_leaves n s more h = let p = h.1 in open_opened n p.0 p.2 p.1 s more p.3 (h.2 ∙ ap (λ w. w ++ more) p.4)

pub close_enters : (n : ℕ) (s more : Text) → Ends n s more → Ends (suc n) (42 ∷ 41 ∷ s) more
close_enters n s more h = (42 ∷ 41 ∷ h.0, (42 ∷ 41 ∷ [], h.0, close, h.1, refl), ap (λ t. 42 ∷ 41 ∷ t) h.2)

close_closed : (n : ℕ) (a : Text) → IsClosed a → (b s more : Text) → AreClosed n b → 42 ∷ 41 ∷ s ≡ (a ++ b) ++ more
    → Ends n s more
close_closed n _ close b s more r e = (b, r, (let h : s ≡ b ++ more = cc in h))
close_closed n _ (other x y bs no_open no_close p) b s more r e =
    absurd (no_close (let h : x ≡ 42 = cc in let k : y ≡ 41 = cc in cc))
close_closed n _ (inner bs cs p q) b s more r e = absurd (omega (arith, same_head e))

pub close_leaves : (n : ℕ) (s more : Text) → Ends (suc n) (42 ∷ 41 ∷ s) more → Ends n s more
close_leaves n s more h = let p = h.1 in close_closed n p.0 p.2 p.1 s more p.3 (h.2 ∙ ap (λ w. w ++ more) p.4)

pub other_enters : (n b c : ℕ) (s more : Text) → (b ∷ c ∷ [] ≢ opening) → (b ∷ c ∷ [] ≢ closing)
    → Ends (suc n) (c ∷ s) more → Ends (suc n) (b ∷ c ∷ s) more
other_enters n b c s more no_open no_close h =
    let p = h.1 in
    let two = closed_two p.0 p.2 in
    let e : c ∷ s ≡ ((two.0 ∷ two.1 ∷ two.2) ++ p.1) ++ more = h.2
    ∙ ap (λ w. w ++ more) (p.4 ∙ ap (λ a. a ++ p.1) two.3) in
    let same : c ≡ two.0 = cc in
    let starts : p.0 ≡ c ∷ two.1 ∷ two.2 = two.3 ∙ ap (λ x. x ∷ two.1 ∷ two.2) (sym same) in
    let P : Text → Type 0 = IsClosed in
    let longer = other b c (two.1 ∷ two.2) no_open no_close (subst P starts p.2) in (
      b ∷ (c ∷ two.1 ∷ two.2) ++ p.1,
      (b ∷ c ∷ two.1 ∷ two.2, p.1, longer, p.3, refl),
      ap (λ t. b ∷ t) (e ∙ ap (λ x. x ∷ (two.1 ∷ two.2 ++ p.1) ++ more) (sym same)),
    )

other_closed : (n : ℕ) (a : Text) → IsClosed a → (x y : ℕ) (b s more : Text) → (x ∷ y ∷ [] ≢ opening)
    → (x ∷ y ∷ [] ≢ closing) → AreClosed n b → x ∷ y ∷ s ≡ (a ++ b) ++ more → Ends (suc n) (y ∷ s) more
other_closed n _ close x y b s more no_open no_close r e =
    absurd (no_close (let h : x ≡ 42 = cc in let k : y ≡ 41 = cc in cc))
other_closed n _ (other u v bs _ _ p) x y b s more no_open no_close r e =
    let h : y ∷ s ≡ ((v ∷ bs) ++ b) ++ more = cc in
    ((v ∷ bs) ++ b, (v ∷ bs, b, p, r, refl), h)
other_closed n _ (inner bs cs p q) x y b s more no_open no_close r e =
    absurd (no_open (let h : x ≡ 40 = cc in let k : y ≡ 42 = cc in cc))

pub other_leaves : (n b c : ℕ) (s more : Text) → (b ∷ c ∷ [] ≢ opening) → (b ∷ c ∷ [] ≢ closing)
    → Ends (suc n) (b ∷ c ∷ s) more → Ends (suc n) (c ∷ s) more
other_leaves n b c s more no_open no_close h = let p = h.1 in
    other_closed n p.0 p.2 b c p.1 s more no_open no_close p.3 (h.2 ∙ ap (λ w. w ++ more) p.4)

pub not_at_end : (n : ℕ) (more : Text) → Ends (suc n) [] more → ⊥
not_at_end n more h =
    let p = h.1 in
    let two = closed_two p.0 p.2 in
    let e : [] ≡ ((two.0 ∷ two.1 ∷ two.2) ++ p.1) ++ more = h.2
    ∙ ap (λ w. w ++ more) (p.4 ∙ ap (λ a. a ++ p.1) two.3) in
    cc

pub not_at_last : (n b : ℕ) (more : Text) → Ends (suc n) (b ∷ []) more → ⊥
not_at_last n b more h =
    let p = h.1 in
    let two = closed_two p.0 p.2 in
    let e : b ∷ [] ≡ ((two.0 ∷ two.1 ∷ two.2) ++ p.1) ++ more = h.2
    ∙ ap (λ w. w ++ more) (p.4 ∙ ap (λ a. a ++ p.1) two.3) in
    cc
