-- Faults are ordered by place and then by number, and those that come last stand behind all others; the lesser of the
-- least of two lists is the least of both.
use Rattle.std.proofs.Common.{◌≡◌, ℕ, Bool, true, false, cond, refl, arith}
use Rattle.std.specs.Prelude.{◌&&◌, ◌||◌, ◌==◌, nat_lt}
use Rattle.std.proofs.lemmas.Bool.Decides.{nat_tests}
use Rattle.m2_rule.specs.declared.breach.Breach.{Breach}
use Rattle.m2_rule.specs.Breaches.{is_before, is_less}

-- one number of the order; `later` compares what stands behind it
abbrev pub ahead : ℕ → ℕ → Bool → Bool
ahead x y later = nat_lt x y || (x == y && later)

pub ahead_below : (a b c : ℕ) (p q r : Bool) → (p ≡ false → q ≡ true → r ≡ false) → ahead a b p ≡ false
    → ahead c b q ≡ true → ahead a c r ≡ false
ahead_below a b c p q false h k m = grind (arith, nat_tests)
ahead_below a b c true q true h k m = grind (arith, nat_tests)
ahead_below a b c false false true h k m = grind (arith, nat_tests)
ahead_below a b c false true true h k m = let e : true ≡ false = h refl refl in cc

pub ahead_above : (a b c : ℕ) (p q r : Bool) → (p ≡ false → q ≡ false → r ≡ false) → ahead a b p ≡ false
    → ahead b c q ≡ false → ahead a c r ≡ false
ahead_above a b c p q false h k m = grind (arith, nat_tests)
ahead_above a b c true q true h k m = grind (arith, nat_tests)
ahead_above a b c false true true h k m = grind (arith, nat_tests)
ahead_above a b c false false true h k m = let e : true ≡ false = h refl refl in cc

pub ahead_itself : (a : ℕ) (p : Bool) → p ≡ false → ahead a a p ≡ false
ahead_itself a p h = grind (arith, nat_tests)

-- ---- by place, and then by number

before_below : (a b c : Breach) → is_before a b ≡ false → is_before c b ≡ true → is_before a c ≡ false
before_below a b c = ahead_below a.pos.line b.pos.line c.pos.line _ _ _
    (ahead_below a.pos.col b.pos.col c.pos.col _ _ _ (λ h k. grind (arith, nat_tests)))

before_above : (a b c : Breach) → is_before a b ≡ false → is_before b c ≡ false → is_before a c ≡ false
before_above a b c = ahead_above a.pos.line b.pos.line c.pos.line _ _ _
    (ahead_above a.pos.col b.pos.col c.pos.col _ _ _ (λ h k. grind (arith, nat_tests)))

before_itself : (a : Breach) → is_before a a ≡ false
before_itself a = ahead_itself a.pos.line _ (ahead_itself a.pos.col _ (grind (arith, nat_tests)))

-- ---- what comes last, whatever its place

abbrev ordered : (f_last g_last before : Bool) → Bool
ordered f g before = cond f (g && before) (g || before)

last_below : (a b c ab cb ac : Bool) → (ab ≡ false → cb ≡ true → ac ≡ false) → ordered a b ab ≡ false
    → ordered c b cb ≡ true → ordered a c ac ≡ false
last_below true true true ab cb ac h p q = h p q
last_below true true false ab cb ac h p q = refl
last_below true false true ab cb ac h p q = absurd cc
last_below true false false ab cb ac h p q = refl
last_below false true c ab cb ac h p q = absurd cc
last_below false false true ab cb ac h p q = absurd cc
last_below false false false ab cb ac h p q = h p q

last_above : (a b c ab bc ac : Bool) → (ab ≡ false → bc ≡ false → ac ≡ false) → ordered a b ab ≡ false
    → ordered b c bc ≡ false → ordered a c ac ≡ false
last_above true true true ab bc ac h p q = h p q
last_above true true false ab bc ac h p q = refl
last_above true false true ab bc ac h p q = absurd cc
last_above true false false ab bc ac h p q = refl
last_above false true c ab bc ac h p q = absurd cc
last_above false false true ab bc ac h p q = absurd cc
last_above false false false ab bc ac h p q = h p q

last_itself : (a aa : Bool) → aa ≡ false → ordered a a aa ≡ false
last_itself true aa h = h
last_itself false aa h = h

-- what is not less than b is not less than what is less than b
pub below : (a b c : Breach) → is_less a b ≡ false → is_less c b ≡ true → is_less a c ≡ false
below a b c = last_below a.is_last b.is_last c.is_last _ _ _ (before_below a b c)

pub above : (a b c : Breach) → is_less a b ≡ false → is_less b c ≡ false → is_less a c ≡ false
above a b c = last_above a.is_last b.is_last c.is_last _ _ _ (before_above a b c)

pub itself : (a : Breach) → is_less a a ≡ false
itself a = last_itself a.is_last _ (before_itself a)
