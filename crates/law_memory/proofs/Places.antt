-- Components of types: where they lie.
use Rattle.std.proofs.Common.{◌≡◌, ◌⊎◌, ⊎_elim, ℕ, zero, suc, ◌+◌, ◌*◌, ◌<◌, ◌≤◌, [], ◌∷◌, ◌++◌, Option, Some, None, Bool, true, false, nat_lt, nat_eq, if◌then◌else◌, refl, sym, ap, ◌∙◌, subst, inl, inr, arith, mul-le-mul_right, append-nil}
use Rattle.std.proofs.lemmas.Bool.{ltb-true, eq-eqb, ne_eqb, eqb-true, cases_eq, cases_order}
use Rattle.std.proofs.lemmas.Option.{none-some, same_Some}
use Rattle.layout_storage.specs.Types.{Ty, Cell, Hidden, Array, Nothing, Field, component}
use Rattle.def_meaning.specs.Store.{Location, behind}
use Rattle.layout_storage.specs.Sizes.{size, offset}

-- element i of n lies inside
pub element_inside : (i n s : ℕ) → i < n → i * s + s ≤ n * s
element_inside i n s h = let e : suc i * s ≤ n * s = mul-le-mul_right s h in omega arith

-- elements i and j lie apart
pub elements_apart : (i j s : ℕ) → i < j → i * s + s ≤ j * s
elements_apart i j s h = element_inside i j s h

pub when : {A : Type 0} (b : Bool) (o : Option A) (y : A) → (if b then o else None) ≡ Some y → (b ≡ true) × (o ≡ Some y)
when true o y e = (refl, e)
when false o y e = absurd (none-some y e)

-- what lies behind is what is appended
pub behind_is : (p l r : Location) → behind p l ≡ Some r → l ≡ p ++ r
unfolding behind
behind_is [] l r e = same_Some l r e
behind_is (i ∷ p) [] r e = absurd (none-some r e)
behind_is (i ∷ p) (j ∷ l) r e =
    let b = when (nat_eq i j) (behind p l) r e in
    ap (λ k. k ∷ l) (sym (eqb-true i j b.0)) ∙ ap (λ q. i ∷ q) (behind_is p l r b.1)

pub behind_append : (p r : Location) → behind p (p ++ r) ≡ Some r
unfolding behind
behind_append [] r = refl
behind_append (i ∷ p) r = ap (λ b. if b then behind p (p ++ r) else None) (eq-eqb i i refl) ∙ behind_append p r

pub component_append : (t s : Ty) (p q : Location) → component t p ≡ Some s → component t (p ++ q) ≡ component s q
unfolding component
component_append t s [] q e = ap (λ u. component u q) (same_Some t s e)
component_append (Cell c) s (i ∷ p) q e = absurd (none-some s e)
component_append (Hidden n) s (i ∷ p) q e = absurd (none-some s e)
component_append (Array n t) s (i ∷ p) q e =
    let b = when (nat_lt i n) (component t p) s e in
    ap (λ b. if b then component t (p ++ q) else None) b.0 ∙ component_append t s p q b.1
component_append Nothing s (i ∷ p) q e = absurd (none-some s e)
component_append (Field t u) s (zero ∷ p) q e = component_append t s p q e
component_append (Field t u) s (suc i ∷ p) q e = component_append u s (i ∷ p) q e

pub offset_append : (t s : Ty) (p q : Location) → component t p ≡ Some s → offset t (p ++ q) ≡ offset t p + offset s q
unfolding component offset
offset_append t s [] q e = ap (λ u. offset u q) (same_Some t s e) ∙ omega arith
offset_append (Cell c) s (i ∷ p) q e = absurd (none-some s e)
offset_append (Hidden n) s (i ∷ p) q e = absurd (none-some s e)
offset_append (Array n t) s (i ∷ p) q e = let h = offset_append t s p q (when (nat_lt i n) (component t p) s e).1 in
    omega arith
offset_append Nothing s (i ∷ p) q e = absurd (none-some s e)
offset_append (Field t u) s (zero ∷ p) q e = offset_append t s p q e
offset_append (Field t u) s (suc i ∷ p) q e = let h = offset_append u s (i ∷ p) q e in omega arith

-- a component lies inside
pub inside : (t s : Ty) (p : Location) → component t p ≡ Some s → offset t p + size s ≤ size t
unfolding component offset size
inside t s [] e = let h : size t ≡ size s = ap size (same_Some t s e) in omega arith
inside (Cell c) s (i ∷ p) e = absurd (none-some s e)
inside (Hidden n) s (i ∷ p) e = absurd (none-some s e)
inside (Array n t) s (i ∷ p) e =
    let b = when (nat_lt i n) (component t p) s e in
    let h = inside t s p b.1 in
    let k = element_inside i n (size t) (ltb-true i n b.0) in
    omega arith
inside Nothing s (i ∷ p) e = absurd (none-some s e)
inside (Field t u) s (zero ∷ p) e = let h = inside t s p e in omega arith
inside (Field t u) s (suc i ∷ p) e = let h = inside u s (i ∷ p) e in omega arith

-- neither of two locations is the other one or a component of it
pub record AreApart (p q : Location) : Type 0 where
  pub right : behind p q ≡ None
  pub left : behind q p ≡ None

eqb-suc : (i j : ℕ) → nat_eq i j ≡ nat_eq (suc i) (suc j)
eqb-suc i j =
    ⊎_elim
    (λ (e : i ≡ j). eq-eqb i j e ∙ sym (eq-eqb (suc i) (suc j) (ap suc e)))
    (λ (ne : i ≡ j → ⊥). ne_eqb i j ne ∙ sym (ne_eqb (suc i) (suc j) (λ e. ne (omega arith))))
    (cases_eq i j)

one_less : (i j : ℕ) (p q : Location) → AreApart (suc i ∷ p) (suc j ∷ q) → AreApart (i ∷ p) (j ∷ q)
unfolding behind
one_less i j p q h = record {
  right = ap (λ b. if b then behind p q else None) (eqb-suc i j) ∙ h.right;
  left = ap (λ b. if b then behind q p else None) (eqb-suc j i) ∙ h.left;
}

tails : (i : ℕ) (p q : Location) → AreApart (i ∷ p) (i ∷ q) → AreApart p q
unfolding behind
tails i p q h = record {
  right = ap (λ b. if b then behind p q else None) (sym (eq-eqb i i refl)) ∙ h.right;
  left = ap (λ b. if b then behind q p else None) (sym (eq-eqb i i refl)) ∙ h.left;
}

-- such components lie one before the other
pub apart : (t s u : Ty) (p q : Location) → component t p ≡ Some s → component t q ≡ Some u → AreApart p q
    → (offset t p + size s ≤ offset t q) ⊎ (offset t q + size u ≤ offset t p)
unfolding component offset size behind
apart t s u [] q e f h = absurd (none-some q (sym h.right))
apart t s u (i ∷ p) [] e f h = absurd (none-some (i ∷ p) (sym h.left))
apart (Cell c) s u (i ∷ p) (j ∷ q) e f h = absurd (none-some s e)
apart (Hidden n) s u (i ∷ p) (j ∷ q) e f h = absurd (none-some s e)
apart (Array n t) s u (i ∷ p) (j ∷ q) e f h =
    let b = when (nat_lt i n) (component t p) s e in
    let c = when (nat_lt j n) (component t q) u f in
    let below = inside t s p b.1 in
    let above = inside t u q c.1 in
    ⊎_elim
    (λ (same : i ≡ j).
    let k = apart t s u p q b.1 c.1 (tails i p q (subst (λ j. AreApart (i ∷ p) (j ∷ q)) (sym same) h)) in
    let m : i * size t ≡ j * size t = ap (λ i. i * size t) same in
    ⊎_elim (λ l. inl (omega arith)) (λ l. inr (omega arith)) k)
    (λ less. ⊎_elim
    (λ (l : i < j). let k = elements_apart i j (size t) l in inl (omega arith))
    (λ (l : j < i). let k = elements_apart j i (size t) l in inr (omega arith)) less)
    (cases_order i j)
apart Nothing s u (i ∷ p) (j ∷ q) e f h = absurd (none-some s e)
apart (Field t r) s u (zero ∷ p) (zero ∷ q) e f h = apart t s u p q e f (tails 0 p q h)
apart (Field t r) s u (zero ∷ p) (suc j ∷ q) e f h = let k = inside t s p e in inl (omega arith)
apart (Field t r) s u (suc i ∷ p) (zero ∷ q) e f h = let k = inside t u q f in inr (omega arith)
apart (Field t r) s u (suc i ∷ p) (suc j ∷ q) e f h =
    ⊎_elim (λ l. inl (omega arith)) (λ l. inr (omega arith)) (apart r s u (i ∷ p) (j ∷ q) e f (one_less i j p q h))

-- ---- two locations of one type

depth : Ty → ℕ
depth (Cell c) = 0
depth (Hidden n) = 0
depth (Array n t) = suc (depth t)
depth Nothing = 0
depth (Field t u) = suc (depth t + depth u)

-- a component's type is the type itself, or less deep
steps : Location → ℕ
steps [] = 0
steps (i ∷ p) = 1

deeper : (t s : Ty) (p : Location) → component t p ≡ Some s → depth s + steps p ≤ depth t
unfolding component depth steps
deeper t s [] e = let h : depth t ≡ depth s = ap depth (same_Some t s e) in omega arith
deeper (Cell c) s (i ∷ p) e = absurd (none-some s e)
deeper (Hidden n) s (i ∷ p) e = absurd (none-some s e)
deeper (Array n t) s (i ∷ p) e = let h = deeper t s p (when (nat_lt i n) (component t p) s e).1 in omega arith
deeper Nothing s (i ∷ p) e = absurd (none-some s e)
deeper (Field t u) s (zero ∷ p) e = let h = deeper t s p e in omega arith
deeper (Field t u) s (suc i ∷ p) e = let h = deeper u s (i ∷ p) e in omega arith

not_inside : (t s : Ty) (i : ℕ) (p q r : Location) → component t p ≡ Some s → component t q ≡ Some s
    → behind p q ≡ Some (i ∷ r) → ⊥
unfolding steps
not_inside t s i p q r e f b =
    let g : component s (i ∷ r) ≡ Some s = sym (component_append t s p (i ∷ r) e)
    ∙ ap (component t) (sym (behind_is p q (i ∷ r) b)) ∙ f in
    let d = deeper s s (i ∷ r) g in
    omega arith

-- they begin at one place, or lie apart
pub same_or_apart : (t s : Ty) (p q : Location) → component t p ≡ Some s → component t q ≡ Some s
    → (offset t p ≡ offset t q) ⊎ ((offset t p + size s ≤ offset t q) ⊎ (offset t q + size s ≤ offset t p))
same_or_apart t s p q e f = cases (behind p q) (behind q p) refl refl
  where
    same : (p q : Location) → behind p q ≡ Some [] → offset t p ≡ offset t q
    same p q b = ap (offset t) (sym (behind_is p q [] b ∙ append-nil p))

    cases : (a b : Option Location) → behind p q ≡ a → behind q p ≡ b → (offset t p ≡ offset t q)
        ⊎ ((offset t p + size s ≤ offset t q) ⊎ (offset t q + size s ≤ offset t p))
    cases (Some []) b h k = inl (same p q h)
    cases (Some (i ∷ r)) b h k = absurd (not_inside t s i p q r e f h)
    cases None (Some []) h k = inl (sym (same q p k))
    cases None (Some (i ∷ r)) h k = absurd (not_inside t s i q p r f e k)
    cases None None h k = inr (apart t s s p q e f (record { right = h; left = k }))
