-- Worlds that grow, and stores whose procedure variables hold procedures.
use Rattle.std.proofs.Common.{◌≡◌, ℕ, zero, suc, ℤ, Bool, true, false, nat_eq, List, [], ◌∷◌, ◌++◌, length, Option, Some, None, if◌then◌else◌, refl, sym, ap, subst, ◌∙◌}
use Rattle.std.specs.Prelude.{slice_get, ◌&&◌}
use Rattle.std.proofs.lemmas.Bool.{eqb-true, eq-eqb}
use Rattle.layout_storage.specs.Types.{Ty, Callable, Cell, Hidden, Array, Nothing, Field, Heading, row, component}
use Rattle.def_meaning.specs.Environment.{Modules}
use Rattle.def_meaning.specs.Store.{Location, Store, behind, overlay}
use Rattle.law_memory.specs.Relation.{IsProcedureValue}
use Rattle.law_memory.proofs.Places.{behind_is, component_append}
use Rattle.law_memory.proofs.Worlds.{placed_behind, placed_else}
use Rattle.law_nothing_missing.specs.Worlds.{World, component_in, type_at, are_alike}

pub some_same : {A : Type 0} (x y : A) → Some x ≡ Some y → x ≡ y
some_same x y e = cc e

pub none_some : {A : Type 0} (x : A) → None ≡ Some x → ⊥
none_some x e = cc e

-- ---- what is there

pub get_more : {A : Type 0} (xs ys : List A) (i : ℕ) (x : A) → slice_get xs i ≡ Some x → slice_get (xs ++ ys) i ≡ Some x
get_more [] ys i x e = absurd cc
get_more (y ∷ xs) ys zero x e = e
get_more (y ∷ xs) ys (suc i) x e = get_more xs ys i x e

pub get_new : {A : Type 0} (xs ys : List A) (x : A) → slice_get (xs ++ x ∷ ys) (length xs) ≡ Some x
get_new [] ys x = refl
get_new (y ∷ xs) ys x = get_new xs ys x

pub get_old : {A : Type 0} (xs : List A) (x : A) (i : ℕ) → (length xs ≡ i → ⊥)
    → slice_get (xs ++ x ∷ []) i ≡ slice_get xs i
get_old [] x zero other = absurd (other refl)
get_old [] x (suc i) other = refl
get_old (y ∷ xs) x zero other = refl
get_old (y ∷ xs) x (suc i) other = get_old xs x i (λ e. other (ap suc e))

-- an instance that has the component
pub record Inside (o : Option Ty) (r : Location) (t : Ty) : Type 0 where
  pub instance : Ty
  pub is : o ≡ Some instance
  pub has : component instance r ≡ Some t

pub inside : (o : Option Ty) (r : Location) (t : Ty) → component_in o r ≡ Some t → Inside o r t
inside None r t e = absurd (none_some t e)
inside (Some u) r t e = record { instance = u; is = refl; has = e }

pub there_more : (world more : World) (l : Location) (t : Ty) → type_at world l ≡ Some t
    → type_at (world ++ more) l ≡ Some t
there_more world more [] t e = absurd (none_some t e)
there_more world more (i ∷ r) t e =
    let p = inside (slice_get world i) r t e in
    ap (λ (o : Option Ty). component_in o r) (get_more world more i p.instance p.is) ∙ p.has

pub there_behind : (world : World) (l : Location) (t : Ty) (r : Location) → type_at world l ≡ Some t
    → type_at world (l ++ r) ≡ component t r
there_behind world [] t r e = absurd (none_some t e)
there_behind world (i ∷ q) t r e =
    let p = inside (slice_get world i) q t e in
    ap (λ (o : Option Ty). component_in o (q ++ r)) p.is ∙ component_append p.instance t q r p.has

pub there_new : (world more : World) (t : Ty) (r : Location)
    → type_at (world ++ t ∷ more) (length world ∷ r) ≡ component t r
there_new world more t r = ap (λ (o : Option Ty). component_in o r) (get_new world more t)

-- in the row of the instances
pub there_row : (world : World) (i : ℕ) (r : Location) (t : Ty) → component (row world) (i ∷ r) ≡ Some t
    → type_at world (i ∷ r) ≡ Some t
unfolding component
there_row [] i r t e = absurd (none_some t e)
there_row (u ∷ world) zero r t e = e
there_row (u ∷ world) (suc i) r t e = there_row world i r t e

pub whole : (t : Ty) → component t [] ≡ Some t
unfolding component
whole t = refl

pub alike_itself : (t : Ty) → are_alike t t ≡ true
unfolding are_alike
alike_itself (Cell c) = refl
alike_itself (Hidden n) = eq-eqb n n refl
alike_itself (Array n t) = ap (λ (b : Bool). b && are_alike t t) (eq-eqb n n refl) ∙ alike_itself t
alike_itself Nothing = refl
alike_itself (Field t others) = ap (λ (b : Bool). b && are_alike others others) (alike_itself t) ∙ alike_itself others

-- ---- stores

-- what each procedure variable of the type holds is empty or a procedure with its heading
pub record HoldsProcedures (p : Modules) (t : Ty) (f : Location → ℤ) : Type 0 where
  pub each : (r : Location) (h : Heading) → component t r ≡ Some (Cell (Callable h)) → IsProcedureValue p h (f r)

pub record IsFine (p : Modules) (world : World) (s : Store) : Type 0 where
  pub each : (l : Location) (h : Heading) → type_at world l ≡ Some (Cell (Callable h)) → IsProcedureValue p h (s l)

pub fine_placed : (p : Modules) (world : World) (s : Store) (to : Location) (t : Ty) (f : Location → ℤ)
    → IsFine p world s → type_at world to ≡ Some t → HoldsProcedures p t f → IsFine p world (overlay to f s)
fine_placed p world s to t f fine at new = record { each = λ l h e. go l h e (behind to l) refl }
  where
    go : (l : Location) (h : Heading) → type_at world l ≡ Some (Cell (Callable h)) → (o : Option Location)
        → behind to l ≡ o → IsProcedureValue p h (overlay to f s l)
    go l h e None b = subst (λ (v : ℤ). IsProcedureValue p h v) (sym (placed_else to l f s b)) (fine.each l h e)
    go l h e (Some r) b =
        let is = behind_is to l r b in
        subst (λ (v : ℤ). IsProcedureValue p h v)
        (sym (ap (λ (l : Location). overlay to f s l) is ∙ placed_behind to r f s))
        (new.each r h (sym (there_behind world to t r at) ∙ ap (type_at world) (sym is) ∙ e))

behind_new : (n : ℕ) (q : Location) → behind (n ∷ []) (n ∷ q) ≡ Some q
unfolding behind
behind_new n q = ap (λ (b : Bool). if b then Some q else None) (eq-eqb n n refl)

behind_other : (n i : ℕ) (q : Location) → nat_eq n i ≡ false → behind (n ∷ []) (i ∷ q) ≡ None
unfolding behind
behind_other n i q e = ap (λ (b : Bool). if b then Some q else None) e

differ : (n i : ℕ) → nat_eq n i ≡ false → n ≡ i → ⊥
differ n i e same = cc (sym (eq-eqb n i same) ∙ e)

-- an instance behind the others
pub fine_new : (p : Modules) (world : World) (s : Store) (t : Ty) (f : Location → ℤ) → IsFine p world s
    → HoldsProcedures p t f → IsFine p (world ++ t ∷ []) (overlay (length world ∷ []) f s)
fine_new p world s t f fine new = record { each = each }
  where
    new_one : (q : Location) (h : Heading) → type_at (world ++ t ∷ []) (length world ∷ q) ≡ Some (Cell (Callable h))
        → IsProcedureValue p h (overlay (length world ∷ []) f s (length world ∷ q))
    new_one q h e =
        subst (λ (v : ℤ). IsProcedureValue p h v) (sym (placed_behind (length world ∷ []) q f s))
        (new.each q h (sym (there_new world [] t q) ∙ e))

    go : (i : ℕ) (q : Location) (h : Heading) → type_at (world ++ t ∷ []) (i ∷ q) ≡ Some (Cell (Callable h))
        → (b : Bool) → nat_eq (length world) i ≡ b → IsProcedureValue p h (overlay (length world ∷ []) f s (i ∷ q))
    go i q h e true b =
        subst (λ (i : ℕ). type_at (world ++ t ∷ []) (i ∷ q) ≡ Some (Cell (Callable h))
        → IsProcedureValue p h (overlay (length world ∷ []) f s (i ∷ q))) (eqb-true (length world) i b)
        (λ e. new_one q h e) e
    go i q h e false b =
        subst (λ (v : ℤ). IsProcedureValue p h v)
        (sym (placed_else (length world ∷ []) (i ∷ q) f s (behind_other (length world) i q b)))
        (fine.each (i ∷ q) h (ap (λ (o : Option Ty). component_in o q)
        (sym (get_old world t i (differ (length world) i b))) ∙ e))

    each : (l : Location) (h : Heading) → type_at (world ++ t ∷ []) l ≡ Some (Cell (Callable h))
        → IsProcedureValue p h (overlay (length world ∷ []) f s l)
    each [] h e = absurd (none_some (Cell (Callable h)) e)
    each (i ∷ q) h e = go i q h e (nat_eq (length world) i) refl

pub fine_less : (p : Modules) (world more : World) (s : Store) → IsFine p (world ++ more) s → IsFine p world s
fine_less p world more s fine = record { each = λ l h e. fine.each l h (there_more world more l (Cell (Callable h)) e) }
