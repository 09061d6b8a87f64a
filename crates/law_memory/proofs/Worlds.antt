-- The instances that live: reads, writes and copies in them, a new one, and the end of one.
use Rattle.std.proofs.Common.{◌≡◌, ℕ, zero, suc, ◌+◌, ◌<◌, ◌≤◌, ℤ, List, [], ◌∷◌, ◌++◌, length, Option, Some, None, Bool, true, false, nat_lt, if◌then◌else◌, refl, sym, ap, ◌∙◌, subst, arith, true≢false}
use Rattle.std.proofs.lemmas.Bool.{ne_eqb}
use Rattle.std.proofs.lemmas.Option.{none-some, same_Some}
use Rattle.law_effect.specs.Bytes.{byte, AreMoved, IsOnly}
use Rattle.layout_storage.specs.Types.{Ty, Scalar, Callable, Cell, Hidden, Array, Nothing, Field, Heading, row, component, IsOf, IsScalar, IsPlain}
use Rattle.def_meaning.specs.Environment.{Modules}
use Rattle.def_meaning.specs.Store.{Location, Store, behind, overlay, choose_arm, assign_number, copy_whole}
use Rattle.layout_storage.specs.Sizes.{size, offset, width}
use Rattle.law_memory.specs.Cells.{word, fetch_cell, put}
use Rattle.law_memory.specs.Relation.{IsProcedureValue, Means, Says, Shows, Hides, Holds}
use Rattle.law_memory.proofs.Places.{when, behind_append, inside}
use Rattle.law_memory.proofs.Keeps.{shows_at, shows_moved, shows_alike, shows_written, hides_written, says_moved}
use Rattle.law_memory.proofs.Cells.{fetches, puts, put_only, length-put, small_put}

-- ---- plain types

pub plain_hidden : (t : Ty) (r : Location) (n : ℕ) → IsPlain t → component t r ≡ Some (Hidden n) → ⊥
unfolding component
plain_hidden t [] n p e = subst IsPlain (same_Some t (Hidden n) e) p
plain_hidden (Cell c) (i ∷ r) n p e = none-some (Hidden n) e
plain_hidden (Hidden k) (i ∷ r) n p e = p
plain_hidden (Array k t) (i ∷ r) n p e = plain_hidden t r n p (when (nat_lt i k) (component t r) (Hidden n) e).1
plain_hidden Nothing (i ∷ r) n p e = none-some (Hidden n) e
plain_hidden (Field t u) (zero ∷ r) n p e = plain_hidden t r n p.0 e
plain_hidden (Field t u) (suc i ∷ r) n p e = plain_hidden u (i ∷ r) n p.1 e

pub plain_scalar : (t : Ty) (r : Location) (c : Scalar) → IsPlain t → component t r ≡ Some (Cell c) → IsScalar c
unfolding component
plain_scalar t [] c p e = subst IsPlain (same_Some t (Cell c) e) p
plain_scalar (Cell d) (i ∷ r) c p e = absurd (none-some (Cell c) e)
plain_scalar (Hidden k) (i ∷ r) c p e = absurd p
plain_scalar (Array k t) (i ∷ r) c p e = plain_scalar t r c p (when (nat_lt i k) (component t r) (Cell c) e).1
plain_scalar Nothing (i ∷ r) c p e = absurd (none-some (Cell c) e)
plain_scalar (Field t u) (zero ∷ r) c p e = plain_scalar t r c p.0 e
plain_scalar (Field t u) (suc i ∷ r) c p e = plain_scalar u (i ∷ r) c p.1 e

scalar_in : Scalar → Option Ty → Scalar
scalar_in d (Some (Cell c)) = c
scalar_in d _ = d

pub same_cell : (c d : Scalar) → Some (Cell c) ≡ Some (Cell d) → c ≡ d
unfolding scalar_in
same_cell c d e = ap (scalar_in c) e

-- ---- what is placed

pub placed_behind : {A : Type 0} (to r : Location) (f s : Location → A) → overlay to f s (to ++ r) ≡ f r
unfolding overlay
placed_behind to r f s = ap (λ o. choose_arm o f (s (to ++ r))) (behind_append to r)

pub placed_else : {A : Type 0} (to l : Location) (f s : Location → A) → behind to l ≡ None → overlay to f s l ≡ s l
unfolding overlay
placed_else to l f s e = ap (λ o. choose_arm o f (s l)) e

module _ (program : Modules) (world : List Ty) (x : Location → ℕ → ℕ) (s : Store) (m : List ℕ)
    (h : Holds program world x s m) where
  -- a location lies in the memory
  pub lies : (l : Location) (t : Ty) → component (row world) l ≡ Some t → offset (row world) l + size t ≤ length m
  lies l t e = let i = inside (row world) t l e in let r = h.room in omega arith

  -- a variable is read
  pub holds_fetched : (l : Location) (c : Scalar) → IsScalar c → component (row world) l ≡ Some (Cell c)
      → fetch_cell c (offset (row world) l) m ≡ Some (word (s l))
  unfolding size
  holds_fetched l c ok e =
      fetches program c (offset (row world) l) (s l) m ok h.bytes (lies l (Cell c) e)
      (subst (λ a. Says program c a (s l) m) (omega arith) (h.cells l c e))

  -- a procedure variable has no procedure, or one with its heading
  pub holds_procedure : (l : Location) (t : Heading) → component (row world) l ≡ Some (Cell (Callable t))
      → IsProcedureValue program t (s l)
  holds_procedure l t e = (h.cells l (Callable t) e).means

  -- any write to a location of a plain type
  pub holds_placed : (to : Location) (t : Ty) (f : Location → ℤ) (m' : List ℕ) → IsPlain t
      → component (row world) to ≡ Some t → IsOnly (offset (row world) to) (size t) m m' → length m' ≡ length m
      → ((a : ℕ) → byte a m' < 256) → Shows program t (offset (row world) to) f m'
      → Holds program world x (overlay to f s) m'
  holds_placed to t f m' plain there only long small new =
      let only' : IsOnly (0 + offset (row world) to) (size t) m m' =
      subst (λ a. IsOnly a (size t) m m') (omega arith) only in
      record {
        bytes = small;
        room = let r = h.room in omega arith;
        cells = shows_written (row world) t 0 to m m' there only' program s (overlay to f s)
            (λ l e. placed_else to l f s e)
            (shows_alike program t _ f (λ r. overlay to f s (to ++ r)) m' (λ r. sym (placed_behind to r f s))
            (subst (λ a. Shows program t a f m') (omega arith) new)) h.cells;
        hidden = hides_written (row world) t 0 to m m' there only' x x (λ l k e. refl)
            (λ r n k e less. absurd (plain_hidden t r n plain e)) h.hidden;
      }

  -- a number is assigned
  pub holds_assigned : (to : Location) (c : Scalar) (v : ℤ) → IsScalar c → IsOf c v → Means program c v
      → component (row world) to ≡ Some (Cell c)
      → Holds program world x (assign_number to v s) (put c (offset (row world) to) (word v) m)
  unfolding size component offset
  holds_assigned to c v ok is means there =
      let a = offset (row world) to in
      let fits : a + width c ≤ length m = lies to (Cell c) there in
      holds_placed to (Cell c) (λ r. v) (put c a (word v) m) ok there (put_only c a (word v) m fits)
      (length-put c a (word v) m fits)
      (small_put c a (word v) m fits h.bytes) (one_cell a (puts program c a v m ok is means fits))
    where
      one_cell : (a : ℕ) → Says program c a v (put c (offset (row world) to) (word v) m)
          → Shows program (Cell c) a (λ r. v) (put c (offset (row world) to) (word v) m)
      one_cell a says [] d e = subst (λ b. Says program d b v (put c (offset (row world) to) (word v) m)) (omega arith)
          (subst (λ d. Says program d a v (put c (offset (row world) to) (word v) m)) (same_cell c d e) says)
      one_cell a says (i ∷ r) d e = absurd (none-some (Cell d) e)

  -- a whole array or record is assigned
  pub holds_copied : (to from : Location) (t : Ty) (m' : List ℕ) → IsPlain t → component (row world) to ≡ Some t
      → component (row world) from ≡ Some t → AreMoved (size t) (offset (row world) from) (offset (row world) to) m m'
      → IsOnly (offset (row world) to) (size t) m m' → length m' ≡ length m → ((a : ℕ) → byte a m' < 256)
      → Holds program world x (copy_whole to from s) m'
  holds_copied to from t m' plain there source moved only long small =
      holds_placed to t (λ r. s (from ++ r)) m' plain there only long small
      (shows_moved program t (offset (row world) from) (offset (row world) to) (λ r. s (from ++ r)) m m' moved
      (subst (λ a. Shows program t a (λ r. s (from ++ r)) m) (omega arith)
      (shows_at program (row world) t 0 from s m source h.cells)))

-- ---- one more instance, and the end of the last ones

pub row_size : (world : List Ty) (t : Ty) → size (row (world ++ t ∷ [])) ≡ size (row world) + size t
unfolding size
row_size [] t = omega arith
row_size (u ∷ us) t = let h = row_size us t in omega arith

-- what there was is where it was
pub component_old : (world more : List Ty) (i : ℕ) (p : Location) (t : Ty) → component (row world) (i ∷ p) ≡ Some t
    → component (row (world ++ more)) (i ∷ p) ≡ Some t
unfolding component
component_old [] more i p t e = absurd (none-some t e)
component_old (u ∷ us) more zero p t e = e
component_old (u ∷ us) more (suc i) p t e = component_old us more i p t e

pub offset_old : (world more : List Ty) (i : ℕ) (p : Location) (t : Ty) → component (row world) (i ∷ p) ≡ Some t
    → offset (row (world ++ more)) (i ∷ p) ≡ offset (row world) (i ∷ p)
unfolding component offset
offset_old [] more i p t e = absurd (none-some t e)
offset_old (u ∷ us) more zero p t e = refl
offset_old (u ∷ us) more (suc i) p t e = ap (λ n. size u + n) (offset_old us more i p t e)

pub component_new : (world : List Ty) (t : Ty) (p : Location)
    → component (row (world ++ t ∷ [])) (length world ∷ p) ≡ component t p
unfolding component
component_new [] t p = refl
component_new (u ∷ us) t p = component_new us t p

pub offset_new : (world : List Ty) (t : Ty) (p : Location)
    → offset (row (world ++ t ∷ [])) (length world ∷ p) ≡ size (row world) + offset t p
unfolding offset size
offset_new [] t p = omega arith
offset_new (u ∷ us) t p = let h = offset_new us t p in omega arith

-- a location is in what there was, or in the new one
pub data Where (world : List Ty) (t u : Ty) : Location → Type 0 where
  Old : {i : ℕ} {p : Location} → i < length world → component (row world) (i ∷ p) ≡ Some u → Where world t u (i ∷ p)
  New : {p : Location} → component t p ≡ Some u → Where world t u (length world ∷ p)
  All : Some (row (world ++ t ∷ [])) ≡ Some u → Where world t u []

further : (v : Ty) (us : List Ty) (t u : Ty) (i : ℕ) (p : Location) → Where us t u (i ∷ p)
    → Where (v ∷ us) t u (suc i ∷ p)
unfolding component
further v us t u i p (Old l e) = Old (omega arith) e
further v us t u i p (New e) = New e

pub where_is : (world : List Ty) (t u : Ty) (l : Location) → component (row (world ++ t ∷ [])) l ≡ Some u
    → Where world t u l
unfolding component
where_is world t u [] e = All e
where_is [] t u (zero ∷ p) e = New e
where_is [] t u (suc i ∷ p) e = absurd (none-some u e)
where_is (v ∷ us) t u (zero ∷ p) e = Old (omega arith) e
where_is (v ∷ us) t u (suc i ∷ p) e = further v us t u i p (where_is us t u (i ∷ p) e)

pub is_leaf : Option Ty → Bool
is_leaf (Some (Cell c)) = true
is_leaf (Some (Hidden n)) = true
is_leaf _ = false

pub is_leaf_hidden : (n : ℕ) → is_leaf (Some (Hidden n)) ≡ true
unfolding is_leaf
is_leaf_hidden n = refl

no_leaf : (world : List Ty) (t u : Ty) → is_leaf (Some u) ≡ true → Some (row (world ++ t ∷ [])) ≡ Some u → ⊥
unfolding is_leaf
no_leaf [] t u l e = true≢false (sym l ∙ ap is_leaf (sym e))
no_leaf (v ∷ us) t u l e = true≢false (sym l ∙ ap is_leaf (sym e))

pub other_behind : (n i : ℕ) (p : Location) → i < n → behind (n ∷ []) (i ∷ p) ≡ None
unfolding behind
other_behind n i p h = let ne : n ≡ i → ⊥ = omega arith in ap (λ b. if b then Some p else None) (ne_eqb n i ne)

pub row_no_leaf : (world : List Ty) (u : Ty) → is_leaf (Some u) ≡ true → component (row world) [] ≡ Some u → ⊥
unfolding is_leaf component
row_no_leaf [] u l e = true≢false (sym l ∙ ap is_leaf (sym e))
row_no_leaf (v ∷ us) u l e = true≢false (sym l ∙ ap is_leaf (sym e))

-- a new instance behind those that live
module _ (program : Modules) (world : List Ty) (x : Location → ℕ → ℕ) (s : Store) (m : List ℕ)
    (h : Holds program world x s m) (t : Ty) (m' : List ℕ)
    (same : (b : ℕ) → b < size (row world) → byte b m' ≡ byte b m) where
  pushed_cells : (f : Location → ℤ) → Shows program t (size (row world)) f m'
      → Shows program (row (world ++ t ∷ [])) 0 (overlay (length world ∷ []) f s) m'
  unfolding is_leaf size
  pushed_cells f new l c e = cases l (where_is world t (Cell c) l e)
    where
      cases : (l : Location) → Where world t (Cell c) l
          → Says program c (0 + offset (row (world ++ t ∷ [])) l) (overlay (length world ∷ []) f s l) m'
      cases l (All e) = absurd (no_leaf world t (Cell c) refl e)
      cases l (Old {i = i} {p = p} less e) =
          let o = offset_old world (t ∷ []) i p (Cell c) e in
          let inner = inside (row world) (Cell c) (i ∷ p) e in
          subst (λ v. Says program c (0 + offset (row (world ++ t ∷ [])) (i ∷ p)) v m')
          (sym (placed_else (length world ∷ []) (i ∷ p) f s (other_behind (length world) i p less)))
          (says_moved program c (0 + offset (row world) (i ∷ p)) _ (s (i ∷ p)) m m'
          (λ j k. ap (λ b. byte b m') (omega arith) ∙ same (0 + offset (row world) (i ∷ p) + j) (omega arith))
          (h.cells (i ∷ p) c e))
      cases l (New {p = p} e) =
          let o = offset_new world t p in
          subst (λ v. Says program c (0 + offset (row (world ++ t ∷ [])) (length world ∷ p)) v m')
          (sym (placed_behind (length world ∷ []) p f s))
          (subst (λ a. Says program c a (f p) m') (omega arith) (new p c e))

  pushed_hidden : (y : Location → ℕ → ℕ) → Hides t (size (row world)) y m'
      → Hides (row (world ++ t ∷ [])) 0 (overlay (length world ∷ []) y x) m'
  unfolding is_leaf size
  pushed_hidden y new l n k e less = cases l (where_is world t (Hidden n) l e)
    where
      cases : (l : Location) → Where world t (Hidden n) l
          → byte (0 + offset (row (world ++ t ∷ [])) l + k) m' ≡ overlay (length world ∷ []) y x l k
      cases l (All e) = absurd (no_leaf world t (Hidden n) refl e)
      cases l (Old {i = i} {p = p} lt e) =
          let o = offset_old world (t ∷ []) i p (Hidden n) e in
          let inner = inside (row world) (Hidden n) (i ∷ p) e in
          ap (λ b. byte b m') (omega arith) ∙ same (0 + offset (row world) (i ∷ p) + k) (omega arith)
          ∙ h.hidden (i ∷ p) n k e less
          ∙ ap (λ g. g k) (sym (placed_else (length world ∷ []) (i ∷ p) y x (other_behind (length world) i p lt)))
      cases l (New {p = p} e) =
          let o = offset_new world t p in
          ap (λ b. byte b m') (omega arith) ∙ new p n k e less
          ∙ ap (λ g. g k) (sym (placed_behind (length world ∷ []) p y x))

  pub holds_pushed : (f : Location → ℤ) (y : Location → ℕ → ℕ) → size (row world) + size t ≤ length m'
      → ((b : ℕ) → byte b m' < 256) → Shows program t (size (row world)) f m' → Hides t (size (row world)) y m'
      → Holds program (world ++ t ∷ []) (overlay (length world ∷ []) y x) (overlay (length world ∷ []) f s) m'
  holds_pushed f y fits small cells hidden = record {
    bytes = small;
    room = let e = row_size world t in omega arith;
    cells = pushed_cells f cells;
    hidden = pushed_hidden y hidden;
  }

pub size_old : (world more : List Ty) → size (row world) ≤ size (row (world ++ more))
unfolding size
size_old [] more = omega arith
size_old (u ∷ us) more = let h = size_old us more in omega arith

-- the last instances end
pub holds_popped : (program : Modules) → (world more : List Ty) (x : Location → ℕ → ℕ) (s : Store) (m : List ℕ)
    → Holds program (world ++ more) x s m → Holds program world x s m
unfolding is_leaf component
holds_popped program world more x s m h = record {
  bytes = h.bytes;
  room = let r = h.room in let o = size_old world more in omega arith;
  cells = cells;
  hidden = hidden;
}
  where
    cells : Shows program (row world) 0 s m
    cells [] c e = absurd (row_no_leaf world (Cell c) refl e)
    cells (i ∷ p) c e = subst (λ a. Says program c (0 + a) (s (i ∷ p)) m) (offset_old world more i p (Cell c) e)
        (h.cells (i ∷ p) c (component_old world more i p (Cell c) e))

    hidden : Hides (row world) 0 x m
    hidden [] n k e less = absurd (row_no_leaf world (Hidden n) refl e)
    hidden (i ∷ p) n k e less = ap (λ a. byte (0 + a + k) m) (sym (offset_old world more i p (Hidden n) e))
        ∙ h.hidden (i ∷ p) n k (component_old world more i p (Hidden n) e) less

pub in_world : (world : List Ty) (i : ℕ) (p : Location) (t : Ty) → component (row world) (i ∷ p) ≡ Some t
    → i < length world
unfolding component
in_world [] i p t e = absurd (none-some t e)
in_world (u ∷ us) zero p t e = omega arith
in_world (u ∷ us) (suc i) p t e = let h = in_world us i p t e in omega arith

-- ---- the end of a call

-- what the caller sees: its instances, with its own hidden room
pub call_ends : (program : Modules) → (world more : List Ty) (x x' : Location → ℕ → ℕ) (s : Store) (m : List ℕ)
    → ((i : ℕ) (p : Location) (k : ℕ) → i < length world → x' (i ∷ p) k ≡ x (i ∷ p) k)
    → Holds program (world ++ more) x' s m → Holds program world x s m
unfolding component
call_ends program world more x x' s m same h =
    let g = holds_popped program world more x' s m h in
    record { bytes = g.bytes; room = g.room; cells = g.cells; hidden = hidden g.hidden }
  where
    hidden : Hides (row world) 0 x' m → Hides (row world) 0 x m
    hidden g [] j k e less = absurd (row_no_leaf world (Hidden j) (is_leaf_hidden j) e)
    hidden g (i ∷ p) j k e less = g (i ∷ p) j k e less ∙ same i p k (in_world world i p (Hidden j) e)
