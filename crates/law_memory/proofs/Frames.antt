-- Frames: fresh variables, and what stands in the hidden room.
use Rattle.std.proofs.Common.{◌≡◌, ℕ, zero, suc, ◌+◌, ◌^◌, ◌<◌, ◌≤◌, pos, List, [], ◌∷◌, ◌++◌, length, take, drop, get_or, nat_le, if◌then◌else◌, true, Option, Some, None, option_map, refl, sym, ap, ◌∙◌, subst, arith, suc-ne-zero}
use Rattle.std.proofs.lemmas.Option.{none-some}
use Rattle.std.proofs.lemmas.Int.{ints}
use Rattle.std.proofs.lemmas.Bool.{le-leb}
use Rattle.std.proofs.lemmas.Nat.{from_le_bytes-to_le_bytes_8}
use Rattle.std.specs.Int.{w64, to_le_bytes}
use Rattle.wasm_tree.specs.Machine.{paste_items, bytes_at}
use Rattle.wasm_tree.specs.declared.instr.Load.TheVariants as load
use Rattle.wasm_tree.specs.Numbers.{load_size, load_number}
use Rattle.law_effect.specs.Bytes.{byte, IsOnly}
use Rattle.law_effect.proofs.Bytes.{pasted_only, byte_pasted, length-pasted, small_pasted}
use Rattle.layout_storage.specs.Types.{Ty, Scalar, Natural, Integer, Between, Callable, Cell, Hidden, row, frame_of, component, IsFit, IsOf, IsScalar, first}
use Rattle.def_meaning.specs.Environment.{Modules}
use Rattle.def_meaning.specs.Store.{Location, Store, overlay, fresh, first_in}
use Rattle.layout_storage.specs.Sizes.{Four, size, offset, width, value_of}
use Rattle.law_memory.specs.Cells.{number, load_of, raise_cell, fetch_cell, stored_in}
use Rattle.law_memory.specs.Relation.{Empty, Means, Says, Shows, Hides, Holds, Keeps}
use Rattle.law_memory.proofs.Places.{inside, component_append, offset_append}
use Rattle.law_memory.proofs.Keeps.{number_moved, shows_written, hides_written}
use Rattle.law_memory.proofs.Cells.{fetch_parts, four, eight, from_8}
use Rattle.law_memory.proofs.Worlds.{placed_behind, placed_else, lies}

-- ---- fresh variables

AreZero : (a n : ℕ) → List ℕ → Type 0
AreZero a n m = (j : ℕ) → j < n → byte (a + j) m ≡ 0

number_zero : (k a : ℕ) (m : List ℕ) → ((j : ℕ) → j < k → byte (a + j) m ≡ 0) → number k a m ≡ 0
unfolding number
number_zero zero a m h = refl
number_zero (suc k) a m h =
    let here : byte a m ≡ 0 = ap (λ b. byte b m) (omega arith) ∙ h 0 (omega arith) in
    let rest = number_zero k (a + 1) m (λ j l. ap (λ b. byte b m) (omega arith) ∙ h (suc j) (omega arith)) in
    omega arith

first_value : (c : Scalar) → value_of c 0 ≡ first c
first_value (Natural g) = refl
first_value Integer = refl
first_value (Between l g) = omega (arith, ints)
first_value (Callable h) = refl

first_within : (c : Scalar) → IsScalar c → IsOf c (first c)
first_within (Natural g) ok = record { low = omega (arith, ints); high = ok.some }
first_within Integer ok = record { low = omega (arith, ints); high = omega (arith, ints) }
first_within (Between l g) ok = record { low = omega (arith, ints); high = ok.some }
first_within (Callable h) ok = record { low = omega (arith, ints); high = ok.some }

-- no procedure is there
first_means : (program : Modules) (c : Scalar) → Means program c (first c)
first_means program (Natural g) = tt
first_means program Integer = tt
first_means program (Between l g) = tt
first_means program (Callable h) = Empty

-- where all bytes are 0 the variables are fresh
pub zero_shows : (program : Modules) → (t : Ty) (a : ℕ) (m : List ℕ) → IsFit t
    → ((j : ℕ) → j < size t → byte (a + j) m ≡ 0) → Shows program t a (fresh t) m
unfolding size fresh
zero_shows program t a m fit none r c e =
    let i = inside t (Cell c) r e in
    let n = number_zero (width c) (a + offset t r) m
    (λ j l. ap (λ b. byte b m) (omega arith) ∙ none (offset t r + j) (omega arith)) in
    record {
      value = ap (value_of c) n ∙ first_value c ∙ sym (ap first_in e);
      within = subst (IsOf c) (sym (ap first_in e)) (first_within c (fit.scalars r c e));
      means = subst (Means program c) (sym (ap first_in e)) (first_means program c);
    }

pub zero_hides : (t : Ty) (a : ℕ) (m : List ℕ) → ((j : ℕ) → j < size t → byte (a + j) m ≡ 0) → Hides t a (λ r k. 0) m
unfolding size
zero_hides t a m none r n k e less =
    let i = inside t (Hidden n) r e in
    ap (λ b. byte b m) (omega arith) ∙ none (offset t r + k) (omega arith)

-- ---- hidden room

hidden_in : Option Ty → ℕ
hidden_in (Some (Hidden n)) = suc n
hidden_in _ = 0

hidden_apart : (n : ℕ) (r : Location) (c : Scalar) → component (Hidden n) r ≡ Some (Cell c) → ⊥
unfolding component hidden_in
hidden_apart n [] c e = suc-ne-zero n (ap hidden_in e)
hidden_apart n (i ∷ r) c e = none-some (Cell c) e

bytes_there : (n a : ℕ) (to : Location) (ys : List ℕ) (x : Location → ℕ → ℕ) (m : List ℕ) → length ys ≡ n → a ≤ length m
    → Hides (Hidden n) a (λ r. overlay to (λ r k. get_or ys k 0) x (to ++ r)) (paste_items m a ys)
unfolding component offset hidden_in
bytes_there n a to ys x m long fits (i ∷ r) n' k e less = absurd (none-some (Hidden n') e)
bytes_there n a to ys x m long fits [] n' k e less =
    let same : suc n ≡ suc n' = ap hidden_in e in
    ap (λ b. byte b (paste_items m a ys)) (omega arith) ∙ byte_pasted m a k ys fits (omega arith)
    ∙ ap (λ g. g k) (sym (placed_behind to [] (λ r k. get_or ys k 0) x))

whole : (n : ℕ) → n < 2 ^ 32 → number 4 0 (stored_in Four n) ≡ n
whole n small = four 0 (stored_in Four n) ∙ omega arith

whole_8 : (n : ℕ) → n < 2 ^ 64 → number 8 0 (to_le_bytes w64 n) ≡ n
whole_8 n small = eight 0 (to_le_bytes w64 n) ∙ from_le_bytes-to_le_bytes_8 n small

module _ (program : Modules) (world : List Ty) (x : Location → ℕ → ℕ) (s : Store) (m : List ℕ)
    (h : Holds program world x s m) where
  -- bytes are written there
  pub holds_hidden : (to : Location) (n : ℕ) (ys : List ℕ) → component (row world) to ≡ Some (Hidden n) → length ys ≡ n
      → ((j : ℕ) → j < length ys → get_or ys j 0 < 256)
      → Holds program world (overlay to (λ r k. get_or ys k 0) x) s (paste_items m (offset (row world) to) ys)
  unfolding size
  holds_hidden to n ys there long new =
      let a = offset (row world) to in
      let m' = paste_items m a ys in
      let x' = overlay to (λ r k. get_or ys k 0) x in
      let fits = lies program world x s m h to (Hidden n) there in
      let room : a + length ys ≤ length m = omega arith in
      let only : IsOnly (0 + a) n m m' = subst (λ b. IsOnly b n m m') (omega arith)
      (subst (λ k. IsOnly a k m m') long (pasted_only m a ys room)) in
      let bytes : Hides (Hidden n) (0 + a) (λ r. x' (to ++ r)) m' =
      subst (λ b. Hides (Hidden n) b (λ r. x' (to ++ r)) m') (omega arith)
      (bytes_there n a to ys x m long (omega arith)) in
      record {
        bytes = small_pasted m a ys room h.bytes new;
        room = let e = length-pasted m a ys room in let r = h.room in omega arith;
        cells = shows_written (row world) (Hidden n) 0 to m m' there only program s s (λ l e. refl)
            (λ r c e. absurd (hidden_apart n r c e)) h.cells;
        hidden = hides_written (row world) (Hidden n) 0 to m m' there only x x'
            (λ l k e. ap (λ g. g k) (placed_else to l (λ r k. get_or ys k 0) x e)) bytes h.hidden;
      }

  -- a variable's address, read from where it was written
  pub alias_parts : (l : Location) (n : ℕ) → component (row world) l ≡ Some (Hidden 4) → Keeps x l (stored_in Four n)
      → n < 2 ^ 32 → (bytes : List ℕ) × (bytes_at (load_size (load_of (Natural 4294967295))) (offset (row world) l) m
      ≡ Some bytes) × (raise_cell (Natural 4294967295) (load_number (load_of (Natural 4294967295)) bytes) ≡ n)
  unfolding size number
  alias_parts l n there keeps small =
      let a = offset (row world) l in
      let says : Says program (Natural 4294967295) a (pos n) m = record {
        value = ap pos (number_moved 4 0 a (stored_in Four n) m
            (λ j k. ap (λ b. byte b m) (omega arith) ∙ h.hidden l 4 j there k ∙ keeps j k
            ∙ ap (λ i. byte i (stored_in Four n)) (omega arith)) ∙ whole n small);
        within = record { low = omega (arith, ints); high = omega (arith, ints) };
        means = tt;
      } in
      fetch_parts program (Natural 4294967295) a (pos n) m
      (record {
        low = omega (arith, ints);
        high = omega (arith, ints);
        some = omega (arith, ints);
        narrow =
            omega (arith, ints);
      }) h.bytes (lies program world x s m h l (Hidden 4) there) says

  -- the link of a frame
  pub holds_link : (l : Location) (n : ℕ) → component (row world) l ≡ Some (Hidden 8) → Keeps x l (to_le_bytes w64 n)
      → n < 2 ^ 64 → (bytes : List ℕ) × (bytes_at 8 (offset (row world) l) m ≡ Some bytes)
      × (load_number load.I64 bytes ≡ n)
  unfolding size number
  holds_link l n there keeps small =
      let a = offset (row world) l in
      let fits : a + 8 ≤ length m = lies program world x s m h l (Hidden 8) there in
      let inside : nat_le (a + 8) (length m) ≡ true = le-leb (a + 8) (length m) fits in
      let moved = number_moved 8 0 a (to_le_bytes w64 n) m
      (λ j k. ap (λ b. byte b m) (omega arith) ∙ h.hidden l 8 j there k ∙ keeps j k
      ∙ ap (λ i. byte i (to_le_bytes w64 n)) (omega arith)) in (
        take 8 (drop a m),
        ap (λ b. if b then Some (take 8 (drop a m)) else None) inside,
        from_8 a m ∙ moved
            ∙ whole_8 n small,
      )

  -- it stands at the frame's address
  pub link_parts : (root : ℕ) (vars : List Ty) (n : ℕ) → component (row world) (root ∷ []) ≡ Some (frame_of vars)
      → Keeps x (root ∷ 0 ∷ 0 ∷ []) (to_le_bytes w64 n) → n < 2 ^ 64 → (bytes : List ℕ)
      × (bytes_at 8 (offset (row world) (root ∷ [])) m ≡ Some bytes) × (load_number load.I64 bytes ≡ n)
  unfolding component offset
  link_parts root vars n there keeps small =
      let e : component (row world) (root ∷ 0 ∷ 0 ∷ []) ≡ Some (Hidden 8) =
      component_append (row world) (frame_of vars) (root ∷ []) (0 ∷ 0 ∷ []) there in
      let o = offset_append (row world) (frame_of vars) (root ∷ []) (0 ∷ 0 ∷ []) there in
      let p = holds_link (root ∷ 0 ∷ 0 ∷ []) n e keeps small in
      (p.0, ap (λ a. bytes_at 8 a m) (omega arith) ∙ p.1, p.2)

module _ (program : Modules) (world : List Ty) (x : Location → ℕ → ℕ) (s : Store) (m : List ℕ)
    (h : Holds program world x s m) where
  -- the same as what is loaded there
  pub address_is : (l : Location) (n : ℕ) → component (row world) l ≡ Some (Hidden 4) → Keeps x l (stored_in Four n)
      → n < 2 ^ 32 → fetch_cell (Natural 4294967295) (offset (row world) l) m ≡ Some n
  address_is l n there keeps small =
      let p = alias_parts program world x s m h l n there keeps small in
      ap (λ o. option_map (λ bytes. raise_cell (Natural 4294967295) (load_number (load_of (Natural 4294967295)) bytes))
      o) p.1 ∙ ap Some p.2

-- ---- a memory of zeros

no_cell : (t : Ty) (c : Scalar) → component (row (t ∷ [])) [] ≡ Some (Cell c) → ⊥
unfolding component hidden_in
no_cell t c e = cc e

fit_row : (t : Ty) → IsFit t → IsFit (row (t ∷ []))
unfolding component
fit_row t fit = record { scalars = scalars }
  where
    none_there : (i : ℕ) (p : List ℕ) (c : Scalar) → component (row []) (i ∷ p) ≡ Some (Cell c) → ⊥
    none_there i p c e = none-some (Cell c) e

    scalars : (r : List ℕ) (c : Scalar) → component (row (t ∷ [])) r ≡ Some (Cell c) → IsScalar c
    scalars [] c e = absurd (no_cell t c e)
    scalars (zero ∷ p) c e = fit.scalars p c e
    scalars (suc i ∷ p) c e = absurd (none_there i p c e)

pub zeros_hold : (program : Modules) → (t : Ty) (m : List ℕ) → IsFit t → size t ≤ length m
    → ((a : ℕ) → get_or m a 0 ≡ 0) → Holds program (t ∷ []) (λ l k. 0) (λ l. fresh (row (t ∷ [])) l) m
unfolding size
zeros_hold program t m fit room none = record {
  bytes = λ a. let e = none a in omega arith;
  room = omega (arith, room);
  cells = zero_shows program (row (t ∷ [])) 0 m (fit_row t fit) (λ j l. none (0 + j));
  hidden = zero_hides (row (t ∷ [])) 0 m (λ j l. none (0 + j));
}
