-- Whole copies, new frames and the ends of frames, at the memory that the helpers' loops leave.
use Rattle.std.proofs.Common.{◌≡◌, ◌⊎◌, ⊎_elim, ℕ, ◌+◌, ◌≤◌, List, [], ◌∷◌, ◌++◌, length, Some, subst, inl, inr, arith}
use Rattle.law_effect.specs.Bytes.{copied_bytes, cleared_bytes}
use Rattle.law_effect.proofs.Bytes.{copied_length, copied_small, copied_only, copied_moved, cleared_length, cleared_small, cleared_only, cleared_zero}
use Rattle.layout_storage.specs.Types.{Ty, row, component, IsPlain, IsFit}
use Rattle.def_meaning.specs.Environment.{Modules}
use Rattle.def_meaning.specs.Store.{Location, Store, overlay, copy_whole, fresh}
use Rattle.layout_storage.specs.Sizes.{size, offset}
use Rattle.law_memory.specs.Relation.{Shows, Holds}
use Rattle.law_memory.proofs.Places.{same_or_apart, inside}
use Rattle.law_memory.proofs.Keeps.{shows_at, shows_moved}
use Rattle.law_memory.proofs.Worlds.{lies, holds_copied, holds_pushed, plain_hidden}
use Rattle.law_memory.proofs.Frames.{zero_shows, zero_hides}

module _ (program : Modules) (world : List Ty) (x : Location → ℕ → ℕ) (s : Store) (m : List ℕ)
    (h : Holds program world x s m) where
  -- a whole array or record is assigned by the loop over its bytes, also to itself
  pub assigns_whole : (to from : Location) (t : Ty) → IsPlain t → component (row world) to ≡ Some t
      → component (row world) from ≡ Some t →
      Holds program world x (copy_whole to from s)
      (copied_bytes (size t) (offset (row world) to) (offset (row world) from) m)
  assigns_whole to from t plain there source =
      let a = offset (row world) to in
      let b = offset (row world) from in
      let fits = lies program world x s m h to t there in
      let apart : (a ≤ b) ⊎ (b + size t ≤ a) =
      ⊎_elim (λ e. inl (omega arith)) (λ o. ⊎_elim (λ l. inl (omega arith)) (λ l. inr l) o)
      (same_or_apart (row world) t to from there source) in
      holds_copied program world x s m h to from t (copied_bytes (size t) a b m) plain there source
      (copied_moved (size t) a b m fits apart) (copied_only (size t) a b m fits) (copied_length (size t) a b m fits)
      (copied_small (size t) a b m fits h.bytes)

  -- a frame begins: its variables are fresh
  pub begins_frame : (t : Ty) → IsFit t → size (row world) + size t ≤ length m
      → Holds program (world ++ t ∷ []) (overlay (length world ∷ []) (λ r k. 0) x)
      (overlay (length world ∷ []) (fresh t) s) (cleared_bytes (size t) (size (row world)) m)
  begins_frame t fit room =
      let a = size (row world) in
      let m' = cleared_bytes (size t) a m in
      let l = cleared_length (size t) a m room in
      holds_pushed program world x s m h t m' (λ b less. cleared_only (size t) a m room b (inl less)) (fresh t)
      (λ r k. 0) (omega arith) (cleared_small (size t) a m room h.bytes)
      (zero_shows program t a m' fit (cleared_zero (size t) a m room))
      (zero_hides t a m' (cleared_zero (size t) a m room))

  -- the copy of an array behind the frame
  pub begins_copy : (from : Location) (t : Ty) → IsPlain t → component (row world) from ≡ Some t
      → size (row world) + size t ≤ length m
      → Holds program (world ++ t ∷ []) (overlay (length world ∷ []) (λ r k. 0) x)
      (overlay (length world ∷ []) (λ r. s (from ++ r)) s)
      (copied_bytes (size t) (size (row world)) (offset (row world) from) m)
  begins_copy from t plain source room =
      let a = size (row world) in
      let b = offset (row world) from in
      let m' = copied_bytes (size t) a b m in
      let l = copied_length (size t) a b m room in
      let inner : b + size t ≤ a = inside (row world) t from source in
      holds_pushed program world x s m h t m' (λ i less. copied_only (size t) a b m room i (inl less))
      (λ r. s (from ++ r)) (λ r k. 0) (omega arith) (copied_small (size t) a b m room h.bytes)
      (shows_moved program t b a (λ r. s (from ++ r)) m m' (copied_moved (size t) a b m room (inr inner))
      (subst (λ i. Shows program t i (λ r. s (from ++ r)) m) (omega arith)
      (shows_at program (row world) t 0 from s m source h.cells)))
      (λ r n k e less. absurd (plain_hidden t r n plain e))
