-- Frames that are not too large.
use Rattle.std.proofs.Common.{◌≡◌, ℕ, ◌<◌, ◌^◌, Bool, true, false, List, [], ◌∷◌, Option, Some, None, refl, arith}
use Rattle.std.specs.Prelude.{nat_lt, if◌then◌else◌}
use Rattle.std.specs.List.{fold, AllByRecursion}
use Rattle.m2_tree.specs.declared.pos.Pos.{Pos}
use Rattle.typed_tree.specs.declared.typed_module.Routine.{Routine}
use Rattle.typed_tree.specs.declared.typed_module.TypedModule.{TypedModule}
use Rattle.layout_storage.specs.Sizes.{size}
use Rattle.layout_storage.specs.Frames.{frame}
use Rattle.layout_storage.specs.Layouts.{max_storage, with_size, with_frame, least_with, data_too_large}
use Rattle.law_well_formed.proofs.ImportsLists.{all_each}
use Rattle.law_well_formed.specs.FormedFrames.{HasRoom, FramesHaveRoom}

-- no place is reported, so none was reported before, and the size is not too large
pub record Fits (found : Option Pos) (n : ℕ) : Type 0 where
  pub before : found ≡ None
  pub small : n < 2 ^ 31

fits_by : (b : Bool) (found : Option Pos) (n : ℕ) (at : Pos) → nat_lt max_storage n ≡ b
    → (if b then Some (least_with found at) else found) ≡ None → Fits found n
fits_by true found n at h e = absurd cc
fits_by false found n at h e = record { before = e; small = grind (arith, h) }

fits : (found : Option Pos) (n : ℕ) (at : Pos) → with_size found n at ≡ None → Fits found n
fits found n at e = fits_by (nat_lt max_storage n) found n at refl e

-- the same of the frames of a list
all_fit : (m : TypedModule) (found : Option Pos) (rs : List Routine) → fold (with_frame m.types) found rs ≡ None
    → (found ≡ None) × AllByRecursion (HasRoom m) rs
all_fit m found [] e = (e, tt)
all_fit m found (r ∷ rs) e =
    let rest = all_fit m (with_frame m.types found r) rs e in
    let one = fits found (size (frame m.types r)) r.pos rest.0 in
    (one.before, (one.small, rest.1))

pub frames_have_room : FramesHaveRoom
frames_have_room m e =
    let inner = all_fit m (fold (with_frame m.types) (data_too_large m) m.procedures) m.locals e in
    let outer = all_fit m (data_too_large m) m.procedures inner.0 in
    record { procedures = all_each (HasRoom m) m.procedures outer.1; locals = all_each (HasRoom m) m.locals inner.1 }
