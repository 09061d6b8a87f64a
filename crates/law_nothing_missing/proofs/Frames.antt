-- Names, arguments and values of the types that are asked for.
use Rattle.std.proofs.Common.{◌≡◌, ℕ, zero, suc, ℤ, Bool, false, List, [], ◌∷◌, ◌++◌, length, Option, Some, None, refl, ap, subst, ◌∙◌}
use Rattle.std.specs.Prelude.{slice_get, drop}
use Rattle.typed_tree.specs.declared.computed.Slot.{Slot}
use Rattle.layout_storage.specs.Types.{Ty, Scalar, Natural, Callable, Cell, Array, Heading}
use Rattle.def_meaning.specs.Environment.{Modules, Named, At, Elements, Frames, Environment, Passed, Number, Variable, Array as Whole, Text, or_empty, slot_named}
use Rattle.def_meaning.specs.Store.{Location}
use Rattle.law_memory.specs.Relation.{IsProcedureValue}
use Rattle.law_simulation.specs.Frames.{Kind, Kept, Alias, Open, Kinds, or_none, kind_at}
use Rattle.law_simulation.specs.Passing.{Form, ByNumber, ByCopy, ByName, ByArray, Result}
use Rattle.law_nothing_missing.specs.Worlds.{World, type_at}
use Rattle.law_nothing_missing.proofs.Worlds.{none_some, some_same, there_more}

-- ---- lists in step

pub data Pairs {A B : Type 0} (R : A → B → Type 0) : List A → List B → Type 0 where
  no_pairs : Pairs R [] []
  more_pairs : (x : A) (xs : List A) (y : B) (ys : List B) → R x y → Pairs R xs ys → Pairs R (x ∷ xs) (y ∷ ys)

pub pair_at : {A B : Type 0} (R : A → B → Type 0) (xs : List A) (ys : List B) → Pairs R xs ys → (k : ℕ) (x : A)
    → slice_get xs k ≡ Some x → (y : B) × (slice_get ys k ≡ Some y) × R x y
pair_at R _ _ no_pairs k x e = absurd (none_some x e)
pair_at R _ _ (more_pairs z xs y ys r rs) zero x e = (y, refl, subst (λ z. R z y) (some_same z x e) r)
pair_at R _ _ (more_pairs z xs y ys r rs) (suc k) x e = pair_at R xs ys rs k x e

pub pairs_drop : {A B : Type 0} (R : A → B → Type 0) (k : ℕ) (xs : List A) (ys : List B) → Pairs R xs ys
    → Pairs R (drop k xs) (drop k ys)
pairs_drop R zero xs ys h = h
pairs_drop R (suc k) _ _ no_pairs = no_pairs
pairs_drop R (suc k) _ _ (more_pairs x xs y ys r rs) = pairs_drop R k xs ys rs

pub pairs_map : {A B : Type 0} (R S : A → B → Type 0) → ((x : A) (y : B) → R x y → S x y) → (xs : List A) (ys : List B)
    → Pairs R xs ys → Pairs S xs ys
pairs_map R S f _ _ no_pairs = no_pairs
pairs_map R S f _ _ (more_pairs x xs y ys r rs) = more_pairs x xs y ys (f x y r) (pairs_map R S f xs ys rs)

pub pairs_append : {A B : Type 0} (R : A → B → Type 0) (xs : List A) (ys : List B) (xs' : List A) (ys' : List B)
    → Pairs R xs ys → Pairs R xs' ys' → Pairs R (xs ++ xs') (ys ++ ys')
pairs_append R _ _ xs' ys' no_pairs more = more
pairs_append R _ _ xs' ys' (more_pairs x xs y ys r rs) more =
    more_pairs x (xs ++ xs') y (ys ++ ys') r (pairs_append R xs ys xs' ys' rs more)

pub pairs_length : {A B : Type 0} (R : A → B → Type 0) (xs : List A) (ys : List B) → Pairs R xs ys
    → length xs ≡ length ys
pairs_length R _ _ no_pairs = refl
pairs_length R _ _ (more_pairs x xs y ys r rs) = ap suc (pairs_length R xs ys rs)

-- ---- names

-- what a name stands for is there, and has the type of its kind
pub data IsName (world : World) : Kind → Named → Type 0 where
  kept_name : (t : Ty) (l : Location) → type_at world l ≡ Some t → IsName world (Kept t) (At l)
  alias_name : (t : Ty) (l : Location) → type_at world l ≡ Some t → IsName world (Alias t) (At l)
  open_name : (t : Ty) (l : Location) (high : ℕ) → type_at world l ≡ Some (Array (suc high) t)
      → IsName world (Open t) (Elements l high)

abbrev pub AreNames : World → Kinds → List Named → Type 0
AreNames world ks ns = Pairs (IsName world) ks ns

abbrev pub AreFrames : World → List Kinds → Frames → Type 0
AreFrames world kss nss = Pairs (AreNames world) kss nss

pub name_more : (world more : World) (k : Kind) (n : Named) → IsName world k n → IsName (world ++ more) k n
name_more world more _ _ (kept_name t l e) = kept_name t l (there_more world more l t e)
name_more world more _ _ (alias_name t l e) = alias_name t l (there_more world more l t e)
name_more world more _ _ (open_name t l high e) = open_name t l high (there_more world more l (Array (suc high) t) e)

pub names_more : (world more : World) (ks : Kinds) (ns : List Named) → AreNames world ks ns
    → AreNames (world ++ more) ks ns
names_more world more ks ns h = pairs_map (IsName world) (IsName (world ++ more)) (name_more world more) ks ns h

pub frames_more : (world more : World) (kss : List Kinds) (nss : Frames) → AreFrames world kss nss
    → AreFrames (world ++ more) kss nss
frames_more world more kss nss h = pairs_map (AreNames world) (AreNames (world ++ more)) (names_more world more) kss nss
    h

-- a name at a slot
pub named_at : (world : World) (kss : List Kinds) (a : Environment) → AreFrames world kss a.frames
    → (slot : Slot) (k : Kind) → kind_at kss slot ≡ Some k → (n : Named) × (slot_named a slot ≡ Some n)
    × IsName world k n
named_at world kss a frames slot k e = go (slice_get kss slot.up) refl e
  where
    go : (o : Option Kinds) → slice_get kss slot.up ≡ o → slice_get (or_none o) slot.number ≡ Some k → (n : Named)
        × (slot_named a slot ≡ Some n) × IsName world k n
    go None f e = absurd (none_some k e)
    go (Some ks) f e =
        let p = pair_at (AreNames world) kss a.frames frames slot.up ks f in
        let q = pair_at (IsName world) ks p.0 p.2 slot.number k e in
        (q.0, ap (λ (o : Option (List Named)). slice_get (or_empty o) slot.number) p.1 ∙ q.1, q.2)

-- ---- arguments

module _ (p : Modules) where
  -- an argument is what its formal asks for
  pub data IsGiven (world : World) : Form → Passed → Type 0 where
    given_number : (c : Scalar) (v : ℤ) → ((h : Heading) → c ≡ Callable h → IsProcedureValue p h v)
        → IsGiven world (ByNumber c) (Number v)
    given_copy : (t : Ty) (l : Location) → type_at world l ≡ Some t → IsGiven world (ByCopy t) (Variable l)
    given_name : (t : Ty) (l : Location) → type_at world l ≡ Some t → IsGiven world (ByName t) (Variable l)
    given_array : (is_var : Bool) (t : Ty) (l : Location) (high : ℕ) → type_at world l ≡ Some (Array (suc high) t)
        → IsGiven world (ByArray is_var t) (Whole l high)
    given_text : (text : List ℕ) → IsGiven world (ByArray false (Cell (Natural 255))) (Text text)

  -- what a call gives
  abbrev pub IsGood : Result → ℤ → Type 0
  IsGood None v = Unit {0}
  IsGood (Some t) v = (h : Heading) → t ≡ Cell (Callable h) → IsProcedureValue p h v
