-- Types that are made stay.
use Rattle.std.proofs.Common.{◌≡◌, ℕ, zero, suc, Bool, true, false, cond, List, [], ◌∷◌, ◌++◌, Option, Some, None, refl, ap, ◌∙◌}
use Rattle.std.specs.Prelude.{◌==◌, slice_get}
use Rattle.std.specs.Option.{option_map}
use Rattle.typed_tree.specs.declared.types.Home.{Home}
use Rattle.typed_tree.specs.declared.types.Home.TheVariants.{Predeclared, Module}
use Rattle.typed_tree.specs.declared.types.TypeNo.{TypeNo}
use Rattle.typed_tree.specs.declared.shape.Made.{Made}
use Rattle.typed_tree.specs.declared.shape.Shape.{Shape}
use Rattle.typed_tree.specs.declared.known_types.Types.{Types}
use Rattle.def_typing.specs.Shapes.{shape_from, IsMade}
use Rattle.def_typing.specs.Headings as headings
use Rattle.def_typing.specs.Headings.{IsResult}
use Rattle.def_typing.specs.TypeExprs.{with_types}
use Rattle.def_typing.specs.Declarations.{Declared as Resolved, types_behind}

get_more : {A : Type 0} (xs ys : List A) (n : ℕ) (y : A) → slice_get xs n ≡ Some y → slice_get (xs ++ ys) n ≡ Some y
get_more [] ys n y e = absurd cc
get_more (x ∷ xs) ys zero y e = e
get_more (x ∷ xs) ys (suc n) y e = get_more xs ys n y e

abbrev pub Extends : Types → Types → Type 0
Extends a b = (t : TypeNo) (s : Shape) → IsMade a t s → IsMade b t s

pub extends_then : (a b c : Types) → Extends a b → Extends b c → Extends a c
extends_then a b c p q t s m = q t s (p t s m)

got_shape : {s : Shape} (m : Option Made) → option_map (λ (m : Made). m.shape) m ≡ Some s → (x : Made) × (m ≡ Some x)
    × (x.shape ≡ s)
got_shape None e = absurd cc
got_shape (Some x) e = let z : x.shape ≡ _ = cc in (x, refl, z)

pub extends_more : (a : Types) (ms : List Made) → Extends a (with_types a ms)
extends_more a ms t s m = from t.home t.number m
  where
    here : (b : Bool) (n : ℕ) (other : Option Made)
        → option_map (λ (m : Made). m.shape) (cond b (slice_get a.own n) other) ≡ Some s
        → option_map (λ (m : Made). m.shape) (cond b (slice_get (a.own ++ ms) n) other) ≡ Some s
    here true n other e = let z = got_shape (slice_get a.own n) e in
        ap (λ (m : Option Made). option_map (λ (m : Made). m.shape) m) (get_more a.own ms n z.0 z.1)
        ∙ ap (λ (s : Shape). Some s) z.2
    here false n other e = e

    from : (h : Home) (n : ℕ) → shape_from a n h ≡ Some s → shape_from (with_types a ms) n h ≡ Some s
    from Predeclared n e = e
    from (Module k) n e = here (k == a.home) n _ e

pub extends_behind : (a : Types) (front : List Resolved) → Extends a (types_behind a front)
extends_behind a [] t s m = m
extends_behind a (d ∷ front) t s m = extends_more (types_behind a front) d.adds.makes t s (extends_behind a front t s m)

pub extends_result : {a b : Types} → Extends a b → (t : TypeNo) → IsResult a t → IsResult b t
extends_result e t (headings.is_result {s = s} m i) = headings.is_result (e t s m) i
