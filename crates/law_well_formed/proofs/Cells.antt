-- The cells of types that stay known.
use Rattle.std.proofs.Common.{◌≡◌, ℕ, ◌+◌, ◌*◌, ◌==◌, Bool, true, false, cond, List, [], ◌∷◌, ◌++◌, Option, Some, None, refl, sym, ap, subst, ◌∙◌}
use Rattle.std.specs.Prelude.{slice_get, nat_eq, map}
use Rattle.std.specs.Option.{is_some}
use Rattle.typed_tree.specs.declared.types.Home.{Home}
use Rattle.typed_tree.specs.declared.types.Home.TheVariants.{Predeclared, Module}
use Rattle.typed_tree.specs.declared.types.TypeNo.{TypeNo}
use Rattle.typed_tree.specs.declared.shape.Scalar.{Scalar as Range}
use Rattle.typed_tree.specs.declared.shape.Shape.{Shape}
use Rattle.typed_tree.specs.declared.shape.Shape.TheVariants as shape
use Rattle.typed_tree.specs.declared.shape.Made.{Made}
use Rattle.typed_tree.specs.declared.known_types.Types.{Types}
use Rattle.typed_tree.specs.Known.{in_list, made_in, made_at, made_from, cells_made, cells_at, scalar_made, scalar_at, scalar_from}
use Rattle.check_type_expr.specs.Cells.{count_of, count_at}
use Rattle.law_well_formed.specs.Ordered.{named_by, is_known_from, is_known, AreKnown, cells_of_fields, cells_of, Follows}
use Rattle.law_well_formed.specs.FormedOrder.{StartedFrom}
use Rattle.law_well_formed.proofs.Trees.{at, get_more, made_by, some_of, in_some}
use Rattle.law_well_formed.proofs.OrderTypes.{StayKnown, known_kept, all_kept}

-- what is known is made as before
abbrev pub StayMade : Types → Types → Type 0
StayMade a b = (u : TypeNo) → is_known a u ≡ true → made_at b u ≡ made_at a u

module _ (a b : Types) (stay : StayMade a b) where
  pub scalar_stays : (u : TypeNo) → is_known a u ≡ true → scalar_at b u ≡ scalar_at a u
  scalar_stays u e = from u.home u.number e (stay u e) where
    from : (h : Home) (n : ℕ) → is_known_from a h n ≡ true → made_from b h n ≡ made_from a h n
        → scalar_from b h n ≡ scalar_from a h n
    from Predeclared n g same = refl
    from (Module k) n g same = ap scalar_made same

  pub cells_stay : (u : TypeNo) → is_known a u ≡ true → cells_at b u ≡ cells_at a u
  cells_stay u e = ap cells_made (stay u e)

  pub fields_stay : (fs : List (List ℕ × TypeNo)) → AreKnown a (map (λ f. f.1) fs)
      → cells_of_fields b fs ≡ cells_of_fields a fs
  fields_stay [] h = refl
  fields_stay (f ∷ fs) h = ap (λ (n : ℕ). n + cells_of_fields b fs) (cells_stay f.1 h.0)
      ∙ ap (λ (n : ℕ). cells_at a f.1 + n) (fields_stay fs h.1)

  pub counted_stays : (s : Shape) → AreKnown a (named_by s) → cells_of b s ≡ cells_of a s
  counted_stays (shape.Scalar s) h = refl
  counted_stays shape.Set h = refl
  counted_stays (shape.Array i e) h =
      ap (λ (o : Option Range). count_of o * cells_at b e) (scalar_stays i h.0)
      ∙ ap (λ (n : ℕ). count_at a i * n) (cells_stay e h.1.0)
  counted_stays (shape.Record fs) h = fields_stay fs h
  counted_stays (shape.Procedure p) h = refl
  counted_stays (shape.Open e) h = refl

  pub follows_stays : StayKnown a b → (m : Made) → Follows a m → Follows b m
  follows_stays known m f = record {
    known = all_kept a b known (named_by m.shape) f.known;
    counted = f.counted ∙ sym (counted_stays m.shape f.known);
    few = f.few;
  }

-- ---- further types

abbrev made_there : (k n home : ℕ) → (own : List Made) → (others : List (ℕ × List Made)) → Option Made
made_there k n home own others = cond (k == home) (slice_get own n) (in_list n (at k others))

pub made_kept : (a b : Types) → StartedFrom a b → StayMade a b
made_kept a b p t e = from t.home t.number e where
  by : (c : Bool) (n : ℕ) (other : Option Made) → is_some (cond c (slice_get a.own n) other) ≡ true
      → cond c (slice_get (a.own ++ p.more) n) other ≡ cond c (slice_get a.own n) other
  by true n other g = get_more a.own p.more n g
  by false n other g = refl

  same : (k n : ℕ) → made_there k n b.home b.own b.others ≡ made_there k n a.home (a.own ++ p.more) a.others
  same k n =
      ap (λ (h : ℕ). made_there k n h b.own b.others) p.home
      ∙ ap (λ (ms : List Made). made_there k n a.home ms b.others) p.own
      ∙ ap (λ (es : List (ℕ × List Made)). made_there k n a.home (a.own ++ p.more) es) p.others

  from : (h : Home) (n : ℕ) → is_known_from a h n ≡ true → made_from b h n ≡ made_from a h n
  from Predeclared n g = refl
  from (Module k) n g = same k n ∙ by (k == a.home) n (in_list n (at k a.others)) g

-- ---- more modules behind those that stand before

pub made_within : (before so : List (ℕ × List Made))
    → ((k : ℕ) (l : List Made) → at k before ≡ Some l → at k so ≡ Some l) → (h : ℕ) (own : List Made)
    → StayMade (made_by h own before) (made_by h own so)
made_within before so w h own u e = from u.home u.number e where
  there : (k n : ℕ) → is_some (in_list n (at k before)) ≡ true → in_list n (at k so) ≡ in_list n (at k before)
  there k n g =
      let x = some_of (at k before) (in_some n (at k before) g) in
      ap (in_list n) (w k x.0 x.1 ∙ sym x.1)

  by : (k n : ℕ) (b : Bool) → is_some (cond b (slice_get own n) (in_list n (at k before))) ≡ true
      → cond b (slice_get own n) (in_list n (at k so)) ≡ cond b (slice_get own n) (in_list n (at k before))
  by k n true g = refl
  by k n false g = there k n g

  from : (home : Home) (n : ℕ) → is_known_from (made_by h own before) home n ≡ true
      → made_from (made_by h own so) home n ≡ made_from (made_by h own before) home n
  from Predeclared n g = refl
  from (Module k) n g = by k n (k == h) g
