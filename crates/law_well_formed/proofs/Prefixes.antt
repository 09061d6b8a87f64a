-- What holds of each type that follows those before it holds of all types in order.
use Rattle.std.proofs.Common.{◌≡◌, ℕ, zero, suc, ◌==◌, Bool, true, false, cond, List, [], ◌∷◌, ◌++◌, length, Option, Some, None, refl, sym, ap, subst, ◌∙◌, arith}
use Rattle.std.proofs.lemmas.Bool.{eqb-true}
use Rattle.std.proofs.lemmas.List.{append-nil}
use Rattle.std.specs.Prelude.{slice_get, nat_eq}
use Rattle.std.specs.Option.{is_some}
use Rattle.typed_tree.specs.declared.types.Home.{Home}
use Rattle.typed_tree.specs.declared.types.Home.TheVariants.{Predeclared, Module}
use Rattle.typed_tree.specs.declared.types.TypeNo.{TypeNo}
use Rattle.typed_tree.specs.declared.shape.Made.{Made}
use Rattle.typed_tree.specs.Known.{in_list}
use Rattle.law_well_formed.specs.Ordered.{is_known_from, is_known, Follows, AreOrderedFrom, OthersOrdered}
use Rattle.law_well_formed.proofs.Trees.{at, at_more, at_behind, at_placed, append_more, made_by, is_among_from, is_among}

-- ---- places in lists

pub get_here : {X : Type 0} (xs : List X) (x : X) (ys : List X) → slice_get (xs ++ x ∷ ys) (length xs) ≡ Some x
get_here [] x ys = refl
get_here (y ∷ xs) x ys = get_here xs x ys

last_place : {X : Type 0} (xs : List X) (x : X) (n : ℕ) → is_some (slice_get (xs ++ x ∷ []) n) ≡ true
    → slice_get xs n ≡ None → n ≡ length xs
last_place [] x zero e f = refl
last_place [] x (suc n) e f = absurd cc
last_place (y ∷ xs) x zero e f = absurd cc
last_place (y ∷ xs) x (suc n) e f = let k : n ≡ length xs = last_place xs x n e f in omega (arith, k)

-- ---- the types of one module

abbrev pub type_no : Home → ℕ → TypeNo
type_no h n = record { home = h; number = n }

module _ (P : TypeNo → Type 0) (plain : (n : ℕ) → P (type_no Predeclared n)) where
  abbrev pub HoldIn : List (ℕ × List Made) → ℕ → List Made → Type 0
  HoldIn before k own = (u : TypeNo) → is_known (made_by k own before) u ≡ true → P u

  -- each type of the module, if it holds of those before
  abbrev pub Steps : List (ℕ × List Made) → ℕ → List Made → Type 0
  Steps before k all = (own : List Made) (x : Made) (more : List Made) → own ++ x ∷ more ≡ all
      → Follows (made_by k own before) x → HoldIn before k own → P (type_no (Module k) (length own))

  module _ (before : List (ℕ × List Made)) (k : ℕ) where
    one_more : (own : List Made) (x : Made) → HoldIn before k own → P (type_no (Module k) (length own))
        → HoldIn before k (own ++ x ∷ [])
    one_more own x same new u e = from u.home u.number e where
      old : (j n : ℕ) → is_some (cond (j == k) (slice_get own n) (in_list n (at j before))) ≡ true
          → P (type_no (Module j) n)
      old j n g = same (type_no (Module j) n) g

      here : (j n : ℕ) → j ≡ k → (o : Option Made) → slice_get own n ≡ o → is_some (slice_get (own ++ x ∷ []) n) ≡ true
          → (is_some (slice_get own n) ≡ true → P (type_no (Module j) n)) → P (type_no (Module j) n)
      here j n i None f g on =
          let place : n ≡ length own = last_place own x n g f in
          subst (λ (m : ℕ). P (type_no (Module j) m)) (sym place)
          (subst (λ (h : ℕ). P (type_no (Module h) (length own))) (sym i) new)
      here j n i (Some y) f g on = on (ap is_some f)

      by : (j n : ℕ) (c : Bool) → (j == k) ≡ c
          → (is_some (cond c (slice_get own n) (in_list n (at j before))) ≡ true → P (type_no (Module j) n))
          → is_some (cond c (slice_get (own ++ x ∷ []) n) (in_list n (at j before))) ≡ true → P (type_no (Module j) n)
      by j n true i on g = here j n (eqb-true j k i) (slice_get own n) refl g on
      by j n false i on g = on g

      from : (h : Home) (n : ℕ) → is_known_from (made_by k (own ++ x ∷ []) before) h n ≡ true → P (type_no h n)
      from Predeclared n g = plain n
      from (Module j) n g = by j n (j == k) refl (old j n) g

    pub all_hold : (all : List Made) → Steps before k all → (ms own : List Made) → own ++ ms ≡ all
        → AreOrderedFrom before k own ms → HoldIn before k own → HoldIn before k all
    all_hold all steps [] own e o same = subst (λ (xs : List Made). HoldIn before k xs) (sym (append-nil own) ∙ e) same
    all_hold all steps (x ∷ ms) own e o same =
        all_hold all steps ms (own ++ x ∷ []) (append_more own x ms ∙ e) o.1
        (one_more own x same (steps own x ms e o.0 same))

  -- ---- the types of all modules

  abbrev pub Hold : List (ℕ × List Made) → Type 0
  Hold before = (u : TypeNo) → is_among before u ≡ true → P u

  pub none_own : (before : List (ℕ × List Made)) (k : ℕ) → Hold before → HoldIn before k []
  none_own before k same u e = same u (from u.home u.number e) where
    by : (j n : ℕ) (c : Bool) → is_some (cond c (slice_get [] n) (in_list n (at j before))) ≡ true
        → is_some (in_list n (at j before)) ≡ true
    by j n true g = absurd cc
    by j n false g = g

    from : (h : Home) (n : ℕ) → is_known_from (made_by k [] before) h n ≡ true → is_among_from before h n ≡ true
    from Predeclared n g = g
    from (Module j) n g = by j n (j == k) g

  with_own : (before : List (ℕ × List Made)) (k : ℕ) (all : List Made) → at k before ≡ None → HoldIn before k all
      → Hold (before ++ (k, all) ∷ [])
  with_own before k all free same u e = same u (from u.home u.number e) where
    here : (j n : ℕ) → j ≡ k → is_some (in_list n (at j (before ++ (k, all) ∷ []))) ≡ true
        → is_some (slice_get all n) ≡ true
    here j n i g = sym (ap (λ (h : ℕ). is_some (in_list n (at h (before ++ (k, all) ∷ [])))) i
        ∙ ap (λ (o : Option (List Made)). is_some (in_list n o)) (at_placed k before all [] free)) ∙ g

    other : (j n : ℕ) → nat_eq j k ≡ false → (o : Option (List Made)) → at j before ≡ o
        → is_some (in_list n (at j (before ++ (k, all) ∷ []))) ≡ true → is_some (in_list n (at j before)) ≡ true
    other j n i None f g =
        let none : at j (before ++ (k, all) ∷ []) ≡ None = at_behind j before ((k, all) ∷ []) f
        ∙ ap (λ (c : Bool). cond c (Some all) None) i in
        let clash : false ≡ true = sym (ap (λ (o : Option (List Made)). is_some (in_list n o)) none) ∙ g in absurd cc
    other j n i (Some l) f g = ap (λ (o : Option (List Made)). is_some (in_list n o))
        (f ∙ sym (at_more j before ((k, all) ∷ []) l f)) ∙ g

    by : (j n : ℕ) (c : Bool) → (j == k) ≡ c → is_some (in_list n (at j (before ++ (k, all) ∷ []))) ≡ true
        → is_some (cond c (slice_get all n) (in_list n (at j before))) ≡ true
    by j n true i g = here j n (eqb-true j k i) g
    by j n false i g = other j n i (at j before) refl g

    from : (h : Home) (n : ℕ) → is_among_from (before ++ (k, all) ∷ []) h n ≡ true
        → is_known_from (made_by k all before) h n ≡ true
    from Predeclared n g = g
    from (Module j) n g = by j n (j == k) refl g

  module _ (es : List (ℕ × List Made)) (steps : (before rest : List (ℕ × List Made)) (k : ℕ) (all : List Made)
      → before ++ (k, all) ∷ rest ≡ es → at k before ≡ None → Steps before k all) where
    hold_from : (rest before : List (ℕ × List Made)) → before ++ rest ≡ es → OthersOrdered before rest → Hold before
        → Hold es
    hold_from [] before e o same = subst (λ (xs : List (ℕ × List Made)). Hold xs) (sym (append-nil before) ∙ e) same
    hold_from (x ∷ rest) before e o same =
        hold_from rest (before ++ x ∷ []) (append_more before x rest ∙ e) o.1.1
        (with_own before x.0 x.1 o.0 (all_hold before x.0 x.1 (steps before rest x.0 x.1 e o.0) x.1 [] refl o.1.0
        (none_own before x.0 same)))

    nothing_yet : Hold []
    nothing_yet u e = from u.home u.number e where
      from : (h : Home) (n : ℕ) → is_among_from [] h n ≡ true → P (type_no h n)
      from Predeclared n g = plain n
      from (Module k) n g = absurd cc

    pub all_others : OthersOrdered [] es → Hold es
    all_others o = hold_from es [] refl o nothing_yet
