-- A component in the stead of another one.
use Rattle.std.proofs.Common.{◌≡◌, ℕ, zero, suc, ◌+◌, Bool, true, false, List, [], ◌∷◌, map, length, drop, Option, Some, None, Result, Ok, Err, IfOk, refl, sym, ap, subst, ◌∙◌, add-one}
use Rattle.std.specs.Prelude.{nat_eq, slice_get, slice_set, if◌then◌else◌}
use Rattle.std.proofs.Math.Seq.{drop-length}
use Rattle.std.proofs.lemmas.Bool.{eqb-true, eqb-false}
use Rattle.def_meaning.specs.Store.{Location, behind, choose_arm, overlay}
use Rattle.plain_store.specs.declared.held.Held.{Held}
use Rattle.plain_store.specs.declared.opened_tree.Components.{Components}
use Rattle.plain_store.specs.Contents.{Contents, or_rest, contents, opened_contents, with_component, IsOpened, IsReplaced}

whole_of : (f s : Contents) → IsReplaced [] f s f
unfolding behind overlay
whole_of f s l = refl

pub whole : (to : Location) (from : ℕ) (f s : Contents) → from ≡ length to → IsReplaced (drop from to) f s f
whole to from f s e = subst (λ (p : Location). IsReplaced p f s f) (sym (ap (λ (n : ℕ). drop n to) e ∙ drop-length to))
    (whole_of f s)

-- ---- one part set

set_same : (ps : List Held) (k : ℕ) (x part : Held) → slice_get ps k ≡ Some part
    → slice_get (slice_set ps k x) k ≡ Some x
set_same [] k x part e = cc e
set_same (p ∷ ps) zero x part e = refl
set_same (p ∷ ps) (suc k) x part e = set_same ps k x part e

set_other : (ps : List Held) (k j : ℕ) (x : Held) → (k ≡ j → ⊥) → slice_get (slice_set ps k x) j ≡ slice_get ps j
set_other [] k j x d = refl
set_other (p ∷ ps) zero zero x d = absurd (d refl)
set_other (p ∷ ps) zero (suc j) x d = refl
set_other (p ∷ ps) (suc k) zero x d = refl
set_other (p ∷ ps) (suc k) (suc j) x d = set_other ps k j x (λ e. d (ap suc e))

found : Option Held → Contents → Contents
found None f r = f r
found (Some h) f r = contents h r

mapped : (ps : List Held) (j : ℕ) (f : Contents) (r : Location)
    → or_rest (slice_get (map contents ps) j) f r ≡ found (slice_get ps j) f r
unfolding found
mapped [] j f r = refl
mapped (p ∷ ps) zero f r = refl
mapped (p ∷ ps) (suc j) f r = mapped ps j f r

twice_set : (ps : List Held) (k j : ℕ) (a b part : Held) (f : Contents) (r : Location) → slice_get ps k ≡ Some part
    → (t : Bool) → nat_eq k j ≡ t
    → found (slice_get (slice_set (slice_set ps k a) k b) j) f r
    ≡ (if t then contents b r else found (slice_get ps j) f r)
unfolding found
twice_set ps k j a b part f r e true q =
    ap (λ (n : ℕ). found (slice_get (slice_set (slice_set ps k a) k b) n) f r) (sym (eqb-true k j q))
    ∙ ap (λ (o : Option Held). found o f r) (set_same (slice_set ps k a) k b a (set_same ps k a part e))
twice_set ps k j a b part f r e false q =
    ap (λ (o : Option Held). found o f r) (set_other (slice_set ps k a) k j b (eqb-false k j q)
    ∙ set_other ps k j a (eqb-false k j q))

-- ---- the step

module _ (k : ℕ) (p : Location) (held new part part' z : Held) (o : Components) (opened : IsOpened held k o)
    (got : slice_get o.parts k ≡ Some part) (rec : IsReplaced p (contents new) (contents part) (contents part')) where
  abbrev after : Components
  after = with_component (with_component o k z) k part'

  held_at : (j : ℕ) (r : Location) → contents held (j ∷ r) ≡ found (slice_get o.parts j) (contents o.rest) r
  held_at j r = sym (opened.says (j ∷ r)) ∙ mapped o.parts j (contents o.rest) r

  held_there : (r : Location) → contents held (k ∷ r) ≡ contents part r
  unfolding found
  held_there r = held_at k r ∙ ap (λ (x : Option Held). found x (contents o.rest) r) got

  other_case : (j : ℕ) (r : Location) (t : Bool) → nat_eq k j ≡ t
      → (if t then contents part' r else found (slice_get o.parts j) (contents o.rest) r)
      ≡ choose_arm (if t then behind p r else None) (contents new) (contents held (j ∷ r))
  unfolding overlay
  other_case j r true q = rec r ∙ ap (λ v. choose_arm (behind p r) (contents new) v)
      (sym (held_there r) ∙ ap (λ (n : ℕ). contents held (n ∷ r)) (eqb-true k j q))
  other_case j r false q = sym (held_at j r)

  stepped : IsReplaced (k ∷ p) (contents new) (contents held) (opened_contents after)
  unfolding behind overlay
  stepped [] = opened.says []
  stepped (j ∷ r) =
      mapped after.parts j (contents o.rest) r
      ∙ twice_set o.parts k j z part' part (contents o.rest) r got (nat_eq k j) refl
      ∙ other_case j r (nat_eq k j) refl

pub ok_put : {E : Type 0} (to : Location) (from k : ℕ) (held new part part' z : Held) (o tree : Components)
    (r : Result Held E) → drop from to ≡ k ∷ drop (suc from) to → IsOpened held k o → slice_get o.parts k ≡ Some part
    → tree ≡ with_component o k z → IsReplaced (drop (from + 1) to) (contents new) (contents part) (contents part')
    → IfOk r (λ h. contents h ≡ opened_contents (with_component tree k part'))
    → IfOk r (λ h. IsReplaced (drop from to) (contents new) (contents held) (contents h))
ok_put to from k held new part part' z o tree (Err e) d a b c f g = tt
ok_put to from k held new part part' z o tree (Ok h) d a b c f g =
    let rec : IsReplaced (drop (suc from) to) (contents new) (contents part) (contents part') =
    subst (λ (n : ℕ). IsReplaced (drop n to) (contents new) (contents part) (contents part')) (add-one from) f in
    let says : contents h ≡ opened_contents (with_component (with_component o k z) k part') = g
    ∙ ap (λ (t : Components). opened_contents (with_component t k part')) c in
    subst (λ (x : Location). IsReplaced x (contents new) (contents held) (contents h)) (sym d)
    (subst (IsReplaced (k ∷ drop (suc from) to) (contents new) (contents held)) (sym says)
    (stepped k (drop (suc from) to) held new part part' z o a b rec))
