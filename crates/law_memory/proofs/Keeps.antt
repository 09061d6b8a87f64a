-- What a memory shows of a store, before and after a write.
use Rattle.std.proofs.Common.{◌≡◌, ⊎_elim, ℕ, zero, suc, ◌+◌, ℤ, List, [], ◌∷◌, ◌++◌, Option, Some, None, refl, sym, ap, ◌∙◌, subst, inl, inr, arith, append-nil}
use Rattle.std.proofs.lemmas.Option.{none-some}
use Rattle.law_effect.specs.Bytes.{byte, AreMoved, IsOnly}
use Rattle.layout_storage.specs.Types.{Ty, Scalar, Cell, Hidden, component}
use Rattle.def_meaning.specs.Environment.{Modules}
use Rattle.def_meaning.specs.Store.{Location, behind}
use Rattle.layout_storage.specs.Sizes.{size, offset, width, value_of}
use Rattle.law_memory.specs.Cells.{number}
use Rattle.law_memory.specs.Relation.{Says, Shows, Hides}
use Rattle.law_memory.proofs.Places.{behind_is, behind_append, component_append, offset_append, inside, apart, AreApart}

pub number_moved : (k a b : ℕ) (m m' : List ℕ) → AreMoved k a b m m' → number k b m' ≡ number k a m
unfolding number
number_moved zero a b m m' h = refl
number_moved (suc k) a b m m' h =
    let here : byte b m' ≡ byte a m = ap (λ x. byte x m') (omega arith) ∙ h 0 (omega arith)
    ∙ ap (λ x. byte x m) (omega arith) in
    let rest : number k (b + 1) m' ≡ number k (a + 1) m =
    number_moved k (a + 1) (b + 1) m m' (λ j l. ap (λ x. byte x m') (omega arith) ∙ h (suc j) (omega arith)
    ∙ ap (λ x. byte x m) (omega arith)) in
    omega arith

pub says_moved : (program : Modules) → (c : Scalar) (a b : ℕ) (v : ℤ) (m m' : List ℕ) → AreMoved (width c) a b m m'
    → Says program c a v m → Says program c b v m'
says_moved program c a b v m m' h s = record {
  value = ap (value_of c) (number_moved (width c) a b m m' h) ∙ s.value;
  within = s.within;
  means = s.means;
}

-- what it shows of a component
pub shows_at : (program : Modules) → (t s : Ty) (a : ℕ) (p : Location) (f : Location → ℤ) (m : List ℕ)
    → component t p ≡ Some s → Shows program t a f m → Shows program s (a + offset t p) (λ r. f (p ++ r)) m
shows_at program t s a p f m e h r c g =
    let o = offset_append t s p r e in
    subst (λ b. Says program c b (f (p ++ r)) m) (omega arith) (h (p ++ r) c (component_append t s p r e ∙ g))

-- the same bytes elsewhere show the same
pub shows_moved : (program : Modules) → (t : Ty) (a b : ℕ) (f : Location → ℤ) (m m' : List ℕ)
    → AreMoved (size t) a b m m' → Shows program t a f m → Shows program t b f m'
unfolding size
shows_moved program t a b f m m' h s r c g =
    let i = inside t (Cell c) r g in
    says_moved program c (a + offset t r) (b + offset t r) (f r) m m'
    (λ j l. ap (λ x. byte x m') (omega arith) ∙ h (offset t r + j) (omega arith) ∙ ap (λ x. byte x m) (omega arith))
    (s r c g)

pub shows_alike : (program : Modules) → (t : Ty) (a : ℕ) (f g : Location → ℤ) (m : List ℕ)
    → ((r : Location) → f r ≡ g r) → Shows program t a f m → Shows program t a g m
shows_alike program t a f g m e s r c h = subst (λ v. Says program c (a + offset t r) v m) (e r) (s r c h)

pub hides_at : (t s : Ty) (a : ℕ) (p : Location) (x : Location → ℕ → ℕ) (m : List ℕ) → component t p ≡ Some s
    → Hides t a x m → Hides s (a + offset t p) (λ r. x (p ++ r)) m
hides_at t s a p x m e h r n k g l =
    let o = offset_append t s p r e in
    ap (λ b. byte b m) (omega arith) ∙ h (p ++ r) n k (component_append t s p r e ∙ g) l

-- ---- a write to one component

-- the type has no components
abbrev IsLeaf : Ty → Type 0
IsLeaf u = (i : ℕ) (p : Location) → component u (i ∷ p) ≡ None

cell_leaf : (c : Scalar) → IsLeaf (Cell c)
unfolding component
cell_leaf c i p = refl

hidden_leaf : (n : ℕ) → IsLeaf (Hidden n)
unfolding component
hidden_leaf n i p = refl

leaf_apart : (t s u : Ty) (to l : Location) → IsLeaf u → component t to ≡ Some s → component t l ≡ Some u
    → behind to l ≡ None → AreApart to l
leaf_apart t s u to l leaf e g none = record { right = none; left = left (behind l to) refl }
  where
    below : (r : Location) → behind l to ≡ Some r → ⊥
    below [] b =
        let same : to ≡ l = behind_is l to [] b ∙ append-nil l in
        none-some [] (sym none ∙ ap (behind to) (sym same ∙ sym (append-nil to)) ∙ behind_append to [])
    below (i ∷ r) b =
        none-some s (sym (leaf i r) ∙ sym (component_append t u l (i ∷ r) g)
        ∙ ap (component t) (sym (behind_is l to (i ∷ r) b)) ∙ e)

    left : (o : Option Location) → behind l to ≡ o → behind l to ≡ None
    left None b = b
    left (Some r) b = absurd (below r b)

-- a part that has no components and is not in what was written is as it was
kept : (t s u : Ty) (a : ℕ) (to l : Location) (m m' : List ℕ) → IsLeaf u → component t to ≡ Some s
    → component t l ≡ Some u → behind to l ≡ None → IsOnly (a + offset t to) (size s) m m'
    → AreMoved (size u) (a + offset t l) (a + offset t l) m m'
kept t s u a to l m m' leaf e g none only j less =
    only (a + offset t l + j)
    (⊎_elim (λ h. inr (omega arith)) (λ h. inl (omega arith))
    (apart t s u to l e g (leaf_apart t s u to l leaf e g none)))

module _ (t s : Ty) (a : ℕ) (to : Location) (m m' : List ℕ) (there : component t to ≡ Some s)
    (only : IsOnly (a + offset t to) (size s) m m') where
  pub shows_written : (program : Modules) → (f f' : Location → ℤ) → ((l : Location) → behind to l ≡ None → f' l ≡ f l)
      → Shows program s (a + offset t to) (λ r. f' (to ++ r)) m' → Shows program t a f m → Shows program t a f' m'
  unfolding size
  shows_written program f f' same new old l c g = cases (behind to l) refl
    where
      cases : (o : Option Location) → behind to l ≡ o → Says program c (a + offset t l) (f' l) m'
      cases (Some r) b =
          let is = behind_is to l r b in
          let o = offset_append t s to r there in
          let e : component s r ≡ Some (Cell c) = sym (component_append t s to r there) ∙ ap (component t) (sym is)
          ∙ g in
          subst (λ k. Says program c (a + offset t k) (f' k) m') (sym is)
          (subst (λ b. Says program c b (f' (to ++ r)) m') (omega arith) (new r c e))
      cases None b =
          subst (λ v. Says program c (a + offset t l) v m') (sym (same l b))
          (says_moved program c _ _ (f l) m m' (kept t s (Cell c) a to l m m' (cell_leaf c) there g b only) (old l c g))

  pub hides_written : (x x' : Location → ℕ → ℕ) → ((l : Location) (k : ℕ) → behind to l ≡ None → x' l k ≡ x l k)
      → Hides s (a + offset t to) (λ r. x' (to ++ r)) m' → Hides t a x m → Hides t a x' m'
  unfolding size
  hides_written x x' same new old l n k g less = cases (behind to l) refl
    where
      cases : (o : Option Location) → behind to l ≡ o → byte (a + offset t l + k) m' ≡ x' l k
      cases (Some r) b =
          let is = behind_is to l r b in
          let o = offset_append t s to r there in
          let e : component s r ≡ Some (Hidden n) = sym (component_append t s to r there) ∙ ap (component t) (sym is)
          ∙ g in
          subst (λ q. byte (a + offset t q + k) m' ≡ x' q k) (sym is)
          (ap (λ b. byte b m') (omega arith) ∙ new r n k e less)
      cases None b = kept t s (Hidden n) a to l m m' (hidden_leaf n) there g b only k less ∙ old l n k g less
          ∙ sym (same l k b)
