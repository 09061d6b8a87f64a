-- Files into which other modules are put stay in their order.
use Rattle.std.proofs.Common.{◌≡◌, ℕ, zero, suc, ◌+◌, Bool, true, false, cond, List, [], ◌∷◌, get_or, map, refl, sym, ap, ap₂, subst, ◌∙◌, arith, Option, Some, None}
use Rattle.std.specs.Prelude.{slice_get}
use Rattle.std.specs.List.{AllZip, filter}
use Rattle.std.specs.List.Sorted.{ties}
use Rattle.std.specs.Ordering.{nat_cmp, is_lt}
use Rattle.std.specs.Cmp.Lexicographic.{slice_cmp}
use Rattle.std.proofs.lemmas.List.{length-map}
use Rattle.std.proofs.lemmas.List.Sorted.{IsPermutation-map, IsPermutation-sym}
use Rattle.std.proofs.lemmas.Option.{none-some, same_Some}
use Rattle.m2_tree.specs.declared.decl.Module.{Module}
use Rattle.m2_graph.specs.Files.{File, is_before, AreInOrder, number_files}
use Rattle.law_graph.proofs.Lists.{Among, among-permutation}
use Rattle.law_separation.specs.Alike.{Tree, HaveSameHead, AreAlike, HaveSameHeads}

-- the other module, if there is one
abbrev pub tree_or : Module → Option Tree → Module
tree_or t None = t
tree_or t (Some g) = g.1

zipped : {A B : Type 0} (R : A → B → Type 0) (xs : List A) (ys : List B) (k : ℕ) (x : A) → AllZip R xs ys
    → slice_get xs k ≡ Some x → (y : B) × (slice_get ys k ≡ Some y) × R x y
zipped R [] ys k x z e = absurd (none-some x e)
zipped R (a ∷ xs) [] k x z e = absurd z
zipped {A} {B} R (a ∷ xs) (b ∷ ys) zero x z e = let s : a ≡ x = same_Some a x e in
    (b, refl, subst (λ (c : A). R c b) s z.0)
zipped R (a ∷ xs) (b ∷ ys) (suc k) x z e = zipped R xs ys k x z.1 e

numbered_here : (n : ℕ) (fs : List Tree) (k : ℕ) (f : File) → slice_get (number_files n fs) k ≡ Some f
    → (f.given ≡ n + k) × ((t : Tree) × (slice_get fs k ≡ Some t) × (t.1 ≡ f.tree))
numbered_here n [] k f e = absurd (none-some f e)
numbered_here n (p ∷ fs) zero f e =
    let s = same_Some (record { name = p.0; tree = p.1; given = n }) f e in
    let g : n ≡ f.given = ap (λ (x : File). x.given) s in
    (omega (arith, g), (p, refl, ap (λ (x : File). x.tree) s))
numbered_here n (p ∷ fs) (suc k) f e = let r = numbered_here (n + 1) fs k f e in (omega (arith, r.0), r.1)

module _ (others : List Tree) where
  abbrev pub replace : File → File
  replace f = record { name = f.name; tree = tree_or f.tree (slice_get others f.given); given = f.given }

  abbrev pub put : List File → List File
  put fs = map replace fs

  -- ---- the files as they are given

  pub numbered : (n : ℕ) (fs gs : List Tree) → ((i : ℕ) → slice_get others (n + i) ≡ slice_get gs i)
      → HaveSameHeads fs gs → put (number_files n fs) ≡ number_files n gs
  numbered n [] [] at z = refl
  numbered n [] (g ∷ gs) at z = absurd z
  numbered n (f ∷ fs) [] at z = absurd z
  numbered n (f ∷ fs) (g ∷ gs) at z =
      let e : n ≡ n + 0 = omega arith in
      let s : slice_get others n ≡ Some g = ap (slice_get others) e ∙ at 0 in
      let first : replace (record { name = f.0; tree = f.1; given = n })
      ≡ record { name = g.0; tree = g.1; given = n } =
      ap₂ (λ (name : List ℕ) (tree : Module). record { name = name; tree = tree; given = n }) z.0.of_name
      (ap (tree_or f.1) s) in
      let more : (i : ℕ) → slice_get others (n + 1 + i) ≡ slice_get gs i =
      λ i. (let q : n + 1 + i ≡ n + suc i = omega arith in ap (slice_get others) q ∙ at (suc i)) in
      ap₂ (λ (x : File) (xs : List File). x ∷ xs) first (numbered (n + 1) fs gs more z.1)

  -- Each of them has the head of the other in its place.
  abbrev pub AreGood : List File → Type 0
  AreGood fs = (f : File) → Among fs f → HaveSameHead f.tree (replace f).tree

  given_good : (fs : List Tree) → HaveSameHeads fs others → AreGood (number_files 0 fs)
  given_good fs z f a =
      let r = numbered_here 0 fs a.0 f a.1 in
      let t = r.1 in
      let q : f.given ≡ a.0 = omega (arith, r.0) in
      let w = zipped AreAlike fs others a.0 t.0 z t.1 in
      let other : tree_or f.tree (slice_get others f.given) ≡ w.0.1 =
      ap (λ (k : ℕ). tree_or f.tree (slice_get others k)) q ∙ ap (tree_or f.tree) w.1 in
      subst (λ (n : Module). HaveSameHead f.tree n) (sym other)
      (subst (λ (m : Module). HaveSameHead m w.0.1) t.2 w.2.of_module)

  pub all_good : (fs : List Tree) (ordered : List File) → HaveSameHeads fs others
      → AreInOrder (number_files 0 fs) ordered → AreGood ordered
  all_good fs ordered z o f a = given_good fs z f
      (among-permutation ordered (number_files 0 fs) f (IsPermutation-sym (number_files 0 fs) ordered o.same) a)

  -- ---- the files in order

  name_at : (fs : List File) (k : ℕ) (d : File) → (get_or (put fs) k d).name ≡ (get_or fs k d).name
  name_at [] k d = refl
  name_at (f ∷ fs) zero d = refl
  name_at (f ∷ fs) (suc k) d = name_at fs k d

  kept : (z : File) (fs : List File) → filter (ties is_before z) (put fs) ≡ put (filter (ties is_before z) fs)
  kept z [] = refl
  kept z (f ∷ fs) = by (kept z fs) (ties is_before z f)
    where
      by : filter (ties is_before z) (put fs) ≡ put (filter (ties is_before z) fs) → (b : Bool)
          → cond b (replace f ∷ filter (ties is_before z) (put fs)) (filter (ties is_before z) (put fs))
          ≡ put (cond b (f ∷ filter (ties is_before z) fs) (filter (ties is_before z) fs))
      by rest true = ap (λ (xs : List File). replace f ∷ xs) rest
      by rest false = rest

  pub in_order : (given ordered : List File) → AreInOrder given ordered → AreInOrder (put given) (put ordered)
  in_order given ordered o = record {
    same = IsPermutation-map replace given ordered o.same;
    sorted = λ k d l h. ap₂ (λ (x y : List ℕ). is_lt (slice_cmp nat_cmp x y)) (name_at ordered (k + 1) d)
        (name_at ordered k d)
        ∙ o.sorted k d l (let n = length-map ordered replace in omega (arith, h, n));
    stable = λ z. kept z ordered ∙ ap (map replace) (o.stable z) ∙ sym (kept z given);
  }
