-- The headings of a block, found by their numbers.
use Rattle.std.proofs.Common.{◌≡◌, ℕ, zero, suc, ◌+◌, ◌==◌, ◌≤◌, ◌<◌, eq-or-lt_of_le, Bool, true, false, List, [], ◌∷◌, ◌++◌, length, Option, Some, None, Ok, ◌⊎◌, inl, inr, refl, sym, ap, subst, ◌∙◌, append_assoc, arith}
use Rattle.std.specs.Prelude.{slice_get}
use Rattle.std.specs.Option.{unwrap_or}
use Rattle.std.proofs.lemmas.List.{length-append}
use Rattle.m2_tree.specs.declared.decl.Heading.{Heading}
use Rattle.m2_tree.specs.declared.decl.Block.{Block}
use Rattle.m2_tree.specs.declared.decl.Decl.{Decl, Decl-F, out-Decl}
use Rattle.m2_tree.specs.declared.decl.Decl.TheOpen as layer
use Rattle.typed_tree.specs.declared.types.TypeNo.{TypeNo}
use Rattle.typed_tree.specs.declared.meaning.Meaning.TheVariants as meaning
use Rattle.typed_tree.specs.declared.meaning.Procedure.{Procedure as ModuleProcedure}
use Rattle.check_scope.specs.declared.known.Known.TheVariants.{Declared, Headed}
use Rattle.check_scope.specs.declared.known.Origin.TheVariants.{Here}
use Rattle.check_scope.specs.declared.scope.Scope.{Scope}
use Rattle.check_block.specs.Nesting.{within_decl, within, ends_from, number_behind}
use Rattle.def_typing.specs.Parts.{Among, here, later}
use Rattle.def_typing.specs.Bodies.{IsNoProcedure}
use Rattle.def_typed.specs.Numbers.{headings_by, headings_in, procedures_in, nested_by, next_nested, nested_numbers, unless_awaited, new_headings}
use Rattle.law_numbers.specs.Numbered.{Entry, AreHeaded, no_heading, new_heading, awaited_heading, nested_heading}
use Rattle.law_numbers.specs.Counted.{within_all, AreCounted}
use Rattle.law_numbers.proofs.Within.{within_is, procedures_counted}

first_or : {A : Type 0} {x y : A} {xs : List A} → Among x (y ∷ xs) → (x ≡ y) ⊎ Among x xs
first_or here = inl refl
first_or (later i) = inr i

clash : {b : Bool} → b ≡ true → b ≡ false → ⊥
clash p q = let z = sym p ∙ q in absurd cc

pub ends_append : (n : ℕ) (xs ys : List ℕ) → ends_from n (xs ++ ys) ≡ ends_from n xs ++ ends_from (n + length xs) ys
ends_append n [] ys = let e : n + 0 ≡ n = omega arith in ap (λ (m : ℕ). ends_from m ys) (sym e)
ends_append n (x ∷ xs) ys =
    let e : n + 1 + length xs ≡ n + suc (length xs) = omega arith in
    ap (λ (r : List ℕ). (n + 1 + x) ∷ r) (ends_append (n + 1) xs ys
    ∙ ap (λ (m : ℕ). ends_from (n + 1) xs ++ ends_from m ys) e)

pub ends_length : (n : ℕ) (xs : List ℕ) → length (ends_from n xs) ≡ length xs
ends_length n [] = refl
ends_length n (x ∷ xs) = ap suc (ends_length (n + 1) xs)

next_at : (before rest : List ℕ) (d k : ℕ) → unwrap_or (slice_get (before ++ k ∷ rest) (length before)) d ≡ k
next_at [] rest d k = refl
next_at (x ∷ xs) rest d k = next_at xs rest d k

next_is : (before rest : List ℕ) (n : ℕ) → length before ≡ n → (k : ℕ)
    → unwrap_or (slice_get (before ++ k ∷ rest) n) n ≡ k
next_is before rest n e k = ap (λ (i : ℕ). unwrap_or (slice_get (before ++ k ∷ rest) i) n) (sym e)
    ∙ next_at before rest n k

-- ---- what is counted behind a declaration

module _ (ends : List ℕ) (n : ℕ) (d : Decl) (ds : List Decl) (c : AreCounted ends n (d ∷ ds)) where
  pub plainly : within_decl d ≡ [] → AreCounted ends n ds
  plainly w = record {
    before = c.before;
    after = c.after;
    all = c.all
        ∙ ap (λ (ws : List ℕ). c.before ++ (ends_from n (ws ++ within_all ds) ++ c.after)) w;
    here = c.here;
  }

  -- behind a procedure and those in it
  module _ (x : Heading) (b : Block) (is : out-Decl d ≡ layer.Procedure x b) where
    pub within_it : within_decl d ≡ length (within b) ∷ within b
    within_it = within_is d (layer.Procedure x b) is

    pub ends_are : ends ≡ c.before ++ ((n + 1 + length (within b))
        ∷ (ends_from (n + 1) (within b ++ within_all ds) ++ c.after))
    ends_are = c.all ∙ ap (λ (ws : List ℕ). c.before ++ (ends_from n (ws ++ within_all ds) ++ c.after)) within_it

    abbrev next : ℕ
    next = n + 1 + procedures_in b

    next_number : number_behind ends n ≡ next
    next_number = ap (λ (es : List ℕ). unwrap_or (slice_get es n) n) ends_are
        ∙ next_is c.before (ends_from (n + 1) (within b ++ within_all ds) ++ c.after) n c.here
        (n + 1 + length (within b))
        ∙ ap (λ (k : ℕ). n + 1 + k) (procedures_counted b)

    abbrev one : List ℕ
    one = (n + 1 + length (within b)) ∷ ends_from (n + 1) (within b)

    pub behind : AreCounted ends next ds
    behind = record {
      before = c.before ++ one;
      after = c.after;
      all = ends_are
          ∙ ap (λ (es : List ℕ). c.before ++ ((n + 1 + length (within b)) ∷ (es ++ c.after)))
          (ends_append (n + 1) (within b) (within_all ds)
          ∙ ap (λ (k : ℕ). ends_from (n + 1) (within b) ++ ends_from (n + 1 + k) (within_all ds))
          (procedures_counted b))
          ∙ ap (λ (es : List ℕ). c.before ++ ((n + 1 + length (within b)) ∷ es))
          (append_assoc (ends_from (n + 1) (within b)) (ends_from next (within_all ds)) c.after)
          ∙ sym (append_assoc c.before one (ends_from next (within_all ds) ++ c.after));
      here =
          let e = length-append c.before one in
          let f = ends_length (n + 1) (within b) in
          let g = procedures_counted b in
          let h = c.here in omega (arith, e, f, g, h);
    }

  -- behind a declaration that is no procedure
  pub behind_other : IsNoProcedure (out-Decl d) → AreCounted ends n ds
  behind_other i = by (out-Decl d) refl i
    where
      by : (y : Decl-F Decl Block) → out-Decl d ≡ y → IsNoProcedure y → AreCounted ends n ds
      by (layer.Constants cs) e i = plainly (within_is d (layer.Constants cs) e)
      by (layer.Types ts) e i = plainly (within_is d (layer.Types ts) e)
      by (layer.Variables vs) e i = plainly (within_is d (layer.Variables vs) e)
      by (layer.Procedure h b) e i = absurd i

-- ---- the headings of a module

module _ {T : Type 0} (home level : ℕ) (ends : List ℕ) (start s : Scope T) (l : (level == 0) ≡ true) where
  abbrev IsThere : Heading → Type 0
  IsThere h = (a : ModuleProcedure) × Entry s h.name.name (Headed (Ok (meaning.Procedure a)))

  pub heading_there : {m n m' n' : ℕ} {hs : List Heading} → AreHeaded home level ends start s m n hs m' n'
      → (h : Heading) → Among h hs → IsThere h
  heading_there no_heading h i = elim i [ ]
  heading_there (new_heading {h = k} t z w x r) h i =
      elim (first_or i) [ inl e ↦ subst IsThere (sym e) (_, x) | inr i ↦ heading_there r h i ]
  heading_there (awaited_heading {h = k} p w x r) h i =
      elim (first_or i) [ inl e ↦ subst IsThere (sym e) (p, x) | inr i ↦ heading_there r h i ]
  heading_there (nested_heading t z x r) h i = absurd (clash l z)

  -- Each number from the first new one on has a heading.
  pub new_number_there : {m n m' n' : ℕ} {hs : List Heading} → AreHeaded home level ends start s m n hs m' n' → (k : ℕ)
      → m ≤ k → k < m'
      → (h : Heading) × Among h hs × (a : ModuleProcedure) × Entry s h.name.name (Headed (Ok (meaning.Procedure a)))
      × (a.number ≡ k)
  new_number_there {m = m} no_heading k x y = absurd (never m k x y)
    where
      never : (m k : ℕ) → m ≤ k → k < m → ⊥
      never m k x y = omega (arith, x, y)
  new_number_there {m = m} {m' = m'} (new_heading {h = h} {hs = hs} t z w e r) k x y =
      by_place (λ l. new_number_there r k l y) (nat_cases m k x)
    where
      nat_cases : (m k : ℕ) → m ≤ k → (m ≡ k) ⊎ (m + 1 ≤ k)
      nat_cases m k x = elim (eq-or-lt_of_le x) [ inl e ↦ inl e | inr l ↦ inr (omega (arith, l)) ]

      by_place : (m + 1 ≤ k → (x : Heading) × Among x hs × (a : ModuleProcedure)
          × Entry s x.name.name (Headed (Ok (meaning.Procedure a))) × (a.number ≡ k)) → (m ≡ k) ⊎ (m + 1 ≤ k)
          → (x : Heading) × Among x (h ∷ hs) × (a : ModuleProcedure)
          × Entry s x.name.name (Headed (Ok (meaning.Procedure a))) × (a.number ≡ k)
      by_place more (inl q) = (h, here, _, e, q)
      by_place more (inr l) = let n = more l in (n.0, later n.1, n.2, n.3, n.4)
  new_number_there (awaited_heading p w x r) k l y = let n = new_number_there r k l y in (n.0, later n.1, n.2, n.3, n.4)
  new_number_there (nested_heading t z x r) k i y = absurd (clash l z)

module _ {T : Type 0} (home level : ℕ) (ends : List ℕ) (start s : Scope T) (awaited : List ℕ → Option TypeNo)
    (awaits : (n : List ℕ) (p : ModuleProcedure) → Entry start n (Declared Here (Ok (meaning.Procedure p)))
    → awaited n ≡ Some p.heading)
    (waits : (n : List ℕ) (t : TypeNo) → awaited n ≡ Some t → (p : ModuleProcedure)
    × Entry start n (Declared Here (Ok (meaning.Procedure p)))) where
  abbrev Heads : (m n : ℕ) → List Heading → (m' n' : ℕ) → Type 0
  Heads = AreHeaded home level ends start s

  -- ---- in a module

  abbrev InModule : Heading → ℕ → Type 0
  InModule h m = (t : TypeNo) × Entry s h.name.name
      (Headed (Ok (meaning.Procedure (record { home = home; number = m; heading = t }))))

  not_awaited : (n : List ℕ) → ((p : ModuleProcedure) → Entry start n (Declared Here (Ok (meaning.Procedure p))) → ⊥)
      → (o : Option TypeNo) → awaited n ≡ o → o ≡ None
  not_awaited n w None e = refl
  not_awaited n w (Some t) e = let x = waits n t e in absurd (w x.0 x.1)

  pub heading_of_module : (level == 0) ≡ true → {m n m' n' : ℕ} {hs : List Heading} → Heads m n hs m' n'
      → (i : ℕ) (h : Heading) → slice_get (new_headings awaited hs) i ≡ Some h → InModule h (m + i)
  heading_of_module l no_heading i h e = absurd cc
  heading_of_module l {m = m} (new_heading {h = k} {hs = ks} t z w x r) i h e =
      by_place (λ i. heading_of_module l r i h) i
      (sym (ap (λ (o : Option TypeNo). slice_get (unless_awaited o k (new_headings awaited ks)) i)
      (not_awaited k.name.name w (awaited k.name.name) refl)) ∙ e)
    where
      by_place : ((i : ℕ) → slice_get (new_headings awaited ks) i ≡ Some h → InModule h (m + 1 + i)) → (i : ℕ)
          → slice_get (k ∷ new_headings awaited ks) i ≡ Some h → InModule h (m + i)
      by_place more zero e =
          let q : k ≡ h = cc e in
          let z : m ≡ m + 0 = omega arith in
          subst (λ (a : ℕ). InModule h a) z (subst (λ (h : Heading). InModule h m) q (t, x))
      by_place more (suc i) e =
          let z : m + 1 + i ≡ m + suc i = omega arith in
          subst (λ (a : ℕ). InModule h a) z (more i e)
  heading_of_module l (awaited_heading {h = k} {hs = ks} p w x r) i h e =
      heading_of_module l r i h (sym (ap (λ (o : Option TypeNo). slice_get
      (unless_awaited o k (new_headings awaited ks)) i) (awaits k.name.name p w)) ∙ e)
  heading_of_module l (nested_heading t z x r) i h e = absurd (clash l z)

  -- how many there are, with those that were there
  pub headings_count : (level == 0) ≡ true → {m n m' n' : ℕ} {hs : List Heading} → Heads m n hs m' n'
      → m' ≡ m + length (new_headings awaited hs)
  headings_count l no_heading = omega arith
  headings_count l {m = m} (new_heading {h = k} {hs = ks} t z w x r) =
      let c = headings_count l r in
      let e : length (unless_awaited (awaited k.name.name) k (new_headings awaited ks))
      ≡ suc (length (new_headings awaited ks)) =
      ap (λ (o : Option TypeNo). length (unless_awaited o k (new_headings awaited ks)))
      (not_awaited k.name.name w (awaited k.name.name) refl) in
      omega (arith, c, e)
  headings_count l {m = m} (awaited_heading {h = k} {hs = ks} p w x r) =
      let c = headings_count l r in
      let e : length (unless_awaited (awaited k.name.name) k (new_headings awaited ks))
      ≡ length (new_headings awaited ks) =
      ap (λ (o : Option TypeNo). length (unless_awaited o k (new_headings awaited ks))) (awaits k.name.name p w) in
      omega (arith, c, e)
  headings_count l (nested_heading t z x r) = absurd (clash l z)

  -- ---- in a procedure

  abbrev InProcedure : Heading → ℕ → Type 0
  InProcedure h n = (t : TypeNo) × Entry s h.name.name
      (Headed (Ok (meaning.LocalProcedure (record { level = level; number = n; heading = t }))))

  module _ (l : (level == 0) ≡ false) (never : (n : List ℕ) → awaited n ≡ None) where
    abbrev Rest : List Decl → (m' n' : ℕ) → Heading → ℕ → Type 0
    Rest ds m' n' h k = (m1 n1 : ℕ) → Heads m1 n1 (headings_in ds) m' n' → AreCounted ends n1 ds
        → Among (h, k) (nested_numbers n1 ds) → InProcedure h k

    pub nested_in : (ds : List Decl) {m n m' n' : ℕ} → Heads m n (headings_in ds) m' n' → AreCounted ends n ds
        → (h : Heading) (k : ℕ) → Among (h, k) (nested_numbers n ds) → InProcedure h k
    nested_in [] a c h k i = elim i [ ]
    nested_in (d ∷ ds) {m = m} {n = n} {m' = m'} {n' = n'} a c h k i =
        by_layer (λ m1 n1 a c i. nested_in ds {m = m1} {n = n1} {m' = m'} {n' = n'} a c h k i) (out-Decl d) refl a i
      where
        in_list : Rest ds m' n' h k → {m1 n1 next : ℕ} → n1 ≡ next → Heads m1 n1 (headings_in ds) m' n'
            → AreCounted ends next ds → Among (h, k) (nested_numbers next ds) → InProcedure h k
        in_list more {m1 = m1} {next = n2} e r c i =
            more m1 n2 (subst (λ (n1 : ℕ). Heads m1 n1 (headings_in ds) m' n') e r) c i

        by_heading : Rest ds m' n' h k → (x : Heading) (b : Block) → out-Decl d ≡ layer.Procedure x b
            → Heads m n (x ∷ headings_in ds) m' n' → Among (h, k) ((x, n) ∷ nested_numbers (n + 1 + procedures_in b) ds)
            → InProcedure h k
        by_heading more x b is (new_heading t z w e r) i = absurd (clash z l)
        by_heading more x b is (awaited_heading p w e r) i = let q = sym (never x.name.name) ∙ awaits x.name.name p w in
            absurd cc
        by_heading more x b is (nested_heading t z e r) i = elim (first_or i) [
          | inl q ↦ subst (λ (p : Heading × ℕ). InProcedure p.0 p.1) (sym q) (t, e)
          | inr i ↦ in_list more (next_number ends n d ds c x b is) r (behind ends n d ds c x b is) i
        ]

        by_layer : Rest ds m' n' h k → (y : Decl-F Decl Block) → out-Decl d ≡ y
            → Heads m n (headings_by y ++ headings_in ds) m' n'
            → Among (h, k) (nested_by n y ++ nested_numbers (next_nested n y) ds) → InProcedure h k
        by_layer more (layer.Constants cs) e a i =
            more m n a (plainly ends n d ds c (within_is d (layer.Constants cs) e)) i
        by_layer more (layer.Types ts) e a i = more m n a (plainly ends n d ds c (within_is d (layer.Types ts) e)) i
        by_layer more (layer.Variables vs) e a i =
            more m n a (plainly ends n d ds c (within_is d (layer.Variables vs) e)) i
        by_layer more (layer.Procedure x b) e a i = by_heading more x b e a i
