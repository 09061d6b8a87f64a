-- Where the names of a block stand, and which variables are known there.
use Rattle.std.proofs.Common.{◌≡◌, ℕ, ◌<◌, ◌≤◌, Bool, true, false, List, [], ◌∷◌, ◌++◌, length, Option, Some, None, Ok, ◌⊎◌, inl, inr, refl, sym, ap, subst, ◌∙◌, arith, append_assoc}
use Rattle.std.specs.Prelude.{nat_lt, slice_get}
use Rattle.std.specs.List.{fold}
use Rattle.std.proofs.lemmas.Bool.Decides.{nat_tests}
use Rattle.m2_tree.specs.declared.name.Ident.{Ident}
use Rattle.m2_tree.specs.declared.decl.Decl.{Decl}
use Rattle.typed_tree.specs.declared.types.TypeNo.{TypeNo}
use Rattle.typed_tree.specs.Names.{find_name}
use Rattle.check_scope.specs.declared.known.Known.{Known}
use Rattle.check_scope.specs.declared.scope.Scope.{Scope}
use Rattle.check_scope.specs.Elaborated.{Gathers}
use Rattle.check_block.specs.Naming.{marked_decl, with_marks, all_marked}
use Rattle.check_block.specs.Declarations.{declared_block}
use Rattle.def_typing.specs.Things.{Standing}
use Rattle.def_typing.specs.Declarations.{Declaration, declarations_of, AnyDeclares}
use Rattle.law_typing.specs.Judging.{Judges}
use Rattle.law_typing.specs.Exact.{TakenAs, is_taken, awaits, is_a_heading, not_taken, is_nested, IsAsBefore, as_before, has_heading}
use Rattle.law_typing.proofs.Declaring.{any_first, clash, KnownAs, outer, headed, ahead, reading, behind, a_member}
use Rattle.law_typing.proofs.Marking.{block_begins}
use Rattle.law_typing.proofs.Naming.{index_less}
use Rattle.law_rules.proofs.BodiesKeeping.{Grows, grows_then, Fits, Keeps, keeps_then, marks_keep, declarations_keep}
use Rattle.law_rules.proofs.Seeing.{PlaceIs, nowhere, stands_in_front, stands_behind}

fold_append : {A B : Type 0} (f : A → B → A) (z : A) (xs ys : List B) → fold f z (xs ++ ys) ≡ fold f (fold f z xs) ys
fold_append f z [] ys = refl
fold_append f z (x ∷ xs) ys = fold_append f (f z x) xs ys

-- ---- marks, one declaration after another

module _ {T : Type 0} where
  marks_from : (ds : List Decl) (st : Scope T × List ℕ)
      → (fold (with_marks marked_decl) st ds).0 ≡ fold marked_decl st.0 ds
  marks_from [] st = refl
  marks_from (d ∷ ds) st = marks_from ds (with_marks marked_decl st d)

  abbrev counts : Scope T → List Decl → List ℕ
  counts s [] = []
  counts s (d ∷ ds) = length s.own ∷ counts (marked_decl s d) ds

  counts_from : (ds : List Decl) (st : Scope T × List ℕ)
      → (fold (with_marks marked_decl) st ds).1 ≡ st.1 ++ counts st.0 ds
  counts_from [] st = sym (nil st.1)
    where
      nil : (xs : List ℕ) → xs ++ [] ≡ xs
      nil [] = refl
      nil (x ∷ xs) = ap (λ (ys : List ℕ). x ∷ ys) (nil xs)
  counts_from (d ∷ ds) st = counts_from ds (with_marks marked_decl st d)
      ∙ append_assoc st.1 (length st.0.own ∷ []) (counts (marked_decl st.0 d) ds)

  count_at : (pre : List Decl) (s : Scope T) (d : Decl) (rest : List Decl)
      → slice_get (counts s (pre ++ d ∷ rest)) (length pre) ≡ Some (length (fold marked_decl s pre).own)
  count_at [] s d rest = refl
  count_at (x ∷ pre) s d rest = count_at pre (marked_decl s x) d rest

  -- how many names stand before a declaration
  pub seen_at : (pre : List Decl) (s : Scope T) (d : Decl) (rest : List Decl)
      → slice_get (all_marked marked_decl s (pre ++ d ∷ rest)).1 (length pre)
      ≡ Some (length (fold marked_decl s pre).own)
  seen_at pre s d rest = ap (λ (ns : List ℕ). slice_get ns (length pre)) (counts_from (pre ++ d ∷ rest) (s, []))
      ∙ count_at pre s d rest

  marks_then : (pre rest : List Decl) (s : Scope T) → Keeps (fold marked_decl s pre) (fold marked_decl s (pre ++ rest))
  marks_then pre rest s = subst (λ (t : Scope T). Keeps (fold marked_decl s pre) t)
      (sym (fold_append marked_decl s pre rest)) (marks_keep T rest (fold marked_decl s pre))

-- ---- the declarations of a block keep the scope

module _ (g : Gathers) (ends : List ℕ) (first : ℕ) (start : Scope g.Reported) where
  abbrev pub behind_all : List Decl → Scope g.Reported
  behind_all ds = (declared_block g ends (start, Ok tt) first ds).0

  pub marks_behind : (ds : List Decl) → Keeps (fold marked_decl start ds) (behind_all ds)
  marks_behind ds = subst (λ (t : Scope g.Reported). Keeps t (behind_all ds)) (marks_from ds (start, []))
      (declarations_keep g ends ds ((all_marked marked_decl start ds).0, Ok tt, first))

  pub declared_keeps : (ds : List Decl) → Keeps start (behind_all ds)
  declared_keeps ds = keeps_then (marks_keep g.Reported ds start) (marks_behind ds)

  pub grows_before : (pre rest : List Decl) → Grows (fold marked_decl start pre).own (behind_all (pre ++ rest)).own
  grows_before pre rest = grows_then (marks_then pre rest start).grows (marks_behind (pre ++ rest)).grows

-- ---- where names stand

module _ (g : Gathers) (j : Judges g) (exports : ℕ → Ident → Standing) (outside : Ident → Standing)
    (start : Scope g.Reported) (taken : List ℕ → Bool) (awaited : List ℕ → Option TypeNo)
    (takes : (n : List ℕ) → TakenAs g j (taken n) (awaited n) (find_name n start.own)) (no_withs : start.withs ≡ [])
  where
    data Marked (b : Bool) (D : Type 0) : Option (Known g.Reported) → Type 0 where
      is_marked : {k : Known g.Reported} → (b ≡ true) ⊎ D → Marked b D (Some k)
      unmarked : b ≡ false → (D → ⊥) → Marked b D None

    taken_marked : {b : Bool} {u : Option TypeNo} {o k : Option (Known g.Reported)} {D : Type 0} → TakenAs g j b u o
        → k ≡ o → (b ≡ false → D → ⊥) → Marked b D k
    taken_marked {b = b} {D = D} (is_taken s) e c =
        subst (λ (k : Option (Known g.Reported)). Marked b D k) (sym e) (is_marked (inl refl))
    taken_marked {b = b} {D = D} (awaits p) e c =
        subst (λ (k : Option (Known g.Reported)). Marked b D k) (sym e) (is_marked (inl refl))
    taken_marked {b = b} {D = D} is_a_heading e c =
        subst (λ (k : Option (Known g.Reported)). Marked b D k) (sym e) (is_marked (inl refl))
    taken_marked {b = b} {D = D} not_taken e c =
        subst (λ (k : Option (Known g.Reported)). Marked b D k) (sym e) (unmarked refl (c refl))

    taken_none : {b : Bool} {u : Option TypeNo} {o : Option (Known g.Reported)} → TakenAs g j b u o → b ≡ false
        → o ≡ None
    taken_none (is_taken s) e = absurd cc
    taken_none (awaits p) e = absurd cc
    taken_none is_a_heading e = absurd cc
    taken_none not_taken e = refl

    pub none_first : (n : List ℕ) → taken n ≡ false → find_name n start.own ≡ None
    none_first n t = taken_none (takes n) t

    marked_by : (block : List Declaration) (n : List ℕ) {Th : List ℕ → Type 0} {k : Option (Known g.Reported)}
        → KnownAs g j exports outside start taken awaited (is_nested start) block [] Th n k
        → Marked (taken n) (AnyDeclares block n) k
    marked_by block n (outer c w e) = taken_marked (takes n) e c
    marked_by block n (headed p y w e) = is_marked (inl y)
    marked_by block n (ahead d t i c b) = is_marked (inr (any_first i))
    marked_by block n (reading d t i c b q) = is_marked (inr (any_first i))
    marked_by block n (behind k t i o s) = elim i [ ]
    marked_by block n (a_member t i o a e) = elim i [ ]

    marked_in : (ds : List Decl) (n : List ℕ)
        → Marked (taken n) (AnyDeclares (declarations_of ds) n) (find_name n (fold marked_decl start ds).own)
    marked_in ds n = subst (λ (s : Scope g.Reported). Marked (taken n) (AnyDeclares (declarations_of ds) n)
        (find_name n s.own)) (marks_from ds (start, []))
        (marked_by (declarations_of ds) n ((block_begins g j exports outside start taken awaited (is_nested start)
        (declarations_of ds) takes ds no_withs refl).own n))

    found_none : {A : Type 0} {v : A} {o : Option A} → o ≡ None → o ≡ Some v → ⊥
    found_none e f = let z = sym e ∙ f in absurd cc

    -- Behind all declarations a name of the block is there.
    there_by : {b : Bool} {D : Type 0} {o : Option (Known g.Reported)} → Marked b D o → D
        → ((k : Known g.Reported) → o ≡ Some k → ⊥) → ⊥
    there_by (is_marked {k = k} m) d h = h k refl
    there_by (unmarked u c) d h = c d

    pub declares_there : (ends : List ℕ) (first : ℕ) (ds : List Decl) (n : List ℕ) → taken n ≡ false
        → AnyDeclares (declarations_of ds) n → find_name n (behind_all g ends first start ds).own ≡ None → ⊥
    declares_there ends first ds n t a e = there_by (marked_in ds n) a
        (λ k q. found_none e ((marks_behind g ends first start ds).grows.kept n k q).1)

    module _ (pre : List Decl) (d : Decl) (rest : List Decl) (w : Scope g.Reported)
        (grows : (xs ys : List Decl) → xs ++ ys ≡ pre ++ d ∷ rest → Grows (fold marked_decl start xs).own w.own)
        (keeps : Keeps start w)
        (others : (n : List ℕ) → (taken n ≡ false → AnyDeclares (declarations_of (pre ++ d ∷ rest)) n → ⊥)
        → IsAsBefore (find_name n start.own) (find_name n w.own)) where
      abbrev block : List Declaration
      block = declarations_of (pre ++ d ∷ rest)

      abbrev front : List Declaration
      front = declarations_of pre

      abbrev pub seen : ℕ
      seen = length (fold marked_decl start pre).own

      abbrev Place : List ℕ → Option (Known g.Reported) → Type 0
      Place = PlaceIs g j taken block (AnyDeclares front) start.level w seen

      nil : (xs : List Decl) → xs ++ [] ≡ xs
      nil [] = refl
      nil (x ∷ xs) = ap (λ (ys : List Decl). x ∷ ys) (nil xs)

      grows_front : Grows (fold marked_decl start pre).own w.own
      grows_front = grows pre (d ∷ rest) refl

      grows_all : Grows (fold marked_decl start (pre ++ d ∷ rest)).own w.own
      grows_all = grows (pre ++ d ∷ rest) [] (nil (pre ++ d ∷ rest))

      module _ (n : List ℕ) where
        -- a name that the scope does not have
        nowhere_by : {o : Option (Known g.Reported)} → Marked (taken n) (AnyDeclares block n) o
            → find_name n (fold marked_decl start (pre ++ d ∷ rest)).own ≡ o → find_name n w.own ≡ None
            → taken n ≡ false
            → AnyDeclares block n → ⊥
        nowhere_by (is_marked {k = k} m) e q t a = let z = grows_all.kept n k e in found_none q z.1
        nowhere_by (unmarked u c) e q t a = c a

        as_before_none : {o p : Option (Known g.Reported)} {k : Known g.Reported} → IsAsBefore o p → o ≡ None
            → p ≡ Some k
            → ⊥
        as_before_none as_before e q = found_none e q
        as_before_none (has_heading x) e q = absurd cc

        declared_by_block : (k : Known g.Reported) → find_name n w.own ≡ Some k → taken n ≡ false
            → {o : Option (Known g.Reported)} → Marked (taken n) (AnyDeclares block n) o → AnyDeclares block n
        declared_by_block k e t (is_marked (inl u)) = absurd (clash u t)
        declared_by_block k e t (is_marked (inr a)) = a
        declared_by_block k e t (unmarked u c) = absurd (as_before_none (others n (λ t a. c a)) (none_first n t) e)

        fits_here : (k : Known g.Reported) → find_name n w.own ≡ Some k → taken n ≡ false → Fits start.level k
        fits_here k e t = elim (keeps.entries n k e) [ inl f ↦ absurd (found_none (none_first n t) f) | inr f ↦ f ]

        place_by : (k : Known g.Reported) → find_name n w.own ≡ Some k → {o : Option (Known g.Reported)}
            → Marked (taken n) (AnyDeclares front n) o → find_name n (fold marked_decl start pre).own ≡ o
            → Place n (Some k)
        place_by k e (is_marked {k = v} m) q = let z = grows_front.kept n v q in
            let l = index_less n (fold marked_decl start pre).own v q in
            stands_in_front k (λ t a. front_of t m) (lower (z.2) l)
          where
            front_of : taken n ≡ false → (taken n ≡ true) ⊎ AnyDeclares front n → AnyDeclares front n
            front_of t (inl u) = absurd (clash u t)
            front_of t (inr a) = a

            lower : {a b c : ℕ} → a ≡ b → b < c → nat_lt a c ≡ true
            lower e l = grind (arith, nat_tests)
        place_by k e (unmarked t c) q = let l = grows_front.new n k q e in
            stands_behind k t (declared_by_block k e t (marked_in (pre ++ d ∷ rest) n)) c (higher l) (fits_here k e t)
          where
            higher : {a b : ℕ} → a ≤ b → nat_lt b a ≡ false
            higher l = grind (arith, nat_tests)

        place_at : (o : Option (Known g.Reported)) → find_name n w.own ≡ o → Place n o
        place_at None e = nowhere (λ t a. nowhere_by (marked_in (pre ++ d ∷ rest) n) refl e t a)
        place_at (Some k) e = place_by k e (marked_in pre n) refl

        pub place : Place n (find_name n w.own)
        place = place_at (find_name n w.own) refl

      -- A name of the block is there.
      pub declared_there : (n : List ℕ) → taken n ≡ false → AnyDeclares block n → find_name n w.own ≡ None → ⊥
      declared_there n t a e = nowhere_by n (marked_in (pre ++ d ∷ rest) n) refl e t a
