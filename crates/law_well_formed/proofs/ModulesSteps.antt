-- The declarations of a module as the walks over them take them, and the numbers of the procedures in its procedures.
use Rattle.std.proofs.Common.{◌≡◌, ℕ, zero, suc, ◌+◌, ◌<◌, List, [], ◌∷◌, ◌++◌, length, Option, Some, None, refl, sym, ap, subst, ◌∙◌, append_assoc, arith}
use Rattle.std.specs.Prelude.{map, slice_get}
use Rattle.std.specs.List.{fold}
use Rattle.std.proofs.lemmas.List.{append-nil, length-append}
use Rattle.m2_tree.specs.declared.decl.Decl.{Decl, Decl-F, out-Decl, map-Decl, fold_out-Decl}
use Rattle.m2_tree.specs.declared.decl.Decl.TheOpen as layer
use Rattle.m2_tree.specs.declared.decl.Block.{Block}
use Rattle.typed_tree.specs.declared.typed_module.Which.{Which}
use Rattle.check_scope.specs.Elaborated.{Gathers}
use Rattle.check_scope.specs.Scopes.{State}
use Rattle.check_scope.specs.declared.scope.Scope.{Scope}
use Rattle.check_block.specs.Naming.{marked_layer, marked_decl, with_marks, all_marked}
use Rattle.check_block.specs.Nesting as nesting
use Rattle.check_block.specs.Nesting.{within_decl, within, ends_from, with_procedure_ends, with_decl_ends}
use Rattle.check_definition.specs.Again.{Passing}
use Rattle.check_block.specs.Declarations.{Course, Declared, decl_layer, with_decl, again_layer, again_decl, all_declared, declared_block}
use Rattle.check_body.specs.declared.procedure.Walk.{Walk}
use Rattle.check_body.specs.Elaborating.{Elaborates}
use Rattle.check_body.specs.Bodies.{ChecksBlock, Steps, marked_by, declared_by, again_by, checked_by, with_body, with_bodies, steps_layer, block_layer, steps, checks_block, checks_decl, bodies_checked}
use Rattle.law_well_formed.specs.FormedBodies.{AreNumbered, FormsStatements}
use Rattle.law_well_formed.proofs.Places.{before_end, behind_end, is_within}
use Rattle.law_well_formed.proofs.Parts.{IsStep, constants_step, types_step, variables_step, procedure_step, AreSteps, no_steps, more_steps}
use Rattle.law_well_formed.proofs.Induction.{decls_formed}
use Rattle.law_well_formed.proofs.ModulesProcedures.{NumbersOf, count_of, NumbersIn}

fold_agrees : {A X Y : Type 0} (f : A → Y → A) (k : A → X → A) (h : X → Y) → ((a : A) (x : X) → f a (h x) ≡ k a x)
    → (a : A) (xs : List X) → fold f a (map h xs) ≡ fold k a xs
fold_agrees f k h e a [] = refl
fold_agrees f k h e a (x ∷ xs) = ap (λ b. fold f b (map h xs)) (e a x) ∙ fold_agrees f k h e (k a x) xs

-- ---- numbers

-- the procedures within that of a declaration, if it is one
abbrev pub inside : List ℕ → List ℕ
inside [] = []
inside (k ∷ ks) = ks

ends_length : (n : ℕ) (ks : List ℕ) → length (ends_from n ks) ≡ length ks
ends_length n [] = refl
ends_length n (k ∷ ks) = ap suc (ends_length (n + 1) ks)

ends_at : (n : ℕ) (ks : List ℕ) (i c : ℕ) → slice_get ks i ≡ Some c
    → slice_get (ends_from n ks) i ≡ Some (n + i + 1 + c)
ends_at n [] i c e = absurd cc
ends_at n (k ∷ ks) zero c e = let a : n + 1 + c ≡ n + 0 + 1 + c = omega arith in
    ap (λ (o : Option ℕ). by o) e ∙ ap (λ (x : ℕ). Some x) a where
      by : Option ℕ → Option ℕ
      by None = None
      by (Some x) = Some (n + 1 + x)
ends_at n (k ∷ ks) (suc i) c e =
    let a : n + 1 + i + 1 + c ≡ n + suc i + 1 + c = omega arith in
    ends_at (n + 1) ks i c e ∙ ap (λ (x : ℕ). Some x) a

counted_layer : Decl-F Decl Block → List ℕ
counted_layer x = nesting.decl_layer (map-Decl Decl Block (List ℕ) (List ℕ) within_decl within x)

layer_ends : (so : List ℕ) (x : Decl-F Decl Block)
    → with_procedure_ends so x ≡ so ++ ends_from (length so) (inside (counted_layer x))
unfolding counted_layer
layer_ends so (layer.Constants cs) = sym (append-nil so)
layer_ends so (layer.Types ts) = sym (append-nil so)
layer_ends so (layer.Variables vs) = sym (append-nil so)
layer_ends so (layer.Procedure h b) = refl

counted : (d : Decl) → within_decl d ≡ counted_layer (out-Decl d)
unfolding within_decl within counted_layer
counted d = fold_out-Decl (List ℕ) (List ℕ) nesting.decl_layer nesting.block_layer d

decl_ends : (so : List ℕ) (d : Decl) → with_decl_ends so d ≡ so ++ ends_from (length so) (inside (within_decl d))
decl_ends so d = layer_ends so (out-Decl d)
    ∙ ap (λ (ks : List ℕ). so ++ ends_from (length so) (inside ks)) (sym (counted d))

ends_more : (so : List ℕ) (ds : List Decl) → (more : List ℕ) × (fold with_decl_ends so ds ≡ so ++ more)
ends_more so [] = ([], sym (append-nil so))
ends_more so (d ∷ ds) =
    let k = ends_more (with_decl_ends so d) ds in
    let new : List ℕ = ends_from (length so) (inside (within_decl d)) in
    (new ++ k.0, k.1 ∙ ap (λ (es : List ℕ). es ++ k.0) (decl_ends so d) ∙ append_assoc so new k.0)

module _ (g : Gathers) (elaborates : Elaborates g.Reported) (forms : FormsStatements g elaborates) (ends : List ℕ) where
  abbrev pub steps_of : Decl → Steps g.Reported
  steps_of d = steps g elaborates ends d

  abbrev opened : Decl-F Decl Block → Decl-F (Steps g.Reported) (ChecksBlock g.Reported)
  opened x = map-Decl Decl Block (Steps g.Reported) (ChecksBlock g.Reported) (steps g elaborates ends)
      (checks_block g elaborates ends) x

  at : (d : Decl) → steps g elaborates ends d ≡ steps_layer g elaborates ends (opened (out-Decl d))
  unfolding steps checks_block
  at d = fold_out-Decl (Steps g.Reported) (ChecksBlock g.Reported) (steps_layer g elaborates ends)
      (block_layer g elaborates ends) d

  -- ---- the walks

  marked_mapped : (s : Scope g.Reported) (x : Decl-F Decl Block) → marked_layer s (opened x) ≡ marked_layer s x
  marked_mapped s (layer.Constants cs) = refl
  marked_mapped s (layer.Types ts) = refl
  marked_mapped s (layer.Variables vs) = refl
  marked_mapped s (layer.Procedure h b) = refl

  marks_is : (s : Scope g.Reported) (d : Decl) → (steps_of d).marks s ≡ marked_decl s d
  marks_is s d = ap (λ (x : Steps g.Reported). x.marks s) (at d) ∙ marked_mapped s (out-Decl d)

  declared_mapped : (c : Course g.Reported) (x : Decl-F Decl Block)
      → decl_layer g ends c (opened x) ≡ decl_layer g ends c x
  declared_mapped c (layer.Constants cs) = refl
  declared_mapped c (layer.Types ts) = refl
  declared_mapped c (layer.Variables vs) = refl
  declared_mapped c (layer.Procedure h b) = refl

  declares_is : (c : Course g.Reported) (d : Decl) → (steps_of d).declares c ≡ with_decl g ends c d
  declares_is c d = ap (λ (x : Steps g.Reported). x.declares c) (at d) ∙ declared_mapped c (out-Decl d)

  again_mapped : (s : Scope g.Reported) (p : Passing g.Reported) (x : Decl-F Decl Block)
      → again_layer g s p (opened x) ≡ again_layer g s p x
  again_mapped s p (layer.Constants cs) = refl
  again_mapped s p (layer.Types ts) = refl
  again_mapped s p (layer.Variables vs) = refl
  again_mapped s p (layer.Procedure h b) = refl

  again_is : (s : Scope g.Reported) (p : Passing g.Reported) (d : Decl)
      → (steps_of d).again s p ≡ again_decl g s p d
  again_is s p d = ap (λ (x : Steps g.Reported). x.again s p) (at d) ∙ again_mapped s p (out-Decl d)

  all_marks : (s : Scope g.Reported) (ds : List Decl)
      → all_marked marked_by s (map (steps g elaborates ends) ds) ≡ all_marked marked_decl s ds
  all_marks s ds = fold_agrees (with_marks marked_by) (with_marks marked_decl) (steps g elaborates ends)
      (λ st d. ap (λ (x : Scope g.Reported). (x, st.1 ++ length st.0.own ∷ [])) (marks_is st.0 d)) (s, []) ds

  all_declares : (c : Course g.Reported) (ds : List Decl)
      → fold declared_by c (map (steps g elaborates ends) ds) ≡ fold (with_decl g ends) c ds
  all_declares c ds = fold_agrees declared_by (with_decl g ends) (steps g elaborates ends) declares_is c ds

  abbrev behind : List Decl → ℕ → List ℕ → Course g.Reported → Declared g.Reported
  behind ds names seen c =
      (c.0, (fold (again_by c.0) (c.1, names) (map (steps g elaborates ends) ds)).0, seen)

  pub declared_is : (st : State (Unit {0}) g.Reported) (first : ℕ) (ds : List Decl)
      → declared_block g ends st first ds ≡ all_declared marked_by declared_by again_by st first
      (map (steps g elaborates ends) ds)
  declared_is st first ds =
      let m : Scope g.Reported × List ℕ = all_marked marked_decl st.0 ds in
      let c : Course g.Reported = fold (with_decl g ends) (m.0, st.1, first) ds in
      let names : ℕ = length st.0.own in
      sym (ap (λ (m : Scope g.Reported × List ℕ). behind ds names m.1
      (fold declared_by (m.0, st.1, first) (map (steps g elaborates ends) ds))) (all_marks st.0 ds)
      ∙ ap (behind ds names m.1) (all_declares (m.0, st.1, first) ds)
      ∙ ap (λ (p : Passing g.Reported). (c.0, p.0, m.1))
      (fold_agrees (again_by c.0) (again_decl g c.0) (steps g elaborates ends) (again_is c.0) (c.1, names) ds))

  pub bodies_are : (around : Option Which) (seen : List ℕ) (w : Walk g.Reported) (ds : List Decl)
      → bodies_checked g elaborates ends around seen w ds
      ≡ with_bodies (λ x. checked_by x around) seen w (map (steps g elaborates ends) ds)
  bodies_are around seen w ds =
      sym (ap (λ (st : Walk g.Reported × ℕ). st.0)
      (fold_agrees (with_body (λ x. checked_by x around) seen)
      (with_body (λ d. checks_decl g elaborates ends d around) seen) (steps g elaborates ends) (λ st d. refl) (w, 0)
      ds))

  -- ---- steps

  abbrev pub total : List Decl → List ℕ
  total [] = []
  total (d ∷ ds) = within_decl d ++ total ds

  pub are_steps : (ds : List Decl) → AreSteps g elaborates ends (map (steps g elaborates ends) ds) (total ds)
  are_steps [] = no_steps
  are_steps (d ∷ ds) = more_steps (steps g elaborates ends d) (map (steps g elaborates ends) ds) (within_decl d)
      (total ds) (decls_formed g elaborates forms ends d) (are_steps ds)

  module _ (around : Option Which) where
    step_numbers : {x : Steps g.Reported} {ks : List ℕ} (p : IsStep g elaborates ends x ks) (n : ℕ)
        → AreNumbered ends n (inside ks) → NumbersOf g elaborates ends around n p
    step_numbers (constants_step cs) n k = tt
    step_numbers (types_step ts) n k = tt
    step_numbers (variables_step vs) n k = tt
    step_numbers (procedure_step h block ks f) n k = k

    step_count : {x : Steps g.Reported} {ks : List ℕ} (p : IsStep g elaborates ends x ks)
        → count_of g elaborates ends around p ≡ length (inside ks)
    step_count (constants_step cs) = refl
    step_count (types_step ts) = refl
    step_count (variables_step vs) = refl
    step_count (procedure_step h block ks f) = refl

    first_numbers : (so : List ℕ) (d : Decl) (ds : List Decl) → ends ≡ fold with_decl_ends so (d ∷ ds)
        → AreNumbered ends (length so) (inside (within_decl d))
    first_numbers so d ds q i c e =
        let ks : List ℕ = inside (within_decl d) in
        let new : List ℕ = ends_from (length so) ks in
        let k = ends_more (with_decl_ends so d) ds in
        let all : ends ≡ so ++ (new ++ k.0) = q ∙ k.1 ∙ ap (λ (es : List ℕ). es ++ k.0) (decl_ends so d)
        ∙ append_assoc so new k.0 in
        ap (λ (es : List ℕ). slice_get es (length so + i)) all ∙ behind_end so (new ++ k.0) i
        ∙ before_end new k.0 i (subst (λ (l : ℕ). i < l) (sym (ends_length (length so) ks)) (is_within ks i c e))
        ∙ ends_at (length so) ks i c e

    numbers_from : (so : List ℕ) (ds : List Decl) → ends ≡ fold with_decl_ends so ds
        → NumbersIn g elaborates ends around (length so) (are_steps ds)
    unfolding are_steps
    numbers_from so [] q = tt
    numbers_from so (d ∷ ds) q =
        let p = decls_formed g elaborates forms ends d in
        let ks : List ℕ = inside (within_decl d) in
        let l : length (with_decl_ends so d) ≡ length so + count_of g elaborates ends around p =
        ap (λ (es : List ℕ). length es) (decl_ends so d) ∙ length-append so (ends_from (length so) ks)
        ∙ ap (λ (n : ℕ). length so + n) (ends_length (length so) ks ∙ sym (step_count p)) in (
          step_numbers p (length so) (first_numbers so d ds q),
          subst (λ (n : ℕ). NumbersIn g elaborates ends around n (are_steps ds)) l
              (numbers_from (with_decl_ends so d) ds q),
        )

    pub numbers_in : (ds : List Decl) → ends ≡ nesting.procedure_ends ds
        → NumbersIn g elaborates ends around 0 (are_steps ds)
    numbers_in ds q = numbers_from [] ds q
