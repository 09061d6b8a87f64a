-- What comes of a block, from what comes of its declarations, and how all blocks are met.
use Rattle.std.proofs.Common.{◌≡◌, ℕ, List, [], ◌∷◌, ◌++◌, Option, Result, refl, sym, ap, subst, ◌∙◌}
use Rattle.std.specs.Prelude.{length, map}
use Rattle.std.specs.List.{fold}
use Rattle.m2_tree.specs.declared.decl.Heading.{Heading}
use Rattle.m2_tree.specs.declared.decl.Decl.{Decl, Decl-F, out-Decl, roll-Decl, out-roll-Decl, map-Decl, fold_out-Decl}
use Rattle.m2_tree.specs.declared.decl.Decl.TheOpen as layer
use Rattle.m2_tree.specs.declared.decl.Block.{Block, Block-F, out-Block, roll-Block, out-roll-Block, map-Block, fold_out-Block, ind-Block}
use Rattle.typed_tree.specs.declared.types.TypeNo.{TypeNo}
use Rattle.typed_tree.specs.declared.typed_module.Which.{Which}
use Rattle.check_scope.specs.declared.scope.Scope.{Scope}
use Rattle.check_scope.specs.Scopes.{State}
use Rattle.check_scope.specs.Elaborated.{Gathers}
use Rattle.check_block.specs.Naming.{marked_layer, marked_decl, with_marks, all_marked}
use Rattle.check_definition.specs.Again.{Passing}
use Rattle.check_block.specs.Declarations.{Course, Declared, decl_layer, with_decl, again_layer, again_decl, all_declared, declared_block}
use Rattle.check_body.specs.declared.procedure.Walk.{Walk}
use Rattle.check_body.specs.Elaborating.{Elaborates}
use Rattle.check_body.specs.Bodies.{Checked, ChecksBlock, Steps, marked_by, declared_by, again_by, checked_by, with_body, with_bodies, begun_block, with_statements, block_from, checks_layer, steps_layer, block_layer, steps, checks_block, checks_decl, bodies_checked}
use Rattle.def_typing.specs.Parts.{Among, here, later}

-- ---- lists

pub fold_agrees : {A X Y : Type 0} (f : A → Y → A) (k : A → X → A) (h : X → Y) → ((a : A) (x : X) → f a (h x) ≡ k a x)
    → (a : A) (xs : List X) → fold f a (map h xs) ≡ fold k a xs
fold_agrees f k h e a [] = refl
fold_agrees f k h e a (x ∷ xs) = ap (λ b. fold f b (map h xs)) (e a x) ∙ fold_agrees f k h e (k a x) xs

module _ (g : Gathers) (elaborates : Elaborates g.Reported) (ends : List ℕ) where
  abbrev S : Type 0
  S = Steps g.Reported

  abbrev B : Type 0
  B = ChecksBlock g.Reported

  abbrev opened : Decl-F Decl Block → Decl-F S B
  opened x = map-Decl Decl Block S B (steps g elaborates ends) (checks_block g elaborates ends) x

  at : (d : Decl) → steps g elaborates ends d ≡ steps_layer g elaborates ends (opened (out-Decl d))
  unfolding steps checks_block
  at d = fold_out-Decl S B (steps_layer g elaborates ends) (block_layer g elaborates ends) d

  -- ---- declarations

  marked_mapped : (s : Scope g.Reported) (x : Decl-F Decl Block) → marked_layer s (opened x) ≡ marked_layer s x
  marked_mapped s (layer.Constants cs) = refl
  marked_mapped s (layer.Types ts) = refl
  marked_mapped s (layer.Variables vs) = refl
  marked_mapped s (layer.Procedure h b) = refl

  marks_is : (s : Scope g.Reported) (d : Decl) → (steps g elaborates ends d).marks s ≡ marked_decl s d
  marks_is s d = ap (λ (x : S). x.marks s) (at d) ∙ marked_mapped s (out-Decl d)

  declared_mapped : (c : Course g.Reported) (x : Decl-F Decl Block)
      → decl_layer g ends c (opened x) ≡ decl_layer g ends c x
  declared_mapped c (layer.Constants cs) = refl
  declared_mapped c (layer.Types ts) = refl
  declared_mapped c (layer.Variables vs) = refl
  declared_mapped c (layer.Procedure h b) = refl

  again_mapped : (s : Scope g.Reported) (p : Passing g.Reported) (x : Decl-F Decl Block)
      → again_layer g s p (opened x) ≡ again_layer g s p x
  again_mapped s p (layer.Constants cs) = refl
  again_mapped s p (layer.Types ts) = refl
  again_mapped s p (layer.Variables vs) = refl
  again_mapped s p (layer.Procedure h b) = refl

  declares_is : (c : Course g.Reported) (d : Decl) → (steps g elaborates ends d).declares c ≡ with_decl g ends c d
  declares_is c d = ap (λ (x : S). x.declares c) (at d) ∙ declared_mapped c (out-Decl d)

  -- ---- bodies

  -- what is checked of a declaration
  abbrev pub checks_written : Decl-F Decl Block → Option Which → ℕ → Walk g.Reported → Walk g.Reported
  checks_written x around seen w = checks_layer g elaborates ends (opened x) around seen w

  pub checks_is : (d : Decl) (around : Option Which) (seen : ℕ) (w : Walk g.Reported)
      → checks_decl g elaborates ends d around seen w ≡ checks_written (out-Decl d) around seen w
  checks_is d around seen w = ap (λ (x : S). x.checks around seen w) (at d)

  -- ---- blocks

  all_marks : (s : Scope g.Reported) (ds : List Decl)
      → all_marked marked_by s (map (steps g elaborates ends) ds) ≡ all_marked marked_decl s ds
  all_marks s ds = fold_agrees (with_marks marked_by) (with_marks marked_decl) (steps g elaborates ends)
      (λ st d. ap (λ (x : Scope g.Reported). (x, st.1 ++ length st.0.own ∷ [])) (marks_is st.0 d)) (s, []) ds

  all_declares : (c : Course g.Reported) (ds : List Decl)
      → fold declared_by c (map (steps g elaborates ends) ds) ≡ fold (with_decl g ends) c ds
  all_declares c ds = fold_agrees declared_by (with_decl g ends) (steps g elaborates ends) declares_is c ds

  again_is : (s : Scope g.Reported) (p : Passing g.Reported) (d : Decl)
      → (steps g elaborates ends d).again s p ≡ again_decl g s p d
  again_is s p d = ap (λ (x : S). x.again s p) (at d) ∙ again_mapped s p (out-Decl d)

  all_again : (s : Scope g.Reported) (p : Passing g.Reported) (ds : List Decl)
      → fold (again_by s) p (map (steps g elaborates ends) ds) ≡ fold (again_decl g s) p ds
  all_again s p ds = fold_agrees (again_by s) (again_decl g s) (steps g elaborates ends) (again_is s) p ds

  abbrev behind : ℕ → List Decl → List ℕ → Course g.Reported → Declared g.Reported
  behind n ds seen c = (c.0, (fold (again_by c.0) (c.1, n) (map (steps g elaborates ends) ds)).0, seen)

  declared_is : (st : State (Unit {0}) g.Reported) (first : ℕ) (ds : List Decl)
      → all_declared marked_by declared_by again_by st first (map (steps g elaborates ends) ds)
      ≡ declared_block g ends st first ds
  declared_is st first ds =
      ap (λ (m : Scope g.Reported × List ℕ). behind (length st.0.own) ds m.1
      (fold declared_by (m.0, st.1, first) (map (steps g elaborates ends) ds))) (all_marks st.0 ds)
      ∙ ap (behind (length st.0.own) ds (all_marked marked_decl st.0 ds).1)
      (all_declares ((all_marked marked_decl st.0 ds).0, st.1, first) ds)
      ∙ (let c : Course g.Reported = fold (with_decl g ends) ((all_marked marked_decl st.0 ds).0, st.1, first) ds in
      ap (λ (p : Passing g.Reported). let d : Declared g.Reported = (c.0, p.0, (all_marked marked_decl st.0 ds).1) in d)
      (all_again c.0 (c.1, length st.0.own) ds))

  bodies_is : (around : Option Which) (seen : List ℕ) (w : Walk g.Reported) (ds : List Decl)
      → with_bodies (λ x. checked_by x around) seen w (map (steps g elaborates ends) ds)
      ≡ bodies_checked g elaborates ends around seen w ds
  bodies_is around seen w ds =
      ap (λ (st : Walk g.Reported × ℕ). st.0)
      (fold_agrees (with_body (λ x. checked_by x around) seen)
      (with_body (λ d. checks_decl g elaborates ends d around) seen) (steps g elaborates ends) (λ st d. refl) (w, 0)
      ds)

  abbrev pub written : (around : Option Which) → Option (Result TypeNo g.Reported) → Walk g.Reported → Block
      → Checked g.Reported
  written around returns w b =
      let d = begun_block g ends w (out-Block b).decls in
      with_statements elaborates returns (out-Block b).body
      (bodies_checked g elaborates ends around d.1 d.0 (out-Block b).decls)

  pub block_is : (around : Option Which) (returns : Option (Result TypeNo g.Reported)) (w : Walk g.Reported) (b : Block)
      → checks_block g elaborates ends b around returns w ≡ written around returns w b
  unfolding steps checks_block
  block_is around returns w b =
      ap (λ (f : B). f around returns w) (fold_out-Block S B (steps_layer g elaborates ends)
      (block_layer g elaborates ends) b)
      ∙ ap (λ (d : Declared g.Reported). block_from elaborates checked_by around returns d
      (map (steps g elaborates ends) (out-Block b).decls) (out-Block b).body w.bodies)
      (declared_is (w.scope, w.so_far) (length w.bodies.locals) (out-Block b).decls)
      ∙ ap (λ (v : Walk g.Reported). with_statements elaborates returns (out-Block b).body v)
      (bodies_is around (begun_block g ends w (out-Block b).decls).1 (begun_block g ends w (out-Block b).decls).0
      (out-Block b).decls)

-- ---- all blocks

-- What holds of a block if it holds of the blocks of its procedures holds of all.
module _ (P : Block → Type 0) (turn : (b : Block)
    → ((d : Decl) (h : Heading) (c : Block) → Among d (out-Block b).decls → out-Decl d ≡ layer.Procedure h c → P c)
    → P b) where
  abbrev PD : Decl → Type 0
  PD d = (h : Heading) (c : Block) → out-Decl d ≡ layer.Procedure h c → P c

  abbrev SD : Type 0
  SD = (d : Decl) × PD d

  abbrev SB : Type 0
  SB = (b : Block) × P b

  abbrev bare : Decl-F SD SB → Decl-F Decl Block
  bare x = map-Decl SD SB Decl Block (λ e. e.0) (λ e. e.0) x

  abbrev bare_block : Block-F SD SB → Block-F Decl Block
  bare_block x = map-Block SD SB Decl Block (λ e. e.0) (λ e. e.0) x

  abbrev block_in : Block → Decl-F Decl Block → Block
  block_in c (layer.Procedure h b) = b
  block_in c other = c

  decl_turn : (y : Decl-F SD SB) (h : Heading) (c : Block) → bare y ≡ layer.Procedure h c → P c
  decl_turn (layer.Constants cs) h c e = absurd cc
  decl_turn (layer.Types ts) h c e = absurd cc
  decl_turn (layer.Variables vs) h c e = absurd cc
  decl_turn (layer.Procedure k b) h c e = subst P (ap (block_in c) e) b.1

  step_decl : (x : Decl-F Decl Block) (y : Decl-F SD SB) → bare y ≡ x → PD (roll-Decl x)
  step_decl x y q h c e = decl_turn y h c (q ∙ sym (out-roll-Decl x) ∙ e)

  among_turn : (xs : List SD) (d : Decl) → Among d (map (λ (x : SD). x.0) xs) → PD d
  among_turn [] d m = elim m [ ]
  among_turn (x ∷ xs) d here = x.1
  among_turn (x ∷ xs) d (later m) = among_turn xs d m

  step_block : (x : Block-F Decl Block) (y : Block-F SD SB) → bare_block y ≡ x → P (roll-Block x)
  step_block x y q = turn (roll-Block x) (λ d h c m e. among_turn y.decls d
      (subst (λ (z : Block-F Decl Block). Among d z.decls) (out-roll-Block x ∙ sym q) m) h c e)

  pub all_blocks : (b : Block) → P b
  all_blocks = ind-Block PD P step_decl step_block
