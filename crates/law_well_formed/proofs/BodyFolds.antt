-- Declarations and blocks in the four walks over a block: a fact of each layer is a fact of all trees.
use Rattle.std.proofs.Common.{◌≡◌, ℕ, List, [], ◌∷◌, ◌++◌, length, Result, refl, sym, ap, subst, ◌∙◌, append_assoc}
use Rattle.std.proofs.lemmas.List.{append-nil}
use Rattle.std.specs.Prelude.{map}
use Rattle.std.specs.List.{fold}
use Rattle.m2_tree.specs.declared.decl.Decl.{Decl, Decl-F, out-Decl, roll-Decl, out-roll-Decl, map-Decl, fold_out-Decl, ind-Decl}
use Rattle.m2_tree.specs.declared.decl.Decl.TheOpen as layer
use Rattle.m2_tree.specs.declared.decl.Block.{Block, Block-F, out-Block, roll-Block, out-roll-Block, map-Block, fold_out-Block, ind-Block}
use Rattle.check_scope.specs.Elaborated.{Gathers}
use Rattle.check_scope.specs.Scopes.{State}
use Rattle.check_scope.specs.declared.scope.Scope.{Scope}
use Rattle.check_block.specs.Naming.{marked_layer, marked_decl, with_marks}
use Rattle.check_definition.specs.Again.{Passing}
use Rattle.check_block.specs.Declarations.{Course, Declared, decl_layer, with_decl, again_layer, again_decl, all_declared, declared_block}
use Rattle.check_block.specs.Nesting.{append_names, within_decl, within}
use Rattle.check_block.specs.Nesting as nesting
use Rattle.check_body.specs.Elaborating.{Elaborates}
use Rattle.check_body.specs.Bodies.{ChecksBlock, Steps, marked_by, declared_by, again_by, steps_layer, block_layer, steps, checks_block}

module _ (g : Gathers) (elaborates : Elaborates g.Reported) (ends : List ℕ) where
  abbrev pub steps_of : Decl → Steps g.Reported
  steps_of = steps g elaborates ends

  abbrev pub block_of : Block → ChecksBlock g.Reported
  block_of = checks_block g elaborates ends

  abbrev pub opened : Decl-F Decl Block → Decl-F (Steps g.Reported) (ChecksBlock g.Reported)
  opened x = map-Decl Decl Block (Steps g.Reported) (ChecksBlock g.Reported) steps_of block_of x

  abbrev pub opened_block : Block-F Decl Block → Block-F (Steps g.Reported) (ChecksBlock g.Reported)
  opened_block x = map-Block Decl Block (Steps g.Reported) (ChecksBlock g.Reported) steps_of block_of x

  pub decl_at : (e : Decl) (x : Decl-F Decl Block) → out-Decl e ≡ x
      → steps_of e ≡ steps_layer g elaborates ends (opened x)
  unfolding steps checks_block
  decl_at e x h =
      fold_out-Decl (Steps g.Reported) (ChecksBlock g.Reported) (steps_layer g elaborates ends)
      (block_layer g elaborates ends) e
      ∙ ap (λ (y : Decl-F Decl Block). steps_layer g elaborates ends (opened y)) h

  pub block_at : (e : Block) (x : Block-F Decl Block) → out-Block e ≡ x
      → block_of e ≡ block_layer g elaborates ends (opened_block x)
  unfolding steps checks_block
  block_at e x h =
      fold_out-Block (Steps g.Reported) (ChecksBlock g.Reported) (steps_layer g elaborates ends)
      (block_layer g elaborates ends) e
      ∙ ap (λ (y : Block-F Decl Block). block_layer g elaborates ends (opened_block y)) h

  -- ---- a fact of each tree and what comes of it, shown of the layers

  module _ (P : Decl → Steps g.Reported → Type 0) (Q : Block → ChecksBlock g.Reported → Type 0) where
    abbrev pub OfDecl : Type 0
    OfDecl = (d : Decl) × P d (steps_of d)

    abbrev pub OfBlock : Type 0
    OfBlock = (b : Block) × Q b (block_of b)

    abbrev pub bare : Decl-F OfDecl OfBlock → Decl-F Decl Block
    bare y = map-Decl OfDecl OfBlock Decl Block (λ e. e.0) (λ e. e.0) y

    abbrev pub bare_block : Block-F OfDecl OfBlock → Block-F Decl Block
    bare_block y = map-Block OfDecl OfBlock Decl Block (λ e. e.0) (λ e. e.0) y

    module _ (decls : (y : Decl-F OfDecl OfBlock)
        → P (roll-Decl (bare y)) (steps_layer g elaborates ends (opened (bare y))))
        (blocks : (y : Block-F OfDecl OfBlock)
        → Q (roll-Block (bare_block y)) (block_layer g elaborates ends (opened_block (bare_block y)))) where
      abbrev PD : Decl → Type 0
      PD d = P d (steps_of d)

      abbrev PB : Block → Type 0
      PB b = Q b (block_of b)

      decl_step : (x : Decl-F Decl Block) (y : Decl-F OfDecl OfBlock) → bare y ≡ x → PD (roll-Decl x)
      decl_step x y q =
          let d : Decl = roll-Decl (bare y) in
          subst (λ (z : Decl-F Decl Block). PD (roll-Decl z)) q
          (subst (λ (s : Steps g.Reported). P d s) (sym (decl_at d (bare y) (out-roll-Decl (bare y)))) (decls y))

      block_step : (x : Block-F Decl Block) (y : Block-F OfDecl OfBlock) → bare_block y ≡ x → PB (roll-Block x)
      block_step x y q =
          let b : Block = roll-Block (bare_block y) in
          let at : block_of b ≡ block_layer g elaborates ends (opened_block (bare_block y))
          = block_at b (bare_block y) (out-roll-Block (bare_block y)) in
          subst (λ (z : Block-F Decl Block). PB (roll-Block z)) q
          (subst (λ (c : ChecksBlock g.Reported). Q b c) (sym at) (blocks y))

      pub all_decls : (d : Decl) → PD d
      all_decls = ind-Decl PD PB decl_step block_step

      pub all_blocks : (b : Block) → PB b
      all_blocks = ind-Block PD PB decl_step block_step

  -- ---- the steps of a block declare what its declarations do

  layer_marks : (s : Scope g.Reported) (x : Decl-F Decl Block) → marked_layer s (opened x) ≡ marked_layer s x
  layer_marks s (layer.Constants cs) = refl
  layer_marks s (layer.Types ts) = refl
  layer_marks s (layer.Variables vs) = refl
  layer_marks s (layer.Procedure h b) = refl

  layer_declares : (c : Course g.Reported) (x : Decl-F Decl Block)
      → decl_layer g ends c (opened x) ≡ decl_layer g ends c x
  layer_declares c (layer.Constants cs) = refl
  layer_declares c (layer.Types ts) = refl
  layer_declares c (layer.Variables vs) = refl
  layer_declares c (layer.Procedure h b) = refl

  layer_again : (s : Scope g.Reported) (p : Passing g.Reported) (x : Decl-F Decl Block)
      → again_layer g s p (opened x) ≡ again_layer g s p x
  layer_again s p (layer.Constants cs) = refl
  layer_again s p (layer.Types ts) = refl
  layer_again s p (layer.Variables vs) = refl
  layer_again s p (layer.Procedure h b) = refl

  step_marks : (s : Scope g.Reported) (d : Decl) → marked_by s (steps_of d) ≡ marked_decl s d
  step_marks s d =
      ap (λ (x : Steps g.Reported). x.marks s) (decl_at d (out-Decl d) refl) ∙ layer_marks s (out-Decl d)

  step_declares : (c : Course g.Reported) (d : Decl) → declared_by c (steps_of d) ≡ with_decl g ends c d
  step_declares c d =
      ap (λ (x : Steps g.Reported). x.declares c) (decl_at d (out-Decl d) refl) ∙ layer_declares c (out-Decl d)

  step_again : (s : Scope g.Reported) (p : Passing g.Reported) (d : Decl)
      → again_by s p (steps_of d) ≡ again_decl g s p d
  step_again s p d =
      ap (λ (x : Steps g.Reported). x.again s p) (decl_at d (out-Decl d) refl) ∙ layer_again s p (out-Decl d)

  all_marks : (ds : List Decl) (st : Scope g.Reported × List ℕ)
      → fold (with_marks marked_by) st (map steps_of ds) ≡ fold (with_marks marked_decl) st ds
  all_marks [] st = refl
  all_marks (d ∷ ds) st =
      ap (λ (s : Scope g.Reported). fold (with_marks marked_by) (s, st.1 ++ length st.0.own ∷ []) (map steps_of ds))
      (step_marks st.0 d)
      ∙ all_marks ds (with_marks marked_decl st d)

  all_declares : (ds : List Decl) (c : Course g.Reported)
      → fold declared_by c (map steps_of ds) ≡ fold (with_decl g ends) c ds
  all_declares [] c = refl
  all_declares (d ∷ ds) c =
      ap (λ (k : Course g.Reported). fold declared_by k (map steps_of ds)) (step_declares c d)
      ∙ all_declares ds (with_decl g ends c d)

  all_again : (s : Scope g.Reported) (ds : List Decl) (p : Passing g.Reported)
      → fold (again_by s) p (map steps_of ds) ≡ fold (again_decl g s) p ds
  all_again s [] p = refl
  all_again s (d ∷ ds) p =
      ap (λ (q : Passing g.Reported). fold (again_by s) q (map steps_of ds)) (step_again s p d)
      ∙ all_again s ds (again_decl g s p d)

  abbrev again_behind : List (Steps g.Reported) → ℕ → List ℕ → Course g.Reported → Declared g.Reported
  again_behind xs names seen c = (c.0, (fold (again_by c.0) (c.1, names) xs).0, seen)

  abbrev behind : Result (Unit {0}) g.Reported → ℕ → List (Steps g.Reported) → ℕ → Scope g.Reported × List ℕ
      → Declared g.Reported
  behind so first xs names m = again_behind xs names m.1 (fold declared_by (m.0, so, first) xs)

  pub declared_same : (ds : List Decl) (st : State (Unit {0}) g.Reported) (first : ℕ)
      → all_declared marked_by declared_by again_by st first (map steps_of ds) ≡ declared_block g ends st first ds
  declared_same ds st first =
      let m : Scope g.Reported × List ℕ = fold (with_marks marked_decl) (st.0, []) ds in
      let c : Course g.Reported = fold (with_decl g ends) (m.0, st.1, first) ds in
      let names : ℕ = length st.0.own in
      ap (behind st.1 first (map steps_of ds) names) (all_marks ds (st.0, []))
      ∙ ap (again_behind (map steps_of ds) names m.1) (all_declares ds (m.0, st.1, first))
      ∙ ap (λ (p : Passing g.Reported). (c.0, p.0, m.1)) (all_again c.0 ds (c.1, names))

-- ---- the procedures in them

abbrev pub counted : Decl-F Decl Block → Decl-F (List ℕ) (List ℕ)
counted x = map-Decl Decl Block (List ℕ) (List ℕ) within_decl within x

abbrev pub counted_block : Block-F Decl Block → Block-F (List ℕ) (List ℕ)
counted_block x = map-Block Decl Block (List ℕ) (List ℕ) within_decl within x

pub count_at : (e : Decl) (x : Decl-F Decl Block) → out-Decl e ≡ x → within_decl e ≡ nesting.decl_layer (counted x)
unfolding within_decl within
count_at e x h =
    fold_out-Decl (List ℕ) (List ℕ) nesting.decl_layer nesting.block_layer e
    ∙ ap (λ (y : Decl-F Decl Block). nesting.decl_layer (counted y)) h

pub count_at_block : (e : Block) (x : Block-F Decl Block) → out-Block e ≡ x
    → within e ≡ nesting.block_layer (counted_block x)
unfolding within_decl within
count_at_block e x h =
    fold_out-Block (List ℕ) (List ℕ) nesting.decl_layer nesting.block_layer e
    ∙ ap (λ (y : Block-F Decl Block). nesting.block_layer (counted_block y)) h

-- of declarations of which something is known
module _ {P : Decl → Type 0} where
  abbrev pub total : List ((d : Decl) × P d) → List ℕ
  total [] = []
  total (x ∷ xs) = within_decl x.0 ++ total xs

  pub total_is : (so : List ℕ) (xs : List ((d : Decl) × P d))
      → fold append_names so (map within_decl (map (λ (x : (d : Decl) × P d). x.0) xs)) ≡ so ++ total xs
  total_is so [] = sym (append-nil so)
  total_is so (x ∷ xs) = total_is (so ++ within_decl x.0) xs ∙ append_assoc so (within_decl x.0) (total xs)
