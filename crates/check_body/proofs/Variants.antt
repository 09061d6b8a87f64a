-- What comes of each declaration and of each block, from what comes of their parts.
use Rattle.std.proofs.Common.{◌≡◌, ℕ, List, [], ◌∷◌, ◌++◌, Option, Result, Ok, Err, IfOk, OnOk, refl, sym, ap, ◌∙◌}
use Rattle.std.specs.Prelude.{length, map}
use Rattle.std.specs.List.{fold}
use Rattle.m2_tree.specs.declared.stmt.Stmt.{Stmt}
use Rattle.m2_tree.specs.declared.decl.Constant.{Constant}
use Rattle.m2_tree.specs.declared.decl.TypeDecl.{TypeDecl}
use Rattle.m2_tree.specs.declared.decl.Variables.{Variables}
use Rattle.m2_tree.specs.declared.decl.Heading.{Heading}
use Rattle.m2_tree.specs.declared.decl.Decl.{Decl, Decl-F, out-Decl, map-Decl, fold_out-Decl}
use Rattle.m2_tree.specs.declared.decl.Decl.TheOpen as layer
use Rattle.m2_tree.specs.declared.decl.Decl.TheVariants as decl
use Rattle.m2_tree.specs.declared.decl.Block.{Block, out-Block, fold_out-Block}
use Rattle.typed_tree.specs.declared.types.TypeNo.{TypeNo}
use Rattle.typed_tree.specs.declared.statement.TypedStmt.{TypedStmt}
use Rattle.typed_tree.specs.declared.typed_module.Which.{Which}
use Rattle.m2_rule.specs.declared.breach.Breach.{Breach}
use Rattle.check_scope.specs.declared.scope.Scope.{Scope}
use Rattle.check_scope.specs.Scopes.{State}
use Rattle.check_scope.specs.Elaborated.{least}
use Rattle.check_block.specs.Naming.{marked_layer, marked_decl, with_marks, all_marked}
use Rattle.check_definition.specs.Again.{Passing}
use Rattle.check_block.specs.Declarations.{Course, Declared, decl_layer, with_decl, again_layer, again_decl, all_declared, declared_block}
use Rattle.check_body.specs.declared.procedure.Walk.{Walk}
use Rattle.check_body.specs.Elaborating.{Elaborates, statements_of}
use Rattle.check_body.specs.Bodies.{Checked, ChecksBlock, Steps, marked_by, declared_by, again_by, checked_by, with_body, with_bodies, begun_block, with_statements, block_from, procedure_checked, steps_layer, block_layer, steps, checks_block, checks_decl, bodies_checked}

fold_agrees : {A X Y : Type 0} (f : A → Y → A) (k : A → X → A) (h : X → Y) → ((a : A) (x : X) → f a (h x) ≡ k a x)
    → (a : A) (xs : List X) → fold f a (map h xs) ≡ fold k a xs
fold_agrees f k h e a [] = refl
fold_agrees f k h e a (x ∷ xs) = ap (λ b. fold f b (map h xs)) (e a x) ∙ fold_agrees f k h e (k a x) xs

abbrev S : Type 0
S = Steps Breach

abbrev B : Type 0
B = ChecksBlock Breach

module _ (elaborates : Elaborates Breach) (ends : List ℕ) where
  at : (d : Decl) (x : Decl-F Decl Block) → out-Decl d ≡ x
      → steps least elaborates ends d ≡ steps_layer least elaborates ends
      (map-Decl Decl Block S B (steps least elaborates ends) (checks_block least elaborates ends) x)
  unfolding steps checks_block
  at d x h = fold_out-Decl S B (steps_layer least elaborates ends) (block_layer least elaborates ends) d
      ∙ ap (λ (y : Decl-F Decl Block). steps_layer least elaborates ends
      (map-Decl Decl Block S B (steps least elaborates ends) (checks_block least elaborates ends) y)) h

  -- ---- declarations

  marked_mapped : (s : Scope Breach) (x : Decl-F Decl Block)
      → marked_layer s (map-Decl Decl Block S B (steps least elaborates ends) (checks_block least elaborates ends) x)
      ≡ marked_layer s x
  marked_mapped s (layer.Constants cs) = refl
  marked_mapped s (layer.Types ts) = refl
  marked_mapped s (layer.Variables vs) = refl
  marked_mapped s (layer.Procedure h b) = refl

  marks_is : (s : Scope Breach) (d : Decl) → (steps least elaborates ends d).marks s ≡ marked_decl s d
  marks_is s d = ap (λ (x : S). x.marks s) (at d (out-Decl d) refl) ∙ marked_mapped s (out-Decl d)

  declared_mapped : (c : Course Breach) (x : Decl-F Decl Block)
      → decl_layer least ends c (map-Decl Decl Block S B (steps least elaborates ends)
      (checks_block least elaborates ends) x) ≡ decl_layer least ends c x
  declared_mapped c (layer.Constants cs) = refl
  declared_mapped c (layer.Types ts) = refl
  declared_mapped c (layer.Variables vs) = refl
  declared_mapped c (layer.Procedure h b) = refl

  declares_is : (c : Course Breach) (d : Decl) → (steps least elaborates ends d).declares c ≡ with_decl least ends c d
  declares_is c d = ap (λ (x : S). x.declares c) (at d (out-Decl d) refl) ∙ declared_mapped c (out-Decl d)

  again_mapped : (s : Scope Breach) (p : Passing Breach) (x : Decl-F Decl Block)
      → again_layer least s p (map-Decl Decl Block S B (steps least elaborates ends)
      (checks_block least elaborates ends) x) ≡ again_layer least s p x
  again_mapped s p (layer.Constants cs) = refl
  again_mapped s p (layer.Types ts) = refl
  again_mapped s p (layer.Variables vs) = refl
  again_mapped s p (layer.Procedure h b) = refl

  again_is : (s : Scope Breach) (p : Passing Breach) (d : Decl)
      → (steps least elaborates ends d).again s p ≡ again_decl least s p d
  again_is s p d = ap (λ (x : S). x.again s p) (at d (out-Decl d) refl) ∙ again_mapped s p (out-Decl d)

  -- ---- bodies

  module _ (around : Option Which) (seen : ℕ) (w : Walk Breach) where
    pub checks_Constants : (cs : List Constant)
        → checks_decl least elaborates ends (decl.Constants cs) around seen w ≡ w
    checks_Constants cs = ap (λ (x : S). x.checks around seen w)
        (at (decl.Constants cs) (layer.Constants cs) (decl.outs-Constants cs))

    pub checks_Types : (ts : List TypeDecl) → checks_decl least elaborates ends (decl.Types ts) around seen w ≡ w
    checks_Types ts = ap (λ (x : S). x.checks around seen w) (at (decl.Types ts) (layer.Types ts) (decl.outs-Types ts))

    pub checks_Variables : (vs : List Variables)
        → checks_decl least elaborates ends (decl.Variables vs) around seen w ≡ w
    checks_Variables vs = ap (λ (x : S). x.checks around seen w)
        (at (decl.Variables vs) (layer.Variables vs) (decl.outs-Variables vs))

    pub checks_Procedure : (h : Heading) (b : Block)
        → checks_decl least elaborates ends (decl.Procedure h b) around seen w
        ≡ procedure_checked least elaborates ends h (checks_block least elaborates ends b) around seen w
    checks_Procedure h b = ap (λ (x : S). x.checks around seen w)
        (at (decl.Procedure h b) (layer.Procedure h b) (decl.outs-Procedure h b))

  -- ---- blocks

  all_marks : (s : Scope Breach) (ds : List Decl)
      → all_marked marked_by s (map (steps least elaborates ends) ds) ≡ all_marked marked_decl s ds
  all_marks s ds = fold_agrees (with_marks marked_by) (with_marks marked_decl) (steps least elaborates ends)
      (λ st d. ap (λ (x : Scope Breach). (x, st.1 ++ length st.0.own ∷ [])) (marks_is st.0 d)) (s, []) ds

  all_declares : (c : Course Breach) (ds : List Decl)
      → fold declared_by c (map (steps least elaborates ends) ds) ≡ fold (with_decl least ends) c ds
  all_declares c ds = fold_agrees declared_by (with_decl least ends) (steps least elaborates ends) declares_is c ds

  all_again : (s : Scope Breach) (p : Passing Breach) (ds : List Decl)
      → fold (again_by s) p (map (steps least elaborates ends) ds) ≡ fold (again_decl least s) p ds
  all_again s p ds =
      fold_agrees (again_by s) (again_decl least s) (steps least elaborates ends) (again_is s) p ds

  abbrev behind : (names : ℕ) → List S → List ℕ → Course Breach → Declared Breach
  behind names xs seen c = (c.0, (fold (again_by c.0) (c.1, names) xs).0, seen)

  declared_is : (st : State (Unit {0}) Breach) (first : ℕ) (ds : List Decl)
      → all_declared marked_by declared_by again_by st first (map (steps least elaborates ends) ds)
      ≡ declared_block least ends st first ds
  declared_is st first ds =
      let xs : List S = map (steps least elaborates ends) ds in
      let names : ℕ = length st.0.own in
      let m : Scope Breach × List ℕ = all_marked marked_decl st.0 ds in
      let c : Course Breach = fold (with_decl least ends) (m.0, st.1, first) ds in
      ap (λ (n : Scope Breach × List ℕ). behind names xs n.1 (fold declared_by (n.0, st.1, first) xs))
      (all_marks st.0 ds)
      ∙ ap (behind names xs m.1) (all_declares (m.0, st.1, first) ds)
      ∙ ap (λ (p : Passing Breach). (c.0, p.0, m.1)) (all_again c.0 (c.1, names) ds)

  bodies_is : (around : Option Which) (seen : List ℕ) (w : Walk Breach) (ds : List Decl)
      → with_bodies (λ x. checked_by x around) seen w (map (steps least elaborates ends) ds)
      ≡ bodies_checked least elaborates ends around seen w ds
  bodies_is around seen w ds =
      ap (λ (st : Walk Breach × ℕ). st.0)
      (fold_agrees (with_body (λ x. checked_by x around) seen)
      (with_body (λ d. checks_decl least elaborates ends d around) seen) (steps least elaborates ends)
      (λ st d. refl) (w, 0) ds)

  abbrev written : (around : Option Which) → Option (Result TypeNo Breach) → Walk Breach → Block → Checked Breach
  written around returns w b =
      let d = begun_block least ends w (out-Block b).decls in
      with_statements elaborates returns (out-Block b).body
      (bodies_checked least elaborates ends around d.1 d.0 (out-Block b).decls)

  block_is : (around : Option Which) (returns : Option (Result TypeNo Breach)) (w : Walk Breach) (b : Block)
      → checks_block least elaborates ends b around returns w ≡ written around returns w b
  unfolding steps checks_block
  block_is around returns w b =
      ap (λ (f : B). f around returns w) (fold_out-Block S B (steps_layer least elaborates ends)
      (block_layer least elaborates ends) b)
      ∙ ap (λ (d : Declared Breach). block_from elaborates checked_by around returns d
      (map (steps least elaborates ends) (out-Block b).decls) (out-Block b).body w.bodies)
      (declared_is (w.scope, w.so_far) (length w.bodies.locals) (out-Block b).decls)
      ∙ ap (λ (v : Walk Breach). with_statements elaborates returns (out-Block b).body v)
      (bodies_is around (begun_block least ends w (out-Block b).decls).1
      (begun_block least ends w (out-Block b).decls).0 (out-Block b).decls)

  -- a block, step by step
  pub block_ends : {E : Type 0} (around : Option Which) (returns : Option (Result TypeNo Breach))
      (w w1 w2 : Walk Breach) (s3 : Scope Breach) (b : Block) (ds : List Decl) (seen ks : List ℕ)
      (r : Result (Result (List TypedStmt) Breach) E)
      → ds ≡ (out-Block b).decls → (w1, seen) ≡ begun_block least ends w ds → ks ≡ seen
      → w2 ≡ bodies_checked least elaborates ends around ks w1 ds
      → OnOk r (s3 ≡ w2.scope) → IfOk r (λ j. j ≡ statements_of elaborates w2.scope returns (out-Block b).body)
      → IfOk r (λ j. ◌≡◌ {A = Checked Breach} (record { scope = s3; so_far = w2.so_far; bodies = w2.bodies }, j)
      (checks_block least elaborates ends b around returns w))
  block_ends around returns w w1 w2 s3 b ds seen ks (Err x) e0 e1 e2 e3 stays means = tt
  block_ends around returns w w1 w2 s3 b ds seen ks (Ok j) e0 e1 e2 e3 stays means =
      let body : Option (List Stmt) = (out-Block b).body in
      let d : Walk Breach × List ℕ = begun_block least ends w (out-Block b).decls in
      let p : (w1, ks) ≡ d = ap (λ (x : List ℕ). (w1, x)) e2 ∙ e1 ∙ ap (begun_block least ends w) e0 in
      let all : w2 ≡ bodies_checked least elaborates ends around d.1 d.0 (out-Block b).decls =
      e3 ∙ ap (λ (x : Walk Breach × List ℕ). bodies_checked least elaborates ends around x.1 x.0 ds) p
      ∙ ap (bodies_checked least elaborates ends around d.1 d.0) e0 in
      ap (λ (s : Scope Breach). (record { scope = s; so_far = w2.so_far; bodies = w2.bodies }, j)) stays
      ∙ ap (λ (x : Result (List TypedStmt) Breach). (w2, x)) means
      ∙ ap (with_statements elaborates returns body) all
      ∙ sym (block_is around returns w b)

pub ruleset variants = (checks_Constants, checks_Types, checks_Variables, checks_Procedure)
