-- The bodies of the procedures of a block, with other numbers of modules.
use Rattle.std.proofs.Common.{◌≡◌, ℕ, List, [], ◌∷◌, ◌+◌, map, fold, length, Option, Some, None, Result, refl, sym, ap, ap₂, subst, ◌∙◌, slice_get}
use Rattle.std.specs.Option.{unwrap_or}
use Rattle.std.proofs.lemmas.List.{length-map}
use Rattle.m2_tree.specs.declared.stmt.Stmt.{Stmt}
use Rattle.m2_tree.specs.declared.decl.Heading.{Heading}
use Rattle.m2_tree.specs.declared.decl.Decl.{Decl, Decl-F, out-Decl, roll-Decl, out-roll-Decl, map-Decl, fold_out-Decl, ind-Decl}
use Rattle.m2_tree.specs.declared.decl.Decl.TheOpen as layer
use Rattle.m2_tree.specs.declared.decl.Block.{Block, Block-F, out-Block, roll-Block, out-roll-Block, map-Block, fold_out-Block, ind-Block}
use Rattle.typed_tree.specs.declared.types.TypeNo.{TypeNo}
use Rattle.typed_tree.specs.declared.typed_module.Which.{Which}
use Rattle.check_scope.specs.declared.scope.Scope.{Scope}
use Rattle.check_scope.specs.Elaborated.{Gathers}
use Rattle.check_scope.specs.Scopes.{State}
use Rattle.check_definition.specs.Again.{Passing}
use Rattle.check_block.specs.Naming.{with_marks, all_marked}
use Rattle.check_block.specs.Declarations.{Course, Declared, all_declared, declared_block}
use Rattle.check_body.specs.declared.routine.Bodies.{Bodies}
use Rattle.check_body.specs.declared.procedure.Walk.{Walk}
use Rattle.check_body.specs.declared.procedure.Begun.{Begun}
use Rattle.check_body.specs.Elaborating.{Elaborates, statements_of}
use Rattle.check_body.specs.Inside.{which_of, begun_procedure, ended_procedure}
use Rattle.check_body.specs.Bodies.{begun_from, Checked, Checks, ChecksBlock, Steps, marked_by, declared_by, again_by, checked_by, with_body, with_bodies, begun_block, with_statements, block_from, procedure_checked, checks_layer, steps_layer, block_layer, steps, checks_block, checks_decl, bodies_checked}
use Rattle.def_exchange.specs.Moved.{Exchange}
use Rattle.law_exchange_types.specs.Scopes.{moved_scope, moved_state}
use Rattle.law_exchange_types.proofs.Basics.{fold_moves}
use Rattle.law_exchange_bodies.specs.Modules.{moved_course, moved_declared, moved_routine, moved_bodies, moved_walk, moved_returns, moved_begun, moved_body, moved_checked}
use Rattle.law_exchange_bodies.specs.Premises.{BodiesElaborate}
use Rattle.typed_tree.specs.declared.statement.TypedStmt.{TypedStmt}
use Rattle.law_exchange_bodies.proofs.Naming.{moved_marked, with_marks_moves, marked_layer_moves}
use Rattle.law_exchange_bodies.proofs.Declarations.{decl_layer_moves, again_layer_moves, own_moves, read_behind, declared_behind, declared_block_moves}
use Rattle.law_exchange_bodies.proofs.Inside.{which_of_moves, begun_procedure_moves, ended_procedure_moves}

-- ---- the bodies of a block, one after another

module _ (z : Exchange) {T X : Type 0} (checks : X → (seen : ℕ) → Walk T → Walk T) (seen : List ℕ)
    (checks_move : (x : X) (n : ℕ) (w : Walk T) → checks x n (moved_walk z w) ≡ moved_walk z (checks x n w)) where
  abbrev moved_place : Walk T × ℕ → Walk T × ℕ
  moved_place st = (moved_walk z st.0, st.1)

  pub with_body_moves : (st : Walk T × ℕ) (x : X)
      → with_body checks seen (moved_place st) x ≡ moved_place (with_body checks seen st x)
  with_body_moves st x =
      ap (λ (w : Walk T). (w, st.1 + 1)) (checks_move x (unwrap_or (slice_get seen st.1) 0) st.0)

  pub with_bodies_moves : (w : Walk T) (xs : List X)
      → with_bodies checks seen (moved_walk z w) xs ≡ moved_walk z (with_bodies checks seen w xs)
  with_bodies_moves w xs =
      ap (λ (st : Walk T × ℕ). st.0)
      (fold_moves moved_place (with_body checks seen) (with_body checks seen) with_body_moves (w, 0) xs)

pub begun_from_moves : (z : Exchange) {T : Type 0} (d : Declared T) (rs : Bodies)
    → begun_from (moved_declared z d) (moved_bodies z rs) ≡ moved_walk z (begun_from d rs)
begun_from_moves z d rs = refl

module _ (z : Exchange) (g : Gathers) where
  pub begun_block_moves : (ends : List ℕ) (w : Walk g.Reported) (ds : List Decl)
      → begun_block g ends (moved_walk z w) ds
      ≡ (moved_walk z (begun_block g ends w ds).0, (begun_block g ends w ds).1)
  begun_block_moves ends w ds =
      ap (λ (d : Declared g.Reported). (begun_from d (moved_bodies z w.bodies), d.2))
      (ap (λ (n : ℕ). declared_block g ends (moved_state z (w.scope, w.so_far)) n ds)
      (length-map w.bodies.locals (moved_routine z))
      ∙ declared_block_moves z g ends (w.scope, w.so_far) (length w.bodies.locals) ds)

module _ (z : Exchange) (g : Gathers) (elaborates : Elaborates g.Reported) (e : BodiesElaborate z g elaborates) where
  pub statements_of_moves : (s : Scope g.Reported) (returns : Option (Result TypeNo g.Reported))
      (body : Option (List Stmt))
      → statements_of elaborates (moved_scope z s) (moved_returns z returns) body
      ≡ moved_body z (statements_of elaborates s returns body)
  statements_of_moves s returns None = refl
  statements_of_moves s returns (Some xs) = e s returns xs

  pub with_statements_moves : (returns : Option (Result TypeNo g.Reported)) (body : Option (List Stmt))
      (w : Walk g.Reported)
      → with_statements elaborates (moved_returns z returns) body (moved_walk z w)
      ≡ moved_checked z (with_statements elaborates returns body w)
  with_statements_moves returns body w =
      ap (λ (b : Result (List TypedStmt) g.Reported). (moved_walk z w, b)) (statements_of_moves w.scope returns body)

-- ---- procedures

module _ (z : Exchange) (g : Gathers) (elaborates : Elaborates g.Reported)
    (e : BodiesElaborate z g elaborates) (ends : List ℕ) where
  abbrev ChecksMove : Checks g.Reported → Type 0
  ChecksMove f =
      (around : Option Which) (seen : ℕ) (w : Walk g.Reported)
      → f around seen (moved_walk z w) ≡ moved_walk z (f around seen w)

  abbrev pub BlockMoves : ChecksBlock g.Reported → Type 0
  BlockMoves f =
      (around : Option Which) (returns : Option (Result TypeNo g.Reported)) (w : Walk g.Reported)
      → f around (moved_returns z returns) (moved_walk z w) ≡ moved_checked z (f around returns w)

  pub record StepsMove (f : Steps g.Reported) : Type 0 where
    pub marks : (s : Scope g.Reported) → f.marks (moved_scope z s) ≡ moved_scope z (f.marks s)
    pub declares : (c : Course g.Reported) → f.declares (moved_course z c) ≡ moved_course z (f.declares c)
    pub again : (s : Scope g.Reported) (p : Passing g.Reported) → f.again (moved_scope z s) p ≡ f.again s p
    pub checks : ChecksMove f.checks

  abbrev AllMove : List (Steps g.Reported) → Type 0
  AllMove [] = Unit {0}
  AllMove (f ∷ fs) = StepsMove f × AllMove fs

  -- ---- the block of a procedure

  marks_all : (st : Scope g.Reported × List ℕ) (fs : List (Steps g.Reported)) → AllMove fs
      → fold (with_marks marked_by) (moved_marked z st) fs ≡ moved_marked z (fold (with_marks marked_by) st fs)
  marks_all st [] h = refl
  marks_all st (f ∷ fs) h =
      ap (λ (m : Scope g.Reported × List ℕ). fold (with_marks marked_by) m fs)
      (with_marks_moves z (λ s (u : Unit {0}). f.marks s) (λ s u. h.0.marks s) st tt)
      ∙ marks_all (with_marks marked_by st f) fs h.1

  declares_all : (c : Course g.Reported) (fs : List (Steps g.Reported)) → AllMove fs
      → fold declared_by (moved_course z c) fs ≡ moved_course z (fold declared_by c fs)
  declares_all c [] h = refl
  declares_all c (f ∷ fs) h =
      ap (λ (c : Course g.Reported). fold declared_by c fs) (h.0.declares c) ∙ declares_all (f.declares c) fs h.1

  again_all : (s : Scope g.Reported) (p : Passing g.Reported) (fs : List (Steps g.Reported)) → AllMove fs
      → fold (again_by (moved_scope z s)) p fs ≡ fold (again_by s) p fs
  again_all s p [] h = refl
  again_all s p (f ∷ fs) h =
      ap (λ (p : Passing g.Reported). fold (again_by (moved_scope z s)) p fs) (h.0.again s p)
      ∙ again_all s (f.again s p) fs h.1

  block_declared : (st : State (Unit {0}) g.Reported) (first : ℕ) (fs : List (Steps g.Reported)) → AllMove fs
      → all_declared marked_by declared_by again_by (moved_state z st) first fs
      ≡ moved_declared z (all_declared marked_by declared_by again_by st first fs)
  block_declared st first fs h =
      let m : Scope g.Reported × List ℕ = all_marked marked_by st.0 fs in
      let c : Course g.Reported = fold declared_by (m.0, st.1, first) fs in
      let n : ℕ = length st.0.own in
      ap₂ (λ (n : ℕ) (m : Scope g.Reported × List ℕ). declared_behind declared_by again_by st.1 n first fs m)
      (own_moves z st.0) (marks_all (st.0, []) fs h)
      ∙ (ap (read_behind again_by n fs m.1) (declares_all (m.0, st.1, first) fs h)
      ∙ ap (λ (p : Passing g.Reported). (moved_scope z c.0, p.0, m.1)) (again_all c.0 (c.1, n) fs h))

  abbrev body_step : Option Which → List ℕ → Walk g.Reported × ℕ → Steps g.Reported → Walk g.Reported × ℕ
  body_step around seen st f = with_body (λ (x : Steps g.Reported). checked_by x around) seen st f

  bodies_all : (around : Option Which) (seen : List ℕ) (w : Walk g.Reported) (n : ℕ) (fs : List (Steps g.Reported))
      → AllMove fs
      → (fold (body_step around seen) (moved_walk z w, n) fs).0
      ≡ moved_walk z (fold (body_step around seen) (w, n) fs).0
  bodies_all around seen w n [] h = refl
  bodies_all around seen w n (f ∷ fs) h =
      let k : ℕ = unwrap_or (slice_get seen n) 0 in
      ap (λ (v : Walk g.Reported). (fold (body_step around seen) (v, n + 1) fs).0) (h.0.checks around k w)
      ∙ bodies_all around seen (f.checks around k w) (n + 1) fs h.1

  abbrev block_behind : Option Which → Option (Result TypeNo g.Reported) → List (Steps g.Reported)
      → Option (List Stmt) → Bodies → Declared g.Reported → Checked g.Reported
  block_behind around returns fs body rs d = block_from elaborates checked_by around returns d fs body rs

  block_from_moves : (around : Option Which) (returns : Option (Result TypeNo g.Reported))
      (d : Declared g.Reported) (fs : List (Steps g.Reported)) (body : Option (List Stmt)) (rs : Bodies) → AllMove fs
      → block_from elaborates checked_by around (moved_returns z returns) (moved_declared z d) fs body
      (moved_bodies z rs) ≡ moved_checked z (block_from elaborates checked_by around returns d fs body rs)
  block_from_moves around returns d fs body rs h =
      ap (with_statements elaborates (moved_returns z returns) body) (bodies_all around d.2 (begun_from d rs) 0 fs h)
      ∙ with_statements_moves z g elaborates e returns body
      (with_bodies (λ (x : Steps g.Reported). checked_by x around) d.2 (begun_from d rs) fs)

  block_layer_moves : (b : Block-F (Steps g.Reported) (ChecksBlock g.Reported)) → AllMove b.decls
      → BlockMoves (block_layer g elaborates ends b)
  block_layer_moves b h around returns w =
      ap (λ (d : Declared g.Reported).
      block_from elaborates checked_by around (moved_returns z returns) d b.decls b.body (moved_bodies z w.bodies))
      (ap (λ (n : ℕ). all_declared marked_by declared_by again_by (moved_state z (w.scope, w.so_far)) n b.decls)
      (length-map w.bodies.locals (moved_routine z))
      ∙ block_declared (w.scope, w.so_far) (length w.bodies.locals) b.decls h)
      ∙ block_from_moves around returns
      (all_declared marked_by declared_by again_by (w.scope, w.so_far) (length w.bodies.locals) b.decls) b.decls b.body
      w.bodies h

  -- ---- a declaration

  abbrev ended_with : Heading → Option Which → ChecksBlock g.Reported → Walk g.Reported × Begun g.Reported
      → Walk g.Reported
  ended_with h around block b =
      ended_procedure g h.name around b.1 (block (which_of b.1.procedure) b.1.returns b.0)

  pub procedure_checked_moves : (h : Heading) (block : ChecksBlock g.Reported) → BlockMoves block
      → ChecksMove (procedure_checked g elaborates ends h block)
  procedure_checked_moves h block k around seen w =
      let b : Walk g.Reported × Begun g.Reported = begun_procedure g w seen h in
      ap (ended_with h around block) (begun_procedure_moves z g w seen h)
      ∙ (ap (λ (o : Option Which).
      ended_procedure g h.name around (moved_begun z b.1) (block o (moved_returns z b.1.returns) (moved_walk z b.0)))
      (which_of_moves z b.1.procedure)
      ∙ (ap (ended_procedure g h.name around (moved_begun z b.1)) (k (which_of b.1.procedure) b.1.returns b.0)
      ∙ ended_procedure_moves z g h.name around b.1 (block (which_of b.1.procedure) b.1.returns b.0)))

  abbrev PartsMove : Decl-F (Steps g.Reported) (ChecksBlock g.Reported) → Type 0
  PartsMove (layer.Constants cs) = Unit {0}
  PartsMove (layer.Types ts) = Unit {0}
  PartsMove (layer.Variables vs) = Unit {0}
  PartsMove (layer.Procedure h block) = BlockMoves block

  checks_layer_moves : (x : Decl-F (Steps g.Reported) (ChecksBlock g.Reported)) → PartsMove x
      → ChecksMove (checks_layer g elaborates ends x)
  checks_layer_moves (layer.Constants cs) k around seen w = refl
  checks_layer_moves (layer.Types ts) k around seen w = refl
  checks_layer_moves (layer.Variables vs) k around seen w = refl
  checks_layer_moves (layer.Procedure h block) k around seen w = procedure_checked_moves h block k around seen w

  steps_layer_moves : (x : Decl-F (Steps g.Reported) (ChecksBlock g.Reported)) → PartsMove x
      → StepsMove (steps_layer g elaborates ends x)
  steps_layer_moves x k = record {
    marks = λ s. marked_layer_moves z s x;
    declares = λ c. decl_layer_moves z g ends c x;
    again = λ s p. again_layer_moves z g s p x;
    checks = checks_layer_moves x k;
  }

  -- ---- the induction

  abbrev steps_of : Decl → Steps g.Reported
  steps_of d = steps g elaborates ends d

  abbrev block_of : Block → ChecksBlock g.Reported
  block_of b = checks_block g elaborates ends b

  abbrev PD : Decl → Type 0
  PD d = StepsMove (steps_of d)

  abbrev PB : Block → Type 0
  PB b = BlockMoves (block_of b)

  abbrev SD : Type 0
  SD = (d : Decl) × PD d

  abbrev SB : Type 0
  SB = (b : Block) × PB b

  abbrev bare : Decl-F SD SB → Decl-F Decl Block
  bare x = map-Decl SD SB Decl Block (λ e. e.0) (λ e. e.0) x

  abbrev bare_block : Block-F SD SB → Block-F Decl Block
  bare_block x = map-Block SD SB Decl Block (λ e. e.0) (λ e. e.0) x

  abbrev opened : Decl-F Decl Block → Decl-F (Steps g.Reported) (ChecksBlock g.Reported)
  opened x = map-Decl Decl Block (Steps g.Reported) (ChecksBlock g.Reported) steps_of block_of x

  abbrev opened_block : Block-F Decl Block → Block-F (Steps g.Reported) (ChecksBlock g.Reported)
  opened_block x = map-Block Decl Block (Steps g.Reported) (ChecksBlock g.Reported) steps_of block_of x

  at : (d : Decl) (x : Decl-F Decl Block) → out-Decl d ≡ x → steps_of d ≡ steps_layer g elaborates ends (opened x)
  unfolding steps checks_block
  at d x h =
      fold_out-Decl (Steps g.Reported) (ChecksBlock g.Reported) (steps_layer g elaborates ends)
      (block_layer g elaborates ends) d
      ∙ ap (λ (y : Decl-F Decl Block). steps_layer g elaborates ends (opened y)) h

  at_block : (b : Block) (x : Block-F Decl Block) → out-Block b ≡ x
      → block_of b ≡ block_layer g elaborates ends (opened_block x)
  unfolding steps checks_block
  at_block b x h =
      fold_out-Block (Steps g.Reported) (ChecksBlock g.Reported) (steps_layer g elaborates ends)
      (block_layer g elaborates ends) b
      ∙ ap (λ (y : Block-F Decl Block). block_layer g elaborates ends (opened_block y)) h

  parts_move : (y : Decl-F SD SB) → PartsMove (opened (bare y))
  parts_move (layer.Constants cs) = tt
  parts_move (layer.Types ts) = tt
  parts_move (layer.Variables vs) = tt
  parts_move (layer.Procedure h b) = b.1

  all_move : (ys : List SD) → AllMove (map steps_of (map (λ (y : SD). y.0) ys))
  all_move [] = tt
  all_move (y ∷ ys) = (y.1, all_move ys)

  step_decl : (x : Decl-F Decl Block) (y : Decl-F SD SB) → bare y ≡ x → PD (roll-Decl x)
  step_decl x y q =
      subst StepsMove (sym (at (roll-Decl x) (bare y) (out-roll-Decl x ∙ sym q)))
      (steps_layer_moves (opened (bare y)) (parts_move y))

  step_block : (x : Block-F Decl Block) (y : Block-F SD SB) → bare_block y ≡ x → PB (roll-Block x)
  step_block x y q =
      subst BlockMoves (sym (at_block (roll-Block x) (bare_block y) (out-roll-Block x ∙ sym q)))
      (block_layer_moves (opened_block (bare_block y)) (all_move y.decls))

  pub steps_move : (d : Decl) → StepsMove (steps g elaborates ends d)
  steps_move = ind-Decl PD PB step_decl step_block

  pub blocks_move : (b : Block) → BlockMoves (checks_block g elaborates ends b)
  blocks_move = ind-Block PD PB step_decl step_block

  -- ---- the same, of declarations as they are written

  pub checks_decl_moves : (d : Decl) (around : Option Which) (seen : ℕ) (w : Walk g.Reported)
      → checks_decl g elaborates ends d around seen (moved_walk z w)
      ≡ moved_walk z (checks_decl g elaborates ends d around seen w)
  checks_decl_moves d = (steps_move d).checks

  pub bodies_checked_moves : (around : Option Which) (seen : List ℕ) (w : Walk g.Reported) (ds : List Decl)
      → bodies_checked g elaborates ends around seen (moved_walk z w) ds
      ≡ moved_walk z (bodies_checked g elaborates ends around seen w ds)
  bodies_checked_moves around seen w ds =
      with_bodies_moves z (λ (d : Decl). checks_decl g elaborates ends d around) seen
      (λ d. checks_decl_moves d around) w ds
