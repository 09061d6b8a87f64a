-- A statement with other numbers, folded: if each layer may be moved, the whole may.
use Rattle.std.proofs.Common.{◌≡◌, List, Some, None, refl, sym, ap, ◌∙◌}
use Rattle.typed_tree.specs.declared.statement.TypedArm.{TypedArm, TypedArm-F, roll-TypedArm, map-TypedArm, fold-roll-TypedArm, fold-TypedArm, ind-TypedArm}
use Rattle.typed_tree.specs.declared.statement.TypedStmt.{TypedStmt, TypedStmt-F, roll-TypedStmt, map-TypedStmt, fold-roll-TypedStmt, fold-TypedStmt, ind-TypedStmt}
use Rattle.typed_tree.specs.declared.statement.TypedStmt.TheOpen as step
use Rattle.typed_tree.specs.declared.statement.Label.{Label}
use Rattle.def_exchange.specs.Moved.{Exchange, moved_type}
use Rattle.def_exchange.specs.MovedTrees.{moved_place, moved_expr, stmt_moved, arm_moved, moved_stmt, moved_arm}
use Rattle.law_exchange_code.proofs.Rolled.{rolled_stmt, rolled_arm}
use Rattle.law_exchange_code.proofs.Lists.{two_paths, mapped_twice, listed}

-- one function for each layer
pub record StmtLayers (S R : Type 0) : Type 0 where
  pub stmt : TypedStmt-F S R → S
  pub arm : TypedArm-F S R → R

abbrev pub folded_stmt : {S R : Type 0} → StmtLayers S R → TypedStmt → S
folded_stmt {S} {R} l = fold-TypedStmt S R l.stmt l.arm

abbrev pub folded_arm : {S R : Type 0} → StmtLayers S R → TypedArm → R
folded_arm {S} {R} l = fold-TypedArm S R l.stmt l.arm

abbrev armed : {S R : Type 0} → List Label → List S → TypedArm-F S R
armed ls body = record { labels = ls; body = body }

module _ (x : Exchange) {S R S' R' S'' R'' : Type 0} (fs : S → S') (fr : R → R') (gs : S' → S'') (gr : R' → R'') where
  natural_stmt : (y : TypedStmt-F S R)
      → map-TypedStmt S' R' S'' R'' gs gr (stmt_moved x (map-TypedStmt S R S' R' fs fr y))
      ≡ stmt_moved x (map-TypedStmt S R S'' R'' (λ z. gs (fs z)) (λ z. gr (fr z)) y)
  natural_stmt (step.Assign d t e) = refl
  natural_stmt (step.Copy to from t) = refl
  natural_stmt (step.CopyText d t text) = refl
  natural_stmt (step.Call c) = refl
  natural_stmt (step.Put e) = refl
  natural_stmt (step.Change o d t e) = refl
  natural_stmt (step.Membership o d e) = refl
  natural_stmt step.Halt = refl
  natural_stmt (step.If e body None) = ap (λ zs. step.If (moved_expr x e) zs None) (mapped_twice gs fs body)
  natural_stmt (step.If e body (Some ys)) =
      two_paths (λ zs os. step.If (moved_expr x e) zs (Some os)) (mapped_twice gs fs body) (mapped_twice gs fs ys)
  natural_stmt (step.Case e arms None) = ap (λ zs. step.Case (moved_expr x e) zs None) (mapped_twice gr fr arms)
  natural_stmt (step.Case e arms (Some ys)) =
      two_paths (λ zs os. step.Case (moved_expr x e) zs (Some os)) (mapped_twice gr fr arms) (mapped_twice gs fs ys)
  natural_stmt (step.While e body) = ap (λ zs. step.While (moved_expr x e) zs) (mapped_twice gs fs body)
  natural_stmt (step.Repeat body e) = ap (λ zs. step.Repeat zs (moved_expr x e)) (mapped_twice gs fs body)
  natural_stmt (step.Loop body) = ap (λ zs. step.Loop zs) (mapped_twice gs fs body)
  natural_stmt step.Exit = refl
  natural_stmt step.Return = refl
  natural_stmt (step.Give t e) = refl
  natural_stmt (step.For d t start limit by body) =
      ap (λ zs. step.For (moved_place x d) (moved_type x t) (moved_expr x start) (moved_expr x limit) by zs)
      (mapped_twice gs fs body)
  natural_stmt (step.With d body) = ap (λ zs. step.With (moved_place x d) zs) (mapped_twice gs fs body)

  natural_arm : (y : TypedArm-F S R)
      → map-TypedArm S' R' S'' R'' gs gr (arm_moved x (map-TypedArm S R S' R' fs fr y))
      ≡ arm_moved x (map-TypedArm S R S'' R'' (λ z. gs (fs z)) (λ z. gr (fr z)) y)
  natural_arm y = ap (armed y.labels) (mapped_twice gs fs y.body)

module _ {S R S' R' : Type 0} (ms : TypedStmt → S) (mr : TypedArm → R) (fs : TypedStmt → S') (fr : TypedArm → R')
    (hs : S → S') (hr : R → R') where
  abbrev GS : Type 0
  GS = (e : TypedStmt) × (fs e ≡ hs (ms e))

  abbrev GR : Type 0
  GR = (e : TypedArm) × (fr e ≡ hr (mr e))

  abbrev bare_stmt : TypedStmt-F GS GR → TypedStmt-F TypedStmt TypedArm
  bare_stmt y = map-TypedStmt GS GR TypedStmt TypedArm (λ e. e.0) (λ e. e.0) y

  abbrev bare_arm : TypedArm-F GS GR → TypedArm-F TypedStmt TypedArm
  bare_arm y = map-TypedArm GS GR TypedStmt TypedArm (λ e. e.0) (λ e. e.0) y

  gathered_stmt : (y : TypedStmt-F GS GR)
      → map-TypedStmt TypedStmt TypedArm S' R' fs fr (bare_stmt y)
      ≡ map-TypedStmt S R S' R' hs hr (map-TypedStmt TypedStmt TypedArm S R ms mr (bare_stmt y))
  gathered_stmt (step.Assign d t e) = refl
  gathered_stmt (step.Copy to from t) = refl
  gathered_stmt (step.CopyText d t text) = refl
  gathered_stmt (step.Call c) = refl
  gathered_stmt (step.Put e) = refl
  gathered_stmt (step.Change o d t e) = refl
  gathered_stmt (step.Membership o d e) = refl
  gathered_stmt step.Halt = refl
  gathered_stmt (step.If e body None) = ap (λ zs. step.If e zs None) (listed fs ms hs body)
  gathered_stmt (step.If e body (Some ys)) =
      two_paths (λ zs os. step.If e zs (Some os)) (listed fs ms hs body) (listed fs ms hs ys)
  gathered_stmt (step.Case e arms None) = ap (λ zs. step.Case e zs None) (listed fr mr hr arms)
  gathered_stmt (step.Case e arms (Some ys)) =
      two_paths (λ zs os. step.Case e zs (Some os)) (listed fr mr hr arms) (listed fs ms hs ys)
  gathered_stmt (step.While e body) = ap (λ zs. step.While e zs) (listed fs ms hs body)
  gathered_stmt (step.Repeat body e) = ap (λ zs. step.Repeat zs e) (listed fs ms hs body)
  gathered_stmt (step.Loop body) = ap (λ zs. step.Loop zs) (listed fs ms hs body)
  gathered_stmt step.Exit = refl
  gathered_stmt step.Return = refl
  gathered_stmt (step.Give t e) = refl
  gathered_stmt (step.For d t start limit by body) = ap (λ zs. step.For d t start limit by zs) (listed fs ms hs body)
  gathered_stmt (step.With d body) = ap (λ zs. step.With d zs) (listed fs ms hs body)

  gathered_arm : (y : TypedArm-F GS GR)
      → map-TypedArm TypedStmt TypedArm S' R' fs fr (bare_arm y)
      ≡ map-TypedArm S R S' R' hs hr (map-TypedArm TypedStmt TypedArm S R ms mr (bare_arm y))
  gathered_arm y = ap (armed y.labels) (listed fs ms hs y.body)

pub record StmtPasses (x : Exchange) {S R S' R' : Type 0} (a : StmtLayers S R) (b : StmtLayers S' R') : Type 0 where
  pub hs : S → S'
  pub hr : R → R'
  pub stmt : (y : TypedStmt-F S R) → b.stmt (map-TypedStmt S R S' R' hs hr y) ≡ hs (a.stmt (stmt_moved x y))
  pub arm : (y : TypedArm-F S R) → b.arm (map-TypedArm S R S' R' hs hr y) ≡ hr (a.arm (arm_moved x y))

module _ (x : Exchange) {S R S' R' : Type 0} (a : StmtLayers S R) (b : StmtLayers S' R') (p : StmtPasses x a b) where
  abbrev through_stmt : TypedStmt → S
  through_stmt e = folded_stmt a (moved_stmt x e)

  abbrev through_arm : TypedArm → R
  through_arm e = folded_arm a (moved_arm x e)

  at_stmt : (y : TypedStmt-F TypedStmt TypedArm)
      → through_stmt (roll-TypedStmt y) ≡ a.stmt
      (stmt_moved x (map-TypedStmt TypedStmt TypedArm S R through_stmt through_arm y))
  at_stmt y =
      ap (folded_stmt a) (rolled_stmt x y)
      ∙ fold-roll-TypedStmt S R a.stmt a.arm
      (stmt_moved x (map-TypedStmt TypedStmt TypedArm TypedStmt TypedArm (moved_stmt x) (moved_arm x) y))
      ∙ ap a.stmt (natural_stmt x (moved_stmt x) (moved_arm x) (folded_stmt a) (folded_arm a) y)

  at_arm : (y : TypedArm-F TypedStmt TypedArm)
      → through_arm (roll-TypedArm y) ≡ a.arm
      (arm_moved x (map-TypedArm TypedStmt TypedArm S R through_stmt through_arm y))
  at_arm y =
      ap (folded_arm a) (rolled_arm x y)
      ∙ fold-roll-TypedArm S R a.stmt a.arm (arm_moved x
      (map-TypedArm TypedStmt TypedArm TypedStmt TypedArm (moved_stmt x) (moved_arm x) y))
      ∙ ap a.arm (natural_arm x (moved_stmt x) (moved_arm x) (folded_stmt a) (folded_arm a) y)

  abbrev PS : TypedStmt → Type 0
  PS e = folded_stmt b e ≡ p.hs (through_stmt e)

  abbrev PR : TypedArm → Type 0
  PR e = folded_arm b e ≡ p.hr (through_arm e)

  abbrev TS : Type 0
  TS = (e : TypedStmt) × PS e

  abbrev TR : Type 0
  TR = (e : TypedArm) × PR e

  step_stmt : (z : TypedStmt-F TypedStmt TypedArm) (y : TypedStmt-F TS TR)
      → map-TypedStmt TS TR TypedStmt TypedArm (λ e. e.0) (λ e. e.0) y ≡ z → PS (roll-TypedStmt z)
  step_stmt z y q =
      fold-roll-TypedStmt S' R' b.stmt b.arm z
      ∙ ap (λ (w : TypedStmt-F TypedStmt TypedArm). b.stmt
      (map-TypedStmt TypedStmt TypedArm S' R' (folded_stmt b) (folded_arm b) w)) (sym q)
      ∙ ap b.stmt (gathered_stmt through_stmt through_arm (folded_stmt b) (folded_arm b) p.hs p.hr y)
      ∙ p.stmt (map-TypedStmt TypedStmt TypedArm S R through_stmt through_arm
      (map-TypedStmt TS TR TypedStmt TypedArm (λ e. e.0) (λ e. e.0) y))
      ∙ ap (λ (w : TypedStmt-F TypedStmt TypedArm). p.hs
      (a.stmt (stmt_moved x (map-TypedStmt TypedStmt TypedArm S R through_stmt through_arm w)))) q
      ∙ sym (ap p.hs (at_stmt z))

  step_arm : (z : TypedArm-F TypedStmt TypedArm) (y : TypedArm-F TS TR)
      → map-TypedArm TS TR TypedStmt TypedArm (λ e. e.0) (λ e. e.0) y ≡ z → PR (roll-TypedArm z)
  step_arm z y q =
      fold-roll-TypedArm S' R' b.stmt b.arm z
      ∙ ap (λ (w : TypedArm-F TypedStmt TypedArm). b.arm
      (map-TypedArm TypedStmt TypedArm S' R' (folded_stmt b) (folded_arm b) w)) (sym q)
      ∙ ap b.arm (gathered_arm through_stmt through_arm (folded_stmt b) (folded_arm b) p.hs p.hr y)
      ∙ p.arm (map-TypedArm TypedStmt TypedArm S R through_stmt through_arm
      (map-TypedArm TS TR TypedStmt TypedArm (λ e. e.0) (λ e. e.0) y))
      ∙ ap (λ (w : TypedArm-F TypedStmt TypedArm). p.hr
      (a.arm (arm_moved x (map-TypedArm TypedStmt TypedArm S R through_stmt through_arm w)))) q
      ∙ sym (ap p.hr (at_arm z))

  pub passed_stmt : (e : TypedStmt) → PS e
  passed_stmt = ind-TypedStmt PS PR step_stmt step_arm

  pub passed_arm : (e : TypedArm) → PR e
  passed_arm = ind-TypedArm PS PR step_stmt step_arm
