-- The tests of statements.
use Rattle.std.proofs.Common.{◌≡◌, Bool, true, false, ◌&&◌, List, Some, None, sym, ap, subst, ◌∙◌}
use Rattle.std.specs.Cmp.{first_so, second_so}
use Rattle.std.specs.Cmp.Lexicographic.{pointwise}
use Rattle.std.specs.Option.{option_eq}
use mathlib.Core.List.{map}
use denote.Hole.Carrier.{Values}
use denote.Hole.Compared.{compared, compared_is}
use denote.Enum.Compared.{Each, by}
use Rattle.m2_tree.specs.declared.stmt.Rest.{Rest, Rest-F, out-Rest, roll-Rest, out-roll-Rest, roll-out-Rest}
use Rattle.m2_tree.specs.declared.stmt.Rest.TheFolds.{map-Rest, map-Stmt, map-Arm}
use Rattle.m2_tree.specs.declared.stmt.Rest.TheOpen.{Elsif, Else, Assign, Call, If, Case, While, Repeat, Loop, Exit, Return, For, With}
use Rattle.m2_tree.specs.declared.stmt.Rest.TheBlock.{the_members, the_sigs, the_carrier, the_depth, member-Rest, member-Stmt, member-Arm, split-Rest, join-Rest, join-split-Rest, split-Stmt, join-Stmt, join-split-Stmt}
use Rattle.m2_tree.specs.declared.stmt.Stmt.{Stmt, Stmt-F, out-Stmt, roll-Stmt, out-roll-Stmt, roll-out-Stmt, ind-Stmt}
use Rattle.m2_tree.specs.declared.stmt.Arm.{Arm, Arm-F, out-Arm, roll-Arm, out-roll-Arm, roll-out-Arm}
use Rattle.m2_tree.specs.contracts.stmt.Rest.{the_parts as rest_parts}
use Rattle.m2_tree.specs.contracts.stmt.Stmt.{the_parts}
use Rattle.m2_tree.specs.contracts.stmt.StmtPartialEq.TheImpl.{the_step}
use Rattle.m2_tree.specs.contracts.stmt.StmtPartialEq.TheImpl.Laws.{local}
use Rattle.m2_tree.specs.Sound.{Sound, Fine, variants, list, all, some, none, option, one, two, three, five}
use Rattle.m2_tree.specs.SoundLeaves.{eq_pos, eq_ident, pos, ident}
use Rattle.m2_tree.specs.SoundExpr.{eq_expr, eq_designator, eq_item, expr, designator, item}

abbrev V : the_members → Type 0
V = Values the_members the_sigs the_carrier

abbrev E : (j : the_members) → V j → V j → Bool
E = compared the_members V the_depth Bool true the_step

abbrev eq_rest : Rest → Rest → Bool
eq_rest = E member-Rest

abbrev pub eq_stmt : Stmt → Stmt → Bool
eq_stmt = E member-Stmt

abbrev eq_arm : Arm → Arm → Bool
eq_arm = E member-Arm

abbrev SR : Type 0
SR = (d : Rest) × Sound eq_rest d

abbrev SS : Type 0
SS = (d : Stmt) × Sound eq_stmt d

abbrev SA : Type 0
SA = (d : Arm) × Sound eq_arm d

abbrev stmts : List SS → List Stmt
stmts = map (λ e. e.0)

body_sound : (ss : List SS) → Sound (pointwise eq_stmt) (stmts ss)
body_sound = list eq_stmt (λ e. e.0) (λ e. e.1)

-- ---- what follows the first part of an IF

abbrev LayerR : Type 0
LayerR = Rest-F Rest Stmt Arm

abbrev bareR : Rest-F SR SS SA → LayerR
bareR = map-Rest SR SS SA Rest Stmt Arm (λ e. e.0) (λ e. e.0) (λ e. e.0)

abbrev eachR : Each Bool rest_parts
eachR = (
  λ a b. eq_expr a.0 b.0 && (pointwise eq_stmt a.1.0 b.1.0 && eq_rest a.1.1.0 b.1.1.0),
  (
    λ a b. option_eq (pointwise eq_stmt) a.0 b.0,
    tt,
  ),
)

fineR : (y : Rest-F SR SS SA) → Fine rest_parts eachR (split-Rest V (bareR y))
fineR (Elsif e ss r) =
    three eq_expr (pointwise eq_stmt) eq_rest e (stmts ss) r.0 (expr e) (body_sound ss) r.1
fineR (Else None) = one (option_eq (pointwise eq_stmt)) None (none (pointwise eq_stmt))
fineR (Else (Some ss)) =
    one (option_eq (pointwise eq_stmt)) (Some (stmts ss))
    (some (pointwise eq_stmt) (stmts ss) (body_sound ss))

abbrev testR : LayerR → LayerR → Bool
testR v w = by false false rest_parts eachR (split-Rest V v) (split-Rest V w)

stepR : (x : LayerR) (y : Rest-F SR SS SA) → bareR y ≡ x → Sound eq_rest (roll-Rest x)
stepR x y q e h =
    let c : eq_rest (roll-Rest x) e ≡ testR (out-Rest (roll-Rest x)) (out-Rest e) =
    compared_is the_members V the_depth Bool true the_step local member-Rest (roll-Rest x) e in
    let k : testR x (out-Rest e) ≡ true =
    subst (λ (w : LayerR). testR w (out-Rest e) ≡ true) (out-roll-Rest x) (sym c ∙ h) in
    let f : Fine rest_parts eachR (split-Rest V x) =
    subst (λ (w : LayerR). Fine rest_parts eachR (split-Rest V w)) q (fineR y) in
    let s : split-Rest V x ≡ split-Rest V (out-Rest e) =
    variants rest_parts eachR (split-Rest V x) (split-Rest V (out-Rest e)) f k in
    let j : x ≡ out-Rest e =
    sym (join-split-Rest V x) ∙ (ap (join-Rest V) s ∙ join-split-Rest V (out-Rest e)) in
    ap roll-Rest j ∙ roll-out-Rest e

-- ---- statements

abbrev LayerS : Type 0
LayerS = Stmt-F Rest Stmt Arm

abbrev bareS : Stmt-F SR SS SA → LayerS
bareS = map-Stmt SR SS SA Rest Stmt Arm (λ e. e.0) (λ e. e.0) (λ e. e.0)

abbrev each : Each Bool the_parts
each = (
  λ a b. eq_designator a.0 b.0 && eq_expr a.1.0 b.1.0,
  (
    λ a b. eq_designator a.0 b.0 && option_eq (pointwise eq_expr) a.1.0 b.1.0,
    (
      λ a b. eq_expr a.0 b.0 && (pointwise eq_stmt a.1.0 b.1.0 && eq_rest a.1.1.0 b.1.1.0),
      (
        λ a b.
            eq_expr a.0 b.0 && (pointwise eq_arm a.1.0 b.1.0
            && option_eq (pointwise eq_stmt) a.1.1.0 b.1.1.0),
        (
          λ a b. eq_expr a.0 b.0 && pointwise eq_stmt a.1.0 b.1.0,
          (
            λ a b. pointwise eq_stmt a.0 b.0 && eq_expr a.1.0 b.1.0,
            (
              λ a b. pointwise eq_stmt a.0 b.0,
              (
                λ a b. eq_pos a.0 b.0,
                (
                  λ a b. eq_pos a.0 b.0 && option_eq eq_expr a.1.0 b.1.0,
                  (
                    λ a b.
                        eq_ident a.0 b.0
                        && (eq_expr a.1.0 b.1.0
                        && (eq_expr a.1.1.0 b.1.1.0
                        && (option_eq eq_expr a.1.1.1.0 b.1.1.1.0
                        && pointwise eq_stmt a.1.1.1.1.0 b.1.1.1.1.0))),
                    (
                      λ a b. eq_designator a.0 b.0 && pointwise eq_stmt a.1.0 b.1.0,
                      tt,
                    ),
                  ),
                ),
              ),
            ),
          ),
        ),
      ),
    ),
  ),
)

fineS : (y : Stmt-F SR SS SA) → Fine the_parts each (split-Stmt V (bareS y))
fineS (Assign d e) = two eq_designator eq_expr d e (designator d) (expr e)
fineS (Call d o) =
    two eq_designator (option_eq (pointwise eq_expr)) d o (designator d)
    (option (pointwise eq_expr) (all eq_expr expr) o)
fineS (If e ss r) =
    three eq_expr (pointwise eq_stmt) eq_rest e (stmts ss) r.0 (expr e) (body_sound ss) r.1
fineS (Case e arms None) =
    three eq_expr (pointwise eq_arm) (option_eq (pointwise eq_stmt)) e (map (λ e. e.0) arms) None
    (expr e) (list eq_arm (λ e. e.0) (λ e. e.1) arms) (none (pointwise eq_stmt))
fineS (Case e arms (Some ss)) =
    three eq_expr (pointwise eq_arm) (option_eq (pointwise eq_stmt)) e (map (λ e. e.0) arms)
    (Some (stmts ss)) (expr e) (list eq_arm (λ e. e.0) (λ e. e.1) arms)
    (some (pointwise eq_stmt) (stmts ss) (body_sound ss))
fineS (While e ss) = two eq_expr (pointwise eq_stmt) e (stmts ss) (expr e) (body_sound ss)
fineS (Repeat ss e) = two (pointwise eq_stmt) eq_expr (stmts ss) e (body_sound ss) (expr e)
fineS (Loop ss) = one (pointwise eq_stmt) (stmts ss) (body_sound ss)
fineS (Exit p) = one eq_pos p (pos p)
fineS (Return p o) = two eq_pos (option_eq eq_expr) p o (pos p) (option eq_expr expr o)
fineS (For n e f o ss) =
    five eq_ident eq_expr eq_expr (option_eq eq_expr) (pointwise eq_stmt) n e f o (stmts ss)
    (ident n) (expr e) (expr f) (option eq_expr expr o) (body_sound ss)
fineS (With d ss) =
    two eq_designator (pointwise eq_stmt) d (stmts ss) (designator d) (body_sound ss)

abbrev testS : LayerS → LayerS → Bool
testS v w = by false false the_parts each (split-Stmt V v) (split-Stmt V w)

stepS : (x : LayerS) (y : Stmt-F SR SS SA) → bareS y ≡ x → Sound eq_stmt (roll-Stmt x)
stepS x y q e h =
    let c : eq_stmt (roll-Stmt x) e ≡ testS (out-Stmt (roll-Stmt x)) (out-Stmt e) =
    compared_is the_members V the_depth Bool true the_step local member-Stmt (roll-Stmt x) e in
    let k : testS x (out-Stmt e) ≡ true =
    subst (λ (w : LayerS). testS w (out-Stmt e) ≡ true) (out-roll-Stmt x) (sym c ∙ h) in
    let f : Fine the_parts each (split-Stmt V x) =
    subst (λ (w : LayerS). Fine the_parts each (split-Stmt V w)) q (fineS y) in
    let s : split-Stmt V x ≡ split-Stmt V (out-Stmt e) =
    variants the_parts each (split-Stmt V x) (split-Stmt V (out-Stmt e)) f k in
    let j : x ≡ out-Stmt e =
    sym (join-split-Stmt V x) ∙ (ap (join-Stmt V) s ∙ join-split-Stmt V (out-Stmt e)) in
    ap roll-Stmt j ∙ roll-out-Stmt e

-- ---- arms of a CASE

abbrev LayerA : Type 0
LayerA = Arm-F Rest Stmt Arm

abbrev bareA : Arm-F SR SS SA → LayerA
bareA = map-Arm SR SS SA Rest Stmt Arm (λ e. e.0) (λ e. e.0) (λ e. e.0)

abbrev testA : LayerA → LayerA → Bool
testA v w = pointwise eq_item v.labels w.labels && pointwise eq_stmt v.body w.body

stepA : (x : LayerA) (y : Arm-F SR SS SA) → bareA y ≡ x → Sound eq_arm (roll-Arm x)
stepA x y q e h =
    let o = out-Arm e in
    let c : eq_arm (roll-Arm x) e ≡ testA (out-Arm (roll-Arm x)) o =
    compared_is the_members V the_depth Bool true the_step local member-Arm (roll-Arm x) e in
    let k : testA (bareA y) o ≡ true =
    subst (λ (w : LayerA). testA w o ≡ true) (out-roll-Arm x ∙ sym q) (sym c ∙ h) in
    let l = pointwise eq_item y.labels o.labels in
    let b = pointwise eq_stmt (stmts y.body) o.body in
    let m : y.labels ≡ o.labels = all eq_item item y.labels o.labels (first_so l b k) in
    let s : stmts y.body ≡ o.body = body_sound y.body o.body (second_so l b k) in
    let j : bareA y ≡ o = λ i. record { labels = m i; body = s i } in
    ap roll-Arm (sym q ∙ j) ∙ roll-out-Arm e

pub stmt : (d : Stmt) → Sound eq_stmt d
stmt = ind-Stmt (Sound eq_rest) (Sound eq_stmt) (Sound eq_arm) stepR stepS stepA
