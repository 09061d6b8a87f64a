-- Statements with a bound and with a greater one.
use Rattle.std.proofs.Common.{◌≡◌, ℕ, ◌≤◌, ℤ, Bool, true, false, List, [], ◌∷◌, ◌++◌, map, Some, None, sym, ap, ◌∙◌}
use Rattle.std.specs.Prelude.{pos, unsigned_abs, if◌then◌else◌}
use Rattle.std.specs.List.{list_any}
use Rattle.typed_tree.specs.declared.computed.Place.{Place}
use Rattle.typed_tree.specs.declared.computed.TypedExpr.{TypedExpr}
use Rattle.typed_tree.specs.declared.statement.Label.{Label}
use Rattle.typed_tree.specs.declared.statement.TypedStmt.{TypedStmt, TypedStmt-F, out-TypedStmt, roll-TypedStmt, out-roll-TypedStmt, map-TypedStmt, fold_out-TypedStmt, ind-TypedStmt}
use Rattle.typed_tree.specs.declared.statement.TypedStmt.TheOpen as step
use Rattle.typed_tree.specs.declared.statement.TypedArm.{TypedArm, TypedArm-F, out-TypedArm, roll-TypedArm, out-roll-TypedArm, map-TypedArm, fold_out-TypedArm, fold-TypedArm}
use Rattle.typed_tree.specs.declared.types.TypeNo.{TypeNo}
use Rattle.typed_tree.specs.declared.known_types.Types.{Types}
use Rattle.typed_tree.specs.Types.{char}
use Rattle.typed_tree.specs.Known.{scalar_at}
use Rattle.def_meaning.specs.Answer.{State, range_fault, case_fault, halt_status, Ended, Value}
use Rattle.def_meaning.specs.Outcome.{Exited, Returned}
use Rattle.def_meaning.specs.Operators.{is_true}
use Rattle.def_meaning.specs.Environment.{Modules, Environment}
use Rattle.def_meaning.specs.Expressions.{Asks, as_type, value, locate}
use Rattle.def_meaning.specs.Statements.{Does, in_turn, store_number, is_labelled, or_else, Arm, choose_arm, base_of, change_by, recheck_value, arm_layer}
use Rattle.def_meaning.specs.Whiles.{Whiles, step_with, does_with}
use Rattle.def_meaning.proofs.After.{begins, begins_more, Later, then_later, After, same, with_later, go_later, if_after, went}
use Rattle.def_meaning.proofs.Evaluated.{AsksLater, Pairwise, none, more, pairwise_maps, carry, within_later, type_later, base_later, value_later, locate_later, called_later}
use Rattle.def_meaning.proofs.Turns.{looped_later, until_later, for_later, WhilesLater}

pub record DoesLater (d d' : Does) : Type 0 where
  pub at : (a : Environment) (st : State) → After st.out (d a st) (d' a st)

pub data ArmLater : Arm → Arm → Type 0 where
  arm : (labels : List Label) {d d' : Does} → DoesLater d d'
      → ArmLater (record { labels = labels; does = d }) (record { labels = labels; does = d' })

pub turn_later : {ds ds' : List Does} → Pairwise DoesLater ds ds' → (a : Environment) (st : State)
    → After st.out (in_turn ds a st) (in_turn ds' a st)
turn_later none a st = went st
turn_later (more d ds) a st = go_later (turn_later ds a) (d.at a st)

pub turns_later : {ds ds' : List Does} → Pairwise DoesLater ds ds' → DoesLater (in_turn ds) (in_turn ds')
turns_later ds = record { at = turn_later ds }

nothing_else : DoesLater (or_else None) (or_else None)
nothing_else = record { at = λ a st. same (Ended case_fault st.out) (begins st.out) }

if_does : {d d' e e' : Does} (b : Bool) → DoesLater d e → DoesLater d' e'
    → DoesLater (if b then d else d') (if b then e else e')
if_does true h k = h
if_does false h k = k

chosen_later : {xs ys : List Arm} {d d' : Does} (v : ℤ) → Pairwise ArmLater xs ys → DoesLater d d'
    → DoesLater (choose_arm v xs d) (choose_arm v ys d')
chosen_later v none h = h
chosen_later v (more (arm labels k) xs) h = if_does (list_any (is_labelled v) labels) k (chosen_later v xs h)

rechecked_later : (types : Types) (t : TypeNo) (v : ℤ) (st : State)
    → Later st.out (recheck_value types t v st) (recheck_value types t v st)
rechecked_later types t v st = then_later (type_later types t) (base_later types (base_of t (scalar_at types t)) v st)

-- ---- one layer at a time

module _ (w : Whiles) (p : Modules) (ask : Asks) (n : ℕ) where
  unfoldable armed : TypedArm → Arm
  armed = fold-TypedArm Does Arm (step_with w p ask n) (arm_layer p ask n)

  abbrev opened : TypedStmt-F TypedStmt TypedArm → TypedStmt-F Does Arm
  opened x = map-TypedStmt TypedStmt TypedArm Does Arm (does_with w p ask n) armed x

  abbrev opened_arm : TypedArm-F TypedStmt TypedArm → TypedArm-F Does Arm
  opened_arm x = map-TypedArm TypedStmt TypedArm Does Arm (does_with w p ask n) armed x

  at_stmt : (e : TypedStmt) (x : TypedStmt-F TypedStmt TypedArm) → out-TypedStmt e ≡ x
      → does_with w p ask n e ≡ step_with w p ask n (opened x)
  unfolding does_with armed
  at_stmt e x h = fold_out-TypedStmt Does Arm (step_with w p ask n) (arm_layer p ask n) e
      ∙ ap (λ (y : TypedStmt-F TypedStmt TypedArm). step_with w p ask n (opened y)) h

  at_arm : (e : TypedArm) (x : TypedArm-F TypedStmt TypedArm) → out-TypedArm e ≡ x
      → armed e ≡ arm_layer p ask n (opened_arm x)
  unfolding does_with armed
  at_arm e x h = fold_out-TypedArm Does Arm (step_with w p ask n) (arm_layer p ask n) e
      ∙ ap (λ (y : TypedArm-F TypedStmt TypedArm). arm_layer p ask n (opened_arm y)) h

module _ (w w' : Whiles) (p : Modules) (ask ask' : Asks) (k : AsksLater ask ask') (n m : ℕ) (q : n ≤ m)
    (whiles : WhilesLater w w' n m) where
  value_at : (e : TypedExpr) (a : Environment) (st : State) → Later st.out (value p ask e a st) (value p ask' e a st)
  value_at e a st = (value_later p ask ask' k e).at a st

  place_at : (d : Place) (a : Environment) (st : State) → Later st.out (locate p ask d a st) (locate p ask' d a st)
  place_at d a st = (locate_later p ask ask' k d).at a st

  abbrev DS : TypedStmt → Type 0
  DS s = DoesLater (does_with w p ask n s) (does_with w' p ask' m s)

  abbrev DA : TypedArm → Type 0
  DA x = ArmLater (armed w p ask n x) (armed w' p ask' m x)

  abbrev SS : Type 0
  SS = (s : TypedStmt) × DS s

  abbrev SA : Type 0
  SA = (x : TypedArm) × DA x

  abbrev bare : TypedStmt-F SS SA → TypedStmt-F TypedStmt TypedArm
  bare x = map-TypedStmt SS SA TypedStmt TypedArm (λ s. s.0) (λ s. s.0) x

  abbrev bare_arm : TypedArm-F SS SA → TypedArm-F TypedStmt TypedArm
  bare_arm x = map-TypedArm SS SA TypedStmt TypedArm (λ s. s.0) (λ s. s.0) x

  all : (xs : List SS) → Pairwise DoesLater (map (does_with w p ask n) (map (λ s. s.0) xs))
      (map (does_with w' p ask' m) (map (λ s. s.0) xs))
  all xs = pairwise_maps {X = SS} {Y = TypedStmt} DoesLater (λ s. s.0) (does_with w p ask n) (does_with w' p ask' m)
      (λ s. s.1) xs

  body : (xs : List SS) (a : Environment) (st : State)
      → After st.out (in_turn (map (does_with w p ask n) (map (λ s. s.0) xs)) a st)
      (in_turn (map (does_with w' p ask' m) (map (λ s. s.0) xs)) a st)
  body xs = turn_later (all xs)

  arms : (xs : List SA) → Pairwise ArmLater (map (armed w p ask n) (map (λ s. s.0) xs))
      (map (armed w' p ask' m) (map (λ s. s.0) xs))
  arms xs = pairwise_maps {X = SA} {Y = TypedArm} ArmLater (λ s. s.0) (armed w p ask n) (armed w' p ask' m) (λ s. s.1)
      xs

  stmt_later : (y : TypedStmt-F SS SA) → DoesLater (step_with w p ask n (opened w p ask n (bare y)))
      (step_with w' p ask' m (opened w' p ask' m (bare y)))
  stmt_later (step.Assign d t e) = record {
    at =
        λ a st. with_later (λ l st. with_later
        (λ v st. with_later (λ v st. went (store_number l v st)) (type_later a.types t v st)) (value_at e a st))
        (place_at d a st);
  }
  stmt_later (step.Copy to from t) = record {
    at =
        λ a st. with_later (λ l st. with_later (λ l' st. went _) (place_at from a st)) (place_at to a st);
  }
  stmt_later (step.CopyText d t text) = record { at = λ a st. with_later (λ l st. went _) (place_at d a st) }
  stmt_later (step.Call c) = record {
    at =
        λ a st. with_later (λ v st. went st) ((called_later p ask ask' k c).at a st);
  }
  stmt_later (step.Put e) = record {
    at =
        λ a st. with_later (λ v st. with_later (λ v st. same _ (begins_more st.out (unsigned_abs v ∷ [])))
        (type_later a.types char v st)) (value_at e a st);
  }
  stmt_later (step.Change o d t e) = record {
    at =
        λ a st. with_later (λ l st. with_later
        (λ by st. with_later (λ v st. went (store_number l v st))
        (rechecked_later a.types t (change_by o (st.store l) by) st)) (value_at e a st)) (place_at d a st);
  }
  stmt_later (step.Membership o d e) = record {
    at =
        λ a st. with_later (λ l st. with_later
        (λ x st. with_later (λ x st. went _) (within_later (pos 0) (pos 31) range_fault x st)) (value_at e a st))
        (place_at d a st);
  }
  stmt_later step.Halt = record { at = λ a st. same (Ended halt_status st.out) (begins st.out) }
  stmt_later (step.If e xs None) = record {
    at =
        λ a st. with_later (λ v st. if_after (is_true v) (body xs a st) (went st)) (value_at e a st);
  }
  stmt_later (step.If e xs (Some ys)) = record {
    at =
        λ a st. with_later (λ v st. if_after (is_true v) (body xs a st) (body ys a st)) (value_at e a st);
  }
  stmt_later (step.Case e xs None) = record {
    at =
        λ a st. with_later (λ v st. (chosen_later v (arms xs) nothing_else).at a st) (value_at e a st);
  }
  stmt_later (step.Case e xs (Some ys)) =
      record {
        at = λ a st. with_later (λ v st. (chosen_later v (arms xs) (turns_later (all ys))).at a st)
            (value_at e a st);
      }
  stmt_later (step.While e xs) = record { at = λ a st. whiles.at (value_at e a) (body xs a) st }
  stmt_later (step.Repeat xs e) = record { at = λ a st. until_later (value_at e a) (body xs a) n m q st }
  stmt_later (step.Loop xs) = record { at = λ a st. looped_later (body xs a) n m q st }
  stmt_later step.Exit = record { at = λ a st. same (Value Exited st) (begins st.out) }
  stmt_later step.Return = record { at = λ a st. same (Value (Returned (pos 0)) st) (begins st.out) }
  stmt_later (step.Give t e) = record {
    at =
        λ a st. with_later (λ v st. with_later (λ v st. same (Value (Returned v) st) (begins st.out))
        (type_later a.types t v st)) (value_at e a st);
  }
  stmt_later (step.For d t start limit by xs) = record {
    at = λ a st.
        with_later (λ l st. with_later (λ v st. with_later (λ v st. with_later (λ last st.
        for_later (as_type a.types t) (type_later a.types t) l by last (body xs a) n m q (store_number l v st))
        (value_at limit a st)) (type_later a.types t v st)) (value_at start a st)) (place_at d a st);
  }
  stmt_later (step.With d xs) = record {
    at =
        λ a st. with_later (λ l st. body xs (record a { withs = a.withs ++ l ∷ [] }) st) (place_at d a st);
  }

  arm_later : (y : TypedArm-F SS SA) → ArmLater (arm_layer p ask n (opened_arm w p ask n (bare_arm y)))
      (arm_layer p ask' m (opened_arm w' p ask' m (bare_arm y)))
  arm_later y = arm y.labels (turns_later (all y.body))

  step_stmt : (x : TypedStmt-F TypedStmt TypedArm) (y : TypedStmt-F SS SA) → bare y ≡ x → DS (roll-TypedStmt x)
  step_stmt x y r = carry DoesLater (at_stmt w p ask n (roll-TypedStmt x) (bare y) (out-roll-TypedStmt x ∙ sym r))
      (at_stmt w' p ask' m (roll-TypedStmt x) (bare y) (out-roll-TypedStmt x ∙ sym r)) (stmt_later y)

  step_arm : (x : TypedArm-F TypedStmt TypedArm) (y : TypedArm-F SS SA) → bare_arm y ≡ x → DA (roll-TypedArm x)
  step_arm x y r = carry ArmLater (at_arm w p ask n (roll-TypedArm x) (bare_arm y) (out-roll-TypedArm x ∙ sym r))
      (at_arm w' p ask' m (roll-TypedArm x) (bare_arm y) (out-roll-TypedArm x ∙ sym r)) (arm_later y)

  pub does_later : (s : TypedStmt) → DoesLater (does_with w p ask n s) (does_with w' p ask' m s)
  does_later = ind-TypedStmt DS DA step_stmt step_arm
