-- Statements answer exactly.
use Rattle.std.proofs.Common.{◌≡◌, ℕ, Bool, List, [], ◌∷◌, ◌++◌, Option, Some, None, Result, Ok, ◌⊎◌, inl, inr, refl, sym, ap, subst, ◌∙◌}
use Rattle.std.specs.Prelude.{map}
use Rattle.std.specs.List.{fold}
use Rattle.m2_rule.specs.declared.breach.Breach.{Breach}
use Rattle.m2_tree.specs.declared.pos.Pos.{Pos}
use Rattle.m2_tree.specs.declared.name.Ident.{Ident}
use Rattle.m2_tree.specs.declared.expr.Expr.{Expr}
use Rattle.m2_tree.specs.declared.expr.Expr.TheOpen as expr_layer
use Rattle.m2_tree.specs.declared.expr.Designator.{Designator, out-Designator}
use Rattle.m2_tree.specs.declared.stmt.Stmt.{Stmt, Stmt-F, out-Stmt, map-Stmt, fold_out-Stmt}
use Rattle.m2_tree.specs.declared.stmt.Rest.{Rest, Rest-F, out-Rest, map-Rest, fold_out-Rest}
use Rattle.m2_tree.specs.declared.stmt.Rest.TheOpen as layer
use Rattle.m2_tree.specs.declared.stmt.Arm.{Arm, out-Arm}
use Rattle.typed_tree.specs.declared.types.TypeNo.{TypeNo}
use Rattle.typed_tree.specs.declared.computed.TypedExpr.{TypedExpr}
use Rattle.typed_tree.specs.declared.statement.TypedStmt.{TypedStmt}
use Rattle.typed_tree.specs.declared.statement.TypedStmt.TheVariants as typed
use Rattle.check_scope.specs.declared.scope.Scope.{Scope}
use Rattle.check_scope.specs.Elaborated.{Gathers, report, reported_where, of_sort, ahead, ◌▷◌}
use Rattle.check_expr.specs.Meanings.{meanings_of, head}
use Rattle.check_stmt_parts.specs.declared.around.Around.{Around}
use Rattle.check_stmt_parts.specs.declared.control.Course.{Course}
use Rattle.check_stmt_parts.specs.Lists.{within, reported_in}
use Rattle.check_stmt_parts.specs.Simple.{in_loop, exit_statement, condition, record_by, record_of, opened_type, into_record, opened_if}
use Rattle.check_stmt.specs.Statements.{Elaborates, ElaboratesRest, ElaboratesArm, with_stmt, all_of, stmt_layer, rest_layer, arm_layer, stmt, rest, arm}
use Rattle.typed_tree.specs.declared.known_types.Types.{Types}
use Rattle.typed_tree.specs.declared.computed.Place.{Place}
use Rattle.typed_tree.specs.declared.shape.Shape.{Shape}
use Rattle.typed_tree.specs.declared.shape.Shape.TheVariants as shape
use Rattle.std.specs.Option.{is_some}
use Rattle.std.specs.Prelude.{not}
use Rattle.m2_rule.specs.declared.rule.Rule.TheVariants as rule
use Rattle.check_scope.specs.declared.meaningless.Meaningless.{Meaningless}
use Rattle.check_value.specs.declared.computed.Designated.{Designated}
use Rattle.def_typing.specs.Shapes.{shape_at, IsMade}
use Rattle.def_typing.specs.Operators.{◌!◌}
use Rattle.def_typing.specs.Expressions.{Denotes}
use Rattle.def_typing.specs.Fields.{LeadsToRecord, leads}
use Rattle.def_typing.specs.Things.{Thing, AVariable, Standing}
use Rattle.def_typing.specs.Parts.{Among, here, later}
use Rattle.def_typing.specs.Assignments.{BrokenDesignator, at_designator, in_designator, Assigns, BrokenAssignment, IsCondition, BrokenCondition}
use Rattle.def_typing.specs.Actions.{IsAction, BrokenAction}
use Rattle.def_typing.specs.Returns.{IsExit, BrokenExit, Returns, BrokenReturn}
use Rattle.def_typing.specs.Loops.{Runs, BrokenRun}
use Rattle.def_typing.specs.Statements as rules
use Rattle.def_typing.specs.Statements.{arguments, labels_of, Spot, inside_loop, Obeys, as_written, IsRight, assignment, call, choice, while_loop, repeat_loop, bare_loop, exit, return, for_loop, with_record, inside_with, AllObey, no_more, one_more, RestObeys, rest_as_written, RestIsRight, elsif, no_else, an_else, Broken, broken_as_written, Breaks, RestBroken, rest_broken, RestBreaks}
use Rattle.law_typing.specs.Judging.{Judges, Answers, means, refuses}
use Rattle.law_typing.specs.Exact.{RepeatsResult, KnowsSpot, IsThing, thing_value, thing_variable, thing_open, thing_type, thing_procedure, thing_nested, thing_standard, thing_module}
use Rattle.law_typing.proofs.Trees.{statement_tree, IsStmtTree, tree_assignment, tree_action, tree_if, tree_case, tree_while, tree_repeat, tree_loop, tree_exit, tree_return, tree_for, tree_with, AreStmtTrees, no_statement, one_statement, IsRestTree, tree_elsif, tree_end, IsElseTree, tree_no_else, tree_else, AreArmTrees, no_arm_tree, one_arm_tree}
use Rattle.law_typing.proofs.Combining.{Lawful, declined, Checks, passes, stops, more_checks, unit_checks, checks_as, both_checks, map_checks, Tells, silent, tells, tells_as, refusal_tells, Finds, finds, finds_headless, finds_nothing, finds_as, sort_answers}
use Rattle.law_typing.proofs.Elements.{checks_answer}
use Rattle.law_typing.proofs.Assigning.{condition_answers, assignment_answers}
use Rattle.law_typing.proofs.Acting.{action_answers}
use Rattle.law_typing.proofs.Returning.{exit_answers, return_answers}
use Rattle.law_typing.proofs.Places.{head_at}
use Rattle.law_typing.proofs.Shaping.{fields_of, fields_is}
use Rattle.law_typing.proofs.Finding.{InLayer}
use Rattle.law_typing.proofs.Expressing.{designator_found}
use Rattle.law_typing.proofs.Opening.{Opens, opens, opens_nothing, opened_is, denotes_record, one_record}
use Rattle.law_typing.proofs.Inside.{repeats_inside, spot_inside}
use Rattle.law_typing.proofs.Looping.{run_answers}
use Rattle.law_typing.proofs.Selectors.{selector_answers}
use Rattle.law_typing.proofs.Choosing.{BodySo, case_checks}

-- ---- by layers

module _ (g : Gathers) where
  abbrev pub opened_stmt : Stmt-F Rest Stmt Arm
      → Stmt-F (ElaboratesRest g.Reported) (Elaborates g.Reported) (ElaboratesArm g.Reported)
  opened_stmt x = map-Stmt Rest Stmt Arm (ElaboratesRest g.Reported) (Elaborates g.Reported) (ElaboratesArm g.Reported)
      (rest g) (stmt g) (arm g) x

  abbrev pub opened_rest : Rest-F Rest Stmt Arm
      → Rest-F (ElaboratesRest g.Reported) (Elaborates g.Reported) (ElaboratesArm g.Reported)
  opened_rest x = map-Rest Rest Stmt Arm (ElaboratesRest g.Reported) (Elaborates g.Reported) (ElaboratesArm g.Reported)
      (rest g) (stmt g) (arm g) x

  pub stmt_is : (x : Stmt) (y : Stmt-F Rest Stmt Arm) → out-Stmt x ≡ y → stmt g x ≡ stmt_layer g (opened_stmt y)
  unfolding stmt rest arm
  stmt_is x y h = fold_out-Stmt (ElaboratesRest g.Reported) (Elaborates g.Reported) (ElaboratesArm g.Reported)
      (rest_layer g) (stmt_layer g) (arm_layer g) x ∙ ap (λ (y : Stmt-F Rest Stmt Arm). stmt_layer g (opened_stmt y)) h

  pub rest_is : (x : Rest) (y : Rest-F Rest Stmt Arm) → out-Rest x ≡ y → rest g x ≡ rest_layer g (opened_rest y)
  unfolding stmt rest arm
  rest_is x y h = fold_out-Rest (ElaboratesRest g.Reported) (Elaborates g.Reported) (ElaboratesArm g.Reported)
      (rest_layer g) (stmt_layer g) (arm_layer g) x ∙ ap (λ (y : Rest-F Rest Stmt Arm). rest_layer g (opened_rest y)) h

-- ---- the parts of what is right, and of what is broken

module _ (types : Types) (exports : ℕ → Ident → Standing) where
  abbrev AnyBroken : Spot → List Stmt → Breach → Type 0
  AnyBroken w xs f = (x : Stmt) × Among x xs × Broken types exports w x f

  abbrev C : Spot → Expr → Type 0
  C w = IsCondition types w.names exports

  abbrev BC : Spot → Expr → Breach → Type 0
  BC w = BrokenCondition types w.names exports

  abbrev All : Spot → List Stmt → Type 0
  All = AllObey types exports

  abbrev RO : Spot → Rest → Type 0
  RO = RestObeys types exports

  abbrev RB : Spot → Rest → Breach → Type 0
  RB = RestBroken types exports

  abbrev Right : Spot → Stmt-F Rest Stmt Arm → Type 0
  Right = IsRight types exports

  abbrev Wrong : Spot → Stmt-F Rest Stmt Arm → Breach → Type 0
  Wrong = Breaks types exports

  assignment_of : {w : Spot} {d : Designator} {e : Expr} → Right w (layer.Assign d e)
      → Assigns types w.names exports d e
  assignment_of (assignment m) = m

  broken_assignment : {w : Spot} {d : Designator} {e : Expr} (f : Breach) → Wrong w (layer.Assign d e) f
      → BrokenAssignment types w.names exports d e f
  broken_assignment f (rules.in_assignment b) = b

  action_of : {w : Spot} {d : Designator} {args : Option (List Expr)} → Right w (layer.Call d args)
      → IsAction types w.names exports d (arguments args)
  action_of (call m) = m

  broken_action : {w : Spot} {d : Designator} {args : Option (List Expr)} (f : Breach) → Wrong w (layer.Call d args) f
      → BrokenAction types w.names exports d (arguments args) f
  broken_action f (rules.in_call b) = b

  choice_of : {w : Spot} {c : Expr} {body : List Stmt} {r : Rest} → Right w (layer.If c body r) → C w c
      × (All w body × RO w r)
  choice_of (choice c b r) = (c, (b, r))

  if_in : {w : Spot} {c : Expr} {body : List Stmt} {r : Rest} (f : Breach) → BC w c f ⊎ (AnyBroken w body f ⊎ RB w r f)
      → Wrong w (layer.If c body r) f
  if_in f (inl b) = rules.at_if b
  if_in f (inr (inl (x, m, b))) = rules.in_then m b
  if_in f (inr (inr b)) = rules.behind_then b

  if_out : {w : Spot} {c : Expr} {body : List Stmt} {r : Rest} (f : Breach) → Wrong w (layer.If c body r) f → BC w c f
      ⊎ (AnyBroken w body f ⊎ RB w r f)
  if_out f (rules.at_if b) = inl b
  if_out f (rules.in_then {x = x} m b) = inr (inl (x, m, b))
  if_out f (rules.behind_then b) = inr (inr b)

  while_of : {w : Spot} {c : Expr} {body : List Stmt} → Right w (layer.While c body) → C w c × All w body
  while_of (while_loop c b) = (c, b)

  while_in : {w : Spot} {c : Expr} {body : List Stmt} (f : Breach) → BC w c f ⊎ AnyBroken w body f
      → Wrong w (layer.While c body) f
  while_in f (inl b) = rules.at_while b
  while_in f (inr (x, m, b)) = rules.in_while m b

  while_out : {w : Spot} {c : Expr} {body : List Stmt} (f : Breach) → Wrong w (layer.While c body) f → BC w c f
      ⊎ AnyBroken w body f
  while_out f (rules.at_while b) = inl b
  while_out f (rules.in_while {x = x} m b) = inr (x, m, b)

  repeat_of : {w : Spot} {c : Expr} {body : List Stmt} → Right w (layer.Repeat body c) → All w body × C w c
  repeat_of (repeat_loop b c) = (b, c)

  repeat_in : {w : Spot} {c : Expr} {body : List Stmt} (f : Breach) → AnyBroken w body f ⊎ BC w c f
      → Wrong w (layer.Repeat body c) f
  repeat_in f (inr b) = rules.at_until b
  repeat_in f (inl (x, m, b)) = rules.in_repeat m b

  repeat_out : {w : Spot} {c : Expr} {body : List Stmt} (f : Breach) → Wrong w (layer.Repeat body c) f
      → AnyBroken w body f ⊎ BC w c f
  repeat_out f (rules.at_until b) = inr b
  repeat_out f (rules.in_repeat {x = x} m b) = inl (x, m, b)

  loop_of : {w : Spot} {body : List Stmt} → Right w (layer.Loop body) → All (inside_loop w) body
  loop_of (bare_loop b) = b

  loop_in : {w : Spot} {body : List Stmt} (f : Breach) → AnyBroken (inside_loop w) body f → Wrong w (layer.Loop body) f
  loop_in f (x, m, b) = rules.in_bare_loop m b

  loop_out : {w : Spot} {body : List Stmt} (f : Breach) → Wrong w (layer.Loop body) f → AnyBroken (inside_loop w) body f
  loop_out f (rules.in_bare_loop {x = x} m b) = (x, m, b)

  exit_of : {w : Spot} {at : Pos} → Right w (layer.Exit at) → IsExit w.in_loop
  exit_of (exit m) = m

  exit_out : {w : Spot} {at : Pos} (f : Breach) → Wrong w (layer.Exit at) f → BrokenExit at w.in_loop f
  exit_out f (rules.at_exit b) = b

  return_of : {w : Spot} {at : Pos} {e : Option Expr} → Right w (layer.Return at e)
      → Returns types w.names exports w.gives e
  return_of (return m) = m

  return_out : {w : Spot} {at : Pos} {e : Option Expr} (f : Breach) → Wrong w (layer.Return at e) f
      → BrokenReturn types w.names exports at w.gives e f
  return_out f (rules.in_return b) = b

  for_of : {w : Spot} {name : Ident} {start limit : Expr} {step : Option Expr} {body : List Stmt}
      → Right w (layer.For name start limit step body) → Runs types w.names exports w.own name start limit step
      × All w body
  for_of (for_loop r b) = (r, b)

  for_in : {w : Spot} {name : Ident} {start limit : Expr} {step : Option Expr} {body : List Stmt} (f : Breach)
      → BrokenRun types w.names exports w.own name start limit step f ⊎ AnyBroken w body f
      → Wrong w (layer.For name start limit step body) f
  for_in f (inl b) = rules.at_for b
  for_in f (inr (x, m, b)) = rules.in_for m b

  for_out : {w : Spot} {name : Ident} {start limit : Expr} {step : Option Expr} {body : List Stmt} (f : Breach)
      → Wrong w (layer.For name start limit step body) f → BrokenRun types w.names exports w.own name start limit step f
      ⊎ AnyBroken w body f
  for_out f (rules.at_for b) = inl b
  for_out f (rules.in_for {x = x} m b) = inr (x, m, b)

  elsif_of : {w : Spot} {c : Expr} {body : List Stmt} {r : Rest} → RestIsRight types exports w (layer.Elsif c body r)
      → C w c × (All w body × RO w r)
  elsif_of (elsif c b r) = (c, (b, r))

  elsif_in : {w : Spot} {c : Expr} {body : List Stmt} {r : Rest} (f : Breach) → BC w c f
      ⊎ (AnyBroken w body f ⊎ RB w r f) → RestBreaks types exports w (layer.Elsif c body r) f
  elsif_in f (inl b) = rules.at_elsif b
  elsif_in f (inr (inl (x, m, b))) = rules.in_elsif m b
  elsif_in f (inr (inr b)) = rules.behind_elsif b

  elsif_out : {w : Spot} {c : Expr} {body : List Stmt} {r : Rest} (f : Breach)
      → RestBreaks types exports w (layer.Elsif c body r) f → BC w c f ⊎ (AnyBroken w body f ⊎ RB w r f)
  elsif_out f (rules.at_elsif b) = inl b
  elsif_out f (rules.in_elsif {x = x} m b) = inr (inl (x, m, b))
  elsif_out f (rules.behind_elsif b) = inr (inr b)

  else_of : {w : Spot} {body : List Stmt} → RestIsRight types exports w (layer.Else (Some body)) → All w body
  else_of (an_else b) = b

  else_in : {w : Spot} {body : List Stmt} (f : Breach) → AnyBroken w body f
      → RestBreaks types exports w (layer.Else (Some body)) f
  else_in f (x, m, b) = rules.in_else m b

  else_out : {w : Spot} {body : List Stmt} (f : Breach) → RestBreaks types exports w (layer.Else (Some body)) f
      → AnyBroken w body f
  else_out f (rules.in_else {x = x} m b) = (x, m, b)

  no_else_out : {w : Spot} (f : Breach) → RestBreaks types exports w (layer.Else None) f → ⊥
  no_else_out f z = elim z [ ]

  abbrev Inside : Spot → Designator → List Stmt → Breach → Type 0
  Inside w d body f = ((t : TypeNo) × (fields : List (List ℕ × TypeNo)) × LeadsToRecord types exports w.names d t fields
      × AnyBroken (inside_with fields w) body f)
      ⊎ (((t : TypeNo) (fields : List (List ℕ × TypeNo)) → LeadsToRecord types exports w.names d t fields → ⊥)
      × AnyBroken w body f)

  abbrev RecordIs : Thing → TypeNo → Type 0
  RecordIs x t = (fields : List (List ℕ × TypeNo)) × (x ≡ AVariable t) × IsMade types t (shape.Record fields)

  abbrev NoRecord : Pos → Thing → Breach → Type 0
  NoRecord at x f = ((t : TypeNo) (fields : List (List ℕ × TypeNo)) → x ≡ AVariable t
      → IsMade types t (shape.Record fields) → ⊥) × (f ≡ at ! rule.WrongType)

  abbrev D : Spot → Designator → Thing → Type 0
  D w = Denotes types w.names exports

  abbrev WithFails : Spot → Designator → List Stmt → Breach → Type 0
  WithFails w d body f = (BrokenDesignator types w.names exports d f
      ⊎ ((x : Thing) × D w d x × NoRecord (out-Designator d).name.pos x f)) ⊎ Inside w d body f

  with_of_parts : {w : Spot} {d : Designator} {body : List Stmt} → Right w (layer.With d body) → (t : TypeNo)
      × (fields : List (List ℕ × TypeNo)) × D w d (AVariable t) × IsMade types t (shape.Record fields)
      × All (inside_with fields w) body
  with_of_parts (with_record {t = t} {fields = fields} m q b) = (t, fields, m, q, b)

  with_in : {w : Spot} {d : Designator} {body : List Stmt} (f : Breach) → WithFails w d body f
      → Wrong w (layer.With d body) f
  with_in f (inl (inl b)) = rules.in_record b
  with_in {w = w} {d = d} {body = body} f (inl (inr (x, m, (n, e)))) =
      subst (Wrong w (layer.With d body)) (sym e) (rules.no_record m n)
  with_in f (inr (inl (t, fields, l, (x, m, b)))) = rules.in_with l m b
  with_in f (inr (inr (n, (x, m, b)))) = rules.behind_with n m b

  with_out : {w : Spot} {d : Designator} {body : List Stmt} (f : Breach) → Wrong w (layer.With d body) f
      → WithFails w d body f
  with_out f (rules.in_record b) = inl (inl b)
  with_out _ (rules.no_record {x = x} m n) = inl (inr (x, m, (n, refl)))
  with_out f (rules.in_with {t = t} {fields = fields} {x = x} l m b) = inr (inl (t, fields, l, (x, m, b)))
  with_out f (rules.behind_with {x = x} n m b) = inr (inr (n, (x, m, b)))

  -- by the layer
  obeys_out : {w : Spot} {x : Stmt} (y : Stmt-F Rest Stmt Arm) → out-Stmt x ≡ y → Obeys types exports w x → Right w y
  obeys_out {w = w} y h (as_written r) = subst (Right w) h r

  broken_out : {w : Spot} {x : Stmt} (y : Stmt-F Rest Stmt Arm) → out-Stmt x ≡ y → (f : Breach)
      → Broken types exports w x f → Wrong w y f
  broken_out {w = w} y h f (broken_as_written b) = subst (λ (y : Stmt-F Rest Stmt Arm). Wrong w y f) h b

  rest_obeys_out : {w : Spot} {x : Rest} (y : Rest-F Rest Stmt Arm) → out-Rest x ≡ y → RO w x
      → RestIsRight types exports w y
  rest_obeys_out {w = w} y h (rest_as_written r) = subst (RestIsRight types exports w) h r

  rest_broken_out : {w : Spot} {x : Rest} (y : Rest-F Rest Stmt Arm) → out-Rest x ≡ y → (f : Breach) → RB w x f
      → RestBreaks types exports w y f
  rest_broken_out {w = w} y h f (rest_broken b) =
      subst (λ (y : Rest-F Rest Stmt Arm). RestBreaks types exports w y f) h b

  -- lists
  all_first : {w : Spot} {x : Stmt} {xs : List Stmt} → All w (x ∷ xs) → Obeys types exports w x × All w xs
  all_first (one_more m r) = (m, r)

  any_first : {w : Spot} {x : Stmt} {xs : List Stmt} (f : Breach) → AnyBroken w (x ∷ xs) f → Broken types exports w x f
      ⊎ AnyBroken w xs f
  any_first f (x, here, b) = inl b
  any_first f (x, later m, b) = inr (x, m, b)

-- ---- all statements

module _ (g : Gathers) (j : Judges g) (lawful : Lawful g j) (exports : ℕ → Ident → Standing) where
  abbrev O : Spot → Scope g.Reported → Around g.Reported → Breach → Type 0
  O w s a = RepeatsResult g j w.names s a.gives

  abbrev Known : Spot → Scope g.Reported → Around g.Reported → Type 0
  Known = KnowsSpot g j exports

  module _ (w : Spot) (s : Scope g.Reported) (a : Around g.Reported) where
    abbrev StmtSo : Stmt → Result TypedStmt g.Reported → Type 0
    StmtSo x r = Checks g j lawful (O w s a) {A = TypedStmt} (Obeys s.types exports w x) (Broken s.types exports w x) r

    abbrev LayerSo : Stmt-F Rest Stmt Arm → Result TypedStmt g.Reported → Type 0
    LayerSo y r = Checks g j lawful (O w s a) {A = TypedStmt} (IsRight s.types exports w y) (Breaks s.types exports w y)
        r

    abbrev ListSo : List Stmt → Result (List TypedStmt) g.Reported → Type 0
    ListSo xs r = Checks g j lawful (O w s a) {A = List TypedStmt} (AllObey s.types exports w xs)
        (AnyBroken s.types exports w xs) r

    abbrev RestSo : Rest → Result (Option (List TypedStmt)) g.Reported → Type 0
    RestSo x r = Checks g j lawful (O w s a) {A = Option (List TypedStmt)} (RestObeys s.types exports w x)
        (RestBroken s.types exports w x) r

    abbrev RestLayerSo : Rest-F Rest Stmt Arm → Result (Option (List TypedStmt)) g.Reported → Type 0
    RestLayerSo y r = Checks g j lawful (O w s a) {A = Option (List TypedStmt)} (RestIsRight s.types exports w y)
        (RestBreaks s.types exports w y) r

    by_layer : {x : Stmt} (y : Stmt-F Rest Stmt Arm) → out-Stmt x ≡ y → LayerSo y (stmt_layer g (opened_stmt g y) s a)
        → StmtSo x (stmt g x s a)
    by_layer {x = x} y h c = subst (λ (q : Elaborates g.Reported). StmtSo x (q s a)) (sym (stmt_is g x y h))
        (checks_as g j lawful (O w s a) (λ r. as_written (subst (IsRight s.types exports w) (sym h) r))
        (obeys_out s.types exports y h) (λ f b. broken_as_written
        (subst (λ (y : Stmt-F Rest Stmt Arm). Breaks s.types exports w y f) (sym h) b))
        (broken_out s.types exports y h) c)

    by_rest : {x : Rest} (y : Rest-F Rest Stmt Arm) → out-Rest x ≡ y
        → RestLayerSo y (rest_layer g (opened_rest g y) s a) → RestSo x (rest g x s a)
    by_rest {x = x} y h c = subst (λ (q : ElaboratesRest g.Reported). RestSo x (q s a)) (sym (rest_is g x y h))
        (checks_as g j lawful (O w s a) (λ r. rest_as_written (subst (RestIsRight s.types exports w) (sym h) r))
        (rest_obeys_out s.types exports y h)
        (λ f b. rest_broken (subst (λ (y : Rest-F Rest Stmt Arm). RestBreaks s.types exports w y f) (sym h) b))
        (rest_broken_out s.types exports y h) c)

    list_from : (xs : List Stmt) → ((x : Stmt) → Among x xs → StmtSo x (stmt g x s a))
        → {P : Type 0} {B : Breach → Type 0} (so : Result (List TypedStmt) g.Reported)
        → Checks g j lawful (O w s a) P B so
        → Checks g j lawful (O w s a) (P × AllObey s.types exports w xs) (λ f. B f ⊎ AnyBroken s.types exports w xs f)
        (fold (with_stmt g s a) so (map (stmt g) xs))
    list_from [] h so c = checks_as g j lawful (O w s a) (λ p. (p, no_more)) (λ p. p.0) (λ f b. inl b)
        (λ f b. elim b [ inl z ↦ z | inr z ↦ elim z.1 [ ] ]) c
    list_from (x ∷ xs) h {P = P} {B = B} so c =
        checks_as g j lawful (O w s a) {C = λ f. B f ⊎ AnyBroken s.types exports w (x ∷ xs) f}
        (λ p. (p.0.0, one_more p.0.1 p.1)) (λ p. let q = all_first s.types exports p.1 in ((p.0, q.0), q.1))
        (λ f b. elim b [
          | inl z ↦ elim z [ inl d ↦ inl d | inr d ↦ inr (x, here, d) ]
          | inr z ↦ inr (z.0, later z.1, z.2)
        ])
        (λ f b. elim b [
          | inl d ↦ inl (inl d)
          | inr z ↦ elim (any_first s.types exports f z)
              [ inl d ↦ inl (inr d) | inr d ↦ inr d ]
        ])
        (list_from xs (λ y m. h y (later m)) {P = P × Obeys s.types exports w x}
        {B = λ f. B f ⊎ Broken s.types exports w x f} _
        (map_checks g j lawful (O w s a) (λ (p : List TypedStmt × TypedStmt). p.0 ++ p.1 ∷ [])
        (both_checks g j lawful (O w s a) c (h x here))))

    list_checks : (xs : List Stmt) → ((x : Stmt) → Among x xs → StmtSo x (stmt g x s a))
        → ListSo xs (all_of g s a (map (stmt g) xs))
    list_checks xs h = checks_as g j lawful (O w s a) (λ p. p.1) (λ p. (tt, p))
        (λ f b. elim b [ inl z ↦ absurd z | inr z ↦ z ]) (λ f b. inr b)
        (list_from xs h {P = Unit {0}} {B = λ f. ⊥} (Ok []) (passes [] tt (λ f b. b)))

    condition_checks : (k : Known w s a) (c : Expr)
        → Checks g j lawful (O w s a) {A = TypedExpr} (IsCondition s.types w.names exports c)
        (BrokenCondition s.types w.names exports c) (condition g s (meanings_of g c))
    condition_checks k c = unit_checks g j lawful {M = λ u. IsCondition s.types w.names exports c} (λ f o. inl o)
        (condition_answers g j lawful w.names exports s k.of_names c)

    call_layer : (k : Known w s a) (d : Designator) (args : Option (List Expr))
        → LayerSo (layer.Call d args) (stmt_layer g (opened_stmt g (layer.Call d args)) s a)
    call_layer k d None = checks_as g j lawful (O w s a) call (action_of s.types exports) (λ f b. rules.in_call b)
        (broken_action s.types exports) (unit_checks g j lawful {M = λ u. IsAction s.types w.names exports d []}
        (λ f o. inl o) (action_answers g j lawful w.names exports s k.of_names d []))
    call_layer k d (Some args) = checks_as g j lawful (O w s a) call (action_of s.types exports)
        (λ f b. rules.in_call b) (broken_action s.types exports)
        (unit_checks g j lawful {M = λ u. IsAction s.types w.names exports d args} (λ f o. inl o)
        (action_answers g j lawful w.names exports s k.of_names d args))

    exit_layer : (k : Known w s a) (at : Pos) → LayerSo (layer.Exit at) (exit_statement g at a)
    exit_layer k at = checks_as g j lawful (O w s a) (λ m. exit (subst IsExit (sym k.of_loop) m))
        (λ m. subst IsExit k.of_loop (exit_of s.types exports m))
        (λ f b. rules.at_exit (subst (λ (l : Bool). BrokenExit at l f) (sym k.of_loop) b))
        (λ f b. subst (λ (l : Bool). BrokenExit at l f) k.of_loop (exit_out s.types exports f b))
        (unit_checks g j lawful {M = λ u. IsExit a.in_loop} (λ f o. o) (exit_answers g j lawful (O w s a) at a))

  check_tells : {U : Breach → Type 0} {P : Type 0} {B : Breach → Type 0} {r : Result (List TypedStmt) g.Reported}
      → Checks g j lawful U {A = List TypedStmt} P B r → Tells g j lawful U B (reported_in r)
  check_tells (passes a p n) = silent n
  check_tells (stops r c n) = tells r c

  module _ (w : Spot) (s : Scope g.Reported) (a : Around g.Reported) (k : Known w s a) (d : Designator)
      (body : List Stmt) where
    abbrev U : Breach → Type 0
    U = O w s a

    abbrev Bodies : Type 0
    Bodies = (v : Spot) (q : Scope g.Reported) → Known v q a → ListSo v q a body (all_of g q a (map (stmt g) body))

    abbrev RecordSo : Thing → Result (TypeNo × Place) g.Reported → Type 0
    RecordSo x r = Answers g j U (λ v t. v.0 ≡ t) (RecordIs s.types exports x)
        (NoRecord s.types exports (out-Designator d).name.pos x) r

    no_record_there : {x : Thing} → ((t : TypeNo) (fields : List (List ℕ × TypeNo)) → x ≡ AVariable t
        → IsMade s.types t (shape.Record fields) → ⊥) → RecordSo x (report g (out-Designator d).name.pos rule.WrongType)
    no_record_there n = declined g j lawful U (out-Designator d).name.pos rule.WrongType (λ t m. n t m.0 m.1 m.2)
        (n, refl) (λ f z. z.1)

    abbrev type_in : TypeNo → Thing → TypeNo
    type_in t (AVariable u) = u
    type_in t other = t

    same_type : {t u : TypeNo} → AVariable t ≡ AVariable u → u ≡ t
    same_type {t = t} e = sym (ap (type_in t) e)

    not_record : (t : TypeNo) (z : Option Shape) → shape_at s.types t ≡ z
        → ((fs : List (List ℕ × TypeNo)) → z ≡ Some (shape.Record fs) → ⊥)
        → (u : TypeNo) (fields : List (List ℕ × TypeNo)) → AVariable t ≡ AVariable u
        → IsMade s.types u (shape.Record fields) → ⊥
    not_record t z h n u fields e m = n fields
        (sym h ∙ subst (λ (v : TypeNo). IsMade s.types v (shape.Record fields)) (same_type e) m)

    variable_record : (t : TypeNo) (p : Place) (z : Option Shape) → shape_at s.types t ≡ z
        → RecordSo (AVariable t) (reported_where g (not (is_some (fields_of z))) (out-Designator d).name.pos
        rule.WrongType (Ok (t, p)))
    variable_record t p None h = no_record_there (not_record t None h (λ fs q. absurd cc))
    variable_record t p (Some (shape.Record fs)) h =
        means (t, p) t refl (fs, refl, h) (λ u m. same_type m.1) (λ f z. z.0 t fs refl h)
    variable_record t p (Some (shape.Scalar r)) h = no_record_there (not_record t _ h (λ fs q. absurd cc))
    variable_record t p (Some shape.Set) h = no_record_there (not_record t _ h (λ fs q. absurd cc))
    variable_record t p (Some (shape.Array i e)) h = no_record_there (not_record t _ h (λ fs q. absurd cc))
    variable_record t p (Some (shape.Procedure q)) h = no_record_there (not_record t _ h (λ fs q. absurd cc))
    variable_record t p (Some (shape.Open e)) h = no_record_there (not_record t _ h (λ fs q. absurd cc))

    records : (c : Designated) (x : Thing) → IsThing c x
        → RecordSo x (record_by g s.types (out-Designator d).name.pos c)
    records _ _ (thing_variable t p) = subst
        (λ (o : Option (List (List ℕ × TypeNo))). RecordSo (AVariable t)
        (reported_where g (not (is_some o)) (out-Designator d).name.pos rule.WrongType (Ok (t, p))))
        (sym (fields_is s.types t)) (variable_record t p (shape_at s.types t) refl)
    records _ _ (thing_value i) = no_record_there (λ t fs e m. absurd cc)
    records _ _ (thing_open t p) = no_record_there (λ t fs e m. absurd cc)
    records _ _ (thing_type t) = no_record_there (λ t fs e m. absurd cc)
    records _ _ (thing_procedure p) = no_record_there (λ t fs e m. absurd cc)
    records _ _ (thing_nested p) = no_record_there (λ t fs e m. absurd cc)
    records _ _ (thing_standard p) = no_record_there (λ t fs e m. absurd cc)
    records _ _ (thing_module n) = no_record_there (λ t fs e m. absurd cc)

    abbrev RecordMeans : TypeNo → Type 0
    RecordMeans t = (x : Thing) × D s.types exports w d x × RecordIs s.types exports x t

    abbrev RecordFails : Breach → Type 0
    RecordFails f = BrokenDesignator s.types w.names exports d f
        ⊎ ((x : Thing) × D s.types exports w d x × NoRecord s.types exports (out-Designator d).name.pos x f)

    abbrev RecordAnswers : Result (TypeNo × Place) g.Reported → Type 0
    RecordAnswers r = Answers g j U (λ v t. v.0 ≡ t) RecordMeans RecordFails r

    designator_in : (f : Breach) → InLayer g j lawful w.names exports s (expr_layer.Use d None) f
        → BrokenDesignator s.types w.names exports d f
    designator_in f (inl z) = at_designator z
    designator_in f (inr (x, m, b)) = in_designator m b

    designator_out : (f : Breach) → BrokenDesignator s.types w.names exports d f
        → InLayer g j lawful w.names exports s (expr_layer.Use d None) f
    designator_out f (at_designator z) = inl z
    designator_out f (in_designator {x = x} m b) = inr (x, m, b)

    finds_more : {S : Thing → Type 0} {B Q : Breach → Type 0} {r : Result Designated (Meaningless g.Reported)}
        → ((f : Breach) → Q f → U f) → Finds g j lawful Q S B r → Finds g j lawful U S B r
    finds_more h (finds v x i m u n) = finds v x i m u n
    finds_more h (finds_headless b r o m u n) = finds_headless b r (λ f z. h f (o f z)) m u n
    finds_more h (finds_nothing r c n) = finds_nothing r
        (record { only = λ f m. elim (c.only f m) [ inl b ↦ inl b | inr o ↦ inr (h f o) ]; each = c.each }) n

    record_answers : RecordAnswers (record_of g s (head g d))
    record_answers = subst (λ (at : Pos). RecordAnswers
        (of_sort g at rule.WrongType ((head g d).means s) ▷ record_by g s.types at)) (sym (head_at g d))
        (sort_answers g j lawful U {N = RecordIs s.types exports}
        {D = NoRecord s.types exports (out-Designator d).name.pos} (out-Designator d).name.pos rule.WrongType
        (finds_as g j lawful U (λ x m. m) (λ x m. m) designator_in designator_out
        (finds_more (λ f o. inl o) (designator_found g j lawful w.names exports s k.of_names d))) records
        (λ b. no_record_there (λ t fs e m. absurd cc)))

    -- the statements inside
    abbrev Tell : Result (List TypedStmt) g.Reported → Type 0
    Tell r = Tells g j lawful U (Inside s.types exports w d body) (reported_in r)

    inside_checks : Bodies → (t : TypeNo) (fields : List (List ℕ × TypeNo)) → IsMade s.types t (shape.Record fields)
        → Checks g j lawful U {A = List TypedStmt} (AllObey s.types exports (inside_with fields w) body)
        (AnyBroken s.types exports (inside_with fields w) body) (all_of g (into_record s t) a (map (stmt g) body))
    inside_checks h t fields m = more_checks g j lawful
        (λ f o. elim o [ inl z ↦ inl (repeats_inside g j s t fields m w.names exports w.own f z) | inr z ↦ inr z ])
        (h (inside_with fields w) (into_record s t) (spot_inside g j s t fields m k))

    made_by : {t : TypeNo} {fields : List (List ℕ × TypeNo)} → LeadsToRecord s.types exports w.names d t fields
        → IsMade s.types t (shape.Record fields)
    made_by (leads e l m) = m

    same_record : {t u : TypeNo} {fs hs : List (List ℕ × TypeNo)} → LeadsToRecord s.types exports w.names d t fs
        → LeadsToRecord s.types exports w.names d u hs → hs ≡ fs
    same_record {t = t} {u = u} l m = one_record g j lawful w.names exports s k.of_names t u l m

    into_one : {t : TypeNo} {fields : List (List ℕ × TypeNo)} (f : Breach)
        → LeadsToRecord s.types exports w.names d t fields → Inside s.types exports w d body f
        → AnyBroken s.types exports (inside_with fields w) body f
    into_one f l (inl (u, hs, m, b)) = subst
        (λ (fs : List (List ℕ × TypeNo)). AnyBroken s.types exports (inside_with fs w) body f) (same_record l m) b
    into_one {t = t} {fields = fields} f l (inr (n, b)) = absurd (n t fields l)

    into_none : (f : Breach) → ((t : TypeNo) (fields : List (List ℕ × TypeNo))
        → LeadsToRecord s.types exports w.names d t fields → ⊥) → Inside s.types exports w d body f
        → AnyBroken s.types exports w body f
    into_none f n (inl (u, hs, m, b)) = absurd (n u hs m)
    into_none f n (inr (z, b)) = b

    behind_tells : Bodies → {o : Option TypeNo} → Opens g j lawful w.names exports s k.of_names d o
        → Tell (all_of g (opened_if s o) a (map (stmt g) body))
    behind_tells h (opens t fields l u) = tells_as g j lawful U (λ f b. inl (t, fields, l, b)) (λ f b. into_one f l b)
        (check_tells (inside_checks h t fields (made_by l)))
    behind_tells h (opens_nothing n) = tells_as g j lawful U (λ f b. inr (n, b)) (λ f b. into_none f n b)
        (check_tells (h w s k))

    none_right : ((t : TypeNo) → RecordMeans t → ⊥) → IsRight s.types exports w (layer.With d body) → ⊥
    none_right n m = let q = with_of_parts s.types exports m in n q.0 (AVariable q.0, q.2, (q.1, refl, q.3))

    right_body : {t : TypeNo} {fields : List (List ℕ × TypeNo)} → LeadsToRecord s.types exports w.names d t fields
        → IsRight s.types exports w (layer.With d body) → AllObey s.types exports (inside_with fields w) body
    right_body l m = let q = with_of_parts s.types exports m in
        subst (λ (fs : List (List ℕ × TypeNo)). AllObey s.types exports (inside_with fs w) body)
        (same_record l (denotes_record g j lawful w.names exports s k.of_names q.2 q.3)) q.4

    record_fits : {x : Thing} {t : TypeNo} → D s.types exports w d x → x ≡ AVariable t
        → D s.types exports w d (AVariable t)
    record_fits {x = x} m e = subst (D s.types exports w d) e m

    body_fails : {t : TypeNo} {fields : List (List ℕ × TypeNo)} (f : Breach)
        → LeadsToRecord s.types exports w.names d t fields → ((f : Breach) → RecordFails f → ⊥)
        → Breaks s.types exports w (layer.With d body) f → AnyBroken s.types exports (inside_with fields w) body f
    body_fails f l n b = elim (with_out s.types exports f b) [ inl z ↦ absurd (n f z) | inr z ↦ into_one f l z ]

    with_layer : Bodies → {r : Result (TypeNo × Place) g.Reported} → RecordAnswers r
        → LayerSo w s a (layer.With d body) (ahead g r
        (reported_in (all_of g (opened_if s (opened_type g s d)) a (map (stmt g) body)))
        (λ v. within v.1 (all_of g (into_record s v.0) a (map (stmt g) body))))
    with_layer h (means v t i (x, m, (fields, e, q)) u n) = let there = record_fits m e in
        let l = denotes_record g j lawful w.names exports s k.of_names there q in
        checks_as g j lawful U (λ b. with_record there q b) (right_body l)
        (λ f b. with_in s.types exports f (inr (inl (t, fields, l, b)))) (λ f b. body_fails f l n b)
        (map_checks g j lawful U (λ (b : List TypedStmt). typed.With v.1 b)
        (subst (λ (z : TypeNo). Checks g j lawful U {A = List TypedStmt}
        (AllObey s.types exports (inside_with fields w) body)
        (AnyBroken s.types exports (inside_with fields w) body) (all_of g (into_record s z) a (map (stmt g) body)))
        (sym i) (inside_checks h t fields q)))
    with_layer h (refuses r c n) = checks_as g j lawful U {P = ⊥} (λ z. absurd z) (none_right n)
        (λ f b. with_in s.types exports f b) (λ f b. with_out s.types exports f b)
        (unit_checks g j lawful {M = λ u. ⊥} (λ f o. o)
        (refusal_tells g j lawful U {A = TypedStmt} {K = Unit {0}} {Is = λ v u. Unit {0}} c (λ u z. z)
        (behind_tells h (opened_is g j lawful w.names exports s k.of_names d))))

    with_checks : Bodies → LayerSo w s a (layer.With d body) (stmt_layer g (opened_stmt g (layer.With d body)) s a)
    with_checks h = with_layer h record_answers

  case_layer : (w : Spot) (s : Scope g.Reported) (a : Around g.Reported) (k : Known w s a) (e : Expr) (arms : List Arm)
      (o : Option (List Stmt)) → ((x : Arm) → Among x arms → BodySo g j lawful exports w s a k.of_names x)
      → RestLayerSo w s a (layer.Else o) (rest_layer g (opened_rest g (layer.Else o)) s a)
      → LayerSo w s a (layer.Case e arms o) (stmt_layer g (opened_stmt g (layer.Case e arms o)) s a)
  case_layer w s a k e arms None b q = case_checks g j lawful exports w s a k.of_names e arms None
      (selector_answers g j lawful w.names exports s k.of_names e) b q
  case_layer w s a k e arms (Some body) b q =
      case_checks g j lawful exports w s a k.of_names e arms (Some body)
      (selector_answers g j lawful w.names exports s k.of_names e) b q

  looping : {w : Spot} {s : Scope g.Reported} {a : Around g.Reported} → Known w s a
      → Known (inside_loop w) s (in_loop a)
  looping k = record { of_names = k.of_names; of_own = k.of_own; of_result = k.of_result; of_loop = refl }

  mutual
    stmt_checks : {x : Stmt} → IsStmtTree x → (w : Spot) (s : Scope g.Reported) (a : Around g.Reported) → Known w s a
        → StmtSo w s a x (stmt g x s a)
    stmt_checks (tree_assignment {d = d} {e = e} h) w s a k = by_layer w s a (layer.Assign d e) h
        (checks_as g j lawful (O w s a) assignment (assignment_of s.types exports) (λ f b. rules.in_assignment b)
        (broken_assignment s.types exports) (unit_checks g j lawful {M = λ u. Assigns s.types w.names exports d e}
        (λ f o. inl o) (assignment_answers g j lawful w.names exports s k.of_names d e)))
    stmt_checks (tree_action {d = d} {args = args} h) w s a k =
        by_layer w s a (layer.Call d args) h (call_layer w s a k d args)
    stmt_checks (tree_if {c = c} {body = body} {rest = r} h b q) w s a k = by_layer w s a (layer.If c body r) h
        (checks_as g j lawful (O w s a) (λ z. choice z.0 z.1.0 z.1.1) (choice_of s.types exports)
        (if_in s.types exports) (if_out s.types exports)
        (map_checks g j lawful (O w s a) (λ (p : TypedExpr × (List TypedStmt × Option (List TypedStmt))). typed.If p.0
        p.1.0 p.1.1) (both_checks g j lawful (O w s a) (condition_checks w s a k c)
        (both_checks g j lawful (O w s a) (list_checks w s a _ (each_checks b w s a k)) (rest_checks q w s a k)))))
    stmt_checks (tree_case {e = e} {arms = arms} {otherwise = o} h b q) w s a k = by_layer w s a (layer.Case e arms o) h
        (case_layer w s a k e arms o (arm_checks b w s a k) (else_checks q w s a k))
    stmt_checks (tree_while {c = c} {body = body} h b) w s a k = by_layer w s a (layer.While c body) h
        (checks_as g j lawful (O w s a) (λ z. while_loop z.0 z.1) (while_of s.types exports) (while_in s.types exports)
        (while_out s.types exports)
        (map_checks g j lawful (O w s a) (λ (p : TypedExpr × List TypedStmt). typed.While p.0 p.1)
        (both_checks g j lawful (O w s a) (condition_checks w s a k c)
        (list_checks w s a _ (each_checks b w s a k)))))
    stmt_checks (tree_repeat {body = body} {c = c} h b) w s a k = by_layer w s a (layer.Repeat body c) h
        (checks_as g j lawful (O w s a) (λ z. repeat_loop z.0 z.1) (repeat_of s.types exports)
        (repeat_in s.types exports) (repeat_out s.types exports)
        (map_checks g j lawful (O w s a) (λ (p : List TypedStmt × TypedExpr). typed.Repeat p.0 p.1)
        (both_checks g j lawful (O w s a) (list_checks w s a _ (each_checks b w s a k))
        (condition_checks w s a k c))))
    stmt_checks (tree_loop {body = body} h b) w s a k = by_layer w s a (layer.Loop body) h
        (checks_as g j lawful (O w s a) bare_loop (loop_of s.types exports) (loop_in s.types exports)
        (loop_out s.types exports)
        (map_checks g j lawful (O w s a) (λ (p : List TypedStmt). typed.Loop p)
        (list_checks (inside_loop w) s (in_loop a) _ (each_checks b (inside_loop w) s (in_loop a) (looping k)))))
    stmt_checks (tree_exit {at = at} h) w s a k = by_layer w s a (layer.Exit at) h (exit_layer w s a k at)
    stmt_checks (tree_return {at = at} {e = e} h) w s a k = by_layer w s a (layer.Return at e) h
        (checks_as g j lawful (O w s a) return (return_of s.types exports) (λ f b. rules.in_return b)
        (return_out s.types exports) (unit_checks g j lawful {M = λ u. Returns s.types w.names exports w.gives e}
        (λ f o. o) (return_answers g j lawful w.names exports s k.of_names at w.gives a.gives e k.of_result)))
    stmt_checks (tree_for {name = name} {start = start} {limit = limit} {by = by} {body = body} h b) w s a k =
        by_layer w s a (layer.For name start limit by body) h
        (checks_as g j lawful (O w s a) (λ z. for_loop z.0 z.1) (for_of s.types exports) (for_in s.types exports)
        (for_out s.types exports)
        (map_checks g j lawful (O w s a) (λ (p : Course × List TypedStmt). typed.For p.0.control.place p.0.control.of
        p.0.start p.0.limit p.0.by p.1)
        (both_checks g j lawful (O w s a) (unit_checks g j lawful
        {M = λ u. Runs s.types w.names exports w.own name start limit by} (λ f o. inl o)
        (run_answers g j lawful w.names exports w.own s k.of_names k.of_own name start limit by))
        (list_checks w s a _ (each_checks b w s a k)))))
    stmt_checks (tree_with {d = d} {body = body} h b) w s a k =
        by_layer w s a (layer.With d body) h (with_checks w s a k d body
        (λ v q z. list_checks v q a _ (each_checks b v q a z)))

    each_checks : {xs : List Stmt} → AreStmtTrees xs → (w : Spot) (s : Scope g.Reported) (a : Around g.Reported)
        → Known w s a → (x : Stmt) → Among x xs → StmtSo w s a x (stmt g x s a)
    each_checks no_statement w s a k x m = elim m [ ]
    each_checks (one_statement i is) w s a k _ here = stmt_checks i w s a k
    each_checks (one_statement i is) w s a k x (later m) = each_checks is w s a k x m

    rest_checks : {x : Rest} → IsRestTree x → (w : Spot) (s : Scope g.Reported) (a : Around g.Reported) → Known w s a
        → RestSo w s a x (rest g x s a)
    rest_checks (tree_elsif {c = c} {body = body} {rest = r} h b q) w s a k = by_rest w s a (layer.Elsif c body r) h
        (map_checks g j lawful (O w s a) (λ (x : TypedStmt). Some (x ∷ []))
        (checks_as g j lawful (O w s a) (λ z. elsif z.0 z.1.0 z.1.1) (elsif_of s.types exports)
        (elsif_in s.types exports) (elsif_out s.types exports)
        (map_checks g j lawful (O w s a) (λ (p : TypedExpr × (List TypedStmt × Option (List TypedStmt))). typed.If p.0
        p.1.0 p.1.1) (both_checks g j lawful (O w s a) (condition_checks w s a k c)
        (both_checks g j lawful (O w s a) (list_checks w s a _ (each_checks b w s a k)) (rest_checks q w s a k))))))
    rest_checks (tree_end {otherwise = o} h i) w s a k = by_rest w s a (layer.Else o) h (else_checks i w s a k)

    else_checks : {o : Option (List Stmt)} → IsElseTree o → (w : Spot) (s : Scope g.Reported) (a : Around g.Reported)
        → Known w s a → RestLayerSo w s a (layer.Else o) (rest_layer g (opened_rest g (layer.Else o)) s a)
    else_checks tree_no_else w s a k = passes None no_else (no_else_out s.types exports)
    else_checks (tree_else {body = body} b) w s a k =
        map_checks g j lawful (O w s a) (λ (p : List TypedStmt). Some p)
        (checks_as g j lawful (O w s a) an_else (else_of s.types exports) (else_in s.types exports)
        (else_out s.types exports) (list_checks w s a _ (each_checks b w s a k)))

    arm_checks : {xs : List Arm} → AreArmTrees xs
        → (w : Spot) (s : Scope g.Reported) (a : Around g.Reported) (k : Known w s a) (x : Arm) → Among x xs
        → BodySo g j lawful exports w s a k.of_names x
    arm_checks no_arm_tree w s a k x m = elim m [ ]
    arm_checks (one_arm_tree b bs) w s a k x here = list_checks w s a (out-Arm x).body (each_checks b w s a k)
    arm_checks (one_arm_tree b bs) w s a k x (later m) = arm_checks bs w s a k x m

  pub statement_answers : (w : Spot) (s : Scope g.Reported) (a : Around g.Reported) → Known w s a → (x : Stmt)
      → Answers g j (O w s a) {A = TypedStmt} {K = Unit {0}} (λ v u. Unit {0}) (λ u. Obeys s.types exports w x)
      (Broken s.types exports w x) (stmt g x s a)
  statement_answers w s a k x = checks_answer g j lawful (O w s a) (stmt_checks (statement_tree x) w s a k)
