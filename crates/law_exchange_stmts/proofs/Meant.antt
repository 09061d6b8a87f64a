-- Parts of statements in which expressions stand, with other numbers of modules.
use Rattle.std.proofs.Common.{◌≡◌, fold, Option, Some, None, option_map, refl, sym, ap, ap₂, ◌∙◌}
use Rattle.std.specs.Prelude.{Result, Ok}
use Rattle.m2_rule.specs.Breaches.{breach}
use Rattle.m2_rule.specs.declared.rule.Rule.TheVariants as rule
use Rattle.m2_tree.specs.declared.pos.Pos.{Pos}
use Rattle.m2_tree.specs.declared.name.Ident.{Ident}
use Rattle.m2_tree.specs.declared.expr.Expr.{Expr}
use Rattle.m2_tree.specs.declared.expr.Expr.TheOpen as layer
use Rattle.m2_tree.specs.declared.expr.Selector.{Selector, Selector-F, out-Selector}
use Rattle.m2_tree.specs.declared.expr.Designator.{Designator, out-Designator}
use Rattle.m2_tree.specs.declared.expr.Item.{Item}
use Rattle.typed_tree.specs.declared.types.TypeNo.{TypeNo}
use Rattle.typed_tree.specs.declared.computed.TypedExpr.{TypedExpr}
use Rattle.typed_tree.specs.Types.{boolean}
use Rattle.check_scope.specs.Elaborated.{Gathers, of_sort, refusal_beside, ◌▷◌}
use Rattle.check_scope.specs.declared.scope.Scope.{Scope}
use Rattle.check_const.specs.Parts.{constant}
use Rattle.check_value.specs.declared.computed.Computed.{Computed}
use Rattle.check_value.specs.declared.computed.Designated.{Designated}
use Rattle.check_value.specs.declared.effect.Target.{Target}
use Rattle.check_value.specs.Sides.{side_of}
use Rattle.check_value.specs.Suits.{value_suited}
use Rattle.check_value.specs.Effects.{target_at, assignment_of}
use Rattle.check_expr.specs.Meanings.{Meant, value_of, first_name, field_of}
use Rattle.check_stmt_parts.specs.declared.control.Control.{Control}
use Rattle.check_stmt_parts.specs.Simple.{given_back, return_statement, condition, assignment, selector_of, case_selector, record_by, record_of, known_of, led_by, component_behind, record_led_to, opened_type}
use Rattle.check_stmt_parts.specs.Control.{control_of, start_at, limit_at, step_by, step_of, type_of, base_of, course, course_of}
use Rattle.def_exchange.specs.Moved.{Exchange, moved_type, moved_types, moved_value}
use Rattle.law_exchange_types.specs.Pieces.{map_ok, moved_pair}
use Rattle.law_exchange_types.specs.Scopes.{moved_scope}
use Rattle.law_exchange_types.specs.Trees.{moved_expr, moved_place}
use Rattle.law_exchange_types.specs.Values.{moved_computed, moved_designated}
use Rattle.law_exchange_types.proofs.Basics.{fold_moves, refusal_moves, sort_moves}
use Rattle.law_exchange_types.proofs.Sides.{side_of_moves}
use Rattle.law_exchange_types.proofs.Suits.{value_suited_moves}
use Rattle.law_exchange_exprs.proofs.Effects.{target_at_moves, assignment_of_moves}
use Rattle.law_exchange_exprs.proofs.Given.{constants_given, values_given, first_names_given, fields_given}
use Rattle.law_exchange_exprs.specs.Moving.{MeantMoves}
use Rattle.law_exchange_exprs.specs.Steps.{moved_stmt}
use Rattle.law_exchange_stmts.specs.MovedStatements.{moved_control, moved_course}
use Rattle.law_exchange_stmts.proofs.Control.{control_of_moves, start_at_moves, limit_at_moves, step_by_moves, type_of_moves, base_of_moves, course_moves}
use Rattle.law_exchange_stmts.proofs.Pieces.{then_moves, then_same}
use Rattle.law_exchange_stmts.proofs.Simple.{given_back_moves, selector_of_moves, record_by_moves, known_of_moves, element_of_moves, record_led_to_moves}
use Rattle.law_exchange_exprs.proofs.Steps.{stmt_Return}

-- an expression, if one stands there, moves with a scope
abbrev pub MovesIf : {T : Type 0} → Exchange → Option (Meant T) → Type 0
MovesIf z None = Unit {0}
MovesIf z (Some m) = MeantMoves z m

module _ (z : Exchange) (g : Gathers) (s : Scope g.Reported) where
  pub record_of_moves : (d : Meant g.Reported) → MeantMoves z d
      → record_of g (moved_scope z s) d ≡ map_ok (moved_pair (moved_type z) (moved_place z)) (record_of g s d)
  record_of_moves d h =
      then_moves (moved_designated z) (moved_pair (moved_type z) (moved_place z))
      (of_sort g d.fixed.at rule.WrongType (d.means s))
      (of_sort g d.fixed.at rule.WrongType (d.means (moved_scope z s)))
      (record_by g s.types d.fixed.at) (record_by g (moved_types z s.types) d.fixed.at)
      (ap (of_sort g d.fixed.at rule.WrongType) (h.means s)
      ∙ sort_moves g (moved_designated z) d.fixed.at rule.WrongType (d.means s))
      (record_by_moves z g s.types d.fixed.at)

  pub condition_moves : (m : Meant g.Reported) → MeantMoves z m
      → condition g (moved_scope z s) m ≡ map_ok (moved_expr z) (condition g s m)
  condition_moves m h =
      then_moves (moved_computed z) (moved_expr z) (value_of g s m) (value_of g (moved_scope z s) m)
      (value_suited g rule.WrongType s.types boolean m.fixed.at)
      (value_suited g rule.WrongType (moved_types z s.types) boolean m.fixed.at) (values_given g z s m h)
      (value_suited_moves z g rule.WrongType s.types boolean m.fixed.at)

  pub case_selector_moves : (m : Meant g.Reported) → MeantMoves z m
      → case_selector g (moved_scope z s) m
      ≡ map_ok (moved_pair (moved_type z) (moved_expr z)) (case_selector g s m)
  case_selector_moves m h =
      then_moves (moved_computed z) (moved_pair (moved_type z) (moved_expr z)) (value_of g s m)
      (value_of g (moved_scope z s) m) (λ v. selector_of g m.fixed.at (side_of v))
      (λ v. selector_of g m.fixed.at (side_of v)) (values_given g z s m h)
      (λ v. ap (selector_of g m.fixed.at) (side_of_moves z v) ∙ selector_of_moves z g m.fixed.at (side_of v))

  pub assignment_moves : (d m : Meant g.Reported) → MeantMoves z d → MeantMoves z m
      → assignment g (moved_scope z s) d m ≡ map_ok (moved_stmt z) (assignment g s d m)
  assignment_moves d m h k =
      ap₂ (λ (l : Result Target g.Reported) (v : Result Computed g.Reported).
      assignment_of g (moved_types z s.types) l m.fixed.at v)
      (ap (target_at g d.fixed.at) (h.means s) ∙ target_at_moves z g d.fixed.at (d.means s)) (values_given g z s m k)
      ∙ assignment_of_moves z g s.types (target_at g d.fixed.at (d.means s)) m.fixed.at (value_of g s m)

  pub return_statement_moves : (at : Pos) (t : Option (Result TypeNo g.Reported)) (x : Option (Meant g.Reported))
      → MovesIf z x
      → return_statement g (moved_scope z s) at (option_map (map_ok (moved_type z)) t) x
      ≡ map_ok (moved_stmt z) (return_statement g s at t x)
  return_statement_moves at None None h = ap Ok (sym (stmt_Return z))
  return_statement_moves at None (Some x) h =
      ap (refusal_beside g (g.one (breach at rule.WrongReturn)))
      (then_same (moved_computed z) (value_of g s x) (value_of g (moved_scope z s) x) (λ v. Ok tt) (λ v. Ok tt)
      (values_given g z s x h) (λ v. refl))
      ∙ sym (refusal_moves g (moved_stmt z) (g.one (breach at rule.WrongReturn)) (value_of g s x ▷ λ v. Ok tt))
  return_statement_moves at (Some t) None h = refl
  return_statement_moves at (Some t) (Some x) h =
      ap (given_back g (moved_types z s.types) (map_ok (moved_type z) t) x.fixed.at) (values_given g z s x h)
      ∙ given_back_moves z g s.types t x.fixed.at (value_of g s x)

  pub step_of_moves : (x : Option (Meant g.Reported)) → MovesIf z x
      → step_of g (moved_scope z s) x ≡ step_of g s x
  step_of_moves None h = refl
  step_of_moves (Some x) h =
      then_same (moved_value z) (constant g s x.fixed) (constant g (moved_scope z s) x.fixed) (step_by g x.fixed.at)
      (step_by g x.fixed.at) (constants_given g z s x.fixed h.fixed) (step_by_moves z g x.fixed.at)

  starts : (name : Ident) (m : Meant g.Reported) → MeantMoves z m
      → start_at g (moved_types z s.types) m.fixed.at (type_of (control_of g (moved_scope z s) name))
      (value_of g (moved_scope z s) m)
      ≡ map_ok (moved_expr z) (start_at g s.types m.fixed.at (type_of (control_of g s name)) (value_of g s m))
  starts name m h =
      ap₂ (start_at g (moved_types z s.types) m.fixed.at)
      (ap type_of (control_of_moves z g s name) ∙ type_of_moves z (control_of g s name)) (values_given g z s m h)
      ∙ start_at_moves z g s.types m.fixed.at (type_of (control_of g s name)) (value_of g s m)

  limits : (name : Ident) (m : Meant g.Reported) → MeantMoves z m
      → limit_at g m.fixed.at (base_of (control_of g (moved_scope z s) name)) (value_of g (moved_scope z s) m)
      ≡ map_ok (moved_expr z) (limit_at g m.fixed.at (base_of (control_of g s name)) (value_of g s m))
  limits name m h =
      ap₂ (limit_at g m.fixed.at)
      (ap base_of (control_of_moves z g s name) ∙ base_of_moves z (control_of g s name)) (values_given g z s m h)
      ∙ limit_at_moves z g m.fixed.at (base_of (control_of g s name)) (value_of g s m)

  pub course_of_moves : (name : Ident) (start limit : Meant g.Reported)
      (by : Option (Meant g.Reported)) → MeantMoves z start → MeantMoves z limit → MovesIf z by
      → course_of g (moved_scope z s) name start limit by
      ≡ map_ok (moved_course z) (course_of g s name start limit by)
  course_of_moves name start limit by h k i =
      let v = control_of g s name in
      let from = start_at g s.types start.fixed.at (type_of v) (value_of g s start) in
      let upto = limit_at g limit.fixed.at (base_of v) (value_of g s limit) in
      let from_there =
      start_at g (moved_types z s.types) start.fixed.at (type_of (control_of g (moved_scope z s) name))
      (value_of g (moved_scope z s) start) in
      let upto_there =
      limit_at g limit.fixed.at (base_of (control_of g (moved_scope z s) name))
      (value_of g (moved_scope z s) limit) in
      ap (λ (c : Result Control g.Reported). course g c from_there upto_there (step_of g (moved_scope z s) by))
      (control_of_moves z g s name)
      ∙ (ap₂ (λ (a b : Result TypedExpr g.Reported).
      course g (map_ok (moved_control z) v) a b (step_of g (moved_scope z s) by)) (starts name start h)
      (limits name limit k)
      ∙ (ap (course g (map_ok (moved_control z) v) (map_ok (moved_expr z) from) (map_ok (moved_expr z) upto))
      (step_of_moves by i)
      ∙ course_moves z g v from upto (step_of g s by)))

  -- ---- the record type that a WITH opens, if its designator has no meaning

  led_by_moves : (d : Designated) (x : Selector-F Expr Selector Designator Item)
      → led_by g (moved_scope z s) (moved_designated z d) x ≡ option_map (moved_designated z) (led_by g s d x)
  led_by_moves d (layer.Field at name) =
      ap known_of (fields_given g z s at name d) ∙ known_of_moves z (field_of g s at name d)
  led_by_moves d (layer.Index at x) = element_of_moves z s.types d

  component_behind_moves : (d : Option Designated) (x : Selector)
      → component_behind g (moved_scope z s) (option_map (moved_designated z) d) x
      ≡ option_map (moved_designated z) (component_behind g s d x)
  component_behind_moves None x = refl
  component_behind_moves (Some d) x = led_by_moves d (out-Selector x)

  pub opened_type_moves : (d : Designator)
      → opened_type g (moved_scope z s) d ≡ option_map (moved_type z) (opened_type g s d)
  opened_type_moves d =
      let name = (out-Designator d).name in
      let first = known_of (first_name g s name) in
      let all = (out-Designator d).selectors in
      ap (record_led_to (moved_types z s.types))
      (ap (λ (v : Option Designated). fold (component_behind g (moved_scope z s)) v all)
      (ap known_of (first_names_given g z s name) ∙ known_of_moves z (first_name g s name))
      ∙ fold_moves (option_map (moved_designated z)) (component_behind g s) (component_behind g (moved_scope z s))
      component_behind_moves first all)
      ∙ record_led_to_moves z s.types (fold (component_behind g s) first all)
