-- The types of functions that a module needs have no numbers of modules.
use Rattle.std.proofs.Common.{map, ◌≡◌, ℕ, ◌+◌, Bool, List, [], ◌∷◌, ◌++◌, Some, None, refl, sym, ap, ◌∙◌}
use Rattle.std.specs.Prelude.{if◌then◌else◌}
use Rattle.std.specs.List.{flat_map}
use Rattle.std.proofs.lemmas.List.{map-id}
use Rattle.typed_tree.specs.declared.computed.Argument.{Argument-F, map-Argument}
use Rattle.typed_tree.specs.declared.computed.Call.{Call, Call-F, map-Call}
use Rattle.typed_tree.specs.declared.computed.Component.{Component-F, map-Component}
use Rattle.typed_tree.specs.declared.computed.Link.{Link-F, map-Link}
use Rattle.typed_tree.specs.declared.computed.TypedExpr.{TypedExpr, TypedExpr-F, map-TypedExpr}
use Rattle.typed_tree.specs.declared.computed.Place.{Place, Place-F, map-Place}
use Rattle.typed_tree.specs.declared.computed.Argument.TheOpen as layer
use Rattle.typed_tree.specs.declared.statement.TypedArm.{TypedArm-F, map-TypedArm}
use Rattle.typed_tree.specs.declared.statement.TypedStmt.{TypedStmt, TypedStmt-F, map-TypedStmt}
use Rattle.typed_tree.specs.declared.statement.TypedStmt.TheOpen as step
use Rattle.typed_tree.specs.declared.types.TypeNo.{TypeNo}
use Rattle.typed_tree.specs.declared.shape.Formal.{Formal}
use Rattle.typed_tree.specs.declared.known_types.Types.{Types}
use Rattle.typed_tree.specs.declared.typed_module.Routine.{Routine}
use Rattle.typed_tree.specs.declared.typed_module.TypedModule.{TypedModule}
use Rattle.layout_storage.specs.Frames.{formals_of}
use Rattle.def_scheme.specs.Exprs.{is_own, arguments_of, all_arguments}
use Rattle.def_scheme.specs.Functions.{link_arguments, numbers_of}
use Rattle.def_scheme.specs.Signatures.{Signature, Signatures, signature, of_heading, concatenation, optional, of_expr, of_place, of_call, of_step, of_routine, signatures_needed, in_order}
use Rattle.def_scheme.specs.Signatures as sign
use Rattle.def_scheme.specs.Modules.{signatures}
use Rattle.def_exchange.specs.Moved.{Exchange, moved_type, moved_formal, moved_types}
use Rattle.def_exchange.specs.MovedTrees.{argument_moved, call_moved, component_moved, link_moved, expr_moved, place_moved, moved_expr, moved_place, moved_call, stmt_moved, arm_moved, moved_stmt, moved_routine, moved_module}
use Rattle.law_exchange_code.proofs.Lists.{two_paths, flat_kept}
use Rattle.law_exchange_code.proofs.Numbers.{same_number}
use Rattle.law_exchange_code.proofs.Lookups.{formals_moved, result_kept}
use Rattle.law_exchange_code.proofs.Fusion.{Layers, Passes, passed_expr, passed_place, passed_call}
use Rattle.law_exchange_code.proofs.StmtFusion.{StmtLayers, StmtPasses, passed_stmt}

abbrev layers : TypedModule → Layers Signatures Signatures Signatures Signatures Signatures Signatures
layers m = record {
  argument = sign.argument_layer m;
  call = sign.call_layer m;
  component = sign.component_layer m;
  link = sign.link_layer m;
  expr = sign.expr_layer m;
  place = sign.place_layer m;
}

same_all : (xs : List Signatures) → concatenation (map (λ z. z) xs) ≡ concatenation xs
same_all xs = ap concatenation (map-id xs)

module _ (x : Exchange) where
  arguments_all : (fs : List Formal) → all_arguments (map (moved_formal x) fs) ≡ all_arguments fs
  arguments_all [] = refl
  arguments_all (f ∷ fs) = ap (λ (n : ℕ). arguments_of f + n) (arguments_all fs)

  pub arguments_kept : (ts : Types) (h : TypeNo)
      → all_arguments (formals_of (moved_types x ts) (moved_type x h)) ≡ all_arguments (formals_of ts h)
  arguments_kept ts h = ap all_arguments (formals_moved x ts h) ∙ arguments_all (formals_of ts h)

  heading_kept : (ts : Types) (h : TypeNo) → of_heading (moved_types x ts) (moved_type x h) ≡ of_heading ts h
  heading_kept ts h = two_paths signature (arguments_kept ts h) (result_kept x ts h)

  pub numbers_kept : (ts : Types) (r : Routine) → numbers_of (moved_types x ts) (moved_routine x r) ≡ numbers_of ts r
  numbers_kept ts r = ap (λ (n : ℕ). link_arguments r + n) (arguments_kept ts r.heading)

  pub own_kept : (m : TypedModule) (home : ℕ) → is_own (moved_module x m) (x.there home) ≡ is_own m home
  own_kept m home = same_number x home m.types.home

module _ (x : Exchange) (m : TypedModule) where
  abbrev there : TypedModule
  there = moved_module x m

  on_argument : (y : Argument-F Signatures Signatures Signatures Signatures Signatures Signatures)
      → sign.argument_layer m (map-Argument Signatures Signatures Signatures Signatures Signatures Signatures Signatures
      Signatures Signatures Signatures Signatures Signatures (λ z. z) (λ z. z) (λ z. z) (λ z. z) (λ z. z) (λ z. z) y)
      ≡ sign.argument_layer there (argument_moved x y)
  on_argument (layer.Value t e) = refl
  on_argument (layer.Place d) = refl
  on_argument (layer.Array t d) = refl
  on_argument (layer.Open s) = refl
  on_argument (layer.Text text) = refl

  on_call : (y : Call-F Signatures Signatures Signatures Signatures Signatures Signatures)
      → sign.call_layer m (map-Call Signatures Signatures Signatures Signatures Signatures Signatures Signatures
      Signatures Signatures Signatures Signatures Signatures (λ z. z) (λ z. z) (λ z. z) (λ z. z) (λ z. z) (λ z. z) y)
      ≡ sign.call_layer there (call_moved x y)
  on_call (layer.Module f args) =
      two_paths (λ (a b : Signatures). a ++ b) (same_all args)
      (sym (two_paths (λ (b : Bool) (s : Signature). if b then [] else s ∷ []) (own_kept x m f.home)
      (heading_kept x m.types f.heading)))
  on_call (layer.Nested f args) = same_all args
  on_call (layer.Variable t d args) =
      two_paths (λ (a : Signatures) (s : Signature). d ++ (a ++ s ∷ [])) (same_all args)
      (sym (heading_kept x m.types t))

  on_component : (y : Component-F Signatures Signatures Signatures Signatures Signatures Signatures)
      → sign.component_layer m (map-Component Signatures Signatures Signatures Signatures Signatures Signatures
      Signatures Signatures Signatures Signatures Signatures Signatures (λ z. z) (λ z. z) (λ z. z) (λ z. z) (λ z. z)
      (λ z. z) y) ≡ sign.component_layer there (component_moved x y)
  on_component (layer.Field t k) = refl
  on_component (layer.Element t i) = refl
  on_component (layer.OpenElement s t i) = refl

  on_link : (y : Link-F Signatures Signatures Signatures Signatures Signatures Signatures)
      → sign.link_layer m (map-Link Signatures Signatures Signatures Signatures Signatures Signatures Signatures
      Signatures Signatures Signatures Signatures Signatures (λ z. z) (λ z. z) (λ z. z) (λ z. z) (λ z. z) (λ z. z) y)
      ≡ sign.link_layer there (link_moved x y)
  on_link (layer.Arithmetic o t b) = refl
  on_link (layer.And b) = refl
  on_link (layer.Or b) = refl
  on_link (layer.Combine o b) = refl

  on_expr : (y : TypedExpr-F Signatures Signatures Signatures Signatures Signatures Signatures)
      → sign.expr_layer m (map-TypedExpr Signatures Signatures Signatures Signatures Signatures Signatures Signatures
      Signatures Signatures Signatures Signatures Signatures (λ z. z) (λ z. z) (λ z. z) (λ z. z) (λ z. z) (λ z. z) y)
      ≡ sign.expr_layer there (expr_moved x y)
  on_expr (layer.Constant t n) = refl
  on_expr (layer.Load t d) = refl
  on_expr (layer.Procedure p) = refl
  on_expr (layer.Plus t e) = refl
  on_expr (layer.Negate e) = refl
  on_expr (layer.Chain e links) = ap (λ (z : Signatures). e ++ z) (same_all links)
  on_expr (layer.Compare o a b) = refl
  on_expr (layer.Not e) = refl
  on_expr (layer.Include o a b) = refl
  on_expr (layer.In a b) = refl
  on_expr (layer.Abs t e) = refl
  on_expr (layer.Cap e) = refl
  on_expr (layer.Chr e) = refl
  on_expr (layer.Odd e) = refl
  on_expr (layer.Ord e) = refl
  on_expr (layer.Val t e) = refl
  on_expr (layer.High s) = refl
  on_expr (layer.Call t c) = refl

  on_place : (y : Place-F Signatures Signatures Signatures Signatures Signatures Signatures)
      → sign.place_layer m (map-Place Signatures Signatures Signatures Signatures Signatures Signatures Signatures
      Signatures Signatures Signatures Signatures Signatures (λ z. z) (λ z. z) (λ z. z) (λ z. z) (λ z. z) (λ z. z) y)
      ≡ sign.place_layer there (place_moved x y)
  on_place d = same_all d.components

  abbrev pass : Passes x (layers there) (layers m)
  pass = record {
    ha = λ z. z;
    hc = λ z. z;
    hk = λ z. z;
    hl = λ z. z;
    he = λ z. z;
    hp = λ z. z;
    argument = on_argument;
    call = on_call;
    component = on_component;
    link = on_link;
    expr = on_expr;
    place = on_place;
  }

  expr_kept : (e : TypedExpr) → of_expr m e ≡ of_expr there (moved_expr x e)
  unfolding of_expr
  expr_kept e = passed_expr x (layers there) (layers m) pass e

  place_kept : (d : Place) → of_place m d ≡ of_place there (moved_place x d)
  unfolding of_place
  place_kept d = passed_place x (layers there) (layers m) pass d

  call_kept : (c : Call) → of_call m c ≡ of_call there (moved_call x c)
  unfolding of_call
  call_kept c = passed_call x (layers there) (layers m) pass c

  on_step : (y : TypedStmt-F Signatures Signatures)
      → sign.step_layer m (map-TypedStmt Signatures Signatures Signatures Signatures (λ z. z) (λ z. z) y)
      ≡ sign.step_layer there (stmt_moved x y)
  on_step (step.Assign d t e) = two_paths (λ (a b : Signatures). a ++ b) (place_kept d) (expr_kept e)
  on_step (step.Copy to from t) = two_paths (λ (a b : Signatures). a ++ b) (place_kept to) (place_kept from)
  on_step (step.CopyText d t text) = place_kept d
  on_step (step.Call c) = call_kept c
  on_step (step.Put e) = expr_kept e
  on_step (step.Change o d t e) = two_paths (λ (a b : Signatures). a ++ b) (place_kept d) (expr_kept e)
  on_step (step.Membership o d e) = two_paths (λ (a b : Signatures). a ++ b) (place_kept d) (expr_kept e)
  on_step step.Halt = refl
  on_step (step.If e body None) = two_paths (λ (a b : Signatures). a ++ b) (expr_kept e)
      (ap (λ (a : Signatures). a ++ []) (same_all body))
  on_step (step.If e body (Some ys)) = two_paths (λ (a b : Signatures). a ++ b) (expr_kept e)
      (two_paths (λ (a b : Signatures). a ++ b) (same_all body) (same_all ys))
  on_step (step.Case e arms None) = two_paths (λ (a b : Signatures). a ++ b) (expr_kept e)
      (ap (λ (a : Signatures). a ++ []) (same_all arms))
  on_step (step.Case e arms (Some ys)) = two_paths (λ (a b : Signatures). a ++ b) (expr_kept e)
      (two_paths (λ (a b : Signatures). a ++ b) (same_all arms) (same_all ys))
  on_step (step.While e body) = two_paths (λ (a b : Signatures). a ++ b) (expr_kept e) (same_all body)
  on_step (step.Repeat body e) = two_paths (λ (a b : Signatures). a ++ b) (same_all body) (expr_kept e)
  on_step (step.Loop body) = same_all body
  on_step step.Exit = refl
  on_step step.Return = refl
  on_step (step.Give t e) = expr_kept e
  on_step (step.For d t start limit by body) =
      two_paths (λ (a b : Signatures). a ++ b) (place_kept d)
      (two_paths (λ (a b : Signatures). a ++ b) (expr_kept start)
      (two_paths (λ (a b : Signatures). a ++ b) (expr_kept limit) (same_all body)))
  on_step (step.With d body) = two_paths (λ (a b : Signatures). a ++ b) (place_kept d) (same_all body)

  on_arm : (y : TypedArm-F Signatures Signatures)
      → sign.arm_layer m (map-TypedArm Signatures Signatures Signatures Signatures (λ z. z) (λ z. z) y)
      ≡ sign.arm_layer there (arm_moved x y)
  on_arm y = same_all y.body

  abbrev steps : TypedModule → StmtLayers Signatures Signatures
  steps n = record { stmt = sign.step_layer n; arm = sign.arm_layer n }

  abbrev step_pass : StmtPasses x (steps there) (steps m)
  step_pass = record { hs = λ z. z; hr = λ z. z; stmt = on_step; arm = on_arm }

  step_kept : (s : TypedStmt) → of_step there (moved_stmt x s) ≡ of_step m s
  unfolding of_step
  step_kept s = sym (passed_stmt x (steps there) (steps m) step_pass s)

  body_kept : (body : List TypedStmt) → flat_map (of_step there) (map (moved_stmt x) body) ≡ flat_map (of_step m) body
  body_kept body = flat_kept (moved_stmt x) (of_step there) (of_step m) step_kept body

  routine_kept : (r : Routine) → of_routine there (moved_routine x r) ≡ of_routine m r
  routine_kept r =
      two_paths (λ (s : Signature) (ss : Signatures). s ∷ ss)
      (two_paths signature (numbers_kept x m.types r) (result_kept x m.types r.heading)) (body_kept r.body)

  routines_kept : (rs : List Routine) → flat_map (of_routine there) (map (moved_routine x) rs)
      ≡ flat_map (of_routine m) rs
  routines_kept rs = flat_kept (moved_routine x) (of_routine there) (of_routine m) routine_kept rs

  pub signatures_kept : signatures there ≡ signatures m
  signatures_kept =
      ap in_order (two_paths (λ (a b : Signatures). a ++ b) (routines_kept m.procedures)
      (two_paths (λ (a b : Signatures). a ++ b) (routines_kept m.locals) (body_kept m.body)))
