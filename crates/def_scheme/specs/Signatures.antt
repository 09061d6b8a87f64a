-- The types of functions that a module needs: the types of its procedures, and of its calls through
-- the table.
use Rattle.std.specs.Prelude.{ℕ, zero, suc, ◌+◌, ◌==◌, ◌&&◌, ◌||◌, nat_le, Bool, true, false, not, List, [], ◌∷◌, ◌++◌, map, length, Option, Some, None, if◌then◌else◌}
use Rattle.std.specs.List.{fold, flat_map, list_any, position, range_with_len}
use Rattle.std.specs.Option.{unwrap_or}
use Rattle.wasm_tree.specs.declared.kinds.ValueType.{ValueType}
use Rattle.wasm_tree.specs.declared.kinds.ValueType.TheVariants.{I32, I64}
use Rattle.wasm_tree.specs.declared.kinds.FuncType.{FuncType}
use Rattle.typed_tree.specs.declared.computed.Argument.{Argument, Argument-F, fold-Argument}
use Rattle.typed_tree.specs.declared.computed.Argument.TheOpen as layer
use Rattle.typed_tree.specs.declared.computed.Call.{Call, Call-F, fold-Call}
use Rattle.typed_tree.specs.declared.computed.Component.{Component-F}
use Rattle.typed_tree.specs.declared.computed.Link.{Link-F}
use Rattle.typed_tree.specs.declared.computed.Place.{Place, Place-F, fold-Place}
use Rattle.typed_tree.specs.declared.computed.TypedExpr.{TypedExpr, TypedExpr-F, fold-TypedExpr}
use Rattle.typed_tree.specs.declared.statement.TypedStmt.{TypedStmt, TypedStmt-F, fold-TypedStmt}
use Rattle.typed_tree.specs.declared.statement.TypedStmt.TheOpen as step
use Rattle.typed_tree.specs.declared.statement.TypedArm.{TypedArm, TypedArm-F, fold-TypedArm}
use Rattle.typed_tree.specs.declared.types.TypeNo.{TypeNo}
use Rattle.typed_tree.specs.declared.known_types.Types.{Types}
use Rattle.typed_tree.specs.declared.typed_module.Routine.{Routine}
use Rattle.typed_tree.specs.declared.typed_module.TypedModule.{TypedModule}
use Rattle.layout_storage.specs.Frames.{formals_of}
use Rattle.def_scheme.specs.Exprs.{is_own, all_arguments, has_result}
use Rattle.def_scheme.specs.Functions.{numbers_of}

-- how many arguments of 64 bits, and whether there is a result
pub record Signature : Type 0 where
  pub arguments : ℕ
  pub result : Bool

abbrev pub Signatures : Type 0
Signatures = List Signature

abbrev pub signature : ℕ → Bool → Signature
signature n result = record { arguments = n; result = result }

abbrev pub of_heading : Types → TypeNo → Signature
of_heading types h = signature (all_arguments (formals_of types h)) (has_result types h)

abbrev pub concatenation : List Signatures → Signatures
concatenation [] = []
concatenation (ss ∷ more) = ss ++ concatenation more

abbrev pub optional : Option (List Signatures) → Signatures
optional None = []
optional (Some xs) = concatenation xs

-- ---- calls through the table: of procedures of other modules, and of procedure variables

module _ (m : TypedModule) where
  abbrev pub argument_layer :
      Argument-F Signatures Signatures Signatures Signatures Signatures Signatures → Signatures
  argument_layer (layer.Value t e) = e
  argument_layer (layer.Place d) = d
  argument_layer (layer.Array t d) = d
  argument_layer (layer.Open slot) = []
  argument_layer (layer.Text text) = []

  abbrev pub call_layer : Call-F Signatures Signatures Signatures Signatures Signatures Signatures
      → Signatures
  call_layer (layer.Module f args) =
      concatenation args ++ (if is_own m f.home then [] else of_heading m.types f.heading ∷ [])
  call_layer (layer.Nested f args) = concatenation args
  call_layer (layer.Variable t d args) = d ++ (concatenation args ++ of_heading m.types t ∷ [])

  abbrev pub component_layer :
      Component-F Signatures Signatures Signatures Signatures Signatures Signatures → Signatures
  component_layer (layer.Field t k) = []
  component_layer (layer.Element t i) = i
  component_layer (layer.OpenElement slot t i) = i

  abbrev pub place_layer : Place-F Signatures Signatures Signatures Signatures Signatures Signatures
      → Signatures
  place_layer d = concatenation d.components

  abbrev pub link_layer : Link-F Signatures Signatures Signatures Signatures Signatures Signatures
      → Signatures
  link_layer (layer.Arithmetic op t b) = b
  link_layer (layer.And b) = b
  link_layer (layer.Or b) = b
  link_layer (layer.Combine op b) = b

  abbrev pub expr_layer :
      TypedExpr-F Signatures Signatures Signatures Signatures Signatures Signatures → Signatures
  expr_layer (layer.Constant t n) = []
  expr_layer (layer.Load t d) = d
  expr_layer (layer.Procedure p) = []
  expr_layer (layer.Plus t e) = e
  expr_layer (layer.Negate e) = e
  expr_layer (layer.Chain a links) = a ++ concatenation links
  expr_layer (layer.Compare op a b) = a ++ b
  expr_layer (layer.Not e) = e
  expr_layer (layer.Include op a b) = a ++ b
  expr_layer (layer.In a b) = a ++ b
  expr_layer (layer.Abs t e) = e
  expr_layer (layer.Cap e) = e
  expr_layer (layer.Chr e) = e
  expr_layer (layer.Odd e) = e
  expr_layer (layer.Ord e) = e
  expr_layer (layer.Val t e) = e
  expr_layer (layer.High slot) = []
  expr_layer (layer.Call t c) = c

  unfoldable pub of_expr : TypedExpr → Signatures
  of_expr =
      fold-TypedExpr Signatures Signatures Signatures Signatures Signatures Signatures
      argument_layer call_layer component_layer link_layer expr_layer place_layer

  unfoldable pub of_place : Place → Signatures
  of_place =
      fold-Place Signatures Signatures Signatures Signatures Signatures Signatures argument_layer
      call_layer component_layer link_layer expr_layer place_layer

  unfoldable pub of_call : Call → Signatures
  of_call =
      fold-Call Signatures Signatures Signatures Signatures Signatures Signatures argument_layer
      call_layer component_layer link_layer expr_layer place_layer

  abbrev pub step_layer : TypedStmt-F Signatures Signatures → Signatures
  step_layer (step.Assign d t e) = of_place d ++ of_expr e
  step_layer (step.Copy to from t) = of_place to ++ of_place from
  step_layer (step.CopyText d t text) = of_place d
  step_layer (step.Call c) = of_call c
  step_layer (step.Put e) = of_expr e
  step_layer (step.Change o d t e) = of_place d ++ of_expr e
  step_layer (step.Membership o d e) = of_place d ++ of_expr e
  step_layer step.Halt = []
  step_layer (step.If e body others) = of_expr e ++ (concatenation body ++ optional others)
  step_layer (step.Case e arms others) = of_expr e ++ (concatenation arms ++ optional others)
  step_layer (step.While e body) = of_expr e ++ concatenation body
  step_layer (step.Repeat body e) = concatenation body ++ of_expr e
  step_layer (step.Loop body) = concatenation body
  step_layer step.Exit = []
  step_layer step.Return = []
  step_layer (step.Give t e) = of_expr e
  step_layer (step.For d t start limit by body) =
      of_place d ++ (of_expr start ++ (of_expr limit ++ concatenation body))
  step_layer (step.With d body) = of_place d ++ concatenation body

  abbrev pub arm_layer : TypedArm-F Signatures Signatures → Signatures
  arm_layer x = concatenation x.body

  unfoldable pub of_step : TypedStmt → Signatures
  of_step = fold-TypedStmt Signatures Signatures step_layer arm_layer

  abbrev pub of_routine : Routine → Signatures
  of_routine r =
      signature (numbers_of m.types r) (has_result m.types r.heading) ∷ flat_map of_step r.body

  -- all that are needed, in any order
  abbrev pub signatures_needed : Signatures
  signatures_needed =
      flat_map of_routine m.procedures ++ (flat_map of_routine m.locals ++ flat_map of_step m.body)

-- ---- numbers

abbrev pub same_result : Bool → Bool → Bool
same_result true true = true
same_result true false = false
same_result false true = false
same_result false false = true

abbrev pub is_same : Signature → Signature → Bool
is_same a b = a.arguments == b.arguments && same_result a.result b.result

abbrev pub is_among : Signatures → Signature → Bool
is_among ss s = list_any (is_same s) ss

abbrev pub greater : ℕ → ℕ → ℕ
greater a b = if nat_le a b then b else a

abbrev pub most_arguments : Signatures → ℕ
most_arguments ss = fold (λ so s. greater so s.arguments) 0 ss

abbrev pub if_among : Signatures → Signature → Signatures
if_among ss s = if is_among ss s then s ∷ [] else []

-- by the number of arguments, without result first, each once; the type of bodies has none and no
-- result
abbrev pub of_arguments : Signatures → ℕ → Signatures
of_arguments ss zero = if_among ss (signature 0 true)
of_arguments ss (suc n) =
    if_among ss (signature (suc n) false) ++ if_among ss (signature (suc n) true)

abbrev pub in_order : Signatures → Signatures
in_order ss = flat_map (of_arguments ss) (range_with_len 0 (suc (most_arguments ss)))

abbrev pub body_signature : Signature
body_signature = signature 0 false

-- the types of helpers and of bodies stand before them
abbrev pub number_of : Signatures → ℕ → Bool → ℕ
number_of ss n result =
    if is_same (signature n result) body_signature
    then 5
    else 6 + unwrap_or (position (is_same (signature n result)) ss) 0

-- ---- types

abbrev pub so_many : ℕ → List ValueType
so_many zero = []
so_many (suc n) = I64 ∷ so_many n

abbrev pub results_of : Bool → List ValueType
results_of true = I64 ∷ []
results_of false = []

abbrev pub type_of : Signature → FuncType
type_of s = record { params = I32 ∷ so_many s.arguments; results = results_of s.result }
