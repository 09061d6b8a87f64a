-- The strings that a module keeps: those that are assigned to arrays or passed to open arrays, each
-- use for itself, in text order.
use Rattle.std.specs.Prelude.{ℕ, ◌+◌, ◌==◌, Bool, false, List, [], ◌∷◌, ◌++◌, length, Option, Some, None, slice_get, if◌then◌else◌}
use Rattle.std.specs.List.{flat_map}
use Rattle.typed_tree.specs.declared.computed.Argument.{Argument, Argument-F, fold-Argument}
use Rattle.typed_tree.specs.declared.computed.Argument.TheOpen as layer
use Rattle.typed_tree.specs.declared.computed.Call.{Call, Call-F, fold-Call}
use Rattle.typed_tree.specs.declared.computed.Component.{Component, Component-F, fold-Component}
use Rattle.typed_tree.specs.declared.computed.Link.{Link, Link-F, fold-Link}
use Rattle.typed_tree.specs.declared.computed.Place.{Place, Place-F, fold-Place}
use Rattle.typed_tree.specs.declared.computed.TypedExpr.{TypedExpr, TypedExpr-F, fold-TypedExpr}
use Rattle.typed_tree.specs.declared.statement.TypedStmt.{TypedStmt, TypedStmt-F, fold-TypedStmt}
use Rattle.typed_tree.specs.declared.statement.TypedStmt.TheOpen as step
use Rattle.typed_tree.specs.declared.statement.TypedArm.{TypedArm, TypedArm-F, fold-TypedArm}
use Rattle.typed_tree.specs.declared.typed_module.Routine.{Routine}
use Rattle.typed_tree.specs.declared.typed_module.Which.{Which}
use Rattle.typed_tree.specs.declared.typed_module.Which.TheVariants as which
use Rattle.typed_tree.specs.declared.typed_module.TypedModule.{TypedModule}

-- the characters of texts
abbrev pub Texts : Type 0
Texts = List (List ℕ)

abbrev pub concatenation : List Texts → Texts
concatenation [] = []
concatenation (ts ∷ more) = ts ++ concatenation more

-- a passed empty string is one character 0C
abbrev pub argument_text : List ℕ → List ℕ
argument_text [] = 0 ∷ []
argument_text (c ∷ cs) = c ∷ cs

-- ---- expressions

abbrev pub argument_texts : Argument-F Texts Texts Texts Texts Texts Texts → Texts
argument_texts (layer.Value t e) = e
argument_texts (layer.Place d) = d
argument_texts (layer.Array t d) = d
argument_texts (layer.Open slot) = []
argument_texts (layer.Text text) = argument_text text ∷ []

abbrev pub call_texts : Call-F Texts Texts Texts Texts Texts Texts → Texts
call_texts (layer.Module p args) = concatenation args
call_texts (layer.Nested p args) = concatenation args
call_texts (layer.Variable t d args) = d ++ concatenation args

abbrev pub component_texts : Component-F Texts Texts Texts Texts Texts Texts → Texts
component_texts (layer.Field t k) = []
component_texts (layer.Element t i) = i
component_texts (layer.OpenElement slot t i) = i

abbrev pub place_texts : Place-F Texts Texts Texts Texts Texts Texts → Texts
place_texts d = concatenation d.components

abbrev pub link_texts : Link-F Texts Texts Texts Texts Texts Texts → Texts
link_texts (layer.Arithmetic op t b) = b
link_texts (layer.And b) = b
link_texts (layer.Or b) = b
link_texts (layer.Combine op b) = b

abbrev pub expr_texts : TypedExpr-F Texts Texts Texts Texts Texts Texts → Texts
expr_texts (layer.Constant t n) = []
expr_texts (layer.Load t d) = d
expr_texts (layer.Procedure p) = []
expr_texts (layer.Plus t e) = e
expr_texts (layer.Negate e) = e
expr_texts (layer.Chain a links) = a ++ concatenation links
expr_texts (layer.Compare op a b) = a ++ b
expr_texts (layer.Not e) = e
expr_texts (layer.Include op a b) = a ++ b
expr_texts (layer.In a b) = a ++ b
expr_texts (layer.Abs t e) = e
expr_texts (layer.Cap e) = e
expr_texts (layer.Chr e) = e
expr_texts (layer.Odd e) = e
expr_texts (layer.Ord e) = e
expr_texts (layer.Val t e) = e
expr_texts (layer.High slot) = []
expr_texts (layer.Call t c) = c

unfoldable pub texts_of : TypedExpr → Texts
texts_of =
    fold-TypedExpr Texts Texts Texts Texts Texts Texts argument_texts call_texts component_texts
    link_texts expr_texts place_texts

unfoldable pub texts_at : Place → Texts
texts_at =
    fold-Place Texts Texts Texts Texts Texts Texts argument_texts call_texts component_texts
    link_texts expr_texts place_texts

unfoldable pub texts_called : Call → Texts
texts_called =
    fold-Call Texts Texts Texts Texts Texts Texts argument_texts call_texts component_texts
    link_texts expr_texts place_texts

unfoldable pub texts_linked : Link → Texts
texts_linked =
    fold-Link Texts Texts Texts Texts Texts Texts argument_texts call_texts component_texts
    link_texts expr_texts place_texts

unfoldable pub texts_behind : Component → Texts
texts_behind =
    fold-Component Texts Texts Texts Texts Texts Texts argument_texts call_texts component_texts
    link_texts expr_texts place_texts

unfoldable pub texts_passed : Argument → Texts
texts_passed =
    fold-Argument Texts Texts Texts Texts Texts Texts argument_texts call_texts component_texts
    link_texts expr_texts place_texts

-- ---- statements

abbrev pub optional : Option (List Texts) → Texts
optional None = []
optional (Some xs) = concatenation xs

abbrev pub step_texts : TypedStmt-F Texts Texts → Texts
step_texts (step.Assign d t e) = texts_at d ++ texts_of e
step_texts (step.Copy to from t) = texts_at to ++ texts_at from
step_texts (step.CopyText d t text) = texts_at d ++ text ∷ []
step_texts (step.Call c) = texts_called c
step_texts (step.Put e) = texts_of e
step_texts (step.Change op d t e) = texts_at d ++ texts_of e
step_texts (step.Membership op d e) = texts_at d ++ texts_of e
step_texts step.Halt = []
step_texts (step.If e body others) = texts_of e ++ (concatenation body ++ optional others)
step_texts (step.Case e arms others) = texts_of e ++ (concatenation arms ++ optional others)
step_texts (step.While e body) = texts_of e ++ concatenation body
step_texts (step.Repeat body e) = concatenation body ++ texts_of e
step_texts (step.Loop body) = concatenation body
step_texts step.Exit = []
step_texts step.Return = []
step_texts (step.Give t e) = texts_of e
step_texts (step.For d t start limit by body) =
    texts_at d ++ (texts_of start ++ (texts_of limit ++ concatenation body))
step_texts (step.With d body) = texts_at d ++ concatenation body

abbrev pub arm_texts : TypedArm-F Texts Texts → Texts
arm_texts a = concatenation a.body

unfoldable pub texts_in : TypedStmt → Texts
texts_in = fold-TypedStmt Texts Texts step_texts arm_texts

unfoldable pub texts_armed : TypedArm → Texts
texts_armed = fold-TypedArm Texts Texts step_texts arm_texts

abbrev pub body_texts : List TypedStmt → Texts
body_texts body = flat_map texts_in body

-- ---- modules

abbrev pub routine_texts : Option Routine → Texts
routine_texts None = []
routine_texts (Some r) = body_texts r.body

abbrev pub which_texts : TypedModule → Which → Texts
which_texts m (which.Module n) = routine_texts (slice_get m.procedures n)
which_texts m (which.Local n) = routine_texts (slice_get m.locals n)

abbrev pub routines_texts : TypedModule → Texts
routines_texts m = flat_map (which_texts m) m.order

-- the body of the module stands last
abbrev pub module_texts : TypedModule → Texts
module_texts m = routines_texts m ++ body_texts m.body

-- the characters of texts
abbrev pub characters : Texts → ℕ
characters [] = 0
characters (t ∷ ts) = length t + characters ts

-- the texts of the procedures whose bodies stand before the body of a procedure
abbrev pub is_which : Which → Which → Bool
is_which (which.Module m) (which.Module n) = m == n
is_which (which.Module m) (which.Local n) = false
is_which (which.Local m) (which.Module n) = false
is_which (which.Local m) (which.Local n) = m == n

abbrev pub texts_before : TypedModule → Which → List Which → Texts
texts_before m w [] = []
texts_before m w (v ∷ vs) = if is_which w v then [] else which_texts m v ++ texts_before m w vs
