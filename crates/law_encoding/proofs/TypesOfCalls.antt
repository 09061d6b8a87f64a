-- The types of calls through the table count at most two for each that a well formed tree counts.
use Rattle.std.proofs.Common.{map, ◌≡◌, ℕ, suc, ◌+◌, ◌*◌, ◌≤◌, Bool, true, false, List, [], ◌∷◌, ◌++◌, length, Some, None, refl, sym, subst, arith}
use Rattle.std.specs.Prelude.{if◌then◌else◌}
use Rattle.typed_tree.specs.declared.computed.Argument.{Argument}
use Rattle.typed_tree.specs.declared.computed.Argument.TheOpen as layer
use Rattle.typed_tree.specs.declared.computed.Argument.TheVariants as argument
use Rattle.typed_tree.specs.declared.computed.Call.{Call}
use Rattle.typed_tree.specs.declared.computed.Call.TheVariants as call
use Rattle.typed_tree.specs.declared.computed.Component.{Component}
use Rattle.typed_tree.specs.declared.computed.Component.TheVariants as component
use Rattle.typed_tree.specs.declared.computed.Link.{Link}
use Rattle.typed_tree.specs.declared.computed.Link.TheVariants as link
use Rattle.typed_tree.specs.declared.computed.Place.{Place, out-Place}
use Rattle.typed_tree.specs.declared.computed.TypedExpr.{TypedExpr}
use Rattle.typed_tree.specs.declared.computed.TypedExpr.TheVariants as expr
use Rattle.typed_tree.specs.declared.shape.Formal.{Formal}
use Rattle.typed_tree.specs.declared.statement.TypedArm.{TypedArm, out-TypedArm}
use Rattle.typed_tree.specs.declared.statement.TypedStmt.{TypedStmt}
use Rattle.typed_tree.specs.declared.statement.TypedStmt.TheOpen as step
use Rattle.typed_tree.specs.declared.statement.TypedStmt.TheVariants as stmt
use Rattle.typed_tree.specs.declared.typed_module.TypedModule.{TypedModule}
use Rattle.layout_storage.specs.Frames.{formals_of}
use Rattle.def_scheme.specs.Exprs.{is_own, all_arguments}
use Rattle.def_scheme.specs.Signatures.{Signature, Signatures, of_heading, concatenation, of_expr, of_place, of_call, of_step}
use Rattle.law_modules.specs.WellFormed.{IsExpr, Constant, Load, ProcedureValue, Plus, Negate, Chain, Compare, Not, Include, In, Abs, Cap, Chr, Odd, Ord, Val, High, FunctionCall, AreLinks, no_links, more_links, IsLink, Operated, And as AndOf, Or as OrOf, Combine, IsPlace, Designator, AreComponents, no_components, more_components, IsComponent, FieldOf, Element, OpenElement, IsCall, OfModule, OfProcedure, OfVariable, AreArguments, no_arguments, more_arguments, IsArgument, Value, Actual, ActualArray, Open, Text}
use Rattle.law_modules.specs.WellFormed.{IsStmt, Assign, Copy, CopyText, ProcedureCall, Put, Changed, Member, Halt, If, Case, While, Repeat, Loop, Exit, Return, Give, For, With, AreStmts, no_stmts, more_stmts, no_others, others, AreArms, no_arms, more_arms}
use Rattle.law_encoding.specs.Sizes.{sum_of}
use Rattle.law_encoding.specs.TypedSizes.{size_typed, size_place, size_component, size_link, size_call, size_passed, size_step, size_arm, size_body}
use Rattle.law_encoding.specs.FunctionTypes.{type_counts, types_count}
use Rattle.law_encoding.proofs.Sums.{sum_append}
use Rattle.law_encoding.proofs.Ways.{by_size}
use Rattle.law_encoding.proofs.Weighed as typed
use Rattle.law_encoding.proofs.TableCalls.{of_argument, of_component, of_link, at_argument, at_call, at_component, at_link, at_expr, at_place}
use Rattle.law_encoding.proofs.TableSteps.{of_arm, at_step, at_arm}

-- ---- sums

abbrev Few : Signatures → ℕ → Type 0
Few ss n = types_count ss ≤ 2 * n

carry : {a b : Signatures} {n k : ℕ} → a ≡ b → n ≡ k → Few b k → Few a n
carry {a = a} {k = k} e q p = subst (λ (j : ℕ). Few a j) (sym q) (subst (λ (ss : Signatures). Few ss k) (sym e) p)

both_sum : (a b c n k : ℕ) → a ≡ b + c → b ≤ 2 * n → c ≤ 2 * k → a ≤ 2 * (n + k)
both_sum a b c n k e h l = omega (arith, e, h, l)

both : (xs ys : Signatures) (n k : ℕ) → Few xs n → Few ys k → Few (xs ++ ys) (n + k)
both xs ys n k p q = both_sum _ (types_count xs) _ n k (sum_append type_counts xs ys) p q

none : (n : ℕ) → Few [] n
none n = omega arith

one : (a n : ℕ) → a ≤ 2 * n → a ≤ 2 * (1 + n)
one a n h = omega (arith, h)

two : (a n k : ℕ) → a ≤ 2 * (n + k) → a ≤ 2 * (1 + n + k)
two a n k h = omega (arith, h)

change : (a n k : ℕ) → a ≤ 2 * (n + k) → a ≤ 2 * (2 + n + k)
change a n k h = omega (arith, h)

sides : (a n k o : ℕ) → a ≤ 2 * (n + (k + o)) → a ≤ 2 * (1 + (n + k + o))
sides a n k o h = omega (arith, h)

cases : (a n k o : ℕ) → a ≤ 2 * (n + (k + o)) → a ≤ 2 * (6 + (n + k + o))
cases a n k o h = omega (arith, h)

course : (a d s l b : ℕ) → a ≤ 2 * (d + (s + (l + b))) → a ≤ 2 * (1 + (5 * d + s + l + b))
course a d s l b h = omega (arith, h)

arm : (a l b : ℕ) → a ≤ 2 * b → a ≤ 2 * (1 + l + b)
arm a l b h = omega (arith, h)

along : (j : ℕ) {a b : Signatures} {n k : ℕ} → a ≡ b → n ≡ k → types_count b + j ≤ 2 * k → types_count a + j ≤ 2 * n
along j {a = a} {k = k} e q p = subst (λ (i : ℕ). types_count a + j ≤ 2 * i) (sym q)
    (subst (λ (ss : Signatures). types_count ss + j ≤ 2 * k) (sym e) p)

-- ---- calls: for each formal there is an argument

with_one : (a n : ℕ) → a ≤ 2 * n → a + 1 ≤ 2 * (1 + n)
with_one a n h = omega (arith, h)

with_two : (a n : ℕ) → a ≤ 2 * n → a + 2 ≤ 2 * (1 + n)
with_two a n h = omega (arith, h)

next_argument : (a b c f g n k : ℕ) → a ≡ b + c → b + f ≤ 2 * n → c + g ≤ 2 * k → a + (f + g) ≤ 2 * (n + k)
next_argument a b c f g n k e h l = omega (arith, e, h, l)

args_alone : (a f n : ℕ) → a + f ≤ 2 * n → a ≤ 2 * (1 + n)
args_alone a f n h = omega (arith, h)

own_sum : (a b f n : ℕ) → a ≡ b + 0 → b + f ≤ 2 * n → a ≤ 2 * (1 + n)
own_sum a b f n e h = omega (arith, e, h)

heading_sum : (a b f n : ℕ) → a ≡ b + (1 + f + 0) → b + f ≤ 2 * n → a ≤ 2 * (1 + n)
heading_sum a b f n e h = omega (arith, e, h)

variable_sum : (a d b c f n k : ℕ) → a ≡ d + b → b ≡ c + (1 + f + 0) → d ≤ 2 * n → c + f ≤ 2 * k → a ≤ 2 * (1 + n + k)
variable_sum a d b c f n k e q h l = omega (arith, e, q, h, l)

heading_by : (b : Bool) (args : Signatures) (s : Signature) (n : ℕ) → types_count args + s.arguments ≤ 2 * n
    → Few (args ++ (if b then [] else s ∷ [])) (1 + n)
heading_by true args s n h = own_sum _ (types_count args) s.arguments n (sum_append type_counts args []) h
heading_by false args s n h = heading_sum _ (types_count args) s.arguments n (sum_append type_counts args (s ∷ [])) h

module _ (m : TypedModule) (w : ℕ) where
  mutual
    pub expr_types : (e : TypedExpr) → IsExpr m w e → Few (of_expr m e) (size_typed e)
    expr_types _ (Constant t v) = carry (at_expr m (expr.Constant t v) (layer.Constant t v) (expr.outs-Constant t v))
        (typed.expr_is by_size _ (expr.outs-Constant t v)) (none 1)
    expr_types _ (Load t d s x) = carry (at_expr m (expr.Load t d) (layer.Load t d) (expr.outs-Load t d))
        (typed.expr_is by_size _ (expr.outs-Load t d)) (one _ (size_place d) (place_types d x))
    expr_types _ (ProcedureValue f p) = carry (at_expr m (expr.Procedure f) (layer.Procedure f) (expr.outs-Procedure f))
        (typed.expr_is by_size _ (expr.outs-Procedure f)) (none 1)
    expr_types _ (Plus t e x) = carry (at_expr m (expr.Plus t e) (layer.Plus t e) (expr.outs-Plus t e))
        (typed.expr_is by_size _ (expr.outs-Plus t e)) (one _ (size_typed e) (expr_types e x))
    expr_types _ (Negate e x) = carry (at_expr m (expr.Negate e) (layer.Negate e) (expr.outs-Negate e))
        (typed.expr_is by_size _ (expr.outs-Negate e)) (one _ (size_typed e) (expr_types e x))
    expr_types _ (Not e x) = carry (at_expr m (expr.Not e) (layer.Not e) (expr.outs-Not e))
        (typed.expr_is by_size _ (expr.outs-Not e)) (one _ (size_typed e) (expr_types e x))
    expr_types _ (Abs t e x) = carry (at_expr m (expr.Abs t e) (layer.Abs t e) (expr.outs-Abs t e))
        (typed.expr_is by_size _ (expr.outs-Abs t e)) (one _ (size_typed e) (expr_types e x))
    expr_types _ (Cap e x) = carry (at_expr m (expr.Cap e) (layer.Cap e) (expr.outs-Cap e))
        (typed.expr_is by_size _ (expr.outs-Cap e)) (one _ (size_typed e) (expr_types e x))
    expr_types _ (Chr e x) = carry (at_expr m (expr.Chr e) (layer.Chr e) (expr.outs-Chr e))
        (typed.expr_is by_size _ (expr.outs-Chr e)) (one _ (size_typed e) (expr_types e x))
    expr_types _ (Odd e x) = carry (at_expr m (expr.Odd e) (layer.Odd e) (expr.outs-Odd e))
        (typed.expr_is by_size _ (expr.outs-Odd e)) (one _ (size_typed e) (expr_types e x))
    expr_types _ (Ord e x) = carry (at_expr m (expr.Ord e) (layer.Ord e) (expr.outs-Ord e))
        (typed.expr_is by_size _ (expr.outs-Ord e)) (one _ (size_typed e) (expr_types e x))
    expr_types _ (Val t e x) = carry (at_expr m (expr.Val t e) (layer.Val t e) (expr.outs-Val t e))
        (typed.expr_is by_size _ (expr.outs-Val t e)) (one _ (size_typed e) (expr_types e x))
    expr_types _ (Chain e ls x xs) = carry (at_expr m (expr.Chain e ls) (layer.Chain e ls) (expr.outs-Chain e ls))
        (typed.expr_is by_size _ (expr.outs-Chain e ls))
        (two _ (size_typed e) (sum_of size_link ls)
        (both (of_expr m e) _ (size_typed e) _ (expr_types e x) (links_types ls xs)))
    expr_types _ (Compare o e f x y) = carry
        (at_expr m (expr.Compare o e f) (layer.Compare o e f) (expr.outs-Compare o e f))
        (typed.expr_is by_size _ (expr.outs-Compare o e f))
        (two _ (size_typed e) (size_typed f) (both (of_expr m e) (of_expr m f) (size_typed e) (size_typed f)
        (expr_types e x) (expr_types f y)))
    expr_types _ (Include o e f x y) = carry
        (at_expr m (expr.Include o e f) (layer.Include o e f) (expr.outs-Include o e f))
        (typed.expr_is by_size _ (expr.outs-Include o e f))
        (two _ (size_typed e) (size_typed f) (both (of_expr m e) (of_expr m f) (size_typed e) (size_typed f)
        (expr_types e x) (expr_types f y)))
    expr_types _ (In e f x y) = carry (at_expr m (expr.In e f) (layer.In e f) (expr.outs-In e f))
        (typed.expr_is by_size _ (expr.outs-In e f))
        (two _ (size_typed e) (size_typed f) (both (of_expr m e) (of_expr m f) (size_typed e) (size_typed f)
        (expr_types e x) (expr_types f y)))
    expr_types _ (High slot) = carry (at_expr m (expr.High slot) (layer.High slot) (expr.outs-High slot))
        (typed.expr_is by_size _ (expr.outs-High slot)) (none 1)
    expr_types _ (FunctionCall t c x) = carry (at_expr m (expr.Call t c) (layer.Call t c) (expr.outs-Call t c))
        (typed.expr_is by_size _ (expr.outs-Call t c)) (one _ (size_call c) (call_types c true x))

    links_types : (ls : List Link) → AreLinks m w ls → Few (concatenation (map (of_link m) ls)) (sum_of size_link ls)
    links_types _ no_links = none 0
    links_types _ (more_links x xs y ys) =
        both (of_link m x) _ (size_link x) (sum_of size_link xs) (link_types x y) (links_types xs ys)

    link_types : (x : Link) → IsLink m w x → Few (of_link m x) (size_link x)
    link_types _ (Operated o t e x) = carry
        (at_link m (link.Arithmetic o t e) (layer.Arithmetic o t e) (link.outs-Arithmetic o t e))
        (typed.link_is by_size _ (link.outs-Arithmetic o t e)) (one _ (size_typed e) (expr_types e x))
    link_types _ (AndOf e x) = carry (at_link m (link.And e) (layer.And e) (link.outs-And e))
        (typed.link_is by_size _ (link.outs-And e)) (one _ (size_typed e) (expr_types e x))
    link_types _ (OrOf e x) = carry (at_link m (link.Or e) (layer.Or e) (link.outs-Or e))
        (typed.link_is by_size _ (link.outs-Or e)) (one _ (size_typed e) (expr_types e x))
    link_types _ (Combine o e x) = carry (at_link m (link.Combine o e) (layer.Combine o e) (link.outs-Combine o e))
        (typed.link_is by_size _ (link.outs-Combine o e)) (one _ (size_typed e) (expr_types e x))

    pub place_types : (d : Place) → IsPlace m w d → Few (of_place m d) (size_place d)
    place_types _ (Designator d r xs) = carry (at_place m d (out-Place d) refl) (typed.place_sum by_size d)
        (one _ (sum_of size_component d.components) (components_types d.components xs))

    components_types : (cs : List Component) → AreComponents m w cs
        → Few (concatenation (map (of_component m) cs)) (sum_of size_component cs)
    components_types _ no_components = none 0
    components_types _ (more_components x xs y ys) =
        both (of_component m x) _ (size_component x) (sum_of size_component xs) (component_types x y)
        (components_types xs ys)

    component_types : (x : Component) → IsComponent m w x → Few (of_component m x) (size_component x)
    component_types _ (FieldOf t n) = carry
        (at_component m (component.Field t n) (layer.Field t n) (component.outs-Field t n))
        (typed.component_is by_size _ (component.outs-Field t n)) (none 1)
    component_types _ (Element t i x) = carry
        (at_component m (component.Element t i) (layer.Element t i) (component.outs-Element t i))
        (typed.component_is by_size _ (component.outs-Element t i)) (one _ (size_typed i) (expr_types i x))
    component_types _ (OpenElement slot t i x) =
        carry (at_component m (component.OpenElement slot t i) (layer.OpenElement slot t i)
        (component.outs-OpenElement slot t i)) (typed.component_is by_size _ (component.outs-OpenElement slot t i))
        (one _ (size_typed i) (expr_types i x))

    pub call_types : (c : Call) (r : Bool) → IsCall m w c r → Few (of_call m c) (size_call c)
    call_types _ _ (OfModule f xs r p e ys) =
        carry (at_call m (call.Module f xs) (layer.Module f xs) (call.outs-Module f xs))
        (typed.call_is by_size _ (call.outs-Module f xs))
        (heading_by (is_own m f.home) (concatenation (map (of_argument m) xs)) (of_heading m.types f.heading)
        (sum_of size_passed xs) (arguments_types xs (formals_of m.types f.heading) ys))
    call_types _ _ (OfProcedure f xs r p e ys) =
        carry (at_call m (call.Nested f xs) (layer.Nested f xs) (call.outs-Nested f xs))
        (typed.call_is by_size _ (call.outs-Nested f xs))
        (args_alone _ (all_arguments (formals_of m.types f.heading)) (sum_of size_passed xs)
        (arguments_types xs (formals_of m.types f.heading) ys))
    call_types _ _ (OfVariable t d xs r s x e ys) =
        let args = concatenation (map (of_argument m) xs) in
        let heading = of_heading m.types t ∷ [] in
        carry (at_call m (call.Variable t d xs) (layer.Variable t d xs) (call.outs-Variable t d xs))
        (typed.call_is by_size _ (call.outs-Variable t d xs))
        (variable_sum _ (types_count (of_place m d)) _ (types_count args) (all_arguments (formals_of m.types t))
        (size_place d) (sum_of size_passed xs) (sum_append type_counts (of_place m d) (args ++ heading))
        (sum_append type_counts args heading)
        (place_types d x) (arguments_types xs (formals_of m.types t) ys))

    arguments_types : (xs : List Argument) (fs : List Formal) → AreArguments m w xs fs
        → types_count (concatenation (map (of_argument m) xs)) + all_arguments fs ≤ 2 * sum_of size_passed xs
    arguments_types _ _ no_arguments = omega arith
    arguments_types _ _ (more_arguments x xs f fs y ys) =
        next_argument _ (types_count (of_argument m x)) _ (if f.is_open then 2 else 1) (all_arguments fs)
        (size_passed x) (sum_of size_passed xs)
        (sum_append type_counts (of_argument m x) (concatenation (map (of_argument m) xs)))
        (argument_types x f.is_open y) (arguments_types xs fs ys)

    argument_types : (x : Argument) (q : Bool) → IsArgument m w x q
        → types_count (of_argument m x) + (if q then 2 else 1) ≤ 2 * size_passed x
    argument_types _ _ (Value t e x) = along 1
        (at_argument m (argument.Value t e) (layer.Value t e) (argument.outs-Value t e))
        (typed.argument_is by_size _ (argument.outs-Value t e)) (with_one _ (size_typed e) (expr_types e x))
    argument_types _ _ (Actual d x) = along 1 (at_argument m (argument.Place d) (layer.Place d) (argument.outs-Place d))
        (typed.argument_is by_size _ (argument.outs-Place d)) (with_one _ (size_place d) (place_types d x))
    argument_types _ _ (ActualArray t d x) =
        along 2 (at_argument m (argument.Array t d) (layer.Array t d) (argument.outs-Array t d))
        (typed.argument_is by_size _ (argument.outs-Array t d)) (with_two _ (size_place d) (place_types d x))
    argument_types _ _ (Open slot) = along 2
        (at_argument m (argument.Open slot) (layer.Open slot) (argument.outs-Open slot))
        (typed.argument_is by_size _ (argument.outs-Open slot)) (omega arith)
    argument_types _ _ (Text text) = along 2
        (at_argument m (argument.Text text) (layer.Text text) (argument.outs-Text text))
        (typed.argument_is by_size _ (argument.outs-Text text)) (omega arith)

-- ---- statements

module _ (m : TypedModule) (gives : Bool) where
  mutual
    pub step_types : (w : ℕ) (l : Bool) (x : TypedStmt) → IsStmt m gives w l x → Few (of_step m x) (size_step x)
    step_types _ _ _ (Assign w l d t e s x y) =
        carry (at_step m (stmt.Assign d t e) (step.Assign d t e) (stmt.outs-Assign d t e))
        (typed.step_is by_size _ (stmt.outs-Assign d t e))
        (two _ (size_place d) (size_typed e) (both (of_place m d) (of_expr m e) (size_place d) (size_typed e)
        (place_types m w d x) (expr_types m w e y)))
    step_types _ _ _ (Copy w l to from t x y) =
        carry (at_step m (stmt.Copy to from t) (step.Copy to from t) (stmt.outs-Copy to from t))
        (typed.step_is by_size _ (stmt.outs-Copy to from t))
        (two _ (size_place to) (size_place from)
        (both (of_place m to) (of_place m from) (size_place to) (size_place from) (place_types m w to x)
        (place_types m w from y)))
    step_types _ _ _ (CopyText w l d t text x) =
        carry (at_step m (stmt.CopyText d t text) (step.CopyText d t text) (stmt.outs-CopyText d t text))
        (typed.step_is by_size _ (stmt.outs-CopyText d t text)) (one _ (size_place d) (place_types m w d x))
    step_types _ _ _ (ProcedureCall w l c x) =
        carry (at_step m (stmt.Call c) (step.Call c) (stmt.outs-Call c)) (typed.step_is by_size _ (stmt.outs-Call c))
        (call_types m w c false x)
    step_types _ _ _ (Put w l e x) = carry (at_step m (stmt.Put e) (step.Put e) (stmt.outs-Put e))
        (typed.step_is by_size _ (stmt.outs-Put e)) (one _ (size_typed e) (expr_types m w e x))
    step_types _ _ _ (Changed w l o d t e s x y) =
        carry (at_step m (stmt.Change o d t e) (step.Change o d t e) (stmt.outs-Change o d t e))
        (typed.step_is by_size _ (stmt.outs-Change o d t e))
        (change _ (size_place d) (size_typed e)
        (both (of_place m d) (of_expr m e) (size_place d) (size_typed e) (place_types m w d x) (expr_types m w e y)))
    step_types _ _ _ (Member w l o d e x y) =
        carry (at_step m (stmt.Membership o d e) (step.Membership o d e) (stmt.outs-Membership o d e))
        (typed.step_is by_size _ (stmt.outs-Membership o d e))
        (change _ (size_place d) (size_typed e)
        (both (of_place m d) (of_expr m e) (size_place d) (size_typed e) (place_types m w d x) (expr_types m w e y)))
    step_types _ _ _ (Halt w l) = carry (at_step m stmt.Halt step.Halt stmt.outs-Halt)
        (typed.step_is by_size _ stmt.outs-Halt) (none 1)
    step_types _ _ _ (If w l e body _ x y (no_others _ _)) =
        carry (at_step m (stmt.If e body None) (step.If e body None) (stmt.outs-If e body None))
        (typed.step_is by_size _ (stmt.outs-If e body None))
        (sides _ (size_typed e) (size_body body) 0
        (both (of_expr m e) ((concatenation (map (of_step m) body)) ++ []) (size_typed e) ((size_body body) + 0)
        (expr_types m w e x) (both (concatenation (map (of_step m) body)) [] (size_body body) 0 (body_types w l body y)
        (none 0))))
    step_types _ _ _ (If w l e body _ x y (others _ _ xs z)) =
        carry (at_step m (stmt.If e body (Some xs)) (step.If e body (Some xs)) (stmt.outs-If e body (Some xs)))
        (typed.step_is by_size _ (stmt.outs-If e body (Some xs)))
        (sides _ (size_typed e) (size_body body) (size_body xs)
        (both (of_expr m e) ((concatenation (map (of_step m) body)) ++ concatenation (map (of_step m) xs))
        (size_typed e) ((size_body body) + size_body xs) (expr_types m w e x)
        (both (concatenation (map (of_step m) body)) (concatenation (map (of_step m) xs)) (size_body body)
        (size_body xs) (body_types w l body y) (body_types w l xs z))))
    step_types _ _ _ (Case w l e arms _ x y (no_others _ _)) =
        carry (at_step m (stmt.Case e arms None) (step.Case e arms None) (stmt.outs-Case e arms None))
        (typed.step_is by_size _ (stmt.outs-Case e arms None))
        (cases _ (size_typed e) (sum_of size_arm arms) 0
        (both (of_expr m e) ((concatenation (map (of_arm m) arms)) ++ []) (size_typed e) ((sum_of size_arm arms) + 0)
        (expr_types m w e x) (both (concatenation (map (of_arm m) arms)) [] (sum_of size_arm arms) 0
        (arms_types w l arms y) (none 0))))
    step_types _ _ _ (Case w l e arms _ x y (others _ _ xs z)) =
        carry (at_step m (stmt.Case e arms (Some xs)) (step.Case e arms (Some xs)) (stmt.outs-Case e arms (Some xs)))
        (typed.step_is by_size _ (stmt.outs-Case e arms (Some xs)))
        (cases _ (size_typed e) (sum_of size_arm arms) (size_body xs)
        (both (of_expr m e) ((concatenation (map (of_arm m) arms)) ++ concatenation (map (of_step m) xs)) (size_typed e)
        ((sum_of size_arm arms) + size_body xs) (expr_types m w e x)
        (both (concatenation (map (of_arm m) arms)) (concatenation (map (of_step m) xs)) (sum_of size_arm arms)
        (size_body xs) (arms_types w l arms y) (body_types w l xs z))))
    step_types _ _ _ (While w l e body x y) =
        carry (at_step m (stmt.While e body) (step.While e body) (stmt.outs-While e body))
        (typed.step_is by_size _ (stmt.outs-While e body))
        (one _ (size_typed e + size_body body)
        (both (of_expr m e) (concatenation (map (of_step m) body)) (size_typed e) (size_body body) (expr_types m w e x)
        (body_types w l body y)))
    step_types _ _ _ (Repeat w l body e y x) =
        carry (at_step m (stmt.Repeat body e) (step.Repeat body e) (stmt.outs-Repeat body e))
        (typed.step_is by_size _ (stmt.outs-Repeat body e))
        (one _ (size_body body + size_typed e)
        (both (concatenation (map (of_step m) body)) (of_expr m e) (size_body body) (size_typed e)
        (body_types w l body y) (expr_types m w e x)))
    step_types _ _ _ (Loop w l body y) = carry (at_step m (stmt.Loop body) (step.Loop body) (stmt.outs-Loop body))
        (typed.step_is by_size _ (stmt.outs-Loop body)) (one _ (size_body body) (body_types w true body y))
    step_types _ _ _ (Exit w) = carry (at_step m stmt.Exit step.Exit stmt.outs-Exit)
        (typed.step_is by_size _ stmt.outs-Exit) (none 1)
    step_types _ _ _ (Return w l q) = carry (at_step m stmt.Return step.Return stmt.outs-Return)
        (typed.step_is by_size _ stmt.outs-Return) (none 1)
    step_types _ _ _ (Give w l t e q x) = carry (at_step m (stmt.Give t e) (step.Give t e) (stmt.outs-Give t e))
        (typed.step_is by_size _ (stmt.outs-Give t e)) (one _ (size_typed e) (expr_types m w e x))
    step_types _ _ _ (For w l d t start limit by body s x y z v) =
        carry (at_step m (stmt.For d t start limit by body) (step.For d t start limit by body)
        (stmt.outs-For d t start limit by body)) (typed.step_is by_size _ (stmt.outs-For d t start limit by body))
        (course _ (size_place d) (size_typed start) (size_typed limit) (size_body body)
        (both (of_place m d) (of_expr m start ++ (of_expr m limit ++ concatenation (map (of_step m) body)))
        (size_place d) (size_typed start + (size_typed limit + size_body body)) (place_types m w d x)
        (both (of_expr m start) (of_expr m limit ++ concatenation (map (of_step m) body)) (size_typed start)
        (size_typed limit + size_body body) (expr_types m w start y)
        (both (of_expr m limit) (concatenation (map (of_step m) body)) (size_typed limit) (size_body body)
        (expr_types m w limit z) (body_types w l body v)))))
    step_types _ _ _ (With w l d body x y) =
        carry (at_step m (stmt.With d body) (step.With d body) (stmt.outs-With d body))
        (typed.step_is by_size _ (stmt.outs-With d body))
        (two _ (size_place d) (size_body body)
        (both (of_place m d) (concatenation (map (of_step m) body)) (size_place d) (size_body body)
        (place_types m w d x) (body_types (suc w) l body y)))

    pub body_types : (w : ℕ) (l : Bool) (xs : List TypedStmt) → AreStmts m gives w l xs
        → Few (concatenation (map (of_step m) xs)) (size_body xs)
    body_types _ _ _ (no_stmts w l) = none 0
    body_types _ _ _ (more_stmts w l x xs y ys) =
        both (of_step m x) _ (size_step x) (size_body xs) (step_types w l x y) (body_types w l xs ys)

    arms_types : (w : ℕ) (l : Bool) (xs : List TypedArm) → AreArms m gives w l xs
        → Few (concatenation (map (of_arm m) xs)) (sum_of size_arm xs)
    arms_types _ _ _ (no_arms w l) = none 0
    arms_types _ _ _ (more_arms w l x xs y ys) =
        both (of_arm m x) _ (size_arm x) (sum_of size_arm xs)
        (carry (at_arm m x (out-TypedArm x) refl) (typed.arm_sum by_size x)
        (arm _ (length x.labels) (size_body x.body) (body_types w l x.body y))) (arms_types w l xs ys)
