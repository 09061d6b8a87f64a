-- The code of well formed expressions, designators, calls and arguments is valid.
use Rattle.std.proofs.Common.{◌≡◌, ℕ, zero, suc, ◌+◌, Bool, true, List, [], ◌∷◌, ◌++◌, map, refl, ap, subst, ◌∙◌, arith}
use Rattle.std.proofs.lemmas.List.{append-nil}
use Rattle.std.specs.Prelude.{if◌then◌else◌}
use Rattle.wasm_tree.specs.declared.kinds.ValueType.TheVariants.{I64}
use Rattle.typed_tree.specs.declared.computed.Argument.{Argument, Argument-F, out-Argument}
use Rattle.typed_tree.specs.declared.computed.Argument.TheOpen as layer
use Rattle.typed_tree.specs.declared.computed.Argument.TheVariants as argument
use Rattle.typed_tree.specs.declared.computed.Call.{Call, Call-F, out-Call}
use Rattle.typed_tree.specs.declared.computed.Call.TheVariants as call
use Rattle.typed_tree.specs.declared.computed.Component.{Component, Component-F, out-Component}
use Rattle.typed_tree.specs.declared.computed.Component.TheVariants as component
use Rattle.typed_tree.specs.declared.computed.Link.{Link, Link-F, out-Link}
use Rattle.typed_tree.specs.declared.computed.Link.TheVariants as link
use Rattle.typed_tree.specs.declared.computed.Place.{Place, Place-F, out-Place}
use Rattle.typed_tree.specs.declared.computed.TypedExpr.{TypedExpr, TypedExpr-F, out-TypedExpr}
use Rattle.typed_tree.specs.declared.computed.TypedExpr.TheVariants as expr
use Rattle.typed_tree.specs.declared.shape.Formal.{Formal}
use Rattle.layout_storage.specs.Frames.{formals_of}
use Rattle.def_scheme.specs.Coded.{all_coded}
use Rattle.def_scheme.specs.Exprs.{all_arguments, arguments_of, is_own, chain_code}
use Rattle.def_scheme.specs.Signatures.{Signatures, Signature, signature, of_heading, concatenation, is_among, so_many, results_of, type_of, of_expr, of_place, of_call}
use Rattle.def_scheme.specs.Signatures as sign
use Rattle.law_modules.specs.WellFormed.{IsExpr, Constant, Load, ProcedureValue, Plus, Negate, Chain, Compare, Not, Include, In, Abs, Cap, Chr, Odd, Ord, Val, High, FunctionCall, AreLinks, no_links, more_links, IsLink, Operated, And as AndOf, Or as OrOf, Combine, IsPlace, Designator, AreComponents, no_components, more_components, IsComponent, FieldOf, Element, OpenElement, IsCall, OfModule, OfProcedure, OfVariable, AreArguments, no_arguments, more_arguments, IsArgument, Value, Actual, ActualArray, Open, Text}
use Rattle.law_modules.proofs.Exprs as fine
use Rattle.law_modules.proofs.Exprs.{AreKnown, first_known, rest_known}
use Rattle.law_modules.proofs.Leading.{Stack}
use Rattle.law_modules.proofs.Fits.{Body, Holds, fits_nothing, fits_then, fits_above, fits_stacks}
use Rattle.law_modules.proofs.Parts.{S, N}
use Rattle.law_modules.proofs.Opened.{argument_code, component_code, link_part, of_argument, of_component, of_link, expr_signed, expr_signs, link_signed, link_signs, component_signed, component_signs, place_signed, place_signs, call_signed, call_signs, argument_signed, argument_signs}

so_many_more : (k n : ℕ) → so_many k ++ so_many n ≡ so_many (k + n)
so_many_more zero n = let e : n ≡ 0 + n = omega arith in ap so_many e
so_many_more (suc k) n = let e : suc (k + n) ≡ suc k + n = omega arith in
    ap (λ (s : Stack). I64 ∷ s) (so_many_more k n) ∙ ap so_many e

module _ (b : Body) (h : Holds b) (w : ℕ) (l : Bool) where
  expr_knows : (e : TypedExpr) (x : TypedExpr-F Argument Call Component Link TypedExpr Place) → out-TypedExpr e ≡ x
      → AreKnown b.known (of_expr b.home e) → AreKnown b.known (sign.expr_layer b.home (expr_signed b.home x))
  expr_knows e x q k = subst (λ (s : Signatures). AreKnown b.known s) (expr_signs b.home e x q) k

  link_knows : (e : Link) (x : Link-F Argument Call Component Link TypedExpr Place) → out-Link e ≡ x
      → AreKnown b.known (of_link b.home e) → AreKnown b.known (sign.link_layer b.home (link_signed b.home x))
  link_knows e x q k = subst (λ (s : Signatures). AreKnown b.known s) (link_signs b.home e x q) k

  component_knows : (e : Component) (x : Component-F Argument Call Component Link TypedExpr Place) → out-Component e ≡ x
      → AreKnown b.known (of_component b.home e)
      → AreKnown b.known (sign.component_layer b.home (component_signed b.home x))
  component_knows e x q k = subst (λ (s : Signatures). AreKnown b.known s) (component_signs b.home e x q) k

  call_knows : (e : Call) (x : Call-F Argument Call Component Link TypedExpr Place) → out-Call e ≡ x
      → AreKnown b.known (of_call b.home e) → AreKnown b.known (sign.call_layer b.home (call_signed b.home x))
  call_knows e x q k = subst (λ (s : Signatures). AreKnown b.known s) (call_signs b.home e x q) k

  argument_knows : (e : Argument) (x : Argument-F Argument Call Component Link TypedExpr Place) → out-Argument e ≡ x
      → AreKnown b.known (of_argument b.home e)
      → AreKnown b.known (sign.argument_layer b.home (argument_signed b.home x))
  argument_knows e x q k = subst (λ (s : Signatures). AreKnown b.known s) (argument_signs b.home e x q) k

  place_knows : (e : Place) (x : Place-F Argument Call Component Link TypedExpr Place) → out-Place e ≡ x
      → AreKnown b.known (of_place b.home e) → AreKnown b.known (sign.place_layer b.home (place_signed b.home x))
  place_knows e x q k = subst (λ (s : Signatures). AreKnown b.known s) (place_signs b.home e x q) k

  mutual
    pub expr_valid : (e : TypedExpr) → IsExpr b.home w e → AreKnown b.known (of_expr b.home e) → fine.FineExpr b h w l e
    expr_valid _ (Constant t v) k = fine.constant_fine b h w l t v
    expr_valid _ (Load t d s x) k = fine.load_fine b h w l t d s
        (place_valid d x (expr_knows (expr.Load t d) (layer.Load t d) (expr.outs-Load t d) k))
    expr_valid _ (ProcedureValue f p) k = fine.procedure_fine b h w l f p
    expr_valid _ (Plus t e x) k = fine.plus_fine b h w l t e
        (expr_valid e x (expr_knows (expr.Plus t e) (layer.Plus t e) (expr.outs-Plus t e) k))
    expr_valid _ (Negate e x) k = fine.negate_fine b h w l e
        (expr_valid e x (expr_knows (expr.Negate e) (layer.Negate e) (expr.outs-Negate e) k))
    expr_valid _ (Not e x) k = fine.not_fine b h w l e
        (expr_valid e x (expr_knows (expr.Not e) (layer.Not e) (expr.outs-Not e) k))
    expr_valid _ (Abs t e x) k = fine.abs_fine b h w l t e
        (expr_valid e x (expr_knows (expr.Abs t e) (layer.Abs t e) (expr.outs-Abs t e) k))
    expr_valid _ (Cap e x) k = fine.cap_fine b h w l e
        (expr_valid e x (expr_knows (expr.Cap e) (layer.Cap e) (expr.outs-Cap e) k))
    expr_valid _ (Chr e x) k = fine.chr_fine b h w l e
        (expr_valid e x (expr_knows (expr.Chr e) (layer.Chr e) (expr.outs-Chr e) k))
    expr_valid _ (Odd e x) k = fine.odd_fine b h w l e
        (expr_valid e x (expr_knows (expr.Odd e) (layer.Odd e) (expr.outs-Odd e) k))
    expr_valid _ (Ord e x) k = fine.ord_fine b h w l e
        (expr_valid e x (expr_knows (expr.Ord e) (layer.Ord e) (expr.outs-Ord e) k))
    expr_valid _ (Val t e x) k = fine.val_fine b h w l t e
        (expr_valid e x (expr_knows (expr.Val t e) (layer.Val t e) (expr.outs-Val t e) k))
    expr_valid _ (Chain e ls x xs) k = let j =
        expr_knows (expr.Chain e ls) (layer.Chain e ls) (expr.outs-Chain e ls) k in
        fine.chain_fine b h w l e ls (expr_valid e x
        (first_known b.known (of_expr b.home e) (concatenation (map (of_link b.home) ls)) j))
        (links_valid ls xs (rest_known b.known (of_expr b.home e) (concatenation (map (of_link b.home) ls)) j))
    expr_valid _ (Compare o e f x y) k = let j =
        expr_knows (expr.Compare o e f) (layer.Compare o e f) (expr.outs-Compare o e f) k in
        fine.compare_fine b h w l o e f (expr_valid e x (first_known b.known (of_expr b.home e) (of_expr b.home f) j))
        (expr_valid f y (rest_known b.known (of_expr b.home e) (of_expr b.home f) j))
    expr_valid _ (Include o e f x y) k = let j =
        expr_knows (expr.Include o e f) (layer.Include o e f) (expr.outs-Include o e f) k in
        fine.included_fine b h w l o e f (expr_valid e x (first_known b.known (of_expr b.home e) (of_expr b.home f) j))
        (expr_valid f y (rest_known b.known (of_expr b.home e) (of_expr b.home f) j))
    expr_valid _ (In e f x y) k = let j = expr_knows (expr.In e f) (layer.In e f) (expr.outs-In e f) k in
        fine.in_fine b h w l e f (expr_valid e x (first_known b.known (of_expr b.home e) (of_expr b.home f) j))
        (expr_valid f y (rest_known b.known (of_expr b.home e) (of_expr b.home f) j))
    expr_valid _ (High x) k = fine.high_fine b h w l x
    expr_valid _ (FunctionCall t c x) k = fine.called_fine b h w l t c
        (call_valid c true x (expr_knows (expr.Call t c) (layer.Call t c) (expr.outs-Call t c) k))

    links_valid : (ls : List Link) → AreLinks b.home w ls → AreKnown b.known (concatenation (map (of_link b.home) ls))
        → fine.Fine b h w l (chain_code (map (link_part b.numbered) ls)) N N
    links_valid _ no_links k = fits_nothing N
    links_valid _ (more_links x xs y ys) k =
        fits_then (link_valid x y (first_known b.known (of_link b.home x) (concatenation (map (of_link b.home) xs)) k))
        (links_valid xs ys (rest_known b.known (of_link b.home x) (concatenation (map (of_link b.home) xs)) k))

    link_valid : (x : Link) → IsLink b.home w x → AreKnown b.known (of_link b.home x) → fine.FineLink b h w l x
    link_valid _ (Operated o t e x) k = fine.arithmetic_fine b h w l o t e
        (expr_valid e x (link_knows (link.Arithmetic o t e) (layer.Arithmetic o t e) (link.outs-Arithmetic o t e) k))
    link_valid _ (AndOf e x) k = fine.and_fine b h w l e
        (expr_valid e x (link_knows (link.And e) (layer.And e) (link.outs-And e) k))
    link_valid _ (OrOf e x) k = fine.or_fine b h w l e
        (expr_valid e x (link_knows (link.Or e) (layer.Or e) (link.outs-Or e) k))
    link_valid _ (Combine o e x) k = fine.combine_fine b h w l o e
        (expr_valid e x (link_knows (link.Combine o e) (layer.Combine o e) (link.outs-Combine o e) k))

    pub place_valid : (d : Place) → IsPlace b.home w d → AreKnown b.known (of_place b.home d) → fine.FinePlace b h w l d
    place_valid _ (Designator d r xs) k = fine.place_fine b h w l d r
        (components_valid d.components xs (place_knows d (out-Place d) refl k))

    components_valid : (cs : List Component) → AreComponents b.home w cs
        → AreKnown b.known (concatenation (map (of_component b.home) cs))
        → fine.Fine b h w l (all_coded (map (component_code b.numbered) cs)) S S
    components_valid _ no_components k = fits_nothing S
    components_valid _ (more_components x xs y ys) k =
        fits_then (component_valid x y (first_known b.known (of_component b.home x)
        (concatenation (map (of_component b.home) xs)) k))
        (components_valid xs ys (rest_known b.known (of_component b.home x)
        (concatenation (map (of_component b.home) xs)) k))

    component_valid : (x : Component) → IsComponent b.home w x → AreKnown b.known (of_component b.home x)
        → fine.FineComponent b h w l x
    component_valid _ (FieldOf t n) k = fine.field_fine b h w l t n
    component_valid _ (Element t i x) k = fine.element_fine b h w l t i
        (expr_valid i x (component_knows (component.Element t i) (layer.Element t i) (component.outs-Element t i) k))
    component_valid _ (OpenElement y t i x) k =
        fine.open_element_fine b h w l y t i (expr_valid i x
        (component_knows (component.OpenElement y t i) (layer.OpenElement y t i) (component.outs-OpenElement y t i) k))

    pub call_valid : (c : Call) (r : Bool) → IsCall b.home w c r → AreKnown b.known (of_call b.home c)
        → fine.FineCall b h w l c r
    call_valid _ _ (OfModule f xs r p e ys) k =
        let j = call_knows (call.Module f xs) (layer.Module f xs) (call.outs-Module f xs) k in
        let own : Signatures = if is_own b.home f.home then [] else of_heading b.home.types f.heading ∷ [] in
        subst (λ (q : Bool). fine.FineCall b h w l (call.Module f xs) q) e
        (fine.module_fine b h w l f xs p (rest_known b.known (concatenation (map (of_argument b.home) xs)) own j)
        (arguments_valid xs (formals_of b.home.types f.heading) ys
        (first_known b.known (concatenation (map (of_argument b.home) xs)) own j)))
    call_valid _ _ (OfProcedure f xs r p e ys) k =
        subst (λ (q : Bool). fine.FineCall b h w l (call.Nested f xs) q) e
        (fine.nested_fine b h w l f xs p (arguments_valid xs (formals_of b.home.types f.heading) ys
        (call_knows (call.Nested f xs) (layer.Nested f xs) (call.outs-Nested f xs) k)))
    call_valid _ _ (OfVariable t d xs r s x e ys) k =
        let j = call_knows (call.Variable t d xs) (layer.Variable t d xs) (call.outs-Variable t d xs) k in
        let args : Signatures = concatenation (map (of_argument b.home) xs) in
        let heading : Signatures = of_heading b.home.types t ∷ [] in
        let i = rest_known b.known (of_place b.home d) (args ++ heading) j in
        subst (λ (q : Bool). fine.FineCall b h w l (call.Variable t d xs) q) e
        (fine.variable_fine b h w l t d xs s (rest_known b.known args heading i).0
        (place_valid d x (first_known b.known (of_place b.home d) (args ++ heading) j))
        (arguments_valid xs (formals_of b.home.types t) ys (first_known b.known args heading i)))

    arguments_valid : (xs : List Argument) (fs : List Formal) → AreArguments b.home w xs fs
        → AreKnown b.known (concatenation (map (of_argument b.home) xs))
        → fine.Fine b h w l (all_coded (map (argument_code b.numbered) xs)) [] (so_many (all_arguments fs))
    arguments_valid _ _ no_arguments k = fits_nothing []
    arguments_valid _ _ (more_arguments x xs f fs y ys) k =
        fits_then (argument_valid x f.is_open y
        (first_known b.known (of_argument b.home x) (concatenation (map (of_argument b.home) xs)) k))
        (fits_stacks (append-nil (so_many (arguments_of f))) (so_many_more (arguments_of f) (all_arguments fs))
        (fits_above (so_many (arguments_of f))
        (arguments_valid xs fs ys (rest_known b.known (of_argument b.home x)
        (concatenation (map (of_argument b.home) xs)) k))))

    argument_valid : (x : Argument) (q : Bool) → IsArgument b.home w x q → AreKnown b.known (of_argument b.home x)
        → fine.FineArgument b h w l x q
    argument_valid _ _ (Value t e x) k = fine.value_fine b h w l t e
        (expr_valid e x (argument_knows (argument.Value t e) (layer.Value t e) (argument.outs-Value t e) k))
    argument_valid _ _ (Actual d x) k = fine.actual_fine b h w l d
        (place_valid d x (argument_knows (argument.Place d) (layer.Place d) (argument.outs-Place d) k))
    argument_valid _ _ (ActualArray t d x) k =
        fine.array_fine b h w l t d (place_valid d x
        (argument_knows (argument.Array t d) (layer.Array t d) (argument.outs-Array t d) k))
    argument_valid _ _ (Open x) k = fine.open_fine b h w l x
    argument_valid _ _ (Text text) k = fine.text_fine b h w l text
