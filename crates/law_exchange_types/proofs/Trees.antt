-- What becomes of each variant of a tree.
use Rattle.std.proofs.Common.{◌≡◌, ℕ, ℤ, List, [], ◌∷◌, ◌++◌, map, refl, sym, ap, ◌∙◌}
use Rattle.std.proofs.lemmas.List.{map-append}
use Rattle.typed_tree.specs.declared.types.TypeNo.{TypeNo}
use Rattle.typed_tree.specs.declared.meaning.Procedure.{Procedure}
use Rattle.typed_tree.specs.declared.computed.Slot.{Slot}
use Rattle.typed_tree.specs.declared.computed.LocalProcedure.{LocalProcedure}
use Rattle.typed_tree.specs.declared.computed.Arithmetic.{Arithmetic}
use Rattle.typed_tree.specs.declared.computed.Comparison.{Comparison}
use Rattle.typed_tree.specs.declared.computed.SetOperator.{SetOperator}
use Rattle.typed_tree.specs.declared.computed.Inclusion.{Inclusion}
use Rattle.typed_tree.specs.declared.computed.Root.{Root}
use Rattle.typed_tree.specs.declared.computed.TypedExpr.{TypedExpr, TypedExpr-F, out-TypedExpr, map-TypedExpr, fold_out-TypedExpr}
use Rattle.typed_tree.specs.declared.computed.TypedExpr.TheVariants as expr
use Rattle.typed_tree.specs.declared.computed.Component.{Component, Component-F, out-Component, map-Component, fold_out-Component}
use Rattle.typed_tree.specs.declared.computed.Component.TheVariants as part
use Rattle.typed_tree.specs.declared.computed.Link.{Link, Link-F, out-Link, map-Link, fold_out-Link}
use Rattle.typed_tree.specs.declared.computed.Link.TheVariants as link
use Rattle.typed_tree.specs.declared.computed.Place.{Place, fold_out-Place}
use Rattle.typed_tree.specs.declared.computed.Call.{Call, Call-F, out-Call, map-Call, fold_out-Call}
use Rattle.typed_tree.specs.declared.computed.Call.TheVariants as call
use Rattle.typed_tree.specs.declared.computed.Argument.{Argument, Argument-F, out-Argument, map-Argument, fold_out-Argument}
use Rattle.typed_tree.specs.declared.computed.Argument.TheOpen as layer
use Rattle.typed_tree.specs.declared.computed.Argument.TheVariants as argument
use Rattle.typed_tree.specs.Chains.{linked_to, link_operand, root_place, behind}
use Rattle.def_exchange.specs.Moved.{Exchange, moved_type, moved_procedure}
use Rattle.law_exchange_types.specs.Trees.{moved_inner, moved_root, argument_layer, call_layer, component_layer, link_layer, expr_layer, place_layer, moved_argument, moved_call, moved_component, moved_link, moved_expr, moved_place}

module _ (z : Exchange) where
  abbrev opened_argument : Argument-F Argument Call Component Link TypedExpr Place
      → Argument-F Argument Call Component Link TypedExpr Place
  opened_argument y = map-Argument Argument Call Component Link TypedExpr Place Argument Call Component Link TypedExpr
      Place (moved_argument z) (moved_call z) (moved_component z) (moved_link z) (moved_expr z) (moved_place z) y

  at_argument : (e : Argument) (y : Argument-F Argument Call Component Link TypedExpr Place) → out-Argument e ≡ y
      → moved_argument z e ≡ argument_layer z (opened_argument y)
  unfolding moved_expr moved_place moved_call moved_argument moved_component moved_link
  at_argument e y h =
      fold_out-Argument Argument Call Component Link TypedExpr Place (argument_layer z) (call_layer z)
      (component_layer z) (link_layer z) (expr_layer z) (place_layer z) e
      ∙ ap (λ (u : Argument-F Argument Call Component Link TypedExpr Place). argument_layer z (opened_argument u)) h

  pub argument_Value : (t : TypeNo) (e : TypedExpr)
      → moved_argument z (argument.Value t e) ≡ argument.Value (moved_type z t) (moved_expr z e)
  argument_Value t e = at_argument (argument.Value t e) (layer.Value t e) (argument.outs-Value t e)
      ∙ argument.rolls-Value (moved_type z t) (moved_expr z e)

  pub argument_Place : (d : Place) → moved_argument z (argument.Place d) ≡ argument.Place (moved_place z d)
  argument_Place d = at_argument (argument.Place d) (layer.Place d) (argument.outs-Place d)
      ∙ argument.rolls-Place (moved_place z d)

  pub argument_Array : (t : TypeNo) (d : Place)
      → moved_argument z (argument.Array t d) ≡ argument.Array (moved_type z t) (moved_place z d)
  argument_Array t d = at_argument (argument.Array t d) (layer.Array t d) (argument.outs-Array t d)
      ∙ argument.rolls-Array (moved_type z t) (moved_place z d)

  pub argument_Open : (s : Slot) → moved_argument z (argument.Open s) ≡ argument.Open s
  argument_Open s = at_argument (argument.Open s) (layer.Open s) (argument.outs-Open s) ∙ argument.rolls-Open s

  pub argument_Text : (text : List ℕ) → moved_argument z (argument.Text text) ≡ argument.Text text
  argument_Text text = at_argument (argument.Text text) (layer.Text text) (argument.outs-Text text)
      ∙ argument.rolls-Text text

  abbrev opened_call : Call-F Argument Call Component Link TypedExpr Place
      → Call-F Argument Call Component Link TypedExpr Place
  opened_call y = map-Call Argument Call Component Link TypedExpr Place Argument Call Component Link TypedExpr Place
      (moved_argument z) (moved_call z) (moved_component z) (moved_link z) (moved_expr z) (moved_place z) y

  at_call : (e : Call) (y : Call-F Argument Call Component Link TypedExpr Place) → out-Call e ≡ y
      → moved_call z e ≡ call_layer z (opened_call y)
  unfolding moved_expr moved_place moved_call moved_argument moved_component moved_link
  at_call e y h =
      fold_out-Call Argument Call Component Link TypedExpr Place (argument_layer z) (call_layer z) (component_layer z)
      (link_layer z) (expr_layer z) (place_layer z) e
      ∙ ap (λ (u : Call-F Argument Call Component Link TypedExpr Place). call_layer z (opened_call u)) h

  pub call_Module : (p : Procedure) (args : List Argument)
      → moved_call z (call.Module p args) ≡ call.Module (moved_procedure z p) (map (moved_argument z) args)
  call_Module p args = at_call (call.Module p args) (layer.Module p args) (call.outs-Module p args)
      ∙ call.rolls-Module (moved_procedure z p) (map (moved_argument z) args)

  pub call_Nested : (q : LocalProcedure) (args : List Argument)
      → moved_call z (call.Nested q args) ≡ call.Nested (moved_inner z q) (map (moved_argument z) args)
  call_Nested q args = at_call (call.Nested q args) (layer.Nested q args) (call.outs-Nested q args)
      ∙ call.rolls-Nested (moved_inner z q) (map (moved_argument z) args)

  pub call_Variable : (t : TypeNo) (d : Place) (args : List Argument)
      → moved_call z (call.Variable t d args)
      ≡ call.Variable (moved_type z t) (moved_place z d) (map (moved_argument z) args)
  call_Variable t d args = at_call (call.Variable t d args) (layer.Variable t d args) (call.outs-Variable t d args)
      ∙ call.rolls-Variable (moved_type z t) (moved_place z d) (map (moved_argument z) args)

  abbrev opened_component : Component-F Argument Call Component Link TypedExpr Place
      → Component-F Argument Call Component Link TypedExpr Place
  opened_component y = map-Component Argument Call Component Link TypedExpr Place Argument Call Component Link TypedExpr
      Place (moved_argument z) (moved_call z) (moved_component z) (moved_link z) (moved_expr z) (moved_place z) y

  at_component : (e : Component) (y : Component-F Argument Call Component Link TypedExpr Place) → out-Component e ≡ y
      → moved_component z e ≡ component_layer z (opened_component y)
  unfolding moved_expr moved_place moved_call moved_argument moved_component moved_link
  at_component e y h =
      fold_out-Component Argument Call Component Link TypedExpr Place (argument_layer z) (call_layer z)
      (component_layer z) (link_layer z) (expr_layer z) (place_layer z) e
      ∙ ap (λ (u : Component-F Argument Call Component Link TypedExpr Place). component_layer z (opened_component u)) h

  pub component_Field : (t : TypeNo) (k : ℕ) → moved_component z (part.Field t k) ≡ part.Field (moved_type z t) k
  component_Field t k = at_component (part.Field t k) (layer.Field t k) (part.outs-Field t k)
      ∙ part.rolls-Field (moved_type z t) k

  pub component_Element : (t : TypeNo) (e : TypedExpr)
      → moved_component z (part.Element t e) ≡ part.Element (moved_type z t) (moved_expr z e)
  component_Element t e = at_component (part.Element t e) (layer.Element t e) (part.outs-Element t e)
      ∙ part.rolls-Element (moved_type z t) (moved_expr z e)

  pub component_OpenElement : (s : Slot) (t : TypeNo) (e : TypedExpr)
      → moved_component z (part.OpenElement s t e) ≡ part.OpenElement s (moved_type z t) (moved_expr z e)
  component_OpenElement s t e = at_component (part.OpenElement s t e) (layer.OpenElement s t e)
      (part.outs-OpenElement s t e) ∙ part.rolls-OpenElement s (moved_type z t) (moved_expr z e)

  abbrev opened_link : Link-F Argument Call Component Link TypedExpr Place
      → Link-F Argument Call Component Link TypedExpr Place
  opened_link y = map-Link Argument Call Component Link TypedExpr Place Argument Call Component Link TypedExpr Place
      (moved_argument z) (moved_call z) (moved_component z) (moved_link z) (moved_expr z) (moved_place z) y

  at_link : (e : Link) (y : Link-F Argument Call Component Link TypedExpr Place) → out-Link e ≡ y
      → moved_link z e ≡ link_layer z (opened_link y)
  unfolding moved_expr moved_place moved_call moved_argument moved_component moved_link
  at_link e y h =
      fold_out-Link Argument Call Component Link TypedExpr Place (argument_layer z) (call_layer z) (component_layer z)
      (link_layer z) (expr_layer z) (place_layer z) e
      ∙ ap (λ (u : Link-F Argument Call Component Link TypedExpr Place). link_layer z (opened_link u)) h

  pub link_Arithmetic : (o : Arithmetic) (t : TypeNo) (e : TypedExpr)
      → moved_link z (link.Arithmetic o t e) ≡ link.Arithmetic o (moved_type z t) (moved_expr z e)
  link_Arithmetic o t e = at_link (link.Arithmetic o t e) (layer.Arithmetic o t e) (link.outs-Arithmetic o t e)
      ∙ link.rolls-Arithmetic o (moved_type z t) (moved_expr z e)

  pub link_And : (e : TypedExpr) → moved_link z (link.And e) ≡ link.And (moved_expr z e)
  link_And e = at_link (link.And e) (layer.And e) (link.outs-And e) ∙ link.rolls-And (moved_expr z e)

  pub link_Or : (e : TypedExpr) → moved_link z (link.Or e) ≡ link.Or (moved_expr z e)
  link_Or e = at_link (link.Or e) (layer.Or e) (link.outs-Or e) ∙ link.rolls-Or (moved_expr z e)

  pub link_Combine : (o : SetOperator) (e : TypedExpr)
      → moved_link z (link.Combine o e) ≡ link.Combine o (moved_expr z e)
  link_Combine o e = at_link (link.Combine o e) (layer.Combine o e) (link.outs-Combine o e)
      ∙ link.rolls-Combine o (moved_expr z e)

  abbrev opened_expr : TypedExpr-F Argument Call Component Link TypedExpr Place
      → TypedExpr-F Argument Call Component Link TypedExpr Place
  opened_expr y = map-TypedExpr Argument Call Component Link TypedExpr Place Argument Call Component Link TypedExpr
      Place (moved_argument z) (moved_call z) (moved_component z) (moved_link z) (moved_expr z) (moved_place z) y

  at_expr : (e : TypedExpr) (y : TypedExpr-F Argument Call Component Link TypedExpr Place) → out-TypedExpr e ≡ y
      → moved_expr z e ≡ expr_layer z (opened_expr y)
  unfolding moved_expr moved_place moved_call moved_argument moved_component moved_link
  at_expr e y h =
      fold_out-TypedExpr Argument Call Component Link TypedExpr Place (argument_layer z) (call_layer z)
      (component_layer z) (link_layer z) (expr_layer z) (place_layer z) e
      ∙ ap (λ (u : TypedExpr-F Argument Call Component Link TypedExpr Place). expr_layer z (opened_expr u)) h

  pub expr_Constant : (t : TypeNo) (n : ℤ) → moved_expr z (expr.Constant t n) ≡ expr.Constant (moved_type z t) n
  expr_Constant t n = at_expr (expr.Constant t n) (layer.Constant t n) (expr.outs-Constant t n)
      ∙ expr.rolls-Constant (moved_type z t) n

  pub expr_Load : (t : TypeNo) (d : Place) → moved_expr z (expr.Load t d) ≡ expr.Load (moved_type z t) (moved_place z d)
  expr_Load t d = at_expr (expr.Load t d) (layer.Load t d) (expr.outs-Load t d)
      ∙ expr.rolls-Load (moved_type z t) (moved_place z d)

  pub expr_Procedure : (p : Procedure) → moved_expr z (expr.Procedure p) ≡ expr.Procedure (moved_procedure z p)
  expr_Procedure p = at_expr (expr.Procedure p) (layer.Procedure p) (expr.outs-Procedure p)
      ∙ expr.rolls-Procedure (moved_procedure z p)

  pub expr_Plus : (t : TypeNo) (e : TypedExpr)
      → moved_expr z (expr.Plus t e) ≡ expr.Plus (moved_type z t) (moved_expr z e)
  expr_Plus t e = at_expr (expr.Plus t e) (layer.Plus t e) (expr.outs-Plus t e)
      ∙ expr.rolls-Plus (moved_type z t) (moved_expr z e)

  pub expr_Negate : (e : TypedExpr) → moved_expr z (expr.Negate e) ≡ expr.Negate (moved_expr z e)
  expr_Negate e = at_expr (expr.Negate e) (layer.Negate e) (expr.outs-Negate e) ∙ expr.rolls-Negate (moved_expr z e)

  pub expr_Chain : (e : TypedExpr) (ls : List Link)
      → moved_expr z (expr.Chain e ls) ≡ expr.Chain (moved_expr z e) (map (moved_link z) ls)
  expr_Chain e ls = at_expr (expr.Chain e ls) (layer.Chain e ls) (expr.outs-Chain e ls)
      ∙ expr.rolls-Chain (moved_expr z e) (map (moved_link z) ls)

  pub expr_Compare : (o : Comparison) (a : TypedExpr) (b : TypedExpr)
      → moved_expr z (expr.Compare o a b) ≡ expr.Compare o (moved_expr z a) (moved_expr z b)
  expr_Compare o a b = at_expr (expr.Compare o a b) (layer.Compare o a b) (expr.outs-Compare o a b)
      ∙ expr.rolls-Compare o (moved_expr z a) (moved_expr z b)

  pub expr_Not : (e : TypedExpr) → moved_expr z (expr.Not e) ≡ expr.Not (moved_expr z e)
  expr_Not e = at_expr (expr.Not e) (layer.Not e) (expr.outs-Not e) ∙ expr.rolls-Not (moved_expr z e)

  pub expr_Include : (o : Inclusion) (a : TypedExpr) (b : TypedExpr)
      → moved_expr z (expr.Include o a b) ≡ expr.Include o (moved_expr z a) (moved_expr z b)
  expr_Include o a b = at_expr (expr.Include o a b) (layer.Include o a b) (expr.outs-Include o a b)
      ∙ expr.rolls-Include o (moved_expr z a) (moved_expr z b)

  pub expr_In : (a : TypedExpr) (b : TypedExpr) → moved_expr z (expr.In a b) ≡ expr.In (moved_expr z a) (moved_expr z b)
  expr_In a b = at_expr (expr.In a b) (layer.In a b) (expr.outs-In a b)
      ∙ expr.rolls-In (moved_expr z a) (moved_expr z b)

  pub expr_Abs : (t : TypeNo) (e : TypedExpr) → moved_expr z (expr.Abs t e) ≡ expr.Abs (moved_type z t) (moved_expr z e)
  expr_Abs t e = at_expr (expr.Abs t e) (layer.Abs t e) (expr.outs-Abs t e)
      ∙ expr.rolls-Abs (moved_type z t) (moved_expr z e)

  pub expr_Cap : (e : TypedExpr) → moved_expr z (expr.Cap e) ≡ expr.Cap (moved_expr z e)
  expr_Cap e = at_expr (expr.Cap e) (layer.Cap e) (expr.outs-Cap e) ∙ expr.rolls-Cap (moved_expr z e)

  pub expr_Chr : (e : TypedExpr) → moved_expr z (expr.Chr e) ≡ expr.Chr (moved_expr z e)
  expr_Chr e = at_expr (expr.Chr e) (layer.Chr e) (expr.outs-Chr e) ∙ expr.rolls-Chr (moved_expr z e)

  pub expr_Odd : (e : TypedExpr) → moved_expr z (expr.Odd e) ≡ expr.Odd (moved_expr z e)
  expr_Odd e = at_expr (expr.Odd e) (layer.Odd e) (expr.outs-Odd e) ∙ expr.rolls-Odd (moved_expr z e)

  pub expr_Ord : (e : TypedExpr) → moved_expr z (expr.Ord e) ≡ expr.Ord (moved_expr z e)
  expr_Ord e = at_expr (expr.Ord e) (layer.Ord e) (expr.outs-Ord e) ∙ expr.rolls-Ord (moved_expr z e)

  pub expr_Val : (t : TypeNo) (e : TypedExpr) → moved_expr z (expr.Val t e) ≡ expr.Val (moved_type z t) (moved_expr z e)
  expr_Val t e = at_expr (expr.Val t e) (layer.Val t e) (expr.outs-Val t e)
      ∙ expr.rolls-Val (moved_type z t) (moved_expr z e)

  pub expr_High : (s : Slot) → moved_expr z (expr.High s) ≡ expr.High s
  expr_High s = at_expr (expr.High s) (layer.High s) (expr.outs-High s) ∙ expr.rolls-High s

  pub expr_Call : (t : TypeNo) (c : Call) → moved_expr z (expr.Call t c) ≡ expr.Call (moved_type z t) (moved_call z c)
  expr_Call t c = at_expr (expr.Call t c) (layer.Call t c) (expr.outs-Call t c)
      ∙ expr.rolls-Call (moved_type z t) (moved_call z c)

  pub place_is : (d : Place) → moved_place z d
      ≡ record { root = moved_root z d.root; components = map (moved_component z) d.components }
  unfolding moved_expr moved_place moved_call moved_argument moved_component moved_link
  place_is d = fold_out-Place Argument Call Component Link TypedExpr Place (argument_layer z) (call_layer z)
      (component_layer z) (link_layer z) (expr_layer z) (place_layer z) d

  pub root_place_moves : (r : Root) → moved_place z (root_place r) ≡ root_place (moved_root z r)
  root_place_moves r = place_is (root_place r)

  abbrev placed : Root → List Component → Place
  placed r cs = record { root = r; components = cs }

  pub behind_moves : (d : Place) (c : Component)
      → moved_place z (behind d c) ≡ behind (moved_place z d) (moved_component z c)
  behind_moves d c =
      place_is (behind d c)
      ∙ (ap (placed (moved_root z d.root)) (map-append (moved_component z) d.components (c ∷ []))
      ∙ sym (ap (λ (u : Place). behind u (moved_component z c)) (place_is d)))

  linked : (e : TypedExpr) (l : Link) (y : TypedExpr-F Argument Call Component Link TypedExpr Place)
      → out-TypedExpr e ≡ y
      → moved_expr z (linked_to y e l) ≡ linked_to (out-TypedExpr (moved_expr z e)) (moved_expr z e) (moved_link z l)
  linked e l (layer.Constant t n) h =
      expr_Chain e (l ∷ [])
      ∙ sym (ap (λ (u : TypedExpr-F Argument Call Component Link TypedExpr Place). linked_to u (moved_expr z e)
      (moved_link z l))
      (ap out-TypedExpr (at_expr e (layer.Constant t n) h ∙ expr.rolls-Constant (moved_type z t) n)
      ∙ expr.outs-Constant (moved_type z t) n))
  linked e l (layer.Load t d) h =
      expr_Chain e (l ∷ [])
      ∙ sym (ap (λ (u : TypedExpr-F Argument Call Component Link TypedExpr Place). linked_to u (moved_expr z e)
      (moved_link z l))
      (ap out-TypedExpr (at_expr e (layer.Load t d) h ∙ expr.rolls-Load (moved_type z t) (moved_place z d))
      ∙ expr.outs-Load (moved_type z t) (moved_place z d)))
  linked e l (layer.Procedure p) h =
      expr_Chain e (l ∷ [])
      ∙ sym (ap (λ (u : TypedExpr-F Argument Call Component Link TypedExpr Place). linked_to u (moved_expr z e)
      (moved_link z l))
      (ap out-TypedExpr (at_expr e (layer.Procedure p) h ∙ expr.rolls-Procedure (moved_procedure z p))
      ∙ expr.outs-Procedure (moved_procedure z p)))
  linked e l (layer.Plus t a) h =
      expr_Chain e (l ∷ [])
      ∙ sym (ap (λ (u : TypedExpr-F Argument Call Component Link TypedExpr Place). linked_to u (moved_expr z e)
      (moved_link z l))
      (ap out-TypedExpr (at_expr e (layer.Plus t a) h ∙ expr.rolls-Plus (moved_type z t) (moved_expr z a))
      ∙ expr.outs-Plus (moved_type z t) (moved_expr z a)))
  linked e l (layer.Negate a) h =
      expr_Chain e (l ∷ [])
      ∙ sym (ap (λ (u : TypedExpr-F Argument Call Component Link TypedExpr Place). linked_to u (moved_expr z e)
      (moved_link z l))
      (ap out-TypedExpr (at_expr e (layer.Negate a) h ∙ expr.rolls-Negate (moved_expr z a))
      ∙ expr.outs-Negate (moved_expr z a)))
  linked e l (layer.Chain a ls) h =
      expr_Chain a (ls ++ l ∷ [])
      ∙ (ap (λ (us : List Link). expr.Chain (moved_expr z a) us) (map-append (moved_link z) ls (l ∷ []))
      ∙ sym (ap (λ (u : TypedExpr-F Argument Call Component Link TypedExpr Place). linked_to u (moved_expr z e)
      (moved_link z l))
      (ap out-TypedExpr (at_expr e (layer.Chain a ls) h ∙ expr.rolls-Chain (moved_expr z a) (map (moved_link z) ls))
      ∙ expr.outs-Chain (moved_expr z a) (map (moved_link z) ls))))
  linked e l (layer.Compare o a b) h =
      expr_Chain e (l ∷ [])
      ∙ sym (ap (λ (u : TypedExpr-F Argument Call Component Link TypedExpr Place). linked_to u (moved_expr z e)
      (moved_link z l))
      (ap out-TypedExpr (at_expr e (layer.Compare o a b) h ∙ expr.rolls-Compare o (moved_expr z a) (moved_expr z b))
      ∙ expr.outs-Compare o (moved_expr z a) (moved_expr z b)))
  linked e l (layer.Not a) h =
      expr_Chain e (l ∷ [])
      ∙ sym (ap (λ (u : TypedExpr-F Argument Call Component Link TypedExpr Place). linked_to u (moved_expr z e)
      (moved_link z l))
      (ap out-TypedExpr (at_expr e (layer.Not a) h ∙ expr.rolls-Not (moved_expr z a)) ∙ expr.outs-Not (moved_expr z a)))
  linked e l (layer.Include o a b) h =
      expr_Chain e (l ∷ [])
      ∙ sym (ap (λ (u : TypedExpr-F Argument Call Component Link TypedExpr Place). linked_to u (moved_expr z e)
      (moved_link z l))
      (ap out-TypedExpr (at_expr e (layer.Include o a b) h ∙ expr.rolls-Include o (moved_expr z a) (moved_expr z b))
      ∙ expr.outs-Include o (moved_expr z a) (moved_expr z b)))
  linked e l (layer.In a b) h =
      expr_Chain e (l ∷ [])
      ∙ sym (ap (λ (u : TypedExpr-F Argument Call Component Link TypedExpr Place). linked_to u (moved_expr z e)
      (moved_link z l))
      (ap out-TypedExpr (at_expr e (layer.In a b) h ∙ expr.rolls-In (moved_expr z a) (moved_expr z b))
      ∙ expr.outs-In (moved_expr z a) (moved_expr z b)))
  linked e l (layer.Abs t a) h =
      expr_Chain e (l ∷ [])
      ∙ sym (ap (λ (u : TypedExpr-F Argument Call Component Link TypedExpr Place). linked_to u (moved_expr z e)
      (moved_link z l))
      (ap out-TypedExpr (at_expr e (layer.Abs t a) h ∙ expr.rolls-Abs (moved_type z t) (moved_expr z a))
      ∙ expr.outs-Abs (moved_type z t) (moved_expr z a)))
  linked e l (layer.Cap a) h =
      expr_Chain e (l ∷ [])
      ∙ sym (ap (λ (u : TypedExpr-F Argument Call Component Link TypedExpr Place). linked_to u (moved_expr z e)
      (moved_link z l))
      (ap out-TypedExpr (at_expr e (layer.Cap a) h ∙ expr.rolls-Cap (moved_expr z a)) ∙ expr.outs-Cap (moved_expr z a)))
  linked e l (layer.Chr a) h =
      expr_Chain e (l ∷ [])
      ∙ sym (ap (λ (u : TypedExpr-F Argument Call Component Link TypedExpr Place). linked_to u (moved_expr z e)
      (moved_link z l))
      (ap out-TypedExpr (at_expr e (layer.Chr a) h ∙ expr.rolls-Chr (moved_expr z a)) ∙ expr.outs-Chr (moved_expr z a)))
  linked e l (layer.Odd a) h =
      expr_Chain e (l ∷ [])
      ∙ sym (ap (λ (u : TypedExpr-F Argument Call Component Link TypedExpr Place). linked_to u (moved_expr z e)
      (moved_link z l))
      (ap out-TypedExpr (at_expr e (layer.Odd a) h ∙ expr.rolls-Odd (moved_expr z a)) ∙ expr.outs-Odd (moved_expr z a)))
  linked e l (layer.Ord a) h =
      expr_Chain e (l ∷ [])
      ∙ sym (ap (λ (u : TypedExpr-F Argument Call Component Link TypedExpr Place). linked_to u (moved_expr z e)
      (moved_link z l))
      (ap out-TypedExpr (at_expr e (layer.Ord a) h ∙ expr.rolls-Ord (moved_expr z a)) ∙ expr.outs-Ord (moved_expr z a)))
  linked e l (layer.Val t a) h =
      expr_Chain e (l ∷ [])
      ∙ sym (ap (λ (u : TypedExpr-F Argument Call Component Link TypedExpr Place). linked_to u (moved_expr z e)
      (moved_link z l))
      (ap out-TypedExpr (at_expr e (layer.Val t a) h ∙ expr.rolls-Val (moved_type z t) (moved_expr z a))
      ∙ expr.outs-Val (moved_type z t) (moved_expr z a)))
  linked e l (layer.High s) h =
      expr_Chain e (l ∷ [])
      ∙ sym (ap (λ (u : TypedExpr-F Argument Call Component Link TypedExpr Place). linked_to u (moved_expr z e)
      (moved_link z l))
      (ap out-TypedExpr (at_expr e (layer.High s) h ∙ expr.rolls-High s) ∙ expr.outs-High s))
  linked e l (layer.Call t c) h =
      expr_Chain e (l ∷ [])
      ∙ sym (ap (λ (u : TypedExpr-F Argument Call Component Link TypedExpr Place). linked_to u (moved_expr z e)
      (moved_link z l))
      (ap out-TypedExpr (at_expr e (layer.Call t c) h ∙ expr.rolls-Call (moved_type z t) (moved_call z c))
      ∙ expr.outs-Call (moved_type z t) (moved_call z c)))

  pub link_operand_moves : (e : TypedExpr) (l : Link)
      → moved_expr z (link_operand e l) ≡ link_operand (moved_expr z e) (moved_link z l)
  link_operand_moves e l = linked e l (out-TypedExpr e) refl
