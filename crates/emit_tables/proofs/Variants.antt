-- What is marked for each variant of an expression, from what is marked for its parts.
use Rattle.std.proofs.Common.{◌≡◌, ℕ, ℤ, List, [], ◌∷◌, ◌++◌, map, refl, ap, ◌∙◌}
use Rattle.std.specs.List.{fold}
use Rattle.std.proofs.lemmas.List.Sums.{fold-append}
use Rattle.typed_tree.specs.declared.types.TypeNo.{TypeNo}
use Rattle.typed_tree.specs.declared.meaning.Procedure.{Procedure}
use Rattle.typed_tree.specs.declared.computed.Slot.{Slot}
use Rattle.typed_tree.specs.declared.computed.LocalProcedure.{LocalProcedure}
use Rattle.typed_tree.specs.declared.computed.Arithmetic.{Arithmetic}
use Rattle.typed_tree.specs.declared.computed.Comparison.{Comparison}
use Rattle.typed_tree.specs.declared.computed.SetOperator.{SetOperator}
use Rattle.typed_tree.specs.declared.computed.Inclusion.{Inclusion}
use Rattle.typed_tree.specs.declared.computed.TypedExpr.{TypedExpr, TypedExpr-F, out-TypedExpr, map-TypedExpr, fold_out-TypedExpr}
use Rattle.typed_tree.specs.declared.computed.TypedExpr.TheVariants as ev
use Rattle.typed_tree.specs.declared.computed.Component.{Component, Component-F, out-Component, map-Component, fold_out-Component}
use Rattle.typed_tree.specs.declared.computed.Component.TheVariants as kv
use Rattle.typed_tree.specs.declared.computed.Link.{Link, Link-F, out-Link, map-Link, fold_out-Link}
use Rattle.typed_tree.specs.declared.computed.Link.TheVariants as lv
use Rattle.typed_tree.specs.declared.computed.Place.{Place, fold_out-Place}
use Rattle.typed_tree.specs.declared.computed.Call.{Call, Call-F, out-Call, map-Call, fold_out-Call}
use Rattle.typed_tree.specs.declared.computed.Call.TheVariants as cv
use Rattle.typed_tree.specs.declared.computed.Argument.{Argument, Argument-F, out-Argument, map-Argument, fold_out-Argument}
use Rattle.typed_tree.specs.declared.computed.Argument.TheOpen as layer
use Rattle.typed_tree.specs.declared.computed.Argument.TheVariants as xv
use Rattle.typed_tree.specs.declared.typed_module.TypedModule.{TypedModule}
use Rattle.def_scheme.specs.Signatures.{Signature, Signatures, concatenation, of_heading, argument_layer, call_layer, component_layer, link_layer, expr_layer, place_layer, of_expr, of_place, of_call}
use Rattle.emit_tables.specs.declared.marks.Mark.{Mark}
use Rattle.emit_tables.specs.Marked.{with_one, with_all}
use Rattle.emit_tables.specs.Needed.{of_procedure, of_argument, of_component, of_link, with_argument, with_component, with_link}

-- ---- lists

pub none_needed : (xs : List Mark) → with_all [] xs ≡ xs
unfolding with_all
none_needed xs = refl

pub both : (a b : Signatures) (xs : List Mark) → with_all (a ++ b) xs ≡ with_all b (with_all a xs)
unfolding with_all
both a b xs = fold-append with_one xs a b

pub one_needed : (s : Signature) (xs : List Mark) → with_all (s ∷ []) xs ≡ with_one xs s
unfolding with_all
one_needed s xs = refl

-- one after another
pub walked : {A : Type 0} (f : A → Signatures) (xs : List A) (ms : List Mark)
    → with_all (concatenation (map f xs)) ms ≡ fold (λ ms x. with_all (f x) ms) ms xs
walked f [] ms = none_needed ms
walked f (x ∷ xs) ms = both (f x) (concatenation (map f xs)) ms ∙ walked f xs (with_all (f x) ms)

module _ (m : TypedModule) where
  abbrev opened_expr : TypedExpr-F Argument Call Component Link TypedExpr Place
      → TypedExpr-F Signatures Signatures Signatures Signatures Signatures Signatures
  opened_expr x = map-TypedExpr Argument Call Component Link TypedExpr Place Signatures Signatures Signatures Signatures
      Signatures Signatures (of_argument m) (of_call m) (of_component m) (of_link m) (of_expr m) (of_place m) x

  at_expr : (e : TypedExpr) (x : TypedExpr-F Argument Call Component Link TypedExpr Place) → out-TypedExpr e ≡ x
      → of_expr m e ≡ expr_layer m (opened_expr x)
  unfolding of_expr of_place of_call of_argument of_component of_link
  at_expr e x h = fold_out-TypedExpr Signatures Signatures Signatures Signatures Signatures Signatures
      (argument_layer m) (call_layer m) (component_layer m) (link_layer m) (expr_layer m) (place_layer m) e
      ∙ ap (λ (y : TypedExpr-F Argument Call Component Link TypedExpr Place). expr_layer m (opened_expr y)) h

  abbrev opened_component : Component-F Argument Call Component Link TypedExpr Place
      → Component-F Signatures Signatures Signatures Signatures Signatures Signatures
  opened_component x = map-Component Argument Call Component Link TypedExpr Place Signatures Signatures Signatures
      Signatures Signatures Signatures (of_argument m) (of_call m) (of_component m) (of_link m) (of_expr m) (of_place m)
      x

  at_component : (e : Component) (x : Component-F Argument Call Component Link TypedExpr Place) → out-Component e ≡ x
      → of_component m e ≡ component_layer m (opened_component x)
  unfolding of_expr of_place of_call of_argument of_component of_link
  at_component e x h = fold_out-Component Signatures Signatures Signatures Signatures Signatures Signatures
      (argument_layer m) (call_layer m) (component_layer m) (link_layer m) (expr_layer m) (place_layer m) e
      ∙ ap (λ (y : Component-F Argument Call Component Link TypedExpr Place). component_layer m (opened_component y)) h

  abbrev opened_link : Link-F Argument Call Component Link TypedExpr Place
      → Link-F Signatures Signatures Signatures Signatures Signatures Signatures
  opened_link x = map-Link Argument Call Component Link TypedExpr Place Signatures Signatures Signatures Signatures
      Signatures Signatures (of_argument m) (of_call m) (of_component m) (of_link m) (of_expr m) (of_place m) x

  at_link : (e : Link) (x : Link-F Argument Call Component Link TypedExpr Place) → out-Link e ≡ x
      → of_link m e ≡ link_layer m (opened_link x)
  unfolding of_expr of_place of_call of_argument of_component of_link
  at_link e x h = fold_out-Link Signatures Signatures Signatures Signatures Signatures Signatures (argument_layer m)
      (call_layer m) (component_layer m) (link_layer m) (expr_layer m) (place_layer m) e
      ∙ ap (λ (y : Link-F Argument Call Component Link TypedExpr Place). link_layer m (opened_link y)) h

  abbrev opened_call : Call-F Argument Call Component Link TypedExpr Place
      → Call-F Signatures Signatures Signatures Signatures Signatures Signatures
  opened_call x = map-Call Argument Call Component Link TypedExpr Place Signatures Signatures Signatures Signatures
      Signatures Signatures (of_argument m) (of_call m) (of_component m) (of_link m) (of_expr m) (of_place m) x

  at_call : (e : Call) (x : Call-F Argument Call Component Link TypedExpr Place) → out-Call e ≡ x
      → of_call m e ≡ call_layer m (opened_call x)
  unfolding of_expr of_place of_call of_argument of_component of_link
  at_call e x h = fold_out-Call Signatures Signatures Signatures Signatures Signatures Signatures (argument_layer m)
      (call_layer m) (component_layer m) (link_layer m) (expr_layer m) (place_layer m) e
      ∙ ap (λ (y : Call-F Argument Call Component Link TypedExpr Place). call_layer m (opened_call y)) h

  abbrev opened_argument : Argument-F Argument Call Component Link TypedExpr Place
      → Argument-F Signatures Signatures Signatures Signatures Signatures Signatures
  opened_argument x = map-Argument Argument Call Component Link TypedExpr Place Signatures Signatures Signatures
      Signatures Signatures Signatures (of_argument m) (of_call m) (of_component m) (of_link m) (of_expr m) (of_place m)
      x

  at_argument : (e : Argument) (x : Argument-F Argument Call Component Link TypedExpr Place) → out-Argument e ≡ x
      → of_argument m e ≡ argument_layer m (opened_argument x)
  unfolding of_expr of_place of_call of_argument of_component of_link
  at_argument e x h = fold_out-Argument Signatures Signatures Signatures Signatures Signatures Signatures
      (argument_layer m) (call_layer m) (component_layer m) (link_layer m) (expr_layer m) (place_layer m) e
      ∙ ap (λ (y : Argument-F Argument Call Component Link TypedExpr Place). argument_layer m (opened_argument y)) h

  pub expr_Constant : (t : TypeNo) (n : ℤ) (xs : List Mark) → with_all (of_expr m (ev.Constant t n)) xs ≡ xs
  expr_Constant t n xs = ap (λ (ss : Signatures). with_all ss xs)
      (at_expr (ev.Constant t n) (layer.Constant t n) (ev.outs-Constant t n)) ∙ none_needed xs

  pub expr_Load : (t : TypeNo) (d : Place) (xs : List Mark)
      → with_all (of_expr m (ev.Load t d)) xs ≡ with_all (of_place m d) xs
  expr_Load t d xs = ap (λ (ss : Signatures). with_all ss xs)
      (at_expr (ev.Load t d) (layer.Load t d) (ev.outs-Load t d))

  pub expr_Procedure : (f : Procedure) (xs : List Mark) → with_all (of_expr m (ev.Procedure f)) xs ≡ xs
  expr_Procedure f xs = ap (λ (ss : Signatures). with_all ss xs)
      (at_expr (ev.Procedure f) (layer.Procedure f) (ev.outs-Procedure f)) ∙ none_needed xs

  pub expr_Plus : (t : TypeNo) (e : TypedExpr) (xs : List Mark)
      → with_all (of_expr m (ev.Plus t e)) xs ≡ with_all (of_expr m e) xs
  expr_Plus t e xs = ap (λ (ss : Signatures). with_all ss xs)
      (at_expr (ev.Plus t e) (layer.Plus t e) (ev.outs-Plus t e))

  pub expr_Negate : (e : TypedExpr) (xs : List Mark) → with_all (of_expr m (ev.Negate e)) xs ≡ with_all (of_expr m e) xs
  expr_Negate e xs = ap (λ (ss : Signatures). with_all ss xs)
      (at_expr (ev.Negate e) (layer.Negate e) (ev.outs-Negate e))

  pub expr_Chain : (e : TypedExpr) (ls : List Link) (xs : List Mark)
      → with_all (of_expr m (ev.Chain e ls)) xs ≡ fold (with_link m) (with_all (of_expr m e) xs) ls
  expr_Chain e ls xs = ap (λ (ss : Signatures). with_all ss xs)
      (at_expr (ev.Chain e ls) (layer.Chain e ls) (ev.outs-Chain e ls))
      ∙ both (of_expr m e) (concatenation (map (of_link m) ls)) xs ∙ walked (of_link m) ls (with_all (of_expr m e) xs)

  pub expr_Compare : (o : Comparison) (a b : TypedExpr) (xs : List Mark)
      → with_all (of_expr m (ev.Compare o a b)) xs ≡ with_all (of_expr m b) (with_all (of_expr m a) xs)
  expr_Compare o a b xs = ap (λ (ss : Signatures). with_all ss xs)
      (at_expr (ev.Compare o a b) (layer.Compare o a b) (ev.outs-Compare o a b)) ∙ both (of_expr m a) (of_expr m b) xs

  pub expr_Not : (e : TypedExpr) (xs : List Mark) → with_all (of_expr m (ev.Not e)) xs ≡ with_all (of_expr m e) xs
  expr_Not e xs = ap (λ (ss : Signatures). with_all ss xs) (at_expr (ev.Not e) (layer.Not e) (ev.outs-Not e))

  pub expr_Include : (o : Inclusion) (a b : TypedExpr) (xs : List Mark)
      → with_all (of_expr m (ev.Include o a b)) xs ≡ with_all (of_expr m b) (with_all (of_expr m a) xs)
  expr_Include o a b xs = ap (λ (ss : Signatures). with_all ss xs)
      (at_expr (ev.Include o a b) (layer.Include o a b) (ev.outs-Include o a b)) ∙ both (of_expr m a) (of_expr m b) xs

  pub expr_In : (a b : TypedExpr) (xs : List Mark)
      → with_all (of_expr m (ev.In a b)) xs ≡ with_all (of_expr m b) (with_all (of_expr m a) xs)
  expr_In a b xs = ap (λ (ss : Signatures). with_all ss xs) (at_expr (ev.In a b) (layer.In a b) (ev.outs-In a b))
      ∙ both (of_expr m a) (of_expr m b) xs

  pub expr_Abs : (t : TypeNo) (e : TypedExpr) (xs : List Mark)
      → with_all (of_expr m (ev.Abs t e)) xs ≡ with_all (of_expr m e) xs
  expr_Abs t e xs = ap (λ (ss : Signatures). with_all ss xs) (at_expr (ev.Abs t e) (layer.Abs t e) (ev.outs-Abs t e))

  pub expr_Cap : (e : TypedExpr) (xs : List Mark) → with_all (of_expr m (ev.Cap e)) xs ≡ with_all (of_expr m e) xs
  expr_Cap e xs = ap (λ (ss : Signatures). with_all ss xs) (at_expr (ev.Cap e) (layer.Cap e) (ev.outs-Cap e))

  pub expr_Chr : (e : TypedExpr) (xs : List Mark) → with_all (of_expr m (ev.Chr e)) xs ≡ with_all (of_expr m e) xs
  expr_Chr e xs = ap (λ (ss : Signatures). with_all ss xs) (at_expr (ev.Chr e) (layer.Chr e) (ev.outs-Chr e))

  pub expr_Odd : (e : TypedExpr) (xs : List Mark) → with_all (of_expr m (ev.Odd e)) xs ≡ with_all (of_expr m e) xs
  expr_Odd e xs = ap (λ (ss : Signatures). with_all ss xs) (at_expr (ev.Odd e) (layer.Odd e) (ev.outs-Odd e))

  pub expr_Ord : (e : TypedExpr) (xs : List Mark) → with_all (of_expr m (ev.Ord e)) xs ≡ with_all (of_expr m e) xs
  expr_Ord e xs = ap (λ (ss : Signatures). with_all ss xs) (at_expr (ev.Ord e) (layer.Ord e) (ev.outs-Ord e))

  pub expr_Val : (t : TypeNo) (e : TypedExpr) (xs : List Mark)
      → with_all (of_expr m (ev.Val t e)) xs ≡ with_all (of_expr m e) xs
  expr_Val t e xs = ap (λ (ss : Signatures). with_all ss xs) (at_expr (ev.Val t e) (layer.Val t e) (ev.outs-Val t e))

  pub expr_High : (s : Slot) (xs : List Mark) → with_all (of_expr m (ev.High s)) xs ≡ xs
  expr_High s xs = ap (λ (ss : Signatures). with_all ss xs) (at_expr (ev.High s) (layer.High s) (ev.outs-High s))
      ∙ none_needed xs

  pub expr_Call : (t : TypeNo) (c : Call) (xs : List Mark)
      → with_all (of_expr m (ev.Call t c)) xs ≡ with_all (of_call m c) xs
  expr_Call t c xs = ap (λ (ss : Signatures). with_all ss xs)
      (at_expr (ev.Call t c) (layer.Call t c) (ev.outs-Call t c))

  pub place_is : (d : Place) (xs : List Mark) → with_all (of_place m d) xs ≡ fold (with_component m) xs d.components
  unfolding of_expr of_place of_call of_argument of_component of_link
  place_is d xs = ap (λ (ss : Signatures). with_all ss xs)
      (fold_out-Place Signatures Signatures Signatures Signatures Signatures Signatures (argument_layer m)
      (call_layer m) (component_layer m) (link_layer m) (expr_layer m) (place_layer m) d)
      ∙ walked (of_component m) d.components xs

  pub component_Field : (t : TypeNo) (k : ℕ) (xs : List Mark) → with_all (of_component m (kv.Field t k)) xs ≡ xs
  component_Field t k xs = ap (λ (ss : Signatures). with_all ss xs)
      (at_component (kv.Field t k) (layer.Field t k) (kv.outs-Field t k)) ∙ none_needed xs

  pub component_Element : (t : TypeNo) (i : TypedExpr) (xs : List Mark)
      → with_all (of_component m (kv.Element t i)) xs ≡ with_all (of_expr m i) xs
  component_Element t i xs = ap (λ (ss : Signatures). with_all ss xs)
      (at_component (kv.Element t i) (layer.Element t i) (kv.outs-Element t i))

  pub component_OpenElement : (s : Slot) (t : TypeNo) (i : TypedExpr) (xs : List Mark)
      → with_all (of_component m (kv.OpenElement s t i)) xs ≡ with_all (of_expr m i) xs
  component_OpenElement s t i xs = ap (λ (ss : Signatures). with_all ss xs)
      (at_component (kv.OpenElement s t i) (layer.OpenElement s t i) (kv.outs-OpenElement s t i))

  pub link_Arithmetic : (o : Arithmetic) (t : TypeNo) (e : TypedExpr) (xs : List Mark)
      → with_all (of_link m (lv.Arithmetic o t e)) xs ≡ with_all (of_expr m e) xs
  link_Arithmetic o t e xs = ap (λ (ss : Signatures). with_all ss xs)
      (at_link (lv.Arithmetic o t e) (layer.Arithmetic o t e) (lv.outs-Arithmetic o t e))

  pub link_And : (e : TypedExpr) (xs : List Mark) → with_all (of_link m (lv.And e)) xs ≡ with_all (of_expr m e) xs
  link_And e xs = ap (λ (ss : Signatures). with_all ss xs) (at_link (lv.And e) (layer.And e) (lv.outs-And e))

  pub link_Or : (e : TypedExpr) (xs : List Mark) → with_all (of_link m (lv.Or e)) xs ≡ with_all (of_expr m e) xs
  link_Or e xs = ap (λ (ss : Signatures). with_all ss xs) (at_link (lv.Or e) (layer.Or e) (lv.outs-Or e))

  pub link_Combine : (o : SetOperator) (e : TypedExpr) (xs : List Mark)
      → with_all (of_link m (lv.Combine o e)) xs ≡ with_all (of_expr m e) xs
  link_Combine o e xs = ap (λ (ss : Signatures). with_all ss xs)
      (at_link (lv.Combine o e) (layer.Combine o e) (lv.outs-Combine o e))

  pub call_Module : (f : Procedure) (args : List Argument) (xs : List Mark)
      → with_all (of_call m (cv.Module f args)) xs ≡ with_all (of_procedure m f) (fold (with_argument m) xs args)
  call_Module f args xs = ap (λ (ss : Signatures). with_all ss xs)
      (at_call (cv.Module f args) (layer.Module f args) (cv.outs-Module f args))
      ∙ both (concatenation (map (of_argument m) args)) (of_procedure m f) xs
      ∙ ap (λ (ms : List Mark). with_all (of_procedure m f) ms) (walked (of_argument m) args xs)

  pub call_Nested : (f : LocalProcedure) (args : List Argument) (xs : List Mark)
      → with_all (of_call m (cv.Nested f args)) xs ≡ fold (with_argument m) xs args
  call_Nested f args xs = ap (λ (ss : Signatures). with_all ss xs)
      (at_call (cv.Nested f args) (layer.Nested f args) (cv.outs-Nested f args)) ∙ walked (of_argument m) args xs

  pub call_Variable : (t : TypeNo) (d : Place) (args : List Argument) (xs : List Mark)
      → with_all (of_call m (cv.Variable t d args)) xs
      ≡ with_one (fold (with_argument m) (with_all (of_place m d) xs) args) (of_heading m.types t)
  call_Variable t d args xs = ap (λ (ss : Signatures). with_all ss xs)
      (at_call (cv.Variable t d args) (layer.Variable t d args) (cv.outs-Variable t d args))
      ∙ both (of_place m d) (concatenation (map (of_argument m) args) ++ of_heading m.types t ∷ []) xs
      ∙ both (concatenation (map (of_argument m) args)) (of_heading m.types t ∷ []) (with_all (of_place m d) xs)
      ∙ one_needed (of_heading m.types t) (with_all (concatenation (map (of_argument m) args))
      (with_all (of_place m d) xs)) ∙ ap (λ (ms : List Mark). with_one ms (of_heading m.types t))
      (walked (of_argument m) args (with_all (of_place m d) xs))

  pub argument_Value : (t : TypeNo) (e : TypedExpr) (xs : List Mark)
      → with_all (of_argument m (xv.Value t e)) xs ≡ with_all (of_expr m e) xs
  argument_Value t e xs = ap (λ (ss : Signatures). with_all ss xs)
      (at_argument (xv.Value t e) (layer.Value t e) (xv.outs-Value t e))

  pub argument_Place : (d : Place) (xs : List Mark)
      → with_all (of_argument m (xv.Place d)) xs ≡ with_all (of_place m d) xs
  argument_Place d xs = ap (λ (ss : Signatures). with_all ss xs)
      (at_argument (xv.Place d) (layer.Place d) (xv.outs-Place d))

  pub argument_Array : (t : TypeNo) (d : Place) (xs : List Mark)
      → with_all (of_argument m (xv.Array t d)) xs ≡ with_all (of_place m d) xs
  argument_Array t d xs = ap (λ (ss : Signatures). with_all ss xs)
      (at_argument (xv.Array t d) (layer.Array t d) (xv.outs-Array t d))

  pub argument_Open : (s : Slot) (xs : List Mark) → with_all (of_argument m (xv.Open s)) xs ≡ xs
  argument_Open s xs = ap (λ (ss : Signatures). with_all ss xs)
      (at_argument (xv.Open s) (layer.Open s) (xv.outs-Open s)) ∙ none_needed xs

  pub argument_Text : (text : List ℕ) (xs : List Mark) → with_all (of_argument m (xv.Text text)) xs ≡ xs
  argument_Text text xs = ap (λ (ss : Signatures). with_all ss xs)
      (at_argument (xv.Text text) (layer.Text text) (xv.outs-Text text)) ∙ none_needed xs

-- all of these
pub ruleset variants = (
  expr_Constant,
  expr_Load,
  expr_Procedure,
  expr_Plus,
  expr_Negate,
  expr_Chain,
  expr_Compare,
  expr_Not,
  expr_Include,
  expr_In,
  expr_Abs,
  expr_Cap,
  expr_Chr,
  expr_Odd,
  expr_Ord,
  expr_Val,
  expr_High,
  expr_Call,
  place_is,
  component_Field,
  component_Element,
  component_OpenElement,
  link_Arithmetic,
  link_And,
  link_Or,
  link_Combine,
  call_Module,
  call_Nested,
  call_Variable,
  argument_Value,
  argument_Place,
  argument_Array,
  argument_Open,
  argument_Text,
)
