-- A typed tree calls through the table no more often than it counts.
use Rattle.std.proofs.Common.{map, ◌≡◌, ℕ, ◌+◌, ◌≤◌, List, [], ◌∷◌, ◌++◌, length, Bool, true, false, sym, ap, subst, ◌∙◌, length-append, arith}
use Rattle.std.specs.Prelude.{if◌then◌else◌}
use Rattle.typed_tree.specs.declared.computed.Argument.TheOpen as layer
use Rattle.typed_tree.specs.declared.computed.Argument.{Argument, Argument-F, out-Argument, roll-Argument, out-roll-Argument, map-Argument, fold_out-Argument, fold-Argument}
use Rattle.typed_tree.specs.declared.computed.Call.{Call, Call-F, out-Call, roll-Call, out-roll-Call, map-Call, fold_out-Call, ind-Call}
use Rattle.typed_tree.specs.declared.computed.Component.{Component, Component-F, out-Component, roll-Component, out-roll-Component, map-Component, fold_out-Component, fold-Component}
use Rattle.typed_tree.specs.declared.computed.Link.{Link, Link-F, out-Link, roll-Link, out-roll-Link, map-Link, fold_out-Link, fold-Link}
use Rattle.typed_tree.specs.declared.computed.TypedExpr.{TypedExpr, TypedExpr-F, out-TypedExpr, roll-TypedExpr, out-roll-TypedExpr, map-TypedExpr, fold_out-TypedExpr, ind-TypedExpr}
use Rattle.typed_tree.specs.declared.computed.Place.{Place, Place-F, out-Place, roll-Place, out-roll-Place, map-Place, fold_out-Place, ind-Place}
use Rattle.typed_tree.specs.declared.typed_module.TypedModule.{TypedModule}
use Rattle.def_scheme.specs.Exprs.{is_own}
use Rattle.def_scheme.specs.Signatures.{Signature, Signatures, of_heading, concatenation, of_expr, of_place, of_call}
use Rattle.def_scheme.specs.Signatures as sign
use Rattle.law_encoding.specs.Sizes.{total}
use Rattle.law_encoding.specs.TypedSizes.{size_typed, size_place, size_component, size_link, size_call, size_passed}
use Rattle.law_encoding.specs.TypedSizes as sizes
use Rattle.law_encoding.proofs.Ways.{by_size}
use Rattle.law_encoding.proofs.Weighed as typed

-- ---- lists

both_sum : (a b c n k : ℕ) → a ≡ b + c → b ≤ n → c ≤ k → a ≤ n + k
both_sum a b c n k e h l = omega (arith, e, h, l)

pub both_few : (xs ys : Signatures) (n k : ℕ) → length xs ≤ n → length ys ≤ k → length (xs ++ ys) ≤ n + k
both_few xs ys n k h l = both_sum _ _ _ n k (length-append xs ys) h l

abbrev pub AllFew : List ℕ → List Signatures → Type 0
AllFew [] [] = Unit {0}
AllFew (n ∷ ns) (x ∷ xs) = (length x ≤ n) × AllFew ns xs
AllFew [] (x ∷ xs) = ⊥
AllFew (n ∷ ns) [] = ⊥

pub all_few : (ns : List ℕ) (xs : List Signatures) → AllFew ns xs → length (concatenation xs) ≤ total ns
all_few [] [] p = omega arith
all_few [] (x ∷ xs) p = absurd p
all_few (n ∷ ns) [] p = absurd p
all_few (n ∷ ns) (x ∷ xs) p = both_few x (concatenation xs) n (total ns) p.0 (all_few ns xs p.1)

pub more : (a n k : ℕ) → n ≤ k → a ≤ n → a ≤ k
more a n k h l = omega (arith, h, l)

pub one_more : (a n : ℕ) → a ≤ n → a ≤ 1 + n
one_more a n l = omega (arith, l)

two_sum : (a n k : ℕ) → a ≤ n + k → a ≤ 1 + n + k
two_sum a n k l = omega (arith, l)

none_of : (n : ℕ) → 0 ≤ n
none_of n = omega arith

at_most_one : (b : Bool) (s : Signature) → length (if b then [] else s ∷ []) ≤ 1
at_most_one true s = omega arith
at_most_one false s = omega arith

swapped : (a n : ℕ) → a ≤ n + 1 → a ≤ 1 + n
swapped a n l = omega (arith, l)

call_sum : (a d n : ℕ) → a ≤ d + (n + 1) → a ≤ 1 + d + n
call_sum a d n l = omega (arith, l)

-- ---- trees

module _ (m : TypedModule) where
  abbrev pub of_argument : Argument → Signatures
  of_argument = fold-Argument Signatures Signatures Signatures Signatures Signatures Signatures (sign.argument_layer m)
      (sign.call_layer m) (sign.component_layer m) (sign.link_layer m) (sign.expr_layer m) (sign.place_layer m)

  abbrev pub of_component : Component → Signatures
  of_component = fold-Component Signatures Signatures Signatures Signatures Signatures Signatures
      (sign.argument_layer m) (sign.call_layer m) (sign.component_layer m) (sign.link_layer m) (sign.expr_layer m)
      (sign.place_layer m)

  abbrev pub of_link : Link → Signatures
  of_link = fold-Link Signatures Signatures Signatures Signatures Signatures Signatures (sign.argument_layer m)
      (sign.call_layer m) (sign.component_layer m) (sign.link_layer m) (sign.expr_layer m) (sign.place_layer m)

  abbrev pub opened_argument : Argument-F Argument Call Component Link TypedExpr Place
      → Argument-F Signatures Signatures Signatures Signatures Signatures Signatures
  opened_argument x = map-Argument Argument Call Component Link TypedExpr Place Signatures Signatures Signatures
      Signatures Signatures Signatures of_argument (of_call m) of_component of_link (of_expr m) (of_place m) x

  pub at_argument : (e : Argument) (x : Argument-F Argument Call Component Link TypedExpr Place) → out-Argument e ≡ x
      → of_argument e ≡ sign.argument_layer m (opened_argument x)
  unfolding of_expr of_place of_call
  at_argument e x h = fold_out-Argument Signatures Signatures Signatures Signatures Signatures Signatures
      (sign.argument_layer m) (sign.call_layer m) (sign.component_layer m) (sign.link_layer m) (sign.expr_layer m)
      (sign.place_layer m) e ∙ ap (λ (y : Argument-F Argument Call Component Link TypedExpr Place). sign.argument_layer
      m (opened_argument y)) h

  abbrev pub opened_call : Call-F Argument Call Component Link TypedExpr Place
      → Call-F Signatures Signatures Signatures Signatures Signatures Signatures
  opened_call x = map-Call Argument Call Component Link TypedExpr Place Signatures Signatures Signatures Signatures
      Signatures Signatures of_argument (of_call m) of_component of_link (of_expr m) (of_place m) x

  pub at_call : (e : Call) (x : Call-F Argument Call Component Link TypedExpr Place) → out-Call e ≡ x
      → of_call m e ≡ sign.call_layer m (opened_call x)
  unfolding of_expr of_place of_call
  at_call e x h = fold_out-Call Signatures Signatures Signatures Signatures Signatures Signatures
      (sign.argument_layer m) (sign.call_layer m) (sign.component_layer m) (sign.link_layer m) (sign.expr_layer m)
      (sign.place_layer m) e ∙ ap (λ (y : Call-F Argument Call Component Link TypedExpr Place). sign.call_layer m
      (opened_call y)) h

  abbrev pub opened_component : Component-F Argument Call Component Link TypedExpr Place
      → Component-F Signatures Signatures Signatures Signatures Signatures Signatures
  opened_component x = map-Component Argument Call Component Link TypedExpr Place Signatures Signatures Signatures
      Signatures Signatures Signatures of_argument (of_call m) of_component of_link (of_expr m) (of_place m) x

  pub at_component : (e : Component) (x : Component-F Argument Call Component Link TypedExpr Place)
      → out-Component e ≡ x → of_component e ≡ sign.component_layer m (opened_component x)
  unfolding of_expr of_place of_call
  at_component e x h = fold_out-Component Signatures Signatures Signatures Signatures Signatures Signatures
      (sign.argument_layer m) (sign.call_layer m) (sign.component_layer m) (sign.link_layer m) (sign.expr_layer m)
      (sign.place_layer m) e ∙ ap (λ (y : Component-F Argument Call Component Link TypedExpr Place).
      sign.component_layer m (opened_component y)) h

  abbrev pub opened_link : Link-F Argument Call Component Link TypedExpr Place
      → Link-F Signatures Signatures Signatures Signatures Signatures Signatures
  opened_link x = map-Link Argument Call Component Link TypedExpr Place Signatures Signatures Signatures Signatures
      Signatures Signatures of_argument (of_call m) of_component of_link (of_expr m) (of_place m) x

  pub at_link : (e : Link) (x : Link-F Argument Call Component Link TypedExpr Place) → out-Link e ≡ x
      → of_link e ≡ sign.link_layer m (opened_link x)
  unfolding of_expr of_place of_call
  at_link e x h = fold_out-Link Signatures Signatures Signatures Signatures Signatures Signatures
      (sign.argument_layer m) (sign.call_layer m) (sign.component_layer m) (sign.link_layer m) (sign.expr_layer m)
      (sign.place_layer m) e ∙ ap (λ (y : Link-F Argument Call Component Link TypedExpr Place). sign.link_layer m
      (opened_link y)) h

  abbrev pub opened_expr : TypedExpr-F Argument Call Component Link TypedExpr Place
      → TypedExpr-F Signatures Signatures Signatures Signatures Signatures Signatures
  opened_expr x = map-TypedExpr Argument Call Component Link TypedExpr Place Signatures Signatures Signatures Signatures
      Signatures Signatures of_argument (of_call m) of_component of_link (of_expr m) (of_place m) x

  pub at_expr : (e : TypedExpr) (x : TypedExpr-F Argument Call Component Link TypedExpr Place) → out-TypedExpr e ≡ x
      → of_expr m e ≡ sign.expr_layer m (opened_expr x)
  unfolding of_expr of_place of_call
  at_expr e x h = fold_out-TypedExpr Signatures Signatures Signatures Signatures Signatures Signatures
      (sign.argument_layer m) (sign.call_layer m) (sign.component_layer m) (sign.link_layer m) (sign.expr_layer m)
      (sign.place_layer m) e ∙ ap (λ (y : TypedExpr-F Argument Call Component Link TypedExpr Place). sign.expr_layer m
      (opened_expr y)) h

  abbrev pub opened_place : Place-F Argument Call Component Link TypedExpr Place
      → Place-F Signatures Signatures Signatures Signatures Signatures Signatures
  opened_place x = map-Place Argument Call Component Link TypedExpr Place Signatures Signatures Signatures Signatures
      Signatures Signatures of_argument (of_call m) of_component of_link (of_expr m) (of_place m) x

  pub at_place : (e : Place) (x : Place-F Argument Call Component Link TypedExpr Place) → out-Place e ≡ x
      → of_place m e ≡ sign.place_layer m (opened_place x)
  unfolding of_expr of_place of_call
  at_place e x h = fold_out-Place Signatures Signatures Signatures Signatures Signatures Signatures
      (sign.argument_layer m) (sign.call_layer m) (sign.component_layer m) (sign.link_layer m) (sign.expr_layer m)
      (sign.place_layer m) e ∙ ap (λ (y : Place-F Argument Call Component Link TypedExpr Place). sign.place_layer m
      (opened_place y)) h

  abbrev PA : Argument → Type 0
  PA e = length (of_argument e) ≤ size_passed e

  abbrev PC : Call → Type 0
  PC e = length (of_call m e) ≤ size_call e

  abbrev PK : Component → Type 0
  PK e = length (of_component e) ≤ size_component e

  abbrev PL : Link → Type 0
  PL e = length (of_link e) ≤ size_link e

  abbrev PE : TypedExpr → Type 0
  PE e = length (of_expr m e) ≤ size_typed e

  abbrev PP : Place → Type 0
  PP e = length (of_place m e) ≤ size_place e

  abbrev SA : Type 0
  SA = (e : Argument) × PA e

  abbrev SC : Type 0
  SC = (e : Call) × PC e

  abbrev SK : Type 0
  SK = (e : Component) × PK e

  abbrev SL : Type 0
  SL = (e : Link) × PL e

  abbrev SE : Type 0
  SE = (e : TypedExpr) × PE e

  abbrev SP : Type 0
  SP = (e : Place) × PP e

  abbrev bare_argument : Argument-F SA SC SK SL SE SP → Argument-F Argument Call Component Link TypedExpr Place
  bare_argument x = map-Argument SA SC SK SL SE SP Argument Call Component Link TypedExpr Place (λ e. e.0) (λ e. e.0)
      (λ e. e.0) (λ e. e.0) (λ e. e.0) (λ e. e.0) x

  abbrev bare_call : Call-F SA SC SK SL SE SP → Call-F Argument Call Component Link TypedExpr Place
  bare_call x = map-Call SA SC SK SL SE SP Argument Call Component Link TypedExpr Place (λ e. e.0) (λ e. e.0) (λ e. e.0)
      (λ e. e.0) (λ e. e.0) (λ e. e.0) x

  abbrev bare_component : Component-F SA SC SK SL SE SP → Component-F Argument Call Component Link TypedExpr Place
  bare_component x = map-Component SA SC SK SL SE SP Argument Call Component Link TypedExpr Place (λ e. e.0) (λ e. e.0)
      (λ e. e.0) (λ e. e.0) (λ e. e.0) (λ e. e.0) x

  abbrev bare_link : Link-F SA SC SK SL SE SP → Link-F Argument Call Component Link TypedExpr Place
  bare_link x = map-Link SA SC SK SL SE SP Argument Call Component Link TypedExpr Place (λ e. e.0) (λ e. e.0) (λ e. e.0)
      (λ e. e.0) (λ e. e.0) (λ e. e.0) x

  abbrev bare_expr : TypedExpr-F SA SC SK SL SE SP → TypedExpr-F Argument Call Component Link TypedExpr Place
  bare_expr x = map-TypedExpr SA SC SK SL SE SP Argument Call Component Link TypedExpr Place (λ e. e.0) (λ e. e.0)
      (λ e. e.0) (λ e. e.0) (λ e. e.0) (λ e. e.0) x

  abbrev bare_place : Place-F SA SC SK SL SE SP → Place-F Argument Call Component Link TypedExpr Place
  bare_place x = map-Place SA SC SK SL SE SP Argument Call Component Link TypedExpr Place (λ e. e.0) (λ e. e.0)
      (λ e. e.0) (λ e. e.0) (λ e. e.0) (λ e. e.0) x

  all_args : (xs : List SA) → AllFew (map size_passed (map (λ (e : SA). e.0) xs))
      (map of_argument (map (λ (e : SA). e.0) xs))
  all_args [] = tt
  all_args (x ∷ xs) = (x.1, all_args xs)

  few_args : (xs : List SA) → length (concatenation (map of_argument (map (λ (e : SA). e.0) xs))) ≤ total
      (map size_passed (map (λ (e : SA). e.0) xs))
  few_args xs = all_few _ _ (all_args xs)

  all_components : (xs : List SK) → AllFew (map size_component (map (λ (e : SK). e.0) xs))
      (map of_component (map (λ (e : SK). e.0) xs))
  all_components [] = tt
  all_components (x ∷ xs) = (x.1, all_components xs)

  few_components : (xs : List SK) → length (concatenation (map of_component (map (λ (e : SK). e.0) xs))) ≤ total
      (map size_component (map (λ (e : SK). e.0) xs))
  few_components xs = all_few _ _ (all_components xs)

  all_links : (xs : List SL) → AllFew (map size_link (map (λ (e : SL). e.0) xs))
      (map of_link (map (λ (e : SL). e.0) xs))
  all_links [] = tt
  all_links (x ∷ xs) = (x.1, all_links xs)

  few_links : (xs : List SL) → length (concatenation (map of_link (map (λ (e : SL). e.0) xs))) ≤ total
      (map size_link (map (λ (e : SL). e.0) xs))
  few_links xs = all_few _ _ (all_links xs)

  argument_few : (y : Argument-F SA SC SK SL SE SP)
      → length (sign.argument_layer m (opened_argument (bare_argument y))) ≤ sizes.argument_layer
      (typed.weights_argument by_size (bare_argument y))
  argument_few (layer.Value t e) = one_more _ _ e.1
  argument_few (layer.Place d) = one_more _ _ d.1
  argument_few (layer.Array t d) = one_more _ _ d.1
  argument_few (layer.Open slot) = none_of 2
  argument_few (layer.Text text) = none_of 1

  call_few : (y : Call-F SA SC SK SL SE SP)
      → length (sign.call_layer m (opened_call (bare_call y))) ≤ sizes.call_layer
      (typed.weights_call by_size (bare_call y))
  call_few (layer.Module f args) = swapped _ _
      (both_few _ _ _ 1 (few_args args) (at_most_one (is_own m f.home) (of_heading m.types f.heading)))
  call_few (layer.Nested f args) = one_more _ _ (few_args args)
  call_few (layer.Variable t d args) = call_sum _ (size_place d.0) _
      (both_few _ _ (size_place d.0) _ d.1 (both_few _ _ _ 1 (few_args args)
      (at_most_one false (of_heading m.types t))))

  component_few : (y : Component-F SA SC SK SL SE SP)
      → length (sign.component_layer m (opened_component (bare_component y))) ≤ sizes.component_layer
      (typed.weights_component by_size (bare_component y))
  component_few (layer.Field t k) = none_of 1
  component_few (layer.Element t i) = one_more _ _ i.1
  component_few (layer.OpenElement slot t i) = one_more _ _ i.1

  link_few : (y : Link-F SA SC SK SL SE SP)
      → length (sign.link_layer m (opened_link (bare_link y))) ≤ sizes.link_layer
      (typed.weights_link by_size (bare_link y))
  link_few (layer.Arithmetic o t b) = one_more _ _ b.1
  link_few (layer.And b) = one_more _ _ b.1
  link_few (layer.Or b) = one_more _ _ b.1
  link_few (layer.Combine o b) = one_more _ _ b.1

  expr_few : (y : TypedExpr-F SA SC SK SL SE SP)
      → length (sign.expr_layer m (opened_expr (bare_expr y))) ≤ sizes.expr_layer
      (typed.weights_expr by_size (bare_expr y))
  expr_few (layer.Constant t n) = none_of 1
  expr_few (layer.Load t d) = one_more _ _ d.1
  expr_few (layer.Procedure f) = none_of 1
  expr_few (layer.Plus t e) = one_more _ _ e.1
  expr_few (layer.Negate e) = one_more _ _ e.1
  expr_few (layer.Chain e links) = two_sum _ (size_typed e.0) _ (both_few _ _ (size_typed e.0) _ e.1 (few_links links))
  expr_few (layer.Compare o a b) = two_sum _ (size_typed a.0) (size_typed b.0)
      (both_few _ _ (size_typed a.0) (size_typed b.0) a.1 b.1)
  expr_few (layer.Not e) = one_more _ _ e.1
  expr_few (layer.Include o a b) = two_sum _ (size_typed a.0) (size_typed b.0)
      (both_few _ _ (size_typed a.0) (size_typed b.0) a.1 b.1)
  expr_few (layer.In a b) = two_sum _ (size_typed a.0) (size_typed b.0)
      (both_few _ _ (size_typed a.0) (size_typed b.0) a.1 b.1)
  expr_few (layer.Abs t e) = one_more _ _ e.1
  expr_few (layer.Cap e) = one_more _ _ e.1
  expr_few (layer.Chr e) = one_more _ _ e.1
  expr_few (layer.Odd e) = one_more _ _ e.1
  expr_few (layer.Ord e) = one_more _ _ e.1
  expr_few (layer.Val t e) = one_more _ _ e.1
  expr_few (layer.High slot) = none_of 1
  expr_few (layer.Call t c) = one_more _ _ c.1

  place_few : (y : Place-F SA SC SK SL SE SP)
      → length (sign.place_layer m (opened_place (bare_place y))) ≤ sizes.place_layer
      (typed.weights_place by_size (bare_place y))
  place_few y = one_more _ _ (few_components y.components)

  step_argument : (x : Argument-F Argument Call Component Link TypedExpr Place) (y : Argument-F SA SC SK SL SE SP)
      → bare_argument y ≡ x → PA (roll-Argument x)
  step_argument x y q =
      let e = out-roll-Argument x ∙ sym q in
      subst (λ (n : ℕ). length (of_argument (roll-Argument x)) ≤ n)
      (sym (typed.at_argument by_size (roll-Argument x) (bare_argument y) e))
      (subst (λ (z : Signatures). length z ≤ sizes.argument_layer (typed.weights_argument by_size (bare_argument y)))
      (sym (at_argument (roll-Argument x) (bare_argument y) e)) (argument_few y))

  step_call : (x : Call-F Argument Call Component Link TypedExpr Place) (y : Call-F SA SC SK SL SE SP) → bare_call y ≡ x
      → PC (roll-Call x)
  step_call x y q =
      let e = out-roll-Call x ∙ sym q in
      subst (λ (n : ℕ). length (of_call m (roll-Call x)) ≤ n)
      (sym (typed.at_call by_size (roll-Call x) (bare_call y) e))
      (subst (λ (z : Signatures). length z ≤ sizes.call_layer (typed.weights_call by_size (bare_call y)))
      (sym (at_call (roll-Call x) (bare_call y) e)) (call_few y))

  step_component : (x : Component-F Argument Call Component Link TypedExpr Place) (y : Component-F SA SC SK SL SE SP)
      → bare_component y ≡ x → PK (roll-Component x)
  step_component x y q =
      let e = out-roll-Component x ∙ sym q in
      subst (λ (n : ℕ). length (of_component (roll-Component x)) ≤ n)
      (sym (typed.at_component by_size (roll-Component x) (bare_component y) e))
      (subst (λ (z : Signatures). length z ≤ sizes.component_layer (typed.weights_component by_size (bare_component y)))
      (sym (at_component (roll-Component x) (bare_component y) e)) (component_few y))

  step_link : (x : Link-F Argument Call Component Link TypedExpr Place) (y : Link-F SA SC SK SL SE SP) → bare_link y ≡ x
      → PL (roll-Link x)
  step_link x y q =
      let e = out-roll-Link x ∙ sym q in
      subst (λ (n : ℕ). length (of_link (roll-Link x)) ≤ n) (sym (typed.at_link by_size (roll-Link x) (bare_link y) e))
      (subst (λ (z : Signatures). length z ≤ sizes.link_layer (typed.weights_link by_size (bare_link y)))
      (sym (at_link (roll-Link x) (bare_link y) e)) (link_few y))

  step_expr : (x : TypedExpr-F Argument Call Component Link TypedExpr Place) (y : TypedExpr-F SA SC SK SL SE SP)
      → bare_expr y ≡ x → PE (roll-TypedExpr x)
  step_expr x y q =
      let e = out-roll-TypedExpr x ∙ sym q in
      subst (λ (n : ℕ). length (of_expr m (roll-TypedExpr x)) ≤ n)
      (sym (typed.at_expr by_size (roll-TypedExpr x) (bare_expr y) e))
      (subst (λ (z : Signatures). length z ≤ sizes.expr_layer (typed.weights_expr by_size (bare_expr y)))
      (sym (at_expr (roll-TypedExpr x) (bare_expr y) e)) (expr_few y))

  step_place : (x : Place-F Argument Call Component Link TypedExpr Place) (y : Place-F SA SC SK SL SE SP)
      → bare_place y ≡ x → PP (roll-Place x)
  step_place x y q =
      let e = out-roll-Place x ∙ sym q in
      subst (λ (n : ℕ). length (of_place m (roll-Place x)) ≤ n)
      (sym (typed.at_place by_size (roll-Place x) (bare_place y) e))
      (subst (λ (z : Signatures). length z ≤ sizes.place_layer (typed.weights_place by_size (bare_place y)))
      (sym (at_place (roll-Place x) (bare_place y) e)) (place_few y))

  pub expr_calls : (e : TypedExpr) → PE e
  expr_calls = ind-TypedExpr PA PC PK PL PE PP step_argument step_call step_component step_link step_expr step_place

  pub place_calls : (e : Place) → PP e
  place_calls = ind-Place PA PC PK PL PE PP step_argument step_call step_component step_link step_expr step_place

  pub call_calls : (e : Call) → PC e
  call_calls = ind-Call PA PC PK PL PE PP step_argument step_call step_component step_link step_expr step_place
