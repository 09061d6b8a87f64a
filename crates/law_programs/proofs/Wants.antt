-- What each construct asks for: what its parts ask for, one behind the other.
use Rattle.std.proofs.Common.{◌≡◌, ℕ, ◌+◌, List, [], ◌∷◌, ◌++◌, length, map, refl, sym, ap, subst, ◌∙◌, arith, append_assoc}
use Rattle.std.specs.Prelude.{if◌then◌else◌, ℤ}
use Rattle.std.proofs.lemmas.List.{append-nil}
use Rattle.typed_tree.specs.declared.computed.Argument.{Argument, Argument-F, out-Argument, map-Argument, fold_out-Argument}
use Rattle.typed_tree.specs.declared.computed.Argument.TheOpen as layer
use Rattle.typed_tree.specs.declared.computed.Argument.TheVariants as argument
use Rattle.typed_tree.specs.declared.computed.Arithmetic.{Arithmetic}
use Rattle.typed_tree.specs.declared.computed.Call.{Call, Call-F, out-Call, map-Call, fold_out-Call}
use Rattle.typed_tree.specs.declared.computed.Call.TheVariants as call
use Rattle.typed_tree.specs.declared.computed.Comparison.{Comparison}
use Rattle.typed_tree.specs.declared.computed.Component.{Component, Component-F, out-Component, map-Component, fold_out-Component}
use Rattle.typed_tree.specs.declared.computed.Component.TheVariants as part
use Rattle.typed_tree.specs.declared.computed.Inclusion.{Inclusion}
use Rattle.typed_tree.specs.declared.computed.Link.{Link, Link-F, out-Link, map-Link, fold_out-Link}
use Rattle.typed_tree.specs.declared.computed.Link.TheVariants as link
use Rattle.typed_tree.specs.declared.computed.LocalProcedure.{LocalProcedure}
use Rattle.typed_tree.specs.declared.computed.Place.{Place, Place-F, out-Place, map-Place, fold_out-Place}
use Rattle.typed_tree.specs.declared.computed.Root.{Root}
use Rattle.typed_tree.specs.declared.computed.SetOperator.{SetOperator}
use Rattle.typed_tree.specs.declared.computed.Slot.{Slot}
use Rattle.typed_tree.specs.declared.computed.TypedExpr.{TypedExpr, TypedExpr-F, out-TypedExpr, map-TypedExpr, fold_out-TypedExpr}
use Rattle.typed_tree.specs.declared.computed.TypedExpr.TheVariants as expr
use Rattle.typed_tree.specs.declared.meaning.Procedure.{Procedure}
use Rattle.typed_tree.specs.declared.typed_module.TypedModule.{TypedModule}
use Rattle.typed_tree.specs.declared.types.TypeNo.{TypeNo}
use Rattle.typed_tree.specs.Chains.{linked_to, link_operand, root_place, behind}
use Rattle.layout_storage.specs.Texts.{Texts, argument_text, characters, texts_of, texts_at, texts_called, texts_linked, texts_behind, texts_passed}
use Rattle.layout_storage.specs.Texts as texts
use Rattle.def_scheme.specs.Exprs.{is_own}
use Rattle.def_scheme.specs.Signatures.{Signatures, of_heading, of_expr, of_place, of_call}
use Rattle.def_scheme.specs.Signatures as signed
use Rattle.law_simulation.specs.TreesTyped.{Context}
use Rattle.law_programs.specs.Wanted.{of_link, of_component, of_argument, Wanted, wanted_of, wanted_at, wanted_called, wanted_linked, wanted_behind, wanted_passed, TextsStand, AreNeeded, Has}

-- ---- one behind the other

abbrev pub nothing : Wanted
nothing = record { texts = []; signatures = [] }

abbrev pub beside : Wanted → Wanted → Wanted
beside u v = record { texts = u.texts ++ v.texts; signatures = u.signatures ++ v.signatures }

abbrev pub made : Texts → Signatures → Wanted
made t s = record { texts = t; signatures = s }

pub made_same : (t u : Texts) (s z : Signatures) → t ≡ u → s ≡ z → made t s ≡ made u z
made_same t u s z p q = ap (λ (y : Texts). made y s) p ∙ ap (λ (y : Signatures). made u y) q

pub characters_append : (ts us : Texts) → characters (ts ++ us) ≡ characters ts + characters us
characters_append [] us = omega arith
characters_append (t ∷ ts) us = let e = characters_append ts us in omega (arith, e)

pub seam : (a : ℕ) (ts us : Texts) → (a + characters ts) + characters us ≡ a + characters (ts ++ us)
seam a ts us = let e = characters_append ts us in omega (arith, e)

module _ (x : Context) where
  texts_first : (a : ℕ) (ts us : Texts) → TextsStand x a (ts ++ us) → TextsStand x a ts
  texts_first a [] us h = tt
  texts_first a (t ∷ ts) us h = (h.0, texts_first (a + length t) ts us h.1)

  texts_second : (a : ℕ) (ts us : Texts) → TextsStand x a (ts ++ us) → TextsStand x (a + characters ts) us
  texts_second a [] us h = subst (λ (n : ℕ). TextsStand x n us) (omega arith) h
  texts_second a (t ∷ ts) us h = subst (λ (n : ℕ). TextsStand x n us) (omega arith)
      (texts_second (a + length t) ts us h.1)

  needed_first : (ss zs : Signatures) → AreNeeded x (ss ++ zs) → AreNeeded x ss
  needed_first [] zs h = tt
  needed_first (s ∷ ss) zs h = (h.0, needed_first ss zs h.1)

  needed_second : (ss zs : Signatures) → AreNeeded x (ss ++ zs) → AreNeeded x zs
  needed_second [] zs h = h
  needed_second (s ∷ ss) zs h = needed_second ss zs h.1

  pub has_first : (a : ℕ) (u v : Wanted) → Has x a (beside u v) → Has x a u
  has_first a u v h = record {
    texts = texts_first a u.texts v.texts h.texts;
    signatures =
        needed_first u.signatures v.signatures h.signatures;
  }

  pub has_second : (a : ℕ) (u v : Wanted) → Has x a (beside u v) → Has x (a + characters u.texts) v
  has_second a u v h = record {
    texts = texts_second a u.texts v.texts h.texts;
    signatures =
        needed_second u.signatures v.signatures h.signatures;
  }

-- ---- a layer of a tree

module _ (m : TypedModule) where
  argument_texts : (e : Argument) (y : Argument-F Argument Call Component Link TypedExpr Place) → out-Argument e ≡ y
      → texts_passed e ≡ texts.argument_texts
      (map-Argument Argument Call Component Link TypedExpr Place Texts Texts Texts Texts Texts Texts texts_passed
      texts_called texts_behind texts_linked texts_of texts_at y)
  unfolding texts_of texts_at texts_called texts_linked texts_behind texts_passed of_expr of_place of_call of_link
      of_component of_argument
  argument_texts e y h = fold_out-Argument Texts Texts Texts Texts Texts Texts texts.argument_texts texts.call_texts
      texts.component_texts texts.link_texts texts.expr_texts texts.place_texts e
      ∙ ap (λ (y : Argument-F Argument Call Component Link TypedExpr Place). texts.argument_texts
      (map-Argument Argument Call Component Link TypedExpr Place Texts Texts Texts Texts Texts Texts texts_passed
      texts_called texts_behind texts_linked texts_of texts_at y)) h

  argument_signatures : (e : Argument) (y : Argument-F Argument Call Component Link TypedExpr Place)
      → out-Argument e ≡ y → of_argument m e
      ≡ signed.argument_layer m (map-Argument Argument Call Component Link TypedExpr Place Signatures Signatures
      Signatures Signatures Signatures Signatures (of_argument m) (of_call m) (of_component m) (of_link m) (of_expr m)
      (of_place m) y)
  unfolding texts_of texts_at texts_called texts_linked texts_behind texts_passed of_expr of_place of_call of_link
      of_component of_argument
  argument_signatures e y h = fold_out-Argument Signatures Signatures Signatures Signatures Signatures Signatures
      (signed.argument_layer m) (signed.call_layer m) (signed.component_layer m) (signed.link_layer m)
      (signed.expr_layer m) (signed.place_layer m) e
      ∙ ap (λ (y : Argument-F Argument Call Component Link TypedExpr Place). signed.argument_layer m
      (map-Argument Argument Call Component Link TypedExpr Place Signatures Signatures Signatures Signatures Signatures
      Signatures (of_argument m) (of_call m) (of_component m) (of_link m) (of_expr m) (of_place m) y)) h

  argument_wants : (e : Argument) (y : Argument-F Argument Call Component Link TypedExpr Place) → out-Argument e ≡ y
      → wanted_passed m e ≡ made (texts.argument_texts
      (map-Argument Argument Call Component Link TypedExpr Place Texts Texts Texts Texts Texts Texts texts_passed
      texts_called texts_behind texts_linked texts_of texts_at y))
      (signed.argument_layer m (map-Argument Argument Call Component Link TypedExpr Place Signatures Signatures
      Signatures Signatures Signatures Signatures (of_argument m) (of_call m) (of_component m) (of_link m) (of_expr m)
      (of_place m) y))
  argument_wants e y h = made_same (texts_passed e) _ (of_argument m e) _ (argument_texts e y h)
      (argument_signatures e y h)

  call_texts : (e : Call) (y : Call-F Argument Call Component Link TypedExpr Place) → out-Call e ≡ y
      → texts_called e ≡ texts.call_texts (map-Call Argument Call Component Link TypedExpr Place Texts Texts Texts Texts
      Texts Texts texts_passed texts_called texts_behind texts_linked texts_of texts_at y)
  unfolding texts_of texts_at texts_called texts_linked texts_behind texts_passed of_expr of_place of_call of_link
      of_component of_argument
  call_texts e y h = fold_out-Call Texts Texts Texts Texts Texts Texts texts.argument_texts texts.call_texts
      texts.component_texts texts.link_texts texts.expr_texts texts.place_texts e
      ∙ ap (λ (y : Call-F Argument Call Component Link TypedExpr Place). texts.call_texts
      (map-Call Argument Call Component Link TypedExpr Place Texts Texts Texts Texts Texts Texts texts_passed
      texts_called texts_behind texts_linked texts_of texts_at y)) h

  call_signatures : (e : Call) (y : Call-F Argument Call Component Link TypedExpr Place) → out-Call e ≡ y
      → of_call m e ≡ signed.call_layer m (map-Call Argument Call Component Link TypedExpr Place Signatures Signatures
      Signatures Signatures Signatures Signatures (of_argument m) (of_call m) (of_component m) (of_link m) (of_expr m)
      (of_place m) y)
  unfolding texts_of texts_at texts_called texts_linked texts_behind texts_passed of_expr of_place of_call of_link
      of_component of_argument
  call_signatures e y h = fold_out-Call Signatures Signatures Signatures Signatures Signatures Signatures
      (signed.argument_layer m) (signed.call_layer m) (signed.component_layer m) (signed.link_layer m)
      (signed.expr_layer m) (signed.place_layer m) e
      ∙ ap (λ (y : Call-F Argument Call Component Link TypedExpr Place). signed.call_layer m
      (map-Call Argument Call Component Link TypedExpr Place Signatures Signatures Signatures Signatures Signatures
      Signatures (of_argument m) (of_call m) (of_component m) (of_link m) (of_expr m) (of_place m) y)) h

  call_wants : (e : Call) (y : Call-F Argument Call Component Link TypedExpr Place) → out-Call e ≡ y
      → wanted_called m e ≡ made (texts.call_texts
      (map-Call Argument Call Component Link TypedExpr Place Texts Texts Texts Texts Texts Texts texts_passed
      texts_called texts_behind texts_linked texts_of texts_at y))
      (signed.call_layer m (map-Call Argument Call Component Link TypedExpr Place Signatures Signatures Signatures
      Signatures Signatures Signatures (of_argument m) (of_call m) (of_component m) (of_link m) (of_expr m) (of_place m)
      y))
  call_wants e y h = made_same (texts_called e) _ (of_call m e) _ (call_texts e y h) (call_signatures e y h)

  component_texts : (e : Component) (y : Component-F Argument Call Component Link TypedExpr Place) → out-Component e ≡ y
      → texts_behind e ≡ texts.component_texts
      (map-Component Argument Call Component Link TypedExpr Place Texts Texts Texts Texts Texts Texts texts_passed
      texts_called texts_behind texts_linked texts_of texts_at y)
  unfolding texts_of texts_at texts_called texts_linked texts_behind texts_passed of_expr of_place of_call of_link
      of_component of_argument
  component_texts e y h = fold_out-Component Texts Texts Texts Texts Texts Texts texts.argument_texts texts.call_texts
      texts.component_texts texts.link_texts texts.expr_texts texts.place_texts e
      ∙ ap (λ (y : Component-F Argument Call Component Link TypedExpr Place). texts.component_texts
      (map-Component Argument Call Component Link TypedExpr Place Texts Texts Texts Texts Texts Texts texts_passed
      texts_called texts_behind texts_linked texts_of texts_at y)) h

  component_signatures : (e : Component) (y : Component-F Argument Call Component Link TypedExpr Place)
      → out-Component e ≡ y → of_component m e
      ≡ signed.component_layer m (map-Component Argument Call Component Link TypedExpr Place Signatures Signatures
      Signatures Signatures Signatures Signatures (of_argument m) (of_call m) (of_component m) (of_link m) (of_expr m)
      (of_place m) y)
  unfolding texts_of texts_at texts_called texts_linked texts_behind texts_passed of_expr of_place of_call of_link
      of_component of_argument
  component_signatures e y h = fold_out-Component Signatures Signatures Signatures Signatures Signatures Signatures
      (signed.argument_layer m) (signed.call_layer m) (signed.component_layer m) (signed.link_layer m)
      (signed.expr_layer m) (signed.place_layer m) e
      ∙ ap (λ (y : Component-F Argument Call Component Link TypedExpr Place). signed.component_layer m
      (map-Component Argument Call Component Link TypedExpr Place Signatures Signatures Signatures Signatures Signatures
      Signatures (of_argument m) (of_call m) (of_component m) (of_link m) (of_expr m) (of_place m) y)) h

  component_wants : (e : Component) (y : Component-F Argument Call Component Link TypedExpr Place) → out-Component e ≡ y
      → wanted_behind m e ≡ made (texts.component_texts
      (map-Component Argument Call Component Link TypedExpr Place Texts Texts Texts Texts Texts Texts texts_passed
      texts_called texts_behind texts_linked texts_of texts_at y))
      (signed.component_layer m (map-Component Argument Call Component Link TypedExpr Place Signatures Signatures
      Signatures Signatures Signatures Signatures (of_argument m) (of_call m) (of_component m) (of_link m) (of_expr m)
      (of_place m) y))
  component_wants e y h = made_same (texts_behind e) _ (of_component m e) _ (component_texts e y h)
      (component_signatures e y h)

  link_texts : (e : Link) (y : Link-F Argument Call Component Link TypedExpr Place) → out-Link e ≡ y
      → texts_linked e ≡ texts.link_texts (map-Link Argument Call Component Link TypedExpr Place Texts Texts Texts Texts
      Texts Texts texts_passed texts_called texts_behind texts_linked texts_of texts_at y)
  unfolding texts_of texts_at texts_called texts_linked texts_behind texts_passed of_expr of_place of_call of_link
      of_component of_argument
  link_texts e y h = fold_out-Link Texts Texts Texts Texts Texts Texts texts.argument_texts texts.call_texts
      texts.component_texts texts.link_texts texts.expr_texts texts.place_texts e
      ∙ ap (λ (y : Link-F Argument Call Component Link TypedExpr Place). texts.link_texts
      (map-Link Argument Call Component Link TypedExpr Place Texts Texts Texts Texts Texts Texts texts_passed
      texts_called texts_behind texts_linked texts_of texts_at y)) h

  link_signatures : (e : Link) (y : Link-F Argument Call Component Link TypedExpr Place) → out-Link e ≡ y
      → of_link m e ≡ signed.link_layer m (map-Link Argument Call Component Link TypedExpr Place Signatures Signatures
      Signatures Signatures Signatures Signatures (of_argument m) (of_call m) (of_component m) (of_link m) (of_expr m)
      (of_place m) y)
  unfolding texts_of texts_at texts_called texts_linked texts_behind texts_passed of_expr of_place of_call of_link
      of_component of_argument
  link_signatures e y h = fold_out-Link Signatures Signatures Signatures Signatures Signatures Signatures
      (signed.argument_layer m) (signed.call_layer m) (signed.component_layer m) (signed.link_layer m)
      (signed.expr_layer m) (signed.place_layer m) e
      ∙ ap (λ (y : Link-F Argument Call Component Link TypedExpr Place). signed.link_layer m
      (map-Link Argument Call Component Link TypedExpr Place Signatures Signatures Signatures Signatures Signatures
      Signatures (of_argument m) (of_call m) (of_component m) (of_link m) (of_expr m) (of_place m) y)) h

  link_wants : (e : Link) (y : Link-F Argument Call Component Link TypedExpr Place) → out-Link e ≡ y
      → wanted_linked m e ≡ made (texts.link_texts
      (map-Link Argument Call Component Link TypedExpr Place Texts Texts Texts Texts Texts Texts texts_passed
      texts_called texts_behind texts_linked texts_of texts_at y))
      (signed.link_layer m (map-Link Argument Call Component Link TypedExpr Place Signatures Signatures Signatures
      Signatures Signatures Signatures (of_argument m) (of_call m) (of_component m) (of_link m) (of_expr m) (of_place m)
      y))
  link_wants e y h = made_same (texts_linked e) _ (of_link m e) _ (link_texts e y h) (link_signatures e y h)

  expr_texts : (e : TypedExpr) (y : TypedExpr-F Argument Call Component Link TypedExpr Place) → out-TypedExpr e ≡ y
      → texts_of e ≡ texts.expr_texts (map-TypedExpr Argument Call Component Link TypedExpr Place Texts Texts Texts
      Texts Texts Texts texts_passed texts_called texts_behind texts_linked texts_of texts_at y)
  unfolding texts_of texts_at texts_called texts_linked texts_behind texts_passed of_expr of_place of_call of_link
      of_component of_argument
  expr_texts e y h = fold_out-TypedExpr Texts Texts Texts Texts Texts Texts texts.argument_texts texts.call_texts
      texts.component_texts texts.link_texts texts.expr_texts texts.place_texts e
      ∙ ap (λ (y : TypedExpr-F Argument Call Component Link TypedExpr Place). texts.expr_texts
      (map-TypedExpr Argument Call Component Link TypedExpr Place Texts Texts Texts Texts Texts Texts texts_passed
      texts_called texts_behind texts_linked texts_of texts_at y)) h

  expr_signatures : (e : TypedExpr) (y : TypedExpr-F Argument Call Component Link TypedExpr Place) → out-TypedExpr e ≡ y
      → of_expr m e ≡ signed.expr_layer m (map-TypedExpr Argument Call Component Link TypedExpr Place Signatures
      Signatures Signatures Signatures Signatures Signatures (of_argument m) (of_call m) (of_component m) (of_link m)
      (of_expr m) (of_place m) y)
  unfolding texts_of texts_at texts_called texts_linked texts_behind texts_passed of_expr of_place of_call of_link
      of_component of_argument
  expr_signatures e y h = fold_out-TypedExpr Signatures Signatures Signatures Signatures Signatures Signatures
      (signed.argument_layer m) (signed.call_layer m) (signed.component_layer m) (signed.link_layer m)
      (signed.expr_layer m) (signed.place_layer m) e
      ∙ ap (λ (y : TypedExpr-F Argument Call Component Link TypedExpr Place). signed.expr_layer m
      (map-TypedExpr Argument Call Component Link TypedExpr Place Signatures Signatures Signatures Signatures Signatures
      Signatures (of_argument m) (of_call m) (of_component m) (of_link m) (of_expr m) (of_place m) y)) h

  expr_wants : (e : TypedExpr) (y : TypedExpr-F Argument Call Component Link TypedExpr Place) → out-TypedExpr e ≡ y
      → wanted_of m e ≡ made (texts.expr_texts
      (map-TypedExpr Argument Call Component Link TypedExpr Place Texts Texts Texts Texts Texts Texts texts_passed
      texts_called texts_behind texts_linked texts_of texts_at y))
      (signed.expr_layer m (map-TypedExpr Argument Call Component Link TypedExpr Place Signatures Signatures Signatures
      Signatures Signatures Signatures (of_argument m) (of_call m) (of_component m) (of_link m) (of_expr m) (of_place m)
      y))
  expr_wants e y h = made_same (texts_of e) _ (of_expr m e) _ (expr_texts e y h) (expr_signatures e y h)

  place_texts : (e : Place) (y : Place-F Argument Call Component Link TypedExpr Place) → out-Place e ≡ y
      → texts_at e ≡ texts.place_texts (map-Place Argument Call Component Link TypedExpr Place Texts Texts Texts Texts
      Texts Texts texts_passed texts_called texts_behind texts_linked texts_of texts_at y)
  unfolding texts_of texts_at texts_called texts_linked texts_behind texts_passed of_expr of_place of_call of_link
      of_component of_argument
  place_texts e y h = fold_out-Place Texts Texts Texts Texts Texts Texts texts.argument_texts texts.call_texts
      texts.component_texts texts.link_texts texts.expr_texts texts.place_texts e
      ∙ ap (λ (y : Place-F Argument Call Component Link TypedExpr Place). texts.place_texts
      (map-Place Argument Call Component Link TypedExpr Place Texts Texts Texts Texts Texts Texts texts_passed
      texts_called texts_behind texts_linked texts_of texts_at y)) h

  place_signatures : (e : Place) (y : Place-F Argument Call Component Link TypedExpr Place) → out-Place e ≡ y
      → of_place m e ≡ signed.place_layer m (map-Place Argument Call Component Link TypedExpr Place Signatures
      Signatures Signatures Signatures Signatures Signatures (of_argument m) (of_call m) (of_component m) (of_link m)
      (of_expr m) (of_place m) y)
  unfolding texts_of texts_at texts_called texts_linked texts_behind texts_passed of_expr of_place of_call of_link
      of_component of_argument
  place_signatures e y h = fold_out-Place Signatures Signatures Signatures Signatures Signatures Signatures
      (signed.argument_layer m) (signed.call_layer m) (signed.component_layer m) (signed.link_layer m)
      (signed.expr_layer m) (signed.place_layer m) e
      ∙ ap (λ (y : Place-F Argument Call Component Link TypedExpr Place). signed.place_layer m
      (map-Place Argument Call Component Link TypedExpr Place Signatures Signatures Signatures Signatures Signatures
      Signatures (of_argument m) (of_call m) (of_component m) (of_link m) (of_expr m) (of_place m) y)) h

  place_wants : (e : Place) (y : Place-F Argument Call Component Link TypedExpr Place) → out-Place e ≡ y
      → wanted_at m e ≡ made (texts.place_texts
      (map-Place Argument Call Component Link TypedExpr Place Texts Texts Texts Texts Texts Texts texts_passed
      texts_called texts_behind texts_linked texts_of texts_at y))
      (signed.place_layer m (map-Place Argument Call Component Link TypedExpr Place Signatures Signatures Signatures
      Signatures Signatures Signatures (of_argument m) (of_call m) (of_component m) (of_link m) (of_expr m) (of_place m)
      y))
  place_wants e y h = made_same (texts_at e) _ (of_place m e) _ (place_texts e y h) (place_signatures e y h)

  -- ---- rows of parts

  abbrev pub all_linked : List Link → Wanted
  all_linked ls = made (texts.concatenation (map texts_linked ls)) (signed.concatenation (map (of_link m) ls))

  abbrev pub all_behind : List Component → Wanted
  all_behind cs = made (texts.concatenation (map texts_behind cs)) (signed.concatenation (map (of_component m) cs))

  abbrev pub all_passed : List Argument → Wanted
  all_passed gs = made (texts.concatenation (map texts_passed gs)) (signed.concatenation (map (of_argument m) gs))

  texts_last : {A : Type 0} (f : A → Texts) (xs : List A) (y : A)
      → texts.concatenation (map f (xs ++ y ∷ [])) ≡ texts.concatenation (map f xs) ++ f y
  texts_last f [] y = append-nil (f y)
  texts_last f (z ∷ xs) y = ap (λ (us : Texts). f z ++ us) (texts_last f xs y)
      ∙ sym (append_assoc (f z) (texts.concatenation (map f xs)) (f y))

  signed_last : {A : Type 0} (f : A → Signatures) (xs : List A) (y : A)
      → signed.concatenation (map f (xs ++ y ∷ [])) ≡ signed.concatenation (map f xs) ++ f y
  signed_last f [] y = append-nil (f y)
  signed_last f (z ∷ xs) y = ap (λ (us : Signatures). f z ++ us) (signed_last f xs y)
      ∙ sym (append_assoc (f z) (signed.concatenation (map f xs)) (f y))

  pub linked_last : (ls : List Link) (l : Link) → all_linked (ls ++ l ∷ []) ≡ beside (all_linked ls) (wanted_linked m l)
  linked_last ls l = made_same _ _ _ _ (texts_last texts_linked ls l) (signed_last (of_link m) ls l)

  pub behind_last : (cs : List Component) (c : Component)
      → all_behind (cs ++ c ∷ []) ≡ beside (all_behind cs) (wanted_behind m c)
  behind_last cs c = made_same _ _ _ _ (texts_last texts_behind cs c) (signed_last (of_component m) cs c)

  pub passed_last : (gs : List Argument) (g : Argument)
      → all_passed (gs ++ g ∷ []) ≡ beside (all_passed gs) (wanted_passed m g)
  passed_last gs g = made_same _ _ _ _ (texts_last texts_passed gs g) (signed_last (of_argument m) gs g)

  -- ---- expressions

  pub wants_constant : (t : TypeNo) (n : ℤ) → wanted_of m (expr.Constant t n) ≡ nothing
  wants_constant t n = expr_wants (expr.Constant t n) (layer.Constant t n) (expr.outs-Constant t n)

  pub wants_load : (t : TypeNo) (d : Place) → wanted_of m (expr.Load t d) ≡ wanted_at m d
  wants_load t d = expr_wants (expr.Load t d) (layer.Load t d) (expr.outs-Load t d)

  pub wants_procedure : (f : Procedure) → wanted_of m (expr.Procedure f) ≡ nothing
  wants_procedure f = expr_wants (expr.Procedure f) (layer.Procedure f) (expr.outs-Procedure f)

  pub wants_plus : (t : TypeNo) (e : TypedExpr) → wanted_of m (expr.Plus t e) ≡ wanted_of m e
  wants_plus t e = expr_wants (expr.Plus t e) (layer.Plus t e) (expr.outs-Plus t e)

  pub wants_negate : (e : TypedExpr) → wanted_of m (expr.Negate e) ≡ wanted_of m e
  wants_negate e = expr_wants (expr.Negate e) (layer.Negate e) (expr.outs-Negate e)

  pub wants_chain : (e : TypedExpr) (ls : List Link)
      → wanted_of m (expr.Chain e ls) ≡ beside (wanted_of m e) (all_linked ls)
  wants_chain e ls = expr_wants (expr.Chain e ls) (layer.Chain e ls) (expr.outs-Chain e ls)

  pub wants_compare : (o : Comparison) (e f : TypedExpr)
      → wanted_of m (expr.Compare o e f) ≡ beside (wanted_of m e) (wanted_of m f)
  wants_compare o e f = expr_wants (expr.Compare o e f) (layer.Compare o e f) (expr.outs-Compare o e f)

  pub wants_not : (e : TypedExpr) → wanted_of m (expr.Not e) ≡ wanted_of m e
  wants_not e = expr_wants (expr.Not e) (layer.Not e) (expr.outs-Not e)

  pub wants_include : (o : Inclusion) (e f : TypedExpr)
      → wanted_of m (expr.Include o e f) ≡ beside (wanted_of m e) (wanted_of m f)
  wants_include o e f = expr_wants (expr.Include o e f) (layer.Include o e f) (expr.outs-Include o e f)

  pub wants_in : (e f : TypedExpr) → wanted_of m (expr.In e f) ≡ beside (wanted_of m e) (wanted_of m f)
  wants_in e f = expr_wants (expr.In e f) (layer.In e f) (expr.outs-In e f)

  pub wants_abs : (t : TypeNo) (e : TypedExpr) → wanted_of m (expr.Abs t e) ≡ wanted_of m e
  wants_abs t e = expr_wants (expr.Abs t e) (layer.Abs t e) (expr.outs-Abs t e)

  pub wants_cap : (e : TypedExpr) → wanted_of m (expr.Cap e) ≡ wanted_of m e
  wants_cap e = expr_wants (expr.Cap e) (layer.Cap e) (expr.outs-Cap e)

  pub wants_chr : (e : TypedExpr) → wanted_of m (expr.Chr e) ≡ wanted_of m e
  wants_chr e = expr_wants (expr.Chr e) (layer.Chr e) (expr.outs-Chr e)

  pub wants_odd : (e : TypedExpr) → wanted_of m (expr.Odd e) ≡ wanted_of m e
  wants_odd e = expr_wants (expr.Odd e) (layer.Odd e) (expr.outs-Odd e)

  pub wants_ord : (e : TypedExpr) → wanted_of m (expr.Ord e) ≡ wanted_of m e
  wants_ord e = expr_wants (expr.Ord e) (layer.Ord e) (expr.outs-Ord e)

  pub wants_val : (t : TypeNo) (e : TypedExpr) → wanted_of m (expr.Val t e) ≡ wanted_of m e
  wants_val t e = expr_wants (expr.Val t e) (layer.Val t e) (expr.outs-Val t e)

  pub wants_high : (slot : Slot) → wanted_of m (expr.High slot) ≡ nothing
  wants_high slot = expr_wants (expr.High slot) (layer.High slot) (expr.outs-High slot)

  pub wants_call : (t : TypeNo) (c : Call) → wanted_of m (expr.Call t c) ≡ wanted_called m c
  wants_call t c = expr_wants (expr.Call t c) (layer.Call t c) (expr.outs-Call t c)

  around : (u v w : Wanted) → beside u (beside v w) ≡ beside (beside u v) w
  around u v w = made_same _ _ _ _ (sym (append_assoc u.texts v.texts w.texts))
      (sym (append_assoc u.signatures v.signatures w.signatures))

  one_linked : (e : TypedExpr) (l : Link)
      → wanted_of m (expr.Chain e (l ∷ [])) ≡ beside (wanted_of m e) (wanted_linked m l)
  one_linked e l = wants_chain e (l ∷ [])
      ∙ ap (λ (w : Wanted). beside (wanted_of m e) w)
      (made_same _ _ _ _ (append-nil (texts_linked l)) (append-nil (of_link m l)))

  -- a chain is asked for what stands before the operator, and then what the operator asks for
  linked_by : (e : TypedExpr) (y : TypedExpr-F Argument Call Component Link TypedExpr Place) (l : Link)
      → out-TypedExpr e ≡ y → wanted_of m (linked_to y e l) ≡ beside (wanted_of m e) (wanted_linked m l)
  linked_by e (layer.Constant t n) l h = one_linked e l
  linked_by e (layer.Load t d) l h = one_linked e l
  linked_by e (layer.Procedure f) l h = one_linked e l
  linked_by e (layer.Plus t z) l h = one_linked e l
  linked_by e (layer.Negate z) l h = one_linked e l
  linked_by e (layer.Chain z ls) l h = wants_chain z (ls ++ l ∷ [])
      ∙ ap (λ (w : Wanted). beside (wanted_of m z) w) (linked_last ls l)
      ∙ around (wanted_of m z) (all_linked ls) (wanted_linked m l)
      ∙ ap (λ (w : Wanted). beside w (wanted_linked m l)) (sym (expr_wants e (layer.Chain z ls) h))
  linked_by e (layer.Compare o z q) l h = one_linked e l
  linked_by e (layer.Not z) l h = one_linked e l
  linked_by e (layer.Include o z q) l h = one_linked e l
  linked_by e (layer.In z q) l h = one_linked e l
  linked_by e (layer.Abs t z) l h = one_linked e l
  linked_by e (layer.Cap z) l h = one_linked e l
  linked_by e (layer.Chr z) l h = one_linked e l
  linked_by e (layer.Odd z) l h = one_linked e l
  linked_by e (layer.Ord z) l h = one_linked e l
  linked_by e (layer.Val t z) l h = one_linked e l
  linked_by e (layer.High slot) l h = one_linked e l
  linked_by e (layer.Call t c) l h = one_linked e l

  pub wants_linked : (e : TypedExpr) (l : Link)
      → wanted_of m (link_operand e l) ≡ beside (wanted_of m e) (wanted_linked m l)
  wants_linked e l = linked_by e (out-TypedExpr e) l refl

  -- ---- operators

  pub wants_arithmetic : (o : Arithmetic) (t : TypeNo) (e : TypedExpr)
      → wanted_linked m (link.Arithmetic o t e) ≡ wanted_of m e
  wants_arithmetic o t e = link_wants (link.Arithmetic o t e) (layer.Arithmetic o t e) (link.outs-Arithmetic o t e)

  pub wants_and : (e : TypedExpr) → wanted_linked m (link.And e) ≡ wanted_of m e
  wants_and e = link_wants (link.And e) (layer.And e) (link.outs-And e)

  pub wants_or : (e : TypedExpr) → wanted_linked m (link.Or e) ≡ wanted_of m e
  wants_or e = link_wants (link.Or e) (layer.Or e) (link.outs-Or e)

  pub wants_combine : (o : SetOperator) (e : TypedExpr) → wanted_linked m (link.Combine o e) ≡ wanted_of m e
  wants_combine o e = link_wants (link.Combine o e) (layer.Combine o e) (link.outs-Combine o e)

  -- ---- designators

  pub wants_place : (d : Place) → wanted_at m d ≡ all_behind d.components
  wants_place d = place_wants d (out-Place d) refl

  pub wants_rooted : (r : Root) → wanted_at m (root_place r) ≡ nothing
  wants_rooted r = wants_place (root_place r)

  pub wants_behind : (d : Place) (c : Component) → wanted_at m (behind d c) ≡ beside (wanted_at m d) (wanted_behind m c)
  wants_behind d c = wants_place (behind d c) ∙ behind_last d.components c
      ∙ ap (λ (w : Wanted). beside w (wanted_behind m c)) (sym (wants_place d))

  pub wants_field : (t : TypeNo) (k : ℕ) → wanted_behind m (part.Field t k) ≡ nothing
  wants_field t k = component_wants (part.Field t k) (layer.Field t k) (part.outs-Field t k)

  pub wants_element : (t : TypeNo) (e : TypedExpr) → wanted_behind m (part.Element t e) ≡ wanted_of m e
  wants_element t e = component_wants (part.Element t e) (layer.Element t e) (part.outs-Element t e)

  pub wants_open_element : (slot : Slot) (t : TypeNo) (e : TypedExpr)
      → wanted_behind m (part.OpenElement slot t e) ≡ wanted_of m e
  wants_open_element slot t e = component_wants (part.OpenElement slot t e) (layer.OpenElement slot t e)
      (part.outs-OpenElement slot t e)

  -- ---- calls and arguments

  -- a call of another module's procedure goes through the table
  abbrev pub through_table : Procedure → Wanted
  through_table f = made [] (if is_own m f.home then [] else of_heading m.types f.heading ∷ [])

  pub wants_module : (f : Procedure) (gs : List Argument)
      → wanted_called m (call.Module f gs) ≡ beside (all_passed gs) (through_table f)
  wants_module f gs = call_wants (call.Module f gs) (layer.Module f gs) (call.outs-Module f gs)
      ∙ made_same _ _ _ _ (sym (append-nil (texts.concatenation (map texts_passed gs)))) refl

  pub wants_nested : (f : LocalProcedure) (gs : List Argument) → wanted_called m (call.Nested f gs) ≡ all_passed gs
  wants_nested f gs = call_wants (call.Nested f gs) (layer.Nested f gs) (call.outs-Nested f gs)

  -- and so does one of a procedure variable
  abbrev pub by_heading : TypeNo → Wanted
  by_heading t = made [] (of_heading m.types t ∷ [])

  pub wants_variable : (t : TypeNo) (d : Place) (gs : List Argument)
      → wanted_called m (call.Variable t d gs) ≡ beside (wanted_at m d) (beside (all_passed gs) (by_heading t))
  wants_variable t d gs =
      call_wants (call.Variable t d gs) (layer.Variable t d gs) (call.outs-Variable t d gs)
      ∙ made_same _ _ _ _ (ap (λ (us : Texts). texts_at d ++ us)
      (sym (append-nil (texts.concatenation (map texts_passed gs))))) refl

  pub wants_value : (t : TypeNo) (e : TypedExpr) → wanted_passed m (argument.Value t e) ≡ wanted_of m e
  wants_value t e = argument_wants (argument.Value t e) (layer.Value t e) (argument.outs-Value t e)

  pub wants_actual : (d : Place) → wanted_passed m (argument.Place d) ≡ wanted_at m d
  wants_actual d = argument_wants (argument.Place d) (layer.Place d) (argument.outs-Place d)

  pub wants_array : (t : TypeNo) (d : Place) → wanted_passed m (argument.Array t d) ≡ wanted_at m d
  wants_array t d = argument_wants (argument.Array t d) (layer.Array t d) (argument.outs-Array t d)

  pub wants_open : (slot : Slot) → wanted_passed m (argument.Open slot) ≡ nothing
  wants_open slot = argument_wants (argument.Open slot) (layer.Open slot) (argument.outs-Open slot)

  pub wants_text : (text : List ℕ) → wanted_passed m (argument.Text text) ≡ made (argument_text text ∷ []) []
  wants_text text = argument_wants (argument.Text text) (layer.Text text) (argument.outs-Text text)
