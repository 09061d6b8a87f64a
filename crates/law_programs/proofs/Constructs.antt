-- Constructs whose parts are typed are typed, wherever what they ask for is there.
use Rattle.std.proofs.Common.{◌≡◌, ℕ, ◌+◌, ℤ, pos, Bool, true, false, List, [], ◌∷◌, ◌++◌, length, Some, None, refl, sym, ap, subst, ◌∙◌, arith}
use Rattle.std.specs.Prelude.{◌≤◌, ◌^◌, ◌≤ℤ◌, ◌-ℤ◌, if◌then◌else◌}
use Rattle.std.specs.List.{list_all}
use Rattle.typed_tree.specs.declared.computed.Argument.{Argument}
use Rattle.typed_tree.specs.declared.computed.Argument.TheOpen as layer
use Rattle.typed_tree.specs.declared.computed.Argument.TheVariants as argument
use Rattle.typed_tree.specs.declared.computed.Arithmetic.TheVariants as op
use Rattle.typed_tree.specs.declared.computed.Call.{Call}
use Rattle.typed_tree.specs.declared.computed.Call.TheVariants as call
use Rattle.typed_tree.specs.declared.computed.Comparison.{Comparison}
use Rattle.typed_tree.specs.declared.computed.Component.{Component}
use Rattle.typed_tree.specs.declared.computed.Component.TheVariants as part
use Rattle.typed_tree.specs.declared.computed.Inclusion.{Inclusion}
use Rattle.typed_tree.specs.declared.computed.Link.{Link}
use Rattle.typed_tree.specs.declared.computed.Link.TheVariants as link
use Rattle.typed_tree.specs.declared.computed.LocalProcedure.{LocalProcedure}
use Rattle.typed_tree.specs.declared.computed.Place.{Place}
use Rattle.typed_tree.specs.declared.computed.Root.{Root}
use Rattle.typed_tree.specs.declared.computed.Root.TheVariants as root
use Rattle.typed_tree.specs.declared.computed.SetOperator.{SetOperator}
use Rattle.typed_tree.specs.declared.computed.Slot.{Slot}
use Rattle.typed_tree.specs.declared.computed.TypedExpr.{TypedExpr, TypedExpr-F, out-TypedExpr}
use Rattle.typed_tree.specs.declared.computed.TypedExpr.TheVariants as expr
use Rattle.typed_tree.specs.declared.known_types.Types.{Types}
use Rattle.typed_tree.specs.declared.meaning.Procedure.{Procedure}
use Rattle.typed_tree.specs.declared.shape.Scalar.{Scalar as Range}
use Rattle.typed_tree.specs.declared.typed_module.TypedModule.{TypedModule}
use Rattle.typed_tree.specs.declared.types.TypeNo.{TypeNo}
use Rattle.typed_tree.specs.Chains.{linked_to, link_operand, root_place, behind}
use Rattle.typed_tree.specs.Known.{scalar_at}
use Rattle.typed_tree.specs.Types.{are_same, integer, cardinal, boolean, char, bitset}
use Rattle.layout_storage.specs.Shapes.{tree, elements_of}
use Rattle.layout_storage.specs.Texts.{argument_text, characters, texts_of, texts_at, texts_linked, texts_behind, texts_passed}
use Rattle.layout_storage.specs.Types.{Ty, Scalar, Natural, Callable, Cell, Array, Heading, component}
use Rattle.law_memory.specs.Relation.{heading_at}
use Rattle.def_scheme.specs.Cells.{base_of}
use Rattle.def_scheme.specs.Exprs.{Part, is_own, index_of, expr_layer, expr_part}
use Rattle.def_scheme.specs.Modules.{numbering_of}
use Rattle.def_scheme.specs.Signatures.{of_heading}
use Rattle.law_simulation.specs.Scene.{IsValue, AreAmong, AreNatural, IsCell}
use Rattle.law_simulation.specs.Frames.{Open, kind_at}
use Rattle.law_simulation.specs.Passing.{Form, ByNumber, ByCopy, ByName, ByArray, Forms, Result, forms_of, result_of}
use Rattle.law_simulation.specs.TreesTyped.{Context, IsNamed, IsCallable, IsInner, HasText, IsTaken, IsRoot, IsExpr, IsProcedureExpr, AreLinks, IsLink, IsPlace, AreComponents, IsComponent, IsCall, AreArguments, IsArgument}
use Rattle.law_simulation.specs.TreesTyped as typed
use Rattle.law_simulation.proofs.Opened.{expr_opened, expr_at}
use Rattle.law_programs.specs.Wanted.{Wanted, wanted_of, wanted_at, wanted_called, wanted_linked, wanted_behind, wanted_passed, AreNeeded, Has}
use Rattle.law_programs.specs.Typing.{ExprTyped, ProcedureTyped, PlaceTyped, CallTyped, ArgumentTyped}
use Rattle.law_well_formed.specs.FormedRanges.{fits_character}
use Rattle.law_programs.proofs.TextBytes.{has_text, passed_bytes}
use Rattle.law_programs.proofs.Wants.{nothing, beside, made, seam, has_first, has_second, all_passed, passed_last, wants_constant, wants_load, wants_procedure, wants_plus, wants_negate, wants_compare, wants_not, wants_include, wants_in, wants_abs, wants_cap, wants_chr, wants_odd, wants_ord, wants_val, wants_high, wants_call, wants_linked, wants_arithmetic, wants_and, wants_or, wants_combine, wants_rooted, wants_behind, wants_field, wants_element, wants_open_element, through_table, wants_module, wants_nested, by_heading, wants_variable, wants_value, wants_actual, wants_array, wants_open, wants_text}

-- ---- what is no constant

module _ (m : TypedModule) where
  abbrev pub IsRun : TypedExpr → Type 0
  IsRun e = (expr_part (numbering_of m) e).constant ≡ false

  run_by : (e : TypedExpr) (y : TypedExpr-F Argument Call Component Link TypedExpr Place) → out-TypedExpr e ≡ y
      → (expr_layer (expr_opened (numbering_of m) y)).constant ≡ false → IsRun e
  run_by e y h k = ap (λ (p : Part). p.constant) (expr_at (numbering_of m) e y h) ∙ k

  -- the type that the code takes it for
  abbrev pub IsTypeOf : TypedExpr → TypeNo → Type 0
  IsTypeOf e t = (expr_part (numbering_of m) e).of ≡ t

  pub type_of_load : (t : TypeNo) (d : Place) → IsTypeOf (expr.Load t d) t
  type_of_load t d = ap (λ (p : Part). p.of)
      (expr_at (numbering_of m) (expr.Load t d) (layer.Load t d) (expr.outs-Load t d))

  pub type_of_procedure : (f : Procedure) → IsTypeOf (expr.Procedure f) f.heading
  type_of_procedure f = ap (λ (p : Part). p.of)
      (expr_at (numbering_of m) (expr.Procedure f) (layer.Procedure f) (expr.outs-Procedure f))

  pub type_of_call : (t : TypeNo) (c : Call) → IsTypeOf (expr.Call t c) t
  type_of_call t c = ap (λ (p : Part). p.of)
      (expr_at (numbering_of m) (expr.Call t c) (layer.Call t c) (expr.outs-Call t c))

  pub run_load : (t : TypeNo) (d : Place) → IsRun (expr.Load t d)
  run_load t d = run_by (expr.Load t d) (layer.Load t d) (expr.outs-Load t d) refl

  pub run_plus : (t : TypeNo) (e : TypedExpr) → IsRun (expr.Plus t e)
  run_plus t e = run_by (expr.Plus t e) (layer.Plus t e) (expr.outs-Plus t e) refl

  pub run_negate : (e : TypedExpr) → IsRun (expr.Negate e)
  run_negate e = run_by (expr.Negate e) (layer.Negate e) (expr.outs-Negate e) refl

  pub run_chain : (e : TypedExpr) (ls : List Link) → IsRun (expr.Chain e ls)
  run_chain e ls = run_by (expr.Chain e ls) (layer.Chain e ls) (expr.outs-Chain e ls) refl

  pub run_compare : (o : Comparison) (e f : TypedExpr) → IsRun (expr.Compare o e f)
  run_compare o e f = run_by (expr.Compare o e f) (layer.Compare o e f) (expr.outs-Compare o e f) refl

  pub run_not : (e : TypedExpr) → IsRun (expr.Not e)
  run_not e = run_by (expr.Not e) (layer.Not e) (expr.outs-Not e) refl

  pub run_include : (o : Inclusion) (e f : TypedExpr) → IsRun (expr.Include o e f)
  run_include o e f = run_by (expr.Include o e f) (layer.Include o e f) (expr.outs-Include o e f) refl

  pub run_in : (e f : TypedExpr) → IsRun (expr.In e f)
  run_in e f = run_by (expr.In e f) (layer.In e f) (expr.outs-In e f) refl

  pub run_abs : (t : TypeNo) (e : TypedExpr) → IsRun (expr.Abs t e)
  run_abs t e = run_by (expr.Abs t e) (layer.Abs t e) (expr.outs-Abs t e) refl

  pub run_cap : (e : TypedExpr) → IsRun (expr.Cap e)
  run_cap e = run_by (expr.Cap e) (layer.Cap e) (expr.outs-Cap e) refl

  pub run_chr : (e : TypedExpr) → IsRun (expr.Chr e)
  run_chr e = run_by (expr.Chr e) (layer.Chr e) (expr.outs-Chr e) refl

  pub run_odd : (e : TypedExpr) → IsRun (expr.Odd e)
  run_odd e = run_by (expr.Odd e) (layer.Odd e) (expr.outs-Odd e) refl

  pub run_ord : (e : TypedExpr) → IsRun (expr.Ord e)
  run_ord e = run_by (expr.Ord e) (layer.Ord e) (expr.outs-Ord e) refl

  pub run_val : (t : TypeNo) (e : TypedExpr) → IsRun (expr.Val t e)
  run_val t e = run_by (expr.Val t e) (layer.Val t e) (expr.outs-Val t e) refl

  pub run_high : (slot : Slot) → IsRun (expr.High slot)
  run_high slot = run_by (expr.High slot) (layer.High slot) (expr.outs-High slot) refl

  pub run_call : (t : TypeNo) (c : Call) → IsRun (expr.Call t c)
  run_call t c = run_by (expr.Call t c) (layer.Call t c) (expr.outs-Call t c) refl

  linked_run_by : (y : TypedExpr-F Argument Call Component Link TypedExpr Place) (e : TypedExpr) (l : Link)
      → IsRun (linked_to y e l)
  linked_run_by (layer.Constant t n) e l = run_chain e (l ∷ [])
  linked_run_by (layer.Load t d) e l = run_chain e (l ∷ [])
  linked_run_by (layer.Procedure f) e l = run_chain e (l ∷ [])
  linked_run_by (layer.Plus t z) e l = run_chain e (l ∷ [])
  linked_run_by (layer.Negate z) e l = run_chain e (l ∷ [])
  linked_run_by (layer.Chain z ls) e l = run_chain z (ls ++ l ∷ [])
  linked_run_by (layer.Compare o z q) e l = run_chain e (l ∷ [])
  linked_run_by (layer.Not z) e l = run_chain e (l ∷ [])
  linked_run_by (layer.Include o z q) e l = run_chain e (l ∷ [])
  linked_run_by (layer.In z q) e l = run_chain e (l ∷ [])
  linked_run_by (layer.Abs t z) e l = run_chain e (l ∷ [])
  linked_run_by (layer.Cap z) e l = run_chain e (l ∷ [])
  linked_run_by (layer.Chr z) e l = run_chain e (l ∷ [])
  linked_run_by (layer.Odd z) e l = run_chain e (l ∷ [])
  linked_run_by (layer.Ord z) e l = run_chain e (l ∷ [])
  linked_run_by (layer.Val t z) e l = run_chain e (l ∷ [])
  linked_run_by (layer.High slot) e l = run_chain e (l ∷ [])
  linked_run_by (layer.Call t c) e l = run_chain e (l ∷ [])

  pub run_linked : (e : TypedExpr) (l : Link) → IsRun (link_operand e l)
  run_linked e l = linked_run_by (out-TypedExpr e) e l

-- ---- chains and components

module _ (x : Context) (ws : List Ty) where
  abbrev m : TypedModule
  m = x.home

  abbrev types : Types
  types = x.home.types

  by_wanted : (P : ℕ → ℕ → Type 0) (w v : Wanted) → w ≡ v → ((a : ℕ) → Has x a v → P a (a + characters v.texts))
      → (a : ℕ) → Has x a w → P a (a + characters w.texts)
  by_wanted P w v q f a k = subst (λ (u : Wanted). P a (a + characters u.texts)) (sym q)
      (f a (subst (λ (u : Wanted). Has x a u) q k))

  same_end : (a : ℕ) → a ≡ a + 0
  same_end a = omega arith

  one_link : (b z : ℕ) (t v : TypeNo) (l : Link) → IsLink x ws b z t l v → AreLinks x ws b z t (l ∷ []) v
  one_link b z t v l k = typed.more_links b z z t v v l [] k (typed.no_links z v)

  links_more : (a b z : ℕ) (t u w : TypeNo) (ls : List Link) (l : Link) → AreLinks x ws a b t ls u
      → IsLink x ws b z u l w → AreLinks x ws a z t (ls ++ l ∷ []) w
  links_more _ _ z _ _ w _ l (typed.no_links a t) k = one_link a z t w l k
  links_more _ _ z _ _ w _ y (typed.more_links a b c t u v l ls h hs) k =
      typed.more_links a b z t u w l (ls ++ y ∷ []) h (links_more b c z u v w ls y hs k)

  -- a value of a procedure type is no chain
  procedure_linked : (a b z : ℕ) (t w : TypeNo) (h : Heading) (e : TypedExpr) (l : Link) → IsProcedureExpr x ws a b e h
      → IsTypeOf m e t → scalar_at types t ≡ None → IsLink x ws b z t l w → IsExpr x ws a z (link_operand e l) w
  procedure_linked _ _ z t w _ _ l (typed.LoadedProcedure a b u h d tr p) o n k =
      subst (λ (y : TypedExpr-F Argument Call Component Link TypedExpr Place). IsExpr x ws a z
      (linked_to y (expr.Load u d) l) w) (sym (expr.outs-Load u d))
      (typed.Chain a b z t w (expr.Load u d) (l ∷ [])
      (typed.ProcedureValue a b t h (expr.Load u d) (typed.LoadedProcedure a b u h d tr p) o n) (one_link b z t w l k))
  procedure_linked _ _ z t w _ _ l (typed.NamedProcedure a f h known is) o n k =
      subst (λ (y : TypedExpr-F Argument Call Component Link TypedExpr Place). IsExpr x ws a z
      (linked_to y (expr.Procedure f) l) w) (sym (expr.outs-Procedure f))
      (typed.Chain a a z t w (expr.Procedure f) (l ∷ [])
      (typed.ProcedureValue a a t h (expr.Procedure f) (typed.NamedProcedure a f h known is) o n)
      (one_link a z t w l k))
  procedure_linked _ _ z t w _ _ l (typed.GivenProcedure a b u h c p) o n k =
      subst (λ (y : TypedExpr-F Argument Call Component Link TypedExpr Place). IsExpr x ws a z
      (linked_to y (expr.Call u c) l) w) (sym (expr.outs-Call u c))
      (typed.Chain a b z t w (expr.Call u c) (l ∷ [])
      (typed.ProcedureValue a b t h (expr.Call u c) (typed.GivenProcedure a b u h c p) o n) (one_link b z t w l k))

  linked_is : (a b z : ℕ) (t w : TypeNo) (e : TypedExpr) (l : Link) → IsExpr x ws a b e t → IsLink x ws b z t l w
      → IsExpr x ws a z (link_operand e l) w
  linked_is _ _ z _ w _ l (typed.Constant a t n is) k =
      subst (λ (y : TypedExpr-F Argument Call Component Link TypedExpr Place). IsExpr x ws a z
      (linked_to y (expr.Constant t n) l) w) (sym (expr.outs-Constant t n))
      (typed.Chain a a z t w (expr.Constant t n) (l ∷ []) (typed.Constant a t n is) (one_link a z t w l k))
  linked_is _ _ z _ w _ l (typed.Load a b t c d cell h) k =
      subst (λ (y : TypedExpr-F Argument Call Component Link TypedExpr Place). IsExpr x ws a z
      (linked_to y (expr.Load t d) l) w) (sym (expr.outs-Load t d))
      (typed.Chain a b z t w (expr.Load t d) (l ∷ []) (typed.Load a b t c d cell h) (one_link b z t w l k))
  linked_is _ _ z _ w _ l (typed.ProcedureValue a b t h e p of none) k = procedure_linked a b z t w h e l p of none k
  linked_is _ _ z _ w _ l (typed.Plus a b t u e h g) k =
      subst (λ (y : TypedExpr-F Argument Call Component Link TypedExpr Place). IsExpr x ws a z
      (linked_to y (expr.Plus t e) l) w) (sym (expr.outs-Plus t e))
      (typed.Chain a b z t w (expr.Plus t e) (l ∷ []) (typed.Plus a b t u e h g) (one_link b z t w l k))
  linked_is _ _ z _ w _ l (typed.Negate a b u e h) k =
      subst (λ (y : TypedExpr-F Argument Call Component Link TypedExpr Place). IsExpr x ws a z
      (linked_to y (expr.Negate e) l) w) (sym (expr.outs-Negate e))
      (typed.Chain a b z integer w (expr.Negate e) (l ∷ []) (typed.Negate a b u e h) (one_link b z integer w l k))
  linked_is _ _ z _ w _ l (typed.Chain a b c u t e ls h hs) k =
      subst (λ (y : TypedExpr-F Argument Call Component Link TypedExpr Place). IsExpr x ws a z
      (linked_to y (expr.Chain e ls) l) w) (sym (expr.outs-Chain e ls))
      (typed.Chain a b z u w e (ls ++ l ∷ []) h (links_more b c z u t w ls l hs k))
  linked_is _ _ z _ w _ l (typed.Compare a b c u v o e f h g) k =
      subst (λ (y : TypedExpr-F Argument Call Component Link TypedExpr Place). IsExpr x ws a z
      (linked_to y (expr.Compare o e f) l) w) (sym (expr.outs-Compare o e f))
      (typed.Chain a c z boolean w (expr.Compare o e f) (l ∷ []) (typed.Compare a b c u v o e f h g)
      (one_link c z boolean w l k))
  linked_is _ _ z _ w _ l (typed.Not a b u e h g) k =
      subst (λ (y : TypedExpr-F Argument Call Component Link TypedExpr Place). IsExpr x ws a z
      (linked_to y (expr.Not e) l) w) (sym (expr.outs-Not e))
      (typed.Chain a b z boolean w (expr.Not e) (l ∷ []) (typed.Not a b u e h g) (one_link b z boolean w l k))
  linked_is _ _ z _ w _ l (typed.Include a b c u v o e f h i g j) k =
      subst (λ (y : TypedExpr-F Argument Call Component Link TypedExpr Place). IsExpr x ws a z
      (linked_to y (expr.Include o e f) l) w) (sym (expr.outs-Include o e f))
      (typed.Chain a c z boolean w (expr.Include o e f) (l ∷ []) (typed.Include a b c u v o e f h i g j)
      (one_link c z boolean w l k))
  linked_is _ _ z _ w _ l (typed.In a b c u v e f h g j) k =
      subst (λ (y : TypedExpr-F Argument Call Component Link TypedExpr Place). IsExpr x ws a z
      (linked_to y (expr.In e f) l) w) (sym (expr.outs-In e f))
      (typed.Chain a c z boolean w (expr.In e f) (l ∷ []) (typed.In a b c u v e f h g j) (one_link c z boolean w l k))
  linked_is _ _ z _ w _ l (typed.Abs a b t u e h i j ranged) k =
      subst (λ (y : TypedExpr-F Argument Call Component Link TypedExpr Place). IsExpr x ws a z
      (linked_to y (expr.Abs t e) l) w) (sym (expr.outs-Abs t e))
      (typed.Chain a b z t w (expr.Abs t e) (l ∷ []) (typed.Abs a b t u e h i j ranged) (one_link b z t w l k))
  linked_is _ _ z _ w _ l (typed.Cap a b u e h i) k =
      subst (λ (y : TypedExpr-F Argument Call Component Link TypedExpr Place). IsExpr x ws a z
      (linked_to y (expr.Cap e) l) w) (sym (expr.outs-Cap e))
      (typed.Chain a b z char w (expr.Cap e) (l ∷ []) (typed.Cap a b u e h i) (one_link b z char w l k))
  linked_is _ _ z _ w _ l (typed.Chr a b u e h) k =
      subst (λ (y : TypedExpr-F Argument Call Component Link TypedExpr Place). IsExpr x ws a z
      (linked_to y (expr.Chr e) l) w) (sym (expr.outs-Chr e))
      (typed.Chain a b z char w (expr.Chr e) (l ∷ []) (typed.Chr a b u e h) (one_link b z char w l k))
  linked_is _ _ z _ w _ l (typed.Odd a b u e h) k =
      subst (λ (y : TypedExpr-F Argument Call Component Link TypedExpr Place). IsExpr x ws a z
      (linked_to y (expr.Odd e) l) w) (sym (expr.outs-Odd e))
      (typed.Chain a b z boolean w (expr.Odd e) (l ∷ []) (typed.Odd a b u e h) (one_link b z boolean w l k))
  linked_is _ _ z _ w _ l (typed.Ord a b u e h i j) k =
      subst (λ (y : TypedExpr-F Argument Call Component Link TypedExpr Place). IsExpr x ws a z
      (linked_to y (expr.Ord e) l) w) (sym (expr.outs-Ord e))
      (typed.Chain a b z cardinal w (expr.Ord e) (l ∷ []) (typed.Ord a b u e h i j) (one_link b z cardinal w l k))
  linked_is _ _ z _ w _ l (typed.Val a b t u e h i) k =
      subst (λ (y : TypedExpr-F Argument Call Component Link TypedExpr Place). IsExpr x ws a z
      (linked_to y (expr.Val t e) l) w) (sym (expr.outs-Val t e))
      (typed.Chain a b z t w (expr.Val t e) (l ∷ []) (typed.Val a b t u e h i) (one_link b z t w l k))
  linked_is _ _ z _ w _ l (typed.High a slot t there) k =
      subst (λ (y : TypedExpr-F Argument Call Component Link TypedExpr Place). IsExpr x ws a z
      (linked_to y (expr.High slot) l) w) (sym (expr.outs-High slot))
      (typed.Chain a a z cardinal w (expr.High slot) (l ∷ []) (typed.High a slot t there) (one_link a z cardinal w l k))
  linked_is _ _ z _ w _ l (typed.FunctionCall a b t r c h i) k =
      subst (λ (y : TypedExpr-F Argument Call Component Link TypedExpr Place). IsExpr x ws a z
      (linked_to y (expr.Call t c) l) w) (sym (expr.outs-Call t c))
      (typed.Chain a b z t w (expr.Call t c) (l ∷ []) (typed.FunctionCall a b t r c h i) (one_link b z t w l k))

  components_more : (a b z : ℕ) (t u w : Ty) (ks : List Component) (k : Component) → AreComponents x ws a b t ks u
      → IsComponent x ws b z u k w → AreComponents x ws a z t (ks ++ k ∷ []) w
  components_more _ _ z _ _ w _ k (typed.no_components a t) g =
      typed.more_components a z z t w w k [] g (typed.no_components z w)
  components_more _ _ z _ _ w _ y (typed.more_components a b c t u v k ks h hs) g =
      typed.more_components a b z t u w k (ks ++ y ∷ []) h (components_more b c z u v w ks y hs g)

  behind_is : (a b z : ℕ) (u w : Ty) (d : Place) (k : Component) → IsPlace x ws a b d u → IsComponent x ws b z u k w
      → IsPlace x ws a z (behind d k) w
  behind_is _ _ z _ w _ k (typed.Designator a b d t u r hs) g =
      typed.Designator a z (behind d k) t w r (components_more a b z t u w d.components k hs g)
  behind_is _ _ z _ w _ k (typed.OfOpen a b c d slot t u v q i cs r there ks h hs) g =
      typed.OfOpen a b z (behind d k) slot t u w q i (cs ++ k ∷ []) r there
      (ap (λ (ys : List Component). ys ++ k ∷ []) ks) h (components_more b c z (tree types t) v w cs k hs g)

  arguments_are_more : (a b z : ℕ) (gs : List Argument) (g : Argument) (fs : Forms) (f : Form)
      → AreArguments x ws a b gs fs → IsArgument x ws b z g f → AreArguments x ws a z (gs ++ g ∷ []) (fs ++ f ∷ [])
  arguments_are_more _ _ z _ g _ f (typed.no_arguments a) k =
      typed.more_arguments a z z g [] f [] k (typed.no_arguments z)
  arguments_are_more _ _ z _ g _ f (typed.more_arguments a b c y ys e es h hs) k =
      typed.more_arguments a b z y (ys ++ g ∷ []) e (es ++ f ∷ []) h (arguments_are_more b c z ys g es f hs k)

  -- ---- operators with their second operands

  abbrev pub LinkTyped : TypeNo → Link → TypeNo → Type 0
  LinkTyped t l u = (a : ℕ) → Has x a (wanted_linked m l) → IsLink x ws a (a + characters (texts_linked l)) t l u

  link_by : (l : Link) (w : Wanted) (t u : TypeNo) → wanted_linked m l ≡ w
      → ((a : ℕ) → Has x a w → IsLink x ws a (a + characters w.texts) t l u) → LinkTyped t l u
  link_by l w t u q f = by_wanted (λ a b. IsLink x ws a b t l u) (wanted_linked m l) w q f

  pub sum_typed : (t u w : TypeNo) (e : TypedExpr) → ExprTyped x ws e u → (scalar_at types w ≡ None → ⊥)
      → LinkTyped t (link.Arithmetic op.Add w e) w
  sum_typed t u w e p h = link_by (link.Arithmetic op.Add w e) (wanted_of m e) t w (wants_arithmetic m op.Add w e)
      (λ a k. typed.Sum a _ t u w e (p a k) h)

  pub difference_typed : (t u w : TypeNo) (e : TypedExpr) → ExprTyped x ws e u → (scalar_at types w ≡ None → ⊥)
      → LinkTyped t (link.Arithmetic op.Subtract w e) w
  difference_typed t u w e p h = link_by (link.Arithmetic op.Subtract w e) (wanted_of m e) t w
      (wants_arithmetic m op.Subtract w e) (λ a k. typed.Difference a _ t u w e (p a k) h)

  pub product_typed : (t u w : TypeNo) (e : TypedExpr) → ExprTyped x ws e u → (scalar_at types w ≡ None → ⊥)
      → LinkTyped t (link.Arithmetic op.Multiply w e) w
  product_typed t u w e p h = link_by (link.Arithmetic op.Multiply w e) (wanted_of m e) t w
      (wants_arithmetic m op.Multiply w e) (λ a k. typed.Product a _ t u w e (p a k) h)

  pub quotient_typed : (t u w : TypeNo) (e : TypedExpr) → ExprTyped x ws e u → AreAmong types t w
      → IsValue types w (pos 0) → LinkTyped t (link.Arithmetic op.Divide w e) w
  quotient_typed t u w e p h g = link_by (link.Arithmetic op.Divide w e) (wanted_of m e) t w
      (wants_arithmetic m op.Divide w e) (λ a k. typed.Quotient a _ t u w e (p a k) h g)

  pub remainder_typed : (t u w : TypeNo) (e : TypedExpr) → ExprTyped x ws e u → AreAmong types u w
      → IsValue types w (pos 0) → LinkTyped t (link.Arithmetic op.Remainder w e) w
  remainder_typed t u w e p h g = link_by (link.Arithmetic op.Remainder w e) (wanted_of m e) t w
      (wants_arithmetic m op.Remainder w e) (λ a k. typed.Remainder a _ t u w e (p a k) h g)

  pub and_typed : (t u : TypeNo) (e : TypedExpr) → ExprTyped x ws e u → AreAmong types t boolean
      → AreAmong types u boolean → LinkTyped t (link.And e) boolean
  and_typed t u e p h g = link_by (link.And e) (wanted_of m e) t boolean (wants_and m e)
      (λ a k. typed.And a _ t u e (p a k) h g)

  pub or_typed : (t u : TypeNo) (e : TypedExpr) → ExprTyped x ws e u → AreAmong types t boolean
      → AreAmong types u boolean → LinkTyped t (link.Or e) boolean
  or_typed t u e p h g = link_by (link.Or e) (wanted_of m e) t boolean (wants_or m e)
      (λ a k. typed.Or a _ t u e (p a k) h g)

  pub combine_typed : (t u : TypeNo) (o : SetOperator) (e : TypedExpr) → ExprTyped x ws e u → AreAmong types t bitset
      → AreAmong types u bitset → LinkTyped t (link.Combine o e) bitset
  combine_typed t u o e p h g = link_by (link.Combine o e) (wanted_of m e) t bitset (wants_combine m o e)
      (λ a k. typed.Combine a _ t u o e (p a k) h g)

  -- ---- expressions

  expr_by : (e : TypedExpr) (w : Wanted) (t : TypeNo) → wanted_of m e ≡ w
      → ((a : ℕ) → Has x a w → IsExpr x ws a (a + characters w.texts) e t) → ExprTyped x ws e t
  expr_by e w t q f = by_wanted (λ a b. IsExpr x ws a b e t) (wanted_of m e) w q f

  -- of two parts
  both_by : (e f g : TypedExpr) (t u v : TypeNo) → wanted_of m g ≡ beside (wanted_of m e) (wanted_of m f)
      → ExprTyped x ws e u → ExprTyped x ws f v
      → ((a b c : ℕ) → IsExpr x ws a b e u → IsExpr x ws b c f v → IsExpr x ws a c g t) → ExprTyped x ws g t
  both_by e f g t u v q p r k =
      expr_by g (beside (wanted_of m e) (wanted_of m f)) t q (λ a h.
      subst (λ (b : ℕ). IsExpr x ws a b g t) (seam a (texts_of e) (texts_of f))
      (k a _ _ (p a (has_first x a (wanted_of m e) (wanted_of m f) h))
      (r _ (has_second x a (wanted_of m e) (wanted_of m f) h))))

  pub constant_typed : (t : TypeNo) (n : ℤ) → IsValue types t n → ExprTyped x ws (expr.Constant t n) t
  constant_typed t n h = expr_by (expr.Constant t n) nothing t (wants_constant m t n)
      (λ a k. subst (λ (b : ℕ). IsExpr x ws a b (expr.Constant t n) t) (same_end a) (typed.Constant a t n h))

  pub load_typed : (t : TypeNo) (c : Scalar) (d : Place) → IsCell types t c → PlaceTyped x ws d (Cell c)
      → ExprTyped x ws (expr.Load t d) t
  load_typed t c d h p = expr_by (expr.Load t d) (wanted_at m d) t (wants_load m t d)
      (λ a k. typed.Load a _ t c d h (p a k))

  -- values of procedure types
  procedure_by : (e : TypedExpr) (w : Wanted) (h : Heading) → wanted_of m e ≡ w
      → ((a : ℕ) → Has x a w → IsProcedureExpr x ws a (a + characters w.texts) e h) → ProcedureTyped x ws e h
  procedure_by e w h q f = by_wanted (λ a b. IsProcedureExpr x ws a b e h) (wanted_of m e) w q f

  pub loaded_procedure_typed : (t : TypeNo) (h : Heading) (d : Place) → tree types t ≡ Cell (Callable h)
      → PlaceTyped x ws d (Cell (Callable h)) → ProcedureTyped x ws (expr.Load t d) h
  loaded_procedure_typed t h d tr p = procedure_by (expr.Load t d) (wanted_at m d) h (wants_load m t d)
      (λ a k. typed.LoadedProcedure a _ t h d tr (p a k))

  pub procedure_typed : (f : Procedure) (h : Heading) → IsNamed x f → heading_at types f.heading ≡ Some h
      → ProcedureTyped x ws (expr.Procedure f) h
  procedure_typed f h n g = procedure_by (expr.Procedure f) nothing h (wants_procedure m f)
      (λ a k. subst (λ (b : ℕ). IsProcedureExpr x ws a b (expr.Procedure f) h) (same_end a)
      (typed.NamedProcedure a f h n g))

  pub given_procedure_typed : (t : TypeNo) (h : Heading) (c : Call) → CallTyped x ws c (Some (Cell (Callable h)))
      → ProcedureTyped x ws (expr.Call t c) h
  given_procedure_typed t h c p = procedure_by (expr.Call t c) (wanted_called m c) h (wants_call m t c)
      (λ a k. typed.GivenProcedure a _ t h c (p a k))

  pub routine_expr_typed : (t : TypeNo) (h : Heading) (e : TypedExpr) → IsTypeOf m e t → scalar_at types t ≡ None
      → ProcedureTyped x ws e h → ExprTyped x ws e t
  routine_expr_typed t h e o n p = λ a k. typed.ProcedureValue a _ t h e (p a k) o n

  pub plus_typed : (t u : TypeNo) (e : TypedExpr) → ExprTyped x ws e u → AreAmong types u t
      → ExprTyped x ws (expr.Plus t e) t
  plus_typed t u e p h = expr_by (expr.Plus t e) (wanted_of m e) t (wants_plus m t e)
      (λ a k. typed.Plus a _ t u e (p a k) h)

  pub negate_typed : (u : TypeNo) (e : TypedExpr) → ExprTyped x ws e u → ExprTyped x ws (expr.Negate e) integer
  negate_typed u e p = expr_by (expr.Negate e) (wanted_of m e) integer (wants_negate m e)
      (λ a k. typed.Negate a _ u e (p a k))

  pub linked_typed : (e : TypedExpr) (l : Link) (t u : TypeNo) → ExprTyped x ws e t → LinkTyped t l u
      → ExprTyped x ws (link_operand e l) u
  linked_typed e l t u p q =
      expr_by (link_operand e l) (beside (wanted_of m e) (wanted_linked m l)) u (wants_linked m e l) (λ a k.
      subst (λ (b : ℕ). IsExpr x ws a b (link_operand e l) u) (seam a (texts_of e) (texts_linked l))
      (linked_is a _ _ t u e l (p a (has_first x a (wanted_of m e) (wanted_linked m l) k))
      (q _ (has_second x a (wanted_of m e) (wanted_linked m l) k))))

  pub compare_typed : (u v : TypeNo) (o : Comparison) (e f : TypedExpr) → ExprTyped x ws e u → ExprTyped x ws f v
      → ExprTyped x ws (expr.Compare o e f) boolean
  compare_typed u v o e f p q = both_by e f (expr.Compare o e f) boolean u v (wants_compare m o e f) p q
      (λ a b c h g. typed.Compare a b c u v o e f h g)

  pub not_typed : (u : TypeNo) (e : TypedExpr) → ExprTyped x ws e u → AreAmong types u boolean
      → ExprTyped x ws (expr.Not e) boolean
  not_typed u e p h = expr_by (expr.Not e) (wanted_of m e) boolean (wants_not m e) (λ a k. typed.Not a _ u e (p a k) h)

  pub include_typed : (u v : TypeNo) (o : Inclusion) (e f : TypedExpr) → ExprTyped x ws e u → AreAmong types u bitset
      → ExprTyped x ws f v → AreAmong types v bitset → ExprTyped x ws (expr.Include o e f) boolean
  include_typed u v o e f p i q j = both_by e f (expr.Include o e f) boolean u v (wants_include m o e f) p q
      (λ a b c h g. typed.Include a b c u v o e f h i g j)

  pub in_typed : (u v : TypeNo) (e f : TypedExpr) → ExprTyped x ws e u → ExprTyped x ws f v → AreAmong types v bitset
      → ExprTyped x ws (expr.In e f) boolean
  in_typed u v e f p q j = both_by e f (expr.In e f) boolean u v (wants_in m e f) p q
      (λ a b c h g. typed.In a b c u v e f h g j)

  pub abs_typed : (t u : TypeNo) (e : TypedExpr) → ExprTyped x ws e u → AreAmong types u t
      → (are_same t integer ≡ false → AreNatural types t) → (scalar_at types t ≡ None → ⊥)
      → ExprTyped x ws (expr.Abs t e) t
  abs_typed t u e p h g r = expr_by (expr.Abs t e) (wanted_of m e) t (wants_abs m t e)
      (λ a k. typed.Abs a _ t u e (p a k) h g r)

  pub cap_typed : (u : TypeNo) (e : TypedExpr) → ExprTyped x ws e u → AreAmong types u char
      → ExprTyped x ws (expr.Cap e) char
  cap_typed u e p h = expr_by (expr.Cap e) (wanted_of m e) char (wants_cap m e) (λ a k. typed.Cap a _ u e (p a k) h)

  pub chr_typed : (u : TypeNo) (e : TypedExpr) → ExprTyped x ws e u → ExprTyped x ws (expr.Chr e) char
  chr_typed u e p = expr_by (expr.Chr e) (wanted_of m e) char (wants_chr m e) (λ a k. typed.Chr a _ u e (p a k))

  pub odd_typed : (u : TypeNo) (e : TypedExpr) → ExprTyped x ws e u → ExprTyped x ws (expr.Odd e) boolean
  odd_typed u e p = expr_by (expr.Odd e) (wanted_of m e) boolean (wants_odd m e) (λ a k. typed.Odd a _ u e (p a k))

  pub ord_typed : (u : TypeNo) (e : TypedExpr) → ExprTyped x ws e u → AreAmong types u (base_of types u)
      → (are_same (base_of types u) integer ≡ false → AreNatural types u) → ExprTyped x ws (expr.Ord e) cardinal
  ord_typed u e p h g = expr_by (expr.Ord e) (wanted_of m e) cardinal (wants_ord m e)
      (λ a k. typed.Ord a _ u e (p a k) h g)

  pub val_typed : (t u : TypeNo) (e : TypedExpr) → ExprTyped x ws e u → (scalar_at types t ≡ None → ⊥)
      → ExprTyped x ws (expr.Val t e) t
  val_typed t u e p h = expr_by (expr.Val t e) (wanted_of m e) t (wants_val m t e)
      (λ a k. typed.Val a _ t u e (p a k) h)

  pub high_typed : (slot : Slot) (t : Ty) → kind_at x.kinds slot ≡ Some (Open t)
      → ExprTyped x ws (expr.High slot) cardinal
  high_typed slot t h = expr_by (expr.High slot) nothing cardinal (wants_high m slot)
      (λ a k. subst (λ (b : ℕ). IsExpr x ws a b (expr.High slot) cardinal) (same_end a) (typed.High a slot t h))

  pub function_typed : (t : TypeNo) (r : Scalar) (c : Call) → CallTyped x ws c (Some (tree types t)) → IsCell types t r
      → ExprTyped x ws (expr.Call t c) t
  function_typed t r c p i = expr_by (expr.Call t c) (wanted_called m c) t (wants_call m t c)
      (λ a k. typed.FunctionCall a _ t r c (p a k) i)

  -- ---- designators

  abbrev pub ComponentTyped : Ty → Component → Ty → Type 0
  ComponentTyped t k u = (a : ℕ) → Has x a (wanted_behind m k)
      → IsComponent x ws a (a + characters (texts_behind k)) t k u

  component_by : (k : Component) (w : Wanted) (t u : Ty) → wanted_behind m k ≡ w
      → ((a : ℕ) → Has x a w → IsComponent x ws a (a + characters w.texts) t k u) → ComponentTyped t k u
  component_by k w t u q f = by_wanted (λ a b. IsComponent x ws a b t k u) (wanted_behind m k) w q f

  pub field_typed : (t : TypeNo) (j : ℕ) (u : Ty) → component (tree types t) (j ∷ []) ≡ Some u
      → ComponentTyped (tree types t) (part.Field t j) u
  field_typed t j u h = component_by (part.Field t j) nothing (tree types t) u (wants_field m t j)
      (λ a k. subst (λ (b : ℕ). IsComponent x ws a b (tree types t) (part.Field t j) u) (same_end a)
      (typed.FieldOf a t j u h))

  pub element_typed : (t w : TypeNo) (r : Range) (u : Ty) (e : TypedExpr) → index_of types t ≡ Some r
      → tree types t ≡ Array (elements_of (Some r)) u → ExprTyped x ws e w
      → ComponentTyped (tree types t) (part.Element t e) u
  element_typed t w r u e i h p = component_by (part.Element t e) (wanted_of m e) (tree types t) u (wants_element m t e)
      (λ a k. typed.ElementOf a _ t w r u e i h (p a k))

  place_by : (d : Place) (w : Wanted) (t : Ty) → wanted_at m d ≡ w
      → ((a : ℕ) → Has x a w → IsPlace x ws a (a + characters w.texts) d t) → PlaceTyped x ws d t
  place_by d w t q f = by_wanted (λ a b. IsPlace x ws a b d t) (wanted_at m d) w q f

  pub rooted_typed : (r : Root) (t : Ty) → IsRoot x ws r t → PlaceTyped x ws (root_place r) t
  rooted_typed r t h = place_by (root_place r) nothing t (wants_rooted m r)
      (λ a k. subst (λ (b : ℕ). IsPlace x ws a b (root_place r) t) (same_end a)
      (typed.Designator a a (root_place r) t t h (typed.no_components a t)))

  pub behind_typed : (d : Place) (k : Component) (t u : Ty) → PlaceTyped x ws d t → ComponentTyped t k u
      → PlaceTyped x ws (behind d k) u
  behind_typed d k t u p q =
      place_by (behind d k) (beside (wanted_at m d) (wanted_behind m k)) u (wants_behind m d k) (λ a h.
      subst (λ (b : ℕ). IsPlace x ws a b (behind d k) u) (seam a (texts_at d) (texts_behind k))
      (behind_is a _ _ t u d k (p a (has_first x a (wanted_at m d) (wanted_behind m k) h))
      (q _ (has_second x a (wanted_at m d) (wanted_behind m k) h))))

  pub open_element_typed : (slot : Slot) (t w : TypeNo) (e : TypedExpr)
      → kind_at x.kinds slot ≡ Some (Open (tree types t)) → ExprTyped x ws e w
      → PlaceTyped x ws (behind (root_place (root.Open slot)) (part.OpenElement slot t e)) (tree types t)
  open_element_typed slot t w e h p =
      place_by (behind (root_place (root.Open slot)) (part.OpenElement slot t e)) (wanted_of m e) (tree types t)
      (wants_behind m (root_place (root.Open slot)) (part.OpenElement slot t e)
      ∙ ap (λ (u : Wanted). beside u (wanted_behind m (part.OpenElement slot t e)))
      (wants_rooted m (root.Open slot)) ∙ wants_open_element m slot t e)
      (λ a k. typed.OfOpen a _ _ (behind (root_place (root.Open slot)) (part.OpenElement slot t e)) slot t
      (tree types t) (tree types t) w e [] refl h refl (p a k) (typed.no_components _ (tree types t)))

  -- ---- arguments

  argument_by : (g : Argument) (w : Wanted) (f : Form) → wanted_passed m g ≡ w
      → ((a : ℕ) → Has x a w → IsArgument x ws a (a + characters w.texts) g f) → ArgumentTyped x ws g f
  argument_by g w f q h = by_wanted (λ a b. IsArgument x ws a b g f) (wanted_passed m g) w q h

  pub value_typed : (t u : TypeNo) (c : Scalar) (e : TypedExpr) → ExprTyped x ws e u → IsCell types t c
      → IsTaken m t e u → ArgumentTyped x ws (argument.Value t e) (ByNumber c)
  value_typed t u c e p h g = argument_by (argument.Value t e) (wanted_of m e) (ByNumber c) (wants_value m t e)
      (λ a k. typed.Value a _ t u c e (p a k) h g)

  pub procedure_actual_typed : (t : TypeNo) (h : Heading) (e : TypedExpr) → ProcedureTyped x ws e h
      → scalar_at types t ≡ None → tree types t ≡ Cell (Callable h)
      → ArgumentTyped x ws (argument.Value t e) (ByNumber (Callable h))
  procedure_actual_typed t h e p n i = argument_by (argument.Value t e) (wanted_of m e) (ByNumber (Callable h))
      (wants_value m t e) (λ a k. typed.ProcedureActual a _ t h e (p a k) n i)

  pub name_typed : (d : Place) (t : Ty) → PlaceTyped x ws d t → ArgumentTyped x ws (argument.Place d) (ByName t)
  name_typed d t p = argument_by (argument.Place d) (wanted_at m d) (ByName t) (wants_actual m d)
      (λ a k. typed.ActualName a _ d t (p a k))

  pub copy_typed : (d : Place) (t : Ty) → PlaceTyped x ws d t → ArgumentTyped x ws (argument.Place d) (ByCopy t)
  copy_typed d t p = argument_by (argument.Place d) (wanted_at m d) (ByCopy t) (wants_actual m d)
      (λ a k. typed.ActualCopy a _ d t (p a k))

  pub array_typed : (t : TypeNo) (r : Range) (u : Ty) (is_var : Bool) (d : Place) → index_of types t ≡ Some r
      → (r.high -ℤ r.low) ≤ℤ pos 4294967295 → tree types t ≡ Array (elements_of (Some r)) u
      → PlaceTyped x ws d (tree types t)
      → ArgumentTyped x ws (argument.Array t d) (ByArray is_var u)
  array_typed t r u is_var d i n h p = argument_by (argument.Array t d) (wanted_at m d) (ByArray is_var u)
      (wants_array m t d) (λ a k. typed.ActualArray a _ t r u is_var d i n h (p a k))

  pub open_typed : (slot : Slot) (is_var : Bool) (u : Ty) → kind_at x.kinds slot ≡ Some (Open u)
      → ArgumentTyped x ws (argument.Open slot) (ByArray is_var u)
  open_typed slot is_var u h = argument_by (argument.Open slot) nothing (ByArray is_var u) (wants_open m slot)
      (λ a k. subst (λ (b : ℕ). IsArgument x ws a b (argument.Open slot) (ByArray is_var u)) (same_end a)
      (typed.ActualOpen a slot is_var u h))

  pub text_typed : (text : List ℕ) → list_all fits_character text ≡ true → length x.characters ≤ 2 ^ 32
      → ArgumentTyped x ws (argument.Text text) (ByArray false (Cell (Natural 255)))
  text_typed text bytes room = argument_by (argument.Text text) (made (argument_text text ∷ []) [])
      (ByArray false (Cell (Natural 255))) (wants_text m text) (λ a k.
      let there : HasText x a (argument_text text) =
      has_text x a (argument_text text) k.texts.0 (passed_bytes text bytes) in
      let fits = there.fits in
      let end : a + length (argument_text text) ≡ a + (length (argument_text text) + 0) = omega arith in
      subst (λ (b : ℕ). IsArgument x ws a b (argument.Text text) (ByArray false (Cell (Natural 255)))) end
      (typed.ActualText a text there (omega (arith, fits, room))))

  -- for each form an argument
  abbrev pub ArgumentsTyped : List Argument → Forms → Type 0
  ArgumentsTyped gs fs = (a : ℕ) → Has x a (all_passed m gs)
      → AreArguments x ws a (a + characters (all_passed m gs).texts) gs fs

  pub no_arguments_typed : ArgumentsTyped [] []
  no_arguments_typed = λ a k. subst (λ (b : ℕ). AreArguments x ws a b [] []) (same_end a) (typed.no_arguments a)

  pub arguments_typed : (gs : List Argument) (g : Argument) (fs : Forms) (f : Form) → ArgumentsTyped gs fs
      → ArgumentTyped x ws g f → ArgumentsTyped (gs ++ g ∷ []) (fs ++ f ∷ [])
  arguments_typed gs g fs f p q =
      by_wanted (λ a b. AreArguments x ws a b (gs ++ g ∷ []) (fs ++ f ∷ [])) (all_passed m (gs ++ g ∷ []))
      (beside (all_passed m gs) (wanted_passed m g)) (passed_last m gs g) (λ a k.
      subst (λ (b : ℕ). AreArguments x ws a b (gs ++ g ∷ []) (fs ++ f ∷ []))
      (seam a (all_passed m gs).texts (texts_passed g))
      (arguments_are_more a _ _ gs g fs f (p a (has_first x a (all_passed m gs) (wanted_passed m g) k))
      (q _ (has_second x a (all_passed m gs) (wanted_passed m g) k))))

  -- ---- calls

  call_by : (c : Call) (w : Wanted) (r : Result) → wanted_called m c ≡ w
      → ((a : ℕ) → Has x a w → IsCall x ws a (a + characters w.texts) c r) → CallTyped x ws c r
  call_by c w r q f = by_wanted (λ a b. IsCall x ws a b c r) (wanted_called m c) w q f

  signed_if : (f : Procedure) (b : Bool) → b ≡ false → AreNeeded x (if b then [] else of_heading types f.heading ∷ [])
      → AreNeeded x (of_heading types f.heading ∷ [])
  signed_if f true e h = absurd cc
  signed_if f false e h = h

  pub module_call_typed : (f : Procedure) (gs : List Argument) → IsNamed x f → (k : Heading)
      → heading_at types f.heading ≡ Some k → ArgumentsTyped gs (forms_of types f.heading)
      → CallTyped x ws (call.Module f gs) (result_of types f.heading)
  module_call_typed f gs h shape i p = call_by (call.Module f gs) (beside (all_passed m gs) (through_table m f))
      (result_of types f.heading) (wants_module m f gs) (λ a k.
      let rest = has_second x a (all_passed m gs) (through_table m f) k in
      let here : IsCallable x f = record {
        named = h;
        signed = λ e. (signed_if f (is_own m f.home) e rest.signatures).0;
        shape = shape;
        headed = i;
      } in
      let e = seam a (all_passed m gs).texts [] in
      let end : a + characters (all_passed m gs).texts ≡ a + characters ((all_passed m gs).texts ++ []) =
      same_end (a + characters (all_passed m gs).texts) ∙ e in
      subst (λ (b : ℕ). IsCall x ws a b (call.Module f gs) (result_of types f.heading)) end
      (typed.OfModule a _ f gs here (p a (has_first x a (all_passed m gs) (through_table m f) k))))

  pub nested_call_typed : (f : LocalProcedure) (gs : List Argument) → IsInner x f → (k : Heading)
      → heading_at types f.heading ≡ Some k → ArgumentsTyped gs (forms_of types f.heading)
      → CallTyped x ws (call.Nested f gs) (result_of types f.heading)
  nested_call_typed f gs h shape i p = call_by (call.Nested f gs) (all_passed m gs) (result_of types f.heading)
      (wants_nested m f gs) (λ a k. typed.OfProcedure a _ f gs (record { inner = h; shape = shape; headed = i })
      (p a k))

  -- of a procedure variable
  pub variable_call_typed : (t : TypeNo) (h : Heading) (d : Place) (gs : List Argument) → heading_at types t ≡ Some h
      → tree types t ≡ Cell (Callable h) → PlaceTyped x ws d (Cell (Callable h)) → ArgumentsTyped gs (forms_of types t)
      → CallTyped x ws (call.Variable t d gs) (result_of types t)
  variable_call_typed t h d gs e tr p q =
      call_by (call.Variable t d gs) (beside (wanted_at m d) (beside (all_passed m gs) (by_heading m t)))
      (result_of types t) (wants_variable m t d gs) (λ a k.
      let b : ℕ = a + characters (texts_at d) in
      let behind = has_second x a (wanted_at m d) (beside (all_passed m gs) (by_heading m t)) k in
      let signed = has_second x b (all_passed m gs) (by_heading m t) behind in
      let one = seam b (all_passed m gs).texts [] in
      let two = seam a (texts_at d) ((all_passed m gs).texts ++ []) in
      let end : b + characters (all_passed m gs).texts
      ≡ a + characters (texts_at d ++ ((all_passed m gs).texts ++ [])) =
      same_end (b + characters (all_passed m gs).texts) ∙ one ∙ two in
      subst (λ (c : ℕ). IsCall x ws a c (call.Variable t d gs) (result_of types t)) end
      (typed.OfVariable a b _ t h d gs e tr (p a
      (has_first x a (wanted_at m d) (beside (all_passed m gs) (by_heading m t)) k)) signed.signatures.0
      (q b (has_first x b (all_passed m gs) (by_heading m t) behind))))
