-- A tree with other numbers, folded: if each layer may be moved, the whole may.
use Rattle.std.proofs.Common.{◌≡◌, List, refl, sym, ap, ◌∙◌}
use Rattle.typed_tree.specs.declared.computed.Argument.{Argument, Argument-F, roll-Argument, map-Argument, fold-roll-Argument, fold-Argument, ind-Argument}
use Rattle.typed_tree.specs.declared.computed.Call.{Call, Call-F, roll-Call, map-Call, fold-roll-Call, fold-Call, ind-Call}
use Rattle.typed_tree.specs.declared.computed.Component.{Component, Component-F, roll-Component, map-Component, fold-roll-Component, fold-Component, ind-Component}
use Rattle.typed_tree.specs.declared.computed.Link.{Link, Link-F, roll-Link, map-Link, fold-roll-Link, fold-Link, ind-Link}
use Rattle.typed_tree.specs.declared.computed.TypedExpr.{TypedExpr, TypedExpr-F, roll-TypedExpr, map-TypedExpr, fold-roll-TypedExpr, fold-TypedExpr, ind-TypedExpr}
use Rattle.typed_tree.specs.declared.computed.Place.{Place, Place-F, roll-Place, map-Place, fold-roll-Place, fold-Place, ind-Place}
use Rattle.typed_tree.specs.declared.computed.Root.{Root}
use Rattle.typed_tree.specs.declared.computed.Argument.TheOpen as layer
use Rattle.def_exchange.specs.Moved.{Exchange, moved_type, moved_procedure}
use Rattle.def_exchange.specs.MovedTrees.{moved_root, moved_called, argument_moved, call_moved, component_moved, link_moved, expr_moved, place_moved, moved_argument, moved_call, moved_component, moved_link, moved_expr, moved_place}
use Rattle.law_exchange_code.proofs.Rolled.{rolled_argument, rolled_call, rolled_component, rolled_link, rolled_expr, rolled_place}
use Rattle.law_exchange_code.proofs.Lists.{two_paths, mapped_twice, listed}

-- one function for each layer
pub record Layers (A C K L E P : Type 0) : Type 0 where
  pub argument : Argument-F A C K L E P → A
  pub call : Call-F A C K L E P → C
  pub component : Component-F A C K L E P → K
  pub link : Link-F A C K L E P → L
  pub expr : TypedExpr-F A C K L E P → E
  pub place : Place-F A C K L E P → P

abbrev pub folded_argument : {A C K L E P : Type 0} → Layers A C K L E P → Argument → A
folded_argument {A} {C} {K} {L} {E} {P} l =
    fold-Argument A C K L E P l.argument l.call l.component l.link l.expr l.place

abbrev pub folded_call : {A C K L E P : Type 0} → Layers A C K L E P → Call → C
folded_call {A} {C} {K} {L} {E} {P} l =
    fold-Call A C K L E P l.argument l.call l.component l.link l.expr l.place

abbrev pub folded_component : {A C K L E P : Type 0} → Layers A C K L E P → Component → K
folded_component {A} {C} {K} {L} {E} {P} l =
    fold-Component A C K L E P l.argument l.call l.component l.link l.expr l.place

abbrev pub folded_link : {A C K L E P : Type 0} → Layers A C K L E P → Link → L
folded_link {A} {C} {K} {L} {E} {P} l =
    fold-Link A C K L E P l.argument l.call l.component l.link l.expr l.place

abbrev pub folded_expr : {A C K L E P : Type 0} → Layers A C K L E P → TypedExpr → E
folded_expr {A} {C} {K} {L} {E} {P} l =
    fold-TypedExpr A C K L E P l.argument l.call l.component l.link l.expr l.place

abbrev pub folded_place : {A C K L E P : Type 0} → Layers A C K L E P → Place → P
folded_place {A} {C} {K} {L} {E} {P} l =
    fold-Place A C K L E P l.argument l.call l.component l.link l.expr l.place

-- ---- a layer is moved before or after its parts are read

abbrev placed : {A C K L E P : Type 0} → Root → List K → Place-F A C K L E P
placed r ks = record { root = r; components = ks }

module _ (x : Exchange) {A C K L E P A' C' K' L' E' P' A'' C'' K'' L'' E'' P'' : Type 0} (fa : A → A') (fc : C → C')
    (fk : K → K')
    (fl : L → L') (fe : E → E') (fp : P → P') (ga : A' → A'') (gc : C' → C'') (gk : K' → K'') (gl : L' → L'')
    (ge : E' → E'') (gp : P' → P'') where
  natural_argument : (y : Argument-F A C K L E P)
      → map-Argument A' C' K' L' E' P' A'' C'' K'' L'' E'' P'' ga gc gk gl ge gp
      (argument_moved x (map-Argument A C K L E P A' C' K' L' E' P' fa fc fk fl fe fp y))
      ≡ argument_moved x (map-Argument A C K L E P A'' C'' K'' L'' E'' P'' (λ z. ga (fa z)) (λ z. gc (fc z))
      (λ z. gk (fk z)) (λ z. gl (fl z)) (λ z. ge (fe z)) (λ z. gp (fp z)) y)
  natural_argument (layer.Value t e) = refl
  natural_argument (layer.Place d) = refl
  natural_argument (layer.Array t d) = refl
  natural_argument (layer.Open s) = refl
  natural_argument (layer.Text text) = refl

  natural_call : (y : Call-F A C K L E P)
      → map-Call A' C' K' L' E' P' A'' C'' K'' L'' E'' P'' ga gc gk gl ge gp
      (call_moved x (map-Call A C K L E P A' C' K' L' E' P' fa fc fk fl fe fp y))
      ≡ call_moved x (map-Call A C K L E P A'' C'' K'' L'' E'' P'' (λ z. ga (fa z)) (λ z. gc (fc z))
      (λ z. gk (fk z)) (λ z. gl (fl z)) (λ z. ge (fe z)) (λ z. gp (fp z)) y)
  natural_call (layer.Module p args) = ap (layer.Module (moved_procedure x p)) (mapped_twice ga fa args)
  natural_call (layer.Nested p args) = ap (layer.Nested (moved_called x p)) (mapped_twice ga fa args)
  natural_call (layer.Variable t d args) = ap (layer.Variable (moved_type x t) (gp (fp d))) (mapped_twice ga fa args)

  natural_component : (y : Component-F A C K L E P)
      → map-Component A' C' K' L' E' P' A'' C'' K'' L'' E'' P'' ga gc gk gl ge gp
      (component_moved x (map-Component A C K L E P A' C' K' L' E' P' fa fc fk fl fe fp y))
      ≡ component_moved x (map-Component A C K L E P A'' C'' K'' L'' E'' P'' (λ z. ga (fa z)) (λ z. gc (fc z))
      (λ z. gk (fk z)) (λ z. gl (fl z)) (λ z. ge (fe z)) (λ z. gp (fp z)) y)
  natural_component (layer.Field t k) = refl
  natural_component (layer.Element t i) = refl
  natural_component (layer.OpenElement s t i) = refl

  natural_link : (y : Link-F A C K L E P)
      → map-Link A' C' K' L' E' P' A'' C'' K'' L'' E'' P'' ga gc gk gl ge gp
      (link_moved x (map-Link A C K L E P A' C' K' L' E' P' fa fc fk fl fe fp y))
      ≡ link_moved x (map-Link A C K L E P A'' C'' K'' L'' E'' P'' (λ z. ga (fa z)) (λ z. gc (fc z))
      (λ z. gk (fk z)) (λ z. gl (fl z)) (λ z. ge (fe z)) (λ z. gp (fp z)) y)
  natural_link (layer.Arithmetic o t b) = refl
  natural_link (layer.And b) = refl
  natural_link (layer.Or b) = refl
  natural_link (layer.Combine o b) = refl

  natural_expr : (y : TypedExpr-F A C K L E P)
      → map-TypedExpr A' C' K' L' E' P' A'' C'' K'' L'' E'' P'' ga gc gk gl ge gp
      (expr_moved x (map-TypedExpr A C K L E P A' C' K' L' E' P' fa fc fk fl fe fp y))
      ≡ expr_moved x (map-TypedExpr A C K L E P A'' C'' K'' L'' E'' P'' (λ z. ga (fa z)) (λ z. gc (fc z))
      (λ z. gk (fk z)) (λ z. gl (fl z)) (λ z. ge (fe z)) (λ z. gp (fp z)) y)
  natural_expr (layer.Constant t n) = refl
  natural_expr (layer.Load t d) = refl
  natural_expr (layer.Procedure p) = refl
  natural_expr (layer.Plus t e) = refl
  natural_expr (layer.Negate e) = refl
  natural_expr (layer.Chain e links) = ap (layer.Chain (ge (fe e))) (mapped_twice gl fl links)
  natural_expr (layer.Compare o a b) = refl
  natural_expr (layer.Not e) = refl
  natural_expr (layer.Include o a b) = refl
  natural_expr (layer.In a b) = refl
  natural_expr (layer.Abs t e) = refl
  natural_expr (layer.Cap e) = refl
  natural_expr (layer.Chr e) = refl
  natural_expr (layer.Odd e) = refl
  natural_expr (layer.Ord e) = refl
  natural_expr (layer.Val t e) = refl
  natural_expr (layer.High s) = refl
  natural_expr (layer.Call t c) = refl

  natural_place : (y : Place-F A C K L E P)
      → map-Place A' C' K' L' E' P' A'' C'' K'' L'' E'' P'' ga gc gk gl ge gp
      (place_moved x (map-Place A C K L E P A' C' K' L' E' P' fa fc fk fl fe fp y))
      ≡ place_moved x (map-Place A C K L E P A'' C'' K'' L'' E'' P'' (λ z. ga (fa z)) (λ z. gc (fc z))
      (λ z. gk (fk z)) (λ z. gl (fl z)) (λ z. ge (fe z)) (λ z. gp (fp z)) y)
  natural_place d = ap (placed (moved_root x d.root)) (mapped_twice gk fk d.components)

-- ---- what is known of the parts of a layer

module _ {A C K L E P A' C' K' L' E' P' : Type 0} (ma : Argument → A) (mc : Call → C) (mk : Component → K)
    (ml : Link → L)
    (me : TypedExpr → E) (mp : Place → P) (fa : Argument → A') (fc : Call → C') (fk : Component → K') (fl : Link → L')
    (fe : TypedExpr → E') (fp : Place → P') (ha : A → A') (hc : C → C') (hk : K → K') (hl : L → L') (he : E → E')
    (hp : P → P') where
  abbrev SA : Type 0
  SA = (e : Argument) × (fa e ≡ ha (ma e))

  abbrev SC : Type 0
  SC = (e : Call) × (fc e ≡ hc (mc e))

  abbrev SK : Type 0
  SK = (e : Component) × (fk e ≡ hk (mk e))

  abbrev SL : Type 0
  SL = (e : Link) × (fl e ≡ hl (ml e))

  abbrev SE : Type 0
  SE = (e : TypedExpr) × (fe e ≡ he (me e))

  abbrev SP : Type 0
  SP = (e : Place) × (fp e ≡ hp (mp e))

  abbrev bare_argument : Argument-F SA SC SK SL SE SP → Argument-F Argument Call Component Link TypedExpr Place
  bare_argument y = map-Argument SA SC SK SL SE SP Argument Call Component Link TypedExpr Place (λ e. e.0) (λ e. e.0)
      (λ e. e.0) (λ e. e.0) (λ e. e.0) (λ e. e.0) y

  abbrev bare_call : Call-F SA SC SK SL SE SP → Call-F Argument Call Component Link TypedExpr Place
  bare_call y = map-Call SA SC SK SL SE SP Argument Call Component Link TypedExpr Place (λ e. e.0) (λ e. e.0) (λ e. e.0)
      (λ e. e.0) (λ e. e.0) (λ e. e.0) y

  abbrev bare_component : Component-F SA SC SK SL SE SP → Component-F Argument Call Component Link TypedExpr Place
  bare_component y = map-Component SA SC SK SL SE SP Argument Call Component Link TypedExpr Place (λ e. e.0) (λ e. e.0)
      (λ e. e.0) (λ e. e.0) (λ e. e.0) (λ e. e.0) y

  abbrev bare_link : Link-F SA SC SK SL SE SP → Link-F Argument Call Component Link TypedExpr Place
  bare_link y = map-Link SA SC SK SL SE SP Argument Call Component Link TypedExpr Place (λ e. e.0) (λ e. e.0) (λ e. e.0)
      (λ e. e.0) (λ e. e.0) (λ e. e.0) y

  abbrev bare_expr : TypedExpr-F SA SC SK SL SE SP → TypedExpr-F Argument Call Component Link TypedExpr Place
  bare_expr y = map-TypedExpr SA SC SK SL SE SP Argument Call Component Link TypedExpr Place (λ e. e.0) (λ e. e.0)
      (λ e. e.0) (λ e. e.0) (λ e. e.0) (λ e. e.0) y

  abbrev bare_place : Place-F SA SC SK SL SE SP → Place-F Argument Call Component Link TypedExpr Place
  bare_place y = map-Place SA SC SK SL SE SP Argument Call Component Link TypedExpr Place (λ e. e.0) (λ e. e.0)
      (λ e. e.0) (λ e. e.0) (λ e. e.0) (λ e. e.0) y

  gathered_argument : (y : Argument-F SA SC SK SL SE SP)
      → map-Argument Argument Call Component Link TypedExpr Place A' C' K' L' E' P' fa fc fk fl fe fp (bare_argument y)
      ≡ map-Argument A C K L E P A' C' K' L' E' P' ha hc hk hl he hp
      (map-Argument Argument Call Component Link TypedExpr Place A C K L E P ma mc mk ml me mp (bare_argument y))
  gathered_argument (layer.Value t e) = ap (layer.Value t) e.1
  gathered_argument (layer.Place d) = ap layer.Place d.1
  gathered_argument (layer.Array t d) = ap (layer.Array t) d.1
  gathered_argument (layer.Open s) = refl
  gathered_argument (layer.Text text) = refl

  gathered_call : (y : Call-F SA SC SK SL SE SP)
      → map-Call Argument Call Component Link TypedExpr Place A' C' K' L' E' P' fa fc fk fl fe fp (bare_call y)
      ≡ map-Call A C K L E P A' C' K' L' E' P' ha hc hk hl he hp
      (map-Call Argument Call Component Link TypedExpr Place A C K L E P ma mc mk ml me mp (bare_call y))
  gathered_call (layer.Module p args) = ap (layer.Module p) (listed fa ma ha args)
  gathered_call (layer.Nested p args) = ap (layer.Nested p) (listed fa ma ha args)
  gathered_call (layer.Variable t d args) = two_paths (layer.Variable t) d.1 (listed fa ma ha args)

  gathered_component : (y : Component-F SA SC SK SL SE SP)
      → map-Component Argument Call Component Link TypedExpr Place A' C' K' L' E' P' fa fc fk fl fe fp
      (bare_component y) ≡ map-Component A C K L E P A' C' K' L' E' P' ha hc hk hl he hp
      (map-Component Argument Call Component Link TypedExpr Place A C K L E P ma mc mk ml me mp (bare_component y))
  gathered_component (layer.Field t k) = refl
  gathered_component (layer.Element t i) = ap (layer.Element t) i.1
  gathered_component (layer.OpenElement s t i) = ap (layer.OpenElement s t) i.1

  gathered_link : (y : Link-F SA SC SK SL SE SP)
      → map-Link Argument Call Component Link TypedExpr Place A' C' K' L' E' P' fa fc fk fl fe fp (bare_link y)
      ≡ map-Link A C K L E P A' C' K' L' E' P' ha hc hk hl he hp
      (map-Link Argument Call Component Link TypedExpr Place A C K L E P ma mc mk ml me mp (bare_link y))
  gathered_link (layer.Arithmetic o t b) = ap (layer.Arithmetic o t) b.1
  gathered_link (layer.And b) = ap layer.And b.1
  gathered_link (layer.Or b) = ap layer.Or b.1
  gathered_link (layer.Combine o b) = ap (layer.Combine o) b.1

  gathered_expr : (y : TypedExpr-F SA SC SK SL SE SP)
      → map-TypedExpr Argument Call Component Link TypedExpr Place A' C' K' L' E' P' fa fc fk fl fe fp (bare_expr y)
      ≡ map-TypedExpr A C K L E P A' C' K' L' E' P' ha hc hk hl he hp
      (map-TypedExpr Argument Call Component Link TypedExpr Place A C K L E P ma mc mk ml me mp (bare_expr y))
  gathered_expr (layer.Constant t n) = refl
  gathered_expr (layer.Load t d) = ap (layer.Load t) d.1
  gathered_expr (layer.Procedure p) = refl
  gathered_expr (layer.Plus t e) = ap (layer.Plus t) e.1
  gathered_expr (layer.Negate e) = ap layer.Negate e.1
  gathered_expr (layer.Chain e links) = two_paths layer.Chain e.1 (listed fl ml hl links)
  gathered_expr (layer.Compare o a b) = two_paths (layer.Compare o) a.1 b.1
  gathered_expr (layer.Not e) = ap layer.Not e.1
  gathered_expr (layer.Include o a b) = two_paths (layer.Include o) a.1 b.1
  gathered_expr (layer.In a b) = two_paths layer.In a.1 b.1
  gathered_expr (layer.Abs t e) = ap (layer.Abs t) e.1
  gathered_expr (layer.Cap e) = ap layer.Cap e.1
  gathered_expr (layer.Chr e) = ap layer.Chr e.1
  gathered_expr (layer.Odd e) = ap layer.Odd e.1
  gathered_expr (layer.Ord e) = ap layer.Ord e.1
  gathered_expr (layer.Val t e) = ap (layer.Val t) e.1
  gathered_expr (layer.High s) = refl
  gathered_expr (layer.Call t c) = ap (layer.Call t) c.1

  gathered_place : (y : Place-F SA SC SK SL SE SP)
      → map-Place Argument Call Component Link TypedExpr Place A' C' K' L' E' P' fa fc fk fl fe fp (bare_place y)
      ≡ map-Place A C K L E P A' C' K' L' E' P' ha hc hk hl he hp
      (map-Place Argument Call Component Link TypedExpr Place A C K L E P ma mc mk ml me mp (bare_place y))
  gathered_place d = ap (placed d.root) (listed fk mk hk d.components)

-- ---- the whole

pub record Passes (x : Exchange) {A C K L E P A' C' K' L' E' P' : Type 0} (a : Layers A C K L E P)
    (b : Layers A' C' K' L' E' P')
    : Type 0 where
  pub ha : A → A'
  pub hc : C → C'
  pub hk : K → K'
  pub hl : L → L'
  pub he : E → E'
  pub hp : P → P'
  pub argument : (y : Argument-F A C K L E P)
      → b.argument (map-Argument A C K L E P A' C' K' L' E' P' ha hc hk hl he hp y)
      ≡ ha (a.argument (argument_moved x y))
  pub call : (y : Call-F A C K L E P)
      → b.call (map-Call A C K L E P A' C' K' L' E' P' ha hc hk hl he hp y) ≡ hc (a.call (call_moved x y))
  pub component : (y : Component-F A C K L E P)
      → b.component (map-Component A C K L E P A' C' K' L' E' P' ha hc hk hl he hp y)
      ≡ hk (a.component (component_moved x y))
  pub link : (y : Link-F A C K L E P)
      → b.link (map-Link A C K L E P A' C' K' L' E' P' ha hc hk hl he hp y) ≡ hl (a.link (link_moved x y))
  pub expr : (y : TypedExpr-F A C K L E P)
      → b.expr (map-TypedExpr A C K L E P A' C' K' L' E' P' ha hc hk hl he hp y) ≡ he (a.expr (expr_moved x y))
  pub place : (y : Place-F A C K L E P)
      → b.place (map-Place A C K L E P A' C' K' L' E' P' ha hc hk hl he hp y) ≡ hp (a.place (place_moved x y))

module _ (x : Exchange) {A C K L E P A' C' K' L' E' P' : Type 0} (a : Layers A C K L E P) (b : Layers A' C' K' L' E' P')
    (p : Passes x a b) where
  abbrev through_argument : Argument → A
  through_argument e = folded_argument a (moved_argument x e)

  abbrev through_call : Call → C
  through_call e = folded_call a (moved_call x e)

  abbrev through_component : Component → K
  through_component e = folded_component a (moved_component x e)

  abbrev through_link : Link → L
  through_link e = folded_link a (moved_link x e)

  abbrev through_expr : TypedExpr → E
  through_expr e = folded_expr a (moved_expr x e)

  abbrev through_place : Place → P
  through_place e = folded_place a (moved_place x e)

  at_argument : (y : Argument-F Argument Call Component Link TypedExpr Place)
      → through_argument (roll-Argument y) ≡ a.argument
      (argument_moved x (map-Argument Argument Call Component Link TypedExpr Place A C K L E P through_argument
      through_call through_component through_link through_expr through_place y))
  at_argument y =
      ap (folded_argument a) (rolled_argument x y)
      ∙ fold-roll-Argument A C K L E P a.argument a.call a.component a.link a.expr a.place
      (argument_moved x (map-Argument Argument Call Component Link TypedExpr Place Argument Call Component Link
      TypedExpr Place (moved_argument x) (moved_call x) (moved_component x) (moved_link x) (moved_expr x)
      (moved_place x) y))
      ∙ ap a.argument (natural_argument x (moved_argument x) (moved_call x) (moved_component x) (moved_link x)
      (moved_expr x) (moved_place x) (folded_argument a) (folded_call a) (folded_component a) (folded_link a)
      (folded_expr a) (folded_place a) y)

  at_call : (y : Call-F Argument Call Component Link TypedExpr Place)
      → through_call (roll-Call y) ≡ a.call (call_moved x
      (map-Call Argument Call Component Link TypedExpr Place A C K L E P through_argument through_call through_component
      through_link through_expr through_place y))
  at_call y =
      ap (folded_call a) (rolled_call x y)
      ∙ fold-roll-Call A C K L E P a.argument a.call a.component a.link a.expr a.place
      (call_moved x (map-Call Argument Call Component Link TypedExpr Place Argument Call Component Link TypedExpr
      Place (moved_argument x) (moved_call x) (moved_component x) (moved_link x) (moved_expr x) (moved_place x) y))
      ∙ ap a.call (natural_call x (moved_argument x) (moved_call x) (moved_component x) (moved_link x) (moved_expr x)
      (moved_place x) (folded_argument a) (folded_call a) (folded_component a) (folded_link a) (folded_expr a)
      (folded_place a) y)

  at_component : (y : Component-F Argument Call Component Link TypedExpr Place)
      → through_component (roll-Component y)
      ≡ a.component (component_moved x (map-Component Argument Call Component Link TypedExpr Place A C K L E P
      through_argument through_call through_component through_link through_expr through_place y))
  at_component y =
      ap (folded_component a) (rolled_component x y)
      ∙ fold-roll-Component A C K L E P a.argument a.call a.component a.link a.expr a.place
      (component_moved x (map-Component Argument Call Component Link TypedExpr Place Argument Call Component Link
      TypedExpr Place (moved_argument x) (moved_call x) (moved_component x) (moved_link x) (moved_expr x)
      (moved_place x) y))
      ∙ ap a.component (natural_component x (moved_argument x) (moved_call x) (moved_component x) (moved_link x)
      (moved_expr x) (moved_place x) (folded_argument a) (folded_call a) (folded_component a) (folded_link a)
      (folded_expr a) (folded_place a) y)

  at_link : (y : Link-F Argument Call Component Link TypedExpr Place)
      → through_link (roll-Link y) ≡ a.link (link_moved x
      (map-Link Argument Call Component Link TypedExpr Place A C K L E P through_argument through_call through_component
      through_link through_expr through_place y))
  at_link y =
      ap (folded_link a) (rolled_link x y)
      ∙ fold-roll-Link A C K L E P a.argument a.call a.component a.link a.expr a.place
      (link_moved x (map-Link Argument Call Component Link TypedExpr Place Argument Call Component Link TypedExpr
      Place (moved_argument x) (moved_call x) (moved_component x) (moved_link x) (moved_expr x) (moved_place x) y))
      ∙ ap a.link (natural_link x (moved_argument x) (moved_call x) (moved_component x) (moved_link x) (moved_expr x)
      (moved_place x) (folded_argument a) (folded_call a) (folded_component a) (folded_link a) (folded_expr a)
      (folded_place a) y)

  at_expr : (y : TypedExpr-F Argument Call Component Link TypedExpr Place)
      → through_expr (roll-TypedExpr y) ≡ a.expr
      (expr_moved x (map-TypedExpr Argument Call Component Link TypedExpr Place A C K L E P through_argument
      through_call through_component through_link through_expr through_place y))
  at_expr y =
      ap (folded_expr a) (rolled_expr x y)
      ∙ fold-roll-TypedExpr A C K L E P a.argument a.call a.component a.link a.expr a.place
      (expr_moved x (map-TypedExpr Argument Call Component Link TypedExpr Place Argument Call Component Link
      TypedExpr Place (moved_argument x) (moved_call x) (moved_component x) (moved_link x) (moved_expr x)
      (moved_place x) y))
      ∙ ap a.expr (natural_expr x (moved_argument x) (moved_call x) (moved_component x) (moved_link x) (moved_expr x)
      (moved_place x) (folded_argument a) (folded_call a) (folded_component a) (folded_link a) (folded_expr a)
      (folded_place a) y)

  at_place : (y : Place-F Argument Call Component Link TypedExpr Place)
      → through_place (roll-Place y) ≡ a.place
      (place_moved x (map-Place Argument Call Component Link TypedExpr Place A C K L E P through_argument through_call
      through_component through_link through_expr through_place y))
  at_place y =
      ap (folded_place a) (rolled_place x y)
      ∙ fold-roll-Place A C K L E P a.argument a.call a.component a.link a.expr a.place
      (place_moved x (map-Place Argument Call Component Link TypedExpr Place Argument Call Component Link TypedExpr
      Place (moved_argument x) (moved_call x) (moved_component x) (moved_link x) (moved_expr x) (moved_place x) y))
      ∙ ap a.place (natural_place x (moved_argument x) (moved_call x) (moved_component x) (moved_link x) (moved_expr x)
      (moved_place x) (folded_argument a) (folded_call a) (folded_component a) (folded_link a) (folded_expr a)
      (folded_place a) y)

  abbrev PA : Argument → Type 0
  PA e = folded_argument b e ≡ p.ha (through_argument e)

  abbrev PC : Call → Type 0
  PC e = folded_call b e ≡ p.hc (through_call e)

  abbrev PK : Component → Type 0
  PK e = folded_component b e ≡ p.hk (through_component e)

  abbrev PL : Link → Type 0
  PL e = folded_link b e ≡ p.hl (through_link e)

  abbrev PE : TypedExpr → Type 0
  PE e = folded_expr b e ≡ p.he (through_expr e)

  abbrev PP : Place → Type 0
  PP e = folded_place b e ≡ p.hp (through_place e)

  abbrev TA : Type 0
  TA = (e : Argument) × PA e

  abbrev TC : Type 0
  TC = (e : Call) × PC e

  abbrev TK : Type 0
  TK = (e : Component) × PK e

  abbrev TL : Type 0
  TL = (e : Link) × PL e

  abbrev TE : Type 0
  TE = (e : TypedExpr) × PE e

  abbrev TP : Type 0
  TP = (e : Place) × PP e

  step_argument : (z : Argument-F Argument Call Component Link TypedExpr Place) (y : Argument-F TA TC TK TL TE TP)
      → map-Argument TA TC TK TL TE TP Argument Call Component Link TypedExpr Place (λ e. e.0) (λ e. e.0) (λ e. e.0)
      (λ e. e.0) (λ e. e.0) (λ e. e.0) y ≡ z → PA (roll-Argument z)
  step_argument z y q =
      fold-roll-Argument A' C' K' L' E' P' b.argument b.call b.component b.link b.expr b.place z
      ∙ ap (λ (w : Argument-F Argument Call Component Link TypedExpr Place). b.argument
      (map-Argument Argument Call Component Link TypedExpr Place A' C' K' L' E' P' (folded_argument b)
      (folded_call b) (folded_component b) (folded_link b) (folded_expr b) (folded_place b) w)) (sym q)
      ∙ ap b.argument (gathered_argument through_argument through_call through_component through_link through_expr
      through_place (folded_argument b) (folded_call b) (folded_component b) (folded_link b) (folded_expr b)
      (folded_place b) p.ha p.hc p.hk p.hl p.he p.hp y)
      ∙ p.argument (map-Argument Argument Call Component Link TypedExpr Place A C K L E P through_argument through_call
      through_component through_link through_expr through_place
      (map-Argument TA TC TK TL TE TP Argument Call Component Link TypedExpr Place (λ e. e.0) (λ e. e.0) (λ e. e.0)
      (λ e. e.0) (λ e. e.0) (λ e. e.0) y))
      ∙ ap (λ (w : Argument-F Argument Call Component Link TypedExpr Place). p.ha
      (a.argument (argument_moved x (map-Argument Argument Call Component Link TypedExpr Place A C K L E P
      through_argument through_call through_component through_link through_expr through_place w)))) q
      ∙ sym (ap p.ha (at_argument z))

  step_call : (z : Call-F Argument Call Component Link TypedExpr Place) (y : Call-F TA TC TK TL TE TP)
      → map-Call TA TC TK TL TE TP Argument Call Component Link TypedExpr Place (λ e. e.0) (λ e. e.0) (λ e. e.0)
      (λ e. e.0) (λ e. e.0) (λ e. e.0) y ≡ z → PC (roll-Call z)
  step_call z y q =
      fold-roll-Call A' C' K' L' E' P' b.argument b.call b.component b.link b.expr b.place z
      ∙ ap (λ (w : Call-F Argument Call Component Link TypedExpr Place). b.call
      (map-Call Argument Call Component Link TypedExpr Place A' C' K' L' E' P' (folded_argument b) (folded_call b)
      (folded_component b) (folded_link b) (folded_expr b) (folded_place b) w)) (sym q)
      ∙ ap b.call (gathered_call through_argument through_call through_component through_link through_expr through_place
      (folded_argument b) (folded_call b) (folded_component b) (folded_link b) (folded_expr b) (folded_place b) p.ha
      p.hc p.hk p.hl p.he p.hp y)
      ∙ p.call (map-Call Argument Call Component Link TypedExpr Place A C K L E P through_argument through_call
      through_component through_link through_expr through_place
      (map-Call TA TC TK TL TE TP Argument Call Component Link TypedExpr Place (λ e. e.0) (λ e. e.0) (λ e. e.0)
      (λ e. e.0) (λ e. e.0) (λ e. e.0) y))
      ∙ ap (λ (w : Call-F Argument Call Component Link TypedExpr Place). p.hc
      (a.call (call_moved x (map-Call Argument Call Component Link TypedExpr Place A C K L E P through_argument
      through_call through_component through_link through_expr through_place w)))) q
      ∙ sym (ap p.hc (at_call z))

  step_component : (z : Component-F Argument Call Component Link TypedExpr Place) (y : Component-F TA TC TK TL TE TP)
      → map-Component TA TC TK TL TE TP Argument Call Component Link TypedExpr Place (λ e. e.0) (λ e. e.0) (λ e. e.0)
      (λ e. e.0) (λ e. e.0) (λ e. e.0) y ≡ z → PK (roll-Component z)
  step_component z y q =
      fold-roll-Component A' C' K' L' E' P' b.argument b.call b.component b.link b.expr b.place z
      ∙ ap (λ (w : Component-F Argument Call Component Link TypedExpr Place). b.component
      (map-Component Argument Call Component Link TypedExpr Place A' C' K' L' E' P' (folded_argument b)
      (folded_call b) (folded_component b) (folded_link b) (folded_expr b) (folded_place b) w)) (sym q)
      ∙ ap b.component (gathered_component through_argument through_call through_component through_link through_expr
      through_place (folded_argument b) (folded_call b) (folded_component b) (folded_link b) (folded_expr b)
      (folded_place b) p.ha p.hc p.hk p.hl p.he p.hp y)
      ∙ p.component (map-Component Argument Call Component Link TypedExpr Place A C K L E P through_argument
      through_call through_component through_link through_expr through_place
      (map-Component TA TC TK TL TE TP Argument Call Component Link TypedExpr Place (λ e. e.0) (λ e. e.0) (λ e. e.0)
      (λ e. e.0) (λ e. e.0) (λ e. e.0) y))
      ∙ ap (λ (w : Component-F Argument Call Component Link TypedExpr Place). p.hk
      (a.component (component_moved x (map-Component Argument Call Component Link TypedExpr Place A C K L E P
      through_argument through_call through_component through_link through_expr through_place w)))) q
      ∙ sym (ap p.hk (at_component z))

  step_link : (z : Link-F Argument Call Component Link TypedExpr Place) (y : Link-F TA TC TK TL TE TP)
      → map-Link TA TC TK TL TE TP Argument Call Component Link TypedExpr Place (λ e. e.0) (λ e. e.0) (λ e. e.0)
      (λ e. e.0) (λ e. e.0) (λ e. e.0) y ≡ z → PL (roll-Link z)
  step_link z y q =
      fold-roll-Link A' C' K' L' E' P' b.argument b.call b.component b.link b.expr b.place z
      ∙ ap (λ (w : Link-F Argument Call Component Link TypedExpr Place). b.link
      (map-Link Argument Call Component Link TypedExpr Place A' C' K' L' E' P' (folded_argument b) (folded_call b)
      (folded_component b) (folded_link b) (folded_expr b) (folded_place b) w)) (sym q)
      ∙ ap b.link (gathered_link through_argument through_call through_component through_link through_expr through_place
      (folded_argument b) (folded_call b) (folded_component b) (folded_link b) (folded_expr b) (folded_place b) p.ha
      p.hc p.hk p.hl p.he p.hp y)
      ∙ p.link (map-Link Argument Call Component Link TypedExpr Place A C K L E P through_argument through_call
      through_component through_link through_expr through_place
      (map-Link TA TC TK TL TE TP Argument Call Component Link TypedExpr Place (λ e. e.0) (λ e. e.0) (λ e. e.0)
      (λ e. e.0) (λ e. e.0) (λ e. e.0) y))
      ∙ ap (λ (w : Link-F Argument Call Component Link TypedExpr Place). p.hl
      (a.link (link_moved x (map-Link Argument Call Component Link TypedExpr Place A C K L E P through_argument
      through_call through_component through_link through_expr through_place w)))) q
      ∙ sym (ap p.hl (at_link z))

  step_expr : (z : TypedExpr-F Argument Call Component Link TypedExpr Place) (y : TypedExpr-F TA TC TK TL TE TP)
      → map-TypedExpr TA TC TK TL TE TP Argument Call Component Link TypedExpr Place (λ e. e.0) (λ e. e.0) (λ e. e.0)
      (λ e. e.0) (λ e. e.0) (λ e. e.0) y ≡ z → PE (roll-TypedExpr z)
  step_expr z y q =
      fold-roll-TypedExpr A' C' K' L' E' P' b.argument b.call b.component b.link b.expr b.place z
      ∙ ap (λ (w : TypedExpr-F Argument Call Component Link TypedExpr Place). b.expr
      (map-TypedExpr Argument Call Component Link TypedExpr Place A' C' K' L' E' P' (folded_argument b)
      (folded_call b) (folded_component b) (folded_link b) (folded_expr b) (folded_place b) w)) (sym q)
      ∙ ap b.expr (gathered_expr through_argument through_call through_component through_link through_expr through_place
      (folded_argument b) (folded_call b) (folded_component b) (folded_link b) (folded_expr b) (folded_place b) p.ha
      p.hc p.hk p.hl p.he p.hp y)
      ∙ p.expr (map-TypedExpr Argument Call Component Link TypedExpr Place A C K L E P through_argument through_call
      through_component through_link through_expr through_place
      (map-TypedExpr TA TC TK TL TE TP Argument Call Component Link TypedExpr Place (λ e. e.0) (λ e. e.0) (λ e. e.0)
      (λ e. e.0) (λ e. e.0) (λ e. e.0) y))
      ∙ ap (λ (w : TypedExpr-F Argument Call Component Link TypedExpr Place). p.he
      (a.expr (expr_moved x (map-TypedExpr Argument Call Component Link TypedExpr Place A C K L E P through_argument
      through_call through_component through_link through_expr through_place w)))) q
      ∙ sym (ap p.he (at_expr z))

  step_place : (z : Place-F Argument Call Component Link TypedExpr Place) (y : Place-F TA TC TK TL TE TP)
      → map-Place TA TC TK TL TE TP Argument Call Component Link TypedExpr Place (λ e. e.0) (λ e. e.0) (λ e. e.0)
      (λ e. e.0) (λ e. e.0) (λ e. e.0) y ≡ z → PP (roll-Place z)
  step_place z y q =
      fold-roll-Place A' C' K' L' E' P' b.argument b.call b.component b.link b.expr b.place z
      ∙ ap (λ (w : Place-F Argument Call Component Link TypedExpr Place). b.place
      (map-Place Argument Call Component Link TypedExpr Place A' C' K' L' E' P' (folded_argument b) (folded_call b)
      (folded_component b) (folded_link b) (folded_expr b) (folded_place b) w)) (sym q)
      ∙ ap b.place (gathered_place through_argument through_call through_component through_link through_expr
      through_place (folded_argument b) (folded_call b) (folded_component b) (folded_link b) (folded_expr b)
      (folded_place b) p.ha p.hc p.hk p.hl p.he p.hp y)
      ∙ p.place (map-Place Argument Call Component Link TypedExpr Place A C K L E P through_argument through_call
      through_component through_link through_expr through_place
      (map-Place TA TC TK TL TE TP Argument Call Component Link TypedExpr Place (λ e. e.0) (λ e. e.0) (λ e. e.0)
      (λ e. e.0) (λ e. e.0) (λ e. e.0) y))
      ∙ ap (λ (w : Place-F Argument Call Component Link TypedExpr Place). p.hp
      (a.place (place_moved x (map-Place Argument Call Component Link TypedExpr Place A C K L E P through_argument
      through_call through_component through_link through_expr through_place w)))) q
      ∙ sym (ap p.hp (at_place z))

  pub passed_argument : (e : Argument) → PA e
  passed_argument = ind-Argument PA PC PK PL PE PP step_argument step_call step_component step_link step_expr step_place

  pub passed_call : (e : Call) → PC e
  passed_call = ind-Call PA PC PK PL PE PP step_argument step_call step_component step_link step_expr step_place

  pub passed_component : (e : Component) → PK e
  passed_component = ind-Component PA PC PK PL PE PP step_argument step_call step_component step_link step_expr
      step_place

  pub passed_link : (e : Link) → PL e
  passed_link = ind-Link PA PC PK PL PE PP step_argument step_call step_component step_link step_expr step_place

  pub passed_expr : (e : TypedExpr) → PE e
  passed_expr = ind-TypedExpr PA PC PK PL PE PP step_argument step_call step_component step_link step_expr step_place

  pub passed_place : (e : Place) → PP e
  passed_place = ind-Place PA PC PK PL PE PP step_argument step_call step_component step_link step_expr step_place
