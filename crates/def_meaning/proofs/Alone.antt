-- Expressions without calls change nothing, and print nothing.
use Rattle.std.proofs.Common.{◌≡◌, ℕ, ℤ, Bool, true, false, List, [], ◌∷◌, map, Option, Some, None, refl, sym, ap, subst, ◌∙◌}
use Rattle.std.specs.Prelude.{◌||◌, pos, ◌-ℤ◌, int_lt, if◌then◌else◌}
use Rattle.typed_tree.specs.declared.computed.Argument.{Argument, Argument-F, roll-Argument, map-Argument, fold-Argument}
use Rattle.typed_tree.specs.declared.computed.Argument.TheOpen as layer
use Rattle.typed_tree.specs.declared.computed.Call.{Call, Call-F, roll-Call, map-Call, fold-Call, fold_out-Call}
use Rattle.typed_tree.specs.declared.computed.Component.{Component, Component-F, out-Component, roll-Component, out-roll-Component, map-Component, fold_out-Component, fold-Component}
use Rattle.typed_tree.specs.declared.computed.Link.{Link, Link-F, out-Link, roll-Link, out-roll-Link, map-Link, fold_out-Link, fold-Link}
use Rattle.typed_tree.specs.declared.computed.Place.{Place, Place-F, out-Place, roll-Place, out-roll-Place, map-Place, fold_out-Place, ind-Place}
use Rattle.typed_tree.specs.declared.computed.TypedExpr.{TypedExpr, TypedExpr-F, out-TypedExpr, roll-TypedExpr, out-roll-TypedExpr, map-TypedExpr, fold_out-TypedExpr, ind-TypedExpr}
use Rattle.typed_tree.specs.declared.computed.Arithmetic.{Arithmetic}
use Rattle.typed_tree.specs.declared.computed.Arithmetic.TheVariants as op
use Rattle.typed_tree.specs.declared.types.TypeNo.{TypeNo}
use Rattle.typed_tree.specs.declared.shape.Scalar.{Scalar as Range}
use Rattle.typed_tree.specs.declared.known_types.Types.{Types}
use Rattle.typed_tree.specs.Types.{integer}
use Rattle.typed_tree.specs.Known.{scalar_at}
use Rattle.def_meaning.specs.Store.{Location}
use Rattle.def_meaning.specs.Answer.{State, Answer, Value, ◌▷◌, range_fault, overflow, divisor_fault, index_fault}
use Rattle.def_meaning.specs.Operators.{is_between, truth, is_true, comparison_holds, set_operation, inclusion_holds, has, absolute, capital, odd, quotient, remainder}
use Rattle.def_meaning.specs.Environment.{Modules, Environment, high_of, slot_named}
use Rattle.def_meaning.specs.Expressions.{Asks, Gives, one_by_one, within, within_range, as_type, in_base, index_range, element, element_in, division_by, arithmetic_result, ordinal, root_layer, component_layer, link_layer, place_layer, expr_layer, value, locate}
use Rattle.def_meaning.specs.Calm.{argument_calls, call_calls, component_calls, any_calls, link_calls, place_calls, expr_calls, calls, calls_at, Leaves, gives, ends, ChangesNothing, FindsAlone}
use Rattle.def_meaning.proofs.Evaluated.{opened, opened_place, opened_component, opened_link, reached, continued, at_place, at_expr, at_component, at_link}

-- ---- one after the other, and choices

then_leaves : {A B : Type 0} {st : State} {x : Answer A} {f : A → State → Answer B}
    → ((v : A) (st : State) → Leaves st (f v st)) → Leaves st x → Leaves st (x ▷ f)
then_leaves {st = st} k (gives v) = k v st
then_leaves k (ends n) = ends n

if_leaves : {A : Type 0} {st : State} {x y : Answer A} (b : Bool) → Leaves st x → Leaves st y
    → Leaves st (if b then x else y)
if_leaves true p q = p
if_leaves false p q = q

within_leaves : (low high : ℤ) (k : ℕ) (v : ℤ) (st : State) → Leaves st (within low high k v st)
within_leaves low high k v st = if_leaves (is_between low v high) (gives v) (ends k)

range_leaves : (o : Option Range) (k : ℕ) (v : ℤ) (st : State) → Leaves st (within_range o k v st)
range_leaves None k v st = gives v
range_leaves (Some s) k v st = within_leaves s.low s.high k v st

type_leaves : (types : Types) (t : TypeNo) (v : ℤ) (st : State) → Leaves st (as_type types t v st)
type_leaves types t v st = range_leaves (scalar_at types t) range_fault v st

base_leaves : (types : Types) (t : TypeNo) (v : ℤ) (st : State) → Leaves st (in_base types t v st)
base_leaves types t v st = range_leaves (scalar_at types t) overflow v st

element_leaves : (l : Location) (low high i : ℤ) (st : State) → Leaves st (element l low high i st)
element_leaves l low high i st = if_leaves (is_between low i high) (gives _) (ends index_fault)

indexed_leaves : (l : Location) (o : Option Range) (i : ℤ) (st : State) → Leaves st (element_in l o i st)
indexed_leaves l None i st = ends index_fault
indexed_leaves l (Some s) i st = element_leaves l s.low s.high i st

divided_leaves : (f : ℤ → ℤ → ℤ) (x y : ℤ) (st : State) → Leaves st (division_by f x y st)
divided_leaves f x y st = if_leaves (int_lt (pos 0) y) (gives (f x y)) (ends divisor_fault)

operated_leaves : (types : Types) (o : Arithmetic) (t : TypeNo) (x y : ℤ) (st : State)
    → Leaves st (arithmetic_result types o t x y st)
operated_leaves types op.Add t x y st = base_leaves types t _ st
operated_leaves types op.Subtract t x y st = base_leaves types t _ st
operated_leaves types op.Multiply t x y st = base_leaves types t _ st
operated_leaves types op.Divide t x y st = divided_leaves quotient x y st
operated_leaves types op.Remainder t x y st = divided_leaves remainder x y st

ordinal_leaves : (v : ℤ) (st : State) → Leaves st (ordinal v st)
ordinal_leaves v st = if_leaves (int_lt v (pos 0)) (ends range_fault) (gives v)

-- ---- whether there are calls, one layer at a time

unfoldable passes : Argument → Bool
passes = fold-Argument Bool Bool Bool Bool Bool Bool argument_calls call_calls component_calls link_calls expr_calls
    place_calls

unfoldable called : Call → Bool
called = fold-Call Bool Bool Bool Bool Bool Bool argument_calls call_calls component_calls link_calls expr_calls
    place_calls

unfoldable calls_behind : Component → Bool
calls_behind = fold-Component Bool Bool Bool Bool Bool Bool argument_calls call_calls component_calls link_calls
    expr_calls place_calls

unfoldable calls_linked : Link → Bool
calls_linked = fold-Link Bool Bool Bool Bool Bool Bool argument_calls call_calls component_calls link_calls expr_calls
    place_calls

abbrev asks_component : Component-F Argument Call Component Link TypedExpr Place
    → Component-F Bool Bool Bool Bool Bool Bool
asks_component x = map-Component Argument Call Component Link TypedExpr Place Bool Bool Bool Bool Bool Bool passes
    called calls_behind calls_linked calls calls_at x

abbrev asks_link : Link-F Argument Call Component Link TypedExpr Place → Link-F Bool Bool Bool Bool Bool Bool
asks_link x = map-Link Argument Call Component Link TypedExpr Place Bool Bool Bool Bool Bool Bool passes called
    calls_behind calls_linked calls calls_at x

abbrev asks_place : Place-F Argument Call Component Link TypedExpr Place → Place-F Bool Bool Bool Bool Bool Bool
asks_place x = map-Place Argument Call Component Link TypedExpr Place Bool Bool Bool Bool Bool Bool passes called
    calls_behind calls_linked calls calls_at x

abbrev asks : TypedExpr-F Argument Call Component Link TypedExpr Place → TypedExpr-F Bool Bool Bool Bool Bool Bool
asks x = map-TypedExpr Argument Call Component Link TypedExpr Place Bool Bool Bool Bool Bool Bool passes called
    calls_behind calls_linked calls calls_at x

component_at : (e : Component) (x : Component-F Argument Call Component Link TypedExpr Place) → out-Component e ≡ x
    → calls_behind e ≡ component_calls (asks_component x)
unfolding calls calls_at calls_behind calls_linked passes called
component_at e x h = fold_out-Component Bool Bool Bool Bool Bool Bool argument_calls call_calls component_calls
    link_calls expr_calls place_calls e ∙ ap
    (λ (y : Component-F Argument Call Component Link TypedExpr Place). component_calls (asks_component y)) h

link_at : (e : Link) (x : Link-F Argument Call Component Link TypedExpr Place) → out-Link e ≡ x
    → calls_linked e ≡ link_calls (asks_link x)
unfolding calls calls_at calls_behind calls_linked passes called
link_at e x h = fold_out-Link Bool Bool Bool Bool Bool Bool argument_calls call_calls component_calls link_calls
    expr_calls place_calls e ∙ ap (λ (y : Link-F Argument Call Component Link TypedExpr Place). link_calls
    (asks_link y)) h

place_at : (e : Place) (x : Place-F Argument Call Component Link TypedExpr Place) → out-Place e ≡ x
    → calls_at e ≡ place_calls (asks_place x)
unfolding calls calls_at calls_behind calls_linked passes called
place_at e x h = fold_out-Place Bool Bool Bool Bool Bool Bool argument_calls call_calls component_calls link_calls
    expr_calls place_calls e ∙ ap (λ (y : Place-F Argument Call Component Link TypedExpr Place). place_calls
    (asks_place y)) h

expr_at : (e : TypedExpr) (x : TypedExpr-F Argument Call Component Link TypedExpr Place) → out-TypedExpr e ≡ x
    → calls e ≡ expr_calls (asks x)
unfolding calls calls_at calls_behind calls_linked passes called
expr_at e x h = fold_out-TypedExpr Bool Bool Bool Bool Bool Bool argument_calls call_calls component_calls link_calls
    expr_calls place_calls e ∙ ap (λ (y : TypedExpr-F Argument Call Component Link TypedExpr Place). expr_calls
    (asks y)) h

call_at : (c : Call) → called c ≡ true
unfolding calls calls_at calls_behind calls_linked passes called
call_at c = fold_out-Call Bool Bool Bool Bool Bool Bool argument_calls call_calls component_calls link_calls expr_calls
    place_calls c

-- ---- the induction

neither : (a b : Bool) → (a || b) ≡ false → (a ≡ false) × (b ≡ false)
neither true b h = cc h
neither false b h = (refl, h)

record GivesAlone {A : Type 0} (g : Gives A) : Type 0 where
  at : (a : Environment) (st : State) → Leaves st (g a st)

-- the same of what goes on from a value
record GoesAlone {A : Type 0} (f : A → Gives A) : Type 0 where
  from : (x : A) (a : Environment) (st : State) → Leaves st (f x a st)

one_leaves : {A X : Type 0} (f : X → A → Gives A) (c : X → Bool) (xs : List ((x : X) × (c x ≡ false → GoesAlone (f x))))
    → any_calls (map c (map (λ x. x.0) xs)) ≡ false
    → (v : A) (a : Environment) (st : State) → Leaves st (one_by_one (map f (map (λ x. x.0) xs)) v a st)
one_leaves f c [] h v a st = gives v
one_leaves f c (x ∷ xs) h v a st = let n = neither (c x.0) (any_calls (map c (map (λ x. x.0) xs))) h in
    then_leaves (λ w st. one_leaves f c xs n.1 w a st) ((x.1 n.0).from v a st)

module _ (p : Modules) (ask : Asks) where
  abbrev PA : Argument → Type 0
  PA x = Unit {0}

  abbrev PC : Call → Type 0
  PC c = Unit {0}

  abbrev PP : Place → Type 0
  PP d = calls_at d ≡ false → GivesAlone (locate p ask d)

  abbrev PE : TypedExpr → Type 0
  PE e = calls e ≡ false → GivesAlone (value p ask e)

  abbrev PK : Component → Type 0
  PK d = calls_behind d ≡ false → GoesAlone (reached p ask d)

  abbrev PL : Link → Type 0
  PL d = calls_linked d ≡ false → GoesAlone (continued p ask d)

  abbrev SK : Type 0
  SK = (d : Component) × PK d

  abbrev SL : Type 0
  SL = (d : Link) × PL d

  abbrev SA : Type 0
  SA = (x : Argument) × PA x

  abbrev SC : Type 0
  SC = (c : Call) × PC c

  abbrev SP : Type 0
  SP = (d : Place) × PP d

  abbrev SE : Type 0
  SE = (e : TypedExpr) × PE e

  abbrev bare_argument : Argument-F SA SC SK SL SE SP → Argument-F Argument Call Component Link TypedExpr Place
  bare_argument x = map-Argument SA SC SK SL SE SP Argument Call Component Link TypedExpr Place (λ e. e.0) (λ e. e.0)
      (λ e. e.0) (λ e. e.0) (λ e. e.0) (λ e. e.0) x

  abbrev bare_call : Call-F SA SC SK SL SE SP → Call-F Argument Call Component Link TypedExpr Place
  bare_call x = map-Call SA SC SK SL SE SP Argument Call Component Link TypedExpr Place (λ e. e.0) (λ e. e.0) (λ e. e.0)
      (λ e. e.0) (λ e. e.0) (λ e. e.0) x

  abbrev bare_place : Place-F SA SC SK SL SE SP → Place-F Argument Call Component Link TypedExpr Place
  bare_place x = map-Place SA SC SK SL SE SP Argument Call Component Link TypedExpr Place (λ e. e.0) (λ e. e.0)
      (λ e. e.0) (λ e. e.0) (λ e. e.0) (λ e. e.0) x

  abbrev bare : TypedExpr-F SA SC SK SL SE SP → TypedExpr-F Argument Call Component Link TypedExpr Place
  bare x = map-TypedExpr SA SC SK SL SE SP Argument Call Component Link TypedExpr Place (λ e. e.0) (λ e. e.0) (λ e. e.0)
      (λ e. e.0) (λ e. e.0) (λ e. e.0) x

  abbrev bare_component : Component-F SA SC SK SL SE SP → Component-F Argument Call Component Link TypedExpr Place
  bare_component x = map-Component SA SC SK SL SE SP Argument Call Component Link TypedExpr Place (λ e. e.0) (λ e. e.0)
      (λ e. e.0) (λ e. e.0) (λ e. e.0) (λ e. e.0) x

  abbrev bare_link : Link-F SA SC SK SL SE SP → Link-F Argument Call Component Link TypedExpr Place
  bare_link x = map-Link SA SC SK SL SE SP Argument Call Component Link TypedExpr Place (λ e. e.0) (λ e. e.0) (λ e. e.0)
      (λ e. e.0) (λ e. e.0) (λ e. e.0) x

  component_alone : (y : Component-F SA SC SK SL SE SP) → component_calls (asks_component (bare_component y)) ≡ false
      → GoesAlone (component_layer p ask (opened_component p ask (bare_component y)))
  component_alone (layer.Field t n) h = record { from = λ l a st. gives _ }
  component_alone (layer.Element t i) h =
      record { from = λ l a st. then_leaves (λ v st. indexed_leaves l (index_range a.types t) v st) ((i.1 h).at a st) }
  component_alone (layer.OpenElement slot t i) h =
      record {
        from = λ l a st. then_leaves (λ v st. element_leaves l (pos 0) (pos (high_of (slot_named a slot))) v st)
            ((i.1 h).at a st);
      }

  place_alone : (y : Place-F SA SC SK SL SE SP) → place_calls (asks_place (bare_place y)) ≡ false
      → GivesAlone (place_layer p ask (opened_place p ask (bare_place y)))
  place_alone y h = record {
    at = λ a st. one_leaves (reached p ask) calls_behind y.components h
        (root_layer p ask y.root a) a st;
  }

  link_alone : (y : Link-F SA SC SK SL SE SP) → link_calls (asks_link (bare_link y)) ≡ false
      → GoesAlone (link_layer p ask (opened_link p ask (bare_link y)))
  link_alone (layer.Arithmetic o t e) h =
      record { from = λ x a st. then_leaves (λ y st. operated_leaves a.types o t x y st) ((e.1 h).at a st) }
  link_alone (layer.And e) h = record { from = λ v a st. if_leaves (is_true v) ((e.1 h).at a st) (gives (truth false)) }
  link_alone (layer.Or e) h = record { from = λ v a st. if_leaves (is_true v) (gives (truth true)) ((e.1 h).at a st) }
  link_alone (layer.Combine o e) h = record {
    from =
        λ x a st. then_leaves (λ y st. gives (set_operation o x y)) ((e.1 h).at a st);
  }

  chain_alone : (e : SE) (ls : List SL) → (calls e.0 ≡ false)
      × (any_calls (map calls_linked (map (λ x. x.0) ls)) ≡ false)
      → GivesAlone (expr_layer p ask (opened p ask (bare (layer.Chain e ls))))
  chain_alone e ls n = record {
    at = λ a st. then_leaves
        (λ v st. one_leaves (continued p ask) calls_linked ls n.1 v a st) ((e.1 n.0).at a st);
  }

  unary : {g : Gives ℤ} (f : Environment → ℤ → State → Answer ℤ)
      → ((a : Environment) (v : ℤ) (st : State) → Leaves st (f a v st)) → GivesAlone g
      → GivesAlone (λ a st. g a st ▷ (f a))
  unary f h e = record { at = λ a st. then_leaves (λ v st. h a v st) (e.at a st) }

  two : {g g' : Gives ℤ} (f : Environment → ℤ → ℤ → State → Answer ℤ)
      → ((a : Environment) (v w : ℤ) (st : State) → Leaves st (f a v w st)) → GivesAlone g → GivesAlone g'
      → GivesAlone (λ a st. g a st ▷ λ v st. g' a st ▷ λ w st. f a v w st)
  two f h e e' = record { at = λ a st. then_leaves (λ v st. then_leaves (λ w st. h a v w st) (e'.at a st)) (e.at a st) }

  both : (e e' : SE) → (calls e.0 || calls e'.0) ≡ false → GivesAlone (value p ask e.0) × GivesAlone (value p ask e'.0)
  both e e' h = let n = neither (calls e.0) (calls e'.0) h in (e.1 n.0, e'.1 n.1)

  in_alone : (e e' : SE) → GivesAlone (value p ask e.0) × GivesAlone (value p ask e'.0)
      → GivesAlone (expr_layer p ask (opened p ask (bare (layer.In e e'))))
  in_alone e e' n = record {
    at = λ a st. then_leaves
        (λ x st. then_leaves (λ x st. then_leaves (λ s st. gives (truth (has s x))) (n.1.at a st))
        (within_leaves (pos 0) (pos 31) range_fault x st)) (n.0.at a st);
  }

  expr_alone : (y : TypedExpr-F SA SC SK SL SE SP) → expr_calls (asks (bare y)) ≡ false
      → GivesAlone (expr_layer p ask (opened p ask (bare y)))
  expr_alone (layer.Constant t n) h = record { at = λ a st. gives _ }
  expr_alone (layer.Load t d) h = record { at = λ a st. then_leaves (λ l st. gives (st.store l)) ((d.1 h).at a st) }
  expr_alone (layer.Procedure f) h = record { at = λ a st. gives _ }
  expr_alone (layer.Plus t e) h = e.1 h
  expr_alone (layer.Negate e) h = unary (λ a v st. in_base a.types integer (pos 0 -ℤ v) st)
      (λ a v st. base_leaves a.types integer (pos 0 -ℤ v) st) (e.1 h)
  expr_alone (layer.Chain e ls) h = chain_alone e ls
      (neither (calls e.0) (any_calls (map calls_linked (map (λ x. x.0) ls))) h)
  expr_alone (layer.Compare o e e') h = let n = both e e' h in
      two (λ a x y st. Value (truth (comparison_holds o x y)) st) (λ a x y st. gives _) n.0 n.1
  expr_alone (layer.Not e) h = record { at = λ a st. then_leaves (λ v st. gives _) ((e.1 h).at a st) }
  expr_alone (layer.Include o e e') h = let n = both e e' h in
      two (λ a x y st. Value (truth (inclusion_holds o x y)) st) (λ a x y st. gives _) n.0 n.1
  expr_alone (layer.In e e') h = in_alone e e' (both e e' h)
  expr_alone (layer.Abs t e) h = record {
    at =
        λ a st. then_leaves (λ v st. base_leaves a.types t (absolute v) st) ((e.1 h).at a st);
  }
  expr_alone (layer.Cap e) h = record { at = λ a st. then_leaves (λ v st. gives (capital v)) ((e.1 h).at a st) }
  expr_alone (layer.Chr e) h = record {
    at =
        λ a st. then_leaves (λ v st. within_leaves (pos 0) (pos 255) range_fault v st) ((e.1 h).at a st);
  }
  expr_alone (layer.Odd e) h = record { at = λ a st. then_leaves (λ v st. gives (truth (odd v))) ((e.1 h).at a st) }
  expr_alone (layer.Ord e) h = record { at = λ a st. then_leaves (λ v st. ordinal_leaves v st) ((e.1 h).at a st) }
  expr_alone (layer.Val t e) h = record {
    at =
        λ a st. then_leaves (λ v st. type_leaves a.types t v st) ((e.1 h).at a st);
  }
  expr_alone (layer.High slot) h = record { at = λ a st. gives _ }
  expr_alone (layer.Call t c) h = cc (sym (call_at c.0) ∙ h)

  step_argument : (x : Argument-F Argument Call Component Link TypedExpr Place) (y : Argument-F SA SC SK SL SE SP)
      → bare_argument y ≡ x → PA (roll-Argument x)
  step_argument x y q = tt

  step_call : (x : Call-F Argument Call Component Link TypedExpr Place) (y : Call-F SA SC SK SL SE SP) → bare_call y ≡ x
      → PC (roll-Call x)
  step_call x y q = tt

  step_component : (x : Component-F Argument Call Component Link TypedExpr Place) (y : Component-F SA SC SK SL SE SP)
      → bare_component y ≡ x → PK (roll-Component x)
  step_component x y q h =
      subst GoesAlone (sym (at_component p ask (roll-Component x) (bare_component y) (out-roll-Component x ∙ sym q)))
      (component_alone y (sym (component_at (roll-Component x) (bare_component y) (out-roll-Component x ∙ sym q)) ∙ h))

  step_link : (x : Link-F Argument Call Component Link TypedExpr Place) (y : Link-F SA SC SK SL SE SP) → bare_link y ≡ x
      → PL (roll-Link x)
  step_link x y q h =
      subst GoesAlone (sym (at_link p ask (roll-Link x) (bare_link y) (out-roll-Link x ∙ sym q)))
      (link_alone y (sym (link_at (roll-Link x) (bare_link y) (out-roll-Link x ∙ sym q)) ∙ h))

  step_place : (x : Place-F Argument Call Component Link TypedExpr Place) (y : Place-F SA SC SK SL SE SP)
      → bare_place y ≡ x → PP (roll-Place x)
  step_place x y q h =
      subst GivesAlone (sym (at_place p ask (roll-Place x) (bare_place y) (out-roll-Place x ∙ sym q)))
      (place_alone y (sym (place_at (roll-Place x) (bare_place y) (out-roll-Place x ∙ sym q)) ∙ h))

  step_expr : (x : TypedExpr-F Argument Call Component Link TypedExpr Place) (y : TypedExpr-F SA SC SK SL SE SP)
      → bare y ≡ x → PE (roll-TypedExpr x)
  step_expr x y q h =
      subst GivesAlone (sym (at_expr p ask (roll-TypedExpr x) (bare y) (out-roll-TypedExpr x ∙ sym q)))
      (expr_alone y (sym (expr_at (roll-TypedExpr x) (bare y) (out-roll-TypedExpr x ∙ sym q)) ∙ h))

  expr_is : (e : TypedExpr) → PE e
  expr_is = ind-TypedExpr PA PC PK PL PE PP step_argument step_call step_component step_link step_expr step_place

  place_is : (d : Place) → PP d
  place_is = ind-Place PA PC PK PL PE PP step_argument step_call step_component step_link step_expr step_place

pub changes_nothing : ChangesNothing
changes_nothing p ask e a st h = (expr_is p ask e h).at a st

pub finds_alone : FindsAlone
finds_alone p ask d a st h = (place_is p ask d h).at a st
