-- Expressions, designators, calls and arguments with one way to call, and with one that gives the same later.
use Rattle.std.proofs.Common.{◌≡◌, ℕ, ℤ, true, false, List, [], ◌∷◌, ◌++◌, map, Option, Some, None, sym, ap, subst, ◌∙◌}
use Rattle.std.specs.Prelude.{pos, ◌-ℤ◌, int_lt, slice_get, drop}
use Rattle.typed_tree.specs.declared.computed.Argument.{Argument, Argument-F, out-Argument, roll-Argument, out-roll-Argument, map-Argument, fold_out-Argument, fold-Argument}
use Rattle.typed_tree.specs.declared.computed.Argument.TheOpen as layer
use Rattle.typed_tree.specs.declared.computed.Call.{Call, Call-F, out-Call, roll-Call, out-roll-Call, map-Call, fold_out-Call, ind-Call}
use Rattle.typed_tree.specs.declared.computed.Component.{Component, Component-F, out-Component, roll-Component, out-roll-Component, map-Component, fold_out-Component, fold-Component}
use Rattle.typed_tree.specs.declared.computed.Link.{Link, Link-F, out-Link, roll-Link, out-roll-Link, map-Link, fold_out-Link, fold-Link}
use Rattle.typed_tree.specs.declared.computed.Place.{Place, Place-F, out-Place, roll-Place, out-roll-Place, map-Place, fold_out-Place, ind-Place}
use Rattle.typed_tree.specs.declared.computed.TypedExpr.{TypedExpr, TypedExpr-F, out-TypedExpr, roll-TypedExpr, out-roll-TypedExpr, map-TypedExpr, fold_out-TypedExpr, ind-TypedExpr}
use Rattle.typed_tree.specs.declared.computed.Arithmetic.{Arithmetic}
use Rattle.typed_tree.specs.declared.computed.Arithmetic.TheVariants as op
use Rattle.typed_tree.specs.declared.types.TypeNo.{TypeNo}
use Rattle.typed_tree.specs.declared.shape.Scalar.{Scalar as Range}
use Rattle.typed_tree.specs.declared.known_types.Types.{Types}
use Rattle.typed_tree.specs.Types.{integer}
use Rattle.typed_tree.specs.Known.{scalar_at}
use Rattle.def_meaning.specs.Store.{Location}
use Rattle.def_meaning.specs.Answer.{State, Answer, ◌▷◌, range_fault, overflow, divisor_fault, index_fault, empty_procedure}
use Rattle.def_meaning.specs.Operators.{is_between, truth, is_true, comparison_holds, set_operation, inclusion_holds, has, absolute, capital, odd, quotient, remainder}
use Rattle.def_meaning.specs.Environment.{Modules, Environment, Callee, Passed, Number, Variable, Array, module_place, entry_of, entry_callee, module_callee, nested_in, slot_named, high_of}
use Rattle.def_meaning.specs.Expressions.{Asks, Gives, Reaches, Continues, one_by_one, within, within_range, as_type, in_base, index_range, high_index, element, element_in, division_by, arithmetic_result, ordinal, all_given, call_with, asked_if, argument_layer, call_layer, root_layer, component_layer, link_layer, expr_layer, place_layer, value, locate, call_value}
use Rattle.def_meaning.proofs.After.{Later, then_later, if_later, gave, ended}

-- ---- checks and operations

pub within_later : (low high : ℤ) (k : ℕ) (v : ℤ) (st : State)
    → Later st.out (within low high k v st) (within low high k v st)
within_later low high k v st = if_later (is_between low v high) (gave v st) (ended k st.out)

range_later : (o : Option Range) (k : ℕ) (v : ℤ) (st : State)
    → Later st.out (within_range o k v st) (within_range o k v st)
range_later None k v st = gave v st
range_later (Some s) k v st = within_later s.low s.high k v st

pub type_later : (types : Types) (t : TypeNo) (v : ℤ) (st : State)
    → Later st.out (as_type types t v st) (as_type types t v st)
type_later types t v st = range_later (scalar_at types t) range_fault v st

pub base_later : (types : Types) (t : TypeNo) (v : ℤ) (st : State)
    → Later st.out (in_base types t v st) (in_base types t v st)
base_later types t v st = range_later (scalar_at types t) overflow v st

element_later : (l : Location) (low high i : ℤ) (st : State)
    → Later st.out (element l low high i st) (element l low high i st)
element_later l low high i st = if_later (is_between low i high) (gave _ st) (ended index_fault st.out)

indexed_later : (l : Location) (o : Option Range) (i : ℤ) (st : State)
    → Later st.out (element_in l o i st) (element_in l o i st)
indexed_later l None i st = ended index_fault st.out
indexed_later l (Some s) i st = element_later l s.low s.high i st

divided_later : (f : ℤ → ℤ → ℤ) (x y : ℤ) (st : State) → Later st.out (division_by f x y st) (division_by f x y st)
divided_later f x y st = if_later (int_lt (pos 0) y) (gave (f x y) st) (ended divisor_fault st.out)

operated_later : (types : Types) (o : Arithmetic) (t : TypeNo) (x y : ℤ) (st : State)
    → Later st.out (arithmetic_result types o t x y st) (arithmetic_result types o t x y st)
operated_later types op.Add t x y st = base_later types t _ st
operated_later types op.Subtract t x y st = base_later types t _ st
operated_later types op.Multiply t x y st = base_later types t _ st
operated_later types op.Divide t x y st = divided_later quotient x y st
operated_later types op.Remainder t x y st = divided_later remainder x y st

ordinal_later : (v : ℤ) (st : State) → Later st.out (ordinal v st) (ordinal v st)
ordinal_later v st = if_later (int_lt v (pos 0)) (ended range_fault st.out) (gave v st)

-- ---- what is known of a way to call, and of a part

pub record AsksLater (ask ask' : Asks) : Type 0 where
  pub at : (c : Option Callee) (vs : List Passed) (next left : ℕ) (st : State)
      → Later st.out (ask c vs next left st) (ask' c vs next left st)

pub record GivesLater {A : Type 0} (g g' : Gives A) : Type 0 where
  pub at : (a : Environment) (st : State) → Later st.out (g a st) (g' a st)

-- the same of what goes on from a value
pub record GoesLater {A : Type 0} (f f' : A → Gives A) : Type 0 where
  pub from : (x : A) (a : Environment) (st : State) → Later st.out (f x a st) (f' x a st)

pub data Pairwise {A B : Type 0} (R : A → B → Type 0) : List A → List B → Type 0 where
  none : Pairwise R [] []
  more : {a : A} {b : B} {xs : List A} {ys : List B} → R a b → Pairwise R xs ys → Pairwise R (a ∷ xs) (b ∷ ys)

pub pairwise_maps : {X Y A B : Type 0} (R : A → B → Type 0) (h : X → Y) (f : Y → A) (g : Y → B)
    → ((x : X) → R (f (h x)) (g (h x))) → (xs : List X) → Pairwise R (map f (map h xs)) (map g (map h xs))
pairwise_maps R h f g p [] = none
pairwise_maps R h f g p (x ∷ xs) = more (p x) (pairwise_maps R h f g p xs)

-- what holds of two holds of what is equal to these
pub carry : {A B : Type 0} (R : A → B → Type 0) {a a' : A} {b b' : B} → a ≡ a' → b ≡ b' → R a' b' → R a b
carry R {a = a} {b' = b'} p q r = subst (R a) (sym q) (subst (λ x. R x b') (sym p) r)

one_later : {A : Type 0} {fs fs' : List (A → Gives A)} → Pairwise GoesLater fs fs'
    → (x : A) (a : Environment) (st : State) → Later st.out (one_by_one fs x a st) (one_by_one fs' x a st)
one_later none x a st = gave x st
one_later (more f fs) x a st = then_later (λ y st. one_later fs y a st) (f.from x a st)

-- ---- one layer at a time

module _ (p : Modules) (ask : Asks) where
  unfoldable pub given : Argument → Gives Passed
  given = fold-Argument (Gives Passed) (Gives ℤ) Reaches Continues (Gives ℤ) (Gives Location) (argument_layer p ask)
      (call_layer p ask) (component_layer p ask) (link_layer p ask) (expr_layer p ask) (place_layer p ask)

  unfoldable pub reached : Component → Reaches
  reached = fold-Component (Gives Passed) (Gives ℤ) Reaches Continues (Gives ℤ) (Gives Location) (argument_layer p ask)
      (call_layer p ask) (component_layer p ask) (link_layer p ask) (expr_layer p ask) (place_layer p ask)

  unfoldable pub continued : Link → Continues
  continued = fold-Link (Gives Passed) (Gives ℤ) Reaches Continues (Gives ℤ) (Gives Location) (argument_layer p ask)
      (call_layer p ask) (component_layer p ask) (link_layer p ask) (expr_layer p ask) (place_layer p ask)

  abbrev pub opened_argument : Argument-F Argument Call Component Link TypedExpr Place
      → Argument-F (Gives Passed) (Gives ℤ) Reaches Continues (Gives ℤ) (Gives Location)
  opened_argument x = map-Argument Argument Call Component Link TypedExpr Place (Gives Passed) (Gives ℤ) Reaches
      Continues (Gives ℤ) (Gives Location) given (call_value p ask) reached continued (value p ask) (locate p ask) x

  abbrev pub opened_call : Call-F Argument Call Component Link TypedExpr Place
      → Call-F (Gives Passed) (Gives ℤ) Reaches Continues (Gives ℤ) (Gives Location)
  opened_call x = map-Call Argument Call Component Link TypedExpr Place (Gives Passed) (Gives ℤ) Reaches Continues
      (Gives ℤ) (Gives Location) given (call_value p ask) reached continued (value p ask) (locate p ask) x

  abbrev pub opened_place : Place-F Argument Call Component Link TypedExpr Place
      → Place-F (Gives Passed) (Gives ℤ) Reaches Continues (Gives ℤ) (Gives Location)
  opened_place x = map-Place Argument Call Component Link TypedExpr Place (Gives Passed) (Gives ℤ) Reaches Continues
      (Gives ℤ) (Gives Location) given (call_value p ask) reached continued (value p ask) (locate p ask) x

  abbrev pub opened : TypedExpr-F Argument Call Component Link TypedExpr Place
      → TypedExpr-F (Gives Passed) (Gives ℤ) Reaches Continues (Gives ℤ) (Gives Location)
  opened x = map-TypedExpr Argument Call Component Link TypedExpr Place (Gives Passed) (Gives ℤ) Reaches Continues
      (Gives ℤ) (Gives Location) given (call_value p ask) reached continued (value p ask) (locate p ask) x

  abbrev pub opened_component : Component-F Argument Call Component Link TypedExpr Place
      → Component-F (Gives Passed) (Gives ℤ) Reaches Continues (Gives ℤ) (Gives Location)
  opened_component x = map-Component Argument Call Component Link TypedExpr Place (Gives Passed) (Gives ℤ) Reaches
      Continues (Gives ℤ) (Gives Location) given (call_value p ask) reached continued (value p ask) (locate p ask) x

  abbrev pub opened_link : Link-F Argument Call Component Link TypedExpr Place
      → Link-F (Gives Passed) (Gives ℤ) Reaches Continues (Gives ℤ) (Gives Location)
  opened_link x = map-Link Argument Call Component Link TypedExpr Place (Gives Passed) (Gives ℤ) Reaches Continues
      (Gives ℤ) (Gives Location) given (call_value p ask) reached continued (value p ask) (locate p ask) x

  pub at_component : (e : Component) (x : Component-F Argument Call Component Link TypedExpr Place)
      → out-Component e ≡ x → reached e ≡ component_layer p ask (opened_component x)
  unfolding value locate call_value given reached continued
  at_component e x h = fold_out-Component (Gives Passed) (Gives ℤ) Reaches Continues (Gives ℤ) (Gives Location)
      (argument_layer p ask) (call_layer p ask) (component_layer p ask) (link_layer p ask) (expr_layer p ask)
      (place_layer p ask) e ∙ ap (λ (y : Component-F Argument Call Component Link TypedExpr Place). component_layer p
      ask (opened_component y)) h

  pub at_link : (e : Link) (x : Link-F Argument Call Component Link TypedExpr Place) → out-Link e ≡ x
      → continued e ≡ link_layer p ask (opened_link x)
  unfolding value locate call_value given reached continued
  at_link e x h = fold_out-Link (Gives Passed) (Gives ℤ) Reaches Continues (Gives ℤ) (Gives Location)
      (argument_layer p ask) (call_layer p ask) (component_layer p ask) (link_layer p ask) (expr_layer p ask)
      (place_layer p ask) e ∙ ap (λ (y : Link-F Argument Call Component Link TypedExpr Place). link_layer p ask
      (opened_link y)) h

  pub at_argument : (e : Argument) (x : Argument-F Argument Call Component Link TypedExpr Place) → out-Argument e ≡ x
      → given e ≡ argument_layer p ask (opened_argument x)
  unfolding value locate call_value given reached continued
  at_argument e x h = fold_out-Argument (Gives Passed) (Gives ℤ) Reaches Continues (Gives ℤ) (Gives Location)
      (argument_layer p ask) (call_layer p ask) (component_layer p ask) (link_layer p ask) (expr_layer p ask)
      (place_layer p ask) e ∙ ap (λ (y : Argument-F Argument Call Component Link TypedExpr Place). argument_layer p ask
      (opened_argument y)) h

  pub at_call : (e : Call) (x : Call-F Argument Call Component Link TypedExpr Place) → out-Call e ≡ x
      → call_value p ask e ≡ call_layer p ask (opened_call x)
  unfolding value locate call_value given reached continued
  at_call e x h = fold_out-Call (Gives Passed) (Gives ℤ) Reaches Continues (Gives ℤ) (Gives Location)
      (argument_layer p ask) (call_layer p ask) (component_layer p ask) (link_layer p ask) (expr_layer p ask)
      (place_layer p ask) e ∙ ap (λ (y : Call-F Argument Call Component Link TypedExpr Place). call_layer p ask
      (opened_call y)) h

  pub at_place : (e : Place) (x : Place-F Argument Call Component Link TypedExpr Place) → out-Place e ≡ x
      → locate p ask e ≡ place_layer p ask (opened_place x)
  unfolding value locate call_value given reached continued
  at_place e x h = fold_out-Place (Gives Passed) (Gives ℤ) Reaches Continues (Gives ℤ) (Gives Location)
      (argument_layer p ask) (call_layer p ask) (component_layer p ask) (link_layer p ask) (expr_layer p ask)
      (place_layer p ask) e ∙ ap (λ (y : Place-F Argument Call Component Link TypedExpr Place). place_layer p ask
      (opened_place y)) h

  pub at_expr : (e : TypedExpr) (x : TypedExpr-F Argument Call Component Link TypedExpr Place) → out-TypedExpr e ≡ x
      → value p ask e ≡ expr_layer p ask (opened x)
  unfolding value locate call_value given reached continued
  at_expr e x h = fold_out-TypedExpr (Gives Passed) (Gives ℤ) Reaches Continues (Gives ℤ) (Gives Location)
      (argument_layer p ask) (call_layer p ask) (component_layer p ask) (link_layer p ask) (expr_layer p ask)
      (place_layer p ask) e ∙ ap (λ (y : TypedExpr-F Argument Call Component Link TypedExpr Place). expr_layer p ask
      (opened y)) h

module _ (p : Modules) (ask ask' : Asks) (k : AsksLater ask ask') where
  -- ---- calls

  given_later : {xs ys : List (Gives Passed)} → Pairwise GivesLater xs ys → (a : Environment) (st : State)
      → Later st.out (all_given p ask xs a st) (all_given p ask' ys a st)
  given_later none a st = gave [] st
  given_later (more x xs) a st = then_later (λ v st. then_later (λ vs st. gave (v ∷ vs) st) (given_later xs a st))
      (x.at a st)

  asked_later : (c : Option Callee) {xs ys : List (Gives Passed)} → Pairwise GivesLater xs ys
      → (a : Environment) (st : State) → Later st.out (call_with p ask c xs a st) (call_with p ask' c ys a st)
  asked_later c xs a st = then_later (λ vs st. k.at c vs a.next a.free st) (given_later xs a st)

  asked_if_later : (c : Option Callee) {xs ys : List (Gives Passed)} → Pairwise GivesLater xs ys
      → (a : Environment) (st : State) → Later st.out (asked_if p ask c xs a st) (asked_if p ask' c ys a st)
  asked_if_later None xs a st = ended empty_procedure st.out
  asked_if_later (Some c) xs a st = asked_later (Some c) xs a st

  -- ---- layers

  abbrev VE : TypedExpr → Type 0
  VE e = GivesLater (value p ask e) (value p ask' e)

  abbrev VP : Place → Type 0
  VP d = GivesLater (locate p ask d) (locate p ask' d)

  abbrev VC : Call → Type 0
  VC c = GivesLater (call_value p ask c) (call_value p ask' c)

  abbrev VA : Argument → Type 0
  VA x = GivesLater (given p ask x) (given p ask' x)

  abbrev VK : Component → Type 0
  VK d = GoesLater (reached p ask d) (reached p ask' d)

  abbrev VL : Link → Type 0
  VL d = GoesLater (continued p ask d) (continued p ask' d)

  abbrev SK : Type 0
  SK = (d : Component) × VK d

  abbrev SL : Type 0
  SL = (d : Link) × VL d

  abbrev SA : Type 0
  SA = (x : Argument) × VA x

  abbrev SC : Type 0
  SC = (c : Call) × VC c

  abbrev SP : Type 0
  SP = (d : Place) × VP d

  abbrev SE : Type 0
  SE = (e : TypedExpr) × VE e

  abbrev bare_argument : Argument-F SA SC SK SL SE SP → Argument-F Argument Call Component Link TypedExpr Place
  bare_argument x = map-Argument SA SC SK SL SE SP Argument Call Component Link TypedExpr Place (λ e. e.0) (λ e. e.0)
      (λ e. e.0) (λ e. e.0) (λ e. e.0) (λ e. e.0) x

  abbrev bare_call : Call-F SA SC SK SL SE SP → Call-F Argument Call Component Link TypedExpr Place
  bare_call x = map-Call SA SC SK SL SE SP Argument Call Component Link TypedExpr Place (λ e. e.0) (λ e. e.0) (λ e. e.0)
      (λ e. e.0) (λ e. e.0) (λ e. e.0) x

  abbrev bare_place : Place-F SA SC SK SL SE SP → Place-F Argument Call Component Link TypedExpr Place
  bare_place x = map-Place SA SC SK SL SE SP Argument Call Component Link TypedExpr Place (λ e. e.0) (λ e. e.0)
      (λ e. e.0) (λ e. e.0) (λ e. e.0) (λ e. e.0) x

  abbrev bare : TypedExpr-F SA SC SK SL SE SP → TypedExpr-F Argument Call Component Link TypedExpr Place
  bare x = map-TypedExpr SA SC SK SL SE SP Argument Call Component Link TypedExpr Place (λ e. e.0) (λ e. e.0) (λ e. e.0)
      (λ e. e.0) (λ e. e.0) (λ e. e.0) x

  abbrev bare_component : Component-F SA SC SK SL SE SP → Component-F Argument Call Component Link TypedExpr Place
  bare_component x = map-Component SA SC SK SL SE SP Argument Call Component Link TypedExpr Place (λ e. e.0) (λ e. e.0)
      (λ e. e.0) (λ e. e.0) (λ e. e.0) (λ e. e.0) x

  abbrev bare_link : Link-F SA SC SK SL SE SP → Link-F Argument Call Component Link TypedExpr Place
  bare_link x = map-Link SA SC SK SL SE SP Argument Call Component Link TypedExpr Place (λ e. e.0) (λ e. e.0) (λ e. e.0)
      (λ e. e.0) (λ e. e.0) (λ e. e.0) x

  arguments : (xs : List SA) → Pairwise GivesLater (map (given p ask) (map (λ x. x.0) xs))
      (map (given p ask') (map (λ x. x.0) xs))
  arguments xs = pairwise_maps {X = SA} {Y = Argument} GivesLater (λ x. x.0) (given p ask) (given p ask') (λ x. x.1) xs

  argument_later : (y : Argument-F SA SC SK SL SE SP)
      → GivesLater (argument_layer p ask (opened_argument p ask (bare_argument y)))
      (argument_layer p ask' (opened_argument p ask' (bare_argument y)))
  argument_later (layer.Value t e) = record {
    at =
        λ a st. then_later (λ v st. then_later (λ v st. gave (Number v) st) (type_later a.types t v st)) (e.1.at a st);
  }
  argument_later (layer.Place d) = record { at = λ a st. then_later (λ l st. gave (Variable l) st) (d.1.at a st) }
  argument_later (layer.Array t d) = record {
    at =
        λ a st. then_later (λ l st. gave (Array l (high_index a.types t)) st) (d.1.at a st);
  }
  argument_later (layer.Open slot) = record { at = λ a st. gave _ st }
  argument_later (layer.Text text) = record { at = λ a st. gave _ st }

  call_later : (y : Call-F SA SC SK SL SE SP)
      → GivesLater (call_layer p ask (opened_call p ask (bare_call y)))
      (call_layer p ask' (opened_call p ask' (bare_call y)))
  call_later (layer.Module f args) = record {
    at =
        λ a st. asked_later (module_callee p (module_place p f.home) f.number) (arguments args) a st;
  }
  call_later (layer.Nested f args) = record {
    at =
        λ a st. asked_later (nested_in a.place (slice_get p a.place) (drop f.up a.frames) f.number) (arguments args) a
        st;
  }
  call_later (layer.Variable t d args) = record {
    at =
        λ a st. then_later (λ l st. asked_if_later (entry_callee p (entry_of p (st.store l))) (arguments args) a st)
        (d.1.at a st);
  }

  component_later : (y : Component-F SA SC SK SL SE SP)
      → GoesLater (component_layer p ask (opened_component p ask (bare_component y)))
      (component_layer p ask' (opened_component p ask' (bare_component y)))
  component_later (layer.Field t n) = record { from = λ l a st. gave (l ++ n ∷ []) st }
  component_later (layer.Element t i) = record {
    from =
        λ l a st. then_later (λ v st. indexed_later l (index_range a.types t) v st) (i.1.at a st);
  }
  component_later (layer.OpenElement slot t i) =
      record {
        from = λ l a st. then_later (λ v st. element_later l (pos 0) (pos (high_of (slot_named a slot))) v st)
            (i.1.at a st);
      }

  components : (xs : List SK) → Pairwise GoesLater (map (reached p ask) (map (λ x. x.0) xs))
      (map (reached p ask') (map (λ x. x.0) xs))
  components xs = pairwise_maps {X = SK} {Y = Component} GoesLater (λ x. x.0) (reached p ask) (reached p ask')
      (λ x. x.1) xs

  place_later : (y : Place-F SA SC SK SL SE SP)
      → GivesLater (place_layer p ask (opened_place p ask (bare_place y)))
      (place_layer p ask' (opened_place p ask' (bare_place y)))
  place_later y = record { at = λ a st. one_later (components y.components) (root_layer p ask y.root a) a st }

  link_later : (y : Link-F SA SC SK SL SE SP)
      → GoesLater (link_layer p ask (opened_link p ask (bare_link y)))
      (link_layer p ask' (opened_link p ask' (bare_link y)))
  link_later (layer.Arithmetic o t e) = record {
    from =
        λ x a st. then_later (λ y st. operated_later a.types o t x y st) (e.1.at a st);
  }
  link_later (layer.And e) = record { from = λ v a st. if_later (is_true v) (e.1.at a st) (gave (truth false) st) }
  link_later (layer.Or e) = record { from = λ v a st. if_later (is_true v) (gave (truth true) st) (e.1.at a st) }
  link_later (layer.Combine o e) = record {
    from =
        λ x a st. then_later (λ y st. gave (set_operation o x y) st) (e.1.at a st);
  }

  links : (xs : List SL) → Pairwise GoesLater (map (continued p ask) (map (λ x. x.0) xs))
      (map (continued p ask') (map (λ x. x.0) xs))
  links xs = pairwise_maps {X = SL} {Y = Link} GoesLater (λ x. x.0) (continued p ask) (continued p ask') (λ x. x.1) xs

  unary_later : {A : Type 0} {g g' : Gives ℤ} (f : ℤ → State → Answer A)
      → ((v : ℤ) (st : State) → Later st.out (f v st) (f v st)) → GivesLater g g' → (a : Environment) (st : State)
      → Later st.out (g a st ▷ f) (g' a st ▷ f)
  unary_later f h e a st = then_later h (e.at a st)

  binary_later : {g g' x x' : Gives ℤ} (f : ℤ → ℤ → State → Answer ℤ)
      → ((v w : ℤ) (st : State) → Later st.out (f v w st) (f v w st)) → GivesLater g g' → GivesLater x x'
      → (a : Environment) (st : State)
      → Later st.out (g a st ▷ λ v st. x a st ▷ λ w st. f v w st) (g' a st ▷ λ v st. x' a st ▷ λ w st. f v w st)
  binary_later f h e e' a st = then_later (λ v st. then_later (λ w st. h v w st) (e'.at a st)) (e.at a st)

  expr_later : (y : TypedExpr-F SA SC SK SL SE SP)
      → GivesLater (expr_layer p ask (opened p ask (bare y))) (expr_layer p ask' (opened p ask' (bare y)))
  expr_later (layer.Constant t n) = record { at = λ a st. gave _ st }
  expr_later (layer.Load t d) = record { at = λ a st. then_later (λ l st. gave (st.store l) st) (d.1.at a st) }
  expr_later (layer.Procedure f) = record { at = λ a st. gave _ st }
  expr_later (layer.Plus t e) = e.1
  expr_later (layer.Negate e) = record {
    at =
        λ a st. then_later (λ v st. base_later a.types integer (pos 0 -ℤ v) st) (e.1.at a st);
  }
  expr_later (layer.Chain e ls) = record { at = λ a st. then_later (λ v st. one_later (links ls) v a st) (e.1.at a st) }
  expr_later (layer.Compare o e e') = record {
    at =
        λ a st. binary_later _ (λ x y st. gave (truth (comparison_holds o x y)) st) e.1 e'.1 a st;
  }
  expr_later (layer.Not e) = record { at = λ a st. then_later (λ v st. gave _ st) (e.1.at a st) }
  expr_later (layer.Include o e e') = record {
    at =
        λ a st. binary_later _ (λ x y st. gave (truth (inclusion_holds o x y)) st) e.1 e'.1 a st;
  }
  expr_later (layer.In e e') = record {
    at =
        λ a st. then_later (λ x st. then_later (λ x st. then_later (λ s st. gave (truth (has s x)) st) (e'.1.at a st))
        (within_later (pos 0) (pos 31) range_fault x st)) (e.1.at a st);
  }
  expr_later (layer.Abs t e) = record {
    at =
        λ a st. then_later (λ v st. base_later a.types t (absolute v) st) (e.1.at a st);
  }
  expr_later (layer.Cap e) = record { at = λ a st. then_later (λ v st. gave (capital v) st) (e.1.at a st) }
  expr_later (layer.Chr e) = record {
    at =
        λ a st. then_later (λ v st. within_later (pos 0) (pos 255) range_fault v st) (e.1.at a st);
  }
  expr_later (layer.Odd e) = record { at = λ a st. then_later (λ v st. gave (truth (odd v)) st) (e.1.at a st) }
  expr_later (layer.Ord e) = record { at = λ a st. then_later ordinal_later (e.1.at a st) }
  expr_later (layer.Val t e) = record { at = λ a st. then_later (type_later a.types t) (e.1.at a st) }
  expr_later (layer.High slot) = record { at = λ a st. gave _ st }
  expr_later (layer.Call t c) = c.1

  -- ---- the induction

  step_argument : (x : Argument-F Argument Call Component Link TypedExpr Place) (y : Argument-F SA SC SK SL SE SP)
      → bare_argument y ≡ x → VA (roll-Argument x)
  step_argument x y q = carry GivesLater (at_argument p ask (roll-Argument x) (bare_argument y)
      (out-roll-Argument x ∙ sym q)) (at_argument p ask' (roll-Argument x) (bare_argument y)
      (out-roll-Argument x ∙ sym q)) (argument_later y)

  step_call : (x : Call-F Argument Call Component Link TypedExpr Place) (y : Call-F SA SC SK SL SE SP) → bare_call y ≡ x
      → VC (roll-Call x)
  step_call x y q = carry GivesLater (at_call p ask (roll-Call x) (bare_call y) (out-roll-Call x ∙ sym q))
      (at_call p ask' (roll-Call x) (bare_call y) (out-roll-Call x ∙ sym q)) (call_later y)

  step_component : (x : Component-F Argument Call Component Link TypedExpr Place) (y : Component-F SA SC SK SL SE SP)
      → bare_component y ≡ x → VK (roll-Component x)
  step_component x y q = carry GoesLater (at_component p ask (roll-Component x) (bare_component y)
      (out-roll-Component x ∙ sym q)) (at_component p ask' (roll-Component x) (bare_component y)
      (out-roll-Component x ∙ sym q)) (component_later y)

  step_link : (x : Link-F Argument Call Component Link TypedExpr Place) (y : Link-F SA SC SK SL SE SP) → bare_link y ≡ x
      → VL (roll-Link x)
  step_link x y q = carry GoesLater (at_link p ask (roll-Link x) (bare_link y) (out-roll-Link x ∙ sym q))
      (at_link p ask' (roll-Link x) (bare_link y) (out-roll-Link x ∙ sym q)) (link_later y)

  step_place : (x : Place-F Argument Call Component Link TypedExpr Place) (y : Place-F SA SC SK SL SE SP)
      → bare_place y ≡ x → VP (roll-Place x)
  step_place x y q = carry GivesLater (at_place p ask (roll-Place x) (bare_place y) (out-roll-Place x ∙ sym q))
      (at_place p ask' (roll-Place x) (bare_place y) (out-roll-Place x ∙ sym q)) (place_later y)

  step_expr : (x : TypedExpr-F Argument Call Component Link TypedExpr Place) (y : TypedExpr-F SA SC SK SL SE SP)
      → bare y ≡ x → VE (roll-TypedExpr x)
  step_expr x y q = carry GivesLater (at_expr p ask (roll-TypedExpr x) (bare y) (out-roll-TypedExpr x ∙ sym q))
      (at_expr p ask' (roll-TypedExpr x) (bare y) (out-roll-TypedExpr x ∙ sym q)) (expr_later y)

  pub value_later : (e : TypedExpr) → GivesLater (value p ask e) (value p ask' e)
  value_later = ind-TypedExpr VA VC VK VL VE VP step_argument step_call step_component step_link step_expr step_place

  pub locate_later : (d : Place) → GivesLater (locate p ask d) (locate p ask' d)
  locate_later = ind-Place VA VC VK VL VE VP step_argument step_call step_component step_link step_expr step_place

  pub called_later : (c : Call) → GivesLater (call_value p ask c) (call_value p ask' c)
  called_later = ind-Call VA VC VK VL VE VP step_argument step_call step_component step_link step_expr step_place
