-- What each part of a program does in its surroundings, from what its own parts do.
use Rattle.std.proofs.Common.{◌≡◌, ℕ, suc, ℤ, pos, true, false, List, [], ◌∷◌, ◌++◌, map, Option, Some, None, refl, ap, ◌∙◌}
use Rattle.std.proofs.Math.Path.{fun_ext}
use Rattle.std.specs.Prelude.{◌-ℤ◌, not, drop, slice_get, if◌then◌else◌}
use Rattle.typed_tree.specs.declared.types.TypeNo.{TypeNo}
use Rattle.typed_tree.specs.declared.meaning.Procedure.{Procedure}
use Rattle.typed_tree.specs.declared.computed.Slot.{Slot}
use Rattle.typed_tree.specs.declared.computed.LocalProcedure.{LocalProcedure}
use Rattle.typed_tree.specs.declared.computed.Arithmetic.{Arithmetic}
use Rattle.typed_tree.specs.declared.computed.Comparison.{Comparison}
use Rattle.typed_tree.specs.declared.computed.SetOperator.{SetOperator}
use Rattle.typed_tree.specs.declared.computed.Inclusion.{Inclusion}
use Rattle.typed_tree.specs.declared.computed.TypedExpr.{TypedExpr, TypedExpr-F, out-TypedExpr, map-TypedExpr, fold_out-TypedExpr}
use Rattle.typed_tree.specs.declared.computed.TypedExpr.TheVariants as ev
use Rattle.typed_tree.specs.declared.computed.Component.{Component, Component-F, out-Component, map-Component, fold_out-Component}
use Rattle.typed_tree.specs.declared.computed.Component.TheVariants as kv
use Rattle.typed_tree.specs.declared.computed.Link.{Link, Link-F, out-Link, map-Link, fold_out-Link}
use Rattle.typed_tree.specs.declared.computed.Link.TheVariants as lv
use Rattle.typed_tree.specs.declared.computed.Place.{Place, fold_out-Place}
use Rattle.typed_tree.specs.declared.computed.Call.{Call, Call-F, out-Call, map-Call, fold_out-Call}
use Rattle.typed_tree.specs.declared.computed.Call.TheVariants as cv
use Rattle.typed_tree.specs.declared.computed.Argument.{Argument, Argument-F, out-Argument, map-Argument, fold_out-Argument}
use Rattle.typed_tree.specs.declared.computed.Argument.TheOpen as layer
use Rattle.typed_tree.specs.declared.computed.Argument.TheVariants as xv
use Rattle.typed_tree.specs.Types.{integer}
use Rattle.def_meaning.specs.Store.{Location}
use Rattle.def_meaning.specs.Answer.{State as Meant, Answer as Given, Value, Ended, StillRunning, ◌▷◌, range_fault, empty_procedure}
use Rattle.def_meaning.specs.Operators.{truth, is_true, comparison_holds, set_operation, inclusion_holds, absolute, capital, odd}
use Rattle.def_meaning.specs.Environment.{Modules, Callee as Asked, Passed as Sent, Number, Variable, Array, Text, module_place, procedure_value, entry_of, entry_callee, module_callee, nested_in, slot_named, location_of, high_of}
use Rattle.def_meaning.specs.Expressions.{Asks, Gives, Reaches, Continues, asked_if, argument_layer, call_layer, component_layer, link_layer, expr_layer, place_layer, root_layer, value, locate, call_value, within, as_type, in_base, ordinal, index_range, high_index, element, element_in}
use Rattle.def_meaning.specs.Calls.{calling, runs}
use Rattle.plain_store.specs.declared.state.State.{State}
use Rattle.plain_store.specs.declared.state.Stop.{Stop}
use Rattle.plain_values.specs.declared.checks.Operands.{Operands}
use Rattle.plain_values.specs.declared.program.Around.{Around}
use Rattle.plain_values.specs.declared.program.Callee.{Callee}
use Rattle.std.specs.Option.{option_map}
use Rattle.plain_values.specs.Operated.{operated_on}
use Rattle.plain_store.specs.Seen.{stop_meaning}
use Rattle.plain_values.specs.Surroundings.{modules_of, asks_of, surroundings, callee_of, link_value, component_value, argument_value, value_in, located_in, called_in, linked_in, links_in, reached_in, components_in, given_in, all_given_in}
use Rattle.plain_steps.specs.Parts.{pair_in, in_in, asked_in, asked_if_in}
use Rattle.plain_store.proofs.Threads.{gave, stays}

abbrev opened_expr : Modules → Asks → TypedExpr-F Argument Call Component Link TypedExpr Place
    → TypedExpr-F (Gives Sent) (Gives ℤ) Reaches Continues (Gives ℤ) (Gives Location)
opened_expr p ask x = map-TypedExpr Argument Call Component Link TypedExpr Place (Gives Sent) (Gives ℤ) Reaches
    Continues (Gives ℤ) (Gives Location) (argument_value p ask) (call_value p ask) (component_value p ask)
    (link_value p ask) (value p ask) (locate p ask) x

at_expr : (p : Modules) (ask : Asks) (e : TypedExpr) (x : TypedExpr-F Argument Call Component Link TypedExpr Place)
    → out-TypedExpr e ≡ x → value p ask e ≡ expr_layer p ask (opened_expr p ask x)
unfolding value locate call_value link_value component_value argument_value
at_expr p ask e x h = fold_out-TypedExpr (Gives Sent) (Gives ℤ) Reaches Continues (Gives ℤ) (Gives Location)
    (argument_layer p ask) (call_layer p ask) (component_layer p ask) (link_layer p ask) (expr_layer p ask)
    (place_layer p ask) e ∙ ap (λ (y : TypedExpr-F Argument Call Component Link TypedExpr Place). expr_layer p ask
    (opened_expr p ask y)) h

abbrev opened_component : Modules → Asks → Component-F Argument Call Component Link TypedExpr Place
    → Component-F (Gives Sent) (Gives ℤ) Reaches Continues (Gives ℤ) (Gives Location)
opened_component p ask x = map-Component Argument Call Component Link TypedExpr Place (Gives Sent) (Gives ℤ) Reaches
    Continues (Gives ℤ) (Gives Location) (argument_value p ask) (call_value p ask) (component_value p ask)
    (link_value p ask) (value p ask) (locate p ask) x

at_component : (p : Modules) (ask : Asks) (e : Component) (x : Component-F Argument Call Component Link TypedExpr Place)
    → out-Component e ≡ x → component_value p ask e ≡ component_layer p ask (opened_component p ask x)
unfolding value locate call_value link_value component_value argument_value
at_component p ask e x h = fold_out-Component (Gives Sent) (Gives ℤ) Reaches Continues (Gives ℤ) (Gives Location)
    (argument_layer p ask) (call_layer p ask) (component_layer p ask) (link_layer p ask) (expr_layer p ask)
    (place_layer p ask) e ∙ ap (λ (y : Component-F Argument Call Component Link TypedExpr Place). component_layer p ask
    (opened_component p ask y)) h

abbrev opened_link : Modules → Asks → Link-F Argument Call Component Link TypedExpr Place
    → Link-F (Gives Sent) (Gives ℤ) Reaches Continues (Gives ℤ) (Gives Location)
opened_link p ask x = map-Link Argument Call Component Link TypedExpr Place (Gives Sent) (Gives ℤ) Reaches Continues
    (Gives ℤ) (Gives Location) (argument_value p ask) (call_value p ask) (component_value p ask) (link_value p ask)
    (value p ask) (locate p ask) x

at_link : (p : Modules) (ask : Asks) (e : Link) (x : Link-F Argument Call Component Link TypedExpr Place)
    → out-Link e ≡ x → link_value p ask e ≡ link_layer p ask (opened_link p ask x)
unfolding value locate call_value link_value component_value argument_value
at_link p ask e x h = fold_out-Link (Gives Sent) (Gives ℤ) Reaches Continues (Gives ℤ) (Gives Location)
    (argument_layer p ask) (call_layer p ask) (component_layer p ask) (link_layer p ask) (expr_layer p ask)
    (place_layer p ask) e ∙ ap (λ (y : Link-F Argument Call Component Link TypedExpr Place). link_layer p ask
    (opened_link p ask y)) h

abbrev opened_call : Modules → Asks → Call-F Argument Call Component Link TypedExpr Place
    → Call-F (Gives Sent) (Gives ℤ) Reaches Continues (Gives ℤ) (Gives Location)
opened_call p ask x = map-Call Argument Call Component Link TypedExpr Place (Gives Sent) (Gives ℤ) Reaches Continues
    (Gives ℤ) (Gives Location) (argument_value p ask) (call_value p ask) (component_value p ask) (link_value p ask)
    (value p ask) (locate p ask) x

at_call : (p : Modules) (ask : Asks) (e : Call) (x : Call-F Argument Call Component Link TypedExpr Place)
    → out-Call e ≡ x → call_value p ask e ≡ call_layer p ask (opened_call p ask x)
unfolding value locate call_value link_value component_value argument_value
at_call p ask e x h = fold_out-Call (Gives Sent) (Gives ℤ) Reaches Continues (Gives ℤ) (Gives Location)
    (argument_layer p ask) (call_layer p ask) (component_layer p ask) (link_layer p ask) (expr_layer p ask)
    (place_layer p ask) e ∙ ap (λ (y : Call-F Argument Call Component Link TypedExpr Place). call_layer p ask
    (opened_call p ask y)) h

abbrev opened_argument : Modules → Asks → Argument-F Argument Call Component Link TypedExpr Place
    → Argument-F (Gives Sent) (Gives ℤ) Reaches Continues (Gives ℤ) (Gives Location)
opened_argument p ask x = map-Argument Argument Call Component Link TypedExpr Place (Gives Sent) (Gives ℤ) Reaches
    Continues (Gives ℤ) (Gives Location) (argument_value p ask) (call_value p ask) (component_value p ask)
    (link_value p ask) (value p ask) (locate p ask) x

at_argument : (p : Modules) (ask : Asks) (e : Argument) (x : Argument-F Argument Call Component Link TypedExpr Place)
    → out-Argument e ≡ x → argument_value p ask e ≡ argument_layer p ask (opened_argument p ask x)
unfolding value locate call_value link_value component_value argument_value
at_argument p ask e x h = fold_out-Argument (Gives Sent) (Gives ℤ) Reaches Continues (Gives ℤ) (Gives Location)
    (argument_layer p ask) (call_layer p ask) (component_layer p ask) (link_layer p ask) (expr_layer p ask)
    (place_layer p ask) e ∙ ap (λ (y : Argument-F Argument Call Component Link TypedExpr Place). argument_layer p ask
    (opened_argument p ask y)) h

-- two operands, and what is made of both
abbrev two_of : ℤ → ℤ → Operands
two_of x y = record { first = x; second = y }

after_second : {A : Type 0} (s : Given ℤ) (x : ℤ) (k : ℤ → ℤ → Meant → Given A)
    → (s ▷ (λ y st. k x y st)) ≡ ((s ▷ λ y st. Value (two_of x y) st) ▷ λ (xy : Operands) (st : Meant). k xy.first
    xy.second st)
after_second (Value y st) x k = refl
after_second (Ended n out) x k = refl
after_second (StillRunning out) x k = refl

after_both : {A : Type 0} (r : Given ℤ) (f : Meant → Given ℤ) (k : ℤ → ℤ → Meant → Given A)
    → (r ▷ (λ x st. f st ▷ λ y st. k x y st))
    ≡ ((r ▷ λ x st. f st ▷ λ y st. Value (two_of x y) st) ▷ λ (xy : Operands) (st : Meant). k xy.first xy.second st)
after_both (Value x st) f k = after_second (f st) x k
after_both (Ended n out) f k = refl
after_both (StillRunning out) f k = refl

pub expr_Constant : (a : Around) (t : TypeNo) (n : ℤ) (st : Meant) → value_in a (ev.Constant t n) st ≡ Value n st
unfolding operated_on value_in located_in called_in linked_in links_in reached_in components_in given_in all_given_in
    pair_in in_in asked_in
expr_Constant a t n st = ap (λ (g : Gives ℤ). g (surroundings a) st)
    (at_expr (modules_of a.program.now) (asks_of a) (ev.Constant t n) (layer.Constant t n) (ev.outs-Constant t n))

pub expr_Load : (a : Around) (t : TypeNo) (d : Place) (st : Meant)
    → value_in a (ev.Load t d) st ≡ (located_in a d st ▷ λ l st. Value (st.store l) st)
unfolding operated_on value_in located_in called_in linked_in links_in reached_in components_in given_in all_given_in
    pair_in in_in asked_in
expr_Load a t d st = ap (λ (g : Gives ℤ). g (surroundings a) st)
    (at_expr (modules_of a.program.now) (asks_of a) (ev.Load t d) (layer.Load t d) (ev.outs-Load t d))

pub expr_Procedure : (a : Around) (f : Procedure) (st : Meant)
    → value_in a (ev.Procedure f) st ≡ Value (procedure_value (modules_of a.program.now) f.home f.number) st
unfolding operated_on value_in located_in called_in linked_in links_in reached_in components_in given_in all_given_in
    pair_in in_in asked_in
expr_Procedure a f st = ap (λ (g : Gives ℤ). g (surroundings a) st)
    (at_expr (modules_of a.program.now) (asks_of a) (ev.Procedure f) (layer.Procedure f) (ev.outs-Procedure f))

pub expr_Plus : (a : Around) (t : TypeNo) (e : TypedExpr) (st : Meant) → value_in a (ev.Plus t e) st ≡ value_in a e st
unfolding operated_on value_in located_in called_in linked_in links_in reached_in components_in given_in all_given_in
    pair_in in_in asked_in
expr_Plus a t e st = ap (λ (g : Gives ℤ). g (surroundings a) st)
    (at_expr (modules_of a.program.now) (asks_of a) (ev.Plus t e) (layer.Plus t e) (ev.outs-Plus t e))

pub expr_Negate : (a : Around) (e : TypedExpr) (st : Meant)
    → value_in a (ev.Negate e) st ≡ (value_in a e st ▷ λ v st. in_base (surroundings a).types integer (pos 0 -ℤ v) st)
unfolding operated_on value_in located_in called_in linked_in links_in reached_in components_in given_in all_given_in
    pair_in in_in asked_in
expr_Negate a e st = ap (λ (g : Gives ℤ). g (surroundings a) st)
    (at_expr (modules_of a.program.now) (asks_of a) (ev.Negate e) (layer.Negate e) (ev.outs-Negate e))

pub expr_Chain : (a : Around) (e : TypedExpr) (ls : List Link) (st : Meant)
    → value_in a (ev.Chain e ls) st ≡ (value_in a e st ▷ λ v st. links_in a ls v st)
unfolding operated_on value_in located_in called_in linked_in links_in reached_in components_in given_in all_given_in
    pair_in in_in asked_in
expr_Chain a e ls st = ap (λ (g : Gives ℤ). g (surroundings a) st)
    (at_expr (modules_of a.program.now) (asks_of a) (ev.Chain e ls) (layer.Chain e ls) (ev.outs-Chain e ls))

pub expr_Compare : (a : Around) (o : Comparison) (e : TypedExpr) (e' : TypedExpr) (st : Meant)
    → value_in a (ev.Compare o e e') st ≡ (pair_in a e e' st ▷ λ xy st. Value
    (truth (comparison_holds o xy.first xy.second)) st)
unfolding operated_on value_in located_in called_in linked_in links_in reached_in components_in given_in all_given_in
    pair_in in_in asked_in
expr_Compare a o e e' st = ap (λ (g : Gives ℤ). g (surroundings a) st)
    (at_expr (modules_of a.program.now) (asks_of a) (ev.Compare o e e') (layer.Compare o e e') (ev.outs-Compare o e e'))
    ∙ after_both (value_in a e st) (value_in a e') (λ x y st. Value (truth (comparison_holds o x y)) st)

pub expr_Not : (a : Around) (e : TypedExpr) (st : Meant)
    → value_in a (ev.Not e) st ≡ (value_in a e st ▷ λ v st. Value (truth (not (is_true v))) st)
unfolding operated_on value_in located_in called_in linked_in links_in reached_in components_in given_in all_given_in
    pair_in in_in asked_in
expr_Not a e st = ap (λ (g : Gives ℤ). g (surroundings a) st)
    (at_expr (modules_of a.program.now) (asks_of a) (ev.Not e) (layer.Not e) (ev.outs-Not e))

pub expr_Include : (a : Around) (o : Inclusion) (e : TypedExpr) (e' : TypedExpr) (st : Meant)
    → value_in a (ev.Include o e e') st ≡ (pair_in a e e' st ▷ λ xy st. Value
    (truth (inclusion_holds o xy.first xy.second)) st)
unfolding operated_on value_in located_in called_in linked_in links_in reached_in components_in given_in all_given_in
    pair_in in_in asked_in
expr_Include a o e e' st = ap (λ (g : Gives ℤ). g (surroundings a) st)
    (at_expr (modules_of a.program.now) (asks_of a) (ev.Include o e e') (layer.Include o e e') (ev.outs-Include o e e'))
    ∙ after_both (value_in a e st) (value_in a e') (λ x y st. Value (truth (inclusion_holds o x y)) st)

pub expr_In : (a : Around) (e : TypedExpr) (e' : TypedExpr) (st : Meant) → value_in a (ev.In e e') st ≡ in_in a e e' st
unfolding operated_on value_in located_in called_in linked_in links_in reached_in components_in given_in all_given_in
    pair_in in_in asked_in
expr_In a e e' st = ap (λ (g : Gives ℤ). g (surroundings a) st)
    (at_expr (modules_of a.program.now) (asks_of a) (ev.In e e') (layer.In e e') (ev.outs-In e e'))

pub expr_Abs : (a : Around) (t : TypeNo) (e : TypedExpr) (st : Meant)
    → value_in a (ev.Abs t e) st ≡ (value_in a e st ▷ λ v st. in_base (surroundings a).types t (absolute v) st)
unfolding operated_on value_in located_in called_in linked_in links_in reached_in components_in given_in all_given_in
    pair_in in_in asked_in
expr_Abs a t e st = ap (λ (g : Gives ℤ). g (surroundings a) st)
    (at_expr (modules_of a.program.now) (asks_of a) (ev.Abs t e) (layer.Abs t e) (ev.outs-Abs t e))

pub expr_Cap : (a : Around) (e : TypedExpr) (st : Meant)
    → value_in a (ev.Cap e) st ≡ (value_in a e st ▷ λ v st. Value (capital v) st)
unfolding operated_on value_in located_in called_in linked_in links_in reached_in components_in given_in all_given_in
    pair_in in_in asked_in
expr_Cap a e st = ap (λ (g : Gives ℤ). g (surroundings a) st)
    (at_expr (modules_of a.program.now) (asks_of a) (ev.Cap e) (layer.Cap e) (ev.outs-Cap e))

pub expr_Chr : (a : Around) (e : TypedExpr) (st : Meant)
    → value_in a (ev.Chr e) st ≡ (value_in a e st ▷ λ v st. within (pos 0) (pos 255) range_fault v st)
unfolding operated_on value_in located_in called_in linked_in links_in reached_in components_in given_in all_given_in
    pair_in in_in asked_in
expr_Chr a e st = ap (λ (g : Gives ℤ). g (surroundings a) st)
    (at_expr (modules_of a.program.now) (asks_of a) (ev.Chr e) (layer.Chr e) (ev.outs-Chr e))

pub expr_Odd : (a : Around) (e : TypedExpr) (st : Meant)
    → value_in a (ev.Odd e) st ≡ (value_in a e st ▷ λ v st. Value (truth (odd v)) st)
unfolding operated_on value_in located_in called_in linked_in links_in reached_in components_in given_in all_given_in
    pair_in in_in asked_in
expr_Odd a e st = ap (λ (g : Gives ℤ). g (surroundings a) st)
    (at_expr (modules_of a.program.now) (asks_of a) (ev.Odd e) (layer.Odd e) (ev.outs-Odd e))

pub expr_Ord : (a : Around) (e : TypedExpr) (st : Meant) → value_in a (ev.Ord e) st ≡ (value_in a e st ▷ ordinal)
unfolding operated_on value_in located_in called_in linked_in links_in reached_in components_in given_in all_given_in
    pair_in in_in asked_in
expr_Ord a e st = ap (λ (g : Gives ℤ). g (surroundings a) st)
    (at_expr (modules_of a.program.now) (asks_of a) (ev.Ord e) (layer.Ord e) (ev.outs-Ord e))

pub expr_Val : (a : Around) (t : TypeNo) (e : TypedExpr) (st : Meant)
    → value_in a (ev.Val t e) st ≡ (value_in a e st ▷ (as_type (surroundings a).types t))
unfolding operated_on value_in located_in called_in linked_in links_in reached_in components_in given_in all_given_in
    pair_in in_in asked_in
expr_Val a t e st = ap (λ (g : Gives ℤ). g (surroundings a) st)
    (at_expr (modules_of a.program.now) (asks_of a) (ev.Val t e) (layer.Val t e) (ev.outs-Val t e))

pub expr_High : (a : Around) (x : Slot) (st : Meant)
    → value_in a (ev.High x) st ≡ Value (pos (high_of (slot_named (surroundings a) x))) st
unfolding operated_on value_in located_in called_in linked_in links_in reached_in components_in given_in all_given_in
    pair_in in_in asked_in
expr_High a x st = ap (λ (g : Gives ℤ). g (surroundings a) st)
    (at_expr (modules_of a.program.now) (asks_of a) (ev.High x) (layer.High x) (ev.outs-High x))

pub expr_Call : (a : Around) (t : TypeNo) (c : Call) (st : Meant) → value_in a (ev.Call t c) st ≡ called_in a c st
unfolding operated_on value_in located_in called_in linked_in links_in reached_in components_in given_in all_given_in
    pair_in in_in asked_in
expr_Call a t c st = ap (λ (g : Gives ℤ). g (surroundings a) st)
    (at_expr (modules_of a.program.now) (asks_of a) (ev.Call t c) (layer.Call t c) (ev.outs-Call t c))

pub place_is : (a : Around) (d : Place) (st : Meant)
    → located_in a d st ≡ components_in a d.components
    (root_layer (modules_of a.program.now) (asks_of a) d.root (surroundings a)) st
unfolding value locate call_value link_value component_value argument_value located_in components_in
place_is a d st = ap (λ (g : Gives Location). g (surroundings a) st)
    (fold_out-Place (Gives Sent) (Gives ℤ) Reaches Continues (Gives ℤ) (Gives Location)
    (argument_layer (modules_of a.program.now) (asks_of a)) (call_layer (modules_of a.program.now) (asks_of a))
    (component_layer (modules_of a.program.now) (asks_of a)) (link_layer (modules_of a.program.now) (asks_of a))
    (expr_layer (modules_of a.program.now) (asks_of a)) (place_layer (modules_of a.program.now) (asks_of a)) d)

pub link_Arithmetic : (a : Around) (o : Arithmetic) (t : TypeNo) (e : TypedExpr) (x : ℤ) (st : Meant)
    → linked_in a (lv.Arithmetic o t e) x st ≡ (value_in a e st ▷ (operated_on (surroundings a).types o t x))
unfolding operated_on value_in located_in called_in linked_in links_in reached_in components_in given_in all_given_in
    pair_in in_in asked_in
link_Arithmetic a o t e x st = ap (λ (g : Continues). g x (surroundings a) st)
    (at_link (modules_of a.program.now) (asks_of a) (lv.Arithmetic o t e) (layer.Arithmetic o t e)
    (lv.outs-Arithmetic o t e))

pub link_And : (a : Around) (e : TypedExpr) (x : ℤ) (st : Meant)
    → linked_in a (lv.And e) x st ≡ (if is_true x then value_in a e st else Value (truth false) st)
unfolding operated_on value_in located_in called_in linked_in links_in reached_in components_in given_in all_given_in
    pair_in in_in asked_in
link_And a e x st = ap (λ (g : Continues). g x (surroundings a) st)
    (at_link (modules_of a.program.now) (asks_of a) (lv.And e) (layer.And e) (lv.outs-And e))

pub link_Or : (a : Around) (e : TypedExpr) (x : ℤ) (st : Meant)
    → linked_in a (lv.Or e) x st ≡ (if is_true x then Value (truth true) st else value_in a e st)
unfolding operated_on value_in located_in called_in linked_in links_in reached_in components_in given_in all_given_in
    pair_in in_in asked_in
link_Or a e x st = ap (λ (g : Continues). g x (surroundings a) st)
    (at_link (modules_of a.program.now) (asks_of a) (lv.Or e) (layer.Or e) (lv.outs-Or e))

pub link_Combine : (a : Around) (o : SetOperator) (e : TypedExpr) (x : ℤ) (st : Meant)
    → linked_in a (lv.Combine o e) x st ≡ (value_in a e st ▷ λ y st. Value (set_operation o x y) st)
unfolding operated_on value_in located_in called_in linked_in links_in reached_in components_in given_in all_given_in
    pair_in in_in asked_in
link_Combine a o e x st = ap (λ (g : Continues). g x (surroundings a) st)
    (at_link (modules_of a.program.now) (asks_of a) (lv.Combine o e) (layer.Combine o e) (lv.outs-Combine o e))

pub component_Field : (a : Around) (t : TypeNo) (k : ℕ) (l : Location) (st : Meant)
    → reached_in a (kv.Field t k) l st ≡ Value (l ++ k ∷ []) st
unfolding operated_on value_in located_in called_in linked_in links_in reached_in components_in given_in all_given_in
    pair_in in_in asked_in
component_Field a t k l st = ap (λ (g : Reaches). g l (surroundings a) st)
    (at_component (modules_of a.program.now) (asks_of a) (kv.Field t k) (layer.Field t k) (kv.outs-Field t k))

pub component_Element : (a : Around) (t : TypeNo) (e : TypedExpr) (l : Location) (st : Meant)
    → reached_in a (kv.Element t e) l st ≡
    (value_in a e st ▷ λ v st. element_in l (index_range (surroundings a).types t) v st)
unfolding operated_on value_in located_in called_in linked_in links_in reached_in components_in given_in all_given_in
    pair_in in_in asked_in
component_Element a t e l st = ap (λ (g : Reaches). g l (surroundings a) st)
    (at_component (modules_of a.program.now) (asks_of a) (kv.Element t e) (layer.Element t e) (kv.outs-Element t e))

pub component_OpenElement : (a : Around) (x : Slot) (t : TypeNo) (e : TypedExpr) (l : Location) (st : Meant)
    → reached_in a (kv.OpenElement x t e) l st
    ≡ (value_in a e st ▷ λ v st. element l (pos 0) (pos (high_of (slot_named (surroundings a) x))) v st)
unfolding operated_on value_in located_in called_in linked_in links_in reached_in components_in given_in all_given_in
    pair_in in_in asked_in
component_OpenElement a x t e l st = ap (λ (g : Reaches). g l (surroundings a) st)
    (at_component (modules_of a.program.now) (asks_of a) (kv.OpenElement x t e) (layer.OpenElement x t e)
    (kv.outs-OpenElement x t e))

pub call_Module : (a : Around) (f : Procedure) (xs : List Argument) (st : Meant)
    → called_in a (cv.Module f xs) st ≡ asked_in a
    (module_callee (modules_of a.program.now) (module_place (modules_of a.program.now) f.home) f.number) xs st
unfolding operated_on value_in located_in called_in linked_in links_in reached_in components_in given_in all_given_in
    pair_in in_in asked_in
call_Module a f xs st = ap (λ (g : Gives ℤ). g (surroundings a) st)
    (at_call (modules_of a.program.now) (asks_of a) (cv.Module f xs) (layer.Module f xs) (cv.outs-Module f xs))

pub call_Nested : (a : Around) (f : LocalProcedure) (xs : List Argument) (st : Meant)
    → called_in a (cv.Nested f xs) st ≡ asked_in a
    (nested_in (surroundings a).place (slice_get (modules_of a.program.now) (surroundings a).place)
    (drop f.up (surroundings a).frames) f.number) xs st
unfolding operated_on value_in located_in called_in linked_in links_in reached_in components_in given_in all_given_in
    pair_in in_in asked_in
call_Nested a f xs st = ap (λ (g : Gives ℤ). g (surroundings a) st)
    (at_call (modules_of a.program.now) (asks_of a) (cv.Nested f xs) (layer.Nested f xs) (cv.outs-Nested f xs))

asked_if_is : (a : Around) (c : Option Asked) (xs : List Argument) (st : Meant)
    → asked_if (modules_of a.program.now) (asks_of a) c (map (argument_value (modules_of a.program.now) (asks_of a)) xs)
    (surroundings a) st ≡ asked_if_in a c xs st
unfolding asked_in all_given_in
asked_if_is a None xs st = refl
asked_if_is a (Some c) xs st = refl

pub call_Variable : (a : Around) (t : TypeNo) (d : Place) (xs : List Argument) (st : Meant)
    → called_in a (cv.Variable t d xs) st ≡
    (located_in a d st ▷ λ l st. asked_if_in a
    (entry_callee (modules_of a.program.now) (entry_of (modules_of a.program.now) (st.store l))) xs st)
unfolding operated_on value_in located_in called_in linked_in links_in reached_in components_in given_in all_given_in
    pair_in in_in asked_in
call_Variable a t d xs st = ap (λ (g : Gives ℤ). g (surroundings a) st)
    (at_call (modules_of a.program.now) (asks_of a) (cv.Variable t d xs) (layer.Variable t d xs)
    (cv.outs-Variable t d xs)) ∙ ap (λ (k : Location → Meant → Given ℤ). (located_in a d st ▷ k))
    (fun_ext (λ l. fun_ext (λ st. asked_if_is a
    (entry_callee (modules_of a.program.now) (entry_of (modules_of a.program.now) (st.store l))) xs st)))

pub argument_Value : (a : Around) (t : TypeNo) (e : TypedExpr) (st : Meant)
    → given_in a (xv.Value t e) st ≡ (value_in a e st ▷ λ v st. as_type (surroundings a).types t v st ▷ λ v st. Value
    (Number v) st)
unfolding operated_on value_in located_in called_in linked_in links_in reached_in components_in given_in all_given_in
    pair_in in_in asked_in
argument_Value a t e st = ap (λ (g : Gives Sent). g (surroundings a) st)
    (at_argument (modules_of a.program.now) (asks_of a) (xv.Value t e) (layer.Value t e) (xv.outs-Value t e))

pub argument_Place : (a : Around) (d : Place) (st : Meant)
    → given_in a (xv.Place d) st ≡ (located_in a d st ▷ λ l st. Value (Variable l) st)
unfolding operated_on value_in located_in called_in linked_in links_in reached_in components_in given_in all_given_in
    pair_in in_in asked_in
argument_Place a d st = ap (λ (g : Gives Sent). g (surroundings a) st)
    (at_argument (modules_of a.program.now) (asks_of a) (xv.Place d) (layer.Place d) (xv.outs-Place d))

pub argument_Array : (a : Around) (t : TypeNo) (d : Place) (st : Meant)
    → given_in a (xv.Array t d) st ≡ (located_in a d st ▷ λ l st. Value (Array l (high_index (surroundings a).types t))
    st)
unfolding operated_on value_in located_in called_in linked_in links_in reached_in components_in given_in all_given_in
    pair_in in_in asked_in
argument_Array a t d st = ap (λ (g : Gives Sent). g (surroundings a) st)
    (at_argument (modules_of a.program.now) (asks_of a) (xv.Array t d) (layer.Array t d) (xv.outs-Array t d))

pub argument_Open : (a : Around) (x : Slot) (st : Meant)
    → given_in a (xv.Open x) st ≡ Value (Array (location_of (slot_named (surroundings a) x))
    (high_of (slot_named (surroundings a) x))) st
unfolding operated_on value_in located_in called_in linked_in links_in reached_in components_in given_in all_given_in
    pair_in in_in asked_in
argument_Open a x st = ap (λ (g : Gives Sent). g (surroundings a) st)
    (at_argument (modules_of a.program.now) (asks_of a) (xv.Open x) (layer.Open x) (xv.outs-Open x))

pub argument_Text : (a : Around) (text : List ℕ) (st : Meant) → given_in a (xv.Text text) st ≡ Value (Text text) st
unfolding operated_on value_in located_in called_in linked_in links_in reached_in components_in given_in all_given_in
    pair_in in_in asked_in
argument_Text a text st = ap (λ (g : Gives Sent). g (surroundings a) st)
    (at_argument (modules_of a.program.now) (asks_of a) (xv.Text text) (layer.Text text) (xv.outs-Text text))

pub ruleset variants = (
  expr_Constant,
  expr_Load,
  expr_Procedure,
  expr_Plus,
  expr_Negate,
  expr_Chain,
  expr_Compare,
  expr_Not,
  expr_Include,
  expr_In,
  expr_Abs,
  expr_Cap,
  expr_Chr,
  expr_Odd,
  expr_Ord,
  expr_Val,
  expr_High,
  expr_Call,
  place_is,
  link_Arithmetic,
  link_And,
  link_Or,
  link_Combine,
  component_Field,
  component_Element,
  component_OpenElement,
  call_Module,
  call_Nested,
  call_Variable,
  argument_Value,
  argument_Place,
  argument_Array,
  argument_Open,
  argument_Text,
  gave,
  stays,
)

-- ---- lists

pub links_nil : (a : Around) (x : ℤ) (st : Meant) → links_in a [] x st ≡ Value x st
unfolding links_in
links_nil a x st = refl

pub links_cons : (a : Around) (l : Link) (ls : List Link) (x : ℤ) (st : Meant)
    → links_in a (l ∷ ls) x st ≡ (linked_in a l x st ▷ λ y st. links_in a ls y st)
unfolding links_in linked_in
links_cons a l ls x st = refl

pub components_nil : (a : Around) (l : Location) (st : Meant) → components_in a [] l st ≡ Value l st
unfolding components_in
components_nil a l st = refl

pub components_cons : (a : Around) (c : Component) (cs : List Component) (l : Location) (st : Meant)
    → components_in a (c ∷ cs) l st ≡ (reached_in a c l st ▷ λ l st. components_in a cs l st)
unfolding components_in reached_in
components_cons a c cs l st = refl

pub given_nil : (a : Around) (st : Meant) → all_given_in a [] st ≡ Value [] st
unfolding all_given_in
given_nil a st = refl

pub given_cons : (a : Around) (x : Argument) (xs : List Argument) (st : Meant)
    → all_given_in a (x ∷ xs) st ≡ (given_in a x st ▷ λ v st. all_given_in a xs st ▷ λ vs st. Value (v ∷ vs) st)
unfolding all_given_in given_in
given_cons a x xs st = refl

pub ruleset lists = (links_nil, links_cons, components_nil, components_cons, given_nil, given_cons, gave, stays)

-- ---- what is asked of a call

pub asked_stays : (a : Around) (c : Option Asked) (xs : List Argument) (s : Stop) (st : Meant) (st' : State)
    → all_given_in a xs st ≡ stop_meaning s st' → asked_in a c xs st ≡ stop_meaning s st'
unfolding asked_in
asked_stays a c xs s st st' h = stays (all_given_in a xs st) s st'
    (λ vs st. asks_of a c vs (surroundings a).next (surroundings a).free st) h

pub asked_zero : (a : Around) (c : Option Asked) (xs : List Argument) (vs : List Sent) (st st' : Meant)
    → all_given_in a xs st ≡ Value vs st' → a.depth ≡ 0 → asked_in a c xs st ≡ StillRunning st'.out
unfolding asked_in asks_of calling
asked_zero a c xs vs st st' h e = ap (λ (r : Given (List Sent)).
    (r ▷ λ vs st. asks_of a c vs (surroundings a).next (surroundings a).free st)) h
    ∙ ap (λ (d : ℕ). calling (modules_of a.program.now) a.program.now.bound d c vs (surroundings a).next
    (surroundings a).free st') e

pub asked_none : (a : Around) (o : Option Callee) (xs : List Argument) (vs : List Sent) (d : ℕ) (st st' : Meant)
    → all_given_in a xs st ≡ Value vs st' → a.depth ≡ suc d → o ≡ None
    → asked_in a (option_map callee_of o) xs st ≡ Ended empty_procedure st'.out
unfolding asked_in asks_of calling
asked_none a o xs vs d st st' h e q =
    ap (λ (r : Given (List Sent)). (r ▷ λ vs st. asks_of a (option_map callee_of o) vs (surroundings a).next
    (surroundings a).free st)) h
    ∙ ap (λ (d : ℕ). calling (modules_of a.program.now) a.program.now.bound d (option_map callee_of o) vs
    (surroundings a).next (surroundings a).free st') e
    ∙ ap (λ (x : Option Callee). calling (modules_of a.program.now) a.program.now.bound (suc d) (option_map callee_of x)
    vs (surroundings a).next (surroundings a).free st') q

pub asked_some : (a : Around) (o : Option Callee) (c : Callee) (xs : List Argument) (vs : List Sent) (d : ℕ)
    (st st' : Meant) → all_given_in a xs st ≡ Value vs st' → a.depth ≡ suc d → o ≡ Some c
    → asked_in a (option_map callee_of o) xs st
    ≡ runs (modules_of a.program.now) a.program.now.bound (calling (modules_of a.program.now) a.program.now.bound d)
    (callee_of c) vs a.next a.left st'
unfolding asked_in asks_of calling surroundings
asked_some a o c xs vs d st st' h e q =
    ap (λ (r : Given (List Sent)). (r ▷ λ vs st. asks_of a (option_map callee_of o) vs (surroundings a).next
    (surroundings a).free st)) h
    ∙ ap (λ (d : ℕ). calling (modules_of a.program.now) a.program.now.bound d (option_map callee_of o) vs
    (surroundings a).next (surroundings a).free st') e
    ∙ ap (λ (x : Option Callee). calling (modules_of a.program.now) a.program.now.bound (suc d) (option_map callee_of x)
    vs (surroundings a).next (surroundings a).free st') q

pub ruleset asking = (asked_stays, asked_zero, asked_none, asked_some)
