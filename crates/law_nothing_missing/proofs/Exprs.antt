-- Expressions, designators and calls of typed trees: the strict meaning is the meaning.
use Rattle.std.proofs.Common.{◌≡◌, ℕ, suc, ◌+◌, ◌-◌, ◌<◌, ℤ, pos, ◌-ℤ◌, ◌≤ℤ◌, Bool, true, false, List, [], ◌∷◌, ◌++◌, map, length, Option, Some, None, if◌then◌else◌, refl, sym, ap, subst, ◌∙◌, arith}
use Rattle.std.specs.Prelude.{drop, slice_get, nat_lt, int_lt, unsigned_abs, not, ◌&&◌, ◌||◌}
use Rattle.std.proofs.lemmas.Int.{ints}
use Rattle.std.proofs.lemmas.Bool.{lt-ltb}
use Rattle.typed_tree.specs.declared.computed.Argument.{Argument, Argument-F, out-Argument}
use Rattle.typed_tree.specs.declared.computed.Argument.TheOpen as layer
use Rattle.typed_tree.specs.declared.computed.Argument.TheVariants as argument
use Rattle.typed_tree.specs.declared.computed.Arithmetic.{Arithmetic}
use Rattle.typed_tree.specs.declared.computed.Arithmetic.TheVariants as op
use Rattle.typed_tree.specs.declared.computed.Call.{Call, Call-F, out-Call}
use Rattle.typed_tree.specs.declared.computed.Call.TheVariants as call
use Rattle.typed_tree.specs.declared.computed.Comparison.{Comparison}
use Rattle.typed_tree.specs.declared.computed.Component.{Component, Component-F, out-Component}
use Rattle.typed_tree.specs.declared.computed.Component.TheVariants as component'
use Rattle.typed_tree.specs.declared.computed.Inclusion.{Inclusion}
use Rattle.typed_tree.specs.declared.computed.Link.{Link, Link-F, out-Link}
use Rattle.typed_tree.specs.declared.computed.Link.TheVariants as link
use Rattle.typed_tree.specs.declared.computed.LocalProcedure.{LocalProcedure}
use Rattle.typed_tree.specs.declared.computed.Place.{Place, out-Place}
use Rattle.typed_tree.specs.declared.computed.Root.{Root}
use Rattle.typed_tree.specs.declared.computed.Root.TheVariants as root
use Rattle.typed_tree.specs.declared.computed.SetOperator.{SetOperator}
use Rattle.typed_tree.specs.declared.computed.Slot.{Slot}
use Rattle.typed_tree.specs.declared.computed.TypedExpr.{TypedExpr, TypedExpr-F, out-TypedExpr}
use Rattle.typed_tree.specs.declared.computed.TypedExpr.TheVariants as expr
use Rattle.typed_tree.specs.declared.meaning.Procedure.{Procedure}
use Rattle.typed_tree.specs.declared.meaning.Variable.{Variable}
use Rattle.typed_tree.specs.declared.shape.Made.{Made}
use Rattle.typed_tree.specs.declared.shape.Scalar.{Scalar as Range}
use Rattle.typed_tree.specs.declared.shape.Shape.{Shape}
use Rattle.typed_tree.specs.declared.shape.Shape.TheVariants as shape
use Rattle.typed_tree.specs.declared.typed_module.Routine.{Routine}
use Rattle.typed_tree.specs.declared.typed_module.TypedModule.{TypedModule}
use Rattle.typed_tree.specs.declared.typed_module.Which.TheVariants as which
use Rattle.typed_tree.specs.declared.types.TypeNo.{TypeNo}
use Rattle.typed_tree.specs.declared.known_types.Types.{Types}
use Rattle.typed_tree.specs.Types.{integer}
use Rattle.typed_tree.specs.Known.{made_at, scalar_at}
use Rattle.layout_storage.specs.Types.{Ty, Scalar, Natural, Callable, Cell, Array, Heading, component}
use Rattle.layout_storage.specs.Shapes.{tree, elements_of}
use Rattle.def_meaning.specs.Store.{Location}
use Rattle.def_meaning.specs.Answer.{State, Answer, Value, Ended, ◌▷◌, range_fault, overflow, index_fault, divisor_fault, empty_procedure}
use Rattle.def_meaning.specs.Environment.{Modules, Environment, Callee, Frames, Named, At, Elements, Passed, Number, Variable as Place', Array as Whole, Text, entry_of, entry_callee, module_place, module_callee, procedure_in, nested_in, callee_with, slot_named, location_of, high_of, or_root}
use Rattle.def_meaning.specs.Operators.{is_between, is_true, absolute, quotient, remainder}
use Rattle.def_meaning.specs.Calls.{is_there}
use Rattle.def_meaning.specs.Expressions as meaning
use Rattle.def_meaning.specs.Expressions.{Asks, Gives, Reaches, Continues, value, locate, call_value, one_by_one, element, element_in, index_range, arithmetic_result, as_type}
use Rattle.law_memory.specs.Relation.{IsProcedureValue, Empty, Full, NamesProcedure, IsNumber, heading_in, heading_made, heading_at, value_number}
use Rattle.law_memory.proofs.Procedures.{entry_there}
use Rattle.def_scheme.specs.Exprs.{index_of}
use Rattle.law_simulation.specs.Scene.{IsCell}
use Rattle.law_simulation.proofs.Components.{same_index}
use Rattle.law_simulation.proofs.Operators.{between_in}
use Rattle.law_simulation.specs.Frames.{Kind, Kept, Alias, Open, Kinds, kind_at}
use Rattle.law_simulation.specs.Passing.{Form, ByNumber, ByCopy, ByName, ByArray, Forms, Result, forms_of, result_of}
use Rattle.law_simulation.proofs.Headings.{forms_same, result_same, means_it}
use Rattle.law_simulation.specs.ProceduresLaws.{callee_of}
use Rattle.law_simulation.specs.TreesTyped as typed
use Rattle.law_simulation.specs.TreesTyped.{Context, IsKnown, IsVariable, IsNamed, IsInner}
use Rattle.law_simulation.proofs.TreesMeant.{argument_value, component_value, link_value, expr_meant, expr_means, link_meant, link_means, component_meant, component_means, place_means, call_meant, call_means, argument_meant, argument_means}
use Rattle.law_simulation.specs.Linked.{Spot, environment_of}
use Rattle.law_nothing_missing.specs.Worlds.{World, type_at, is_cell}
use Rattle.law_nothing_missing.specs.Expressions as strict
use Rattle.law_nothing_missing.specs.Expressions.{Calls, is_module, is_ranged, is_procedure_shape, is_procedure_made, is_procedure_type, is_number_type, has_range, variable_of, elements_named, first_of, if_provided, needs, at_there, at_cell, suits_call}
use Rattle.law_nothing_missing.proofs.Meant as strictly
use Rattle.law_nothing_missing.proofs.Worlds.{there_behind, IsFine}
use Rattle.law_nothing_missing.proofs.Same.{Any, Same, gives, ends, still, same_weak, same_then, same_if, same_provided, same_needs, same_within, same_range}
use Rattle.law_nothing_missing.proofs.Frames.{Pairs, no_pairs, more_pairs, pair_at, pairs_drop, pairs_length, IsName, kept_name, alias_name, open_name, AreNames, AreFrames, named_at, IsGiven, given_number, given_copy, given_name, given_array, given_text, IsGood}

pub ranged : (o : Option Range) → (o ≡ None → ⊥) → is_there o ≡ true
ranged None some = absurd (some refl)
ranged (Some r) some = refl

-- what has a heading is a procedure type
headed_type : (types : Types) (o : Option Made) (h : Heading) → heading_made types o ≡ Some h
    → is_procedure_made o ≡ true
headed_type types None h e = absurd cc
headed_type types (Some m) h e = by m.shape e where
  by : (s : Shape) → heading_in types s ≡ Some h → is_procedure_shape s ≡ true
  by (shape.Procedure p) e = refl
  by (shape.Scalar s) e = absurd cc
  by shape.Set e = absurd cc
  by (shape.Array i e') e = absurd cc
  by (shape.Record fs) e = absurd cc
  by (shape.Open e') e = absurd cc

callable_same : (g h : Heading) → Callable g ≡ Callable h → g ≡ h
callable_same g h e = cc e

-- a number that stands for itself is no procedure
pub no_procedure : (p : Modules) (c : Scalar) (v : ℤ) → IsNumber c → (h : Heading) → c ≡ Callable h
    → IsProcedureValue p h v
no_procedure p c v is h e = absurd (subst IsNumber e is)

lies_within : (low v high : ℤ) → low ≤ℤ v → v ≤ℤ high → unsigned_abs (v -ℤ low) < unsigned_abs (high -ℤ low) + 1
lies_within low v high l h = omega (arith, ints, l, h)

lies_below : (v : ℤ) (high : ℕ) → pos 0 ≤ℤ v → v ≤ℤ pos high → unsigned_abs (v -ℤ pos 0) < suc high
lies_below v high l h = omega (arith, ints, l, h)

element_there : (n m : ℕ) (u : Ty) → m < n → component (Array n u) (m ∷ []) ≡ Some u
unfolding component
element_there n m u h = ap (λ (b : Bool). if b then Some u else None) (lt-ltb m n h)

one_less : (n : ℕ) → suc (n + 1 - 1) ≡ n + 1
one_less n = omega arith

-- what an open array is, from its name
pub record OpenName (world : World) (t : Ty) (o : Option Named) : Type 0 where
  pub at : Location
  pub high : ℕ
  pub is : o ≡ Some (Elements at high)
  pub type : type_at world at ≡ Some (Array (suc high) t)

open_named : (world : World) (o : Option Named) (k : Kind) (n : Named) (t : Ty) → o ≡ Some n → IsName world k n
    → k ≡ Open t → OpenName world t o
open_named world o _ _ t e (kept_name u l at) f = cc f
open_named world o _ _ t e (alias_name u l at) f = cc f
open_named world o _ _ t e (open_name u l high at) f =
    let same : u ≡ t = cc f in
    record { at = l; high = high; is = e; type = at ∙ ap (λ (t : Ty). Some (Array (suc high) t)) same }

-- where a variable is, from its name
pub record VariableName (world : World) (t : Ty) (o : Option Named) : Type 0 where
  pub at : Location
  pub is : o ≡ Some (At at)
  pub type : type_at world at ≡ Some t

kept_named : (world : World) (o : Option Named) (k : Kind) (n : Named) (t : Ty) → o ≡ Some n → IsName world k n
    → k ≡ Kept t → VariableName world t o
kept_named world o _ _ t e (kept_name u l at) f = let same : u ≡ t = cc f in
    record { at = l; is = e; type = at ∙ ap Some same }
kept_named world o _ _ t e (alias_name u l at) f = cc f
kept_named world o _ _ t e (open_name u l high at) f = cc f

alias_named : (world : World) (o : Option Named) (k : Kind) (n : Named) (t : Ty) → o ≡ Some n → IsName world k n
    → k ≡ Alias t → VariableName world t o
alias_named world o _ _ t e (kept_name u l at) f = cc f
alias_named world o _ _ t e (alias_name u l at) f = let same : u ≡ t = cc f in
    record { at = l; is = e; type = at ∙ ap Some same }
alias_named world o _ _ t e (open_name u l high at) f = cc f

-- what is asked of a procedure is the same, strictly or not, where the arguments are those that it asks for
abbrev pub CalleeSame : (p : Modules) (world : World) (sask ask : Asks) → Callee → Forms → Result → Type 0
CalleeSame p world sask ask c forms result =
    (vs : List Passed) → Pairs (IsGiven p world) forms vs → (left : ℕ) (st : State) → IsFine p world st.store
    → Same p world (IsGood p result) (sask (Some c) vs (length world) left st) (ask (Some c) vs (length world) left st)

abbrev pub AllSame : (p : Modules) (world : World) (sask ask : Asks) → Type 0
AllSame p world sask ask =
    (o : Spot p) (frames : Frames) → AreFrames world (environment_of o.home o.routine) frames
    → CalleeSame p world sask ask (callee_of o.place o.home o.routine frames) (forms_of o.home.types o.routine.heading)
    (result_of o.home.types o.routine.heading)

-- what a tree of a module may name is there
pub record Knows (x : Context) (world : World) : Type 0 where
  pub modules : (home : ℕ) → IsKnown x.home home → is_module x.p home ≡ true
  pub globals : (v : Variable) (t : Ty) → IsVariable x v t
      → type_at world (module_place x.p v.home ∷ v.number ∷ []) ≡ Some t
  pub outermost : (o : Spot x.p) (number : ℕ) → o.at ≡ which.Module number → environment_of o.home o.routine ≡ []

-- what stands around a body of the context, within WITHs of records of these types
pub record Fits (x : Context) (world : World) (ws : List Ty) (a : Environment) : Type 0 where
  pub place : a.place ≡ x.place
  pub types : a.types ≡ x.home.types
  pub frames : AreFrames world x.kinds a.frames
  pub withs : Pairs (λ t l. type_at world l ≡ Some t) ws a.withs
  pub next : a.next ≡ length world

module _ (x : Context) (lacking : ℕ) (world : World) (sask ask : Asks) (knows : Knows x world)
    (all : AllSame x.p world sask ask) where
  abbrev P : Modules
  P = x.p

  abbrev types : Types
  types = x.home.types

  abbrev sv : TypedExpr → Gives ℤ
  sv e = strict.value lacking P sask world e

  abbrev sd : Place → Gives Location
  sd d = strict.locate lacking P sask world d

  -- in every state in which the procedure variables hold procedures
  abbrev pub Both : {A : Type 0} (ws : List Ty) (G : A → Type 0) → Gives A → Gives A → Type 0
  Both ws G f g = (a : Environment) → Fits x world ws a → (st : State) → IsFine P world st.store
      → Same P world G (f a st) (g a st)

  abbrev IsAt : Ty → Location → Type 0
  IsAt t l = type_at world l ≡ Some t

  -- ---- what is there

  pub cell_there : {c : Scalar} {y z : Answer Location} → Same P world (IsAt (Cell c)) y z
      → Same P world (IsAt (Cell c)) (y ▷ (at_cell lacking P sask world)) z
  cell_there (gives l st fine at) = same_provided P world lacking (is_cell (type_at world l)) (Value l) st
      (ap is_cell at) (gives l st fine at)
  cell_there (ends k out e) = ends k out e
  cell_there (still out) = still out

  there_then : {B : Type 0} {G : B → Type 0} (t : Ty) (l : Location) (f : Location → State → Answer B) (st : State)
      (y : Answer B) → IsAt t l → Same P world G (f l st) y → Same P world G (at_there lacking P sask world l st ▷ f) y
  there_then {B = B} {G = G} t l f st y at h =
      subst (λ (b : Bool). Same P world G (if_provided lacking b (Value l) st ▷ f) y) (sym (ap is_there at)) h

  open_at : (ws : List Ty) (a : Environment) → Fits x world ws a → (slot : Slot) (t : Ty)
      → kind_at x.kinds slot ≡ Some (Open t) → OpenName world t (slot_named a slot)
  open_at ws a fit slot t e = let n = named_at world x.kinds a fit.frames slot (Open t) e in
      open_named world (slot_named a slot) (Open t) n.0 t n.1 n.2 refl

  -- a value that is taken as one of a type
  pub type_checked : (G : ℤ → Type 0) (ws : List Ty) (t : TypeNo) (v : ℤ) (a : Environment) → Fits x world ws a
      → (st : State) → IsFine P world st.store → is_number_type types t ≡ true → G v
      → Same P world G (strict.as_type lacking P sask world a.types t v st) (as_type a.types t v st)
  type_checked G ws t v a fit st fine ok good =
      same_provided P world lacking (is_number_type a.types t) (as_type a.types t v) st
      (ap (λ (ts : Types). is_number_type ts t) fit.types ∙ ok)
      (same_range P world (scalar_at a.types t) range_fault v st refl fine good)

  -- of a scalar type
  pub cell_taken : (t : TypeNo) (c : Scalar) → tree types t ≡ Cell c → is_number_type types t ≡ true
  cell_taken t c e = ap (λ (u : Ty). is_cell (Some u)) e

  found_at : (h : Heading) (n : ℕ) (names : NamesProcedure P h n)
      → entry_callee P (entry_of P (pos (value_number P names.place names.number)))
      ≡ Some (callee_of names.place names.home names.routine [])
  found_at h n names =
      ap (entry_callee P) (entry_there P names.place names.number names.home names.routine names.there names.is)
      ∙ ap (λ (q : Option TypedModule). procedure_in names.place q names.number) names.there
      ∙ ap (λ (q : Option Routine). callee_with names.place names.home.types [] q) names.is

  -- ---- one layer

  from_expr : (ws : List Ty) (G : ℤ → Type 0) (e : TypedExpr)
      (y : TypedExpr-F Argument Call Component Link TypedExpr Place) → out-TypedExpr e ≡ y
      → Both ws G (strict.expr_layer lacking P sask world (strictly.expr_meant lacking P sask world y))
      (meaning.expr_layer P ask (expr_meant P ask y)) → Both ws G (sv e) (value P ask e)
  from_expr ws G e y h m =
      subst (λ (f : Gives ℤ). Both ws G f (value P ask e)) (sym (strictly.expr_means lacking P sask world e y h))
      (subst (λ (f : Gives ℤ). Both ws G (strict.expr_layer lacking P sask world
      (strictly.expr_meant lacking P sask world y)) f) (sym (expr_means P ask e y h)) m)

  module _ (ws : List Ty) where
    abbrev pub E : TypedExpr → Type 0
    E e = Both ws Any (sv e) (value P ask e)

    abbrev pub H : TypedExpr → Heading → Type 0
    H e h = Both ws (IsProcedureValue P h) (sv e) (value P ask e)

    abbrev pub D : Place → Ty → Type 0
    D d t = Both ws (IsAt t) (sd d) (locate P ask d)

    -- where a value is wanted, there is a result
    abbrev pub C : Call → Result → Type 0
    C c r = (wanted : Bool) → (wanted ≡ true → is_there r ≡ true)
        → Both ws (IsGood P r) (strict.call_value lacking P sask world c wanted) (call_value P ask c)

    unary_same : (G : ℤ → Type 0) (e : TypedExpr) (f : Environment → ℤ → State → Answer ℤ) → E e
        → ((a : Environment) (v : ℤ) (st : State) → IsFine P world st.store → Same P world G (f a v st) (f a v st))
        → Both ws G (λ a st. sv e a st ▷ (f a)) (λ a st. value P ask e a st ▷ (f a))
    unary_same G e f m next = λ a fit st fine. same_then P world (m a fit st fine) (λ v st fine good. next a v st fine)

    binary_same : (G : ℤ → Type 0) (e e' : TypedExpr) (f : Environment → ℤ → ℤ → State → Answer ℤ) → E e → E e'
        → ((a : Environment) (v w : ℤ) (st : State) → IsFine P world st.store
        → Same P world G (f a v w st) (f a v w st))
        → Both ws G (λ a st. sv e a st ▷ λ v st. sv e' a st ▷ λ w st. f a v w st)
        (λ a st. value P ask e a st ▷ λ v st. value P ask e' a st ▷ λ w st. f a v w st)
    binary_same G e e' f m m' next = λ a fit st fine. same_then P world (m a fit st fine)
        (λ v st fine good. same_then P world (m' a fit st fine) (λ w st fine good. next a v w st fine))

    constant_same : (t : TypeNo) (n : ℤ) → E (expr.Constant t n)
    constant_same t n = from_expr ws Any (expr.Constant t n) (layer.Constant t n) (expr.outs-Constant t n)
        (λ a fit st fine. gives n st fine tt)

    load_same : (t : TypeNo) (c : Scalar) (d : Place) → D d (Cell c) → E (expr.Load t d)
    load_same t c d m = from_expr ws Any (expr.Load t d) (layer.Load t d) (expr.outs-Load t d)
        (λ a fit st fine. same_then P world (cell_there (m a fit st fine))
        (λ l st fine at. gives (st.store l) st fine tt))

    loaded_same : (t : TypeNo) (h : Heading) (d : Place) → D d (Cell (Callable h)) → H (expr.Load t d) h
    loaded_same t h d m = from_expr ws (IsProcedureValue P h) (expr.Load t d) (layer.Load t d) (expr.outs-Load t d)
        (λ a fit st fine. same_then P world (cell_there (m a fit st fine))
        (λ l st fine at. gives (st.store l) st fine (fine.each l h at)))

    -- a procedure of a module
    abbrev pub spot_of : (f : Procedure) → IsNamed x f → Spot P
    spot_of f h = record {
      place = module_place P f.home;
      home = h.home;
      there = h.there;
      at = which.Module f.number;
      routine = h.routine;
      is = h.is;
    }

    named_callee : (f : Procedure) (h : IsNamed x f)
        → module_callee P (module_place P f.home) f.number
        ≡ Some (callee_of (module_place P f.home) h.home h.routine [])
    named_callee f h =
        ap (λ (q : Option TypedModule). procedure_in (module_place P f.home) q f.number) h.there
        ∙ ap (λ (q : Option Routine). callee_with (module_place P f.home) h.home.types [] q) h.is

    procedure_same : (f : Procedure) (h : Heading) → IsNamed x f → heading_at types f.heading ≡ Some h
        → H (expr.Procedure f) h
    procedure_same f h is e = from_expr ws (IsProcedureValue P h) (expr.Procedure f) (layer.Procedure f)
        (expr.outs-Procedure f)
        (λ a fit st fine.
        let names : NamesProcedure P h (value_number P (module_place P f.home) f.number) =
        record {
          place = module_place P f.home;
          home = is.home;
          there = is.there;
          number = f.number;
          routine =
              is.routine;
          is = is.is;
          value = refl;
          heading = is.heading ∙ e;
        } in
        same_provided P world lacking (is_module P f.home) _ st (knows.modules f.home is.known)
        (same_provided P world lacking (is_there (module_callee P (module_place P f.home) f.number)) _ st
        (ap is_there (named_callee f is))
        (gives (pos (value_number P (module_place P f.home) f.number)) st fine
        (Full (value_number P (module_place P f.home) f.number) names))))

    plus_same : (t : TypeNo) (e : TypedExpr) → E e → E (expr.Plus t e)
    plus_same t e m = from_expr ws Any (expr.Plus t e) (layer.Plus t e) (expr.outs-Plus t e)
        (λ a fit st fine. m a fit st fine)

    negate_same : (e : TypedExpr) → E e → E (expr.Negate e)
    negate_same e m = from_expr ws Any (expr.Negate e) (layer.Negate e) (expr.outs-Negate e)
        (unary_same Any e (λ a v st. meaning.in_base a.types integer (pos 0 -ℤ v) st) m
        (λ a v st fine. same_range P world (scalar_at a.types integer) overflow (pos 0 -ℤ v) st refl fine tt))

    compare_same : (o : Comparison) (e e' : TypedExpr) → E e → E e' → E (expr.Compare o e e')
    compare_same o e e' m m' = from_expr ws Any (expr.Compare o e e') (layer.Compare o e e') (expr.outs-Compare o e e')
        (binary_same Any e e' _ m m' (λ a v w st fine. gives _ st fine tt))

    not_same : (e : TypedExpr) → E e → E (expr.Not e)
    not_same e m = from_expr ws Any (expr.Not e) (layer.Not e) (expr.outs-Not e)
        (unary_same Any e _ m (λ a v st fine. gives _ st fine tt))

    include_same : (o : Inclusion) (e e' : TypedExpr) → E e → E e' → E (expr.Include o e e')
    include_same o e e' m m' = from_expr ws Any (expr.Include o e e') (layer.Include o e e') (expr.outs-Include o e e')
        (binary_same Any e e' _ m m' (λ a v w st fine. gives _ st fine tt))

    in_same : (e e' : TypedExpr) → E e → E e' → E (expr.In e e')
    in_same e e' m m' = from_expr ws Any (expr.In e e') (layer.In e e') (expr.outs-In e e')
        (λ a fit st fine. same_then P world (m a fit st fine)
        (λ v st fine good. same_then P world
        (same_within P world {G = Any} (pos 0) (pos 31) range_fault v st refl fine tt)
        (λ v st fine good. same_then P world (m' a fit st fine) (λ w st fine good. gives _ st fine tt))))

    abs_same : (t : TypeNo) (e : TypedExpr) → is_ranged types t ≡ true → E e → E (expr.Abs t e)
    abs_same t e ok m = from_expr ws Any (expr.Abs t e) (layer.Abs t e) (expr.outs-Abs t e)
        (λ a fit st fine. same_then P world (m a fit st fine) (λ v st fine good.
        same_provided P world lacking (is_ranged a.types t) (meaning.in_base a.types t (absolute v)) st
        (ap (λ (ts : Types). is_ranged ts t) fit.types ∙ ok)
        (same_range P world (scalar_at a.types t) overflow (absolute v) st refl fine tt)))

    cap_same : (e : TypedExpr) → E e → E (expr.Cap e)
    cap_same e m = from_expr ws Any (expr.Cap e) (layer.Cap e) (expr.outs-Cap e)
        (unary_same Any e _ m (λ a v st fine. gives _ st fine tt))

    chr_same : (e : TypedExpr) → E e → E (expr.Chr e)
    chr_same e m = from_expr ws Any (expr.Chr e) (layer.Chr e) (expr.outs-Chr e)
        (unary_same Any e (λ a v st. meaning.within (pos 0) (pos 255) range_fault v st) m
        (λ a v st fine. same_within P world (pos 0) (pos 255) range_fault v st refl fine tt))

    odd_same : (e : TypedExpr) → E e → E (expr.Odd e)
    odd_same e m = from_expr ws Any (expr.Odd e) (layer.Odd e) (expr.outs-Odd e)
        (unary_same Any e _ m (λ a v st fine. gives _ st fine tt))

    ord_same : (e : TypedExpr) → E e → E (expr.Ord e)
    ord_same e m = from_expr ws Any (expr.Ord e) (layer.Ord e) (expr.outs-Ord e)
        (unary_same Any e (λ a v st. meaning.ordinal v st) m
        (λ a v st fine. same_if P world (int_lt v (pos 0)) (ends range_fault st.out refl) (gives v st fine tt)))

    val_same : (t : TypeNo) (e : TypedExpr) → is_ranged types t ≡ true → E e → E (expr.Val t e)
    val_same t e ok m = from_expr ws Any (expr.Val t e) (layer.Val t e) (expr.outs-Val t e)
        (λ a fit st fine. same_then P world (m a fit st fine) (λ v st fine good.
        same_provided P world lacking (is_ranged a.types t) (as_type a.types t v) st
        (ap (λ (ts : Types). is_ranged ts t) fit.types ∙ ok)
        (same_range P world (scalar_at a.types t) range_fault v st refl fine tt)))

    high_same : (slot : Slot) (t : Ty) → kind_at x.kinds slot ≡ Some (Open t) → E (expr.High slot)
    high_same slot t e = from_expr ws Any (expr.High slot) (layer.High slot) (expr.outs-High slot)
        (λ a fit st fine.
        let o = open_at ws a fit slot t e in
        subst (λ (n : Option Named). Same P world Any (needs lacking (elements_named n) (λ e st. Value (pos e.1) st) st)
        (Value (pos (high_of n)) st)) (sym o.is) (gives (pos o.high) st fine tt))

    call_same : (t : TypeNo) (r : Ty) (c : Call) → C c (Some r)
        → Both ws (IsGood P (Some r)) (sv (expr.Call t c)) (value P ask (expr.Call t c))
    call_same t r c m = from_expr ws (IsGood P (Some r)) (expr.Call t c) (layer.Call t c) (expr.outs-Call t c)
        (λ a fit st fine. m true (λ e. refl) a fit st fine)

    -- ---- chains

    abbrev pub L : Link → Type 0
    L l = (v : ℤ) → Both ws Any (strictly.link_value lacking P sask world l v) (link_value P ask l v)

    from_link : (l : Link) (y : Link-F Argument Call Component Link TypedExpr Place) → out-Link l ≡ y
        → ((v : ℤ) → Both ws Any (strict.link_layer lacking P sask world (strictly.link_meant lacking P sask world y) v)
        (meaning.link_layer P ask (link_meant P ask y) v)) → L l
    from_link l y h m =
        subst (λ (f : Continues). (v : ℤ) → Both ws Any (f v) (link_value P ask l v))
        (sym (strictly.link_means lacking P sask world l y h))
        (subst (λ (f : Continues). (v : ℤ) → Both ws Any
        (strict.link_layer lacking P sask world (strictly.link_meant lacking P sask world y) v) (f v))
        (sym (link_means P ask l y h)) m)

    operated_same : (ts : Types) (o : Arithmetic) (t : TypeNo) (v w : ℤ) (st : State) → IsFine P world st.store
        → Same P world Any (arithmetic_result ts o t v w st) (arithmetic_result ts o t v w st)
    operated_same ts op.Add t v w st fine = same_range P world (scalar_at ts t) overflow _ st refl fine tt
    operated_same ts op.Subtract t v w st fine = same_range P world (scalar_at ts t) overflow _ st refl fine tt
    operated_same ts op.Multiply t v w st fine = same_range P world (scalar_at ts t) overflow _ st refl fine tt
    operated_same ts op.Divide t v w st fine =
        same_if P world (int_lt (pos 0) w) (gives (quotient v w) st fine tt) (ends divisor_fault st.out refl)
    operated_same ts op.Remainder t v w st fine =
        same_if P world (int_lt (pos 0) w) (gives (remainder v w) st fine tt) (ends divisor_fault st.out refl)

    arithmetic_same : (o : Arithmetic) (t : TypeNo) (e : TypedExpr) → has_range lacking P sask world types o t ≡ true
        → E e → L (link.Arithmetic o t e)
    arithmetic_same o t e ok m = from_link (link.Arithmetic o t e) (layer.Arithmetic o t e) (link.outs-Arithmetic o t e)
        (λ v a fit st fine. same_then P world (m a fit st fine) (λ w st fine good.
        same_provided P world lacking (has_range lacking P sask world a.types o t) (arithmetic_result a.types o t v w)
        st (ap (λ (ts : Types). has_range lacking P sask world ts o t) fit.types ∙ ok)
        (operated_same a.types o t v w st fine)))

    and_same : (e : TypedExpr) → E e → L (link.And e)
    and_same e m = from_link (link.And e) (layer.And e) (link.outs-And e)
        (λ v a fit st fine. same_if P world (is_true v) (m a fit st fine) (gives _ st fine tt))

    or_same : (e : TypedExpr) → E e → L (link.Or e)
    or_same e m = from_link (link.Or e) (layer.Or e) (link.outs-Or e)
        (λ v a fit st fine. same_if P world (is_true v) (gives _ st fine tt) (m a fit st fine))

    combine_same : (o : SetOperator) (e : TypedExpr) → E e → L (link.Combine o e)
    combine_same o e m = from_link (link.Combine o e) (layer.Combine o e) (link.outs-Combine o e)
        (λ v a fit st fine. same_then P world (m a fit st fine) (λ w st fine good. gives _ st fine tt))

    abbrev pub Ls : List Link → Type 0
    Ls ls = (v : ℤ) → Both ws Any (one_by_one
        (map (λ (f : Continues). f) (map (strictly.link_value lacking P sask world) ls)) v)
        (one_by_one (map (link_value P ask) ls) v)

    chain_same : (e : TypedExpr) (ls : List Link) → E e → Ls ls → E (expr.Chain e ls)
    chain_same e ls m ms = from_expr ws Any (expr.Chain e ls) (layer.Chain e ls) (expr.outs-Chain e ls)
        (λ a fit st fine. same_then P world (m a fit st fine) (λ v st fine good. ms v a fit st fine))

    -- ---- designators

    root_same : (r : Root) (t : Ty) → typed.IsRoot x ws r t → (a : Environment) → Fits x world ws a
        → (strict.root_layer lacking P sask world r a ≡ Some (meaning.root_layer P ask r a))
        × IsAt t (meaning.root_layer P ask r a)
    root_same _ _ (typed.GlobalRoot v t is) a fit = (
      ap (λ (b : Bool). if b then Some (module_place P v.home ∷ v.number ∷ []) else None)
          (knows.modules v.home is.known),
      knows.globals v t is,
    )
    root_same _ _ (typed.LocalRoot slot t e) a fit =
        let n = named_at world x.kinds a fit.frames slot (Kept t) e in
        let v = kept_named world (slot_named a slot) (Kept t) n.0 t n.1 n.2 refl in (
          ap variable_of v.is ∙ sym (ap (λ (o : Option Named). Some (location_of o)) v.is),
          ap
              (λ (o : Option Named). type_at world (location_of o)) v.is ∙ v.type,
        )
    root_same _ _ (typed.AliasRoot slot t e) a fit =
        let n = named_at world x.kinds a fit.frames slot (Alias t) e in
        let v = alias_named world (slot_named a slot) (Alias t) n.0 t n.1 n.2 refl in (
          ap variable_of v.is ∙ sym (ap (λ (o : Option Named). Some (location_of o)) v.is),
          ap
              (λ (o : Option Named). type_at world (location_of o)) v.is ∙ v.type,
        )
    root_same _ _ (typed.WithRoot j t e) a fit =
        let q = pair_at (λ t l. type_at world l ≡ Some t) ws a.withs fit.withs j t e in (
          q.1 ∙ sym (ap (λ (o : Option Location). Some (or_root o)) q.1),
          ap
              (λ (o : Option Location). type_at world (or_root o)) q.1 ∙ q.2,
        )

    abbrev sk : Component → Reaches
    sk k = strictly.component_value lacking P sask world k

    abbrev pub K : Ty → Component → Ty → Type 0
    K t k u = (l : Location) → IsAt t l → Both ws (IsAt u) (sk k l) (component_value P ask k l)

    abbrev pub Ks : Ty → List Component → Ty → Type 0
    Ks t ks u = (l : Location) → IsAt t l →
        Both ws (IsAt u) (one_by_one (map sk ks) l) (one_by_one (map (component_value P ask) ks) l)

    from_component : (t u : Ty) (k : Component) (y : Component-F Argument Call Component Link TypedExpr Place)
        → out-Component k ≡ y
        → ((l : Location) → IsAt t l → Both ws (IsAt u)
        (strict.component_layer lacking P sask world (strictly.component_meant lacking P sask world y) l)
        (meaning.component_layer P ask (component_meant P ask y) l)) → K t k u
    from_component t u k y h m =
        subst (λ (f : Reaches). (l : Location) → IsAt t l → Both ws (IsAt u) (f l) (component_value P ask k l))
        (sym (strictly.component_means lacking P sask world k y h))
        (subst (λ (f : Reaches). (l : Location) → IsAt t l
        → Both ws (IsAt u) (strict.component_layer lacking P sask world
        (strictly.component_meant lacking P sask world y) l) (f l)) (sym (component_means P ask k y h)) m)

    field_same : (t : Ty) (n : TypeNo) (j : ℕ) (u : Ty) → component t (j ∷ []) ≡ Some u → K t (component'.Field n j) u
    field_same t n j u e = from_component t u (component'.Field n j) (layer.Field n j) (component'.outs-Field n j)
        (λ l at a fit st fine.
        let is : IsAt u (l ++ j ∷ []) = there_behind world l t (j ∷ []) at ∙ e in
        same_provided P world lacking (is_there (type_at world (l ++ j ∷ []))) (Value (l ++ j ∷ [])) st (ap is_there is)
        (gives (l ++ j ∷ []) st fine is))

    -- an element of an array
    reach_same : (n : ℕ) (u : Ty) (l : Location) (low high v : ℤ) → IsAt (Array n u) l
        → (low ≤ℤ v → v ≤ℤ high → unsigned_abs (v -ℤ low) < n) → (st : State) → IsFine P world st.store
        → Same P world (IsAt u) (element l low high v st ▷ (at_there lacking P sask world)) (element l low high v st)
    reach_same n u l low high v at less st fine = go (is_between low v high) refl
      where
        to : Location
        to = l ++ unsigned_abs (v -ℤ low) ∷ []

        go : (b : Bool) → is_between low v high ≡ b
            → Same P world (IsAt u) (element l low high v st ▷ (at_there lacking P sask world))
            (element l low high v st)
        go false e = subst (λ (b : Bool). Same P world (IsAt u)
            ((if b then Value to st else Ended index_fault st.out) ▷ (at_there lacking P sask world))
            (if b then Value to st else Ended index_fault st.out)) (sym e) (ends index_fault st.out refl)
        go true e =
            let q = between_in low high v e in
            let is : IsAt u to = there_behind world l (Array n u) (unsigned_abs (v -ℤ low) ∷ []) at
            ∙ element_there n (unsigned_abs (v -ℤ low)) u (less q.0 q.1) in
            subst (λ (b : Bool). Same P world (IsAt u)
            ((if b then Value to st else Ended index_fault st.out) ▷ (at_there lacking P sask world))
            (if b then Value to st else Ended index_fault st.out)) (sym e)
            (same_provided P world lacking (is_there (type_at world to)) (Value to) st (ap is_there is)
            (gives to st fine is))

    element_same : (t : TypeNo) (r : Range) (u : Ty) (i : TypedExpr) → index_of types t ≡ Some r
        → tree types t ≡ Array (elements_of (Some r)) u → E i → K (tree types t) (component'.Element t i) u
    element_same t r u i range array m = from_component (tree types t) u (component'.Element t i) (layer.Element t i)
        (component'.outs-Element t i)
        (λ l at a fit st fine. same_then P world (m a fit st fine) (λ v st fine good.
        let o : index_range a.types t ≡ Some r = ap (λ (ts : Types). index_range ts t) fit.types
        ∙ sym (same_index types t) ∙ range in
        subst (λ (o : Option Range). Same P world (IsAt u)
        (needs lacking o (λ r st. element l r.low r.high v st ▷ (at_there lacking P sask world)) st)
        (element_in l o v st)) (sym o)
        (reach_same (elements_of (Some r)) u l r.low r.high v (at ∙ ap Some array)
        (λ a b. lies_within r.low v r.high a b) st fine)))

    from_place : (d : Place) (t : Ty)
        → Both ws (IsAt t) (λ a st. needs lacking (strict.root_layer lacking P sask world d.root a)
        (λ l st. at_there lacking P sask world l st ▷ λ l st. one_by_one (map sk d.components) l a st) st)
        (λ a st. one_by_one (map (component_value P ask) d.components) (meaning.root_layer P ask d.root a) a st) → D d t
    from_place d t m =
        subst (λ (f : Gives Location). Both ws (IsAt t) f (locate P ask d))
        (sym (strictly.place_means lacking P sask world d (out-Place d) refl))
        (subst (λ (f : Gives Location). Both ws (IsAt t)
        (λ a st. needs lacking (strict.root_layer lacking P sask world d.root a)
        (λ l st. at_there lacking P sask world l st ▷ λ l st. one_by_one (map sk d.components) l a st) st) f)
        (sym (place_means P ask d (out-Place d) refl)) m)

    designator_same : (d : Place) (t u : Ty) → typed.IsRoot x ws d.root t → Ks t d.components u → D d u
    designator_same d t u r ks = from_place d u (λ a fit st fine.
        let q = root_same d.root t r a fit in
        let l : Location = meaning.root_layer P ask d.root a in
        same_needs P world lacking (strict.root_layer lacking P sask world d.root a) l _ st _ q.0
        (there_then t l (λ l st. one_by_one (map sk d.components) l a st) st _ q.1 (ks l q.1 a fit st fine)))

    -- an element of an open array comes first
    open_same : (d : Place) (slot : Slot) (t : TypeNo) (v : Ty) (i : TypedExpr) (cs : List Component)
        → d.root ≡ root.Open slot → kind_at x.kinds slot ≡ Some (Open (tree types t))
        → d.components ≡ component'.OpenElement slot t i ∷ cs
        → E i → Ks (tree types t) cs v → D d v
    open_same d slot t v i cs r there comps m ks = from_place d v
        (subst (λ (r : Root). Both ws (IsAt v)
        (λ a st. needs lacking (strict.root_layer lacking P sask world r a)
        (λ l st. at_there lacking P sask world l st ▷ λ l st. one_by_one (map sk d.components) l a st) st)
        (λ a st. one_by_one (map (component_value P ask) d.components) (meaning.root_layer P ask r a) a st)) (sym r)
        (subst (λ (cs : List Component). Both ws (IsAt v)
        (λ a st. needs lacking (strict.root_layer lacking P sask world (root.Open slot) a)
        (λ l st. at_there lacking P sask world l st ▷ λ l st. one_by_one (map sk cs) l a st) st)
        (λ a st. one_by_one (map (component_value P ask) cs) (meaning.root_layer P ask (root.Open slot) a) a st))
        (sym comps) whole))
      where
        k : Component
        k = component'.OpenElement slot t i

        -- the element
        first_same : (a : Environment) → Fits x world ws a → (o : OpenName world (tree types t) (slot_named a slot))
            → (st : State) → IsFine P world st.store
            → Same P world (IsAt (tree types t)) (sk k o.at a st) (component_value P ask k o.at a st)
        first_same a fit o st fine =
            subst (λ (f : Reaches). Same P world (IsAt (tree types t)) (f o.at a st)
            (component_value P ask k o.at a st))
            (sym (strictly.component_means lacking P sask world k (layer.OpenElement slot t i)
            (component'.outs-OpenElement slot t i)))
            (subst (λ (f : Reaches). Same P world (IsAt (tree types t))
            (strict.component_layer lacking P sask world
            (strictly.component_meant lacking P sask world (layer.OpenElement slot t i)) o.at a st) (f o.at a st))
            (sym (component_means P ask k (layer.OpenElement slot t i) (component'.outs-OpenElement slot t i)))
            (same_then P world (m a fit st fine) (λ z st fine good.
            subst (λ (n : Option Named). Same P world (IsAt (tree types t))
            (needs lacking (elements_named n) (λ e st. element o.at (pos 0) (pos e.1) z st ▷
            (at_there lacking P sask world)) st) (element o.at (pos 0) (pos (high_of n)) z st)) (sym o.is)
            (reach_same (suc o.high) (tree types t) o.at (pos 0) (pos o.high) z o.type (λ a b. lies_below z o.high a b)
            st fine))))

        whole : Both ws (IsAt v) (λ a st. needs lacking (strict.root_layer lacking P sask world (root.Open slot) a)
            (λ l st. at_there lacking P sask world l st ▷ λ l st. one_by_one (map sk (k ∷ cs)) l a st) st)
            (λ a st. one_by_one (map (component_value P ask) (k ∷ cs)) (meaning.root_layer P ask (root.Open slot) a) a
            st)
        whole a fit st fine =
            let o = open_at ws a fit slot (tree types t) there in
            subst (λ (n : Option Named). Same P world (IsAt v)
            (needs lacking (first_of (elements_named n))
            (λ l st. at_there lacking P sask world l st ▷ λ l st. one_by_one (map sk (k ∷ cs)) l a st) st)
            (one_by_one (map (component_value P ask) (k ∷ cs)) (location_of n) a st)) (sym o.is)
            (there_then (Array (suc o.high) (tree types t)) o.at (λ l st. one_by_one (map sk (k ∷ cs)) l a st) st _
            o.type
            (same_then P world (first_same a fit o st fine) (λ l st fine at. ks l at a fit st fine)))

    -- ---- arguments

    abbrev sg : Argument → Gives Passed
    sg g = strictly.argument_value lacking P sask world g

    abbrev pub A : Argument → Form → Type 0
    A g f = Both ws (IsGiven P world f) (sg g) (argument_value P ask g)

    abbrev pub As : List Argument → Forms → Type 0
    As gs fs = Both ws (Pairs (IsGiven P world) fs) (meaning.all_given P sask (map sg gs))
        (meaning.all_given P ask (map (argument_value P ask) gs))

    from_argument : (f : Form) (g : Argument) (y : Argument-F Argument Call Component Link TypedExpr Place)
        → out-Argument g ≡ y
        → Both ws (IsGiven P world f) (strict.argument_layer lacking P sask world
        (strictly.argument_meant lacking P sask world y)) (meaning.argument_layer P ask (argument_meant P ask y))
        → A g f
    from_argument f g y h m =
        subst (λ (q : Gives Passed). Both ws (IsGiven P world f) q (argument_value P ask g))
        (sym (strictly.argument_means lacking P sask world g y h))
        (subst (λ (q : Gives Passed). Both ws (IsGiven P world f)
        (strict.argument_layer lacking P sask world (strictly.argument_meant lacking P sask world y)) q)
        (sym (argument_means P ask g y h)) m)

    value_same : (t : TypeNo) (c : Scalar) (e : TypedExpr) → E e → IsCell types t c
        → A (argument.Value t e) (ByNumber c)
    value_same t c e m cell = from_argument (ByNumber c) (argument.Value t e) (layer.Value t e)
        (argument.outs-Value t e)
        (λ a fit st fine. same_then P world (m a fit st fine)
        (λ v st fine good. same_then P world (type_checked Any ws t v a fit st fine (cell_taken t c cell.is) tt)
        (λ v st fine good. gives (Number v) st fine (given_number c v (no_procedure P c v cell.number)))))

    actual_same : (t : TypeNo) (h : Heading) (e : TypedExpr) → H e h → tree types t ≡ Cell (Callable h)
        → A (argument.Value t e) (ByNumber (Callable h))
    actual_same t h e m type = from_argument (ByNumber (Callable h)) (argument.Value t e) (layer.Value t e)
        (argument.outs-Value t e)
        (λ a fit st fine. same_then P world (m a fit st fine)
        (λ v st fine good. same_then P world
        (type_checked (IsProcedureValue P h) ws t v a fit st fine (cell_taken t (Callable h) type) good)
        (λ v st fine good. gives (Number v) st fine
        (given_number (Callable h) v (λ g e. subst (λ (g : Heading). IsProcedureValue P g v) (callable_same h g e)
        good)))))

    name_same : (d : Place) (t : Ty) → D d t → A (argument.Place d) (ByName t)
    name_same d t m = from_argument (ByName t) (argument.Place d) (layer.Place d) (argument.outs-Place d)
        (λ a fit st fine. same_then P world (m a fit st fine)
        (λ l st fine at. gives (Place' l) st fine (given_name t l at)))

    copy_same : (d : Place) (t : Ty) → D d t → A (argument.Place d) (ByCopy t)
    copy_same d t m = from_argument (ByCopy t) (argument.Place d) (layer.Place d) (argument.outs-Place d)
        (λ a fit st fine. same_then P world (m a fit st fine)
        (λ l st fine at. gives (Place' l) st fine (given_copy t l at)))

    array_same : (t : TypeNo) (r : Range) (u : Ty) (is_var : Bool) (d : Place) → index_of types t ≡ Some r
        → tree types t ≡ Array (elements_of (Some r)) u → D d (tree types t) → A (argument.Array t d) (ByArray is_var u)
    array_same t r u is_var d range array m =
        from_argument (ByArray is_var u) (argument.Array t d) (layer.Array t d) (argument.outs-Array t d)
        (λ a fit st fine. same_then P world (m a fit st fine) (λ l st fine at.
        let o : index_range a.types t ≡ Some r = ap (λ (ts : Types). index_range ts t) fit.types
        ∙ sym (same_index types t) ∙ range in
        let n : ℕ = unsigned_abs (r.high -ℤ r.low) in
        subst (λ (o : Option Range). Same P world (IsGiven P world (ByArray is_var u))
        (needs lacking o (λ r st. Value (Whole l (elements_of (Some r) - 1)) st) st)
        (Value (Whole l (elements_of o - 1)) st)) (sym o)
        (gives (Whole l (n + 1 - 1)) st fine (given_array is_var u l (n + 1 - 1)
        (at ∙ ap Some array ∙ ap (λ (n : ℕ). Some (Array n u)) (sym (one_less n)))))))

    whole_same : (slot : Slot) (is_var : Bool) (u : Ty) → kind_at x.kinds slot ≡ Some (Open u)
        → A (argument.Open slot) (ByArray is_var u)
    whole_same slot is_var u e = from_argument (ByArray is_var u) (argument.Open slot) (layer.Open slot)
        (argument.outs-Open slot)
        (λ a fit st fine.
        let o = open_at ws a fit slot u e in
        subst (λ (n : Option Named). Same P world (IsGiven P world (ByArray is_var u))
        (needs lacking (elements_named n) (λ e st. Value (Whole e.0 e.1) st) st)
        (Value (Whole (location_of n) (high_of n)) st)) (sym o.is)
        (gives (Whole o.at o.high) st fine (given_array is_var u o.at o.high o.type)))

    text_same : (text : List ℕ) → A (argument.Text text) (ByArray false (Cell (Natural 255)))
    text_same text = from_argument (ByArray false (Cell (Natural 255))) (argument.Text text) (layer.Text text)
        (argument.outs-Text text) (λ a fit st fine. gives (Text text) st fine (given_text text))

    more_same : (g : Argument) (gs : List Argument) (f : Form) (fs : Forms) → A g f → As gs fs → As (g ∷ gs) (f ∷ fs)
    more_same g gs f fs m ms = λ a fit st fine. same_then P world (m a fit st fine)
        (λ v st fine one. same_then P world (ms a fit st fine)
        (λ vs st fine others. gives (v ∷ vs) st fine (more_pairs f fs v vs one others)))

    -- ---- calls

    from_call : (r : Result) (c : Call) (y : Call-F Argument Call Component Link TypedExpr Place) → out-Call c ≡ y
        → ((wanted : Bool) → (wanted ≡ true → is_there r ≡ true)
        → Both ws (IsGood P r) (strict.call_layer lacking P sask world (strictly.call_meant lacking P sask world y)
        wanted) (meaning.call_layer P ask (call_meant P ask y))) → C c r
    from_call r c y h m =
        subst (λ (q : Calls). (wanted : Bool) → (wanted ≡ true → is_there r ≡ true)
        → Both ws (IsGood P r) (q wanted) (call_value P ask c))
        (sym (strictly.call_means lacking P sask world c y h))
        (subst (λ (q : Gives ℤ). (wanted : Bool) → (wanted ≡ true → is_there r ≡ true)
        → Both ws (IsGood P r) (strict.call_layer lacking P sask world (strictly.call_meant lacking P sask world y)
        wanted) q) (sym (call_means P ask c y h)) m)

    suits_same : (headed wanted function : Bool) → headed ≡ true → (wanted ≡ true → function ≡ true)
        → headed && (not wanted || function) ≡ true
    suits_same headed true function e h = ap (λ (b : Bool). b && function) e ∙ h refl
    suits_same headed false function e h = ap (λ (b : Bool). b && true) e

    -- of a procedure that is known
    asked_same : (o : Spot P) (frames : Frames) → AreFrames world (environment_of o.home o.routine) frames
        → (fs : Forms) (r : Result) → forms_of o.home.types o.routine.heading ≡ fs
        → result_of o.home.types o.routine.heading ≡ r
        → (gs : List Argument) → As gs fs → (h : Heading) → heading_at o.home.types o.routine.heading ≡ Some h
        → (wanted : Bool) → (wanted ≡ true → is_there r ≡ true) → (a : Environment) → Fits x world ws a
        → (st : State) → IsFine P world st.store
        → Same P world (IsGood P r) (strict.call_with lacking P sask world wanted
        (Some (callee_of o.place o.home o.routine frames)) (map sg gs) a st)
        (meaning.call_with P ask (Some (callee_of o.place o.home o.routine frames)) (map (argument_value P ask) gs)
        a st)
    asked_same o frames is fs r forms result gs ms h headed wanted ok a fit st fine =
        let c : Callee = callee_of o.place o.home o.routine frames in
        let suits : suits_call lacking P sask world wanted c ≡ true =
        suits_same (is_procedure_type o.home.types o.routine.heading) wanted _
        (headed_type o.home.types (made_at o.home.types o.routine.heading) h headed)
        (λ e. means_it o.home.types o.routine.heading ∙ ap (λ (r : Result). is_there r) result ∙ ok e) in
        let all' : CalleeSame P world sask ask c fs r =
        subst (λ (fs : Forms). CalleeSame P world sask ask c fs r) forms
        (subst (λ (r : Result). CalleeSame P world sask ask c (forms_of o.home.types o.routine.heading) r) result
        (all o frames is)) in
        same_provided P world lacking (suits_call lacking P sask world wanted c)
        (meaning.call_with P sask (Some c) (map sg gs) a) st suits
        (same_then P world (ms a fit st fine) (λ vs st fine given.
        subst (λ (n : ℕ). Same P world (IsGood P r) (sask (Some c) vs n a.free st) (ask (Some c) vs n a.free st))
        (sym fit.next) (all' vs given a.free st fine)))

    module_same : (f : Procedure) (args : List Argument) → IsNamed x f → (k : Heading)
        → heading_at types f.heading ≡ Some k → As args (forms_of types f.heading)
        → C (call.Module f args) (result_of types f.heading)
    module_same f args h k headed ms = from_call (result_of types f.heading) (call.Module f args) (layer.Module f args)
        (call.outs-Module f args)
        (λ wanted ok a fit st fine.
        let o : Spot P = spot_of f h in
        let none : AreFrames world (environment_of h.home h.routine) [] =
        subst (λ (kss : List Kinds). AreFrames world kss []) (sym h.outermost) no_pairs in
        same_provided P world lacking (is_module P f.home) _ st (knows.modules f.home h.known)
        (subst (λ (q : Option Callee). Same P world (IsGood P (result_of types f.heading))
        (strict.call_with lacking P sask world wanted q (map sg args) a st)
        (meaning.call_with P ask q (map (argument_value P ask) args) a st)) (sym (named_callee f h))
        (asked_same o [] none (forms_of types f.heading) (result_of types f.heading) h.forms h.result args ms k
        (h.heading ∙ headed) wanted ok a fit st fine)))

    nested_same : (f : LocalProcedure) (args : List Argument) → IsInner x f → (k : Heading)
        → heading_at types f.heading ≡ Some k → As args (forms_of types f.heading)
        → C (call.Nested f args) (result_of types f.heading)
    nested_same f args h k headed ms = from_call (result_of types f.heading) (call.Nested f args) (layer.Nested f args)
        (call.outs-Nested f args)
        (λ wanted ok a fit st fine.
        let frames : Frames = drop f.up a.frames in
        let o : Spot P = record {
          place = x.place;
          home = x.home;
          there = h.there;
          at = which.Local f.number;
          routine =
              h.routine;
          is = h.is;
        } in
        let is : AreFrames world (environment_of x.home h.routine) frames =
        subst (λ (kss : List Kinds). AreFrames world kss frames) (sym h.kinds)
        (pairs_drop (AreNames world) f.up x.kinds a.frames fit.frames) in
        let less : f.up < length a.frames = subst (λ (n : ℕ). f.up < n)
        (pairs_length (AreNames world) x.kinds a.frames fit.frames) h.less in
        let found : nested_in a.place (slice_get P a.place) frames f.number
        ≡ Some (callee_of x.place x.home h.routine frames) =
        ap (λ (n : ℕ). nested_in n (slice_get P n) frames f.number) fit.place
        ∙ ap (λ (q : Option TypedModule). nested_in x.place q frames f.number) h.there
        ∙ ap (λ (q : Option Routine). callee_with x.place types frames q) h.is in
        same_provided P world lacking (nat_lt f.up (length a.frames)) _ st (lt-ltb f.up (length a.frames) less)
        (subst (λ (q : Option Callee). Same P world (IsGood P (result_of types f.heading))
        (strict.call_with lacking P sask world wanted q (map sg args) a st)
        (meaning.call_with P ask q (map (argument_value P ask) args) a st)) (sym found)
        (asked_same o frames is (forms_of types f.heading) (result_of types f.heading) h.forms h.result args ms k
        (h.heading ∙ headed) wanted ok a fit st fine)))

    -- of the procedure that a variable holds
    held_same : (t : TypeNo) (h : Heading) → heading_at types t ≡ Some h → (args : List Argument)
        → As args (forms_of types t) → (wanted : Bool) → (wanted ≡ true → is_there (result_of types t) ≡ true) → (v : ℤ)
        → IsProcedureValue P h v
        → (a : Environment) → Fits x world ws a → (st : State) → IsFine P world st.store
        → Same P world (IsGood P (result_of types t))
        (strict.asked_value lacking P sask world wanted v (map sg args) a st)
        (meaning.asked_if P ask (entry_callee P (entry_of P v)) (map (argument_value P ask) args) a st)
    held_same t h e args ms wanted ok _ Empty a fit st fine = ends empty_procedure st.out refl
    held_same t h e args ms wanted ok _ (Full n names) a fit st fine =
        let o : Spot P = record {
          place = names.place;
          home = names.home;
          there = names.there;
          at =
              which.Module names.number;
          routine = names.routine;
          is = names.is;
        } in
        let none : AreFrames world (environment_of names.home names.routine) [] =
        subst (λ (kss : List Kinds). AreFrames world kss []) (sym (knows.outermost o names.number refl)) no_pairs in
        let forms : forms_of names.home.types names.routine.heading ≡ forms_of types t =
        forms_same names.home.types names.routine.heading h names.heading ∙ sym (forms_same types t h e) in
        let result : result_of names.home.types names.routine.heading ≡ result_of types t =
        result_same names.home.types names.routine.heading h names.heading ∙ sym (result_same types t h e) in
        subst (λ (n : ℕ). Same P world (IsGood P (result_of types t))
        (strict.asked_value lacking P sask world wanted (pos n) (map sg args) a st)
        (meaning.asked_if P ask (entry_callee P (entry_of P (pos n))) (map (argument_value P ask) args) a st))
        (sym names.value)
        (subst (λ (q : Option Callee). Same P world (IsGood P (result_of types t))
        (strict.call_with lacking P sask world wanted q (map sg args) a st)
        (meaning.asked_if P ask q (map (argument_value P ask) args) a st)) (sym (found_at h n names))
        (asked_same o [] none (forms_of types t) (result_of types t) forms result args ms h names.heading wanted ok a
        fit st fine))

    variable_same : (t : TypeNo) (h : Heading) (d : Place) (args : List Argument) → heading_at types t ≡ Some h
        → D d (Cell (Callable h)) → As args (forms_of types t) → C (call.Variable t d args) (result_of types t)
    variable_same t h d args e m ms = from_call (result_of types t) (call.Variable t d args) (layer.Variable t d args)
        (call.outs-Variable t d args)
        (λ wanted ok a fit st fine. same_then P world (cell_there (m a fit st fine))
        (λ l st fine at. held_same t h e args ms wanted ok (st.store l) (fine.each l h at) a fit st fine))

  -- ---- all of them

  mutual
    pub expr_same : (ws : List Ty) (a b : ℕ) (e : TypedExpr) (t : TypeNo) → typed.IsExpr x ws a b e t → E ws e
    expr_same ws _ _ _ _ (typed.Constant a t n is) = constant_same ws t n
    expr_same ws _ _ _ _ (typed.Load a b t c d cell h) = load_same ws t c d (place_same ws a b d (Cell c) h)
    expr_same ws _ _ _ _ (typed.ProcedureValue a b t h e is of none) =
        λ q fit st fine. same_weak P world (λ v good. tt) (procedure_expr_same ws a b e h is q fit st fine)
    expr_same ws _ _ _ _ (typed.Plus a b t u e h g) = plus_same ws t e (expr_same ws a b e u h)
    expr_same ws _ _ _ _ (typed.Negate a b u e h) = negate_same ws e (expr_same ws a b e u h)
    expr_same ws _ _ _ _ (typed.Chain a b c u t e ls h hs) =
        chain_same ws e ls (expr_same ws a b e u h) (links_same ws b c u ls t hs)
    expr_same ws _ _ _ _ (typed.Compare a b c u v o e f h g) =
        compare_same ws o e f (expr_same ws a b e u h) (expr_same ws b c f v g)
    expr_same ws _ _ _ _ (typed.Not a b u e h g) = not_same ws e (expr_same ws a b e u h)
    expr_same ws _ _ _ _ (typed.Include a b c u v o e f h i g j) =
        include_same ws o e f (expr_same ws a b e u h) (expr_same ws b c f v g)
    expr_same ws _ _ _ _ (typed.In a b c u v e f h g j) =
        in_same ws e f (expr_same ws a b e u h) (expr_same ws b c f v g)
    expr_same ws _ _ _ _ (typed.Abs a b t u e h i j ranged') =
        abs_same ws t e (ranged (scalar_at types t) ranged') (expr_same ws a b e u h)
    expr_same ws _ _ _ _ (typed.Cap a b u e h i) = cap_same ws e (expr_same ws a b e u h)
    expr_same ws _ _ _ _ (typed.Chr a b u e h) = chr_same ws e (expr_same ws a b e u h)
    expr_same ws _ _ _ _ (typed.Odd a b u e h) = odd_same ws e (expr_same ws a b e u h)
    expr_same ws _ _ _ _ (typed.Ord a b u e h i j) = ord_same ws e (expr_same ws a b e u h)
    expr_same ws _ _ _ _ (typed.Val a b t u e h i) =
        val_same ws t e (ranged (scalar_at types t) i) (expr_same ws a b e u h)
    expr_same ws _ _ _ _ (typed.High a slot t there) = high_same ws slot t there
    expr_same ws _ _ _ _ (typed.FunctionCall a b t r c h cell) =
        λ q fit st fine. same_weak P world (λ v good. tt)
        (call_same ws t (tree types t) c (calls_same ws a b c (Some (tree types t)) h) q fit st fine)

    pub procedure_expr_same : (ws : List Ty) (a b : ℕ) (e : TypedExpr) (h : Heading)
        → typed.IsProcedureExpr x ws a b e h → H ws e h
    procedure_expr_same ws _ _ _ _ (typed.LoadedProcedure a b t h d type g) =
        loaded_same ws t h d (place_same ws a b d (Cell (Callable h)) g)
    procedure_expr_same ws _ _ _ _ (typed.NamedProcedure a f h known is) = procedure_same ws f h known is
    procedure_expr_same ws _ _ _ _ (typed.GivenProcedure a b t h c g) =
        λ q fit st fine. same_weak P world (λ v good. good h refl)
        (call_same ws t (Cell (Callable h)) c (calls_same ws a b c (Some (Cell (Callable h))) g) q fit st fine)

    links_same : (ws : List Ty) (a b : ℕ) (t : TypeNo) (ls : List Link) (u : TypeNo) → typed.AreLinks x ws a b t ls u
        → Ls ws ls
    links_same ws _ _ _ _ _ (typed.no_links a t) = λ v q fit st fine. gives v st fine tt
    links_same ws _ _ _ _ _ (typed.more_links a b c t u v l ls h hs) =
        λ z q fit st fine. same_then P world (link_same ws a b t l u h z q fit st fine)
        (λ z st fine good. links_same ws b c u ls v hs z q fit st fine)

    link_same : (ws : List Ty) (a b : ℕ) (t : TypeNo) (l : Link) (u : TypeNo) → typed.IsLink x ws a b t l u → L ws l
    link_same ws _ _ _ _ _ (typed.Sum a b t u w e h i) =
        arithmetic_same ws op.Add w e (ranged (scalar_at types w) i) (expr_same ws a b e u h)
    link_same ws _ _ _ _ _ (typed.Difference a b t u w e h i) =
        arithmetic_same ws op.Subtract w e (ranged (scalar_at types w) i) (expr_same ws a b e u h)
    link_same ws _ _ _ _ _ (typed.Product a b t u w e h i) =
        arithmetic_same ws op.Multiply w e (ranged (scalar_at types w) i) (expr_same ws a b e u h)
    link_same ws _ _ _ _ _ (typed.Quotient a b t u w e h i j) =
        arithmetic_same ws op.Divide w e refl (expr_same ws a b e u h)
    link_same ws _ _ _ _ _ (typed.Remainder a b t u w e h i j) =
        arithmetic_same ws op.Remainder w e refl (expr_same ws a b e u h)
    link_same ws _ _ _ _ _ (typed.And a b t u e h i j) = and_same ws e (expr_same ws a b e u h)
    link_same ws _ _ _ _ _ (typed.Or a b t u e h i j) = or_same ws e (expr_same ws a b e u h)
    link_same ws _ _ _ _ _ (typed.Combine a b t u o e h i j) = combine_same ws o e (expr_same ws a b e u h)

    pub place_same : (ws : List Ty) (a b : ℕ) (d : Place) (t : Ty) → typed.IsPlace x ws a b d t → D ws d t
    place_same ws _ _ _ _ (typed.Designator a b d t u r hs) =
        designator_same ws d t u r (components_same ws a b t d.components u hs)
    place_same ws _ _ _ _ (typed.OfOpen a b c d slot t u v w i cs r there ks h hs) =
        open_same ws d slot t v i cs r there ks (expr_same ws a b i w h) (components_same ws b c (tree types t) cs v hs)

    components_same : (ws : List Ty) (a b : ℕ) (t : Ty) (ks : List Component) (u : Ty)
        → typed.AreComponents x ws a b t ks u → Ks ws t ks u
    components_same ws _ _ _ _ _ (typed.no_components a t) = λ l at q fit st fine. gives l st fine at
    components_same ws _ _ _ _ _ (typed.more_components a b c t u v k ks h hs) =
        λ l at q fit st fine. same_then P world (component_same ws a b t k u h l at q fit st fine)
        (λ l st fine at. components_same ws b c u ks v hs l at q fit st fine)

    component_same : (ws : List Ty) (a b : ℕ) (t : Ty) (k : Component) (u : Ty) → typed.IsComponent x ws a b t k u
        → K ws t k u
    component_same ws _ _ _ _ _ (typed.FieldOf a t j u there) = field_same ws (tree types t) t j u there
    component_same ws _ _ _ _ _ (typed.ElementOf a b t w r u i range array h) =
        element_same ws t r u i range array (expr_same ws a b i w h)

    pub calls_same : (ws : List Ty) (a b : ℕ) (c : Call) (r : Result) → typed.IsCall x ws a b c r → C ws c r
    calls_same ws _ _ _ _ (typed.OfModule a b f args known hs) =
        module_same ws f args known.named known.shape known.headed
        (arguments_same ws a b args (forms_of types f.heading) hs)
    calls_same ws _ _ _ _ (typed.OfProcedure a b f args known hs) =
        nested_same ws f args known.inner known.shape known.headed
        (arguments_same ws a b args (forms_of types f.heading) hs)
    calls_same ws _ _ _ _ (typed.OfVariable a b c t h d args is type g signed hs) =
        variable_same ws t h d args is (place_same ws a b d (Cell (Callable h)) g)
        (arguments_same ws b c args (forms_of types t) hs)

    arguments_same : (ws : List Ty) (a b : ℕ) (args : List Argument) (fs : Forms) → typed.AreArguments x ws a b args fs
        → As ws args fs
    arguments_same ws _ _ _ _ (typed.no_arguments a) = λ q fit st fine. gives [] st fine no_pairs
    arguments_same ws _ _ _ _ (typed.more_arguments a b c g gs f fs h hs) =
        more_same ws g gs f fs (argument_same ws a b g f h) (arguments_same ws b c gs fs hs)

    argument_same : (ws : List Ty) (a b : ℕ) (g : Argument) (f : Form) → typed.IsArgument x ws a b g f → A ws g f
    argument_same ws _ _ _ _ (typed.Value a b t u c e h cell is) = value_same ws t c e (expr_same ws a b e u h) cell
    argument_same ws _ _ _ _ (typed.ProcedureActual a b t h e g none type) =
        actual_same ws t h e (procedure_expr_same ws a b e h g) type
    argument_same ws _ _ _ _ (typed.ActualName a b d t h) = name_same ws d t (place_same ws a b d t h)
    argument_same ws _ _ _ _ (typed.ActualCopy a b d t h) = copy_same ws d t (place_same ws a b d t h)
    argument_same ws _ _ _ _ (typed.ActualArray a b t r u is_var d range narrow array h) =
        array_same ws t r u is_var d range array (place_same ws a b d (tree types t) h)
    argument_same ws _ _ _ _ (typed.ActualOpen a slot is_var u there) = whole_same ws slot is_var u there
    argument_same ws _ _ _ _ (typed.ActualText a text has below) = text_same ws text
