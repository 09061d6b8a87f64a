-- Expressions, designators and calls of typed trees: their code does what the definition says.
use Rattle.std.proofs.Common.{◌≡◌, ⊎_elim, ℕ, zero, suc, ◌+◌, ◌-◌, ◌<◌, ◌^◌, ℤ, pos, Bool, true, false, List, [], ◌∷◌, ◌++◌, map, length, Option, Some, None, if◌then◌else◌, refl, sym, ap, subst, ◌∙◌, append_assoc, arith}
use Rattle.std.specs.Prelude.{drop, slice_get, ◌≤ℤ◌, ◌-ℤ◌, ◌≤◌}
use Rattle.wasm_tree.specs.declared.instr.Instr.{Instr}
use Rattle.wasm_tree.specs.declared.instr.Instr.TheVariants as instr
use Rattle.wasm_tree.specs.declared.instr.Operation.TheVariants.{Sub, And as AndOp, ShrU}
use Rattle.wasm_tree.specs.declared.store.Value.{Value as Operand}
use Rattle.wasm_tree.specs.declared.store.Value.TheVariants.{I32, I64}
use Rattle.wasm_tree.specs.Machine.{type_at}
use Rattle.law_effect.specs.Effect.{Effect}
use Rattle.law_effect.proofs.Steps.{get_runs}
use Rattle.typed_tree.specs.declared.computed.Argument.{Argument, Argument-F, out-Argument}
use Rattle.typed_tree.specs.declared.computed.Argument.TheOpen as layer
use Rattle.typed_tree.specs.declared.computed.Argument.TheVariants as argument
use Rattle.typed_tree.specs.declared.computed.Arithmetic.{Arithmetic}
use Rattle.typed_tree.specs.declared.computed.Arithmetic.TheVariants as op
use Rattle.typed_tree.specs.declared.computed.Call.{Call, Call-F, out-Call}
use Rattle.typed_tree.specs.declared.computed.Call.TheVariants as call
use Rattle.typed_tree.specs.declared.computed.Comparison.{Comparison}
use Rattle.typed_tree.specs.declared.computed.Component.{Component, Component-F, out-Component}
use Rattle.typed_tree.specs.declared.computed.Component.TheVariants as component'
use Rattle.typed_tree.specs.declared.computed.Inclusion.{Inclusion}
use Rattle.typed_tree.specs.declared.computed.Inclusion.TheVariants as inclusion
use Rattle.typed_tree.specs.declared.computed.Link.{Link, Link-F, out-Link}
use Rattle.typed_tree.specs.declared.computed.Link.TheVariants as link
use Rattle.typed_tree.specs.declared.computed.LocalProcedure.{LocalProcedure}
use Rattle.typed_tree.specs.declared.computed.Place.{Place, out-Place}
use Rattle.typed_tree.specs.declared.computed.Root.{Root}
use Rattle.typed_tree.specs.declared.computed.Root.TheVariants as root
use Rattle.typed_tree.specs.declared.computed.SetOperator.{SetOperator}
use Rattle.typed_tree.specs.declared.computed.Slot.{Slot}
use Rattle.typed_tree.specs.declared.computed.TypedExpr.{TypedExpr, TypedExpr-F, out-TypedExpr}
use Rattle.typed_tree.specs.declared.computed.TypedExpr.TheVariants as expr
use Rattle.typed_tree.specs.declared.meaning.Procedure.{Procedure}
use Rattle.typed_tree.specs.declared.shape.Scalar.{Scalar as Range}
use Rattle.typed_tree.specs.declared.typed_module.TypedModule.{TypedModule}
use Rattle.typed_tree.specs.declared.types.TypeNo.{TypeNo}
use Rattle.typed_tree.specs.declared.known_types.Types.{Types}
use Rattle.typed_tree.specs.Types.{are_same, integer, cardinal, boolean, char, bitset}
use Rattle.typed_tree.specs.Known.{scalar_at}
use Rattle.layout_storage.specs.Types.{Ty, Scalar, Natural, Callable, Cell, Array, Heading, row, component}
use Rattle.layout_storage.specs.Sizes.{size, offset}
use Rattle.layout_storage.specs.Shapes.{tree, elements_of}
use Rattle.layout_storage.specs.Frames.{formals_of}
use Rattle.layout_storage.specs.Texts.{argument_text}
use Rattle.def_meaning.specs.Store.{Location}
use Rattle.def_meaning.specs.Answer.{State as Source, Value, ◌▷◌}
use Rattle.def_meaning.specs.Environment.{Modules, Callee, Frames, Passed, Number, Array as Whole, entry_of, entry_callee, module_place, nested_in, slot_named, high_of}
use Rattle.def_meaning.specs.Expressions as meaning
use Rattle.def_meaning.specs.Expressions.{Asks, Gives, Reaches as Reached, Continues, value, locate, call_value}
use Rattle.def_scheme.specs.Coded.{Coded, top_local, plain, ◌⨾◌, all_coded, with_setting, with_number, number, operation, extend_word, wrap_word, relation, check_code, raise_address}
use Rattle.def_scheme.specs.Cells as cells
use Rattle.def_scheme.specs.Cells.{base_of, in_type, check_taken, is_free}
use Rattle.def_scheme.specs.Exprs as code
use Rattle.law_memory.specs.Relation.{NamesProcedure, heading_at, value_number}
use Rattle.def_scheme.specs.Exprs.{Part, Linked, Numbered, behind, part_of, link_of, chain_type, chain_code, all_arguments, has_result, expr_part, place_code, call_code, index_of}
use Rattle.def_scheme.specs.Modules.{numbering_of}
use Rattle.def_scheme.specs.Signatures.{signatures_needed, of_heading, is_among, type_of}
use Rattle.law_simulation.specs.Scene.{Scene, calls as scene_calls, place as scene_place, IsValue, AreAmong, AreNatural, IsCell, runs, inside, keeping, Into, GivesNumber, Agrees, GoesOn, Reaches, Locates}
use Rattle.law_simulation.specs.Laws.{AreLinked, no_links as none_linked, more_links as more_linked, AreReached, no_components as none_reached, more_components as more_reached}
use Rattle.law_simulation.proofs.Laws as laws
use Rattle.law_simulation.proofs.Unary.{among_agrees}
use Rattle.law_simulation.proofs.Relations.{extended_runs}
use Rattle.law_simulation.proofs.Components.{same_index}
use Rattle.law_simulation.specs.Frames.{Kinds, Open, kind_at, IsChain, chain_end, chain_more}
use Rattle.law_simulation.specs.Held.{GivesHeld, AgreesHeld, held_call}
use Rattle.law_simulation.specs.CallsLaws.{HasSlot}
use Rattle.law_simulation.specs.Passing.{Form, ByNumber, ByCopy, ByName, ByArray, Forms, Result, forms_of, result_of, heading_result, links, GivesResult, Passes, PassAll, pass_none, pass_more, Calls}
use Rattle.law_simulation.proofs.Headings.{forms_same, result_same}
use Rattle.law_simulation.proofs.Held.{held_calls}
use Rattle.law_simulation.proofs.Procedures.{held_loads, held_procedures, held_results, held_numbers, held_taken, held_passes}
use Rattle.law_simulation.proofs.Values.{taken}
use Rattle.law_simulation.proofs.CallsSlots.{frame_runs, kept_locates, alias_locates, open_locates, open_reaches, high_agrees}
use Rattle.law_simulation.proofs.Passes.{give_assoc, passes_alike, value_passes, name_passes, copy_passes, array_passes, open_passes, text_passes}
use Rattle.law_simulation.proofs.Called.{call_agrees, front_calls}
use Rattle.law_simulation.proofs.Opened.{argument_code, component_code, link_part, expr_opened, expr_at, link_opened, link_at, component_opened, component_at, place_at, call_opened, call_at, argument_opened, argument_at}
use Rattle.law_simulation.specs.Placed.{Pins}
use Rattle.law_simulation.specs.TreesTyped as typed
use Rattle.law_simulation.specs.TreesTyped.{Context, IsNamed, IsCallable, IsInner, IsTaken}
use Rattle.law_simulation.specs.Fitting.{Fits}
use Rattle.law_simulation.proofs.Pinned.{pins_plain, pins_then, pins_setting, pins_number, pins_within, pins_text}
use Rattle.law_simulation.proofs.TreesMeant.{argument_value, component_value, link_value, expr_meant, expr_means, link_meant, link_means, component_meant, component_means, place_means, call_meant, call_means, argument_meant, argument_means}
use Rattle.law_simulation.proofs.TreesFitted.{fits_keeping}

held_alike : (k : Scene) (h : Heading) (code : Coded) (f g : Gives ℤ) → ((s : Source) → f k.around s ≡ g k.around s)
    → AgreesHeld k h code f → AgreesHeld k h code g
held_alike k h code f g same is = record {
  grows = is.grows;
  gives = λ e c free full s st stands rest stack. subst
      (Into (GivesHeld k h (runs k rest) stack) (runs k ((code (inside k e) c).0 ++ rest) st stack)) (same s)
      (is.gives e c free full s st stands rest stack);
}

-- what begins with a value of one type begins with one of another, whose values are among them
goes_among : (k : Scene) (t u w : TypeNo) (x : Coded) (f : Continues) → AreAmong k.setting.home.types t u
    → GoesOn k u w x f → GoesOn k t w x f
goes_among k t u w x f among h = record {
  grows = h.grows;
  gives =
      λ e c free full v is s st stands rest stack. h.gives e c free full v (among v is) s st stands rest stack;
}

module _ (x : Context) (ask : Asks) where
  abbrev pub N : Numbered
  N = numbering_of x.home

  abbrev pub P : Modules
  P = x.p

  -- ---- what is shown of a tree

  pub record MadeExpr (ws : List Ty) (a b : ℕ) (t : TypeNo) (part : Part) (v : Gives ℤ) : Type 0 where
    pub of : part.of ≡ t
    pub placed : Coded
    pub pins : Pins a b part.code placed
    pub agrees : (k : Scene) → Fits x ask ws k → Agrees k part.of placed v

  -- of one of a procedure type
  pub record MadeHeld (ws : List Ty) (a b : ℕ) (h : Heading) (c : Coded) (v : Gives ℤ) : Type 0 where
    pub placed : Coded
    pub pins : Pins a b c placed
    pub agrees : (k : Scene) → Fits x ask ws k → AgreesHeld k h placed v

  pub record MadePlace (ws : List Ty) (a b : ℕ) (t : Ty) (c : Coded) (found : Gives Location) : Type 0 where
    pub placed : Coded
    pub pins : Pins a b c placed
    pub locates : (k : Scene) → Fits x ask ws k → Locates k t placed found

  pub record MadeReach (ws : List Ty) (a b : ℕ) (t u : Ty) (c : Coded) (r : Reached) : Type 0 where
    pub placed : Coded
    pub pins : Pins a b c placed
    pub reaches : (k : Scene) → Fits x ask ws k → Reaches k t u placed r

  pub record MadeLink (ws : List Ty) (a b : ℕ) (t u : TypeNo) (l : Linked) (f : Continues) : Type 0 where
    pub of : l.of ≡ u
    pub placed : Coded
    pub pins : Pins a b l.code placed
    pub goes : (k : Scene) → Fits x ask ws k → GoesOn k t l.of placed f

  pub record MadeCall (ws : List Ty) (a b : ℕ) (r : Result) (c : Coded) (v : Gives ℤ) : Type 0 where
    pub placed : Coded
    pub pins : Pins a b c placed
    pub calls : (k : Scene) → Fits x ask ws k → Calls k r placed v

  pub record MadeArgument (ws : List Ty) (a b : ℕ) (f : Form) (c : Coded) (g : Gives Passed) : Type 0 where
    pub placed : Coded
    pub pins : Pins a b c placed
    pub passes : (k : Scene) → Fits x ask ws k → Passes k f placed g

  -- the part with its texts placed
  abbrev pub as_part : (part : Part) → Coded → Part
  as_part part c = record part { code = c }

  -- at the module of the scene
  pub here : (ws : List Ty) (k : Scene) → Fits x ask ws k → (Q : TypedModule → Type 0) → Q x.home → Q k.setting.home
  here ws k fit Q q = subst Q fit.home q

  -- in the program of the scene
  pub in_program : (ws : List Ty) (k : Scene) → Fits x ask ws k → (Q : Modules → Type 0) → Q k.program → Q P
  in_program ws k fit Q q = subst Q fit.program q

  module _ {ws : List Ty} {a b : ℕ} {t : TypeNo} {part : Part} {v : Gives ℤ} (m : MadeExpr ws a b t part v) where
    -- the values of a type are among those of another
    pub among : (u : TypeNo) → AreAmong x.home.types t u → (k : Scene) → Fits x ask ws k
        → AreAmong k.setting.home.types part.of u
    among u h k fit = subst (λ (t : TypeNo). AreAmong k.setting.home.types t u) (sym m.of)
        (here ws k fit (λ home. AreAmong home.types t u) h)

    pub agrees_as : (u : TypeNo) → AreAmong x.home.types t u → (k : Scene) → Fits x ask ws k → Agrees k u m.placed v
    agrees_as u h k fit = among_agrees k fit.set.helpers fit.set.small part.of u m.placed v (m.agrees k fit)
        (among u h k fit)

    -- where something more is kept
    pub agrees_beside : (k : Scene) → Fits x ask ws k → (n : ℕ) (w : Operand) → k.kept n ≡ None
        → Agrees (keeping k n w) part.of m.placed v
    agrees_beside k fit n w new = m.agrees (keeping k n w) (fits_keeping x ask ws k n w new fit)

    pub beside_as : (u : TypeNo) → AreAmong x.home.types t u → (k : Scene) → Fits x ask ws k → (n : ℕ) (w : Operand)
        → k.kept n ≡ None → Agrees (keeping k n w) u m.placed v
    beside_as u h k fit n w new = agrees_as u h (keeping k n w) (fits_keeping x ask ws k n w new fit)

  -- ---- one layer

  from_expr : (ws : List Ty) (a b : ℕ) (t : TypeNo) (e : TypedExpr)
      (y : TypedExpr-F Argument Call Component Link TypedExpr Place) → out-TypedExpr e ≡ y
      → MadeExpr ws a b t (code.expr_layer (expr_opened N y)) (meaning.expr_layer P ask (expr_meant P ask y))
      → MadeExpr ws a b t (expr_part N e) (value P ask e)
  from_expr ws a b t e y h m =
      subst (λ (part : Part). MadeExpr ws a b t part (value P ask e)) (sym (expr_at N e y h))
      (subst (λ (v : Gives ℤ). MadeExpr ws a b t (code.expr_layer (expr_opened N y)) v) (sym (expr_means P ask e y h))
      m)

  from_held : (ws : List Ty) (a b : ℕ) (h : Heading) (e : TypedExpr)
      (y : TypedExpr-F Argument Call Component Link TypedExpr Place) → out-TypedExpr e ≡ y
      → MadeHeld ws a b h (code.expr_layer (expr_opened N y)).code (meaning.expr_layer P ask (expr_meant P ask y))
      → MadeHeld ws a b h (expr_part N e).code (value P ask e)
  from_held ws a b h e y is m =
      subst (λ (part : Part). MadeHeld ws a b h part.code (value P ask e)) (sym (expr_at N e y is))
      (subst (λ (v : Gives ℤ). MadeHeld ws a b h (code.expr_layer (expr_opened N y)).code v)
      (sym (expr_means P ask e y is)) m)

  module _ (ws : List Ty) where
    abbrev pub Expr : (a b : ℕ) → TypedExpr → TypeNo → Type 0
    Expr a b e t = MadeExpr ws a b t (expr_part N e) (value P ask e)

    abbrev pub Held : (a b : ℕ) → TypedExpr → Heading → Type 0
    Held a b e h = MadeHeld ws a b h (expr_part N e).code (value P ask e)

    abbrev pub Placed : (a b : ℕ) → Place → Ty → Type 0
    Placed a b d t = MadePlace ws a b t (place_code N d) (locate P ask d)

    constant_made : (a : ℕ) (t : TypeNo) (n : ℤ) → IsValue x.home.types t n → Expr a a (expr.Constant t n) t
    constant_made a t n is = from_expr ws a a t (expr.Constant t n) (layer.Constant t n) (expr.outs-Constant t n)
        (record {
          of = refl;
          placed = plain (number n ∷ []);
          pins = pins_plain a (number n ∷ []);
          agrees = λ k fit. laws.constants k fit.set P ask t n (here ws k fit (λ m. IsValue m.types t n) is);
        })

    load_made : (a b : ℕ) (t : TypeNo) (c : Scalar) (d : Place) → IsCell x.home.types t c → Placed a b d (Cell c)
        → Expr a b (expr.Load t d) t
    load_made a b t c d cell m = from_expr ws a b t (expr.Load t d) (layer.Load t d) (expr.outs-Load t d) (record {
      of = refl;
      placed = behind m.placed (λ types. cells.load_code types t);
      pins = pins_then m.pins (pins_setting (λ s. pins_plain b (cells.load_code s.home.types t)));
      agrees = λ k fit. laws.loads k fit.set P ask t c m.placed (locate P ask d)
          (here ws k fit (λ m. IsCell m.types t c) cell) (m.locates k fit);
    })

    -- a value of a procedure type is compared as a number
    procedure_made : (a b : ℕ) (t : TypeNo) (h : Heading) (e : TypedExpr) → Held a b e h → (expr_part N e).of ≡ t
        → scalar_at x.home.types t ≡ None → Expr a b e t
    procedure_made a b t h e m of none = record {
      of = of;
      placed = m.placed;
      pins = m.pins;
      agrees = λ k fit. held_numbers k (expr_part N e).of h m.placed (value P ask e)
          (here ws k fit (λ m. scalar_at m.types (expr_part N e).of ≡ None) (ap (scalar_at x.home.types) of ∙ none))
          (m.agrees k fit);
    }

    loaded_made : (a b : ℕ) (t : TypeNo) (h : Heading) (d : Place) → tree x.home.types t ≡ Cell (Callable h)
        → Placed a b d (Cell (Callable h)) → Held a b (expr.Load t d) h
    loaded_made a b t h d type m = from_held ws a b h (expr.Load t d) (layer.Load t d) (expr.outs-Load t d) (record {
      placed = behind m.placed (λ types. cells.load_code types t);
      pins = pins_then m.pins (pins_setting (λ s. pins_plain b (cells.load_code s.home.types t)));
      agrees = λ k fit. held_loads k fit.set P ask t h m.placed (locate P ask d)
          (here ws k fit (λ m. tree m.types t ≡ Cell (Callable h)) type) (m.locates k fit);
    })

    named_procedure : (f : Procedure) (h : Heading) (is : IsNamed x f) → heading_at x.home.types f.heading ≡ Some h
        → NamesProcedure P h (value_number P (module_place P f.home) f.number)
    named_procedure f h is e = record {
      place = module_place P f.home;
      home = is.home;
      there = is.there;
      number =
          f.number;
      routine = is.routine;
      is = is.is;
      value = refl;
      heading = is.heading ∙ e;
    }

    named_made : (a : ℕ) (f : Procedure) (h : Heading) → IsNamed x f → heading_at x.home.types f.heading ≡ Some h
        → Held a a (expr.Procedure f) h
    named_made a f h is e = from_held ws a a h (expr.Procedure f) (layer.Procedure f) (expr.outs-Procedure f) (record {
      placed = with_setting (λ s. plain (code.procedure_code s.home f));
      pins = pins_setting (λ s. pins_plain a (code.procedure_code s.home f));
      agrees = λ k fit. in_program ws k fit (λ p. HasSlot k p f
          → NamesProcedure p h (value_number p (module_place p f.home) f.number)
          → AgreesHeld k h (with_setting (λ s. plain (code.procedure_code s.home f)))
          (meaning.expr_layer p ask (layer.Procedure f)))
          (λ slot names. held_procedures k fit.set ask f h slot names) (fit.slots f is) (named_procedure f h is e);
    })

    result_made : (a b : ℕ) (t : TypeNo) (h : Heading) (c : Call)
        → MadeCall ws a b (Some (Cell (Callable h))) (call_code N c) (call_value P ask c) → Held a b (expr.Call t c) h
    result_made a b t h c m = from_held ws a b h (expr.Call t c) (layer.Call t c) (expr.outs-Call t c) (record {
      placed = m.placed;
      pins = m.pins;
      agrees = λ k fit. held_results k h m.placed (call_value P ask c) (m.calls k fit);
    })

    plus_made : (a b : ℕ) (t u : TypeNo) (e : TypedExpr) → Expr a b e u → AreAmong x.home.types u t
        → Expr a b (expr.Plus t e) t
    plus_made a b t u e m h = from_expr ws a b t (expr.Plus t e) (layer.Plus t e) (expr.outs-Plus t e) (record {
      of = refl;
      placed = m.placed;
      pins = m.pins;
      agrees = λ k fit. laws.identities k fit.set P ask t (as_part (expr_part N e) m.placed) (value P ask e)
          (m.agrees k fit) (among m t h k fit);
    })

    negate_made : (a b : ℕ) (u : TypeNo) (e : TypedExpr) → Expr a b e u → Expr a b (expr.Negate e) integer
    negate_made a b u e m = from_expr ws a b integer (expr.Negate e) (layer.Negate e) (expr.outs-Negate e) (record {
      of = refl;
      placed = plain (instr.I64Const 0 ∷ []) ⨾ behind m.placed (λ types. operation Sub ∷ in_type types integer 2);
      pins = pins_then (pins_plain a (instr.I64Const 0 ∷ []))
          (pins_then m.pins (pins_setting (λ s. pins_plain b (operation Sub ∷ in_type s.home.types integer 2))));
      agrees = λ k fit. laws.opposites k fit.set P ask (as_part (expr_part N e) m.placed) (value P ask e)
          (m.agrees k fit);
    })

    compare_made : (a b c : ℕ) (u v : TypeNo) (o : Comparison) (e f : TypedExpr) → Expr a b e u → Expr b c f v
        → Expr a c (expr.Compare o e f) boolean
    compare_made a b c u v o e f m n = from_expr ws a c boolean (expr.Compare o e f) (layer.Compare o e f)
        (expr.outs-Compare o e f) (record {
          of = refl;
          placed = code.two m.placed n.placed (relation (code.relation_of o) ∷ extend_word ∷ []);
          pins = pins_then m.pins (pins_then n.pins (pins_plain c (relation (code.relation_of o) ∷ extend_word ∷ [])));
          agrees = λ k fit. laws.relations k fit.set P ask o (as_part (expr_part N e) m.placed)
              (as_part (expr_part N f) n.placed) (value P ask e) (value P ask f) (m.agrees k fit) (n.agrees k fit);
        })

    not_made : (a b : ℕ) (u : TypeNo) (e : TypedExpr) → Expr a b e u → AreAmong x.home.types u boolean
        → Expr a b (expr.Not e) boolean
    not_made a b u e m h = from_expr ws a b boolean (expr.Not e) (layer.Not e) (expr.outs-Not e) (record {
      of = refl;
      placed = m.placed ⨾ plain code.empty_code;
      pins = pins_then m.pins (pins_plain b code.empty_code);
      agrees = λ k fit. laws.negations k fit.set P ask (part_of boolean m.placed) (value P ask e)
          (agrees_as m boolean h k fit);
    })

    include_pins : (a b c : ℕ) (o : Inclusion) (y y' z z' : Coded) → Pins a b y y' → Pins b c z z'
        → Pins a c (code.include_code o y z) (code.include_code o y' z')
    include_pins a b c inclusion.Within y y' z z' h g =
        pins_then h (pins_then g (pins_plain c (code.complement ++ (operation AndOp ∷ code.empty_code))))
    include_pins a b c inclusion.Around y y' z z' h g =
        pins_then h (pins_then (pins_plain b code.complement)
        (pins_then g (pins_plain c (operation AndOp ∷ code.empty_code))))

    include_made : (a b c : ℕ) (u v : TypeNo) (o : Inclusion) (e f : TypedExpr) → Expr a b e u
        → AreAmong x.home.types u bitset → Expr b c f v → AreAmong x.home.types v bitset
        → Expr a c (expr.Include o e f) boolean
    include_made a b c u v o e f m h n g =
        from_expr ws a c boolean (expr.Include o e f) (layer.Include o e f) (expr.outs-Include o e f) (record {
          of = refl;
          placed = code.include_code o m.placed n.placed;
          pins = include_pins a b c o (expr_part N e).code m.placed (expr_part N f).code n.placed m.pins n.pins;
          agrees = λ k fit. laws.inclusions k fit.set P ask o (part_of bitset m.placed) (part_of bitset n.placed)
              (value P ask e) (value P ask f) (agrees_as m bitset h k fit) (agrees_as n bitset g k fit);
        })

    in_made : (a b c : ℕ) (u v : TypeNo) (e f : TypedExpr) → Expr a b e u → Expr b c f v
        → AreAmong x.home.types v bitset → Expr a c (expr.In e f) boolean
    in_made a b c u v e f m n g = from_expr ws a c boolean (expr.In e f) (layer.In e f) (expr.outs-In e f) (record {
      of = refl;
      placed = code.in_code m.placed n.placed;
      pins = pins_then m.pins (pins_then (pins_plain b (check_code (pos 0) (pos 31) 1))
          (pins_number (λ t. pins_then (pins_plain b (instr.LocalSet t ∷ []))
          (pins_then n.pins (pins_plain c (instr.LocalGet t ∷ operation ShrU ∷ instr.I64Const 1 ∷ operation AndOp
          ∷ []))))));
      agrees = λ k fit. laws.members k fit.set P ask (as_part (expr_part N e) m.placed) (part_of bitset n.placed)
          (value P ask e) (value P ask f) (m.agrees k fit) (agrees_as n bitset g k fit) (beside_as n bitset g k fit);
    })

    abs_pins : (a b : ℕ) (i : Bool) (y y' : Coded) → Pins a b y y'
        → Pins a b (if i then y ⨾ with_number (λ n. plain (code.absolute_code n)) else y)
        (if i then y' ⨾ with_number (λ n. plain (code.absolute_code n)) else y')
    abs_pins a b true y y' h = pins_then h (pins_number (λ n. pins_plain b (code.absolute_code n)))
    abs_pins a b false y y' h = h

    abs_made : (a b : ℕ) (t u : TypeNo) (e : TypedExpr) → Expr a b e u → AreAmong x.home.types u t
        → (are_same t integer ≡ false → AreNatural x.home.types t) → Expr a b (expr.Abs t e) t
    abs_made a b t u e m h natural = from_expr ws a b t (expr.Abs t e) (layer.Abs t e) (expr.outs-Abs t e) (record {
      of = refl;
      placed = code.abs_code t m.placed;
      pins = abs_pins a b (are_same t integer) (expr_part N e).code m.placed m.pins;
      agrees = λ k fit. laws.absolutes k fit.set P ask t (as_part (expr_part N e) m.placed) (value P ask e)
          (m.agrees k fit) (among m t h k fit)
          (here ws k fit (λ m. are_same t integer ≡ false → AreNatural m.types t) natural);
    })

    cap_made : (a b : ℕ) (u : TypeNo) (e : TypedExpr) → Expr a b e u → AreAmong x.home.types u char
        → Expr a b (expr.Cap e) char
    cap_made a b u e m h = from_expr ws a b char (expr.Cap e) (layer.Cap e) (expr.outs-Cap e) (record {
      of = refl;
      placed = m.placed ⨾ with_number (λ t. plain (code.capital_code t));
      pins = pins_then m.pins (pins_number (λ t. pins_plain b (code.capital_code t)));
      agrees = λ k fit. laws.capitals k fit.set P ask (part_of char m.placed) (value P ask e)
          (agrees_as m char h k fit);
    })

    chr_made : (a b : ℕ) (u : TypeNo) (e : TypedExpr) → Expr a b e u → Expr a b (expr.Chr e) char
    chr_made a b u e m = from_expr ws a b char (expr.Chr e) (layer.Chr e) (expr.outs-Chr e) (record {
      of = refl;
      placed = m.placed ⨾ plain (check_code (pos 0) (pos 255) 1);
      pins = pins_then m.pins (pins_plain b (check_code (pos 0) (pos 255) 1));
      agrees = λ k fit. laws.characters k fit.set P ask (as_part (expr_part N e) m.placed) (value P ask e)
          (m.agrees k fit);
    })

    odd_made : (a b : ℕ) (u : TypeNo) (e : TypedExpr) → Expr a b e u → Expr a b (expr.Odd e) boolean
    odd_made a b u e m = from_expr ws a b boolean (expr.Odd e) (layer.Odd e) (expr.outs-Odd e) (record {
      of = refl;
      placed = m.placed ⨾ plain (instr.I64Const 1 ∷ operation AndOp ∷ []);
      pins = pins_then m.pins (pins_plain b (instr.I64Const 1 ∷ operation AndOp ∷ []));
      agrees = λ k fit. laws.parities k fit.set P ask (as_part (expr_part N e) m.placed) (value P ask e)
          (m.agrees k fit);
    })

    ord_made : (a b : ℕ) (u : TypeNo) (e : TypedExpr) → Expr a b e u → AreAmong x.home.types u (base_of x.home.types u)
        → (are_same (base_of x.home.types u) integer ≡ false → AreNatural x.home.types u)
        → Expr a b (expr.Ord e) cardinal
    ord_made a b u e m h natural = from_expr ws a b cardinal (expr.Ord e) (layer.Ord e) (expr.outs-Ord e) (record {
      of = refl;
      placed = behind m.placed (λ types. code.ord_check types (expr_part N e).of);
      pins = pins_then m.pins (pins_setting (λ s. pins_plain b (code.ord_check s.home.types (expr_part N e).of)));
      agrees = λ k fit. laws.ordinals k fit.set P ask (as_part (expr_part N e) m.placed) (value P ask e)
          (m.agrees k fit)
          (subst (λ (t : TypeNo). AreAmong k.setting.home.types t (base_of k.setting.home.types t)) (sym m.of)
          (here ws k fit (λ m. AreAmong m.types u (base_of m.types u)) h))
          (subst (λ (t : TypeNo). are_same (base_of k.setting.home.types t) integer ≡ false
          → AreNatural k.setting.home.types t) (sym m.of)
          (here ws k fit (λ m. are_same (base_of m.types u) integer ≡ false → AreNatural m.types u) natural));
    })

    val_made : (a b : ℕ) (t u : TypeNo) (e : TypedExpr) → Expr a b e u → (scalar_at x.home.types t ≡ None → ⊥)
        → Expr a b (expr.Val t e) t
    val_made a b t u e m some = from_expr ws a b t (expr.Val t e) (layer.Val t e) (expr.outs-Val t e) (record {
      of = refl;
      placed = behind m.placed (λ types. in_type types t 1);
      pins = pins_then m.pins (pins_setting (λ s. pins_plain b (in_type s.home.types t 1)));
      agrees = λ k fit. laws.conversions k fit.set P ask t (as_part (expr_part N e) m.placed) (value P ask e)
          (m.agrees k fit) (here ws k fit (λ m. scalar_at m.types t ≡ None → ⊥) some);
    })

    high_made : (a : ℕ) (slot : Slot) (t : Ty) → kind_at x.kinds slot ≡ Some (Open t)
        → Expr a a (expr.High slot) cardinal
    high_made a slot t there = from_expr ws a a cardinal (expr.High slot) (layer.High slot) (expr.outs-High slot)
        (record {
          of = refl;
          placed = with_setting (λ s. plain (code.high_code s slot));
          pins = pins_setting (λ s. pins_plain a (code.high_code s slot));
          agrees = λ k fit. high_agrees k fit.set x.kinds fit.frames slot t there;
        })

    function_made : (a b : ℕ) (t : TypeNo) (r : Scalar) (c : Call)
        → MadeCall ws a b (Some (tree x.home.types t)) (call_code N c) (call_value P ask c) → IsCell x.home.types t r
        → Expr a b (expr.Call t c) t
    function_made a b t r c m cell = from_expr ws a b t (expr.Call t c) (layer.Call t c) (expr.outs-Call t c) (record {
      of = refl;
      placed = m.placed;
      pins = m.pins;
      agrees = λ k fit. call_agrees k t r m.placed (call_value P ask c) (here ws k fit (λ h. IsCell h.types t r) cell)
          (here ws k fit (λ h. Calls k (Some (tree h.types t)) m.placed (call_value P ask c)) (m.calls k fit));
    })

  -- ---- operators of chains

  from_link : (ws : List Ty) (a b : ℕ) (t u : TypeNo) (e : Link)
      (y : Link-F Argument Call Component Link TypedExpr Place) → out-Link e ≡ y
      → MadeLink ws a b t u (code.link_layer (link_opened N y)) (meaning.link_layer P ask (link_meant P ask y))
      → MadeLink ws a b t u (link_part N e) (link_value P ask e)
  from_link ws a b t u e y h m =
      subst (λ (l : Linked). MadeLink ws a b t u l (link_value P ask e)) (sym (link_at N e y h))
      (subst (λ (f : Continues). MadeLink ws a b t u (code.link_layer (link_opened N y)) f)
      (sym (link_means P ask e y h)) m)

  -- the operators, with their texts placed
  pub record MadeLinks (ws : List Ty) (a b : ℕ) (t u : TypeNo) (ls : List Linked) (fs : List Continues) : Type 0 where
    pub of : chain_type t ls ≡ u
    pub placed : List Linked
    pub same : (t : TypeNo) → chain_type t placed ≡ chain_type t ls
    pub pins : Pins a b (chain_code ls) (chain_code placed)
    pub linked : (k : Scene) → Fits x ask ws k → AreLinked k t placed fs

  module _ (ws : List Ty) where
    abbrev pub LinkOf : (a b : ℕ) → TypeNo → Link → TypeNo → Type 0
    LinkOf a b t l u = MadeLink ws a b t u (link_part N l) (link_value P ask l)

    arithmetic_pins : (a b : ℕ) (o : Arithmetic) (w : TypeNo) (y y' : Coded) → Pins a b y y'
        → Pins a b (behind y (λ types. code.arithmetic_code types o w))
        (behind y' (λ types. code.arithmetic_code types o w))
    arithmetic_pins a b o w y y' h = pins_then h
        (pins_setting (λ s. pins_plain b (code.arithmetic_code s.home.types o w)))

    arithmetic_made : (a b : ℕ) (o : Arithmetic) (t u w : TypeNo) (e : TypedExpr) → (m : Expr ws a b e u)
        → ((k : Scene) → Fits x ask ws k → GoesOn k t w
        (code.link_layer (layer.Arithmetic o w (as_part (expr_part N e) m.placed))).code
        (meaning.link_layer P ask (layer.Arithmetic o w (value P ask e)))) → LinkOf a b t (link.Arithmetic o w e) w
    arithmetic_made a b o t u w e m go = from_link ws a b t w (link.Arithmetic o w e) (layer.Arithmetic o w e)
        (link.outs-Arithmetic o w e) (record {
          of = refl;
          placed = behind m.placed (λ types. code.arithmetic_code types o w);
          pins = arithmetic_pins a b o w (expr_part N e).code m.placed m.pins;
          goes = go;
        })

    sum_made : (a b : ℕ) (t u w : TypeNo) (e : TypedExpr) → Expr ws a b e u → (scalar_at x.home.types w ≡ None → ⊥)
        → LinkOf a b t (link.Arithmetic op.Add w e) w
    sum_made a b t u w e m some = arithmetic_made a b op.Add t u w e m
        (λ k fit. laws.sums k fit.set P ask t w (as_part (expr_part N e) m.placed) (value P ask e) (m.agrees k fit)
        (here ws k fit (λ m. scalar_at m.types w ≡ None → ⊥) some))

    difference_made : (a b : ℕ) (t u w : TypeNo) (e : TypedExpr) → Expr ws a b e u
        → (scalar_at x.home.types w ≡ None → ⊥) → LinkOf a b t (link.Arithmetic op.Subtract w e) w
    difference_made a b t u w e m some =
        arithmetic_made a b op.Subtract t u w e m
        (λ k fit. laws.differences k fit.set P ask t w (as_part (expr_part N e) m.placed) (value P ask e)
        (m.agrees k fit) (here ws k fit (λ m. scalar_at m.types w ≡ None → ⊥) some))

    product_made : (a b : ℕ) (t u w : TypeNo) (e : TypedExpr) → Expr ws a b e u → (scalar_at x.home.types w ≡ None → ⊥)
        → LinkOf a b t (link.Arithmetic op.Multiply w e) w
    product_made a b t u w e m some =
        arithmetic_made a b op.Multiply t u w e m
        (λ k fit. laws.products k fit.set P ask t w (as_part (expr_part N e) m.placed) (value P ask e)
        (m.agrees k fit) (here ws k fit (λ m. scalar_at m.types w ≡ None → ⊥) some))

    quotient_made : (a b : ℕ) (t u w : TypeNo) (e : TypedExpr) → Expr ws a b e u → AreAmong x.home.types t w
        → IsValue x.home.types w (pos 0) → LinkOf a b t (link.Arithmetic op.Divide w e) w
    quotient_made a b t u w e m h nought =
        arithmetic_made a b op.Divide t u w e m
        (λ k fit. laws.quotients k fit.set P ask t w (as_part (expr_part N e) m.placed) (value P ask e) (m.agrees k fit)
        (here ws k fit (λ m. AreAmong m.types t w) h) (here ws k fit (λ m. IsValue m.types w (pos 0)) nought))

    remainder_made : (a b : ℕ) (t u w : TypeNo) (e : TypedExpr) → Expr ws a b e u → AreAmong x.home.types u w
        → IsValue x.home.types w (pos 0) → LinkOf a b t (link.Arithmetic op.Remainder w e) w
    remainder_made a b t u w e m h nought =
        arithmetic_made a b op.Remainder t u w e m
        (λ k fit. laws.remainders k fit.set P ask t w (as_part (expr_part N e) m.placed) (value P ask e)
        (m.agrees k fit) (among m w h k fit) (here ws k fit (λ m. IsValue m.types w (pos 0)) nought))

    and_made : (a b : ℕ) (t u : TypeNo) (e : TypedExpr) → Expr ws a b e u → AreAmong x.home.types t boolean
        → AreAmong x.home.types u boolean → LinkOf a b t (link.And e) boolean
    and_made a b t u e m h g = from_link ws a b t boolean (link.And e) (layer.And e) (link.outs-And e) (record {
      of = refl;
      placed = code.and_code m.placed;
      pins = pins_then (pins_plain a (wrap_word ∷ []))
          (pins_within 1 (λ c. code.chosen_number c (instr.I64Const 0 ∷ []) ∷ []) m.pins);
      goes = λ k fit. goes_among k t boolean boolean (code.and_code m.placed)
          (meaning.link_layer P ask (layer.And (value P ask e))) (here ws k fit (λ m. AreAmong m.types t boolean) h)
          (laws.conjunctions k fit.set P ask (part_of boolean m.placed) (value P ask e) (agrees_as m boolean g k fit));
    })

    or_made : (a b : ℕ) (t u : TypeNo) (e : TypedExpr) → Expr ws a b e u → AreAmong x.home.types t boolean
        → AreAmong x.home.types u boolean → LinkOf a b t (link.Or e) boolean
    or_made a b t u e m h g = from_link ws a b t boolean (link.Or e) (layer.Or e) (link.outs-Or e) (record {
      of = refl;
      placed = code.or_code m.placed;
      pins = pins_then (pins_plain a (wrap_word ∷ []))
          (pins_within 1 (λ c. code.chosen_number (instr.I64Const 1 ∷ []) c ∷ []) m.pins);
      goes = λ k fit. goes_among k t boolean boolean (code.or_code m.placed)
          (meaning.link_layer P ask (layer.Or (value P ask e))) (here ws k fit (λ m. AreAmong m.types t boolean) h)
          (laws.disjunctions k fit.set P ask (part_of boolean m.placed) (value P ask e) (agrees_as m boolean g k fit));
    })

    combine_made : (a b : ℕ) (t u : TypeNo) (o : SetOperator) (e : TypedExpr) → Expr ws a b e u
        → AreAmong x.home.types t bitset → AreAmong x.home.types u bitset → LinkOf a b t (link.Combine o e) bitset
    combine_made a b t u o e m h g = from_link ws a b t bitset (link.Combine o e) (layer.Combine o e)
        (link.outs-Combine o e) (record {
          of = refl;
          placed = m.placed ⨾ plain (code.set_code o);
          pins = pins_then m.pins (pins_plain b (code.set_code o));
          goes = λ k fit. goes_among k t bitset bitset (m.placed ⨾ plain (code.set_code o))
              (meaning.link_layer P ask (layer.Combine o (value P ask e)))
              (here ws k fit (λ m. AreAmong m.types t bitset) h)
              (laws.combinations k fit.set P ask o (part_of bitset m.placed) (value P ask e)
              (agrees_as m bitset g k fit));
        })

    no_links_made : (a : ℕ) (t : TypeNo) → MadeLinks ws a a t t [] []
    no_links_made a t = record {
      of = refl;
      placed = [];
      same = λ t. refl;
      pins = pins_plain a [];
      linked =
          λ k fit. none_linked t;
    }

    more_links_made : (a b c : ℕ) (t u v : TypeNo) (l : Linked) (ls : List Linked) (f : Continues) (fs : List Continues)
        → MadeLink ws a b t u l f → MadeLinks ws b c u v ls fs → MadeLinks ws a c t v (l ∷ ls) (f ∷ fs)
    more_links_made a b c t u v l ls f fs m ms = record {
      of = ap (λ (t : TypeNo). chain_type t ls) m.of ∙ ms.of;
      placed = record l { code = m.placed } ∷ ms.placed;
      same = λ t. ms.same l.of;
      pins = pins_then m.pins ms.pins;
      linked = λ k fit. more_linked t (record l { code = m.placed }) ms.placed f fs (m.goes k fit)
          (subst (λ (w : TypeNo). AreLinked k w ms.placed fs) (sym m.of) (ms.linked k fit));
    }

    chain_made : (a b c : ℕ) (u t : TypeNo) (e : TypedExpr) (ls : List Link) → Expr ws a b e u
        → MadeLinks ws b c u t (map (link_part N) ls) (map (link_value P ask) ls) → Expr ws a c (expr.Chain e ls) t
    chain_made a b c u t e ls m ms = from_expr ws a c t (expr.Chain e ls) (layer.Chain e ls) (expr.outs-Chain e ls)
        (record {
          of = ap (λ (w : TypeNo). chain_type w (map (link_part N) ls)) m.of ∙ ms.of;
          placed = m.placed ⨾ chain_code ms.placed;
          pins = pins_then m.pins ms.pins;
          agrees = λ k fit. subst (λ (w : TypeNo). Agrees k w (m.placed ⨾ chain_code ms.placed)
              (meaning.expr_layer P ask (layer.Chain (value P ask e) (map (link_value P ask) ls))))
              (ms.same (expr_part N e).of)
              (laws.chains k P ask (as_part (expr_part N e) m.placed) (value P ask e) ms.placed
              (map (link_value P ask) ls)
              (m.agrees k fit) (subst (λ (w : TypeNo). AreLinked k w ms.placed (map (link_value P ask) ls)) (sym m.of)
              (ms.linked k fit)));
        })

  -- ---- designators

  module _ (ws : List Ty) where
    root_locates : (r : Root) (t : Ty) → typed.IsRoot x ws r t → (k : Scene) → Fits x ask ws k
        → Locates k t (code.root_layer r) (λ a s. Value (meaning.root_layer P ask r a) s)
    root_locates _ _ (typed.GlobalRoot v t is) k fit = laws.globals k fit.set P ask v t (fit.globals v t is)
    root_locates _ _ (typed.LocalRoot slot t there) k fit = kept_locates k fit.set x.kinds fit.frames slot t there
    root_locates _ _ (typed.AliasRoot slot t there) k fit = alias_locates k fit.set x.kinds fit.frames slot t there
    root_locates _ _ (typed.WithRoot j t there) k fit = let q = fit.withs j t there in laws.opened k P ask j q.0 t q.1

    -- the code of a root has no texts
    root_pins : (a : ℕ) (r : Root) → Pins a a (code.root_layer r) (code.root_layer r)
    root_pins a (root.Global v) = pins_setting (λ s. pins_plain a (code.global_code s.home v))
    root_pins a (root.Local slot) = pins_setting (λ s. pins_plain a (code.slot_code s slot []))
    root_pins a (root.Alias slot) = pins_setting (λ s. pins_plain a (code.kept_address s slot []))
    root_pins a (root.Open slot) = pins_setting (λ s. pins_plain a (code.open_address s slot))
    root_pins a (root.With j) = pins_setting (λ s. pins_plain a (code.with_code (slice_get s.withs j)))

    from_component : (a b : ℕ) (t u : Ty) (e : Component) (y : Component-F Argument Call Component Link TypedExpr Place)
        → out-Component e ≡ y
        → MadeReach ws a b t u (code.component_layer (component_opened N y))
        (meaning.component_layer P ask (component_meant P ask y))
        → MadeReach ws a b t u (component_code N e) (component_value P ask e)
    from_component a b t u e y h m =
        subst (λ (c : Coded). MadeReach ws a b t u c (component_value P ask e)) (sym (component_at N e y h))
        (subst (λ (r : Reached). MadeReach ws a b t u (code.component_layer (component_opened N y)) r)
        (sym (component_means P ask e y h)) m)

    field_made : (a : ℕ) (t : TypeNo) (j : ℕ) (u : Ty) → component (tree x.home.types t) (j ∷ []) ≡ Some u
        → MadeReach ws a a (tree x.home.types t) u (component_code N (component'.Field t j))
        (component_value P ask (component'.Field t j))
    field_made a t j u there = from_component a a (tree x.home.types t) u (component'.Field t j) (layer.Field t j)
        (component'.outs-Field t j) (record {
          placed = code.component_layer (layer.Field t j);
          pins = pins_setting (λ s. pins_plain a (raise_address (offset (tree s.home.types t) (j ∷ []))));
          reaches = λ k fit. subst (λ (m : TypedModule). Reaches k (tree m.types t) u
              (code.component_layer (layer.Field t j)) (meaning.component_layer P ask (layer.Field t j))) (sym fit.home)
              (laws.fields k fit.set P ask t j u (here ws k fit (λ m. component (tree m.types t) (j ∷ []) ≡ Some u)
              there));
        })

    element_made : (a b : ℕ) (t w : TypeNo) (r : Range) (u : Ty) (i : TypedExpr) → index_of x.home.types t ≡ Some r
        → tree x.home.types t ≡ Array (elements_of (Some r)) u → Expr ws a b i w
        → MadeReach ws a b (tree x.home.types t) u (component_code N (component'.Element t i))
        (component_value P ask (component'.Element t i))
    element_made a b t w r u i range array m =
        from_component a b (tree x.home.types t) u (component'.Element t i) (layer.Element t i)
        (component'.outs-Element t i) (record {
          placed = behind m.placed (λ types. code.element_code types t);
          pins = pins_then m.pins (pins_setting (λ s. pins_plain b (code.element_code s.home.types t)));
          reaches = λ k fit. subst (λ (h : TypedModule). Reaches k (tree h.types t) u
              (behind m.placed (λ types. code.element_code types t))
              (meaning.component_layer P ask (layer.Element t (value P ask i)))) (sym fit.home)
              (laws.elements k fit.set P ask t r u (as_part (expr_part N i) m.placed) (value P ask i)
              (here ws k fit (λ h. index_of h.types t ≡ Some r) range)
              (here ws k fit (λ h. tree h.types t ≡ Array (elements_of (Some r)) u) array) (m.agrees k fit));
        })

    -- components of components
    pub record MadeReaches (a b : ℕ) (t u : Ty) (cs : List Coded) (rs : List Reached) : Type 0 where
      placed : List Coded
      pins : Pins a b (all_coded cs) (all_coded placed)
      reached : (k : Scene) → Fits x ask ws k → AreReached k t u placed rs

    no_components_made : (a : ℕ) (t : Ty) → MadeReaches a a t t [] []
    no_components_made a t = record { placed = []; pins = pins_plain a []; reached = λ k fit. none_reached t }

    more_components_made : (a b c : ℕ) (t u v : Ty) (y : Coded) (ys : List Coded) (r : Reached) (rs : List Reached)
        → MadeReach ws a b t u y r → MadeReaches b c u v ys rs → MadeReaches a c t v (y ∷ ys) (r ∷ rs)
    more_components_made a b c t u v y ys r rs m ms = record {
      placed = m.placed ∷ ms.placed;
      pins = pins_then m.pins ms.pins;
      reached = λ k fit. more_reached t u v m.placed ms.placed r rs (m.reaches k fit) (ms.reached k fit);
    }

    from_place : (a b : ℕ) (d : Place) (u : Ty)
        → MadePlace ws a b u (code.root_layer d.root ⨾ all_coded (map (component_code N) d.components))
        (λ s st. meaning.one_by_one (map (component_value P ask) d.components) (meaning.root_layer P ask d.root s) s
        st) → Placed ws a b d u
    from_place a b d u m =
        subst (λ (c : Coded). MadePlace ws a b u c (locate P ask d)) (sym (place_at N d (out-Place d) refl))
        (subst (λ (f : Gives Location). MadePlace ws a b u
        (code.root_layer d.root ⨾ all_coded (map (component_code N) d.components)) f)
        (sym (place_means P ask d (out-Place d) refl)) m)

    designator_made : (a b : ℕ) (d : Place) (t u : Ty) → typed.IsRoot x ws d.root t
        → MadeReaches a b t u (map (component_code N) d.components) (map (component_value P ask) d.components)
        → Placed ws a b d u
    designator_made a b d t u r m = from_place a b d u (record {
      placed = code.root_layer d.root ⨾ all_coded m.placed;
      pins = pins_then (root_pins a d.root) m.pins;
      locates = λ k fit. laws.designators k P ask d.root t u m.placed (map (component_value P ask) d.components)
          (root_locates d.root t r k fit) (m.reached k fit);
    })

    -- an element of an open array comes first
    open_made : (a b c : ℕ) (d : Place) (slot : Slot) (t w : TypeNo) (v : Ty) (i : TypedExpr) (cs : List Component)
        → d.root ≡ root.Open slot → kind_at x.kinds slot ≡ Some (Open (tree x.home.types t))
        → d.components ≡ component'.OpenElement slot t i ∷ cs
        → Expr ws a b i w → MadeReaches b c (tree x.home.types t) v (map (component_code N) cs)
        (map (component_value P ask) cs) → Placed ws a c d v
    open_made a b c d slot t w v i cs r there ks m ms = from_place a c d v
        (subst (λ (r : Root). MadePlace ws a c v (code.root_layer r ⨾ all_coded (map (component_code N) d.components))
        (λ s st. meaning.one_by_one (map (component_value P ask) d.components) (meaning.root_layer P ask r s) s st))
        (sym r)
        (subst (λ (ks : List Component). MadePlace ws a c v
        (code.root_layer (root.Open slot) ⨾ all_coded (map (component_code N) ks))
        (λ s st. meaning.one_by_one (map (component_value P ask) ks) (meaning.root_layer P ask (root.Open slot) s) s
        st)) (sym ks)
        (subst (λ (y : Coded). MadePlace ws a c v
        (code.root_layer (root.Open slot) ⨾ (y ⨾ all_coded (map (component_code N) cs)))
        (λ s st. meaning.one_by_one (component_value P ask k ∷ map (component_value P ask) cs)
        (meaning.root_layer P ask (root.Open slot) s) s st))
        (sym (component_at N k (layer.OpenElement slot t i) (component'.outs-OpenElement slot t i)))
        (subst (λ (q : Reached). MadePlace ws a c v
        (code.root_layer (root.Open slot) ⨾ (code.component_layer (layer.OpenElement slot t (expr_part N i)) ⨾
        all_coded (map (component_code N) cs)))
        (λ s st. meaning.one_by_one (q ∷ map (component_value P ask) cs)
        (meaning.root_layer P ask (root.Open slot) s) s st))
        (sym (component_means P ask k (layer.OpenElement slot t i) (component'.outs-OpenElement slot t i)))
        (record {
          placed = code.root_layer (root.Open slot) ⨾ all_coded (one ∷ ms.placed);
          pins = pins_then (root_pins a (root.Open slot))
              (pins_then (pins_then m.pins (pins_setting (λ s. pins_plain b (code.open_element_code s slot t))))
              ms.pins);
          locates = λ k fit.
              let there' = here ws k fit (λ h. kind_at x.kinds slot ≡ Some (Open (tree h.types t))) there in
              let u : Ty = tree k.setting.home.types t in
              let whole : Ty = Array (suc (high_of (slot_named k.around slot))) u in
              let rest = here ws k fit (λ h. AreReached k (tree h.types t) v ms.placed (map (component_value P ask) cs))
              (ms.reached k fit) in
              laws.designators k P ask (root.Open slot) whole v (one ∷ ms.placed)
              (meaning.component_layer P ask (layer.OpenElement slot t (value P ask i))
              ∷ map (component_value P ask) cs)
              (open_locates k fit.set x.kinds fit.frames slot u there')
              (more_reached whole u v one ms.placed
              (meaning.component_layer P ask (layer.OpenElement slot t (value P ask i)))
              (map (component_value P ask) cs)
              (open_reaches k fit.set x.kinds fit.frames slot t (expr_part N i).of there' m.placed (value P ask i)
              (m.agrees k fit)) rest);
        })))))
      where
        k : Component
        k = component'.OpenElement slot t i

        one : Coded
        one = m.placed ⨾ with_setting (λ s. plain (code.open_element_code s slot t))

  -- ---- values that are taken as ones of other types

  constant_given : (k : Scene) (u t : TypeNo) (c : Coded) (v : Gives ℤ) (n : ℤ)
      → ((s : Source) → v k.around s ≡ Value n s) → IsValue k.setting.home.types t n → Agrees k u c v → Agrees k t c v
  constant_given k u t c v n is in_type h = record {
    grows = h.grows;
    gives = λ e d free full s st stands rest stack.
        subst (Into (GivesNumber k t (runs k rest) stack) (runs k ((c (inside k e) d).0 ++ rest) st stack)) (sym (is s))
        (again s rest stack _ (subst (Into (GivesNumber k u (runs k rest) stack)
        (runs k ((c (inside k e) d).0 ++ rest) st stack)) (is s) (h.gives e d free full s st stands rest stack)));
  }
    where
      again : (s : Source) (rest : List Instr) (stack : List Operand) (r : Effect)
          → GivesNumber k u (runs k rest) stack n s r → GivesNumber k t (runs k rest) stack n s r
      again s rest stack r p = record { st = p.st; stands = p.stands; is = in_type; run = p.run }

  pub taken_agrees : (ws : List Ty) (a b : ℕ) (t u : TypeNo) (e : TypedExpr) → (m : Expr ws a b e u)
      → IsTaken x.home t e u → (k : Scene) → Fits x ask ws k
      → Agrees k t (behind m.placed (λ types. check_taken types t (expr_part N e).constant (expr_part N e).of))
      (λ s st. value P ask e s st ▷ λ v st. meaning.as_type s.types t v st)
  taken_agrees ws a b t u e m is k fit =
      let part : Part = expr_part N e in
      let is' : IsTaken k.setting.home t e part.of =
      subst (λ (w : TypeNo). IsTaken k.setting.home t e w) (sym m.of) (here ws k fit (λ h. IsTaken h t e u) is) in
      taken k fit.set t (as_part part m.placed) (value P ask e) (m.agrees k fit)
      (λ q. ⊎_elim
      (λ (h : AreAmong k.setting.home.types part.of t). among_agrees k fit.set.helpers fit.set.small part.of t m.placed
      (value P ask e) (m.agrees k fit) h)
      (λ (h : (w : TypeNo) × (n : ℤ) × (e ≡ expr.Constant w n) × IsValue k.setting.home.types t n).
      constant_given k part.of t m.placed (value P ask e) h.1
      (λ s. ap (λ (e : TypedExpr). value P ask e k.around s) h.2
      ∙ ap (λ (f : Gives ℤ). f k.around s)
      (expr_means P ask (expr.Constant h.0 h.1) (layer.Constant h.0 h.1) (expr.outs-Constant h.0 h.1))) h.3
      (m.agrees k fit))
      (is'.free (subst (λ (h : TypedModule). is_free k.setting.home.types t (expr_part (numbering_of h) e).constant
      part.of ≡ true) fit.home q)))
      is'.unranged

  pub given_held : (ws : List Ty) (a b : ℕ) (t : TypeNo) (h : Heading) (e : TypedExpr) → (m : Held ws a b e h)
      → scalar_at x.home.types t ≡ None → (k : Scene) → Fits x ask ws k
      → AgreesHeld k h (behind m.placed (λ types. check_taken types t (expr_part N e).constant (expr_part N e).of))
      (λ s st. value P ask e s st ▷ λ v st. meaning.as_type s.types t v st)
  given_held ws a b t h e m none k fit = held_taken k fit.set t h (as_part (expr_part N e) m.placed) (value P ask e)
      (here ws k fit (λ m. scalar_at m.types t ≡ None) none) (m.agrees k fit)

  -- ---- arguments

  module _ (ws : List Ty) where
    from_argument : (a b : ℕ) (f : Form) (e : Argument) (y : Argument-F Argument Call Component Link TypedExpr Place)
        → out-Argument e ≡ y
        → MadeArgument ws a b f (code.argument_layer (argument_opened N y))
        (meaning.argument_layer P ask (argument_meant P ask y))
        → MadeArgument ws a b f (argument_code N e) (argument_value P ask e)
    from_argument a b f e y h m =
        subst (λ (c : Coded). MadeArgument ws a b f c (argument_value P ask e)) (sym (argument_at N e y h))
        (subst (λ (g : Gives Passed). MadeArgument ws a b f (code.argument_layer (argument_opened N y)) g)
        (sym (argument_means P ask e y h)) m)

    value_made : (a b : ℕ) (t u : TypeNo) (c : Scalar) (e : TypedExpr) → Expr ws a b e u → IsCell x.home.types t c
        → IsTaken x.home t e u → MadeArgument ws a b (ByNumber c) (argument_code N (argument.Value t e))
        (argument_value P ask (argument.Value t e))
    value_made a b t u c e m cell is = from_argument a b (ByNumber c) (argument.Value t e) (layer.Value t e)
        (argument.outs-Value t e) (record {
          placed = behind m.placed (λ types. check_taken types t (expr_part N e).constant (expr_part N e).of);
          pins = pins_then m.pins (pins_setting (λ s. pins_plain b
              (check_taken s.home.types t (expr_part N e).constant (expr_part N e).of)));
          passes = λ k fit.
              passes_alike k (ByNumber c) (behind m.placed
              (λ types. check_taken types t (expr_part N e).constant (expr_part N e).of))
              (λ s st. (value P ask e s st ▷ λ v st. meaning.as_type s.types t v st) ▷ λ v st. Value (Number v) st)
              (meaning.argument_layer P ask (layer.Value t (value P ask e)))
              (λ st. give_assoc (value P ask e k.around st) (λ v st. meaning.as_type k.around.types t v st)
              (λ v st. Value (Number v) st))
              (value_passes k t c (behind m.placed
              (λ types. check_taken types t (expr_part N e).constant (expr_part N e).of))
              (λ s st. value P ask e s st ▷ λ v st. meaning.as_type s.types t v st)
              (here ws k fit (λ h. IsCell h.types t c) cell) (taken_agrees ws a b t u e m is k fit));
        })

    actual_made : (a b : ℕ) (t : TypeNo) (h : Heading) (e : TypedExpr) → Held ws a b e h
        → scalar_at x.home.types t ≡ None → MadeArgument ws a b (ByNumber (Callable h))
        (argument_code N (argument.Value t e)) (argument_value P ask (argument.Value t e))
    actual_made a b t h e m none = from_argument a b (ByNumber (Callable h)) (argument.Value t e) (layer.Value t e)
        (argument.outs-Value t e) (record {
          placed = behind m.placed (λ types. check_taken types t (expr_part N e).constant (expr_part N e).of);
          pins = pins_then m.pins (pins_setting (λ s. pins_plain b
              (check_taken s.home.types t (expr_part N e).constant (expr_part N e).of)));
          passes = λ k fit.
              passes_alike k (ByNumber (Callable h))
              (behind m.placed (λ types. check_taken types t (expr_part N e).constant (expr_part N e).of))
              (λ s st. (value P ask e s st ▷ λ v st. meaning.as_type s.types t v st) ▷ λ v st. Value (Number v) st)
              (meaning.argument_layer P ask (layer.Value t (value P ask e)))
              (λ st. give_assoc (value P ask e k.around st) (λ v st. meaning.as_type k.around.types t v st)
              (λ v st. Value (Number v) st))
              (held_passes k h (behind m.placed (λ types. check_taken types t (expr_part N e).constant
              (expr_part N e).of))
              (λ s st. value P ask e s st ▷ λ v st. meaning.as_type s.types t v st)
              (given_held ws a b t h e m none k fit));
        })

    name_made : (a b : ℕ) (d : Place) (t : Ty) → Placed ws a b d t
        → MadeArgument ws a b (ByName t) (argument_code N (argument.Place d)) (argument_value P ask (argument.Place d))
    name_made a b d t m = from_argument a b (ByName t) (argument.Place d) (layer.Place d) (argument.outs-Place d)
        (record {
          placed = m.placed ⨾ plain (extend_word ∷ []);
          pins = pins_then m.pins (pins_plain b (extend_word ∷ []));
          passes = λ k fit. name_passes k fit.set t m.placed (locate P ask d) (m.locates k fit);
        })

    copy_made : (a b : ℕ) (d : Place) (t : Ty) → Placed ws a b d t
        → MadeArgument ws a b (ByCopy t) (argument_code N (argument.Place d)) (argument_value P ask (argument.Place d))
    copy_made a b d t m = from_argument a b (ByCopy t) (argument.Place d) (layer.Place d) (argument.outs-Place d)
        (record {
          placed = m.placed ⨾ plain (extend_word ∷ []);
          pins = pins_then m.pins (pins_plain b (extend_word ∷ []));
          passes = λ k fit. copy_passes k fit.set t m.placed (locate P ask d) (m.locates k fit);
        })

    array_made : (a b : ℕ) (t : TypeNo) (r : Range) (u : Ty) (is_var : Bool) (d : Place)
        → index_of x.home.types t ≡ Some r → (r.high -ℤ r.low) ≤ℤ pos 4294967295
        → tree x.home.types t ≡ Array (elements_of (Some r)) u → Placed ws a b d (tree x.home.types t)
        → MadeArgument ws a b (ByArray is_var u) (argument_code N (argument.Array t d))
        (argument_value P ask (argument.Array t d))
    array_made a b t r u is_var d range narrow array m =
        from_argument a b (ByArray is_var u) (argument.Array t d) (layer.Array t d) (argument.outs-Array t d) (record {
          placed = behind m.placed (λ types. extend_word ∷ instr.I64Const (code.high_index types t) ∷ []);
          pins = pins_then m.pins (pins_setting (λ s. pins_plain b
              (extend_word ∷ instr.I64Const (code.high_index s.home.types t) ∷ [])));
          passes = λ k fit.
              let same : code.high_index k.setting.home.types t ≡ meaning.high_index k.around.types t =
              ap (λ (o : Option Range). elements_of o - 1) (same_index k.setting.home.types t)
              ∙ ap (λ (types : Types). meaning.high_index types t) (sym fit.set.types) in
              passes_alike k (ByArray is_var u) (behind m.placed
              (λ types. extend_word ∷ instr.I64Const (code.high_index types t) ∷ []))
              (λ s st. locate P ask d s st ▷ λ l st. Value (Whole l (code.high_index k.setting.home.types t)) st)
              (meaning.argument_layer P ask (layer.Array t (locate P ask d)))
              (λ st. ap (λ (n : ℕ). (locate P ask d k.around st ▷ λ l st. Value (Whole l n) st)) same)
              (array_passes k fit.set is_var t r u m.placed (locate P ask d)
              (here ws k fit (λ h. index_of h.types t ≡ Some r) range) narrow
              (here ws k fit (λ h. tree h.types t ≡ Array (elements_of (Some r)) u) array)
              (here ws k fit (λ h. Locates k (tree h.types t) m.placed (locate P ask d)) (m.locates k fit)));
        })

    whole_made : (a : ℕ) (slot : Slot) (is_var : Bool) (u : Ty) → kind_at x.kinds slot ≡ Some (Open u)
        → MadeArgument ws a a (ByArray is_var u) (argument_code N (argument.Open slot))
        (argument_value P ask (argument.Open slot))
    whole_made a slot is_var u there = from_argument a a (ByArray is_var u) (argument.Open slot) (layer.Open slot)
        (argument.outs-Open slot) (record {
          placed = with_setting (λ s. plain (code.open_address s slot ++ (extend_word ∷ code.high_code s slot)));
          pins = pins_setting (λ s. pins_plain a (code.open_address s slot ++ (extend_word ∷ code.high_code s slot)));
          passes = λ k fit. open_passes k fit.set is_var x.kinds fit.frames slot u there;
        })

    text_made : (a : ℕ) (text : List ℕ) → typed.HasText x a (argument_text text) → length (argument_text text) ≤ 2 ^ 32
        → MadeArgument ws a (a + length (argument_text text)) (ByArray false (Cell (Natural 255)))
        (argument_code N (argument.Text text)) (argument_value P ask (argument.Text text))
    text_made a text has below = from_argument a (a + length (argument_text text)) (ByArray false (Cell (Natural 255)))
        (argument.Text text) (layer.Text text) (argument.outs-Text text) (record {
          placed = plain (code.text_code a ++ (extend_word ∷ instr.I64Const (length (argument_text text) - 1) ∷ []));
          pins = pins_text a (length (argument_text text))
              (λ at. plain (code.text_code at ++ (extend_word ∷ instr.I64Const (length (argument_text text) - 1) ∷ [])))
              (pins_plain (a + length (argument_text text))
              (code.text_code a ++ (extend_word ∷ instr.I64Const (length (argument_text text) - 1) ∷ [])));
          passes = λ k fit. text_passes k fit.set a text (fit.texts a (argument_text text) has) below;
        })

    -- all of them
    record MadeArguments (a b : ℕ) (fs : Forms) (cs : List Coded) (gs : List (Gives Passed)) : Type 0 where
      placed : List Coded
      pins : Pins a b (all_coded cs) (all_coded placed)
      passed_all : (k : Scene) → Fits x ask ws k → PassAll k fs placed gs

    no_arguments_made : (a : ℕ) → MadeArguments a a [] [] []
    no_arguments_made a = record { placed = []; pins = pins_plain a []; passed_all = λ k fit. pass_none }

    more_arguments_made : (a b c : ℕ) (f : Form) (fs : Forms) (y : Coded) (ys : List Coded) (g : Gives Passed)
        (gs : List (Gives Passed)) → MadeArgument ws a b f y g → MadeArguments b c fs ys gs
        → MadeArguments a c (f ∷ fs) (y ∷ ys) (g ∷ gs)
    more_arguments_made a b c f fs y ys g gs m ms = record {
      placed = m.placed ∷ ms.placed;
      pins = pins_then m.pins ms.pins;
      passed_all = λ k fit. pass_more f fs m.placed ms.placed g gs (m.passes k fit) (ms.passed_all k fit);
    }

  -- ---- calls

  calls_alike : (k : Scene) (r : Result) (y : Coded) (f g : Gives ℤ) → ((s : Source) → f k.around s ≡ g k.around s)
      → Calls k r y f → Calls k r y g
  calls_alike k r y f g same h = record {
    grows = h.grows;
    gives = λ e c free full s st stands rest stack. subst
        (Into (GivesResult k r (runs k rest) stack) (runs k ((y (inside k e) c).0 ++ rest) st stack)) (same s)
        (h.gives e c free full s st stands rest stack);
  }

  chain_drop : (world : List Ty) (y : Location → ℕ → ℕ) (u : ℕ) (kss : List Kinds) (nss : Frames) (roots : List ℕ)
      → IsChain world y kss nss roots → IsChain world y (drop u kss) (drop u nss) (drop u roots)
  chain_drop world y zero kss nss roots h = h
  chain_drop world y (suc u) _ _ _ chain_end = chain_end
  chain_drop world y (suc u) _ _ _ (chain_more ks kss ns nss root roots type names link chain) =
      chain_drop world y u kss nss roots chain

  chain_first : (world : List Ty) (y : Location → ℕ → ℕ) (u : ℕ) (kss : List Kinds) (nss : Frames) (roots : List ℕ)
      → IsChain world y kss nss roots → u < length kss → (r : ℕ) × (rs : List ℕ) × (slice_get roots u ≡ Some r)
      × (drop u roots ≡ r ∷ rs)
  chain_first world y u _ _ _ chain_end less = absurd (omega (arith, less))
  chain_first world y zero _ _ _ (chain_more ks kss ns nss root roots type names link chain) less =
      (root, roots, refl, refl)
  chain_first world y (suc u) _ _ _ (chain_more ks kss ns nss root roots type names link chain) less =
      chain_first world y u kss nss roots chain (omega (arith, less))

  pins_left : (a b : ℕ) (w y z q : Coded) → Pins a b w (y ⨾ (z ⨾ q)) → Pins a b w ((y ⨾ z) ⨾ q)
  pins_left a b w y z q h = record {
    is = λ s c. h.is s c ∙ ap (λ (l : List Instr). (l, record (((y ⨾ z) ⨾ q) s c).1 { texts = b }))
        (sym (append_assoc (y s c).0 (z s (y s c).1).0 (q s (z s (y s c).1).1).0));
    grows = h.grows;
  }

  module _ (ws : List Ty) where
    from_call : (a b : ℕ) (r : Result) (e : Call) (y : Call-F Argument Call Component Link TypedExpr Place)
        → out-Call e ≡ y
        → MadeCall ws a b r (code.call_layer N (call_opened N y)) (meaning.call_layer P ask (call_meant P ask y))
        → MadeCall ws a b r (call_code N e) (call_value P ask e)
    from_call a b r e y h m =
        subst (λ (c : Coded). MadeCall ws a b r c (call_value P ask e)) (sym (call_at N e y h))
        (subst (λ (g : Gives ℤ). MadeCall ws a b r (code.call_layer N (call_opened N y)) g)
        (sym (call_means P ask e y h)) m)

    abbrev ArgumentsOf : (a b : ℕ) → List Argument → Forms → Type 0
    ArgumentsOf a b args fs = MadeArguments ws a b fs (map (argument_code N) args) (map (argument_value P ask) args)

    module_made : (a b : ℕ) (f : Procedure) (args : List Argument) → IsCallable x f
        → ArgumentsOf a b args (forms_of x.home.types f.heading)
        → MadeCall ws a b (result_of x.home.types f.heading) (call_code N (call.Module f args))
        (call_value P ask (call.Module f args))
    module_made a b f args known m = from_call a b (result_of x.home.types f.heading) (call.Module f args)
        (layer.Module f args) (call.outs-Module f args) (record {
          placed = code.top_code ⨾ (all_coded m.placed ⨾ with_setting (λ s. plain (code.module_call N s.home f)));
          pins = pins_then (pins_setting (λ s. pins_plain a (instr.LocalGet (top_local s) ∷ [])))
              (pins_then m.pins (pins_setting (λ s. pins_plain b (code.module_call N s.home f))));
          calls = λ k fit.
              let q = fit.modules f known in
              let g = q.3 in
              let gs : List (Gives Passed) = map (argument_value P ask) args in
              let forms : Forms = forms_of x.home.types f.heading in
              let chain : IsChain k.world k.hidden [] q.0.frames [] =
              subst (λ (nss : Frames). IsChain k.world k.hidden [] nss []) (sym q.2) chain_end in
              calls_alike k (result_of x.home.types f.heading)
              (code.top_code ⨾ (all_coded m.placed ⨾ with_setting (λ s. plain (code.module_call N s.home f))))
              (λ s st. meaning.call_with P ask (Some q.0) gs s st) (meaning.call_layer P ask (layer.Module f gs))
              (λ st. ap (λ (o : Option Callee). meaning.call_with P ask o gs k.around st) (sym q.1))
              (front_calls k x.base x.texts fit.top P ask q.0 [] [] chain forms (result_of x.home.types f.heading) g.own
              g.function g.typed g.does (code.module_call N k.setting.home f) (λ s st h. g.is_call st) g.count
              m.placed gs (m.passed_all k fit) (with_setting (λ s. plain (code.module_call N s.home f))) (λ e c. refl)
              (instr.LocalGet (top_local k.setting) ∷ [])
              (λ s st h rest stack. get_runs k.modules k.fixed k.turns (scene_calls k) k.own rest st
              (top_local k.setting) (I32 (size (row k.world))) stack
              (h.kept (top_local k.setting) (I32 (size (row k.world))) fit.top.kept))
              code.top_code (λ e c. refl));
        })

    nested_made : (a b : ℕ) (f : LocalProcedure) (args : List Argument) → IsInner x f
        → ArgumentsOf a b args (forms_of x.home.types f.heading)
        → MadeCall ws a b (result_of x.home.types f.heading) (call_code N (call.Nested f args))
        (call_value P ask (call.Nested f args))
    nested_made a b f args inner m = from_call a b (result_of x.home.types f.heading) (call.Nested f args)
        (layer.Nested f args) (call.outs-Nested f args) (record {
          placed = (code.top_code ⨾ plain (code.link_code N f.up)) ⨾
              (all_coded m.placed ⨾ with_setting (λ s. plain (code.nested_call N s.home f)));
          pins = pins_left a b (code.call_layer N (layer.Nested f (map (argument_code N) args))) code.top_code
              (plain (code.link_code N f.up)) (all_coded m.placed ⨾ with_setting
              (λ s. plain (code.nested_call N s.home f)))
              (pins_then (pins_setting (λ s. pins_plain a (instr.LocalGet (top_local s) ∷ [])))
              (pins_then (pins_plain a (code.link_code N f.up))
              (pins_then m.pins (pins_setting (λ s. pins_plain b (code.nested_call N s.home f))))));
          calls = λ k fit.
              let q = fit.nested f inner in
              let g = q.3 in
              let gs : List (Gives Passed) = map (argument_value P ask) args in
              let forms : Forms = forms_of x.home.types f.heading in
              let roots : List ℕ = fit.frames.roots in
              let first = chain_first k.world k.hidden f.up x.kinds k.around.frames roots fit.frames.chain inner.less in
              let chain : IsChain k.world k.hidden (drop f.up x.kinds) q.0.frames (drop f.up roots) =
              subst (λ (nss : Frames). IsChain k.world k.hidden (drop f.up x.kinds) nss (drop f.up roots)) (sym q.2)
              (chain_drop k.world k.hidden f.up x.kinds k.around.frames roots fit.frames.chain) in
              let one : length (links k.world (drop f.up roots)) ≡ 1 =
              ap (λ (rs : List ℕ). length (links k.world rs)) first.3 in
              let count = g.count in
              let address : ℕ = scene_place k (first.0 ∷ []) in
              let front : List Operand = I32 (size (row k.world)) ∷ links k.world (drop f.up roots) in
              let list : List Instr = instr.LocalGet (top_local k.setting) ∷ code.link_code N f.up in
              calls_alike k (result_of x.home.types f.heading)
              ((code.top_code ⨾ plain (code.link_code N f.up)) ⨾
              (all_coded m.placed ⨾ with_setting (λ s. plain (code.nested_call N s.home f))))
              (λ s st. meaning.call_with P ask (Some q.0) gs s st) (meaning.call_layer P ask (layer.Nested f gs))
              (λ st. ap (λ (o : Option Callee). meaning.call_with P ask o gs k.around st)
              (sym (ap (λ (n : ℕ). nested_in n (slice_get P n) (drop f.up k.around.frames) f.number) fit.place ∙ q.1)))
              (front_calls k x.base x.texts fit.top P ask q.0 (drop f.up x.kinds) (drop f.up roots) chain forms
              (result_of x.home.types f.heading) g.own g.function g.typed g.does (code.nested_call N k.setting.home f)
              (λ s st h. g.is_call st) (omega (arith, count, one))
              m.placed gs (m.passed_all k fit) (with_setting (λ s. plain (code.nested_call N s.home f))) (λ e c. refl)
              list
              (λ s st h rest stack.
              get_runs k.modules k.fixed k.turns (scene_calls k) k.own (code.link_code N f.up ++ rest) st
              (top_local k.setting) (I32 (size (row k.world))) stack
              (h.kept (top_local k.setting) (I32 (size (row k.world))) fit.top.kept)
              ∙ ap (λ (l : List Instr). runs k l st (stack ++ I32 (size (row k.world)) ∷ []))
              (append_assoc (code.frame_code f.up) (extend_word ∷ []) rest)
              ∙ frame_runs k fit.set x.kinds fit.frames f.up first.0 first.2 s st h (extend_word ∷ rest)
              (stack ++ I32 (size (row k.world)) ∷ [])
              ∙ extended_runs k fit.set.helpers fit.set.small address rest st (stack ++ I32 (size (row k.world)) ∷ [])
              ∙ ap (runs k rest st) (append_assoc stack (I32 (size (row k.world)) ∷ []) (I64 address ∷ [])
              ∙ ap (λ (rs : List ℕ). stack ++ I32 (size (row k.world)) ∷ links k.world rs) (sym first.3)))
              (code.top_code ⨾ plain (code.link_code N f.up)) (λ e c. refl));
        })

    variable_made : (a b c : ℕ) (t : TypeNo) (h : Heading) (d : Place) (args : List Argument)
        → heading_at x.home.types t ≡ Some h → tree x.home.types t ≡ Cell (Callable h)
        → Placed ws a b d (Cell (Callable h)) → is_among (signatures_needed x.home) (of_heading x.home.types t) ≡ true
        → ArgumentsOf b c args (forms_of x.home.types t)
        → MadeCall ws a c (result_of x.home.types t) (call_code N (call.Variable t d args))
        (call_value P ask (call.Variable t d args))
    variable_made a b c t h d args is type m signed ms =
        from_call a c (result_of x.home.types t) (call.Variable t d args) (layer.Variable t d args)
        (call.outs-Variable t d args) (record {
          placed = held_call N t (code.loaded_from m.placed t) ms.placed;
          pins = pins_then (pins_then m.pins (pins_setting (λ s. pins_plain b (cells.load_code s.home.types t))))
              (pins_then (pins_plain b (check_code (pos 1) (pos 4294967295) 7))
              (pins_number (λ n. pins_then (pins_plain b (instr.LocalSet n ∷ []))
              (pins_then (pins_setting (λ s. pins_plain b (instr.LocalGet (top_local s) ∷ [])))
              (pins_then ms.pins (pins_setting (λ s. pins_plain c
              (instr.LocalGet n ∷ wrap_word ∷ code.indirect N s.home.types t ∷ []))))))));
          calls = λ k fit.
              let gs : List (Gives Passed) = map (argument_value P ask) args in
              let list : Coded = held_call N t (code.loaded_from m.placed t) ms.placed in
              let load : Gives ℤ = meaning.expr_layer P ask (layer.Load t (locate P ask d)) in
              calls_alike k (result_of x.home.types t) list
              (λ s st. load s st ▷ λ v st. meaning.asked_if P ask (entry_callee P (entry_of P v)) gs s st)
              (meaning.call_layer P ask (layer.Variable t (locate P ask d) gs))
              (λ st. give_assoc (locate P ask d k.around st) (λ l st. Value (st.store l) st)
              (λ v st. meaning.asked_if P ask (entry_callee P (entry_of P v)) gs k.around st))
              (subst (λ (r : Result). Calls k r list
              (λ s st. load s st ▷ λ v st. meaning.asked_if P ask (entry_callee P (entry_of P v)) gs s st))
              (sym (result_same x.home.types t h is))
              (in_program ws k fit (λ p. Calls k (heading_result h) list
              (λ s st. load s st ▷ λ v st. meaning.asked_if p ask (entry_callee p (entry_of p v)) gs s st))
              (held_calls k fit.set ask N x.base x.texts fit.top fit.callees t h
              (here ws k fit (λ m. heading_at m.types t ≡ Some h) is)
              (here ws k fit (λ m. type_at k.modules k.own
              (N (all_arguments (formals_of m.types t)) (has_result m.types t))
              ≡ Some (type_of (of_heading m.types t))) (fit.signed t signed))
              (code.loaded_from m.placed t) load (held_loads k fit.set P ask t h m.placed (locate P ask d)
              (here ws k fit (λ m. tree m.types t ≡ Cell (Callable h)) type) (m.locates k fit))
              ms.placed gs (λ e c. ms.pins.grows (inside k e) c)
              (λ n v new. subst (λ (fs : Forms). PassAll (keeping k n v) fs ms.placed gs)
              (forms_same x.home.types t h is)
              (ms.passed_all (keeping k n v) (fits_keeping x ask ws k n v new fit))))));
        })

  -- ---- all of them

  mutual
    pub expr_made : (ws : List Ty) (a b : ℕ) (e : TypedExpr) (t : TypeNo) → typed.IsExpr x ws a b e t → Expr ws a b e t
    expr_made ws _ _ _ _ (typed.Constant a t n is) = constant_made ws a t n is
    expr_made ws _ _ _ _ (typed.Load a b t c d cell h) = load_made ws a b t c d cell (place_made ws a b d (Cell c) h)
    expr_made ws _ _ _ _ (typed.ProcedureValue a b t h e is of none) =
        procedure_made ws a b t h e (held_made ws a b e h is) of none
    expr_made ws _ _ _ _ (typed.Plus a b t u e h g) = plus_made ws a b t u e (expr_made ws a b e u h) g
    expr_made ws _ _ _ _ (typed.Negate a b u e h) = negate_made ws a b u e (expr_made ws a b e u h)
    expr_made ws _ _ _ _ (typed.Chain a b c u t e ls h hs) =
        chain_made ws a b c u t e ls (expr_made ws a b e u h) (links_made ws b c u ls t hs)
    expr_made ws _ _ _ _ (typed.Compare a b c u v o e f h g) =
        compare_made ws a b c u v o e f (expr_made ws a b e u h) (expr_made ws b c f v g)
    expr_made ws _ _ _ _ (typed.Not a b u e h g) = not_made ws a b u e (expr_made ws a b e u h) g
    expr_made ws _ _ _ _ (typed.Include a b c u v o e f h i g j) =
        include_made ws a b c u v o e f (expr_made ws a b e u h) i (expr_made ws b c f v g) j
    expr_made ws _ _ _ _ (typed.In a b c u v e f h g j) =
        in_made ws a b c u v e f (expr_made ws a b e u h) (expr_made ws b c f v g) j
    expr_made ws _ _ _ _ (typed.Abs a b t u e h i j ranged) = abs_made ws a b t u e (expr_made ws a b e u h) i j
    expr_made ws _ _ _ _ (typed.Cap a b u e h i) = cap_made ws a b u e (expr_made ws a b e u h) i
    expr_made ws _ _ _ _ (typed.Chr a b u e h) = chr_made ws a b u e (expr_made ws a b e u h)
    expr_made ws _ _ _ _ (typed.Odd a b u e h) = odd_made ws a b u e (expr_made ws a b e u h)
    expr_made ws _ _ _ _ (typed.Ord a b u e h i j) = ord_made ws a b u e (expr_made ws a b e u h) i j
    expr_made ws _ _ _ _ (typed.Val a b t u e h i) = val_made ws a b t u e (expr_made ws a b e u h) i
    expr_made ws _ _ _ _ (typed.High a slot t there) = high_made ws a slot t there
    expr_made ws _ _ _ _ (typed.FunctionCall a b t r c h cell) =
        function_made ws a b t r c (call_made ws a b c (Some (tree x.home.types t)) h) cell

    pub held_made : (ws : List Ty) (a b : ℕ) (e : TypedExpr) (h : Heading) → typed.IsProcedureExpr x ws a b e h
        → Held ws a b e h
    held_made ws _ _ _ _ (typed.LoadedProcedure a b t h d type g) =
        loaded_made ws a b t h d type (place_made ws a b d (Cell (Callable h)) g)
    held_made ws _ _ _ _ (typed.NamedProcedure a f h known is) = named_made ws a f h known is
    held_made ws _ _ _ _ (typed.GivenProcedure a b t h c g) =
        result_made ws a b t h c (call_made ws a b c (Some (Cell (Callable h))) g)

    links_made : (ws : List Ty) (a b : ℕ) (t : TypeNo) (ls : List Link) (u : TypeNo) → typed.AreLinks x ws a b t ls u
        → MadeLinks ws a b t u (map (link_part N) ls) (map (link_value P ask) ls)
    links_made ws _ _ _ _ _ (typed.no_links a t) = no_links_made ws a t
    links_made ws _ _ _ _ _ (typed.more_links a b c t u v l ls h hs) =
        more_links_made ws a b c t u v (link_part N l) (map (link_part N) ls) (link_value P ask l)
        (map (link_value P ask) ls) (link_made ws a b t l u h) (links_made ws b c u ls v hs)

    link_made : (ws : List Ty) (a b : ℕ) (t : TypeNo) (l : Link) (u : TypeNo) → typed.IsLink x ws a b t l u
        → LinkOf ws a b t l u
    link_made ws _ _ _ _ _ (typed.Sum a b t u w e h i) = sum_made ws a b t u w e (expr_made ws a b e u h) i
    link_made ws _ _ _ _ _ (typed.Difference a b t u w e h i) =
        difference_made ws a b t u w e (expr_made ws a b e u h) i
    link_made ws _ _ _ _ _ (typed.Product a b t u w e h i) = product_made ws a b t u w e (expr_made ws a b e u h) i
    link_made ws _ _ _ _ _ (typed.Quotient a b t u w e h i j) =
        quotient_made ws a b t u w e (expr_made ws a b e u h) i j
    link_made ws _ _ _ _ _ (typed.Remainder a b t u w e h i j) =
        remainder_made ws a b t u w e (expr_made ws a b e u h) i j
    link_made ws _ _ _ _ _ (typed.And a b t u e h i j) = and_made ws a b t u e (expr_made ws a b e u h) i j
    link_made ws _ _ _ _ _ (typed.Or a b t u e h i j) = or_made ws a b t u e (expr_made ws a b e u h) i j
    link_made ws _ _ _ _ _ (typed.Combine a b t u o e h i j) = combine_made ws a b t u o e (expr_made ws a b e u h) i j

    pub place_made : (ws : List Ty) (a b : ℕ) (d : Place) (t : Ty) → typed.IsPlace x ws a b d t → Placed ws a b d t
    place_made ws _ _ _ _ (typed.Designator a b d t u r hs) =
        designator_made ws a b d t u r (components_made ws a b t d.components u hs)
    place_made ws _ _ _ _ (typed.OfOpen a b c d slot t u v w i cs r there ks h hs) =
        open_made ws a b c d slot t w v i cs r there ks (expr_made ws a b i w h)
        (components_made ws b c (tree x.home.types t) cs v hs)

    components_made : (ws : List Ty) (a b : ℕ) (t : Ty) (ks : List Component) (u : Ty)
        → typed.AreComponents x ws a b t ks u
        → MadeReaches ws a b t u (map (component_code N) ks) (map (component_value P ask) ks)
    components_made ws _ _ _ _ _ (typed.no_components a t) = no_components_made ws a t
    components_made ws _ _ _ _ _ (typed.more_components a b c t u v k ks h hs) =
        more_components_made ws a b c t u v (component_code N k) (map (component_code N) ks) (component_value P ask k)
        (map (component_value P ask) ks) (component_made ws a b t k u h) (components_made ws b c u ks v hs)

    component_made : (ws : List Ty) (a b : ℕ) (t : Ty) (k : Component) (u : Ty) → typed.IsComponent x ws a b t k u
        → MadeReach ws a b t u (component_code N k) (component_value P ask k)
    component_made ws _ _ _ _ _ (typed.FieldOf a t j u there) = field_made ws a t j u there
    component_made ws _ _ _ _ _ (typed.ElementOf a b t w r u i range array h) =
        element_made ws a b t w r u i range array (expr_made ws a b i w h)

    pub call_made : (ws : List Ty) (a b : ℕ) (c : Call) (r : Result) → typed.IsCall x ws a b c r
        → MadeCall ws a b r (call_code N c) (call_value P ask c)
    call_made ws _ _ _ _ (typed.OfModule a b f args known hs) =
        module_made ws a b f args known (arguments_made ws a b args (forms_of x.home.types f.heading) hs)
    call_made ws _ _ _ _ (typed.OfProcedure a b f args known hs) =
        nested_made ws a b f args known.inner (arguments_made ws a b args (forms_of x.home.types f.heading) hs)
    call_made ws _ _ _ _ (typed.OfVariable a b c t h d args is type g signed hs) =
        variable_made ws a b c t h d args is type (place_made ws a b d (Cell (Callable h)) g) signed
        (arguments_made ws b c args (forms_of x.home.types t) hs)

    arguments_made : (ws : List Ty) (a b : ℕ) (args : List Argument) (fs : Forms) → typed.AreArguments x ws a b args fs
        → ArgumentsOf ws a b args fs
    arguments_made ws _ _ _ _ (typed.no_arguments a) = no_arguments_made ws a
    arguments_made ws _ _ _ _ (typed.more_arguments a b c g gs f fs h hs) =
        more_arguments_made ws a b c f fs (argument_code N g) (map (argument_code N) gs) (argument_value P ask g)
        (map (argument_value P ask) gs) (argument_made ws a b g f h) (arguments_made ws b c gs fs hs)

    argument_made : (ws : List Ty) (a b : ℕ) (g : Argument) (f : Form) → typed.IsArgument x ws a b g f
        → MadeArgument ws a b f (argument_code N g) (argument_value P ask g)
    argument_made ws _ _ _ _ (typed.Value a b t u c e h cell is) =
        value_made ws a b t u c e (expr_made ws a b e u h) cell is
    argument_made ws _ _ _ _ (typed.ProcedureActual a b t h e g none type) =
        actual_made ws a b t h e (held_made ws a b e h g) none
    argument_made ws _ _ _ _ (typed.ActualName a b d t h) = name_made ws a b d t (place_made ws a b d t h)
    argument_made ws _ _ _ _ (typed.ActualCopy a b d t h) = copy_made ws a b d t (place_made ws a b d t h)
    argument_made ws _ _ _ _ (typed.ActualArray a b t r u is_var d range narrow array h) =
        array_made ws a b t r u is_var d range narrow array (place_made ws a b d (tree x.home.types t) h)
    argument_made ws _ _ _ _ (typed.ActualOpen a slot is_var u there) = whole_made ws a slot is_var u there
    argument_made ws _ _ _ _ (typed.ActualText a text has below) = text_made ws a text has below
