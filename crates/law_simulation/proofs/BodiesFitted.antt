-- The scenes in which bodies run fit their contexts, where the modules are linked and all functions do what is asked.
use Rattle.std.proofs.Common.{◌≡◌, ℕ, zero, suc, ◌+◌, ◌<◌, pos, Bool, true, false, List, [], ◌∷◌, ◌++◌, length, Option, Some, None, if◌then◌else◌, refl, sym, ap, subst, ◌∙◌, arith}
use Rattle.std.specs.Prelude.{slice_get, drop, nat_lt}
use Rattle.std.proofs.lemmas.Bool.{eqb-true}
use Rattle.wasm_tree.specs.declared.instr.Instr.TheVariants as instr
use Rattle.wasm_tree.specs.declared.module.WModule.{WModule}
use Rattle.wasm_tree.specs.declared.store.Value.{Value}
use Rattle.wasm_tree.specs.Machine.{Typed, agree, callee_in}
use Rattle.law_effect.specs.Effect.{Fixed, nest_calls, store_of}
use Rattle.typed_tree.specs.declared.computed.LocalProcedure.{LocalProcedure}
use Rattle.typed_tree.specs.declared.meaning.Procedure.{Procedure}
use Rattle.typed_tree.specs.declared.meaning.Variable.{Variable}
use Rattle.typed_tree.specs.declared.typed_module.Routine.{Routine}
use Rattle.typed_tree.specs.declared.typed_module.Which.{Which}
use Rattle.typed_tree.specs.declared.typed_module.Which.TheVariants as which
use Rattle.typed_tree.specs.declared.typed_module.TypedModule.{TypedModule}
use Rattle.layout_storage.specs.Types.{Ty, Hidden, Heading, row, component}
use Rattle.layout_storage.specs.Sizes.{offset}
use Rattle.layout_storage.specs.Frames.{formals_of}
use Rattle.def_meaning.specs.Store.{Location}
use Rattle.def_meaning.specs.Environment.{Modules, Environment, Frames, Callee, entry_of, entry_callee, callee_with, module_place, procedure_in, module_callee, nested_in}
use Rattle.def_meaning.specs.Calls.{is_there}
use Rattle.law_memory.specs.Relation.{NamesProcedure}
use Rattle.law_memory.proofs.Procedures.{entry_there}
use Rattle.law_memory.proofs.Worlds.{component_old, offset_old, in_world}
use Rattle.def_scheme.specs.Coded.{body_index, raise_address}
use Rattle.def_scheme.specs.Exprs.{is_own, all_arguments, has_result, slots_global, slot_number, indirect, module_call, nested_call}
use Rattle.def_scheme.specs.Functions.{numbers_of, setting}
use Rattle.def_scheme.specs.Modules.{numbering_of}
use Rattle.def_scheme.specs.Signatures.{Signature, signature, of_heading, type_of}
use Rattle.law_simulation.specs.Begun.{calling}
use Rattle.law_simulation.specs.Scene.{Scene, IsSet, IsGlobal}
use Rattle.law_simulation.specs.Frames.{Kinds, HasFrames}
use Rattle.law_simulation.specs.Held.{HasCallee}
use Rattle.law_simulation.specs.CallsLaws.{HasSlot, IsText}
use Rattle.law_simulation.specs.Passing.{Forms, Result, all_operands, forms_of, forms_in, result_of, heading_result, HasTop, DoesAsked, IsCallOf}
use Rattle.law_simulation.proofs.Called.{direct_calls, table_calls}
use Rattle.law_simulation.proofs.Headings.{forms_same, result_same, has_it, operands_counted, many_length, agrees_itself, type_same}
use Rattle.law_simulation.specs.TreesTyped.{Context, IsVariable, IsNamed, IsCallable, IsInner, HasText}
use Rattle.law_simulation.specs.Fitting.{IsCalled, Fits}
use Rattle.law_simulation.specs.ProceduresLaws.{is_inner, callee_of}
use Rattle.law_simulation.specs.Knot.{core, AllDo}
use Rattle.law_simulation.specs.Linked.{Spot, function_of, called_by, routine_typed, environment_of, part_of, context, IsLinked}
use Rattle.law_simulation.specs.BodiesLaws.{AreLinked}
use Rattle.law_simulation.proofs.Counted.{some_around}

none_some : {A : Type 0} (x : A) → None ≡ Some x → ⊥
none_some x e = cc e

some_same : {A : Type 0} (x y : A) → Some x ≡ Some y → x ≡ y
some_same x y e = cc e

-- how many operands a procedure's function takes
takes_many : (m : TypedModule) (w : Which) (r : Routine) (b : Bool) → nat_lt 1 r.level ≡ b
    → length (routine_typed m w r).type.params ≡ suc ((if b then 1 else 0) + all_operands (forms_of m.types r.heading))
takes_many m w r b e =
    let same = operands_counted m.types r.heading in
    let many = many_length (numbers_of m.types r) in
    let level : ◌≡◌ {A = ℕ} (if nat_lt 1 r.level then 1 else 0) (if b then 1 else 0) =
    ap (λ (b : Bool). if b then 1 else 0) e in
    omega (arith, same, many, level)

module _ (modules : List WModule) (fx : Fixed) (serves : (k f : ℕ) → Bool) (extra : (k f : ℕ) → ℕ) (n limit : ℕ)
    (p : Modules) (base : List Ty) (texts : Location → ℕ → ℕ)
    (linked : AreLinked modules fx serves extra n limit p base texts)
    (levels : (o : Spot p) → nat_lt 1 o.routine.level ≡ is_inner (environment_of o.home o.routine))
    (outermost : (o : Spot p) (number : ℕ) → o.at ≡ which.Module number → environment_of o.home o.routine ≡ [])
    (d : ℕ) (all : AllDo modules fx serves extra n limit p base texts (Spot p) part_of d) where
  module _ (place : ℕ) (m : TypedModule) (at : slice_get p place ≡ Some m) (kinds : List Kinds) (a : Environment)
      (frames : List Ty) (arguments addresses : ℕ) (world : List Ty) (y : Location → ℕ → ℕ) (locals : ℕ)
      (result : Option Ty) (kept : ℕ → Option Value) where
    -- the scene of a body
    abbrev pub K : Scene
    K = record (core modules fx serves extra n limit p base texts (suc place) place m d) {
      around = a;
      setting = setting m frames arguments addresses;
      world = world;
      hidden = y;
      locals = locals;
      result = result;
      kept = kept;
    }

    abbrev x : Context
    x = context p base texts place m kinds

    abbrev plain : Context
    plain = context p base texts place m []

    g : IsLinked p base texts modules fx place m
    g = linked place m at

    named_plainly : (f : Procedure) → IsNamed x f → IsNamed plain f
    named_plainly f h = record {
      known = h.known;
      home = h.home;
      there = h.there;
      routine = h.routine;
      is = h.is;
      outermost = h.outermost;
      forms = h.forms;
      result = h.result;
      heading = h.heading;
    }

    module _ (set : IsSet K) (top : HasTop K base texts) where
      -- what stands in the instances of modules
      old_type : (i : ℕ) (r : Location) (t : Ty) → component (row base) (i ∷ r) ≡ Some t
          → component (row world) (i ∷ r) ≡ Some t
      old_type i r t e = ap (λ (w : List Ty). component (row w) (i ∷ r)) top.based.is
          ∙ component_old base top.based.more i r t e

      old_place : (i : ℕ) (r : Location) (t : Ty) → component (row base) (i ∷ r) ≡ Some t
          → offset (row world) (i ∷ r) ≡ offset (row base) (i ∷ r)
      old_place i r t e = ap (λ (w : List Ty). offset (row w) (i ∷ r)) top.based.is
          ∙ offset_old base top.based.more i r t e

      global_here : (v : Variable) (t : Ty) → IsVariable x v t → IsGlobal K v (module_place p v.home ∷ v.number ∷ []) t
      global_here v t is =
          let q = g.variables v t (record { known = is.known; type = is.type; there = is.there }) in
          record {
            base = q.address;
            there = q.there;
            type =
                old_type (module_place p v.home) (v.number ∷ []) t is.there;
            at = q.at
                ∙ sym (old_place (module_place p v.home) (v.number ∷ []) t is.there);
            some = omega arith;
          }

      slot_here : (f : Procedure) → IsNamed x f → HasSlot K p f
      slot_here f h = let q = g.procedures f (named_plainly f h) in
          record { slot = q.slot; there = q.there; is = q.is; small = q.small }

      text_here : (i : ℕ) (text : List ℕ) → HasText x i text → IsText K i text
      text_here i text has =
          let q = g.characters in
          let less : place < length base = in_world base place (q.number ∷ []) (Hidden q.bytes) q.type in
          record {
            base = q.address;
            there = q.there;
            room = place ∷ q.number ∷ [];
            bytes = q.bytes;
            type = old_type place (q.number ∷ []) (Hidden q.bytes) q.type;
            is = old_place place (q.number ∷ []) (Hidden q.bytes) q.type ∙ q.at;
            fits = (let e = has.fits in let h = q.fits in omega (arith, e, h));
            same = λ j h. top.based.same place (q.number ∷ []) (i + j) less
                ∙ (q.same (i + j) (let e = has.fits in omega (arith, h, e)) ∙ has.same j h);
            small = has.small;
          }

      -- ---- procedures of modules

      abbrev spot_of : (f : Procedure) → IsNamed x f → Spot p
      spot_of f h = record {
        place = module_place p f.home;
        home = h.home;
        there = h.there;
        at = which.Module f.number;
        routine = h.routine;
        is = h.is;
      }

      own_call : (i j : ℕ) → i ≡ place → (home : TypedModule) → slice_get p i ≡ Some home → (r : Routine)
          → slice_get home.procedures j ≡ Some r
          → IsCallOf K (instr.Call (suc body_index + j) ∷ []) (suc i) (6 + j) (routine_typed home (which.Module j) r)
      own_call i j same home there r is =
          subst (λ (i : ℕ). slice_get p i ≡ Some home
          → IsCallOf K (instr.Call (suc body_index + j) ∷ []) (suc i) (6 + j)
          (routine_typed home (which.Module j) r)) (sym same)
          (λ there'. here home (some_same m home (sym at ∙ there')) is) there
        where
          here : (home : TypedModule) → m ≡ home → slice_get home.procedures j ≡ Some r
              → IsCallOf K (instr.Call (suc body_index + j) ∷ []) (suc place) (6 + j)
              (routine_typed home (which.Module j) r)
          here home e is =
              subst (λ (home : TypedModule). slice_get home.procedures j ≡ Some r
              → IsCallOf K (instr.Call (suc body_index + j) ∷ []) (suc place) (6 + j)
              (routine_typed home (which.Module j) r)) e
              (λ is'. direct_calls K (suc body_index + j) (suc place) (6 + j) (routine_typed m (which.Module j) r)
              (g.called (which.Module j) r is') (g.functions (which.Module j) r is')) is

      -- the type with which it is called is that of its function
      same_type : (f : Procedure) (h : IsNamed x f)
          → signature (numbers_of h.home.types h.routine) (has_result h.home.types h.routine.heading)
          ≡ of_heading m.types f.heading
      same_type f h =
          let level = levels (spot_of f h) in
          let none : nat_lt 1 h.routine.level ≡ false = level ∙ ap is_inner h.outermost in
          let count : numbers_of h.home.types h.routine ≡ all_arguments (formals_of m.types f.heading) =
          (let link : ◌≡◌ {A = ℕ} (if nat_lt 1 h.routine.level then 1 else 0) 0 =
          ap (λ (b : Bool). if b then 1 else 0) none in
          let one = operands_counted h.home.types h.routine.heading in
          let other = operands_counted m.types f.heading in
          let both : all_operands (forms_of h.home.types h.routine.heading)
          ≡ all_operands (forms_of m.types f.heading) = ap all_operands h.forms in
          omega (arith, link, one, other, both))
          in
          ap (λ (i : ℕ). signature i (has_result h.home.types h.routine.heading)) count
          ∙ ap (λ (b : Bool). signature (all_arguments (formals_of m.types f.heading)) b)
          (has_it h.home.types h.routine.heading ∙ ap (λ (r : Result). is_there r) h.result
          ∙ sym (has_it m.types f.heading))

      module_calls : (f : Procedure) (c : IsCallable x f) (b : Bool) → is_own m f.home ≡ b
          → IsCallOf K (if b then instr.Call (suc body_index + f.number)
          ∷ [] else (instr.GlobalGet (slots_global m f.home)
          ∷ (raise_address (slot_number f) ++ indirect (numbering_of m) m.types f.heading ∷ [])))
          (suc (module_place p f.home)) (6 + f.number)
          (routine_typed c.named.home (which.Module f.number) c.named.routine)
      module_calls f c true e =
          let h = c.named in
          let own : f.home ≡ m.types.home = eqb-true f.home m.types.home e in
          own_call (module_place p f.home) f.number (ap (λ (i : ℕ). module_place p i) own ∙ g.own) h.home h.there
          h.routine h.is
      module_calls f c false e =
          let h = c.named in
          let q = g.procedures f (named_plainly f h) in
          let s : Signature = of_heading m.types f.heading in
          let t : Typed = routine_typed h.home (which.Module f.number) h.routine in
          let there = linked (module_place p f.home) h.home h.there in
          table_calls K set (slots_global m f.home) q.slot (slot_number f) (numbering_of m s.arguments s.result)
          (suc (module_place p f.home)) (6 + f.number) t q.there q.small q.filled
          (there.functions (which.Module f.number) h.routine h.is)
          (ap (λ o. agree o (Some t.type)) (g.types s (c.signed e))
          ∙ ap (λ (s' : Signature). agree (Some (type_of s)) (Some (type_of s'))) (same_type f h)
          ∙ agrees_itself (type_of s))

      asked : (c : Callee) (kss kss' : List Kinds) (fs fs' : Forms) (r r' : Result) (j i : ℕ) (t : Typed) → kss ≡ kss'
          → fs ≡ fs' → r ≡ r' → DoesAsked p base texts limit (nest_calls modules fx serves extra n d) (calling p n d) c
          kss fs r j i t → DoesAsked p base texts limit (nest_calls modules fx serves extra n d) (calling p n d) c kss'
          fs' r' j i t
      asked c kss kss' fs fs' r r' j i t e e' e'' h =
          subst (λ (kss : List Kinds). DoesAsked p base texts limit (nest_calls modules fx serves extra n d)
          (calling p n d) c kss fs' r' j i t) e
          (subst (λ (fs : Forms). DoesAsked p base texts limit (nest_calls modules fx serves extra n d) (calling p n d)
          c kss fs r' j i t) e'
          (subst (λ (r : Result). DoesAsked p base texts limit (nest_calls modules fx serves extra n d) (calling p n d)
          c kss fs r j i t) e'' h))

      module_here : (f : Procedure) → IsCallable x f → (c : Callee)
          × (module_callee p (module_place p f.home) f.number ≡ Some c) × (c.frames ≡ [])
          × IsCalled x (calling p n d) K c [] f.heading (module_call (numbering_of m) m f) 0
      module_here f c =
          let h = c.named in
          let o : Spot p = spot_of f h in
          let none : nat_lt 1 h.routine.level ≡ false = levels o ∙ ap is_inner h.outermost in
          let many = takes_many h.home (which.Module f.number) h.routine false none in
          let same : all_operands (forms_of h.home.types h.routine.heading)
          ≡ all_operands (forms_of m.types f.heading) = ap all_operands h.forms in
          let callee : Callee = callee_of o.place h.home h.routine [] in (
            callee,
            ap (λ (q : Option TypedModule). procedure_in o.place q f.number) h.there
                ∙ ap (λ (q : Option Routine). callee_with o.place h.home.types [] q) h.is,
            refl,
            record {
              own = suc o.place;
              function = 6 + f.number;
              typed = routine_typed h.home (which.Module f.number) h.routine;
              does = asked callee (environment_of h.home h.routine) [] (forms_of h.home.types h.routine.heading)
                  (forms_of m.types f.heading) (result_of h.home.types h.routine.heading) (result_of m.types f.heading)
                  (suc o.place) (6 + f.number) (routine_typed h.home (which.Module f.number) h.routine) h.outermost
                  h.forms h.result (all o []);
              is_call = module_calls f c (is_own m f.home) refl;
              count = omega (arith, many, same);
            },
          )

      -- ---- procedures of procedures

      inner_here : (f : LocalProcedure) → IsInner x f → (c : Callee)
          × (nested_in place (slice_get p place) (drop f.up a.frames) f.number ≡ Some c)
          × (c.frames ≡ drop f.up a.frames) × IsCalled x (calling p n d) K c (drop f.up kinds) f.heading
          (nested_call (numbering_of m) m f) 1
      inner_here f h =
          let nss : Frames = drop f.up a.frames in
          let w : Which = which.Local f.number in
          let o : Spot p = record { place = place; home = m; there = at; at = w; routine = h.routine; is = h.is } in
          let one : nat_lt 1 h.routine.level ≡ true = levels o
          ∙ (ap is_inner h.kinds ∙ some_around f.up kinds h.less) in
          let many = takes_many m w h.routine true one in
          let same : all_operands (forms_of m.types h.routine.heading) ≡ all_operands (forms_of m.types f.heading) =
          ap all_operands h.forms in
          let callee : Callee = callee_of place m h.routine nss in (
            callee,
            ap (λ (q : Option TypedModule). nested_in place q nss f.number) at
                ∙ ap (λ (q : Option Routine). callee_with place m.types nss q) h.is,
            refl,
            record {
              own = suc place;
              function = function_of m w;
              typed = routine_typed m w h.routine;
              does = asked callee (environment_of m h.routine) (drop f.up kinds) (forms_of m.types h.routine.heading)
                  (forms_of m.types f.heading) (result_of m.types h.routine.heading) (result_of m.types f.heading)
                  (suc place) (function_of m w) (routine_typed m w h.routine) h.kinds h.forms h.result (all o nss);
              is_call = direct_calls K (called_by m w) (suc place) (function_of m w) (routine_typed m w h.routine)
                  (g.called w h.routine h.is) (g.functions w h.routine h.is);
              count = omega (arith, many, same);
            },
          )

      -- ---- procedures by their numbers

      -- a procedure of a module itself has the type of its heading
      outermost_type : (o : Spot p) → environment_of o.home o.routine ≡ []
          → signature (numbers_of o.home.types o.routine) (has_result o.home.types o.routine.heading)
          ≡ of_heading o.home.types o.routine.heading
      outermost_type o outer =
          let none : nat_lt 1 o.routine.level ≡ false = levels o ∙ ap is_inner outer in
          let link : ◌≡◌ {A = ℕ} (if nat_lt 1 o.routine.level then 1 else 0) 0 =
          ap (λ (b : Bool). if b then 1 else 0) none in
          let count : numbers_of o.home.types o.routine ≡ all_arguments (formals_of o.home.types o.routine.heading) =
          omega (arith, link) in
          ap (λ (i : ℕ). signature i (has_result o.home.types o.routine.heading)) count

      callee_here : (h : Heading) (i : ℕ) → NamesProcedure p h i → HasCallee K (calling p n d) base texts h i
      callee_here h i names =
          let w : Which = which.Module names.number in
          let o : Spot p = record {
            place = names.place;
            home = names.home;
            there = names.there;
            at = w;
            routine =
                names.routine;
            is = names.is;
          } in
          let outer : environment_of names.home names.routine ≡ [] = outermost o names.number refl in
          let entry = g.entries names.place names.home names.number names.routine names.there names.is in
          let value = names.value in
          let small = entry.small in
          let callee : Callee = callee_of names.place names.home names.routine [] in
          let t : Typed = routine_typed names.home w names.routine in
          record {
            some = omega (arith, value);
            small = omega (arith, value, small);
            callee = callee;
            is =
                ap (λ (i : ℕ). entry_callee p (entry_of p (pos i))) value
                ∙ ap (entry_callee p) (entry_there p names.place names.number names.home names.routine names.there
                names.is)
                ∙ ap (λ (q : Option TypedModule). procedure_in names.place q names.number) names.there
                ∙ ap (λ (q : Option Routine). callee_with names.place names.home.types [] q) names.is;
            outermost = refl;
            own = suc names.place;
            function = 6 + names.number;
            typed = t;
            filled = λ bytes. ap (callee_in (store_of fx bytes) (suc place)) value ∙ entry.filled bytes;
            there = (linked names.place names.home names.there).functions w names.routine names.is;
            type = ap type_of (outermost_type o outer)
                ∙ type_same names.home.types names.routine.heading h names.heading;
            does = asked callee (environment_of names.home names.routine) []
                (forms_of names.home.types names.routine.heading) (forms_in h)
                (result_of names.home.types names.routine.heading) (heading_result h) (suc names.place)
                (6 + names.number) t outer
                (forms_same names.home.types names.routine.heading h names.heading)
                (result_same names.home.types names.routine.heading h names.heading) (all o []);
          }

      -- ---- all of it

      none_open : (j : ℕ) (t : Ty) → slice_get [] j ≡ Some t → ⊥
      none_open zero t e = none_some t e
      none_open (suc j) t e = none_some t e

      pub fits_here : a.place ≡ place → a.withs ≡ [] → HasFrames K kinds → Fits x (calling p n d) [] K
      fits_here same none has = record {
        set = set;
        home = refl;
        program = refl;
        place = same;
        frames = has;
        top = top;
        withs = λ j t e. absurd (none_open j t e);
        count = (refl, ap (λ (ls : List Location). length ls) none);
        globals = global_here;
        slots = slot_here;
        texts = text_here;
        modules = module_here;
        nested = inner_here;
        callees = callee_here;
        signed = λ t s. g.types (of_heading m.types t) s;
      }
