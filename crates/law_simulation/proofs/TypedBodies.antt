-- Bodies that are typed do what the definition says, to every depth of calls.
use Rattle.std.proofs.Common.{◌≡◌, ℕ, suc, ◌-◌, Bool, false, List, [], ◌∷◌, None, refl, sym, ap, subst}
use Rattle.std.specs.Prelude.{nat_lt}
use Rattle.wasm_tree.specs.declared.module.WModule.{WModule}
use Rattle.law_effect.specs.Effect.{Fixed}
use Rattle.typed_tree.specs.declared.typed_module.Routine.{Routine}
use Rattle.typed_tree.specs.declared.typed_module.Which.TheVariants as which
use Rattle.typed_tree.specs.declared.typed_module.TypedModule.{TypedModule}
use Rattle.layout_storage.specs.Types.{Ty}
use Rattle.layout_storage.specs.Frames.{frame}
use Rattle.layout_storage.specs.Texts.{characters, routines_texts}
use Rattle.def_meaning.specs.Store.{Location}
use Rattle.def_meaning.specs.Environment.{Modules, Environment}
use Rattle.def_meaning.specs.Calls.{is_there}
use Rattle.def_meaning.specs.Runs.{body_environment, storage, body_frame}
use Rattle.def_meaning.specs.Statements.{Does}
use Rattle.def_scheme.specs.Coded.{Coded, Setting}
use Rattle.def_scheme.specs.Addresses.{addresses_in}
use Rattle.def_scheme.specs.Exprs.{has_result}
use Rattle.def_scheme.specs.Functions.{frames_around, numbers_of, setting, from_text}
use Rattle.def_scheme.specs.Modules.{numbering_of}
use Rattle.def_scheme.specs.Steps.{body_code}
use Rattle.law_simulation.specs.Begun.{body_does, calling}
use Rattle.law_simulation.specs.Scene.{Scene, Executes}
use Rattle.law_simulation.specs.Frames.{Kinds, kinds_of}
use Rattle.law_simulation.specs.Passing.{Result, result_of}
use Rattle.law_simulation.proofs.Headings.{many_length}
use Rattle.law_simulation.specs.Placed.{Pins}
use Rattle.law_simulation.specs.TreesTyped.{Context}
use Rattle.law_simulation.specs.Fitting.{Fits}
use Rattle.law_simulation.specs.StmtsLaws.{Suits}
use Rattle.law_simulation.proofs.StmtsLaws.{bodies, stays}
use Rattle.law_simulation.specs.ProceduresLaws.{top_of, is_inner, IsFunction, DoesBody, body_scene, locals_in}
use Rattle.law_simulation.specs.Knot.{core, AllDo, IsPart}
use Rattle.law_simulation.specs.Main.{body_row, IsMain, main_scene}
use Rattle.law_simulation.proofs.Knots.{knot}
use Rattle.law_simulation.proofs.Mains.{main_does}
use Rattle.law_simulation.specs.RunsPrograms.{body_typed}
use Rattle.law_simulation.specs.Linked.{Spot, routine_typed, environment_of, text_of, part_of, context}
use Rattle.law_simulation.specs.BodiesLaws.{AreLinked, AreTyped, IsTypedMain, Parts, Mains, TypedBodies}
use Rattle.law_simulation.proofs.Counted.{function_it, results_length}
use Rattle.law_simulation.proofs.BodiesFitted.{fits_here}

-- the place of the next text is that of the code as it stands
pub counted : Coded → (to : ℕ) → Coded
counted y to s c = ((y s c).0, record (y s c).1 { texts = to })

counted_executes : (k : Scene) (function : Bool) (y : Coded) (to : ℕ) (d : Does) → Executes k function y d
    → Executes k function (counted y to) d
unfolding counted
counted_executes k function y to d h = record {
  grows = λ e c. let g = h.grows e c in record { numbers = g.numbers; addresses = g.addresses };
  goes = λ e c free full s st stands rest stack. h.goes e c free
      (record { numbers = full.numbers; addresses = full.addresses }) s st stands rest stack;
}

counted_same : (from to : ℕ) (x y : Coded) (s : Setting) → Pins from to x y
    → counted y to s (from_text from) ≡ x s (from_text from)
unfolding counted
counted_same from to x y s h = sym (h.is s (from_text from))

module _ (modules : List WModule) (fx : Fixed) (serves : (k f : ℕ) → Bool) (extra : (k f : ℕ) → ℕ) (n limit : ℕ)
    (p : Modules) (base : List Ty) (texts : Location → ℕ → ℕ)
    (linked : AreLinked modules fx serves extra n limit p base texts)
    (typed : AreTyped modules fx serves extra n limit p base texts) where
  levels : (o : Spot p) → nat_lt 1 o.routine.level ≡ is_inner (environment_of o.home o.routine)
  levels o = ((typed o).procedure 0).linked

  outermost : (o : Spot p) (number : ℕ) → o.at ≡ which.Module number → environment_of o.home o.routine ≡ []
  outermost o number e = (typed o).outermost number e

  function_there : (o : Spot p) → IsFunction (numbering_of o.home) o.home o.routine
      (frames_around o.home o.routine.level o.routine.around) (text_of o.home o.at)
      (routine_typed o.home o.at o.routine)
  function_there o = record {
    params = ap suc (many_length (numbers_of o.home.types o.routine));
    results = results_length (has_result o.home.types o.routine.heading);
    locals = refl;
    code = refl;
    addresses = (typed o).addresses;
  }

  body_there : (o : Spot p) (d : ℕ) → AllDo modules fx serves extra n limit p base texts (Spot p) part_of d
      → DoesBody (core modules fx serves extra n limit p base texts (suc o.place) o.place o.home d) p (calling p n d)
      (numbering_of o.home) o.home o.place o.routine (frames_around o.home o.routine.level o.routine.around)
      (text_of o.home o.at) (environment_of o.home o.routine) base texts
  body_there o d all =
      let m : TypedModule = o.home in
      let r : Routine = o.routine in
      let outer : List Ty = frames_around m r.level r.around in
      let kinds : List Kinds = kinds_of m.types r ∷ environment_of m r in
      let x : Context = context p base texts o.place m kinds in
      let result : Result = result_of m.types r.heading in
      let t = typed o in
      let q = bodies x (calling p n d) result n (text_of m o.at) t.to r.body t.typed in
      record {
        placed = counted q.0 t.to;
        same = counted_same (text_of m o.at) t.to (body_code (numbering_of m) r.body) q.0
            (setting m (frame m.types r ∷ outer) (top_of m r) (addresses_in r.body)) q.1;
        executes = λ world y root a types place none set has top.
            let K : Scene = body_scene (core modules fx serves extra n limit p base texts (suc o.place) o.place m d) m r
            outer (locals_in (numbering_of m) m r outer (text_of m o.at)) world y root a in
            let fits : Fits x (calling p n d) [] K =
            fits_here modules fx serves extra n limit p base texts linked levels outermost d all o.place m o.there
            kinds a (frame m.types r ∷ outer) (top_of m r) (addresses_in r.body) world y K.locals K.result K.kept
            set top place none has in
            let suits : Suits x (calling p n d) result n [] K = record { fits = fits; turns = refl; typed = refl } in
            subst (λ (b : Bool). Executes K b (counted q.0 t.to) (body_does p n (calling p n d) r.body))
            (function_it m.types r)
            (counted_executes K (is_there result) q.0 t.to (body_does p n (calling p n d) r.body) (q.2 K suits));
        stays = λ a s s' e. stays x (calling p n d) result n (text_of m o.at) t.to r.body t.typed a s s' e;
      }

  pub parts_are : (o : Spot p) → IsPart modules fx serves extra n limit p base texts (Spot p) part_of o
  parts_are o = record {
    procedure = (typed o).procedure;
    function = function_there o;
    ours = (typed o).ours;
    bound =
        (typed o).bound;
    body = body_there o;
  }

  pub main_is : AllDo modules fx serves extra n limit p base texts (Spot p) part_of n → (place : ℕ) (m : TypedModule)
      → IsTypedMain modules fx serves extra n limit p base texts place m
      → (left : ℕ) → IsMain (core modules fx serves extra n limit p base texts (suc place) place m n) p (calling p n n)
      m place (characters (routines_texts m)) base texts left (body_typed m)
  main_is all place m t left =
      let text : ℕ = characters (routines_texts m) in
      let x : Context = context p base texts place m [] in
      let q = bodies x (calling p n n) None n text t.to m.body t.typed in
      let a : Environment = body_environment p place m left in
      let K : Scene = main_scene (core modules fx serves extra n limit p base texts (suc place) place m n) m text base
      texts a in
      record {
        helpers = t.helpers;
        limit = t.limited;
        small = t.small;
        locals = refl;
        code = refl;
        addresses = t.addresses;
        placed = counted q.0 t.to;
        same = counted_same text t.to (body_code (numbering_of m) m.body) q.0
            (setting m (body_row ∷ []) 1 (addresses_in m.body)) q.1;
        executes = λ set has top.
            let fits : Fits x (calling p n n) [] K =
            fits_here modules fx serves extra n limit p base texts linked levels outermost n all place m t.there []
            a (body_row ∷ []) 1 (addresses_in m.body) K.world K.hidden K.locals K.result K.kept set top refl refl
            has in
            let suits : Suits x (calling p n n) None n [] K = record { fits = fits; turns = refl; typed = refl } in
            counted_executes K false q.0 t.to (body_does p n (calling p n n) m.body) (q.2 K suits);
      }

pub parts : Parts
parts modules fx serves extra n limit p base texts linked typed o =
    parts_are modules fx serves extra n limit p base texts linked typed o

pub mains : Mains
mains modules fx serves extra n limit p base texts linked typed all place m t left =
    main_is modules fx serves extra n limit p base texts linked typed all place m t left

pub typed_bodies : TypedBodies
typed_bodies modules fx serves extra n limit p pages base texts count room linked typed place m t ours bound =
    let all = knot modules fx serves extra n limit p base texts (Spot p) part_of
    (parts_are modules fx serves extra n limit p base texts linked typed) in
    main_does modules fx serves extra limit p pages base texts n (suc place) place (characters (routines_texts m)) 5 m
    (body_typed m) count room ours bound
    (main_is modules fx serves extra n limit p base texts linked typed (all n) place m t (storage p pages - body_frame))
