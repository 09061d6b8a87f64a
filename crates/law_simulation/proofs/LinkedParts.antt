-- The procedures and bodies of a linked program are typed, where their trees are.
use Rattle.std.proofs.Common.{◌≡◌, ℕ, zero, suc, ◌+◌, ◌*◌, ◌<◌, ◌≤◌, ◌^◌, Bool, true, false, List, [], ◌++◌, length, Option, Some, None, if◌then◌else◌, refl, sym, ap, subst, ◌∙◌, arith}
use Rattle.std.specs.Prelude.{slice_get, nat_lt}
use Rattle.std.proofs.lemmas.Bool.{lt-ltb, le-ltb}
use Rattle.wasm_tree.specs.Validity.{AreDistinct}
use Rattle.typed_tree.specs.declared.typed_module.Routine.{Routine}
use Rattle.typed_tree.specs.declared.typed_module.Which.{Which}
use Rattle.typed_tree.specs.declared.typed_module.Which.TheVariants as which
use Rattle.typed_tree.specs.declared.typed_module.TypedModule.{TypedModule}
use Rattle.layout_storage.specs.Types.{Ty}
use Rattle.layout_storage.specs.Texts.{characters, routines_texts}
use Rattle.def_scheme.specs.Functions.{routine_of, routine_at, around_in, own_frame, frames_around}
use Rattle.def_scheme.specs.Modules.{numbering_of}
use Rattle.law_modules.proofs.Own.{of_own, of_nested, at_place}
use Rattle.law_modules.proofs.Functions.{routine_addresses, module_addresses}
use Rattle.def_scheme.specs.Addresses.{addresses_in}
use Rattle.law_modules.specs.WellFormed.{IsBody}
use Rattle.law_modules.specs.Linked.{Program, names, all}
use Rattle.law_simulation.specs.Scene.{HasHelpers}
use Rattle.law_simulation.specs.Stage.{HasLimit}
use Rattle.law_simulation.specs.ProceduresLaws.{coded_body, is_inner}
use Rattle.law_simulation.specs.Knot.{core}
use Rattle.law_simulation.specs.RunsPrograms.{ground, fixtures_of}
use Rattle.law_simulation.specs.TreesTyped.{own_kinds, kinds_around}
use Rattle.law_simulation.specs.BodiesPrograms.{serving, more_turns}
use Rattle.law_simulation.specs.Linked.{Spot, function_of, text_of}
use Rattle.law_simulation.specs.BodiesLaws.{IsTypedRoutine, IsTypedMain}
use Rattle.law_simulation.proofs.Cells.{are_small}
use Rattle.law_simulation.proofs.Fits.{forms_plain, frame_fits}
use Rattle.law_simulation.specs.Modules.{HasRoom, IsInside, AreModules, AreTypedModules}
use Rattle.law_simulation.proofs.Helped.{has_helpers, has_limit}
use Rattle.law_simulation.proofs.Globals.{Split, here}
use Rattle.law_simulation.specs.Frames.{Kinds, AreFrames}
use Rattle.law_simulation.proofs.Formed.{frame_is}

-- ---- frames of procedures

own_frames : (m : TypedModule) (o : Option Routine) (kss : List Kinds) (ts : List Ty) → AreFrames kss ts
    → AreFrames (own_kinds m o ++ kss) (own_frame m o ++ ts)
own_frames m None kss ts h = h
own_frames m (Some r) kss ts h = (frame_is m.types r, h)

frames_are : (m : TypedModule) (level : ℕ) (w : Option Which)
    → AreFrames (kinds_around m level w) (frames_around m level w)
frames_are m zero w = tt
frames_are m (suc k) w = own_frames m (routine_at m w) (kinds_around m k (around_in (routine_at m w)))
    (frames_around m k (around_in (routine_at m w))) (frames_are m k (around_in (routine_at m w)))

no_kinds : (m : TypedModule) (level : ℕ) → kinds_around m level None ≡ []
no_kinds m zero = refl
no_kinds m (suc k) = no_kinds m k

outermost_kinds : (m : TypedModule) (r : Routine) → r.around ≡ None → kinds_around m r.level r.around ≡ []
outermost_kinds m r e = ap (kinds_around m r.level) e ∙ no_kinds m r.level

-- ---- levels

inner_kinds : (m : TypedModule) (level : ℕ) (w : Which) (r : Routine) → 0 < level → routine_of m w ≡ Some r
    → is_inner (kinds_around m level (Some w)) ≡ true
inner_kinds m zero w r less e = absurd (omega (arith, less))
inner_kinds m (suc k) w r less e = ap (λ (o : Option Routine). is_inner
    (own_kinds m o ++ kinds_around m k (environment_of o))) e
  where
    environment_of : Option Routine → Option Which
    environment_of None = None
    environment_of (Some r) = r.around

own_linked : (m : TypedModule) (r : Routine) → r.level ≡ 1 → r.around ≡ None
    → nat_lt 1 r.level ≡ is_inner (kinds_around m r.level r.around)
own_linked m r level e = le-ltb 1 r.level (omega (arith, level)) ∙ sym (ap is_inner (outermost_kinds m r e))

inner_linked : (m : TypedModule) (r : Routine) → 1 < r.level → IsInside m r
    → nat_lt 1 r.level ≡ is_inner (kinds_around m r.level r.around)
inner_linked m r level is = lt-ltb 1 r.level level
    ∙ sym (ap (λ (o : Option Which). is_inner (kinds_around m r.level o)) is.around
    ∙ inner_kinds m r.level is.which is.routine (omega (arith, level)) is.there)

-- ---- procedures

module _ (p : Program) (pages : ℕ) (most : pages ≤ 1024) (distinct : AreDistinct (names p)) (modules : AreModules p)
    (n : ℕ) where
  module _ (place : ℕ) (m : TypedModule) (there : slice_get p place ≡ Some m) where
    abbrev h : Split p place m
    h = here p pages place distinct m (modules place m there).coherent

    pub helpers_here : (d : ℕ) → HasHelpers
        (core (all p pages) (fixtures_of p pages) serving more_turns n (65536 * pages) p (ground p pages).base
        (ground p pages).texts (suc place) place m d)
    helpers_here d =
        subst (λ (j : ℕ). HasHelpers (core (all p pages) (fixtures_of p pages) serving more_turns n (65536 * pages) p
        (ground p pages).base (ground p pages).texts (suc j) place m d)) h.long
        (has_helpers p pages h.before h.rest m h.is (ground p pages).base (ground p pages).texts place n d)

    pub limit_here : (d : ℕ) → HasLimit (core (all p pages) (fixtures_of p pages) serving more_turns n (65536 * pages) p
        (ground p pages).base (ground p pages).texts (suc place) place m d)
    limit_here d =
        subst (λ (j : ℕ). HasLimit (core (all p pages) (fixtures_of p pages) serving more_turns n (65536 * pages) p
        (ground p pages).base (ground p pages).texts (suc j) place m d)) h.long
        (has_limit p pages h.before h.rest m h.is (ground p pages).base (ground p pages).texts place n d most)

  -- what is known of a procedure of either list
  record Known (m : TypedModule) (w : Which) (r : Routine) : Type 0 where
    room : HasRoom m r
    linked : nat_lt 1 r.level ≡ is_inner (kinds_around m r.level r.around)
    addresses : (coded_body (numbering_of m) m r (frames_around m r.level r.around) (text_of m w)).1.addresses
        ≡ addresses_in r.body

  known : (place : ℕ) (m : TypedModule) (there : slice_get p place ≡ Some m) (w : Which) (r : Routine)
      → routine_of m w ≡ Some r → Known m w r
  known place m there (which.Module j) r e =
      let is = modules place m there in record {
        room = at_place (HasRoom m) m.procedures j r e is.room;
        linked = own_linked m r (at_place (λ r. r.level ≡ 1) m.procedures j r e is.well.levels)
            (at_place (λ r. r.around ≡ None) m.procedures j r e is.outermost);
        addresses = routine_addresses m is.well (text_of m (which.Module j)) r (of_own m j r e)
            (at_place (IsBody m) m.procedures j r e is.well.procedures);
      }
  known place m there (which.Local j) r e =
      let is = modules place m there in record {
        room = at_place (HasRoom m) m.locals j r e is.room_locals;
        linked = inner_linked m r (at_place (λ r. 1 < r.level) m.locals j r e is.well.nested)
            (at_place (IsInside m) m.locals j r e is.inside);
        addresses = routine_addresses m is.well (text_of m (which.Local j)) r (of_nested m j r e)
            (at_place (IsBody m) m.locals j r e is.well.locals);
      }

  no_helper : (m : TypedModule) (w : Which) → nat_lt (function_of m w) 5 ≡ false
  no_helper m (which.Module j) = le-ltb (6 + j) 5 (omega arith)
  no_helper m (which.Local j) = le-ltb (6 + (length m.procedures + j)) 5 (omega arith)

  module _ (typed : AreTypedModules p pages) where
    pub typed_routine : (o : Spot p) → IsTypedRoutine (all p pages) (fixtures_of p pages) serving more_turns n
        (65536 * pages) p (ground p pages).base (ground p pages).texts o
    typed_routine o =
        let k = known o.place o.home o.there o.at o.routine o.is in
        let is = modules o.place o.home o.there in
        let t = (typed o.place o.home o.there).procedures o.at o.routine o.is in record {
          procedure = λ d. record {
            helpers = helpers_here o.place o.home o.there d;
            limit = limit_here o.place o.home o.there d;
            small = are_small o.home.types is.ranged;
            forms = forms_plain o.home.types is.ranged o.routine.heading;
            fit = frame_fits o.home.types is.ranged o.routine;
            least = k.room;
            linked = k.linked;
            frames = frames_are o.home o.routine.level o.routine.around;
          };
          outermost = λ number e. outermost_kinds o.home o.routine
              (at_place (λ r. r.around ≡ None) o.home.procedures number o.routine
              (ap (routine_of o.home) (sym e) ∙ o.is) is.outermost);
          addresses = k.addresses;
          ours = no_helper o.home o.at;
          bound = ap (λ (b : Bool). if b then 2 ^ 32 else 0) (no_helper o.home o.at);
          to = t.0;
          typed = t.1;
        }

    pub typed_main : (place : ℕ) (m : TypedModule) → slice_get p place ≡ Some m
        → IsTypedMain (all p pages) (fixtures_of p pages) serving more_turns n (65536 * pages) p (ground p pages).base
        (ground p pages).texts place m
    typed_main place m there =
        let is = modules place m there in
        let t = (typed place m there).body in record {
          there = there;
          helpers = helpers_here place m there n;
          limited = limit_here place m there n;
          small = are_small m.types is.ranged;
          addresses = module_addresses m is.well (characters (routines_texts m));
          to = t.0;
          typed = t.1;
        }
