-- The bodies of the procedures of a module, typed.
use Rattle.std.proofs.Common.{◌≡◌, ℕ, zero, suc, ◌+◌, ◌<◌, ◌≤◌, ◌==◌, true, false, List, [], ◌∷◌, ◌++◌, map, length, Option, Some, None, Result, Ok, refl, sym, ap, subst, ◌∙◌, arith}
use Rattle.std.specs.Prelude.{drop, slice_get, slice_set}
use Rattle.std.specs.Option.{unwrap_or}
use Rattle.std.proofs.lemmas.Bool.{eqb-true}
use Rattle.std.proofs.lemmas.List.{length-append}
use Rattle.std.proofs.lemmas.Option.{same_Some}
use Rattle.m2_tree.specs.declared.decl.Heading.{Heading}
use Rattle.typed_tree.specs.declared.known_types.Types.{Types}
use Rattle.typed_tree.specs.declared.meaning.Meaning.TheVariants as meaning
use Rattle.typed_tree.specs.declared.meaning.Procedure.{Procedure}
use Rattle.typed_tree.specs.declared.shape.Formal.{Formal}
use Rattle.typed_tree.specs.declared.statement.TypedStmt.{TypedStmt}
use Rattle.typed_tree.specs.declared.typed_module.Routine.{Routine}
use Rattle.typed_tree.specs.declared.typed_module.Which.{Which}
use Rattle.typed_tree.specs.declared.typed_module.Which.TheVariants as which
use Rattle.typed_tree.specs.declared.types.TypeNo.{TypeNo}
use Rattle.typed_tree.specs.Names.{find_name}
use Rattle.check_scope.specs.Elaborated.{Gathers}
use Rattle.check_scope.specs.declared.known.Known.{Known}
use Rattle.check_scope.specs.declared.known.Known.TheVariants.{Headed}
use Rattle.check_scope.specs.declared.scope.Block.{Block}
use Rattle.check_scope.specs.declared.scope.Scope.{Scope}
use Rattle.layout_storage.specs.Frames.{formals_of}
use Rattle.layout_storage.specs.Shapes.{tree}
use Rattle.check_scope.specs.Inwards.{inwards}
use Rattle.check_body.specs.declared.routine.Bodies.{Bodies}
use Rattle.check_body.specs.declared.routine.Numbered.{Numbered}
use Rattle.check_body.specs.Routines.{numbered_known, put_routine, routine}
use Rattle.check_body.specs.declared.procedure.Walk.{Walk}
use Rattle.check_body.specs.Elaborating.{Elaborates}
use Rattle.check_body.specs.Inside.{which_of, with_routine}
use Rattle.check_body.specs.Bodies.{ChecksBlock, Steps, checked_by, with_body}
use Rattle.law_simulation.specs.Frames.{Kinds, Kept, formal_kind, kinds_of}
use Rattle.law_simulation.specs.Passing.{result_of}
use Rattle.law_simulation.specs.TreesTyped.{own_kinds, kinds_around}
use Rattle.def_scheme.specs.Functions.{around_in}
use Rattle.law_well_formed.specs.Formed.{Holds}
use Rattle.law_well_formed.specs.FormedBodies.{AreNumbered, Adds, Begins, Keeps, FormedBlock}
use Rattle.law_well_formed.proofs.Places.{is_within, set_other, set_same}
use Rattle.law_well_formed.proofs.Scopes.{formals_formed, formals_await}
use Rattle.law_well_formed.proofs.Checks.{nonzero, holds_at, begun_module_locals, entry, inner, ended, inside, around_it, procedure_keeps, keeps_then, inner_ok, body_ok}
use Rattle.law_well_formed.proofs.Parts.{IsStep, constants_step, types_step, variables_step, procedure_step, AreSteps, no_steps, more_steps}
use Rattle.law_well_formed.proofs.BodiesBlocks.{Order, at_least, less, nat_order, from, step_own, step_keeps, all_keep, checked_reported}
use Rattle.law_well_formed.proofs.Heads.{ModuleHeadOf, ModuleHeadsIn}
use Rattle.law_well_formed.proofs.ModulesProcedures.{AddsNested, Headings, module_count, NumbersOf, count_of, NumbersIn, Stands, all_go}
use Rattle.law_well_formed.specs.FormedNumbers.{all_formals}
use Rattle.law_well_formed.proofs.Entered.{procedure_entered}
use Rattle.law_programs.specs.TypingStmts.{StmtsTyped, AreReturned}
use Rattle.law_programs.specs.Words.{WordsStay}
use Rattle.law_well_formed.specs.Ordered.{AreKnown}
use Rattle.law_well_formed.proofs.OrderTypes.{all_kept, known_behind, made_known}
use Rattle.law_programs.specs.TypingBodies.{Stage, stands, stands_in, StageTyped, BodyTyped, NamesThere, BlocksThere, HeadingAgrees, ScopeKnown, Serves, AddsTyped, HasFrame, Enters, TypedBlock}
use Rattle.law_programs.proofs.Shifting.{names_deeper, blocks_deeper}
use Rattle.law_programs.proofs.Scopes.{blocks_more}
use Rattle.law_programs.proofs.BodiesBlocks.{StepTyped, AllTyped, StepAgrees, StepsAgree, step_known, serves_rest}
use Rattle.law_programs.proofs.Entered.{entered_locals, entered_fresh, entered_count, entered_known}

-- the bodies of all procedures of a list are typed
abbrev pub AllBodies : Stage → List Routine → Type 0
AllBodies z rs = (n : ℕ) (r : Routine) → slice_get rs n ≡ Some r → BodyTyped z r

set_bodies : (z : Stage) (rs : List Routine) (n : ℕ) (x : Routine) → AllBodies z rs → BodyTyped z x
    → AllBodies z (slice_set rs n x)
set_bodies z [] n x all p k r e = absurd cc
set_bodies z (y ∷ rs) zero x all p zero r e = subst (λ (u : Routine). BodyTyped z u) (same_Some x r e) p
set_bodies z (y ∷ rs) zero x all p (suc k) r e = all (suc k) r e
set_bodies z (y ∷ rs) (suc n) x all p zero r e = all 0 r e
set_bodies z (y ∷ rs) (suc n) x all p (suc k) r e = set_bodies z rs n x (λ i u q. all (suc i) u q) p k r e

module _ (g : Gathers) (elaborates : Elaborates g.Reported) (base : Types) (words : WordsStay g) (ends : List ℕ)
    (h : Heading) (block : ChecksBlock g.Reported) (ks : List ℕ) (f : FormedBlock g ends block ks)
    (b : TypedBlock g base ends block ks)
    (seen : ℕ) (w : Walk g.Reported) (level : (w.scope.level == 0) ≡ true) (single : length w.scope.outer ≡ 1) where
  abbrev first : Walk g.Reported
  first = (entry g elaborates ends h block ks f None seen w).0

  abbrev last : Walk g.Reported
  last = (inner g elaborates ends h block ks f None seen w).0

  abbrev behind : Walk g.Reported
  behind = ended g elaborates ends h block ks f None seen w

  abbrev own : Option Which
  own = which_of (entry g elaborates ends h block ks f None seen w).1.procedure

  abbrev returns : Option (Result TypeNo g.Reported)
  returns = (entry g elaborates ends h block ks f None seen w).1.returns

  abbrev fs : List Formal
  fs = all_formals g (inwards w.scope seen) h.formals

  none_deep : w.scope.level ≡ 0
  none_deep = eqb-true w.scope.level 0 level

  first_bodies : first.bodies ≡ w.bodies
  first_bodies = begun_module_locals (w.scope.level == 0) level w.bodies

  module _ (p : Procedure) (head : find_name h.name.name w.scope.own ≡ Some (Headed (Ok (meaning.Procedure p))))
      (numbers : AreNumbered ends (length w.bodies.locals) ks) (ok : behind.so_far ≡ Ok tt) where
    outer_length : length first.scope.outer ≡ length w.scope.outer + 1
    outer_length = length-append w.scope.outer (around_it g elaborates ends h block ks f None seen w ∷ [])

    begins : Begins ends first ks
    begins = record {
      level = nonzero (length w.scope.outer) (omega (arith, single));
      deep = let e = outer_length in omega (arith, single, e);
      awaits = λ name. formals_await g (inwards w.scope seen) h.formals name;
      numbers = subst (λ (rs : Bodies). AreNumbered ends (length rs.locals) ks) (sym first_bodies) numbers;
    }

    abbrev numbered : Numbered
    numbered = record { which = which.Module p.number; heading = p.heading }

    abbrev statements : List TypedStmt
    statements = (body_ok g elaborates ends h block ks f None seen w ok).0

    abbrev new : Routine
    new = routine last.scope h.name numbered None (entry g elaborates ends h block ks f None seen w).1.formals
        statements

    own_is : own ≡ Some (which.Module p.number)
    own_is = ap (λ (o : Option (Known g.Reported)). which_of (numbered_known o)) head

    bodies_are : behind.bodies ≡ put_routine last.bodies (which.Module p.number) new
    bodies_are =
        ap (λ (o : Option (Known g.Reported)). with_routine last.scope h.name None
        (entry g elaborates ends h block ks f None seen w).1.formals (numbered_known o)
        (inner g elaborates ends h block ks f None seen w).1 last.bodies) head
        ∙ ap (λ (r : Result (List TypedStmt) g.Reported). with_routine last.scope h.name None
        (entry g elaborates ends h block ks f None seen w).1.formals (Some numbered) r last.bodies)
        (body_ok g elaborates ends h block ks f None seen w ok).1

    locals_are : behind.bodies.locals ≡ last.bodies.locals
    locals_are = ap (λ (rs : Bodies). rs.locals) bodies_are

    inner_adds : Adds first last
    inner_adds = f.adds own returns first begins (inner_ok g elaborates ends h block ks f None seen w ok)

    procedures_are : behind.bodies.procedures ≡ slice_set w.bodies.procedures p.number new
    procedures_are = ap (λ (rs : Bodies). rs.procedures) bodies_are
        ∙ ap (λ (rs : List Routine). slice_set rs p.number new)
        (inner_adds.procedures ∙ ap (λ (rs : Bodies). rs.procedures) first_bodies)

    pub procedure_other : (n : ℕ) → (p.number ≡ n → ⊥)
        → slice_get behind.bodies.procedures n ≡ slice_get w.bodies.procedures n
    procedure_other n apart = ap (λ (rs : List Routine). slice_get rs n) procedures_are
        ∙ set_other w.bodies.procedures p.number n new (λ e. apart (sym e))

    new_level : new.level ≡ 1
    new_level = (inside g elaborates ends h block ks f None seen w).level ∙ single

    module _ (known : ScopeKnown base w.scope) (z : Stage) (staged : StageTyped z) (serves : Serves g z None w behind)
        (names : NamesThere (stands z []) z.opens 0 w.scope.own) (agrees : HeadingAgrees g w.scope seen h)
        (within : p.number < length w.bodies.procedures)
        (there : slice_get z.home.procedures p.number ≡ slice_get behind.bodies.procedures p.number) where
      abbrev types : Types
      types = z.home.types

      agreed : (formals_of types p.heading ≡ fs) × AreReturned types returns (result_of types p.heading)
      agreed = agrees numbered (ap (λ (o : Option (Known g.Reported)). numbered_known o) head) types
          (λ u y e. serves.types u y ((procedure_keeps g elaborates ends h block ks f None seen w).types u y e))

      home_new : slice_get z.home.procedures p.number ≡ Some new
      home_new = there ∙ ap (λ (rs : List Routine). slice_get rs p.number) procedures_are
          ∙ set_same w.bodies.procedures p.number new within

      frames : kinds_around z.home (suc first.scope.level) own ≡ kinds_of types new ∷ []
      frames =
          ap (λ (v : Option Which). kinds_around z.home (suc first.scope.level) v) own_is
          ∙ ap (λ (o : Option Routine). own_kinds z.home o ++ kinds_around z.home first.scope.level (around_in o))
          home_new
          ∙ ap (λ (n : ℕ). kinds_of types new ∷ kinds_around z.home n None) single

      inner_serves : Serves g z own first last
      inner_serves = record {
        home = serves.home;
        types = serves.types;
        locals = λ n x y.
            serves.locals n (subst (λ (rs : Bodies). length rs.locals ≤ n) first_bodies x)
            (subst (λ (rs : List Routine). n < length rs) (sym locals_are) y)
            ∙ ap (λ (rs : List Routine). slice_get rs n) locals_are;
        members = serves.members;
        outer = subst (λ (n : ℕ). BlocksThere (stands_in z first.scope.level own) z.opens n first.scope.outer)
            (sym single)
            (subst (λ (k : List Kinds). BlocksThere (stands z k) z.opens 1 first.scope.outer) (sym frames)
            (blocks_more (stands z (kinds_of types new ∷ [])) z.opens 1 w.scope.outer
            (around_it g elaborates ends h block ks f None seen w)
            (blocks_deeper z (kinds_of types new) [] z.opens 0 w.scope.outer
            (subst (λ (n : ℕ). BlocksThere (stands_in z n None) z.opens n w.scope.outer) none_deep serves.outer))
            (names_deeper z (kinds_of types new) [] z.opens 0 w.scope.own names)));
        withs = serves.withs;
      }

      frame : HasFrame z first.scope.level own fs last.scope.variables
      frame = record {
        rest = [];
        kinds = frames
            ∙ ap (λ (xs : List Formal). (map (formal_kind types) xs ++ map (λ t. Kept (tree types t)) new.variables)
            ∷ []) agreed.0
            ∙ ap (λ (n : ℕ). (map (formal_kind types) fs
            ++ map (λ t. Kept (tree types t)) (drop n last.scope.variables)) ∷ []) (entered_count g w.scope seen h);
      }

      enters : Enters base ends fs first ks
      enters = record {
        begins = begins;
        deep = let e = outer_length in omega (arith, e);
        known = entered_known g base words w.scope seen h known;
        numbered = procedure_entered g w.scope seen h;
        fresh = entered_fresh g w.scope seen h serves.withs;
        locals = entered_locals g w.scope seen h;
        formed = λ m opens. formals_formed m opens g (inwards w.scope seen) h.formals;
      }

      inner_typed : AddsTyped g z first last
          × Holds (StmtsTyped (stands_in z first.scope.level own) (result_of types p.heading) [] false)
          (inner g elaborates ends h block ks f None seen w).1
      inner_typed = b.typed fs own returns first enters (inner_ok g elaborates ends h block ks f None seen w ok) z
          staged inner_serves frame (result_of types p.heading) agreed.1

      new_known : AreKnown types new.variables
      new_known =
          let e = b.known own returns first (inner_ok g elaborates ends h block ks f None seen w ok) enters.known in
          all_kept last.scope.types types (made_known last.scope.types types serves.types) new.variables
          (known_behind last.scope.types (entry g elaborates ends h block ks f None seen w).1.formals
          last.scope.variables e.ordered.variables)

      new_typed : BodyTyped z new
      new_typed = (
        subst (λ (k : List Kinds). StmtsTyped (stands z k) (result_of types p.heading) [] false statements)
            (frames ∙ ap (λ (n : ℕ). kinds_of types new ∷ kinds_around z.home n None) (sym new_level))
            (holds_at (inner g elaborates ends h block ks f None seen w).1 inner_typed.1 statements
            (body_ok g elaborates ends h block ks f None seen w ok).1),
        new_known,
      )

      pub outermost_adds : AddsTyped g z w behind
      outermost_adds k r a e = inner_typed.0 k r (subst (λ (rs : Bodies). length rs.locals ≤ k) (sym first_bodies) a)
          (sym (ap (λ (rs : List Routine). slice_get rs k) locals_are) ∙ e)

      pub outermost_bodies : AllBodies z w.bodies.procedures → AllBodies z behind.bodies.procedures
      outermost_bodies all = subst (λ (rs : List Routine). AllBodies z rs) (sym procedures_are)
          (set_bodies z w.bodies.procedures p.number new all new_typed)

-- ---- all of them

module _ (g : Gathers) (elaborates : Elaborates g.Reported) (base : Types) (words : WordsStay g) (ends : List ℕ)
    (a : Scope g.Reported) where
  abbrev StandsAt : Walk g.Reported → ℕ → Type 0
  StandsAt w n = Stands g elaborates ends None a.own a.types a.procedures w n

  abbrev Head : {x : Steps g.Reported} {ks : List ℕ} → IsStep g elaborates ends x ks → Type 0
  Head p = ModuleHeadOf g elaborates ends a.own a.types a.procedures p

  abbrev Heads : {xs : List (Steps g.Reported)} {ls : List ℕ} → AreSteps g elaborates ends xs ls → Type 0
  Heads ps = ModuleHeadsIn g elaborates ends a.own a.types a.procedures ps

  abbrev count : {x : Steps g.Reported} {ks : List ℕ} → IsStep g elaborates ends x ks → ℕ
  count p = count_of g elaborates ends None p

  -- ---- numbers of procedures

  abbrev pub number_at : {x : Steps g.Reported} {ks : List ℕ} (p : IsStep g elaborates ends x ks) → Head p → Option ℕ
  number_at (constants_step cs) k = None
  number_at (types_step ts) k = None
  number_at (variables_step vs) k = None
  number_at (procedure_step h block ks f) k = Some k.0.number

  -- no procedure among them has this number
  abbrev pub AllOther : Option ℕ → {xs : List (Steps g.Reported)} {ls : List ℕ} (ps : AreSteps g elaborates ends xs ls)
      → Heads ps → Type 0
  AllOther o no_steps k = Unit {0}
  AllOther o (more_steps x xs ks ls p ps) k = ((n : ℕ) → o ≡ Some n → number_at p k.0 ≡ Some n → ⊥) × AllOther o ps k.1

  abbrev pub AllApart : {xs : List (Steps g.Reported)} {ls : List ℕ} (ps : AreSteps g elaborates ends xs ls) → Heads ps
      → Type 0
  AllApart no_steps k = Unit {0}
  AllApart (more_steps x xs ks ls p ps) k = AllOther (number_at p k.0) ps k.1 × AllApart ps k.1

  step_other : (n : ℕ) {x : Steps g.Reported} {ks : List ℕ} (p : IsStep g elaborates ends x ks)
      → StepTyped g elaborates base ends p → (k : Head p) → (number_at p k ≡ Some n → ⊥)
      → (seen : ℕ) (w : Walk g.Reported) (i : ℕ) → StandsAt w i → NumbersOf g elaborates ends None i p
      → (checked_by x None seen w).so_far ≡ Ok tt
      → slice_get (checked_by x None seen w).bodies.procedures n ≡ slice_get w.bodies.procedures n
  step_other n (constants_step cs) b k o seen w i s u q = refl
  step_other n (types_step ts) b k o seen w i s u q = refl
  step_other n (variables_step vs) b k o seen w i s u q = refl
  step_other n (procedure_step h block ks f) b k o seen w i s u q =
      procedure_other g elaborates base words ends h block ks f b.1 seen w s.outermost s.single k.0
      (ap (λ (es : List (List ℕ × Known g.Reported)). find_name h.name.name es) s.names ∙ k.1.0)
      (subst (λ (j : ℕ). AreNumbered ends j ks) s.count u) q n
      (λ e. o (ap (λ (j : ℕ). Some j) e))

  step_count : {x : Steps g.Reported} {ks : List ℕ} (p : IsStep g elaborates ends x ks) (seen : ℕ) (w : Walk g.Reported)
      (n : ℕ) → StandsAt w n → length (checked_by x None seen w).bodies.locals ≡ length w.bodies.locals + count p
  step_count (constants_step cs) seen w n s = omega arith
  step_count (types_step ts) seen w n s = omega arith
  step_count (variables_step vs) seen w n s = omega arith
  step_count (procedure_step h block ks f) seen w n s =
      module_count g elaborates ends h block ks f None seen w s.outermost s.single

  -- ---- one body

  -- the module has the procedure that is added
  abbrev HasNew : (z : Stage) (w' : Walk g.Reported) {x : Steps g.Reported} {ks : List ℕ}
      (p : IsStep g elaborates ends x ks) → Head p → Type 0
  HasNew z w' p k = (n : ℕ) → number_at p k ≡ Some n → slice_get z.home.procedures n ≡ slice_get w'.bodies.procedures n

  abbrev pub TypedTo : Stage → Walk g.Reported → Walk g.Reported → Type 0
  TypedTo z w w' = AddsTyped g z w w' × (AllBodies z w.bodies.procedures → AllBodies z w'.bodies.procedures)

  none_to : (z : Stage) (w : Walk g.Reported) → TypedTo z w w
  none_to z w = (
    λ n r b e. absurd (let c : n < length w.bodies.locals = is_within w.bodies.locals n r e in
        omega (arith, b, c)),
    λ all. all,
  )

  module _ (z : Stage) (staged : StageTyped z) (names : NamesThere (stands z []) z.opens 0 a.own) where
    step_to : {x : Steps g.Reported} {ks : List ℕ} (p : IsStep g elaborates ends x ks)
        → StepTyped g elaborates base ends p → (seen : ℕ) (w : Walk g.Reported) (n : ℕ) → StandsAt w n → Keeps a w.scope
        → (k : Head p) → NumbersOf g elaborates ends None n p → StepAgrees g elaborates base ends a seen p
        → (checked_by x None seen w).so_far ≡ Ok tt → ScopeKnown base w.scope
        → Serves g z None w (checked_by x None seen w) → Headings a.procedures w.bodies.procedures
        → HasNew z (checked_by x None seen w) p k → TypedTo z w (checked_by x None seen w)
    step_to (constants_step cs) b seen w n s kept k u agrees q known serves hs there = none_to z w
    step_to (types_step ts) b seen w n s kept k u agrees q known serves hs there = none_to z w
    step_to (variables_step vs) b seen w n s kept k u agrees q known serves hs there = none_to z w
    step_to (procedure_step h block ks f) b seen w n s kept k u agrees q known serves hs there =
        let head = ap (λ (es : List (List ℕ × Known g.Reported)). find_name h.name.name es) s.names ∙ k.1.0 in
        let numbers = subst (λ (i : ℕ). AreNumbered ends i ks) s.count u in
        let own = subst (λ (es : List (List ℕ × Known g.Reported)). NamesThere (stands z []) z.opens 0 es) (sym s.names)
        names in
        let old = hs k.0.number k.0.heading k.1.1.0.1 in
        let within : k.0.number < length w.bodies.procedures = is_within w.bodies.procedures k.0.number old.0 old.1 in (
          outermost_adds g elaborates base words ends h block ks f b.1 seen w s.outermost s.single k.0 head numbers q
              known z staged serves own (agrees w.scope kept s.names serves.withs) within (there k.0.number refl),
          outermost_bodies g elaborates base words ends h block ks f b.1 seen w s.outermost s.single k.0 head numbers q
              known z staged serves own (agrees w.scope kept s.names serves.withs) within (there k.0.number refl),
        )

    -- ---- all of them

    module _ (seen : List ℕ) where
      abbrev next : Walk g.Reported × ℕ → Steps g.Reported → Walk g.Reported × ℕ
      next st x = with_body (λ (x : Steps g.Reported). checked_by x None) seen st x

      abbrev end : Walk g.Reported × ℕ → List (Steps g.Reported) → Walk g.Reported
      end st xs = from g elaborates ends None seen st xs

      abbrev at_step : ℕ → ℕ
      at_step i = unwrap_or (slice_get seen i) 0

      stands_next : {x : Steps g.Reported} {ks : List ℕ} (p : IsStep g elaborates ends x ks) (st : Walk g.Reported × ℕ)
          (n : ℕ) → StandsAt st.0 n → StandsAt (next st x).0 (n + count p)
      stands_next p st n s =
          let k = step_keeps g elaborates ends None p (at_step st.1) st.0 in
          record {
            names = step_own g elaborates ends None p (at_step st.1) st.0 ∙ s.names;
            outermost = ap (λ (n : ℕ). n == 0) k.level ∙ s.outermost;
            single = ap (λ (bs : List (Block g.Reported)). length bs) k.outer ∙ s.single;
            count = let c = step_count p (at_step st.1) st.0 n s in let e = s.count in omega (arith, c, e);
            grown = λ t y e. k.types t y (s.grown t y e);
          }

      all_grow : {xs : List (Steps g.Reported)} {ls : List ℕ} (ps : AreSteps g elaborates ends xs ls)
          (st : Walk g.Reported × ℕ) (n : ℕ) → StandsAt st.0 n
          → length st.0.bodies.locals ≤ length (end st xs).bodies.locals
      all_grow no_steps st n s = omega arith
      all_grow (more_steps x xs ks ls p ps) st n s =
          let c = step_count p (at_step st.1) st.0 n s in
          let d = all_grow ps (next st x) (n + count p) (stands_next p st n s) in
          omega (arith, c, d)

      -- what no further procedure has stays
      all_other : (n : ℕ) {xs : List (Steps g.Reported)} {ls : List ℕ} (ps : AreSteps g elaborates ends xs ls)
          → AllTyped g elaborates base ends ps → (st : Walk g.Reported × ℕ) (i : ℕ) → StandsAt st.0 i → (k : Heads ps)
          → NumbersIn g elaborates ends None i ps → AllOther (Some n) ps k → (end st xs).so_far ≡ Ok tt
          → slice_get (end st xs).bodies.procedures n ≡ slice_get st.0.bodies.procedures n
      all_other n no_steps b st i s k u o q = refl
      all_other n (more_steps x xs ks ls p ps) b st i s k u o q =
          all_other n ps b.1 (next st x) (i + count p) (stands_next p st i s) k.1 u.1 o.1 q
          ∙ step_other n p b.0 k.0 (o.0 n refl) (at_step st.1) st.0 i s u.0
          (checked_reported g elaborates ends None seen ps (next st x) q)

      serves_first : (u v w : Walk g.Reported) → Keeps v.scope w.scope → AddsNested v w
          → length v.bodies.locals ≤ length w.bodies.locals → Serves g z None u w → Serves g z None u v
      serves_first u v w k p grows s = record {
        home = s.home;
        types = λ t y e. s.types t y (k.types t y e);
        locals = λ n e f. s.locals n e (omega (arith, f, grows)) ∙ p.below n f;
        members = s.members;
        outer = s.outer;
        withs = s.withs;
      }

      added_by : (u v w : Walk g.Reported) → AddsNested v w → AddsTyped g z u v → AddsTyped g z v w
          → (n : ℕ) (r : Routine) → length u.bodies.locals ≤ n → slice_get w.bodies.locals n ≡ Some r
          → Order (length v.bodies.locals) n → BodyTyped z r
      added_by u v w d p q n r e f (at_least y) = q n r y f
      added_by u v w d p q n r e f (less y) = p n r e (sym (d.below n y) ∙ f)

      pub all_to : {xs : List (Steps g.Reported)} {ls : List ℕ} (ps : AreSteps g elaborates ends xs ls)
          → AllTyped g elaborates base ends ps → (st : Walk g.Reported × ℕ) (n : ℕ) → StandsAt st.0 n
          → Keeps a st.0.scope → (k : Heads ps) → NumbersIn g elaborates ends None n ps
          → StepsAgree g elaborates base ends a seen st.1 ps → AllApart ps k → (end st xs).so_far ≡ Ok tt
          → ScopeKnown base st.0.scope → Serves g z None st.0 (end st xs)
          → Headings a.procedures st.0.bodies.procedures
          → ((i : ℕ) → slice_get z.home.procedures i ≡ slice_get (end st xs).bodies.procedures i)
          → TypedTo z st.0 (end st xs)
      all_to no_steps b st n s kept k u agrees apart q known serves hs there = none_to z st.0
      all_to (more_steps x xs ks ls p ps) b st n s kept k u agrees apart q known serves hs there =
          let one = next st x in
          let all : Walk g.Reported = end st (x ∷ xs) in
          let here = stands_next p st n s in
          let reported = checked_reported g elaborates ends None seen ps one q in
          let later = all_go g elaborates ends None a.own a.types a.procedures seen ps one (n + count p) here k.1 u.1 q
          in
          let once = all_go g elaborates ends None a.own a.types a.procedures seen (more_steps x [] ks [] p no_steps) st
          n s (k.0, tt) (u.0, tt) reported in
          let step = step_keeps g elaborates ends None p (at_step st.1) st.0 in
          let c = step_count p (at_step st.1) st.0 n s in
          let first = step_to p b.0 (at_step st.1) st.0 n s kept k.0 u.0 agrees.0 reported known
          (serves_first st.0 one.0 all (all_keep g elaborates ends None seen ps one) later.adds
          (all_grow ps one (n + count p) here) serves) hs
          (λ i e. there i ∙ all_other i ps b.1 one (n + count p) here k.1 u.1
          (subst (λ (o : Option ℕ). AllOther o ps k.1) e apart.0) q) in
          let rest = all_to ps b.1 one (n + count p) here (keeps_then kept step) k.1 u.1 agrees.1 apart.1 q
          (step_known g elaborates base ends words None p b.0 (at_step st.1) st.0 reported known)
          (serves_rest g elaborates base ends words None a 0 seen z staged st.0 one.0 all step (omega (arith, c))
          serves) (once.headings hs) there in (
            λ i r e y. added_by st.0 one.0 all later.adds first.0 rest.0 i r e y
                (nat_order (length one.0.bodies.locals) i),
            λ w. rest.1 (first.1 w),
          )
