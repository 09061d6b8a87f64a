-- The bodies of a module, typed.
use Rattle.std.proofs.Common.{◌≡◌, ℕ, zero, suc, ◌+◌, ◌<◌, ◌==◌, true, false, List, [], ◌∷◌, ◌++◌, length, Option, Some, None, Result, Ok, refl, sym, ap, subst, ◌∙◌, append_assoc, arith}
use Rattle.std.specs.Prelude.{map, slice_get}
use Rattle.std.specs.List.{fold, list_all}
use Rattle.std.proofs.lemmas.Bool.{eqb-true}
use Rattle.std.proofs.lemmas.List.{append-nil, length-append}
use Rattle.std.proofs.lemmas.Option.{same_Some}
use Rattle.m2_tree.specs.declared.stmt.Stmt.{Stmt}
use Rattle.m2_tree.specs.declared.decl.Decl.{Decl, Decl-F, out-Decl, map-Decl, fold_out-Decl}
use Rattle.m2_tree.specs.declared.decl.Decl.TheOpen as layer
use Rattle.m2_tree.specs.declared.decl.Block.{Block, out-Block}
use Rattle.typed_tree.specs.declared.known_types.Types.{Types}
use Rattle.typed_tree.specs.declared.shape.Made.{Made}
use Rattle.typed_tree.specs.declared.statement.TypedStmt.{TypedStmt}
use Rattle.typed_tree.specs.declared.typed_module.Routine.{Routine}
use Rattle.typed_tree.specs.declared.typed_module.TypedModule.{TypedModule}
use Rattle.typed_tree.specs.declared.typed_module.Which.{Which}
use Rattle.typed_tree.specs.declared.typed_module.Which.TheVariants as which
use Rattle.typed_tree.specs.declared.types.TypeNo.{TypeNo}
use Rattle.typed_tree.specs.Known.{made_at}
use Rattle.check_scope.specs.Elaborated.{Gathers, beside}
use Rattle.check_scope.specs.Scopes.{State}
use Rattle.check_scope.specs.declared.known.Known.{Known}
use Rattle.check_scope.specs.declared.scope.Block.{Block as Around}
use Rattle.check_scope.specs.declared.scope.Scope.{Scope}
use Rattle.check_const.specs.Denote.{exported_meaning}
use Rattle.law_simulation.specs.Frames.{kinds_of}
use Rattle.law_simulation.specs.Passing.{result_of}
use Rattle.law_simulation.specs.Linked.{environment_of}
use Rattle.def_scheme.specs.Functions.{routine_of}
use Rattle.check_definition.specs.Importing.{with_import}
use Rattle.check_block.specs.Naming.{with_marks}
use Rattle.check_block.specs.Nesting as nesting
use Rattle.check_block.specs.Nesting.{within_decl, within, ends_from, with_procedure_ends, with_decl_ends, procedure_ends}
use Rattle.check_block.specs.Declarations.{Course, Declared, all_declared, declared_block, reported_of_lack}
use Rattle.check_body.specs.Routines.{empty_routine, no_bodies}
use Rattle.check_body.specs.declared.procedure.Walk.{Walk}
use Rattle.check_body.specs.Elaborating.{Elaborates, statements_of}
use Rattle.check_body.specs.Bodies.{Steps, marked_by, declared_by, again_by, steps}
use Rattle.check_body.specs.Checks.{elaborate_body}
use Rattle.law_well_formed.proofs.BodyFolds.{declared_same}
use Rattle.law_well_formed.specs.Formed.{Holds}
use Rattle.law_well_formed.proofs.Basics.{holds_weaker}
use Rattle.law_well_formed.specs.FormedScopes.{Leads}
use Rattle.law_well_formed.proofs.ScopesDeclarations.{beside_left}
use Rattle.law_well_formed.specs.FormedBodies.{AreNumbered, FormsStatements, Keeps}
use Rattle.law_well_formed.proofs.Places.{before_end, behind_end, is_within}
use Rattle.law_well_formed.proofs.Parts.{IsStep, constants_step, types_step, variables_step, procedure_step, AreSteps, no_steps, more_steps, nothing_at, no_home, nothing_open, all_marks, all_again, all_lead}
use Rattle.law_well_formed.proofs.Checks.{keeps_refl, keeps_then, leads_keeps, holds_at}
use Rattle.law_well_formed.proofs.BodiesBlocks.{from, all_own, all_keep, checked_reported}
use Rattle.law_well_formed.proofs.Induction.{elaborated_formed}
use Rattle.law_well_formed.proofs.Heads.{awaits_kept, ModuleHeadsIn, heads_in}
use Rattle.law_well_formed.proofs.ModulesProcedures.{Headings, NumbersOf, count_of, NumbersIn, Stands}
use Rattle.law_well_formed.proofs.ModulesSteps.{bodies_are}
use Rattle.law_well_formed.specs.FormedRanges.{itself}
use Rattle.law_well_formed.specs.Ordered.{AreKnown}
use Rattle.law_well_formed.proofs.OrderTypes.{all_kept, made_known}
use Rattle.law_well_formed.proofs.RangesTypes.{both_left, both_right}
use Rattle.law_programs.specs.Typing.{IsTyped}
use Rattle.law_programs.specs.TypingStmts.{StmtsTyped}
use Rattle.law_programs.proofs.StmtsConstructs.{all_typed as row_typed}
use Rattle.law_programs.specs.Words.{WordsStay}
use Rattle.law_programs.specs.TypingBodies.{fits_body, fits_inside, Stage, stands, stands_in, StageTyped, BodyTyped, TypesStatements, MeaningThere, NamesThere, BlocksThere, LocalsStay, DeclsAgree, HeadingsAgree, ScopeKnown, Serves, OtherThan, NumbersApart, ModuleBegins, HasModule, AreBodiesTyped, ModulesAreTyped}
use Rattle.law_programs.proofs.Shifting.{meaning_anywhere}
use Rattle.law_programs.proofs.Scopes.{scope_typed}
use Rattle.law_programs.proofs.BodiesBlocks.{AllTyped, StepsAgree, all_known}
use Rattle.law_programs.proofs.Outermost.{AllBodies, AllOther, AllApart, TypedTo, all_to}
use Rattle.law_programs.proofs.Locals.{locals_stay}
use Rattle.law_programs.proofs.Apart.{numbers_apart}
use Rattle.law_programs.proofs.Agreeing.{words_stay, headings_agree}
use Rattle.law_programs.proofs.Induction.{elaborated_typed, body_typed, fits_at_block, decls_typed}

-- ---- numbers of procedures in procedures

-- a procedure's own, and those in it
abbrev inside : List ℕ → List ℕ
inside [] = []
inside (k ∷ ks) = ks

ends_length : (n : ℕ) (ks : List ℕ) → length (ends_from n ks) ≡ length ks
ends_length n [] = refl
ends_length n (k ∷ ks) = ap suc (ends_length (n + 1) ks)

ends_at : (n : ℕ) (ks : List ℕ) (i c : ℕ) → slice_get ks i ≡ Some c
    → slice_get (ends_from n ks) i ≡ Some (n + i + 1 + c)
ends_at n [] i c e = absurd cc
ends_at n (k ∷ ks) zero c e = let a : n + 1 + c ≡ n + 0 + 1 + c = omega arith in
    ap (λ (o : Option ℕ). by o) e ∙ ap (λ (x : ℕ). Some x) a where
      by : Option ℕ → Option ℕ
      by None = None
      by (Some x) = Some (n + 1 + x)
ends_at n (k ∷ ks) (suc i) c e =
    let a : n + 1 + i + 1 + c ≡ n + suc i + 1 + c = omega arith in
    ends_at (n + 1) ks i c e ∙ ap (λ (x : ℕ). Some x) a

counted_layer : Decl-F Decl Block → List ℕ
counted_layer x = nesting.decl_layer (map-Decl Decl Block (List ℕ) (List ℕ) within_decl within x)

layer_ends : (so : List ℕ) (x : Decl-F Decl Block)
    → with_procedure_ends so x ≡ so ++ ends_from (length so) (inside (counted_layer x))
unfolding counted_layer
layer_ends so (layer.Constants cs) = sym (append-nil so)
layer_ends so (layer.Types ts) = sym (append-nil so)
layer_ends so (layer.Variables vs) = sym (append-nil so)
layer_ends so (layer.Procedure h b) = refl

counted : (d : Decl) → within_decl d ≡ counted_layer (out-Decl d)
unfolding within_decl within counted_layer
counted d = fold_out-Decl (List ℕ) (List ℕ) nesting.decl_layer nesting.block_layer d

decl_ends : (so : List ℕ) (d : Decl) → with_decl_ends so d ≡ so ++ ends_from (length so) (inside (within_decl d))
decl_ends so d = layer_ends so (out-Decl d)
    ∙ ap (λ (ks : List ℕ). so ++ ends_from (length so) (inside ks)) (sym (counted d))

ends_more : (so : List ℕ) (ds : List Decl) → (more : List ℕ) × (fold with_decl_ends so ds ≡ so ++ more)
ends_more so [] = ([], sym (append-nil so))
ends_more so (d ∷ ds) =
    let k = ends_more (with_decl_ends so d) ds in
    let new : List ℕ = ends_from (length so) (inside (within_decl d)) in
    (new ++ k.0, k.1 ∙ ap (λ (es : List ℕ). es ++ k.0) (decl_ends so d) ∙ append_assoc so new k.0)

-- ---- procedures whose bodies are not checked yet

unfilled_headings : (hs : List TypeNo) → Headings hs (map empty_routine hs)
unfilled_headings [] n t e = absurd cc
unfilled_headings (h ∷ hs) zero t e = (empty_routine h, refl, same_Some h t e)
unfilled_headings (h ∷ hs) (suc n) t e = unfilled_headings hs n t e

unfilled_bodies : (z : Stage) (hs : List TypeNo) → AllBodies z (map empty_routine hs)
unfilled_bodies z [] n r e = absurd cc
unfilled_bodies z (h ∷ hs) zero r e =
    subst (λ (x : Routine). BodyTyped z x) (same_Some (empty_routine h) r e) (
      row_typed (stands z (kinds_of z.home.types (empty_routine h) ∷ environment_of z.home (empty_routine h)))
          (result_of z.home.types h) [] false [] tt,
      tt,
    )
unfilled_bodies z (h ∷ hs) (suc n) r e = unfilled_bodies z hs n r e

module _ (g : Gathers) (elaborates : Elaborates g.Reported) (forms : FormsStatements g elaborates)
    (writes : TypesStatements g elaborates) (base : Types) (words : WordsStay g) (ends : List ℕ) (keeps : LocalsStay g)
    (headings : HeadingsAgree g) where
  -- ---- the declarations of the module as steps

  abbrev steps_of : Decl → Steps g.Reported
  steps_of = steps g elaborates ends

  abbrev Fit : List Decl → Type 0
  Fit ds = list_all itself (map fits_inside ds) ≡ true

  first_fits : (d : Decl) (ds : List Decl) → Fit (d ∷ ds) → fits_inside d ≡ true
  first_fits d ds e = both_left (fits_inside d) (list_all itself (map fits_inside ds)) e

  rest_fits : (d : Decl) (ds : List Decl) → Fit (d ∷ ds) → Fit ds
  rest_fits d ds e = both_right (fits_inside d) (list_all itself (map fits_inside ds)) e

  abbrev total : List Decl → List ℕ
  total [] = []
  total (d ∷ ds) = within_decl d ++ total ds

  are_steps : (ds : List Decl) → Fit ds → AreSteps g elaborates ends (map steps_of ds) (total ds)
  are_steps [] e = no_steps
  are_steps (d ∷ ds) e = more_steps (steps_of d) (map steps_of ds) (within_decl d) (total ds)
      (decls_typed g elaborates forms writes base words ends keeps headings d (first_fits d ds e)).step
      (are_steps ds (rest_fits d ds e))

  they_are_typed : (ds : List Decl) (e : Fit ds) → AllTyped g elaborates base ends (are_steps ds e)
  unfolding are_steps
  they_are_typed [] e = tt
  they_are_typed (d ∷ ds) e = (
    (decls_typed g elaborates forms writes base words ends keeps headings d
        (first_fits d ds e)).typed,
    they_are_typed ds (rest_fits d ds e),
  )

  they_agree : (a : Scope g.Reported) (seen : List ℕ) (i : ℕ) (ds : List Decl) (e : Fit ds) → DeclsAgree g a seen i ds
      → StepsAgree g elaborates base ends a seen i (are_steps ds e)
  unfolding are_steps
  they_agree a seen i [] e h = tt
  they_agree a seen i (d ∷ ds) e h = (
    (decls_typed g elaborates forms writes base words ends keeps headings d
        (first_fits d ds e)).agrees a _ h.0,
    they_agree a seen (i + 1) ds (rest_fits d ds e) h.1,
  )

  they_are_other : (a : Scope g.Reported) (o : Option ℕ) (ds : List Decl) (e : Fit ds)
      (k : ModuleHeadsIn g elaborates ends a.own a.types a.procedures (are_steps ds e)) → OtherThan a.own o ds
      → AllOther g elaborates base words ends a o (are_steps ds e) k
  unfolding are_steps
  they_are_other a o [] e k h = tt
  they_are_other a o (d ∷ ds) e k h = (
    λ n p q. h.0 n p
        ((decls_typed g elaborates forms writes base words ends keeps headings d (first_fits d ds e)).numbered a k.0
        ∙ q),
    they_are_other a o ds (rest_fits d ds e) k.1 h.1,
  )

  they_are_apart : (a : Scope g.Reported) (ds : List Decl) (e : Fit ds)
      (k : ModuleHeadsIn g elaborates ends a.own a.types a.procedures (are_steps ds e)) → NumbersApart a.own ds
      → AllApart g elaborates base words ends a (are_steps ds e) k
  unfolding are_steps
  they_are_apart a [] e k h = tt
  they_are_apart a (d ∷ ds) e k h = (
    they_are_other a _ ds (rest_fits d ds e) k.1
        (subst (λ (o : Option ℕ). OtherThan a.own o ds)
        ((decls_typed g elaborates forms writes base words ends keeps headings d (first_fits d ds e)).numbered a k.0)
        h.0),
    they_are_apart a ds (rest_fits d ds e) k.1 h.1,
  )

  step_numbers : {x : Steps g.Reported} {ks : List ℕ} (p : IsStep g elaborates ends x ks) (n : ℕ)
      → AreNumbered ends n (inside ks) → NumbersOf g elaborates ends None n p
  step_numbers (constants_step cs) n k = tt
  step_numbers (types_step ts) n k = tt
  step_numbers (variables_step vs) n k = tt
  step_numbers (procedure_step h block ks f) n k = k

  step_count : {x : Steps g.Reported} {ks : List ℕ} (p : IsStep g elaborates ends x ks)
      → count_of g elaborates ends None p ≡ length (inside ks)
  step_count (constants_step cs) = refl
  step_count (types_step ts) = refl
  step_count (variables_step vs) = refl
  step_count (procedure_step h block ks f) = refl

  first_numbers : (so : List ℕ) (d : Decl) (ds : List Decl) → ends ≡ fold with_decl_ends so (d ∷ ds)
      → AreNumbered ends (length so) (inside (within_decl d))
  first_numbers so d ds q i c e =
      let ks : List ℕ = inside (within_decl d) in
      let new : List ℕ = ends_from (length so) ks in
      let k = ends_more (with_decl_ends so d) ds in
      let all : ends ≡ so ++ (new ++ k.0) = q ∙ k.1 ∙ ap (λ (es : List ℕ). es ++ k.0) (decl_ends so d)
      ∙ append_assoc so new k.0 in
      ap (λ (es : List ℕ). slice_get es (length so + i)) all ∙ behind_end so (new ++ k.0) i
      ∙ before_end new k.0 i (subst (λ (l : ℕ). i < l) (sym (ends_length (length so) ks)) (is_within ks i c e))
      ∙ ends_at (length so) ks i c e

  numbers_from : (so : List ℕ) (ds : List Decl) (e : Fit ds) → ends ≡ fold with_decl_ends so ds
      → NumbersIn g elaborates ends None (length so) (are_steps ds e)
  unfolding are_steps
  numbers_from so [] e q = tt
  numbers_from so (d ∷ ds) e q =
      let p = (decls_typed g elaborates forms writes base words ends keeps headings d (first_fits d ds e)).step in
      let ks : List ℕ = inside (within_decl d) in
      let l : length (with_decl_ends so d) ≡ length so + count_of g elaborates ends None p =
      ap (λ (es : List ℕ). length es) (decl_ends so d) ∙ length-append so (ends_from (length so) ks)
      ∙ ap (λ (n : ℕ). length so + n) (ends_length (length so) ks ∙ sym (step_count p)) in (
        step_numbers p (length so) (first_numbers so d ds q),
        subst (λ (n : ℕ). NumbersIn g elaborates ends None n (are_steps ds (rest_fits d ds e))) l
            (numbers_from (with_decl_ends so d) ds (rest_fits d ds e) q),
      )

  -- ---- the module

  module _ (st : State (Unit {0}) g.Reported) (lack : Scope g.Reported → Result (Unit {0}) g.Reported) (ds : List Decl)
      (fit : Fit ds) (ended : ends ≡ procedure_ends ds) (body : Option (List Stmt)) (fits : fits_body body ≡ true)
      (begins : ModuleBegins st.0) where
    abbrev xs : List (Steps g.Reported)
    xs = map steps_of ds

    abbrev ps : AreSteps g elaborates ends xs (total ds)
    ps = are_steps ds fit

    -- what declarations as steps lead to
    record Leading (d : Declared g.Reported) : Type 0 where
      keeps_all : Keeps st.0 d.0
      heads_all : d.1 ≡ Ok tt → ModuleHeadsIn g elaborates ends d.0.own d.0.types d.0.procedures ps

    abbrev marks : Scope g.Reported × List ℕ
    marks = fold (with_marks marked_by) (st.0, []) xs

    abbrev course : Course g.Reported
    course = fold declared_by (marks.0, st.1, 0) xs

    abbrev other : TypedModule
    other = nothing_at marks.0.types.home

    marks_lead : Leads other nothing_open st.0 marks.0
    marks_lead = all_marks g elaborates ends other nothing_open ps (st.0, [])

    steps_lead : Leading (all_declared marked_by declared_by again_by st 0 xs)
    steps_lead = record {
      keeps_all = keeps_then (leads_keeps other nothing_open marks_lead)
          (leads_keeps other nothing_open (all_lead g elaborates ends other nothing_open ps (marks.0, st.1, 0)
          (no_home marks.0.types.home)));
      heads_all = λ ok.
          heads_in g elaborates ends (all_declared marked_by declared_by again_by st 0 xs).0.own
          (all_declared marked_by declared_by again_by st 0 xs).0.types
          (all_declared marked_by declared_by again_by st 0 xs).0.procedures ps (marks.0, st.1, 0)
          (all_declared marked_by declared_by again_by st 0 xs).0 refl refl refl refl
          (ap (λ (n : ℕ). n == 0) marks_lead.level ∙ begins.level)
          (awaits_kept g other nothing_open st.0 marks.0 marks_lead begins.awaits)
          (all_again g elaborates ends ps course.0 (course.1, length st.0.own) ok);
    }

    abbrev d : Declared g.Reported
    d = declared_block g ends st 0 ds

    leading : Leading d
    leading = subst (λ (d : Declared g.Reported). Leading d) (declared_same g elaborates ends ds st 0) steps_lead

    abbrev start : Walk g.Reported
    start = record { scope = d.0; so_far = beside g d.1 (lack d.0); bodies = no_bodies d.0.procedures }

    abbrev end : Walk g.Reported
    end = from g elaborates ends None d.2 (start, 0) xs

    level : d.0.level ≡ 0
    level = leading.keeps_all.level ∙ eqb-true st.0.level 0 begins.level

    withs : d.0.withs ≡ []
    withs = leading.keeps_all.withs ∙ begins.withs

    standing : Stands g elaborates ends None d.0.own d.0.types d.0.procedures start 0
    standing = record {
      names = refl;
      outermost = ap (λ (n : ℕ). n == 0) leading.keeps_all.level ∙ begins.level;
      single = ap (λ (bs : List (Around g.Reported)). length bs) leading.keeps_all.outer ∙ begins.single;
      count = refl;
      grown = λ t y e. e;
    }

    end_keeps : Keeps d.0 end.scope
    end_keeps = all_keep g elaborates ends None d.2 ps (start, 0)

    module _ (ok : end.so_far ≡ Ok tt) (z : Stage) (staged : StageTyped z) (has : HasModule g base z d.0 end) where
      declared_ok : d.1 ≡ Ok tt
      declared_ok = beside_left g d.1 (lack d.0) (checked_reported g elaborates ends None d.2 ps (start, 0) ok)

      heads : ModuleHeadsIn g elaborates ends d.0.own d.0.types d.0.procedures ps
      heads = leading.heads_all declared_ok

      serves : Serves g z None start end
      serves = record {
        home = sym end_keeps.home ∙ ap (λ (ty : Types). ty.home) has.types;
        types = λ t y e. subst (λ (ty : Types). made_at ty t ≡ Some y) has.types e;
        locals = λ n p q. ap (λ (rs : List Routine). slice_get rs n) (sym has.locals);
        members = has.members;
        outer = subst (λ (n : ℕ). BlocksThere (stands_in z n None) z.opens n d.0.outer) (sym level) has.outer;
        withs = withs;
      }

      all : TypedTo g elaborates base words ends d.0 z start end
      all = all_to g elaborates base words ends d.0 z staged has.names d.2 ps (they_are_typed ds fit) (start, 0) 0
          standing (keeps_refl d.0) heads (numbers_from [] ds fit ended)
          (they_agree d.0 d.2 0 ds fit (headings ends st 0 ds (record { withs = begins.withs }) declared_ok))
          (they_are_apart d.0 ds fit heads (numbers_apart g ends st 0 ds begins.level begins.awaits begins.apart
          declared_ok)) ok has.known serves (unfilled_headings d.0.procedures)
          (λ i. ap (λ (rs : List Routine). slice_get rs i) (sym has.procedures))

      end_known : ScopeKnown base end.scope
      end_known = all_known g elaborates base ends words None d.0 0 d.2 ps (they_are_typed ds fit) (start, 0) ok
          has.known

      end_level : end.scope.level ≡ 0
      end_level = end_keeps.level ∙ level

      end_typed : IsTyped g (stands z []) [] z.opens end.scope
      end_typed = scope_typed (stands z []) z.opens g end.scope staged.all staged.room serves.types
          end_known.ordered.types
          (subst (λ (n : ℕ). NamesThere (stands z []) z.opens n end.scope.own) (sym end_level)
          (subst (λ (es : List (List ℕ × Known g.Reported)). NamesThere (stands z []) z.opens 0 es)
          (sym (all_own g elaborates ends None d.2 ps (start, 0))) has.names))
          (subst (λ (n : ℕ). BlocksThere (stands z []) z.opens n end.scope.outer) (sym end_level)
          (subst (λ (bs : List (Around g.Reported)). BlocksThere (stands z []) z.opens 0 bs) (sym end_keeps.outer)
          has.outer))
          (end_keeps.withs ∙ withs)
          (λ k name e. holds_weaker (λ m q. meaning_anywhere z [] z.opens end.scope.level m q)
          (subst (λ (ts : List _). Holds (MeaningThere (stands z []) z.opens 0) (exported_meaning g ts k name))
          (sym end_keeps.tables) (has.members k name e)))

      body_holds : Holds (StmtsTyped (stands z []) None [] false) (statements_of elaborates end.scope None body)
      body_holds = body_typed g elaborates forms writes base words ends (stands z []) z.opens end.scope end_typed
          end_known.ranged (end_keeps.withs ∙ withs) None None refl body fits

      by_which : (w : Which) (r : Routine) → routine_of z.home w ≡ Some r → BodyTyped z r
      by_which (which.Module n) r e = all.1 (unfilled_bodies z d.0.procedures) n r
          (ap (λ (rs : List Routine). slice_get rs n) has.procedures ∙ e)
      by_which (which.Local n) r e = all.0 n r (omega arith) (ap (λ (rs : List Routine). slice_get rs n) has.locals ∙ e)

      stay : (t : TypeNo) (x : Made) → made_at d.0.types t ≡ Some x → made_at z.home.types t ≡ Some x
      stay t x e = subst (λ (ty : Types). made_at ty t ≡ Some x) has.types (end_keeps.types t x e)

      variables_known : AreKnown z.home.types z.home.variables
      variables_known =
          subst (λ (us : List TypeNo). AreKnown z.home.types us) has.variables
          (all_kept d.0.types z.home.types (made_known d.0.types z.home.types stay) d.0.variables
          has.known.ordered.variables)

      pub module_typed : (ss : List TypedStmt) → statements_of elaborates end.scope None body ≡ Ok ss
          → AreBodiesTyped z ss
      module_typed ss e = record {
        procedures = by_which;
        body = holds_at (statements_of elaborates end.scope None body) body_holds ss e;
        variables = variables_known;
      }

pub modules_typed : (g : Gathers) → ModulesAreTyped g
modules_typed g base modules s m b fit begins ok z staged has ss e =
    let keeps = locals_stay g in
    let words = words_stay g in
    let headings = headings_agree g in
    let ds : List Decl = (out-Block b).decls in
    let ends : List ℕ = procedure_ends ds in
    let st : State (Unit {0}) g.Reported = fold (with_import g modules) (s, Ok tt) m.imports in
    let d : Declared g.Reported = declared_block g ends st 0 ds in
    let first : Walk g.Reported = record {
      scope = d.0;
      so_far = beside g d.1 (reported_of_lack g m.name.pos d.0);
      bodies = no_bodies d.0.procedures;
    } in
    let f = sym (fits_at_block g (elaborate_body g) (elaborated_formed g) (elaborated_typed g) base words ends b
    (out-Block b) refl) ∙ fit in
    let parts = list_all itself (map fits_inside ds) in
    subst (λ (w : Walk g.Reported). w.so_far ≡ Ok tt → HasModule g base z d.0 w
    → statements_of (elaborate_body g) w.scope None (out-Block b).body ≡ Ok ss → AreBodiesTyped z ss)
    (sym (bodies_are g (elaborate_body g) (elaborated_formed g) ends None d.2 first ds))
    (λ o h q. module_typed g (elaborate_body g) (elaborated_formed g) (elaborated_typed g) base words ends keeps
    headings st (reported_of_lack g m.name.pos) ds (both_left parts (fits_body (out-Block b).body) f) refl
    (out-Block b).body
    (both_right parts (fits_body (out-Block b).body) f) begins o z staged h ss q)
    ok has e
