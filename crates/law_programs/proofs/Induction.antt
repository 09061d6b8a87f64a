-- Blocks in blocks, by induction.
use Rattle.std.proofs.Common.{◌≡◌, ℕ, suc, ◌+◌, ◌<◌, ◌≤◌, ◌==◌, Bool, true, false, ◌&&◌, List, [], ◌∷◌, length, Option, Some, None, Result, Ok, refl, sym, ap, subst, ◌∙◌, arith}
use Rattle.std.specs.Prelude.{map, slice_get}
use Rattle.std.specs.List.{fold, list_all}
use Rattle.m2_tree.specs.declared.stmt.Stmt.{Stmt}
use Rattle.m2_tree.specs.declared.decl.Decl.{Decl, Decl-F, out-Decl, roll-Decl, out-roll-Decl, map-Decl, fold_out-Decl}
use Rattle.m2_tree.specs.declared.decl.Decl.TheOpen as layer
use Rattle.m2_tree.specs.declared.decl.Block.{Block, Block-F, out-Block, roll-Block, out-roll-Block, map-Block, fold_out-Block}
use Rattle.typed_tree.specs.declared.known_types.Types.{Types}
use Rattle.typed_tree.specs.declared.shape.Formal.{Formal}
use Rattle.typed_tree.specs.declared.shape.Made.{Made}
use Rattle.typed_tree.specs.declared.table.Table.{Table}
use Rattle.typed_tree.specs.declared.typed_module.Routine.{Routine}
use Rattle.typed_tree.specs.declared.typed_module.TypedModule.{TypedModule}
use Rattle.typed_tree.specs.declared.typed_module.Which.{Which}
use Rattle.typed_tree.specs.declared.types.TypeNo.{TypeNo}
use Rattle.typed_tree.specs.Known.{made_at}
use Rattle.check_scope.specs.Elaborated.{Gathers}
use Rattle.check_scope.specs.Scopes.{State}
use Rattle.check_scope.specs.declared.known.Known.{Known}
use Rattle.check_scope.specs.declared.scope.Block.{Block as Around}
use Rattle.check_scope.specs.declared.scope.Scope.{Scope}
use Rattle.check_const.specs.Denote.{exported_meaning}
use Rattle.check_block.specs.Naming.{with_marks}
use Rattle.check_block.specs.Nesting as nesting
use Rattle.check_block.specs.Nesting.{append_names, within_decl, within}
use Rattle.check_definition.specs.Again.{Passing}
use Rattle.check_block.specs.Declarations.{Course, Declared, all_declared, declared_block}
use Rattle.check_body.specs.Routines.{numbered_known}
use Rattle.check_body.specs.declared.procedure.Walk.{Walk}
use Rattle.check_body.specs.Elaborating.{Elaborates, statements_of}
use Rattle.check_body.specs.Bodies.{ChecksBlock, Steps, marked_by, declared_by, again_by, steps_layer, block_layer, steps, checks_block}
use Rattle.check_body.specs.Checks.{elaborate_body}
use Rattle.law_simulation.specs.Passing.{Result as Gives}
use Rattle.law_simulation.specs.TreesTyped.{Context}
use Rattle.law_well_formed.proofs.BodyFolds.{OfDecl, OfBlock, bare, bare_block, opened, opened_block, all_decls, all_blocks, declared_same, counted, count_at, count_at_block, total, total_is}
use Rattle.law_well_formed.specs.Formed.{Holds, fine}
use Rattle.law_well_formed.proofs.Basics.{holds_weaker}
use Rattle.law_well_formed.specs.FormedScopes.{AreFormedNames, Leads}
use Rattle.law_well_formed.specs.FormedBodies.{FormsStatements, Keeps}
use Rattle.law_well_formed.proofs.Places.{is_within}
use Rattle.law_well_formed.proofs.Parts.{IsStep, constants_step, types_step, variables_step, procedure_step, AreSteps, no_steps, more_steps, nothing_at, no_home, nothing_open, all_marks, all_again, all_lead, HeadsIn, heads_in, RoutinesIn, all_formed}
use Rattle.law_well_formed.proofs.Checks.{keeps_refl, keeps_then, leads_keeps, holds_at}
use Rattle.law_well_formed.proofs.BodiesBlocks.{from, Here, all_own, all_keep, checked_reported}
use Rattle.law_well_formed.proofs.Induction.{blocks_formed}
use Rattle.law_well_formed.proofs.Heads.{ModuleHeadOf}
use Rattle.law_well_formed.proofs.FramesBlocks.{blocks_nest}
use Rattle.law_well_formed.specs.FormedRanges.{itself, fits_decl, fits_decl_layer, ScopeRanged}
use Rattle.law_well_formed.proofs.RangesTypes.{both_left, both_right, names_kept}
use Rattle.law_well_formed.proofs.RangesMade.{const_holds}
use Rattle.law_well_formed.proofs.RangesBlocks.{block_ranged}
use Rattle.law_well_formed.proofs.OrderBlocks.{block_ordered}
use Rattle.law_well_formed.specs.FormedNumbers.{IsNumbered}
use Rattle.law_programs.specs.Typing.{IsTyped}
use Rattle.law_programs.proofs.Known.{scalar_known}
use Rattle.law_programs.proofs.Meanings.{meant_typed, head_typed}
use Rattle.law_programs.specs.TypingStmts.{StmtsTyped, AreReturned}
use Rattle.law_programs.proofs.StmtsConstructs.{all_typed as row_typed}
use Rattle.law_programs.proofs.Statements.{statements_typed}
use Rattle.law_programs.specs.Words.{WordsStay}
use Rattle.law_programs.specs.TypingBodies.{number_in, number_of, fits_body, fits_inside_layer, fits_whole_layer, fits_inside, fits_whole_block, Stage, stands, stands_in, StageTyped, TypesStatements, MeaningThere, NamesThere, BlocksThere, NamesLocal, LocalsStay, IsFresh, DeclAgrees, DeclsAgree, HeadingsAgree, ScopeKnown, IsDeep, Serves, AddsTyped, HasFrame, Enters, TypedBlock}
use Rattle.law_programs.proofs.Shifting.{meaning_anywhere}
use Rattle.law_programs.proofs.Scopes.{scope_typed}
use Rattle.law_programs.proofs.Own.{NestedStands, names_there, tagged_module, tagged_nested, nested_tagged, nested_routine}
use Rattle.law_programs.proofs.Outermost.{number_at}
use Rattle.law_programs.proofs.BodiesBlocks.{StepTyped, AllTyped, StepAgrees, StepsAgree, marks_number, declared_number, AllStand, all_routines, all_known, all_variables, all_stand, serves_rest, all_typed}

-- ---- the statements of a body

pub elaborated_typed : (g : Gathers) → TypesStatements g (elaborate_body g)
elaborated_typed g x opens s h ranged withs returns result r body fit =
    statements_typed g (λ x ws opens s h e f. meant_typed g x ws opens s h e f)
    (λ x ws opens s h d f. head_typed g x ws opens s h d f) x [] opens s h ranged
    (ap (λ (ws : List _). length ws) (sym withs))
    (record { gives = returns; in_loop = false }) result r body fit

module _ (g : Gathers) (elaborates : Elaborates g.Reported) (forms : FormsStatements g elaborates)
    (writes : TypesStatements g elaborates) (base : Types) (words : WordsStay g) (ends : List ℕ) where
  pub body_typed : (x : Context) (opens : ℕ → Bool) (s : Scope g.Reported) → IsTyped g x [] opens s → ScopeRanged s
      → s.withs ≡ [] → (returns : Option (Result TypeNo g.Reported)) (result : Gives)
      → AreReturned x.home.types returns result
      → (body : Option (List Stmt)) → fits_body body ≡ true
      → Holds (StmtsTyped x result [] false) (statements_of elaborates s returns body)
  body_typed x opens s h ranged e returns result r None fit = fine [] (row_typed x result [] false [] tt)
  body_typed x opens s h ranged e returns result r (Some xs) fit = writes x opens s h ranged e returns result r xs fit

  -- what the declarations of a block lead to
  record Declares {xs : List (Steps g.Reported)} {ls : List ℕ} (ps : AreSteps g elaborates ends xs ls) : Type 0 where
    known : (st : State (Unit {0}) g.Reported) (first : ℕ)
        → (all_declared marked_by declared_by again_by st first xs).1 ≡ Ok tt
        → ScopeKnown base st.0 → ScopeKnown base (all_declared marked_by declared_by again_by st first xs).0
    locals : (st : State (Unit {0}) g.Reported) (first : ℕ) → (st.0.level == 0) ≡ false → NamesLocal st.0.own
        → NamesLocal (all_declared marked_by declared_by again_by st first xs).0.own
    agrees : (st : State (Unit {0}) g.Reported) (first : ℕ) → IsFresh st.0
        → (all_declared marked_by declared_by again_by st first xs).1 ≡ Ok tt
        → StepsAgree g elaborates base ends (all_declared marked_by declared_by again_by st first xs).0
        (all_declared marked_by declared_by again_by st first xs).2 0 ps

  -- ---- a block, whose parts are known

  module _ (xs : List (Steps g.Reported)) (body : Option (List Stmt)) (ls : List ℕ)
      (ps : AreSteps g elaborates ends xs ls) (bs : AllTyped g elaborates base ends ps) (d : Declares ps)
      (fit : fits_body body ≡ true)
      (around : Option Which) (returns : Option (Result TypeNo g.Reported)) (w : Walk g.Reported) where
    abbrev marks : Scope g.Reported × List ℕ
    marks = fold (with_marks marked_by) (w.scope, []) xs

    abbrev course : Course g.Reported
    course = fold declared_by (marks.0, w.so_far, length w.bodies.locals) xs

    abbrev passing : Passing g.Reported
    passing = fold (again_by course.0) (course.1, length w.scope.own) xs

    abbrev start : Walk g.Reported
    start = record { scope = course.0; so_far = passing.0; bodies = w.bodies }

    abbrev end : Walk g.Reported
    end = from g elaborates ends around marks.1 (start, 0) xs

    marks_lead : (m : TypedModule) (opens : ℕ → Bool) → Leads m opens w.scope marks.0
    marks_lead m opens = all_marks g elaborates ends m opens ps (w.scope, [])

    abbrev other : TypedModule
    other = nothing_at marks.0.types.home

    course_leads : Leads other nothing_open marks.0 course.0
    course_leads = all_lead g elaborates ends other nothing_open ps (marks.0, w.so_far, length w.bodies.locals)
        (no_home marks.0.types.home)

    start_keeps : Keeps w.scope start.scope
    start_keeps = keeps_then (leads_keeps other nothing_open (marks_lead other nothing_open))
        (leads_keeps other nothing_open course_leads)

    end_keeps : Keeps start.scope end.scope
    end_keeps = all_keep g elaborates ends around marks.1 ps (start, 0)

    start_ok : end.so_far ≡ Ok tt → passing.0 ≡ Ok tt
    start_ok ok = checked_reported g elaborates ends around marks.1 ps (start, 0) ok

    course_ok : end.so_far ≡ Ok tt → course.1 ≡ Ok tt
    course_ok ok = all_again g elaborates ends ps course.0 (course.1, length w.scope.own) (start_ok ok)

    start_known : end.so_far ≡ Ok tt → ScopeKnown base w.scope → ScopeKnown base course.0
    start_known ok k = d.known (w.scope, w.so_far) (length w.bodies.locals) (start_ok ok) k

    block_known : end.so_far ≡ Ok tt → ScopeKnown base w.scope → ScopeKnown base end.scope
    block_known ok k = all_known g elaborates base ends words around course.0 marks.0.level marks.1 ps bs (start, 0) ok
        (start_known ok k)

    module _ (fs : List Formal) (enters : Enters base ends fs w ls) (ok : end.so_far ≡ Ok tt) where
      heads : HeadsIn g elaborates ends course.0.own course.0.types marks.0.level (length w.bodies.locals) ps
      heads = heads_in g elaborates ends course.0.own course.0.types marks.0.level ps
          (marks.0, w.so_far, length w.bodies.locals) course.0 refl refl refl refl
          (ap (λ (n : ℕ). n == 0) (marks_lead other nothing_open).level ∙ enters.begins.level)
          (λ name. (marks_lead other nothing_open).awaits name (enters.begins.awaits name)) enters.begins.numbers
          (course_ok ok)

      here : Here g elaborates ends around course.0.own course.0.types marks.0.level start (length w.bodies.locals) ls
      here = record {
        names = refl;
        nested = ap (λ (n : ℕ). n == 0) start_keeps.level ∙ enters.begins.level;
        deep = subst (λ (bs : List (Around g.Reported)). 1 < length bs) (sym start_keeps.outer) enters.begins.deep;
        count = refl;
        numbers = enters.begins.numbers;
        grown = λ t y e. e;
      }

      deep : IsDeep start
      deep = ap (λ (bs : List (Around g.Reported)). length bs) start_keeps.outer ∙ enters.deep
          ∙ ap suc (sym start_keeps.level)

      stand : AllStand g elaborates base ends words around course.0 marks.0.level end.bodies.locals course.0.level
          (length w.bodies.locals) ps heads
      stand = all_stand g elaborates base ends words around course.0 marks.0.level marks.1 ps bs (start, 0)
          (length w.bodies.locals) here deep heads ok

      numbered : IsNumbered fs course.0
      numbered = declared_number g elaborates base ends fs ps (marks.0, w.so_far, length w.bodies.locals)
          (marks_number g elaborates base ends fs ps (w.scope, []) enters.numbered)

      module _ (z : Stage) (staged : StageTyped z) (serves : Serves g z around w end)
          (frame : HasFrame z w.scope.level around fs end.scope.variables) (result : Gives)
          (returned : AreReturned z.home.types returns result) where
        start_serves : Serves g z around start end
        start_serves = serves_rest g elaborates base ends words around course.0 marks.0.level marks.1 z staged w start
            end start_keeps (omega arith) serves

        in_home : (i : ℕ) (t : TypeNo) (r : Routine) → length w.bodies.locals ≤ i
            → slice_get end.bodies.locals i ≡ Some r → r.heading ≡ t → r.around ≡ around → r.level ≡ suc course.0.level
            → NestedStands z.home course.0.level around i t
        in_home i t r b e h a l = (r, (serves.locals i b (is_within end.bodies.locals i r e) ∙ e, (h, (a, l))))

        abbrev tagged : TypedModule
        tagged = tagged_module z.home course.0.level around

        home_routines : RoutinesIn g elaborates ends course.0.own course.0.types marks.0.level z.home.locals
            (length w.bodies.locals) ps heads
        home_routines = all_routines g elaborates base ends words around course.0 marks.0.level end.bodies.locals
            z.home.locals course.0.level (length w.bodies.locals) (length w.bodies.locals) (omega arith)
            (λ i t r b e h a l. nested_routine z.home course.0.level around i t (in_home i t r b e h a l)) ps heads
            stand

        tagged_routines : RoutinesIn g elaborates ends course.0.own course.0.types marks.0.level tagged.locals
            (length w.bodies.locals) ps heads
        tagged_routines = all_routines g elaborates base ends words around course.0 marks.0.level end.bodies.locals
            tagged.locals course.0.level (length w.bodies.locals) (length w.bodies.locals) (omega arith)
            (λ i t r b e h a l. nested_tagged z.home course.0.level around i t (in_home i t r b e h a l)) ps heads stand

        formed : (m : TypedModule) → w.scope.types.home ≡ m.types.home
            → RoutinesIn g elaborates ends course.0.own course.0.types marks.0.level m.locals (length w.bodies.locals)
            ps heads → AreFormedNames m z.opens course.0.own
        formed m home there =
            (all_formed g elaborates ends course.0.own course.0.types marks.0.level m z.opens ps
            (marks.0, w.so_far, length w.bodies.locals) (length w.bodies.locals) course.0 refl refl heads
            there).formed
            ((marks_lead m z.opens).home ∙ home) ((marks_lead m z.opens).formed home (enters.formed m z.opens))

        frame_here : HasFrame z course.0.level around fs course.0.variables
        frame_here =
            subst (λ (l : ℕ). HasFrame z l around fs course.0.variables) (sym start_keeps.level)
            (subst (λ (vs : List TypeNo). HasFrame z w.scope.level around fs vs)
            (all_variables g elaborates base ends words around course.0 marks.0.level marks.1 ps (start, 0)) frame)

        known_here : ScopeKnown base course.0
        known_here = start_known ok enters.known

        grown : (t : TypeNo) (y : Made) → made_at course.0.types t ≡ Some y → made_at z.home.types t ≡ Some y
        grown t y e = serves.types t y (end_keeps.types t y e)

        names : NamesThere (stands_in z course.0.level around) z.opens course.0.level course.0.own
        names =
            names_there z course.0.level course.0.types.home around fs course.0.variables course.0.procedures frame_here
            staged.there tagged (tagged_nested z.home course.0.level around) course.0.own numbered.names
            (names_kept course.0.types z.home.types (λ t r e. scalar_known course.0.types z.home.types grown t r e)
            course.0.own known_here.ranged.names)
            known_here.words.names (d.locals (w.scope, w.so_far) (length w.bodies.locals) enters.begins.level
            enters.locals)
            (formed z.home serves.home home_routines) (formed tagged serves.home tagged_routines)

        end_known : ScopeKnown base end.scope
        end_known = block_known ok enters.known

        end_typed : IsTyped g (stands_in z end.scope.level around) [] z.opens end.scope
        end_typed = scope_typed (stands_in z end.scope.level around) z.opens g end.scope staged.all staged.room
            serves.types end_known.ordered.types
            (subst (λ (l : ℕ). NamesThere (stands_in z l around) z.opens l end.scope.own) (sym end_keeps.level)
            (subst (λ (es : List (List ℕ × Known g.Reported)). NamesThere (stands_in z course.0.level around) z.opens
            course.0.level es) (sym (all_own g elaborates ends around marks.1 ps (start, 0))) names))
            (subst (λ (l : ℕ). BlocksThere (stands_in z l around) z.opens l end.scope.outer) (sym end_keeps.level)
            (subst (λ (bs : List (Around g.Reported)). BlocksThere (stands_in z course.0.level around) z.opens
            course.0.level bs) (sym end_keeps.outer) start_serves.outer))
            (end_keeps.withs ∙ start_serves.withs)
            (λ k name e. holds_weaker (λ m q. meaning_anywhere z _ z.opens end.scope.level m q)
            (subst (λ (ts : List Table). Holds (MeaningThere (stands z []) z.opens 0) (exported_meaning g ts k name))
            (sym end_keeps.tables) (start_serves.members k name e)))

        block_typed : AddsTyped g z w end × Holds (StmtsTyped (stands_in z w.scope.level around) result [] false)
            (statements_of elaborates end.scope returns body)
        block_typed = (
          all_typed g elaborates base ends words around course.0 marks.0.level marks.1 z staged ps bs (start, 0)
              (length w.bodies.locals) here deep (keeps_refl course.0) heads
              (d.agrees (w.scope, w.so_far) (length w.bodies.locals) enters.fresh (start_ok ok)) ok known_here
              start_serves names,
          subst (λ (l : ℕ). Holds (StmtsTyped (stands_in z l around) result [] false)
              (statements_of elaborates end.scope returns body)) (end_keeps.level ∙ start_keeps.level)
              (body_typed (stands_in z end.scope.level around) z.opens end.scope end_typed end_known.ranged
              (end_keeps.withs ∙ start_serves.withs) returns result returned body fit),
        )

  of_steps : (xs : List (Steps g.Reported)) (body : Option (List Stmt)) (ls : List ℕ)
      (ps : AreSteps g elaborates ends xs ls) → AllTyped g elaborates base ends ps → Declares ps → fits_body body ≡ true
      → TypedBlock g base ends (block_layer g elaborates ends (record { decls = xs; body = body })) ls
  of_steps xs body ls ps bs d fit = record {
    known = λ around returns w ok k. block_known xs body ls ps bs d fit around returns w ok k;
    typed = λ fs around returns w e ok z t s f r q. block_typed xs body ls ps bs d fit around returns w fs e ok z t s f
        r q;
  }

  -- ---- steps as declarations

  abbrev steps_of : Decl → Steps g.Reported
  steps_of = steps g elaborates ends

  abbrev block_of : Block → ChecksBlock g.Reported
  block_of = checks_block g elaborates ends

  abbrev fitting : Decl-F Decl Block → Decl-F Bool Bool
  fitting x = map-Decl Decl Block Bool Bool fits_inside fits_whole_block x

  abbrev fitting_block : Block-F Decl Block → Block-F Bool Bool
  fitting_block x = map-Block Decl Block Bool Bool fits_inside fits_whole_block x

  pub fits_at : (e : Decl) (x : Decl-F Decl Block) → out-Decl e ≡ x → fits_inside e ≡ fits_inside_layer (fitting x)
  unfolding fits_inside fits_whole_block
  fits_at e x h = fold_out-Decl Bool Bool fits_inside_layer fits_whole_layer e
      ∙ ap (λ (y : Decl-F Decl Block). fits_inside_layer (fitting y)) h

  pub fits_at_block : (e : Block) (x : Block-F Decl Block) → out-Block e ≡ x
      → fits_whole_block e ≡ fits_whole_layer (fitting_block x)
  unfolding fits_inside fits_whole_block
  fits_at_block e x h = fold_out-Block Bool Bool fits_inside_layer fits_whole_layer e
      ∙ ap (λ (y : Block-F Decl Block). fits_whole_layer (fitting_block y)) h

  -- ---- trees

  and_both : (a b : Bool) → a ≡ true → b ≡ true → (a && b) ≡ true
  and_both true b h k = k
  and_both false b h k = absurd cc

  layer_fits : (x : Decl-F Decl Block) → fits_inside_layer (fitting x) ≡ true → fits_decl_layer x ≡ true
  layer_fits (layer.Constants cs) e = e
  layer_fits (layer.Types ts) e = e
  layer_fits (layer.Variables vs) e = e
  layer_fits (layer.Procedure h b) e = refl

  decl_fits : (d : Decl) → fits_inside d ≡ true → fits_decl d ≡ true
  decl_fits d e = layer_fits (out-Decl d) (sym (fits_at d (out-Decl d) refl) ∙ e)

  pub decls_fit : (ds : List Decl) → list_all itself (map fits_inside ds) ≡ true → list_all fits_decl ds ≡ true
  decls_fit [] e = refl
  decls_fit (d ∷ ds) e =
      and_both (fits_decl d) (list_all fits_decl ds)
      (decl_fits d (both_left (fits_inside d) (list_all itself (map fits_inside ds)) e))
      (decls_fit ds (both_right (fits_inside d) (list_all itself (map fits_inside ds)) e))

  -- ---- the induction

  -- a declaration, known to be a step with a typed body
  pub record IsBodied (d : Decl) (x : Steps g.Reported) (ks : List ℕ) : Type 0 where
    pub step : IsStep g elaborates ends x ks
    pub typed : StepTyped g elaborates base ends step
    pub agrees : (a : Scope g.Reported) (seen : ℕ) → DeclAgrees g {A = Decl} {B = Block} a seen (out-Decl d)
        → StepAgrees g elaborates base ends a seen step
    pub numbered : (a : Scope g.Reported) (k : ModuleHeadOf g elaborates ends a.own a.types a.procedures step)
        → number_of a.own {A = Decl} {B = Block} (out-Decl d) ≡ number_at g elaborates base words ends a step k

  module _ (keeps : LocalsStay g) (headings : HeadingsAgree g) where
    abbrev PD : Decl → Steps g.Reported → Type 0
    PD d x = fits_inside d ≡ true → IsBodied d x (within_decl d)

    abbrev PB : Block → ChecksBlock g.Reported → Type 0
    PB b c = fits_whole_block b ≡ true → TypedBlock g base ends c (within b)

    abbrev SD : Type 0
    SD = OfDecl g elaborates ends PD PB

    abbrev SB : Type 0
    SB = OfBlock g elaborates ends PD PB

    abbrev stripped : Decl-F SD SB → Decl-F Decl Block
    stripped y = bare g elaborates ends PD PB y

    abbrev stripped_block : Block-F SD SB → Block-F Decl Block
    stripped_block y = bare_block g elaborates ends PD PB y

    abbrev decls_of : List SD → List Decl
    decls_of xs = map (λ (x : SD). x.0) xs

    abbrev Fit : List SD → Type 0
    Fit xs = list_all itself (map fits_inside (decls_of xs)) ≡ true

    first_fits : (x : SD) (xs : List SD) → Fit (x ∷ xs) → fits_inside x.0 ≡ true
    first_fits x xs e = both_left (fits_inside x.0) (list_all itself (map fits_inside (decls_of xs))) e

    rest_fits : (x : SD) (xs : List SD) → Fit (x ∷ xs) → Fit xs
    rest_fits x xs e = both_right (fits_inside x.0) (list_all itself (map fits_inside (decls_of xs))) e

    are_steps : (xs : List SD) → Fit xs → AreSteps g elaborates ends (map steps_of (decls_of xs)) (total xs)
    are_steps [] e = no_steps
    are_steps (x ∷ xs) e = more_steps (steps_of x.0) (map steps_of (decls_of xs)) (within_decl x.0) (total xs)
        (x.1 (first_fits x xs e)).step (are_steps xs (rest_fits x xs e))

    they_are_typed : (xs : List SD) (e : Fit xs) → AllTyped g elaborates base ends (are_steps xs e)
    unfolding are_steps
    they_are_typed [] e = tt
    they_are_typed (x ∷ xs) e = ((x.1 (first_fits x xs e)).typed, they_are_typed xs (rest_fits x xs e))

    they_agree : (a : Scope g.Reported) (seen : List ℕ) (i : ℕ) (xs : List SD) (e : Fit xs)
        → DeclsAgree g a seen i (decls_of xs) → StepsAgree g elaborates base ends a seen i (are_steps xs e)
    unfolding are_steps
    they_agree a seen i [] e h = tt
    they_agree a seen i (x ∷ xs) e h = (
      (x.1 (first_fits x xs e)).agrees a _ h.0,
      they_agree a seen (i + 1) xs
          (rest_fits x xs e) h.1,
    )

    pub known_declared : (ds : List Decl) → list_all itself (map fits_inside ds) ≡ true
        → (st : State (Unit {0}) g.Reported) (first : ℕ) → (declared_block g ends st first ds).1 ≡ Ok tt
        → ScopeKnown base st.0 → ScopeKnown base (declared_block g ends st first ds).0
    known_declared ds e st first ok k = record {
      ranged = holds_at (declared_block g ends st first ds).1
          (block_ranged g ends st first ds (decls_fit ds e) (const_holds k.ranged st.1)) tt ok;
      ordered = holds_at (declared_block g ends st first ds).1
          (block_ordered base g ends st first ds (const_holds k.ordered st.1)) tt ok;
      words = words.blocks ends st first ds k.words;
    }

    declares : (xs : List SD) (e : Fit xs) → Declares (are_steps xs e)
    declares xs e = record {
      known = λ st first.
          subst (λ (d : Declared g.Reported). d.1 ≡ Ok tt → ScopeKnown base st.0 → ScopeKnown base d.0)
          (sym (declared_same g elaborates ends (decls_of xs) st first)) (known_declared (decls_of xs) e st first);
      locals = λ st first.
          subst (λ (d : Declared g.Reported). (st.0.level == 0) ≡ false → NamesLocal st.0.own → NamesLocal d.0.own)
          (sym (declared_same g elaborates ends (decls_of xs) st first)) (keeps ends st first (decls_of xs));
      agrees = λ st first.
          subst (λ (d : Declared g.Reported). IsFresh st.0 → d.1 ≡ Ok tt → StepsAgree g elaborates base ends d.0 d.2 0
          (are_steps xs e)) (sym (declared_same g elaborates ends (decls_of xs) st first))
          (λ fresh ok. they_agree _ _ 0 xs e (headings ends st first (decls_of xs) fresh ok));
    }

    step_at : (d : Decl) (y : Decl-F SD SB) → out-Decl d ≡ stripped y → fits_inside_layer (fitting (stripped y)) ≡ true
        → IsBodied d (steps_layer g elaborates ends (opened g elaborates ends (stripped y)))
        (nesting.decl_layer (counted (stripped y)))
    step_at d (layer.Constants cs) is e = record {
      step = constants_step cs;
      typed = tt;
      agrees = λ a seen h. tt;
      numbered = λ a k. ap (λ (x : Decl-F Decl Block). number_of a.own {A = Decl} {B = Block} x) is;
    }
    step_at d (layer.Types ts) is e = record {
      step = types_step ts;
      typed = tt;
      agrees = λ a seen h. tt;
      numbered =
          λ a k. ap (λ (x : Decl-F Decl Block). number_of a.own {A = Decl} {B = Block} x) is;
    }
    step_at d (layer.Variables vs) is e = record {
      step = variables_step vs;
      typed = tt;
      agrees = λ a seen h. tt;
      numbered = λ a k. ap (λ (x : Decl-F Decl Block). number_of a.own {A = Decl} {B = Block} x) is;
    }
    step_at d (layer.Procedure h b) is e = record {
      step = procedure_step h (block_of b.0) (within b.0) (blocks_formed g elaborates forms ends b.0);
      typed = (blocks_nest g elaborates forms ends b.0, b.1 e);
      agrees = λ a seen q. subst (λ (x : Decl-F Decl Block). DeclAgrees g {A = Decl} {B = Block} a seen x) is q;
      numbered = λ a k. ap (λ (x : Decl-F Decl Block). number_of a.own {A = Decl} {B = Block} x) is
          ∙ ap (λ (o : Option (Known g.Reported)). number_in a.own (numbered_known o)) k.1.0;
    }

    block_of_steps : (xs : List SD) (body : Option (List Stmt)) → Fit xs → fits_body body ≡ true
        → TypedBlock g base ends (block_layer g elaborates ends
        (record { decls = map steps_of (decls_of xs); body = body }))
        (fold append_names [] (map within_decl (decls_of xs)))
    block_of_steps xs body e f =
        subst (λ (ks : List ℕ). TypedBlock g base ends
        (block_layer g elaborates ends (record { decls = map steps_of (decls_of xs); body = body })) ks)
        (sym (total_is [] xs))
        (of_steps (map steps_of (decls_of xs)) body (total xs) (are_steps xs e) (they_are_typed xs e) (declares xs e) f)

    decl_step : (y : Decl-F SD SB)
        → PD (roll-Decl (stripped y)) (steps_layer g elaborates ends (opened g elaborates ends (stripped y)))
    decl_step y e =
        let x : Decl-F Decl Block = stripped y in
        let d : Decl = roll-Decl x in
        let is : out-Decl d ≡ x = out-roll-Decl x in
        subst (λ (ks : List ℕ). IsBodied d (steps_layer g elaborates ends (opened g elaborates ends x)) ks)
        (sym (count_at d x is)) (step_at d y is (sym (fits_at d x is) ∙ e))

    block_step : (y : Block-F SD SB)
        → PB (roll-Block (stripped_block y))
        (block_layer g elaborates ends (opened_block g elaborates ends (stripped_block y)))
    block_step y e =
        let x : Block-F Decl Block = stripped_block y in
        let b : Block = roll-Block x in
        let is : out-Block b ≡ x = out-roll-Block x in
        let f : fits_whole_layer (fitting_block x) ≡ true = sym (fits_at_block b x is) ∙ e in
        let ds : Bool = list_all itself (map fits_inside (decls_of y.decls)) in
        subst (λ (ks : List ℕ). TypedBlock g base ends
        (block_layer g elaborates ends (opened_block g elaborates ends x)) ks)
        (sym (count_at_block b x is))
        (block_of_steps y.decls y.body (both_left ds (fits_body y.body) f) (both_right ds (fits_body y.body) f))

    pub decls_typed : (d : Decl) → PD d (steps_of d)
    decls_typed = all_decls g elaborates ends PD PB decl_step block_step

    pub blocks_typed : (b : Block) → PB b (block_of b)
    blocks_typed = all_blocks g elaborates ends PD PB decl_step block_step
