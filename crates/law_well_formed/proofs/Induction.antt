-- Blocks in blocks, by induction.
use Rattle.std.proofs.Common.{◌≡◌, ℕ, ◌+◌, ◌<◌, ◌==◌, Bool, false, List, [], ◌∷◌, length, Option, Some, None, Result, Ok, refl, sym, ap, subst, ◌∙◌, arith}
use Rattle.std.specs.Prelude.{map}
use Rattle.std.specs.List.{fold}
use Rattle.m2_tree.specs.declared.stmt.Stmt.{Stmt}
use Rattle.m2_tree.specs.declared.decl.Decl.{Decl, Decl-F, roll-Decl, out-roll-Decl}
use Rattle.m2_tree.specs.declared.decl.Decl.TheOpen as layer
use Rattle.m2_tree.specs.declared.decl.Block.{Block, Block-F, roll-Block, out-roll-Block}
use Rattle.typed_tree.specs.declared.table.Table.{Table}
use Rattle.typed_tree.specs.declared.typed_module.TypedModule.{TypedModule}
use Rattle.typed_tree.specs.declared.typed_module.Which.{Which}
use Rattle.typed_tree.specs.declared.types.TypeNo.{TypeNo}
use Rattle.check_scope.specs.Elaborated.{Gathers}
use Rattle.check_scope.specs.declared.known.Known.{Known}
use Rattle.check_scope.specs.declared.scope.Block.{Block as Around}
use Rattle.check_scope.specs.declared.scope.Scope.{Scope}
use Rattle.check_const.specs.Denote.{exported_meaning}
use Rattle.def_scheme.specs.Exprs.{is_there}
use Rattle.check_definition.specs.Again.{Passing}
use Rattle.check_block.specs.Naming.{with_marks}
use Rattle.check_block.specs.Nesting as nesting
use Rattle.check_block.specs.Nesting.{append_names, within_decl, within}
use Rattle.check_block.specs.Declarations.{Course}
use Rattle.law_modules.specs.WellFormed.{AreStmts, no_stmts}
use Rattle.law_well_formed.proofs.BodyFolds.{OfDecl, OfBlock, bare, bare_block, opened, opened_block, all_decls, all_blocks, counted, count_at, count_at_block, total, total_is}
use Rattle.law_well_formed.specs.Formed.{Holds, fine, FormedMeaning, IsFormed}
use Rattle.law_well_formed.specs.FormedScopes.{AreFormedNames, AreFormedBlocks, Leads}
use Rattle.law_well_formed.proofs.Statements.{statements_formed}
use Rattle.check_body.specs.declared.procedure.Walk.{Walk}
use Rattle.check_body.specs.Elaborating.{Elaborates, statements_of}
use Rattle.check_body.specs.Bodies.{ChecksBlock, Steps, marked_by, declared_by, again_by, steps_layer, block_layer, steps, checks_block}
use Rattle.check_body.specs.Checks.{elaborate_body}
use Rattle.law_well_formed.specs.FormedBodies.{FormsStatements, Keeps, Adds, Suits, AddsFormed, Begins, FormedBlock}
use Rattle.law_well_formed.proofs.Places.{is_within}
use Rattle.law_well_formed.proofs.Scopes.{scope_formed}
use Rattle.law_well_formed.proofs.Parts.{IsStep, constants_step, types_step, variables_step, procedure_step, AreSteps, no_steps, more_steps, nothing_at, no_home, nothing_open, all_marks, all_again, all_reported, all_lead, HeadsIn, heads_in, RoutinesIn, routines_in, all_formed}
use Rattle.law_well_formed.proofs.Checks.{keeps_then, leads_keeps}
use Rattle.law_well_formed.proofs.BodiesBlocks.{from, Here, all_own, all_keep, checked_reported, all_count, all_add, all_routines, suits_rest, all_formed_in}

-- ---- the statements of a body

pub elaborated_formed : (g : Gathers) → FormsStatements g (elaborate_body g)
elaborated_formed g m opens s h e returns body =
    subst (λ (w : ℕ). Holds (AreStmts m (is_there returns) w false) (elaborate_body g s returns body))
    (ap (λ (ws : List _). length ws) e)
    (statements_formed g m opens s (subst (λ (w : ℕ). IsFormed g m opens w s) (sym (ap (λ (ws : List _). length ws) e))
    h) (record { gives = returns; in_loop = false }) body)

module _ (g : Gathers) (elaborates : Elaborates g.Reported) (forms : FormsStatements g elaborates) (ends : List ℕ) where
  pub body_formed : (m : TypedModule) (opens : ℕ → Bool) (s : Scope g.Reported) → IsFormed g m opens 0 s → s.withs ≡ []
      → (returns : Option (Result TypeNo g.Reported)) (body : Option (List Stmt))
      → Holds (AreStmts m (is_there returns) 0 false) (statements_of elaborates s returns body)
  body_formed m opens s h e returns None = fine [] (no_stmts 0 false)
  body_formed m opens s h e returns (Some xs) = forms m opens s h e returns xs

  -- ---- a block, whose parts are known

  module _ (xs : List (Steps g.Reported)) (body : Option (List Stmt)) (ls : List ℕ)
      (ps : AreSteps g elaborates ends xs ls) (around : Option Which) (returns : Option (Result TypeNo g.Reported))
      (w : Walk g.Reported) where
    abbrev marks : Scope g.Reported × List ℕ
    marks = fold (with_marks marked_by) (w.scope, []) xs

    abbrev course : Course g.Reported
    course = fold declared_by (marks.0, w.so_far, length w.bodies.locals) xs

    abbrev passing : Passing g.Reported
    passing = fold (again_by course.0) (course.1, length w.scope.own) xs

    abbrev start : Walk g.Reported
    start = record { scope = course.0; so_far = passing.0; bodies = w.bodies }

    abbrev end : Walk g.Reported
    end = from g elaborates ends around marks.1 (start, 0) xs

    marks_lead : (m : TypedModule) (opens : ℕ → Bool) → Leads m opens w.scope marks.0
    marks_lead m opens = all_marks g elaborates ends m opens ps (w.scope, [])

    abbrev other : TypedModule
    other = nothing_at marks.0.types.home

    course_leads : Leads other nothing_open marks.0 course.0
    course_leads = all_lead g elaborates ends other nothing_open ps (marks.0, w.so_far, length w.bodies.locals)
        (no_home marks.0.types.home)

    start_keeps : Keeps w.scope start.scope
    start_keeps = keeps_then (leads_keeps other nothing_open (marks_lead other nothing_open))
        (leads_keeps other nothing_open course_leads)

    end_keeps : Keeps start.scope end.scope
    end_keeps = all_keep g elaborates ends around marks.1 ps (start, 0)

    block_reported : end.so_far ≡ Ok tt → w.so_far ≡ Ok tt
    block_reported e = all_reported g elaborates ends ps (marks.0, w.so_far, length w.bodies.locals)
        (all_again g elaborates ends ps course.0 (course.1, length w.scope.own)
        (checked_reported g elaborates ends around marks.1 ps (start, 0) e))

    block_count : (w.scope.level == 0) ≡ false → 0 < length w.scope.outer
        → length end.bodies.locals ≡ length w.bodies.locals + length ls
    block_count l d =
        all_count g elaborates ends around marks.1 ps (start, 0) (ap (λ (n : ℕ). n == 0) start_keeps.level ∙ l)
        (subst (λ (bs : List (Around g.Reported)). 0 < length bs) (sym start_keeps.outer) d)

    module _ (begins : Begins ends w ls) (ok : end.so_far ≡ Ok tt) where
      start_ok : course.1 ≡ Ok tt
      start_ok = all_again g elaborates ends ps course.0 (course.1, length w.scope.own)
          (checked_reported g elaborates ends around marks.1 ps (start, 0) ok)

      marks_level : marks.0.level ≡ w.scope.level
      marks_level = (marks_lead other nothing_open).level

      heads : HeadsIn g elaborates ends course.0.own course.0.types marks.0.level (length w.bodies.locals) ps
      heads = heads_in g elaborates ends course.0.own course.0.types marks.0.level ps
          (marks.0, w.so_far, length w.bodies.locals) course.0 refl refl refl refl
          (ap (λ (n : ℕ). n == 0) marks_level ∙ begins.level)
          (λ name. (marks_lead other nothing_open).awaits name (begins.awaits name)) begins.numbers start_ok

      here : Here g elaborates ends around course.0.own course.0.types marks.0.level start (length w.bodies.locals) ls
      here = record {
        names = refl;
        nested = ap (λ (n : ℕ). n == 0) start_keeps.level ∙ begins.level;
        deep = subst (λ (bs : List (Around g.Reported)). 1 < length bs) (sym start_keeps.outer) begins.deep;
        count = refl;
        numbers = begins.numbers;
        grown = λ t y e. e;
      }

      start_adds : Adds start end
      start_adds = all_add g elaborates ends around marks.1 course.0.own course.0.types marks.0.level ps (start, 0)
          (length w.bodies.locals) here heads ok

      block_adds : Adds w end
      block_adds = record { procedures = start_adds.procedures; below = start_adds.below; nested = start_adds.nested }

      module _ (m : TypedModule) (opens : ℕ → Bool) (suits : Suits g m opens w end)
          (own : AreFormedNames m opens w.scope.own) where
        there : RoutinesIn g elaborates ends course.0.own course.0.types marks.0.level m.locals (length w.bodies.locals)
            ps heads
        there = routines_in g elaborates ends course.0.own course.0.types marks.0.level end.bodies.locals m.locals
            (length w.bodies.locals) (length w.bodies.locals) (omega arith)
            (λ k r b e. suits.locals k b (is_within end.bodies.locals k r e) ∙ e) ps heads
            (all_routines g elaborates ends around marks.1 course.0.own course.0.types marks.0.level ps (start, 0)
            (length w.bodies.locals) here heads ok)

        names_lead : Leads m opens marks.0 course.0
        names_lead = all_formed g elaborates ends course.0.own course.0.types marks.0.level m opens ps
            (marks.0, w.so_far, length w.bodies.locals) (length w.bodies.locals) course.0 refl refl heads there

        start_formed : AreFormedNames m opens course.0.own
        start_formed = names_lead.formed ((marks_lead m opens).home ∙ suits.home)
            ((marks_lead m opens).formed suits.home own)

        start_suits : Suits g m opens start end
        start_suits = suits_rest g elaborates ends around marks.1 course.0.own course.0.types marks.0.level m opens w
            start end start_keeps (omega arith) suits

        end_formed : IsFormed g m opens 0 end.scope
        end_formed = scope_formed m opens g end.scope suits.types
            (subst (λ (es : List (List ℕ × Known g.Reported)). AreFormedNames m opens es)
            (sym (all_own g elaborates ends around marks.1 ps (start, 0))) start_formed)
            (subst (λ (bs : List (Around g.Reported)). AreFormedBlocks m opens bs) (sym end_keeps.outer)
            start_suits.outer)
            (end_keeps.withs ∙ start_suits.withs)
            (λ k name e. subst (λ (ts : List Table). Holds (FormedMeaning m opens 0) (exported_meaning g ts k name))
            (sym end_keeps.tables) (start_suits.members k name e))

        block_formed : AddsFormed g m opens w end
            × Holds (AreStmts m (is_there returns) 0 false) (statements_of elaborates end.scope returns body)
        block_formed = (
          all_formed_in g elaborates ends around marks.1 course.0.own course.0.types marks.0.level m opens ps (start, 0)
              (length w.bodies.locals) here heads ok start_suits start_formed,
          body_formed m opens end.scope end_formed (end_keeps.withs ∙ start_suits.withs) returns body,
        )

  of_steps : (xs : List (Steps g.Reported)) (body : Option (List Stmt)) (ls : List ℕ) → AreSteps g elaborates ends xs ls
      → FormedBlock g ends (block_layer g elaborates ends (record { decls = xs; body = body })) ls
  of_steps xs body ls ps = record {
    keeps = λ around returns w. keeps_then (start_keeps xs body ls ps around returns w)
        (end_keeps xs body ls ps around returns w);
    reported = λ around returns w e. block_reported xs body ls ps around returns w e;
    count = λ around returns w l d. block_count xs body ls ps around returns w l d;
    adds = λ around returns w b e. block_adds xs body ls ps around returns w b e;
    formed = λ around returns w b e m opens u o. block_formed xs body ls ps around returns w b e m opens u o;
  }

  -- ---- the induction

  abbrev steps_of : Decl → Steps g.Reported
  steps_of = steps g elaborates ends

  abbrev block_of : Block → ChecksBlock g.Reported
  block_of = checks_block g elaborates ends

  abbrev PD : Decl → Steps g.Reported → Type 0
  PD d x = IsStep g elaborates ends x (within_decl d)

  abbrev PB : Block → ChecksBlock g.Reported → Type 0
  PB b c = FormedBlock g ends c (within b)

  abbrev SD : Type 0
  SD = OfDecl g elaborates ends PD PB

  abbrev SB : Type 0
  SB = OfBlock g elaborates ends PD PB

  abbrev stripped : Decl-F SD SB → Decl-F Decl Block
  stripped y = bare g elaborates ends PD PB y

  abbrev stripped_block : Block-F SD SB → Block-F Decl Block
  stripped_block y = bare_block g elaborates ends PD PB y

  are_steps : (xs : List SD) → AreSteps g elaborates ends (map steps_of (map (λ (x : SD). x.0) xs)) (total xs)
  are_steps [] = no_steps
  are_steps (x ∷ xs) = more_steps (steps_of x.0) (map steps_of (map (λ (x : SD). x.0) xs)) (within_decl x.0) (total xs)
      x.1 (are_steps xs)

  step_at : (y : Decl-F SD SB)
      → IsStep g elaborates ends (steps_layer g elaborates ends (opened g elaborates ends (stripped y)))
      (nesting.decl_layer (counted (stripped y)))
  step_at (layer.Constants cs) = constants_step cs
  step_at (layer.Types ts) = types_step ts
  step_at (layer.Variables vs) = variables_step vs
  step_at (layer.Procedure h b) = procedure_step h (block_of b.0) (within b.0) b.1

  block_of_steps : (xs : List SD) (body : Option (List Stmt))
      → FormedBlock g ends (block_layer g elaborates ends
      (record { decls = map steps_of (map (λ (x : SD). x.0) xs); body = body }))
      (fold append_names [] (map within_decl (map (λ (x : SD). x.0) xs)))
  block_of_steps xs body =
      subst (λ (ks : List ℕ). FormedBlock g ends
      (block_layer g elaborates ends (record { decls = map steps_of (map (λ (x : SD). x.0) xs); body = body })) ks)
      (sym (total_is [] xs))
      (of_steps (map steps_of (map (λ (x : SD). x.0) xs)) body (total xs) (are_steps xs))

  decl_step : (y : Decl-F SD SB)
      → PD (roll-Decl (stripped y)) (steps_layer g elaborates ends (opened g elaborates ends (stripped y)))
  decl_step y =
      let x : Decl-F Decl Block = stripped y in
      subst (λ (ks : List ℕ). IsStep g elaborates ends (steps_layer g elaborates ends (opened g elaborates ends x)) ks)
      (sym (count_at (roll-Decl x) x (out-roll-Decl x))) (step_at y)

  block_step : (y : Block-F SD SB)
      → PB (roll-Block (stripped_block y))
      (block_layer g elaborates ends (opened_block g elaborates ends (stripped_block y)))
  block_step y =
      let x : Block-F Decl Block = stripped_block y in
      subst (λ (ks : List ℕ). FormedBlock g ends (block_layer g elaborates ends (opened_block g elaborates ends x)) ks)
      (sym (count_at_block (roll-Block x) x (out-roll-Block x))) (block_of_steps y.decls y.body)

  pub decls_formed : (d : Decl) → PD d (steps_of d)
  decls_formed = all_decls g elaborates ends PD PB decl_step block_step

  pub blocks_formed : (b : Block) → PB b (block_of b)
  blocks_formed = all_blocks g elaborates ends PD PB decl_step block_step
