-- The arms of a CASE by a table stand each behind the end of a block: where the jump leads, and what comes of it.
use Rattle.std.proofs.Common.{◌≡◌, ℕ, zero, suc, ◌+◌, ℤ, Bool, true, false, List, [], ◌∷◌, ◌++◌, length, None, if◌then◌else◌, refl, sym, ap, subst, ◌∙◌, arith}
use Rattle.std.specs.List.{list_any}
use Rattle.wasm_tree.specs.declared.instr.Instr.{Instr}
use Rattle.wasm_tree.specs.declared.instr.Instr.TheVariants as instr
use Rattle.wasm_tree.specs.declared.store.Value.{Value}
use Rattle.law_effect.specs.Effect.{State as Target, Effect, FellThrough, Branched, then_run, out_of}
use Rattle.law_effect.proofs.Steps.{block_runs, br_runs}
use Rattle.def_meaning.specs.Answer.{State as Source, Ended, StillRunning}
use Rattle.def_meaning.specs.Outcome.{Outcome, Normal, Exited, Returned}
use Rattle.def_meaning.specs.Answer as answer
use Rattle.def_meaning.specs.Statements as meaning
use Rattle.def_meaning.specs.Statements.{Does, is_labelled, choose_arm}
use Rattle.def_scheme.specs.Coded.{Coded, Counts}
use Rattle.def_scheme.specs.Steps as code
use Rattle.def_scheme.specs.Steps.{jump_arms, target}
use Rattle.law_simulation.specs.Scene.{Scene, calls, runs, Stands, Grows, IsFree, HasLocals, inside, Ends, Executes}
use Rattle.law_simulation.specs.Laws.{AreArms, no_arms, more_arms}
use Rattle.law_simulation.proofs.Parts.{grows_more, grows_same, has_before, free_after}
use Rattle.law_simulation.proofs.Loops.{label_here}
use Rattle.law_simulation.proofs.Statements.{through_block, alone}

-- a sum that computes on its first number
abbrev plus : ℕ → ℕ → ℕ
plus zero n = n
plus (suc m) n = suc (plus m n)

plus_is : (m n : ℕ) → plus m n ≡ m + n
plus_is zero n = omega arith
plus_is (suc m) n = ap suc (plus_is m n) ∙ omega arith

label_is : (left e : ℕ) → e + (left + 2) ≡ plus left (suc (suc e))
label_is left e = sym (plus_is left (suc (suc e)) ∙ omega arith)

-- where the run is among the arms that are left: on its way to the arm of this number, or past an arm that ended so
data Pick : Type 0 where
  To : ℕ → Pick
  Past : Outcome → Pick

module _ (k : Scene) (function : Bool) (e : ℕ) (stack : List Value) (s : Source) (st : Target) (stands : Stands k s st)
  where
    -- so many blocks of arms are left around the code
    abbrev Pends : (left : ℕ) → Effect → Pick → Type 0
    Pends left r (To j) = r ≡ Branched j st stack
    Pends left r (Past o) = Ends k function (plus left (suc (suc e))) stack (λ st. Branched (suc left) st stack) r o

    abbrev passed : Outcome → Pick → Pick
    passed o (To zero) = Past o
    passed o (To (suc j)) = To j
    passed o (Past p) = Past p

    -- out of the block in front of an arm
    abbrev behind_block : List Instr → Effect → Effect
    behind_block list r = then_run (out_of 0 (length stack) r) (runs k list)

    past_arm : (left : ℕ) (r : Effect) (o : Outcome) (list : List Instr) → Pends (suc left) r (Past o)
        → Pends left (behind_block list r) (Past o)
    past_arm left r (answer.Value Normal s') list p =
        record { st = p.st; stands = p.stands; run = ap (behind_block list) p.run }
    past_arm left r (answer.Value Exited s') list p =
        record { st = p.st; stands = p.stands; run = ap (behind_block list) p.run }
    past_arm left r (answer.Value (Returned v) s') list p =
        record { below = p.below; st = p.st; stands = p.stands; run = ap (behind_block list) p.run }
    past_arm left r (Ended j out) list p = ap (behind_block list) p
    past_arm left r (StillRunning out) list p = ap (behind_block list) p

    one_arm : (left : ℕ) (r : Effect) (p : Pick) (list : List Instr) (o : Outcome)
        → Pends left (runs k list st stack) (Past o) → Pends (suc left) r p
        → Pends left (behind_block list r) (passed o p)
    one_arm left r (To zero) list o arm p =
        subst (λ (x : Effect). Pends left x (Past o))
        (sym (ap (behind_block list) p ∙ ap (λ (x : Effect). then_run x (runs k list))
        (label_here st stack FellThrough))) arm
    one_arm left r (To (suc j)) list o arm p = ap (behind_block list) p
    one_arm left r (Past q) list o arm p = past_arm left r q list p

    -- an arm ends by a branch out of the block around all
    arm_leaves : (exit left : ℕ) (r : Effect) (o : Outcome)
        → Ends k function exit stack (λ st. runs k (instr.Br (left + 1) ∷ []) st stack) r o
        → Ends k function exit stack (λ st. Branched (suc left) st stack) r o
    arm_leaves exit left r (answer.Value Normal s') p =
        record {
          st = p.st;
          stands = p.stands;
          run = p.run
              ∙ br_runs k.modules k.fixed k.turns (calls k) k.own [] p.st (left + 1) stack
              ∙ ap (λ (n : ℕ). Branched n p.st stack) (omega arith);
        }
    arm_leaves exit left r (answer.Value Exited s') p = p
    arm_leaves exit left r (answer.Value (Returned v) s') p = p
    arm_leaves exit left r (Ended j out) p = p
    arm_leaves exit left r (StillRunning out) p = p

    abbrev all_passed : List meaning.Arm → Pick → Pick
    all_passed [] p = p
    all_passed (y ∷ ys) p = all_passed ys (passed (y.does k.around s) p)

    -- the code of one arm behind what leads to it
    abbrev with_arm : (left : ℕ) → code.Arm → Coded → Coded
    with_arm left x inner setting c =
        let i = inner setting c in
        let a = x.code (record setting { exit = setting.exit + (left + 2) }) i.1 in
        (instr.Block None i.0 ∷ (a.0 ++ instr.Br (left + 1) ∷ []), a.1)

    jumps_grow : (xs : List code.Arm) (ys : List meaning.Arm) → AreArms k function xs ys → (inner : Coded) (c : Counts)
        → Grows (inner (inside k e) c).1 (jump_arms xs inner (inside k e) c).1
    jumps_grow [] [] no_arms inner c = grows_same (inner (inside k e) c).1
    jumps_grow _ _ (more_arms labels x xs d ys hl hx hs) inner c =
        let arm : code.Arm = record { labels = labels; code = x } in
        grows_more (hx.grows (e + (length xs + 2)) (inner (inside k e) c).1)
        (jumps_grow xs ys hs (with_arm (length xs) arm inner) c)

    jumps_go : (xs : List code.Arm) (ys : List meaning.Arm) → AreArms k function xs ys
        → (inner : Coded) (c : Counts) (p : Pick) → IsFree k (inner (inside k e) c).1
        → HasLocals k (jump_arms xs inner (inside k e) c).1
        → Pends (length xs) (runs k (inner (inside k e) c).0 st stack) p
        → Pends 0 (runs k (jump_arms xs inner (inside k e) c).0 st stack) (all_passed ys p)
    jumps_go [] [] no_arms inner c p free full h = h
    jumps_go _ _ (more_arms labels x xs d ys hl hx hs) inner c p free full h =
        let arm : code.Arm = record { labels = labels; code = x } in
        let left : ℕ = length xs in
        let i = inner (inside k e) c in
        let a = x (inside k (e + (left + 2))) i.1 in
        let list : List Instr = a.0 ++ instr.Br (left + 1) ∷ [] in
        let grown : Grows i.1 a.1 = hx.grows (e + (left + 2)) i.1 in
        let full_here : HasLocals k a.1 = has_before k (jumps_grow xs ys hs (with_arm left arm inner) c) full in
        let here : Pends left (runs k list st stack) (Past (d k.around s)) =
        subst (λ (n : ℕ). Ends k function n stack (λ st. Branched (suc left) st stack) (runs k list st stack)
        (d k.around s)) (label_is left e)
        (arm_leaves (e + (left + 2)) left (runs k list st stack) (d k.around s)
        (hx.goes (e + (left + 2)) i.1 free full_here s st stands (instr.Br (left + 1) ∷ []) stack))
        in
        let after : Pends left (runs k (instr.Block None i.0 ∷ list) st stack) (passed (d k.around s) p) =
        subst (λ (r : Effect). Pends left r (passed (d k.around s) p))
        (sym (block_runs k.modules k.fixed k.turns (calls k) k.own list st None i.0 stack))
        (one_arm left (runs k i.0 st stack) p list (d k.around s) here h)
        in
        jumps_go xs ys hs (with_arm left arm inner) c (passed (d k.around s) p) (free_after k grown free) full after

    -- ---- the jump goes to an arm, or past all

    abbrev IsSettled : Pick → Type 0
    IsSettled (To zero) = Unit {0}
    IsSettled (To (suc j)) = ⊥
    IsSettled (Past o) = Unit {0}

    module _ (other : Does) where
      abbrev settled : Pick → Outcome
      settled (To j) = other k.around s
      settled (Past o) = o

      past_all : (ys : List meaning.Arm) (o : Outcome) → all_passed ys (Past o) ≡ Past o
      past_all [] o = refl
      past_all (y ∷ ys) o = past_all ys o

      module _ (v : ℤ) where
        is_settled : (xs : List code.Arm) (ys : List meaning.Arm) → AreArms k function xs ys
            → IsSettled (all_passed ys (To (target xs v)))
        is_settled [] [] no_arms = tt
        is_settled _ _ (more_arms labels x xs d ys hl hx hs) =
            by (is_settled xs ys hs) (list_any (is_labelled v) labels)
          where
            by : IsSettled (all_passed ys (To (target xs v))) → (b : Bool)
                → IsSettled (all_passed ys (passed (d k.around s) (To (if b then 0 else suc (target xs v)))))
            by later true = subst IsSettled (sym (past_all ys (d k.around s))) tt
            by later false = later

        settled_is : (xs : List code.Arm) (ys : List meaning.Arm) → AreArms k function xs ys
            → settled (all_passed ys (To (target xs v))) ≡ choose_arm v ys other k.around s
        settled_is [] [] no_arms = refl
        settled_is _ _ (more_arms labels x xs d ys hl hx hs) =
            by (settled_is xs ys hs) (list_any (is_labelled v) labels)
          where
            by : settled (all_passed ys (To (target xs v))) ≡ choose_arm v ys other k.around s → (b : Bool)
                → settled (all_passed ys (passed (d k.around s) (To (if b then 0 else suc (target xs v)))))
                ≡ (if b then d else choose_arm v ys other) k.around s
            by later true = ap settled (past_all ys (d k.around s))
            by later false = later

      -- out of the block in front of ELSE, and out of that around all
      module _ (rest others : List Instr) where
        abbrev out_of_all : Effect → Effect
        out_of_all r = then_run (out_of 0 (length stack) (then_run (out_of 0 (length stack) r) (runs k others)))
            (runs k rest)

        ends_all : (r : Effect) (p : Pick) → IsSettled p → Pends 0 r p
            → Ends k function (suc e) stack (λ st. FellThrough st stack) (runs k others st stack) (other k.around s)
            → Ends k function e stack (λ st. runs k rest st stack) (out_of_all r) (settled p)
        ends_all r (To zero) is p last =
            subst (λ (x : Effect). Ends k function e stack (λ st. runs k rest st stack) x (other k.around s))
            (sym (ap out_of_all p ∙ ap (λ (x : Effect). then_run
            (out_of 0 (length stack) (then_run x (runs k others))) (runs k rest)) (label_here st stack FellThrough)))
            (through_block k function e rest stack (runs k others st stack) (other k.around s) last)
        ends_all r (To (suc j)) is p last = absurd is
        ends_all r (Past (answer.Value Normal s')) is p last = record {
          st = p.st;
          stands = p.stands;
          run = ap out_of_all p.run ∙ ap (λ (x : Effect). then_run x (runs k rest)) (label_here p.st stack FellThrough);
        }
        ends_all r (Past (answer.Value Exited s')) is p last =
            record { st = p.st; stands = p.stands; run = ap out_of_all p.run }
        ends_all r (Past (answer.Value (Returned v) s')) is p last =
            record { below = p.below; st = p.st; stands = p.stands; run = ap out_of_all p.run }
        ends_all r (Past (Ended j out)) is p last = ap out_of_all p
        ends_all r (Past (StillRunning out)) is p last = ap out_of_all p

    -- a jump to the arm of a value, or past all of them, and what stands behind ELSE
    pub table_goes : (xs : List code.Arm) (ys : List meaning.Arm) (otherwise : Coded) (other : Does)
        → AreArms k function xs ys → Executes k function otherwise other → (v : ℤ) (inner : List Instr) (c : Counts)
        → IsFree k c
        → (let j = jump_arms xs (λ setting c. (inner, c)) (inside k e) c in
        HasLocals k (otherwise (inside k (e + 1)) j.1).1)
        → runs k inner st stack ≡ Branched (target xs v) st stack → (rest : List Instr)
        → (let j = jump_arms xs (λ setting c. (inner, c)) (inside k e) c in
        let o = otherwise (inside k (e + 1)) j.1 in
        Ends k function e stack (λ st. runs k rest st stack)
        (runs k (instr.Block None (instr.Block None j.0 ∷ o.0) ∷ rest) st stack) (choose_arm v ys other k.around s))
    table_goes xs ys otherwise other hs ho v inner c free full jump rest =
        let plainly : Coded = λ setting c. (inner, c) in
        let j = jump_arms xs plainly (inside k e) c in
        let o = otherwise (inside k (e + 1)) j.1 in
        let free_here : IsFree k j.1 = free_after k (jumps_grow xs ys hs plainly c) free in
        let full_here : HasLocals k j.1 = has_before k (ho.grows (e + 1) j.1) full in
        let pends : Pends 0 (runs k j.0 st stack) (all_passed ys (To (target xs v))) =
        jumps_go xs ys hs plainly c (To (target xs v)) free full_here jump in
        let last : Ends k function (suc e) stack (λ st. FellThrough st stack) (runs k o.0 st stack) (other k.around s) =
        subst (λ (n : ℕ). Ends k function n stack (λ st. FellThrough st stack) (runs k o.0 st stack) (other k.around s))
        (omega arith) (alone k function otherwise other ho (e + 1) j.1 free_here full s st stands stack)
        in
        let path : runs k (instr.Block None (instr.Block None j.0 ∷ o.0) ∷ rest) st stack
        ≡ out_of_all other rest o.0 (runs k j.0 st stack) =
        block_runs k.modules k.fixed k.turns (calls k) k.own rest st None (instr.Block None j.0 ∷ o.0) stack
        ∙ ap (λ (r : Effect). then_run (out_of 0 (length stack) r) (runs k rest))
        (block_runs k.modules k.fixed k.turns (calls k) k.own o.0 st None j.0 stack)
        in
        subst (λ (r : Effect). Ends k function e stack (λ st. runs k rest st stack) r
        (choose_arm v ys other k.around s))
        (sym path)
        (subst (λ (x : Outcome). Ends k function e stack (λ st. runs k rest st stack)
        (out_of_all other rest o.0 (runs k j.0 st stack)) x) (settled_is other v xs ys hs)
        (ends_all other rest o.0 (runs k j.0 st stack) (all_passed ys (To (target xs v))) (is_settled other v xs ys hs)
        pends last))
