-- The procedures of a block, one after another, and blocks in blocks.
use Rattle.std.proofs.Common.{◌≡◌, ℕ, suc, ◌+◌, ◌<◌, ◌≤◌, ◌==◌, false, List, [], ◌∷◌, ◌++◌, length, Option, Some, Ok, refl, sym, ap, subst, ◌∙◌, arith}
use Rattle.std.specs.Prelude.{map, slice_get}
use Rattle.std.specs.List.{fold}
use Rattle.std.specs.Option.{unwrap_or}
use Rattle.m2_tree.specs.declared.stmt.Stmt.{Stmt}
use Rattle.m2_tree.specs.declared.decl.Heading.{Heading}
use Rattle.m2_tree.specs.declared.decl.Decl.{Decl, Decl-F, roll-Decl, out-roll-Decl}
use Rattle.m2_tree.specs.declared.decl.Decl.TheOpen as layer
use Rattle.m2_tree.specs.declared.decl.Block.{Block, Block-F, roll-Block, out-roll-Block}
use Rattle.typed_tree.specs.declared.known_types.Types.{Types}
use Rattle.typed_tree.specs.declared.meaning.Meaning.TheVariants as meaning
use Rattle.typed_tree.specs.declared.typed_module.Routine.{Routine}
use Rattle.typed_tree.specs.declared.typed_module.TypedModule.{TypedModule}
use Rattle.typed_tree.specs.declared.typed_module.Which.{Which}
use Rattle.typed_tree.specs.declared.types.TypeNo.{TypeNo}
use Rattle.typed_tree.specs.Names.{find_name}
use Rattle.check_scope.specs.Elaborated.{Gathers}
use Rattle.check_scope.specs.declared.known.Known.{Known}
use Rattle.check_scope.specs.declared.known.Known.TheVariants.{Headed}
use Rattle.check_scope.specs.declared.scope.Block.{Block as Around}
use Rattle.check_scope.specs.declared.scope.Scope.{Scope}
use Rattle.check_definition.specs.Again.{Passing}
use Rattle.check_block.specs.Naming.{with_marks}
use Rattle.check_block.specs.Nesting as nesting
use Rattle.check_block.specs.Nesting.{append_names, within_decl, within}
use Rattle.check_block.specs.Declarations.{Course}
use Rattle.check_body.specs.declared.procedure.Walk.{Walk}
use Rattle.check_body.specs.Elaborating.{Elaborates}
use Rattle.check_body.specs.Bodies.{ChecksBlock, Steps, checked_by, marked_by, declared_by, again_by, with_body, steps_layer, block_layer, steps, checks_block}
use Rattle.law_well_formed.proofs.BodyFolds.{OfDecl, OfBlock, bare, bare_block, opened, opened_block, all_decls, all_blocks, counted, count_at, count_at_block, total, total_is}
use Rattle.law_well_formed.specs.FormedBodies.{AreNumbered, FormsStatements, Keeps, Adds, Begins}
use Rattle.law_well_formed.proofs.Places.{is_within}
use Rattle.law_well_formed.proofs.Parts.{IsStep, constants_step, types_step, variables_step, procedure_step, AreSteps, no_steps, more_steps, numbered_first, numbered_rest, numbered_inner, nothing_at, no_home, nothing_open, all_marks, all_again, all_lead, HeadsIn, heads_in}
use Rattle.law_well_formed.proofs.Checks.{keeps_then, leads_keeps, nested_count}
use Rattle.law_well_formed.proofs.BodiesBlocks.{Order, at_least, less, nat_order, step_own, step_keeps, Here, HeadAt, HeadsAt, from, checked_reported, all_add}
use Rattle.law_well_formed.proofs.Induction.{blocks_formed}
use Rattle.law_well_formed.proofs.Nested.{Nests, in_block, in_other, AddsNests, IsDeep, NestedBlock, nested_nests}

nests_from : (around : Option Which) (level : ℕ) (first first' : ℕ) (rs : List Routine) (r : Routine) → first ≤ first'
    → Nests rs first' around level r → Nests rs first around level r
nests_from around level first first' rs r le (in_block p q) = in_block p q
nests_from around level first first' rs r le (in_other k x a e p q) = in_other k x (omega (arith, le, a)) e p q

module _ {T : Type 0} where
  adds_none : (around : Option Which) (w : Walk T) → AddsNests around w w
  adds_none around w n r a e = absurd (let b : n < length w.bodies.locals = is_within w.bodies.locals n r e in
      omega (arith, a, b))

  -- what was added before is there behind what is added then
  nests_on : (around : Option Which) (level first : ℕ) (b c : Walk T) (r : Routine) → Adds b c
      → Nests b.bodies.locals first around level r → Nests c.bodies.locals first around level r
  nests_on around level first b c r d (in_block p q) = in_block p q
  nests_on around level first b c r d (in_other k x a e p q) =
      in_other k x a (d.below k (is_within b.bodies.locals k x e) ∙ e) p q

  nests_by : (around : Option Which) (a b c : Walk T) → length a.bodies.locals ≤ length b.bodies.locals
      → b.scope.level ≡ a.scope.level → Adds b c → AddsNests around a b → AddsNests around b c
      → (n : ℕ) (r : Routine) → length a.bodies.locals ≤ n → slice_get c.bodies.locals n ≡ Some r
      → Order (length b.bodies.locals) n → Nests c.bodies.locals (length a.bodies.locals) around a.scope.level r
  nests_by around a b c grows same d p q n r e f (at_least z) =
      nests_from around a.scope.level (length a.bodies.locals) (length b.bodies.locals) c.bodies.locals r grows
      (subst (λ (l : ℕ). Nests c.bodies.locals (length b.bodies.locals) around l r) same (q n r z f))
  nests_by around a b c grows same d p q n r e f (less z) =
      nests_on around a.scope.level (length a.bodies.locals) b c r d (p n r e (sym (d.below n z) ∙ f))

  nests_then : (around : Option Which) (a b c : Walk T) → length a.bodies.locals ≤ length b.bodies.locals
      → b.scope.level ≡ a.scope.level → Adds b c → AddsNests around a b → AddsNests around b c → AddsNests around a c
  nests_then around a b c grows same d p q n r e f =
      nests_by around a b c grows same d p q n r e f (nat_order (length b.bodies.locals) n)

-- ---- declarations

module _ (g : Gathers) (elaborates : Elaborates g.Reported) (ends : List ℕ) where
  abbrev pub StepNests : {x : Steps g.Reported} {ks : List ℕ} → IsStep g elaborates ends x ks → Type 0
  StepNests (constants_step cs) = Unit {0}
  StepNests (types_step ts) = Unit {0}
  StepNests (variables_step vs) = Unit {0}
  StepNests (procedure_step h block ks f) = NestedBlock g ends block ks

  abbrev pub AllNest : {xs : List (Steps g.Reported)} {ls : List ℕ} → AreSteps g elaborates ends xs ls → Type 0
  AllNest no_steps = Unit {0}
  AllNest (more_steps x xs ks ls p ps) = StepNests p × AllNest ps

module _ (g : Gathers) (elaborates : Elaborates g.Reported) (ends : List ℕ) (around : Option Which) where
  module _ (own : List (List ℕ × Known g.Reported)) (types : Types) (level : ℕ) where
    abbrev HereAt : Walk g.Reported → ℕ → List ℕ → Type 0
    HereAt w n ls = Here g elaborates ends around own types level w n ls

    head_at : (h : Heading) (n n' : ℕ) (t : TypeNo) (es : List (List ℕ × Known g.Reported)) → es ≡ own → n ≡ n'
        → find_name h.name.name own ≡ Some (Headed
        (Ok (meaning.LocalProcedure (record { level = level; number = n; heading = t }))))
        → find_name h.name.name es ≡ Some (Headed
        (Ok (meaning.LocalProcedure (record { level = level; number = n'; heading = t }))))
    head_at h n n' t es e c k =
        ap (λ (es : List (List ℕ × Known g.Reported)). find_name h.name.name es) e ∙ k
        ∙ ap (λ (i : ℕ). Some (Headed (Ok (meaning.LocalProcedure
        (record { level = level; number = i; heading = t }))))) c

    step_nests : {x : Steps g.Reported} {ks : List ℕ} (p : IsStep g elaborates ends x ks)
        → StepNests g elaborates ends p → (seen : ℕ) (w : Walk g.Reported) (n : ℕ) → HereAt w n ks → IsDeep w
        → HeadAt g elaborates ends around own types level n p
        → (checked_by x around seen w).so_far ≡ Ok tt → AddsNests around w (checked_by x around seen w)
    step_nests (constants_step cs) b seen w n here d k q = adds_none around w
    step_nests (types_step ts) b seen w n here d k q = adds_none around w
    step_nests (variables_step vs) b seen w n here d k q = adds_none around w
    step_nests (procedure_step h block ks f) b seen w n here d k q =
        nested_nests g elaborates ends h block ks f b around seen w here.nested here.deep d level k.0
        (head_at h n (length w.bodies.locals) k.0 w.scope.own here.names here.count k.1.0)
        (subst (λ (i : ℕ). AreNumbered ends (i + 1) ks) here.count (numbered_inner ends n (length ks) ks here.numbers))
        q

    step_count : {x : Steps g.Reported} {ks : List ℕ} (p : IsStep g elaborates ends x ks)
        → (seen : ℕ) (w : Walk g.Reported) → (w.scope.level == 0) ≡ false → 0 < length w.scope.outer
        → length (checked_by x around seen w).bodies.locals ≡ length w.bodies.locals + length ks
    step_count (constants_step cs) seen w l d = omega arith
    step_count (types_step ts) seen w l d = omega arith
    step_count (variables_step vs) seen w l d = omega arith
    step_count (procedure_step h block ks f) seen w l d = nested_count g elaborates ends h block ks f around seen w l d

    module _ (seen : List ℕ) where
      abbrev next : Walk g.Reported × ℕ → Steps g.Reported → Walk g.Reported × ℕ
      next st x = with_body (λ (x : Steps g.Reported). checked_by x around) seen st x

      abbrev stands : ℕ → ℕ
      stands i = unwrap_or (slice_get seen i) 0

      count_next : {x : Steps g.Reported} {ks : List ℕ} (p : IsStep g elaborates ends x ks) (ls : List ℕ)
          (st : Walk g.Reported × ℕ) (n : ℕ) → HereAt st.0 n (ks ++ ls)
          → length (next st x).0.bodies.locals ≡ length st.0.bodies.locals + length ks
      count_next p ls st n h = step_count p (stands st.1) st.0 h.nested (let d = h.deep in omega (arith, d))

      here_first : {ks : List ℕ} (ls : List ℕ) (st : Walk g.Reported × ℕ) (n : ℕ) → HereAt st.0 n (ks ++ ls)
          → HereAt st.0 n ks
      here_first {ks = ks} ls st n h = record {
        names = h.names;
        nested = h.nested;
        deep = h.deep;
        count = h.count;
        numbers = numbered_first ends n ks ls h.numbers;
        grown = h.grown;
      }

      here_next : {x : Steps g.Reported} {ks : List ℕ} (p : IsStep g elaborates ends x ks) (ls : List ℕ)
          (st : Walk g.Reported × ℕ) (n : ℕ) → HereAt st.0 n (ks ++ ls) → HereAt (next st x).0 (n + length ks) ls
      here_next {ks = ks} p ls st n h =
          let k = step_keeps g elaborates ends around p (stands st.1) st.0 in
          record {
            names = step_own g elaborates ends around p (stands st.1) st.0 ∙ h.names;
            nested = ap (λ (n : ℕ). n == 0) k.level ∙ h.nested;
            deep = subst (λ (bs : List (Around g.Reported)). 1 < length bs) (sym k.outer) h.deep;
            count = let c = count_next p ls st n h in let e = h.count in omega (arith, c, e);
            numbers = numbered_rest ends n ks ls h.numbers;
            grown = λ t y e. k.types t y (h.grown t y e);
          }

      deep_next : {x : Steps g.Reported} {ks : List ℕ} (p : IsStep g elaborates ends x ks) (st : Walk g.Reported × ℕ)
          → IsDeep st.0 → IsDeep (next st x).0
      deep_next p st d =
          let k = step_keeps g elaborates ends around p (stands st.1) st.0 in
          ap (λ (bs : List (Around g.Reported)). length bs) k.outer ∙ d ∙ ap suc (sym k.level)

      pub all_nest : {xs : List (Steps g.Reported)} {ls : List ℕ} (ps : AreSteps g elaborates ends xs ls)
          → AllNest g elaborates ends ps → (st : Walk g.Reported × ℕ) (n : ℕ) → HereAt st.0 n ls → IsDeep st.0
          → HeadsAt g elaborates ends around own types level n ps
          → (from g elaborates ends around seen st xs).so_far ≡ Ok tt
          → AddsNests around st.0 (from g elaborates ends around seen st xs)
      all_nest no_steps bs st n h d k q = adds_none around st.0
      all_nest (more_steps x xs ks ls p ps) bs st n h d k q =
          nests_then around st.0 (next st x).0 (from g elaborates ends around seen st (x ∷ xs))
          (let c = count_next p ls st n h in omega (arith, c))
          (step_keeps g elaborates ends around p (stands st.1) st.0).level
          (all_add g elaborates ends around seen own types level ps (next st x) (n + length ks) (here_next p ls st n h)
          k.1 q)
          (step_nests p bs.0 (stands st.1) st.0 n (here_first ls st n h) d k.0
          (checked_reported g elaborates ends around seen ps (next st x) q))
          (all_nest ps bs.1 (next st x) (n + length ks) (here_next p ls st n h) (deep_next p st d) k.1 q)

module _ (g : Gathers) (elaborates : Elaborates g.Reported) (forms : FormsStatements g elaborates) (ends : List ℕ) where
  -- ---- a block, whose parts are known

  module _ (xs : List (Steps g.Reported)) (body : Option (List Stmt)) (ls : List ℕ)
      (ps : AreSteps g elaborates ends xs ls) (bs : AllNest g elaborates ends ps) (around : Option Which)
      (w : Walk g.Reported) where
    abbrev marks : Scope g.Reported × List ℕ
    marks = fold (with_marks marked_by) (w.scope, []) xs

    abbrev course : Course g.Reported
    course = fold declared_by (marks.0, w.so_far, length w.bodies.locals) xs

    abbrev passing : Passing g.Reported
    passing = fold (again_by course.0) (course.1, length w.scope.own) xs

    abbrev start : Walk g.Reported
    start = record { scope = course.0; so_far = passing.0; bodies = w.bodies }

    abbrev end : Walk g.Reported
    end = from g elaborates ends around marks.1 (start, 0) xs

    abbrev other : TypedModule
    other = nothing_at marks.0.types.home

    start_keeps : Keeps w.scope start.scope
    start_keeps =
        keeps_then (leads_keeps other nothing_open (all_marks g elaborates ends other nothing_open ps (w.scope, [])))
        (leads_keeps other nothing_open (all_lead g elaborates ends other nothing_open ps
        (marks.0, w.so_far, length w.bodies.locals) (no_home marks.0.types.home)))

    block_nests : Begins ends w ls → IsDeep w → end.so_far ≡ Ok tt → AddsNests around w end
    block_nests begins d ok n r a e =
        let lead = all_marks g elaborates ends other nothing_open ps (w.scope, []) in
        let reported = all_again g elaborates ends ps course.0 (course.1, length w.scope.own)
        (checked_reported g elaborates ends around marks.1 ps (start, 0) ok) in
        let heads : HeadsIn g elaborates ends course.0.own course.0.types marks.0.level (length w.bodies.locals) ps =
        heads_in g elaborates ends course.0.own course.0.types marks.0.level ps
        (marks.0, w.so_far, length w.bodies.locals) course.0 refl refl refl refl
        (ap (λ (n : ℕ). n == 0) lead.level ∙ begins.level) (λ name. lead.awaits name (begins.awaits name))
        begins.numbers reported in
        let here : Here g elaborates ends around course.0.own course.0.types marks.0.level start
        (length w.bodies.locals) ls = record {
          names = refl;
          nested = ap (λ (n : ℕ). n == 0) start_keeps.level ∙ begins.level;
          deep = subst (λ (bs : List (Around g.Reported)). 1 < length bs) (sym start_keeps.outer) begins.deep;
          count = refl;
          numbers = begins.numbers;
          grown = λ t y e. e;
        } in
        let deep : IsDeep start = ap (λ (bs : List (Around g.Reported)). length bs) start_keeps.outer ∙ d
        ∙ ap suc (sym start_keeps.level) in
        subst (λ (l : ℕ). Nests end.bodies.locals (length w.bodies.locals) around l r) start_keeps.level
        (all_nest g elaborates ends around course.0.own course.0.types marks.0.level marks.1 ps bs (start, 0)
        (length w.bodies.locals) here deep heads ok n r a e)

  of_steps : (xs : List (Steps g.Reported)) (body : Option (List Stmt)) (ls : List ℕ)
      (ps : AreSteps g elaborates ends xs ls) → AllNest g elaborates ends ps
      → NestedBlock g ends (block_layer g elaborates ends (record { decls = xs; body = body })) ls
  of_steps xs body ls ps bs = record { nests = λ around returns w b d e. block_nests xs body ls ps bs around w b d e }

  -- ---- the induction

  abbrev steps_of : Decl → Steps g.Reported
  steps_of = steps g elaborates ends

  abbrev block_of : Block → ChecksBlock g.Reported
  block_of = checks_block g elaborates ends

  -- the parts of a block, known to be steps that nest
  pub record IsNesting (x : Steps g.Reported) (ks : List ℕ) : Type 0 where
    pub step : IsStep g elaborates ends x ks
    pub nests : StepNests g elaborates ends step

  abbrev PD : Decl → Steps g.Reported → Type 0
  PD d x = IsNesting x (within_decl d)

  abbrev PB : Block → ChecksBlock g.Reported → Type 0
  PB b c = NestedBlock g ends c (within b)

  abbrev SD : Type 0
  SD = OfDecl g elaborates ends PD PB

  abbrev SB : Type 0
  SB = OfBlock g elaborates ends PD PB

  abbrev stripped : Decl-F SD SB → Decl-F Decl Block
  stripped y = bare g elaborates ends PD PB y

  abbrev stripped_block : Block-F SD SB → Block-F Decl Block
  stripped_block y = bare_block g elaborates ends PD PB y

  are_steps : (xs : List SD) → AreSteps g elaborates ends (map steps_of (map (λ (x : SD). x.0) xs)) (total xs)
  are_steps [] = no_steps
  are_steps (x ∷ xs) = more_steps (steps_of x.0) (map steps_of (map (λ (x : SD). x.0) xs)) (within_decl x.0) (total xs)
      x.1.step (are_steps xs)

  they_nest : (xs : List SD) → AllNest g elaborates ends (are_steps xs)
  unfolding are_steps
  they_nest [] = tt
  they_nest (x ∷ xs) = (x.1.nests, they_nest xs)

  step_at : (y : Decl-F SD SB)
      → IsNesting (steps_layer g elaborates ends (opened g elaborates ends (stripped y)))
      (nesting.decl_layer (counted (stripped y)))
  step_at (layer.Constants cs) = record { step = constants_step cs; nests = tt }
  step_at (layer.Types ts) = record { step = types_step ts; nests = tt }
  step_at (layer.Variables vs) = record { step = variables_step vs; nests = tt }
  step_at (layer.Procedure h b) = record {
    step =
        procedure_step h (block_of b.0) (within b.0) (blocks_formed g elaborates forms ends b.0);
    nests = b.1;
  }

  block_of_steps : (xs : List SD) (body : Option (List Stmt))
      → NestedBlock g ends (block_layer g elaborates ends
      (record { decls = map steps_of (map (λ (x : SD). x.0) xs); body = body }))
      (fold append_names [] (map within_decl (map (λ (x : SD). x.0) xs)))
  block_of_steps xs body =
      subst (λ (ks : List ℕ). NestedBlock g ends
      (block_layer g elaborates ends (record { decls = map steps_of (map (λ (x : SD). x.0) xs); body = body })) ks)
      (sym (total_is [] xs))
      (of_steps (map steps_of (map (λ (x : SD). x.0) xs)) body (total xs) (are_steps xs) (they_nest xs))

  decl_step : (y : Decl-F SD SB)
      → PD (roll-Decl (stripped y)) (steps_layer g elaborates ends (opened g elaborates ends (stripped y)))
  decl_step y =
      let x : Decl-F Decl Block = stripped y in
      subst (λ (ks : List ℕ). IsNesting (steps_layer g elaborates ends (opened g elaborates ends x)) ks)
      (sym (count_at (roll-Decl x) x (out-roll-Decl x))) (step_at y)

  block_step : (y : Block-F SD SB)
      → PB (roll-Block (stripped_block y))
      (block_layer g elaborates ends (opened_block g elaborates ends (stripped_block y)))
  block_step y =
      let x : Block-F Decl Block = stripped_block y in
      subst (λ (ks : List ℕ). NestedBlock g ends (block_layer g elaborates ends (opened_block g elaborates ends x)) ks)
      (sym (count_at_block (roll-Block x) x (out-roll-Block x))) (block_of_steps y.decls y.body)

  pub decls_nest : (d : Decl) → PD d (steps_of d)
  decls_nest = all_decls g elaborates ends PD PB decl_step block_step

  pub blocks_nest : (b : Block) → PB b (block_of b)
  blocks_nest = all_blocks g elaborates ends PD PB decl_step block_step
