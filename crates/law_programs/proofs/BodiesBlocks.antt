-- The bodies in a block, one after another.
use Rattle.std.proofs.Common.{◌≡◌, ℕ, suc, ◌+◌, ◌<◌, ◌≤◌, ◌==◌, false, List, [], ◌∷◌, ◌++◌, length, Option, Some, Ok, refl, sym, ap, subst, ◌∙◌, arith}
use Rattle.std.specs.Prelude.{slice_get}
use Rattle.std.specs.List.{fold}
use Rattle.std.specs.Option.{unwrap_or}
use Rattle.m2_tree.specs.declared.decl.Heading.{Heading}
use Rattle.m2_tree.specs.declared.decl.Decl.TheOpen as layer
use Rattle.typed_tree.specs.declared.known_types.Types.{Types}
use Rattle.typed_tree.specs.declared.meaning.Meaning.TheVariants as meaning
use Rattle.typed_tree.specs.declared.shape.Formal.{Formal}
use Rattle.typed_tree.specs.declared.table.Table.{Table}
use Rattle.typed_tree.specs.declared.typed_module.Routine.{Routine}
use Rattle.typed_tree.specs.declared.typed_module.Which.{Which}
use Rattle.typed_tree.specs.declared.types.TypeNo.{TypeNo}
use Rattle.typed_tree.specs.Names.{find_name}
use Rattle.check_scope.specs.Elaborated.{Gathers}
use Rattle.check_scope.specs.declared.known.Known.{Known}
use Rattle.check_scope.specs.declared.known.Known.TheVariants.{Headed}
use Rattle.check_scope.specs.declared.scope.Block.{Block}
use Rattle.check_scope.specs.declared.scope.Scope.{Scope}
use Rattle.check_const.specs.Denote.{exported_meaning}
use Rattle.check_block.specs.Naming.{with_marks}
use Rattle.check_block.specs.Declarations.{Course}
use Rattle.law_modules.specs.WellFormed.{IsRoutine}
use Rattle.check_body.specs.declared.procedure.Walk.{Walk}
use Rattle.check_body.specs.Elaborating.{Elaborates}
use Rattle.check_body.specs.Bodies.{ChecksBlock, Steps, marked_by, declared_by, checked_by, with_body}
use Rattle.law_well_formed.specs.Formed.{Holds}
use Rattle.law_well_formed.specs.FormedBodies.{AreNumbered, Keeps, Adds}
use Rattle.law_well_formed.proofs.Places.{is_within}
use Rattle.law_well_formed.proofs.Parts.{IsStep, constants_step, types_step, variables_step, procedure_step, AreSteps, no_steps, more_steps, numbered_first, numbered_rest, numbered_inner, HeadOf, HeadsIn, RoutineOf, RoutinesIn}
use Rattle.law_well_formed.proofs.Checks.{keeps_then, nested_count, ended}
use Rattle.law_well_formed.proofs.BodiesBlocks.{Order, at_least, less, nat_order, step_own, step_keeps, Here, from, checked_reported, all_keep, all_count, all_add}
use Rattle.law_well_formed.specs.FormedNumbers.{IsNumbered}
use Rattle.law_well_formed.proofs.NumbersDeclarations.{decl_grows, layer_marks}
use Rattle.law_well_formed.proofs.Nested.{NestedBlock, nested_there}
use Rattle.law_programs.specs.Words.{WordsStay}
use Rattle.law_programs.specs.TypingBodies.{Stage, stands, stands_in, StageTyped, BodyTyped, MeaningThere, NamesThere, BlocksThere, HeadingAgrees, ScopeKnown, IsDeep, Serves, AddsTyped, TypedBlock}
use Rattle.law_programs.proofs.Nested.{procedure_known, nested_typed}

module _ (g : Gathers) (elaborates : Elaborates g.Reported) (base : Types) (ends : List ℕ) where
  -- ---- what is known of the parts of a block

  -- procedures are nested, and their blocks typed
  abbrev pub StepTyped : {x : Steps g.Reported} {ks : List ℕ} → IsStep g elaborates ends x ks → Type 0
  StepTyped (constants_step cs) = Unit {0}
  StepTyped (types_step ts) = Unit {0}
  StepTyped (variables_step vs) = Unit {0}
  StepTyped (procedure_step h block ks f) = NestedBlock g ends block ks × TypedBlock g base ends block ks

  abbrev pub AllTyped : {xs : List (Steps g.Reported)} {ls : List ℕ} → AreSteps g elaborates ends xs ls → Type 0
  AllTyped no_steps = Unit {0}
  AllTyped (more_steps x xs ks ls p ps) = StepTyped p × AllTyped ps

  -- headings agree with what is computed where their blocks are entered
  abbrev pub StepAgrees : Scope g.Reported → (seen : ℕ) → {x : Steps g.Reported} {ks : List ℕ}
      → IsStep g elaborates ends x ks → Type 0
  StepAgrees a seen (constants_step cs) = Unit {0}
  StepAgrees a seen (types_step ts) = Unit {0}
  StepAgrees a seen (variables_step vs) = Unit {0}
  StepAgrees a seen (procedure_step h block ks f) = (s : Scope g.Reported) → Keeps a s → s.own ≡ a.own → s.withs ≡ []
      → HeadingAgrees g s seen h

  abbrev pub StepsAgree : Scope g.Reported → List ℕ → (i : ℕ) → {xs : List (Steps g.Reported)} {ls : List ℕ}
      → AreSteps g elaborates ends xs ls → Type 0
  StepsAgree a seen i no_steps = Unit {0}
  StepsAgree a seen i (more_steps x xs ks ls p ps) = StepAgrees a (unwrap_or (slice_get seen i) 0) p
      × StepsAgree a seen (i + 1) ps

  -- ---- numbers of names

  module _ (fs : List Formal) where
    step_marks : {x : Steps g.Reported} {ks : List ℕ} → IsStep g elaborates ends x ks → (s : Scope g.Reported)
        → IsNumbered fs s → IsNumbered fs (marked_by s x)
    step_marks (constants_step cs) s k = (layer_marks fs g {A = Steps g.Reported} {B = ChecksBlock g.Reported} s
        (layer.Constants cs)).numbered k
    step_marks (types_step ts) s k = (layer_marks fs g {A = Steps g.Reported} {B = ChecksBlock g.Reported} s
        (layer.Types ts)).numbered k
    step_marks (variables_step vs) s k = (layer_marks fs g {A = Steps g.Reported} {B = ChecksBlock g.Reported} s
        (layer.Variables vs)).numbered k
    step_marks (procedure_step h block ks f) s k =
        (layer_marks fs g {A = Steps g.Reported} {B = ChecksBlock g.Reported} s (layer.Procedure h block)).numbered k

    pub marks_number : {xs : List (Steps g.Reported)} {ls : List ℕ} → AreSteps g elaborates ends xs ls
        → (st : Scope g.Reported × List ℕ) → IsNumbered fs st.0 → IsNumbered fs (fold (with_marks marked_by) st xs).0
    marks_number no_steps st k = k
    marks_number (more_steps x xs ks ls p ps) st k = marks_number ps (with_marks marked_by st x) (step_marks p st.0 k)

    step_declares : {x : Steps g.Reported} {ks : List ℕ} → IsStep g elaborates ends x ks → (c : Course g.Reported)
        → IsNumbered fs c.0 → IsNumbered fs (declared_by c x).0
    step_declares (constants_step cs) c k =
        (decl_grows fs g {A = Steps g.Reported} {B = ChecksBlock g.Reported} ends c (layer.Constants cs)).numbered k
    step_declares (types_step ts) c k = (decl_grows fs g {A = Steps g.Reported} {B = ChecksBlock g.Reported} ends c
        (layer.Types ts)).numbered k
    step_declares (variables_step vs) c k =
        (decl_grows fs g {A = Steps g.Reported} {B = ChecksBlock g.Reported} ends c (layer.Variables vs)).numbered k
    step_declares (procedure_step h block ks f) c k =
        (decl_grows fs g {A = Steps g.Reported} {B = ChecksBlock g.Reported} ends c (layer.Procedure h block)).numbered
        k

    pub declared_number : {xs : List (Steps g.Reported)} {ls : List ℕ} → AreSteps g elaborates ends xs ls
        → (c : Course g.Reported) → IsNumbered fs c.0 → IsNumbered fs (fold declared_by c xs).0
    declared_number no_steps c k = k
    declared_number (more_steps x xs ks ls p ps) c k = declared_number ps (declared_by c x) (step_declares p c k)

  -- ---- one body

  module _ (words : WordsStay g) (around : Option Which) where
    pub step_known : {x : Steps g.Reported} {ks : List ℕ} (p : IsStep g elaborates ends x ks) → StepTyped p
        → (seen : ℕ) (w : Walk g.Reported) → (checked_by x around seen w).so_far ≡ Ok tt → ScopeKnown base w.scope
        → ScopeKnown base (checked_by x around seen w).scope
    step_known (constants_step cs) b seen w ok k = k
    step_known (types_step ts) b seen w ok k = k
    step_known (variables_step vs) b seen w ok k = k
    step_known (procedure_step h block ks f) b seen w ok k =
        procedure_known g elaborates base words ends h block ks f b.1 around seen w ok k

    step_variables : {x : Steps g.Reported} {ks : List ℕ} (p : IsStep g elaborates ends x ks)
        → (seen : ℕ) (w : Walk g.Reported) → (checked_by x around seen w).scope.variables ≡ w.scope.variables
    step_variables (constants_step cs) seen w = refl
    step_variables (types_step ts) seen w = refl
    step_variables (variables_step vs) seen w = refl
    step_variables (procedure_step h block ks f) seen w = refl

    step_count : {x : Steps g.Reported} {ks : List ℕ} (p : IsStep g elaborates ends x ks)
        → (seen : ℕ) (w : Walk g.Reported) → (w.scope.level == 0) ≡ false → 0 < length w.scope.outer
        → length (checked_by x around seen w).bodies.locals ≡ length w.bodies.locals + length ks
    step_count (constants_step cs) seen w l d = omega arith
    step_count (types_step ts) seen w l d = omega arith
    step_count (variables_step vs) seen w l d = omega arith
    step_count (procedure_step h block ks f) seen w l d = nested_count g elaborates ends h block ks f around seen w l d

    none_typed : (z : Stage) (w : Walk g.Reported) → AddsTyped g z w w
    none_typed z w n r a e = absurd (let b : n < length w.bodies.locals = is_within w.bodies.locals n r e in
        omega (arith, a, b))

    -- behind a block's declarations, in a scope that has the names of this one
    module _ (a : Scope g.Reported) (level : ℕ) where
      abbrev HereAt : Walk g.Reported → ℕ → List ℕ → Type 0
      HereAt w n ls = Here g elaborates ends around a.own a.types level w n ls

      abbrev Head : (n : ℕ) {x : Steps g.Reported} {ks : List ℕ} → IsStep g elaborates ends x ks → Type 0
      Head n p = HeadOf g elaborates ends a.own a.types level n p

      abbrev Heads : (n : ℕ) {xs : List (Steps g.Reported)} {ls : List ℕ} → AreSteps g elaborates ends xs ls → Type 0
      Heads n ps = HeadsIn g elaborates ends a.own a.types level n ps

      head_at : (h : Heading) (n n' : ℕ) (t : TypeNo) (es : List (List ℕ × Known g.Reported)) → es ≡ a.own → n ≡ n'
          → find_name h.name.name a.own ≡ Some
          (Headed (Ok (meaning.LocalProcedure (record { level = level; number = n; heading = t }))))
          → find_name h.name.name es ≡ Some (Headed
          (Ok (meaning.LocalProcedure (record { level = level; number = n'; heading = t }))))
      head_at h n n' t es e c k =
          ap (λ (es : List (List ℕ × Known g.Reported)). find_name h.name.name es) e ∙ k
          ∙ ap (λ (i : ℕ). Some (Headed (Ok (meaning.LocalProcedure
          (record { level = level; number = i; heading = t }))))) c

      -- ---- which procedures stand under the numbers of the block's

      abbrev pub StepStands : List Routine →
          (deep : ℕ) (n : ℕ) {x : Steps g.Reported} {ks : List ℕ} (p : IsStep g elaborates ends x ks) → Head n p
          → Type 0
      StepStands rs deep n (constants_step cs) k = Unit {0}
      StepStands rs deep n (types_step ts) k = Unit {0}
      StepStands rs deep n (variables_step vs) k = Unit {0}
      StepStands rs deep n (procedure_step h block ks f) k = (r : Routine)
          × ((slice_get rs n ≡ Some r) × ((r.heading ≡ k.0) × ((r.around ≡ around) × (r.level ≡ suc deep))))

      abbrev pub AllStand : List Routine → (deep : ℕ) (n : ℕ) {xs : List (Steps g.Reported)} {ls : List ℕ}
          (ps : AreSteps g elaborates ends xs ls) → Heads n ps → Type 0
      AllStand rs deep n no_steps k = Unit {0}
      AllStand rs deep n (more_steps x xs ks ls p ps) k = StepStands rs deep n p k.0
          × AllStand rs deep (n + length ks) ps k.1

      step_stands : {x : Steps g.Reported} {ks : List ℕ} (p : IsStep g elaborates ends x ks) → StepTyped p
          → (seen : ℕ) (w : Walk g.Reported) (n : ℕ) → HereAt w n ks → IsDeep w → (k : Head n p)
          → (checked_by x around seen w).so_far ≡ Ok tt
          → StepStands (checked_by x around seen w).bodies.locals w.scope.level n p k
      step_stands (constants_step cs) b seen w n here d k q = tt
      step_stands (types_step ts) b seen w n here d k q = tt
      step_stands (variables_step vs) b seen w n here d k q = tt
      step_stands (procedure_step h block ks f) b seen w n here d k q =
          subst (λ (i : ℕ). (r : Routine) × ((slice_get
          (ended g elaborates ends h block ks f around seen w).bodies.locals i ≡ Some r)
          × ((r.heading ≡ k.0) × ((r.around ≡ around) × (r.level ≡ suc w.scope.level))))) (sym here.count)
          (nested_there g elaborates ends h block ks f b.0 around seen w here.nested here.deep d level k.0
          (head_at h n (length w.bodies.locals) k.0 w.scope.own here.names here.count k.1.0)
          (subst (λ (i : ℕ). AreNumbered ends (i + 1) ks) here.count
          (numbered_inner ends n (length ks) ks here.numbers)) q)

      stands_later : {x : Steps g.Reported} {ks : List ℕ} (p : IsStep g elaborates ends x ks) (deep n : ℕ)
          (k : Head n p) (rs rs' : List Routine) → ((r : Routine) → slice_get rs n ≡ Some r → slice_get rs' n ≡ Some r)
          → StepStands rs deep n p k → StepStands rs' deep n p k
      stands_later (constants_step cs) deep n k rs rs' e r = tt
      stands_later (types_step ts) deep n k rs rs' e r = tt
      stands_later (variables_step vs) deep n k rs rs' e r = tt
      stands_later (procedure_step h block ks f) deep n k rs rs' e r = (r.0, (e r.0 r.1.0, r.1.1))

      -- they are in another list, where each of them is
      step_routine : (rs rs' : List Routine) (deep first n : ℕ) → first ≤ n
          → ((i : ℕ) (t : TypeNo) (r : Routine) → first ≤ i → slice_get rs i ≡ Some r → r.heading ≡ t
          → r.around ≡ around → r.level ≡ suc deep → IsRoutine rs' i t)
          → {x : Steps g.Reported} {ks : List ℕ} (p : IsStep g elaborates ends x ks) (k : Head n p)
          → StepStands rs deep n p k → RoutineOf g elaborates ends a.own a.types level rs' n p k
      step_routine rs rs' deep first n b e (constants_step cs) k r = tt
      step_routine rs rs' deep first n b e (types_step ts) k r = tt
      step_routine rs rs' deep first n b e (variables_step vs) k r = tt
      step_routine rs rs' deep first n b e (procedure_step h block ks f) k r =
          e n k.0 r.0 b r.1.0 r.1.1.0 r.1.1.1.0 r.1.1.1.1

      pub all_routines : (rs rs' : List Routine) (deep first n : ℕ) → first ≤ n
          → ((i : ℕ) (t : TypeNo) (r : Routine) → first ≤ i → slice_get rs i ≡ Some r → r.heading ≡ t
          → r.around ≡ around → r.level ≡ suc deep → IsRoutine rs' i t)
          → {xs : List (Steps g.Reported)} {ls : List ℕ} (ps : AreSteps g elaborates ends xs ls) (k : Heads n ps)
          → AllStand rs deep n ps k → RoutinesIn g elaborates ends a.own a.types level rs' n ps k
      all_routines rs rs' deep first n b e no_steps k r = tt
      all_routines rs rs' deep first n b e (more_steps x xs ks ls p ps) k r = (
        step_routine rs rs' deep first n b e p k.0 r.0,
        all_routines rs rs' deep first (n + length ks)
            (omega (arith, b)) e ps k.1 r.1,
      )

      -- ---- what one body adds is typed

      module _ (z : Stage) (staged : StageTyped z) where
        step_typed : {x : Steps g.Reported} {ks : List ℕ} (p : IsStep g elaborates ends x ks) → StepTyped p
            → (seen : ℕ) (w : Walk g.Reported) (n : ℕ) → HereAt w n ks → IsDeep w → Keeps a w.scope → Head n p
            → StepAgrees a seen p → (checked_by x around seen w).so_far ≡ Ok tt
            → ScopeKnown base w.scope → Serves g z around w (checked_by x around seen w)
            → NamesThere (stands_in z w.scope.level around) z.opens w.scope.level a.own
            → AddsTyped g z w (checked_by x around seen w)
        step_typed (constants_step cs) b seen w n here d kept k agrees q known u o = none_typed z w
        step_typed (types_step ts) b seen w n here d kept k agrees q known u o = none_typed z w
        step_typed (variables_step vs) b seen w n here d kept k agrees q known u o = none_typed z w
        step_typed (procedure_step h block ks f) b seen w n here d kept k agrees q known u o =
            nested_typed g elaborates base words ends h block ks f b.1 around seen w here.nested here.deep d level k.0
            (head_at h n (length w.bodies.locals) k.0 w.scope.own here.names here.count k.1.0)
            (subst (λ (i : ℕ). AreNumbered ends (i + 1) ks) here.count
            (numbered_inner ends n (length ks) ks here.numbers)) q
            known z staged u (subst (λ (es : List (List ℕ × Known g.Reported)). NamesThere
            (stands_in z w.scope.level around) z.opens w.scope.level es) (sym here.names) o)
            (agrees w.scope kept here.names u.withs)

      -- ---- all of them

      module _ (seen : List ℕ) where
        abbrev next : Walk g.Reported × ℕ → Steps g.Reported → Walk g.Reported × ℕ
        next st x = with_body (λ (x : Steps g.Reported). checked_by x around) seen st x

        abbrev stand : ℕ → ℕ
        stand i = unwrap_or (slice_get seen i) 0

        abbrev behind : Walk g.Reported × ℕ → List (Steps g.Reported) → Walk g.Reported
        behind st xs = from g elaborates ends around seen st xs

        pub all_known : {xs : List (Steps g.Reported)} {ls : List ℕ} (ps : AreSteps g elaborates ends xs ls)
            → AllTyped ps → (st : Walk g.Reported × ℕ) → (behind st xs).so_far ≡ Ok tt → ScopeKnown base st.0.scope
            → ScopeKnown base (behind st xs).scope
        all_known no_steps b st q k = k
        all_known (more_steps x xs ks ls p ps) b st q k =
            all_known ps b.1 (next st x) q (step_known p b.0 (stand st.1) st.0
            (checked_reported g elaborates ends around seen ps (next st x) q) k)

        pub all_variables : {xs : List (Steps g.Reported)} {ls : List ℕ} (ps : AreSteps g elaborates ends xs ls)
            (st : Walk g.Reported × ℕ) → (behind st xs).scope.variables ≡ st.0.scope.variables
        all_variables no_steps st = refl
        all_variables (more_steps x xs ks ls p ps) st = all_variables ps (next st x)
            ∙ step_variables p (stand st.1) st.0

        count_next : {x : Steps g.Reported} {ks : List ℕ} (p : IsStep g elaborates ends x ks) (ls : List ℕ)
            (st : Walk g.Reported × ℕ) (n : ℕ) → HereAt st.0 n (ks ++ ls)
            → length (next st x).0.bodies.locals ≡ length st.0.bodies.locals + length ks
        count_next p ls st n h = step_count p (stand st.1) st.0 h.nested (let d = h.deep in omega (arith, d))

        here_first : {ks : List ℕ} (ls : List ℕ) (st : Walk g.Reported × ℕ) (n : ℕ) → HereAt st.0 n (ks ++ ls)
            → HereAt st.0 n ks
        here_first {ks = ks} ls st n h = record {
          names = h.names;
          nested = h.nested;
          deep = h.deep;
          count = h.count;
          numbers = numbered_first ends n ks ls h.numbers;
          grown = h.grown;
        }

        here_next : {x : Steps g.Reported} {ks : List ℕ} (p : IsStep g elaborates ends x ks) (ls : List ℕ)
            (st : Walk g.Reported × ℕ) (n : ℕ) → HereAt st.0 n (ks ++ ls) → HereAt (next st x).0 (n + length ks) ls
        here_next {ks = ks} p ls st n h =
            let k = step_keeps g elaborates ends around p (stand st.1) st.0 in
            record {
              names = step_own g elaborates ends around p (stand st.1) st.0 ∙ h.names;
              nested = ap (λ (n : ℕ). n == 0) k.level ∙ h.nested;
              deep = subst (λ (bs : List (Block g.Reported)). 1 < length bs) (sym k.outer) h.deep;
              count = let c = count_next p ls st n h in let e = h.count in omega (arith, c, e);
              numbers = numbered_rest ends n ks ls h.numbers;
              grown = λ t y e. k.types t y (h.grown t y e);
            }

        deep_next : {x : Steps g.Reported} {ks : List ℕ} (p : IsStep g elaborates ends x ks) (st : Walk g.Reported × ℕ)
            → IsDeep st.0 → IsDeep (next st x).0
        deep_next p st d =
            let k = step_keeps g elaborates ends around p (stand st.1) st.0 in
            ap (λ (bs : List (Block g.Reported)). length bs) k.outer ∙ d ∙ ap suc (sym k.level)

        pub all_stand : {xs : List (Steps g.Reported)} {ls : List ℕ} (ps : AreSteps g elaborates ends xs ls)
            → AllTyped ps → (st : Walk g.Reported × ℕ) (n : ℕ) → HereAt st.0 n ls → IsDeep st.0 → (k : Heads n ps)
            → (behind st xs).so_far ≡ Ok tt
            → AllStand (behind st xs).bodies.locals st.0.scope.level n ps k
        all_stand no_steps b st n h d k q = tt
        all_stand (more_steps x xs ks ls p ps) b st n h d k q =
            let here = here_next p ls st n h in
            let later = all_add g elaborates ends around seen a.own a.types level ps (next st x) (n + length ks) here
            k.1 q in (
              stands_later p st.0.scope.level n k.0 (next st x).0.bodies.locals (behind st (x ∷ xs)).bodies.locals
                  (λ r e. later.below n (is_within (next st x).0.bodies.locals n r e) ∙ e)
                  (step_stands p b.0 (stand st.1) st.0 n (here_first ls st n h) d k.0
                  (checked_reported g elaborates ends around seen ps (next st x) q)),
              subst (λ (l : ℕ). AllStand (behind st (x ∷ xs)).bodies.locals l (n + length ks) ps k.1)
                  (step_keeps g elaborates ends around p (stand st.1) st.0).level
                  (all_stand ps b.1 (next st x) (n + length ks) here (deep_next p st d) k.1 q),
            )

        -- ---- what they add is typed

        module _ (z : Stage) (staged : StageTyped z) where
          pub serves_first : (u v w : Walk g.Reported) → Keeps v.scope w.scope → Adds v w
              → length v.bodies.locals ≤ length w.bodies.locals → Serves g z around u w → Serves g z around u v
          serves_first u v w k p grows s = record {
            home = s.home;
            types = λ t y e. s.types t y (k.types t y e);
            locals = λ n e f. s.locals n e (omega (arith, f, grows)) ∙ p.below n f;
            members = s.members;
            outer = s.outer;
            withs = s.withs;
          }

          pub serves_rest : (u v w : Walk g.Reported) → Keeps u.scope v.scope
              → length u.bodies.locals ≤ length v.bodies.locals → Serves g z around u w → Serves g z around v w
          serves_rest u v w k grows s = record {
            home = k.home ∙ s.home;
            types = s.types;
            locals = λ n e f. s.locals n (omega (arith, e, grows)) f;
            members = λ i name e. subst (λ (ts : List Table). Holds (MeaningThere (stands z []) z.opens 0)
                (exported_meaning g ts i name)) (sym k.tables) (s.members i name e);
            outer = subst (λ (l : ℕ). BlocksThere (stands_in z l around) z.opens l v.scope.outer) (sym k.level)
                (subst (λ (bs : List (Block g.Reported)). BlocksThere (stands_in z u.scope.level around) z.opens
                u.scope.level bs) (sym k.outer) s.outer);
            withs = k.withs ∙ s.withs;
          }

          typed_by : (u v w : Walk g.Reported) → Adds v w → AddsTyped g z u v → AddsTyped g z v w
              → (n : ℕ) (r : Routine) → length u.bodies.locals ≤ n → slice_get w.bodies.locals n ≡ Some r
              → Order (length v.bodies.locals) n → BodyTyped z r
          typed_by u v w d p q n r e f (at_least o) = q n r o f
          typed_by u v w d p q n r e f (less o) = p n r e (sym (d.below n o) ∙ f)

          pub all_typed : {xs : List (Steps g.Reported)} {ls : List ℕ} (ps : AreSteps g elaborates ends xs ls)
              → AllTyped ps → (st : Walk g.Reported × ℕ) (n : ℕ) → HereAt st.0 n ls → IsDeep st.0 → Keeps a st.0.scope
              → Heads n ps → StepsAgree a seen st.1 ps
              → (behind st xs).so_far ≡ Ok tt → ScopeKnown base st.0.scope → Serves g z around st.0 (behind st xs)
              → NamesThere (stands_in z st.0.scope.level around) z.opens st.0.scope.level a.own
              → AddsTyped g z st.0 (behind st xs)
          all_typed no_steps b st n h d kept k agrees q known s o = none_typed z st.0
          all_typed (more_steps x xs ks ls p ps) b st n h d kept k agrees q known s o =
              let here = here_next p ls st n h in
              let one = next st x in
              let all : Walk g.Reported = behind st (x ∷ xs) in
              let adds = all_add g elaborates ends around seen a.own a.types level ps one (n + length ks) here k.1 q in
              let keeps = all_keep g elaborates ends around seen ps one in
              let step = step_keeps g elaborates ends around p (stand st.1) st.0 in
              let reported = checked_reported g elaborates ends around seen ps one q in
              let c = count_next p ls st n h in
              let e = all_count g elaborates ends around seen ps one here.nested (let e = here.deep in omega (arith, e))
              in
              λ i r f y. typed_by st.0 one.0 all adds
              (step_typed z staged p b.0 (stand st.1) st.0 n (here_first ls st n h) d kept k.0 agrees.0 reported known
              (serves_first st.0 one.0 all keeps adds (omega (arith, e)) s) o)
              (all_typed ps b.1 one (n + length ks) here (deep_next p st d) (keeps_then kept step) k.1 agrees.1 q
              (step_known p b.0 (stand st.1) st.0 reported known)
              (serves_rest st.0 one.0 all step (omega (arith, c)) s)
              (subst (λ (l : ℕ). NamesThere (stands_in z l around) z.opens l a.own) (sym step.level) o))
              i r f y (nat_order (length one.0.bodies.locals) i)
