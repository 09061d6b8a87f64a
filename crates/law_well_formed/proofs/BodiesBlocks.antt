-- The bodies in a block, one after another, and the block itself.
use Rattle.std.proofs.Common.{◌≡◌, ℕ, zero, suc, ◌+◌, ◌<◌, ◌≤◌, ◌==◌, Bool, false, List, ◌∷◌, ◌++◌, length, Option, Some, Ok, refl, sym, ap, subst, ◌∙◌, arith}
use Rattle.std.specs.Prelude.{slice_get}
use Rattle.std.specs.List.{fold}
use Rattle.std.specs.Option.{unwrap_or}
use Rattle.std.proofs.lemmas.List.{length-append}
use Rattle.m2_tree.specs.declared.decl.Heading.{Heading}
use Rattle.typed_tree.specs.declared.known_types.Types.{Types}
use Rattle.typed_tree.specs.declared.meaning.Meaning.TheVariants as meaning
use Rattle.typed_tree.specs.declared.table.Table.{Table}
use Rattle.typed_tree.specs.declared.shape.Made.{Made}
use Rattle.typed_tree.specs.declared.typed_module.Routine.{Routine}
use Rattle.typed_tree.specs.declared.typed_module.TypedModule.{TypedModule}
use Rattle.typed_tree.specs.declared.typed_module.Which.{Which}
use Rattle.typed_tree.specs.declared.types.TypeNo.{TypeNo}
use Rattle.typed_tree.specs.Known.{made_at}
use Rattle.typed_tree.specs.Names.{find_name}
use Rattle.check_scope.specs.Elaborated.{Gathers}
use Rattle.check_scope.specs.declared.known.Known.{Known}
use Rattle.check_scope.specs.declared.known.Known.TheVariants.{Headed}
use Rattle.check_scope.specs.declared.scope.Block.{Block}
use Rattle.check_const.specs.Denote.{exported_meaning}
use Rattle.law_modules.specs.WellFormed.{IsRoutine, IsBody}
use Rattle.law_well_formed.specs.Formed.{Holds, FormedMeaning}
use Rattle.law_well_formed.specs.FormedScopes.{AreFormedNames, AreFormedBlocks}
use Rattle.check_body.specs.declared.procedure.Walk.{Walk}
use Rattle.check_body.specs.Elaborating.{Elaborates}
use Rattle.check_body.specs.Bodies.{ChecksBlock, Steps, checked_by, with_body, procedure_checked}
use Rattle.law_well_formed.specs.FormedBodies.{AreNumbered, Keeps, Adds, Suits, AddsFormed, FormedBlock}
use Rattle.law_well_formed.proofs.Places.{is_within}
use Rattle.law_well_formed.proofs.Parts.{IsStep, constants_step, types_step, variables_step, procedure_step, AreSteps, no_steps, more_steps, numbered_first, numbered_rest, numbered_inner, HeadOf, HeadsIn, RoutineOf, RoutinesIn}
use Rattle.law_well_formed.proofs.Checks.{keeps_refl, keeps_then, procedure_own, procedure_keeps, procedure_reported, nested_count, nested_routine, nested_adds, nested_formed}

pub data Order (n k : ℕ) : Type 0 where
  at_least : n ≤ k → Order n k
  less : k < n → Order n k

pub nat_order : (n k : ℕ) → Order n k
nat_order zero k = at_least (omega arith)
nat_order (suc n) zero = less (omega arith)
nat_order (suc n) (suc k) = next (nat_order n k) where
  next : Order n k → Order (suc n) (suc k)
  next (at_least e) = at_least (omega (arith, e))
  next (less e) = less (omega (arith, e))

module _ (g : Gathers) (elaborates : Elaborates g.Reported) (ends : List ℕ) (around : Option Which) where
  -- ---- one declaration

  pub step_own : {x : Steps g.Reported} {ks : List ℕ} → IsStep g elaborates ends x ks → (seen : ℕ) (w : Walk g.Reported)
      → (checked_by x around seen w).scope.own ≡ w.scope.own
  step_own (constants_step cs) seen w = refl
  step_own (types_step ts) seen w = refl
  step_own (variables_step vs) seen w = refl
  step_own (procedure_step h block ks f) seen w = procedure_own g elaborates ends h block ks f around seen w

  pub step_keeps : {x : Steps g.Reported} {ks : List ℕ} → IsStep g elaborates ends x ks
      → (seen : ℕ) (w : Walk g.Reported) → Keeps w.scope (checked_by x around seen w).scope
  step_keeps (constants_step cs) seen w = keeps_refl w.scope
  step_keeps (types_step ts) seen w = keeps_refl w.scope
  step_keeps (variables_step vs) seen w = keeps_refl w.scope
  step_keeps (procedure_step h block ks f) seen w = procedure_keeps g elaborates ends h block ks f around seen w

  pub step_reported : {x : Steps g.Reported} {ks : List ℕ} → IsStep g elaborates ends x ks
      → (seen : ℕ) (w : Walk g.Reported) → (checked_by x around seen w).so_far ≡ Ok tt → w.so_far ≡ Ok tt
  step_reported (constants_step cs) seen w e = e
  step_reported (types_step ts) seen w e = e
  step_reported (variables_step vs) seen w e = e
  step_reported (procedure_step h block ks f) seen w e =
      procedure_reported g elaborates ends h block ks f around seen w e

  step_count : {x : Steps g.Reported} {ks : List ℕ} → IsStep g elaborates ends x ks → (seen : ℕ) (w : Walk g.Reported)
      → (w.scope.level == 0) ≡ false → 0 < length w.scope.outer
      → length (checked_by x around seen w).bodies.locals ≡ length w.bodies.locals + length ks
  step_count (constants_step cs) seen w l d = omega arith
  step_count (types_step ts) seen w l d = omega arith
  step_count (variables_step vs) seen w l d = omega arith
  step_count (procedure_step h block ks f) seen w l d = nested_count g elaborates ends h block ks f around seen w l d

  adds_none : (w : Walk g.Reported) → Adds w w
  adds_none w = record { procedures = refl; below = λ n e. refl; nested = λ n a b. absurd (omega (arith, a, b)) }

  none_formed : (m : TypedModule) (opens : ℕ → Bool) (w : Walk g.Reported) → AddsFormed g m opens w w
  none_formed m opens w n r a e = absurd (let b : n < length w.bodies.locals = is_within w.bodies.locals n r e in
      omega (arith, a, b))

  module _ (own : List (List ℕ × Known g.Reported)) (types : Types) (level : ℕ) where
    -- what holds where a walk goes on
    pub record Here (w : Walk g.Reported) (n : ℕ) (ls : List ℕ) : Type 0 where
      pub names : w.scope.own ≡ own
      pub nested : (w.scope.level == 0) ≡ false
      pub deep : 1 < length w.scope.outer
      pub count : n ≡ length w.bodies.locals
      pub numbers : AreNumbered ends n ls
      pub grown : (t : TypeNo) (y : Made) → made_at types t ≡ Some y → made_at w.scope.types t ≡ Some y

    abbrev pub HeadAt : (n : ℕ) {x : Steps g.Reported} {ks : List ℕ} → IsStep g elaborates ends x ks → Type 0
    HeadAt n p = HeadOf g elaborates ends own types level n p

    abbrev pub RoutineAt : List Routine → (n : ℕ) {x : Steps g.Reported} {ks : List ℕ}
        (p : IsStep g elaborates ends x ks) → HeadAt n p → Type 0
    RoutineAt rs n p k = RoutineOf g elaborates ends own types level rs n p k

    abbrev pub HeadsAt : (n : ℕ) {xs : List (Steps g.Reported)} {ls : List ℕ} → AreSteps g elaborates ends xs ls
        → Type 0
    HeadsAt n ps = HeadsIn g elaborates ends own types level n ps

    abbrev pub RoutinesAt : List Routine →
        (n : ℕ) {xs : List (Steps g.Reported)} {ls : List ℕ} (ps : AreSteps g elaborates ends xs ls) → HeadsAt n ps
        → Type 0
    RoutinesAt rs n ps k = RoutinesIn g elaborates ends own types level rs n ps k

    head_at : (h : Heading) (n n' : ℕ) (t : TypeNo) (es : List (List ℕ × Known g.Reported)) → es ≡ own → n ≡ n'
        → find_name h.name.name own ≡ Some (Headed
        (Ok (meaning.LocalProcedure (record { level = level; number = n; heading = t }))))
        → find_name h.name.name es ≡ Some (Headed
        (Ok (meaning.LocalProcedure (record { level = level; number = n'; heading = t }))))
    head_at h n n' t es e c k =
        ap (λ (es : List (List ℕ × Known g.Reported)). find_name h.name.name es) e ∙ k
        ∙ ap (λ (i : ℕ). Some (Headed (Ok (meaning.LocalProcedure
        (record { level = level; number = i; heading = t }))))) c

    module _ (h : Heading) (block : ChecksBlock g.Reported) (ks : List ℕ) (f : FormedBlock g ends block ks) (seen : ℕ)
        (w : Walk g.Reported) (n : ℕ) (here : Here w n (length ks ∷ ks)) where
      inner_numbers : AreNumbered ends (length w.bodies.locals + 1) ks
      inner_numbers = subst (λ (i : ℕ). AreNumbered ends (i + 1) ks) here.count
          (numbered_inner ends n (length ks) ks here.numbers)

    step_adds : {x : Steps g.Reported} {ks : List ℕ} (p : IsStep g elaborates ends x ks)
        → (seen : ℕ) (w : Walk g.Reported) (n : ℕ) → Here w n ks → HeadAt n p
        → (checked_by x around seen w).so_far ≡ Ok tt → Adds w (checked_by x around seen w)
    step_adds (constants_step cs) seen w n here k q = adds_none w
    step_adds (types_step ts) seen w n here k q = adds_none w
    step_adds (variables_step vs) seen w n here k q = adds_none w
    step_adds (procedure_step h block ks f) seen w n here k q =
        nested_adds g elaborates ends h block ks f around seen w here.nested here.deep level k.0
        (head_at h n (length w.bodies.locals) k.0 w.scope.own here.names here.count k.1.0)
        (inner_numbers h block ks f seen w n here) q

    step_routine : {x : Steps g.Reported} {ks : List ℕ} (p : IsStep g elaborates ends x ks)
        → (seen : ℕ) (w : Walk g.Reported) (n : ℕ) → Here w n ks → (k : HeadAt n p)
        → (checked_by x around seen w).so_far ≡ Ok tt → RoutineAt (checked_by x around seen w).bodies.locals n p k
    step_routine (constants_step cs) seen w n here k q = tt
    step_routine (types_step ts) seen w n here k q = tt
    step_routine (variables_step vs) seen w n here k q = tt
    step_routine (procedure_step h block ks f) seen w n here k q =
        subst (λ (i : ℕ). IsRoutine (procedure_checked g elaborates ends h block around seen w).bodies.locals i k.0)
        (sym here.count)
        (nested_routine g elaborates ends h block ks f around seen w here.nested here.deep level k.0
        (head_at h n (length w.bodies.locals) k.0 w.scope.own here.names here.count k.1.0)
        (inner_numbers h block ks f seen w n here) q)

    step_formed : {x : Steps g.Reported} {ks : List ℕ} (p : IsStep g elaborates ends x ks)
        → (seen : ℕ) (w : Walk g.Reported) (n : ℕ) → Here w n ks → HeadAt n p
        → (checked_by x around seen w).so_far ≡ Ok tt
        → (m : TypedModule) (opens : ℕ → Bool) → Suits g m opens w (checked_by x around seen w)
        → AreFormedNames m opens w.scope.own → AddsFormed g m opens w (checked_by x around seen w)
    step_formed (constants_step cs) seen w n here k q m opens u o = none_formed m opens w
    step_formed (types_step ts) seen w n here k q m opens u o = none_formed m opens w
    step_formed (variables_step vs) seen w n here k q m opens u o = none_formed m opens w
    step_formed (procedure_step h block ks f) seen w n here k q m opens u o =
        nested_formed g elaborates ends h block ks f around seen w here.nested here.deep level k.0
        (head_at h n (length w.bodies.locals) k.0 w.scope.own here.names here.count k.1.0)
        (inner_numbers h block ks f seen w n here) q
        types k.1.1 here.grown m opens u o

  -- ---- all of them

  module _ (seen : List ℕ) where
    abbrev pub from : Walk g.Reported × ℕ → List (Steps g.Reported) → Walk g.Reported
    from st xs = (fold (with_body (λ (x : Steps g.Reported). checked_by x around) seen) st xs).0

    abbrev next : Walk g.Reported × ℕ → Steps g.Reported → Walk g.Reported × ℕ
    next st x = with_body (λ (x : Steps g.Reported). checked_by x around) seen st x

    abbrev stands : ℕ → ℕ
    stands i = unwrap_or (slice_get seen i) 0

    pub all_own : {xs : List (Steps g.Reported)} {ls : List ℕ} → AreSteps g elaborates ends xs ls
        → (st : Walk g.Reported × ℕ) → (from st xs).scope.own ≡ st.0.scope.own
    all_own no_steps st = refl
    all_own (more_steps x xs ks ls p ps) st = all_own ps (next st x) ∙ step_own p (stands st.1) st.0

    pub all_keep : {xs : List (Steps g.Reported)} {ls : List ℕ} → AreSteps g elaborates ends xs ls
        → (st : Walk g.Reported × ℕ) → Keeps st.0.scope (from st xs).scope
    all_keep no_steps st = keeps_refl st.0.scope
    all_keep (more_steps x xs ks ls p ps) st = keeps_then (step_keeps p (stands st.1) st.0) (all_keep ps (next st x))

    pub checked_reported : {xs : List (Steps g.Reported)} {ls : List ℕ} → AreSteps g elaborates ends xs ls
        → (st : Walk g.Reported × ℕ) → (from st xs).so_far ≡ Ok tt → st.0.so_far ≡ Ok tt
    checked_reported no_steps st e = e
    checked_reported (more_steps x xs ks ls p ps) st e =
        step_reported p (stands st.1) st.0 (checked_reported ps (next st x) e)

    pub all_count : {xs : List (Steps g.Reported)} {ls : List ℕ} → AreSteps g elaborates ends xs ls
        → (st : Walk g.Reported × ℕ) → (st.0.scope.level == 0) ≡ false → 0 < length st.0.scope.outer
        → length (from st xs).bodies.locals ≡ length st.0.bodies.locals + length ls
    all_count no_steps st l d = omega arith
    all_count (more_steps x xs ks ls p ps) st l d =
        let k = step_keeps p (stands st.1) st.0 in
        let a = step_count p (stands st.1) st.0 l d in
        let b = all_count ps (next st x) (ap (λ (n : ℕ). n == 0) k.level ∙ l)
        (subst (λ (bs : List (Block g.Reported)). 0 < length bs) (sym k.outer) d) in
        let c : length (ks ++ ls) ≡ length ks + length ls = length-append ks ls in
        omega (arith, a, b, c)

    module _ (own : List (List ℕ × Known g.Reported)) (types : Types) (level : ℕ) where
      count_next : {x : Steps g.Reported} {ks : List ℕ} (p : IsStep g elaborates ends x ks) (ls : List ℕ)
          (st : Walk g.Reported × ℕ) (n : ℕ) → Here own types level st.0 n (ks ++ ls)
          → length (next st x).0.bodies.locals ≡ length st.0.bodies.locals + length ks
      count_next p ls st n h = step_count p (stands st.1) st.0 h.nested (let d = h.deep in omega (arith, d))

      here_first : {ks : List ℕ} (ls : List ℕ) (st : Walk g.Reported × ℕ) (n : ℕ)
          → Here own types level st.0 n (ks ++ ls) → Here own types level st.0 n ks
      here_first {ks = ks} ls st n h = record {
        names = h.names;
        nested = h.nested;
        deep = h.deep;
        count = h.count;
        numbers = numbered_first ends n ks ls h.numbers;
        grown = h.grown;
      }

      here_next : {x : Steps g.Reported} {ks : List ℕ} (p : IsStep g elaborates ends x ks) (ls : List ℕ)
          (st : Walk g.Reported × ℕ) (n : ℕ) → Here own types level st.0 n (ks ++ ls)
          → Here own types level (next st x).0 (n + length ks) ls
      here_next {ks = ks} p ls st n h =
          let k = step_keeps p (stands st.1) st.0 in
          record {
            names = step_own p (stands st.1) st.0 ∙ h.names;
            nested = ap (λ (n : ℕ). n == 0) k.level ∙ h.nested;
            deep = subst (λ (bs : List (Block g.Reported)). 1 < length bs) (sym k.outer) h.deep;
            count = let c = count_next p ls st n h in let e = h.count in omega (arith, c, e);
            numbers = numbered_rest ends n ks ls h.numbers;
            grown = λ t y e. k.types t y (h.grown t y e);
          }

      adds_by : (a b c : Walk g.Reported) → Adds a b → Adds b c → (n : ℕ) → length a.bodies.locals ≤ n
          → n < length c.bodies.locals → Order (length b.bodies.locals) n → (r : Routine)
          × ((slice_get c.bodies.locals n ≡ Some r) × (1 < r.level))
      adds_by a b c p q n e f (at_least z) = q.nested n z f
      adds_by a b c p q n e f (less z) = let r = p.nested n e z in (r.0, (q.below n z ∙ r.1.0, r.1.1))

      adds_then : (a b c : Walk g.Reported) → length a.bodies.locals ≤ length b.bodies.locals → Adds a b → Adds b c
          → Adds a c
      adds_then a b c grows p q = record {
        procedures = q.procedures ∙ p.procedures;
        below = λ n e. q.below n (omega (arith, e, grows)) ∙ p.below n e;
        nested = λ n e f. adds_by a b c p q n e f (nat_order (length b.bodies.locals) n);
      }

      pub all_add : {xs : List (Steps g.Reported)} {ls : List ℕ} (ps : AreSteps g elaborates ends xs ls)
          (st : Walk g.Reported × ℕ) (n : ℕ) → Here own types level st.0 n ls → HeadsAt own types level n ps
          → (from st xs).so_far ≡ Ok tt → Adds st.0 (from st xs)
      all_add no_steps st n h k q = adds_none st.0
      all_add (more_steps x xs ks ls p ps) st n h k q =
          adds_then st.0 (next st x).0 (from st (x ∷ xs)) (let c = count_next p ls st n h in omega (arith, c))
          (step_adds own types level p (stands st.1) st.0 n (here_first ls st n h) k.0
          (checked_reported ps (next st x) q))
          (all_add ps (next st x) (n + length ks) (here_next p ls st n h) k.1 q)

      routine_later : {x : Steps g.Reported} {ks : List ℕ} (p : IsStep g elaborates ends x ks) (n : ℕ)
          (k : HeadAt own types level n p) (rs rs' : List Routine)
          → ((r : Routine) → slice_get rs n ≡ Some r → slice_get rs' n ≡ Some r)
          → RoutineAt own types level rs n p k → RoutineAt own types level rs' n p k
      routine_later (constants_step cs) n k rs rs' e r = tt
      routine_later (types_step ts) n k rs rs' e r = tt
      routine_later (variables_step vs) n k rs rs' e r = tt
      routine_later (procedure_step h block ks f) n k rs rs' e r = (r.0, e r.0 r.1, r.2)

      pub all_routines : {xs : List (Steps g.Reported)} {ls : List ℕ} (ps : AreSteps g elaborates ends xs ls)
          (st : Walk g.Reported × ℕ) (n : ℕ) → Here own types level st.0 n ls → (k : HeadsAt own types level n ps)
          → (from st xs).so_far ≡ Ok tt → RoutinesAt own types level (from st xs).bodies.locals n ps k
      all_routines no_steps st n h k q = tt
      all_routines (more_steps x xs ks ls p ps) st n h k q =
          let later = all_add ps (next st x) (n + length ks) (here_next p ls st n h) k.1 q in (
            routine_later p n k.0 (next st x).0.bodies.locals (from st (x ∷ xs)).bodies.locals
                (λ r e. later.below n (is_within (next st x).0.bodies.locals n r e) ∙ e)
                (step_routine own types level p (stands st.1) st.0 n (here_first ls st n h) k.0
                (checked_reported ps (next st x) q)),
            all_routines ps (next st x) (n + length ks) (here_next p ls st n h) k.1 q,
          )

      -- ---- what is added is well formed

      module _ (m : TypedModule) (opens : ℕ → Bool) where
        pub suits_first : (a b c : Walk g.Reported) → Keeps b.scope c.scope → Adds b c
            → length b.bodies.locals ≤ length c.bodies.locals → Suits g m opens a c → Suits g m opens a b
        suits_first a b c k p grows u = record {
          home = u.home;
          types = λ t x e. u.types t x (k.types t x e);
          locals = λ n e f. u.locals n e (omega (arith, f, grows)) ∙ p.below n f;
          members = u.members;
          outer = u.outer;
          withs = u.withs;
        }

        pub suits_rest : (a b c : Walk g.Reported) → Keeps a.scope b.scope
            → length a.bodies.locals ≤ length b.bodies.locals → Suits g m opens a c → Suits g m opens b c
        suits_rest a b c k grows u = record {
          home = k.home ∙ u.home;
          types = u.types;
          locals = λ n e f. u.locals n (omega (arith, e, grows)) f;
          members = λ i name e. subst (λ (ts : List Table). Holds (FormedMeaning m opens 0)
              (exported_meaning g ts i name)) (sym k.tables) (u.members i name e);
          outer = subst (λ (bs : List (Block g.Reported)). AreFormedBlocks m opens bs) (sym k.outer) u.outer;
          withs = k.withs ∙ u.withs;
        }

        formed_by : (a b c : Walk g.Reported) → Adds b c → AddsFormed g m opens a b → AddsFormed g m opens b c
            → (n : ℕ) (r : Routine) → length a.bodies.locals ≤ n → slice_get c.bodies.locals n ≡ Some r
            → Order (length b.bodies.locals) n → IsBody m r
        formed_by a b c d p q n r e f (at_least z) = q n r z f
        formed_by a b c d p q n r e f (less z) = p n r e (sym (d.below n z) ∙ f)

        pub all_formed_in : {xs : List (Steps g.Reported)} {ls : List ℕ} (ps : AreSteps g elaborates ends xs ls)
            (st : Walk g.Reported × ℕ) (n : ℕ) → Here own types level st.0 n ls → HeadsAt own types level n ps
            → (from st xs).so_far ≡ Ok tt
            → Suits g m opens st.0 (from st xs) → AreFormedNames m opens own → AddsFormed g m opens st.0 (from st xs)
        all_formed_in no_steps st n h k q u o = none_formed m opens st.0
        all_formed_in (more_steps x xs ks ls p ps) st n h k q u o =
            let here = here_next p ls st n h in
            let one = next st x in
            let all : Walk g.Reported = from st (x ∷ xs) in
            let adds = all_add ps one (n + length ks) here k.1 q in
            let keeps = all_keep ps one in
            let c = count_next p ls st n h in
            let d = all_count ps one here.nested (let e = here.deep in omega (arith, e)) in
            λ i r e f. formed_by st.0 one.0 all adds
            (step_formed own types level p (stands st.1) st.0 n (here_first ls st n h) k.0 (checked_reported ps one q) m
            opens
            (suits_first st.0 one.0 all keeps adds (omega (arith, d)) u)
            (subst (λ (es : List (List ℕ × Known g.Reported)). AreFormedNames m opens es) (sym h.names) o))
            (all_formed_in ps one (n + length ks) here k.1 q
            (suits_rest st.0 one.0 all (step_keeps p (stands st.1) st.0) (omega (arith, c)) u) o)
            i r e f (nat_order (length one.0.bodies.locals) i)
