-- Parts of a block: what each comes to in the walks over it.
use Rattle.std.proofs.Common.{◌≡◌, ℕ, suc, ◌+◌, ◌≤◌, ◌==◌, Bool, false, List, [], ◌∷◌, ◌++◌, length, Option, Some, None, Ok, Err, refl, sym, ap, subst, ◌∙◌, arith}
use Rattle.std.specs.Prelude.{slice_get}
use Rattle.std.specs.List.{fold}
use Rattle.std.specs.Option.{unwrap_or}
use Rattle.m2_tree.specs.declared.decl.Constant.{Constant}
use Rattle.m2_tree.specs.declared.decl.TypeDecl.{TypeDecl}
use Rattle.m2_tree.specs.declared.decl.Variables.{Variables}
use Rattle.m2_tree.specs.declared.decl.Heading.{Heading}
use Rattle.m2_tree.specs.declared.decl.Decl.TheOpen as layer
use Rattle.typed_tree.specs.declared.known_types.Types.{Types}
use Rattle.typed_tree.specs.declared.meaning.Meaning.{Meaning}
use Rattle.typed_tree.specs.declared.meaning.Meaning.TheVariants as meaning
use Rattle.typed_tree.specs.declared.typed_module.Routine.{Routine}
use Rattle.typed_tree.specs.declared.typed_module.TypedModule.{TypedModule}
use Rattle.typed_tree.specs.declared.types.TypeNo.{TypeNo}
use Rattle.typed_tree.specs.Known.{made_at}
use Rattle.typed_tree.specs.Names.{find_name}
use Rattle.check_scope.specs.Elaborated.{Gathers}
use Rattle.check_scope.specs.declared.known.Known.{Known}
use Rattle.check_scope.specs.declared.known.Known.TheVariants.{Later, Ahead, Begun, Headed, Declared}
use Rattle.check_scope.specs.declared.scope.Scope.{Scope}
use Rattle.check_definition.specs.Again.{Passing}
use Rattle.check_block.specs.Nesting.{number_behind}
use Rattle.check_block.specs.Naming.{with_marks}
use Rattle.check_block.specs.Declarations.{Course}
use Rattle.law_modules.specs.WellFormed.{IsRoutine}
use Rattle.law_folds.proofs.AgainSteps.{again_reports}
use Rattle.law_well_formed.specs.FormedScopes.{holds_of, is_awaiting, FormedOwn, Leads}
use Rattle.law_well_formed.proofs.ScopesGrowth.{leads_refl, leads_then}
use Rattle.law_well_formed.proofs.ScopesDeclarations.{ResultIs, decl_leads, layer_marks, decl_reported, head_reported, nested_head}
use Rattle.check_body.specs.Elaborating.{Elaborates}
use Rattle.check_body.specs.Bodies.{ChecksBlock, Steps, marked_by, declared_by, again_by, steps_layer}
use Rattle.law_well_formed.specs.FormedBodies.{AreNumbered, FormedBlock}
use Rattle.law_well_formed.proofs.Places.{before_end, behind_end, is_within}

-- ---- declarations as the walks over a block take them, with how many procedures stand within each procedure

pub data IsStep (g : Gathers) (elaborates : Elaborates g.Reported) (ends : List ℕ) : Steps g.Reported → List ℕ
    → Type 0 where
  constants_step : (cs : List Constant) →
      IsStep g elaborates ends (steps_layer g elaborates ends (layer.Constants cs)) []
  types_step : (ts : List TypeDecl) → IsStep g elaborates ends (steps_layer g elaborates ends (layer.Types ts)) []
  variables_step : (vs : List Variables) →
      IsStep g elaborates ends (steps_layer g elaborates ends (layer.Variables vs)) []
  procedure_step : (h : Heading) (block : ChecksBlock g.Reported) (ks : List ℕ) → FormedBlock g ends block ks
      → IsStep g elaborates ends (steps_layer g elaborates ends (layer.Procedure h block)) (length ks ∷ ks)

pub data AreSteps (g : Gathers) (elaborates : Elaborates g.Reported) (ends : List ℕ) : List (Steps g.Reported) → List ℕ
    → Type 0 where
  no_steps : AreSteps g elaborates ends [] []
  more_steps : (x : Steps g.Reported) (xs : List (Steps g.Reported)) (ks ls : List ℕ) → IsStep g elaborates ends x ks
      → AreSteps g elaborates ends xs ls → AreSteps g elaborates ends (x ∷ xs) (ks ++ ls)

-- ---- numbers

pub numbered_first : (ends : List ℕ) (n : ℕ) (ks ls : List ℕ) → AreNumbered ends n (ks ++ ls) → AreNumbered ends n ks
numbered_first ends n ks ls p i c e = p i c (before_end ks ls i (is_within ks i c e) ∙ e)

pub numbered_rest : (ends : List ℕ) (n : ℕ) (ks ls : List ℕ) → AreNumbered ends n (ks ++ ls)
    → AreNumbered ends (n + length ks) ls
numbered_rest ends n ks ls p i c e =
    let a : n + (length ks + i) ≡ n + length ks + i = omega arith in
    subst (λ (k : ℕ). slice_get ends k ≡ Some (k + 1 + c)) a (p (length ks + i) c (behind_end ks ls i ∙ e))

pub numbered_inner : (ends : List ℕ) (n k : ℕ) (ks : List ℕ) → AreNumbered ends n (k ∷ ks) → AreNumbered ends (n + 1) ks
numbered_inner ends n k ks p i c e =
    let a : n + suc i ≡ n + 1 + i = omega arith in
    subst (λ (j : ℕ). slice_get ends j ≡ Some (j + 1 + c)) a (p (suc i) c e)

behind : (ends : List ℕ) (n k : ℕ) (ks : List ℕ) → AreNumbered ends n (k ∷ ks) → number_behind ends n ≡ n + 1 + k
behind ends n k ks p =
    let a : n + 0 ≡ n = omega arith in
    ap (λ (o : Option ℕ). unwrap_or o n) (subst (λ (j : ℕ). slice_get ends j ≡ Some (j + 1 + k)) a (p 0 k refl))

-- ---- a module that has another number

abbrev pub nothing_at : (home : ℕ) → TypedModule
nothing_at n = record {
  name = [];
  pos = record { line = 1; col = 1 };
  imports = [];
  types = record { home = suc n; own = []; others = [] };
  variables = [];
  procedures = [];
  locals = [];
  order = [];
  body = [];
}

pub no_home : (n : ℕ) → n ≡ suc n → ⊥
no_home n e = omega (arith, e)

abbrev pub nothing_open : ℕ → Bool
nothing_open k = false

module _ (g : Gathers) (elaborates : Elaborates g.Reported) (ends : List ℕ) where
  -- ---- marks

  step_marks : (m : TypedModule) (opens : ℕ → Bool) {x : Steps g.Reported} {ks : List ℕ} → IsStep g elaborates ends x ks
      → (s : Scope g.Reported) → Leads m opens s (marked_by s x)
  step_marks m opens (constants_step cs) s =
      layer_marks m opens g {A = Steps g.Reported} {B = ChecksBlock g.Reported} s (layer.Constants cs)
  step_marks m opens (types_step ts) s = layer_marks m opens g {A = Steps g.Reported} {B = ChecksBlock g.Reported} s
      (layer.Types ts)
  step_marks m opens (variables_step vs) s =
      layer_marks m opens g {A = Steps g.Reported} {B = ChecksBlock g.Reported} s (layer.Variables vs)
  step_marks m opens (procedure_step h block ks f) s =
      layer_marks m opens g {A = Steps g.Reported} {B = ChecksBlock g.Reported} s (layer.Procedure h block)

  pub all_marks : (m : TypedModule) (opens : ℕ → Bool) {xs : List (Steps g.Reported)} {ls : List ℕ}
      → AreSteps g elaborates ends xs ls → (st : Scope g.Reported × List ℕ)
      → Leads m opens st.0 (fold (with_marks marked_by) st xs).0
  all_marks m opens no_steps st = leads_refl m opens st.0
  all_marks m opens (more_steps x xs ks ls p ps) st =
      leads_then m opens (step_marks m opens p st.0) (all_marks m opens ps (with_marks marked_by st x))

  -- ---- declarations

  pub step_reported : {x : Steps g.Reported} {ks : List ℕ} → IsStep g elaborates ends x ks → (c : Course g.Reported)
      → (declared_by c x).1 ≡ Ok tt → c.1 ≡ Ok tt
  step_reported (constants_step cs) c e =
      decl_reported g {A = Steps g.Reported} {B = ChecksBlock g.Reported} ends c (layer.Constants cs) e
  step_reported (types_step ts) c e = decl_reported g {A = Steps g.Reported} {B = ChecksBlock g.Reported} ends c
      (layer.Types ts) e
  step_reported (variables_step vs) c e =
      decl_reported g {A = Steps g.Reported} {B = ChecksBlock g.Reported} ends c (layer.Variables vs) e
  step_reported (procedure_step h block ks f) c e =
      decl_reported g {A = Steps g.Reported} {B = ChecksBlock g.Reported} ends c (layer.Procedure h block) e

  pub all_reported : {xs : List (Steps g.Reported)} {ls : List ℕ} → AreSteps g elaborates ends xs ls
      → (c : Course g.Reported) → (fold declared_by c xs).1 ≡ Ok tt → c.1 ≡ Ok tt
  all_reported no_steps c e = e
  all_reported (more_steps x xs ks ls p ps) c e = step_reported p c (all_reported ps (declared_by c x) e)

  step_again : {x : Steps g.Reported} {ks : List ℕ} → IsStep g elaborates ends x ks → (s : Scope g.Reported)
      (p : Passing g.Reported) → (again_by s p x).0 ≡ Ok tt → p.0 ≡ Ok tt
  step_again (constants_step cs) s =
      again_reports g {A = Steps g.Reported} {B = ChecksBlock g.Reported} s (layer.Constants cs)
  step_again (types_step ts) s =
      again_reports g {A = Steps g.Reported} {B = ChecksBlock g.Reported} s (layer.Types ts)
  step_again (variables_step vs) s =
      again_reports g {A = Steps g.Reported} {B = ChecksBlock g.Reported} s (layer.Variables vs)
  step_again (procedure_step h block ks f) s =
      again_reports g {A = Steps g.Reported} {B = ChecksBlock g.Reported} s (layer.Procedure h block)

  -- nothing is reported where constant expressions are read again, so nothing was before
  pub all_again : {xs : List (Steps g.Reported)} {ls : List ℕ} → AreSteps g elaborates ends xs ls
      → (s : Scope g.Reported) (p : Passing g.Reported) → (fold (again_by s) p xs).0 ≡ Ok tt → p.0 ≡ Ok tt
  all_again no_steps s p e = e
  all_again (more_steps x xs ks ls q ps) s p e = step_again q s p (all_again ps s (again_by s p x) e)

  -- what does not depend on the module
  module _ (m : TypedModule) (opens : ℕ → Bool) where
    pub step_leads : {x : Steps g.Reported} {ks : List ℕ} → IsStep g elaborates ends x ks → (c : Course g.Reported)
        → (c.0.types.home ≡ m.types.home → ⊥) → Leads m opens c.0 (declared_by c x).0
    step_leads (constants_step cs) c apart =
        decl_leads m opens g {A = Steps g.Reported} {B = ChecksBlock g.Reported} ends c (layer.Constants cs) tt
    step_leads (types_step ts) c apart = decl_leads m opens g {A = Steps g.Reported} {B = ChecksBlock g.Reported} ends c
        (layer.Types ts) tt
    step_leads (variables_step vs) c apart =
        decl_leads m opens g {A = Steps g.Reported} {B = ChecksBlock g.Reported} ends c (layer.Variables vs) tt
    step_leads (procedure_step h block ks f) c apart =
        decl_leads m opens g {A = Steps g.Reported} {B = ChecksBlock g.Reported} ends c (layer.Procedure h block)
        (λ x q e. absurd (apart e))

    pub all_lead : {xs : List (Steps g.Reported)} {ls : List ℕ} → AreSteps g elaborates ends xs ls
        → (c : Course g.Reported) → (c.0.types.home ≡ m.types.home → ⊥) → Leads m opens c.0 (fold declared_by c xs).0
    all_lead no_steps c apart = leads_refl m opens c.0
    all_lead (more_steps x xs ks ls p ps) c apart =
        let one = step_leads p c apart in
        leads_then m opens one (all_lead ps (declared_by c x) (λ e. apart (sym one.home ∙ e)))

  -- ---- headings

  abbrev pub HeadOf : (own : List (List ℕ × Known g.Reported)) (types : Types) (level n : ℕ) {x : Steps g.Reported}
      {ks : List ℕ} → IsStep g elaborates ends x ks → Type 0
  HeadOf own types level n (constants_step cs) = Unit {0}
  HeadOf own types level n (types_step ts) = Unit {0}
  HeadOf own types level n (variables_step vs) = Unit {0}
  HeadOf own types level n (procedure_step h block ks f) = (t : TypeNo)
      × ((find_name h.name.name own ≡ Some (Headed
      (Ok (meaning.LocalProcedure (record { level = level; number = n; heading = t }))))) × ResultIs types t h.result)

  abbrev pub HeadsIn : (own : List (List ℕ × Known g.Reported)) (types : Types) (level n : ℕ)
      {xs : List (Steps g.Reported)} {ls : List ℕ} → AreSteps g elaborates ends xs ls → Type 0
  HeadsIn own types level n no_steps = Unit {0}
  HeadsIn own types level n (more_steps x xs ks ls p ps) = HeadOf own types level n p
      × HeadsIn own types level (n + length ks) ps

  next_number : {x : Steps g.Reported} {ks : List ℕ} → IsStep g elaborates ends x ks → (c : Course g.Reported)
      → AreNumbered ends c.2 ks → (declared_by c x).2 ≡ c.2 + length ks
  next_number (constants_step cs) c p = omega arith
  next_number (types_step ts) c p = omega arith
  next_number (variables_step vs) c p = omega arith
  next_number (procedure_step h block ks f) c p = behind ends c.2 (length ks) ks p ∙ omega arith

  module _ (own : List (List ℕ × Known g.Reported)) (types : Types) (level : ℕ) where
    head_of : {x : Steps g.Reported} {ks : List ℕ} (p : IsStep g elaborates ends x ks)
        → (c : Course g.Reported) (end : Scope g.Reported) → (m : TypedModule) (opens : ℕ → Bool)
        → Leads m opens (declared_by c x).0 end → end.own ≡ own → end.types ≡ types → c.0.level ≡ level
        → (c.0.level == 0) ≡ false → ((name : List ℕ) → holds_of is_awaiting (find_name name c.0.own) ≡ false)
        → (declared_by c x).1 ≡ Ok tt → HeadOf own types level c.2 p
    head_of (constants_step cs) c end m opens later e u v l a q = tt
    head_of (types_step ts) c end m opens later e u v l a q = tt
    head_of (variables_step vs) c end m opens later e u v l a q = tt
    head_of (procedure_step h block ks f) c end m opens later e u v l a q =
        let k = nested_head g c.0 h c.2 l (a h.name.name) (head_reported g ends c h q) in (
          k.0,
          (
            subst (λ (es : List (List ℕ × Known g.Reported)). find_name h.name.name es
                ≡ Some (Headed (Ok (meaning.LocalProcedure (record { level = level; number = c.2; heading = k.0 }))))) e
                (later.heads h.name.name _ (k.1.0 ∙ ap
                (λ (n : ℕ). Some (Headed (Ok (meaning.LocalProcedure
                (record { level = n; number = c.2; heading = k.0 }))))) v)),
            (
              k.1.1.0,
              (
                subst (λ (z : Types). made_at z k.0 ≡ Some k.1.1.0) u (later.types k.0 k.1.1.0 k.1.1.1.0),
                k.1.1.1.1,
              ),
            ),
          ),
        )

    -- behind all declarations, the headings of procedures
    pub heads_in : {xs : List (Steps g.Reported)} {ls : List ℕ} (ps : AreSteps g elaborates ends xs ls)
        → (c : Course g.Reported) (end : Scope g.Reported) → (fold declared_by c xs).0 ≡ end → end.own ≡ own
        → end.types ≡ types → c.0.level ≡ level
        → (c.0.level == 0) ≡ false → ((name : List ℕ) → holds_of is_awaiting (find_name name c.0.own) ≡ false)
        → AreNumbered ends c.2 ls → (fold declared_by c xs).1 ≡ Ok tt → HeadsIn own types level c.2 ps
    heads_in no_steps c end e u v w l a n q = tt
    heads_in (more_steps x xs ks ls p ps) c end e u v w l a n q =
        let m : TypedModule = nothing_at c.0.types.home in
        let apart : c.0.types.home ≡ m.types.home → ⊥ = no_home c.0.types.home in
        let one = step_leads m nothing_open p c apart in
        let more = all_lead m nothing_open ps (declared_by c x) (λ z. apart (sym one.home ∙ z)) in
        let reported : (declared_by c x).1 ≡ Ok tt = all_reported ps (declared_by c x) q in
        let rest = heads_in ps (declared_by c x) end e u v (one.level ∙ w) (ap (λ (k : ℕ). k == 0) one.level ∙ l)
        (λ name. one.awaits name (a name))
        (subst (λ (k : ℕ). AreNumbered ends k ls) (sym (next_number p c (numbered_first ends c.2 ks ls n)))
        (numbered_rest ends c.2 ks ls n)) q in (
          head_of p c end m nothing_open (subst (λ (s : Scope g.Reported). Leads m nothing_open (declared_by c x).0 s) e
              more) u v w l a reported,
          subst (λ (k : ℕ). HeadsIn own types level k ps) (next_number p c (numbered_first ends c.2 ks ls n)) rest,
        )

    -- ---- procedures that are there

    abbrev pub RoutineOf : List Routine → (n : ℕ) {x : Steps g.Reported} {ks : List ℕ}
        (p : IsStep g elaborates ends x ks) → HeadOf own types level n p → Type 0
    RoutineOf rs n (constants_step cs) k = Unit {0}
    RoutineOf rs n (types_step ts) k = Unit {0}
    RoutineOf rs n (variables_step vs) k = Unit {0}
    RoutineOf rs n (procedure_step h block ks f) k = IsRoutine rs n k.0

    abbrev pub RoutinesIn : List Routine →
        (n : ℕ) {xs : List (Steps g.Reported)} {ls : List ℕ} (ps : AreSteps g elaborates ends xs ls)
        → HeadsIn own types level n ps → Type 0
    RoutinesIn rs n no_steps k = Unit {0}
    RoutinesIn rs n (more_steps x xs ks ls p ps) k = RoutineOf rs n p k.0 × RoutinesIn rs (n + length ks) ps k.1

    routine_of : (rs rs' : List Routine) (first n : ℕ) → first ≤ n
        → ((k : ℕ) (r : Routine) → first ≤ k → slice_get rs k ≡ Some r → slice_get rs' k ≡ Some r)
        → {x : Steps g.Reported} {ks : List ℕ} (p : IsStep g elaborates ends x ks) (k : HeadOf own types level n p)
        → RoutineOf rs n p k → RoutineOf rs' n p k
    routine_of rs rs' first n b e (constants_step cs) k r = tt
    routine_of rs rs' first n b e (types_step ts) k r = tt
    routine_of rs rs' first n b e (variables_step vs) k r = tt
    routine_of rs rs' first n b e (procedure_step h block ks f) k r = (r.0, e n r.0 b r.1, r.2)

    -- they are there in another list that agrees with the first
    pub routines_in : (rs rs' : List Routine) (first n : ℕ) → first ≤ n
        → ((k : ℕ) (r : Routine) → first ≤ k → slice_get rs k ≡ Some r → slice_get rs' k ≡ Some r)
        → {xs : List (Steps g.Reported)} {ls : List ℕ} (ps : AreSteps g elaborates ends xs ls)
        (k : HeadsIn own types level n ps) → RoutinesIn rs n ps k → RoutinesIn rs' n ps k
    routines_in rs rs' first n b e no_steps k r = tt
    routines_in rs rs' first n b e (more_steps x xs ks ls p ps) k r = (
      routine_of rs rs' first n b e p k.0 r.0,
      routines_in rs rs' first (n + length ks) (omega (arith, b)) e ps k.1
          r.1,
    )

    -- ---- names are formed, where the procedures are there

    abbrev pub got : Meaning → Option (Known g.Reported) → Meaning
    got x None = x
    got x (Some Later) = x
    got x (Some Ahead) = x
    got x (Some Begun) = x
    got x (Some (Headed (Ok y))) = y
    got x (Some (Headed (Err e))) = x
    got x (Some (Declared o r)) = x

    module _ (m : TypedModule) (opens : ℕ → Bool) where
      step_formed : {x : Steps g.Reported} {ks : List ℕ} (p : IsStep g elaborates ends x ks)
          → (c : Course g.Reported) (n : ℕ) (end : Scope g.Reported) (m' : TypedModule) (opens' : ℕ → Bool)
          → Leads m' opens' (declared_by c x).0 end → end.own ≡ own
          → (k : HeadOf own types level n p) → RoutineOf m.locals n p k → Leads m opens c.0 (declared_by c x).0
      step_formed (constants_step cs) c n end m' opens' later e k r =
          decl_leads m opens g {A = Steps g.Reported} {B = ChecksBlock g.Reported} ends c (layer.Constants cs) tt
      step_formed (types_step ts) c n end m' opens' later e k r =
          decl_leads m opens g {A = Steps g.Reported} {B = ChecksBlock g.Reported} ends c (layer.Types ts) tt
      step_formed (variables_step vs) c n end m' opens' later e k r =
          decl_leads m opens g {A = Steps g.Reported} {B = ChecksBlock g.Reported} ends c (layer.Variables vs) tt
      step_formed (procedure_step h block ks f) c n end m' opens' later e k r =
          decl_leads m opens g {A = Steps g.Reported} {B = ChecksBlock g.Reported} ends c (layer.Procedure h block)
          (λ x q z. subst (λ (y : Meaning). FormedOwn m opens y)
          (ap (λ (o : Option (Known g.Reported)). got x o)
          (sym k.1.0 ∙ sym (ap (λ (es : List (List ℕ × Known g.Reported)). find_name h.name.name es) e)
          ∙ later.heads h.name.name (Ok x) q)) (r, tt))

      pub all_formed : {xs : List (Steps g.Reported)} {ls : List ℕ} (ps : AreSteps g elaborates ends xs ls)
          → (c : Course g.Reported) (n : ℕ) (end : Scope g.Reported) → (fold declared_by c xs).0 ≡ end → end.own ≡ own
          → (k : HeadsIn own types level n ps) → RoutinesIn m.locals n ps k
          → Leads m opens c.0 (fold declared_by c xs).0
      all_formed no_steps c n end e u k r = leads_refl m opens c.0
      all_formed (more_steps x xs ks ls p ps) c n end e u k r =
          let m' : TypedModule = nothing_at c.0.types.home in
          let apart : c.0.types.home ≡ m'.types.home → ⊥ = no_home c.0.types.home in
          let one = step_leads m' nothing_open p c apart in
          let more = all_lead m' nothing_open ps (declared_by c x) (λ z. apart (sym one.home ∙ z)) in
          leads_then m opens (step_formed p c n end m' nothing_open
          (subst (λ (s : Scope g.Reported). Leads m' nothing_open (declared_by c x).0 s) e more) u k.0 r.0)
          (all_formed ps (declared_by c x) (n + length ks) end e u k.1 r.1)
