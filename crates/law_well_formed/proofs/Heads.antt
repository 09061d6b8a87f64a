-- The headings of a module's procedures.
use Rattle.std.proofs.Common.{◌≡◌, ℕ, ◌==◌, Bool, true, List, Option, Some, Ok, sym, ap, subst, ◌∙◌}
use Rattle.std.specs.Prelude.{slice_get, ◌||◌}
use Rattle.std.specs.List.{fold, list_any}
use Rattle.m2_tree.specs.declared.decl.Decl.TheOpen as layer
use Rattle.typed_tree.specs.declared.known_types.Types.{Types}
use Rattle.typed_tree.specs.declared.meaning.Meaning.{Meaning}
use Rattle.typed_tree.specs.declared.meaning.Meaning.TheVariants as meaning
use Rattle.typed_tree.specs.declared.meaning.Procedure.{Procedure}
use Rattle.typed_tree.specs.declared.typed_module.TypedModule.{TypedModule}
use Rattle.typed_tree.specs.declared.types.TypeNo.{TypeNo}
use Rattle.typed_tree.specs.Known.{made_at}
use Rattle.typed_tree.specs.Names.{find_name}
use Rattle.check_scope.specs.Elaborated.{Gathers}
use Rattle.check_scope.specs.declared.known.Known.{Known}
use Rattle.check_scope.specs.declared.known.Known.TheVariants.{Headed}
use Rattle.check_scope.specs.declared.scope.Scope.{Scope}
use Rattle.check_block.specs.declared.heading.Standing.TheVariants.{Awaited}
use Rattle.check_block.specs.Headings.{name_standing}
use Rattle.check_block.specs.Declarations.{Course}
use Rattle.law_modules.specs.WellFormed.{IsRoutine}
use Rattle.law_well_formed.specs.FormedScopes.{FormedOwn, Leads}
use Rattle.law_well_formed.proofs.ScopesGrowth.{leads_refl, leads_then}
use Rattle.law_well_formed.proofs.ScopesDeclarations.{ResultIs, same_home, decl_leads, head_reported, awaited_is, module_head}
use Rattle.check_body.specs.Elaborating.{Elaborates}
use Rattle.check_body.specs.Bodies.{ChecksBlock, Steps, declared_by}
use Rattle.law_well_formed.proofs.Parts.{IsStep, constants_step, types_step, variables_step, procedure_step, AreSteps, no_steps, more_steps, nothing_at, no_home, nothing_open, all_reported, step_leads, all_lead, got}

-- the procedures that are awaited are the module's, and have their numbers
abbrev pub AwaitsOwn : {T : Type 0} → Scope T → Type 0
AwaitsOwn s = (name : List ℕ) (p : Procedure) → name_standing (find_name name s.own) ≡ Awaited p
    → (p.home ≡ s.types.home) × (slice_get s.procedures p.number ≡ Some p.heading)

pub awaits_kept : (g : Gathers) (m : TypedModule) (opens : ℕ → Bool) (s s' : Scope g.Reported) → Leads m opens s s'
    → AwaitsOwn s → AwaitsOwn s'
awaits_kept g m opens s s' k a name p e =
    let same = k.awaited name (awaited_is g (find_name name s'.own) p e) in
    let b = a name p (sym (ap (λ (o : Option (Known g.Reported)). name_standing o) same) ∙ e) in
    (b.0 ∙ sym k.home, k.procedures p.number p.heading b.1)

module _ (g : Gathers) (elaborates : Elaborates g.Reported) (ends : List ℕ) (own : List (List ℕ × Known g.Reported))
    (types : Types) (procs : List TypeNo) where
  -- the procedure under the name of a heading
  abbrev pub ModuleHeadOf : {x : Steps g.Reported} {ks : List ℕ} → IsStep g elaborates ends x ks → Type 0
  ModuleHeadOf (constants_step cs) = Unit {0}
  ModuleHeadOf (types_step ts) = Unit {0}
  ModuleHeadOf (variables_step vs) = Unit {0}
  ModuleHeadOf (procedure_step h block ks f) =
      (p : Procedure) × ((find_name h.name.name own ≡ Some (Headed (Ok (meaning.Procedure p))))
      × (((p.home ≡ types.home) × (slice_get procs p.number ≡ Some p.heading)) × ResultIs types p.heading h.result))

  abbrev pub ModuleHeadsIn : {xs : List (Steps g.Reported)} {ls : List ℕ} → AreSteps g elaborates ends xs ls → Type 0
  ModuleHeadsIn no_steps = Unit {0}
  ModuleHeadsIn (more_steps x xs ks ls p ps) = ModuleHeadOf p × ModuleHeadsIn ps

  head_of : {x : Steps g.Reported} {ks : List ℕ} (p : IsStep g elaborates ends x ks)
      → (c : Course g.Reported) (end : Scope g.Reported) → (m : TypedModule) (opens : ℕ → Bool)
      → Leads m opens (declared_by c x).0 end → end.own ≡ own → end.types ≡ types → end.procedures ≡ procs
      → (c.0.level == 0) ≡ true → AwaitsOwn c.0 → (declared_by c x).1 ≡ Ok tt → ModuleHeadOf p
  head_of (constants_step cs) c end m opens later e u v l a q = tt
  head_of (types_step ts) c end m opens later e u v l a q = tt
  head_of (variables_step vs) c end m opens later e u v l a q = tt
  head_of (procedure_step h block ks f) c end m opens later e u v l a q =
      let k = module_head g c.0 h c.2 (λ p z. a h.name.name p z) l (head_reported g ends c h q) in (
        k.0,
        (
          subst (λ (es : List (List ℕ × Known g.Reported)). find_name h.name.name es
              ≡ Some (Headed (Ok (meaning.Procedure k.0)))) e (later.heads h.name.name _ k.1.0),
          (
            (
              k.1.1.0.0 ∙ sym later.home ∙ ap (λ (z : Types). z.home) u,
              subst (λ (ts : List TypeNo). slice_get ts k.0.number ≡ Some k.0.heading) v
                  (later.procedures k.0.number k.0.heading k.1.1.0.1),
            ),
            (
              k.1.1.1.0,
              (
                subst (λ (z : Types). made_at z k.0.heading ≡ Some k.1.1.1.0) u
                    (later.types k.0.heading k.1.1.1.0 k.1.1.1.1.0),
                k.1.1.1.1.1,
              ),
            ),
          ),
        ),
      )

  pub heads_in : {xs : List (Steps g.Reported)} {ls : List ℕ} (ps : AreSteps g elaborates ends xs ls)
      → (c : Course g.Reported) (end : Scope g.Reported) → (fold declared_by c xs).0 ≡ end → end.own ≡ own
      → end.types ≡ types → end.procedures ≡ procs
      → (c.0.level == 0) ≡ true → AwaitsOwn c.0 → (fold declared_by c xs).1 ≡ Ok tt → ModuleHeadsIn ps
  heads_in no_steps c end e u v w l a q = tt
  heads_in (more_steps x xs ks ls p ps) c end e u v w l a q =
      let m : TypedModule = nothing_at c.0.types.home in
      let apart : c.0.types.home ≡ m.types.home → ⊥ = no_home c.0.types.home in
      let one = step_leads g elaborates ends m nothing_open p c apart in
      let more = all_lead g elaborates ends m nothing_open ps (declared_by c x) (λ z. apart (sym one.home ∙ z)) in (
        head_of p c end m nothing_open (subst (λ (s : Scope g.Reported). Leads m nothing_open (declared_by c x).0 s) e
            more) u v w l a (all_reported g elaborates ends ps (declared_by c x) q),
        heads_in ps (declared_by c x) end e u v w (ap (λ (k : ℕ). k == 0) one.level ∙ l)
            (awaits_kept g m nothing_open c.0 (declared_by c x).0 one a) q,
      )

  -- ---- names are formed, where the module has the procedures

  module _ (m : TypedModule) (opens : ℕ → Bool) (home : types.home ≡ m.types.home)
      (there : (n : ℕ) (t : TypeNo) → slice_get procs n ≡ Some t → IsRoutine m.procedures n t) where
    own_formed : (p : Procedure) → p.home ≡ types.home → slice_get procs p.number ≡ Some p.heading
        → FormedOwn m opens (meaning.Procedure p)
    own_formed p e k = (
      record {
        known = ap (λ (b : Bool). b || list_any (λ i. i.number == p.home) m.imports)
            (same_home p.home m.types.home (e ∙ home));
        own = λ z. there p.number p.heading k;
      },
      e ∙ home,
    )

    step_formed : {x : Steps g.Reported} {ks : List ℕ} (p : IsStep g elaborates ends x ks)
        → (c : Course g.Reported) (end : Scope g.Reported) (m' : TypedModule) (opens' : ℕ → Bool)
        → Leads m' opens' (declared_by c x).0 end → end.own ≡ own
        → ModuleHeadOf p → Leads m opens c.0 (declared_by c x).0
    step_formed (constants_step cs) c end m' opens' later e k =
        decl_leads m opens g {A = Steps g.Reported} {B = ChecksBlock g.Reported} ends c (layer.Constants cs) tt
    step_formed (types_step ts) c end m' opens' later e k =
        decl_leads m opens g {A = Steps g.Reported} {B = ChecksBlock g.Reported} ends c (layer.Types ts) tt
    step_formed (variables_step vs) c end m' opens' later e k =
        decl_leads m opens g {A = Steps g.Reported} {B = ChecksBlock g.Reported} ends c (layer.Variables vs) tt
    step_formed (procedure_step h block ks f) c end m' opens' later e k =
        decl_leads m opens g {A = Steps g.Reported} {B = ChecksBlock g.Reported} ends c (layer.Procedure h block)
        (λ x q z. subst (λ (y : Meaning). FormedOwn m opens y)
        (ap (λ (o : Option (Known g.Reported)). got g elaborates ends own types 0 x o)
        (sym k.1.0 ∙ sym (ap (λ (es : List (List ℕ × Known g.Reported)). find_name h.name.name es) e)
        ∙ later.heads h.name.name (Ok x) q)) (own_formed k.0 k.1.1.0.0 k.1.1.0.1))

    pub heads_formed : {xs : List (Steps g.Reported)} {ls : List ℕ} (ps : AreSteps g elaborates ends xs ls)
        → (c : Course g.Reported) (end : Scope g.Reported) → (fold declared_by c xs).0 ≡ end → end.own ≡ own
        → ModuleHeadsIn ps → Leads m opens c.0 (fold declared_by c xs).0
    heads_formed no_steps c end e u k = leads_refl m opens c.0
    heads_formed (more_steps x xs ks ls p ps) c end e u k =
        let m' : TypedModule = nothing_at c.0.types.home in
        let apart : c.0.types.home ≡ m'.types.home → ⊥ = no_home c.0.types.home in
        let one = step_leads g elaborates ends m' nothing_open p c apart in
        let more = all_lead g elaborates ends m' nothing_open ps (declared_by c x) (λ z. apart (sym one.home ∙ z)) in
        leads_then m opens (step_formed p c end m' nothing_open
        (subst (λ (s : Scope g.Reported). Leads m' nothing_open (declared_by c x).0 s) e more) u k.0)
        (heads_formed ps (declared_by c x) end e u k.1)
