-- The procedures of a module have numbers of their own.
use Rattle.std.proofs.Common.{◌≡◌, ℕ, ◌+◌, ◌≤◌, ◌<◌, ◌==◌, ◌⊎◌, inl, inr, Bool, true, false, cond, List, [], ◌∷◌, ◌++◌, length, Option, Some, Result, Ok, Err, refl, sym, ap, subst, ◌∙◌, arith}
use Rattle.std.specs.Prelude.{slice_get}
use Rattle.std.specs.List.{fold}
use Rattle.std.proofs.lemmas.List.{length-append}
use Rattle.std.proofs.lemmas.Option.{same_Some}
use Rattle.m2_rule.specs.declared.rule.Rule.TheVariants as rule
use Rattle.m2_tree.specs.declared.decl.Heading.{Heading}
use Rattle.m2_tree.specs.declared.decl.Decl.{Decl, Decl-F, out-Decl}
use Rattle.m2_tree.specs.declared.decl.Decl.TheOpen as layer
use Rattle.m2_tree.specs.declared.decl.Block.{Block}
use Rattle.typed_tree.specs.declared.meaning.Meaning.TheVariants as meaning
use Rattle.typed_tree.specs.declared.meaning.Procedure.{Procedure}
use Rattle.typed_tree.specs.declared.shape.Made.{Made}
use Rattle.typed_tree.specs.declared.typed_module.TypedModule.{TypedModule}
use Rattle.typed_tree.specs.declared.types.TypeNo.{TypeNo}
use Rattle.typed_tree.specs.Names.{find_name}
use Rattle.check_scope.specs.Elaborated.{Gathers, report}
use Rattle.check_scope.specs.Scopes.{State}
use Rattle.check_scope.specs.declared.known.Known.{Known}
use Rattle.check_scope.specs.declared.known.Known.TheVariants.{Headed}
use Rattle.check_scope.specs.declared.scope.Scope.{Scope}
use Rattle.check_scope.specs.Scopes.{heading_means}
use Rattle.check_type_expr.specs.Made.{next_type, with_shape}
use Rattle.check_type_expr.specs.Headings.{heading_of, names_of}
use Rattle.check_block.specs.declared.heading.Standing.{Standing}
use Rattle.check_block.specs.declared.heading.Standing.TheVariants.{Free, Awaited, Taken}
use Rattle.check_block.specs.Headings.{name_standing, nothing_made, nested_meaning, set_heading, module_procedure, with_new, headed_as, with_heading}
use Rattle.check_block.specs.Naming.{marked_decl, with_marks}
use Rattle.check_block.specs.Declarations.{Course, decl_layer, with_decl, declared_block}
use Rattle.check_body.specs.Routines.{numbered_known}
use Rattle.law_folds.proofs.AgainSteps.{block_reported}
use Rattle.law_well_formed.specs.FormedScopes.{Leads}
use Rattle.law_well_formed.proofs.Names.{found_self}
use Rattle.law_well_formed.proofs.ScopesGrowth.{leads_refl, leads_then}
use Rattle.law_well_formed.proofs.ScopesDeclarations.{beside_right, head_reported, decl_leads, layer_marks, awaited_is}
use Rattle.law_well_formed.proofs.Places.{is_within}
use Rattle.law_well_formed.proofs.Parts.{nothing_at, no_home, nothing_open}
use Rattle.law_well_formed.proofs.Heads.{awaits_kept}
use Rattle.law_programs.specs.TypingBodies.{number_in, number_of, OtherThan, NumbersApart, AwaitsOwn, AwaitsApart}
use Rattle.law_programs.proofs.Agreeing.{all_reported}

last_of : {A : Type 0} (x : A) (xs : List A) → (t : A) × (slice_get (x ∷ xs) (length xs) ≡ Some t)
last_of x [] = (x, refl)
last_of x (y ∷ xs) = last_of y xs

longer_by : {A : Type 0} (xs ys : List A) → ((n : ℕ) (t : A) → slice_get xs n ≡ Some t → slice_get ys n ≡ Some t)
    → length xs ≤ length ys
longer_by [] ys k = omega arith
longer_by (x ∷ xs) ys k =
    let l = last_of x xs in
    let h : length xs < length ys = is_within ys (length xs) l.0 (k (length xs) l.0 l.1) in
    omega (arith, h)

module _ (g : Gathers) (ends : List ℕ) where
  -- ---- what a declaration leaves as it was

  layer_leads : (m : TypedModule) (c : Course g.Reported) (y : Decl-F Decl Block) → (c.0.types.home ≡ m.types.home → ⊥)
      → Leads m nothing_open c.0 (decl_layer g ends c y).0
  layer_leads m c (layer.Constants cs) apart =
      decl_leads m nothing_open g {A = Decl} {B = Block} ends c (layer.Constants cs) tt
  layer_leads m c (layer.Types ts) apart = decl_leads m nothing_open g {A = Decl} {B = Block} ends c (layer.Types ts) tt
  layer_leads m c (layer.Variables vs) apart =
      decl_leads m nothing_open g {A = Decl} {B = Block} ends c (layer.Variables vs) tt
  layer_leads m c (layer.Procedure h b) apart =
      decl_leads m nothing_open g {A = Decl} {B = Block} ends c (layer.Procedure h b) (λ x q e. absurd (apart e))

  decls_lead : (m : TypedModule) (ds : List Decl) (c : Course g.Reported) → (c.0.types.home ≡ m.types.home → ⊥)
      → Leads m nothing_open c.0 (fold (with_decl g ends) c ds).0
  decls_lead m [] c apart = leads_refl m nothing_open c.0
  decls_lead m (d ∷ ds) c apart =
      let one = layer_leads m c (out-Decl d) apart in
      leads_then m nothing_open one (decls_lead m ds (with_decl g ends c d) (λ e. apart (sym one.home ∙ e)))

  record Reaches (s e : Scope g.Reported) : Type 0 where
    level : e.level ≡ s.level
    heads : (name : List ℕ) (p : Procedure) → find_name name s.own ≡ Some (Headed (Ok (meaning.Procedure p)))
        → find_name name e.own ≡ Some (Headed (Ok (meaning.Procedure p)))
    count : length s.procedures ≤ length e.procedures
    awaits : (name : List ℕ) (p : Procedure) → name_standing (find_name name e.own) ≡ Awaited p
        → name_standing (find_name name s.own) ≡ Awaited p

  reaches_by : (m : TypedModule) (s e : Scope g.Reported) → Leads m nothing_open s e → Reaches s e
  reaches_by m s e k = record {
    level = k.level;
    heads = λ name p q. k.heads name (Ok (meaning.Procedure p)) q;
    count = longer_by s.procedures e.procedures k.procedures;
    awaits = λ name p q. sym (ap (λ (o : Option (Known g.Reported)). name_standing o)
        (k.awaited name (awaited_is g (find_name name e.own) p q))) ∙ q;
  }

  layer_reaches : (c : Course g.Reported) (y : Decl-F Decl Block) → Reaches c.0 (decl_layer g ends c y).0
  layer_reaches c y = reaches_by (nothing_at c.0.types.home) c.0 (decl_layer g ends c y).0
      (layer_leads (nothing_at c.0.types.home) c y (no_home c.0.types.home))

  decls_reach : (ds : List Decl) (c : Course g.Reported) → Reaches c.0 (fold (with_decl g ends) c ds).0
  decls_reach ds c = reaches_by (nothing_at c.0.types.home) c.0 (fold (with_decl g ends) c ds).0
      (decls_lead (nothing_at c.0.types.home) ds c (no_home c.0.types.home))

  -- ---- the number of a heading: awaited, or the next one

  HeadNumber : Scope g.Reported → Scope g.Reported → List ℕ → Type 0
  HeadNumber s s' name =
      (p : Procedure) × ((find_name name s'.own ≡ Some (Headed (Ok (meaning.Procedure p))))
      × ((name_standing (find_name name s.own) ≡ Awaited p)
      ⊎ ((p.number ≡ length s.procedures) × (length s.procedures < length s'.procedures))))

  new_number : (b : Bool) → b ≡ true → (s : Scope g.Reported) (name : List ℕ) (n : ℕ) (t : TypeNo)
      → HeadNumber s (cond b (module_procedure s name (Ok t))
      (set_heading name (heading_means true (nested_meaning s.level n (Ok t))) s)) name
  unfolding HeadNumber
  new_number true e s name n t = (
    record { home = s.types.home; number = length s.procedures; heading = t },
    (
      found_self name (Headed (Ok (meaning.Procedure
          (record { home = s.types.home; number = length s.procedures; heading = t })))) s.own,
      inr (
        refl,
        let k : length (s.procedures ++ t ∷ []) ≡ length s.procedures + 1 =
            length-append s.procedures (t ∷ []) in omega (arith, k),
      ),
    ),
  )
  new_number false e s name n t = absurd cc

  made_number : (s : Scope g.Reported) (name : List ℕ) (n : ℕ) (made : Result Made g.Reported) → (s.level == 0) ≡ true
      → (with_new s name n made).1 ≡ Ok tt → HeadNumber s (with_new s name n made).0 name
  unfolding HeadNumber
  made_number s name n (Ok x) e q = new_number (s.level == 0) e (with_shape s x) name n (next_type s)
  made_number s name n (Err x) e q = absurd cc

  number_by : (s : Scope g.Reported) (h : Heading) (n : ℕ) (made : Result Made g.Reported) (o : Standing)
      → name_standing (find_name h.name.name s.own) ≡ o → (s.level == 0) ≡ true → (headed_as g s h n made o).1 ≡ Ok tt
      → HeadNumber s (headed_as g s h n made o).0 h.name.name
  unfolding HeadNumber
  number_by s h n made Free e l q = made_number s h.name.name n made l q
  number_by s h n made (Awaited p) e l q =
      (p, (found_self h.name.name (Headed (Ok (meaning.Procedure p))) s.own, inl e))
  number_by s h n made Taken e l q = let z : report g {A = Unit {0}} h.name.pos rule.DeclaredTwice ≡ Ok tt =
      beside_right g (nothing_made made) (report g h.name.pos rule.DeclaredTwice) q in absurd cc

  head_number : (s : Scope g.Reported) (h : Heading) (n : ℕ) → (s.level == 0) ≡ true → (with_heading g s n h).1 ≡ Ok tt
      → HeadNumber s (with_heading g s n h).0 h.name.name
  head_number s h n l q =
      number_by s h n (heading_of g s h) (name_standing (find_name h.name.name s.own)) refl l
      (beside_right g (names_of g h) (headed_as g s h n (heading_of g s h)
      (name_standing (find_name h.name.name s.own))).1 q)

  -- ---- numbers of later declarations

  -- an awaited procedure has it, or it is none so far
  data LaterNumber (s : Scope g.Reported) (k : ℕ) : Type 0 where
    new : length s.procedures ≤ k → LaterNumber s k
    awaited : (name : List ℕ) (p : Procedure) → name_standing (find_name name s.own) ≡ Awaited p → p.number ≡ k
        → LaterNumber s k

  later_before : (s e : Scope g.Reported) (k : ℕ) → Reaches s e → LaterNumber e k → LaterNumber s k
  later_before s e k r (new h) = new (let c = r.count in omega (arith, c, h))
  later_before s e k r (awaited name p q n) = awaited name p (r.awaits name p q) n

  number_is : (e : Scope g.Reported) (h : Heading) (b : Block) (p : Procedure) (k : ℕ)
      → find_name h.name.name e.own ≡ Some (Headed (Ok (meaning.Procedure p)))
      → number_of e.own {A = Decl} {B = Block} (layer.Procedure h b) ≡ Some k → p.number ≡ k
  number_is e h b p k f n = same_Some p.number k
      (sym (ap (λ (o : Option (Known g.Reported)). number_in e.own (numbered_known o)) f) ∙ n)

  head_later : (s s' : Scope g.Reported) (name : List ℕ) (k : ℕ) (p : Procedure) → p.number ≡ k
      → (name_standing (find_name name s.own) ≡ Awaited p)
      ⊎ ((p.number ≡ length s.procedures) × (length s.procedures < length s'.procedures)) → LaterNumber s k
  head_later s s' name k p e (inl a) = awaited name p a e
  head_later s s' name k p e (inr b) = new (let x = b.0 in omega (arith, x, e))

  layer_later : (c : Course g.Reported) (y : Decl-F Decl Block) (end : Scope g.Reported)
      → Reaches (decl_layer g ends c y).0 end → (c.0.level == 0) ≡ true → (decl_layer g ends c y).1 ≡ Ok tt → (k : ℕ)
      → number_of end.own {A = Decl} {B = Block} y ≡ Some k → LaterNumber c.0 k
  unfolding HeadNumber
  layer_later c (layer.Constants cs) end r l q k e = absurd cc
  layer_later c (layer.Types ts) end r l q k e = absurd cc
  layer_later c (layer.Variables vs) end r l q k e = absurd cc
  layer_later c (layer.Procedure h b) end r l q k e =
      let n = head_number c.0 h c.2 l (head_reported g ends c h q) in
      head_later c.0 (decl_layer g {A = Decl} {B = Block} ends c (layer.Procedure h b)).0 h.name.name k n.0
      (number_is end h b n.0 k (r.heads h.name.name n.0 n.1.0) e) n.1.1

  others_apart : (o : Option ℕ) (ds : List Decl) (c : Course g.Reported) → (c.0.level == 0) ≡ true
      → (fold (with_decl g ends) c ds).1 ≡ Ok tt → ((k : ℕ) → o ≡ Some k → LaterNumber c.0 k → ⊥)
      → OtherThan (fold (with_decl g ends) c ds).0.own o ds
  others_apart o [] c l q h = tt
  others_apart o (d ∷ ds) c l q h =
      let one = layer_reaches c (out-Decl d) in (
        λ k e n. h k e (layer_later c (out-Decl d) (fold (with_decl g ends) c (d ∷ ds)).0
            (decls_reach ds (with_decl g ends c d)) l (all_reported g ends ds (with_decl g ends c d) q) k n),
        others_apart o ds (with_decl g ends c d) (ap (λ (n : ℕ). n == 0) one.level ∙ l) q
            (λ k e n. h k e (later_before c.0 (with_decl g ends c d).0 k one n)),
      )

  -- ---- each procedure has another number than those behind it

  no_later : (s s' : Scope g.Reported) → Reaches s s' → AwaitsOwn s → AwaitsApart s → (name : List ℕ) (p : Procedure)
      → find_name name s'.own ≡ Some (Headed (Ok (meaning.Procedure p)))
      → (name_standing (find_name name s.own) ≡ Awaited p)
      ⊎ ((p.number ≡ length s.procedures) × (length s.procedures < length s'.procedures)) → LaterNumber s' p.number
      → ⊥
  no_later s s' r own apart name p f (inl a) (new h) = let i : p.number < length s.procedures =
      is_within s.procedures p.number p.heading (own name p a).1 in let c = r.count in omega (arith, i, c, h)
  no_later s s' r own apart name p f (inr b) (new h) = let x = b.0 in let y = b.1 in omega (arith, x, y, h)
  no_later s s' r own apart name p f (inl a) (awaited other q e n) =
      let same : other ≡ name = apart other name q p (r.awaits other q e) a n in
      let z : Taken ≡ Awaited q = sym (ap (λ (o : Option (Known g.Reported)). name_standing o) f)
      ∙ subst (λ (i : List ℕ). name_standing (find_name i s'.own) ≡ Awaited q) same e in
      absurd cc
  no_later s s' r own apart name p f (inr b) (awaited other q e n) =
      let i : q.number < length s.procedures =
      is_within s.procedures q.number q.heading (own other q (r.awaits other q e)).1 in let x = b.0 in
      omega (arith, i, x, n)

  layer_apart : (c : Course g.Reported) (y : Decl-F Decl Block) (end : Scope g.Reported)
      → Reaches (decl_layer g ends c y).0 end → (c.0.level == 0) ≡ true → (decl_layer g ends c y).1 ≡ Ok tt
      → AwaitsOwn c.0 → AwaitsApart c.0
      → (k : ℕ) → number_of end.own {A = Decl} {B = Block} y ≡ Some k → LaterNumber (decl_layer g ends c y).0 k → ⊥
  unfolding HeadNumber
  layer_apart c (layer.Constants cs) end r l q own apart k e n = absurd cc
  layer_apart c (layer.Types ts) end r l q own apart k e n = absurd cc
  layer_apart c (layer.Variables vs) end r l q own apart k e n = absurd cc
  layer_apart c (layer.Procedure h b) end r l q own apart k e n =
      let x = head_number c.0 h c.2 l (head_reported g ends c h q) in
      no_later c.0 (decl_layer g {A = Decl} {B = Block} ends c (layer.Procedure h b)).0
      (layer_reaches c (layer.Procedure h b)) own apart h.name.name x.0 x.1.0 x.1.1
      (subst (λ (i : ℕ). LaterNumber (decl_layer g {A = Decl} {B = Block} ends c (layer.Procedure h b)).0 i)
      (sym (number_is end h b x.0 k (r.heads h.name.name x.0 x.1.0) e)) n)

  all_apart : (ds : List Decl) (c : Course g.Reported) → (c.0.level == 0) ≡ true
      → (fold (with_decl g ends) c ds).1 ≡ Ok tt → AwaitsOwn c.0 → AwaitsApart c.0
      → NumbersApart (fold (with_decl g ends) c ds).0.own ds
  all_apart [] c l q own apart = tt
  all_apart (d ∷ ds) c l q own apart =
      let one = layer_reaches c (out-Decl d) in
      let m : TypedModule = nothing_at c.0.types.home in
      let next : Course g.Reported = with_decl g ends c d in
      let level = ap (λ (n : ℕ). n == 0) one.level ∙ l in (
        others_apart _ ds next level q (λ k e n. layer_apart c (out-Decl d) (fold (with_decl g ends) c (d ∷ ds)).0
            (decls_reach ds next) l (all_reported g ends ds next q) own apart k e n),
        all_apart ds next level q (awaits_kept g m nothing_open c.0 next.0
            (layer_leads m c (out-Decl d) (no_home c.0.types.home)) own)
            (λ a b p z e f n. apart a b p z (one.awaits a p e) (one.awaits b z f) n),
      )

  marks_lead : (m : TypedModule) (ds : List Decl) (st : Scope g.Reported × List ℕ)
      → Leads m nothing_open st.0 (fold (with_marks marked_decl) st ds).0
  marks_lead m [] st = leads_refl m nothing_open st.0
  marks_lead m (d ∷ ds) st = leads_then m nothing_open
      (layer_marks m nothing_open g {A = Decl} {B = Block} st.0 (out-Decl d))
      (marks_lead m ds (with_marks marked_decl st d))

  pub numbers_apart : (st : State (Unit {0}) g.Reported) (first : ℕ) (ds : List Decl) → (st.0.level == 0) ≡ true
      → AwaitsOwn st.0 → AwaitsApart st.0 → (declared_block g ends st first ds).1 ≡ Ok tt
      → NumbersApart (declared_block g ends st first ds).0.own ds
  numbers_apart st first ds level own apart ok =
      let m : TypedModule = nothing_at st.0.types.home in
      let marks : Scope g.Reported × List ℕ = fold (with_marks marked_decl) (st.0, []) ds in
      let lead = marks_lead m ds (st.0, []) in
      let one = reaches_by m st.0 marks.0 lead in
      all_apart ds (marks.0, st.1, first) (ap (λ (n : ℕ). n == 0) one.level ∙ level)
      (block_reported g ends st first ds ok)
      (awaits_kept g m nothing_open st.0 marks.0 lead own)
      (λ a b p z e f n. apart a b p z (one.awaits a p e) (one.awaits b z f) n)
