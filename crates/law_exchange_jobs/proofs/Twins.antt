-- Jobs of two programs that compile definitions of one name, or one module.
use Rattle.std.proofs.Common.{◌≡◌, ℕ, List, ◌∷◌, map, refl, sym, ap, ap₂, subst, ◌∙◌, inl, inr, Option, Some, None, ◌⊎◌}
use Rattle.std.specs.List.{filter_map}
use Rattle.std.proofs.lemmas.Option.{none-some, same_Some}
use Rattle.m2_tree.specs.declared.decl.Module.{Module}
use Rattle.m2_graph.specs.Imports.{is_definition}
use Rattle.check_definition.specs.Predeclared.{console}
use Rattle.law_graph.proofs.Lists.{Among, later_among, among_cases, among_filtered, filtered_among, among-map}
use Rattle.law_separation.specs.Alike.{Tree, Jobs}
use Rattle.def_exchange.specs.Moved.{Exchange}
use Rattle.law_exchange_jobs.specs.Sharing.{LeavesConsole}
use Rattle.law_exchange_jobs.proofs.Extending.{exchange_of}
use Rattle.law_exchange_jobs.proofs.Jobbing.{ms, IsJobOf, one_module, one_job, job_named, IsNamed, named_job, not_console}

abbrev both : Option ℕ → Option ℕ → Option (ℕ × ℕ)
both None o = None
both (Some j) None = None
both (Some j) (Some i) = Some (j, i)

module _ (given others : List Tree) (jobs : Jobs given) (other_jobs : Jobs others) where
  -- They compile modules of one sort and name.
  pub record AreTwins (p : ℕ × ℕ) : Type 0 where
    pub m : Module
    pub n : Module
    pub here : IsJobOf given jobs p.0 m
    pub there : IsJobOf others other_jobs p.1 n
    pub kind : is_definition m ≡ is_definition n
    pub name : m.name.name ≡ n.name.name

  there_one : (p q : ℕ × ℕ) → AreTwins p → AreTwins q → p.0 ≡ q.0 → p.1 ≡ q.1
  there_one p q s t e =
      let u : s.m ≡ t.m = one_module given jobs q.0 s.m t.m
      (subst (λ (j : ℕ). IsJobOf given jobs j s.m) e s.here) t.here in
      one_job others other_jobs p.1 q.1 s.n t.n s.there t.there (sym s.kind ∙ ap is_definition u ∙ t.kind)
      (sym s.name ∙ ap (λ (m : Module). m.name.name) u ∙ t.name)

  here_one : (p q : ℕ × ℕ) → AreTwins p → AreTwins q → p.1 ≡ q.1 → p.0 ≡ q.0
  here_one p q s t e =
      let u : s.n ≡ t.n = one_module others other_jobs q.1 s.n t.n
      (subst (λ (j : ℕ). IsJobOf others other_jobs j s.n) e s.there) t.there in
      one_job given jobs p.0 q.0 s.m t.m s.here t.here (s.kind ∙ ap is_definition u ∙ sym t.kind)
      (s.name ∙ ap (λ (m : Module). m.name.name) u ∙ sym t.name)

  -- ---- definitions of one name

  abbrev pair_named : List ℕ → Option (ℕ × ℕ)
  pair_named name = both (job_named given jobs name) (job_named others other_jobs name)

  abbrev names : List (List ℕ)
  names = map (λ (m : Module). m.name.name) (ms given jobs)

  abbrev pairs : List (ℕ × ℕ)
  pairs = filter_map pair_named names

  pair_twins : (name : List ℕ) (p : ℕ × ℕ) → pair_named name ≡ Some p → AreTwins p
  pair_twins name p e = by (job_named given jobs name) refl (job_named others other_jobs name) refl e
    where
      by : (o : Option ℕ) → job_named given jobs name ≡ o → (q : Option ℕ) → job_named others other_jobs name ≡ q
          → both o q ≡ Some p → AreTwins p
      by None d q r e = absurd (none-some p e)
      by (Some j) d None r e = absurd (none-some p e)
      by (Some j) d (Some i) r e =
          let w : IsNamed given jobs name j = named_job given jobs name j d in
          let v : IsNamed others other_jobs name i = named_job others other_jobs name i r in
          let t : AreTwins (j, i) = record {
            m = w.m;
            n = v.m;
            here = w.is_job;
            there = v.is_job;
            kind = w.kind ∙ sym v.kind;
            name = sym w.same ∙ v.same;
          } in
          subst (λ (s : ℕ × ℕ). AreTwins s) (same_Some (j, i) p e) t

  named_among : (name : List ℕ) (j : ℕ) → job_named given jobs name ≡ Some j → Among names name
  named_among name j e =
      let w : IsNamed given jobs name j = named_job given jobs name j e in
      subst (λ (n : List ℕ). Among names n) (sym w.same)
      (among-map (λ (m : Module). m.name.name) (ms given jobs) w.m (w.is_job.node, w.is_job.there))

  -- ---- the exchange

  -- Console's number stays
  abbrev fixed : ℕ × ℕ
  fixed = (console.number, console.number)

  abbrev IsEither : ℕ × ℕ → Type 0
  IsEither p = (fixed ≡ p) ⊎ AreTwins p

  apart_here : (p q : ℕ × ℕ) → fixed ≡ p → AreTwins q → q.0 ≡ p.0 → ⊥
  apart_here p q e t d = not_console given jobs q.0 t.m t.here (d ∙ sym (ap (λ (s : ℕ × ℕ). s.0) e))

  apart_there : (p q : ℕ × ℕ) → fixed ≡ p → AreTwins q → q.1 ≡ p.1 → ⊥
  apart_there p q e t d = not_console others other_jobs q.1 t.n t.there (d ∙ sym (ap (λ (s : ℕ × ℕ). s.1) e))

  matched : (p q : ℕ × ℕ) → IsEither p → IsEither q → (p.0 ≡ q.0 → p.1 ≡ q.1) × (p.1 ≡ q.1 → p.0 ≡ q.0)
  matched p q (inl e) (inl f) =
      (λ d. ap (λ (s : ℕ × ℕ). s.1) (sym e ∙ f), λ d. ap (λ (s : ℕ × ℕ). s.0) (sym e ∙ f))
  matched p q (inl e) (inr t) = (λ d. absurd (apart_here p q e t (sym d)), λ d. absurd (apart_there p q e t (sym d)))
  matched p q (inr s) (inl f) = (λ d. absurd (apart_here q p f s d), λ d. absurd (apart_there q p f s d))
  matched p q (inr s) (inr t) = (there_one p q s t, here_one p q s t)

  -- these two jobs, and those of all definitions that both have
  module _ (root : ℕ × ℕ) (twins : AreTwins root) where
    abbrev all : List (ℕ × ℕ)
    all = fixed ∷ root ∷ pairs

    either : (p : ℕ × ℕ) → Among all p → IsEither p
    either p a = elim (among_cases fixed (root ∷ pairs) p a) [
      | inl f ↦ inl f
      | inr more ↦ elim (among_cases root pairs p more) [
        | inl e ↦ inr (subst (λ (s : ℕ × ℕ). AreTwins s) e twins)
        | inr named ↦ (let r = filtered_among pair_named names p named in inr (pair_twins r.0 p r.2))
      ]
    ]

    pub exchanged : (x : Exchange) × ((p : ℕ × ℕ) → Among all p → x.there p.0 ≡ p.1)
    exchanged = exchange_of all (λ p q a b. matched p q (either p a) (either q b))

    abbrev pub exchange : Exchange
    exchange = exchanged.0

    pub leaves_console : LeavesConsole exchange
    leaves_console = exchanged.1 fixed (0, refl)

    pub takes_root : exchange.there root.0 ≡ root.1
    takes_root = exchanged.1 root (1, refl)

    pub takes_named : (name : List ℕ) (j i : ℕ) → job_named given jobs name ≡ Some j
        → job_named others other_jobs name ≡ Some i → exchange.there j ≡ i
    takes_named name j i d r = exchanged.1 (j, i) (later_among fixed (root ∷ pairs) (j, i)
        (later_among root pairs (j, i)
        (among_filtered pair_named names name (j, i) (named_among name j d)
        (ap₂ (λ (o q : Option ℕ). both o q) d r))))
