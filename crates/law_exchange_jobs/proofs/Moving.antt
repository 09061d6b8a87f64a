-- What becomes of a job moves with its number, if it compiles a definition which the module needs, or the module.
use Rattle.std.proofs.Common.{◌≡◌, ◌<◌, ℕ, zero, suc, Bool, true, false, cond, List, [], ◌∷◌, map, refl, sym, ap, subst, ◌∙◌, inl, inr, arith, Option, Some, None}
use Rattle.std.specs.Prelude.{slice_get, slice_index_or}
use Rattle.std.specs.List.{filter_map}
use Rattle.std.specs.Option.{option_map}
use Rattle.std.proofs.lemmas.Bool.{false≢true}
use Rattle.std.proofs.lemmas.Option.{none-some, same_Some}
use Rattle.m2_tree.specs.declared.decl.Module.{Module}
use Rattle.m2_tree.specs.declared.name.Ident.{Ident}
use Rattle.graph_walk.specs.Links.{unless}
use Rattle.pool_board.specs.Graph.{prerequisites_of}
use Rattle.pool_board.specs.Results.{items_at}
use Rattle.m2_graph.specs.Files.{given_of}
use Rattle.m2_graph.specs.Imports.{imports_of, is_definition, is_program, definition_of}
use Rattle.m2_graph.specs.Jobs.{number_of}
use Rattle.m2_graph.proofs.Smaller.{once_among}
use Rattle.law_graph.proofs.Given.{given_trees, tree_given, given_among}
use Rattle.law_graph.proofs.Lists.{Among, none_among, among_cases, among_append_cases, filtered_among, map_among, has_among, among_has, bound}
use Rattle.build_jobs.specs.declared.outcome.Compiled.{Compiled}
use Rattle.build_jobs.specs.Compiling.{compilation_of}
use Rattle.build_jobs.specs.Jobs.{all_compiled, needed_of}
use Rattle.law_separation.specs.Alike.{Tree, imported_names, Needs, further, Jobs}
use Rattle.law_separation.proofs.Needing.{DirectlyNeeds}
use Rattle.def_exchange.specs.Moved.{Exchange}
use Rattle.law_linking.proofs.Finding.{Implemented, Meant, implemented, meant}
use Rattle.law_linking.proofs.Naming.{filtered_same, filtered_mapped}
use Rattle.law_linking.proofs.Pairing.{is_body}
use Rattle.law_linking.proofs.Single.{has_definition, no_console}
use Rattle.law_exchange_jobs.specs.Sharing.{moved_compiled, ShareWhatIsNeeded}
use Rattle.law_exchange_jobs.proofs.Extending.{one_from}
use Rattle.law_exchange_jobs.proofs.Matching.{unless_mapped, picked_mapped}
use Rattle.law_exchange_jobs.proofs.Jobbing.{names_needed, ordered, ms, order, fine, IsJobOf, file_of, tree_of, job_named, IsNamed, named_job, job_by_name, none_named, row_is, smaller, needed_is, result_is}

-- a name among those that a module needs
directly : (m : Module) (name : List ℕ) → Among (names_needed m) name → DirectlyNeeds m name
directly m name a = elim (among_append_cases (cond (is_definition m) [] (m.name.name ∷ [])) (imported_names m) name a) [
  | inl here ↦ own (is_definition m) refl here
  | inr more ↦ inr more
]
  where
    own : (b : Bool) → is_definition m ≡ b → Among (cond b [] (m.name.name ∷ [])) name → DirectlyNeeds m name
    own true e a = absurd (none_among name a)
    own false e a = elim (among_cases m.name.name [] name a)
        [ inl s ↦ inl (e, s) | inr none ↦ absurd (none_among name none) ]

no_body : (m : Module) (name : List ℕ) → is_definition m ≡ true → DirectlyNeeds m name → Among (imported_names m) name
no_body m name d (inl body) = absurd (false≢true (sym body.0 ∙ d))
no_body m name d (inr a) = a

-- two programs, an exchange that takes the jobs of definitions to those of the same names, and the texts of definitions
module _ (given others : List Tree) (jobs : Jobs given) (other_jobs : Jobs others) (x : Exchange)
    (takes : (name : List ℕ) (j i : ℕ) → job_named given jobs name ≡ Some j → job_named others other_jobs name ≡ Some i
    → x.there j ≡ i)
    (root : Module) (shares : ShareWhatIsNeeded given others root) (texts : List Module)
    (have : (k : ℕ) (d : Module) → slice_get (given_trees given) k ≡ Some d → is_definition d ≡ true
    → slice_get texts k ≡ Some d) where
  -- The job and the one that it goes to compile this module, and what it needs is needed by the one that both have.
  pub record Stays (j : ℕ) (m : Module) : Type 0 where
    pub here : IsJobOf given jobs j m
    pub there : IsJobOf others other_jobs (x.there j) m
    pub text : slice_get texts (slice_index_or jobs.files j 0) ≡ Some m
    pub wanted : (name : List ℕ) → DirectlyNeeds m name → Needs given root name

  -- ---- definitions that both have

  record IsShared (name : List ℕ) (p : ℕ) : Type 0 where
    d : Module
    stays : Stays p d
    named : job_named others other_jobs name ≡ Some (x.there p)

  shared : (name : List ℕ) (p : ℕ) → Needs given root name → job_named given jobs name ≡ Some p → IsShared name p
  shared name p need e =
      let w : IsNamed given jobs name p = named_job given jobs name p e in
      let place : ℕ = given_of (ordered given jobs) w.is_job.node in
      let needs_it : Needs given root w.m.name.name = subst (λ (n : List ℕ). Needs given root n) w.same need in
      let in_given : slice_get (given_trees given) place ≡ Some w.m =
      tree_given given (ordered given jobs) jobs.is_graph.1 w.is_job.node w.m w.is_job.there in
      let among : Among (given_trees others) w.m = shares place w.m in_given w.kind needs_it in
      let node = given_among others (ordered others other_jobs) other_jobs.is_graph.1 w.m among in
      let b = job_by_name others other_jobs node.0 w.m node.1 w.kind in
      let named : job_named others other_jobs name ≡ Some b.0 =
      ap (λ (n : List ℕ). job_named others other_jobs n) w.same ∙ b.1 in
      let q : x.there p ≡ b.0 = takes name p b.0 e named in
      record {
        d = w.m;
        stays = record {
          here = w.is_job;
          there = subst (λ (i : ℕ). IsJobOf others other_jobs i w.m) (sym q) b.2;
          text = ap (slice_get texts) (file_of given jobs p w.m w.is_job) ∙ have place w.m in_given w.kind;
          wanted = λ n direct. (let more = no_body w.m n w.kind direct in
              further place more.0 w.m in_given w.kind needs_it more.1);
        };
        named = named ∙ ap Some (sym q);
      }

  -- ---- names without definition

  -- a program that has a definition
  no_program : (m : Module) (i : ℕ) → slice_get (ms others other_jobs) i ≡ Some m → is_program m ≡ true
      → is_definition m ≡ false → (k : ℕ) → definition_of (ms others other_jobs) m.name.name ≡ Some k → ⊥
  no_program m i at is body k e =
      let w : Meant (ms others other_jobs) m.name.name k = meant (ms others other_jobs) m.name.name k e in
      let g : Implemented (ms others other_jobs) w.m =
      implemented (ms others other_jobs) (fine others other_jobs) w.m (k, w.at) w.kind in
      let q : g.place ≡ i = (fine others other_jobs).apart g.place i g.m m g.at at (g.kind ∙ sym body)
      (sym g.same ∙ sym w.same) in
      let same : g.m ≡ m = same_Some g.m m (sym g.at ∙ ap (slice_get (ms others other_jobs)) q ∙ at) in
      false≢true (sym g.no_program ∙ ap is_program same ∙ is)

  undefined_own : (j : ℕ) (m : Module) → Stays j m → is_definition m ≡ false
      → definition_of (ms given jobs) m.name.name ≡ None → definition_of (ms others other_jobs) m.name.name ≡ None
  undefined_own j m s body none = by (is_program m) refl
    where
      program : is_program m ≡ true → (o : Option ℕ) → definition_of (ms others other_jobs) m.name.name ≡ o → o ≡ None
      program is None e = refl
      program is (Some k) e = absurd (no_program m s.there.node s.there.there is body k e)

      by : (b : Bool) → is_program m ≡ b → definition_of (ms others other_jobs) m.name.name ≡ None
      by true is = program is (definition_of (ms others other_jobs) m.name.name) refl
      by false is =
          let d = has_definition (ordered given jobs) jobs.is_graph.2.fine s.here.node m s.here.there
          (is_body m body is) in
          absurd (none-some d.0 (sym none ∙ d.1))

  undefined : (j : ℕ) (m : Module) (name : List ℕ) → Stays j m → DirectlyNeeds m name
      → definition_of (ms given jobs) name ≡ None → definition_of (ms others other_jobs) name ≡ None
  undefined j m name s (inl own) none =
      ap (definition_of (ms others other_jobs)) (sym own.1)
      ∙ undefined_own j m s own.0 (ap (definition_of (ms given jobs)) own.1 ∙ none)
  undefined j m name s (inr a) none =
      let i = map_among (λ (n : Ident). n.name) (imports_of m) name a in
      elim ((fine given jobs).imports m i.0 (s.here.node, s.here.there) i.1) [
        | inl console ↦ ap (definition_of (ms others other_jobs)) (sym i.2)
            ∙ no_console (ordered others other_jobs) other_jobs.is_graph.2.fine i.0.name console
        | inr some ↦ absurd (none-some some.0 (sym none ∙ ap (definition_of (ms given jobs)) (sym i.2) ∙ some.1))
      ]

  -- ---- what a job needs

  named_moves : (j : ℕ) (m : Module) (name : List ℕ) → Stays j m → DirectlyNeeds m name
      → job_named others other_jobs name ≡ option_map x.there (job_named given jobs name)
  named_moves j m name s direct = by (job_named given jobs name) refl
    where
      by : (o : Option ℕ) → job_named given jobs name ≡ o
          → job_named others other_jobs name ≡ option_map x.there (job_named given jobs name)
      by None e =
          ap (λ (o : Option ℕ). bound o (number_of (order others other_jobs)))
          (undefined j m name s direct (none_named given jobs name e))
          ∙ sym (ap (λ (o : Option ℕ). option_map x.there o) e)
      by (Some p) e = (shared name p (s.wanted name direct) e).named
          ∙ sym (ap (λ (o : Option ℕ). option_map x.there o) e)

  row_moves : (j : ℕ) (m : Module) → Stays j m
      → prerequisites_of other_jobs.needs (x.there j) ≡ map x.there (prerequisites_of jobs.needs j)
  row_moves j m s =
      let names : List (List ℕ) = names_needed m in
      let found : List ℕ = filter_map (job_named given jobs) names in
      row_is others other_jobs (x.there j) m s.there
      ∙ ap (λ (ks : List ℕ). unless (λ k. false) ks)
      (filtered_same (job_named others other_jobs) (λ n. option_map x.there (job_named given jobs n)) names
      (λ n a. named_moves j m n s (directly m n a))
      ∙ sym (filtered_mapped (job_named given jobs) x.there names))
      ∙ unless_mapped x.there (one_from x) (λ k. false) (λ k. false) (λ k. refl) found
      ∙ ap (map x.there) (sym (row_is given jobs j m s.here))

  needed_stays : (j : ℕ) (m : Module) → Stays j m → (p : ℕ) → Among (prerequisites_of jobs.needs j) p → (d : Module)
      × Stays p d
  needed_stays j m s p a =
      let found : List ℕ = filter_map (job_named given jobs) (names_needed m) in
      let b : Among found p = has_among found p
      (once_among (prerequisites_of jobs.needs j) found p (row_is given jobs j m s.here)
      (among_has (prerequisites_of jobs.needs j) p a)) in
      let r = filtered_among (job_named given jobs) (names_needed m) p b in
      let d : IsShared r.0 p = shared r.0 p (s.wanted r.0 (directly m r.0 r.1)) r.2 in
      (d.d, d.stays)

  -- ---- results

  abbrev these : List Compiled
  these = all_compiled texts jobs.files jobs.needs

  abbrev those : List Compiled
  those = all_compiled (given_trees others) other_jobs.files other_jobs.needs

  -- What becomes of each of these jobs moves, where this holds of what it needs.
  module _ (Holds : Module → ℕ → List Compiled → Type 0)
      (moves : (m : Module) (number : ℕ) (needed : List Compiled) → Holds m number needed
      → compilation_of m (x.there number) (map (moved_compiled x) needed)
      ≡ moved_compiled x (compilation_of m number needed))
      (holds : (j : ℕ) (m : Module) → Stays j m → Holds m j (needed_of texts jobs.files jobs.needs j)) where
    pub all_moved : (n j : ℕ) (m : Module) → j < n → Stays j m
        → slice_get those (x.there j) ≡ option_map (moved_compiled x) (slice_get these j)
    all_moved zero j m l s = absurd (omega (arith, l))
    all_moved (suc n) j m l s =
        let needed : List Compiled = needed_of texts jobs.files jobs.needs j in
        let picked : needed_of (given_trees others) other_jobs.files other_jobs.needs (x.there j)
        ≡ map (moved_compiled x) needed =
        sym (needed_is others other_jobs (given_trees others) (x.there j) m s.there)
        ∙ ap (items_at those) (row_moves j m s)
        ∙ picked_mapped x.there (moved_compiled x) these those (prerequisites_of jobs.needs j)
        (λ p a. (let d = needed_stays j m s p a in
        let before : p < j = smaller given jobs j p a in
        all_moved n p d.0 (omega (arith, l, before)) d.1))
        ∙ ap (map (moved_compiled x)) (needed_is given jobs texts j m s.here) in
        result_is others other_jobs (given_trees others) (x.there j) m s.there
        (tree_of others other_jobs (x.there j) m s.there)
        ∙ ap (λ (ns : List Compiled). Some (compilation_of m (x.there j) ns)) picked
        ∙ ap Some (moves m j needed (holds j m s))
        ∙ sym (ap (λ (o : Option Compiled). option_map (moved_compiled x) o)
        (result_is given jobs texts j m s.here s.text))
