-- A build of the same files has one outcome.
use Rattle.std.proofs.Common.{◌≡◌, inl, inr, ℕ, ◌*◌, ◌<◌, List, [], ◌∷◌, map, Result, Ok, Err, refl, sym, ap, subst, ◌∙◌, arith}
use Rattle.std.specs.Prelude.{IfOk}
use Rattle.std.specs.Global.{Vec}
use Rattle.std.proofs.lemmas.Option.{same_Some}
use Rattle.m2_rule.specs.RuleNumber.{number_of}
use Rattle.m2_rule.specs.declared.rule.Rule.TheVariants as rule
use Rattle.m2_rule.specs.declared.breach.Breach.{Breach}
use Rattle.build_jobs.specs.Compiling.{tables_of, typed_body}
use Rattle.m2_tree.specs.declared.refusal.Refusal.{Refusal}
use Rattle.m2_tree.specs.declared.decl.Module.{Module}
use Rattle.wasm_binary.specs.Binary.{module_encoding}
use Rattle.m2_graph.specs.declared.error.GraphError.TheVariants as graph_error
use Rattle.m2_graph.specs.Files.{number_files}
use Rattle.m2_graph.specs.Graph.{IsGraph, IsRefusal}
use Rattle.m2_graph.specs.Reported.{Reported as Tale, report_of as tale}
use Rattle.law_graph.proofs.Once.{one_graph, one_refusal, graph_or_refusal}
use Rattle.typed_tree.specs.declared.typed_module.TypedModule.{TypedModule}
use Rattle.def_meaning.specs.Environment.{Modules}
use Rattle.def_scheme.specs.Modules.{typed_link}
use Rattle.build_jobs.specs.declared.file.SourceFile.{SourceFile}
use Rattle.m2c.specs.declared.files.BuildFault.{BuildFault}
use Rattle.m2c.specs.declared.files.Outcome.{Outcome}
use Rattle.m2c.specs.declared.files.Outcome.TheVariants as outcome
use Rattle.build_jobs.specs.Jobs.{needed_of}
use Rattle.m2c.specs.Modules.{IsTyped, AreTyped}
use Rattle.build_results.specs.Reported.{Reported, report_of, reported_at, AreReported}
use Rattle.build_results.specs.Texts.{refused_of, modules}
use Rattle.build_results.specs.Results.{refused_by}
use Rattle.m2c.specs.Build.{built_of, name_bytes, data_and_stack, program_file, AreUngraphed, HaveGraph, IsProgram, IsBuilt, AreAlike}
use Rattle.m2c.proofs.Same.{same_refused, one_trees, trees_or_refused}
use Rattle.m2c.proofs.Ranks.{one_order}

-- ---- bodies

module _ (trees : List Module) (numbers : List ℕ) (jobs : List (List ℕ)) where
  one_typed : (s : ℕ) (t u : TypedModule) → IsTyped trees numbers jobs s t → IsTyped trees numbers jobs s u → t ≡ u
  one_typed s t u a b =
      let tree : a.tree ≡ b.tree = same_Some a.tree b.tree (sym a.is_tree ∙ b.is_tree) in
      let job : a.job ≡ b.job = same_Some a.job b.job (sym a.is_job ∙ b.is_job) in
      let same = ap (λ (m : Module). typed_body m a.job (tables_of (needed_of trees numbers jobs a.job))) tree
      ∙ ap (λ (k : ℕ). typed_body b.tree k (tables_of (needed_of trees numbers jobs k))) job in
      same_ok t u (sym a.typed ∙ same ∙ b.typed)
    where
      same_ok : (x y : TypedModule) → ◌≡◌ {A = Result TypedModule Breach} (Ok x) (Ok y) → x ≡ y
      same_ok x y e = cc

  pub one_program : (starts : List ℕ) (p q : Modules) → AreTyped trees numbers jobs starts p
      → AreTyped trees numbers jobs starts q → p ≡ q
  one_program [] [] [] a b = refl
  one_program (s ∷ ss) (t ∷ ts) (u ∷ us) a b = ap (λ (x : TypedModule). x ∷ ts) (one_typed s t u a.0 b.0)
      ∙ ap (λ (xs : Modules). u ∷ xs) (one_program ss ts us a.1 b.1)
  one_program [] (t ∷ ts) q a b = absurd a
  one_program [] [] (u ∷ us) a b = absurd b
  one_program (s ∷ ss) [] q a b = absurd a
  one_program (s ∷ ss) (t ∷ ts) [] a b = absurd b

-- ---- graphs

record Same (t u : List (List ℕ × Module)) (n m : List ℕ) (j k : List (List ℕ)) (s r : List ℕ) : Type 0 where
  trees : t ≡ u
  numbers : n ≡ m
  rows : j ≡ k
  starts : s ≡ r

module _ (files : List SourceFile) (t u : List (List ℕ × Module)) (n m : List ℕ) (j k : List (List ℕ)) (s r : List ℕ)
  where
    have_same : HaveGraph files t n j s → HaveGraph files u m k r → Same t u n m j k s r
    have_same h g =
        let e : t ≡ u = one_trees files t u h.are_trees g.are_trees in
        let w = one_graph (number_files 0 u) n m j k s r
        (subst (λ (x : List (List ℕ × Module)). IsGraph (number_files 0 x) n j s) e h.is_graph) g.is_graph in
        record { trees = e; numbers = w.0; rows = w.1; starts = w.2 }

    unreported_same : HaveGraph files t n j s → HaveGraph files u m k r → refused_by t n j ≡ refused_by u m k
    unreported_same h g =
        let w = have_same h g in
        ap (λ (x : List (List ℕ × Module)). refused_by x n j) w.trees ∙ ap (λ (x : List ℕ). refused_by u x j) w.numbers
        ∙ ap (refused_by u m) w.rows

    typed_same : HaveGraph files t n j s → HaveGraph files u m k r → (p q : Modules) → AreTyped (modules t) n j s p
        → AreTyped (modules u) m k r q → p ≡ q
    typed_same h g p q a b =
        let w = have_same h g in
        one_program (modules u) m k r p q
        (subst (λ (x : List ℕ). AreTyped (modules u) m k x p) w.starts
        (subst (λ (x : List (List ℕ)). AreTyped (modules u) m x s p) w.rows
        (subst (λ (x : List ℕ). AreTyped (modules u) x j s p) w.numbers
        (subst (λ (x : List (List ℕ × Module)). AreTyped (modules x) n j s p) w.trees a)))) b

-- a graph is there, or imports break rules
graph_or_reported : (files : List SourceFile) (t : List (List ℕ × Module)) (n : List ℕ) (j : List (List ℕ)) (s : List ℕ)
    (rs : Vec Refusal) → HaveGraph files t n j s → AreUngraphed files rs → ⊥
graph_or_reported files t n j s rs h (u, are, is) =
    graph_or_refusal (number_files 0 u) n j s rs
    (subst (λ (x : List (List ℕ × Module)). IsGraph (number_files 0 x) n j s) (one_trees files t u h.are_trees are)
    h.is_graph) is

-- ---- refusals

flat : Tale → Reported
flat t = reported_at t.file t.pos.line t.pos.col t.number

flat_all : (rs : List Refusal) → map report_of rs ≡ map flat (map tale rs)
unfolding flat
flat_all [] = refl
flat_all (r ∷ rs) = ap (λ xs. report_of r ∷ xs) (flat_all rs)

module _ (files : List SourceFile) (pages : ℕ) where
  abbrev AreRefused : Vec Refusal → Type 0
  AreRefused rs = IsBuilt files pages (outcome.Refused rs)

  both_refused : (rs qs : Vec Refusal) → AreRefused rs → AreRefused qs → map report_of rs.items ≡ map report_of qs.items
  both_refused rs qs (inl a) (inl b) = one_order (refused_of files a.reads) rs.items qs.items a.reported
      (subst (λ (all : List Reported). AreReported all qs.items)
      (same_refused files b.reads a.reads b.are_read a.are_read) b.reported)
  both_refused rs qs (inl a) (inr (inl (u, are, is))) = absurd (trees_or_refused files u a.reads are a.are_read a.some)
  both_refused rs qs (inl a) (inr (inr (inl b))) =
      absurd (trees_or_refused files b.trees a.reads b.graph.are_trees a.are_read a.some)
  both_refused rs qs (inl a) (inr (inr (inr b))) =
      absurd (trees_or_refused files b.trees a.reads b.graph.are_trees a.are_read a.some)
  both_refused rs qs (inr (inl (t, are, is))) (inl b) = absurd (trees_or_refused files t b.reads are b.are_read b.some)
  both_refused rs qs (inr (inl (t, are, is))) (inr (inl (u, are', is'))) =
      let e : t ≡ u = one_trees files t u are are' in
      let same = one_refusal (number_files 0 u) rs qs
      (subst (λ (x : List (List ℕ × Module)). IsRefusal (number_files 0 x) (graph_error.Refused rs)) e is) is' in
      flat_all rs.items ∙ ap (map flat) same ∙ sym (flat_all qs.items)
  both_refused rs qs (inr (inl a)) (inr (inr (inl b))) =
      absurd (graph_or_reported files b.trees b.numbers b.all_jobs b.starts rs b.graph a)
  both_refused rs qs (inr (inl a)) (inr (inr (inr b))) =
      absurd (graph_or_reported files b.trees b.numbers b.all_jobs b.starts rs b.graph a)
  both_refused rs qs (inr (inr (inl a))) (inl b) =
      absurd (trees_or_refused files a.trees b.reads a.graph.are_trees b.are_read b.some)
  both_refused rs qs (inr (inr (inl a))) (inr (inl b)) =
      absurd (graph_or_reported files a.trees a.numbers a.all_jobs a.starts qs a.graph b)
  both_refused rs qs (inr (inr (inl a))) (inr (inr (inl b))) =
      let same = unreported_same files b.trees a.trees b.numbers a.numbers b.all_jobs a.all_jobs b.starts a.starts
      b.graph a.graph in
      one_order (refused_by a.trees a.numbers a.all_jobs) rs.items qs.items a.reported
      (subst (λ (all : List Reported). AreReported all qs.items) same b.reported)
  both_refused rs qs (inr (inr (inl a))) (inr (inr (inr b))) =
      absurd (a.some (unreported_same files a.trees b.trees a.numbers b.numbers a.all_jobs b.all_jobs a.starts b.starts
      a.graph b.graph ∙ b.none))
  both_refused rs qs (inr (inr (inr a))) (inl b) =
      absurd (trees_or_refused files a.trees b.reads a.graph.are_trees b.are_read b.some)
  both_refused rs qs (inr (inr (inr a))) (inr (inl b)) =
      absurd (graph_or_reported files a.trees a.numbers a.all_jobs a.starts qs a.graph b)
  both_refused rs qs (inr (inr (inr a))) (inr (inr (inl b))) =
      absurd (b.some (unreported_same files b.trees a.trees b.numbers a.numbers b.all_jobs a.all_jobs b.starts a.starts
      b.graph a.graph ∙ a.none))
  both_refused rs qs (inr (inr (inr a))) (inr (inr (inr b))) =
      let same : b.trees ≡ a.trees = one_trees files b.trees a.trees b.graph.are_trees a.graph.are_trees in
      one_order (reported_at (program_file a.trees) 1 1 (number_of rule.LargeProgram) ∷ []) rs.items qs.items a.reported
      (subst (λ (t : List (List ℕ × Module)). AreReported
      (reported_at (program_file t) 1 1 (number_of rule.LargeProgram) ∷ []) qs.items) same b.reported)

  never_both : (rs : Vec Refusal) (link : List ℕ) (built : List (List ℕ × List ℕ)) → AreRefused rs
      → IsProgram files pages link built → ⊥
  never_both rs link built (inl a) p = trees_or_refused files p.trees a.reads p.graph.are_trees a.are_read a.some
  never_both rs link built (inr (inl a)) p = graph_or_reported files p.trees p.numbers p.all_jobs p.starts rs p.graph a
  never_both rs link built (inr (inr (inl a))) p =
      a.some (unreported_same files a.trees p.trees a.numbers p.numbers a.all_jobs p.all_jobs a.starts p.starts a.graph
      p.graph ∙ p.none)
  never_both rs link built (inr (inr (inr a))) p =
      let same : a.program ≡ p.program = typed_same files a.trees p.trees a.numbers p.numbers a.all_jobs p.all_jobs
      a.starts p.starts a.graph p.graph a.program p.program a.typed p.typed in
      let more : 65536 * pages < data_and_stack p.program =
      subst (λ (q : Modules). 65536 * pages < data_and_stack q) same a.too_large in
      omega (arith, more, p.fits)

  -- ---- the whole

  both_built : (link other : List ℕ) (built others : List (List ℕ × List ℕ)) → IsProgram files pages link built
      → IsProgram files pages other others → (link ≡ other) × (built ≡ others)
  both_built link other built others p q =
      let same : p.program ≡ q.program = typed_same files p.trees q.trees p.numbers q.numbers p.all_jobs q.all_jobs
      p.starts q.starts p.graph q.graph p.program q.program p.typed q.typed in (
        p.code.link_encoded.encoding ∙ ap (λ (x : Modules). module_encoding (typed_link x pages)) same
            ∙ sym q.code.link_encoded.encoding,
        p.code.body_bytes ∙ ap (map built_of) same ∙ sym q.code.body_bytes,
      )

pub one_built : (files : List SourceFile) (pages : ℕ) (o p : Outcome) → IsBuilt files pages o → IsBuilt files pages p
    → AreAlike o p
one_built files pages (outcome.Refused rs) (outcome.Refused qs) a b = both_refused files pages rs qs a b
one_built files pages (outcome.Refused rs) (outcome.Built link built) a b =
    never_both files pages rs link.items (map name_bytes built.items) a b
one_built files pages (outcome.Built link built) (outcome.Refused qs) a b =
    never_both files pages qs link.items (map name_bytes built.items) b a
one_built files pages (outcome.Built link built) (outcome.Built other others) a b =
    both_built files pages link.items other.items (map name_bytes built.items) (map name_bytes others.items) a b

-- what a build answers is the only outcome of its files
pub only_built : (files : List SourceFile) (pages : ℕ) (r : Result Outcome BuildFault) → IfOk r (IsBuilt files pages)
    → IfOk r (λ o. (other : Outcome) → IsBuilt files pages other → AreAlike o other)
only_built files pages (Ok o) built = λ other also. one_built files pages o other built also
only_built files pages (Err fault) built = tt
