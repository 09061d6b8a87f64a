-- Graphs, as the build goes on with them.
use Rattle.std.proofs.Common.{◌≡◌, ◌⊎◌, inl, inr, ℕ, ◌≤◌, ◌<◌, ◌+◌, ◌*◌, Bool, true, false, List, [], ◌∷◌, ◌++◌, length, map, Option, refl, ap, sym, subst, ◌∙◌, arith}
use Rattle.std.specs.Prelude.{slice_get, nat_lt, All}
use Rattle.std.specs.List.{list_all}
use Rattle.std.specs.Borrow.{Bor}
use Rattle.m2_tree.specs.declared.decl.Module.{Module}
use Rattle.wasm_binary.specs.Binary.{module_encoding, module_fits, Encodes}
use Rattle.wasm_binary.proofs.LawsModule.{one_module}
use Rattle.m2_graph.specs.Files.{number_files}
use Rattle.std.proofs.lemmas.List.{length-map}
use Rattle.std.proofs.lemmas.List.Elements.{All-cons, All-head, All-tail}
use Rattle.std.proofs.lemmas.Bool.{ltb-true, ltb-false}
use Rattle.m2_rule.specs.RuleNumber.{number_of}
use Rattle.m2_rule.specs.declared.rule.Rule.TheVariants as rule
use Rattle.wasm_tree.specs.declared.module.WModule.{WModule}
use Rattle.wasm_tree.specs.Validity.{IsValid}
use Rattle.m2_tree.specs.declared.refusal.Refusal.{Refusal}
use Rattle.typed_tree.specs.declared.typed_module.TypedModule.{TypedModule}
use Rattle.layout_storage.specs.Sizes.{size}
use Rattle.layout_storage.specs.Frames.{module_row}
use Rattle.layout_storage.specs.Texts.{characters, module_texts}
use Rattle.def_meaning.specs.Environment.{Modules}
use Rattle.def_meaning.specs.Runs.{run}
use Rattle.def_scheme.specs.Modules.{Part, typed_module, typed_link, part_of, link_of, stack_begin, max_pages}
use Rattle.m2_emit.specs.declared.emitted.ModuleBytes.{ModuleBytes}
use Rattle.emit_buffer.specs.Cut.{cut_module}
use Rattle.emit_buffer.specs.Fitting.{sizes_fit}
use Rattle.m2_emit.specs.Emitted.{emitted, parts, code_bytes, link_part}
use Rattle.m2_emit.proofs.Encoded.{emitted_kept, fits_bytes}
use Rattle.build_jobs.specs.declared.file.SourceFile.{SourceFile}
use Rattle.build_jobs.specs.declared.outcome.Compiled.{Compiled}
use Rattle.build_jobs.specs.declared.reading.Read.{Read}
use Rattle.build_jobs.specs.Reading.{AreRead}
use Rattle.build_jobs.specs.Jobs.{all_compiled}
use Rattle.build_jobs.specs.Borrowed.{borrow_trees, modules_borrowed}
use Rattle.build_results.specs.Results.{result_of, module_in, modules_at, refusal_in, refused_from, refused_by, start_modules}
use Rattle.m2c.specs.Build.{AreEncoded as BytesEncode}
use Rattle.build_results.specs.Reported.{Reported, AreReported, reported_at}
use Rattle.m2c.specs.Build.{built_of, named_bytes, program_file, HaveGraph, IsTooLarge, IsProgram}
use Rattle.build_results.specs.Texts.{modules, refused_of, trees_of, AreTrees}
use Rattle.m2c.specs.Outcomes.{BreakImports, BreakRules, AreLarge, HaveModules, HaveOutcome, FilesHaveOutcomes}
use Rattle.law_modules.specs.Linked.{IsLinkable, all}
use Rattle.law_well_formed.proofs.RangesTypes.{both_left, both_right}
use Rattle.law_simulation.specs.Modules.{AreModules, AreTypedModules}
use Rattle.law_simulation.proofs.LinkedPrograms.{typed_behave}
use Rattle.law_orders.proofs.Orders.{orders_behave}
use Rattle.law_nothing_missing.proofs.Programs.{strict_runs, nothing_lacks}
use Rattle.law_modules.proofs.Placed.{modules_link}
use Rattle.law_graph.proofs.Outcomes.{graph_or_refused}
use Rattle.law_programs.proofs.Links.{slots_few, link_valid}
use Rattle.m2c.proofs.Ruled.{all_ruled}
use Rattle.m2c.proofs.Readings.{files_are_read}
use Rattle.m2c.proofs.Valid.{all_valid}
use Rattle.m2c.proofs.Programs.{AreBuilt}
use Rattle.m2c.proofs.Encodings.{as_many, whole, bodies_few, begin_is, linkable, modules_are, typed_are, encodings, sizes_all}

abbrev module_bytes : WModule → List ℕ
module_bytes t = module_encoding t

-- bytes encode no other modules
one_encoded : (bytes : List (List ℕ)) (ms ns : List WModule) → BytesEncode bytes ms → BytesEncode bytes ns → ms ≡ ns
one_encoded [] [] [] h k = refl
one_encoded (b ∷ bs) (m ∷ ms) (n ∷ ns) h k = ap (λ (x : WModule). x ∷ ms) (one_module b m n h.0 k.0)
    ∙ ap (λ (xs : List WModule). n ∷ xs) (one_encoded bs ms ns h.1 k.1)
one_encoded [] [] (n ∷ ns) h k = absurd k
one_encoded [] (m ∷ ms) ns h k = absurd h
one_encoded (b ∷ bs) [] ns h k = absurd h
one_encoded (b ∷ bs) (m ∷ ms) [] h k = absurd k

-- their modules have encodings, and the sizes of their types are kept uncut
abbrev AreFit : Modules → Type 0
AreFit [] = Unit {0}
AreFit (t ∷ ts) = (module_fits (typed_module t) ≡ true) × (sizes_fit t.types ≡ true) × AreFit ts

bodies_fit : (p : Modules) → All (λ m. sizes_fit m.types ≡ true) p → list_all module_fits (map typed_module p) ≡ true
    → AreFit p
bodies_fit [] s e = tt
bodies_fit (m ∷ ms) s e = (
  both_left (module_fits (typed_module m)) (list_all module_fits (map typed_module ms)) e,
  All-head (λ m. sizes_fit m.types ≡ true) m ms s,
  bodies_fit ms (All-tail (λ m. sizes_fit m.types ≡ true) m ms s)
      (both_right (module_fits (typed_module m)) (list_all module_fits (map typed_module ms)) e),
)

-- the bytes of modules that have encodings encode them
pub all_encoded : (p : Modules) → AreFit p → BytesEncode (map module_bytes (map typed_module p)) (map typed_module p)
all_encoded [] f = tt
all_encoded (m ∷ ms) f = (record { fits = f.0; encoding = refl }, all_encoded ms f.2)

abbrev bytes_of : TypedModule → List ℕ
bytes_of m = module_encoding (typed_module m)

seconds : (p : Modules) → map (λ m. m.1) (map built_of p) ≡ map module_bytes (map typed_module p)
seconds [] = refl
seconds (m ∷ ms) = ap (λ (xs : List (List ℕ)). bytes_of m ∷ xs) (seconds ms)

named_emitted : (p : Modules) → AreFit p → map named_bytes (map emitted p) ≡ map built_of p
unfolding emitted
named_emitted [] f = refl
named_emitted (m ∷ ms) f =
    ap (λ (bytes : List ℕ). (m.name, bytes) ∷ map named_bytes (map emitted ms)) (emitted_kept m f.1 f.0).bytes
    ∙ ap (λ (xs : List (List ℕ × List ℕ)). built_of m ∷ xs) (named_emitted ms f.2)

parts_emitted : (p : Modules) → AreFit p → parts (map emitted p) ≡ map part_of p
parts_emitted [] f = refl
parts_emitted (m ∷ ms) f =
    ap (λ (x : Part). x ∷ parts (map emitted ms)) (emitted_kept m f.1 f.0).part
    ∙ ap (λ (xs : List Part). part_of m ∷ xs) (parts_emitted ms f.2)

begin_emitted : (p : Modules) → stack_begin (parts (map emitted p)) ≡ stack_begin (map part_of p)
unfolding emitted
begin_emitted [] = refl
begin_emitted (m ∷ ms) = ap (λ (n : ℕ). size (module_row m) + characters (module_texts m) + n) (begin_emitted ms)

-- ---- the program

module _ (files : List SourceFile) (fs : List (List ℕ × Module)) (numbers : List ℕ) (jobs : List (List ℕ))
    (starts : List ℕ) (have : HaveGraph files fs numbers jobs starts) (none : refused_by fs numbers jobs ≡ []) where
  abbrev those : List ModuleBytes
  those = start_modules fs numbers jobs starts

  abbrev its : AreBuilt fs numbers jobs have.each (as_many files fs numbers jobs starts have none) none starts
  its = whole files fs numbers jobs starts have none

  pub program_count : length those ≤ 1024
  program_count = omega (
    arith,
    bodies_few files fs numbers jobs starts have none,
    ap length its.are,
    length-map
        its.program emitted,
  )

  pub data_is : stack_begin (parts those) + 4096 ≡ stack_begin (map part_of its.program) + 4096
  data_is = ap (λ (ms : List ModuleBytes). stack_begin (parts ms) + 4096) its.are
      ∙ ap (λ (n : ℕ). n + 4096) (begin_emitted its.program)

  -- what is built is the program
  pub is_program : (pages : ℕ) → 1 ≤ pages → pages ≤ 1024 → stack_begin (parts those) + 4096 ≤ 65536 * pages
      → (link : List ℕ) (built : List (List ℕ × List ℕ))
      → link ≡ code_bytes (cut_module (link_of (parts those) pages)) → built ≡ map named_bytes those
      → IsProgram files pages link built
  is_program pages least most fits link built link_is built_are =
      let p : Modules = its.program in
      let fits_all : stack_begin (map part_of p) + 4096 ≤ 65536 * pages =
      subst (λ (n : ℕ). n ≤ 65536 * pages) data_is fits in
      let linkable : IsLinkable p pages = linkable files fs numbers jobs starts have none pages least most fits_all in
      let modules_are : AreModules p = modules_are files fs numbers jobs starts have none pages least most fits_all in
      let typed_are : AreTypedModules p pages =
      typed_are files fs numbers jobs starts have none pages least most fits_all in
      let encoded : list_all module_fits (all p pages) ≡ true =
      encodings files fs numbers jobs starts have none pages least most fits_all in
      let bodies : AreFit p = bodies_fit p (sizes_all files fs numbers jobs starts have none)
      (both_right (module_fits (typed_link p pages)) (list_all module_fits (map typed_module p)) encoded) in
      let same_link : link_of (parts those) pages ≡ typed_link p pages =
      ap (λ (ms : List ModuleBytes). link_of (parts ms) pages) its.are
      ∙ ap (λ (ps : List Part). link_of ps pages) (parts_emitted p bodies) in
      let link_fits : module_fits (typed_link p pages) ≡ true =
      both_left (module_fits (typed_link p pages)) (list_all module_fits (map typed_module p)) encoded in
      let link_encoded : Encodes link (typed_link p pages) = record {
        fits = link_fits;
        encoding = link_is ∙ ap (λ (w : WModule). code_bytes (cut_module w)) same_link
            ∙ fits_bytes (typed_link p pages) link_fits;
      }
      in
      let built_whole : built ≡ map built_of p = built_are ∙ ap (map named_bytes) its.are ∙ named_emitted p bodies in
      let codes : map (λ m. m.1) built ≡ map module_bytes (map typed_module p) =
      ap (λ (ms : List (List ℕ × List ℕ)). map (λ m. m.1) ms) built_whole ∙ seconds p in
      let bodies_encoded : BytesEncode (map (λ m. m.1) built) (map typed_module p) =
      subst (λ (bs : List (List ℕ)). BytesEncode bs (map typed_module p)) (sym codes) (all_encoded p bodies) in
      let behaves = typed_behave p pages linkable fits_all most (slots_few p pages link_encoded.fits) modules_are
      typed_are in record {
        trees = fs;
        numbers = numbers;
        all_jobs = jobs;
        starts = starts;
        graph = have;
        ruled = all_ruled fs numbers jobs starts have.is_graph;
        none = none;
        program = p;
        typed = its.typed;
        fits = subst (λ (n : ℕ). n + 4096 ≤ 65536 * pages) (begin_is p) fits_all;
        code = record {
          link_encoded = link_encoded;
          body_bytes = built_whole;
          encoded = bodies_encoded;
          no_others = λ others h. one_encoded (link ∷ map (λ m. m.1) built) others
              (typed_link p pages ∷ map typed_module p) h (link_encoded, bodies_encoded);
        };
        links = (_, modules_link p pages linkable);
        behaves = behaves;
        orders = λ others order. orders_behave p pages linkable (run p pages) behaves.0 behaves.1 behaves.2 others
            order;
        strict = λ lacking n. strict_runs p pages modules_are typed_are lacking n;
        whole = λ lacking n above out e. nothing_lacks p pages modules_are typed_are lacking n above out e;
        valid = All-cons IsValid (typed_link p pages) (map typed_module p)
            (link_valid p pages (omega (arith, most)) link_encoded.fits linkable.distinct)
            (all_valid fs numbers jobs starts have.is_graph starts p its.typed);
      }

  pub is_too_large : (pages : ℕ) → 65536 * pages < stack_begin (parts those) + 4096 → (refusals : List Refusal)
      → AreReported (reported_at (program_file fs) 1 1 (number_of rule.LargeProgram) ∷ []) refusals
      → IsTooLarge files pages refusals
  is_too_large pages more refusals reported = record {
    trees = fs;
    numbers = numbers;
    all_jobs = jobs;
    starts = starts;
    graph = have;
    ruled = all_ruled fs numbers jobs starts have.is_graph;
    none = none;
    program = its.program;
    typed = its.typed;
    too_large = subst (λ (n : ℕ). 65536 * pages < n + 4096) (begin_is its.program)
        (subst (λ (n : ℕ). 65536 * pages < n) data_is more);
    reported = reported;
  }

  -- there are modules for it, if it fits
  pub has_modules : (pages : ℕ) → 1 ≤ pages → pages ≤ 1024 → stack_begin (parts those) + 4096 ≤ 65536 * pages
      → HaveModules files pages
  has_modules pages least most fits =
      let link : List ℕ = code_bytes (cut_module (link_of (parts those) pages)) in record {
        link = link;
        built = map named_bytes those;
        is_program = is_program pages least most fits link (map named_bytes those) refl refl;
      }

  is_large : (pages : ℕ) → 65536 * pages < stack_begin (parts those) + 4096 → AreLarge files pages
  is_large pages more = record {
    trees = fs;
    numbers = numbers;
    all_jobs = jobs;
    starts = starts;
    graph = have;
    none = none;
    program = its.program;
    typed = its.typed;
    too_large = subst (λ (n : ℕ). 65536 * pages < n + 4096) (begin_is its.program)
        (subst (λ (n : ℕ). 65536 * pages < n) data_is more);
  }

  pub by_size : (pages : ℕ) → 1 ≤ pages → pages ≤ 1024 → AreLarge files pages ⊎ HaveModules files pages
  by_size pages least most = by (nat_lt (65536 * pages) (stack_begin (parts those) + 4096)) refl where
    by : (b : Bool) → nat_lt (65536 * pages) (stack_begin (parts those) + 4096) ≡ b → AreLarge files pages
        ⊎ HaveModules files pages
    by true e = inl (is_large pages (ltb-true (65536 * pages) (stack_begin (parts those) + 4096) e))
    by false e = inr (has_modules pages least most (ltb-false (65536 * pages) (stack_begin (parts those) + 4096) e))

module _ (files : List SourceFile) (pages : ℕ) (least : 1 ≤ pages) (most : pages ≤ 1024) where
  -- files with a graph
  with_graph : (fs : List (List ℕ × Module)) (numbers : List ℕ) (jobs : List (List ℕ)) (starts : List ℕ)
      → HaveGraph files fs numbers jobs starts → BreakRules files ⊎ (AreLarge files pages ⊎ HaveModules files pages)
  with_graph fs numbers jobs starts have = by (refused_by fs numbers jobs) refl where
    by : (rs : List Reported) → refused_by fs numbers jobs ≡ rs → BreakRules files
        ⊎ (AreLarge files pages ⊎ HaveModules files pages)
    by [] none = inr (by_size files fs numbers jobs starts have none pages least most)
    by (r ∷ rs) some = inl (record {
      trees = fs;
      numbers = numbers;
      all_jobs = jobs;
      starts = starts;
      graph = have;
      some = λ none. let no : r ∷ rs ≡ [] = sym some ∙ none in absurd cc;
    })

  -- files whose texts have trees
  with_trees : (fs : List (List ℕ × Module)) → AreTrees files fs → BreakImports files
      ⊎ (BreakRules files ⊎ (AreLarge files pages ⊎ HaveModules files pages))
  with_trees fs are = elim (graph_or_refused (number_files 0 fs)) [
    | inl g ↦ inr (with_graph fs g.numbers g.jobs g.starts
        (record { are_trees = are; is_graph = g.is_graph; each = g.each }))
    | inr r ↦ inl (record { trees = fs; are_trees = are; refused = r })
  ]

-- of files that are read
outcome_of : (files : List SourceFile) (reads : List Read) → AreRead files reads → (pages : ℕ) → 1 ≤ pages
    → pages ≤ max_pages → HaveOutcome files pages
outcome_of files reads are pages least most = by (refused_of files reads) refl where
  by : (rs : List Reported) → refused_of files reads ≡ rs → HaveOutcome files pages
  by [] none = inr (with_trees files pages least most (trees_of files reads)
      (record { reads = reads; are_read = are; fine = none; all = refl }))
  by (r ∷ rs) some = inl (record {
    reads = reads;
    are_read = are;
    some = λ none. let no : r ∷ rs ≡ [] = sym some
        ∙ none in absurd cc;
  })

pub files_have_outcomes : FilesHaveOutcomes
files_have_outcomes files pages least most = let r = files_are_read files in outcome_of files r.0 r.1 pages least most
