-- The modules of a program that breaks no rule have encodings.
use Rattle.std.proofs.Common.{◌≡◌, ℕ, zero, suc, ◌≤◌, ◌+◌, ◌*◌, true, List, [], ◌∷◌, map, length, Option, Some, None, refl, sym, ap, subst, arith}
use Rattle.std.specs.Prelude.{All, slice_get}
use Rattle.std.specs.List.{list_all, list_any}
use Rattle.std.specs.Str.{bytes_eq}
use Rattle.std.specs.Arc.{arc_value}
use Rattle.std.proofs.lemmas.List.Elements.{All-nil, All-cons}
use Rattle.m2_tree.specs.declared.decl.Module.{Module}
use Rattle.wasm_binary.specs.Binary.{module_fits}
use Rattle.law_graph.specs.Started.{AreStarted, at_places}
use Rattle.law_graph.proofs.Started.{are_started}
use Rattle.typed_tree.specs.declared.table.Table.{Table}
use Rattle.typed_tree.specs.declared.typed_module.TypedModule.{TypedModule}
use Rattle.check_scope.specs.Elaborated.{least}
use Rattle.layout_storage.specs.Sizes.{size}
use Rattle.layout_storage.specs.Frames.{module_row}
use Rattle.layout_storage.specs.Texts.{characters, module_texts}
use Rattle.layout_storage.proofs.Sized.{all_fits}
use Rattle.def_meaning.specs.Environment.{Modules}
use Rattle.def_meaning.specs.Runs.{data_size}
use Rattle.def_scheme.specs.Modules.{part_of, stack_begin}
use Rattle.law_modules.specs.Linked.{IsLinkable, imported_names, all}
use Rattle.law_simulation.specs.Modules.{AreModules, AreTypedModules}
use Rattle.law_well_formed.proofs.Sizes.{all_fit}
use Rattle.law_encoding.specs.DeclaredProcedures.{ExportsOnce}
use Rattle.law_encoding.specs.ProgramsRoom.{HasStorage, IsAccepted, IsSmallProgram}
use Rattle.law_encoding.proofs.AcceptedPrograms.{least_fit}
use Rattle.law_programs.specs.FormedGraphs.{IsFit}
use Rattle.law_programs.proofs.Graphs.{graphs_coherent}
use Rattle.law_programs.proofs.GraphModules.{are_modules}
use Rattle.law_programs.proofs.TypedModules.{each_at, are_typed}
use Rattle.build_jobs.specs.declared.file.SourceFile.{SourceFile}
use Rattle.build_jobs.specs.declared.reading.Read.{Read}
use Rattle.build_jobs.specs.declared.reading.Read.TheVariants as read
use Rattle.build_jobs.specs.Reading.{HasTree, AreRead}
use Rattle.build_jobs.specs.Own.{own_table, tables_behind}
use Rattle.build_jobs.specs.Compiling.{tables_of}
use Rattle.build_jobs.specs.Jobs.{needed_of}
use Rattle.build_jobs.proofs.Rounds.{jobs_count}
use Rattle.m2c.specs.Modules.{IsTyped, AreTyped}
use Rattle.build_results.specs.Texts.{modules, trees_of, AreTrees}
use Rattle.build_results.specs.Results.{refused_by}
use Rattle.m2c.specs.Build.{data_and_stack, HaveGraph}
use Rattle.m2c.specs.Encodings.{ProgramsFit}
use Rattle.m2c.proofs.Programs.{AreBuilt, all_built, distinct_all, count_all}
use Rattle.m2c.proofs.Linked.{own_known, needed_tables, all_modules}
use Rattle.m2c.proofs.Kept.{sizes_kept}
use Rattle.emit_buffer.specs.Fitting.{sizes_fit}
use Rattle.m2c.proofs.Fitting.{trees_fit, trees_whole, bodies_in}
use Rattle.m2c.proofs.Alike.{one_program}

-- ---- texts

-- the text that a tree is read from
record IsText (m : Module) : Type 0 where
  text : List ℕ
  has : HasTree text m

text_at : (files : List SourceFile) (reads : List Read) → AreRead files reads → (k : ℕ) (m : Module)
    → slice_get (modules (trees_of files reads)) k ≡ Some m → IsText m
text_at [] reads h k m e = absurd cc
text_at (f ∷ fs) [] h k m e = absurd cc
text_at (f ∷ fs) (read.Refused pos number ∷ rs) h k m e = text_at fs rs h.1 k m e
text_at (f ∷ fs) (read.Parsed tree ∷ rs) h zero m e =
    let same : arc_value tree ≡ m = cc in subst IsText same (record { text = f.bytes.items; has = h.0 })
text_at (f ∷ fs) (read.Parsed tree ∷ rs) h (suc k) m e = text_at fs rs h.1 k m e

text_of : (files : List SourceFile) (fs : List (List ℕ × Module)) → AreTrees files fs → (k : ℕ) (m : Module)
    → slice_get (modules fs) k ≡ Some m → IsText m
text_of files fs are k m e = text_at files are.reads are.are_read k m
    (subst (λ (xs : List (List ℕ × Module)). slice_get (modules xs) k ≡ Some m) are.all e)

once_by : (o : Option Table) → ((t : Table) → o ≡ Some t → ExportsOnce (Some t)) → ExportsOnce o
once_by None k = tt
once_by (Some t) k = k t refl

all_from : (P : TypedModule → Type 0) (ms : List TypedModule)
    → ((k : ℕ) (m : TypedModule) → slice_get ms k ≡ Some m → P m) → All P ms
all_from P [] h = All-nil P
all_from P (m ∷ ms) h = All-cons P m ms (h zero m refl) (all_from P ms (λ k n e. h (suc k) n e))

-- the code and the meaning begin the stack at one place
pub begin_is : (p : Modules) → stack_begin (map part_of p) ≡ data_size p
begin_is [] = refl
begin_is (m ∷ ms) = ap (λ (n : ℕ). size (module_row m) + characters (module_texts m) + n) (begin_is ms)

-- ---- the program

module _ (files : List SourceFile) (fs : List (List ℕ × Module)) (numbers : List ℕ) (jobs : List (List ℕ))
    (starts : List ℕ) (have : HaveGraph files fs numbers jobs starts) (none : refused_by fs numbers jobs ≡ []) where
  pub as_many : length numbers ≡ length jobs
  as_many = jobs_count _ numbers jobs starts have.is_graph

  pub are : AreStarted (modules fs) starts
  are = are_started fs numbers jobs starts have.is_graph

  abbrev pub whole : AreBuilt fs numbers jobs have.each as_many none starts
  whole = all_built fs numbers jobs have.each as_many none starts are

  pub bodies_few : length whole.program ≤ 1024
  bodies_few = count_all fs numbers jobs have.each as_many none starts are

  -- ---- each module is accepted, and has storage

  accepted_one : (s : ℕ) (t : TypedModule) → IsTyped (modules fs) numbers jobs s t → IsAccepted least t
  accepted_one s t typed =
      let tables : List Table = tables_of (needed_of (modules fs) numbers jobs typed.job) in
      let own : Option Table = own_table typed.tree tables in
      let read : IsText typed.tree = text_of files fs have.are_trees s typed.tree typed.is_tree in
      record {
        text = read.text;
        tokens = read.has.tokens;
        short = read.has.divides.short;
        scanned = read.has.divides.divides;
        tree = typed.tree;
        parsed = read.has.is_tree;
        number = typed.job;
        own = own;
        own_once = once_by own (λ o e. (own_known fs numbers jobs starts have.is_graph typed.tree tables o
            (needed_tables fs numbers jobs starts have.is_graph typed.job) e).0.once);
        tables = tables_behind own tables;
        accepted = typed.typed;
      }

  accepted_all : (ss : List ℕ) (p : Modules) → AreTyped (modules fs) numbers jobs ss p → All (IsAccepted least) p
  accepted_all [] [] h = All-nil (IsAccepted least)
  accepted_all [] (t ∷ ts) h = absurd h
  accepted_all (s ∷ ss) [] h = absurd h
  accepted_all (s ∷ ss) (t ∷ ts) h = All-cons (IsAccepted least) t ts (accepted_one s t h.0) (accepted_all ss ts h.1)

  storage_at : (k : ℕ) (m : TypedModule) → slice_get whole.program k ≡ Some m → HasStorage m
  storage_at k m e =
      let known = graphs_coherent fs numbers jobs starts have.is_graph have.each (trees_fit files fs have.are_trees)
      whole.program (bodies_in fs numbers jobs starts whole.program whole.typed) k m e in
      record {
        types = all_fit m.types known.1.1 known.1.0;
        storage = all_fits m (each_at IsFit whole.program whole.small k m e).small;
      }

  sizes_at : (k : ℕ) (m : TypedModule) → slice_get whole.program k ≡ Some m → sizes_fit m.types ≡ true
  sizes_at k m e =
      let known = graphs_coherent fs numbers jobs starts have.is_graph have.each (trees_fit files fs have.are_trees)
      whole.program (bodies_in fs numbers jobs starts whole.program whole.typed) k m e in
      sizes_kept m.types known.1.1 known.1.0

  pub sizes_all : All (λ m. sizes_fit m.types ≡ true) whole.program
  sizes_all = all_from (λ m. sizes_fit m.types ≡ true) whole.program sizes_at

  -- ---- in pages with room

  module _ (pages : ℕ) (some : 1 ≤ pages) (most : pages ≤ 1024)
      (fits : stack_begin (map part_of whole.program) + 4096 ≤ 65536 * pages) where
    pub linkable : IsLinkable whole.program pages
    linkable = record {
      distinct = distinct_all fs numbers jobs have.each as_many none starts are;
      imports = subst (λ (ns : List (List ℕ)). All
          (λ m. All (λ n. list_any (λ other. bytes_eq other n) ns ≡ true) (imported_names m)) whole.program)
          (sym whole.names)
          (all_modules fs numbers jobs starts have.is_graph (at_places (modules fs) starts) starts whole.program
          whole.typed are.closed);
      memory = some;
      room = omega (arith, fits);
    }

    pub modules_are : AreModules whole.program
    modules_are =
        are_modules fs numbers jobs starts have.is_graph have.each (trees_fit files fs have.are_trees)
        (trees_whole files fs have.are_trees) whole.program
        (bodies_in fs numbers jobs starts whole.program whole.typed) whole.small pages fits most

    pub typed_are : AreTypedModules whole.program pages
    typed_are =
        are_typed fs numbers jobs starts have.is_graph have.each (trees_fit files fs have.are_trees)
        (trees_whole files fs have.are_trees) whole.program
        (bodies_in fs numbers jobs starts whole.program whole.typed) pages fits most

    is_small : IsSmallProgram whole.program pages
    is_small = record { linkable = linkable; memory = most; modules = bodies_few }

    pub encodings : list_all module_fits (all whole.program pages) ≡ true
    encodings =
        least_fit whole.program pages modules_are typed_are (accepted_all starts whole.program whole.typed)
        (all_from HasStorage whole.program storage_at) is_small

-- ---- the law

pub programs_fit : ProgramsFit
programs_fit files fs numbers jobs starts have none p typed pages some most fits =
    let w = whole files fs numbers jobs starts have none in
    let same : w.program ≡ p = one_program (modules fs) numbers jobs starts w.program p w.typed typed in
    let room : stack_begin (map part_of w.program) + 4096 ≤ 65536 * pages =
    subst (λ (n : ℕ). n + 4096 ≤ 65536 * pages) (sym (begin_is w.program))
    (subst (λ (q : Modules). data_and_stack q ≤ 65536 * pages) (sym same) fits)
    in
    subst (λ (q : Modules). list_all module_fits (all q pages) ≡ true) same
    (encodings files fs numbers jobs starts have none pages some most room)
