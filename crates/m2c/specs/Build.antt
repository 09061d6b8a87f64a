-- What the build of files answers.
use Rattle.std.specs.Prelude.{◌≡◌, ◌≢◌, ◌⊎◌, ℕ, ◌+◌, ◌*◌, ◌<◌, ◌≤◌, Bool, true, false, if◌then◌else◌, List, [], ◌∷◌, map, Ok, String, All}
use Rattle.std.specs.String.{string_bytes}
use Rattle.std.specs.Global.{Global, Vec}
use Rattle.m2_rule.specs.RuleNumber.{number_of}
use Rattle.m2_rule.specs.declared.rule.Rule.TheVariants as rule
use Rattle.m2_tree.specs.declared.refusal.Refusal.{Refusal}
use Rattle.m2_tree.specs.declared.decl.Contents.{Contents}
use Rattle.m2_tree.specs.declared.decl.Contents.TheVariants as contents
use Rattle.m2_tree.specs.declared.decl.Module.{Module}
use Rattle.wasm_binary.specs.Binary.{module_encoding, Encodes}
use Rattle.wasm_tree.specs.declared.module.WModule.{WModule}
use Rattle.wasm_tree.specs.Validity.{IsValid}
use Rattle.wasm_tree.specs.Machine.{Config}
use Rattle.wasm_tree.specs.Linking.{link as linked}
use Rattle.m2_graph.specs.declared.error.GraphError.TheVariants as graph_error
use Rattle.m2_graph.specs.Files.{number_files}
use Rattle.m2_graph.specs.Graph.{CompileEach, IsGraph, IsRefusal}
use Rattle.typed_tree.specs.declared.typed_module.TypedModule.{TypedModule}
use Rattle.def_meaning.specs.Environment.{Modules}
use Rattle.def_meaning.specs.Answer.{halt_status, Ended}
use Rattle.def_meaning.specs.Runs.{data_size, run, least_stack}
use Rattle.law_nothing_missing.specs.Runs.{strict_run}
use Rattle.def_scheme.specs.Modules.{typed_module, typed_link}
use Rattle.m2_emit.specs.declared.emitted.ModuleBytes.{ModuleBytes}
use Rattle.law_simulation.specs.Behaves.{Behaves}
use Rattle.law_orders.specs.Order.{IsOrder}
use Rattle.build_jobs.specs.declared.file.SourceFile.{SourceFile}
use Rattle.m2c.specs.declared.files.Outcome.{Outcome}
use Rattle.m2c.specs.declared.files.Outcome.TheVariants as outcome
use Rattle.build_jobs.specs.declared.reading.Read.{Read}
use Rattle.m2c.specs.Ruled.{AreRuled}
use Rattle.build_jobs.specs.Reading.{AreRead}
use Rattle.build_results.specs.Reported.{report_of, reported_at, AreReported}
use Rattle.build_results.specs.Texts.{AreTrees, AreUnread, modules}
use Rattle.build_results.specs.Results.{refused_by}
use Rattle.m2c.specs.Modules.{AreTyped}
use Rattle.layout_storage.specs.Sizes.{page_size}

-- ---- modules

-- a module's name, and its bytes
abbrev pub built_of : TypedModule → List ℕ × List ℕ
built_of m = (m.name, module_encoding (typed_module m))

-- the same of what a job built
abbrev pub named_bytes : ModuleBytes → List ℕ × List ℕ
named_bytes m = (m.name, m.bytes)

-- the same of what a build hands out
abbrev pub name_bytes : String Global × Vec ℕ → List ℕ × List ℕ
name_bytes m = (string_bytes m.0, m.1.items)

-- each of the bytes encodes the module in its place
abbrev pub AreEncoded : List (List ℕ) → List WModule → Type 0
AreEncoded [] [] = Unit {0}
AreEncoded (b ∷ bs) (m ∷ ms) = Encodes b m × AreEncoded bs ms
AreEncoded [] (m ∷ ms) = ⊥
AreEncoded (b ∷ bs) [] = ⊥

-- The bytes of link, and in start order the name and the bytes of each module that is reached. They
-- are the encodings of these modules and of no others, so whoever decodes them gets exactly these.
pub record IsCode (p : Modules) (pages : ℕ) (link : List ℕ) (built : List (List ℕ × List ℕ))
    : Type 0 where
  pub link_encoded : Encodes link (typed_link p pages)
  pub body_bytes : built ≡ map built_of p
  pub encoded : AreEncoded (map (λ m. m.1) built) (map typed_module p)
  pub no_others : (others : List WModule) → AreEncoded (link ∷ map (λ m. m.1) built) others
      → others ≡ typed_link p pages ∷ map typed_module p

-- ---- the answer

-- each text has a tree, and imports break rules
abbrev pub AreUngraphed : List SourceFile → Vec Refusal → Type 0
AreUngraphed files refusals =
    (trees : List (List ℕ × Module)) × AreTrees files trees
    × IsRefusal (number_files 0 trees) (graph_error.Refused refusals)

-- the files have this graph: the file of each job, what each job needs, and the files of the bodies
-- in start order
pub record HaveGraph (files : List SourceFile) (trees : List (List ℕ × Module)) (numbers : List ℕ)
    (all_jobs : List (List ℕ)) (starts : List ℕ) : Type 0 where
  pub are_trees : AreTrees files trees
  pub is_graph : IsGraph (number_files 0 trees) numbers all_jobs starts
  pub each : CompileEach (number_files 0 trees) numbers

-- Modules break rules. The rules of the language decide which are broken, and the least of them is
-- reported of each module, by place and then by number.
pub record AreUncompiled (files : List SourceFile) (refusals : List Refusal) : Type 0 where
  pub trees : List (List ℕ × Module)
  pub numbers : List ℕ
  pub all_jobs : List (List ℕ)
  pub starts : List ℕ
  pub graph : HaveGraph files trees numbers all_jobs starts
  pub ruled : AreRuled (modules trees) numbers all_jobs
  pub some : refused_by trees numbers all_jobs ≢ []
  pub reported : AreReported (refused_by trees numbers all_jobs) refusals

-- the bytes of the variables and texts of a program, and of the least stack that it may have
abbrev pub data_and_stack : Modules → ℕ
data_and_stack p = data_size p + least_stack

-- the file of the program module
abbrev pub is_program_part : Contents → Bool
is_program_part (contents.Definition ds) = false
is_program_part (contents.Implementation b) = false
is_program_part (contents.Program b) = true

abbrev pub program_file : List (List ℕ × Module) → List ℕ
program_file [] = []
program_file (f ∷ fs) = if is_program_part f.1.contents then f.0 else program_file fs

-- no module breaks a rule, but the program's data does not fit into the memory
pub record IsTooLarge (files : List SourceFile) (pages : ℕ) (refusals : List Refusal) : Type 0 where
  pub trees : List (List ℕ × Module)
  pub numbers : List ℕ
  pub all_jobs : List (List ℕ)
  pub starts : List ℕ
  pub graph : HaveGraph files trees numbers all_jobs starts
  pub ruled : AreRuled (modules trees) numbers all_jobs
  pub none : refused_by trees numbers all_jobs ≡ []
  pub program : Modules
  pub typed : AreTyped (modules trees) numbers all_jobs starts program
  pub too_large : page_size * pages < data_and_stack program
  pub reported :
      AreReported (reported_at (program_file trees) 1 1 (number_of rule.LargeProgram) ∷ []) refusals

-- No module breaks a rule. Those that are reached are compiled to valid modules, which link and do
-- what the program does by the language's definition: they print the same bytes and end with the
-- same number, and they go on where it goes on. Behind link they may stand in any order. Nothing
-- that the program's run asks for is missing: it is the strict run, and ends with no number that
-- stands for a lack.
pub record IsProgram (files : List SourceFile) (pages : ℕ) (link : List ℕ)
    (built : List (List ℕ × List ℕ)) : Type 0 where
  pub trees : List (List ℕ × Module)
  pub numbers : List ℕ
  pub all_jobs : List (List ℕ)
  pub starts : List ℕ
  pub graph : HaveGraph files trees numbers all_jobs starts
  pub ruled : AreRuled (modules trees) numbers all_jobs
  pub none : refused_by trees numbers all_jobs ≡ []
  pub program : Modules
  pub typed : AreTyped (modules trees) numbers all_jobs starts program
  pub fits : data_and_stack program ≤ page_size * pages
  pub code : IsCode program pages link built
  pub links : (c : Config) × (linked (typed_link program pages ∷ map typed_module program) ≡ Ok c)
  pub valid : All IsValid (typed_link program pages ∷ map typed_module program)
  pub behaves : (c : Config) × (linked (typed_link program pages ∷ map typed_module program) ≡ Ok c)
      × Behaves (typed_link program pages ∷ map typed_module program) c (run program pages)
  pub orders : (others : Modules) → IsOrder program others → (c : Config)
      × (linked (typed_link program pages ∷ map typed_module others) ≡ Ok c)
      × Behaves (typed_link program pages ∷ map typed_module others) c (run program pages)
  pub strict : (lacking n : ℕ) → strict_run lacking program pages n ≡ run program pages n
  pub whole : (lacking n : ℕ) → halt_status < lacking → (out : List ℕ)
      → strict_run lacking program pages n ≢ Ended lacking out

-- The outcome of a build of these files. Rules of tokens and of the grammar come first, then rules
-- of imports, then rules of modules, and then what does not fit into the memory.
abbrev pub IsBuilt : List SourceFile → (pages : ℕ) → Outcome → Type 0
IsBuilt files pages (outcome.Refused refusals) =
    AreUnread files refusals.items
    ⊎ (AreUngraphed files refusals
    ⊎ (AreUncompiled files refusals.items ⊎ IsTooLarge files pages refusals.items))
IsBuilt files pages (outcome.Built link built) =
    IsProgram files pages link.items (map name_bytes built.items)

-- the same is reported, or the same modules are built
abbrev pub AreAlike : Outcome → Outcome → Type 0
AreAlike (outcome.Refused rs) (outcome.Refused qs) = map report_of rs.items ≡ map report_of qs.items
AreAlike (outcome.Refused rs) (outcome.Built link built) = ⊥
AreAlike (outcome.Built link built) (outcome.Refused qs) = ⊥
AreAlike (outcome.Built link built) (outcome.Built other others) =
    (link.items ≡ other.items) × (map name_bytes built.items ≡ map name_bytes others.items)
