-- What a module of a program knows of the others is as they have it.
use Rattle.std.specs.Prelude.{◌≡◌, ℕ, ◌<◌, true, List, [], ◌∷◌, length, map, Ok, Some, slice_get, slice_index_or}
use Rattle.std.specs.List.{AllByRecursion, list_all}
use Rattle.m2_tree.specs.declared.decl.Module.{Module}
use Rattle.m2_graph.specs.Files.{number_files}
use Rattle.m2_graph.specs.Graph.{IsGraph, CompileEach}
use Rattle.m2_graph.specs.Imports.{is_program}
use Rattle.m2_graph.specs.Jobs.{number_of}
use Rattle.typed_tree.specs.declared.table.Table.{Table}
use Rattle.typed_tree.specs.declared.typed_module.Imported.{Imported}
use Rattle.typed_tree.specs.declared.typed_module.TypedModule.{TypedModule}
use Rattle.law_modules.specs.Linked.{Program}
use Rattle.law_simulation.specs.Knows.{IsCoherent}
use Rattle.build_jobs.specs.declared.outcome.Compiled.TheVariants.{Defined}
use Rattle.build_jobs.specs.Compiling.{tables_of, typed_body}
use Rattle.build_jobs.specs.Jobs.{needed_of}
use Rattle.law_modules.specs.Ranges.{AreRanged}
use Rattle.law_well_formed.specs.Ordered.{AreOrdered}
use Rattle.law_well_formed.specs.FormedKnown.{fits_module}
use Rattle.law_programs.specs.FormedReach.{result_of}

module _ (trees : List Module) (files : List ℕ) (jobs : List (List ℕ)) where
  -- a job makes this module of a body
  pub record IsBodyOf (t : TypedModule) : Type 0 where
    pub tree : Module
    pub job : ℕ
    pub is_job : job < length files
    pub is_tree : slice_get trees (slice_index_or files job 0) ≡ Some tree
    pub typed : typed_body tree job (tables_of (needed_of trees files jobs job)) ≡ Ok t

  -- Jobs make these modules, no two have one name, and whatever one of them imports stands among
  -- them. A name has one definition, and a program module has none.
  pub record IsWhole (p : Program) : Type 0 where
    pub bodies : AllByRecursion IsBodyOf p
    pub apart : (i j : ℕ) (m n : TypedModule) → slice_get p i ≡ Some m → slice_get p j ≡ Some n
        → m.name ≡ n.name → i ≡ j
    pub closed : (place k : ℕ) (m : TypedModule) (i : Imported)
        → slice_get p place ≡ Some m
        → slice_get m.imports k ≡ Some i
        → (q : ℕ) × (home : TypedModule) × (slice_get p q ≡ Some home) × (home.name ≡ i.name)
    pub definitions : (j k : ℕ) (t u : Table)
        → j < length files
        → k < length files
        → result_of trees files jobs j ≡ Defined t
        → result_of trees files jobs k ≡ Defined u
        → t.name ≡ u.name
        → j ≡ k
    pub programs : (m : Module) (job : ℕ) (t : Table)
        → slice_get trees (slice_index_or files job 0) ≡ Some m
        → is_program m ≡ true
        → (k : ℕ)
        → k < length files
        → result_of trees files jobs k ≡ Defined t
        → t.name ≡ m.name.name
        → ⊥

  -- a job makes this module of the body in a file
  pub record IsBodyIn (file : ℕ) (t : TypedModule) : Type 0 where
    pub tree : Module
    pub is_tree : slice_get trees file ≡ Some tree
    pub job : ℕ
    pub is_job : number_of files file ≡ Some job
    pub typed : typed_body tree job (tables_of (needed_of trees files jobs job)) ≡ Ok t

  -- the same of all files that start
  abbrev pub AreBodiesIn : (starts : List ℕ) → Program → Type 0
  AreBodiesIn [] [] = Unit {0}
  AreBodiesIn (s ∷ ss) (t ∷ ts) = IsBodyIn s t × AreBodiesIn ss ts
  AreBodiesIn [] (t ∷ ts) = ⊥
  AreBodiesIn (s ∷ ss) [] = ⊥

-- the modules of files
abbrev pub trees_of : List (List ℕ × Module) → List Module
trees_of fs = map (λ f. f.1) fs

-- The modules that jobs make of a program's bodies know one another's variables.
abbrev pub ProgramsAreCoherent : Type 0
ProgramsAreCoherent =
    (trees : List Module) (files : List ℕ) (jobs : List (List ℕ))
    → list_all fits_module trees ≡ true
    → (p : Program)
    → IsWhole trees files jobs p
    → (place : ℕ) (m : TypedModule)
    → slice_get p place ≡ Some m
    → IsCoherent p place m

-- The bodies that start by a graph are a program of this kind.
abbrev pub GraphsAreWhole : Type 0
GraphsAreWhole =
    (fs : List (List ℕ × Module)) (files : List ℕ) (jobs : List (List ℕ)) (starts : List ℕ)
    → IsGraph (number_files 0 fs) files jobs starts
    → CompileEach (number_files 0 fs) files
    → list_all fits_module (trees_of fs) ≡ true
    → (p : Program)
    → AreBodiesIn (trees_of fs) files jobs starts p
    → IsWhole (trees_of fs) files jobs p

-- So its modules know one another's variables, and types in order, with ranges of the language.
abbrev pub GraphsAreCoherent : Type 0
GraphsAreCoherent =
    (fs : List (List ℕ × Module)) (files : List ℕ) (jobs : List (List ℕ)) (starts : List ℕ)
    → IsGraph (number_files 0 fs) files jobs starts
    → CompileEach (number_files 0 fs) files
    → list_all fits_module (trees_of fs) ≡ true
    → (p : Program)
    → AreBodiesIn (trees_of fs) files jobs starts p
    → (place : ℕ) (m : TypedModule)
    → slice_get p place ≡ Some m
    → IsCoherent p place m × (AreRanged m.types × AreOrdered m.types)
