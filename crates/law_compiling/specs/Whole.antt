-- Compiling the bodies of a program alone and linking them is building the program.
use Rattle.std.specs.Prelude.{◌≡◌, ◌⊎◌, ℕ, Bool, true, false, List, ◌∷◌, map, Some, slice_get, String}
use Rattle.std.specs.Global.{Global, Vec}
use Rattle.std.specs.List.{All, AllZip, Contains}
use Rattle.std.specs.String.{string_bytes}
use Rattle.m2_tree.specs.declared.refusal.Refusal.{Refusal}
use Rattle.m2_tree.specs.declared.name.Ident.{Ident}
use Rattle.m2_tree.specs.declared.decl.Module.{Module}
use Rattle.m2_tree.specs.Names.{is_console}
use Rattle.m2_graph.specs.Imports.{is_definition, is_program, imports_of}
use Rattle.law_graph.specs.Started.{AreApart, names_of}
use Rattle.m2_emit.specs.declared.emitted.ModuleBytes.{ModuleBytes}
use Rattle.build_jobs.specs.declared.file.SourceFile.{SourceFile}
use Rattle.build_jobs.specs.Reading.{HasTree}
use Rattle.build_results.specs.Reported.{Reported, reported_at}
use Rattle.build_results.specs.Texts.{AreTrees}
use Rattle.build_results.specs.Results.{refused_by}
use Rattle.compile_module.specs.declared.made.Interface.{Interface}
use Rattle.compile_module.specs.declared.made.Made.{Made}
use Rattle.compile_module.specs.declared.made.Made.TheVariants.{Built, Defined, Refused}
use Rattle.compile_module.specs.Alone.{AreUngraphed, AreUncompiled, ComesOf}
use Rattle.link_parts.specs.declared.part.Part.{Part}
use Rattle.link_parts.specs.declared.fault.LinkFault.{LinkFault}
use Rattle.link_parts.specs.declared.fault.LinkFault.TheVariants.{NoMemory}
use Rattle.link_parts.specs.Linked.{IsLinked, IsFault}
use Rattle.law_separation.specs.Alike.{Tree, Jobs}
use Rattle.law_linking.specs.Parts.{IsPart, AreWhole}
use Rattle.tool_modules.specs.Parts.{IsPartOf}
use Rattle.m2c.specs.Build.{HaveGraph, IsProgram}

-- ---- what is written of a body that is compiled alone

-- its part, and the bytes of its module
pub record Written : Type 0 where
  pub part : Part
  pub code : List ℕ

-- The body of the first of these files was compiled alone with the definitions in the others, and
-- this was written.
pub record IsWritten (files : List SourceFile) (w : Written) : Type 0 where
  pub m : ModuleBytes
  pub is_program : Bool
  pub imports : Vec (String Global)
  pub needed : Vec Interface
  pub comes : ComesOf files (Built m is_program imports needed)
  pub part : IsPartOf files m is_program (map string_bytes imports.items) needed.items w.part
  pub code : w.code ≡ m.bytes

abbrev pub texts_of : List SourceFile → List (List ℕ)
texts_of files = map (λ f. f.bytes.items) files

-- Each text of the files is one of the program's.
abbrev pub AreWithin : (program files : List SourceFile) → Type 0
AreWithin program files = All (Contains (texts_of program)) (texts_of files)

-- It was written of a body of the program, which was compiled alone with definitions of the
-- program.
pub record IsWrittenOf (program : List SourceFile) (w : Written) : Type 0 where
  pub files : List SourceFile
  pub within : AreWithin program files
  pub written : IsWritten files w

-- What is written of a body of a program is a part of it, be the program built or not.
abbrev pub WhatIsWrittenIsPart : Type 0
WhatIsWrittenIsPart =
    (program : List SourceFile) (trees : List Tree) → AreTrees program trees
    → (jobs : Jobs trees) (w : Written) → IsWrittenOf program w → IsPart trees jobs w.part

-- ---- what it links to

abbrev pub parts_of : List Written → List Part
parts_of ws = map (λ w. w.part) ws

-- the names and the bytes of the modules
abbrev pub modules_of : List Written → List (List ℕ × List ℕ)
modules_of ws = map (λ w. (string_bytes w.part.name, w.code)) ws

-- the module was written, and nothing else under its name
abbrev pub IsOnlyOf : List (List ℕ × List ℕ) → List ℕ × List ℕ → Type 0
IsOnlyOf written m =
    Contains written m × ((n : List ℕ × List ℕ) → Contains written n → n.0 ≡ m.0 → n ≡ m)

-- Whoever compiles bodies of a program alone and links them, in whichever order, gets what the
-- build of the program gives: the bytes of link, and the bytes of each module.
abbrev pub CompilingAndLinkingIsBuilding : Type 0
CompilingAndLinkingIsBuilding =
    (program : List SourceFile) (pages : ℕ) (link : List ℕ) (built : List (List ℕ × List ℕ))
    → IsProgram program pages link built
    → (ws : List Written) → All (IsWrittenOf program) ws
    → (bytes : List ℕ) → IsLinked (parts_of ws) pages bytes
    → (bytes ≡ link) × All (IsOnlyOf (modules_of ws)) built

-- The first is the program, each is of another module, and whatever one imports is there.
pub record AreComplete (ws : List Written) : Type 0 where
  pub first : Written
  pub there : slice_get ws 0 ≡ Some first
  pub is_program : first.part.is_program ≡ true
  pub whole : AreWhole (parts_of ws)

-- What was written of the bodies of a program that is built is linked to the build's bytes of link:
-- the modules fit together, and their data fits into the memory. Nothing is refused of it, unless
-- memory runs out.
abbrev pub WhatIsWrittenLinks : Type 0
WhatIsWrittenLinks =
    (program : List SourceFile) (pages : ℕ) (link : List ℕ) (built : List (List ℕ × List ℕ))
    → IsProgram program pages link built
    → (ws : List Written) → All (IsWrittenOf program) ws → AreComplete ws
    → IsLinked (parts_of ws) pages link
    × ((fault : LinkFault) → IsFault (parts_of ws) pages fault → fault ≡ NoMemory)

-- ---- what is built alone, and what is refused

-- The text is that of a body.
abbrev pub HasBody : SourceFile → Type 0
HasBody f = (m : Module) × HasTree f.bytes.items m × (is_definition m ≡ false)

-- A body was built, or imports break rules where it is compiled alone.
abbrev pub IsBuiltAlone : List SourceFile → Made → Type 0
IsBuiltAlone files (Built m is_program imports needed) = Unit {0}
IsBuiltAlone files Defined = ⊥
IsBuiltAlone files (Refused refusals) =
    (trees : List Tree) × AreTrees files trees × AreUngraphed trees refusals.items

-- Each body of a program that is built is built alone, if imports break no rule there, as where a
-- definition is left out.
abbrev pub BodiesAreBuiltAlone : Type 0
BodiesAreBuiltAlone =
    (program : List SourceFile) (pages : ℕ) (link : List ℕ) (built : List (List ℕ × List ℕ))
    → IsProgram program pages link built
    → (body : SourceFile) (others : List SourceFile) → HasBody body
    → AreWithin program (body ∷ others) → (made : Made)
    → ComesOf (body ∷ others) made → IsBuiltAlone (body ∷ others) made

-- The first of these texts is that of a body, and the others are those of the definitions that it
-- needs, each once: its own, if it is no program, and whatever one of these modules imports, but
-- for Console. There may be more, if what these import is there too.
pub record HaveDefinitions (files : List SourceFile) : Type 0 where
  pub body : Module
  pub definitions : List Module
  pub read : AllZip (λ f m. HasTree f.bytes.items m) files (body ∷ definitions)
  pub kind : is_definition body ≡ false
  pub kinds : All (λ d. is_definition d ≡ true) definitions
  pub apart : AreApart (names_of definitions)
  pub own : (is_program body ≡ true) ⊎ Contains (names_of definitions) body.name.name
  pub closed : (m : Module) (x : Ident) → Contains (body ∷ definitions) m
      → Contains (imports_of m) x
      → (is_console x.name ≡ true) ⊎ Contains (names_of definitions) x.name

abbrev pub IsBuilt : Made → Type 0
IsBuilt (Built m is_program imports needed) = Unit {0}
IsBuilt Defined = ⊥
IsBuilt (Refused refusals) = ⊥

-- Each body of a program that is built is built alone, with the definitions that it needs.
abbrev pub BodiesAreBuiltWithDefinitions : Type 0
BodiesAreBuiltWithDefinitions =
    (program : List SourceFile) (pages : ℕ) (link : List ℕ) (built : List (List ℕ × List ℕ))
    → IsProgram program pages link built
    → (files : List SourceFile) → AreWithin program files → HaveDefinitions files
    → (made : Made) → ComesOf files made → IsBuilt made

-- this rule is reported, at this place of a file
abbrev pub IsToldIn : List Reported → Reported → Type 0
IsToldIn all r =
    (file : List ℕ) × Contains all (reported_at file r.line r.column r.number)

-- Whatever rule of modules is broken where a body is compiled alone, with definitions of the
-- program, is broken in the program, and at the same place.
abbrev pub RefusedAloneIsRefused : Type 0
RefusedAloneIsRefused =
    (program : List SourceFile) (trees : List Tree) (numbers : List ℕ) (all_jobs : List (List ℕ))
    (starts : List ℕ) → HaveGraph program trees numbers all_jobs starts
    → (files : List SourceFile) → AreWithin program files
    → (alone : List Tree) → AreTrees files alone
    → (refusals : List Refusal) (u : AreUncompiled alone refusals) (r : Reported)
    → Contains (refused_by alone u.numbers u.needs) r
    → IsToldIn (refused_by trees numbers all_jobs) r
