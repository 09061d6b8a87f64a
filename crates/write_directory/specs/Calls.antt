-- The calls that a directory is given while modules are saved into it, with their answers.
use Rattle.std.specs.Prelude.{◌≡◌, ℕ, Bool, true, false, List, [], ◌∷◌, ◌++◌, map, Option, Some, None, codes, String}
use Rattle.std.specs.String.{string_bytes}
use Rattle.std.specs.Global.{Global, Vec}
use Rattle.wasm_tree.specs.Linking.{link_name}

pub data Call : Type 0 where
  -- the file of this name is removed
  Remove : (name : List ℕ) → (is_done : Bool) → Call
  -- these bytes are written as the file of this name
  Write : (name bytes : List ℕ) → (is_done : Bool) → Call

-- the calls with others behind them, if they are noted
abbrev pub with_calls : Option (List Call) → List Call → Option (List Call)
with_calls None more = None
with_calls (Some calls) more = Some (calls ++ more)

-- the file of the module of this name
abbrev pub file_of : List ℕ → List ℕ
file_of name = name ++ codes ".wasm"

abbrev pub link_file : List ℕ
link_file = file_of link_name

-- a file's name, and its bytes
abbrev pub File : Type 0
File = List ℕ × List ℕ

-- the file of a module that was built
abbrev pub module_file : String Global × Vec ℕ → File
module_file m = (file_of (string_bytes m.0), m.1.items)

abbrev pub write_call : File → Call
write_call f = Write f.0 f.1 true

-- an old link is removed, and the files of the modules are written in their order
abbrev pub before_link : List File → List Call
before_link files = Remove link_file true ∷ map write_call files

-- and link is written last
abbrev pub all_calls : (link : List ℕ) → List File → List Call
all_calls link files = before_link files ++ Write link_file link true ∷ []

-- the calls that write files up to one that fails
abbrev pub StopsIn : List File → List Call → Type 0
StopsIn files calls =
    (before : List File) × (f : File) × (after : List File)
    × (files ≡ before ++ f ∷ after) × (calls ≡ map write_call before ++ Write f.0 f.1 false ∷ [])

-- The calls if one failed, up to that one. Link is removed once more if it was its write.
pub data IsBroken (link : List ℕ) (files : List File) : List Call → Type 0 where
  AtRemoval : IsBroken link files (Remove link_file false ∷ [])
  AtModule : (calls : List Call) → StopsIn files calls
      → IsBroken link files (Remove link_file true ∷ calls)
  AtLink : (again : Bool) → IsBroken link files
      (before_link files ++ Write link_file link false ∷ Remove link_file again ∷ [])
