-- What is written down of a module that was compiled alone.
use Rattle.std.specs.Prelude.{◌≡◌, ℕ, Bool, List, [], map, Option, Some, None, slice_get}
use Rattle.std.specs.List.{AllZip}
use Rattle.std.specs.String.{string_bytes}
use Rattle.std.specs.Str.Lossy.{utf8_lossy}
use Rattle.m2_emit.specs.declared.emitted.ModuleBytes.{ModuleBytes}
use Rattle.build_jobs.specs.declared.file.SourceFile.{SourceFile}
use Rattle.compile_module.specs.declared.made.Interface.{Interface as Needed}
use Rattle.link_parts.specs.declared.part.Part.{Part}
use Rattle.link_parts.specs.declared.part.Interface.{Interface}
use Rattle.link_parts.specs.Sums.{sum_of, IsInterfaceSum}

-- the checksum of a text, of a file that is there
abbrev pub IsTextSum : Option SourceFile → List ℕ → Type 0
IsTextSum None sum = sum ≡ []
IsTextSum (Some f) sum = sum ≡ sum_of f.bytes.items

-- the checksum of a definition
abbrev pub IsTokensSum : Option SourceFile → List ℕ → Type 0
IsTokensSum None sum = sum ≡ []
IsTokensSum (Some f) sum = IsInterfaceSum f.bytes.items sum

-- A definition that was needed is told by its name, and by the checksum of its file.
abbrev pub IsTold : List SourceFile → Needed → Interface → Type 0
IsTold files n i =
    (string_bytes i.name ≡ string_bytes n.name)
    × IsTokensSum (slice_get files n.file) (string_bytes i.sum)

-- The part is that of this module, which was compiled from these files, the first of which has its
-- body, and needed these definitions.
pub record IsPartOf (files : List SourceFile) (m : ModuleBytes) (is_program : Bool)
    (imports : List (List ℕ)) (needed : List Needed) (p : Part) : Type 0 where
  pub name : string_bytes p.name ≡ utf8_lossy m.name
  pub kind : p.is_program ≡ is_program
  pub variables : p.sizes.variables ≡ m.variables
  pub texts : p.sizes.texts ≡ m.texts
  pub slots : p.sizes.slots ≡ m.slots
  pub text : IsTextSum (slice_get files 0) (string_bytes p.text)
  pub code : string_bytes p.code ≡ sum_of m.bytes
  pub imported : map string_bytes p.imports.items ≡ imports
  pub interfaces : AllZip (IsTold files) needed p.interfaces.items
