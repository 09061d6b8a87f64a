-- The modules of a directory.
use Rattle.std.specs.Prelude.{◌≡◌, ℕ, Bool, false, not, ◌&&◌, List, [], ◌∷◌, ◌++◌, length, take, drop, Option, Some, None, nat_le, if◌then◌else◌, codes}
use Rattle.std.specs.Global.{Vec}
use Rattle.std.specs.Borrow.{Bor}
use Rattle.std.specs.List.{flat_map, list_all, AllByRecursion}
use Rattle.std.specs.Option.{option_to_list}
use Rattle.std.specs.Char.{is_ascii_alphabetic, is_ascii_alphanumeric}
use Rattle.std.specs.Str.{bytes_eq}
use Rattle.wasm_tree.specs.declared.module.Export.{Export}
use Rattle.wasm_tree.specs.declared.module.WModule.{WModule}
use Rattle.wasm_binary.specs.Binary.{Encodes}
use Rattle.wasm_tree.specs.Validity.{IsValid}
use Rattle.wasm_tree.specs.Linking.{link_name}

abbrev pub bytes_of : Option (Bor (List ℕ)) → Option (List ℕ)
bytes_of None = None
bytes_of (Some b) = Some b.now

-- ---- which modules

abbrev pub begins_with_letter : List ℕ → Bool
begins_with_letter [] = false
begins_with_letter (c ∷ cs) = is_ascii_alphabetic c

-- the characters of a name
abbrev pub max_name : ℕ
max_name = 64

-- a letter, then letters and digits, and not link
abbrev pub is_module_name : List ℕ → Bool
is_module_name name =
    begins_with_letter name && list_all is_ascii_alphanumeric name && nat_le (length name) max_name
    && not (bytes_eq name link_name)

-- M for tab.M
abbrev pub module_named : List ℕ → Option (List ℕ)
module_named export =
    if bytes_eq (take 4 export) (codes "tab.") && is_module_name (drop 4 export)
    then Some (drop 4 export)
    else None

-- in the order of the exports
abbrev pub module_names : List Export → List (List ℕ)
module_names exports = flat_map (λ e. option_to_list (module_named e.name)) exports

-- ---- what read a directory may give: a relation of names and bytes, or nothing

abbrev pub Files : Type 1
Files = List ℕ → Option (List ℕ) → Type 0

-- whatever may be given later may be given now
abbrev pub Stays : (now later : Files) → Type 0
Stays now later = (name : List ℕ) (bytes : Option (List ℕ)) → later name bytes → now name bytes

-- ---- what was read

-- a file was asked for by this name, and gave these bytes, or nothing
pub data FileRead : Type 0 where
  Read : (name : List ℕ) → (bytes : Option (List ℕ)) → FileRead

-- what a call that read a file answered
abbrev pub items_of : Option (Vec ℕ) → Option (List ℕ)
items_of None = None
items_of (Some bytes) = Some bytes.items

-- the reads with others behind them, if they are noted
abbrev pub with_reads : Option (List FileRead) → List FileRead → Option (List FileRead)
with_reads None more = None
with_reads (Some reads) more = Some (reads ++ more)

-- it is one that may be
abbrev pub MayBe : (gives : Files) → FileRead → Type 0
MayBe gives (Read name bytes) = gives name bytes

-- From before to after a directory was asked for these files, in their order, and for no other.
pub record HasRead {D : Type 0} (noted : D → Option (List FileRead)) (gives : D → Files)
    (reads : List FileRead) (before after : D) : Type 0 where
  pub is_noted : noted after ≡ with_reads (noted before) reads
  pub may_be : AllByRecursion (MayBe (gives before)) reads
  pub stays : Stays (gives before) (gives after)

-- ---- the modules that were read

abbrev pub file_of : List ℕ → List ℕ
file_of name = name ++ codes ".wasm"

-- the file of the module of this name was read, it encodes the module, and the module is valid
pub record IsModule (read : FileRead) (name : List ℕ) (tree : WModule) : Type 0 where
  pub bytes : List ℕ
  pub is_read : read ≡ Read (file_of name) (Some bytes)
  pub encoded : Encodes bytes tree
  pub valid : IsValid tree

-- each name's module, in their order
pub data AreModules : List FileRead → List (List ℕ) → List WModule → Type 0 where
  Empty : AreModules [] [] []
  More : (read : FileRead) (name : List ℕ) (tree : WModule) (reads : List FileRead)
      (names : List (List ℕ)) (trees : List WModule)
      → IsModule read name tree
      → AreModules reads names trees
      → AreModules (read ∷ reads) (name ∷ names) (tree ∷ trees)
