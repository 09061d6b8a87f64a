-- The constants in the code of a program fit, if its types, frames and texts are small.
use Rattle.std.specs.Prelude.{◌≡◌, ◌≤◌, ℕ, Bool, true, List, length, Some, slice_get, All}
use Rattle.std.specs.List.{list_all, AllByRecursion}
use Rattle.typed_tree.specs.declared.known_types.Types.{Types}
use Rattle.typed_tree.specs.declared.statement.TypedStmt.{TypedStmt}
use Rattle.typed_tree.specs.declared.typed_module.TypedModule.{TypedModule}
use Rattle.typed_tree.specs.declared.types.TypeNo.{TypeNo}
use Rattle.layout_storage.specs.Types.{Ty, Scalar, Cell, IsScalar}
use Rattle.layout_storage.specs.Shapes.{tree}
use Rattle.layout_storage.specs.Sizes.{size}
use Rattle.layout_storage.specs.Frames.{frame}
use Rattle.def_scheme.specs.Coded.{Setting, Counts}
use Rattle.def_scheme.specs.Exprs.{Numbered, variables_row}
use Rattle.def_scheme.specs.Steps.{body_code}
use Rattle.def_scheme.specs.Modules.{functions}
use Rattle.law_modules.specs.Linked.{Program, text}
use Rattle.law_modules.specs.Ranges.{AreRanged}
use Rattle.law_simulation.specs.Frames.{AreFrames}
use Rattle.law_simulation.specs.Modules.{IsTypedModule}
use Rattle.law_simulation.specs.Passing.{Result}
use Rattle.law_simulation.specs.Scene.{AreSmall}
use Rattle.law_simulation.specs.StmtsTyped.{AreStmts}
use Rattle.law_simulation.specs.TreesTyped.{Context}
use Rattle.law_encoding.specs.Fits.{few_entries}
use Rattle.law_encoding.specs.ValidNumbers.{code_constants_fit}

-- a cell of a type is a scalar of the language
abbrev pub AreCells : Types → Type 0
AreCells types = (t : TypeNo) (c : Scalar) → tree types t ≡ Cell c → IsScalar c

-- Ranges are of the language. Types, the variables of modules, and frames have few bytes, modules
-- have few procedures, and the texts of the module few characters.
pub record HasSmallParts (x : Context) (fs : List Ty) : Type 0 where
  pub ranges : AreSmall x.home.types
  pub cells : AreCells x.home.types
  pub types : (t : TypeNo) → size (tree x.home.types t) ≤ few_entries
  pub rows : (home : ℕ) → size (variables_row x.home home) ≤ few_entries
  pub known : AreFrames x.kinds fs
  pub frames : AllByRecursion (λ t. size t ≤ few_entries) fs
  pub procedures : (place : ℕ) (m : TypedModule) → slice_get x.p place ≡ Some m
      → length m.procedures ≤ few_entries
  pub texts : length x.characters ≤ few_entries

-- Then the constants fit in the code of typed statements, whose texts begin where they do in the
-- module.
abbrev pub ConstantsFit : Type 0
ConstantsFit = (x : Context) (frames : List Ty) → HasSmallParts x frames
    → (result : Result) (ws : List Ty) (l : Bool) (a b : ℕ) (xs : List TypedStmt)
    → AreStmts x result ws l a b xs
    → (numbered : Numbered) (s : Setting) (c : Counts)
    → s.home ≡ x.home → s.frames ≡ frames → c.texts ≡ a
    → code_constants_fit (body_code numbered xs s c).0 ≡ true

-- ---- the functions of a module

-- A module of a program is small, and so is what it knows of others.
pub record IsSmallModule (p : Program) (m : TypedModule) : Type 0 where
  pub types : (t : TypeNo) → size (tree m.types t) ≤ few_entries
  pub rows : (home : ℕ) → size (variables_row m home) ≤ few_entries
  pub frames : All (λ r. size (frame m.types r) ≤ few_entries) m.procedures
  pub inner_frames : All (λ r. size (frame m.types r) ≤ few_entries) m.locals
  pub procedures : (place : ℕ) (n : TypedModule) → slice_get p place ≡ Some n
      → length n.procedures ≤ few_entries
  pub texts : length (text m) ≤ few_entries

-- The constants in the functions of a typed module fit, if it is small.
abbrev pub ModuleConstantsFit : Type 0
ModuleConstantsFit = (p : Program) (pages place : ℕ) (m : TypedModule) → AreRanged m.types
    → IsTypedModule p pages place m → IsSmallModule p m
    → list_all (λ f. code_constants_fit f.body.code) (functions m) ≡ true
