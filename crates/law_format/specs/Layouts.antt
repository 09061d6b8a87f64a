-- Modules with the sizes that are stated of their parts, and these as bytes with their places. Here
-- a stated size may be any number below 2 ^ 32, whatever the part takes.
use Rattle.std.specs.Prelude.{◌≡◌, ℕ, zero, suc, Bool, true, ◌&&◌, List, [], ◌∷◌, ◌++◌, length, map, take, Option, Some, None}
use Rattle.std.specs.List.{flat_map, list_all}
use Rattle.wasm_tree.specs.declared.kinds.FuncType.{FuncType}
use Rattle.wasm_tree.specs.declared.kinds.TableType.{TableType}
use Rattle.wasm_tree.specs.declared.kinds.MemoryType.{MemoryType}
use Rattle.wasm_tree.specs.declared.module.Import.{Import}
use Rattle.wasm_tree.specs.declared.module.Global.{Global}
use Rattle.wasm_tree.specs.declared.module.Export.{Export}
use Rattle.wasm_tree.specs.declared.module.Element.{Element}
use Rattle.wasm_tree.specs.declared.module.Body.{Body}
use Rattle.wasm_tree.specs.declared.module.Data.{Data}
use Rattle.wasm_tree.specs.Format.{Format}
use Rattle.wasm_code.specs.Bytes as byte
use Rattle.wasm_code.specs.Number.{unsigned}
use Rattle.wasm_code.specs.Parts.{◌·◌, as_value, entries}
use Rattle.wasm_code.specs.Instructions.{code}
use Rattle.wasm_binary.specs.Binary.{header, func_type, table_type, memory_type, import, global, export, element_segment, locals, data_segment}
use Rattle.law_format.specs.Places.{SectionNumber, Cell, others, plain, vector_cells, func_type_cells, import_cells, global_cells, element_cells, data_cells, locals_cells, code_cells}

-- a part, and how many bytes are stated of it
pub record Part (A : Type 0) : Type 0 where
  pub size : ℕ
  pub content : A

-- a byte with its place, the begin of a part with its stated size, the end of a part, or the end of
-- the module
pub data Mark : Type 0 where
  Byte : (cell : Cell) → Mark
  Opens : (size : ℕ) → Mark
  Closes : Mark
  Last : Mark

abbrev pub byte_marks : List Cell → List Mark
byte_marks cells = map Byte cells

-- the bytes of these marks
abbrev pub flat : List Mark → List ℕ
flat [] = []
flat (Byte cell ∷ marks) = cell.1 ∷ flat marks
flat (Opens size ∷ marks) = flat marks
flat (Closes ∷ marks) = flat marks
flat (Last ∷ marks) = flat marks

-- ---- the marks of a module

abbrev pub part_marks : {A : Type 0} → (A → List Mark) → Part A → List Mark
part_marks marks p =
    byte_marks (plain unsigned p.size) ++ (Opens p.size ∷ (marks p.content ++ Closes ∷ []))

-- what has no entry is left out
abbrev pub if_some : {A : Type 0} → List A → List Mark → List Mark
if_some [] marks = []
if_some (x ∷ xs) marks = marks

abbrev pub section_marks : {A : Type 0} → (number : ℕ) → (List A → List Mark) → Part (List A)
    → List Mark
section_marks number marks s =
    if_some s.content (Byte (SectionNumber, number) ∷ part_marks marks s)

abbrev pub entry_marks : {A : Type 0} → (A → List Cell) → List A → List Mark
entry_marks cells xs = byte_marks (vector_cells cells xs)

abbrev pub body_cells : Body → List Cell
body_cells b = locals_cells b.locals ++ code_cells b.code

abbrev pub bodies_marks : List (Part Body) → List Mark
bodies_marks bs =
    byte_marks (plain unsigned (length bs))
    ++ flat_map (part_marks (λ b. byte_marks (body_cells b))) bs

pub record Layout : Type 0 where
  pub types : Part (List FuncType)
  pub imports : Part (List Import)
  pub functions : Part (List ℕ)
  pub tables : Part (List TableType)
  pub memories : Part (List MemoryType)
  pub globals : Part (List Global)
  pub exports : Part (List Export)
  pub elements : Part (List Element)
  pub bodies : Part (List (Part Body))
  pub segments : Part (List Data)

abbrev pub last_marks : Layout → List Mark
last_marks l =
    section_marks byte.element_section (entry_marks element_cells) l.elements
    ++ (section_marks byte.code_section bodies_marks l.bodies
    ++ (section_marks byte.data_section (entry_marks data_cells) l.segments ++ Last ∷ []))

abbrev pub middle_marks : Layout → List Mark
middle_marks l =
    section_marks byte.table_section (entry_marks (plain table_type)) l.tables
    ++ (section_marks byte.memory_section (entry_marks (plain memory_type)) l.memories
    ++ (section_marks byte.global_section (entry_marks global_cells) l.globals
    ++ (section_marks byte.export_section (entry_marks (plain export)) l.exports ++ last_marks l)))

abbrev pub layout_marks : Layout → List Mark
layout_marks l =
    byte_marks (others header)
    ++ (section_marks byte.type_section (entry_marks func_type_cells) l.types
    ++ (section_marks byte.import_section (entry_marks import_cells) l.imports
    ++ (section_marks byte.function_section (entry_marks (plain unsigned)) l.functions
    ++ middle_marks l)))

-- ---- which of them can be encoded

-- no entry, or entries of this format and a size below 2 ^ 32
abbrev pub part_fits : {A : Type 0} → (List A → Bool) → (size : ℕ) → List A → Bool
part_fits fits size [] = true
part_fits fits size (x ∷ xs) = unsigned.fits size && fits (x ∷ xs)

abbrev pub section_fits : {A : Type 0} → Format A → Part (List A) → Type 0
section_fits p s = part_fits (entries p).fits s.size s.content ≡ true

-- what stands in a body behind its size
abbrev pub body_content : Format Body
body_content =
    as_value (λ p. record { locals = p.0; code = p.1 }) (λ b. (b.locals, b.code)) (locals · code)

abbrev pub body_fits : Part Body → Bool
body_fits b = unsigned.fits b.size && body_content.fits b.content

pub record Fits (l : Layout) : Type 0 where
  pub types : section_fits func_type l.types
  pub imports : section_fits import l.imports
  pub functions : section_fits unsigned l.functions
  pub tables : section_fits table_type l.tables
  pub memories : section_fits memory_type l.memories
  pub globals : section_fits global l.globals
  pub exports : section_fits export l.exports
  pub elements : section_fits element_segment l.elements
  pub bodies : part_fits (list_all body_fits) l.bodies.size l.bodies.content ≡ true
  -- as many bodies as functions
  pub as_many : length l.bodies.content ≡ length l.functions.content
  pub segments : section_fits data_segment l.segments

-- ---- stated sizes

-- each part that is begun may take one byte less, if each may take one
abbrev pub spend : List ℕ → Option (List ℕ)
spend [] = Some []
spend (zero ∷ rooms) = None
spend (suc n ∷ rooms) = elim (spend rooms) [ Some left ↦ Some (n ∷ left) | None ↦ None ]

-- How many bytes each part that is begun may still take, the innermost first, behind these marks.
-- None if a part takes more bytes than are stated of it, or fewer.
abbrev pub room : List ℕ → List Mark → Option (List ℕ)
room rooms [] = Some rooms
room rooms (Byte cell ∷ marks) = elim (spend rooms) [ Some left ↦ room left marks | None ↦ None ]
room rooms (Opens size ∷ marks) = room (size ∷ rooms) marks
room [] (Closes ∷ marks) = None
room (zero ∷ rooms) (Closes ∷ marks) = room rooms marks
room (suc n ∷ rooms) (Closes ∷ marks) = None
room rooms (Last ∷ marks) = room rooms marks

-- bytes past a stated size count as missing
abbrev pub within : (rooms : List ℕ) → List ℕ → List ℕ
within [] bytes = bytes
within (n ∷ rooms) bytes = take n (within rooms bytes)
