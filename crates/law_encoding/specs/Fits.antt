-- What has to hold of code and of modules so that they have an encoding.
use Rattle.std.specs.Prelude.{◌≡◌, ◌≤◌, ◌<◌, ◌+◌, ◌*◌, ◌^◌, ℕ, nat_lt, true, List, ◌++◌, map, length, Option}
use Rattle.std.specs.List.{flat_map, list_all}
use Rattle.m2_tree.specs.declared.token.Token.{Token}
use Rattle.m2_tree.specs.declared.decl.Module.{Module}
use Rattle.typed_tree.specs.declared.table.Table.{Table}
use Rattle.typed_tree.specs.declared.typed_module.TypedModule.{TypedModule}
use Rattle.scan_tokens.specs.Division.{HasTokens, max_text}
use Rattle.def_grammar.specs.Refusal.{IsModule, max_nesting}
use Rattle.check_scope.specs.Elaborated.{Gathers}
use Rattle.check_body.specs.Checks.{body_module}
use Rattle.layout_storage.specs.Texts.{module_texts}
use Rattle.def_scheme.specs.Scheme.{body_types}
use Rattle.def_scheme.specs.Signatures.{type_of}
use Rattle.def_scheme.specs.Modules.{functions, signatures, imports, slots, all_characters, typed_module}
use Rattle.wasm_tree.specs.declared.instr.Instr.{Instr}
use Rattle.wasm_tree.specs.declared.module.Function.{Function}
use Rattle.wasm_tree.specs.declared.module.WModule.{WModule}
use Rattle.wasm_code.specs.Number.{unsigned}
use Rattle.wasm_code.specs.Parts.{section}
use Rattle.wasm_code.specs.Instructions.{code_within, instr_encoding}
use Rattle.wasm_binary.specs.Binary.{func_type, import, table_type, memory_type, global, export, element_segment, data_segment, local_count, types_of, body, bodies_encoding, module_fits}
use Rattle.law_encoding.specs.Sizes.{sum_of}
use Rattle.law_encoding.specs.Nesting.{deepest_of}
use Rattle.law_encoding.specs.CodeNesting.{levels, function_levels}
use Rattle.law_encoding.specs.CodeBytes.{bytes, function_bytes}
use Rattle.law_encoding.specs.CodeNumbers.{code_numbers_fit}
use Rattle.law_encoding.specs.Nested.{max_levels}
use Rattle.law_encoding.specs.TypedSizes.{size_bodies}
use Rattle.law_encoding.specs.Counted.{AtMost}
use Rattle.law_encoding.specs.Outward.{outward_bodies}
use Rattle.law_encoding.specs.Short.{counts_in}
use Rattle.law_encoding.specs.Small.{most}

-- Code fits if its blocks nest few levels and its numbers fit their widths.
abbrev pub CodeFits : Type 0
CodeFits = (n : ℕ) (code : List Instr) → levels code ≤ n → code_numbers_fit code ≡ true
    → (code_within n).fits code ≡ true

-- Its encoding then takes no more bytes than are counted.
abbrev pub EncodingsAreShort : Type 0
EncodingsAreShort = (code : List Instr) → code_numbers_fit code ≡ true
    → length (flat_map instr_encoding code) ≤ bytes code

-- ---- functions and modules

abbrev pub max_bytes : ℕ
max_bytes = 2 ^ 32

abbrev pub function_locals : Function → ℕ
function_locals f = local_count f.body.locals

-- What is asked of functions: few levels, numbers in their widths, and less than 2 ^ 32 locals in
-- each and bytes in all.
pub record FunctionsFit (fs : List Function) : Type 0 where
  pub nesting : deepest_of function_levels fs ≤ max_levels
  pub numbers : list_all (λ f. code_numbers_fit f.body.code) fs ≡ true
  pub locals : deepest_of function_locals fs < max_bytes
  pub size : 5 + sum_of function_bytes fs < max_bytes

-- Bodies of these have an encoding, and so has the code section.
abbrev pub BodiesFit : Type 0
BodiesFit = (fs : List Function) → FunctionsFit fs
    → (list_all (λ f. body.fits f.body) fs ≡ true)
    × (nat_lt (length (bodies_encoding fs)) max_bytes ≡ true)

-- All that is asked of a module: its functions fit, and each of the other sections does, as the
-- format says: indexes and sizes below 2 ^ 32, names in UTF-8, bytes below 256, and less than
-- 2 ^ 32 entries and bytes in a section.
pub record HasRoom (m : WModule) : Type 0 where
  pub types : (section 1 func_type).fits m.types ≡ true
  pub imports : (section 2 import).fits m.imports ≡ true
  pub uses : (section 3 unsigned).fits (types_of m.functions) ≡ true
  pub tables : (section 4 table_type).fits m.tables ≡ true
  pub memories : (section 5 memory_type).fits m.memories ≡ true
  pub globals : (section 6 global).fits m.globals ≡ true
  pub exports : (section 7 export).fits m.exports ≡ true
  pub elements : (section 9 element_segment).fits m.elements ≡ true
  pub functions : FunctionsFit m.functions
  pub segments : (section 11 data_segment).fits m.data ≡ true

-- A module of which this holds has an encoding.
abbrev pub ModulesFit : Type 0
ModulesFit = (m : WModule) → HasRoom m → module_fits m ≡ true

-- ---- the module of a body

-- a number of slots, or of bytes of texts, is few up to here
abbrev pub few_entries : ℕ
few_entries = 2 ^ 24

-- All that is asked of the module of a body. It has no table, memory, global or export of its own.
pub record BodyHasRoom (m : TypedModule) : Type 0 where
  pub bodies : FunctionsFit (functions m)
  pub types : (section 1 func_type).fits (body_types ++ map type_of (signatures m)) ≡ true
  pub imported : (section 2 import).fits (imports m) ≡ true
  pub uses : list_all unsigned.fits (types_of (functions m)) ≡ true
  pub table : slots m ≤ few_entries
  pub texts : list_all (λ b. nat_lt b 256) (all_characters (module_texts m)) ≡ true
  pub texts_size : length (all_characters (module_texts m)) ≤ few_entries

-- Then it has an encoding.
abbrev pub BodyModulesFit : Type 0
BodyModulesFit = (m : TypedModule) → BodyHasRoom m → module_fits (typed_module m) ≡ true

-- ---- what holds of the modules that the checker accepts

-- A function has at most two locals more than twice what the bodies of its module count.
abbrev pub most_locals : TypedModule → ℕ
most_locals m = deepest_of function_locals (functions m)

abbrev pub FunctionsHaveFewLocals : Type 0
FunctionsHaveFewLocals = (m : TypedModule) → most_locals m ≤ 2 + 2 * size_bodies m

-- So each module of a text that is not too long has fewer locals in a function than there may be.
abbrev pub max_locals : ℕ
max_locals = 2 + 2 * most

abbrev pub LocalsFit : Gathers → Type 0
LocalsFit g = (text : List ℕ) (ts : List Token) (m : Module) → length text ≤ max_text
    → HasTokens text ts → IsModule ts m
    → (number : ℕ) (own : Option Table) (tables : List Table)
    → AtMost most_locals max_locals (body_module g number m own tables)

-- A module counts no more than the tree of the longest text.
abbrev pub CountsFew : TypedModule → Type 0
CountsFew m = counts_in m ≤ most

-- The functions of a module that goes at most 200 procedures outwards, and counts few, take less
-- than 2 ^ 32 bytes.
abbrev pub SizesFit : Type 0
SizesFit = (m : TypedModule) → outward_bodies m ≤ max_nesting → CountsFew m
    → 5 + sum_of function_bytes (functions m) < max_bytes
