-- Bytes of the binary format that have names.
use Rattle.std.specs.Prelude.{ℕ}

-- ---- opcodes, by the names of their instructions (Core 1.0, section 5.4)

abbrev pub unreachable : ℕ
unreachable = 0x00

abbrev pub block : ℕ
block = 0x02

abbrev pub loop : ℕ
loop = 0x03

abbrev pub if : ℕ
if = 0x04

abbrev pub else : ℕ
else = 0x05

abbrev pub end : ℕ
end = 0x0B

abbrev pub br : ℕ
br = 0x0C

abbrev pub br_if : ℕ
br_if = 0x0D

abbrev pub br_table : ℕ
br_table = 0x0E

abbrev pub return : ℕ
return = 0x0F

abbrev pub call : ℕ
call = 0x10

abbrev pub call_indirect : ℕ
call_indirect = 0x11

abbrev pub drop : ℕ
drop = 0x1A

abbrev pub local_get : ℕ
local_get = 0x20

abbrev pub local_set : ℕ
local_set = 0x21

abbrev pub local_tee : ℕ
local_tee = 0x22

abbrev pub global_get : ℕ
global_get = 0x23

abbrev pub i32_const : ℕ
i32_const = 0x41

abbrev pub i64_const : ℕ
i64_const = 0x42

-- ---- types (5.3), and the type of a block that leaves nothing (5.4.1)

abbrev pub i32 : ℕ
i32 = 0x7F

abbrev pub i64 : ℕ
i64 = 0x7E

abbrev pub no_result : ℕ
no_result = 0x40

abbrev pub func_type : ℕ
func_type = 0x60

abbrev pub func_ref : ℕ
func_ref = 0x70

abbrev pub immutable : ℕ
immutable = 0x00

-- ---- what is imported or exported (5.5.5, 5.5.10)

abbrev pub of_function : ℕ
of_function = 0x00

abbrev pub of_table : ℕ
of_table = 0x01

abbrev pub of_memory : ℕ
of_memory = 0x02

abbrev pub of_global : ℕ
of_global = 0x03

-- ---- sections (5.5.2)

abbrev pub type_section : ℕ
type_section = 1

abbrev pub import_section : ℕ
import_section = 2

abbrev pub function_section : ℕ
function_section = 3

abbrev pub table_section : ℕ
table_section = 4

abbrev pub memory_section : ℕ
memory_section = 5

abbrev pub global_section : ℕ
global_section = 6

abbrev pub export_section : ℕ
export_section = 7

abbrev pub element_section : ℕ
element_section = 9

abbrev pub code_section : ℕ
code_section = 10

abbrev pub data_section : ℕ
data_section = 11
