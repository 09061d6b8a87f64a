-- The imports of the module of a body have an encoding, if there are few names and short ones.
use Rattle.std.proofs.Common.{map, ◌≡◌, ℕ, suc, ◌+◌, ◌*◌, ◌≤◌, ◌<◌, true, ◌&&◌, List, [], ◌∷◌, ◌++◌, length, Option, Some, None, refl, arith}
use Rattle.std.specs.Prelude.{codes}
use Rattle.std.specs.List.{list_all}
use Rattle.std.proofs.lemmas.Bool.{and_parts}
use Rattle.std.proofs.lemmas.List.{length-append}
use Rattle.wasm_tree.specs.declared.kinds.ValueType.TheVariants.{I32, I64}
use Rattle.wasm_tree.specs.declared.module.Import.{Import}
use Rattle.wasm_tree.specs.declared.module.ImportKind.{ImportKind}
use Rattle.wasm_tree.specs.declared.module.ImportKind.TheVariants as imported
use Rattle.wasm_code.specs.Number.{unsigned}
use Rattle.wasm_code.specs.Parts.{name, section}
use Rattle.wasm_code.specs.Instructions.{value_type}
use Rattle.wasm_binary.specs.Binary.{limits, table_type, memory_type, import_kind, import}
use Rattle.typed_tree.specs.declared.typed_module.Imported.{Imported}
use Rattle.typed_tree.specs.declared.typed_module.TypedModule.{TypedModule}
use Rattle.def_scheme.specs.Scheme.{at_least_one, base_name, text_name, tab_name, from_link, from_host, imported_globals, host_imports}
use Rattle.def_scheme.specs.Modules.{imports}
use Rattle.law_encoding.specs.Sizes.{sum_of}
use Rattle.law_encoding.specs.Fits.{max_bytes, few_entries}
use Rattle.law_encoding.specs.ImportsRoom.{imported_length, NamesAreShort}
use Rattle.law_encoding.proofs.CodeFits.{both_true}
use Rattle.law_encoding.proofs.EncodedBytes.{unsigned_short}
use Rattle.law_encoding.proofs.Sections.{section_fits}
use Rattle.law_encoding.proofs.Names.{name_fits, name_short, ascii_fits}

-- ---- kinds

two_numbers : (m a b : ℕ) → m ≡ a + b → a ≤ 5 → b ≤ 5 → suc m ≤ 11
two_numbers m a b e h l = omega (arith, e, h, l)

one_number : (a : ℕ) → a ≤ 5 → suc a ≤ 11
one_number a h = omega (arith, h)

limits_short : (n : ℕ) (o : Option ℕ) → limits.fits (record { min = n; max = o }) ≡ true
    → length (limits.encoding (record { min = n; max = o })) ≤ 11
unfolding limits
limits_short n None e = let both = and_parts (unsigned.fits n) true e in one_number _ (unsigned_short n both.0)
limits_short n (Some k) e =
    let both = and_parts (unsigned.fits n) (unsigned.fits k) e in
    two_numbers _ (length (unsigned.encoding n)) (length (unsigned.encoding k))
    (length-append (unsigned.encoding n) (unsigned.encoding k)) (unsigned_short n both.0) (unsigned_short k both.1)

kind_number : (a : ℕ) → a ≤ 5 → suc a ≤ 13
kind_number a h = omega (arith, h)

kind_table : (a : ℕ) → a ≤ 11 → suc (suc a) ≤ 13
kind_table a h = omega (arith, h)

kind_memory : (a : ℕ) → a ≤ 11 → suc a ≤ 13
kind_memory a h = omega (arith, h)

kind_short : (k : ImportKind) → import_kind.fits k ≡ true → length (import_kind.encoding k) ≤ 13
unfolding import_kind table_type memory_type value_type
kind_short (imported.Function t) e = kind_number _ (unsigned_short t e)
kind_short (imported.Table t) e = kind_table _ (limits_short t.limits.min t.limits.max e)
kind_short (imported.Memory t) e = kind_memory _ (limits_short t.limits.min t.limits.max e)
kind_short (imported.Global I32) e = omega arith
kind_short (imported.Global I64) e = omega arith

-- ---- imports

abbrev import_bytes : Import → ℕ
import_bytes i = 23 + (length i.module_name + length i.name)

some_bytes : (i : Import) → 1 ≤ import_bytes i
some_bytes i = some (length i.module_name + length i.name) where
  some : (n : ℕ) → 1 ≤ 23 + n
  some n = omega arith

import_sum : (m a r b k x y : ℕ) → m ≡ a + r → r ≡ b + k → a ≤ 5 + x → b ≤ 5 + y → k ≤ 13 → m ≤ 23 + (x + y)
import_sum m a r b k x y e f h l q = omega (arith, e, f, h, l, q)

import_short : (i : Import) → import.fits i ≡ true → length (import.encoding i) ≤ import_bytes i
unfolding import
import_short i e =
    let both = and_parts (name.fits i.module_name) (name.fits i.name && import_kind.fits i.kind) e in
    let rest = and_parts (name.fits i.name) (import_kind.fits i.kind) both.1 in
    import_sum _ (length (name.encoding i.module_name)) (length (name.encoding i.name ++ import_kind.encoding i.kind))
    (length (name.encoding i.name)) (length (import_kind.encoding i.kind)) (length i.module_name) (length i.name)
    (length-append (name.encoding i.module_name) (name.encoding i.name ++ import_kind.encoding i.kind))
    (length-append (name.encoding i.name) (import_kind.encoding i.kind)) (name_short i.module_name both.0)
    (name_short i.name rest.0) (kind_short i.kind rest.1)

import_fits : (i : Import) → name.fits i.module_name ≡ true → name.fits i.name ≡ true → import_kind.fits i.kind ≡ true
    → import.fits i ≡ true
unfolding import
import_fits i e f h = both_true _ _ e (both_true _ _ f h)

link_fits : name.fits (codes "link") ≡ true
link_fits = ascii_fits (codes "link") refl (omega arith)

memory_kind : import_kind.fits (imported.Memory (record { limits = at_least_one })) ≡ true
unfolding import_kind memory_type limits
memory_kind = refl

table_kind : import_kind.fits (imported.Table (record { limits = at_least_one })) ≡ true
unfolding import_kind table_type limits
table_kind = refl

global_kind : import_kind.fits (imported.Global I32) ≡ true
unfolding import_kind
global_kind = refl

function_kind : import_kind.fits (imported.Function 0) ≡ true
unfolding import_kind
function_kind = refl

from_link_fits : (n : List ℕ) → name.fits n ≡ true → import.fits (from_link n) ≡ true
from_link_fits n e = import_fits (from_link n) link_fits e global_kind

base_fits : (n : List ℕ) → name.fits n ≡ true → length n ≤ few_entries → import.fits (from_link (base_name n)) ≡ true
base_fits n e h = from_link_fits (base_name n)
    (name_fits (codes "base.") n (ascii_fits (codes "base.") refl (omega arith)) (omega arith) e h)

text_fits : (n : List ℕ) → name.fits n ≡ true → length n ≤ few_entries → import.fits (from_link (text_name n)) ≡ true
text_fits n e h = from_link_fits (text_name n)
    (name_fits (codes "text.") n (ascii_fits (codes "text.") refl (omega arith)) (omega arith) e h)

tab_fits : (n : List ℕ) → name.fits n ≡ true → length n ≤ few_entries → import.fits (from_link (tab_name n)) ≡ true
tab_fits n e h = from_link_fits (tab_name n)
    (name_fits (codes "tab.") n (ascii_fits (codes "tab.") refl (omega arith)) (omega arith) e h)

host_fits : list_all import.fits host_imports ≡ true
host_fits =
    both_true _ _ (import_fits (from_host (codes "put")) (ascii_fits (codes "host") refl (omega arith))
    (ascii_fits (codes "put") refl (omega arith)) function_kind)
    (both_true _ _ (import_fits (from_host (codes "stop")) (ascii_fits (codes "host") refl (omega arith))
    (ascii_fits (codes "stop") refl (omega arith)) function_kind) refl)

first_name : (a b : ℕ) → a + b ≤ few_entries → a ≤ few_entries
first_name a b h = omega (arith, h)

next_names : (a b : ℕ) → a + b ≤ few_entries → b ≤ few_entries
next_names a b h = omega (arith, h)

globals_fit : (is : List Imported) → list_all (λ (i : Imported). name.fits i.name) is ≡ true
    → sum_of imported_length is ≤ few_entries
    → list_all import.fits (imported_globals (map (λ (i : Imported). i.name) is) ++ host_imports) ≡ true
globals_fit [] e h = host_fits
globals_fit (i ∷ is) e h =
    let both = and_parts (name.fits i.name) (list_all (λ (i : Imported). name.fits i.name) is) e in
    let few = first_name (length i.name) _ h in
    both_true _ _ (base_fits i.name both.0 few)
    (both_true _ _ (tab_fits i.name both.0 few) (globals_fit is both.1 (next_names (length i.name) _ h)))

globals_sum : (a b n s k r : ℕ) → a ≡ 5 + n → b ≡ 4 + n → s ≤ 100 + (63 * k + 2 * r)
    → 23 + (4 + a) + (23 + (4 + b) + s) ≤ 100 + (63 * suc k + 2 * (n + r))
globals_sum a b n s k r e f h = omega (arith, e, f, h)

globals_short : (is : List Imported) → sum_of import_bytes
    (imported_globals (map (λ (i : Imported). i.name) is) ++ host_imports) ≤ 100 +
    (63 * length is + 2 * sum_of imported_length is)
globals_short [] = omega arith
globals_short (i ∷ is) =
    globals_sum _ _ (length i.name) _ (length is) (sum_of imported_length is) (length-append (codes "base.") i.name)
    (length-append (codes "tab.") i.name) (globals_short is)

whole_room : (a b c n s k r : ℕ) → a ≡ 5 + n → b ≡ 5 + n → c ≡ 4 + n → s ≤ 100 + (63 * k + 2 * r) → n ≤ few_entries
    → k ≤ few_entries → r ≤ few_entries
    → 5 + (23 + (4 + 6) + (23 + (4 + 5) + (23 + (4 + 5) + (23 + (4 + a) + (23 + (4 + b) + (23 + (4 + c) + s)))))) <
    max_bytes
whole_room a b c n s k r e f g h l q j = omega (arith, e, f, g, h, l, q, j)

pub imports_fit : (m : TypedModule) → NamesAreShort m → (section 2 import).fits (imports m) ≡ true
imports_fit m p =
    section_fits 2 import import_bytes some_bytes import_short (imports m)
    (both_true _ _ (import_fits _ link_fits (ascii_fits (codes "memory") refl (omega arith)) memory_kind)
    (both_true _ _ (import_fits _ link_fits (ascii_fits (codes "table") refl (omega arith)) table_kind)
    (both_true _ _ (from_link_fits (codes "limit") (ascii_fits (codes "limit") refl (omega arith)))
    (both_true _ _ (base_fits m.name p.own p.own_length) (both_true _ _ (text_fits m.name p.own p.own_length)
    (both_true _ _ (tab_fits m.name p.own p.own_length) (globals_fit m.imports p.names p.lengths)))))))
    (whole_room _ _ _ (length m.name) _ (length m.imports) (sum_of imported_length m.imports)
    (length-append (codes "base.") m.name) (length-append (codes "text.") m.name)
    (length-append (codes "tab.") m.name)
    (globals_short m.imports) p.own_length p.count p.lengths)
