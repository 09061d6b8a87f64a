-- Code in the making with the code of statements.
use Rattle.std.specs.Prelude.{ℕ, zero, suc, Bool, ◌+◌, ◌-◌, ℤ, pos, ◌+ℤ◌, ◌&&◌, int_le, if◌then◌else◌, map, List, [], ◌∷◌, ◌++◌, Option, Some, None, length}
use Rattle.std.specs.List.{fold, flat_map, list_any, range_with_len}
use Rattle.wasm_tree.specs.declared.instr.Instr.TheVariants.{Br, BrIf, BrTable, LocalGet, LocalSet, I64Const}
use Rattle.wasm_tree.specs.declared.instr.Instr.{Instr}
use Rattle.wasm_tree.specs.declared.instr.Relation.TheVariants.{GtU}
use Rattle.typed_tree.specs.declared.statement.Label.{Label}
use Rattle.wasm_tree.specs.declared.instr.Operation.TheVariants.{Add}
use Rattle.typed_tree.specs.declared.types.TypeNo.{TypeNo}
use Rattle.typed_tree.specs.declared.computed.Place.{Place}
use Rattle.typed_tree.specs.declared.computed.TypedExpr.{TypedExpr}
use Rattle.typed_tree.specs.declared.statement.TypedStmt.{TypedStmt}
use Rattle.typed_tree.specs.declared.statement.TypedArm.{TypedArm}
use Rattle.def_meaning.specs.Answer.{case_fault, range_fault}
use Rattle.def_scheme.specs.Coded.{Setting, address_local, number_local, number, operation, relation, wrap_word, fault}
use Rattle.def_scheme.specs.Cells.{load_code, store_code, in_type}
use Rattle.def_scheme.specs.Steps.{step_code, tests_code, passes, from_least, is_dense, least_of, span_of}
use Rattle.def_scheme.specs.Modules.{numbering_of}
use Rattle.emit_buffer.specs.Drafts.{Drafted, emitted, one, put, next_address, next_number, open_draft, place_of, closed_block}
use Rattle.emit_expr.specs.Values.{with_value, with_place, with_taken}

-- with a statement, and with statements
unfoldable pub with_step : Setting → Drafted → TypedStmt → Drafted
with_step s d x = emitted (step_code (numbering_of s.home) x) s d

abbrev pub with_steps : Setting → Drafted → List TypedStmt → Drafted
with_steps s d xs = fold (with_step s) d xs

-- inside this many more blocks
abbrev pub deeper : ℕ → Setting → Setting
deeper n s = record s { exit = s.exit + n }

-- an address is kept in a local, and a number
abbrev pub address_kept : Setting → Drafted → Drafted
address_kept s d = one (LocalSet (address_local s d.counts.addresses)) (next_address d)

abbrev pub number_kept : Setting → Drafted → Drafted
number_kept s d = one (LocalSet (number_local s d.counts.numbers)) (next_number d)

-- ---- FOR: the start is stored, and the limit kept

abbrev pub for_limited : Setting → Place → TypeNo → (start limit : TypedExpr) → Drafted → Drafted
for_limited s p t a b d = with_value s b (with_taken s t a (with_place s p d))

abbrev pub for_local : Setting → Place → TypeNo → (start limit : TypedExpr) → Drafted → ℕ
for_local s p t a b d = number_local s (for_limited s p t a b d).counts.numbers

abbrev pub for_begun : Setting → Place → TypeNo → (start limit : TypedExpr) → Drafted → Drafted
for_begun s p t a b d = put (store_code s.home.types t) (number_kept s (for_limited s p t a b d))

-- before the first turn, and at the end of each
abbrev pub for_tested : Setting → Place → TypeNo → (by : ℤ) → (n : ℕ) → Drafted → Drafted
for_tested s p t by n d =
    put (LocalGet n ∷ relation (passes by) ∷ BrIf 0 ∷ [])
    (put (load_code s.home.types t) (with_place s p d))

abbrev pub for_passed : Setting → Place → TypeNo → (by : ℤ) → (n : ℕ) → Drafted → Drafted
for_passed s p t by n d =
    put (number by ∷ operation Add ∷ LocalGet n ∷ relation (passes by) ∷ BrIf 1 ∷ [])
    (put (load_code s.home.types t) (with_place s p d))

abbrev pub for_next : Setting → Place → TypeNo → (by : ℤ) → Drafted → Drafted
for_next s p t by d =
    put
    (number by ∷ operation Add ∷ (in_type s.home.types t range_fault ++ (store_code s.home.types t
    ++ Br 0 ∷ [])))
    (put (load_code s.home.types t) (with_place s p (with_place s p d)))

abbrev pub for_turned : Setting → Place → TypeNo → (by : ℤ) → (n : ℕ) → Drafted → Drafted
for_turned s p t by n d = for_next s p t by (for_passed s p t by n d)

-- ---- the arms of a CASE, one test after the other

abbrev pub arm_begun : (t : ℕ) → Drafted → TypedArm → Drafted
arm_begun t d x =
    closed_block (place_of (open_draft d)) None
    (put (tests_code t x.labels) (open_draft (open_draft d)))

unfoldable pub with_arm : (t : ℕ) → Setting → Drafted → TypedArm → Drafted
with_arm t s d x =
    closed_block (place_of d) None
    (put (Br 1 ∷ []) (with_steps (deeper 1 s) (arm_begun t d x) x.body))

abbrev pub with_arms : (t : ℕ) → Setting → Drafted → List TypedArm → Drafted
with_arms t s d xs = fold (with_arm t s) d xs

-- ---- the arms of a CASE by a table: the blocks of all arms begin before the first arm

abbrev pub opened_times : ℕ → Drafted → Drafted
opened_times zero d = d
opened_times (suc n) d = open_draft (opened_times n d)

unfoldable pub with_jump : (place left : ℕ) → Setting → Drafted → TypedArm → Drafted
with_jump p n s d x =
    put (Br (n + 1) ∷ []) (with_steps (deeper (n + 2) s) (closed_block (p + n) None d) x.body)

abbrev pub with_jumps : (place : ℕ) → Setting → Drafted → List TypedArm → Drafted
with_jumps p s d [] = d
with_jumps p s d (x ∷ xs) = with_jumps p s (with_jump p (length xs) s d x) xs

-- ---- CASE

abbrev pub labels_in : List TypedArm → List Label
labels_in xs = flat_map (λ x. x.labels) xs

-- whether a value is one of an arm
unfoldable pub has_value : ℤ → TypedArm → Bool
has_value v x = list_any (λ y. int_le y.low v && int_le v y.high) x.labels

-- the number of the arm for a value, or how many arms there are
abbrev pub target_in : List TypedArm → ℤ → ℕ
target_in [] v = 0
target_in (x ∷ xs) v = if has_value v x then 0 else suc (target_in xs v)

abbrev pub targets_in : List TypedArm → (least : ℤ) → (span : ℕ) → List ℕ
targets_in xs low span = map (λ k. target_in xs (low +ℤ pos k)) (range_with_len 0 span)

abbrev pub beyond : (t : ℕ) → (least : ℤ) → (span last : ℕ) → List Instr
beyond t low span last = from_least t low ++ (I64Const (span - 1) ∷ relation GtU ∷ BrIf last ∷ [])

abbrev pub dispatch_to : (t : ℕ) → (least : ℤ) → (span : ℕ) → List ℕ → (last : ℕ) → List Instr
dispatch_to t low span targets last =
    beyond t low span last ++ (from_least t low ++ (wrap_word ∷ BrTable targets last ∷ []))

abbrev pub dispatch_in : (t : ℕ) → List TypedArm → (least : ℤ) → (span : ℕ) → List Instr
dispatch_in t xs low span = dispatch_to t low span (targets_in xs low span) (length xs)

-- what is done if no label has the value
abbrev pub with_others : Setting → Drafted → Option (List TypedStmt) → Drafted
with_others s d None = put (fault case_fault) d
with_others s d (Some xs) = with_steps s d xs

-- by a table: a block for the whole, one for what is done else, and one for each arm
abbrev pub table_begun : (t : ℕ) → (least : ℤ) → (span : ℕ) → List TypedArm → Drafted → Drafted
table_begun t low span xs d =
    put (dispatch_in t xs low span) (opened_times (length xs) (open_draft (open_draft d)))

abbrev pub by_table : (t : ℕ) → Setting → Drafted → List TypedArm → Drafted
by_table t s d xs =
    closed_block (place_of (open_draft d)) None
    (with_jumps (place_of (open_draft (open_draft d))) s
    (table_begun t (least_of (labels_in xs)) (span_of (labels_in xs)) xs d) xs)

-- or one test after the other
abbrev pub by_tests : (t : ℕ) → Setting → Drafted → List TypedArm → Drafted
by_tests t s d xs = with_arms t (deeper 1 s) (open_draft d) xs

unfoldable pub by_cases : (t : ℕ) → Setting → Drafted → List TypedArm → Drafted
by_cases t s d xs =
    if is_dense (length xs) (labels_in xs) then by_table t s d xs else by_tests t s d xs

-- the selector is kept, and all stands in a block
abbrev pub keep_selector : Setting → TypedExpr → Drafted → Drafted
keep_selector s e d = number_kept s (with_value s e d)

abbrev pub selected_local : Setting → TypedExpr → Drafted → ℕ
selected_local s e d = number_local s (with_value s e d).counts.numbers

abbrev pub all_cases : (t : ℕ) → Setting → Drafted → List TypedArm → Option (List TypedStmt)
    → Drafted
all_cases t s d xs others =
    closed_block (place_of d) None (with_others (deeper 1 s) (by_cases t s d xs) others)
