-- What CASE makes of the code before it.
use Rattle.std.proofs.Common.{◌≡◌, ℕ, zero, suc, ◌+◌, ◌-◌, ◌&&◌, ℤ, pos, Bool, true, false, List, [], ◌∷◌, ◌++◌, map, length, Option, Some, None, refl, sym, ap, ◌∙◌, arith, append_assoc, add_assoc}
use Rattle.std.specs.Prelude.{int_le, ◌+ℤ◌, if◌then◌else◌}
use Rattle.std.specs.List.{list_any, range_with_len}
use Rattle.std.proofs.lemmas.List.{append-nil, length-append}
use Rattle.wasm_tree.specs.declared.code.Op.{Op}
use Rattle.wasm_tree.specs.declared.code.Op.TheVariants as op
use Rattle.wasm_tree.specs.declared.instr.Instr.{Instr, Instr-F, map-Instr, fold_out-Instr}
use Rattle.wasm_tree.specs.declared.instr.Instr.TheVariants.{outs-BrTable}
use Rattle.wasm_tree.specs.Code.{flat_one, flat_step}
use Rattle.wasm_tree.specs.declared.instr.Instr.TheVariants.{Br, BrIf, BrTable, LocalSet, I64Const}
use Rattle.wasm_tree.specs.declared.instr.Relation.TheVariants.{GtU}
use Rattle.typed_tree.specs.declared.computed.TypedExpr.{TypedExpr}
use Rattle.typed_tree.specs.declared.statement.Label.{Label}
use Rattle.typed_tree.specs.declared.statement.TypedStmt.{TypedStmt}
use Rattle.typed_tree.specs.declared.statement.TypedStmt.TheOpen as sl
use Rattle.typed_tree.specs.declared.statement.TypedStmt.TheVariants as sv
use Rattle.typed_tree.specs.declared.statement.TypedArm.{TypedArm, fold_out-TypedArm}
use Rattle.def_scheme.specs.Coded.{Coded, Setting, plain, ◌⨾◌, all_coded, within, with_number, wrap_word, relation, fault, number_local}
use Rattle.def_scheme.specs.Exprs.{Numbered}
use Rattle.def_scheme.specs.Steps.{Arm, step_layer, arm_layer, step_code, part, block, in_block, tests_code, arm_code, chain_code, all_labels, least_of, span_of, is_dense, target, targets, from_least, dispatch, jump_arms, table_code, case_code}
use Rattle.def_scheme.specs.Modules.{numbering_of}
use Rattle.emit_buffer.specs.Cut.{cut, cut_op}
use Rattle.emit_buffer.specs.Drafts.{Drafted, with_ops, one, put, emitted, open_draft, place_of, closed_block}
use Rattle.emit_expr.specs.Values.{with_value}
use Rattle.emit_buffer.proofs.Emitted.{emitted_plain, emitted_seq, then_plain}
use Rattle.emit_buffer.proofs.Closed.{boxed_block}
use Rattle.emit_stmt.specs.Written.{with_step, with_steps, deeper, number_kept, arm_begun, with_arm, with_arms, opened_times, with_jump, with_jumps, labels_in, has_value, target_in, targets_in, dispatch_in, with_others, by_tests, by_table, by_cases, keep_selector, selected_local, all_cases}
use Rattle.emit_stmt.proofs.Stepped.{arm_of, by_layer, steps_are, block_is, keeps_number}

-- ---- an arm as the scheme sees it

abbrev made : Numbered → TypedArm → Arm
made n x = record { labels = x.labels; code = all_coded (map (step_code n) x.body) }

abbrev all_made : Numbered → List TypedArm → List Arm
all_made n xs = map (made n) xs

arm_is : (n : Numbered) (x : TypedArm) → arm_of n x ≡ made n x
unfolding arm_of step_code
arm_is n x = fold_out-TypedArm Coded Arm (step_layer n) (arm_layer n) x

arms_are : (n : Numbered) (xs : List TypedArm) → map (arm_of n) xs ≡ all_made n xs
arms_are n [] = refl
arms_are n (x ∷ xs) = ap (λ (a : Arm). a ∷ map (arm_of n) xs) (arm_is n x)
    ∙ ap (λ (rest : List Arm). made n x ∷ rest) (arms_are n xs)

count : (n : Numbered) (xs : List TypedArm) → length (all_made n xs) ≡ length xs
count n [] = refl
count n (x ∷ xs) = ap (λ (k : ℕ). suc k) (count n xs)

labels_are : (n : Numbered) (xs : List TypedArm) → all_labels (all_made n xs) ≡ labels_in xs
labels_are n [] = refl
labels_are n (x ∷ xs) = ap (λ (ls : List Label). x.labels ++ ls) (labels_are n xs)

target_is : (n : Numbered) (xs : List TypedArm) (v : ℤ) → target (all_made n xs) v ≡ target_in xs v
unfolding has_value
target_is n [] v = refl
target_is n (x ∷ xs) v = ap (λ (k : ℕ). if list_any (λ y. int_le y.low v && int_le v y.high) x.labels then 0 else suc k)
    (target_is n xs v)

-- the same function on each element of a list
same_map : {A B : Type 0} (f g : A → B) (h : (x : A) → f x ≡ g x) (xs : List A) → map f xs ≡ map g xs
same_map f g h [] = refl
same_map f g h (x ∷ xs) = ap (λ y. y ∷ map f xs) (h x) ∙ ap (λ ys. g x ∷ ys) (same_map f g h xs)

targets_are : (n : Numbered) (xs : List TypedArm) (low : ℤ) (span : ℕ)
    → targets (all_made n xs) low span ≡ targets_in xs low span
targets_are n xs low span = same_map (λ k. target (all_made n xs) (low +ℤ pos k)) (λ k. target_in xs (low +ℤ pos k))
    (λ k. target_is n xs (low +ℤ pos k)) (range_with_len 0 span)

dispatch_is : (n : Numbered) (t : ℕ) (xs : List TypedArm) (low : ℤ) (span : ℕ)
    → dispatch t (all_made n xs) low span ≡ dispatch_in t xs low span
dispatch_is n t xs low span =
    ap (λ (k : ℕ). from_least t low ++ (I64Const (span - 1) ∷ relation GtU ∷ BrIf k
    ∷ (from_least t low ++ (wrap_word ∷ BrTable (targets (all_made n xs) low span) k ∷ [])))) (count n xs)
    ∙ ap (λ (ts : List ℕ). from_least t low
    ++ (I64Const (span - 1) ∷ relation GtU ∷ BrIf (length xs)
    ∷ (from_least t low ++ (wrap_word ∷ BrTable ts (length xs) ∷ [])))) (targets_are n xs low span)

-- ---- what is done else

abbrev else_of : Numbered → Option (List TypedStmt) → Coded
else_of n None = plain (fault 5)
else_of n (Some xs) = all_coded (map (step_code n) xs)

others_are : (s : Setting) (d : Drafted) (others : Option (List TypedStmt))
    → emitted (else_of (numbering_of s.home) others) s d ≡ with_others s d others
others_are s d None = emitted_plain (fault 5) s d
others_are s d (Some xs) = steps_are s d xs

-- ---- one test after the other

block_of : (code : List Instr) (s : Setting) (d : Drafted)
    → emitted (plain (block code)) s d ≡ closed_block (place_of d) None (put code (open_draft d))
unfolding emitted
block_of code s d = boxed_block None (plain code) s s d
    ∙ ap (λ (r : Drafted). closed_block (place_of d) None r) (emitted_plain code s (open_draft d))

with_arm_is : (t : ℕ) (s : Setting) (d : Drafted) (x : TypedArm)
    → emitted (arm_code t (made (numbering_of s.home) x)) s d ≡ with_arm t s d x
unfolding emitted with_arm
with_arm_is t s d x =
    let inner : Setting = deeper 1 s in
    let body : Coded = all_coded (map (step_code (numbering_of s.home)) x.body) in
    let tests : List Instr = block (tests_code t x.labels) in
    boxed_block None (plain tests ⨾ body ⨾ plain (Br 1 ∷ [])) inner s d
    ∙ ap (λ (r : Drafted). closed_block (place_of d) None r)
    (emitted_seq (plain tests) (body ⨾ plain (Br 1 ∷ [])) inner (open_draft d)
    ∙ then_plain body (Br 1 ∷ []) inner (emitted (plain tests) inner (open_draft d))
    ∙ ap (λ (r : Drafted). put (Br 1 ∷ []) (emitted body inner r))
    (block_of (tests_code t x.labels) inner (open_draft d))
    ∙ ap (λ (r : Drafted). put (Br 1 ∷ []) r) (steps_are inner (arm_begun t d x) x.body))

with_arms_are : (t : ℕ) (s : Setting) (d : Drafted) (xs : List TypedArm)
    → emitted (all_coded (map (arm_code t) (all_made (numbering_of s.home) xs))) s d ≡ with_arms t s d xs
with_arms_are t s d [] = emitted_plain [] s d
with_arms_are t s d (x ∷ xs) =
    let n = numbering_of s.home in
    emitted_seq (arm_code t (made n x)) (all_coded (map (arm_code t) (all_made n xs))) s d
    ∙ ap (λ (r : Drafted). emitted (all_coded (map (arm_code t) (all_made n xs))) s r) (with_arm_is t s d x)
    ∙ with_arms_are t s (with_arm t s d x) xs

tests_are : (t : ℕ) (s : Setting) (d : Drafted) (xs : List TypedArm) (others : Option (List TypedStmt))
    → emitted (chain_code t (all_made (numbering_of s.home) xs) (else_of (numbering_of s.home) others)) s d
    ≡ closed_block (place_of d) None (with_others (deeper 1 s) (by_tests t s d xs) others)
tests_are t s d xs others =
    let n = numbering_of s.home in
    let inner : Setting = deeper 1 s in
    let arms : Coded = all_coded (map (arm_code t) (all_made n xs)) in
    block_is 1 (arms ⨾ else_of n others) s d
    ∙ ap (λ (r : Drafted). closed_block (place_of d) None r)
    (emitted_seq arms (else_of n others) inner (open_draft d)
    ∙ ap (λ (r : Drafted). emitted (else_of n others) inner r) (with_arms_are t inner (open_draft d) xs)
    ∙ others_are inner (with_arms t inner (open_draft d) xs) others)

-- ---- by a table

boxed_is : (x : Coded) (s : Setting) (d : Drafted)
    → emitted (in_block x) s d ≡ closed_block (place_of d) None (emitted x s (open_draft d))
unfolding emitted
boxed_is x s d = boxed_block None x s s d

within_is : (k : ℕ) (x : Coded) (s : Setting) (d : Drafted)
    → emitted (within k (λ code. code) x) s d ≡ emitted x (deeper k s) d
unfolding emitted
within_is k x s d = refl

place_opened : (n : ℕ) (d : Drafted) → place_of (opened_times n d) ≡ place_of d + n
unfolding open_draft
place_opened zero d = omega arith
place_opened (suc n) d = length-append (opened_times n d).ops (op.Unreachable ∷ [])
    ∙ ap (λ (k : ℕ). k + 1) (place_opened n d) ∙ omega arith

jump_is : (s : Setting) (d : Drafted) (x : TypedArm) (xs : List TypedArm) (inner : Coded)
    → emitted (in_block inner ⨾ within (length xs + 2) (λ code. code)
    (all_coded (map (step_code (numbering_of s.home)) x.body)) ⨾ plain (Br (length xs + 1) ∷ [])) s
    (opened_times (length xs) d)
    ≡ with_jump (place_of d) (length xs) s (emitted inner s (open_draft (opened_times (length xs) d))) x
unfolding with_jump
jump_is s d x xs inner =
    let n = numbering_of s.home in
    let k = length xs in
    let e : Drafted = opened_times k d in
    let body : Coded = all_coded (map (step_code n) x.body) in
    let after : Drafted = closed_block (place_of d + k) None (emitted inner s (open_draft e)) in
    emitted_seq (in_block inner) (within (k + 2) (λ code. code) body ⨾ plain (Br (k + 1) ∷ [])) s e
    ∙ then_plain (within (k + 2) (λ code. code) body) (Br (k + 1) ∷ []) s (emitted (in_block inner) s e)
    ∙ ap (λ (r : Drafted). put (Br (k + 1) ∷ []) r)
    (within_is (k + 2) body s (emitted (in_block inner) s e)
    ∙ ap (λ (r : Drafted). emitted body (deeper (k + 2) s) r)
    (boxed_is inner s e ∙ ap (λ (p : ℕ). closed_block p None (emitted inner s (open_draft e))) (place_opened k d))
    ∙ steps_are (deeper (k + 2) s) after x.body)

jumps_are : (s : Setting) (d : Drafted) (xs : List TypedArm) (inner : Coded)
    → emitted (jump_arms (all_made (numbering_of s.home) xs) inner) s d
    ≡ with_jumps (place_of d) s (emitted inner s (opened_times (length xs) d)) xs
jumps_are s d [] inner = refl
jumps_are s d (x ∷ xs) inner =
    let n = numbering_of s.home in
    let k = length xs in
    let e : Drafted = opened_times k d in
    let body : Coded = all_coded (map (step_code n) x.body) in
    let rest : ℕ → Coded = λ k. within (k + 2) (λ code. code) body ⨾ plain (Br (k + 1) ∷ []) in
    ap (λ (k : ℕ). emitted (jump_arms (all_made n xs) (in_block inner ⨾ rest k)) s d) (count n xs)
    ∙ jumps_are s d xs (in_block inner ⨾ rest k)
    ∙ ap (λ (r : Drafted). with_jumps (place_of d) s r xs) (jump_is s d x xs inner)

table_is : (t : ℕ) (s : Setting) (d : Drafted) (xs : List TypedArm) (others : Option (List TypedStmt))
    → emitted (table_code t (all_made (numbering_of s.home) xs) (else_of (numbering_of s.home) others)) s d
    ≡ closed_block (place_of d) None (with_others (deeper 1 s) (by_table t s d xs) others)
table_is t s d xs others =
    let n = numbering_of s.home in
    let arms : List Arm = all_made n xs in
    let code : List Instr = dispatch_in t xs (least_of (labels_in xs)) (span_of (labels_in xs)) in
    let jumps : List Instr → Coded = λ code. jump_arms arms (plain code) in
    let d2 : Drafted = open_draft (open_draft d) in
    let same : dispatch t arms (least_of (all_labels arms)) (span_of (all_labels arms)) ≡ code =
    ap (λ (ls : List Label). dispatch t arms (least_of ls) (span_of ls)) (labels_are n xs)
    ∙ dispatch_is n t xs (least_of (labels_in xs)) (span_of (labels_in xs)) in
    ap (λ (c : List Instr). emitted (in_block (in_block (jumps c) ⨾ within 1 (λ code. code) (else_of n others))) s d)
    same
    ∙ boxed_is (in_block (jumps code) ⨾ within 1 (λ code. code) (else_of n others)) s d
    ∙ ap (λ (r : Drafted). closed_block (place_of d) None r)
    (emitted_seq (in_block (jumps code)) (within 1 (λ code. code) (else_of n others)) s (open_draft d)
    ∙ within_is 1 (else_of n others) s (emitted (in_block (jumps code)) s (open_draft d))
    ∙ others_are (deeper 1 s) (emitted (in_block (jumps code)) s (open_draft d)) others
    ∙ ap (λ (r : Drafted). with_others (deeper 1 s) r others)
    (boxed_is (jumps code) s (open_draft d)
    ∙ ap (λ (r : Drafted). closed_block (place_of (open_draft d)) None r)
    (jumps_are s d2 xs (plain code)
    ∙ ap (λ (r : Drafted). with_jumps (place_of d2) s r xs) (emitted_plain code s (opened_times (length xs) d2)))))

-- ---- both

either : (b : Bool) (x y : Coded) (s : Setting) (d u v : Drafted) (f : Drafted → Drafted) → emitted x s d ≡ f u
    → emitted y s d ≡ f v → emitted (if b then x else y) s d ≡ f (if b then u else v)
either true x y s d u v f h k = h
either false x y s d u v f h k = k

abbrev case_of : Numbered → TypedExpr → List Arm → Coded → Coded
case_of n e arms otherwise = case_code (part n e).code arms otherwise

case_is : (s : Setting) (d : Drafted) (e : TypedExpr) (xs : List TypedArm) (others : Option (List TypedStmt))
    → emitted (case_of (numbering_of s.home) e (all_made (numbering_of s.home) xs)
    (else_of (numbering_of s.home) others)) s d
    ≡ all_cases (selected_local s e d) s (keep_selector s e d) xs others
unfolding with_value by_cases
case_is s d e xs others =
    let n = numbering_of s.home in
    let arms : List Arm = all_made n xs in
    let otherwise : Coded = else_of n others in
    let code : ℕ → Coded = λ t. if is_dense (length arms) (all_labels arms) then table_code t arms otherwise else
    chain_code t arms otherwise in
    let d1 : Drafted = with_value s e d in
    let t = number_local s d1.counts.numbers in
    let d2 : Drafted = number_kept s d1 in
    let end : Drafted → Drafted = λ r. closed_block (place_of d2) None (with_others (deeper 1 s) r others) in
    emitted_seq (part n e).code (with_number (λ t. plain (LocalSet t ∷ []) ⨾ code t)) s d
    ∙ keeps_number code s d1
    ∙ either (is_dense (length arms) (all_labels arms)) (table_code t arms otherwise) (chain_code t arms otherwise) s d2
    (by_table t s d2 xs) (by_tests t s d2 xs) end (table_is t s d2 xs others) (tests_are t s d2 xs others)
    ∙ ap (λ (k : ℕ). end (if is_dense k (all_labels arms) then by_table t s d2 xs else by_tests t s d2 xs)) (count n xs)
    ∙ ap (λ (ls : List Label). end (if is_dense (length xs) ls then by_table t s d2 xs else by_tests t s d2 xs))
    (labels_are n xs)

pub step_Case_None : (s : Setting) (d : Drafted) (e : TypedExpr) (xs : List TypedArm)
    → with_step s d (sv.Case e xs None) ≡ closed_block (place_of (keep_selector s e d)) None
    (put (fault 5) (by_cases (selected_local s e d) s (keep_selector s e d) xs))
step_Case_None s d e xs =
    let n = numbering_of s.home in
    by_layer s d (sv.Case e xs None) (sl.Case e xs None) (sv.outs-Case e xs None)
    ∙ ap (λ (arms : List Arm). emitted (case_of n e arms (else_of n None)) s d) (arms_are n xs)
    ∙ case_is s d e xs None

pub step_Case_Some : (s : Setting) (d : Drafted) (e : TypedExpr) (xs : List TypedArm) (ys : List TypedStmt)
    → with_step s d (sv.Case e xs (Some ys))
    ≡ closed_block (place_of (keep_selector s e d)) None
    (with_steps (deeper 1 s) (by_cases (selected_local s e d) s (keep_selector s e d) xs) ys)
step_Case_Some s d e xs ys =
    let n = numbering_of s.home in
    by_layer s d (sv.Case e xs (Some ys)) (sl.Case e xs (Some ys)) (sv.outs-Case e xs (Some ys))
    ∙ ap (λ (arms : List Arm). emitted (case_of n e arms (else_of n (Some ys))) s d) (arms_are n xs)
    ∙ case_is s d e xs (Some ys)

-- a table of labels is one instruction
branches_cut : (ls : List ℕ) → map cut_op (map (λ l. op.Br l) ls) ≡ map (λ l. op.Br (cut l)) ls
branches_cut [] = refl
branches_cut (l ∷ ls) = ap (λ (r : List Op). op.Br (cut l) ∷ r) (branches_cut ls)

pub table_flat : (ls : List ℕ) (l : ℕ) (d : Drafted)
    → with_ops (map (λ l. op.Br (cut l)) ls) (with_ops (op.BrTable (cut (length ls)) (cut l) ∷ []) d)
    ≡ one (BrTable ls l) d
unfolding one flat_one
table_flat ls l d =
    ap (λ (ops : List Op). record { ops = ops; counts = d.counts })
    (append_assoc d.ops (op.BrTable (cut (length ls)) (cut l) ∷ []) (map (λ l. op.Br (cut l)) ls)
    ∙ ap (λ (ops : List Op). d.ops ++ op.BrTable (cut (length ls)) (cut l) ∷ ops) (sym (branches_cut ls))
    ∙ ap (λ (ops : List Op). d.ops ++ map cut_op ops)
    (sym (fold_out-Instr (List Op) flat_step (BrTable ls l)
    ∙ ap (λ (y : Instr-F Instr). flat_step (map-Instr Instr (List Op) flat_one y)) (outs-BrTable ls l))))

-- ---- loops

-- one more operation behind, and none
pub with_more : (o : Op) (os : List Op) (d : Drafted) → with_ops os (with_ops (o ∷ []) d) ≡ with_ops (o ∷ os) d
with_more o os d = ap (λ (ops : List Op). record { ops = ops; counts = d.counts }) (append_assoc d.ops (o ∷ []) os)

pub with_none : (d : Drafted) → with_ops [] d ≡ d
with_none d = ap (λ (ops : List Op). record { ops = ops; counts = d.counts }) (append-nil d.ops)

-- inside some blocks, and then more
pub deeper_twice : (s : Setting) (n m : ℕ) → record s { exit = s.exit + n + m } ≡ deeper (n + m) s
deeper_twice s n m = ap (λ (k : ℕ). record s { exit = k }) (add_assoc s.exit n m)

-- the next arm of a table
pub jump_next : (p : ℕ) (s : Setting) (d e : Drafted) (xs rest : List TypedArm) (x : TypedArm) (left : ℕ)
    → xs ≡ x ∷ rest → left ≡ length rest → e ≡ with_jump p left s d x → with_jumps p s e rest ≡ with_jumps p s d xs
jump_next p s d e xs rest x left h k l =
    ap (λ (e : Drafted). with_jumps p s e rest) (l ∙ ap (λ (n : ℕ). with_jump p n s d x) k)
    ∙ sym (ap (λ (xs : List TypedArm). with_jumps p s d xs) h)
