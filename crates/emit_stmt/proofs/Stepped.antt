-- What each variant of a statement makes of the code before it.
use Rattle.std.proofs.Common.{◌≡◌, ℕ, suc, ◌-◌, ℤ, pos, List, [], ◌∷◌, ◌++◌, map, length, Some, None, refl, sym, ap, ◌∙◌, subst, add-one}
use Rattle.wasm_tree.specs.declared.instr.Instr.{Instr}
use Rattle.wasm_tree.specs.declared.instr.Instr.TheVariants.{Loop, Br, BrIf, Return, Call, LocalGet, LocalSet, LocalTee, I32Const}
use Rattle.wasm_tree.specs.declared.instr.Operation.TheVariants.{Add}
use Rattle.typed_tree.specs.declared.types.TypeNo.{TypeNo}
use Rattle.typed_tree.specs.declared.computed.Place.{Place}
use Rattle.typed_tree.specs.declared.computed.TypedExpr.{TypedExpr}
use Rattle.typed_tree.specs.declared.computed.Call.{Call as Calls}
use Rattle.typed_tree.specs.declared.statement.Change.{Change}
use Rattle.typed_tree.specs.declared.statement.Membership.{Membership}
use Rattle.typed_tree.specs.declared.statement.TypedStmt.{TypedStmt, TypedStmt-F, out-TypedStmt, map-TypedStmt, fold_out-TypedStmt}
use Rattle.typed_tree.specs.declared.statement.TypedStmt.TheOpen as sl
use Rattle.typed_tree.specs.declared.statement.TypedStmt.TheVariants as sv
use Rattle.typed_tree.specs.declared.statement.TypedArm.{TypedArm, fold-TypedArm}
use Rattle.typed_tree.specs.Types.{char}
use Rattle.layout_storage.specs.Sizes.{size}
use Rattle.layout_storage.specs.Shapes.{tree}
use Rattle.def_scheme.specs.Coded.{Coded, Setting, plain, ◌⨾◌, all_coded, within, with_setting, with_number, with_address, with_text, wrap_word, is_zero, number, operation, relation, copy, fault, check_code, address_local, number_local}
use Rattle.def_scheme.specs.Cells.{store_code, load_code, in_type}
use Rattle.def_scheme.specs.Exprs.{Numbered, behind}
use Rattle.def_scheme.specs.Steps.{Arm, step_layer, arm_layer, step_code, take_code, part, place, block, loop, block_loop, under, change_instructions, keep_address, if_only, if_else, with_member, text_copied, passes, for_begin, for_turn}
use Rattle.def_scheme.specs.Modules.{numbering_of}
use Rattle.emit_buffer.specs.Drafts.{Drafted, one, put, emitted, next_address, next_number, next_text, open_draft, place_of, closed_block, closed_loop, closed_if, closed_if_else}
use Rattle.emit_expr.specs.Values.{with_value, with_place, with_call, with_taken}
use Rattle.emit_buffer.proofs.Emitted.{emitted_plain, emitted_seq, emitted_address, emitted_number, emitted_text, then_plain, plain_then, setting_plain, then_setting, emitted_behind}
use Rattle.emit_buffer.proofs.Closed.{boxing, boxed_block, boxed_loop, boxed_if, boxed_sides}
use Rattle.emit_stmt.specs.Written.{with_step, with_steps, deeper, address_kept, number_kept, for_local, for_begun, for_tested, for_turned}

-- ---- one layer

unfoldable pub arm_of : Numbered → TypedArm → Arm
arm_of n = fold-TypedArm Coded Arm (step_layer n) (arm_layer n)

abbrev pub opened_stmt : Numbered → TypedStmt-F TypedStmt TypedArm → TypedStmt-F Coded Arm
opened_stmt n x = map-TypedStmt TypedStmt TypedArm Coded Arm (step_code n) (arm_of n) x

at : (n : Numbered) (e : TypedStmt) (x : TypedStmt-F TypedStmt TypedArm) → out-TypedStmt e ≡ x
    → step_code n e ≡ step_layer n (opened_stmt n x)
unfolding step_code arm_of
at n e x h = fold_out-TypedStmt Coded Arm (step_layer n) (arm_layer n) e
    ∙ ap (λ (y : TypedStmt-F TypedStmt TypedArm). step_layer n (opened_stmt n y)) h

-- a statement by its layer
pub by_layer : (s : Setting) (d : Drafted) (e : TypedStmt) (x : TypedStmt-F TypedStmt TypedArm) → out-TypedStmt e ≡ x
    → with_step s d e ≡ emitted (step_layer (numbering_of s.home) (opened_stmt (numbering_of s.home) x)) s d
unfolding with_step
by_layer s d e x h = ap (λ (c : Coded). emitted c s d) (at (numbering_of s.home) e x h)

-- statements one behind the other
pub steps_are : (s : Setting) (d : Drafted) (xs : List TypedStmt)
    → emitted (all_coded (map (step_code (numbering_of s.home)) xs)) s d ≡ with_steps s d xs
unfolding with_step
steps_are s d [] = emitted_plain [] s d
steps_are s d (x ∷ xs) =
    emitted_seq (step_code (numbering_of s.home) x) (all_coded (map (step_code (numbering_of s.home)) xs)) s d
    ∙ steps_are s (with_step s d x) xs

-- ---- statements without others

pub step_Assign : (s : Setting) (d : Drafted) (p : Place) (t : TypeNo) (e : TypedExpr)
    → with_step s d (sv.Assign p t e) ≡ put (store_code s.home.types t) (with_taken s t e (with_place s p d))
unfolding with_place with_taken
step_Assign s d p t e =
    let n = numbering_of s.home in
    by_layer s d (sv.Assign p t e) (sl.Assign p t e) (sv.outs-Assign p t e)
    ∙ emitted_seq (place n p) (take_code n t e ⨾ with_setting (λ s. plain (store_code s.home.types t))) s d
    ∙ then_setting (take_code n t e) (λ s. store_code s.home.types t) s (with_place s p d)

pub step_Copy : (s : Setting) (d : Drafted) (a b : Place) (t : TypeNo)
    → with_step s d (sv.Copy a b t) ≡ put (I32Const (size (tree s.home.types t)) ∷ Call copy ∷ [])
    (with_place s b (with_place s a d))
unfolding with_place
step_Copy s d a b t =
    let n = numbering_of s.home in
    by_layer s d (sv.Copy a b t) (sl.Copy a b t) (sv.outs-Copy a b t)
    ∙ emitted_seq (place n a) (behind (place n b) (λ types. I32Const (size (tree types t)) ∷ Call copy ∷ [])) s d
    ∙ emitted_behind (place n b) (λ types. I32Const (size (tree types t)) ∷ Call copy ∷ []) s (with_place s a d)

abbrev pub text_begun : Setting → Drafted → Drafted
text_begun s d = put (LocalTee (address_local s d.counts.addresses) ∷ []) (next_address d)

pub step_CopyText : (s : Setting) (d : Drafted) (p : Place) (t : TypeNo) (text : List ℕ)
    → with_step s d (sv.CopyText p t text)
    ≡ put (text_copied (text_begun s (with_place s p d)).counts.texts (length text)
    (size (tree s.home.types t) - length text) (address_local s (with_place s p d).counts.addresses))
    (next_text (length text) (text_begun s (with_place s p d)))
unfolding with_place
step_CopyText s d p t text =
    let n = numbering_of s.home in
    let d1 = with_place s p d in
    let w = address_local s d1.counts.addresses in
    let f : ℕ → Setting → List Instr = λ at s. text_copied at (length text) (size (tree s.home.types t) - length text) w
    in
    let rest : Coded = with_text (length text) (λ at. with_setting (λ s. plain (f at s))) in
    by_layer s d (sv.CopyText p t text) (sl.CopyText p t text) (sv.outs-CopyText p t text)
    ∙ emitted_seq (place n p) (with_address
    (λ w. plain (LocalTee w ∷ []) ⨾ with_text (length text)
    (λ at. with_setting (λ s. plain (text_copied at (length text) (size (tree s.home.types t) - length text) w)))))
    s d
    ∙ emitted_address (λ w. plain (LocalTee w ∷ []) ⨾ with_text (length text)
    (λ at. with_setting (λ s. plain (text_copied at (length text) (size (tree s.home.types t) - length text) w)))) s
    d1
    ∙ plain_then (LocalTee w ∷ []) rest s (next_address d1)
    ∙ emitted_text (length text) (λ at. with_setting (λ s. plain (f at s))) s (text_begun s d1)
    ∙ setting_plain (f (text_begun s d1).counts.texts) s (next_text (length text) (text_begun s d1))

pub step_Call : (s : Setting) (d : Drafted) (c : Calls) → with_step s d (sv.Call c) ≡ with_call s c d
unfolding with_call
step_Call s d c = by_layer s d (sv.Call c) (sl.Call c) (sv.outs-Call c)

pub step_Put : (s : Setting) (d : Drafted) (e : TypedExpr)
    → with_step s d (sv.Put e) ≡ one (Call 0) (with_taken s char e d)
unfolding with_taken
step_Put s d e = by_layer s d (sv.Put e) (sl.Put e) (sv.outs-Put e)
    ∙ then_plain (take_code (numbering_of s.home) char e) (Call 0 ∷ []) s d

-- an address is kept, and then a number
keeps : (p : Place) (f : ℕ → Coded) (s : Setting) (d : Drafted)
    → emitted (keep_address (place (numbering_of s.home) p) f) s d
    ≡ emitted (f (address_local s (with_place s p d).counts.addresses)) s (address_kept s (with_place s p d))
unfolding with_place
keeps p f s d =
    let n = numbering_of s.home in
    let d1 = with_place s p d in
    emitted_seq (place n p) (with_address (λ w. plain (LocalSet w ∷ []) ⨾ f w)) s d
    ∙ emitted_address (λ w. plain (LocalSet w ∷ []) ⨾ f w) s d1
    ∙ plain_then (LocalSet (address_local s d1.counts.addresses) ∷ []) (f (address_local s d1.counts.addresses)) s
    (next_address d1)

pub keeps_number : (f : ℕ → Coded) (s : Setting) (d : Drafted)
    → emitted (with_number (λ n. plain (LocalSet n ∷ []) ⨾ f n)) s d
    ≡ emitted (f (number_local s d.counts.numbers)) s (number_kept s d)
keeps_number f s d =
    emitted_number (λ n. plain (LocalSet n ∷ []) ⨾ f n) s d
    ∙ plain_then (LocalSet (number_local s d.counts.numbers) ∷ []) (f (number_local s d.counts.numbers)) s
    (next_number d)

pub step_Change : (s : Setting) (d : Drafted) (o : Change) (p : Place) (t : TypeNo) (e : TypedExpr)
    → with_step s d (sv.Change o p t e)
    ≡ put (change_instructions o (address_local s (with_place s p d).counts.addresses)
    (number_local s (with_value s e (address_kept s (with_place s p d))).counts.numbers) s.home.types t)
    (number_kept s (with_value s e (address_kept s (with_place s p d))))
unfolding with_value emitted
step_Change s d o p t e =
    let n = numbering_of s.home in
    let d1 = with_place s p d in
    let w = address_local s d1.counts.addresses in
    let d2 = address_kept s d1 in
    let d3 = with_value s e d2 in
    let x = (part n e).code in
    by_layer s d (sv.Change o p t e) (sl.Change o p t e) (sv.outs-Change o p t e)
    ∙ keeps p (λ w. x ⨾ with_number (λ n. plain (LocalSet n ∷ []) ⨾ with_setting
    (λ s. plain (change_instructions o w n s.home.types t)))) s d
    ∙ emitted_seq x (with_number (λ n. plain (LocalSet n ∷ []) ⨾ with_setting
    (λ s. plain (change_instructions o w n s.home.types t)))) s d2
    ∙ keeps_number (λ n. with_setting (λ s. plain (change_instructions o w n s.home.types t))) s d3
    ∙ setting_plain (λ s. change_instructions o w (number_local s d3.counts.numbers) s.home.types t) s
    (number_kept s d3)

abbrev pub element_checked : Setting → TypedExpr → Drafted → Drafted
element_checked s e d = put (check_code (pos 0) (pos 31) 1) (with_value s e d)

pub step_Membership : (s : Setting) (d : Drafted) (o : Membership) (p : Place) (e : TypedExpr)
    → with_step s d (sv.Membership o p e)
    ≡ put (with_member o (address_local s (with_place s p d).counts.addresses)
    (number_local s (element_checked s e (address_kept s (with_place s p d))).counts.numbers) s.home.types)
    (number_kept s (element_checked s e (address_kept s (with_place s p d))))
unfolding with_value emitted
step_Membership s d o p e =
    let n = numbering_of s.home in
    let d1 = with_place s p d in
    let w = address_local s d1.counts.addresses in
    let d2 = address_kept s d1 in
    let d3 = element_checked s e d2 in
    let x = (part n e).code in
    by_layer s d (sv.Membership o p e) (sl.Membership o p e) (sv.outs-Membership o p e)
    ∙ keeps p (λ w. x ⨾ plain (check_code (pos 0) (pos 31) 1) ⨾ with_number
    (λ n. plain (LocalSet n ∷ []) ⨾ with_setting (λ s. plain (with_member o w n s.home.types)))) s d
    ∙ emitted_seq x (plain (check_code (pos 0) (pos 31) 1) ⨾ with_number
    (λ n. plain (LocalSet n ∷ []) ⨾ with_setting (λ s. plain (with_member o w n s.home.types)))) s d2
    ∙ plain_then (check_code (pos 0) (pos 31) 1)
    (with_number (λ n. plain (LocalSet n ∷ []) ⨾ with_setting (λ s. plain (with_member o w n s.home.types)))) s
    (with_value s e d2)
    ∙ keeps_number (λ n. with_setting (λ s. plain (with_member o w n s.home.types))) s d3
    ∙ setting_plain (λ s. with_member o w (number_local s d3.counts.numbers) s.home.types) s (number_kept s d3)

pub step_Halt : (s : Setting) (d : Drafted) → with_step s d sv.Halt ≡ put (fault 9) d
step_Halt s d = by_layer s d sv.Halt sl.Halt sv.outs-Halt ∙ emitted_plain (fault 9) s d

pub step_Exit : (s : Setting) (d : Drafted) → with_step s d sv.Exit ≡ one (Br s.exit) d
step_Exit s d = by_layer s d sv.Exit sl.Exit sv.outs-Exit ∙ setting_plain (λ s. Br s.exit ∷ []) s d

pub step_Return : (s : Setting) (d : Drafted) → with_step s d sv.Return ≡ one Return d
step_Return s d = by_layer s d sv.Return sl.Return sv.outs-Return ∙ emitted_plain (Return ∷ []) s d

pub step_Give : (s : Setting) (d : Drafted) (t : TypeNo) (e : TypedExpr)
    → with_step s d (sv.Give t e) ≡ one Return (with_taken s t e d)
unfolding with_taken
step_Give s d t e = by_layer s d (sv.Give t e) (sl.Give t e) (sv.outs-Give t e)
    ∙ then_plain (take_code (numbering_of s.home) t e) (Return ∷ []) s d

-- ---- blocks

pub block_is : (k : ℕ) (x : Coded) (s : Setting) (d : Drafted)
    → emitted (within k block x) s d ≡ closed_block (place_of d) None (emitted x (deeper k s) (open_draft d))
unfolding emitted
block_is k x s d = boxed_block None x (deeper k s) s d

loop_is : (k : ℕ) (x : Coded) (s : Setting) (d : Drafted)
    → emitted (within k loop x) s d ≡ closed_loop (place_of d) None (emitted x (deeper k s) (open_draft d))
unfolding emitted
loop_is k x s d = boxed_loop None x (deeper k s) s d

-- code that stands in a loop in a block
looped : Coded → Setting → Coded
looped x inner s c = (block_loop (x inner c).0, (x inner c).1)

looped_is : (x : Coded) (inner s : Setting) (d : Drafted)
    → emitted (looped x inner) s d ≡ closed_block (place_of d) None
    (closed_loop (place_of (open_draft d)) None (emitted x inner (open_draft (open_draft d))))
unfolding emitted looped
looped_is x inner s d =
    boxed_block None (boxing (λ is. Loop None is) x inner) s s d
    ∙ ap (λ (e : Drafted). closed_block (place_of d) None e) (boxed_loop None x inner s (open_draft d))

pub step_While : (s : Setting) (d : Drafted) (e : TypedExpr) (xs : List TypedStmt)
    → with_step s d (sv.While e xs)
    ≡ closed_block (place_of d) None (closed_loop (place_of (open_draft d)) None
    (one (Br 0) (with_steps (deeper 2 s) (one (BrIf 1)
    (one is_zero (with_value (deeper 2 s) e (open_draft (open_draft d))))) xs)))
unfolding with_value emitted looped
step_While s d e xs =
    let n = numbering_of s.home in
    let inner : Setting = deeper 2 s in
    let body : Coded = all_coded (map (step_code n) xs) in
    let d1 : Drafted = with_value inner e (open_draft (open_draft d)) in
    let d2 : Drafted = put (is_zero ∷ BrIf 1 ∷ []) d1 in
    by_layer s d (sv.While e xs) (sl.While e xs) (sv.outs-While e xs)
    ∙ looped_is ((part n e).code ⨾ plain (is_zero ∷ BrIf 1 ∷ []) ⨾ body ⨾ plain (Br 0 ∷ [])) inner s d
    ∙ ap (λ (r : Drafted). closed_block (place_of d) None (closed_loop (place_of (open_draft d)) None r))
    (emitted_seq (part n e).code (plain (is_zero ∷ BrIf 1 ∷ []) ⨾ body ⨾ plain (Br 0 ∷ [])) inner
    (open_draft (open_draft d))
    ∙ plain_then (is_zero ∷ BrIf 1 ∷ []) (body ⨾ plain (Br 0 ∷ [])) inner d1
    ∙ then_plain body (Br 0 ∷ []) inner d2
    ∙ ap (λ (r : Drafted). one (Br 0) r) (steps_are inner d2 xs))

pub step_Loop : (s : Setting) (d : Drafted) (xs : List TypedStmt)
    → with_step s d (sv.Loop xs)
    ≡ closed_block (place_of d) None (closed_loop (place_of (open_draft d)) None
    (one (Br 0) (with_steps (record s { exit = 1 }) (open_draft (open_draft d)) xs)))
unfolding emitted looped
step_Loop s d xs =
    let n = numbering_of s.home in
    let inner : Setting = record s { exit = 1 } in
    let body : Coded = all_coded (map (step_code n) xs) in
    by_layer s d (sv.Loop xs) (sl.Loop xs) (sv.outs-Loop xs)
    ∙ looped_is (body ⨾ plain (Br 0 ∷ [])) inner s d
    ∙ ap (λ (r : Drafted). closed_block (place_of d) None (closed_loop (place_of (open_draft d)) None r))
    (then_plain body (Br 0 ∷ []) inner (open_draft (open_draft d))
    ∙ ap (λ (r : Drafted). one (Br 0) r) (steps_are inner (open_draft (open_draft d)) xs))

pub step_Repeat : (s : Setting) (d : Drafted) (xs : List TypedStmt) (e : TypedExpr)
    → with_step s d (sv.Repeat xs e) ≡ closed_loop (place_of d) None
    (one (BrIf 0) (one is_zero (with_value (deeper 1 s) e (with_steps (deeper 1 s) (open_draft d) xs))))
unfolding with_value
step_Repeat s d xs e =
    let n = numbering_of s.home in
    let inner : Setting = deeper 1 s in
    let body : Coded = all_coded (map (step_code n) xs) in
    let turn : Coded = (part n e).code ⨾ plain (is_zero ∷ BrIf 0 ∷ []) in
    by_layer s d (sv.Repeat xs e) (sl.Repeat xs e) (sv.outs-Repeat xs e)
    ∙ loop_is 1 (body ⨾ turn) s d
    ∙ ap (λ (r : Drafted). closed_loop (place_of d) None r)
    (emitted_seq body turn inner (open_draft d)
    ∙ ap (λ (r : Drafted). emitted turn inner r) (steps_are inner (open_draft d) xs)
    ∙ then_plain (part n e).code (is_zero ∷ BrIf 0 ∷ []) inner (with_steps inner (open_draft d) xs))

-- ---- IF

conditioned : (s : Setting) (d : Drafted) (e : TypedExpr) (rest : Coded)
    → emitted ((part (numbering_of s.home) e).code ⨾ plain (wrap_word ∷ []) ⨾ rest) s d
    ≡ emitted rest s (one wrap_word (with_value s e d))
unfolding with_value
conditioned s d e rest =
    emitted_seq (part (numbering_of s.home) e).code (plain (wrap_word ∷ []) ⨾ rest) s d
    ∙ plain_then (wrap_word ∷ []) rest s (with_value s e d)

if_only_is : (x : Coded) (s : Setting) (d : Drafted)
    → emitted (if_only x) s d ≡ closed_if (place_of d) None (emitted x (deeper 1 s) (open_draft d))
unfolding emitted
if_only_is x s d = boxed_if None x (deeper 1 s) s d

if_else_is : (x y : Coded) (inner s : Setting) (d : Drafted) → inner ≡ record s { exit = suc s.exit }
    → emitted (if_else x y) s d ≡ closed_if_else (place_of d) (place_of (emitted x inner (open_draft d))) None
    (emitted y inner (emitted x inner (open_draft d)))
unfolding emitted
if_else_is x y inner s d h = subst (λ (i : Setting). emitted (if_else x y) s d
    ≡ closed_if_else (place_of d) (place_of (emitted x i (open_draft d))) None
    (emitted y i (emitted x i (open_draft d)))) (sym h) (boxed_sides None x y (record s { exit = suc s.exit }) s d)

pub step_If_None : (s : Setting) (d : Drafted) (e : TypedExpr) (xs : List TypedStmt)
    → with_step s d (sv.If e xs None) ≡ closed_if (place_of (one wrap_word (with_value s e d))) None
    (with_steps (deeper 1 s) (open_draft (one wrap_word (with_value s e d))) xs)
step_If_None s d e xs =
    let n = numbering_of s.home in
    let d1 : Drafted = one wrap_word (with_value s e d) in
    let body : Coded = all_coded (map (step_code n) xs) in
    by_layer s d (sv.If e xs None) (sl.If e xs None) (sv.outs-If e xs None)
    ∙ conditioned s d e (if_only body)
    ∙ if_only_is body s d1
    ∙ ap (λ (r : Drafted). closed_if (place_of d1) None r) (steps_are (deeper 1 s) (open_draft d1) xs)

one_deeper : (s : Setting) → deeper 1 s ≡ record s { exit = suc s.exit }
one_deeper s = ap (λ (n : ℕ). record s { exit = n }) (add-one s.exit)

pub step_If_Some : (s : Setting) (d : Drafted) (e : TypedExpr) (xs ys : List TypedStmt)
    → with_step s d (sv.If e xs (Some ys))
    ≡ closed_if_else (place_of (one wrap_word (with_value s e d)))
    (place_of (with_steps (deeper 1 s) (open_draft (one wrap_word (with_value s e d))) xs)) None
    (with_steps (deeper 1 s) (with_steps (deeper 1 s) (open_draft (one wrap_word (with_value s e d))) xs) ys)
step_If_Some s d e xs ys =
    let n = numbering_of s.home in
    let inner : Setting = deeper 1 s in
    let d1 : Drafted = one wrap_word (with_value s e d) in
    let x : Coded = all_coded (map (step_code n) xs) in
    let y : Coded = all_coded (map (step_code n) ys) in
    by_layer s d (sv.If e xs (Some ys)) (sl.If e xs (Some ys)) (sv.outs-If e xs (Some ys))
    ∙ conditioned s d e (if_else x y)
    ∙ if_else_is x y inner s d1 (one_deeper s)
    ∙ ap (λ (r : Drafted). closed_if_else (place_of d1) (place_of r) None (emitted y inner r))
    (steps_are inner (open_draft d1) xs)
    ∙ ap (λ (r : Drafted). closed_if_else (place_of d1) (place_of (with_steps inner (open_draft d1) xs)) None r)
    (steps_are inner (with_steps inner (open_draft d1) xs) ys)

-- ---- WITH

under_is : (w : ℕ) (x : Coded) (s : Setting) (d : Drafted)
    → emitted (under w x) s d ≡ emitted x (record s { withs = s.withs ++ w ∷ [] }) d
unfolding emitted
under_is w x s d = refl

pub step_With : (s : Setting) (d : Drafted) (p : Place) (xs : List TypedStmt)
    → with_step s d (sv.With p xs)
    ≡ with_steps (record s { withs = s.withs ++ address_local s (with_place s p d).counts.addresses ∷ [] })
    (address_kept s (with_place s p d)) xs
step_With s d p xs =
    let n = numbering_of s.home in
    let body : Coded = all_coded (map (step_code n) xs) in
    let d1 : Drafted = with_place s p d in
    let w = address_local s d1.counts.addresses in
    by_layer s d (sv.With p xs) (sl.With p xs) (sv.outs-With p xs)
    ∙ keeps p (λ w. under w body) s d
    ∙ under_is w body s (address_kept s d1)
    ∙ steps_are (record s { withs = s.withs ++ w ∷ [] }) (address_kept s d1) xs

-- ---- FOR

tested : (p : Place) (t : TypeNo) (by : ℤ) (n : ℕ) (rest : Coded) (s : Setting) (d : Drafted)
    → emitted (behind (place (numbering_of s.home) p) (λ types. load_code types t) ⨾ plain
    (LocalGet n ∷ relation (passes by) ∷ BrIf 0 ∷ []) ⨾ rest) s d ≡ emitted rest s (for_tested s p t by n d)
unfolding with_place
tested p t by n rest s d =
    let x : Coded = behind (place (numbering_of s.home) p) (λ types. load_code types t) in
    let test : List Instr = LocalGet n ∷ relation (passes by) ∷ BrIf 0 ∷ [] in
    emitted_seq x (plain test ⨾ rest) s d
    ∙ plain_then test rest s (emitted x s d)
    ∙ ap (λ (r : Drafted). emitted rest s (put test r))
    (emitted_behind (place (numbering_of s.home) p) (λ types. load_code types t) s d)

turned : (p : Place) (t : TypeNo) (by : ℤ) (n : ℕ) (xs : List TypedStmt) (s : Setting) (d : Drafted)
    → emitted (for_turn (place (numbering_of s.home) p) t by n (all_coded (map (step_code (numbering_of s.home)) xs))) s
    d ≡ for_turned s p t by n (with_steps s d xs)
unfolding with_place
turned p t by n xs s d =
    let x : Coded = place (numbering_of s.home) p in
    let load : Coded = behind x (λ types. load_code types t) in
    let body : Coded = all_coded (map (step_code (numbering_of s.home)) xs) in
    let test : List Instr = number by ∷ operation Add ∷ LocalGet n ∷ relation (passes by) ∷ BrIf 1 ∷ [] in
    let end : Setting → List Instr = λ s. number by ∷ operation Add
    ∷ (in_type s.home.types t 1 ++ (store_code s.home.types t ++ Br 0 ∷ [])) in
    let last : Coded = x ⨾ load ⨾ with_setting (λ s. plain (end s)) in
    let e1 : Drafted = with_steps s d xs in
    let e2 : Drafted = put (load_code s.home.types t) (with_place s p e1) in
    let e3 : Drafted = put test e2 in
    emitted_seq body (load ⨾ plain test ⨾ last) s d
    ∙ ap (λ (r : Drafted). emitted (load ⨾ plain test ⨾ last) s r) (steps_are s d xs)
    ∙ emitted_seq load (plain test ⨾ last) s e1
    ∙ plain_then test last s (emitted load s e1)
    ∙ ap (λ (r : Drafted). emitted last s (put test r)) (emitted_behind x (λ types. load_code types t) s e1)
    ∙ emitted_seq x (load ⨾ with_setting (λ s. plain (end s))) s e3
    ∙ then_setting load end s (with_place s p e3)
    ∙ ap (λ (r : Drafted). put (end s) r) (emitted_behind x (λ types. load_code types t) s (with_place s p e3))

pub step_For : (s : Setting) (d : Drafted) (p : Place) (t : TypeNo) (a b : TypedExpr) (by : ℤ) (xs : List TypedStmt)
    → with_step s d (sv.For p t a b by xs)
    ≡ (let n = for_local s p t a b d in
    let d1 = for_begun s p t a b d in
    let d2 = for_tested (deeper 1 s) p t by n (open_draft d1) in
    closed_block (place_of d1) None (closed_loop (place_of d2) None
    (for_turned (deeper 1 (deeper 1 s)) p t by n (with_steps (deeper 1 (deeper 1 s)) (open_draft d2) xs))))
unfolding with_place with_value with_taken
step_For s d p t a b by xs =
    let n = numbering_of s.home in
    let x : Coded = place n p in
    let body : Coded = all_coded (map (step_code n) xs) in
    let k = for_local s p t a b d in
    let turns : ℕ → Coded = λ n. within 1 block
    (behind x (λ types. load_code types t) ⨾ plain (LocalGet n ∷ relation (passes by) ∷ BrIf 0 ∷ []) ⨾ within 1 loop
    (for_turn x t by n body)) in
    let rest : Coded = with_number (λ n. for_begin x t (part (numbering_of s.home) a) (part (numbering_of s.home) b) n ⨾
    turns n) in
    let d0 : Drafted = with_taken s t a (with_place s p d) in
    let d1 : Drafted = for_begun s p t a b d in
    let d2 : Drafted = for_tested (deeper 1 s) p t by k (open_draft d1) in
    by_layer s d (sv.For p t a b by xs) (sl.For p t a b by xs) (sv.outs-For p t a b by xs)
    ∙ emitted_seq x (take_code n t a ⨾ (part n b).code ⨾ rest) s d
    ∙ emitted_seq (take_code n t a) ((part n b).code ⨾ rest) s (with_place s p d)
    ∙ emitted_seq (part n b).code rest s d0
    ∙ emitted_number (λ n. for_begin x t (part (numbering_of s.home) a) (part (numbering_of s.home) b) n ⨾ turns n) s
    (with_value s b d0)
    ∙ emitted_seq (for_begin x t (part n a) (part n b) k) (turns k) s (next_number (with_value s b d0))
    ∙ ap (λ (r : Drafted). emitted (turns k) s r)
    (plain_then (LocalSet k ∷ []) (with_setting (λ s. plain (store_code s.home.types t))) s
    (next_number (with_value s b d0))
    ∙ setting_plain (λ s. store_code s.home.types t) s (one (LocalSet k) (next_number (with_value s b d0))))
    ∙ block_is 1 (behind x (λ types. load_code types t) ⨾ plain (LocalGet k ∷ relation (passes by) ∷ BrIf 0 ∷ []) ⨾
    within 1 loop (for_turn x t by k body)) s d1
    ∙ ap (λ (r : Drafted). closed_block (place_of d1) None r)
    (tested p t by k (within 1 loop (for_turn x t by k body)) (deeper 1 s) (open_draft d1)
    ∙ loop_is 1 (for_turn x t by k body) (deeper 1 s) d2
    ∙ ap (λ (r : Drafted). closed_loop (place_of d2) None r)
    (turned p t by k xs (deeper 1 (deeper 1 s)) (open_draft d2)))
