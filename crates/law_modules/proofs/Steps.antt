-- Statements: a lemma for each construct, and then the induction.
use Rattle.std.proofs.Common.{◌≡◌, ℕ, suc, ◌-◌, ℤ, pos, Bool, true, false, List, [], ◌∷◌, ◌++◌, map, length, Some, None, refl, ap, ◌∙◌, arith}
use Rattle.std.specs.Int.{w64, cast_unsigned}
use Rattle.wasm_tree.specs.declared.kinds.ValueType.TheVariants.{I32, I64}
use Rattle.wasm_tree.specs.declared.instr.Instr.{Instr}
use Rattle.wasm_tree.specs.declared.instr.Instr.TheVariants.{Br, Call as Calls, I32Const}
use Rattle.wasm_tree.specs.declared.instr.Numeric.TheVariants as numeric
use Rattle.wasm_tree.specs.declared.instr.Operation.TheVariants.{Add, Sub, And, Or, Shl}
use Rattle.wasm_tree.specs.declared.instr.Relation.{Relation}
use Rattle.wasm_tree.specs.Validity.{Leads}
use Rattle.typed_tree.specs.declared.computed.Call.{Call}
use Rattle.typed_tree.specs.declared.computed.Place.{Place}
use Rattle.typed_tree.specs.declared.computed.TypedExpr.{TypedExpr}
use Rattle.typed_tree.specs.declared.statement.Change.{Change}
use Rattle.typed_tree.specs.declared.statement.Change.TheVariants as change
use Rattle.typed_tree.specs.declared.statement.Membership.{Membership}
use Rattle.typed_tree.specs.declared.statement.Membership.TheVariants as member
use Rattle.typed_tree.specs.declared.statement.TypedArm.{TypedArm, out-TypedArm}
use Rattle.typed_tree.specs.declared.statement.TypedStmt.{TypedStmt, TypedStmt-F, out-TypedStmt}
use Rattle.typed_tree.specs.declared.statement.TypedStmt.TheOpen as step
use Rattle.typed_tree.specs.declared.statement.TypedStmt.TheVariants as stmt
use Rattle.typed_tree.specs.declared.known_types.Types.{Types}
use Rattle.typed_tree.specs.declared.types.TypeNo.{TypeNo}
use Rattle.typed_tree.specs.Types.{char, bitset}
use Rattle.layout_storage.specs.Sizes.{size}
use Rattle.layout_storage.specs.Shapes.{tree}
use Rattle.def_scheme.specs.Scheme.{type_from}
use Rattle.def_scheme.specs.Coded.{Coded, plain, all_coded, with_setting, number, relation, operation, wrap_word, is_zero, put, copy, fill, fault}
use Rattle.def_scheme.specs.Cells.{load_code, store_code, in_type, check_taken}
use Rattle.def_scheme.specs.Exprs.{behind, expr_part, place_code}
use Rattle.def_scheme.specs.Steps.{block_loop, loop as loop_of, Arm, step_layer, step_code, take_code, passes, change_operation, read_again, change_instructions, member_operation, with_member, text_copied}
use Rattle.def_scheme.specs.Signatures.{Signatures, of_step}
use Rattle.def_scheme.specs.Signatures as sign
use Rattle.def_scheme.specs.Addresses.{total, addresses_of, addresses_armed}
use Rattle.def_scheme.specs.Addresses as count
use Rattle.law_modules.specs.WellFormed.{IsScalar}
use Rattle.law_modules.proofs.Leading.{Stack, then_leads, above, same_stacks, get, set, tee, long, short, calc, br, br_if, return, block, loop, one_of, done, invoke}
use Rattle.law_modules.proofs.Fits.{Body, Holds, Fits, labelled, IsNumber, IsAddress, moved, moved_twice, into_loop, fits_code, fits_plain, fits_then, fits_above, fits_given, fits_number, fits_address, fits_text, fits_as, fits_moved, fits_within, fits_twice, fits_leaving, fits_under, fits_sides}
use Rattle.law_modules.proofs.Parts.{S, N, checked_leads, type_leads, taken_leads, changed_leads, fault_leads, loaded_leads, stored_leads, raised_leads, text_leads, complement_leads}
use Rattle.law_modules.proofs.Opened.{armed, step_opened, step_at, arm_at, step_counted, step_counts, arm_counts}
use Rattle.law_modules.proofs.Exprs.{SN, FineExpr, FinePlace, FineCall, behind_fine}
use Rattle.law_modules.proofs.Cases.{FineArms, case_fine}

set_cell : (types : Types) → IsScalar types bitset
set_cell types = refl

module _ (b : Body) (h : Holds b) (w : ℕ) (l : Bool) where
  abbrev pub Does : Coded → ℕ → Stack → Stack → Type 0
  Does x k s t = Fits b (Unit {0}) w l (λ e. e) 0 x k s t

  abbrev pub FineStmt : TypedStmt → Type 0
  FineStmt x = Does (step_code b.numbered x) (addresses_of x) [] []

  abbrev pub code_of : List TypedStmt → Coded
  code_of body = all_coded (map (step_code b.numbered) body)

  abbrev pub kept_in : List TypedStmt → ℕ
  kept_in body = total (map addresses_of body)

  abbrev pub FineStmts : List TypedStmt → Type 0
  FineStmts body = Does (code_of body) (kept_in body) [] []

  plain_does : {code : List Instr} {s t : Stack} → ((ls : List Stack) → Leads (labelled b ls) code s t)
      → Does (plain code) 0 s t
  plain_does k = fits_plain (λ p ls. k ls)

  types_do : (code : Types → List Instr) {s t : Stack}
      → ((ls : List Stack) → Leads (labelled b ls) (code b.home.types) s t)
      → Does (with_setting (λ s. plain (code s.home.types))) 0 s t
  types_do code k = fits_code {f = λ s. code s.home.types} (λ p e ws ls suits. k ls)

  from_step : (e : TypedStmt) (x : TypedStmt-F TypedStmt TypedArm) → out-TypedStmt e ≡ x
      → Does (step_layer b.numbered (step_opened b.numbered x)) (count.step_layer (step_counted x)) [] [] → FineStmt e
  from_step e x q k = fits_as (step_at b.numbered e x q) (step_counts e x q) k

  -- ---- assignments

  pub taken_fine : (t : TypeNo) (e : TypedExpr) → FineExpr b h w l e → Does (take_code b.numbered t e) 0 [] N
  taken_fine t e x =
      behind_fine b h w l (λ types. check_taken types t (expr_part b.numbered e).constant (expr_part b.numbered e).of) x
      (λ ls. taken_leads b h ls b.home.types t (expr_part b.numbered e).constant (expr_part b.numbered e).of)

  pub assign_fine : (d : Place) (t : TypeNo) (e : TypedExpr) → IsScalar b.home.types t → FinePlace b h w l d
      → FineExpr b h w l e → FineStmt (stmt.Assign d t e)
  assign_fine d t e s x y = from_step (stmt.Assign d t e) (step.Assign d t e) (stmt.outs-Assign d t e)
      (fits_then x (fits_then (fits_above S (taken_fine t e y))
      (types_do (λ types. store_code types t) (λ ls. stored_leads b h ls b.home.types t s))))

  pub copy_fine : (to from : Place) (t : TypeNo) → FinePlace b h w l to → FinePlace b h w l from
      → FineStmt (stmt.Copy to from t)
  copy_fine to from t x y = from_step (stmt.Copy to from t) (step.Copy to from t) (stmt.outs-Copy to from t)
      (fits_then x (behind_fine b h w l (λ types. I32Const (size (tree types t)) ∷ Calls copy ∷ []) (fits_above S y)
      (λ ls. short _ (I32 ∷ I32 ∷ []) (invoke copy (type_from (I32 ∷ I32 ∷ I32 ∷ []) []) [] h.copy (done [])))))

  text_copied_leads : (ls : List Stack) (n bytes rest i : ℕ) → IsAddress b i
      → Leads (labelled b ls) (text_copied n bytes rest i) S []
  text_copied_leads ls n bytes rest i p =
      then_leads (above S (text_leads b h ls n))
      (short bytes (I32 ∷ I32 ∷ []) (invoke copy (type_from (I32 ∷ I32 ∷ I32 ∷ []) []) [] h.copy
      (get i I32 [] p (then_leads (raised_leads b h ls bytes)
      (short rest S (invoke fill (type_from (I32 ∷ I32 ∷ []) []) [] h.fill (done [])))))))

  pub copy_text_fine : (d : Place) (t : TypeNo) (text : List ℕ) → FinePlace b h w l d
      → FineStmt (stmt.CopyText d t text)
  copy_text_fine d t text x = from_step (stmt.CopyText d t text) (step.CopyText d t text) (stmt.outs-CopyText d t text)
      (fits_then x (fits_address h (λ i. fits_then (fits_plain (λ p ls. tee i I32 [] p.1 (done S)))
      (fits_text (length text) (λ n.
      fits_code {f = λ s. text_copied n (length text) (size (tree s.home.types t) - length text) i}
      (λ p e ws ls suits. text_copied_leads ls n (length text) (size (tree b.home.types t) - length text) i
      p.1))))))

  pub called_fine : (c : Call) → FineCall b h w l c false → FineStmt (stmt.Call c)
  called_fine c x = from_step (stmt.Call c) (step.Call c) (stmt.outs-Call c) x

  pub put_fine : (e : TypedExpr) → FineExpr b h w l e → FineStmt (stmt.Put e)
  put_fine e x = from_step (stmt.Put e) (step.Put e) (stmt.outs-Put e)
      (fits_then (taken_fine char e x) (plain_does (λ ls. invoke put (type_from (I64 ∷ []) []) [] h.put (done []))))

  -- ---- INC, DEC, INCL, EXCL

  change_leads : (ls : List Stack) (o : Change) {is : List Instr} {after : Stack} → Leads (labelled b ls) is SN after
      → Leads (labelled b ls) (change_operation o ∷ is) (I32 ∷ I64 ∷ I64 ∷ []) after
  change_leads ls change.Increase on = calc (numeric.I64Operation Add) S on
  change_leads ls change.Decrease on = calc (numeric.I64Operation Sub) S on

  read_leads : (ls : List Stack) (i : ℕ) (t : TypeNo) → IsAddress b i → IsScalar b.home.types t
      → Leads (labelled b ls) (read_again i b.home.types t) [] SN
  read_leads ls i t p s = get i I32 [] p (get i I32 S p (above S (loaded_leads b h ls b.home.types t s)))

  changed_lead : (ls : List Stack) (o : Change) (i n : ℕ) (t : TypeNo) → IsAddress b i → IsNumber b n
      → IsScalar b.home.types t → Leads (labelled b ls) (change_instructions o i n b.home.types t) [] []
  changed_lead ls o i n t p q s = then_leads (read_leads ls i t p s)
      (get n I64 SN q (change_leads ls o (then_leads (above S (changed_leads b h ls b.home.types t))
      (stored_leads b h ls b.home.types t s))))

  pub change_fine : (o : Change) (d : Place) (t : TypeNo) (e : TypedExpr) → IsScalar b.home.types t
      → FinePlace b h w l d → FineExpr b h w l e → FineStmt (stmt.Change o d t e)
  change_fine o d t e s x y = from_step (stmt.Change o d t e) (step.Change o d t e) (stmt.outs-Change o d t e)
      (fits_then x (fits_address h (λ i. fits_then (fits_plain (λ p ls. set i I32 [] p.1 (done [])))
      (fits_then (fits_given (λ p. tt) y) (fits_number h (λ n.
      fits_then (fits_plain (λ p ls. set n I64 [] p.1 (done [])))
      (fits_code {f = λ s. change_instructions o i n s.home.types t}
      (λ p e ws ls suits. changed_lead ls o i n t p.0.1 p.1 s))))))))

  member_leads : (ls : List Stack) (o : Membership) → Leads (labelled b ls) (member_operation o) (I64 ∷ I64 ∷ []) N
  member_leads ls member.Include = calc (numeric.I64Operation Or) [] (done N)
  member_leads ls member.Exclude = then_leads (above N (complement_leads b h ls))
      (calc (numeric.I64Operation And) [] (done N))

  with_member_leads : (ls : List Stack) (o : Membership) (i n : ℕ) → IsAddress b i → IsNumber b n
      → Leads (labelled b ls) (with_member o i n b.home.types) [] []
  with_member_leads ls o i n p q =
      then_leads (read_leads ls i bitset p (set_cell b.home.types))
      (long 1 SN (get n I64 (I32 ∷ I64 ∷ I64 ∷ []) q (calc (numeric.I64Operation Shl) SN
      (then_leads (above S (member_leads ls o)) (stored_leads b h ls b.home.types bitset (set_cell b.home.types))))))

  pub member_fine : (o : Membership) (d : Place) (e : TypedExpr) → FinePlace b h w l d → FineExpr b h w l e
      → FineStmt (stmt.Membership o d e)
  member_fine o d e x y = from_step (stmt.Membership o d e) (step.Membership o d e) (stmt.outs-Membership o d e)
      (fits_then x (fits_address h (λ i. fits_then (fits_plain (λ p ls. set i I32 [] p.1 (done [])))
      (fits_then (fits_given (λ p. tt) y) (fits_then (fits_plain (λ p ls. checked_leads b h ls (pos 0) (pos 31) 1))
      (fits_number h (λ n.
      fits_then (fits_plain (λ p ls. set n I64 [] p.1 (done [])))
      (fits_code {f = λ s. with_member o i n s.home.types}
      (λ p e ws ls suits. with_member_leads ls o i n p.0.1 p.1)))))))))

  pub halt_fine : FineStmt stmt.Halt
  halt_fine = from_step stmt.Halt step.Halt stmt.outs-Halt (plain_does (λ ls. fault_leads b h ls 9 []))

  -- ---- choices

  wrapped_does : Does (plain (wrap_word ∷ [])) 0 N S
  wrapped_does = plain_does (λ ls. calc numeric.I32WrapI64 [] (done S))

  pub if_fine : (e : TypedExpr) (body : List TypedStmt) → FineExpr b h w l e → FineStmts body
      → FineStmt (stmt.If e body None)
  if_fine e body x y = from_step (stmt.If e body None) (step.If e body None) (stmt.outs-If e body None)
      (fits_as refl (omega arith) (fits_then x
      (fits_then wrapped_does (fits_within (λ g ls code k. one_of None [] code None k (done []) (done []))
      (fits_moved (moved 1) y)))))

  pub if_else_fine : (e : TypedExpr) (body others : List TypedStmt) → FineExpr b h w l e → FineStmts body
      → FineStmts others → FineStmt (stmt.If e body (Some others))
  if_else_fine e body others x y z = from_step (stmt.If e body (Some others)) (step.If e body (Some others))
      (stmt.outs-If e body (Some others))
      (fits_as refl (omega arith) (fits_then x (fits_then wrapped_does (fits_sides y z))))

  -- ---- loops

  zero_leads : (ls : List Stack) {is : List Instr} {after : Stack} → Leads (labelled b ls) is S after
      → Leads (labelled b ls) (is_zero ∷ is) N after
  zero_leads ls on = calc numeric.I64Eqz [] on

  in_block_loop : (ls : List Stack) (code : List Instr) → Leads (labelled b ([] ∷ [] ∷ ls)) code [] []
      → Leads (labelled b ls) (block_loop code) [] []
  in_block_loop ls code k = block None [] (loop_of code) (loop None [] code k (done [])) (done [])

  pub while_fine : (e : TypedExpr) (body : List TypedStmt) → FineExpr b h w l e → FineStmts body
      → FineStmt (stmt.While e body)
  while_fine e body x y = from_step (stmt.While e body) (step.While e body) (stmt.outs-While e body)
      (fits_as refl (omega arith) (fits_twice in_block_loop
      (fits_then (fits_moved (moved 2) x) (fits_then
      (fits_plain (λ p ls. zero_leads ([] ∷ [] ∷ ls) (br_if 1 [] refl (done []))))
      (fits_then (fits_moved (moved 2) y) (fits_plain (λ p ls. br 0 [] [] refl (done []))))))))

  pub repeat_fine : (body : List TypedStmt) (e : TypedExpr) → FineStmts body → FineExpr b h w l e
      → FineStmt (stmt.Repeat body e)
  repeat_fine body e y x = from_step (stmt.Repeat body e) (step.Repeat body e) (stmt.outs-Repeat body e)
      (fits_as refl (omega arith) (fits_within (λ g ls code k. loop None [] code k (done []))
      (fits_then (fits_moved (moved 1) y) (fits_then (fits_moved (moved 1) x)
      (fits_plain (λ p ls. zero_leads ([] ∷ ls) (br_if 0 [] refl (done []))))))))

  pub loop_fine : (body : List TypedStmt) → Fits b (Unit {0}) w true (λ e. e) 0 (code_of body) (kept_in body) [] []
      → FineStmt (stmt.Loop body)
  loop_fine body y = from_step (stmt.Loop body) (step.Loop body) (stmt.outs-Loop body)
      (fits_as refl (omega arith) (fits_leaving in_block_loop
      (fits_then (fits_moved into_loop y) (fits_plain (λ p ls. br 0 [] [] refl (done []))))))

  -- ---- ends

  pub return_fine : b.gives ≡ false → FineStmt stmt.Return
  return_fine q = from_step stmt.Return step.Return stmt.outs-Return
      (plain_does (λ ls. same_stacks (h.returns ∙ ap sign.results_of q) refl (return {c = labelled b ls} [] (done []))))

  pub give_fine : (t : TypeNo) (e : TypedExpr) → b.gives ≡ true → FineExpr b h w l e → FineStmt (stmt.Give t e)
  give_fine t e q x = from_step (stmt.Give t e) (step.Give t e) (stmt.outs-Give t e)
      (fits_then (taken_fine t e x) (plain_does
      (λ ls. same_stacks (h.returns ∙ ap sign.results_of q) refl (return {c = labelled b ls} [] (done [])))))

  -- ---- FOR and WITH

  passed_leads : (ls : List Stack) (o : Relation) {is : List Instr} {after : Stack} → Leads (labelled b ls) is S after
      → Leads (labelled b ls) (relation o ∷ is) (I64 ∷ I64 ∷ []) after
  passed_leads ls o on = calc (numeric.I64Relation o) [] on

  pub for_fine : (d : Place) (t : TypeNo) (start limit : TypedExpr) (by : ℤ) (body : List TypedStmt)
      → IsScalar b.home.types t → FinePlace b h w l d → FineExpr b h w l start → FineExpr b h w l limit → FineStmts body
      → FineStmt (stmt.For d t start limit by body)
  for_fine d t start limit by body s x y z v =
      from_step (stmt.For d t start limit by body) (step.For d t start limit by body)
      (stmt.outs-For d t start limit by body)
      (fits_as refl (omega arith) (fits_then x
      (fits_then (fits_above S (taken_fine t start y)) (fits_then (fits_above SN z) (fits_number h (λ n.
      fits_then (fits_then (fits_plain (λ p ls. set n I64 SN p.1 (done SN)))
      (fits_code {f = λ s. store_code s.home.types t} (λ p e ws ls suits. stored_leads b h ls b.home.types t s)))
      (fits_within (λ g ls code k. block None [] code k (done []))
      (fits_then (fits_moved (moved 1) (fits_given (λ p. tt) value))
      (fits_then (fits_plain (λ p ls. get n I64 N p.1
      (passed_leads ([] ∷ ls) (passes by) (br_if 0 [] refl (done [])))))
      (fits_within (λ g ls code k. loop None [] code k (done []))
      (fits_then (fits_moved moved_twice (fits_given (λ p. tt) v))
      (fits_then (fits_moved moved_twice (fits_given (λ p. tt) value))
      (fits_then (fits_plain (λ p ls. long (cast_unsigned w64 by) N
      (calc (numeric.I64Operation Add) [] (get n I64 N p.1
      (passed_leads ([] ∷ [] ∷ ls) (passes by) (br_if 1 [] refl (done [])))))))
      (fits_then (fits_moved moved_twice (fits_given (λ p. tt) x))
      (fits_then (fits_moved moved_twice (fits_given (λ p. tt) (fits_above S value)))
      (fits_code {f = λ s. number by ∷ operation Add
      ∷ (in_type s.home.types t 1 ++ (store_code s.home.types t ++ Br 0 ∷ []))}
      (λ p e ws ls suits. last_leads ls)))))))))))))))))
    where
      value : Does (behind (place_code b.numbered d) (λ types. load_code types t)) 0 [] N
      value = behind_fine b h w l (λ types. load_code types t) x (λ ls. loaded_leads b h ls b.home.types t s)

      last_leads : (ls : List Stack) → Leads (labelled b ([] ∷ [] ∷ ls))
          (number by ∷ operation Add ∷ (in_type b.home.types t 1 ++ (store_code b.home.types t ++ Br 0 ∷ []))) SN []
      last_leads ls =
          long _ SN (calc (numeric.I64Operation Add) S
          (then_leads (above S (type_leads b h ([] ∷ [] ∷ ls) b.home.types t 1))
          (then_leads (stored_leads b h ([] ∷ [] ∷ ls) b.home.types t s) (br 0 [] [] refl (done [])))))

  pub with_fine : (d : Place) (body : List TypedStmt) → FinePlace b h w l d
      → Fits b (Unit {0}) (suc w) l (λ e. e) 0 (code_of body) (kept_in body) [] [] → FineStmt (stmt.With d body)
  with_fine d body x y = from_step (stmt.With d body) (step.With d body) (stmt.outs-With d body)
      (fits_as refl (omega arith) (fits_then x
      (fits_address h (λ i. fits_then (fits_plain (λ p ls. set i I32 [] p.1 (done [])))
      (fits_under (λ p. p.1) (fits_given (λ p. tt) y))))))

  -- ---- CASE

  abbrev pub FineArm : TypedArm → Type 0
  FineArm x = Does (armed b.numbered x).code (addresses_armed x) [] []

  abbrev pub FineArmsOf : List TypedArm → Type 0
  FineArmsOf xs = FineArms b h w l (map (armed b.numbered) xs) (map addresses_armed xs)

  pub arm_fine : (x : TypedArm) → FineStmts x.body → FineArm x
  arm_fine x y = fits_as (ap (λ (a : Arm). a.code) (arm_at b.numbered x (out-TypedArm x) refl))
      (arm_counts x (out-TypedArm x) refl) y

  pub case_alone_fine : (e : TypedExpr) (arms : List TypedArm) → FineExpr b h w l e → FineArmsOf arms
      → FineStmt (stmt.Case e arms None)
  case_alone_fine e arms x y = from_step (stmt.Case e arms None) (step.Case e arms None) (stmt.outs-Case e arms None)
      (case_fine b h w l (expr_part b.numbered e).code (map (armed b.numbered) arms) (map addresses_armed arms)
      (plain (fault 5)) 0 x y (plain_does (λ ls. fault_leads b h ls 5 [])))

  pub case_else_fine : (e : TypedExpr) (arms : List TypedArm) (others : List TypedStmt) → FineExpr b h w l e
      → FineArmsOf arms → FineStmts others → FineStmt (stmt.Case e arms (Some others))
  case_else_fine e arms others x y z = from_step (stmt.Case e arms (Some others)) (step.Case e arms (Some others))
      (stmt.outs-Case e arms (Some others))
      (case_fine b h w l (expr_part b.numbered e).code (map (armed b.numbered) arms) (map addresses_armed arms)
      (code_of others) (kept_in others) x y z)

module _ (b : Body) (h : Holds b) (w : ℕ) where
  pub exit_fine : FineStmt b h w true stmt.Exit
  exit_fine = fits_as (step_at b.numbered stmt.Exit step.Exit stmt.outs-Exit)
      (step_counts stmt.Exit step.Exit stmt.outs-Exit)
      (fits_code {f = λ s. Br s.exit ∷ []} (λ p e ws ls suits. br e [] [] (suits.exit refl) (done [])))
