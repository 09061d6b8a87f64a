-- The constants in the code of typed statements fit.
use Rattle.std.proofs.Common.{map, ◌≡◌, ℕ, suc, ◌+◌, ◌≤◌, ◌<◌, Bool, true, false, ◌&&◌, List, [], ◌∷◌, ◌++◌, length, Some, None, refl, sym, subst, arith}
use Rattle.std.specs.Prelude.{if◌then◌else◌, ◌-◌, nat_le, ℤ, pos, ◌≤ℤ◌, int_le}
use Rattle.std.specs.List.{fold}
use Rattle.std.proofs.lemmas.Bool.{and_parts, leb-true}
use Rattle.std.proofs.lemmas.Int.{ints}
use Rattle.wasm_tree.specs.declared.instr.Instr.{Instr}
use Rattle.wasm_tree.specs.declared.instr.Instr.TheVariants.{LocalGet, I32Const, If, Br, BrIf, Call}
use Rattle.wasm_tree.specs.declared.instr.Operation.TheVariants.{Add}
use Rattle.typed_tree.specs.declared.computed.Place.{Place}
use Rattle.typed_tree.specs.declared.computed.Component.{Component}
use Rattle.typed_tree.specs.declared.computed.Root.{Root}
use Rattle.typed_tree.specs.declared.computed.TypedExpr.{TypedExpr}
use Rattle.typed_tree.specs.declared.known_types.Types.{Types}
use Rattle.typed_tree.specs.declared.statement.Change.{Change}
use Rattle.typed_tree.specs.declared.statement.Label.{Label}
use Rattle.typed_tree.specs.declared.statement.Membership.{Membership}
use Rattle.typed_tree.specs.declared.statement.TypedArm.{TypedArm, out-TypedArm}
use Rattle.typed_tree.specs.declared.statement.TypedStmt.{TypedStmt, TypedStmt-F, out-TypedStmt}
use Rattle.typed_tree.specs.declared.statement.TypedStmt.TheOpen as layer
use Rattle.typed_tree.specs.declared.statement.TypedStmt.TheVariants as stmt
use Rattle.typed_tree.specs.declared.typed_module.TypedModule.{TypedModule}
use Rattle.typed_tree.specs.declared.types.TypeNo.{TypeNo}
use Rattle.layout_storage.specs.Types.{Ty, Callable, Cell}
use Rattle.layout_storage.specs.Shapes.{tree}
use Rattle.layout_storage.specs.Sizes.{size}
use Rattle.def_meaning.specs.Answer.{case_fault, halt_status, range_fault}
use Rattle.def_scheme.specs.Coded.{Coded, Setting, Counts, plain, all_coded, with_setting, number, operation, relation, copy}
use Rattle.def_scheme.specs.Cells.{load_code, store_code, in_type, check_taken}
use Rattle.def_scheme.specs.Exprs.{Numbered, Part, expr_part, place_code}
use Rattle.def_scheme.specs.Steps.{Arm, block, loop, block_loop, leaving, under, if_else, tests_code, arm_code, chain_code, lesser, all_labels, least_of, span_of, is_dense, in_block, jump_arms, table_code, case_code, passes, for_turn, for_code, change_instructions, change_code, with_member, member_code, text_copied, copy_text_code, take_code, step_layer, step_code, body_code}
use Rattle.law_simulation.specs.Passing.{Result}
use Rattle.law_simulation.specs.Scene.{AreLabels}
use Rattle.law_simulation.specs.StmtsTyped as steps
use Rattle.law_simulation.specs.StmtsTyped.{IsControl}
use Rattle.law_simulation.specs.TreesTyped as typed
use Rattle.law_simulation.specs.TreesTyped.{Context}
use Rattle.law_encoding.specs.Fits.{max_bytes, few_entries}
use Rattle.law_encoding.specs.SmallParts.{HasSmallParts}
use Rattle.law_encoding.specs.ValidNumbers.{code_constants_fit}
use Rattle.law_encoding.proofs.Constants.{jumps, jumps_if, goes_back, calls, gets, sets, tees, address, IsLow, signed, computes, Const, const_end, ◌▹◌, const_both, blocks, loops, tests, chooses}
use Rattle.law_encoding.proofs.ConstantPieces.{narrow_low, const_fault, const_checked, const_loaded, const_stored, const_in_type, const_taken, const_tests, const_dispatch, const_changed, const_with_member, const_copied}
use Rattle.law_encoding.proofs.ConstantCode.{Fine, fine_plain, fine_then, fine_within, fine_setting, fine_number, fine_address, fine_text, fine_types, expr_fine, held_fine, place_fine, call_fine}
use Rattle.law_encoding.proofs.DeepCodeSteps.{of_arm, opened_step, at_step, at_arm}

-- ---- labels

least_by : (q : Bool) (a b : ℤ) → IsLow a → IsLow b → IsLow (if q then a else b)
least_by true a b h l = h
least_by false a b h l = l

label_low : (a b : ℤ) → a ≤ℤ b → b ≤ℤ pos 4294967295 → IsLow a
label_low a b h l = omega (arith, ints, h, l)

least_from : (z : ℤ) (xs : List Label) → IsLow z → AreLabels xs → IsLow (fold (λ so (y : Label). lesser so y.low) z xs)
least_from z [] h p = h
least_from z (x ∷ xs) h p = least_from (lesser z x.low) xs
    (least_by (int_le z x.low) z x.low h (label_low x.low x.high p.0.order p.0.high)) p.1

nought_low : IsLow (pos 0)
nought_low = omega (arith, ints)

least_low : (xs : List Label) → AreLabels xs → IsLow (least_of xs)
least_low [] p = nought_low
least_low (x ∷ xs) p = least_from x.low xs (label_low x.low x.high p.0.order p.0.high) p.1

both_labels : (xs ys : List Label) → AreLabels xs → AreLabels ys → AreLabels (xs ++ ys)
both_labels [] ys p q = q
both_labels (x ∷ xs) ys p q = (p.0, both_labels xs ys p.1 q)

-- ---- blocks

const_block : {code : List Instr} → Const code → Const (block code)
const_block p = blocks None p ▹ const_end

const_loop : {code : List Instr} → Const code → Const (loop code)
const_loop p = loops None p ▹ const_end

few_text : (a n k : ℕ) → a + n ≤ k → k ≤ few_entries → a < max_bytes
few_text a n k h l = omega (arith, h, l)

few_length : (a n k : ℕ) → a + n ≤ k → k ≤ few_entries → n < max_bytes
few_length a n k h l = omega (arith, h, l)

few_rest : (n k : ℕ) → n ≤ few_entries → n - k < max_bytes
few_rest n k h = omega (arith, h)

few_size : (n : ℕ) → n ≤ few_entries → n < max_bytes
few_size n h = omega (arith, h)

dense_span : (a b c d : ℕ) (q r : Bool) → (nat_le a 16 && (q && (nat_le b 1024 && r))) ≡ true → b ≤ 1024
dense_span a b c d q r e =
    let one = and_parts (nat_le a 16) (q && (nat_le b 1024 && r)) e in
    let two = and_parts q (nat_le b 1024 && r) one.1 in
    leb-true b 1024 (and_parts (nat_le b 1024) r two.1).0

module _ (x : Context) (fs : List Ty) (small : HasSmallParts x fs) (numbered : Numbered) where
  abbrev m : TypedModule
  m = x.home

  abbrev T : Types
  T = x.home.types

  abbrev Good : ℕ → ℕ → Coded → Type 0
  Good a b c = Fine m fs a b c

  -- ---- around code

  leaving_fine : {a b : ℕ} (exit : ℕ) (wrap : List Instr → List Instr) {y : Coded}
      → ((code : List Instr) → Const code → Const (wrap code)) → Good a b y → Good a b (leaving exit wrap y)
  leaving_fine exit wrap h p = record {
    run = λ s c i g e. let r = p.run (record s { exit = exit }) c i g e in
        (h _ r.0, r.1);
  }

  under_fine : {a b : ℕ} (w : ℕ) {y : Coded} → Good a b y → Good a b (under w y)
  under_fine w p = record { run = λ s c i g e. p.run (record s { withs = s.withs ++ w ∷ [] }) c i g e }

  boxed_fine : {a b : ℕ} {y : Coded} → Good a b y → Good a b (in_block y)
  boxed_fine p = record { run = λ s c i g e. let r = p.run s c i g e in (const_block r.0, r.1) }

  else_fine : {a b c : ℕ} {y z : Coded} → Good a b y → Good b c z → Good a c (if_else y z)
  else_fine {y = y} p q = record {
    run = λ s c i g e. let inner = record s { exit = suc s.exit } in
        let r = p.run inner c i g e in
        let t = q.run inner (y inner c).1 i g r.1 in
        (chooses None r.0 t.0 ▹ const_end, t.1);
  }

  only_wraps : (code : List Instr) → Const code → Const (If None code None ∷ [])
  only_wraps code p = tests None p ▹ const_end

  stored_fine : (a : ℕ) (t : TypeNo) → Good a a (with_setting (λ s. plain (store_code s.home.types t)))
  stored_fine a t = fine_setting m fs a (λ s h g. subst (λ (n : TypedModule). Const (store_code n.types t)) (sym h)
      (const_stored T t small.cells))

  -- ---- CASE

  data ArmsFine : ℕ → ℕ → List Arm → Type 0 where
    no_arms : (a : ℕ) → ArmsFine a a []
    more_arms : (a b c : ℕ) (y : Arm) (ys : List Arm) → AreLabels y.labels → Good a b y.code → ArmsFine b c ys
        → ArmsFine a c (y ∷ ys)

  labels_in : {a b : ℕ} {ys : List Arm} → ArmsFine a b ys → AreLabels (all_labels ys)
  labels_in (no_arms a) = tt
  labels_in (more_arms a b c y ys l p ps) = both_labels y.labels (all_labels ys) l (labels_in ps)

  chain_arms : {a b : ℕ} (t : ℕ) {ys : List Arm} → ArmsFine a b ys → Good a b (all_coded (map (arm_code t) ys))
  chain_arms t (no_arms a) = fine_plain m fs a const_end
  chain_arms t (more_arms a b c y ys l p ps) =
      fine_then m fs (fine_within m fs 1 (λ code. block (block (tests_code t y.labels) ++ (code ++ Br 1 ∷ [])))
      (λ code q. const_block (const_both (const_block (const_tests t y.labels l))
      (const_both q (jumps 1 ▹ const_end)))) p) (chain_arms t ps)

  chain_fine : {a b c : ℕ} (t : ℕ) {ys : List Arm} {z : Coded} → ArmsFine a b ys → Good b c z
      → Good a c (chain_code t ys z)
  chain_fine t ps q = fine_within m fs 1 block (λ code r. const_block r) (fine_then m fs (chain_arms t ps) q)

  jumps_fine : {a b c : ℕ} {ys : List Arm} {inner : Coded} → ArmsFine b c ys → Good a b inner
      → Good a c (jump_arms ys inner)
  jumps_fine (no_arms b) q = q
  jumps_fine (more_arms b c d y ys l p ps) q =
      jumps_fine ps (fine_then m fs (boxed_fine q)
      (fine_then m fs (fine_within m fs (length ys + 2) (λ code. code) (λ code r. r) p)
      (fine_plain m fs c (jumps (length ys + 1) ▹ const_end))))

  table_fine : {a b c : ℕ} (t : ℕ) {ys : List Arm} {z : Coded} → span_of (all_labels ys) ≤ 1024 → ArmsFine a b ys
      → Good b c z → Good a c (table_code t ys z)
  table_fine {a = a} t {ys} few ps q =
      boxed_fine (fine_then m fs (boxed_fine
      (jumps_fine ps (fine_plain m fs a (const_dispatch t ys (least_of (all_labels ys)) (span_of (all_labels ys))
      (least_low (all_labels ys) (labels_in ps)) few))))
      (fine_within m fs 1 (λ code. code) (λ code r. r) q))

  either_case : {a b c : ℕ} (d : Bool) (t : ℕ) {ys : List Arm} {z : Coded} → is_dense (length ys) (all_labels ys) ≡ d
      → ArmsFine a b ys → Good b c z → Good a c (if d then table_code t ys z else chain_code t ys z)
  either_case true t {ys} e ps q = table_fine t (dense_span (length ys) (span_of (all_labels ys)) 0 0 _ _ e) ps q
  either_case false t e ps q = chain_fine t ps q

  case_fine : {a b c d : ℕ} {y z : Coded} {ys : List Arm} → Good a b y → ArmsFine b c ys → Good c d z
      → Good a d (case_code y ys z)
  case_fine {b = b} {ys = ys} p ps q =
      fine_then m fs p (fine_number m fs (λ t. fine_then m fs (fine_plain m fs b (sets t ▹ const_end))
      (either_case (is_dense (length ys) (all_labels ys)) t refl ps q)))

  -- ---- FOR

  entire_place : (a : ℕ) (d : Place) (t : Ty) → typed.IsRoot x [] d.root t → d.components ≡ []
      → typed.IsPlace x [] a a d t
  entire_place a d t r none = typed.Designator a a d t t r
      (subst (λ (ks : List Component). typed.AreComponents x [] a a t ks t) (sym none) (typed.no_components a t))

  control_fine : (a : ℕ) (d : Place) (t : Ty) → IsControl x d t → Good a a (place_code numbered d)
  control_fine a _ _ (steps.OfModule d v t is none p) =
      place_fine x fs small numbered [] a a d t
      (entire_place a d t (subst (λ (r : Root). typed.IsRoot x [] r t) (sym is) (typed.GlobalRoot v t p)) none)
  control_fine a _ _ (steps.OfFrame d slot t is none k) =
      place_fine x fs small numbered [] a a d t
      (entire_place a d t (subst (λ (r : Root). typed.IsRoot x [] r t) (sym is) (typed.LocalRoot slot t k)) none)

  const_turn : (by : ℤ) (n : ℕ) → IsLow by
      → Const (number by ∷ operation Add ∷ LocalGet n ∷ relation (passes by) ∷ BrIf 1 ∷ [])
  const_turn by n h = signed by h ▹ computes _ ▹ gets n ▹ computes _ ▹ jumps_if 1 ▹ const_end

  const_passes : (n : ℕ) (by : ℤ) → Const (LocalGet n ∷ relation (passes by) ∷ BrIf 0 ∷ [])
  const_passes n by = gets n ▹ computes _ ▹ jumps_if 0 ▹ const_end

  turn_fine : {a b : ℕ} {d : Coded} (t : TypeNo) (by : ℤ) (n : ℕ) {body : Coded} → ((k : ℕ) → Good k k d) → IsLow by
      → Good a b body → Good a b (for_turn d t by n body)
  turn_fine {b = b} t by n p h q =
      fine_then m fs q (fine_then m fs (fine_types m fs (λ types. load_code types t) (p b)
      (const_loaded T t small.cells)) (fine_then m fs (fine_plain m fs b (const_turn by n h)) (fine_then m fs (p b)
      (fine_then m fs (fine_types m fs (λ types. load_code types t) (p b) (const_loaded T t small.cells))
      (fine_setting m fs b (λ s i g. subst (λ (k : TypedModule). Const
      (number by ∷ operation Add ∷ (in_type k.types t range_fault ++ (store_code k.types t ++ Br 0 ∷ [])))) (sym i)
      (signed by h ▹ computes _ ▹ const_both (const_in_type T t range_fault small.ranges (omega arith))
      (const_both (const_stored T t small.cells) (jumps 0 ▹ const_end)))))))))

  for_fine : {a b c z : ℕ} {d : Coded} (t : TypeNo) (start limit : Part) (by : ℤ) {body : Coded}
      → ((k : ℕ) → Good k k d) → IsLow by → Good a b start.code → Good b c limit.code → Good c z body
      → Good a z (for_code d t start limit by body)
  for_fine {a = a} {c = c} {d = d} t start limit by {body} p h q r w =
      fine_then m fs (p a) (fine_then m fs (fine_types m fs (λ types. check_taken types t start.constant start.of) q
      (const_taken T t start.constant start.of small.ranges)) (fine_then m fs r
      (fine_number m fs (λ n. fine_then m fs (fine_then m fs (fine_plain m fs c (sets n ▹ const_end)) (stored_fine c t))
      (fine_within m fs 1 block (λ code i. const_block i)
      (fine_then m fs (fine_types m fs (λ types. load_code types t) (p c) (const_loaded T t small.cells))
      (fine_then m fs (fine_plain m fs c (const_passes n by))
      (fine_within m fs 1 loop (λ code i. const_loop i) (turn_fine t by n p h w)))))))))

  -- ---- INC, DEC, INCL, EXCL and strings

  change_fine : {a b c : ℕ} (o : Change) {d y : Coded} (t : TypeNo) → Good a b d → Good b c y
      → Good a c (change_code o d t y)
  change_fine {b = b} {c = c} o t p q =
      fine_then m fs p (fine_address m fs (λ w. fine_then m fs (fine_plain m fs b (sets w ▹ const_end))
      (fine_then m fs q (fine_number m fs (λ n.
      fine_then m fs (fine_plain m fs c (sets n ▹ const_end))
      (fine_setting m fs c (λ s h g. subst (λ (k : TypedModule). Const (change_instructions o w n k.types t))
      (sym h) (const_changed o w n T t small.cells small.ranges))))))))

  member_fine : {a b c : ℕ} (o : Membership) {d y : Coded} → Good a b d → Good b c y → Good a c (member_code o d y)
  member_fine {b = b} {c = c} o p q =
      fine_then m fs p (fine_address m fs (λ w. fine_then m fs (fine_plain m fs b (sets w ▹ const_end))
      (fine_then m fs q
      (fine_then m fs (fine_plain m fs c (const_checked (pos 0) (pos 31) range_fault (omega (arith, ints))
      (omega (arith, ints)) (omega arith))) (fine_number m fs (λ n.
      fine_then m fs (fine_plain m fs c (sets n ▹ const_end))
      (fine_setting m fs c (λ s h g. subst (λ (k : TypedModule). Const (with_member o w n k.types)) (sym h)
      (const_with_member o w n T small.cells)))))))))

  text_fine : {a b : ℕ} {d : Coded} (t : TypeNo) (text : List ℕ) → typed.HasText x b text → Good a b d
      → Good a (b + length text) (copy_text_code d t text)
  text_fine {b = b} t text has p =
      fine_then m fs p (fine_address m fs (λ w. fine_then m fs (fine_plain m fs b (tees w ▹ const_end))
      (fine_text m fs (length text) (λ at. with_setting
      (λ s. plain (text_copied at (length text) (size (tree s.home.types t) - length text) w)))
      (fine_setting m fs (b + length text) (λ s h g. subst
      (λ (k : TypedModule). Const (text_copied b (length text) (size (tree k.types t) - length text) w)) (sym h)
      (const_copied b (length text) (size (tree T t) - length text) w (few_text b (length text) _ has.fits small.texts)
      (few_length b (length text) _ has.fits small.texts)
      (few_rest (size (tree T t)) (length text) (small.types t))))))))

  -- ---- statements, by their parts

  module _ (result : Result) where
    abbrev part : TypedExpr → Part
    part e = expr_part numbered e

    step_by : {a b : ℕ} (e : TypedStmt) (y : TypedStmt-F TypedStmt TypedArm) → out-TypedStmt e ≡ y
        → Good a b (step_layer numbered (opened_step numbered y)) → Good a b (step_code numbered e)
    step_by {a = a} {b = b} e y q p = subst (λ (z : Coded). Good a b z) (sym (at_step numbered e y q)) p

    given_fine : {ws : List Ty} {a b : ℕ} {e : TypedExpr} {t : TypeNo} → steps.IsGiven x result ws a b e t
        → Good a b (take_code numbered t e)
    given_fine {ws} {a} {b} {e} {t} p = fine_types m fs (λ types. check_taken types t (part e).constant (part e).of)
        (expr_fine x fs small numbered ws a b e p.of p.is) (const_taken T t (part e).constant (part e).of small.ranges)

    held_given : (ws : List Ty) (a b : ℕ) (e : TypedExpr) (t : TypeNo) (h : _) → typed.IsProcedureExpr x ws a b e h
        → Good a b (take_code numbered t e)
    held_given ws a b e t h p = fine_types m fs (λ types. check_taken types t (part e).constant (part e).of)
        (held_fine x fs small numbered ws a b e h p) (const_taken T t (part e).constant (part e).of small.ranges)

    test_fine : {ws : List Ty} {a b : ℕ} {e : TypedExpr} → steps.IsTest x result ws a b e → Good a b (part e).code
    test_fine {ws} {a} {b} {e} p = expr_fine x fs small numbered ws a b e p.of p.is

    abbrev place : Place → Coded
    place d = place_code numbered d

    abbrev at_place : (ws : List Ty) (a b : ℕ) (d : Place) (t : Ty) → typed.IsPlace x ws a b d t → Good a b (place d)
    at_place ws a b d t p = place_fine x fs small numbered ws a b d t p

    mutual
      step_fine : (ws : List Ty) (l : Bool) (a b : ℕ) (s : TypedStmt) → steps.IsStmt x result ws l a b s
          → Good a b (step_code numbered s)
      step_fine _ _ _ _ _ (steps.Assign ws l a b c d t r e cell h g) =
          step_by (stmt.Assign d t e) (layer.Assign d t e) (stmt.outs-Assign d t e)
          (fine_then m fs (at_place ws a b d (Cell r) h) (fine_then m fs (given_fine g) (stored_fine c t)))
      step_fine _ _ _ _ _ (steps.AssignProcedure ws l a b c d t h e is none p q) =
          step_by (stmt.Assign d t e) (layer.Assign d t e) (stmt.outs-Assign d t e)
          (fine_then m fs (at_place ws a b d (Cell (Callable h)) p)
          (fine_then m fs (held_given ws b c e t h q) (stored_fine c t)))
      step_fine _ _ _ _ _ (steps.Copy ws l a b c d e t plainly p q) =
          step_by (stmt.Copy d e t) (layer.Copy d e t) (stmt.outs-Copy d e t)
          (fine_then m fs (at_place ws a b d (tree T t) p)
          (fine_types m fs (λ types. I32Const (size (tree types t)) ∷ Call copy ∷ [])
          (at_place ws b c e (tree T t) q) (address _ (few_size (size (tree T t)) (small.types t)) ▹ calls _ ▹
          const_end)))
      step_fine _ _ _ _ _ (steps.CopyText ws l a b n d t text is short has p) =
          step_by (stmt.CopyText d t text) (layer.CopyText d t text) (stmt.outs-CopyText d t text)
          (text_fine t text has (at_place ws a b d (tree T t) p))
      step_fine _ _ _ _ _ (steps.ProcedureCall ws l a b c p) =
          step_by (stmt.Call c) (layer.Call c) (stmt.outs-Call c) (call_fine x fs small numbered ws a b c None p)
      step_fine _ _ _ _ _ (steps.Put ws l a b e p) =
          step_by (stmt.Put e) (layer.Put e) (stmt.outs-Put e)
          (fine_then m fs (given_fine p) (fine_plain m fs b (calls _ ▹ const_end)))
      step_fine _ _ _ _ _ (steps.Changed ws l a b c o d t u r e cell one two p q) =
          step_by (stmt.Change o d t e) (layer.Change o d t e) (stmt.outs-Change o d t e)
          (change_fine o t (at_place ws a b d (Cell r) p) (expr_fine x fs small numbered ws b c e u q))
      step_fine _ _ _ _ _ (steps.Member ws l a b c o d u r e cell p q) =
          step_by (stmt.Membership o d e) (layer.Membership o d e) (stmt.outs-Membership o d e)
          (member_fine o (at_place ws a b d (Cell r) p) (expr_fine x fs small numbered ws b c e u q))
      step_fine _ _ _ _ _ (steps.Halt ws l a) =
          step_by stmt.Halt layer.Halt stmt.outs-Halt (fine_plain m fs a (const_fault halt_status (omega arith)))
      step_fine _ _ _ _ _ (steps.If ws l a b c e body p q) =
          step_by (stmt.If e body None) (layer.If e body None) (stmt.outs-If e body None)
          (fine_then m fs (test_fine p) (fine_then m fs (fine_plain m fs b (computes _ ▹ const_end))
          (fine_within m fs 1 (λ code. If None code None ∷ []) only_wraps (body_fine ws l b c body q))))
      step_fine _ _ _ _ _ (steps.IfElse ws l a b c z e body others p q r) =
          step_by (stmt.If e body (Some others)) (layer.If e body (Some others)) (stmt.outs-If e body (Some others))
          (fine_then m fs (test_fine p) (fine_then m fs (fine_plain m fs b (computes _ ▹ const_end))
          (else_fine (body_fine ws l b c body q) (body_fine ws l c z others r))))
      step_fine _ _ _ _ _ (steps.Case ws l a b c u e arms p q) =
          step_by (stmt.Case e arms None) (layer.Case e arms None) (stmt.outs-Case e arms None)
          (case_fine (expr_fine x fs small numbered ws a b e u p) (arms_fine ws l b c arms q)
          (fine_plain m fs c (const_fault case_fault (omega arith))))
      step_fine _ _ _ _ _ (steps.CaseElse ws l a b c z u e arms others p q r) =
          step_by (stmt.Case e arms (Some others)) (layer.Case e arms (Some others))
          (stmt.outs-Case e arms (Some others))
          (case_fine (expr_fine x fs small numbered ws a b e u p) (arms_fine ws l b c arms q)
          (body_fine ws l c z others r))
      step_fine _ _ _ _ _ (steps.While ws l a b c e body p q) =
          step_by (stmt.While e body) (layer.While e body) (stmt.outs-While e body)
          (fine_within m fs 2 block_loop (λ code i. const_block (const_loop i))
          (fine_then m fs (test_fine p) (fine_then m fs (fine_plain m fs b (computes _ ▹ jumps_if 1 ▹ const_end))
          (fine_then m fs (body_fine ws l b c body q) (fine_plain m fs c (jumps 0 ▹ const_end))))))
      step_fine _ _ _ _ _ (steps.Repeat ws l a b c body e q p) =
          step_by (stmt.Repeat body e) (layer.Repeat body e) (stmt.outs-Repeat body e)
          (fine_within m fs 1 loop (λ code i. const_loop i)
          (fine_then m fs (body_fine ws l a b body q)
          (fine_then m fs (test_fine p) (fine_plain m fs c (computes _ ▹ jumps_if 0 ▹ const_end)))))
      step_fine _ _ _ _ _ (steps.Loop ws l a b body q) =
          step_by (stmt.Loop body) (layer.Loop body) (stmt.outs-Loop body)
          (leaving_fine 1 block_loop (λ code i. const_block (const_loop i))
          (fine_then m fs (body_fine ws true a b body q) (fine_plain m fs b (jumps 0 ▹ const_end))))
      step_fine _ _ _ _ _ (steps.Exit ws a) =
          step_by stmt.Exit layer.Exit stmt.outs-Exit (fine_setting m fs a (λ s h g. jumps _ ▹ const_end))
      step_fine _ _ _ _ _ (steps.Return ws l a q) =
          step_by stmt.Return layer.Return stmt.outs-Return (fine_plain m fs a (goes_back ▹ const_end))
      step_fine _ _ _ _ _ (steps.Give ws l a b t r e is cell p) =
          step_by (stmt.Give t e) (layer.Give t e) (stmt.outs-Give t e)
          (fine_then m fs (given_fine p) (fine_plain m fs b (goes_back ▹ const_end)))
      step_fine _ _ _ _ _ (steps.GiveProcedure ws l a b t h e is none p type) =
          step_by (stmt.Give t e) (layer.Give t e) (stmt.outs-Give t e)
          (fine_then m fs (held_given ws a b e t h p) (fine_plain m fs b (goes_back ▹ const_end)))
      step_fine _ _ _ _ _ (steps.For ws l a b c z d t u r start limit by body cell ranged control least most p q w) =
          step_by (stmt.For d t start limit by body) (layer.For d t start limit by body)
          (stmt.outs-For d t start limit by body)
          (for_fine t (part start) (part limit) by (λ k. control_fine k d (Cell r) control) (narrow_low by most)
          (expr_fine x fs small numbered ws a b start p.of p.is) (expr_fine x fs small numbered ws b c limit u q)
          (body_fine ws l c z body w))
      step_fine _ _ _ _ _ (steps.With ws l a b c t d body p q) =
          step_by (stmt.With d body) (layer.With d body) (stmt.outs-With d body)
          (fine_then m fs (at_place ws a b d t p)
          (fine_address m fs (λ w. fine_then m fs (fine_plain m fs b (sets w ▹ const_end))
          (under_fine w (body_fine (ws ++ t ∷ []) l b c body q)))))

      pub body_fine : (ws : List Ty) (l : Bool) (a b : ℕ) (ss : List TypedStmt) → steps.AreStmts x result ws l a b ss
          → Good a b (all_coded (map (step_code numbered) ss))
      body_fine _ _ _ _ _ (steps.no_stmts ws l a) = fine_plain m fs a const_end
      body_fine _ _ _ _ _ (steps.more_stmts ws l a b c s ss p q) =
          fine_then m fs (step_fine ws l a b s p) (body_fine ws l b c ss q)

      arms_fine : (ws : List Ty) (l : Bool) (a b : ℕ) (ms : List TypedArm) → steps.AreArms x result ws l a b ms
          → ArmsFine a b (map (of_arm numbered) ms)
      arms_fine _ _ _ _ _ (steps.no_arms ws l a) = no_arms a
      arms_fine _ _ _ _ _ (steps.more_arms ws l a b c y ys labels p q) =
          let e = at_arm numbered y (out-TypedArm y) refl in
          more_arms a b c (of_arm numbered y) (map (of_arm numbered) ys)
          (subst (λ (z : Arm). AreLabels z.labels) (sym e) labels)
          (subst (λ (z : Arm). Good a b z.code) (sym e) (body_fine ws l a b y.body p)) (arms_fine ws l b c ys q)

pub constants_fit : (x : Context) (fs : List Ty) → HasSmallParts x fs
    → (result : Result) (ws : List Ty) (l : Bool) (a b : ℕ) (ss : List TypedStmt) → steps.AreStmts x result ws l a b ss
    → (numbered : Numbered) (s : Setting) (c : Counts) → s.home ≡ x.home → s.frames ≡ fs → c.texts ≡ a
    → code_constants_fit (body_code numbered ss s c).0 ≡ true
constants_fit x fs small result ws l a b ss p numbered s c h g e = let r =
    (body_fine x fs small numbered result ws l a b ss p).run s c h g e in r.0.fit
