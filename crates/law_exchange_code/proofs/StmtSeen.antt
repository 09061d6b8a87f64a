-- The code of statements has no numbers of modules.
use Rattle.std.proofs.Common.{map, ◌≡◌, ℕ, ◌-◌, List, [], ◌∷◌, ◌++◌, length, Option, Some, None, refl, sym, ap, ◌∙◌}
use Rattle.std.proofs.Math.Path.{fun_ext}
use Rattle.std.specs.Prelude.{ℤ, pos}
use Rattle.std.specs.Option.{option_map}
use Rattle.wasm_tree.specs.declared.instr.Instr.{Instr}
use Rattle.wasm_tree.specs.declared.instr.Instr.TheVariants.{Br, BrIf, Call as Calls, I32Const, I64Const, LocalGet, LocalSet, LocalTee, Return}
use Rattle.wasm_tree.specs.declared.instr.Operation.TheVariants.{Add, Shl}
use Rattle.typed_tree.specs.declared.computed.TypedExpr.{TypedExpr}
use Rattle.typed_tree.specs.declared.statement.Change.{Change}
use Rattle.typed_tree.specs.declared.statement.Label.{Label}
use Rattle.typed_tree.specs.declared.statement.Membership.{Membership}
use Rattle.typed_tree.specs.declared.statement.TypedArm.{TypedArm-F, map-TypedArm}
use Rattle.typed_tree.specs.declared.statement.TypedStmt.{TypedStmt, TypedStmt-F, map-TypedStmt}
use Rattle.typed_tree.specs.declared.statement.TypedStmt.TheOpen as step
use Rattle.typed_tree.specs.declared.types.TypeNo.{TypeNo}
use Rattle.typed_tree.specs.declared.known_types.Types.{Types}
use Rattle.typed_tree.specs.Types.{bitset, char}
use Rattle.layout_storage.specs.Sizes.{size}
use Rattle.layout_storage.specs.Shapes.{tree}
use Rattle.def_meaning.specs.Answer.{range_fault}
use Rattle.def_scheme.specs.Coded.{Coded, Setting, plain, ◌⨾◌, all_coded, within, with_address, with_number, with_text, with_setting, put, copy, check_code, is_zero, number, operation, relation, wrap_word}
use Rattle.def_scheme.specs.Cells.{load_code, store_code, in_type, check_taken}
use Rattle.def_scheme.specs.Exprs.{Numbered, Part, behind, expr_part, place_code}
use Rattle.def_scheme.specs.Steps.{Arm, block, loop, block_loop, leaving, under, if_else, if_code, else_code, case_code, passes, for_code, keep_address, change_operation, change_instructions, change_code, member_operation, with_member, member_code, text_copied, copy_text_code, take_code, step_layer, arm_layer, step_code, body_code}
use Rattle.def_exchange.specs.Moved.{Exchange, moved_type, moved_types}
use Rattle.def_exchange.specs.MovedTrees.{moved_expr, moved_place, stmt_moved, arm_moved, moved_stmt}
use Rattle.law_exchange_code.proofs.Lists.{two_paths}
use Rattle.law_exchange_code.proofs.Shaped.{tree_kept}
use Rattle.law_exchange_code.proofs.StmtFusion.{StmtLayers, StmtPasses, passed_stmt}
use Rattle.law_exchange_code.proofs.Pieces.{load_kept, store_kept, in_type_kept, changed_kept}
use Rattle.law_exchange_code.proofs.ExprSeen.{seen, seen_part, setting_seen, behind_seen, all_seen, taken_seen, expr_kept, place_kept, call_kept}
use Rattle.law_exchange_code.proofs.Casing.{seen_arm, case_seen}

-- what the scheme says of these, with what looks at types set apart
abbrev copied : Coded → List ℕ → (Setting → ℕ) → Coded
copied d text n =
    d ⨾ with_address (λ w.
    plain (LocalTee w ∷ []) ⨾ with_text (length text) (λ at.
    with_setting (λ s. plain (text_copied at (length text) (n s - length text) w))))

abbrev changed : Coded → Coded → (ℕ → ℕ → Setting → List Instr) → Coded
changed d f g = keep_address d (λ w. f ⨾ with_number
    (λ n. plain (LocalSet n ∷ []) ⨾ with_setting (λ s. plain (g w n s))))

abbrev membered : Coded → Coded → (ℕ → ℕ → Setting → List Instr) → Coded
membered d f g =
    keep_address d (λ w.
    f ⨾ plain (check_code (pos 0) (pos 31) range_fault) ⨾ with_number (λ n.
    plain (LocalSet n ∷ []) ⨾ with_setting (λ s. plain (g w n s))))

abbrev turning : Coded → (loads stores : Types → List Instr) → (checks : Types → List Instr) → (by : ℤ) → (n : ℕ)
    → Coded → Coded
turning d loads stores checks by n body =
    body ⨾ behind d loads
    ⨾ plain (number by ∷ operation Add ∷ LocalGet n ∷ relation (passes by) ∷ BrIf 1 ∷ []) ⨾ d
    ⨾ behind d loads ⨾ with_setting (λ s.
    plain (number by ∷ operation Add ∷ (checks s.home.types ++ (stores s.home.types ++ Br 0 ∷ []))))

abbrev repeated : Coded → (loads stores checks : Types → List Instr) → (start limit : Coded) → (by : ℤ) → Coded → Coded
repeated d loads stores checks start limit by body =
    d ⨾ start ⨾ limit
    ⨾ with_number (λ n.
    (plain (LocalSet n ∷ []) ⨾ with_setting (λ s. plain (stores s.home.types)))
    ⨾ within 1 block
    (behind d loads ⨾ plain (LocalGet n ∷ relation (passes by) ∷ BrIf 0 ∷ [])
    ⨾ within 1 loop (turning d loads stores checks by n body)))

abbrev armed : List Label → Coded → Arm
armed ls f = record { labels = ls; code = f }

module _ (x : Exchange) where
  abbrev after : (Types → List Instr) → Types → List Instr
  after f ts = f (moved_types x ts)

  loads_are : (t : TypeNo) → (λ (ts : Types). load_code ts t) ≡ after (λ ts. load_code ts (moved_type x t))
  loads_are t = fun_ext (λ ts. sym (load_kept x ts t))

  stores_are : (t : TypeNo) → (λ (ts : Types). store_code ts t) ≡ after (λ ts. store_code ts (moved_type x t))
  stores_are t = fun_ext (λ ts. sym (store_kept x ts t))

  checks_are : (t : TypeNo) → (λ (ts : Types). in_type ts t range_fault)
      ≡ after (λ ts. in_type ts (moved_type x t) range_fault)
  checks_are t = fun_ext (λ ts. sym (in_type_kept x ts t range_fault))

  text_seen : (d : Coded) (t : TypeNo) (text : List ℕ)
      → copy_text_code (seen x d) t text ≡ seen x (copy_text_code d (moved_type x t) text)
  text_seen d t text =
      ap (copied (seen x d) text) (fun_ext (λ (s : Setting). ap size (sym (tree_kept x s.home.types t))))

  change_kept : (o : Change) (w n : ℕ) (ts : Types) (t : TypeNo)
      → change_instructions o w n ts t ≡ change_instructions o w n (moved_types x ts) (moved_type x t)
  change_kept o w n ts t =
      two_paths (λ (a b : List Instr). LocalGet w ∷ LocalGet w ∷ a ++ (LocalGet n ∷ change_operation o ∷ b))
      (sym (load_kept x ts t))
      (two_paths (λ (a b : List Instr). a ++ b) (sym (changed_kept x ts t)) (sym (store_kept x ts t)))

  change_seen : (o : Change) (d : Coded) (t : TypeNo) (f : Coded)
      → change_code o (seen x d) t (seen x f) ≡ seen x (change_code o d (moved_type x t) f)
  change_seen o d t f =
      ap (changed (seen x d) (seen x f)) (fun_ext
      (λ (w : ℕ). fun_ext (λ (n : ℕ). fun_ext (λ (s : Setting). change_kept o w n s.home.types t))))

  member_kept : (o : Membership) (w n : ℕ) (ts : Types) → with_member o w n ts ≡ with_member o w n (moved_types x ts)
  member_kept o w n ts =
      two_paths (λ (a b : List Instr). LocalGet w ∷ LocalGet w ∷ a
      ++ (I64Const 1 ∷ LocalGet n ∷ operation Shl ∷ (member_operation o ++ b)))
      (sym (load_kept x ts bitset)) (sym (store_kept x ts bitset))

  member_seen : (o : Membership) (d f : Coded) → member_code o (seen x d) (seen x f) ≡ seen x (member_code o d f)
  member_seen o d f =
      ap (membered (seen x d) (seen x f)) (fun_ext
      (λ (w : ℕ). fun_ext (λ (n : ℕ). fun_ext (λ (s : Setting). member_kept o w n s.home.types))))

  if_seen : (f : Coded) (o : Option (List Coded))
      → if_code (seen x f) (option_map (map (seen x)) o) ≡ seen x (if_code f o)
  if_seen f None = refl
  if_seen f (Some ys) = ap (if_else (seen x f)) (all_seen x ys)

  else_seen : (o : Option (List Coded)) → else_code (option_map (map (seen x)) o) ≡ seen x (else_code o)
  else_seen None = refl
  else_seen (Some ys) = all_seen x ys

  for_seen : (d : Coded) (t : TypeNo) (start limit : Part) (by : ℤ) (body : Coded)
      → for_code (seen x d) t (seen_part x start) (seen_part x limit) by (seen x body)
      ≡ seen x (for_code d (moved_type x t) start limit by body)
  for_seen d t start limit by body =
      ap (λ (z : Coded). repeated (seen x d) (λ ts. load_code ts t) (λ ts. store_code ts t)
      (λ ts. in_type ts t range_fault) z (seen x limit.code) by (seen x body))
      (taken_seen x t start)
      ∙ ap (λ (f : Types → List Instr). repeated (seen x d) f (λ ts. store_code ts t) (λ ts. in_type ts t range_fault)
      (seen x (behind start.code (λ ts. check_taken ts (moved_type x t) start.constant start.of)))
      (seen x limit.code) by (seen x body)) (loads_are t)
      ∙ two_paths (λ (f g : Types → List Instr). repeated (seen x d) (after (λ ts. load_code ts (moved_type x t))) f g
      (seen x (behind start.code (λ ts. check_taken ts (moved_type x t) start.constant start.of)))
      (seen x limit.code) by (seen x body)) (stores_are t) (checks_are t)

module _ (x : Exchange) (numbered : Numbered) where
  abbrev part : TypedExpr → Part
  part = expr_part numbered

  code_kept : (e : TypedExpr) → (part e).code ≡ seen x (part (moved_expr x e)).code
  code_kept e = ap (λ (p : Part). p.code) (expr_kept x numbered e)

  abbrev taking : TypeNo → Part → Coded
  taking t p = behind p.code (λ ts. check_taken ts t p.constant p.of)

  take_kept : (t : TypeNo) (e : TypedExpr)
      → take_code numbered t e ≡ seen x (take_code numbered (moved_type x t) (moved_expr x e))
  take_kept t e = ap (taking t) (expr_kept x numbered e) ∙ taken_seen x t (part (moved_expr x e))

  store_seen : (t : TypeNo) → with_setting (λ s. plain (store_code s.home.types t))
      ≡ seen x (with_setting (λ s. plain (store_code s.home.types (moved_type x t))))
  store_seen t = setting_seen x (λ s. store_code s.home.types t) (λ s. store_code s.home.types (moved_type x t))
      (λ s. sym (store_kept x s.home.types t))

  copy_seen : (d : Coded) (t : TypeNo) → behind (seen x d) (λ ts. I32Const (size (tree ts t)) ∷ Calls copy ∷ [])
      ≡ seen x (behind d (λ ts. I32Const (size (tree ts (moved_type x t))) ∷ Calls copy ∷ []))
  copy_seen d t = behind_seen x d (λ ts. I32Const (size (tree ts t)) ∷ Calls copy ∷ [])
      (λ ts. I32Const (size (tree ts (moved_type x t))) ∷ Calls copy ∷ [])
      (λ ts. ap (λ (n : ℕ). I32Const n ∷ Calls copy ∷ []) (ap size (sym (tree_kept x ts t))))

  on_step : (y : TypedStmt-F Coded Arm) →
      step_layer numbered (map-TypedStmt Coded Arm Coded Arm (seen x) (seen_arm x) y)
      ≡ seen x (step_layer numbered (stmt_moved x y))
  on_step (step.Assign d t e) =
      ap (λ (z : Coded). z ⨾ take_code numbered t e ⨾ with_setting (λ s. plain (store_code s.home.types t)))
      (place_kept x numbered d)
      ∙ two_paths (λ (a b : Coded). seen x (place_code numbered (moved_place x d)) ⨾ a ⨾ b) (take_kept t e)
      (store_seen t)
  on_step (step.Copy to from t) =
      two_paths (λ (a b : Coded). a ⨾ behind b (λ ts. I32Const (size (tree ts t)) ∷ Calls copy ∷ []))
      (place_kept x numbered to) (place_kept x numbered from)
      ∙ ap (λ (z : Coded). seen x (place_code numbered (moved_place x to)) ⨾ z)
      (copy_seen (place_code numbered (moved_place x from)) t)
  on_step (step.CopyText d t text) =
      ap (λ (z : Coded). copy_text_code z t text) (place_kept x numbered d)
      ∙ text_seen x (place_code numbered (moved_place x d)) t text
  on_step (step.Call c) = call_kept x numbered c
  on_step (step.Put e) = ap (λ (z : Coded). z ⨾ plain (Calls put ∷ [])) (take_kept char e)
  on_step (step.Change o d t e) =
      two_paths (λ (a b : Coded). change_code o a t b) (place_kept x numbered d) (code_kept e)
      ∙ change_seen x o (place_code numbered (moved_place x d)) t (part (moved_expr x e)).code
  on_step (step.Membership o d e) =
      two_paths (λ (a b : Coded). member_code o a b) (place_kept x numbered d) (code_kept e)
      ∙ member_seen x o (place_code numbered (moved_place x d)) (part (moved_expr x e)).code
  on_step step.Halt = refl
  on_step (step.If e body None) =
      two_paths (λ (a b : Coded). a ⨾ plain (wrap_word ∷ []) ⨾ if_code b None) (code_kept e) (all_seen x body)
  on_step (step.If e body (Some ys)) =
      two_paths (λ (a b : Coded). a ⨾ plain (wrap_word ∷ []) ⨾ if_code b (Some (map (seen x) ys))) (code_kept e)
      (all_seen x body)
      ∙ ap (λ (z : Coded). seen x (part (moved_expr x e)).code ⨾ plain (wrap_word ∷ []) ⨾ z)
      (if_seen x (all_coded body) (Some ys))
  on_step (step.Case e arms None) =
      ap (λ (z : Coded). case_code z (map (seen_arm x) arms) (else_code None)) (code_kept e)
      ∙ case_seen x (part (moved_expr x e)).code arms (else_code None)
  on_step (step.Case e arms (Some ys)) =
      two_paths (λ (a b : Coded). case_code a (map (seen_arm x) arms) b) (code_kept e) (else_seen x (Some ys))
      ∙ case_seen x (part (moved_expr x e)).code arms (else_code (Some ys))
  on_step (step.While e body) =
      two_paths (λ (a b : Coded). within 2 block_loop (a ⨾ plain (is_zero ∷ BrIf 1 ∷ []) ⨾ b ⨾ plain (Br 0 ∷ [])))
      (code_kept e) (all_seen x body)
  on_step (step.Repeat body e) =
      two_paths (λ (a b : Coded). within 1 loop (a ⨾ b ⨾ plain (is_zero ∷ BrIf 0 ∷ []))) (all_seen x body) (code_kept e)
  on_step (step.Loop body) = ap (λ (z : Coded). leaving 1 block_loop (z ⨾ plain (Br 0 ∷ []))) (all_seen x body)
  on_step step.Exit = refl
  on_step step.Return = refl
  on_step (step.Give t e) = ap (λ (z : Coded). z ⨾ plain (Return ∷ [])) (take_kept t e)
  on_step (step.For d t start limit by body) =
      two_paths (λ (a b : Coded). for_code a t (part start) (part limit) by b) (place_kept x numbered d)
      (all_seen x body)
      ∙ two_paths (λ (p q : Part). for_code (seen x (place_code numbered (moved_place x d))) t p q by
      (seen x (all_coded body)))
      (expr_kept x numbered start) (expr_kept x numbered limit)
      ∙ for_seen x (place_code numbered (moved_place x d)) t (part (moved_expr x start)) (part (moved_expr x limit)) by
      (all_coded body)
  on_step (step.With d body) =
      two_paths (λ (a b : Coded). a ⨾ with_address (λ w. plain (LocalSet w ∷ []) ⨾ under w b)) (place_kept x numbered d)
      (all_seen x body)

  on_arm : (y : TypedArm-F Coded Arm) → arm_layer numbered (map-TypedArm Coded Arm Coded Arm (seen x) (seen_arm x) y)
      ≡ seen_arm x (arm_layer numbered (arm_moved x y))
  on_arm y = ap (λ (z : Coded). armed y.labels z) (all_seen x y.body)

  abbrev steps : StmtLayers Coded Arm
  steps = record { stmt = step_layer numbered; arm = arm_layer numbered }

  abbrev step_pass : StmtPasses x steps steps
  step_pass = record { hs = seen x; hr = seen_arm x; stmt = on_step; arm = on_arm }

  pub step_kept : (s : TypedStmt) → step_code numbered s ≡ seen x (step_code numbered (moved_stmt x s))
  unfolding step_code
  step_kept s = passed_stmt x steps steps step_pass s

  pub body_kept : (body : List TypedStmt)
      → body_code numbered body ≡ seen x (body_code numbered (map (moved_stmt x) body))
  body_kept [] = refl
  body_kept (s ∷ body) = two_paths (λ (a b : Coded). a ⨾ b) (step_kept s) (body_kept body)
