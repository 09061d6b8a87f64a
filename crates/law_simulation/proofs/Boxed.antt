-- How texts are placed in the code of statements.
use Rattle.std.proofs.Common.{◌≡◌, ℕ, suc, ℤ, Bool, true, false, List, [], ◌∷◌, ◌++◌, Some, None, if◌then◌else◌, ap, ◌∙◌}
use Rattle.wasm_tree.specs.declared.instr.Instr.{Instr}
use Rattle.wasm_tree.specs.declared.instr.Instr.TheVariants as instr
use Rattle.wasm_tree.specs.declared.instr.Operation.TheVariants.{Add}
use Rattle.typed_tree.specs.declared.types.TypeNo.{TypeNo}
use Rattle.def_scheme.specs.Coded.{Coded, Counts, Setting, number, operation, relation}
use Rattle.def_scheme.specs.Cells.{load_code, store_code, in_type, check_taken}
use Rattle.def_scheme.specs.Exprs.{Part}
use Rattle.def_scheme.specs.Steps.{block, loop, in_block, if_else, passes, for_code}
use Rattle.law_simulation.proofs.Parts.{grows_more}
use Rattle.law_simulation.specs.Placed.{Pins}
use Rattle.law_simulation.proofs.Pinned.{pins_plain, pins_then, pins_setting, pins_number, pins_within}

pub pins_boxed : {a b : ℕ} {x y : Coded} → Pins a b x y → Pins a b (in_block x) (in_block y)
pins_boxed h = record {
  is = λ s c. ap (λ (q : List Instr × Counts). (block q.0, q.1)) (h.is s c);
  grows =
      λ s c. h.grows s c;
}

pub pins_if_else : {a b z : ℕ} {x x' y y' : Coded} → Pins a b x x' → Pins b z y y'
    → Pins a z (if_else x y) (if_else x' y')
pins_if_else {x' = x'} {y = y} hx hy = record {
  is = λ s c.
      let i : Setting = record s { exit = suc s.exit } in
      ap (λ (f : List Instr × Counts). (instr.If None f.0 (Some (y i f.1).0) ∷ [], (y i f.1).1)) (hx.is i c)
      ∙ ap (λ (g : List Instr × Counts). (instr.If None (x' i c).0 (Some g.0) ∷ [], g.1)) (hy.is i (x' i c).1);
  grows = λ s c. grows_more (hx.grows (record s { exit = suc s.exit }) c)
      (hy.grows (record s { exit = suc s.exit }) (x' (record s { exit = suc s.exit }) c).1);
}

-- code that is chosen by a test
pub pins_either : {a b : ℕ} {x x' y y' : Coded} (q q' : Bool) → q' ≡ q → Pins a b x x' → Pins a b y y'
    → Pins a b (if q then x else y) (if q' then x' else y')
pins_either true true e hx hy = hx
pins_either true false e hx hy = cc e
pins_either false true e hx hy = cc e
pins_either false false e hx hy = hy

-- FOR: the code of its variable has no texts
pub pins_for : {a b c z : ℕ} (d d' : Coded) (t : TypeNo) (start limit : Part) (first last : Coded) (by : ℤ)
    (x x' : Coded) → ((i : ℕ) → Pins i i d d')
    → Pins a b start.code first → Pins b c limit.code last → Pins c z x x'
    → Pins a z (for_code d t start limit by x)
    (for_code d' t (record start { code = first }) (record limit { code = last }) by x')
pins_for {a} {b} {c} {z} d d' t start limit first last by x x' hd hs hl hx =
    pins_then (hd a) (pins_then (pins_then hs
    (pins_setting (λ s. pins_plain b (check_taken s.home.types t start.constant start.of))))
    (pins_then hl (pins_number (λ n.
    pins_then (pins_then (pins_plain c (instr.LocalSet n ∷ []))
    (pins_setting (λ s. pins_plain c (store_code s.home.types t))))
    (pins_within 1 block (pins_then (pins_then (hd c) (pins_setting (λ s. pins_plain c (load_code s.home.types t))))
    (pins_then (pins_plain c (instr.LocalGet n ∷ relation (passes by) ∷ instr.BrIf 0 ∷ []))
    (pins_within 1 loop (pins_then hx (pins_then
    (pins_then (hd z) (pins_setting (λ s. pins_plain z (load_code s.home.types t))))
    (pins_then (pins_plain z (number by ∷ operation Add ∷ instr.LocalGet n ∷ relation (passes by) ∷ instr.BrIf 1
    ∷ []))
    (pins_then (hd z) (pins_then (pins_then (hd z) (pins_setting (λ s. pins_plain z (load_code s.home.types t))))
    (pins_setting (λ s. pins_plain z (number by ∷ operation Add
    ∷ (in_type s.home.types t 1 ++ (store_code s.home.types t ++ instr.Br 0 ∷ []))))))))))))))))))
