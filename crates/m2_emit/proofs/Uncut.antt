-- Numbers that are cut once, and the functions of which none is cut.
use Rattle.std.proofs.Common.{◌≡◌, ℕ, Bool, true, false, List, [], ◌∷◌, ◌++◌, map, length, take, drop, Option, None, refl, sym, ap, ◌∙◌, append_assoc}
use Rattle.std.specs.Prelude.{◌&&◌}
use Rattle.std.proofs.lemmas.List.{map-append}
use Rattle.typed_tree.specs.declared.typed_module.Which.TheVariants as which
use Rattle.typed_tree.specs.declared.typed_module.TypedModule.{TypedModule}
use Rattle.wasm_tree.specs.declared.kinds.ValueType.{ValueType}
use Rattle.def_scheme.specs.Functions.{functions_from, module_function}
use Rattle.wasm_tree.specs.declared.kinds.ValueType.TheVariants.{I32, I64}
use Rattle.wasm_tree.specs.declared.code.Op.{Op}
use Rattle.wasm_tree.specs.declared.code.Op.TheVariants as op
use Rattle.wasm_tree.specs.declared.instr.Instr.{Instr}
use Rattle.wasm_tree.specs.declared.instr.Instr.TheVariants as instr
use Rattle.wasm_tree.specs.declared.module.Function.{Function}
use Rattle.wasm_tree.specs.declared.module.Global.{Global}
use Rattle.wasm_tree.specs.Code.{tree, flat}
use Rattle.wasm_helpers.specs.Codes.{check_code, copy_code, div_code, fill_code, mod_code, copy_turn, fill_turn, check_tests}
use Rattle.wasm_helpers.specs.Operations.{check_ops, copy_ops, div_ops, fill_ops, mod_ops}
use Rattle.wasm_helpers.proofs.Operations.{check_is, copy_is, div_is, fill_is, mod_is}
use Rattle.def_scheme.specs.Scheme.{constant_global}
use Rattle.def_scheme.specs.Modules.{helper, helpers, functions, numbering_of}
use Rattle.emit_buffer.specs.Cut.{cut, cut_op, cut_code, cut_function, cut_global}
use Rattle.emit_buffer.specs.Drafts.{instr_of}
use Rattle.emit_buffer.proofs.Plain.{single, single_flat}
use Rattle.emit_buffer.proofs.Closed.{block_flat, loop_flat}
use Rattle.m2_emit.proofs.Lists.{one_number}

-- a constant
pub constant_is : (n : ℕ) → record { value_type = I32; value = instr.I32Const (cut n) ∷ [] }
    ≡ cut_global (constant_global n)
constant_is n =
    ap (λ (is : List Instr). record { value_type = I32; value = is })
    (sym (one_number (cut n)) ∙ ap (λ (ops : List Op). tree (map cut_op (ops ++ [])))
    (sym (single_flat (op.I32Const n) refl)))

-- ---- the helpers

all_single : List Op → Bool
all_single [] = true
all_single (o ∷ os) = single o && all_single os

both : (a b : Bool) → (a && b) ≡ true → (a ≡ true) × (b ≡ true)
both true b h = (refl, h)
both false b h = cc h

singles : (os : List Op) → all_single os ≡ true → flat (map instr_of os) ≡ os
unfolding all_single
singles [] h = refl
singles (o ∷ os) h =
    let p = both (single o) (all_single os) h in
    ap (λ (ops : List Op). ops ++ flat (map instr_of os)) (single_flat o p.0)
    ∙ ap (λ (ops : List Op). o ∷ ops) (singles os p.1)

block_then : (t : Option ValueType) (is rest : List Instr) (a b : List Op) → flat is ≡ a → flat rest ≡ b
    → flat (instr.Block t is ∷ rest) ≡ op.Block t (length a) ∷ (a ++ b)
block_then t is rest a b e f =
    ap (λ (ops : List Op). ops ++ flat rest) (block_flat t is ∙ ap (λ (ops : List Op). op.Block t (length ops) ∷ ops) e)
    ∙ ap (λ (ops : List Op). op.Block t (length a) ∷ (a ++ ops)) f

loop_then : (t : Option ValueType) (is rest : List Instr) (a b : List Op) → flat is ≡ a → flat rest ≡ b
    → flat (instr.Loop t is ∷ rest) ≡ op.Loop t (length a) ∷ (a ++ b)
loop_then t is rest a b e f =
    ap (λ (ops : List Op). ops ++ flat rest) (loop_flat t is ∙ ap (λ (ops : List Op). op.Loop t (length ops) ∷ ops) e)
    ∙ ap (λ (ops : List Op). op.Loop t (length a) ∷ (a ++ ops)) f

own_cut : (code : List Instr) (ops : List Op) → flat code ≡ ops → map cut_op ops ≡ ops → tree ops ≡ code
    → cut_code code ≡ code
own_cut code ops e h t = ap (λ (os : List Op). tree (map cut_op os)) e ∙ ap tree h ∙ t

copy_ends : List Op
copy_ends = drop 2 copy_ops

fill_ends : List Op
fill_ends = drop 2 fill_ops

copy_flat : flat copy_code ≡ copy_ops
unfolding copy_ends all_single
copy_flat =
    block_then None (instr.Loop None copy_turn ∷ []) [] (op.Loop None (length copy_ends) ∷ (copy_ends ++ [])) []
    (loop_then None copy_turn [] copy_ends [] (singles copy_ends refl) refl) refl

fill_flat : flat fill_code ≡ fill_ops
unfolding fill_ends all_single
fill_flat =
    block_then None (instr.Loop None fill_turn ∷ []) [] (op.Loop None (length fill_ends) ∷ (fill_ends ++ [])) []
    (loop_then None fill_turn [] fill_ends [] (singles fill_ends refl) refl) refl

test_ops : List Op
test_ops = take 9 (drop 2 check_ops)

check_flat : flat check_code ≡ check_ops
unfolding test_ops all_single
check_flat =
    let stops : List Op = op.LocalGet 3 ∷ op.Call 1 ∷ op.Unreachable ∷ [] in
    block_then None (instr.Block None check_tests ∷ instr.LocalGet 3 ∷ instr.Call 1 ∷ instr.Unreachable ∷ [])
    (instr.LocalGet 0 ∷ []) (op.Block None (length test_ops) ∷ (test_ops ++ stops)) (op.LocalGet 0 ∷ [])
    (block_then None check_tests (instr.LocalGet 3 ∷ instr.Call 1 ∷ instr.Unreachable ∷ []) test_ops stops
    (singles test_ops refl) (singles stops refl))
    (singles (op.LocalGet 0 ∷ []) refl)

div_flat : flat div_code ≡ div_ops
unfolding all_single
div_flat = singles div_ops refl

mod_flat : flat mod_code ≡ mod_ops
unfolding all_single
mod_flat = singles mod_ops refl

copy_cut : cut_code copy_code ≡ copy_code
copy_cut = own_cut copy_code copy_ops copy_flat refl copy_is

fill_cut : cut_code fill_code ≡ fill_code
fill_cut = own_cut fill_code fill_ops fill_flat refl fill_is

check_cut : cut_code check_code ≡ check_code
check_cut = own_cut check_code check_ops check_flat refl check_is

div_cut : cut_code div_code ≡ div_code
div_cut = own_cut div_code div_ops div_flat refl div_is

mod_cut : cut_code mod_code ≡ mod_code
mod_cut = own_cut mod_code mod_ops mod_flat refl mod_is

abbrev five : (a b c d e : List Instr) → List Function
five a b c d e = helper 1 a ∷ helper 2 b ∷ helper 3 c ∷ helper 4 d
    ∷ record { type_index = 4; body = record { locals = record { count = 1; value_type = I64 } ∷ []; code = e } } ∷ []

helpers_are : helpers ≡ map cut_function helpers
helpers_are =
    sym (ap (λ (c : List Instr). five c fill_code check_code div_code mod_code) copy_cut)
    ∙ sym (ap (λ (c : List Instr). five (cut_code copy_code) c check_code div_code mod_code) fill_cut)
    ∙ sym (ap (λ (c : List Instr). five (cut_code copy_code) (cut_code fill_code) c div_code mod_code) check_cut)
    ∙ sym (ap (λ (c : List Instr). five (cut_code copy_code) (cut_code fill_code) (cut_code check_code) c mod_code)
    div_cut)
    ∙ sym (ap (λ (c : List Instr). five (cut_code copy_code) (cut_code fill_code) (cut_code check_code)
    (cut_code div_code) c) mod_cut)

-- all functions of a module, made one behind the other
pub functions_are : (m : TypedModule) (a b c d : List Function) → a ≡ helpers
    → b ≡ a ++ cut_function (module_function (numbering_of m) m) ∷ []
    → c ≡ b ++ map cut_function (functions_from (numbering_of m) m which.Module 0 m.procedures)
    → d ≡ c ++ map cut_function (functions_from (numbering_of m) m which.Local 0 m.locals)
    → d ≡ map cut_function (functions m)
functions_are m a b c d e f g h =
    let body : Function = module_function (numbering_of m) m in
    let procedures : List Function = functions_from (numbering_of m) m which.Module 0 m.procedures in
    let locals : List Function = functions_from (numbering_of m) m which.Local 0 m.locals in
    h ∙ ap (λ (fs : List Function). fs ++ map cut_function locals)
    (g ∙ ap (λ (fs : List Function). fs ++ map cut_function procedures)
    (f ∙ ap (λ (fs : List Function). fs ++ cut_function body ∷ []) (e ∙ helpers_are)))
    ∙ append_assoc (map cut_function helpers ++ cut_function body ∷ []) (map cut_function procedures)
    (map cut_function locals)
    ∙ append_assoc (map cut_function helpers) (cut_function body ∷ [])
    (map cut_function procedures ++ map cut_function locals)
    ∙ ap (λ (fs : List Function). map cut_function helpers ++ cut_function body ∷ fs)
    (sym (map-append cut_function procedures locals))
    ∙ sym (map-append cut_function helpers (body ∷ (procedures ++ locals)))
