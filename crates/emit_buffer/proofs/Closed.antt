-- The laws of blocks: what is appended behind a place that is set at last.
use Rattle.std.proofs.Common.{◌≡◌, ℕ, zero, suc, ◌+◌, ◌-◌, ◌≤◌, ◌<◌, List, [], ◌∷◌, ◌++◌, length, map, Option, Some, None, refl, sym, ap, ◌∙◌, append_assoc, arith}
use Rattle.std.specs.Prelude.{slice_set}
use Rattle.std.proofs.lemmas.List.{length-append, length-map, map-append, append-nil}
use Rattle.wasm_tree.specs.declared.kinds.ValueType.{ValueType}
use Rattle.wasm_tree.specs.declared.code.Op.{Op}
use Rattle.wasm_tree.specs.declared.code.Op.TheVariants as op
use Rattle.wasm_tree.specs.declared.instr.Instr.{Instr, Instr-F, out-Instr, map-Instr, fold_out-Instr}
use Rattle.wasm_tree.specs.declared.instr.Instr.TheOpen as layer
use Rattle.wasm_tree.specs.declared.instr.Instr.TheVariants as instr
use Rattle.wasm_tree.specs.declared.instr.Instr.TheVariants.{outs-Block, outs-Loop, outs-If}
use Rattle.wasm_tree.specs.Code.{join_ops, flat_step, flat_one, flat}
use Rattle.wasm_tree.proofs.Flat.{joined_is}
use Rattle.def_scheme.specs.Coded.{Coded, Counts, Setting}
use Rattle.emit_buffer.specs.Cut.{cut, cut_op}
use Rattle.emit_buffer.specs.Drafts.{Drafted, cut_one, cut_flat, emitted, open_draft, place_of, closed_block, closed_loop, closed_if, closed_if_else}

-- ---- the lists of instructions that hold others

at : (i : Instr) (x : Instr-F Instr) → out-Instr i ≡ x → flat_one i ≡ flat_step (map-Instr Instr (List Op) flat_one x)
unfolding flat_one
at i x e = fold_out-Instr (List Op) flat_step i
    ∙ ap (λ (y : Instr-F Instr). flat_step (map-Instr Instr (List Op) flat_one y)) e

pub block_flat : (t : Option ValueType) (is : List Instr)
    → flat_one (instr.Block t is) ≡ op.Block t (length (flat is)) ∷ flat is
block_flat t is = at (instr.Block t is) (layer.Block t is) (outs-Block t is)
    ∙ ap (λ r. op.Block t (length r) ∷ r) (joined_is is)

pub loop_flat : (t : Option ValueType) (is : List Instr)
    → flat_one (instr.Loop t is) ≡ op.Loop t (length (flat is)) ∷ flat is
loop_flat t is = at (instr.Loop t is) (layer.Loop t is) (outs-Loop t is)
    ∙ ap (λ r. op.Loop t (length r) ∷ r) (joined_is is)

if_flat : (t : Option ValueType) (is : List Instr)
    → flat_one (instr.If t is None) ≡ op.If t (length (flat is)) ∷ flat is
if_flat t is = at (instr.If t is None) (layer.If t is None) (outs-If t is None)
    ∙ ap (λ r. op.If t (length r) ∷ r) (joined_is is)

sides_flat : (t : Option ValueType) (is others : List Instr)
    → flat_one (instr.If t is (Some others)) ≡ op.IfElse t (length (flat is)) (length (flat others))
    ∷ (flat is ++ flat others)
sides_flat t is others =
    at (instr.If t is (Some others)) (layer.If t is (Some others)) (outs-If t is (Some others))
    ∙ ap (λ r. op.IfElse t (length r) (length (join_ops (map flat_one others))) ∷ (r ++ join_ops (map flat_one others)))
    (joined_is is)
    ∙ ap (λ r. op.IfElse t (length (flat is)) (length r) ∷ (flat is ++ r)) (joined_is others)

-- ---- the same with numbers cut

cut_boxed : (f : ℕ → Op) (i : Instr) (is : List Instr) → flat_one i ≡ f (length (flat is)) ∷ flat is
    → ((n : ℕ) → cut_op (f n) ≡ f (cut n)) → cut_one i ≡ f (cut (length (cut_flat is))) ∷ cut_flat is
cut_boxed f i is e h =
    ap (map cut_op) e ∙ ap (λ (o : Op). o ∷ cut_flat is)
    (h (length (flat is)) ∙ ap (λ (n : ℕ). f (cut n)) (sym (length-map (flat is) cut_op)))

block_cut : (t : Option ValueType) (is : List Instr)
    → cut_one (instr.Block t is) ≡ op.Block t (cut (length (cut_flat is))) ∷ cut_flat is
block_cut t is = cut_boxed (λ n. op.Block t n) (instr.Block t is) is (block_flat t is) (λ n. refl)

loop_cut : (t : Option ValueType) (is : List Instr)
    → cut_one (instr.Loop t is) ≡ op.Loop t (cut (length (cut_flat is))) ∷ cut_flat is
loop_cut t is = cut_boxed (λ n. op.Loop t n) (instr.Loop t is) is (loop_flat t is) (λ n. refl)

pub if_cut : (t : Option ValueType) (is : List Instr)
    → cut_one (instr.If t is None) ≡ op.If t (cut (length (cut_flat is))) ∷ cut_flat is
if_cut t is = cut_boxed (λ n. op.If t n) (instr.If t is None) is (if_flat t is) (λ n. refl)

pub sides_cut : (t : Option ValueType) (is others : List Instr)
    → cut_one (instr.If t is (Some others)) ≡ op.IfElse t (cut (length (cut_flat is))) (cut (length (cut_flat others)))
    ∷ (cut_flat is ++ cut_flat others)
sides_cut t is others =
    ap (map cut_op) (sides_flat t is others)
    ∙ ap (λ (ops : List Op). op.IfElse t (cut (length (flat is))) (cut (length (flat others))) ∷ ops)
    (map-append cut_op (flat is) (flat others))
    ∙ ap (λ (n : ℕ). op.IfElse t (cut n) (cut (length (flat others))) ∷ (cut_flat is ++ cut_flat others))
    (sym (length-map (flat is) cut_op))
    ∙ ap (λ (n : ℕ). op.IfElse t (cut (length (cut_flat is))) (cut n) ∷ (cut_flat is ++ cut_flat others))
    (sym (length-map (flat others) cut_op))

-- ---- the place behind these is set

set_behind : (old more : List Op) (x y : Op) → slice_set (old ++ x ∷ more) (length old) y ≡ old ++ y ∷ more
set_behind [] more x y = refl
set_behind (o ∷ old) more x y = ap (λ (r : List Op). o ∷ r) (set_behind old more x y)

so_many : (old more : List Op) (x : Op) → length (old ++ x ∷ more) - length old - 1 ≡ length more
so_many old more x = omega (arith, length-append old (x ∷ more))

-- with one block of the operations that stand behind the place
pub set_one : (f : ℕ → Op) (old more : List Op) (x : Op)
    → slice_set ((old ++ x ∷ []) ++ more) (length old) (f (length ((old ++ x ∷ []) ++ more) - length old - 1)) ≡ old
    ++ f (length more) ∷ more
set_one f old more x =
    ap (λ (ops : List Op). slice_set ops (length old) (f (length ops - length old - 1)))
    (append_assoc old (x ∷ []) more)
    ∙ ap (λ (n : ℕ). slice_set (old ++ x ∷ more) (length old) (f n)) (so_many old more x)
    ∙ set_behind old more x (f (length more))

-- ---- blocks of code: in `s` the block stands, and in `inner` what is inside

-- what is appended is one instruction with code inside, and counts of that code
abbrev pub boxing : (List Instr → Instr) → Coded → Setting → Setting → Counts → List Instr × Counts
boxing box x inner s c = (box (x inner c).0 ∷ [], (x inner c).1)

pub boxed_block : (t : Option ValueType) (x : Coded) (inner s : Setting) (d : Drafted)
    → emitted (boxing (λ is. instr.Block t is) x inner) s d
    ≡ closed_block (place_of d) t (emitted x inner (open_draft d))
unfolding emitted open_draft closed_block
boxed_block t x inner s d =
    let code : List Instr = (x inner d.counts).0 in let counts : Counts = (x inner d.counts).1 in
    ap (λ (ops : List Op). record { ops = d.ops ++ map cut_op ops; counts = counts })
    (append-nil (flat_one (instr.Block t code)))
    ∙ ap (λ (ops : List Op). record { ops = d.ops ++ ops; counts = counts }) (block_cut t code)
    ∙ ap (λ (ops : List Op). record { ops = ops; counts = counts })
    (sym (set_one (λ n. op.Block t (cut n)) d.ops (cut_flat code) op.Unreachable))

pub boxed_loop : (t : Option ValueType) (x : Coded) (inner s : Setting) (d : Drafted)
    → emitted (boxing (λ is. instr.Loop t is) x inner) s d ≡ closed_loop (place_of d) t (emitted x inner (open_draft d))
unfolding emitted open_draft closed_loop
boxed_loop t x inner s d =
    let code : List Instr = (x inner d.counts).0 in let counts : Counts = (x inner d.counts).1 in
    ap (λ (ops : List Op). record { ops = d.ops ++ map cut_op ops; counts = counts })
    (append-nil (flat_one (instr.Loop t code)))
    ∙ ap (λ (ops : List Op). record { ops = d.ops ++ ops; counts = counts }) (loop_cut t code)
    ∙ ap (λ (ops : List Op). record { ops = ops; counts = counts })
    (sym (set_one (λ n. op.Loop t (cut n)) d.ops (cut_flat code) op.Unreachable))

pub boxed_if : (t : Option ValueType) (x : Coded) (inner s : Setting) (d : Drafted)
    → emitted (boxing (λ is. instr.If t is None) x inner) s d
    ≡ closed_if (place_of d) t (emitted x inner (open_draft d))
unfolding emitted open_draft closed_if
boxed_if t x inner s d =
    let code : List Instr = (x inner d.counts).0 in let counts : Counts = (x inner d.counts).1 in
    ap (λ (ops : List Op). record { ops = d.ops ++ map cut_op ops; counts = counts })
    (append-nil (flat_one (instr.If t code None)))
    ∙ ap (λ (ops : List Op). record { ops = d.ops ++ ops; counts = counts }) (if_cut t code)
    ∙ ap (λ (ops : List Op). record { ops = ops; counts = counts })
    (sym (set_one (λ n. op.If t (cut n)) d.ops (cut_flat code) op.Unreachable))

-- ---- both sides of an if

pub set_two : (t : Option ValueType) (old first second : List Op) (x : Op)
    → slice_set (((old ++ x ∷ []) ++ first) ++ second) (length old)
    (op.IfElse t (cut (length ((old ++ x ∷ []) ++ first) - length old - 1))
    (cut (length (((old ++ x ∷ []) ++ first) ++ second) - length ((old ++ x ∷ []) ++ first))))
    ≡ old ++ op.IfElse t (cut (length first)) (cut (length second)) ∷ (first ++ second)
set_two t old first second x =
    let whole = ((old ++ x ∷ []) ++ first) ++ second in
    let mid = (old ++ x ∷ []) ++ first in
    ap (λ (n : ℕ). slice_set whole (length old) (op.IfElse t (cut n) (cut (length whole - length mid))))
    (ap (λ (ops : List Op). length ops - length old - 1) (append_assoc old (x ∷ []) first) ∙ so_many old first x)
    ∙ ap (λ (n : ℕ). slice_set whole (length old) (op.IfElse t (cut (length first)) (cut n)))
    (omega (arith, length-append mid second))
    ∙ ap (λ (ops : List Op). slice_set ops (length old) (op.IfElse t (cut (length first)) (cut (length second))))
    (append_assoc (old ++ x ∷ []) first second ∙ append_assoc old (x ∷ []) (first ++ second))
    ∙ set_behind old (first ++ second) x (op.IfElse t (cut (length first)) (cut (length second)))

-- what is appended is an if with two sides, each in a setting
abbrev pub both_sides : Option ValueType → Coded → Coded → Setting → Setting → Counts → List Instr × Counts
both_sides t x y inner s c = let first = x inner c in let second = y inner first.1 in
    (instr.If t first.0 (Some second.0) ∷ [], second.1)

pub boxed_sides : (t : Option ValueType) (x y : Coded) (inner s : Setting) (d : Drafted)
    → emitted (both_sides t x y inner) s d
    ≡ closed_if_else (place_of d) (place_of (emitted x inner (open_draft d))) t
    (emitted y inner (emitted x inner (open_draft d)))
unfolding emitted open_draft closed_if_else
boxed_sides t x y inner s d =
    let first : List Instr × Counts = x inner d.counts in let second : List Instr × Counts = y inner first.1 in
    ap (λ (ops : List Op). record { ops = d.ops ++ map cut_op ops; counts = second.1 })
    (append-nil (flat_one (instr.If t first.0 (Some second.0))))
    ∙ ap (λ (ops : List Op). record { ops = d.ops ++ ops; counts = second.1 }) (sides_cut t first.0 second.0)
    ∙ ap (λ (ops : List Op). record { ops = ops; counts = second.1 })
    (sym (set_two t d.ops (cut_flat first.0) (cut_flat second.0) op.Unreachable))

-- ---- a place beyond the end is none

set_beyond : (ops : List Op) (at : ℕ) (o : Op) → length ops ≤ at → slice_set ops at o ≡ ops
set_beyond [] at o h = refl
set_beyond (x ∷ ops) zero o h = absurd (omega (arith, h))
set_beyond (x ∷ ops) (suc at) o h = ap (λ (r : List Op). x ∷ r) (set_beyond ops at o (omega (arith, h)))

pub closed_beyond : (place left : ℕ) (t : Option ValueType) (d : Drafted) → (left < place_of d - place → ⊥)
    → closed_block (place + left) t d ≡ d
unfolding closed_block
closed_beyond place left t d h =
    ap (λ (ops : List Op). record { ops = ops; counts = d.counts })
    (set_beyond d.ops (place + left) (op.Block t (cut (length d.ops - (place + left) - 1))) (omega (arith, h)))
