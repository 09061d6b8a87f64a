-- Code in a row, from the operands that are known.
use Rattle.std.proofs.Common.{◌≡◌, ◌↔◌, ◌≤◌, ℕ, suc, length, arith, Bool, false, List, [], ◌∷◌, ◌++◌, Option, Result, Ok, Err, map, refl, sym, ap, subst, ◌∙◌}
use Rattle.std.specs.Prelude.{take}
use Rattle.std.proofs.lemmas.List.{reverse-append}
use Rattle.wasm_tree.specs.declared.kinds.ValueType.{ValueType}
use Rattle.wasm_tree.specs.declared.code.Op.{Op}
use Rattle.wasm_tree.specs.declared.code.Op.TheVariants as op
use Rattle.wasm_tree.specs.declared.instr.Instr.{Instr, out-Instr}
use Rattle.wasm_tree.specs.declared.instr.Instr.TheOpen as layer
use Rattle.wasm_tree.specs.Code.{tree, head, behind}
use Rattle.wasm_tree.proofs.Flat.{tree_front, tree_none, behind_le}
use Rattle.wasm_tree.specs.Validity.{Context, Types, Leads, Empty, More, within, result_types}
use Rattle.wasm_valid.specs.declared.operands.Operands.{Operands}
use Rattle.wasm_valid.specs.declared.frame.Frame.{Frame}
use Rattle.wasm_valid.specs.Framed.{frame_context, labels_of}
use Rattle.wasm_tree.specs.declared.fault.WFault.{WFault}
use Rattle.wasm_valid.specs.Opened.{open_instruction}
use Rattle.wasm_valid.specs.Typing.{Refuses, Decides, Stands, StandsFor, Applies, Moves, Halts, MayRule, CodeFits, change}
use Rattle.wasm_valid.proofs.Stacks.{rule_same, rule_halts, refuses_so}
use Rattle.wasm_valid.proofs.Opened.{opens}
use Rattle.wasm_valid.proofs.Rules.{types_change, change_types}

-- from some stack that the operands stand for, the code leads there
abbrev pub Reaches : Context → List Instr → Operands → List ValueType → Type 0
Reaches c code o after = (stack : List ValueType) × Stands o stack × Leads c code stack after

empty_stays : (c : Context) (stack after : List ValueType) → Leads c [] stack after → stack ≡ after
empty_stays c stack after (Empty _ _) = refl

first_applies : (c : Context) (i : Instr) (is : List Instr) (before after : List ValueType)
    → Leads c (i ∷ is) before after → (stack : List ValueType) × Applies (λ p r. Types c i p r) before stack
    × Leads c is stack after
first_applies c i is before after (More _ _ _ below p r _ t h) = (below ++ r, (below, p, r, t, refl, refl), h)

applies_first : (c : Context) (i : Instr) (is : List Instr) (before stack after : List ValueType)
    → Applies (λ p r. Types c i p r) before stack → Leads c is stack after → Leads c (i ∷ is) before after
applies_first c i is before stack after a h =
    subst (λ (x : List ValueType). Leads c (i ∷ is) x after) (sym a.4)
    (More c i is a.0 a.1 a.2 after a.3 (subst (λ (x : List ValueType). Leads c is x after) a.5 h))

reaches_on : (c : Context) (i : Instr) (is : List Instr) (old new : Operands) (after : List ValueType)
    → Moves (λ p r. Types c i p r) old new → Reaches c (i ∷ is) old after ↔ Reaches c is new after
reaches_on c i is old new after m = (
  λ h.
      let f = first_applies c i is h.0 after h.2 in
      (f.0, (m.same f.0).1 (h.0, h.1, f.1), f.2),
  λ h.
      let b = (m.same h.0).0 h.1 in
      (b.0, b.1, applies_first c i is b.0 h.0 after b.2 h.2),
)

reaches_nowhere : (c : Context) (i : Instr) (is : List Instr) (old : Operands) (after : List ValueType)
    → Halts (λ p r. Types c i p r) old → ¬ Reaches c (i ∷ is) old after
reaches_nowhere c i is old after m = λ h.
    let f = first_applies c i is h.0 after h.2 in
    m.none h.0 f.0 h.1 f.1

-- what leads through all the code from nothing is what leads through the rest from these operands
pub record Onward (c : Context) (code rest : List Instr) (o : Operands) : Type 0 where
  pub same : (after : List ValueType) → Leads c code [] after ↔ Reaches c rest o after

starts_empty : (o : Operands) (stack : List ValueType) → o.known ≡ [] → o.any_below ≡ false
    → Stands o stack ↔ (stack ≡ [])
starts_empty o stack k a = (
  λ h. subst (λ (b : Bool). StandsFor b [] stack) a (subst (λ (x : List ValueType). StandsFor o.any_below x stack) k h),
  λ h. subst (λ (x : List ValueType). StandsFor o.any_below x stack) (sym k)
      (subst (λ (b : Bool). StandsFor b [] stack) (sym a) h),
)

pub onward_start : (c : Context) (code : List Instr) (o : Operands) → o.known ≡ [] → o.any_below ≡ false
    → Onward c code code o
onward_start c code o k a = record {
  same = λ after. (
    λ h. ([], (starts_empty o [] k a).1 refl, h),
    λ h. subst (λ (x : List ValueType). Leads c code x after) ((starts_empty o h.0 k a).0 h.1) h.2,
  );
}

cut : (rest : List Op) (o : Op) (others : List Op) → rest ≡ o ∷ others
    → tree rest ≡ head tree o others ∷ tree (behind o others)
cut rest o others e = ap tree e ∙ tree_front o others

-- the instruction is typed by its change, where the code inside it fits
moves_typed : (c : Context) (i : Instr) (old new : Operands) → CodeFits c (out-Instr i)
    → Moves (λ p r. MayRule (change c (out-Instr i)) p r) old new → Moves (λ p r. Types c i p r) old new
moves_typed c i old new f m = rule_same (λ p r. MayRule (change c (out-Instr i)) p r) (λ p r. Types c i p r) old new
    (λ p r h. change_types c i p r f h) (λ p r h. (types_change c i p r h).1) m

halts_typed : (c : Context) (i : Instr) (old : Operands) → Halts (λ p r. MayRule (change c (out-Instr i)) p r) old
    → Halts (λ p r. Types c i p r) old
halts_typed c i old m = rule_halts (λ p r. MayRule (change c (out-Instr i)) p r) (λ p r. Types c i p r) old
    (λ p r h. (types_change c i p r h).1) m

halts_unfit : (c : Context) (i : Instr) (old : Operands) → ¬ CodeFits c (out-Instr i) → Halts (λ p r. Types c i p r) old
halts_unfit c i old f = record { none = λ before after s a. f (types_change c i a.1 a.2 a.3).0 }

pub onward_more : (c : Context) (code : List Instr) (i : Instr) (is : List Instr) (old new : Operands)
    → CodeFits c (out-Instr i) → Moves (λ p r. MayRule (change c (out-Instr i)) p r) old new
    → Onward c code (i ∷ is) old → Onward c code is new
onward_more c code i is old new f m o = record {
  same = λ after.
      let on = reaches_on c i is old new after (moves_typed c i old new f m) in
      (λ h. on.0 ((o.same after).0 h), λ h. (o.same after).1 (on.1 h));
}

pub onward_unfit : (c : Context) (code : List Instr) (i : Instr) (is : List Instr) (o : Operands)
    (after : List ValueType) → Onward c code (i ∷ is) o → ¬ CodeFits c (out-Instr i) → ¬ Leads c code [] after
onward_unfit c code i is o after on f = λ h. reaches_nowhere c i is o after (halts_unfit c i o f) ((on.same after).0 h)

pub onward_halts : (c : Context) (code : List Instr) (i : Instr) (is : List Instr) (o : Operands)
    (after : List ValueType) → Onward c code (i ∷ is) o → Halts (λ p r. MayRule (change c (out-Instr i)) p r) o
    → ¬ Leads c code [] after
onward_halts c code i is o after on m = λ h. reaches_nowhere c i is o after (halts_typed c i o m) ((on.same after).0 h)

pub onward_end : (c : Context) (code : List Instr) (o : Operands) (after : List ValueType) → Onward c code [] o
    → Leads c code [] after ↔ Stands o after
onward_end c code o after on = (
  λ h.
      let r = (on.same after).0 h in
      subst (λ (x : List ValueType). Stands o x) (empty_stays c r.0 after r.2) r.1,
  λ h. (on.same after).1 (after, h, Empty c after),
)

-- within a block
labels_push : (blocks : List (Option ValueType)) (t : Option ValueType)
    → labels_of (blocks ++ t ∷ []) ≡ result_types t ∷ labels_of blocks
labels_push blocks t = ap (λ (x : List (Option ValueType)). map result_types x) (reverse-append blocks (t ∷ []))

pub context_within : (f : Frame) (blocks : List (Option ValueType)) (t : Option ValueType)
    → frame_context f (blocks ++ t ∷ []) ≡ within (result_types t) (frame_context f blocks)
context_within f blocks t = ap (λ (x : List (List ValueType)). record (frame_context f blocks) { labels = x })
    (labels_push blocks t)

-- ---- the loop over code, under blocks that stay the same

-- what is left of the code, with its first opened
fronted : (c : Context) (code : List Instr) (rest : List Op) (o : Op) (others : List Op) (old : Operands)
    → rest ≡ o ∷ others → Onward c code (tree rest) old
    → Onward c code (head tree o others ∷ tree (behind o others)) old
fronted c code rest o others old e on = subst (λ (x : List Instr). Onward c code x old) (cut rest o others e) on

pub exit_unfit : (f : Frame) (whole blocks : List (Option ValueType)) (code : List Instr) (rest : List Op) (o : Op)
    (others : List Op) (old : Operands) (after : List ValueType) (e : WFault) → blocks ≡ whole → rest ≡ o ∷ others
    → Onward (frame_context f whole) code (tree rest) old
    → Refuses e (¬ CodeFits (frame_context f blocks) (open_instruction o others))
    → Refuses e (¬ Leads (frame_context f whole) code [] after)
exit_unfit f whole blocks code rest o others old after e same is on h =
    let here = subst (λ (b : List (Option ValueType)). Refuses e
    (¬ CodeFits (frame_context f b) (open_instruction o others))) same h in
    let c = frame_context f whole in
    let front = fronted c code rest o others old is on in
    refuses_so e (¬ CodeFits c (open_instruction o others)) (¬ Leads c code [] after)
    (λ n. onward_unfit c code (head tree o others) (tree (behind o others)) old after front
    (subst (λ (x : layer.Instr-F Instr). ¬ CodeFits c x) (sym (opens o others)) n)) here

pub exit_halts : (f : Frame) (whole blocks : List (Option ValueType)) (code : List Instr) (rest : List Op) (o : Op)
    (others : List Op) (old : Operands) (after : List ValueType) (e : WFault) → blocks ≡ whole → rest ≡ o ∷ others
    → Onward (frame_context f whole) code (tree rest) old
    → Refuses e (Halts (MayRule (change (frame_context f blocks) (open_instruction o others))) old)
    → Refuses e (¬ Leads (frame_context f whole) code [] after)
exit_halts f whole blocks code rest o others old after e same is on h =
    let here = subst (λ (b : List (Option ValueType)). Refuses e
    (Halts (MayRule (change (frame_context f b) (open_instruction o others))) old)) same h in
    let c = frame_context f whole in
    let front = fronted c code rest o others old is on in
    refuses_so e (Halts (MayRule (change c (open_instruction o others))) old) (¬ Leads c code [] after)
    (λ n. onward_halts c code (head tree o others) (tree (behind o others)) old after front
    (subst (λ (x : layer.Instr-F Instr). Halts (MayRule (change c x)) old) (sym (opens o others)) n)) here

pub goes_on : (f : Frame) (whole blocks later : List (Option ValueType)) (code : List Instr) (rest : List Op) (o : Op)
    (others next : List Op) (old new : Operands) → blocks ≡ whole → later ≡ whole → rest ≡ o ∷ others
    → next ≡ behind o others → CodeFits (frame_context f blocks) (open_instruction o others)
    → Moves (MayRule (change (frame_context f later) (open_instruction o others))) old new
    → Onward (frame_context f whole) code (tree rest) old → Onward (frame_context f whole) code (tree next) new
goes_on f whole blocks later code rest o others next old new same also is n fits moves on =
    let c = frame_context f whole in
    let opens_so = sym (opens o others) in
    subst (λ (x : List Op). Onward c code (tree x) new) (sym n)
    (onward_more c code (head tree o others) (tree (behind o others)) old new
    (subst (λ (x : layer.Instr-F Instr). CodeFits c x) opens_so
    (subst (λ (b : List (Option ValueType)). CodeFits (frame_context f b) (open_instruction o others)) same fits))
    (subst (λ (x : layer.Instr-F Instr). Moves (MayRule (change c x)) old new) opens_so
    (subst (λ (b : List (Option ValueType)). Moves
    (MayRule (change (frame_context f b) (open_instruction o others))) old new) also moves))
    (fronted c code rest o others old is on))

pub decides_same : {A : Type 0} (result : Result A WFault) (P Q : Type 0) → P ↔ Q → Decides result P → Decides result Q
decides_same (Ok x) P Q f h = f.0 h
decides_same (Err e) P Q f h = refuses_so e (¬ P) (¬ Q) (λ n q. n (f.1 q)) h

pub decides_end : {A : Type 0} (result : Result A WFault) (c : Context) (code : List Instr) (rest : List Op)
    (o : Operands) (after : List ValueType) → rest ≡ [] → Onward c code (tree rest) o → Decides result (Stands o after)
    → Decides result (Leads c code [] after)
decides_end result c code rest o after none on h =
    let at = subst (λ (x : List Instr). Onward c code x o) (ap tree none ∙ tree_none) on in
    let e = onward_end c code o after at in
    decides_same result (Stands o after) (Leads c code [] after) (e.1, e.0) h

-- an if without a second side
pub fits_if : {A : Type 0} (result : Result A WFault) (f : Frame) (whole blocks : List (Option ValueType)) (o : Op)
    (t : Option ValueType) (n : ℕ) (rest inner : List Op) → o ≡ op.If t n → inner ≡ take n rest → blocks ≡ whole
    → Leads (within (result_types t) (frame_context f whole)) (tree inner) [] (result_types t)
    → Decides result (Leads (within (result_types t) (frame_context f blocks)) (tree []) [] (result_types t))
    → Decides result (CodeFits (frame_context f whole) (open_instruction o rest))
fits_if {A} result f whole blocks o t n rest inner is front same first h =
    let c = within (result_types t) (frame_context f whole) in
    let code = tree (take n rest) in
    let one = subst (λ (x : List Op). Leads c (tree x) [] (result_types t)) front first in
    let here = subst (λ (x : List (Option ValueType)). Decides result
    (Leads (within (result_types t) (frame_context f x)) (tree []) [] (result_types t))) same h in
    let other = subst (λ (x : List Instr). Decides result (Leads c x [] (result_types t))) tree_none here in
    subst (λ (x : Op). Decides result (CodeFits (frame_context f whole) (open_instruction x rest))) (sym is)
    (decides_same result (Leads c [] [] (result_types t))
    (CodeFits (frame_context f whole) (open_instruction (op.If t n) rest)) (λ x. (one, x), λ x. x.1) other)

-- what is left is no longer than the code
pub shorter : (code rest : List Op) (o : Op) (others next : List Op) → rest ≡ o ∷ others → next ≡ behind o others
    → length rest ≤ length code → length next ≤ length code
shorter code rest o others next e n h =
    let lengths : length rest ≡ suc (length others) = ap (λ (x : List Op). length x) e in
    let below : length others ≤ length code = omega (arith, lengths, h) in
    subst (λ (x : List Op). length x ≤ length code) (sym n) (behind_le (length code) o others below)
