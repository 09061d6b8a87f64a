-- A number that is pushed, and the numeric instruction that takes it.
use Rattle.std.proofs.Math.Logic.{∥∥₁_map}
use Rattle.std.proofs.Common.{◌≡◌, ℕ, ◌+◌, ◌%◌, ◌^◌, List, [], ◌∷◌, ◌++◌, Bool, true, false, Option, Some, refl, sym, ap, ◌∙◌, subst}
use Rattle.std.specs.Int.{w64}
use Rattle.std.specs.Option.{option_and_then, option_map}
use Rattle.wasm_tree.specs.declared.code.Op.{Op}
use Rattle.wasm_tree.specs.declared.code.Op.TheVariants as op
use Rattle.wasm_tree.specs.declared.instr.Instr.{Instr, Instr-F}
use Rattle.wasm_tree.specs.declared.instr.Instr.TheVariants as instr
use Rattle.wasm_tree.specs.declared.instr.Instr.TheVariants.{outs-Numeric}
use Rattle.wasm_tree.specs.declared.instr.Numeric.{Numeric}
use Rattle.wasm_tree.specs.declared.instr.Numeric.TheVariants as numeric
use Rattle.wasm_tree.specs.declared.instr.Operation.{Operation}
use Rattle.wasm_tree.specs.declared.instr.Relation.{Relation}
use Rattle.wasm_tree.specs.declared.module.WModule.{WModule}
use Rattle.wasm_tree.specs.declared.store.Store.{Store}
use Rattle.wasm_tree.specs.declared.store.Value.{Value}
use Rattle.wasm_tree.specs.declared.store.Value.TheVariants.{I32, I64}
use Rattle.wasm_tree.specs.Code.{tree}
use Rattle.wasm_tree.proofs.Flat.{tree_front}
use Rattle.wasm_tree.specs.Machine.{Activation, Config, Going, Progress, calculation, or_trap, push_value, run, top_i32, top_i64, two_i64}
use Rattle.wasm_tree.specs.Numbers.{compares, operation_result, truth}
use Rattle.wasm_sound.specs.Ready.{AreNumbers, IsI32, IsI64, IsReady}
use Rattle.wasm_sound.proofs.Soundness.{is_ready_to_begin}
use Rattle.law_effect.proofs.Steps.{top_32, top_64}
use Rattle.wasm_known.specs.Known.{with}
use Rattle.wasm_known.specs.declared.table.KnownFunction.{KnownFunction}
use Rattle.wasm_known.proofs.Computed.{computed, one}
use Rattle.wasm_machine.specs.Well.{IsWell}
use Rattle.wasm_machine.proofs.Ready.{lower_i32, lower_i64}
use Rattle.wasm_engine.specs.Quick.{Combined, Goes, Holds, pushing}
use Rattle.wasm_engine.proofs.WellKept.{ran}
use Rattle.wasm_engine.proofs.AtOnce.{after_some, written}

-- ---- code

pub narrow_front : (code rest : List Op) (o : Op) (n : ℕ) → code ≡ o ∷ rest → o ≡ op.I32Const n
    → tree code ≡ instr.I32Const n ∷ tree rest
narrow_front code rest o n e f = ap tree (e ∙ ap (λ (o : Op). o ∷ rest) f) ∙ tree_front (op.I32Const n) rest

pub numeric_front : (code rest : List Op) (o : Op) (n : Numeric) → code ≡ o ∷ rest → o ≡ op.Numeric n
    → tree code ≡ instr.Numeric n ∷ tree rest
numeric_front code rest o n e f = ap tree (e ∙ ap (λ (o : Op). o ∷ rest) f) ∙ tree_front (op.Numeric n) rest

pub both_front : (a b rest : List Instr) (v : Value) (o : Numeric) → a ≡ pushing v ∷ b → b ≡ instr.Numeric o ∷ rest
    → a ≡ pushing v ∷ instr.Numeric o ∷ rest
both_front a b rest v o e f = e ∙ ap (λ (l : List Instr). pushing v ∷ l) f

-- ---- operands

pub added : (s t : List Value) (n m : ℕ) → top_i32 s ≡ Some (t, n)
    → calculation numeric.I32Add (s ++ I32 m ∷ []) ≡ Some (t, I32 ((n + m) % 2 ^ 32))
added s t n m e =
    ap (λ (x : Option (List Value × ℕ)). option_and_then
    (λ (p : List Value × ℕ). option_map (λ (q : List Value × ℕ). (q.0, I32 ((q.1 + p.1) % 2 ^ 32))) (top_i32 p.0))
    x) (top_32 s m)
    ∙ ap (λ (x : Option (List Value × ℕ)). option_map (λ (q : List Value × ℕ). (q.0, I32 ((q.1 + m) % 2 ^ 32))) x) e

-- what an instruction makes of two numbers of 64 bits
abbrev of_lower : (f : ℕ → ℕ → Option Value) → (m : ℕ) → (List Value × ℕ) → Option (List Value × Value)
of_lower f m q = option_map (λ (v : Value). (q.0, v)) (f q.1 m)

abbrev of_upper : (f : ℕ → ℕ → Option Value) → (List Value × ℕ) → Option (List Value × Value)
of_upper f p = option_and_then (of_lower f p.1) (top_i64 p.0)

two_known : (f : ℕ → ℕ → Option Value) (s t : List Value) (n m : ℕ) (w : Value) → top_i64 s ≡ Some (t, n)
    → f n m ≡ Some w → two_i64 (s ++ I64 m ∷ []) f ≡ Some (t, w)
two_known f s t n m w e g =
    ap (λ (x : Option (List Value × ℕ)). option_and_then (of_upper f) x) (top_64 s m)
    ∙ ap (λ (x : Option (List Value × ℕ)). option_and_then (of_lower f m) x) e
    ∙ ap (λ (x : Option Value). option_map (λ (v : Value). (t, v)) x) g

pub made : (o : Operation) (s t : List Value) (n m k : ℕ) → top_i64 s ≡ Some (t, n) → operation_result o n m ≡ Some k
    → calculation (numeric.I64Operation o) (s ++ I64 m ∷ []) ≡ Some (t, I64 k)
made o s t n m k e f = two_known (λ n m. option_map I64 (operation_result o n m)) s t n m (I64 k) e
    (ap (λ (x : Option ℕ). option_map I64 x) f)

pub compared : (r : Relation) (s t : List Value) (n m k : ℕ) → top_i64 s ≡ Some (t, n) → k ≡ truth (compares w64 r n m)
    → calculation (numeric.I64Relation r) (s ++ I64 m ∷ []) ≡ Some (t, I32 k)
compared r s t n m k e f = two_known (λ n m. Some (I32 (truth (compares w64 r n m)))) s t n m (I32 k) e
    (ap (λ (x : ℕ). Some (I32 x)) (sym f))

-- the number below the one that is pushed
pub below_32 : (o : Numeric) (s : List Value) (m : ℕ) → ∥ AreNumbers o (s ++ I32 m ∷ []) ∥₁ → o ≡ numeric.I32Add
    → ∥ IsI32 s ∥₁
below_32 o s m h e = lower_i32 (s ++ I32 m ∷ []) s m (subst (λ (x : Numeric). ∥ AreNumbers x (s ++ I32 m ∷ []) ∥₁) e h)
    (top_32 s m)

pub below_operation : (o : Numeric) (s : List Value) (m : ℕ) (p : Operation) → ∥ AreNumbers o (s ++ I64 m ∷ []) ∥₁
    → o ≡ numeric.I64Operation p → ∥ IsI64 s ∥₁
below_operation o s m p h e = lower_i64 (s ++ I64 m ∷ []) s m
    (subst (λ (x : Numeric). ∥ AreNumbers x (s ++ I64 m ∷ []) ∥₁) e h) (top_64 s m)

pub below_relation : (o : Numeric) (s : List Value) (m : ℕ) (r : Relation) → ∥ AreNumbers o (s ++ I64 m ∷ []) ∥₁
    → o ≡ numeric.I64Relation r → ∥ IsI64 s ∥₁
below_relation o s m r h e = lower_i64 (s ++ I64 m ∷ []) s m
    (subst (λ (x : Numeric). ∥ AreNumbers x (s ++ I64 m ∷ []) ∥₁) e h) (top_64 s m)

-- ---- where both lead

module _ (modules : List WModule) (st : Store) (now : Activation) (callers : List Activation) where
  abbrev at : List Instr → List Value → Config
  at code stack = Going st (with now code stack) callers

  computed_number : (v : Value) (code : List Instr)
      → run modules 1 (at (pushing v ∷ code) now.stack) ≡ (at code (now.stack ++ v ∷ []), [])
  computed_number (I32 n) code = (computed modules 1 (at (instr.I32Const n ∷ code) now.stack)
      (at code (now.stack ++ I32 n ∷ [])) refl).path
  computed_number (I64 n) code = (computed modules 1 (at (instr.I64Const n ∷ code) now.stack)
      (at code (now.stack ++ I64 n ∷ [])) refl).path

  number_made : (v : Value) (code : List Instr) → now.rest ≡ pushing v ∷ code
      → run modules 1 (Going st now callers) ≡ (at code (now.stack ++ v ∷ []), [])
  number_made v code e =
      ap (λ (a : Activation). run modules 1 (Going st a callers))
      (sym (written modules st now callers (pushing v ∷ code) now.stack e refl)) ∙ computed_number v code

  numeric_made : (o : Numeric) (rest : List Instr) (s below : List Value) (w : Value)
      → calculation o s ≡ Some (below, w) → run modules 1 (at (instr.Numeric o ∷ rest) s)
      ≡ (at rest (below ++ w ∷ []), [])
  numeric_made o rest s below w e =
      (one modules (at (instr.Numeric o ∷ rest) s) (at rest (below ++ w ∷ []))
      (ap (λ (x : Option (List Value × Value)). or_trap x
      (λ p. push_value st (record (with now rest s) { stack = p.0 }) callers p.1)) e)).path

  module _ (v : Value) (o : Numeric) (rest : List Instr) (e : now.rest ≡ pushing v ∷ instr.Numeric o ∷ rest) where
    numbers_there : IsWell modules (Going st now callers) → AreNumbers o (now.stack ++ v ∷ [])
    numbers_there w =
        let mid = with now (instr.Numeric o ∷ rest) (now.stack ++ v ∷ []) in
        let last = subst (λ (p : Progress). IsWell modules p.0) (number_made v (instr.Numeric o ∷ rest) e)
        (ran modules 1 (Going st now callers) w) in
        subst (λ (x : Instr-F Instr). IsReady modules st (record mid { rest = rest }) x) (outs-Numeric o)
        (is_ready_to_begin modules last.valid st mid callers last.sound (instr.Numeric o) rest refl)

    pub has_numbers : (table : List (List KnownFunction)) → ∥ Holds modules table (Going st now callers) ∥₁
        → ∥ AreNumbers o (now.stack ++ v ∷ []) ∥₁
    has_numbers table h = ∥∥₁_map h (λ a. numbers_there a.well)

    pub did_both : (done : Bool) (new : List Value) → done ≡ true → Combined done o v now.stack new
        → Goes modules 2 (Going st now callers) (Going st (with now rest new) callers)
    did_both false new is h = absurd (cc is)
    did_both true new is h =
        sym (after_some modules 1 1 (Going st now callers) (at (instr.Numeric o ∷ rest) (now.stack ++ v ∷ []))
        (number_made v (instr.Numeric o ∷ rest) e)
        ∙ numeric_made o rest (now.stack ++ v ∷ []) h.0 h.1 h.2
        ∙ ap (λ (s : List Value). (at rest s, [])) (sym h.3))

-- or all is as it was
pub not_both : (done : Bool) (o : Numeric) (v : Value) (old new : List Value) → done ≡ false → Combined done o v old new
    → new ≡ old
not_both false o v old new is h = h
not_both true o v old new is h = absurd (cc is)
