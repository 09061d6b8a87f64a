-- What the checker of code knows of the operands, and what it answers.
use Rattle.std.specs.Prelude.{◌≡◌, ◌↔◌, Bool, true, false, List, [], ◌∷◌, ◌++◌, slice_get, All, Option, Some, None, Result, Ok, Err}
use Rattle.std.specs.Option.{option_map, option_and_then}
use Rattle.wasm_tree.specs.declared.fault.WFault.{WFault}
use Rattle.wasm_tree.specs.declared.fault.WFault.TheVariants.{Malformed, OutsideProfile, Invalid, Unlinked, SegmentOutside, NoMemory}
use Rattle.wasm_tree.specs.declared.kinds.ValueType.{ValueType}
use Rattle.wasm_tree.specs.declared.kinds.ValueType.TheVariants.{I32, I64}
use Rattle.wasm_tree.specs.declared.kinds.FuncType.{FuncType}
use Rattle.wasm_tree.specs.declared.instr.Instr.{Instr}
use Rattle.wasm_tree.specs.declared.instr.Instr.TheOpen as layer
use Rattle.wasm_tree.specs.Validity.{Context, within, result_types, side_of, numeric_params, numeric_result, Are, Leads}
use Rattle.wasm_valid.specs.declared.operands.Operands.{Operands}
use Rattle.wasm_valid.specs.declared.operands.Effect as rust
use Rattle.wasm_valid.specs.declared.operands.Effect.TheVariants as effects

-- ---- answers

-- a refusal: `Invalid` says this, and want of memory nothing
abbrev pub Refuses : WFault → (refusal : Type 0) → Type 0
Refuses Malformed refusal = ⊥
Refuses OutsideProfile refusal = ⊥
Refuses Invalid refusal = refusal
Refuses Unlinked refusal = ⊥
Refuses SegmentOutside refusal = ⊥
Refuses NoMemory refusal = Unit {0}

abbrev pub Settles : {A : Type 0} → Result A WFault → (fact refusal : Type 0) → Type 0
Settles (Ok x) fact refusal = fact
Settles (Err e) fact refusal = Refuses e refusal

abbrev pub Decides : {A : Type 0} → Result A WFault → Type 0 → Type 0
Decides result fact = Settles result fact (¬ fact)

-- ---- operands

-- the stacks that these known types stand for: they alone, or they above any lower ones
abbrev pub StandsFor : (any_below : Bool) → (known stack : List ValueType) → Type 0
StandsFor false known stack = stack ≡ known
StandsFor true known stack = (lower : List ValueType) × (stack ≡ lower ++ known)

abbrev pub Stands : Operands → List ValueType → Type 0
Stands o stack = StandsFor o.any_below o.known stack

-- these were taken off the top
pub record Takes (old new : Operands) (taken : List ValueType) : Type 0 where
  pub same : (stack : List ValueType) → Stands new stack ↔ Stands old (stack ++ taken)

pub record Lacks (old : Operands) (taken : List ValueType) : Type 0 where
  pub none : (stack : List ValueType) → ¬ Stands old (stack ++ taken)

abbrev pub TakesIf : Bool → (old new : Operands) → (taken : List ValueType) → Type 0
TakesIf true old new taken = Takes old new taken
TakesIf false old new taken = Lacks old taken

-- these were put on top
pub record Puts (old new : Operands) (given : List ValueType) : Type 0 where
  pub same : (stack : List ValueType)
      → Stands new stack ↔ ((below : List ValueType) × (stack ≡ below ++ given) × Stands old below)

-- ---- rules: which operands are taken and which are given

abbrev pub Applies : (rule : (params results : List ValueType) → Type 0)
    → (before after : List ValueType) → Type 0
Applies rule before after =
    (below params results : List ValueType) × rule params results × (before ≡ below ++ params)
    × (after ≡ below ++ results)

-- the rule leads from the old stacks to the new ones
pub record Moves (rule : (params results : List ValueType) → Type 0) (old new : Operands)
    : Type 0 where
  pub same : (after : List ValueType)
      → Stands new after
      ↔ ((before : List ValueType) × Stands old before × Applies rule before after)

-- it leads from none of them anywhere
pub record Halts (rule : (params results : List ValueType) → Type 0) (old : Operands) : Type 0 where
  pub none : (before after : List ValueType) → Stands old before → ¬ Applies rule before after

abbrev pub Steps : {A : Type 0} → Result A WFault
    → (rule : (params results : List ValueType) → Type 0) → (old new : Operands) → Type 0
Steps result rule old new = Settles result (Moves rule old new) (Halts rule old)

-- what an instruction does to the operands
pub data Change : Type 0 where
  Exchanges : (params results : List ValueType) → Change
  Leaves : (params : List ValueType) → Change
  Drops : Change

abbrev pub Rule : Change → (params results : List ValueType) → Type 0
Rule (Exchanges ps rs) p r = Are ps rs p r
Rule (Leaves ps) p r = (lower : List ValueType) × (p ≡ lower ++ ps)
Rule Drops p r = (t : ValueType) × Are (t ∷ []) [] p r

abbrev pub MayRule : Option Change → (params results : List ValueType) → Type 0
MayRule None p r = ⊥
MayRule (Some e) p r = Rule e p r

-- the change that an effect stands for
abbrev pub change_of : rust.Effect → Change
change_of (effects.Takes a b r) = Exchanges (result_types a ++ result_types b) (result_types r)
change_of (effects.Calls t) = Exchanges t.now.params t.now.results
change_of (effects.CallsSlot t) = Exchanges (t.now.params ++ I32 ∷ []) t.now.results
change_of (effects.Leaves a b) = Leaves (result_types a ++ result_types b)
change_of effects.Drops = Drops

abbrev pub call_change : FuncType → Change
call_change t = Exchanges t.params t.results

abbrev pub called_slot : FuncType → Change
called_slot t = Exchanges (t.params ++ I32 ∷ []) t.results

-- what an instruction does to the operands, whatever code stands inside it
abbrev pub change : Context → layer.Instr-F Instr → Option Change
change c layer.Unreachable = Some (Leaves [])
change c (layer.Block t body) = Some (Exchanges [] (result_types t))
change c (layer.Loop t body) = Some (Exchanges [] (result_types t))
change c (layer.If t body otherwise) = Some (Exchanges (I32 ∷ []) (result_types t))
change c (layer.Br l) = option_map (λ taken. Leaves taken) (slice_get c.labels l)
change c (layer.BrIf l) =
    option_map (λ (taken : List ValueType). Exchanges (taken ++ I32 ∷ []) taken)
    (slice_get c.labels l)
change c (layer.BrTable ls default) =
    option_map (λ (taken : List ValueType). Leaves (taken ++ I32 ∷ [])) (slice_get c.labels default)
change c layer.Return = Some (Leaves c.returns)
change c (layer.Call f) =
    option_and_then (λ i. option_map call_change (slice_get c.types i)) (slice_get c.functions f)
change c (layer.CallIndirect i) =
    option_and_then (λ _. option_map called_slot (slice_get c.types i)) (slice_get c.tables 0)
change c layer.Drop = Some Drops
change c (layer.LocalGet x) = option_map (λ t. Exchanges [] (t ∷ [])) (slice_get c.locals x)
change c (layer.LocalSet x) = option_map (λ t. Exchanges (t ∷ []) []) (slice_get c.locals x)
change c (layer.LocalTee x) = option_map (λ t. Exchanges (t ∷ []) (t ∷ [])) (slice_get c.locals x)
change c (layer.GlobalGet g) = option_map (λ t. Exchanges [] (t ∷ [])) (slice_get c.globals g)
change c (layer.Load kind) =
    option_map (λ _. Exchanges (I32 ∷ []) (I64 ∷ [])) (slice_get c.memories 0)
change c (layer.Store width) =
    option_map (λ _. Exchanges (I32 ∷ I64 ∷ []) []) (slice_get c.memories 0)
change c (layer.I32Const n) = Some (Exchanges [] (I32 ∷ []))
change c (layer.I64Const n) = Some (Exchanges [] (I64 ∷ []))
change c (layer.Numeric o) = Some (Exchanges (numeric_params o) (numeric_result o ∷ []))

-- the code inside an instruction fits, and all labels of a table take the same
abbrev pub CodeFits : Context → layer.Instr-F Instr → Type 0
CodeFits c (layer.Block t body) = Leads (within (result_types t) c) body [] (result_types t)
CodeFits c (layer.Loop t body) = Leads (within [] c) body [] (result_types t)
CodeFits c (layer.If t body otherwise) =
    Leads (within (result_types t) c) body [] (result_types t)
    × Leads (within (result_types t) c) (side_of otherwise) [] (result_types t)
CodeFits c (layer.BrTable ls default) =
    All (λ l. slice_get c.labels l ≡ slice_get c.labels default) ls
CodeFits c _ = Unit {0}
