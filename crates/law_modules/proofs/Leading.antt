-- Instructions in a row that are valid: what is put together of such, and one lemma for each instruction.
use Rattle.std.proofs.Common.{◌≡◌, ℕ, ◌<◌, List, [], ◌∷◌, ◌++◌, length, Some, Option, refl, sym, subst, append_assoc}
use Rattle.std.specs.Prelude.{All, slice_get}
use Rattle.std.proofs.lemmas.List.{append-nil}
use Rattle.wasm_tree.specs.declared.kinds.ValueType.TheVariants.{I32, I64}
use Rattle.wasm_tree.specs.declared.kinds.ValueType.{ValueType}
use Rattle.wasm_tree.specs.declared.kinds.FuncType.{FuncType}
use Rattle.wasm_tree.specs.declared.instr.Instr.{Instr, Instr-F, out-Instr}
use Rattle.wasm_tree.specs.declared.instr.Instr.TheOpen as layer
use Rattle.wasm_tree.specs.declared.instr.Instr.TheVariants.{Unreachable, Block, Loop, If, Br, BrIf, BrTable, Return, Call, CallIndirect, LocalGet, LocalSet, LocalTee, GlobalGet, Load, Store, I32Const, I64Const, Numeric, outs-Unreachable, outs-Block, outs-Loop, outs-If, outs-Br, outs-BrIf, outs-BrTable, outs-Return, outs-Call, outs-CallIndirect, outs-LocalGet, outs-LocalSet, outs-LocalTee, outs-GlobalGet, outs-Load, outs-Store, outs-I32Const, outs-I64Const, outs-Numeric}
use Rattle.wasm_tree.specs.declared.instr.Numeric.{Numeric as Operator}
use Rattle.wasm_tree.specs.declared.instr.Load.{Load as Loads}
use Rattle.wasm_tree.specs.declared.instr.StoreWidth.{StoreWidth}
use Rattle.wasm_tree.specs.Validity.{Context, numeric_params, numeric_result, result_types, side_of, within, IsPlain, Plain, Block as BlockTypes, Loop as LoopTypes, If as IfTypes, Leads, Empty, More}

abbrev pub Stack : Type 0
Stack = List ValueType

-- ---- one behind the other, and above what lies below

pub then_leads : {c : Context} {xs ys : List Instr} {s t u : Stack} → Leads c xs s t → Leads c ys t u
    → Leads c (xs ++ ys) s u
then_leads (Empty c s) q = q
then_leads {ys = ys} {u = u} (More c i is below params results after typed rest) q =
    More c i (is ++ ys) below params results u typed (then_leads rest q)

pub same_stacks : {c : Context} {xs : List Instr} {s s' t t' : Stack} → s ≡ s' → t ≡ t' → Leads c xs s t
    → Leads c xs s' t'
same_stacks {c = c} {xs = xs} {s' = s'} {t = t} p q h =
    subst (λ (y : Stack). Leads c xs s' y) q (subst (λ (y : Stack). Leads c xs y t) p h)

pub above : (low : Stack) {c : Context} {xs : List Instr} {s t : Stack} → Leads c xs s t
    → Leads c xs (low ++ s) (low ++ t)
above low (Empty c s) = Empty c (low ++ s)
above low (More c i is below params results after typed rest) =
    same_stacks (append_assoc low below params) refl
    (More c i is (low ++ below) params results (low ++ after) typed
    (same_stacks (sym (append_assoc low below results)) refl (above low rest)))

-- ---- instructions, above operands s

-- a function of this type stands under the number
abbrev pub Callable : Context → ℕ → FuncType → Type 0
Callable c f t = (i : ℕ) × (slice_get c.functions f ≡ Some i) × (slice_get c.types i ≡ Some t)

lead : (c : Context) (i : Instr) (x : Instr-F Instr) (is : List Instr) (below params results after : Stack)
    → out-Instr i ≡ x → IsPlain c x params results → Leads c is (below ++ results) after
    → Leads c (i ∷ is) (below ++ params) after
lead c i x is below params results after e plain rest =
    More c i is below params results after
    (Plain c i params results (subst (λ (y : Instr-F Instr). IsPlain c y params results) (sym e) plain)) rest

module _ {c : Context} where
  pub get : (x : ℕ) (t : ValueType) (s : Stack) {is : List Instr} {after : Stack} → slice_get c.locals x ≡ Some t
      → Leads c is (s ++ t ∷ []) after → Leads c (LocalGet x ∷ is) (s ++ []) after
  get x t s {is} {after} there on = lead c (LocalGet x) (layer.LocalGet x) is s [] (t ∷ []) after (outs-LocalGet x)
      (t, there, (refl, refl)) on

  pub set : (x : ℕ) (t : ValueType) (s : Stack) {is : List Instr} {after : Stack} → slice_get c.locals x ≡ Some t
      → Leads c is (s ++ []) after → Leads c (LocalSet x ∷ is) (s ++ t ∷ []) after
  set x t s {is} {after} there on = lead c (LocalSet x) (layer.LocalSet x) is s (t ∷ []) [] after (outs-LocalSet x)
      (t, there, (refl, refl)) on

  pub tee : (x : ℕ) (t : ValueType) (s : Stack) {is : List Instr} {after : Stack} → slice_get c.locals x ≡ Some t
      → Leads c is (s ++ t ∷ []) after → Leads c (LocalTee x ∷ is) (s ++ t ∷ []) after
  tee x t s {is} {after} there on = lead c (LocalTee x) (layer.LocalTee x) is s (t ∷ []) (t ∷ []) after
      (outs-LocalTee x) (t, there, (refl, refl)) on

  pub glob : (x : ℕ) (s : Stack) {is : List Instr} {after : Stack} → slice_get c.globals x ≡ Some I32
      → Leads c is (s ++ I32 ∷ []) after → Leads c (GlobalGet x ∷ is) (s ++ []) after
  glob x s {is} {after} there on = lead c (GlobalGet x) (layer.GlobalGet x) is s [] (I32 ∷ []) after (outs-GlobalGet x)
      (I32, there, (refl, refl)) on

  pub short : (n : ℕ) (s : Stack) {is : List Instr} {after : Stack} → Leads c is (s ++ I32 ∷ []) after
      → Leads c (I32Const n ∷ is) (s ++ []) after
  short n s {is} {after} on = lead c (I32Const n) (layer.I32Const n) is s [] (I32 ∷ []) after (outs-I32Const n)
      (refl, refl) on

  pub long : (n : ℕ) (s : Stack) {is : List Instr} {after : Stack} → Leads c is (s ++ I64 ∷ []) after
      → Leads c (I64Const n ∷ is) (s ++ []) after
  long n s {is} {after} on = lead c (I64Const n) (layer.I64Const n) is s [] (I64 ∷ []) after (outs-I64Const n)
      (refl, refl) on

  pub calc : (o : Operator) (s : Stack) {is : List Instr} {after : Stack}
      → Leads c is (s ++ numeric_result o ∷ []) after → Leads c (Numeric o ∷ is) (s ++ numeric_params o) after
  calc o s {is} {after} on = lead c (Numeric o) (layer.Numeric o) is s (numeric_params o) (numeric_result o ∷ []) after
      (outs-Numeric o) (refl, refl) on

  pub load : (l : Loads) (s : Stack) {is : List Instr} {after : Stack} → 0 < length c.memories
      → Leads c is (s ++ I64 ∷ []) after → Leads c (Load l ∷ is) (s ++ I32 ∷ []) after
  load l s {is} {after} memory on = lead c (Load l) (layer.Load l) is s (I32 ∷ []) (I64 ∷ []) after (outs-Load l)
      (memory, (refl, refl)) on

  pub store : (w : StoreWidth) (s : Stack) {is : List Instr} {after : Stack} → 0 < length c.memories
      → Leads c is (s ++ []) after → Leads c (Store w ∷ is) (s ++ I32 ∷ I64 ∷ []) after
  store w s {is} {after} memory on = lead c (Store w) (layer.Store w) is s (I32 ∷ I64 ∷ []) [] after (outs-Store w)
      (memory, (refl, refl)) on

  -- a branch to a label that takes nothing; behind it the stack is as one likes
  pub br : (l : ℕ) (s after : Stack) {is : List Instr} {end : Stack} → slice_get c.labels l ≡ Some []
      → Leads c is after end → Leads c (Br l ∷ is) s end
  br l s after {is} {end} there on = lead c (Br l) (layer.Br l) is [] s after end (outs-Br l)
      ([], s, there, sym (append-nil s)) on

  pub br_if : (l : ℕ) (s : Stack) {is : List Instr} {after : Stack} → slice_get c.labels l ≡ Some []
      → Leads c is (s ++ []) after → Leads c (BrIf l ∷ is) (s ++ I32 ∷ []) after
  br_if l s {is} {after} there on = lead c (BrIf l) (layer.BrIf l) is s (I32 ∷ []) [] after (outs-BrIf l)
      ([], there, (refl, refl)) on

  pub br_table : (ls : List ℕ) (l : ℕ) (after : Stack) {is : List Instr} {end : Stack} → slice_get c.labels l ≡ Some []
      → All (λ k. slice_get c.labels k ≡ Some []) ls → Leads c is after end → Leads c (BrTable ls l ∷ is) (I32 ∷ []) end
  br_table ls l after {is} {end} there all on =
      lead c (BrTable ls l) (layer.BrTable ls l) is [] (I32 ∷ []) after end (outs-BrTable ls l)
      ([], [], there, all, refl) on

  pub stuck : (s after : Stack) {is : List Instr} {end : Stack} → Leads c is after end
      → Leads c (Unreachable ∷ is) s end
  stuck s after {is} {end} on = lead c Unreachable layer.Unreachable is [] s after end outs-Unreachable tt on

  pub return : (after : Stack) {is : List Instr} {end : Stack} → Leads c is after end
      → Leads c (Return ∷ is) c.returns end
  return after {is} {end} on = lead c Return layer.Return is [] c.returns after end outs-Return ([], refl) on

  pub done : (s : Stack) → Leads c [] s s
  done s = Empty c s

  pub block : (t : Option ValueType) (s : Stack) (body : List Instr) {is : List Instr} {after : Stack}
      → Leads (within (result_types t) c) body [] (result_types t) → Leads c is (s ++ result_types t) after
      → Leads c (Block t body ∷ is) (s ++ []) after
  block t s body {is} {after} inner on = More c (Block t body) is s [] (result_types t) after
      (BlockTypes c (Block t body) t body (outs-Block t body) inner) on

  pub loop : (t : Option ValueType) (s : Stack) (body : List Instr) {is : List Instr} {after : Stack}
      → Leads (within [] c) body [] (result_types t) → Leads c is (s ++ result_types t) after
      → Leads c (Loop t body ∷ is) (s ++ []) after
  loop t s body {is} {after} inner on = More c (Loop t body) is s [] (result_types t) after
      (LoopTypes c (Loop t body) t body (outs-Loop t body) inner) on

  pub one_of : (t : Option ValueType) (s : Stack) (body : List Instr) (otherwise : Option (List Instr))
      {is : List Instr} {after : Stack} → Leads (within (result_types t) c) body [] (result_types t)
      → Leads (within (result_types t) c) (side_of otherwise) [] (result_types t)
      → Leads c is (s ++ result_types t) after
      → Leads c (If t body otherwise ∷ is) (s ++ I32 ∷ []) after
  one_of t s body otherwise {is} {after} inner other on =
      More c (If t body otherwise) is s (I32 ∷ []) (result_types t) after
      (IfTypes c (If t body otherwise) t body otherwise (outs-If t body otherwise) inner other) on

  -- ---- calls

  pub invoke : (f : ℕ) (t : FuncType) (s : Stack) {is : List Instr} {after : Stack} → Callable c f t
      → Leads c is (s ++ t.results) after → Leads c (Call f ∷ is) (s ++ t.params) after
  invoke f t s {is} {after} there on = lead c (Call f) (layer.Call f) is s t.params t.results after (outs-Call f)
      (there.0, t, there.1, there.2, (refl, refl)) on

  pub invoke_slot : (i : ℕ) (t : FuncType) (s : Stack) {is : List Instr} {after : Stack} → 0 < length c.tables
      → slice_get c.types i ≡ Some t → Leads c is (s ++ t.results) after
      → Leads c (CallIndirect i ∷ is) (s ++ (t.params ++ I32 ∷ [])) after
  invoke_slot i t s {is} {after} table there on =
      lead c (CallIndirect i) (layer.CallIndirect i) is s (t.params ++ I32 ∷ []) t.results after (outs-CallIndirect i)
      (t, table, there, (refl, refl)) on
