-- The fixed pieces of code: checks, cells, places, operators.
use Rattle.std.proofs.Common.{◌≡◌, ℕ, zero, suc, ◌+◌, ◌*◌, ◌<◌, ◌≤◌, ◌==◌, ◌||◌, ℤ, pos, Bool, true, false, List, [], ◌∷◌, length, Some, None, Option, refl, ap, arith}
use Rattle.std.specs.Prelude.{slice_get, if◌then◌else◌}
use Rattle.std.specs.List.{list_any, position}
use Rattle.std.specs.Prelude.{nat_lt, cond}
use Rattle.std.specs.Option.{unwrap_or}
use Rattle.std.proofs.lemmas.Bool.{ltb-true}
use Rattle.wasm_tree.specs.declared.kinds.ValueType.TheVariants.{I32, I64}
use Rattle.wasm_tree.specs.declared.instr.Instr.{Instr}
use Rattle.wasm_tree.specs.declared.instr.Numeric.TheVariants as numeric
use Rattle.wasm_tree.specs.declared.instr.Operation.TheVariants.{Add, Sub, Mul, And, Or, Xor}
use Rattle.wasm_tree.specs.Validity.{Context, Leads}
use Rattle.typed_tree.specs.declared.computed.Arithmetic.{Arithmetic}
use Rattle.typed_tree.specs.declared.computed.Arithmetic.TheVariants as op
use Rattle.typed_tree.specs.declared.computed.SetOperator.{SetOperator}
use Rattle.typed_tree.specs.declared.computed.SetOperator.TheVariants as sets
use Rattle.typed_tree.specs.declared.computed.Slot.{Slot}
use Rattle.typed_tree.specs.declared.meaning.Procedure.{Procedure}
use Rattle.typed_tree.specs.declared.meaning.Variable.{Variable}
use Rattle.typed_tree.specs.declared.known_types.Types.{Types}
use Rattle.typed_tree.specs.declared.shape.Scalar.{Scalar as Range}
use Rattle.typed_tree.specs.declared.types.TypeNo.{TypeNo}
use Rattle.typed_tree.specs.declared.typed_module.Imported.{Imported}
use Rattle.typed_tree.specs.declared.typed_module.TypedModule.{TypedModule}
use Rattle.typed_tree.specs.Types.{are_same, integer}
use Rattle.typed_tree.specs.Known.{scalar_at}
use Rattle.layout_storage.specs.Types.{Ty, Scalar, Cell, Hidden, Array, Nothing, Field}
use Rattle.layout_storage.specs.Sizes.{size}
use Rattle.layout_storage.specs.Shapes.{tree}
use Rattle.def_scheme.specs.Scheme.{type_from}
use Rattle.def_scheme.specs.Coded.{Setting, raise_address, wrap_word, fault, stop, check, quotient, remainder, check_code}
use Rattle.def_scheme.specs.Cells.{load_of, lower, is_nought, unless_nought, load_scalar, store_scalar, load_tree, store_tree, load_code, store_code, word, in_range, in_type, base_of, is_free, is_subrange, check_taken, check_changed}
use Rattle.def_scheme.specs.Exprs.{import_place, is_own, base_global, slots_global, outwards, frame_code, slot_path, slot_code, kept_address, open_address, high_code, index_of, element_tree, scale_index, from_lower, element_code, open_element_code, arithmetic_code, complement, set_code, empty_code, ord_check, procedure_code, global_code, text_code}
use Rattle.law_modules.specs.WellFormed.{IsScalar, is_known, IsKnown}
use Rattle.law_modules.proofs.Cells.{is_cell, cell_of}
use Rattle.law_modules.proofs.Leading.{Stack, then_leads, above, get, glob, short, long, calc, load, store, stuck, done, invoke}
use Rattle.law_modules.proofs.Fits.{Body, Holds, labelled}

abbrev pub S : Stack
S = I32 ∷ []

abbrev pub N : Stack
N = I64 ∷ []

-- ---- choices

pub if_leads : {c : Context} {xs ys : List Instr} {s t : Stack} (q : Bool) → Leads c xs s t → Leads c ys s t
    → Leads c (if q then xs else ys) s t
if_leads true h k = h
if_leads false h k = k

pub unless_leads : {c : Context} {code : List Instr} {s : Stack} (n : ℤ) → Leads c code s s
    → Leads c (unless_nought n code) s s
unless_leads {s = s} n h = if_leads (is_nought n) (done s) h

-- ---- modules that are known have globals

bounded : (n m : ℕ) (q : Bool) → nat_lt n m ≡ q → 0 < m → unwrap_or (cond {A = Option ℕ} q (Some n) None) 0 < m
bounded n m true e some = ltb-true n m e
bounded n m false e some = some

place_below : (home : ℕ) (is : List Imported) → list_any (λ i. i.number == home) is ≡ true
    → unwrap_or (position (λ i. i.number == home) is) 0 < length is
place_below home [] h = absurd cc
place_below home (i ∷ is) h = bounded _ (length (i ∷ is)) _ refl (omega arith)

or_right : (p q : Bool) → p || q ≡ true → p ≡ false → q ≡ true
or_right p q h e = cc

-- the number of a module's global, counted by its place
global_below : (n k : ℕ) → n < k → 5 + 2 * n < 4 + 2 * k
global_below n k lt = omega (arith, lt)

module _ (b : Body) (h : Holds b) (ls : List Stack) where
  abbrev here : Context
  here = labelled b ls

  -- ---- checks

  pub checked_leads : (low high : ℤ) (k : ℕ) → Leads here (check_code low high k) N N
  checked_leads low high k = long _ (I64 ∷ [])
      (long _ (I64 ∷ I64 ∷ []) (long k (I64 ∷ I64 ∷ I64 ∷ [])
      (invoke check (type_from (I64 ∷ I64 ∷ I64 ∷ I64 ∷ []) (I64 ∷ [])) [] h.check (done N))))

  pub range_leads : (o : Option Range) (k : ℕ) → Leads here (in_range o k) N N
  range_leads None k = done N
  range_leads (Some r) k = checked_leads r.low r.high k

  pub type_leads : (types : Types) (t : TypeNo) (k : ℕ) → Leads here (in_type types t k) N N
  type_leads types t k = range_leads (scalar_at types t) k

  pub taken_leads : (types : Types) (t : TypeNo) (constant : Bool) (of : TypeNo)
      → Leads here (check_taken types t constant of) N N
  taken_leads types t constant of = if_leads (is_free types t constant of) (done N) (type_leads types t 1)

  pub changed_leads : (types : Types) (t : TypeNo) → Leads here (check_changed types t) N N
  changed_leads types t = then_leads (type_leads types (base_of types t) 2)
      (if_leads (is_subrange types t) (type_leads types t 1) (done N))

  pub fault_leads : (k : ℕ) (after : Stack) → Leads here (fault k) [] after
  fault_leads k after = long k [] (invoke stop (type_from (I64 ∷ []) []) [] h.stop (stuck [] after (done after)))

  -- ---- cells

  pub load_leads : (k : Scalar) → Leads here (load_scalar k) S N
  load_leads k = load (load_of k) [] h.memory
      (unless_leads (lower k) (long _ N (calc (numeric.I64Operation Add) [] (done N))))

  pub store_leads : (k : Scalar) → Leads here (store_scalar k) (I32 ∷ I64 ∷ []) []
  store_leads k = then_leads (above S (unless_leads (lower k) (long _ N (calc (numeric.I64Operation Sub) [] (done N)))))
      (store _ [] h.memory (done []))

  loaded_cell : (t : Ty) → is_cell t ≡ true → Leads here (load_tree t) S N
  loaded_cell (Cell k) e = load_leads k
  loaded_cell (Hidden n) e = absurd cc
  loaded_cell (Array n t) e = absurd cc
  loaded_cell Nothing e = absurd cc
  loaded_cell (Field t others) e = absurd cc

  stored_cell : (t : Ty) → is_cell t ≡ true → Leads here (store_tree t) (I32 ∷ I64 ∷ []) []
  stored_cell (Cell k) e = store_leads k
  stored_cell (Hidden n) e = absurd cc
  stored_cell (Array n t) e = absurd cc
  stored_cell Nothing e = absurd cc
  stored_cell (Field t others) e = absurd cc

  pub loaded_leads : (types : Types) (t : TypeNo) → IsScalar types t → Leads here (load_code types t) S N
  loaded_leads types t e = loaded_cell (tree types t) (cell_of types t e)

  pub stored_leads : (types : Types) (t : TypeNo) → IsScalar types t
      → Leads here (store_code types t) (I32 ∷ I64 ∷ []) []
  stored_leads types t e = stored_cell (tree types t) (cell_of types t e)

  -- ---- places

  pub raised_leads : (n : ℕ) → Leads here (raise_address n) S S
  raised_leads n = short n S (calc numeric.I32Add [] (done S))

  wrapped_leads : Leads here (wrap_word ∷ []) N S
  wrapped_leads = calc numeric.I32WrapI64 [] (done S)

  outwards_lead : (k : ℕ) → Leads here (outwards k) S S
  outwards_lead zero = done S
  outwards_lead (suc k) = load _ [] h.memory (calc numeric.I32WrapI64 [] (outwards_lead k))

  pub frame_leads : (up : ℕ) → Leads here (frame_code up) [] S
  frame_leads up = get 0 I32 [] h.frame (outwards_lead up)

  pub slot_leads : (s : Setting) (x : Slot) (path : List ℕ) → Leads here (slot_code s x path) [] S
  slot_leads s x path = then_leads (frame_leads x.up) (raised_leads (slot_path s x path))

  pub kept_leads : (s : Setting) (x : Slot) (path : List ℕ) → Leads here (kept_address s x path) [] S
  kept_leads s x path = then_leads (slot_leads s x path) (then_leads (load_leads word) wrapped_leads)

  pub open_leads : (s : Setting) (x : Slot) → Leads here (open_address s x) [] S
  open_leads s x = kept_leads s x (0 ∷ [])

  pub high_leads : (s : Setting) (x : Slot) → Leads here (high_code s x) [] N
  high_leads s x = then_leads (slot_leads s x (1 ∷ [])) (load_leads word)

  scaled_leads : (n : ℕ) → Leads here (scale_index n) (I32 ∷ I64 ∷ []) S
  scaled_leads n = long n (I32 ∷ I64 ∷ [])
      (calc (numeric.I64Operation Mul) S (calc numeric.I32WrapI64 S (calc numeric.I32Add [] (done S))))

  lower_leads : (o : Option Range) → Leads here (from_lower o) N N
  lower_leads None = done N
  lower_leads (Some r) = unless_leads r.low (long _ N (calc (numeric.I64Operation Sub) [] (done N)))

  pub element_leads : (types : Types) (t : TypeNo) → Leads here (element_code types t) (I32 ∷ I64 ∷ []) S
  element_leads types t = then_leads (above S (range_leads (index_of types t) 3))
      (then_leads (above S (lower_leads (index_of types t))) (scaled_leads (size (element_tree (tree types t)))))

  pub open_element_leads : (s : Setting) (x : Slot) (t : TypeNo)
      → Leads here (open_element_code s x t) (I32 ∷ I64 ∷ []) S
  open_element_leads s x t =
      long 0 (I32 ∷ I64 ∷ []) (then_leads (above (I32 ∷ I64 ∷ I64 ∷ []) (high_leads s x))
      (long 3 (I32 ∷ I64 ∷ I64 ∷ I64 ∷ []) (invoke check (type_from (I64 ∷ I64 ∷ I64 ∷ I64 ∷ []) (I64 ∷ [])) S h.check
      (scaled_leads (size (tree s.home.types t))))))

  pub text_leads : (n : ℕ) → Leads here (text_code n) [] S
  text_leads n = glob 2 [] (h.global 2 (omega arith)) (raised_leads n)

  -- ---- operators

  pub arithmetic_leads : (types : Types) (o : Arithmetic) (t : TypeNo)
      → Leads here (arithmetic_code types o t) (I64 ∷ I64 ∷ []) N
  arithmetic_leads types op.Add t = calc (numeric.I64Operation Add) [] (type_leads types t 2)
  arithmetic_leads types op.Subtract t = calc (numeric.I64Operation Sub) [] (type_leads types t 2)
  arithmetic_leads types op.Multiply t = calc (numeric.I64Operation Mul) [] (type_leads types t 2)
  arithmetic_leads types op.Divide t = invoke quotient (type_from (I64 ∷ I64 ∷ []) (I64 ∷ [])) [] h.quotient (done N)
  arithmetic_leads types op.Remainder t =
      invoke remainder (type_from (I64 ∷ I64 ∷ []) (I64 ∷ [])) [] h.remainder (done N)

  pub complement_leads : Leads here complement N N
  complement_leads = long 4294967295 N (calc (numeric.I64Operation Xor) [] (done N))

  pub set_leads : (o : SetOperator) → Leads here (set_code o) (I64 ∷ I64 ∷ []) N
  set_leads sets.Union = calc (numeric.I64Operation Or) [] (done N)
  set_leads sets.Intersection = calc (numeric.I64Operation And) [] (done N)
  set_leads sets.SymmetricDifference = calc (numeric.I64Operation Xor) [] (done N)
  set_leads sets.Difference = then_leads (above N complement_leads) (calc (numeric.I64Operation And) [] (done N))

  pub empty_leads : Leads here empty_code N N
  empty_leads = calc numeric.I64Eqz [] (calc numeric.I64ExtendI32U [] (done N))

  pub ord_leads : (types : Types) (t : TypeNo) → Leads here (ord_check types t) N N
  ord_leads types t = if_leads (are_same (base_of types t) integer) (checked_leads (pos 0) (pos 2147483647) 1) (done N)

  -- ---- other modules

  own_or : (m : TypedModule) (home a k : ℕ) (q : Bool) → is_own m home ≡ q → is_known m home ≡ true → a < 4 → k ≤ 5
      → m ≡ b.home → slice_get b.base.globals (if q then a else k + 2 * import_place m home) ≡ Some I32
  own_or m home a k true e known lt le same = h.global a (omega (arith, lt))
  own_or m home a k false e known lt le same =
      let i = place_below home m.imports (or_right (is_own m home) (list_any (λ i. i.number == home) m.imports) known e)
      in
      let j : length m.imports ≡ length b.home.imports = ap (λ (n : TypedModule). length n.imports) same in
      h.global (k + 2 * import_place m home) (omega (arith, i, j, le))

  pub base_there : (home : ℕ) → IsKnown b.home home → slice_get b.base.globals (base_global b.home home) ≡ Some I32
  base_there home known = own_or b.home home 1 4 (is_own b.home home) refl known (omega arith) (omega arith) refl

  pub slots_there : (home : ℕ) → IsKnown b.home home → slice_get b.base.globals (slots_global b.home home) ≡ Some I32
  slots_there home known = own_or b.home home 3 5 (is_own b.home home) refl known (omega arith) (omega arith) refl

  pub global_leads : (v : Variable) → IsKnown b.home v.home → Leads here (global_code b.home v) [] S
  global_leads v known = glob (base_global b.home v.home) [] (base_there v.home known) (raised_leads _)

  pub procedure_leads : (f : Procedure) → IsKnown b.home f.home → Leads here (procedure_code b.home f) [] N
  procedure_leads f known = glob (slots_global b.home f.home) [] (slots_there f.home known)
      (calc numeric.I64ExtendI32U [] (long _ N (calc (numeric.I64Operation Add) [] (done N))))
