-- The functions of a module are valid: helpers, procedures, and the body.
use Rattle.std.proofs.Common.{◌≡◌, ℕ, zero, suc, ◌+◌, ◌<◌, ◌≤◌, Bool, true, false, List, [], ◌∷◌, ◌++◌, length, Some, None, refl, ap, subst, ◌∙◌, arith}
use Rattle.std.specs.Prelude.{slice_get, replicate, if◌then◌else◌, nat_lt}
use Rattle.std.proofs.lemmas.List.{length-replicate}
use Rattle.wasm_tree.specs.declared.kinds.ValueType.TheVariants.{I32, I64}
use Rattle.wasm_tree.specs.declared.kinds.ValueType.{ValueType}
use Rattle.wasm_tree.specs.declared.kinds.FuncType.{FuncType}
use Rattle.wasm_tree.specs.declared.instr.Instr.{Instr}
use Rattle.wasm_tree.specs.declared.instr.Instr.TheVariants.{Block, Loop, Call, LocalGet, LocalSet, Store, Unreachable, I32Const, Numeric}
use Rattle.wasm_tree.specs.declared.instr.Numeric.TheVariants as numeric
use Rattle.wasm_tree.specs.declared.instr.Operation.TheVariants.{Add, Sub, Mul, DivS, RemS}
use Rattle.wasm_tree.specs.declared.instr.Relation.TheVariants.{LtS, GtS, GtU}
use Rattle.wasm_tree.specs.declared.instr.StoreWidth.TheVariants as width
use Rattle.wasm_tree.specs.declared.module.Locals.{Locals}
use Rattle.wasm_tree.specs.Validity.{Context, function_context, local_types, Leads, IsFunction}
use Rattle.typed_tree.specs.declared.known_types.Types.{Types}
use Rattle.typed_tree.specs.declared.shape.Formal.{Formal}
use Rattle.typed_tree.specs.declared.statement.TypedStmt.{TypedStmt}
use Rattle.typed_tree.specs.declared.typed_module.Routine.{Routine}
use Rattle.typed_tree.specs.declared.typed_module.Which.{Which}
use Rattle.typed_tree.specs.declared.typed_module.TypedModule.{TypedModule}
use Rattle.layout_storage.specs.Types.{Ty, Cell, Hidden, Array, Nothing, Field, frame_of}
use Rattle.layout_storage.specs.Sizes.{size, offset}
use Rattle.layout_storage.specs.Shapes.{tree}
use Rattle.layout_storage.specs.Frames.{formals_of, frame}
use Rattle.layout_storage.specs.Texts.{characters, routines_texts, texts_before}
use Rattle.def_scheme.specs.Scheme.{type_from}
use Rattle.def_scheme.specs.Coded.{Counts, wrap_word, extend_word, copy, fill, fault}
use Rattle.def_scheme.specs.Cells.{word}
use Rattle.def_scheme.specs.Exprs.{arguments_of, all_arguments, has_result}
use Rattle.def_scheme.specs.Steps.{body_code}
use Rattle.def_scheme.specs.Addresses.{addresses_in}
use Rattle.def_scheme.specs.Signatures.{signature, signatures_needed, so_many, results_of, type_of, of_routine}
use Rattle.def_scheme.specs.Functions.{frames_around, link_arguments, numbers_of, limit_check, enter_code, formal_address, word_kept, value_kept, bytes_code, open_copied, formals_kept, prologue, from_text, locals_of, end_code, function_code, routine_function, module_function}
use Rattle.def_scheme.specs.Helpers.{copy_turn, copy_code, fill_turn, fill_code, check_tests, check_code, divisor_checked, div_rest, mod_rest}
use Rattle.def_scheme.specs.Modules.{helper, mod_function, numbering_of}
use Rattle.law_modules.specs.WellFormed.{IsBody, IsWellFormed}
use Rattle.law_modules.proofs.Leading.{Stack, then_leads, above, get, set, tee, glob, short, long, calc, load, store, br, br_if, stuck, block, loop, one_of, done, invoke}
use Rattle.law_modules.proofs.Fits.{Body, Holds, Suits, Fits, labelled, IsNumber, IsAddress}
use Rattle.law_modules.proofs.Parts.{S, N, fault_leads, raised_leads, store_leads}
use Rattle.law_modules.proofs.Exprs.{open_count}
use Rattle.law_modules.proofs.Statements.{stmts_valid}
use Rattle.law_modules.proofs.Own.{own, append_at, front_at, Within, tables_count, memories_count, globals_are, put_at, stop_at, copy_at, fill_at, check_at, quotient_at, remainder_at, typed_in, own_at, nested_at, routine_signature, routine_known, body_known, module_known}

-- ---- locals

numbers_length : (n : ℕ) → length (so_many n) ≡ n
numbers_length zero = refl
numbers_length (suc n) = ap suc (numbers_length n)

number_in : (n k : ℕ) → k < n → slice_get (so_many n) k ≡ Some I64
number_in zero k lt = absurd (omega (arith, lt))
number_in (suc n) zero lt = refl
number_in (suc n) (suc k) lt = number_in n k (omega (arith, lt))

replicated : (t : ValueType) (n k : ℕ) → k < n → slice_get (replicate n t) k ≡ Some t
replicated t zero k lt = absurd (omega (arith, lt))
replicated t (suc n) zero lt = refl
replicated t (suc n) (suc k) lt = replicated t n k (omega (arith, lt))

-- so many for addresses, and so many for numbers
abbrev groups : (addresses numbers : ℕ) → List Locals
groups a k = record { count = 2 + a; value_type = I32 } ∷ record { count = k; value_type = I64 } ∷ []

abbrev all_locals : (n a k : ℕ) → List ValueType
all_locals n a k = (I32 ∷ so_many n) ++ local_types (groups a k)

declared_at : (n a k i : ℕ) → slice_get (all_locals n a k) (suc n + i) ≡ slice_get (local_types (groups a k)) i
declared_at n a k i =
    let e : suc n + i ≡ length (I32 ∷ so_many n) + i = omega (arith, numbers_length n) in
    ap (λ (j : ℕ). slice_get (all_locals n a k) j) e ∙ append_at (I32 ∷ so_many n) (local_types (groups a k)) i

address_at : (n a k i : ℕ) → i < 2 + a → slice_get (all_locals n a k) (suc n + i) ≡ Some I32
address_at n a k i lt = declared_at n a k i
    ∙ front_at (replicate (2 + a) I32) (replicate k I64 ++ []) i I32 (replicated I32 (2 + a) i lt)

number_at : (n a k i : ℕ) → i < k → slice_get (all_locals n a k) (suc n + (2 + (a + i))) ≡ Some I64
number_at n a k i lt =
    let e : 2 + (a + i) ≡ length (replicate (2 + a) I32) + i = omega (arith, length-replicate (2 + a) I32) in
    declared_at n a k (2 + (a + i)) ∙ ap (λ (j : ℕ). slice_get (local_types (groups a k)) j) e
    ∙ append_at (replicate (2 + a) I32) (replicate k I64 ++ []) i
    ∙ front_at (replicate k I64) [] i I64 (replicated I64 k i lt)

param_at : (n a k i : ℕ) → 1 ≤ i → i < suc n → slice_get (all_locals n a k) i ≡ Some I64
param_at n a k zero le lt = absurd (omega (arith, le))
param_at n a k (suc i) le lt = front_at (so_many n) (local_types (groups a k)) i I64 (number_in n i (omega (arith, lt)))

-- ---- a function with its locals

module _ (m : TypedModule) where
  abbrev made : (n : ℕ) (gives : Bool) (frames : List Ty) (a k : ℕ) → Body
  made n gives frames a k = record {
    home = m;
    numbered = numbering_of m;
    known = signatures_needed m;
    frames = frames;
    arguments = suc n;
    addresses = a;
    numbers = k;
    gives = gives;
    base = function_context (own m) (type_of (signature n gives)) (groups a k);
  }

  made_holds : IsWellFormed m → (n : ℕ) (gives : Bool) (frames : List Ty) (a k : ℕ) → Holds (made n gives frames a k)
  made_holds wf n gives frames a k = record {
    memory = omega (arith, memories_count m);
    table = omega (arith, tables_count m);
    put = put_at m;
    stop = stop_at m;
    copy = copy_at m;
    fill = fill_at m;
    check = check_at m;
    quotient = quotient_at m;
    remainder = remainder_at m;
    global = globals_are m;
    procedure = own_at m wf;
    nested = nested_at m wf;
    typed = typed_in m;
    frame = refl;
    top = (let e : suc n ≡ suc n + 0 = omega arith in
        ap (λ (j : ℕ). slice_get (all_locals n a k) j) e ∙ address_at n a k 0 (omega arith));
    address = λ i lt. address_at n a k (2 + i) (omega (arith, lt));
    number = λ i lt. number_at n a k i lt;
    returns = refl;
  }

-- ---- the prologue

module _ (b : Body) (h : Holds b) (params : (i : ℕ) → 1 ≤ i → i < b.arguments → IsNumber b i)
    (copied : IsAddress b (suc b.arguments)) (ls : List Stack) where
  abbrev here : Context
  here = labelled b ls

  limit_leads : Leads here limit_check S []
  limit_leads = glob 0 S (h.global 0 (omega arith))
      (calc (numeric.I32Relation GtU) [] (one_of None [] (fault 8) None (fault_leads b h ([] ∷ ls) 8 []) (done [])
      (done [])))

  enter_leads : (bytes : ℕ) → Leads here (enter_code b.arguments bytes) [] []
  enter_leads bytes =
      get 0 I32 [] h.frame (then_leads (raised_leads b h ls bytes) (tee b.arguments I32 [] h.top (then_leads limit_leads
      (get 0 I32 [] h.frame (short bytes S (invoke fill (type_from (I32 ∷ I32 ∷ []) []) [] h.fill (done [])))))))

  formal_leads : (f : Ty) (v : ℕ) (path : List ℕ) → Leads here (formal_address f v path) [] S
  formal_leads f v path = get 0 I32 [] h.frame (raised_leads b h ls (offset f (suc v ∷ path)))

  word_leads : (f : Ty) (v : ℕ) (path : List ℕ) (value : List Instr) → Leads here value [] N
      → Leads here (word_kept f v path value) [] []
  word_leads f v path value k = then_leads (formal_leads f v path) (then_leads (above S k) (store_leads b h ls word))

  param_leads : (i : ℕ) → 1 ≤ i → i < b.arguments → Leads here (LocalGet i ∷ []) [] N
  param_leads i le lt = get i I64 [] (params i le lt) (done N)

  copied_leads : (x n : ℕ) → 1 ≤ x → x < b.arguments
      → Leads here (LocalGet x ∷ wrap_word ∷ I32Const n ∷ Call copy ∷ []) S []
  copied_leads x n le lt = get x I64 S (params x le lt)
      (calc numeric.I32WrapI64 S (short n (I32 ∷ I32 ∷ [])
      (invoke copy (type_from (I32 ∷ I32 ∷ I32 ∷ []) []) [] h.copy (done []))))

  value_leads : (f : Ty) (v x : ℕ) → 1 ≤ x → x < b.arguments → (t : Ty) → Leads here (value_kept f v x t) [] []
  value_leads f v x le lt (Cell c) = then_leads (formal_leads f v [])
      (get x I64 S (params x le lt) (store_leads b h ls c))
  value_leads f v x le lt (Hidden n) = then_leads (formal_leads f v []) (copied_leads x (size (Hidden n)) le lt)
  value_leads f v x le lt (Array n t) = then_leads (formal_leads f v []) (copied_leads x (size (Array n t)) le lt)
  value_leads f v x le lt Nothing = then_leads (formal_leads f v []) (copied_leads x (size Nothing) le lt)
  value_leads f v x le lt (Field t u) = then_leads (formal_leads f v []) (copied_leads x (size (Field t u)) le lt)

  bytes_leads : (i n : ℕ) → 1 ≤ i → i < b.arguments → Leads here (bytes_code i n) [] S
  bytes_leads i n le lt = get i I64 [] (params i le lt)
      (long 1 N (calc (numeric.I64Operation Add) []
      (long n N (calc (numeric.I64Operation Mul) [] (calc numeric.I32WrapI64 [] (done S))))))

  both_kept : (f : Ty) (v x : ℕ) (value : List Instr) → suc x < b.arguments → Leads here value [] N
      → Leads here (word_kept f v (0 ∷ []) value ++ word_kept f v (1 ∷ []) (LocalGet (suc x) ∷ [])) [] []
  both_kept f v x value lt k = then_leads (word_leads f v (0 ∷ []) value k)
      (word_leads f v (1 ∷ []) (LocalGet (suc x) ∷ []) (param_leads (suc x) (omega arith) lt))

  open_copy_leads : (f : Ty) (v x n : ℕ) → 1 ≤ x → suc x < b.arguments
      → Leads here (open_copied b.arguments (suc b.arguments) f v x n) [] []
  open_copy_leads f v x n le lt =
      get b.arguments I32 [] h.top (set (suc b.arguments) I32 [] copied
      (get b.arguments I32 [] h.top (then_leads (above S (bytes_leads (suc x) n (omega arith) lt))
      (calc numeric.I32Add [] (tee b.arguments I32 [] h.top (then_leads limit_leads
      (get (suc b.arguments) I32 [] copied (get x I64 S (params x le (omega (arith, lt)))
      (calc numeric.I32WrapI64 S (then_leads (above (I32 ∷ I32 ∷ []) (bytes_leads (suc x) n (omega arith) lt))
      (invoke copy (type_from (I32 ∷ I32 ∷ I32 ∷ []) []) [] h.copy
      (both_kept f v x (LocalGet (suc b.arguments) ∷ extend_word ∷ []) lt
      (get (suc b.arguments) I32 [] copied (calc numeric.I64ExtendI32U [] (done N)))))))))))))))

  formal_case : (types : Types) (f : Ty) (v x : ℕ) (of : Ty) (open_array var : Bool) → 1 ≤ x
      → x + open_count b h 0 false open_array ≤ b.arguments
      → Leads here (if open_array then (if var then word_kept f v (0 ∷ []) (LocalGet x ∷ [])
      ++ word_kept f v (1 ∷ []) (LocalGet (suc x) ∷ []) else open_copied b.arguments (suc b.arguments) f v x
      (size of))
      else (if var then word_kept f v [] (LocalGet x ∷ []) else value_kept f v x of)) [] []
  formal_case types f v x of true true le most =
      both_kept f v x (LocalGet x ∷ []) (omega (arith, most)) (param_leads x le (omega (arith, most)))
  formal_case types f v x of true false le most = open_copy_leads f v x (size of) le (omega (arith, most))
  formal_case types f v x of false true le most =
      word_leads f v [] (LocalGet x ∷ []) (param_leads x le (omega (arith, most)))
  formal_case types f v x of false false le most = value_leads f v x le (omega (arith, most)) of

  formals_lead : (types : Types) (f : Ty) (v x : ℕ) (fs : List Formal) → 1 ≤ x → x + all_arguments fs ≤ b.arguments
      → Leads here (formals_kept types b.arguments (suc b.arguments) f v x fs) [] []
  formals_lead types f v x [] le most = done []
  formals_lead types f v x (a ∷ others) le most =
      then_leads (formal_case types f v x (tree types a.of) a.is_open a.is_var le (omega (arith, most)))
      (formals_lead types f (suc v) (x + arguments_of a) others (omega (arith, le)) (omega (arith, most)))

  link_leads : (r : Routine) (q : Bool) → nat_lt 1 r.level ≡ q → link_arguments r < b.arguments
      → Leads here (if q then LocalGet 0 ∷ LocalGet 1 ∷ Store width.Eight ∷ [] else []) [] []
  link_leads r true e lt =
      let one : link_arguments r ≡ 1 = ap (λ (q : Bool). if q then 1 else 0) e in
      get 0 I32 [] h.frame (get 1 I64 S (params 1 (omega arith) (omega (arith, lt, one)))
      (store _ [] h.memory (done [])))
  link_leads r false e lt = done []

  prologue_leads : (types : Types) (r : Routine) (q : Bool) → nat_lt 1 r.level ≡ q
      → suc (numbers_of types r) ≡ b.arguments → (f : Ty)
      → Leads here (enter_code b.arguments (size f)
      ++ ((if q then LocalGet 0 ∷ LocalGet 1 ∷ Store width.Eight ∷ [] else [])
      ++ formals_kept types b.arguments (suc b.arguments) f 0 (suc (link_arguments r))
      (formals_of types r.heading))) [] []
  prologue_leads types r q e count f =
      then_leads (enter_leads (size f)) (then_leads (link_leads r q e (omega (arith, count)))
      (formals_lead types f 0 (suc (link_arguments r)) (formals_of types r.heading) (omega arith)
      (omega (arith, count))))

-- ---- functions

end_leads : (b : Body) → Holds b → (ls : List Stack) (r : Bool) → Leads (labelled b ls) (end_code r) [] (results_of r)
end_leads b h ls true = fault_leads b h ls 6 N
end_leads b h ls false = done []

module _ (m : TypedModule) (wf : IsWellFormed m) where
  -- the code of a body, between what stands before and behind it
  body_leads : (n : ℕ) (gives : Bool) (frames : List Ty) (text : ℕ) (body : List TypedStmt) (before after : List Instr)
      → Fits (made m n gives frames (addresses_in body)
      (function_code (numbering_of m) m frames (suc n) text body).1.numbers) (Unit {0}) 0 false (λ e. e) 0
      (body_code (numbering_of m) body) (addresses_in body) [] []
      → ((ls : List Stack) → Leads (labelled
      (made m n gives frames (addresses_in body)
      (function_code (numbering_of m) m frames (suc n) text body).1.numbers) ls) before [] [])
      → ((ls : List Stack) → Leads (labelled
      (made m n gives frames (addresses_in body)
      (function_code (numbering_of m) m frames (suc n) text body).1.numbers) ls) after [] (results_of gives))
      → Leads (function_context (own m) (type_of (signature n gives))
      (locals_of (function_code (numbering_of m) m frames (suc n) text body).1))
      (before ++ ((function_code (numbering_of m) m frames (suc n) text body).0 ++ after)) [] (results_of gives)
  body_leads n gives frames text body before after fit first last =
      let x : List Instr × Counts = function_code (numbering_of m) m frames (suc n) text body in
      let b : Body = made m n gives frames (addresses_in body) x.1.numbers in
      let count : x.1.addresses ≡ 0 + addresses_in body = fit.addresses 0 [] (from_text text) in
      let same : addresses_in body ≡ x.1.addresses = omega (arith, count) in
      let suits : Suits b 0 false 0 [] (results_of gives ∷ []) =
      record { count = refl; opened = λ k lt. absurd (omega (arith, lt)); exit = λ e. absurd cc } in
      let inner : Leads (labelled b (results_of gives ∷ [])) x.0 [] [] =
      fit.leads tt 0 [] (from_text text) (results_of gives ∷ []) suits (omega arith) (omega arith) in
      subst (λ (a : ℕ). Leads (function_context (own m) (type_of (signature n gives)) (groups a x.1.numbers))
      (before ++ (x.0 ++ after)) [] (results_of gives)) same
      (then_leads (first (results_of gives ∷ [])) (then_leads inner (last (results_of gives ∷ []))))

  pub routine_valid : (w : Which) (r : Routine) → Within (signatures_needed m) (of_routine m r) → IsBody m r
      → IsFunction (own m) (routine_function (numbering_of m) m w r)
  routine_valid w r known wb =
      let n : ℕ = numbers_of m.types r in
      let gives : Bool = has_result m.types r.heading in
      let frames : List Ty = frame m.types r ∷ frames_around m r.level r.around in
      let text : ℕ = characters (texts_before m w m.order) in
      let k : ℕ = (function_code (numbering_of m) m frames (suc n) text r.body).1.numbers in
      let a : ℕ = addresses_in r.body in
      let b : Body = made m n gives frames a k in
      let h : Holds b = made_holds m wf n gives frames a k in
      let copied : IsAddress b (suc (suc n)) =
      (let e : suc (suc n) ≡ suc n + 1 = omega arith in
      ap (λ (j : ℕ). slice_get (all_locals n a k) j) e ∙ address_at n a k 1 (omega arith)) in (
        type_of (routine_signature m r),
        typed_in m (routine_signature m r) (routine_known m r known),
        body_leads n gives frames text r.body (prologue m.types r (suc n) (suc (suc n))) (end_code gives)
            (stmts_valid b h 0 false r.body wb.body (body_known m r known))
            (λ ls. prologue_leads b h (λ i le lt. param_at n a k i le lt) copied ls m.types r (nat_lt 1 r.level) refl
            refl (frame m.types r)) (λ ls. end_leads b h ls gives),
      )

  -- its code keeps so many addresses in locals
  pub routine_addresses : (text : ℕ) (r : Routine) → Within (signatures_needed m) (of_routine m r) → IsBody m r
      → (function_code (numbering_of m) m (frame m.types r ∷ frames_around m r.level r.around)
      (suc (numbers_of m.types r)) text r.body).1.addresses ≡ addresses_in r.body
  routine_addresses text r known wb =
      let n : ℕ = numbers_of m.types r in
      let gives : Bool = has_result m.types r.heading in
      let frames : List Ty = frame m.types r ∷ frames_around m r.level r.around in
      let b : Body = made m n gives frames (addresses_in r.body)
      (function_code (numbering_of m) m frames (suc n) text r.body).1.numbers in
      let h : Holds b = made_holds m wf n gives frames (addresses_in r.body)
      (function_code (numbering_of m) m frames (suc n) text r.body).1.numbers in
      let count : (function_code (numbering_of m) m frames (suc n) text r.body).1.addresses ≡ 0 + addresses_in r.body =
      (stmts_valid b h 0 false r.body wb.body (body_known m r known)).addresses 0 [] (from_text text) in
      omega (arith, count)

  pub module_addresses : (text : ℕ) → (function_code (numbering_of m) m (frame_of [] ∷ []) 1 text m.body).1.addresses
      ≡ addresses_in m.body
  module_addresses text =
      let frames : List Ty = frame_of [] ∷ [] in
      let k : ℕ = (function_code (numbering_of m) m frames 1 text m.body).1.numbers in
      let b : Body = made m 0 false frames (addresses_in m.body) k in
      let h : Holds b = made_holds m wf 0 false frames (addresses_in m.body) k in
      let count : (function_code (numbering_of m) m frames 1 text m.body).1.addresses ≡ 0 + addresses_in m.body =
      (stmts_valid b h 0 false m.body wf.body (module_known m)).addresses 0 [] (from_text text) in
      omega (arith, count)

  pub module_valid : IsFunction (own m) (module_function (numbering_of m) m)
  module_valid =
      let frames : List Ty = frame_of [] ∷ [] in
      let text : ℕ = characters (routines_texts m) in
      let k : ℕ = (function_code (numbering_of m) m frames 1 text m.body).1.numbers in
      let a : ℕ = addresses_in m.body in
      let b : Body = made m 0 false frames a k in
      let h : Holds b = made_holds m wf 0 false frames a k in
      let copied : IsAddress b 2 = (let e : ◌≡◌ {A = ℕ} 2 (1 + 1) = refl in
      ap (λ (j : ℕ). slice_get (all_locals 0 a k) j) e ∙ address_at 0 a k 1 (omega arith)) in (
        type_of (signature 0 false),
        refl,
        body_leads 0 false frames text m.body (enter_code 1 (size (frame_of []))) []
            (stmts_valid b h 0 false m.body wf.body (module_known m))
            (λ ls. enter_leads b h (λ i le lt. param_at 0 a k i le lt) copied ls (size (frame_of []))) (λ ls. done []),
      )

-- ---- helpers

module _ (m : TypedModule) where
  abbrev inside : FuncType → List Locals → Context
  inside t gs = function_context (own m) t gs

  abbrev copy_type : FuncType
  copy_type = type_from (I32 ∷ I32 ∷ I32 ∷ []) []

  abbrev fill_type : FuncType
  fill_type = type_from (I32 ∷ I32 ∷ []) []

  abbrev check_type : FuncType
  check_type = type_from (I64 ∷ I64 ∷ I64 ∷ I64 ∷ []) (I64 ∷ [])

  abbrev divide_type : FuncType
  divide_type = type_from (I64 ∷ I64 ∷ []) (I64 ∷ [])

  abbrev one_local : List Locals
  one_local = record { count = 1; value_type = I64 } ∷ []

  memory : 0 < length (own m).memories
  memory = omega (arith, memories_count m)

  -- a local is raised
  up : {c : Context} (x by : ℕ) {is : List Instr} {after : Stack} → slice_get c.locals x ≡ Some I32
      → Leads c is [] after → Leads c (LocalGet x ∷ I32Const by ∷ Numeric numeric.I32Add ∷ LocalSet x ∷ is) [] after
  up x by there on = get x I32 [] there (short by S (calc numeric.I32Add [] (set x I32 [] there on)))

  copy_leads : Leads (inside copy_type []) copy_code [] []
  copy_leads =
      block None [] (Loop None copy_turn ∷ []) (loop None [] copy_turn
      (get 2 I32 [] refl (calc numeric.I32Eqz []
      (br_if 1 [] refl (get 0 I32 [] refl (get 1 I32 S refl (load _ S memory (store _ [] memory
      (up 0 1 refl (up 1 1 refl (up 2 4294967295 refl (br 0 [] [] refl (done []))))))))))))
      (done [])) (done [])

  fill_leads : Leads (inside fill_type []) fill_code [] []
  fill_leads =
      block None [] (Loop None fill_turn ∷ []) (loop None [] fill_turn
      (get 1 I32 [] refl (calc numeric.I32Eqz [] (br_if 1 [] refl (get 0 I32 [] refl (long 0 S (store _ [] memory
      (up 0 1 refl (up 1 4294967295 refl (br 0 [] [] refl (done []))))))))))
      (done [])) (done [])

  check_leads : Leads (inside check_type []) check_code [] N
  check_leads =
      block None [] (Block None check_tests ∷ LocalGet 3 ∷ Call 1 ∷ Unreachable ∷ [])
      (block None [] check_tests
      (get 0 I64 [] refl (get 1 I64 N refl (calc (numeric.I64Relation LtS) [] (br_if 0 [] refl
      (get 0 I64 [] refl (get 2 I64 N refl (calc (numeric.I64Relation GtS) []
      (br_if 0 [] refl (br 1 [] [] refl (done []))))))))))
      (get 3 I64 [] refl (invoke 1 (type_from N []) [] (stop_at m) (stuck [] [] (done [])))))
      (get 0 I64 [] refl (done N))

  divisor_leads : (gs : List Locals) (rest : List Instr) → Leads (inside divide_type gs) rest [] N
      → Leads (inside divide_type gs) (divisor_checked rest) [] N
  divisor_leads gs rest on = get 1 I64 [] refl
      (long 1 N (long 4294967295 (I64 ∷ N) (long 4 (I64 ∷ I64 ∷ N)
      (invoke 4 check_type [] (check_at m) (set 1 I64 [] refl on)))))

  div_leads : Leads (inside divide_type []) (divisor_checked div_rest) [] N
  div_leads =
      divisor_leads [] div_rest
      (get 0 I64 [] refl (get 1 I64 N refl (calc (numeric.I64Operation DivS) []
      (get 0 I64 N refl (get 1 I64 (I64 ∷ N) refl (calc (numeric.I64Operation RemS) N
      (long 0 (I64 ∷ N) (calc (numeric.I64Relation LtS) N
      (calc numeric.I64ExtendI32U N (calc (numeric.I64Operation Sub) [] (done N)))))))))))

  mod_leads : Leads (inside divide_type one_local) (divisor_checked mod_rest) [] N
  mod_leads =
      divisor_leads one_local mod_rest
      (get 0 I64 [] refl (get 1 I64 N refl (calc (numeric.I64Operation RemS) [] (tee 2 I64 [] refl (get 2 I64 N refl
      (long 0 (I64 ∷ N) (calc (numeric.I64Relation LtS) N (calc numeric.I64ExtendI32U N (get 1 I64 (I64 ∷ N) refl
      (calc (numeric.I64Operation Mul) N (calc (numeric.I64Operation Add) [] (done N))))))))))))

  pub copy_valid : IsFunction (own m) (helper 1 copy_code)
  copy_valid = (copy_type, refl, copy_leads)

  pub fill_valid : IsFunction (own m) (helper 2 fill_code)
  fill_valid = (fill_type, refl, fill_leads)

  pub check_valid : IsFunction (own m) (helper 3 check_code)
  check_valid = (check_type, refl, check_leads)

  pub div_valid : IsFunction (own m) (helper 4 (divisor_checked div_rest))
  div_valid = (divide_type, refl, div_leads)

  pub mod_valid : IsFunction (own m) mod_function
  mod_valid = (divide_type, refl, mod_leads)
