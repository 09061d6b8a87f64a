-- What each formal leaves: a number, a whole copy, a name, or an open array with its copy.
use Rattle.std.proofs.Common.{◌≡◌, ◌⊎◌, inl, inr, ⊎_elim, ℕ, suc, ◌+◌, ◌*◌, ◌%◌, ◌^◌, ◌<◌, ◌≤◌, ℤ, pos, Bool, true, false, List, [], ◌∷◌, ◌++◌, map, length, Some, None, if◌then◌else◌, refl, sym, ap, ◌∙◌, append_assoc, length-append, arith}
use Rattle.std.specs.Prelude.{get_or, slice_get, slice_set, nat_lt}
use Rattle.std.proofs.lemmas.Int.{ints}
use Rattle.std.proofs.lemmas.Bool.{le-ltb, lt-ltb, cases_lt}
use Rattle.wasm_tree.specs.declared.instr.Instr.{Instr}
use Rattle.wasm_tree.specs.declared.instr.Instr.TheVariants as instr
use Rattle.wasm_tree.specs.declared.instr.Numeric.TheVariants as numeric
use Rattle.wasm_tree.specs.declared.instr.Relation.TheVariants.{GtU}
use Rattle.wasm_tree.specs.declared.instr.Operation.TheVariants.{Add, Mul}
use Rattle.wasm_tree.specs.declared.store.Value.{Value}
use Rattle.wasm_tree.specs.declared.store.Value.TheVariants.{I32, I64}
use Rattle.wasm_tree.specs.Numbers.{truth, compares}
use Rattle.std.specs.Int.{w32}
use Rattle.law_effect.specs.Bytes.{copied_bytes, AreMoved}
use Rattle.law_effect.proofs.Bytes.{copied_length, copied_small, copied_only, copied_moved}
use Rattle.law_effect.specs.Effect.{State as Target, Effect, Ended, then_run, out_of, exec, pick_branch, does}
use Rattle.law_effect.proofs.Steps.{i32_runs, i64_runs, get_runs, set_runs, tee_runs, global_runs, number_runs, two_32, if_one_runs, stop_runs}
use Rattle.layout_storage.specs.Types.{Ty, Scalar, Natural, Cell, Hidden, Array, row, component, IsPlain, IsScalar, IsOf}
use Rattle.layout_storage.specs.Sizes.{Four, size, offset}
use Rattle.def_meaning.specs.Store.{Location, Store, assign_number, copy_whole, overlay}
use Rattle.law_memory.specs.Cells as cells
use Rattle.law_memory.specs.Cells.{stored_in}
use Rattle.law_memory.specs.Relation.{Means, Holds, Shows, Keeps}
use Rattle.law_memory.proofs.Cells.{length-put}
use Rattle.law_memory.proofs.Places.{component_append, offset_append}
use Rattle.law_memory.proofs.Worlds.{lies, holds_assigned, holds_pushed, component_old, offset_old, row_size, plain_hidden, placed_else}
use Rattle.law_memory.proofs.Frames.{holds_hidden}
use Rattle.law_memory.proofs.Assigns.{assigns_whole}
use Rattle.def_scheme.specs.Coded.{raise_address, operation, wrap_word, extend_word, fault}
use Rattle.def_scheme.specs.Cells.{store_scalar, word as word_cell}
use Rattle.def_scheme.specs.Functions.{limit_check, formal_address, word_kept, bytes_code, open_copied}
use Rattle.law_simulation.specs.Scene.{Scene, IsSet, calls, runs, word}
use Rattle.law_simulation.proofs.Words.{IsWide}
use Rattle.law_simulation.proofs.Operators.{operation_runs}
use Rattle.law_simulation.proofs.Relations.{wrapped_runs, extended_runs}
use Rattle.law_simulation.proofs.Places.{raised_runs}
use Rattle.law_simulation.proofs.Stores.{scalar_stores}
use Rattle.law_simulation.proofs.Locals.{get_set, get_other, length_set}
use Rattle.law_simulation.proofs.Copies.{copy_here}
use Rattle.law_simulation.specs.Stage.{HasLimit, Stage, SameBelow}
use Rattle.law_simulation.proofs.Rooms.{same_trans, same_placed, same_newer, keeps_placed, keeps_then, other_part, four_small}

module _ (k : Scene) (set : IsSet k) (has : HasLimit k) (root top : ℕ) (F : Ty) (given : List Value) (out : List ℕ)
    (first : 0 < top) (two : suc top < k.locals) where
  abbrev pub OnStage : List Ty → (Location → ℕ → ℕ) → Store → Target → Type 0
  OnStage = Stage k root top F given out

  stage_bytes : (world : List Ty) (x x' : Location → ℕ → ℕ) (s s' : Store) (st : Target) (m' : List ℕ)
      → OnStage world x s st → Holds k.program world x' s' m' → length m' ≡ length st.bytes
      → OnStage world x' s' (record st { bytes = m' })
  stage_bytes world x x' s s' st m' g h l = record {
    holds = h;
    long = l ∙ g.long;
    own = g.own;
    below = g.below;
    count = g.count;
    at = g.at;
    free = g.free;
    kept = g.kept;
    shown = g.shown;
  }

  -- a place in the own frame
  own_place : (world : List Ty) (x : Location → ℕ → ℕ) (s : Store) (st : Target) (q : Location) (t : Ty)
      → OnStage world x s st → component F q ≡ Some t
      → (component (row world) (root ∷ q) ≡ Some t)
      × (offset (row world) (root ∷ []) + offset F q ≡ offset (row world) (root ∷ q))
      × (offset (row world) (root ∷ q) + size t ≤ length st.bytes)
  own_place world x s st q t g e =
      let type : component (row world) (root ∷ q) ≡ Some t = component_append (row world) F (root ∷ []) q g.own ∙ e in (
        type,
        sym (offset_append (row world) F (root ∷ []) q g.own),
        lies k.program world x s st.bytes g.holds (root ∷ q)
            t type,
      )

  pub base_run : (world : List Ty) (x : Location → ℕ → ℕ) (s : Store) (st : Target) (q : Location) (t : Ty)
      (rest : List Instr) (stack : List Value) → OnStage world x s st → component F q ≡ Some t
      → runs k ((instr.LocalGet 0 ∷ raise_address (offset F q)) ++ rest) st stack
      ≡ runs k rest st (stack ++ I32 (offset (row world) (root ∷ q)) ∷ [])
  base_run world x s st q t rest stack g e =
      let p = own_place world x s st q t g e in
      let fits = p.2 in
      let long = g.long in let small = has.small in
      get_runs k.modules k.fixed k.turns (calls k) k.own (raise_address (offset F q) ++ rest) st 0
      (I32 (offset (row world) (root ∷ []))) stack g.at
      ∙ raised_runs k set.helpers set.small set.room (offset (row world) (root ∷ [])) (offset F q)
      (offset (row world) (root ∷ q)) rest st stack p.1 (omega (arith, fits, long, small))

  given_run : (world : List Ty) (x : Location → ℕ → ℕ) (s : Store) (st : Target) (i : ℕ) (w : Value) (rest : List Instr)
      (stack : List Value) → OnStage world x s st → 0 < i → i < top → slice_get given i ≡ Some w
      → runs k (instr.LocalGet i ∷ rest) st stack ≡ runs k rest st (stack ++ w ∷ [])
  given_run world x s st i w rest stack g posi less e =
      get_runs k.modules k.fixed k.turns (calls k) k.own rest st i w stack (g.kept i posi less ∙ e)

  -- an address that is passed as a number of 64 bits
  wrap_run : (a : ℕ) (st : Target) (rest : List Instr) (stack : List Value) → a < 2 ^ 32
      → runs k (wrap_word ∷ rest) st (stack ++ I64 a ∷ []) ≡ runs k rest st (stack ++ I32 a ∷ [])
  wrap_run a st rest stack small = let e : a % 2 ^ 32 ≡ a = omega (arith, small) in
      wrapped_runs k set.helpers set.small a rest st stack ∙ ap (λ (i : ℕ). runs k rest st (stack ++ I32 i ∷ [])) e

  number_wide : (c : Scalar) (v : ℤ) → IsScalar c → IsOf c v → IsWide v
  number_wide c v ok is = let a = ok.low in let b = ok.high in let l = is.low in let h = is.high in
      record { low = omega (arith, ints, a, l); high = omega (arith, ints, b, h) }

  -- ---- a number

  pub number_step : (world : List Ty) (x : Location → ℕ → ℕ) (s : Store) (st : Target) (v i : ℕ) (c : Scalar) (z : ℤ)
      (rest : List Instr) → 0 < i → OnStage world x s st → i < top → slice_get given i ≡ Some (I64 (word z))
      → IsScalar c → IsOf c z → Means k.program c z → component F (suc v ∷ []) ≡ Some (Cell c)
      → (m' : List ℕ) × OnStage world x (assign_number (root ∷ suc v ∷ []) z s) (record st { bytes = m' })
      × (runs k ((formal_address F v [] ++ (instr.LocalGet i ∷ store_scalar c)) ++ rest) st []
      ≡ runs k rest (record st { bytes = m' }) [])
  unfolding size
  number_step world x s st v i c z rest posi g less e ok is means type =
      let p = own_place world x s st (suc v ∷ []) (Cell c) g type in
      let a : ℕ = offset (row world) (root ∷ suc v ∷ []) in (
        cells.put c a (word z) st.bytes,
        stage_bytes world x x s (assign_number (root ∷ suc v ∷ []) z s) st (cells.put c a (word z) st.bytes) g
            (holds_assigned k.program world x s st.bytes g.holds (root ∷ suc v ∷ []) c z ok is means p.0)
            (length-put c a (word z) st.bytes p.2),
        base_run world x s st (suc v ∷ []) (Cell c) ((instr.LocalGet i ∷ store_scalar c) ++ rest) [] g type
            ∙ given_run world x s st i (I64 (word z)) (store_scalar c ++ rest) (I32 a ∷ []) g posi less e
            ∙ scalar_stores k set.helpers set.small set.room c z a rest st [] (number_wide c z ok is) p.2,
      )

  -- ---- a whole array or record

  pub copy_step : (world : List Ty) (x : Location → ℕ → ℕ) (s : Store) (st : Target) (v i : ℕ) (t : Ty) (l : Location)
      (rest : List Instr) → 0 < i → OnStage world x s st → i < top
      → slice_get given i ≡ Some (I64 (offset (row world) l)) → IsPlain t → component (row world) l ≡ Some t
      → component F (suc v ∷ []) ≡ Some t
      → (m' : List ℕ) × OnStage world x (copy_whole (root ∷ suc v ∷ []) l s) (record st { bytes = m' })
      × (runs k ((formal_address F v [] ++ (instr.LocalGet i ∷ wrap_word ∷ instr.I32Const (size t) ∷ instr.Call 2 ∷ []))
      ++ rest) st [] ≡ runs k rest (record st { bytes = m' }) [])
  copy_step world x s st v i t l rest posi g less e whole source type =
      let p = own_place world x s st (suc v ∷ []) t g type in
      let a : ℕ = offset (row world) (root ∷ suc v ∷ []) in
      let b : ℕ = offset (row world) l in
      let to = p.2 in
      let from = lies k.program world x s st.bytes g.holds l t source in
      let long = g.long in let small = has.small in
      let after : List Instr = instr.I32Const (size t) ∷ instr.Call 2 ∷ rest in (
        copied_bytes (size t) a b st.bytes,
        stage_bytes world x x s (copy_whole (root ∷ suc v ∷ []) l s) st (copied_bytes (size t) a b st.bytes) g
            (assigns_whole k.program world x s st.bytes g.holds (root ∷ suc v ∷ []) l t whole p.0 source)
            (copied_length (size t) a b st.bytes p.2),
        base_run world x s st (suc v ∷ []) t (instr.LocalGet i ∷ wrap_word ∷ after) [] g type
            ∙ given_run world x s st i (I64 b) (wrap_word ∷ after) (I32 a ∷ []) g posi less e
            ∙ wrap_run b st after (I32 a ∷ []) (omega (arith, from, long, small))
            ∙ i32_runs k.modules k.fixed k.turns (calls k) k.own (instr.Call 2 ∷ rest) st (size t) (I32 a ∷ I32 b ∷ [])
            ∙ copy_here k set a b (size t) st rest [] to from g.holds.bytes (omega (arith, long, small)),
      )

  -- ---- a number of 32 bits in hidden room of the frame

  pub hidden_step : (world : List Ty) (x : Location → ℕ → ℕ) (s : Store) (st : Target) (v : ℕ) (q : Location) (n : ℕ)
      (value rest : List Instr) → OnStage world x s st → component F (suc v ∷ q) ≡ Some (Hidden 4) → n < 2 ^ 32
      → ((after : List Instr) (stack : List Value)
      → runs k (value ++ after) st stack ≡ runs k after st (stack ++ I64 n ∷ []))
      → (m' : List ℕ) × OnStage world (overlay (root ∷ suc v ∷ q) (λ r k. get_or (stored_in Four n) k 0) x) s
      (record st { bytes = m' }) × (runs k (word_kept F v q value ++ rest) st []
      ≡ runs k rest (record st { bytes = m' }) [])
  unfolding size
  hidden_step world x s st v q n value rest g type small gets =
      let p = own_place world x s st (suc v ∷ q) (Hidden 4) g type in
      let a : ℕ = offset (row world) (root ∷ suc v ∷ q) in
      let m' : List ℕ = cells.put (Natural 4294967295) a n st.bytes in
      let as_word : n ≡ word (pos n) = omega (arith, ints, small) in
      let wide : IsWide (pos n) = record { low = omega (arith, ints); high = omega (arith, ints, small) } in (
        m',
        stage_bytes world x (overlay (root ∷ suc v ∷ q) (λ r k. get_or (stored_in Four n) k 0) x) s s st m' g
            (holds_hidden k.program world x s st.bytes g.holds (root ∷ suc v ∷ q) 4 (stored_in Four n) p.0 refl
            (λ j l. four_small n j small l)) (length-put (Natural 4294967295) a n st.bytes p.2),
        base_run world x s st (suc v ∷ q) (Hidden 4) ((value ++ store_scalar word_cell) ++ rest) [] g type
            ∙ ap (λ (code : List Instr). runs k code st (I32 a ∷ [])) (append_assoc value (store_scalar word_cell) rest)
            ∙ gets (store_scalar word_cell ++ rest) (I32 a ∷ [])
            ∙ ap (λ (i : ℕ). runs k (store_scalar word_cell ++ rest) st (I32 a ∷ I64 i ∷ [])) as_word
            ∙ scalar_stores k set.helpers set.small set.room (Natural 4294967295) (pos n) a rest st [] wide p.2
            ∙ ap (λ (i : ℕ). runs k rest (record st { bytes = cells.put (Natural 4294967295) a i st.bytes }) [])
            (sym as_word),
      )

  -- ---- the end of the storage

  pub limit_run : (a : ℕ) (st : Target) (rest : List Instr) (stack : List Value) → st.out ≡ out
      → runs k (limit_check ++ rest) st (stack ++ I32 a ∷ [])
      ≡ (if nat_lt k.limit a then Ended 8 out else runs k rest st stack)
  limit_run a st rest stack shown =
      global_runs k.modules k.fixed k.turns (calls k) k.own
      (instr.Numeric (numeric.I32Relation GtU) ∷ instr.If None (fault 8) None ∷ rest) st 0 (I32 k.limit)
      (stack ++ I32 a ∷ []) (has.there st.bytes)
      ∙ number_runs k.modules k.fixed k.turns (calls k) k.own (instr.If None (fault 8) None ∷ rest) st
      (numeric.I32Relation GtU) ((stack ++ I32 a ∷ []) ++ I32 k.limit ∷ []) stack (I32 (truth (nat_lt k.limit a)))
      (two_32 stack a k.limit (λ n m. I32 (truth (compares w32 GtU n m))))
      ∙ if_one_runs k.modules k.fixed k.turns (calls k) k.own rest st None (fault 8) stack (truth (nat_lt k.limit a))
      ∙ by (nat_lt k.limit a)
    where
      stopped : runs k (fault 8) st stack ≡ Ended 8 out
      stopped =
          i64_runs k.modules k.fixed k.turns (calls k) k.own (instr.Call 1 ∷ instr.Unreachable ∷ []) st 8 stack
          ∙ stop_runs k.modules k.fixed k.turns (calls k) k.own (instr.Unreachable ∷ []) st 1 8 stack
          (set.helpers.stop st.bytes)
          ∙ ap (λ (o : List ℕ). Ended 8 o) shown

      by : (b : Bool) → then_run (out_of 0 (length stack)
          (exec (pick_branch (truth b) (map (does k.modules k.fixed k.turns (calls k) k.own) (fault 8)) None) st stack))
          (runs k rest) ≡ (if b then Ended 8 out else runs k rest st stack)
      by true = ap (λ (r : Effect). then_run (out_of 0 (length stack) r) (runs k rest)) stopped
      by false = refl

  -- ---- open arrays

  -- elements that stand in the memory, from address n on: what a copy of them shows
  pub record IsSource (world : List Ty) (m : List ℕ) (n : ℕ) (t : Ty) (f : Location → ℤ) : Type 0 where
    pub fits : n + size t ≤ size (row world)
    pub shows : (m' : List ℕ) → AreMoved (size t) n (size (row world)) m m' → Shows k.program t (size (row world)) f m'

  -- the storage behind the top is taken: top and p are set
  abbrev taken_locals : List Value → (a b : ℕ) → List Value
  taken_locals locals a b = slice_set (slice_set locals (suc top) (I32 a)) top (I32 b)

  taken_top : (locals : List Value) (a b : ℕ) → length locals ≡ k.locals
      → slice_get (taken_locals locals a b) top ≡ Some (I32 b)
  taken_top locals a b l = let e = length_set locals (suc top) (I32 a) in
      get_set (slice_set locals (suc top) (I32 a)) top (I32 b) (omega (arith, e, l, two))

  taken_p : (locals : List Value) (a b : ℕ) → length locals ≡ k.locals
      → slice_get (taken_locals locals a b) (suc top) ≡ Some (I32 a)
  taken_p locals a b l =
      let ne : top ≡ suc top → ⊥ = λ e. omega (arith, e) in
      get_other (slice_set locals (suc top) (I32 a)) top (suc top) (I32 b) ne
      ∙ get_set locals (suc top) (I32 a) (omega (arith, l, two))

  taken_else : (locals : List Value) (a b i : ℕ) → i < top → slice_get (taken_locals locals a b) i ≡ slice_get locals i
  taken_else locals a b i h =
      let ne : top ≡ i → ⊥ = λ e. omega (arith, e, h) in
      let nf : suc top ≡ i → ⊥ = λ e. omega (arith, e, h) in
      get_other (slice_set locals (suc top) (I32 a)) top i (I32 b) ne ∙ get_other locals (suc top) i (I32 a) nf

  bytes_run : (i h el : ℕ) (st : Target) (rest : List Instr) (stack : List Value)
      → slice_get st.locals (suc i) ≡ Some (I64 h) → h < 2 ^ 32 → suc h * el < 2 ^ 32
      → runs k (bytes_code (suc i) el ++ rest) st stack ≡ runs k rest st (stack ++ I32 (suc h * el) ∷ [])
  bytes_run i h el st rest stack e small fits =
      let a : (h + 1) % 2 ^ 64 ≡ suc h = omega (arith, small) in
      let b : suc h * el % 2 ^ 64 ≡ suc h * el = omega (arith, fits) in
      let c : suc h * el % 2 ^ 32 ≡ suc h * el = omega (arith, fits) in
      get_runs k.modules k.fixed k.turns (calls k) k.own
      (instr.I64Const 1 ∷ operation Add ∷ instr.I64Const el ∷ operation Mul ∷ wrap_word ∷ rest) st (suc i) (I64 h)
      stack e
      ∙ i64_runs k.modules k.fixed k.turns (calls k) k.own
      (operation Add ∷ instr.I64Const el ∷ operation Mul ∷ wrap_word ∷ rest) st 1 (stack ++ I64 h ∷ [])
      ∙ operation_runs k set.helpers set.small Add h 1 (suc h) (instr.I64Const el ∷ operation Mul ∷ wrap_word ∷ rest) st
      stack (ap Some a)
      ∙ i64_runs k.modules k.fixed k.turns (calls k) k.own (operation Mul ∷ wrap_word ∷ rest) st el
      (stack ++ I64 (suc h) ∷ [])
      ∙ operation_runs k set.helpers set.small Mul (suc h) el (suc h * el) (wrap_word ∷ rest) st stack (ap Some b)
      ∙ wrapped_runs k set.helpers set.small (suc h * el) rest st stack
      ∙ ap (λ (i : ℕ). runs k rest st (stack ++ I32 i ∷ [])) c

  array_size : (n : ℕ) (t : Ty) → size (Array n t) ≡ n * size t
  unfolding size
  array_size n t = refl

  -- the code up to the test
  take_path : (world : List Ty) (x : Location → ℕ → ℕ) (s : Store) (st : Target) (i h el : ℕ) (rest : List Instr)
      → OnStage world x s st → suc i < top → slice_get given (suc i) ≡ Some (I64 h) → h < 2 ^ 32
      → suc h * el ≤ size (row world)
      → runs k (instr.LocalGet top ∷ instr.LocalSet (suc top) ∷ instr.LocalGet top
      ∷ (bytes_code (suc i) el ++ (instr.Numeric numeric.I32Add ∷ instr.LocalTee top ∷ (limit_check ++ rest)))) st
      []
      ≡ (if nat_lt k.limit (size (row world) + suc h * el) then Ended 8 out else runs k rest
      (record st { locals = taken_locals st.locals (size (row world)) (size (row world) + suc h * el) }) [])
  take_path world x s st i h el rest g less f small within =
      let T : ℕ = size (row world) in
      let B : ℕ = suc h * el in
      let long = g.long in let least = has.small in let count = g.count in let room = g.holds.room in
      let st1 : Target = record st { locals = slice_set st.locals (suc top) (I32 T) } in
      let st2 : Target = record st { locals = taken_locals st.locals T (T + B) } in
      let n1 : suc top ≡ top → ⊥ = λ e. omega (arith, e) in
      let n2 : suc top ≡ suc i → ⊥ = λ e. omega (arith, e, less) in
      let adding : List Instr = instr.Numeric numeric.I32Add ∷ instr.LocalTee top ∷ (limit_check ++ rest) in
      let sum : (T + B) % 2 ^ 32 ≡ T + B = omega (arith, within, room, long, least) in
      let one = length_set st.locals (suc top) (I32 T) in
      get_runs k.modules k.fixed k.turns (calls k) k.own
      (instr.LocalSet (suc top) ∷ instr.LocalGet top ∷ (bytes_code (suc i) el ++ adding)) st top (I32 T) [] g.free
      ∙ set_runs k.modules k.fixed k.turns (calls k) k.own (instr.LocalGet top ∷ (bytes_code (suc i) el ++ adding)) st
      (suc top) (I32 T) [] (omega (arith, count, two))
      ∙ get_runs k.modules k.fixed k.turns (calls k) k.own (bytes_code (suc i) el ++ adding) st1 top (I32 T) []
      (get_other st.locals (suc top) top (I32 T) n1 ∙ g.free)
      ∙ bytes_run i h el st1 adding (I32 T ∷ [])
      (get_other st.locals (suc top) (suc i) (I32 T) n2 ∙ g.kept (suc i) (omega arith) less ∙ f) small
      (omega (arith, within, room, long, least))
      ∙ number_runs k.modules k.fixed k.turns (calls k) k.own (instr.LocalTee top ∷ (limit_check ++ rest)) st1
      numeric.I32Add (I32 T ∷ I32 B ∷ []) [] (I32 ((T + B) % 2 ^ 32))
      (two_32 [] T B (λ i j. I32 ((i + j) % 2 ^ 32)))
      ∙ ap (λ (j : ℕ). runs k (instr.LocalTee top ∷ (limit_check ++ rest)) st1 (I32 j ∷ [])) sum
      ∙ tee_runs k.modules k.fixed k.turns (calls k) k.own (limit_check ++ rest) st1 top (I32 (T + B)) []
      (omega (arith, one, count, two))
      ∙ limit_run (T + B) st2 rest [] g.shown

  -- the copy is made: before its address and HIGH are written
  copied_stage : (world : List Ty) (x : Location → ℕ → ℕ) (s : Store) (st : Target) (t : Ty) (n : ℕ) (f : Location → ℤ)
      → OnStage world x s st → IsPlain t → IsSource world st.bytes n t f → size (row world) + size t ≤ k.limit
      → OnStage (world ++ t ∷ []) (overlay (length world ∷ []) (λ r k. 0) x) (overlay (length world ∷ []) f s)
      (record st {
        locals = taken_locals st.locals (size (row world)) (size (row world) + size t);
        bytes =
            copied_bytes (size t) (size (row world)) n st.bytes;
      })
  copied_stage world x s st t n f g whole source room =
      let T : ℕ = size (row world) in
      let long = g.long in
      let fits : T + size t ≤ length st.bytes = omega (arith, room, long) in
      let m' : List ℕ = copied_bytes (size t) T n st.bytes in
      let same : length m' ≡ length st.bytes = copied_length (size t) T n st.bytes fits in
      let within = source.fits in
      let below = g.below in
      let more = length-append world (t ∷ []) in
      record {
        holds = holds_pushed k.program world x s st.bytes g.holds t m'
            (λ b less. copied_only (size t) T n st.bytes fits b (inl less)) f (λ r k. 0) (omega (arith, fits, same))
            (copied_small (size t) T n st.bytes fits g.holds.bytes)
            (source.shows m' (copied_moved (size t) T n st.bytes fits (inr within)))
            (λ r j i e less. absurd (plain_hidden t r j whole e));
        long = same ∙ g.long;
        own = component_old world (t ∷ []) root [] F g.own;
        below = omega (arith, below, more);
        count = length_set (slice_set st.locals (suc top) (I32 T)) top (I32 (T + size t))
            ∙ length_set st.locals (suc top) (I32 T) ∙ g.count;
        at = taken_else st.locals T (T + size t) 0 first ∙ g.at
            ∙ ap (λ (a : ℕ). Some (I32 a)) (sym (offset_old world (t ∷ []) root [] F g.own));
        free = taken_top st.locals T (T + size t) g.count ∙ ap (λ (a : ℕ). Some (I32 a)) (sym (row_size world t));
        kept = λ i posi less. taken_else st.locals T (T + size t) i less ∙ g.kept i posi less;
        shown = g.shown;
      }

  abbrev hides : (v : ℕ) (q : Location) (n : ℕ) (x : Location → ℕ → ℕ) → Location → ℕ → ℕ
  hides v q n x = overlay (root ∷ suc v ∷ q) (λ r k. get_or (stored_in Four n) k 0) x

  -- what is written of an open array: its address and HIGH
  pub record OpenDone (world : List Ty) (x : Location → ℕ → ℕ) (s : Store) (v : ℕ) (address high : ℕ)
      (below : Location → ℕ → ℕ) (rest : List Instr) (r : Effect) : Type 0 where
    pub x' : Location → ℕ → ℕ
    pub st' : Target
    pub stage : OnStage world x' s st'
    pub same : SameBelow root v below x'
    pub address_kept : Keeps x' (root ∷ suc v ∷ 0 ∷ []) (stored_in Four address)
    pub high_kept : Keeps x' (root ∷ suc v ∷ 1 ∷ []) (stored_in Four high)
    pub run : r ≡ runs k rest st' []

  words_step : (world : List Ty) (x : Location → ℕ → ℕ) (s : Store) (st : Target) (v address high : ℕ)
      (one other rest : List Instr) → OnStage world x s st
      → component F (suc v ∷ 0 ∷ []) ≡ Some (Hidden 4) → component F (suc v ∷ 1 ∷ []) ≡ Some (Hidden 4)
      → address < 2 ^ 32 → high < 2 ^ 32
      → ((after : List Instr) (stack : List Value)
      → runs k (one ++ after) st stack ≡ runs k after st (stack ++ I64 address ∷ []))
      → ((m : List ℕ) (after : List Instr) (stack : List Value)
      → runs k (other ++ after) (record st { bytes = m }) stack
      ≡ runs k after (record st { bytes = m }) (stack ++ I64 high ∷ []))
      → OpenDone world x s v address high x rest
      (runs k ((word_kept F v (0 ∷ []) one ++ word_kept F v (1 ∷ []) other) ++ rest) st [])
  words_step world x s st v address high one other rest g type0 type1 small0 small1 gets0 gets1 =
      let x1 : Location → ℕ → ℕ = hides v (0 ∷ []) address x in
      let x2 : Location → ℕ → ℕ = hides v (1 ∷ []) high x1 in
      let p = hidden_step world x s st v (0 ∷ []) address one (word_kept F v (1 ∷ []) other ++ rest) g type0 small0
      gets0 in
      let q = hidden_step world x1 s (record st { bytes = p.0 }) v (1 ∷ []) high other rest p.1 type1 small1 (gets1 p.0)
      in
      record {
        x' = x2;
        st' = record st { bytes = q.0 };
        stage = q.1;
        same = same_trans root v x x1 x2 (same_placed root v (0 ∷ []) (λ r k. get_or (stored_in Four address) k 0) x)
            (same_placed root v (1 ∷ []) (λ r k. get_or (stored_in Four high) k 0) x1);
        address_kept = keeps_then x1 x2 (root ∷ suc v ∷ 0 ∷ []) (stored_in Four address)
            (λ j. ap (λ (g : ℕ → ℕ). g j) (placed_else (root ∷ suc v ∷ 1 ∷ []) (root ∷ suc v ∷ 0 ∷ [])
            (λ r k. get_or (stored_in Four high) k 0) x1 (other_part root (suc v))))
            (keeps_placed (root ∷ suc v ∷ 0 ∷ []) (stored_in Four address) x);
        high_kept = keeps_placed (root ∷ suc v ∷ 1 ∷ []) (stored_in Four high) x1;
        run = ap (λ (code : List Instr). runs k code st [])
            (append_assoc (word_kept F v (0 ∷ []) one) (word_kept F v (1 ∷ []) other) rest) ∙ p.2 ∙ q.2;
      }

  open_parts : (v : ℕ) → component F (suc v ∷ []) ≡ Some (row (Hidden 4 ∷ Hidden 4 ∷ []))
      → (component F (suc v ∷ 0 ∷ []) ≡ Some (Hidden 4)) × (component F (suc v ∷ 1 ∷ []) ≡ Some (Hidden 4))
  unfolding component
  open_parts v type = (
    component_append F (row (Hidden 4 ∷ Hidden 4 ∷ [])) (suc v ∷ []) (0 ∷ []) type,
    component_append
        F (row (Hidden 4 ∷ Hidden 4 ∷ [])) (suc v ∷ []) (1 ∷ []) type,
  )

  -- behind VAR there is no copy
  pub array_step : (world : List Ty) (x : Location → ℕ → ℕ) (s : Store) (st : Target) (v i address high : ℕ)
      (rest : List Instr) → 0 < i → OnStage world x s st → suc i < top → slice_get given i ≡ Some (I64 address)
      → slice_get given (suc i) ≡ Some (I64 high)
      → address < 2 ^ 32 → high < 2 ^ 32 → component F (suc v ∷ []) ≡ Some (row (Hidden 4 ∷ Hidden 4 ∷ []))
      → OpenDone world x s v address high x rest
      (runs k ((word_kept F v (0 ∷ []) (instr.LocalGet i ∷ [])
      ++ word_kept F v (1 ∷ []) (instr.LocalGet (suc i) ∷ [])) ++ rest) st [])
  array_step world x s st v i address high rest posi g less e f small0 small1 type =
      let t = open_parts v type in
      words_step world x s st v address high (instr.LocalGet i ∷ []) (instr.LocalGet (suc i) ∷ []) rest g t.0 t.1 small0
      small1
      (λ after stack. get_runs k.modules k.fixed k.turns (calls k) k.own after st i (I64 address) stack
      (g.kept i posi (omega (arith, less)) ∙ e))
      (λ m after stack. get_runs k.modules k.fixed k.turns (calls k) k.own after (record st { bytes = m }) (suc i)
      (I64 high) stack (g.kept (suc i) (omega arith) less ∙ f))

  abbrev pub CopyGoes : (world : List Ty) (x : Location → ℕ → ℕ) (s : Store) (v n high : ℕ) (t : Ty) (f : Location → ℤ)
      (rest : List Instr) (r : Effect) → Type 0
  CopyGoes world x s v n high t f rest r =
      ((size (row world) + size (Array (suc high) t) ≤ k.limit)
      × OpenDone (world ++ Array (suc high) t ∷ []) (overlay (length world ∷ []) (λ r k. 0) x)
      (overlay (length world ∷ []) f s) v (size (row world)) high x rest r)
      ⊎ ((k.limit < size (row world) + size (Array (suc high) t)) × (r ≡ Ended 8 out))

  -- else the elements are copied behind the other instances, or there is no room
  pub open_step : (world : List Ty) (x : Location → ℕ → ℕ) (s : Store) (st : Target) (v i n high : ℕ) (t : Ty)
      (f : Location → ℤ) (rest : List Instr) → 0 < i → OnStage world x s st → suc i < top
      → slice_get given i ≡ Some (I64 n) → slice_get given (suc i) ≡ Some (I64 high)
      → high < 2 ^ 32 → IsPlain t → IsSource world st.bytes n (Array (suc high) t) f
      → component F (suc v ∷ []) ≡ Some (row (Hidden 4 ∷ Hidden 4 ∷ []))
      → CopyGoes world x s v n high t f rest (runs k (open_copied top (suc top) F v i (size t) ++ rest) st [])
  open_step world x s st v i n high t f rest posi g less e e' small whole source type =
      ⊎_elim
      (λ (over : k.limit < T + size A). inr (
        over,
        path
            ∙ ap (λ (b : Bool). if b then Ended 8 out else runs k code4 st2 [])
            (lt-ltb k.limit (T + B) (omega (arith, over, is))),
      ))
      (λ (room : T + size A ≤ k.limit).
      let g0 = copied_stage world x s st A n f g whole source room in
      let st0 : Target = record st {
        locals = taken_locals st.locals T (T + size A);
        bytes =
            copied_bytes (size A) T n st.bytes;
      } in
      let t' = open_parts v type in
      let fits : T + B ≤ length st.bytes = omega (arith, room, long, is) in
      let from : n + B ≤ length st.bytes = omega (arith, within, holds_room, is) in
      let d = words_step (world ++ A ∷ []) (overlay (length world ∷ []) (λ r k. 0) x) (overlay (length world ∷ []) f s)
      st0 v T high (instr.LocalGet (suc top) ∷ extend_word ∷ []) (instr.LocalGet (suc i) ∷ []) rest g0 t'.0 t'.1
      (omega (arith, holds_room, long, least)) small
      (λ after stack. get_runs k.modules k.fixed k.turns (calls k) k.own (extend_word ∷ after) st0 (suc top) (I32 T)
      stack (taken_p st.locals T (T + size A) g.count) ∙ extended_runs k set.helpers set.small T after st0 stack)
      (λ m after stack. get_runs k.modules k.fixed k.turns (calls k) k.own after (record st0 { bytes = m }) (suc i)
      (I64 high) stack (taken_else st.locals T (T + size A) (suc i) less ∙ g.kept (suc i) (omega arith) less ∙ e'))
      in
      let copying : runs k code4 st2 [] ≡ runs k (words ++ rest) (record st2 { bytes = copied_bytes B T n st.bytes })
      [] =
      get_runs k.modules k.fixed k.turns (calls k) k.own
      (instr.LocalGet i ∷ wrap_word ∷ (bytes_code (suc i) (size t) ++ (instr.Call 2 ∷ (words ++ rest)))) st2
      (suc top) (I32 T) [] (taken_p st.locals T (T + B) g.count)
      ∙ get_runs k.modules k.fixed k.turns (calls k) k.own
      (wrap_word ∷ (bytes_code (suc i) (size t) ++ (instr.Call 2 ∷ (words ++ rest)))) st2 i (I64 n) (I32 T ∷ [])
      (taken_else st.locals T (T + B) i (omega (arith, less)) ∙ g.kept i posi (omega (arith, less)) ∙ e)
      ∙ wrap_run n st2 (bytes_code (suc i) (size t) ++ (instr.Call 2 ∷ (words ++ rest))) (I32 T ∷ [])
      (omega (arith, within, holds_room, long, least))
      ∙ bytes_run i high (size t) st2 (instr.Call 2 ∷ (words ++ rest)) (I32 T ∷ I32 n ∷ [])
      (taken_else st.locals T (T + B) (suc i) less ∙ g.kept (suc i) (omega arith) less ∙ e') small
      (omega (arith, within, holds_room, long, least, is))
      ∙ copy_here k set T n B st2 (words ++ rest) [] fits from g.holds.bytes (omega (arith, long, least)) in
      inl (
        room,
        record {
          x' = d.x';
          st' = d.st';
          stage = d.stage;
          same = same_trans root v x (overlay (length world ∷ []) (λ r k. 0) x) d.x'
              (same_newer root v (length world) (λ r k. 0) x g.below) d.same;
          address_kept = d.address_kept;
          high_kept = d.high_kept;
          run =
              path ∙ ap (λ (b : Bool). if b then Ended 8 out else runs k code4 st2 [])
              (le-ltb k.limit (T + B) (omega (arith, room, is)))
              ∙ copying
              ∙ ap (λ (j : ℕ). runs k (words ++ rest)
              (record st { locals = taken_locals st.locals T (T + j); bytes = copied_bytes j T n st.bytes }) [])
              (sym is)
              ∙ d.run;
        },
      ))
      (cases_lt k.limit (T + size A))
    where
      A : Ty
      A = Array (suc high) t

      T : ℕ
      T = size (row world)

      B : ℕ
      B = suc high * size t

      is : size A ≡ B
      is = array_size (suc high) t

      long : length st.bytes ≡ k.limit
      long = g.long

      least : k.limit < 2 ^ 31
      least = has.small

      holds_room : T ≤ length st.bytes
      holds_room = g.holds.room

      within : n + size A ≤ T
      within = source.fits

      words : List Instr
      words = word_kept F v (0 ∷ []) (instr.LocalGet (suc top) ∷ extend_word ∷ [])
          ++ word_kept F v (1 ∷ []) (instr.LocalGet (suc i) ∷ [])

      code4 : List Instr
      code4 = instr.LocalGet (suc top) ∷ instr.LocalGet i ∷ wrap_word
          ∷ (bytes_code (suc i) (size t) ++ (instr.Call 2 ∷ (words ++ rest)))

      st2 : Target
      st2 = record st { locals = taken_locals st.locals T (T + B) }

      path : runs k (open_copied top (suc top) F v i (size t) ++ rest) st []
          ≡ (if nat_lt k.limit (T + B) then Ended 8 out else runs k code4 st2 [])
      path = take_path world x s st i high (size t) code4 g less e' small (omega (arith, within, is))
