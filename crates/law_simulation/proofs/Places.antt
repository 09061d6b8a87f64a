-- Designators lead to addresses, and what stands there is read.
use Rattle.std.proofs.Common.{◌≡◌, ℕ, ◌+◌, ◌%◌, ◌^◌, ◌≤◌, ◌<◌, ℤ, pos, negsuc, ◌+ℤ◌, ◌-ℤ◌, Bool, true, false, List, [], ◌∷◌, ◌++◌, length, Some, if◌then◌else◌, refl, sym, ap, subst, ◌∙◌, arith}
use Rattle.std.specs.Prelude.{unsigned_abs}
use Rattle.law_effect.specs.Bytes.{byte}
use Rattle.std.proofs.lemmas.Int.{ints}
use Rattle.wasm_tree.specs.declared.instr.Instr.{Instr}
use Rattle.wasm_tree.specs.declared.instr.Instr.TheVariants as instr
use Rattle.wasm_tree.specs.declared.instr.Numeric.TheVariants as numeric
use Rattle.wasm_tree.specs.declared.instr.Operation.TheVariants.{Add}
use Rattle.wasm_tree.specs.declared.store.Value.{Value}
use Rattle.wasm_tree.specs.declared.store.Value.TheVariants.{I32, I64}
use Rattle.wasm_tree.specs.Machine.{bytes_at}
use Rattle.wasm_tree.specs.Numbers.{load_size, load_number as loads}
use Rattle.law_effect.specs.Effect.{State as Target}
use Rattle.law_effect.proofs.Steps.{i32_runs, i64_runs, number_runs, load_runs, global_runs, two_32}
use Rattle.typed_tree.specs.declared.types.TypeNo.{TypeNo}
use Rattle.typed_tree.specs.declared.meaning.Variable.{Variable}
use Rattle.layout_storage.specs.Types.{Ty, Scalar, Natural, Integer, Between, Callable, Cell, row, component, IsScalar}
use Rattle.layout_storage.specs.Sizes.{size, offset, width, bytes_in, room_for}
use Rattle.layout_storage.specs.Shapes.{tree}
use Rattle.def_meaning.specs.Store.{Location}
use Rattle.def_meaning.specs.Answer.{State as Source}
use Rattle.law_memory.specs.Cells as cells
use Rattle.law_memory.specs.Relation.{Says}
use Rattle.law_memory.proofs.Cells.{fetch_parts}
use Rattle.law_memory.proofs.Places.{inside}
use Rattle.law_memory.proofs.Worlds.{lies}
use Rattle.def_scheme.specs.Coded.{raise_address, number, operation}
use Rattle.def_scheme.specs.Cells.{load_scalar, load_room, load_of, is_nought, load_code, load_tree}
use Rattle.def_scheme.specs.Exprs.{global_code, base_global, variables_row}
use Rattle.law_simulation.specs.Scene.{Scene, calls, runs, place, HasHelpers, AreSmall, IsCell, IsGlobal, word, Stands, GivesNumber, GivesPlace}
use Rattle.law_simulation.proofs.Operators.{operation_runs}

module _ (k : Scene) (has : HasHelpers k) (small : AreSmall k.setting.home.types) (room : k.limit < 2 ^ 32) where
  -- each location lies below the end of the memory
  pub place_small : (s : Source) (st : Target) → Stands k s st → (l : Location) (t : Ty)
      → component (row k.world) l ≡ Some t → place k l + size t < 2 ^ 32
  place_small s st h l t e = let i = inside (row k.world) t l e in omega (arith, i, h.holds.room, h.long, room)

  -- an address is raised
  pub raised_runs : (a n b : ℕ) (rest : List Instr) (st : Target) (stack : List Value) → a + n ≡ b → b < 2 ^ 32
      → runs k (raise_address n ++ rest) st (stack ++ I32 a ∷ []) ≡ runs k rest st (stack ++ I32 b ∷ [])
  raised_runs a n b rest st stack e less =
      let f : (a + n) % 2 ^ 32 ≡ b = omega (arith, e, less) in
      i32_runs k.modules k.fixed k.turns (calls k) k.own (instr.Numeric numeric.I32Add ∷ rest) st n
      (stack ++ I32 a ∷ [])
      ∙ number_runs k.modules k.fixed k.turns (calls k) k.own rest st numeric.I32Add
      ((stack ++ I32 a ∷ []) ++ I32 n ∷ []) stack (I32 ((a + n) % 2 ^ 32))
      (two_32 stack a n (λ i j. I32 ((i + j) % 2 ^ 32)))
      ∙ ap (λ (i : ℕ). runs k rest st (stack ++ I32 i ∷ [])) f

  -- ---- the cell of a scalar is read

  load_one : (c : Scalar) (a : ℕ) (bytes : List ℕ) (rest : List Instr) (st : Target) (stack : List Value)
      → bytes_at (load_size (load_of c)) a st.bytes ≡ Some bytes
      → runs k (instr.Load (load_of c) ∷ rest) st (stack ++ I32 a ∷ [])
      ≡ runs k rest st (stack ++ I64 (loads (load_of c) bytes) ∷ [])
  load_one c a bytes rest st stack e = load_runs k.modules k.fixed k.turns (calls k) k.own rest st (load_of c) a bytes
      stack (has.memory st.bytes) e

  -- a lower bound of 0 is not added
  pub nought_word : (l : ℤ) → is_nought l ≡ true → l ≡ pos 0
  nought_word l e = grind (arith, e)

  abbrev Fetched : Scalar → (a : ℕ) → (v : ℤ) → Target → Type 0
  Fetched c a v st = (bytes : List ℕ) × (bytes_at (load_size (cells.load_of c)) a st.bytes ≡ Some bytes)
      × (cells.raise_cell c (loads (cells.load_of c) bytes) ≡ word v)

  abbrev FetchedPlain : Scalar → (a : ℕ) → (v : ℤ) → Target → Type 0
  FetchedPlain c a v st = (bytes : List ℕ) × (bytes_at (load_size (load_of c)) a st.bytes ≡ Some bytes)
      × (loads (load_of c) bytes ≡ word v)

  -- a cell of numbers from 0 is one of numbers without a lower bound
  fetch_nought : (g v : ℤ) (a : ℕ) (st : Target) → IsScalar (Between (pos 0) g) → ((b : ℕ) → byte b st.bytes < 256)
      → a + width (Between (pos 0) g) ≤ length st.bytes → Says k.program (Between (pos 0) g) a v st.bytes
      → FetchedPlain (Between (pos 0) g) a v st
  fetch_nought (negsuc g) v a st ok bytes fits says = let some = ok.some in absurd (omega (arith, ints))
  fetch_nought (pos g) v a st ok bytes fits says =
      let same : unsigned_abs (pos g -ℤ pos 0) ≡ g = omega (arith, ints) in
      let high = ok.high in
      let plain : IsScalar (Natural g) = record {
        low = omega (arith, ints);
        high = high;
        some = omega (arith, ints);
        narrow = omega (arith, ints);
      } in
      let width_is : width (Between (pos 0) (pos g)) ≡ width (Natural g) = ap (λ (n : ℕ). bytes_in (room_for n)) same in
      let value : pos (cells.number (width (Natural g)) a st.bytes) ≡ v =
      ap (λ (n : ℕ). pos (cells.number n a st.bytes)) (sym width_is)
      ∙ plus_nought (cells.number (width (Between (pos 0) (pos g))) a st.bytes) ∙ says.value
      in
      let p = fetch_parts k.program (Natural g) a v st.bytes plain bytes (omega (arith, fits, width_is))
      (record { value = value; within = record { low = says.within.low; high = says.within.high }; means = tt }) in (
        p.0,
        ap (λ (n : ℕ). bytes_at (load_size (load_room (room_for n))) a st.bytes) same
            ∙ p.1,
        ap (λ (n : ℕ). loads (load_room (room_for n)) p.0) same ∙ p.2,
      )
    where
      plus_nought : (n : ℕ) → pos n ≡ pos 0 +ℤ pos n
      plus_nought n = omega (arith, ints)

  between_runs : (l g v : ℤ) (a : ℕ) (rest : List Instr) (st : Target) (stack : List Value)
      → Fetched (Between l g) a v st → (l ≡ pos 0 → FetchedPlain (Between l g) a v st)
      → (b : Bool) → is_nought l ≡ b → runs k
      ((instr.Load (load_of (Between l g)) ∷ (if b then [] else number l ∷ operation Add ∷ [])) ++ rest) st
      (stack ++ I32 a ∷ []) ≡ runs k rest st (stack ++ I64 (word v) ∷ [])
  between_runs l g v a rest st stack p plain true e =
      let q = plain (nought_word l e) in
      load_one (Between l g) a q.0 rest st stack q.1 ∙ ap (λ (i : ℕ). runs k rest st (stack ++ I64 i ∷ [])) q.2
  between_runs l g v a rest st stack p plain false e =
      let n : ℕ = loads (load_of (Between l g)) p.0 in
      load_one (Between l g) a p.0 (number l ∷ operation Add ∷ rest) st stack p.1
      ∙ i64_runs k.modules k.fixed k.turns (calls k) k.own (operation Add ∷ rest) st (word l) (stack ++ I64 n ∷ [])
      ∙ operation_runs k has small Add n (word l) (word v) rest st stack (ap Some p.2)

  scalar_runs : (c : Scalar) (a : ℕ) (v : ℤ) (rest : List Instr) (st : Target) (stack : List Value) → IsScalar c
      → ((b : ℕ) → byte b st.bytes < 256) → a + width c ≤ length st.bytes → Says k.program c a v st.bytes
      → runs k (load_scalar c ++ rest) st (stack ++ I32 a ∷ []) ≡ runs k rest st (stack ++ I64 (word v) ∷ [])
  scalar_runs (Natural g) a v rest st stack ok bytes fits says =
      let p = fetch_parts k.program (Natural g) a v st.bytes ok bytes fits says in
      load_one (Natural g) a p.0 rest st stack p.1 ∙ ap (λ (i : ℕ). runs k rest st (stack ++ I64 i ∷ [])) p.2
  scalar_runs Integer a v rest st stack ok bytes fits says =
      let p = fetch_parts k.program Integer a v st.bytes ok bytes fits says in
      load_one Integer a p.0 rest st stack p.1 ∙ ap (λ (i : ℕ). runs k rest st (stack ++ I64 i ∷ [])) p.2
  scalar_runs (Between l g) a v rest st stack ok bytes fits says =
      between_runs l g v a rest st stack (fetch_parts k.program (Between l g) a v st.bytes ok bytes fits says)
      (λ e. plain l e ok fits says) (is_nought l) refl
    where
      plain : (l : ℤ) → l ≡ pos 0 → IsScalar (Between l g) → a + width (Between l g) ≤ length st.bytes
          → Says k.program (Between l g) a v st.bytes → FetchedPlain (Between l g) a v st
      plain l e = subst (λ (l : ℤ). IsScalar (Between l g) → a + width (Between l g) ≤ length st.bytes
          → Says k.program (Between l g) a v st.bytes → FetchedPlain (Between l g) a v st) (sym e)
          (λ ok fits says. fetch_nought g v a st ok bytes fits says)
  scalar_runs (Callable h) a v rest st stack ok bytes fits says =
      let p = fetch_parts k.program (Callable h) a v st.bytes ok bytes fits says in
      load_one (Callable h) a p.0 rest st stack p.1 ∙ ap (λ (i : ℕ). runs k rest st (stack ++ I64 i ∷ [])) p.2

  -- a scalar variable is loaded
  pub cell_runs : (t : TypeNo) (c : Scalar) → tree k.setting.home.types t ≡ Cell c → IsScalar c
      → (l : Location) (s : Source) (st : Target) → Stands k s st → component (row k.world) l ≡ Some (Cell c)
      → (rest : List Instr) (stack : List Value)
      → runs k (load_code k.setting.home.types t ++ rest) st (stack ++ I32 (place k l) ∷ [])
      ≡ runs k rest st (stack ++ I64 (word (s.store l)) ∷ [])
  unfolding size
  cell_runs t c is scalar l s st h type rest stack =
      let says = h.holds.cells l c type in
      ap (λ (u : Ty). runs k (load_tree u ++ rest) st (stack ++ I32 (place k l) ∷ [])) is
      ∙ scalar_runs c (place k l) (s.store l) rest st stack scalar h.holds.bytes
      (lies k.program k.world k.hidden s.store st.bytes h.holds l (Cell c) type)
      (subst (λ (a : ℕ). Says k.program c a (s.store l) st.bytes) (omega arith) says)

  pub loaded_gives : (t : TypeNo) (c : Scalar) → IsCell k.setting.home.types t c
      → (l : Location) (s : Source) (st : Target) → Stands k s st → component (row k.world) l ≡ Some (Cell c)
      → (rest : List Instr) (stack : List Value)
      → GivesNumber k t (runs k rest) stack (s.store l) s
      (runs k (load_code k.setting.home.types t ++ rest) st (stack ++ I32 (place k l) ∷ []))
  loaded_gives t c cell l s st h type rest stack = record {
    st = st;
    stands = h;
    is = cell.values (s.store l) (h.holds.cells l c type).within;
    run = cell_runs t c cell.is cell.scalar l s st h type rest stack;
  }

  -- ---- a variable of a module

  pub global_there : (v : Variable) (l : Location) (t : Ty) → IsGlobal k v l t → (s : Source) (st : Target)
      → Stands k s st → (rest : List Instr) (stack : List Value)
      → runs k (global_code k.setting.home v ++ rest) st stack ≡ runs k rest st (stack ++ I32 (place k l) ∷ [])
  global_there v l t is s st h rest stack =
      global_runs k.modules k.fixed k.turns (calls k) k.own
      (raise_address (offset (variables_row k.setting.home v.home) (v.number ∷ [])) ++ rest) st
      (base_global k.setting.home v.home) (I32 is.base) stack (is.there st.bytes)
      ∙ raised_runs is.base (offset (variables_row k.setting.home v.home) (v.number ∷ [])) (place k l) rest st stack
      is.at (let p = place_small s st h l t is.type in omega (arith, p))

  pub global_gives : (v : Variable) (l : Location) (t : Ty) → IsGlobal k v l t → (s : Source) (st : Target)
      → Stands k s st → (rest : List Instr) (stack : List Value)
      → GivesPlace k t (runs k rest) stack l s (runs k (global_code k.setting.home v ++ rest) st stack)
  global_gives v l t is s st h rest stack = record {
    st = st;
    stands = h;
    type = is.type;
    some = is.some;
    run = global_there v l t is s st h rest stack;
  }
