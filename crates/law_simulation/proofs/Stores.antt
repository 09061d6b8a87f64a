-- Numbers are stored in the cells of variables.
use Rattle.std.proofs.Common.{◌≡◌, ℕ, ◌+◌, ◌-◌, ◌%◌, ◌^◌, ◌≤◌, ◌<◌, ℤ, pos, Bool, true, false, List, [], ◌∷◌, ◌++◌, length, Some, if◌then◌else◌, refl, sym, ap, ◌∙◌, arith}
use Rattle.std.proofs.lemmas.Int.{ints}
use Rattle.wasm_tree.specs.declared.instr.Instr.{Instr}
use Rattle.wasm_tree.specs.declared.instr.Instr.TheVariants as instr
use Rattle.wasm_tree.specs.declared.instr.Operation.TheVariants.{Sub}
use Rattle.wasm_tree.specs.declared.store.Value.{Value}
use Rattle.wasm_tree.specs.declared.store.Value.TheVariants.{I32, I64}
use Rattle.wasm_tree.specs.Machine.{paste_items}
use Rattle.law_effect.specs.Effect.{State as Target, Effect}
use Rattle.law_effect.proofs.Steps.{i64_runs, store_runs}
use Rattle.typed_tree.specs.declared.types.TypeNo.{TypeNo}
use Rattle.layout_storage.specs.Types.{Ty, Scalar, Natural, Integer, Between, Callable, Cell, row, component, IsScalar, IsOf}
use Rattle.layout_storage.specs.Sizes.{Room, One, Two, Four, room_of, bytes_in, size, width}
use Rattle.layout_storage.specs.Shapes.{tree}
use Rattle.def_meaning.specs.Store.{Location}
use Rattle.def_meaning.specs.Answer.{State as Source}
use Rattle.def_meaning.specs.Statements.{store_number as stores}
use Rattle.law_memory.specs.Cells as cells
use Rattle.law_memory.specs.Relation.{Means}
use Rattle.law_memory.proofs.Cells.{length-put}
use Rattle.law_memory.proofs.Procedures.{number_means}
use Rattle.law_memory.proofs.Worlds.{lies, holds_assigned}
use Rattle.def_scheme.specs.Coded.{number, operation}
use Rattle.def_scheme.specs.Cells.{store_scalar, width_room, is_nought, store_code, store_tree}
use Rattle.law_simulation.specs.Scene.{Scene, calls, runs, place, HasHelpers, IsValue, AreSmall, IsCell, word, Stands}
use Rattle.law_simulation.proofs.Words.{IsWide}
use Rattle.law_simulation.proofs.Operators.{operation_runs, wide, narrow}
use Rattle.law_simulation.proofs.Places.{nought_word}

module _ (k : Scene) (has : HasHelpers k) (small : AreSmall k.setting.home.types) (room : k.limit < 2 ^ 32) where
  abbrev with_bytes : Target → List ℕ → Target
  with_bytes st bytes = record st { bytes = bytes }

  -- so many bytes of a number
  store_one : (r : Room) (a n : ℕ) (rest : List Instr) (st : Target) (stack : List Value)
      → a + bytes_in r ≤ length st.bytes
      → runs k (instr.Store (width_room r) ∷ rest) st ((stack ++ I32 a ∷ []) ++ I64 n ∷ [])
      ≡ runs k rest (with_bytes st (paste_items st.bytes a (cells.stored_in r n))) stack
  store_one One a n rest st stack h = store_runs k.modules k.fixed k.turns (calls k) k.own rest st (width_room One) a n
      stack (has.memory st.bytes) h
  store_one Two a n rest st stack h = store_runs k.modules k.fixed k.turns (calls k) k.own rest st (width_room Two) a n
      stack (has.memory st.bytes) h
  store_one Four a n rest st stack h = store_runs k.modules k.fixed k.turns (calls k) k.own rest st (width_room Four) a
      n stack (has.memory st.bytes) h

  abbrev put : Scalar → ℕ → ℤ → Target → Target
  put c a v st = with_bytes st (cells.put c a (word v) st.bytes)

  nothing_less : (v : ℤ) → IsWide v → word v ≡ (word v + (2 ^ 64 - word (pos 0))) % 2 ^ 64
  nothing_less v w = let l = w.low in let h = w.high in omega (arith, ints)

  between_stores : (l g v : ℤ) (a : ℕ) (rest : List Instr) (st : Target) (stack : List Value) → IsWide v
      → a + width (Between l g) ≤ length st.bytes → (b : Bool) → is_nought l ≡ b
      → runs k (((if b then [] else number l ∷ operation Sub ∷ []) ++ instr.Store (width_room (room_of (Between l g)))
      ∷ []) ++ rest) st ((stack ++ I32 a ∷ []) ++ I64 (word v) ∷ []) ≡ runs k rest (put (Between l g) a v st) stack
  between_stores l g v a rest st stack w fits true e =
      let same : word v ≡ cells.lower_cell (Between l g) (word v) = nothing_less v w
      ∙ ap (λ (z : ℤ). (word v + (2 ^ 64 - word z)) % 2 ^ 64) (sym (nought_word k has small room l e)) in
      store_one (room_of (Between l g)) a (word v) rest st stack fits
      ∙ ap (λ (n : ℕ). runs k rest (with_bytes st (paste_items st.bytes a (cells.stored_in (room_of (Between l g)) n)))
      stack) same
  between_stores l g v a rest st stack w fits false e =
      i64_runs k.modules k.fixed k.turns (calls k) k.own
      (operation Sub ∷ instr.Store (width_room (room_of (Between l g))) ∷ rest) st (word l)
      ((stack ++ I32 a ∷ []) ++ I64 (word v) ∷ [])
      ∙ operation_runs k has small Sub (word v) (word l) (cells.lower_cell (Between l g) (word v))
      (instr.Store (width_room (room_of (Between l g))) ∷ rest) st (stack ++ I32 a ∷ []) refl
      ∙ store_one (room_of (Between l g)) a (cells.lower_cell (Between l g) (word v)) rest st stack fits

  pub scalar_stores : (c : Scalar) (v : ℤ) (a : ℕ) (rest : List Instr) (st : Target) (stack : List Value) → IsWide v
      → a + width c ≤ length st.bytes
      → runs k (store_scalar c ++ rest) st ((stack ++ I32 a ∷ []) ++ I64 (word v) ∷ [])
      ≡ runs k rest (put c a v st) stack
  scalar_stores (Natural g) v a rest st stack w fits = store_one (room_of (Natural g)) a (word v) rest st stack fits
  scalar_stores Integer v a rest st stack w fits = store_one (room_of Integer) a (word v) rest st stack fits
  scalar_stores (Between l g) v a rest st stack w fits = between_stores l g v a rest st stack w fits (is_nought l) refl
  scalar_stores (Callable h) v a rest st stack w fits = store_one (room_of (Callable h)) a (word v) rest st stack fits

  -- a number of a type is stored in a variable of the type
  pub record IsStored (rest : List Instr) (stack : List Value) (s : Source) (r : Effect) : Type 0 where
    pub st : Target
    pub stands : Stands k s st
    pub run : r ≡ runs k rest st stack

  pub cell_stores : (t : TypeNo) (c : Scalar) → tree k.setting.home.types t ≡ Cell c → IsScalar c
      → (l : Location) (v : ℤ) → IsOf c v → Means k.program c v → IsWide v → component (row k.world) l ≡ Some (Cell c)
      → (s : Source) (st : Target) → Stands k s st → (rest : List Instr) (stack : List Value)
      → IsStored rest stack (stores l v s) (runs k (store_code k.setting.home.types t ++ rest) st
      ((stack ++ I32 (place k l) ∷ []) ++ I64 (word v) ∷ []))
  unfolding size
  cell_stores t c is scalar l v within means w type s st h rest stack =
      let fits = lies k.program k.world k.hidden s.store st.bytes h.holds l (Cell c) type in
      record {
        st = put c (place k l) v st;
        stands = record {
          holds = holds_assigned k.program k.world k.hidden s.store st.bytes h.holds l c v scalar within means type;
          long = length-put c (place k l) (word v) st.bytes fits ∙ h.long;
          count = h.count;
          kept = h.kept;
          out = h.out;
        };
        run = ap (λ (u : Ty). runs k (store_tree u ++ rest) st ((stack ++ I32 (place k l) ∷ []) ++ I64 (word v) ∷ []))
            is ∙ scalar_stores c v (place k l) rest st stack w fits;
      }

  pub stored_goes : (t : TypeNo) (c : Scalar) → IsCell k.setting.home.types t c → (l : Location) (v : ℤ)
      → IsValue k.setting.home.types t v → component (row k.world) l ≡ Some (Cell c)
      → (s : Source) (st : Target) → Stands k s st → (rest : List Instr) (stack : List Value)
      → IsStored rest stack (stores l v s) (runs k (store_code k.setting.home.types t ++ rest) st
      ((stack ++ I32 (place k l) ∷ []) ++ I64 (word v) ∷ []))
  stored_goes t c cell l v is type = cell_stores t c cell.is cell.scalar l v (cell.bounds v is)
      (number_means k.program c v cell.number) (wide v (narrow k has small t v is)) type
