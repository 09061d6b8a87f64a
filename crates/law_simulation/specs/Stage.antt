-- While a procedure begins: what the state is, and what each formal leaves.
use Rattle.std.specs.Prelude.{◌≡◌, ℕ, suc, ◌+◌, ◌<◌, ◌^◌, Bool, true, false, List, [], ◌∷◌, ◌++◌, length, slice_get, Some}
use Rattle.wasm_tree.specs.declared.instr.Instr.{Instr}
use Rattle.wasm_tree.specs.declared.instr.Instr.TheVariants.{Call, LocalGet, I32Const}
use Rattle.wasm_tree.specs.declared.store.Value.{Value}
use Rattle.wasm_tree.specs.declared.store.Value.TheVariants.{I32}
use Rattle.wasm_tree.specs.Machine.{global_at}
use Rattle.law_effect.specs.Effect.{State as Target, store_of}
use Rattle.layout_storage.specs.Types.{Ty, Cell, Array, row, component, IsScalar, IsPlain}
use Rattle.layout_storage.specs.Sizes.{size, offset}
use Rattle.layout_storage.specs.Texts.{argument_text}
use Rattle.def_meaning.specs.Store.{Location, Store}
use Rattle.def_meaning.specs.Environment.{Passed, Array as Whole, Text}
use Rattle.def_meaning.specs.Calls.{Entered, with_passed}
use Rattle.law_memory.specs.Relation.{Holds}
use Rattle.def_scheme.specs.Coded.{copy, wrap_word}
use Rattle.def_scheme.specs.Cells.{store_scalar}
use Rattle.def_scheme.specs.Functions.{formal_address, word_kept, open_copied}
use Rattle.law_simulation.specs.Scene.{Scene}
use Rattle.law_simulation.specs.Frames.{Kind, Kept, Alias, Open}
use Rattle.law_simulation.specs.Passing.{Form, ByNumber, ByCopy, ByName, ByArray, Forms}

-- ---- formals by how they are passed

abbrev pub kind_of : Form → Kind
kind_of (ByNumber c) = Kept (Cell c)
kind_of (ByCopy t) = Kept t
kind_of (ByName t) = Alias t
kind_of (ByArray is_var t) = Open t

-- what is copied has no hidden room
abbrev pub IsForm : Form → Type 0
IsForm (ByNumber c) = IsScalar c
IsForm (ByCopy t) = IsPlain t
IsForm (ByName t) = Unit {0}
IsForm (ByArray true t) = Unit {0}
IsForm (ByArray false t) = IsPlain t

abbrev pub AreForms : Forms → Type 0
AreForms [] = Unit {0}
AreForms (f ∷ fs) = IsForm f × AreForms fs

-- the instances that are made for copies of open arrays
abbrev pub copy_of : Form → Passed → List Ty
copy_of (ByArray false t) (Whole l high) = Array (suc high) t ∷ []
copy_of (ByArray false t) (Text text) = Array (length (argument_text text)) t ∷ []
copy_of f p = []

abbrev pub copies_of : Forms → List Passed → List Ty
copies_of [] ps = []
copies_of (f ∷ fs) [] = []
copies_of (f ∷ fs) (p ∷ ps) = copy_of f p ++ copies_of fs ps

-- VAR stands before it
abbrev pub is_name : Form → Bool
is_name (ByNumber c) = false
is_name (ByCopy t) = false
is_name (ByName t) = true
is_name (ByArray is_var t) = is_var

abbrev pub with_forms : (root : ℕ) → Forms → List Passed → Entered → Entered
with_forms root [] ps e = e
with_forms root (f ∷ fs) [] e = e
with_forms root (f ∷ fs) (p ∷ ps) e = with_forms root fs ps (with_passed (is_name f) root e p)

-- the code of a formal, whose first operand is in local x
abbrev pub form_kept : (top : ℕ) → Ty → (v x : ℕ) → Form → List Instr
form_kept top f v x (ByNumber c) = formal_address f v [] ++ (LocalGet x ∷ store_scalar c)
form_kept top f v x (ByCopy t) =
    formal_address f v [] ++ (LocalGet x ∷ wrap_word ∷ I32Const (size t) ∷ Call copy ∷ [])
form_kept top f v x (ByName t) = word_kept f v [] (LocalGet x ∷ [])
form_kept top f v x (ByArray true t) =
    word_kept f v (0 ∷ []) (LocalGet x ∷ []) ++ word_kept f v (1 ∷ []) (LocalGet (suc x) ∷ [])
form_kept top f v x (ByArray false t) = open_copied top (suc top) f v x (size t)

abbrev pub operands_of : Form → ℕ
operands_of (ByNumber c) = 1
operands_of (ByCopy t) = 1
operands_of (ByName t) = 1
operands_of (ByArray is_var t) = 2

abbrev pub forms_kept : (top : ℕ) → Ty → (v x : ℕ) → Forms → List Instr
forms_kept top f v x [] = []
forms_kept top f v x (a ∷ others) =
    form_kept top f v x a ++ forms_kept top f (suc v) (x + operands_of a) others

-- ---- what is known in between

-- the functions of a procedure: the memory's end is in a global, and numbers of 32 bits do not wrap
pub record HasLimit (k : Scene) : Type 0 where
  pub there : (bytes : List ℕ) → global_at (store_of k.fixed bytes) k.own 0 ≡ Some (I32 k.limit)
  pub small : k.limit < 2 ^ 31

-- the frame with this number is there, local `top` has the end of the instances that live, and the
-- arguments are as given
pub record Stage (k : Scene) (root top : ℕ) (frame : Ty) (given : List Value) (out : List ℕ)
    (world : List Ty) (x : Location → ℕ → ℕ) (s : Store) (st : Target) : Type 0 where
  pub holds : Holds k.program world x s st.bytes
  pub long : length st.bytes ≡ k.limit
  pub own : component (row world) (root ∷ []) ≡ Some frame
  pub below : root < length world
  pub count : length st.locals ≡ k.locals
  pub at : slice_get st.locals 0 ≡ Some (I32 (offset (row world) (root ∷ [])))
  pub free : slice_get st.locals top ≡ Some (I32 (size (row world)))
  pub kept : (i : ℕ) → 0 < i → i < top → slice_get st.locals i ≡ slice_get given i
  pub shown : st.out ≡ out

-- hidden room of older instances, and of the own variables before this one, is as it was
pub record SameBelow (root v : ℕ) (x x' : Location → ℕ → ℕ) : Type 0 where
  pub older : (i : ℕ) (p : Location) (k : ℕ) → i < root → x' (i ∷ p) k ≡ x (i ∷ p) k
  pub own : (j : ℕ) (r : Location) (k : ℕ) → j < suc v → x' (root ∷ j ∷ r) k ≡ x (root ∷ j ∷ r) k
