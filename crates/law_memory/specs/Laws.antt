-- What is proved of stores and of the memories that hold them.
use Rattle.std.specs.Prelude.{◌≡◌, ℕ, ◌+◌, ◌^◌, ◌<◌, ◌≤◌, ℤ, List, [], ◌∷◌, ◌++◌, length, get_or, Some}
use Rattle.std.specs.Int.{w64, to_le_bytes}
use Rattle.wasm_tree.specs.declared.instr.Load.TheVariants as load
use Rattle.wasm_tree.specs.Numbers.{load_number}
use Rattle.wasm_tree.specs.Machine.{bytes_at, paste_items}
use Rattle.law_effect.specs.Bytes.{copied_bytes, cleared_bytes}
use Rattle.layout_storage.specs.Types.{Ty, Scalar, Natural, Callable, Cell, Hidden, Heading, row, frame_of, component, IsScalar, IsOf, IsPlain, IsFit}
use Rattle.def_meaning.specs.Environment.{Modules}
use Rattle.def_meaning.specs.Store.{Location, Store, overlay, assign_number, copy_whole, fresh}
use Rattle.layout_storage.specs.Sizes.{Four, size, offset}
use Rattle.law_memory.specs.Cells.{word, stored_in, fetch_cell, put}
use Rattle.law_memory.specs.Relation.{IsProcedureValue, Means, Holds, Keeps}

-- a variable is read from its cell
abbrev pub Reads : Type 0
Reads =
    (p : Modules) (world : List Ty) (x : Location → ℕ → ℕ) (s : Store) (m : List ℕ)
    → Holds p world x s m
    → (l : Location) (c : Scalar)
    → IsScalar c
    → component (row world) l ≡ Some (Cell c)
    → fetch_cell c (offset (row world) l) m ≡ Some (word (s l))

-- if it is of a procedure type, it holds no procedure, or one with the heading of the type
abbrev pub ReadsProcedure : Type 0
ReadsProcedure =
    (p : Modules) (world : List Ty) (x : Location → ℕ → ℕ) (s : Store) (m : List ℕ)
    → Holds p world x s m
    → (l : Location) (h : Heading)
    → component (row world) l ≡ Some (Cell (Callable h))
    → IsProcedureValue p h (s l)

-- and written to it: all other variables are as they were
abbrev pub Assigns : Type 0
Assigns =
    (p : Modules) (world : List Ty) (x : Location → ℕ → ℕ) (s : Store) (m : List ℕ)
    → Holds p world x s m
    → (l : Location) (c : Scalar) (v : ℤ)
    → IsScalar c
    → IsOf c v
    → Means p c v
    → component (row world) l ≡ Some (Cell c)
    → Holds p world x (assign_number l v s) (put c (offset (row world) l) (word v) m)

-- the bytes of a whole array or record are copied, also if it is assigned to itself
abbrev pub Copies : Type 0
Copies =
    (p : Modules) (world : List Ty) (x : Location → ℕ → ℕ) (s : Store) (m : List ℕ)
    → Holds p world x s m
    → (to from : Location) (t : Ty)
    → IsPlain t
    → component (row world) to ≡ Some t
    → component (row world) from ≡ Some t
    → Holds p world x (copy_whole to from s)
    (copied_bytes (size t) (offset (row world) to) (offset (row world) from) m)

-- an activation's variables are fresh in cleared bytes behind the other instances
abbrev pub Begins : Type 0
Begins =
    (p : Modules) (world : List Ty) (x : Location → ℕ → ℕ) (s : Store) (m : List ℕ)
    → Holds p world x s m
    → (t : Ty)
    → IsFit t
    → size (row world) + size t ≤ length m
    → Holds p (world ++ t ∷ []) (overlay (length world ∷ []) (λ r k. 0) x)
    (overlay (length world ∷ []) (fresh t) s) (cleared_bytes (size t) (size (row world)) m)

-- the last instances end
abbrev pub Ends : Type 0
Ends =
    (p : Modules) (world more : List Ty) (x x' : Location → ℕ → ℕ) (s : Store) (m : List ℕ)
    → ((i : ℕ) (p : Location) (k : ℕ) → i < length world → x' (i ∷ p) k ≡ x (i ∷ p) k)
    → Holds p (world ++ more) x' s m
    → Holds p world x s m

-- the argument for a value formal is copied behind the other instances: its own instance, with what
-- it had
abbrev pub CopiesArgument : Type 0
CopiesArgument =
    (p : Modules) (world : List Ty) (x : Location → ℕ → ℕ) (s : Store) (m : List ℕ)
    → Holds p world x s m
    → (from : Location) (t : Ty)
    → IsPlain t
    → component (row world) from ≡ Some t
    → size (row world) + size t ≤ length m
    → Holds p (world ++ t ∷ []) (overlay (length world ∷ []) (λ r k. 0) x)
    (overlay (length world ∷ []) (λ r. s (from ++ r)) s)
    (copied_bytes (size t) (size (row world)) (offset (row world) from) m)

-- bytes are written into room in which no variable stands: all variables are as they were
abbrev pub WritesHidden : Type 0
WritesHidden =
    (p : Modules) (world : List Ty) (x : Location → ℕ → ℕ) (s : Store) (m : List ℕ)
    → Holds p world x s m
    → (to : Location) (n : ℕ) (ys : List ℕ)
    → component (row world) to ≡ Some (Hidden n)
    → length ys ≡ n
    → ((j : ℕ) → j < length ys → get_or ys j 0 < 256)
    → Holds p world (overlay to (λ r k. get_or ys k 0) x) s
    (paste_items m (offset (row world) to) ys)

-- an address or a HIGH in this room is read as it was written
abbrev pub ReadsAddress : Type 0
ReadsAddress =
    (p : Modules) (world : List Ty) (x : Location → ℕ → ℕ) (s : Store) (m : List ℕ)
    → Holds p world x s m
    → (l : Location) (n : ℕ)
    → component (row world) l ≡ Some (Hidden 4)
    → Keeps x l (stored_in Four n)
    → n < 2 ^ 32
    → fetch_cell (Natural 4294967295) (offset (row world) l) m ≡ Some n

-- and the link of a frame, which stands in its first eight bytes
abbrev pub ReadsLink : Type 0
ReadsLink =
    (p : Modules) (world : List Ty) (x : Location → ℕ → ℕ) (s : Store) (m : List ℕ)
    → Holds p world x s m
    → (root : ℕ) (vars : List Ty) (n : ℕ)
    → component (row world) (root ∷ []) ≡ Some (frame_of vars)
    → Keeps x (root ∷ 0 ∷ 0 ∷ []) (to_le_bytes w64 n)
    → n < 2 ^ 64
    → (bytes : List ℕ) × (bytes_at 8 (offset (row world) (root ∷ [])) m ≡ Some bytes)
    × (load_number load.I64 bytes ≡ n)

-- a memory of zeros holds what a fresh instance of each type has, so there are states in which the
-- laws speak
abbrev pub Starts : Type 0
Starts =
    (p : Modules) (t : Ty) (m : List ℕ) → IsFit t → size t ≤ length m → ((a : ℕ) → get_or m a 0 ≡ 0)
    → Holds p (t ∷ []) (λ l k. 0) (λ l. fresh (row (t ∷ [])) l) m
