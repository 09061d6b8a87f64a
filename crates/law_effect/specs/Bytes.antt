-- Bytes in a memory: one of them, bytes copied and cleared one by one, and what a change leaves
-- alone.
use Rattle.std.specs.Prelude.{◌≡◌, ℕ, zero, suc, ◌+◌, ◌<◌, ◌≤◌, ◌⊎◌, List, [], ◌∷◌, slice_index_or}
use Rattle.wasm_tree.specs.Machine.{paste_items}

abbrev pub byte : ℕ → List ℕ → ℕ
byte a bytes = slice_index_or bytes a 0

-- the memory after this many bytes are copied one by one
unfoldable pub copied_bytes : (k to from : ℕ) → List ℕ → List ℕ
copied_bytes zero to from m = m
copied_bytes (suc k) to from m =
    copied_bytes k (to + 1) (from + 1) (paste_items m to (byte from m ∷ []))

-- the memory after this many bytes are set to 0
unfoldable pub cleared_bytes : (k to : ℕ) → List ℕ → List ℕ
cleared_bytes zero to m = m
cleared_bytes (suc k) to m = cleared_bytes k (to + 1) (paste_items m to (0 ∷ []))

-- the bytes from b on in the second memory are those from a on in the first
abbrev pub AreMoved : (n a b : ℕ) → List ℕ → List ℕ → Type 0
AreMoved n a b m m' = (j : ℕ) → j < n → byte (b + j) m' ≡ byte (a + j) m

-- nothing but these bytes is changed
abbrev pub IsOnly : (a n : ℕ) → List ℕ → List ℕ → Type 0
IsOnly a n m m' = (b : ℕ) → (b < a) ⊎ (a + n ≤ b) → byte b m' ≡ byte b m
