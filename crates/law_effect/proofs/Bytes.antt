-- Bytes written into a list.
use Rattle.std.proofs.Common.{◌≡◌, ⊎_elim, ℕ, zero, suc, ◌+◌, ◌-◌, ◌<◌, ◌≤◌, ◌⊎◌, List, [], ◌∷◌, ◌++◌, length, take, drop, get_or, sym, ap, ◌∙◌, subst, refl, inl, inr, arith, length-append, length-drop, length-take-le, get_or-drop, get_or-take, get_or-append-add}
use Rattle.std.proofs.lemmas.List.{get_or_append_left, get_or-append_right}
use Rattle.std.proofs.lemmas.Bool.{cases_lt}
use Rattle.wasm_tree.specs.declared.instr.Load.TheVariants as load
use Rattle.wasm_tree.specs.declared.instr.StoreWidth.TheVariants.{One}
use Rattle.wasm_tree.specs.Numbers.{load_number, store_bytes}
use Rattle.wasm_tree.specs.Machine.{paste_items}
use Rattle.law_effect.specs.Bytes.{byte, copied_bytes, cleared_bytes, AreMoved, IsOnly}

front : (m : List ℕ) (a : ℕ) (ys : List ℕ) → a ≤ length m → length (take a m ++ ys) ≡ a + length ys
front m a ys fits = let l = length-take-le a m fits in length-append (take a m) ys ∙ omega arith

pub byte_pasted : (m : List ℕ) (a j : ℕ) (ys : List ℕ) → a ≤ length m → j < length ys
    → byte (a + j) (paste_items m a ys) ≡ get_or ys j 0
byte_pasted m a j ys fits h =
    let l : length (take a m) ≡ a = length-take-le a m fits in
    let f = front m a ys fits in
    get_or_append_left (take a m ++ ys) (drop (a + length ys) m) 0 (a + j) (omega arith)
    ∙ ap (λ i. get_or (take a m ++ ys) (i + j) 0) (sym l) ∙ get_or-append-add (take a m) ys j 0

pub pasted_only : (m : List ℕ) (a : ℕ) (ys : List ℕ) → a + length ys ≤ length m
    → IsOnly a (length ys) m (paste_items m a ys)
pasted_only m a ys fits b h =
    let l : length (take a m) ≡ a = length-take-le a m (omega arith) in
    let f = front m a ys (omega arith) in
    ⊎_elim
    (λ (below : b < a).
    get_or_append_left (take a m ++ ys) (drop (a + length ys) m) 0 b (omega arith)
    ∙ get_or_append_left (take a m) ys 0 b (omega arith) ∙ get_or-take a m b 0 below)
    (λ (above : a + length ys ≤ b).
    get_or-append_right (take a m ++ ys) (drop (a + length ys) m) (a + length ys) b 0 f above
    ∙ get_or-drop (a + length ys) m (b - (a + length ys)) 0 ∙ ap (λ i. byte i m) (omega arith))
    h

pub length-pasted : (m : List ℕ) (a : ℕ) (ys : List ℕ) → a + length ys ≤ length m
    → length (paste_items m a ys) ≡ length m
length-pasted m a ys fits =
    let f = front m a ys (omega arith) in
    length-append (take a m ++ ys) (drop (a + length ys) m)
    ∙ ap (λ n. length (take a m ++ ys) + n) (length-drop (a + length ys) m) ∙ omega arith

pub small_pasted : (m : List ℕ) (a : ℕ) (ys : List ℕ) → a + length ys ≤ length m → ((b : ℕ) → byte b m < 256)
    → ((j : ℕ) → j < length ys → get_or ys j 0 < 256) → (b : ℕ) → byte b (paste_items m a ys) < 256
small_pasted m a ys fits small new b =
    ⊎_elim
    (λ (below : b < a). subst (λ x. x < 256) (sym (pasted_only m a ys fits b (inl below))) (small b))
    (λ (ge : a ≤ b). ⊎_elim
    (λ (mid : b < a + length ys).
    let e : byte b (paste_items m a ys) ≡ get_or ys (b - a) 0 = ap (λ i. byte i (paste_items m a ys)) (omega arith)
    ∙ byte_pasted m a (b - a) ys (omega arith) (omega arith) in
    subst (λ x. x < 256) (sym e) (new (b - a) (omega arith)))
    (λ (above : a + length ys ≤ b). subst (λ x. x < 256) (sym (pasted_only m a ys fits b (inr above))) (small b))
    (cases_lt b (a + length ys)))
    (cases_lt b a)

-- a byte, loaded and stored
pub same_byte : (a : ℕ) (m : List ℕ) → byte a m < 256
    → store_bytes One (load_number load.I64From8U (take 1 (drop a m))) ≡ byte a m ∷ []
same_byte a m small =
    let e : load_number load.I64From8U (take 1 (drop a m)) ≡ byte a m = get_or-take 1 (drop a m) 0 0 (omega arith)
    ∙ get_or-drop a m 0 0 ∙ ap (λ i. byte i m) (omega arith) in
    ap (λ v. store_bytes One v) e ∙ ap (λ v. v ∷ []) (omega arith)

pub one_byte : (b : ℕ) → b < 256 → (j : ℕ) → j < 1 → get_or (b ∷ []) j 0 < 256
one_byte b h zero l = h
one_byte b h (suc j) l = absurd (omega arith)

pub byte_part : (n a j : ℕ) (m : List ℕ) → j < n → get_or (take n (drop a m)) j 0 ≡ byte (a + j) m
byte_part n a j m h = get_or-take n (drop a m) j 0 h ∙ get_or-drop a m j 0

pub part0 : (n a : ℕ) (m : List ℕ) → 0 < n → get_or (take n (drop a m)) 0 0 ≡ byte a m
part0 n a m h = byte_part n a 0 m h ∙ ap (λ i. byte i m) (omega arith)

-- ---- bytes cleared and copied one by one

pub cleared_length : (k to : ℕ) (m : List ℕ) → to + k ≤ length m → length (cleared_bytes k to m) ≡ length m
unfolding cleared_bytes
cleared_length zero to m h = refl
cleared_length (suc k) to m h =
    let l = length-pasted m to (0 ∷ []) (omega arith) in
    cleared_length k (to + 1) (paste_items m to (0 ∷ [])) (omega arith) ∙ l

pub cleared_small : (k to : ℕ) (m : List ℕ) → to + k ≤ length m → ((a : ℕ) → byte a m < 256) → (a : ℕ)
    → byte a (cleared_bytes k to m) < 256
unfolding cleared_bytes
cleared_small zero to m h small = small
cleared_small (suc k) to m h small =
    let l = length-pasted m to (0 ∷ []) (omega arith) in
    cleared_small k (to + 1) (paste_items m to (0 ∷ [])) (omega arith)
    (small_pasted m to (0 ∷ []) (omega arith) small (one_byte 0 (omega arith)))

pub cleared_only : (k to : ℕ) (m : List ℕ) → to + k ≤ length m → IsOnly to k m (cleared_bytes k to m)
unfolding cleared_bytes
cleared_only zero to m h b o = refl
cleared_only (suc k) to m h b o =
    let l = length-pasted m to (0 ∷ []) (omega arith) in
    cleared_only k (to + 1) (paste_items m to (0 ∷ [])) (omega arith) b
    (⊎_elim (λ x. inl (omega arith)) (λ x. inr (omega arith)) o)
    ∙ pasted_only m to (0 ∷ []) (omega arith) b (⊎_elim (λ x. inl (omega arith)) (λ x. inr (omega arith)) o)

pub cleared_zero : (k to : ℕ) (m : List ℕ) → to + k ≤ length m → (j : ℕ) → j < k
    → byte (to + j) (cleared_bytes k to m) ≡ 0
unfolding cleared_bytes
cleared_zero zero to m h j less = absurd (omega arith)
cleared_zero (suc k) to m h zero less =
    let l = length-pasted m to (0 ∷ []) (omega arith) in
    cleared_only k (to + 1) (paste_items m to (0 ∷ [])) (omega arith) (to + 0) (inl (omega arith))
    ∙ byte_pasted m to 0 (0 ∷ []) (omega arith) (omega arith)
cleared_zero (suc k) to m h (suc j) less =
    let l = length-pasted m to (0 ∷ []) (omega arith) in
    ap (λ b. byte b (cleared_bytes k (to + 1) (paste_items m to (0 ∷ [])))) (omega arith)
    ∙ cleared_zero k (to + 1) (paste_items m to (0 ∷ [])) (omega arith) j (omega arith)

-- what the copied bytes are: the target may be the source, or lie apart from it
pub copied_length : (k to from : ℕ) (m : List ℕ) → to + k ≤ length m → length (copied_bytes k to from m) ≡ length m
unfolding copied_bytes
copied_length zero to from m h = refl
copied_length (suc k) to from m h =
    let l = length-pasted m to (byte from m ∷ []) (omega arith) in
    copied_length k (to + 1) (from + 1) (paste_items m to (byte from m ∷ [])) (omega arith) ∙ l

pub copied_small : (k to from : ℕ) (m : List ℕ) → to + k ≤ length m → ((a : ℕ) → byte a m < 256) → (a : ℕ)
    → byte a (copied_bytes k to from m) < 256
unfolding copied_bytes
copied_small zero to from m h small = small
copied_small (suc k) to from m h small =
    let l = length-pasted m to (byte from m ∷ []) (omega arith) in
    copied_small k (to + 1) (from + 1) (paste_items m to (byte from m ∷ [])) (omega arith)
    (small_pasted m to (byte from m ∷ []) (omega arith) small (one_byte (byte from m) (small from)))

pub copied_only : (k to from : ℕ) (m : List ℕ) → to + k ≤ length m → IsOnly to k m (copied_bytes k to from m)
unfolding copied_bytes
copied_only zero to from m h b o = refl
copied_only (suc k) to from m h b o =
    let l = length-pasted m to (byte from m ∷ []) (omega arith) in
    copied_only k (to + 1) (from + 1) (paste_items m to (byte from m ∷ [])) (omega arith) b
    (⊎_elim (λ x. inl (omega arith)) (λ x. inr (omega arith)) o)
    ∙ pasted_only m to (byte from m ∷ []) (omega arith) b (⊎_elim (λ x. inl (omega arith)) (λ x. inr (omega arith)) o)

pub copied_moved : (k to from : ℕ) (m : List ℕ) → to + k ≤ length m → (to ≤ from) ⊎ (from + k ≤ to)
    → AreMoved k from to m (copied_bytes k to from m)
unfolding copied_bytes
copied_moved zero to from m h o j less = absurd (omega arith)
copied_moved (suc k) to from m h o zero less =
    let m' = paste_items m to (byte from m ∷ []) in
    let l = length-pasted m to (byte from m ∷ []) (omega arith) in
    copied_only k (to + 1) (from + 1) m' (omega arith) (to + 0) (inl (omega arith))
    ∙ byte_pasted m to 0 (byte from m ∷ []) (omega arith) (omega arith) ∙ ap (λ b. byte b m) (omega arith)
copied_moved (suc k) to from m h o (suc j) less =
    let m' = paste_items m to (byte from m ∷ []) in
    let l = length-pasted m to (byte from m ∷ []) (omega arith) in
    ap (λ b. byte b (copied_bytes k (to + 1) (from + 1) m')) (omega arith)
    ∙ copied_moved k (to + 1) (from + 1) m' (omega arith) (⊎_elim (λ x. inl (omega arith)) (λ x. inr (omega arith)) o) j
    (omega arith)
    ∙ pasted_only m to (byte from m ∷ []) (omega arith) (from + 1 + j)
    (⊎_elim (λ x. inr (omega arith)) (λ x. inl (omega arith)) o)
    ∙ ap (λ b. byte b m) (omega arith)
