-- Loads and stores of cells.
use Rattle.std.proofs.Common.{◌≡◌, ⊎_elim, ℕ, zero, suc, ◌+◌, ◌-◌, ◌*◌, ◌%◌, ◌^◌, ◌<◌, ◌≤◌, ℤ, pos, negsuc, ◌+ℤ◌, ◌-ℤ◌, ◌≤ℤ◌, unsigned_abs, List, length, take, drop, get_or, Some, None, option_map, true, nat_lt, nat_le, if◌then◌else◌, refl, sym, ap, ◌∙◌, subst, arith}
use Rattle.std.proofs.lemmas.Bool.{lt-ltb, le-ltb, le-leb, cases_lt}
use Rattle.std.proofs.lemmas.Int.{ints, to_z-of_z}
use Rattle.std.proofs.Math.Nat.{pow-succ'}
use lib.Signed.{mag}
use Rattle.std.specs.Int.{w8, w16, w32, w64, cast_signed, cast_unsigned, from_le_bytes}
use Rattle.wasm_tree.specs.Machine.{bytes_at, paste_items}
use Rattle.wasm_tree.specs.Numbers.{load_size, load_number, extend_number}
use Rattle.law_effect.specs.Bytes.{byte, IsOnly}
use Rattle.law_effect.proofs.Bytes.{byte_part, byte_pasted, pasted_only, length-pasted, small_pasted, part0}
use Rattle.layout_storage.specs.Types.{Scalar, Natural, Integer, Between, Callable, IsOf, IsScalar}
use Rattle.def_meaning.specs.Environment.{Modules}
use Rattle.layout_storage.specs.Sizes.{Room, One, Two, Four, room_for, bytes_in, room_of, width, value_of}
use Rattle.law_memory.specs.Cells.{number, word, unsigned_load, load_of, raise_cell, lower_cell, fetch_cell, put, stored_in}
use Rattle.law_memory.specs.Relation.{Means, Says}

-- ---- numbers

one : (a : ℕ) (m : List ℕ) → number 1 a m ≡ byte a m
unfolding number
one a m = omega arith

two : (a : ℕ) (m : List ℕ) → number 2 a m ≡ byte a m + byte (a + 1) m * 256
unfolding number
two a m = omega arith

pub four : (a : ℕ) (m : List ℕ) → number 4 a m
    ≡ byte a m + byte (a + 1) m * 256 + byte (a + 2) m * 65536 + byte (a + 3) m * 16777216
unfolding number
four a m =
    let e : byte (a + 1 + 1) m ≡ byte (a + 2) m = ap (λ i. byte i m) (omega arith) in
    let f : byte (a + 1 + 1 + 1) m ≡ byte (a + 3) m = ap (λ i. byte i m) (omega arith) in
    omega arith

from_1 : (a : ℕ) (m : List ℕ) → from_le_bytes w8 (take 1 (drop a m)) ≡ number 1 a m
from_1 a m = part0 1 a m (omega arith) ∙ sym (one a m)

from_2 : (a : ℕ) (m : List ℕ) → from_le_bytes w16 (take 2 (drop a m)) ≡ number 2 a m
from_2 a m =
    let p = part0 2 a m (omega arith) in
    let q = byte_part 2 a 1 m (omega arith) in
    let e = two a m in
    omega arith

from_4 : (a : ℕ) (m : List ℕ) → from_le_bytes w32 (take 4 (drop a m)) ≡ number 4 a m
from_4 a m =
    let p = part0 4 a m (omega arith) in
    let q = byte_part 4 a 1 m (omega arith) in
    let r = byte_part 4 a 2 m (omega arith) in
    let s = byte_part 4 a 3 m (omega arith) in
    let e = four a m in
    omega arith

-- what stands where a number was stored
pub number_stored : (r : Room) (a n : ℕ) (m : List ℕ) → a + bytes_in r ≤ length m
    → number (bytes_in r) a (paste_items m a (stored_in r n)) ≡ n % 256 ^ bytes_in r
number_stored One a n m fits =
    let p = byte_pasted m a 0 (stored_in One n) (omega arith) (omega arith) in
    let q : byte (a + 0) (paste_items m a (stored_in One n)) ≡ byte a (paste_items m a (stored_in One n)) =
    ap (λ i. byte i (paste_items m a (stored_in One n))) (omega arith) in
    let e = one a (paste_items m a (stored_in One n)) in
    omega arith
number_stored Two a n m fits =
    let p = byte_pasted m a 0 (stored_in Two n) (omega arith) (omega arith) in
    let q : byte (a + 0) (paste_items m a (stored_in Two n)) ≡ byte a (paste_items m a (stored_in Two n)) =
    ap (λ i. byte i (paste_items m a (stored_in Two n))) (omega arith) in
    let p1 = byte_pasted m a 1 (stored_in Two n) (omega arith) (omega arith) in
    let e = two a (paste_items m a (stored_in Two n)) in
    omega arith
number_stored Four a n m fits =
    let p = byte_pasted m a 0 (stored_in Four n) (omega arith) (omega arith) in
    let q : byte (a + 0) (paste_items m a (stored_in Four n)) ≡ byte a (paste_items m a (stored_in Four n)) =
    ap (λ i. byte i (paste_items m a (stored_in Four n))) (omega arith) in
    let p1 = byte_pasted m a 1 (stored_in Four n) (omega arith) (omega arith) in
    let p2 = byte_pasted m a 2 (stored_in Four n) (omega arith) (omega arith) in
    let p3 = byte_pasted m a 3 (stored_in Four n) (omega arith) (omega arith) in
    let e = four a (paste_items m a (stored_in Four n)) in
    omega arith

pub number_below : (k a : ℕ) (m : List ℕ) → ((b : ℕ) → byte b m < 256) → number k a m < 256 ^ k
unfolding number
number_below zero a m small = omega arith
number_below (suc k) a m small =
    let h = number_below k (a + 1) m small in
    let b = small a in
    let e = pow-succ' 256 k in
    omega arith

-- ---- values

raised_is : (c : Scalar) (a : ℕ) (m : List ℕ) → IsScalar c → ((b : ℕ) → byte b m < 256) → a + width c ≤ length m
    → raise_cell c (load_number (load_of c) (take (load_size (load_of c)) (drop a m)))
    ≡ word (value_of c (number (width c) a m))
raised_is (Natural g) a m ok small fits = unsigned (room_for g)
  where
    unsigned : (r : Room) → load_number (unsigned_load r) (take (load_size (unsigned_load r)) (drop a m))
        ≡ number (bytes_in r) a m
    unsigned One = from_1 a m
    unsigned Two = from_2 a m
    unsigned Four = from_4 a m
raised_is Integer a m ok small fits = ap extend_number (from_4 a m)
raised_is (Between l g) a m ok small fits = unsigned (room_of (Between l g))
  where
    below : (r : Room) → number (bytes_in r) a m < 2 ^ 32
    below One = let h = number_below 1 a m small in omega arith
    below Two = let h = number_below 2 a m small in omega arith
    below Four = number_below 4 a m small

    sums : (n : ℕ) → n < 2 ^ 32 → (n + word l) % 2 ^ 64 ≡ word (l +ℤ pos n)
    sums n h = let low = ok.low in let high = ok.high in let some = ok.some in omega (arith, ints)

    unsigned : (r : Room) → (load_number (unsigned_load r) (take (load_size (unsigned_load r)) (drop a m)) + word l) % 2
        ^ 64 ≡ word (l +ℤ pos (number (bytes_in r) a m))
    unsigned One = ap (λ n. (n + word l) % 2 ^ 64) (from_1 a m) ∙ sums _ (below One)
    unsigned Two = ap (λ n. (n + word l) % 2 ^ 64) (from_2 a m) ∙ sums _ (below Two)
    unsigned Four = ap (λ n. (n + word l) % 2 ^ 64) (from_4 a m) ∙ sums _ (below Four)
raised_is (Callable h) a m ok small fits = from_4 a m

load_width : (c : Scalar) → load_size (load_of c) ≡ width c
load_width (Natural g) = unsigned_width (room_for g)
  where
    unsigned_width : (r : Room) → load_size (unsigned_load r) ≡ bytes_in r
    unsigned_width One = refl
    unsigned_width Two = refl
    unsigned_width Four = refl
load_width Integer = refl
load_width (Between l g) = unsigned_width (room_of (Between l g))
  where
    unsigned_width : (r : Room) → load_size (unsigned_load r) ≡ bytes_in r
    unsigned_width One = refl
    unsigned_width Two = refl
    unsigned_width Four = refl
load_width (Callable h) = refl

-- what is loaded from a cell
pub fetch_parts : (program : Modules) → (c : Scalar) (a : ℕ) (v : ℤ) (m : List ℕ) → IsScalar c
    → ((b : ℕ) → byte b m < 256) → a + width c ≤ length m → Says program c a v m → (bytes : List ℕ)
    × (bytes_at (load_size (load_of c)) a m ≡ Some bytes) × (raise_cell c (load_number (load_of c) bytes) ≡ word v)
fetch_parts program c a v m ok small fits says =
    let w = load_width c in
    let there : nat_le (a + load_size (load_of c)) (length m) ≡ true = le-leb _ _ (omega arith) in
    let bytes = take (load_size (load_of c)) (drop a m) in
    (bytes, ap (λ b. if b then Some bytes else None) there, raised_is c a m ok small fits ∙ ap word says.value)

pub fetches : (program : Modules) → (c : Scalar) (a : ℕ) (v : ℤ) (m : List ℕ) → IsScalar c → ((b : ℕ) → byte b m < 256)
    → a + width c ≤ length m → Says program c a v m → fetch_cell c a m ≡ Some (word v)
fetches program c a v m ok small fits says =
    let p = fetch_parts program c a v m ok small fits says in
    ap (λ o. option_map (λ bs. raise_cell c (load_number (load_of c) bs)) o) p.1 ∙ ap Some p.2

-- eight bytes, as the link of a frame has
pub eight : (a : ℕ) (m : List ℕ) → number 8 a m
    ≡ byte a m + byte (a + 1) m * 256 + byte (a + 2) m * 65536 + byte (a + 3) m * 16777216 + byte (a + 4) m * 4294967296
    + byte (a + 5) m * 1099511627776 + byte (a + 6) m * 281474976710656 + byte (a + 7) m * 72057594037927936
unfolding number
eight a m = split a m ∙ ap (λ n. byte a m + byte (a + 1) m * 256 + byte (a + 2) m * 65536 + byte (a + 3) m * 16777216 +
    4294967296 * n) (four (a + 4) m) ∙ tail a m
  where
    split : (a : ℕ) (m : List ℕ) → number 8 a m
        ≡ byte a m + byte (a + 1) m * 256 + byte (a + 2) m * 65536 + byte (a + 3) m * 16777216 + 4294967296 * number 4
        (a + 4) m
    split a m =
        let e : byte (a + 1 + 1) m ≡ byte (a + 2) m = ap (λ i. byte i m) (omega arith) in
        let f : byte (a + 1 + 1 + 1) m ≡ byte (a + 3) m = ap (λ i. byte i m) (omega arith) in
        let g : number 4 (a + 1 + 1 + 1 + 1) m ≡ number 4 (a + 4) m = ap (λ i. number 4 i m) (omega arith) in
        omega arith

    tail : (a : ℕ) (m : List ℕ) → byte a m + byte (a + 1) m * 256 + byte (a + 2) m * 65536 + byte (a + 3) m * 16777216 +
        4294967296 * (byte (a + 4) m + byte (a + 4 + 1) m * 256 + byte (a + 4 + 2) m * 65536 + byte (a + 4 + 3) m *
        16777216) ≡ byte a m + byte (a + 1) m * 256 + byte (a + 2) m * 65536 + byte (a + 3) m * 16777216 + byte (a + 4)
        m * 4294967296 + byte (a + 5) m * 1099511627776 + byte (a + 6) m * 281474976710656 + byte (a + 7) m *
        72057594037927936
    tail a m =
        let e : byte (a + 4 + 1) m ≡ byte (a + 5) m = ap (λ i. byte i m) (omega arith) in
        let f : byte (a + 4 + 2) m ≡ byte (a + 6) m = ap (λ i. byte i m) (omega arith) in
        let g : byte (a + 4 + 3) m ≡ byte (a + 7) m = ap (λ i. byte i m) (omega arith) in
        omega arith

pub from_8 : (a : ℕ) (m : List ℕ) → from_le_bytes w64 (take 8 (drop a m)) ≡ number 8 a m
from_8 a m =
    let p = part0 8 a m (omega arith) in
    let q = byte_part 8 a 1 m (omega arith) in
    let r = byte_part 8 a 2 m (omega arith) in
    let s = byte_part 8 a 3 m (omega arith) in
    let t = byte_part 8 a 4 m (omega arith) in
    let u = byte_part 8 a 5 m (omega arith) in
    let v = byte_part 8 a 6 m (omega arith) in
    let w = byte_part 8 a 7 m (omega arith) in
    let e = eight a m in
    omega arith

room_fits : (g n : ℕ) → g < 2 ^ 32 → n ≤ g → n % 256 ^ bytes_in (room_for g) ≡ n
room_fits g n small le =
    ⊎_elim
    (λ (lt : g < 2 ^ 8). ap (λ b. n % 256 ^ bytes_in (if b then One else (if nat_lt g (2 ^ 16) then Two else Four)))
    (lt-ltb g (2 ^ 8) lt) ∙ omega arith)
    (λ (ge : 2 ^ 8 ≤ g).
    ap (λ b. n % 256 ^ bytes_in (if b then One else (if nat_lt g (2 ^ 16) then Two else Four))) (le-ltb g (2 ^ 8) ge)
    ∙ ⊎_elim
    (λ (lt : g < 2 ^ 16). ap (λ b. n % 256 ^ bytes_in (if b then Two else Four)) (lt-ltb g (2 ^ 16) lt) ∙ omega arith)
    (λ (ge : 2 ^ 16 ≤ g). ap (λ b. n % 256 ^ bytes_in (if b then Two else Four)) (le-ltb g (2 ^ 16) ge) ∙ omega arith)
    (cases_lt g (2 ^ 16)))
    (cases_lt g (2 ^ 8))

mag_below : (v : ℤ) → negsuc 2147483647 ≤ℤ v → v ≤ℤ pos 2147483647 → mag v < 2 ^ 31
mag_below (pos n) l h = omega (arith, ints)
mag_below (negsuc n) l h = omega (arith, ints)

-- what is stored stands for the number
stands_for : (c : Scalar) (v : ℤ) → IsScalar c → IsOf c v → value_of c (lower_cell c (word v) % 256 ^ width c) ≡ v
stands_for (Natural g) v ok is =
    let low = is.low in let high = is.high in let top = ok.high in
    let n : unsigned_abs v ≤ g = omega (arith, ints) in
    let w : word v ≡ unsigned_abs v = omega (arith, ints) in
    let e : word v % 256 ^ bytes_in (room_for g) ≡ unsigned_abs v = ap (λ n. n % 256 ^ bytes_in (room_for g)) w
    ∙ room_fits g (unsigned_abs v) (omega (arith, ints)) n in
    ap pos e ∙ omega (arith, ints)
stands_for Integer v ok is =
    let low = is.low in let high = is.high in
    let e : word v % 2 ^ 32 ≡ cast_unsigned w32 v = omega (arith, ints) in
    ap (cast_signed w32) e ∙ to_z-of_z w32 v (record { sfits = mag_below v low high })
stands_for (Between l g) v ok is =
    let low = is.low in let high = is.high in let bottom = ok.low in let top = ok.high in
    let n : unsigned_abs (v -ℤ l) ≤ unsigned_abs (g -ℤ l) = omega (arith, ints) in
    let narrow = ok.narrow in
    let small : unsigned_abs (g -ℤ l) < 2 ^ 32 = omega (arith, ints) in
    let w : (word v + (2 ^ 64 - word l)) % 2 ^ 64 ≡ unsigned_abs (v -ℤ l) = omega (arith, ints) in
    let e = ap (λ n. n % 256 ^ width (Between l g)) w
    ∙ room_fits (unsigned_abs (g -ℤ l)) (unsigned_abs (v -ℤ l)) small n in
    ap (λ n. l +ℤ pos n) e ∙ omega (arith, ints)
stands_for (Callable h) v ok is =
    let low = is.low in let high = is.high in
    let w : word v ≡ unsigned_abs v = omega (arith, ints) in
    let e : word v % 256 ^ 4 ≡ unsigned_abs v = ap (λ n. n % 256 ^ 4) w ∙ omega (arith, ints) in
    ap pos e ∙ omega (arith, ints)

length-stored : (r : Room) (n : ℕ) → length (stored_in r n) ≡ bytes_in r
length-stored One n = refl
length-stored Two n = refl
length-stored Four n = refl

pub puts : (program : Modules) → (c : Scalar) (a : ℕ) (v : ℤ) (m : List ℕ) → IsScalar c → IsOf c v → Means program c v
    → a + width c ≤ length m → Says program c a v (put c a (word v) m)
puts program c a v m ok is means fits = record {
  value = ap (value_of c) (number_stored (room_of c) a (lower_cell c (word v)) m fits) ∙ stands_for c v ok is;
  within = is;
  means = means;
}

pub put_only : (c : Scalar) (a n : ℕ) (m : List ℕ) → a + width c ≤ length m → IsOnly a (width c) m (put c a n m)
put_only c a n m fits =
    let l = length-stored (room_of c) (lower_cell c n) in
    subst (λ k. IsOnly a k m (put c a n m)) l (pasted_only m a (stored_in (room_of c) (lower_cell c n)) (omega arith))

pub length-put : (c : Scalar) (a n : ℕ) (m : List ℕ) → a + width c ≤ length m → length (put c a n m) ≡ length m
length-put c a n m fits = let l = length-stored (room_of c) (lower_cell c n) in length-pasted m a _ (omega arith)

stored_small : (r : Room) (n j : ℕ) → j < bytes_in r → get_or (stored_in r n) j 0 < 256
stored_small One n zero h = omega arith
stored_small One n (suc j) h = absurd (omega arith)
stored_small Two n zero h = omega arith
stored_small Two n (suc zero) h = omega arith
stored_small Two n (suc (suc j)) h = absurd (omega arith)
stored_small Four n zero h = omega arith
stored_small Four n (suc zero) h = omega arith
stored_small Four n (suc (suc zero)) h = omega arith
stored_small Four n (suc (suc (suc zero))) h = omega arith
stored_small Four n (suc (suc (suc (suc j)))) h = absurd (omega arith)

pub small_put : (c : Scalar) (a n : ℕ) (m : List ℕ) → a + width c ≤ length m → ((b : ℕ) → byte b m < 256) → (b : ℕ)
    → byte b (put c a n m) < 256
small_put c a n m fits small =
    let l = length-stored (room_of c) (lower_cell c n) in
    small_pasted m a _ (omega arith) small (λ j h. stored_small (room_of c) (lower_cell c n) j (omega arith))
