-- Numbers in groups of seven bits, the lowest first, each byte but the last with its high bit set,
-- and no group more than the number needs (Core 1.0, section 5.2.2, with the shortest encoding
-- alone).
use Rattle.std.specs.Prelude.{ℕ, zero, suc, ◌+◌, ◌-◌, ◌*◌, ◌/◌, ◌%◌, ◌^◌, List, [], ◌∷◌, Ok, Err, nat_lt, nat_le, if◌then◌else◌}
use Rattle.wasm_tree.specs.declared.fault.WFault.TheVariants.{Malformed}
use Rattle.wasm_tree.specs.Format.{Format, Reading, ◌>>=◌}

-- a number of at most this many groups
unfoldable pub groups : (most n : ℕ) → List ℕ
groups zero n = []
groups (suc most) n = if nat_lt n 128 then n ∷ [] else (128 + n % 128) ∷ groups most (n / 128)

-- the lowest group, and the groups above it, which are not 0
abbrev pub join_groups : (low high : ℕ) → List ℕ → Reading ℕ
join_groups low zero bytes = Err Malformed
join_groups low (suc high) bytes =
    if nat_lt (low + 128 * suc high) (2 ^ 32)
    then Ok (low + 128 * suc high, bytes)
    else Err Malformed

unfoldable pub groups_at : (most : ℕ) → List ℕ → Reading ℕ
groups_at zero bytes = Err Malformed
groups_at (suc most) [] = Err Malformed
groups_at (suc most) (b ∷ bytes) =
    if nat_lt b 128
    then Ok (b, bytes)
    else (groups_at most bytes >>= λ high. join_groups (b - 128) high.0 high.1)

-- a number below 2 ^ 32
abbrev pub unsigned : Format ℕ
unsigned = record { encoding = groups 10; reading = groups_at 5; fits = λ n. nat_lt n (2 ^ 32) }

-- A signed number is given by its bits, as one from 0 to top, the greatest number of its width:
-- those above top / 2 stand for the negative ones. The seventh bit of the last group is its sign.
abbrev pub shift_group : (top n : ℕ) → ℕ
shift_group top n = if nat_le n (top / 2) then n / 128 else n / 128 + (top - top / 128)

unfoldable pub signed_groups : (most top n : ℕ) → List ℕ
signed_groups zero top n = []
signed_groups (suc most) top n =
    if nat_lt n 64 then n ∷ []
    else (if nat_lt (top - 64) n then (n + 127 - top) ∷ []
    else (128 + n % 128) ∷ signed_groups most top (shift_group top n))

-- the lowest group, and the groups above it: the number takes more than one group, and no more bits
-- than its width
abbrev pub signed_joined : (top low high : ℕ) → List ℕ → Reading ℕ
signed_joined top low high bytes =
    if nat_le high (top / 256)
    then (if nat_lt (low + 128 * high) 64 then Err Malformed else Ok (low + 128 * high, bytes))
    else (if nat_lt high (top - top / 256) then Err Malformed
    else (if nat_lt (top - 64) (low + 128 * (high - (top - top / 128))) then Err Malformed
    else Ok (low + 128 * (high - (top - top / 128)), bytes)))

unfoldable pub signed_groups_at : (most top : ℕ) → List ℕ → Reading ℕ
signed_groups_at zero top bytes = Err Malformed
signed_groups_at (suc most) top [] = Err Malformed
signed_groups_at (suc most) top (b ∷ bytes) =
    if nat_lt b 64 then Ok (b, bytes) else (if nat_lt b 128 then Ok (b + (top - 127), bytes)
    else (signed_groups_at most top bytes >>= λ high. signed_joined top (b - 128) high.0 high.1))

abbrev pub signed32 : Format ℕ
signed32 = record {
  encoding = signed_groups 5 (2 ^ 32 - 1);
  reading = signed_groups_at 5 (2 ^ 32 - 1);
  fits = λ n. nat_lt n (2 ^ 32);
}

abbrev pub signed64 : Format ℕ
signed64 = record {
  encoding = signed_groups 10 (2 ^ 64 - 1);
  reading = signed_groups_at 10 (2 ^ 64 - 1);
  fits = λ n. nat_lt n (2 ^ 64);
}
