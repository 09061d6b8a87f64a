-- Numbers in groups: each has one encoding.
use Rattle.std.proofs.Common.{◌≡◌, ℕ, zero, suc, ◌+◌, ◌-◌, ◌*◌, ◌/◌, ◌%◌, ◌^◌, ◌<◌, ◌≤◌, cond, ltb, leb, List, [], ◌∷◌, ◌++◌, Ok, Err, refl, sym, ap, subst, ◌∙◌, arith, inl, inr, pow-suc}
use Rattle.std.proofs.lemmas.Bool.{cases_lt, lt-ltb, le-ltb, ltb-true, ltb-false, le-leb, lt-leb}
use Rattle.wasm_tree.specs.declared.fault.WFault.TheVariants.{Malformed}
use Rattle.wasm_tree.specs.Format.{Reading}
use Rattle.wasm_code.specs.Number.{groups, join_groups, groups_at, unsigned, shift_group, signed_groups, signed_joined, signed_groups_at, signed32, signed64}
use Rattle.wasm_code.proofs.Laws.{IsBytes, IsBytes-tail, IsBytes-after, bind_ok, guard_ok, otherwise_ok, read_is, put_before, Law}

record Joined (low high n : ℕ) (bytes rest : List ℕ) : Type 0 where
  more : 0 < high
  is : n ≡ low + 128 * high
  fits : n < 2 ^ 32
  same : bytes ≡ rest

joined_ok : (low high : ℕ) (bytes : List ℕ) (n : ℕ) (rest : List ℕ) → join_groups low high bytes ≡ Ok (n, rest)
    → Joined low high n bytes rest
joined_ok low zero bytes n rest e = absurd cc
joined_ok low (suc high) bytes n rest e =
    let g = guard_ok (ltb (low + 128 * suc high) (2 ^ 32)) Malformed (Ok (low + 128 * suc high, bytes)) (n, rest) e in
    let is = read_is (low + 128 * suc high) n bytes rest g.1 in
    let lt : low + 128 * suc high < 2 ^ 32 = ltb-true _ _ g.0 in
    record { more = omega arith; is = sym is.0; fits = omega (arith, is.0); same = is.1 }

joined_same : (low high n : ℕ) (rest : List ℕ) → 0 < high → n ≡ low + 128 * high → n < 2 ^ 32
    → join_groups low high rest ≡ Ok (n, rest)
joined_same low zero n rest more is lt = absurd (omega arith)
joined_same low (suc high) n rest more is lt = rw (← is, lt-ltb n (2 ^ 32) lt) refl

groups_small : (k n : ℕ) → n < 128 → groups (suc k) n ≡ n ∷ []
unfolding groups
groups_small k n lt = rw (lt-ltb n 128 lt) refl

groups_more : (k low high n : ℕ) → low < 128 → 0 < high → n ≡ low + 128 * high
    → groups (suc k) n ≡ (128 + low) ∷ groups k high
unfolding groups
groups_more k low high n small more is =
    let large : 128 ≤ n = omega arith in
    let first : n % 128 ≡ low = omega arith in
    let others : n / 128 ≡ high = omega arith in
    rw (le-ltb n 128 large, first, others) refl

pub groups_take : (most k : ℕ) (bytes : List ℕ) (n : ℕ) (rest : List ℕ) → most ≤ k → IsBytes bytes
    → groups_at most bytes ≡ Ok (n, rest) → (bytes ≡ groups k n ++ rest) × (n < 2 ^ 32)
unfolding groups_at
groups_take zero k bytes n rest le fits e = absurd cc
groups_take (suc most) k [] n rest le fits e = absurd cc
groups_take (suc most) zero (b ∷ bytes) n rest le fits e = absurd (omega arith)
groups_take (suc most) (suc k) (b ∷ bytes) n rest le fits e =
    elim (cases_lt b 128) [
      | inl lt ↦
          let is = read_is b n bytes rest (rw (lt-ltb b 128 lt) at e) in
          (rw (groups_small k n (omega (arith, is.0)), is.0, is.1) refl, omega (arith, is.0))
      | inr large ↦
          let a = bind_ok (groups_at most bytes) (λ high. join_groups (b - 128) high.0 high.1) (n, rest)
          (rw (le-ltb b 128 large) at e) in
          let j = joined_ok (b - 128) a.0.0 a.0.1 n rest a.2 in
          let above = groups_take most k bytes a.0.0 a.0.1 (omega arith) (IsBytes-tail b bytes fits) a.1 in
          let low : b - 128 < 128 = omega (arith, fits 0) in
          let first : 128 + (b - 128) ≡ b = omega arith in (
            put_before b bytes (groups k a.0.0) a.0.1 rest (groups (suc k) n) above.0 j.same
                (groups_more k (b - 128) a.0.0 n low j.more j.is ∙ ap (λ (c : ℕ). c ∷ groups k a.0.0) first),
            j.fits,
          )
    ]

pub groups_again : (most k n : ℕ) (rest : List ℕ) → most ≤ k → n < 128 ^ suc most → n < 2 ^ 32
    → groups_at (suc most) (groups (suc k) n ++ rest) ≡ Ok (n, rest)
unfolding groups_at
groups_again zero k n rest le room fits = rw (groups_small k n (omega arith), lt-ltb n 128 (omega arith)) refl
groups_again (suc most) zero n rest le room fits = absurd (omega arith)
groups_again (suc most) (suc k) n rest le room fits =
    elim (cases_lt n 128) [
      | inl lt ↦ rw (groups_small (suc k) n lt, lt-ltb n 128 lt) refl
      | inr large ↦
          let low : n % 128 < 128 = omega arith in
          let more : 0 < n / 128 = omega arith in
          let is : n ≡ n % 128 + 128 * (n / 128) = omega arith in
          let less : n / 128 < 128 ^ suc most = omega (arith, pow-suc 128 (suc most)) in
          let again = groups_again most k (n / 128) rest (omega arith) less (omega arith) in
          let back : 128 + n % 128 - 128 ≡ n % 128 = omega arith in
          rw (
            groups_more (suc k) (n % 128) (n / 128) n low more is,
            le-ltb (128 + n % 128) 128 (omega arith),
            again,
            back,
          ) (joined_same (n % 128) (n / 128) n rest more is fits)
    ]

pub unsigned_law : Law unsigned
unsigned_law = record {
  takes = λ bytes n rest fits e.
      let t = groups_take 5 10 bytes n rest (omega arith) fits e in
      record { parts = t.0; rest_fits = IsBytes-after bytes (groups 10 n) rest t.0 fits; fits = lt-ltb n (2 ^ 32) t.1 };
  again = λ n rest fits.
      let lt : n < 2 ^ 32 = ltb-true n (2 ^ 32) fits in
      groups_again 4 9 n rest (omega arith) (omega arith) lt;
}

-- ---- signed numbers

signed_small : (k top n : ℕ) → n < 64 → signed_groups (suc k) top n ≡ n ∷ []
unfolding signed_groups
signed_small k top n lt = rw (lt-ltb n 64 lt) refl

signed_great : (k top n : ℕ) → 64 ≤ n → top - 64 < n → signed_groups (suc k) top n ≡ (n + 127 - top) ∷ []
unfolding signed_groups
signed_great k top n large great = rw (le-ltb n 64 large, lt-ltb (top - 64) n great) refl

signed_more : (k top n : ℕ) → 64 ≤ n → n ≤ top - 64
    → signed_groups (suc k) top n ≡ (128 + n % 128) ∷ signed_groups k top (shift_group top n)
unfolding signed_groups
signed_more k top n large low = rw (le-ltb n 64 large, le-ltb (top - 64) n low) refl

half_is : (q : ℕ) → (256 * q + 255) / 2 ≡ 128 * q + 127
half_is q = omega arith

part_is : (q : ℕ) → (256 * q + 255) / 128 ≡ 2 * q + 1
part_is q = omega arith

whole_is : (q : ℕ) → (256 * q + 255) / 256 ≡ q
whole_is q = omega arith

shifted_low : (top n : ℕ) → n ≤ top / 2 → shift_group top n ≡ n / 128
shifted_low top n le = rw (le-leb n (top / 2) le) refl

shifted_high : (top n : ℕ) → top / 2 < n → shift_group top n ≡ n / 128 + (top - top / 128)
shifted_high top n lt = rw (lt-leb n (top / 2) lt) refl

-- what the lowest group and those above it make
record SignedJoined (top low high n : ℕ) (bytes rest : List ℕ) : Type 0 where
  large : 64 ≤ n
  small : n ≤ top - 64
  first : n % 128 ≡ low
  others : shift_group top n ≡ high
  fits : n ≤ top
  same : bytes ≡ rest

joined_low : (q low high n : ℕ) (bytes rest : List ℕ) → low < 128 → high ≤ q → 64 ≤ n → low + 128 * high ≡ n
    → bytes ≡ rest → SignedJoined (256 * q + 255) low high n bytes rest
joined_low q low high n bytes rest lt le large is same =
    let half : n ≤ (256 * q + 255) / 2 = omega (arith, half_is q) in
    record {
      large = large;
      small = omega arith;
      first = omega arith;
      others = shifted_low (256 * q + 255) n half
          ∙ omega arith;
      fits = omega arith;
      same = same;
    }

joined_high : (q low high n : ℕ) (bytes rest : List ℕ) → low < 128 → 255 * q + 255 ≤ high → high ≤ 256 * q + 255
    → n ≤ 256 * q + 191 → low + 128 * (high - (254 * q + 254)) ≡ n → bytes ≡ rest
    → SignedJoined (256 * q + 255) low high n bytes rest
joined_high q low high n bytes rest lt least most room is same =
    let half : (256 * q + 255) / 2 < n = omega (arith, half_is q) in
    record {
      large = omega arith;
      small = omega arith;
      first = omega arith;
      others = shifted_high (256 * q + 255) n half
          ∙ omega (arith, part_is q);
      fits = omega arith;
      same = same;
    }

less_128 : (q : ℕ) → (256 * q + 255) - (256 * q + 255) / 128 ≡ 254 * q + 254
less_128 q = omega (arith, part_is q)

less_256 : (q : ℕ) → (256 * q + 255) - (256 * q + 255) / 256 ≡ 255 * q + 255
less_256 q = omega (arith, whole_is q)

less_64 : (q : ℕ) → (256 * q + 255) - 64 ≡ 256 * q + 191
less_64 q = omega arith

abbrev joins : (q low high : ℕ) → List ℕ → Reading ℕ
joins q low high bytes =
    cond (leb high q) (cond (ltb (low + 128 * high) 64) (Err Malformed) (Ok (low + 128 * high, bytes)))
    (cond (ltb high (255 * q + 255)) (Err Malformed)
    (cond (ltb (256 * q + 191) (low + 128 * (high - (254 * q + 254)))) (Err Malformed)
    (Ok (low + 128 * (high - (254 * q + 254)), bytes))))

signed_joined_is : (q low high : ℕ) (bytes : List ℕ)
    → signed_joined (256 * q + 255) low high bytes ≡ joins q low high bytes
signed_joined_is q low high bytes = rw (less_128 q, less_256 q, less_64 q, whole_is q) refl

joins_ok : (q low high : ℕ) (bytes : List ℕ) (n : ℕ) (rest : List ℕ) → low < 128 → high ≤ 256 * q + 255
    → joins q low high bytes ≡ Ok (n, rest) → SignedJoined (256 * q + 255) low high n bytes rest
joins_ok q low high bytes n rest lt most e =
    elim (cases_lt q high) [
      | inr le ↦
          let e1 : cond (ltb (low + 128 * high) 64) (Err Malformed) (Ok (low + 128 * high, bytes)) ≡ Ok (n, rest) =
          rw (le-leb high q le) at e in
          let g = otherwise_ok (ltb (low + 128 * high) 64) Malformed (Ok (low + 128 * high, bytes)) (n, rest) e1 in
          let is = read_is (low + 128 * high) n bytes rest g.1 in
          let large : 64 ≤ low + 128 * high = ltb-false _ _ g.0 in
          joined_low q low high n bytes rest lt le (subst (λ (x : ℕ). 64 ≤ x) is.0 large) is.0 is.1
      | inl gt ↦
          let v : ℕ = low + 128 * (high - (254 * q + 254)) in
          let e1 : cond (ltb high (255 * q + 255)) (Err Malformed)
          (cond (ltb (256 * q + 191) v) (Err Malformed) (Ok (v, bytes))) ≡ Ok (n, rest) =
          rw (lt-leb high q gt) at e in
          let g = otherwise_ok (ltb high (255 * q + 255)) Malformed
          (cond (ltb (256 * q + 191) v) (Err Malformed) (Ok (v, bytes))) (n, rest) e1 in
          let h = otherwise_ok (ltb (256 * q + 191) v) Malformed (Ok (v, bytes)) (n, rest) g.1 in
          let is = read_is v n bytes rest h.1 in
          let least : 255 * q + 255 ≤ high = ltb-false _ _ g.0 in
          let room : v ≤ 256 * q + 191 = ltb-false _ _ h.0 in
          joined_high q low high n bytes rest lt least most (subst (λ (x : ℕ). x ≤ 256 * q + 191) is.0 room) is.0 is.1
    ]

signed_joined_ok : (q low high : ℕ) (bytes : List ℕ) (n : ℕ) (rest : List ℕ) → low < 128 → high ≤ 256 * q + 255
    → signed_joined (256 * q + 255) low high bytes ≡ Ok (n, rest) → SignedJoined (256 * q + 255) low high n bytes rest
signed_joined_ok q low high bytes n rest lt most e =
    joins_ok q low high bytes n rest lt most (sym (signed_joined_is q low high bytes) ∙ e)

joins_same : (q low high n : ℕ) (rest : List ℕ) → (high ≤ q) × (64 ≤ n) × (low + 128 * high ≡ n)
    → joins q low high rest ≡ Ok (n, rest)
joins_same q low high n rest h = rw (le-leb high q h.0, h.2, le-ltb n 64 h.1) refl

joins_same_high : (q low high n : ℕ) (rest : List ℕ) → q < high → 255 * q + 255 ≤ high → n ≤ 256 * q + 191
    → low + 128 * (high - (254 * q + 254)) ≡ n → joins q low high rest ≡ Ok (n, rest)
joins_same_high q low high n rest gt least room is =
    rw (lt-leb high q gt, le-ltb high (255 * q + 255) least, is, le-ltb (256 * q + 191) n room) refl

-- how far a number is from 0, or from the greatest one
abbrev size : (q n : ℕ) → ℕ
size q n = cond (leb n (128 * q + 127)) n (256 * q + 255 - n)

-- the parts of a number that takes more than one group
record Split (q n : ℕ) : Type 0 where
  join : (rest : List ℕ) → signed_joined (256 * q + 255) (n % 128) (shift_group (256 * q + 255) n) rest ≡ Ok (n, rest)
  most : shift_group (256 * q + 255) n ≤ 256 * q + 255
  less : size q (shift_group (256 * q + 255) n) ≡ size q n / 128

split_low : (q n high : ℕ) → 64 ≤ n → n ≤ 128 * q + 127 → high ≡ n / 128 → shift_group (256 * q + 255) n ≡ high
    → Split q n
split_low q n high large half is same =
    let le : high ≤ q = omega arith in
    let whole : n % 128 + 128 * high ≡ n = omega arith in
    record {
      join = λ rest. rw same (signed_joined_is q (n % 128) high rest
          ∙ joins_same q (n % 128) high n rest (le, large, whole));
      most = rw same (omega arith);
      less = rw (same, le-leb n (128 * q + 127) half, le-leb high (128 * q + 127) (omega arith)) is;
    }

split_high : (q n high : ℕ) → n ≤ 256 * q + 191 → 128 * q + 127 < n → high ≡ n / 128 + (254 * q + 254)
    → shift_group (256 * q + 255) n ≡ high → Split q n
split_high q n high room half is same =
    let gt : q < high = omega arith in
    let least : 255 * q + 255 ≤ high = omega arith in
    let whole : n % 128 + 128 * (high - (254 * q + 254)) ≡ n = omega arith in
    record {
      join = λ rest. rw same (signed_joined_is q (n % 128) high rest
          ∙ joins_same_high q (n % 128) high n rest gt least room whole);
      most = rw same (omega arith);
      less = rw (same, lt-leb n (128 * q + 127) half, lt-leb high (128 * q + 127) (omega arith)) (omega arith);
    }

split : (q n : ℕ) → 64 ≤ n → n ≤ 256 * q + 191 → Split q n
split q n large room =
    elim (cases_lt (128 * q + 127) n) [
      | inr half ↦ split_low q n (n / 128) large half refl (shifted_low (256 * q + 255) n (rw half_is half))
      | inl half ↦ split_high q n (n / 128 + (254 * q + 254)) room half refl
          (shifted_high (256 * q + 255) n (rw half_is half) ∙ ap (λ (c : ℕ). n / 128 + c) (less_128 q))
    ]

great_is : (q b n : ℕ) → 64 ≤ b → b < 128 → b + (256 * q + 128) ≡ n → (64 ≤ n) × ((256 * q + 255) - 64 < n)
    × (n + 127 - (256 * q + 255) ≡ b) × (n ≤ 256 * q + 255)
great_is q b n large small is = (omega arith, omega arith, omega arith, omega arith)

less_127 : (q : ℕ) → (256 * q + 255) - 127 ≡ 256 * q + 128
less_127 q = omega arith

pub signed_take : (q most k : ℕ) (bytes : List ℕ) (n : ℕ) (rest : List ℕ) → most ≤ k → IsBytes bytes
    → signed_groups_at most (256 * q + 255) bytes ≡ Ok (n, rest) → (bytes ≡ signed_groups k (256 * q + 255) n ++ rest)
    × (n ≤ 256 * q + 255)
unfolding signed_groups_at
signed_take q zero k bytes n rest le fits e = absurd cc
signed_take q (suc most) k [] n rest le fits e = absurd cc
signed_take q (suc most) zero (b ∷ bytes) n rest le fits e = absurd (omega arith)
signed_take q (suc most) (suc k) (b ∷ bytes) n rest le fits e =
    elim (cases_lt b 64) [
      | inl lt ↦
          let is = read_is b n bytes rest (rw (lt-ltb b 64 lt) at e) in
          let small : n < 64 = subst (λ (x : ℕ). x < 64) is.0 lt in (
            put_before b bytes [] bytes rest (signed_groups (suc k) (256 * q + 255) n) refl is.1
                (signed_small k (256 * q + 255) n small ∙ ap (λ (c : ℕ). c ∷ []) (sym is.0)),
            omega arith,
          )
      | inr large ↦
          elim (cases_lt b 128) [
            | inl lt ↦
                let is = read_is (b + (256 * q + 128)) n bytes rest
                (rw (le-ltb b 64 large, lt-ltb b 128 lt, less_127 q) at e) in
                let g = great_is q b n large lt is.0 in (
                  put_before b bytes [] bytes rest (signed_groups (suc k) (256 * q + 255) n) refl is.1
                      (signed_great k (256 * q + 255) n g.0 g.1 ∙ ap (λ (c : ℕ). c ∷ []) g.2),
                  g.3,
                )
            | inr more ↦
                let a = bind_ok (signed_groups_at most (256 * q + 255) bytes)
                (λ high. signed_joined (256 * q + 255) (b - 128) high.0 high.1) (n, rest)
                (rw (le-ltb b 64 large, le-ltb b 128 more) at e) in
                let above = signed_take q most k bytes a.0.0 a.0.1 (omega arith) (IsBytes-tail b bytes fits) a.1 in
                let low : b - 128 < 128 = omega (arith, fits 0) in
                let j = signed_joined_ok q (b - 128) a.0.0 a.0.1 n rest low above.1 a.2 in
                let first : 128 + n % 128 ≡ b = ap (λ (x : ℕ). 128 + x) j.first ∙ omega arith in (
                  put_before b bytes (signed_groups k (256 * q + 255) a.0.0) a.0.1 rest
                      (signed_groups (suc k) (256 * q + 255) n) above.0 j.same
                      (signed_more k (256 * q + 255) n j.large j.small
                      ∙ ap (λ (c : ℕ). c ∷ signed_groups k (256 * q + 255) (shift_group (256 * q + 255) n)) first
                      ∙ ap (λ (x : ℕ). b ∷ signed_groups k (256 * q + 255) x) j.others),
                  j.fits,
                )
          ]
    ]

signed_again_small : (q most k n : ℕ) (rest : List ℕ) → n < 64
    → signed_groups_at (suc most) (256 * q + 255) (signed_groups (suc k) (256 * q + 255) n ++ rest) ≡ Ok (n, rest)
unfolding signed_groups_at
signed_again_small q most k n rest lt = rw (signed_small k (256 * q + 255) n lt, lt-ltb n 64 lt) refl

signed_again_great : (q most k n b : ℕ) (rest : List ℕ) → n ≤ 256 * q + 255 → 256 * q + 191 < n
    → n + 127 - (256 * q + 255) ≡ b → signed_groups_at (suc most) (256 * q + 255)
    (signed_groups (suc k) (256 * q + 255) n ++ rest) ≡ Ok (n, rest)
unfolding signed_groups_at
signed_again_great q most k n b rest le gt is =
    let large : 64 ≤ n = omega arith in
    let great : (256 * q + 255) - 64 < n = omega arith in
    let low : 64 ≤ b = omega arith in
    let high : b < 128 = omega arith in
    let back : b + (256 * q + 128) ≡ n = omega arith in
    rw (signed_great k (256 * q + 255) n large great, is, le-ltb b 64 low, lt-ltb b 128 high, less_127 q, back) refl

signed_again_more : (q most k n : ℕ) (rest : List ℕ) → 64 ≤ n → n ≤ 256 * q + 191 → Split q n
    → signed_groups_at (suc most) (256 * q + 255)
    (signed_groups (suc k) (256 * q + 255) (shift_group (256 * q + 255) n) ++ rest)
    ≡ Ok (shift_group (256 * q + 255) n, rest)
    → signed_groups_at (suc (suc most)) (256 * q + 255) (signed_groups (suc (suc k)) (256 * q + 255) n ++ rest)
    ≡ Ok (n, rest)
unfolding signed_groups_at
signed_again_more q most k n rest large room s again =
    let low : n ≤ (256 * q + 255) - 64 = omega arith in
    let back : 128 + n % 128 - 128 ≡ n % 128 = omega arith in
    let one : 64 ≤ 128 + n % 128 = omega arith in
    let two : 128 ≤ 128 + n % 128 = omega arith in
    rw (
      signed_more (suc k) (256 * q + 255) n large low,
      le-ltb (128 + n % 128) 64 one,
      le-ltb (128 + n % 128) 128 two,
      again,
      back,
    ) (s.join rest)

size_small : (q n m : ℕ) → 64 ≤ n → n ≤ 256 * q + 191 → size q n < m → 64 < m
size_small q n m large room lt =
    elim (cases_lt (128 * q + 127) n) [
      | inr half ↦ let e : n < m = rw (le-leb n (128 * q + 127) half) at lt in omega arith
      | inl half ↦ let e : 256 * q + 255 - n < m = rw (lt-leb n (128 * q + 127) half) at lt in omega arith
    ]

pub signed_again : (q most k n : ℕ) (rest : List ℕ) → most ≤ k → n ≤ 256 * q + 255 → size q n < 64 * 128 ^ most
    → signed_groups_at (suc most) (256 * q + 255) (signed_groups (suc k) (256 * q + 255) n ++ rest) ≡ Ok (n, rest)
signed_again q zero k n rest le top room =
    elim (cases_lt n 64) [
      | inl lt ↦ signed_again_small q 0 k n rest lt
      | inr large ↦
          elim (cases_lt (256 * q + 191) n) [
            | inl gt ↦ signed_again_great q 0 k n (n + 127 - (256 * q + 255)) rest top gt refl
            | inr low ↦ let no : 64 < 64 = size_small q n 64 large low room in absurd (omega arith)
          ]
    ]
signed_again q (suc most) zero n rest le top room = absurd (omega arith)
signed_again q (suc most) (suc k) n rest le top room =
    elim (cases_lt n 64) [
      | inl lt ↦ signed_again_small q (suc most) (suc k) n rest lt
      | inr large ↦
          elim (cases_lt (256 * q + 191) n) [
            | inl gt ↦ signed_again_great q (suc most) (suc k) n (n + 127 - (256 * q + 255)) rest top gt refl
            | inr low ↦
                let s = split q n large low in
                let less : size q n / 128 < 64 * 128 ^ most = omega (arith, pow-suc 128 most) in
                signed_again_more q most k n rest large low s
                (signed_again q most k (shift_group (256 * q + 255) n) rest (omega arith) s.most (rw (s.less) less))
          ]
    ]

size_half : (q n : ℕ) → n ≤ 256 * q + 255 → size q n ≤ 128 * q + 127
size_half q n top =
    elim (cases_lt (128 * q + 127) n) [
      | inr half ↦ rw (le-leb n (128 * q + 127) half) half
      | inl half ↦ rw (lt-leb n (128 * q + 127) half) (omega arith)
    ]

-- the two widths
pub signed32_law : Law signed32
signed32_law = record {
  takes = λ bytes n rest fits e.
      let t = signed_take (2 ^ 24 - 1) 5 5 bytes n rest (omega arith) fits e in
      record {
        parts = t.0;
        rest_fits = IsBytes-after bytes (signed_groups 5 (2 ^ 32 - 1) n) rest t.0 fits;
        fits =
            lt-ltb n (2 ^ 32) (omega (arith, t.1));
      };
  again = λ n rest fits.
      let lt : n < 2 ^ 32 = ltb-true n (2 ^ 32) fits in
      signed_again (2 ^ 24 - 1) 4 4 n rest (omega arith) (omega arith)
      (omega (arith, size_half (2 ^ 24 - 1) n (omega arith)));
}

pub signed64_law : Law signed64
signed64_law = record {
  takes = λ bytes n rest fits e.
      let t = signed_take (2 ^ 56 - 1) 10 10 bytes n rest (omega arith) fits e in
      record {
        parts = t.0;
        rest_fits = IsBytes-after bytes (signed_groups 10 (2 ^ 64 - 1) n) rest t.0 fits;
        fits =
            lt-ltb n (2 ^ 64) (omega (arith, t.1));
      };
  again = λ n rest fits.
      let lt : n < 2 ^ 64 = ltb-true n (2 ^ 64) fits in
      signed_again (2 ^ 56 - 1) 9 9 n rest (omega arith) (omega arith)
      (omega (arith, size_half (2 ^ 56 - 1) n (omega arith)));
}
