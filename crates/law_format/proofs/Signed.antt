-- Where readings of signed numbers stop.
use Rattle.std.proofs.Common.{◌≡◌, ◌≢◌, ◌⊎◌, ℕ, zero, suc, ◌+◌, ◌-◌, ◌*◌, ◌/◌, ◌%◌, ◌^◌, ◌<◌, ◌≤◌, Bool, true, false, cond, not, leb, ltb, eqb, List, [], ◌∷◌, Ok, Err, refl, sym, ap, subst, ◌∙◌, append-nil, arith, inl, inr, pow-suc}
use Rattle.std.proofs.lemmas.Bool.{cases_lt, cases_Bool, lt-ltb, le-ltb, le-leb, lt-leb, eq-eqb, ne_eqb}
use Rattle.wasm_tree.specs.declared.fault.WFault.{WFault}
use Rattle.wasm_tree.specs.declared.fault.WFault.TheVariants.{Malformed}
use Rattle.wasm_tree.specs.Format.{Format, Reading, ◌>>=◌}
use Rattle.wasm_code.specs.Number.{shift_group, signed_groups, signed_joined, signed_groups_at}
use Rattle.wasm_code.proofs.Laws.{IsBytes, IsBytes-tail}
use Rattle.wasm_code.proofs.LawsNumber.{signed_take}
use Rattle.law_format.specs.Places.{OtherByte, Cell, others}
use Rattle.law_format.proofs.Stops.{Stop, into}
use Rattle.law_format.proofs.Combined.{err_is, bind_err}

-- ---- how the groups of a number are joined, where the greatest number is 256 * q + 255

abbrev joins : (q low high : ℕ) → List ℕ → Reading ℕ
joins q low high bytes =
    cond (leb high q) (cond (ltb (low + 128 * high) 64) (Err Malformed) (Ok (low + 128 * high, bytes)))
    (cond (ltb high (255 * q + 255)) (Err Malformed)
    (cond (ltb (256 * q + 191) (low + 128 * (high - (254 * q + 254)))) (Err Malformed)
    (Ok (low + 128 * (high - (254 * q + 254)), bytes))))

part_is : (q : ℕ) → (256 * q + 255) / 128 ≡ 2 * q + 1
part_is q = omega arith

half_is : (q : ℕ) → (256 * q + 255) / 2 ≡ 128 * q + 127
half_is q = omega arith

whole_is : (q : ℕ) → (256 * q + 255) / 256 ≡ q
whole_is q = omega arith

less_128 : (q : ℕ) → (256 * q + 255) - (256 * q + 255) / 128 ≡ 254 * q + 254
less_128 q = omega (arith, part_is q)

less_256 : (q : ℕ) → (256 * q + 255) - (256 * q + 255) / 256 ≡ 255 * q + 255
less_256 q = omega (arith, whole_is q)

less_127 : (q : ℕ) → (256 * q + 255) - 127 ≡ 256 * q + 128
less_127 q = omega arith

less_64 : (q : ℕ) → (256 * q + 255) - 64 ≡ 256 * q + 191
less_64 q = omega arith

joins_is : (q low high : ℕ) (bytes : List ℕ) → signed_joined (256 * q + 255) low high bytes ≡ joins q low high bytes
joins_is q low high bytes = rw (less_128 q, less_256 q, less_64 q, whole_is q) refl

-- ---- the numbers from -reach to reach - 1, but for one

abbrev pub reached : (q reach but n : ℕ) → Bool
reached q reach but n =
    cond (ltb n reach) (not (eqb n but)) (cond (ltb n (256 * q + 256 - reach)) false
    (cond (ltb n (256 * q + 256)) (not (eqb n but)) false))

abbrev pub reaching : (q reach but : ℕ) → Reading ℕ → Reading ℕ
reaching q reach but read = read >>= λ n. cond (reached q reach but n.0) (Ok n) (Err Malformed)

abbrev pub signed_numbers : (k most q reach but : ℕ) → Format ℕ
signed_numbers k most q reach but = record {
  encoding = signed_groups k (256 * q + 255);
  reading = λ bytes. reaching q reach but (signed_groups_at most (256 * q + 255) bytes);
  fits = reached q reach but;
}

abbrev pub cells : (k q : ℕ) → ℕ → List Cell
cells k q n = others (signed_groups k (256 * q + 255) n)

abbrev malformed : Reading ℕ
malformed = Err Malformed

abbrev failing : WFault → Reading ℕ
failing f = Err f

absent : (x : ℕ × List ℕ) (f : WFault) → ◌≡◌ {A = Reading ℕ} (Ok x) (Err f) → ⊥
absent x f e = cc

-- the groups above the lowest may not be 0, or all ones, if the lowest says so by itself
abbrev useless : (q low : ℕ) → ℕ
useless q low = cond (ltb low 64) 0 (256 * q + 255)

abbrev value_of : (q low high : ℕ) → ℕ
value_of q low high = cond (leb high q) (low + 128 * high) (low + 128 * (high - (254 * q + 254)))

abbrev put_low : (q low : ℕ) → Reading ℕ → Reading ℕ
put_low q low read = read >>= λ h. Ok (value_of q low h.0, h.1)

-- what may be left out: nothing, 0, or the greatest number
abbrev pub IsBut : (q but : ℕ) → Type 0
IsBut q but = (but ≡ 0) ⊎ (256 * q + 255 ≤ but)

not_but : (q but n : ℕ) → IsBut q but → 64 ≤ n → n ≤ 256 * q + 191 → eqb n but ≡ false
not_but q but n (inl zero') more room = ne_eqb n but (omega arith)
not_but q but n (inr large) more room = ne_eqb n but (omega arith)

useless_low : (q low : ℕ) → low < 64 → useless q low ≡ 0
useless_low q low lt = rw (lt-ltb low 64 lt) refl

useless_high : (q low : ℕ) → 64 ≤ low → useless q low ≡ 256 * q + 255
useless_high q low le = rw (le-ltb low 64 le) refl

module _ (q reach low h : ℕ) (but : ℕ) (is : IsBut q but) (bs : List ℕ) (small : low < 128) (room : reach ≤ q + 1)
    (some : 1 ≤ reach) (top : h ≤ 256 * q + 255) where
  abbrev Same : Type 0
  Same = reaching q (128 * reach) but (joins q low h bs) ≡ put_low q low (reaching q reach (useless q low) (Ok (h, bs)))

  -- a group of zeros too many
  same_zero : low < 64 → h ≡ 0 → Same
  same_zero lt none =
      rw (
        none,
        le-leb 0 q (omega arith),
        lt-ltb (low + 128 * 0) 64 (omega arith),
        useless_low q low lt,
        lt-ltb 0 reach
            (omega arith),
      ) refl

  same_low : h ≤ q → 64 ≤ low + 128 * h → h < reach → eqb h (useless q low) ≡ false → Same
  same_low le more lt other =
      rw (
        le-leb h q le,
        le-ltb (low + 128 * h) 64 more,
        lt-ltb (low + 128 * h) (128 * reach) (omega arith),
        not_but q but (low + 128 * h) is more (omega arith),
        lt-ltb h reach lt,
        other,
      )
      (rw (le-leb h q le) refl)

  same_far : h ≤ q → reach ≤ h → Same
  same_far le far =
      rw (
        le-leb h q le,
        le-ltb (low + 128 * h) 64 (omega arith),
        le-ltb (low + 128 * h) (128 * reach) (omega arith),
        lt-ltb (low + 128 * h) (256 * q + 256 - 128 * reach) (omega arith),
        le-ltb h reach far,
        lt-ltb h (256 * q + 256 - reach) (omega arith),
      )
      refl

  same_middle : q < h → h < 255 * q + 255 → Same
  same_middle gt lt =
      rw (
        lt-leb h q gt,
        lt-ltb h (255 * q + 255) lt,
        le-ltb h reach (omega arith),
        lt-ltb h (256 * q + 256 - reach)
            (omega arith),
      ) refl

  -- a group of ones too many
  same_ones : 64 ≤ low → h ≡ 256 * q + 255 → Same
  same_ones le all =
      rw (
        all,
        lt-leb (256 * q + 255) q (omega arith),
        le-ltb (256 * q + 255) (255 * q + 255) (omega arith),
        lt-ltb (256 * q + 191) (low + 128 * (256 * q + 255 - (254 * q + 254))) (omega arith),
        useless_high q low le,
        le-ltb (256 * q + 255) reach (omega arith),
        le-ltb (256 * q + 255) (256 * q + 256 - reach) (omega arith),
        lt-ltb (256 * q + 255) (256 * q + 256) (omega arith),
        eq-eqb (256 * q + 255) (256 * q + 255) refl,
      )
      refl

  same_beyond : 255 * q + 255 ≤ h → low + 128 * (h - (254 * q + 254)) ≤ 256 * q + 191 → h < 256 * q + 256 - reach → Same
  same_beyond least le lt =
      rw (
        lt-leb h q (omega arith),
        le-ltb h (255 * q + 255) least,
        le-ltb (256 * q + 191) (low + 128 * (h - (254 * q + 254))) le,
        le-ltb (low + 128 * (h - (254 * q + 254))) (128 * reach) (omega arith),
        lt-ltb (low + 128 * (h - (254 * q + 254))) (256 * q + 256 - 128 * reach) (omega arith),
        le-ltb h reach (omega arith),
        lt-ltb h (256 * q + 256 - reach) lt,
      )
      refl

  same_high : 255 * q + 255 ≤ h → low + 128 * (h - (254 * q + 254)) ≤ 256 * q + 191 → 256 * q + 256 - reach ≤ h
      → eqb h (useless q low) ≡ false → Same
  same_high least le far other =
      rw (
        lt-leb h q (omega arith),
        le-ltb h (255 * q + 255) least,
        le-ltb (256 * q + 191) (low + 128 * (h - (254 * q + 254))) le,
        le-ltb (low + 128 * (h - (254 * q + 254))) (128 * reach) (omega arith),
        le-ltb (low + 128 * (h - (254 * q + 254))) (256 * q + 256 - 128 * reach) (omega arith),
        lt-ltb (low + 128 * (h - (254 * q + 254))) (256 * q + 256) (omega arith),
        not_but q but (low + 128 * (h - (254 * q + 254))) is (omega arith) le,
        le-ltb h reach (omega arith),
        le-ltb h (256 * q + 256 - reach) far,
        lt-ltb h (256 * q + 256) (omega arith),
        other,
      )
      (rw (lt-leb h q (omega arith)) refl)

  needed_low : 64 ≤ low + 128 * h → h ≤ q → eqb h (useless q low) ≡ false
  needed_low more le = elim (cases_lt low 64) [
    | inl lt ↦ rw (useless_low q low lt) (ne_eqb h 0 (omega arith))
    | inr large ↦ rw (useless_high q low large) (ne_eqb h (256 * q + 255) (omega arith))
  ]

  needed_high : 255 * q + 255 ≤ h → low + 128 * (h - (254 * q + 254)) ≤ 256 * q + 191 → eqb h (useless q low) ≡ false
  needed_high least le = elim (cases_lt low 64) [
    | inl lt ↦ rw (useless_low q low lt) (ne_eqb h 0 (omega arith))
    | inr large ↦ rw (useless_high q low large) (ne_eqb h (256 * q + 255) (omega arith))
  ]

  same : Same
  same = elim (cases_lt q h) [
    | inr le ↦
        elim (cases_lt h reach) [
          | inr far ↦ same_far le far
          | inl near ↦
              elim (cases_lt (low + 128 * h) 64) [
                | inl few ↦ same_zero (omega arith) (omega arith)
                | inr more ↦ same_low le more near (needed_low more le)
              ]
        ]
    | inl gt ↦
        elim (cases_lt h (255 * q + 255)) [
          | inl lt ↦ same_middle gt lt
          | inr least ↦
              elim (cases_lt (256 * q + 191) (low + 128 * (h - (254 * q + 254)))) [
                | inl over ↦ same_ones (omega arith) (omega arith)
                | inr le ↦
                    elim (cases_lt h (256 * q + 256 - reach)) [
                      | inl lt ↦ same_beyond least le lt
                      | inr far ↦ same_high least le far (needed_high least le)
                    ]
              ]
        ]
  ]

-- where no more groups can come
module _ (q reach low h : ℕ) (but : ℕ) (bs : List ℕ) (small : low < 128) (room : reach ≤ 64) where
  abbrev None_left : Type 0
  None_left = reaching q reach but (joins q low h bs) ≡ malformed

  out_of_reach : (n : ℕ) → 64 ≤ n → n ≤ 256 * q + 191 → reaching q reach but (Ok (n, bs)) ≡ malformed
  out_of_reach n more le = rw (le-ltb n reach (omega arith), lt-ltb n (256 * q + 256 - reach) (omega arith)) refl

  none_left : None_left
  none_left = elim (cases_lt q h) [
    | inr le ↦
        elim (cases_lt (low + 128 * h) 64) [
          | inl few ↦ rw (le-leb h q le, lt-ltb (low + 128 * h) 64 few) refl
          | inr more ↦ rw (le-leb h q le, le-ltb (low + 128 * h) 64 more)
              (out_of_reach (low + 128 * h) more (omega arith))
        ]
    | inl gt ↦
        elim (cases_lt h (255 * q + 255)) [
          | inl lt ↦ rw (lt-leb h q gt, lt-ltb h (255 * q + 255) lt) refl
          | inr least ↦
              elim (cases_lt (256 * q + 191) (low + 128 * (h - (254 * q + 254)))) [
                | inl over ↦ rw (
                  lt-leb h q gt,
                  le-ltb h (255 * q + 255) least,
                  lt-ltb (256 * q + 191)
                      (low + 128 * (h - (254 * q + 254))) over,
                ) refl
                | inr le ↦
                    rw (
                      lt-leb h q gt,
                      le-ltb h (255 * q + 255) least,
                      le-ltb (256 * q + 191)
                          (low + 128 * (h - (254 * q + 254))) le,
                    )
                    (out_of_reach (low + 128 * (h - (254 * q + 254))) (omega arith) le)
              ]
        ]
  ]

-- ---- readings

signed_one : (q most b : ℕ) (bs : List ℕ) → b < 64 → signed_groups_at (suc most) (256 * q + 255) (b ∷ bs) ≡ Ok (b, bs)
unfolding signed_groups_at
signed_one q most b bs lt = rw (lt-ltb b 64 lt) refl

signed_minus : (q most b : ℕ) (bs : List ℕ) → 64 ≤ b → b < 128
    → signed_groups_at (suc most) (256 * q + 255) (b ∷ bs) ≡ Ok (b + (256 * q + 128), bs)
unfolding signed_groups_at
signed_minus q most b bs le lt = rw (le-ltb b 64 le, lt-ltb b 128 lt, less_127 q) refl

signed_more : (q most b : ℕ) (bs : List ℕ) → 128 ≤ b
    → signed_groups_at (suc most) (256 * q + 255) (b ∷ bs)
    ≡ (signed_groups_at most (256 * q + 255) bs >>= λ high. signed_joined (256 * q + 255) (b - 128) high.0 high.1)
unfolding signed_groups_at
signed_more q most b bs le = rw (le-ltb b 64 (omega arith), le-ltb b 128 le) refl

at_most : (q most : ℕ) (bs : List ℕ) (n : ℕ) (rest : List ℕ) → IsBytes bs
    → signed_groups_at most (256 * q + 255) bs ≡ Ok (n, rest) → n ≤ 256 * q + 255
at_most q most bs n rest fits e = (signed_take q most most bs n rest (omega arith) fits e).1

abbrev join_all : (q low : ℕ) → Reading ℕ → Reading ℕ
join_all q low r = r >>= λ high. signed_joined (256 * q + 255) low high.0 high.1

more_of : (q reach low but : ℕ) → IsBut q but → low < 128 → reach ≤ q + 1 → 1 ≤ reach → (r : Reading ℕ)
    → ((n : ℕ) (rest : List ℕ) → r ≡ Ok (n, rest) → n ≤ 256 * q + 255)
    → reaching q (128 * reach) but (join_all q low r) ≡ put_low q low (reaching q reach (useless q low) r)
more_of q reach low but is small room some (Ok x) top = ap (reaching q (128 * reach) but) (joins_is q low x.0 x.1)
    ∙ same q reach low x.0 but is x.1 small room some (top x.0 x.1 refl)
more_of q reach low but is small room some (Err f) top = refl

more_signed : (q most reach but b : ℕ) (bs : List ℕ) → IsBut q but → IsBytes (b ∷ bs) → 128 ≤ b → reach ≤ q + 1
    → 1 ≤ reach
    → reaching q (128 * reach) but (signed_groups_at (suc most) (256 * q + 255) (b ∷ bs))
    ≡ put_low q (b - 128) (reaching q reach (useless q (b - 128)) (signed_groups_at most (256 * q + 255) bs))
more_signed q most reach but b bs is fits large room some =
    ap (reaching q (128 * reach) but) (signed_more q most b bs large)
    ∙ more_of q reach (b - 128) but is (omega (arith, fits 0)) room some (signed_groups_at most (256 * q + 255) bs)
    (λ n rest e. at_most q most bs n rest (IsBytes-tail b bs fits) e)

joins_malformed : (q low h : ℕ) (bs : List ℕ) (f : WFault) → joins q low h bs ≡ Err f → f ≡ Malformed
joins_malformed q low h bs f e = elim (cases_Bool (leb h q)) [
  | inl yes' ↦
      elim (cases_Bool (ltb (low + 128 * h) 64)) [
        | inl few ↦ sym (err_is Malformed f (rw (yes', few) at e))
        | inr more ↦ absurd (absent (low + 128 * h, bs) f (rw (yes', more) at e))
      ]
  | inr no' ↦
      elim (cases_Bool (ltb h (255 * q + 255))) [
        | inl lt ↦ sym (err_is Malformed f (rw (no', lt) at e))
        | inr least ↦
            elim (cases_Bool (ltb (256 * q + 191) (low + 128 * (h - (254 * q + 254))))) [
              | inl over ↦ sym (err_is Malformed f (rw (no', least, over) at e))
              | inr le ↦ absurd (absent (low + 128 * (h - (254 * q + 254)), bs) f (rw (no', least, le) at e))
            ]
      ]
]

all_malformed : (q low : ℕ) (r : Reading ℕ) (f : WFault) → ((g : WFault) → r ≡ Err g → g ≡ Malformed)
    → join_all q low r ≡ Err f → f ≡ Malformed
all_malformed q low (Ok x) f h e = joins_malformed q low x.0 x.1 f (sym (joins_is q low x.0 x.1) ∙ e)
all_malformed q low (Err g) f h e = sym (err_is g f e) ∙ h g refl

signed_malformed : (q most : ℕ) (bytes : List ℕ) (f : WFault) → signed_groups_at most (256 * q + 255) bytes ≡ Err f
    → f ≡ Malformed
unfolding signed_groups_at
signed_malformed q zero bytes f e = sym (err_is Malformed f e)
signed_malformed q (suc most) [] f e = sym (err_is Malformed f e)
signed_malformed q (suc most) (b ∷ bytes) f e = elim (cases_lt b 64) [
  | inl lt ↦ absurd (absent (b, bytes) f (sym (signed_one q most b bytes lt) ∙ e))
  | inr le ↦
      elim (cases_lt b 128) [
        | inl lt ↦ absurd (absent (b + (256 * q + 128), bytes) f (sym (signed_minus q most b bytes le lt) ∙ e))
        | inr large ↦ all_malformed q (b - 128) (signed_groups_at most (256 * q + 255) bytes) f
            (signed_malformed q most bytes) (sym (signed_more q most b bytes large) ∙ e)
      ]
]

reaching_malformed : (q reach but : ℕ) (r : Reading ℕ) (f : WFault) → ((g : WFault) → r ≡ Err g → g ≡ Malformed)
    → reaching q reach but r ≡ Err f → f ≡ Malformed
reaching_malformed q reach but (Ok x) f h e = elim (cases_Bool (reached q reach but x.0)) [
  | inl yes' ↦ absurd (absent x f (rw yes' at e))
  | inr no' ↦ sym (err_is Malformed f (rw no' at e))
]
reaching_malformed q reach but (Err g) f h e = sym (err_is g f e) ∙ h g refl

none_of : (q reach low but : ℕ) → low < 128 → reach ≤ 64 → (r : Reading ℕ) → ((g : WFault) → r ≡ Err g → g ≡ Malformed)
    → reaching q reach but (join_all q low r) ≡ malformed
none_of q reach low but small room (Ok x) h = ap (reaching q reach but) (joins_is q low x.0 x.1)
    ∙ none_left q reach low x.0 but x.1 small room
none_of q reach low but small room (Err g) h = ap failing (h g refl)

-- ---- where they stop

zero_cells : (k q : ℕ) → cells (suc k) q 0 ≡ (OtherByte, 0) ∷ []
unfolding signed_groups
zero_cells k q = refl

top_cells : (k q : ℕ) → cells (suc k) q (256 * q + 255) ≡ (OtherByte, 127) ∷ []
unfolding signed_groups
top_cells k q =
    let large : 64 ≤ 256 * q + 255 = omega arith in
    let great : (256 * q + 255) - 64 < 256 * q + 255 = omega arith in
    let is : (256 * q + 255) + 127 - (256 * q + 255) ≡ 127 = omega arith in
    rw (le-ltb (256 * q + 255) 64 large, lt-ltb ((256 * q + 255) - 64) (256 * q + 255) great, is) refl

record One (k most q reach but : ℕ) : Type 0 where
  value : ℕ
  fits : reached q reach but value ≡ true
  byte : ℕ
  is : cells (suc k) q value ≡ (OtherByte, byte) ∷ []

one : (k most q reach but : ℕ) → IsBut q but → 1 ≤ reach → reach ≤ 128 * (q + 1) → One k most q reach but
one k most q reach but (inl none) some room = record {
  value = 256 * q + 255;
  fits =
      rw (
        le-ltb (256 * q + 255) reach (omega arith),
        le-ltb (256 * q + 255) (256 * q + 256 - reach) (omega arith),
        lt-ltb (256 * q + 255) (256 * q + 256) (omega arith),
        ne_eqb (256 * q + 255) but (omega arith),
      )
      refl;
  byte = 127;
  is = top_cells k q;
}
one k most q reach but (inr large) some room =
    record {
      value = 0;
      fits = rw (lt-ltb 0 reach (omega arith), ne_eqb 0 but (omega arith)) refl;
      byte = 0;
      is =
          zero_cells k q;
    }

module _ (k most q reach but : ℕ) (o : One k most q reach but) where
  abbrev this : Format ℕ
  this = signed_numbers (suc k) most q reach but

  missing : (fault : WFault) → fault ≡ Malformed → Stop this (cells (suc k) q) [] fault
  missing fault is = record {
    front = [];
    at = [];
    parts = refl;
    value = o.value;
    fits = o.fits;
    next =
        (OtherByte, o.byte);
    rest = [];
    begins = o.is;
    how = is;
  }

  decided : (b : ℕ) (bs : List ℕ) (fault : WFault) → fault ≡ Malformed
      → ((follow : List ℕ) → IsBytes (b ∷ follow) → this.reading (b ∷ follow) ≡ malformed)
      → Stop this (cells (suc k) q) (b ∷ bs) fault
  decided b bs fault is h = record {
    front = [];
    at = b ∷ bs;
    parts = refl;
    value = o.value;
    fits = o.fits;
    next = (OtherByte, o.byte);
    rest = [];
    begins = o.is;
    how = (is, λ follow fits. h follow fits ∙ ap failing (sym is));
  }

known_fails : (q reach but n : ℕ) (bs follow : List ℕ) (fault : WFault) → reaching q reach but (Ok (n, bs)) ≡ Err fault
    → reaching q reach but (Ok (n, follow)) ≡ malformed
known_fails q reach but n bs follow fault e = elim (cases_Bool (reached q reach but n)) [
  | inl yes' ↦ absurd (absent (n, bs) fault (rw yes' at e))
  | inr no' ↦ rw no' refl
]

not_true : (b : Bool) → not b ≡ true → b ≡ false
not_true true e = absurd cc
not_true false e = refl

unequal : (n m : ℕ) → eqb n m ≡ false → n ≢ m
unequal n m e h = absurd (true_false (sym (eq-eqb n m h) ∙ e))
  where
    true_false : true ≡ false → ⊥
    true_false e = cc

pub record Reaches (q reach but n : ℕ) : Type 0 where
  pub other : n ≢ but
  pub where_it_is : (n < reach) ⊎ ((256 * q + 256 - reach ≤ n) × (n < 256 * q + 256))

pub reaches : (q reach but n : ℕ) → reached q reach but n ≡ true → Reaches q reach but n
reaches q reach but n e = elim (cases_lt n reach) [
  | inl lt ↦ record { other = unequal n but (not_true (eqb n but) (rw (lt-ltb n reach lt) at e)); where_it_is = inl lt }
  | inr ge ↦
      elim (cases_lt n (256 * q + 256 - reach)) [
        | inl lt ↦
            let no' : false ≡ true = rw (le-ltb n reach ge, lt-ltb n (256 * q + 256 - reach) lt) at e in
            absurd cc
        | inr far ↦
            elim (cases_lt n (256 * q + 256)) [
              | inl lt ↦
                  record {
                    other = unequal n but (not_true (eqb n but)
                        (rw (le-ltb n reach ge, le-ltb n (256 * q + 256 - reach) far, lt-ltb n (256 * q + 256) lt) at
                        e));
                    where_it_is = inr (far, lt);
                  }
              | inr over ↦
                  let no' : false ≡ true = rw (
                    le-ltb n reach ge,
                    le-ltb n (256 * q + 256 - reach) far,
                    le-ltb n
                        (256 * q + 256) over,
                  ) at e in
                  absurd cc
            ]
      ]
]

shifted_low : (top n : ℕ) → n ≤ top / 2 → shift_group top n ≡ n / 128
shifted_low top n le = rw (le-leb n (top / 2) le) refl

shifted_high : (top n : ℕ) → top / 2 < n → shift_group top n ≡ n / 128 + (top - top / 128)
shifted_high top n lt = rw (lt-leb n (top / 2) lt) refl

groups_of : (k q n : ℕ) → 64 ≤ n → n ≤ 256 * q + 191
    → signed_groups (suc k) (256 * q + 255) n ≡ (128 + n % 128)
    ∷ signed_groups k (256 * q + 255) (shift_group (256 * q + 255) n)
unfolding signed_groups
groups_of k q n large low =
    let le : n ≤ (256 * q + 255) - 64 = omega arith in
    rw (le-ltb n 64 large, le-ltb ((256 * q + 255) - 64) n le) refl

cons_groups : (k q b low h n : ℕ) → b ≡ 128 + low → n % 128 ≡ low → shift_group (256 * q + 255) n ≡ h
    → (128 + n % 128) ∷ signed_groups k (256 * q + 255) (shift_group (256 * q + 255) n) ≡ b
    ∷ signed_groups k (256 * q + 255) h
cons_groups k q b low h n first is same = rw (is, same, first) refl

encoded_low : (k q b low h : ℕ) → b ≡ 128 + low → low < 128 → h ≤ q → 64 ≤ low + 128 * h
    → signed_groups (suc k) (256 * q + 255) (value_of q low h) ≡ b ∷ signed_groups k (256 * q + 255) h
encoded_low k q b low h first small le more =
    let n : ℕ = low + 128 * h in
    let half : low + 128 * h ≤ (256 * q + 255) / 2 = omega (arith, half_is q) in
    rw (le-leb h q le) (groups_of k q n more (omega arith)
    ∙ cons_groups k q b low h n first (omega arith) (shifted_low (256 * q + 255) n half ∙ omega arith))

encoded_high : (k q b low h : ℕ) → b ≡ 128 + low → low < 128 → 255 * q + 255 ≤ h → h ≤ 256 * q + 255
    → low + 128 * (h - (254 * q + 254)) ≤ 256 * q + 191
    → signed_groups (suc k) (256 * q + 255) (value_of q low h) ≡ b ∷ signed_groups k (256 * q + 255) h
encoded_high k q b low h first small least top le =
    let n : ℕ = low + 128 * (h - (254 * q + 254)) in
    let half : (256 * q + 255) / 2 < low + 128 * (h - (254 * q + 254)) = omega (arith, half_is q) in
    let back : (low + 128 * (h - (254 * q + 254))) / 128 + (254 * q + 254) ≡ h = omega arith in
    rw (lt-leb h q (omega arith)) (
    groups_of k q n (omega arith) le ∙ cons_groups k q b low h n first (omega arith)
    (shifted_high (256 * q + 255) n half ∙ ap (λ (c : ℕ). n / 128 + c) (less_128 q) ∙ back)
    )

module _ (k q reach but b low h : ℕ) (first : b ≡ 128 + low) (small : low < 128) (room : reach ≤ q + 1) where
  abbrev Encoded : Type 0
  Encoded = (signed_groups (suc k) (256 * q + 255) (value_of q low h) ≡ b ∷ signed_groups k (256 * q + 255) h)
      × (reached q (128 * reach) but (value_of q low h) ≡ true)

  fits_low : IsBut q but → h < reach → 64 ≤ low + 128 * h → reached q (128 * reach) but (value_of q low h) ≡ true
  fits_low is lt more =
      rw (
        le-leb h q (omega arith),
        lt-ltb (low + 128 * h) (128 * reach) (omega arith),
        not_but q but (low + 128 * h) is more (omega arith),
      )
      refl

  fits_high : IsBut q but → 256 * q + 256 - reach ≤ h → h < 256 * q + 256
      → low + 128 * (h - (254 * q + 254)) ≤ 256 * q + 191 → reached q (128 * reach) but (value_of q low h) ≡ true
  fits_high is far top le =
      rw (
        lt-leb h q (omega arith),
        le-ltb (low + 128 * (h - (254 * q + 254))) (128 * reach) (omega arith),
        le-ltb (low + 128 * (h - (254 * q + 254))) (256 * q + 256 - 128 * reach) (omega arith),
        lt-ltb (low + 128 * (h - (254 * q + 254))) (256 * q + 256) (omega arith),
        not_but q but (low + 128 * (h - (254 * q + 254))) is (omega arith) le,
      )
      refl

  at_low : IsBut q but → h < reach → h ≢ useless q low → Encoded
  at_low is lt other = elim (cases_lt low 64) [
    | inl few ↦
        let some : h ≢ 0 = subst (λ (u : ℕ). h ≢ u) (useless_low q low few) other in
        let more : 64 ≤ low + 128 * h = omega arith in
        (encoded_low k q b low h first small (omega arith) more, fits_low is lt more)
    | inr many' ↦
        let more : 64 ≤ low + 128 * h = omega arith in
        (encoded_low k q b low h first small (omega arith) more, fits_low is lt more)
  ]

  at_high : IsBut q but → 256 * q + 256 - reach ≤ h → h < 256 * q + 256 → h ≢ useless q low → Encoded
  at_high is far top other = elim (cases_lt low 64) [
    | inl few ↦
        let le : low + 128 * (h - (254 * q + 254)) ≤ 256 * q + 191 = omega arith in
        (encoded_high k q b low h first small (omega arith) (omega arith) le, fits_high is far top le)
    | inr many' ↦
        let some : h ≢ 256 * q + 255 = subst (λ (u : ℕ). h ≢ u) (useless_high q low many') other in
        let le : low + 128 * (h - (254 * q + 254)) ≤ 256 * q + 191 = omega arith in
        (encoded_high k q b low h first small (omega arith) (omega arith) le, fits_high is far top le)
  ]

  encoded : IsBut q but → reached q reach (useless q low) h ≡ true → Encoded
  encoded is e =
      let r = reaches q reach (useless q low) h e in
      elim r.where_it_is [
        | inl lt ↦ at_low is lt r.other
        | inr far ↦ at_high is far.0 far.1 r.other
      ]

useless_is : (q low : ℕ) → IsBut q (useless q low)
useless_is q low = elim (cases_lt low 64) [
  | inl lt ↦ inl (useless_low q low lt)
  | inr le ↦ inr (le_same (useless_high q low le))
]
  where
    le_same : useless q low ≡ 256 * q + 255 → 256 * q + 255 ≤ useless q low
    le_same e = omega (arith, e)

-- how far numbers reach that take one group more than so many
abbrev pub reach_of : (base groups : ℕ) → ℕ
reach_of base groups = base * 128 ^ groups

reach_step : (base j : ℕ) → reach_of base (suc j) ≡ 128 * reach_of base j
reach_step base j = rw (pow-suc 128 j) (omega arith)

reach_some : (base j : ℕ) → 1 ≤ base → 1 ≤ reach_of base j
reach_some base zero some = omega arith
reach_some base (suc j) some = omega (arith, reach_step base j, reach_some base j some)

IsBytes-cons : (b : ℕ) (bs : List ℕ) → b < 256 → IsBytes bs → IsBytes (b ∷ bs)
IsBytes-cons b bs lt h zero = lt
IsBytes-cons b bs lt h (suc i) = h i

module _ (q base : ℕ) (some : 1 ≤ base) (room : base ≤ 64) where
  abbrev Stops : (k j but : ℕ) (bytes : List ℕ) (fault : WFault) → Type 0
  Stops k j but bytes fault = Stop (signed_numbers (suc k) (suc j) q (reach_of base j) but) (cells (suc k) q) bytes
      fault

  abbrev reading : (j but : ℕ) → List ℕ → Reading ℕ
  reading j but bytes = reaching q (reach_of base j) but (signed_groups_at (suc j) (256 * q + 255) bytes)

  is_malformed : (j but : ℕ) (bytes : List ℕ) (fault : WFault) → reading j but bytes ≡ Err fault → fault ≡ Malformed
  is_malformed j but bytes fault e = reaching_malformed q (reach_of base j) but
      (signed_groups_at (suc j) (256 * q + 255) bytes) fault (signed_malformed q (suc j) bytes) e

  in_one : (k j but b : ℕ) (bs : List ℕ) (fault : WFault) → One k (suc j) q (reach_of base j) but → b < 128
      → reading j but (b ∷ bs) ≡ Err fault → Stops k j but (b ∷ bs) fault
  in_one k j but b bs fault o lt e = elim (cases_lt b 64) [
    | inl less ↦
        decided k (suc j) q (reach_of base j) but o b bs fault (is_malformed j but (b ∷ bs) fault e)
        (λ follow g.
        ap (reaching q (reach_of base j) but) (signed_one q j b follow less)
        ∙ known_fails q (reach_of base j) but b bs follow fault
        (sym (ap (reaching q (reach_of base j) but) (signed_one q j b bs less)) ∙ e))
    | inr le ↦
        decided k (suc j) q (reach_of base j) but o b bs fault (is_malformed j but (b ∷ bs) fault e)
        (λ follow g.
        ap (reaching q (reach_of base j) but) (signed_minus q j b follow le lt)
        ∙ known_fails q (reach_of base j) but (b + (256 * q + 128)) bs follow fault
        (sym (ap (reaching q (reach_of base j) but) (signed_minus q j b bs le lt)) ∙ e))
  ]

  last_group : (k but b : ℕ) (bs : List ℕ) (fault : WFault) → One k 1 q (reach_of base 0) but → 128 ≤ b
      → reading 0 but (b ∷ bs) ≡ Err fault → Stops k 0 but (b ∷ bs) fault
  last_group k but b bs fault o large e =
      decided k 1 q (reach_of base 0) but o b bs fault (is_malformed 0 but (b ∷ bs) fault e)
      (λ follow g.
      ap (reaching q (reach_of base 0) but) (signed_more q 0 b follow large)
      ∙ none_of q (reach_of base 0) (b - 128) but (omega (arith, g 0)) (omega arith)
      (signed_groups_at 0 (256 * q + 255) follow) (signed_malformed q 0 follow))

  pub signed_stop : (k j but : ℕ) (bytes : List ℕ) (fault : WFault) → j ≤ k → IsBut q but
      → reach_of base j ≤ 128 * (q + 1) → IsBytes bytes → reading j but bytes ≡ Err fault → Stops k j but bytes fault
  signed_stop k j but [] fault le is far fits e =
      missing k (suc j) q (reach_of base j) but (one k (suc j) q (reach_of base j) but is (reach_some base j some) far)
      fault (is_malformed j but [] fault e)
  signed_stop k zero but (b ∷ bs) fault le is far fits e =
      let o = one k 1 q (reach_of base 0) but is (reach_some base 0 some) far in
      elim (cases_lt b 128) [
        | inl lt ↦ in_one k 0 but b bs fault o lt e
        | inr large ↦ last_group k but b bs fault o large e
      ]
  signed_stop zero (suc j) but (b ∷ bs) fault le is far fits e = absurd (omega arith)
  signed_stop (suc k) (suc j) but (b ∷ bs) fault le is far fits e =
      let o = one (suc k) (suc (suc j)) q (reach_of base (suc j)) but is (reach_some base (suc j) some) far in
      elim (cases_lt b 128) [
        | inl lt ↦ in_one (suc k) (suc j) but b bs fault o lt e
        | inr large ↦
            let low : ℕ = b - 128 in
            let reach : ℕ = reach_of base j in
            let more : reach_of base j ≤ q + 1 = omega (arith, reach_step base j) in
            let step : (t : List ℕ) → IsBytes (b ∷ t)
            → reading (suc j) but (b ∷ t) ≡ put_low q low (reading j (useless q low) t) =
            λ t g. ap (λ (r : ℕ). reaching q r but (signed_groups_at (suc (suc j)) (256 * q + 255) (b ∷ t)))
            (reach_step base j) ∙ more_signed q (suc j) (reach_of base j) but b t is g large more
            (reach_some base j some) in
            let inner : reading j (useless q low) bs ≡ Err fault =
            bind_err (reading j (useless q low) bs) (λ h. (value_of q low h.0, h.1)) fault (sym (step bs fits) ∙ e)
            in
            let s = signed_stop k j (useless q low) bs fault (omega arith) (useless_is q low) (omega arith)
            (IsBytes-tail b bs fits) inner in
            let made = λ (h : ℕ) (g : reached q (reach_of base j) (useless q low) h ≡ true). encoded (suc k) q
            (reach_of base j) but b low h (omega arith) (omega (arith, fits 0)) more is g in
            into (signed_numbers (suc k) (suc j) q (reach_of base j) (useless q low)) (cells (suc k) q)
            (signed_numbers (suc (suc k)) (suc (suc j)) q (reach_of base (suc j)) but) (cells (suc (suc k)) q)
            ((OtherByte, b) ∷ []) (value_of q low) (λ h. [])
            (λ h g. ap others (made h g).0 ∙ ap (λ (t : List Cell). (OtherByte, b) ∷ t)
            (sym (append-nil (cells (suc k) q h))))
            (λ h g. ap (λ (r : ℕ). reached q r but (value_of q low h)) (reach_step base j) ∙ (made h g).1)
            (λ t f g h. step t (IsBytes-cons b t (fits 0) g) ∙ ap (put_low q low) h)
            bs fault s
      ]
