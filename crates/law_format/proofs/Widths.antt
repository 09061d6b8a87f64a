-- Where readings of numbers of 32 and 64 bits stop, and of the numbers of a range.
use Rattle.std.proofs.Common.{◌≡◌, ℕ, ◌+◌, ◌-◌, ◌*◌, ◌^◌, ◌<◌, ◌≤◌, true, leb, ltb, List, [], Ok, Err, refl, sym, ap, append-nil, arith, inl, inr}
use Rattle.std.proofs.lemmas.Bool.{cases_lt, lt-ltb, le-ltb, ltb-true, le-leb, ne_eqb, and_parts, and_from}
use Rattle.wasm_tree.specs.declared.fault.WFault.{WFault}
use Rattle.wasm_tree.specs.Format.{Format, Reading}
use Rattle.wasm_code.specs.Number.{groups_at, unsigned, signed_groups_at, signed32, signed64}
use Rattle.wasm_code.proofs.Laws.{IsBytes, Law}
use Rattle.wasm_code.proofs.LawsNumber.{groups_take, unsigned_law, signed_take, signed32_law, signed64_law}
use Rattle.wasm_code.proofs.LawsParts.{that_law}
use Rattle.law_format.specs.Places.{OtherByte, plain}
use Rattle.law_format.proofs.Stops.{bytes-all, Stop, Stopping, takes_from, into}
use Rattle.law_format.proofs.Combined.{ok_no_err}
use Rattle.law_format.proofs.Numbers.{in_range, ranged, numbers, numbers_stop}
use Rattle.law_format.proofs.Signed.{reached, reaching, signed_numbers, signed_stop, reaches}

-- ---- numbers below 2 ^ 32

unsigned_reads : (bs : List ℕ) (f : WFault) → IsBytes bs → (r : Reading ℕ) → groups_at 5 bs ≡ r
    → ranged 0 (2 ^ 32) r ≡ Err f → r ≡ Err f
unsigned_reads bs f fits (Ok x) e h =
    let t = groups_take 5 10 bs x.0 x.1 (omega arith) fits e in
    absurd (ok_no_err x f (rw (le-leb 0 x.0 (omega arith), lt-ltb x.0 (2 ^ 32) t.1) at h))
unsigned_reads bs f fits (Err g) e h = h

unsigned_stop : (bytes : List ℕ) (fault : WFault) → IsBytes bytes → groups_at 5 bytes ≡ Err fault
    → Stop unsigned (plain unsigned) bytes fault
unsigned_stop bytes fault fits e =
    into (numbers 10 5 0 (2 ^ 32)) (plain unsigned) unsigned (plain unsigned) [] (λ n. n) (λ n. [])
    (λ n h. sym (append-nil (plain unsigned n)))
    (λ n h. (and_parts _ _ h).1)
    (λ bs f g h. unsigned_reads bs f g (groups_at 5 bs) refl h)
    bytes fault
    (numbers_stop 9 5 0 (2 ^ 32) bytes fault (omega arith) (omega arith) (omega arith) fits (ap (ranged 0 (2 ^ 32)) e))

pub unsigned_stops : Stopping unsigned (plain unsigned)
unsigned_stops = record {
  takes = takes_from unsigned (plain unsigned) unsigned_law
      (λ n. bytes-all OtherByte (unsigned.encoding n));
  some = 0;
  some_fits = refl;
  stops = unsigned_stop;
}

-- ---- numbers of a range

abbrev pub between : (least end : ℕ) → Format ℕ
between least end = numbers 10 5 least end

module _ (least end : ℕ) (some : least < end) (room : end ≤ 2 ^ 32) where
  between_fits : (n : ℕ) → in_range least end n ≡ true → unsigned.fits n ≡ true
  between_fits n e =
      let f = and_parts (leb least n) (ltb n end) e in
      lt-ltb n (2 ^ 32) (omega (arith, ltb-true n end f.1))

  between_law : Law (between least end)
  between_law =
      let law = that_law (in_range least end) unsigned unsigned_law in
      record {
        takes = λ bytes x rest fits e.
            let t = law.takes bytes x rest fits e in
            record { parts = t.parts; rest_fits = t.rest_fits; fits = (and_parts _ _ t.fits).1 };
        again = λ x rest fits. law.again x rest (and_from _ _ (between_fits x fits) fits);
      }

  pub between_stops : Stopping (between least end) (plain unsigned)
  between_stops = record {
    takes = takes_from (between least end) (plain unsigned) between_law
        (λ n. bytes-all OtherByte (unsigned.encoding n));
    some = least;
    some_fits = and_from _ _ (le-leb least least (omega arith)) (lt-ltb least end some);
    stops = λ bytes fault fits e. numbers_stop 9 5 least end bytes fault (omega arith) some room fits e;
  }

-- ---- signed numbers

module _ (q base j most : ℕ) (far : base * 128 ^ j ≡ 128 * (q + 1)) where
  abbrev reach : ℕ
  reach = base * 128 ^ j

  is_reached : (n : ℕ) → n ≤ 256 * q + 255 → reached q (base * 128 ^ j) (256 * q + 256) n ≡ true
  is_reached n top = elim (cases_lt n (base * 128 ^ j)) [
    | inl lt ↦ rw (lt-ltb n (base * 128 ^ j) lt, ne_eqb n (256 * q + 256) (omega arith)) refl
    | inr ge ↦
        rw (
          le-ltb n (base * 128 ^ j) ge,
          le-ltb n (256 * q + 256 - base * 128 ^ j) (omega arith),
          lt-ltb n (256 * q + 256) (omega arith),
          ne_eqb n (256 * q + 256) (omega arith),
        )
        refl
  ]

  signed_reads : (bs : List ℕ) (f : WFault) → IsBytes bs → (r : Reading ℕ)
      → signed_groups_at most (256 * q + 255) bs ≡ r → reaching q (base * 128 ^ j) (256 * q + 256) r ≡ Err f → r ≡ Err f
  signed_reads bs f fits (Ok x) e h =
      let t = signed_take q most most bs x.0 x.1 (omega arith) fits e in
      absurd (ok_no_err x f (rw (is_reached x.0 t.1) at h))
  signed_reads bs f fits (Err g) e h = h

  signed_fits : (n : ℕ) → reached q (base * 128 ^ j) (256 * q + 256) n ≡ true → n < 256 * q + 256
  signed_fits n e = elim (reaches q (base * 128 ^ j) (256 * q + 256) n e).where_it_is [
    | inl lt ↦ omega arith
    | inr lt ↦ lt.1
  ]

signed32_stop : (bytes : List ℕ) (fault : WFault) → IsBytes bytes → signed32.reading bytes ≡ Err fault
    → Stop signed32 (plain signed32) bytes fault
signed32_stop bytes fault fits e =
    into (signed_numbers 5 5 (2 ^ 24 - 1) (8 * 128 ^ 4) (2 ^ 32)) (plain signed32) signed32 (plain signed32) [] (λ n. n)
    (λ n. []) (λ n h. sym (append-nil (plain signed32 n)))
    (λ n h. lt-ltb n (2 ^ 32) (signed_fits (2 ^ 24 - 1) 8 4 5 refl n h))
    (λ bs f g h. signed_reads (2 ^ 24 - 1) 8 4 5 refl bs f g (signed32.reading bs) refl h)
    bytes fault
    (signed_stop (2 ^ 24 - 1) 8 (omega arith) (omega arith) 4 4 (2 ^ 32) bytes fault (omega arith) (inr (omega arith))
    (omega arith) fits (ap (reaching (2 ^ 24 - 1) (8 * 128 ^ 4) (2 ^ 32)) e))

pub signed32_stops : Stopping signed32 (plain signed32)
signed32_stops = record {
  takes = takes_from signed32 (plain signed32) signed32_law
      (λ n. bytes-all OtherByte (signed32.encoding n));
  some = 0;
  some_fits = refl;
  stops = signed32_stop;
}

signed64_stop : (bytes : List ℕ) (fault : WFault) → IsBytes bytes → signed64.reading bytes ≡ Err fault
    → Stop signed64 (plain signed64) bytes fault
signed64_stop bytes fault fits e =
    into (signed_numbers 10 10 (2 ^ 56 - 1) (1 * 128 ^ 9) (2 ^ 64)) (plain signed64) signed64 (plain signed64) []
    (λ n. n) (λ n. []) (λ n h. sym (append-nil (plain signed64 n)))
    (λ n h. lt-ltb n (2 ^ 64) (signed_fits (2 ^ 56 - 1) 1 9 10 refl n h))
    (λ bs f g h. signed_reads (2 ^ 56 - 1) 1 9 10 refl bs f g (signed64.reading bs) refl h)
    bytes fault
    (signed_stop (2 ^ 56 - 1) 1 (omega arith) (omega arith) 9 9 (2 ^ 64) bytes fault (omega arith) (inr (omega arith))
    (omega arith) fits (ap (reaching (2 ^ 56 - 1) (1 * 128 ^ 9) (2 ^ 64)) e))

pub signed64_stops : Stopping signed64 (plain signed64)
signed64_stops = record {
  takes = takes_from signed64 (plain signed64) signed64_law
      (λ n. bytes-all OtherByte (signed64.encoding n));
  some = 0;
  some_fits = refl;
  stops = signed64_stop;
}
