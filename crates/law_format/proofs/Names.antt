-- Where readings of texts stop that state how many bytes they have.
use Rattle.std.proofs.Common.{◌≡◌, ℕ, zero, suc, ◌+◌, ◌^◌, ◌<◌, ◌≤◌, Bool, true, false, cond, ltb, eqb, ◌&&◌, ◌||◌, List, [], ◌∷◌, ◌++◌, length, get_or, take, drop, Ok, Err, refl, sym, ap, subst, ◌∙◌, append_assoc, append-nil, arith, inl, inr}
use Rattle.std.specs.List.{list_all}
use Rattle.std.specs.Str.{is_utf8}
use Rattle.std.proofs.lemmas.Bool.{cases_lt, cases_Bool, lt-ltb, ltb-true, le-leb, lt-leb, eqb-true, eq-eqb, and_parts, and_from}
use Rattle.std.proofs.lemmas.List.{length-append, take_at, length-take-le}
use Rattle.std.proofs.lemmas.Str.{is_utf8-from_IsUtf8, IsUtf8-from_ascii}
use Rattle.wasm_tree.specs.declared.fault.WFault.{WFault}
use Rattle.wasm_tree.specs.declared.fault.WFault.TheVariants.{Malformed}
use Rattle.wasm_tree.specs.Format.{Format, Reading, ◌>>=◌}
use Rattle.wasm_code.specs.Number.{unsigned}
use Rattle.wasm_code.specs.Parts.{that, close_part, with_size, bytes_left, name}
use Rattle.wasm_code.proofs.Laws.{IsBytes, IsBytes-tail, IsBytes-take, IsBytes-after}
use Rattle.wasm_code.proofs.LawsParts.{that_law, sized_law, bytes_left_law, are_bytes}
use Rattle.law_format.specs.Places.{OtherByte, others, plain}
use Rattle.law_format.proofs.Stops.{bytes-all, all-append, How, Stop, stop_at, Stopping, takes_from}
use Rattle.law_format.proofs.Combined.{err_is, ok_no_err, bind_same, bound_stops, seen}
use Rattle.law_format.proofs.Widths.{unsigned_stops}

-- ---- whether some bytes make a text complete

abbrev fit_bytes : (top : ℕ) → List ℕ → Bool
fit_bytes top bytes = list_all (λ b. ltb b top) bytes

some_below : (m : ℕ) → (ℕ → Bool) → Bool
some_below zero f = false
some_below (suc m) f = f m || some_below m f

can : (test : List ℕ → Bool) (top count : ℕ) → List ℕ → Bool
can test top zero front = test front
can test top (suc count) front = some_below top (λ b. can test top count (front ++ b ∷ []))

below_yes : (m : ℕ) (f : ℕ → Bool) → some_below m f ≡ true → (b : ℕ) × (b < m) × (f b ≡ true)
unfolding some_below
below_yes zero f e = absurd cc
below_yes (suc m) f e = elim (cases_Bool (f m)) [
  | inl yes' ↦ (m, omega arith, yes')
  | inr no' ↦
      let r = below_yes m f (rw no' at e) in
      (r.0, omega (arith, r.1), r.2)
]

below_no : (m : ℕ) (f : ℕ → Bool) → some_below m f ≡ false → (b : ℕ) → b < m → f b ≡ false
unfolding some_below
below_no zero f e b lt = absurd (omega arith)
below_no (suc m) f e b lt = elim (cases_Bool (f m)) [
  | inl yes' ↦ absurd (true_false (rw yes' at e))
  | inr no' ↦
      elim (cases_lt b m) [
        | inl less ↦ below_no m f (rw no' at e) b less
        | inr ge ↦ subst (λ (c : ℕ). f c ≡ false) (same b m lt ge) no'
      ]
]
  where
    true_false : true ≡ false → ⊥
    true_false e = cc

    same : (b m : ℕ) → b < suc m → m ≤ b → m ≡ b
    same b m lt ge = omega arith

record More (test : List ℕ → Bool) (top count : ℕ) (front : List ℕ) : Type 0 where
  more : List ℕ
  len : length more ≡ count
  fit : fit_bytes top more ≡ true
  passes : test (front ++ more) ≡ true

can_yes : (test : List ℕ → Bool) (top count : ℕ) (front : List ℕ) → can test top count front ≡ true
    → More test top count front
unfolding can
can_yes test top zero front e = record { more = []; len = refl; fit = refl; passes = ap test (append-nil front) ∙ e }
can_yes test top (suc count) front e =
    let r = below_yes top (λ b. can test top count (front ++ b ∷ [])) e in
    let s = can_yes test top count (front ++ r.0 ∷ []) r.2 in
    record {
      more = r.0 ∷ s.more;
      len = ap suc s.len;
      fit = and_from _ _ (lt-ltb r.0 top r.1) s.fit;
      passes = ap test (sym (append_assoc front (r.0 ∷ []) s.more)) ∙ s.passes;
    }

can_no : (test : List ℕ → Bool) (top count : ℕ) (front more : List ℕ) → can test top count front ≡ false
    → length more ≡ count → fit_bytes top more ≡ true → test (front ++ more) ≡ true → ⊥
unfolding can
can_no test top zero front [] e len fit passes = true_false (sym passes ∙ ap test (append-nil front) ∙ e)
  where
    true_false : true ≡ false → ⊥
    true_false e = cc
can_no test top zero front (c ∷ more) e len fit passes = absurd (omega arith)
can_no test top (suc count) front [] e len fit passes = absurd (omega arith)
can_no test top (suc count) front (c ∷ more) e len fit passes =
    let f = and_parts (ltb c top) (fit_bytes top more) fit in
    let no' = below_no top (λ b. can test top count (front ++ b ∷ [])) e c (ltb-true c top f.0) in
    can_no test top count (front ++ c ∷ []) more no' (omega arith) f.1
    (ap test (append_assoc front (c ∷ []) more) ∙ passes)

-- ---- texts of so many bytes that pass a test

abbrev pub texts : (test : List ℕ → Bool) (count : ℕ) → Format (List ℕ)
texts test count = record {
  encoding = λ t. t;
  reading = λ bs. (that test (record {
    encoding = λ t. t;
    reading = λ bs. bytes_left.reading (take count bs) >>=
        λ x. close_part count bs x.1 >>= λ rest. Ok (x.0, rest);
    fits = λ t. true;
  })).reading bs;
  fits = λ t. eqb (length t) count && (fit_bytes 256 t && test t);
}

abbrev malformed : Reading (List ℕ)
malformed = Err Malformed

abbrev failing : WFault → Reading (List ℕ)
failing f = Err f

module _ (test : List ℕ → Bool) (n : ℕ) where
  text_reads : (bs : List ℕ) → n ≤ length bs → test (take n bs) ≡ true
      → (texts test n).reading bs ≡ Ok (take n bs, drop n bs)
  text_reads bs le passes = rw (le-leb n (length bs) le, passes) refl

  text_fails : (bs : List ℕ) → (n ≤ length bs → test (take n bs) ≡ true → ⊥) → (texts test n).reading bs ≡ malformed
  text_fails bs h = elim (cases_lt (length bs) n) [
    | inl lt ↦ rw (lt-leb n (length bs) lt) refl
    | inr le ↦
        elim (cases_Bool (test (take n bs))) [
          | inl yes' ↦ absurd (h le yes')
          | inr no' ↦ rw (le-leb n (length bs) le, no') refl
        ]
  ]

  text_malformed : (bs : List ℕ) (f : WFault) → (texts test n).reading bs ≡ Err f → f ≡ Malformed
  text_malformed bs f e = elim (cases_lt (length bs) n) [
    | inl lt ↦ sym (err_is Malformed f (rw (lt-leb n (length bs) lt) at e))
    | inr le ↦
        elim (cases_Bool (test (take n bs))) [
          | inl yes' ↦ absurd (ok_no_err (take n bs, drop n bs) f (rw (le-leb n (length bs) le, yes') at e))
          | inr no' ↦ sym (err_is Malformed f (rw (le-leb n (length bs) le, no') at e))
        ]
  ]

  text_fits : (front more : List ℕ) → length front + length more ≡ n → IsBytes front → fit_bytes 256 more ≡ true
      → test (front ++ more) ≡ true → (texts test n).fits (front ++ more) ≡ true
  text_fits front more len fits fit passes =
      and_from _ _ (eq-eqb (length (front ++ more)) n (length-append front more ∙ len))
      (and_from _ _ (all_bytes front fits) passes)
    where
      all_bytes : (front : List ℕ) → IsBytes front → fit_bytes 256 (front ++ more) ≡ true
      all_bytes [] fits = fit
      all_bytes (b ∷ front) fits = and_from _ _ (lt-ltb b 256 (fits 0)) (all_bytes front (IsBytes-tail b front fits))

none_fits : IsBytes []
none_fits i = omega arith

front_bytes : (front at : List ℕ) → IsBytes (front ++ at) → IsBytes front
front_bytes [] at fits i = none_fits i
front_bytes (b ∷ front) at fits zero = fits 0
front_bytes (b ∷ front) at fits (suc i) = front_bytes front at (IsBytes-tail b (front ++ at) fits) i

take_front : (done bs : List ℕ) (m k : ℕ) → m ≡ length done + k → take m (done ++ bs) ≡ done ++ take k bs
take_front [] bs m k e = ap (λ (c : ℕ). take c bs) (e ∙ omega arith)
take_front (d ∷ done) bs zero k e = absurd (omega arith)
take_front (d ∷ done) bs (suc m) k e = ap (λ (t : List ℕ). d ∷ t) (take_front done bs m k (omega arith))

module _ (test : List ℕ → Bool) (n : ℕ) where
  done_no : (done : List ℕ) (bs : List ℕ) (fault : WFault) → length done ≡ n → test done ≡ true
      → (texts test n).reading (done ++ bs) ≡ Err fault → ⊥
  done_no done bs fault len passes e =
      let room : n ≤ length (done ++ bs) = omega (arith, length-append done bs) in
      let all' : take n (done ++ bs) ≡ done = take_at done bs n len in
      ok_no_err (take n (done ++ bs), drop n (done ++ bs)) fault
      (sym (text_reads test n (done ++ bs) room (ap test all' ∙ passes)) ∙ e)

  no_text : (done : List ℕ) (j b : ℕ) (follow : List ℕ) → length done + suc j ≡ n → IsBytes (done ++ (b ∷ follow))
      → can test 256 j (done ++ b ∷ []) ≡ false → (texts test n).reading (done ++ (b ∷ follow)) ≡ malformed
  no_text done j b follow len fits none = text_fails test n (done ++ (b ∷ follow)) (λ room passes.
      let enough : j ≤ length follow = omega (arith, length-append done (b ∷ follow)) in
      let text : take n (done ++ (b ∷ follow)) ≡ done ++ (b ∷ take j follow) =
      take_front done (b ∷ follow) n (suc j) (sym len) in
      let same : done ++ (b ∷ take j follow) ≡ (done ++ b ∷ []) ++ take j follow =
      sym (append_assoc done (b ∷ []) (take j follow)) in
      can_no test 256 j (done ++ b ∷ []) (take j follow) none (length-take-le j follow enough)
      (are_bytes (take j follow) (IsBytes-take j follow
      (IsBytes-tail b follow (IsBytes-after (done ++ (b ∷ follow)) done (b ∷ follow) refl fits))))
      (ap test (sym (text ∙ same)) ∙ passes))

  stop_here : (done at : List ℕ) (j : ℕ) (fault : WFault) → length done + suc j ≡ n → IsBytes (done ++ at)
      → More test 256 (suc j) done → How (texts test n).reading done OtherByte at fault
      → Stop (texts test n) others (done ++ at) fault
  stop_here done at j fault len fits m how = next m.more m.len m.fit m.passes
    where
      next : (more : List ℕ) → length more ≡ suc j → fit_bytes 256 more ≡ true → test (done ++ more) ≡ true
          → Stop (texts test n) others (done ++ at) fault
      next [] l f p = absurd (omega arith)
      next (c ∷ more) l f p = record {
        front = others done;
        at = at;
        parts = ap (λ (t : List ℕ). t ++ at) (sym (bytes-all OtherByte done));
        value = done ++ (c ∷ more);
        fits = text_fits test n done (c ∷ more) (omega arith) (front_bytes done at fits) f p;
        next = (OtherByte, c);
        rest = others more;
        begins = all-append OtherByte done (c ∷ more);
        how = subst (λ (t : List ℕ). How (texts test n).reading t OtherByte at fault) (sym (bytes-all OtherByte done))
            how;
      }

  walk : (done : List ℕ) (k : ℕ) (bs : List ℕ) (fault : WFault) → length done + k ≡ n → IsBytes (done ++ bs)
      → can test 256 k done ≡ true → (texts test n).reading (done ++ bs) ≡ Err fault
      → Stop (texts test n) others (done ++ bs) fault
  unfolding can
  walk done zero bs fault len fits e r = absurd (done_no done bs fault (omega arith) e r)
  walk done (suc j) [] fault len fits e r =
      stop_here done [] j fault len fits (can_yes test 256 (suc j) done e) (text_malformed test n (done ++ []) fault r)
  walk done (suc j) (b ∷ bs) fault len fits e r = elim (cases_Bool (can test 256 j (done ++ b ∷ []))) [
    | inl yes' ↦
        let same : (done ++ b ∷ []) ++ bs ≡ done ++ (b ∷ bs) = append_assoc done (b ∷ []) bs in
        stop_at (texts test n) others (done ++ (b ∷ bs)) ((done ++ b ∷ []) ++ bs) fault (sym same)
        (walk (done ++ b ∷ []) j bs fault (omega (arith, length-append done (b ∷ []))) (subst IsBytes (sym same) fits)
        yes' (ap (texts test n).reading same ∙ r))
    | inr no' ↦
        let is = text_malformed test n (done ++ (b ∷ bs)) fault r in
        stop_here done (b ∷ bs) j fault len fits (can_yes test 256 (suc j) done e)
        (is, λ follow g. no_text done j b follow len g no' ∙ ap failing (sym is))
  ]

-- ---- texts behind the number of their bytes

pub letters : ℕ → List ℕ
letters zero = []
letters (suc n) = 97 ∷ letters n

letters-length : (n : ℕ) → length (letters n) ≡ n
unfolding letters
letters-length zero = refl
letters-length (suc n) = ap suc (letters-length n)

letters-fit : (n : ℕ) → fit_bytes 256 (letters n) ≡ true
unfolding letters
letters-fit zero = refl
letters-fit (suc n) = letters-fit n

letters-ascii : (n i : ℕ) → get_or (letters n) i 0 < 128
unfolding letters
letters-ascii zero i = omega arith
letters-ascii (suc n) zero = omega arith
letters-ascii (suc n) (suc i) = letters-ascii n i

letters-utf8 : (n : ℕ) → is_utf8 (letters n) ≡ true
letters-utf8 n = is_utf8-from_IsUtf8 (letters n) (IsUtf8-from_ascii (letters n) (letters-ascii n))

abbrev pub counted : (test : List ℕ → Bool) → Format (List ℕ)
counted test = that test (with_size bytes_left)

module _ (test : List ℕ → Bool) (passes : (n : ℕ) → test (letters n) ≡ true) where
  letters_can : (n : ℕ) → can test 256 n [] ≡ true
  letters_can n = elim (cases_Bool (can test 256 n [])) [
    | inl yes' ↦ yes'
    | inr no' ↦ absurd (can_no test 256 n [] (letters n) no' (letters-length n) (letters-fit n) (passes n))
  ]

  texts_stop : (n : ℕ) (bytes : List ℕ) (fault : WFault) → IsBytes bytes → (texts test n).reading bytes ≡ Err fault
      → Stop (texts test n) others bytes fault
  texts_stop n bytes fault fits e = walk test n [] n bytes fault (omega arith) fits (letters_can n) e

  abbrev sized_text : ℕ × List ℕ → Reading (List ℕ)
  sized_text n = bytes_left.reading (take n.0 n.1) >>= λ x. close_part n.0 n.1 x.1 >>= λ rest. Ok (x.0, rest)

  abbrev tested : List ℕ × List ℕ → Reading (List ℕ)
  tested x = cond (test x.0) (Ok x) (Err Malformed)

  abbrev text_of : ℕ × List ℕ → Reading (List ℕ)
  text_of x = (texts test x.0).reading x.1 >>= λ y. Ok (y.0, y.1)

  counted_of : (r : Reading ℕ) → (r >>= sized_text >>= tested) ≡ (r >>= text_of)
  counted_of (Ok x) = bind_same ((texts test x.0).reading x.1)
  counted_of (Err f) = refl

  text_cells : (n : ℕ) (t : List ℕ) → (texts test n).fits t ≡ true
      → plain (counted test) t ≡ plain unsigned n ++ others t
  text_cells n t fits =
      let f = and_parts (eqb (length t) n) (fit_bytes 256 t && test t) fits in
      all-append OtherByte (unsigned.encoding (length t)) t
      ∙ ap (λ (k : ℕ). plain unsigned k ++ others t) (eqb-true (length t) n f.0)

  text_counted : (n : ℕ) (t : List ℕ) → unsigned.fits n ≡ true → (texts test n).fits t ≡ true
      → (counted test).fits t ≡ true
  text_counted n t h fits =
      let f = and_parts (eqb (length t) n) (fit_bytes 256 t && test t) fits in
      let g = and_parts (fit_bytes 256 t) (test t) f.1 in
      and_from _ _ (and_from _ _ g.0 (ap unsigned.fits (eqb-true (length t) n f.0) ∙ h)) g.1

  pub counted_stops : Stopping (counted test) (plain (counted test))
  counted_stops = record {
    takes = takes_from (counted test) (plain (counted test))
        (that_law test (with_size bytes_left) (sized_law bytes_left bytes_left_law))
        (λ t. bytes-all OtherByte ((counted test).encoding t));
    some = letters 0;
    some_fits = and_from _ _ (and_from _ _ (letters-fit 0)
        (lt-ltb (length (letters 0)) (2 ^ 32) (omega (arith, letters-length 0)))) (passes 0);
    stops =
        bound_stops unsigned (plain unsigned) unsigned_stops (texts test) (λ n. others) (counted test)
        (plain (counted test)) (λ n t. t) (λ n t h g. text_cells n t g) text_counted
        (λ bs g. counted_of (unsigned.reading bs)) letters
        (λ n h. and_from _ _ (eq-eqb (length (letters n)) n (letters-length n))
        (and_from _ _ (letters-fit n) (passes n))) (λ n h. texts_stop n);
  }

pub name_stops : Stopping name (plain name)
unfolding name
name_stops = counted_stops is_utf8 letters-utf8

-- a text of any bytes
any_text : (r : Reading (List ℕ)) → r ≡ ((r >>= λ x. Ok x) >>= λ x. Ok (x.0, x.1))
any_text (Ok x) = refl
any_text (Err f) = refl

pub bytes_stops : Stopping (with_size bytes_left) (plain (with_size bytes_left))
bytes_stops =
    seen (counted (λ t. true)) (plain (with_size bytes_left)) (counted_stops (λ t. true) (λ n. refl))
    (with_size bytes_left) (plain (with_size bytes_left)) (λ t. t) (λ t h. refl) (λ t h. (and_parts _ _ h).0)
    (λ bs. any_text ((with_size bytes_left).reading bs))
