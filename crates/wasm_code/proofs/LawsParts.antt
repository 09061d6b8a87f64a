-- The laws of formats that are put together.
use Rattle.std.proofs.Common.{◌≡◌, ℕ, zero, suc, ◌^◌, ◌<◌, ◌≤◌, Bool, true, cond, ltb, leb, eqb, ◌&&◌, List, [], ◌∷◌, ◌++◌, length, take, drop, Result, Ok, Err, refl, sym, ap, subst, ◌∙◌, append_assoc, arith, inl, inr}
use Rattle.std.specs.Result.{OnOk}
use Rattle.std.specs.List.{flat_map, list_all}
use Rattle.std.specs.Str.{is_utf8}
use Rattle.std.proofs.lemmas.Bool.{false≢true, lt-ltb, ltb-true, leb-true, le-leb, eqb-true, eq-eqb, ne_eqb, and_parts, and_from, cases_Bool}
use Rattle.std.proofs.lemmas.List.{append-nil, length-append, take-append-drop, take_at, drop_at, nil_from_length, length-take-le}
use Rattle.wasm_tree.specs.declared.fault.WFault.TheVariants.{Malformed}
use Rattle.wasm_tree.specs.Format.{Format, Reading, ◌>>=◌, skip}
use Rattle.wasm_code.specs.Number.{unsigned}
use Rattle.wasm_code.specs.Parts.{◌▸◌, ◌◂◌, ◌·◌, as_value, that, many, vector, positive, entries, close_part, with_size, bytes_left, section_encoding, section_reading, section_fits, section, name}
use Rattle.wasm_code.proofs.Laws.{IsBytes, IsBytes-tail, IsBytes-take, IsBytes-drop, bind_ok, guard_ok, ok_is, read_is, Taken, taken_at, Law, WholeLaw, whole}
use Rattle.wasm_code.proofs.LawsNumber.{unsigned_law}

-- ---- a byte that has to stand there

pub skip_ok : (byte : ℕ) (bytes : List ℕ) (s : Unit {0} × List ℕ) → skip byte bytes ≡ Ok s → bytes ≡ byte ∷ s.1
skip_ok byte [] s e = absurd cc
skip_ok byte (b ∷ bytes) s e =
    let g = guard_ok (eqb b byte) Malformed (Ok (tt, bytes)) s e in
    let is = read_is tt s.0 bytes s.1 g.1 in
    ap (λ (c : ℕ). c ∷ bytes) (eqb-true b byte g.0) ∙ ap (λ (r : List ℕ). byte ∷ r) is.1

pub skip_same : (byte : ℕ) (rest : List ℕ) → skip byte (byte ∷ rest) ≡ Ok (tt, rest)
skip_same byte rest = rw (eq-eqb byte byte refl) refl

IsBytes-behind : (bytes : List ℕ) (b : ℕ) (rest : List ℕ) → bytes ≡ b ∷ rest → IsBytes bytes → IsBytes rest
IsBytes-behind bytes b rest e fits = IsBytes-tail b rest (subst IsBytes e fits)

module _ {A : Type 0} (byte : ℕ) (p : Format A) (law : Law p) where
  before_takes : (bytes : List ℕ) (x : A) (rest : List ℕ) → IsBytes bytes → (byte ▸ p).reading bytes ≡ Ok (x, rest)
      → Taken (byte ▸ p) bytes x rest
  before_takes bytes x rest fits e =
      let a = bind_ok (skip byte bytes) (λ s. p.reading s.1) (x, rest) e in
      let s = skip_ok byte bytes a.0 a.1 in
      let t = law.takes a.0.1 x rest (IsBytes-behind bytes byte a.0.1 s fits) a.2 in
      record { parts = s ∙ ap (λ (r : List ℕ). byte ∷ r) t.parts; rest_fits = t.rest_fits; fits = t.fits }

  pub before_law : Law (byte ▸ p)
  before_law = record {
    takes = before_takes;
    again =
        λ x rest fits. rw (skip_same byte (p.encoding x ++ rest)) (law.again x rest fits);
  }

  behind_takes : (bytes : List ℕ) (x : A) (rest : List ℕ) → IsBytes bytes → (p ◂ byte).reading bytes ≡ Ok (x, rest)
      → Taken (p ◂ byte) bytes x rest
  behind_takes bytes x rest fits e =
      let a = bind_ok (p.reading bytes) (λ x. skip byte x.1 >>= λ s. Ok (x.0, s.1)) (x, rest) e in
      let b = bind_ok (skip byte a.0.1) (λ s. Ok (a.0.0, s.1)) (x, rest) a.2 in
      let is = read_is a.0.0 x b.0.1 rest b.2 in
      let t = law.takes bytes a.0.0 a.0.1 fits a.1 in
      let s = skip_ok byte a.0.1 b.0 b.1 in
      let parts : bytes ≡ (p.encoding a.0.0 ++ byte ∷ []) ++ b.0.1 = t.parts
      ∙ ap (λ (r : List ℕ). p.encoding a.0.0 ++ r) s ∙ sym (append_assoc (p.encoding a.0.0) (byte ∷ []) b.0.1) in
      taken_at (p ◂ byte) bytes a.0.0 x b.0.1 rest is
      (record { parts = parts; rest_fits = IsBytes-behind a.0.1 byte b.0.1 s t.rest_fits; fits = t.fits })

  behind_again : (x : A) (rest : List ℕ) → p.fits x ≡ true
      → (p ◂ byte).reading ((p.encoding x ++ byte ∷ []) ++ rest) ≡ Ok (x, rest)
  behind_again x rest fits = rw (
    append_assoc (p.encoding x) (byte ∷ []) rest,
    law.again x (byte ∷ rest) fits,
    skip_same
        byte rest,
  ) refl

  pub behind_law : Law (p ◂ byte)
  behind_law = record { takes = behind_takes; again = behind_again }

-- ---- one part and then another

module _ {A B : Type 0} (p : Format A) (q : Format B) (lp : Law p) (lq : Law q) where
  then_takes : (bytes : List ℕ) (x : A × B) (rest : List ℕ) → IsBytes bytes → (p · q).reading bytes ≡ Ok (x, rest)
      → Taken (p · q) bytes x rest
  then_takes bytes x rest fits e =
      let a = bind_ok (p.reading bytes) (λ x. q.reading x.1 >>= λ y. Ok ((x.0, y.0), y.1)) (x, rest) e in
      let b = bind_ok (q.reading a.0.1) (λ y. Ok ((a.0.0, y.0), y.1)) (x, rest) a.2 in
      let made : A × B = (a.0.0, b.0.0) in
      let is = read_is made x b.0.1 rest b.2 in
      let t = lp.takes bytes a.0.0 a.0.1 fits a.1 in
      let u = lq.takes a.0.1 b.0.0 b.0.1 t.rest_fits b.1 in
      let parts : bytes ≡ (p.encoding a.0.0 ++ q.encoding b.0.0) ++ b.0.1 = t.parts
      ∙ ap (λ (r : List ℕ). p.encoding a.0.0 ++ r) u.parts
      ∙ sym (append_assoc (p.encoding a.0.0) (q.encoding b.0.0) b.0.1) in
      taken_at (p · q) bytes made x b.0.1 rest is
      (record { parts = parts; rest_fits = u.rest_fits; fits = and_from _ _ t.fits u.fits })

  then_again : (x : A × B) (rest : List ℕ) → (p · q).fits x ≡ true
      → (p · q).reading ((p · q).encoding x ++ rest) ≡ Ok (x, rest)
  then_again x rest fits =
      let f = and_parts (p.fits x.0) (q.fits x.1) fits in
      rw (
        append_assoc (p.encoding x.0) (q.encoding x.1) rest,
        lp.again x.0 (q.encoding x.1 ++ rest) f.0,
        lq.again x.1
            rest f.1,
      ) refl

  pub then_law : Law (p · q)
  then_law = record { takes = then_takes; again = then_again }

-- ---- the same bytes, seen as another value

module _ {A B : Type 0} (make : A → B) (part : B → A) (p : Format A) (law : Law p) (made : (y : B) → make (part y) ≡ y)
    (parted : (x : A) → part (make x) ≡ x) where
  seen_takes : (bytes : List ℕ) (y : B) (rest : List ℕ) → IsBytes bytes
      → (as_value make part p).reading bytes ≡ Ok (y, rest) → Taken (as_value make part p) bytes y rest
  seen_takes bytes y rest fits e =
      let a = bind_ok (p.reading bytes) (λ x. Ok (make x.0, x.1)) (y, rest) e in
      let is = read_is (make a.0.0) y a.0.1 rest a.2 in
      let t = law.takes bytes a.0.0 a.0.1 fits a.1 in
      let back = parted a.0.0 in
      taken_at (as_value make part p) bytes (make a.0.0) y a.0.1 rest is
      (record {
        parts = t.parts ∙ ap (λ (x : A). p.encoding x ++ a.0.1) (sym back);
        rest_fits = t.rest_fits;
        fits =
            ap p.fits back ∙ t.fits;
      })

  pub seen_law : Law (as_value make part p)
  seen_law = record { takes = seen_takes; again = λ y rest fits. rw (law.again (part y) rest fits, made y) refl }

-- ---- values that pass a test

module _ {A : Type 0} (test : A → Bool) (p : Format A) (law : Law p) where
  that_takes : (bytes : List ℕ) (x : A) (rest : List ℕ) → IsBytes bytes → (that test p).reading bytes ≡ Ok (x, rest)
      → Taken (that test p) bytes x rest
  that_takes bytes x rest fits e =
      let a = bind_ok (p.reading bytes) (λ x. cond (test x.0) (Ok x) (Err Malformed)) (x, rest) e in
      let g = guard_ok (test a.0.0) Malformed (Ok a.0) (x, rest) a.2 in
      let is = read_is a.0.0 x a.0.1 rest g.1 in
      let t = law.takes bytes a.0.0 a.0.1 fits a.1 in
      taken_at (that test p) bytes a.0.0 x a.0.1 rest is
      (record { parts = t.parts; rest_fits = t.rest_fits; fits = and_from _ _ t.fits g.0 })

  that_again : (x : A) (rest : List ℕ) → (that test p).fits x ≡ true
      → (that test p).reading (p.encoding x ++ rest) ≡ Ok (x, rest)
  that_again x rest fits =
      let f = and_parts (p.fits x) (test x) fits in
      rw (law.again x rest f.0, f.1) refl

  pub that_law : Law (that test p)
  that_law = record { takes = that_takes; again = that_again }

-- ---- so many of a kind

record ManyTaken {A : Type 0} (p : Format A) (count : ℕ) (bytes : List ℕ) (xs : List A) (rest : List ℕ) : Type 0 where
  parts : bytes ≡ flat_map p.encoding xs ++ rest
  rest_fits : IsBytes rest
  fits : list_all p.fits xs ≡ true
  len : length xs ≡ count

many_taken_at : {A : Type 0} (p : Format A) (count : ℕ) (bytes : List ℕ) (x y : List A) (b c : List ℕ) → (x ≡ y)
    × (b ≡ c) → ManyTaken p count bytes x b → ManyTaken p count bytes y c
many_taken_at p count bytes x y b c is t =
    subst (λ z. ManyTaken p count bytes z c) is.0 (subst (λ r. ManyTaken p count bytes x r) is.1 t)

module _ {A : Type 0} (p : Format A) (law : Law p) where
  many_takes : (count : ℕ) (bytes : List ℕ) (xs : List A) (rest : List ℕ) → IsBytes bytes
      → many p count bytes ≡ Ok (xs, rest) → ManyTaken p count bytes xs rest
  unfolding many
  many_takes zero bytes xs rest fits e =
      let is = read_is [] xs bytes rest e in
      many_taken_at p 0 bytes [] xs bytes rest is (record { parts = refl; rest_fits = fits; fits = refl; len = refl })
  many_takes (suc count) bytes xs rest fits e =
      let a = bind_ok (p.reading bytes) (λ x. many p count x.1 >>= λ xs. Ok (x.0 ∷ xs.0, xs.1)) (xs, rest) e in
      let b = bind_ok (many p count a.0.1) (λ xs. Ok (a.0.0 ∷ xs.0, xs.1)) (xs, rest) a.2 in
      let is = read_is (a.0.0 ∷ b.0.0) xs b.0.1 rest b.2 in
      let t = law.takes bytes a.0.0 a.0.1 fits a.1 in
      let u = many_takes count a.0.1 b.0.0 b.0.1 t.rest_fits b.1 in
      let parts : bytes ≡ (p.encoding a.0.0 ++ flat_map p.encoding b.0.0) ++ b.0.1 = t.parts
      ∙ ap (λ (r : List ℕ). p.encoding a.0.0 ++ r) u.parts
      ∙ sym (append_assoc (p.encoding a.0.0) (flat_map p.encoding b.0.0) b.0.1) in
      many_taken_at p (suc count) bytes (a.0.0 ∷ b.0.0) xs b.0.1 rest is
      (record { parts = parts; rest_fits = u.rest_fits; fits = and_from _ _ t.fits u.fits; len = ap suc u.len })

  many_again : (xs : List A) (rest : List ℕ) → list_all p.fits xs ≡ true
      → many p (length xs) (flat_map p.encoding xs ++ rest) ≡ Ok (xs, rest)
  unfolding many
  many_again [] rest fits = refl
  many_again (x ∷ xs) rest fits =
      let f = and_parts (p.fits x) (list_all p.fits xs) fits in
      rw (
        append_assoc (p.encoding x) (flat_map p.encoding xs) rest,
        law.again x (flat_map p.encoding xs ++ rest) f.0,
        many_again xs rest f.1,
      ) refl

  vector_takes : (bytes : List ℕ) (xs : List A) (rest : List ℕ) → IsBytes bytes
      → (vector p).reading bytes ≡ Ok (xs, rest) → Taken (vector p) bytes xs rest
  vector_takes bytes xs rest fits e =
      let a = bind_ok (unsigned.reading bytes) (λ n. many p n.0 n.1) (xs, rest) e in
      let t = unsigned_law.takes bytes a.0.0 a.0.1 fits a.1 in
      let u = many_takes a.0.0 a.0.1 xs rest t.rest_fits a.2 in
      let parts : bytes ≡ (unsigned.encoding a.0.0 ++ flat_map p.encoding xs) ++ rest = t.parts
      ∙ ap (λ (r : List ℕ). unsigned.encoding a.0.0 ++ r) u.parts
      ∙ sym (append_assoc (unsigned.encoding a.0.0) (flat_map p.encoding xs) rest) in
      record {
        parts = parts ∙ ap (λ (n : ℕ). (unsigned.encoding n ++ flat_map p.encoding xs) ++ rest) (sym u.len);
        rest_fits = u.rest_fits;
        fits = and_from _ _ (ap unsigned.fits u.len ∙ t.fits) u.fits;
      }

  vector_again : (xs : List A) (rest : List ℕ) → (vector p).fits xs ≡ true
      → (vector p).reading ((vector p).encoding xs ++ rest) ≡ Ok (xs, rest)
  vector_again xs rest fits =
      let f = and_parts (ltb (length xs) (2 ^ 32)) (list_all p.fits xs) fits in
      rw (
        append_assoc (unsigned.encoding (length xs)) (flat_map p.encoding xs) rest,
        unsigned_law.again (length xs)
            (flat_map p.encoding xs ++ rest) f.0,
      ) (many_again xs rest f.1)

  pub vector_law : Law (vector p)
  vector_law = record { takes = vector_takes; again = vector_again }

  positive_ok : (n : ℕ) (bytes : List ℕ) (m : ℕ × List ℕ) → positive n bytes ≡ Ok m → (0 < n) × (n ≡ m.0)
      × (bytes ≡ m.1)
  positive_ok zero bytes m e = absurd cc
  positive_ok (suc n) bytes m e = let is = read_is (suc n) m.0 bytes m.1 e in (omega arith, is.0, is.1)

  positive_same : (n : ℕ) (bytes : List ℕ) → 0 < n → positive n bytes ≡ Ok (n, bytes)
  positive_same zero bytes lt = absurd (omega arith)
  positive_same (suc n) bytes lt = refl

  entries_takes : (bytes : List ℕ) (xs : List A) (rest : List ℕ) → IsBytes bytes
      → (entries p).reading bytes ≡ Ok (xs, rest) → Taken (entries p) bytes xs rest
  entries_takes bytes xs rest fits e =
      let a = bind_ok (unsigned.reading bytes) (λ n. positive n.0 n.1 >>= λ m. many p m.0 m.1) (xs, rest) e in
      let b = bind_ok (positive a.0.0 a.0.1) (λ m. many p m.0 m.1) (xs, rest) a.2 in
      let s = positive_ok a.0.0 a.0.1 b.0 b.1 in
      let same : many p a.0.0 a.0.1 ≡ Ok (xs, rest) = ap (λ (n : ℕ). many p n a.0.1) s.1 ∙ ap (many p b.0.0) s.2
      ∙ b.2 in
      let u = many_takes a.0.0 a.0.1 xs rest (unsigned_law.takes bytes a.0.0 a.0.1 fits a.1).rest_fits same in
      let v : (vector p).reading bytes ≡ Ok (xs, rest) = ap (λ (r : Reading ℕ). r >>= λ n. many p n.0 n.1) a.1 ∙ same in
      let t = vector_takes bytes xs rest fits v in
      record {
        parts = t.parts;
        rest_fits = t.rest_fits;
        fits =
            and_from _ _ (lt-ltb 0 (length xs) (omega (arith, u.len, s.0))) t.fits;
      }

  entries_again : (xs : List A) (rest : List ℕ) → (entries p).fits xs ≡ true
      → (entries p).reading ((entries p).encoding xs ++ rest) ≡ Ok (xs, rest)
  entries_again xs rest fits =
      let g = and_parts (ltb 0 (length xs)) ((vector p).fits xs) fits in
      let f = and_parts (ltb (length xs) (2 ^ 32)) (list_all p.fits xs) g.1 in
      let more : 0 < length xs = ltb-true 0 (length xs) g.0 in
      rw (
        append_assoc (unsigned.encoding (length xs)) (flat_map p.encoding xs) rest,
        unsigned_law.again (length xs)
            (flat_map p.encoding xs ++ rest) f.0,
        positive_same (length xs) (flat_map p.encoding xs ++ rest) more,
      )
      (many_again xs rest f.1)

  pub entries_law : Law (entries p)
  entries_law = record { takes = entries_takes; again = entries_again }

-- ---- a part behind the number of its bytes

closed_ok : (size : ℕ) (bytes left rest : List ℕ) → close_part size bytes left ≡ Ok rest → (left ≡ [])
    × (size ≤ length bytes) × (drop size bytes ≡ rest)
closed_ok size bytes left rest e =
    let g = guard_ok (eqb (length left) 0 && leb size (length bytes)) Malformed (Ok (drop size bytes)) rest e in
    let f = and_parts (eqb (length left) 0) (leb size (length bytes)) g.0 in
    (nil_from_length left (eqb-true _ _ f.0), leb-true _ _ f.1, ok_is _ _ g.1)

closed_same : (text rest : List ℕ) → close_part (length text) (text ++ rest) [] ≡ Ok rest
closed_same text rest =
    let room : length text ≤ length (text ++ rest) = omega (arith, length-append text rest) in
    rw (le-leb (length text) (length (text ++ rest)) room, drop_at text rest (length text) refl) refl

-- the bytes of a part, and how many they are
sized_parts : (bytes after text : List ℕ) (n : ℕ) → bytes ≡ unsigned.encoding n ++ after → take n after ≡ text
    → n ≤ length after → bytes ≡ (unsigned.encoding (length text) ++ text) ++ drop n after
sized_parts bytes after text n parts is room =
    let len : length text ≡ n = ap length (sym is) ∙ length-take-le n after room in
    let split : after ≡ text ++ drop n after = sym (take-append-drop n after)
    ∙ ap (λ (t : List ℕ). t ++ drop n after) is in
    parts ∙ ap (λ (r : List ℕ). unsigned.encoding n ++ r) split
    ∙ sym (append_assoc (unsigned.encoding n) text (drop n after))
    ∙ ap (λ (k : ℕ). (unsigned.encoding k ++ text) ++ drop n after) (sym len)

module _ {A : Type 0} (p : Format A) where
  sized_taken : (bytes after left rest : List ℕ) (n : ℕ) (x : A) → Taken unsigned bytes n after
      → Taken p (take n after) x left → close_part n after left ≡ Ok rest → Taken (with_size p) bytes x rest
  sized_taken bytes after left rest n x t u e =
      let k = closed_ok n after left rest e in
      let text : take n after ≡ p.encoding x = u.parts ∙ ap (λ (r : List ℕ). p.encoding x ++ r) k.0
      ∙ append-nil (p.encoding x) in
      let len : length (p.encoding x) ≡ n = ap length (sym text) ∙ length-take-le n after k.1 in
      let parts = sized_parts bytes after (p.encoding x) n t.parts text k.1 in
      let made : Taken (with_size p) bytes x (drop n after) =
      record {
        parts = parts;
        rest_fits = IsBytes-drop n after t.rest_fits;
        fits =
            and_from _ _ u.fits (ap unsigned.fits len ∙ t.fits);
      } in
      taken_at (with_size p) bytes x x (drop n after) rest (refl, k.2) made

  pub sized_takes : (takes : (bytes : List ℕ) (x : A) (rest : List ℕ) → IsBytes bytes → p.reading bytes ≡ Ok (x, rest)
      → Taken p bytes x rest)
      (bytes : List ℕ) (x : A) (rest : List ℕ) → IsBytes bytes → (with_size p).reading bytes ≡ Ok (x, rest)
      → Taken (with_size p) bytes x rest
  sized_takes takes bytes x rest fits e =
      let a = bind_ok (unsigned.reading bytes)
      (λ n. p.reading (take n.0 n.1) >>= λ x. close_part n.0 n.1 x.1 >>= λ rest. Ok (x.0, rest)) (x, rest) e in
      let b = bind_ok (p.reading (take a.0.0 a.0.1)) (λ x. close_part a.0.0 a.0.1 x.1 >>= λ rest. Ok (x.0, rest))
      (x, rest) a.2 in
      let c = bind_ok (close_part a.0.0 a.0.1 b.0.1) (λ rest. Ok (b.0.0, rest)) (x, rest) b.2 in
      let t = unsigned_law.takes bytes a.0.0 a.0.1 fits a.1 in
      let u = takes (take a.0.0 a.0.1) b.0.0 b.0.1 (IsBytes-take a.0.0 a.0.1 t.rest_fits) b.1 in
      taken_at (with_size p) bytes b.0.0 x c.0 rest (read_is b.0.0 x c.0 rest c.2)
      (sized_taken bytes a.0.1 b.0.1 c.0 a.0.0 b.0.0 t u c.1)

  -- the part was read from some bytes
  pub sized_inner : (bytes : List ℕ) (x : A) (rest : List ℕ) → (with_size p).reading bytes ≡ Ok (x, rest)
      → (inner : List ℕ) × (left : List ℕ) × (p.reading inner ≡ Ok (x, left))
  sized_inner bytes x rest e =
      let a = bind_ok (unsigned.reading bytes)
      (λ n. p.reading (take n.0 n.1) >>= λ x. close_part n.0 n.1 x.1 >>= λ rest. Ok (x.0, rest)) (x, rest) e in
      let b = bind_ok (p.reading (take a.0.0 a.0.1)) (λ x. close_part a.0.0 a.0.1 x.1 >>= λ rest. Ok (x.0, rest))
      (x, rest) a.2 in
      let c = bind_ok (close_part a.0.0 a.0.1 b.0.1) (λ rest. Ok (b.0.0, rest)) (x, rest) b.2 in
      let is = read_is b.0.0 x c.0 rest c.2 in
      (take a.0.0 a.0.1, b.0.1, subst (λ (y : A). p.reading (take a.0.0 a.0.1) ≡ Ok (y, b.0.1)) is.0 b.1)

  pub sized_again : (x : A) (rest : List ℕ) → p.reading (p.encoding x) ≡ Ok (x, [])
      → ltb (length (p.encoding x)) (2 ^ 32) ≡ true
      → (with_size p).reading ((with_size p).encoding x ++ rest) ≡ Ok (x, rest)
  sized_again x rest again room =
      let text : List ℕ = p.encoding x in
      rw (
        append_assoc (unsigned.encoding (length text)) text rest,
        unsigned_law.again (length text) (text ++ rest)
            room,
        take_at text rest (length text) refl,
        again,
        closed_same text rest,
      ) refl

  pub sized_law : WholeLaw p → Law (with_size p)
  sized_law law = record {
    takes = sized_takes law.takes;
    again = λ x rest fits. let f = and_parts (p.fits x) (ltb (length (p.encoding x)) (2 ^ 32)) fits in
        sized_again x rest (law.again x f.0) f.1;
  }

pub are_bytes : (bytes : List ℕ) → IsBytes bytes → list_all (λ b. ltb b 256) bytes ≡ true
are_bytes [] fits = refl
are_bytes (b ∷ bytes) fits = and_from _ _ (lt-ltb b 256 (fits 0)) (are_bytes bytes (IsBytes-tail b bytes fits))

-- what holds anyway holds where all went well
pub anyway : {A E P : Type 0} (r : Result A E) → P → OnOk r P
anyway (Ok x) p = p
anyway (Err e) p = tt

none_fits : IsBytes []
none_fits i = omega arith

pub bytes_left_law : WholeLaw bytes_left
bytes_left_law = record {
  takes = λ bytes x rest fits e.
      taken_at bytes_left bytes bytes x [] rest (read_is bytes x [] rest e)
      (record { parts = sym (append-nil bytes); rest_fits = none_fits; fits = are_bytes bytes fits });
  again = λ x fits. refl;
}

-- ---- sections

-- what follows a section: nothing, or a section of a greater number
abbrev pub Past : ℕ → List ℕ → Type 0
Past number [] = Unit {0}
Past number (b ∷ bytes) = number < b

pub record SectionLaw {A : Type 0} (number : ℕ) (p : Format A) : Type 0 where
  pub takes : (bytes : List ℕ) (xs : List A) (rest : List ℕ) → IsBytes bytes
      → (section number p).reading bytes ≡ Ok (xs, rest) → Taken (section number p) bytes xs rest
  pub again : (xs : List A) (rest : List ℕ) → Past number rest → (section number p).fits xs ≡ true
      → (section number p).reading ((section number p).encoding xs ++ rest) ≡ Ok (xs, rest)

pub Past-section : {A : Type 0} (before number : ℕ) (p : Format A) (xs : List A) (rest : List ℕ) → before < number
    → Past before rest → Past before (section_encoding number p xs ++ rest)
Past-section before number p [] rest lt past = past
Past-section before number p (x ∷ xs) rest lt past = lt

pub Past-less : (before number : ℕ) (rest : List ℕ) → before < number → Past number rest → Past before rest
Past-less before number [] lt past = tt
Past-less before number (b ∷ bytes) lt past = omega arith

module _ {A : Type 0} (number : ℕ) (p : Format A) (law : Law p) where
  section_content : Law (with_size (entries p))
  section_content = sized_law (entries p) (whole (entries p) (entries_law p law))

  section_some : (bytes : List ℕ) (xs : List A) (rest : List ℕ) → Taken (with_size (entries p)) bytes xs rest
      → Taken (section number p) (number ∷ bytes) xs rest
  section_some bytes [] rest t = absurd (false≢true t.fits)
  section_some bytes (x ∷ xs) rest t = record {
    parts = ap (λ (r : List ℕ). number ∷ r) t.parts;
    rest_fits =
        t.rest_fits;
    fits = t.fits;
  }

  section_takes : (bytes : List ℕ) (xs : List A) (rest : List ℕ) → IsBytes bytes
      → section_reading number p bytes ≡ Ok (xs, rest) → Taken (section number p) bytes xs rest
  section_takes [] xs rest fits e = taken_at (section number p) [] [] xs [] rest (read_is [] xs [] rest e)
      (record { parts = refl; rest_fits = fits; fits = refl })
  section_takes (b ∷ bytes) xs rest fits e =
      elim (cases_Bool (eqb b number)) [
        | inl same ↦
            let e1 : (with_size (entries p)).reading bytes ≡ Ok (xs, rest) = rw same at e in
            let t = section_some bytes xs rest (section_content.takes bytes xs rest (IsBytes-tail b bytes fits) e1) in
            subst (λ (c : ℕ). Taken (section number p) (c ∷ bytes) xs rest) (sym (eqb-true b number same)) t
        | inr other ↦
            let is = read_is {A = List A} [] xs (b ∷ bytes) rest (rw other at e) in
            taken_at (section number p) (b ∷ bytes) [] xs (b ∷ bytes) rest is
            (record { parts = refl; rest_fits = fits; fits = refl })
      ]

  section_none : (rest : List ℕ) → Past number rest → section_reading number p rest ≡ Ok ([], rest)
  section_none [] past = refl
  section_none (b ∷ rest) past = rw (ne_eqb b number (λ e. omega arith)) refl

  section_again : (xs : List A) (rest : List ℕ) → Past number rest → section_fits p xs ≡ true
      → section_reading number p (section_encoding number p xs ++ rest) ≡ Ok (xs, rest)
  section_again [] rest past fits = section_none rest past
  section_again (x ∷ xs) rest past fits = rw (eq-eqb number number refl) (section_content.again (x ∷ xs) rest fits)

  pub section_law : SectionLaw number p
  section_law = record { takes = section_takes; again = section_again }

-- ---- names

pub name_law : Law name
unfolding name
name_law = that_law is_utf8 (with_size bytes_left) (sized_law bytes_left bytes_left_law)
