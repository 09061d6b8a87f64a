-- Where readings stop of the bodies of functions, each behind its size.
use Rattle.std.proofs.Common.{◌≡◌, ℕ, zero, suc, ◌^◌, ◌<◌, ◌≤◌, true, false, cond, eqb, leb, ltb, List, [], ◌∷◌, ◌++◌, length, Option, Ok, Err, refl, sym, ap, subst, ◌∙◌, append_assoc, append-nil, arith, inl, inr}
use Rattle.std.specs.List.{flat_map, list_all}
use Rattle.std.proofs.lemmas.Bool.{cases_Bool, eqb-true, eq-eqb, le-leb, lt-ltb, leb-true, ltb-true, and_parts, and_from}
use Rattle.wasm_tree.specs.declared.fault.WFault.{WFault}
use Rattle.wasm_tree.specs.declared.fault.WFault.TheVariants.{Malformed}
use Rattle.wasm_tree.specs.declared.module.Body.{Body}
use Rattle.wasm_tree.specs.declared.module.Function.{Function}
use Rattle.wasm_tree.specs.Format.{Reading, ◌>>=◌}
use Rattle.wasm_code.specs.Number.{unsigned}
use Rattle.wasm_binary.specs.Binary.{body, bodies, code_entries, code_content}
use Rattle.wasm_code.proofs.Laws.{IsBytes, bind_ok, read_is}
use Rattle.law_format.specs.Places.{plain}
use Rattle.law_format.specs.Layouts.{Part, Mark, byte_marks, flat, room, part_marks, body_cells, bodies_marks, body_content, body_fits}
use Rattle.law_format.proofs.Combined.{IsBytes-joined, failed, err_is, ok_no_err, bind_err, bind_same}
use Rattle.law_format.proofs.Numbers.{in_range, ranged}
use Rattle.law_format.proofs.Widths.{between, between_stops}
use Rattle.law_format.proofs.LocalGroups.{body_stops}
use Rattle.law_format.proofs.Breaks.{flat-append, then_room, room-append, Break, break_at, break_into}
use Rattle.law_format.proofs.Contents.{Kept, Content, Whole, plain_marks, plain_fits, plain_is, plain_res, plain_content, sized_fits, sized_content, unsigned_whole}

-- ---- one part and then another

module _ {X Y Z L1 L2 K F1 F2 : Type 0} (real1 : List ℕ → Reading X) (m1 : L1 → List Mark) (ok1 : L1 → Type 0)
    (is1 : X → L1 → Type 0) (free1 : List ℕ → Reading F1) (res1 : L1 → F1) (c1 : Content real1 m1 ok1 is1 free1 res1)
    (real2 : List ℕ → Reading Y) (m2 : L2 → List Mark) (ok2 : L2 → Type 0) (is2 : Y → L2 → Type 0)
    (free2 : List ℕ → Reading F2) (res2 : L2 → F2) (c2 : Content real2 m2 ok2 is2 free2 res2)
    (put : X → Y → Z) (marks : K → List Mark) (fits_all : K → Type 0) (make : L1 → L2 → K) (res : K → F2)
    (made : (a : L1) (b : L2) → ok1 a → ok2 b → marks (make a b) ≡ m1 a ++ m2 b)
    (fit : (a : L1) (b : L2) → ok1 a → ok2 b → fits_all (make a b))
    (same_res : (a : L1) (b : L2) → res (make a b) ≡ res2 b) where
  abbrev pub pair_next : X × List ℕ → Reading Z
  pair_next x = real2 x.1 >>= λ y. Ok (put x.0 y.0, y.1)

  abbrev pub pair_real : List ℕ → Reading Z
  pair_real bytes = real1 bytes >>= pair_next

  abbrev pub pair_free_next : F1 × List ℕ → Reading F2
  pair_free_next x = free2 x.1

  abbrev pub pair_free : List ℕ → Reading F2
  pair_free bytes = free1 bytes >>= pair_free_next

  abbrev pub no_relation : Z → K → Type 0
  no_relation z k = Unit {0}

  pair_first : (bytes : List ℕ) (fault : WFault) → IsBytes bytes → real1 bytes ≡ Err fault
      → Break marks fits_all pair_free bytes fault
  pair_first bytes fault fits e =
      break_into free1 pair_free [] (λ bs f g h. ap (λ (r : Reading F1). r >>= pair_free_next) h) m1 ok1 marks fits_all
      (λ a. make a c2.some) (λ a. m2 c2.some) refl (λ a h. made a c2.some h c2.some_fits)
      (λ a h. fit a c2.some h c2.some_fits) bytes fault
      (c1.breaks bytes fault fits e)

  pair_second : (bytes : List ℕ) (x : X) (mid : List ℕ) (fault : WFault) → Kept m1 ok1 is1 free1 res1 bytes x mid
      → real2 mid ≡ Err fault → Break marks fits_all pair_free bytes fault
  pair_second bytes x mid fault v e =
      break_at marks fits_all pair_free bytes (flat (m1 v.value) ++ mid) fault v.parts
      (break_into free2 pair_free (m1 v.value)
      (λ bs f g h. ap (λ (r : Reading F1). r >>= pair_free_next) (v.again bs g) ∙ h) m2 ok2 marks fits_all
      (make v.value) (λ b. []) v.kept
      (λ b h. made v.value b v.fits h ∙ ap (λ (t : List Mark). m1 v.value ++ t) (sym (append-nil (m2 b))))
      (λ b h. fit v.value b v.fits h) mid fault (c2.breaks mid fault v.rest_fits e))

  pair_breaks : (bytes : List ℕ) (fault : WFault) → IsBytes bytes → (r : Reading X) → real1 bytes ≡ r
      → (r >>= pair_next) ≡ Err fault → Break marks fits_all pair_free bytes fault
  pair_breaks bytes fault fits (Err f) e h =
      pair_first bytes fault fits (e ∙ ap (λ (g : WFault). failed {A = X × List ℕ} g)
      (err_is {A = Z × List ℕ} f fault h))
  pair_breaks bytes fault fits (Ok x) e h =
      pair_second bytes x.0 x.1 fault (c1.takes bytes x.0 x.1 fits e)
      (bind_err (real2 x.1) (λ y. (put x.0 y.0, y.1)) fault h)

  pair_kept : (bytes : List ℕ) (x : X) (mid : List ℕ) (y : Y) (rest : List ℕ) → (z : Z)
      → Kept m1 ok1 is1 free1 res1 bytes x mid → Kept m2 ok2 is2 free2 res2 mid y rest
      → Kept marks fits_all no_relation pair_free res bytes z rest
  pair_kept bytes x mid y rest z v w =
      let both : marks (make v.value w.value) ≡ m1 v.value ++ m2 w.value = made v.value w.value v.fits w.fits in
      let text : (t : List ℕ) → flat (marks (make v.value w.value)) ++ t ≡ flat (m1 v.value)
      ++ (flat (m2 w.value) ++ t) =
      λ t. ap (λ (b : List Mark). flat b ++ t) both
      ∙ ap (λ (b : List ℕ). b ++ t) (flat-append (m1 v.value) (m2 w.value))
      ∙ append_assoc (flat (m1 v.value)) (flat (m2 w.value)) t in
      record {
        value = make v.value w.value;
        fits = fit v.value w.value v.fits w.fits;
        same = tt;
        parts = v.parts ∙ ap (λ (t : List ℕ). flat (m1 v.value) ++ t) w.parts ∙ sym (text rest);
        rest_fits = w.rest_fits;
        kept = ap (room []) both ∙ room-append [] (m1 v.value) (m2 w.value)
            ∙ ap (λ (o : Option (List ℕ)). then_room o (m2 w.value)) v.kept ∙ w.kept;
        again = λ follow g.
            let inner : IsBytes (flat (m2 w.value) ++ follow) =
            IsBytes-joined (flat (m2 w.value)) rest follow (subst IsBytes w.parts v.rest_fits) g in
            ap pair_free (text follow) ∙ ap (λ (r : Reading F1). r >>= pair_free_next)
            (v.again (flat (m2 w.value) ++ follow) inner) ∙ w.again follow g
            ∙ ap (λ (f : F2). done f follow) (sym (same_res v.value w.value));
      }
    where
      done : F2 → List ℕ → Reading F2
      done f follow = Ok (f, follow)

  pair_takes : (bytes : List ℕ) (z : Z) (rest : List ℕ) → IsBytes bytes → pair_real bytes ≡ Ok (z, rest)
      → Kept marks fits_all no_relation pair_free res bytes z rest
  pair_takes bytes z rest fits e =
      let a = bind_ok (real1 bytes) pair_next (z, rest) e in
      let b = bind_ok (real2 a.0.1) (λ y. Ok (put a.0.0 y.0, y.1)) (z, rest) a.2 in
      let same = read_is (put a.0.0 b.0.0) z b.0.1 rest b.2 in
      let v = c1.takes bytes a.0.0 a.0.1 fits a.1 in
      let w = c2.takes a.0.1 b.0.0 b.0.1 v.rest_fits b.1 in
      subst (λ (r : List ℕ). Kept marks fits_all no_relation pair_free res bytes z r) same.1
      (pair_kept bytes a.0.0 a.0.1 b.0.0 b.0.1 z v w)

  pub pair_content : ((k : K) → fits_all k → (follow : List ℕ)
      → pair_free (flat (marks k) ++ follow) ≡ Ok (res k, follow))
      → Content pair_real marks fits_all no_relation pair_free res
  pair_content whole = record {
    takes = pair_takes;
    breaks = λ bytes fault fits e. pair_breaks bytes fault fits (real1 bytes) refl e;
    whole = whole;
    some = make c1.some c2.some;
    some_fits = fit c1.some c2.some c1.some_fits c2.some_fits;
  }

  pub pair_whole : (a : L1) (b : L2) → ok1 a → ok2 b → (follow : List ℕ)
      → pair_free (flat (m1 a ++ m2 b) ++ follow) ≡ Ok (res2 b, follow)
  pair_whole a b h g follow =
      ap (λ (t : List ℕ). pair_free (t ++ follow)) (flat-append (m1 a) (m2 b))
      ∙ ap pair_free (append_assoc (flat (m1 a)) (flat (m2 b)) follow)
      ∙ ap (λ (r : Reading F1). r >>= pair_free_next) (c1.whole a h (flat (m2 b) ++ follow)) ∙ c2.whole b g follow

-- ---- the same, read in the same way

pub same_content : {X L F : Type 0} (real same : List ℕ → Reading X) (m : L → List Mark) (ok : L → Type 0)
    (is : X → L → Type 0) (free : List ℕ → Reading F) (res : L → F) → ((bs : List ℕ) → same bs ≡ real bs)
    → Content real m ok is free res
    → Content same m ok is free res
same_content real same m ok is free res h c = record {
  takes = λ bytes x rest fits e. c.takes bytes x rest fits (sym (h bytes) ∙ e);
  breaks = λ bytes fault fits e. c.breaks bytes fault fits (sym (h bytes) ∙ e);
  whole = c.whole;
  some = c.some;
  some_fits = c.some_fits;
}

-- ---- bodies

abbrev one_marks : Body → List Mark
one_marks b = byte_marks (body_cells b)

abbrev body_marks : Part Body → List Mark
body_marks s = part_marks one_marks s

abbrev body_ok : Part Body → Type 0
body_ok s = sized_fits body_content.reading one_marks (plain_fits body_content body_cells)
    (plain_is body_content body_cells) body_content.reading (plain_res body_content body_cells) s

abbrev body_is : Body → Part Body → Type 0
body_is b s = b ≡ s.content

abbrev free_body : List ℕ → Reading Body
free_body bytes = unsigned.reading bytes >>= λ n. body_content.reading n.1

abbrev body_res : Part Body → Body
body_res s = s.content

abbrev Bodies : Type 0
Bodies = List (Part Body)

abbrev pub bodies_ok : ℕ → Bodies → Type 0
bodies_ok count bs = (length bs ≡ count) × (list_all body_fits bs ≡ true)

abbrev pub all_marks : Bodies → List Mark
all_marks bs = flat_map body_marks bs

abbrev pub nothing_left : Bodies → Unit {0}
nothing_left bs = tt

pub free_bodies : ℕ → List ℕ → Reading (Unit {0})
free_bodies zero bytes = Ok (tt, bytes)
free_bodies (suc count) bytes = free_body bytes >>= λ x. free_bodies count x.1

abbrev function_of : ℕ → Body → List Function → List Function
function_of t b fs = record { type_index = t; body = b } ∷ fs

abbrev any_bodies : List Function → Bodies → Type 0
any_bodies fs bs = Unit {0}

module _ (body_whole : Whole body_content body_cells) where
  sized_body : Content body.reading body_marks body_ok body_is free_body body_res
  unfolding body
  sized_body = sized_content body_content.reading one_marks (plain_fits body_content body_cells)
      (plain_is body_content body_cells) body_content.reading (plain_res body_content body_cells)
      (plain_content body_content body_cells body_stops body_whole)

  more_fit : (count : ℕ) (a : Part Body) (bs : Bodies) → body_ok a → bodies_ok count bs → bodies_ok (suc count) (a ∷ bs)
  more_fit count a bs h g = (ap suc g.0, and_from _ _ (and_from _ _ h.0 h.1) g.1)

  first_fits : (count : ℕ) (a : Part Body) (bs : Bodies) → bodies_ok (suc count) (a ∷ bs) → body_ok a
      × bodies_ok count bs
  first_fits count a bs h =
      let f = and_parts (body_fits a) (list_all body_fits bs) h.1 in
      let g = and_parts (unsigned.fits a.size) (body_content.fits a.content) f.0 in
      ((g.0, g.1), (omega (arith, h.0), f.1))

  none_content : Content (bodies []) all_marks (bodies_ok 0) any_bodies (free_bodies 0) nothing_left
  unfolding bodies free_bodies
  none_content = record {
    takes = λ bytes x rest fits e.
        let is = read_is [] x bytes rest e in
        record {
          value = [];
          fits = (refl, refl);
          same = tt;
          parts = is.1;
          rest_fits = subst IsBytes is.1 fits;
          kept =
              refl;
          again = λ follow g. refl;
        };
    breaks = λ bytes fault fits e. absurd (ok_no_err ([], bytes) fault e);
    whole = none_whole;
    some = [];
    some_fits = (refl, refl);
  }
    where
      none_whole : (l : Bodies) → bodies_ok 0 l → (follow : List ℕ)
          → free_bodies 0 (flat (all_marks l) ++ follow) ≡ Ok (tt, follow)
      none_whole [] h follow = refl
      none_whole (b ∷ bs) h follow = absurd (omega (arith, h.0))

  pub bodies_content : (types : List ℕ) →
      Content (bodies types) all_marks (bodies_ok (length types)) any_bodies (free_bodies (length types)) nothing_left
  unfolding bodies free_bodies
  bodies_content [] = none_content
  bodies_content (t ∷ ts) =
      pair_content body.reading body_marks body_ok body_is free_body body_res sized_body (bodies ts) all_marks
      (bodies_ok (length ts)) any_bodies (free_bodies (length ts)) nothing_left (bodies_content ts) (function_of t)
      all_marks (bodies_ok (suc (length ts)))
      (λ a bs. a ∷ bs) nothing_left (λ a bs h g. refl) (λ a bs h g. more_fit (length ts) a bs h g) (λ a bs. refl)
      (all_whole t ts (bodies_content ts))
    where
      all_whole : (t : ℕ) (ts : List ℕ) → Content (bodies ts) all_marks (bodies_ok (length ts)) any_bodies
          (free_bodies (length ts)) nothing_left
          → (l : Bodies) → bodies_ok (suc (length ts)) l → (follow : List ℕ)
          → (free_body (flat (all_marks l) ++ follow) >>= λ x. free_bodies (length ts) x.1) ≡ Ok (tt, follow)
      all_whole t ts rest [] h follow = absurd (omega (arith, h.0))
      all_whole t ts rest (b ∷ bs) h follow =
          let f = first_fits (length ts) b bs h in
          pair_whole body.reading body_marks body_ok body_is free_body body_res sized_body (bodies ts) all_marks
          (bodies_ok (length ts)) any_bodies (free_bodies (length ts)) nothing_left rest (function_of t) all_marks
          (bodies_ok (suc (length ts)))
          (λ a cs. a ∷ cs) nothing_left (λ a cs h g. refl) (λ a cs h g. more_fit (length ts) a cs h g) (λ a cs. refl) b
          bs f.0 f.1 follow

-- ---- the content of the code section

abbrev counted_next : List ℕ → ℕ × List ℕ → Reading (List Function)
counted_next types n = cond (eqb n.0 (length types)) (bodies types n.1) (Err Malformed)

abbrev exact_next : List ℕ → ℕ × List ℕ → Reading (List Function)
exact_next types n = bodies types n.1 >>= λ y. Ok (y.0, y.1)

count_reads : (types : List ℕ) (r : Reading ℕ)
    → (r >>= counted_next types) ≡ (ranged (length types) (suc (length types)) r >>= exact_next types)
count_reads types (Err f) = refl
count_reads types (Ok n) = elim (cases_Bool (eqb n.0 (length types))) [
  | inl same ↦
      let e : n.0 ≡ length types = eqb-true n.0 (length types) same in
      rw (same, le-leb (length types) n.0 (omega arith), lt-ltb n.0 (suc (length types)) (omega arith))
      (bind_same (bodies types n.1))
  | inr other ↦
      rw other (sym (ap (λ (r : Reading ℕ). r >>= exact_next types)
      (out n.0 n.1 (λ e. true_false (sym (eq-eqb n.0 (length types) e) ∙ other)))))
]
  where
    true_false : true ≡ false → ⊥
    true_false e = cc

    out : (k : ℕ) (bs : List ℕ) → (k ≡ length types → ⊥)
        → ranged (length types) (suc (length types)) (Ok (k, bs)) ≡ Err Malformed
    out k bs differs = elim (cases_Bool (in_range (length types) (suc (length types)) k)) [
      | inl yes' ↦
          let f = and_parts (leb (length types) k) (ltb k (suc (length types))) yes' in
          let le : length types ≤ k = leb-true (length types) k f.0 in
          let lt : k < suc (length types) = ltb-true k (suc (length types)) f.1 in
          absurd (differs (omega arith))
      | inr no' ↦ rw no' refl
    ]

abbrev pub counted_free : ℕ → List ℕ → Reading (Unit {0})
counted_free count bytes = (between count (suc count)).reading bytes >>= λ x. free_bodies count x.1

abbrev put_bodies : ℕ → List Function → List Function
put_bodies n fs = fs

module _ (body_whole : Whole body_content body_cells) (types : List ℕ) (room : length types < 2 ^ 32) where
  abbrev count : ℕ
  count = length types

  exact : (n : ℕ) → in_range count (suc count) n ≡ true → n ≡ count
  exact n h =
      let f = and_parts (leb count n) (ltb n (suc count)) h in
      let le : count ≤ n = leb-true count n f.0 in
      let lt : n < suc count = ltb-true n (suc count) f.1 in
      omega arith

  count_whole : Whole (between count (suc count)) (plain unsigned)
  count_whole n fits follow =
      let f = exact n fits in
      let small : unsigned.fits n ≡ true = lt-ltb n (2 ^ 32) (omega arith) in
      ap (ranged count (suc count)) (unsigned_whole n small follow) ∙ rw fits refl

  entries_made : (n : ℕ) (bs : Bodies) → in_range count (suc count) n ≡ true → bodies_ok count bs
      → bodies_marks bs ≡ byte_marks (plain unsigned n) ++ all_marks bs
  entries_made n bs h g = ap (λ (k : ℕ). byte_marks (plain unsigned k) ++ all_marks bs) (g.0 ∙ sym (exact n h))

  count_content : Content (between count (suc count)).reading (plain_marks (between count (suc count)) (plain unsigned))
      (plain_fits (between count (suc count)) (plain unsigned)) (plain_is (between count (suc count)) (plain unsigned))
      (between count (suc count)).reading
      (plain_res (between count (suc count)) (plain unsigned))
  count_content = plain_content (between count (suc count)) (plain unsigned)
      (between_stops count (suc count) (omega arith) (omega arith)) count_whole

  counted : Content (pair_real (between count (suc count)).reading
      (plain_marks (between count (suc count)) (plain unsigned))
      (plain_fits (between count (suc count)) (plain unsigned)) (plain_is (between count (suc count)) (plain unsigned))
      (between count (suc count)).reading (plain_res (between count (suc count)) (plain unsigned)) count_content
      (bodies types) all_marks (bodies_ok count) any_bodies (free_bodies count) nothing_left
      (bodies_content body_whole types) put_bodies bodies_marks
      (bodies_ok count) (λ n bs. bs) nothing_left entries_made (λ n bs h g. g) (λ n bs. refl))
      bodies_marks (bodies_ok count) any_bodies (counted_free count) nothing_left
  counted =
      pair_content (between count (suc count)).reading (plain_marks (between count (suc count)) (plain unsigned))
      (plain_fits (between count (suc count)) (plain unsigned))
      (plain_is (between count (suc count)) (plain unsigned)) (between count (suc count)).reading
      (plain_res (between count (suc count)) (plain unsigned)) count_content (bodies types) all_marks (bodies_ok count)
      any_bodies (free_bodies count) nothing_left (bodies_content body_whole types) put_bodies bodies_marks
      (bodies_ok count) (λ n bs. bs) nothing_left
      entries_made (λ n bs h g. g) (λ n bs. refl) (λ bs h follow. counted_whole bs h follow)
    where
      counted_whole : (bs : Bodies) → bodies_ok count bs → (follow : List ℕ)
          → counted_free count (flat (bodies_marks bs) ++ follow) ≡ Ok (tt, follow)
      counted_whole bs h follow =
          let n : ℕ = count in
          let fits : in_range count (suc count) count ≡ true =
          and_from _ _ (le-leb count count (omega arith)) (lt-ltb count (suc count) (omega arith)) in
          ap (λ (t : List Mark). counted_free count (flat t ++ follow)) (entries_made count bs fits h)
          ∙ pair_whole (between count (suc count)).reading (plain_marks (between count (suc count)) (plain unsigned))
          (plain_fits (between count (suc count)) (plain unsigned))
          (plain_is (between count (suc count)) (plain unsigned))
          (between count (suc count)).reading (plain_res (between count (suc count)) (plain unsigned)) count_content
          (bodies types) all_marks (bodies_ok count) any_bodies (free_bodies count) nothing_left
          (bodies_content body_whole types) put_bodies bodies_marks
          (bodies_ok count) (λ n bs. bs) nothing_left entries_made (λ n bs h g. g) (λ n bs. refl) count bs fits h follow

  code_entries_content : Content (code_entries types) bodies_marks (bodies_ok count) any_bodies (counted_free count)
      nothing_left
  unfolding code_entries
  code_entries_content = same_content _ (code_entries types) bodies_marks (bodies_ok count) any_bodies
      (counted_free count) nothing_left (λ bs. count_reads types (unsigned.reading bs)) counted

  abbrev pub code_fits : Part Bodies → Type 0
  code_fits s = (unsigned.fits s.size ≡ true) × bodies_ok count s.content

  abbrev pub any_code : List Function → Part Bodies → Type 0
  any_code fs s = Unit {0}

  abbrev pub code_free : List ℕ → Reading (Unit {0})
  code_free bytes = unsigned.reading bytes >>= λ n. counted_free count n.1

  abbrev pub code_res : Part Bodies → Unit {0}
  code_res s = tt

  pub code_content_is : Content (code_content types) (part_marks bodies_marks)
      (λ s. (unsigned.fits s.size ≡ true) × bodies_ok (length types) s.content) (λ fs s. Unit {0})
      (λ bytes. unsigned.reading bytes >>= λ n. counted_free (length types) n.1) (λ s. tt)
  unfolding code_content
  code_content_is = sized_content (code_entries types) bodies_marks (bodies_ok count) any_bodies (counted_free count)
      nothing_left code_entries_content
