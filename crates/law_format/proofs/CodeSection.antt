-- Where the reading of modules stops.
use Rattle.std.proofs.Common.{◌≡◌, ℕ, suc, ◌^◌, ◌<◌, true, false, cond, eqb, List, [], ◌∷◌, ◌++◌, length, Ok, Err, refl, sym, ap, ◌∙◌, append-nil, arith, inl, inr}
use Rattle.std.specs.List.{list_all}
use Rattle.std.proofs.lemmas.Bool.{cases_Bool, eqb-true, and_parts, and_from}
use Rattle.wasm_tree.specs.declared.fault.WFault.{WFault}
use Rattle.wasm_tree.specs.declared.fault.WFault.TheVariants.{Malformed, OutsideProfile}
use Rattle.wasm_tree.specs.declared.module.Body.{Body}
use Rattle.wasm_tree.specs.declared.module.Function.{Function}
use Rattle.wasm_tree.specs.Format.{Reading, ◌>>=◌}
use Rattle.wasm_code.specs.Number.{unsigned}
use Rattle.wasm_binary.specs.Binary.{code_content, code_section}
use Rattle.wasm_code.proofs.Laws.{IsBytes, IsBytes-tail}
use Rattle.wasm_code.proofs.LawsParts.{Past}
use Rattle.law_format.specs.Places.{SectionNumber}
use Rattle.law_format.specs.Layouts.{Part, Mark, Byte, flat, part_marks, if_some, section_marks, bodies_marks, part_fits, body_fits}
use Rattle.law_format.proofs.Combined.{failed, err_is}
use Rattle.law_format.proofs.Breaks.{flat-append, Break, break_at, break_into}
use Rattle.law_format.proofs.Contents.{Kept, Content}
use Rattle.law_format.proofs.Bodies.{bodies_ok, counted_free, code_content_is}
use Rattle.law_format.proofs.Chains.{Ends, Chain}
use Rattle.law_format.proofs.Spellings.{body_whole}

-- ---- the code section, and what is behind it

module _ {Y : Type 0} (real free : List ℕ → Ends) (m : Y → List Mark) (ok : Y → Type 0) (c : Chain real free m ok) where
  abbrev Code : Type 0
  Code = Part (List (Part Body))

  abbrev code_next : List Function × List ℕ → Ends
  code_next x = real x.1

  abbrev free_next : Unit {0} × List ℕ → Ends
  free_next x = free x.1

  abbrev pub code_real : List ℕ → List ℕ → Ends
  code_real types bytes = code_section types bytes >>= λ x. real x.1

  abbrev part_free : ℕ → List ℕ → Reading (Unit {0})
  part_free count bytes = unsigned.reading bytes >>= λ n. counted_free count n.1

  abbrev pub code_free : List ℕ → List ℕ → Ends
  code_free [] bytes = free bytes
  code_free (t ∷ ts) [] = Err Malformed
  code_free (t ∷ ts) (b ∷ bytes) = cond (eqb b 10)
      ((unsigned.reading bytes >>= λ n. counted_free (suc (length ts)) n.1) >>= λ x. free x.1) (Err OutsideProfile)

  abbrev pub code_m : Code × Y → List Mark
  code_m y = section_marks 10 bodies_marks y.0 ++ m y.1

  abbrev pub code_ok : List ℕ → Code × Y → Type 0
  code_ok types y = (part_fits (list_all body_fits) y.0.size y.0.content ≡ true) × (length y.0.content ≡ length types)
      × ok y.1

  abbrev no_code : Code
  no_code = record { size = 0; content = [] }

  abbrev part_ok : ℕ → Code → Type 0
  part_ok count s = (unsigned.fits s.size ≡ true) × bodies_ok count s.content

  abbrev any_is : List Function → Code → Type 0
  any_is fs s = Unit {0}

  abbrev any_res : Code → Unit {0}
  any_res s = tt

  code_filled : (n size : ℕ) (bs : List (Part Body)) → part_ok (suc n) (record { size = size; content = bs })
      → (part_fits (list_all body_fits) size bs ≡ true)
      × (if_some bs (Byte (SectionNumber, 10) ∷ part_marks bodies_marks (record { size = size; content = bs }))
      ≡ Byte (SectionNumber, 10) ∷ part_marks bodies_marks (record { size = size; content = bs }))
  code_filled n size [] h = absurd (omega (arith, h.1.0))
  code_filled n size (b ∷ bs) h = (and_from _ _ h.0 h.1.1, refl)

  module _ (t : ℕ) (ts : List ℕ) (few : length (t ∷ ts) < 2 ^ 32) where
    abbrev types : List ℕ
    types = t ∷ ts

    content : Content (code_content types) (part_marks bodies_marks) (part_ok (length types)) any_is
        (part_free (length types)) any_res
    content = code_content_is body_whole types few

    abbrev Broken : List ℕ → WFault → Type 0
    Broken bytes fault = Break code_m (code_ok types) (code_free types) bytes fault

    abbrev some_code : Code
    some_code = content.some

    some_marks : (y : Y) → code_m (some_code, y) ≡ Byte (SectionNumber, 10) ∷ (part_marks bodies_marks some_code ++ m y)
    some_marks y = ap (λ (r : List Mark). r ++ m y)
        (code_filled (length ts) some_code.size some_code.content content.some_fits).1

    filled_ok : (s : Code) → part_ok (length types) s → (y : Y) → ok y → code_ok types (s, y)
    filled_ok s h y g = ((code_filled (length ts) s.size s.content h).0, h.1.0, g)

    free_at : (bs : List ℕ) → code_free types (10 ∷ bs) ≡ (part_free (length types) bs >>= free_next)
    free_at bs = refl

    in_code : (bs : List ℕ) (fault : WFault) → IsBytes bs → code_content types bs ≡ Err fault → Broken (10 ∷ bs) fault
    in_code bs fault fits e =
        break_into (part_free (length types)) (code_free types) (Byte (SectionNumber, 10) ∷ [])
        (λ r f g h. ap (λ (x : Reading (Unit {0})). x >>= free_next) h) (part_marks bodies_marks)
        (part_ok (length types)) code_m (code_ok types) (λ s. (s, c.some)) (λ s. m c.some) refl
        (λ s h. ap (λ (r : List Mark). r ++ m c.some) (code_filled (length ts) s.size s.content h).1)
        (λ s h. filled_ok s h c.some c.some_fits) bs fault (content.breaks bs fault fits e)

    behind_code : (bs : List ℕ) (x : List Function) (mid : List ℕ) (fault : WFault)
        → Kept (part_marks bodies_marks) (part_ok (length types)) any_is (part_free (length types)) any_res bs x mid
        → real mid ≡ Err fault → Broken (10 ∷ bs) fault
    behind_code bs x mid fault v e =
        let s : Code = v.value in
        let pre : List Mark = Byte (SectionNumber, 10) ∷ part_marks bodies_marks s in
        break_at code_m (code_ok types) (code_free types) (10 ∷ bs) (flat pre ++ mid) fault
        (ap (λ (r : List ℕ). 10 ∷ r) v.parts)
        (break_into free (code_free types) pre
        (λ r d g h. ap (λ (x : Reading (Unit {0})). x >>= free_next) (v.again r g) ∙ h) m ok code_m (code_ok types)
        (λ y. (s, y)) (λ y. []) v.kept
        (λ y h. ap (λ (r : List Mark). r ++ m y) (code_filled (length ts) s.size s.content v.fits).1
        ∙ ap (λ (r : List Mark). pre ++ r) (sym (append-nil (m y)))) (λ y h. filled_ok s v.fits y h) mid fault
        (c.breaks mid fault v.rest_fits e))

    in_or_behind : (bs : List ℕ) (fault : WFault) → IsBytes bs → (r : Reading (List Function))
        → code_content types bs ≡ r → (r >>= code_next) ≡ Err fault → Broken (10 ∷ bs) fault
    in_or_behind bs fault fits (Err f) e h =
        in_code bs fault fits (e ∙ ap (λ (g : WFault). failed {A = List Function × List ℕ} g)
        (err_is {A = Unit {0}} f fault h))
    in_or_behind bs fault fits (Ok x) e h = behind_code bs x.0 x.1 fault (content.takes bs x.0 x.1 fits e) h

    real_other : (b : ℕ) (bs : List ℕ) → eqb b 10 ≡ false → code_real types (b ∷ bs) ≡ Err OutsideProfile
    real_other b bs e = rw e refl

    free_other : (b : ℕ) (bs : List ℕ) → eqb b 10 ≡ false → code_free types (b ∷ bs) ≡ Err OutsideProfile
    free_other b bs e = rw e refl

    code_breaks : (bytes : List ℕ) (fault : WFault) → IsBytes bytes → code_real types bytes ≡ Err fault
        → Broken bytes fault
    code_breaks [] fault fits e = record {
      front = [];
      at = [];
      parts = refl;
      value = (some_code, c.some);
      fits = filled_ok some_code content.some_fits c.some c.some_fits;
      next = Byte (SectionNumber, 10);
      rest = part_marks bodies_marks some_code ++ m c.some;
      begins = some_marks c.some;
      rooms = [];
      kept = refl;
      why = (sym (err_is {A = Unit {0}} Malformed fault e), λ g. e);
    }
    code_breaks (b ∷ bs) fault fits e = elim (cases_Bool (eqb b 10)) [
      | inl same ↦
          let is : b ≡ 10 = eqb-true b 10 same in
          break_at code_m (code_ok types) (code_free types) (b ∷ bs) (10 ∷ bs) fault (ap (λ (d : ℕ). d ∷ bs) is)
          (in_or_behind bs fault (IsBytes-tail b bs fits) (code_content types bs) refl
          (ap (λ (d : ℕ). code_real types (d ∷ bs)) (sym is) ∙ e))
      | inr other ↦
          let is : OutsideProfile ≡ fault = err_is {A = Unit {0}} OutsideProfile fault (sym (real_other b bs other) ∙ e)
          in
          record {
            front = [];
            at = b ∷ bs;
            parts = refl;
            value = (some_code, c.some);
            fits = filled_ok some_code content.some_fits c.some c.some_fits;
            next = Byte (SectionNumber, 10);
            rest = part_marks bodies_marks some_code ++ m c.some;
            begins = some_marks c.some;
            rooms = [];
            kept = refl;
            why = (sym is, λ follow g. free_other b follow other ∙ ap (λ (f : WFault). failed {A = Unit {0}} f) is);
          }
    ]

    code_whole : (size : ℕ) (bs : List (Part Body)) (y : Y) → code_ok types (record { size = size; content = bs }, y)
        → code_free types (flat (code_m (record { size = size; content = bs }, y))) ≡ Ok tt
    code_whole size [] y h = absurd (omega (arith, h.1))
    code_whole size (b ∷ bs) y h =
        let s : Code = record { size = size; content = b ∷ bs } in
        let f = and_parts (unsigned.fits size) (list_all body_fits (b ∷ bs)) h.0 in
        ap (λ (r : List ℕ). code_free types (10 ∷ r)) (flat-append (part_marks bodies_marks s) (m y))
        ∙ ap (λ (x : Reading (Unit {0})). x >>= free_next) (content.whole s (f.0, (h.1, f.1)) (flat (m y)))
        ∙ c.whole y h.2

    some_chain : Chain (code_real types) (code_free types) code_m (code_ok types)
    some_chain = record {
      breaks = code_breaks;
      whole = λ y h. code_whole y.0.size y.0.content y.1 h;
      some = (some_code, c.some);
      some_fits = filled_ok some_code content.some_fits c.some c.some_fits;
    }

  none_whole : (size : ℕ) (bs : List (Part Body)) (y : Y) → code_ok [] (record { size = size; content = bs }, y)
      → free (flat (code_m (record { size = size; content = bs }, y))) ≡ Ok tt
  none_whole size [] y h = c.whole y h.2
  none_whole size (b ∷ bs) y h = absurd (omega (arith, h.1))

  pub code_chain : (types : List ℕ) → length types < 2 ^ 32
      → Chain (λ bytes. code_section types bytes >>= λ x. real x.1) (code_free types)
      (λ (y : Part (List (Part Body)) × Y). section_marks 10 bodies_marks y.0 ++ m y.1) (code_ok types)
  code_chain [] few = record {
    breaks = λ bytes fault fits e.
        break_into free (code_free []) [] (λ bs f g h. h) m ok code_m (code_ok []) (λ y. (no_code, y)) (λ y. []) refl
        (λ y h. sym (append-nil (m y))) (λ y h. (refl, refl, h)) bytes fault (c.breaks bytes fault fits e);
    whole = λ y h. none_whole y.0.size y.0.content y.1 h;
    some = (no_code, c.some);
    some_fits = (refl, refl, c.some_fits);
  }
  code_chain (t ∷ ts) few = some_chain t ts few

  code_past : (types : List ℕ) (size : ℕ) (bs : List (Part Body)) (y : Y) → ((y : Y) → ok y → Past 9 (flat (m y)))
      → code_ok types (record { size = size; content = bs }, y)
      → Past 9 (flat (code_m (record { size = size; content = bs }, y)))
  code_past types size [] y past h = past y h.2
  code_past types size (b ∷ bs) y past h = omega arith

  pub code_is_past : (types : List ℕ) → ((y : Y) → ok y → Past 9 (flat (m y))) → (y : Part (List (Part Body)) × Y)
      → code_ok types y → Past 9 (flat (section_marks 10 bodies_marks y.0 ++ m y.1))
  code_is_past types past y h = code_past types y.0.size y.0.content y.1 past h
