-- Where readings stop of parts behind their sizes, and of several of them.
use Rattle.std.proofs.Common.{◌≡◌, ◌⊎◌, ℕ, zero, suc, ◌+◌, ◌-◌, ◌<◌, ◌≤◌, true, eqb, leb, ◌&&◌, List, [], ◌∷◌, ◌++◌, length, take, drop, Option, Some, Result, Ok, Err, refl, sym, ap, subst, ◌∙◌, append_assoc, append-nil, arith, inl, inr}
use Rattle.std.proofs.lemmas.Bool.{cases_lt, eqb-true, leb-true, eq-eqb, ne_eqb, lt-leb, le-leb, and_parts}
use Rattle.std.proofs.lemmas.List.{length-append, take-append-drop, nil_from_length, length-take-le}
use Rattle.wasm_tree.specs.declared.fault.WFault.{WFault}
use Rattle.wasm_tree.specs.declared.fault.WFault.TheVariants.{Malformed}
use Rattle.wasm_tree.specs.Format.{Format, Reading, ◌>>=◌}
use Rattle.wasm_code.specs.Number.{unsigned}
use Rattle.wasm_code.specs.Parts.{close_part}
use Rattle.wasm_code.proofs.Laws.{IsBytes, IsBytes-take, IsBytes-drop, bind_ok, guard_ok, ok_is, read_is}
use Rattle.wasm_code.proofs.LawsNumber.{unsigned_law}
use Rattle.law_format.specs.Places.{OtherByte, Cell, bytes_of, plain}
use Rattle.law_format.specs.Layouts.{Part, Mark, Byte, Opens, Closes, byte_marks, flat, room, part_marks}
use Rattle.law_format.proofs.Stops.{bytes-all, How, Stop, Front, Stopping}
use Rattle.law_format.proofs.Combined.{IsBytes-joined, failed, err_is, ok_no_err, bind_err}
use Rattle.law_format.proofs.Widths.{unsigned_stops}
use Rattle.law_format.proofs.Breaks.{flat-append, flat-byte_marks, byte_marks-append, then_room, room-append, room_free, room_under, Wrong, TooLarge, Break, break_at, break_into, opened_front, break_within}

-- what was taken, whatever follows, with each stated size kept
pub record Kept {X L F : Type 0} (m : L → List Mark) (ok : L → Type 0) (is : X → L → Type 0) (free : List ℕ → Reading F)
    (res : L → F) (bytes : List ℕ) (x : X) (rest : List ℕ) : Type 0 where
  pub value : L
  pub fits : ok value
  pub same : is x value
  pub parts : bytes ≡ flat (m value) ++ rest
  pub rest_fits : IsBytes rest
  pub kept : room [] (m value) ≡ Some []
  pub again : (follow : List ℕ) → IsBytes follow → free (flat (m value) ++ follow) ≡ Ok (res value, follow)

-- a reading of parts with sizes, and one that leaves the sizes free
pub record Content {X L F : Type 0} (real : List ℕ → Reading X) (m : L → List Mark) (ok : L → Type 0)
    (is : X → L → Type 0) (free : List ℕ → Reading F) (res : L → F) : Type 0 where
  pub takes : (bytes : List ℕ) (x : X) (rest : List ℕ) → IsBytes bytes → real bytes ≡ Ok (x, rest)
      → Kept m ok is free res bytes x rest
  pub breaks : (bytes : List ℕ) (fault : WFault) → IsBytes bytes → real bytes ≡ Err fault → Break m ok free bytes fault
  pub whole : (l : L) → ok l → (follow : List ℕ) → free (flat (m l) ++ follow) ≡ Ok (res l, follow)
  pub some : L
  pub some_fits : ok some

-- what fits is read again
abbrev pub Whole : {A : Type 0} → Format A → (A → List Cell) → Type 0
Whole {A} p cells = (x : A) → p.fits x ≡ true → (follow : List ℕ)
    → p.reading (bytes_of (cells x) ++ follow) ≡ Ok (x, follow)

-- ---- a part in which no other states its size

module _ {A : Type 0} (p : Format A) (cells : A → List Cell) where
  abbrev pub plain_marks : A → List Mark
  plain_marks x = byte_marks (cells x)

  abbrev pub plain_fits : A → Type 0
  plain_fits x = p.fits x ≡ true

  abbrev pub plain_is : A → A → Type 0
  plain_is x y = x ≡ y

  abbrev pub plain_res : A → A
  plain_res x = x

  plain_why : (bytes : List ℕ) (front : List Cell) (next : Cell) (at : List ℕ) (fault : WFault)
      → p.reading bytes ≡ Err fault → bytes ≡ bytes_of front ++ at → How p.reading (bytes_of front) next.0 at fault
      → Wrong p.reading (flat (byte_marks front)) next.0 at fault
  plain_why bytes front next [] fault e parts h =
      (h, λ fits. ap p.reading (flat-byte_marks front ∙ sym (append-nil (bytes_of front)) ∙ sym parts) ∙ e)
  plain_why bytes front next (b ∷ more) fault e parts h = (
    h.0,
    λ follow fits. ap (λ (t : List ℕ). p.reading (t ++ (b ∷ follow))) (flat-byte_marks front)
        ∙ h.1 follow (subst (λ (t : List ℕ). IsBytes (t ++ (b ∷ follow))) (flat-byte_marks front) fits),
  )

  plain_break : (bytes : List ℕ) (fault : WFault) → p.reading bytes ≡ Err fault → Stop p cells bytes fault
      → Break plain_marks plain_fits p.reading bytes fault
  plain_break bytes fault e s = record {
    front = byte_marks s.front;
    at = s.at;
    parts = s.parts ∙ ap (λ (t : List ℕ). t ++ s.at) (sym (flat-byte_marks s.front));
    value = s.value;
    fits = s.fits;
    next = Byte s.next;
    rest = byte_marks s.rest;
    begins = ap byte_marks s.begins ∙ byte_marks-append s.front (s.next ∷ s.rest);
    rooms = [];
    kept = room_free s.front;
    why = plain_why bytes s.front s.next s.at fault e s.parts s.how;
  }

  plain_kept : (bytes : List ℕ) (x : A) (rest : List ℕ) → Front p cells bytes x rest
      → Kept plain_marks plain_fits plain_is p.reading plain_res bytes x rest
  plain_kept bytes x rest f = record {
    value = x;
    fits = f.fits;
    same = refl;
    parts = f.parts ∙ ap (λ (t : List ℕ). t ++ rest) (sym (flat-byte_marks (cells x)));
    rest_fits = f.rest_fits;
    kept = room_free (cells x);
    again = λ follow g. ap (λ (t : List ℕ). p.reading (t ++ follow)) (flat-byte_marks (cells x)) ∙ f.again follow g;
  }

  pub plain_content : Stopping p cells → Whole p cells
      → Content p.reading plain_marks plain_fits plain_is p.reading plain_res
  plain_content s w = record {
    takes = λ bytes x rest fits e. plain_kept bytes x rest (s.takes bytes x rest fits e);
    breaks = λ bytes fault fits e. plain_break bytes fault e (s.stops bytes fault fits e);
    whole = λ x fits follow. ap (λ (t : List ℕ). p.reading (t ++ follow)) (flat-byte_marks (cells x)) ∙ w x fits follow;
    some = s.some;
    some_fits = s.some_fits;
  }

pub unsigned_whole : Whole unsigned (plain unsigned)
unsigned_whole n fits follow = ap (λ (t : List ℕ). unsigned.reading (t ++ follow))
    (bytes-all OtherByte (unsigned.encoding n)) ∙ unsigned_law.again n follow fits

-- ---- a part behind its size

closed : (size : ℕ) (bytes left rest : List ℕ) → close_part size bytes left ≡ Ok rest → (left ≡ [])
    × (size ≤ length bytes) × (drop size bytes ≡ rest)
closed size bytes left rest e =
    let g = guard_ok (eqb (length left) 0 && leb size (length bytes)) Malformed (Ok (drop size bytes)) rest e in
    let f = and_parts (eqb (length left) 0) (leb size (length bytes)) g.0 in
    (nil_from_length left (eqb-true _ _ f.0), leb-true _ _ f.1, ok_is _ _ g.1)

record Unclosed (size : ℕ) (bytes left : List ℕ) (fault : WFault) : Type 0 where
  is : fault ≡ Malformed
  more : (0 < length left) ⊎ (length bytes < size)

unclosed : (size : ℕ) (bytes left : List ℕ) (fault : WFault) → close_part size bytes left ≡ Err fault
    → Unclosed size bytes left fault
unclosed size bytes left fault e = elim (cases_lt 0 (length left)) [
  | inl some ↦ record {
    is = sym (err_is {A = List ℕ} Malformed fault (rw (ne_eqb (length left) 0 (omega arith)) at e));
    more = inl some;
  }
  | inr none ↦
      elim (cases_lt (length bytes) size) [
        | inl lt ↦ record {
          is = sym (err_is {A = List ℕ} Malformed fault
              (rw (eq-eqb (length left) 0 (omega arith), lt-leb size (length bytes) lt) at e));
          more = inr lt;
        }
        | inr le ↦ absurd (ok_no_err (drop size bytes) fault
            (rw (eq-eqb (length left) 0 (omega arith), le-leb size (length bytes) le) at e))
      ]
]

length-take-min : (n : ℕ) (bytes : List ℕ) → (length (take n bytes) ≤ n) × (length (take n bytes) ≤ length bytes)
length-take-min zero bytes = (omega arith, omega arith)
length-take-min (suc n) [] = (omega arith, omega arith)
length-take-min (suc n) (b ∷ bytes) = let r = length-take-min n bytes in (omega (arith, r.0), omega (arith, r.1))

positive_room : (k : ℕ) → 0 < k → TooLarge (k ∷ [])
positive_room zero lt = absurd (omega arith)
positive_room (suc k) lt = tt

module _ {X L F : Type 0} (real : List ℕ → Reading X) (m : L → List Mark) (ok : L → Type 0) (is : X → L → Type 0)
    (free : List ℕ → Reading F) (res : L → F) where
  abbrev close_next : ℕ × List ℕ → X × List ℕ → Reading X
  close_next n x = close_part n.0 n.1 x.1 >>= λ rest. Ok (x.0, rest)

  abbrev size_next : ℕ × List ℕ → Reading X
  size_next n = real (take n.0 n.1) >>= close_next n

  abbrev pub sized_real : List ℕ → Reading X
  sized_real bytes = unsigned.reading bytes >>= λ n. real (take n.0 n.1) >>= λ x. close_part n.0 n.1 x.1 >>=
      λ rest. Ok (x.0, rest)

  abbrev free_next : ℕ × List ℕ → Reading F
  free_next n = free n.1

  abbrev pub sized_free : List ℕ → Reading F
  sized_free bytes = unsigned.reading bytes >>= λ n. free n.1

  abbrev pub sized_fits : Part L → Type 0
  sized_fits p = (unsigned.fits p.size ≡ true) × ok p.content

  abbrev pub sized_is : X → Part L → Type 0
  sized_is x p = is x p.content

  abbrev pub sized_res : Part L → F
  sized_res p = res p.content

  abbrev head : ℕ → List Mark
  head n = byte_marks (plain unsigned n)

  abbrev sized_of : ℕ → L → Part L
  sized_of n x = record { size = n; content = x }

  head_flat : (n : ℕ) → flat (head n ++ Opens n ∷ []) ≡ bytes_of (plain unsigned n)
  head_flat n = flat-append (head n) (Opens n ∷ []) ∙ append-nil (flat (head n)) ∙ flat-byte_marks (plain unsigned n)

  opened : (n : ℕ) (x : L) → part_marks m (sized_of n x) ≡ (head n ++ Opens n ∷ []) ++ (m x ++ Closes ∷ [])
  opened n x = sym (append_assoc (head n) (Opens n ∷ []) (m x ++ Closes ∷ []))

  part_flat : (n : ℕ) (x : L) → flat (part_marks m (sized_of n x)) ≡ bytes_of (plain unsigned n) ++ flat (m x)
  part_flat n x =
      ap flat (opened n x) ∙ flat-append (head n ++ Opens n ∷ []) (m x ++ Closes ∷ [])
      ∙ ap (λ (t : List ℕ). t ++ flat (m x ++ Closes ∷ [])) (head_flat n)
      ∙ ap (λ (t : List ℕ). bytes_of (plain unsigned n) ++ t)
      (flat-append (m x) (Closes ∷ []) ∙ append-nil (flat (m x)))

  -- behind the size, the rest is read as if it were free
  free_behind : (bytes : List ℕ) (n : ℕ) (after : List ℕ) → Front unsigned (plain unsigned) bytes n after
      → (bs : List ℕ) → IsBytes bs → sized_free (bytes_of (plain unsigned n) ++ bs) ≡ free bs
  free_behind bytes n after t bs g = ap (λ (r : Reading ℕ). r >>= free_next) (t.again bs g)

  module _ (c : Content real m ok is free res) where
    abbrev Broken : List ℕ → WFault → Type 0
    Broken bytes fault = Break (part_marks m) sized_fits sized_free bytes fault

    in_size : (bytes : List ℕ) (fault : WFault) → IsBytes bytes → unsigned.reading bytes ≡ Err fault
        → Broken bytes fault
    in_size bytes fault fits e =
        break_into unsigned.reading sized_free [] (λ bs f g h. ap (λ (r : Reading ℕ). r >>= free_next) h)
        (plain_marks unsigned (plain unsigned)) (plain_fits unsigned (plain unsigned)) (part_marks m) sized_fits
        (λ n. sized_of n c.some)
        (λ n. Opens n ∷ (m c.some ++ Closes ∷ [])) refl (λ n h. refl) (λ n h. (h, c.some_fits)) bytes fault
        ((plain_content unsigned (plain unsigned) unsigned_stops unsigned_whole).breaks bytes fault fits e)

    in_content : (bytes : List ℕ) (n : ℕ) (after : List ℕ) (fault : WFault)
        → Front unsigned (plain unsigned) bytes n after → real (take n after) ≡ Err fault → Broken bytes fault
    in_content bytes n after fault t e =
        break_at (part_marks m) sized_fits sized_free bytes (flat (head n ++ Opens n ∷ []) ++ after) fault
        (t.parts ∙ ap (λ (b : List ℕ). b ++ after) (sym (head_flat n)))
        (break_within m ok free (part_marks m) sized_fits sized_free (head n) n (sized_of n)
        (room_free (plain unsigned n)) (λ x h. opened n x) (λ x h. (t.fits, h))
        (λ bs f g h. ap (λ (b : List ℕ). sized_free (b ++ bs)) (head_flat n) ∙ free_behind bytes n after t bs g ∙ h)
        after fault (c.breaks (take n after) fault (IsBytes-take n after t.rest_fits) e))

    at_close : (bytes : List ℕ) (n : ℕ) (after : List ℕ) (x : X) (left : List ℕ) (fault : WFault)
        → Front unsigned (plain unsigned) bytes n after → Kept m ok is free res (take n after) x left
        → close_part n after left ≡ Err fault → Broken bytes fault
    at_close bytes n after x left fault t v e =
        let u = unclosed n after left fault e in
        let k : ℕ = n - length (flat (m v.value)) in
        let len : length (take n after) ≡ length (flat (m v.value)) + length left = ap length v.parts
        ∙ length-append (flat (m v.value)) left in
        let min' = length-take-min n after in
        let text : after ≡ flat (m v.value) ++ (left ++ drop n after) = sym (take-append-drop n after)
        ∙ ap (λ (b : List ℕ). b ++ drop n after) v.parts ∙ append_assoc (flat (m v.value)) left (drop n after) in
        let pre : List Mark = head n ++ Opens n ∷ [] in
        let flat_front : flat (pre ++ m v.value) ≡ bytes_of (plain unsigned n) ++ flat (m v.value) =
        flat-append pre (m v.value) ∙ ap (λ (b : List ℕ). b ++ flat (m v.value)) (head_flat n) in
        record {
          front = pre ++ m v.value;
          at = left ++ drop n after;
          parts =
              t.parts ∙ ap (λ (b : List ℕ). bytes_of (plain unsigned n) ++ b) text
              ∙ sym (append_assoc (bytes_of (plain unsigned n)) (flat (m v.value)) (left ++ drop n after))
              ∙ ap (λ (b : List ℕ). b ++ (left ++ drop n after)) (sym flat_front);
          value = sized_of n v.value;
          fits = (t.fits, v.fits);
          next = Closes;
          rest = [];
          begins = opened n v.value ∙ sym (append_assoc pre (m v.value) (Closes ∷ []));
          rooms = k ∷ [];
          kept = opened_front m ok free (part_marks m) sized_fits sized_free (head n) n (sized_of n)
              (room_free (plain unsigned n)) (λ y h. opened n y) (λ y h. (t.fits, h))
              (λ bs f g h. ap (λ (b : List ℕ). sized_free (b ++ bs)) (head_flat n) ∙ free_behind bytes n after t bs g
              ∙ h) (m v.value) [] k v.kept (omega (arith, min'.0));
          why = (
            positive_room k (elim u.more [ inl some ↦ omega (arith, min'.0) | inr short ↦ omega (arith, min'.1) ]),
            u.is,
          );
        }

    sized_kept : (bytes : List ℕ) (n : ℕ) (after : List ℕ) (x : X) (left rest : List ℕ)
        → Front unsigned (plain unsigned) bytes n after → Kept m ok is free res (take n after) x left
        → close_part n after left ≡ Ok rest
        → Kept (part_marks m) sized_fits sized_is sized_free sized_res bytes x rest
    sized_kept bytes n after x left rest t v e =
        let k = closed n after left rest e in
        let text : take n after ≡ flat (m v.value) = v.parts ∙ ap (λ (b : List ℕ). flat (m v.value) ++ b) k.0
        ∙ append-nil (flat (m v.value)) in
        let len : n ≡ length (flat (m v.value)) + 0 = sym (length-take-le n after k.1) ∙ ap length text ∙ omega arith in
        let split : after ≡ flat (m v.value) ++ rest = sym (take-append-drop n after)
        ∙ ap (λ (b : List ℕ). b ++ drop n after) text ∙ ap (λ (b : List ℕ). flat (m v.value) ++ b) k.2 in
        let pre : List Mark = head n ++ Opens n ∷ [] in
        let around : (b : List ℕ) → flat (part_marks m (sized_of n v.value)) ++ b ≡ bytes_of (plain unsigned n)
        ++ (flat (m v.value) ++ b) =
        λ b. ap (λ (t : List ℕ). t ++ b) (part_flat n v.value)
        ∙ append_assoc (bytes_of (plain unsigned n)) (flat (m v.value)) b in
        record {
          value = sized_of n v.value;
          fits = (t.fits, v.fits);
          same = v.same;
          parts = t.parts ∙ ap (λ (b : List ℕ). bytes_of (plain unsigned n) ++ b) split ∙ sym (around rest);
          rest_fits = subst IsBytes k.2 (IsBytes-drop n after t.rest_fits);
          kept =
              ap (room []) (opened n v.value) ∙ room-append [] pre (m v.value ++ Closes ∷ [])
              ∙ ap (λ (o : Option (List ℕ)). then_room o (m v.value ++ Closes ∷ [])) (
              room-append [] (head n) (Opens n ∷ [])
              ∙ ap (λ (o : Option (List ℕ)). then_room o (Opens n ∷ [])) (room_free (plain unsigned n))
              )
              ∙ room-append (n ∷ []) (m v.value) (Closes ∷ [])
              ∙ ap (λ (o : Option (List ℕ)). then_room o (Closes ∷ []))
              (room_under (m v.value) [] [] n 0 v.kept len);
          again = λ follow g.
              let inner : IsBytes (flat (m v.value) ++ follow) =
              IsBytes-joined (flat (m v.value)) rest follow (subst IsBytes split t.rest_fits) g in
              ap sized_free (around follow) ∙ free_behind bytes n after t (flat (m v.value) ++ follow) inner
              ∙ v.again follow g;
        }

    in_order : (bytes : List ℕ) (n : ℕ) (after : List ℕ) (fault : WFault)
        → Front unsigned (plain unsigned) bytes n after → (r : Reading X) → real (take n after) ≡ r
        → (r >>= close_next (n, after)) ≡ Err fault → Broken bytes fault
    in_order bytes n after fault t (Err f) e h =
        in_content bytes n after fault t (e ∙ ap (λ (g : WFault). failed {A = X × List ℕ} g)
        (err_is {A = X × List ℕ} f fault h))
    in_order bytes n after fault t (Ok x) e h =
        at_close bytes n after x.0 x.1 fault t (c.takes (take n after) x.0 x.1 (IsBytes-take n after t.rest_fits) e)
        (bind_err (close_part n after x.1) (λ rest. (x.0, rest)) fault h)

    sized_breaks : (bytes : List ℕ) (fault : WFault) → IsBytes bytes → (r : Reading ℕ) → unsigned.reading bytes ≡ r
        → (r >>= size_next) ≡ Err fault → Broken bytes fault
    sized_breaks bytes fault fits (Err f) e h =
        in_size bytes fault fits (e ∙ ap (λ (g : WFault). failed {A = ℕ × List ℕ} g)
        (err_is {A = X × List ℕ} f fault h))
    sized_breaks bytes fault fits (Ok n) e h =
        in_order bytes n.0 n.1 fault (unsigned_stops.takes bytes n.0 n.1 fits e) (real (take n.0 n.1)) refl h

    sized_takes : (bytes : List ℕ) (x : X) (rest : List ℕ) → IsBytes bytes → sized_real bytes ≡ Ok (x, rest)
        → Kept (part_marks m) sized_fits sized_is sized_free sized_res bytes x rest
    sized_takes bytes x rest fits e =
        let a = bind_ok (unsigned.reading bytes) size_next (x, rest) e in
        let b = bind_ok (real (take a.0.0 a.0.1)) (close_next a.0) (x, rest) a.2 in
        let d = bind_ok (close_part a.0.0 a.0.1 b.0.1) (λ r. Ok (b.0.0, r)) (x, rest) b.2 in
        let same = read_is b.0.0 x d.0 rest d.2 in
        let t = unsigned_stops.takes bytes a.0.0 a.0.1 fits a.1 in
        let v = c.takes (take a.0.0 a.0.1) b.0.0 b.0.1 (IsBytes-take a.0.0 a.0.1 t.rest_fits) b.1 in
        subst (λ (y : X). Kept (part_marks m) sized_fits sized_is sized_free sized_res bytes y rest) same.0
        (sized_kept bytes a.0.0 a.0.1 b.0.0 b.0.1 rest t v (d.1 ∙ ap (λ (r : List ℕ). done r) same.1))
      where
        done : List ℕ → Result (List ℕ) WFault
        done r = Ok r

    pub sized_content : Content sized_real (part_marks m) sized_fits sized_is sized_free sized_res
    sized_content = record {
      takes = sized_takes;
      breaks = λ bytes fault fits e. sized_breaks bytes fault fits (unsigned.reading bytes) refl e;
      whole = λ p fits follow.
          ap (λ (t : List ℕ). sized_free (t ++ follow)) (part_flat p.size p.content)
          ∙ ap sized_free (append_assoc (bytes_of (plain unsigned p.size)) (flat (m p.content)) follow)
          ∙ ap (λ (r : Reading ℕ). r >>= free_next) (unsigned_whole p.size fits.0 (flat (m p.content) ++ follow))
          ∙ c.whole p.content fits.1 follow;
      some = sized_of 0 c.some;
      some_fits = (refl, c.some_fits);
    }
