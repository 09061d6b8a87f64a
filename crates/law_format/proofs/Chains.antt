-- Where readings of sections stop, one behind the other up to the end.
use Rattle.std.proofs.Common.{◌≡◌, ℕ, zero, suc, ◌<◌, true, false, cond, eqb, List, [], ◌∷◌, ◌++◌, take, Result, Ok, Err, refl, sym, ap, subst, ◌∙◌, append-nil, arith, inl, inr}
use Rattle.std.proofs.lemmas.Bool.{cases_Bool, eqb-true, eq-eqb, ne_eqb, and_parts, and_from}
use Rattle.wasm_tree.specs.declared.fault.WFault.{WFault}
use Rattle.wasm_tree.specs.declared.fault.WFault.TheVariants.{Malformed, OutsideProfile}
use Rattle.wasm_tree.specs.Format.{Format, Reading, ◌>>=◌, skip}
use Rattle.wasm_code.specs.Number.{unsigned}
use Rattle.wasm_code.specs.Parts.{entries, with_size, section}
use Rattle.wasm_binary.specs.Binary.{at_end}
use Rattle.wasm_code.proofs.Laws.{IsBytes, IsBytes-tail}
use Rattle.wasm_code.proofs.LawsParts.{Past, Past-less}
use Rattle.law_format.specs.Places.{Place, SectionNumber, OtherByte, Cell, vector_cells}
use Rattle.law_format.specs.Layouts.{Part, Mark, Byte, Opens, Closes, Last, byte_marks, flat, within, part_marks, if_some, section_marks, entry_marks, part_fits, section_fits}
use Rattle.law_format.proofs.Stops.{Stopping}
use Rattle.law_format.proofs.Combined.{failed, err_is, ok_no_err}
use Rattle.law_format.proofs.Breaks.{flat-append, Wrong, Behind, Why, Break, break_at, break_into}
use Rattle.law_format.proofs.Contents.{Kept, Content, Whole, plain_content, sized_content}

abbrev pub Ends : Type 0
Ends = Result (Unit {0}) WFault

-- a reading of all that is left, and one that leaves the sizes free
pub record Chain {Y : Type 0} (real free : List ℕ → Ends) (m : Y → List Mark) (ok : Y → Type 0) : Type 0 where
  pub breaks : (bytes : List ℕ) (fault : WFault) → IsBytes bytes → real bytes ≡ Err fault → Break m ok free bytes fault
  pub whole : (y : Y) → ok y → free (flat (m y)) ≡ Ok tt
  pub some : Y
  pub some_fits : ok some

-- ---- the end

abbrev pub end_marks : Unit {0} → List Mark
end_marks u = Last ∷ []

abbrev pub always : Unit {0} → Type 0
always u = Unit {0}

end_breaks : (bytes : List ℕ) (fault : WFault) → at_end bytes ≡ Err fault → Break end_marks always at_end bytes fault
end_breaks [] fault e = absurd (ok_no_err tt fault e)
end_breaks (b ∷ bytes) fault e =
    let is : OutsideProfile ≡ fault = err_is {A = Unit {0}} OutsideProfile fault e in
    record {
      front = [];
      at = b ∷ bytes;
      parts = refl;
      value = tt;
      fits = tt;
      next = Last;
      rest = [];
      begins = refl;
      rooms = [];
      kept = refl;
      why = (sym is, λ follow fits. ap (λ (f : WFault). failed {A = Unit {0}} f) is);
    }

pub end_chain : Chain at_end at_end end_marks always
end_chain = record {
  breaks = λ bytes fault fits e. end_breaks bytes fault e;
  whole = λ u h. refl;
  some = tt;
  some_fits = tt;
}

-- ---- a byte that has to stand there

module _ {Y : Type 0} (byte : ℕ) (real free : List ℕ → Ends) (m : Y → List Mark) (ok : Y → Type 0)
    (c : Chain real free m ok) where
  abbrev pub skip_real : List ℕ → Ends
  skip_real bytes = skip byte bytes >>= λ s. real s.1

  abbrev pub skip_free : List ℕ → Ends
  skip_free bytes = skip byte bytes >>= λ s. free s.1

  abbrev pub skip_marks : Y → List Mark
  skip_marks y = Byte (OtherByte, byte) ∷ m y

  skip_same : (g : List ℕ → Ends) (bs : List ℕ) → (skip byte (byte ∷ bs) >>= λ s. g s.1) ≡ g bs
  skip_same g bs = rw (eq-eqb byte byte refl) refl

  skip_other : (g : List ℕ → Ends) (b : ℕ) (bs : List ℕ) → eqb b byte ≡ false
      → (skip byte (b ∷ bs) >>= λ s. g s.1) ≡ Err Malformed
  skip_other g b bs e = rw e refl

  skip_breaks : (bytes : List ℕ) (fault : WFault) → IsBytes bytes → skip_real bytes ≡ Err fault
      → Break skip_marks ok skip_free bytes fault
  skip_breaks [] fault fits e = record {
    front = [];
    at = [];
    parts = refl;
    value = c.some;
    fits = c.some_fits;
    next = Byte (OtherByte, byte);
    rest = m c.some;
    begins = refl;
    rooms = [];
    kept = refl;
    why = (sym (err_is {A = Unit {0}} Malformed fault e), λ fits. e);
  }
  skip_breaks (b ∷ bytes) fault fits e = elim (cases_Bool (eqb b byte)) [
    | inl same ↦
        let is : b ≡ byte = eqb-true b byte same in
        let h : real bytes ≡ Err fault = sym (skip_same real bytes) ∙ ap (λ (d : ℕ). skip_real (d ∷ bytes)) (sym is)
        ∙ e in
        break_at skip_marks ok skip_free (b ∷ bytes) (byte ∷ bytes) fault (ap (λ (d : ℕ). d ∷ bytes) is)
        (break_into free skip_free (Byte (OtherByte, byte) ∷ []) (λ bs f g k. skip_same free bs ∙ k) m ok skip_marks ok
        (λ y. y) (λ y. []) refl (λ y k. ap (λ (t : List Mark). Byte (OtherByte, byte) ∷ t) (sym (append-nil (m y))))
        (λ y k. k) bytes fault
        (c.breaks bytes fault (IsBytes-tail b bytes fits) h))
    | inr other ↦
        let is : Malformed ≡ fault = err_is {A = Unit {0}} Malformed fault (sym (skip_other real b bytes other) ∙ e) in
        record {
          front = [];
          at = b ∷ bytes;
          parts = refl;
          value = c.some;
          fits = c.some_fits;
          next = Byte (OtherByte, byte);
          rest = m c.some;
          begins = refl;
          rooms = [];
          kept = refl;
          why = (sym is, λ follow g. skip_other free b follow other ∙ ap (λ (f : WFault). failed {A = Unit {0}} f) is);
        }
  ]

  pub skip_chain : Chain (λ bytes. skip byte bytes >>= λ s. real s.1) (λ bytes. skip byte bytes >>= λ s. free s.1)
      (λ y. Byte (OtherByte, byte) ∷ m y) ok
  skip_chain = record {
    breaks = skip_breaks;
    whole = λ y h. skip_same free (flat (m y)) ∙ c.whole y h;
    some = c.some;
    some_fits = c.some_fits;
  }

-- ---- what does not begin with a byte

abbrev Other : ℕ → List ℕ → Type 0
Other k [] = Unit {0}
Other k (b ∷ bytes) = eqb b k ≡ false

none_taken : (n : ℕ) → ◌≡◌ {A = List ℕ} (take n []) []
none_taken zero = refl
none_taken (suc n) = refl

pub within_none : (rooms : List ℕ) → within rooms [] ≡ []
within_none [] = refl
within_none (n ∷ rooms) = ap (take n) (within_none rooms) ∙ none_taken n

no_cons : (b : ℕ) (more : List ℕ) → ◌≡◌ {A = List ℕ} [] (b ∷ more) → ⊥
no_cons b more e = cc

head_is : (b c : ℕ) (x y : List ℕ) → ◌≡◌ {A = List ℕ} (b ∷ x) (c ∷ y) → b ≡ c
head_is b c x y e = cc

take_head : (n c : ℕ) (bytes : List ℕ) (b : ℕ) (more : List ℕ) → take n (c ∷ bytes) ≡ b ∷ more → c ≡ b
take_head zero c bytes b more e = absurd (no_cons b more e)
take_head (suc n) c bytes b more e = head_is c b (take n bytes) more e

within_head : (rooms : List ℕ) (c : ℕ) (bytes : List ℕ) (b : ℕ) (more : List ℕ) → within rooms (c ∷ bytes) ≡ b ∷ more
    → c ≡ b
within_head [] c bytes b more e = head_is c b bytes more e
within_head (n ∷ rooms) c bytes b more e = inner (within rooms (c ∷ bytes)) (λ d ds. within_head rooms c bytes d ds) e
  where
    inner : (t : List ℕ) → ((d : ℕ) (ds : List ℕ) → t ≡ d ∷ ds → c ≡ d) → take n t ≡ b ∷ more → c ≡ b
    inner [] h e = absurd (no_cons b more (sym (none_taken n) ∙ e))
    inner (d ∷ ds) h e = h d ds refl ∙ take_head n d ds b more e

other_behind : (k : ℕ) (front : List ℕ) (rooms at : List ℕ) (b : ℕ) (more follow : List ℕ) → within rooms at ≡ b ∷ more
    → Other k (front ++ at) → Other k (front ++ (b ∷ follow))
other_behind k [] rooms [] b more follow e h = absurd (no_cons b more (sym (within_none rooms) ∙ e))
other_behind k [] rooms (c ∷ at) b more follow e h =
    subst (λ (d : ℕ). eqb d k ≡ false) (within_head rooms c at b more e) h
other_behind k (c ∷ front) rooms at b more follow e h = h

other_front : (k : ℕ) (front at : List ℕ) → Other k (front ++ at) → Other k front
other_front k [] at h = tt
other_front k (c ∷ front) at h = h

module _ {F G : Type 0} (k : ℕ) (free : List ℕ → Result F WFault) (all : List ℕ → Result G WFault)
    (reads : (bs : List ℕ) (f : WFault) → Other k bs → free bs ≡ Err f → all bs ≡ Err f) where
  wrong_else : (front : List ℕ) (place : Place) (rooms at window : List ℕ) (fault : WFault) → within rooms at ≡ window
      → Other k (front ++ at) → Wrong free front place window fault → Wrong all front place window fault
  wrong_else front place rooms at [] fault w o h =
      (h.0, λ fits. reads front fault (other_front k front at o) (h.1 fits))
  wrong_else front place rooms at (b ∷ more) fault w o h = (
    h.0,
    λ follow fits. reads (front ++ (b ∷ follow)) fault (other_behind k front rooms at b more follow w o)
        (h.1 follow fits),
  )

  behind_else : (front : List ℕ) (rooms at window : List ℕ) (fault : WFault) → within rooms at ≡ window
      → Other k (front ++ at) → Behind free front window fault → Behind all front window fault
  behind_else front rooms at [] fault w o h = h
  behind_else front rooms at (b ∷ more) fault w o h = (
    h.0,
    λ follow fits. reads (front ++ (b ∷ follow)) fault (other_behind k front rooms at b more follow w o)
        (h.1 follow fits),
  )

  why_else : (front : List ℕ) (next : Mark) (rooms at : List ℕ) (fault : WFault) → Other k (front ++ at)
      → Why free front next rooms (within rooms at) fault → Why all front next rooms (within rooms at) fault
  why_else front (Byte cell) rooms at fault o h = wrong_else front cell.0 rooms at (within rooms at) fault refl o h
  why_else front (Opens size) rooms at fault o h = h
  why_else front Closes rooms at fault o h = h
  why_else front Last rooms at fault o h = behind_else front rooms at (within rooms at) fault refl o h

  -- what is left out before these bytes
  break_else : {L K : Type 0} (m : L → List Mark) (ok : L → Type 0) (whole : K → List Mark) (fit_all : K → Type 0)
      (make : L → K) → ((x : L) → ok x → whole (make x) ≡ m x) → ((x : L) → ok x → fit_all (make x))
      → (bytes : List ℕ) (fault : WFault) → Other k bytes
      → Break m ok free bytes fault → Break whole fit_all all bytes fault
  break_else m ok whole fit_all make made fit bytes fault o s = record {
    front = s.front;
    at = s.at;
    parts = s.parts;
    value = make s.value;
    fits = fit s.value s.fits;
    next = s.next;
    rest = s.rest;
    begins = made s.value s.fits ∙ s.begins;
    rooms = s.rooms;
    kept = s.kept;
    why = why_else (flat s.front) s.next s.rooms s.at fault (subst (Other k) s.parts o) s.why;
  }

past_other : (k : ℕ) (bytes : List ℕ) → Past k bytes → Other k bytes
past_other k [] h = tt
past_other k (b ∷ bytes) h = ne_eqb b k (omega arith)

-- ---- a section, which may be left out

abbrev pub real_section : {A : Type 0} → ℕ → Format A → (List A → List ℕ → Ends) → List ℕ → Ends
real_section k p real bytes = (section k p).reading bytes >>= λ x. real x.0 x.1

abbrev pub free_section : {A : Type 0} → ℕ → Format A → (List A → List ℕ → Ends) → List ℕ → Ends
free_section k p free [] = free [] []
free_section k p free (b ∷ bytes) = cond (eqb b k)
    ((unsigned.reading bytes >>= λ n. (entries p).reading n.1) >>= λ x. free x.0 x.1) (free [] (b ∷ bytes))

abbrev pub Good : {A : Type 0} → Format A → List A → Type 0
Good p xs = part_fits (entries p).fits 0 xs ≡ true

module _ {A Y : Type 0} (k : ℕ) (p : Format A) (cells : A → List Cell)
    (stopping : Stopping (entries p) (vector_cells cells)) (whole_entries : Whole (entries p) (vector_cells cells))
    (real free : List A → List ℕ → Ends) (m : Y → List Mark) (ok : List A → Y → Type 0)
    (next : (xs : List A) → Good p xs → Chain (real xs) (free xs) m (ok xs)) (some : List A → Y)
    (some_fits : (xs : List A) → Good p xs → ok xs (some xs))
    (past : (y : Y) → ok [] y → Past k (flat (m y))) where
  abbrev Entries : Type 0
  Entries = List A

  abbrev entry_cells : Entries → List Cell
  entry_cells xs = vector_cells cells xs

  abbrev ms : Entries → List Mark
  ms xs = byte_marks (entry_cells xs)

  abbrev fits_entries : Entries → Type 0
  fits_entries xs = (entries p).fits xs ≡ true

  abbrev is_entries : Entries → Entries → Type 0
  is_entries x y = x ≡ y

  abbrev res_entries : Entries → Entries
  res_entries x = x

  abbrev part_free : List ℕ → Reading Entries
  part_free bytes = unsigned.reading bytes >>= λ n. (entries p).reading n.1

  abbrev part_ok : Part Entries → Type 0
  part_ok s = (unsigned.fits s.size ≡ true) × ((entries p).fits s.content ≡ true)

  abbrev part_is : Entries → Part Entries → Type 0
  part_is x s = x ≡ s.content

  abbrev part_res : Part Entries → Entries
  part_res s = s.content

  content : Content (with_size (entries p)).reading (part_marks ms) part_ok part_is part_free part_res
  content = sized_content (entries p).reading ms fits_entries is_entries (entries p).reading res_entries
      (plain_content (entries p) entry_cells stopping whole_entries)

  abbrev real_next : Entries × List ℕ → Ends
  real_next x = real x.0 x.1

  abbrev free_next : Entries × List ℕ → Ends
  free_next x = free x.0 x.1

  abbrev section_real : List ℕ → Ends
  section_real bytes = real_section k p real bytes

  abbrev section_free : List ℕ → Ends
  section_free bytes = free_section k p free bytes

  abbrev section_y : Type 0
  section_y = Part Entries × Y

  abbrev section_m : section_y → List Mark
  section_m y = section_marks k (entry_marks cells) y.0 ++ m y.1

  abbrev section_ok : section_y → Type 0
  section_ok y = section_fits p y.0 × ok y.0.content y.1

  abbrev absent : Part Entries
  absent = record { size = 0; content = [] }

  abbrev Broken : List ℕ → WFault → Type 0
  Broken bytes fault = Break section_m section_ok section_free bytes fault

  -- the section is there
  filled : (s : Part Entries) → part_ok s → (section_fits p s)
      × (section_marks k (entry_marks cells) s ≡ Byte (SectionNumber, k) ∷ part_marks ms s) × Good p s.content
  filled s h = by_content s.content refl
    where
      by_content : (xs : Entries) → s.content ≡ xs → (section_fits p s)
          × (section_marks k (entry_marks cells) s ≡ Byte (SectionNumber, k) ∷ part_marks ms s) × Good p s.content
      by_content [] e = absurd (none (sym h.1 ∙ ap (entries p).fits e))
        where
          none : true ≡ false → ⊥
          none e = cc
      by_content (x ∷ xs) e = (
        subst (λ (t : Entries). part_fits (entries p).fits s.size t ≡ true) (sym e)
            (and_from _ _ h.0 (subst (λ (t : Entries). (entries p).fits t ≡ true) e h.1)),
        ap (λ (t : Entries). if_some t (Byte (SectionNumber, k) ∷ part_marks ms s)) e,
        subst (λ (t : Entries). part_fits (entries p).fits 0 t ≡ true) (sym e)
            (and_from _ _ refl (subst (λ (t : Entries). (entries p).fits t ≡ true) e h.1)),
      )

  free_at : (bs : List ℕ) → section_free (k ∷ bs) ≡ (part_free bs >>= free_next)
  free_at bs = rw (eq-eqb k k refl) refl

  real_at : (bs : List ℕ) → section_real (k ∷ bs) ≡ ((with_size (entries p)).reading bs >>= real_next)
  real_at bs = rw (eq-eqb k k refl) refl

  free_else : (bs : List ℕ) → Other k bs → section_free bs ≡ free [] bs
  free_else [] o = refl
  free_else (b ∷ bs) o = rw o refl

  real_else : (bs : List ℕ) → Other k bs → section_real bs ≡ real [] bs
  real_else [] o = refl
  real_else (b ∷ bs) o = rw o refl

  left_out : (bytes : List ℕ) (fault : WFault) → IsBytes bytes → Other k bytes → real [] bytes ≡ Err fault
      → Broken bytes fault
  left_out bytes fault fits o e =
      break_else k (free []) section_free (λ bs f g h. free_else bs g ∙ h) m (ok []) section_m section_ok
      (λ y. (absent, y)) (λ y h. refl) (λ y h. (refl, h)) bytes fault o ((next [] refl).breaks bytes fault fits e)

  in_section : (bs : List ℕ) (fault : WFault) → IsBytes bs → (with_size (entries p)).reading bs ≡ Err fault
      → Broken (k ∷ bs) fault
  in_section bs fault fits e =
      break_into part_free section_free (Byte (SectionNumber, k) ∷ [])
      (λ t f g h. free_at t ∙ ap (λ (r : Reading Entries). r >>= free_next) h) (part_marks ms) part_ok section_m
      section_ok (λ s. (s, some s.content)) (λ s. m (some s.content)) refl
      (λ s h. ap (λ (t : List Mark). t ++ m (some s.content)) (filled s h).1)
      (λ s h. ((filled s h).0, some_fits s.content (filled s h).2)) bs fault (content.breaks bs fault fits e)

  behind_section : (bs : List ℕ) (x : Entries) (mid : List ℕ) (fault : WFault)
      → Kept (part_marks ms) part_ok part_is part_free part_res bs x mid → real x mid ≡ Err fault
      → Broken (k ∷ bs) fault
  behind_section bs x mid fault v e =
      let s : Part Entries = v.value in
      let f = filled s v.fits in
      let pre : List Mark = Byte (SectionNumber, k) ∷ part_marks ms s in
      let same : real s.content mid ≡ Err fault = subst (λ (t : Entries). real t mid ≡ Err fault) v.same e in
      break_at section_m section_ok section_free (k ∷ bs) (flat pre ++ mid) fault (ap (λ (t : List ℕ). k ∷ t) v.parts)
      (break_into (free s.content) section_free pre
      (λ t d g h. free_at (flat (part_marks ms s) ++ t)
      ∙ ap (λ (r : Reading Entries). r >>= free_next) (v.again t g) ∙ h) m (ok s.content) section_m section_ok
      (λ y. (s, y)) (λ y. []) v.kept
      (λ y h. ap (λ (t : List Mark). t ++ m y) f.1 ∙ ap (λ (t : List Mark). pre ++ t) (sym (append-nil (m y))))
      (λ y h. (f.0, h)) mid fault ((next s.content f.2).breaks mid fault v.rest_fits same))

  in_or_behind : (bs : List ℕ) (fault : WFault) → IsBytes bs → (r : Reading Entries)
      → (with_size (entries p)).reading bs ≡ r → (r >>= real_next) ≡ Err fault → Broken (k ∷ bs) fault
  in_or_behind bs fault fits (Err f) e h =
      in_section bs fault fits (e ∙ ap (λ (g : WFault). failed {A = Entries × List ℕ} g)
      (err_is {A = Unit {0}} f fault h))
  in_or_behind bs fault fits (Ok x) e h = behind_section bs x.0 x.1 fault (content.takes bs x.0 x.1 fits e) h

  section_breaks : (bytes : List ℕ) (fault : WFault) → IsBytes bytes → section_real bytes ≡ Err fault
      → Broken bytes fault
  section_breaks [] fault fits e = left_out [] fault fits tt e
  section_breaks (b ∷ bs) fault fits e = elim (cases_Bool (eqb b k)) [
    | inl same ↦
        let is : b ≡ k = eqb-true b k same in
        break_at section_m section_ok section_free (b ∷ bs) (k ∷ bs) fault (ap (λ (d : ℕ). d ∷ bs) is)
        (in_or_behind bs fault (IsBytes-tail b bs fits) ((with_size (entries p)).reading bs) refl
        (sym (real_at bs) ∙ ap (λ (d : ℕ). section_real (d ∷ bs)) (sym is) ∙ e))
    | inr other ↦ left_out (b ∷ bs) fault fits other (sym (real_else (b ∷ bs) other) ∙ e)
  ]

  section_whole : (size : ℕ) (xs : Entries) (y : Y) → section_fits p (record { size = size; content = xs }) → ok xs y
      → section_free (flat (section_marks k (entry_marks cells) (record { size = size; content = xs }) ++ m y)) ≡ Ok tt
  section_whole size [] y h g = free_else (flat (m y)) (past_other k (flat (m y)) (past y g)) ∙ (next [] refl).whole y g
  section_whole size (x ∷ xs) y h g =
      let s : Part Entries = record { size = size; content = x ∷ xs } in
      let f = and_parts (unsigned.fits size) ((entries p).fits (x ∷ xs)) h in
      let good : Good p (x ∷ xs) = and_from _ _ refl f.1 in
      ap (λ (t : List ℕ). section_free (k ∷ t)) (flat-append (part_marks ms s) (m y))
      ∙ free_at (flat (part_marks ms s) ++ flat (m y))
      ∙ ap (λ (r : Reading Entries). r >>= free_next) (content.whole s (f.0, f.1) (flat (m y)))
      ∙ (next (x ∷ xs) good).whole y g

  section_past : (before size : ℕ) (xs : Entries) (y : Y) → before < k → ok xs y
      → Past before (flat (section_marks k (entry_marks cells) (record { size = size; content = xs }) ++ m y))
  section_past before size [] y lt g = Past-less before k (flat (m y)) lt (past y g)
  section_past before size (x ∷ xs) y lt g = lt

  pub section_is_past : (before : ℕ) → before < k → (y : Part Entries × Y) → section_fits p y.0 × ok y.0.content y.1
      → Past before (flat (section_marks k (entry_marks cells) y.0 ++ m y.1))
  section_is_past before lt y h = section_past before y.0.size y.0.content y.1 lt h.1

  pub section_chain : Chain (real_section k p real) (free_section k p free)
      (λ (y : Part (List A) × Y). section_marks k (entry_marks cells) y.0 ++ m y.1)
      (λ (y : Part (List A) × Y). section_fits p y.0 × ok y.0.content y.1)
  section_chain = record {
    breaks = section_breaks;
    whole = λ y h. section_whole y.0.size y.0.content y.1 h.0 h.1;
    some = (absent, some []);
    some_fits = (refl, some_fits [] refl);
  }
