-- Where readings stop of parts within their stated sizes.
use Rattle.std.proofs.Common.{◌≡◌, ℕ, zero, suc, ◌+◌, ◌-◌, ◌≤◌, List, [], ◌∷◌, ◌++◌, length, take, drop, Option, Some, None, Result, Err, refl, sym, ap, subst, ◌∙◌, append_assoc, arith}
use Rattle.std.proofs.lemmas.List.{length-append, drop_at, take-append-drop}
use Rattle.wasm_tree.specs.declared.fault.WFault.{WFault}
use Rattle.wasm_tree.specs.declared.fault.WFault.TheVariants.{Malformed}
use Rattle.wasm_code.proofs.Laws.{IsBytes, IsBytes-after}
use Rattle.law_format.specs.Places.{Place, SectionNumber, fault_at, Cell, bytes_of}
use Rattle.law_format.specs.Layouts.{Mark, Byte, Opens, Closes, Last, byte_marks, flat, spend, room, within}

-- ---- marks

pub flat-append : (xs ys : List Mark) → flat (xs ++ ys) ≡ flat xs ++ flat ys
flat-append [] ys = refl
flat-append (Byte cell ∷ xs) ys = ap (λ (t : List ℕ). cell.1 ∷ t) (flat-append xs ys)
flat-append (Opens size ∷ xs) ys = flat-append xs ys
flat-append (Closes ∷ xs) ys = flat-append xs ys
flat-append (Last ∷ xs) ys = flat-append xs ys

pub flat-byte_marks : (cells : List Cell) → flat (byte_marks cells) ≡ bytes_of cells
flat-byte_marks [] = refl
flat-byte_marks (c ∷ cells) = ap (λ (t : List ℕ). c.1 ∷ t) (flat-byte_marks cells)

pub byte_marks-append : (xs ys : List Cell) → byte_marks (xs ++ ys) ≡ byte_marks xs ++ byte_marks ys
byte_marks-append [] ys = refl
byte_marks-append (x ∷ xs) ys = ap (λ (t : List Mark). Byte x ∷ t) (byte_marks-append xs ys)

-- ---- rooms

abbrev Rooms : Type 0
Rooms = Option (List ℕ)

abbrev pub then_room : Rooms → List Mark → Rooms
then_room (Some rooms) marks = room rooms marks
then_room None marks = None

pub room-append : (rooms : List ℕ) (xs ys : List Mark) → room rooms (xs ++ ys) ≡ then_room (room rooms xs) ys
room-append rooms [] ys = refl
room-append rooms (Byte cell ∷ xs) ys = spent (spend rooms) (λ left. room-append left xs ys)
  where
    spent : (o : Rooms) → ((left : List ℕ) → room left (xs ++ ys) ≡ then_room (room left xs) ys)
        → elim o [ Some left ↦ room left (xs ++ ys) | None ↦ None ]
        ≡ then_room (elim o [ Some left ↦ room left xs | None ↦ None ]) ys
    spent (Some left) h = h left
    spent None h = refl
room-append rooms (Opens size ∷ xs) ys = room-append (size ∷ rooms) xs ys
room-append [] (Closes ∷ xs) ys = refl
room-append (zero ∷ rooms) (Closes ∷ xs) ys = room-append rooms xs ys
room-append (suc n ∷ rooms) (Closes ∷ xs) ys = refl
room-append rooms (Last ∷ xs) ys = room-append rooms xs ys

pub room_free : (cells : List Cell) → room [] (byte_marks cells) ≡ Some []
room_free [] = refl
room_free (c ∷ cells) = room_free cells

pub some_is : {A : Type 0} (x y : A) → ◌≡◌ {A = Option A} (Some x) (Some y) → x ≡ y
some_is x y e = cc

pub no_room : (rooms : List ℕ) → ◌≡◌ {A = Rooms} None (Some rooms) → ⊥
no_room rooms e = cc

abbrev more_room : ℕ → Rooms → Rooms
more_room m o = elim o [ Some left ↦ Some (m ∷ left) | None ↦ None ]

abbrev behind_byte : List Mark → Rooms → Rooms
behind_byte marks o = elim o [ Some left ↦ room left marks | None ↦ None ]

-- one more part around them
spend_under : (rooms left : List ℕ) (n : ℕ) → spend rooms ≡ Some left
    → spend (rooms ++ suc n ∷ []) ≡ Some (left ++ n ∷ [])
spend_under [] left n e = rw (← some_is [] left e) refl
spend_under (zero ∷ rooms) left n e = absurd (no_room left e)
spend_under (suc m ∷ rooms) left n e = inner (λ l h. spend_under rooms l n h) (spend rooms) refl e
  where
    inner : ((l : List ℕ) → spend rooms ≡ Some l → spend (rooms ++ suc n ∷ []) ≡ Some (l ++ n ∷ [])) → (o : Rooms)
        → spend rooms ≡ o → elim o [ Some l ↦ Some (m ∷ l) | None ↦ None ] ≡ Some left
        → spend (suc m ∷ (rooms ++ suc n ∷ [])) ≡ Some (left ++ n ∷ [])
    inner more (Some l) h f = ap (more_room m) (more l h)
        ∙ ap (λ (t : List ℕ). Some (t ++ n ∷ [])) (some_is (m ∷ l) left f)
    inner more None h f = absurd (no_room left f)

pub room_under : (marks : List Mark) (rooms left : List ℕ) (n k : ℕ) → room rooms marks ≡ Some left
    → n ≡ length (flat marks) + k → room (rooms ++ n ∷ []) marks ≡ Some (left ++ k ∷ [])
room_under [] rooms left n k e h = rw (← some_is rooms left e)
    (ap (λ (c : ℕ). Some (rooms ++ c ∷ [])) (h ∙ omega arith))
room_under (Byte cell ∷ marks) rooms left zero k e h = absurd (omega arith)
room_under (Byte cell ∷ marks) rooms left (suc n) k e h =
    inner (λ l f. room_under marks l left n k f (omega arith)) (spend rooms) refl e
  where
    inner : ((l : List ℕ) → room l marks ≡ Some left → room (l ++ n ∷ []) marks ≡ Some (left ++ k ∷ [])) → (o : Rooms)
        → spend rooms ≡ o → elim o [ Some l ↦ room l marks | None ↦ None ] ≡ Some left
        → room (rooms ++ suc n ∷ []) (Byte cell ∷ marks) ≡ Some (left ++ k ∷ [])
    inner more (Some l) g f = ap (behind_byte marks) (spend_under rooms l n g) ∙ more l f
    inner more None g f = absurd (no_room left f)
room_under (Opens size ∷ marks) rooms left n k e h = room_under marks (size ∷ rooms) left n k e h
room_under (Closes ∷ marks) [] left n k e h = absurd (no_room left e)
room_under (Closes ∷ marks) (zero ∷ rooms) left n k e h = room_under marks rooms left n k e h
room_under (Closes ∷ marks) (suc m ∷ rooms) left n k e h = absurd (no_room left e)
room_under (Last ∷ marks) rooms left n k e h = room_under marks rooms left n k e h

pub within_under : (rooms : List ℕ) (n : ℕ) (bytes : List ℕ)
    → within (rooms ++ n ∷ []) bytes ≡ within rooms (take n bytes)
within_under [] n bytes = refl
within_under (m ∷ rooms) n bytes = ap (take m) (within_under rooms n bytes)

-- ---- breaks

-- What decides, where these bytes are still within all stated sizes.
abbrev pub Wrong : {F : Type 0} → (List ℕ → Result F WFault) → List ℕ → Place → List ℕ → WFault → Type 0
Wrong free front place [] fault = (fault ≡ Malformed) × (IsBytes front → free front ≡ Err fault)
Wrong free front place (b ∷ more) fault = (fault ≡ fault_at place)
    × ((follow : List ℕ) → IsBytes (front ++ (b ∷ follow)) → free (front ++ (b ∷ follow)) ≡ Err fault)

abbrev pub Behind : {F : Type 0} → (List ℕ → Result F WFault) → List ℕ → List ℕ → WFault → Type 0
Behind free front [] fault = ⊥
Behind free front (b ∷ more) fault = (fault ≡ fault_at SectionNumber)
    × ((follow : List ℕ) → IsBytes (front ++ (b ∷ follow)) → free (front ++ (b ∷ follow)) ≡ Err fault)

abbrev pub TooLarge : List ℕ → Type 0
TooLarge [] = ⊥
TooLarge (zero ∷ rooms) = ⊥
TooLarge (suc n ∷ rooms) = Unit {0}

abbrev pub Why : {F : Type 0} → (List ℕ → Result F WFault) → List ℕ → Mark → (rooms window : List ℕ) → WFault → Type 0
Why free front (Byte cell) rooms window fault = Wrong free front cell.0 window fault
Why free front (Opens size) rooms window fault = ⊥
Why free front Closes rooms window fault = TooLarge rooms × (fault ≡ Malformed)
Why free front Last rooms window fault = Behind free front window fault

pub record Break {L F : Type 0} (m : L → List Mark) (ok : L → Type 0) (free : List ℕ → Result F WFault) (bytes : List ℕ)
    (fault : WFault) : Type 0 where
  pub front : List Mark
  pub at : List ℕ
  pub parts : bytes ≡ flat front ++ at
  pub value : L
  pub fits : ok value
  pub next : Mark
  pub rest : List Mark
  pub begins : m value ≡ front ++ (next ∷ rest)
  pub rooms : List ℕ
  pub kept : room [] front ≡ Some rooms
  pub why : Why free (flat front) next rooms (within rooms at) fault

pub break_at : {L F : Type 0} (m : L → List Mark) (ok : L → Type 0) (free : List ℕ → Result F WFault)
    (bytes same : List ℕ) (fault : WFault) → bytes ≡ same → Break m ok free same fault → Break m ok free bytes fault
break_at m ok free bytes same fault e s = subst (λ (b : List ℕ). Break m ok free b fault) (sym e) s

IsBytes-behind : (xs ys : List ℕ) → IsBytes (xs ++ ys) → IsBytes ys
IsBytes-behind xs ys h = IsBytes-after (xs ++ ys) xs ys refl h

regroup : (pre front : List Mark) (next : Mark) (rest post : List Mark)
    → pre ++ ((front ++ (next ∷ rest)) ++ post) ≡ (pre ++ front) ++ (next ∷ (rest ++ post))
regroup pre front next rest post = simp append_assoc

-- the free readings of a part and of the whole
module _ {F G : Type 0} (free : List ℕ → Result F WFault) (all : List ℕ → Result G WFault) (pre : List Mark)
    (reads : (bs : List ℕ) (f : WFault) → IsBytes bs → free bs ≡ Err f → all (flat pre ++ bs) ≡ Err f) where
  decided_into : (front : List Mark) (b : ℕ) (fault : WFault)
      → ((follow : List ℕ) → IsBytes (flat front ++ (b ∷ follow)) → free (flat front ++ (b ∷ follow)) ≡ Err fault)
      → (follow : List ℕ) → IsBytes (flat (pre ++ front) ++ (b ∷ follow))
      → all (flat (pre ++ front) ++ (b ∷ follow)) ≡ Err fault
  decided_into front b fault h follow fits =
      let same : flat (pre ++ front) ++ (b ∷ follow) ≡ flat pre ++ (flat front ++ (b ∷ follow)) =
      ap (λ (r : List ℕ). r ++ (b ∷ follow)) (flat-append pre front)
      ∙ append_assoc (flat pre) (flat front) (b ∷ follow) in
      let inner : IsBytes (flat front ++ (b ∷ follow)) =
      IsBytes-behind (flat pre) (flat front ++ (b ∷ follow)) (subst IsBytes same fits) in
      ap all same ∙ reads (flat front ++ (b ∷ follow)) fault inner (h follow inner)

  pub wrong_into : (front : List Mark) (place : Place) (window : List ℕ) (fault : WFault)
      → Wrong free (flat front) place window fault → Wrong all (flat (pre ++ front)) place window fault
  wrong_into front place [] fault h = (
    h.0,
    λ fits.
        let same : flat (pre ++ front) ≡ flat pre ++ flat front = flat-append pre front in
        let inner : IsBytes (flat front) = IsBytes-behind (flat pre) (flat front) (subst IsBytes same fits) in
        ap all same ∙ reads (flat front) fault inner (h.1 inner),
  )
  wrong_into front place (b ∷ more) fault h = (h.0, decided_into front b fault h.1)

  behind_into : (front : List Mark) (window : List ℕ) (fault : WFault) → Behind free (flat front) window fault
      → Behind all (flat (pre ++ front)) window fault
  behind_into front [] fault h = h
  behind_into front (b ∷ more) fault h = (h.0, decided_into front b fault h.1)

  pub why_into : (front : List Mark) (next : Mark) (rooms window : List ℕ) (fault : WFault)
      → Why free (flat front) next rooms window fault → Why all (flat (pre ++ front)) next rooms window fault
  why_into front (Byte cell) rooms window fault h = wrong_into front cell.0 window fault h
  why_into front (Opens size) rooms window fault h = h
  why_into front Closes rooms window fault h = h
  why_into front Last rooms window fault h = behind_into front window fault h

  module _ {L K : Type 0} (m : L → List Mark) (ok : L → Type 0) (whole : K → List Mark) (fit_all : K → Type 0)
      (make : L → K) (post : L → List Mark)
      (kept_pre : room [] pre ≡ Some [])
      (made : (x : L) → ok x → whole (make x) ≡ pre ++ (m x ++ post x)) (fit : (x : L) → ok x → fit_all (make x)) where
    pub break_into : (bytes : List ℕ) (fault : WFault) → Break m ok free bytes fault
        → Break whole fit_all all (flat pre ++ bytes) fault
    break_into bytes fault s = record {
      front = pre ++ s.front;
      at = s.at;
      parts = ap (λ (r : List ℕ). flat pre ++ r) s.parts ∙ sym (append_assoc (flat pre) (flat s.front) s.at)
          ∙ ap (λ (r : List ℕ). r ++ s.at) (sym (flat-append pre s.front));
      value = make s.value;
      fits = fit s.value s.fits;
      next = s.next;
      rest = s.rest ++ post s.value;
      begins = made s.value s.fits ∙ ap (λ (r : List Mark). pre ++ (r ++ post s.value)) s.begins
          ∙ regroup pre s.front s.next s.rest (post s.value);
      rooms = s.rooms;
      kept = room-append [] pre s.front ∙ ap (λ (o : Rooms). then_room o s.front) kept_pre ∙ s.kept;
      why = why_into s.front s.next s.rooms (within s.rooms s.at) fault s.why;
    }

-- ---- a break within a size

take_front : (done bs : List ℕ) (m k : ℕ) → m ≡ length done + k → take m (done ++ bs) ≡ done ++ take k bs
take_front [] bs m k e = ap (λ (c : ℕ). take c bs) (e ∙ omega arith)
take_front (d ∷ done) bs zero k e = absurd (omega arith)
take_front (d ∷ done) bs (suc m) k e = ap (λ (t : List ℕ). d ∷ t) (take_front done bs m k (omega arith))

pub same_behind : (front x y : List ℕ) → front ++ x ≡ front ++ y → x ≡ y
same_behind front x y e = sym (drop_at front x (length front) refl) ∙ ap (drop (length front)) e
    ∙ drop_at front y (length front) refl

too_large_under : (rooms : List ℕ) (k : ℕ) → TooLarge rooms → TooLarge (rooms ++ k ∷ [])
too_large_under [] k h = absurd h
too_large_under (zero ∷ rooms) k h = absurd h
too_large_under (suc n ∷ rooms) k h = h

why_under : {F : Type 0} (free : List ℕ → Result F WFault) (front : List ℕ) (next : Mark) (rooms : List ℕ) (k : ℕ)
    (window : List ℕ) (fault : WFault) → Why free front next rooms window fault
    → Why free front next (rooms ++ k ∷ []) window fault
why_under free front (Byte cell) rooms k window fault h = h
why_under free front (Opens size) rooms k window fault h = h
why_under free front Closes rooms k window fault h = (too_large_under rooms k h.0, h.1)
why_under free front Last rooms k window fault h = h

length-take-min : (n : ℕ) (bytes : List ℕ) → length (take n bytes) ≤ n
length-take-min zero bytes = omega arith
length-take-min (suc n) [] = omega arith
length-take-min (suc n) (b ∷ bytes) = omega (arith, length-take-min n bytes)

module _ {L F G K : Type 0} (m : L → List Mark) (ok : L → Type 0) (free : List ℕ → Result F WFault)
    (whole : K → List Mark) (fit_all : K → Type 0) (all : List ℕ → Result G WFault) (head : List Mark) (n : ℕ)
    (make : L → K)
    (kept_head : room [] head ≡ Some [])
    (made : (x : L) → ok x → whole (make x) ≡ (head ++ Opens n ∷ []) ++ (m x ++ Closes ∷ []))
    (fit : (x : L) → ok x → fit_all (make x))
    (reads : (bs : List ℕ) (f : WFault) → IsBytes bs → free bs ≡ Err f
    → all (flat (head ++ Opens n ∷ []) ++ bs) ≡ Err f) where
  abbrev pre : List Mark
  pre = head ++ Opens n ∷ []

  pub kept_opened : room [] (head ++ Opens n ∷ []) ≡ Some (n ∷ [])
  kept_opened = room-append [] head (Opens n ∷ []) ∙ ap (λ (o : Rooms). then_room o (Opens n ∷ [])) kept_head

  pub opened_front : (front : List Mark) (rooms : List ℕ) (k : ℕ) → room [] front ≡ Some rooms
      → n ≡ length (flat front) + k → room [] (pre ++ front) ≡ Some (rooms ++ k ∷ [])
  opened_front front rooms k e h = room-append [] pre front ∙ ap (λ (o : Rooms). then_room o front) kept_opened
      ∙ room_under front [] rooms n k e h

  pub break_within : (after : List ℕ) (fault : WFault) → Break m ok free (take n after) fault
      → Break whole fit_all all (flat (head ++ Opens n ∷ []) ++ after) fault
  break_within after fault s =
      let k : ℕ = n - length (flat s.front) in
      let whole_text : after ≡ flat s.front ++ (s.at ++ drop n after) = sym (take-append-drop n after)
      ∙ ap (λ (t : List ℕ). t ++ drop n after) s.parts ∙ append_assoc (flat s.front) s.at (drop n after) in
      let len : length (take n after) ≡ length (flat s.front) + length s.at = ap length s.parts
      ∙ length-append (flat s.front) s.at in
      let is : n ≡ length (flat s.front) + k = omega (arith, length-take-min n after) in
      let window : take k (s.at ++ drop n after) ≡ s.at =
      same_behind (flat s.front) (take k (s.at ++ drop n after)) s.at (
      sym (take_front (flat s.front) (s.at ++ drop n after) n k is) ∙ ap (take n) (sym whole_text) ∙ s.parts
      ) in
      record {
        front = pre ++ s.front;
        at = s.at ++ drop n after;
        parts =
            ap (λ (t : List ℕ). flat pre ++ t) whole_text
            ∙ sym (append_assoc (flat pre) (flat s.front) (s.at ++ drop n after))
            ∙ ap (λ (t : List ℕ). t ++ (s.at ++ drop n after)) (sym (flat-append pre s.front));
        value = make s.value;
        fits = fit s.value s.fits;
        next = s.next;
        rest = s.rest ++ Closes ∷ [];
        begins = made s.value s.fits ∙ ap (λ (r : List Mark). pre ++ (r ++ Closes ∷ [])) s.begins
            ∙ regroup pre s.front s.next s.rest (Closes ∷ []);
        rooms = s.rooms ++ k ∷ [];
        kept = opened_front s.front s.rooms k s.kept is;
        why =
            subst (λ (w : List ℕ). Why all (flat (pre ++ s.front)) s.next (s.rooms ++ k ∷ []) w fault)
            (ap (within s.rooms) (sym window) ∙ sym (within_under s.rooms k (s.at ++ drop n after)))
            (why_under all (flat (pre ++ s.front)) s.next s.rooms k (within s.rooms s.at) fault
            (why_into free all pre reads s.front s.next s.rooms (within s.rooms s.at) fault s.why));
      }
