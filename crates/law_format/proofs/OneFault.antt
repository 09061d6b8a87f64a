-- No bytes have two first faults.
use Rattle.std.proofs.Common.{◌≡◌, ◌⊎◌, ℕ, zero, suc, List, [], ◌∷◌, ◌++◌, take, Option, Some, None, refl, sym, ap, subst, ◌∙◌, append_assoc, inl, inr}
use Rattle.wasm_tree.specs.declared.fault.WFault.{WFault}
use Rattle.wasm_tree.specs.declared.fault.WFault.TheVariants.{Malformed}
use Rattle.law_format.specs.Places.{SectionNumber, fault_at, Cell}
use Rattle.law_format.specs.Layouts.{Mark, Byte, Opens, Closes, Last, flat, spend, room, within, layout_marks}
use Rattle.law_format.specs.FirstFault.{Begins, CannotStand, Decides, NoByte, WrongByte, ByteBehind, BytesLeft, FirstFault, OneFault}
use Rattle.law_format.proofs.Breaks.{flat-append, then_room, room-append, some_is, no_room, same_behind}
use Rattle.law_format.proofs.Endings.{Inner, layout_ended, inner_tail, inner_front}
use Rattle.law_format.proofs.Joining.{Turn, Join, layouts_join}

-- ---- two fronts of the same bytes

turn_back : (x y : Mark) → Turn x y → Turn y x
turn_back (Byte c) (Byte d) h = (sym h.0, λ e. h.1 (sym e))
turn_back (Byte c) (Opens n) h = absurd h
turn_back (Byte c) Closes h = absurd h
turn_back (Byte c) Last h = h
turn_back (Opens k) y h = absurd h
turn_back Closes y h = absurd h
turn_back Last (Byte d) h = h
turn_back Last (Opens n) h = absurd h
turn_back Last Closes h = absurd h
turn_back Last Last h = absurd h

-- the same mark, or two where modules differ first
abbrev pub Beside : Mark → Mark → Type 0
Beside x y = Turn x y ⊎ (x ≡ y)

pub beside_back : (x y : Mark) → Beside x y → Beside y x
beside_back x y (inl t) = inl (turn_back x y t)
beside_back x y (inr e) = inr (sym e)

beside : {P : Type 0} (x y : Mark) → Turn x y ⊎ ((x ≡ y) × P) → Beside x y
beside x y (inl t) = inl t
beside x y (inr h) = inr h.0

-- the second front goes on where the first one stops
pub record Shorter (f g : List Mark) (x : Mark) : Type 0 where
  pub next : Mark
  pub more : List Mark
  pub longer : g ≡ f ++ (next ∷ more)
  pub turn : Beside x next

abbrev pub Compared : List Mark → List Mark → Mark → Mark → Type 0
Compared f g x y = ((f ≡ g) × Beside x y) ⊎ (Shorter f g x ⊎ Shorter g f y)

abbrev put : Mark → List Mark → List Mark
put m t = m ∷ t

same_puts : (m n : Mark) (xs ys : List Mark) → m ≡ n → xs ≡ ys → m ∷ xs ≡ n ∷ ys
same_puts m n xs ys e f = ap (λ (k : Mark). put k xs) e ∙ ap (put n) f

with_mark : (m n : Mark) (f g : List Mark) (x y : Mark) → m ≡ n → Compared f g x y → Compared (m ∷ f) (n ∷ g) x y
with_mark m n f g x y e (inl h) = inl (same_puts m n f g e h.0, h.1)
with_mark m n f g x y e (inr (inl s)) = inr
    (inl (record {
      next = s.next;
      more = s.more;
      longer = same_puts n m g (f ++ (s.next ∷ s.more)) (sym e) s.longer;
      turn = s.turn;
    }))
with_mark m n f g x y e (inr (inr s)) = inr
    (inr (record {
      next = s.next;
      more = s.more;
      longer = same_puts m n f (g ++ (s.next ∷ s.more)) e s.longer;
      turn =
          s.turn;
    }))

first_byte : (b c : ℕ) (x y : List ℕ) → ◌≡◌ {A = List ℕ} (b ∷ x) (c ∷ y) → b ≡ c
first_byte b c x y e = cc

more_bytes : (b c : ℕ) (x y : List ℕ) → ◌≡◌ {A = List ℕ} (b ∷ x) (c ∷ y) → x ≡ y
more_bytes b c x y e = cc

pub no_byte : (c : ℕ) (y : List ℕ) → ◌≡◌ {A = List ℕ} [] (c ∷ y) → ⊥
no_byte c y e = cc

no_turn : (m n : Mark) (f g : List Mark) (at bt : List ℕ) → Inner (m ∷ f) → Inner (n ∷ g) → Turn m n
    → flat (m ∷ f) ++ at ≡ flat (n ∷ g) ++ bt → ⊥
no_turn (Byte c) (Byte d) f g at bt hf hg t e = t.1 (first_byte c.1 d.1 (flat f ++ at) (flat g ++ bt) e)
no_turn (Byte c) (Opens k) f g at bt hf hg t e = t
no_turn (Byte c) Closes f g at bt hf hg t e = t
no_turn (Byte c) Last f g at bt hf hg t e = hg
no_turn (Opens k) n f g at bt hf hg t e = t
no_turn Closes n f g at bt hf hg t e = t
no_turn Last n f g at bt hf hg t e = hf

flat_rest : (m : Mark) (f g : List Mark) (at bt : List ℕ) → flat (m ∷ f) ++ at ≡ flat (m ∷ g) ++ bt
    → flat f ++ at ≡ flat g ++ bt
flat_rest (Byte c) f g at bt e = more_bytes c.1 c.1 (flat f ++ at) (flat g ++ bt) e
flat_rest (Opens k) f g at bt e = e
flat_rest Closes f g at bt e = e
flat_rest Last f g at bt e = e

compare : (f g : List Mark) (x y : Mark) (r s : List Mark) (at bt : List ℕ) → Inner f → Inner g
    → flat f ++ at ≡ flat g ++ bt → Join (f ++ (x ∷ r)) (g ++ (y ∷ s)) → Compared f g x y
compare [] [] x y r s at bt hf hg e j = inl (refl, beside x y j)
compare [] (n ∷ g) x y r s at bt hf hg e j =
    inr (inl (record { next = n; more = g; longer = refl; turn = beside x n j }))
compare (m ∷ f) [] x y r s at bt hf hg e j =
    inr (inr (record { next = m; more = f; longer = refl; turn = beside_back m y (beside m y j) }))
compare (m ∷ f) (n ∷ g) x y r s at bt hf hg e (inl t) = absurd (no_turn m n f g at bt hf hg t e)
compare (m ∷ f) (n ∷ g) x y r s at bt hf hg e (inr h) =
    with_mark m n f g x y h.0 (compare f g x y r s at bt (inner_tail m f hf) (inner_tail n g hg)
    (flat_rest n f g at bt (subst (λ (k : Mark). flat (k ∷ f) ++ at ≡ flat (n ∷ g) ++ bt) h.0 e)) h.1)

-- what bytes begin like, with the sizes kept
pub record Reached (bytes : List ℕ) : Type 0 where
  pub front : List Mark
  pub at : List ℕ
  pub parts : bytes ≡ flat front ++ at
  pub rooms : List ℕ
  pub kept : room [] front ≡ Some rooms
  pub next : Mark
  pub begins : Begins front next

abbrev pub reached : (bytes : List ℕ) (fault : WFault) → FirstFault bytes fault → Reached bytes
reached bytes fault s = record {
  front = s.front;
  at = s.at;
  parts = s.parts;
  rooms = s.rooms;
  kept = s.kept;
  next =
      s.next;
  begins = s.begins;
}

pub inner_of : (front : List Mark) (next : Mark) → Begins front next → Inner front
inner_of front next b = let e = layout_ended b.layout in
    inner_front e.front front next b.rest e.inner (sym e.whole ∙ b.marks)

pub compared : (bytes : List ℕ) (a b : Reached bytes) → Compared a.front b.front a.next b.next
compared bytes a b =
    let j : Join (layout_marks a.begins.layout) (layout_marks b.begins.layout) =
    layouts_join a.begins.layout b.begins.layout a.begins.fits b.begins.fits in
    let k : Join (a.front ++ (a.next ∷ a.begins.rest)) (layout_marks b.begins.layout) =
    subst (λ (t : List Mark). Join t (layout_marks b.begins.layout)) a.begins.marks j in
    let l : Join (a.front ++ (a.next ∷ a.begins.rest)) (b.front ++ (b.next ∷ b.begins.rest)) =
    subst (λ (t : List Mark). Join (a.front ++ (a.next ∷ a.begins.rest)) t) b.begins.marks k in
    compare a.front b.front a.next b.next a.begins.rest b.begins.rest a.at b.at (inner_of a.front a.next a.begins)
    (inner_of b.front b.next b.begins) (sym a.parts ∙ b.parts) l

-- ---- why a front decides

abbrev pub Reason : List Mark → Mark → List ℕ → List ℕ → WFault → Type 0
Reason front (Byte cell) rooms [] fault = (fault ≡ Malformed) × ¬ (Begins front Last)
Reason front (Byte cell) rooms (b ∷ more) fault = (fault ≡ fault_at cell.0) × CannotStand front b
Reason front (Opens size) rooms window fault = ⊥
Reason front Closes [] window fault = ⊥
Reason front Closes (zero ∷ rooms) window fault = ⊥
Reason front Closes (suc n ∷ rooms) window fault = fault ≡ Malformed
Reason front Last rooms [] fault = ⊥
Reason front Last rooms (b ∷ more) fault = (fault ≡ fault_at SectionNumber) × CannotStand front b

pub reason : (front : List Mark) (next : Mark) (rooms window : List ℕ) (fault : WFault)
    → Decides front next rooms window fault → Reason front next rooms window fault
reason front _ _ _ _ (NoByte cell rooms none) = (refl, none)
reason front _ _ _ _ (WrongByte place c b more rooms cannot) = (refl, cannot)
reason front _ _ _ _ (ByteBehind b more rooms cannot) = (refl, cannot)
reason front _ _ _ _ (BytesLeft n rooms bytes) = refl

byte_not_opens : (c : Cell) (n : ℕ) → ◌≡◌ {A = Mark} (Byte c) (Opens n) → ⊥
byte_not_opens c n e = cc

byte_not_closes : (c : Cell) → ◌≡◌ {A = Mark} (Byte c) Closes → ⊥
byte_not_closes c e = cc

byte_not_last : (c : Cell) → ◌≡◌ {A = Mark} (Byte c) Last → ⊥
byte_not_last c e = cc

opens_not_closes : (n : ℕ) → ◌≡◌ {A = Mark} (Opens n) Closes → ⊥
opens_not_closes n e = cc

opens_not_last : (n : ℕ) → ◌≡◌ {A = Mark} (Opens n) Last → ⊥
opens_not_last n e = cc

closes_not_last : ◌≡◌ {A = Mark} Closes Last → ⊥
closes_not_last e = cc

same_cell : (c d : Cell) → ◌≡◌ {A = Mark} (Byte c) (Byte d) → c ≡ d
same_cell c d e = cc

same_place : (c d : Cell) → Beside (Byte c) (Byte d) → c.0 ≡ d.0
same_place c d (inl t) = t.0
same_place c d (inr e) = ap (λ (k : Cell). k.0) (same_cell c d e)

last_place : (c : Cell) → Beside (Byte c) Last → c.0 ≡ SectionNumber
last_place c (inl t) = t
last_place c (inr e) = absurd (byte_not_last c e)

byte_closes : (c : Cell) → Beside (Byte c) Closes → ⊥
byte_closes c (inl t) = t
byte_closes c (inr e) = byte_not_closes c e

byte_opens : (c : Cell) (n : ℕ) → Beside (Byte c) (Opens n) → ⊥
byte_opens c n (inl t) = t
byte_opens c n (inr e) = byte_not_opens c n e

closes_opens : (n : ℕ) → Beside Closes (Opens n) → ⊥
closes_opens n (inl t) = t
closes_opens n (inr e) = opens_not_closes n (sym e)

pub closes_last : Beside Closes Last → ⊥
closes_last (inl t) = t
closes_last (inr e) = closes_not_last e

pub last_opens : (n : ℕ) → Beside Last (Opens n) → ⊥
last_opens n (inl t) = t
last_opens n (inr e) = opens_not_last n (sym e)

-- ---- fronts that are the same

same_fault : (fx fy : List Mark) (x y : Mark) (rooms w : List ℕ) (f g : WFault) → Reason fx x rooms w f
    → Reason fy y rooms w g → Beside x y → f ≡ g
same_fault fx fy (Byte c) (Byte d) rooms [] f g a b t = a.0 ∙ sym b.0
same_fault fx fy (Byte c) (Byte d) rooms (k ∷ w) f g a b t = a.0 ∙ ap fault_at (same_place c d t) ∙ sym b.0
same_fault fx fy (Byte c) (Opens n) rooms w f g a b t = absurd b
same_fault fx fy (Byte c) Closes rooms w f g a b t = absurd (byte_closes c t)
same_fault fx fy (Byte c) Last rooms [] f g a b t = absurd b
same_fault fx fy (Byte c) Last rooms (k ∷ w) f g a b t = a.0 ∙ ap fault_at (last_place c t) ∙ sym b.0
same_fault fx fy (Opens n) y rooms w f g a b t = absurd a
same_fault fx fy Closes (Byte d) rooms w f g a b t = absurd (byte_closes d (beside_back Closes (Byte d) t))
same_fault fx fy Closes (Opens n) rooms w f g a b t = absurd b
same_fault fx fy Closes Closes [] w f g a b t = absurd a
same_fault fx fy Closes Closes (zero ∷ rooms) w f g a b t = absurd a
same_fault fx fy Closes Closes (suc n ∷ rooms) w f g a b t = a ∙ sym b
same_fault fx fy Closes Last rooms w f g a b t = absurd (closes_last t)
same_fault fx fy Last (Byte d) rooms [] f g a b t = absurd a
same_fault fx fy Last (Byte d) rooms (k ∷ w) f g a b t = a.0
    ∙ sym (ap fault_at (last_place d (beside_back Last (Byte d) t))) ∙ sym b.0
same_fault fx fy Last (Opens n) rooms w f g a b t = absurd b
same_fault fx fy Last Closes rooms w f g a b t = absurd (closes_last (beside_back Last Closes t))
same_fault fx fy Last Last rooms [] f g a b t = absurd a
same_fault fx fy Last Last rooms (k ∷ w) f g a b t = a.0 ∙ sym b.0

-- ---- a front that goes on behind the other

abbrev Rooms : Type 0
Rooms = Option (List ℕ)

spent : (o : Rooms) (more : List Mark) (rb : List ℕ) → elim o [ Some left ↦ room left more | None ↦ None ] ≡ Some rb
    → (left : List ℕ) × (o ≡ Some left)
spent (Some left) more rb e = (left, refl)
spent None more rb e = absurd (no_room rb e)

spend_within : (rooms left : List ℕ) (b : ℕ) (bs : List ℕ) → spend rooms ≡ Some left
    → within rooms (b ∷ bs) ≡ b ∷ within left bs
spend_within [] left b bs e = ap (λ (t : List ℕ). b ∷ within t bs) (some_is [] left e)
spend_within (zero ∷ rooms) left b bs e = absurd (no_room left e)
spend_within (suc n ∷ rooms) left b bs e = inner (λ l g. spend_within rooms l b bs g) (spend rooms) refl e
  where
    inner : ((l : List ℕ) → spend rooms ≡ Some l → within rooms (b ∷ bs) ≡ b ∷ within l bs) → (o : Rooms)
        → spend rooms ≡ o → elim o [ Some l ↦ Some (n ∷ l) | None ↦ None ] ≡ Some left
        → take (suc n) (within rooms (b ∷ bs)) ≡ b ∷ within left bs
    inner one (Some l) g f = ap (take (suc n)) (one l g) ∙ ap (λ (t : List ℕ). b ∷ within t bs) (some_is (n ∷ l) left f)
    inner one None g f = absurd (no_room left f)

-- a byte that all sizes leave room for
room_for : (rooms : List ℕ) (d : Cell) (more : List Mark) (rb at bt w : List ℕ) → w ≡ within rooms at
    → room rooms (Byte d ∷ more) ≡ Some rb → at ≡ flat (Byte d ∷ more) ++ bt → (rest : List ℕ) × (w ≡ d.1 ∷ rest)
room_for rooms d more rb at bt w e h g =
    let s = spent (spend rooms) more rb h in
    (within s.0 (flat more ++ bt), e ∙ ap (within rooms) g ∙ spend_within rooms s.0 d.1 (flat more ++ bt) s.1)

cannot_go_on : (front : List Mark) (b : ℕ) (d : Cell) (x y : List ℕ) → CannotStand front b → b ∷ x ≡ d.1 ∷ y
    → Begins front (Byte d) → ⊥
cannot_go_on front b d x y cannot e begins =
    cannot d.0 (subst (λ (k : ℕ). Begins front (Byte (d.0, k))) (sym (first_byte b d.1 x y e)) begins)

goes_on : (front : List Mark) (x n : Mark) (rooms w : List ℕ) (fault : WFault) (more : List Mark) (rb at bt : List ℕ)
    → Reason front x rooms w fault → w ≡ within rooms at → room rooms (n ∷ more) ≡ Some rb → at ≡ flat (n ∷ more) ++ bt
    → Begins front n
    → Inner (n ∷ more) → Beside x n → ⊥
goes_on front (Byte c) (Byte d) rooms [] fault more rb at bt a e h g begins inner t = let s =
    room_for rooms d more rb at bt [] e h g in no_byte d.1 s.0 s.1
goes_on front (Byte c) (Byte d) rooms (b ∷ w) fault more rb at bt a e h g begins inner t = let s =
    room_for rooms d more rb at bt (b ∷ w) e h g in cannot_go_on front b d w s.0 a.1 s.1 begins
goes_on front (Byte c) (Opens n) rooms w fault more rb at bt a e h g begins inner t = byte_opens c n t
goes_on front (Byte c) Closes rooms w fault more rb at bt a e h g begins inner t = byte_closes c t
goes_on front (Byte c) Last rooms w fault more rb at bt a e h g begins inner t = inner
goes_on front (Opens k) n rooms w fault more rb at bt a e h g begins inner t = a
goes_on front Closes (Byte d) rooms w fault more rb at bt a e h g begins inner t =
    byte_closes d (beside_back Closes (Byte d) t)
goes_on front Closes (Opens n) rooms w fault more rb at bt a e h g begins inner t = closes_opens n t
goes_on front Closes Closes [] w fault more rb at bt a e h g begins inner t = a
goes_on front Closes Closes (zero ∷ rooms) w fault more rb at bt a e h g begins inner t = a
goes_on front Closes Closes (suc k ∷ rooms) w fault more rb at bt a e h g begins inner t = no_room rb h
goes_on front Closes Last rooms w fault more rb at bt a e h g begins inner t = inner
goes_on front Last (Byte d) rooms [] fault more rb at bt a e h g begins inner t = a
goes_on front Last (Byte d) rooms (b ∷ w) fault more rb at bt a e h g begins inner t = let s =
    room_for rooms d more rb at bt (b ∷ w) e h g in cannot_go_on front b d w s.0 a.1 s.1 begins
goes_on front Last (Opens n) rooms w fault more rb at bt a e h g begins inner t = last_opens n t
goes_on front Last Closes rooms w fault more rb at bt a e h g begins inner t = closes_last (beside_back Last Closes t)
goes_on front Last Last rooms w fault more rb at bt a e h g begins inner t = inner

pub inner_behind : (xs ys : List Mark) → Inner (xs ++ ys) → Inner ys
inner_behind [] ys h = h
inner_behind (x ∷ xs) ys h = inner_behind xs ys (inner_tail x (xs ++ ys) h)

pub longer_goes_on : (bytes : List ℕ) (a b : Reached bytes) (fault : WFault)
    → Reason a.front a.next a.rooms (within a.rooms a.at) fault → Shorter a.front b.front a.next → ⊥
longer_goes_on bytes a b fault r s =
    let kept : room a.rooms (s.next ∷ s.more) ≡ Some b.rooms =
    ap (λ (o : Rooms). then_room o (s.next ∷ s.more)) (sym a.kept) ∙ sym (room-append [] a.front (s.next ∷ s.more))
    ∙ ap (room []) (sym s.longer) ∙ b.kept in
    let text : flat a.front ++ a.at ≡ flat a.front ++ (flat (s.next ∷ s.more) ++ b.at) =
    sym a.parts ∙ b.parts ∙ ap (λ (t : List Mark). flat t ++ b.at) s.longer
    ∙ ap (λ (t : List ℕ). t ++ b.at) (flat-append a.front (s.next ∷ s.more))
    ∙ append_assoc (flat a.front) (flat (s.next ∷ s.more)) b.at in
    let begins : Begins a.front s.next =
    record {
      layout = b.begins.layout;
      fits = b.begins.fits;
      rest = s.more ++ (b.next ∷ b.begins.rest);
      marks = b.begins.marks ∙ ap (λ (t : List Mark). t ++ (b.next ∷ b.begins.rest)) s.longer
          ∙ append_assoc a.front (s.next ∷ s.more) (b.next ∷ b.begins.rest);
    } in
    goes_on a.front a.next s.next a.rooms (within a.rooms a.at) fault s.more b.rooms a.at b.at r refl kept
    (same_behind (flat a.front) a.at (flat (s.next ∷ s.more) ++ b.at) text) begins
    (inner_behind a.front (s.next ∷ s.more) (subst Inner s.longer (inner_of b.front b.next b.begins))) s.turn

-- ---- the law

abbrev ReasonOf : List Mark → Mark → WFault → List ℕ → List ℕ → Type 0
ReasonOf front next fault rooms at = Reason front next rooms (within rooms at) fault

pub same_rooms : (bytes : List ℕ) (a b : Reached bytes) → a.front ≡ b.front → b.rooms ≡ a.rooms
same_rooms bytes a b e = some_is b.rooms a.rooms (sym b.kept ∙ ap (room []) (sym e) ∙ a.kept)

pub same_rest : (bytes : List ℕ) (a b : Reached bytes) → a.front ≡ b.front → b.at ≡ a.at
same_rest bytes a b e = same_behind (flat a.front) b.at a.at
    (ap (λ (t : List Mark). flat t ++ b.at) e ∙ sym b.parts ∙ a.parts)

two_reached : (bytes : List ℕ) (a b : Reached bytes) (f g : WFault)
    → Reason a.front a.next a.rooms (within a.rooms a.at) f → Reason b.front b.next b.rooms (within b.rooms b.at) g
    → Compared a.front b.front a.next b.next → f ≡ g
two_reached bytes a b f g r s (inl h) =
    same_fault a.front b.front a.next b.next a.rooms (within a.rooms a.at) f g r
    (subst (λ (t : List ℕ). ReasonOf b.front b.next g a.rooms t) (same_rest bytes a b h.0)
    (subst (λ (t : List ℕ). ReasonOf b.front b.next g t b.at) (same_rooms bytes a b h.0) s)) h.1
two_reached bytes a b f g r s (inr (inl k)) = absurd (longer_goes_on bytes a b f r k)
two_reached bytes a b f g r s (inr (inr k)) = absurd (longer_goes_on bytes b a g s k)

pub reason_of : (bytes : List ℕ) (fault : WFault) (s : FirstFault bytes fault)
    → Reason s.front s.next s.rooms (within s.rooms s.at) fault
reason_of bytes fault s = reason s.front s.next s.rooms (within s.rooms s.at) fault s.decides

pub one_fault : OneFault
one_fault bytes one other s t =
    let a = reached bytes one s in
    let b = reached bytes other t in
    two_reached bytes a b one other (reason_of bytes one s) (reason_of bytes other t) (compared bytes a b)
