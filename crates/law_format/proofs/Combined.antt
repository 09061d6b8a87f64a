-- Where readings of formats stop that are put together.
use Rattle.std.proofs.Common.{◌≡◌, ℕ, zero, suc, true, eqb, ◌&&◌, List, [], ◌∷◌, ◌++◌, length, Result, Ok, Err, refl, sym, ap, subst, ◌∙◌, append_assoc, append-nil, inl, inr}
use Rattle.std.specs.List.{flat_map, list_all}
use Rattle.std.proofs.lemmas.Bool.{eqb-true, eq-eqb, and_parts, and_from, cases_Bool}
use Rattle.wasm_tree.specs.declared.fault.WFault.{WFault}
use Rattle.wasm_tree.specs.declared.fault.WFault.TheVariants.{Malformed}
use Rattle.wasm_tree.specs.Format.{Format, Reading, ◌>>=◌, skip}
use Rattle.wasm_code.specs.Parts.{◌▸◌, ◌◂◌, ◌·◌, as_value, many}
use Rattle.wasm_code.proofs.Laws.{IsBytes, IsBytes-tail, IsBytes-after, Law, bind_ok, read_is}
use Rattle.wasm_code.proofs.LawsParts.{skip_ok, skip_same}
use Rattle.law_format.specs.Places.{OtherByte, Cell, bytes_of}
use Rattle.law_format.proofs.Stops.{bytes-append, Stop, stop_at, Front, front_at, Takes, Stops, Stopping, takes_from, into}

abbrev pub failed : {A : Type 0} → WFault → Result A WFault
failed f = Err f

pub err_is : {A : Type 0} (f g : WFault) → failed {A = A} f ≡ failed {A = A} g → f ≡ g
err_is f g e = cc

pub ok_no_err : {A : Type 0} (x : A) (f : WFault) → ◌≡◌ {A = Result A WFault} (Ok x) (Err f) → ⊥
ok_no_err x f e = cc

-- a step behind which nothing fails
pub bind_err : {A B : Type 0} (r : Result A WFault) (f : A → B) (g : WFault) → (r >>= λ x. Ok (f x)) ≡ Err g → r ≡ Err g
bind_err {A} {B} (Ok x) f g e = absurd (ok_no_err {A = B} (f x) g e)
bind_err {A} {B} (Err d) f g e = ap (λ (h : WFault). failed {A = A} h) (err_is {A = B} d g e)

pub IsBytes-joined : (front old new : List ℕ) → IsBytes (front ++ old) → IsBytes new → IsBytes (front ++ new)
IsBytes-joined [] old new h g i = g i
IsBytes-joined (b ∷ front) old new h g zero = h 0
IsBytes-joined (b ∷ front) old new h g (suc i) = IsBytes-joined front old new (IsBytes-tail b (front ++ old) h) g i

-- ---- one part, and then another that it decides

module _ {A B C : Type 0} (p : Format A) (cp : A → List Cell) (sp : Stopping p cp) (q : A → Format B)
    (cq : A → B → List Cell) (r : Format C) (cr : C → List Cell) (make : A → B → C)
    (made : (x : A) (y : B) → p.fits x ≡ true → (q x).fits y ≡ true → cr (make x y) ≡ cp x ++ cq x y)
    (fit : (x : A) (y : B) → p.fits x ≡ true → (q x).fits y ≡ true → r.fits (make x y) ≡ true)
    (reads : (bs : List ℕ) → IsBytes bs → r.reading bs
    ≡ (p.reading bs >>= λ x. (q x.0).reading x.1 >>= λ y. Ok (make x.0 y.0, y.1))) where
  abbrev then_next : A × List ℕ → Reading C
  then_next x = (q x.0).reading x.1 >>= λ y. Ok (make x.0 y.0, y.1)

  both_front : (bytes : List ℕ) → IsBytes bytes → (x : A) (mid : List ℕ) (y : B) (rest : List ℕ)
      → Front p cp bytes x mid → Front (q x) (cq x) mid y rest → Front r cr bytes (make x y) rest
  both_front bytes known x mid y rest f g =
      let cells : bytes_of (cr (make x y)) ≡ bytes_of (cp x) ++ bytes_of (cq x y) = ap bytes_of (made x y f.fits g.fits)
      ∙ bytes-append (cp x) (cq x y) in
      let split : (t : List ℕ) → bytes_of (cr (make x y)) ++ t ≡ bytes_of (cp x) ++ (bytes_of (cq x y) ++ t) =
      λ t. ap (λ (b : List ℕ). b ++ t) cells ∙ append_assoc (bytes_of (cp x)) (bytes_of (cq x y)) t in
      record {
        parts = f.parts ∙ ap (λ (t : List ℕ). bytes_of (cp x) ++ t) g.parts ∙ sym (split rest);
        rest_fits = g.rest_fits;
        fits = fit x y f.fits g.fits;
        again = λ follow h.
            let inner : IsBytes (bytes_of (cq x y) ++ follow) =
            IsBytes-joined (bytes_of (cq x y)) rest follow (subst IsBytes g.parts f.rest_fits) h in
            let all' : IsBytes (bytes_of (cp x) ++ (bytes_of (cq x y) ++ follow)) =
            IsBytes-joined (bytes_of (cp x)) mid (bytes_of (cq x y) ++ follow) (subst IsBytes f.parts known) inner
            in
            ap r.reading (split follow) ∙ reads (bytes_of (cp x) ++ (bytes_of (cq x y) ++ follow)) all'
            ∙ ap (λ (t : Reading A). t >>= then_next) (f.again (bytes_of (cq x y) ++ follow) inner)
            ∙ ap (λ (t : Reading B). t >>= λ z. Ok (make x z.0, z.1)) (g.again follow h);
      }

  abbrev TakesAt : List ℕ → A → List ℕ → Type 0
  TakesAt bytes x mid = (y : B) (rest : List ℕ) → (q x).reading mid ≡ Ok (y, rest) → Front (q x) (cq x) mid y rest

  pub bound_takes_at : (bytes : List ℕ) (z : C) (rest : List ℕ) → IsBytes bytes → r.reading bytes ≡ Ok (z, rest)
      → ((x : A) (mid : List ℕ) → p.reading bytes ≡ Ok (x, mid) → Front p cp bytes x mid → TakesAt bytes x mid)
      → Front r cr bytes z rest
  bound_takes_at bytes z rest fits e takes =
      let a = bind_ok (p.reading bytes) then_next (z, rest) (sym (reads bytes fits) ∙ e) in
      let b = bind_ok ((q a.0.0).reading a.0.1) (λ y. Ok (make a.0.0 y.0, y.1)) (z, rest) a.2 in
      let f = sp.takes bytes a.0.0 a.0.1 fits a.1 in
      let g = takes a.0.0 a.0.1 a.1 f b.0.0 b.0.1 b.1 in
      front_at r cr bytes (make a.0.0 b.0.0) z b.0.1 rest (read_is (make a.0.0 b.0.0) z b.0.1 rest b.2)
      (both_front bytes fits a.0.0 a.0.1 b.0.0 b.0.1 f g)

  pub bound_takes : ((x : A) → p.fits x ≡ true → Takes (q x) (cq x)) → Takes r cr
  bound_takes takes bytes z rest fits e =
      bound_takes_at bytes z rest fits e (λ x mid h f y rest g. takes x f.fits mid y rest f.rest_fits g)

  module _ (some : A → B) (some_fits : (x : A) → p.fits x ≡ true → (q x).fits (some x) ≡ true) where
    first_fails : (bs : List ℕ) (f : WFault) → IsBytes bs → p.reading bs ≡ Err f → r.reading bs ≡ Err f
    first_fails bs f g e = reads bs g ∙ ap (λ (t : Reading A). t >>= then_next) e

    second_fails : (bytes : List ℕ) → IsBytes bytes → (x : A) (mid : List ℕ) → Front p cp bytes x mid
        → (bs : List ℕ) (f : WFault) → IsBytes bs → (q x).reading bs ≡ Err f → r.reading (bytes_of (cp x) ++ bs) ≡ Err f
    second_fails bytes known x mid t bs f h e =
        reads (bytes_of (cp x) ++ bs) (IsBytes-joined (bytes_of (cp x)) mid bs (subst IsBytes t.parts known) h)
        ∙ ap (λ (t : Reading A). t >>= then_next) (t.again bs h)
        ∙ ap (λ (t : Reading B). t >>= λ y. Ok (make x y.0, y.1)) e

    in_first : (bytes : List ℕ) (fault : WFault) → IsBytes bytes → p.reading bytes ≡ Err fault → Stop r cr bytes fault
    in_first bytes fault fits e =
        into p cp r cr [] (λ x. make x (some x)) (λ x. cq x (some x)) (λ x h. made x (some x) h (some_fits x h))
        (λ x h. fit x (some x) h (some_fits x h)) first_fails bytes fault (sp.stops bytes fault fits e)

    in_second : (bytes : List ℕ) → IsBytes bytes → (x : A) (mid : List ℕ) (fault : WFault) → Front p cp bytes x mid
        → Stop (q x) (cq x) mid fault → Stop r cr bytes fault
    in_second bytes known x mid fault t s =
        stop_at r cr bytes (bytes_of (cp x) ++ mid) fault t.parts
        (into (q x) (cq x) r cr (cp x) (make x) (λ y. [])
        (λ y g. made x y t.fits g ∙ ap (λ (t : List Cell). cp x ++ t) (sym (append-nil (cq x y))))
        (λ y g. fit x y t.fits g)
        (second_fails bytes known x mid t) mid fault s)

    module _ (bytes : List ℕ) (fault : WFault) (fits : IsBytes bytes)
        (stops : (x : A) (mid : List ℕ) → p.reading bytes ≡ Ok (x, mid) → Front p cp bytes x mid
        → (q x).reading mid ≡ Err fault → Stop (q x) (cq x) mid fault) where
      either : (t : Reading A) → p.reading bytes ≡ t → (t >>= then_next) ≡ Err fault → Stop r cr bytes fault
      either (Err f) e h = in_first bytes fault fits
          (e ∙ ap (λ (g : WFault). failed {A = A × List ℕ} g) (err_is {A = C × List ℕ} f fault h))
      either (Ok x) e h =
          let g : (q x.0).reading x.1 ≡ Err fault = bind_err ((q x.0).reading x.1) (λ y. (make x.0 y.0, y.1)) fault h in
          let f = sp.takes bytes x.0 x.1 fits e in
          in_second bytes fits x.0 x.1 fault f (stops x.0 x.1 e f g)

      pub bound_stops_at : r.reading bytes ≡ Err fault → Stop r cr bytes fault
      bound_stops_at e = either (p.reading bytes) refl (sym (reads bytes fits) ∙ e)

    pub bound_stops : ((x : A) → p.fits x ≡ true → Stops (q x) (cq x)) → Stops r cr
    bound_stops stops bytes fault fits e =
        bound_stops_at bytes fault fits (λ x mid h f g. stops x f.fits mid fault f.rest_fits g) e

-- ---- the same bytes, seen as another value, or read in the same way

module _ {A B : Type 0} (p : Format A) (cp : A → List Cell) (sp : Stopping p cp) (r : Format B) (cr : B → List Cell)
    (make : A → B)
    (made : (x : A) → p.fits x ≡ true → cr (make x) ≡ cp x) (fit : (x : A) → p.fits x ≡ true → r.fits (make x) ≡ true)
    (reads : (bs : List ℕ) → r.reading bs ≡ (p.reading bs >>= λ x. Ok (make x.0, x.1))) where
  abbrev as_made : Reading A → Reading B
  as_made t = t >>= λ x. Ok (make x.0, x.1)

  seen_stop : Stops r cr
  seen_stop bytes fault fits e =
      into p cp r cr [] make (λ x. []) (λ x h. made x h ∙ sym (append-nil (cp x))) fit
      (λ bs f b h. reads bs ∙ ap as_made h) bytes fault
      (sp.stops bytes fault fits (bind_err (p.reading bytes) (λ x. (make x.0, x.1)) fault (sym (reads bytes) ∙ e)))

  seen_takes : Takes r cr
  seen_takes bytes z rest fits e =
      let a = bind_ok (p.reading bytes) (λ x. Ok (make x.0, x.1)) (z, rest) (sym (reads bytes) ∙ e) in
      let f = sp.takes bytes a.0.0 a.0.1 fits a.1 in
      let same : bytes_of (cp a.0.0) ≡ bytes_of (cr (make a.0.0)) = ap bytes_of (sym (made a.0.0 f.fits)) in
      front_at r cr bytes (make a.0.0) z a.0.1 rest (read_is (make a.0.0) z a.0.1 rest a.2) (record {
        parts = f.parts ∙ ap (λ (t : List ℕ). t ++ a.0.1) same;
        rest_fits = f.rest_fits;
        fits = fit a.0.0 f.fits;
        again = λ follow h. ap (λ (t : List ℕ). r.reading (t ++ follow)) (sym same)
            ∙ reads (bytes_of (cp a.0.0) ++ follow) ∙ ap as_made (f.again follow h);
      })

  pub seen : Stopping r cr
  seen = record { takes = seen_takes; stops = seen_stop; some = make sp.some; some_fits = fit sp.some sp.some_fits }

-- ---- two parts

module _ {A B : Type 0} (p : Format A) (q : Format B) (cp : A → List Cell) (cq : B → List Cell) (sp : Stopping p cp)
    (sq : Stopping q cq) where
  abbrev both : A × B → List Cell
  both x = cp x.0 ++ cq x.1

  pub then_stops : Stopping (p · q) (λ x. cp x.0 ++ cq x.1)
  then_stops = record {
    takes = bound_takes p cp sp (λ x. q) (λ x. cq) (p · q) both (λ x y. (x, y)) (λ x y h g. refl)
        (λ x y h g. and_from _ _ h g) (λ bs g. refl) (λ x h. sq.takes);
    stops = bound_stops p cp sp (λ x. q) (λ x. cq) (p · q) both (λ x y. (x, y)) (λ x y h g. refl)
        (λ x y h g. and_from _ _ h g) (λ bs g. refl) (λ x. sq.some) (λ x h. sq.some_fits) (λ x h. sq.stops);
    some = (sp.some, sq.some);
    some_fits = and_from _ _ sp.some_fits sq.some_fits;
  }

module _ {A B : Type 0} (make : A → B) (part : B → A) (p : Format A) (parted : (x : A) → part (make x) ≡ x)
    (cp : A → List Cell) (sp : Stopping p cp) where
  pub value_stops : Stopping (as_value make part p) (λ y. cp (part y))
  value_stops = seen p cp sp (as_value make part p) (λ y. cp (part y)) make (λ x h. ap cp (parted x))
      (λ x h. ap p.fits (parted x) ∙ h) (λ bs. refl)

-- ---- a byte that has to stand there

abbrev pub only : ℕ → Format (Unit {0})
only byte = record { encoding = λ u. byte ∷ []; reading = skip byte; fits = λ u. true }

abbrev only_cells : ℕ → Unit {0} → List Cell
only_cells byte u = (OtherByte, byte) ∷ []

only_stops_at : (byte : ℕ) (bytes : List ℕ) (fault : WFault) → skip byte bytes ≡ Err fault
    → Stop (only byte) (only_cells byte) bytes fault
only_stops_at byte [] fault e = record {
  front = [];
  at = [];
  parts = refl;
  value = tt;
  fits = refl;
  next =
      (OtherByte, byte);
  rest = [];
  begins = refl;
  how = sym (err_is Malformed fault e);
}
only_stops_at byte (b ∷ bytes) fault e = elim (cases_Bool (eqb b byte)) [
  | inl same ↦ absurd (ok_no_err (tt, bytes) fault (rw same at e))
  | inr other ↦
      let is : Malformed ≡ fault = err_is Malformed fault (rw other at e) in
      record {
        front = [];
        at = b ∷ bytes;
        parts = refl;
        value = tt;
        fits = refl;
        next = (OtherByte, byte);
        rest = [];
        begins = refl;
        how = (
          sym is,
          λ follow fits. rw other
              (ap (λ (f : WFault). failed {A = Unit {0} × List ℕ} f) is),
        );
      }
]

only_law : (byte : ℕ) → Law (only byte)
only_law byte = record {
  takes = λ bytes x rest fits e.
      let s = skip_ok byte bytes (x, rest) e in
      record { parts = s; rest_fits = IsBytes-after bytes (byte ∷ []) rest s fits; fits = refl };
  again = λ x rest fits. skip_same byte rest;
}

pub only_stops : (byte : ℕ) → Stopping (only byte) (λ u. (OtherByte, byte) ∷ [])
only_stops byte = record {
  takes = takes_from (only byte) (only_cells byte) (only_law byte) (λ u. refl);
  stops =
      λ bytes fault fits e. only_stops_at byte bytes fault e;
  some = tt;
  some_fits = refl;
}

pub bind_same : {A : Type 0} (r : Reading A) → r ≡ (r >>= λ x. Ok (x.0, x.1))
bind_same (Ok x) = refl
bind_same (Err f) = refl

skip_then : {A : Type 0} (p : Format A) (r : Reading (Unit {0}))
    → (r >>= λ s. p.reading s.1) ≡ (r >>= λ s. p.reading s.1 >>= λ y. Ok (y.0, y.1))
skip_then p (Ok s) = bind_same (p.reading s.1)
skip_then p (Err f) = refl

module _ {A : Type 0} (byte : ℕ) (p : Format A) (cp : A → List Cell) (sp : Stopping p cp) where
  abbrev before_cells : A → List Cell
  before_cells x = (OtherByte, byte) ∷ cp x

  abbrev behind_cells : A → List Cell
  behind_cells x = cp x ++ (OtherByte, byte) ∷ []

  pub before_stops : Stopping (byte ▸ p) (λ x. (OtherByte, byte) ∷ cp x)
  before_stops = record {
    takes = bound_takes (only byte) (only_cells byte) (only_stops byte) (λ u. p) (λ u. cp) (byte ▸ p) before_cells
        (λ u y. y) (λ u y h g. refl) (λ u y h g. g) (λ bs g. skip_then p (skip byte bs)) (λ u h. sp.takes);
    stops = bound_stops (only byte) (only_cells byte) (only_stops byte) (λ u. p) (λ u. cp) (byte ▸ p) before_cells
        (λ u y. y) (λ u y h g. refl) (λ u y h g. g) (λ bs g. skip_then p (skip byte bs)) (λ u. sp.some)
        (λ u h. sp.some_fits) (λ u h. sp.stops);
    some = sp.some;
    some_fits = sp.some_fits;
  }

  pub behind_stops : Stopping (p ◂ byte) (λ x. cp x ++ (OtherByte, byte) ∷ [])
  behind_stops = record {
    takes = bound_takes p cp sp (λ x. only byte) (λ x. only_cells byte) (p ◂ byte) behind_cells (λ x u. x)
        (λ x u h g. refl) (λ x u h g. h) (λ bs g. refl) (λ x h. (only_stops byte).takes);
    stops = bound_stops p cp sp (λ x. only byte) (λ x. only_cells byte) (p ◂ byte) behind_cells (λ x u. x)
        (λ x u h g. refl) (λ x u h g. h) (λ bs g. refl) (λ x. tt) (λ x h. refl) (λ x h. (only_stops byte).stops);
    some = sp.some;
    some_fits = sp.some_fits;
  }

-- ---- so many of a kind

abbrev pub many_of : {A : Type 0} → Format A → ℕ → Format (List A)
many_of p count = record {
  encoding = flat_map p.encoding;
  reading = many p count;
  fits =
      λ xs. eqb (length xs) count && list_all p.fits xs;
}

module _ {A : Type 0} (p : Format A) (cp : A → List Cell) (sp : Stopping p cp) where
  pub copies : ℕ → List A
  copies zero = []
  copies (suc n) = sp.some ∷ copies n

  pub copies_fit : (count : ℕ) → (many_of p count).fits (copies count) ≡ true
  unfolding copies
  copies_fit zero = refl
  copies_fit (suc n) =
      let f = and_parts (eqb (length (copies n)) n) (list_all p.fits (copies n)) (copies_fit n) in
      and_from _ _ (eq-eqb (suc (length (copies n))) (suc n) (ap suc (eqb-true _ _ f.0)))
      (and_from _ _ sp.some_fits f.1)

  fit_more : (count : ℕ) (x : A) (xs : List A) → p.fits x ≡ true → (many_of p count).fits xs ≡ true
      → (many_of p (suc count)).fits (x ∷ xs) ≡ true
  fit_more count x xs h g =
      let f = and_parts (eqb (length xs) count) (list_all p.fits xs) g in
      and_from _ _ (eq-eqb (suc (length xs)) (suc count) (ap suc (eqb-true _ _ f.0))) (and_from _ _ h f.1)

  pub many_takes : (count : ℕ) → Takes (many_of p count) (flat_map cp)
  unfolding many
  many_takes zero bytes xs rest fits e =
      front_at (many_of p 0) (flat_map cp) bytes [] xs bytes rest (read_is [] xs bytes rest e)
      (record { parts = refl; rest_fits = fits; fits = refl; again = λ follow h. refl })
  many_takes (suc count) bytes xs rest fits e =
      bound_takes p cp sp (λ x. many_of p count) (λ x. flat_map cp) (many_of p (suc count)) (flat_map cp)
      (λ x xs. x ∷ xs) (λ x xs h g. refl) (λ x xs h g. fit_more count x xs h g) (λ bs g. refl)
      (λ x h. many_takes count) bytes xs rest fits e

  pub many_stop : (count : ℕ) → Stops (many_of p count) (flat_map cp)
  unfolding many
  many_stop zero bytes fault fits e = absurd (ok_no_err ([], bytes) fault e)
  many_stop (suc count) bytes fault fits e =
      bound_stops p cp sp (λ x. many_of p count) (λ x. flat_map cp) (many_of p (suc count)) (flat_map cp)
      (λ x xs. x ∷ xs) (λ x xs h g. refl) (λ x xs h g. fit_more count x xs h g) (λ bs g. refl)
      (λ x. copies count) (λ x h. copies_fit count) (λ x h. many_stop count) bytes fault fits e
