-- Where a reading stops, for formats that are put together.
use Rattle.std.proofs.Common.{◌≡◌, ℕ, true, List, [], ◌∷◌, ◌++◌, Ok, Err, refl, sym, ap, subst, ◌∙◌, append_assoc}
use Rattle.wasm_tree.specs.declared.fault.WFault.{WFault}
use Rattle.wasm_tree.specs.declared.fault.WFault.TheVariants.{Malformed}
use Rattle.wasm_tree.specs.Format.{Format, Reading}
use Rattle.wasm_code.proofs.Laws.{IsBytes, IsBytes-after, Law}
use Rattle.law_format.specs.Places.{Place, fault_at, Cell, bytes_of, all_at}

-- ---- lists of cells

pub bytes-append : (xs ys : List Cell) → bytes_of (xs ++ ys) ≡ bytes_of xs ++ bytes_of ys
bytes-append [] ys = refl
bytes-append (x ∷ xs) ys = ap (λ (r : List ℕ). x.1 ∷ r) (bytes-append xs ys)

pub bytes-all : (place : Place) (bytes : List ℕ) → bytes_of (all_at place bytes) ≡ bytes
bytes-all place [] = refl
bytes-all place (b ∷ bytes) = ap (λ (r : List ℕ). b ∷ r) (bytes-all place bytes)

pub all-append : (place : Place) (xs ys : List ℕ) → all_at place (xs ++ ys) ≡ all_at place xs ++ all_at place ys
all-append place [] ys = refl
all-append place (x ∷ xs) ys = ap (λ (r : List Cell). (place, x) ∷ r) (all-append place xs ys)

-- ---- stops

-- What decides, behind what was read: bytes are missing, or the next one cannot stand there,
-- whatever follows.
abbrev pub How : {A : Type 0} → (List ℕ → Reading A) → List ℕ → Place → List ℕ → WFault → Type 0
How r front place [] fault = fault ≡ Malformed
How r front place (b ∷ more) fault = (fault ≡ fault_at place)
    × ((follow : List ℕ) → IsBytes (front ++ (b ∷ follow)) → r (front ++ (b ∷ follow)) ≡ Err fault)

pub record Stop {A : Type 0} (p : Format A) (cells : A → List Cell) (bytes : List ℕ) (fault : WFault) : Type 0 where
  pub front : List Cell
  pub at : List ℕ
  pub parts : bytes ≡ bytes_of front ++ at
  pub value : A
  pub fits : p.fits value ≡ true
  pub next : Cell
  pub rest : List Cell
  pub begins : cells value ≡ front ++ (next ∷ rest)
  pub how : How p.reading (bytes_of front) next.0 at fault

pub stop_at : {A : Type 0} (p : Format A) (cells : A → List Cell) (bytes same : List ℕ) (fault : WFault) → bytes ≡ same
    → Stop p cells same fault → Stop p cells bytes fault
stop_at p cells bytes same fault e s = subst (λ (b : List ℕ). Stop p cells b fault) (sym e) s

-- what a reading took from the front, whatever follows
pub record Front {A : Type 0} (p : Format A) (cells : A → List Cell) (bytes : List ℕ) (x : A) (rest : List ℕ) : Type 0
  where
    pub parts : bytes ≡ bytes_of (cells x) ++ rest
    pub rest_fits : IsBytes rest
    pub fits : p.fits x ≡ true
    pub again : (follow : List ℕ) → IsBytes follow → p.reading (bytes_of (cells x) ++ follow) ≡ Ok (x, follow)

pub front_at : {A : Type 0} (p : Format A) (cells : A → List Cell) (bytes : List ℕ) (x y : A) (b c : List ℕ) → (x ≡ y)
    × (b ≡ c) → Front p cells bytes x b → Front p cells bytes y c
front_at p cells bytes x y b c is t = subst (λ z. Front p cells bytes z c) is.0
    (subst (λ r. Front p cells bytes x r) is.1 t)

abbrev pub Takes : {A : Type 0} → Format A → (A → List Cell) → Type 0
Takes {A} p cells = (bytes : List ℕ) (x : A) (rest : List ℕ) → IsBytes bytes → p.reading bytes ≡ Ok (x, rest)
    → Front p cells bytes x rest

abbrev pub Stops : {A : Type 0} → Format A → (A → List Cell) → Type 0
Stops p cells = (bytes : List ℕ) (fault : WFault) → IsBytes bytes → p.reading bytes ≡ Err fault
    → Stop p cells bytes fault

pub record Stopping {A : Type 0} (p : Format A) (cells : A → List Cell) : Type 0 where
  pub takes : Takes p cells
  pub stops : Stops p cells
  pub some : A
  pub some_fits : p.fits some ≡ true

pub takes_from : {A : Type 0} (p : Format A) (cells : A → List Cell) → Law p
    → ((x : A) → bytes_of (cells x) ≡ p.encoding x) → Takes p cells
takes_from p cells law spelled bytes x rest fits e =
    let t = law.takes bytes x rest fits e in
    record {
      parts = t.parts ∙ ap (λ (b : List ℕ). b ++ rest) (sym (spelled x));
      rest_fits = t.rest_fits;
      fits = t.fits;
      again = λ follow g. ap (λ (b : List ℕ). p.reading (b ++ follow)) (spelled x) ∙ law.again x follow t.fits;
    }

IsBytes-behind : (xs ys : List ℕ) → IsBytes (xs ++ ys) → IsBytes ys
IsBytes-behind xs ys h = IsBytes-after (xs ++ ys) xs ys refl h

regroup : (pre front : List Cell) (next : Cell) (rest post : List Cell)
    → pre ++ ((front ++ (next ∷ rest)) ++ post) ≡ (pre ++ front) ++ (next ∷ (rest ++ post))
regroup pre front next rest post = simp append_assoc

-- a stop of a part is one of the whole
module _ {A B : Type 0} (p : Format A) (cells : A → List Cell) (q : Format B) (whole : B → List Cell) (pre : List Cell)
    (make : A → B) (post : A → List Cell)
    (made : (x : A) → p.fits x ≡ true → whole (make x) ≡ pre ++ (cells x ++ post x))
    (fit : (x : A) → p.fits x ≡ true → q.fits (make x) ≡ true)
    (reads : (bs : List ℕ) (f : WFault) → IsBytes bs → p.reading bs ≡ Err f → q.reading (bytes_of pre ++ bs) ≡ Err f)
  where
    how_into : (front : List Cell) (place : Place) (at : List ℕ) (fault : WFault)
        → How p.reading (bytes_of front) place at fault → How q.reading (bytes_of (pre ++ front)) place at fault
    how_into front place [] fault h = h
    how_into front place (b ∷ more) fault h = (
      h.0,
      λ follow fits.
          let same : bytes_of (pre ++ front) ++ (b ∷ follow) ≡ bytes_of pre ++ (bytes_of front ++ (b ∷ follow)) =
          ap (λ (r : List ℕ). r ++ (b ∷ follow)) (bytes-append pre front)
          ∙ append_assoc (bytes_of pre) (bytes_of front) (b ∷ follow) in
          let inner : IsBytes (bytes_of front ++ (b ∷ follow)) =
          IsBytes-behind (bytes_of pre) (bytes_of front ++ (b ∷ follow)) (subst IsBytes same fits) in
          ap q.reading same ∙ reads (bytes_of front ++ (b ∷ follow)) fault inner (h.1 follow inner),
    )

    pub into : (bytes : List ℕ) (fault : WFault) → Stop p cells bytes fault → Stop q whole (bytes_of pre ++ bytes) fault
    into bytes fault s = record {
      front = pre ++ s.front;
      at = s.at;
      parts = ap (λ (r : List ℕ). bytes_of pre ++ r) s.parts ∙ sym (append_assoc (bytes_of pre) (bytes_of s.front) s.at)
          ∙ ap (λ (r : List ℕ). r ++ s.at) (sym (bytes-append pre s.front));
      value = make s.value;
      fits = fit s.value s.fits;
      next = s.next;
      rest = s.rest ++ post s.value;
      begins = made s.value s.fits ∙ ap (λ (r : List Cell). pre ++ (r ++ post s.value)) s.begins
          ∙ regroup pre s.front s.next s.rest (post s.value);
      how = how_into s.front s.next.0 s.at fault s.how;
    }
