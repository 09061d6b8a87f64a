-- Two encodings of a format: where they differ first, a byte differs, and in the same place.
use Rattle.std.proofs.Common.{◌≡◌, ◌⊎◌, ℕ, ◌^◌, true, ltb, List, [], ◌∷◌, ◌++◌, length, refl, sym, ap, ◌∙◌, append-nil, arith, inl, inr}
use Rattle.std.specs.List.{flat_map, list_all}
use Rattle.std.proofs.lemmas.Bool.{cases_lt, and_parts}
use Rattle.wasm_tree.specs.Format.{Format}
use Rattle.wasm_code.specs.Number.{unsigned}
use Rattle.wasm_code.specs.Parts.{◌·◌, as_value, vector, entries}
use Rattle.wasm_code.proofs.Laws.{Law, read_is}
use Rattle.wasm_code.proofs.LawsNumber.{unsigned_law}
use Rattle.law_format.specs.Places.{Place, OtherByte, Cell, all_at, others, plain, vector_cells}

-- ---- lists of bytes

-- these lists are the same up to a byte that differs, or they are the same
abbrev pub Bytes : List ℕ → List ℕ → Type 0
Bytes [] [] = Unit {0}
Bytes [] (y ∷ ys) = ⊥
Bytes (x ∷ xs) [] = ⊥
Bytes (x ∷ xs) (y ∷ ys) = (x ≡ y → ⊥) ⊎ ((x ≡ y) × Bytes xs ys)

pub same_number : (a b : ℕ) → (a ≡ b) ⊎ (a ≡ b → ⊥)
same_number a b = elim (cases_lt a b) [
  | inl lt ↦ inr (λ e. omega arith)
  | inr le ↦
      elim (cases_lt b a) [
        | inl gt ↦ inr (λ e. omega arith)
        | inr ge ↦ inl (omega arith)
      ]
]

abbrev put : ℕ → List ℕ → List ℕ
put a t = a ∷ t

pub no_prefix : (xs ys : List ℕ) → ((c : ℕ) (r : List ℕ) → ys ≡ xs ++ (c ∷ r) → ⊥)
    → ((c : ℕ) (r : List ℕ) → xs ≡ ys ++ (c ∷ r) → ⊥) → Bytes xs ys
no_prefix [] [] h g = tt
no_prefix [] (y ∷ ys) h g = absurd (h y ys refl)
no_prefix (x ∷ xs) [] h g = absurd (g x xs refl)
no_prefix (x ∷ xs) (y ∷ ys) h g = elim (same_number x y) [
  | inl e ↦ inr (
    e,
    no_prefix xs ys (λ c r f. h c r (ap (λ (a : ℕ). put a ys) (sym e) ∙ ap (put x) f))
        (λ c r f. g c r (ap (λ (a : ℕ). put a xs) e ∙ ap (put y) f)),
  )
  | inr ne ↦ inl ne
]

no_cons : (c : ℕ) (r : List ℕ) → ◌≡◌ {A = List ℕ} [] (c ∷ r) → ⊥
no_cons c r e = cc

-- what a law says of two encodings
pub two_encodings : {A : Type 0} (p : Format A) → Law p → (x y : A) → p.fits x ≡ true → p.fits y ≡ true
    → Bytes (p.encoding x) (p.encoding y)
two_encodings {A} p law x y h g = no_prefix (p.encoding x) (p.encoding y) (longer x y h g) (longer y x g h)
  where
    longer : (x y : A) → p.fits x ≡ true → p.fits y ≡ true → (c : ℕ) (r : List ℕ)
        → p.encoding y ≡ p.encoding x ++ (c ∷ r) → ⊥
    longer x y h g c r e =
        let one = law.again x (c ∷ r) h in
        let two = law.again y [] g in
        no_cons c r (read_is y x [] (c ∷ r) (sym two ∙ ap p.reading (append-nil (p.encoding y) ∙ e) ∙ one)).1

pub same_unsigned : (m n : ℕ) → unsigned.fits m ≡ true → unsigned.fits n ≡ true
    → unsigned.encoding m ≡ unsigned.encoding n → m ≡ n
same_unsigned m n h g e = (read_is m n [] []
    (sym (unsigned_law.again m [] h) ∙ ap (λ (t : List ℕ). unsigned.reading (t ++ [])) e ∙ unsigned_law.again n [] g)).0

-- ---- lists of cells

abbrev pub Differ : Cell → Cell → Type 0
Differ c d = (c.0 ≡ d.0) × (c.1 ≡ d.1 → ⊥)

-- the same up to a byte that differs, in the same place, or the same
abbrev pub Meet : List Cell → List Cell → Type 0
Meet [] [] = Unit {0}
Meet [] (y ∷ ys) = ⊥
Meet (x ∷ xs) [] = ⊥
Meet (x ∷ xs) (y ∷ ys) = Differ x y ⊎ ((x ≡ y) × Meet xs ys)

pub meet_same : (xs : List Cell) → Meet xs xs
meet_same [] = tt
meet_same (x ∷ xs) = inr (refl, meet_same xs)

pub meet_at : (place : Place) (xs ys : List ℕ) → Bytes xs ys → Meet (all_at place xs) (all_at place ys)
meet_at place [] [] h = tt
meet_at place [] (y ∷ ys) h = absurd h
meet_at place (x ∷ xs) [] h = absurd h
meet_at place (x ∷ xs) (y ∷ ys) (inl ne) = inl (refl, ne)
meet_at place (x ∷ xs) (y ∷ ys) (inr h) = inr (ap (λ (b : ℕ). cell b) h.0, meet_at place xs ys h.1)
  where
    cell : ℕ → Cell
    cell b = (place, b)

abbrev put_cell : Cell → List Cell → List Cell
put_cell c t = c ∷ t

-- a part, and another that depends on it
pub meet_if : (xs ys r s : List Cell) → Meet xs ys → (xs ≡ ys → Meet r s) → Meet (xs ++ r) (ys ++ s)
meet_if [] [] r s h g = g refl
meet_if [] (y ∷ ys) r s h g = absurd h
meet_if (x ∷ xs) [] r s h g = absurd h
meet_if (x ∷ xs) (y ∷ ys) r s (inl d) g = inl d
meet_if (x ∷ xs) (y ∷ ys) r s (inr h) g =
    inr (h.0, meet_if xs ys r s h.1 (λ e. g (ap (λ (c : Cell). put_cell c xs) h.0 ∙ ap (put_cell y) e)))

pub meet_then : (xs ys r s : List Cell) → Meet xs ys → Meet r s → Meet (xs ++ r) (ys ++ s)
meet_then xs ys r s h g = meet_if xs ys r s h (λ e. g)

-- the bytes of places are those of the cells
pub same_bytes : (place : Place) (xs ys : List ℕ) → all_at place xs ≡ all_at place ys → xs ≡ ys
same_bytes place [] [] e = refl
same_bytes place [] (y ∷ ys) e = absurd cc
same_bytes place (x ∷ xs) [] e = absurd cc
same_bytes place (x ∷ xs) (y ∷ ys) e =
    let h = heads (place, x) (place, y) (all_at place xs) (all_at place ys) e in
    ap (λ (a : ℕ). put a xs) (ap (λ (c : Cell). c.1) h.0) ∙ ap (put y) (same_bytes place xs ys h.1)
  where
    heads : (c d : Cell) (r s : List Cell) → ◌≡◌ {A = List Cell} (c ∷ r) (d ∷ s) → (c ≡ d) × (r ≡ s)
    heads c d r s e = (cc, cc)

-- ---- formats

abbrev pub Meets : {A : Type 0} → Format A → (A → List Cell) → Type 0
Meets {A} p cells = (x y : A) → p.fits x ≡ true → p.fits y ≡ true → Meet (cells x) (cells y)

pub place_meets : {A : Type 0} (place : Place) (p : Format A) → Law p → Meets p (λ x. all_at place (p.encoding x))
place_meets place p law x y h g = meet_at place (p.encoding x) (p.encoding y) (two_encodings p law x y h g)

pub plain_meets : {A : Type 0} (p : Format A) → Law p → Meets p (plain p)
plain_meets p law = place_meets OtherByte p law

pub then_meets : {A B : Type 0} (p : Format A) (q : Format B) (cp : A → List Cell) (cq : B → List Cell) → Meets p cp
    → Meets q cq → Meets (p · q) (λ x. cp x.0 ++ cq x.1)
then_meets p q cp cq mp mq x y h g =
    let f = and_parts (p.fits x.0) (q.fits x.1) h in
    let k = and_parts (p.fits y.0) (q.fits y.1) g in
    meet_then (cp x.0) (cp y.0) (cq x.1) (cq y.1) (mp x.0 y.0 f.0 k.0) (mq x.1 y.1 f.1 k.1)

pub seen_meets : {A B : Type 0} (make : A → B) (part : B → A) (p : Format A) (cp : A → List Cell) → Meets p cp
    → Meets (as_value make part p) (λ y. cp (part y))
seen_meets make part p cp m x y h g = m (part x) (part y) h g

-- as many entries, each of them the same up to a byte that differs
pub many_meet : {A : Type 0} (p : Format A) (cells : A → List Cell) → Meets p cells → (xs ys : List A)
    → list_all p.fits xs ≡ true → list_all p.fits ys ≡ true → length xs ≡ length ys
    → Meet (flat_map cells xs) (flat_map cells ys)
many_meet p cells m [] [] h g e = tt
many_meet p cells m [] (y ∷ ys) h g e = absurd (omega (arith, e))
many_meet p cells m (x ∷ xs) [] h g e = absurd (omega (arith, e))
many_meet p cells m (x ∷ xs) (y ∷ ys) h g e =
    let f = and_parts (p.fits x) (list_all p.fits xs) h in
    let k = and_parts (p.fits y) (list_all p.fits ys) g in
    meet_then (cells x) (cells y) (flat_map cells xs) (flat_map cells ys) (m x y f.0 k.0)
    (many_meet p cells m xs ys f.1 k.1 (omega (arith, e)))

pub counted_meet : {A : Type 0} (p : Format A) (cells : A → List Cell) → Meets p cells → (xs ys : List A)
    → unsigned.fits (length xs) ≡ true → unsigned.fits (length ys) ≡ true → list_all p.fits xs ≡ true
    → list_all p.fits ys ≡ true
    → Meet (vector_cells cells xs) (vector_cells cells ys)
counted_meet p cells m xs ys few few' h g =
    meet_if (others (unsigned.encoding (length xs))) (others (unsigned.encoding (length ys))) (flat_map cells xs)
    (flat_map cells ys) (plain_meets unsigned unsigned_law (length xs) (length ys) few few')
    (λ e. many_meet p cells m xs ys h g (same_unsigned (length xs) (length ys) few few'
    (same_bytes OtherByte (unsigned.encoding (length xs)) (unsigned.encoding (length ys)) e)))

pub vector_meets : {A : Type 0} (p : Format A) (cells : A → List Cell) → Meets p cells
    → Meets (vector p) (vector_cells cells)
vector_meets p cells m xs ys h g =
    let f = and_parts (ltb (length xs) (2 ^ 32)) (list_all p.fits xs) h in
    let k = and_parts (ltb (length ys) (2 ^ 32)) (list_all p.fits ys) g in
    counted_meet p cells m xs ys f.0 k.0 f.1 k.1

pub entries_meet : {A : Type 0} (p : Format A) (cells : A → List Cell) → Meets p cells
    → Meets (entries p) (vector_cells cells)
entries_meet p cells m xs ys h g = vector_meets p cells m xs ys (and_parts (ltb 0 (length xs)) ((vector p).fits xs) h).1
    (and_parts (ltb 0 (length ys)) ((vector p).fits ys) g).1
