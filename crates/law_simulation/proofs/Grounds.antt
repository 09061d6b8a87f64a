-- The memory that link begins with holds the first store.
use Rattle.std.proofs.Common.{◌≡◌, ℕ, zero, suc, ◌+◌, ◌-◌, ◌*◌, ◌<◌, ◌≤◌, List, [], ◌∷◌, ◌++◌, length, map, Some, refl, sym, ap, subst, ◌∙◌, append_assoc, arith}
use Rattle.std.specs.Prelude.{replicate, All}
use Rattle.std.proofs.lemmas.List.{length-append, length-replicate}
use Rattle.std.proofs.lemmas.List.Elements.{All-head, All-tail}
use Rattle.law_effect.specs.Bytes.{byte}
use Rattle.typed_tree.specs.declared.typed_module.TypedModule.{TypedModule}
use Rattle.layout_storage.specs.Types.{Ty, Scalar, Cell, Hidden, Nothing, Field, row, component}
use Rattle.layout_storage.specs.Sizes.{size, offset}
use Rattle.layout_storage.specs.Shapes.{tree}
use Rattle.layout_storage.specs.Frames.{module_row}
use Rattle.layout_storage.specs.Texts.{characters, module_texts}
use Rattle.def_meaning.specs.Store.{Location, fresh}
use Rattle.def_meaning.specs.Runs.{first_state}
use Rattle.law_memory.specs.Relation.{Says, Shows}
use Rattle.law_memory.proofs.Worlds.{row_size}
use Rattle.law_memory.proofs.Frames.{zero_shows}
use Rattle.law_modules.specs.Linked.{Program, bytes_in, image, text, variables}
use Rattle.law_modules.proofs.Stores.{image_length, text_length}
use Rattle.law_simulation.specs.Bodies.{IsHeld}
use Rattle.law_simulation.specs.RunsPrograms.{module_type, first_bytes, ground, IsSound}

-- ---- the hidden room behind variables has no cell

trimmed : (ts : List Ty) (n : ℕ) (r : Location) (c : Scalar) → component (row (ts ++ Hidden n ∷ [])) r ≡ Some (Cell c)
    → (component (row ts) r ≡ Some (Cell c)) × (offset (row (ts ++ Hidden n ∷ [])) r ≡ offset (row ts) r)
unfolding component offset
trimmed [] n [] c h = absurd (cc h)
trimmed [] n (zero ∷ []) c h = absurd (cc h)
trimmed [] n (zero ∷ i ∷ r) c h = absurd (cc h)
trimmed [] n (suc i ∷ r) c h = absurd (cc h)
trimmed (t ∷ ts) n [] c h = absurd (cc h)
trimmed (t ∷ ts) n (zero ∷ r) c h = (h, refl)
trimmed (t ∷ ts) n (suc i ∷ r) c h = let w = trimmed ts n (i ∷ r) c h in (w.0, ap (λ (o : ℕ). size t + o) w.1)

hidden_size : (n : ℕ) → size (Hidden n) ≡ n
unfolding size
hidden_size n = refl

module_size : (m : TypedModule) → size (module_type m) ≡ variables m + characters (module_texts m)
module_size m = row_size (map (tree m.types) m.variables) (Hidden (characters (module_texts m)))
    ∙ ap (λ (n : ℕ). variables m + n) (hidden_size (characters (module_texts m)))

base_size : (p : Program) → size (row (map module_type p)) ≡ bytes_in p
unfolding size
base_size [] = refl
base_size (m ∷ ms) = let a = module_size m in let b = base_size ms in omega (arith, a, b)

-- ---- variables begin with zeros

abbrev Zeros : (a n : ℕ) → List ℕ → Type 0
Zeros a n bytes = (j : ℕ) → j < n → byte (a + j) bytes ≡ 0

abbrev AllZero : (a : ℕ) → Program → List ℕ → Type 0
AllZero a [] bytes = Unit {0}
AllZero a (m ∷ ms) bytes = Zeros a (variables m) bytes × AllZero (a + size (module_type m)) ms bytes

no_row_cell : (c : Scalar) (t u : Ty) → component (Field t u) [] ≡ Some (Cell c) → ⊥
unfolding component
no_row_cell c t u h = absurd (cc h)

nothing_cell : (c : Scalar) (r : Location) → component Nothing r ≡ Some (Cell c) → ⊥
unfolding component
nothing_cell c [] h = absurd (cc h)
nothing_cell c (i ∷ r) h = absurd (cc h)

ground_shows : (program p : Program) (a : ℕ) (bytes : List ℕ) → AllZero a p bytes → All IsSound p
    → Shows program (row (map module_type p)) a (fresh (row (map module_row p))) bytes
unfolding component offset fresh
ground_shows program [] a bytes zeros sound r c h = absurd (nothing_cell c r h)
ground_shows program (m ∷ ms) a bytes zeros sound [] c h =
    absurd (no_row_cell c (module_type m) (row (map module_type ms)) h)
ground_shows program (m ∷ ms) a bytes zeros sound (zero ∷ r) c h =
    let w = trimmed (map (tree m.types) m.variables) (characters (module_texts m)) r c h in
    subst (λ (o : ℕ). Says program c (a + o) (fresh (module_row m) r) bytes) (sym w.1)
    (zero_shows program (module_row m) a bytes (All-head IsSound m ms sound).fit zeros.0 r c w.0)
ground_shows program (m ∷ ms) a bytes zeros sound (suc i ∷ r) c h =
    subst (λ (o : ℕ). Says program c o (fresh (row (map module_row ms)) (i ∷ r)) bytes) (omega arith)
    (ground_shows program ms (a + size (module_type m)) bytes zeros.1 (All-tail IsSound m ms sound) (i ∷ r) c h)

-- ---- the image has these zeros

byte_behind : (front back : List ℕ) (j : ℕ) → byte (length front + j) (front ++ back) ≡ byte j back
byte_behind [] back j = let i : 0 + j ≡ j = omega arith in ap (λ (n : ℕ). byte n back) i
byte_behind (x ∷ front) back j =
    let i : suc (length front) + j ≡ suc (length front + j) = omega arith in
    ap (λ (n : ℕ). byte n (x ∷ front ++ back)) i ∙ byte_behind front back j

byte_zero : (n j : ℕ) (back : List ℕ) → j < n → byte j (replicate n 0 ++ back) ≡ 0
byte_zero zero j back h = absurd (omega (arith, h))
byte_zero (suc n) zero back h = refl
byte_zero (suc n) (suc j) back h = byte_zero n j back (omega (arith, h))

image_zero : (p : Program) (front back : List ℕ) → AllZero (length front) p (front ++ (image p ++ back))
image_zero [] front back = tt
image_zero (m ∷ ms) front back =
    let v : List ℕ = replicate (variables m) 0 in
    let whole : List ℕ = front ++ ((v ++ (text m ++ image ms)) ++ back) in
    let parts : (front ++ (v ++ text m)) ++ (image ms ++ back) ≡ whole =
    append_assoc front (v ++ text m) (image ms ++ back)
    ∙ ap (λ (xs : List ℕ). front ++ xs) (sym (append_assoc (v ++ text m) (image ms) back)
    ∙ ap (λ (xs : List ℕ). xs ++ back) (append_assoc v (text m) (image ms)))
    in
    let long : length (front ++ (v ++ text m)) ≡ length front + size (module_type m) =
    (let a = length-append front (v ++ text m) in let b = length-append v (text m) in
    let c : length v ≡ variables m = length-replicate (variables m) 0 in let d = text_length (module_texts m) in
    let e = module_size m in
    omega (arith, a, b, c, d, e))
    in (
      λ j less. byte_behind front ((v ++ (text m ++ image ms)) ++ back) j
          ∙ ap (byte j) (append_assoc v (text m ++ image ms) back)
          ∙ byte_zero (variables m) j ((text m ++ image ms) ++ back) less,
      subst (λ (n : ℕ). AllZero n ms whole) long
          (subst (λ (xs : List ℕ). AllZero (length (front ++ (v ++ text m))) ms xs) parts
          (image_zero ms (front ++ (v ++ text m)) back)),
    )

-- ---- all are bytes

abbrev Small : List ℕ → Type 0
Small bytes = All (λ b. b < 256) bytes

zeros_small : (n : ℕ) → (a : ℕ) → byte a (replicate n 0) < 256
zeros_small zero a = omega arith
zeros_small (suc n) zero = omega arith
zeros_small (suc n) (suc a) = zeros_small n a

abbrev AreSmall : List ℕ → Type 0
AreSmall bytes = (a : ℕ) → byte a bytes < 256

append_small : (xs ys : List ℕ) → AreSmall xs → AreSmall ys → AreSmall (xs ++ ys)
append_small [] ys h g a = g a
append_small (x ∷ xs) ys h g zero = h 0
append_small (x ∷ xs) ys h g (suc a) = append_small xs ys (λ b. h (suc b)) g a

all_small : (xs : List ℕ) → Small xs → AreSmall xs
all_small [] h a = omega arith
all_small (x ∷ xs) h zero = All-head (λ b. b < 256) x xs h
all_small (x ∷ xs) h (suc a) = all_small xs (All-tail (λ b. b < 256) x xs h) a

image_small : (p : Program) → All IsSound p → AreSmall (image p)
image_small [] sound = λ a. omega arith
image_small (m ∷ ms) sound =
    append_small (replicate (variables m) 0) (text m ++ image ms) (zeros_small (variables m))
    (append_small (text m) (image ms) (all_small (text m) (All-head IsSound m ms sound).small)
    (image_small ms (All-tail IsSound m ms sound)))

-- ---- the first store

pub top_is : (p : Program) → size (row (map module_type p)) ≡ bytes_in p
top_is = base_size

pub first_held : (p : Program) (pages : ℕ) → All IsSound p → bytes_in p ≤ 65536 * pages
    → IsHeld (ground p pages) (first_state p) (first_bytes p pages)
first_held p pages sound room =
    let spare : List ℕ = replicate (65536 * pages - bytes_in p) 0 in
    let long : length (first_bytes p pages) ≡ 65536 * pages =
    (let a = length-append (image p) spare in let b = image_length p in
    let c : length spare ≡ 65536 * pages - bytes_in p = length-replicate (65536 * pages - bytes_in p) 0 in
    omega (arith, a, b, c, room))
    in
    record {
      holds = record {
        bytes = append_small (image p) spare (image_small p sound) (zeros_small (65536 * pages - bytes_in p));
        room = (let s = base_size p in omega (arith, s, long, room));
        cells = ground_shows p p 0 (first_bytes p pages) (image_zero p [] spare) sound;
        hidden = λ r n k h less. ap (λ (o : ℕ). byte (o + k) (first_bytes p pages)) (omega arith);
      };
      long = long;
    }
