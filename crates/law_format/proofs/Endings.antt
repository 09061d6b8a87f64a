-- The end of a module is the last of its marks.
use Rattle.std.proofs.Common.{◌≡◌, ℕ, List, [], ◌∷◌, ◌++◌, length, refl, sym, ap, subst, ◌∙◌, append_assoc}
use Rattle.std.specs.List.{flat_map}
use Rattle.wasm_tree.specs.declared.module.Body.{Body}
use Rattle.wasm_code.specs.Number.{unsigned}
use Rattle.wasm_binary.specs.Binary.{header, table_type, memory_type, export}
use Rattle.law_format.specs.Places.{Cell, others, plain, vector_cells, func_type_cells, import_cells, global_cells, element_cells, data_cells}
use Rattle.law_format.specs.Layouts.{Part, Mark, Byte, Opens, Closes, Last, byte_marks, part_marks, section_marks, entry_marks, body_cells, bodies_marks, Layout, layout_marks}

-- none of these marks is the end of the module
abbrev pub Inner : List Mark → Type 0
Inner [] = Unit {0}
Inner (Byte cell ∷ marks) = Inner marks
Inner (Opens size ∷ marks) = Inner marks
Inner (Closes ∷ marks) = Inner marks
Inner (Last ∷ marks) = ⊥

pub inner_append : (xs ys : List Mark) → Inner xs → Inner ys → Inner (xs ++ ys)
inner_append [] ys h g = g
inner_append (Byte cell ∷ xs) ys h g = inner_append xs ys h g
inner_append (Opens size ∷ xs) ys h g = inner_append xs ys h g
inner_append (Closes ∷ xs) ys h g = inner_append xs ys h g
inner_append (Last ∷ xs) ys h g = absurd h

inner_bytes : (cells : List Cell) → Inner (byte_marks cells)
inner_bytes [] = tt
inner_bytes (c ∷ cells) = inner_bytes cells

inner_part : {A : Type 0} (marks : A → List Mark) (p : Part A) → Inner (marks p.content) → Inner (part_marks marks p)
inner_part marks p h = inner_append (byte_marks (plain unsigned p.size))
    (Opens p.size ∷ (marks p.content ++ Closes ∷ [])) (inner_bytes (plain unsigned p.size))
    (inner_append (marks p.content) (Closes ∷ []) h tt)

inner_section : {A : Type 0} (k : ℕ) (marks : List A → List Mark) (size : ℕ) (xs : List A) → Inner (marks xs)
    → Inner (section_marks k marks (record { size = size; content = xs }))
inner_section k marks size [] h = tt
inner_section k marks size (x ∷ xs) h = inner_part marks (record { size = size; content = x ∷ xs }) h

inner_bodies : (bs : List (Part Body)) → Inner (flat_map (part_marks (λ (b : Body). byte_marks (body_cells b))) bs)
inner_bodies [] = tt
inner_bodies (b ∷ bs) =
    inner_append (part_marks (λ (b : Body). byte_marks (body_cells b)) b)
    (flat_map (part_marks (λ (b : Body). byte_marks (body_cells b))) bs)
    (inner_part (λ (b : Body). byte_marks (body_cells b)) b (inner_bytes (body_cells b.content))) (inner_bodies bs)

inner_all : (bs : List (Part Body)) → Inner (bodies_marks bs)
inner_all bs = inner_append (byte_marks (plain unsigned (length bs)))
    (flat_map (part_marks (λ (b : Body). byte_marks (body_cells b))) bs) (inner_bytes (plain unsigned (length bs)))
    (inner_bodies bs)

-- marks with an end, and no other
pub record Ended (marks : List Mark) : Type 0 where
  pub front : List Mark
  pub inner : Inner front
  pub whole : marks ≡ front ++ (Last ∷ [])

ended_then : (xs ys : List Mark) → Inner xs → Ended ys → Ended (xs ++ ys)
ended_then xs ys h e = record {
  front = xs ++ e.front;
  inner = inner_append xs e.front h e.inner;
  whole = ap (λ (t : List Mark). xs ++ t) e.whole ∙ sym (append_assoc xs e.front (Last ∷ []));
}

section_ended : {A : Type 0} (k : ℕ) (marks : List A → List Mark) (s : Part (List A)) (ys : List Mark)
    → Inner (marks s.content) → Ended ys → Ended (section_marks k marks s ++ ys)
section_ended k marks s ys h e = ended_then (section_marks k marks s) ys (inner_section k marks s.size s.content h) e

entries_ended : {A : Type 0} (k : ℕ) (cells : A → List Cell) (s : Part (List A)) (ys : List Mark) → Ended ys
    → Ended (section_marks k (entry_marks cells) s ++ ys)
entries_ended k cells s ys e = section_ended k (entry_marks cells) s ys (inner_bytes (vector_cells cells s.content)) e

pub layout_ended : (l : Layout) → Ended (layout_marks l)
layout_ended l =
    let end : Ended (Last ∷ []) = record { front = []; inner = tt; whole = refl } in
    let e11 = entries_ended 11 data_cells l.segments (Last ∷ []) end in
    let e10 = section_ended 10 bodies_marks l.bodies _ (inner_all l.bodies.content) e11 in
    let e9 = entries_ended 9 element_cells l.elements _ e10 in
    let e7 = entries_ended 7 (plain export) l.exports _ e9 in
    let e6 = entries_ended 6 global_cells l.globals _ e7 in
    let e5 = entries_ended 5 (plain memory_type) l.memories _ e6 in
    let e4 = entries_ended 4 (plain table_type) l.tables _ e5 in
    let e3 = entries_ended 3 (plain unsigned) l.functions _ e4 in
    let e2 = entries_ended 2 import_cells l.imports _ e3 in
    let e1 = entries_ended 1 func_type_cells l.types _ e2 in
    ended_then (byte_marks (others header)) _ (inner_bytes (others header)) e1

-- ---- what follows for any front

no_mark : (m : Mark) (ms : List Mark) → ◌≡◌ {A = List Mark} [] (m ∷ ms) → ⊥
no_mark m ms e = cc

pub no_marks : (xs : List Mark) (m : Mark) (ms : List Mark) → ◌≡◌ {A = List Mark} [] (xs ++ (m ∷ ms)) → ⊥
no_marks [] m ms e = no_mark m ms e
no_marks (x ∷ xs) m ms e = no_mark x (xs ++ (m ∷ ms)) e

pub first_mark : (m n : Mark) (ms ns : List Mark) → ◌≡◌ {A = List Mark} (m ∷ ms) (n ∷ ns) → m ≡ n
first_mark m n ms ns e = cc

pub more_marks : (m n : Mark) (ms ns : List Mark) → ◌≡◌ {A = List Mark} (m ∷ ms) (n ∷ ns) → ms ≡ ns
more_marks m n ms ns e = cc

inner_cons : (m : Mark) (xs ys : List Mark) → Inner (m ∷ xs) → (Inner xs → Inner ys) → Inner (m ∷ ys)
inner_cons (Byte cell) xs ys h g = g h
inner_cons (Opens size) xs ys h g = g h
inner_cons Closes xs ys h g = g h
inner_cons Last xs ys h g = absurd h

pub inner_tail : (m : Mark) (xs : List Mark) → Inner (m ∷ xs) → Inner xs
inner_tail (Byte cell) xs h = h
inner_tail (Opens size) xs h = h
inner_tail Closes xs h = h
inner_tail Last xs h = absurd h

-- what stands in front of a mark of a module
pub inner_front : (all' front : List Mark) (next : Mark) (rest : List Mark) → Inner all'
    → all' ++ (Last ∷ []) ≡ front ++ (next ∷ rest) → Inner front
inner_front all' [] next rest h e = tt
inner_front [] (m ∷ front) next rest h e =
    absurd (no_marks front next rest (more_marks Last m [] (front ++ (next ∷ rest)) e))
inner_front (n ∷ all') (m ∷ front) next rest h e =
    subst (λ (k : Mark). Inner (k ∷ front)) (first_mark n m (all' ++ (Last ∷ [])) (front ++ (next ∷ rest)) e)
    (inner_cons n all' front h (λ g. inner_front all' front next rest g
    (more_marks n m (all' ++ (Last ∷ [])) (front ++ (next ∷ rest)) e)))

-- behind the end stands nothing
pub last_is_end : (all' front rest : List Mark) → Inner all' → all' ++ (Last ∷ []) ≡ front ++ (Last ∷ rest)
    → (all' ≡ front) × (rest ≡ [])
last_is_end [] [] rest h e = (refl, sym (more_marks Last Last [] rest e))
last_is_end [] (m ∷ front) rest h e = absurd
    (no_marks front Last rest (more_marks Last m [] (front ++ (Last ∷ rest)) e))
last_is_end (n ∷ all') [] rest h e = absurd
    (subst (λ (k : Mark). Inner (k ∷ all')) (first_mark n Last (all' ++ (Last ∷ [])) rest e) h)
last_is_end (n ∷ all') (m ∷ front) rest h e =
    let r = last_is_end all' front rest (inner_tail n all' h)
    (more_marks n m (all' ++ (Last ∷ [])) (front ++ (Last ∷ rest)) e) in (
      ap (λ (k : Mark). k ∷ all') (first_mark n m (all' ++ (Last ∷ [])) (front ++ (Last ∷ rest)) e)
          ∙ ap (λ (t : List Mark). m ∷ t) r.0,
      r.1,
    )
