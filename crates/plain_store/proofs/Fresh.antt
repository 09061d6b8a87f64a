-- Blanks are fresh variables of their types, and have their sizes.
use Rattle.std.proofs.Common.{◌≡◌, ℕ, zero, suc, ◌+◌, ◌*◌, ℤ, pos, Bool, true, false, cond, List, [], ◌∷◌, ◌++◌, map, length, Option, Some, None, refl, ap, sym, ◌∙◌, append-nil}
use Rattle.std.proofs.Math.Path.{fun_ext}
use Rattle.std.specs.Prelude.{nat_eq, nat_lt, slice_get, if◌then◌else◌}
use Rattle.std.specs.List.{fold}
use Rattle.std.specs.Map.{lookup}
use Rattle.std.specs.Option.{option_map}
use Rattle.std.proofs.lemmas.List.{length-map, map-append}
use Rattle.typed_tree.specs.declared.types.Home.{Home}
use Rattle.typed_tree.specs.declared.types.Home.TheVariants.{Predeclared, Module}
use Rattle.typed_tree.specs.declared.types.TypeNo.{TypeNo}
use Rattle.typed_tree.specs.declared.shape.Scalar.{Scalar as Range}
use Rattle.typed_tree.specs.declared.shape.Formal.{Formal}
use Rattle.typed_tree.specs.declared.shape.Shape.{Shape}
use Rattle.typed_tree.specs.declared.shape.Shape.TheVariants as shape
use Rattle.typed_tree.specs.declared.shape.Made.{Made}
use Rattle.typed_tree.specs.declared.known_types.Types.{Types}
use Rattle.typed_tree.specs.declared.typed_module.Routine.{Routine}
use Rattle.typed_tree.specs.Known.{predeclared_scalar, scalar_at}
use Rattle.layout_storage.specs.Types.{Ty, Scalar, Natural, Callable, Cell, Hidden, Array, Nothing, Field, row, component, first}
use Rattle.layout_storage.specs.Sizes.{size, width}
use Rattle.layout_storage.specs.Shapes.{heading_tree, Trees, or_nothing, in_module, scalar_kind, scalar_tree, tree_from, tree_in, shape_tree, module_trees, other_trees, known_trees, tree, elements_of}
use Rattle.layout_storage.specs.Shapes.{with_made as with_tree, with_module as with_trees}
use Rattle.typed_tree.specs.declared.typed_module.TypedModule.{TypedModule}
use Rattle.layout_storage.specs.Frames.{formals_of, formal_tree, variable_trees, frame, module_row}
use Rattle.def_meaning.specs.Store.{Location, fresh, first_in}
use Rattle.plain_store.specs.declared.held.Held.{Held}
use Rattle.plain_store.specs.declared.held.Held.TheVariants.{Same, Parts}
use Rattle.plain_store.specs.declared.held.Held.TheVariants as held
use Rattle.plain_store.specs.declared.blanks.Blank.{Blank}
use Rattle.plain_store.specs.declared.blanks.Kept.{Kept}
use Rattle.plain_store.specs.Contents.{Contents, or_rest, in_parts, in_array, contents}
use Rattle.plain_store.specs.Blanks.{cell_blank, word_blank, hidden_blank, scalar_blank, array_blank, held_in, total, row_blank, or_none, kept_of, among, blank_from, blank_in, field_blank, shape_blank, keep_blanks, with_made, module_blanks, with_module, other_blanks, known_blanks, formal_blank, header_blank, frame_blank, variables_of}
use Rattle.plain_store.proofs.Layers.{same, parts}
use Rattle.plain_store.proofs.Layers.{array as array_holds}

-- ---- what a blank and a type say: what each location holds, and the size

abbrev Says : Type 0
Says = Contents × ℕ

abbrev shown : Blank → Says
shown b = (contents b.held, b.size)

abbrev meant : Ty → Says
meant t = (fresh t, size t)

abbrev nought : Contents
nought r = pos 0

abbrev contents_in : Says → Contents
contents_in x = x.0

abbrev sum_of : List Says → ℕ
sum_of [] = 0
sum_of (x ∷ xs) = x.1 + sum_of xs

abbrev row_of : List Says → Says
row_of xs = (in_parts (pos 0) (map contents_in xs) nought, sum_of xs)

abbrev array_of : ℕ → Says → Says
array_of n x = (in_array n x.0, n * x.1)

-- ---- one type

cell_fresh : (c : Scalar) (r : Location) → in_parts (first c) [] nought r ≡ fresh (Cell c) r
unfolding fresh component
cell_fresh c [] = refl
cell_fresh c (k ∷ r) = refl

cell_says : (c : Scalar) → shown (cell_blank c) ≡ meant (Cell c)
unfolding size
cell_says c = ap (λ (f : Contents). (f, width c))
    (parts (first c) [] (Same (pos 0)) ∙ ap (λ (f : Contents). in_parts (first c) [] f) (same (pos 0))
    ∙ fun_ext (cell_fresh c))

hidden_fresh : (n : ℕ) (r : Location) → nought r ≡ fresh (Hidden n) r
unfolding fresh component
hidden_fresh n [] = refl
hidden_fresh n (k ∷ r) = refl

hidden_says : (n : ℕ) → shown (hidden_blank n) ≡ meant (Hidden n)
unfolding size
hidden_says n = ap (λ (f : Contents). (f, n)) (same (pos 0) ∙ fun_ext (hidden_fresh n))

array_shown : (n : ℕ) (b : Blank) → shown (array_blank n b) ≡ array_of n (shown b)
array_shown n b = ap (λ (f : Contents). (f, n * b.size)) (array_holds n b.held)

within_is : (b : Bool) (t : Ty) (r : Location)
    → (if b then first_in (component t r) else pos 0) ≡ first_in (if b then component t r else None)
within_is true t r = refl
within_is false t r = refl

array_fresh : (n : ℕ) (t : Ty) (r : Location) → in_array n (fresh t) r ≡ fresh (Array n t) r
unfolding fresh component
array_fresh n t [] = refl
array_fresh n t (k ∷ r) = within_is (nat_lt k n) t r

array_meant : (n : ℕ) (t : Ty) → array_of n (meant t) ≡ meant (Array n t)
unfolding size
array_meant n t = ap (λ (f : Contents). (f, n * size t)) (fun_ext (array_fresh n t))

totals : (bs : List Blank) → total bs ≡ sum_of (map shown bs)
totals [] = refl
totals (b ∷ bs) = ap (λ (n : ℕ). b.size + n) (totals bs)

contents_are : (bs : List Blank) → map contents (map held_in bs) ≡ map contents_in (map shown bs)
contents_are [] = refl
contents_are (b ∷ bs) = ap (λ (fs : List Contents). contents b.held ∷ fs) (contents_are bs)

row_shown : (bs : List Blank) → shown (row_blank bs) ≡ row_of (map shown bs)
row_shown bs =
    ap (λ (f : Contents). (f, total bs)) (parts (pos 0) (map held_in bs) (Same (pos 0))
    ∙ ap (λ (f : Contents). in_parts (pos 0) (map contents (map held_in bs)) f) (same (pos 0))
    ∙ ap (λ (fs : List Contents). in_parts (pos 0) fs nought) (contents_are bs))
    ∙ ap (λ (n : ℕ). (in_parts (pos 0) (map contents_in (map shown bs)) nought, n)) (totals bs)

row_fresh : (ts : List Ty) (r : Location)
    → in_parts (pos 0) (map contents_in (map meant ts)) nought r ≡ fresh (row ts) r
unfolding fresh component
row_fresh [] [] = refl
row_fresh [] (k ∷ r) = refl
row_fresh (t ∷ ts) [] = refl
row_fresh (t ∷ ts) (zero ∷ r) = refl
row_fresh (t ∷ ts) (suc k ∷ r) = row_fresh ts (k ∷ r)

row_size : (ts : List Ty) → sum_of (map meant ts) ≡ size (row ts)
unfolding size
row_size [] = refl
row_size (t ∷ ts) = ap (λ (n : ℕ). size t + n) (row_size ts)

row_meant : (ts : List Ty) → row_of (map meant ts) ≡ meant (row ts)
row_meant ts = ap (λ (f : Contents). (f, sum_of (map meant ts))) (fun_ext (row_fresh ts))
    ∙ ap (λ (n : ℕ). (fresh (row ts), n)) (row_size ts)

row_says : (bs : List Blank) (ts : List Ty) → map shown bs ≡ map meant ts → shown (row_blank bs) ≡ meant (row ts)
row_says bs ts h = row_shown bs ∙ ap (λ (xs : List Says). row_of xs) h ∙ row_meant ts

array_says : (n : ℕ) (b : Blank) (t : Ty) → shown b ≡ meant t → shown (array_blank n b) ≡ meant (Array n t)
array_says n b t h = array_shown n b ∙ ap (λ (x : Says). array_of n x) h ∙ array_meant n t

-- ---- the types that stand before

abbrev Answered : Type 0
Answered = ℕ × List Says

abbrev shown_kept : Kept → Answered
shown_kept k = (k.home, map shown k.blanks)

abbrev meant_module : ℕ × List Ty → Answered
meant_module e = (e.0, map meant e.1)

abbrev Beside : List Kept → Trees → Type 0
Beside known before = map shown_kept known ≡ map meant_module before

abbrev answered_of : ℕ → List Answered → Option (List Says)
answered_of home [] = None
answered_of home (x ∷ xs) = cond (nat_eq home x.0) (Some x.1) (answered_of home xs)

cond_map : {A B : Type 0} (f : A → B) (b : Bool) (x : A) (o : Option A)
    → option_map f (cond b (Some x) o) ≡ cond b (Some (f x)) (option_map f o)
cond_map f true x o = refl
cond_map f false x o = refl

kept_answered : (home : ℕ) (ks : List Kept)
    → option_map (map shown) (kept_of home ks) ≡ answered_of home (map shown_kept ks)
kept_answered home [] = refl
kept_answered home (k ∷ ks) = cond_map (map shown) (nat_eq home k.home) k.blanks (kept_of home ks)
    ∙ ap (λ (o : Option (List Says)). cond (nat_eq home k.home) (Some (map shown k.blanks)) o) (kept_answered home ks)

trees_answered : (home : ℕ) (es : Trees)
    → option_map (map meant) (lookup (nat_eq home) es) ≡ answered_of home (map meant_module es)
trees_answered home [] = refl
trees_answered home (e ∷ es) = cond_map (map meant) (nat_eq home e.0) e.1 (lookup (nat_eq home) es)
    ∙ ap (λ (o : Option (List Says)). cond (nat_eq home e.0) (Some (map meant e.1)) o) (trees_answered home es)

abbrev or_row : Option Says → Says
or_row None = row_of []
or_row (Some x) = x

abbrev in_answered : Option (List Says) → ℕ → Says
in_answered None n = row_of []
in_answered (Some xs) n = or_row (slice_get xs n)

some_shown : (bs : List Blank) (n : ℕ) → shown (or_none (slice_get bs n)) ≡ or_row (slice_get (map shown bs) n)
some_shown [] n = row_shown []
some_shown (b ∷ bs) zero = refl
some_shown (b ∷ bs) (suc n) = some_shown bs n

some_meant : (ts : List Ty) (n : ℕ) → meant (or_nothing (slice_get ts n)) ≡ or_row (slice_get (map meant ts) n)
some_meant [] n = sym (row_meant [])
some_meant (t ∷ ts) zero = refl
some_meant (t ∷ ts) (suc n) = some_meant ts n

found_shown : (o : Option (List Blank)) (n : ℕ) → shown (or_none (among o n)) ≡ in_answered (option_map (map shown) o) n
found_shown None n = row_shown []
found_shown (Some bs) n = some_shown bs n

found_meant : (o : Option (List Ty)) (n : ℕ) → meant (in_module o n) ≡ in_answered (option_map (map meant) o) n
found_meant None n = sym (row_meant [])
found_meant (Some ts) n = some_meant ts n

scalar_says : (t : TypeNo) (o : Option Range) → shown (scalar_blank t o) ≡ meant (scalar_tree t o)
scalar_says t None = cell_says (Natural 4294967295)
scalar_says t (Some s) = cell_says (scalar_kind t s)

from_says : (known : List Kept) (before : Trees) → Beside known before → (t : TypeNo) (h : Home)
    → shown (blank_from known t h) ≡ meant (tree_from before t h)
from_says known before p t Predeclared = scalar_says t (predeclared_scalar t.number)
from_says known before p t (Module home) =
    found_shown (kept_of home known) t.number
    ∙ ap (λ (o : Option (List Says)). in_answered o t.number)
    (kept_answered home known ∙ ap (λ (xs : List Answered). answered_of home xs) p
    ∙ sym (trees_answered home before))
    ∙ sym (found_meant (lookup (nat_eq home) before) t.number)

part_says : (known : List Kept) (before : Trees) → Beside known before → (t : TypeNo)
    → shown (blank_in known t) ≡ meant (tree_in before t)
part_says known before p t = from_says known before p t t.home

fields_say : (known : List Kept) (before : Trees) → Beside known before → (fs : List (List ℕ × TypeNo))
    → map shown (map (field_blank known) fs) ≡ map meant (map (λ f. tree_in before f.1) fs)
fields_say known before p [] = refl
fields_say known before p (f ∷ fs) = ap (λ (x : Says). x ∷ map shown (map (field_blank known) fs))
    (part_says known before p f.1) ∙ ap (λ (xs : List Says). meant (tree_in before f.1) ∷ xs)
    (fields_say known before p fs)

shape_says : (types : Types) (known : List Kept) (before : Trees) → Beside known before → (t : TypeNo) (s : Shape)
    → shown (shape_blank types known t s) ≡ meant (shape_tree types before t s)
shape_says types known before p t (shape.Scalar s) = cell_says (scalar_kind t s)
shape_says types known before p t shape.Set = cell_says (Natural 4294967295)
shape_says types known before p t (shape.Array i e) =
    array_says (elements_of (scalar_at types i)) (blank_in known e) (tree_in before e) (part_says known before p e)
shape_says types known before p t (shape.Record fs) =
    row_says (map (field_blank known) fs) (map (λ f. tree_in before f.1) fs) (fields_say known before p fs)
shape_says types known before p t (shape.Procedure h) = cell_says (Callable (heading_tree before h.formals h.result))
shape_says types known before p t (shape.Open e) = row_says [] [] refl

-- ---- the types of modules

module _ (types : Types) (known : List Kept) (before : Trees) (p : Beside known before) (home : ℕ) where
  in_front : (bs : List Blank) (ts : List Ty) → map shown bs ≡ map meant ts
      → Beside (keep_blanks home bs ∷ known) ((home, ts) ∷ before)
  in_front bs ts h = ap (λ (xs : List Says). (home, xs) ∷ map shown_kept known) h
      ∙ ap (λ (xs : List Answered). (home, map meant ts) ∷ xs) p

  same_length : (bs : List Blank) (ts : List Ty) → map shown bs ≡ map meant ts → length bs ≡ length ts
  same_length bs ts h = sym (length-map bs shown) ∙ ap (λ (xs : List Says). length xs) h ∙ length-map ts meant

  one_more : (bs : List Blank) (ts : List Ty) (m : Made) → map shown bs ≡ map meant ts
      → map shown (with_made types known home bs m) ≡ map meant (with_tree types before home ts m)
  one_more bs ts m h =
      let n : ℕ → TypeNo = λ k. record { home = Module home; number = k } in
      let b : Blank = shape_blank types (keep_blanks home bs ∷ known) (n (length bs)) m.shape in
      let t : Ty = shape_tree types ((home, ts) ∷ before) (n (length ts)) m.shape in
      map-append shown bs (b ∷ [])
      ∙ ap (λ (xs : List Says). xs ++ shown b ∷ []) h
      ∙ ap (λ (x : Says). map meant ts ++ x ∷ [])
      (ap (λ (k : ℕ). shown (shape_blank types (keep_blanks home bs ∷ known) (n k) m.shape)) (same_length bs ts h)
      ∙ shape_says types (keep_blanks home bs ∷ known) ((home, ts) ∷ before) (in_front bs ts h) (n (length ts))
      m.shape)
      ∙ sym (map-append meant ts (t ∷ []))

  all_say : (ms : List Made) (bs : List Blank) (ts : List Ty) → map shown bs ≡ map meant ts
      → map shown (fold (with_made types known home) bs ms) ≡ map meant (fold (with_tree types before home) ts ms)
  all_say [] bs ts h = h
  all_say (m ∷ ms) bs ts h = all_say ms (with_made types known home bs m) (with_tree types before home ts m)
      (one_more bs ts m h)

  module_says : (ms : List Made) → map shown (module_blanks types known home ms)
      ≡ map meant (module_trees types before home ms)
  module_says ms = all_say ms [] [] refl

next_says : (types : Types) (known : List Kept) (before : Trees) → Beside known before → (e : ℕ × List Made)
    → Beside (with_module types known e) (with_trees types before e)
next_says types known before p e =
    map-append shown_kept known (keep_blanks e.0 (module_blanks types known e.0 e.1) ∷ [])
    ∙ ap (λ (xs : List Answered). xs ++ (e.0, map shown (module_blanks types known e.0 e.1)) ∷ []) p
    ∙ ap (λ (xs : List Says). map meant_module before ++ (e.0, xs) ∷ []) (module_says types known before p e.0 e.1)
    ∙ sym (map-append meant_module before ((e.0, module_trees types before e.0 e.1) ∷ []))

others_say : (types : Types) (es : List (ℕ × List Made)) (known : List Kept) (before : Trees) → Beside known before
    → Beside (fold (with_module types) known es) (fold (with_trees types) before es)
others_say types [] known before p = p
others_say types (e ∷ es) known before p =
    others_say types es (with_module types known e) (with_trees types before e) (next_says types known before p e)

known_say : (types : Types) → Beside (known_blanks types) (known_trees types)
unfolding known_blanks known_trees
known_say types =
    let p : Beside (other_blanks types) (other_trees types) = others_say types types.others [] [] refl in
    in_front types (other_blanks types) (other_trees types) p types.home
    (module_blanks types (other_blanks types) types.home types.own)
    (module_trees types (other_trees types) types.home types.own)
    (module_says types (other_blanks types) (other_trees types) p types.home types.own)

type_says : (types : Types) (t : TypeNo) → shown (blank_in (known_blanks types) t) ≡ meant (tree types t)
type_says types t = part_says (known_blanks types) (known_trees types) (known_say types) t

-- ---- frames

two_hidden : (n : ℕ) → shown (row_blank (hidden_blank n ∷ hidden_blank n ∷ [])) ≡ meant (row (Hidden n ∷ Hidden n ∷ []))
two_hidden n = row_says (hidden_blank n ∷ hidden_blank n ∷ []) (Hidden n ∷ Hidden n ∷ [])
    (ap (λ (x : Says). x ∷ x ∷ []) (hidden_says n))

either_says : (b : Bool) (x y : Blank) (s t : Ty) → shown x ≡ meant s → shown y ≡ meant t
    → shown (if b then x else y) ≡ meant (if b then s else t)
either_says true x y s t h k = h
either_says false x y s t h k = k

formal_says : (types : Types) (f : Formal) → shown (formal_blank (known_blanks types) f) ≡ meant (formal_tree types f)
formal_says types f = either_says f.is_open _ _ _ _ (two_hidden 4)
    (either_says f.is_var _ _ _ _ (hidden_says 4) (type_says types f.of))

each_says : {A : Type 0} (f : A → Blank) (g : A → Ty) → ((x : A) → shown (f x) ≡ meant (g x)) → (xs : List A)
    → map shown (map f xs) ≡ map meant (map g xs)
each_says f g h [] = refl
each_says f g h (x ∷ xs) = ap (λ (y : Says). y ∷ map shown (map f xs)) (h x)
    ∙ ap (λ (ys : List Says). meant (g x) ∷ ys) (each_says f g h xs)

variables_say : (types : Types) (r : Routine)
    → map shown (map (formal_blank (known_blanks types)) (formals_of types r.heading)
    ++ map (blank_in (known_blanks types)) r.variables) ≡ map meant (variable_trees types r)
variables_say types r =
    map-append shown (map (formal_blank (known_blanks types)) (formals_of types r.heading))
    (map (blank_in (known_blanks types)) r.variables)
    ∙ ap (λ (xs : List Says). xs ++ map shown (map (blank_in (known_blanks types)) r.variables))
    (each_says (formal_blank (known_blanks types)) (formal_tree types) (formal_says types)
    (formals_of types r.heading))
    ∙ ap (λ (xs : List Says). map meant (map (formal_tree types) (formals_of types r.heading)) ++ xs)
    (each_says (blank_in (known_blanks types)) (tree types) (type_says types) r.variables)
    ∙ sym (map-append meant (map (formal_tree types) (formals_of types r.heading)) (map (tree types) r.variables))

frame_says : (types : Types) (r : Routine) → shown (frame_blank types (known_blanks types) r) ≡ meant (frame types r)
frame_says types r =
    row_says (header_blank ∷ (map (formal_blank (known_blanks types)) (formals_of types r.heading)
    ++ map (blank_in (known_blanks types)) r.variables)) (row (Hidden 8 ∷ Hidden 8 ∷ []) ∷ variable_trees types r)
    (ap (λ (x : Says). x ∷ map shown (map (formal_blank (known_blanks types)) (formals_of types r.heading)
    ++ map (blank_in (known_blanks types)) r.variables)) (two_hidden 8)
    ∙ ap (λ (xs : List Says). meant (row (Hidden 8 ∷ Hidden 8 ∷ [])) ∷ xs) (variables_say types r))

-- ---- for the code

pub type_size : (types : Types) (known : List Kept) (t : TypeNo) (b : Blank) → known ≡ known_blanks types
    → b ≡ blank_in known t → b.size ≡ size (tree types t)
type_size types known t b h e = ap (λ (x : Blank). x.size) e ∙ ap (λ (k : List Kept). (blank_in k t).size) h
    ∙ ap (λ (x : Says). x.1) (type_says types t)

pub frame_size : (types : Types) (known : List Kept) (r : Routine) (b : Blank) → known ≡ known_blanks types
    → b ≡ frame_blank types known r → b.size ≡ size (frame types r)
frame_size types known r b h e = ap (λ (x : Blank). x.size) e ∙ ap (λ (k : List Kept). (frame_blank types k r).size) h
    ∙ ap (λ (x : Says). x.1) (frame_says types r)

pub frame_fresh : (types : Types) (known : List Kept) (r : Routine) (b : Blank) → known ≡ known_blanks types
    → b ≡ frame_blank types known r → contents b.held ≡ fresh (frame types r)
frame_fresh types known r b h e = ap (λ (x : Blank). contents x.held) e
    ∙ ap (λ (k : List Kept). contents (frame_blank types k r).held) h ∙ ap (λ (x : Says). x.0) (frame_says types r)

pub ruleset sizes = (type_size, frame_size, frame_fresh)

-- ---- all modules

pub module_row_says : (types : Types) (ts : List TypeNo)
    → shown (row_blank (map (blank_in (known_blanks types)) ts)) ≡ meant (row (map (tree types) ts))
module_row_says types ts = row_says (map (blank_in (known_blanks types)) ts) (map (tree types) ts)
    (each_says (blank_in (known_blanks types)) (tree types) (type_says types) ts)

module_says_all : (m : TypedModule) → shown (variables_of m) ≡ meant (module_row m)
module_says_all m = module_row_says m.types m.variables

pub module_size_is : (m : TypedModule) → (variables_of m).size ≡ size (module_row m)
module_size_is m = ap (λ (x : Says). x.1) (module_says_all m)

pub whole_fresh : (p : List TypedModule)
    → contents (row_blank (map variables_of p)).held ≡ fresh (row (map module_row p))
whole_fresh p = ap (λ (x : Says). x.0) (row_says (map variables_of p) (map module_row p)
    (each_says variables_of module_row module_says_all p))
