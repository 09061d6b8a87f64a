-- Lists of what modules import, element by element.
use Rattle.std.proofs.Common.{◌≡◌, ◌<◌, ◌≤◌, ℕ, zero, suc, ◌+◌, Bool, true, false, cond, List, [], ◌∷◌, ◌++◌, length, take, get_or, map, refl, sym, ap, subst, ◌∙◌, arith, add-one, append_assoc, Option, Some, None, All}
use Rattle.std.specs.List.{filter_map, flat_map, cons_option}
use Rattle.std.specs.Option.{option_map, option_to_list}
use Rattle.std.proofs.lemmas.List.{take_more, get_or-map, flat_map_more, take_all, length-map}
use Rattle.std.proofs.lemmas.List.Elements.{filter_map-append, All-nil, All-cons, All-map, All-append}
use Rattle.std.specs.Borrow.{Bor}
use Rattle.m2_tree.specs.declared.decl.Module.{Module}
use Rattle.m2_tree.specs.declared.name.Ident.{Ident}
use Rattle.graph_walk.specs.Links.{AreNodes}
use Rattle.m2_graph.specs.Imports.{first_that, defines, implements, is_definition, definition_of, imports_of, links_of, links, links_at, body_links, walk_of, walks}

more_case : (b : Bool) (r r' : Option ℕ) → (r ≡ None → r' ≡ None) → cond b (Some 0) (option_map suc r) ≡ None
    → cond b (Some 0) (option_map suc r') ≡ None
more_case true r r' h e = cc
more_case false (Some y) r' h e = cc
more_case false None r' h e = ap (option_map suc) (h refl)

found_case : (b : Bool) (r r' : Option ℕ) (i : ℕ) → (r ≡ None → r' ≡ Some i) → cond b (Some 0) (option_map suc r) ≡ None
    → cond b (Some 0) (option_map suc r') ≡ Some (suc i)
found_case true r r' i h e = cc
found_case false (Some y) r' i h e = cc
found_case false None r' i h e = ap (option_map suc) (h refl)

none_more : {X : Type 0} (t : X → Bool) (xs : List X) (i : ℕ) (d : X) → i < length xs → first_that t (take i xs) ≡ None
    → t (get_or xs i d) ≡ false → first_that t (take (suc i) xs) ≡ None
none_more t [] i d l n f = absurd (omega arith)
none_more t (x ∷ xs) zero d l n f = ap (λ b. cond b (Some 0) None) f
none_more t (x ∷ xs) (suc i) d l n f = more_case (t x) (first_that t (take i xs)) (first_that t (take (suc i) xs))
    (λ e. none_more t xs i d (omega arith) e f) n

found : {X : Type 0} (t : X → Bool) (xs : List X) (i : ℕ) (d : X) → i < length xs → first_that t (take i xs) ≡ None
    → t (get_or xs i d) ≡ true → first_that t xs ≡ Some i
found t [] i d l n f = absurd (omega arith)
found t (x ∷ xs) zero d l n f = ap (λ b. cond b (Some 0) (option_map suc (first_that t xs))) f
found t (x ∷ xs) (suc i) d l n f = found_case (t x) (first_that t (take i xs)) (first_that t xs) i
    (λ e. found t xs i d (omega arith) e f) n

at_map : {X Y : Type 0} (f : X → Y) (xs : List X) (i : ℕ) (x : X) → i < length xs → x ≡ get_or xs i x
    → get_or (map f xs) i (f x) ≡ f x
at_map f xs i x l e = get_or-map f xs i x (f x) l ∙ ap f (sym e)

pub first_later : {X Y : Type 0} (t : Y → Bool) (f : X → Y) (xs : List X) (i : ℕ) (x : X) → i < length xs
    → x ≡ get_or xs i x → first_that t (take i (map f xs)) ≡ None → t (f x) ≡ false
    → first_that t (take (i + 1) (map f xs)) ≡ None
first_later t f xs i x l e n h = subst (λ (k : ℕ). first_that t (take k (map f xs)) ≡ None) (sym (add-one i))
    (none_more t (map f xs) i (f x) (rw length-map l) n (ap t (at_map f xs i x l e) ∙ h))

pub first_here : {X Y : Type 0} (t : Y → Bool) (f : X → Y) (xs : List X) (i : ℕ) (x : X) → i < length xs
    → x ≡ get_or xs i x → first_that t (take i (map f xs)) ≡ None → t (f x) ≡ true → Some i ≡ first_that t (map f xs)
first_here t f xs i x l e n h = sym (found t (map f xs) i (f x) (rw length-map l) n (ap t (at_map f xs i x l e) ∙ h))

one_filtered : {X Y : Type 0} (h : X → Option Y) (x : X) → filter_map h (x ∷ []) ≡ option_to_list (h x)
one_filtered {Y = Y} h x = case (h x)
  where
    case : (o : Option Y) → cons_option o [] ≡ option_to_list o
    case None = refl
    case (Some y) = refl

pub filtered_more : {X Y : Type 0} (h : X → Option Y) (xs : List X) (i : ℕ) (x : X) (before out out' : List Y)
    → i < length xs → x ≡ get_or xs i x → out ≡ before ++ filter_map h (take i xs) → out' ≡ out ++ option_to_list (h x)
    → out' ≡ before ++ filter_map h (take (i + 1) xs)
filtered_more h xs i x before out out' l e is is' = is' ∙ ap (λ ys. ys ++ option_to_list (h x)) is
    ∙ append_assoc before (filter_map h (take i xs)) (option_to_list (h x)) ∙ ap (λ ys. before ++ ys)
    (ap (λ ys. filter_map h (take i xs) ++ ys) (sym (one_filtered h x)) ∙ sym (filter_map-append h (take i xs) (x ∷ []))
    ∙ ap (filter_map h) (ap (λ y. take i xs ++ y ∷ []) e ∙ sym (take_more xs i x l)))

pub flat_filtered_more : {X Y Z : Type 0} (h : Y → Option Z) (g : X → List Y) (xs : List X) (i : ℕ) (x : X)
    (before out out' : List Z) → i < length xs → x ≡ get_or xs i x
    → out ≡ before ++ filter_map h (flat_map g (take i xs)) → out' ≡ out ++ filter_map h (g x)
    → out' ≡ before ++ filter_map h (flat_map g (take (i + 1) xs))
flat_filtered_more h g xs i x before out out' l e is is' = is' ∙ ap (λ ys. ys ++ filter_map h (g x)) is
    ∙ append_assoc before (filter_map h (flat_map g (take i xs))) (filter_map h (g x))
    ∙ ap (λ ys. before ++ ys) (sym (filter_map-append h (flat_map g (take i xs)) (g x))
    ∙ ap (filter_map h) (flat_map_more g [] (take i xs) x
    ∙ ap (flat_map g) (ap (λ y. take i xs ++ y ∷ []) e ∙ sym (take_more xs i x l))))

pub mapped_whole : {X Y Z : Type 0} (f : Y → Z) (g : X → Y) (xs : List X) (i : ℕ) (out : List Z) → length xs ≤ i
    → out ≡ map (λ x. f (g x)) (take i xs) → out ≡ map f (map g xs)
mapped_whole {X = X} f g xs i out l is = is ∙ ap (map (λ x. f (g x))) (take_all i xs l) ∙ twice xs
  where
    twice : (ys : List X) → map (λ x. f (g x)) ys ≡ map f (map g ys)
    twice [] = refl
    twice (y ∷ ys) = ap (λ zs. f (g y) ∷ zs) (twice ys)

-- ---- each link is the number of a module

within_case : (b : Bool) (r : Option ℕ) (n i : ℕ) → ((j : ℕ) → r ≡ Some j → j < n)
    → cond b (Some 0) (option_map suc r) ≡ Some i → i < n + 1
within_case true r n i h e = let s : 0 ≡ i = cc in omega arith
within_case false None n i h e = cc
within_case false (Some j) n i h e = let s : suc j ≡ i = cc in omega (arith, h j refl)

pub first_within : {X : Type 0} (t : X → Bool) (xs : List X) (i : ℕ) → first_that t xs ≡ Some i → i < length xs
first_within t [] i e = cc
first_within t (x ∷ xs) i e = let w = within_case (t x) (first_that t xs) (length xs) i (first_within t xs) e in
    omega (arith, w)

pub all_filtered : {X Y : Type 0} (h : X → Option Y) (P : Y → Type 0) → ((x : X) (y : Y) → h x ≡ Some y → P y)
    → (xs : List X) → All P (filter_map h xs)
all_filtered h P k [] = All-nil P
all_filtered {Y = Y} h P k (x ∷ xs) = step (h x) (k x) (all_filtered h P k xs)
  where
    step : (o : Option Y) → ((y : Y) → o ≡ Some y → P y) → All P (filter_map h xs)
        → All P (cons_option o (filter_map h xs))
    step None q rest = rest
    step (Some y) q rest = All-cons P y (filter_map h xs) (q y refl) rest

pub links_are_nodes : (modules : List Module) → AreNodes (links modules)
links_are_nodes modules = All-map (λ ts. All (λ t. t < length (links modules)) ts) (links_of modules) modules
    (λ k d l. all_filtered (λ (i : Ident). definition_of modules i.name) (λ t. t < length (links modules))
    (λ (i : Ident) t e. rw (length-map modules (links_of modules)) (first_within (defines i.name) modules t e))
    (imports_of (get_or modules k d)))

pub first_later_at : {X : Type 0} (t : X → Bool) (xs : List X) (i : ℕ) (d : X) → i < length xs
    → first_that t (take i xs) ≡ None → t (get_or xs i d) ≡ false → first_that t (take (i + 1) xs) ≡ None
first_later_at t xs i d l n h = subst (λ (k : ℕ). first_that t (take k xs) ≡ None) (sym (add-one i))
    (none_more t xs i d l n h)

pub first_here_at : {X : Type 0} (t : X → Bool) (xs : List X) (i : ℕ) (d : X) → i < length xs
    → first_that t (take i xs) ≡ None → t (get_or xs i d) ≡ true → Some i ≡ first_that t xs
first_here_at t xs i d l n h = sym (found t xs i d l n h)

pub filtered_more_at : {X Y : Type 0} (h : X → Option Y) (xs : List X) (i : ℕ) (d : X) (out out' : List Y)
    → i < length xs → out ≡ filter_map h (take i xs) → out' ≡ out ++ option_to_list (h (get_or xs i d))
    → out' ≡ filter_map h (take (i + 1) xs)
filtered_more_at h xs i d out out' l is is' = is' ∙ ap (λ ys. ys ++ option_to_list (h (get_or xs i d))) is
    ∙ ap (λ ys. filter_map h (take i xs) ++ ys) (sym (one_filtered h (get_or xs i d)))
    ∙ sym (filter_map-append h (take i xs) (get_or xs i d ∷ [])) ∙ ap (filter_map h) (sym (take_more xs i d l))

pub module_at : (xs : List (Bor Module)) (i : ℕ) (b : Bor Module) (d : Module) → i < length xs → b ≡ get_or xs i b
    → get_or (map (λ (m : Bor Module). m.now) xs) i d ≡ b.now
module_at xs i b d l e = get_or-map (λ (m : Bor Module). m.now) xs i b d l ∙ ap (λ (m : Bor Module). m.now) (sym e)

links_below : (modules : List Module) (m : Module) → All (λ t. t < length modules) (links_of modules m)
links_below modules m = all_filtered (λ (i : Ident). definition_of modules i.name) (λ t. t < length modules)
    (λ (i : Ident) t e. first_within (defines i.name) modules t e) (imports_of m)

body_below : (modules : List Module) (m : Module) → All (λ t. t < length modules) (body_links modules m)
body_below modules m = step (is_definition m) (first_that (implements m.name.name) modules)
  where
    step : (b : Bool) (o : Option ℕ) → All (λ t. t < length modules) (cond b (links_at modules m o) [])
    step false o = All-nil (λ t. t < length modules)
    step true None = All-nil (λ t. t < length modules)
    step true (Some i) = links_below modules (get_or modules i m)

pub walks_are_nodes : (modules : List Module) → AreNodes (walks modules)
walks_are_nodes modules = All-map (λ ts. All (λ t. t < length (walks modules)) ts) (walk_of modules) modules
    (λ k d l. subst (λ (n : ℕ). All (λ t. t < n) (walk_of modules (get_or modules k d)))
    (sym (length-map modules (walk_of modules)))
    (All-append (λ t. t < length modules) (links_of modules (get_or modules k d))
    (body_links modules (get_or modules k d)) (links_below modules (get_or modules k d))
    (body_below modules (get_or modules k d))))
