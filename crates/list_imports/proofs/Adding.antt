-- Texts that are added in turn.
use Rattle.std.proofs.Common.{◌≡◌, ℕ, ◌+◌, ◌<◌, Bool, true, false, cond, List, [], ◌∷◌, ◌++◌, map, take, get_or, length, refl, sym, ap, subst, ◌∙◌}
use Rattle.std.specs.Prelude.{not, ◌||◌}
use Rattle.std.specs.List.{filter, flat_map, list_any}
use Rattle.std.specs.Str.Lossy.{utf8_lossy}
use Rattle.std.proofs.lemmas.List.{append-nil, append_assoc, map-append, take_more, flat_map_more}
use Rattle.std.proofs.lemmas.List.Elements.{filter-append, filter_agree}
use Rattle.std.proofs.lemmas.List.Folds.{list_any-append}
use lib.Pointwise.{bytes_decides}
use Rattle.m2_tree.specs.declared.name.Ident.{Ident}
use Rattle.m2_tree.specs.declared.decl.Import.{Import}
use Rattle.m2_tree.specs.Names.{same_name, is_console}
use Rattle.list_imports.specs.Listed.{names_of, import_names, told, without, once, with_new}

abbrev Texts : Type 0
Texts = List (List ℕ)

abbrev is_known : Texts → List ℕ → Bool
is_known known t = list_any (same_name t) known

-- ---- what is left out

left_step : (test : List ℕ → Bool) (p q : Bool) (t : List ℕ) (inner all : Texts) → test t ≡ not p
    → filter test inner ≡ all → filter test (cond (not q) (t ∷ inner) inner) ≡ cond (not (p || q)) (t ∷ all) all
left_step test true true t inner all e h = h
left_step test true false t inner all e h = rw (e, h)
left_step test false true t inner all e h = h
left_step test false false t inner all e h = rw (e, h)

-- what is in neither of two lists
without_both : (known more ts : Texts) → without known (without more ts) ≡ without (known ++ more) ts
without_both known more [] = refl
without_both known more (t ∷ ts) =
    let all = without (known ++ more) ts in
    left_step (λ t. not (is_known known t)) (is_known known t) (is_known more t) t (without more ts) all refl
    (without_both known more ts)
    ∙ ap (λ (b : Bool). cond (not b) (t ∷ all) all) (sym (list_any-append (same_name t) known more))

or_false : (b : Bool) → (b || (false || false)) ≡ b
or_false true = refl
or_false false = refl

again_by : (b : Bool) (known : Texts) (x t : List ℕ) → same_name t x ≡ b → is_known known x ≡ true
    → (is_known known t || (b || false)) ≡ is_known known t
again_by true known x t s h =
    let there : is_known known t ≡ true = ap (is_known known) ((bytes_decides t x).0 s) ∙ h in
    ap (λ (b : Bool). b || (true || false)) there ∙ sym there
again_by false known x t s h = or_false (is_known known t)

-- what is known already leaves out no more
without_again : (known : Texts) (x : List ℕ) (ts : Texts) → is_known known x ≡ true
    → without (known ++ x ∷ []) ts ≡ without known ts
without_again known x ts h =
    filter_agree (λ t. not (is_known (known ++ x ∷ []) t)) (λ t. not (is_known known t))
    (λ t. ap not (list_any-append (same_name t) known (x ∷ []) ∙ again_by (same_name t x) known x t refl h)) ts

without_none : (ts : Texts) → without [] ts ≡ ts
without_none [] = refl
without_none (t ∷ ts) = ap (λ (us : Texts). t ∷ us) (without_none ts)

-- ---- what is added

abbrev grown : Texts → Texts → Texts
grown known ts = known ++ without known (once ts)

one_by : (b : Bool) (known : Texts) (x : List ℕ) (ts : Texts) → is_known known x ≡ b
    → grown (known ++ cond (not b) (x ∷ []) []) ts
    ≡ known ++ (let rest = without known (without (x ∷ []) (once ts)) in cond (not b) (x ∷ rest) rest)
one_by true known x ts s =
    ap (λ (ks : Texts). grown ks ts) (append-nil known)
    ∙ ap (λ (us : Texts). known ++ us)
    (sym (without_again known x (once ts) s) ∙ sym (without_both known (x ∷ []) (once ts)))
one_by false known x ts s =
    append_assoc known (x ∷ []) (without (known ++ x ∷ []) (once ts))
    ∙ ap (λ (us : Texts). known ++ (x ∷ us)) (sym (without_both known (x ∷ []) (once ts)))

one_more : (known : Texts) (x : List ℕ) (ts : Texts) → with_new (with_new known (x ∷ [])) ts ≡ with_new known (x ∷ ts)
one_more known x ts = one_by (is_known known x) known x ts refl

-- some, and then more
with_more : (xs ys known : Texts) → with_new (with_new known xs) ys ≡ with_new known (xs ++ ys)
with_more [] ys known = ap (λ (ks : Texts). with_new ks ys) (append-nil known)
with_more (x ∷ xs) ys known =
    ap (λ (ks : Texts). with_new ks ys) (sym (one_more known x xs))
    ∙ with_more xs ys (with_new known (x ∷ [])) ∙ one_more known x (xs ++ ys)

-- all are new where nothing is known
pub all_new : (ts : Texts) → with_new [] ts ≡ once ts
all_new ts = without_none (once ts)

-- ---- names

abbrev is_told : List ℕ → Bool
is_told n = not (is_console n)

told-append : (xs ys : Texts) → told (xs ++ ys) ≡ told xs ++ told ys
told-append xs ys =
    ap (λ (ns : Texts). map utf8_lossy ns) (filter-append is_told xs ys)
    ∙ map-append utf8_lossy (filter is_told xs) (filter is_told ys)

-- names, and then more names
pub told_more : (start now new xs ys : Texts) → now ≡ with_new start (told xs) → new ≡ with_new now (told ys)
    → new ≡ with_new start (told (xs ++ ys))
told_more start now new xs ys h e =
    e ∙ ap (λ (ks : Texts). with_new ks (told ys)) h ∙ with_more (told xs) (told ys) start
    ∙ ap (with_new start) (sym (told-append xs ys))

-- one more element of a list
pub taken : {X : Type 0} (xs : List X) (k : ℕ) (x : X) → k < length xs → x ≡ get_or xs k x
    → take k xs ++ x ∷ [] ≡ take (k + 1) xs
taken xs k x l is = ap (λ y. take k xs ++ y ∷ []) is ∙ sym (take_more xs k x l)

pub idents_more : (start now new : Texts) (is : List Ident) (k : ℕ) (i : Ident) → k < length is → i ≡ get_or is k i
    → now ≡ with_new start (told (names_of (take k is))) → new ≡ with_new now (told (i.name ∷ []))
    → new ≡ with_new start (told (names_of (take (k + 1) is)))
idents_more start now new is k i l at h e =
    told_more start now new (names_of (take k is)) (names_of (i ∷ [])) h e
    ∙ ap (λ (ns : Texts). with_new start (told ns))
    (sym (map-append (λ (i : Ident). i.name) (take k is) (i ∷ [])) ∙ ap names_of (taken is k i l at))

abbrev names_in : List Import → Texts
names_in is = flat_map import_names is

imports_step : (start now new : Texts) (is : List Import) (k : ℕ) (i : Import) → k < length is → i ≡ get_or is k i
    → now ≡ with_new start (told (names_in (take k is))) → new ≡ with_new now (told (import_names i))
    → new ≡ with_new start (told (names_in (take (k + 1) is)))
imports_step start now new is k i l at h e =
    told_more start now new (names_in (take k is)) (import_names i) h e
    ∙ ap (λ (ns : Texts). with_new start (told ns))
    (flat_map_more import_names [] (take k is) i ∙ ap names_in (taken is k i l at))

-- the same of the list that a loop goes over
pub imports_more : (start now new : Texts) (is items : List Import) (k : ℕ) (i : Import) → items ≡ is
    → k < length items → i ≡ get_or items k i → now ≡ with_new start (told (flat_map import_names (take k is)))
    → new ≡ with_new now (told (import_names i))
    → new ≡ with_new start (told (flat_map import_names (take (k + 1) is)))
imports_more start now new is items k i same l at h e =
    imports_step start now new is k i (subst (λ (js : List Import). k < length js) same l)
    (subst (λ (js : List Import). i ≡ get_or js k i) same at) h e
