-- The names that are told of a module's imports are those that its part has.
use Rattle.std.proofs.Common.{◌≡◌, ℕ, Bool, true, false, cond, List, [], ◌∷◌, map, Some, refl, sym, ap, ◌∙◌, inl, inr}
use Rattle.std.specs.Prelude.{not, ◌||◌}
use Rattle.std.specs.List.{filter, list_any}
use Rattle.std.specs.Str.Lossy.{utf8_lossy}
use Rattle.std.specs.Cmp.Lexicographic.{bytes_decides}
use Rattle.std.proofs.lemmas.Bool.{false≢true}
use Rattle.m2_tree.specs.declared.name.Ident.{Ident}
use Rattle.m2_tree.specs.Names.{same_name, is_console}
use Rattle.law_graph.proofs.Lists.{Among, none_among, later_among, among_cases}
use Rattle.list_imports.specs.Listed.{told, without, once}
use Rattle.law_linking.specs.Parts.{unless, each_once}
use Rattle.law_compiling.proofs.Words.{AreWords, word_text}

abbrev Names : Type 0
Names = List (List ℕ)

-- ---- filters

filters : (f g : List ℕ → Bool) (xs : Names) → filter f (filter g xs) ≡ filter g (filter f xs)
filters f g [] = refl
filters f g (x ∷ xs) = by (f x) (g x) refl refl (filters f g xs)
  where
    by : (a b : Bool) → f x ≡ a → g x ≡ b → filter f (filter g xs) ≡ filter g (filter f xs)
        → filter f (cond b (x ∷ filter g xs) (filter g xs)) ≡ filter g (cond a (x ∷ filter f xs) (filter f xs))
    by true true p q e =
        ap (λ (c : Bool). cond c (x ∷ filter f (filter g xs)) (filter f (filter g xs))) p
        ∙ ap (λ (ys : Names). x ∷ ys) e
        ∙ sym (ap (λ (c : Bool). cond c (x ∷ filter g (filter f xs)) (filter g (filter f xs))) q)
    by true false p q e =
        e ∙ sym (ap (λ (c : Bool). cond c (x ∷ filter g (filter f xs)) (filter g (filter f xs))) q)
    by false true p q e =
        ap (λ (c : Bool). cond c (x ∷ filter f (filter g xs)) (filter f (filter g xs))) p ∙ e
    by false false p q e = e

-- what is left out anyway
left_out : (f : List ℕ → Bool) (x : List ℕ) (xs : Names) → f x ≡ false
    → filter f (without (x ∷ []) xs) ≡ filter f xs
left_out f x [] e = refl
left_out f x (y ∷ ys) e = by (same_name y x) refl (left_out f x ys e)
  where
    by : (b : Bool) → same_name y x ≡ b → filter f (without (x ∷ []) ys) ≡ filter f ys
        → filter f (cond (not (b || false)) (y ∷ without (x ∷ []) ys) (without (x ∷ []) ys)) ≡ filter f (y ∷ ys)
    by true s h =
        let no : f y ≡ false = ap f ((bytes_decides y x).0 s) ∙ e in
        h ∙ sym (ap (λ (c : Bool). cond c (y ∷ filter f ys) (filter f ys)) no)
    by false s h = ap (λ (zs : Names). cond (f y) (y ∷ zs) zs) h

-- names that pass a test, each once
once_filter : (f : List ℕ → Bool) (xs : Names) → once (filter f xs) ≡ filter f (once xs)
once_filter f [] = refl
once_filter f (x ∷ xs) = by (f x) refl (once_filter f xs)
  where
    rest : Names
    rest = without (x ∷ []) (once xs)

    by : (b : Bool) → f x ≡ b → once (filter f xs) ≡ filter f (once xs)
        → once (cond b (x ∷ filter f xs) (filter f xs)) ≡ filter f (x ∷ rest)
    by true p e =
        ap (λ (ys : Names). x ∷ without (x ∷ []) ys) e
        ∙ ap (λ (ys : Names). x ∷ ys) (filters (λ t. not (list_any (same_name t) (x ∷ []))) f (once xs))
        ∙ sym (ap (λ (c : Bool). cond c (x ∷ filter f rest) (filter f rest)) p)
    by false p e =
        e ∙ sym (left_out f x (once xs) p)
        ∙ sym (ap (λ (c : Bool). cond c (x ∷ filter f rest) (filter f rest)) p)

-- ---- names that have no mark, each at its first place

filter_same : (f g : List ℕ → Bool) → ((n : List ℕ) → f n ≡ g n) → (xs : Names) → filter f xs ≡ filter g xs
filter_same f g h [] = refl
filter_same f g h (x ∷ xs) =
    ap (λ (c : Bool). cond c (x ∷ filter f xs) (filter f xs)) (h x)
    ∙ ap (λ (ys : Names). cond (g x) (x ∷ ys) ys) (filter_same f g h xs)

same_turned : (x n : List ℕ) → same_name x n ≡ same_name n x
same_turned x n = by (same_name x n) (same_name n x) refl refl
  where
    by : (a b : Bool) → same_name x n ≡ a → same_name n x ≡ b → a ≡ b
    by true true p q = refl
    by false false p q = refl
    by true false p q = absurd (false≢true
        (sym q ∙ (bytes_decides n x).1 (sym ((bytes_decides x n).0 p))))
    by false true p q = absurd (false≢true
        (sym p ∙ (bytes_decides x n).1 (sym ((bytes_decides n x).0 q))))

both_marks : (marked : List ℕ → Bool) (x : List ℕ) (xs : Names)
    → filter (λ n. not (marked n || same_name x n)) xs ≡ without (x ∷ []) (filter (λ n. not (marked n)) xs)
both_marks marked x [] = refl
both_marks marked x (y ∷ ys) = by (marked y) (same_name x y) refl (same_turned x y) (both_marks marked x ys)
  where
    more : Names
    more = filter (λ n. not (marked n || same_name x n)) ys

    kept : Names
    kept = filter (λ n. not (marked n)) ys

    by : (a b : Bool) → same_name x y ≡ b → same_name x y ≡ same_name y x → more ≡ without (x ∷ []) kept
        → cond (not (a || b)) (y ∷ more) more ≡ without (x ∷ []) (cond (not a) (y ∷ kept) kept)
    by true b p s e = e
    by false true p s e =
        e ∙ sym (ap (λ (c : Bool). cond (not (c || false)) (y ∷ without (x ∷ []) kept) (without (x ∷ []) kept))
        (sym s ∙ p))
    by false false p s e =
        ap (λ (zs : Names). y ∷ zs) e
        ∙ sym (ap (λ (c : Bool). cond (not (c || false)) (y ∷ without (x ∷ []) kept) (without (x ∷ []) kept))
        (sym s ∙ p))

unless_once : (xs : Names) (marked : List ℕ → Bool) → unless marked xs ≡ once (filter (λ n. not (marked n)) xs)
unless_once [] marked = refl
unless_once (x ∷ xs) marked = by (marked x) (unless_once xs marked)
    (unless_once xs (λ n. marked n || same_name x n))
  where
    kept : Names
    kept = filter (λ n. not (marked n)) xs

    by : (b : Bool) → unless marked xs ≡ once kept
        → unless (λ n. marked n || same_name x n) xs ≡ once (filter (λ n. not (marked n || same_name x n)) xs)
        → cond b (unless marked xs) (x ∷ unless (λ n. marked n || same_name x n) xs)
        ≡ once (cond (not b) (x ∷ kept) kept)
    by true out stays = out
    by false out stays =
        ap (λ (ys : Names). x ∷ ys) (stays ∙ ap once (both_marks marked x xs)
        ∙ once_filter (λ t. not (list_any (same_name t) (x ∷ []))) kept)

-- ---- what is told

words_told : (is : List Ident) → AreWords is
    → told (map (λ (i : Ident). i.name) is) ≡ filter (λ n. not (is_console n)) (map (λ (i : Ident). i.name) is)
words_told [] h = refl
words_told (i ∷ is) h = by (is_console i.name) (words_told is h.1)
  where
    names : Names
    names = map (λ (j : Ident). j.name) is

    kept : Names
    kept = filter (λ n. not (is_console n)) names

    by : (b : Bool) → map utf8_lossy kept ≡ kept
        → map utf8_lossy (cond (not b) (i.name ∷ kept) kept) ≡ cond (not b) (i.name ∷ kept) kept
    by true e = e
    by false e = ap (λ (n : List ℕ). n ∷ map utf8_lossy kept) (word_text i.name h.0)
        ∙ ap (λ (ys : Names). i.name ∷ ys) e

-- Names that are words are told as they are, each once, without Console.
pub told_once : (is : List Ident) → AreWords is
    → once (told (map (λ (i : Ident). i.name) is)) ≡ each_once (map (λ (i : Ident). i.name) is)
told_once is h = ap once (words_told is h) ∙ sym (unless_once (map (λ (i : Ident). i.name) is) is_console)

-- No name is told that was not there.
pub unless_among : (marked : List ℕ → Bool) (xs : Names) (n : List ℕ) → Among (unless marked xs) n → Among xs n
unless_among marked [] n a = absurd (none_among n a)
unless_among marked (x ∷ xs) n a = by (λ f i. unless_among f xs n i) (marked x) a
  where
    by : ((f : List ℕ → Bool) → Among (unless f xs) n → Among xs n) → (b : Bool)
        → Among (cond b (unless marked xs) (x ∷ unless (λ m. marked m || same_name x m) xs)) n
        → Among (x ∷ xs) n
    by rest true a = later_among x xs n (rest marked a)
    by rest false a = elim (among_cases x (unless (λ m. marked m || same_name x m) xs) n a) [
      | inl e ↦ (0, ap Some e)
      | inr more ↦ later_among x xs n (rest (λ m. marked m || same_name x m) more)
    ]
