-- Of the imports of a module, a part leaves out none but those that came before and Console.
use Rattle.std.proofs.Common.{◌≡◌, ℕ, Bool, true, false, cond, ◌||◌, ◌==◌, List, [], ◌∷◌, map, refl, sym, ap, ap₂, ◌∙◌, inl, inr, eq-eqb, Option, Some, None}
use Rattle.std.specs.List.{filter_map, cons_option}
use Rattle.std.specs.Option.{option_map}
use Rattle.std.specs.Cmp.Lexicographic.{bytes_decides}
use Rattle.std.proofs.lemmas.Bool.{or_cases, or_left, or_right}
use Rattle.std.proofs.lemmas.Option.{none-some, same_Some}
use Rattle.m2_tree.specs.Names.{same_name}
use Rattle.m2_tree.specs.declared.name.Ident.{Ident}
use Rattle.graph_walk.specs.Links.{has}
use Rattle.law_graph.proofs.Lists.{Among, later_among}
use Rattle.law_linking.specs.Parts.{unless}
use Rattle.law_linking.proofs.Thinning.{Thins}

-- ---- filters

pub filtered_same : {X Y : Type 0} (h g : X → Option Y) (xs : List X) → ((x : X) → Among xs x → h x ≡ g x)
    → filter_map h xs ≡ filter_map g xs
filtered_same h g [] e = refl
filtered_same {X} {Y} h g (x ∷ xs) e = ap₂ (λ (o : Option Y) (ys : List Y). cons_option o ys) (e x (0, refl))
    (filtered_same h g xs (λ y a. e y (later_among x xs y a)))

pub filtered_mapped : (h : List ℕ → Option ℕ) (f : ℕ → ℕ) (xs : List (List ℕ))
    → map f (filter_map h xs) ≡ filter_map (λ x. option_map f (h x)) xs
filtered_mapped h f [] = refl
filtered_mapped h f (x ∷ xs) = by (filtered_mapped h f xs) (h x)
  where
    by : map f (filter_map h xs) ≡ filter_map (λ y. option_map f (h y)) xs → (o : Option ℕ)
        → map f (cons_option o (filter_map h xs))
        ≡ cons_option (option_map f o) (filter_map (λ y. option_map f (h y)) xs)
    by e None = e
    by e (Some k) = ap (λ (ks : List ℕ). f k ∷ ks) e

pub named_filter : (h : List ℕ → Option ℕ) (is : List Ident)
    → filter_map (λ (i : Ident). h i.name) is ≡ filter_map h (map (λ (i : Ident). i.name) is)
named_filter h [] = refl
named_filter h (i ∷ is) = ap (λ (ks : List ℕ). cons_option (h i.name) ks) (named_filter h is)

-- ---- names that are left out

module _ (h : List ℕ → Option ℕ) where
  -- what marked names mean was seen
  abbrev Known : (List ℕ → Bool) → List ℕ → Type 0
  Known marked seen = (n : List ℕ) (k : ℕ) → marked n ≡ true → h n ≡ Some k → has seen k ≡ true

  abbrev Thinned : (names : List (List ℕ)) (marked : List ℕ → Bool) → List ℕ → Type 0
  Thinned names marked seen = Thins seen (filter_map h names) (filter_map h (unless marked names))

  -- one name more
  abbrev more : (List ℕ → Bool) → List ℕ → List ℕ → Bool
  more marked x n = marked n || same_name x n

  none_more : (x : List ℕ) (marked : List ℕ → Bool) (seen : List ℕ) → Known marked seen → h x ≡ None
      → Known (more marked x) seen
  none_more x marked seen known e n k m f = elim (or_cases (marked n) (same_name x n) m) [
    | inl old ↦ known n k old f
    | inr here ↦ absurd (none-some k (sym e ∙ ap h ((bytes_decides x n).0 here) ∙ f))
  ]

  some_more : (x : List ℕ) (marked : List ℕ → Bool) (seen : List ℕ) → Known marked seen → (t : ℕ) → h x ≡ Some t
      → Known (more marked x) (t ∷ seen)
  some_more x marked seen known t e n k m f = elim (or_cases (marked n) (same_name x n) m) [
    | inl old ↦ or_right (t == k) (has seen k) (known n k old f)
    | inr here ↦ or_left (t == k) (has seen k)
        (eq-eqb t k (same_Some t k (sym e ∙ ap h ((bytes_decides x n).0 here) ∙ f)))
  ]

  -- a name that is left out, and one that is not
  left_out : (x : List ℕ) (xs : List (List ℕ)) (marked : List ℕ → Bool) (seen : List ℕ) → Known marked seen
      → marked x ≡ true → Thinned xs marked seen → Thins seen (filter_map h (x ∷ xs)) (filter_map h (unless marked xs))
  left_out x xs marked seen known m rest = by (h x) refl
    where
      by : (o : Option ℕ) → h x ≡ o → Thins seen (cons_option o (filter_map h xs)) (filter_map h (unless marked xs))
      by None e = rest
      by (Some t) e = inl (known x t m e, rest)

  kept : (x : List ℕ) (xs : List (List ℕ)) (marked : List ℕ → Bool) (seen : List ℕ)
      → (h x ≡ None → Thinned xs (more marked x) seen)
      → ((t : ℕ) → h x ≡ Some t → Thinned xs (more marked x) (t ∷ seen))
      → Thins seen (filter_map h (x ∷ xs)) (filter_map h (x ∷ unless (more marked x) xs))
  kept x xs marked seen none some = by (h x) refl
    where
      by : (o : Option ℕ) → h x ≡ o → Thins seen (cons_option o (filter_map h xs))
          (cons_option o (filter_map h (unless (more marked x) xs)))
      by None e = none e
      by (Some t) e = inr (filter_map h (unless (more marked x) xs), refl, some t e)

  by_mark : (x : List ℕ) (xs : List (List ℕ)) (marked : List ℕ → Bool) (seen : List ℕ)
      → (marked x ≡ true → Thins seen (filter_map h (x ∷ xs)) (filter_map h (unless marked xs)))
      → Thins seen (filter_map h (x ∷ xs)) (filter_map h (x ∷ unless (more marked x) xs)) → Thinned (x ∷ xs) marked seen
  by_mark x xs marked seen out stays = by (marked x) refl
    where
      by : (b : Bool) → marked x ≡ b → Thins seen (filter_map h (x ∷ xs))
          (filter_map h (cond b (unless marked xs) (x ∷ unless (more marked x) xs)))
      by true m = out m
      by false m = stays

  -- What names mean, thinned by what was seen, is what those of them mean that have no mark, each at its first place.
  pub thins : (names : List (List ℕ)) (marked : List ℕ → Bool) (seen : List ℕ) → Known marked seen
      → Thinned names marked seen
  thins [] marked seen known = refl
  thins (x ∷ xs) marked seen known = by_mark x xs marked seen
      (λ m. left_out x xs marked seen known m (thins xs marked seen known))
      (kept x xs marked seen
      (λ e. thins xs (more marked x) seen (none_more x marked seen known e))
      (λ t e. thins xs (more marked x) (t ∷ seen) (some_more x marked seen known t e)))
