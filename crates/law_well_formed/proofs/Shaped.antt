-- The tree of each type that is known is by its shape, and the types that it names are known.
use Rattle.std.proofs.Common.{◌≡◌, ℕ, zero, suc, ◌+◌, ◌==◌, Bool, true, false, cond, List, [], ◌∷◌, ◌++◌, length, Option, Some, None, refl, sym, ap, subst, ◌∙◌, arith}
use Rattle.std.proofs.lemmas.Bool.{eqb-true}
use Rattle.std.specs.Prelude.{slice_get}
use Rattle.std.specs.List.{AllByRecursion}
use Rattle.std.specs.Option.{is_some}
use Rattle.typed_tree.specs.declared.types.Home.{Home}
use Rattle.typed_tree.specs.declared.types.Home.TheVariants.{Predeclared, Module}
use Rattle.typed_tree.specs.declared.types.TypeNo.{TypeNo}
use Rattle.typed_tree.specs.declared.shape.Made.{Made}
use Rattle.typed_tree.specs.declared.known_types.Types.{Types}
use Rattle.typed_tree.specs.Known.{made_at, made_from, in_list}
use Rattle.layout_storage.specs.Types.{Ty}
use Rattle.layout_storage.specs.Shapes.{Trees, or_nothing, in_module, tree_in, shape_tree, with_made, module_trees, other_trees, known_trees, tree}
use Rattle.law_well_formed.specs.Ordered.{named_by, is_known_from, is_known, AreKnown, AreOrderedFrom, BeginsWith, AreOrdered}
use Rattle.law_well_formed.proofs.Trees.{at, at_placed, get_more, long_more, append_more, fold_more, some_of, itself, alike_there, Placed, placed, is_among_from, is_among, made_by, in_some, known_among, tree_agree, shape_same, from_made, kept_made, made_shaped, made_same, from_others, kept_others, free_others, same_others}

-- ---- lists of facts

pub all_weaker : {X : Type 0} (p q : X → Bool) → ((x : X) → p x ≡ true → q x ≡ true) → (xs : List X)
    → AllByRecursion (λ x. p x ≡ true) xs → AllByRecursion (λ x. q x ≡ true) xs
all_weaker p q k [] h = tt
all_weaker p q k (x ∷ xs) h = (k x h.0, all_weaker p q k xs h.1)

-- ---- the names of one type

-- a type names what stands before it among all these
record Names (before : List (ℕ × List Made)) (h : ℕ) (all : List Made) (m : Made) : Type 0 where
  own : List Made
  more : List Made
  is : own ++ more ≡ all
  known : AreKnown (made_by h own before) (named_by m.shape)

names_at : (before : List (ℕ × List Made)) (h : ℕ) (ms own : List Made) → AreOrderedFrom before h own ms
    → (n : ℕ) (m : Made) → slice_get ms n ≡ Some m → Names before h (own ++ ms) m
names_at before h [] own o n m e = absurd cc
names_at before h (x ∷ ms) own o zero m e = let same : x ≡ m = cc in
    record {
      own = own;
      more = x ∷ ms;
      is = refl;
      known =
          subst (λ (y : Made). AreKnown (made_by h own before) (named_by y.shape)) same o.0.known;
    }
names_at before h (x ∷ ms) own o (suc n) m e =
    subst (λ (all : List Made). Names before h all m) (append_more own x ms)
    (names_at before h ms (own ++ x ∷ []) o.1 n m e)

module _ (types : Types) where
  long_all : (bs : Trees) (h : ℕ) (ms : List Made) (ts : List Ty)
      → length (from_made types bs h ts ms) ≡ length ts + length ms
  long_all bs h [] ts = omega arith
  long_all bs h (x ∷ ms) ts =
      let a : length (with_made types bs h ts x) ≡ length ts + 1 = long_more ts _ in
      let b : length (from_made types bs h (with_made types bs h ts x) ms)
      ≡ length (with_made types bs h ts x) + length ms = long_all bs h ms (with_made types bs h ts x) in
      omega (arith, a, b)

  -- ---- a module among the others

  module _ (k : ℕ) (ms : List Made) (p : Placed types.others k ms) where
    abbrev first : Trees
    first = from_others types [] p.before

    abbrev its : List Ty
    its = module_trees types first k ms

    others_are : other_trees types ≡ from_others types (first ++ (k, its) ∷ []) p.rest
    others_are = ap (λ (es : List (ℕ × List Made)). from_others types [] es) p.is
        ∙ fold_more _ [] p.before ((k, ms) ∷ p.rest)

    found_its : at k (other_trees types) ≡ Some its
    found_its = ap (λ (bs : Trees). at k bs) others_are
        ∙ kept_others types p.rest (first ++ (k, its) ∷ []) k its
        (at_placed k first its [] (free_others types p.before [] k refl p.free))

    before_same : (j : ℕ) → is_some (at j p.before) ≡ true → at j first ≡ at j (other_trees types)
    before_same j e = same_others types p.before ((k, its) ∷ []) p.rest j e
        ∙ sym (ap (λ (bs : Trees). at j bs) others_are)

    -- what is in front is found behind it as well
    shadow : (u : TypeNo) → tree_in ((k, its) ∷ other_trees types) u ≡ tree_in (other_trees types) u
    shadow u = from u.home u.number where
      by : (j n : ℕ) (b : Bool) → (j == k) ≡ b
          → in_module (cond b (Some its) (at j (other_trees types))) n ≡ in_module (at j (other_trees types)) n
      by j n true q = ap (λ (o : Option (List Ty)). in_module o n)
          (sym (ap (λ (i : ℕ). at i (other_trees types)) (eqb-true j k q) ∙ found_its))
      by j n false q = refl

      from : (h : Home) (n : ℕ) → tree_in ((k, its) ∷ other_trees types) (record { home = h; number = n })
          ≡ tree_in (other_trees types) (record { home = h; number = n })
      from Predeclared n = refl
      from (Module j) n = by j n (j == k) refl

    seen_alike : (own : List Made) (u : TypeNo) → is_known (made_by k own p.before) u ≡ true
        → tree_in ((k, its) ∷ first) u ≡ tree_in (other_trees types) u
    seen_alike own u e = tree_agree types k own p.before its its first (other_trees types) (λ n g. refl) before_same u e
        ∙ shadow u

    other_names : (n : ℕ) (m : Made) → slice_get ms n ≡ Some m → Names p.before k ms m
    other_names n m g = names_at p.before k ms [] p.ordered n m g

    other_shaped : (n : ℕ) (m : Made) → slice_get ms n ≡ Some m
        → slice_get its n ≡ Some (shape_tree types (other_trees types) (record { home = Module k; number = n }) m.shape)
    other_shaped n m g =
        let names = other_names n m g in
        let one : slice_get its (0 + n) ≡ Some
        (shape_tree types ((k, its) ∷ first) (record { home = Module k; number = 0 + n }) m.shape) =
        made_shaped types first k p.before ms [] [] p.ordered refl n m g in
        let two : slice_get its n ≡ Some (shape_tree types ((k, its) ∷ first) (record { home = Module k; number = n })
        m.shape)
        = subst (λ (i : ℕ). slice_get its i ≡ Some
        (shape_tree types ((k, its) ∷ first) (record { home = Module k; number = i }) m.shape)) (omega arith) one in
        two ∙ ap Some (shape_same types (is_known (made_by k names.own p.before)) ((k, its) ∷ first) (other_trees types)
        (seen_alike names.own) (record { home = Module k; number = n }) m.shape names.known)

    pub others_named : (n : ℕ) (m : Made) → slice_get ms n ≡ Some m
        → AllByRecursion (λ u. is_among types.others u ≡ true) (named_by m.shape)
    others_named n m g =
        let names = other_names n m g in
        all_weaker (is_known (made_by k names.own p.before)) (is_among types.others) (λ u e.
        subst (λ (es : List (ℕ × List Made)). is_among es u ≡ true) (sym p.is)
        (subst (λ (l : List Made). is_among (p.before ++ (k, l) ∷ p.rest) u ≡ true) names.is
        (known_among p.before p.rest k names.own names.more p.free u e))) (named_by m.shape) names.known

  -- ---- all types

  abbrev own_trees : List Ty
  own_trees = module_trees types (other_trees types) types.home types.own

  abbrev all_trees : Trees
  all_trees = (types.home, own_trees) ∷ other_trees types

  module _ (o : AreOrdered types) where
    begins : (ms : List Made) → at types.home types.others ≡ Some ms → BeginsWith types.own (Some ms)
    begins ms e = subst (λ (x : Option (List Made)). BeginsWith types.own x) e o.alike

    begins_same : (ms : List Made) (p : Placed types.others types.home ms) → BeginsWith types.own (Some ms) → (n : ℕ)
        → is_some (slice_get ms n) ≡ true → slice_get (its types.home ms p) n ≡ slice_get own_trees n
    begins_same ms p b n e =
        let front : List Ty = module_trees types (other_trees types) types.home ms in
        let one : its types.home ms p ≡ front =
        made_same types (first types.home ms p) (other_trees types) types.home p.before
        (before_same types.home ms p) ms [] [] p.ordered in
        let two : own_trees ≡ from_made types (other_trees types) types.home front b.0 =
        ap (λ (l : List Made). module_trees types (other_trees types) types.home l) b.1 ∙ fold_more _ [] ms b.0 in
        let long : length front ≡ 0 + length ms = long_all (other_trees types) types.home ms [] in
        let there : is_some (slice_get front n) ≡ true = alike_there front ms n (omega (arith, long)) ∙ e in
        ap (λ (ts : List Ty). slice_get ts n) one
        ∙ sym (ap (λ (ts : List Ty). slice_get ts n) two
        ∙ kept_made types (other_trees types) types.home b.0 front n there)

    -- a type among the others
    record Among (k n : ℕ) : Type 0 where
      ms : List Made
      at_others : at k types.others ≡ Some ms
      there : is_some (slice_get ms n) ≡ true

    among_of : (k n : ℕ) → is_some (in_list n (at k types.others)) ≡ true → Among k n
    among_of k n e =
        let x = some_of (at k types.others) (in_some n (at k types.others) e) in
        record {
          ms = x.0;
          at_others = x.1;
          there = sym (ap (λ (l : Option (List Made)). is_some (in_list n l)) x.1)
              ∙ e;
        }

    all_agree : (u : TypeNo) → is_among types.others u ≡ true → tree_in (other_trees types) u ≡ tree_in all_trees u
    all_agree u e = from u.home u.number e where
      here : (n : ℕ) → Among types.home n → in_module (at types.home (other_trees types)) n
          ≡ in_module (Some own_trees) n
      here n a =
          let p : Placed types.others types.home a.ms = placed types o types.home a.ms a.at_others in
          ap (λ (l : Option (List Ty)). in_module l n) (found_its types.home a.ms p)
          ∙ ap or_nothing (begins_same a.ms p (begins a.ms a.at_others) n a.there)

      by : (j n : ℕ) (b : Bool) → (j == types.home) ≡ b → Among j n
          → in_module (at j (other_trees types)) n ≡ in_module (cond b (Some own_trees) (at j (other_trees types))) n
      by j n true q a =
          let same : j ≡ types.home = eqb-true j types.home q in
          ap (λ (i : ℕ). in_module (at i (other_trees types)) n) same ∙ here n (subst (λ (i : ℕ). Among i n) same a)
      by j n false q a = refl

      from : (h : Home) (n : ℕ) → is_among_from types.others h n ≡ true
          → tree_in (other_trees types) (record { home = h; number = n })
          ≡ tree_in all_trees (record { home = h; number = n })
      from Predeclared n g = refl
      from (Module j) n g = by j n (j == types.home) refl (among_of j n g)

    pub all_known : (u : TypeNo) → is_among types.others u ≡ true → is_known types u ≡ true
    all_known u e = from u.home u.number e where
      here : (n : ℕ) → Among types.home n → is_some (slice_get types.own n) ≡ true
      here n a =
          let b : BeginsWith types.own (Some a.ms) = begins a.ms a.at_others in
          ap (λ (l : List Made). is_some (slice_get l n)) b.1 ∙ ap is_some (get_more a.ms b.0 n a.there) ∙ a.there

      by : (j n : ℕ) (b : Bool) → (j == types.home) ≡ b → is_some (in_list n (at j types.others)) ≡ true
          → is_some (cond b (slice_get types.own n) (in_list n (at j types.others))) ≡ true
      by j n true q g = here n (subst (λ (i : ℕ). Among i n) (eqb-true j types.home q) (among_of j n g))
      by j n false q g = g

      from : (h : Home) (n : ℕ) → is_among_from types.others h n ≡ true → is_known_from types h n ≡ true
      from Predeclared n g = g
      from (Module j) n g = by j n (j == types.home) refl g

    -- a type of the module itself
    own_known : (own more : List Made) → own ++ more ≡ types.own → (u : TypeNo)
        → is_known (made_by types.home own types.others) u ≡ true → is_known types u ≡ true
    own_known own more q u e = from u.home u.number e where
      by : (j n : ℕ) (b : Bool) → is_some (cond b (slice_get own n) (in_list n (at j types.others))) ≡ true
          → is_some (cond b (slice_get types.own n) (in_list n (at j types.others))) ≡ true
      by j n true g = ap (λ (l : List Made). is_some (slice_get l n)) (sym q) ∙ ap is_some (get_more own more n g) ∙ g
      by j n false g = g

      from : (h : Home) (n : ℕ) → is_known_from (made_by types.home own types.others) h n ≡ true
          → is_known_from types h n ≡ true
      from Predeclared n g = g
      from (Module j) n g = by j n (j == types.home) g

    own_shaped : (n : ℕ) (m : Made) → slice_get types.own n ≡ Some m
        → slice_get own_trees n ≡ Some (shape_tree types all_trees (record { home = Module types.home; number = n })
        m.shape)
    own_shaped n m g =
        let one : slice_get own_trees (0 + n)
        ≡ Some (shape_tree types all_trees (record { home = Module types.home; number = 0 + n }) m.shape)
        = made_shaped types (other_trees types) types.home types.others types.own [] [] o.own refl n m g in
        subst (λ (i : ℕ). slice_get own_trees i
        ≡ Some (shape_tree types all_trees (record { home = Module types.home; number = i }) m.shape)) (omega arith)
        one

    -- ---- the laws

    abbrev Found : ℕ → ℕ → Made → Type 0
    Found k n m = (in_module (at k all_trees) n
        ≡ shape_tree types all_trees (record { home = Module k; number = n }) m.shape)
        × AreKnown types (named_by m.shape)

    found_own : (n : ℕ) (m : Made) → slice_get types.own n ≡ Some m → Found types.home n m
    found_own n m g =
        let names = names_at types.others types.home types.own [] o.own n m g in
        let head : at types.home all_trees ≡ Some own_trees =
        ap (λ (b : Bool). cond b (Some own_trees) (at types.home (other_trees types))) (itself types.home) in (
          ap (λ (l : Option (List Ty)). in_module l n) head ∙ ap or_nothing (own_shaped n m g),
          all_weaker (is_known (made_by types.home names.own types.others)) (is_known types)
              (own_known names.own names.more names.is) (named_by m.shape) names.known,
        )

    found_other : (k n : ℕ) (ms : List Made) (m : Made) → (k == types.home) ≡ false → at k types.others ≡ Some ms
        → slice_get ms n ≡ Some m → Found k n m
    found_other k n ms m q e g =
        let p : Placed types.others k ms = placed types o k ms e in
        let names = others_named k ms p n m g in
        let behind : at k all_trees ≡ at k (other_trees types) =
        ap (λ (b : Bool). cond b (Some own_trees) (at k (other_trees types))) q in
        let one : in_module (at k all_trees) n
        ≡ shape_tree types (other_trees types) (record { home = Module k; number = n }) m.shape
        = ap (λ (l : Option (List Ty)). in_module l n) (behind ∙ found_its k ms p)
        ∙ ap or_nothing (other_shaped k ms p n m g) in (
          one ∙ shape_same types (is_among types.others) (other_trees types) all_trees all_agree
              (record { home = Module k; number = n }) m.shape names,
          all_weaker (is_among types.others) (is_known types) all_known (named_by m.shape) names,
        )

    found_in : (k n : ℕ) (m : Made) (l : Option (List Made)) → (k == types.home) ≡ false → at k types.others ≡ l
        → in_list n l ≡ Some m → Found k n m
    found_in k n m None q e g = absurd cc
    found_in k n m (Some ms) q e g = found_other k n ms m q e g

    found_by : (k n : ℕ) (m : Made) (b : Bool) → (k == types.home) ≡ b
        → cond b (slice_get types.own n) (in_list n (at k types.others)) ≡ Some m → Found k n m
    found_by k n m true q g = subst (λ (i : ℕ). Found i n m) (sym (eqb-true k types.home q)) (found_own n m g)
    found_by k n m false q g = found_in k n m (at k types.others) q refl g

    found_from : (h : Home) (n : ℕ) (m : Made) → made_from types h n ≡ Some m
        → (tree_in all_trees (record { home = h; number = n })
        ≡ shape_tree types all_trees (record { home = h; number = n }) m.shape) × AreKnown types (named_by m.shape)
    found_from Predeclared n m g = absurd cc
    found_from (Module k) n m g = found_by k n m (k == types.home) refl g

    pub tree_shaped : (t : TypeNo) (m : Made) → made_at types t ≡ Some m
        → tree types t ≡ shape_tree types (known_trees types) t m.shape
    unfolding known_trees
    tree_shaped t m e = (found_from t.home t.number m e).0

    pub named_known : (t : TypeNo) (m : Made) → made_at types t ≡ Some m → AreKnown types (named_by m.shape)
    named_known t m e = (found_from t.home t.number m e).1
