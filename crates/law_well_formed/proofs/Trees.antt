-- The trees of types that stand in order.
use Rattle.std.proofs.Common.{◌≡◌, ℕ, zero, suc, ◌+◌, ◌==◌, Bool, true, false, cond, List, [], ◌∷◌, ◌++◌, length, Option, Some, None, refl, sym, ap, subst, ◌∙◌, arith}
use Rattle.std.proofs.lemmas.Bool.{eqb-true, eqb-false}
use Rattle.std.specs.Prelude.{slice_get, nat_eq, nat_lt, map}
use Rattle.std.specs.List.{AllByRecursion, fold}
use Rattle.std.specs.Map.{lookup}
use Rattle.std.specs.Option.{is_some}
use Rattle.typed_tree.specs.declared.types.Home.{Home}
use Rattle.typed_tree.specs.declared.types.Home.TheVariants.{Predeclared, Module}
use Rattle.typed_tree.specs.declared.types.TypeNo.{TypeNo}
use Rattle.typed_tree.specs.declared.shape.Formal.{Formal}
use Rattle.typed_tree.specs.declared.shape.Shape.{Shape}
use Rattle.typed_tree.specs.declared.shape.Shape.TheVariants as shape
use Rattle.typed_tree.specs.declared.shape.Made.{Made}
use Rattle.typed_tree.specs.declared.known_types.Types.{Types}
use Rattle.typed_tree.specs.Known.{scalar_at, in_list}
use Rattle.layout_storage.specs.Types.{Ty, Callable, Cell, Array, Heading, Function, Takes, row}
use Rattle.layout_storage.specs.Shapes.{Trees, or_nothing, in_module, tree_in, passing_of, result_tree, heading_tree, shape_tree, with_made, module_trees, with_module, elements_of}
use Rattle.law_modules.specs.There.{predeclared_types}
use Rattle.law_well_formed.specs.Ordered.{result_named, named_by, is_known_from, is_known, AreOrderedFrom, OthersOrdered, AreOrdered}

-- ---- numbers and lists

pub itself : (n : ℕ) → (n == n) ≡ true
itself n = by (n == n) refl where
  by : (b : Bool) → (n == n) ≡ b → b ≡ true
  by true e = refl
  by false e = absurd (eqb-false n n e refl)

pub get_more : {X : Type 0} (xs ys : List X) (n : ℕ) → is_some (slice_get xs n) ≡ true
    → slice_get (xs ++ ys) n ≡ slice_get xs n
get_more [] ys n e = absurd cc
get_more (x ∷ xs) ys zero e = refl
get_more (x ∷ xs) ys (suc n) e = get_more xs ys n e

get_at : {X : Type 0} (xs : List X) (x : X) (ys : List X) → slice_get (xs ++ x ∷ ys) (length xs) ≡ Some x
get_at [] x ys = refl
get_at (y ∷ xs) x ys = get_at xs x ys

-- where two lists are equally long, a place of the one is a place of the other
pub alike_there : {X Y : Type 0} (xs : List X) (ys : List Y) (n : ℕ) → length xs ≡ length ys
    → is_some (slice_get xs n) ≡ is_some (slice_get ys n)
alike_there [] [] n e = refl
alike_there [] (y ∷ ys) n e = absurd (omega (arith, e))
alike_there (x ∷ xs) [] n e = absurd (omega (arith, e))
alike_there (x ∷ xs) (y ∷ ys) zero e = refl
alike_there (x ∷ xs) (y ∷ ys) (suc n) e = alike_there xs ys n (omega (arith, e))

pub long_more : {X : Type 0} (xs : List X) (x : X) → length (xs ++ x ∷ []) ≡ length xs + 1
long_more [] x = refl
long_more (y ∷ xs) x = let k : length (xs ++ x ∷ []) ≡ length xs + 1 = long_more xs x in omega (arith, k)

pub append_more : {X : Type 0} (xs : List X) (x : X) (ys : List X) → (xs ++ x ∷ []) ++ ys ≡ xs ++ x ∷ ys
append_more [] x ys = refl
append_more (y ∷ xs) x ys = ap (λ (zs : List _). y ∷ zs) (append_more xs x ys)

pub fold_more : {A B : Type 0} (f : B → A → B) (b : B) (xs ys : List A) → fold f b (xs ++ ys) ≡ fold f (fold f b xs) ys
fold_more f b [] ys = refl
fold_more f b (x ∷ xs) ys = fold_more f (f b x) xs ys

pub some_of : {X : Type 0} (o : Option X) → is_some o ≡ true → (x : X) × (o ≡ Some x)
some_of None e = absurd cc
some_of (Some x) e = (x, refl)

-- ---- numbers of modules

abbrev pub at : {X : Type 0} → ℕ → List (ℕ × X) → Option X
at k es = lookup (nat_eq k) es

pub at_more : {X : Type 0} (k : ℕ) (xs ys : List (ℕ × X)) (x : X) → at k xs ≡ Some x → at k (xs ++ ys) ≡ Some x
at_more k [] ys x e = absurd cc
at_more k (y ∷ xs) ys x e = by (nat_eq k y.0) (at_more k xs ys x) e where
  by : (b : Bool) → (at k xs ≡ Some x → at k (xs ++ ys) ≡ Some x) → cond b (Some y.1) (at k xs) ≡ Some x
      → cond b (Some y.1) (at k (xs ++ ys)) ≡ Some x
  by true on e = e
  by false on e = on e

pub at_behind : {X : Type 0} (k : ℕ) (xs ys : List (ℕ × X)) → at k xs ≡ None → at k (xs ++ ys) ≡ at k ys
at_behind k [] ys e = refl
at_behind k (y ∷ xs) ys e = by (nat_eq k y.0) (at_behind k xs ys) e where
  by : (b : Bool) → (at k xs ≡ None → at k (xs ++ ys) ≡ at k ys) → cond b (Some y.1) (at k xs) ≡ None
      → cond b (Some y.1) (at k (xs ++ ys)) ≡ at k ys
  by true on e = absurd cc
  by false on e = on e

pub at_first : {X : Type 0} (k : ℕ) (x : X) (ys : List (ℕ × X)) → at k ((k, x) ∷ ys) ≡ Some x
at_first k x ys = ap (λ (b : Bool). cond b (Some x) (at k ys)) (itself k)

pub at_placed : {X : Type 0} (k : ℕ) (xs : List (ℕ × X)) (x : X) (ys : List (ℕ × X)) → at k xs ≡ None
    → at k (xs ++ (k, x) ∷ ys) ≡ Some x
at_placed k xs x ys e = at_behind k xs ((k, x) ∷ ys) e ∙ at_first k x ys

some_more : {X : Type 0} (k : ℕ) (xs ys : List (ℕ × X)) → is_some (at k xs) ≡ true → at k (xs ++ ys) ≡ at k xs
some_more k xs ys e = let x = some_of (at k xs) e in at_more k xs ys x.0 x.1 ∙ sym x.1

-- ---- a module among the others

pub record Placed (others : List (ℕ × List Made)) (k : ℕ) (ms : List Made) : Type 0 where
  pub before : List (ℕ × List Made)
  pub rest : List (ℕ × List Made)
  pub is : others ≡ before ++ (k, ms) ∷ rest
  pub free : at k before ≡ None
  pub ordered : AreOrderedFrom before k [] ms

pub placed_from : (before rest : List (ℕ × List Made)) (k : ℕ) (ms : List Made) → OthersOrdered before rest
    → at k before ≡ None → at k rest ≡ Some ms → Placed (before ++ rest) k ms
placed_from before [] k ms h f e = absurd cc
placed_from before (x ∷ rest) k ms h f e =
    by (nat_eq k x.0) refl (placed_from (before ++ x ∷ []) rest k ms h.1.1) e where
      here : k ≡ x.0 → Some x.1 ≡ Some ms → Placed (before ++ x ∷ rest) k ms
      here q g =
          let same : x.1 ≡ ms = cc in
          record {
            before = before;
            rest = rest;
            is = ap (λ (i : ℕ). before ++ (i, x.1) ∷ rest) (sym q)
                ∙ ap (λ (l : List Made). before ++ (k, l) ∷ rest) same;
            free = f;
            ordered = subst (λ (l : List Made). AreOrderedFrom before k [] l) same
                (subst (λ (i : ℕ). AreOrderedFrom before i [] x.1) (sym q) h.1.0);
          }

      other : nat_eq k x.0 ≡ false → at k (before ++ x ∷ []) ≡ None
      other q = at_behind k before (x ∷ []) f ∙ ap (λ (b : Bool). cond b (Some x.1) None) q

      by : (b : Bool) → nat_eq k x.0 ≡ b → (at k (before ++ x ∷ []) ≡ None → at k rest ≡ Some ms
          → Placed ((before ++ x ∷ []) ++ rest) k ms) → cond b (Some x.1) (at k rest) ≡ Some ms
          → Placed (before ++ x ∷ rest) k ms
      by true q on g = here (eqb-true k x.0 q) g
      by false q on g = subst (λ (l : List (ℕ × List Made)). Placed l k ms) (append_more before x rest) (on (other q) g)

pub placed : (types : Types) → AreOrdered types → (k : ℕ) (ms : List Made) → at k types.others ≡ Some ms
    → Placed types.others k ms
placed types h k ms e = placed_from [] types.others k ms h.others refl e

-- ---- types among the others

abbrev pub is_among_from : List (ℕ × List Made) → Home → ℕ → Bool
is_among_from others Predeclared n = nat_lt n predeclared_types
is_among_from others (Module k) n = is_some (in_list n (at k others))

abbrev pub is_among : List (ℕ × List Made) → TypeNo → Bool
is_among others u = is_among_from others u.home u.number

abbrev pub made_by : ℕ → List Made → List (ℕ × List Made) → Types
made_by home own others = record { home = home; own = own; others = others }

pub in_some : (n : ℕ) (o : Option (List Made)) → is_some (in_list n o) ≡ true → is_some o ≡ true
in_some n None e = absurd cc
in_some n (Some ms) e = refl

-- what is known of the types of a module among the others, stands among the others
pub known_among : (before rest : List (ℕ × List Made)) (k : ℕ) (own more : List Made) → at k before ≡ None
    → (u : TypeNo) → is_known (made_by k own before) u ≡ true → is_among (before ++ (k, own ++ more) ∷ rest) u ≡ true
known_among before rest k own more f u e = from u.home u.number e where
  all : List (ℕ × List Made)
  all = before ++ (k, own ++ more) ∷ rest

  here : (j n : ℕ) → j ≡ k → is_some (slice_get own n) ≡ true
      → is_some (in_list n (at j (before ++ (k, own ++ more) ∷ rest))) ≡ true
  here j n q g = ap (λ (i : ℕ). is_some (in_list n (at i (before ++ (k, own ++ more) ∷ rest)))) q
      ∙ ap (λ (o : Option (List Made)). is_some (in_list n o)) (at_placed k before (own ++ more) rest f)
      ∙ ap is_some (get_more own more n g) ∙ g

  there : (j n : ℕ) → is_some (in_list n (at j before)) ≡ true
      → is_some (in_list n (at j (before ++ (k, own ++ more) ∷ rest))) ≡ true
  there j n g = ap (λ (o : Option (List Made)). is_some (in_list n o))
      (some_more j before ((k, own ++ more) ∷ rest) (in_some n (at j before) g)) ∙ g

  by : (j n : ℕ) (b : Bool) → (j == k) ≡ b → is_some (cond b (slice_get own n) (in_list n (at j before))) ≡ true
      → is_some (in_list n (at j (before ++ (k, own ++ more) ∷ rest))) ≡ true
  by j n true q g = here j n (eqb-true j k q) g
  by j n false q g = there j n g

  from : (h : Home) (n : ℕ) → is_known_from (made_by k own before) h n ≡ true
      → is_among_from (before ++ (k, own ++ more) ∷ rest) h n ≡ true
  from Predeclared n g = g
  from (Module j) n g = by j n (j == k) refl g

-- ---- trees that are alike at what is known

module _ (types : Types) where
  pub tree_agree : (h : ℕ) (own : List Made) (before : List (ℕ × List Made)) (ts us : List Ty) (bs cs : Trees)
      → ((n : ℕ) → is_some (slice_get own n) ≡ true → slice_get ts n ≡ slice_get us n)
      → ((k : ℕ) → is_some (at k before) ≡ true → at k bs ≡ at k cs) → (u : TypeNo)
      → is_known (made_by h own before) u ≡ true → tree_in ((h, ts) ∷ bs) u ≡ tree_in ((h, us) ∷ cs) u
  tree_agree h own before ts us bs cs p q u e = from u.home u.number e where
    by : (k n : ℕ) (b : Bool) → is_some (cond b (slice_get own n) (in_list n (at k before))) ≡ true
        → in_module (cond b (Some ts) (at k bs)) n ≡ in_module (cond b (Some us) (at k cs)) n
    by k n true g = ap or_nothing (p n g)
    by k n false g = ap (λ (o : Option (List Ty)). in_module o n) (q k (in_some n (at k before) g))

    from : (home : Home) (n : ℕ) → is_known_from (made_by h own before) home n ≡ true
        → tree_in ((h, ts) ∷ bs) (record { home = home; number = n })
        ≡ tree_in ((h, us) ∷ cs) (record { home = home; number = n })
    from Predeclared n g = refl
    from (Module k) n g = by k n (k == h) g

  fields_same : (q : TypeNo → Bool) (bs cs : Trees) → ((u : TypeNo) → q u ≡ true → tree_in bs u ≡ tree_in cs u)
      → (fs : List (List ℕ × TypeNo)) → AllByRecursion (λ u. q u ≡ true) (map (λ f. f.1) fs)
      → map (λ f. tree_in bs f.1) fs ≡ map (λ f. tree_in cs f.1) fs
  fields_same q bs cs same [] p = refl
  fields_same q bs cs same (f ∷ fs) p = ap (λ (t : Ty). t ∷ map (λ f. tree_in bs f.1) fs) (same f.1 p.0)
      ∙ ap (λ (ts : List Ty). tree_in cs f.1 ∷ ts) (fields_same q bs cs same fs p.1)

  result_same : (q : TypeNo → Bool) (bs cs : Trees) → ((u : TypeNo) → q u ≡ true → tree_in bs u ≡ tree_in cs u)
      → (r : Option TypeNo) → AllByRecursion (λ u. q u ≡ true) (result_named r) → result_tree bs r ≡ result_tree cs r
  result_same q bs cs same None p = refl
  result_same q bs cs same (Some t) p = ap Function (same t p.0)

  heading_same : (q : TypeNo → Bool) (bs cs : Trees) → ((u : TypeNo) → q u ≡ true → tree_in bs u ≡ tree_in cs u)
      → (fs : List Formal) (r : Option TypeNo) → AllByRecursion (λ u. q u ≡ true) (map (λ f. f.of) fs ++ result_named r)
      → heading_tree bs fs r ≡ heading_tree cs fs r
  heading_same q bs cs same [] r p = result_same q bs cs same r p
  heading_same q bs cs same (f ∷ fs) r p =
      ap (λ (t : Ty). Takes (passing_of f) t (heading_tree bs fs r)) (same f.of p.0)
      ∙ ap (λ (h : Heading). Takes (passing_of f) (tree_in cs f.of) h) (heading_same q bs cs same fs r p.1)

  -- shapes whose named types have the same trees
  pub shape_same : (q : TypeNo → Bool) (bs cs : Trees) → ((u : TypeNo) → q u ≡ true → tree_in bs u ≡ tree_in cs u)
      → (t : TypeNo) (s : Shape) → AllByRecursion (λ u. q u ≡ true) (named_by s)
      → shape_tree types bs t s ≡ shape_tree types cs t s
  shape_same q bs cs same t (shape.Scalar s) p = refl
  shape_same q bs cs same t shape.Set p = refl
  shape_same q bs cs same t (shape.Array i e) p =
      ap (λ (x : Ty). Array (elements_of (scalar_at types i)) x) (same e p.1.0)
  shape_same q bs cs same t (shape.Record fs) p = ap row (fields_same q bs cs same fs p)
  shape_same q bs cs same t (shape.Procedure s) p =
      ap (λ (h : Heading). Cell (Callable h)) (heading_same q bs cs same s.formals s.result p)
  shape_same q bs cs same t (shape.Open e) p = refl

  -- ---- the trees of one module

  abbrev pub from_made : Trees → ℕ → List Ty → List Made → List Ty
  from_made bs h ts ms = fold (with_made types bs h) ts ms

  pub kept_made : (bs : Trees) (h : ℕ) (ms : List Made) (ts : List Ty) (n : ℕ) → is_some (slice_get ts n) ≡ true
      → slice_get (from_made bs h ts ms) n ≡ slice_get ts n
  kept_made bs h [] ts n e = refl
  kept_made bs h (m ∷ ms) ts n e =
      let step : slice_get (with_made types bs h ts m) n ≡ slice_get ts n = get_more ts _ n e in
      kept_made bs h ms (with_made types bs h ts m) n (ap is_some step ∙ e) ∙ step

  long_made : (bs : Trees) (h : ℕ) (ts : List Ty) (own : List Made) (m : Made) → length ts ≡ length own
      → length (with_made types bs h ts m) ≡ length (own ++ m ∷ [])
  long_made bs h ts own m e =
      let a : length (with_made types bs h ts m) ≡ length ts + 1 = long_more ts _ in
      let b : length (own ++ m ∷ []) ≡ length own + 1 = long_more own m in omega (arith, a, b, e)

  there_by : (own : List Made) (ts : List Ty) → length ts ≡ length own → (n : ℕ) → is_some (slice_get own n) ≡ true
      → is_some (slice_get ts n) ≡ true
  there_by own ts e n g = alike_there ts own n e ∙ g

  last_made : (bs : Trees) (h : ℕ) (ts : List Ty) (m : Made)
      → slice_get (with_made types bs h ts m) (length ts)
      ≡ Some (shape_tree types ((h, ts) ∷ bs) (record { home = Module h; number = length ts }) m.shape)
  last_made bs h ts m = get_at ts _ []

  -- each by its shape, from those of the module and those before it
  pub made_shaped : (bs : Trees) (h : ℕ) (before : List (ℕ × List Made)) (ms own : List Made) (ts : List Ty)
      → AreOrderedFrom before h own ms → length ts ≡ length own → (n : ℕ) (m : Made) → slice_get ms n ≡ Some m
      → slice_get (from_made bs h ts ms) (length own + n)
      ≡ Some (shape_tree types ((h, from_made bs h ts ms) ∷ bs)
      (record { home = Module h; number = length own + n }) m.shape)
  made_shaped bs h before [] own ts o e n m g = absurd cc
  made_shaped bs h before (x ∷ ms) own ts o e zero m g =
      let same : x ≡ m = cc in
      let us : List Ty = with_made types bs h ts x in
      let all : List Ty = from_made bs h us ms in
      let place : length own + 0 ≡ length ts = omega (arith, e) in
      let last : slice_get us (length ts) ≡ Some
      (shape_tree types ((h, ts) ∷ bs) (record { home = Module h; number = length ts }) x.shape) =
      last_made bs h ts x in
      let kept : slice_get all (length ts) ≡ slice_get us (length ts) =
      kept_made bs h ms us (length ts) (ap is_some last) in
      let agree : (n : ℕ) → is_some (slice_get own n) ≡ true → slice_get ts n ≡ slice_get all n = λ n g.
      let one : is_some (slice_get ts n) ≡ true = there_by own ts e n g in
      let two : slice_get us n ≡ slice_get ts n = get_more ts _ n one in
      sym (kept_made bs h ms us n (ap is_some two ∙ one) ∙ two) in
      let shaped : shape_tree types ((h, ts) ∷ bs) (record { home = Module h; number = length ts }) x.shape
      ≡ shape_tree types ((h, all) ∷ bs) (record { home = Module h; number = length ts }) x.shape
      = shape_same (is_known (made_by h own before)) ((h, ts) ∷ bs) ((h, all) ∷ bs)
      (tree_agree h own before ts all bs bs agree (λ k g. refl)) (record { home = Module h; number = length ts })
      x.shape o.0.known in
      let found : slice_get all (length ts) ≡ Some
      (shape_tree types ((h, all) ∷ bs) (record { home = Module h; number = length ts }) x.shape) = kept ∙ last
      ∙ ap Some shaped in
      subst (λ (y : Made). slice_get all (length own + 0)
      ≡ Some (shape_tree types ((h, all) ∷ bs) (record { home = Module h; number = length own + 0 }) y.shape)) same
      (subst (λ (i : ℕ). slice_get all i ≡ Some
      (shape_tree types ((h, all) ∷ bs) (record { home = Module h; number = i }) x.shape)) (sym place) found)
  made_shaped bs h before (x ∷ ms) own ts o e (suc n) m g =
      let us : List Ty = with_made types bs h ts x in
      let all : List Ty = from_made bs h us ms in
      let longer : length (own ++ x ∷ []) ≡ length own + 1 = long_more own x in
      let place : length (own ++ x ∷ []) + n ≡ length own + suc n = omega (arith, longer) in
      subst (λ (i : ℕ). slice_get all i ≡ Some
      (shape_tree types ((h, all) ∷ bs) (record { home = Module h; number = i }) m.shape)) place
      (made_shaped bs h before ms (own ++ x ∷ []) us o.1 (long_made bs h ts own x e) n m g)

  -- the same trees where those before are the same
  pub made_same : (bs cs : Trees) (h : ℕ) (before : List (ℕ × List Made))
      → ((k : ℕ) → is_some (at k before) ≡ true → at k bs ≡ at k cs) → (ms own : List Made) (ts : List Ty)
      → AreOrderedFrom before h own ms → from_made bs h ts ms ≡ from_made cs h ts ms
  made_same bs cs h before same [] own ts o = refl
  made_same bs cs h before same (x ∷ ms) own ts o =
      let shaped : shape_tree types ((h, ts) ∷ bs) (record { home = Module h; number = length ts }) x.shape
      ≡ shape_tree types ((h, ts) ∷ cs) (record { home = Module h; number = length ts }) x.shape
      = shape_same (is_known (made_by h own before)) ((h, ts) ∷ bs) ((h, ts) ∷ cs)
      (tree_agree h own before ts ts bs cs (λ n g. refl) same) (record { home = Module h; number = length ts })
      x.shape o.0.known in
      ap (λ (t : Ty). from_made bs h (ts ++ t ∷ []) ms) shaped
      ∙ made_same bs cs h before same ms (own ++ x ∷ []) (with_made types cs h ts x) o.1

  -- ---- the trees of the others

  abbrev pub from_others : Trees → List (ℕ × List Made) → Trees
  from_others bs es = fold (with_module types) bs es

  pub kept_others : (es : List (ℕ × List Made)) (bs : Trees) (k : ℕ) (ts : List Ty) → at k bs ≡ Some ts
      → at k (from_others bs es) ≡ Some ts
  kept_others [] bs k ts e = e
  kept_others (x ∷ es) bs k ts e = kept_others es (with_module types bs x) k ts (at_more k bs _ ts e)

  pub free_others : (es : List (ℕ × List Made)) (bs : Trees) (k : ℕ) → at k bs ≡ None → at k es ≡ None
      → at k (from_others bs es) ≡ None
  free_others [] bs k e f = e
  free_others (x ∷ es) bs k e f = by (nat_eq k x.0) refl (free_others es (with_module types bs x) k) f where
    by : (b : Bool) → nat_eq k x.0 ≡ b → (at k (with_module types bs x) ≡ None → at k es ≡ None
        → at k (from_others (with_module types bs x) es) ≡ None) → cond b (Some x.1) (at k es) ≡ None
        → at k (from_others (with_module types bs x) es) ≡ None
    by true q on g = absurd cc
    by false q on g = on (at_behind k bs _ e ∙ ap (λ (b : Bool). cond b (Some (module_trees types bs x.0 x.1)) None) q)
        g

  has_others : (es : List (ℕ × List Made)) (bs : Trees) (k : ℕ) → at k bs ≡ None → is_some (at k es) ≡ true
      → is_some (at k (from_others bs es)) ≡ true
  has_others [] bs k e f = absurd cc
  has_others (x ∷ es) bs k e f = by (nat_eq k x.0) refl (has_others es (with_module types bs x) k) f where
    by : (b : Bool) → nat_eq k x.0 ≡ b → (at k (with_module types bs x) ≡ None → is_some (at k es) ≡ true
        → is_some (at k (from_others (with_module types bs x) es)) ≡ true)
        → is_some (cond b (Some x.1) (at k es)) ≡ true → is_some (at k (from_others (with_module types bs x) es)) ≡ true
    by true q on g = ap is_some (kept_others es (with_module types bs x) k (module_trees types bs x.0 x.1)
        (at_behind k bs _ e ∙ ap (λ (b : Bool). cond b (Some (module_trees types bs x.0 x.1)) None) q))
    by false q on g = on (at_behind k bs _ e ∙ ap (λ (b : Bool). cond b (Some (module_trees types bs x.0 x.1)) None) q)
        g

  -- those of modules that stand before are among all
  pub same_others : (before : List (ℕ × List Made)) (cs : Trees) (rest : List (ℕ × List Made)) (k : ℕ)
      → is_some (at k before) ≡ true → at k (from_others [] before)
      ≡ at k (from_others (from_others [] before ++ cs) rest)
  same_others before cs rest k e =
      let x = some_of (at k (from_others [] before)) (has_others before [] k refl e) in
      x.1 ∙ sym (kept_others rest (from_others [] before ++ cs) k x.0
      (at_more k (from_others [] before) cs x.0 x.1))
