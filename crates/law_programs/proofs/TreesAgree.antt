-- Two modules that know the types that a table reaches have the same trees of them.
use Rattle.std.proofs.Common.{◌≡◌, ℕ, zero, suc, ◌+◌, ◌<◌, ◌==◌, Bool, true, false, cond, List, [], ◌∷◌, ◌++◌, length, Option, Some, None, refl, sym, ap, subst, ◌∙◌, arith}
use Rattle.std.proofs.lemmas.Bool.{eqb-true}
use Rattle.std.proofs.lemmas.List.{append-nil}
use Rattle.std.specs.Prelude.{slice_get, nat_eq, map}
use Rattle.std.specs.List.{AllByRecursion, fold}
use Rattle.std.specs.Option.{is_some}
use Rattle.typed_tree.specs.declared.types.Home.{Home}
use Rattle.typed_tree.specs.declared.types.Home.TheVariants.{Predeclared, Module}
use Rattle.typed_tree.specs.declared.types.TypeNo.{TypeNo}
use Rattle.typed_tree.specs.declared.shape.Scalar.{Scalar as Range}
use Rattle.typed_tree.specs.declared.shape.Formal.{Formal}
use Rattle.typed_tree.specs.declared.shape.Shape.{Shape}
use Rattle.typed_tree.specs.declared.shape.Shape.TheVariants as shape
use Rattle.typed_tree.specs.declared.shape.Made.{Made}
use Rattle.typed_tree.specs.declared.meaning.Meaning.{Meaning}
use Rattle.typed_tree.specs.declared.meaning.Meaning.TheVariants as meaning
use Rattle.typed_tree.specs.declared.table.ModuleTypes.{ModuleTypes}
use Rattle.typed_tree.specs.declared.table.Table.{Table}
use Rattle.typed_tree.specs.declared.known_types.Types.{Types}
use Rattle.typed_tree.specs.Known.{in_list, made_in, scalar_at, scalar_from, scalar_made}
use Rattle.layout_storage.specs.Types.{Ty, Callable, Cell, Array, Heading, Function, Takes, row}
use Rattle.layout_storage.specs.Shapes.{elements_of, passing_of, result_tree, heading_tree, shape_tree, known_trees, tree}
use Rattle.check_body.specs.Own.{with_variable_of, with_exported_variable, exported_variables}
use Rattle.law_well_formed.specs.Ordered.{result_named, named_by, is_known_from, is_known, AreKnown, AreOrderedFrom, OthersOrdered, AreOrdered}
use Rattle.law_well_formed.proofs.Trees.{at, at_more, at_behind, at_placed, append_more, some_of, made_by, is_among_from, is_among, known_among}
use Rattle.law_well_formed.proofs.Shaped.{tree_shaped}
use Rattle.law_well_formed.proofs.Prefixes.{get_here, type_no, Steps, all_others}
use Rattle.law_well_formed.specs.FormedOrder.{ExportsOrdered}
use Rattle.law_well_formed.specs.FormedKnown.{HasReached, entries_of, TableFormed}
use Rattle.law_well_formed.proofs.Gathered.{each_more}

-- ---- two modules

module _ (a b : Types) (p : AreOrdered a) (q : AreOrdered b) (es : List (ℕ × List Made))
    (has : (k : ℕ) (l : List Made) → at k es ≡ Some l → (n : ℕ) (x : Made) → slice_get l n ≡ Some x
    → (made_in a k n ≡ Some x) × (made_in b k n ≡ Some x)) where
  same_made : (k n : ℕ) → is_some (in_list n (at k es)) ≡ true → made_in a k n ≡ made_in b k n
  same_made k n e = by (at k es) refl e where
    by : (o : Option (List Made)) → at k es ≡ o → is_some (in_list n o) ≡ true → made_in a k n ≡ made_in b k n
    by None f g = absurd cc
    by (Some l) f g = let x = some_of (slice_get l n) g in let h = has k l f n x.0 x.1 in h.0 ∙ sym h.1

  same_scalar : (u : TypeNo) → is_among es u ≡ true → scalar_at a u ≡ scalar_at b u
  same_scalar u e = from u.home u.number e where
    from : (h : Home) (n : ℕ) → is_among_from es h n ≡ true → scalar_from a h n ≡ scalar_from b h n
    from Predeclared n g = refl
    from (Module k) n g = ap scalar_made (same_made k n g)

  -- ---- by shapes

  fields_agree : (c : TypeNo → Bool) → ((u : TypeNo) → c u ≡ true → tree a u ≡ tree b u) → (fs : List (List ℕ × TypeNo))
      → AllByRecursion (λ u. c u ≡ true) (map (λ f. f.1) fs) → map (λ f. tree a f.1) fs ≡ map (λ f. tree b f.1) fs
  fields_agree c same [] h = refl
  fields_agree c same (f ∷ fs) h = ap (λ (t : Ty). t ∷ map (λ f. tree a f.1) fs) (same f.1 h.0)
      ∙ ap (λ (ts : List Ty). tree b f.1 ∷ ts) (fields_agree c same fs h.1)

  result_agrees : (c : TypeNo → Bool) → ((u : TypeNo) → c u ≡ true → tree a u ≡ tree b u) → (r : Option TypeNo)
      → AllByRecursion (λ u. c u ≡ true) (result_named r)
      → result_tree (known_trees a) r ≡ result_tree (known_trees b) r
  result_agrees c same None h = refl
  result_agrees c same (Some t) h = ap Function (same t h.0)

  headings_agree : (c : TypeNo → Bool) → ((u : TypeNo) → c u ≡ true → tree a u ≡ tree b u)
      → (fs : List Formal) (r : Option TypeNo) → AllByRecursion (λ u. c u ≡ true) (map (λ f. f.of) fs ++ result_named r)
      → heading_tree (known_trees a) fs r ≡ heading_tree (known_trees b) fs r
  headings_agree c same [] r h = result_agrees c same r h
  headings_agree c same (f ∷ fs) r h =
      ap (λ (t : Ty). Takes (passing_of f) t (heading_tree (known_trees a) fs r)) (same f.of h.0)
      ∙ ap (λ (x : Heading). Takes (passing_of f) (tree b f.of) x) (headings_agree c same fs r h.1)

  shapes_agree : (c : TypeNo → Bool) → ((u : TypeNo) → c u ≡ true → tree a u ≡ tree b u)
      → ((u : TypeNo) → c u ≡ true → scalar_at a u ≡ scalar_at b u) → (t : TypeNo) (s : Shape)
      → AllByRecursion (λ u. c u ≡ true) (named_by s)
      → shape_tree a (known_trees a) t s ≡ shape_tree b (known_trees b) t s
  shapes_agree c same scalar t (shape.Scalar s) h = refl
  shapes_agree c same scalar t shape.Set h = refl
  shapes_agree c same scalar t (shape.Array i e) h =
      ap (λ (o : Option Range). Array (elements_of o) (tree a e)) (scalar i h.0)
      ∙ ap (λ (x : Ty). Array (elements_of (scalar_at b i)) x) (same e h.1.0)
  shapes_agree c same scalar t (shape.Record fs) h = ap row (fields_agree c same fs h)
  shapes_agree c same scalar t (shape.Procedure s) h =
      ap (λ (x : Heading). Cell (Callable x)) (headings_agree c same s.formals s.result h)
  shapes_agree c same scalar t (shape.Open e) h = refl

  -- ---- all types

  abbrev Agrees : TypeNo → Type 0
  Agrees u = tree a u ≡ tree b u

  plain_agree : (n : ℕ) → Agrees (type_no Predeclared n)
  unfolding known_trees
  plain_agree n = refl

  one_agrees : (before rest : List (ℕ × List Made)) (k : ℕ) (all : List Made) → before ++ (k, all) ∷ rest ≡ es
      → at k before ≡ None → Steps Agrees plain_agree before k all
  one_agrees before rest k all is free own x ms e follows same =
      let t : TypeNo = type_no (Module k) (length own) in
      let there : at k es ≡ Some all = ap (λ (xs : List (ℕ × List Made)). at k xs) (sym is)
      ∙ at_placed k before all rest free in
      let made = has k all there (length own) x
      (ap (λ (xs : List Made). slice_get xs (length own)) (sym e) ∙ get_here own x ms) in
      let scalar : (u : TypeNo) → is_known (made_by k own before) u ≡ true → scalar_at a u ≡ scalar_at b u = λ u g.
      same_scalar u (subst (λ (xs : List (ℕ × List Made)). is_among xs u ≡ true) is
      (subst (λ (xs : List Made). is_among (before ++ (k, xs) ∷ rest) u ≡ true) e
      (known_among before rest k own (x ∷ ms) free u g))) in
      tree_shaped a p t x made.0 ∙ (shapes_agree (is_known (made_by k own before)) same scalar t x.shape follows.known
      ∙ sym (tree_shaped b q t x made.1))

  pub trees_agree : OthersOrdered [] es → (u : TypeNo) → is_among es u ≡ true → tree a u ≡ tree b u
  trees_agree o = all_others Agrees plain_agree es one_agrees o

-- ---- what a table exports

has_at : (types : Types) (ms : List ModuleTypes) → HasReached types ms → (k : ℕ) (l : List Made)
    → at k (entries_of ms) ≡ Some l → (n : ℕ) (x : Made) → slice_get l n ≡ Some x → made_in types k n ≡ Some x
has_at types [] h k l e n x g = absurd cc
has_at types (m ∷ ms) h k l e n x g = by (nat_eq k m.number) refl (λ f. has_at types ms h.1 k l f n x g) e where
  by : (c : Bool) → nat_eq k m.number ≡ c → (at k (entries_of ms) ≡ Some l → made_in types k n ≡ Some x)
      → cond c (Some m.made) (at k (entries_of ms)) ≡ Some l → made_in types k n ≡ Some x
  by true i on f = let same : m.made ≡ l = cc in
      ap (λ (j : ℕ). made_in types j n) (eqb-true k m.number i)
      ∙ h.0 n x (ap (λ (xs : List Made). slice_get xs n) same ∙ g)
  by false i on f = on f

-- types with what a table reaches, and no more
module _ (types_of : ℕ → List Made) (below : ℕ) (t : Table) (f : TableFormed types_of below t) where
  abbrev only : Types
  only = made_by below [] (entries_of t.reached)

  only_at : (n k : ℕ) (x : Made) (es : List (ℕ × List Made)) (l : List Made) → k < below → at k es ≡ Some l
      → slice_get l n ≡ Some x → made_in (made_by below [] es) k n ≡ Some x
  only_at n k x es l less e g = by (k == below) refl where
    by : (c : Bool) → (k == below) ≡ c → cond c (slice_get [] n) (in_list n (at k es)) ≡ Some x
    by true i = let same : k ≡ below = eqb-true k below i in absurd (omega (arith, less, same))
    by false i = ap (λ (o : Option (List Made)). in_list n o) e ∙ g

  only_from : (ms : List ModuleTypes) (before : List (ℕ × List Made)) (es : List (ℕ × List Made))
      → before ++ entries_of ms ≡ es → OthersOrdered before (entries_of ms)
      → AllByRecursion (λ m. (m.number < below) × (m.made ≡ types_of m.number)) ms → HasReached (made_by below [] es) ms
  only_from [] before es e o r = tt
  only_from (m ∷ ms) before es e o r = (
    λ n x g. only_at n m.number x es m.made r.0.0
        (ap (λ (xs : List (ℕ × List Made)). at m.number xs) (sym e)
        ∙ at_placed m.number before m.made (entries_of ms) o.0) g,
    only_from ms (before ++ (m.number, m.made) ∷ []) es (append_more before (m.number, m.made) (entries_of ms) ∙ e)
        o.1.1 r.1,
  )

  only_has : HasReached only t.reached
  only_has = only_from t.reached [] (entries_of t.reached) refl f.ordered f.reached

  only_among : (u : TypeNo) → is_known only u ≡ true → is_among (entries_of t.reached) u ≡ true
  only_among u e = from u.home u.number e where
    by : (j n : ℕ) (c : Bool) → is_some (cond c (slice_get [] n) (in_list n (at j (entries_of t.reached)))) ≡ true
        → is_some (in_list n (at j (entries_of t.reached))) ≡ true
    by j n true g = absurd cc
    by j n false g = g

    from : (h : Home) (n : ℕ) → is_known_from only h n ≡ true → is_among_from (entries_of t.reached) h n ≡ true
    from Predeclared n g = g
    from (Module j) n g = by j n (j == below) g

  variable_known : (types : Types) (m : Meaning) (ts : List TypeNo) → ExportsOrdered types (([], m) ∷ [])
      → AreKnown types ts → AreKnown types (with_variable_of ts m)
  variable_known types (meaning.Variable v) ts h k = each_more (λ (u : TypeNo). is_known types u ≡ true) ts v.of k h.0
  variable_known types (meaning.Constant v) ts h k = k
  variable_known types (meaning.Type u n) ts h k = k
  variable_known types (meaning.Local v) ts h k = k
  variable_known types (meaning.Field x) ts h k = k
  variable_known types (meaning.Procedure x) ts h k = k
  variable_known types (meaning.LocalProcedure x) ts h k = k
  variable_known types meaning.Ahead ts h k = k
  variable_known types (meaning.Standard x) ts h k = k
  variable_known types (meaning.Module x) ts h k = k

  variables_known : (types : Types) (es : List (List ℕ × Meaning)) (ts : List TypeNo) → ExportsOrdered types es
      → AreKnown types ts → AreKnown types (fold with_exported_variable ts es)
  variables_known types [] ts h k = k
  variables_known types (e ∷ es) ts h k =
      variables_known types es (with_exported_variable ts e) h.1 (variable_known types e.1 ts (h.0, tt) k)

  map_agree : (a b : Types) → ((u : TypeNo) → is_known only u ≡ true → tree a u ≡ tree b u) → (us : List TypeNo)
      → AreKnown only us → map (tree a) us ≡ map (tree b) us
  map_agree a b same [] h = refl
  map_agree a b same (u ∷ us) h = ap (λ (x : Ty). x ∷ map (tree a) us) (same u h.0)
      ∙ ap (λ (xs : List Ty). tree b u ∷ xs) (map_agree a b same us h.1)

  pub variables_agree : (a b : Types) → AreOrdered a → AreOrdered b → HasReached a t.reached → HasReached b t.reached
      → map (tree a) (exported_variables t.exported) ≡ map (tree b) (exported_variables t.exported)
  variables_agree a b p q h k =
      map_agree a b (λ u e. trees_agree a b p q (entries_of t.reached)
      (λ j l g n x i. (has_at a t.reached h j l g n x i, has_at b t.reached k j l g n x i)) f.ordered u
      (only_among u e)) (exported_variables t.exported)
      (variables_known only t.exported [] (f.exports only only_has).0 tt)
