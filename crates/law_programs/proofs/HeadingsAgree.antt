-- Modules that know the types that a table reaches know the same types, formals and results of what it exports.
use Rattle.std.proofs.Common.{◌≡◌, ℕ, ◌<◌, ◌==◌, Bool, true, false, cond, List, [], ◌∷◌, ◌++◌, Option, Some, None, refl, sym, ap, subst, ◌∙◌, arith}
use Rattle.std.proofs.lemmas.Bool.{eqb-true}
use Rattle.std.specs.Prelude.{slice_get, nat_eq, map, if◌then◌else◌}
use Rattle.std.specs.List.{AllByRecursion}
use Rattle.std.specs.Option.{is_some, option_map}
use Rattle.typed_tree.specs.declared.types.Home.{Home}
use Rattle.typed_tree.specs.declared.types.Home.TheVariants.{Predeclared, Module}
use Rattle.typed_tree.specs.declared.types.TypeNo.{TypeNo}
use Rattle.typed_tree.specs.declared.shape.Formal.{Formal}
use Rattle.typed_tree.specs.declared.shape.Shape.{Shape}
use Rattle.typed_tree.specs.declared.shape.Shape.TheVariants as shape
use Rattle.typed_tree.specs.declared.shape.Made.{Made}
use Rattle.typed_tree.specs.declared.table.ModuleTypes.{ModuleTypes}
use Rattle.typed_tree.specs.declared.table.Table.{Table}
use Rattle.typed_tree.specs.declared.known_types.Types.{Types}
use Rattle.typed_tree.specs.Known.{in_list, made_in, made_from, made_at}
use Rattle.layout_storage.specs.Types.{Ty, Heading, Function, Takes}
use Rattle.layout_storage.specs.Frames.{formals_in, formals_made}
use Rattle.layout_storage.specs.Shapes.{passing_of, result_tree, heading_tree, known_trees, tree}
use Rattle.law_memory.specs.Relation.{heading_in, heading_made, heading_at}
use Rattle.law_simulation.specs.Passing.{Form, ByName, ByArray, value_form, form_of, forms_of, result_in, result_made, result_of}
use Rattle.law_well_formed.specs.Ordered.{result_named, named_by, is_known_from, is_known, AreKnown, OthersOrdered, BeginsWith, AreOrdered}
use Rattle.law_well_formed.proofs.Trees.{at, at_placed, append_more, some_of, made_by, is_among_from, is_among}
use Rattle.law_well_formed.proofs.Shaped.{named_known}
use Rattle.law_well_formed.specs.FormedKnown.{HasReached, entries_of, TableFormed}
use Rattle.law_programs.proofs.TreesAgree.{trees_agree}

has_at : (types : Types) (ms : List ModuleTypes) → HasReached types ms → (k : ℕ) (l : List Made)
    → at k (entries_of ms) ≡ Some l → (n : ℕ) (x : Made) → slice_get l n ≡ Some x → made_in types k n ≡ Some x
has_at types [] h k l e n x g = absurd cc
has_at types (m ∷ ms) h k l e n x g = by (nat_eq k m.number) refl (λ f. has_at types ms h.1 k l f n x g) e where
  by : (c : Bool) → nat_eq k m.number ≡ c → (at k (entries_of ms) ≡ Some l → made_in types k n ≡ Some x)
      → cond c (Some m.made) (at k (entries_of ms)) ≡ Some l → made_in types k n ≡ Some x
  by true i on f = let same : m.made ≡ l = cc in
      ap (λ (j : ℕ). made_in types j n) (eqb-true k m.number i)
      ∙ h.0 n x (ap (λ (xs : List Made). slice_get xs n) same ∙ g)
  by false i on f = on f

known_left : (types : Types) (xs ys : List TypeNo) → AreKnown types (xs ++ ys) → AreKnown types xs
known_left types [] ys h = tt
known_left types (x ∷ xs) ys h = (h.0, known_left types xs ys h.1)

known_right : (types : Types) (xs ys : List TypeNo) → AreKnown types (xs ++ ys) → AreKnown types ys
known_right types [] ys h = h
known_right types (x ∷ xs) ys h = known_right types xs ys h.1

-- ---- types with what a table reaches, and no more

module _ (types_of : ℕ → List Made) (below : ℕ) (t : Table) (f : TableFormed types_of below t) where
  abbrev es : List (ℕ × List Made)
  es = entries_of t.reached

  abbrev pub only : Types
  only = made_by below [] es

  only_at : (n k : ℕ) (x : Made) (es : List (ℕ × List Made)) (l : List Made) → k < below → at k es ≡ Some l
      → slice_get l n ≡ Some x → made_in (made_by below [] es) k n ≡ Some x
  only_at n k x es l less e g = by (k == below) refl where
    by : (c : Bool) → (k == below) ≡ c → cond c (slice_get [] n) (in_list n (at k es)) ≡ Some x
    by true i = let same : k ≡ below = eqb-true k below i in absurd (omega (arith, less, same))
    by false i = ap (λ (o : Option (List Made)). in_list n o) e ∙ g

  only_from : (ms : List ModuleTypes) (before : List (ℕ × List Made)) (all : List (ℕ × List Made))
      → before ++ entries_of ms ≡ all → OthersOrdered before (entries_of ms)
      → AllByRecursion (λ m. (m.number < below) × (m.made ≡ types_of m.number)) ms
      → HasReached (made_by below [] all) ms
  only_from [] before all e o r = tt
  only_from (m ∷ ms) before all e o r = (
    λ n x g. only_at n m.number x all m.made r.0.0
        (ap (λ (xs : List (ℕ × List Made)). at m.number xs) (sym e)
        ∙ at_placed m.number before m.made (entries_of ms) o.0) g,
    only_from ms (before ++ (m.number, m.made) ∷ []) all (append_more before (m.number, m.made) (entries_of ms) ∙ e)
        o.1.1 r.1,
  )

  pub only_has : HasReached only t.reached
  only_has = only_from t.reached [] es refl f.ordered f.reached

  only_among : (u : TypeNo) → is_known only u ≡ true → is_among es u ≡ true
  only_among u e = from u.home u.number e where
    by : (j n : ℕ) (c : Bool) → is_some (cond c (slice_get [] n) (in_list n (at j es))) ≡ true
        → is_some (in_list n (at j es)) ≡ true
    by j n true g = absurd cc
    by j n false g = g

    from : (h : Home) (n : ℕ) → is_known_from only h n ≡ true → is_among_from es h n ≡ true
    from Predeclared n g = g
    from (Module j) n g = by j n (j == below) g

  free_from : (ms : List ModuleTypes) → AllByRecursion (λ m. (m.number < below) × (m.made ≡ types_of m.number)) ms
      → at below (entries_of ms) ≡ None
  free_from [] h = refl
  free_from (m ∷ ms) h = by (nat_eq below m.number) refl (free_from ms h.1) where
    by : (c : Bool) → nat_eq below m.number ≡ c → at below (entries_of ms) ≡ None
        → cond c (Some m.made) (at below (entries_of ms)) ≡ None
    by true i on = let same : below ≡ m.number = eqb-true below m.number i in
        absurd (let l : m.number < below = h.0.0 in omega (arith, l, same))
    by false i on = on

  only_ordered : AreOrdered only
  only_ordered = record {
    own = tt;
    others = f.ordered;
    alike =
        subst (λ (o : Option (List Made)). BeginsWith [] o) (sym (free_from t.reached f.reached)) tt;
  }

  -- what is known of a type that may be there
  abbrev KnownMade : Option Made → Type 0
  KnownMade None = Unit {0}
  KnownMade (Some x) = AreKnown only (named_by x.shape)

  named_made : (h : TypeNo) → KnownMade (made_at only h)
  named_made h = by (made_at only h) refl where
    by : (o : Option Made) → made_at only h ≡ o → KnownMade o
    by None e = tt
    by (Some x) e = named_known only only_ordered h x e

  -- ---- a module that knows what the table reaches

  module _ (a : Types) (p : AreOrdered a) (h : HasReached a t.reached) where
    has : (k : ℕ) (l : List Made) → at k es ≡ Some l → (n : ℕ) (x : Made) → slice_get l n ≡ Some x
        → (made_in a k n ≡ Some x) × (made_in only k n ≡ Some x)
    has k l e n x g = (has_at a t.reached h k l e n x g, has_at only t.reached only_has k l e n x g)

    same_made : (k n : ℕ) → is_some (in_list n (at k es)) ≡ true → made_in a k n ≡ made_in only k n
    same_made k n e = by (at k es) refl e where
      by : (o : Option (List Made)) → at k es ≡ o → is_some (in_list n o) ≡ true → made_in a k n ≡ made_in only k n
      by None f g = absurd cc
      by (Some l) f g = let x = some_of (slice_get l n) g in let b = has k l f n x.0 x.1 in b.0 ∙ sym b.1

    same_at : (u : TypeNo) → is_among es u ≡ true → made_at a u ≡ made_at only u
    same_at u e = from u.home u.number e where
      from : (i : Home) (n : ℕ) → is_among_from es i n ≡ true → made_from a i n ≡ made_from only i n
      from Predeclared n g = refl
      from (Module k) n g = same_made k n g

    pub same_tree : (u : TypeNo) → is_known only u ≡ true → tree a u ≡ tree only u
    same_tree u e = trees_agree a only p only_ordered es has f.ordered u (only_among u e)

    abbrev with_tree : Formal → Ty → Form
    with_tree x u = if x.is_open then ByArray x.is_var u else (if x.is_var then ByName u else value_form u)

    forms_same : (fs : List Formal) → AreKnown only (map (λ x. x.of) fs) → map (form_of a) fs ≡ map (form_of only) fs
    forms_same [] k = refl
    forms_same (x ∷ fs) k = ap (λ (u : Ty). with_tree x u ∷ map (form_of a) fs) (same_tree x.of k.0)
        ∙ ap (λ (rs : List Form). form_of only x ∷ rs) (forms_same fs k.1)

    result_same : (o : Option TypeNo) → AreKnown only (result_named o)
        → option_map (tree a) o ≡ option_map (tree only) o
    result_same None k = refl
    result_same (Some u) k = ap (λ (r : Ty). Some r) (same_tree u k.0)

    -- the same heading in trees
    ended_same : (o : Option TypeNo) → AreKnown only (result_named o)
        → result_tree (known_trees a) o ≡ result_tree (known_trees only) o
    ended_same None k = refl
    ended_same (Some u) k = ap Function (same_tree u k.0)

    heading_same : (fs : List Formal) (o : Option TypeNo) → AreKnown only (map (λ x. x.of) fs ++ result_named o)
        → heading_tree (known_trees a) fs o ≡ heading_tree (known_trees only) fs o
    heading_same [] o k = ended_same o k
    heading_same (x ∷ fs) o k =
        ap (λ (u : Ty). Takes (passing_of x) u (heading_tree (known_trees a) fs o)) (same_tree x.of k.0)
        ∙ ap (λ (h : Heading). Takes (passing_of x) (tree only x.of) h) (heading_same fs o k.1)

    -- formals, result and heading are the same
    abbrev AlikeShape : Shape → Type 0
    AlikeShape s = (map (form_of a) (formals_in s) ≡ map (form_of only) (formals_in s))
        × (result_in a s ≡ result_in only s) × (heading_in a s ≡ heading_in only s)

    shape_same : (s : Shape) → AreKnown only (named_by s) → AlikeShape s
    shape_same (shape.Procedure s) k = (
      forms_same s.formals (known_left only (map (λ x. x.of) s.formals) (result_named s.result) k),
      result_same s.result (known_right only (map (λ x. x.of) s.formals) (result_named s.result) k),
      ap (λ (h : Heading). Some h) (heading_same s.formals s.result k),
    )
    shape_same (shape.Scalar s) k = (refl, refl, refl)
    shape_same shape.Set k = (refl, refl, refl)
    shape_same (shape.Array i e) k = (refl, refl, refl)
    shape_same (shape.Record fs) k = (refl, refl, refl)
    shape_same (shape.Open e) k = (refl, refl, refl)

    made_alike : (o : Option Made) → KnownMade o
        → (map (form_of a) (formals_made o) ≡ map (form_of only) (formals_made o))
        × (result_made a o ≡ result_made only o) × (heading_made a o ≡ heading_made only o)
    made_alike None k = (refl, refl, refl)
    made_alike (Some x) k = shape_same x.shape k

    -- a heading has the same formals and the same result, and is the same in trees
    pub same_heading : (u : TypeNo) → is_known only u ≡ true → (forms_of a u ≡ forms_of only u)
        × (result_of a u ≡ result_of only u) × (heading_at a u ≡ heading_at only u)
    same_heading u e =
        let made : made_at a u ≡ made_at only u = same_at u (only_among u e) in
        let k = made_alike (made_at only u) (named_made u) in (
          ap (λ (o : Option Made). map (form_of a) (formals_made o)) made ∙ k.0,
          ap (λ (o : Option Made). result_made a o) made ∙ k.1,
          ap (λ (o : Option Made). heading_made a o) made ∙ k.2,
        )
