-- Variables of scalar types have one cell, whose numbers are the type's; frames and formals of such types fit.
use Rattle.std.proofs.Common.{◌≡◌, ℕ, zero, suc, ◌+◌, ◌≤ℤ◌, ℤ, pos, negsuc, Bool, true, false, List, [], ◌∷◌, ◌++◌, length, Option, Some, None, if◌then◌else◌, refl, sym, ap, subst, ◌∙◌, arith}
use Rattle.std.proofs.lemmas.Int.{ints}
use Rattle.std.proofs.lemmas.Bool.{eqb-true}
use Rattle.std.proofs.lemmas.List.{length-append}
use Rattle.std.specs.Prelude.{slice_get, nat_eq, unsigned_abs, cond}
use Rattle.std.specs.List.{fold}
use Rattle.std.specs.Map.{lookup}
use Rattle.typed_tree.specs.declared.types.Home.{Home}
use Rattle.typed_tree.specs.declared.types.Home.TheVariants.{Predeclared, Module}
use Rattle.typed_tree.specs.declared.types.TypeNo.{TypeNo}
use Rattle.typed_tree.specs.declared.shape.Scalar.{Scalar as Range}
use Rattle.typed_tree.specs.declared.shape.Shape.{Shape}
use Rattle.typed_tree.specs.declared.shape.Shape.TheVariants as shape
use Rattle.typed_tree.specs.declared.shape.Made.{Made}
use Rattle.typed_tree.specs.declared.known_types.Types.{Types}
use Rattle.typed_tree.specs.Types.{are_same, is_integer}
use Rattle.typed_tree.specs.Known.{scalar_at, scalar_from, scalar_made, scalar_shape, made_in, made_from as made_by, made_at, in_list, is_result, is_result_shape, is_result_made, is_result_from}
use Rattle.layout_storage.specs.Types.{Ty, Natural, Integer, Between, Callable, Cell, Heading, least, greatest}
use Rattle.layout_storage.specs.Shapes.{Trees, word, scalar_kind, or_nothing, in_module, scalar_tree, tree_from, heading_tree, shape_tree, with_made, module_trees, with_module, other_trees, known_trees, tree}
use Rattle.law_memory.specs.Relation.{IsNumber, heading_in, heading_made, heading_at}
use Rattle.law_simulation.specs.Scene.{AreSmall, IsIn, IsCell}
use Rattle.law_modules.specs.Ranges.{IsRange, type_of, AreRanged}
use Rattle.law_modules.proofs.Known.{range_at}
use Rattle.law_simulation.specs.TypesLaws.{AreByShape}
use Rattle.law_simulation.proofs.Plain.{scalar_is}

-- ---- the range of a type

pub are_small : (types : Types) → AreRanged types → AreSmall types
are_small types is t r e = let s = range_at types is t r e in record { low = s.low; high = s.high; some = s.some }

-- ---- the tree of a type that is made

-- the tree is that of its shape, over some trees
pub record MadeTree (types : Types) (t : TypeNo) (s : Shape) (u : Ty) : Type 0 where
  pub before : Trees
  pub is : u ≡ shape_tree types before t s

made_from : (types : Types) (before : Trees) (home : ℕ) (ts : List Ty) (ms : List Made) (n : ℕ) (m : Made)
    → slice_get ms n ≡ Some m → MadeTree types (type_of home (length ts + n)) m.shape
    (or_nothing (slice_get (fold (with_made types before home) ts ms) (length ts + n)))
made_from types before home ts [] n m e = absurd cc
made_from types before home ts (x ∷ ms) zero m e =
    let u : Ty = shape_tree types ((home, ts) ∷ before) (type_of home (length ts)) x.shape in
    let same : x ≡ m = cc in
    let zeroed : length ts + 0 ≡ length ts = omega arith in
    record {
      before = (home, ts) ∷ before;
      is =
          ap (λ (i : ℕ). or_nothing (slice_get (fold (with_made types before home) (ts ++ u ∷ []) ms) i)) zeroed
          ∙ ap or_nothing (kept types before home ms (ts ++ u ∷ []) (length ts) u (last ts u))
          ∙ ap (λ (y : Made). shape_tree types ((home, ts) ∷ before) (type_of home (length ts)) y.shape) same
          ∙ ap (λ (i : ℕ). shape_tree types ((home, ts) ∷ before) (type_of home i) m.shape) (sym zeroed);
    }
  where
    last : (ts : List Ty) (u : Ty) → slice_get (ts ++ u ∷ []) (length ts) ≡ Some u
    last [] u = refl
    last (x ∷ ts) u = last ts u

    front : (ts : List Ty) (t : Ty) (i : ℕ) (u : Ty) → slice_get ts i ≡ Some u → slice_get (ts ++ t ∷ []) i ≡ Some u
    front [] t i u e = absurd cc
    front (x ∷ ts) t zero u e = e
    front (x ∷ ts) t (suc i) u e = front ts t i u e

    kept : (types : Types) (before : Trees) (home : ℕ) (ms : List Made) (ts : List Ty) (i : ℕ) (u : Ty)
        → slice_get ts i ≡ Some u → slice_get (fold (with_made types before home) ts ms) i ≡ Some u
    kept types before home [] ts i u e = e
    kept types before home (m ∷ ms) ts i u e =
        kept types before home ms (ts ++ shape_tree types ((home, ts) ∷ before) (type_of home (length ts)) m.shape ∷ [])
        i u (front ts _ i u e)
made_from types before home ts (x ∷ ms) (suc n) m e =
    let u : Ty = shape_tree types ((home, ts) ∷ before) (type_of home (length ts)) x.shape in
    let long = length-append ts (u ∷ []) in
    let next : length (ts ++ u ∷ []) + n ≡ length ts + suc n = omega (arith, long) in
    subst (λ (i : ℕ). MadeTree types (type_of home i) m.shape
    (or_nothing (slice_get (fold (with_made types before home) (ts ++ u ∷ []) ms) i))) next
    (made_from types before home (ts ++ u ∷ []) ms n m e)

-- among the trees of other modules
looked_more : (home : ℕ) (es : Trees) (e : ℕ × List Ty) (ts : List Ty) → lookup (nat_eq home) es ≡ Some ts
    → lookup (nat_eq home) (es ++ e ∷ []) ≡ Some ts
looked_more home [] e ts h = absurd cc
looked_more home (x ∷ es) e ts h = by (nat_eq home x.0) (looked_more home es e ts) h
  where
    by : (b : Bool) → (lookup (nat_eq home) es ≡ Some ts → lookup (nat_eq home) (es ++ e ∷ []) ≡ Some ts)
        → cond b (Some x.1) (lookup (nat_eq home) es) ≡ Some ts
        → cond b (Some x.1) (lookup (nat_eq home) (es ++ e ∷ [])) ≡ Some ts
    by true onward g = g
    by false onward g = onward g

looked_kept : (types : Types) (home : ℕ) (es : List (ℕ × List Made)) (before : Trees) (ts : List Ty)
    → lookup (nat_eq home) before ≡ Some ts → lookup (nat_eq home) (fold (with_module types) before es) ≡ Some ts
looked_kept types home [] before ts h = h
looked_kept types home (e ∷ es) before ts h =
    looked_kept types home es (with_module types before e) ts
    (looked_more home before (e.0, module_trees types before e.0 e.1) ts h)

looked_last : (home : ℕ) (es : Trees) (e : ℕ × List Ty) → lookup (nat_eq home) es ≡ None → nat_eq home e.0 ≡ true
    → lookup (nat_eq home) (es ++ e ∷ []) ≡ Some e.1
looked_last home [] e h k = ap (λ (b : Bool). cond b (Some e.1) None) k
looked_last home (x ∷ es) e h k = by (nat_eq home x.0) (λ g. looked_last home es e g k) h
  where
    by : (b : Bool) → (lookup (nat_eq home) es ≡ None → lookup (nat_eq home) (es ++ e ∷ []) ≡ Some e.1)
        → cond b (Some x.1) (lookup (nat_eq home) es) ≡ None
        → cond b (Some x.1) (lookup (nat_eq home) (es ++ e ∷ [])) ≡ Some e.1
    by true onward g = absurd cc
    by false onward g = onward g

looked_none : (home : ℕ) (es : Trees) (e : ℕ × List Ty) → lookup (nat_eq home) es ≡ None → nat_eq home e.0 ≡ false
    → lookup (nat_eq home) (es ++ e ∷ []) ≡ None
looked_none home [] e h k = ap (λ (b : Bool). cond b (Some e.1) None) k
looked_none home (x ∷ es) e h k = by (nat_eq home x.0) (λ g. looked_none home es e g k) h
  where
    by : (b : Bool) → (lookup (nat_eq home) es ≡ None → lookup (nat_eq home) (es ++ e ∷ []) ≡ None)
        → cond b (Some x.1) (lookup (nat_eq home) es) ≡ None
        → cond b (Some x.1) (lookup (nat_eq home) (es ++ e ∷ [])) ≡ None
    by true onward g = absurd cc
    by false onward g = onward g

-- the trees of the module that is found
record FoundTrees (types : Types) (home : ℕ) (ms : List Made) (o : Option (List Ty)) : Type 0 where
  before : Trees
  there : o ≡ Some (module_trees types before home ms)

found_trees : (types : Types) (home : ℕ) (es : List (ℕ × List Made)) (before : Trees) (ms : List Made)
    → lookup (nat_eq home) before ≡ None → lookup (nat_eq home) es ≡ Some ms
    → FoundTrees types home ms (lookup (nat_eq home) (fold (with_module types) before es))
found_trees types home [] before ms none h = absurd cc
found_trees types home (e ∷ es) before ms none h =
    by (nat_eq home e.0) refl (λ k g. found_trees types home es (with_module types before e) ms k g) h
  where
    by : (b : Bool) → nat_eq home e.0 ≡ b →
        (lookup (nat_eq home) (with_module types before e) ≡ None → lookup (nat_eq home) es ≡ Some ms
        → FoundTrees types home ms (lookup (nat_eq home) (fold (with_module types) (with_module types before e) es)))
        → cond b (Some e.1) (lookup (nat_eq home) es) ≡ Some ms
        → FoundTrees types home ms (lookup (nat_eq home) (fold (with_module types) (with_module types before e) es))
    by true f onward g =
        let same : e.1 ≡ ms = cc in
        let number = eqb-true home e.0 f in
        record {
          before = before;
          there =
              looked_kept types home es (with_module types before e) (module_trees types before e.0 e.1)
              (looked_last home before (e.0, module_trees types before e.0 e.1) none f)
              ∙ ap (λ (k : ℕ). Some (module_trees types before k e.1)) (sym number)
              ∙ ap (λ (xs : List Made). Some (module_trees types before home xs)) same;
        }
    by false f onward g = onward (looked_none home before (e.0, module_trees types before e.0 e.1) none f) g

in_other : (types : Types) (home n : ℕ) (m : Made) → in_list n (lookup (nat_eq home) types.others) ≡ Some m
    → MadeTree types (type_of home n) m.shape (in_module (lookup (nat_eq home) (other_trees types)) n)
in_other types home n m e = by (lookup (nat_eq home) types.others) refl e
  where
    by : (o : Option (List Made)) → lookup (nat_eq home) types.others ≡ o → in_list n o ≡ Some m
        → MadeTree types (type_of home n) m.shape (in_module (lookup (nat_eq home) (other_trees types)) n)
    by None f g = absurd cc
    by (Some ms) f g =
        let found = found_trees types home types.others [] ms refl f in
        let made = made_from types found.before home [] ms n m g in
        let plus : 0 + n ≡ n = omega arith in
        record {
          before = made.before;
          is =
              ap (λ (o : Option (List Ty)). in_module o n) found.there
              ∙ ap (λ (i : ℕ). or_nothing (slice_get (module_trees types found.before home ms) i)) (sym plus)
              ∙ made.is
              ∙ ap (λ (i : ℕ). shape_tree types made.before (type_of home i) m.shape) plus;
        }

in_known : (types : Types) (home n : ℕ) (m : Made) → made_in types home n ≡ Some m
    → MadeTree types (type_of home n) m.shape (in_module (lookup (nat_eq home) (known_trees types)) n)
unfolding known_trees
in_known types home n m e = by (nat_eq home types.home) refl e
  where
    by : (b : Bool) → nat_eq home types.home ≡ b
        → cond b (slice_get types.own n) (in_list n (lookup (nat_eq home) types.others)) ≡ Some m
        → MadeTree types (type_of home n) m.shape
        (in_module (cond b (Some (module_trees types (other_trees types) types.home types.own))
        (lookup (nat_eq home) (other_trees types))) n)
    by true f g =
        let same = eqb-true home types.home f in
        let made = made_from types (other_trees types) types.home [] types.own n m g in
        let plus : 0 + n ≡ n = omega arith in
        record {
          before = made.before;
          is =
              ap (λ (i : ℕ). or_nothing (slice_get (module_trees types (other_trees types) types.home types.own) i))
              (sym plus)
              ∙ made.is
              ∙ ap (λ (i : ℕ). shape_tree types made.before (type_of types.home i) m.shape) plus
              ∙ ap (λ (k : ℕ). shape_tree types made.before (type_of k n) m.shape) (sym same);
        }
    by false f g = in_other types home n m g

-- ---- cells

scalar_shaped : (types : Types) (t : TypeNo) (s : Shape) (r : Range) (u : Ty) → MadeTree types t s u
    → scalar_shape s ≡ Some r → u ≡ Cell (scalar_kind t r)
scalar_shaped types t (shape.Scalar s) r u m e = let same : s ≡ r = cc in
    m.is ∙ ap (λ (x : Range). Cell (scalar_kind t x)) same
scalar_shaped types t shape.Set r u m e = absurd cc
scalar_shaped types t (shape.Array i x) r u m e = absurd cc
scalar_shaped types t (shape.Record fs) r u m e = absurd cc
scalar_shaped types t (shape.Procedure p) r u m e = absurd cc
scalar_shaped types t (shape.Open x) r u m e = absurd cc

pub scalar_tree_is : (types : Types) (t : TypeNo) (r : Range) → scalar_at types t ≡ Some r
    → tree types t ≡ Cell (scalar_kind t r)
scalar_tree_is types t r e = by t.home refl e
  where
    made : (home : ℕ) (o : Option Made) → made_in types home t.number ≡ o → scalar_made o ≡ Some r
        → in_module (lookup (nat_eq home) (known_trees types)) t.number ≡ Cell (scalar_kind (type_of home t.number) r)
    made home None f g = absurd cc
    made home (Some m) f g = scalar_shaped types (type_of home t.number) m.shape r _ (in_known types home t.number m f)
        g

    by : (home : Home) → t.home ≡ home → scalar_from types home t.number ≡ Some r
        → tree types t ≡ Cell (scalar_kind t r)
    by Predeclared f g = ap (λ (h : Home). tree_from (known_trees types) t h) f
        ∙ ap (λ (o : Option Range). scalar_tree t o) g
    by (Module home) f g =
        ap (λ (h : Home). tree_from (known_trees types) t h) f ∙ made home (made_in types home t.number) refl g
        ∙ ap (λ (h : Home). Cell (scalar_kind (record { home = h; number = t.number }) r)) (sym f)

-- the numbers of its cell are those of the type
numbers_are : (t : TypeNo) (r : Range) → IsRange t r → (least (scalar_kind t r) ≡ r.low)
    × (greatest (scalar_kind t r) ≡ r.high)
numbers_are t r is = by (are_same t r.base) refl (is_integer t) refl
  where
    absolute : (v : ℤ) → pos 0 ≤ℤ v → pos (unsigned_abs v) ≡ v
    absolute (pos n) h = refl
    absolute (negsuc n) h = absurd (omega (arith, ints, h))

    by : (b : Bool) → are_same t r.base ≡ b → (c : Bool) → is_integer t ≡ c
        → (least (if b then (if c then Integer else Natural (unsigned_abs r.high)) else Between r.low r.high) ≡ r.low)
        × (greatest (if b then (if c then Integer else Natural (unsigned_abs r.high)) else Between r.low r.high)
        ≡ r.high)
    by true e true f = let i = is.integer e f in (sym i.0, sym i.1)
    by true e false f = let low = is.base e f in (sym low, absolute r.high (subst (λ (v : ℤ). v ≤ℤ r.high) low is.some))
    by false e c f = (refl, refl)

-- its numbers stand for themselves
number_kind : (t : TypeNo) (r : Range) → IsNumber (scalar_kind t r)
number_kind t r = by (are_same t r.base) (is_integer t)
  where
    by : (b c : Bool) → IsNumber (if b then (if c then Integer else Natural (unsigned_abs r.high)) else Between r.low
        r.high)
    by true true = tt
    by true false = tt
    by false c = tt

pub cell_is : (types : Types) → AreRanged types → (t : TypeNo) (r : Range) → scalar_at types t ≡ Some r
    → IsCell types t (scalar_kind t r)
cell_is types is t r e =
    let range = range_at types is t r e in
    let same = numbers_are t r range in record {
      is = scalar_tree_is types t r e;
      number = number_kind t r;
      scalar = scalar_is t r range;
      values = λ v h. subst (λ (o : Option Range). IsIn o v) (sym e)
          (subst (λ (x : ℤ). x ≤ℤ v) same.0 h.low, subst (λ (x : ℤ). v ≤ℤ x) same.1 h.high);
      bounds = λ v h.
          let k : IsIn (Some r) v = subst (λ (o : Option Range). IsIn o v) e h in
          record {
            low = subst (λ (x : ℤ). x ≤ℤ v) (sym same.0) k.0;
            high =
                subst (λ (x : ℤ). v ≤ℤ x) (sym same.1) k.1;
          };
    }

-- ---- sets

-- a set has a cell for all numbers of 32 bits
pub word_is : (types : Types) (t : TypeNo) → tree types t ≡ word → scalar_at types t ≡ None
    → IsCell types t (Natural 4294967295)
word_is types t is e = record {
  is = is;
  number = tt;
  scalar = record {
    low = omega (arith, ints);
    high = omega (arith, ints);
    some = omega (arith, ints);
    narrow =
        omega (arith, ints);
  };
  values = λ v h. subst (λ (o : Option Range). IsIn o v) (sym e) (h.low, h.high);
  bounds = λ v h. let k : IsIn None v = subst (λ (o : Option Range). IsIn o v) e h in record { low = k.0; high = k.1 };
}

set_shaped : (types : Types) (t : TypeNo) (s : Shape) (u : Ty) → MadeTree types t s u → scalar_shape s ≡ None
    → is_result_shape s ≡ true → heading_in types s ≡ None → u ≡ word
set_shaped types t (shape.Scalar s) u m e f g = absurd cc
set_shaped types t shape.Set u m e f g = m.is
set_shaped types t (shape.Array i x) u m e f g = absurd cc
set_shaped types t (shape.Record fs) u m e f g = absurd cc
set_shaped types t (shape.Procedure p) u m e f g = absurd cc
set_shaped types t (shape.Open x) u m e f g = absurd cc

pub set_tree_is : (types : Types) (t : TypeNo) → scalar_at types t ≡ None → is_result types t ≡ true
    → heading_at types t ≡ None → tree types t ≡ word
set_tree_is types t e r n = by t.home refl e r n
  where
    made : (home : ℕ) (o : Option Made) → made_in types home t.number ≡ o → scalar_made o ≡ None
        → is_result_made o ≡ true → heading_made types o ≡ None
        → in_module (lookup (nat_eq home) (known_trees types)) t.number ≡ word
    made home None f g h k = absurd cc
    made home (Some m) f g h k = set_shaped types (type_of home t.number) m.shape _ (in_known types home t.number m f) g
        h k

    by : (home : Home) → t.home ≡ home → scalar_from types home t.number ≡ None
        → is_result_from types home t.number ≡ true → heading_made types (made_by types home t.number) ≡ None
        → tree types t ≡ word
    by Predeclared f g h k = ap (λ (k : Home). tree_from (known_trees types) t k) f
        ∙ ap (λ (o : Option Range). scalar_tree t o) g
    by (Module home) f g h k = ap (λ (k : Home). tree_from (known_trees types) t k) f
        ∙ made home (made_in types home t.number) refl g h k

pub set_is : (types : Types) (t : TypeNo) → scalar_at types t ≡ None → is_result types t ≡ true
    → heading_at types t ≡ None → IsCell types t (Natural 4294967295)
set_is types t e r n = word_is types t (set_tree_is types t e r n) e

-- ---- procedure types

pub procedure_shaped : (types : Types) (before : Trees) (t : TypeNo) (s : Shape) (h : Heading)
    → before ≡ known_trees types → heading_in types s ≡ Some h → shape_tree types before t s ≡ Cell (Callable h)
procedure_shaped types before t (shape.Scalar s) h b e = absurd cc
procedure_shaped types before t shape.Set h b e = absurd cc
procedure_shaped types before t (shape.Array i x) h b e = absurd cc
procedure_shaped types before t (shape.Record fs) h b e = absurd cc
procedure_shaped types before t (shape.Procedure p) h b e =
    let same : heading_tree (known_trees types) p.formals p.result ≡ h = cc in
    ap (λ (ts : Trees). Cell (Callable (heading_tree ts p.formals p.result))) b
    ∙ ap (λ (i : Heading). Cell (Callable i)) same
procedure_shaped types before t (shape.Open x) h b e = absurd cc

-- a variable of a procedure type has a cell for procedures with the heading of the type
pub procedure_tree_is : (types : Types) → AreByShape types → (t : TypeNo) (h : Heading) → heading_at types t ≡ Some h
    → tree types t ≡ Cell (Callable h)
procedure_tree_is types shaped t h e = by (made_at types t) refl e
  where
    by : (o : Option Made) → made_at types t ≡ o → heading_made types o ≡ Some h → tree types t ≡ Cell (Callable h)
    by None f g = absurd cc
    by (Some m) f g = shaped t m f ∙ procedure_shaped types (known_trees types) t m.shape h refl g
