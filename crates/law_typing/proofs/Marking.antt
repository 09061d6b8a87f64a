-- The names that a block declares are known to be declared, wherever they stand.
use Rattle.std.proofs.Common.{◌≡◌, ℕ, Bool, true, false, List, [], ◌∷◌, ◌++◌, Option, Some, None, ◌⊎◌, inl, inr, refl, sym, ap, subst, ◌∙◌}
use Rattle.std.specs.Prelude.{map}
use Rattle.std.specs.List.{fold}
use Rattle.m2_tree.specs.declared.name.Ident.{Ident}
use Rattle.m2_tree.specs.declared.decl.Constant.{Constant}
use Rattle.m2_tree.specs.declared.decl.TypeDecl.{TypeDecl}
use Rattle.m2_tree.specs.declared.decl.Variables.{Variables}
use Rattle.m2_tree.specs.declared.decl.Field.{Field, out-Field, fold_out-Field}
use Rattle.m2_tree.specs.declared.decl.Simple.{Simple}
use Rattle.m2_tree.specs.declared.decl.Simple.TheVariants as simple
use Rattle.m2_tree.specs.declared.decl.TypeExpr.{TypeExpr, TypeExpr-F, out-TypeExpr, map-TypeExpr, fold_out-TypeExpr}
use Rattle.m2_tree.specs.declared.decl.TypeExpr.TheOpen as layer
use Rattle.m2_tree.specs.declared.decl.Decl.{Decl, Decl-F, out-Decl}
use Rattle.m2_tree.specs.declared.decl.Decl.TheOpen as decl
use Rattle.m2_tree.specs.declared.decl.Block.{Block}
use Rattle.typed_tree.specs.declared.types.TypeNo.{TypeNo}
use Rattle.typed_tree.specs.Names.{find_name}
use Rattle.check_scope.specs.declared.known.Known.{Known}
use Rattle.check_scope.specs.declared.known.Known.TheVariants as known
use Rattle.check_scope.specs.declared.scope.Scope.{Scope}
use Rattle.check_scope.specs.Elaborated.{Gathers}
use Rattle.check_scope.specs.Scopes.{unless_marked, mark_name}
use Rattle.check_definition.specs.Marking as marking
use Rattle.check_definition.specs.Marking.{Marks, marked_later, marked_in, marked_field, marked_constant, marked_type, marked_variables}
use Rattle.check_block.specs.Naming.{marked_layer, marked_decl, with_marks, all_marked}
use Rattle.def_typing.specs.Things.{Standing}
use Rattle.def_typing.specs.Parts.{Among, here, later, Named}
use Rattle.def_typing.specs.TypeExprs.{constants_listed, all_listed, constants_in, constants_in_field}
use Rattle.def_typing.specs.Declarations.{Declaration, OfConstant, OfType, OfVariables, OfProcedure, names_of, constants_of, declared_by, declarations_of, Declares, AnyDeclares, IsFirst, at_first, later_on, There}
use Rattle.law_typing.specs.Judging.{Judges}
use Rattle.law_typing.specs.Exact.{TakenAs, is_taken, awaits, is_a_heading, not_taken, AreOnce}
use Rattle.law_typing.proofs.Trees.{type_tree, IsTypeTree, tree_simple, tree_array, tree_record, tree_procedure, AreFieldTrees, no_field_tree, one_field_tree}
use Rattle.law_typing.proofs.Combining.{Decided, holds, fails_it}
use Rattle.law_typing.proofs.Entering.{Compared, are_one, are_two, compared, among_decided, entered_all, once_more}
use Rattle.law_typing.proofs.TypeReading.{constants_at}
use Rattle.law_typing.proofs.Recording.{field_constants}
use Rattle.law_typing.proofs.Declaring.{any_first, clash, mark_of, KnownAs, outer, ahead, Same, KnowsBlock}

-- ---- the first declaration of a name

-- what is first, if something is
abbrev First : List Declaration → List ℕ → Type 0
First ds n = ((d : Declaration) × IsFirst n d ds) ⊎ (AnyDeclares ds n → ⊥)

first_by : {b : Bool} {d : Declaration} {ds : List Declaration} {n : List ℕ} → Decided (Declares d n) b → First ds n
    → First (d ∷ ds) n
first_by {d = d} (holds h) f = inl (d, at_first h)
first_by (fails_it c) (inl (d, i)) = inl (d, later_on c i)
first_by {d = d} {ds = ds} {n = n} (fails_it c) (inr no_more) = inr none
  where
    none : AnyDeclares (d ∷ ds) n → ⊥
    none (e, here, h) = c h
    none (e, later m, h) = no_more (e, m, h)

first_there : (ds : List Declaration) (n : List ℕ) → First ds n
first_there [] n = inr (λ a. elim a.1 [ ])
first_there (d ∷ ds) n = first_by (among_decided (names_of d ++ constants_of d) n) (first_there ds n)

first_left : {n : List ℕ} {d : Declaration} {ds : List Declaration} (es : List Declaration) → IsFirst n d ds
    → IsFirst n d (ds ++ es)
first_left es (at_first h) = at_first h
first_left es (later_on c i) = later_on c (first_left es i)

first_right : (ds : List Declaration) {n : List ℕ} {d : Declaration} {es : List Declaration} → (AnyDeclares ds n → ⊥)
    → IsFirst n d es → IsFirst n d (ds ++ es)
first_right [] c i = i
first_right (x ∷ ds) c i = later_on (λ h. c (x, here, h)) (first_right ds (λ a. c (a.0, later a.1, a.2)) i)

first_split : (ds : List Declaration) {n : List ℕ} {d : Declaration} {es : List Declaration} → IsFirst n d (ds ++ es)
    → IsFirst n d ds ⊎ ((AnyDeclares ds n → ⊥) × IsFirst n d es)
first_split [] i = inr ((λ a. elim a.1 [ ]), i)
first_split (x ∷ ds) (at_first h) = inl (at_first h)
first_split (x ∷ ds) {n = n} (later_on c i) = by (first_split ds i)
  where
    none : (AnyDeclares ds n → ⊥) → AnyDeclares (x ∷ ds) n → ⊥
    none h (e, here, w) = c w
    none h (e, later m, w) = h (e, m, w)

    by : {d : Declaration} {es : List Declaration} → IsFirst n d ds ⊎ ((AnyDeclares ds n → ⊥) × IsFirst n d es)
        → IsFirst n d (x ∷ ds) ⊎ ((AnyDeclares (x ∷ ds) n → ⊥) × IsFirst n d es)
    by (inl k) = inl (later_on c k)
    by (inr k) = inr (none k.0, k.1)

-- ---- types mark their constants

fold_both : {A X : Type 0} (f : A → X → A) (a : A) (xs ys : List X) → fold f (fold f a xs) ys ≡ fold f a (xs ++ ys)
fold_both f a [] ys = refl
fold_both f a (x ∷ xs) ys = fold_both f (f a x) xs ys

module _ {T : Type 0} where
  abbrev opened : TypeExpr-F TypeExpr Field → TypeExpr-F (Marks T) (Marks T)
  opened x = map-TypeExpr TypeExpr Field (Marks T) (Marks T) marked_in marked_field x

  marks_at : (e : TypeExpr) (x : TypeExpr-F TypeExpr Field) → out-TypeExpr e ≡ x
      → marked_in {T = T} e ≡ marking.type_layer (opened x)
  unfolding marked_in marked_field
  marks_at e x h = fold_out-TypeExpr (Marks T) (Marks T) marking.type_layer marking.field_layer e
      ∙ ap (λ (y : TypeExpr-F TypeExpr Field). marking.type_layer (opened y)) h

  abbrev marked : Scope T → List Ident → Scope T
  marked s xs = fold marked_later s xs

  simple_marks : (x : Simple) (s : Scope T) → marking.marked_simple x s ≡ marked s (constants_listed x)
  simple_marks (simple.Named q) s = refl
  simple_marks (simple.Enumeration at names) s = refl
  simple_marks (simple.Subrange of at low high) s = refl

  fields_marks : (f : Field) → marked_field {T = T} f ≡ marked_in (out-Field f).of
  unfolding marked_in marked_field
  fields_marks f = fold_out-Field (Marks T) (Marks T) marking.type_layer marking.field_layer f

  mutual
    tree_marked : (e : TypeExpr) → IsTypeTree e → (s : Scope T) → marked_in e s ≡ marked s (constants_in e)
    tree_marked e (tree_simple {x = x} h) s = ap (λ (m : Marks T). m s) (marks_at e (layer.Simple x) h)
        ∙ simple_marks x s ∙ sym (ap (λ (xs : List Ident). marked s xs) (constants_at e (layer.Simple x) h))
    tree_marked e (tree_procedure {at = at} {xs = xs} {q = q} h) s =
        ap (λ (m : Marks T). m s) (marks_at e (layer.Procedure at xs q) h)
        ∙ sym (ap (λ (xs : List Ident). marked s xs) (constants_at e (layer.Procedure at xs q) h))
    tree_marked e (tree_array {of = of} {at = at} {index = x} h k) s =
        ap (λ (m : Marks T). m s) (marks_at e (layer.Array at x of) h)
        ∙ ap (λ (t : Scope T). marked_in of t) (simple_marks x s) ∙ tree_marked of k (marked s (constants_listed x))
        ∙ fold_both marked_later s (constants_listed x) (constants_in of)
        ∙ sym (ap (λ (xs : List Ident). marked s xs) (constants_at e (layer.Array at x of) h))
    tree_marked e (tree_record {at = at} {fields = fs} h i) s =
        ap (λ (m : Marks T). m s) (marks_at e (layer.Record at fs) h) ∙ fields_marked fs i s
        ∙ sym (ap (λ (xs : List Ident). marked s xs) (constants_at e (layer.Record at fs) h))

    fields_marked : (fs : List Field) → AreFieldTrees fs → (s : Scope T)
        → fold marking.then_marks s (map marked_field fs) ≡ marked s (all_listed (map constants_in_field fs))
    fields_marked [] no_field_tree s = refl
    fields_marked (f ∷ fs) (one_field_tree i k) s =
        ap (λ (t : Scope T). fold marking.then_marks t (map marked_field fs))
        (ap (λ (m : Marks T). m s) (fields_marks f) ∙ tree_marked (out-Field f).of i s
        ∙ ap (λ (xs : List Ident). marked s xs) (sym (field_constants f)))
        ∙ fields_marked fs k (marked s (constants_in_field f))
        ∙ fold_both marked_later s (constants_in_field f) (all_listed (map constants_in_field fs))

  type_marked : (e : TypeExpr) (s : Scope T) → marked_in e s ≡ marked s (constants_in e)
  type_marked e s = tree_marked e (type_tree e) s

module _ (g : Gathers) (j : Judges g) (exports : ℕ → Ident → Standing) (outside : Ident → Standing)
    (start : Scope g.Reported) (taken : List ℕ → Bool) (awaited : List ℕ → Option TypeNo) (nested : Bool)
    (block : List Declaration)
    (takes : (n : List ℕ) → TakenAs g j (taken n) (awaited n) (find_name n start.own)) where
  abbrev K : Type 0
  K = Known g.Reported

  abbrev SameScope : Scope g.Reported → Type 0
  SameScope = Same g j exports outside start taken awaited nested block start.types

  -- which names are marked, and how
  abbrev MarkedNames : Type 1
  MarkedNames = List ℕ → K → Type 0

  abbrev Unmarked : MarkedNames → List ℕ → Type 0
  Unmarked M n = (k : K) → M n k → ⊥

  data MarkedAs (M : MarkedNames) (n : List ℕ) : Option K → Type 0 where
    at_start : {k : Option K} → taken n ≡ true → k ≡ find_name n start.own → MarkedAs M n k
    is_marked : {k : K} → taken n ≡ false → M n k → MarkedAs M n (Some k)
    is_unmarked : taken n ≡ false → Unmarked M n → MarkedAs M n None

  record Marking (M : MarkedNames) (s : Scope g.Reported) : Type 0 where
    same : SameScope s
    marks : (n : List ℕ) → MarkedAs M n (find_name n s.own)
    once : AreOnce start.own → AreOnce s.own

  marked_one : {P Q : MarkedNames} {n : List ℕ} {k : Option K} → ((k : K) → P n k → Q n k) → ((k : K) → Q n k → P n k)
      → MarkedAs P n k → MarkedAs Q n k
  marked_one pq qp (at_start t e) = at_start t e
  marked_one pq qp (is_marked {k = k} t p) = is_marked t (pq k p)
  marked_one pq qp (is_unmarked t n) = is_unmarked t (λ k q. n k (qp k q))

  marking_as : {P Q : MarkedNames} {s : Scope g.Reported} → ((n : List ℕ) (k : K) → P n k → Q n k)
      → ((n : List ℕ) (k : K) → Q n k → P n k) → Marking P s → Marking Q s
  marking_as pq qp m = record { same = m.same; marks = λ n. marked_one (pq n) (qp n) (m.marks n); once = m.once }

  -- ---- one name

  module _ (M : MarkedNames) (x : Ident) (l : K) where
    abbrev Next : MarkedNames
    Next n k = M n k ⊎ (Unmarked M n × (x.name ≡ n) × (k ≡ l))

    mark_more : {n : List ℕ} {k : Option K} → (x.name ≡ n → taken n ≡ false → Unmarked M n → ⊥) → MarkedAs M n k
        → MarkedAs Next n k
    mark_more h (at_start t e) = at_start t e
    mark_more h (is_marked t p) = is_marked t (inl p)
    mark_more h (is_unmarked t c) = is_unmarked t (λ k z. elim z [ inl p ↦ c k p | inr q ↦ h q.1 t c ])

    unchanged : {s : Scope g.Reported} → Marking M s → (taken x.name ≡ false → Unmarked M x.name → ⊥) → Marking Next s
    unchanged m h = record {
      same = m.same;
      marks =
          λ n. mark_more (λ e. subst (λ (n : List ℕ). taken n ≡ false → Unmarked M n → ⊥) e h) (m.marks n);
      once =
          m.once;
    }

    taken_marks : {s : Scope g.Reported} {k o : Option K} {w : Option TypeNo} → Marking M s → (t : Bool)
        → taken x.name ≡ t → taken x.name ≡ true → TakenAs g j t w o → k ≡ o → Marking Next (unless_marked x.name l s k)
    taken_marks {s = s} m true q u (is_taken p) e =
        subst (λ (k : Option K). Marking Next (unless_marked x.name l s k)) (sym e) (unchanged m (λ w c. clash u w))
    taken_marks {s = s} m true q u (awaits p) e =
        subst (λ (k : Option K). Marking Next (unless_marked x.name l s k)) (sym e) (unchanged m (λ w c. clash u w))
    taken_marks {s = s} m true q u is_a_heading e =
        subst (λ (k : Option K). Marking Next (unless_marked x.name l s k)) (sym e) (unchanged m (λ w c. clash u w))
    taken_marks m false q u t e = absurd (clash u q)

    marks_by : {s : Scope g.Reported} {k : Option K} → Marking M s → MarkedAs M x.name k
        → Marking Next (unless_marked x.name l s k)
    marks_by m (at_start t e) = taken_marks m (taken x.name) refl t (takes x.name) e
    marks_by m (is_marked {k = k} t p) = unchanged m (λ u c. c k p)
    marks_by {s = s} m (is_unmarked t c) = record {
      same = record {
        withs = m.same.withs;
        outer = m.same.outer;
        types = m.same.types;
        tables = m.same.tables;
        level =
            m.same.level;
      };
      marks = entered_all (λ n o. MarkedAs Next n o) x.name l s.own (is_marked t (inr (c, refl, refl)))
          (λ n z. mark_more (λ e. absurd (z e)) (m.marks n));
      once = λ o. once_more x.name l (m.once o);
    }

    mark_one : {s : Scope g.Reported} → Marking M s → Marking Next (mark_name x l s)
    mark_one {s = s} m = marks_by m (m.marks x.name)

  -- ---- names of one declaration

  abbrev Names : MarkedNames → List Ident → K → MarkedNames
  Names M xs l n k = M n k ⊎ (Unmarked M n × Named xs n × (k ≡ l))

  names_join : (M : MarkedNames) (x : Ident) (xs : List Ident) (l : K) (n : List ℕ) (k : K)
      → Names (Next M x l) xs l n k → Names M (x ∷ xs) l n k
  names_join M x xs l n k (inl (inl m)) = inl m
  names_join M x xs l n k (inl (inr (c, e, q))) = inr (c, (x, here, e), q)
  names_join M x xs l n k (inr (c, (y, m, e), q)) = inr ((λ k z. c k (inl z)), (y, later m, e), q)

  names_split : (M : MarkedNames) (x : Ident) (xs : List Ident) (l : K) (n : List ℕ) (k : K) → Names M (x ∷ xs) l n k
      → Names (Next M x l) xs l n k
  names_split M x xs l n k (inl m) = inl (inl m)
  names_split M x xs l n k (inr (c, (y, here, e), q)) = inl (inr (c, e, q))
  names_split M x xs l n k (inr (c, (y, later m, e), q)) = by (compared x.name n)
    where
      by : Compared x.name n → Names (Next M x l) xs l n k
      by (are_one w) = inl (inr (c, w, q))
      by (are_two w b) = inr ((λ k z. elim z [ inl p ↦ c k p | inr u ↦ w u.1 ]), (y, m, e), q)

  mark_names : (xs : List Ident) (M : MarkedNames) {s : Scope g.Reported} → Marking M s
      → Marking (Names M xs known.Later) (fold marked_later s xs)
  mark_names [] M m = marking_as (λ n k p. inl p) (λ n k z. elim z [ inl p ↦ p | inr q ↦ elim q.1.1 [ ] ]) m
  mark_names (x ∷ xs) M m = marking_as (names_join M x xs known.Later) (names_split M x xs known.Later)
      (mark_names xs (Next M x known.Later) (mark_one M x known.Later m))

  -- ---- declarations

  abbrev With : MarkedNames → Declaration → MarkedNames
  With M d = Names M (names_of d ++ constants_of d) (mark_of d)

  one_with : (d : Declaration) (x : Ident) → names_of d ++ constants_of d ≡ x ∷ []
      → (M : MarkedNames) (s : Scope g.Reported) → Marking M s → Marking (With M d) (mark_name x (mark_of d) s)
  one_with d x e M s m = marking_as (λ n k z. to n k z) (λ n k z. from n k z) (mark_one M x (mark_of d) m)
    where
      to : (n : List ℕ) (k : K) → Next M x (mark_of d) n k → With M d n k
      to n k (inl p) = inl p
      to n k (inr (c, w, q)) = inr (c, subst (λ (xs : List Ident). Named xs n) (sym e) (x, here, w), q)

      single : {n : List ℕ} → Named (x ∷ []) n → x.name ≡ n
      single (y, here, w) = w
      single (y, later z, w) = elim z [ ]

      from : (n : List ℕ) (k : K) → With M d n k → Next M x (mark_of d) n k
      from n k (inl p) = inl p
      from n k (inr (c, w, q)) = inr (c, single (subst (λ (xs : List Ident). Named xs n) e w), q)

  constant_marks : (c : Constant) (M : MarkedNames) (s : Scope g.Reported) → Marking M s
      → Marking (With M (OfConstant c)) (marked_constant s c)
  constant_marks c M s m = one_with (OfConstant c) c.name refl M s m

  type_marks : (d : TypeDecl) (M : MarkedNames) (s : Scope g.Reported) → Marking M s
      → Marking (With M (OfType d)) (marked_type s d)
  type_marks d M s m = subst (Marking (With M (OfType d))) (sym (type_marked d.of (mark_name d.name known.Later s)))
      (mark_names (d.name ∷ constants_in d.of) M m)

  variable_marks : (v : Variables) (M : MarkedNames) (s : Scope g.Reported) → Marking M s
      → Marking (With M (OfVariables v)) (marked_variables s v)
  variable_marks v M s m = subst (Marking (With M (OfVariables v)))
      (sym (type_marked v.of (fold marked_later s v.names) ∙ fold_both marked_later s v.names (constants_in v.of)))
      (mark_names (v.names ++ constants_in v.of) M m)

  -- ---- sections and blocks

  abbrev Plus : MarkedNames → List Declaration → MarkedNames
  Plus M ds n k = M n k ⊎ (Unmarked M n × ((d : Declaration) × IsFirst n d ds × (k ≡ mark_of d)))

  plus_none : (M : MarkedNames) (n : List ℕ) (k : K) → Plus M [] n k → M n k
  plus_none M n k (inl p) = p
  plus_none M n k (inr (c, (d, i, q))) = elim i [ ]

  plus_join : (M : MarkedNames) (d : Declaration) (ds : List Declaration) (n : List ℕ) (k : K) → Plus (With M d) ds n k
      → Plus M (d ∷ ds) n k
  plus_join M d ds n k (inl (inl p)) = inl p
  plus_join M d ds n k (inl (inr (c, h, q))) = inr (c, (d, at_first h, q))
  plus_join M d ds n k (inr (c, (e, i, q))) = let none : Unmarked M n = (λ k p. c k (inl p)) in
      inr (none, (e, later_on (λ h. c (mark_of d) (inr (none, h, refl))) i, q))

  plus_split : (M : MarkedNames) (d : Declaration) (ds : List Declaration) (n : List ℕ) (k : K) → Plus M (d ∷ ds) n k
      → Plus (With M d) ds n k
  plus_split M d ds n k (inl p) = inl (inl p)
  plus_split M d ds n k (inr (c, (e, at_first h, q))) = inl (inr (c, h, q))
  plus_split M d ds n k (inr (c, (e, later_on w i, q))) =
      inr ((λ k z. elim z [ inl p ↦ c k p | inr u ↦ w u.1 ]), (e, i, q))

  plus_append : (M : MarkedNames) (ds es : List Declaration) (n : List ℕ) (k : K) → Plus (Plus M ds) es n k
      → Plus M (ds ++ es) n k
  plus_append M ds es n k (inl (inl p)) = inl p
  plus_append M ds es n k (inl (inr (c, (d, i, q)))) = inr (c, (d, first_left es i, q))
  plus_append M ds es n k (inr (c, (d, i, q))) = let none : Unmarked M n = (λ k p. c k (inl p)) in
      inr (none, (d, first_right ds (none_in none) i, q))
    where
      none_in : Unmarked M n → AnyDeclares ds n → ⊥
      none_in u a = elim (first_there ds n) [ inl f ↦ c (mark_of f.0) (inr (u, (f.0, f.1, refl))) | inr w ↦ w a ]

  append_plus : (M : MarkedNames) (ds es : List Declaration) (n : List ℕ) (k : K) → Plus M (ds ++ es) n k
      → Plus (Plus M ds) es n k
  append_plus M ds es n k (inl p) = inl (inl p)
  append_plus M ds es n k (inr (c, (d, i, q))) = by (first_split ds i)
    where
      by : IsFirst n d ds ⊎ ((AnyDeclares ds n → ⊥) × IsFirst n d es) → Plus (Plus M ds) es n k
      by (inl f) = inl (inr (c, (d, f, q)))
      by (inr (w, f)) = inr ((λ k z. elim z [ inl p ↦ c k p | inr u ↦ w (any_first u.1.1) ]), (d, f, q))

  section_marks : {X : Type 0} (f : Scope g.Reported → X → Scope g.Reported) (of : X → Declaration) (xs : List X)
      → ((x : X) → Among x xs → (M : MarkedNames) (s : Scope g.Reported) → Marking M s
      → Marking (With M (of x)) (f s x)) → (M : MarkedNames) (s : Scope g.Reported) → Marking M s
      → Marking (Plus M (map of xs)) (fold f s xs)
  section_marks f of [] h M s m = marking_as (λ n k p. inl p) (plus_none M) m
  section_marks f of (x ∷ xs) h M s m = marking_as (plus_join M (of x) (map of xs)) (plus_split M (of x) (map of xs))
      (section_marks f of xs (λ y n. h y (later n)) (With M (of x)) (f s x) (h x here M s m))

  layer_marks : (y : Decl-F Decl Block) (M : MarkedNames) (s : Scope g.Reported) → Marking M s
      → Marking (Plus M (declared_by y)) (marked_layer s y)
  layer_marks (decl.Constants cs) M s m = section_marks marked_constant OfConstant cs (λ c n. constant_marks c) M s m
  layer_marks (decl.Types ts) M s m = section_marks marked_type OfType ts (λ d n. type_marks d) M s m
  layer_marks (decl.Variables vs) M s m = section_marks marked_variables OfVariables vs (λ v n. variable_marks v) M s m
  layer_marks (decl.Procedure h b) M s m =
      marking_as (λ n k p. plus_join M (OfProcedure h) [] n k (inl p))
      (λ n k p. plus_none (With M (OfProcedure h)) n k (plus_split M (OfProcedure h) [] n k p))
      (one_with (OfProcedure h) h.name refl M s m)

  all_marks : (ds : List Decl) (M : MarkedNames) (s : Scope g.Reported) (ns : List ℕ) → Marking M s
      → Marking (Plus M (declarations_of ds)) (fold (with_marks marked_decl) (s, ns) ds).0
  all_marks [] M s ns m = marking_as (λ n k p. inl p) (plus_none M) m
  all_marks (d ∷ ds) M s ns m = marking_as (plus_append M (declared_by (out-Decl d)) (declarations_of ds))
      (append_plus M (declared_by (out-Decl d)) (declarations_of ds))
      (all_marks ds (Plus M (declared_by (out-Decl d))) (marked_decl s d) _ (layer_marks (out-Decl d) M s m))

  -- ---- where the declarations begin

  abbrev Nothing : MarkedNames
  Nothing n k = ⊥

  start_marks : (n : List ℕ) (t : Bool) → taken n ≡ t → {w : Option TypeNo} (o : Option K) → o ≡ find_name n start.own
      → TakenAs g j t w o → MarkedAs Nothing n o
  start_marks n true q o e t = at_start q e
  start_marks n false q _ e not_taken = is_unmarked q (λ k z. z)

  begins : start.withs ≡ [] → Marking Nothing start
  begins e = record {
    same = record { withs = e; outer = refl; types = refl; tables = refl; level = refl };
    marks =
        λ n. start_marks n (taken n) refl (find_name n start.own) refl (takes n);
    once = λ o. o;
  }

  abbrev Th : List ℕ → Type 0
  Th n = There start.types exports outside taken awaited nested block [] n

  nothing_there : {n : List ℕ} → taken n ≡ false → Th n → ⊥
  nothing_there t (inl u) = clash u t
  nothing_there t (inr a) = elim a.1 [ ]

  none_at_start : {n : List ℕ} (t : Bool) → taken n ≡ t → taken n ≡ false → {w : Option TypeNo} {o : Option K}
      → TakenAs g j t w o → None ≡ o
  none_at_start true q u t = absurd (clash q u)
  none_at_start false q u not_taken = refl

  marked_ahead : (n : List ℕ) {k : K} → taken n ≡ false → Plus Nothing block n k
      → KnownAs g j exports outside start taken awaited nested block [] Th n (Some k)
  marked_ahead n t (inl z) = absurd z
  marked_ahead n t (inr (c, (d, i, q))) =
      subst (λ (k : K). KnownAs g j exports outside start taken awaited nested block [] Th n (Some k)) (sym q)
      (ahead d t i (λ a. elim a.1 [ ]) (nothing_there t))

  unmarked_outer : (n : List ℕ) → Unmarked (Plus Nothing block) n → AnyDeclares block n → ⊥
  unmarked_outer n c a = elim (first_there block n)
      [ inl f ↦ c (mark_of f.0) (inr ((λ k z. z), (f.0, f.1, refl))) | inr w ↦ w a ]

  known_marked : (n : List ℕ) {k : Option K} → MarkedAs (Plus Nothing block) n k
      → KnownAs g j exports outside start taken awaited nested block [] Th n k
  known_marked n (at_start t e) = outer (λ u a. clash t u) (λ t w h. elim h.1 [ ]) e
  known_marked n (is_marked t p) = marked_ahead n t p
  known_marked n (is_unmarked t c) = outer (λ u a. unmarked_outer n c a) (λ t w h. elim h.1 [ ])
      (none_at_start (taken n) refl t (takes n))

  pub block_begins : (ds : List Decl) → start.withs ≡ [] → declarations_of ds ≡ block
      → KnowsBlock g j exports outside start taken awaited nested block [] block Th (all_marked marked_decl start ds).0
  block_begins ds e q = let m = subst (λ (block : List Declaration). Marking (Plus Nothing block)
      (all_marked marked_decl start ds).0) q (all_marks ds Nothing start [] (begins e)) in
      record {
        same = m.same;
        within = λ n a. elim a.1 [ ];
        in_block = λ n a. a;
        left = λ n d k c. k;
        includes =
            λ n t. t;
        own = λ n. known_marked n (m.marks n);
        once = m.once;
      }
