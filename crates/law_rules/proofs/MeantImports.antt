-- Which modules a typed module imports.
use Rattle.std.proofs.Common.{◌≡◌, ℕ, Bool, true, false, cond, List, [], ◌∷◌, ◌++◌, map, Option, Some, None, ◌⊎◌, inl, inr, refl, sym, ap, subst, ◌∙◌, append_assoc, append-nil}
use Rattle.std.specs.Prelude.{slice_get}
use Rattle.std.specs.List.{fold}
use Rattle.m2_tree.specs.Names.{is_console}
use Rattle.m2_tree.specs.declared.name.Ident.{Ident}
use Rattle.m2_tree.specs.declared.decl.Import.{Import}
use Rattle.typed_tree.specs.declared.types.TypeNo.{TypeNo}
use Rattle.typed_tree.specs.declared.meaning.Meaning.{Meaning}
use Rattle.typed_tree.specs.declared.meaning.Meaning.TheVariants as meaning
use Rattle.typed_tree.specs.declared.table.Table.{Table}
use Rattle.typed_tree.specs.declared.typed_module.Imported.{Imported}
use Rattle.typed_tree.specs.Names.{find_name, enter_name}
use Rattle.check_definition.specs.Importing.{numbered_modules}
use Rattle.check_definition.specs.Export.{with_table_if, with_place_if, with_imported, with_imports_of, with_import_of}
use Rattle.check_body.specs.Own.{with_variable_of, with_exported_variable}
use Rattle.check_body.specs.Imports.{with_import_copy, definition_imports, all_imports, imported_as, with_table_of, with_place_of, with_module_of, typed_imports}
use Rattle.def_typing.specs.Parts.{Among, here, later}
use Rattle.def_typing.specs.Imports.{Entry, IsFoundAt, found_here, found_later}
use Rattle.def_typed.specs.Modules.{variable_type, variable_types, modules_of, named_modules, IsImported, of_console, of_table, of_definition_alone, without_definition, AreImported, no_import, one_import, again}
use Rattle.law_typing.specs.Exact.{AreOnce, no_names, one_name}
use Rattle.law_typing.proofs.Combining.{Decided, holds, fails_it}
use Rattle.law_typing.proofs.Entering.{name_decided}
use Rattle.law_rules.specs.Exports as exporting
use Rattle.law_rules.specs.Exports.{AreModules}
use Rattle.law_rules.proofs.Tables.{Found, is_found, is_nowhere, found_same, found_get, module_found_by}
use Rattle.law_rules.proofs.Keys.{entered_last, entered_self, entered_other, found_first, once_found}

abbrev Names : Type 0
Names = List (List ℕ × ℕ)

clash : {b : Bool} → b ≡ true → b ≡ false → ⊥
clash p q = let z = sym p ∙ q in absurd cc

-- ---- lists of names

found_or : (n : List ℕ) (ms : Names) → ((v : ℕ) × (find_name n ms ≡ Some v)) ⊎ (find_name n ms ≡ None)
found_or n ms = by (find_name n ms)
  where
    by : (o : Option ℕ) → ((v : ℕ) × (o ≡ Some v)) ⊎ (o ≡ None)
    by (Some v) = inl (v, refl)
    by None = inr refl

among_or : (n : List ℕ) (ns : List (List ℕ)) → Among n ns ⊎ (Among n ns → ⊥)
among_or n [] = inr (λ i. elim i [ ])
among_or n (x ∷ ns) = by (name_decided n x) (among_or n ns)
  where
    first_or : {y : List ℕ} → Among y (x ∷ ns) → (y ≡ x) ⊎ Among y ns
    first_or here = inl refl
    first_or (later i) = inr i

    by : {b : Bool} → Decided (n ≡ x) b → Among n ns ⊎ (Among n ns → ⊥) → Among n (x ∷ ns) ⊎ (Among n (x ∷ ns) → ⊥)
    by (holds e) r = inl (subst (λ (y : List ℕ). Among y (x ∷ ns)) (sym e) here)
    by (fails_it c) (inl i) = inl (later i)
    by (fails_it c) (inr d) = inr (λ i. elim (first_or i) [ inl e ↦ c e | inr i ↦ d i ])

first_or : {x y : List ℕ} {ns : List (List ℕ)} → Among y (x ∷ ns) → (y ≡ x) ⊎ Among y ns
first_or here = inl refl
first_or (later i) = inr i

-- a name of what is left of a list
left_by : (n : List ℕ) (e : List ℕ × ℕ) (es : Names) {b : Bool} → Decided (n ≡ e.0) b
    → cond b (Some e.1) (find_name n es) ≡ None → find_name n es ≡ None
left_by n e es (holds q) h = absurd cc
left_by n e es (fails_it c) h = h

none_left : (n : List ℕ) (e : List ℕ × ℕ) (es : Names) → find_name n (e ∷ es) ≡ None → find_name n es ≡ None
none_left n e es h = left_by n e es (name_decided n e.0) h

abbrev keys_of : Names → List (List ℕ)
keys_of es = map (λ (e : List ℕ × ℕ). e.0) es

-- ---- the copy of what the definition imports

copied : (es acc : Names) → AreOnce es → ((n : List ℕ) (v : ℕ) → find_name n es ≡ Some v → find_name n acc ≡ None)
    → fold with_import_copy acc es ≡ acc ++ es
copied [] acc o h = sym (append-nil acc)
copied (e ∷ es) acc (one_name c o) h =
    let last : enter_name e.0 e.1 acc ≡ acc ++ e ∷ [] = entered_last e.0 e.1 acc (h e.0 e.1 (found_first e es)) in
    copied es (enter_name e.0 e.1 acc) o (λ n v q. entered_other e.0 n e.1 acc (apart n v q)
    ∙ h n v (more n v q (name_decided n e.0)))
    ∙ ap (λ (ms : Names). ms ++ es) last ∙ append_assoc acc (e ∷ []) es
  where
    apart : (n : List ℕ) (v : ℕ) → find_name n es ≡ Some v → e.0 ≡ n → ⊥
    apart n v q d = let z = sym c ∙ ap (λ (n : List ℕ). find_name n es) d ∙ q in absurd cc

    more : (n : List ℕ) (v : ℕ) → find_name n es ≡ Some v → {b : Bool} → Decided (n ≡ e.0) b
        → cond b (Some e.1) (find_name n es) ≡ Some v
    more n v q (holds d) = absurd (apart n v q (sym d))
    more n v q (fails_it d) = q

pub copy_is : (es : Names) → AreOnce es → fold with_import_copy [] es ≡ es
copy_is es o = copied es [] o (λ n v q. refl)

once_last : {ms : Names} (n : List ℕ) (v : ℕ) → AreOnce ms → find_name n ms ≡ None → AreOnce (ms ++ (n, v) ∷ [])
once_last n v no_names q = one_name refl no_names
once_last n v (one_name {e = e} {es = es} c o) q =
    one_name (none_last es e.0 c (apart (name_decided n e.0) q)) (once_last n v o (none_left n e es q))
  where
    apart : {b : Bool} → Decided (n ≡ e.0) b → cond b (Some e.1) (find_name n es) ≡ None → e.0 ≡ n → ⊥
    apart (holds d) h k = absurd cc
    apart (fails_it d) h k = d (sym k)

    last_by : (k : List ℕ) → (k ≡ n → ⊥) → {b : Bool} → Decided (k ≡ n) b → cond b (Some v) None ≡ None
    last_by k d (holds e) = absurd (d e)
    last_by k d (fails_it e) = refl

    skip_by : (k : List ℕ) (x : List ℕ × ℕ) (xs ys : Names) {b : Bool} → Decided (k ≡ x.0) b
        → cond b (Some x.1) (find_name k xs) ≡ None → (find_name k xs ≡ None → find_name k ys ≡ None)
        → cond b (Some x.1) (find_name k ys) ≡ None
    skip_by k x xs ys (holds e) h f = absurd cc
    skip_by k x xs ys (fails_it e) h f = f h

    none_last : (xs : Names) (k : List ℕ) → find_name k xs ≡ None → (k ≡ n → ⊥) → find_name k (xs ++ (n, v) ∷ []) ≡ None
    none_last [] k h d = last_by k d (name_decided k n)
    none_last (x ∷ xs) k h d = skip_by k x xs (xs ++ (n, v) ∷ []) (name_decided k x.0) h (λ q. none_last xs k q d)

pub modules_once : {tables : List Table} {front : _} {ms : Names} → AreModules tables front ms → AreOnce ms
modules_once exporting.no_import = no_names
modules_once (exporting.a_module {name = name} {t = t} a n f q) = once_last name.name t.number (modules_once a) q
modules_once (exporting.again a n q) = modules_once a
modules_once (exporting.without_definition a n q) = modules_once a
modules_once (exporting.a_name_of_it a) = modules_once a

-- ---- what stands for a module

variable_is : (ts : List TypeNo) (m : Meaning) → with_variable_of ts m ≡ ts ++ variable_type m
variable_is ts (meaning.Constant v) = sym (append-nil ts)
variable_is ts (meaning.Type t n) = sym (append-nil ts)
variable_is ts (meaning.Variable v) = refl
variable_is ts (meaning.Local v) = sym (append-nil ts)
variable_is ts (meaning.Field f) = sym (append-nil ts)
variable_is ts (meaning.Procedure p) = sym (append-nil ts)
variable_is ts (meaning.LocalProcedure p) = sym (append-nil ts)
variable_is ts meaning.Ahead = sym (append-nil ts)
variable_is ts (meaning.Standard f) = sym (append-nil ts)
variable_is ts (meaning.Module k) = sym (append-nil ts)

pub variables_are : (ts : List TypeNo) (es : List Entry) → fold with_exported_variable ts es ≡ ts ++ variable_types es
variables_are ts [] = sym (append-nil ts)
variables_are ts (e ∷ es) = variables_are (with_exported_variable ts e) es
    ∙ ap (λ (us : List TypeNo). us ++ variable_types es) (variable_is ts e.1)
    ∙ append_assoc ts (variable_type e.1) (variable_types es)

name_in : {n : List ℕ} {t : Table} {xs : List Table} {k : ℕ} → IsFoundAt (λ (t : Table). t.name ≡ n) t xs k → t.name ≡ n
name_in (found_here p) = p
name_in (found_later c f) = name_in f

module _ (tables : List Table) where
  abbrev modules : Names
  modules = (numbered_modules tables).0

  abbrev IsAt : List ℕ → Table → ℕ → Type 0
  IsAt n t k = IsFoundAt (λ (t : Table). t.name ≡ n) t tables k

  abbrev part : List ℕ × ℕ → List Imported
  part e = with_module_of modules tables [] e

  abbrev parts : Names → List Imported
  parts [] = []
  parts (e ∷ es) = part e ++ parts es

  table_more : (so : List Imported) (o : Option Table) → with_table_of so o ≡ so ++ with_table_of [] o
  table_more so None = sym (append-nil so)
  table_more so (Some t) = by (is_console t.name)
    where
      by : (b : Bool) → cond b so (so ++ imported_as t ∷ []) ≡ so ++ cond b [] (imported_as t ∷ [])
      by true = sym (append-nil so)
      by false = refl

  place_more : (so : List Imported) (e : List ℕ × ℕ) (o : Option ℕ)
      → with_place_of tables so e o ≡ so ++ with_place_of tables [] e o
  place_more so e None = by (is_console e.0)
    where
      by : (b : Bool) → cond b so (so ++ record { name = e.0; number = e.1; variables = [] } ∷ []) ≡ so
          ++ cond b [] (record { name = e.0; number = e.1; variables = [] } ∷ [])
      by true = sym (append-nil so)
      by false = refl
  place_more so e (Some k) = table_more so (slice_get tables k)

  all_parts : (es : Names) (so : List Imported) → fold (with_module_of modules tables) so es ≡ so ++ parts es
  all_parts [] so = sym (append-nil so)
  all_parts (e ∷ es) so = all_parts es (with_module_of modules tables so e)
      ∙ ap (λ (is : List Imported). is ++ parts es) (place_more so e (find_name e.0 modules))
      ∙ append_assoc so (part e) (parts es)

  parts_both : (es fs : Names) → parts (es ++ fs) ≡ parts es ++ parts fs
  parts_both [] fs = refl
  parts_both (e ∷ es) fs = ap (λ (is : List Imported). part e ++ is) (parts_both es fs)
      ∙ sym (append_assoc (part e) (parts es) (parts fs))

  -- A module with a table has its number from there.
  number_by : (n : List ℕ) (v w : ℕ) {o : Option ℕ} → Found (λ (t : Table). t.name ≡ n) tables o → (t : Table) (k : ℕ)
      → IsAt n t k → with_place_of tables [] (n, v) o ≡ with_place_of tables [] (n, w) o
  number_by n v w (is_found f) t k h = refl
  number_by n v w (is_nowhere c) t k h = absurd (c t k h)

  entered_parts : (n : List ℕ) (w v : ℕ) (t : Table) (k : ℕ) → IsAt n t k → (ms : Names) → find_name n ms ≡ Some v
      → parts (enter_name n w ms) ≡ parts ms
  entered_parts n w v t k f [] q = absurd cc
  entered_parts n w v t k f (e ∷ es) q = by (name_decided n e.0) q (λ h. entered_parts n w v t k f es h)
    where
      by : {b : Bool} → Decided (n ≡ e.0) b → cond b (Some e.1) (find_name n es) ≡ Some v
          → (find_name n es ≡ Some v → parts (enter_name n w es) ≡ parts es)
          → parts (cond b ((e.0, w) ∷ es) (e ∷ enter_name n w es)) ≡ part e ++ parts es
      by (holds d) h more = ap (λ (is : List Imported). is ++ parts es)
          (number_by e.0 w e.1 (module_found_by e.0 tables) t k (subst (λ (n : List ℕ). IsAt n t k) d f))
      by (fails_it d) h more = ap (λ (is : List Imported). part e ++ is) (more h)

  module _ (own : Names) where
    abbrev Is : List ℕ → List Imported → Type 0
    Is = IsImported tables own

    abbrev Are : List (List ℕ) → List (List ℕ) → List Imported → Type 0
    Are = AreImported tables own

    table_part : (n : List ℕ) (t : Table) (k : ℕ) → IsAt n t k → Is n (with_table_of [] (Some t))
    table_part n t k f = by (is_console t.name) (ap is_console (name_in f))
      where
        by : (b : Bool) → b ≡ is_console n → Is n (cond b [] (imported_as t ∷ []))
        by true e = of_console (sym e)
        by false e = subst (λ (vs : List TypeNo). Is n
            (record { name = t.name; number = t.number; variables = vs } ∷ [])) (sym (variables_are [] t.exported))
            (of_table (sym e) f)

    part_is : (n : List ℕ) (v : ℕ) {o : Option ℕ} → Found (λ (t : Table). t.name ≡ n) tables o
        → (((t : Table) (k : ℕ) → IsAt n t k → ⊥) → find_name n own ≡ Some v) → Is n (with_place_of tables [] (n, v) o)
    part_is n v (is_found {a = t} {k = k} f) h =
        subst (λ (o : Option Table). Is n (with_table_of [] o)) (sym (found_get (λ (t : Table). t.name ≡ n) f))
        (table_part n t k f)
    part_is n v (is_nowhere c) h = by (is_console n) refl
      where
        by : (b : Bool) → is_console n ≡ b → Is n (cond b [] (record { name = n; number = v; variables = [] } ∷ []))
        by true e = of_console e
        by false e = of_definition_alone e c (h c)

    -- ---- what the body imports

    record Behind (before : List (List ℕ)) (ms : Names) : Type 0 where
      known : (n : List ℕ) → Among n before → ((v : ℕ) × (find_name n ms ≡ Some v))
          ⊎ ((t : Table) (k : ℕ) → IsAt n t k → ⊥)
      there : (n : List ℕ) (v : ℕ) → find_name n ms ≡ Some v → Among n before
      first : (n : List ℕ) → find_name n ms ≡ None → find_name n own ≡ None

    abbrev step : Names → List ℕ → Names
    step ms n = with_place_if tables ms n (find_name n modules)

    entered_or : (n : List ℕ) (w : ℕ) (ms : Names) (m : List ℕ) {b : Bool} → Decided (n ≡ m) b
        → ((n ≡ m) × (find_name m (enter_name n w ms) ≡ Some w)) ⊎ (find_name m (enter_name n w ms) ≡ find_name m ms)
    entered_or n w ms m (holds e) = inl (
      e,
      subst (λ (m : List ℕ). find_name m (enter_name n w ms) ≡ Some w) e
          (entered_self n w ms),
    )
    entered_or n w ms m (fails_it c) = inr (entered_other n m w ms c)

    -- one name more is entered, which stands before or is new
    entered_behind : (n : List ℕ) (w : ℕ) (ms : Names) (before after : List (List ℕ)) → Behind before ms → Among n after
        → ((m : List ℕ) → Among m before → Among m after) → ((m : List ℕ) → Among m after → (m ≡ n) ⊎ Among m before)
        → Behind after (enter_name n w ms)
    entered_behind n w ms before after h i more less = record {
      known = λ m a. known_by m (entered_or n w ms m (name_decided n m)) (less m a);
      there = λ m v q. there_by m v q (entered_or n w ms m (name_decided n m));
      first = λ m q. first_by m q (entered_or n w ms m (name_decided n m));
    }
      where
        known_by : (m : List ℕ) → ((n ≡ m) × (find_name m (enter_name n w ms) ≡ Some w))
            ⊎ (find_name m (enter_name n w ms) ≡ find_name m ms) → (m ≡ n) ⊎ Among m before
            → ((v : ℕ) × (find_name m (enter_name n w ms) ≡ Some v)) ⊎ ((t : Table) (k : ℕ) → IsAt m t k → ⊥)
        known_by m (inl e) a = inl (w, e.1)
        known_by m (inr e) (inl q) = inl (
          w,
          subst (λ (m : List ℕ). find_name m (enter_name n w ms) ≡ Some w) (sym q)
              (entered_self n w ms),
        )
        known_by m (inr e) (inr a) = elim (h.known m a) [ inl r ↦ inl (r.0, e ∙ r.1) | inr c ↦ inr c ]

        there_by : (m : List ℕ) (v : ℕ) → find_name m (enter_name n w ms) ≡ Some v
            → ((n ≡ m) × (find_name m (enter_name n w ms) ≡ Some w))
            ⊎ (find_name m (enter_name n w ms) ≡ find_name m ms) → Among m after
        there_by m v q (inl e) = subst (λ (m : List ℕ). Among m after) e.0 i
        there_by m v q (inr e) = more m (h.there m v (sym e ∙ q))

        first_by : (m : List ℕ) → find_name m (enter_name n w ms) ≡ None
            → ((n ≡ m) × (find_name m (enter_name n w ms) ≡ Some w))
            ⊎ (find_name m (enter_name n w ms) ≡ find_name m ms) → find_name m own ≡ None
        first_by m q (inl e) = let z = sym e.1 ∙ q in absurd cc
        first_by m q (inr e) = h.first m (sym e ∙ q)

    abbrev Rest : List (List ℕ) → Names → List (List ℕ) → Names → Type 0
    Rest before ms ns end = (is : List Imported) × Are before ns is × (parts end ≡ parts ms ++ is)

    -- a name that stands before
    over : {before : List (List ℕ)} (ms ks : Names) {n : List ℕ} {ns : List (List ℕ)} (end : Names) → Among n before
        → parts ks ≡ parts ms → Rest before ks ns end → Rest before ms (n ∷ ns) end
    over ms ks end i e r = (r.0, again i r.1, r.2 ∙ ap (λ (is : List Imported). is ++ r.0) e)

    abbrev Next : List (List ℕ) → Type 0
    Next ns = (before : List (List ℕ)) (ms : Names) → Behind before ms → Rest before ms ns (fold step ms ns)

    found_next : (n : List ℕ) (ns : List (List ℕ)) (before : List (List ℕ)) (ms : Names) → Behind before ms → Next ns
        → {o : Option ℕ} → Found (λ (t : Table). t.name ≡ n) tables o → o ≡ find_name n modules
        → Rest before ms (n ∷ ns) (fold step (with_place_if tables ms n o) ns)
    found_next n ns before ms h next {o = o} (is_found {a = t} {k = k} f) e =
        subst (λ (r : Option Table). Rest before ms (n ∷ ns) (fold step (with_table_if ms n r) ns))
        (sym (found_get (λ (t : Table). t.name ≡ n) f)) (by (found_or n ms))
      where
        by : ((v : ℕ) × (find_name n ms ≡ Some v)) ⊎ (find_name n ms ≡ None)
            → Rest before ms (n ∷ ns) (fold step (enter_name n t.number ms) ns)
        by (inl (v, q)) = over ms (enter_name n t.number ms) (fold step (enter_name n t.number ms) ns) (h.there n v q)
            (entered_parts n t.number v t k f ms q)
            (next before (enter_name n t.number ms)
            (entered_behind n t.number ms before before h (h.there n v q) (λ m a. a) (λ m a. inr a)))
        by (inr q) =
            let r = next (n ∷ before) (enter_name n t.number ms)
            (entered_behind n t.number ms before (n ∷ before) h here (λ m a. later a) (λ m a. first_or a)) in
            let i = part_is n t.number (is_found f) (λ c. absurd (c t k f)) in (
              with_place_of tables [] (n, t.number) (Some k) ++ r.0,
              one_import (λ a. elim (h.known n a) [ inl z ↦ none_some q z.1 | inr c ↦ c t k f ]) i r.1,
              r.2 ∙ ap (λ (is : List Imported). is ++ r.0)
                  (ap parts (entered_last n t.number ms q) ∙ parts_both ms ((n, t.number) ∷ [])
                  ∙ ap (λ (is : List Imported). parts ms ++ is)
                  (append-nil (part (n, t.number))
                  ∙ ap (λ (o : Option ℕ). with_place_of tables [] (n, t.number) o) (sym e)))
                  ∙ append_assoc (parts ms) (with_place_of tables [] (n, t.number) (Some k)) r.0,
            )
          where
            none_some : {o : Option ℕ} {v : ℕ} → o ≡ None → o ≡ Some v → ⊥
            none_some p q = let z = sym p ∙ q in absurd cc
    found_next n ns before ms h next (is_nowhere c) e = by (found_or n ms) (among_or n before)
      where
        by : ((v : ℕ) × (find_name n ms ≡ Some v)) ⊎ (find_name n ms ≡ None) → Among n before ⊎ (Among n before → ⊥)
            → Rest before ms (n ∷ ns) (fold step ms ns)
        by (inl (v, q)) a = over ms ms (fold step ms ns) (h.there n v q) refl (next before ms h)
        by (inr q) (inl i) = over ms ms (fold step ms ns) i refl (next before ms h)
        by (inr q) (inr d) =
            let r = next (n ∷ before) ms (record {
              known = λ m a. elim (first_or a) [
                | inl z ↦ inr (λ t k f. c t k (subst (λ (m : List ℕ). IsAt m t k) z f))
                | inr i ↦ h.known m i
              ];
              there = λ m v w. later (h.there m v w);
              first = λ m w. h.first m w;
            }) in
            (r.0, one_import d (without_definition c (h.first n q)) r.1, r.2)

    later_imports : (ns : List (List ℕ)) → Next ns
    later_imports [] before ms h = ([], no_import, sym (append-nil (parts ms)))
    later_imports (n ∷ ns) before ms h = found_next n ns before ms h (λ b k r. later_imports ns b k r)
        (module_found_by n tables) refl

    -- ---- what the definition imports

    abbrev onto : Names → List (List ℕ) → List (List ℕ)
    onto [] before = before
    onto (e ∷ es) before = onto es (e.0 ∷ before)

    first_imports : (es : Names) (before ns : List (List ℕ)) (is : List Imported) → AreOnce es
        → ((n : List ℕ) → Among n before → find_name n es ≡ None)
        → ((e : List ℕ × ℕ) → Among e es → find_name e.0 own ≡ Some e.1) → Are (onto es before) ns is
        → Are before (keys_of es ++ ns) (parts es ++ is)
    first_imports [] before ns is o h k r = r
    first_imports (e ∷ es) before ns is (one_name c o) h k r =
        subst (λ (all : List Imported). Are before (e.0 ∷ (keys_of es ++ ns)) all)
        (sym (append_assoc (part e) (parts es) is))
        (one_import (λ a. none_some (h e.0 a) (found_first e es))
        (part_is e.0 e.1 (module_found_by e.0 tables) (λ d. k e here))
        (first_imports es (e.0 ∷ before) ns is o (λ n a. none_by n a) (λ x i. k x (later i)) r))
      where
        none_some : {o : Option ℕ} {v : ℕ} → o ≡ None → o ≡ Some v → ⊥
        none_some p q = let z = sym p ∙ q in absurd cc

        none_by : (n : List ℕ) → Among n (e.0 ∷ before) → find_name n es ≡ None
        none_by n a = elim (first_or a) [
          | inl z ↦ subst (λ (n : List ℕ). find_name n es ≡ None) (sym z) c
          | inr i ↦
              none_left n e es (h n i)
        ]

    among_onto : (es : Names) (before : List (List ℕ)) (n : List ℕ) → Among n before → Among n (onto es before)
    among_onto [] before n i = i
    among_onto (e ∷ es) before n i = among_onto es (e.0 ∷ before) n (later i)

    found_onto : (es : Names) (before : List (List ℕ)) (n : List ℕ) (v : ℕ) → find_name n es ≡ Some v
        → Among n (onto es before)
    found_onto [] before n v q = absurd cc
    found_onto (e ∷ es) before n v q = by (name_decided n e.0) q (λ h. found_onto es (e.0 ∷ before) n v h)
      where
        by : {b : Bool} → Decided (n ≡ e.0) b → cond b (Some e.1) (find_name n es) ≡ Some v
            → (find_name n es ≡ Some v → Among n (onto es (e.0 ∷ before))) → Among n (onto es (e.0 ∷ before))
        by (holds d) h more = among_onto es (e.0 ∷ before) n
            (subst (λ (m : List ℕ). Among m (e.0 ∷ before)) (sym d) here)
        by (fails_it d) h more = more h

    onto_found : (es : Names) (before : List (List ℕ)) (n : List ℕ) → Among n (onto es before) → Among n before
        ⊎ ((v : ℕ) × (find_name n es ≡ Some v))
    onto_found [] before n i = inl i
    onto_found (e ∷ es) before n i = by (onto_found es (e.0 ∷ before) n i)
      where
        found_by : (v : ℕ) → find_name n es ≡ Some v → {b : Bool} → Decided (n ≡ e.0) b → (v : ℕ)
            × (cond b (Some e.1) (find_name n es) ≡ Some v)
        found_by v q (holds d) = (e.1, refl)
        found_by v q (fails_it d) = (v, q)

        by : Among n (e.0 ∷ before) ⊎ ((v : ℕ) × (find_name n es ≡ Some v)) → Among n before
            ⊎ ((v : ℕ) × (find_name n (e ∷ es) ≡ Some v))
        by (inr r) = inr (found_by r.0 r.1 (name_decided n e.0))
        by (inl a) = elim (first_or a) [
          | inl z ↦ inr
              (e.1, subst (λ (m : List ℕ). find_name m (e ∷ es) ≡ Some e.1) (sym z) (found_first e es))
          | inr i ↦ inl i
        ]

  -- ---- all of them

  map_step : (names : List Ident) (ms : Names)
      → fold (with_imported modules tables) ms names
      ≡ fold (λ (ms : Names) (n : List ℕ). with_place_if tables ms n (find_name n modules)) ms
      (map (λ (x : Ident). x.name) names)
  map_step [] ms = refl
  map_step (x ∷ names) ms = map_step names (with_imported modules tables ms x)

  fold_both : {A B : Type 0} (f : A → B → A) (a : A) (xs ys : List B) → fold f a (xs ++ ys) ≡ fold f (fold f a xs) ys
  fold_both f a [] ys = refl
  fold_both f a (x ∷ xs) ys = fold_both f (f a x) xs ys

  abbrev Step : Names → List ℕ → Names
  Step ms n = with_place_if tables ms n (find_name n modules)

  import_step : (from : Option Ident) (names : List Ident) (ms : Names)
      → with_imports_of modules tables ms from names ≡ fold Step ms (modules_of from names)
  import_step None names ms = map_step names ms
  import_step (Some m) names ms = refl

  imports_step : (imports : List Import) (ms : Names)
      → fold (with_import_of modules tables) ms imports ≡ fold Step ms (named_modules imports)
  imports_step [] ms = refl
  imports_step (x ∷ xs) ms =
      ap (λ (ns : Names). fold (with_import_of modules tables) ns xs) (import_step x.from x.names ms)
      ∙ imports_step xs (fold Step ms (modules_of x.from x.names))
      ∙ sym (fold_both Step ms (modules_of x.from x.names) (named_modules xs))

  pub imports_are : (own : Option Table) (given : Names) → definition_imports own ≡ given → AreOnce given
      → (imports : List Import)
      → AreImported tables given [] (keys_of given ++ named_modules imports)
      (typed_imports modules tables (all_imports modules tables own imports))
  imports_are own given e o imports =
      let r = later_imports given (named_modules imports) (onto given given []) given (record {
        known = λ n a. elim (onto_found given given [] n a) [ inl i ↦ absurd (nothing i) | inr r ↦ inl r ];
        there = λ n v q. found_onto given given [] n v q;
        first = λ n q. q;
      }) in
      let names : all_imports modules tables own imports ≡ fold Step given (named_modules imports) =
      ap (λ (ms : Names). fold (with_import_of modules tables) ms imports) e ∙ imports_step imports given in
      subst (λ (is : List Imported). AreImported tables given [] (keys_of given ++ named_modules imports) is)
      (sym (all_parts (all_imports modules tables own imports) [] ∙ ap parts names ∙ r.2))
      (first_imports given given [] (named_modules imports) r.0 o (λ n a. absurd (nothing a)) (λ x i. once_found o x i)
      r.1)
    where
      nothing : {n : List ℕ} → Among n [] → ⊥
      nothing i = elim i [ ]

  -- ---- one list at most

  module _ (own : Names) where
    imported_one : {n : List ℕ} {i k : List Imported} → IsImported tables own n i → IsImported tables own n k → k ≡ i
    imported_one (of_console e) (of_console q) = refl
    imported_one (of_console e) (of_table q f) = absurd (clash e q)
    imported_one (of_console e) (of_definition_alone q c d) = absurd (clash e q)
    imported_one (of_console e) (without_definition c d) = refl
    imported_one (of_table e f) (of_console q) = absurd (clash q e)
    imported_one {n = n} (of_table e f) (of_table q h) =
        ap (λ (t : Table). let i : List Imported =
        record { name = t.name; number = t.number; variables = variable_types t.exported } ∷ [] in i)
        (found_same (λ (t : Table). t.name ≡ n) h f).0
    imported_one (of_table {t = t} {k = k} e f) (of_definition_alone q c d) = absurd (c t k f)
    imported_one (of_table {t = t} {k = k} e f) (without_definition c d) = absurd (c t k f)
    imported_one (of_definition_alone e c d) (of_console q) = absurd (clash q e)
    imported_one (of_definition_alone e c d) (of_table {t = t} {k = k} q f) = absurd (c t k f)
    imported_one {n = n} (of_definition_alone {k = v} e c d) (of_definition_alone {k = w} q b h) =
        let z : ◌≡◌ {A = Option ℕ} (Some w) (Some v) = sym h ∙ d in
        ap (λ (v : ℕ). let i : List Imported = record { name = n; number = v; variables = [] } ∷ [] in i) (one_number z)
      where
        one_number : {a b : ℕ} → ◌≡◌ {A = Option ℕ} (Some a) (Some b) → a ≡ b
        one_number q = cc
    imported_one (of_definition_alone e c d) (without_definition b h) = let z = sym d ∙ h in absurd cc
    imported_one (without_definition c d) (of_console q) = refl
    imported_one (without_definition c d) (of_table {t = t} {k = k} q f) = absurd (c t k f)
    imported_one (without_definition c d) (of_definition_alone q b h) = let z = sym d ∙ h in absurd cc
    imported_one (without_definition c d) (without_definition b h) = refl

    pub imports_one : {before ns : List (List ℕ)} {is ks : List Imported} → AreImported tables own before ns is
        → AreImported tables own before ns ks → ks ≡ is
    imports_one no_import no_import = refl
    imports_one (one_import {i = i} {is = is} c p r) (one_import {i = k} {is = ks} d q w) =
        ap (λ (i : List Imported). i ++ ks) (imported_one p q) ∙ ap (λ (ks : List Imported). i ++ ks) (imports_one r w)
    imports_one (one_import c p r) (again a w) = absurd (c a)
    imports_one (again a r) (one_import c p w) = absurd (c a)
    imports_one (again a r) (again b w) = imports_one r w
