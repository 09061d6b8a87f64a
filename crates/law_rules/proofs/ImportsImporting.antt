-- A scope knows what each import brings, and what is refused of it.
use Rattle.std.proofs.Common.{◌≡◌, ℕ, suc, Bool, true, false, cond, List, [], ◌∷◌, map, Option, Some, None, Result, Ok, ◌⊎◌, inl, inr, refl, sym, ap, subst, ◌∙◌, arith, ◌++◌, append_assoc}
use Rattle.std.specs.Prelude.{take, drop, reverse, slice_get, not, ◌==◌}
use Rattle.std.specs.List.{fold, flat_map}
use Rattle.std.proofs.lemmas.Bool.Decides.{nat_tests}
use Rattle.m2_rule.specs.declared.breach.Breach.{Breach}
use Rattle.m2_rule.specs.declared.rule.Rule.{Rule}
use Rattle.m2_rule.specs.declared.rule.Rule.TheVariants as rule
use Rattle.m2_tree.specs.declared.pos.Pos.{Pos}
use Rattle.m2_tree.specs.declared.name.Ident.{Ident}
use Rattle.m2_tree.specs.declared.decl.Import.{Import}
use Rattle.typed_tree.specs.declared.meaning.Meaning.{Meaning}
use Rattle.typed_tree.specs.declared.meaning.Meaning.TheVariants as meaning
use Rattle.typed_tree.specs.declared.table.Table.{Table}
use Rattle.typed_tree.specs.Names.{find_name}
use Rattle.m2_tree.specs.Names.{same_name}
use Rattle.check_scope.specs.declared.known.Known.{Known}
use Rattle.check_scope.specs.declared.known.Known.TheVariants as known
use Rattle.check_scope.specs.declared.scope.Scope.{Scope}
use Rattle.check_scope.specs.Elaborated.{Gathers, report, reported_where}
use Rattle.check_scope.specs.Scopes.{State, is_free, is_one_origin, is_again, with_known, import_name}
use Rattle.check_definition.specs.Importing.{with_module_as, module_found, with_module_name, with_entry, brings_of, brings_in, reported_of_taken, unless_taken, from_place, with_from, exports_of, from_module, with_imports, with_import, numbered_modules}
use Rattle.def_typing.specs.Operators.{◌!◌}
use Rattle.law_typing.specs.Judging.{Judges}
use Rattle.law_typing.proofs.Combining.{Lawful, Decided, holds, fails_it, decided_as, Tells, silent, tells, tells_as, beside_tells, accounts_one, accounts_as}
use Rattle.law_typing.proofs.Entering.{entered_all, name_decided}
use Rattle.law_typing.proofs.Beginning.{clash}
use Rattle.std.proofs.lemmas.List.{reverse-append, append-nil}
use Rattle.def_typing.specs.Imports.{Imported, OfModule, FromModule, OfName, parts_of, all_imported, found_here, found_later, IsEntry, names_with, Origin, Itself, Exported, IsTable, Gives, gives_module, gives_names, IsNew, More, is_there, is_given, IsOther, of_own, of_import, Misimports, no_module, not_from, not_exported, module_twice, name_twice, constant_twice, Brings, BrokenIn}
use Rattle.law_rules.specs.Importing.{origin, OwnAs, is_own, not_own}
use Rattle.law_rules.proofs.Tables.{found_same, found_get, Found, is_found, is_nowhere, found_position, Named, module_found_by}

-- ---- where names come from

number_by : (m n : ℕ) (b : Bool) → (m == n) ≡ b → Decided (m ≡ n) b
number_by m n true e = holds (grind (arith, nat_tests))
number_by m n false e = fails_it (λ h. absurd (grind (arith, nat_tests)))

abbrev number_of : Origin → ℕ
number_of (Itself k) = k
number_of (Exported k) = k

origin_decided : (s u : Origin) → Decided (s ≡ u) (is_one_origin (origin s) (origin u))
origin_decided (Itself k) (Itself l) = decided_as (λ e. ap Itself e) (λ e. ap number_of e) (number_by k l (k == l) refl)
origin_decided (Itself k) (Exported l) = fails_it (λ e. absurd cc)
origin_decided (Exported k) (Itself l) = fails_it (λ e. absurd cc)
origin_decided (Exported k) (Exported l) =
    decided_as (λ e. ap Exported e) (λ e. ap number_of e) (number_by k l (k == l) refl)

brings_with : (m : Meaning) → brings_of m ≡ names_with m
brings_with (meaning.Constant v) = refl
brings_with (meaning.Type t n) = refl
brings_with (meaning.Variable v) = refl
brings_with (meaning.Local v) = refl
brings_with (meaning.Field f) = refl
brings_with (meaning.Procedure p) = refl
brings_with (meaning.LocalProcedure p) = refl
brings_with meaning.Ahead = refl
brings_with (meaning.Standard f) = refl
brings_with (meaning.Module k) = refl

apart : {P : Type 0} {b : Bool} → Decided P b → P ⊎ (P → ⊥)
apart (holds p) = inl p
apart (fails_it n) = inr n

name_decided_by : (a n : List ℕ) → (a ≡ n) ⊎ (a ≡ n → ⊥)
name_decided_by a n = apart (name_decided a n)

entry_decided : (name : List ℕ) (e : List ℕ × Meaning) → Decided (e.0 ≡ name) (same_name name e.0)
entry_decided name e = decided_as (λ h. sym h) (λ h. sym h) (name_decided name e.0)

module _ (g : Gathers) (j : Judges g) (lawful : Lawful g j) (own : List ℕ → Bool) (start : Scope g.Reported)
    (owns : (n : List ℕ) → OwnAs (own n) (find_name n start.own)) where
  abbrev K : Type 0
  K = Known g.Reported

  -- what is there of names
  abbrev Theres : Type 1
  Theres = List ℕ → Origin → Meaning → Type 0

  abbrev pub Tell : (Breach → Type 0) → Result (Unit {0}) g.Reported → Type 0
  Tell B r = Tells g j lawful (λ f. ⊥) B r

  abbrev New : Theres → List ℕ → Type 0
  New B n = IsNew start.tables own B n

  abbrev Other : Theres → List ℕ → Origin → Type 0
  Other B n u = IsOther start.tables own B n u

  pub data KnownBy (B : Theres) (n : List ℕ) : Option K → Type 0 where
    brought_in : {u : Origin} {m : Meaning} → own n ≡ false → B n u m
        → ((v : Origin) (w : Meaning) → B n v w → (v ≡ u) × (w ≡ m))
        → KnownBy B n (Some (known.Declared (origin u) (Ok m)))
    as_before : {k : Option K} → ((v : Origin) (w : Meaning) → B n v w → ⊥) → k ≡ find_name n start.own → KnownBy B n k

  pub record Knowing (B : Theres) (s : Scope g.Reported) : Type 0 where
    pub same : s ≡ record start { own = s.own }
    pub names : (n : List ℕ) → KnownBy B n (find_name n s.own)

  known_as : {B C : Theres} {n : List ℕ} {k : Option K} → ((u : Origin) (m : Meaning) → B n u m → C n u m)
      → ((u : Origin) (m : Meaning) → C n u m → B n u m) → KnownBy B n k → KnownBy C n k
  known_as bc cb (brought_in {u = u} {m = m} o b only) = brought_in o (bc u m b) (λ v w c. only v w (cb v w c))
  known_as bc cb (as_before c e) = as_before (λ v w z. c v w (cb v w z)) e

  pub knowing_as : {B C : Theres} {s : Scope g.Reported} → ((n : List ℕ) (u : Origin) (m : Meaning) → B n u m → C n u m)
      → ((n : List ℕ) (u : Origin) (m : Meaning) → C n u m → B n u m) → Knowing B s → Knowing C s
  knowing_as bc cb k = record { same = k.same; names = λ n. known_as (bc n) (cb n) (k.names n) }

  -- ---- one name

  abbrev Plus : Theres → List ℕ → Origin → Meaning → Theres
  Plus B x u m n v w = B n v w ⊎ (New B x × (x ≡ n) × (v ≡ u) × (w ≡ m))

  new_alone : {B : Theres} {n : List ℕ} {u : Origin} → New B n → Other B n u → ⊥
  new_alone n (of_own e) = clash e n.0
  new_alone n (of_import {p = v} {m = w} b c) = n.1 v w b

  module _ (B : Theres) (at : Pos) (x : List ℕ) (u : Origin) (m : Meaning) (s : Scope g.Reported) (k : Knowing B s)
    where
      abbrev After : Theres
      After = Plus B x u m

      abbrev Done : State (Unit {0}) g.Reported → Type 0
      Done st = Knowing After st.0 × Tell (λ f. Other B x u × (f ≡ at ! rule.DeclaredTwice)) st.1

      unchanged : (New B x → ⊥) → Knowing After s
      unchanged h = knowing_as (λ n v w b. inl b) (λ n v w z. elim z [ inl b ↦ b | inr q ↦ absurd (h q.0) ]) k

      refused : (New B x → ⊥) → Other B x u → Done (s, report g at rule.DeclaredTwice)
      refused n o = (
        unchanged n,
        tells (g.one (at ! rule.DeclaredTwice))
            (accounts_as g j lawful (λ f. ⊥) (λ f e. (o, e)) (λ f z. z.1)
            (accounts_one g j lawful (λ f. ⊥) (at ! rule.DeclaredTwice))),
      )

      not_other : {v : Origin} {w : Meaning} → own x ≡ false
          → ((v' : Origin) (w' : Meaning) → B x v' w' → (v' ≡ v) × (w' ≡ w)) → v ≡ u → Other B x u → ⊥
      not_other o only e (of_own t) = clash t o
      not_other o only e (of_import {p = v'} {m = w'} b c) = c ((only v' w' b).0 ∙ e)

      entered : New B x → Done (with_known x (known.Declared (origin u) (Ok m)) s, Ok tt)
      entered new = (
        record {
          same = ap (λ (t : Scope g.Reported). with_known x (known.Declared (origin u) (Ok m))
              (record t { own = s.own }))
              k.same;
          names = entered_all (λ n o. KnownBy After n o) x (known.Declared (origin u) (Ok m)) s.own
              (brought_in new.0 (inr (new, refl, refl, refl))
              (λ v w z. elim z [ inl b ↦ absurd (new.1 v w b) | inr q ↦ (q.2, q.3) ]))
              (λ n c. known_as (λ v w b. inl b) (λ v w z. elim z [ inl b ↦ b | inr q ↦ absurd (c q.1) ]) (k.names n));
        },
        silent (λ f z. new_alone new z.0),
      )

      brought_by : {v : Origin} {w : Meaning} → own x ≡ false → B x v w
          → ((v' : Origin) (w' : Meaning) → B x v' w' → (v' ≡ v) × (w' ≡ w)) → (b : Bool) → Decided (v ≡ u) b
          → Done (cond b (s, Ok tt) (s, report g at rule.DeclaredTwice))
      brought_by {v = v} {w = w} o b only true (holds e) =
          (unchanged (λ n. n.1 v w b), silent (λ f z. not_other o only e z.0))
      brought_by {v = v} {w = w} o b only false (fails_it c) = refused (λ n. n.1 v w b) (of_import b c)

      abbrev imported_as : Option K → State (Unit {0}) g.Reported
      imported_as o = cond (is_again o (origin u)) (s, Ok tt)
          (cond (is_free o) (with_known x (known.Declared (origin u) (Ok m)) s, Ok tt)
          (s, report g at rule.DeclaredTwice))

      free_by : (o : Option K) → is_free o ≡ true → New B x → Done (imported_as o)
      free_by None e n = entered n
      free_by (Some known.Later) e n = entered n
      free_by (Some known.Ahead) e n = entered n
      free_by (Some known.Begun) e n = absurd cc
      free_by (Some (known.Headed r)) e n = absurd cc
      free_by (Some (known.Declared o r)) e n = absurd cc

      own_by : {o : Option K} → ((v : Origin) (w : Meaning) → B x v w → ⊥) → (t : Bool) → own x ≡ t → OwnAs t o
          → Done (imported_as o)
      own_by c true e is_own = refused (λ n. clash e n.0) (of_own e)
      own_by {o = o} c false e (not_own f) = free_by o f (e, c)

      known_by : {o : Option K} → KnownBy B x o → Done (imported_as o)
      known_by (brought_in {u = v} o b only) =
          brought_by o b only (is_one_origin (origin v) (origin u)) (origin_decided v u)
      known_by (as_before c e) = own_by c (own x) refl (subst (λ (o : Option K). OwnAs (own x) o) (sym e) (owns x))

      pub import_one : Done (import_name g s at x (origin u) (Ok m))
      import_one = known_by (k.names x)

  -- ---- a name with those that come with it

  abbrev Entries : Type 0
  Entries = List (List ℕ × Meaning)

  abbrev EntryFor : List ℕ → Entries → Meaning → Type 0
  EntryFor n es w = (e : List ℕ × Meaning) × (l : ℕ) × IsEntry n es e l × (w ≡ e.1)

  abbrev Listing : Theres → ℕ → Entries → Theres
  Listing B k es n v w = B n v w ⊎ (New B n × (v ≡ Exported k) × EntryFor n es w)

  abbrev Clashing : Theres → ℕ → Entries → Type 0
  Clashing B k es = (n : List ℕ) × (e : List ℕ × Meaning) × (l : ℕ) × IsEntry n es e l × Other B n (Exported k)

  module _ (B : Theres) (k : ℕ) (e : List ℕ × Meaning) (es : Entries) where
    abbrev Next : Theres
    Next = Plus B e.0 (Exported k) e.1

    next_new : {n : List ℕ} → (e.0 ≡ n → ⊥) → New B n → New Next n
    next_new c w = (w.0, λ v m z. elim z [ inl b ↦ w.1 v m b | inr q ↦ c q.1 ])

    new_next : {n : List ℕ} → New Next n → New B n
    new_next w = (w.0, λ v m b. w.1 v m (inl b))

    not_next : {n : List ℕ} → New Next n → e.0 ≡ n → ⊥
    not_next {n = n} w h = let b : New B n = new_next w in
        w.1 (Exported k) e.1 (inr (subst (λ (n : List ℕ). New B n) (sym h) b, h, refl, refl))

    listing_join : (n : List ℕ) (v : Origin) (w : Meaning) → Listing Next k es n v w → Listing B k (e ∷ es) n v w
    listing_join n v w (inl (inl b)) = inl b
    listing_join n v w (inl (inr (new, h, p, q))) =
        inr (subst (λ (n : List ℕ). New B n) h new, p, (e, 0, found_here h, q))
    listing_join n v w (inr (new, p, (c, l, i, q))) = inr (new_next new, p, (c, suc l, found_later (not_next new) i, q))

    listing_split : (n : List ℕ) (v : Origin) (w : Meaning) → Listing B k (e ∷ es) n v w → Listing Next k es n v w
    listing_split n v w (inl b) = inl (inl b)
    listing_split n v w (inr (new, p, (c, l, found_here h, q))) =
        inl (inr (subst (λ (n : List ℕ). New B n) (sym h) new, h, p, q))
    listing_split n v w (inr (new, p, (c, l, found_later m i, q))) = inr (next_new m new, p, (c, _, i, q))

    other_next : {n : List ℕ} → Other B n (Exported k) → Other Next n (Exported k)
    other_next (of_own t) = of_own t
    other_next (of_import b c) = of_import (inl b) c

    next_other : {n : List ℕ} → Other Next n (Exported k) → Other B n (Exported k)
    next_other (of_own t) = of_own t
    next_other (of_import (inl b) c) = of_import b c
    next_other (of_import (inr (new, h, p, q)) c) = absurd (c p)

    entry_more : (n : List ℕ) (c : List ℕ × Meaning) (l : ℕ) → IsEntry n es c l → Other Next n (Exported k)
        → Clashing B k (e ∷ es)
    entry_more n c l i o = elim (name_decided_by e.0 n)
        [ inl h ↦ (n, e, 0, found_here h, next_other o) | inr m ↦ (n, c, suc l, found_later m i, next_other o) ]

    clashing_join : Other B e.0 (Exported k) ⊎ Clashing Next k es → Clashing B k (e ∷ es)
    clashing_join (inl o) = (e.0, e, 0, found_here refl, o)
    clashing_join (inr (n, c, l, i, o)) = entry_more n c l i o

    clashing_split : Clashing B k (e ∷ es) → Other B e.0 (Exported k) ⊎ Clashing Next k es
    clashing_split (n, c, l, found_here h, o) = inl (subst (λ (n : List ℕ). Other B n (Exported k)) (sym h) o)
    clashing_split (n, c, l, found_later m i, o) = inr (n, c, _, i, other_next o)

  import_entries : (at : Pos) (k : ℕ) (es : Entries) (B : Theres) {C : Breach → Type 0} {s : Scope g.Reported}
      {r : Result (Unit {0}) g.Reported} → Knowing B s → Tell C r
      → Knowing (Listing B k es) (fold (with_entry g at k) (s, r) es).0
      × Tell (λ f. C f ⊎ (Clashing B k es × (f ≡ at ! rule.DeclaredTwice))) (fold (with_entry g at k) (s, r) es).1
  import_entries at k [] B ks t = (
    knowing_as (λ n v w b. inl b) (λ n v w z. elim z [ inl b ↦ b | inr q ↦ elim q.2.2 [ ] ]) ks,
    tells_as g j lawful (λ f. ⊥) (λ f c. inl c) (λ f z. elim z [ inl c ↦ c | inr q ↦ elim q.0.3 [ ] ]) t,
  )
  import_entries at k (e ∷ es) B {s = s} ks t =
      let q = import_one B at e.0 (Exported k) e.1 s ks in
      let z = import_entries at k es (Next B k e es) q.0 (beside_tells g j lawful (λ f. ⊥) t q.1) in (
        knowing_as (listing_join B k e es) (listing_split B k e es) z.0,
        tells_as g j lawful (λ f. ⊥)
            (λ f z. elim z [
              | inl y ↦ elim y [ inl c ↦ inl c | inr o ↦ inr (clashing_join B k e es (inl o.0), o.1) ]
              | inr o ↦ inr (clashing_join B k e es (inr o.0), o.1)
            ])
            (λ f z. elim z [
              | inl c ↦ inl (inl c)
              | inr o ↦ elim (clashing_split B k e es o.0)
                  [ inl w ↦ inl (inr (w, o.1)) | inr w ↦ inr (w, o.1) ]
            ]) z.1,
      )

  -- ---- parts of imports

  abbrev Grown : Theres → Imported → Theres
  Grown B x = More start.tables own B x

  abbrev Wrong : Theres → Imported → Breach → Type 0
  Wrong B x f = Misimports start.tables own B x f

  abbrev Given : Theres → Imported → List ℕ → Origin → Meaning → Type 0
  Given B x n u m = Gives start.tables own B x n u m

  abbrev Table_at : Ident → Table → ℕ → Type 0
  Table_at name t k = IsTable start.tables own name t k

  abbrev NoTable : Ident → Type 0
  NoTable name = (t : Table) (k : ℕ) → Table_at name t k → ⊥

  module _ (B : Theres) (s : Scope g.Reported) (ks : Knowing B s) where
    abbrev Grows : Imported → State (Unit {0}) g.Reported → Type 0
    Grows x st = Knowing (Grown B x) st.0 × Tell (Wrong B x) st.1

    nothing_given : (x : Imported) → ((n : List ℕ) (u : Origin) (m : Meaning) → Given B x n u m → ⊥)
        → Knowing (Grown B x) s
    nothing_given x c = knowing_as (λ n v w b. is_there b) (λ n v w z. from n v w z) ks
      where
        from : (n : List ℕ) (v : Origin) (w : Meaning) → Grown B x n v w → B n v w
        from n v w (is_there b) = b
        from n v w (is_given a q) = absurd (c n v w q)

    -- one refusal alone
    refuses_alone : (x : Imported) (at : Pos) (broken : Rule) → Wrong B x (at ! broken)
        → ((f : Breach) → Wrong B x f → f ≡ at ! broken) → Tell (Wrong B x) (report g at broken)
    refuses_alone x at broken w only = tells (g.one (at ! broken))
        (accounts_as g j lawful (λ f. ⊥) (λ f e. subst (Wrong B x) (sym e) w) only
        (accounts_one g j lawful (λ f. ⊥) (at ! broken)))

    -- ---- IMPORT M

    module _ (name : Ident) where
      module_join : {t : Table} {k : ℕ} → Table_at name t k → (n : List ℕ) (v : Origin) (w : Meaning)
          → Plus B name.name (Itself k) (meaning.Module k) n v w → Grown B (OfModule name) n v w
      module_join f n v w (inl b) = is_there b
      module_join {k = k} f n v w (inr (new, h, p, q)) =
          subst (λ (n : List ℕ). Grown B (OfModule name) n v w) h
          (subst (λ (v : Origin). Grown B (OfModule name) name.name v w) (sym p)
          (subst (λ (w : Meaning). Grown B (OfModule name) name.name (Itself k) w) (sym q)
          (is_given new (gives_module f))))

      module_split : {t : Table} {k : ℕ} → Table_at name t k → (n : List ℕ) (v : Origin) (w : Meaning)
          → Grown B (OfModule name) n v w → Plus B name.name (Itself k) (meaning.Module k) n v w
      module_split f n v w (is_there b) = inl b
      module_split f n v w (is_given a (gives_module h)) = let z = (found_same (Named name.name) h f).1 in
          inr (a, refl, ap Itself z, ap meaning.Module z)

      module_broken : {t : Table} {k : ℕ} → Table_at name t k → (f : Breach) → Other B name.name (Itself k)
          × (f ≡ name.pos ! rule.DeclaredTwice) → Wrong B (OfModule name) f
      module_broken h f (o, e) = subst (Wrong B (OfModule name)) (sym e) (module_twice h o)

      module_wrong : {t : Table} {k : ℕ} → Table_at name t k → (f : Breach) → Wrong B (OfModule name) f
          → Other B name.name (Itself k) × (f ≡ name.pos ! rule.DeclaredTwice)
      module_wrong {t = t} {k = k} h f (no_module c) = absurd (c t k h)
      module_wrong h f (module_twice i o) = (
        subst (λ (k : ℕ). Other B name.name (Itself k))
            (found_same (Named name.name) i h).1 o,
        refl,
      )

      missing_module : NoTable name → (f : Breach) → Wrong B (OfModule name) f → f ≡ name.pos ! rule.MissingModule
      missing_module c f (no_module d) = refl
      missing_module c f (module_twice {t = t} {k = k} i o) = absurd (c t k i)

      none_given : NoTable name → (n : List ℕ) (u : Origin) (m : Meaning) → Given B (OfModule name) n u m → ⊥
      none_given c n u m (gives_module {t = t} {k = k} i) = c t k i

      module_by : {o : Option ℕ} → Found (Named name.name) start.tables o
          → Grows (OfModule name) (with_module_as g s name (module_found g name.pos o))
      module_by (is_found {k = k} f) = let q = import_one B name.pos name.name (Itself k) (meaning.Module k) s ks in (
        knowing_as (module_join f) (module_split f) q.0,
        tells_as g j lawful (λ f. ⊥) (module_broken f)
            (module_wrong f) q.1,
      )
      module_by (is_nowhere c) = (
        nothing_given (OfModule name) (none_given c),
        refuses_alone (OfModule name) name.pos
            rule.MissingModule (no_module c) (missing_module c),
      )

    -- ---- FROM M

    module _ (from : Ident) where
      from_gives : (n : List ℕ) (u : Origin) (m : Meaning) → Given B (FromModule from) n u m → ⊥
      from_gives n u m q = elim q [ ]

      pub from_knows : Knowing (Grown B (FromModule from)) s
      from_knows = nothing_given (FromModule from) from_gives

      pub from_right : {t : Table} {k : ℕ} → Table_at from t k → (f : Breach) → Wrong B (FromModule from) f → ⊥
      from_right {t = t} {k = k} h f (not_from c) = c t k h

      from_wrong : (f : Breach) → Wrong B (FromModule from) f → f ≡ from.pos ! rule.MissingModule
      from_wrong f (not_from c) = refl

      pub from_missing : NoTable from → Tell (Wrong B (FromModule from)) (report g from.pos rule.MissingModule)
      from_missing c = refuses_alone (FromModule from) from.pos rule.MissingModule (not_from c) from_wrong

    -- ---- FROM M IMPORT x

    module _ (from name : Ident) where
      abbrev Part : Imported
      Part = OfName from name

      -- of a module that is missing
      lost_gives : NoTable from → (n : List ℕ) (u : Origin) (m : Meaning) → Given B Part n u m → ⊥
      lost_gives c n u m (gives_names {t = t} {k = k} i e new d) = c t k i

      pub lost_knows : NoTable from → Knowing (Grown B Part) s
      lost_knows c = nothing_given Part (lost_gives c)

      pub lost_right : NoTable from → (f : Breach) → Wrong B Part f → ⊥
      lost_right c f (not_exported {t = t} {k = k} i e) = c t k i
      lost_right c f (name_twice {t = t} {k = k} i e o) = c t k i
      lost_right c f (constant_twice (gives_names {t = t} {k = k} i e new d) o) = c t k i

      module _ (t : Table) (k : ℕ) (h : Table_at from t k) where
        -- a name that it does not export
        abbrev NoEntry : Type 0
        NoEntry = (e : List ℕ × Meaning) (i : ℕ) → IsEntry name.name t.exported e i → ⊥

        abbrev Entry : List ℕ × Meaning → ℕ → Table → Type 0
        Entry e i t = IsEntry name.name t.exported e i

        in_this : {u : Table} {l : ℕ} → Table_at from u l → (u ≡ t) × (l ≡ k)
        in_this i = found_same (Named from.name) i h

        no_entry : NoEntry → {u : Table} {l i : ℕ} {e : List ℕ × Meaning} → Table_at from u l → Entry e i u → ⊥
        no_entry c {i = i} {e = e} f q = c e i (subst (Entry e i) (in_this f).0 q)

        unknown_gives : NoEntry → (n : List ℕ) (u : Origin) (m : Meaning) → Given B Part n u m → ⊥
        unknown_gives c n u m (gives_names i e new d) = no_entry c i e

        unknown_wrong : NoEntry → (f : Breach) → Wrong B Part f → f ≡ name.pos ! rule.NotExported
        unknown_wrong c f (not_exported i e) = refl
        unknown_wrong c f (name_twice i e o) = absurd (no_entry c i e)
        unknown_wrong c f (constant_twice (gives_names i e new d) o) = absurd (no_entry c i e)

        -- a name that it exports
        module _ (e : List ℕ × Meaning) (i : ℕ) (q : Entry e i t) where
          abbrev Coming : Entries
          Coming = take (names_with e.1) (drop i t.exported)

          abbrev ComingFrom : Table → List ℕ × Meaning → ℕ → Entries
          ComingFrom u c l = take (names_with c.1) (drop l u.exported)

          -- all that is given
          given : {n : List ℕ} {v : Origin} {w : Meaning} → Given B Part n v w → (v ≡ Exported k) × EntryFor n Coming w
          given {n = n} (gives_names {t = u} {k = a} {i = b} {l = l} {e = c} {c = d} x y new z) =
              let p = in_this x in
              let r = found_same (λ (e : List ℕ × Meaning). e.0 ≡ name.name) (subst (Entry c b) p.0 y) q in
              let w : ComingFrom u c b ≡ Coming = ap (λ (u : Table). ComingFrom u c b) p.0
              ∙ ap (λ (c : List ℕ × Meaning). ComingFrom t c b) r.0 ∙ ap (λ (b : ℕ). ComingFrom t e b) r.1 in
              (ap Exported p.1, (d, l, subst (λ (es : Entries). IsEntry n es d l) w z, refl))

          given_back : New B name.name → {n : List ℕ} {v : Origin} {w : Meaning} → v ≡ Exported k → EntryFor n Coming w
              → Given B Part n v w
          given_back new {n = n} {w = w} p (d, l, z, r) =
              subst (λ (v : Origin). Given B Part n v w) (sym p)
              (subst (λ (w : Meaning). Given B Part n (Exported k) w) (sym r) (gives_names h q new z))

          -- if its name is taken
          taken_knows : (New B name.name → ⊥) → Knowing (Grown B Part) s
          taken_knows c = nothing_given Part (λ n u m z. c (given_new z))
            where
              given_new : {n : List ℕ} {v : Origin} {w : Meaning} → Given B Part n v w → New B name.name
              given_new (gives_names x y new z) = new

          taken_twice : (f : Breach) → Other B name.name (Exported k) × (f ≡ name.pos ! rule.DeclaredTwice)
              → Wrong B Part f
          taken_twice f (o, r) = subst (Wrong B Part) (sym r) (name_twice h q o)

          taken_wrong : (New B name.name → ⊥) → (f : Breach) → Wrong B Part f → Other B name.name (Exported k)
              × (f ≡ name.pos ! rule.DeclaredTwice)
          taken_wrong c f (not_exported x n) = absurd (n e i (subst (Entry e i) (sym (in_this x).0) q))
          taken_wrong c f (name_twice x y o) = (subst (λ (l : ℕ). Other B name.name (Exported l)) (in_this x).1 o, refl)
          taken_wrong c f (constant_twice (gives_names x y new z) o) = absurd (c new)

          taken_told : (New B name.name → ⊥) → {r : Result (Unit {0}) g.Reported}
              → Tell (λ f. Other B name.name (Exported k) × (f ≡ name.pos ! rule.DeclaredTwice)) r
              → Tell (Wrong B Part) r
          taken_told c t = tells_as g j lawful (λ f. ⊥) taken_twice (taken_wrong c) t

          -- if it is not
          coming_is : take (brings_in (slice_get t.exported i)) (drop i t.exported) ≡ Coming
          coming_is = ap (λ (c : Option (List ℕ × Meaning)). take (brings_in c) (drop i t.exported))
              (found_get (λ (e : List ℕ × Meaning). e.0 ≡ name.name) q)
              ∙ ap (λ (n : ℕ). take n (drop i t.exported)) (brings_with e.1)

          module _ (new : New B name.name) where
            new_join : (n : List ℕ) (v : Origin) (w : Meaning) → Listing B k Coming n v w → Grown B Part n v w
            new_join n v w (inl b) = is_there b
            new_join n v w (inr (a, p, z)) = is_given a (given_back new p z)

            new_split : (n : List ℕ) (v : Origin) (w : Meaning) → Grown B Part n v w → Listing B k Coming n v w
            new_split n v w (is_there b) = inl b
            new_split n v w (is_given b z) = let y = given z in inr (b, y.0, y.1)

            new_twice : (f : Breach) → ⊥ ⊎ (Clashing B k Coming × (f ≡ name.pos ! rule.DeclaredTwice)) → Wrong B Part f
            new_twice f (inl z) = absurd z
            new_twice f (inr ((n, d, l, z, o), r)) =
                subst (Wrong B Part) (sym r) (constant_twice (gives_names h q new z) o)

            new_wrong : (f : Breach) → Wrong B Part f → ⊥ ⊎ (Clashing B k Coming × (f ≡ name.pos ! rule.DeclaredTwice))
            new_wrong f (not_exported x n) = absurd (n e i (subst (Entry e i) (sym (in_this x).0) q))
            new_wrong f (name_twice {k = l} x y o) = absurd (new_alone new o)
            new_wrong f (constant_twice {n = n} {o = v} x o) = let y = given x in
                inr ((n, y.1.0, y.1.1, y.1.2, subst (Other B n) y.0 o), refl)

            new_entries : Grows Part (fold (with_entry g name.pos k) (s, Ok tt)
                (take (brings_in (slice_get t.exported i)) (drop i t.exported)))
            new_entries = subst (λ (es : Entries). Grows Part (fold (with_entry g name.pos k) (s, Ok tt) es))
                (sym coming_is)
                (let z = import_entries name.pos k Coming B {C = λ f. ⊥} {s = s} {r = Ok tt} ks (silent (λ f z. z)) in
                (knowing_as new_join new_split z.0, tells_as g j lawful (λ f. ⊥) new_twice new_wrong z.1))

          abbrev placed_as : Option K → State (Unit {0}) g.Reported
          placed_as o = unless_taken g s name.pos k t.exported i (reported_of_taken g name.pos k o)

          taken_other : {v : Origin} {w : Meaning} → own name.name ≡ false
              → ((v' : Origin) (w' : Meaning) → B name.name v' w' → (v' ≡ v) × (w' ≡ w)) → v ≡ Exported k
              → Other B name.name (Exported k) → ⊥
          taken_other o only x (of_own y) = clash y o
          taken_other o only x (of_import {p = v'} {m = w'} b c) = c ((only v' w' b).0 ∙ x)

          taken_by : {v : Origin} {w : Meaning} → own name.name ≡ false → B name.name v w
              → ((v' : Origin) (w' : Meaning) → B name.name v' w' → (v' ≡ v) × (w' ≡ w)) → (b : Bool)
              → Decided (v ≡ Exported k) b → Grows Part
              (s, reported_where g (not b) name.pos rule.DeclaredTwice (Ok tt))
          taken_by {v = v} {w = w} o b only true (holds x) =
              (taken_knows (λ n. n.1 v w b), taken_told (λ n. n.1 v w b) (silent (λ f z. taken_other o only x z.0)))
          taken_by {v = v} {w = w} o b only false (fails_it c) =
              (taken_knows (λ n. n.1 v w b), taken_told (λ n. n.1 v w b) (refused_here (of_import b c)))
            where
              refused_here : Other B name.name (Exported k)
                  → Tell (λ f. Other B name.name (Exported k) × (f ≡ name.pos ! rule.DeclaredTwice))
                  (report g name.pos rule.DeclaredTwice)
              refused_here o = tells (g.one (name.pos ! rule.DeclaredTwice))
                  (accounts_as g j lawful (λ f. ⊥) (λ f e. (o, e)) (λ f z. z.1)
                  (accounts_one g j lawful (λ f. ⊥) (name.pos ! rule.DeclaredTwice)))

          own_taken : own name.name ≡ true → Grows Part (s, report g name.pos rule.DeclaredTwice)
          own_taken x = (
            taken_knows (λ n. clash x n.0),
            taken_told (λ n. clash x n.0)
                (tells (g.one (name.pos ! rule.DeclaredTwice))
                (accounts_as g j lawful (λ f. ⊥) (λ f e. (of_own x, e)) (λ f z. z.1)
                (accounts_one g j lawful (λ f. ⊥) (name.pos ! rule.DeclaredTwice)))),
          )

          free_placed : (o : Option K) → is_free o ≡ true → New B name.name → Grows Part (placed_as o)
          free_placed None x n = new_entries n
          free_placed (Some known.Later) x n = new_entries n
          free_placed (Some known.Ahead) x n = new_entries n
          free_placed (Some known.Begun) x n = absurd cc
          free_placed (Some (known.Headed r)) x n = absurd cc
          free_placed (Some (known.Declared o r)) x n = absurd cc

          own_placed : {o : Option K} → ((v : Origin) (w : Meaning) → B name.name v w → ⊥) → (b : Bool)
              → own name.name ≡ b → OwnAs b o → Grows Part (placed_as o)
          own_placed c true x is_own = own_taken x
          own_placed {o = o} c false x (not_own f) = free_placed o f (x, c)

          known_placed : {o : Option K} → KnownBy B name.name o → Grows Part (placed_as o)
          known_placed (brought_in {u = v} o b only) =
              taken_by o b only (is_one_origin (origin v) (origin (Exported k))) (origin_decided v (Exported k))
          known_placed (as_before c x) = own_placed c (own name.name) refl
              (subst (λ (o : Option K). OwnAs (own name.name) o) (sym x) (owns name.name))

        pub name_by : {o : Option ℕ} → Found (λ (e : List ℕ × Meaning). e.0 ≡ name.name) t.exported o
            → Grows Part (from_place g s name k t.exported o)
        name_by (is_found {a = e} {k = i} q) = known_placed e i q (ks.names name.name)
        name_by (is_nowhere c) = (
          nothing_given Part (unknown_gives c),
          refuses_alone Part name.pos rule.NotExported
              (not_exported h c) (unknown_wrong c),
        )

  -- ---- imports

  abbrev behind_parts : List Imported → List Imported → List Imported
  behind_parts front [] = front
  behind_parts front (x ∷ xs) = behind_parts (x ∷ front) xs

  abbrev behind : List Imported → List Import → List Imported
  behind front [] = front
  behind front (x ∷ xs) = behind (behind_parts front (parts_of x.from x.names)) xs

  parts_are : (xs front : List Imported) → behind_parts front xs ≡ reverse xs ++ front
  parts_are [] front = refl
  parts_are (x ∷ xs) front = parts_are xs (x ∷ front) ∙ sym (append_assoc (reverse xs) (x ∷ []) front)
      ∙ ap (λ (ys : List Imported). ys ++ front) (sym (reverse-append (x ∷ []) xs))

  imports_are : (imports : List Import) (front : List Imported) → behind front imports ≡ all_imported imports ++ front
  imports_are [] front = refl
  imports_are (x ∷ xs) front = let ps = parts_of x.from x.names in
      let rest = flat_map (λ (x : Import). parts_of x.from x.names) xs in
      imports_are xs (behind_parts front ps) ∙ ap (λ (ys : List Imported). all_imported xs ++ ys) (parts_are ps front)
      ∙ sym (append_assoc (all_imported xs) (reverse ps) front)
      ∙ ap (λ (ys : List Imported). ys ++ front) (sym (reverse-append ps rest))

  abbrev pub Behind : List Imported → State (Unit {0}) g.Reported → Type 0
  Behind front st = Knowing (Brings start.tables own front) st.0 × Tell (BrokenIn start.tables own front) st.1

  abbrev modules : List (List ℕ × ℕ)
  modules = (numbered_modules start.tables).0

  imports_modules : (names : List Ident) (front : List Imported) {s : Scope g.Reported}
      {r : Result (Unit {0}) g.Reported} → Behind front (s, r)
      → Behind (behind_parts front (map OfModule names)) (fold (with_module_name g modules) (s, r) names)
  imports_modules [] front z = z
  imports_modules (name ∷ names) front {s = s} z = let q =
      module_by (Brings start.tables own front) s z.0 name (module_found_by name.name start.tables) in
      imports_modules names (OfModule name ∷ front) (q.0, beside_tells g j lawful (λ f. ⊥) z.1 q.1)

  imports_lost : (from : Ident) → NoTable from
      → (names : List Ident) (front : List Imported) {s : Scope g.Reported} {r : Result (Unit {0}) g.Reported}
      → Behind front (s, r) → Behind (behind_parts front (map (OfName from) names)) (s, r)
  imports_lost from c [] front z = z
  imports_lost from c (name ∷ names) front {s = s} z = imports_lost from c names (OfName from name ∷ front) (
    lost_knows (Brings start.tables own front) s z.0 from name c,
    tells_as g j lawful (λ f. ⊥) (λ f b. inl b)
        (λ f y. elim y [
          | inl b ↦ b
          | inr w ↦ absurd (lost_right (Brings start.tables own front) s z.0 from name c f w)
        ]) z.1,
  )

  imports_names : (from : Ident) (t : Table) (k : ℕ) → Table_at from t k
      → (names : List Ident) (front : List Imported) {s : Scope g.Reported} {r : Result (Unit {0}) g.Reported}
      → Behind front (s, r) → Behind (behind_parts front (map (OfName from) names))
      (fold (with_from g k t.exported) (s, r) names)
  imports_names from t k h [] front z = z
  imports_names from t k h (name ∷ names) front {s = s} z =
      let q = name_by (Brings start.tables own front) s z.0 from name t k h
      (found_position (λ (e : List ℕ × Meaning). e.0 ≡ name.name) (λ e. same_name name.name e.0)
      (λ e. entry_decided name.name e) t.exported) in
      imports_names from t k h names (OfName from name ∷ front) (q.0, beside_tells g j lawful (λ f. ⊥) z.1 q.1)

  imports_from : (from : Ident) (names : List Ident) (front : List Imported) {s : Scope g.Reported}
      {r : Result (Unit {0}) g.Reported} → Behind front (s, r) → {o : Option ℕ} → Found (Named from.name) start.tables o
      → Behind (behind_parts front (parts_of (Some from) names))
      (from_module g (module_found g from.pos o) (s, r) names)
  imports_from from names front {s = s} {r = r} z (is_found {a = t} {k = k} f) =
      subst (λ (es : Entries). Behind (behind_parts (FromModule from ∷ front) (map (OfName from) names))
      (fold (with_from g k es) (s, r) names)) (sym exports)
      (imports_names from t k f names (FromModule from ∷ front) (
        from_knows (Brings start.tables own front) s z.0 from,
        tells_as g j lawful (λ f. ⊥) (λ f b. inl b)
            (λ f y. elim y [
              | inl b ↦ b
              | inr w ↦ absurd
                  (from_right (Brings start.tables own front) s z.0 from there f w)
            ]) z.1,
      ))
    where
      there : Table_at from t k
      there = f

      exports : exports_of (slice_get s.tables k) ≡ t.exported
      exports = ap (λ (u : Scope g.Reported). exports_of (slice_get u.tables k)) z.0.same
          ∙ ap (λ (o : Option Table). exports_of o) (found_get (Named from.name) f)
  imports_from from names front {s = s} z (is_nowhere c) = imports_lost from c names (FromModule from ∷ front) (
    from_knows (Brings start.tables own front) s z.0 from,
    beside_tells g j lawful (λ f. ⊥) z.1 (from_missing (Brings start.tables own front) s z.0 from c),
  )

  imports_one : (from : Option Ident) (names : List Ident) (front : List Imported) {s : Scope g.Reported}
      {r : Result (Unit {0}) g.Reported} → Behind front (s, r)
      → Behind (behind_parts front (parts_of from names)) (with_imports g modules (s, r) from names)
  imports_one None names front z = imports_modules names front z
  imports_one (Some from) names front z = imports_from from names front z (module_found_by from.name start.tables)

  imports_all : (imports : List Import) (front : List Imported) {s : Scope g.Reported}
      {r : Result (Unit {0}) g.Reported} → Behind front (s, r)
      → Behind (behind front imports) (fold (with_import g modules) (s, r) imports)
  imports_all [] front z = z
  imports_all (x ∷ imports) front z = imports_all imports (behind_parts front (parts_of x.from x.names))
      (imports_one x.from x.names front z)

  begins : Behind [] (start, Ok tt)
  begins = (record { same = refl; names = λ n. as_before (λ v w b. b) refl }, silent (λ f b. b))

  pub knows_imports : (imports : List Import)
      → Behind (all_imported imports) (fold (with_import g modules) (start, Ok tt) imports)
  knows_imports imports = subst (λ (front : List Imported). Behind front
      (fold (with_import g modules) (start, Ok tt) imports))
      (imports_are imports [] ∙ append-nil (all_imported imports)) (imports_all imports [] begins)
