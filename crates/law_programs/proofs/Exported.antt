-- What a definition exports of its variables and procedures stands under their numbers.
use Rattle.std.proofs.Common.{◌≡◌, ℕ, suc, ◌≤◌, Bool, true, false, ◌||◌, cond, List, [], ◌∷◌, ◌++◌, length, Option, Some, Ok, Err, refl, sym, ap, subst, ◌∙◌, arith}
use Rattle.std.specs.List.{fold, AllByRecursion}
use Rattle.std.proofs.lemmas.List.{append-nil, append_assoc}
use Rattle.typed_tree.specs.declared.meaning.Meaning.{Meaning}
use Rattle.typed_tree.specs.declared.meaning.Meaning.TheVariants as meaning
use Rattle.typed_tree.specs.declared.meaning.Procedure.{Procedure}
use Rattle.typed_tree.specs.declared.types.TypeNo.{TypeNo}
use Rattle.m2_tree.specs.Names.{same_name}
use Rattle.typed_tree.specs.Names.{find_name, enter_name}
use Rattle.check_scope.specs.declared.known.Origin.TheVariants.{Here, Module, Export}
use Rattle.check_scope.specs.declared.known.Known.{Known}
use Rattle.check_scope.specs.declared.known.Known.TheVariants.{Later, Ahead, Begun, Headed, Declared}
use Rattle.check_scope.specs.declared.scope.Scope.{Scope}
use Rattle.check_definition.specs.Export.{with_known, with_export, exports}
use Rattle.check_body.specs.Own.{with_variable_of, with_exported_variable, exported_variables}
use Rattle.law_well_formed.specs.Formed.{Holds, fine}
use Rattle.law_well_formed.proofs.ImportsLists.{same_is, each_entered}
use Rattle.law_well_formed.specs.FormedTables.{IsExport, AreExports}
use Rattle.law_well_formed.proofs.Order.{other_way, has, still_apart, keys, keys_entered, Distinct, distinct_entered}
use Rattle.law_well_formed.specs.FormedOrder.{StandOnce}
use Rattle.law_programs.specs.Carried.{MeaningPlaced, KnownPlaced, NamesPlaced}
use Rattle.law_programs.specs.TypingTables.{IsPlaced, ArePlacedBy, ProceduresApart}
use Rattle.law_programs.proofs.Done.{counted, counted_of, done}
use Rattle.law_programs.proofs.Counting.{From, numbers, Counts}

-- ---- what is exported is counted once

abbrev counted_in : List (List ℕ × Meaning) → List Meaning
counted_in [] = []
counted_in (e ∷ es) = counted e.1 ++ counted_in es

counted_push : (es : List (List ℕ × Meaning)) (e : List ℕ × Meaning)
    → counted_in (es ++ e ∷ []) ≡ counted_in es ++ counted e.1
counted_push [] e = append-nil (counted e.1)
counted_push (x ∷ es) e = ap (λ (ms : List Meaning). counted x.1 ++ ms) (counted_push es e)
    ∙ sym (append_assoc (counted x.1) (counted_in es) (counted e.1))

or_none : (a b : Bool) → (a || b) ≡ false → (a ≡ false) × (b ≡ false)
or_none true b h = absurd cc
or_none false b h = (refl, h)

new_by : {A : Type 0} (b : Bool) (xs ys zs : List A) → b ≡ false → ys ≡ zs → cond b xs ys ≡ zs
new_by true xs ys zs e k = absurd cc
new_by false xs ys zs e k = k

-- a new name goes to the end
entered_new : {V : Type 0} (name : List ℕ) (v : V) (es : List (List ℕ × V)) → has name (keys es) ≡ false
    → enter_name name v es ≡ es ++ (name, v) ∷ []
entered_new name v [] h = refl
entered_new name v (e ∷ es) h =
    let k = or_none (same_name name e.0) (has name (keys es)) h in
    new_by (same_name name e.0) ((e.0, v) ∷ es) (e ∷ enter_name name v es) (e ∷ (es ++ (name, v) ∷ [])) k.0
    (ap (λ xs. e ∷ xs) (entered_new name v es k.1))

meaning_counted : (so : List (List ℕ × Meaning)) (name : List ℕ) (m : Meaning) → has name (keys so) ≡ false
    → counted_in (enter_name name m so) ≡ counted_in so ++ counted m
meaning_counted so name m h = ap counted_in (entered_new name m so h) ∙ counted_push so (name, m)

entered_apart : (so : List (List ℕ × Meaning)) (name : List ℕ) (m : Meaning) (x : List ℕ) → has x (keys so) ≡ false
    → same_name x name ≡ false → has x (keys (enter_name name m so)) ≡ false
entered_apart so name m x h e = ap (λ (ks : List (List ℕ)). has x ks) (keys_entered name m so)
    ∙ still_apart x name (has name (keys so)) (keys so) h e

module _ {T : Type 0} where
  known_counted : (so : List (List ℕ × Meaning)) (name : List ℕ) (k : Known T) → has name (keys so) ≡ false
      → counted_in (with_known so name k) ≡ counted_in so ++ counted_of k
  known_counted so name Later h = sym (append-nil (counted_in so))
  known_counted so name Ahead h = sym (append-nil (counted_in so))
  known_counted so name Begun h = sym (append-nil (counted_in so))
  known_counted so name (Headed (Ok m)) h = meaning_counted so name m h
  known_counted so name (Headed (Err e)) h = sym (append-nil (counted_in so))
  known_counted so name (Declared Here (Ok m)) h = meaning_counted so name m h
  known_counted so name (Declared Here (Err e)) h = sym (append-nil (counted_in so))
  known_counted so name (Declared (Module j) r) h = sym (append-nil (counted_in so))
  known_counted so name (Declared (Export j) r) h = sym (append-nil (counted_in so))

  known_apart : (so : List (List ℕ × Meaning)) (name : List ℕ) (k : Known T) (x : List ℕ) → has x (keys so) ≡ false
      → same_name x name ≡ false → has x (keys (with_known so name k)) ≡ false
  known_apart so name Later x h e = h
  known_apart so name Ahead x h e = h
  known_apart so name Begun x h e = h
  known_apart so name (Headed (Ok m)) x h e = entered_apart so name m x h e
  known_apart so name (Headed (Err f)) x h e = h
  known_apart so name (Declared Here (Ok m)) x h e = entered_apart so name m x h e
  known_apart so name (Declared Here (Err f)) x h e = h
  known_apart so name (Declared (Module j) r) x h e = h
  known_apart so name (Declared (Export j) r) x h e = h

  known_distinct : (so : List (List ℕ × Meaning)) (name : List ℕ) (k : Known T) → Distinct so
      → Distinct (with_known so name k)
  known_distinct so name Later d = d
  known_distinct so name Ahead d = d
  known_distinct so name Begun d = d
  known_distinct so name (Headed (Ok m)) d = distinct_entered name m so d
  known_distinct so name (Headed (Err f)) d = d
  known_distinct so name (Declared Here (Ok m)) d = distinct_entered name m so d
  known_distinct so name (Declared Here (Err f)) d = d
  known_distinct so name (Declared (Module j) r) d = d
  known_distinct so name (Declared (Export j) r) d = d

  abbrev Apart : List (List ℕ × Meaning) → List (List ℕ × Known T) → Type 0
  Apart so es = AllByRecursion (λ e. has e.0 (keys so) ≡ false) es

  apart_more : (so : List (List ℕ × Meaning)) (e : List ℕ × Known T) (es : List (List ℕ × Known T))
      → has e.0 (keys es) ≡ false → Apart so es → Apart (with_export so e) es
  apart_more so e [] h k = tt
  apart_more so e (x ∷ es) h k =
      let d = or_none (same_name e.0 x.0) (has e.0 (keys es)) h in
      (known_apart so e.0 e.1 x.0 k.0 (other_way e.0 x.0 d.0), apart_more so e es d.1 k.1)

  all_counted : (own : List (List ℕ × Known T)) (so : List (List ℕ × Meaning)) → Distinct own → Apart so own
      → counted_in (fold with_export so own) ≡ counted_in so ++ done own
  all_counted [] so d a = sym (append-nil (counted_in so))
  all_counted (e ∷ es) so d a =
      all_counted es (with_export so e) d.1 (apart_more so e es d.0 a.1)
      ∙ (ap (λ (ms : List Meaning). ms ++ done es) (known_counted so e.0 e.1 a.0)
      ∙ append_assoc (counted_in so) (counted_of e.1) (done es))

  none_before : (es : List (List ℕ × Known T)) → Apart [] es
  none_before [] = tt
  none_before (e ∷ es) = (refl, none_before es)

  all_distinct : (own : List (List ℕ × Known T)) (so : List (List ℕ × Meaning)) → Distinct so
      → Distinct (fold with_export so own)
  all_distinct [] so d = d
  all_distinct (e ∷ es) so d = all_distinct es (with_export so e) (known_distinct so e.0 e.1 d)

once_by : {V : Type 0} (es : List (List ℕ × V)) → Distinct es → StandOnce es
once_by [] d = tt
once_by (e ∷ es) d = (d.0, once_by es d.1)

pub distinct_by : {V : Type 0} (es : List (List ℕ × V)) → StandOnce es → Distinct es
distinct_by [] d = tt
distinct_by (e ∷ es) d = (d.0, distinct_by es d.1)

pub exports_once : {T : Type 0} (own : List (List ℕ × Known T)) → StandOnce (exports own)
exports_once own = once_by (exports own) (all_distinct own [] tt)

-- ---- variables

one_variable : (m : Meaning) (ts : List TypeNo) (ms : List Meaning)
    → fold with_variable_of ts (counted m ++ ms) ≡ fold with_variable_of (with_variable_of ts m) ms
one_variable (meaning.Variable v) ts ms = refl
one_variable (meaning.Procedure p) ts ms = refl
one_variable (meaning.Constant v) ts ms = refl
one_variable (meaning.Type t n) ts ms = refl
one_variable (meaning.Local v) ts ms = refl
one_variable (meaning.Field f) ts ms = refl
one_variable (meaning.LocalProcedure p) ts ms = refl
one_variable meaning.Ahead ts ms = refl
one_variable (meaning.Standard f) ts ms = refl
one_variable (meaning.Module k) ts ms = refl

variables_counted : (es : List (List ℕ × Meaning)) (ts : List TypeNo)
    → fold with_exported_variable ts es ≡ fold with_variable_of ts (counted_in es)
variables_counted [] ts = refl
variables_counted (e ∷ es) ts = variables_counted es (with_variable_of ts e.1)
    ∙ sym (one_variable e.1 ts (counted_in es))

pub variables_are : {T : Type 0} (s : Scope T) → Counts s → Distinct s.own
    → exported_variables (exports s.own) ≡ s.variables
variables_are s c d = variables_counted (exports s.own) []
    ∙ (ap (λ (ms : List Meaning). fold with_variable_of [] ms) (all_counted s.own [] d (none_before s.own))
    ∙ c.variables)

module _ (home : ℕ) (vs : List TypeNo) where
  abbrev EachPlaced : List (List ℕ × Meaning) → Type 0
  EachPlaced es = AllByRecursion (λ e. MeaningPlaced home vs e.1) es

  meaning_placed : (so : List (List ℕ × Meaning)) (name : List ℕ) (m : Meaning) → MeaningPlaced home vs m
      → EachPlaced so → EachPlaced (enter_name name m so)
  meaning_placed so name m p all = each_entered (λ (e : List ℕ × Meaning). MeaningPlaced home vs e.1) name m so
      (λ other e. p) all

  held : {E : Type 0} (m : Meaning) → Holds {A = Meaning} {T = E} (MeaningPlaced home vs) (Ok m)
      → MeaningPlaced home vs m
  held m (fine _ p) = p

  module _ {T : Type 0} where
    known_placed : (so : List (List ℕ × Meaning)) (name : List ℕ) (k : Known T) → KnownPlaced home vs k → EachPlaced so
        → EachPlaced (with_known so name k)
    known_placed so name Later p all = all
    known_placed so name Ahead p all = all
    known_placed so name Begun p all = all
    known_placed so name (Headed (Ok m)) p all = meaning_placed so name m (held m p) all
    known_placed so name (Headed (Err e)) p all = all
    known_placed so name (Declared Here (Ok m)) p all = meaning_placed so name m (held m p) all
    known_placed so name (Declared Here (Err e)) p all = all
    known_placed so name (Declared (Module j) r) p all = all
    known_placed so name (Declared (Export j) r) p all = all

    all_placed : (own : List (List ℕ × Known T)) (so : List (List ℕ × Meaning)) → NamesPlaced home vs own
        → EachPlaced so → EachPlaced (fold with_export so own)
    all_placed [] so p all = all
    all_placed (e ∷ es) so p all = all_placed es (with_export so e) p.1 (known_placed so e.0 e.1 p.0 all)

  one_placed : (m : Meaning) → IsExport home m → MeaningPlaced home vs m → IsPlaced vs m
  one_placed (meaning.Variable v) e p = p e
  one_placed (meaning.Procedure q) e p = tt
  one_placed (meaning.Constant v) e p = tt
  one_placed (meaning.Type t n) e p = tt
  one_placed (meaning.Local v) e p = tt
  one_placed (meaning.Field f) e p = tt
  one_placed (meaning.LocalProcedure q) e p = tt
  one_placed meaning.Ahead e p = tt
  one_placed (meaning.Standard f) e p = tt
  one_placed (meaning.Module k) e p = tt

  both_placed : (es : List (List ℕ × Meaning)) → AreExports home es → EachPlaced es → ArePlacedBy vs es
  both_placed [] e p = tt
  both_placed (x ∷ es) e p = (one_placed x.1 e.0 p.0, both_placed es e.1 p.1)

  pub exports_placed : {T : Type 0} (own : List (List ℕ × Known T)) → NamesPlaced home vs own
      → AreExports home (exports own) → ArePlacedBy vs (exports own)
  exports_placed own p e = both_placed (exports own) e (all_placed own [] p tt)

-- ---- procedures

Rest : (n c : ℕ) → List Meaning → Type 0
Rest n c ms = (k : ℕ) × ((n ≤ k) × From k c (numbers ms))

rest_from : (m : Meaning) (ms : List Meaning) (n c : ℕ) → From n c (numbers (counted m ++ ms)) → Rest n c ms
unfolding Rest
rest_from (meaning.Procedure p) ms n c f = (suc n, (omega arith, f.1))
rest_from (meaning.Variable v) ms n c f = (n, (omega arith, f))
rest_from (meaning.Constant v) ms n c f = (n, (omega arith, f))
rest_from (meaning.Type t i) ms n c f = (n, (omega arith, f))
rest_from (meaning.Local v) ms n c f = (n, (omega arith, f))
rest_from (meaning.Field x) ms n c f = (n, (omega arith, f))
rest_from (meaning.LocalProcedure p) ms n c f = (n, (omega arith, f))
rest_from meaning.Ahead ms n c f = (n, (omega arith, f))
rest_from (meaning.Standard x) ms n c f = (n, (omega arith, f))
rest_from (meaning.Module k) ms n c f = (n, (omega arith, f))

first_from : (m : Meaning) (p : Procedure) (ms : List Meaning) (n c : ℕ) → m ≡ meaning.Procedure p
    → From n c (numbers (counted m ++ ms)) → (p.number ≡ n) × From (suc n) c (numbers ms)
first_from m p ms n c e f = subst (λ (x : Meaning). From n c (numbers (counted x ++ ms))) e f

found_first : (b : Bool) (m x : Meaning) (o : Option Meaning) → b ≡ true → cond b (Some m) o ≡ Some x → m ≡ x
found_first true m x o e h = cc
found_first false m x o e h = absurd cc

found_rest : (b : Bool) (m x : Meaning) (o : Option Meaning) → b ≡ false → cond b (Some m) o ≡ Some x → o ≡ Some x
found_rest true m x o e h = absurd cc
found_rest false m x o e h = h

least_number : (es : List (List ℕ × Meaning)) (n c : ℕ) → From n c (numbers (counted_in es))
    → (b : List ℕ) (q : Procedure) → find_name b es ≡ Some (meaning.Procedure q) → n ≤ q.number
unfolding Rest
least_number [] n c f b q e = absurd cc
least_number (x ∷ es) n c f b q e = by (λ k g r. least_number es k c g b q r) (same_name b x.0) refl where
  by : ((k : ℕ) → From k c (numbers (counted_in es)) → find_name b es ≡ Some (meaning.Procedure q) → k ≤ q.number)
      → (i : Bool) → same_name b x.0 ≡ i → n ≤ q.number
  by on true s = let k = (first_from x.1 q (counted_in es) n c
      (found_first (same_name b x.0) x.1 (meaning.Procedure q) (find_name b es) s e) f).0 in omega (arith, k)
  by on false s =
      let r = rest_from x.1 (counted_in es) n c f in
      let l : r.0 ≤ q.number = on r.0 r.1.1 (found_rest (same_name b x.0) x.1 (meaning.Procedure q) (find_name b es) s
      e) in
      let h : n ≤ r.0 = r.1.0 in
      omega (arith, l, h)

all_apart : (es : List (List ℕ × Meaning)) (n c : ℕ) → From n c (numbers (counted_in es)) → ProceduresApart es
unfolding Rest
all_apart [] n c f a b p q e h s = absurd cc
all_apart (x ∷ es) n c f a b p q e h s =
    by (λ k g u v. all_apart es k c g a b p q u v s) (same_name a x.0) (same_name b x.0) refl refl where
      -- the first of two is this one, and the second stands behind it
      behind : (a b : List ℕ) (p q : Procedure) → same_name a x.0 ≡ true → same_name b x.0 ≡ false
          → find_name a (x ∷ es) ≡ Some (meaning.Procedure p) → find_name b (x ∷ es) ≡ Some (meaning.Procedure q)
          → p.number ≡ q.number → ⊥
      behind a b p q i j e h s =
          let k = first_from x.1 p (counted_in es) n c
          (found_first (same_name a x.0) x.1 (meaning.Procedure p) (find_name a es) i e) f in
          let l : suc n ≤ q.number = least_number es (suc n) c k.1 b q
          (found_rest (same_name b x.0) x.1 (meaning.Procedure q) (find_name b es) j h) in
          let z : p.number ≡ n = k.0 in
          omega (arith, l, z, s)

      by : ((k : ℕ) → From k c (numbers (counted_in es)) → find_name a es ≡ Some (meaning.Procedure p)
          → find_name b es ≡ Some (meaning.Procedure q) → a ≡ b) → (i j : Bool) → same_name a x.0 ≡ i
          → same_name b x.0 ≡ j
          → a ≡ b
      by on true true i j = same_is a x.0 i ∙ sym (same_is b x.0 j)
      by on true false i j = absurd (behind a b p q i j e h s)
      by on false true i j = absurd (behind b a q p j i h e (sym s))
      by on false false i j =
          let r = rest_from x.1 (counted_in es) n c f in
          on r.0 r.1.1 (found_rest (same_name a x.0) x.1 (meaning.Procedure p) (find_name a es) i e)
          (found_rest (same_name b x.0) x.1 (meaning.Procedure q) (find_name b es) j h)

pub exports_apart : {T : Type 0} (s : Scope T) → Counts s → Distinct s.own → ProceduresApart (exports s.own)
exports_apart s c d =
    all_apart (exports s.own) 0 (length s.procedures)
    (subst (λ (ms : List Meaning). From 0 (length s.procedures) (numbers ms))
    (sym (all_counted s.own [] d (none_before s.own))) c.procedures)
