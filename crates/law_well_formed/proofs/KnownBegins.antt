-- Where modules begin: definitions, programs and implementations.
use Rattle.std.proofs.Common.{◌≡◌, ℕ, ◌<◌, ◌==◌, Bool, true, false, ◌||◌, cond, List, [], ◌∷◌, ◌++◌, Option, Some, None, Ok, refl, sym, ap, subst, ◌∙◌, arith}
use Rattle.std.proofs.lemmas.List.{append-nil, append_assoc}
use Rattle.std.specs.Prelude.{slice_get, map}
use Rattle.std.specs.List.{AllByRecursion, fold}
use Rattle.typed_tree.specs.declared.types.Home.{Home}
use Rattle.typed_tree.specs.declared.types.Home.TheVariants.{Predeclared, Module}
use Rattle.typed_tree.specs.declared.types.TypeNo.{TypeNo}
use Rattle.typed_tree.specs.declared.shape.Shape.{Shape}
use Rattle.typed_tree.specs.declared.shape.Shape.TheVariants as shape
use Rattle.typed_tree.specs.declared.shape.Made.{Made}
use Rattle.typed_tree.specs.declared.meaning.Meaning.{Meaning}
use Rattle.typed_tree.specs.declared.meaning.Meaning.TheVariants as meaning
use Rattle.typed_tree.specs.declared.table.ModuleTypes.{ModuleTypes}
use Rattle.typed_tree.specs.declared.table.Table.{Table}
use Rattle.typed_tree.specs.declared.known_types.Types.{Types}
use Rattle.typed_tree.specs.Known.{scalar_from, scalar_made, in_list}
use Rattle.m2_tree.specs.Names.{same_name}
use Rattle.typed_tree.specs.Names.{enter_name}
use Rattle.check_scope.specs.declared.known.Known.{Known}
use Rattle.check_scope.specs.declared.known.Known.TheVariants.{Declared}
use Rattle.check_scope.specs.declared.known.Origin.TheVariants.{Here}
use Rattle.check_scope.specs.declared.scope.Scope.{Scope}
use Rattle.check_definition.specs.Predeclared.{console, with_table, others_of, predeclared_block, first_scope}
use Rattle.check_body.specs.Own.{with_own_name, own_names, with_variable_of, with_exported_variable, exported_variables, exported_headings, with_field_copy, shape_copy, made_copy, types_made_in, own_types, implementation_scope}
use Rattle.law_well_formed.specs.Formed.{fine}
use Rattle.law_well_formed.proofs.Order.{has, keys, other_way, has_more}
use Rattle.law_modules.specs.Ranges.{AreRangedFrom}
use Rattle.law_well_formed.specs.FormedRanges.{AllBased, NamesRanged, BlocksRanged, ExportsRanged, TablesRanged, ReachedRanged, TablesReach, ScopeRanged, first_types}
use Rattle.law_well_formed.proofs.RangesTypes.{Kept, blocks_kept}
use Rattle.law_well_formed.proofs.RangesMade.{names_more}
use Rattle.law_well_formed.proofs.RangesTables.{first_ranged, others_of_ranged}
use Rattle.law_well_formed.specs.Ordered.{AreKnown, AreOrderedFrom, BeginsWith}
use Rattle.law_well_formed.proofs.Trees.{at, fold_more}
use Rattle.law_well_formed.specs.FormedOrder.{StandOnce, FieldsOnce, AllOnce, MeaningOrdered, NamesOrdered, ExportsOrdered, TablesOrdered, ScopeOrdered}
use Rattle.law_well_formed.proofs.OrderTypes.{started_here, known_more}
use Rattle.law_well_formed.proofs.Named.{names_more as ordered_more}
use Rattle.law_well_formed.proofs.OrderTables.{predeclared_ordered, first_ordered}
use Rattle.law_well_formed.specs.FormedKnown.{HasReached, TableFormed, TablesFormed}
use Rattle.law_well_formed.proofs.Gathered.{each_at, each_more, Reaches, AllGathered, tables_gathered, tables_each, others_based, made_each, HasOwn, all_have, reached_ordered}

-- a scope with types in order and with ranges of the language
pub record ScopeFormed {T : Type 0} (base : Types) (s : Scope T) : Type 0 where
  pub ranged : ScopeRanged s
  pub ordered : ScopeOrdered base s

-- ---- tables

pub console_formed : (types_of : ℕ → List Made) (below : ℕ) → TableFormed types_of below console
unfolding console
console_formed types_of below = record {
  reached = tt;
  ordered = tt;
  once = tt;
  ranged = tt;
  based = λ types h. tt;
  exports = λ types h. ((tt, tt), (tt, tt));
}

module _ (types : Types) where
  based_in : (types_of : ℕ → List Made) (below : ℕ) (ts : List Table) → TablesFormed types_of below ts
      → AllByRecursion (λ t. HasReached types t.reached) ts
      → AllByRecursion (λ t. AllByRecursion (λ m. AllBased types m.made) t.reached) ts
  based_in types_of below [] p h = tt
  based_in types_of below (t ∷ ts) p h = (p.0.based types h.0, based_in types_of below ts p.1 h.1)

  tables_ordered : (types_of : ℕ → List Made) (below : ℕ) (ts : List Table) → TablesFormed types_of below ts
      → AllByRecursion (λ t. HasReached types t.reached) ts → TablesOrdered types ts
  tables_ordered types_of below [] p h = tt
  tables_ordered types_of below (t ∷ ts) p h = ((p.0.exports types h.0).0, tables_ordered types_of below ts p.1 h.1)

  tables_ranged : (types_of : ℕ → List Made) (below : ℕ) (ts : List Table) → TablesFormed types_of below ts
      → AllByRecursion (λ t. HasReached types t.reached) ts → TablesRanged types ts
  tables_ranged types_of below [] p h = tt
  tables_ranged types_of below (t ∷ ts) p h = ((p.0.exports types h.0).1, tables_ranged types_of below ts p.1 h.1)

tables_reach : (types_of : ℕ → List Made) (below : ℕ) (ts : List Table) → TablesFormed types_of below ts
    → TablesReach ts
tables_reach types_of below [] p = tt
tables_reach types_of below (t ∷ ts) p = (p.0.ranged, tables_reach types_of below ts p.1)

-- ---- a definition, and a program

module _ (types_of : ℕ → List Made) (home : ℕ) (ts : List Table) (p : TablesFormed types_of home ts) where
  all : AllGathered types_of home [] (others_of ts) ts
  all = tables_gathered types_of home ts p

  -- none has the number of the module itself
  none_own : (l : List Made) → at home (others_of ts) ≡ Some l → ⊥
  none_own l e = let k = each_at (λ (x : ℕ × List Made). (x.0 < home) × (x.1 ≡ types_of x.0)) (others_of ts)
      all.gathered.each home l e in absurd (let less : home < home = k.0 in omega (arith, less))

  pub not_own : at home (others_of ts) ≡ None
  not_own = by (at home (others_of ts)) refl where
    by : (o : Option (List Made)) → at home (others_of ts) ≡ o → o ≡ None
    by None e = refl
    by (Some l) e = absurd (none_own l e)

  first_own : HasOwn (first_types home ts)
  first_own l e n x g = absurd (none_own l e)

  pub first_has : AllByRecursion (λ t. HasReached (first_types home ts) t.reached) ts
  first_has = all_have (first_types home ts) first_own ts all.there

  pub first_formed : {T : Type 0} → ScopeFormed (first_types home ts) (first_scope {T = T} home ts)
  first_formed = record {
    ranged = first_ranged home ts (others_of_ranged ts (tables_reach types_of home ts p))
        (others_based (first_types home ts) (others_of ts)
        (tables_each (λ (e : ℕ × List Made). AllBased (first_types home ts) e.1) ts [] tt
        (based_in (first_types home ts) types_of home ts p first_has)))
        (tables_ranged (first_types home ts) types_of home ts p first_has);
    ordered = first_ordered home ts all.gathered.ordered
        (subst (λ (o : Option (List Made)). BeginsWith [] o) (sym not_own) tt)
        (tables_ordered (first_types home ts) types_of home ts p first_has);
  }

-- ---- copies of types

entered_by : {X : Type 0} (name : List ℕ) (v : X) (e : List ℕ × X) (es : List (List ℕ × X)) (b : Bool)
    → (b || has name (keys es)) ≡ false → (has name (keys es) ≡ false → enter_name name v es ≡ es ++ (name, v) ∷ [])
    → cond b ((e.0, v) ∷ es) (e ∷ enter_name name v es) ≡ e ∷ (es ++ (name, v) ∷ [])
entered_by name v e es true h on = absurd cc
entered_by {X = X} name v e es false h on = ap (λ (xs : List (List ℕ × X)). e ∷ xs) (on h)

entered_new : {X : Type 0} (name : List ℕ) (v : X) (es : List (List ℕ × X)) → has name (keys es) ≡ false
    → enter_name name v es ≡ es ++ (name, v) ∷ []
entered_new name v [] h = refl
entered_new name v (e ∷ es) h = entered_by name v e es (same_name name e.0) h (entered_new name v es)

keys_more : {X : Type 0} (es : List (List ℕ × X)) (e : List ℕ × X) → keys (es ++ e ∷ []) ≡ keys es ++ e.0 ∷ []
keys_more [] e = refl
keys_more (x ∷ es) e = ap (λ (ks : List (List ℕ)). x.0 ∷ ks) (keys_more es e)

or_both : (a b : Bool) → (a || b) ≡ false → (a ≡ false) × (b ≡ false)
or_both true b h = absurd cc
or_both false b h = (refl, h)

-- new names are still new behind another one
abbrev AreNew : List (List ℕ × TypeNo) → List (List ℕ × TypeNo) → Type 0
AreNew so es = AllByRecursion (λ e. has e.0 (keys so) ≡ false) es

new_more : (so : List (List ℕ × TypeNo)) (x : List ℕ × TypeNo) (es : List (List ℕ × TypeNo)) → has x.0 (keys es) ≡ false
    → AreNew so es → AreNew (so ++ x ∷ []) es
new_more so x [] h p = tt
new_more so x (e ∷ es) h p =
    let k = or_both (same_name x.0 e.0) (has x.0 (keys es)) h in (
      ap (λ (ks : List (List ℕ)). has e.0 ks) (keys_more so x)
          ∙ has_more e.0 (keys so) x.0 p.0 (other_way x.0 e.0 k.0),
      new_more so x es k.1 p.1,
    )

copied : (es so : List (List ℕ × TypeNo)) → StandOnce es → AreNew so es → fold with_field_copy so es ≡ so ++ es
copied [] so d p = sym (append-nil so)
copied (e ∷ es) so d p =
    ap (λ (xs : List (List ℕ × TypeNo)). fold with_field_copy xs es) (entered_new e.0 e.1 so p.0)
    ∙ (copied es (so ++ e ∷ []) d.1 (new_more so e es d.0 p.1) ∙ append_assoc so (e ∷ []) es)

all_new : (es : List (List ℕ × TypeNo)) → AreNew [] es
all_new [] = tt
all_new (e ∷ es) = (refl, all_new es)

shape_same : (s : Shape) → FieldsOnce s → shape_copy s ≡ s
shape_same (shape.Record fs) d = ap shape.Record (copied fs [] d (all_new fs))
shape_same (shape.Scalar r) d = refl
shape_same shape.Set d = refl
shape_same (shape.Array i e) d = refl
shape_same (shape.Procedure q) d = refl
shape_same (shape.Open e) d = refl

copies_same : (ms : List Made) → AllOnce ms → map made_copy ms ≡ ms
copies_same [] h = refl
copies_same (m ∷ ms) h = ap (λ (s : Shape). record { shape = s; cells = m.cells } ∷ map made_copy ms)
    (shape_same m.shape h.0) ∙ ap (λ (xs : List Made). m ∷ xs) (copies_same ms h.1)

-- ---- an implementation

-- the scope in which it begins, with these types
abbrev begun_scope : {T : Type 0} → List Made → List (ℕ × List Made) → Table → List Table → Scope T
begun_scope {T = T} own others t ts = record (first_scope {T = T} t.number ts) {
  types = record { home = t.number; own = own; others = others };
  variables = exported_variables t.exported;
  procedures = exported_headings t.exported;
  own = own_names t.exported;
}

module _ (types : Types) where
  variable_known : (m : Meaning) (us : List TypeNo) → MeaningOrdered types m → AreKnown types us
      → AreKnown types (with_variable_of us m)
  variable_known (meaning.Variable v) us p h = known_more types us v.of h p
  variable_known (meaning.Constant v) us p h = h
  variable_known (meaning.Type t n) us p h = h
  variable_known (meaning.Local v) us p h = h
  variable_known (meaning.Field f) us p h = h
  variable_known (meaning.Procedure f) us p h = h
  variable_known (meaning.LocalProcedure f) us p h = h
  variable_known meaning.Ahead us p h = h
  variable_known (meaning.Standard f) us p h = h
  variable_known (meaning.Module k) us p h = h

  variables_known : (es : List (List ℕ × Meaning)) (us : List TypeNo) → ExportsOrdered types es → AreKnown types us
      → AreKnown types (fold with_exported_variable us es)
  variables_known [] us p h = h
  variables_known (e ∷ es) us p h = variables_known es (with_variable_of us e.1) p.1 (variable_known e.1 us p.0 h)

module _ (types : Types) {T : Type 0} where
  names_ordered : (es : List (List ℕ × Meaning)) (ns : List (List ℕ × Known T)) → ExportsOrdered types es
      → NamesOrdered types ns → NamesOrdered types (fold with_own_name ns es)
  names_ordered [] ns p h = h
  names_ordered (e ∷ es) ns p h = names_ordered es (with_own_name ns e) p.1
      (ordered_more types e.0 (Declared Here (Ok e.1)) ns (fine e.1 p.0) h)

  names_ranged : (es : List (List ℕ × Meaning)) (ns : List (List ℕ × Known T)) → ExportsRanged types es
      → NamesRanged types ns → NamesRanged types (fold with_own_name ns es)
  names_ranged [] ns p h = h
  names_ranged (e ∷ es) ns p h = names_ranged es (with_own_name ns e) p.1
      (names_more types e.0 (Declared Here (Ok e.1)) ns (fine e.1 p.0) h)

-- nothing is made where a module has no tables
nothing_kept : (types : Types) → Kept (first_types 0 []) types
nothing_kept types t r e = from t.home t.number e where
  made : (b : Bool) (n : ℕ) → scalar_made (cond b (slice_get [] n) (in_list n None)) ≡ Some r → ⊥
  made true n g = absurd cc
  made false n g = absurd cc

  from : (h : Home) (n : ℕ) → scalar_from (first_types 0 []) h n ≡ Some r → scalar_from types h n ≡ Some r
  from Predeclared n g = g
  from (Module k) n g = absurd (made (k == 0) n g)

predeclared_ranged : (types : Types) (T : Type 0) → BlocksRanged types (predeclared_block {T = T} ∷ [])
predeclared_ranged types T = blocks_kept (first_types 0 []) types (nothing_kept types) (predeclared_block {T = T} ∷ [])
    (first_ranged {T = T} 0 [] tt tt tt).outer

module _ (types_of : ℕ → List Made) (below : ℕ) (t : Table) (ts : List Table) (q : TableFormed types_of below t)
    (own : types_made_in t.number t.reached ≡ types_of t.number) (p : TablesFormed types_of below ts) where
  both : TablesFormed types_of below (ts ++ t ∷ [])
  both = each_more (TableFormed types_of below) ts t p q

  every : AllGathered types_of below [] (others_of (ts ++ t ∷ [])) (ts ++ t ∷ [])
  every = tables_gathered types_of below (ts ++ t ∷ []) both

  abbrev pub begun_types : Types
  begun_types = record { home = t.number; own = types_of t.number; others = others_of (ts ++ t ∷ []) }

  own_at : (l : List Made) → at t.number (others_of (ts ++ t ∷ [])) ≡ Some l → l ≡ types_of t.number
  own_at l e = (each_at (λ (x : ℕ × List Made). (x.0 < below) × (x.1 ≡ types_of x.0)) (others_of (ts ++ t ∷ []))
      every.gathered.each t.number l e).1

  begun_own : HasOwn begun_types
  begun_own l e n x g = ap (λ (ms : List Made). slice_get ms n) (sym (own_at l e)) ∙ g

  begun_has : AllByRecursion (λ u. HasReached begun_types u.reached) (ts ++ t ∷ [])
  begun_has = all_have begun_types begun_own (ts ++ t ∷ []) every.there

  begun_alike : (o : Option (List Made)) → at t.number (others_of (ts ++ t ∷ [])) ≡ o → BeginsWith (types_of t.number) o
  begun_alike None e = tt
  begun_alike (Some l) e = ([], sym (append-nil l ∙ own_at l e))

  first_part : {X : Type 0} (F : X → Type 0) (xs ys : List X) → AllByRecursion F (xs ++ ys) → AllByRecursion F xs
  first_part F [] ys h = tt
  first_part F (x ∷ xs) ys h = (h.0, first_part F xs ys h.1)

  last_part : {X : Type 0} (F : X → Type 0) (xs : List X) (y : X) → AllByRecursion F (xs ++ y ∷ []) → F y
  last_part F [] y h = h.0
  last_part F (x ∷ xs) y h = last_part F xs y h.1

  pub tables_have : AllByRecursion (λ u. HasReached begun_types u.reached) ts
  tables_have = first_part (λ (u : Table). HasReached begun_types u.reached) ts (t ∷ []) begun_has

  pub own_has : HasReached begun_types t.reached
  own_has = last_part (λ (u : Table). HasReached begun_types u.reached) ts t begun_has

  own_reaches : Reaches (others_of (ts ++ t ∷ [])) t.reached
  own_reaches = last_part (λ (u : Table). Reaches (others_of (ts ++ t ∷ [])) u.reached) ts t every.there

  own_each : (F : ℕ → List Made → Type 0) → F t.number [] → AllByRecursion (λ m. F m.number m.made) t.reached
      → F t.number (types_of t.number)
  own_each F none h = subst (λ (ms : List Made). F t.number ms) own (made_each F t.number none t.reached h)

  own_once : AllOnce (types_of t.number)
  own_once = own_each (λ k ms. AllOnce ms) tt q.once

  reached_split : (ms : List ModuleTypes) → ReachedRanged ms → AllByRecursion (λ m. AreRangedFrom m.number 0 m.made) ms
  reached_split [] h = tt
  reached_split (m ∷ ms) h = (h.0, reached_split ms h.1)

  abbrev started : {T : Type 0} → Scope T
  started {T = T} = begun_scope {T = T} (types_of t.number) (others_of (ts ++ t ∷ [])) t ts

  own_formed : {T : Type 0} → ScopeFormed begun_types (started {T = T})
  own_formed {T = T} = record {
    ranged = record {
      types = record {
        own = own_each (λ k ms. AreRangedFrom k 0 ms) tt (reached_split t.reached q.ranged);
        others = others_of_ranged (ts ++ t ∷ []) (tables_reach types_of below (ts ++ t ∷ []) both);
      };
      own = own_each (λ k ms. AllBased begun_types ms) tt (q.based begun_types own_has);
      others = others_based begun_types (others_of (ts ++ t ∷ []))
          (tables_each (λ (e : ℕ × List Made). AllBased begun_types e.1) (ts ++ t ∷ []) [] tt
          (based_in begun_types types_of below (ts ++ t ∷ []) both begun_has));
      names = names_ranged begun_types t.exported [] (q.exports begun_types own_has).1 tt;
      outer = predeclared_ranged begun_types T;
      tables = tables_ranged begun_types types_of below ts p tables_have;
    };
    ordered = record {
      started = started_here begun_types;
      types = record {
        own = own_each (λ k ms. AreOrderedFrom (others_of (ts ++ t ∷ [])) k [] ms) tt
            (reached_ordered (others_of (ts ++ t ∷ [])) every.gathered.ordered t.reached own_reaches);
        others = every.gathered.ordered;
        alike = begun_alike (at t.number (others_of (ts ++ t ∷ []))) refl;
      };
      once = own_once;
      names = names_ordered begun_types t.exported [] (q.exports begun_types own_has).0 tt;
      outer = (predeclared_ordered begun_types T, tt);
      tables = tables_ordered begun_types types_of below ts p tables_have;
      variables = variables_known begun_types t.exported [] (q.exports begun_types own_has).0 tt;
    };
  }

  own_types_are : own_types t ≡ types_of t.number
  own_types_are = ap (λ (ms : List Made). map made_copy ms) own ∙ copies_same (types_of t.number) own_once

  others_are : with_table (others_of ts) t ≡ others_of (ts ++ t ∷ [])
  others_are = sym (fold_more with_table [] ts (t ∷ []))

  pub implementation_formed : {T : Type 0} → ScopeFormed begun_types (implementation_scope {T = T} t ts)
  implementation_formed {T = T} =
      subst (λ (ms : List Made). ScopeFormed begun_types (begun_scope {T = T} ms (with_table (others_of ts) t) t ts))
      (sym own_types_are)
      (subst (λ (es : List (ℕ × List Made)). ScopeFormed begun_types (begun_scope {T = T} (types_of t.number) es t ts))
      (sym others_are) own_formed)
