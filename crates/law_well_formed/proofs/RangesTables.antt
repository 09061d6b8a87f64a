-- The scope in which a module begins, and what a definition exports.
use Rattle.std.proofs.Common.{ℕ, pos, Bool, true, false, cond, List, [], ◌∷◌, ◌++◌, Result, Ok, refl, subst, arith}
use Rattle.std.proofs.lemmas.Int.{ints}
use Rattle.std.proofs.lemmas.Bool.{eqb-true}
use Rattle.std.specs.Prelude.{codes, nat_eq, ◌≡◌, if◌then◌else◌}
use Rattle.std.specs.Map.{lookup}
use Rattle.std.specs.Option.{is_some}
use Rattle.indexmap.specs.IndexMap.{insert_entry}
use Rattle.std.specs.List.{fold}
use Rattle.typed_tree.specs.declared.meaning.Standard.TheVariants.{Abs, Cap, Chr, High, Max, Min, Odd, Ord, Val, Inc, Dec, Incl, Excl, Halt}
use Rattle.typed_tree.specs.declared.meaning.Meaning.{Meaning}
use Rattle.typed_tree.specs.declared.meaning.Meaning.TheVariants as meaning
use Rattle.typed_tree.specs.declared.shape.Made.{Made}
use Rattle.typed_tree.specs.declared.table.ModuleTypes.{ModuleTypes}
use Rattle.typed_tree.specs.declared.table.Table.{Table}
use Rattle.typed_tree.specs.declared.known_types.Types.{Types}
use Rattle.typed_tree.specs.Types.{integer, cardinal, boolean, char, bitset}
use Rattle.typed_tree.specs.Known.{range}
use Rattle.m2_tree.specs.Names.{same_name}
use Rattle.typed_tree.specs.Names.{enter_name}
use Rattle.check_scope.specs.declared.known.Origin.{Origin}
use Rattle.check_scope.specs.declared.known.Origin.TheVariants as origin
use Rattle.check_scope.specs.declared.known.Known.{Known}
use Rattle.check_scope.specs.declared.known.Known.TheVariants.{Later, Ahead, Begun, Headed, Declared}
use Rattle.check_scope.specs.declared.scope.Scope.{Scope}
use Rattle.check_definition.specs.Predeclared.{predeclared_as, with_types, truth, with_truth, with_functions, with_bounds, with_procedures, predeclared_names, with_reached, with_table, others_of, first_scope}
use Rattle.check_definition.specs.Export.{with_meaning, with_declared, with_known, with_export, exports, with_types as reached_with, own_types, reached_of}
use Rattle.law_well_formed.specs.Formed.{Holds, fine, broken}
use Rattle.law_modules.specs.Ranges.{AreRangedFrom, OthersRanged, AreRanged}
use Rattle.law_well_formed.specs.FormedRanges.{IsNumber, OthersBased, MeaningRanged, KnownRanged, NamesRanged, ExportsRanged, TablesRanged, ScopeRanged, first_types, ReachedRanged, TablesReach}
use Rattle.law_well_formed.proofs.RangesMade.{names_more}

-- ---- predeclared names

module _ (types : Types) (T : Type 0) where
  as_ranged : (name : List ℕ) (m : Meaning) (ns : List (List ℕ × Known T)) → MeaningRanged types m
      → NamesRanged types ns → NamesRanged types (predeclared_as name m ns)
  as_ranged name m ns p h = names_more types name (Declared origin.Here (Ok m)) ns (fine m p) h

  false_number : IsNumber types boolean boolean (pos 0)
  false_number = record {
    range = range boolean (pos 0) (pos 1);
    at = refl;
    own = refl;
    low = omega (arith, ints);
    high = omega (arith, ints);
  }

  true_number : IsNumber types boolean boolean (pos 1)
  true_number = record {
    range = range boolean (pos 0) (pos 1);
    at = refl;
    own = refl;
    low = omega (arith, ints);
    high =
        omega (arith, ints);
  }

  types_ranged : (ns : List (List ℕ × Known T)) → NamesRanged types ns → NamesRanged types (with_types ns)
  types_ranged ns h =
      as_ranged (codes "BITSET") (meaning.Type bitset 1)
      (predeclared_as (codes "CHAR") (meaning.Type char 1)
      (predeclared_as (codes "BOOLEAN") (meaning.Type boolean 1)
      (predeclared_as (codes "CARDINAL") (meaning.Type cardinal 1)
      (predeclared_as (codes "INTEGER") (meaning.Type integer 1) ns)))) tt
      (as_ranged (codes "CHAR") (meaning.Type char 1)
      (predeclared_as (codes "BOOLEAN") (meaning.Type boolean 1)
      (predeclared_as (codes "CARDINAL") (meaning.Type cardinal 1)
      (predeclared_as (codes "INTEGER") (meaning.Type integer 1) ns))) tt
      (as_ranged (codes "BOOLEAN") (meaning.Type boolean 1)
      (predeclared_as (codes "CARDINAL") (meaning.Type cardinal 1)
      (predeclared_as (codes "INTEGER") (meaning.Type integer 1) ns)) tt
      (as_ranged (codes "CARDINAL") (meaning.Type cardinal 1)
      (predeclared_as (codes "INTEGER") (meaning.Type integer 1) ns) tt
      (as_ranged (codes "INTEGER") (meaning.Type integer 1) ns tt h))))

  truth_ranged : (ns : List (List ℕ × Known T)) → NamesRanged types ns → NamesRanged types (with_truth ns)
  truth_ranged ns h =
      as_ranged (codes "TRUE") (truth (pos 1)) (predeclared_as (codes "FALSE") (truth (pos 0)) ns)
      (true_number, true_number) (as_ranged (codes "FALSE") (truth (pos 0)) ns (false_number, false_number) h)

  functions_ranged : (ns : List (List ℕ × Known T)) → NamesRanged types ns → NamesRanged types (with_functions ns)
  functions_ranged ns h =
      as_ranged (codes "HIGH") (meaning.Standard High)
      (predeclared_as (codes "CHR") (meaning.Standard Chr)
      (predeclared_as (codes "CAP") (meaning.Standard Cap)
      (predeclared_as (codes "ABS") (meaning.Standard Abs) ns))) tt
      (as_ranged (codes "CHR") (meaning.Standard Chr)
      (predeclared_as (codes "CAP") (meaning.Standard Cap) (predeclared_as (codes "ABS") (meaning.Standard Abs) ns))
      tt (as_ranged (codes "CAP") (meaning.Standard Cap) (predeclared_as (codes "ABS") (meaning.Standard Abs) ns) tt
      (as_ranged (codes "ABS") (meaning.Standard Abs) ns tt h)))

  bounds_ranged : (ns : List (List ℕ × Known T)) → NamesRanged types ns → NamesRanged types (with_bounds ns)
  bounds_ranged ns h =
      as_ranged (codes "VAL") (meaning.Standard Val)
      (predeclared_as (codes "ORD") (meaning.Standard Ord)
      (predeclared_as (codes "ODD") (meaning.Standard Odd)
      (predeclared_as (codes "MIN") (meaning.Standard Min)
      (predeclared_as (codes "MAX") (meaning.Standard Max) ns)))) tt
      (as_ranged (codes "ORD") (meaning.Standard Ord)
      (predeclared_as (codes "ODD") (meaning.Standard Odd)
      (predeclared_as (codes "MIN") (meaning.Standard Min)
      (predeclared_as (codes "MAX") (meaning.Standard Max) ns))) tt
      (as_ranged (codes "ODD") (meaning.Standard Odd)
      (predeclared_as (codes "MIN") (meaning.Standard Min) (predeclared_as (codes "MAX") (meaning.Standard Max) ns))
      tt (as_ranged (codes "MIN") (meaning.Standard Min) (predeclared_as (codes "MAX") (meaning.Standard Max) ns) tt
      (as_ranged (codes "MAX") (meaning.Standard Max) ns tt h))))

  procedures_ranged : (ns : List (List ℕ × Known T)) → NamesRanged types ns → NamesRanged types (with_procedures ns)
  procedures_ranged ns h =
      as_ranged (codes "HALT") (meaning.Standard Halt)
      (predeclared_as (codes "EXCL") (meaning.Standard Excl)
      (predeclared_as (codes "INCL") (meaning.Standard Incl)
      (predeclared_as (codes "DEC") (meaning.Standard Dec)
      (predeclared_as (codes "INC") (meaning.Standard Inc) ns)))) tt
      (as_ranged (codes "EXCL") (meaning.Standard Excl)
      (predeclared_as (codes "INCL") (meaning.Standard Incl)
      (predeclared_as (codes "DEC") (meaning.Standard Dec)
      (predeclared_as (codes "INC") (meaning.Standard Inc) ns))) tt
      (as_ranged (codes "INCL") (meaning.Standard Incl)
      (predeclared_as (codes "DEC") (meaning.Standard Dec) (predeclared_as (codes "INC") (meaning.Standard Inc) ns))
      tt (as_ranged (codes "DEC") (meaning.Standard Dec) (predeclared_as (codes "INC") (meaning.Standard Inc) ns) tt
      (as_ranged (codes "INC") (meaning.Standard Inc) ns tt h))))

  predeclared_ranged : NamesRanged types (predeclared_names {T = T})
  unfolding predeclared_names
  predeclared_ranged =
      procedures_ranged (with_bounds (with_functions (with_truth (with_types []))))
      (bounds_ranged (with_functions (with_truth (with_types [])))
      (functions_ranged (with_truth (with_types [])) (truth_ranged (with_types []) (types_ranged [] tt))))

pub first_ranged : {T : Type 0} (home : ℕ) (tables : List Table) → OthersRanged (others_of tables)
    → OthersBased (first_types home tables) (others_of tables) → TablesRanged (first_types home tables) tables
    → ScopeRanged (first_scope {T = T} home tables)
first_ranged {T = T} home tables p q r =
    record {
      types = record { own = tt; others = p };
      own = tt;
      others = q;
      names = tt;
      outer =
          (predeclared_ranged (first_types home tables) T, tt);
      tables = r;
    }

-- ---- exports

module _ (types : Types) where
  exports_by : (b : Bool) (e : List ℕ × Meaning) (m : Meaning) (es more : List (List ℕ × Meaning))
      → MeaningRanged types m → ExportsRanged types (e ∷ es) → ExportsRanged types more
      → ExportsRanged types (cond b ((e.0, m) ∷ es) (e ∷ more))
  exports_by true e m es more p h q = (p, h.1)
  exports_by false e m es more p h q = (h.0, q)

  exports_more : (name : List ℕ) (m : Meaning) (es : List (List ℕ × Meaning)) → MeaningRanged types m
      → ExportsRanged types es → ExportsRanged types (enter_name name m es)
  exports_more name m [] p h = (p, tt)
  exports_more name m (e ∷ es) p h = exports_by (same_name name e.0) e m es (enter_name name m es) p h
      (exports_more name m es p h.1)

  meaning_exported : {T : Type 0} (so : List (List ℕ × Meaning)) (name : List ℕ) (r : Result Meaning T)
      → Holds (MeaningRanged types) r → ExportsRanged types so → ExportsRanged types (with_meaning so name r)
  meaning_exported so name _ (fine m p) h = exports_more name m so p h
  meaning_exported so name _ (broken e) h = h

  declared_exported : {T : Type 0} (so : List (List ℕ × Meaning)) (name : List ℕ) (o : Origin) (r : Result Meaning T)
      → Holds (MeaningRanged types) r → ExportsRanged types so → ExportsRanged types (with_declared so name o r)
  declared_exported so name origin.Here r p h = meaning_exported so name r p h
  declared_exported so name (origin.Module k) r p h = h
  declared_exported so name (origin.Export k) r p h = h

  known_exported : {T : Type 0} (so : List (List ℕ × Meaning)) (name : List ℕ) (k : Known T) → KnownRanged types k
      → ExportsRanged types so → ExportsRanged types (with_known so name k)
  known_exported so name Later p h = h
  known_exported so name Ahead p h = h
  known_exported so name Begun p h = h
  known_exported so name (Headed r) p h = meaning_exported so name r p h
  known_exported so name (Declared o r) p h = declared_exported so name o r p h

  all_exported : {T : Type 0} (own : List (List ℕ × Known T)) (so : List (List ℕ × Meaning)) → NamesRanged types own
      → ExportsRanged types so → ExportsRanged types (fold with_export so own)
  all_exported [] so p h = h
  all_exported (e ∷ own) so p h = all_exported own (with_export so e) p.1 (known_exported so e.0 e.1 p.0 h)

pub exports_ranged : {T : Type 0} (s : Scope T) → ScopeRanged s → ExportsRanged s.types (exports s.own)
exports_ranged s h = all_exported s.types s.own [] h.names tt

-- ---- the types that tables reach

reached_more : (ms : List ModuleTypes) (m : ModuleTypes) → ReachedRanged ms → AreRangedFrom m.number 0 m.made
    → ReachedRanged (ms ++ m ∷ [])
reached_more [] m p q = (q, tt)
reached_more (x ∷ ms) m p q = (p.0, reached_more ms m p.1 q)

reached_both : (ms ns : List ModuleTypes) → ReachedRanged ms → ReachedRanged ns → ReachedRanged (ms ++ ns)
reached_both [] ns p q = q
reached_both (x ∷ ms) ns p q = (p.0, reached_both ms ns p.1 q)

others_reached : (es : List (ℕ × List Made)) (so : List ModuleTypes) → OthersRanged es → ReachedRanged so
    → ReachedRanged (fold reached_with so es)
others_reached [] so p q = q
others_reached (e ∷ es) so p q = others_reached es (reached_with so e) p.1
    (reached_more so (record { number = e.0; made = e.1 }) q p.0)

own_reached : (home : ℕ) (ms : List Made) → AreRangedFrom home 0 ms → ReachedRanged (own_types home ms)
own_reached home [] p = tt
own_reached home (m ∷ ms) p = (p, tt)

pub reached_ranged : (types : Types) → AreRanged types → ReachedRanged (reached_of types)
reached_ranged types h = reached_both (fold reached_with [] types.others) (own_types types.home types.own)
    (others_reached types.others [] h.others tt) (own_reached types.home types.own h.own)

entry_by : (b : Bool) (e : ℕ × List Made) (es rest : List (ℕ × List Made)) (n : ℕ) (made : List Made) → nat_eq n e.0 ≡ b
    → OthersRanged (e ∷ es) → AreRangedFrom n 0 made → OthersRanged rest
    → OthersRanged (if b then (e.0, made) ∷ es else e ∷ rest)
entry_by true e es rest n made q h p r = (subst (λ (k : ℕ). AreRangedFrom k 0 made) (eqb-true n e.0 q) p, h.1)
entry_by false e es rest n made q h p r = (h.0, r)

entry_more : (es : List (ℕ × List Made)) (n : ℕ) (made : List Made) → OthersRanged es → AreRangedFrom n 0 made
    → OthersRanged (insert_entry nat_eq es n made)
entry_more [] n made h p = (p, tt)
entry_more (e ∷ es) n made h p = entry_by (nat_eq n e.0) e es (insert_entry nat_eq es n made) n made refl h p
    (entry_more es n made h.1 p)

reach_by : (b : Bool) (so more : List (ℕ × List Made)) → OthersRanged so → OthersRanged more
    → OthersRanged (cond b so more)
reach_by true so more p q = p
reach_by false so more p q = q

table_reach : (ms : List ModuleTypes) (so : List (ℕ × List Made)) → ReachedRanged ms → OthersRanged so
    → OthersRanged (fold with_reached so ms)
table_reach [] so p h = h
table_reach (m ∷ ms) so p h = table_reach ms (with_reached so m) p.1
    (reach_by (is_some (lookup (nat_eq m.number) so)) so (insert_entry nat_eq so m.number m.made) h
    (entry_more so m.number m.made h p.0))

tables_reach : (ts : List Table) (so : List (ℕ × List Made)) → TablesReach ts → OthersRanged so
    → OthersRanged (fold with_table so ts)
tables_reach [] so p h = h
tables_reach (t ∷ ts) so p h = tables_reach ts (with_table so t) p.1 (table_reach t.reached so p.0 h)

pub others_of_ranged : (ts : List Table) → TablesReach ts → OthersRanged (others_of ts)
others_of_ranged ts p = tables_reach ts [] p tt
