-- The scope in which a module begins, and what a definition exports.
use Rattle.std.proofs.Common.{ℕ, pos, Bool, true, false, cond, List, [], ◌∷◌, Result, Ok, refl}
use Rattle.std.specs.Prelude.{codes}
use Rattle.std.specs.List.{fold}
use Rattle.typed_tree.specs.declared.meaning.Standard.TheVariants.{Abs, Cap, Chr, High, Max, Min, Odd, Ord, Val, Inc, Dec, Incl, Excl, Halt}
use Rattle.typed_tree.specs.declared.meaning.Meaning.{Meaning}
use Rattle.typed_tree.specs.declared.meaning.Meaning.TheVariants as meaning
use Rattle.typed_tree.specs.declared.table.Table.{Table}
use Rattle.typed_tree.specs.declared.known_types.Types.{Types}
use Rattle.typed_tree.specs.Types.{integer, cardinal, boolean, char, bitset}
use Rattle.m2_tree.specs.Names.{same_name}
use Rattle.typed_tree.specs.Names.{enter_name}
use Rattle.check_scope.specs.declared.known.Origin.{Origin}
use Rattle.check_scope.specs.declared.known.Origin.TheVariants as origin
use Rattle.check_scope.specs.declared.known.Known.{Known}
use Rattle.check_scope.specs.declared.known.Known.TheVariants.{Later, Ahead, Begun, Headed, Declared}
use Rattle.check_scope.specs.declared.scope.Scope.{Scope}
use Rattle.check_definition.specs.Predeclared.{predeclared_as, with_types, truth, with_truth, with_functions, with_bounds, with_procedures, predeclared_names, others_of, first_scope}
use Rattle.check_definition.specs.Export.{with_meaning, with_declared, with_known, with_export, exports}
use Rattle.law_well_formed.specs.Formed.{Holds, fine, broken}
use Rattle.law_well_formed.specs.Ordered.{OthersOrdered, BeginsWith}
use Rattle.law_well_formed.proofs.Trees.{at}
use Rattle.law_well_formed.specs.FormedOrder.{MeaningOrdered, KnownOrdered, NamesOrdered, ExportsOrdered, TablesOrdered, ScopeOrdered, first_types}
use Rattle.law_well_formed.proofs.OrderTypes.{started_here}
use Rattle.law_well_formed.proofs.Named.{names_more}

-- ---- predeclared names

module _ (types : Types) (T : Type 0) where
  as_ordered : (name : List ℕ) (m : Meaning) (ns : List (List ℕ × Known T)) → MeaningOrdered types m
      → NamesOrdered types ns → NamesOrdered types (predeclared_as name m ns)
  as_ordered name m ns p h = names_more types name (Declared origin.Here (Ok m)) ns (fine m p) h

  types_ordered : (ns : List (List ℕ × Known T)) → NamesOrdered types ns → NamesOrdered types (with_types ns)
  types_ordered ns h = as_ordered (codes "BITSET") (meaning.Type bitset 1)
      (predeclared_as (codes "CHAR") (meaning.Type char 1)
      (predeclared_as (codes "BOOLEAN") (meaning.Type boolean 1)
      (predeclared_as (codes "CARDINAL") (meaning.Type cardinal 1)
      (predeclared_as (codes "INTEGER") (meaning.Type integer 1) ns)))) refl
      (as_ordered (codes "CHAR") (meaning.Type char 1)
      (predeclared_as (codes "BOOLEAN") (meaning.Type boolean 1)
      (predeclared_as (codes "CARDINAL") (meaning.Type cardinal 1)
      (predeclared_as (codes "INTEGER") (meaning.Type integer 1) ns))) refl
      (as_ordered (codes "BOOLEAN") (meaning.Type boolean 1)
      (predeclared_as (codes "CARDINAL") (meaning.Type cardinal 1)
      (predeclared_as (codes "INTEGER") (meaning.Type integer 1) ns)) refl
      (as_ordered (codes "CARDINAL") (meaning.Type cardinal 1)
      (predeclared_as (codes "INTEGER") (meaning.Type integer 1) ns) refl
      (as_ordered (codes "INTEGER") (meaning.Type integer 1) ns refl h))))

  truth_ordered : (ns : List (List ℕ × Known T)) → NamesOrdered types ns → NamesOrdered types (with_truth ns)
  truth_ordered ns h = as_ordered (codes "TRUE") (truth (pos 1)) (predeclared_as (codes "FALSE") (truth (pos 0)) ns) tt
      (as_ordered (codes "FALSE") (truth (pos 0)) ns tt h)

  functions_ordered : (ns : List (List ℕ × Known T)) → NamesOrdered types ns → NamesOrdered types (with_functions ns)
  functions_ordered ns h = as_ordered (codes "HIGH") (meaning.Standard High)
      (predeclared_as (codes "CHR") (meaning.Standard Chr)
      (predeclared_as (codes "CAP") (meaning.Standard Cap) (predeclared_as (codes "ABS") (meaning.Standard Abs) ns))) tt
      (as_ordered (codes "CHR") (meaning.Standard Chr)
      (predeclared_as (codes "CAP") (meaning.Standard Cap) (predeclared_as (codes "ABS") (meaning.Standard Abs) ns)) tt
      (as_ordered (codes "CAP") (meaning.Standard Cap) (predeclared_as (codes "ABS") (meaning.Standard Abs) ns) tt
      (as_ordered (codes "ABS") (meaning.Standard Abs) ns tt h)))

  bounds_ordered : (ns : List (List ℕ × Known T)) → NamesOrdered types ns → NamesOrdered types (with_bounds ns)
  bounds_ordered ns h = as_ordered (codes "VAL") (meaning.Standard Val)
      (predeclared_as (codes "ORD") (meaning.Standard Ord)
      (predeclared_as (codes "ODD") (meaning.Standard Odd)
      (predeclared_as (codes "MIN") (meaning.Standard Min) (predeclared_as (codes "MAX") (meaning.Standard Max) ns))))
      tt (as_ordered (codes "ORD") (meaning.Standard Ord)
      (predeclared_as (codes "ODD") (meaning.Standard Odd)
      (predeclared_as (codes "MIN") (meaning.Standard Min) (predeclared_as (codes "MAX") (meaning.Standard Max) ns))) tt
      (as_ordered (codes "ODD") (meaning.Standard Odd)
      (predeclared_as (codes "MIN") (meaning.Standard Min) (predeclared_as (codes "MAX") (meaning.Standard Max) ns)) tt
      (as_ordered (codes "MIN") (meaning.Standard Min) (predeclared_as (codes "MAX") (meaning.Standard Max) ns) tt
      (as_ordered (codes "MAX") (meaning.Standard Max) ns tt h))))

  procedures_ordered : (ns : List (List ℕ × Known T)) → NamesOrdered types ns → NamesOrdered types (with_procedures ns)
  procedures_ordered ns h = as_ordered (codes "HALT") (meaning.Standard Halt)
      (predeclared_as (codes "EXCL") (meaning.Standard Excl)
      (predeclared_as (codes "INCL") (meaning.Standard Incl)
      (predeclared_as (codes "DEC") (meaning.Standard Dec) (predeclared_as (codes "INC") (meaning.Standard Inc) ns))))
      tt (as_ordered (codes "EXCL") (meaning.Standard Excl)
      (predeclared_as (codes "INCL") (meaning.Standard Incl)
      (predeclared_as (codes "DEC") (meaning.Standard Dec) (predeclared_as (codes "INC") (meaning.Standard Inc) ns))) tt
      (as_ordered (codes "INCL") (meaning.Standard Incl)
      (predeclared_as (codes "DEC") (meaning.Standard Dec) (predeclared_as (codes "INC") (meaning.Standard Inc) ns)) tt
      (as_ordered (codes "DEC") (meaning.Standard Dec) (predeclared_as (codes "INC") (meaning.Standard Inc) ns) tt
      (as_ordered (codes "INC") (meaning.Standard Inc) ns tt h))))

  pub predeclared_ordered : NamesOrdered types (predeclared_names {T = T})
  unfolding predeclared_names
  predeclared_ordered =
      procedures_ordered (with_bounds (with_functions (with_truth (with_types []))))
      (bounds_ordered (with_functions (with_truth (with_types [])))
      (functions_ordered (with_truth (with_types [])) (truth_ordered (with_types []) (types_ordered [] tt))))

pub first_ordered : {T : Type 0} (home : ℕ) (tables : List Table) → OthersOrdered [] (others_of tables)
    → BeginsWith [] (at home (others_of tables)) → TablesOrdered (first_types home tables) tables
    → ScopeOrdered (first_types home tables) (first_scope {T = T} home tables)
first_ordered {T = T} home tables p q r = record {
  started = started_here (first_types home tables);
  types = record { own = tt; others = p; alike = q };
  once = tt;
  names = tt;
  outer = (predeclared_ordered (first_types home tables) T, tt);
  tables = r;
  variables = tt;
}

-- ---- exports

module _ (types : Types) where
  exports_by : (b : Bool) (e : List ℕ × Meaning) (m : Meaning) (es more : List (List ℕ × Meaning))
      → MeaningOrdered types m → ExportsOrdered types (e ∷ es) → ExportsOrdered types more
      → ExportsOrdered types (cond b ((e.0, m) ∷ es) (e ∷ more))
  exports_by true e m es more p h q = (p, h.1)
  exports_by false e m es more p h q = (h.0, q)

  exports_more : (name : List ℕ) (m : Meaning) (es : List (List ℕ × Meaning)) → MeaningOrdered types m
      → ExportsOrdered types es → ExportsOrdered types (enter_name name m es)
  exports_more name m [] p h = (p, tt)
  exports_more name m (e ∷ es) p h = exports_by (same_name name e.0) e m es (enter_name name m es) p h
      (exports_more name m es p h.1)

  meaning_exported : {T : Type 0} (so : List (List ℕ × Meaning)) (name : List ℕ) (r : Result Meaning T)
      → Holds (MeaningOrdered types) r → ExportsOrdered types so → ExportsOrdered types (with_meaning so name r)
  meaning_exported so name _ (fine m p) h = exports_more name m so p h
  meaning_exported so name _ (broken e) h = h

  declared_exported : {T : Type 0} (so : List (List ℕ × Meaning)) (name : List ℕ) (o : Origin) (r : Result Meaning T)
      → Holds (MeaningOrdered types) r → ExportsOrdered types so → ExportsOrdered types (with_declared so name o r)
  declared_exported so name origin.Here r p h = meaning_exported so name r p h
  declared_exported so name (origin.Module k) r p h = h
  declared_exported so name (origin.Export k) r p h = h

  known_exported : {T : Type 0} (so : List (List ℕ × Meaning)) (name : List ℕ) (k : Known T) → KnownOrdered types k
      → ExportsOrdered types so → ExportsOrdered types (with_known so name k)
  known_exported so name Later p h = h
  known_exported so name Ahead p h = h
  known_exported so name Begun p h = h
  known_exported so name (Headed r) p h = meaning_exported so name r p h
  known_exported so name (Declared o r) p h = declared_exported so name o r p h

  all_exported : {T : Type 0} (own : List (List ℕ × Known T)) (so : List (List ℕ × Meaning)) → NamesOrdered types own
      → ExportsOrdered types so → ExportsOrdered types (fold with_export so own)
  all_exported [] so p h = h
  all_exported (e ∷ own) so p h = all_exported own (with_export so e) p.1 (known_exported so e.0 e.1 p.0 h)

pub exports_ordered : {T : Type 0} (base : Types) (s : Scope T) → ScopeOrdered base s
    → ExportsOrdered s.types (exports s.own)
exports_ordered base s h = all_exported s.types s.own [] h.names tt
