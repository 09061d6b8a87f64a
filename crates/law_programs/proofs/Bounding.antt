-- Constants on the way into procedures and back, where a module begins, and in what it exports.
use Rattle.std.proofs.Common.{ℕ, pos, Bool, true, false, cond, List, [], ◌∷◌, ◌++◌, length, Option, Some, None, Result, Ok}
use Rattle.std.specs.Prelude.{codes}
use Rattle.std.specs.List.{fold}
use Rattle.std.specs.Option.{is_some}
use Rattle.m2_tree.specs.declared.name.Ident.{Ident}
use Rattle.m2_tree.specs.declared.decl.Heading.{Heading}
use Rattle.m2_tree.specs.declared.decl.Section.{Section}
use Rattle.typed_tree.specs.declared.shape.Formal.{Formal}
use Rattle.typed_tree.specs.declared.meaning.Standard.TheVariants.{Abs, Cap, Chr, High, Max, Min, Odd, Ord, Val, Inc, Dec, Incl, Excl, Halt}
use Rattle.typed_tree.specs.declared.meaning.Meaning.{Meaning}
use Rattle.typed_tree.specs.declared.meaning.Meaning.TheVariants as meaning
use Rattle.typed_tree.specs.declared.table.Table.{Table}
use Rattle.typed_tree.specs.Types.{integer, cardinal, boolean, char, bitset}
use Rattle.m2_tree.specs.Names.{same_name}
use Rattle.typed_tree.specs.Names.{find_name, enter_name}
use Rattle.check_scope.specs.Elaborated.{Gathers}
use Rattle.check_scope.specs.declared.known.Origin.{Origin}
use Rattle.check_scope.specs.declared.known.Origin.TheVariants.{Here}
use Rattle.check_scope.specs.declared.known.Origin.TheVariants as origin
use Rattle.check_scope.specs.declared.known.Known.{Known}
use Rattle.check_scope.specs.declared.known.Known.TheVariants.{Later, Ahead, Begun, Headed, Declared}
use Rattle.check_scope.specs.declared.scope.Block.{Block}
use Rattle.check_scope.specs.declared.scope.Scope.{Scope}
use Rattle.check_type_expr.specs.Headings.{formal_of}
use Rattle.check_definition.specs.Predeclared.{predeclared_as, with_types, truth, with_truth, with_functions, with_bounds, with_procedures, predeclared_names, first_scope}
use Rattle.check_definition.specs.Export.{with_meaning, with_declared, with_known, with_export, exports}
use Rattle.check_scope.specs.declared.inner.Outside.{Outside}
use Rattle.check_scope.specs.Inwards.{inwards, split_last, pop_block, left_procedure}
use Rattle.check_block.specs.Inner.{formal_kind, formal_meaning, Formals, with_formal, with_section, entered_procedure}
use Rattle.law_well_formed.specs.Formed.{Holds, fine, broken}
use Rattle.law_well_formed.proofs.RangesDeclarations.{meant_holds}
use Rattle.law_programs.specs.Carried.{MeaningWord, KnownWord, NamesWords, BlocksWords, ExportsWords, TablesWords, ScopeWords}
use Rattle.law_programs.proofs.Carrying.{words_more}

-- ---- into a procedure, and back

blocks_more : {T : Type 0} (bs : List (Block T)) (b : Block T) → BlocksWords bs → NamesWords b.names
    → BlocksWords (bs ++ b ∷ [])
blocks_more [] b p q = (q, tt)
blocks_more (x ∷ bs) b p q = (p.0, blocks_more bs b p.1 q)

inwards_words : {T : Type 0} (s : Scope T) (seen : ℕ) → ScopeWords s → ScopeWords (inwards s seen)
inwards_words s seen h = record {
  names = tt;
  outer = blocks_more s.outer (record { names = s.own; seen = seen }) h.outer h.names;
  tables = h.tables;
}

formal_by : {T : Type 0} (b : Bool) (name : List ℕ) (k : Known T) (ns : List (List ℕ × Known T)) → KnownWord k
    → NamesWords ns → NamesWords (cond b ns (enter_name name k ns))
formal_by true name k ns p h = h
formal_by false name k ns p h = words_more name k ns p h

names_formals : {T : Type 0} (level : ℕ) (f : Result Formal T) (names : List Ident) (fs : Formals T) → NamesWords fs.0
    → NamesWords (fold (with_formal level f) fs names).0
names_formals level f [] fs h = h
names_formals level f (x ∷ xs) fs h =
    names_formals level f xs (with_formal level f fs x)
    (formal_by (is_some (find_name x.name fs.0)) x.name (Declared Here (formal_meaning level (length fs.1) f)) fs.0
    (meant_holds (λ u. meaning.Local (record { level = level; number = length fs.1; kind = formal_kind u; of = u.of }))
    (λ u. tt) f) h)

left_by : {T : Type 0} (bs : List (Block T)) → BlocksWords bs → BlocksWords (pop_block (split_last bs)).0
    × NamesWords (pop_block (split_last bs)).1
left_by [] p = (tt, tt)
left_by (b ∷ bs) p = last b (split_last bs) p.0 (left_by bs p.1) where
  last : {T : Type 0} (b : Block T) (o : Option (List (Block T) × Block T)) → NamesWords b.names
      → BlocksWords (pop_block o).0 × NamesWords (pop_block o).1
      → BlocksWords (pop_block (elim o [ None ↦ Some ([], b) | Some p ↦ Some (b ∷ p.0, p.1) ])).0
      × NamesWords (pop_block (elim o [ None ↦ Some ([], b) | Some p ↦ Some (b ∷ p.0, p.1) ])).1
  last b None p q = (tt, p)
  last b (Some x) p q = ((p, q.0), q.1)

pub left_words : {T : Type 0} (o : Outside) (s : Scope T) → ScopeWords s → ScopeWords (left_procedure o s)
left_words o s h = let k = left_by s.outer h.outer in record { names = k.1; outer = k.0; tables = h.tables }

module _ (g : Gathers) where
  sections_formals : (s : Scope g.Reported) (xs : List Section) (fs : Formals g.Reported) → NamesWords fs.0
      → NamesWords (fold (with_section g s) fs xs).0
  sections_formals s [] fs h = h
  sections_formals s (x ∷ xs) fs h = sections_formals s xs (with_section g s fs x)
      (names_formals s.level (formal_of g s x.is_var x.of) x.names fs h)

  pub entered_words : (s : Scope g.Reported) (seen : ℕ) (h : Heading) → ScopeWords s
      → ScopeWords (entered_procedure g s seen h).0
  entered_words s seen h p =
      let k : ScopeWords (inwards s seen) = inwards_words s seen p in
      record { names = sections_formals (inwards s seen) h.formals ([], []) tt; outer = k.outer; tables = k.tables }

-- ---- predeclared names

module _ (T : Type 0) where
  as_words : (name : List ℕ) (m : Meaning) (ns : List (List ℕ × Known T)) → MeaningWord m → NamesWords ns
      → NamesWords (predeclared_as name m ns)
  as_words name m ns p h = words_more name (Declared origin.Here (Ok m)) ns (fine m p) h

  types_words : (ns : List (List ℕ × Known T)) → NamesWords ns → NamesWords (with_types ns)
  types_words ns h =
      as_words (codes "BITSET") (meaning.Type bitset 1)
      (predeclared_as (codes "CHAR") (meaning.Type char 1)
      (predeclared_as (codes "BOOLEAN") (meaning.Type boolean 1)
      (predeclared_as (codes "CARDINAL") (meaning.Type cardinal 1)
      (predeclared_as (codes "INTEGER") (meaning.Type integer 1) ns)))) tt
      (as_words (codes "CHAR") (meaning.Type char 1)
      (predeclared_as (codes "BOOLEAN") (meaning.Type boolean 1)
      (predeclared_as (codes "CARDINAL") (meaning.Type cardinal 1)
      (predeclared_as (codes "INTEGER") (meaning.Type integer 1) ns))) tt
      (as_words (codes "BOOLEAN") (meaning.Type boolean 1)
      (predeclared_as (codes "CARDINAL") (meaning.Type cardinal 1)
      (predeclared_as (codes "INTEGER") (meaning.Type integer 1) ns)) tt
      (as_words (codes "CARDINAL") (meaning.Type cardinal 1)
      (predeclared_as (codes "INTEGER") (meaning.Type integer 1) ns) tt
      (as_words (codes "INTEGER") (meaning.Type integer 1) ns tt h))))

  truth_words : (ns : List (List ℕ × Known T)) → NamesWords ns → NamesWords (with_truth ns)
  truth_words ns h =
      as_words (codes "TRUE") (truth (pos 1)) (predeclared_as (codes "FALSE") (truth (pos 0)) ns) tt
      (as_words (codes "FALSE") (truth (pos 0)) ns tt h)

  functions_words : (ns : List (List ℕ × Known T)) → NamesWords ns → NamesWords (with_functions ns)
  functions_words ns h =
      as_words (codes "HIGH") (meaning.Standard High)
      (predeclared_as (codes "CHR") (meaning.Standard Chr)
      (predeclared_as (codes "CAP") (meaning.Standard Cap)
      (predeclared_as (codes "ABS") (meaning.Standard Abs) ns))) tt
      (as_words (codes "CHR") (meaning.Standard Chr)
      (predeclared_as (codes "CAP") (meaning.Standard Cap) (predeclared_as (codes "ABS") (meaning.Standard Abs) ns))
      tt (as_words (codes "CAP") (meaning.Standard Cap) (predeclared_as (codes "ABS") (meaning.Standard Abs) ns) tt
      (as_words (codes "ABS") (meaning.Standard Abs) ns tt h)))

  bounds_words : (ns : List (List ℕ × Known T)) → NamesWords ns → NamesWords (with_bounds ns)
  bounds_words ns h =
      as_words (codes "VAL") (meaning.Standard Val)
      (predeclared_as (codes "ORD") (meaning.Standard Ord)
      (predeclared_as (codes "ODD") (meaning.Standard Odd)
      (predeclared_as (codes "MIN") (meaning.Standard Min)
      (predeclared_as (codes "MAX") (meaning.Standard Max) ns)))) tt
      (as_words (codes "ORD") (meaning.Standard Ord)
      (predeclared_as (codes "ODD") (meaning.Standard Odd)
      (predeclared_as (codes "MIN") (meaning.Standard Min)
      (predeclared_as (codes "MAX") (meaning.Standard Max) ns))) tt
      (as_words (codes "ODD") (meaning.Standard Odd)
      (predeclared_as (codes "MIN") (meaning.Standard Min) (predeclared_as (codes "MAX") (meaning.Standard Max) ns))
      tt (as_words (codes "MIN") (meaning.Standard Min) (predeclared_as (codes "MAX") (meaning.Standard Max) ns) tt
      (as_words (codes "MAX") (meaning.Standard Max) ns tt h))))

  procedures_words : (ns : List (List ℕ × Known T)) → NamesWords ns → NamesWords (with_procedures ns)
  procedures_words ns h =
      as_words (codes "HALT") (meaning.Standard Halt)
      (predeclared_as (codes "EXCL") (meaning.Standard Excl)
      (predeclared_as (codes "INCL") (meaning.Standard Incl)
      (predeclared_as (codes "DEC") (meaning.Standard Dec)
      (predeclared_as (codes "INC") (meaning.Standard Inc) ns)))) tt
      (as_words (codes "EXCL") (meaning.Standard Excl)
      (predeclared_as (codes "INCL") (meaning.Standard Incl)
      (predeclared_as (codes "DEC") (meaning.Standard Dec)
      (predeclared_as (codes "INC") (meaning.Standard Inc) ns))) tt
      (as_words (codes "INCL") (meaning.Standard Incl)
      (predeclared_as (codes "DEC") (meaning.Standard Dec) (predeclared_as (codes "INC") (meaning.Standard Inc) ns))
      tt (as_words (codes "DEC") (meaning.Standard Dec) (predeclared_as (codes "INC") (meaning.Standard Inc) ns) tt
      (as_words (codes "INC") (meaning.Standard Inc) ns tt h))))

  predeclared_words : NamesWords (predeclared_names {T = T})
  unfolding predeclared_names
  predeclared_words =
      procedures_words (with_bounds (with_functions (with_truth (with_types []))))
      (bounds_words (with_functions (with_truth (with_types [])))
      (functions_words (with_truth (with_types [])) (truth_words (with_types []) (types_words [] tt))))

pub first_words : {T : Type 0} (home : ℕ) (tables : List Table) → TablesWords tables
    → ScopeWords (first_scope {T = T} home tables)
first_words {T = T} home tables p = record { names = tt; outer = (predeclared_words T, tt); tables = p }

-- ---- exports

exports_by : (b : Bool) (e : List ℕ × Meaning) (m : Meaning) (es more : List (List ℕ × Meaning)) → MeaningWord m
    → ExportsWords (e ∷ es) → ExportsWords more → ExportsWords (cond b ((e.0, m) ∷ es) (e ∷ more))
exports_by true e m es more p h q = (p, h.1)
exports_by false e m es more p h q = (h.0, q)

exports_more : (name : List ℕ) (m : Meaning) (es : List (List ℕ × Meaning)) → MeaningWord m → ExportsWords es
    → ExportsWords (enter_name name m es)
exports_more name m [] p h = (p, tt)
exports_more name m (e ∷ es) p h = exports_by (same_name name e.0) e m es (enter_name name m es) p h
    (exports_more name m es p h.1)

meaning_exported : {T : Type 0} (so : List (List ℕ × Meaning)) (name : List ℕ) (r : Result Meaning T)
    → Holds MeaningWord r → ExportsWords so → ExportsWords (with_meaning so name r)
meaning_exported so name _ (fine m p) h = exports_more name m so p h
meaning_exported so name _ (broken e) h = h

declared_exported : {T : Type 0} (so : List (List ℕ × Meaning)) (name : List ℕ) (o : Origin) (r : Result Meaning T)
    → Holds MeaningWord r → ExportsWords so → ExportsWords (with_declared so name o r)
declared_exported so name origin.Here r p h = meaning_exported so name r p h
declared_exported so name (origin.Module k) r p h = h
declared_exported so name (origin.Export k) r p h = h

known_exported : {T : Type 0} (so : List (List ℕ × Meaning)) (name : List ℕ) (k : Known T) → KnownWord k
    → ExportsWords so → ExportsWords (with_known so name k)
known_exported so name Later p h = h
known_exported so name Ahead p h = h
known_exported so name Begun p h = h
known_exported so name (Headed r) p h = meaning_exported so name r p h
known_exported so name (Declared o r) p h = declared_exported so name o r p h

all_exported : {T : Type 0} (own : List (List ℕ × Known T)) (so : List (List ℕ × Meaning)) → NamesWords own
    → ExportsWords so → ExportsWords (fold with_export so own)
all_exported [] so p h = h
all_exported (e ∷ own) so p h = all_exported own (with_export so e) p.1 (known_exported so e.0 e.1 p.0 h)

pub exports_words : {T : Type 0} (s : Scope T) → ScopeWords s → ExportsWords (exports s.own)
exports_words s h = all_exported s.own [] h.names tt
