-- Where a module begins: the names of its own definition, those around it, and what the tables of others export.
use Rattle.std.proofs.Common.{◌≡◌, ℕ, zero, suc, ◌==◌, Bool, true, false, ◌||◌, cond, List, [], ◌∷◌, ◌++◌, Option, Some, None, Ok, refl, sym, ap, subst, ◌∙◌}
use Rattle.std.specs.Prelude.{slice_get, codes}
use Rattle.std.specs.List.{fold, list_any, AllByRecursion}
use Rattle.m2_rule.specs.declared.rule.Rule.TheVariants as rule
use Rattle.m2_tree.specs.declared.name.Ident.{Ident}
use Rattle.m2_tree.specs.declared.pos.Pos.{Pos}
use Rattle.typed_tree.specs.declared.meaning.Meaning.{Meaning}
use Rattle.typed_tree.specs.declared.meaning.Meaning.TheVariants as meaning
use Rattle.typed_tree.specs.declared.meaning.Standard.TheVariants.{Abs, Cap, Chr, High, Max, Min, Odd, Ord, Val, Inc, Dec, Incl, Excl, Halt}
use Rattle.typed_tree.specs.declared.meaning.Procedure.{Procedure}
use Rattle.typed_tree.specs.declared.table.Table.{Table}
use Rattle.typed_tree.specs.declared.typed_module.TypedModule.{TypedModule}
use Rattle.typed_tree.specs.declared.types.TypeNo.{TypeNo}
use Rattle.typed_tree.specs.Types.{integer, cardinal, boolean, char, bitset}
use Rattle.m2_tree.specs.Names.{same_name}
use Rattle.typed_tree.specs.Names.{find_name}
use Rattle.check_scope.specs.Elaborated.{Gathers}
use Rattle.check_scope.specs.declared.known.Known.{Known}
use Rattle.check_scope.specs.declared.known.Known.TheVariants.{Declared}
use Rattle.check_scope.specs.declared.known.Origin.TheVariants.{Here}
use Rattle.check_const.specs.Denote.{exported_by, export_of, exported_meaning}
use Rattle.check_definition.specs.Predeclared.{predeclared_as, with_types, with_truth, with_functions, with_bounds, with_procedures, predeclared_names, predeclared_block, console}
use Rattle.check_definition.specs.Importing.{exports_of}
use Rattle.check_block.specs.declared.heading.Standing.TheVariants.{Awaited}
use Rattle.check_block.specs.Headings.{standing_known, name_standing}
use Rattle.check_body.specs.Own.{with_own_name, own_names}
use Rattle.law_modules.specs.WellFormed.{IsKnown, IsRoutine}
use Rattle.law_well_formed.specs.Formed.{Holds, fine, FormedMeaning}
use Rattle.law_well_formed.proofs.Basics.{reported_holds}
use Rattle.law_well_formed.specs.FormedScopes.{FormedOwn, AreFormedNames, AreFormedBlocks, ExportsFormed}
use Rattle.law_well_formed.proofs.ScopesGrowth.{names_more}
use Rattle.law_well_formed.proofs.ScopesDeclarations.{same_home}
use Rattle.law_well_formed.proofs.ScopesImports.{OpenTables}
use Rattle.law_well_formed.proofs.ImportsLists.{or_right, each_entered, found_each}
use Rattle.law_well_formed.specs.FormedTables.{IsExport, AreExports, IsNumbered, AreNumberedBy}
use Rattle.law_well_formed.specs.FormedModules.{is_console_table, IsTable, AreTables}
use Rattle.law_well_formed.proofs.Opens.{open_table, open_in}

-- ---- procedures that are awaited

module _ (T : Type 0) (home : ℕ) (hs : List TypeNo) where
  -- they are the module's, and have their numbers
  abbrev pub IsAwaitedOwn : Known T → Type 0
  IsAwaitedOwn k = (p : Procedure) → standing_known k ≡ Awaited p → (p.home ≡ home)
      × (slice_get hs p.number ≡ Some p.heading)

  meaning_awaits : (x : Meaning) → IsExport home x → IsNumbered hs x → IsAwaitedOwn (Declared Here (Ok x))
  meaning_awaits (meaning.Procedure q) e k p a = let same : q ≡ p = cc in
      subst (λ (r : Procedure). (r.home ≡ home) × (slice_get hs r.number ≡ Some r.heading)) same (e, k)
  meaning_awaits (meaning.Constant v) e k p a = absurd cc
  meaning_awaits (meaning.Type t n) e k p a = absurd cc
  meaning_awaits (meaning.Variable v) e k p a = absurd cc
  meaning_awaits (meaning.Local v) e k p a = absurd cc
  meaning_awaits (meaning.Field f) e k p a = absurd cc
  meaning_awaits (meaning.LocalProcedure q) e k p a = absurd cc
  meaning_awaits meaning.Ahead e k p a = absurd cc
  meaning_awaits (meaning.Standard f) e k p a = absurd cc
  meaning_awaits (meaning.Module n) e k p a = absurd cc

  abbrev AllAwaitOwn : List (List ℕ × Known T) → Type 0
  AllAwaitOwn ns = AllByRecursion (λ e. IsAwaitedOwn e.1) ns

  names_await : (es : List (List ℕ × Meaning)) (so : List (List ℕ × Known T)) → AreExports home es → AreNumberedBy hs es
      → AllAwaitOwn so → AllAwaitOwn (fold with_own_name so es)
  names_await [] so p q k = k
  names_await (e ∷ es) so p q k = names_await es (with_own_name so e) p.1 q.1
      (each_entered (λ (e : List ℕ × Known T). IsAwaitedOwn e.1) e.0 (Declared Here (Ok e.1)) so
      (λ other z. meaning_awaits e.1 p.0 q.0) k)

  found_awaits : (name : List ℕ) (ns : List (List ℕ × Known T)) (o : Option (Known T)) → find_name name ns ≡ o
      → AllAwaitOwn ns → (p : Procedure) → name_standing o ≡ Awaited p → (p.home ≡ home)
      × (slice_get hs p.number ≡ Some p.heading)
  found_awaits name ns None e all p a = absurd cc
  found_awaits name ns (Some k) e all p a =
      (found_each (λ (e : List ℕ × Known T). IsAwaitedOwn e.1) name ns k all e).2 p a

  pub own_await : (es : List (List ℕ × Meaning)) → AreExports home es → AreNumberedBy hs es
      → (name : List ℕ) (p : Procedure) → name_standing (find_name name (own_names {T = T} es)) ≡ Awaited p
      → (p.home ≡ home) × (slice_get hs p.number ≡ Some p.heading)
  own_await es e k name p a = found_awaits name (own_names es) (find_name name (own_names es)) refl
      (names_await es [] e k tt) p a

module _ (m : TypedModule) (opens : ℕ → Bool) where
  -- ---- the names of a module's own definition

  own_known : (home : ℕ) → home ≡ m.types.home → IsKnown m home
  own_known home e = ap (λ (b : Bool). b || list_any (λ i. i.number == home) m.imports) (same_home home m.types.home e)

  module _ (home : ℕ) (hs : List TypeNo) (same : home ≡ m.types.home)
      (there : (n : ℕ) (t : TypeNo) → slice_get hs n ≡ Some t → IsRoutine m.procedures n t) where
    meaning_formed : (x : Meaning) → IsExport home x → IsNumbered hs x → FormedOwn m opens x
    meaning_formed (meaning.Procedure p) e k =
        (record { known = own_known p.home (e ∙ same); own = λ z. there p.number p.heading k }, e ∙ same)
    meaning_formed (meaning.Constant v) e k = (tt, tt)
    meaning_formed (meaning.Type t n) e k = (tt, tt)
    meaning_formed (meaning.Variable v) e k = (own_known v.home (e ∙ same), e ∙ same)
    meaning_formed (meaning.Local v) e k = absurd e
    meaning_formed (meaning.Field f) e k = absurd e
    meaning_formed (meaning.LocalProcedure p) e k = absurd e
    meaning_formed meaning.Ahead e k = absurd e
    meaning_formed (meaning.Standard f) e k = (tt, tt)
    meaning_formed (meaning.Module n) e k = absurd e

    names_formed : {T : Type 0} (es : List (List ℕ × Meaning)) (so : List (List ℕ × Known T)) → AreExports home es
        → AreNumberedBy hs es → AreFormedNames m opens so → AreFormedNames m opens (fold with_own_name so es)
    names_formed [] so p q k = k
    names_formed (e ∷ es) so p q k = names_formed es (with_own_name so e) p.1 q.1
        (names_more m opens e.0 (Declared Here (Ok e.1)) so (fine e.1 (meaning_formed e.1 p.0 q.0)) k)

    pub own_formed : (T : Type 0) (es : List (List ℕ × Meaning)) → AreExports home es → AreNumberedBy hs es
        → AreFormedNames m opens {T = T} (own_names es)
    own_formed T es p q = names_formed es [] p q tt

  -- ---- predeclared names

  module _ (T : Type 0) where
    abbrev Formed : List (List ℕ × Known T) → Type 0
    Formed ns = AreFormedNames m opens ns

    more : (name : List ℕ) (x : Meaning) (ns : List (List ℕ × Known T)) → FormedOwn m opens x → Formed ns
        → Formed (predeclared_as name x ns)
    more name x ns p k = names_more m opens name (Declared Here (Ok x)) ns (fine x p) k

    types_formed : (ns : List (List ℕ × Known T)) → Formed ns → Formed (with_types ns)
    types_formed ns k =
        more (codes "BITSET") (meaning.Type bitset 1) _ (tt, tt)
        (more (codes "CHAR") (meaning.Type char 1) _ (tt, tt)
        (more (codes "BOOLEAN") (meaning.Type boolean 1) _ (tt, tt)
        (more (codes "CARDINAL") (meaning.Type cardinal 1) _ (tt, tt)
        (more (codes "INTEGER") (meaning.Type integer 1) ns (tt, tt) k))))

    truth_formed : (ns : List (List ℕ × Known T)) → Formed ns → Formed (with_truth ns)
    truth_formed ns k = more (codes "TRUE") _ _ (tt, tt) (more (codes "FALSE") _ ns (tt, tt) k)

    functions_formed : (ns : List (List ℕ × Known T)) → Formed ns → Formed (with_functions ns)
    functions_formed ns k =
        more (codes "HIGH") (meaning.Standard High) _ (tt, tt) (more (codes "CHR") (meaning.Standard Chr) _ (tt, tt)
        (more (codes "CAP") (meaning.Standard Cap) _ (tt, tt)
        (more (codes "ABS") (meaning.Standard Abs) ns (tt, tt) k)))

    bounds_formed : (ns : List (List ℕ × Known T)) → Formed ns → Formed (with_bounds ns)
    bounds_formed ns k =
        more (codes "VAL") (meaning.Standard Val) _ (tt, tt)
        (more (codes "ORD") (meaning.Standard Ord) _ (tt, tt) (more (codes "ODD") (meaning.Standard Odd) _ (tt, tt)
        (more (codes "MIN") (meaning.Standard Min) _ (tt, tt)
        (more (codes "MAX") (meaning.Standard Max) ns (tt, tt) k))))

    procedures_formed : (ns : List (List ℕ × Known T)) → Formed ns → Formed (with_procedures ns)
    procedures_formed ns k =
        more (codes "HALT") (meaning.Standard Halt) _ (tt, tt)
        (more (codes "EXCL") (meaning.Standard Excl) _ (tt, tt)
        (more (codes "INCL") (meaning.Standard Incl) _ (tt, tt)
        (more (codes "DEC") (meaning.Standard Dec) _ (tt, tt)
        (more (codes "INC") (meaning.Standard Inc) ns (tt, tt) k))))

    pub predeclared_formed : AreFormedNames m opens (predeclared_names {T = T})
    unfolding predeclared_names
    predeclared_formed = procedures_formed (with_bounds (with_functions (with_truth (with_types {T = T} []))))
        (bounds_formed (with_functions (with_truth (with_types {T = T} [])))
        (functions_formed (with_truth (with_types {T = T} []))
        (truth_formed (with_types {T = T} []) (types_formed [] tt))))

    pub around_formed : AreFormedBlocks m opens (predeclared_block {T = T} ∷ [])
    around_formed = (predeclared_formed, tt)

  -- ---- what other modules export

  module _ (home : ℕ) (same : home ≡ m.types.home) where
    other_known : (t : Table) (n : ℕ) → n ≡ t.number → list_any (λ i. i.number == t.number) m.imports ≡ true
        → IsKnown m n
    other_known t n e k = or_right (n == m.types.home) (list_any (λ i. i.number == n) m.imports)
        (ap (λ (n : ℕ). list_any (λ i. i.number == n) m.imports) e ∙ k)

    export_formed : (t : Table) → (t.number == home) ≡ false → list_any (λ i. i.number == t.number) m.imports ≡ true
        → (x : Meaning) → IsExport t.number x → FormedMeaning m opens 0 x
    export_formed t o k (meaning.Procedure p) e = record {
      known = other_known t p.home e k;
      own = λ z. absurd (let q : (t.number == home) ≡ true = ap (λ (n : ℕ). n == home) (sym e)
          ∙ ap (λ (n : ℕ). p.home == n) same ∙ z in cc);
    }
    export_formed t o k (meaning.Constant v) e = tt
    export_formed t o k (meaning.Type u n) e = tt
    export_formed t o k (meaning.Variable v) e = other_known t v.home e k
    export_formed t o k (meaning.Local v) e = tt
    export_formed t o k (meaning.Field f) e = absurd e
    export_formed t o k (meaning.LocalProcedure p) e = absurd e
    export_formed t o k meaning.Ahead e = tt
    export_formed t o k (meaning.Standard f) e = tt
    export_formed t o k (meaning.Module n) e = absurd e

    exports_formed : (t : Table) → (t.number == home) ≡ false → list_any (λ i. i.number == t.number) m.imports ≡ true
        → (es : List (List ℕ × Meaning)) → AreExports t.number es → ExportsFormed m opens es
    exports_formed t o k [] e = tt
    exports_formed t o k (x ∷ xs) e = (export_formed t o k x.1 e.0, exports_formed t o k xs e.1)

    imported_if : (a b : Bool) → a ≡ false → (a || b) ≡ true → b ≡ true
    imported_if true b e h = absurd cc
    imported_if false b e h = h

    table_formed : (t : Table) → IsTable home t → open_table m.imports (Some t) ≡ true
        → ExportsFormed m opens t.exported
    table_formed t i h = exports_formed t i.other
        (imported_if (is_console_table t) (list_any (λ i. i.number == t.number) m.imports) i.named h) t.exported
        i.exports

    console_formed : ExportsFormed m opens console.exported
    unfolding console
    console_formed = (tt, tt)

    tables_formed : (ts : List Table) → AreTables home ts → (n : ℕ)
        → open_table m.imports (slice_get (ts ++ console ∷ []) n) ≡ true
        → ExportsFormed m opens (exports_of (slice_get (ts ++ console ∷ []) n))
    tables_formed [] all zero h = console_formed
    tables_formed [] all (suc n) h = tt
    tables_formed (t ∷ ts) all zero h = table_formed t all.0 h
    tables_formed (t ∷ ts) all (suc n) h = tables_formed ts all.1 n h

  -- ---- members of open modules

  module _ (g : Gathers) where
    found_by : (at : Pos) (b : Bool) (x : Meaning) (o : Option Meaning) → FormedMeaning m opens 0 x
        → Holds (FormedMeaning m opens 0) (export_of g at o)
        → Holds (FormedMeaning m opens 0) (export_of g at (cond b (Some x) o))
    found_by at true x o p k = fine x p
    found_by at false x o p k = k

    found_formed : (at : Pos) (name : List ℕ) (es : List (List ℕ × Meaning)) → ExportsFormed m opens es
        → Holds (FormedMeaning m opens 0) (export_of g at (find_name name es))
    found_formed at name [] k = reported_holds g at rule.NotExported
    found_formed at name (e ∷ es) k = found_by at (same_name name e.0) e.1 (find_name name es) k.0
        (found_formed at name es k.1)

    member_formed : (name : Ident) (o : Option Table) → ExportsFormed m opens (exports_of o)
        → Holds (FormedMeaning m opens 0) (export_of g name.pos (exported_by name.name o))
    member_formed name None k = reported_holds g name.pos rule.NotExported
    member_formed name (Some t) k = found_formed name.pos name.name t.exported k

    pub members_formed : (tables : List Table) → OpenTables m opens g tables → (k : ℕ) (name : Ident) → opens k ≡ true
        → Holds (FormedMeaning m opens 0) (exported_meaning g tables k name)
    members_formed tables all k name h = member_formed name (slice_get tables k) (all k h)

pub open_tables : (m : TypedModule) (g : Gathers) (home : ℕ) → home ≡ m.types.home → (ts tables : List Table)
    → tables ≡ ts ++ console ∷ [] → AreTables home ts → OpenTables m (open_in tables m.imports) g tables
open_tables m g home same ts tables e all =
    subst (λ (us : List Table). OpenTables m (open_in us m.imports) g us) (sym e)
    (λ n h. tables_formed m (open_in (ts ++ console ∷ []) m.imports) home same ts all n h)
