-- What a module exports, and the names with which an implementation begins.
use Rattle.std.proofs.Common.{◌≡◌, ℕ, Bool, true, false, cond, List, [], ◌∷◌, None, Result, Ok, subst}
use Rattle.std.specs.List.{fold}
use Rattle.typed_tree.specs.declared.meaning.Meaning.{Meaning}
use Rattle.typed_tree.specs.declared.table.Table.{Table}
use Rattle.m2_tree.specs.Names.{same_name}
use Rattle.typed_tree.specs.Names.{enter_name}
use Rattle.check_scope.specs.declared.known.Origin.{Origin}
use Rattle.check_scope.specs.declared.known.Origin.TheVariants.{Here}
use Rattle.check_scope.specs.declared.known.Origin.TheVariants as origin
use Rattle.check_scope.specs.declared.known.Known.{Known}
use Rattle.check_scope.specs.declared.known.Known.TheVariants.{Later, Ahead, Begun, Headed, Declared}
use Rattle.check_scope.specs.declared.scope.Scope.{Scope}
use Rattle.check_definition.specs.Predeclared.{first_scope}
use Rattle.check_definition.specs.Export.{with_meaning, with_declared, with_known, with_export, exports}
use Rattle.check_body.specs.Own.{with_own_name, implementation_scope}
use Rattle.law_well_formed.specs.Formed.{Holds, fine, broken}
use Rattle.law_programs.specs.Carried.{NamesWords, ExportsWords, TablesWords, ScopeWords, MeaningSlot, KnownSlot, NamesSlots, ScopeSlots, ExportsFree}
use Rattle.law_programs.proofs.Carrying.{words_more, slots_more}
use Rattle.law_programs.proofs.Bounding.{first_words}

-- ---- no variable of a procedure is exported

free_by : (b : Bool) (e : List ℕ × Meaning) (m : Meaning) (es more : List (List ℕ × Meaning)) → MeaningSlot [] 0 m
    → ExportsFree (e ∷ es) → ExportsFree more → ExportsFree (cond b ((e.0, m) ∷ es) (e ∷ more))
free_by true e m es more p h q = (p, h.1)
free_by false e m es more p h q = (h.0, q)

free_more : (name : List ℕ) (m : Meaning) (es : List (List ℕ × Meaning)) → MeaningSlot [] 0 m → ExportsFree es
    → ExportsFree (enter_name name m es)
free_more name m [] p h = (p, tt)
free_more name m (e ∷ es) p h = free_by (same_name name e.0) e m es (enter_name name m es) p h
    (free_more name m es p h.1)

meaning_free : {T : Type 0} (so : List (List ℕ × Meaning)) (name : List ℕ) (r : Result Meaning T)
    → Holds (MeaningSlot [] 0) r → ExportsFree so → ExportsFree (with_meaning so name r)
meaning_free so name _ (fine m p) h = free_more name m so p h
meaning_free so name _ (broken e) h = h

declared_free : {T : Type 0} (so : List (List ℕ × Meaning)) (name : List ℕ) (o : Origin) (r : Result Meaning T)
    → Holds (MeaningSlot [] 0) r → ExportsFree so → ExportsFree (with_declared so name o r)
declared_free so name origin.Here r p h = meaning_free so name r p h
declared_free so name (origin.Module k) r p h = h
declared_free so name (origin.Export k) r p h = h

known_free : {T : Type 0} (so : List (List ℕ × Meaning)) (name : List ℕ) (k : Known T) → KnownSlot [] 0 k
    → ExportsFree so → ExportsFree (with_known so name k)
known_free so name Later p h = h
known_free so name Ahead p h = h
known_free so name Begun p h = h
known_free so name (Headed r) p h = meaning_free so name r p h
known_free so name (Declared o r) p h = declared_free so name o r p h

all_free : {T : Type 0} (own : List (List ℕ × Known T)) (so : List (List ℕ × Meaning)) → NamesSlots [] 0 own
    → ExportsFree so → ExportsFree (fold with_export so own)
all_free [] so p h = h
all_free (e ∷ own) so p h = all_free own (with_export so e) p.1 (known_free so e.0 e.1 p.0 h)

pub exports_free : {T : Type 0} (s : Scope T) → s.level ≡ 0 → ScopeSlots None s → ExportsFree (exports s.own)
exports_free s e h = all_free s.own [] (subst (λ (n : ℕ). NamesSlots [] n s.own) e h) tt

-- ---- an implementation begins with what its definition exports

own_slots : {T : Type 0} (es : List (List ℕ × Meaning)) (ns : List (List ℕ × Known T)) → ExportsFree es
    → NamesSlots [] 0 ns → NamesSlots [] 0 (fold with_own_name ns es)
own_slots [] ns p h = h
own_slots (e ∷ es) ns p h = own_slots es (with_own_name ns e) p.1
    (slots_more [] 0 e.0 (Declared Here (Ok e.1)) ns (fine e.1 p.0) h)

own_words : {T : Type 0} (es : List (List ℕ × Meaning)) (ns : List (List ℕ × Known T)) → ExportsWords es → NamesWords ns
    → NamesWords (fold with_own_name ns es)
own_words [] ns p h = h
own_words (e ∷ es) ns p h = own_words es (with_own_name ns e) p.1
    (words_more e.0 (Declared Here (Ok e.1)) ns (fine e.1 p.0) h)

pub implementation_slots : (T : Type 0) (own : Table) (tables : List Table) → ExportsFree own.exported
    → ScopeSlots None (implementation_scope {T = T} own tables)
implementation_slots T own tables p = own_slots own.exported [] p tt

pub implementation_words : {T : Type 0} (own : Table) (tables : List Table) → ExportsWords own.exported
    → TablesWords tables → ScopeWords (implementation_scope {T = T} own tables)
implementation_words {T = T} own tables p q = let k : ScopeWords (first_scope {T = T} own.number tables) =
    first_words own.number tables q in record {
      names = own_words own.exported [] p tt;
      outer = k.outer;
      tables =
          k.tables;
    }
