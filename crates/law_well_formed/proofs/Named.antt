-- What names mean, and one name more.
use Rattle.std.proofs.Common.{◌≡◌, ℕ, zero, suc, Bool, true, false, cond, List, [], ◌∷◌, Option, Some, None, Result, Ok}
use Rattle.std.specs.Prelude.{slice_get, nat_lt}
use Rattle.std.specs.List.{fold}
use Rattle.std.specs.Option.{option_map}
use Rattle.m2_rule.specs.declared.rule.Rule.TheVariants as rule
use Rattle.m2_tree.specs.declared.pos.Pos.{Pos}
use Rattle.m2_tree.specs.declared.name.Ident.{Ident}
use Rattle.m2_tree.specs.declared.expr.Qualified.{Qualified}
use Rattle.typed_tree.specs.declared.meaning.OpenedField.{OpenedField}
use Rattle.typed_tree.specs.declared.meaning.Meaning.{Meaning}
use Rattle.typed_tree.specs.declared.meaning.Meaning.TheVariants as meaning
use Rattle.typed_tree.specs.declared.table.Table.{Table}
use Rattle.typed_tree.specs.declared.known_types.Types.{Types}
use Rattle.m2_tree.specs.Names.{same_name}
use Rattle.typed_tree.specs.Names.{find_name, place_of, enter_name}
use Rattle.check_scope.specs.declared.known.Known.{Known}
use Rattle.check_scope.specs.declared.known.Known.TheVariants.{Later, Ahead, Begun, Headed, Declared}
use Rattle.check_scope.specs.declared.known.Origin.TheVariants.{Here}
use Rattle.check_scope.specs.declared.scope.Block.{Block}
use Rattle.check_scope.specs.declared.scope.Scope.{Scope}
use Rattle.check_scope.specs.Scopes.{State, Sight, or_outside, seen_at, in_block, nearer, known_outside, or_around, sight_of, means_seen, means_as, open_field, means_or, looked_up, is_free, with_known, unless_declared, is_begun, finish_name, unless_marked, mark_name}
use Rattle.check_scope.specs.Elaborated.{Gathers, report}
use Rattle.check_const.specs.Denote.{exported_by, export_of, exported_meaning}
use Rattle.check_type_expr.specs.Named.{type_meant, in_module, of_module, named_type}
use Rattle.law_well_formed.specs.Formed.{Holds, fine}
use Rattle.law_well_formed.proofs.Basics.{then_holds, reported_holds, sort_holds, plain_holds}
use Rattle.law_well_formed.specs.Ordered.{is_known}
use Rattle.law_well_formed.specs.FormedOrder.{MeaningOrdered, KnownOrdered, NamesOrdered, BlocksOrdered, ExportsOrdered, TablesOrdered, ScopeOrdered}

-- ---- what is found

module _ (types : Types) where
  abbrev OptionOrdered : Option Meaning → Type 0
  OptionOrdered None = Unit {0}
  OptionOrdered (Some m) = MeaningOrdered types m

  exports_by : (b : Bool) (m : Meaning) (o : Option Meaning) → MeaningOrdered types m → OptionOrdered o
      → OptionOrdered (cond b (Some m) o)
  exports_by true m o p q = p
  exports_by false m o p q = q

  export_found : (name : List ℕ) (es : List (List ℕ × Meaning)) → ExportsOrdered types es
      → OptionOrdered (find_name name es)
  export_found name [] h = tt
  export_found name (e ∷ es) h = exports_by (same_name name e.0) e.1 (find_name name es) h.0 (export_found name es h.1)

  table_found : (name : List ℕ) (ts : List Table) (k : ℕ) → TablesOrdered types ts
      → OptionOrdered (exported_by name (slice_get ts k))
  table_found name [] k h = tt
  table_found name (t ∷ ts) zero h = export_found name t.exported h.0
  table_found name (t ∷ ts) (suc k) h = table_found name ts k h.1

  abbrev SightOrdered : {T : Type 0} → Sight T → Type 0
  SightOrdered None = Unit {0}
  SightOrdered (Some k) = KnownOrdered types k.0

  abbrev pub FoundOrdered : {T : Type 0} → Option (Known T) → Type 0
  FoundOrdered None = Unit {0}
  FoundOrdered (Some k) = KnownOrdered types k

  found_by : {T : Type 0} (b : Bool) (k : Known T) (o : Option (Known T)) → KnownOrdered types k → FoundOrdered o
      → FoundOrdered (cond b (Some k) o)
  found_by true k o p q = p
  found_by false k o p q = q

  pub name_found : {T : Type 0} (name : List ℕ) (es : List (List ℕ × Known T)) → NamesOrdered types es
      → FoundOrdered (find_name name es)
  name_found name [] h = tt
  name_found name (e ∷ es) h = found_by (same_name name e.0) e.1 (find_name name es) h.0 (name_found name es h.1)

  place_seen : {T : Type 0} (b : Bool) (es : List (List ℕ × Known T)) (p : ℕ) → NamesOrdered types es
      → SightOrdered (option_map {U = _ × Bool} (λ (e : List ℕ × Known T). (e.1, b)) (slice_get es p))
  place_seen b [] p h = tt
  place_seen b (e ∷ es) zero h = h.0
  place_seen b (e ∷ es) (suc p) h = place_seen b es p h.1

  seen_ordered : {T : Type 0} (seen : ℕ) (es : List (List ℕ × Known T)) (o : Option ℕ) → NamesOrdered types es
      → SightOrdered (seen_at seen es o)
  seen_ordered seen es None h = tt
  seen_ordered seen es (Some p) h = place_seen (nat_lt p seen) es p h

  nearer_ordered : {T : Type 0} (near far : Sight T) → SightOrdered near → SightOrdered far
      → SightOrdered (or_outside near far)
  nearer_ordered None far p q = q
  nearer_ordered (Some k) far p q = p

  outside_ordered : {T : Type 0} (name : List ℕ) (bs : List (Block T)) (far : Sight T) → BlocksOrdered types bs
      → SightOrdered far → SightOrdered (fold (nearer name) far bs)
  outside_ordered name [] far h p = p
  outside_ordered name (b ∷ bs) far h p =
      outside_ordered name bs (nearer name far b) h.1
      (nearer_ordered (in_block name b) far (seen_ordered b.seen b.names (place_of name b.names) h.0) p)

  around_ordered : {T : Type 0} (o : Option (Known T)) (far : Sight T) → FoundOrdered o → SightOrdered far
      → SightOrdered (or_around o far)
  around_ordered None far p q = q
  around_ordered (Some k) far p q = p

module _ (g : Gathers) where
  exported_ordered : (types : Types) (at : Pos) (o : Option Meaning) → OptionOrdered types o
      → Holds (MeaningOrdered types) (export_of g at o)
  exported_ordered types at None p = reported_holds g at rule.NotExported
  exported_ordered types at (Some m) p = fine m p

  pub member_ordered : (types : Types) (ts : List Table) (k : ℕ) (name : Ident) → TablesOrdered types ts
      → Holds (MeaningOrdered types) (exported_meaning g ts k name)
  member_ordered types ts k name h = exported_ordered types name.pos (exported_by name.name (slice_get ts k))
      (table_found types name.name ts k h)

  means_by : (types : Types) (at : Pos) (b : Bool) (r : Result Meaning g.Reported) → Holds (MeaningOrdered types) r
      → Holds (MeaningOrdered types) (cond b r (report g at rule.Undeclared))
  means_by types at true r p = p
  means_by types at false r p = reported_holds g at rule.Undeclared

  means_ordered : (types : Types) (at : Pos) (k : Known g.Reported) (b : Bool) → KnownOrdered types k
      → Holds (MeaningOrdered types) (means_seen g at k b)
  means_ordered types at Later b p = plain_holds (reported_holds g at rule.Undeclared)
  means_ordered types at Ahead b p = fine meaning.Ahead tt
  means_ordered types at Begun b p = plain_holds (reported_holds g at rule.Undeclared)
  means_ordered types at (Headed r) b p = p
  means_ordered types at (Declared o r) b p = plain_holds (means_by types at b r p)

  sight_means : (types : Types) (at : Pos) (o : Sight g.Reported) → SightOrdered types o
      → Holds (MeaningOrdered types) (means_as g at o)
  sight_means types at None p = plain_holds (reported_holds g at rule.Undeclared)
  sight_means types at (Some k) p = means_ordered types at k.0 k.1 p

  or_field : {T : Type 0} (types : Types) (o : Option OpenedField) (r : Result Meaning T)
      → Holds (MeaningOrdered types) r → Holds (MeaningOrdered types) (means_or o r)
  or_field types (Some f) r p = fine (meaning.Field f) tt
  or_field types None r p = p

  pub looked_ordered : (base : Types) (s : Scope g.Reported) → ScopeOrdered base s → (name : Ident)
      → Holds (MeaningOrdered s.types) (looked_up g s name)
  looked_ordered base s h name =
      or_field s.types (open_field s.types name.name s.withs) (means_as g name.pos (sight_of name.name s))
      (sight_means s.types name.pos (sight_of name.name s)
      (around_ordered s.types (find_name name.name s.own) (known_outside name.name s.outer)
      (name_found s.types name.name s.own h.names) (outside_ordered s.types name.name s.outer None h.outer tt)))

  -- ---- names of types

  type_ordered : (types : Types) (at : Pos) (m : Meaning) → MeaningOrdered types m
      → Holds (λ t. is_known types t ≡ true) (type_meant g at m)
  type_ordered types at (meaning.Type t n) p = fine t p
  type_ordered types at (meaning.Constant v) p = reported_holds g at rule.NoType
  type_ordered types at (meaning.Variable v) p = reported_holds g at rule.NoType
  type_ordered types at (meaning.Local v) p = reported_holds g at rule.NoType
  type_ordered types at (meaning.Field f) p = reported_holds g at rule.NoType
  type_ordered types at (meaning.Procedure q) p = reported_holds g at rule.NoType
  type_ordered types at (meaning.LocalProcedure q) p = reported_holds g at rule.NoType
  type_ordered types at meaning.Ahead p = reported_holds g at rule.NoType
  type_ordered types at (meaning.Standard f) p = reported_holds g at rule.NoType
  type_ordered types at (meaning.Module k) p = reported_holds g at rule.NoType

  in_module_ordered : (s : Scope g.Reported) (at : Pos) (name : Ident) (m : Meaning) → TablesOrdered s.types s.tables
      → Holds (λ t. is_known s.types t ≡ true) (in_module g s at name m)
  in_module_ordered s at name (meaning.Module k) h =
      then_holds (member_ordered s.types s.tables k name h) (λ m p. type_ordered s.types at m p)
  in_module_ordered s at name (meaning.Type t n) h = reported_holds g at rule.NoType
  in_module_ordered s at name (meaning.Constant v) h = reported_holds g at rule.NoType
  in_module_ordered s at name (meaning.Variable v) h = reported_holds g at rule.NoType
  in_module_ordered s at name (meaning.Local v) h = reported_holds g at rule.NoType
  in_module_ordered s at name (meaning.Field f) h = reported_holds g at rule.NoType
  in_module_ordered s at name (meaning.Procedure q) h = reported_holds g at rule.NoType
  in_module_ordered s at name (meaning.LocalProcedure q) h = reported_holds g at rule.NoType
  in_module_ordered s at name meaning.Ahead h = reported_holds g at rule.NoType
  in_module_ordered s at name (meaning.Standard f) h = reported_holds g at rule.NoType

  of_module_ordered : (base : Types) (s : Scope g.Reported) → ScopeOrdered base s → (o : Option Ident) (name : Ident)
      → Holds (λ t. is_known s.types t ≡ true) (of_module g s o name)
  of_module_ordered base s h None name = then_holds (sort_holds g name.pos rule.NoType (looked_ordered base s h name))
      (λ m p. type_ordered s.types name.pos m p)
  of_module_ordered base s h (Some home) name =
      then_holds (sort_holds g home.pos rule.NoType (looked_ordered base s h home))
      (λ m p. in_module_ordered s home.pos name m h.tables)

  pub named_ordered : (base : Types) (s : Scope g.Reported) → ScopeOrdered base s → (q : Qualified)
      → Holds (λ t. is_known s.types t ≡ true) (named_type g s q)
  named_ordered base s h q = of_module_ordered base s h q.module q.name

-- ---- one name more

names_by : {T : Type 0} (types : Types) (b : Bool) (k : Known T) (e : List ℕ × Known T)
    (es more : List (List ℕ × Known T)) → KnownOrdered types k → NamesOrdered types (e ∷ es) → NamesOrdered types more
    → NamesOrdered types (cond b ((e.0, k) ∷ es) (e ∷ more))
names_by types true k e es more p all q = (p, all.1)
names_by types false k e es more p all q = (all.0, q)

pub names_more : {T : Type 0} (types : Types) (name : List ℕ) (k : Known T) (es : List (List ℕ × Known T))
    → KnownOrdered types k → NamesOrdered types es → NamesOrdered types (enter_name name k es)
names_more types name k [] p all = (p, tt)
names_more types name k (e ∷ es) p all =
    names_by types (same_name name e.0) k e es (enter_name name k es) p all (names_more types name k es p all.1)

pub known_ordered : {T : Type 0} (base : Types) (s : Scope T) (name : List ℕ) (k : Known T) → ScopeOrdered base s
    → KnownOrdered s.types k → ScopeOrdered base (with_known name k s)
known_ordered base s name k h p = record {
  started = h.started;
  types = h.types;
  once = h.once;
  names =
      names_more s.types name k s.own p h.names;
  outer = h.outer;
  tables = h.tables;
  variables = h.variables;
}

module _ (g : Gathers) where
  -- what is asked of a scope holds of it with one name more
  unless_by : (P : Scope g.Reported → Type 0) (s : Scope g.Reported) (name : Ident) (b : Bool) (k : Known g.Reported)
      → P s → P (with_known name.name k s) →
      P (cond {A = State (Unit {0}) g.Reported} b (with_known name.name k s, Ok tt)
      (s, report g name.pos rule.DeclaredTwice)).0
  unless_by P s name true k h p = p
  unless_by P s name false k h p = h

  pub unless_as : (P : Scope g.Reported → Type 0) (s : Scope g.Reported) (name : Ident) (k : Known g.Reported) → P s
      → P (with_known name.name k s) → P (unless_declared g s name k).0
  unless_as P s name k h p = unless_by P s name (is_free (find_name name.name s.own)) k h p

  pub unless_ordered : (base : Types) (s : Scope g.Reported) (name : Ident) (k : Known g.Reported) → ScopeOrdered base s
      → KnownOrdered s.types k → ScopeOrdered base (unless_declared g s name k).0
  unless_ordered base s name k h p = unless_as (λ x. ScopeOrdered base x) s name k h
      (known_ordered base s name.name k h p)

as_by : {T : Type 0} (P : Scope T → Type 0) (s now : Scope T) (b : Bool) → P s → P now → P (cond b now s)
as_by P s now true h p = p
as_by P s now false h p = h

pub finished_as : {T : Type 0} (P : Scope T → Type 0) (s : Scope T) (name : Ident) (r : Result Meaning T) → P s
    → P (with_known name.name (Declared Here r) s) → P (finish_name s name r)
finished_as P s name r h p = as_by P s (with_known name.name (Declared Here r) s) (is_begun (find_name name.name s.own))
    h p

finished_by : {T : Type 0} (base : Types) (s : Scope T) (name : List ℕ) (k : Known T) (b : Bool) → ScopeOrdered base s
    → KnownOrdered s.types k → ScopeOrdered base (cond b (with_known name k s) s)
finished_by base s name k true h p = known_ordered base s name k h p
finished_by base s name k false h p = h

pub finished_ordered : {T : Type 0} (base : Types) (s : Scope T) (name : Ident) (r : Result Meaning T)
    → ScopeOrdered base s → Holds (MeaningOrdered s.types) r → ScopeOrdered base (finish_name s name r)
finished_ordered base s name r h p = finished_by base s name.name (Declared Here r)
    (is_begun (find_name name.name s.own)) h p

marked_by : {T : Type 0} (base : Types) (s : Scope T) (name : List ℕ) (k : Known T) (o : Option (Known T))
    → ScopeOrdered base s → KnownOrdered s.types k → ScopeOrdered base (unless_marked name k s o)
marked_by base s name k (Some x) h p = h
marked_by base s name k None h p = known_ordered base s name k h p

pub marked_ordered : {T : Type 0} (base : Types) (s : Scope T) (name : Ident) (k : Known T) → ScopeOrdered base s
    → KnownOrdered s.types k → ScopeOrdered base (mark_name name k s)
marked_ordered base s name k h p = marked_by base s name.name k (find_name name.name s.own) h p
