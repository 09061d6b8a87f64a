-- Types that tables reach.
use Rattle.std.proofs.Common.{ℕ, Bool, true, false, cond, List, [], ◌∷◌, ◌++◌}
use Rattle.std.specs.Prelude.{nat_eq, if◌then◌else◌}
use Rattle.std.specs.List.{fold}
use Rattle.std.specs.Map.{lookup}
use Rattle.std.specs.Option.{is_some}
use Rattle.indexmap.specs.IndexMap.{insert_entry}
use Rattle.typed_tree.specs.declared.known_types.Types.{Types}
use Rattle.typed_tree.specs.declared.shape.Made.{Made}
use Rattle.typed_tree.specs.declared.table.ModuleTypes.{ModuleTypes}
use Rattle.typed_tree.specs.declared.table.Table.{Table}
use Rattle.check_definition.specs.Export.{with_types, own_types, reached_of}
use Rattle.check_definition.specs.Predeclared.{with_reached, with_table, others_of}
use Rattle.law_well_formed.proofs.Basics.{Grows}
use Rattle.law_well_formed.specs.FormedRanges.{first_types}
use Rattle.law_programs.specs.Carried.{AllIndexed, OthersIndexed, TypesIndexed, ReachedIndexed, TablesIndexed}
use Rattle.law_programs.proofs.Carrying.{all_stay}

module _ (types : Types) where
  -- ---- what a table reaches

  reached_more : (ms : List ModuleTypes) (m : ModuleTypes) → ReachedIndexed types ms → AllIndexed types m.made
      → ReachedIndexed types (ms ++ m ∷ [])
  reached_more [] m p q = (q, tt)
  reached_more (x ∷ ms) m p q = (p.0, reached_more ms m p.1 q)

  reached_both : (ms ns : List ModuleTypes) → ReachedIndexed types ms → ReachedIndexed types ns
      → ReachedIndexed types (ms ++ ns)
  reached_both [] ns p q = q
  reached_both (x ∷ ms) ns p q = (p.0, reached_both ms ns p.1 q)

  others_reached : (es : List (ℕ × List Made)) (so : List ModuleTypes) → OthersIndexed types es
      → ReachedIndexed types so → ReachedIndexed types (fold with_types so es)
  others_reached [] so p q = q
  others_reached (e ∷ es) so p q = others_reached es (with_types so e) p.1
      (reached_more so (record { number = e.0; made = e.1 }) q p.0)

  own_reached : (home : ℕ) (ms : List Made) → AllIndexed types ms → ReachedIndexed types (own_types home ms)
  own_reached home [] p = tt
  own_reached home (m ∷ ms) p = (p, tt)

  pub reached_indexed : TypesIndexed types → ReachedIndexed types (reached_of types)
  reached_indexed h = reached_both (fold with_types [] types.others) (own_types types.home types.own)
      (others_reached types.others [] h.others tt) (own_reached types.home types.own h.own)

  -- ---- what a module knows of its tables

  entry_by : (b : Bool) (e : ℕ × List Made) (es rest : List (ℕ × List Made)) (made : List Made)
      → OthersIndexed types (e ∷ es) → AllIndexed types made → OthersIndexed types rest
      → OthersIndexed types (if b then (e.0, made) ∷ es else e ∷ rest)
  entry_by true e es rest made h p r = (p, h.1)
  entry_by false e es rest made h p r = (h.0, r)

  entry_more : (es : List (ℕ × List Made)) (n : ℕ) (made : List Made) → OthersIndexed types es → AllIndexed types made
      → OthersIndexed types (insert_entry nat_eq es n made)
  entry_more [] n made h p = (p, tt)
  entry_more (e ∷ es) n made h p = entry_by (nat_eq n e.0) e es (insert_entry nat_eq es n made) made h p
      (entry_more es n made h.1 p)

  reach_by : (b : Bool) (so more : List (ℕ × List Made)) → OthersIndexed types so → OthersIndexed types more
      → OthersIndexed types (cond b so more)
  reach_by true so more p q = p
  reach_by false so more p q = q

  pub table_reach : (ms : List ModuleTypes) (so : List (ℕ × List Made)) → ReachedIndexed types ms
      → OthersIndexed types so → OthersIndexed types (fold with_reached so ms)
  table_reach [] so p h = h
  table_reach (m ∷ ms) so p h = table_reach ms (with_reached so m) p.1
      (reach_by (is_some (lookup (nat_eq m.number) so)) so (insert_entry nat_eq so m.number m.made) h
      (entry_more so m.number m.made h p.0))

  tables_reach : (ts : List Table) (so : List (ℕ × List Made)) → TablesIndexed types ts → OthersIndexed types so
      → OthersIndexed types (fold with_table so ts)
  tables_reach [] so p h = h
  tables_reach (t ∷ ts) so p h = tables_reach ts (with_table so t) p.1 (table_reach t.reached so p.0 h)

  pub tables_indexed : (ts : List Table) → TablesIndexed types ts → OthersIndexed types (others_of ts)
  tables_indexed ts p = tables_reach ts [] p tt

pub first_indexed : (home : ℕ) (tables : List Table) → TablesIndexed (first_types home tables) tables
    → TypesIndexed (first_types home tables)
first_indexed home tables p = record { own = tt; others = tables_indexed (first_types home tables) tables p }

pub reached_stay : (a b : Types) → Grows a b → (ms : List ModuleTypes) → ReachedIndexed a ms → ReachedIndexed b ms
reached_stay a b grows [] p = tt
reached_stay a b grows (m ∷ ms) p = (all_stay a b grows m.made p.0, reached_stay a b grows ms p.1)
