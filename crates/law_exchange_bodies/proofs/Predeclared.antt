-- The types that can be met through tables, with other numbers of modules.
use Rattle.std.proofs.Common.{◌≡◌, ℕ, nat_eq, Bool, cond, List, map, ap, ap₂, ◌∙◌}
use Rattle.std.specs.Map.{lookup}
use Rattle.std.specs.Option.{is_some}
use Rattle.indexmap.specs.IndexMap.{insert_entry}
use Rattle.typed_tree.specs.declared.shape.Made.{Made}
use Rattle.typed_tree.specs.declared.table.ModuleTypes.{ModuleTypes}
use Rattle.typed_tree.specs.declared.table.Table.{Table}
use Rattle.check_definition.specs.Predeclared.{with_reached, with_table}
use Rattle.def_exchange.specs.Moved.{Exchange, moved_made, moved_reached, moved_table}
use Rattle.law_exchange_types.proofs.Basics.{cond_moves, folds_move}
use Rattle.law_exchange_bodies.proofs.Pieces.{some_moves, lookup_moves, insert_moves}

module _ (z : Exchange) where
  abbrev pub moved_others : List (ℕ × List Made) → List (ℕ × List Made)
  moved_others os = map (λ o. (z.there o.0, map (moved_made z) o.1)) os

  pub with_reached_moves : (so : List (ℕ × List Made)) (m : ModuleTypes)
      → with_reached (moved_others so) (moved_reached z m) ≡ moved_others (with_reached so m)
  with_reached_moves so m =
      ap₂ (λ (b : Bool) (ts : List (ℕ × List Made)). cond b (moved_others so) ts)
      (ap is_some (lookup_moves z (map (moved_made z)) m.number so)
      ∙ some_moves (map (moved_made z)) (lookup (nat_eq m.number) so))
      (insert_moves z (map (moved_made z)) so m.number m.made)
      ∙ cond_moves moved_others (is_some (lookup (nat_eq m.number) so)) so (insert_entry nat_eq so m.number m.made)

  pub with_table_moves : (so : List (ℕ × List Made)) (t : Table)
      → with_table (moved_others so) (moved_table z t) ≡ moved_others (with_table so t)
  with_table_moves so t =
      folds_move moved_others (moved_reached z) with_reached with_reached with_reached_moves so t.reached
