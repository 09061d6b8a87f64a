-- What becomes of a module moves with the numbers of modules.
use Rattle.std.proofs.Common.{◌≡◌, ℕ, Bool, true, false, cond, ◌&&◌, List, [], ◌∷◌, ◌++◌, map, drop, Option, Some, None, Result, Ok, Err, refl, sym, ap, ap₂, ◌∙◌}
use Rattle.std.specs.List.{list_all}
use Rattle.std.specs.Option.{option_map}
use Rattle.std.proofs.lemmas.List.{map-append}
use Rattle.m2_tree.specs.declared.pos.Pos.{Pos}
use Rattle.m2_tree.specs.declared.decl.Contents.{Contents}
use Rattle.m2_tree.specs.declared.decl.Contents.TheVariants as contents
use Rattle.m2_tree.specs.declared.decl.Module.{Module}
use Rattle.m2_tree.specs.Names.{same_name}
use Rattle.m2_rule.specs.declared.breach.Breach.{Breach}
use Rattle.typed_tree.specs.declared.table.Table.{Table}
use Rattle.typed_tree.specs.declared.typed_module.TypedModule.{TypedModule}
use Rattle.check_scope.specs.Elaborated.{least}
use Rattle.check_definition.specs.Compiled.{definition_table}
use Rattle.check_body.specs.Checks.{body_module}
use Rattle.layout_storage.specs.Layouts.{too_large}
use Rattle.m2_emit.specs.Emitted.{emitted}
use Rattle.build_jobs.specs.declared.outcome.Compiled.{Compiled}
use Rattle.build_jobs.specs.declared.outcome.Compiled.TheVariants.{Defined, Built, Refused, Blocked}
use Rattle.build_jobs.specs.Own.{own_table, tables_behind}
use Rattle.build_jobs.specs.Compiling.{is_sound, table_in, tables_of, of_definition, typed_body, of_fit, of_checked, of_contents, compilation_of}
use Rattle.def_exchange.specs.Moved.{Exchange, moved_table}
use Rattle.law_exchange_types.specs.Pieces.{map_ok}
use Rattle.law_exchange_bodies.specs.Modules.{moved_module}
use Rattle.law_exchange_types.proofs.Defs.{definitions_move}
use Rattle.law_exchange_bodies.proofs.Whole.{bodies_move}
use Rattle.law_exchange_code.proofs.Emitting.{emitted_kept}
use Rattle.law_exchange_code.proofs.Stored.{too_large_kept}
use Rattle.law_exchange_jobs.specs.Sharing.{moved_compiled, MovesWithNumbers}

module _ (x : Exchange)
    (definitions : (number : ℕ) (m : Module) (tables : List Table)
    → definition_table least (x.there number) m (map (moved_table x) tables)
    ≡ map_ok (moved_table x) (definition_table least number m tables))
    (bodies : (number : ℕ) (m : Module) (own : Option Table) (tables : List Table)
    → body_module least (x.there number) m (option_map (moved_table x) own) (map (moved_table x) tables)
    ≡ map_ok (moved_module x) (body_module least number m own tables))
    (code : (t : TypedModule) → emitted (moved_module x t) ≡ emitted t)
    (storage : (t : TypedModule) → too_large (moved_module x t) ≡ too_large t) where
  -- ---- what a module needs

  sound_moved : (c : Compiled) → is_sound (moved_compiled x c) ≡ is_sound c
  sound_moved (Defined t) = refl
  sound_moved (Built b) = refl
  sound_moved (Refused f) = refl
  sound_moved Blocked = refl

  all_sound : (cs : List Compiled) → list_all is_sound (map (moved_compiled x) cs) ≡ list_all is_sound cs
  all_sound [] = refl
  all_sound (c ∷ cs) = ap₂ (λ (a b : Bool). a && b) (sound_moved c) (all_sound cs)

  table_moved : (c : Compiled) → table_in (moved_compiled x c) ≡ map (moved_table x) (table_in c)
  table_moved (Defined t) = refl
  table_moved (Built b) = refl
  table_moved (Refused f) = refl
  table_moved Blocked = refl

  tables_moved : (cs : List Compiled) → tables_of (map (moved_compiled x) cs) ≡ map (moved_table x) (tables_of cs)
  tables_moved [] = refl
  tables_moved (c ∷ cs) =
      ap₂ (λ (a b : List Table). a ++ b) (table_moved c) (tables_moved cs)
      ∙ sym (map-append (moved_table x) (table_in c) (tables_of cs))

  own_moved : (m : Module) (ts : List Table)
      → own_table m (map (moved_table x) ts) ≡ option_map (moved_table x) (own_table m ts)
  own_moved m [] = refl
  own_moved m (t ∷ ts) = by (same_name t.name m.name.name)
    where
      by : (b : Bool) → cond b (Some (moved_table x t)) None ≡ option_map (moved_table x) (cond b (Some t) None)
      by true = refl
      by false = refl

  behind_moved : (own : Option Table) (ts : List Table)
      → tables_behind (option_map (moved_table x) own) (map (moved_table x) ts)
      ≡ map (moved_table x) (tables_behind own ts)
  behind_moved None ts = refl
  behind_moved (Some own) [] = refl
  behind_moved (Some own) (t ∷ ts) = refl

  -- ---- what becomes of it

  typed_moved : (m : Module) (number : ℕ) (ts : List Table)
      → typed_body m (x.there number) (map (moved_table x) ts) ≡ map_ok (moved_module x) (typed_body m number ts)
  typed_moved m number ts =
      let own = own_table m ts in
      ap (λ (o : Option Table). body_module least (x.there number) m o (tables_behind o (map (moved_table x) ts)))
      (own_moved m ts)
      ∙ ap (body_module least (x.there number) m (option_map (moved_table x) own)) (behind_moved own ts)
      ∙ bodies number m own (tables_behind own ts)

  fit_moved : (t : TypedModule) (at : Option Pos) → of_fit (moved_module x t) at ≡ moved_compiled x (of_fit t at)
  fit_moved t None = ap Built (code t)
  fit_moved t (Some at) = refl

  checked_moved : (r : Result TypedModule Breach)
      → of_checked (map_ok (moved_module x) r) ≡ moved_compiled x (of_checked r)
  checked_moved (Ok t) = ap (of_fit (moved_module x t)) (storage t) ∙ fit_moved t (too_large t)
  checked_moved (Err f) = refl

  defined_moved : (r : Result Table Breach)
      → of_definition (map_ok (moved_table x) r) ≡ moved_compiled x (of_definition r)
  defined_moved (Ok t) = refl
  defined_moved (Err f) = refl

  contents_moved : (m : Module) (number : ℕ) (ts : List Table) (c : Contents)
      → of_contents m (x.there number) (map (moved_table x) ts) c ≡ moved_compiled x (of_contents m number ts c)
  contents_moved m number ts (contents.Definition defs) =
      ap of_definition (definitions number m ts) ∙ defined_moved (definition_table least number m ts)
  contents_moved m number ts (contents.Implementation b) =
      ap of_checked (typed_moved m number ts) ∙ checked_moved (typed_body m number ts)
  contents_moved m number ts (contents.Program b) =
      ap of_checked (typed_moved m number ts) ∙ checked_moved (typed_body m number ts)

  pub compilation_moved : (m : Module) (number : ℕ) (needed : List Compiled)
      → compilation_of m (x.there number) (map (moved_compiled x) needed)
      ≡ moved_compiled x (compilation_of m number needed)
  unfolding compilation_of
  compilation_moved m number needed =
      ap₂ (λ (b : Bool) (ts : List Table). cond b (of_contents m (x.there number) ts m.contents) Blocked)
      (all_sound needed) (tables_moved needed)
      ∙ by (list_all is_sound needed)
    where
      by : (b : Bool)
          → cond b (of_contents m (x.there number) (map (moved_table x) (tables_of needed)) m.contents) Blocked
          ≡ moved_compiled x (cond b (of_contents m number (tables_of needed) m.contents) Blocked)
      by true = contents_moved m number (tables_of needed) m.contents
      by false = refl

-- It does under each exchange that leaves Console.
pub moves_with_numbers : MovesWithNumbers
moves_with_numbers x console =
    compilation_moved x (definitions_move x console) (bodies_move x least console) (emitted_kept x) (too_large_kept x)
