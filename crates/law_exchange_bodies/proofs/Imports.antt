-- The modules that a body stands on, with other numbers of modules.
use Rattle.std.proofs.Common.{◌≡◌, ℕ, cond, List, [], ◌∷◌, ◌++◌, map, fold, Option, Some, None, refl, ap, ◌∙◌, option_map, slice_get}
use Rattle.std.proofs.lemmas.Option.{slice_get-map}
use Rattle.m2_tree.specs.declared.name.Ident.{Ident}
use Rattle.m2_tree.specs.declared.decl.Import.{Import}
use Rattle.m2_tree.specs.Names.{is_console}
use Rattle.typed_tree.specs.declared.types.TypeNo.{TypeNo}
use Rattle.typed_tree.specs.declared.table.Table.{Table}
use Rattle.typed_tree.specs.declared.typed_module.Imported.{Imported}
use Rattle.typed_tree.specs.Names.{find_name}
use Rattle.check_definition.specs.Export.{with_table_if, with_place_if, with_imported, with_imports_of, with_import_of}
use Rattle.check_body.specs.Imports.{with_import_copy, definition_imports, all_imports, imported_as, with_table_of, with_name_of, with_place_of, with_module_of, typed_imports}
use Rattle.def_exchange.specs.Moved.{Exchange, moved_table}
use Rattle.law_exchange_types.specs.Pieces.{moved_pair, same}
use Rattle.law_exchange_types.proofs.Basics.{cond_moves, enter_moves, fold_moves, folds_move}
use Rattle.law_exchange_bodies.specs.Modules.{moved_imported, moved_imports}
use Rattle.law_exchange_bodies.proofs.Pieces.{push_moves}
use Rattle.law_exchange_bodies.proofs.Own.{exported_variables_moves}

module _ (z : Exchange) where
  -- ---- names

  pub with_import_copy_moves : (so : List (List ℕ × ℕ)) (e : List ℕ × ℕ)
      → with_import_copy (moved_imports z so) (moved_pair same z.there e) ≡ moved_imports z (with_import_copy so e)
  with_import_copy_moves so e = enter_moves z.there e.0 e.1 so

  pub definition_imports_moves : (own : Option Table)
      → definition_imports (option_map (moved_table z) own) ≡ moved_imports z (definition_imports own)
  definition_imports_moves None = refl
  definition_imports_moves (Some own) =
      folds_move (moved_imports z) (moved_pair same z.there) with_import_copy with_import_copy with_import_copy_moves []
      own.imports

  pub with_table_if_moves : (so : List (List ℕ × ℕ)) (name : List ℕ) (t : Option Table)
      → with_table_if (moved_imports z so) name (option_map (moved_table z) t)
      ≡ moved_imports z (with_table_if so name t)
  with_table_if_moves so name None = refl
  with_table_if_moves so name (Some t) = enter_moves z.there name t.number so

  pub with_place_if_moves : (tables : List Table) (so : List (List ℕ × ℕ)) (name : List ℕ) (k : Option ℕ)
      → with_place_if (map (moved_table z) tables) (moved_imports z so) name k
      ≡ moved_imports z (with_place_if tables so name k)
  with_place_if_moves tables so name None = refl
  with_place_if_moves tables so name (Some k) =
      ap (with_table_if (moved_imports z so) name) (slice_get-map (moved_table z) tables k)
      ∙ with_table_if_moves so name (slice_get tables k)

  pub with_imported_moves : (modules : List (List ℕ × ℕ)) (tables : List Table) (so : List (List ℕ × ℕ)) (name : Ident)
      → with_imported modules (map (moved_table z) tables) (moved_imports z so) name
      ≡ moved_imports z (with_imported modules tables so name)
  with_imported_moves modules tables so name =
      with_place_if_moves tables so name.name (find_name name.name modules)

  pub with_imports_of_moves : (modules : List (List ℕ × ℕ)) (tables : List Table) (so : List (List ℕ × ℕ))
      (from : Option Ident) (names : List Ident)
      → with_imports_of modules (map (moved_table z) tables) (moved_imports z so) from names
      ≡ moved_imports z (with_imports_of modules tables so from names)
  with_imports_of_moves modules tables so None names =
      fold_moves (moved_imports z) (with_imported modules tables) (with_imported modules (map (moved_table z) tables))
      (with_imported_moves modules tables) so names
  with_imports_of_moves modules tables so (Some m) names = with_imported_moves modules tables so m

  pub with_import_of_moves : (modules : List (List ℕ × ℕ)) (tables : List Table) (so : List (List ℕ × ℕ)) (i : Import)
      → with_import_of modules (map (moved_table z) tables) (moved_imports z so) i
      ≡ moved_imports z (with_import_of modules tables so i)
  with_import_of_moves modules tables so i = with_imports_of_moves modules tables so i.from i.names

  pub all_imports_moves : (modules : List (List ℕ × ℕ)) (tables : List Table) (own : Option Table) (is : List Import)
      → all_imports modules (map (moved_table z) tables) (option_map (moved_table z) own) is
      ≡ moved_imports z (all_imports modules tables own is)
  all_imports_moves modules tables own is =
      ap (λ (so : List (List ℕ × ℕ)). fold (with_import_of modules (map (moved_table z) tables)) so is)
      (definition_imports_moves own)
      ∙ fold_moves (moved_imports z) (with_import_of modules tables)
      (with_import_of modules (map (moved_table z) tables))
      (with_import_of_moves modules tables) (definition_imports own) is

  -- ---- their variables

  pub imported_as_moves : (t : Table) → imported_as (moved_table z t) ≡ moved_imported z (imported_as t)
  imported_as_moves t =
      ap (λ (vs : List TypeNo). record { name = t.name; number = z.there t.number; variables = vs })
      (exported_variables_moves z t.exported)

  pub with_table_of_moves : (so : List Imported) (t : Option Table)
      → with_table_of (map (moved_imported z) so) (option_map (moved_table z) t)
      ≡ map (moved_imported z) (with_table_of so t)
  with_table_of_moves so None = refl
  with_table_of_moves so (Some t) =
      ap (cond (is_console t.name) (map (moved_imported z) so))
      (ap (λ (i : Imported). map (moved_imported z) so ++ i ∷ []) (imported_as_moves t)
      ∙ push_moves (moved_imported z) so (imported_as t))
      ∙ cond_moves (map (moved_imported z)) (is_console t.name) so (so ++ imported_as t ∷ [])

  pub with_name_of_moves : (so : List Imported) (e : List ℕ × ℕ)
      → with_name_of (map (moved_imported z) so) (moved_pair same z.there e)
      ≡ map (moved_imported z) (with_name_of so e)
  with_name_of_moves so e =
      let i : Imported = record { name = e.0; number = e.1; variables = [] } in
      ap (cond (is_console e.0) (map (moved_imported z) so)) (push_moves (moved_imported z) so i)
      ∙ cond_moves (map (moved_imported z)) (is_console e.0) so (so ++ i ∷ [])

  pub with_place_of_moves : (tables : List Table) (so : List Imported) (e : List ℕ × ℕ) (k : Option ℕ)
      → with_place_of (map (moved_table z) tables) (map (moved_imported z) so) (moved_pair same z.there e) k
      ≡ map (moved_imported z) (with_place_of tables so e k)
  with_place_of_moves tables so e None = with_name_of_moves so e
  with_place_of_moves tables so e (Some k) =
      ap (with_table_of (map (moved_imported z) so)) (slice_get-map (moved_table z) tables k)
      ∙ with_table_of_moves so (slice_get tables k)

  pub with_module_of_moves : (modules : List (List ℕ × ℕ)) (tables : List Table) (so : List Imported) (e : List ℕ × ℕ)
      → with_module_of modules (map (moved_table z) tables) (map (moved_imported z) so) (moved_pair same z.there e)
      ≡ map (moved_imported z) (with_module_of modules tables so e)
  with_module_of_moves modules tables so e = with_place_of_moves tables so e (find_name e.0 modules)

  pub typed_imports_moves : (modules : List (List ℕ × ℕ)) (tables : List Table) (names : List (List ℕ × ℕ))
      → typed_imports modules (map (moved_table z) tables) (moved_imports z names)
      ≡ map (moved_imported z) (typed_imports modules tables names)
  typed_imports_moves modules tables names =
      folds_move (map (moved_imported z)) (moved_pair same z.there) (with_module_of modules tables)
      (with_module_of modules (map (moved_table z) tables)) (with_module_of_moves modules tables) [] names
