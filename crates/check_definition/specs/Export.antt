-- What a definition exports, and the modules that it imports.
use Rattle.std.specs.Prelude.{ℕ, List, [], ◌∷◌, ◌++◌, Option, Some, None, Result, Ok, Err, slice_get}
use Rattle.std.specs.List.{fold}
use Rattle.m2_tree.specs.declared.name.Ident.{Ident}
use Rattle.m2_tree.specs.declared.decl.Import.{Import}
use Rattle.typed_tree.specs.declared.shape.Made.{Made}
use Rattle.typed_tree.specs.declared.meaning.Meaning.{Meaning}
use Rattle.typed_tree.specs.declared.table.ModuleTypes.{ModuleTypes}
use Rattle.typed_tree.specs.declared.table.Table.{Table}
use Rattle.typed_tree.specs.Names.{find_name, enter_name}
use Rattle.check_scope.specs.declared.known.Origin.{Origin}
use Rattle.check_scope.specs.declared.known.Origin.TheVariants.{Here, Module, Export}
use Rattle.check_scope.specs.declared.known.Known.{Known}
use Rattle.check_scope.specs.declared.known.Known.TheVariants.{Later, Ahead, Begun, Headed, Declared}
use Rattle.typed_tree.specs.declared.known_types.Types.{Types}

-- ---- exports: what the block declares, in order

abbrev pub with_meaning : {T : Type 0} → List (List ℕ × Meaning) → List ℕ → Result Meaning T
    → List (List ℕ × Meaning)
with_meaning so name (Ok m) = enter_name name m so
with_meaning so name (Err e) = so

abbrev pub with_declared : {T : Type 0} → List (List ℕ × Meaning) → List ℕ → Origin
    → Result Meaning T → List (List ℕ × Meaning)
with_declared so name Here m = with_meaning so name m
with_declared so name (Module k) m = so
with_declared so name (Export k) m = so

abbrev pub with_known : {T : Type 0} → List (List ℕ × Meaning) → List ℕ → Known T
    → List (List ℕ × Meaning)
with_known so name Later = so
with_known so name Ahead = so
with_known so name Begun = so
with_known so name (Headed m) = with_meaning so name m
with_known so name (Declared o m) = with_declared so name o m

abbrev pub with_export : {T : Type 0} → List (List ℕ × Meaning) → List ℕ × Known T
    → List (List ℕ × Meaning)
with_export so e = with_known so e.0 e.1

abbrev pub exports : {T : Type 0} → List (List ℕ × Known T) → List (List ℕ × Meaning)
exports own = fold with_export [] own

-- ---- types that are met, each module behind those whose types it names

abbrev pub with_types : List ModuleTypes → ℕ × List Made → List ModuleTypes
with_types so e = so ++ record { number = e.0; made = e.1 } ∷ []

abbrev pub own_types : ℕ → List Made → List ModuleTypes
own_types home [] = []
own_types home (m ∷ ms) = record { number = home; made = m ∷ ms } ∷ []

abbrev pub reached_of : Types → List ModuleTypes
reached_of types = fold with_types [] types.others ++ own_types types.home types.own

-- ---- modules that are imported, in order, each once

abbrev pub with_table_if : List (List ℕ × ℕ) → List ℕ → Option Table → List (List ℕ × ℕ)
with_table_if so name None = so
with_table_if so name (Some t) = enter_name name t.number so

abbrev pub with_place_if : List Table → List (List ℕ × ℕ) → List ℕ → Option ℕ → List (List ℕ × ℕ)
with_place_if tables so name None = so
with_place_if tables so name (Some k) = with_table_if so name (slice_get tables k)

abbrev pub with_imported : List (List ℕ × ℕ) → List Table → List (List ℕ × ℕ) → Ident
    → List (List ℕ × ℕ)
with_imported modules tables so name =
    with_place_if tables so name.name (find_name name.name modules)

abbrev pub with_imports_of : List (List ℕ × ℕ) → List Table → List (List ℕ × ℕ) → Option Ident
    → List Ident → List (List ℕ × ℕ)
with_imports_of modules tables so None names = fold (with_imported modules tables) so names
with_imports_of modules tables so (Some m) names = with_imported modules tables so m

abbrev pub with_import_of : List (List ℕ × ℕ) → List Table → List (List ℕ × ℕ) → Import
    → List (List ℕ × ℕ)
with_import_of modules tables so i = with_imports_of modules tables so i.from i.names

abbrev pub imported_modules : List (List ℕ × ℕ) → List Table → List Import → List (List ℕ × ℕ)
imported_modules modules tables is = fold (with_import_of modules tables) [] is
