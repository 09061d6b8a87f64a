-- What those who import a definition, and its own implementation, know of its table.
use Rattle.std.specs.Prelude.{◌≡◌, ℕ, Bool, true, List, [], Option, Some, None, Ok, slice_get}
use Rattle.std.specs.List.{fold}
use Rattle.std.specs.Option.{is_some}
use Rattle.m2_tree.specs.declared.name.Ident.{Ident}
use Rattle.m2_tree.specs.declared.decl.Def.{Def}
use Rattle.m2_tree.specs.declared.decl.Module.{Module}
use Rattle.typed_tree.specs.declared.types.TypeNo.{TypeNo}
use Rattle.typed_tree.specs.declared.meaning.Meaning.{Meaning}
use Rattle.typed_tree.specs.declared.meaning.Meaning.TheVariants as meaning
use Rattle.typed_tree.specs.declared.table.Table.{Table}
use Rattle.typed_tree.specs.Names.{find_name}
use Rattle.check_scope.specs.declared.scope.Scope.{Scope}
use Rattle.check_scope.specs.Elaborated.{Gathers}
use Rattle.check_definition.specs.Compiled.{definition_table}
use Rattle.def_typing.specs.Things.{Standing}
use Rattle.def_typing.specs.Parts.{Among}
pub use Rattle.law_rules.specs.Tables.{IsTableOf, is_answered, CanBeImported, of_console, of_definition}
use Rattle.law_typing.specs.Judging.{Judges}
use Rattle.law_typing.specs.Exact.{Knows, TakenAs, AreOnce}
use Rattle.law_rules.specs.Importing.{AreForeign, with_declared}
use Rattle.law_rules.specs.Defining.{IsDefinitionExact}

-- No table of another module exports a variable of the module itself.
abbrev pub TablesAreForeign : Gathers → Type 0
TablesAreForeign g =
    (s : Scope g.Reported)
    → ((t : Table) → Among t s.tables → CanBeImported g s.types.home t) → AreForeign s

-- the heading that a procedure of the definition awaits
abbrev pub awaits_heading : Option Meaning → Option TypeNo
awaits_heading (Some (meaning.Procedure p)) = Some p.heading
awaits_heading other = None

-- A definition exports each name once. Where its implementation begins, these names are taken, and
-- its procedures await their headings.
abbrev pub OwnNamesAreKnown : (g : Gathers) → Judges g → Type 0
OwnNamesAreKnown g j =
    (number : ℕ) (t : Table) → IsTableOf g number t
    → AreOnce t.exported
    × ((s : Scope g.Reported) → s.own ≡ fold with_declared [] t.exported → (n : List ℕ)
    → TakenAs g j (is_some (find_name n t.exported)) (awaits_heading (find_name n t.exported))
    (find_name n s.own))

-- A name that a definition exports stands for the same behind its declarations, in its own
-- implementation, and in those who import it.
abbrev pub NamesAgree : (g : Gathers) → Judges g → Type 0
NamesAgree g j =
    (home : ℕ) (m : Module) (imported tables : List Table) (exports : ℕ → Ident → Standing)
    (names : Ident → Standing) (taken : List ℕ → Bool) (defs : List Def)
    (d : IsDefinitionExact g j home m imported tables exports names taken defs) (t : Table)
    → definition_table g home m imported ≡ Ok t
    → (x : Ident) → is_some (find_name x.name t.exported) ≡ true
    → (s : Scope g.Reported) (inside : Ident → Standing) (others : ℕ → Ident → Standing)
    → Knows g j inside others s
    → (s.withs ≡ [] → s.own ≡ fold with_declared [] t.exported → inside x ≡ d.last.names x)
    × ((k : ℕ) → slice_get s.tables k ≡ Some t → others k x ≡ d.last.names x)
