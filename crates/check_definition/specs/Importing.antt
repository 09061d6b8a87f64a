-- Imports.
use Rattle.std.specs.Prelude.{ℕ, ◌+◌, not, cond, List, [], take, drop, Option, Some, None, Result, Ok, Err, slice_get}
use Rattle.std.specs.List.{fold}
use Rattle.std.specs.Option.{is_some}
use Rattle.m2_rule.specs.declared.rule.Rule.TheVariants as rule
use Rattle.m2_tree.specs.declared.pos.Pos.{Pos}
use Rattle.m2_tree.specs.declared.name.Ident.{Ident}
use Rattle.m2_tree.specs.declared.decl.Import.{Import}
use Rattle.typed_tree.specs.declared.meaning.Meaning.{Meaning}
use Rattle.typed_tree.specs.declared.meaning.Meaning.TheVariants as meaning
use Rattle.typed_tree.specs.declared.table.Table.{Table}
use Rattle.typed_tree.specs.Names.{find_name, place_of, enter_name}
use Rattle.check_scope.specs.declared.known.Origin.TheVariants.{Module, Export}
use Rattle.check_scope.specs.declared.known.Known.{Known}
use Rattle.check_scope.specs.declared.known.Known.TheVariants.{Later, Ahead, Begun, Headed, Declared}
use Rattle.check_scope.specs.declared.scope.Scope.{Scope}
use Rattle.check_scope.specs.Scopes.{State, is_one_origin, import_name}
use Rattle.check_scope.specs.Elaborated.{Gathers, report, reported_where, beside}

-- ---- modules by name: the first of a name counts

abbrev pub with_place : List ℕ → ℕ → List (List ℕ × ℕ) → List (List ℕ × ℕ)
with_place name k ms = cond (is_some (find_name name ms)) ms (enter_name name k ms)

abbrev pub with_numbered : List (List ℕ × ℕ) × ℕ → Table → List (List ℕ × ℕ) × ℕ
with_numbered st t = (with_place t.name st.1 st.0, st.1 + 1)

abbrev pub numbered_modules : List Table → List (List ℕ × ℕ) × ℕ
numbered_modules tables = fold with_numbered ([], 0) tables

abbrev pub module_found : (g : Gathers) → Pos → Option ℕ → Result ℕ g.Reported
module_found g at None = report g at rule.MissingModule
module_found g at (Some k) = Ok k

abbrev pub module_named : (g : Gathers) → List (List ℕ × ℕ) → Ident → Result ℕ g.Reported
module_named g modules name = module_found g name.pos (find_name name.name modules)

-- ---- IMPORT M

abbrev pub with_module_as : (g : Gathers) → Scope g.Reported → Ident → Result ℕ g.Reported
    → State (Unit {0}) g.Reported
with_module_as g s name (Ok k) =
    import_name g s name.pos name.name (Module k) (Ok (meaning.Module k))
with_module_as g s name (Err e) = (s, Err e)

abbrev pub with_module_name : (g : Gathers) → List (List ℕ × ℕ) → State (Unit {0}) g.Reported
    → Ident → State (Unit {0}) g.Reported
with_module_name g modules st name =
    let one = with_module_as g st.0 name (module_named g modules name) in
    (one.0, beside g st.1 one.1)

-- ---- FROM M IMPORT x

abbrev pub with_entry : (g : Gathers) → Pos → ℕ → State (Unit {0}) g.Reported → List ℕ × Meaning
    → State (Unit {0}) g.Reported
with_entry g at k st e =
    let one = import_name g st.0 at e.0 (Export k) (Ok e.1) in (one.0, beside g st.1 one.1)

-- how many names come with a name: the constants of an enumeration follow it in the table
abbrev pub brings_of : Meaning → ℕ
brings_of (meaning.Type t n) = n
brings_of (meaning.Constant v) = 1
brings_of (meaning.Variable v) = 1
brings_of (meaning.Local v) = 1
brings_of (meaning.Field f) = 1
brings_of (meaning.Procedure p) = 1
brings_of (meaning.LocalProcedure p) = 1
brings_of meaning.Ahead = 1
brings_of (meaning.Standard f) = 1
brings_of (meaning.Module k) = 1

abbrev pub brings_in : Option (List ℕ × Meaning) → ℕ
brings_in None = 0
brings_in (Some e) = brings_of e.1

-- what is reported of a name that is taken, if it is; it brings nothing more
abbrev pub reported_of_taken : (g : Gathers) → Pos → ℕ → Option (Known g.Reported)
    → Option (Result (Unit {0}) g.Reported)
reported_of_taken g at k None = None
reported_of_taken g at k (Some Later) = None
reported_of_taken g at k (Some Ahead) = None
reported_of_taken g at k (Some Begun) = Some (report g at rule.DeclaredTwice)
reported_of_taken g at k (Some (Headed m)) = Some (report g at rule.DeclaredTwice)
reported_of_taken g at k (Some (Declared o m)) =
    Some (reported_where g (not (is_one_origin o (Export k))) at rule.DeclaredTwice (Ok tt))

-- a name with those that come with it
abbrev pub unless_taken : (g : Gathers) → Scope g.Reported → Pos → ℕ → List (List ℕ × Meaning) → ℕ
    → Option (Result (Unit {0}) g.Reported) → State (Unit {0}) g.Reported
unless_taken g s at k es i (Some j) = (s, j)
unless_taken g s at k es i None =
    fold (with_entry g at k) (s, Ok tt) (take (brings_in (slice_get es i)) (drop i es))

abbrev pub from_place : (g : Gathers) → Scope g.Reported → Ident → ℕ → List (List ℕ × Meaning)
    → Option ℕ → State (Unit {0}) g.Reported
from_place g s name k es None = (s, report g name.pos rule.NotExported)
from_place g s name k es (Some i) =
    unless_taken g s name.pos k es i (reported_of_taken g name.pos k (find_name name.name s.own))

abbrev pub with_from : (g : Gathers) → ℕ → List (List ℕ × Meaning) → State (Unit {0}) g.Reported
    → Ident → State (Unit {0}) g.Reported
with_from g k es st name =
    let one = from_place g st.0 name k es (place_of name.name es) in (one.0, beside g st.1 one.1)

abbrev pub exports_of : Option Table → List (List ℕ × Meaning)
exports_of None = []
exports_of (Some t) = t.exported

abbrev pub from_module : (g : Gathers) → Result ℕ g.Reported → State (Unit {0}) g.Reported
    → List Ident → State (Unit {0}) g.Reported
from_module g (Ok k) st names = fold (with_from g k (exports_of (slice_get st.0.tables k))) st names
from_module g (Err e) st names = (st.0, beside g st.1 (Err e))

abbrev pub with_imports : (g : Gathers) → List (List ℕ × ℕ) → State (Unit {0}) g.Reported
    → Option Ident → List Ident → State (Unit {0}) g.Reported
with_imports g modules st None names = fold (with_module_name g modules) st names
with_imports g modules st (Some m) names = from_module g (module_named g modules m) st names

abbrev pub with_import : (g : Gathers) → List (List ℕ × ℕ) → State (Unit {0}) g.Reported → Import
    → State (Unit {0}) g.Reported
with_import g modules st i = with_imports g modules st i.from i.names
