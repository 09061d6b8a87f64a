-- Routines of check_body, with other numbers of modules.
use Rattle.check_body.specs.Routines.{imports_of, empty_routine, procedure_named, put_routine, no_bodies, typed_module, numbered_by, with_scope, begun_at, numbered_known, routine, numbered_elaborated}
use Rattle.check_body.specs.declared.routine.Bodies.{Bodies}
use Rattle.check_body.specs.declared.routine.Numbered.{Numbered}
use Rattle.check_scope.specs.declared.known.Known.{Known}
use Rattle.check_scope.specs.declared.known.Known.TheVariants.{Later, Ahead, Begun, Headed, Declared}
use Rattle.check_scope.specs.declared.scope.Scope.{Scope}
use Rattle.def_exchange.specs.Moved.{moved_meaning, moved_table, moved_type, Exchange}
use Rattle.law_exchange_bodies.proofs.Imports.{typed_imports_moves, all_imports_moves}
use Rattle.law_exchange_bodies.specs.Modules.{moved_bodies, moved_imported, moved_module, moved_numbered, moved_routine}
use Rattle.law_exchange_exprs.specs.Steps.{moved_stmt}
use Rattle.law_exchange_types.proofs.Basics.{find_moves as find_name_moves, cond_moves}
use Rattle.law_exchange_types.specs.Pieces.{map_ok}
use Rattle.law_exchange_types.specs.Scopes.{moved_known, moved_scope}
use Rattle.m2_tree.specs.declared.decl.Module.{Module}
use Rattle.m2_tree.specs.declared.name.Ident.{Ident}
use Rattle.m2_tree.specs.declared.pos.Pos.{Pos}
use Rattle.std.proofs.Common.{◌≡◌, refl, Err, List, None, Ok, Option, Result, Some, map, option_map, ℕ, sym, ap, cond, ◌==◌, ◌∙◌, ◌++◌, [], ◌∷◌}
use Rattle.std.proofs.lemmas.List.{map-set, drop-map}
use Rattle.typed_tree.specs.declared.meaning.Meaning.{Meaning}
use Rattle.typed_tree.specs.declared.statement.TypedStmt.{TypedStmt}
use Rattle.typed_tree.specs.declared.table.Table.{Table}
use Rattle.typed_tree.specs.declared.typed_module.Imported.{Imported}
use Rattle.typed_tree.specs.declared.typed_module.Routine.{Routine}
use Rattle.typed_tree.specs.declared.typed_module.Which.{Which}
use Rattle.typed_tree.specs.declared.types.TypeNo.{TypeNo}
use Rattle.typed_tree.specs.declared.meaning.Meaning.TheVariants as meaning
use Rattle.typed_tree.specs.declared.typed_module.Which.TheVariants as which
use Rattle.typed_tree.specs.Types.{integer}
use Rattle.law_exchange_bodies.proofs.Pieces.{map_same, push_moves}
use Rattle.check_body.specs.Imports.{all_imports, typed_imports}

pub numbered_by_moves : (z : Exchange) (m : Meaning)
    → numbered_by (moved_meaning z m) ≡ option_map (moved_numbered z) (numbered_by m)
numbered_by_moves z (meaning.Procedure p) = refl
numbered_by_moves z (meaning.LocalProcedure p) = refl
numbered_by_moves z (meaning.Constant v) = refl
numbered_by_moves z (meaning.Type t n) = refl
numbered_by_moves z (meaning.Variable v) = refl
numbered_by_moves z (meaning.Local v) = refl
numbered_by_moves z (meaning.Field f) = refl
numbered_by_moves z meaning.Ahead = refl
numbered_by_moves z (meaning.Standard f) = refl
numbered_by_moves z (meaning.Module k) = refl

pub numbered_elaborated_moves : (z : Exchange) {T : Type 0} (m : Result Meaning T)
    → numbered_elaborated (map_ok (moved_meaning z) m) ≡ option_map (moved_numbered z) (numbered_elaborated m)
numbered_elaborated_moves z (Ok m) = numbered_by_moves z m
numbered_elaborated_moves z (Err e) = refl

pub numbered_known_moves : (z : Exchange) {T : Type 0} (k : Option (Known T))
    → numbered_known (option_map (moved_known z) k) ≡ option_map (moved_numbered z) (numbered_known k)
numbered_known_moves z None = refl
numbered_known_moves z (Some Later) = refl
numbered_known_moves z (Some Ahead) = refl
numbered_known_moves z (Some Begun) = refl
numbered_known_moves z (Some (Headed m)) = numbered_elaborated_moves z m
numbered_known_moves z (Some (Declared o m)) = refl

pub procedure_named_moves : (z : Exchange) {T : Type 0} (s : Scope T) (name : Ident)
    → procedure_named (moved_scope z s) name ≡ option_map (moved_numbered z) (procedure_named s name)
procedure_named_moves z s name = simp (numbered_known_moves, find_name_moves)

pub empty_routine_moves : (z : Exchange) (heading : TypeNo)
    → empty_routine (moved_type z heading) ≡ moved_routine z (empty_routine heading)
empty_routine_moves z heading = refl

pub no_bodies_moves : (z : Exchange) (headings : List TypeNo)
    → no_bodies (map (moved_type z) headings) ≡ moved_bodies z (no_bodies headings)
no_bodies_moves z headings =
    ap (λ (rs : List Routine). record { procedures = rs; locals = []; order = [] })
    (map_same empty_routine (moved_type z) empty_routine (moved_routine z) (λ h. refl) headings)

pub begun_at_moves : (z : Exchange) (level : ℕ) (rs : Bodies)
    → begun_at level (moved_bodies z rs) ≡ moved_bodies z (begun_at level rs)
begun_at_moves z level rs =
    ap (λ (ls : List Routine). cond (level == 0) (moved_bodies z rs) (record (moved_bodies z rs) { locals = ls }))
    (push_moves (moved_routine z) rs.locals (empty_routine integer))
    ∙ cond_moves (moved_bodies z) (level == 0) rs (record rs { locals = rs.locals ++ empty_routine integer ∷ [] })

pub put_routine_moves : (z : Exchange) (rs : Bodies) (w : Which) (r : Routine)
    → put_routine (moved_bodies z rs) w (moved_routine z r) ≡ moved_bodies z (put_routine rs w r)
put_routine_moves z rs (which.Module n) r =
    ap (λ (ps : List Routine). record (moved_bodies z rs) { procedures = ps; order = rs.order ++ which.Module n ∷ [] })
    (sym (map-set (moved_routine z) rs.procedures n r))
put_routine_moves z rs (which.Local n) r =
    ap (λ (ls : List Routine). record (moved_bodies z rs) { locals = ls; order = rs.order ++ which.Local n ∷ [] })
    (sym (map-set (moved_routine z) rs.locals n r))

pub routine_moves : (z : Exchange) {T : Type 0} (s : Scope T) (name : Ident) (p : Numbered) (around : Option Which)
    (formals : ℕ) (body : List TypedStmt)
    → routine (moved_scope z s) name (moved_numbered z p) around formals (map (moved_stmt z) body)
    ≡ moved_routine z (routine s name p around formals body)
routine_moves z s name p around formals body =
    ap (λ (vs : List TypeNo). record {
      pos = name.pos;
      heading = moved_type z p.heading;
      level = s.level;
      around = around;
      variables = vs;
      body = map (moved_stmt z) body;
    }) (drop-map (moved_type z) formals s.variables)

pub imports_of_moves : (z : Exchange) {T : Type 0} (s : Scope T) (modules : List (List ℕ × ℕ)) (own : Option Table)
    (m : Module)
    → imports_of (moved_scope z s) modules (option_map (moved_table z) own) m
    ≡ map (moved_imported z) (imports_of s modules own m)
imports_of_moves z s modules own m =
    ap (typed_imports modules (map (moved_table z) s.tables)) (all_imports_moves z modules s.tables own m.imports)
    ∙ typed_imports_moves z modules s.tables (all_imports modules s.tables own m.imports)

pub with_scope_moves : (z : Exchange) {T : Type 0} (name : List ℕ) (at : Pos) (imports : List Imported) (s : Scope T)
    (rs : Bodies) (body : List TypedStmt)
    → with_scope name at (map (moved_imported z) imports) (moved_scope z s) (moved_bodies z rs)
    (map (moved_stmt z) body) ≡ moved_module z (with_scope name at imports s rs body)
with_scope_moves z name at imports s rs body = refl

pub typed_module_moves : (z : Exchange) {T : Type 0} (s : Scope T) (modules : List (List ℕ × ℕ)) (own : Option Table)
    (m : Module) (rs : Bodies) (body : List TypedStmt)
    → typed_module (moved_scope z s) modules (option_map (moved_table z) own) m (moved_bodies z rs)
    (map (moved_stmt z) body) ≡ moved_module z (typed_module s modules own m rs body)
typed_module_moves z s modules own m rs body =
    ap (λ (is : List Imported).
    with_scope m.name.name m.name.pos is (moved_scope z s) (moved_bodies z rs) (map (moved_stmt z) body))
    (imports_of_moves z s modules own m)
