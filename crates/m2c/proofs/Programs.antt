-- The program of a graph: the typed bodies of the modules that start.
use Rattle.std.proofs.Common.{◌≡◌, ℕ, ◌<◌, ◌≤◌, false, true, List, [], ◌∷◌, ◌++◌, length, map, Option, Some, None, Result, Ok, Err, refl, sym, ap, subst, ◌∙◌, arith}
use Rattle.std.specs.Prelude.{All, slice_get, slice_index_or}
use Rattle.std.specs.List.{AllByRecursion, list_all}
use Rattle.std.proofs.lemmas.Bool.{false≢true}
use Rattle.std.proofs.lemmas.List.{length-map}
use Rattle.std.proofs.lemmas.Option.{slice_get_within, get_or_from_slice_get}
use Rattle.std.proofs.lemmas.List.Elements.{All-head, All-tail}
use Rattle.m2_tree.specs.declared.pos.Pos.{Pos}
use Rattle.m2_tree.specs.declared.decl.Block.{out-Block}
use Rattle.m2_tree.specs.declared.decl.Contents.{Contents}
use Rattle.m2_tree.specs.declared.decl.Contents.TheVariants as contents
use Rattle.m2_tree.specs.declared.decl.Module.{Module}
use Rattle.wasm_tree.specs.Validity.{AreDistinct}
use Rattle.m2_graph.specs.Files.{number_files}
use Rattle.m2_graph.specs.Graph.{CompileEach}
use Rattle.m2_graph.specs.Imports.{is_definition, is_definition_part}
use Rattle.law_graph.specs.Started.{at_places, names_of, AreApart, AreStarted}
use Rattle.law_graph.proofs.Lists.{some_at}
use Rattle.typed_tree.specs.declared.table.Table.{Table}
use Rattle.typed_tree.specs.declared.statement.TypedStmt.{TypedStmt}
use Rattle.typed_tree.specs.declared.typed_module.TypedModule.{TypedModule}
use Rattle.m2_rule.specs.declared.breach.Breach.{Breach}
use Rattle.check_scope.specs.declared.scope.Scope.{Scope}
use Rattle.check_scope.specs.Elaborated.{least, both, ◌▷◌}
use Rattle.layout_storage.specs.Layouts.{too_large}
use Rattle.m2_emit.specs.declared.emitted.ModuleBytes.{ModuleBytes}
use Rattle.m2_emit.specs.Emitted.{emitted}
use Rattle.def_meaning.specs.Environment.{Modules}
use Rattle.law_modules.specs.Linked as linked
use Rattle.check_definition.specs.Importing.{numbered_modules}
use Rattle.check_definition.specs.Predeclared.{first_scope}
use Rattle.check_body.specs.Own.{implementation_scope}
use Rattle.check_block.specs.Nesting.{procedure_ends}
use Rattle.check_body.specs.Checked as bodies
use Rattle.check_body.specs.Bodies.{Checked}
use Rattle.check_body.specs.Routines as routines
use Rattle.check_body.specs.Checks.{elaborate_body}
use Rattle.build_jobs.specs.declared.outcome.Compiled.{Compiled}
use Rattle.build_jobs.specs.declared.outcome.Compiled.TheVariants.{Built}
use Rattle.build_jobs.specs.Own.{own_table}
use Rattle.build_jobs.specs.Compiling.{is_sound, tables_of, of_fit, of_checked, of_contents, typed_body, compilation_of}
use Rattle.build_jobs.specs.Jobs.{compile_in_place}
use Rattle.law_programs.specs.FormedGraphs.{IsFit}
use Rattle.build_results.specs.Results.{module_in, modules_at, refused_by, result_at}
use Rattle.m2c.specs.Modules.{IsTyped, AreTyped}
use Rattle.build_results.specs.Texts.{modules}
use Rattle.build_results.proofs.EachOnce.{all_within, file_job, job_of}
use Rattle.m2c.proofs.Unrefused.{IsUnrefused, compiled_is, needed, one, result_is, all_sound, none_refused}

-- ---- a typed body has the name of its module

module_name : (ms : List (List ℕ × ℕ)) (own : Option Table) (m : Module) (c : Checked Breach) (t : TypedModule)
    → bodies.module_or least ms own m c ≡ Ok t → t.name ≡ m.name.name
module_name ms own m c t e = by (both least c.0.so_far c.1) e
  where
    by : (r : Result (Unit {0} × List TypedStmt) Breach)
        → (r ▷ λ p. Ok (routines.typed_module c.0.scope ms own m c.0.bodies p.1)) ≡ Ok t → t.name ≡ m.name.name
    by (Ok p) e = sym (ap named e)
      where
        named : Result TypedModule Breach → List ℕ
        named (Ok x) = x.name
        named (Err f) = []
    by (Err f) e = absurd (cc e)

contents_name : (n : ℕ) (m : Module) (own : Option Table) (ts : List Table) (c : Contents) (t : TypedModule)
    → bodies.of_contents least (elaborate_body least) n m own ts c ≡ Ok t → t.name ≡ m.name.name
contents_name n m own ts (contents.Definition ds) t e = absurd (cc e)
contents_name n m None ts (contents.Implementation b) t e = absurd (cc e)
contents_name n m (Some own) ts (contents.Implementation b) t e =
    let s : Scope Breach = implementation_scope own ts in
    module_name (numbered_modules s.tables).0 (Some own) m
    (bodies.walk_body least (elaborate_body least) (numbered_modules s.tables).0
    (procedure_ends (out-Block b).decls) s m b) t e
contents_name n m own ts (contents.Program b) t e =
    let s : Scope Breach = first_scope n ts in
    module_name (numbered_modules s.tables).0 None m
    (bodies.walk_body least (elaborate_body least) (numbered_modules s.tables).0
    (procedure_ends (out-Block b).decls) s m b) t e

pub typed_name : (n : ℕ) (m : Module) (ts : List Table) (t : TypedModule) → typed_body m n ts ≡ Ok t
    → t.name ≡ m.name.name
typed_name n m ts t e = contents_name n m (own_table m ts) _ m.contents t e

-- ---- a body that is not refused is built

record IsBody (m : Module) (n : ℕ) (ts : List Table) (c : Compiled) : Type 0 where
  typed : TypedModule
  is : typed_body m n ts ≡ Ok typed
  small : too_large typed ≡ None
  becomes : c ≡ Built (emitted typed)

from_fit : (m : Module) (n : ℕ) (ts : List Table) (t : TypedModule) → typed_body m n ts ≡ Ok t → (o : Option Pos)
    → too_large t ≡ o → IsUnrefused (of_fit t o) → IsBody m n ts (of_fit t o)
from_fit m n ts t e None small h = record { typed = t; is = e; small = small; becomes = refl }
from_fit m n ts t e (Some at) small h = absurd (h _ refl)

from_checked : (m : Module) (n : ℕ) (ts : List Table) (r : Result TypedModule Breach) → typed_body m n ts ≡ r
    → IsUnrefused (of_checked r) → IsBody m n ts (of_checked r)
from_checked m n ts (Ok t) e h = from_fit m n ts t e (too_large t) refl h
from_checked m n ts (Err f) e h = absurd (h f refl)

from_contents : (m : Module) (n : ℕ) (ts : List Table) (c : Contents) → is_definition_part c ≡ false
    → IsUnrefused (of_contents m n ts c) → IsBody m n ts (of_contents m n ts c)
from_contents m n ts (contents.Definition ds) is h = absurd (false≢true (sym is))
from_contents m n ts (contents.Implementation b) is h = from_checked m n ts (typed_body m n ts) refl h
from_contents m n ts (contents.Program b) is h = from_checked m n ts (typed_body m n ts) refl h

body_of : (m : Module) (n : ℕ) (others : List Compiled) → is_definition m ≡ false → list_all is_sound others ≡ true
    → IsUnrefused (compilation_of m n others) → IsBody m n (tables_of others) (compilation_of m n others)
body_of m n others is sound h =
    let e = compiled_is m n others sound in
    subst (IsBody m n (tables_of others)) (sym e)
    (from_contents m n (tables_of others) m.contents is (subst IsUnrefused e h))

-- ---- all that start

module _ (fs : List (List ℕ × Module)) (numbers : List ℕ) (jobs : List (List ℕ))
    (each : CompileEach (number_files 0 fs) numbers) (same : length numbers ≡ length jobs)
    (none : refused_by fs numbers jobs ≡ []) where
  within : (j k : ℕ) → slice_get numbers j ≡ Some k → k < length fs
  within j k e = subst (λ (n : ℕ). n < length fs) (get_or_from_slice_get numbers j k 0 e)
      (all_within fs numbers each j 0 (slice_get_within numbers j k e))

  there : (j : ℕ) → j < length numbers → (k : ℕ) × (slice_get numbers j ≡ Some k)
  there j l = some_at numbers j l

  abbrev result : ℕ → Option Compiled
  result = result_at fs numbers jobs

  -- the body of a module that starts
  record Starts (m : Module) (s : ℕ) : Type 0 where
    typed : TypedModule
    is : IsTyped (modules fs) numbers jobs s typed
    name : typed.name ≡ m.name.name
    small : too_large typed ≡ None
    becomes : result s ≡ Some (Built (emitted typed))

  start : (s : ℕ) (m : Module) → slice_get (modules fs) s ≡ Some m → is_definition m ≡ false → Starts m s
  start s m is body =
      let lt : s < length fs = (let w = slice_get_within (modules fs) s m is in
      omega (arith, w, length-map fs (λ (f : List ℕ × Module). f.1))) in
      let j = file_job fs numbers each s lt in
      let l : j.0 < length jobs = (let w = slice_get_within numbers j.0 s j.1 in omega (arith, w, same)) in
      let place : slice_index_or numbers j.0 0 ≡ s = get_or_from_slice_get numbers j.0 s 0 j.1 in
      let its : one fs numbers jobs j.0 ≡ compilation_of m j.0 (needed fs numbers jobs j.0) =
      ap (λ (k : ℕ). compile_in_place (slice_get (modules fs) k) j.0 (needed fs numbers jobs j.0)) place
      ∙ ap (λ (o : Option Module). compile_in_place o j.0 (needed fs numbers jobs j.0)) is in
      let sound : list_all is_sound (needed fs numbers jobs j.0) ≡ true =
      all_sound fs numbers jobs each same none within there j.0 l in
      let fine : IsUnrefused (compilation_of m j.0 (needed fs numbers jobs j.0)) =
      subst IsUnrefused its (none_refused fs numbers jobs each same none within there j.0 l) in
      let b = body_of m j.0 (needed fs numbers jobs j.0) body sound fine in
      record {
        typed = b.typed;
        is = record { tree = m; is_tree = is; job = j.0; is_job = job_of fs numbers each j.0 s j.1; typed = b.is };
        name = typed_name j.0 m (tables_of (needed fs numbers jobs j.0)) b.typed b.is;
        small = b.small;
        becomes = result_is fs numbers jobs each same j.0 s j.1 ∙ ap (λ (c : Compiled). Some c) (its ∙ b.becomes);
      }

  abbrev Within : ℕ → Type 0
  Within s = s < length (modules fs)

  pub record AreBuilt (starts : List ℕ) : Type 0 where
    pub program : Modules
    pub typed : AreTyped (modules fs) numbers jobs starts program
    pub names : linked.names program ≡ names_of (at_places (modules fs) starts)
    pub small : AllByRecursion IsFit program
    pub are : modules_at result starts ≡ map emitted program

  pub built_all : (starts : List ℕ) → All Within starts
      → All (λ m. is_definition m ≡ false) (at_places (modules fs) starts) → AreBuilt starts
  built_all [] lt bodies = record { program = []; typed = tt; names = refl; small = tt; are = refl }
  built_all (s ∷ ss) lt bodies =
      let t = some_at (modules fs) s (All-head Within s ss lt) in
      let m : Module = t.0 in
      let here : at_places (modules fs) (s ∷ ss) ≡ m ∷ at_places (modules fs) ss = rw (t.1) refl in
      let bodies' = subst (All (λ (x : Module). is_definition x ≡ false)) here bodies in
      let b = start s m t.1 (All-head (λ (x : Module). is_definition x ≡ false) m (at_places (modules fs) ss) bodies')
      in
      let rest = built_all ss (All-tail Within s ss lt)
      (All-tail (λ (x : Module). is_definition x ≡ false) m (at_places (modules fs) ss) bodies') in
      record {
        program = b.typed ∷ rest.program;
        typed = (b.is, rest.typed);
        small = (record { small = b.small }, rest.small);
        names = ap (λ (n : List ℕ). n ∷ linked.names rest.program) b.name
            ∙ ap (λ (ns : List (List ℕ)). m.name.name ∷ ns) rest.names
            ∙ sym (ap (λ (ms : List Module). names_of ms) here);
        are = ap (λ (o : Option Compiled). module_in o ++ modules_at result ss) b.becomes
            ∙ ap (λ (ms : List ModuleBytes). emitted b.typed ∷ ms) rest.are;
      }

apart_distinct : (xs : List (List ℕ)) → AreApart xs → AreDistinct xs
apart_distinct [] h = tt
apart_distinct (x ∷ xs) h = (h.0, apart_distinct xs h.1)

places_count : (trees : List Module) (starts : List ℕ) → length (at_places trees starts) ≤ length starts
places_count trees [] = omega arith
places_count trees (s ∷ ss) = by (slice_get trees s) refl (places_count trees ss)
  where
    by : (o : Option Module) → slice_get trees s ≡ o → length (at_places trees ss) ≤ length ss
        → length (at_places trees (s ∷ ss)) ≤ length (s ∷ ss)
    by None e le = rw e (omega (arith, le))
    by (Some m) e le = rw e (omega (arith, le))

module _ (fs : List (List ℕ × Module)) (numbers : List ℕ) (jobs : List (List ℕ))
    (each : CompileEach (number_files 0 fs) numbers) (same : length numbers ≡ length jobs)
    (none : refused_by fs numbers jobs ≡ []) (starts : List ℕ) (started : AreStarted (modules fs) starts) where
  pub all_built : AreBuilt fs numbers jobs each same none starts
  all_built = built_all fs numbers jobs each same none starts started.within started.bodies

  pub distinct_all : AreDistinct (linked.names all_built.program)
  distinct_all = subst AreDistinct (sym all_built.names)
      (apart_distinct (names_of (at_places (modules fs) starts)) started.distinct)

  pub count_all : length all_built.program ≤ 1024
  count_all =
      let a : length (linked.names all_built.program) ≡ length all_built.program =
      length-map all_built.program (λ (t : TypedModule). t.name) in
      let b : length (names_of (at_places (modules fs) starts)) ≡ length (at_places (modules fs) starts) =
      length-map (at_places (modules fs) starts) (λ (m : Module). m.name.name) in
      let c : length (linked.names all_built.program) ≡ length (names_of (at_places (modules fs) starts)) =
      ap length all_built.names in
      omega (arith, a, b, c, places_count (modules fs) starts, started.few)
