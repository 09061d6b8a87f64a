-- Modules and their places, as they were given.
use Rattle.std.proofs.Common.{◌≡◌, ℕ, zero, suc, Bool, true, false, cond, List, [], ◌∷◌, ◌++◌, Option, Some, None, Result, Ok, Err, refl, sym, ap, ◌∙◌}
use Rattle.std.specs.Prelude.{slice_get}
use Rattle.std.specs.List.{list_all}
use Rattle.std.specs.Option.{option_and_then}
use Rattle.std.proofs.lemmas.Option.{none-some, same_Some}
use Rattle.m2_tree.specs.declared.pos.Pos.{Pos}
use Rattle.m2_tree.specs.declared.decl.Contents.{Contents}
use Rattle.m2_tree.specs.declared.decl.Contents.TheVariants as contents
use Rattle.m2_tree.specs.declared.decl.Module.{Module}
use Rattle.m2_rule.specs.declared.breach.Breach.{Breach}
use Rattle.typed_tree.specs.declared.table.Table.{Table}
use Rattle.typed_tree.specs.declared.typed_module.TypedModule.{TypedModule}
use Rattle.layout_storage.specs.Layouts.{too_large}
use Rattle.m2_emit.specs.declared.emitted.ModuleBytes.{ModuleBytes}
use Rattle.m2_emit.specs.Emitted.{emitted}
use Rattle.m2_graph.specs.Files.{trees, given_of}
use Rattle.m2_graph.specs.Imports.{is_definition, is_definition_part, is_program}
use Rattle.law_graph.proofs.Given.{given_trees, tree_given}
use Rattle.law_graph.proofs.Fine.{are_fine, program_of}
use Rattle.law_graph.proofs.Passing.{found_at}
use Rattle.build_jobs.specs.declared.outcome.Compiled.{Compiled}
use Rattle.build_jobs.specs.declared.outcome.Compiled.TheVariants.{Defined, Built, Refused, Blocked}
use Rattle.build_jobs.specs.Compiling.{is_sound, tables_of, typed_body, of_definition, of_fit, of_checked, of_contents, compilation_of}
use Rattle.build_jobs.specs.Jobs.{all_compiled, needed_of}
use Rattle.check_scope.specs.Elaborated.{least}
use Rattle.check_definition.specs.Compiled.{definition_table}
use Rattle.law_separation.specs.Alike.{Tree, Jobs, comes_of}
use Rattle.law_linking.proofs.Standing.{place_of}
use Rattle.law_exchange_jobs.proofs.Jobbing.{job_of_place, tree_of, result_is}
use Rattle.m2c.proofs.Programs.{typed_name}

-- what stands in front stays where it is
pub kept_front : (front back : List Tree) (k : ℕ) (m : Module) → slice_get (given_trees front) k ≡ Some m
    → slice_get (given_trees (front ++ back)) k ≡ Some m
kept_front [] back k m e = absurd (none-some m e)
kept_front (f ∷ front) back zero m e = e
kept_front (f ∷ front) back (suc k) m e = kept_front front back k m e

-- ---- programs of which nothing is refused

module _ (fs : List Tree) (jobs : Jobs fs) where
  -- Modules of one sort and name are one.
  pub one_place : (j k : ℕ) (m n : Module) → slice_get (given_trees fs) j ≡ Some m
      → slice_get (given_trees fs) k ≡ Some n
      → is_definition m ≡ is_definition n → m.name.name ≡ n.name.name → j ≡ k
  one_place j k m n e g kind name =
      let a = place_of fs jobs.is_graph.0 jobs.is_graph.1 j m e in
      let b = place_of fs jobs.is_graph.0 jobs.is_graph.1 k n g in
      let q : a.0 ≡ b.0 = (are_fine jobs.is_graph.0 jobs.is_graph.2.fine).apart a.0 b.0 m n a.1 b.1 kind name in
      sym a.2 ∙ ap (given_of jobs.is_graph.0) q ∙ b.2

  -- There is a module.
  pub some_module : (k : ℕ) × (m : Module) × (slice_get (given_trees fs) k ≡ Some m)
  some_module =
      let p = program_of jobs.is_graph.0 jobs.is_graph.2.fine in
      let f = found_at is_program (trees jobs.is_graph.0) p.0 p.1 in
      (given_of jobs.is_graph.0 p.0, f.0, tree_given fs jobs.is_graph.0 jobs.is_graph.1 p.0 f.0 f.1)

-- ---- what is built of a body

-- It is a body's, and has its name.
pub record IsOf (m : Module) (b : ModuleBytes) : Type 0 where
  pub kind : is_definition m ≡ false
  pub name : b.name ≡ m.name.name

fit_name : (m : Module) (t : TypedModule) → t.name ≡ m.name.name → (o : Option Pos) (b : ModuleBytes)
    → of_fit t o ≡ Built b → b.name ≡ m.name.name
unfolding emitted
fit_name m t name None b e = sym (ap named e) ∙ name
  where
    named : Compiled → List ℕ
    named (Built x) = x.name
    named (Defined x) = []
    named (Refused f) = []
    named Blocked = []
fit_name m t name (Some at) b e = absurd (cc e)

checked_name : (m : Module) (n : ℕ) (ts : List Table) (r : Result TypedModule Breach) → typed_body m n ts ≡ r
    → (b : ModuleBytes) → of_checked r ≡ Built b → b.name ≡ m.name.name
checked_name m n ts (Ok t) is b e = fit_name m t (typed_name n m ts t is) (too_large t) b e
checked_name m n ts (Err f) is b e = absurd (cc e)

no_module : (r : Result Table Breach) (b : ModuleBytes) → of_definition r ≡ Built b → ⊥
no_module (Ok t) b e = cc e
no_module (Err f) b e = cc e

contents_of : (m : Module) (n : ℕ) (ts : List Table) (c : Contents) → m.contents ≡ c → (b : ModuleBytes)
    → of_contents m n ts c ≡ Built b → IsOf m b
contents_of m n ts (contents.Definition ds) is b e = absurd (no_module (definition_table least n m ts) b e)
contents_of m n ts (contents.Implementation x) is b e = record {
  kind = ap is_definition_part is;
  name = checked_name m n ts (typed_body m n ts) refl b e;
}
contents_of m n ts (contents.Program x) is b e = record {
  kind = ap is_definition_part is;
  name = checked_name m n ts (typed_body m n ts) refl b e;
}

compiled_of : (m : Module) (n : ℕ) (needed : List Compiled) (b : ModuleBytes) → compilation_of m n needed ≡ Built b
    → IsOf m b
unfolding compilation_of
compiled_of m n needed b e = by (list_all is_sound needed) e
  where
    by : (s : Bool) → cond s (of_contents m n (tables_of needed) m.contents) Blocked ≡ Built b → IsOf m b
    by true q = contents_of m n (tables_of needed) m.contents refl b q
    by false q = absurd (cc q)

some_built : (c : Compiled) (b : ModuleBytes) → Some c ≡ Some (Built b) → c ≡ Built b
some_built c b e = same_Some c (Built b) e

module _ (fs : List Tree) (jobs : Jobs fs) where
  pub built_of : (place : ℕ) (m : Module) (b : ModuleBytes) → slice_get (given_trees fs) place ≡ Some m
      → comes_of fs jobs place ≡ Some (Built b) → IsOf m b
  built_of place m b there comes =
      let w = job_of_place fs jobs place m there in
      let texts : List Module = given_trees fs in
      let its : comes_of fs jobs place ≡ Some (compilation_of m w.0 (needed_of texts jobs.files jobs.needs w.0)) =
      ap (λ (o : Option ℕ). option_and_then (slice_get (all_compiled texts jobs.files jobs.needs)) o) w.1
      ∙ result_is fs jobs texts w.0 m w.2 (tree_of fs jobs w.0 m w.2) in
      compiled_of m w.0 (needed_of texts jobs.files jobs.needs w.0) b
      (some_built (compilation_of m w.0 (needed_of texts jobs.files jobs.needs w.0)) b (sym its ∙ comes))
