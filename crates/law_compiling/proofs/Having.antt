-- A body of a program that is built is built alone, with the definitions that it needs.
use Rattle.std.proofs.Common.{◌≡◌, inl, inr, ℕ, true, List, [], ◌∷◌, ◌++◌, map, Some, refl, sym, ap, ap₂, ◌∙◌}
use Rattle.std.specs.Prelude.{slice_get}
use Rattle.std.specs.List.{AllZip, Contains}
use Rattle.std.specs.Arc.{arc_value}
use Rattle.std.proofs.lemmas.Bool.{false≢true}
use Rattle.m2_tree.specs.declared.decl.Module.{Module}
use Rattle.m2_tree.specs.declared.refusal.Refusal.{Refusal}
use Rattle.m2_graph.specs.Imports.{is_definition, imports_of}
use Rattle.m2_graph.specs.Reported.{report_of}
use Rattle.build_jobs.specs.declared.file.SourceFile.{SourceFile}
use Rattle.build_jobs.specs.declared.reading.Read.{Read}
use Rattle.build_jobs.specs.declared.reading.Read.TheVariants.{Parsed, Refused}
use Rattle.build_jobs.specs.Reading.{HasTree, AreRead}
use Rattle.build_results.specs.Texts.{refused_of, trees_of, modules, AreTrees}
use Rattle.law_graph.specs.Started.{names_of}
use Rattle.law_graph.proofs.Lists.{Among, map_among}
use Rattle.law_graph.proofs.Given.{given_trees}
use Rattle.law_graph.proofs.Circling.{one_reported}
use Rattle.law_separation.specs.Alike.{Tree}
use Rattle.compile_module.specs.declared.made.Made.{Made}
use Rattle.compile_module.specs.declared.made.Made.TheVariants as made
use Rattle.compile_module.specs.Alone.{AreUngraphed}
use Rattle.compile_module.specs.Stands.{stands_for, with_stands}
use Rattle.m2c.specs.Build.{IsProgram}
use Rattle.law_compiling.specs.Whole.{AreWithin, HaveDefinitions, IsBuilt, IsBuiltAlone, BodiesAreBuiltWithDefinitions}
use Rattle.law_compiling.proofs.Named.{has_name}
use Rattle.law_compiling.proofs.Sources.{one_tree, file_at, tree_there, contained, among_contains, picked}
use Rattle.law_compiling.proofs.Building.{its_jobs}
use Rattle.law_compiling.proofs.Succeeding.{bodies_built}
use Rattle.law_compiling.proofs.Filling.{filled, filled_is}
use Rattle.law_compiling.proofs.Needing.{AreTogether, none_reported}

-- the trees that are read of texts are the trees that they have
read_trees : (files : List SourceFile) (reads : List Read) → AreRead files reads → refused_of files reads ≡ []
    → (ms : List Module) → AllZip (λ (f : SourceFile) (m : Module). HasTree f.bytes.items m) files ms
    → modules (trees_of files reads) ≡ ms
read_trees [] reads h none [] z = refl
read_trees [] reads h none (m ∷ ms) z = absurd z
read_trees (f ∷ fs) [] h none ms z = absurd h
read_trees (f ∷ fs) (Refused pos number ∷ rs) h none ms z = absurd cc
read_trees (f ∷ fs) (Parsed tree ∷ rs) h none [] z = absurd z
read_trees (f ∷ fs) (Parsed tree ∷ rs) h none (m ∷ ms) z =
    ap₂ (λ (x : Module) (xs : List Module). x ∷ xs) (one_tree f.bytes.items (arc_value tree) m h.0 z.0)
    (read_trees fs rs h.1 none ms z.1)

module _ (program : List SourceFile) (pages : ℕ) (link : List ℕ) (built : List (List ℕ × List ℕ))
    (p : IsProgram program pages link built) (files : List SourceFile) (within : AreWithin program files)
    (h : HaveDefinitions files) where
  of_name : (n : List ℕ) → Contains (names_of h.definitions) n → (d : Module) × Among h.definitions d
      × (d.name.name ≡ n)
  of_name n c = map_among (λ (m : Module). m.name.name) h.definitions n (contained (names_of h.definitions) n c)

  module _ (alone : List Tree) (are : AreTrees files alone) where
    same : given_trees alone ≡ h.body ∷ h.definitions
    same = ap given_trees are.all
        ∙ read_trees files are.reads are.are_read are.fine (h.body ∷ h.definitions) h.read

    at : (m : Module) → (a : Among (h.body ∷ h.definitions) m) → slice_get (given_trees alone) a.0 ≡ Some m
    at m a = ap (λ (ms : List Module). slice_get ms a.0) same ∙ a.1

    together : AreTogether p.trees h.body h.definitions
    together = record {
      kind = h.kind;
      kinds = picked (λ (d : Module). is_definition d ≡ true) h.definitions h.kinds;
      apart = h.apart;
      own = λ e. elim h.own [
        | inl is ↦ absurd (false≢true (sym e ∙ is))
        | inr c ↦ of_name h.body.name.name c
      ];
      closed = λ m x a i. elim (h.closed m x (among_contains (h.body ∷ h.definitions) m a)
          (among_contains (imports_of m) x i)) [ inl c ↦ inl c | inr c ↦ inr (of_name x.name c) ];
      within = λ m a. tree_there program files p.trees alone p.graph.are_trees are within a.0 m (at m a);
      named = λ m a. let f = file_at files alone are a.0 m (at m a) in has_name f.f.bytes.items m f.reads;
    }

    filled_alone : given_trees (with_stands alone) ≡ filled h.body h.definitions
    filled_alone = filled_is alone (stands_for (given_trees alone))
        ∙ ap (λ (ms : List Module). ms ++ stands_for ms) same

    not_ungraphed : (refusals : List Refusal) → AreUngraphed alone refusals → ⊥
    not_ungraphed refusals (all, (ordered, in_order, (reported, some)), rest) =
        some (one_reported ordered (map report_of all.items) [] reported
        (none_reported p.trees (its_jobs program pages link built p) h.body h.definitions together
        (with_stands alone) filled_alone ordered in_order))

  is_built : (it : Made) → IsBuiltAlone files it → IsBuilt it
  is_built (made.Built m is_program imports needed) b = tt
  is_built made.Defined b = absurd b
  is_built (made.Refused refusals) (alone, are, ungraphed) = absurd (not_ungraphed alone are refusals.items ungraphed)

pub built_with_definitions : BodiesAreBuiltWithDefinitions
built_with_definitions program pages link built p [] within h it c = absurd h.read
built_with_definitions program pages link built p (body ∷ others) within h it c =
    is_built program pages link built p (body ∷ others) within h it
    (bodies_built program pages link built p body others (h.body, h.read.0, h.kind) within it c)
