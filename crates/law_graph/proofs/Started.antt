-- The modules that a graph starts, as a compiler needs them.
use Rattle.std.proofs.Common.{◌≡◌, ◌<◌, ◌≤◌, ℕ, List, length, map, refl, sym, ap, subst, ◌∙◌, inl, inr, arith, true, false, Option, Some, None, ◌⊎◌}
use Rattle.std.specs.Prelude.{slice_get}
use Rattle.std.specs.List.{All, filter_map}
use Rattle.std.specs.Cmp.Lexicographic.{bytes_decides}
use Rattle.std.proofs.lemmas.Bool.{and_parts}
use Rattle.std.proofs.lemmas.List.{length-map}
use Rattle.m2_tree.specs.declared.decl.Module.{Module}
use Rattle.m2_tree.specs.declared.name.Ident.{Ident}
use Rattle.graph_walk.specs.Links.{has}
use Rattle.m2_graph.specs.Files.{File, AreInOrder, number_files, trees, given_of}
use Rattle.m2_graph.specs.Graph.{IsGraph, IsGraphOf, body_of, bodies_of}
use Rattle.m2_tree.specs.Names.{same_name, is_console}
use Rattle.m2_graph.specs.Imports.{imports_of, is_definition, defines, definition_of}
use Rattle.m2_graph.specs.Refused.{max_files}
use Rattle.law_graph.specs.Started.{at_places, names_of, is_named, AreApart, imported_by, definition_imported, all_imported, AreStarted}
use Rattle.law_graph.proofs.Lists.{Among, none_among, among_has, filtered_among, filtered_twice, filtered_length, few_below, all_among, among_append_cases}
use Rattle.law_graph.proofs.Passing.{found_at}
use Rattle.law_graph.proofs.Fine.{AreFine, are_fine}
use Rattle.law_graph.proofs.Given.{given_trees, given_among, places_given, places_within, few_files}
use Rattle.law_graph.proofs.Starting.{start, body_at}
use Rattle.law_graph.proofs.Reached as reached

module _ (fs : List (List ℕ × Module)) (ordered : List File) (o : AreInOrder (number_files 0 fs) ordered)
    (files : List ℕ) (jobs : List (List ℕ)) (starts : List ℕ) (g : IsGraphOf ordered files jobs starts) where
  abbrev modules : List Module
  modules = trees ordered

  fine : AreFine modules
  fine = are_fine ordered g.fine

  abbrev walk : List ℕ
  walk = g.is_starts.walk

  abbrev bodies : List ℕ
  bodies = bodies_of modules walk

  body_there : (k : ℕ) → Among bodies k → (m : Module) × (slice_get modules k ≡ Some m)
  body_there k a = let f = filtered_among (λ (n : ℕ). body_of modules n (slice_get modules n)) walk k a in
      body_at modules f.0 k f.2

  -- the modules that start
  started_are : at_places (given_trees fs) starts ≡ filter_map (start modules) walk
  started_are = ap (at_places (given_trees fs)) g.is_starts.started ∙ places_given fs ordered o bodies body_there
      ∙ filtered_twice (λ (n : ℕ). body_of modules n (slice_get modules n)) (slice_get modules) walk

  abbrev those : List Module
  those = filter_map (start modules) walk

  -- ---- each part

  within : All (λ s. s < length (given_trees fs)) starts
  within = subst (λ (xs : List ℕ). All (λ s. s < length (given_trees fs)) xs) (sym g.is_starts.started)
      (places_within fs ordered o bodies body_there)

  are_bodies : All (λ m. is_definition m ≡ false) (at_places (given_trees fs) starts)
  are_bodies = subst (λ (ms : List Module). All (λ m. is_definition m ≡ false) ms) (sym started_are)
      (reached.reached_bodies modules fine g.is_starts.program g.is_starts.is_program walk g.is_starts.is_walk.0
      g.is_starts.is_walk.1)

  distinct : AreApart (names_of (at_places (given_trees fs) starts))
  distinct = subst (λ (ms : List Module). AreApart (names_of ms)) (sym started_are)
      (reached.reached_apart modules fine g.is_starts.program g.is_starts.is_program walk g.is_starts.is_walk.0
      g.is_starts.is_walk.1)

  few : length starts ≤ max_files
  few =
      let a : length starts ≡ length bodies = ap (λ (xs : List ℕ). length xs) g.is_starts.started
      ∙ length-map bodies (given_of ordered) in
      let b : length bodies ≤ length walk = filtered_length (λ (n : ℕ). body_of modules n (slice_get modules n)) walk in
      let c = few_below (length modules) walk
      (reached.reached_once modules fine g.is_starts.program g.is_starts.is_program walk g.is_starts.is_walk.0
      g.is_starts.is_walk.1) (reached.reached_within modules fine g.is_starts.program g.is_starts.is_program walk
      g.is_starts.is_walk.0 g.is_starts.is_walk.1) in
      let d = few_files fs ordered o g.fine in
      omega (arith, a, b, c, d)

  -- what the definition of a body imports
  from_definition : (n : ℕ) (b : Module) (x : Ident) → has walk n ≡ true → start modules n ≡ Some b
      → Among (definition_imported (given_trees fs) (definition_of (given_trees fs) b.name.name)) x
      → (is_console x.name ≡ true) ⊎ (is_named those x.name ≡ true)
  from_definition n b x h e a = step (definition_of (given_trees fs) b.name.name) refl a
    where
      step : (p : Option ℕ) → definition_of (given_trees fs) b.name.name ≡ p
          → Among (definition_imported (given_trees fs) p) x → (is_console x.name ≡ true)
          ⊎ (is_named those x.name ≡ true)
      step None q i = absurd (none_among x i)
      step (Some j) q i =
          let f = found_at (defines b.name.name) (given_trees fs) j q in
          let both = and_parts (is_definition f.0) (same_name b.name.name f.0.name.name) f.2 in
          reached.definition_reached modules fine g.is_starts.program g.is_starts.is_program walk g.is_starts.is_walk.0
          g.is_starts.is_walk.1 n b f.0 x h e (given_among fs ordered o f.0 (j, f.1)) both.0
          ((bytes_decides b.name.name f.0.name.name).0 both.1)
          (subst (λ (m : Option Module). Among (imported_by m) x) f.1 i)

  each_import : (n : ℕ) (b : Module) (x : Ident) → has walk n ≡ true → start modules n ≡ Some b
      → Among (all_imported (given_trees fs) b) x → (is_console x.name ≡ true) ⊎ (is_named those x.name ≡ true)
  each_import n b x h e a = elim (among_append_cases
      (definition_imported (given_trees fs) (definition_of (given_trees fs) b.name.name)) (imports_of b) x a) [
        | inl d ↦ from_definition n b x h e d
        | inr i ↦ reached.body_reached modules fine g.is_starts.program g.is_starts.is_program walk
            g.is_starts.is_walk.0
            g.is_starts.is_walk.1 n b x h e i
      ]

  abbrev IsClosed : List Module → Type 0
  IsClosed ms = All (λ m. All (λ x. (is_console x.name ≡ true) ⊎ (is_named ms x.name ≡ true))
      (all_imported (given_trees fs) m)) ms

  closed : IsClosed (at_places (given_trees fs) starts)
  closed = subst (λ (ms : List Module). IsClosed ms) (sym started_are)
      (all_among (λ (m : Module). All (λ x. (is_console x.name ≡ true) ⊎ (is_named those x.name ≡ true))
      (all_imported (given_trees fs) m)) those
      (λ b a. let f = filtered_among (start modules) walk b a in
      all_among (λ (x : Ident). (is_console x.name ≡ true) ⊎ (is_named those x.name ≡ true))
      (all_imported (given_trees fs) b) (λ x i. each_import f.0 b x (among_has walk f.0 f.1) f.2 i)))

  started : AreStarted (given_trees fs) starts
  started = record { within = within; bodies = are_bodies; distinct = distinct; closed = closed; few = few }

pub are_started : (fs : List (List ℕ × Module)) (files : List ℕ) (jobs : List (List ℕ)) (starts : List ℕ)
    → IsGraph (number_files 0 fs) files jobs starts → AreStarted (map (λ (f : List ℕ × Module). f.1) fs) starts
are_started fs files jobs starts h = started fs h.0 h.1 files jobs starts h.2
