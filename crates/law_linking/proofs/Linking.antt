-- The walk over empty modules that stand for parts is the walk over the program, and the modules that start are its
-- modules.
use Rattle.std.proofs.Common.{◌≡◌, ℕ, true, List, [], ◌∷◌, ◌++◌, map, refl, sym, ap, ap₂, subst, ◌∙◌, inl, inr, Option, Some, option_map}
use Rattle.std.specs.Prelude.{slice_get}
use Rattle.std.specs.List.{filter_map, cons_option, flat_map}
use Rattle.std.specs.String.{string_bytes}
use Rattle.std.proofs.lemmas.Bool.{false≢true}
use Rattle.std.proofs.lemmas.Option.{none-some}
use Rattle.m2_tree.specs.Names.{is_console}
use Rattle.m2_tree.specs.declared.name.Ident.{Ident}
use Rattle.m2_tree.specs.declared.decl.Module.{Module}
use Rattle.graph_walk.specs.Links.{targets}
use Rattle.graph_walk.specs.Starts.{One, Walks, IsStartOrder}
use Rattle.m2_graph.specs.Imports.{imports_of, is_definition, is_program, definition_of, first_that, walks}
use Rattle.m2_graph.specs.Files.{trees, given_of}
use Rattle.m2_graph.specs.Graph.{bodies_of}
use Rattle.m2_graph.specs.Graph.{body_of as starts_at}
use Rattle.def_scheme.specs.Modules.{link_of}
use Rattle.def_scheme.specs.Modules.{Part as Sizes}
use Rattle.emit_buffer.specs.Cut.{cut_module}
use Rattle.m2_emit.specs.declared.emitted.ModuleBytes.{ModuleBytes}
use Rattle.m2_emit.specs.Emitted.{code_bytes, link_part, parts}
use Rattle.build_jobs.specs.declared.outcome.Compiled.{Compiled}
use Rattle.build_jobs.specs.declared.outcome.Compiled.TheVariants.{Built}
use Rattle.build_results.specs.Results.{module_in, modules_at}
use Rattle.law_graph.specs.Started.{all_imported}
use Rattle.law_graph.proofs.Lists.{Among, later_among, among_has, map_among}
use Rattle.law_graph.proofs.Fine.{are_fine}
use Rattle.law_graph.proofs.Given.{given_trees}
use Rattle.law_graph.proofs.Starting.{same_at, IsNamed, walk_named}
use Rattle.law_graph.proofs.Walking.{one_start_order}
use Rattle.law_separation.specs.Alike.{Tree, Jobs, comes_of}
use Rattle.link_parts.specs.declared.part.Part.{Part}
use Rattle.link_parts.specs.Stands.{body_of, stands_for}
use Rattle.link_parts.specs.Linked.{sizes_of, sizes_in, started}
use Rattle.law_linking.specs.Parts.{unless, PartsStartInOrder, LinkingIsBuilding}
use Rattle.law_linking.proofs.Single.{no_console}
use Rattle.law_linking.proofs.Finding.{meant}
use Rattle.law_linking.proofs.Thinning.{Thins, Matching, follows, are_good}
use Rattle.law_linking.proofs.Naming.{filtered_same, filtered_mapped, thins}
use Rattle.law_linking.proofs.Standing.{body_name, body_imports}
use Rattle.law_linking.proofs.Pairing.{names_of, image, Sides, Paired, pair_definition, defined_at, pair_program, program_image}

-- ---- the modules that start

-- what starts at a node of the empty modules, and at the node that goes with it
record Meets (stands whole : List Module) (at given : ℕ → ℕ) (all : List (Part × Module)) (result : ℕ → Option Compiled)
    (j k : ℕ) : Type 0 where
  b : ℕ
  starts : starts_at stands j (slice_get stands j) ≡ Some b
  x : Part × Module
  there : slice_get all (at b) ≡ Some x
  c : ℕ
  builds : starts_at whole k (slice_get whole k) ≡ Some c
  y : ModuleBytes
  built : result (given c) ≡ Some (Built y)
  sizes : link_part y ≡ sizes_of x

module _ (stands whole : List Module) (at given : ℕ → ℕ) (all : List (Part × Module)) (result : ℕ → Option Compiled)
    (twin_of : ℕ → ℕ) where
  abbrev left_of : List ℕ → List Sizes
  left_of bs = flat_map (λ n. sizes_in (slice_get all n)) (map at bs)

  abbrev right_of : List ℕ → List Sizes
  right_of cs = parts (modules_at result (map given cs))

  both_same : (ns : List ℕ) → ((k : ℕ) → Among ns k → Meets stands whole at given all result k (twin_of k))
      → left_of (bodies_of stands ns) ≡ right_of (bodies_of whole (map twin_of ns))
  both_same [] h = refl
  both_same (n ∷ ns) h = step (h n (0, refl)) (both_same ns (λ k a. h k (later_among n ns k a)))
    where
      step : Meets stands whole at given all result n (twin_of n)
          → left_of (bodies_of stands ns) ≡ right_of (bodies_of whole (map twin_of ns))
          → left_of (bodies_of stands (n ∷ ns)) ≡ right_of (bodies_of whole (twin_of n ∷ map twin_of ns))
      step m rest =
          ap (λ (o : Option ℕ). left_of (cons_option o (bodies_of stands ns))) m.starts
          ∙ ap (λ (o : Option (Part × Module)). sizes_in o ++ left_of (bodies_of stands ns)) m.there
          ∙ ap₂ (λ (s : Sizes) (ss : List Sizes). s ∷ ss) (sym m.sizes) rest
          ∙ sym (ap (λ (o : Option Compiled). parts
          (module_in o ++ modules_at result (map given (bodies_of whole (map twin_of ns))))) m.built)
          ∙ sym (ap (λ (o : Option ℕ). right_of (cons_option o (bodies_of whole (map twin_of ns)))) m.builds)

-- ---- the walks

module _ (given : List Tree) (jobs : Jobs given) (ps : List Part) (w : Sides given jobs ps) where
  abbrev whole : List Module
  whole = trees w.ordered

  abbrev stands : List Module
  stands = trees w.others

  abbrev twin_of : ℕ → ℕ
  twin_of = image whole stands

  abbrev Pairs : ℕ → Type 0
  Pairs = Paired given jobs ps w

  apart : (j k : ℕ) → Pairs j → Pairs k → twin_of j ≡ twin_of k → j ≡ k
  apart j k a b e =
      let q : a.i ≡ b.i = sym a.image_is ∙ e ∙ b.image_is in
      let same : a.m ≡ b.m = same_at (slice_get whole b.i) a.m b.m (ap (slice_get whole) (sym q) ∙ a.there) b.there in
      (are_fine w.others w.others_fine).apart j k a.s b.s a.at b.at (a.kind ∙ ap is_definition same ∙ sym b.kind)
      (a.same ∙ ap (λ (m : Module). m.name.name) same ∙ sym b.same)

  named_pair : (k : ℕ) → IsNamed stands k → Pairs k
  named_pair k n = let f = meant stands n.0 k n.1 in pair_definition given jobs ps w k f.m f.at f.kind

  -- the name that means an empty definition means its twin in the program
  means : (n : List ℕ) (t : ℕ) → definition_of stands n ≡ Some t → definition_of whole n ≡ Some (twin_of t)
  means n t e = let f = meant stands n t e in
      ap (definition_of whole) f.same ∙ defined_at given jobs ps w t f.m f.at f.kind

  imported_means : (j : ℕ) (a : Pairs j) (n : List ℕ) → Among (map string_bytes a.p.imports.items) n
      → definition_of whole n ≡ option_map twin_of (definition_of stands n)
  imported_means j a n i =
      let r = map_among (λ (x : Ident). x.name) (imports_of (body_of a.p)) n
      (subst (λ (ns : List (List ℕ)). Among ns n) (sym (body_imports a.p)) i) in
      elim ((are_fine w.others w.others_fine).imports (body_of a.p) r.0 (a.b, a.stand_at) r.1) [
        | inl c ↦ (
            let k : is_console n ≡ true = ap is_console (sym r.2) ∙ c in
            no_console w.ordered w.fine n k ∙ sym (ap (option_map twin_of) (no_console w.others w.others_fine n k)))
        | inr t ↦ (
            let e : definition_of stands n ≡ Some t.0 = ap (definition_of stands) (sym r.2) ∙ t.1 in
            means n t.0 e ∙ sym (ap (option_map twin_of) e))
      ]

  thinned : (j : ℕ) → Pairs j → Thins [] (targets (walks whole) (twin_of j)) (map twin_of (targets (walks stands) j))
  thinned j a =
      let names : List (List ℕ) = names_of (all_imported (given_trees given) a.is_part.body) in
      let kept : List (List ℕ) = map string_bytes a.p.imports.items in
      let t : Thins [] (filter_map (definition_of whole) names)
      (filter_map (definition_of whole) (unless is_console names)) =
      thins (definition_of whole) names is_console []
      (λ n k c e. absurd (none-some k (sym (no_console w.ordered w.fine n c) ∙ e))) in
      let e : filter_map (definition_of whole) (unless is_console names) ≡ map twin_of (targets (walks stands) j) =
      ap (filter_map (definition_of whole)) (sym a.is_part.imports)
      ∙ filtered_same (definition_of whole) (λ n. option_map twin_of (definition_of stands n)) kept (imported_means j a)
      ∙ sym (filtered_mapped (definition_of stands) twin_of kept)
      ∙ ap (map twin_of) (sym a.row) in
      let r : targets (walks whole) (twin_of j) ≡ filter_map (definition_of whole) names =
      ap (targets (walks whole)) a.image_is ∙ a.whole_row in
      subst (λ (ks : List ℕ). Thins [] ks (map twin_of (targets (walks stands) j))) (sym r)
      (subst (λ (ks : List ℕ). Thins [] (filter_map (definition_of whole) names) ks) e t)

  matching : Matching (walks stands) (walks whole) Pairs twin_of
  matching = record {
    apart = apart;
    closed = λ j k h. named_pair k (walk_named stands j k h);
    thins = thinned;
  }

  -- what starts at both nodes
  meets : (j : ℕ) → Pairs j → Meets stands whole (given_of w.others) (given_of w.ordered) (stands_for ps)
      (comes_of given jobs) j (twin_of j)
  meets j a = record {
    b = a.b;
    starts = a.starts;
    x = (a.p, body_of a.p);
    there = a.stand;
    c = a.c;
    builds = ap (λ (k : ℕ). starts_at whole k (slice_get whole k)) a.image_is ∙ a.builds;
    y = a.is_part.built;
    built = ap (comes_of given jobs) a.file ∙ a.is_part.is_built;
    sizes = a.is_part.sizes ∙ ap (λ (n : List ℕ).
        record { name = n; variables = a.p.sizes.variables; texts = a.p.sizes.texts; slots = a.p.sizes.slots })
        (sym (body_name a.p ∙ a.is_part.name));
  }

  module _ (program : ℕ) (is_program_at : first_that is_program whole ≡ Some program) (walk : List ℕ)
      (is_walk : IsStartOrder (walks whole) program walk)
      (first : ℕ) (is_first : first_that is_program stands ≡ Some first) (order : List ℕ)
      (is_order : IsStartOrder (walks stands) first order) where
    begins : Pairs first
    begins = pair_program given jobs ps w first is_first program is_program_at

    walked : Walks (walks whole) (One (twin_of first)) [] (map twin_of order) (map twin_of is_order.0)
    walked = follows (walks stands) (walks whole) Pairs twin_of matching (One first) [] order is_order.0 is_order.1
        begins (λ k h. absurd (false≢true h))

    walks_same : walk ≡ map twin_of order
    walks_same = one_start_order (walks whole) program walk (map twin_of order) is_walk (
      map twin_of is_order.0,
      subst (λ (n : ℕ). Walks (walks whole) (One n) [] (map twin_of order)
          (map twin_of is_order.0)) (program_image given jobs ps w first is_first program is_program_at) walked,
    )

    good : (k : ℕ) → Among order k → Pairs k
    good k a = are_good (walks stands) (walks whole) Pairs twin_of matching (One first) [] order is_order.0 is_order.1
        begins k (among_has order k a)

    pub started_same : started ps (map (given_of w.others) (bodies_of stands order))
        ≡ parts (modules_at (comes_of given jobs) (map (given_of w.ordered) (bodies_of whole walk)))
    started_same =
        both_same stands whole (given_of w.others) (given_of w.ordered) (stands_for ps) (comes_of given jobs) twin_of
        order (λ k a. meets k (good k a))
        ∙ ap (λ (ns : List ℕ). parts (modules_at (comes_of given jobs) (map (given_of w.ordered) (bodies_of whole ns))))
        (sym walks_same)

pub parts_start : PartsStartInOrder
parts_start given jobs ps all numbers needs starts graph =
    let a = jobs.is_graph in
    let w : Sides given jobs ps = record {
      parts = all;
      ordered = a.0;
      in_order = a.1;
      fine = a.2.fine;
      others = graph.0;
      others_in_order = graph.1;
      others_fine = graph.2.fine;
    } in
    let x = a.2.is_starts in
    let y = graph.2.is_starts in
    ap (started ps) y.started
    ∙ started_same given jobs ps w x.program x.is_program x.walk x.is_walk y.program y.is_program y.walk y.is_walk
    ∙ ap (λ (ss : List ℕ). parts (modules_at (comes_of given jobs) ss)) (sym x.started)

pub linking_builds : LinkingIsBuilding
linking_builds given jobs ps all pages bytes l =
    l.link ∙ ap (λ (ms : List Sizes). code_bytes (cut_module (link_of ms pages)))
    (parts_start given jobs ps all l.numbers l.needs l.starts l.is_graph)
