use Rattle.std.proofs.Common.{◌≡◌, ◌<◌, ◌≤◌, ◌+◌, ◌*◌, ℕ, min, List, map, ap, subst, ◌∙◌, arith}
use Rattle.std.specs.Prelude.{slice_get}
use Rattle.std.specs.List.{flat_map}
use Rattle.std.specs.Global.{Vec}
use Rattle.m2_tree.specs.declared.decl.Module.{Module}
use Rattle.m2_graph.specs.Files.{number_files}
use Rattle.m2_graph.specs.Graph.{IsGraph}
use Rattle.layout_storage.specs.Sizes.{page_size}
use Rattle.def_meaning.specs.Runs.{least_stack}
use Rattle.def_scheme.specs.Modules.{link_of, max_pages, stack_begin}
use Rattle.def_scheme.specs.Modules.{Part as Sizes}
use Rattle.emit_buffer.specs.Cut.{cut_module}
use Rattle.m2_emit.specs.declared.emitted.ModuleBytes.{ModuleBytes}
use Rattle.m2_emit.specs.Emitted.{code_bytes, parts}
use Rattle.link_parts.specs.declared.part.Part.{Part}
use Rattle.link_parts.specs.Stands.{stand_of, stands_for, trees_of}
use Rattle.link_parts.specs.Linked.{sizes_in, started}
use Rattle.std.proofs.lemmas.Result.{err_from_is_err_and}
use Rattle.link_parts.proofs.Faulting.{graph_fault}
use Rattle.link_parts.proofs.Naming.{names_fault}
use Rattle.link_parts.proofs.linking.link_modules.Goals as goal

abbrev items_of : Vec ℕ → List ℕ
items_of v = v.items

pub returns-clause-link : goal.returns-clause-link
returns-clause-link c =
    let g = c.in_ok-graph.graph in
    let all : map stand_of c.deref.result.now ≡ stands_for c.args.parts.now = ap (map stand_of) c.deref.ensures.value
    ∙ c.in_ok-stands.ensures.stands in
    let same : map stand_of c.deref-2.result.now ≡ stands_for c.args.parts.now =
    ap (map stand_of) c.deref-2.ensures.value ∙ c.in_ok-stands.ensures.stands in
    let modules : parts c.in_ok-modules.modules.items ≡ started c.args.parts.now g.starts.items =
    c.in_ok-modules.ensures ∙ ap (λ (ss : List (Part × Module)). flat_map (λ n. sizes_in (slice_get ss n))
    c.start_order.result.now) same ∙ ap (started c.args.parts.now) c.start_order.ensures
    in
    let pages : c.min-pages.result ≡ min c.args.pages max_pages = c.min-pages.ensures in
    let sized : parts c.deref-3.result.now ≡ started c.args.parts.now g.starts.items =
    ap (λ (ms : List ModuleBytes). parts ms) c.deref-3.ensures.value ∙ modules in
    let linked : parts c.deref-4.result.now ≡ started c.args.parts.now g.starts.items =
    ap (λ (ms : List ModuleBytes). parts ms) c.deref-4.ensures.value ∙ modules in
    record {
      fit = c.in_ok-check_parts.ensures.fits;
      numbers = g.files.items;
      needs = map items_of g.jobs.items;
      starts = g.starts.items;
      is_graph = subst (λ (ss : List (Part × Module)). IsGraph (number_files 0 (trees_of ss)) g.files.items
          (map items_of g.jobs.items) g.starts.items) all c.in_ok-graph.ensures.graph;
      fits = subst (λ (n : ℕ). stack_begin (started c.args.parts.now g.starts.items) + least_stack ≤ page_size * n)
          pages
          (subst (λ (ms : List Sizes). stack_begin ms + least_stack ≤ page_size * c.min-pages.result) sized
          (c.pages_for-needed.ensures.enough c.min-pages.result (omega (arith, c.min-pages.ensures))
          (omega (arith, c.if-needed-from.false, c.from.ensures))));
      link = c.in_ok-link.ensures
          ∙ ap (λ (ms : List Sizes). code_bytes (cut_module (link_of ms c.min-pages.result))) linked
          ∙ ap (λ (n : ℕ). code_bytes (cut_module (link_of (started c.args.parts.now g.starts.items) n))) pages;
    }

-- the fault of a name of these modules
pub returns-in_err-stands-clause-fault : goal.returns-in_err-stands-clause-fault
returns-in_err-stands-clause-fault c =
    let p = err_from_is_err_and c.from_residual-in_err-stands.result c.from_residual-in_err-stands.ensures.1 in
    rw (p.1, p.2) (names_fault c.args.parts.now (min c.args.pages max_pages) c.in_err-stands.field-0.0
    c.in_err-stands.ensures.fault)

-- the fault of a graph of these modules
pub returns-in_err-graph-clause-fault : goal.returns-in_err-graph-clause-fault
returns-in_err-graph-clause-fault c =
    let p = err_from_is_err_and c.from_residual-in_err-graph.result c.from_residual-in_err-graph.ensures.1 in
    let all : map stand_of c.deref.result.now ≡ stands_for c.args.parts.now = ap (map stand_of) c.deref.ensures.value
    ∙ c.in_ok-stands.ensures.stands in
    rw (p.1, p.2) (graph_fault c.args.parts.now (min c.args.pages max_pages) (map stand_of c.deref.result.now)
    c.in_err-graph.field-0.0 all c.in_err-graph.ensures.fault)

pub returns-then-needed-from-clause-fault : goal.returns-then-needed-from-clause-fault
returns-then-needed-from-clause-fault c =
    let g = c.in_ok-graph.graph in
    let all : map stand_of c.deref.result.now ≡ stands_for c.args.parts.now = ap (map stand_of) c.deref.ensures.value
    ∙ c.in_ok-stands.ensures.stands in
    let same : map stand_of c.deref-2.result.now ≡ stands_for c.args.parts.now =
    ap (map stand_of) c.deref-2.ensures.value ∙ c.in_ok-stands.ensures.stands in
    let modules : parts c.in_ok-modules.modules.items ≡ started c.args.parts.now g.starts.items =
    c.in_ok-modules.ensures ∙ ap (λ (ss : List (Part × Module)). flat_map (λ n. sizes_in (slice_get ss n))
    c.start_order.result.now) same ∙ ap (started c.args.parts.now) c.start_order.ensures
    in
    let pages : c.min-pages.result ≡ min c.args.pages max_pages = c.min-pages.ensures in
    let sized : parts c.deref-3.result.now ≡ started c.args.parts.now g.starts.items =
    ap (λ (ms : List ModuleBytes). parts ms) c.deref-3.ensures.value ∙ modules in
    let more : c.min-pages.result < c.pages_for-needed.result = omega (arith, c.if-needed-from.true, c.from.ensures) in (
      record {
        numbers = g.files.items;
        needs = map items_of g.jobs.items;
        starts = g.starts.items;
        is_graph = subst (λ (ss : List (Part × Module)). IsGraph (number_files 0 (trees_of ss)) g.files.items
            (map items_of g.jobs.items) g.starts.items) all c.in_ok-graph.ensures.graph;
        too_large = subst (λ (n : ℕ). page_size * n < stack_begin (started c.args.parts.now g.starts.items) +
            least_stack) pages
            (subst (λ (ms : List Sizes). page_size * c.min-pages.result < stack_begin ms + least_stack) sized
            (c.pages_for-needed.ensures.needed c.min-pages.result (omega (arith, c.min-pages.ensures)) more));
      },
      subst (λ (n : ℕ). n < c.pages_for-needed.result) pages more,
    )
