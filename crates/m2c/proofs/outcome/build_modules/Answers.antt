use Rattle.std.proofs.Common.{◌≡◌, ◌≤◌, ◌+◌, ◌*◌, ℕ, List, map, ap, sym, subst, ◌∙◌}
use Rattle.std.specs.Prelude.{All}
use Rattle.std.specs.Global.{Vec}
use Rattle.def_scheme.specs.Modules.{link_of, stack_begin}
use Rattle.m2_emit.specs.declared.emitted.ModuleBytes.{ModuleBytes}
use Rattle.emit_buffer.specs.Cut.{cut_module}
use Rattle.m2_emit.specs.Emitted.{parts, code_bytes}
use Rattle.build_jobs.specs.Borrowed.{borrow_trees}
use Rattle.m2c.specs.Build.{name_bytes, named_bytes}
use Rattle.build_results.specs.Results.{start_modules}
use Rattle.m2c.proofs.Graphs.{is_program}
use Rattle.m2c.proofs.Borrowed.{copies_borrowed}
use Rattle.m2c.proofs.Named.{borrowed_named, started_named}
use Rattle.m2c.specs.Names.{IsName}
use Rattle.m2c.proofs.outcome.build_modules.Goals as goal

abbrev items_of : Vec ℕ → List ℕ
items_of v = v.items

pub copies_of-requires : goal.copies_of-requires
copies_of-requires c =
    let g = c.args.graph.now in
    let fs = borrow_trees c.args.trees.now in
    let jobs = map items_of g.jobs.items in
    borrowed_named c.args.modules.now
    (subst (All (λ (x : ModuleBytes). IsName x.name)) (sym c.requires.modules)
    (started_named c.args.files.now fs g.files.items jobs g.starts.items c.requires.graph c.requires.none))

pub returns : goal.returns
returns c =
    let g = c.args.graph.now in
    let fs = borrow_trees c.args.trees.now in
    let whole = start_modules fs g.files.items (map items_of g.jobs.items) g.starts.items in
    let link_is : c.in_ok-link.link.items ≡ code_bytes (cut_module (link_of (parts whole) c.args.pages)) =
    c.in_ok-link.ensures ∙ ap (λ (ms : List ModuleBytes). code_bytes (cut_module (link_of (parts ms) c.args.pages)))
    c.requires.modules
    in
    let built_are : map name_bytes c.in_ok-modules.modules.items ≡ map named_bytes whole = c.in_ok-modules.ensures
    ∙ copies_borrowed c.args.modules.now ∙ ap (map named_bytes) c.requires.modules in
    let fits : stack_begin (parts whole) + 4096 ≤ 65536 * c.args.pages =
    subst (λ (ms : List ModuleBytes). stack_begin (parts ms) + 4096 ≤ 65536 * c.args.pages) c.requires.modules
    c.requires.fits in
    is_program c.args.files.now fs g.files.items (map items_of g.jobs.items) g.starts.items c.requires.graph
    c.requires.none c.args.pages c.requires.least c.requires.most fits
    c.in_ok-link.link.items (map name_bytes c.in_ok-modules.modules.items) link_is built_are
