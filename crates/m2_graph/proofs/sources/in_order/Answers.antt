use Rattle.std.proofs.Common.{◌≡◌, rules}
use Rattle.std.specs.Ordering.{is_lt}
use Rattle.std.proofs.lemmas.Cmp.{nat_list_cmp_total}
use Rattle.std.proofs.lemmas.Fn.{always_returns_same}
use Rattle.std.proofs.lemmas.List.MinMax.{ranks_by}
use Rattle.m2_graph.specs.declared.sources.Source.{Source}
use Rattle.m2_graph.specs.Files.{files_of}
use Rattle.m2_graph.proofs.Ordered.{order_of, goes_before}
use Rattle.m2_graph.proofs.sources.in_order.Goals as goal

pub returns : goal.returns
returns c =
    let ranks = ranks_by nat_list_cmp_total (λ (f : Source). f.name.now) in
    let compares = always_returns_same _ (λ a r. is_lt r ≡ goes_before a.0.now a.1.0.now) _
    (λ a r f k. (search rules, search rules)) in
    order_of (files_of c.args.files.now) c.in_ok-ordered.ordered.items c.sort_by.new.self.items c.in_ok-ordered.ensures
    c.in_ok-sort_by.ensures.permutation (c.in_ok-sort_by.ensures.sorted goes_before ranks compares)
    (c.in_ok-sort_by.ensures.stable goes_before ranks compares)
