use Rattle.std.proofs.Common.{◌≡◌, rules}
use Rattle.std.specs.Ordering.{is_lt}
use Rattle.std.specs.String.{string_bytes}
use Rattle.std.proofs.lemmas.Cmp.{nat_list_cmp_total}
use Rattle.std.proofs.lemmas.Fn.{always_returns_same}
use Rattle.std.proofs.lemmas.List.MinMax.{ranks_by}
use Rattle.m2_tree.specs.declared.refusal.Refusal.{Refusal}
use Rattle.build_results.specs.Order.{is_before}
use Rattle.build_results.proofs.order.in_order.Goals as goal

pub returns : goal.returns
returns c =
    let ranks = ranks_by nat_list_cmp_total (λ (r : Refusal). string_bytes r.file) in
    let compares = always_returns_same _ (λ a r. is_lt r ≡ is_before a.0.now a.1.0.now) _
    (λ a r f k. (search rules, search rules)) in record {
      same = c.in_ok-sort_by.ensures.permutation;
      sorted = c.in_ok-sort_by.ensures.sorted is_before ranks compares;
      stable = c.in_ok-sort_by.ensures.stable is_before ranks compares;
    }
