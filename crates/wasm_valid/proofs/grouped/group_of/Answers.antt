use Rattle.std.proofs.Common.{leb, sym, rules}
use Rattle.std.proofs.lemmas.List.Sorted.{IsPartitionPoint-from_clause, IsPartitionedBy-leb}
use Rattle.wasm_valid.proofs.Located.{ends_rise, type_found}
use Rattle.wasm_valid.proofs.grouped.group_of.Goals as goal

pub returns : goal.returns
returns c =
    let locals = c.args.locals in
    let parted = IsPartitionedBy-leb (λ n. n) locals.ends.now c.args.index
    (ends_rise locals.groups.now locals.ends.now locals.counted) in
    let point = IsPartitionPoint-from_clause (λ n. leb n c.args.index) _ _ c.partition_point.ensures.partitioned parted
    (λ a r q k. search rules) in
    sym (type_found locals.groups.now locals.ends.now c.partition_point.result c.args.index locals.counted
    c.partition_point.ensures.bound point)
