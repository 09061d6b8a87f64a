use Rattle.wasm_engine.proofs.Combining.{below_operation, below_relation}
use Rattle.wasm_engine.proofs.combined.combine_64.Goals as goal

pub operate-requires : goal.operate-requires
operate-requires c = below_operation c.args.numeric c.args.stack.now.known.values c.args.number
    c.in-I64Operation.operation c.requires c.in-I64Operation.is

pub compare-requires : goal.compare-requires
compare-requires c = below_relation c.args.numeric c.args.stack.now.known.values c.args.number c.in-I64Relation.relation
    c.requires c.in-I64Relation.is
