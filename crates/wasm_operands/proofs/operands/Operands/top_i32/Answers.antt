use Rattle.std.proofs.Common.{◌-◌, arith}
use Rattle.wasm_operands.proofs.Cells.{as_many, some_32, found_32}
use Rattle.wasm_operands.proofs.operands.Operands.top_i32.Goals as goal

pub returns : goal.returns
returns c =
    found_32 c.args.self.now.known.values c.args.self.now.cells.items (c.len.result - 1) c.index.result.now
    c.args.self.now.bits (omega (
      arith,
      c.len.ensures,
      c.args.self.now.cells.ok.0,
      some_32
          c.args.self.now.known.values c.requires,
      as_many c.args.self.now.known.values c.args.self.now.cells.items
          c.args.self.now.bits,
    )) c.index.ensures c.requires
