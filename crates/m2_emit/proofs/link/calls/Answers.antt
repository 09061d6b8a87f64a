use Rattle.std.proofs.Common.{◌++◌, map, sym, ap, ◌∙◌, arith}
use Rattle.std.proofs.lemmas.List.{drop_all, append-nil}
use Rattle.wasm_tree.specs.Code.{tree}
use Rattle.emit_buffer.specs.Cut.{cut_op}
use Rattle.m2_emit.specs.Emitted.{parts}
use Rattle.m2_emit.proofs.Lists.{call_ops, calls}
use Rattle.m2_emit.proofs.link.calls.Goals as goal

pub returns : goal.returns
returns c =
    let ops = c.loop.ops.items in
    let modules = c.args.modules.now in
    let none = drop_all c.loop.index modules (omega (arith, c.loop-test.false)) in
    let last = ap (λ rest. ops ++ map cut_op (call_ops c.args.stack.now c.loop.global (parts (map (λ m. m.now) rest))))
    none in
    let is = sym (append-nil ops) ∙ sym last ∙ c.loop.invariant in
    c.new.ensures ∙ ap tree is ∙ calls c.args.stack.now 3 (parts (map (λ m. m.now) modules))
