use Rattle.std.proofs.Common.{List, [], ◌∷◌, ◌++◌, Option, ap, ◌∙◌}
use Rattle.wasm_tree.specs.declared.kinds.ValueType.{ValueType}
use Rattle.wasm_tree.specs.Code.{tree}
use Rattle.wasm_valid.specs.declared.frame.Frame.{Frame}
use Rattle.wasm_valid.specs.declared.grouped.Groups.{Groups}
use Rattle.wasm_valid.proofs.Within.{body_decides}
use Rattle.wasm_valid.proofs.body.check_body.Goals as goal

pub returns : goal.returns
returns c =
    let locals : Groups = record {
      groups = c.as_slice-groups.result;
      ends = c.as_slice-3.result;
      counted =
          c.as_slice-3.ensures.value ∙ c.in_ok-count_ends.ensures;
    } in
    let frame : Frame = record {
      scope = c.args.scope;
      params = c.as_slice-2.result;
      locals = locals;
      returns =
          c.result_of-returns.result;
    } in
    let block = c.in_ok-push.ensures.ok ∙ ap (λ (x : List (Option ValueType)). x ++ c.result_of-returns.result ∷ [])
    c.new-blocks.ensures in
    body_decides c.check_code.result frame c.push.new.self c.args.func_type.now c.args.body.now.locals
    (tree c.ops.result.now) c.args.body.now.code c.as_slice-2.ensures c.as_slice-groups.ensures block
    (c.result_of-returns.ensures ∙ c.as_slice.ensures) c.ops.ensures c.check_code.ensures.fits
