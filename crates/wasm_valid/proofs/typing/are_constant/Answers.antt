use Rattle.wasm_valid.proofs.Opened.{constant_trees, constant_ops}
use Rattle.wasm_valid.proofs.typing.are_constant.Goals as goal

pub returns : goal.returns
returns c = (
  λ h. constant_trees c.args.code.now (c.are_constant_ops.ensures.0 h),
  λ h. c.are_constant_ops.ensures.1
      (constant_ops c.args.code.now h),
)
