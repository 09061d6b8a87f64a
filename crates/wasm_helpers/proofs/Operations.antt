-- The operations have the code of their functions.
use Rattle.std.proofs.Common.{◌≡◌, refl}
use Rattle.wasm_tree.specs.Code.{tree, tree_within}
use Rattle.wasm_helpers.specs.Codes.{check_code, copy_code, div_code, fill_code, mod_code}
use Rattle.wasm_helpers.specs.Operations.{check_ops, copy_ops, div_ops, fill_ops, mod_ops}

pub check_is : tree check_ops ≡ check_code
unfolding tree tree_within
check_is = refl

pub fill_is : tree fill_ops ≡ fill_code
unfolding tree tree_within
fill_is = refl

pub copy_is : tree copy_ops ≡ copy_code
unfolding tree tree_within
copy_is = refl

pub div_is : tree div_ops ≡ div_code
unfolding tree tree_within
div_is = refl

pub mod_is : tree mod_ops ≡ mod_code
unfolding tree tree_within
mod_is = refl
