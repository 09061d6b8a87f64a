use Rattle.std.proofs.Common.{◌≡◌, true, List, [], length, nat_lt, subst, sym, arith}
use Rattle.std.proofs.lemmas.List.{nil_from_length}
use Rattle.wasm_tree.specs.declared.module.Function.{Function}
use Rattle.wasm_binary.specs.Binary.{bodies_encoding}
use Rattle.wasm_binary.proofs.Whole.{no_bodies}
use Rattle.wasm_binary.proofs.module_bytes.write_code_section.Goals as goal

pub returns-then-is_empty-clause-size : goal.returns-then-is_empty-clause-size
returns-then-is_empty-clause-size c =
    let none : c.args.functions.now ≡ [] = nil_from_length c.args.functions.now (grind arith) in
    subst (λ (fs : List Function). nat_lt (length (bodies_encoding fs)) 4294967296 ≡ true) (sym none) no_bodies
