-- How deep procedures nest in trees.
use Rattle.std.specs.Prelude.{◌≤◌, ℕ, ◌+◌, List}
use Rattle.m2_tree.specs.declared.token.Token.{Token}
use Rattle.m2_tree.specs.declared.decl.Decl.{Decl, Decl-F, fold-Decl}
use Rattle.m2_tree.specs.declared.decl.Decl.TheOpen as layer
use Rattle.m2_tree.specs.declared.decl.Block.{Block, Block-F, fold-Block}
use Rattle.m2_tree.specs.declared.decl.Contents.{Contents}
use Rattle.m2_tree.specs.declared.decl.Contents.TheVariants as contents
use Rattle.m2_tree.specs.declared.decl.Module.{Module}
use Rattle.def_grammar.specs.Refusal.{IsTree, max_nesting}
use Rattle.law_encoding.specs.Nesting.{deepest}

abbrev pub decl_layer : Decl-F ℕ ℕ → ℕ
decl_layer (layer.Constants cs) = 0
decl_layer (layer.Types ts) = 0
decl_layer (layer.Variables vs) = 0
decl_layer (layer.Procedure h block) = 1 + block

abbrev pub block_layer : Block-F ℕ ℕ → ℕ
block_layer b = deepest b.decls

unfoldable pub procedures_decl : Decl → ℕ
procedures_decl = fold-Decl ℕ ℕ decl_layer block_layer

unfoldable pub procedures_block : Block → ℕ
procedures_block = fold-Block ℕ ℕ decl_layer block_layer

abbrev pub procedures_contents : Contents → ℕ
procedures_contents (contents.Definition defs) = 0
procedures_contents (contents.Implementation b) = procedures_block b
procedures_contents (contents.Program b) = procedures_block b

abbrev pub procedures_module : Module → ℕ
procedures_module m = procedures_contents m.contents

-- In the tree of a text at most 200 procedures stand in one another.
abbrev pub ProceduresAreShallow : Type 0
ProceduresAreShallow = (ts : List Token) (m : Module) → IsTree ts m
    → procedures_module m ≤ max_nesting
