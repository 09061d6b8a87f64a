-- Procedures in procedures, in the order of their headings.
use Rattle.std.specs.Prelude.{ℕ, ◌+◌, List, [], ◌∷◌, ◌++◌, length, slice_get}
use Rattle.std.specs.List.{fold}
use Rattle.std.specs.Option.{unwrap_or}
use Rattle.m2_tree.specs.declared.decl.Decl.{Decl, Decl-F, out-Decl, fold-Decl}
use Rattle.m2_tree.specs.declared.decl.Decl.TheOpen as layer
use Rattle.m2_tree.specs.declared.decl.Block.{Block, Block-F, fold-Block}

-- ---- of each procedure of a block, and of those in it, how many procedures stand within

abbrev pub decl_layer : Decl-F (List ℕ) (List ℕ) → List ℕ
decl_layer (layer.Constants cs) = []
decl_layer (layer.Types ts) = []
decl_layer (layer.Variables vs) = []
decl_layer (layer.Procedure h inner) = length inner ∷ inner

abbrev pub append_names : List ℕ → List ℕ → List ℕ
append_names so ns = so ++ ns

abbrev pub block_layer : Block-F (List ℕ) (List ℕ) → List ℕ
block_layer b = fold append_names [] b.decls

unfoldable pub within_decl : Decl → List ℕ
within_decl = fold-Decl (List ℕ) (List ℕ) decl_layer block_layer

unfoldable pub within : Block → List ℕ
within = fold-Block (List ℕ) (List ℕ) decl_layer block_layer

-- ---- numbers

-- the number that comes behind a procedure and those within it, if they are numbered from n on
abbrev pub ends_from : (n : ℕ) → List ℕ → List ℕ
ends_from n [] = []
ends_from n (k ∷ ks) = (n + 1 + k) ∷ ends_from (n + 1) ks

-- the same of the procedures of a block, behind others
abbrev pub with_ends : List ℕ → Block → List ℕ
with_ends so b = so ++ ends_from (length so) (within b)

abbrev pub with_ends_within : List ℕ → Decl → List ℕ
with_ends_within so d = so ++ ends_from (length so) (within_decl d)

-- the procedures of a module itself have numbers of their own
abbrev pub with_procedure_ends : List ℕ → Decl-F Decl Block → List ℕ
with_procedure_ends so (layer.Constants cs) = so
with_procedure_ends so (layer.Types ts) = so
with_procedure_ends so (layer.Variables vs) = so
with_procedure_ends so (layer.Procedure h b) = with_ends so b

abbrev pub with_decl_ends : List ℕ → Decl → List ℕ
with_decl_ends so d = with_procedure_ends so (out-Decl d)

abbrev pub procedure_ends : List Decl → List ℕ
procedure_ends decls = fold with_decl_ends [] decls

abbrev pub number_behind : (ends : List ℕ) → ℕ → ℕ
number_behind ends n = unwrap_or (slice_get ends n) n
