-- That procedures in procedures have the numbers that are counted in the text.
use Rattle.std.specs.Prelude.{◌≡◌, ℕ, ◌+◌, List, [], ◌∷◌, ◌++◌, length}
use Rattle.m2_tree.specs.declared.decl.Heading.{Heading}
use Rattle.m2_tree.specs.declared.decl.Decl.{Decl, out-Decl}
use Rattle.m2_tree.specs.declared.decl.Decl.TheOpen as layer
use Rattle.m2_tree.specs.declared.decl.Block.{Block, out-Block}
use Rattle.check_block.specs.Nesting.{within_decl, ends_from, procedure_ends}
use Rattle.def_typed.specs.Numbers.{procedures_in, next_nested, behind_inside}

-- of each procedure of declarations, and of those in it, how many procedures stand within
abbrev pub within_all : List Decl → List ℕ
within_all [] = []
within_all (d ∷ ds) = within_decl d ++ within_all ds

-- the number behind procedures of a procedure
abbrev pub behind_nested : (n : ℕ) → List Decl → ℕ
behind_nested n [] = n
behind_nested n (d ∷ ds) = behind_nested (next_nested n (out-Decl d)) ds

-- The numbers behind these procedures are among those that were counted for the module.
pub record AreCounted (ends : List ℕ) (first : ℕ) (ds : List Decl) : Type 0 where
  pub before : List ℕ
  pub after : List ℕ
  pub all : ends ≡ before ++ (ends_from first (within_all ds) ++ after)
  pub here : length before ≡ first

-- So it is in each procedure of a module, behind those that stand in the procedures in front.
abbrev pub ModulesAreCounted : Type 0
ModulesAreCounted =
    (before : List Decl) (d : Decl) (after : List Decl) (h : Heading) (b : Block)
    → out-Decl d ≡ layer.Procedure h b
    → AreCounted (procedure_ends (before ++ d ∷ after)) (behind_inside 0 before) (out-Block b).decls

-- So it is in a procedure of a procedure, behind its own number, and behind it.
abbrev pub BlocksAreCounted : Type 0
BlocksAreCounted =
    (ends : List ℕ) (n : ℕ) (d : Decl) (ds : List Decl) (h : Heading) (b : Block)
    → out-Decl d ≡ layer.Procedure h b → AreCounted ends n (d ∷ ds)
    → AreCounted ends (n + 1) (out-Block b).decls × AreCounted ends (n + 1 + procedures_in b) ds
