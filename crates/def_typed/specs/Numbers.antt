-- How the names of a block are numbered: its variables in the order of their declarations, and its
-- procedures in the order of their headings.
use Rattle.std.specs.Prelude.{ℕ, ◌+◌, Bool, true, false, List, [], ◌∷◌, ◌++◌, Option, Some, None}
use Rattle.std.specs.List.{fold}
use Rattle.m2_tree.specs.declared.name.Ident.{Ident}
use Rattle.m2_tree.specs.declared.decl.Heading.{Heading}
use Rattle.m2_tree.specs.declared.decl.Decl.{Decl, Decl-F, out-Decl}
use Rattle.m2_tree.specs.declared.decl.Decl.TheOpen as layer
use Rattle.m2_tree.specs.declared.decl.Block.{Block, Block-F, fold-Block}
use Rattle.typed_tree.specs.declared.types.TypeNo.{TypeNo}
use Rattle.typed_tree.specs.declared.meaning.LocalKind.TheVariants as kind
use Rattle.typed_tree.specs.declared.meaning.Meaning.{Meaning}
use Rattle.typed_tree.specs.declared.meaning.Meaning.TheVariants as meaning
use Rattle.def_typing.specs.Declarations.{Declaration, OfConstant, OfType, OfVariables, OfProcedure}

abbrev pub variables_by : Declaration → List Ident
variables_by (OfConstant c) = []
variables_by (OfType d) = []
variables_by (OfVariables v) = v.names
variables_by (OfProcedure h) = []

-- the variables of declarations, in order
abbrev pub variables_in : List Declaration → List Ident
variables_in [] = []
variables_in (d ∷ ds) = variables_by d ++ variables_in ds

-- the variable of a module or of a procedure of this level with this number
abbrev pub variable_at : (outermost : Bool) → (home level number : ℕ) → TypeNo → Meaning
variable_at true home level number t =
    meaning.Variable (record { home = home; number = number; of = t })
variable_at false home level number t =
    meaning.Local (record { level = level; number = number; kind = kind.Variable; of = t })

abbrev pub headings_by : {A B : Type 0} → Decl-F A B → List Heading
headings_by (layer.Procedure h b) = h ∷ []
headings_by (layer.Constants cs) = []
headings_by (layer.Types ts) = []
headings_by (layer.Variables vs) = []

-- the headings of declarations, in order
abbrev pub headings_in : List Decl → List Heading
headings_in [] = []
headings_in (d ∷ ds) = headings_by (out-Decl d) ++ headings_in ds

-- ---- numbers of procedures

-- how many procedures stand in a declaration, and in a block
abbrev pub counted_decl : Decl-F ℕ ℕ → ℕ
counted_decl (layer.Constants cs) = 0
counted_decl (layer.Types ts) = 0
counted_decl (layer.Variables vs) = 0
counted_decl (layer.Procedure h within) = 1 + within

abbrev pub counted_block : Block-F ℕ ℕ → ℕ
counted_block b = fold (λ n k. n + k) 0 b.decls

unfoldable pub procedures_in : Block → ℕ
procedures_in = fold-Block ℕ ℕ counted_decl counted_block

-- In a procedure each gets a number, and those that stand in it get the numbers behind its own.
abbrev pub nested_by : (n : ℕ) → Decl-F Decl Block → List (Heading × ℕ)
nested_by n (layer.Constants cs) = []
nested_by n (layer.Types ts) = []
nested_by n (layer.Variables vs) = []
nested_by n (layer.Procedure h b) = (h, n) ∷ []

abbrev pub next_nested : (n : ℕ) → Decl-F Decl Block → ℕ
next_nested n (layer.Constants cs) = n
next_nested n (layer.Types ts) = n
next_nested n (layer.Variables vs) = n
next_nested n (layer.Procedure h b) = n + 1 + procedures_in b

abbrev pub nested_numbers : (n : ℕ) → List Decl → List (Heading × ℕ)
nested_numbers n [] = []
nested_numbers n (d ∷ ds) =
    nested_by n (out-Decl d) ++ nested_numbers (next_nested n (out-Decl d)) ds

-- The procedures that stand in procedures of a module are numbered through.
abbrev pub next_inside : (n : ℕ) → Decl-F Decl Block → ℕ
next_inside n (layer.Constants cs) = n
next_inside n (layer.Types ts) = n
next_inside n (layer.Variables vs) = n
next_inside n (layer.Procedure h b) = n + procedures_in b

abbrev pub behind_inside : (n : ℕ) → List Decl → ℕ
behind_inside n [] = n
behind_inside n (d ∷ ds) = behind_inside (next_inside n (out-Decl d)) ds

-- In a module those get one that no definition has declared.
abbrev pub unless_awaited : {A : Type 0} → Option TypeNo → A → List A → List A
unless_awaited None h hs = h ∷ hs
unless_awaited (Some t) h hs = hs

abbrev pub new_headings : (awaited : List ℕ → Option TypeNo) → List Heading → List Heading
new_headings awaited [] = []
new_headings awaited (h ∷ hs) = unless_awaited (awaited h.name.name) h (new_headings awaited hs)
