-- How refusals are printed.
use Rattle.std.specs.Prelude.{ℕ, List, ◌++◌, codes, decimal}
use Rattle.std.specs.String.{string_bytes}
use Rattle.m2_tree.specs.declared.refusal.Refusal.{Refusal}

-- the line of a refusal
abbrev pub line_of : Refusal → List ℕ
line_of r =
    string_bytes r.file ++ codes ":" ++ decimal r.pos.line ++ codes ":" ++ decimal r.pos.col
    ++ codes ": refusal " ++ decimal r.number ++ codes "\n"
