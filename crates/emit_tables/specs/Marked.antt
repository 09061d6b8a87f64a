-- Which types of functions are needed, by how many arguments these have.
use Rattle.std.specs.Prelude.{ℕ, zero, suc, Bool, true, false, List, [], ◌∷◌}
use Rattle.std.specs.List.{fold}
use Rattle.def_scheme.specs.Signatures.{Signature, Signatures}
use Rattle.emit_tables.specs.declared.marks.Mark.{Mark}

abbrev pub none : Mark
none = record { without = false; giving = false }

abbrev pub mark_kind : Mark → Bool → Mark
mark_kind x true = record { without = x.without; giving = true }
mark_kind x false = record { without = true; giving = x.giving }

-- the type of this many arguments is marked, in a table that reaches so far
abbrev pub marked_at : ℕ → Bool → List Mark → List Mark
marked_at zero r [] = mark_kind none r ∷ []
marked_at zero r (x ∷ xs) = mark_kind x r ∷ xs
marked_at (suc n) r [] = none ∷ marked_at n r []
marked_at (suc n) r (x ∷ xs) = x ∷ marked_at n r xs

unfoldable pub with_one : List Mark → Signature → List Mark
with_one xs s = marked_at s.arguments s.result xs

unfoldable pub with_all : Signatures → List Mark → List Mark
with_all ss xs = fold with_one xs ss
