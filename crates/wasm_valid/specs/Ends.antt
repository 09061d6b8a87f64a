-- Where groups of locals end.
use Rattle.std.specs.Prelude.{ℕ, List, [], ◌∷◌, ◌+◌}
use Rattle.wasm_tree.specs.declared.module.Locals.{Locals}

-- how many locals there are up to the end of each group, if this many stand before them
abbrev pub ends_from : (before : ℕ) → List Locals → List ℕ
ends_from before [] = []
ends_from before (g ∷ groups) = (before + g.count) ∷ ends_from (before + g.count) groups
