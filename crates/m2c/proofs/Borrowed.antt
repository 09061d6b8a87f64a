-- Modules that are borrowed.
use Rattle.std.proofs.Common.{◌≡◌, ℕ, List, [], ◌∷◌, map, refl, ap}
use Rattle.std.specs.Borrow.{Bor}
use Rattle.m2_emit.specs.declared.emitted.ModuleBytes.{ModuleBytes}
use Rattle.m2c.specs.Build.{named_bytes}

pub copies_borrowed : (bs : List (Bor ModuleBytes))
    → map (λ m. named_bytes m.now) bs ≡ map named_bytes (map (λ m. m.now) bs)
copies_borrowed [] = refl
copies_borrowed (b ∷ bs) = ap (λ (xs : List (List ℕ × List ℕ)). named_bytes b.now ∷ xs) (copies_borrowed bs)
