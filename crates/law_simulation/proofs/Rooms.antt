-- Hidden room that is written while a procedure begins.
use Rattle.std.proofs.Common.{◌≡◌, ℕ, zero, suc, ◌+◌, ◌^◌, ◌<◌, Bool, true, false, List, [], ◌∷◌, ◌++◌, length, Option, Some, None, if◌then◌else◌, refl, sym, ap, ◌∙◌, append-nil, arith}
use Rattle.std.specs.Prelude.{nat_eq, get_or}
use Rattle.std.specs.Int.{w64, to_le_bytes}
use Rattle.std.proofs.lemmas.Bool.{ne_eqb}
use Rattle.layout_storage.specs.Types.{Ty, row, component}
use Rattle.layout_storage.specs.Sizes.{Four, size, offset}
use Rattle.def_meaning.specs.Store.{Location, behind, overlay}
use Rattle.law_memory.specs.Cells.{stored_in}
use Rattle.law_memory.specs.Relation.{Keeps}
use Rattle.law_memory.proofs.Worlds.{placed_behind, placed_else, component_old, offset_old}
use Rattle.law_simulation.specs.Stage.{SameBelow}

pub same_then : (root v : ℕ) (x y z : Location → ℕ → ℕ) → SameBelow root v x y → SameBelow root (suc v) y z
    → SameBelow root v x z
same_then root v x y z a b = record {
  older = λ i p k h. b.older i p k h ∙ a.older i p k h;
  own =
      λ j r k h. b.own j r k (omega (arith, h)) ∙ a.own j r k h;
}

pub same_trans : (root v : ℕ) (x y z : Location → ℕ → ℕ) → SameBelow root v x y → SameBelow root v y z
    → SameBelow root v x z
same_trans root v x y z a b = record {
  older = λ i p k h. b.older i p k h ∙ a.older i p k h;
  own =
      λ j r k h. b.own j r k h ∙ a.own j r k h;
}

pub same_same : (root v : ℕ) (x : Location → ℕ → ℕ) → SameBelow root v x x
same_same root v x = record { older = λ i p k h. refl; own = λ j r k h. refl }

none_both : (b : Bool) (o : Option Location) → o ≡ None → (if b then o else None) ≡ None
none_both true o e = e
none_both false o e = refl

other_variable : (root v j : ℕ) (q r : Location) → (v ≡ j → ⊥) → behind (root ∷ v ∷ q) (root ∷ j ∷ r) ≡ None
unfolding behind
other_variable root v j q r ne = none_both (nat_eq root root) (if nat_eq v j then behind q r else None)
    (ap (λ (b : Bool). if b then behind q r else None) (ne_eqb v j ne))

other_root : (root i : ℕ) (q p : Location) → (root ≡ i → ⊥) → behind (root ∷ q) (i ∷ p) ≡ None
unfolding behind
other_root root i q p ne = ap (λ (b : Bool). if b then behind q p else None) (ne_eqb root i ne)

-- a write to the hidden room of variable v, or of a newer instance
pub same_placed : (root v : ℕ) (q : Location) (f x : Location → ℕ → ℕ)
    → SameBelow root v x (overlay (root ∷ suc v ∷ q) f x)
same_placed root v q f x = record {
  older = λ i p k h. ap (λ (g : ℕ → ℕ). g k)
      (placed_else (root ∷ suc v ∷ q) (i ∷ p) f x (other_root root i (suc v ∷ q) p (λ e. omega (arith, h, e))));
  own = λ j r k h. ap (λ (g : ℕ → ℕ). g k)
      (placed_else (root ∷ suc v ∷ q) (root ∷ j ∷ r) f x
      (other_variable root (suc v) j q r (λ e. omega (arith, h, e))));
}

pub same_newer : (root v next : ℕ) (f x : Location → ℕ → ℕ) → root < next → SameBelow root v x (overlay (next ∷ []) f x)
same_newer root v next f x less = record {
  older = λ i p k h. ap (λ (g : ℕ → ℕ). g k)
      (placed_else (next ∷ []) (i ∷ p) f x (other_root next i [] p (λ e. omega (arith, h, e, less))));
  own = λ j r k h. ap (λ (g : ℕ → ℕ). g k)
      (placed_else (next ∷ []) (root ∷ j ∷ r) f x (other_root next root [] (j ∷ r) (λ e. omega (arith, e, less))));
}

-- the link of the frame is written before all formals
pub older_placed : (root : ℕ) (q : Location) (f x : Location → ℕ → ℕ) (i : ℕ) (p : Location) (k : ℕ) → i < root
    → overlay (root ∷ q) f x (i ∷ p) k ≡ x (i ∷ p) k
older_placed root q f x i p k h = ap (λ (g : ℕ → ℕ). g k)
    (placed_else (root ∷ q) (i ∷ p) f x (other_root root i q p (λ e. omega (arith, h, e))))

pub keeps_placed : (to : Location) (ys : List ℕ) (x : Location → ℕ → ℕ)
    → Keeps (overlay to (λ r k. get_or ys k 0) x) to ys
keeps_placed to ys x k h = ap (λ (l : Location). overlay to (λ r k. get_or ys k 0) x l k) (sym (append-nil to))
    ∙ ap (λ (g : ℕ → ℕ). g k) (placed_behind to [] (λ r k. get_or ys k 0) x)

pub keeps_then : (x x' : Location → ℕ → ℕ) (l : Location) (ys : List ℕ) → ((k : ℕ) → x' l k ≡ x l k) → Keeps x l ys
    → Keeps x' l ys
keeps_then x x' l ys e h k less = e k ∙ h k less

pub other_part : (root v : ℕ) → behind (root ∷ v ∷ 1 ∷ []) (root ∷ v ∷ 0 ∷ []) ≡ None
unfolding behind
other_part root v = none_both (nat_eq root root) (if nat_eq v v then None else None) (none_both (nat_eq v v) None refl)

-- what there was is where it was, also with more instances behind it
pub place_more : (world more : List Ty) (l : Location) (t : Ty) → component (row world) l ≡ Some t → 0 < length l
    → (component (row (world ++ more)) l ≡ Some t) × (offset (row (world ++ more)) l ≡ offset (row world) l)
place_more world more [] t e h = absurd (omega (arith, h))
place_more world more (i ∷ p) t e h = (component_old world more i p t e, offset_old world more i p t e)

-- where an instance begins
pub instance_at : (world : List Ty) (t : Ty) (more : List Ty)
    → offset (row (world ++ t ∷ more)) (length world ∷ []) ≡ size (row world)
unfolding offset size
instance_at [] t more = refl
instance_at (u ∷ us) t more = ap (λ (k : ℕ). size u + k) (instance_at us t more)

pub four_small : (n j : ℕ) → n < 2 ^ 32 → j < 4 → get_or (stored_in Four n) j 0 < 256
four_small n zero h l = omega (arith, h)
four_small n (suc zero) h l = omega (arith, h)
four_small n (suc (suc zero)) h l = omega (arith, h)
four_small n (suc (suc (suc zero))) h l = omega (arith, h)
four_small n (suc (suc (suc (suc j)))) h l = absurd (omega (arith, l))

pub eight_small : (n j : ℕ) → j < 8 → get_or (to_le_bytes w64 n) j 0 < 256
eight_small n zero l = omega arith
eight_small n (suc zero) l = omega arith
eight_small n (suc (suc zero)) l = omega arith
eight_small n (suc (suc (suc zero))) l = omega arith
eight_small n (suc (suc (suc (suc zero)))) l = omega arith
eight_small n (suc (suc (suc (suc (suc zero))))) l = omega arith
eight_small n (suc (suc (suc (suc (suc (suc zero)))))) l = omega arith
eight_small n (suc (suc (suc (suc (suc (suc (suc zero))))))) l = omega arith
eight_small n (suc (suc (suc (suc (suc (suc (suc (suc j)))))))) l = absurd (omega (arith, l))
