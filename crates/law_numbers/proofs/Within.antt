-- The checker counts procedures in procedures as the rules do.
use Rattle.std.proofs.Common.{map, ◌≡◌, ℕ, ◌+◌, List, [], ◌∷◌, ◌++◌, length, refl, sym, ap, ◌∙◌, arith}
use Rattle.std.proofs.lemmas.List.{length-append}
use Rattle.std.specs.List.{fold}
use Rattle.m2_tree.specs.declared.decl.Decl.{Decl, Decl-F, out-Decl, roll-Decl, out-roll-Decl, map-Decl, fold-Decl, fold_out-Decl}
use Rattle.m2_tree.specs.declared.decl.Decl.TheOpen as layer
use Rattle.m2_tree.specs.declared.decl.Block.{Block, Block-F, out-Block, roll-Block, out-roll-Block, map-Block, fold_out-Block, ind-Block}
use Rattle.check_block.specs.Nesting.{decl_layer, block_layer, append_names, within_decl, within}
use Rattle.def_typed.specs.Numbers.{counted_decl, counted_block, procedures_in, next_nested}
use Rattle.law_numbers.specs.Counted.{behind_nested}

abbrev counted : Decl → ℕ
counted = fold-Decl ℕ ℕ counted_decl counted_block

abbrev Counts : Type 0
Counts = List ℕ

abbrev listed : Decl-F Decl Block → Decl-F Counts Counts
listed x = map-Decl Decl Block Counts Counts within_decl within x

pub within_is : (d : Decl) (x : Decl-F Decl Block) → out-Decl d ≡ x → within_decl d ≡ decl_layer (listed x)
unfolding within_decl within
within_is d x h = fold_out-Decl Counts Counts decl_layer block_layer d
    ∙ ap (λ (y : Decl-F Decl Block). decl_layer (map-Decl Decl Block Counts Counts within_decl within y)) h

counted_is : (d : Decl) (x : Decl-F Decl Block) → out-Decl d ≡ x
    → counted d ≡ counted_decl (map-Decl Decl Block ℕ ℕ counted procedures_in x)
unfolding procedures_in
counted_is d x h = fold_out-Decl ℕ ℕ counted_decl counted_block d
    ∙ ap (λ (y : Decl-F Decl Block). counted_decl (map-Decl Decl Block ℕ ℕ counted procedures_in y)) h

pub within_block : (b : Block) (x : Block-F Decl Block) → out-Block b ≡ x
    → within b ≡ fold append_names [] (map within_decl x.decls)
unfolding within_decl within
within_block b x h = fold_out-Block Counts Counts decl_layer block_layer b
    ∙ ap (λ (y : Block-F Decl Block). fold append_names [] (map within_decl y.decls)) h

counted_block_is : (b : Block) (x : Block-F Decl Block) → out-Block b ≡ x
    → procedures_in b ≡ fold (λ n k. n + k) 0 (map counted x.decls)
unfolding procedures_in
counted_block_is b x h = fold_out-Block ℕ ℕ counted_decl counted_block b
    ∙ ap (λ (y : Block-F Decl Block). fold (λ n k. n + k) 0 (map counted y.decls)) h

-- ---- by induction over blocks

abbrev PD : Decl → Type 0
PD d = length (within_decl d) ≡ counted d

abbrev PB : Block → Type 0
PB b = length (within b) ≡ procedures_in b

abbrev SD : Type 0
SD = (d : Decl) × PD d

abbrev SB : Type 0
SB = (b : Block) × PB b

abbrev bare : Decl-F SD SB → Decl-F Decl Block
bare x = map-Decl SD SB Decl Block (λ e. e.0) (λ e. e.0) x

layer_counts : (y : Decl-F SD SB) → length (decl_layer (listed (bare y)))
    ≡ counted_decl (map-Decl Decl Block ℕ ℕ counted procedures_in (bare y))
layer_counts (layer.Constants cs) = refl
layer_counts (layer.Types ts) = refl
layer_counts (layer.Variables vs) = refl
layer_counts (layer.Procedure h b) = let e = b.1 in omega (arith, e)

step_decl : (x : Decl-F Decl Block) (y : Decl-F SD SB) → bare y ≡ x → PD (roll-Decl x)
step_decl x y q = ap length (within_is (roll-Decl x) (bare y) (out-roll-Decl x ∙ sym q)) ∙ layer_counts y
    ∙ sym (counted_is (roll-Decl x) (bare y) (out-roll-Decl x ∙ sym q))

sum_counts : (acc : List ℕ) (n : ℕ) → length acc ≡ n → (xs : List SD)
    → length (fold append_names acc (map within_decl (map (λ (x : SD). x.0) xs)))
    ≡ fold (λ n k. n + k) n (map counted (map (λ (x : SD). x.0) xs))
sum_counts acc n e [] = e
sum_counts acc n e (x ∷ xs) = let l = length-append acc (within_decl x.0) in let k = x.1 in
    sum_counts (acc ++ within_decl x.0) (n + counted x.0) (omega (arith, l, k, e)) xs

step_block : (x : Block-F Decl Block) (y : Block-F SD SB) → map-Block SD SB Decl Block (λ e. e.0) (λ e. e.0) y ≡ x
    → PB (roll-Block x)
step_block x y q =
    ap length (within_block (roll-Block x) (map-Block SD SB Decl Block (λ e. e.0) (λ e. e.0) y)
    (out-roll-Block x ∙ sym q))
    ∙ sum_counts [] 0 refl y.decls
    ∙ sym (counted_block_is (roll-Block x) (map-Block SD SB Decl Block (λ e. e.0) (λ e. e.0) y)
    (out-roll-Block x ∙ sym q))

pub procedures_counted : (b : Block) → length (within b) ≡ procedures_in b
procedures_counted = ind-Block PD PB step_decl step_block

-- ---- the number behind a block

next_counts : (n : ℕ) (d : Decl) (y : Decl-F Decl Block) → out-Decl d ≡ y → next_nested n y ≡ n + counted d
next_counts n d (layer.Constants cs) e = let c = counted_is d (layer.Constants cs) e in omega (arith, c)
next_counts n d (layer.Types ts) e = let c = counted_is d (layer.Types ts) e in omega (arith, c)
next_counts n d (layer.Variables vs) e = let c = counted_is d (layer.Variables vs) e in omega (arith, c)
next_counts n d (layer.Procedure h b) e = let c = counted_is d (layer.Procedure h b) e in omega (arith, c)

behind_counts : (m n : ℕ) (ds : List Decl) → behind_nested (m + n) ds ≡ m + fold (λ n k. n + k) n (map counted ds)
behind_counts m n [] = refl
behind_counts m n (d ∷ ds) =
    let e = next_counts (m + n) d (out-Decl d) refl in
    let q : next_nested (m + n) (out-Decl d) ≡ m + (n + counted d) = omega (arith, e) in
    ap (λ (k : ℕ). behind_nested k ds) q ∙ behind_counts m (n + counted d) ds

-- Behind a block stands its first number and as many more as there are procedures in it.
pub block_behind : (n : ℕ) (b : Block) → behind_nested n (out-Block b).decls ≡ n + procedures_in b
block_behind n b =
    let z : n ≡ n + 0 = omega arith in
    ap (λ (k : ℕ). behind_nested k (out-Block b).decls) z ∙ behind_counts n 0 (out-Block b).decls
    ∙ ap (λ (k : ℕ). n + k) (sym (counted_block_is b (out-Block b) refl))
