-- Code fits if its numbers fit and its blocks nest few levels.
use Rattle.std.proofs.Common.{map, ◌≡◌, ℕ, zero, suc, ◌+◌, ◌≤◌, Bool, true, false, ◌&&◌, List, [], ◌∷◌, Some, None, refl, sym, ap, subst, ◌∙◌, arith}
use Rattle.std.specs.List.{list_all}
use Rattle.std.proofs.lemmas.Bool.{and_parts}
use Rattle.wasm_tree.specs.declared.instr.Instr.{Instr, Instr-F, out-Instr, roll-Instr, out-roll-Instr, map-Instr, fold_out-Instr, ind-Instr}
use Rattle.wasm_tree.specs.declared.instr.Instr.TheOpen as layer
use Rattle.wasm_code.specs.Instructions.{fits_step, instr_fits, code_within}
use Rattle.law_encoding.specs.Nesting.{◌⊔◌, deepest}
use Rattle.law_encoding.specs.CodeNesting.{instr_layer, levels_in, levels}
use Rattle.law_encoding.specs.CodeNumbers.{all_fit, numbers_layer, numbers_fit, code_numbers_fit}

pub at_numbers : (i : Instr) (x : Instr-F Instr) → out-Instr i ≡ x
    → numbers_fit i ≡ numbers_layer (map-Instr Instr Bool numbers_fit x)
unfolding numbers_fit
at_numbers i x q = fold_out-Instr Bool numbers_layer i
    ∙ ap (λ (y : Instr-F Instr). numbers_layer (map-Instr Instr Bool numbers_fit y)) q

at_levels : (i : Instr) (x : Instr-F Instr) → out-Instr i ≡ x
    → levels_in i ≡ instr_layer (map-Instr Instr ℕ levels_in x)
unfolding levels_in
at_levels i x q = fold_out-Instr ℕ instr_layer i
    ∙ ap (λ (y : Instr-F Instr). instr_layer (map-Instr Instr ℕ levels_in y)) q

at_fits : (i : Instr) (x : Instr-F Instr) (n : ℕ) → out-Instr i ≡ x
    → instr_fits i n ≡ fits_step (map-Instr Instr (ℕ → Bool) instr_fits x) n
unfolding instr_fits
at_fits i x n q = ap (λ (f : ℕ → Bool). f n) (fold_out-Instr (ℕ → Bool) fits_step i)
    ∙ ap (λ (y : Instr-F Instr). fits_step (map-Instr Instr (ℕ → Bool) instr_fits y) n) q

abbrev P : Instr → Type 0
P i = (n : ℕ) → levels_in i ≤ n → numbers_fit i ≡ true → instr_fits i n ≡ true

abbrev S : Type 0
S = (i : Instr) × P i

abbrev bare : Instr-F S → Instr-F Instr
bare x = map-Instr S Instr (λ i. i.0) x

abbrev code_of : List S → List Instr
code_of xs = map (λ (i : S). i.0) xs

first_below : (a b n : ℕ) → a ⊔ b ≤ n → a ≤ n
first_below a b n h = omega (arith, h)

second_below : (a b n : ℕ) → a ⊔ b ≤ n → b ≤ n
second_below a b n h = omega (arith, h)

pub both_true : (a b : Bool) → a ≡ true → b ≡ true → (a && b) ≡ true
both_true true b e h = h
both_true false b e h = e

all_within : (xs : List S) (n : ℕ) → deepest (map levels_in (code_of xs)) ≤ n
    → all_fit (map numbers_fit (code_of xs)) ≡ true
    → list_all (λ (f : ℕ → Bool). f n) (map instr_fits (code_of xs)) ≡ true
all_within [] n h e = refl
all_within (x ∷ xs) n h e =
    let both = and_parts (numbers_fit x.0) (all_fit (map numbers_fit (code_of xs))) e in
    both_true _ _ (x.1 n (first_below (levels_in x.0) _ n h) both.0)
    (all_within xs n (second_below (levels_in x.0) _ n h) both.1)

no_level : (a : ℕ) {X : Type 0} → 1 + a ≤ 0 → X
no_level a h = absurd (none h) where
  none : 1 + a ≤ 0 → ⊥
  none l = omega (arith, l)

inside : (a n : ℕ) → 1 + a ≤ suc n → a ≤ n
inside a n h = omega (arith, h)

fits_one : (y : Instr-F S) (n : ℕ) → instr_layer (map-Instr Instr ℕ levels_in (bare y)) ≤ n
    → numbers_layer (map-Instr Instr Bool numbers_fit (bare y)) ≡ true
    → fits_step (map-Instr Instr (ℕ → Bool) instr_fits (bare y)) n ≡ true
fits_one (layer.Block t xs) zero h e = no_level (deepest (map levels_in (code_of xs))) h
fits_one (layer.Block t xs) (suc n) h e = all_within xs n (inside _ n h) e
fits_one (layer.Loop t xs) zero h e = no_level (deepest (map levels_in (code_of xs))) h
fits_one (layer.Loop t xs) (suc n) h e = all_within xs n (inside _ n h) e
fits_one (layer.If t xs None) zero h e = no_level (deepest (map levels_in (code_of xs)) ⊔ 0) h
fits_one (layer.If t xs None) (suc n) h e =
    all_within xs n (first_below _ 0 n (inside _ n h)) (and_parts (all_fit (map numbers_fit (code_of xs))) true e).0
fits_one (layer.If t xs (Some ys)) zero h e =
    no_level (deepest (map levels_in (code_of xs)) ⊔ deepest (map levels_in (code_of ys))) h
fits_one (layer.If t xs (Some ys)) (suc n) h e =
    let both = and_parts (all_fit (map numbers_fit (code_of xs))) (all_fit (map numbers_fit (code_of ys))) e in
    let l = inside (deepest (map levels_in (code_of xs)) ⊔ deepest (map levels_in (code_of ys))) n h in
    both_true _ _ (all_within xs n (first_below _ (deepest (map levels_in (code_of ys))) n l) both.0)
    (all_within ys n (second_below (deepest (map levels_in (code_of xs))) _ n l) both.1)
fits_one layer.Unreachable n h e = refl
fits_one (layer.Br l) n h e = e
fits_one (layer.BrIf l) n h e = e
fits_one (layer.BrTable ls l) n h e = e
fits_one layer.Return n h e = refl
fits_one (layer.Call f) n h e = e
fits_one (layer.CallIndirect t) n h e = e
fits_one layer.Drop n h e = refl
fits_one (layer.LocalGet x) n h e = e
fits_one (layer.LocalSet x) n h e = e
fits_one (layer.LocalTee x) n h e = e
fits_one (layer.GlobalGet x) n h e = e
fits_one (layer.Load l) n h e = refl
fits_one (layer.Store w) n h e = refl
fits_one (layer.I32Const k) n h e = e
fits_one (layer.I64Const k) n h e = e
fits_one (layer.Numeric o) n h e = refl

step : (x : Instr-F Instr) (y : Instr-F S) → bare y ≡ x → P (roll-Instr x)
step x y q n h e =
    let r = out-roll-Instr x ∙ sym q in
    at_fits (roll-Instr x) (bare y) n r
    ∙ fits_one y n (subst (λ (k : ℕ). k ≤ n) (at_levels (roll-Instr x) (bare y) r) h)
    (sym (at_numbers (roll-Instr x) (bare y) r) ∙ e)

pub instr_within : (i : Instr) → P i
instr_within = ind-Instr P step

pub code_fits : (n : ℕ) (code : List Instr) → levels code ≤ n → code_numbers_fit code ≡ true
    → (code_within n).fits code ≡ true
unfolding levels code_numbers_fit
code_fits n [] h e = refl
code_fits n (i ∷ code) h e =
    let both = and_parts (numbers_fit i) (list_all numbers_fit code) e in
    both_true _ _ (instr_within i n (first_below (levels_in i) (levels code) n h) both.0)
    (code_fits n code (second_below (levels_in i) (levels code) n h) both.1)
