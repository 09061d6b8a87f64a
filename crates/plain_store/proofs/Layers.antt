-- What each variant holds.
use Rattle.std.proofs.Common.{◌≡◌, ℕ, zero, suc, ℤ, pos, List, [], ◌∷◌, map, Some, None, refl, ap, sym, ◌∙◌}
use Rattle.std.specs.Prelude.{nat_lt, slice_get, if◌then◌else◌}
use Rattle.def_meaning.specs.Store.{Location}
use Rattle.plain_store.specs.declared.held.Held.{Held, Held-F, out-Held, map-Held, fold_out-Held}
use Rattle.plain_store.specs.declared.held.Held.TheOpen as layer
use Rattle.plain_store.specs.declared.held.Held.TheVariants.{Same, Parts, Array, outs-Same, outs-Parts, outs-Array}
use Rattle.plain_store.specs.Contents.{Contents, or_rest, in_parts, in_array, layer_contents, contents}

at : (h : Held) (x : Held-F Held) → out-Held h ≡ x → contents h ≡ layer_contents (map-Held Held Contents contents x)
unfolding contents
at h x e = fold_out-Held Contents layer_contents h
    ∙ ap (λ (y : Held-F Held). layer_contents (map-Held Held Contents contents y)) e

pub same : (v : ℤ) → contents (Same v) ≡ (λ r. v)
same v = at (Same v) (layer.Same v) (outs-Same v)

pub parts : (own : ℤ) (ps : List Held) (rest : Held)
    → contents (Parts own ps rest) ≡ in_parts own (map contents ps) (contents rest)
parts own ps rest = at (Parts own ps rest) (layer.Parts own ps rest) (outs-Parts own ps rest)

pub array : (n : ℕ) (one : Held) → contents (Array n one) ≡ in_array n (contents one)
array n one = at (Array n one) (layer.Array n one) (outs-Array n one)

pub at_same : (v : ℤ) (r : Location) → contents (Same v) r ≡ v
at_same v r = ap (λ (f : Contents). f r) (same v)

pub own_part : (own : ℤ) (ps : List Held) (rest : Held) → contents (Parts own ps rest) [] ≡ own
own_part own ps rest = ap (λ (f : Contents). f []) (parts own ps rest)

get_none : (ps : List Held) (k : ℕ) (f : Contents) (r : Location) → slice_get ps k ≡ None
    → or_rest (slice_get (map contents ps) k) f r ≡ f r
get_none [] k f r e = refl
get_none (p ∷ ps) zero f r e = cc e
get_none (p ∷ ps) (suc k) f r e = get_none ps k f r e

get_some : (ps : List Held) (k : ℕ) (f : Contents) (r : Location) (p : Held) → slice_get ps k ≡ Some p
    → or_rest (slice_get (map contents ps) k) f r ≡ contents p r
get_some [] k f r p e = cc e
get_some (q ∷ ps) zero f r p e = let same : q ≡ p = cc e in ap (λ (h : Held). contents h r) same
get_some (q ∷ ps) (suc k) f r p e = get_some ps k f r p e

pub rest_part : (own : ℤ) (ps : List Held) (rest : Held) (k : ℕ) (r : Location) → slice_get ps k ≡ None
    → contents (Parts own ps rest) (k ∷ r) ≡ contents rest r
rest_part own ps rest k r e = ap (λ (f : Contents). f (k ∷ r)) (parts own ps rest) ∙ get_none ps k (contents rest) r e

pub one_part : (own : ℤ) (ps : List Held) (rest : Held) (k : ℕ) (r : Location) (p : Held) → slice_get ps k ≡ Some p
    → contents (Parts own ps rest) (k ∷ r) ≡ contents p r
one_part own ps rest k r p e = ap (λ (f : Contents). f (k ∷ r)) (parts own ps rest)
    ∙ get_some ps k (contents rest) r p e

pub own_array : (n : ℕ) (one : Held) → contents (Array n one) [] ≡ pos 0
own_array n one = ap (λ (f : Contents). f []) (array n one)

pub one_array : (n : ℕ) (one : Held) (k : ℕ) (r : Location)
    → contents (Array n one) (k ∷ r) ≡ (if nat_lt k n then contents one r else pos 0)
one_array n one k r = ap (λ (f : Contents). f (k ∷ r)) (array n one)

-- a component of each variant
pub in_same : (v : ℤ) (n : ℕ) (r : Location) → contents (Same v) r ≡ contents (Same v) (n ∷ r)
in_same v n r = at_same v r ∙ sym (at_same v (n ∷ r))

pub ruleset layers = (at_same, own_part, rest_part, one_part, own_array, one_array)
