-- Whoever steps into a procedure and out again is where he was, and a name has its place among the names.
use Rattle.std.proofs.Common.{◌≡◌, ℕ, ◌<◌, Bool, true, false, cond, nat_lt, List, length, Option, Some, None, refl, ap, ◌∙◌, arith}
use Rattle.std.proofs.lemmas.Bool.Decides.{nat_tests}
use Rattle.typed_tree.specs.Names.{place_of}
use Rattle.m2_rule.specs.declared.breach.Breach.{Breach}
use Rattle.check_scope.specs.declared.inner.Outside.{Outside}
use Rattle.check_scope.specs.declared.scope.Block.{Block}
use Rattle.check_scope.specs.declared.scope.Scope.{Scope}
use Rattle.check_scope.specs.Inwards.{inwards, outside, outwards, pop_block, left_procedure}
use Rattle.check_scope.proofs.Lasts.{split_push}

steps_back : (s : Scope Breach) (seen : ℕ) → left_procedure (outside s) (inwards s seen) ≡ s
steps_back s seen =
    ap (λ (o : Option (List (Block Breach) × Block Breach)).
    outwards (outside s) (inwards s seen) (pop_block o).0 (pop_block o).1)
    (split_push s.outer (record { names = s.own; seen = seen }))

pub steps_around : (s inner end : Scope Breach) (o : Outside) (seen : ℕ) → inner ≡ inwards s seen → o ≡ outside s
    → end ≡ left_procedure o inner → end ≡ s
steps_around s inner end o seen within around back =
    back ∙ ap (λ x. left_procedure x inner) around ∙ ap (left_procedure (outside s)) within ∙ steps_back s seen

found_below : (b : Bool) (k len n : ℕ) → nat_lt k len ≡ b → Some n ≡ cond b (Some k) None → n < len
found_below true k len n h e = grind (arith, nat_tests)
found_below false k len n h e = absurd cc

pub place_below : {V : Type 0} (name : List ℕ) (es : List (List ℕ × V)) (n : ℕ) → Some n ≡ place_of name es
    → n < length es
place_below name es n e = found_below _ _ _ n refl e
