-- Stores as functions.
use Rattle.std.proofs.Common.{◌≡◌, ℕ, zero, suc, ℤ, pos, List, [], ◌∷◌, ◌++◌, map, Some, None, Result, Ok, Err, IfOk, refl, ap, ◌∙◌}
use Rattle.std.specs.Prelude.{slice_get}
use Rattle.std.proofs.Math.Path.{fun_ext}
use Rattle.def_meaning.specs.Store.{Location, assign_number, copy_whole, overlay}
use Rattle.def_meaning.specs.Statements.{or_zero, character}
use Rattle.plain_store.specs.declared.held.Held.{Held}
use Rattle.plain_store.specs.declared.held.Held.TheVariants.{Same}
use Rattle.plain_store.specs.Contents.{Contents, or_rest, contents, or_nought, behind_it, IsReplaced, opened_contents, spread}
use Rattle.plain_store.specs.declared.opened_tree.Components.{Components}
use Rattle.plain_store.specs.Characters.{character_part}
use Rattle.plain_store.proofs.Layers.{same, at_same}

pub ok_put : {E : Type 0} (to : Location) (new store : Held) (r : Result Held E)
    → IfOk r (λ h. IsReplaced to (contents new) (contents store) (contents h))
    → IfOk r (λ h. contents h ≡ overlay to (contents new) (contents store))
ok_put to new store (Err e) h = tt
ok_put to new store (Ok x) h = fun_ext h

pub ok_assigned : {E : Type 0} (to : Location) (v w : ℤ) (store : Held) (r : Result Held E) → w ≡ v
    → IfOk r (λ h. contents h ≡ overlay to (contents (Same w)) (contents store))
    → IfOk r (λ h. contents h ≡ assign_number to v (contents store))
ok_assigned to v w store (Err e) q h = tt
ok_assigned to v w store (Ok x) q h = h ∙ ap (λ (n : ℤ). overlay to (contents (Same n)) (contents store)) q
    ∙ ap (λ (f : Contents). overlay to f (contents store)) (same v)

pub ok_copied : {E : Type 0} (to from : Location) (part store : Held) (r : Result Held E)
    → contents part ≡ behind_it (contents store) from
    → IfOk r (λ h. contents h ≡ overlay to (contents part) (contents store))
    → IfOk r (λ h. contents h ≡ copy_whole to from (contents store))
ok_copied to from part store (Err e) p h = tt
ok_copied to from part store (Ok x) p h = h ∙ ap (λ (f : Contents). overlay to f (contents store)) p

pub no_part : (store : Held) (from : Location) → ((r : Location) → or_nought None r ≡ contents store (from ++ r))
    → contents (Same (pos 0)) ≡ behind_it (contents store) from
no_part store from h = fun_ext (λ r. at_same (pos 0) r ∙ h r)

pub ok_part : {E : Type 0} (store part : Held) (from : Location) (x : Result Held E)
    → ((r : Location) → or_nought (Some part) r ≡ contents store (from ++ r)) → IfOk x (λ h. h ≡ part)
    → IfOk x (λ h. contents h ≡ behind_it (contents store) from)
ok_part store part from (Err e) h k = tt
ok_part store part from (Ok x) h k = ap contents k ∙ fun_ext h

character_at : (text : List ℕ) (k : ℕ) (r : Location)
    → or_rest (slice_get (map contents (map character_part text)) k) (contents (Same (pos 0))) r
    ≡ or_zero (slice_get text k)
character_at [] k r = at_same (pos 0) r
character_at (c ∷ cs) zero r = at_same (pos c) r
character_at (c ∷ cs) (suc k) r = character_at cs k r

each : (text : List ℕ) (l : Location) → opened_contents (spread (pos 0) (map character_part text) (Same (pos 0))) l
    ≡ character text l
each text [] = refl
each text (k ∷ r) = character_at text k r

pub ok_text : {E : Type 0} (text : List ℕ) (ps : List Held) (tree : Components) (r : Result Held E)
    → ps ≡ map character_part text → tree ≡ spread (pos 0) ps (Same (pos 0))
    → IfOk r (λ h. contents h ≡ opened_contents tree)
    → IfOk r (λ h. contents h ≡ character text)
ok_text text ps tree (Err e) a b h = tt
ok_text text ps tree (Ok x) a b h = h ∙ ap opened_contents
    (b ∙ ap (λ (xs : List Held). spread (pos 0) xs (Same (pos 0))) a) ∙ fun_ext (each text)
