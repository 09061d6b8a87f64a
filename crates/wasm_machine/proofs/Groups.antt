-- Locals, group by group.
use Rattle.std.proofs.Common.{◌≡◌, ℕ, ◌+◌, ◌<◌, List, [], ◌∷◌, ◌++◌, take, length, get_or, sym, ap, ◌∙◌, append_assoc}
use Rattle.std.specs.List.{flat_map}
use Rattle.std.proofs.lemmas.List.{append-nil}
use Rattle.std.proofs.lemmas.Grind.{flat_map-append, take_at_read}
use Rattle.wasm_tree.specs.declared.kinds.ValueType.TheVariants.{I32}
use Rattle.wasm_tree.specs.declared.module.Locals.{Locals}

abbrev pub none : Locals
none = record { count = 0; value_type = I32 }

pub more : {X A : Type 0} (f : X → List A) (before : List A) (xs : List X) (k : ℕ) (d : X) → k < length xs
    → before ++ flat_map f (take k xs) ++ f (get_or xs k d) ≡ before ++ flat_map f (take (k + 1) xs)
more {X} {A} f before xs k d less =
    append_assoc before (flat_map f (take k xs)) (f (get_or xs k d))
    ∙ ap (λ (l : List A). before ++ l) (sym
    (ap (flat_map f) ((take_at_read xs k d less).1)
    ∙ (flat_map-append f (take k xs) (get_or xs k d ∷ [])
    ∙ ap (λ (l : List A). flat_map f (take k xs) ++ l) (append-nil (f (get_or xs k d))))))
