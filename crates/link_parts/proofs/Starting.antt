-- Modules that start, one after the other.
use Rattle.std.proofs.Common.{◌≡◌, ℕ, ◌+◌, ◌<◌, List, [], ◌∷◌, ◌++◌, length, take, get_or, map, Option, ap, sym, ◌∙◌, add-one}
use Rattle.std.specs.Prelude.{slice_get}
use Rattle.std.specs.List.{flat_map}
use Rattle.std.specs.Option.{option_map}
use Rattle.std.proofs.Math.Seq.{take-suc}
use Rattle.std.proofs.lemmas.List.{append-nil}
use Rattle.std.proofs.lemmas.List.Concat.{flat_map-append}
use Rattle.std.proofs.lemmas.Option.{slice_get-map}
use Rattle.m2_tree.specs.declared.decl.Module.{Module}
use Rattle.def_scheme.specs.Modules.{Part as Sizes}
use Rattle.link_parts.specs.declared.part.Part.{Part}
use Rattle.link_parts.specs.declared.stands.Stand.{Stand}
use Rattle.link_parts.specs.Stands.{stand_of}
use Rattle.link_parts.specs.Linked.{sizes_in}

-- one more module starts
pub one_more : (stands : List Stand) (starts : List ℕ) (k d : ℕ) (found : Option Stand) (old new : List Sizes)
    → k < length starts → found ≡ slice_get stands (get_or starts k d)
    → old ≡ flat_map (λ n. sizes_in (slice_get (map stand_of stands) n)) (take k starts)
    → new ≡ old ++ sizes_in (option_map stand_of found)
    → new ≡ flat_map (λ n. sizes_in (slice_get (map stand_of stands) n)) (take (k + 1) starts)
one_more stands starts k d found old new l at so is =
    let f : ℕ → List Sizes = λ n. sizes_in (slice_get (map stand_of stands) n) in
    let n = get_or starts k d in
    let here : sizes_in (option_map stand_of found) ≡ f n =
    ap (λ (o : Option Stand). sizes_in (option_map stand_of o)) at
    ∙ ap (λ (o : Option (Part × Module)). sizes_in o) (sym (slice_get-map stand_of stands n)) in
    let last : flat_map f (n ∷ []) ≡ f n = append-nil (f n) in
    let split : flat_map f (take k starts ++ n ∷ []) ≡ flat_map f (take k starts) ++ flat_map f (n ∷ []) =
    flat_map-append f (take k starts) (n ∷ []) in
    is ∙ ap (λ (xs : List Sizes). xs ++ sizes_in (option_map stand_of found)) so
    ∙ ap (λ (xs : List Sizes). flat_map f (take k starts) ++ xs) (here ∙ sym last)
    ∙ sym split ∙ ap (flat_map f) (sym (rw add-one (take-suc starts k d l)))
