-- What a WITH opens is taken back at its end.
use Rattle.std.proofs.Common.{◌≡◌, List, [], ◌∷◌, ◌++◌, length, refl, ap}
use Rattle.typed_tree.specs.declared.types.TypeNo.{TypeNo}
use Rattle.check_scope.specs.declared.scope.OpenedRecord.{OpenedRecord}
use Rattle.check_scope.specs.declared.scope.Scope.{Scope}
use Rattle.check_stmt_parts.specs.Simple.{front, into_record, out_of_record}

pub front_push : {A : Type 0} (xs : List A) (x : A) → front (xs ++ x ∷ []) ≡ xs
front_push [] x = refl
front_push (y ∷ []) x = refl
front_push (y ∷ z ∷ xs) x = ap (λ ys. y ∷ ys) (front_push (z ∷ xs) x)

pub closed_opened : {T : Type 0} (s : Scope T) (t : TypeNo) → out_of_record (into_record s t) ≡ s
closed_opened s t = ap (λ (xs : List OpenedRecord). record s { withs = xs })
    (front_push s.withs (record { number = length s.withs; of = t }))
