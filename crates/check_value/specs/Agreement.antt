-- Headings that agree in kinds and types of formals and in the result.
use Rattle.std.specs.Prelude.{Bool, true, false, not, cond, ◌&&◌, List, [], ◌∷◌, Option, Some, None}
use Rattle.typed_tree.specs.declared.types.TypeNo.{TypeNo}
use Rattle.typed_tree.specs.declared.shape.Formal.{Formal}
use Rattle.typed_tree.specs.declared.shape.Signature.{Signature}
use Rattle.typed_tree.specs.declared.known_types.Types.{Types}
use Rattle.typed_tree.specs.Types.{are_same}
use Rattle.check_value.specs.Classes.{signature_at}

abbrev pub is_alike : Bool → Bool → Bool
is_alike a b = cond a b (not b)

abbrev pub formal_agrees : Formal → Formal → Bool
formal_agrees f g = is_alike f.is_var g.is_var && is_alike f.is_open g.is_open && are_same f.of g.of

abbrev pub formals_agree : List Formal → List Formal → Bool
formals_agree [] [] = true
formals_agree [] (g ∷ gs) = false
formals_agree (f ∷ fs) [] = false
formals_agree (f ∷ fs) (g ∷ gs) = formal_agrees f g && formals_agree fs gs

abbrev pub result_agrees : Option TypeNo → Option TypeNo → Bool
result_agrees None None = true
result_agrees None (Some u) = false
result_agrees (Some t) None = false
result_agrees (Some t) (Some u) = are_same t u

abbrev pub signatures_agree : Option Signature → Option Signature → Bool
signatures_agree None h = false
signatures_agree (Some g) None = false
signatures_agree (Some g) (Some h) =
    formals_agree g.formals h.formals && result_agrees g.result h.result

abbrev pub headings_agree : Types → TypeNo → TypeNo → Bool
headings_agree types t u = signatures_agree (signature_at types t) (signature_at types u)
