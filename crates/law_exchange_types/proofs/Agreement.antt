-- Agreement of check_value, with other numbers of modules.
use Rattle.check_value.specs.Agreement.{signatures_agree, result_agrees, headings_agree, formal_agrees, formals_agree}
use Rattle.def_exchange.specs.Moved.{moved_formal, moved_signature, moved_type, moved_types, Exchange}
use Rattle.law_exchange_types.proofs.Basics.{same_moves as are_same_moves}
use Rattle.law_exchange_types.proofs.Classes.{signature_at_moves}
use Rattle.std.proofs.Common.{◌≡◌, refl, List, None, Option, Some, map, option_map, ◌∷◌, []}
use Rattle.typed_tree.specs.declared.known_types.Types.{Types}
use Rattle.typed_tree.specs.declared.shape.Formal.{Formal}
use Rattle.typed_tree.specs.declared.shape.Signature.{Signature}
use Rattle.typed_tree.specs.declared.types.TypeNo.{TypeNo}

pub formal_agrees_moves : (z : Exchange) (f : Formal) (g : Formal)
    → formal_agrees (moved_formal z f) (moved_formal z g) ≡ formal_agrees f g
formal_agrees_moves z f g = simp (are_same_moves)

pub formals_agree_moves : (z : Exchange) (a0 : List Formal) (a1 : List Formal)
    → formals_agree (map (moved_formal z) a0) (map (moved_formal z) a1) ≡ formals_agree a0 a1
formals_agree_moves z [] [] = refl
formals_agree_moves z [] (g ∷ gs) = refl
formals_agree_moves z (f ∷ fs) [] = refl
formals_agree_moves z (f ∷ fs) (g ∷ gs) = simp (formal_agrees_moves, formals_agree_moves z fs gs)

pub result_agrees_moves : (z : Exchange) (a0 : Option TypeNo) (a1 : Option TypeNo)
    → result_agrees (option_map (moved_type z) a0) (option_map (moved_type z) a1) ≡ result_agrees a0 a1
result_agrees_moves z None None = refl
result_agrees_moves z None (Some u) = refl
result_agrees_moves z (Some t) None = refl
result_agrees_moves z (Some t) (Some u) = are_same_moves z t u

pub signatures_agree_moves : (z : Exchange) (a0 : Option Signature) (h : Option Signature)
    → signatures_agree (option_map (moved_signature z) a0) (option_map (moved_signature z) h) ≡ signatures_agree a0 h
signatures_agree_moves z None h = refl
signatures_agree_moves z (Some g) None = refl
signatures_agree_moves z (Some g) (Some h) = simp (formals_agree_moves, result_agrees_moves)

pub headings_agree_moves : (z : Exchange) (types : Types) (t : TypeNo) (u : TypeNo)
    → headings_agree (moved_types z types) (moved_type z t) (moved_type z u) ≡ headings_agree types t u
headings_agree_moves z types t u = simp (signatures_agree_moves, signature_at_moves)
