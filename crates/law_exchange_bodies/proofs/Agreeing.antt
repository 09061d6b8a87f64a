-- Agreeing of check_block, with other numbers of modules.
use Rattle.check_block.specs.Agreeing.{agrees, signature_of, same_result, signature_in, agree, same_formal}
use Rattle.def_exchange.specs.Moved.{moved_formal, moved_made, moved_shape, moved_signature, moved_type, Exchange}
use Rattle.law_exchange_types.proofs.Basics.{same_moves as are_same_moves}
use Rattle.std.proofs.Common.{◌≡◌, refl, None, Option, Some, option_map, ap₂, Bool, ◌&&◌}
use Rattle.typed_tree.specs.declared.shape.Formal.{Formal}
use Rattle.typed_tree.specs.declared.shape.Made.{Made}
use Rattle.typed_tree.specs.declared.shape.Shape.{Shape}
use Rattle.typed_tree.specs.declared.shape.Signature.{Signature}
use Rattle.typed_tree.specs.declared.types.TypeNo.{TypeNo}
use Rattle.typed_tree.specs.declared.shape.Shape.TheVariants as shape
use Rattle.law_exchange_bodies.proofs.Pieces.{pointwise_moves}

pub same_formal_moves : (z : Exchange) (f : Formal) (k : Formal)
    → same_formal (moved_formal z f) (moved_formal z k) ≡ same_formal f k
same_formal_moves z f k = simp (are_same_moves)

pub same_result_moves : (z : Exchange) (t u : Option TypeNo)
    → same_result (option_map (moved_type z) t) (option_map (moved_type z) u) ≡ same_result t u
same_result_moves z None None = refl
same_result_moves z None (Some u) = refl
same_result_moves z (Some t) None = refl
same_result_moves z (Some t) (Some u) = are_same_moves z t u

pub agrees_moves : (z : Exchange) (h : Signature) (k : Signature)
    → agrees (moved_signature z h) (moved_signature z k) ≡ agrees h k
agrees_moves z h k =
    ap₂ (λ (p q : Bool). p && q)
    (pointwise_moves (moved_formal z) same_formal same_formal (same_formal_moves z) h.formals k.formals)
    (same_result_moves z h.result k.result)

pub signature_in_moves : (z : Exchange) (s : Shape)
    → signature_in (moved_shape z s) ≡ option_map (moved_signature z) (signature_in s)
signature_in_moves z (shape.Procedure h) = refl
signature_in_moves z (shape.Scalar s) = refl
signature_in_moves z shape.Set = refl
signature_in_moves z (shape.Array i e) = refl
signature_in_moves z (shape.Record fs) = refl
signature_in_moves z (shape.Open e) = refl

pub signature_of_moves : (z : Exchange) (m : Option Made)
    → signature_of (option_map (moved_made z) m) ≡ option_map (moved_signature z) (signature_of m)
signature_of_moves z None = refl
signature_of_moves z (Some m) = signature_in_moves z m.shape

pub agree_moves : (z : Exchange) (h : Option Signature) (k : Option Signature)
    → agree (option_map (moved_signature z) h) (option_map (moved_signature z) k) ≡ agree h k
agree_moves z None k = refl
agree_moves z (Some h) None = refl
agree_moves z (Some h) (Some k) = agrees_moves z h k
