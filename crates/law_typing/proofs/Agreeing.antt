-- Whether a heading agrees with the one that awaits it is decided.
use Rattle.std.proofs.Common.{◌≡◌, Bool, true, false, List, [], ◌∷◌, Option, Some, None, refl, sym, ap, subst, ◌∙◌}
use Rattle.std.specs.Prelude.{◌&&◌}
use Rattle.std.specs.Cmp.Lexicographic.{pointwise}
use Rattle.typed_tree.specs.declared.types.TypeNo.{TypeNo}
use Rattle.typed_tree.specs.declared.shape.Formal.{Formal}
use Rattle.typed_tree.specs.declared.shape.Made.{Made}
use Rattle.typed_tree.specs.declared.shape.Shape.{Shape}
use Rattle.typed_tree.specs.declared.shape.Shape.TheVariants as shape
use Rattle.typed_tree.specs.declared.shape.Signature.{Signature}
use Rattle.typed_tree.specs.declared.known_types.Types.{Types}
use Rattle.typed_tree.specs.Known.{made_at}
use Rattle.typed_tree.specs.Types.{are_same}
use Rattle.check_value.specs.Agreement.{is_alike, formal_agrees, formals_agree, result_agrees}
use Rattle.check_value.specs.Classes.{signature_shape, signature_made}
use Rattle.check_block.specs.Agreeing.{is_one, same_formal, same_result, agrees, signature_in, signature_of, agree}
use Rattle.def_typing.specs.Shapes.{IsMade}
use Rattle.law_typing.proofs.Combining.{Decided, fails_it, decided_as}
use Rattle.law_typing.proofs.Shaping.{SignatureIs, has_signature, no_signature, signature_there, signatures_decided, one_signature}

-- ---- two ways to compare headings

one_alike : (a b : Bool) → is_alike a b ≡ is_one a b
one_alike true b = refl
one_alike false true = refl
one_alike false false = refl

all_three : {a b p q : Bool} (c : Bool) → a ≡ p → b ≡ q → (a && b) && c ≡ p && (q && c)
all_three {a = a} {b = b} {q = q} c e h = left a ∙ ap (λ (y : Bool). a && (y && c)) h
    ∙ ap (λ (x : Bool). x && (q && c)) e
  where
    left : (x : Bool) → (x && b) && c ≡ x && (b && c)
    left true = refl
    left false = refl

one_formal : (f k : Formal) → formal_agrees f k ≡ same_formal f k
one_formal f k = all_three (are_same f.of k.of) (one_alike f.is_var k.is_var) (one_alike f.is_open k.is_open)

all_formals : (fs ks : List Formal) → formals_agree fs ks ≡ pointwise same_formal fs ks
all_formals [] [] = refl
all_formals [] (k ∷ ks) = refl
all_formals (f ∷ fs) [] = refl
all_formals (f ∷ fs) (k ∷ ks) = ap (λ (x : Bool). x && formals_agree fs ks) (one_formal f k)
    ∙ ap (λ (x : Bool). same_formal f k && x) (all_formals fs ks)

one_result : (t u : Option TypeNo) → result_agrees t u ≡ same_result t u
one_result None None = refl
one_result None (Some u) = refl
one_result (Some t) None = refl
one_result (Some t) (Some u) = refl

one_heading : (h k : Signature) → formals_agree h.formals k.formals && result_agrees h.result k.result ≡ agrees h k
one_heading h k = ap (λ (x : Bool). x && result_agrees h.result k.result) (all_formals h.formals k.formals)
    ∙ ap (λ (x : Bool). pointwise same_formal h.formals k.formals && x) (one_result h.result k.result)

one_shape : (s : Shape) → signature_shape s ≡ signature_in s
one_shape (shape.Procedure p) = refl
one_shape (shape.Scalar r) = refl
one_shape shape.Set = refl
one_shape (shape.Array i e) = refl
one_shape (shape.Record fs) = refl
one_shape (shape.Open e) = refl

one_made : (m : Option Made) → signature_made m ≡ signature_of m
one_made None = refl
one_made (Some m) = one_shape m.shape

-- ---- the one that awaits it

module _ (types : Types) (t : TypeNo) (s : Signature) where
  awaited_by : {k : Option Signature} → SignatureIs types t k
      → Decided (IsMade types t (shape.Procedure s)) (agree (Some s) k)
  awaited_by (no_signature n) = fails_it (n s)
  awaited_by (has_signature h q) = decided_as
      (λ e. subst (λ (h : Signature). IsMade types t (shape.Procedure h)) (sym e) q) (λ m. one_signature types t m q)
      (subst (Decided (s ≡ h)) (one_heading s h) (signatures_decided s h))

  pub agreement_decided : Decided (IsMade types t (shape.Procedure s)) (agree (Some s) (signature_of (made_at types t)))
  agreement_decided = awaited_by (subst (SignatureIs types t) (one_made (made_at types t)) (signature_there types t))
