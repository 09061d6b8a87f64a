-- Headings that agree: in the kinds and types of the formals, and in the result.
use Rattle.std.specs.Prelude.{Bool, true, false, ◌&&◌, Option, Some, None}
use Rattle.std.specs.Cmp.Lexicographic.{pointwise}
use Rattle.typed_tree.specs.declared.types.TypeNo.{TypeNo}
use Rattle.typed_tree.specs.declared.shape.Formal.{Formal}
use Rattle.typed_tree.specs.declared.shape.Signature.{Signature}
use Rattle.typed_tree.specs.declared.shape.Shape.{Shape}
use Rattle.typed_tree.specs.declared.shape.Shape.TheVariants as shape
use Rattle.typed_tree.specs.declared.shape.Made.{Made}
use Rattle.typed_tree.specs.Types.{are_same}

abbrev pub is_one : Bool → Bool → Bool
is_one true b = b
is_one false true = false
is_one false false = true

abbrev pub same_formal : Formal → Formal → Bool
same_formal f k = is_one f.is_var k.is_var && (is_one f.is_open k.is_open && are_same f.of k.of)

abbrev pub same_result : Option TypeNo → Option TypeNo → Bool
same_result None None = true
same_result None (Some u) = false
same_result (Some t) None = false
same_result (Some t) (Some u) = are_same t u

abbrev pub agrees : Signature → Signature → Bool
agrees h k = pointwise same_formal h.formals k.formals && same_result h.result k.result

abbrev pub signature_in : Shape → Option Signature
signature_in (shape.Procedure h) = Some h
signature_in (shape.Scalar s) = None
signature_in shape.Set = None
signature_in (shape.Array i e) = None
signature_in (shape.Record fs) = None
signature_in (shape.Open e) = None

abbrev pub signature_of : Option Made → Option Signature
signature_of None = None
signature_of (Some m) = signature_in m.shape

abbrev pub agree : Option Signature → Option Signature → Bool
agree None k = false
agree (Some h) None = false
agree (Some h) (Some k) = agrees h k
