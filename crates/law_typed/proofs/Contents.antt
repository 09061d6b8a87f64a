-- Which types are no arrays and no records, by the classes that the checker takes them for.
use Rattle.std.proofs.Common.{◌≡◌, Option, Some, None, refl, sym, ◌∙◌}
use Rattle.typed_tree.specs.declared.types.TypeNo.{TypeNo}
use Rattle.typed_tree.specs.declared.shape.Shape.{Shape}
use Rattle.typed_tree.specs.declared.shape.Shape.TheVariants as shape
use Rattle.typed_tree.specs.declared.known_types.Types.{Types}
use Rattle.check_value.specs.declared.class.Class.{Class}
use Rattle.check_value.specs.declared.class.Class.TheVariants as class
use Rattle.check_value.specs.Classes.{class_at}
use Rattle.def_typing.specs.Operators.{Whole}
use Rattle.def_typing.specs.Shapes.{shape_at}
use Rattle.def_typing.specs.Things.{content, content_of}
use Rattle.law_typing.proofs.Shaping.{class_is, class_of}

module _ (types : Types) (t : TypeNo) where
  whole_class : (z : Option Shape) → content_of t z ≡ Whole t → class_of z ≡ class.Whole
  whole_class None e = refl
  whole_class (Some (shape.Record fs)) e = refl
  whole_class (Some (shape.Array i u)) e = refl
  whole_class (Some (shape.Open u)) e = refl
  whole_class (Some (shape.Scalar r)) e = absurd cc
  whole_class (Some shape.Set) e = absurd cc
  whole_class (Some (shape.Procedure h)) e = absurd cc

  pub not_whole : {c : Class} → class_at types t ≡ c → (c ≡ class.Whole → ⊥) → content types t ≡ Whole t → ⊥
  not_whole h f e = f (sym h ∙ (class_is types t ∙ whole_class (shape_at types t) e))
