-- Headings that the module's own definition awaits. An exported procedure and its heading in the
-- implementation are one declaration.
use Rattle.std.specs.Prelude.{ℕ}
use Rattle.m2_rule.specs.declared.breach.Breach.{Breach}
use Rattle.m2_rule.specs.declared.rule.Rule.TheVariants as rule
use Rattle.m2_tree.specs.declared.name.Ident.{Ident}
use Rattle.m2_tree.specs.declared.decl.Heading.{Heading}
use Rattle.typed_tree.specs.declared.types.TypeNo.{TypeNo}
use Rattle.typed_tree.specs.declared.shape.Shape.TheVariants as shape
use Rattle.typed_tree.specs.declared.shape.Signature.{Signature}
use Rattle.typed_tree.specs.declared.known_types.Types.{Types}
use Rattle.def_typing.specs.Shapes.{IsMade}
use Rattle.def_typing.specs.Operators.{◌!◌}
use Rattle.def_typing.specs.Things.{Standing}
use Rattle.def_typing.specs.Headings.{IsHeading}

-- The definition's procedure has the type t.
module _ (types : Types) (names : Ident → Standing) (exports : ℕ → Ident → Standing)
    (t : TypeNo) (h : Heading) where
  -- The formals have the same kinds and types, whatever their names, and the result is the same.
  pub data Agrees : Type 0 where
    agrees : {s : Signature} → IsHeading types names exports h s
        → IsMade types t (shape.Procedure s) → Agrees

  -- the refusal of a heading that does not agree, at its name
  pub data Disagrees : Breach → Type 0 where
    other_heading : {s : Signature} → IsHeading types names exports h s → (Agrees → ⊥)
        → Disagrees (h.name.pos ! rule.OtherHeading)
