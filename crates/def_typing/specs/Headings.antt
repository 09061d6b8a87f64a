-- Headings of procedures and procedure types, and which rules are broken in them.
use Rattle.std.specs.Prelude.{ℕ, List, [], ◌∷◌, ◌++◌, map, Option, Some, None}
use Rattle.m2_rule.specs.declared.breach.Breach.{Breach}
use Rattle.m2_rule.specs.declared.rule.Rule.TheVariants as rule
use Rattle.m2_tree.specs.declared.pos.Pos.{Pos}
use Rattle.m2_tree.specs.declared.name.Ident.{Ident}
use Rattle.m2_tree.specs.declared.expr.Qualified.{Qualified}
use Rattle.m2_tree.specs.declared.decl.Parameter.{Parameter}
use Rattle.m2_tree.specs.declared.decl.Section.{Section}
use Rattle.m2_tree.specs.declared.decl.Heading.{Heading}
use Rattle.typed_tree.specs.declared.types.TypeNo.{TypeNo}
use Rattle.typed_tree.specs.declared.shape.Formal.{Formal}
use Rattle.typed_tree.specs.declared.shape.Signature.{Signature}
use Rattle.typed_tree.specs.declared.shape.Made.{Made}
use Rattle.typed_tree.specs.declared.shape.Shape.{Shape}
use Rattle.typed_tree.specs.declared.shape.Shape.TheVariants as shape
use Rattle.typed_tree.specs.declared.known_types.Types.{Types}
use Rattle.def_typing.specs.Shapes.{IsMade}
use Rattle.def_typing.specs.Operators.{◌!◌}
use Rattle.def_typing.specs.Things.{Standing}
use Rattle.def_typing.specs.Parts.{Among}
use Rattle.def_typing.specs.TypeNames.{NamesType, BrokenTypeName}

-- the place of the first token of a name
abbrev pub begins_at : Option Ident → Ident → Pos
begins_at None name = name.pos
begins_at (Some home) name = home.pos

abbrev pub IsSimple : Shape → Type 0
IsSimple (shape.Array i e) = ⊥
IsSimple (shape.Record fs) = ⊥
IsSimple (shape.Open e) = ⊥
IsSimple other = Unit {0}

-- A function gives no arrays and no records.
pub data IsResult (types : Types) (t : TypeNo) : Type 0 where
  is_result : {s : Shape} → IsMade types t s → IsSimple s → IsResult types t

-- how the type of a procedure is made
abbrev pub procedure_made : Signature → Made
procedure_made s = record { shape = shape.Procedure s; cells = 1 }

-- the formals of a section, one for each name
abbrev pub formals_of : Section → TypeNo → List Formal
formals_of x t =
    map (λ n. record { is_var = x.is_var; is_open = x.of.is_open; of = t }) x.names

module _ (types : Types) (names : Ident → Standing) (exports : ℕ → Ident → Standing) where
  pub data AreFormals : List Section → List Formal → Type 0 where
    no_formal : AreFormals [] []
    section : {x : Section} {xs : List Section} {t : TypeNo} {fs : List Formal}
        → NamesType names exports x.of.of t → AreFormals xs fs
        → AreFormals (x ∷ xs) (formals_of x t ++ fs)

  -- the same of a procedure type
  pub data AreParameters : List Parameter → List Formal → Type 0 where
    no_parameter : AreParameters [] []
    parameter : {x : Parameter} {xs : List Parameter} {t : TypeNo} {fs : List Formal}
        → NamesType names exports x.of.of t → AreParameters xs fs
        → AreParameters (x ∷ xs)
        (record { is_var = x.is_var; is_open = x.of.is_open; of = t } ∷ fs)

  pub data GivesBack : Option Qualified → Option TypeNo → Type 0 where
    nothing : GivesBack None None
    a_result : {q : Qualified} {t : TypeNo} → NamesType names exports q t → IsResult types t
        → GivesBack (Some q) (Some t)

  pub record IsHeading (h : Heading) (s : Signature) : Type 0 where
    pub formals : AreFormals h.formals s.formals
    pub result : GivesBack h.result s.result

  pub data BrokenResult : Option Qualified → Breach → Type 0 where
    in_result : {q : Qualified} {f : Breach} → BrokenTypeName names exports q f
        → BrokenResult (Some q) f
    no_result : {q : Qualified} {t : TypeNo} → NamesType names exports q t
        → (IsResult types t → ⊥)
        → BrokenResult (Some q) (begins_at q.module q.name ! rule.NoType)

  pub data BrokenHeading (h : Heading) (f : Breach) : Type 0 where
    in_formal : {x : Section} → Among x h.formals → BrokenTypeName names exports x.of.of f
        → BrokenHeading h f
    at_result : BrokenResult h.result f → BrokenHeading h f
