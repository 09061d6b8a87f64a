-- That names mean what the rules say, by number, where the block of a procedure begins.
use Rattle.std.specs.Prelude.{◌≡◌, ℕ, [], length, Option, Ok}
use Rattle.m2_tree.specs.declared.name.Ident.{Ident}
use Rattle.m2_tree.specs.declared.decl.Section.{Section}
use Rattle.m2_tree.specs.declared.decl.Heading.{Heading}
use Rattle.typed_tree.specs.declared.meaning.Meaning.{Meaning}
use Rattle.typed_tree.specs.declared.types.TypeNo.{TypeNo}
use Rattle.check_scope.specs.declared.scope.Scope.{Scope}
use Rattle.check_scope.specs.Elaborated.{Gathers}
use Rattle.check_scope.specs.Scopes.{looked_up}
use Rattle.check_block.specs.Inner.{formals_in, with_formals}
use Rattle.def_typing.specs.Parts.{Among}
use Rattle.def_typing.specs.Things.{Standing}
use Rattle.def_typing.specs.TypeNames.{NamesType}
use Rattle.def_typing.specs.Declarations.{names_in}
use Rattle.def_typed.specs.Named.{named, named_by}
use Rattle.def_typed.specs.Blocks.{MeansInside}
use Rattle.law_typing.specs.Judging.{Judges}
use Rattle.law_typing.specs.Exact.{Knows}

-- what is known around a procedure, before its formals are
pub record Surrounds (g : Gathers) (j : Judges g) (exports : ℕ → Ident → Standing)
    (seen : Ident → Standing) (around : Ident → Option Meaning) (s : Scope g.Reported)
    : Type 0 where
  pub names : Knows g j seen exports s
  pub no_withs : s.withs ≡ []
  pub no_names : s.own ≡ []
  pub means : (name : Ident) (m : Meaning) → looked_up g s name ≡ Ok m
      → (level : ℕ) → named level (around name) ≡ named_by level m

-- what is known of names in it
pub record AreSensedInside (g : Gathers) (exports : ℕ → Ident → Standing) (seen : Ident → Standing)
    (around : Ident → Option Meaning) (level : ℕ) (h : Heading) (s : Scope g.Reported)
    : Type 0 where
  -- Each name means something there, if it has code.
  pub each : (name : Ident) → (o : Option Meaning) × MeansInside exports seen around level h name o
  -- The scope has what it means by the rules.
  pub known : (name : Ident) (o : Option Meaning)
      → MeansInside exports seen around level h name o
      → (m : Meaning) → looked_up g s name ≡ Ok m
      → (level : ℕ) → named level o ≡ named_by level m
  -- Its formals are the first variables.
  pub counted : length s.variables ≡ length (names_in h.formals)

-- The type of each formal is named.
abbrev pub InsidesAreKnown : (g : Gathers) → Judges g → Type 0
InsidesAreKnown g j =
    (exports : ℕ → Ident → Standing) (seen : Ident → Standing) (around : Ident → Option Meaning)
    (s : Scope g.Reported) → Surrounds g j exports seen around s → (h : Heading)
    → ((x : Section) → Among x h.formals → (t : TypeNo) × NamesType seen exports x.of.of t)
    → AreSensedInside g exports seen around s.level h (with_formals s (formals_in g s h.formals))
