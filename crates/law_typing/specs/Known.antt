-- What a scope knows of names, and what tables have.
use Rattle.std.specs.Prelude.{Bool, ◌≡◌, ℕ, List, [], ◌∷◌, Option, Some, None, Result, Ok, Err, slice_get}
use Rattle.m2_rule.specs.declared.breach.Breach.{Breach}
use Rattle.m2_rule.specs.declared.rule.Rule.TheVariants as rule
use Rattle.m2_tree.specs.declared.pos.Pos.{Pos}
use Rattle.m2_tree.specs.declared.name.Ident.{Ident}
use Rattle.typed_tree.specs.declared.types.TypeNo.{TypeNo}
use Rattle.typed_tree.specs.declared.meaning.LocalKind.{LocalKind}
use Rattle.typed_tree.specs.declared.meaning.LocalKind.TheVariants as local
use Rattle.typed_tree.specs.declared.meaning.Value.{Value as ConstantValue}
use Rattle.typed_tree.specs.declared.meaning.Value.TheVariants as value
use Rattle.typed_tree.specs.declared.meaning.Meaning.{Meaning}
use Rattle.typed_tree.specs.declared.meaning.Meaning.TheVariants as meaning
use Rattle.check_scope.specs.declared.meaningless.Meaningless.{Meaningless}
use Rattle.check_scope.specs.declared.meaningless.Meaningless.TheVariants as meaningless
use Rattle.check_scope.specs.declared.scope.Scope.{Scope}
use Rattle.check_scope.specs.Elaborated.{Gathers}
use Rattle.check_scope.specs.Scopes.{looked_up}
use Rattle.check_const.specs.Denote.{exported_by}
use Rattle.typed_tree.specs.Names.{find_name}
use Rattle.def_typing.specs.Amounts.{Constant}
use Rattle.def_typing.specs.Operators.{◌!◌, Kind, Scalar, Set, Text}
use Rattle.def_typing.specs.Things.{AValue, AVariable, AnOpenArray, AType, AProcedure, ANested, AStandard, AModule, Headless, Standing, Known, Ahead, Undeclared, NotExported, Unknown}
use Rattle.law_typing.specs.Judging.{Judges}

abbrev pub kind_of : ConstantValue → Kind
kind_of (value.Number n) = Scalar (Constant None n)
kind_of (value.Scalar s) = Scalar (Constant (Some s.base) s.number)
kind_of (value.Set bits) = Set (Some bits)
kind_of (value.Text text) = Text text

-- ---- names

abbrev pub of_local : TypeNo → LocalKind → Standing
of_local t local.Open = Known (AnOpenArray t)
of_local t other = Known (AVariable t)

-- what a name of this meaning stands for
abbrev pub standing : Meaning → Standing
standing (meaning.Constant v) = Known (AValue (kind_of v))
standing (meaning.Type t n) = Known (AType t)
standing (meaning.Variable v) = Known (AVariable v.of)
standing (meaning.Local v) = of_local v.of v.kind
standing (meaning.Field f) = Known (AVariable f.of)
standing (meaning.Procedure p) = Known (AProcedure p.heading)
standing (meaning.LocalProcedure p) = Known (ANested p.heading)
standing meaning.Ahead = Ahead
standing (meaning.Standard f) = Known (AStandard f)
standing (meaning.Module k) = Known (AModule k)

module _ (g : Gathers) (j : Judges g) where
  -- what a name stands for, and what is looked up of it at a place
  pub data Sees (at : Pos) : Standing → Result Meaning (Meaningless g.Reported) → Type 0 where
    sees : (m : Meaning) → Sees at (standing m) (Ok m)
    sees_nothing : Sees at Undeclared (Err (meaningless.Broken (g.one (at ! rule.Undeclared))))
    sees_headless : (nested : Bool) (r : g.Reported)
        → Sees at (Known (Headless nested)) (Err (meaningless.Headless nested r))
    sees_unknown : (r : g.Reported) → Sees at Unknown (Err (meaningless.Broken r))

  -- what the use of a name repeats of its declaration
  pub data Repeats (names : Ident → Standing) (s : Scope g.Reported) (f : Breach) : Type 0 where
    of_heading : {name : Ident} {nested : Bool} {r : g.Reported}
        → names name ≡ Known (Headless nested)
        → looked_up g s name ≡ Err (meaningless.Headless nested r) → j.Among r f
        → Repeats names s f
    of_declaration : {name : Ident} {r : g.Reported} → names name ≡ Unknown
        → looked_up g s name ≡ Err (meaningless.Broken r) → j.Among r f → Repeats names s f

  -- what a module exports by a name
  pub data Exports : Standing → Option Meaning → Type 0 where
    has_exported : (m : Meaning) → Exports (standing m) (Some m)
    has_nothing : Exports NotExported None

  -- Names stand for what the scope knows of them, and names of modules for what the tables have.
  pub record Knows (names : Ident → Standing) (exports : ℕ → Ident → Standing)
      (s : Scope g.Reported) : Type 0 where
    pub of_names : (name : Ident) → Sees name.pos (names name) (looked_up g s name)
    pub of_modules : (k : ℕ) (name : Ident)
        → Exports (exports k name) (exported_by name.name (slice_get s.tables k))

-- ---- lists of names

-- Each name is there once.
pub data AreOnce {V : Type 0} : List (List ℕ × V) → Type 0 where
  no_names : AreOnce []
  one_name : {e : List ℕ × V} {es : List (List ℕ × V)} → find_name e.0 es ≡ None → AreOnce es
      → AreOnce (e ∷ es)
