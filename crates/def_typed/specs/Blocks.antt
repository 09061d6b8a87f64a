-- What names mean by number behind the declarations of a block, and where a procedure begins.
use Rattle.std.specs.Prelude.{◌≡◌, ℕ, suc, ◌+◌, ◌==◌, Bool, true, false, List, ◌∷◌, Option, Some, None, slice_get}
use Rattle.m2_tree.specs.declared.name.Ident.{Ident}
use Rattle.m2_tree.specs.declared.decl.Heading.{Heading}
use Rattle.m2_tree.specs.declared.decl.Section.{Section}
use Rattle.m2_tree.specs.declared.decl.Decl.{Decl}
use Rattle.typed_tree.specs.declared.types.TypeNo.{TypeNo}
use Rattle.typed_tree.specs.declared.meaning.LocalKind.{LocalKind}
use Rattle.typed_tree.specs.declared.meaning.LocalKind.TheVariants as kind
use Rattle.typed_tree.specs.declared.meaning.Meaning.{Meaning}
use Rattle.typed_tree.specs.declared.meaning.Meaning.TheVariants as meaning
use Rattle.def_typing.specs.Parts.{Among}
use Rattle.def_typing.specs.Things.{AVariable, AnOpenArray, AProcedure, ANested, AModule, Standing, Known}
use Rattle.def_typing.specs.TypeNames.{NamesType}
use Rattle.def_typing.specs.Declarations.{AnyDeclares, declarations_of, names_in}
use Rattle.def_typing.specs.Bodies.{formal_named}
use Rattle.def_typed.specs.Numbers.{variables_in, variable_at, headings_in, new_headings, nested_numbers}

-- Constants, types and standard procedures have no code.
abbrev pub StandsWithoutCode : Standing → Type 0
StandsWithoutCode (Known (AVariable t)) = ⊥
StandsWithoutCode (Known (AnOpenArray t)) = ⊥
StandsWithoutCode (Known (AProcedure t)) = ⊥
StandsWithoutCode (Known (ANested t)) = ⊥
StandsWithoutCode (Known (AModule k)) = ⊥
StandsWithoutCode other = Unit {0}

-- where a block begins
pub record Before : Type 0 where
  -- the number of the module
  pub home : ℕ
  -- how many procedures stand around
  pub level : ℕ
  -- how many variables have numbers there: of a procedure the formals
  pub variables : ℕ
  -- how many procedures of the module have numbers there
  pub procedures : ℕ
  -- the number of the first procedure in a procedure
  pub nested : ℕ
  -- what names mean there
  pub of_names : Ident → Option Meaning

-- by which names are taken there, which procedures of the definition await a heading, and what
-- names stand for behind the declarations
module _ (q : Before) (taken : List ℕ → Bool) (awaited : List ℕ → Option TypeNo)
    (names : Ident → Standing) (ds : List Decl) where
  pub data MeansBehind (name : Ident) : Option Meaning → Type 0 where
    from_outside : (taken name.name ≡ false → AnyDeclares (declarations_of ds) name.name → ⊥)
        → MeansBehind name (q.of_names name)
    a_variable : (i : ℕ) {x : Ident} {t : TypeNo} → taken name.name ≡ false
        → slice_get (variables_in (declarations_of ds)) i ≡ Some x → x.name ≡ name.name
        → names name ≡ Known (AVariable t)
        → MeansBehind name (Some (variable_at (q.level == 0) q.home q.level (q.variables + i) t))
    of_module : (i : ℕ) {h : Heading} {t : TypeNo} → (q.level == 0) ≡ true
        → slice_get (new_headings awaited (headings_in ds)) i ≡ Some h → h.name.name ≡ name.name
        → names name ≡ Known (AProcedure t)
        → MeansBehind name (Some (meaning.Procedure
        (record { home = q.home; number = q.procedures + i; heading = t })))
    of_procedure : {n : ℕ} {h : Heading} {t : TypeNo} → (q.level == 0) ≡ false
        → Among (h, n) (nested_numbers q.nested ds) → h.name.name ≡ name.name
        → names name ≡ Known (ANested t)
        → MeansBehind name (Some (meaning.LocalProcedure
        (record { level = q.level; number = n; heading = t })))
    without_code : StandsWithoutCode (names name) → MeansBehind name None

-- ---- where a procedure begins

abbrev pub kind_of_formal : (is_var is_open : Bool) → LocalKind
kind_of_formal is_var true = kind.Open
kind_of_formal true false = kind.Alias
kind_of_formal false false = kind.Value

-- the place of the first of this name
pub data IsFirstAt (n : List ℕ) : List Ident → ℕ → Type 0 where
  at_first : {x : Ident} {xs : List Ident} → x.name ≡ n → IsFirstAt n (x ∷ xs) 0
  later_on : {x : Ident} {xs : List Ident} {i : ℕ} → (x.name ≡ n → ⊥) → IsFirstAt n xs i
      → IsFirstAt n (x ∷ xs) (suc i)

-- by what modules export, what names stand for around the procedure, and what they mean there
module _ (exports : ℕ → Ident → Standing) (seen : Ident → Standing)
    (around : Ident → Option Meaning) (level : ℕ) (h : Heading) where
  pub data MeansInside (name : Ident) : Option Meaning → Type 0 where
    -- Formals are numbered in their order.
    a_formal : {i : ℕ} {x : Section} {t : TypeNo} → IsFirstAt name.name (names_in h.formals) i
        → formal_named name.name h.formals ≡ Some x → NamesType seen exports x.of.of t
        → MeansInside name (Some (meaning.Local (record {
          level = level;
          number = i;
          kind = kind_of_formal x.is_var x.of.is_open;
          of = t;
        })))
    no_formal : formal_named name.name h.formals ≡ None → MeansInside name (around name)
