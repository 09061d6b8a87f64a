-- What fresh variables of each type hold, and their sizes: found of each type from those before it.
use Rattle.std.specs.Prelude.{◌≡◌, ℕ, ◌+◌, ◌*◌, ℤ, pos, nat_eq, cond, length, List, [], ◌∷◌, ◌++◌, map, Option, Some, None}
use Rattle.std.specs.List.{fold}
use Rattle.typed_tree.specs.declared.types.Home.{Home}
use Rattle.typed_tree.specs.declared.types.Home.TheVariants.{Predeclared, Module}
use Rattle.typed_tree.specs.declared.types.TypeNo.{TypeNo}
use Rattle.typed_tree.specs.declared.shape.Scalar.{Scalar as Range}
use Rattle.typed_tree.specs.declared.shape.Formal.{Formal}
use Rattle.typed_tree.specs.declared.shape.Shape.{Shape}
use Rattle.typed_tree.specs.declared.shape.Shape.TheVariants as shape
use Rattle.typed_tree.specs.declared.shape.Made.{Made}
use Rattle.typed_tree.specs.declared.known_types.Types.{Types}
use Rattle.typed_tree.specs.declared.typed_module.Routine.{Routine}
use Rattle.typed_tree.specs.declared.typed_module.TypedModule.{TypedModule}
use Rattle.typed_tree.specs.Known.{predeclared_scalar, scalar_at}
use Rattle.std.specs.Prelude.{slice_get, if◌then◌else◌}
use Rattle.layout_storage.specs.Types.{Scalar, Natural, first}
use Rattle.layout_storage.specs.Sizes.{width}
use Rattle.layout_storage.specs.Shapes.{scalar_kind, elements_of}
use Rattle.layout_storage.specs.Frames.{formals_of}
use Rattle.plain_store.specs.declared.held.Held.{Held}
use Rattle.plain_store.specs.declared.held.Held.TheVariants.{Same, Parts, Array}
use Rattle.plain_store.specs.declared.blanks.Blank.{Blank}
use Rattle.plain_store.specs.declared.blanks.Kept.{Kept}

-- ---- one type

abbrev pub cell : ℤ → ℕ → Blank
cell v n = record { held = Parts v [] (Same (pos 0)); size = n }

abbrev pub cell_blank : Scalar → Blank
cell_blank c = cell (first c) (width c)

abbrev pub word_blank : Blank
word_blank = cell_blank (Natural 4294967295)

abbrev pub hidden_blank : ℕ → Blank
hidden_blank n = record { held = Same (pos 0); size = n }

abbrev pub scalar_blank : TypeNo → Option Range → Blank
scalar_blank t None = word_blank
scalar_blank t (Some s) = cell_blank (scalar_kind t s)

abbrev pub array_blank : ℕ → Blank → Blank
array_blank n b = record { held = Array n b.held; size = n * b.size }

abbrev pub held_in : Blank → Held
held_in b = b.held

abbrev pub total : List Blank → ℕ
total [] = 0
total (b ∷ bs) = b.size + total bs

abbrev pub row_blank : List Blank → Blank
row_blank bs = record { held = Parts (pos 0) (map held_in bs) (Same (pos 0)); size = total bs }

-- ---- the types that stand before

abbrev pub or_none : Option Blank → Blank
or_none None = row_blank []
or_none (Some b) = b

abbrev pub kept_of : ℕ → List Kept → Option (List Blank)
kept_of home [] = None
kept_of home (k ∷ ks) = cond (nat_eq home k.home) (Some k.blanks) (kept_of home ks)

abbrev pub among : Option (List Blank) → ℕ → Option Blank
among None n = None
among (Some bs) n = slice_get bs n

abbrev pub blank_from : List Kept → TypeNo → Home → Blank
blank_from known t Predeclared = scalar_blank t (predeclared_scalar t.number)
blank_from known t (Module home) = or_none (among (kept_of home known) t.number)

abbrev pub blank_in : List Kept → TypeNo → Blank
blank_in known t = blank_from known t t.home

abbrev pub field_blank : List Kept → List ℕ × TypeNo → Blank
field_blank known f = blank_in known f.1

abbrev pub shape_blank : Types → List Kept → TypeNo → Shape → Blank
shape_blank types known t (shape.Scalar s) = cell_blank (scalar_kind t s)
shape_blank types known t shape.Set = word_blank
shape_blank types known t (shape.Array i e) =
    array_blank (elements_of (scalar_at types i)) (blank_in known e)
shape_blank types known t (shape.Record fs) = row_blank (map (field_blank known) fs)
shape_blank types known t (shape.Procedure p) = word_blank
shape_blank types known t (shape.Open e) = row_blank []

-- ---- the types of modules

abbrev pub keep_blanks : ℕ → List Blank → Kept
keep_blanks home bs = record { home = home; blanks = bs }

abbrev pub with_made : Types → List Kept → (home : ℕ) → List Blank → Made → List Blank
with_made types before home bs m =
    bs
    ++ shape_blank types (keep_blanks home bs ∷ before)
    (record { home = Module home; number = length bs }) m.shape
    ∷ []

abbrev pub module_blanks : Types → List Kept → (home : ℕ) → List Made → List Blank
module_blanks types before home ms = fold (with_made types before home) [] ms

abbrev pub with_module : Types → List Kept → ℕ × List Made → List Kept
with_module types before e = before ++ keep_blanks e.0 (module_blanks types before e.0 e.1) ∷ []

abbrev pub if_some : {A X : Type 0} → (A → X → A) → A → Option X → A
if_some f a None = a
if_some f a (Some x) = f a x

abbrev pub other_blanks : Types → List Kept
other_blanks types = fold (with_module types) [] types.others

unfoldable pub known_blanks : Types → List Kept
known_blanks types =
    keep_blanks types.home (module_blanks types (other_blanks types) types.home types.own)
    ∷ other_blanks types

-- ---- frames and modules

abbrev pub formal_blank : List Kept → Formal → Blank
formal_blank known f =
    if f.is_open
    then row_blank (hidden_blank 4 ∷ hidden_blank 4 ∷ [])
    else (if f.is_var then hidden_blank 4 else blank_in known f.of)

abbrev pub header_blank : Blank
header_blank = row_blank (hidden_blank 8 ∷ hidden_blank 8 ∷ [])

abbrev pub frame_blank : Types → List Kept → Routine → Blank
frame_blank types known r =
    row_blank (header_blank ∷ (map (formal_blank known) (formals_of types r.heading)
    ++ map (blank_in known) r.variables))

-- the variables of a module
abbrev pub variables_of : TypedModule → Blank
variables_of m = row_blank (map (blank_in (known_blanks m.types)) m.variables)
