-- A name of a type that is found where a heading is declared is found again where the procedure's
-- block begins.
use Rattle.std.specs.Prelude.{◌≡◌, ℕ, List, [], ◌∷◌, ◌++◌, length, Option, Some, None, Ok}
use Rattle.std.specs.List.{fold}
use Rattle.m2_tree.specs.declared.decl.Block.{Block}
use Rattle.m2_tree.specs.declared.decl.Decl.{Decl, out-Decl}
use Rattle.m2_tree.specs.declared.decl.Decl.TheOpen as layer
use Rattle.m2_tree.specs.declared.decl.Heading.{Heading}
use Rattle.m2_tree.specs.declared.expr.Qualified.{Qualified}
use Rattle.typed_tree.specs.declared.meaning.Meaning.{Meaning}
use Rattle.typed_tree.specs.declared.meaning.Meaning.TheVariants as meaning
use Rattle.typed_tree.specs.declared.shape.Made.{Made}
use Rattle.typed_tree.specs.declared.shape.Shape.TheVariants as shape
use Rattle.typed_tree.specs.declared.types.TypeNo.{TypeNo}
use Rattle.typed_tree.specs.Known.{made_at}
use Rattle.typed_tree.specs.Names.{find_name}
use Rattle.check_scope.specs.Elaborated.{Gathers}
use Rattle.check_scope.specs.Scopes.{State}
use Rattle.check_scope.specs.declared.known.Known.TheVariants.{Headed}
use Rattle.check_scope.specs.declared.scope.Scope.{Scope}
use Rattle.check_type_expr.specs.Headings.{result_of}
use Rattle.check_type_expr.specs.Named.{named_type}
use Rattle.check_block.specs.Declarations.{Course, with_decl}
use Rattle.check_scope.specs.Inwards.{inwards}
use Rattle.check_block.specs.Naming.{marked_decl}
use Rattle.law_well_formed.specs.FormedNumbers.{all_formals}

-- ---- a block, up to one of its declarations

-- the names that are marked by these declarations
abbrev pub marked_by : {T : Type 0} → Scope T → List Decl → Scope T
marked_by s ds = fold marked_decl s ds

-- behind these declarations of a block whose names are all marked
abbrev pub declared_by : (g : Gathers) → (ends : List ℕ) → Course g.Reported → List Decl
    → Course g.Reported
declared_by g ends c ds = fold (with_decl g ends) c ds

-- In the block of the declarations `before`, `d` and `rest`, which begins with scope a, so the
-- declaration d is met in one scope; the block ends with another, and this many of its names stand
-- before d.
module _ (g : Gathers) (ends : List ℕ) (a : Scope g.Reported) (first : ℕ) (before : List Decl)
    (d : Decl) (rest : List Decl) where
  abbrev pub all : List Decl
  all = before ++ d ∷ rest

  abbrev pub course_begin : Course g.Reported
  course_begin = (marked_by a all, Ok tt, first)

  abbrev pub scope_before : Scope g.Reported
  scope_before = (declared_by g ends course_begin before).0

  abbrev pub end : Scope g.Reported
  end = (declared_by g ends course_begin all).0

  abbrev pub names_before : ℕ
  names_before = length (marked_by a before).own

-- a scope behind the block's declarations: its names, and what stands around it
pub record IsBehind {T : Type 0} (e w : Scope T) : Type 0 where
  pub own : w.own ≡ e.own
  pub outer : w.outer ≡ e.outer
  pub tables : w.tables ≡ e.tables
  pub withs : w.withs ≡ []

-- ---- the law

-- A type that has a name where a declaration is met has it where the block of its procedure begins.
abbrev pub NamesStay : Gathers → Type 0
NamesStay g =
    (ends : List ℕ) (a : Scope g.Reported) (first : ℕ) (before : List Decl) (d : Decl)
    (rest : List Decl)
    → a.withs ≡ []
    → (w : Scope g.Reported)
    → IsBehind (end g ends a first before d rest) w
    → (q : Qualified) (t : TypeNo)
    → named_type g (scope_before g ends a first before d rest) q ≡ Ok t
    → named_type g (inwards w (names_before g ends a first before d rest)) q ≡ Ok t

-- ---- headings

-- the type of a procedure's heading
abbrev pub heading_in : Meaning → Option TypeNo
heading_in (meaning.Procedure p) = Some p.heading
heading_in (meaning.LocalProcedure p) = Some p.heading
heading_in (meaning.Constant v) = None
heading_in (meaning.Type t n) = None
heading_in (meaning.Variable v) = None
heading_in (meaning.Local v) = None
heading_in (meaning.Field f) = None
heading_in meaning.Ahead = None
heading_in (meaning.Standard f) = None
heading_in (meaning.Module k) = None

-- In this scope the name of a heading means a procedure, whose type has the formals and the result
-- that are computed where the procedure's block begins, behind this many names of the block.
pub record HeadingStands (g : Gathers) (w : Scope g.Reported) (n : ℕ) (h : Heading) : Type 0 where
  pub means : Meaning
  pub named : find_name h.name.name w.own ≡ Some (Headed (Ok means))
  pub heading : TypeNo
  pub is : heading_in means ≡ Some heading
  pub made : Made
  pub there : made_at w.types heading ≡ Some made
  pub result : Option TypeNo
  pub gives : result_of g (inwards w n) h.result ≡ Ok result
  pub shape : made.shape ≡ shape.Procedure
      (record { formals = all_formals g (inwards w n) h.formals; result = result })

-- So it is behind the declarations of a block that break no rule, for each procedure among them.
abbrev pub HeadingsStay : Gathers → Type 0
HeadingsStay g =
    (ends : List ℕ) (a : Scope g.Reported) (first : ℕ) (before : List Decl) (d : Decl)
    (rest : List Decl)
    → a.withs ≡ []
    → (declared_by g ends (course_begin g ends a first before d rest)
    (all g ends a first before d rest)).1
    ≡ Ok tt
    → (w : Scope g.Reported)
    → IsBehind (end g ends a first before d rest) w
    → ((t : TypeNo) (x : Made) → made_at (end g ends a first before d rest).types t ≡ Some x
    → made_at w.types t ≡ Some x)
    → (h : Heading) (b : Block)
    → out-Decl d ≡ layer.Procedure h b
    → HeadingStands g w (names_before g ends a first before d rest) h
