-- Names that carry the numbers under which their scope has them, and declarations that keep them
-- so.
use Rattle.std.specs.Prelude.{◌≡◌, ℕ, ◌≤◌, ◌⊎◌, List, [], ◌∷◌, ◌++◌, length, Some, Result, Ok, Err, slice_get}
use Rattle.std.specs.List.{fold}
use Rattle.m2_tree.specs.declared.decl.Decl.{Decl}
use Rattle.m2_tree.specs.declared.decl.Heading.{Heading}
use Rattle.m2_tree.specs.declared.decl.Section.{Section}
use Rattle.m2_tree.specs.declared.name.Ident.{Ident}
use Rattle.typed_tree.specs.declared.meaning.LocalKind.TheVariants as local
use Rattle.typed_tree.specs.declared.meaning.LocalVariable.{LocalVariable}
use Rattle.typed_tree.specs.declared.meaning.Meaning.{Meaning}
use Rattle.typed_tree.specs.declared.meaning.Meaning.TheVariants as meaning
use Rattle.typed_tree.specs.declared.shape.Formal.{Formal}
use Rattle.typed_tree.specs.declared.types.TypeNo.{TypeNo}
use Rattle.check_scope.specs.Elaborated.{Gathers}
use Rattle.check_scope.specs.declared.known.Known.{Known}
use Rattle.check_scope.specs.declared.known.Known.TheVariants.{Later, Ahead, Begun, Headed, Declared}
use Rattle.check_scope.specs.declared.scope.Scope.{Scope}
use Rattle.check_type_expr.specs.Headings.{formal_of}
use Rattle.check_block.specs.Declarations.{Course, with_decl}
use Rattle.check_scope.specs.Inwards.{inwards}
use Rattle.check_block.specs.Inner.{formal_kind, entered_procedure}
use Rattle.law_well_formed.specs.Formed.{Holds}

-- what a block has under numbers: the types of its variables, and the headings of the module's
-- procedures
pub record Lists : Type 0 where
  pub level : ℕ
  pub home : ℕ
  pub variables : List TypeNo
  pub procedures : List TypeNo

abbrev pub lists_of : {T : Type 0} → Scope T → Lists
lists_of s = record {
  level = s.level;
  home = s.types.home;
  variables = s.variables;
  procedures = s.procedures;
}

-- ---- names

-- one of these formals, with its kind and type
pub record IsFormal (fs : List Formal) (v : LocalVariable) : Type 0 where
  pub formal : Formal
  pub there : slice_get fs v.number ≡ Some formal
  pub same_kind : v.kind ≡ formal_kind formal
  pub of : v.of ≡ formal.of

-- a variable behind them
pub record IsBehind (fs : List Formal) (v : LocalVariable) : Type 0 where
  pub same_kind : v.kind ≡ local.Variable
  pub behind : length fs ≤ v.number

-- in the block of a procedure with these formals, or of a module, which has none
module _ (fs : List Formal) (l : Lists) where
  -- a local name stands under its number among the variables of the block
  pub record LocalNumbered (v : LocalVariable) : Type 0 where
    pub level : v.level ≡ l.level
    pub there : slice_get l.variables v.number ≡ Some v.of
    pub placed : IsFormal fs v ⊎ IsBehind fs v

  -- what is the module's own stands under its number
  abbrev pub MeaningNumbered : Meaning → Type 0
  MeaningNumbered (meaning.Constant v) = Unit {0}
  MeaningNumbered (meaning.Type t n) = Unit {0}
  MeaningNumbered (meaning.Variable v) =
      v.home ≡ l.home → slice_get l.variables v.number ≡ Some v.of
  MeaningNumbered (meaning.Local v) = LocalNumbered v
  MeaningNumbered (meaning.Field f) = Unit {0}
  MeaningNumbered (meaning.Procedure p) =
      p.home ≡ l.home → slice_get l.procedures p.number ≡ Some p.heading
  MeaningNumbered (meaning.LocalProcedure p) = p.level ≡ l.level
  MeaningNumbered meaning.Ahead = Unit {0}
  MeaningNumbered (meaning.Standard f) = Unit {0}
  MeaningNumbered (meaning.Module k) = Unit {0}

  abbrev pub KnownNumbered : {T : Type 0} → Known T → Type 0
  KnownNumbered Later = Unit {0}
  KnownNumbered Ahead = Unit {0}
  KnownNumbered Begun = Unit {0}
  KnownNumbered (Headed r) = Holds MeaningNumbered r
  KnownNumbered (Declared o r) = Holds MeaningNumbered r

  abbrev pub NamesNumbered : {T : Type 0} → List (List ℕ × Known T) → Type 0
  NamesNumbered [] = Unit {0}
  NamesNumbered (e ∷ es) = KnownNumbered e.1 × NamesNumbered es

-- the names of the innermost block stand under their numbers, and its formals come first among its
-- variables
pub record IsNumbered {T : Type 0} (fs : List Formal) (s : Scope T) : Type 0 where
  pub names : NamesNumbered fs (lists_of s) s.own
  pub few : length fs ≤ length s.variables

-- ---- what a declaration keeps

pub record More (a b : Lists) : Type 0 where
  pub level : b.level ≡ a.level
  pub home : b.home ≡ a.home
  pub count : length a.variables ≤ length b.variables
  pub variables : (n : ℕ) (t : TypeNo) → slice_get a.variables n ≡ Some t
      → slice_get b.variables n ≡ Some t
  pub procedures : (n : ℕ) (t : TypeNo) → slice_get a.procedures n ≡ Some t
      → slice_get b.procedures n ≡ Some t

pub record Grows {T : Type 0} (fs : List Formal) (s s' : Scope T) : Type 0 where
  pub outer : s'.outer ≡ s.outer
  pub more : More (lists_of s) (lists_of s')
  pub numbered : IsNumbered fs s → IsNumbered fs s'

-- ---- the laws

-- a declaration of a block leads from numbered names to numbered names
abbrev pub DeclarationsNumber : Gathers → Type 0
DeclarationsNumber g =
    (fs : List Formal) (ends : List ℕ) (c : Course g.Reported) (d : Decl)
    → Grows fs c.0 (with_decl g ends c d).0

-- the formals that a heading's sections give, without those that break a rule
abbrev pub with_one : {T : Type 0} → List Formal → Result Formal T → List Formal
with_one fs (Ok f) = fs ++ f ∷ []
with_one fs (Err e) = fs

abbrev pub with_names : {T : Type 0} → Result Formal T → List Formal → List Ident → List Formal
with_names f fs names = fold (λ so x. with_one so f) fs names

abbrev pub with_formals_of : (g : Gathers) → Scope g.Reported → List Formal → Section → List Formal
with_formals_of g s fs x = with_names (formal_of g s x.is_var x.of) fs x.names

abbrev pub all_formals : (g : Gathers) → Scope g.Reported → List Section → List Formal
all_formals g s xs = fold (with_formals_of g s) [] xs

-- the block of a procedure begins with its formals, under their numbers
abbrev pub EnteredNumbers : Gathers → Type 0
EnteredNumbers g =
    (s : Scope g.Reported) (seen : ℕ) (h : Heading)
    → IsNumbered (all_formals g (inwards s seen) h.formals) (entered_procedure g s seen h).0
