-- What names stand for, what is taken as a value, and what is picked of it.
use Rattle.std.specs.Prelude.{◌≡◌, ℕ, ℤ, Bool, true, List, Option, Some, None}
use Rattle.m2_rule.specs.declared.rule.Rule.{Rule}
use Rattle.m2_rule.specs.declared.rule.Rule.TheVariants as rule
use Rattle.m2_tree.specs.declared.pos.Pos.{Pos}
use Rattle.m2_tree.specs.declared.name.Ident.{Ident}
use Rattle.typed_tree.specs.declared.types.TypeNo.{TypeNo}
use Rattle.typed_tree.specs.declared.meaning.Standard.{Standard}
use Rattle.typed_tree.specs.declared.shape.Scalar.{Scalar as Range}
use Rattle.typed_tree.specs.declared.shape.Shape.{Shape}
use Rattle.typed_tree.specs.declared.shape.Shape.TheVariants as shape
use Rattle.typed_tree.specs.declared.shape.Signature.{Signature}
use Rattle.typed_tree.specs.declared.known_types.Types.{Types}
use Rattle.typed_tree.specs.Names.{find_name}
use Rattle.typed_tree.specs.Types.{cardinal}
use Rattle.m2_rule.specs.declared.breach.Breach.{Breach}
use Rattle.def_typing.specs.Shapes.{shape_at, IsMade, Agree}
use Rattle.def_typing.specs.Amounts.{Amount, Constant, Value, sort_of, IsWhole, Within}
use Rattle.def_typing.specs.Operators.{◌!◌, Kind, Scalar, Set, Routine, Procedure, Whole, Untaken}

-- ---- names

-- what an expression or a designator stands for
pub data Thing : Type 0 where
  -- a constant, or the value of an expression
  AValue : Kind → Thing
  -- a variable, by its type
  AVariable : TypeNo → Thing
  -- a formal ARRAY OF, by the type of its elements
  AnOpenArray : TypeNo → Thing
  AType : TypeNo → Thing
  -- a procedure of a module, by its heading
  AProcedure : TypeNo → Thing
  -- a procedure that is declared in a procedure, by its heading
  ANested : TypeNo → Thing
  AStandard : Standard → Thing
  AModule : ℕ → Thing
  -- a procedure in whose heading rules are broken, and whether it is declared in a procedure
  Headless : (nested : Bool) → Thing

-- what a name stands for, if it stands for something
pub data Standing : Type 0 where
  Known : Thing → Standing
  -- a procedure of the block, before its heading
  Ahead : Standing
  Undeclared : Standing
  NotExported : Standing
  -- rules are broken in its declaration
  Unknown : Standing

-- the refusals at a name
pub data Misnamed (at : Pos) : Standing → Breach → Type 0 where
  -- Constants, types and variables are declared before use.
  undeclared : Misnamed at Undeclared (at ! rule.Undeclared)
  -- A procedure in front of its heading is refused only if nothing else is.
  not_yet : Misnamed at Ahead (at ! rule.Ahead)
  -- A name of a module is one that the module exports.
  not_exported : Misnamed at NotExported (at ! rule.NotExported)

-- ---- values

abbrev pub content_of : TypeNo → Option Shape → Kind
content_of t (Some (shape.Scalar r)) = Scalar (Value r.base)
content_of t (Some shape.Set) = Set None
content_of t (Some (shape.Procedure h)) = Routine t
content_of t other = Whole t

-- what a variable of this type holds
abbrev pub content : Types → TypeNo → Kind
content types t = content_of t (shape_at types t)

-- what is taken as a value
abbrev pub Taken : Types → Thing → Kind → Type 0
Taken types (AValue k) l = l ≡ k
Taken types (AVariable t) l = l ≡ content types t
Taken types (AnOpenArray t) l = l ≡ Untaken
Taken types (AProcedure h) l = l ≡ Procedure h
Taken types other l = ⊥

-- Types and modules are no values, and neither are standard procedures and procedures of
-- procedures, whatever their headings.
abbrev pub Mistaken : Pos → Thing → Breach → Type 0
Mistaken at (AType t) f = f ≡ at ! rule.WrongType
Mistaken at (AModule k) f = f ≡ at ! rule.WrongType
Mistaken at (AStandard p) f = f ≡ at ! rule.NoProcedureValue
Mistaken at (ANested h) f = f ≡ at ! rule.NoProcedureValue
Mistaken at (Headless true) f = f ≡ at ! rule.NoProcedureValue
Mistaken at other f = ⊥

-- ---- assignment compatibility

-- one base, or INTEGER and CARDINAL; a number suits both
pub data SuitsBase : TypeNo → Option TypeNo → Type 0 where
  same_base : {t : TypeNo} → SuitsBase t (Some t)
  both_whole : {t u : TypeNo} → IsWhole t → IsWhole u → SuitsBase t (Some u)
  a_number : {t : TypeNo} → IsWhole t → SuitsBase t None

-- a value is compatible with a type that is no array and no record
pub data Compatible (types : Types) (t : TypeNo) : Kind → Type 0 where
  scalar : {r : Range} {a : Amount} → IsMade types t (shape.Scalar r) → SuitsBase r.base (sort_of a)
      → Compatible types t (Scalar a)
  set : {m : Option ℕ} → IsMade types t shape.Set → Compatible types t (Set m)
  -- a value of the type, or a procedure whose heading agrees
  routine : {h : Signature} → IsMade types t (shape.Procedure h) → Compatible types t (Routine t)
  procedure : {h : TypeNo} → Agree types t h → Compatible types t (Procedure h)

-- a constant that is not one of the type
pub data OutOfType (types : Types) (t : TypeNo) : Kind → Type 0 where
  out_of_type : {r : Range} {sort : Option TypeNo} {n : ℤ} → IsMade types t (shape.Scalar r)
      → (Within r.low n r.high → ⊥) → OutOfType types t (Scalar (Constant sort n))

-- a value of this kind may stand at a place of this type
pub record IsAssignable (types : Types) (t : TypeNo) (k : Kind) : Type 0 where
  pub compatible : Compatible types t k
  pub in_type : OutOfType types t k → ⊥

-- the refusals of a value at a place of this type
pub data Misassigned (types : Types) (t : TypeNo) (at : Pos) (broken : Rule) (k : Kind)
    : Breach → Type 0 where
  incompatible : (Compatible types t k → ⊥) → Misassigned types t at broken k (at ! broken)
  out_of_range : Compatible types t k → OutOfType types t k
      → Misassigned types t at broken k (at ! rule.OutOfRange)

-- ---- components

abbrev pub field_standing : Option TypeNo → Standing
field_standing None = Undeclared
field_standing (Some t) = Known (AVariable t)

-- what a name behind a point stands for
pub data Picks (types : Types) (exports : ℕ → Ident → Standing) (name : Ident)
    : Thing → Standing → Type 0 where
  of_module : {k : ℕ} → Picks types exports name (AModule k) (exports k name)
  of_record : {t : TypeNo} {fields : List (List ℕ × TypeNo)}
      → IsMade types t (shape.Record fields)
      → Picks types exports name (AVariable t) (field_standing (find_name name.name fields))

-- what has elements, with the types of its index and its elements
pub data Indexes (types : Types) : Thing → TypeNo → TypeNo → Type 0 where
  of_array : {t i e : TypeNo} → IsMade types t (shape.Array i e) → Indexes types (AVariable t) i e
  -- open arrays have subscripts from 0
  of_open : {e : TypeNo} → Indexes types (AnOpenArray e) cardinal e
