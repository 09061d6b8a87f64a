-- What the checker makes of expressions is typed, if names mean what is there.
use Rattle.std.specs.Prelude.{◌≡◌, ℕ, ◌+◌, ◌≤◌, ◌<◌, ◌^◌, Bool, true, false, List, [], ◌∷◌, length, Some, None, slice_get}
use Rattle.std.specs.List.{list_all}
use Rattle.std.specs.Option.{is_some}
use Rattle.m2_tree.specs.declared.name.Ident.{Ident}
use Rattle.m2_tree.specs.declared.expr.Expr.{Expr, fold-Expr}
use Rattle.m2_tree.specs.declared.expr.Expr.TheOpen as layer
use Rattle.m2_tree.specs.declared.expr.Selector.{Selector, Selector-F, fold-Selector}
use Rattle.m2_tree.specs.declared.expr.Designator.{Designator, Designator-F, fold-Designator}
use Rattle.m2_tree.specs.declared.expr.Item.{Item-F}
use Rattle.typed_tree.specs.declared.computed.Argument.{Argument}
use Rattle.typed_tree.specs.declared.computed.Call.{Call}
use Rattle.typed_tree.specs.declared.computed.Place.{Place}
use Rattle.typed_tree.specs.declared.computed.TypedExpr.{TypedExpr}
use Rattle.typed_tree.specs.declared.known_types.Types.{Types}
use Rattle.typed_tree.specs.declared.meaning.LocalKind.{LocalKind}
use Rattle.typed_tree.specs.declared.meaning.LocalKind.TheVariants as local
use Rattle.typed_tree.specs.declared.meaning.Meaning.{Meaning}
use Rattle.typed_tree.specs.declared.meaning.Meaning.TheVariants as meaning
use Rattle.typed_tree.specs.declared.meaning.Value.{Value}
use Rattle.typed_tree.specs.declared.meaning.Value.TheVariants as constant
use Rattle.typed_tree.specs.declared.shape.Formal.{Formal}
use Rattle.typed_tree.specs.declared.shape.Made.{Made}
use Rattle.typed_tree.specs.declared.shape.Scalar.{Scalar as Range}
use Rattle.typed_tree.specs.declared.shape.Signature.{Signature}
use Rattle.typed_tree.specs.declared.types.Home.{Home}
use Rattle.typed_tree.specs.declared.types.Home.TheVariants.{Predeclared, Module}
use Rattle.typed_tree.specs.declared.types.TypeNo.{TypeNo}
use Rattle.typed_tree.specs.Known.{made_in, made_at, scalar_at}
use Rattle.check_scope.specs.Elaborated.{Gathers}
use Rattle.check_scope.specs.Scopes.{looked_up}
use Rattle.check_scope.specs.declared.scope.Scope.{Scope}
use Rattle.check_const.specs.Denote.{exported_meaning}
use Rattle.check_value.specs.Classes.{signature_at, array_at}
use Rattle.check_value.specs.Values.{slot_of, nested_by}
use Rattle.check_value.specs.declared.computed.Computed.{Computed}
use Rattle.check_value.specs.declared.computed.Computed.TheVariants as value
use Rattle.check_value.specs.declared.computed.Designated.{Designated}
use Rattle.check_value.specs.declared.computed.Designated.TheVariants as designated
use Rattle.check_expr.specs.Meanings.{meanings_of, head}
use Rattle.layout_storage.specs.Texts.{characters, texts_of, texts_at, texts_called, texts_passed}
use Rattle.layout_storage.specs.Types.{Ty, Heading, component}
use Rattle.layout_storage.specs.Shapes.{shape_tree, known_trees, tree}
use Rattle.law_memory.specs.Relation.{heading_at}
use Rattle.def_scheme.specs.Exprs.{expr_part}
use Rattle.def_scheme.specs.Modules.{numbering_of}
use Rattle.law_simulation.specs.Frames.{Kind, Kept, Alias, Open, kind_at}
use Rattle.law_simulation.specs.Passing.{Form, Result as Gives}
use Rattle.law_simulation.specs.TreesTyped.{Context, IsVariable, IsNamed, IsInner, IsTaken, IsExpr, IsProcedureExpr, IsPlace, IsCall, IsArgument}
use Rattle.law_well_formed.specs.Formed.{Holds}
use Rattle.law_modules.specs.Ranges.{AreRanged}
use Rattle.law_well_formed.specs.FormedRanges.{itself, fits_layer, ValueRanged, IsBased, AllBased, OthersBased}
use Rattle.law_programs.specs.Wanted.{Has, wanted_of, wanted_at, wanted_called, wanted_passed}

-- ---- trees: numbers and characters are as the scanner gives them, also in brackets behind names

abbrev pub fits_selector : Selector-F Bool Bool Bool Bool → Bool
fits_selector (layer.Field at name) = true
fits_selector (layer.Index at index) = index

abbrev pub fits_designator : Designator-F Bool Bool Bool Bool → Bool
fits_designator d = list_all itself d.selectors

abbrev pub fits_item : Item-F Bool Bool Bool Bool → Bool
fits_item i = true

unfoldable pub fits_whole : Expr → Bool
fits_whole = fold-Expr Bool Bool Bool Bool fits_layer fits_selector fits_designator fits_item

unfoldable pub fits_picked : Selector → Bool
fits_picked = fold-Selector Bool Bool Bool Bool fits_layer fits_selector fits_designator fits_item

unfoldable pub fits_head : Designator → Bool
fits_head = fold-Designator Bool Bool Bool Bool fits_layer fits_selector fits_designator fits_item

-- ---- types

-- a set is a number of 32 bits
abbrev pub IsWord : Value → Type 0
IsWord (constant.Number n) = Unit {0}
IsWord (constant.Scalar s) = Unit {0}
IsWord (constant.Set bits) = bits < 2 ^ 32
IsWord (constant.Text text) = Unit {0}

module _ (types : Types) where
  -- a constant is a number of its type
  abbrev pub IsConstant : Value → Type 0
  IsConstant v = ValueRanged types v × IsWord v

  -- a scalar type computes in its base, which is known and has all its numbers
  pub record HasBase (t base : TypeNo) : Type 0 where
    pub range : Range
    pub at : scalar_at types t ≡ Some range
    pub own : range.base ≡ base
    pub based : IsBased types range

  abbrev pub is_known_from : Home → ℕ → Bool
  is_known_from Predeclared n = true
  is_known_from (Module home) n = is_some (made_in types home n)

  -- a type is predeclared, or it stands among these types
  abbrev pub is_known : TypeNo → Bool
  is_known t = is_known_from t.home t.number

  abbrev pub FormalsKnown : List Formal → Type 0
  FormalsKnown [] = Unit {0}
  FormalsKnown (f ∷ fs) = (is_known f.of ≡ true) × FormalsKnown fs

  -- the index of an array is of a scalar type
  pub record IsIndexed (i : TypeNo) : Type 0 where
    pub range : Range
    pub at : scalar_at types i ≡ Some range

  -- what a local variable or a formal has in its frame
  abbrev pub kind_of : TypeNo → LocalKind → Kind
  kind_of t local.Variable = Kept (tree types t)
  kind_of t local.Value = Kept (tree types t)
  kind_of t local.Alias = Alias (tree types t)
  kind_of t local.Open = Open (tree types t)

-- ---- trees of bodies, wherever what they ask for is there

module _ (x : Context) (ws : List Ty) where
  -- an expression of this type
  abbrev pub ExprTyped : TypedExpr → TypeNo → Type 0
  ExprTyped e t =
      (a : ℕ) → Has x a (wanted_of x.home e) → IsExpr x ws a (a + characters (texts_of e)) e t

  -- a designator of a variable of this type
  abbrev pub PlaceTyped : Place → Ty → Type 0
  PlaceTyped d t =
      (a : ℕ) → Has x a (wanted_at x.home d) → IsPlace x ws a (a + characters (texts_at d)) d t

  -- a call with this result
  abbrev pub CallTyped : Call → Gives → Type 0
  CallTyped c r =
      (a : ℕ) → Has x a (wanted_called x.home c)
      → IsCall x ws a (a + characters (texts_called c)) c r

  -- an argument that is passed so
  abbrev pub ArgumentTyped : Argument → Form → Type 0
  ArgumentTyped g f =
      (a : ℕ) → Has x a (wanted_passed x.home g)
      → IsArgument x ws a (a + characters (texts_passed g)) g f

  -- a value that is taken as one of a type
  pub record GivenTyped (e : TypedExpr) (t : TypeNo) : Type 0 where
    pub of : TypeNo
    pub typed : ExprTyped e of
    pub taken : IsTaken x.home t e of

  -- a value of a scalar type, which computes in this base, and is no constant
  pub record ScalarTyped (t base : TypeNo) (e : TypedExpr) : Type 0 where
    pub typed : ExprTyped e t
    pub based : HasBase x.home.types t base
    pub run : (expr_part (numbering_of x.home) e).constant ≡ false

  -- a value of 32 bits
  pub record WordTyped (e : TypedExpr) : Type 0 where
    pub of : TypeNo
    pub typed : ExprTyped e of
    pub word : scalar_at x.home.types of ≡ None

  -- an expression of a procedure type with this heading
  abbrev pub ProcedureTyped : TypedExpr → Heading → Type 0
  ProcedureTyped e h =
      (a : ℕ) → Has x a (wanted_of x.home e)
      → IsProcedureExpr x ws a (a + characters (texts_of e)) e h

  -- a value of this procedure type
  pub record RoutineTyped (t : TypeNo) (e : TypedExpr) : Type 0 where
    pub heading : Heading
    pub is : heading_at x.home.types t ≡ Some heading
    pub of : (expr_part (numbering_of x.home) e).of ≡ t
    pub word : scalar_at x.home.types t ≡ None
    pub typed : ProcedureTyped e heading

  abbrev pub ValueTyped : Computed → Type 0
  ValueTyped (value.Constant v) = IsConstant x.home.types v
  ValueTyped (value.Scalar t b e) = ScalarTyped t b e
  ValueTyped (value.Set e) = WordTyped e
  ValueTyped (value.Routine t e) = RoutineTyped t e
  ValueTyped (value.Procedure f) = IsNamed x f
  ValueTyped (value.Whole t d) = PlaceTyped d (tree x.home.types t)
  ValueTyped value.Untaken = Unit {0}

  -- names may stand for the modules that are open
  module _ (opens : ℕ → Bool) where
    abbrev pub DesignatedTyped : Designated → Type 0
    DesignatedTyped (designated.Value v) = ValueTyped v
    DesignatedTyped (designated.Variable t d) = PlaceTyped d (tree x.home.types t)
    DesignatedTyped (designated.Open t slot) =
        kind_at x.kinds slot ≡ Some (Open (tree x.home.types t))
    DesignatedTyped (designated.Type t) = Unit {0}
    DesignatedTyped (designated.Procedure f) = IsNamed x f
    DesignatedTyped (designated.Nested f) = IsInner x f
    DesignatedTyped (designated.Standard f) = Unit {0}
    DesignatedTyped (designated.Module k) = opens k ≡ true

    -- what a name means is there, this many procedures deep
    abbrev pub MeaningTyped : (level : ℕ) → Meaning → Type 0
    MeaningTyped level (meaning.Constant v) = IsConstant x.home.types v
    MeaningTyped level (meaning.Type t n) = Unit {0}
    MeaningTyped level (meaning.Variable v) = IsVariable x v (tree x.home.types v.of)
    MeaningTyped level (meaning.Local v) =
        kind_at x.kinds (slot_of level v) ≡ Some (kind_of x.home.types v.of v.kind)
    MeaningTyped level (meaning.Field f) =
        (slice_get ws f.with ≡ Some (tree x.home.types f.whole))
        × (component (tree x.home.types f.whole) (f.number ∷ []) ≡ Some (tree x.home.types f.of))
    MeaningTyped level (meaning.Procedure f) = IsNamed x f
    MeaningTyped level (meaning.LocalProcedure f) = IsInner x (nested_by level f)
    MeaningTyped level meaning.Ahead = Unit {0}
    MeaningTyped level (meaning.Standard f) = Unit {0}
    MeaningTyped level (meaning.Module k) = opens k ≡ true

-- All types that a module knows: ranges of the language with their bases, trees by their shapes,
-- and scalar types as indices.
pub record TypesTyped (types : Types) : Type 0 where
  pub ranged : AreRanged types
  pub own : AllBased types types.own
  pub others : OthersBased types types.others
  pub trees : (t : TypeNo) (m : Made) → made_at types t ≡ Some m
      → tree types t ≡ shape_tree types (known_trees types) t m.shape
  pub indexed : (t i e : TypeNo) → array_at types t ≡ Some (i, e) → IsIndexed types i

-- The types that are known in a scope are the types of the module, and formals are of these types.
-- Its names mean what is there, and so do those that open modules export.
pub record IsTyped (g : Gathers) (x : Context) (ws : List Ty) (opens : ℕ → Bool)
    (s : Scope g.Reported) : Type 0 where
  pub all : TypesTyped x.home.types
  pub room : length x.characters ≤ 2 ^ 32
  pub types : (t : TypeNo) (m : Made) → made_at s.types t ≡ Some m → made_at x.home.types t ≡ Some m
  pub formals : (t : TypeNo) (h : Signature) → signature_at s.types t ≡ Some h
      → FormalsKnown s.types h.formals
  pub names : (name : Ident) → Holds (MeaningTyped x ws opens s.level) (looked_up g s name)
  pub members : (k : ℕ) (name : Ident) → opens k ≡ true
      → Holds (MeaningTyped x ws opens s.level) (exported_meaning g s.tables k name)

-- ---- the laws, if broken rules are gathered so

-- what the checker makes of an expression
abbrev pub ExpressionsAreTyped : Gathers → Type 0
ExpressionsAreTyped g =
    (x : Context) (ws : List Ty) (opens : ℕ → Bool) (s : Scope g.Reported)
    → IsTyped g x ws opens s
    → (e : Expr)
    → fits_whole e ≡ true
    → Holds (DesignatedTyped x ws opens) ((meanings_of g e).means s)

-- and of a designator
abbrev pub DesignatorsAreTyped : Gathers → Type 0
DesignatorsAreTyped g =
    (x : Context) (ws : List Ty) (opens : ℕ → Bool) (s : Scope g.Reported)
    → IsTyped g x ws opens s
    → (d : Designator)
    → fits_head d ≡ true
    → Holds (DesignatedTyped x ws opens) ((head g d).means s)
