-- Typed trees whose parts have the types that their constructs ask for, and whose texts are where
-- the module has them.
use Rattle.std.specs.Prelude.{◌≡◌, ℕ, zero, suc, ◌+◌, ◌-ℤ◌, ◌<◌, ◌≤◌, ◌≤ℤ◌, ◌^◌, ◌⊎◌, ◌==◌, ℤ, pos, Bool, true, false, ◌||◌, List, [], ◌∷◌, ◌++◌, length, get_or, drop, Option, Some, None, slice_get}
use Rattle.std.specs.List.{list_any}
use Rattle.typed_tree.specs.declared.computed.Argument.{Argument}
use Rattle.typed_tree.specs.declared.computed.Argument.TheVariants as argument
use Rattle.typed_tree.specs.declared.computed.Arithmetic.TheVariants as op
use Rattle.typed_tree.specs.declared.computed.Call.{Call}
use Rattle.typed_tree.specs.declared.computed.Call.TheVariants as call
use Rattle.typed_tree.specs.declared.computed.Comparison.{Comparison}
use Rattle.typed_tree.specs.declared.computed.Component.{Component}
use Rattle.typed_tree.specs.declared.computed.Component.TheVariants as component'
use Rattle.typed_tree.specs.declared.computed.Inclusion.{Inclusion}
use Rattle.typed_tree.specs.declared.computed.Link.{Link}
use Rattle.typed_tree.specs.declared.computed.Link.TheVariants as link
use Rattle.typed_tree.specs.declared.computed.LocalProcedure.{LocalProcedure}
use Rattle.typed_tree.specs.declared.computed.Place.{Place}
use Rattle.typed_tree.specs.declared.computed.Root.{Root}
use Rattle.typed_tree.specs.declared.computed.Root.TheVariants as root
use Rattle.typed_tree.specs.declared.computed.SetOperator.{SetOperator}
use Rattle.typed_tree.specs.declared.computed.Slot.{Slot}
use Rattle.typed_tree.specs.declared.computed.TypedExpr.{TypedExpr}
use Rattle.typed_tree.specs.declared.computed.TypedExpr.TheVariants as expr
use Rattle.typed_tree.specs.declared.meaning.Procedure.{Procedure}
use Rattle.typed_tree.specs.declared.meaning.Variable.{Variable}
use Rattle.typed_tree.specs.declared.shape.Scalar.{Scalar as Range}
use Rattle.typed_tree.specs.declared.typed_module.Routine.{Routine}
use Rattle.typed_tree.specs.declared.typed_module.Which.{Which}
use Rattle.typed_tree.specs.declared.typed_module.TypedModule.{TypedModule}
use Rattle.typed_tree.specs.declared.types.TypeNo.{TypeNo}
use Rattle.typed_tree.specs.declared.known_types.Types.{Types}
use Rattle.typed_tree.specs.Types.{are_same, integer, cardinal, boolean, char, bitset}
use Rattle.typed_tree.specs.Known.{scalar_at}
use Rattle.layout_storage.specs.Types.{Ty, Scalar, Natural, Callable, Cell, Array, Heading, row, component}
use Rattle.layout_storage.specs.Shapes.{tree, elements_of}
use Rattle.layout_storage.specs.Texts.{argument_text}
use Rattle.def_meaning.specs.Store.{Location}
use Rattle.def_meaning.specs.Environment.{Modules, module_place}
use Rattle.law_memory.specs.Relation.{heading_at}
use Rattle.def_scheme.specs.Cells.{base_of, is_free}
use Rattle.def_scheme.specs.Exprs.{is_own, variables_row, index_of, expr_part}
use Rattle.def_scheme.specs.Functions.{routine_at, around_in}
use Rattle.def_scheme.specs.Modules.{numbering_of}
use Rattle.def_scheme.specs.Signatures.{signatures_needed, of_heading, is_among}
use Rattle.law_simulation.specs.Scene.{IsValue, AreAmong, AreNatural, IsCell}
use Rattle.law_simulation.specs.Frames.{Kinds, Kept, Alias, Open, kind_at, kinds_of}
use Rattle.law_simulation.specs.Passing.{Form, ByNumber, ByCopy, ByName, ByArray, Forms, Result, forms_of, result_of}

-- where a tree stands
pub record Context : Type 0 where
  pub p : Modules
  pub home : TypedModule
  pub place : ℕ
  pub kinds : List Kinds  -- the frames of the procedure, and of those around it
  pub base : List Ty  -- the instances of the modules
  pub texts : Location → ℕ → ℕ
  pub characters : List ℕ  -- of all texts of the module

-- the module itself, and those that it imports
abbrev pub IsKnown : TypedModule → (home : ℕ) → Type 0
IsKnown m home = (is_own m home || list_any (λ i. i.number == home) m.imports) ≡ true

-- a variable of a module, which has this type there and for the module that names it
pub record IsVariable (x : Context) (v : Variable) (t : Ty) : Type 0 where
  pub known : IsKnown x.home v.home
  pub type : component (variables_row x.home v.home) (v.number ∷ []) ≡ Some t
  pub there : component (row x.base) (module_place x.p v.home ∷ v.number ∷ []) ≡ Some t

-- the frames of the procedures around one, as `frames_around` has them
abbrev pub own_kinds : TypedModule → Option Routine → List Kinds
own_kinds m None = []
own_kinds m (Some r) = kinds_of m.types r ∷ []

abbrev pub kinds_around : TypedModule → (level : ℕ) → Option Which → List Kinds
kinds_around m zero w = []
kinds_around m (suc k) w =
    own_kinds m (routine_at m w) ++ kinds_around m k (around_in (routine_at m w))

-- a procedure of a module, whose heading is the same there
pub record IsNamed (x : Context) (f : Procedure) : Type 0 where
  pub known : IsKnown x.home f.home
  pub home : TypedModule
  pub there : slice_get x.p (module_place x.p f.home) ≡ Some home
  pub routine : Routine
  pub is : slice_get home.procedures f.number ≡ Some routine
  pub outermost : kinds_around home routine.level routine.around ≡ []
  pub forms : forms_of home.types routine.heading ≡ forms_of x.home.types f.heading
  pub result : result_of home.types routine.heading ≡ result_of x.home.types f.heading
  pub heading : heading_at home.types routine.heading ≡ heading_at x.home.types f.heading

-- one that the module calls: its heading is a procedure type, and if it is another module's, it is
-- called through the table, and the module has the type of its function
pub record IsCallable (x : Context) (f : Procedure) : Type 0 where
  pub named : IsNamed x f
  pub signed : is_own x.home f.home ≡ false
      → is_among (signatures_needed x.home) (of_heading x.home.types f.heading) ≡ true
  pub shape : Heading
  pub headed : heading_at x.home.types f.heading ≡ Some shape

-- a procedure of one of the procedures around
pub record IsInner (x : Context) (f : LocalProcedure) : Type 0 where
  pub less : f.up < length x.kinds
  pub there : slice_get x.p x.place ≡ Some x.home
  pub routine : Routine
  pub is : slice_get x.home.locals f.number ≡ Some routine
  pub kinds : kinds_around x.home routine.level routine.around ≡ drop f.up x.kinds
  pub forms : forms_of x.home.types routine.heading ≡ forms_of x.home.types f.heading
  pub result : result_of x.home.types routine.heading ≡ result_of x.home.types f.heading
  pub heading : heading_at x.home.types routine.heading ≡ heading_at x.home.types f.heading

-- one that is called: its heading is a procedure type
pub record IsInnerCallable (x : Context) (f : LocalProcedure) : Type 0 where
  pub inner : IsInner x f
  pub shape : Heading
  pub headed : heading_at x.home.types f.heading ≡ Some shape

-- a text stands there among the characters of the module
pub record HasText (x : Context) (at : ℕ) (text : List ℕ) : Type 0 where
  pub fits : at + length text ≤ length x.characters
  pub same : (j : ℕ) → j < length text → get_or x.characters (at + j) 0 ≡ get_or text j 0
  pub small : (j : ℕ) → get_or text j 0 < 256

-- if no check is made, each value of one type is one of the other, or the expression is a constant
-- of it
pub record IsTaken (m : TypedModule) (t : TypeNo) (e : TypedExpr) (of : TypeNo) : Type 0 where
  pub free : is_free m.types t (expr_part (numbering_of m) e).constant of ≡ true
      → AreAmong m.types of t
      ⊎ ((w : TypeNo) × (n : ℤ) × (e ≡ expr.Constant w n) × IsValue m.types t n)
  pub unranged : scalar_at m.types t ≡ None → AreAmong m.types of t

module _ (x : Context) where
  abbrev pub types : Types
  types = x.home.types

  -- a variable, a formal, or the record of a WITH
  pub data IsRoot (ws : List Ty) : Root → Ty → Type 0 where
    GlobalRoot : (v : Variable) (t : Ty) → IsVariable x v t → IsRoot ws (root.Global v) t
    LocalRoot : (slot : Slot) (t : Ty) → kind_at x.kinds slot ≡ Some (Kept t)
        → IsRoot ws (root.Local slot) t
    AliasRoot : (slot : Slot) (t : Ty) → kind_at x.kinds slot ≡ Some (Alias t)
        → IsRoot ws (root.Alias slot) t
    WithRoot : (j : ℕ) (t : Ty) → slice_get ws j ≡ Some t → IsRoot ws (root.With j) t

  mutual
    -- an expression of this type, whose texts stand from one offset to another
    pub data IsExpr (ws : List Ty) : (from to : ℕ) → TypedExpr → TypeNo → Type 0 where
      Constant : (a : ℕ) (t : TypeNo) (n : ℤ) → IsValue types t n
          → IsExpr ws a a (expr.Constant t n) t
      Load : (a b : ℕ) (t : TypeNo) (c : Scalar) (d : Place) → IsCell types t c
          → IsPlace ws a b d (Cell c) → IsExpr ws a b (expr.Load t d) t
      ProcedureValue : (a b : ℕ) (t : TypeNo) (h : Heading) (e : TypedExpr)
          → IsProcedureExpr ws a b e h
          → (expr_part (numbering_of x.home) e).of ≡ t
          → scalar_at types t ≡ None
          → IsExpr ws a b e t
      Plus : (a b : ℕ) (t u : TypeNo) (e : TypedExpr) → IsExpr ws a b e u → AreAmong types u t
          → IsExpr ws a b (expr.Plus t e) t
      Negate : (a b : ℕ) (u : TypeNo) (e : TypedExpr) → IsExpr ws a b e u
          → IsExpr ws a b (expr.Negate e) integer
      Chain : (a b c : ℕ) (u t : TypeNo) (e : TypedExpr) (ls : List Link) → IsExpr ws a b e u
          → AreLinks ws b c u ls t → IsExpr ws a c (expr.Chain e ls) t
      Compare : (a b c : ℕ) (u v : TypeNo) (o : Comparison) (e f : TypedExpr) → IsExpr ws a b e u
          → IsExpr ws b c f v → IsExpr ws a c (expr.Compare o e f) boolean
      Not : (a b : ℕ) (u : TypeNo) (e : TypedExpr) → IsExpr ws a b e u → AreAmong types u boolean
          → IsExpr ws a b (expr.Not e) boolean
      Include : (a b c : ℕ) (u v : TypeNo) (o : Inclusion) (e f : TypedExpr)
          → IsExpr ws a b e u
          → AreAmong types u bitset
          → IsExpr ws b c f v
          → AreAmong types v bitset
          → IsExpr ws a c (expr.Include o e f) boolean
      In : (a b c : ℕ) (u v : TypeNo) (e f : TypedExpr) → IsExpr ws a b e u → IsExpr ws b c f v
          → AreAmong types v bitset → IsExpr ws a c (expr.In e f) boolean
      Abs : (a b : ℕ) (t u : TypeNo) (e : TypedExpr)
          → IsExpr ws a b e u
          → AreAmong types u t
          → (are_same t integer ≡ false → AreNatural types t)
          → (scalar_at types t ≡ None → ⊥)
          → IsExpr ws a b (expr.Abs t e) t
      Cap : (a b : ℕ) (u : TypeNo) (e : TypedExpr) → IsExpr ws a b e u → AreAmong types u char
          → IsExpr ws a b (expr.Cap e) char
      Chr : (a b : ℕ) (u : TypeNo) (e : TypedExpr) → IsExpr ws a b e u
          → IsExpr ws a b (expr.Chr e) char
      Odd : (a b : ℕ) (u : TypeNo) (e : TypedExpr) → IsExpr ws a b e u
          → IsExpr ws a b (expr.Odd e) boolean
      Ord : (a b : ℕ) (u : TypeNo) (e : TypedExpr)
          → IsExpr ws a b e u
          → AreAmong types u (base_of types u)
          → (are_same (base_of types u) integer ≡ false → AreNatural types u)
          → IsExpr ws a b (expr.Ord e) cardinal
      Val : (a b : ℕ) (t u : TypeNo) (e : TypedExpr) → IsExpr ws a b e u
          → (scalar_at types t ≡ None → ⊥) → IsExpr ws a b (expr.Val t e) t
      High : (a : ℕ) (slot : Slot) (t : Ty) → kind_at x.kinds slot ≡ Some (Open t)
          → IsExpr ws a a (expr.High slot) cardinal
      FunctionCall :
          (a b : ℕ) (t : TypeNo) (r : Scalar) (c : Call) → IsCall ws a b c (Some (tree types t))
          → IsCell types t r → IsExpr ws a b (expr.Call t c) t

    -- an expression of a procedure type with this heading: a variable, a procedure of a module, or
    -- the result of a function
    pub data IsProcedureExpr (ws : List Ty) : (from to : ℕ) → TypedExpr → Heading → Type 0 where
      LoadedProcedure :
          (a b : ℕ) (t : TypeNo) (h : Heading) (d : Place) → tree types t ≡ Cell (Callable h)
          → IsPlace ws a b d (Cell (Callable h)) → IsProcedureExpr ws a b (expr.Load t d) h
      NamedProcedure : (a : ℕ) (f : Procedure) (h : Heading) → IsNamed x f
          → heading_at types f.heading ≡ Some h → IsProcedureExpr ws a a (expr.Procedure f) h
      GivenProcedure : (a b : ℕ) (t : TypeNo) (h : Heading) (c : Call)
          → IsCall ws a b c (Some (Cell (Callable h))) → IsProcedureExpr ws a b (expr.Call t c) h

    -- operators behind a value of a type
    pub data AreLinks (ws : List Ty) : (from to : ℕ) → TypeNo → List Link → TypeNo → Type 0 where
      no_links : (a : ℕ) (t : TypeNo) → AreLinks ws a a t [] t
      more_links : (a b c : ℕ) (t u v : TypeNo) (l : Link) (ls : List Link) → IsLink ws a b t l u
          → AreLinks ws b c u ls v → AreLinks ws a c t (l ∷ ls) v

    pub data IsLink (ws : List Ty) : (from to : ℕ) → TypeNo → Link → TypeNo → Type 0 where
      Sum : (a b : ℕ) (t u w : TypeNo) (e : TypedExpr) → IsExpr ws a b e u
          → (scalar_at types w ≡ None → ⊥) → IsLink ws a b t (link.Arithmetic op.Add w e) w
      Difference : (a b : ℕ) (t u w : TypeNo) (e : TypedExpr) → IsExpr ws a b e u
          → (scalar_at types w ≡ None → ⊥) → IsLink ws a b t (link.Arithmetic op.Subtract w e) w
      Product : (a b : ℕ) (t u w : TypeNo) (e : TypedExpr) → IsExpr ws a b e u
          → (scalar_at types w ≡ None → ⊥) → IsLink ws a b t (link.Arithmetic op.Multiply w e) w
      Quotient : (a b : ℕ) (t u w : TypeNo) (e : TypedExpr) → IsExpr ws a b e u → AreAmong types t w
          → IsValue types w (pos 0) → IsLink ws a b t (link.Arithmetic op.Divide w e) w
      Remainder :
          (a b : ℕ) (t u w : TypeNo) (e : TypedExpr) → IsExpr ws a b e u → AreAmong types u w
          → IsValue types w (pos 0) → IsLink ws a b t (link.Arithmetic op.Remainder w e) w
      And : (a b : ℕ) (t u : TypeNo) (e : TypedExpr) → IsExpr ws a b e u → AreAmong types t boolean
          → AreAmong types u boolean → IsLink ws a b t (link.And e) boolean
      Or : (a b : ℕ) (t u : TypeNo) (e : TypedExpr) → IsExpr ws a b e u → AreAmong types t boolean
          → AreAmong types u boolean → IsLink ws a b t (link.Or e) boolean
      Combine : (a b : ℕ) (t u : TypeNo) (o : SetOperator) (e : TypedExpr)
          → IsExpr ws a b e u
          → AreAmong types t bitset
          → AreAmong types u bitset
          → IsLink ws a b t (link.Combine o e) bitset

    -- a designator of a variable of this type
    pub data IsPlace (ws : List Ty) : (from to : ℕ) → Place → Ty → Type 0 where
      Designator : (a b : ℕ) (d : Place) (t u : Ty) → IsRoot ws d.root t
          → AreComponents ws a b t d.components u → IsPlace ws a b d u
      -- an element of an open array, and what is behind it
      OfOpen : (a b c : ℕ) (d : Place) (slot : Slot) (t : TypeNo) (u v : Ty) (w : TypeNo)
          (i : TypedExpr) (cs : List Component)
          → d.root ≡ root.Open slot
          → kind_at x.kinds slot ≡ Some (Open (tree types t))
          → d.components ≡ component'.OpenElement slot t i ∷ cs
          → IsExpr ws a b i w
          → AreComponents ws b c (tree types t) cs v
          → IsPlace ws a c d v

    pub data AreComponents (ws : List Ty) : (from to : ℕ) → Ty → List Component → Ty → Type 0 where
      no_components : (a : ℕ) (t : Ty) → AreComponents ws a a t [] t
      more_components :
          (a b c : ℕ) (t u v : Ty) (k : Component) (ks : List Component) → IsComponent ws a b t k u
          → AreComponents ws b c u ks v → AreComponents ws a c t (k ∷ ks) v

    pub data IsComponent (ws : List Ty) : (from to : ℕ) → Ty → Component → Ty → Type 0 where
      FieldOf : (a : ℕ) (t : TypeNo) (j : ℕ) (u : Ty) → component (tree types t) (j ∷ []) ≡ Some u
          → IsComponent ws a a (tree types t) (component'.Field t j) u
      ElementOf : (a b : ℕ) (t w : TypeNo) (r : Range) (u : Ty) (i : TypedExpr)
          → index_of types t ≡ Some r
          → tree types t ≡ Array (elements_of (Some r)) u
          → IsExpr ws a b i w
          → IsComponent ws a b (tree types t) (component'.Element t i) u

    -- a call, and the type of its result
    pub data IsCall (ws : List Ty) : (from to : ℕ) → Call → Result → Type 0 where
      OfModule : (a b : ℕ) (f : Procedure) (args : List Argument)
          → IsCallable x f
          → AreArguments ws a b args (forms_of types f.heading)
          → IsCall ws a b (call.Module f args) (result_of types f.heading)
      OfProcedure : (a b : ℕ) (f : LocalProcedure) (args : List Argument)
          → IsInnerCallable x f
          → AreArguments ws a b args (forms_of types f.heading)
          → IsCall ws a b (call.Nested f args) (result_of types f.heading)
      -- of a procedure variable: the module has the type of the functions with its heading
      OfVariable : (a b c : ℕ) (t : TypeNo) (h : Heading) (d : Place) (args : List Argument)
          → heading_at types t ≡ Some h
          → tree types t ≡ Cell (Callable h)
          → IsPlace ws a b d (Cell (Callable h))
          → is_among (signatures_needed x.home) (of_heading types t) ≡ true
          → AreArguments ws b c args (forms_of types t)
          → IsCall ws a c (call.Variable t d args) (result_of types t)

    pub data AreArguments (ws : List Ty) : (from to : ℕ) → List Argument → Forms → Type 0 where
      no_arguments : (a : ℕ) → AreArguments ws a a [] []
      more_arguments : (a b c : ℕ) (g : Argument) (gs : List Argument) (f : Form) (fs : Forms)
          → IsArgument ws a b g f
          → AreArguments ws b c gs fs
          → AreArguments ws a c (g ∷ gs) (f ∷ fs)

    pub data IsArgument (ws : List Ty) : (from to : ℕ) → Argument → Form → Type 0 where
      Value : (a b : ℕ) (t u : TypeNo) (c : Scalar) (e : TypedExpr)
          → IsExpr ws a b e u
          → IsCell types t c
          → IsTaken x.home t e u
          → IsArgument ws a b (argument.Value t e) (ByNumber c)
      ProcedureActual : (a b : ℕ) (t : TypeNo) (h : Heading) (e : TypedExpr)
          → IsProcedureExpr ws a b e h
          → scalar_at types t ≡ None
          → tree types t ≡ Cell (Callable h)
          → IsArgument ws a b (argument.Value t e) (ByNumber (Callable h))
      ActualName : (a b : ℕ) (d : Place) (t : Ty) → IsPlace ws a b d t
          → IsArgument ws a b (argument.Place d) (ByName t)
      ActualCopy : (a b : ℕ) (d : Place) (t : Ty) → IsPlace ws a b d t
          → IsArgument ws a b (argument.Place d) (ByCopy t)
      ActualArray : (a b : ℕ) (t : TypeNo) (r : Range) (u : Ty) (is_var : Bool) (d : Place)
          → index_of types t ≡ Some r
          → (r.high -ℤ r.low) ≤ℤ pos 4294967295
          → tree types t ≡ Array (elements_of (Some r)) u
          → IsPlace ws a b d (tree types t)
          → IsArgument ws a b (argument.Array t d) (ByArray is_var u)
      ActualOpen : (a : ℕ) (slot : Slot) (is_var : Bool) (u : Ty)
          → kind_at x.kinds slot ≡ Some (Open u)
          → IsArgument ws a a (argument.Open slot) (ByArray is_var u)
      ActualText : (a : ℕ) (text : List ℕ)
          → HasText x a (argument_text text)
          → length (argument_text text) ≤ 2 ^ 32
          → IsArgument ws a (a + length (argument_text text)) (argument.Text text)
          (ByArray false (Cell (Natural 255)))
