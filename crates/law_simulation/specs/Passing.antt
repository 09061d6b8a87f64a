-- What calls pass and give, and when a function does what is asked of a procedure.
use Rattle.std.specs.Prelude.{◌≡◌, ℕ, suc, ◌+◌, ◌-◌, ◌<◌, ◌≤◌, ◌^◌, ℤ, Bool, false, List, [], ◌∷◌, ◌++◌, map, length, get_or, Option, Some, None, if◌then◌else◌}
use Rattle.std.specs.Option.{option_map}
use Rattle.wasm_tree.specs.declared.instr.Instr.{Instr}
use Rattle.wasm_tree.specs.declared.store.Value.{Value}
use Rattle.wasm_tree.specs.declared.store.Value.TheVariants.{I32, I64}
use Rattle.wasm_tree.specs.Machine.{Typed}
use Rattle.law_effect.specs.Effect.{State as Target, Effect, FellThrough, Does as Effects, Calling, back, then_run}
use Rattle.typed_tree.specs.declared.shape.Formal.{Formal}
use Rattle.typed_tree.specs.declared.shape.Made.{Made}
use Rattle.typed_tree.specs.declared.shape.Shape.{Shape}
use Rattle.typed_tree.specs.declared.shape.Shape.TheVariants as shape
use Rattle.typed_tree.specs.declared.types.TypeNo.{TypeNo}
use Rattle.typed_tree.specs.declared.known_types.Types.{Types}
use Rattle.typed_tree.specs.Known.{made_at}
use Rattle.layout_storage.specs.Types as layout
use Rattle.layout_storage.specs.Types.{Passing, Ty, Scalar, Natural, Cell, Hidden, Array, Nothing, Field, Heading, row, component, IsOf}
use Rattle.layout_storage.specs.Sizes.{size, offset}
use Rattle.layout_storage.specs.Shapes.{tree}
use Rattle.layout_storage.specs.Frames.{formals_of}
use Rattle.layout_storage.specs.Texts.{argument_text}
use Rattle.def_meaning.specs.Store.{Location}
use Rattle.def_meaning.specs.Answer.{State as Source}
use Rattle.def_meaning.specs.Environment.{Modules, Callee, Passed, Number, Variable, Array as Whole, Text}
use Rattle.def_meaning.specs.Expressions.{Asks, Gives}
use Rattle.law_memory.specs.Relation.{Means, Holds}
use Rattle.def_scheme.specs.Coded.{Coded, Counts, top_local}
use Rattle.law_simulation.specs.Scene.{Scene, IsResult, runs, calls, word, Stands, Into, Grows, IsFree, HasLocals, inside}
use Rattle.law_simulation.specs.Frames.{Kinds, IsChain}

-- ---- formals

-- how a formal is passed: a number, a whole array or record that is copied, another name of a
-- variable, or an array of any length, which is copied unless it stands behind VAR
pub data Form : Type 0 where
  ByNumber : (c : Scalar) → Form
  ByCopy : (t : Ty) → Form
  ByName : (t : Ty) → Form
  ByArray : (is_var : Bool) (element : Ty) → Form

abbrev pub value_form : Ty → Form
value_form (Cell c) = ByNumber c
value_form (Hidden n) = ByCopy (Hidden n)
value_form (Array n t) = ByCopy (Array n t)
value_form Nothing = ByCopy Nothing
value_form (Field t others) = ByCopy (Field t others)

abbrev pub form_of : Types → Formal → Form
form_of types f =
    if f.is_open
    then ByArray f.is_var (tree types f.of)
    else (if f.is_var then ByName (tree types f.of) else value_form (tree types f.of))

abbrev pub Forms : Type 0
Forms = List Form

abbrev pub forms_of : Types → TypeNo → Forms
forms_of types heading = map (form_of types) (formals_of types heading)

-- the formals of a heading
abbrev pub form_in : Passing → Ty → Form
form_in layout.ByValue t = value_form t
form_in layout.ByName t = ByName t
form_in (layout.AsOpen is_var) t = ByArray is_var t

abbrev pub forms_in : Heading → Forms
forms_in layout.Proper = []
forms_in (layout.Function result) = []
forms_in (layout.Takes passing t others) = form_in passing t ∷ forms_in others

-- how many operands an argument has, and all of them
abbrev pub operands_of : Form → ℕ
operands_of (ByNumber c) = 1
operands_of (ByCopy t) = 1
operands_of (ByName t) = 1
operands_of (ByArray is_var t) = 2

abbrev pub all_operands : Forms → ℕ
all_operands [] = 0
all_operands (f ∷ fs) = operands_of f + all_operands fs

-- ---- results: the type of a function's values

abbrev pub Result : Type 0
Result = Option Ty

abbrev pub result_in : Types → Shape → Result
result_in types (shape.Procedure h) = option_map (tree types) h.result
result_in types (shape.Scalar s) = None
result_in types shape.Set = None
result_in types (shape.Array i e) = None
result_in types (shape.Record fs) = None
result_in types (shape.Open e) = None

abbrev pub result_made : Types → Option Made → Result
result_made types None = None
result_made types (Some m) = result_in types m.shape

abbrev pub result_of : Types → TypeNo → Result
result_of types heading = result_made types (made_at types heading)

-- the result of a heading
abbrev pub heading_result : Heading → Result
heading_result layout.Proper = None
heading_result (layout.Function result) = Some result
heading_result (layout.Takes passing t others) = heading_result others

abbrev pub result_values : Result → ℤ → List Value
result_values None v = []
result_values (Some r) v = I64 (word v) ∷ []

-- ---- arguments

-- characters that stand behind one another in hidden room
pub record IsPlaced (world : List Ty) (x : Location → ℕ → ℕ) (text : List ℕ) (a : ℕ) : Type 0 where
  pub room : Location
  pub bytes : ℕ
  pub at : ℕ
  pub type : component (row world) room ≡ Some (Hidden bytes)
  pub is : offset (row world) room + at ≡ a
  pub fits : at + length text ≤ bytes
  pub same : (j : ℕ) → j < length text → x room (at + j) ≡ get_or text j 0
  pub small : (j : ℕ) → get_or text j 0 < 256
  pub below : length text ≤ 2 ^ 32

module _ (p : Modules) (world : List Ty) (x : Location → ℕ → ℕ) where
  -- these operands stand for the argument
  abbrev pub IsPassed : Form → Passed → List Value → Type 0
  IsPassed (ByNumber c) (Number v) vs = IsOf c v × Means p c v × (vs ≡ I64 (word v) ∷ [])
  IsPassed (ByNumber c) (Variable l) vs = ⊥
  IsPassed (ByNumber c) (Whole l high) vs = ⊥
  IsPassed (ByNumber c) (Text text) vs = ⊥
  IsPassed (ByCopy t) (Number v) vs = ⊥
  IsPassed (ByCopy t) (Variable l) vs =
      (component (row world) l ≡ Some t) × (0 < length l) × (vs ≡ I64 (offset (row world) l) ∷ [])
  IsPassed (ByCopy t) (Whole l high) vs = ⊥
  IsPassed (ByCopy t) (Text text) vs = ⊥
  IsPassed (ByName t) (Number v) vs = ⊥
  IsPassed (ByName t) (Variable l) vs =
      (component (row world) l ≡ Some t) × (0 < length l) × (vs ≡ I64 (offset (row world) l) ∷ [])
  IsPassed (ByName t) (Whole l high) vs = ⊥
  IsPassed (ByName t) (Text text) vs = ⊥
  IsPassed (ByArray is_var t) (Number v) vs = ⊥
  IsPassed (ByArray is_var t) (Variable l) vs = ⊥
  IsPassed (ByArray is_var t) (Whole l high) vs =
      (component (row world) l ≡ Some (Array (suc high) t)) × (0 < length l) × (high < 2 ^ 32)
      × (vs ≡ I64 (offset (row world) l) ∷ I64 high ∷ [])
  IsPassed (ByArray is_var t) (Text text) vs =
      (is_var ≡ false)
      × (t ≡ Cell (Natural 255))
      × (a : ℕ)
      × IsPlaced world x (argument_text text) a
      × (vs ≡ I64 a ∷ I64 (length (argument_text text) - 1) ∷ [])

  pub data ArePassed : Forms → List Passed → List Value → Type 0 where
    none_passed : ArePassed [] [] []
    more_passed : (f : Form) (fs : Forms) (a : Passed) (others : List Passed) (vs ws : List Value)
        → IsPassed f a vs → ArePassed fs others ws → ArePassed (f ∷ fs) (a ∷ others) (vs ++ ws)

-- the code of an argument leaves its operands
pub record GivesPassed (k : Scene) (f : Form) (go : Effects) (stack : List Value) (p : Passed)
    (s : Source) (r : Effect) : Type 0 where
  pub st : Target
  pub stands : Stands k s st
  pub values : List Value
  pub is : IsPassed k.program k.world k.hidden f p values
  pub run : r ≡ go st (stack ++ values)

pub record Passes (k : Scene) (f : Form) (code : Coded) (arg : Gives Passed) : Type 0 where
  pub grows : (exit : ℕ) (c : Counts) → Grows c (code (inside k exit) c).1
  pub gives : (exit : ℕ) (c : Counts)
      → IsFree k c
      → HasLocals k (code (inside k exit) c).1
      → (s : Source) (st : Target)
      → Stands k s st
      → (rest : List Instr) (stack : List Value)
      → Into (GivesPassed k f (runs k rest) stack)
      (runs k ((code (inside k exit) c).0 ++ rest) st stack) (arg k.around s)

pub data PassAll (k : Scene) : Forms → List Coded → List (Gives Passed) → Type 0 where
  pass_none : PassAll k [] [] []
  pass_more : (f : Form) (fs : Forms) (x : Coded) (xs : List Coded) (g : Gives Passed)
      (gs : List (Gives Passed))
      → Passes k f x g
      → PassAll k fs xs gs
      → PassAll k (f ∷ fs) (x ∷ xs) (g ∷ gs)

-- the code of all arguments leaves the operands of all
pub record GivesAll (k : Scene) (fs : Forms) (go : Effects) (stack : List Value) (ps : List Passed)
    (s : Source) (r : Effect) : Type 0 where
  pub st : Target
  pub stands : Stands k s st
  pub values : List Value
  pub are : ArePassed k.program k.world k.hidden fs ps values
  pub run : r ≡ go st (stack ++ values)

-- ---- what functions do

-- the instances of the modules stand before all others, and their texts stay
pub record IsBased (base : List Ty) (texts : Location → ℕ → ℕ) (world : List Ty)
    (x : Location → ℕ → ℕ) : Type 0 where
  pub more : List Ty
  pub is : world ≡ base ++ more
  pub same : (i : ℕ) (p : Location) (k : ℕ) → i < length base → x (i ∷ p) k ≡ texts (i ∷ p) k

-- the function is back in its caller, which had these locals and operands, with a result if there
-- is one
pub record CallGives (p : Modules) (world : List Ty) (x : Location → ℕ → ℕ) (limit : ℕ)
    (result : Result) (locals below : List Value) (v : ℤ) (s : Source) (r : Effect) : Type 0 where
  pub bytes : List ℕ
  pub holds : Holds p world x s.store bytes
  pub long : length bytes ≡ limit
  pub is : IsResult p result v
  pub run : r
      ≡ FellThrough (record { locals = locals; bytes = bytes; out = s.out })
      (below ++ result_values result v)

-- a nested procedure gets the address of the frame around it
abbrev pub links : List Ty → List ℕ → List Value
links world [] = []
links world (r ∷ rs) = I64 (offset (row world) (r ∷ [])) ∷ []

-- the function f of the module j does what is asked of a procedure inside of these frames
abbrev pub DoesAsked : Modules → (base : List Ty) (texts : Location → ℕ → ℕ) (limit : ℕ) → Calling
    → Asks → Callee → List Kinds → Forms → Result → (j f : ℕ) → Typed → Type 0
DoesAsked p base texts limit calls ask c kss forms result j f t =
    (world : List Ty) (x : Location → ℕ → ℕ)
    → IsBased base texts world x
    → (roots : List ℕ)
    → IsChain world x kss c.frames roots
    → (s : Source) (bytes : List ℕ)
    → Holds p world x s.store bytes
    → length bytes ≡ limit
    → (vs : List Passed) (values : List Value)
    → ArePassed p world x forms vs values
    → (left : ℕ)
    → size (row world) + left ≡ limit
    → (locals below : List Value)
    → Into (CallGives p world x limit result locals below)
    (back (length t.type.results) locals below
    (calls j f t (I32 (size (row world)) ∷ (links world roots ++ values)) bytes s.out))
    (ask (Some c) vs (length world) left s)

-- ---- calls

-- what a call leaves on the operands
pub record GivesResult (k : Scene) (result : Result) (go : Effects) (stack : List Value) (v : ℤ)
    (s : Source) (r : Effect) : Type 0 where
  pub st : Target
  pub stands : Stands k s st
  pub is : IsResult k.program result v
  pub run : r ≡ go st (stack ++ result_values result v)

pub record Calls (k : Scene) (result : Result) (code : Coded) (value : Gives ℤ) : Type 0 where
  pub grows : (exit : ℕ) (c : Counts) → Grows c (code (inside k exit) c).1
  pub gives : (exit : ℕ) (c : Counts)
      → IsFree k c
      → HasLocals k (code (inside k exit) c).1
      → (s : Source) (st : Target)
      → Stands k s st
      → (rest : List Instr) (stack : List Value)
      → Into (GivesResult k result (runs k rest) stack)
      (runs k ((code (inside k exit) c).0 ++ rest) st stack) (value k.around s)

-- the storage that is free begins behind the instances that live, and its address is kept
pub record HasTop (k : Scene) (base : List Ty) (texts : Location → ℕ → ℕ) : Type 0 where
  pub kept : k.kept (top_local k.setting) ≡ Some (I32 (size (row k.world)))
  pub next : k.around.next ≡ length k.world
  pub left : size (row k.world) + k.around.free ≡ k.limit
  pub based : IsBased base texts k.world k.hidden

-- this code calls the function
abbrev pub IsCallOf : Scene → List Instr → (j f : ℕ) → Typed → Type 0
IsCallOf k code j f t =
    (st : Target) (rest : List Instr) (stack args : List Value)
    → length args ≡ length t.type.params
    → runs k (code ++ rest) st (stack ++ args)
    ≡ then_run (back (length t.type.results) st.locals stack (calls k j f t args st.bytes st.out))
    (runs k rest)

-- in each state that stands
abbrev pub IsCallHere : Scene → List Instr → (j f : ℕ) → Typed → Type 0
IsCallHere k code j f t =
    (s : Source) (st : Target)
    → Stands k s st
    → (rest : List Instr) (stack args : List Value)
    → length args ≡ length t.type.params
    → runs k (code ++ rest) st (stack ++ args)
    ≡ then_run (back (length t.type.results) st.locals stack (calls k j f t args st.bytes st.out))
    (runs k rest)
