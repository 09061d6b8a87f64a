-- The functions of a module: the prologue of a procedure, its statements, and its end.
use Rattle.std.specs.Prelude.{ℕ, zero, suc, ◌+◌, ◌-◌, nat_lt, Bool, true, false, List, [], ◌∷◌, ◌++◌, map, length, Option, Some, None, slice_get, if◌then◌else◌}
use Rattle.wasm_tree.specs.declared.kinds.ValueType.TheVariants as type
use Rattle.wasm_tree.specs.declared.module.Locals.{Locals}
use Rattle.wasm_tree.specs.declared.module.Function.{Function}
use Rattle.wasm_tree.specs.declared.instr.Instr.{Instr}
use Rattle.wasm_tree.specs.declared.instr.Instr.TheVariants.{If, Call, LocalGet, LocalSet, LocalTee, GlobalGet, Store, I32Const, I64Const, Numeric}
use Rattle.wasm_tree.specs.declared.instr.Numeric.TheVariants as numeric
use Rattle.wasm_tree.specs.declared.instr.Relation.TheVariants.{GtU}
use Rattle.wasm_tree.specs.declared.instr.Operation.TheVariants.{Add, Mul}
use Rattle.wasm_tree.specs.declared.instr.StoreWidth.TheVariants as width
use Rattle.typed_tree.specs.declared.shape.Formal.{Formal}
use Rattle.typed_tree.specs.declared.statement.TypedStmt.{TypedStmt}
use Rattle.typed_tree.specs.declared.known_types.Types.{Types}
use Rattle.typed_tree.specs.declared.typed_module.Routine.{Routine}
use Rattle.typed_tree.specs.declared.typed_module.Which.{Which}
use Rattle.typed_tree.specs.declared.typed_module.Which.TheVariants as which
use Rattle.typed_tree.specs.declared.typed_module.TypedModule.{TypedModule}
use Rattle.layout_storage.specs.Types.{Ty, Cell, Hidden, Array, Nothing, Field, frame_of}
use Rattle.layout_storage.specs.Sizes.{size, offset}
use Rattle.layout_storage.specs.Shapes.{tree}
use Rattle.layout_storage.specs.Frames.{formals_of, frame}
use Rattle.layout_storage.specs.Texts.{characters, routines_texts, texts_before}
use Rattle.def_meaning.specs.Answer.{no_return, storage_fault}
use Rattle.def_scheme.specs.Coded.{Coded, Counts, Setting, plain, ◌⨾◌, top_local, copy_local, raise_address, operation, wrap_word, extend_word, copy, fill, fault}
use Rattle.def_scheme.specs.Cells.{store_scalar, word}
use Rattle.def_scheme.specs.Exprs.{Numbered, arguments_of, all_arguments, has_result}
use Rattle.def_scheme.specs.Steps.{body_code}
use Rattle.def_scheme.specs.Addresses.{addresses_in}

-- ---- frames of the procedures around a procedure

abbrev pub routine_of : TypedModule → Which → Option Routine
routine_of m (which.Module n) = slice_get m.procedures n
routine_of m (which.Local n) = slice_get m.locals n

abbrev pub routine_at : TypedModule → Option Which → Option Routine
routine_at m None = None
routine_at m (Some w) = routine_of m w

abbrev pub own_frame : TypedModule → Option Routine → List Ty
own_frame m None = []
own_frame m (Some r) = frame m.types r ∷ []

abbrev pub around_in : Option Routine → Option Which
around_in None = None
around_in (Some r) = r.around

-- there are no more of them than the level says
abbrev pub frames_around : TypedModule → (level : ℕ) → Option Which → List Ty
frames_around m zero w = []
frames_around m (suc k) w =
    own_frame m (routine_at m w) ++ frames_around m k (around_in (routine_at m w))

-- ---- arguments: the frame's address, the link of a nested procedure, and the formals

abbrev pub link_arguments : Routine → ℕ
link_arguments r = if nat_lt 1 r.level then 1 else 0

-- how many numbers of 64 bits the arguments are
abbrev pub numbers_of : Types → Routine → ℕ
numbers_of types r = link_arguments r + all_arguments (formals_of types r.heading)

-- ---- the prologue

-- the run ends with 8 if the stack's top is past the limit
abbrev pub limit_check : List Instr
limit_check =
    GlobalGet 0 ∷ Numeric (numeric.I32Relation GtU) ∷ If None (fault storage_fault) None ∷ []

abbrev pub enter_code : (top : ℕ) → (bytes : ℕ) → List Instr
enter_code top bytes =
    LocalGet 0 ∷ (raise_address bytes ++ (LocalTee top ∷ (limit_check ++ (LocalGet 0
    ∷ I32Const bytes ∷ Call fill ∷ []))))

abbrev pub link_kept : Routine → List Instr
link_kept r = if nat_lt 1 r.level then LocalGet 0 ∷ LocalGet 1 ∷ Store width.Eight ∷ [] else []

-- the address of a cell of formal v
abbrev pub formal_address : Ty → (v : ℕ) → List ℕ → List Instr
formal_address f v path = LocalGet 0 ∷ raise_address (offset f (suc v ∷ path))

abbrev pub word_kept : Ty → (v : ℕ) → List ℕ → List Instr → List Instr
word_kept f v path value = formal_address f v path ++ (value ++ store_scalar word)

-- a scalar is stored, and an array or a record copied
abbrev pub value_kept : Ty → (v x : ℕ) → Ty → List Instr
value_kept f v x (Cell c) = formal_address f v [] ++ (LocalGet x ∷ store_scalar c)
value_kept f v x t =
    formal_address f v [] ++ (LocalGet x ∷ wrap_word ∷ I32Const (size t) ∷ Call copy ∷ [])

abbrev pub bytes_code : (h : ℕ) → (element : ℕ) → List Instr
bytes_code h element =
    LocalGet h ∷ I64Const 1 ∷ operation Add ∷ I64Const element ∷ operation Mul ∷ wrap_word ∷ []

-- the copy of an open array stands behind the frame, and behind the copies before it
abbrev pub open_copied : (top p : ℕ) → Ty → (v x element : ℕ) → List Instr
open_copied top p f v x element =
    LocalGet top ∷ LocalSet p ∷ LocalGet top ∷ (bytes_code (suc x) element
    ++ (Numeric numeric.I32Add ∷ LocalTee top ∷ (limit_check ++ (LocalGet p ∷ LocalGet x ∷ wrap_word
    ∷ (bytes_code (suc x) element ++ (Call copy
    ∷ (word_kept f v (0 ∷ []) (LocalGet p ∷ extend_word ∷ [])
    ++ word_kept f v (1 ∷ []) (LocalGet (suc x) ∷ []))))))))

abbrev pub formal_kept : Types → (top p : ℕ) → Ty → (v x : ℕ) → Formal → List Instr
formal_kept types top p f v x a =
    if a.is_open
    then (if a.is_var
    then word_kept f v (0 ∷ []) (LocalGet x ∷ []) ++ word_kept f v (1 ∷ []) (LocalGet (suc x) ∷ [])
    else open_copied top p f v x (size (tree types a.of)))
    else (if a.is_var then word_kept f v [] (LocalGet x ∷ [])
    else value_kept f v x (tree types a.of))

abbrev pub formals_kept : Types → (top p : ℕ) → Ty → (v x : ℕ) → List Formal → List Instr
formals_kept types top p f v x [] = []
formals_kept types top p f v x (a ∷ others) =
    formal_kept types top p f v x a
    ++ formals_kept types top p f (suc v) (x + arguments_of a) others

abbrev pub prologue : Types → Routine → (top p : ℕ) → List Instr
prologue types r top p =
    enter_code top (size (frame types r)) ++ (link_kept r
    ++ formals_kept types top p (frame types r) 0 (suc (link_arguments r))
    (formals_of types r.heading))

-- ---- functions

abbrev pub setting : TypedModule → List Ty → (arguments addresses : ℕ) → Setting
setting m frames arguments addresses = record {
  home = m;
  frames = frames;
  arguments = arguments;
  addresses = addresses;
  exit = 0;
  withs = [];
}

abbrev pub from_text : ℕ → Counts
from_text at = record { addresses = 0; numbers = 0; texts = at }

abbrev pub locals_of : Counts → List Locals
locals_of c =
    record { count = 2 + c.addresses; value_type = type.I32 }
    ∷ record { count = c.numbers; value_type = type.I64 } ∷ []

abbrev pub function_of : (type_index : ℕ) → List Instr → List Instr × Counts → List Instr → Function
function_of t before x after = record {
  type_index = t;
  body = record { locals = locals_of x.1; code = before ++ (x.0 ++ after) };
}

-- a function comes to its end by RETURN alone
abbrev pub end_code : Bool → List Instr
end_code true = fault no_return
end_code false = []

module _ (numbered : Numbered) (m : TypedModule) where
  abbrev pub function_code : List Ty → (arguments text : ℕ) → List TypedStmt → List Instr × Counts
  function_code frames arguments at body =
      body_code numbered body (setting m frames arguments (addresses_in body)) (from_text at)

  abbrev pub routine_coded : Routine → (text : ℕ) → List Instr × Counts
  routine_coded r at =
      function_code (frame m.types r ∷ frames_around m r.level r.around)
      (suc (numbers_of m.types r)) at r.body

  abbrev pub routine_function : Which → Routine → Function
  routine_function w r =
      function_of (numbered (numbers_of m.types r) (has_result m.types r.heading))
      (prologue m.types r (suc (numbers_of m.types r)) (suc (suc (numbers_of m.types r))))
      (routine_coded r (characters (texts_before m w m.order)))
      (end_code (has_result m.types r.heading))

  abbrev pub functions_from : (ℕ → Which) → (number : ℕ) → List Routine → List Function
  functions_from w n [] = []
  functions_from w n (r ∷ rs) = routine_function (w n) r ∷ functions_from w (suc n) rs

  -- the body of the module: its texts stand behind all others
  abbrev pub module_coded : List Instr × Counts
  module_coded = function_code (frame_of [] ∷ []) 1 (characters (routines_texts m)) m.body

  abbrev pub module_function : Function
  module_function = function_of 5 (enter_code 1 (size (frame_of []))) module_coded []
