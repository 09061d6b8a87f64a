-- What is proved of values that are taken for others, of whole copies, of strings and of results.
use Rattle.std.specs.Prelude.{◌≡◌, ℕ, suc, ◌+◌, ◌-◌, ◌<◌, ◌≤◌, ◌^◌, ℤ, pos, Bool, true, List, [], ◌∷◌, length, get_or, Some, None}
use Rattle.wasm_tree.specs.declared.instr.Instr.TheVariants as instr
use Rattle.wasm_tree.specs.declared.store.Value.TheVariants.{I32}
use Rattle.wasm_tree.specs.Machine.{global_at}
use Rattle.law_effect.specs.Effect.{store_of}
use Rattle.typed_tree.specs.declared.meaning.Procedure.{Procedure}
use Rattle.typed_tree.specs.declared.types.TypeNo.{TypeNo}
use Rattle.typed_tree.specs.declared.computed.Argument.TheOpen as layer
use Rattle.typed_tree.specs.declared.computed.Root.TheVariants as root
use Rattle.typed_tree.specs.declared.computed.Slot.{Slot}
use Rattle.typed_tree.specs.Types.{cardinal}
use Rattle.typed_tree.specs.Known.{scalar_at}
use Rattle.layout_storage.specs.Types.{Ty, Scalar, Natural, Cell, Hidden, Array, row, component, IsPlain}
use Rattle.layout_storage.specs.Sizes.{size}
use Rattle.layout_storage.specs.Shapes.{tree}
use Rattle.def_meaning.specs.Store.{Location, copy_whole, overlay}
use Rattle.def_meaning.specs.Answer.{Value, ◌▷◌}
use Rattle.def_meaning.specs.Outcome.{Normal, Returned}
use Rattle.def_meaning.specs.Environment.{Modules, procedure_value, slot_named, high_of}
use Rattle.def_meaning.specs.Expressions as meaning
use Rattle.def_meaning.specs.Expressions.{Asks, Gives as Given, as_type}
use Rattle.def_meaning.specs.Statements.{character}
use Rattle.def_scheme.specs.Coded.{Coded, plain, ◌⨾◌, with_address, with_setting, copy}
use Rattle.def_scheme.specs.Cells.{is_free, check_taken}
use Rattle.def_scheme.specs.Exprs as code
use Rattle.def_scheme.specs.Exprs.{Part, behind, slots_global, slot_number}
use Rattle.def_scheme.specs.Steps.{text_copied}
use Rattle.law_simulation.specs.Scene.{Scene, IsSet, IsCell, AreAmong, place, Agrees, Locates, Reaches, Executes}
use Rattle.law_simulation.specs.Frames.{Kinds, Kept, Alias, Open, kind_at, HasFrames}

-- a value that is taken as one of another type: if no check is made, it is one
abbrev pub Taken : Type 0
Taken =
    (k : Scene)
    → IsSet k
    → (t : TypeNo) (x : Part) (value : Given ℤ)
    → Agrees k x.of x.code value
    → (is_free k.setting.home.types t x.constant x.of ≡ true → Agrees k t x.code value)
    → (scalar_at k.setting.home.types t ≡ None → AreAmong k.setting.home.types x.of t)
    → Agrees k t (behind x.code (λ types. check_taken types t x.constant x.of)) (λ a s.
    value a s ▷ λ v s. as_type a.types t v s)

-- the table has the procedures of each module behind its body, from the slot in a global on
pub record HasSlot (k : Scene) (p : Modules) (f : Procedure) : Type 0 where
  pub slot : ℕ
  pub there : (bytes : List ℕ)
      → global_at (store_of k.fixed bytes) k.own (slots_global k.setting.home f.home)
      ≡ Some (I32 slot)
  pub is : procedure_value p f.home f.number ≡ pos (slot + slot_number f)
  pub small : slot + slot_number f < 2 ^ 32

abbrev pub ProcedureValues : Type 0
ProcedureValues =
    (k : Scene)
    → IsSet k
    → (p : Modules) (ask : Asks) (f : Procedure)
    → HasSlot k p f
    → scalar_at k.setting.home.types f.heading ≡ None
    → Agrees k f.heading (code.expr_layer (layer.Procedure f)).code
    (meaning.expr_layer p ask (layer.Procedure f))

-- the bytes of a whole array or record are copied
abbrev pub Copies : Type 0
Copies =
    (k : Scene)
    → IsSet k
    → (function : Bool) (t : TypeNo) (d e : Coded) (to from : Given Location)
    → IsPlain (tree k.setting.home.types t)
    → Locates k (tree k.setting.home.types t) d to
    → Locates k (tree k.setting.home.types t) e from
    → Executes k function
    (d ⨾ behind e (λ types. instr.I32Const (size (tree types t)) ∷ instr.Call copy ∷ [])) (λ a s.
    to a s ▷ λ l s.
    from a s ▷ λ l' s. Value Normal (record s { store = copy_whole l l' s.store }))

-- the characters of a text of the module stand behind one another in its hidden room, from this
-- place on
pub record IsText (k : Scene) (at : ℕ) (text : List ℕ) : Type 0 where
  pub base : ℕ
  pub there : (bytes : List ℕ)
      → global_at (store_of k.fixed bytes) k.own code.text_global ≡ Some (I32 base)
  pub room : Location
  pub bytes : ℕ
  pub type : component (row k.world) room ≡ Some (Hidden bytes)
  pub is : place k room ≡ base
  pub fits : at + length text ≤ bytes
  pub same : (j : ℕ) → j < length text → k.hidden room (at + j) ≡ get_or text j 0
  pub small : (j : ℕ) → get_or text j 0 < 256

-- a string is assigned to an array of characters: what the string leaves is filled with 0C
abbrev pub Strings : Type 0
Strings =
    (k : Scene)
    → IsSet k
    → (function : Bool) (t : TypeNo) (n at : ℕ) (d : Coded) (to : Given Location) (text : List ℕ)
    → tree k.setting.home.types t ≡ Array n (Cell (Natural 255))
    → length text ≤ n
    → IsText k at text
    → Locates k (tree k.setting.home.types t) d to
    → Executes k function
    (d ⨾ with_address (λ w.
    plain (instr.LocalTee w ∷ []) ⨾ with_setting (λ s.
    plain (text_copied at (length text) (size (tree s.home.types t) - length text) w))))
    (λ a s.
    to a s ▷ λ l s. Value Normal (record s { store = overlay l (character text) s.store }))

-- RETURN with a value
abbrev pub Gives : Type 0
Gives =
    (k : Scene) (t : TypeNo) (c : Scalar) (e : Coded) (value : Given ℤ)
    → k.result ≡ Some (tree k.setting.home.types t)
    → IsCell k.setting.home.types t c
    → Agrees k t e value
    → Executes k true (e ⨾ plain (instr.Return ∷ [])) (λ a s.
    value a s ▷ λ v s. Value (Returned v) s)

-- ---- formals and variables of the procedure, and of those around it

abbrev pub Locals : Type 0
Locals =
    (k : Scene)
    → IsSet k
    → (p : Modules) (ask : Asks) (kss : List Kinds)
    → HasFrames k kss
    → (slot : Slot) (t : Ty)
    → kind_at kss slot ≡ Some (Kept t)
    → Locates k t (code.root_layer (root.Local slot)) (λ a s.
    Value (meaning.root_layer p ask (root.Local slot) a) s)

-- a VAR formal
abbrev pub Aliases : Type 0
Aliases =
    (k : Scene)
    → IsSet k
    → (p : Modules) (ask : Asks) (kss : List Kinds)
    → HasFrames k kss
    → (slot : Slot) (t : Ty)
    → kind_at kss slot ≡ Some (Alias t)
    → Locates k t (code.root_layer (root.Alias slot)) (λ a s.
    Value (meaning.root_layer p ask (root.Alias slot) a) s)

-- an open array, which has an element for each number up to its HIGH
abbrev pub OpenArrays : Type 0
OpenArrays =
    (k : Scene)
    → IsSet k
    → (p : Modules) (ask : Asks) (kss : List Kinds)
    → HasFrames k kss
    → (slot : Slot) (t : Ty)
    → kind_at kss slot ≡ Some (Open t)
    → Locates k (Array (suc (high_of (slot_named k.around slot))) t)
    (code.root_layer (root.Open slot)) (λ a s.
    Value (meaning.root_layer p ask (root.Open slot) a) s)

abbrev pub OpenElements : Type 0
OpenElements =
    (k : Scene)
    → IsSet k
    → (p : Modules) (ask : Asks) (kss : List Kinds)
    → HasFrames k kss
    → (slot : Slot) (t : TypeNo)
    → kind_at kss slot ≡ Some (Open (tree k.setting.home.types t))
    → (i : Part) (value : Given ℤ)
    → Agrees k i.of i.code value
    → Reaches k (Array (suc (high_of (slot_named k.around slot))) (tree k.setting.home.types t))
    (tree k.setting.home.types t) (code.component_layer (layer.OpenElement slot t i))
    (meaning.component_layer p ask (layer.OpenElement slot t value))

abbrev pub Highs : Type 0
Highs =
    (k : Scene)
    → IsSet k
    → (p : Modules) (ask : Asks) (kss : List Kinds)
    → HasFrames k kss
    → (slot : Slot) (t : Ty)
    → kind_at kss slot ≡ Some (Open t)
    → Agrees k cardinal (code.expr_layer (layer.High slot)).code
    (meaning.expr_layer p ask (layer.High slot))
