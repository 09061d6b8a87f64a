-- What the values of the linker stand for.
use Rattle.std.specs.Prelude.{ℕ, ◌+◌, nat_le, length, List, Option, Some, None, Result, Ok, Err, if◌then◌else◌}
use Rattle.std.specs.Borrow.{Bor}
use Rattle.std.specs.Global.{Vec}
use Rattle.wasm_tree.specs.declared.kinds.FuncType.{FuncType}
use Rattle.wasm_tree.specs.declared.store.Store.{Store}
use Rattle.wasm_tree.specs.declared.store.Instance.{Instance}
use Rattle.wasm_tree.specs.declared.fault.WFault.{WFault}
use Rattle.wasm_tree.specs.declared.fault.WFault.TheVariants.{SegmentOutside}
use Rattle.wasm_tree.specs.Machine.{Typed, paste_items}
use Rattle.wasm_tree.specs.Linking.{Linked}
use Rattle.wasm_link.specs.declared.types.TypedFunction.{TypedFunction}

abbrev pub typed_function : TypedFunction → Typed
typed_function t = record { type = t.func_type.now; function = t.function.now }

abbrev pub typed_of : Option TypedFunction → Option Typed
typed_of None = None
typed_of (Some t) = Some (typed_function t)

abbrev pub type_of_ref : Option (Bor FuncType) → Option FuncType
type_of_ref None = None
type_of_ref (Some t) = Some t.now

abbrev pub link_result : Store → Instance → Linked
link_result st i = record { store = st; instance = i }

abbrev pub items_of : {A : Type 0} → Option (Vec A) → Option (List A)
items_of None = None
items_of (Some v) = Some v.items

-- a list with others from a place on, if it reaches so far
abbrev pub write_items : {A : Type 0} → (place : ℕ) → (items others : List A)
    → Result (List A) WFault
write_items place items others =
    if nat_le (place + length others) (length items)
    then Ok (paste_items items place others)
    else Err SegmentOutside
