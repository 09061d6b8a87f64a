-- What the executor's machine stands for.
use Rattle.std.specs.Prelude.{ℕ, List, [], ◌∷◌, ◌++◌, map, length, Option, Some, None}
use Rattle.std.specs.Borrow.{Bor}
use Rattle.wasm_tree.specs.declared.store.Memory.{Memory}
use Rattle.wasm_tree.specs.declared.store.Store.{Store}
use Rattle.wasm_tree.specs.Code.{tree}
use Rattle.wasm_tree.specs.Machine as machine
use Rattle.wasm_tree.specs.Machine.{Activation, Config, Going, Over, Trapped, Progress, Typed, trap_now, or_trap, split_end, enter_function}
use Rattle.wasm_machine.specs.declared.frame.Label.{Label}
use Rattle.wasm_machine.specs.declared.frame.Frame.{Frame}
use Rattle.wasm_machine.specs.declared.frame.Pages.{Pages}
use Rattle.wasm_machine.specs.declared.frame.Machine.{Machine}
use Rattle.wasm_machine.specs.declared.frame.Reduced.{Reduced}
use Rattle.wasm_machine.specs.declared.frame.Reduced.TheVariants as reduced

abbrev pub label_of : Label → machine.Label
label_of l =
    record { arity = l.arity; height = l.height; again = tree l.again.now; rest = tree l.rest.now }

abbrev pub activation : Frame → Activation
activation f = record {
  instance = f.instance;
  arity = f.arity;
  locals = f.locals.known.values;
  labels = map label_of f.labels.items;
  rest = tree f.rest.now;
  stack = f.stack.known.values;
}

abbrev pub memory_from : Pages → Memory
memory_from p = record { bytes = p.bytes.items; max = p.max }

-- the store, with its memories and the values of its globals in their place
abbrev pub store_of : Machine → Store
store_of m =
    record m.store { memories = map memory_from m.memories.items; globals = m.globals.known.values }

abbrev pub callers_of : Machine → List Activation
callers_of m = map activation m.callers.items

abbrev pub going : Machine → Config
going m = Going (store_of m) (activation m.now) (callers_of m)

-- where a reduction led, and what it printed
abbrev pub progress : Reduced → Machine → Progress
progress reduced.On m = (going m, [])
progress (reduced.Printed b) m = (going m, b ∷ [])
progress (reduced.Over k) m = (Over k, [])
progress reduced.Trapped m = trap_now

-- the last of several, above the others
abbrev pub waiting : List Frame → Option Frame → Option (List Activation × Activation)
waiting others None = None
waiting others (Some f) = Some (map activation others, activation f)

abbrev pub innermost : List Label → Option Label → Option (List machine.Label × machine.Label)
innermost others None = None
innermost others (Some l) = Some (map label_of others, label_of l)

-- a call of this function of a module
abbrev pub called_typed : Store → Activation → List Activation → (m : ℕ) → Typed → Progress
called_typed st now callers m t =
    or_trap (split_end (length t.type.params) now.stack) (λ p.
    (Going st (enter_function m t p.1) (callers ++ record now { stack = p.0 } ∷ []), []))

abbrev pub bytes_seen : Option (Bor (List ℕ)) → Option (List ℕ)
bytes_seen None = None
bytes_seen (Some b) = Some b.now
