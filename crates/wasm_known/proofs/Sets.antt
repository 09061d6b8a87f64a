-- Where a run is, and what it printed, are sets: what merely leads there does.
use Rattle.std.proofs.Math.Logic.{∥∥₁_elim}
use Rattle.std.proofs.Common.{◌≡◌}
use Rattle.std.specs.Coded.{Coded, Coded-set, codes}
use Rattle.wasm_tree.specs.contracts.store.Value as value
use Rattle.wasm_tree.specs.contracts.store.Store as store
use Rattle.wasm_tree.specs.contracts.instr.Instr as instr
use Rattle.wasm_tree.specs.Machine.{Label, Activation, Config, Progress}

label_coded : Coded Label
label_coded = hlevel (codes, instr.the_row.coded)

activation_coded : Coded Activation
activation_coded = hlevel (codes, instr.the_row.coded, value.the_row.coded, label_coded)

config_coded : Coded Config
config_coded = hlevel (codes, store.the_row.coded, activation_coded)

progress_coded : Coded Progress
progress_coded = hlevel (codes, config_coded)

pub to_progress : {A : Type 0} (p q : Progress) → (A → p ≡ q) → ∥ A ∥₁ → p ≡ q
to_progress p q f t = ∥∥₁_elim t (Coded-set progress_coded p q) f
