-- CASE by a table: its code does what the statement does, if its parts do.
use Rattle.std.specs.Prelude.{◌≡◌, ℕ, ℤ, Bool, true, List, length, None}
use Rattle.wasm_tree.specs.declared.store.Value.{Value}
use Rattle.def_meaning.specs.Answer.{◌▷◌}
use Rattle.def_meaning.specs.Expressions.{Gives}
use Rattle.def_meaning.specs.Statements as statements
use Rattle.def_meaning.specs.Statements.{Does}
use Rattle.def_scheme.specs.Coded.{Coded}
use Rattle.def_scheme.specs.Exprs.{Part}
use Rattle.def_scheme.specs.Steps as steps
use Rattle.law_simulation.specs.Scene.{Scene, IsSet, keeping, IsGrowing, Agrees, Executes}
use Rattle.law_simulation.specs.Laws.{AreArms}

-- if its labels are few and close together: the value is kept in a local, and one jump leads to the
-- arm, or past all
abbrev pub TableCases : Type 0
TableCases =
    (k : Scene)
    → IsSet k
    → (function : Bool) (x : Part) (value : Gives ℤ) (xs : List steps.Arm)
    (ys : List statements.Arm) (otherwise : Coded) (other : Does)
    → steps.is_dense (length xs) (steps.all_labels xs) ≡ true
    → Agrees k x.of x.code value
    → ((n : ℕ) → IsGrowing k (steps.table_code n xs otherwise))
    → ((n : ℕ) (v : Value) → k.kept n ≡ None → AreArms (keeping k n v) function xs ys)
    → ((n : ℕ) (v : Value) → k.kept n ≡ None → Executes (keeping k n v) function otherwise other)
    → Executes k function (steps.case_code x.code xs otherwise) (λ a s.
    value a s ▷ λ v s. statements.choose_arm v ys other a s)
