-- What is proved: the run of a program whose modules are as the checker leaves them lacks nothing.
use Rattle.std.specs.Prelude.{◌≡◌, ℕ, suc, ◌<◌, false, List, [], ◌∷◌, Some, slice_get}
use Rattle.typed_tree.specs.declared.computed.Place.{Place}
use Rattle.typed_tree.specs.declared.computed.Root.TheVariants as root
use Rattle.typed_tree.specs.declared.computed.TypedExpr.TheVariants as expr
use Rattle.typed_tree.specs.declared.meaning.Variable.{Variable}
use Rattle.typed_tree.specs.declared.statement.TypedStmt.TheVariants as stmt
use Rattle.typed_tree.specs.declared.shape.Made.{Made}
use Rattle.typed_tree.specs.declared.types.TypeNo.{TypeNo}
use Rattle.typed_tree.specs.declared.known_types.Types.{Types}
use Rattle.typed_tree.specs.Types.{predeclared_type, char}
use Rattle.typed_tree.specs.declared.typed_module.TypedModule.{TypedModule}
use Rattle.def_meaning.specs.Answer.{State, halt_status, Ended}
use Rattle.def_meaning.specs.Environment.{Callee, Passed}
use Rattle.def_meaning.specs.Runs.{run}
use Rattle.law_modules.specs.Linked.{Program}
use Rattle.law_modules.specs.There.{named_by, is_type, are_types}
use Rattle.law_simulation.specs.Modules.{AreModules, AreTypedModules}
use Rattle.law_nothing_missing.specs.Expressions.{is_module}
use Rattle.law_nothing_missing.specs.Worlds.{World}
use Rattle.law_nothing_missing.specs.Calls.{calling}
use Rattle.law_nothing_missing.specs.Runs.{strict_run}

-- whatever number stands for a lack, the strict run is the run
abbrev pub StrictRuns : Type 0
StrictRuns =
    (p : Program) (pages : ℕ) → AreModules p → AreTypedModules p pages → (lacking n : ℕ)
    → strict_run lacking p pages n ≡ run p pages n

-- and if it is no number of the language, which are 0, the faults and HALT, no run ends with it: so
-- nothing is lacking
abbrev pub NothingLacks : Type 0
NothingLacks =
    (p : Program) (pages : ℕ) → AreModules p → AreTypedModules p pages → (lacking n : ℕ)
    → halt_status < lacking → (out : List ℕ) → strict_run lacking p pages n ≡ Ended lacking out → ⊥

-- That number does come if something is lacking: a program that prints a variable of a module that
-- is not there,
abbrev pub MissingLacks : Type 0
MissingLacks =
    (m : TypedModule) (d : Place) (v : Variable)
    → m.body ≡ stmt.Put (expr.Load char d) ∷ []
    → d.root ≡ root.Global v
    → is_module (m ∷ []) v.home ≡ false
    → (lacking pages n : ℕ)
    → strict_run lacking (m ∷ []) pages n ≡ Ended lacking []

-- one that has a variable whose type is not there,
abbrev pub UnknownLacks : Type 0
UnknownLacks =
    (m : TypedModule) (i : ℕ) (t : TypeNo) → slice_get m.variables i ≡ Some t
    → is_type m.types t ≡ false
    → (lacking pages n : ℕ)
    → strict_run lacking (m ∷ []) pages n ≡ Ended lacking []

-- one whose first type names a type that is not there,
abbrev pub NamedLacks : Type 0
NamedLacks =
    (m : TypedModule) (x : Made) (more : List Made) → m.types.own ≡ x ∷ more
    → are_types m.types (named_by x.shape) ≡ false
    → (lacking pages n : ℕ)
    → strict_run lacking (m ∷ []) pages n ≡ Ended lacking []

-- and a call of a procedure that has a variable of this kind.
abbrev pub LocalLacks : Type 0
LocalLacks =
    (p : Program) (c : Callee) (i : ℕ) (t : TypeNo) → slice_get c.routine.variables i ≡ Some t
    → is_type c.types t ≡ false
    → (lacking n d : ℕ) (world : World) (vs : List Passed) (next left : ℕ) (st : State)
    → calling lacking p n (suc d) world (Some c) vs next left st ≡ Ended lacking st.out

-- No predeclared type has the number 5.
abbrev pub FiveIsNone : Type 0
FiveIsNone = (types : Types) → is_type types (predeclared_type 5) ≡ false
