-- What comes next, where a value is given and where there is none.
use Rattle.std.proofs.Common.{◌≡◌, ℕ, refl, ap}
use Rattle.def_meaning.specs.Answer.{State as Meant, Answer as Given, Value, ◌▷◌, Ended, StillRunning}
use Rattle.def_meaning.specs.Outcome.{Outcome as Course, Normal, Exited, Returned, sequence}
use Rattle.plain_store.specs.declared.state.State.{State}
use Rattle.plain_store.specs.declared.state.Stop.{Stop}
use Rattle.plain_store.specs.declared.state.Stop.TheVariants as stop
use Rattle.plain_store.specs.Seen.{view_of, stop_meaning, answer_meaning, stop_course, outcome_course}

pub gave : {A B : Type 0} (r : Given A) (v : A) (st : Meant) (next : A → Meant → Given B) → r ≡ Value v st
    → (r ▷ next) ≡ next v st
gave r v st next h = ap (λ (x : Given _). (x ▷ next)) h

pub stays : {A B : Type 0} (r : Given A) (s : Stop) (st : State) (next : A → Meant → Given B) → r ≡ stop_meaning s st
    → (r ▷ next) ≡ stop_meaning s st
stays r (stop.Ended k) st next h = ap (λ (x : Given _). (x ▷ next)) h
stays r stop.StillRunning st next h = ap (λ (x : Given _). (x ▷ next)) h

pub with_gave : {A : Type 0} (r : Given A) (v : A) (st : Meant) (next : A → Meant → Course) → r ≡ Value v st
    → (r ▷ next) ≡ next v st
with_gave r v st next h = ap (λ (x : Given _). (x ▷ next)) h

pub with_stays : {A : Type 0} (r : Given A) (s : Stop) (st : State) (next : A → Meant → Course) → r ≡ stop_meaning s st
    → (r ▷ next) ≡ stop_course s st
with_stays r (stop.Ended k) st next h = ap (λ (x : Given _). (x ▷ next)) h
with_stays r stop.StillRunning st next h = ap (λ (x : Given _). (x ▷ next)) h

pub went : (r : Course) (st : Meant) (next : Meant → Course) → r ≡ Value Normal st → sequence r next ≡ next st
went r st next h = ap (λ (x : Course). sequence x next) h

pub left : (r : Course) (st : Meant) (next : Meant → Course) → r ≡ Value Exited st → sequence r next ≡ Value Exited st
left r st next h = ap (λ (x : Course). sequence x next) h

pub came : (r : Course) (v : _) (st : Meant) (next : Meant → Course) → r ≡ Value (Returned v) st
    → sequence r next ≡ Value (Returned v) st
came r v st next h = ap (λ (x : Course). sequence x next) h

pub halts : (r : Course) (s : Stop) (st : State) (next : Meant → Course) → r ≡ stop_course s st
    → sequence r next ≡ stop_course s st
halts r (stop.Ended k) st next h = ap (λ (x : Course). sequence x next) h
halts r stop.StillRunning st next h = ap (λ (x : Course). sequence x next) h

pub ruleset threads = (gave, stays, with_gave, with_stays, went, left, came, halts)
