-- What is called, found in the list of modules.
use Rattle.std.proofs.Common.{◌≡◌, ℕ, zero, suc, ◌+◌, ◌-◌, ◌<◌, ◌≤◌, ℤ, pos, negsuc, ◌<ℤ◌, List, [], ◌∷◌, map, length, drop, Option, Some, None, refl, ap, sym, ◌∙◌, arith}
use Rattle.std.specs.Prelude.{slice_get}
use Rattle.std.proofs.lemmas.Int.{ints}
use Rattle.std.specs.Option.{option_map}
use Rattle.std.specs.List.{drop-map}
use Rattle.typed_tree.specs.declared.typed_module.Routine.{Routine}
use Rattle.typed_tree.specs.declared.typed_module.TypedModule.{TypedModule}
use Rattle.def_meaning.specs.Environment.{Modules, Entry, Body, Procedure, Frames, callee_with, procedure_in, nested_in, module_callee, entries, entries_from, entry_of, entry_callee}
use Rattle.def_meaning.specs.Environment.{Callee as Asked, Named as Name}
use Rattle.plain_store.specs.declared.prepared.Prepared.{Prepared}
use Rattle.plain_values.specs.declared.program.Program.{Program}
use Rattle.plain_values.specs.declared.program.Around.{Around}
use Rattle.plain_values.specs.declared.program.Callee.{Callee}
use Rattle.plain_values.specs.declared.program.Named.{Named}
use Rattle.plain_steps.specs.declared.callees.Found.{Found}
use Rattle.plain_values.specs.Surroundings.{modules_in, modules_of, name_of, frames_of, callee_of, surroundings}
use Rattle.plain_steps.specs.Parts.{found_in, found_callee, entries_at}
use Rattle.plain_values.proofs.Lists.{got}
use Rattle.plain_steps.proofs.Entries.{entries_found}

pub no_module : (p : Program) (place number : ℕ) → slice_get p.modules.now place ≡ None
    → module_callee (modules_of p) place number ≡ None
unfolding modules_of
no_module p place number h = ap (λ (o : Option TypedModule). procedure_in place o number)
    (got (λ (m : Prepared). m.body.now) p.modules.now place
    ∙ ap (λ (o : Option Prepared). option_map (λ (m : Prepared). m.body.now) o) h)

pub no_procedure : (p : Program) (m : Prepared) (place number : ℕ) → slice_get p.modules.now place ≡ Some m
    → slice_get m.body.now.procedures number ≡ None → module_callee (modules_of p) place number ≡ None
unfolding modules_of
no_procedure p m place number h g =
    ap (λ (o : Option TypedModule). procedure_in place o number)
    (got (λ (m : Prepared). m.body.now) p.modules.now place
    ∙ ap (λ (o : Option Prepared). option_map (λ (m : Prepared). m.body.now) o) h)
    ∙ ap (λ (o : Option Routine). callee_with place m.body.now.types [] o) g

pub callee_is : (p : Program) (m : Prepared) (c : Callee) (place number : ℕ) → slice_get p.modules.now place ≡ Some m
    → slice_get m.body.now.procedures number ≡ Some c.routine.now
    → c.place ≡ place → c.home ≡ m → c.frames ≡ [] → Some (callee_of c) ≡ module_callee (modules_of p) place number
unfolding modules_of callee_of
callee_is p m c place number h g e f i = sym (
    ap (λ (o : Option TypedModule). procedure_in place o number)
    (got (λ (m : Prepared). m.body.now) p.modules.now place
    ∙ ap (λ (o : Option Prepared). option_map (λ (m : Prepared). m.body.now) o) h)
    ∙ ap (λ (o : Option Routine). callee_with place m.body.now.types [] o) g
    ∙ ap (λ (k : ℕ). callee_with k m.body.now.types [] (Some c.routine.now)) (sym e)
    ∙ ap (λ (x : Prepared). callee_with c.place x.body.now.types [] (Some c.routine.now)) (sym f)
    ∙ ap (λ (fs : List (List Named)). callee_with c.place c.home.body.now.types (frames_of fs) (Some c.routine.now))
    (sym i))

pub ruleset callees = (no_module, no_procedure, callee_is)

pub no_home : (a : Around) (up number : ℕ) → slice_get a.program.now.modules.now a.place ≡ None
    → nested_in (surroundings a).place (slice_get (modules_of a.program.now) (surroundings a).place)
    (drop up (surroundings a).frames) number ≡ None
unfolding modules_of surroundings
no_home a up number h = ap (λ (o : Option TypedModule). nested_in a.place o (drop up (frames_of a.frames)) number)
    (got (λ (m : Prepared). m.body.now) a.program.now.modules.now a.place
    ∙ ap (λ (o : Option Prepared). option_map (λ (m : Prepared). m.body.now) o) h)

pub no_local : (a : Around) (m : Prepared) (up number : ℕ) → slice_get a.program.now.modules.now a.place ≡ Some m
    → slice_get m.body.now.locals number ≡ None
    → nested_in (surroundings a).place (slice_get (modules_of a.program.now) (surroundings a).place)
    (drop up (surroundings a).frames) number ≡ None
unfolding modules_of surroundings
no_local a m up number h g =
    ap (λ (o : Option TypedModule). nested_in a.place o (drop up (frames_of a.frames)) number)
    (got (λ (m : Prepared). m.body.now) a.program.now.modules.now a.place
    ∙ ap (λ (o : Option Prepared). option_map (λ (m : Prepared). m.body.now) o) h)
    ∙ ap (λ (o : Option Routine). callee_with a.place m.body.now.types (drop up (frames_of a.frames)) o) g

pub nested_is : (a : Around) (m : Prepared) (c : Callee) (up number : ℕ)
    → slice_get a.program.now.modules.now a.place ≡ Some m → slice_get m.body.now.locals number ≡ Some c.routine.now
    → c.place ≡ a.place → c.home ≡ m → c.frames ≡ drop up a.frames
    → Some (callee_of c) ≡ nested_in (surroundings a).place
    (slice_get (modules_of a.program.now) (surroundings a).place) (drop up (surroundings a).frames) number
unfolding modules_of surroundings callee_of
nested_is a m c up number h g e f i = sym (
    ap (λ (o : Option TypedModule). nested_in a.place o (drop up (frames_of a.frames)) number)
    (got (λ (m : Prepared). m.body.now) a.program.now.modules.now a.place
    ∙ ap (λ (o : Option Prepared). option_map (λ (m : Prepared). m.body.now) o) h)
    ∙ ap (λ (o : Option Routine). callee_with a.place m.body.now.types (drop up (frames_of a.frames)) o) g
    ∙ ap (λ (fs : Frames). callee_with a.place m.body.now.types fs (Some c.routine.now))
    (drop-map (map name_of) up a.frames)
    ∙ ap (λ (fs : List (List Named)). callee_with a.place m.body.now.types (frames_of fs) (Some c.routine.now)) (sym i)
    ∙ ap (λ (k : ℕ). callee_with k m.body.now.types (frames_of c.frames) (Some c.routine.now)) (sym e)
    ∙ ap (λ (x : Prepared). callee_with c.place x.body.now.types (frames_of c.frames) (Some c.routine.now)) (sym f))

pub ruleset nested = (no_home, no_local, nested_is)

-- ---- procedures as values

entry_is : (p : Modules) (e : Option Entry) (f : Option Found) → f ≡ found_in e → entry_callee p e ≡ found_callee p f
entry_is p None f h = sym (ap (λ (x : Option Found). found_callee p x) h)
entry_is p (Some Body) f h = sym (ap (λ (x : Option Found). found_callee p x) h)
entry_is p (Some (Procedure place number)) f h = sym (ap (λ (x : Option Found). found_callee p x) h)

pub variable_low : (p : Program) (v : ℤ) → v <ℤ pos 1 → entry_callee (modules_of p) (entry_of (modules_of p) v) ≡ None
variable_low p (pos zero) h = refl
variable_low p (pos (suc k)) h = absurd (omega (arith, ints, h))
variable_low p (negsuc k) h = refl

pub variable_zero : (p : Program) (v : ℤ) (n : ℕ) → v ≡ pos n → n ≡ 0
    → entry_callee (modules_of p) (entry_of (modules_of p) v) ≡ None
variable_zero p v n e h = ap (λ (x : ℤ). entry_callee (modules_of p) (entry_of (modules_of p) x)) e
    ∙ ap (λ (k : ℕ). entry_callee (modules_of p) (entry_of (modules_of p) (pos k))) h

pub variable_is : (p : Program) (v : ℤ) (n k : ℕ) (f : Option Found) → v ≡ pos n → n ≡ suc k
    → f ≡ entries_at 0 (modules_in p.modules.now) k
    → entry_callee (modules_of p) (entry_of (modules_of p) v) ≡ found_callee (modules_of p) f
unfolding modules_of
variable_is p v n k f e g h =
    ap (λ (x : ℤ). entry_callee (modules_of p) (entry_of (modules_of p) x)) e
    ∙ ap (λ (i : ℕ). entry_callee (modules_of p) (entry_of (modules_of p) (pos i))) g
    ∙ entry_is (modules_of p) (slice_get (entries (modules_of p)) k) f
    (h ∙ entries_found 0 (modules_in p.modules.now) k)

pub variable_none : (p : Program) (v : ℤ) (n k : ℕ) (f : Option Found) → v ≡ pos n → n ≡ suc k
    → f ≡ entries_at 0 (modules_in p.modules.now) k → f ≡ None
    → entry_callee (modules_of p) (entry_of (modules_of p) v) ≡ None
variable_none p v n k f e g h q = variable_is p v n k f e g h
    ∙ ap (λ (x : Option Found). found_callee (modules_of p) x) q

pub variable_some : (p : Program) (v : ℤ) (n k : ℕ) (f : Option Found) (x : Found) (c : Option Asked) → v ≡ pos n
    → n ≡ suc k → f ≡ entries_at 0 (modules_in p.modules.now) k → f ≡ Some x
    → c ≡ module_callee (modules_of p) x.place x.number → c ≡ entry_callee (modules_of p) (entry_of (modules_of p) v)
variable_some p v n k f x c e g h q d = d
    ∙ sym (variable_is p v n k f e g h ∙ ap (λ (y : Option Found). found_callee (modules_of p) y) q)

pub ruleset variables = (variable_low, variable_zero, variable_none, variable_some)
