-- Addresses and numbers that are kept in locals while statements run.
use Rattle.std.proofs.Common.{◌≡◌, ℕ, suc, ◌<◌, ℤ, Bool, List, [], ◌∷◌, ◌++◌, length, Some, None, refl, sym, subst, append_assoc, arith}
use Rattle.std.specs.Prelude.{slice_set}
use Rattle.wasm_tree.specs.declared.instr.Instr.{Instr}
use Rattle.wasm_tree.specs.declared.instr.Instr.TheVariants as instr
use Rattle.wasm_tree.specs.declared.store.Value.{Value}
use Rattle.wasm_tree.specs.declared.store.Value.TheVariants.{I32, I64}
use Rattle.law_effect.specs.Effect.{State as Target, Effect, Does as Effects}
use Rattle.layout_storage.specs.Types.{Ty, row, component}
use Rattle.def_meaning.specs.Store.{Location}
use Rattle.def_meaning.specs.Answer.{State as Source, Answer, Ended, StillRunning, ◌▷◌}
use Rattle.def_meaning.specs.Outcome.{Outcome, Normal, Exited, Returned}
use Rattle.def_meaning.specs.Answer as answer
use Rattle.def_meaning.specs.Expressions.{Gives}
use Rattle.def_meaning.specs.Statements.{Does}
use Rattle.def_scheme.specs.Steps.{under}
use Rattle.def_scheme.specs.Coded.{Coded, Counts, plain, ◌⨾◌, with_address, with_number, address_local, number_local}
use Rattle.law_simulation.specs.Scene.{Scene, runs, place, word, Stands, keeping, opening, Into, GivesPlace, Grows, IsFree, HasLocals, inside, Locates, Ends, Executes}
use Rattle.law_simulation.proofs.Parts.{free_after}
use Rattle.law_simulation.proofs.Locals.{set_keeps, forgets, set_runs_here, address_beside, has_beside}

module _ (k : Scene) (function : Bool) where
  -- what is kept may be forgotten at the end
  pub ends_forgets : (n : ℕ) (v : Value) → k.kept n ≡ None
      → (exit : ℕ) (stack : List Value) (on : Target → Effect) (r : Effect) (o : Outcome)
      → Ends (keeping k n v) function exit stack on r o → Ends k function exit stack on r o
  ends_forgets n v new exit stack on r (answer.Value Normal s) p =
      record { st = p.st; stands = forgets k n v new s p.st p.stands; run = p.run }
  ends_forgets n v new exit stack on r (answer.Value Exited s) p =
      record { st = p.st; stands = forgets k n v new s p.st p.stands; run = p.run }
  ends_forgets n v new exit stack on r (answer.Value (Returned w) s) p =
      record { below = p.below; st = p.st; stands = (forgets k n v new s p.st p.stands.0, p.stands.1); run = p.run }
  ends_forgets n v new exit stack on r (Ended j out) p = p
  ends_forgets n v new exit stack on r (StillRunning out) p = p

  -- an address first
  pub ends_from : (exit : ℕ) (stack operands : List Value) (on : Target → Effect) (t : Ty) (go : Effects) (r : Effect)
      (a : Answer Location) (next : Location → Source → Outcome) → Into (GivesPlace k t go operands) r a
      → ((l : Location) → component (row k.world) l ≡ Some t → 0 < length l → (s : Source) (st : Target) → Stands k s st
      → Ends k function exit stack on (go st (operands ++ I32 (place k l) ∷ [])) (next l s))
      → Ends k function exit stack on r (a ▷ next)
  ends_from exit stack operands on t go r (answer.Value l s) next p h =
      subst (λ (e : Effect). Ends k function exit stack on e (next l s)) (sym p.run) (h l p.type p.some s p.st p.stands)
  ends_from exit stack operands on t go r (Ended j out) next p h = p
  ends_from exit stack operands on t go r (StillRunning out) next p h = p

  -- the address of a variable is kept while a statement runs
  module _ (t : Ty) (d : Coded) (found : Gives Location) (f : ℕ → Coded) (next : Location → Does)
      (hd : Locates k t d found) (grows_on : (w e : ℕ) (c : Counts) → Grows c (f w (inside k e) c).1)
      (goes_on : (w : ℕ) (l : Location) → k.kept w ≡ None → component (row k.world) l ≡ Some t → 0 < length l
      → Executes (keeping k w (I32 (place k l))) function (f w) (next l)) where
    abbrev address_code : Coded
    address_code = d ⨾ with_address (λ w. plain (instr.LocalSet w ∷ []) ⨾ f w)

    pub address_kept : Executes k function address_code (λ a s. found a s ▷ λ l s. next l a s)
    address_kept = record {
      grows = λ e c.
          let middle = (d (inside k e) c).1 in
          let g = hd.grows e c in let h = grows_on (address_local k.setting middle.addresses) e
          (record middle { addresses = suc middle.addresses }) in
          record { numbers = omega (arith, g.numbers, h.numbers); addresses = omega (arith, g.addresses, h.addresses) };
      goes = λ e c free full s st h rest stack.
          let first = d (inside k e) c in
          let middle = first.1 in
          let w : ℕ = address_local k.setting middle.addresses in
          let after : Counts = record middle { addresses = suc middle.addresses } in
          let second = f w (inside k e) after in
          let g = grows_on w e after in
          let fewer : middle.addresses < k.setting.addresses = omega (arith, g.addresses, full.addresses) in
          let less : w < k.locals = omega (arith, fewer, full.numbers) in
          let free_here : IsFree k middle = free_after k (hd.grows e c) free in
          let new : k.kept w ≡ None = free_here.addresses w (omega arith) (omega (arith, fewer)) in
          let full_here : HasLocals k middle =
          record { numbers = omega (arith, g.numbers, full.numbers); addresses = omega (arith, fewer) } in
          let list : List Instr = instr.LocalSet w ∷ second.0 in
          let outcome : Source → Outcome = λ s. (found k.around s ▷ (λ l s. next l k.around s)) in
          subst (λ (code : List Instr). Ends k function e stack (λ st. runs k rest st stack) (runs k code st stack)
          (outcome s)) (sym (append_assoc first.0 list rest))
          (ends_from e stack stack (λ st. runs k rest st stack) t (runs k (list ++ rest))
          (runs k (first.0 ++ (list ++ rest)) st stack) (found k.around s) (λ l s. next l k.around s)
          (hd.gives e c free full_here s st h (list ++ rest) stack)
          (λ l type some s' st' h'.
          let v : Value = I32 (place k l) in
          let set : Target = record st' { locals = slice_set st'.locals w v } in
          subst (λ (r : Effect). Ends k function e stack (λ st. runs k rest st stack) r (next l k.around s'))
          (sym (set_runs_here k w v (second.0 ++ rest) s' st' stack less h'))
          (ends_forgets w v new e stack (λ st. runs k rest st stack) (runs k (second.0 ++ rest) set stack)
          (next l k.around s')
          ((goes_on w l new type some).goes e after (address_beside k w v middle refl fewer free_here)
          (has_beside k w v second.1 full) s' set (set_keeps k w v new less s' st' h') rest stack))));
    }

  -- a number is kept behind the code that leaves it
  module _ (list : ℕ → List Instr) (g : ℕ → Coded) (plainly : (n e : ℕ) (c : Counts) → g n (inside k e) c ≡ (list n, c))
      (v : ℤ) (next : Source → Outcome)
      (goes_on : (n : ℕ) → k.kept n ≡ None → (e : ℕ) (s : Source) (st : Target)
      → Stands (keeping k n (I64 (word v))) s st → (rest : List Instr) (stack : List Value)
      → Ends (keeping k n (I64 (word v))) function e stack (λ st. runs k rest st stack)
      (runs k (list n ++ rest) st stack) (next s)) where
    abbrev number_code : Coded
    number_code = with_number (λ n. plain (instr.LocalSet n ∷ []) ⨾ g n)

    pub number_kept : (e : ℕ) (c : Counts) → IsFree k c → HasLocals k (number_code (inside k e) c).1
        → (s : Source) (st : Target) → Stands k s st → (rest : List Instr) (stack : List Value)
        → Ends k function e stack (λ st. runs k rest st stack)
        (runs k ((number_code (inside k e) c).0 ++ rest) st (stack ++ I64 (word v) ∷ [])) (next s)
    number_kept e c free full s st h rest stack =
        let n : ℕ = number_local k.setting c.numbers in
        let after : Counts = record c { numbers = suc c.numbers } in
        let value : Value = I64 (word v) in
        let new : k.kept n ≡ None = free.numbers n (omega arith) in
        let full_here : HasLocals k after = subst (λ (p : List Instr × Counts). HasLocals k p.1) (plainly n e after)
        full in
        let less : n < k.locals = omega (arith, full_here.numbers) in
        let set : Target = record st { locals = slice_set st.locals n value } in
        subst (λ (p : List Instr × Counts). Ends k function e stack (λ st. runs k rest st stack)
        (runs k (instr.LocalSet n ∷ (p.0 ++ rest)) st (stack ++ value ∷ [])) (next s)) (sym (plainly n e after))
        (subst (λ (r : Effect). Ends k function e stack (λ st. runs k rest st stack) r (next s))
        (sym (set_runs_here k n value (list n ++ rest) s st stack less h))
        (ends_forgets n value new e stack (λ st. runs k rest st stack) (runs k (list n ++ rest) set stack) (next s)
        (goes_on n new e s set (set_keeps k n value new less s st h) rest stack)))

  pub number_grows : (list : ℕ → List Instr) (g : ℕ → Coded)
      → ((n e : ℕ) (c : Counts) → g n (inside k e) c ≡ (list n, c)) → (e : ℕ) (c : Counts)
      → Grows c (with_number (λ n. plain (instr.LocalSet n ∷ []) ⨾ g n) (inside k e) c).1
  number_grows list g plainly e c =
      let n : ℕ = number_local k.setting c.numbers in
      let after : Counts = record c { numbers = suc c.numbers } in
      subst (λ (p : List Instr × Counts). Grows c p.1) (sym (plainly n e after))
      (record { numbers = omega arith; addresses = omega arith })

-- ---- WITH: the address of its record is kept

module _ (k : Scene) (function : Bool) (w : ℕ) (l : Location) where
  abbrev around_it : Scene
  around_it = keeping k w (I32 (place k l))

  abbrev inside_it : Scene
  inside_it = opening k w l

  opened_stands : (s : Source) (st : Target) → Stands around_it s st → Stands inside_it s st
  opened_stands s st h = record { holds = h.holds; long = h.long; count = h.count; kept = h.kept; out = h.out }

  closed_stands : (s : Source) (st : Target) → Stands inside_it s st → Stands around_it s st
  closed_stands s st h = record { holds = h.holds; long = h.long; count = h.count; kept = h.kept; out = h.out }

  ends_closed : (exit : ℕ) (stack : List Value) (on : Target → Effect) (r : Effect) (o : Outcome)
      → Ends inside_it function exit stack on r o → Ends around_it function exit stack on r o
  ends_closed exit stack on r (answer.Value Normal s) p =
      record { st = p.st; stands = closed_stands s p.st p.stands; run = p.run }
  ends_closed exit stack on r (answer.Value Exited s) p =
      record { st = p.st; stands = closed_stands s p.st p.stands; run = p.run }
  ends_closed exit stack on r (answer.Value (Returned v) s) p =
      record { below = p.below; st = p.st; stands = (closed_stands s p.st p.stands.0, p.stands.1); run = p.run }
  ends_closed exit stack on r (Ended j out) p = p
  ends_closed exit stack on r (StillRunning out) p = p

  pub under_executes : (x : Coded) (step : Does) → Executes inside_it function x step
      → Executes around_it function (under w x) (λ a s. step (record a { withs = a.withs ++ l ∷ [] }) s)
  under_executes x step h = record {
    grows = λ e c. h.grows e c;
    goes = λ e c free full s st stands rest stack.
        ends_closed e stack (λ st. runs k rest st stack)
        (runs k ((under w x (inside around_it e) c).0 ++ rest) st stack) (step inside_it.around s)
        (h.goes e c (record { numbers = free.numbers; addresses = free.addresses })
        (record { numbers = full.numbers; addresses = full.addresses }) s st (opened_stands s st stands) rest
        stack);
  }
