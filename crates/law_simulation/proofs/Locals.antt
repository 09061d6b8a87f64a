-- Locals in which numbers and addresses are kept.
use Rattle.std.proofs.Common.{◌≡◌, ℕ, zero, suc, ◌<◌, ℤ, Bool, List, [], ◌∷◌, ◌++◌, length, Option, Some, None, if◌then◌else◌, refl, sym, ap, subst, ◌∙◌, append_assoc, ⊎_elim, arith}
use Rattle.std.specs.Prelude.{slice_get, slice_set}
use Rattle.std.proofs.lemmas.Bool.{cases_eq, eq-eqb, ne_eqb}
use Rattle.wasm_tree.specs.declared.instr.Instr.{Instr}
use Rattle.wasm_tree.specs.declared.instr.Instr.TheVariants as instr
use Rattle.wasm_tree.specs.declared.store.Value.{Value}
use Rattle.wasm_tree.specs.declared.store.Value.TheVariants.{I64}
use Rattle.law_effect.specs.Effect.{State as Target, Effect}
use Rattle.law_effect.proofs.Steps.{get_runs, set_runs}
use Rattle.typed_tree.specs.declared.types.TypeNo.{TypeNo}
use Rattle.def_meaning.specs.Answer.{State as Source, Answer, ◌▷◌}
use Rattle.def_meaning.specs.Expressions.{Gives}
use Rattle.def_scheme.specs.Coded.{Coded, Counts, plain, ◌⨾◌, with_number, number_local, address_local}
use Rattle.law_simulation.specs.Scene.{Scene, calls, runs, HasHelpers, IsValue, word, Stands, keeping, Into, GivesNumber, Grows, IsFree, HasLocals, inside, Agrees, AgreesBeside, GoesOn}
use Rattle.law_simulation.proofs.Parts.{Goes, into_then}

pub get_set : {A : Type 0} (xs : List A) (i : ℕ) (v : A) → i < length xs → slice_get (slice_set xs i v) i ≡ Some v
get_set [] i v h = absurd (omega (arith, h))
get_set (x ∷ xs) zero v h = refl
get_set (x ∷ xs) (suc i) v h = get_set xs i v (omega (arith, h))

pub get_other : {A : Type 0} (xs : List A) (i j : ℕ) (v : A) → (i ≡ j → ⊥)
    → slice_get (slice_set xs i v) j ≡ slice_get xs j
get_other [] i j v ne = refl
get_other (x ∷ xs) zero zero v ne = absurd (ne refl)
get_other (x ∷ xs) zero (suc j) v ne = refl
get_other (x ∷ xs) (suc i) zero v ne = refl
get_other (x ∷ xs) (suc i) (suc j) v ne = get_other xs i j v (λ e. ne (ap suc e))

pub length_set : {A : Type 0} (xs : List A) (i : ℕ) (v : A) → length (slice_set xs i v) ≡ length xs
length_set [] i v = refl
length_set (x ∷ xs) zero v = refl
length_set (x ∷ xs) (suc i) v = ap suc (length_set xs i v)

module _ (k : Scene) (n : ℕ) (v : Value) where
  abbrev pub if_kept : Bool → Option Value → Option Value
  if_kept b o = if b then Some v else o

  -- what is set is kept
  pub set_keeps : k.kept n ≡ None → n < k.locals → (s : Source) (st : Target) → Stands k s st
      → Stands (keeping k n v) s (record st { locals = slice_set st.locals n v })
  set_keeps new within s st h = record {
    holds = h.holds;
    long = h.long;
    count = length_set st.locals n v ∙ h.count;
    out = h.out;
    kept = λ w x e. ⊎_elim
        (λ (same : w ≡ n).
        let is : Some x ≡ Some v = sym e ∙ ap (λ (b : Bool). if_kept b (k.kept w)) (eq-eqb w n same) in
        ap (slice_get (slice_set st.locals n v)) same ∙ get_set st.locals n v (omega (arith, within, h.count)) ∙ sym is)
        (λ (other : w ≡ n → ⊥).
        let old : k.kept w ≡ Some x = sym (ap (λ (b : Bool). if_kept b (k.kept w)) (ne_eqb w n other)) ∙ e in
        get_other st.locals n w v (λ same. other (sym same)) ∙ h.kept w x old)
        (cases_eq w n);
  }

  -- and may be forgotten
  pub forgets : k.kept n ≡ None → (s : Source) (st : Target) → Stands (keeping k n v) s st → Stands k s st
  forgets new s st h = record {
    holds = h.holds;
    long = h.long;
    count = h.count;
    out = h.out;
    kept = λ w x e. ⊎_elim
        (λ (same : w ≡ n). absurd (none_some (sym new ∙ ap k.kept (sym same) ∙ e)))
        (λ (other : w ≡ n → ⊥). h.kept w x (ap (λ (b : Bool). if_kept b (k.kept w)) (ne_eqb w n other) ∙ e))
        (cases_eq w n);
  }
    where
      none_some : {x : Value} → None ≡ Some x → ⊥
      none_some e = cc e

  pub kept_there : (s : Source) (st : Target) → Stands (keeping k n v) s st → slice_get st.locals n ≡ Some v
  kept_there s st h = h.kept n v (ap (λ (b : Bool). if_kept b (k.kept n)) (eq-eqb n n refl))

  pub kept_runs : (rest : List Instr) (s : Source) (st : Target) (stack : List Value) → Stands (keeping k n v) s st
      → runs k (instr.LocalGet n ∷ rest) st stack ≡ runs k rest st (stack ++ v ∷ [])
  kept_runs rest s st stack h = get_runs k.modules k.fixed k.turns (calls k) k.own rest st n v stack (kept_there s st h)

  pub set_runs_here : (rest : List Instr) (s : Source) (st : Target) (stack : List Value) → n < k.locals → Stands k s st
      → runs k (instr.LocalSet n ∷ rest) st (stack ++ v ∷ [])
      ≡ runs k rest (record st { locals = slice_set st.locals n v }) stack
  set_runs_here rest s st stack within h =
      set_runs k.modules k.fixed k.turns (calls k) k.own rest st n v stack (omega (arith, within, h.count))

-- code that asks for a local for a number
module _ (k : Scene) where
  pub number_goes : (t u : TypeNo) (list : ℕ → List Instr) (value : ℤ → Gives ℤ)
      → ((n : ℕ) → n < k.locals → k.kept n ≡ None → Goes k t u (list n) (λ v s. value v k.around s))
      → GoesOn k t u (with_number (λ n. plain (list n))) value
  number_goes t u list value go = record {
    grows = λ e c. record { numbers = omega arith; addresses = omega arith };
    gives = λ e c free full v is s st h rest stack.
        let n : ℕ = number_local k.setting c.numbers in
        let within : n < k.locals = omega (arith, full.numbers) in
        go n within (free.numbers n (omega arith)) v is s st h rest stack;
  }

  -- what a number is kept beside stays free
  pub free_beside : (n : ℕ) (v : Value) (c : Counts) → n ≡ number_local k.setting c.numbers → IsFree k c
      → IsFree (keeping k n v) (record c { numbers = suc c.numbers })
  free_beside n v c at free = record {
    numbers = λ w l. ap (λ (b : Bool). if_kept k n v b (k.kept w)) (ne_eqb w n (λ same. omega (arith, l, at, same)))
        ∙ free.numbers w (omega (arith, l));
    addresses = λ w l m. ap (λ (b : Bool). if_kept k n v b (k.kept w))
        (ne_eqb w n (λ same. omega (arith, l, m, at, same))) ∙ free.addresses w l m;
  }

  -- and what an address is kept beside
  pub address_beside : (n : ℕ) (v : Value) (c : Counts) → n ≡ address_local k.setting c.addresses
      → c.addresses < k.setting.addresses → IsFree k c
      → IsFree (keeping k n v) (record c { addresses = suc c.addresses })
  address_beside n v c at less free = record {
    numbers = λ w l. ap (λ (b : Bool). if_kept k n v b (k.kept w))
        (ne_eqb w n (λ same. omega (arith, l, at, less, same))) ∙ free.numbers w l;
    addresses = λ w l m. ap (λ (b : Bool). if_kept k n v b (k.kept w))
        (ne_eqb w n (λ same. omega (arith, l, m, at, same))) ∙ free.addresses w (omega (arith, l)) m;
  }

  pub has_beside : (n : ℕ) (v : Value) (c : Counts) → HasLocals k c → HasLocals (keeping k n v) c
  has_beside n v c h = record { numbers = h.numbers; addresses = h.addresses }

  pub helpers_beside : (n : ℕ) (v : Value) → HasHelpers k → HasHelpers (keeping k n v)
  helpers_beside n v has = record {
    memory = has.memory;
    put = has.put;
    stop = has.stop;
    check = has.check;
    check_index = has.check_index;
    check_there = has.check_there;
    quotient = has.quotient;
    quotient_index = has.quotient_index;
    quotient_there = has.quotient_there;
    remainder = has.remainder;
    remainder_index = has.remainder_index;
    remainder_there = has.remainder_there;
    copy = has.copy;
    copy_index = has.copy_index;
    copy_there = has.copy_there;
    fill = has.fill;
    fill_index = has.fill_index;
    fill_there = has.fill_there;
    levels = has.levels;
    serves = has.serves;
    many = has.many;
  }

  -- a number is kept while the code of an operand runs
  module _ (u w : TypeNo) (y : Coded) (list : ℕ → List Instr) (second : Gives ℤ) (f : ℤ → Source → Answer ℤ) (x : ℤ)
      (hy : Agrees k u y second) (beside : AgreesBeside k u y second) where
    abbrev kept_code : Coded
    kept_code = with_number (λ n. plain (instr.LocalSet n ∷ []) ⨾ y ⨾ plain (list n))

    pub kept_grows : (e : ℕ) (c : Counts) → Grows c (kept_code (inside k e) c).1
    kept_grows e c = let g = hy.grows e (record c { numbers = suc c.numbers }) in
        record { numbers = omega (arith, g.numbers); addresses = omega (arith, g.addresses) }

    pub kept_gives : ((n : ℕ) → k.kept n ≡ None → (y : ℤ) → IsValue k.setting.home.types u y
        → (s : Source) (st : Target) → Stands (keeping k n (I64 (word x))) s st
        → (rest : List Instr) (stack : List Value)
        → Into (GivesNumber k w (runs k rest) stack) (runs k (list n ++ rest) st (stack ++ I64 (word y) ∷ [])) (f y s))
        → (e : ℕ) (c : Counts) → IsFree k c → HasLocals k (kept_code (inside k e) c).1 → (s : Source) (st : Target)
        → Stands k s st → (rest : List Instr) (stack : List Value)
        → Into (GivesNumber k w (runs k rest) stack)
        (runs k ((kept_code (inside k e) c).0 ++ rest) st (stack ++ I64 (word x) ∷ [])) (second k.around s ▷ f)
    kept_gives after e c free full s st h rest stack =
        let n : ℕ = number_local k.setting c.numbers in
        let more_numbers : Counts = record c { numbers = suc c.numbers } in
        let v : Value = I64 (word x) in
        let code : List Instr = (y (inside k e) more_numbers).0 in
        let g = hy.grows e more_numbers in
        let less : n < k.locals = omega (arith, g.numbers, full.numbers) in
        let new : k.kept n ≡ None = free.numbers n (omega arith) in
        let set : Target = record st { locals = slice_set st.locals n v } in
        let kept : Stands (keeping k n v) s set = set_keeps k n v new less s st h in
        subst (λ (c : List Instr). Into (GivesNumber k w (runs k rest) stack)
        (runs k (instr.LocalSet n ∷ c) st (stack ++ v ∷ [])) (second k.around s ▷ f))
        (sym (append_assoc code (list n) rest))
        (subst (λ (r : Effect). Into (GivesNumber k w (runs k rest) stack) r (second k.around s ▷ f))
        (sym (set_runs_here k n v (code ++ (list n ++ rest)) s st stack less h))
        (into_then (GivesNumber (keeping k n v) u (runs k (list n ++ rest)) stack) (GivesNumber k w (runs k rest) stack)
        (runs k (code ++ (list n ++ rest)) set stack) (second k.around s) f
        ((beside n v new).gives e more_numbers (free_beside n v c refl free)
        (has_beside n v (y (inside k e) more_numbers).1 full) s set kept (list n ++ rest) stack)
        (λ y s' p. subst (λ (r : Effect). Into (GivesNumber k w (runs k rest) stack) r (f y s')) (sym p.run)
        (after n new y p.is s' p.st p.stands rest stack))))
