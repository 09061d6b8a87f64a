-- Code behind code: what agrees piece by piece agrees.
use Rattle.std.proofs.Common.{◌≡◌, ℕ, ℤ, List, [], ◌∷◌, ◌++◌, sym, subst, append_assoc, arith}
use Rattle.wasm_tree.specs.declared.instr.Instr.{Instr}
use Rattle.wasm_tree.specs.declared.store.Value.{Value}
use Rattle.wasm_tree.specs.declared.store.Value.TheVariants.{I64}
use Rattle.law_effect.specs.Effect.{State as Target, Effect}
use Rattle.typed_tree.specs.declared.types.TypeNo.{TypeNo}
use Rattle.def_meaning.specs.Answer.{State as Source, Answer, Ended, StillRunning, ◌▷◌}
use Rattle.def_meaning.specs.Answer as answer
use Rattle.def_meaning.specs.Expressions.{Gives}
use Rattle.def_scheme.specs.Coded.{Coded, Counts, Setting, ◌⨾◌}
use Rattle.law_simulation.specs.Scene.{Scene, runs, IsValue, word, Stands, Into, GivesNumber, Grows, IsFree, HasLocals, inside, Agrees, GoesOn}

pub into_then : {A B : Type 0} (P : A → Source → Effect → Type 0) (Q : B → Source → Effect → Type 0) (r : Effect)
    (a : Answer A) (next : A → Source → Answer B)
    → Into P r a → ((x : A) (s : Source) → P x s r → Into Q r (next x s)) → Into Q r (a ▷ next)
into_then P Q r (answer.Value x s) next p h = h x s p
into_then P Q r (Ended j out) next p h = p
into_then P Q r (StillRunning out) next p h = p

pub grows_more : {c d e : Counts} → Grows c d → Grows d e → Grows c e
grows_more g h = record {
  numbers = omega (arith, g.numbers, h.numbers);
  addresses =
      omega (arith, g.addresses, h.addresses);
}

pub grows_same : (c : Counts) → Grows c c
grows_same c = record { numbers = omega arith; addresses = omega arith }

module _ (k : Scene) where
  pub has_before : {c d : Counts} → Grows c d → HasLocals k d → HasLocals k c
  has_before g h = record {
    numbers = omega (arith, g.numbers, h.numbers);
    addresses =
        omega (arith, g.addresses, h.addresses);
  }

  pub free_after : {c d : Counts} → Grows c d → IsFree k c → IsFree k d
  free_after g h = record {
    numbers = λ w l. h.numbers w (omega (arith, g.numbers, l));
    addresses = λ w l m. h.addresses w (omega (arith, g.addresses, l)) m;
  }

  abbrev Numbers : (u : TypeNo) (rest : List Instr) (stack : List Value) → ℤ → Source → Effect → Type 0
  Numbers u rest stack = GivesNumber k u (runs k rest) stack

  -- what goes on from a value, behind code that leaves it
  abbrev Onward : (u : TypeNo) → Setting → Counts → Coded → (rest : List Instr) (stack : List Value)
      → (ℤ → Source → Answer ℤ) → Type 0
  Onward u setting c y rest stack next = (v : ℤ) (s : Source) (st : Target) → Stands k s st
      → Into (Numbers u rest stack) (runs k ((y setting c).0 ++ rest) st (stack ++ I64 (word v) ∷ [])) (next v s)

  module _ (t u : TypeNo) (first second rest : List Instr) (stack : List Value) (a : Answer ℤ)
      (next : ℤ → Source → Answer ℤ) where
    -- both pieces of code
    pub both : (from : Target) (below : List Value)
        → Into (Numbers t (second ++ rest) stack) (runs k (first ++ (second ++ rest)) from below) a
        → ((v : ℤ) → IsValue k.setting.home.types t v → (s : Source) (st : Target) → Stands k s st
        → Into (Numbers u rest stack) (runs k (second ++ rest) st (stack ++ I64 (word v) ∷ [])) (next v s))
        → Into (Numbers u rest stack) (runs k ((first ++ second) ++ rest) from below) (a ▷ next)
    both from below h go =
        subst (λ (code : List Instr). Into (Numbers u rest stack) (runs k code from below) (a ▷ next))
        (sym (append_assoc first second rest))
        (into_then (Numbers t (second ++ rest) stack) (Numbers u rest stack)
        (runs k (first ++ (second ++ rest)) from below) a next h
        (λ v s p. subst (λ (r : Effect). Into (Numbers u rest stack) r (next v s)) (sym p.run)
        (go v p.is s p.st p.stands)))

  pub then_agrees : (t u : TypeNo) (x y : Coded) (value : Gives ℤ) (next : ℤ → Gives ℤ) → Agrees k t x value
      → GoesOn k t u y next → Agrees k u (x ⨾ y) (λ a s. value a s ▷ λ v s. next v a s)
  then_agrees t u x y value next hx hy = record {
    grows = λ e c. grows_more (hx.grows e c) (hy.grows e (x (inside k e) c).1);
    gives = λ e c free has s st h rest stack.
        let first = x (inside k e) c in
        let second = y (inside k e) first.1 in
        both t u first.0 second.0 rest stack (value k.around s) (λ v s. next v k.around s) st stack
        (hx.gives e c free (has_before (hy.grows e first.1) has) s st h (second.0 ++ rest) stack)
        (λ v is s' st' h'. hy.gives e first.1 (free_after (hx.grows e c) free) has v is s' st' h' rest stack);
  }

  pub then_goes : (t u w : TypeNo) (x y : Coded) (value next : ℤ → Gives ℤ) → GoesOn k t u x value → GoesOn k u w y next
      → GoesOn k t w (x ⨾ y) (λ v a s. value v a s ▷ λ v s. next v a s)
  then_goes t u w x y value next hx hy = record {
    grows = λ e c. grows_more (hx.grows e c) (hy.grows e (x (inside k e) c).1);
    gives = λ e c free has v is s st h rest stack.
        let first = x (inside k e) c in
        let second = y (inside k e) first.1 in
        both u w first.0 second.0 rest stack (value v k.around s) (λ v s. next v k.around s) st
        (stack ++ I64 (word v) ∷ [])
        (hx.gives e c free (has_before (hy.grows e first.1) has) v is s st h (second.0 ++ rest) stack)
        (λ v is s' st' h'. hy.gives e first.1 (free_after (hx.grows e c) free) has v is s' st' h' rest stack);
  }

  -- code that asks for no locals
  abbrev pub IsPlain : Coded → List Instr → Type 0
  IsPlain code list = (exit : ℕ) (c : Counts) → code (inside k exit) c ≡ (list, c)

  abbrev pub Goes : (t u : TypeNo) → List Instr → (ℤ → Source → Answer ℤ) → Type 0
  Goes t u list value =
      (v : ℤ) → IsValue k.setting.home.types t v → (s : Source) (st : Target) → Stands k s st
      → (rest : List Instr) (stack : List Value)
      → Into (Numbers u rest stack) (runs k (list ++ rest) st (stack ++ I64 (word v) ∷ [])) (value v s)

  pub plain_goes : (t u : TypeNo) (code : Coded) (list : List Instr) (value : ℤ → Gives ℤ) → IsPlain code list
      → Goes t u list (λ v s. value v k.around s) → GoesOn k t u code value
  plain_goes t u code list value is go = record {
    grows = λ e c. subst (λ (p : List Instr × Counts). Grows c p.1) (sym (is e c)) (grows_same c);
    gives = λ e c free has v in_type s st h rest stack.
        subst (λ (p : List Instr × Counts). Into (Numbers u rest stack)
        (runs k (p.0 ++ rest) st (stack ++ I64 (word v) ∷ [])) (value v k.around s)) (sym (is e c))
        (go v in_type s st h rest stack);
  }

  -- the same of what needs no value first
  pub plain_agrees : (u : TypeNo) (code : Coded) (list : List Instr) (value : Gives ℤ) → IsPlain code list
      → ((s : Source) (st : Target) → Stands k s st → (rest : List Instr) (stack : List Value)
      → Into (Numbers u rest stack) (runs k (list ++ rest) st stack) (value k.around s)) → Agrees k u code value
  plain_agrees u code list value is go = record {
    grows = λ e c. subst (λ (p : List Instr × Counts). Grows c p.1) (sym (is e c)) (grows_same c);
    gives = λ e c free has s st h rest stack.
        subst (λ (p : List Instr × Counts). Into (Numbers u rest stack) (runs k (p.0 ++ rest) st stack)
        (value k.around s)) (sym (is e c)) (go s st h rest stack);
  }
