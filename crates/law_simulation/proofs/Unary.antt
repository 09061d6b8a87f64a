-- Signs and standard functions.
use Rattle.std.proofs.Common.{◌≡◌, ℕ, zero, suc, ◌+◌, ◌-◌, ◌%◌, ◌^◌, ◌<◌, ℤ, pos, negsuc, ◌-ℤ◌, ◌≤ℤ◌, ◌<ℤ◌, ◌⊎◌, Bool, true, false, not, List, [], ◌∷◌, ◌++◌, length, Option, Some, None, if◌then◌else◌, refl, sym, ap, subst, ◌∙◌, arith}
use Rattle.std.specs.Prelude.{◌&&◌, ◌==◌, int_lt, nat_le, unsigned_abs, bit_and, slice_set}
use Rattle.std.proofs.lemmas.Int.{ints}
use Rattle.std.proofs.lemmas.Nat.{and_mask}
use Rattle.std.proofs.lemmas.Bool.{le-leb, lt-leb, eqb-true, false≢true}
use Rattle.wasm_tree.specs.declared.instr.Instr.{Instr}
use Rattle.wasm_tree.specs.declared.instr.Instr.TheVariants as instr
use Rattle.wasm_tree.specs.declared.instr.Operation.TheVariants.{And, Sub}
use Rattle.wasm_tree.specs.declared.instr.Relation.TheVariants.{LtS, LeU}
use Rattle.wasm_tree.specs.declared.store.Value.{Value}
use Rattle.wasm_tree.specs.declared.store.Value.TheVariants.{I32, I64}
use Rattle.wasm_tree.specs.Numbers.{truth}
use Rattle.law_effect.specs.Effect.{State as Target, Effect, then_run, out_of}
use Rattle.law_effect.proofs.Steps.{i64_runs}
use Rattle.typed_tree.specs.declared.types.Home.{Home}
use Rattle.typed_tree.specs.declared.types.Home.TheVariants.{Predeclared, Module}
use Rattle.typed_tree.specs.declared.types.TypeNo.{TypeNo}
use Rattle.typed_tree.specs.declared.shape.Scalar.{Scalar as Range}
use Rattle.typed_tree.specs.declared.known_types.Types.{Types}
use Rattle.typed_tree.specs.Types.{are_same, is_one_home, integer, cardinal, boolean, char}
use Rattle.typed_tree.specs.Known.{scalar_at, scalar_from}
use Rattle.def_meaning.specs.Answer.{State as Source, Answer, Ended, StillRunning, ◌▷◌, range_fault, overflow}
use Rattle.def_meaning.specs.Answer as answer
use Rattle.def_meaning.specs.Operators as of
use Rattle.def_meaning.specs.Operators.{is_between, absolute, capital, odd}
use Rattle.def_meaning.specs.Expressions.{Gives, within, within_range, ordinal}
use Rattle.def_scheme.specs.Coded.{Coded, operation, relation, check_code}
use Rattle.def_scheme.specs.Cells.{in_range, base_of}
use Rattle.def_scheme.specs.Exprs.{absolute_code, capital_code, chosen_number, ord_check}
use Rattle.law_simulation.specs.Scene.{Scene, calls, runs, HasHelpers, IsIn, IsValue, AreSmall, AreAmong, AreNatural, word, Stands, keeping, Into, GivesNumber, Agrees}
use Rattle.law_simulation.proofs.Words.{IsWide, less_is, difference_word}
use Rattle.law_simulation.proofs.Parts.{Goes}
use Rattle.law_simulation.proofs.Operators.{wide, narrow, operation_runs, between_in, range_gives}
use Rattle.law_simulation.proofs.Relations.{truth_gives, relation_runs, picks_first, picks_second}
use Rattle.law_simulation.proofs.Checks.{checked_gives}
use Rattle.law_simulation.proofs.Locals.{set_keeps, forgets, kept_runs, set_runs_here}

-- ---- numbers

-- the type that is the same as INTEGER has its range
integer_range : (types : Types) (h : Home) (n : ℕ) → (is_one_home h Predeclared && n == 0) ≡ true
    → scalar_from types h n ≡ scalar_at types integer
integer_range types Predeclared n e = ap (scalar_from types Predeclared) (eqb-true n 0 e)
integer_range types (Module m) n e = absurd (false≢true e)

pub as_integer : (types : Types) (t : TypeNo) → are_same t integer ≡ true → scalar_at types t ≡ scalar_at types integer
as_integer types t e = integer_range types t.home t.number e

letter_is : (v : ℤ) → pos 0 ≤ℤ v → v ≤ℤ pos 255
    → nat_le ((word v + (2 ^ 64 - 97)) % 2 ^ 64) 25 ≡ is_between (pos 97) v (pos 122)
letter_is v l h = by (is_between (pos 97) v (pos 122)) refl
  where
    apart : is_between (pos 97) v (pos 122) ≡ false → (v <ℤ pos 97) ⊎ (pos 122 <ℤ v)
    apart e = grind (arith, e)

    by : (b : Bool) → is_between (pos 97) v (pos 122) ≡ b → nat_le ((word v + (2 ^ 64 - 97)) % 2 ^ 64) 25 ≡ b
    by true e = let p = between_in (pos 97) (pos 122) v e in let a = p.0 in let b = p.1 in
        le-leb ((word v + (2 ^ 64 - 97)) % 2 ^ 64) 25 (omega (arith, ints))
    by false e = lt-leb ((word v + (2 ^ 64 - 97)) % 2 ^ 64) 25 (let p = apart e in omega (arith, ints, p, l, h))

odd_is : (v : ℤ) → IsWide v → bit_and (word v) 1 ≡ truth (odd v)
odd_is v h = and_mask (word v) 1 ∙ same v h ∙ bit (unsigned_abs v % 2) (omega arith)
  where
    same : (v : ℤ) → IsWide v → word v % 2 ≡ unsigned_abs v % 2
    same (pos n) h = let l = h.low in let t = h.high in omega (arith, ints)
    same (negsuc n) h = let l = h.low in let t = h.high in omega (arith, ints)

    bit : (n : ℕ) → n < 2 → n ≡ truth (n == 1)
    bit zero l = refl
    bit (suc zero) l = refl
    bit (suc (suc n)) l = absurd (omega (arith, l))

absolute_not : (v : ℤ) → pos 0 ≤ℤ v → absolute v ≡ v
absolute_not v l = omega (arith, ints)

absolute_less : (v : ℤ) → v <ℤ pos 0 → absolute v ≡ pos 0 -ℤ v
absolute_less v l = omega (arith, ints)

not_less : (v w : ℤ) → int_lt v w ≡ false → w ≤ℤ v
not_less v w e = grind (arith, e)

is_less : (v w : ℤ) → int_lt v w ≡ true → v <ℤ w
is_less v w e = grind (arith, e)

module _ (k : Scene) (has : HasHelpers k) (small : AreSmall k.setting.home.types) where
  abbrev types : Types
  types = k.setting.home.types

  -- a value of one type as one of another
  pub among_agrees : (t u : TypeNo) (code : Coded) (value : Gives ℤ) → Agrees k t code value → AreAmong types t u
      → Agrees k u code value
  among_agrees t u code value h among = record {
    grows = h.grows;
    gives = λ e c free full s st stands rest stack. as_other rest stack _ (value k.around s)
        (h.gives e c free full s st stands rest stack);
  }
    where
      as_other : (rest : List Instr) (stack : List Value) (r : Effect) (a : Answer ℤ)
          → Into (GivesNumber k t (runs k rest) stack) r a → Into (GivesNumber k u (runs k rest) stack) r a
      as_other rest stack r (answer.Value v s) p =
          record { st = p.st; stands = p.stands; is = among v p.is; run = p.run }
      as_other rest stack r (Ended j out) p = p
      as_other rest stack r (StillRunning out) p = p

  pub odd_goes : (t : TypeNo) → Goes k t boolean (instr.I64Const 1 ∷ operation And ∷ [])
      (λ v s. answer.Value (of.truth (odd v)) s)
  odd_goes t v is s st h rest stack =
      truth_gives k has small (odd v) s st h rest stack _
      (i64_runs k.modules k.fixed k.turns (calls k) k.own (operation And ∷ rest) st 1 (stack ++ I64 (word v) ∷ [])
      ∙ operation_runs k has small And (word v) 1 (truth (odd v)) rest st stack
      (ap Some (odd_is v (wide v (narrow k has small t v is)))))

  pub chr_goes : (t : TypeNo) → Goes k t char (check_code (pos 0) (pos 255) 1)
      (λ v s. within (pos 0) (pos 255) range_fault v s)
  chr_goes t v is s st h rest stack =
      checked_gives k has char (pos 0) (pos 255) v 1 (record { low = omega (arith, ints); high = omega (arith, ints) })
      (record { low = omega (arith, ints); high = omega (arith, ints) })
      (wide v (narrow k has small t v is)) (omega arith) (omega arith) (λ e. between_in (pos 0) (pos 255) v e) s st h
      rest stack

  pub val_goes : (t u : TypeNo) → (scalar_at types u ≡ None → ⊥)
      → Goes k t u (in_range (scalar_at types u) 1) (λ v s. within_range (scalar_at types u) range_fault v s)
  val_goes t u some v is s st h rest stack =
      range_gives k has small u (scalar_at types u) refl 1 (omega arith) (omega arith) v
      (wide v (narrow k has small t v is)) (λ e. absurd (some e)) s st h rest stack

  -- ---- ORD

  ordinal_given : (t : TypeNo) (v : ℤ) → IsValue types t v → pos 0 ≤ℤ v → (s : Source) (st : Target) → Stands k s st
      → (rest : List Instr) (stack : List Value)
      → Into (GivesNumber k cardinal (runs k rest) stack) (runs k rest st (stack ++ I64 (word v) ∷ [])) (ordinal v s)
  ordinal_given t v is some s st h rest stack =
      let n = narrow k has small t v is in
      let not_below : int_lt v (pos 0) ≡ false = grind (arith, some) in
      subst (λ (b : Bool). Into (GivesNumber k cardinal (runs k rest) stack)
      (runs k rest st (stack ++ I64 (word v) ∷ [])) (if b then Ended range_fault s.out else answer.Value v s))
      (sym not_below)
      (record { st = st; stands = h; is = (some, n.high); run = refl })

  pub ord_goes : (t : TypeNo) → AreAmong types t (base_of types t)
      → (are_same (base_of types t) integer ≡ false → AreNatural types t)
      → Goes k t cardinal (ord_check types t) (λ v s. ordinal v s)
  ord_goes t among natural v is s st h rest stack = by (are_same (base_of types t) integer) refl
    where
      by : (b : Bool) → are_same (base_of types t) integer ≡ b
          → Into (GivesNumber k cardinal (runs k rest) stack)
          (runs k ((if b then check_code (pos 0) (pos 2147483647) 1 else []) ++ rest) st
          (stack ++ I64 (word v) ∷ [])) (ordinal v s)
      by true e =
          let based : IsIn (scalar_at types integer) v =
          subst (λ (o : Option Range). IsIn o v) (as_integer types (base_of types t) e) (among v is) in
          let high = based.1 in
          let same : within (pos 0) (pos 2147483647) range_fault v s ≡ ordinal v s =
          (let b : is_between (pos 0) v (pos 2147483647) ≡ not (int_lt v (pos 0)) = grind (arith, high) in
          ap (λ (b : Bool). if b then answer.Value v s else Ended range_fault s.out) b ∙ either (int_lt v (pos 0)))
          in
          subst (λ (a : Answer ℤ). Into (GivesNumber k cardinal (runs k rest) stack)
          (runs k (check_code (pos 0) (pos 2147483647) 1 ++ rest) st (stack ++ I64 (word v) ∷ [])) a) same
          (checked_gives k has cardinal (pos 0) (pos 2147483647) v 1
          (record { low = omega (arith, ints); high = omega (arith, ints) })
          (record { low = omega (arith, ints); high = omega (arith, ints) })
          (wide v (narrow k has small t v is)) (omega arith) (omega arith)
          (λ e. let p = between_in (pos 0) (pos 2147483647) v e in let a = p.0 in let b = p.1 in
          (a, omega (arith, ints))) s st h rest stack)
        where
          either : (b : Bool) → (if not b then answer.Value v s else Ended range_fault s.out)
              ≡ (if b then Ended range_fault s.out else answer.Value v s)
          either true = refl
          either false = refl
      by false e = ordinal_given t v is (natural e v is) s st h rest stack

  -- ---- CAP and ABS: the value is kept in a local

  module _ (n : ℕ) (less : n < k.locals) (new : k.kept n ≡ None) (t : TypeNo) (v : ℤ) (is : IsValue types t v)
      (s : Source) (st : Target) (h : Stands k s st) (stack : List Value) where
    abbrev value : Value
    value = I64 (word v)

    abbrev set : Target
    set = record st { locals = slice_set st.locals n value }

    kept : Stands (keeping k n value) s set
    kept = set_keeps k n value new less s st h

    stands : Stands k s set
    stands = forgets k n value new s set kept

    begins : (code : List Instr) → runs k (instr.LocalSet n ∷ instr.LocalGet n ∷ code) st (stack ++ value ∷ [])
        ≡ runs k code set (stack ++ value ∷ [])
    begins code = set_runs_here k n value (instr.LocalGet n ∷ code) s st stack less h
        ∙ kept_runs k n value code s set stack kept

    wide_v : IsWide v
    wide_v = wide v (narrow k has small t v is)

    -- a side of an if that leaves a number
    first_left : (first second rest : List Instr) (m w : ℕ) → (m == 0) ≡ false
        → runs k first set stack ≡ runs k [] set (stack ++ I64 w ∷ [])
        → runs k (chosen_number first second ∷ rest) set (stack ++ I32 m ∷ []) ≡ runs k rest set (stack ++ I64 w ∷ [])
    first_left first second rest m w e p = picks_first k has small first second rest set stack m e
        ∙ ap (λ (r : Effect). then_run (out_of 1 (length stack) r) (runs k rest)) p

    second_left : (first second rest : List Instr) (m w : ℕ) → (m == 0) ≡ true
        → runs k second set stack ≡ runs k [] set (stack ++ I64 w ∷ [])
        → runs k (chosen_number first second ∷ rest) set (stack ++ I32 m ∷ []) ≡ runs k rest set (stack ++ I64 w ∷ [])
    second_left first second rest m w e p = picks_second k has small first second rest set stack m e
        ∙ ap (λ (r : Effect). then_run (out_of 1 (length stack) r) (runs k rest)) p

    abbrev same : List Instr
    same = instr.LocalGet n ∷ []

    same_left : runs k same set stack ≡ runs k [] set (stack ++ value ∷ [])
    same_left = kept_runs k n value [] s set stack kept

    abbrev lowered : ℕ
    lowered = (word v + (2 ^ 64 - 97)) % 2 ^ 64

    abbrev raised : List Instr
    raised = instr.LocalGet n ∷ instr.I64Const 32 ∷ operation Sub ∷ []

    cap_tests : (rest : List Instr) → runs k (capital_code n ++ rest) st (stack ++ value ∷ [])
        ≡ runs k (chosen_number raised same ∷ rest) set (stack ++ I32 (truth (nat_le lowered 25)) ∷ [])
    cap_tests rest =
        let r1 : List Instr = relation LeU ∷ chosen_number raised same ∷ rest in
        let r2 : List Instr = instr.I64Const 25 ∷ r1 in
        begins (instr.I64Const 97 ∷ operation Sub ∷ r2)
        ∙ i64_runs k.modules k.fixed k.turns (calls k) k.own (operation Sub ∷ r2) set 97 (stack ++ value ∷ [])
        ∙ operation_runs k has small Sub (word v) 97 lowered r2 set stack refl
        ∙ i64_runs k.modules k.fixed k.turns (calls k) k.own r1 set 25 (stack ++ I64 lowered ∷ [])
        ∙ relation_runs k has small LeU lowered 25 (chosen_number raised same ∷ rest) set stack

    cap_gives : pos 0 ≤ℤ v → v ≤ℤ pos 255 → (rest : List Instr)
        → GivesNumber k char (runs k rest) stack (capital v) s
        (runs k (capital_code n ++ rest) st (stack ++ value ∷ []))
    cap_gives low high rest = by (is_between (pos 97) v (pos 122)) refl
      where
        by : (b : Bool) → is_between (pos 97) v (pos 122) ≡ b
            → GivesNumber k char (runs k rest) stack (if b then v -ℤ pos 32 else v) s
            (runs k (capital_code n ++ rest) st (stack ++ value ∷ []))
        by true e =
            let p = between_in (pos 97) (pos 122) v e in let a = p.0 in let b = p.1 in
            let small_v : IsWide (v -ℤ pos 32) = record { low = omega (arith, ints); high = omega (arith, ints) } in
            record {
              st = set;
              stands = stands;
              is = (omega (arith, ints), omega (arith, ints));
              run =
                  cap_tests rest
                  ∙ ap (λ (b : Bool). runs k (chosen_number raised same ∷ rest) set (stack ++ I32 (truth b) ∷ []))
                  (letter_is v low high ∙ e)
                  ∙ first_left raised same rest 1 (word (v -ℤ pos 32)) refl
                  (kept_runs k n value (instr.I64Const 32 ∷ operation Sub ∷ []) s set stack kept
                  ∙ i64_runs k.modules k.fixed k.turns (calls k) k.own (operation Sub ∷ []) set 32 (stack ++ value ∷ [])
                  ∙ operation_runs k has small Sub (word v) 32 (word (v -ℤ pos 32)) [] set stack
                  (ap Some (difference_word v (pos 32) wide_v
                  (record { low = omega (arith, ints); high = omega (arith, ints) }) small_v)));
            }
        by false e = record {
          st = set;
          stands = stands;
          is = (low, high);
          run =
              cap_tests rest
              ∙ ap (λ (b : Bool). runs k (chosen_number raised same ∷ rest) set (stack ++ I32 (truth b) ∷ []))
              (letter_is v low high ∙ e)
              ∙ second_left raised same rest 0 (word v) refl same_left;
        }

    abbrev opposite : List Instr
    opposite = instr.I64Const 0 ∷ instr.LocalGet n ∷ operation Sub ∷ []

    abs_runs : (rest : List Instr) → runs k (absolute_code n ++ rest) st (stack ++ value ∷ [])
        ≡ runs k (check_code (pos 0) (pos 2147483647) 2 ++ rest) set (stack ++ I64 (word (absolute v)) ∷ [])
    abs_runs rest =
        let check : List Instr = check_code (pos 0) (pos 2147483647) 2 ++ rest in
        begins (instr.I64Const 0 ∷ relation LtS ∷ chosen_number opposite same ∷ check)
        ∙ i64_runs k.modules k.fixed k.turns (calls k) k.own (relation LtS ∷ chosen_number opposite same ∷ check) set 0
        (stack ++ value ∷ [])
        ∙ relation_runs k has small LtS (word v) 0 (chosen_number opposite same ∷ check) set stack
        ∙ ap (λ (b : Bool). runs k (chosen_number opposite same ∷ check) set (stack ++ I32 (truth b) ∷ []))
        (less_is v (pos 0) wide_v zero_wide)
        ∙ by check (int_lt v (pos 0)) refl
      where
        zero_wide : IsWide (pos 0)
        zero_wide = record { low = omega (arith, ints); high = omega (arith, ints) }

        by : (check : List Instr) (b : Bool) → int_lt v (pos 0) ≡ b
            → runs k (chosen_number opposite same ∷ check) set (stack ++ I32 (truth b) ∷ [])
            ≡ runs k check set (stack ++ I64 (word (absolute v)) ∷ [])
        by check true e =
            let a = (narrow k has small t v is).low in
            let below = is_less v (pos 0) e in
            let w : IsWide (pos 0 -ℤ v) = record {
              low = omega (arith, ints, a, below);
              high =
                  omega (arith, ints, a, below);
            } in
            first_left opposite same check 1 (word (absolute v)) refl
            (i64_runs k.modules k.fixed k.turns (calls k) k.own (instr.LocalGet n ∷ operation Sub ∷ []) set 0 stack
            ∙ kept_runs k n value (operation Sub ∷ []) s set (stack ++ I64 0 ∷ []) kept
            ∙ operation_runs k has small Sub 0 (word v) (word (absolute v)) [] set stack
            (ap Some (difference_word (pos 0) v zero_wide wide_v w ∙ ap word (sym (absolute_less v below)))))
        by check false e = second_left opposite same check 0 (word (absolute v)) refl
            (same_left ∙ ap (λ (z : ℤ). runs k [] set (stack ++ I64 (word z) ∷ []))
            (sym (absolute_not v (not_less v (pos 0) e))))

  pub capital_goes : (n : ℕ) → n < k.locals → k.kept n ≡ None
      → Goes k char char (capital_code n) (λ v s. answer.Value (capital v) s)
  capital_goes n less new v is s st h rest stack = cap_gives n less new char v is s st h stack is.0 is.1 rest

  pub absolute_goes : (t : TypeNo) → are_same t integer ≡ true → (n : ℕ) → n < k.locals → k.kept n ≡ None
      → Goes k t t (absolute_code n) (λ v s. within_range (scalar_at types t) overflow (absolute v) s)
  absolute_goes t e n less new v is s st h rest stack =
      let set : Target = record st { locals = slice_set st.locals n (I64 (word v)) } in
      let stands : Stands k s set = forgets k n (I64 (word v)) new s set (set_keeps k n (I64 (word v)) new less s st h)
      in
      let nv = narrow k has small t v is in let low = nv.low in let high = nv.high in
      let wide_absolute : IsWide (absolute v) = record { low = omega (arith, ints); high = absolute_high v low high } in
      subst (λ (o : Option Range). Into (GivesNumber k t (runs k rest) stack)
      (runs k (absolute_code n ++ rest) st (stack ++ I64 (word v) ∷ [])) (within_range o overflow (absolute v) s))
      (sym (as_integer types t e))
      (subst (λ (b : Bool). Into (GivesNumber k t (runs k rest) stack)
      (runs k (absolute_code n ++ rest) st (stack ++ I64 (word v) ∷ []))
      (if b then answer.Value (absolute v) s else Ended overflow s.out)) (from_nought (unsigned_abs v))
      (subst (λ (r : Effect). Into (GivesNumber k t (runs k rest) stack) r
      (within (pos 0) (pos 2147483647) overflow (absolute v) s))
      (sym (abs_runs n less new t v is s st h stack rest))
      (checked_gives k has t (pos 0) (pos 2147483647) (absolute v) 2
      (record { low = omega (arith, ints); high = omega (arith, ints) })
      (record { low = omega (arith, ints); high = omega (arith, ints) }) wide_absolute (omega arith) (omega arith)
      (λ b. let p = between_in (pos 0) (pos 2147483647) (absolute v) b in let l = p.0 in let h = p.1 in
      subst (λ (o : Option Range). IsIn o (absolute v)) (sym (as_integer types t e))
      (omega (arith, ints), omega (arith, ints))) s set stands rest stack)))
    where
      from_nought : (n : ℕ) → is_between (pos 0) (pos n) (pos 2147483647)
          ≡ is_between (negsuc 2147483647) (pos n) (pos 2147483647)
      from_nought n = grind arith

      absolute_high : (v : ℤ) → negsuc 2147483647 ≤ℤ v → v ≤ℤ pos 4294967295 → absolute v ≤ℤ pos 9223372036854775807
      absolute_high (pos n) l h = omega (arith, ints)
      absolute_high (negsuc n) l h = omega (arith, ints)

  -- a value that is not negative stays
  natural_stays : (t : TypeNo) → AreNatural types t → (o : Option Range) → scalar_at types t ≡ o → (v : ℤ)
      → IsValue types t v → (s : Source) → within_range o overflow (absolute v) s ≡ answer.Value v s
  natural_stays t natural None e v is s = ap (λ (z : ℤ). answer.Value z s) (absolute_not v (natural v is))
  natural_stays t natural (Some r) e v is s =
      let at : IsIn (Some r) v = subst (λ (o : Option Range). IsIn o v) e is in let low = at.0 in let high = at.1 in
      let b : is_between r.low v r.high ≡ true = grind (arith, low, high) in
      ap (λ (z : ℤ). within r.low r.high overflow z s) (absolute_not v (natural v is))
      ∙ ap (λ (b : Bool). if b then answer.Value v s else Ended overflow s.out) b

  pub stays_agrees : (t : TypeNo) → AreNatural types t → (code : Coded) (value : Gives ℤ) → Agrees k t code value
      → Agrees k t code (λ a s. value a s ▷ λ v s. within_range (scalar_at types t) overflow (absolute v) s)
  stays_agrees t natural code value hx = record {
    grows = hx.grows;
    gives = λ e c free full s st stands rest stack. stays rest stack _ (value k.around s)
        (hx.gives e c free full s st stands rest stack);
  }
    where
      stays : (rest : List Instr) (stack : List Value) (r : Effect) (a : Answer ℤ)
          → Into (GivesNumber k t (runs k rest) stack) r a
          → Into (GivesNumber k t (runs k rest) stack) r
          (a ▷ λ v s. within_range (scalar_at types t) overflow (absolute v) s)
      stays rest stack r (answer.Value v s) p =
          subst (λ (a : Answer ℤ). Into (GivesNumber k t (runs k rest) stack) r a)
          (sym (natural_stays t natural (scalar_at types t) refl v p.is s)) p
      stays rest stack r (Ended j out) p = p
      stays rest stack r (StillRunning out) p = p
