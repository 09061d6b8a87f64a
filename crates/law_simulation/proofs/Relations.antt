-- Relations and what is made of truth values.
use Rattle.std.proofs.Common.{◌≡◌, ℕ, zero, suc, ◌+◌, ◌%◌, ◌^◌, ℤ, pos, negsuc, ◌≤ℤ◌, Bool, true, false, not, List, [], ◌∷◌, ◌++◌, length, Some, if◌then◌else◌, refl, sym, ap, ap₂, subst, ◌∙◌, arith, map}
use Rattle.std.specs.Prelude.{int_le, ◌&&◌, ◌==◌}
use Rattle.std.specs.Int.{w64, cast_signed}
use Rattle.std.proofs.lemmas.Int.{ints}
use Rattle.std.proofs.lemmas.List.{append-nil}
use Rattle.std.proofs.lemmas.Bool.{eq-eqb, ne_eqb, false≢true}
use Rattle.wasm_tree.specs.declared.kinds.ValueType.TheVariants as kind
use Rattle.wasm_tree.specs.declared.instr.Instr.{Instr}
use Rattle.wasm_tree.specs.declared.instr.Instr.TheVariants as instr
use Rattle.wasm_tree.specs.declared.instr.Numeric.TheVariants as numeric
use Rattle.wasm_tree.specs.declared.instr.Relation.{Relation}
use Rattle.wasm_tree.specs.declared.store.Value.{Value}
use Rattle.wasm_tree.specs.declared.store.Value.TheVariants.{I32, I64}
use Rattle.wasm_tree.specs.Numbers.{truth, compares}
use Rattle.law_effect.specs.Effect.{State as Target, Effect, FellThrough, Does, then_run, out_of, exec, pick_branch}
use Rattle.law_effect.specs.Effect as effects
use Rattle.law_effect.proofs.Steps.{i64_runs, number_runs, one_32, one_64, two_64, if_runs}
use Rattle.typed_tree.specs.declared.types.TypeNo.{TypeNo}
use Rattle.typed_tree.specs.declared.computed.Comparison.{Comparison}
use Rattle.typed_tree.specs.declared.computed.Comparison.TheVariants as compare
use Rattle.typed_tree.specs.Types.{boolean}
use Rattle.def_meaning.specs.Answer.{State as Source, Answer, Ended, StillRunning}
use Rattle.def_meaning.specs.Answer as answer
use Rattle.def_meaning.specs.Operators as of
use Rattle.def_meaning.specs.Operators.{comparison_holds, is_true}
use Rattle.def_meaning.specs.Expressions.{Gives}
use Rattle.def_scheme.specs.Coded.{Coded, Counts, relation, extend_word, is_zero, wrap_word}
use Rattle.def_scheme.specs.Exprs.{relation_of, empty_code, and_code, or_code, chosen_number}
use Rattle.law_simulation.specs.Scene.{Scene, calls, runs, HasHelpers, IsValue, AreSmall, word, Stands, Into, GivesNumber, IsFree, HasLocals, inside, Agrees, GoesOn}
use Rattle.law_simulation.proofs.Parts.{Goes}
use Rattle.law_simulation.proofs.Words.{IsWide, signed, less_is}
use Rattle.law_simulation.proofs.Operators.{wide, narrow, Makes}

-- ---- relations of words are those of numbers

both_ways : (x y : ℤ) → (int_le x y && int_le y x) ≡ true → x ≡ y
both_ways x y e = grind (arith, e)

itself : (x : ℤ) → (int_le x x && int_le x x) ≡ true
itself x = grind arith

equal_is : (x y : ℤ) → IsWide x → IsWide y → (word x == word y) ≡ (int_le x y && int_le y x)
equal_is x y hx hy = by (int_le x y && int_le y x) refl
  where
    apart : (int_le x y && int_le y x) ≡ false → word x ≡ word y → ⊥
    apart e same =
        let is : x ≡ y = sym (signed x hx) ∙ ap (cast_signed w64) same ∙ signed y hy in
        let t : (int_le x y && int_le y x) ≡ true = ap (λ (z : ℤ). int_le x z && int_le z x) (sym is) ∙ itself x in
        absurd (false≢true (sym e ∙ t))

    by : (b : Bool) → (int_le x y && int_le y x) ≡ b → (word x == word y) ≡ b
    by true e = eq-eqb (word x) (word y) (ap word (both_ways x y e))
    by false e = ne_eqb (word x) (word y) (apart e)

pub compared_is : (o : Comparison) (x y : ℤ) → IsWide x → IsWide y
    → compares w64 (relation_of o) (word x) (word y) ≡ comparison_holds o x y
compared_is compare.Equal x y hx hy = equal_is x y hx hy
compared_is compare.Unequal x y hx hy = ap not (equal_is x y hx hy)
compared_is compare.Less x y hx hy = less_is x y hx hy
compared_is compare.AtMost x y hx hy = ap₂ int_le (signed x hx) (signed y hy)
compared_is compare.Greater x y hx hy = less_is y x hy hx
compared_is compare.AtLeast x y hx hy = ap₂ int_le (signed y hy) (signed x hx)

pub truth_word : (b : Bool) → truth b ≡ word (of.truth b)
truth_word true = refl
truth_word false = refl

pub truth_in : (b : Bool) → (pos 0 ≤ℤ of.truth b) × (of.truth b ≤ℤ pos 1)
truth_in true = (omega (arith, ints), omega (arith, ints))
truth_in false = (omega (arith, ints), omega (arith, ints))

module _ (k : Scene) (has : HasHelpers k) (small : AreSmall k.setting.home.types) where
  abbrev Numbers : (u : TypeNo) (rest : List Instr) (stack : List Value) → ℤ → Source → Effect → Type 0
  Numbers u rest stack = GivesNumber k u (runs k rest) stack

  -- a truth value on top of the operands
  pub truth_gives : (b : Bool) (s : Source) (st : Target) → Stands k s st
      → (rest : List Instr) (stack : List Value) (r : Effect) → r ≡ runs k rest st (stack ++ I64 (truth b) ∷ [])
      → Numbers boolean rest stack (of.truth b) s r
  truth_gives b s st h rest stack r e = record {
    st = st;
    stands = h;
    is = truth_in b;
    run = e ∙ ap (λ (n : ℕ). runs k rest st (stack ++ I64 n ∷ [])) (truth_word b);
  }

  pub extended_runs : (n : ℕ) (rest : List Instr) (st : Target) (stack : List Value)
      → runs k (extend_word ∷ rest) st (stack ++ I32 n ∷ []) ≡ runs k rest st (stack ++ I64 n ∷ [])
  extended_runs n rest st stack = number_runs k.modules k.fixed k.turns (calls k) k.own rest st numeric.I64ExtendI32U
      (stack ++ I32 n ∷ []) stack (I64 n) (one_32 stack n I64)

  pub wrapped_runs : (n : ℕ) (rest : List Instr) (st : Target) (stack : List Value)
      → runs k (wrap_word ∷ rest) st (stack ++ I64 n ∷ []) ≡ runs k rest st (stack ++ I32 (n % 2 ^ 32) ∷ [])
  wrapped_runs n rest st stack = number_runs k.modules k.fixed k.turns (calls k) k.own rest st numeric.I32WrapI64
      (stack ++ I64 n ∷ []) stack (I32 (n % 2 ^ 32)) (one_64 stack n (λ i. I32 (i % 2 ^ 32)))

  pub relation_runs : (r : Relation) (i j : ℕ) (rest : List Instr) (st : Target) (stack : List Value)
      → runs k (relation r ∷ rest) st ((stack ++ I64 i ∷ []) ++ I64 j ∷ [])
      ≡ runs k rest st (stack ++ I32 (truth (compares w64 r i j)) ∷ [])
  relation_runs r i j rest st stack =
      number_runs k.modules k.fixed k.turns (calls k) k.own rest st (numeric.I64Relation r)
      ((stack ++ I64 i ∷ []) ++ I64 j ∷ []) stack (I32 (truth (compares w64 r i j)))
      (two_64 stack i j (λ n m. Some (I32 (truth (compares w64 r n m)))))

  pub compare_makes : (t u : TypeNo) (o : Comparison)
      → Makes k has small t u boolean (relation (relation_of o) ∷ extend_word ∷ [])
      (λ x y s. answer.Value (of.truth (comparison_holds o x y)) s)
  compare_makes t u o x hx y hy s st h rest stack =
      let nx = narrow k has small t x hx in let ny = narrow k has small u y hy in
      truth_gives (comparison_holds o x y) s st h rest stack _
      (relation_runs (relation_of o) (word x) (word y) (extend_word ∷ rest) st stack
      ∙ extended_runs (truth (compares w64 (relation_of o) (word x) (word y))) rest st stack
      ∙ ap (λ (b : Bool). runs k rest st (stack ++ I64 (truth b) ∷ [])) (compared_is o x y (wide x nx) (wide y ny)))

  -- ---- NOT

  pub is_zero_true : (v : ℤ) → pos 0 ≤ℤ v → IsWide v → (word v == 0) ≡ not (is_true v)
  is_zero_true (pos zero) h w = refl
  is_zero_true (pos (suc n)) h w = let t = w.high in
      let ne : word (pos (suc n)) ≡ 0 → ⊥ = (λ e. omega (arith, ints, e)) in
      ne_eqb (word (pos (suc n))) 0 ne ∙ grind arith
  is_zero_true (negsuc n) h w = absurd (omega (arith, ints))

  pub zero_runs : (n : ℕ) (rest : List Instr) (st : Target) (stack : List Value)
      → runs k (is_zero ∷ rest) st (stack ++ I64 n ∷ []) ≡ runs k rest st (stack ++ I32 (truth (n == 0)) ∷ [])
  zero_runs n rest st stack = number_runs k.modules k.fixed k.turns (calls k) k.own rest st numeric.I64Eqz
      (stack ++ I64 n ∷ []) stack (I32 (truth (n == 0))) (one_64 stack n (λ i. I32 (truth (i == 0))))

  pub not_goes : Goes k boolean boolean empty_code (λ v s. answer.Value (of.truth (not (is_true v))) s)
  not_goes v is s st h rest stack =
      truth_gives (not (is_true v)) s st h rest stack _
      (zero_runs (word v) (extend_word ∷ rest) st stack ∙ extended_runs (truth (word v == 0)) rest st stack
      ∙ ap (λ (b : Bool). runs k rest st (stack ++ I64 (truth b) ∷ []))
      (is_zero_true v is.0 (wide v (narrow k has small boolean v is))))

  -- ---- AND and OR: the second operand stands in one side of an if

  -- out of a block that leaves a number
  abbrev leaves_block : List Value → Effect → Effect
  leaves_block s e = out_of 1 (length s) e

  pub left_number : (st : Target) (stack : List Value) (n : ℕ)
      → leaves_block stack (FellThrough st (stack ++ I64 n ∷ [])) ≡ FellThrough st (stack ++ I64 n ∷ [])
  left_number st stack n = refl

  -- what a side of the if leaves, with the rest behind it
  pub side : (u : TypeNo) (rest : List Instr) (stack : List Value) (r : Effect) (a : Answer ℤ)
      → Into (Numbers u [] stack) r a → Into (Numbers u rest stack) (then_run (leaves_block stack r) (runs k rest)) a
  side u rest stack r (answer.Value v s) p = record {
    st = p.st;
    stands = p.stands;
    is = p.is;
    run = ap (λ (e : Effect). then_run (leaves_block stack e) (runs k rest)) p.run;
  }
  side u rest stack r (Ended j out) p = ap (λ (e : Effect). then_run (leaves_block stack e) (runs k rest)) p
  side u rest stack r (StillRunning out) p = ap (λ (e : Effect). then_run (leaves_block stack e) (runs k rest)) p

  module _ (first second : List Instr) (rest : List Instr) (st : Target) (stack : List Value) where
    abbrev chooses : Instr
    chooses = chosen_number first second

    -- the condition decides which side runs
    pub picks_first : (n : ℕ) → (n == 0) ≡ false
        → runs k (chooses ∷ rest) st (stack ++ I32 n ∷ [])
        ≡ then_run (leaves_block stack (runs k first st stack)) (runs k rest)
    picks_first n e =
        if_runs k.modules k.fixed k.turns (calls k) k.own rest st (Some kind.I64) first second stack n
        ∙ ap (λ (b : Bool). then_run (leaves_block stack
        (exec (if b then map (effects.does k.modules k.fixed k.turns (calls k) k.own) second else map
        (effects.does k.modules k.fixed k.turns (calls k) k.own) first) st stack)) (runs k rest)) e

    pub picks_second : (n : ℕ) → (n == 0) ≡ true
        → runs k (chooses ∷ rest) st (stack ++ I32 n ∷ [])
        ≡ then_run (leaves_block stack (runs k second st stack)) (runs k rest)
    picks_second n e =
        if_runs k.modules k.fixed k.turns (calls k) k.own rest st (Some kind.I64) first second stack n
        ∙ ap (λ (b : Bool). then_run (leaves_block stack
        (exec (if b then map (effects.does k.modules k.fixed k.turns (calls k) k.own) second else map
        (effects.does k.modules k.fixed k.turns (calls k) k.own) first) st stack)) (runs k rest)) e

  pub chosen_by : (v : ℤ) → pos 0 ≤ℤ v → v ≤ℤ pos 1 → (word v % 2 ^ 32 == 0) ≡ not (is_true v)
  chosen_by (pos zero) l h = refl
  chosen_by (pos (suc zero)) l h = refl
  chosen_by (pos (suc (suc n))) l h = absurd (omega (arith, ints))
  chosen_by (negsuc n) l h = absurd (omega (arith, ints))

  module _ (y : Coded) (value : Gives ℤ) (agrees : Agrees k boolean y value) where
    -- the second operand's code, with nothing behind it
    alone : (ex : ℕ) (c : Counts) → IsFree k c → HasLocals k (y (inside k ex) c).1 → (s : Source) (st : Target)
        → Stands k s st → (stack : List Value)
        → Into (Numbers boolean [] stack) (runs k (y (inside k ex) c).0 st stack) (value k.around s)
    alone ex c free full s st h stack =
        subst (λ (code : List Instr). Into (Numbers boolean [] stack) (runs k code st stack) (value k.around s))
        (append-nil (y (inside k ex) c).0) (agrees.gives ex c free full s st h [] stack)

    abbrev conjunction : ℤ → Gives ℤ
    conjunction v a s = if is_true v then value a s else answer.Value (of.truth false) s

    pub and_goes : GoesOn k boolean boolean (and_code y) conjunction
    and_goes = record {
      grows = λ ex c. agrees.grows (ex + 1) c;
      gives = λ ex c free full v is s st h rest stack.
          by ex c free full v is s st h rest stack (is_true v) refl;
    }
      where
        by : (ex : ℕ) (c : Counts) → IsFree k c → HasLocals k (y (inside k (ex + 1)) c).1 → (v : ℤ)
            → IsValue k.setting.home.types boolean v
            → (s : Source) (st : Target) → Stands k s st → (rest : List Instr) (stack : List Value) (b : Bool)
            → is_true v ≡ b
            → Into (Numbers boolean rest stack) (runs k
            (wrap_word ∷ chosen_number (y (inside k (ex + 1)) c).0 (instr.I64Const 0 ∷ []) ∷ rest) st
            (stack ++ I64 (word v) ∷ [])) (if b then value k.around s else answer.Value (of.truth false) s)
        by ex c free full v is s st h rest stack true e =
            let code : List Instr = (y (inside k (ex + 1)) c).0 in
            let other : List Instr = instr.I64Const 0 ∷ [] in
            let path = wrapped_runs (word v) (chosen_number code other ∷ rest) st stack
            ∙ picks_first code other rest st stack (word v % 2 ^ 32) (chosen_by v is.0 is.1 ∙ ap not e) in
            subst (λ (r : Effect). Into (Numbers boolean rest stack) r (value k.around s)) (sym path)
            (side boolean rest stack (runs k code st stack) (value k.around s)
            (alone (ex + 1) c free full s st h stack))
        by ex c free full v is s st h rest stack false e =
            let code : List Instr = (y (inside k (ex + 1)) c).0 in
            let other : List Instr = instr.I64Const 0 ∷ [] in
            truth_gives false s st h rest stack _
            (wrapped_runs (word v) (chosen_number code other ∷ rest) st stack
            ∙ picks_second code other rest st stack (word v % 2 ^ 32) (chosen_by v is.0 is.1 ∙ ap not e)
            ∙ ap (λ (e : Effect). then_run (leaves_block stack e) (runs k rest))
            (i64_runs k.modules k.fixed k.turns (calls k) k.own [] st 0 stack))

    abbrev disjunction : ℤ → Gives ℤ
    disjunction v a s = if is_true v then answer.Value (of.truth true) s else value a s

    pub or_goes : GoesOn k boolean boolean (or_code y) disjunction
    or_goes = record {
      grows = λ ex c. agrees.grows (ex + 1) c;
      gives = λ ex c free full v is s st h rest stack. by ex c free full v is s st h rest stack (is_true v) refl;
    }
      where
        by : (ex : ℕ) (c : Counts) → IsFree k c → HasLocals k (y (inside k (ex + 1)) c).1 → (v : ℤ)
            → IsValue k.setting.home.types boolean v
            → (s : Source) (st : Target) → Stands k s st → (rest : List Instr) (stack : List Value) (b : Bool)
            → is_true v ≡ b
            → Into (Numbers boolean rest stack) (runs k
            (wrap_word ∷ chosen_number (instr.I64Const 1 ∷ []) (y (inside k (ex + 1)) c).0 ∷ rest) st
            (stack ++ I64 (word v) ∷ [])) (if b then answer.Value (of.truth true) s else value k.around s)
        by ex c free full v is s st h rest stack true e =
            let code : List Instr = (y (inside k (ex + 1)) c).0 in
            let other : List Instr = instr.I64Const 1 ∷ [] in
            truth_gives true s st h rest stack _
            (wrapped_runs (word v) (chosen_number other code ∷ rest) st stack
            ∙ picks_first other code rest st stack (word v % 2 ^ 32) (chosen_by v is.0 is.1 ∙ ap not e)
            ∙ ap (λ (e : Effect). then_run (leaves_block stack e) (runs k rest))
            (i64_runs k.modules k.fixed k.turns (calls k) k.own [] st 1 stack))
        by ex c free full v is s st h rest stack false e =
            let code : List Instr = (y (inside k (ex + 1)) c).0 in
            let other : List Instr = instr.I64Const 1 ∷ [] in
            let path = wrapped_runs (word v) (chosen_number other code ∷ rest) st stack
            ∙ picks_second other code rest st stack (word v % 2 ^ 32) (chosen_by v is.0 is.1 ∙ ap not e) in
            subst (λ (r : Effect). Into (Numbers boolean rest stack) r (value k.around s)) (sym path)
            (side boolean rest stack (runs k code st stack) (value k.around s)
            (alone (ex + 1) c free full s st h stack))
