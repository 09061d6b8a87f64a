-- INC, DEC, INCL and EXCL: the variable's address is kept, and what is added or put in.
use Rattle.std.proofs.Common.{◌≡◌, ℕ, ◌*◌, ◌%◌, ◌^◌, ◌<◌, ℤ, pos, ◌+ℤ◌, ◌-ℤ◌, ◌≤ℤ◌, Bool, true, false, not, List, [], ◌∷◌, ◌++◌, Option, Some, None, if◌then◌else◌, refl, sym, ap, ap₂, subst, ◌∙◌, append_assoc, arith}
use Rattle.std.specs.Prelude.{◌&&◌, ◌==◌, bit_or, bit_xor}
use Rattle.std.proofs.Math.Pow.{pow-lt}
use Rattle.std.proofs.lemmas.Int.{ints}
use Rattle.std.proofs.lemmas.Nat.{or_lt}
use Rattle.std.proofs.lemmas.Bool.{eq-eqb, ne_eqb, eqb-true, false≢true, and_parts}
use Rattle.std.proofs.lemmas.Option.{none-some}
use Rattle.wasm_tree.specs.declared.instr.Instr.{Instr}
use Rattle.wasm_tree.specs.declared.instr.Instr.TheVariants as instr
use Rattle.wasm_tree.specs.declared.instr.Operation.TheVariants.{Add, Sub, Or, And, Shl}
use Rattle.wasm_tree.specs.declared.store.Value.{Value}
use Rattle.wasm_tree.specs.declared.store.Value.TheVariants.{I32, I64}
use Rattle.law_effect.specs.Effect.{State as Target, Effect}
use Rattle.law_effect.proofs.Steps.{get_runs, i64_runs}
use Rattle.typed_tree.specs.declared.statement.Change.{Change}
use Rattle.typed_tree.specs.declared.statement.Change.TheVariants as change
use Rattle.typed_tree.specs.declared.statement.Membership.{Membership}
use Rattle.typed_tree.specs.declared.statement.Membership.TheVariants as member
use Rattle.typed_tree.specs.declared.types.Home.{Home}
use Rattle.typed_tree.specs.declared.types.Home.TheVariants.{Predeclared, Module}
use Rattle.typed_tree.specs.declared.types.TypeNo.{TypeNo}
use Rattle.typed_tree.specs.declared.shape.Scalar.{Scalar as Range}
use Rattle.typed_tree.specs.declared.known_types.Types.{Types}
use Rattle.typed_tree.specs.Types.{are_same, is_one_home, bitset}
use Rattle.typed_tree.specs.Known.{scalar_at, scalar_from}
use Rattle.layout_storage.specs.Types.{Scalar, Cell, row, component}
use Rattle.def_meaning.specs.Store.{Location}
use Rattle.def_meaning.specs.Answer.{State as Source, Answer, Ended, ◌▷◌, range_fault}
use Rattle.def_meaning.specs.Outcome.{Outcome, Normal}
use Rattle.def_meaning.specs.Answer as answer
use Rattle.def_meaning.specs.Operators.{is_between, bits, without, single}
use Rattle.def_meaning.specs.Expressions.{Gives, within, within_range, as_type, in_base}
use Rattle.def_meaning.specs.Statements as meaning
use Rattle.def_meaning.specs.Statements.{Does, recheck_value, with_element, store_number as stores}
use Rattle.def_scheme.specs.Coded.{Coded, Counts, plain, ◌⨾◌, with_number, with_setting, operation, check_code}
use Rattle.def_scheme.specs.Cells.{load_code, store_code, in_type, base_in, base_of, check_changed}
use Rattle.def_scheme.specs.Steps.{change_operation, change_instructions, change_code, member_operation, with_member, member_code}
use Rattle.law_simulation.specs.Scene.{Scene, calls, runs, place, HasHelpers, IsIn, IsValue, AreSmall, IsCell, word, Stands, keeping, Into, GivesNumber, IsFree, HasLocals, inside, Agrees, AgreesBeside, Locates, Ends, Executes}
use Rattle.law_simulation.proofs.Words.{IsWide, sum_word, difference_word}
use Rattle.law_simulation.proofs.Parts.{into_then, grows_more}
use Rattle.law_simulation.proofs.Checks.{checked_gives}
use Rattle.law_simulation.proofs.Operators.{IsNarrow, wide, narrow, between_in, range_gives, operation_runs}
use Rattle.law_simulation.proofs.Locals.{if_kept, helpers_beside}
use Rattle.law_simulation.proofs.Places.{loaded_gives}
use Rattle.law_simulation.proofs.Stores.{stored_goes}
use Rattle.law_simulation.proofs.Sets.{set_word, set_small, bits_word, bits_in, and_small, complement_runs}
use Rattle.law_simulation.proofs.Statements.{ends_with, with_executes}
use Rattle.law_simulation.proofs.Kept.{address_kept, number_kept, number_grows}

-- ---- types that are the same

same_from : (types : Types) (g h : Home) (n m : ℕ) → (is_one_home g h && n == m) ≡ true
    → scalar_from types g n ≡ scalar_from types h m
same_from types Predeclared Predeclared n m e = ap (scalar_from types Predeclared) (eqb-true n m e)
same_from types Predeclared (Module b) n m e = absurd (false≢true e)
same_from types (Module a) Predeclared n m e = absurd (false≢true e)
same_from types (Module a) (Module b) n m e = let p = and_parts (a == b) (n == m) e in
    ap₂ (λ (i j : ℕ). scalar_from types (Module i) j) (eqb-true a b p.0) (eqb-true n m p.1)

pub same_range : (types : Types) (t u : TypeNo) → are_same t u ≡ true → scalar_at types t ≡ scalar_at types u
same_range types t u e = same_from types t.home u.home t.number u.number e

same_base : (t : TypeNo) (o : Option Range) → base_in t o ≡ meaning.base_of t o
same_base t None = refl
same_base t (Some r) = refl

-- a value that is one of a type stays
stays : (o : Option Range) (j : ℕ) (v : ℤ) → IsIn o v → (s : Source) → within_range o j v s ≡ answer.Value v s
stays None j v is s = refl
stays (Some r) j v is s = let l = is.0 in let h = is.1 in
    let b : is_between r.low v r.high ≡ true = inner r.low v r.high l h in
    ap (λ (b : Bool). if b then answer.Value v s else Ended j s.out) b
  where
    inner : (low v high : ℤ) → low ≤ℤ v → v ≤ℤ high → is_between low v high ≡ true
    inner low v high l h = grind (arith, l, h)

single_small : (x : ℤ) → pos 0 ≤ℤ x → x ≤ℤ pos 31 → single x < 2 ^ 32
single_small x l h = pow-lt (let e : bits x < 32 = omega (arith, ints) in e)

-- ---- what is kept

pub kept_itself : (k : Scene) (n : ℕ) (v : Value) → (keeping k n v).kept n ≡ Some v
kept_itself k n v = ap (λ (b : Bool). if_kept k n v b (k.kept n)) (eq-eqb n n refl)

pub kept_before : (k : Scene) (n w : ℕ) (v x : Value) → k.kept n ≡ None → k.kept w ≡ Some x
    → (keeping k n v).kept w ≡ Some x
kept_before k n w v x new e = ap (λ (b : Bool). if_kept k n v b (k.kept w))
    (ne_eqb w n (λ (same : w ≡ n). none-some x (sym new ∙ ap k.kept (sym same) ∙ e))) ∙ e

module _ (k : Scene) (has : HasHelpers k) (small : AreSmall k.setting.home.types) (room : k.limit < 2 ^ 32)
    (function : Bool) where
  abbrev types : Types
  types = k.setting.home.types

  -- ---- INC and DEC

  -- the result is one of the base type, and then one of the type
  changed_gives : (t : TypeNo) → (scalar_at types t ≡ None → ⊥) → (scalar_at types (base_of types t) ≡ None → ⊥)
      → (v : ℤ) → IsWide v → (s : Source) (st : Target) → Stands k s st → (rest : List Instr) (stack : List Value)
      → Into (GivesNumber k t (runs k rest) stack)
      (runs k (check_changed types t ++ rest) st (stack ++ I64 (word v) ∷ [])) (recheck_value types t v s)
  changed_gives t some based v hv s st h rest stack =
      let base : TypeNo = base_of types t in
      let first : List Instr = in_type types base 2 in
      let second : List Instr = if not (are_same base t) then in_type types t 1 else [] in
      subst (λ (base : TypeNo). Into (GivesNumber k t (runs k rest) stack)
      (runs k (check_changed types t ++ rest) st (stack ++ I64 (word v) ∷ []))
      (in_base types base v s ▷ (as_type types t))) (same_base t (scalar_at types t))
      (subst (λ (c : List Instr). Into (GivesNumber k t (runs k rest) stack) (runs k c st (stack ++ I64 (word v) ∷ []))
      (in_base types base v s ▷ (as_type types t))) (sym (append_assoc first second rest))
      (into_then (GivesNumber k base (runs k (second ++ rest)) stack) (GivesNumber k t (runs k rest) stack)
      (runs k (first ++ (second ++ rest)) st (stack ++ I64 (word v) ∷ [])) (in_base types base v s)
      (as_type types t)
      (range_gives k has small base (scalar_at types base) refl 2 (omega arith) (omega arith) v hv
      (λ e. absurd (based e)) s st h (second ++ rest) stack)
      (λ v s p. subst (λ (r : Effect). Into (GivesNumber k t (runs k rest) stack) r (as_type types t v s)) (sym p.run)
      (by (are_same base t) refl v p.is s p.st p.stands))))
    where
      by : (b : Bool) → are_same (base_of types t) t ≡ b → (v : ℤ) → IsValue types (base_of types t) v
          → (s : Source) (st : Target) → Stands k s st
          → Into (GivesNumber k t (runs k rest) stack)
          (runs k ((if not b then in_type types t 1 else []) ++ rest) st (stack ++ I64 (word v) ∷ []))
          (as_type types t v s)
      by true e v is s st h =
          let here : IsValue types t v = subst (λ (o : Option Range). IsIn o v) (same_range types (base_of types t) t e)
          is in
          subst (λ (a : Answer ℤ). Into (GivesNumber k t (runs k rest) stack)
          (runs k rest st (stack ++ I64 (word v) ∷ [])) a) (sym (stays (scalar_at types t) range_fault v here s))
          (record { st = st; stands = h; is = here; run = refl })
      by false e v is s st h = range_gives k has small t (scalar_at types t) refl 1 (omega arith) (omega arith) v
          (wide v (narrow k has small (base_of types t) v is)) (λ e. absurd (some e)) s st h rest stack

  operation_of : (o : Change) (x y : ℤ) → IsNarrow x → IsNarrow y
      → (rest : List Instr) (st : Target) (stack : List Value)
      → runs k (change_operation o ∷ rest) st ((stack ++ I64 (word x) ∷ []) ++ I64 (word y) ∷ [])
      ≡ runs k rest st (stack ++ I64 (word (meaning.change_by o x y)) ∷ [])
  operation_of change.Increase x y hx hy rest st stack =
      let a = hx.low in let b = hx.high in let c = hy.low in let d = hy.high in
      operation_runs k has small Add (word x) (word y) (word (x +ℤ y)) rest st stack
      (ap Some (sum_word x y (wide x hx) (wide y hy)
      (record { low = omega (arith, ints); high = omega (arith, ints) })))
  operation_of change.Decrease x y hx hy rest st stack =
      let a = hx.low in let b = hx.high in let c = hy.low in let d = hy.high in
      operation_runs k has small Sub (word x) (word y) (word (x -ℤ y)) rest st stack
      (ap Some (difference_word x y (wide x hx) (wide y hy)
      (record { low = omega (arith, ints); high = omega (arith, ints) })))

  wide_of : (o : Change) (x y : ℤ) → IsNarrow x → IsNarrow y → IsWide (meaning.change_by o x y)
  wide_of change.Increase x y hx hy = let a = hx.low in let b = hx.high in let c = hy.low in let d = hy.high in
      record { low = omega (arith, ints); high = omega (arith, ints) }
  wide_of change.Decrease x y hx hy = let a = hx.low in let b = hx.high in let c = hy.low in let d = hy.high in
      record { low = omega (arith, ints); high = omega (arith, ints) }

  -- the address, and what the variable holds
  read_again_runs : (t : TypeNo) (c : Scalar) → IsCell types t c → (l : Location)
      → component (row k.world) l ≡ Some (Cell c) → (w : ℕ) → k.kept w ≡ Some (I32 (place k l))
      → (s : Source) (st : Target) → Stands k s st → (rest : List Instr) (stack : List Value)
      → GivesNumber k t (runs k rest) (stack ++ I32 (place k l) ∷ []) (s.store l) s
      (runs k (instr.LocalGet w ∷ instr.LocalGet w ∷ (load_code types t ++ rest)) st stack)
  read_again_runs t c cell l type w at s st h rest stack =
      let a : Value = I32 (place k l) in
      let there = h.kept w a at in
      let p = loaded_gives k has small room t c cell l s st h type rest (stack ++ a ∷ []) in
      record {
        st = p.st;
        stands = p.stands;
        is = p.is;
        run =
            get_runs k.modules k.fixed k.turns (calls k) k.own (instr.LocalGet w ∷ (load_code types t ++ rest)) st w a
            stack there
            ∙ get_runs k.modules k.fixed k.turns (calls k) k.own (load_code types t ++ rest) st w a (stack ++ a ∷ [])
            there
            ∙ p.run;
      }

  -- a value is stored at the address
  stored_ends : (t : TypeNo) (c : Scalar) → IsCell types t c → (l : Location)
      → component (row k.world) l ≡ Some (Cell c) → (v : ℤ) → IsValue types t v → (e : ℕ) (s : Source) (st : Target)
      → Stands k s st → (rest : List Instr) (stack : List Value)
      → Ends k function e stack (λ st. runs k rest st stack)
      (runs k (store_code types t ++ rest) st ((stack ++ I32 (place k l) ∷ []) ++ I64 (word v) ∷ []))
      (answer.Value Normal (stores l v s))
  stored_ends t c cell l type v is e s st h rest stack =
      let p = stored_goes k has small room t c cell l v is type s st h rest stack in
      record { st = p.st; stands = p.stands; run = p.run }

  change_goes : (o : Change) (t : TypeNo) (c : Scalar) → IsCell types t c → (scalar_at types t ≡ None → ⊥)
      → (scalar_at types (base_of types t) ≡ None → ⊥) → (l : Location) → component (row k.world) l ≡ Some (Cell c)
      → (y : ℤ) → IsNarrow y → (w n : ℕ) → k.kept w ≡ Some (I32 (place k l)) → k.kept n ≡ Some (I64 (word y))
      → (e : ℕ) (s : Source) (st : Target) → Stands k s st → (rest : List Instr) (stack : List Value)
      → Ends k function e stack (λ st. runs k rest st stack)
      (runs k (change_instructions o w n types t ++ rest) st stack)
      (recheck_value types t (meaning.change_by o (s.store l) y) s ▷ λ v s. answer.Value Normal (stores l v s))
  change_goes o t c cell some based l type y hy w n at_w at_n e s st h rest stack =
      let check : List Instr = check_changed types t in
      let store : List Instr = store_code types t in
      let after : List Instr = instr.LocalGet n ∷ change_operation o ∷ (check ++ (store ++ rest)) in
      let p = read_again_runs t c cell l type w at_w s st h after stack in
      let below : List Value = stack ++ I32 (place k l) ∷ [] in
      let hx = narrow k has small t (s.store l) p.is in
      let v : ℤ = meaning.change_by o (s.store l) y in
      let path : runs k (change_instructions o w n types t ++ rest) st stack
      ≡ runs k (check ++ (store ++ rest)) p.st (below ++ I64 (word v) ∷ []) =
      ap (λ (c : List Instr). runs k (instr.LocalGet w ∷ instr.LocalGet w ∷ c) st stack)
      (append_assoc (load_code types t) (instr.LocalGet n ∷ change_operation o ∷ (check ++ store)) rest
      ∙ ap (λ (c : List Instr). load_code types t ++ (instr.LocalGet n ∷ change_operation o ∷ c))
      (append_assoc check store rest))
      ∙ p.run
      ∙ get_runs k.modules k.fixed k.turns (calls k) k.own (change_operation o ∷ (check ++ (store ++ rest))) p.st n
      (I64 (word y)) (below ++ I64 (word (s.store l)) ∷ []) (p.stands.kept n (I64 (word y)) at_n)
      ∙ operation_of o (s.store l) y hx hy (check ++ (store ++ rest)) p.st below
      in
      subst (λ (r : Effect). Ends k function e stack (λ st. runs k rest st stack) r
      (recheck_value types t v s ▷ λ v s. answer.Value Normal (stores l v s))) (sym path)
      (ends_with k function e stack below (λ st. runs k rest st stack) t (runs k (store ++ rest))
      (runs k (check ++ (store ++ rest)) p.st (below ++ I64 (word v) ∷ [])) (recheck_value types t v s)
      (λ v s. answer.Value Normal (stores l v s))
      (changed_gives t some based v (wide_of o (s.store l) y hx hy) s p.st p.stands (store ++ rest) below)
      (λ v is s st h. stored_ends t c cell l type v is e s st h rest stack))

  -- ---- INCL and EXCL

  element_word : (x : ℤ) → pos 0 ≤ℤ x → x ≤ℤ pos 31 → 1 * 2 ^ (word x % 64) % 2 ^ 64 ≡ single x
  element_word x l h =
      let e : word x % 64 ≡ bits x = omega (arith, ints) in
      let less = single_small x l h in
      ap (λ (m : ℕ). 1 * 2 ^ m % 2 ^ 64) e ∙ itself (single x) less
    where
      itself : (n : ℕ) → n < 2 ^ 32 → 1 * n % 2 ^ 64 ≡ n
      itself n h = omega (arith, h)

  element_in : (o : Membership) (v x : ℤ) → IsValue types bitset v → pos 0 ≤ℤ x → x ≤ℤ pos 31
      → IsValue types bitset (with_element o v x)
  element_in member.Include v x is l h = bits_in (bit_or (bits v) (single x))
      (or_lt 32 (bits v) (single x) (set_small v is.0 is.1) (single_small x l h))
  element_in member.Exclude v x is l h = bits_in (without (bits v) (single x))
      (and_small (bits v) (bit_xor (single x) 4294967295) (set_small v is.0 is.1))

  member_runs : (o : Membership) (v x : ℤ) → IsValue types bitset v → pos 0 ≤ℤ x → x ≤ℤ pos 31
      → (rest : List Instr) (st : Target) (stack : List Value)
      → runs k (member_operation o ++ rest) st ((stack ++ I64 (word v) ∷ []) ++ I64 (single x) ∷ [])
      ≡ runs k rest st (stack ++ I64 (word (with_element o v x)) ∷ [])
  member_runs member.Include v x is l h rest st stack =
      operation_runs k has small Or (word v) (single x) (word (with_element member.Include v x)) rest st stack
      (ap Some (ap (λ (n : ℕ). bit_or n (single x)) (set_word v is.0 is.1)
      ∙ sym (bits_word (bit_or (bits v) (single x))
      (or_lt 32 (bits v) (single x) (set_small v is.0 is.1) (single_small x l h)))))
  member_runs member.Exclude v x is l h rest st stack =
      complement_runs k has small (single x) (operation And ∷ rest) st (stack ++ I64 (word v) ∷ [])
      ∙ operation_runs k has small And (word v) (bit_xor (single x) 4294967295) (word (with_element member.Exclude v x))
      rest st stack
      (ap Some (ap (λ (n : ℕ). without n (single x)) (set_word v is.0 is.1)
      ∙ sym (bits_word (without (bits v) (single x))
      (and_small (bits v) (bit_xor (single x) 4294967295) (set_small v is.0 is.1)))))

  member_goes : (o : Membership) (c : Scalar) → IsCell types bitset c → (l : Location)
      → component (row k.world) l ≡ Some (Cell c)
      → (x : ℤ) → pos 0 ≤ℤ x → x ≤ℤ pos 31 → (w n : ℕ) → k.kept w ≡ Some (I32 (place k l))
      → k.kept n ≡ Some (I64 (word x)) → (e : ℕ) (s : Source) (st : Target) → Stands k s st
      → (rest : List Instr) (stack : List Value)
      → Ends k function e stack (λ st. runs k rest st stack) (runs k (with_member o w n types ++ rest) st stack)
      (answer.Value Normal (stores l (with_element o (s.store l) x) s))
  member_goes o c cell l type x low high w n at_w at_n e s st h rest stack =
      let member_list : List Instr = member_operation o in
      let store : List Instr = store_code types bitset in
      let joined : List Instr = member_list ++ (store ++ rest) in
      let after : List Instr = instr.I64Const 1 ∷ instr.LocalGet n ∷ operation Shl ∷ joined in
      let p = read_again_runs bitset c cell l type w at_w s st h after stack in
      let below : List Value = stack ++ I32 (place k l) ∷ [] in
      let set : List Value = below ++ I64 (word (s.store l)) ∷ [] in
      let path : runs k (with_member o w n types ++ rest) st stack
      ≡ runs k (store ++ rest) p.st (below ++ I64 (word (with_element o (s.store l) x)) ∷ []) =
      ap (λ (c : List Instr). runs k (instr.LocalGet w ∷ instr.LocalGet w ∷ c) st stack)
      (append_assoc (load_code types bitset)
      (instr.I64Const 1 ∷ instr.LocalGet n ∷ operation Shl ∷ (member_list ++ store)) rest
      ∙ ap (λ (c : List Instr). load_code types bitset ++ (instr.I64Const 1 ∷ instr.LocalGet n ∷ operation Shl ∷ c))
      (append_assoc member_list store rest))
      ∙ p.run
      ∙ i64_runs k.modules k.fixed k.turns (calls k) k.own (instr.LocalGet n ∷ operation Shl ∷ joined) p.st 1 set
      ∙ get_runs k.modules k.fixed k.turns (calls k) k.own (operation Shl ∷ joined) p.st n (I64 (word x))
      (set ++ I64 1 ∷ []) (p.stands.kept n (I64 (word x)) at_n)
      ∙ operation_runs k has small Shl 1 (word x) (single x) joined p.st set (ap Some (element_word x low high))
      ∙ member_runs o (s.store l) x p.is low high (store ++ rest) p.st below
      in
      subst (λ (r : Effect). Ends k function e stack (λ st. runs k rest st stack) r
      (answer.Value Normal (stores l (with_element o (s.store l) x) s))) (sym path)
      (stored_ends bitset c cell l type (with_element o (s.store l) x) (element_in o (s.store l) x p.is low high) e s
      p.st p.stands rest stack)

-- ---- both statements

module _ (k : Scene) (has : HasHelpers k) (small : AreSmall k.setting.home.types) (room : k.limit < 2 ^ 32)
    (function : Bool) where
  -- the scene in which the address and then a number are kept
  abbrev both : (w : ℕ) (l : Location) (n : ℕ) (y : ℤ) → Scene
  both w l n y = keeping (keeping k w (I32 (place k l))) n (I64 (word y))

  abbrev changing : Change → TypeNo → (w : ℕ) → Coded → Coded
  changing o t w x = x ⨾ with_number (λ n. plain (instr.LocalSet n ∷ []) ⨾ with_setting
      (λ s. plain (change_instructions o w n s.home.types t)))

  pub change_executes : (o : Change) (t u : TypeNo) (c : Scalar) (d x : Coded) (found : Gives Location)
      (value : Gives ℤ) → IsCell k.setting.home.types t c
      → (scalar_at k.setting.home.types t ≡ None → ⊥)
      → (scalar_at k.setting.home.types (base_of k.setting.home.types t) ≡ None → ⊥)
      → Locates k (Cell c) d found → Agrees k u x value → AgreesBeside k u x value
      → Executes k function (change_code o d t x)
      (λ a s. found a s ▷ λ l s. value a s ▷ λ y s. recheck_value k.setting.home.types t
      (meaning.change_by o (s.store l) y) s ▷ λ v s. answer.Value Normal (stores l v s))
  change_executes o t u c d x found value cell some based hd hx beside =
      address_kept k function (Cell c) d found (λ w. changing o t w x) next hd
      (λ w e c. grows_more (hx.grows e c) (number_grows k function
      (λ n. change_instructions o w n k.setting.home.types t)
      (λ n. with_setting (λ s. plain (change_instructions o w n s.home.types t))) (λ n e c. refl) e
      (x (inside k e) c).1))
      (λ w l new type some_place. goes w l new type)
    where
      then_stored : Location → ℤ → Source → Outcome
      then_stored l y s = recheck_value k.setting.home.types t (meaning.change_by o (s.store l) y) s ▷ λ v s.
          answer.Value Normal (stores l v s)

      next : Location → Does
      next l a s = value a s ▷ (then_stored l)

      goes : (w : ℕ) (l : Location) → k.kept w ≡ None → component (row k.world) l ≡ Some (Cell c)
          → Executes (keeping k w (I32 (place k l))) function (changing o t w x) (next l)
      goes w l new type =
          let here : Scene = keeping k w (I32 (place k l)) in
          let list : ℕ → List Instr = λ n. change_instructions o w n k.setting.home.types t in
          let code : ℕ → Coded = λ n. with_setting (λ s. plain (change_instructions o w n s.home.types t)) in
          with_executes here function u x (with_number (λ n. plain (instr.LocalSet n ∷ []) ⨾ code n)) value
          (λ y a s. then_stored l y s) (beside w (I32 (place k l)) new) (record {
            grows = λ e c. number_grows here function list code (λ n e c. refl) e c;
            goes = λ e counts free full y is s st h rest stack.
                number_kept here function list code (λ n e c. refl) y (then_stored l y)
                (λ n fresh e s st h rest stack.
                change_goes (both w l n y) (helpers_beside here n (I64 (word y))
                (helpers_beside k w (I32 (place k l)) has)) small room function o t c cell some based l type y
                (narrow k has small u y is) w n
                (kept_before here n w (I64 (word y)) (I32 (place k l)) fresh (kept_itself k w (I32 (place k l))))
                (kept_itself here n (I64 (word y))) e s st h rest stack)
                e counts free full s st h rest stack;
          })

  abbrev including : Membership → (w : ℕ) → Coded
  including o w = plain (check_code (pos 0) (pos 31) 1) ⨾ with_number
      (λ n. plain (instr.LocalSet n ∷ []) ⨾ with_setting (λ s. plain (with_member o w n s.home.types)))

  module _ (o : Membership) (u : TypeNo) (c : Scalar) (cell : IsCell k.setting.home.types bitset c) (x : Coded)
      (value : Gives ℤ) (beside : AgreesBeside k u x value) where
    abbrev put_in : Location → ℤ → Source → Outcome
    put_in l y s = answer.Value Normal (stores l (with_element o (s.store l) y) s)

    abbrev puts : Location → Does
    puts l a s = value a s ▷ λ y s. within (pos 0) (pos 31) range_fault y s ▷ (put_in l)

    module _ (w : ℕ) (l : Location) (new : k.kept w ≡ None) (type : component (row k.world) l ≡ Some (Cell c)) where
      abbrev here : Scene
      here = keeping k w (I32 (place k l))

      abbrev list : ℕ → List Instr
      list n = with_member o w n k.setting.home.types

      abbrev code : ℕ → Coded
      code n = with_setting (λ s. plain (with_member o w n s.home.types))

      abbrev kept_code : Coded
      kept_code = with_number (λ n. plain (instr.LocalSet n ∷ []) ⨾ code n)

      put_decided : (e : ℕ) (counts : Counts) → IsFree here counts → HasLocals here (kept_code (inside here e) counts).1
          → (y : ℤ) → (s : Source) (st : Target) → Stands here s st → (rest : List Instr) (stack : List Value)
          → IsNarrow y → (b : Bool) → is_between (pos 0) y (pos 31) ≡ b
          → Into (GivesNumber here u (runs here ((kept_code (inside here e) counts).0 ++ rest)) stack)
          (runs here (check_code (pos 0) (pos 31) 1 ++ ((kept_code (inside here e) counts).0 ++ rest)) st
          (stack ++ I64 (word y) ∷ [])) (if b then answer.Value y s else Ended range_fault s.out)
          → Ends here function e stack (λ st. runs here rest st stack)
          (runs here (check_code (pos 0) (pos 31) 1 ++ ((kept_code (inside here e) counts).0 ++ rest)) st
          (stack ++ I64 (word y) ∷ [])) ((if b then answer.Value y s else Ended range_fault s.out) ▷ (put_in l))
      put_decided e counts free full y s st h rest stack ny false same p = p
      put_decided e counts free full y s st h rest stack ny true same p =
          let q = between_in (pos 0) (pos 31) y same in
          subst (λ (r : Effect). Ends here function e stack (λ st. runs here rest st stack) r (put_in l y s))
          (sym p.run)
          (number_kept here function list code (λ n e c. refl) y (put_in l y)
          (λ n fresh e s st h rest stack.
          member_goes (both w l n y) (helpers_beside here n (I64 (word y)) (helpers_beside k w (I32 (place k l)) has))
          small room function o c cell l type y q.0 q.1 w n
          (kept_before here n w (I64 (word y)) (I32 (place k l)) fresh (kept_itself k w (I32 (place k l))))
          (kept_itself here n (I64 (word y))) e s st h rest stack)
          e counts free full s p.st p.stands rest stack)

      put_goes : Executes here function (x ⨾ including o w) (puts l)
      put_goes =
          with_executes here function u x (including o w) value
          (λ y a s. within (pos 0) (pos 31) range_fault y s ▷ (put_in l)) (beside w (I32 (place k l)) new) (record {
            grows = λ e c. number_grows here function list code (λ n e c. refl) e c;
            goes = λ e counts free full y is s st h rest stack.
                let after : List Instr = (kept_code (inside here e) counts).0 ++ rest in
                let ny : IsNarrow y = narrow k has small u y is in
                let checks = checked_gives here (helpers_beside k w (I32 (place k l)) has) u (pos 0) (pos 31) y 1
                (record { low = omega (arith, ints); high = omega (arith, ints) })
                (record { low = omega (arith, ints); high = omega (arith, ints) })
                (wide y ny) (omega arith) (omega arith) (λ e. is) s st h after stack in
                put_decided e counts free full y s st h rest stack ny (is_between (pos 0) y (pos 31)) refl checks;
          })

    pub member_executes : (d : Coded) (found : Gives Location) → Locates k (Cell c) d found → Agrees k u x value
        → Executes k function (member_code o d x) (λ a s. found a s ▷ λ l s. puts l a s)
    member_executes d found hd hx =
        address_kept k function (Cell c) d found (λ w. x ⨾ including o w) puts hd
        (λ w e c. grows_more (hx.grows e c) (number_grows k function (λ n. with_member o w n k.setting.home.types)
        (λ n. with_setting (λ s. plain (with_member o w n s.home.types))) (λ n e c. refl) e (x (inside k e) c).1))
        (λ w l new type some_place. put_goes w l new type)
