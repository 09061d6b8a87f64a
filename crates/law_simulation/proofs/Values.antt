-- Values that are taken for others, procedures as values, and results.
use Rattle.std.proofs.Common.{◌≡◌, ℕ, ◌+◌, ◌%◌, ◌^◌, ℤ, pos, ◌≤ℤ◌, Bool, true, false, List, [], ◌∷◌, ◌++◌, Option, Some, None, if◌then◌else◌, refl, sym, ap, subst, ◌∙◌, arith}
use Rattle.std.proofs.lemmas.Int.{ints}
use Rattle.wasm_tree.specs.declared.instr.Instr.{Instr}
use Rattle.wasm_tree.specs.declared.instr.Instr.TheVariants as instr
use Rattle.wasm_tree.specs.declared.instr.Operation.TheVariants.{Add}
use Rattle.wasm_tree.specs.declared.store.Value.{Value}
use Rattle.wasm_tree.specs.declared.store.Value.TheVariants.{I32, I64}
use Rattle.law_effect.specs.Effect.{State as Target}
use Rattle.law_effect.proofs.Steps.{i64_runs, global_runs, return_runs}
use Rattle.typed_tree.specs.declared.meaning.Procedure.{Procedure}
use Rattle.typed_tree.specs.declared.types.TypeNo.{TypeNo}
use Rattle.typed_tree.specs.declared.shape.Scalar.{Scalar as Range}
use Rattle.typed_tree.specs.declared.known_types.Types.{Types}
use Rattle.typed_tree.specs.Known.{scalar_at}
use Rattle.layout_storage.specs.Types.{Ty, Scalar, Cell, IsOf}
use Rattle.layout_storage.specs.Shapes.{tree}
use Rattle.def_meaning.specs.Answer.{State as Source, Answer, Ended, ◌▷◌, range_fault}
use Rattle.def_meaning.specs.Outcome.{Returned}
use Rattle.def_meaning.specs.Answer as answer
use Rattle.def_meaning.specs.Environment.{Modules, procedure_value}
use Rattle.def_meaning.specs.Operators.{is_between}
use Rattle.def_meaning.specs.Expressions.{Gives, as_type, within_range}
use Rattle.law_memory.specs.Relation.{Means}
use Rattle.law_memory.proofs.Procedures.{number_means}
use Rattle.law_memory.proofs.Worlds.{same_cell}
use Rattle.def_scheme.specs.Coded.{Coded, with_setting, plain, ◌⨾◌, operation, extend_word}
use Rattle.def_scheme.specs.Cells.{is_free, in_type, in_range, check_taken}
use Rattle.def_scheme.specs.Exprs.{Part, slot_number, slots_global, procedure_code}
use Rattle.law_simulation.specs.Scene.{Scene, IsSet, IsResult, calls, runs, IsIn, IsValue, AreAmong, word, Into, GivesNumber, inside, Agrees}
use Rattle.law_simulation.proofs.Parts.{Goes, then_agrees, plain_goes, plain_agrees}
use Rattle.law_simulation.proofs.Operators.{operation_runs}
use Rattle.law_simulation.proofs.Relations.{extended_runs}
use Rattle.law_simulation.proofs.Unary.{val_goes}
use Rattle.law_simulation.proofs.Statements.{value_executes}
use Rattle.law_simulation.specs.CallsLaws.{HasSlot, Taken, ProcedureValues, Gives as Results}

pub agrees_alike : (k : Scene) (t : TypeNo) (code : Coded) (f g : Gives ℤ)
    → ((s : Source) → f k.around s ≡ g k.around s) → Agrees k t code f → Agrees k t code g
agrees_alike k t code f g same h = record {
  grows = h.grows;
  gives = λ e c free full s st stands rest stack. subst
      (Into (GivesNumber k t (runs k rest) stack) (runs k ((code (inside k e) c).0 ++ rest) st stack)) (same s)
      (h.gives e c free full s st stands rest stack);
}

between_holds : (low v high : ℤ) → low ≤ℤ v → v ≤ℤ high → is_between low v high ≡ true
between_holds low v high l h = grind (arith, l, h)

-- a value of the type stays
in_range_stays : (o : Option Range) (v : ℤ) (s : Source) → IsIn o v → within_range o range_fault v s ≡ answer.Value v s
in_range_stays None v s is = refl
in_range_stays (Some r) v s is = ap (λ (b : Bool). if b then answer.Value v s else Ended range_fault s.out)
    (between_holds r.low v r.high is.0 is.1)

module _ (k : Scene) (set : IsSet k) where
  abbrev types : Types
  types = k.setting.home.types

  stays_goes : (t : TypeNo) → Goes k t t [] (λ v s. as_type types t v s)
  stays_goes t v is s st h rest stack =
      subst (λ (a : Answer ℤ). Into (GivesNumber k t (runs k rest) stack) (runs k rest st (stack ++ I64 (word v) ∷ []))
      a) (sym (in_range_stays (scalar_at types t) v s is))
      (record { st = st; stands = h; is = is; run = refl })

  -- what is checked, where the type is a scalar type
  checked_goes : (u t : TypeNo) → (scalar_at types t ≡ None → AreAmong types u t) → (o : Option Range)
      → scalar_at types t ≡ o → Goes k u t (in_type types t 1) (λ v s. as_type types t v s)
  checked_goes u t among (Some r) e = val_goes k set.helpers set.small u t (λ none. absurd (some_none r (sym e ∙ none)))
    where
      some_none : (r : Range) → Some r ≡ None → ⊥
      some_none r e = cc e
  checked_goes u t among None e = λ v is s st h rest stack.
      let here : IsValue types t v = among e v is in
      subst (λ (o : Option Range). Into (GivesNumber k t (runs k rest) stack)
      (runs k (in_range o 1 ++ rest) st (stack ++ I64 (word v) ∷ [])) (within_range o range_fault v s)) (sym e)
      (record { st = st; stands = h; is = here; run = refl })

  taken_here : (t : TypeNo) (x : Part) (value : Gives ℤ) → Agrees k x.of x.code value
      → (is_free types t x.constant x.of ≡ true → Agrees k t x.code value)
      → (scalar_at types t ≡ None → AreAmong types x.of t)
      → (b : Bool) → is_free types t x.constant x.of ≡ b
      → Agrees k t (x.code ⨾ with_setting (λ s. plain (check_taken s.home.types t x.constant x.of)))
      (λ a s. value a s ▷ λ v s. as_type types t v s)
  taken_here t x value hx free among true e =
      then_agrees k t t x.code (with_setting (λ s. plain (check_taken s.home.types t x.constant x.of))) value
      (λ v a s. as_type types t v s) (free e)
      (plain_goes k t t (with_setting (λ s. plain (check_taken s.home.types t x.constant x.of))) []
      (λ v a s. as_type types t v s) (λ e' c. ap (λ (b : Bool). (if b then [] else in_type types t 1, c)) e)
      (stays_goes t))
  taken_here t x value hx free among false e =
      then_agrees k x.of t x.code (with_setting (λ s. plain (check_taken s.home.types t x.constant x.of))) value
      (λ v a s. as_type types t v s) hx
      (plain_goes k x.of t (with_setting (λ s. plain (check_taken s.home.types t x.constant x.of))) (in_type types t 1)
      (λ v a s. as_type types t v s) (λ e' c. ap (λ (b : Bool). (if b then [] else in_type types t 1, c)) e)
      (checked_goes x.of t among (scalar_at types t) refl))

pub taken : Taken
taken k set t x value hx free among =
    agrees_alike k t (x.code ⨾ with_setting (λ s. plain (check_taken s.home.types t x.constant x.of)))
    (λ a s. value a s ▷ λ v s. as_type k.setting.home.types t v s) (λ a s. value a s ▷ λ v s. as_type a.types t v s)
    (λ s. ap (λ (types : Types). (value k.around s ▷ λ v s. as_type types t v s)) (sym set.types))
    (taken_here k set t x value hx free among (is_free k.setting.home.types t x.constant x.of) refl)

-- the number of a procedure
pub procedure_runs : (k : Scene) → IsSet k → (p : Modules) (f : Procedure) → HasSlot k p f
    → (st : Target) (rest : List Instr) (stack : List Value)
    → runs k (procedure_code k.setting.home f ++ rest) st stack
    ≡ runs k rest st (stack ++ I64 (word (procedure_value p f.home f.number)) ∷ [])
procedure_runs k set p f has st rest stack =
    let n : ℕ = has.slot + slot_number f in
    let small = has.small in
    let inside_64 : (has.slot + slot_number f) % 2 ^ 64 ≡ n = omega (arith, small) in
    let as_word : n ≡ word (pos n) = omega (arith, ints, small) in
    global_runs k.modules k.fixed k.turns (calls k) k.own
    (extend_word ∷ instr.I64Const (slot_number f) ∷ operation Add ∷ rest) st (slots_global k.setting.home f.home)
    (I32 has.slot) stack (has.there st.bytes)
    ∙ extended_runs k set.helpers set.small has.slot (instr.I64Const (slot_number f) ∷ operation Add ∷ rest) st stack
    ∙ i64_runs k.modules k.fixed k.turns (calls k) k.own (operation Add ∷ rest) st (slot_number f)
    (stack ++ I64 has.slot ∷ [])
    ∙ operation_runs k set.helpers set.small Add has.slot (slot_number f) n rest st stack (ap Some inside_64)
    ∙ ap (λ (i : ℕ). runs k rest st (stack ++ I64 i ∷ [])) as_word
    ∙ ap (λ (v : ℤ). runs k rest st (stack ++ I64 (word v) ∷ [])) (sym has.is)

pub procedure_small : (k : Scene) (p : Modules) (f : Procedure) → HasSlot k p f
    → (pos 0 ≤ℤ procedure_value p f.home f.number) × (procedure_value p f.home f.number ≤ℤ pos 4294967295)
procedure_small k p f has = subst (λ (v : ℤ). (pos 0 ≤ℤ v) × (v ≤ℤ pos 4294967295)) (sym has.is)
    (let small = has.small in (omega (arith, ints), omega (arith, ints, small)))

pub procedure_values : ProcedureValues
procedure_values k set p ask f has none =
    plain_agrees k f.heading (with_setting (λ s. plain (procedure_code s.home f))) (procedure_code k.setting.home f)
    (λ a s. answer.Value (procedure_value p f.home f.number) s) (λ e c. refl)
    (λ s st h rest stack. record {
      st = st;
      stands = h;
      is = subst (λ (o : Option Range). IsIn o (procedure_value p f.home f.number)) (sym none)
          (procedure_small k p f has);
      run = procedure_runs k set p f has st rest stack;
    })

pub results : Results
results k t c e value typed cell he =
    value_executes k true t e (plain (instr.Return ∷ [])) (instr.Return ∷ []) value
    (λ v a s. answer.Value (Returned v) s) he (λ e c. refl)
    (λ v is e s st h rest stack. record {
      below = stack;
      st = st;
      stands = (
        h,
        λ gives. subst (λ (o : Option Ty). IsResult k.program o v) (sym typed)
            (λ d same. cell_result d same v is),
      );
      run = return_runs k.modules k.fixed k.turns (calls k) k.own rest st (stack ++ I64 (word v) ∷ []);
    })
  where
    cell_result : (d : Scalar) → tree k.setting.home.types t ≡ Cell d → (v : ℤ) → IsValue k.setting.home.types t v
        → IsOf d v × Means k.program d v
    cell_result d same v is = subst (λ (d : Scalar). IsOf d v × Means k.program d v)
        (same_cell c d (ap Some (sym cell.is ∙ same))) (cell.bounds v is, number_means k.program c v cell.number)
