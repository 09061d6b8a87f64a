-- Values of procedure types: where they come from, and where they go.
use Rattle.std.proofs.Common.{◌≡◌, ℕ, ℤ, Bool, true, false, List, [], ◌∷◌, ◌++◌, Option, Some, None, if◌then◌else◌, refl, sym, ap, subst, ◌∙◌, append_assoc, append-nil, arith}
use Rattle.std.proofs.lemmas.Int.{ints}
use Rattle.wasm_tree.specs.declared.instr.Instr.{Instr}
use Rattle.wasm_tree.specs.declared.instr.Instr.TheVariants as instr
use Rattle.wasm_tree.specs.declared.store.Value.{Value}
use Rattle.wasm_tree.specs.declared.store.Value.TheVariants.{I32, I64}
use Rattle.law_effect.specs.Effect.{State as Target, Effect, Does as Effects}
use Rattle.law_effect.proofs.Steps.{return_runs}
use Rattle.typed_tree.specs.declared.known_types.Types.{Types}
use Rattle.typed_tree.specs.declared.shape.Scalar.{Scalar as Range}
use Rattle.typed_tree.specs.declared.types.TypeNo.{TypeNo}
use Rattle.typed_tree.specs.Known.{scalar_at}
use Rattle.layout_storage.specs.Types.{Ty, Scalar, Callable, Cell, Heading, IsOf}
use Rattle.def_meaning.specs.Store.{Location}
use Rattle.def_meaning.specs.Answer.{State as Source, Answer, Ended, StillRunning, ◌▷◌, range_fault}
use Rattle.def_meaning.specs.Outcome.{Outcome, Normal, Returned}
use Rattle.def_meaning.specs.Answer as answer
use Rattle.def_meaning.specs.Environment.{Number}
use Rattle.def_meaning.specs.Expressions.{as_type, within_range}
use Rattle.def_meaning.specs.Statements.{store_number as stores}
use Rattle.law_memory.specs.Relation.{Means, IsProcedureValue, Full}
use Rattle.law_memory.proofs.Procedures.{callable_scalar}
use Rattle.law_memory.proofs.Worlds.{same_cell}
use Rattle.def_scheme.specs.Cells.{is_free, in_type, in_range, check_taken, load_code, store_code}
use Rattle.law_simulation.specs.Scene.{Scene, IsResult, IsIn, calls, runs, place, word, Stands, Into, GivesNumber, GivesPlace, inside, Ends}
use Rattle.law_simulation.proofs.Words.{IsWide}
use Rattle.law_simulation.proofs.Parts.{into_then, grows_more, grows_same, has_before, free_after}
use Rattle.law_simulation.proofs.Places.{cell_runs}
use Rattle.law_simulation.proofs.Stores.{cell_stores}
use Rattle.law_simulation.proofs.Assigned.{ends_at}
use Rattle.law_simulation.specs.Passing.{ByNumber, GivesPassed, GivesResult}
use Rattle.law_simulation.specs.Held.{GivesHeld, HeldLoads, HeldProcedures, HeldResults, HeldNumbers, HeldTaken, HeldAssigns, HeldPasses, HeldGives, NumberResults}
use Rattle.law_simulation.proofs.Called.{call_agrees}
use Rattle.law_simulation.proofs.Values.{procedure_runs, procedure_small}

-- ---- where they come from

pub held_loads : HeldLoads
held_loads k set p ask t h d found is hd = record {
  grows = λ e c. hd.grows e c;
  gives = λ e c free full s st stands rest stack.
      let first = d (inside k e) c in
      let list : List Instr = load_code k.setting.home.types t in
      subst (λ (code : List Instr). Into (GivesHeld k h (runs k rest) stack) (runs k code st stack)
      (found k.around s ▷ λ l s. answer.Value (s.store l) s)) (sym (append_assoc first.0 list rest))
      (into_then (GivesPlace k (Cell (Callable h)) (runs k (list ++ rest)) stack) (GivesHeld k h (runs k rest) stack)
      (runs k (first.0 ++ (list ++ rest)) st stack) (found k.around s) (λ l s. answer.Value (s.store l) s)
      (hd.gives e c free full s st stands (list ++ rest) stack)
      (λ l s' q.
      let says = q.stands.holds.cells l (Callable h) q.type in
      record {
        st = q.st;
        stands = q.stands;
        within = says.within;
        held = says.means;
        run = q.run ∙ cell_runs k set.helpers set.small set.room t (Callable h) is (callable_scalar h) l s' q.st
            q.stands q.type rest stack;
      }));
}

pub held_procedures : HeldProcedures
held_procedures k set ask f h has names = record {
  grows = λ e c. grows_same c;
  gives = λ e c free full s st stands rest stack.
      let small = procedure_small k k.program f has in
      record {
        st = st;
        stands = stands;
        within = record { low = small.0; high = small.1 };
        held = Full _ names;
        run = procedure_runs k set k.program f has st rest stack;
      };
}

pub held_results : HeldResults
held_results k h code value hc = record {
  grows = hc.grows;
  gives = λ e c free full s st stands rest stack. turn (value k.around s) rest stack
      (runs k ((code (inside k e) c).0 ++ rest) st stack) (hc.gives e c free full s st stands rest stack);
}
  where
    turn : (a : Answer ℤ) (rest : List Instr) (stack : List Value) (r : Effect)
        → Into (GivesResult k (Some (Cell (Callable h))) (runs k rest) stack) r a
        → Into (GivesHeld k h (runs k rest) stack) r a
    turn (answer.Value v s) rest stack r p = let is = p.is (Callable h) refl in
        record { st = p.st; stands = p.stands; within = is.0; held = is.1; run = p.run }
    turn (Ended n out) rest stack r p = p
    turn (StillRunning out) rest stack r p = p

pub number_results : NumberResults
number_results k t r code value cell hc = call_agrees k t r code value cell hc

-- ---- where they go

pub held_numbers : HeldNumbers
held_numbers k t h code value none ha = record {
  grows = ha.grows;
  gives = λ e c free full s st stands rest stack. turn (value k.around s) rest stack
      (runs k ((code (inside k e) c).0 ++ rest) st stack) (ha.gives e c free full s st stands rest stack);
}
  where
    turn : (a : Answer ℤ) (rest : List Instr) (stack : List Value) (r : Effect)
        → Into (GivesHeld k h (runs k rest) stack) r a → Into (GivesNumber k t (runs k rest) stack) r a
    turn (answer.Value v s) rest stack r p =
        record {
          st = p.st;
          stands = p.stands;
          is =
              subst (λ (o : Option Range). IsIn o v) (sym none) (p.within.low, p.within.high);
          run = p.run;
        }
    turn (Ended n out) rest stack r p = p
    turn (StillRunning out) rest stack r p = p

-- no check is made
nothing_checked : (types : Types) (t : TypeNo) (constant : Bool) (of : TypeNo) → scalar_at types t ≡ None
    → check_taken types t constant of ≡ []
nothing_checked types t constant of none = by (is_free types t constant of)
  where
    by : (b : Bool) → (if b then [] else in_type types t 1) ≡ []
    by true = refl
    by false = ap (λ (o : Option Range). in_range o 1) none

pub held_taken : HeldTaken
held_taken k set t h x value none ha = record {
  grows = λ e c. ha.grows e c;
  gives = λ e c free full s st stands rest stack.
      let first = x.code (inside k e) c in
      let next : ℤ → Source → Answer ℤ = λ v s. as_type k.around.types t v s in
      subst (λ (list : List Instr). Into (GivesHeld k h (runs k rest) stack)
      (runs k ((first.0 ++ list) ++ rest) st stack) (value k.around s ▷ next))
      (sym (nothing_checked k.setting.home.types t x.constant x.of none))
      (subst (λ (list : List Instr). Into (GivesHeld k h (runs k rest) stack) (runs k (list ++ rest) st stack)
      (value k.around s ▷ next)) (sym (append-nil first.0))
      (into_then (GivesHeld k h (runs k rest) stack) (GivesHeld k h (runs k rest) stack)
      (runs k (first.0 ++ rest) st stack) (value k.around s) next
      (ha.gives e c free full s st stands rest stack)
      (λ v s' q. subst (Into (GivesHeld k h (runs k rest) stack) (runs k (first.0 ++ rest) st stack)) (sym (stays v s'))
      q)));
}
  where
    stays : (v : ℤ) (s : Source) → as_type k.around.types t v s ≡ answer.Value v s
    stays v s = ap (λ (types : Types). within_range (scalar_at types t) range_fault v s) set.types
        ∙ ap (λ (o : Option Range). within_range o range_fault v s) none

pub held_passes : HeldPasses
held_passes k h code value ha = record {
  grows = ha.grows;
  gives = λ e c free full s st stands rest stack.
      into_then (GivesHeld k h (runs k rest) stack) (GivesPassed k (ByNumber (Callable h)) (runs k rest) stack)
      (runs k ((code (inside k e) c).0 ++ rest) st stack) (value k.around s) (λ v s. answer.Value (Number v) s)
      (ha.gives e c free full s st stands rest stack)
      (λ v s' q. record {
        st = q.st;
        stands = q.stands;
        values = I64 (word v) ∷ [];
        is = (q.within, q.held, refl);
        run =
            q.run;
      });
}

module _ (k : Scene) (function : Bool) (h : Heading) where
  -- a value first
  ends_held : (exit : ℕ) (stack below : List Value) (on : Target → Effect) (go : Effects) (r : Effect) (a : Answer ℤ)
      (next : ℤ → Source → Outcome) → Into (GivesHeld k h go below) r a
      → ((v : ℤ) → IsOf (Callable h) v → IsProcedureValue k.program h v → (s : Source) (st : Target) → Stands k s st
      → Ends k function exit stack on (go st (below ++ I64 (word v) ∷ [])) (next v s))
      → Ends k function exit stack on r (a ▷ next)
  ends_held exit stack below on go r (answer.Value v s) next p on_it =
      subst (λ (e : Effect). Ends k function exit stack on e (next v s)) (sym p.run)
      (on_it v p.within p.held s p.st p.stands)
  ends_held exit stack below on go r (Ended j out) next p on_it = p
  ends_held exit stack below on go r (StillRunning out) next p on_it = p

pub held_gives : HeldGives
held_gives k h code value typed ha = record {
  grows = λ e c. ha.grows e c;
  goes = λ e c free full s st stands rest stack.
      let first = code (inside k e) c in
      let next : ℤ → Source → Outcome = λ v s. answer.Value (Returned v) s in
      subst (λ (list : List Instr). Ends k true e stack (λ st. runs k rest st stack) (runs k list st stack)
      (value k.around s ▷ next)) (sym (append_assoc first.0 (instr.Return ∷ []) rest))
      (ends_held k true h e stack stack (λ st. runs k rest st stack) (runs k (instr.Return ∷ rest))
      (runs k (first.0 ++ (instr.Return ∷ rest)) st stack) (value k.around s) next
      (ha.gives e c free full s st stands (instr.Return ∷ rest) stack)
      (λ v within held s' st' stands'. record {
        below = stack;
        st = st';
        stands = (
          stands',
          λ gives. subst (λ (o : Option Ty). IsResult k.program o v) (sym typed)
              (λ d same. subst (λ (d : Scalar). IsOf d v × Means k.program d v)
              (same_cell (Callable h) d (ap Some same))
              (within, held)),
        );
        run = return_runs k.modules k.fixed k.turns (calls k) k.own rest st' (stack ++ I64 (word v) ∷ []);
      }));
}

wide_value : (h : Heading) (v : ℤ) → IsOf (Callable h) v → IsWide v
wide_value h v is = let low = is.low in let high = is.high in
    record { low = omega (arith, ints, low); high = omega (arith, ints, high) }

pub held_assigns : HeldAssigns
held_assigns k set function t h d e found value is hd he = record {
  grows = λ x counts. grows_more (hd.grows x counts) (he.grows x (d (inside k x) counts).1);
  goes = λ x counts free full s st stands rest stack.
      let first = d (inside k x) counts in
      let second = e (inside k x) first.1 in
      let list : List Instr = store_code k.setting.home.types t in
      let next : Location → Source → Outcome =
      λ l s. (value k.around s ▷ (λ v s. answer.Value Normal (stores l v s))) in
      subst (λ (code : List Instr). Ends k function x stack (λ st. runs k rest st stack) (runs k code st stack)
      (found k.around s ▷ next)) (sym (append_assoc first.0 (second.0 ++ list) rest
      ∙ ap (λ (c : List Instr). first.0 ++ c) (append_assoc second.0 list rest)))
      (ends_at k set.helpers set.small set.room function x stack (λ st. runs k rest st stack) (Cell (Callable h))
      (runs k (second.0 ++ (list ++ rest))) (runs k (first.0 ++ (second.0 ++ (list ++ rest))) st stack)
      (found k.around s) next
      (hd.gives x counts free (has_before k (he.grows x first.1) full) s st stands (second.0 ++ (list ++ rest)) stack)
      (λ l type s' st' stands'.
      ends_held k function h x stack (stack ++ I32 (place k l) ∷ []) (λ st. runs k rest st stack)
      (runs k (list ++ rest)) (runs k (second.0 ++ (list ++ rest)) st' (stack ++ I32 (place k l) ∷ []))
      (value k.around s') (λ v s. answer.Value Normal (stores l v s))
      (he.gives x first.1 (free_after k (hd.grows x counts) free) full s' st' stands' (list ++ rest)
      (stack ++ I32 (place k l) ∷ []))
      (λ v within held s'' st'' stands''.
      let p = cell_stores k set.helpers set.small set.room t (Callable h) is (callable_scalar h) l v within held
      (wide_value h v within) type s'' st'' stands'' rest stack in
      record { st = p.st; stands = p.stands; run = p.run })));
}
