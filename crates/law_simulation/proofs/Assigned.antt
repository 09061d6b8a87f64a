-- Variables are read and assigned to.
use Rattle.std.proofs.Common.{◌≡◌, ℕ, ◌^◌, ◌<◌, ℤ, Bool, Some, List, [], ◌∷◌, ◌++◌, sym, ap, subst, ◌∙◌, append_assoc}
use Rattle.wasm_tree.specs.declared.instr.Instr.{Instr}
use Rattle.wasm_tree.specs.declared.store.Value.{Value}
use Rattle.wasm_tree.specs.declared.store.Value.TheVariants.{I32}
use Rattle.law_effect.specs.Effect.{State as Target, Effect, Does as Effects}
use Rattle.typed_tree.specs.declared.types.TypeNo.{TypeNo}
use Rattle.typed_tree.specs.declared.meaning.Variable.{Variable}
use Rattle.layout_storage.specs.Types.{Ty, Scalar, Cell, row, component}
use Rattle.def_meaning.specs.Store.{Location}
use Rattle.def_meaning.specs.Answer.{State as Source, Answer, Ended, StillRunning, ◌▷◌}
use Rattle.def_meaning.specs.Outcome.{Outcome, Normal}
use Rattle.def_meaning.specs.Answer as answer
use Rattle.def_meaning.specs.Expressions.{Gives}
use Rattle.def_meaning.specs.Statements.{store_number as stores}
use Rattle.def_scheme.specs.Coded.{Coded, Counts, ◌⨾◌}
use Rattle.def_scheme.specs.Cells.{load_code, store_code}
use Rattle.def_scheme.specs.Exprs.{global_code}
use Rattle.law_simulation.specs.Scene.{Scene, runs, place, HasHelpers, AreSmall, IsCell, IsGlobal, Stands, Into, GivesNumber, GivesPlace, Grows, HasLocals, inside, Agrees, Locates, Ends, Executes}
use Rattle.law_simulation.proofs.Parts.{into_then, grows_more, grows_same, has_before, free_after, IsPlain}
use Rattle.law_simulation.proofs.Places.{loaded_gives, global_gives}
use Rattle.law_simulation.proofs.Stores.{stored_goes}
use Rattle.law_simulation.proofs.Statements.{ends_with}

module _ (k : Scene) (has : HasHelpers k) (small : AreSmall k.setting.home.types) (room : k.limit < 2 ^ 32) where
  -- a variable of a module
  pub global_locates : (v : Variable) (l : Location) (t : Ty) (code : Coded) → IsGlobal k v l t
      → IsPlain k code (global_code k.setting.home v) → Locates k t code (λ a s. answer.Value l s)
  global_locates v l t code is plainly = record {
    grows = λ e c. subst (λ (p : List Instr × Counts). Grows c p.1) (sym (plainly e c)) (grows_same c);
    gives = λ e c free full s st h rest stack.
        subst (λ (p : List Instr × Counts). Into (GivesPlace k t (runs k rest) stack) (runs k (p.0 ++ rest) st stack)
        (answer.Value l s)) (sym (plainly e c)) (global_gives k has small room v l t is s st h rest stack);
  }

  -- what it holds
  pub load_agrees : (t : TypeNo) (c : Scalar) (d after : Coded) (found : Gives Location)
      → IsCell k.setting.home.types t c → Locates k (Cell c) d found
      → IsPlain k after (load_code k.setting.home.types t)
      → Agrees k t (d ⨾ after) (λ a s. found a s ▷ λ l s. answer.Value (s.store l) s)
  load_agrees t c d after found cell hd plainly = record {
    grows = λ e c. subst (λ (p : List Instr × Counts). Grows c p.1) (sym (plainly e (d (inside k e) c).1))
        (hd.grows e c);
    gives = λ e counts free full s st h rest stack.
        let first = d (inside k e) counts in
        let list : List Instr = load_code k.setting.home.types t in
        let found_is : Source → Answer ℤ = λ s. (found k.around s ▷ (λ l s. answer.Value (s.store l) s)) in
        subst (λ (p : List Instr × Counts). Into (GivesNumber k t (runs k rest) stack)
        (runs k ((first.0 ++ p.0) ++ rest) st stack) (found_is s)) (sym (plainly e first.1))
        (subst (λ (code : List Instr). Into (GivesNumber k t (runs k rest) stack) (runs k code st stack) (found_is s))
        (sym (append_assoc first.0 list rest))
        (into_then (GivesPlace k (Cell c) (runs k (list ++ rest)) stack) (GivesNumber k t (runs k rest) stack)
        (runs k (first.0 ++ (list ++ rest)) st stack) (found k.around s) (λ l s. answer.Value (s.store l) s)
        (hd.gives e counts free (subst (λ (p : List Instr × Counts). HasLocals k p.1) (plainly e first.1) full) s st h
        (list ++ rest) stack)
        (λ l s' p. subst (λ (r : Effect). GivesNumber k t (runs k rest) stack (s'.store l) s' r) (sym p.run)
        (loaded_gives k has small room t c cell l s' p.st p.stands p.type rest stack))));
  }

  module _ (function : Bool) where
    -- an address first
    pub ends_at : (exit : ℕ) (stack : List Value) (on : Target → Effect) (t : Ty) (go : Effects) (r : Effect)
        (a : Answer Location) (next : Location → Source → Outcome) → Into (GivesPlace k t go stack) r a
        → ((l : Location) → component (row k.world) l ≡ Some t → (s : Source) (st : Target) → Stands k s st
        → Ends k function exit stack on (go st (stack ++ I32 (place k l) ∷ [])) (next l s))
        → Ends k function exit stack on r (a ▷ next)
    ends_at exit stack on t go r (answer.Value l s) next p h =
        subst (λ (e : Effect). Ends k function exit stack on e (next l s)) (sym p.run) (h l p.type s p.st p.stands)
    ends_at exit stack on t go r (Ended j out) next p h = p
    ends_at exit stack on t go r (StillRunning out) next p h = p

    -- the address stands below the value
    pub assign_executes : (t : TypeNo) (c : Scalar) (d e after : Coded) (found : Gives Location) (value : Gives ℤ)
        → IsCell k.setting.home.types t c → Locates k (Cell c) d found → Agrees k t e value
        → IsPlain k after (store_code k.setting.home.types t)
        → Executes k function (d ⨾ e ⨾ after)
        (λ a s. found a s ▷ λ l s. value a s ▷ λ v s. answer.Value Normal (stores l v s))
    assign_executes t c d e after found value cell hd he plainly = record {
      grows = λ x counts.
          let middle = (d (inside k x) counts).1 in
          let last = (e (inside k x) middle).1 in
          grows_more (hd.grows x counts) (subst (λ (p : List Instr × Counts). Grows middle p.1) (sym (plainly x last))
          (he.grows x middle));
      goes = λ x counts free full s st h rest stack.
          let first = d (inside k x) counts in
          let second = e (inside k x) first.1 in
          let list : List Instr = store_code k.setting.home.types t in
          let outcome : Source → Outcome = λ s.
          (found k.around s ▷ (λ l s. value k.around s ▷ λ v s. answer.Value Normal (stores l v s))) in
          let full' : HasLocals k second.1 = subst (λ (p : List Instr × Counts). HasLocals k p.1) (plainly x second.1)
          full in
          subst (λ (p : List Instr × Counts). Ends k function x stack (λ st. runs k rest st stack)
          (runs k ((first.0 ++ (second.0 ++ p.0)) ++ rest) st stack) (outcome s)) (sym (plainly x second.1))
          (subst (λ (code : List Instr). Ends k function x stack (λ st. runs k rest st stack) (runs k code st stack)
          (outcome s)) (sym (append_assoc first.0 (second.0 ++ list) rest
          ∙ ap (λ (c : List Instr). first.0 ++ c) (append_assoc second.0 list rest)))
          (ends_at x stack (λ st. runs k rest st stack) (Cell c) (runs k (second.0 ++ (list ++ rest)))
          (runs k (first.0 ++ (second.0 ++ (list ++ rest))) st stack) (found k.around s)
          (λ l s. value k.around s ▷ λ v s. answer.Value Normal (stores l v s))
          (hd.gives x counts free (has_before k (he.grows x first.1) full') s st h (second.0 ++ (list ++ rest)) stack)
          (λ l type s' st' h'.
          ends_with k function x stack (stack ++ I32 (place k l) ∷ []) (λ st. runs k rest st stack) t
          (runs k (list ++ rest)) (runs k (second.0 ++ (list ++ rest)) st' (stack ++ I32 (place k l) ∷ []))
          (value k.around s') (λ v s. answer.Value Normal (stores l v s))
          (he.gives x first.1 (free_after k (hd.grows x counts) free) full' s' st' h' (list ++ rest)
          (stack ++ I32 (place k l) ∷ []))
          (λ v is s'' st'' h''. let p = stored_goes k has small room t c cell l v is type s'' st'' h'' rest stack in
          record { st = p.st; stands = p.stands; run = p.run }))));
    }
