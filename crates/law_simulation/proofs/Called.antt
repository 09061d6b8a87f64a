-- Calls: arguments from left to right, and then the function.
use Rattle.std.proofs.Common.{◌≡◌, ℕ, suc, ◌+◌, ◌^◌, ◌<◌, ℤ, Bool, true, List, [], ◌∷◌, ◌++◌, length, Option, Some, None, refl, sym, ap, subst, ◌∙◌, append_assoc, arith}
use Rattle.std.specs.Option.{option_and_then}
use Rattle.std.proofs.lemmas.List.{append-nil, length-append}
use Rattle.wasm_tree.specs.declared.instr.Instr.{Instr}
use Rattle.wasm_tree.specs.declared.instr.Instr.TheVariants as instr
use Rattle.wasm_tree.specs.declared.store.Value.{Value}
use Rattle.wasm_tree.specs.declared.store.Value.TheVariants.{I32}
use Rattle.wasm_tree.specs.declared.store.Callee.TheVariants.{Own}
use Rattle.wasm_tree.specs.Machine.{Typed, callee_at, callee_in, global_at, own_function, type_at, agree}
use Rattle.law_effect.specs.Effect.{State as Target, store_of, Effect, then_run, back}
use Rattle.law_effect.proofs.Steps.{split_end_at, global_runs, indirect_runs, own_runs, own_does}
use Rattle.typed_tree.specs.declared.types.TypeNo.{TypeNo}
use Rattle.layout_storage.specs.Types.{Ty, Scalar, row}
use Rattle.layout_storage.specs.Sizes.{size}
use Rattle.layout_storage.specs.Shapes.{tree}
use Rattle.def_meaning.specs.Store.{Location}
use Rattle.def_meaning.specs.Answer.{State as Source, Answer, Ended, StillRunning, ◌▷◌}
use Rattle.def_meaning.specs.Outcome.{Normal}
use Rattle.def_meaning.specs.Answer as answer
use Rattle.def_meaning.specs.Environment.{Modules, Callee, Passed, Number, Variable, Array as Whole, Text}
use Rattle.def_meaning.specs.Expressions.{Asks, Gives, all_given}
use Rattle.def_scheme.specs.Coded.{Coded, Counts, ◌⨾◌, all_coded, raise_address}
use Rattle.law_simulation.specs.Scene.{Scene, IsSet, IsCell, calls, runs, Stands, Into, GivesNumber, Grows, IsFree, HasLocals, inside, Agrees, Ends, Executes}
use Rattle.law_simulation.proofs.Parts.{into_then, grows_more, grows_same, has_before, free_after, IsPlain}
use Rattle.law_simulation.proofs.Places.{raised_runs}
use Rattle.law_simulation.specs.Frames.{Kinds, IsChain}
use Rattle.law_simulation.specs.Passing.{Form, ByNumber, ByCopy, ByName, ByArray, Forms, Result, operands_of, all_operands, IsPassed, ArePassed, none_passed, more_passed, GivesPassed, PassAll, pass_none, pass_more, GivesAll, CallGives, links, DoesAsked, GivesResult, Calls, HasTop, IsCallOf, IsCallHere}

-- ---- all arguments

pub record AllPass (k : Scene) (fs : Forms) (code : Coded) (args : Gives (List Passed)) : Type 0 where
  pub grows : (exit : ℕ) (c : Counts) → Grows c (code (inside k exit) c).1
  pub gives : (exit : ℕ) (c : Counts) → IsFree k c → HasLocals k (code (inside k exit) c).1
      → (s : Source) (st : Target) → Stands k s st → (rest : List Instr) (stack : List Value)
      → Into (GivesAll k fs (runs k rest) stack) (runs k ((code (inside k exit) c).0 ++ rest) st stack)
      (args k.around s)

pub all_pass : (k : Scene) (p : Modules) (ask : Asks) (fs : Forms) (xs : List Coded) (gs : List (Gives Passed))
    → PassAll k fs xs gs → AllPass k fs (all_coded xs) (all_given p ask gs)
all_pass k p ask _ _ _ pass_none = record {
  grows = λ e c. grows_same c;
  gives = λ e c free full s st h rest stack.
      record {
        st = st;
        stands = h;
        values = [];
        are = none_passed;
        run =
            ap (runs k rest st) (sym (append-nil stack));
      };
}
all_pass k p ask _ _ _ (pass_more f fs x xs g gs hx hxs) =
    let others = all_pass k p ask fs xs gs hxs in
    record {
      grows = λ e c. grows_more (hx.grows e c) (others.grows e (x (inside k e) c).1);
      gives = λ e c free full s st h rest stack.
          let first = x (inside k e) c in
          let second = all_coded xs (inside k e) first.1 in
          let more : Passed → Source → Answer (List Passed) =
          λ v s. (all_given p ask gs k.around s ▷ (λ vs s. answer.Value (v ∷ vs) s)) in
          subst (λ (code : List Instr). Into (GivesAll k (f ∷ fs) (runs k rest) stack) (runs k code st stack)
          (g k.around s ▷ more)) (sym (append_assoc first.0 second.0 rest))
          (into_then (GivesPassed k f (runs k (second.0 ++ rest)) stack) (GivesAll k (f ∷ fs) (runs k rest) stack)
          (runs k (first.0 ++ (second.0 ++ rest)) st stack) (g k.around s) more
          (hx.gives e c free (has_before k (others.grows e first.1) full) s st h (second.0 ++ rest) stack)
          (λ v s1 p1. subst (λ (r : Effect). Into (GivesAll k (f ∷ fs) (runs k rest) stack) r (more v s1)) (sym p1.run)
          (into_then (GivesAll k fs (runs k rest) (stack ++ p1.values)) (GivesAll k (f ∷ fs) (runs k rest) stack)
          (runs k (second.0 ++ rest) p1.st (stack ++ p1.values)) (all_given p ask gs k.around s1)
          (λ vs s. answer.Value (v ∷ vs) s)
          (others.gives e first.1 (free_after k (hx.grows e c) free) full s1 p1.st p1.stands rest (stack ++ p1.values))
          (λ vs s2 p2. record {
            st = p2.st;
            stands = p2.stands;
            values = p1.values ++ p2.values;
            are = more_passed f fs v vs p1.values p2.values p1.is p2.are;
            run = p2.run ∙ ap (runs k rest p2.st) (append_assoc stack p1.values p2.values);
          }))));
    }

-- how many operands they leave
module _ (program : Modules) (world : List Ty) (x : Location → ℕ → ℕ) where
  one_count : (f : Form) (p : Passed) (vs : List Value) → IsPassed program world x f p vs → length vs ≡ operands_of f
  one_count (ByNumber c) (Number v) vs h = ap (λ (vs : List Value). length vs) h.2
  one_count (ByNumber c) (Variable l) vs h = absurd h
  one_count (ByNumber c) (Whole l high) vs h = absurd h
  one_count (ByNumber c) (Text text) vs h = absurd h
  one_count (ByCopy t) (Number v) vs h = absurd h
  one_count (ByCopy t) (Variable l) vs h = ap (λ (vs : List Value). length vs) h.2
  one_count (ByCopy t) (Whole l high) vs h = absurd h
  one_count (ByCopy t) (Text text) vs h = absurd h
  one_count (ByName t) (Number v) vs h = absurd h
  one_count (ByName t) (Variable l) vs h = ap (λ (vs : List Value). length vs) h.2
  one_count (ByName t) (Whole l high) vs h = absurd h
  one_count (ByName t) (Text text) vs h = absurd h
  one_count (ByArray is_var t) (Number v) vs h = absurd h
  one_count (ByArray is_var t) (Variable l) vs h = absurd h
  one_count (ByArray is_var t) (Whole l high) vs h = ap (λ (vs : List Value). length vs) h.3
  one_count (ByArray is_var t) (Text text) vs h = ap (λ (vs : List Value). length vs) h.4

  pub operands_count : (fs : Forms) (ps : List Passed) (vs : List Value) → ArePassed program world x fs ps vs
      → length vs ≡ all_operands fs
  operands_count _ _ _ none_passed = refl
  operands_count _ _ _ (more_passed f fs p ps vs ws h hs) =
      let one = one_count f p vs h in
      let more = operands_count fs ps ws hs in
      let both = length-append vs ws in
      omega (arith, one, more, both)

-- ---- the function is called

module _ (k : Scene) (base : List Ty) (texts : Location → ℕ → ℕ) (top : HasTop k base texts) (p : Modules) (ask : Asks)
    (c : Callee) (kss : List Kinds) (roots : List ℕ) (chain : IsChain k.world k.hidden kss c.frames roots)
    (forms : Forms) (result : Result) (j f : ℕ) (t : Typed)
    (does : DoesAsked k.program base texts k.limit (calls k) ask c kss forms result j f t) (code : List Instr)
    (is_call : IsCallHere k code j f t)
    (count : length t.type.params ≡ suc (length (links k.world roots) + all_operands forms)) where
  -- what is passed before the arguments
  abbrev pub front : List Value
  front = I32 (size (row k.world)) ∷ links k.world roots

  back_gives : (s : Source) (st : Target) → Stands k s st
      → (rest : List Instr) (stack : List Value) (r : Effect) (a : Answer ℤ)
      → Into (CallGives k.program k.world k.hidden k.limit result st.locals stack) r a
      → Into (GivesResult k result (runs k rest) stack) (then_run r (runs k rest)) a
  back_gives s st h rest stack r (answer.Value v s') g = record {
    st = record { locals = st.locals; bytes = g.bytes; out = s'.out };
    stands = record { holds = g.holds; long = g.long; count = h.count; kept = h.kept; out = refl };
    is = g.is;
    run = ap (λ (e : Effect). then_run e (runs k rest)) g.run;
  }
  back_gives s st h rest stack r (Ended n out) g = ap (λ (e : Effect). then_run e (runs k rest)) g
  back_gives s st h rest stack r (StillRunning out) g = ap (λ (e : Effect). then_run e (runs k rest)) g

  pub call_goes : (vs : List Passed) (values : List Value) → ArePassed k.program k.world k.hidden forms vs values
      → (s : Source) (st : Target) → Stands k s st → (rest : List Instr) (stack : List Value)
      → Into (GivesResult k result (runs k rest) stack) (runs k (code ++ rest) st ((stack ++ front) ++ values))
      (ask (Some c) vs k.around.next k.around.free s)
  call_goes vs values are s st h rest stack =
      let args : List Value = front ++ values in
      let shape : (stack ++ front) ++ values ≡ stack ++ args = append_assoc stack front values in
      let many : length args ≡ length t.type.params =
      (let a = operands_count k.program k.world k.hidden forms vs values are in
      let b = length-append (links k.world roots) values in omega (arith, a, b, count)) in
      let answer : ℕ → Answer ℤ = λ n. ask (Some c) vs n k.around.free s in
      let did : List ℕ → Effect = λ out. back (length t.type.results) st.locals stack (calls k j f t args st.bytes out)
      in
      let got : Into (CallGives k.program k.world k.hidden k.limit result st.locals stack) (did s.out)
      (answer (length k.world)) =
      does k.world k.hidden top.based roots chain s st.bytes h.holds h.long vs values are k.around.free top.left
      st.locals stack in
      subst (λ (r : Effect). Into (GivesResult k result (runs k rest) stack) r (answer k.around.next))
      (sym (ap (runs k (code ++ rest) st) shape ∙ is_call s st h rest stack args many))
      (back_gives s st h rest stack (did st.out) (answer k.around.next)
      (subst (λ (n : ℕ). Into (CallGives k.program k.world k.hidden k.limit result st.locals stack) (did st.out)
      (answer n)) (sym top.next)
      (subst (λ (out : List ℕ). Into (CallGives k.program k.world k.hidden k.limit result st.locals stack) (did out)
      (answer (length k.world))) (sym h.out) got)))

  -- with its arguments before it
  module _ (xs : List Coded) (gs : List (Gives Passed)) (args : PassAll k forms xs gs) (call : Coded)
      (plainly : IsPlain k call code) where
    abbrev pub value : Gives ℤ
    value a s = all_given p ask gs a s ▷ λ vs s. ask (Some c) vs a.next a.free s

    pub args_grow : (e : ℕ) (n : Counts) → Grows n ((all_coded xs ⨾ call) (inside k e) n).1
    args_grow e n = subst (λ (q : List Instr × Counts). Grows n q.1) (sym (plainly e (all_coded xs (inside k e) n).1))
        ((all_pass k p ask forms xs gs args).grows e n)

    pub args_go : (e : ℕ) (n : Counts) → IsFree k n → HasLocals k ((all_coded xs ⨾ call) (inside k e) n).1
        → (s : Source) (st : Target) → Stands k s st → (rest : List Instr) (stack : List Value)
        → Into (GivesResult k result (runs k rest) stack)
        (runs k (((all_coded xs ⨾ call) (inside k e) n).0 ++ rest) st (stack ++ front)) (value k.around s)
    args_go e n free full s st h rest stack =
        let first = all_coded xs (inside k e) n in
        let below : List Value = stack ++ front in
        let on : List Passed → Source → Answer ℤ = λ vs s. ask (Some c) vs k.around.next k.around.free s in
        subst (λ (q : List Instr × Counts). Into (GivesResult k result (runs k rest) stack)
        (runs k ((first.0 ++ q.0) ++ rest) st below) (all_given p ask gs k.around s ▷ on)) (sym (plainly e first.1))
        (subst (λ (list : List Instr). Into (GivesResult k result (runs k rest) stack) (runs k list st below)
        (all_given p ask gs k.around s ▷ on)) (sym (append_assoc first.0 code rest))
        (into_then (GivesAll k forms (runs k (code ++ rest)) below) (GivesResult k result (runs k rest) stack)
        (runs k (first.0 ++ (code ++ rest)) st below) (all_given p ask gs k.around s) on
        ((all_pass k p ask forms xs gs args).gives e n free
        (subst (λ (q : List Instr × Counts). HasLocals k q.1) (plainly e first.1) full) s st h (code ++ rest) below)
        (λ vs s' q. subst (λ (r : Effect). Into (GivesResult k result (runs k rest) stack) r (on vs s')) (sym q.run)
        (call_goes vs q.values q.are s' q.st q.stands rest stack))))

    -- code before the arguments that leaves what is passed before them
    pub front_calls : (list : List Instr) →
        ((s : Source) (st : Target) → Stands k s st → (rest : List Instr) (stack : List Value)
        → runs k (list ++ rest) st stack ≡ runs k rest st (stack ++ front))
        → (before : Coded) → IsPlain k before list → Calls k result (before ⨾ (all_coded xs ⨾ call)) value
    front_calls list go before before_is = record {
      grows = λ e n. subst (λ (q : List Instr × Counts). Grows n ((all_coded xs ⨾ call) (inside k e) q.1).1)
          (sym (before_is e n)) (args_grow e n);
      gives = λ e n free full s st h rest stack.
          subst (λ (q : List Instr × Counts). HasLocals k ((all_coded xs ⨾ call) (inside k e) q.1).1
          → Into (GivesResult k result (runs k rest) stack)
          (runs k ((q.0 ++ ((all_coded xs ⨾ call) (inside k e) q.1).0) ++ rest) st stack) (value k.around s))
          (sym (before_is e n))
          (λ full'.
          let after = (all_coded xs ⨾ call) (inside k e) n in
          subst (λ (r : Effect). Into (GivesResult k result (runs k rest) stack) r (value k.around s))
          (sym (ap (λ (l : List Instr). runs k l st stack) (append_assoc list after.0 rest)
          ∙ go s st h (after.0 ++ rest) stack))
          (args_go e n free full' s st h rest stack)) full;
    }

-- ---- what a call is for

-- a function's value
pub call_agrees : (k : Scene) (t : TypeNo) (c : Scalar) (code : Coded) (value : Gives ℤ)
    → IsCell k.setting.home.types t c → Calls k (Some (tree k.setting.home.types t)) code value → Agrees k t code value
call_agrees k t c code value cell h = record {
  grows = h.grows;
  gives = λ e n free full s st stands rest stack. turn (value k.around s) rest stack
      (runs k ((code (inside k e) n).0 ++ rest) st stack) (h.gives e n free full s st stands rest stack);
}
  where
    turn : (a : Answer ℤ) (rest : List Instr) (stack : List Value) (r : Effect)
        → Into (GivesResult k (Some (tree k.setting.home.types t)) (runs k rest) stack) r a
        → Into (GivesNumber k t (runs k rest) stack) r a
    turn (answer.Value v s) rest stack r p =
        record { st = p.st; stands = p.stands; is = cell.values v (p.is c cell.is).0; run = p.run }
    turn (Ended n out) rest stack r p = p
    turn (StillRunning out) rest stack r p = p

-- a statement
pub call_executes : (k : Scene) (function : Bool) (code : Coded) (value : Gives ℤ) → Calls k None code value
    → Executes k function code (λ a s. value a s ▷ λ v s. answer.Value Normal s)
call_executes k function code value h = record {
  grows = h.grows;
  goes = λ e c free full s st stands rest stack. turn (value k.around s) e rest stack
      (runs k ((code (inside k e) c).0 ++ rest) st stack) (h.gives e c free full s st stands rest stack);
}
  where
    turn : (a : Answer ℤ) (e : ℕ) (rest : List Instr) (stack : List Value) (r : Effect)
        → Into (GivesResult k None (runs k rest) stack) r a
        → Ends k function e stack (λ st. runs k rest st stack) r (a ▷ λ v s. answer.Value Normal s)
    turn (answer.Value v s) e rest stack r p =
        record { st = p.st; stands = p.stands; run = p.run ∙ ap (runs k rest p.st) (append-nil stack) }
    turn (Ended n out) e rest stack r p = p
    turn (StillRunning out) e rest stack r p = p

-- ---- code that calls

pub direct_calls : (k : Scene) (g j f : ℕ) (t : Typed)
    → ((bytes : List ℕ) → callee_at (store_of k.fixed bytes) k.own g ≡ Some (Own j f))
    → own_function k.modules j f ≡ Some t → IsCallOf k (instr.Call g ∷ []) j f t
direct_calls k g j f t at_g is st rest stack args many =
    own_runs k.modules k.fixed k.turns (calls k) k.own rest st g j f t (stack ++ args) stack args (at_g st.bytes) is
    (split_end_at stack args (length t.type.params) (sym many))

-- through the table
pub table_calls : (k : Scene) → IsSet k → (global slot n type j f : ℕ) (t : Typed)
    → ((bytes : List ℕ) → global_at (store_of k.fixed bytes) k.own global ≡ Some (I32 slot)) → slot + n < 2 ^ 32
    → ((bytes : List ℕ) → callee_in (store_of k.fixed bytes) k.own (slot + n) ≡ Some (Own j f))
    → own_function k.modules j f ≡ Some t → agree (type_at k.modules k.own type) (Some t.type) ≡ true
    → IsCallOf k (instr.GlobalGet global ∷ (raise_address n ++ instr.CallIndirect type ∷ [])) j f t
table_calls k set global slot n type j f t at_global small at_slot is agreed st rest stack args many =
    let typed : agree (type_at k.modules k.own type)
    (option_and_then (λ (t : Typed). Some t.type) (own_function k.modules j f)) ≡ true =
    ap (λ (o : Option Typed). agree (type_at k.modules k.own type) (option_and_then (λ (t : Typed). Some t.type) o))
    is ∙ agreed in
    global_runs k.modules k.fixed k.turns (calls k) k.own (raise_address n ++ (instr.CallIndirect type ∷ rest)) st
    global (I32 slot) (stack ++ args) (at_global st.bytes)
    ∙ raised_runs k set.helpers set.small set.room slot n (slot + n) (instr.CallIndirect type ∷ rest) st (stack ++ args)
    refl small
    ∙ indirect_runs k.modules k.fixed k.turns (calls k) k.own rest st type (slot + n) (Own j f) (stack ++ args)
    (at_slot st.bytes) typed
    ∙ ap (λ (e : Effect). then_run e (runs k rest))
    (own_does k.modules k.fixed k.turns (calls k) k.own rest st j f t (stack ++ args) stack args is
    (split_end_at stack args (length t.type.params) (sym many)))
