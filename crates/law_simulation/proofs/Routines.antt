-- A procedure's function: its prologue, its body, and its end.
use Rattle.std.proofs.Common.{◌≡◌, ⊎_elim, ℕ, zero, suc, ◌+◌, ◌-◌, ◌^◌, ◌<◌, ◌≤◌, ℤ, pos, Bool, List, [], ◌∷◌, ◌++◌, map, length, Option, Some, None, if◌then◌else◌, refl, sym, ap, subst, ◌∙◌, append_assoc, append-nil, length-append, arith}
use Rattle.std.specs.Prelude.{get_or, slice_get, nat_eq, nat_lt, replicate}
use Rattle.std.specs.List.{flat_map}
use Rattle.std.specs.Int.{w64, to_le_bytes}
use Rattle.std.proofs.lemmas.Bool.{cases_eq, eq-eqb, ne_eqb, le-ltb, lt-ltb}
use Rattle.wasm_tree.specs.declared.instr.Instr.{Instr}
use Rattle.wasm_tree.specs.declared.instr.Instr.TheVariants as instr
use Rattle.wasm_tree.specs.declared.instr.StoreWidth.TheVariants as width
use Rattle.wasm_tree.specs.declared.store.Value.{Value}
use Rattle.wasm_tree.specs.declared.store.Value.TheVariants.{I32, I64}
use Rattle.wasm_tree.specs.Machine.{Typed, zeros}
use Rattle.law_effect.specs.Effect.{State as Target, Effect, FellThrough, Returned, Ended, Calling, or_traps, back_with, back}
use Rattle.law_effect.proofs.Steps.{i64_runs, stop_runs, split_end_at}
use Rattle.typed_tree.specs.declared.types.TypeNo.{TypeNo}
use Rattle.typed_tree.specs.declared.known_types.Types.{Types}
use Rattle.typed_tree.specs.declared.typed_module.Routine.{Routine}
use Rattle.typed_tree.specs.declared.typed_module.TypedModule.{TypedModule}
use Rattle.layout_storage.specs.Types.{Ty, row, component, IsFit}
use Rattle.layout_storage.specs.Sizes.{size, offset}
use Rattle.layout_storage.specs.Frames.{formals_of, frame}
use Rattle.layout_storage.specs.Shapes.{tree}
use Rattle.def_meaning.specs.Store.{Location, Store, overlay, fresh}
use Rattle.def_meaning.specs.Answer as answer
use Rattle.def_meaning.specs.Answer.{State as Source, Answer, StillRunning}
use Rattle.def_meaning.specs.Outcome.{Outcome, Normal, Exited}
use Rattle.def_meaning.specs.Outcome as outcome
use Rattle.def_meaning.specs.Environment.{Modules, Environment, Named, Frames, Passed}
use Rattle.def_meaning.specs.Calls.{Entered, with_all, is_function, is_there as there_meaning, result, enter_call, environment_of, variables_from, storage_need}
use Rattle.def_meaning.specs.Expressions.{Asks}
use Rattle.law_memory.specs.Relation.{Holds}
use Rattle.law_memory.proofs.Worlds.{row_size, call_ends, offset_old}
use Rattle.def_scheme.specs.Coded.{Counts, fault}
use Rattle.def_scheme.specs.Exprs.{Numbered}
use Rattle.def_scheme.specs.Functions.{link_arguments, enter_code, link_kept, formals_kept, prologue, from_text, locals_of, end_code}
use Rattle.law_simulation.specs.Begun.{body_does}
use Rattle.law_simulation.specs.Scene.{Scene, HasHelpers, IsSet, IsResult, calls, runs, word, Stands, Into, IsFree, HasLocals, Ends}
use Rattle.law_simulation.specs.Frames.{Kind, Kept, Kinds, kind_tree, frame_kinds, formal_kind, kinds_of, AreNamed, IsLink, IsChain, chain_end, chain_more, HasFrames}
use Rattle.law_simulation.proofs.Headings.{has_it, means_it}
use Rattle.law_simulation.proofs.CallsSlots.{frame_component}
use Rattle.law_simulation.specs.Passing.{Forms, Result, forms_of, result_of, result_values, ArePassed, none_passed, more_passed, IsBased, CallGives, links, HasTop}
use Rattle.law_simulation.specs.Stage.{kind_of, copies_of, with_forms, forms_kept, HasLimit}
use Rattle.law_simulation.specs.ProceduresLaws.{kept_in, top_of, body_scene, is_inner, IsProcedure, coded_body, locals_in, IsFunction, DoesBody, callee_of, RoutineDoes}
use Rattle.law_simulation.proofs.Rooms.{keeps_placed, older_placed}
use Rattle.law_simulation.proofs.Steps.{OnStage}
use Rattle.law_simulation.proofs.Formals.{one_count, get_first, get_second, FormsDone, forms_go}
use Rattle.law_simulation.proofs.Formed.{copies_bytes, two_rows, all_names, all_kinds, frame_is, formals_code, total, arguments_are}
use Rattle.law_simulation.proofs.Begins.{Start, FrameDone, begin_goes, link_step, chain_old}

-- ---- the locals that are kept

none_some : {A : Type 0} (x : A) → None ≡ Some x → ⊥
none_some x e = cc e

kept_first : (frame free top : ℕ) → kept_in frame free top 0 ≡ Some (I32 frame)
kept_first frame free top = refl

pub kept_top : (frame free top : ℕ) → 0 < top → kept_in frame free top top ≡ Some (I32 free)
kept_top frame free top posi =
    let ne : top ≡ 0 → ⊥ = λ e. omega (arith, e, posi) in
    ap (λ (b : Bool). if b then Some (I32 frame) else (if nat_eq top top then Some (I32 free) else None))
    (ne_eqb top 0 ne) ∙ ap (λ (b : Bool). if b then Some (I32 free) else None) (eq-eqb top top refl)

pub kept_none : (frame free top w : ℕ) → top < w → kept_in frame free top w ≡ None
kept_none frame free top w more =
    let n0 : w ≡ 0 → ⊥ = λ e. omega (arith, e, more) in
    let n1 : w ≡ top → ⊥ = λ e. omega (arith, e, more) in
    ap (λ (b : Bool). if b then Some (I32 frame) else (if nat_eq w top then Some (I32 free) else None)) (ne_eqb w 0 n0)
    ∙ ap (λ (b : Bool). if b then Some (I32 free) else None) (ne_eqb w top n1)

pub kept_is : (frame free top : ℕ) (locals : List Value) → slice_get locals 0 ≡ Some (I32 frame)
    → slice_get locals top ≡ Some (I32 free) → (w : ℕ) (v : Value) → kept_in frame free top w ≡ Some v
    → slice_get locals w ≡ Some v
kept_is frame free top locals at_0 at_top w v e =
    ⊎_elim
    (λ (is : w ≡ 0).
    let same : Some (I32 frame) ≡ Some v =
    sym (ap (λ (b : Bool). if b then Some (I32 frame) else (if nat_eq w top then Some (I32 free) else None))
    (eq-eqb w 0 is)) ∙ e in
    ap (slice_get locals) is ∙ at_0 ∙ same)
    (λ (not_0 : w ≡ 0 → ⊥).
    let e' : (if nat_eq w top then Some (I32 free) else None) ≡ Some v =
    sym (ap (λ (b : Bool). if b then Some (I32 frame) else (if nat_eq w top then Some (I32 free) else None))
    (ne_eqb w 0 not_0)) ∙ e in
    ⊎_elim
    (λ (is : w ≡ top).
    let same : Some (I32 free) ≡ Some v = sym (ap (λ (b : Bool). if b then Some (I32 free) else None) (eq-eqb w top is))
    ∙ e' in
    ap (slice_get locals) is ∙ at_top ∙ same)
    (λ (other : w ≡ top → ⊥). absurd (none_some v
    (sym (ap (λ (b : Bool). if b then Some (I32 free) else None) (ne_eqb w top other)) ∙ e')))
    (cases_eq w top))
    (cases_eq w 0)

-- ---- variables behind the formals

variables_named : (types : Types) (world : List Ty) (x : Location → ℕ → ℕ) (root v : ℕ) (ts : List TypeNo)
    → AreNamed world x root v (map (λ t. Kept (tree types t)) ts) (variables_from root v ts)
variables_named types world x root v [] = tt
variables_named types world x root v (t ∷ ts) = (refl, variables_named types world x root (suc v) ts)

both_named : (world : List Ty) (x : Location → ℕ → ℕ) (root v : ℕ) (ks ls : Kinds) (ns ms : List Named)
    → AreNamed world x root v ks ns → AreNamed world x root (v + length ns) ls ms
    → AreNamed world x root v (ks ++ ls) (ns ++ ms)
both_named world x root v [] ls [] ms h g = subst (λ (n : ℕ). AreNamed world x root n ls ms) (none v) g
  where
    none : (v : ℕ) → v + 0 ≡ v
    none v = omega arith
both_named world x root v [] ls (n ∷ ns) ms h g = absurd h
both_named world x root v (k ∷ ks) ls [] ms h g = absurd h
both_named world x root v (k ∷ ks) ls (n ∷ ns) ms h g = (
  h.0,
  both_named world x root (suc v) ks ls ns ms h.1
      (subst (λ (n : ℕ). AreNamed world x root n ls ms) (one v (length ns)) g),
)
  where
    one : (v n : ℕ) → v + suc n ≡ suc v + n
    one v n = omega arith

-- ---- the end of a function

abbrev pub arity : Result → ℕ
arity r = if there_meaning r then 1 else 0

module _ (k : Scene) (r : Result) (base : List Ty) (x0 : Location → ℕ → ℕ) (more : List Ty)
    (is : k.world ≡ base ++ more) (ranged : k.result ≡ r)
    (older : (i : ℕ) (p : Location) (j : ℕ) → i < length base → k.hidden (i ∷ p) j ≡ x0 (i ∷ p) j)
    (locals below : List Value) where
  abbrev Comes : ℤ → Source → Effect → Type 0
  Comes = CallGives k.program base x0 k.limit r locals below

  holds_again : (s : Source) (st : Target) → Stands k s st → Holds k.program base x0 s.store st.bytes
  holds_again s st h = call_ends k.program base more x0 k.hidden s.store st.bytes (λ i p j l. older i p j l)
      (subst (λ (w : List Ty). Holds k.program w k.hidden s.store st.bytes) is h.holds)

  came_back : (s : Source) (st : Target) → Stands k s st → (stack values : List Value) (v : ℤ) → length values ≡ arity r
      → values ≡ result_values r v → IsResult k.program r v → (R : Effect)
      → R ≡ back_with (arity r) locals below st (stack ++ values) → Comes v s R
  came_back s st h stack values v count same is_result R e = record {
    bytes = st.bytes;
    holds = holds_again s st h;
    long = h.long;
    is = is_result;
    run =
        e
        ∙ ap (λ o. or_traps st.out o (λ (p : List Value × List Value). FellThrough (record st { locals = locals })
        (below ++ p.1))) (split_end_at stack values (arity r) (sym count))
        ∙ ap (λ (out : List ℕ). FellThrough (record { locals = locals; bytes = st.bytes; out = out }) (below ++ values))
        h.out
        ∙ ap (λ (vs : List Value). FellThrough (record { locals = locals; bytes = st.bytes; out = s.out })
        (below ++ vs)) same;
  }

module _ (k : Scene) (has : HasHelpers k) (base : List Ty) (x0 : Location → ℕ → ℕ) (more : List Ty)
    (is : k.world ≡ base ++ more) (older : (i : ℕ) (p : Location) (j : ℕ) → i < length base
    → k.hidden (i ∷ p) j ≡ x0 (i ∷ p) j) (locals below : List Value) where
  abbrev Back : Result → Outcome → Effect → Type 0
  Back r o R = Into (CallGives k.program base x0 k.limit r locals below) (back (arity r) locals below R)
      (result (there_meaning r) o)

  faults : (st : Target) → runs k (fault 6) st [] ≡ Ended 6 st.out
  faults st =
      i64_runs k.modules k.fixed k.turns (calls k) k.own (instr.Call 1 ∷ instr.Unreachable ∷ []) st 6 []
      ∙ stop_runs k.modules k.fixed k.turns (calls k) k.own (instr.Unreachable ∷ []) st 1 6 [] (has.stop st.bytes)

  pub ends_back : (r : Result) → k.result ≡ r → (o : Outcome) (R : Effect)
      → ((s : Source) → o ≡ answer.Value Exited s → ⊥)
      → Ends k (there_meaning r) 0 [] (λ st. runs k (end_code (there_meaning r)) st []) R o → Back r o R
  ends_back None ranged (answer.Value Normal s) R stays p =
      came_back k None base x0 more is ranged older locals below s p.st p.stands [] [] (pos 0) refl refl tt _
      (ap (back 0 locals below) p.run)
  ends_back None ranged (answer.Value (outcome.Returned v) s) R stays p =
      came_back k None base x0 more is ranged older locals below s p.st p.stands.0 p.below [] v refl refl tt _
      (ap (back 0 locals below) (p.run ∙ ap (λ (vs : List Value). Returned p.st vs) (sym (append-nil p.below))))
  ends_back (Some rng) ranged (answer.Value Normal s) R stays p =
      ap (back 1 locals below) (p.run ∙ faults p.st ∙ ap (λ (out : List ℕ). Ended 6 out) p.stands.out)
  ends_back (Some rng) ranged (answer.Value (outcome.Returned v) s) R stays p =
      came_back k (Some rng) base x0 more is ranged older locals below s p.st p.stands.0 p.below (I64 (word v) ∷ []) v
      refl refl (subst (λ (o : Option Ty). IsResult k.program o v) ranged (p.stands.1 refl)) _
      (ap (back 1 locals below) p.run)
  ends_back None ranged (answer.Value Exited s) R stays p = absurd (stays s refl)
  ends_back (Some rng) ranged (answer.Value Exited s) R stays p = absurd (stays s refl)
  ends_back None ranged (answer.Ended j out) R stays p = ap (back 0 locals below) p
  ends_back (Some rng) ranged (answer.Ended j out) R stays p = ap (back 1 locals below) p
  ends_back None ranged (StillRunning out) R stays p = ap (back 0 locals below) p
  ends_back (Some rng) ranged (StillRunning out) R stays p = ap (back 1 locals below) p

-- ---- the whole function

front_get : (ks ls : Kinds) (j : ℕ) (kind : Kind) → slice_get ks j ≡ Some kind → slice_get (ks ++ ls) j ≡ Some kind
front_get [] ls j kind e = absurd (none_some kind e)
front_get (k ∷ ks) ls zero kind e = e
front_get (k ∷ ks) ls (suc j) kind e = front_get ks ls j kind e

whole_of : (t : Ty) → component t [] ≡ Some t
unfolding component
whole_of t = refl

pub length_zeros : (n : ℕ) (v : Value) → length (replicate n v) ≡ n
length_zeros zero v = refl
length_zeros (suc n) v = ap suc (length_zeros n v)

values_count : (program : Modules) (world : List Ty) (x : Location → ℕ → ℕ) (types : Types) (fs : Forms)
    (ps : List Passed) (vs : List Value) → ArePassed program world x fs ps vs → length vs ≡ total types fs
values_count program world x types _ _ _ none_passed = refl
values_count program world x types _ _ _ (more_passed f fs p ps vs ws h hs) =
    let one = one_count program world x f p vs h in
    let more = values_count program world x types fs ps ws hs in
    let both = length-append vs ws in
    omega (arith, one, more, both)

links_count : (world : List Ty) (x : Location → ℕ → ℕ) (r : Routine) (kss : List Kinds) (nss : Frames) (roots : List ℕ)
    → nat_lt 1 r.level ≡ is_inner kss → IsChain world x kss nss roots → length (links world roots) ≡ link_arguments r
links_count world x r _ _ _ linked chain_end = sym (ap (λ (b : Bool). if b then 1 else 0) linked)
links_count world x r _ _ _ linked (chain_more ks kss ns nss root roots type names link chain) =
    sym (ap (λ (b : Bool). if b then 1 else 0) linked)

module _ (k : Scene) (p : Modules) (ask asks : Asks) (called : Calling) (numbered : Numbered) (m : TypedModule)
    (place : ℕ) (r : Routine) (outer : List Ty) (text : ℕ) (kss : List Kinds) (base : List Ty)
    (texts : Location → ℕ → ℕ) (f : ℕ) (t : Typed)
    (proc : IsProcedure k m r outer kss) (fn : IsFunction numbered m r outer text t)
    (body : DoesBody k p ask numbered m place r outer text kss base texts) where
  abbrev many : ℕ
  many = locals_in numbered m r outer text

  abbrev top : ℕ
  top = top_of m r

  abbrev scene_at : (world : List Ty) (x : Location → ℕ → ℕ) (root : ℕ) → Environment → Scene
  scene_at world x root a = body_scene k m r outer many world x root a

  abbrev kinds : Kinds
  kinds = kinds_of m.types r

  abbrev F : Ty
  F = frame_kinds kinds

  abbrev forms : Forms
  forms = forms_of m.types r.heading

  abbrev gives : Result
  gives = result_of m.types r.heading

  abbrev coded : List Instr × Counts
  coded = coded_body numbered m r outer text

  helpers_at : (world : List Ty) (x : Location → ℕ → ℕ) (root : ℕ) (a : Environment)
      → HasHelpers (scene_at world x root a)
  helpers_at world x root a = let has = proc.helpers in record {
    memory = has.memory;
    put = has.put;
    stop = has.stop;
    check = has.check;
    check_index = has.check_index;
    check_there = has.check_there;
    quotient = has.quotient;
    quotient_index = has.quotient_index;
    quotient_there = has.quotient_there;
    remainder = has.remainder;
    remainder_index = has.remainder_index;
    remainder_there = has.remainder_there;
    copy = has.copy;
    copy_index = has.copy_index;
    copy_there = has.copy_there;
    fill = has.fill;
    fill_index = has.fill_index;
    fill_there = has.fill_there;
    levels = has.levels;
    serves = has.serves;
    many = has.many;
  }

  set_at : (world : List Ty) (x : Location → ℕ → ℕ) (root : ℕ) (a : Environment) → a.types ≡ m.types
      → IsSet (scene_at world x root a)
  set_at world x root a e = let small = proc.limit.small in
      record { helpers = helpers_at world x root a; types = e; small = proc.small; room = omega (arith, small) }

  limit_at : (world : List Ty) (x : Location → ℕ → ℕ) (root : ℕ) (a : Environment) → HasLimit (scene_at world x root a)
  limit_at world x root a = record { there = proc.limit.there; small = proc.limit.small }

  posi : 0 < top
  posi = omega arith

  two : suc top < many
  two = omega arith

  -- any scene for the prologue
  abbrev nowhere : Environment
  nowhere = record { place = place; types = m.types; frames = []; withs = []; next = 0; free = 0 }

  abbrev K0 : Scene
  K0 = scene_at [] (λ l j. 0) 0 nowhere

  abbrev after_forms : List Instr
  after_forms = coded.0 ++ end_code (there_meaning gives)

  code_is : t.function.body.code ≡ enter_code top (size F)
      ++ (link_kept r ++ (forms_kept top F 0 (suc (link_arguments r)) forms ++ after_forms))
  code_is =
      let formals = formals_of m.types r.heading in
      fn.code
      ∙ ap (λ (b : Bool). prologue m.types r top (suc top) ++ (coded.0 ++ end_code b)) (has_it m.types r.heading)
      ∙ ap (λ (u : Ty). (enter_code top (size u)
      ++ (link_kept r ++ formals_kept m.types top (suc top) u 0 (suc (link_arguments r)) formals)) ++ after_forms)
      (frame_is m.types r)
      ∙ ap (λ (c : List Instr). (enter_code top (size F) ++ (link_kept r ++ c)) ++ after_forms)
      (formals_code m.types top F 0 (suc (link_arguments r)) formals)
      ∙ append_assoc (enter_code top (size F)) (link_kept r ++ forms_kept top F 0 (suc (link_arguments r)) forms)
      after_forms
      ∙ ap (λ (c : List Instr). enter_code top (size F) ++ c)
      (append_assoc (link_kept r) (forms_kept top F 0 (suc (link_arguments r)) forms) after_forms)

  locals_many : (args : List Value) → length args ≡ top → length (args ++ flat_map zeros t.function.body.locals) ≡ many
  locals_many args e =
      let same : length (flat_map zeros t.function.body.locals) ≡ length (flat_map zeros (locals_of coded.1)) =
      ap (λ ls. length (flat_map zeros ls)) fn.locals in
      let one = length_zeros (2 + coded.1.addresses) (I32 0) in
      let other = length_zeros coded.1.numbers (I64 0) in
      let inner = length-append (replicate coded.1.numbers (I64 0)) [] in
      let both = length-append (replicate (2 + coded.1.addresses) (I32 0)) (replicate coded.1.numbers (I64 0) ++ []) in
      let all = length-append args (flat_map zeros t.function.body.locals) in
      omega (arith, all, same, both, one, other, inner, e)

  module _ (nss : Frames) (world : List Ty) (x : Location → ℕ → ℕ) (based : IsBased base texts world x) (roots : List ℕ)
      (chain : IsChain world x kss nss roots) (s : Source) (bytes : List ℕ)
      (holds : Holds k.program world x s.store bytes) (long : length bytes ≡ k.limit)
      (vs : List Passed) (values : List Value) (passed : ArePassed k.program world x forms vs values) (left : ℕ)
      (whole : size (row world) + left ≡ k.limit) (locals below : List Value) where
    abbrev root : ℕ
    root = length world

    abbrev args : List Value
    args = I32 (size (row world)) ∷ (links world roots ++ values)

    args_many : length args ≡ top
    args_many =
        let one = links_count world x r kss nss roots proc.linked chain in
        let two' = values_count k.program world x m.types forms vs values passed in
        let three = arguments_are m.types (formals_of m.types r.heading) in
        let both = length-append (links world roots) values in
        omega (arith, one, two', three, both)

    abbrev st0 : Target
    st0 = record { locals = args ++ flat_map zeros t.function.body.locals; bytes = bytes; out = s.out }

    starts : Start K0 top args s.out world x s.store st0
    starts = record {
      holds = holds;
      long = long;
      count = locals_many args args_many;
      at = refl;
      kept = λ i less_0 less. get_first args (flat_map zeros t.function.body.locals) i
          (let e = args_many in omega (arith, less, e));
      shown = refl;
    }

    abbrev world1 : List Ty
    world1 = world ++ F ∷ []

    abbrev store1 : Store
    store1 = overlay (root ∷ []) (fresh F) s.store

    abbrev Staged : (Location → ℕ → ℕ) → Target → Type 0
    Staged y st = OnStage K0 (set_at [] (λ l j. 0) 0 nowhere refl) (limit_at [] (λ l j. 0) 0 nowhere) root top F args
        s.out posi two world1 y store1 st

    abbrev x1 : Location → ℕ → ℕ
    x1 = overlay (root ∷ []) (λ q j. 0) x

    older1 : (i : ℕ) (q : Location) (j : ℕ) → i < length world → x1 (i ∷ q) j ≡ x (i ∷ q) j
    older1 i q j less = older_placed root [] (λ q j. 0) x i q j less

    -- the link is written, where there is one
    record Linked (roots' : List ℕ) (st : Target) (rest : List Instr) : Type 0 where
      y : Location → ℕ → ℕ
      m' : List ℕ
      stage : Staged y (record st { bytes = m' })
      older : (i : ℕ) (q : Location) (j : ℕ) → i < length world → y (i ∷ q) j ≡ x (i ∷ q) j
      link : IsLink world y root roots'
      run : runs K0 (link_kept r ++ rest) st [] ≡ runs K0 rest (record st { bytes = m' }) []

    abbrev link_code : Bool → List Instr
    link_code b = if b then instr.LocalGet 0 ∷ instr.LocalGet 1 ∷ instr.Store width.Eight ∷ [] else []

    links_by : (kss : List Kinds) (nss : Frames) (roots' : List ℕ) → nat_lt 1 r.level ≡ is_inner kss
        → IsChain world x kss nss roots' → slice_get args 1 ≡ slice_get (links world roots' ++ values) 0
        → (st : Target) → Staged x1 st → (rest : List Instr) → Linked roots' st rest
    links_by _ _ _ linked chain_end at st g rest = record {
      y = x1;
      m' = st.bytes;
      stage = g;
      older = older1;
      link = tt;
      run = ap (λ (b : Bool). runs K0 (link_code b ++ rest) st []) linked;
    }
    links_by _ _ _ linked (chain_more ks kss ns nss r' rs type names link chain) at st g rest =
        let n : ℕ = offset (row world) (r' ∷ []) in
        let one : link_arguments r ≡ 1 = ap (λ (b : Bool). if b then 1 else 0) linked in
        let more : 1 < top = omega (arith, one) in
        let step = link_step K0 (set_at [] (λ l j. 0) 0 nowhere refl) (limit_at [] (λ l j. 0) 0 nowhere) root top kinds
        args s.out posi two world1 x1 store1 st n rest more at g in
        record {
          y = overlay (root ∷ 0 ∷ 0 ∷ []) (λ q j. get_or (to_le_bytes w64 n) j 0) x1;
          m' = step.0;
          stage = step.1;
          older = λ i q j less. older_placed root (0 ∷ 0 ∷ []) (λ q j. get_or (to_le_bytes w64 n) j 0) x1 i q j less
              ∙ older1 i q j less;
          link = keeps_placed (root ∷ 0 ∷ 0 ∷ []) (to_le_bytes w64 n) x1;
          run = ap (λ (b : Bool). runs K0 (link_code b ++ rest) st []) linked ∙ step.2;
        }

    abbrev e0 : Entered
    e0 = record { names = []; next = suc root; store = store1 }

    abbrev e1 : Entered
    e1 = with_forms root forms vs e0

    abbrev copies : List Ty
    copies = copies_of forms vs

    abbrev world2 : List Ty
    world2 = world1 ++ copies

    abbrev need : ℕ
    need = storage_need m.types r vs

    sizes : size (row world2) ≡ size (row world) + need
    sizes =
        let a = row_size world F in
        let b = two_rows world1 copies in
        let c = copies_bytes m.types k.program world x (formals_of m.types r.heading) vs values passed in
        let d : size (frame m.types r) ≡ size F = ap size (frame_is m.types r) in
        omega (arith, a, b, c, d)

    -- what the language makes of the formals
    entered_is : enter_call m.types r root vs s.store ≡ e1
    entered_is =
        ap (λ (u : Ty). with_all root (formals_of m.types r.heading) vs
        (record { names = []; next = suc root; store = overlay (root ∷ []) (fresh u) s.store }))
        (frame_is m.types r)
        ∙ all_names m.types root (formals_of m.types r.heading) vs e0

    abbrev body_around : Environment
    body_around = environment_of (callee_of place m r nss) root e1 (left - need)

    abbrev entered_state : Source
    entered_state = record s { store = e1.store }

    abbrev answer_body : Answer ℤ
    answer_body = result (is_function m.types r) (body_does p k.turns ask r.body body_around entered_state)

    abbrev Gives : Answer ℤ → Effect → Type 0
    Gives a R = Into (CallGives k.program world x k.limit gives locals below) (back (arity gives) locals below R) a

    abbrev Done : (Location → ℕ → ℕ) → List Instr → Effect → Type 0
    Done y rest R = FormsDone K0 (set_at [] (λ l j. 0) 0 nowhere refl) (limit_at [] (λ l j. 0) 0 nowhere) root top F
        args s.out posi two world x refl world1 y e0 forms vs rest R

    -- where storage does not suffice on both sides
    fails : (R : Effect) → R ≡ Ended 8 s.out → left < need
        → Gives (if nat_lt left need then answer.Ended 8 s.out else answer_body) R
    fails R e less = subst (λ (b : Bool). Gives (if b then answer.Ended 8 s.out else answer_body) R)
        (sym (lt-ltb left need less)) (ap (back (arity gives) locals below) e)

    -- the body runs in its own scene
    module _ (y : Location → ℕ → ℕ) (older : (i : ℕ) (q : Location) (j : ℕ) → i < length world
        → y (i ∷ q) j ≡ x (i ∷ q) j) (link : IsLink world y root roots) (R : Effect) (d : Done y after_forms R) where
      x2 : Location → ℕ → ℕ
      x2 = d.x'

      older2 : (i : ℕ) (q : Location) (j : ℕ) → i < length world → d.x' (i ∷ q) j ≡ x (i ∷ q) j
      older2 i q j less = d.same.older i q j less ∙ older i q j less

      joined : world2 ≡ world ++ (F ∷ copies)
      joined = append_assoc world (F ∷ []) copies

      abbrev K : Scene
      K = scene_at world2 d.x' root body_around

      link_of : (kss : List Kinds) (nss : Frames) (roots' : List ℕ) → IsChain world x kss nss roots'
          → IsLink world y root roots' → IsLink (world ++ (F ∷ copies)) d.x' root roots'
      link_of _ _ _ chain_end h = tt
      link_of _ _ _ (chain_more ks kss ns nss r' rs type names link' chain') h =
          subst (λ (a : ℕ). (j : ℕ) → j < 8 → d.x' (root ∷ 0 ∷ 0 ∷ []) j ≡ get_or (to_le_bytes w64 a) j 0)
          (sym (offset_old world (F ∷ copies) r' [] (frame_kinds ks) type))
          (λ j less. d.same.own 0 (0 ∷ []) j (omega arith) ∙ h j less)

      names_of : AreNamed world2 d.x' root 0 kinds (e1.names ++ variables_from root (length e1.names) r.variables)
      names_of =
          let none : e1.names ≡ d.new = d.names in
          let formals : AreNamed world2 d.x' root 0 (map (formal_kind m.types) (formals_of m.types r.heading))
          e1.names =
          subst (λ (ns : List Named). AreNamed world2 d.x' root 0
          (map (formal_kind m.types) (formals_of m.types r.heading)) ns) (sym none)
          (subst (λ (ks : Kinds). AreNamed world2 d.x' root 0 ks d.new)
          (all_kinds m.types (formals_of m.types r.heading)) d.named)
          in
          both_named world2 d.x' root 0 (map (formal_kind m.types) (formals_of m.types r.heading))
          (map (λ t. Kept (tree m.types t)) r.variables) e1.names
          (variables_from root (length e1.names) r.variables) formals
          (subst (λ (n : ℕ). AreNamed world2 d.x' root n (map (λ t. Kept (tree m.types t)) r.variables)
          (variables_from root (length e1.names) r.variables)) (zero_plus (length e1.names))
          (variables_named m.types world2 d.x' root (length e1.names) r.variables))
        where
          zero_plus : (n : ℕ) → n ≡ 0 + n
          zero_plus n = omega arith

      chain_of : IsChain world2 d.x' (kinds ∷ kss) body_around.frames (root ∷ roots)
      chain_of =
          chain_more kinds kss (e1.names ++ variables_from root (length e1.names) r.variables) nss root roots
          d.stage.own names_of
          (subst (λ (w : List Ty). IsLink w d.x' root roots) (sym joined) (link_of kss nss roots chain link))
          (subst (λ (w : List Ty). IsChain w d.x' kss nss roots) (sym joined)
          (chain_old world (F ∷ copies) x d.x' older2 kss nss roots chain))

      frames_of : HasFrames K (kinds ∷ kss)
      frames_of = record {
        roots = root ∷ roots;
        chain = chain_of;
        frames = (frame_is m.types r, proc.frames);
        own =
            refl;
      }

      room : need ≤ left
      room = let h = d.stage.holds.room in let l = d.stage.long in let s' = sizes in omega (arith, h, l, s', whole)

      top_of' : HasTop K base texts
      top_of' = record {
        kept = kept_top (offset (row world2) (root ∷ [])) (size (row world2)) top posi;
        next = d.next;
        left = (let s' = sizes in let r' = room in omega (arith, s', r', whole));
        based = record {
          more = based.more ++ (F ∷ copies);
          is = joined ∙ ap (λ (w : List Ty). w ++ (F ∷ copies)) based.is ∙ append_assoc base based.more (F ∷ copies);
          same = λ i q j less. older2 i q j (let e = ap (λ (w : List Ty). length w) based.is in
              let l = length-append base based.more in omega (arith, less, e, l)) ∙ based.same i q j less;
        };
      }

      stands : Stands K entered_state d.st'
      stands = record {
        holds = d.stage.holds;
        long = d.stage.long;
        count = d.stage.count;
        kept = kept_is (offset (row world2) (root ∷ [])) (size (row world2)) top d.st'.locals d.stage.at d.stage.free;
        out = d.stage.shown;
      }

      free_of : IsFree K (from_text text)
      free_of = record {
        numbers = λ w h. kept_none (offset (row world2) (root ∷ [])) (size (row world2)) top w (omega (arith, h));
        addresses = λ w h g. kept_none (offset (row world2) (root ∷ [])) (size (row world2)) top w (omega (arith, h));
      }

      full : HasLocals K coded.1
      full = let e = fn.addresses in record { numbers = omega (arith, e); addresses = omega (arith, e) }

      succeeds : Gives (if nat_lt left need then answer.Ended 8 s.out else answer_body) R
      succeeds =
          let here = body.executes world2 d.x' root body_around refl refl refl
          (set_at world2 d.x' root body_around refl) frames_of top_of' in
          let b : is_function m.types r ≡ there_meaning gives = means_it m.types r.heading in
          let goes : Ends K (is_function m.types r) 0 [] (λ st. runs K (end_code (there_meaning gives)) st [])
          (runs K after_forms d.st' []) (body_does p k.turns ask r.body body_around entered_state) =
          subst (λ (q : List Instr × Counts). HasLocals K q.1
          → Ends K (is_function m.types r) 0 [] (λ st. runs K (end_code (there_meaning gives)) st [])
          (runs K (q.0 ++ end_code (there_meaning gives)) d.st' [])
          (body_does p k.turns ask r.body body_around entered_state)) body.same
          (λ full'. here.goes 0 (from_text text) free_of full' entered_state d.st' stands
          (end_code (there_meaning gives)) []) full
          in
          let goes' = subst (λ (b : Bool). Ends K b 0 [] (λ st. runs K (end_code (there_meaning gives)) st [])
          (runs K after_forms d.st' []) (body_does p k.turns ask r.body body_around entered_state)) b goes in
          let came = ends_back K (helpers_at world2 d.x' root body_around) world x (F ∷ copies) joined older2 locals
          below gives refl (body_does p k.turns ask r.body body_around entered_state) (runs K after_forms d.st' [])
          (λ s'. body.stays body_around entered_state s') goes' in
          subst (λ (c : Bool). Gives (if c then answer.Ended 8 s.out else answer_body) R) (sym (le-ltb left need room))
          (subst (λ (R : Effect). Gives answer_body R) (sym d.run)
          (subst (λ (b : Bool). Gives (result b (body_does p k.turns ask r.body body_around entered_state))
          (runs K after_forms d.st' [])) (sym b) came))

    -- the whole
    goes_on : Gives (if nat_lt left need then answer.Ended 8 s.out else answer_body)
        (runs K0 t.function.body.code st0 [])
    goes_on =
        let set = set_at [] (λ l j. 0) 0 nowhere refl in
        let lim = limit_at [] (λ l j. 0) 0 nowhere in
        let rest1 : List Instr = link_kept r ++ (forms_kept top F 0 (suc (link_arguments r)) forms ++ after_forms) in
        let path : runs K0 t.function.body.code st0 [] ≡ runs K0 (enter_code top (size F) ++ rest1) st0 [] =
        ap (λ (c : List Instr). runs K0 c st0 []) code_is in
        let fit : IsFit F = subst IsFit (frame_is m.types r) proc.fit in
        let small : size F < 2 ^ 31 = subst (λ (u : Ty). size u < 2 ^ 31) (frame_is m.types r) proc.least in
        let d : size (frame m.types r) ≡ size F = ap size (frame_is m.types r) in
        subst (λ (R : Effect). Gives (if nat_lt left need then answer.Ended 8 s.out else answer_body) R) (sym path)
        (⊎_elim
        (λ (done : FrameDone K0 set lim top F args s.out posi two world x s.store fit small rest1
        (runs K0 (enter_code top (size F) ++ rest1) st0 [])).
        let linked = links_by kss nss roots proc.linked chain refl done.st' done.stage
        (forms_kept top F 0 (suc (link_arguments r)) forms ++ after_forms) in
        let count = links_count world x r kss nss roots proc.linked chain in
        let long1 = length-append world (F ∷ []) in
        let many' = args_many in
        let both = length-append (links world roots) values in
        let newest : suc root ≡ length world1 = omega (arith, long1) in
        ⊎_elim
        (λ (d2 : Done linked.y after_forms (runs K0 (forms_kept top F 0 (suc (link_arguments r)) forms ++ after_forms)
        (record done.st' { bytes = linked.m' }) [])).
        subst (λ (R : Effect). Gives (if nat_lt left need then answer.Ended 8 s.out else answer_body) R)
        (sym (done.run ∙ linked.run)) (succeeds linked.y linked.older linked.link _ d2))
        (λ (over : (k.limit < size (row (world1 ++ copies_of forms vs)))
        × (runs K0 (forms_kept top F 0 (suc (link_arguments r)) forms ++ after_forms)
        (record done.st' { bytes = linked.m' }) [] ≡ Ended 8 s.out)).
        fails _ (done.run ∙ linked.run ∙ over.1) (let o = over.0 in let s' = sizes in omega (arith, o, s', whole)))
        (forms_go K0 set lim root top F args s.out posi two world x refl forms vs values passed proc.forms world1
        linked.y e0 (record done.st' { bytes = linked.m' }) (suc (link_arguments r)) 0 after_forms refl
        (omega arith) linked.stage newest (F ∷ []) refl linked.older
        (λ j less. ap (λ (n : ℕ). slice_get args n) (at_values (link_arguments r) (length (links world roots)) j count)
        ∙ get_second (links world roots) values j) (omega (arith, count, many', both))
        (λ j kind e. ap (λ (n : ℕ). component F (suc n ∷ [])) (zero_plus j)
        ∙ frame_component kinds j kind [] (kinds_first j kind e) ∙ whole_of (kind_tree kind))))
        (λ (over : (k.limit < size (row world) + size F)
        × (runs K0 (enter_code top (size F) ++ rest1) st0 [] ≡ Ended 8 s.out)). fails _ over.1
        (let o = over.0 in omega (arith, o, d, whole)))
        (begin_goes K0 set lim top F args s.out posi two world x s.store fit small st0 starts rest1))
      where
        at_values : (n l j : ℕ) → l ≡ n → suc n + j ≡ suc (l + j)
        at_values n l j e = omega (arith, e)

        zero_plus : (n : ℕ) → 0 + n ≡ n
        zero_plus n = omega arith

        kinds_first : (j : ℕ) (kind : Kind) → slice_get (map kind_of forms) j ≡ Some kind
            → slice_get kinds j ≡ Some kind
        kinds_first j kind e =
            front_get (map (formal_kind m.types) (formals_of m.types r.heading))
            (map (λ t. Kept (tree m.types t)) r.variables) j kind
            (subst (λ (ks : Kinds). slice_get ks j ≡ Some kind) (all_kinds m.types (formals_of m.types r.heading))
            e)

pub routine_does : RoutineDoes
routine_does k p ask asks called numbered m place r outer text kss base texts f t proc fn body enters nss asked world x
    based roots chain s bytes holds long vs values passed left whole locals below =
    let results : length t.type.results ≡ arity (result_of m.types r.heading) = fn.results
    ∙ ap (λ (b : Bool). if b then 1 else 0) (has_it m.types r.heading) in
    let args : List Value = I32 (size (row world)) ∷ (links world roots ++ values) in
    let on : ℕ → Effect → Type 0 = λ n R. Into
    (CallGives k.program world x k.limit (result_of m.types r.heading) locals below) (back n locals below R)
    (asks (Some (callee_of place m r nss)) vs (length world) left s) in
    subst (λ (n : ℕ). on n (called k.own f t args bytes s.out)) (sym results)
    (subst (λ (R : Effect). on (arity (result_of m.types r.heading)) R) (sym (enters args bytes s.out))
    (subst (λ (a : Answer ℤ). Into (CallGives k.program world x k.limit (result_of m.types r.heading) locals below)
    (back (arity (result_of m.types r.heading)) locals below
    (runs k t.function.body.code (record {
      locals = args ++ flat_map zeros t.function.body.locals;
      bytes = bytes;
      out = s.out;
    }) [])) a) (sym (asked vs (length world) left s))
    (subst (λ (e : Entered). Into (CallGives k.program world x k.limit (result_of m.types r.heading) locals below)
    (back (arity (result_of m.types r.heading)) locals below
    (runs k t.function.body.code (record {
      locals = args ++ flat_map zeros t.function.body.locals;
      bytes = bytes;
      out = s.out;
    }) []))
    (if nat_lt left (storage_need m.types r vs) then answer.Ended 8 s.out else result (is_function m.types r)
    (body_does p k.turns ask r.body (environment_of (callee_of place m r nss) (length world) e
    (left - storage_need m.types r vs)) (record s { store = e.store }))))
    (sym (entered_is k p ask asks called numbered m place r outer text kss base texts f t proc fn body nss world x based
    roots chain s bytes holds long vs values passed left whole locals below))
    (goes_on k p ask asks called numbered m place r outer text kss base texts f t proc fn body nss world x based roots
    chain s bytes holds long vs values passed left whole locals below))))
