-- How calls begin.
use Rattle.std.proofs.Common.{◌≡◌, ℕ, zero, suc, ◌+◌, ◌-◌, ℤ, pos, Bool, true, false, List, [], ◌∷◌, ◌++◌, map, length, refl, ap, sym, ◌∙◌, append-nil, append_assoc, arith}
use Rattle.std.proofs.lemmas.List.{length-map}
use Rattle.typed_tree.specs.declared.types.TypeNo.{TypeNo}
use Rattle.typed_tree.specs.declared.typed_module.Routine.{Routine}
use Rattle.typed_tree.specs.declared.known_types.Types.{Types}
use Rattle.layout_storage.specs.Frames.{formals_of, frame}
use Rattle.layout_storage.specs.Texts.{argument_text}
use Rattle.def_meaning.specs.Store.{Location, Store, assign_number, copy_whole, overlay, fresh}
use Rattle.def_meaning.specs.Answer.{State as Meant, Answer as Given}
use Rattle.def_meaning.specs.Outcome.{Outcome as Course}
use Rattle.def_meaning.specs.Environment.{Named as Name, Passed as Sent, At, Elements, Number, Variable, Array, Text}
use Rattle.def_meaning.specs.Statements.{character, store_number}
use Rattle.def_meaning.specs.Calls.{Entered, variable_at, with_passed, with_all, variables_from, enter_call, result}
use Rattle.plain_store.specs.declared.state.State.{State}
use Rattle.plain_store.specs.declared.state.Stop.{Stop}
use Rattle.plain_store.specs.declared.state.Stop.TheVariants as stop
use Rattle.plain_values.specs.declared.program.Named.{Named}
use Rattle.plain_values.specs.declared.program.Named.TheVariants as name
use Rattle.plain_steps.specs.declared.entering.Begun.{Begun}
use Rattle.plain_store.specs.Seen.{view_of, with_store, stop_meaning, stop_course}
use Rattle.plain_values.specs.Surroundings.{name_of, frames_of}
use Rattle.plain_steps.specs.Entering.{names_of, begun_of}

pub length_names : (ns : List Named) → length (names_of ns) ≡ length ns
length_names ns = length-map ns name_of

pub name_added : (ns : List Named) (n : Named) → names_of (ns ++ n ∷ []) ≡ names_of ns ++ name_of n ∷ []
name_added [] n = refl
name_added (m ∷ ns) n = ap (λ (xs : List Name). name_of m ∷ xs) (name_added ns n)

pub ruleset begins = (length_names, name_added)

abbrev begun_with : List Name → ℕ → Store → Entered
begun_with ns k s = record { names = ns; next = k; store = s }

entered_same : (ns ns' : List Name) (k k' : ℕ) (s s' : Store) → ns ≡ ns' → k ≡ k' → s ≡ s'
    → begun_with ns k s ≡ begun_with ns' k' s'
entered_same ns ns' k k' s s' a b c = ap (λ (x : List Name). begun_with x k s) a ∙ ap (λ (x : ℕ). begun_with ns' x s) b
    ∙ ap (λ (x : Store). begun_with ns' k' x) c

pub passes_number : (b b' : Begun) (st st' : Meant) (activation : ℕ) (v : ℤ) (l : Location)
    → l ≡ variable_at activation (length (names_of b.names)) → st' ≡ store_number l v st
    → names_of b'.names ≡ names_of b.names ++ At l ∷ [] → b'.next ≡ b.next
    → begun_of b' st' ≡ with_passed false activation (begun_of b st) (Number v)
passes_number b b' st st' activation v l e s n k =
    entered_same _ _ _ _ _ _ (n ∙ ap (λ (x : Location). names_of b.names ++ At x ∷ []) e) k
    (ap (λ (x : Meant). x.store) s ∙ ap (λ (x : Location). assign_number x v st.store) e)

pub passes_copy : (b b' : Begun) (st st' : Meant) (activation : ℕ) (from l : Location)
    → l ≡ variable_at activation (length (names_of b.names)) → st' ≡ with_store (copy_whole l from st.store) st
    → names_of b'.names ≡ names_of b.names ++ At l ∷ [] → b'.next ≡ b.next
    → begun_of b' st' ≡ with_passed false activation (begun_of b st) (Variable from)
passes_copy b b' st st' activation from l e s n k =
    entered_same _ _ _ _ _ _ (n ∙ ap (λ (x : Location). names_of b.names ++ At x ∷ []) e) k
    (ap (λ (x : Meant). x.store) s ∙ ap (λ (x : Location). copy_whole x from st.store) e)

pub passes_elements : (b b' : Begun) (st st' : Meant) (activation high : ℕ) (from l : Location) → l ≡ b.next ∷ []
    → st' ≡ with_store (copy_whole l from st.store) st
    → names_of b'.names ≡ names_of b.names ++ Elements (b.next ∷ []) high ∷ [] → b'.next ≡ suc b.next
    → begun_of b' st' ≡ with_passed false activation (begun_of b st) (Array from high)
passes_elements b b' st st' activation high from l e s n k =
    entered_same _ _ _ _ _ _ n k (ap (λ (x : Meant). x.store) s ∙ ap (λ (x : Location). copy_whole x from st.store) e)

pub passes_text : (b b' : Begun) (st st' : Meant) (is_var : Bool) (activation high : ℕ) (text : List ℕ) (l : Location)
    → l ≡ b.next ∷ [] → st' ≡ with_store (overlay l (character text) st.store) st
    → names_of b'.names ≡ names_of b.names ++ Elements (b.next ∷ []) high ∷ [] → b'.next ≡ suc b.next
    → high ≡ length text - 1 → begun_of b' st' ≡ with_passed is_var activation (begun_of b st) (Text text)
passes_text b b' st st' is_var activation high text l e s n k h =
    entered_same _ _ _ _ _ _ (n ∙ ap (λ (x : ℕ). names_of b.names ++ Elements (b.next ∷ []) x ∷ []) (h ∙ high_is text))
    k (ap (λ (x : Meant). x.store) s ∙ ap (λ (x : Location). overlay x (character text) st.store) e)
  where
    high_is : (text : List ℕ) → length text - 1 ≡ length (argument_text text) - 1
    high_is [] = omega arith
    high_is (c ∷ cs) = refl

pub out_stored : (st st' : Meant) (l : Location) (v : ℤ) → st' ≡ store_number l v st → st'.out ≡ st.out
out_stored st st' l v s = ap (λ (x : Meant). x.out) s

pub out_kept : (st st' : Meant) (s : Store) → st' ≡ with_store s st → st'.out ≡ st.out
out_kept st st' s e = ap (λ (x : Meant). x.out) e

pub ruleset stores = (passes_number, passes_copy, passes_elements, passes_text, out_stored, out_kept)

-- ---- both sorts of formals

pub any_number : (is_var : Bool) (activation : ℕ) (e r : Entered) (v : ℤ)
    → r ≡ with_passed false activation e (Number v) → r ≡ with_passed is_var activation e (Number v)
any_number is_var activation e r v h = h

pub value_formal : (is_var : Bool) (activation : ℕ) (e r : Entered) (v : Sent) → is_var ≡ false
    → r ≡ with_passed false activation e v → r ≡ with_passed is_var activation e v
value_formal is_var activation e r v f h = h ∙ ap (λ (b : Bool). with_passed b activation e v) (sym f)

pub var_variable : (is_var : Bool) (b b' : Begun) (st : Meant) (activation : ℕ) (l : Location) → is_var ≡ true
    → names_of b'.names ≡ names_of b.names ++ At l ∷ [] → b'.next ≡ b.next
    → begun_of b' st ≡ with_passed is_var activation (begun_of b st) (Variable l)
var_variable is_var b b' st activation l f n k = entered_same _ _ _ _ _ _ n k refl
    ∙ ap (λ (x : Bool). with_passed x activation (begun_of b st) (Variable l)) (sym f)

pub var_elements : (is_var : Bool) (b b' : Begun) (st : Meant) (activation high : ℕ) (l : Location) → is_var ≡ true
    → names_of b'.names ≡ names_of b.names ++ Elements l high ∷ [] → b'.next ≡ b.next
    → begun_of b' st ≡ with_passed is_var activation (begun_of b st) (Array l high)
var_elements is_var b b' st activation high l f n k = entered_same _ _ _ _ _ _ n k refl
    ∙ ap (λ (x : Bool). with_passed x activation (begun_of b st) (Array l high)) (sym f)

pub ruleset either = (any_number, value_formal, var_variable, var_elements)

-- ---- variables

pub no_more : (ns : List Named) (activation v : ℕ) → names_of ns ≡ names_of ns ++ variables_from activation v []
no_more ns activation v = sym (append-nil (names_of ns))

pub one_more : (ns all : List Named) (l : Location) (t : TypeNo) (ts : List TypeNo) (r : List Name) (activation : ℕ)
    → all ≡ ns ++ name.At l ∷ [] → l ≡ variable_at activation (length ns)
    → r ≡ names_of all ++ variables_from activation (length (names_of all)) ts
    → r ≡ names_of ns ++ variables_from activation (length (names_of ns)) (t ∷ ts)
one_more ns all l t ts r activation e h g =
    let names : names_of all ≡ names_of ns ++ At (variable_at activation (length (names_of ns))) ∷ [] =
    ap (λ (x : List Named). names_of x) e ∙ name_added ns (name.At l)
    ∙ ap (λ (x : Location). names_of ns ++ At x ∷ [])
    (h ∙ ap (λ (k : ℕ). variable_at activation k) (sym (length_names ns))) in
    g ∙ ap (λ (x : List Name). x ++ variables_from activation (length x) ts) names
    ∙ ap (λ (k : ℕ). (names_of ns ++ At (variable_at activation (length (names_of ns))) ∷ [])
    ++ variables_from activation k ts) (longer (names_of ns) (At (variable_at activation (length (names_of ns)))))
    ∙ append_assoc (names_of ns) (At (variable_at activation (length (names_of ns))) ∷ [])
    (variables_from activation (suc (length (names_of ns))) ts)
  where
    longer : (xs : List Name) (x : Name) → length (xs ++ x ∷ []) ≡ suc (length xs)
    longer [] x = refl
    longer (y ∷ xs) x = ap suc (longer xs x)

pub ruleset variables = (no_more, one_more)

-- ---- the end of a body

pub halts_too : (function : Bool) (s : Stop) (st : State) → result function (stop_course s st) ≡ stop_meaning s st
halts_too function (stop.Ended k) st = refl
halts_too function stop.StillRunning st = refl

pub ruleset results = (halts_too)

-- ---- all that is begun

pub begun_is : (types : Types) (r : Routine) (activation : ℕ) (vs : List Sent) (b b' : Begun) (st st1 st2 : Meant)
    (l : Location) (s : Store) → l ≡ activation ∷ [] → s ≡ fresh (frame types r)
    → st1 ≡ with_store (overlay l s st.store) st → b.names ≡ [] → b.next ≡ activation + 1
    → begun_of b' st2 ≡ with_all activation (formals_of types r.heading) vs (begun_of b st1)
    → begun_of b' st2 ≡ enter_call types r activation vs st.store
begun_is types r activation vs b b' st st1 st2 l s e f g n k h =
    h ∙ ap (λ (x : Entered). with_all activation (formals_of types r.heading) vs x)
    (entered_same _ _ _ _ _ _ (ap (λ (x : List Named). names_of x) n) (k ∙ omega arith)
    (ap (λ (x : Meant). x.store) g ∙ ap (λ (x : Location). overlay x s st.store) e
    ∙ ap (λ (x : Store). overlay (activation ∷ []) x st.store) f))

pub out_begun : (st st1 st2 : Meant) (s : Store) → st1 ≡ with_store s st → st2.out ≡ st1.out → st2.out ≡ st.out
out_begun st st1 st2 s e f = f ∙ ap (λ (x : Meant). x.out) e

pub ruleset enters = (begun_is, out_begun)

pub frames_are : (own : List Named) (outer all : List (List Named)) (ns : List Name) → all ≡ own ∷ outer
    → names_of own ≡ ns → frames_of all ≡ ns ∷ frames_of outer
frames_are own outer all ns e h = ap (λ (x : List (List Named)). frames_of x) e
    ∙ ap (λ (x : List Name). x ∷ frames_of outer) h
