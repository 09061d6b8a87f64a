-- Typed statements: the strict meaning is the meaning.
use Rattle.std.proofs.Common.{◌≡◌, ℕ, zero, suc, ◌≤◌, ℤ, pos, ◌+ℤ◌, Bool, true, false, List, [], ◌∷◌, ◌++◌, map, length, Option, Some, None, if◌then◌else◌, refl, sym, ap, subst, ◌∙◌}
use Rattle.std.specs.Prelude.{nat_lt, ◌&&◌, not, unsigned_abs}
use Rattle.std.specs.List.{list_any}
use Rattle.std.proofs.lemmas.Bool.{le-ltb}
use Rattle.typed_tree.specs.declared.computed.Call.{Call}
use Rattle.typed_tree.specs.declared.computed.Component.{Component}
use Rattle.typed_tree.specs.declared.computed.Place.{Place}
use Rattle.typed_tree.specs.declared.computed.Root.{Root}
use Rattle.typed_tree.specs.declared.computed.TypedExpr.{TypedExpr}
use Rattle.typed_tree.specs.declared.statement.Change.{Change}
use Rattle.typed_tree.specs.declared.statement.Membership.{Membership}
use Rattle.typed_tree.specs.declared.statement.TypedArm.{TypedArm, out-TypedArm}
use Rattle.typed_tree.specs.declared.statement.TypedStmt.{TypedStmt, TypedStmt-F, out-TypedStmt}
use Rattle.typed_tree.specs.declared.statement.TypedStmt.TheOpen as step
use Rattle.typed_tree.specs.declared.statement.TypedStmt.TheVariants as stmt
use Rattle.typed_tree.specs.declared.types.TypeNo.{TypeNo}
use Rattle.typed_tree.specs.declared.known_types.Types.{Types}
use Rattle.typed_tree.specs.Types.{char, bitset}
use Rattle.typed_tree.specs.Known.{scalar_at}
use Rattle.layout_storage.specs.Types.{Ty, Scalar, Natural, Callable, Cell, Array, Heading, component}
use Rattle.layout_storage.specs.Shapes.{tree}
use Rattle.def_meaning.specs.Store.{Location, copy_whole, overlay}
use Rattle.def_meaning.specs.Answer.{State, Answer, Value, ◌▷◌, range_fault, overflow, case_fault, halt_status, Ended}
use Rattle.def_meaning.specs.Outcome.{Outcome, Normal, Returned}
use Rattle.def_meaning.specs.Environment.{Modules, Environment}
use Rattle.def_meaning.specs.Operators.{is_true}
use Rattle.def_meaning.specs.Calls.{is_there}
use Rattle.def_meaning.specs.Expressions.{Asks, Gives, value, locate, as_type}
use Rattle.def_meaning.specs.Statements as meaning
use Rattle.def_meaning.specs.Statements.{Does, Arm, does, in_turn, if_there, or_else, choose_arm, is_labelled, store_number, character, loop_left, loop_outcome, while_true, until_true, has_passed, for_turns, for_all, base_of, change_by, recheck_value, with_element}
use Rattle.law_memory.specs.Relation.{IsProcedureValue}
use Rattle.law_memory.proofs.Places.{when}
use Rattle.law_memory.proofs.Worlds.{same_cell}
use Rattle.law_simulation.specs.Scene.{IsCell}
use Rattle.law_simulation.specs.Passing.{Result}
use Rattle.law_simulation.specs.TreesTyped as trees
use Rattle.law_simulation.specs.TreesTyped.{Context}
use Rattle.law_simulation.specs.StmtsTyped as typed
use Rattle.law_nothing_missing.proofs.StmtsMeant.{arm_does, step_meant, step_means, arm_means}
use Rattle.law_nothing_missing.specs.Worlds.{World, type_at, is_like, has_room}
use Rattle.law_nothing_missing.specs.Expressions as places
use Rattle.law_nothing_missing.specs.Expressions.{is_ranged, is_number_type, if_provided, at_cell}
use Rattle.law_nothing_missing.specs.Statements as strict
use Rattle.law_nothing_missing.specs.Statements.{are_ranged}
use Rattle.def_scheme.specs.Cells.{base_in}
use Rattle.typed_tree.specs.declared.shape.Scalar.{Scalar as Range}
use Rattle.law_nothing_missing.proofs.Does as strictly
use Rattle.law_nothing_missing.proofs.Worlds.{none_some, there_behind, alike_itself, HoldsProcedures, IsFine, fine_placed}
use Rattle.law_nothing_missing.proofs.Same.{Any, Same, gives, ends, still, SameEnd, goes, leaves, returns, stops, unfinished, same_then, end_with, end_then, end_if, same_provided, same_within, same_range}
use Rattle.law_nothing_missing.proofs.Frames.{no_pairs, more_pairs, pairs_append, IsGood}
use Rattle.law_nothing_missing.proofs.Exprs.{ranged, AllSame, Knows, Fits, Both, E, H, D, C, no_procedure, cell_there, type_checked, cell_taken, expr_same, procedure_expr_same, place_same, calls_same}

-- ---- what variables hold

-- a number
pub cell_holds : (p : Modules) (c : Scalar) (v : ℤ) → ((h : Heading) → c ≡ Callable h → IsProcedureValue p h v)
    → HoldsProcedures p (Cell c) (λ r. v)
unfolding component
cell_holds p c v good = record { each = each }
  where
    each : (r : Location) (h : Heading) → component (Cell c) r ≡ Some (Cell (Callable h)) → IsProcedureValue p h v
    each [] h e = good h (same_cell c (Callable h) e)
    each (i ∷ r) h e = absurd (none_some (Cell (Callable h)) e)

-- characters
pub text_holds : (p : Modules) (n : ℕ) (f : Location → ℤ) → HoldsProcedures p (Array n (Cell (Natural 255))) f
unfolding component
text_holds p n f = record { each = each }
  where
    no_array : (t : Ty) (h : Heading) → Some (Array n t) ≡ Some (Cell (Callable h)) → ⊥
    no_array t h e = cc e

    character_cell : (r : Location) (h : Heading) → component (Cell (Natural 255)) r ≡ Some (Cell (Callable h)) → ⊥
    character_cell [] h e = cc (same_cell (Natural 255) (Callable h) e)
    character_cell (i ∷ r) h e = none_some (Cell (Callable h)) e

    each : (r : Location) (h : Heading) → component (Array n (Cell (Natural 255))) r ≡ Some (Cell (Callable h))
        → IsProcedureValue p h (f r)
    each [] h e = absurd (no_array (Cell (Natural 255)) h e)
    each (i ∷ r) h e = absurd (character_cell r h
        (when (nat_lt i n) (component (Cell (Natural 255)) r) (Cell (Callable h)) e).1)

callable_in : (h g : Heading) → Callable h ≡ Callable g → h ≡ g
callable_in h g e = cc e

cell_in : (t : Ty) (c d : Scalar) → t ≡ Cell c → t ≡ Cell d → c ≡ d
cell_in t c d e f = same_cell c d (ap Some (sym e ∙ f))

module _ (x : Context) (lacking : ℕ) (world : World) (sask ask : Asks) (knows : Knows x world)
    (all : AllSame x.p world sask ask) (result : Result) (function : Bool) (kind : function ≡ is_there result) (n : ℕ)
  where
    abbrev P : Modules
    P = x.p

    abbrev types : Types
    types = x.home.types

    abbrev sdo : TypedStmt → Does
    sdo s = strict.does lacking P sask world n function s

    abbrev IsAt : Ty → Location → Type 0
    IsAt t l = type_at world l ≡ Some t

    abbrev End : Bool → Outcome → Outcome → Type 0
    End l y z = SameEnd P world l (IsGood P result) y z

    -- from a state in which the procedure variables hold procedures, the same
    abbrev Turn : Bool → (State → Outcome) → (State → Outcome) → Type 0
    Turn l f g = (st : State) → IsFine P world st.store → End l (f st) (g st)

    abbrev pub Ends : (ws : List Ty) → Bool → Does → Does → Type 0
    Ends ws l f g = (a : Environment) → Fits x world ws a → Turn l (f a) (g a)

    abbrev S : (ws : List Ty) → Bool → TypedStmt → Type 0
    S ws l s = Ends ws l (sdo s) (does P ask n s)

    abbrev pub Ss : (ws : List Ty) → Bool → List TypedStmt → Type 0
    Ss ws l ss = Ends ws l (in_turn (map sdo ss)) (in_turn (map (does P ask n) ss))

    abbrev Ex : (ws : List Ty) → TypedExpr → Type 0
    Ex ws e = E x lacking world sask ask knows all ws e

    abbrev Hx : (ws : List Ty) → TypedExpr → Heading → Type 0
    Hx ws e h = H x lacking world sask ask knows all ws e h

    abbrev Dx : (ws : List Ty) → Place → Ty → Type 0
    Dx ws d t = D x lacking world sask ask knows all ws d t

    abbrev cells : {c : Scalar} {y z : Answer Location} → Same P world (IsAt (Cell c)) y z
        → Same P world (IsAt (Cell c)) (y ▷ (at_cell lacking P sask world)) z
    cells h = cell_there x lacking world sask ask knows all h

    -- a number that is stored
    store_goes : (l : Bool) (c : Scalar) (at : Location) (v : ℤ) (st : State) → IsFine P world st.store
        → IsAt (Cell c) at
        → ((h : Heading) → c ≡ Callable h → IsProcedureValue P h v)
        → End l (Value Normal (store_number at v st)) (Value Normal (store_number at v st))
    store_goes l c at v st fine is good = goes (store_number at v st)
        (fine_placed P world st.store at (Cell c) (λ r. v) fine is (cell_holds P c v good))

    from_stmt : (ws : List Ty) (l : Bool) (s : TypedStmt) (y : TypedStmt-F TypedStmt TypedArm) → out-TypedStmt s ≡ y
        → Ends ws l (strict.step_layer lacking P sask world n function
        (strictly.step_meant lacking P sask world n function y)) (meaning.step_layer P ask n (step_meant P ask n y))
        → S ws l s
    from_stmt ws l s y h m =
        subst (λ (f : Does). Ends ws l f (does P ask n s))
        (sym (strictly.step_means lacking P sask world n function s y h))
        (subst (λ (f : Does). Ends ws l (strict.step_layer lacking P sask world n function
        (strictly.step_meant lacking P sask world n function y)) f) (sym (step_means P ask n s y h)) m)

    -- ---- simple statements

    assign_same : (ws : List Ty) (l : Bool) (d : Place) (t : TypeNo) (c : Scalar) (e : TypedExpr) → IsCell types t c
        → Dx ws d (Cell c) → Ex ws e → S ws l (stmt.Assign d t e)
    assign_same ws l d t c e cell m q = from_stmt ws l (stmt.Assign d t e) (step.Assign d t e) (stmt.outs-Assign d t e)
        (λ a fit st fine. end_with P world (cells (m a fit st fine))
        (λ at st fine is. end_with P world (q a fit st fine) (λ v st fine good.
        end_with P world (type_checked x lacking world sask ask knows all Any ws t v a fit st fine
        (cell_taken x lacking world sask ask knows all t c cell.is) tt)
        (λ v st fine good. store_goes l c at v st fine is (no_procedure P c v cell.number)))))

    assign_procedure_same : (ws : List Ty) (l : Bool) (d : Place) (t : TypeNo) (h : Heading) (e : TypedExpr)
        → tree types t ≡ Cell (Callable h) → Dx ws d (Cell (Callable h)) → Hx ws e h → S ws l (stmt.Assign d t e)
    assign_procedure_same ws l d t h e type m q =
        from_stmt ws l (stmt.Assign d t e) (step.Assign d t e) (stmt.outs-Assign d t e)
        (λ a fit st fine. end_with P world (cells (m a fit st fine))
        (λ at st fine is. end_with P world (q a fit st fine) (λ v st fine good.
        end_with P world (type_checked x lacking world sask ask knows all (IsProcedureValue P h) ws t v a fit st fine
        (cell_taken x lacking world sask ask knows all t (Callable h) type) good)
        (λ v st fine good. store_goes l (Callable h) at v st fine is
        (λ g e. subst (λ (g : Heading). IsProcedureValue P g v) (callable_in h g e) good)))))

    like_there : (t : Ty) (l : Location) {y z : Answer Location} → IsAt t l → Same P world (IsAt t) y z
        → Same P world (IsAt t) (y ▷ (strict.copied_from lacking P sask world n function (type_at world l))) z
    like_there t l is (gives k st fine at) =
        subst (λ (o : Option Ty). Same P world (IsAt t) (strict.copied_from lacking P sask world n function o k st)
        (Value k st)) (sym is)
        (same_provided P world lacking (is_like (type_at world k) t) (Value k) st
        (ap (λ (o : Option Ty). is_like o t) at ∙ alike_itself t) (gives k st fine at))
    like_there t l is (ends k out e) = ends k out e
    like_there t l is (still out) = still out

    copy_same : (ws : List Ty) (l : Bool) (d e : Place) (t : TypeNo) → Dx ws d (tree types t) → Dx ws e (tree types t)
        → S ws l (stmt.Copy d e t)
    copy_same ws l d e t m q = from_stmt ws l (stmt.Copy d e t) (step.Copy d e t) (stmt.outs-Copy d e t)
        (λ a fit st fine. end_with P world (m a fit st fine)
        (λ to st fine is. end_with P world (like_there (tree types t) to is (q a fit st fine)) (λ from st fine at.
        goes (record st { store = copy_whole to from st.store })
        (fine_placed P world st.store to (tree types t) (λ r. st.store (from ++ r)) fine is
        (record { each = λ r h e. fine.each (from ++ r) h (there_behind world from (tree types t) r at ∙ e) })))))

    room_there : (k m : ℕ) {y z : Answer Location} → k ≤ m → Same P world (IsAt (Array m (Cell (Natural 255)))) y z
        → Same P world (IsAt (Array m (Cell (Natural 255)))) (y ▷ (strict.at_room lacking P sask world n function k)) z
    room_there k m less (gives l st fine at) =
        same_provided P world lacking (has_room (type_at world l) k) (Value l) st
        (ap (λ (o : Option Ty). has_room o k) at ∙ ap not (le-ltb m k less)) (gives l st fine at)
    room_there k m less (ends j out e) = ends j out e
    room_there k m less (still out) = still out

    copy_text_same : (ws : List Ty) (l : Bool) (d : Place) (t : TypeNo) (m : ℕ) (text : List ℕ)
        → tree types t ≡ Array m (Cell (Natural 255)) → length text ≤ m → Dx ws d (tree types t)
        → S ws l (stmt.CopyText d t text)
    copy_text_same ws l d t m text array less q =
        from_stmt ws l (stmt.CopyText d t text) (step.CopyText d t text) (stmt.outs-CopyText d t text)
        (λ a fit st fine. end_with P world (room_there (length text) m less
        (subst (λ (t : Ty). Same P world (IsAt t) (strict_place d a st) (locate P ask d a st)) array
        (q a fit st fine)))
        (λ at st fine is. goes (record st { store = overlay at (character text) st.store })
        (fine_placed P world st.store at (Array m (Cell (Natural 255))) (character text) fine is
        (text_holds P m (character text)))))
      where
        strict_place : Place → Gives Location
        strict_place d = places.locate lacking P sask world d

    call_same : (ws : List Ty) (l : Bool) (c : Call) → C x lacking world sask ask knows all ws c None
        → S ws l (stmt.Call c)
    call_same ws l c m = from_stmt ws l (stmt.Call c) (step.Call c) (stmt.outs-Call c)
        (λ a fit st fine. end_with P world (m false (λ e. cc e) a fit st fine) (λ v st fine good. goes st fine))

    put_same : (ws : List Ty) (l : Bool) (e : TypedExpr) → Ex ws e → S ws l (stmt.Put e)
    put_same ws l e m = from_stmt ws l (stmt.Put e) (step.Put e) (stmt.outs-Put e)
        (λ a fit st fine. end_with P world (m a fit st fine)
        (λ v st fine good. end_with P world (same_range P world {G = Any} (scalar_at a.types char) range_fault v st
        refl fine tt)
        (λ v st fine good. goes (record st { out = st.out ++ unsigned_abs v ∷ [] }) fine)))

    same_base : (t : TypeNo) (o : Option Range) → base_in t o ≡ base_of t o
    same_base t None = refl
    same_base t (Some r) = refl

    rechecked_same : (types : Types) (t : TypeNo) (v : ℤ) (st : State) → IsFine P world st.store
        → Same P world Any (recheck_value types t v st) (recheck_value types t v st)
    rechecked_same types t v st fine =
        same_then P world (same_range P world {G = Any} (scalar_at types (base_of t (scalar_at types t))) overflow v st
        refl fine tt) (λ v st fine good. same_range P world {G = Any} (scalar_at types t) range_fault v st refl fine
        tt)

    change_same : (ws : List Ty) (l : Bool) (o : Change) (d : Place) (t : TypeNo) (c : Scalar) (e : TypedExpr)
        → IsCell types t c → is_ranged types t ≡ true → is_ranged types (base_of t (scalar_at types t)) ≡ true
        → Dx ws d (Cell c) → Ex ws e → S ws l (stmt.Change o d t e)
    change_same ws l o d t c e cell one two m q =
        from_stmt ws l (stmt.Change o d t e) (step.Change o d t e) (stmt.outs-Change o d t e)
        (λ a fit st fine. end_with P world (cells (m a fit st fine))
        (λ at st fine is. end_with P world (q a fit st fine) (λ by st fine good.
        end_with P world (same_provided P world lacking (are_ranged a.types t)
        (recheck_value a.types t (change_by o (st.store at) by)) st
        (ap (λ (ts : Types). are_ranged ts t) fit.types
        ∙ (ap (λ (b : Bool). b && is_ranged types (base_of t (scalar_at types t))) one ∙ two))
        (rechecked_same a.types t (change_by o (st.store at) by) st fine))
        (λ v st fine good. store_goes l c at v st fine is (no_procedure P c v cell.number)))))

    member_same : (ws : List Ty) (l : Bool) (o : Membership) (d : Place) (t : TypeNo) (c : Scalar) (e : TypedExpr)
        → IsCell types t c → Dx ws d (Cell c) → Ex ws e → S ws l (stmt.Membership o d e)
    member_same ws l o d t c e cell m q = from_stmt ws l (stmt.Membership o d e) (step.Membership o d e)
        (stmt.outs-Membership o d e)
        (λ a fit st fine. end_with P world (cells (m a fit st fine))
        (λ at st fine is. end_with P world (q a fit st fine)
        (λ v st fine good. end_with P world (same_within P world {G = Any} (pos 0) (pos 31) range_fault v st refl fine
        tt)
        (λ v st fine good. store_goes l c at (with_element o (st.store at) v) st fine is
        (no_procedure P c (with_element o (st.store at) v) cell.number)))))

    halt_same : (ws : List Ty) (l : Bool) → S ws l stmt.Halt
    halt_same ws l = from_stmt ws l stmt.Halt step.Halt stmt.outs-Halt (λ a fit st fine. stops halt_status st.out refl)

    exit_same : (ws : List Ty) → S ws true stmt.Exit
    exit_same ws = from_stmt ws true stmt.Exit step.Exit stmt.outs-Exit (λ a fit st fine. leaves st fine refl)

    -- ---- RETURN

    good_none : (v : ℤ) → result ≡ None → IsGood P result v
    good_none v e = subst (λ (r : Result). IsGood P r v) (sym e) tt

    return_same : (ws : List Ty) (l : Bool) → result ≡ None → S ws l stmt.Return
    return_same ws l none = from_stmt ws l stmt.Return step.Return stmt.outs-Return
        (λ a fit st fine. subst (λ (b : Bool). End l (if b then Ended lacking st.out else Value (Returned (pos 0)) st)
        (Value (Returned (pos 0)) st)) (sym (kind ∙ ap (λ (r : Result). is_there r) none))
        (returns (pos 0) st fine (good_none (pos 0) none)))

    give_same : (ws : List Ty) (l : Bool) (t : TypeNo) (e : TypedExpr) (G : ℤ → Type 0) (r : Ty) → result ≡ Some r
        → Both x lacking world sask ask knows all ws G (places.value lacking P sask world e) (value P ask e)
        → is_number_type types t ≡ true → ((v : ℤ) → G v → IsGood P (Some r) v) → S ws l (stmt.Give t e)
    give_same ws l t e G r some m ok good = from_stmt ws l (stmt.Give t e) (step.Give t e) (stmt.outs-Give t e)
        (λ a fit st fine. subst (λ (b : Bool). End l
        (if b then (places.value lacking P sask world e a st ▷
        (λ v st. places.as_type lacking P sask world a.types t v st ▷ λ v st. Value (Returned v) st)) else Ended
        lacking st.out)
        (value P ask e a st ▷ λ v st. as_type a.types t v st ▷ λ v st. Value (Returned v) st))
        (sym (kind ∙ ap (λ (r : Result). is_there r) some))
        (end_with P world (m a fit st fine) (λ v st fine is. end_with P world
        (type_checked x lacking world sask ask knows all G ws t v a fit st fine ok is)
        (λ v st fine is. returns v st fine (subst (λ (r : Result). IsGood P r v) (sym some) (good v is))))))

    -- ---- rows of statements

    no_stmts_same : (ws : List Ty) (l : Bool) → Ss ws l []
    no_stmts_same ws l = λ a fit st fine. goes st fine

    more_stmts_same : (ws : List Ty) (l : Bool) (s : TypedStmt) (ss : List TypedStmt) → S ws l s → Ss ws l ss
        → Ss ws l (s ∷ ss)
    more_stmts_same ws l s ss m ms = λ a fit st fine. end_then P world (m a fit st fine) (λ st fine. ms a fit st fine)

    if_same : (ws : List Ty) (l : Bool) (e : TypedExpr) (body : List TypedStmt) → Ex ws e → Ss ws l body
        → S ws l (stmt.If e body None)
    if_same ws l e body q m = from_stmt ws l (stmt.If e body None) (step.If e body None) (stmt.outs-If e body None)
        (λ a fit st fine. end_with P world (q a fit st fine)
        (λ v st fine good. end_if P world (is_true v) (m a fit st fine) (goes st fine)))

    if_else_same : (ws : List Ty) (l : Bool) (e : TypedExpr) (body others : List TypedStmt) → Ex ws e → Ss ws l body
        → Ss ws l others → S ws l (stmt.If e body (Some others))
    if_else_same ws l e body others q m o =
        from_stmt ws l (stmt.If e body (Some others)) (step.If e body (Some others)) (stmt.outs-If e body (Some others))
        (λ a fit st fine. end_with P world (q a fit st fine)
        (λ v st fine good. end_if P world (is_true v) (m a fit st fine) (o a fit st fine)))

    -- ---- loops

    loop_goes : (l : Bool) {y z : Outcome} {f g : State → Outcome} → End true y z → Turn l f g
        → End l (loop_left y f) (loop_left z g)
    loop_goes l (goes st fine) next = next st fine
    loop_goes l (leaves st fine e) next = goes st fine
    loop_goes l (returns v st fine good) next = returns v st fine good
    loop_goes l (stops k out e) next = stops k out e
    loop_goes l (unfinished out) next = unfinished out

    looped_same : (l : Bool) (k : ℕ) (f g : State → Outcome) → Turn true f g
        → Turn l (loop_outcome k f) (loop_outcome k g)
    looped_same l zero f g h st fine = unfinished st.out
    looped_same l (suc k) f g h st fine = loop_goes l (h st fine) (looped_same l k f g h)

    while_turns : (l : Bool) (k : ℕ) (t u : State → Answer ℤ) (f g : State → Outcome)
        → ((st : State) → IsFine P world st.store → Same P world Any (t st) (u st)) → Turn l f g
        → Turn l (while_true k t f) (while_true k u g)
    while_turns l zero t u f g q h st fine =
        end_with P world (q st fine) (λ v st fine good. end_if P world (is_true v) (unfinished st.out) (goes st fine))
    while_turns l (suc k) t u f g q h st fine =
        end_with P world (q st fine) (λ v st fine good. end_if P world (is_true v)
        (end_then P world (h st fine) (λ st fine. while_turns l k t u f g q h st fine)) (goes st fine))

    until_turns : (l : Bool) (k : ℕ) (t u : State → Answer ℤ) (f g : State → Outcome)
        → ((st : State) → IsFine P world st.store → Same P world Any (t st) (u st)) → Turn l f g
        → Turn l (until_true k f t) (until_true k g u)
    until_turns l zero t u f g q h st fine = unfinished st.out
    until_turns l (suc k) t u f g q h st fine =
        end_then P world (h st fine) (λ st fine. end_with P world (q st fine)
        (λ v st fine good. end_if P world (is_true v) (goes st fine) (until_turns l k t u f g q h st fine)))

    -- the control variable steps on
    for_steps : (l : Bool) (k : ℕ) (check : ℤ → State → Answer ℤ) (c : Scalar) (at : Location) (by limit : ℤ)
        (f g : State → Outcome) → IsAt (Cell c) at → ((h : Heading) (v : ℤ) → c ≡ Callable h → IsProcedureValue P h v)
        → ((v : ℤ) (st : State) → IsFine P world st.store → Same P world Any (check v st) (check v st)) → Turn l f g
        → Turn l (for_turns k check at by limit f) (for_turns k check at by limit g)
    for_steps l zero check c at by limit f g is good q h st fine = unfinished st.out
    for_steps l (suc k) check c at by limit f g is good q h st fine =
        end_then P world (h st fine) (λ st fine. end_if P world (has_passed by limit (st.store at +ℤ by)) (goes st fine)
        (end_with P world (q (st.store at +ℤ by) st fine) (λ v st fine any.
        for_steps l k check c at by limit f g is good q h (store_number at v st)
        (fine_placed P world st.store at (Cell c) (λ r. v) fine is (cell_holds P c v (λ h e. good h v e))))))

    while_same : (ws : List Ty) (l : Bool) (e : TypedExpr) (body : List TypedStmt) → Ex ws e → Ss ws l body
        → S ws l (stmt.While e body)
    while_same ws l e body q m = from_stmt ws l (stmt.While e body) (step.While e body) (stmt.outs-While e body)
        (λ a fit st fine. while_turns l n _ _ _ _ (q a fit) (m a fit) st fine)

    repeat_same : (ws : List Ty) (l : Bool) (e : TypedExpr) (body : List TypedStmt) → Ex ws e → Ss ws l body
        → S ws l (stmt.Repeat body e)
    repeat_same ws l e body q m = from_stmt ws l (stmt.Repeat body e) (step.Repeat body e) (stmt.outs-Repeat body e)
        (λ a fit st fine. until_turns l n _ _ _ _ (q a fit) (m a fit) st fine)

    loop_same : (ws : List Ty) (l : Bool) (body : List TypedStmt) → Ss ws true body → S ws l (stmt.Loop body)
    loop_same ws l body m = from_stmt ws l (stmt.Loop body) (step.Loop body) (stmt.outs-Loop body)
        (λ a fit st fine. looped_same l n _ _ (m a fit) st fine)

    control_same : (ws : List Ty) (d : Place) (t : Ty) → typed.IsControl x d t → Dx ws d t
    control_same ws _ _ (typed.OfModule d v t is none known) =
        place_same x lacking world sask ask knows all ws 0 0 d t
        (trees.Designator 0 0 d t t (subst (λ (r : Root). trees.IsRoot x ws r t) (sym is) (trees.GlobalRoot v t known))
        (subst (λ (ks : List Component). trees.AreComponents x ws 0 0 t ks t) (sym none) (trees.no_components 0 t)))
    control_same ws _ _ (typed.OfFrame d slot t is none known) =
        place_same x lacking world sask ask knows all ws 0 0 d t
        (trees.Designator 0 0 d t t (subst (λ (r : Root). trees.IsRoot x ws r t) (sym is)
        (trees.LocalRoot slot t known))
        (subst (λ (ks : List Component). trees.AreComponents x ws 0 0 t ks t) (sym none) (trees.no_components 0 t)))

    for_same : (ws : List Ty) (l : Bool) (d : Place) (t : TypeNo) (c : Scalar) (start limit : TypedExpr) (by : ℤ)
        (body : List TypedStmt) → IsCell types t c → is_ranged types t ≡ true → Dx ws d (Cell c) → Ex ws start
        → Ex ws limit → Ss ws l body → S ws l (stmt.For d t start limit by body)
    for_same ws l d t c start limit by body cell some m q v h =
        from_stmt ws l (stmt.For d t start limit by body) (step.For d t start limit by body)
        (stmt.outs-For d t start limit by body)
        (λ a fit st fine. end_with P world (cells (m a fit st fine))
        (λ at st fine is. end_with P world (q a fit st fine) (λ first st fine good.
        end_with P world (same_provided P world lacking (is_ranged a.types t) (as_type a.types t first) st
        (ap (λ (ts : Types). is_ranged ts t) fit.types ∙ some)
        (same_range P world {G = Any} (scalar_at a.types t) range_fault first st refl fine tt))
        (λ first st fine good. end_with P world (v a fit st fine) (λ last st fine good.
        let fine' : IsFine P world (store_number at first st).store =
        fine_placed P world st.store at (Cell c) (λ r. first) fine is
        (cell_holds P c first (no_procedure P c first cell.number)) in
        end_if P world (has_passed by last ((store_number at first st).store at))
        (goes (store_number at first st) fine')
        (for_steps l n (as_type a.types t) c at by last _ _ is (λ h v e. no_procedure P c v cell.number h e)
        (λ v st fine. same_range P world {G = Any} (scalar_at a.types t) range_fault v st refl fine tt) (h a fit)
        (store_number at first st) fine'))))))

    with_same : (ws : List Ty) (l : Bool) (t : Ty) (d : Place) (body : List TypedStmt) → Dx ws d t
        → Ss (ws ++ t ∷ []) l body → S ws l (stmt.With d body)
    with_same ws l t d body m h = from_stmt ws l (stmt.With d body) (step.With d body) (stmt.outs-With d body)
        (λ a fit st fine. end_with P world (m a fit st fine)
        (λ at st fine is. h (record a { withs = a.withs ++ at ∷ [] })
        (record {
          place = fit.place;
          types = fit.types;
          frames = fit.frames;
          withs =
              pairs_append (λ t l. type_at world l ≡ Some t) ws a.withs (t ∷ []) (at ∷ []) fit.withs
              (more_pairs t [] at [] is no_pairs);
          next = fit.next;
        }) st fine))

    -- ---- CASE

    abbrev Arms : (ws : List Ty) → Bool → List TypedArm → Type 0
    Arms ws l ms = (v : ℤ) (o o' : Does) → Ends ws l o o'
        → Ends ws l (choose_arm v (map (strictly.arm_does lacking P sask world n function) ms) o)
        (choose_arm v (map (arm_does P ask n) ms) o')

    either_same : (ws : List Ty) (l : Bool) (b : Bool) (f g f' g' : Does) → Ends ws l f g → Ends ws l f' g'
        → Ends ws l (if b then f else f') (if b then g else g')
    either_same ws l true f g f' g' h k = h
    either_same ws l false f g f' g' h k = k

    more_arms_same : (ws : List Ty) (l : Bool) (m : TypedArm) (ms : List TypedArm) → Ss ws l m.body → Arms ws l ms
        → Arms ws l (m ∷ ms)
    more_arms_same ws l m ms h hs v o o' q =
        subst (λ (y : Arm). Ends ws l (choose_arm v (y ∷ map (strictly.arm_does lacking P sask world n function) ms) o)
        (choose_arm v (map (arm_does P ask n) (m ∷ ms)) o'))
        (sym (strictly.arm_means lacking P sask world n function m (out-TypedArm m) refl))
        (subst (λ (y : Arm). Ends ws l (choose_arm v
        (record { labels = m.labels; does = in_turn (map sdo m.body) }
        ∷ map (strictly.arm_does lacking P sask world n function) ms) o)
        (choose_arm v (y ∷ map (arm_does P ask n) ms) o')) (sym (arm_means P ask n m (out-TypedArm m) refl))
        (either_same ws l (list_any (is_labelled v) m.labels) _ _ _ _ h (hs v o o' q)))

    case_same : (ws : List Ty) (l : Bool) (e : TypedExpr) (arms : List TypedArm) → Ex ws e → Arms ws l arms
        → S ws l (stmt.Case e arms None)
    case_same ws l e arms q m = from_stmt ws l (stmt.Case e arms None) (step.Case e arms None)
        (stmt.outs-Case e arms None)
        (λ a fit st fine. end_with P world (q a fit st fine)
        (λ v st fine good. m v (or_else None) (or_else None) (λ a fit st fine. stops case_fault st.out refl) a fit st
        fine))

    case_else_same : (ws : List Ty) (l : Bool) (e : TypedExpr) (arms : List TypedArm) (others : List TypedStmt)
        → Ex ws e
        → Arms ws l arms → Ss ws l others → S ws l (stmt.Case e arms (Some others))
    case_else_same ws l e arms others q m o =
        from_stmt ws l (stmt.Case e arms (Some others)) (step.Case e arms (Some others))
        (stmt.outs-Case e arms (Some others))
        (λ a fit st fine. end_with P world (q a fit st fine)
        (λ v st fine good. m v (or_else (Some (map sdo others))) (or_else (Some (map (does P ask n) others))) o a fit
        st fine))

    -- ---- all of them

    abbrev ex : (ws : List Ty) (a b : ℕ) (e : TypedExpr) (t : TypeNo) → trees.IsExpr x ws a b e t → Ex ws e
    ex ws a b e t h = expr_same x lacking world sask ask knows all ws a b e t h

    abbrev hx : (ws : List Ty) (a b : ℕ) (e : TypedExpr) (h : Heading) → trees.IsProcedureExpr x ws a b e h → Hx ws e h
    hx ws a b e h is = procedure_expr_same x lacking world sask ask knows all ws a b e h is

    abbrev dx : (ws : List Ty) (a b : ℕ) (d : Place) (t : Ty) → trees.IsPlace x ws a b d t → Dx ws d t
    dx ws a b d t h = place_same x lacking world sask ask knows all ws a b d t h

    mutual
      stmt_same : (ws : List Ty) (l : Bool) (a b : ℕ) (s : TypedStmt) → typed.IsStmt x result ws l a b s → S ws l s
      stmt_same _ _ _ _ _ (typed.Assign ws l a b c d t r e cell h g) =
          assign_same ws l d t r e cell (dx ws a b d (Cell r) h) (ex ws b c e g.of g.is)
      stmt_same _ _ _ _ _ (typed.AssignProcedure ws l a b c d t h e type none g is) =
          assign_procedure_same ws l d t h e type (dx ws a b d (Cell (Callable h)) g) (hx ws b c e h is)
      stmt_same _ _ _ _ _ (typed.Copy ws l a b c d e t is h g) =
          copy_same ws l d e t (dx ws a b d (tree types t) h) (dx ws b c e (tree types t) g)
      stmt_same _ _ _ _ _ (typed.CopyText ws l a b m d t text array less has h) =
          copy_text_same ws l d t m text array less (dx ws a b d (tree types t) h)
      stmt_same _ _ _ _ _ (typed.ProcedureCall ws l a b c h) =
          call_same ws l c (calls_same x lacking world sask ask knows all ws a b c None h)
      stmt_same _ _ _ _ _ (typed.Put ws l a b e g) = put_same ws l e (ex ws a b e g.of g.is)
      stmt_same _ _ _ _ _ (typed.Changed ws l a b c o d t u r e cell ranged' based h g) =
          change_same ws l o d t r e cell (ranged (scalar_at types t) ranged')
          (ap (λ (u : TypeNo). is_ranged types u) (sym (same_base t (scalar_at types t)))
          ∙ ranged (scalar_at types (base_in t (scalar_at types t))) based) (dx ws a b d (Cell r) h) (ex ws b c e u g)
      stmt_same _ _ _ _ _ (typed.Member ws l a b c o d u r e cell h g) =
          member_same ws l o d bitset r e cell (dx ws a b d (Cell r) h) (ex ws b c e u g)
      stmt_same _ _ _ _ _ (typed.Halt ws l a) = halt_same ws l
      stmt_same _ _ _ _ _ (typed.If ws l a b c e body g h) =
          if_same ws l e body (ex ws a b e g.of g.is) (stmts_same ws l b c body h)
      stmt_same _ _ _ _ _ (typed.IfElse ws l a b c z e body others g h k) =
          if_else_same ws l e body others (ex ws a b e g.of g.is) (stmts_same ws l b c body h)
          (stmts_same ws l c z others k)
      stmt_same _ _ _ _ _ (typed.Case ws l a b c u e arms g hs) =
          case_same ws l e arms (ex ws a b e u g) (arms_same ws l b c arms hs)
      stmt_same _ _ _ _ _ (typed.CaseElse ws l a b c z u e arms others g hs os) =
          case_else_same ws l e arms others (ex ws a b e u g) (arms_same ws l b c arms hs)
          (stmts_same ws l c z others os)
      stmt_same _ _ _ _ _ (typed.While ws l a b c e body g h) =
          while_same ws l e body (ex ws a b e g.of g.is) (stmts_same ws l b c body h)
      stmt_same _ _ _ _ _ (typed.Repeat ws l a b c body e h g) =
          repeat_same ws l e body (ex ws b c e g.of g.is) (stmts_same ws l a b body h)
      stmt_same _ _ _ _ _ (typed.Loop ws l a b body h) = loop_same ws l body (stmts_same ws true a b body h)
      stmt_same _ _ _ _ _ (typed.Exit ws a) = exit_same ws
      stmt_same _ _ _ _ _ (typed.Return ws l a none) = return_same ws l none
      stmt_same _ _ _ _ _ (typed.Give ws l a b t r e some cell g) =
          give_same ws l t e Any (tree types t) some (ex ws a b e g.of g.is)
          (cell_taken x lacking world sask ask knows all t r cell.is)
          (λ v any h e. no_procedure P r v cell.number h (cell_in (tree types t) r (Callable h) cell.is e))
      stmt_same _ _ _ _ _ (typed.GiveProcedure ws l a b t h e some none is type) =
          give_same ws l t e (IsProcedureValue P h) (Cell (Callable h)) some (hx ws a b e h is)
          (cell_taken x lacking world sask ask knows all t (Callable h) type)
          (λ v good g e. subst (λ (g : Heading). IsProcedureValue P g v)
          (callable_in h g (same_cell (Callable h) (Callable g) (ap Some e))) good)
      stmt_same _ _ _ _ _ (typed.For ws l a b c z d t u r start limit by body cell ranged' control low high g h hs) =
          for_same ws l d t r start limit by body cell (ranged (scalar_at types t) ranged')
          (control_same ws d (Cell r) control) (ex ws a b start g.of g.is) (ex ws b c limit u h)
          (stmts_same ws l c z body hs)
      stmt_same _ _ _ _ _ (typed.With ws l a b c t d body h hs) =
          with_same ws l t d body (dx ws a b d t h) (stmts_same (ws ++ t ∷ []) l b c body hs)

      pub stmts_same : (ws : List Ty) (l : Bool) (a b : ℕ) (ss : List TypedStmt) → typed.AreStmts x result ws l a b ss
          → Ss ws l ss
      stmts_same _ _ _ _ _ (typed.no_stmts ws l a) = no_stmts_same ws l
      stmts_same _ _ _ _ _ (typed.more_stmts ws l a b c s ss h hs) =
          more_stmts_same ws l s ss (stmt_same ws l a b s h) (stmts_same ws l b c ss hs)

      arms_same : (ws : List Ty) (l : Bool) (a b : ℕ) (arms : List TypedArm) → typed.AreArms x result ws l a b arms
          → Arms ws l arms
      arms_same _ _ _ _ _ (typed.no_arms ws l a) = λ v o o' q. q
      arms_same _ _ _ _ _ (typed.more_arms ws l a b c m ms labels h hs) =
          more_arms_same ws l m ms (stmts_same ws l a b m.body h) (arms_same ws l b c ms hs)
