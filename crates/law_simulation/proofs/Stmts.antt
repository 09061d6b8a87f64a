-- Statements of typed trees: their code does what the definition says, and what is not within a LOOP does not leave by
-- EXIT.
use Rattle.std.proofs.Common.{◌≡◌, ℕ, suc, ◌+◌, ◌-◌, ◌<◌, ℤ, pos, negsuc, Bool, true, false, List, [], ◌∷◌, ◌++◌, map, length, Some, None, if◌then◌else◌, refl, sym, ap, subst, ◌∙◌}
use Rattle.std.specs.Prelude.{◌≤ℤ◌, ◌+ℤ◌, ◌≤◌, unsigned_abs}
use Rattle.std.specs.List.{list_any, range_with_len}
use Rattle.std.proofs.lemmas.List.{append-nil}
use Rattle.wasm_tree.specs.declared.instr.Instr.{Instr}
use Rattle.wasm_tree.specs.declared.instr.Instr.TheVariants as instr
use Rattle.wasm_tree.specs.declared.store.Value.{Value as Operand}
use Rattle.wasm_tree.specs.declared.store.Value.TheVariants.{I32}
use Rattle.typed_tree.specs.declared.computed.Call.{Call}
use Rattle.typed_tree.specs.declared.computed.Component.{Component}
use Rattle.typed_tree.specs.declared.computed.Place.{Place, out-Place}
use Rattle.typed_tree.specs.declared.computed.Root.{Root}
use Rattle.typed_tree.specs.declared.computed.Root.TheVariants as root
use Rattle.typed_tree.specs.declared.computed.TypedExpr.{TypedExpr}
use Rattle.typed_tree.specs.declared.statement.Change.{Change}
use Rattle.typed_tree.specs.declared.statement.Label.{Label}
use Rattle.typed_tree.specs.declared.statement.Membership.{Membership}
use Rattle.typed_tree.specs.declared.statement.TypedArm.{TypedArm, out-TypedArm}
use Rattle.typed_tree.specs.declared.statement.TypedStmt.{TypedStmt, TypedStmt-F, out-TypedStmt}
use Rattle.typed_tree.specs.declared.statement.TypedStmt.TheOpen as step
use Rattle.typed_tree.specs.declared.statement.TypedStmt.TheVariants as stmt
use Rattle.typed_tree.specs.declared.types.TypeNo.{TypeNo}
use Rattle.typed_tree.specs.Types.{boolean, char, bitset}
use Rattle.typed_tree.specs.Known.{scalar_at}
use Rattle.layout_storage.specs.Types.{Ty, Scalar, Natural, Callable, Cell, Array, Heading, row, component, IsPlain}
use Rattle.layout_storage.specs.Sizes.{size}
use Rattle.layout_storage.specs.Shapes.{tree}
use Rattle.def_meaning.specs.Store.{Location, copy_whole, overlay}
use Rattle.def_meaning.specs.Answer.{State as Source, Answer, Value, Ended, StillRunning, ◌▷◌}
use Rattle.def_meaning.specs.Outcome.{Outcome, Normal, Returned}
use Rattle.def_meaning.specs.Environment.{Modules, Environment, Named, At, Elements, location_of, slot_named}
use Rattle.def_meaning.specs.Calls.{is_there}
use Rattle.def_meaning.specs.Operators.{is_true}
use Rattle.def_meaning.specs.Expressions as meaning
use Rattle.def_meaning.specs.Expressions.{Asks, Gives, as_type, value, locate, call_value}
use Rattle.def_meaning.specs.Statements as statements
use Rattle.def_meaning.specs.Statements.{Does, in_turn, or_else, character, store_number, for_all, until_true, loop_outcome, is_labelled, choose_arm}
use Rattle.wasm_tree.specs.declared.instr.Relation.TheVariants.{GtU}
use Rattle.def_scheme.specs.Coded.{Coded, Setting, plain, relation, ◌⨾◌, nothing, all_coded, within, with_setting, with_address, wrap_word, is_zero, put, copy, fault, check_code}
use Rattle.def_scheme.specs.Cells as cells
use Rattle.def_scheme.specs.Cells.{base_of, check_taken}
use Rattle.def_scheme.specs.Exprs as code
use Rattle.def_scheme.specs.Exprs.{Part, Numbered, behind, expr_part, place_code, call_code}
use Rattle.def_scheme.specs.Modules.{numbering_of}
use Rattle.def_scheme.specs.Steps as steps
use Rattle.def_scheme.specs.Steps.{block_loop, loop, leaving, under, if_only, if_else, block, tests_code, arm_code, chain_code, all_labels, least_of, span_of, is_dense, has_label, target, targets, dispatch, in_block, jump_arms, table_code, case_code, else_code, change_code, change_instructions, member_code, with_member, text_copied, copy_text_code, for_code, step_code}
use Rattle.law_simulation.specs.Begun.{while_begun, step_layer, does}
use Rattle.law_simulation.specs.Scene.{Scene, IsCell, AreLabels, place as scene_place, runs, inside, keeping, opening, Ends, Agrees, Locates, Executes, IsThere}
use Rattle.law_simulation.specs.Laws.{AreArms, no_arms, more_arms}
use Rattle.law_simulation.proofs.Laws as laws
use Rattle.law_simulation.proofs.Statements.{nothing_executes, then_executes}
use Rattle.law_simulation.proofs.JumpTables.{table_cases}
use Rattle.law_simulation.specs.Frames.{Kept, IsNamed}
use Rattle.law_simulation.specs.Passing.{Result}
use Rattle.law_simulation.proofs.Called.{call_executes}
use Rattle.law_simulation.proofs.Copies.{copies, strings}
use Rattle.law_simulation.proofs.Procedures.{held_assigns, held_gives}
use Rattle.law_simulation.proofs.CallsSlots.{here as slot_here, cell_type, cell_runs}
use Rattle.law_simulation.proofs.Values.{results}
use Rattle.law_simulation.specs.Placed.{Pins}
use Rattle.law_simulation.specs.TreesTyped.{Context, HasText}
use Rattle.law_simulation.specs.Fitting.{Fits}
use Rattle.law_simulation.proofs.Exprs.{MadeExpr, MadeHeld, MadePlace, MadeCall, as_part, here, agrees_as, agrees_beside, taken_agrees, given_held, expr_made, held_made, place_made, call_made}
use Rattle.law_simulation.proofs.TreesFitted.{fits_keeping, fits_opening}
use Rattle.law_simulation.proofs.Opened.{component_code, armed, step_opened, step_at, arm_at, place_at}
use Rattle.law_simulation.proofs.TreesMeant.{component_value, place_means}
use Rattle.law_simulation.proofs.Pinned.{pins_plain, pins_then, pins_setting, pins_number, pins_address, pins_within, pins_leaving, pins_under, pins_text}
use Rattle.law_simulation.specs.StmtsTyped as typed
use Rattle.law_simulation.specs.StmtsTyped.{IsControl, IsGiven, IsTest}
use Rattle.law_simulation.specs.StmtsLaws.{Suits}
use Rattle.law_simulation.proofs.StmtsMeant.{arm_does, step_meant, step_means, arm_means}
use Rattle.law_simulation.proofs.Staying.{Stays, then_stays, with_stays, if_stays, looped_stays, while_stays, until_stays, for_stays, arm_stays}
use Rattle.law_simulation.proofs.Boxed.{pins_boxed, pins_if_else, pins_either, pins_for}

-- ---- what is done alike

executes_alike : (k : Scene) (function : Bool) (c : Coded) (f g : Does) → ((s : Source) → f k.around s ≡ g k.around s)
    → Executes k function c f → Executes k function c g
executes_alike k function c f g same h = record {
  grows = h.grows;
  goes = λ e n free full s st stands rest stack. subst
      (Ends k function e stack (λ st. runs k rest st stack) (runs k ((c (inside k e) n).0 ++ rest) st stack)) (same s)
      (h.goes e n free full s st stands rest stack);
}

answer_assoc : {A B : Type 0} (q : Answer A) (f : A → Source → Answer B) (g : B → Source → Outcome)
    → ((q ▷ f) ▷ g) ≡ (q ▷ λ v s. f v s ▷ g)
answer_assoc (Value v s) f g = refl
answer_assoc (Ended i out) f g = refl
answer_assoc (StillRunning out) f g = refl

answer_alike : {A : Type 0} (q : Answer A) (f g : A → Source → Outcome) → ((v : A) (s : Source) → f v s ≡ g v s)
    → (q ▷ f) ≡ (q ▷ g)
answer_alike (Value v s) f g h = h v s
answer_alike (Ended i out) f g h = refl
answer_alike (StillRunning out) f g h = refl

map_alike : {A B : Type 0} (f g : A → B) (xs : List A) → ((v : A) → f v ≡ g v) → map f xs ≡ map g xs
map_alike f g [] h = refl
map_alike f g (v ∷ xs) h = ap (λ w. w ∷ map f xs) (h v) ∙ ap (λ ws. g v ∷ ws) (map_alike f g xs h)

location_kept : (world : List Ty) (y : Location → ℕ → ℕ) (r v : ℕ) (t : Ty) (name : Named)
    → IsNamed world y r v (Kept t) name → location_of (Some name) ≡ r ∷ suc v ∷ []
location_kept world y r v t (At l) e = e
location_kept world y r v t (Elements l high) e = absurd e

module _ (x : Context) (ask : Asks) (result : Result) (n : ℕ) where
  abbrev N : Numbered
  N = numbering_of x.home

  abbrev P : Modules
  P = x.p

  abbrev F : Bool
  F = is_there result

  abbrev Suited : List Ty → Scene → Type 0
  Suited ws k = Suits x ask result n ws k

  suits_keeping : (ws : List Ty) (k : Scene) (w : ℕ) (v : Operand) → k.kept w ≡ None → Suited ws k
      → Suited ws (keeping k w v)
  suits_keeping ws k w v new h = record {
    fits = fits_keeping x ask ws k w v new h.fits;
    turns = h.turns;
    typed =
        h.typed;
  }

  suits_opening : (ws : List Ty) (k : Scene) (w : ℕ) (l : Location) (t : Ty) → k.kept w ≡ None
      → component (row k.world) l ≡ Some t → 0 < length l → Suited ws k → Suited (ws ++ t ∷ []) (opening k w l)
  suits_opening ws k w l t new type some h =
      record { fits = fits_opening x ask ws k w l t new type some h.fits; turns = h.turns; typed = h.typed }

  -- ---- what is shown of a statement

  pub record MadeStmt (ws : List Ty) (l : Bool) (a b : ℕ) (c : Coded) (d : Does) : Type 0 where
    pub placed : Coded
    pub pins : Pins a b c placed
    pub executes : (k : Scene) → Suited ws k → Executes k F placed d
    pub stays : l ≡ false → Stays d

  abbrev pub Stmt : (ws : List Ty) (l : Bool) (a b : ℕ) → TypedStmt → Type 0
  Stmt ws l a b s = MadeStmt ws l a b (step_code N s) (does P ask n s)

  abbrev rows_code : List TypedStmt → Coded
  rows_code body = all_coded (map (step_code N) body)

  abbrev rows_do : List TypedStmt → Does
  rows_do body = in_turn (map (does P ask n) body)

  abbrev pub Rows : (ws : List Ty) (l : Bool) (a b : ℕ) → List TypedStmt → Type 0
  Rows ws l a b body = MadeStmt ws l a b (rows_code body) (rows_do body)

  -- of an expression, and of a designator
  abbrev Expr : (ws : List Ty) (a b : ℕ) → TypedExpr → TypeNo → Type 0
  Expr ws a b e t = MadeExpr x ask ws a b t (expr_part N e) (value P ask e)

  abbrev Held : (ws : List Ty) (a b : ℕ) → TypedExpr → Heading → Type 0
  Held ws a b e h = MadeHeld x ask ws a b h (expr_part N e).code (value P ask e)

  abbrev Placed : (ws : List Ty) (a b : ℕ) → Place → Ty → Type 0
  Placed ws a b d t = MadePlace x ask ws a b t (place_code N d) (locate P ask d)

  -- the value as one of a type
  abbrev given_value : TypeNo → TypedExpr → Gives ℤ
  given_value t e a s = value P ask e a s ▷ λ v s. as_type a.types t v s

  abbrev given_code : TypeNo → TypedExpr → Coded → Coded
  given_code t e c = behind c (λ types. check_taken types t (expr_part N e).constant (expr_part N e).of)

  record MadeGiven (ws : List Ty) (a b : ℕ) (e : TypedExpr) (t : TypeNo) : Type 0 where
    placed : Coded
    pins : Pins a b (expr_part N e).code placed
    agrees : (k : Scene) → Fits x ask ws k → Agrees k t (given_code t e placed) (given_value t e)

  given_made : (ws : List Ty) (a b : ℕ) (e : TypedExpr) (t : TypeNo) → IsGiven x result ws a b e t
      → MadeGiven ws a b e t
  given_made ws a b e t h = let m = expr_made x ask ws a b e h.of h.is in
      record { placed = m.placed; pins = m.pins; agrees = λ k fit. taken_agrees x ask ws a b t h.of e m h.taken k fit }

  given_pins : {ws : List Ty} {a b : ℕ} {e : TypedExpr} {t : TypeNo} (m : MadeGiven ws a b e t)
      → Pins a b (given_code t e (expr_part N e).code) (given_code t e m.placed)
  given_pins {b = b} {e = e} {t = t} m = pins_then m.pins
      (pins_setting (λ s. pins_plain b (check_taken s.home.types t (expr_part N e).constant (expr_part N e).of)))

  held_pins : {ws : List Ty} {a b : ℕ} {h : Heading} (t : TypeNo) (e : TypedExpr) (m : Held ws a b e h)
      → Pins a b (given_code t e (expr_part N e).code) (given_code t e m.placed)
  held_pins {b = b} t e m = pins_then m.pins
      (pins_setting (λ s. pins_plain b (check_taken s.home.types t (expr_part N e).constant (expr_part N e).of)))

  record MadeTest (ws : List Ty) (a b : ℕ) (e : TypedExpr) : Type 0 where
    placed : Coded
    pins : Pins a b (expr_part N e).code placed
    agrees : (k : Scene) → Fits x ask ws k → Agrees k boolean placed (value P ask e)

  test_made : (ws : List Ty) (a b : ℕ) (e : TypedExpr) → IsTest x result ws a b e → MadeTest ws a b e
  test_made ws a b e h = let m = expr_made x ask ws a b e h.of h.is in
      record { placed = m.placed; pins = m.pins; agrees = λ k fit. agrees_as x ask m boolean h.among k fit }

  -- ---- one layer

  from_stmt : (ws : List Ty) (l : Bool) (a b : ℕ) (s : TypedStmt) (y : TypedStmt-F TypedStmt TypedArm)
      → out-TypedStmt s ≡ y
      → MadeStmt ws l a b (steps.step_layer N (step_opened N y)) (step_layer P ask n (step_meant P ask n y))
      → Stmt ws l a b s
  from_stmt ws l a b s y h m =
      subst (λ (c : Coded). MadeStmt ws l a b c (does P ask n s)) (sym (step_at N s y h))
      (subst (λ (d : Does). MadeStmt ws l a b (steps.step_layer N (step_opened N y)) d) (sym (step_means P ask n s y h))
      m)

  module _ (ws : List Ty) (l : Bool) where
    -- ---- simple statements

    -- the value is located, taken as one of the type, and stored
    assigned_alike : (k : Scene) (c : Coded) (d : Place) (t : TypeNo) (e : TypedExpr)
        → Executes k F c (λ a s. locate P ask d a s ▷ λ l s. given_value t e a s ▷ λ v s. Value Normal
        (store_number l v s))
        → Executes k F c (λ a s. locate P ask d a s ▷ λ l s. value P ask e a s ▷ λ v s. as_type a.types t v s ▷ λ v s.
        Value Normal (store_number l v s))
    assigned_alike k c d t e h =
        executes_alike k F c
        (λ a s. locate P ask d a s ▷ λ l s. given_value t e a s ▷ λ v s. Value Normal (store_number l v s))
        (λ a s. locate P ask d a s ▷ λ l s. value P ask e a s ▷ λ v s. as_type a.types t v s ▷ λ v s. Value Normal
        (store_number l v s))
        (λ s. answer_alike (locate P ask d k.around s)
        (λ l s. given_value t e k.around s ▷ λ v s. Value Normal (store_number l v s))
        (λ l s. value P ask e k.around s ▷ λ v s. as_type k.around.types t v s ▷ λ v s. Value Normal
        (store_number l v s))
        (λ l s. answer_assoc (value P ask e k.around s) (λ v s. as_type k.around.types t v s)
        (λ v s. Value Normal (store_number l v s))))
        h

    assigned_stays : (d : Place) (t : TypeNo) (e : TypedExpr)
        → Stays (λ a s. locate P ask d a s ▷ λ l s. value P ask e a s ▷ λ v s. as_type a.types t v s ▷ λ v s. Value
        Normal (store_number l v s))
    assigned_stays d t e a s = with_stays (locate P ask d a s)
        (λ l s. value P ask e a s ▷ λ v s. as_type a.types t v s ▷ λ v s. Value Normal (store_number l v s))
        (λ l s. with_stays (value P ask e a s) (λ v s. as_type a.types t v s ▷ λ v s. Value Normal (store_number l v s))
        (λ v s. with_stays (as_type a.types t v s) (λ v s. Value Normal (store_number l v s)) (λ v s. refl)))

    assign_made : (a b c : ℕ) (d : Place) (t : TypeNo) (r : Scalar) (e : TypedExpr) → IsCell x.home.types t r
        → Placed ws a b d (Cell r) → MadeGiven ws b c e t → Stmt ws l a c (stmt.Assign d t e)
    assign_made a b c d t r e cell m q = from_stmt ws l a c (stmt.Assign d t e) (step.Assign d t e)
        (stmt.outs-Assign d t e) (record {
          placed = m.placed ⨾ given_code t e q.placed ⨾ with_setting (λ s. plain (cells.store_code s.home.types t));
          pins = pins_then m.pins (pins_then (given_pins q)
              (pins_setting (λ s. pins_plain c (cells.store_code s.home.types t))));
          executes = λ k fit.
              assigned_alike k (m.placed ⨾ given_code t e q.placed ⨾ with_setting
              (λ s. plain (cells.store_code s.home.types t))) d t e
              (laws.assigns k fit.fits.set F t r m.placed (given_code t e q.placed) (locate P ask d) (given_value t e)
              (here x ask ws k fit.fits (λ h. IsCell h.types t r) cell) (m.locates k fit.fits) (q.agrees k fit.fits));
          stays = λ e' a s. assigned_stays d t e a s;
        })

    assign_procedure_made : (a b c : ℕ) (d : Place) (t : TypeNo) (h : Heading) (e : TypedExpr)
        → tree x.home.types t ≡ Cell (Callable h) → scalar_at x.home.types t ≡ None
        → Placed ws a b d (Cell (Callable h)) → Held ws b c e h → Stmt ws l a c (stmt.Assign d t e)
    assign_procedure_made a b c d t h e type none m q =
        from_stmt ws l a c (stmt.Assign d t e) (step.Assign d t e) (stmt.outs-Assign d t e) (record {
          placed = m.placed ⨾ given_code t e q.placed ⨾ with_setting (λ s. plain (cells.store_code s.home.types t));
          pins = pins_then m.pins (pins_then (held_pins t e q)
              (pins_setting (λ s. pins_plain c (cells.store_code s.home.types t))));
          executes = λ k fit.
              assigned_alike k (m.placed ⨾ given_code t e q.placed ⨾ with_setting
              (λ s. plain (cells.store_code s.home.types t))) d t e
              (held_assigns k fit.fits.set F t h m.placed (given_code t e q.placed) (locate P ask d) (given_value t e)
              (here x ask ws k fit.fits (λ o. tree o.types t ≡ Cell (Callable h)) type) (m.locates k fit.fits)
              (given_held x ask ws b c t h e q none k fit.fits));
          stays = λ e' a s. assigned_stays d t e a s;
        })

    copy_made : (a b c : ℕ) (d e : Place) (t : TypeNo) → IsPlain (tree x.home.types t)
        → Placed ws a b d (tree x.home.types t) → Placed ws b c e (tree x.home.types t)
        → Stmt ws l a c (stmt.Copy d e t)
    copy_made a b c d e t is m q = from_stmt ws l a c (stmt.Copy d e t) (step.Copy d e t) (stmt.outs-Copy d e t)
        (record {
          placed = m.placed ⨾ behind q.placed (λ types. instr.I32Const (size (tree types t)) ∷ instr.Call copy ∷ []);
          pins = pins_then m.pins (pins_then q.pins
              (pins_setting (λ s. pins_plain c (instr.I32Const (size (tree s.home.types t)) ∷ instr.Call copy ∷ []))));
          executes = λ k fit.
              copies k fit.fits.set F t m.placed q.placed (locate P ask d) (locate P ask e)
              (here x ask ws k fit.fits (λ h. IsPlain (tree h.types t)) is)
              (here x ask ws k fit.fits (λ h. Locates k (tree h.types t) m.placed (locate P ask d))
              (m.locates k fit.fits))
              (here x ask ws k fit.fits (λ h. Locates k (tree h.types t) q.placed (locate P ask e))
              (q.locates k fit.fits));
          stays = λ e' a s. with_stays (locate P ask d a s)
              (λ l s. locate P ask e a s ▷ λ l' s. Value Normal (record s { store = copy_whole l l' s.store }))
              (λ l s. with_stays (locate P ask e a s)
              (λ l' s. Value Normal (record s { store = copy_whole l l' s.store }))
              (λ l' s. refl));
        })

    copy_text_made : (a b i : ℕ) (d : Place) (t : TypeNo) (text : List ℕ)
        → tree x.home.types t ≡ Array i (Cell (Natural 255)) → length text ≤ i → HasText x b text
        → Placed ws a b d (tree x.home.types t) → Stmt ws l a (b + length text) (stmt.CopyText d t text)
    copy_text_made a b i d t text array less has m =
        from_stmt ws l a (b + length text) (stmt.CopyText d t text) (step.CopyText d t text)
        (stmt.outs-CopyText d t text) (record {
          placed = m.placed ⨾ with_address (λ w. plain (instr.LocalTee w ∷ []) ⨾ with_setting
              (λ s. plain (text_copied b (length text) (size (tree s.home.types t) - length text) w)));
          pins = pins_then m.pins (pins_address (λ w. pins_then (pins_plain b (instr.LocalTee w ∷ []))
              (pins_text b (length text) (λ at. with_setting
              (λ s. plain (text_copied at (length text) (size (tree s.home.types t) - length text) w)))
              (pins_setting (λ s. pins_plain (b + length text)
              (text_copied b (length text) (size (tree s.home.types t) - length text) w))))));
          executes = λ k fit. strings k fit.fits.set F t i b m.placed (locate P ask d) text
              (here x ask ws k fit.fits (λ h. tree h.types t ≡ Array i (Cell (Natural 255))) array) less
              (fit.fits.texts b text has)
              (here x ask ws k fit.fits (λ h. Locates k (tree h.types t) m.placed (locate P ask d))
              (m.locates k fit.fits));
          stays = λ e' a s. with_stays (locate P ask d a s)
              (λ l s. Value Normal (record s { store = overlay l (character text) s.store })) (λ l s. refl);
        })

    call_stmt_made : (a b : ℕ) (c : Call) → MadeCall x ask ws a b None (call_code N c) (call_value P ask c)
        → Stmt ws l a b (stmt.Call c)
    call_stmt_made a b c m = from_stmt ws l a b (stmt.Call c) (step.Call c) (stmt.outs-Call c) (record {
      placed = m.placed;
      pins = m.pins;
      executes = λ k fit. call_executes k F m.placed (call_value P ask c) (m.calls k fit.fits);
      stays = λ e' a s. with_stays (call_value P ask c a s) (λ v s. Value Normal s) (λ v s. refl);
    })

    put_made : (a b : ℕ) (e : TypedExpr) → MadeGiven ws a b e char → Stmt ws l a b (stmt.Put e)
    put_made a b e q = from_stmt ws l a b (stmt.Put e) (step.Put e) (stmt.outs-Put e) (record {
      placed = given_code char e q.placed ⨾ plain (instr.Call put ∷ []);
      pins = pins_then (given_pins q) (pins_plain b (instr.Call put ∷ []));
      executes = λ k fit.
          executes_alike k F (given_code char e q.placed ⨾ plain (instr.Call put ∷ []))
          (λ a s. given_value char e a s ▷ λ v s. Value Normal (record s { out = s.out ++ unsigned_abs v ∷ [] }))
          (λ a s. value P ask e a s ▷ λ v s. as_type a.types char v s ▷ λ v s. Value Normal
          (record s { out = s.out ++ unsigned_abs v ∷ [] }))
          (λ s. answer_assoc (value P ask e k.around s) (λ v s. as_type k.around.types char v s)
          (λ v s. Value Normal (record s { out = s.out ++ unsigned_abs v ∷ [] })))
          (laws.puts k fit.fits.set F (given_code char e q.placed) (given_value char e) (q.agrees k fit.fits));
      stays = λ e' a s. with_stays (value P ask e a s)
          (λ v s. as_type a.types char v s ▷ λ v s. Value Normal (record s { out = s.out ++ unsigned_abs v ∷ [] }))
          (λ v s. with_stays (as_type a.types char v s)
          (λ v s. Value Normal (record s { out = s.out ++ unsigned_abs v ∷ [] })) (λ v s. refl));
    })

    change_made : (a b c : ℕ) (o : Change) (d : Place) (t u : TypeNo) (r : Scalar) (e : TypedExpr)
        → IsCell x.home.types t r → (scalar_at x.home.types t ≡ None → ⊥)
        → (scalar_at x.home.types (base_of x.home.types t) ≡ None → ⊥)
        → Placed ws a b d (Cell r) → Expr ws b c e u → Stmt ws l a c (stmt.Change o d t e)
    change_made a b c o d t u r e cell ranged based m q =
        from_stmt ws l a c (stmt.Change o d t e) (step.Change o d t e) (stmt.outs-Change o d t e) (record {
          placed = change_code o m.placed t q.placed;
          pins = pins_then m.pins (pins_address (λ w. pins_then (pins_plain b (instr.LocalSet w ∷ []))
              (pins_then q.pins (pins_number (λ i. pins_then (pins_plain c (instr.LocalSet i ∷ []))
              (pins_setting (λ s. pins_plain c (change_instructions o w i s.home.types t))))))));
          executes = λ k fit. laws.changes k fit.fits.set F o t r m.placed (as_part x ask (expr_part N e) q.placed)
              (locate P ask d) (value P ask e) (here x ask ws k fit.fits (λ h. IsCell h.types t r) cell)
              (here x ask ws k fit.fits (λ h. scalar_at h.types t ≡ None → ⊥) ranged)
              (here x ask ws k fit.fits (λ h. scalar_at h.types (base_of h.types t) ≡ None → ⊥) based)
              (m.locates k fit.fits) (q.agrees k fit.fits) (agrees_beside x ask q k fit.fits);
          stays = λ e' a s. with_stays (locate P ask d a s)
              (λ l s. value P ask e a s ▷ λ by s. statements.recheck_value a.types t
              (statements.change_by o (s.store l) by)
              s ▷ λ v s. Value Normal (store_number l v s))
              (λ l s. with_stays (value P ask e a s)
              (λ by s. statements.recheck_value a.types t (statements.change_by o (s.store l) by) s ▷ λ v s. Value
              Normal (store_number l v s))
              (λ by s. with_stays (statements.recheck_value a.types t (statements.change_by o (s.store l) by) s)
              (λ v s. Value Normal (store_number l v s)) (λ v s. refl)));
        })

    member_made : (a b c : ℕ) (o : Membership) (d : Place) (u : TypeNo) (r : Scalar) (e : TypedExpr)
        → IsCell x.home.types bitset r → Placed ws a b d (Cell r) → Expr ws b c e u
        → Stmt ws l a c (stmt.Membership o d e)
    member_made a b c o d u r e cell m q =
        from_stmt ws l a c (stmt.Membership o d e) (step.Membership o d e) (stmt.outs-Membership o d e) (record {
          placed = member_code o m.placed q.placed;
          pins = pins_then m.pins (pins_address (λ w. pins_then (pins_plain b (instr.LocalSet w ∷ []))
              (pins_then q.pins (pins_then (pins_plain c (check_code (pos 0) (pos 31) 1))
              (pins_number (λ i. pins_then (pins_plain c (instr.LocalSet i ∷ []))
              (pins_setting (λ s. pins_plain c (with_member o w i s.home.types)))))))));
          executes = λ k fit. laws.memberships k fit.fits.set F o r m.placed (as_part x ask (expr_part N e) q.placed)
              (locate P ask d) (value P ask e) (here x ask ws k fit.fits (λ h. IsCell h.types bitset r) cell)
              (m.locates k fit.fits) (q.agrees k fit.fits) (agrees_beside x ask q k fit.fits);
          stays = λ e' a s. with_stays (locate P ask d a s)
              (λ l s. value P ask e a s ▷ λ i s. meaning.within (pos 0) (pos 31) 1 i s ▷ λ i s. Value Normal
              (store_number l (statements.with_element o (s.store l) i) s))
              (λ l s. with_stays (value P ask e a s)
              (λ i s. meaning.within (pos 0) (pos 31) 1 i s ▷ λ i s. Value Normal
              (store_number l (statements.with_element o (s.store l) i) s))
              (λ i s. with_stays (meaning.within (pos 0) (pos 31) 1 i s)
              (λ i s. Value Normal (store_number l (statements.with_element o (s.store l) i) s)) (λ i s. refl)));
        })

    halt_made : (a : ℕ) → Stmt ws l a a stmt.Halt
    halt_made a = from_stmt ws l a a stmt.Halt step.Halt stmt.outs-Halt
        (record {
          placed = plain (fault 9);
          pins = pins_plain a (fault 9);
          executes =
              λ k fit. laws.halts k fit.fits.set F;
          stays = λ e' a s. refl;
        })

    return_made : (a : ℕ) → result ≡ None → Stmt ws l a a stmt.Return
    return_made a none = from_stmt ws l a a stmt.Return step.Return stmt.outs-Return (record {
      placed = plain (instr.Return ∷ []);
      pins = pins_plain a (instr.Return ∷ []);
      executes = λ k fit. subst (λ (r : Result). Executes k (is_there r) (plain (instr.Return ∷ []))
          (λ a s. Value (Returned (pos 0)) s)) (sym none) (laws.returns k);
      stays = λ e' a s. refl;
    })

    given_alike : (k : Scene) (c : Coded) (t : TypeNo) (e : TypedExpr)
        → Executes k true c (λ a s. given_value t e a s ▷ λ v s. Value (Returned v) s)
        → Executes k true c (λ a s. value P ask e a s ▷ λ v s. as_type a.types t v s ▷ λ v s. Value (Returned v) s)
    given_alike k c t e h =
        executes_alike k true c
        (λ a s. given_value t e a s ▷ λ v s. Value (Returned v) s)
        (λ a s. value P ask e a s ▷ λ v s. as_type a.types t v s ▷ λ v s. Value (Returned v) s)
        (λ s. answer_assoc (value P ask e k.around s) (λ v s. as_type k.around.types t v s)
        (λ v s. Value (Returned v) s))
        h

    given_stays : (t : TypeNo) (e : TypedExpr)
        → Stays (λ a s. value P ask e a s ▷ λ v s. as_type a.types t v s ▷ λ v s. Value (Returned v) s)
    given_stays t e a s = with_stays (value P ask e a s) (λ v s. as_type a.types t v s ▷ λ v s. Value (Returned v) s)
        (λ v s. with_stays (as_type a.types t v s) (λ v s. Value (Returned v) s) (λ v s. refl))

    give_made : (a b : ℕ) (t : TypeNo) (r : Scalar) (e : TypedExpr) → result ≡ Some (tree x.home.types t)
        → IsCell x.home.types t r → MadeGiven ws a b e t → Stmt ws l a b (stmt.Give t e)
    give_made a b t r e is cell q = from_stmt ws l a b (stmt.Give t e) (step.Give t e) (stmt.outs-Give t e) (record {
      placed = given_code t e q.placed ⨾ plain (instr.Return ∷ []);
      pins = pins_then (given_pins q) (pins_plain b (instr.Return ∷ []));
      executes = λ k fit.
          subst (λ (r : Result). Executes k (is_there r) (given_code t e q.placed ⨾ plain (instr.Return ∷ []))
          (λ a s. value P ask e a s ▷ λ v s. as_type a.types t v s ▷ λ v s. Value (Returned v) s)) (sym is)
          (given_alike k (given_code t e q.placed ⨾ plain (instr.Return ∷ [])) t e
          (results k t r (given_code t e q.placed) (given_value t e)
          (here x ask ws k fit.fits (λ h. k.result ≡ Some (tree h.types t)) (fit.typed ∙ is))
          (here x ask ws k fit.fits (λ h. IsCell h.types t r) cell) (q.agrees k fit.fits)));
      stays = λ e' a s. given_stays t e a s;
    })

    give_procedure_made : (a b : ℕ) (t : TypeNo) (h : Heading) (e : TypedExpr) → result ≡ Some (Cell (Callable h))
        → scalar_at x.home.types t ≡ None → Held ws a b e h → Stmt ws l a b (stmt.Give t e)
    give_procedure_made a b t h e is none q =
        from_stmt ws l a b (stmt.Give t e) (step.Give t e) (stmt.outs-Give t e) (record {
          placed = given_code t e q.placed ⨾ plain (instr.Return ∷ []);
          pins = pins_then (held_pins t e q) (pins_plain b (instr.Return ∷ []));
          executes = λ k fit.
              subst (λ (r : Result). Executes k (is_there r) (given_code t e q.placed ⨾ plain (instr.Return ∷ []))
              (λ a s. value P ask e a s ▷ λ v s. as_type a.types t v s ▷ λ v s. Value (Returned v) s)) (sym is)
              (given_alike k (given_code t e q.placed ⨾ plain (instr.Return ∷ [])) t e
              (held_gives k h (given_code t e q.placed) (given_value t e) (fit.typed ∙ is)
              (given_held x ask ws a b t h e q none k fit.fits)));
          stays = λ e' a s. given_stays t e a s;
        })

    -- ---- rows

    no_rows_made : (a : ℕ) → Rows ws l a a []
    no_rows_made a = record {
      placed = nothing;
      pins = pins_plain a [];
      executes = λ k fit. nothing_executes k F;
      stays = λ e' a s. refl;
    }

    more_rows_made : (a b c : ℕ) (s : TypedStmt) (ss : List TypedStmt) → Stmt ws l a b s → Rows ws l b c ss
        → Rows ws l a c (s ∷ ss)
    more_rows_made a b c s ss m ms = record {
      placed = m.placed ⨾ ms.placed;
      pins = pins_then m.pins ms.pins;
      executes = λ k fit. then_executes k F m.placed ms.placed (does P ask n s) (rows_do ss) (m.executes k fit)
          (ms.executes k fit);
      stays = λ e' a st. then_stays (does P ask n s a st) (rows_do ss a) (m.stays e' a st) (ms.stays e' a);
    }

    -- ---- IF

    if_made : (a b c : ℕ) (e : TypedExpr) (body : List TypedStmt) → MadeTest ws a b e → Rows ws l b c body
        → Stmt ws l a c (stmt.If e body None)
    if_made a b c e body q m = from_stmt ws l a c (stmt.If e body None) (step.If e body None) (stmt.outs-If e body None)
        (record {
          placed = q.placed ⨾ plain (wrap_word ∷ []) ⨾ if_only m.placed;
          pins = pins_then q.pins (pins_then (pins_plain b (wrap_word ∷ []))
              (pins_within 1 (λ c. instr.If None c None ∷ []) m.pins));
          executes = λ k fit. laws.lone_ifs k fit.fits.set F q.placed (value P ask e) m.placed (rows_do body)
              (q.agrees k fit.fits) (m.executes k fit);
          stays = λ e' a s. with_stays (value P ask e a s)
              (λ v s. if is_true v then rows_do body a s else Value Normal s)
              (λ v s. if_stays (is_true v) (rows_do body a s) (Value Normal s) (m.stays e' a s) refl);
        })

    if_else_made : (a b c z : ℕ) (e : TypedExpr) (body others : List TypedStmt) → MadeTest ws a b e → Rows ws l b c body
        → Rows ws l c z others → Stmt ws l a z (stmt.If e body (Some others))
    if_else_made a b c z e body others q m o =
        from_stmt ws l a z (stmt.If e body (Some others)) (step.If e body (Some others))
        (stmt.outs-If e body (Some others)) (record {
          placed = q.placed ⨾ plain (wrap_word ∷ []) ⨾ if_else m.placed o.placed;
          pins = pins_then q.pins (pins_then (pins_plain b (wrap_word ∷ [])) (pins_if_else m.pins o.pins));
          executes = λ k fit. laws.ifs k fit.fits.set F q.placed (value P ask e) m.placed o.placed (rows_do body)
              (rows_do others) (q.agrees k fit.fits) (m.executes k fit) (o.executes k fit);
          stays = λ e' a s. with_stays (value P ask e a s)
              (λ v s. if is_true v then rows_do body a s else rows_do others a s)
              (λ v s. if_stays (is_true v) (rows_do body a s) (rows_do others a s) (m.stays e' a s) (o.stays e' a s));
        })

    -- ---- loops

    while_made : (a b c : ℕ) (e : TypedExpr) (body : List TypedStmt) → MadeTest ws a b e → Rows ws l b c body
        → Stmt ws l a c (stmt.While e body)
    while_made a b c e body q m = from_stmt ws l a c (stmt.While e body) (step.While e body) (stmt.outs-While e body)
        (record {
          placed = within 2 block_loop (q.placed ⨾ plain (is_zero ∷ instr.BrIf 1 ∷ []) ⨾ m.placed ⨾ plain
              (instr.Br 0 ∷ []));
          pins = pins_within 2 block_loop (pins_then q.pins
              (pins_then (pins_plain b (is_zero ∷ instr.BrIf 1 ∷ []))
              (pins_then m.pins (pins_plain c (instr.Br 0 ∷ [])))));
          executes = λ k fit.
              let list : Coded = within 2 block_loop
              (q.placed ⨾ plain (is_zero ∷ instr.BrIf 1 ∷ []) ⨾ m.placed ⨾ plain (instr.Br 0 ∷ [])) in
              subst (λ (i : ℕ). Executes k F list (λ a s. while_begun i (value P ask e a) (rows_do body a) s)) fit.turns
              (laws.whiles k fit.fits.set F q.placed (value P ask e) m.placed (rows_do body) (q.agrees k fit.fits)
              (m.executes k fit));
          stays = λ e' a. while_stays n (value P ask e a) (rows_do body a) (m.stays e' a);
        })

    repeat_made : (a b c : ℕ) (body : List TypedStmt) (e : TypedExpr) → Rows ws l a b body → MadeTest ws b c e
        → Stmt ws l a c (stmt.Repeat body e)
    repeat_made a b c body e m q = from_stmt ws l a c (stmt.Repeat body e) (step.Repeat body e)
        (stmt.outs-Repeat body e) (record {
          placed = within 1 loop (m.placed ⨾ q.placed ⨾ plain (is_zero ∷ instr.BrIf 0 ∷ []));
          pins = pins_within 1 loop (pins_then m.pins (pins_then q.pins (pins_plain c (is_zero ∷ instr.BrIf 0 ∷ []))));
          executes = λ k fit.
              let list : Coded = within 1 loop (m.placed ⨾ q.placed ⨾ plain (is_zero ∷ instr.BrIf 0 ∷ [])) in
              subst (λ (i : ℕ). Executes k F list (λ a s. until_true i (rows_do body a) (value P ask e a) s)) fit.turns
              (laws.repeats k fit.fits.set F q.placed (value P ask e) m.placed (rows_do body) (q.agrees k fit.fits)
              (m.executes k fit));
          stays = λ e' a. until_stays n (rows_do body a) (value P ask e a) (m.stays e' a);
        })

    loop_made : (a b : ℕ) (body : List TypedStmt) → Rows ws true a b body → Stmt ws l a b (stmt.Loop body)
    loop_made a b body m = from_stmt ws l a b (stmt.Loop body) (step.Loop body) (stmt.outs-Loop body) (record {
      placed = leaving 1 block_loop (m.placed ⨾ plain (instr.Br 0 ∷ []));
      pins = pins_leaving 1 block_loop (pins_then m.pins (pins_plain b (instr.Br 0 ∷ [])));
      executes = λ k fit.
          subst (λ (i : ℕ). Executes k F (leaving 1 block_loop (m.placed ⨾ plain (instr.Br 0 ∷ [])))
          (λ a s. loop_outcome i (rows_do body a) s)) fit.turns
          (laws.loops k fit.fits.set F m.placed (rows_do body) (m.executes k fit));
      stays = λ e' a. looped_stays n (rows_do body a);
    })

    -- ---- WITH

    with_made : (a b c : ℕ) (t : Ty) (d : Place) (body : List TypedStmt) → Placed ws a b d t
        → Rows (ws ++ t ∷ []) l b c body → Stmt ws l a c (stmt.With d body)
    with_made a b c t d body q m = from_stmt ws l a c (stmt.With d body) (step.With d body) (stmt.outs-With d body)
        (record {
          placed = q.placed ⨾ with_address (λ w. plain (instr.LocalSet w ∷ []) ⨾ under w m.placed);
          pins = pins_then q.pins (pins_address (λ w. pins_then (pins_plain b (instr.LocalSet w ∷ []))
              (pins_under w m.pins)));
          executes = λ k fit. laws.withs k F t q.placed m.placed (locate P ask d) (rows_do body) (q.locates k fit.fits)
              (λ w e c. (pins_under w m.pins).grows (inside k e) c)
              (λ w l new type some. m.executes (opening k w l) (suits_opening ws k w l t new type some fit));
          stays = λ e' a s. with_stays (locate P ask d a s)
              (λ l s. rows_do body (record a { withs = a.withs ++ l ∷ [] }) s)
              (λ l s. m.stays e' (record a { withs = a.withs ++ l ∷ [] }) s);
        })

  -- within a LOOP
  exit_made : (ws : List Ty) (a : ℕ) → Stmt ws true a a stmt.Exit
  exit_made ws a = from_stmt ws true a a stmt.Exit step.Exit stmt.outs-Exit (record {
    placed = with_setting (λ s. plain (instr.Br s.exit ∷ []));
    pins = pins_setting (λ s. pins_plain a (instr.Br s.exit ∷ []));
    executes = λ k fit. laws.exits k F;
    stays = λ e' a s. cc e';
  })

  -- ---- FOR

  -- code that leaves the address of the control variable
  record MadeControl (d : Place) (t : Ty) : Type 0 where
    at : Setting → List Instr
    pins : (i : ℕ) → Pins i i (place_code N d) (with_setting (λ s. plain (at s)))
    l : Scene → Location
    there : (ws : List Ty) (k : Scene) → Fits x ask ws k → IsThere k at (l k)
    found : (k : Scene) (s : Source) → locate P ask d k.around s ≡ Value (l k) s
    type : (ws : List Ty) (k : Scene) → Fits x ask ws k → component (row k.world) (l k) ≡ Some t

  -- what stands alone
  alone : (r : Root) (d : Place) → d.root ≡ r → d.components ≡ [] → (a : Environment) (s : Source)
      → locate P ask d a s ≡ Value (meaning.root_layer P ask r a) s
  alone r d is none a s =
      ap (λ (f : Gives Location). f a s) (place_means P ask d (out-Place d) refl)
      ∙ ap (λ (r : Root). meaning.one_by_one (map (component_value P ask) d.components) (meaning.root_layer P ask r a) a
      s) is
      ∙ ap (λ (ks : List Component). meaning.one_by_one (map (component_value P ask) ks) (meaning.root_layer P ask r a)
      a s) none

  alone_code : (r : Root) (d : Place) → d.root ≡ r → d.components ≡ [] → place_code N d ≡ (code.root_layer r ⨾ nothing)
  alone_code r d is none =
      place_at N d (out-Place d) refl
      ∙ ap (λ (r : Root). code.root_layer r ⨾ all_coded (map (component_code N) d.components)) is
      ∙ ap (λ (ks : List Component). code.root_layer r ⨾ all_coded (map (component_code N) ks)) none

  control_made : (d : Place) (t : Ty) → IsControl x d t → MadeControl d t
  unfolding component
  control_made _ _ (typed.OfModule d v t is none known) = record {
    at = λ s. code.global_code s.home v ++ [];
    pins = λ i. subst (λ (c : Coded). Pins i i c (with_setting (λ s. plain (code.global_code s.home v ++ []))))
        (sym (alone_code (root.Global v) d is none))
        (pins_setting (λ s. pins_plain i (code.global_code s.home v ++ [])));
    l = λ k. meaning.root_layer P ask (root.Global v) k.around;
    there = λ ws k fit e s st h rest stack.
        let g = fit.globals v t known in
        ap (λ (list : List Instr). runs k (list ++ rest) st stack) (append-nil (code.global_code k.setting.home v))
        ∙ laws.entire k fit.set v (meaning.root_layer P ask (root.Global v) k.around) t g e s st h rest stack;
    found = λ k s. alone (root.Global v) d is none k.around s;
    type = λ ws k fit. (fit.globals v t known).type;
  }
  control_made _ _ (typed.OfFrame d slot t is none known) = record {
    at = λ s. code.slot_code s slot [] ++ [];
    pins = λ i. subst (λ (c : Coded). Pins i i c (with_setting (λ s. plain (code.slot_code s slot [] ++ []))))
        (sym (alone_code (root.Local slot) d is none))
        (pins_setting (λ s. pins_plain i (code.slot_code s slot [] ++ [])));
    l = λ k. meaning.root_layer P ask (root.Local slot) k.around;
    there = λ ws k fit e s st h rest stack.
        ap (λ (list : List Instr). runs k (list ++ rest) st stack) (append-nil (code.slot_code (inside k e) slot []))
        ∙ cell_runs k fit.set x.kinds fit.frames slot (Kept t) known [] t refl e s st h rest stack
        ∙ ap (λ (l : Location). runs k rest st (stack ++ I32 (scene_place k l) ∷ [])) (sym (same ws k fit));
    found = λ k s. alone (root.Local slot) d is none k.around s;
    type = λ ws k fit. ap (λ (l : Location). component (row k.world) l) (same ws k fit)
        ∙ cell_type k fit.set x.kinds fit.frames slot (Kept t) known [] t refl;
  }
    where
      same : (ws : List Ty) (k : Scene) (fit : Fits x ask ws k)
          → location_of (slot_named k.around slot) ≡ (slot_here k fit.set x.kinds fit.frames slot (Kept t) known).root
          ∷ suc slot.number ∷ []
      same ws k fit = let f = slot_here k fit.set x.kinds fit.frames slot (Kept t) known in
          ap location_of f.named ∙ location_kept k.world k.hidden f.root slot.number t f.name f.is

  for_made : (ws : List Ty) (l : Bool) (a b c z : ℕ) (d : Place) (t u : TypeNo) (r : Scalar) (start limit : TypedExpr)
      (by : ℤ) (body : List TypedStmt) → IsCell x.home.types t r → (scalar_at x.home.types t ≡ None → ⊥)
      → IsControl x d (Cell r)
      → negsuc 2147483647 ≤ℤ by → by ≤ℤ pos 4294967295 → MadeGiven ws a b start t → Expr ws b c limit u
      → Rows ws l c z body → Stmt ws l a z (stmt.For d t start limit by body)
  for_made ws l a b c z d t u r start limit by body cell ranged control low high q v m =
      from_stmt ws l a z (stmt.For d t start limit by body) (step.For d t start limit by body)
      (stmt.outs-For d t start limit by body) (record {
        placed = for_code variable t (as_part x ask (expr_part N start) q.placed)
            (as_part x ask (expr_part N limit) v.placed) by m.placed;
        pins = pins_for (place_code N d) variable t (expr_part N start) (expr_part N limit) q.placed v.placed by
            (rows_code body) m.placed g.pins q.pins v.pins m.pins;
        executes = λ k fit.
            let list : Coded = for_code variable t (as_part x ask (expr_part N start) q.placed)
            (as_part x ask (expr_part N limit) v.placed) by m.placed in
            subst (λ (i : ℕ). Executes k F list (turned i)) fit.turns
            (executes_alike k F list (short (g.l k) k.turns) (turned k.turns) (λ s. steps_same k k.turns s)
            (laws.fors k fit.fits.set F t r (g.l k) g.at (as_part x ask (expr_part N start) q.placed)
            (as_part x ask (expr_part N limit) v.placed) by m.placed (given_value t start) (value P ask limit)
            (rows_do body)
            (here x ask ws k fit.fits (λ h. IsCell h.types t r) cell)
            (here x ask ws k fit.fits (λ h. scalar_at h.types t ≡ None → ⊥) ranged) (g.type ws k fit.fits)
            (g.there ws k fit.fits) low high
            (q.agrees k fit.fits) (v.agrees k fit.fits) (λ e c. m.pins.grows (inside k e) c)
            (λ w i new. m.executes (keeping k w i) (suits_keeping ws k w i new fit))));
        stays = λ e' a s. with_stays (locate P ask d a s)
            (λ l s. value P ask start a s ▷ λ v s. as_type a.types t v s ▷ λ v s. value P ask limit a s ▷ λ last s.
            for_all
            n (as_type a.types t) l by last (rows_do body a) (store_number l v s))
            (λ l s. with_stays (value P ask start a s)
            (λ v s. as_type a.types t v s ▷ λ v s. value P ask limit a s ▷ λ last s. for_all n (as_type a.types t) l by
            last (rows_do body a) (store_number l v s))
            (λ v s. with_stays (as_type a.types t v s)
            (λ v s. value P ask limit a s ▷ λ last s. for_all n (as_type a.types t) l by last (rows_do body a)
            (store_number l v s))
            (λ v s. with_stays (value P ask limit a s)
            (λ last s. for_all n (as_type a.types t) l by last (rows_do body a) (store_number l v s))
            (λ last s. for_stays n (as_type a.types t) l by last (rows_do body a) (m.stays e' a)
            (store_number l v s)))));
      })
    where
      g : MadeControl d (Cell r)
      g = control_made d (Cell r) control

      variable : Coded
      variable = with_setting (λ s. plain (g.at s))

      turned : ℕ → Does
      turned i a s = locate P ask d a s ▷ λ l s. value P ask start a s ▷ λ v s. as_type a.types t v s ▷ λ v s. value P
          ask limit a s ▷ λ last s. for_all i (as_type a.types t) l by last (rows_do body a) (store_number l v s)

      short : Location → ℕ → Does
      short l i a s = given_value t start a s ▷ λ v s. value P ask limit a s ▷ λ last s. for_all i (as_type a.types t) l
          by last (rows_do body a) (store_number l v s)

      steps_same : (k : Scene) (i : ℕ) (s : Source) → short (g.l k) i k.around s ≡ turned i k.around s
      steps_same k i s =
          answer_assoc (value P ask start k.around s) (λ v s. as_type k.around.types t v s)
          (λ v s. value P ask limit k.around s ▷ λ last s. for_all i (as_type k.around.types t) (g.l k) by last
          (rows_do body k.around) (store_number (g.l k) v s))
          ∙ ap (λ (q : Answer Location). (q ▷ λ l s. value P ask start k.around s ▷ λ v s. as_type k.around.types t v s
          ▷ λ v s. value P ask limit k.around s ▷ λ last s. for_all i (as_type k.around.types t) l by last
          (rows_do body k.around) (store_number l v s)))
          (sym (g.found k s))

  -- ---- CASE

  -- arms, with their texts placed: their labels are the same
  record MadeArms (ws : List Ty) (l : Bool) (a b : ℕ) (xs : List steps.Arm) (ys : List statements.Arm) : Type 0 where
    placed : List steps.Arm
    count : length placed ≡ length xs
    labels : all_labels placed ≡ all_labels xs
    targets : (v : ℤ) → target placed v ≡ target xs v
    -- in a chain of tests, and behind a jump
    tested : (t : ℕ) → Pins a b (all_coded (map (arm_code t) xs)) (all_coded (map (arm_code t) placed))
    jumped : (z : ℕ) (inner inner' : Coded) → Pins z a inner inner'
        → Pins z b (jump_arms xs inner) (jump_arms placed inner')
    arms : (k : Scene) → Suited ws k → AreArms k F placed ys
    stays : l ≡ false → (v : ℤ) (other : Does) → Stays other → Stays (choose_arm v ys other)

  no_arms_made : (ws : List Ty) (l : Bool) (a : ℕ) → MadeArms ws l a a [] []
  no_arms_made ws l a = record {
    placed = [];
    count = refl;
    labels = refl;
    targets = λ v. refl;
    tested = λ t. pins_plain a [];
    jumped = λ z inner inner' h. h;
    arms = λ k fit. no_arms;
    stays = λ e v other h. h;
  }

  abbrev jump_one : (others : ℕ) → Coded → Coded → Coded
  jump_one i inner c = in_block inner ⨾ within (i + 2) (λ code. code) c ⨾ plain (instr.Br (i + 1) ∷ [])

  more_arms_made : (ws : List Ty) (l : Bool) (a b c : ℕ) (ls : List Label) (y : Coded) (d : Does) (xs : List steps.Arm)
      (ys : List statements.Arm) → AreLabels ls → MadeStmt ws l a b y d → MadeArms ws l b c xs ys
      → MadeArms ws l a c (record { labels = ls; code = y } ∷ xs) (record { labels = ls; does = d } ∷ ys)
  more_arms_made ws l a b c ls y d xs ys are m ms = record {
    placed = record { labels = ls; code = m.placed } ∷ ms.placed;
    count = ap suc ms.count;
    labels = ap (λ (more : List Label). ls ++ more) ms.labels;
    targets = λ v. ap (λ (i : ℕ). if has_label v (record { labels = ls; code = y }) then 0 else suc i) (ms.targets v);
    tested = λ t. pins_then (pins_within 1 (λ list. block (block (tests_code t ls) ++ (list ++ instr.Br 1 ∷ [])))
        m.pins) (ms.tested t);
    jumped = λ z inner inner' h. ms.jumped z (jump_one (length xs) inner y)
        (jump_one (length ms.placed) inner' m.placed)
        (subst (λ (i : ℕ). Pins z b (jump_one (length xs) inner y) (jump_one i inner' m.placed)) (sym ms.count)
        (pins_then (pins_boxed h) (pins_then (pins_within (length xs + 2) (λ list. list) m.pins)
        (pins_plain b (instr.Br (length xs + 1) ∷ [])))));
    arms = λ k fit. more_arms ls m.placed ms.placed d ys are (m.executes k fit) (ms.arms k fit);
    stays = λ e v other h. arm_stays (list_any (is_labelled v) ls) d (choose_arm v ys other) (m.stays e)
        (ms.stays e v other h);
  }

  from_arm : (ws : List Ty) (l : Bool) (a b c : ℕ) (y : TypedArm) (ys : List TypedArm) → AreLabels y.labels
      → Rows ws l a b y.body → MadeArms ws l b c (map (armed N) ys) (map (arm_does P ask n) ys)
      → MadeArms ws l a c (map (armed N) (y ∷ ys)) (map (arm_does P ask n) (y ∷ ys))
  from_arm ws l a b c y ys are m ms =
      subst (λ (q : steps.Arm). MadeArms ws l a c (q ∷ map (armed N) ys)
      (arm_does P ask n y ∷ map (arm_does P ask n) ys)) (sym (arm_at N y (out-TypedArm y) refl))
      (subst (λ (q : statements.Arm). MadeArms ws l a c
      (record { labels = y.labels; code = rows_code y.body } ∷ map (armed N) ys) (q ∷ map (arm_does P ask n) ys))
      (sym (arm_means P ask n y (out-TypedArm y) refl))
      (more_arms_made ws l a b c y.labels (rows_code y.body) (rows_do y.body) (map (armed N) ys)
      (map (arm_does P ask n) ys) are m ms))

  -- the jump looks at the labels alone
  same_dispatch : (t : ℕ) (xs ys : List steps.Arm) → length ys ≡ length xs → all_labels ys ≡ all_labels xs
      → ((v : ℤ) → target ys v ≡ target xs v)
      → dispatch t xs (least_of (all_labels xs)) (span_of (all_labels xs))
      ≡ dispatch t ys (least_of (all_labels ys)) (span_of (all_labels ys))
  same_dispatch t xs ys count labels same =
      ap (λ (js : List ℕ). jump (all_labels xs) (length xs) js)
      (map_alike (λ i. target xs (least_of (all_labels xs) +ℤ pos i))
      (λ i. target ys (least_of (all_labels xs) +ℤ pos i)) (range_with_len 0 (span_of (all_labels xs)))
      (λ i. sym (same (least_of (all_labels xs) +ℤ pos i))))
      ∙ ap (λ (i : ℕ). jump (all_labels xs) i (targets ys (least_of (all_labels xs)) (span_of (all_labels xs))))
      (sym count)
      ∙ ap (λ (ls : List Label). jump ls (length ys) (targets ys (least_of ls) (span_of ls))) (sym labels)
    where
      jump : List Label → ℕ → List ℕ → List Instr
      jump ls i js = steps.from_least t (least_of ls)
          ++ (instr.I64Const (span_of ls - 1) ∷ relation GtU ∷ instr.BrIf i
          ∷ (steps.from_least t (least_of ls) ++ (wrap_word ∷ instr.BrTable js i ∷ [])))

  -- all of it, with what stands behind ELSE
  module _ (ws : List Ty) (l : Bool) (a b c z : ℕ) (e : TypedExpr) (u : TypeNo) (q : Expr ws a b e u)
      (xs : List steps.Arm) (ys : List statements.Arm) (m : MadeArms ws l b c xs ys) (y : Coded) (d : Does)
      (o : MadeStmt ws l c z y d) where
    dense : is_dense (length m.placed) (all_labels m.placed) ≡ is_dense (length xs) (all_labels xs)
    dense = ap (λ (i : ℕ). is_dense i (all_labels m.placed)) m.count
        ∙ ap (λ (ls : List Label). is_dense (length xs) ls) m.labels

    chain_pins : (t : ℕ) → Pins b z (chain_code t xs y) (chain_code t m.placed o.placed)
    chain_pins t = pins_within 1 block (pins_then (m.tested t) o.pins)

    table_pins : (t : ℕ) → Pins b z (table_code t xs y) (table_code t m.placed o.placed)
    table_pins t =
        pins_boxed (pins_then (pins_boxed (m.jumped b
        (plain (dispatch t xs (least_of (all_labels xs)) (span_of (all_labels xs))))
        (plain (dispatch t m.placed (least_of (all_labels m.placed)) (span_of (all_labels m.placed))))
        (subst (λ (list : List Instr). Pins b b
        (plain (dispatch t xs (least_of (all_labels xs)) (span_of (all_labels xs)))) (plain list))
        (same_dispatch t xs m.placed m.count m.labels m.targets)
        (pins_plain b (dispatch t xs (least_of (all_labels xs)) (span_of (all_labels xs)))))))
        (pins_within 1 (λ list. list) o.pins))

    case_pins : Pins a z (case_code (expr_part N e).code xs y) (case_code q.placed m.placed o.placed)
    case_pins = pins_then q.pins (pins_number
        (λ t. pins_then (pins_plain b (instr.LocalSet t ∷ []))
        (pins_either (is_dense (length xs) (all_labels xs)) (is_dense (length m.placed) (all_labels m.placed)) dense
        (table_pins t) (chain_pins t))))

    case_executes : (k : Scene) → Suited ws k
        → Executes k F (case_code q.placed m.placed o.placed) (λ a s. value P ask e a s ▷ λ v s. choose_arm v ys d a s)
    case_executes k fit = by (is_dense (length m.placed) (all_labels m.placed)) refl
      where
        arms_beside : (w : ℕ) (v : Operand) → k.kept w ≡ None → AreArms (keeping k w v) F m.placed ys
        arms_beside w v new = m.arms (keeping k w v) (suits_keeping ws k w v new fit)

        else_beside : (w : ℕ) (v : Operand) → k.kept w ≡ None → Executes (keeping k w v) F o.placed d
        else_beside w v new = o.executes (keeping k w v) (suits_keeping ws k w v new fit)

        by : (i : Bool) → is_dense (length m.placed) (all_labels m.placed) ≡ i
            → Executes k F (case_code q.placed m.placed o.placed)
            (λ a s. value P ask e a s ▷ λ v s. choose_arm v ys d a s)
        by true is = table_cases k fit.fits.set F (as_part x ask (expr_part N e) q.placed) (value P ask e) m.placed ys
            o.placed d is (q.agrees k fit.fits) (λ t i n. (table_pins t).grows (inside k i) n) arms_beside else_beside
        by false is = laws.cases k fit.fits.set F (as_part x ask (expr_part N e) q.placed) (value P ask e) m.placed ys
            o.placed d is (q.agrees k fit.fits) (λ t i n. (chain_pins t).grows (inside k i) n) arms_beside else_beside

    case_stays : l ≡ false → Stays (λ a s. value P ask e a s ▷ λ v s. choose_arm v ys d a s)
    case_stays e' a s = with_stays (value P ask e a s) (λ v s. choose_arm v ys d a s)
        (λ v s. m.stays e' v d (o.stays e') a s)

  case_made : (ws : List Ty) (l : Bool) (a b c : ℕ) (u : TypeNo) (e : TypedExpr) (arms : List TypedArm)
      → Expr ws a b e u → MadeArms ws l b c (map (armed N) arms) (map (arm_does P ask n) arms)
      → Stmt ws l a c (stmt.Case e arms None)
  case_made ws l a b c u e arms q m = from_stmt ws l a c (stmt.Case e arms None) (step.Case e arms None)
      (stmt.outs-Case e arms None) (record {
        placed = case_code q.placed m.placed o.placed;
        pins = case_pins ws l a b c c e u q (map (armed N) arms) (map (arm_does P ask n) arms) m (else_code None)
            (or_else None) o;
        executes = case_executes ws l a b c c e u q (map (armed N) arms) (map (arm_does P ask n) arms) m
            (else_code None)
            (or_else None) o;
        stays = case_stays ws l a b c c e u q (map (armed N) arms) (map (arm_does P ask n) arms) m (else_code None)
            (or_else None) o;
      })
    where
      o : MadeStmt ws l c c (else_code None) (or_else None)
      o = record {
        placed = else_code None;
        pins = pins_plain c (fault 5);
        executes =
            λ k fit. laws.unlabelled k fit.fits.set F;
        stays = λ e a s. refl;
      }

  case_else_made : (ws : List Ty) (l : Bool) (a b c z : ℕ) (u : TypeNo) (e : TypedExpr) (arms : List TypedArm)
      (others : List TypedStmt) → Expr ws a b e u → MadeArms ws l b c (map (armed N) arms) (map (arm_does P ask n) arms)
      → Rows ws l c z others → Stmt ws l a z (stmt.Case e arms (Some others))
  case_else_made ws l a b c z u e arms others q m o =
      from_stmt ws l a z (stmt.Case e arms (Some others)) (step.Case e arms (Some others))
      (stmt.outs-Case e arms (Some others)) (record {
        placed = case_code q.placed m.placed o.placed;
        pins = case_pins ws l a b c z e u q (map (armed N) arms) (map (arm_does P ask n) arms) m (rows_code others)
            (rows_do others) o;
        executes = case_executes ws l a b c z e u q (map (armed N) arms) (map (arm_does P ask n) arms) m
            (rows_code others)
            (rows_do others) o;
        stays = case_stays ws l a b c z e u q (map (armed N) arms) (map (arm_does P ask n) arms) m (rows_code others)
            (rows_do others) o;
      })

  -- ---- all of them

  mutual
    pub stmt_made : (ws : List Ty) (l : Bool) (a b : ℕ) (s : TypedStmt) → typed.IsStmt x result ws l a b s
        → Stmt ws l a b s
    stmt_made _ _ _ _ _ (typed.Assign ws l a b c d t r e cell h g) =
        assign_made ws l a b c d t r e cell (place_made x ask ws a b d (Cell r) h) (given_made ws b c e t g)
    stmt_made _ _ _ _ _ (typed.AssignProcedure ws l a b c d t h e type none g is) =
        assign_procedure_made ws l a b c d t h e type none (place_made x ask ws a b d (Cell (Callable h)) g)
        (held_made x ask ws b c e h is)
    stmt_made _ _ _ _ _ (typed.Copy ws l a b c d e t is h g) =
        copy_made ws l a b c d e t is (place_made x ask ws a b d (tree x.home.types t) h)
        (place_made x ask ws b c e (tree x.home.types t) g)
    stmt_made _ _ _ _ _ (typed.CopyText ws l a b i d t text array less has h) =
        copy_text_made ws l a b i d t text array less has (place_made x ask ws a b d (tree x.home.types t) h)
    stmt_made _ _ _ _ _ (typed.ProcedureCall ws l a b c h) = call_stmt_made ws l a b c (call_made x ask ws a b c None h)
    stmt_made _ _ _ _ _ (typed.Put ws l a b e g) = put_made ws l a b e (given_made ws a b e char g)
    stmt_made _ _ _ _ _ (typed.Changed ws l a b c o d t u r e cell ranged based h g) =
        change_made ws l a b c o d t u r e cell ranged based (place_made x ask ws a b d (Cell r) h)
        (expr_made x ask ws b c e u g)
    stmt_made _ _ _ _ _ (typed.Member ws l a b c o d u r e cell h g) =
        member_made ws l a b c o d u r e cell (place_made x ask ws a b d (Cell r) h) (expr_made x ask ws b c e u g)
    stmt_made _ _ _ _ _ (typed.Halt ws l a) = halt_made ws l a
    stmt_made _ _ _ _ _ (typed.If ws l a b c e body g hs) =
        if_made ws l a b c e body (test_made ws a b e g) (rows_made ws l b c body hs)
    stmt_made _ _ _ _ _ (typed.IfElse ws l a b c z e body others g hs os) =
        if_else_made ws l a b c z e body others (test_made ws a b e g) (rows_made ws l b c body hs)
        (rows_made ws l c z others os)
    stmt_made _ _ _ _ _ (typed.Case ws l a b c u e arms g hs) =
        case_made ws l a b c u e arms (expr_made x ask ws a b e u g) (arms_made ws l b c arms hs)
    stmt_made _ _ _ _ _ (typed.CaseElse ws l a b c z u e arms others g hs os) =
        case_else_made ws l a b c z u e arms others (expr_made x ask ws a b e u g) (arms_made ws l b c arms hs)
        (rows_made ws l c z others os)
    stmt_made _ _ _ _ _ (typed.While ws l a b c e body g hs) =
        while_made ws l a b c e body (test_made ws a b e g) (rows_made ws l b c body hs)
    stmt_made _ _ _ _ _ (typed.Repeat ws l a b c body e hs g) =
        repeat_made ws l a b c body e (rows_made ws l a b body hs) (test_made ws b c e g)
    stmt_made _ _ _ _ _ (typed.Loop ws l a b body hs) = loop_made ws l a b body (rows_made ws true a b body hs)
    stmt_made _ _ _ _ _ (typed.Exit ws a) = exit_made ws a
    stmt_made _ _ _ _ _ (typed.Return ws l a none) = return_made ws l a none
    stmt_made _ _ _ _ _ (typed.Give ws l a b t r e is cell g) =
        give_made ws l a b t r e is cell (given_made ws a b e t g)
    stmt_made _ _ _ _ _ (typed.GiveProcedure ws l a b t h e is none g type) =
        give_procedure_made ws l a b t h e is none (held_made x ask ws a b e h g)
    stmt_made _ _ _ _ _ (typed.For ws l a b c z d t u r start limit by body cell ranged control low high g h hs) =
        for_made ws l a b c z d t u r start limit by body cell ranged control low high (given_made ws a b start t g)
        (expr_made x ask ws b c limit u h) (rows_made ws l c z body hs)
    stmt_made _ _ _ _ _ (typed.With ws l a b c t d body h hs) =
        with_made ws l a b c t d body (place_made x ask ws a b d t h) (rows_made (ws ++ t ∷ []) l b c body hs)

    pub rows_made : (ws : List Ty) (l : Bool) (a b : ℕ) (body : List TypedStmt) → typed.AreStmts x result ws l a b body
        → Rows ws l a b body
    rows_made _ _ _ _ _ (typed.no_stmts ws l a) = no_rows_made ws l a
    rows_made _ _ _ _ _ (typed.more_stmts ws l a b c s ss h hs) =
        more_rows_made ws l a b c s ss (stmt_made ws l a b s h) (rows_made ws l b c ss hs)

    arms_made : (ws : List Ty) (l : Bool) (a b : ℕ) (arms : List TypedArm) → typed.AreArms x result ws l a b arms
        → MadeArms ws l a b (map (armed N) arms) (map (arm_does P ask n) arms)
    arms_made _ _ _ _ _ (typed.no_arms ws l a) = no_arms_made ws l a
    arms_made _ _ _ _ _ (typed.more_arms ws l a b c y ys are hs gs) =
        from_arm ws l a b c y ys are (rows_made ws l a b y.body hs) (arms_made ws l b c ys gs)
