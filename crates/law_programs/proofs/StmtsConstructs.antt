-- Statements whose parts are typed are typed, wherever what they ask for is there.
use Rattle.std.proofs.Common.{◌≡◌, ℕ, ◌+◌, ℤ, pos, negsuc, Bool, true, List, [], ◌∷◌, ◌++◌, length, Some, None, refl, sym, ap, subst, ◌∙◌, arith}
use Rattle.std.specs.Prelude.{◌≤◌, ◌≤ℤ◌}
use Rattle.std.specs.List.{AllByRecursion, list_all}
use Rattle.typed_tree.specs.declared.computed.Call.{Call}
use Rattle.typed_tree.specs.declared.computed.Place.{Place}
use Rattle.typed_tree.specs.declared.computed.Root.{Root}
use Rattle.typed_tree.specs.declared.computed.TypedExpr.{TypedExpr}
use Rattle.typed_tree.specs.declared.statement.Change.{Change}
use Rattle.typed_tree.specs.declared.statement.Membership.{Membership}
use Rattle.typed_tree.specs.declared.statement.TypedArm.{TypedArm}
use Rattle.typed_tree.specs.declared.statement.TypedStmt.{TypedStmt}
use Rattle.typed_tree.specs.declared.statement.TypedStmt.TheVariants as stmt
use Rattle.typed_tree.specs.declared.typed_module.TypedModule.{TypedModule}
use Rattle.typed_tree.specs.declared.types.TypeNo.{TypeNo}
use Rattle.typed_tree.specs.declared.known_types.Types.{Types}
use Rattle.typed_tree.specs.Chains.{root_place}
use Rattle.typed_tree.specs.Types.{boolean, char, bitset}
use Rattle.typed_tree.specs.Known.{scalar_at}
use Rattle.layout_storage.specs.Types.{Ty, Scalar, Natural, Callable, Cell, Array, Heading, IsPlain}
use Rattle.layout_storage.specs.Shapes.{tree}
use Rattle.layout_storage.specs.Texts.{Texts, characters, texts_of, texts_at}
use Rattle.def_scheme.specs.Cells.{base_of}
use Rattle.law_simulation.specs.Scene.{AreAmong, IsCell, AreLabels}
use Rattle.law_simulation.specs.Passing.{Result as Gives}
use Rattle.law_simulation.specs.TreesTyped.{Context, HasText, IsExpr, IsProcedureExpr, IsPlace}
use Rattle.law_simulation.specs.StmtsTyped.{IsControl, IsGiven, IsTest, IsStmt, AreStmts, AreArms}
use Rattle.law_simulation.specs.StmtsTyped as typed
use Rattle.law_programs.specs.Wanted.{Wanted, wanted_of, wanted_at, wanted_called, Has}
use Rattle.law_programs.specs.Typing.{ExprTyped, ProcedureTyped, PlaceTyped, CallTyped, GivenTyped}
use Rattle.law_well_formed.specs.FormedRanges.{fits_character}
use Rattle.law_programs.proofs.TextBytes.{has_text}
use Rattle.law_programs.proofs.Wants.{nothing, beside, made, seam, has_first, has_second, wants_rooted}
use Rattle.law_programs.specs.Asked.{wanted_in, wanted_armed, wanted_by}
use Rattle.law_programs.specs.TypingStmts.{StmtTyped, StmtsTyped}
use Rattle.law_programs.proofs.StmtsWants.{all_in, all_armed, wants_all, wants_assign, wants_copy, wants_copy_text, wants_call, wants_put, wants_change, wants_member, wants_halt, wants_if, wants_if_else, wants_case, wants_case_else, wants_while, wants_repeat, wants_loop, wants_exit, wants_return, wants_give, wants_for, wants_with, wants_arm}

-- ---- where texts end

pub same_end : (a : ℕ) → a ≡ a + characters []
same_end a = omega arith

-- behind what asks for nothing more
last_end : (a : ℕ) (ts : Texts) → a + characters ts ≡ a + characters (ts ++ [])
last_end a ts = same_end (a + characters ts) ∙ seam a ts []

module _ (x : Context) where
  by_wanted : (P : (a b : ℕ) → Type 0) (u w : Wanted) → u ≡ w → ((a : ℕ) → Has x a w → P a (a + characters w.texts))
      → (a : ℕ) → Has x a u → P a (a + characters u.texts)
  by_wanted P u w e f a h = subst (λ (v : Wanted). P a (a + characters v.texts)) (sym e)
      (f a (subst (λ (v : Wanted). Has x a v) e h))

  -- of two parts, one behind the other
  pub both_stand : (P : (a b : ℕ) → Type 0) (u v : Wanted)
      → ((a b c : ℕ) → a + characters u.texts ≡ b → b + characters v.texts ≡ c → Has x a u → Has x b v → P a c)
      → (a : ℕ) → Has x a (beside u v) → P a (a + characters (u.texts ++ v.texts))
  both_stand P u v f a h = f a (a + characters u.texts) (a + characters (u.texts ++ v.texts)) refl
      (seam a u.texts v.texts) (has_first x a u v h) (has_second x a u v h)

-- a condition
pub record TestTyped (x : Context) (ws : List Ty) (e : TypedExpr) : Type 0 where
  pub of : TypeNo
  pub typed : ExprTyped x ws e of
  pub among : AreAmong x.home.types of boolean

module _ (x : Context) (result : Gives) where
  abbrev m : TypedModule
  m = x.home

  abbrev types : Types
  types = x.home.types

  module _ (ws : List Ty) where
    expr_to : (e : TypedExpr) (t : TypeNo) → ExprTyped x ws e t → (a b : ℕ) → a + characters (texts_of e) ≡ b
        → Has x a (wanted_of m e) → IsExpr x ws a b e t
    expr_to e t p a b q h = subst (λ (n : ℕ). IsExpr x ws a n e t) q (p a h)

    procedure_to : (e : TypedExpr) (k : Heading) → ProcedureTyped x ws e k → (a b : ℕ) → a + characters (texts_of e) ≡ b
        → Has x a (wanted_of m e) → IsProcedureExpr x ws a b e k
    procedure_to e k p a b q h = subst (λ (n : ℕ). IsProcedureExpr x ws a n e k) q (p a h)

    place_to : (d : Place) (t : Ty) → PlaceTyped x ws d t → (a b : ℕ) → a + characters (texts_at d) ≡ b
        → Has x a (wanted_at m d) → IsPlace x ws a b d t
    place_to d t p a b q h = subst (λ (n : ℕ). IsPlace x ws a n d t) q (p a h)

    given_to : (e : TypedExpr) (t : TypeNo) → GivenTyped x ws e t → (a b : ℕ) → a + characters (texts_of e) ≡ b
        → Has x a (wanted_of m e) → IsGiven x result ws a b e t
    given_to e t p a b q h = record { of = p.of; is = expr_to e p.of p.typed a b q h; taken = p.taken }

    test_to : (e : TypedExpr) → TestTyped x ws e → (a b : ℕ) → a + characters (texts_of e) ≡ b → Has x a (wanted_of m e)
        → IsTest x result ws a b e
    test_to e p a b q h = record { of = p.of; is = expr_to e p.of p.typed a b q h; among = p.among }

  module _ (ws : List Ty) (l : Bool) where
    -- ---- rows of statements

    abbrev pub EachTyped : List TypedStmt → Type 0
    EachTyped ss = AllByRecursion (StmtTyped x result ws l) ss

    abbrev pub RowTyped : List TypedStmt → Type 0
    RowTyped ss = (a : ℕ) → Has x a (all_in m ss) → AreStmts x result ws l a (a + characters (all_in m ss).texts) ss

    pub each_more : (ss : List TypedStmt) (s : TypedStmt) → EachTyped ss → StmtTyped x result ws l s
        → EachTyped (ss ++ s ∷ [])
    each_more [] s p q = (q, tt)
    each_more (y ∷ ss) s p q = (p.0, each_more ss s p.1 q)

    pub row_typed : (ss : List TypedStmt) → EachTyped ss → RowTyped ss
    row_typed [] p = λ a h. subst (λ (b : ℕ). AreStmts x result ws l a b []) (same_end a) (typed.no_stmts ws l a)
    row_typed (s ∷ ss) p =
        both_stand x (λ a b. AreStmts x result ws l a b (s ∷ ss)) (wanted_in m s) (all_in m ss) (λ a b c q r h k.
        typed.more_stmts ws l a b c s ss (subst (λ (n : ℕ). IsStmt x result ws l a n s) q (p.0 a h))
        (subst (λ (n : ℕ). AreStmts x result ws l b n ss) r (row_typed ss p.1 b k)))

    pub all_typed : (ss : List TypedStmt) → EachTyped ss → StmtsTyped x result ws l ss
    all_typed ss p = by_wanted x (λ a b. AreStmts x result ws l a b ss) (wanted_by m ss) (all_in m ss) (wants_all m ss)
        (row_typed ss p)

    row_to : (ss : List TypedStmt) → EachTyped ss → (a b : ℕ) → a + characters (all_in m ss).texts ≡ b
        → Has x a (all_in m ss) → AreStmts x result ws l a b ss
    row_to ss p a b q h = subst (λ (n : ℕ). AreStmts x result ws l a n ss) q (row_typed ss p a h)

    -- ---- arms

    pub record ArmTyped (a : TypedArm) : Type 0 where
      pub labels : AreLabels a.labels
      pub body : EachTyped a.body

    abbrev pub ArmsTyped : List TypedArm → Type 0
    ArmsTyped ms = AllByRecursion ArmTyped ms

    pub arms_more : (ms : List TypedArm) (a : TypedArm) → ArmsTyped ms → ArmTyped a → ArmsTyped (ms ++ a ∷ [])
    arms_more [] a p q = (q, tt)
    arms_more (y ∷ ms) a p q = (p.0, arms_more ms a p.1 q)

    arms_typed : (ms : List TypedArm) → ArmsTyped ms → (a : ℕ) → Has x a (all_armed m ms)
        → AreArms x result ws l a (a + characters (all_armed m ms).texts) ms
    arms_typed [] p = λ a h. subst (λ (b : ℕ). AreArms x result ws l a b []) (same_end a) (typed.no_arms ws l a)
    arms_typed (y ∷ ms) p =
        both_stand x (λ a b. AreArms x result ws l a b (y ∷ ms)) (wanted_armed m y) (all_armed m ms) (λ a b c q r h k.
        typed.more_arms ws l a b c y ms p.0.labels
        (row_to y.body p.0.body a b (ap (λ (w : Wanted). a + characters w.texts) (sym (wants_arm m y)) ∙ q)
        (subst (λ (w : Wanted). Has x a w) (wants_arm m y) h))
        (subst (λ (n : ℕ). AreArms x result ws l b n ms) r (arms_typed ms p.1 b k)))

    arms_to : (ms : List TypedArm) → ArmsTyped ms → (a b : ℕ) → a + characters (all_armed m ms).texts ≡ b
        → Has x a (all_armed m ms) → AreArms x result ws l a b ms
    arms_to ms p a b q h = subst (λ (n : ℕ). AreArms x result ws l a n ms) q (arms_typed ms p a h)

    -- ---- statements

    stmt_by : (s : TypedStmt) (w : Wanted) → wanted_in m s ≡ w
        → ((a : ℕ) → Has x a w → IsStmt x result ws l a (a + characters w.texts) s) → StmtTyped x result ws l s
    stmt_by s w q f = by_wanted x (λ a b. IsStmt x result ws l a b s) (wanted_in m s) w q f

    -- of two parts
    stmt_of : (s : TypedStmt) (u v : Wanted) → wanted_in m s ≡ beside u v
        → ((a b c : ℕ) → a + characters u.texts ≡ b → b + characters v.texts ≡ c → Has x a u → Has x b v
        → IsStmt x result ws l a c s) → StmtTyped x result ws l s
    stmt_of s u v q f = stmt_by s (beside u v) q (both_stand x (λ a b. IsStmt x result ws l a b s) u v f)

    stmt_at : (s : TypedStmt) → wanted_in m s ≡ nothing → ((a : ℕ) → IsStmt x result ws l a a s)
        → StmtTyped x result ws l s
    stmt_at s q f = stmt_by s nothing q (λ a h. subst (λ (b : ℕ). IsStmt x result ws l a b s) (same_end a) (f a))

    pub assign_typed : (d : Place) (t : TypeNo) (r : Scalar) (e : TypedExpr) → IsCell types t r
        → PlaceTyped x ws d (Cell r) → GivenTyped x ws e t → StmtTyped x result ws l (stmt.Assign d t e)
    assign_typed d t r e c p q =
        stmt_of (stmt.Assign d t e) (wanted_at m d) (wanted_of m e) (wants_assign m d t e)
        (λ a b z i j h k. typed.Assign ws l a b z d t r e c (place_to ws d (Cell r) p a b i h)
        (given_to ws e t q b z j k))

    pub assign_procedure_typed : (d : Place) (t : TypeNo) (k : Heading) (e : TypedExpr)
        → tree types t ≡ Cell (Callable k) → scalar_at types t ≡ None → PlaceTyped x ws d (Cell (Callable k))
        → ProcedureTyped x ws e k → StmtTyped x result ws l (stmt.Assign d t e)
    assign_procedure_typed d t k e is none p q =
        stmt_of (stmt.Assign d t e) (wanted_at m d) (wanted_of m e) (wants_assign m d t e)
        (λ a b z i j h r. typed.AssignProcedure ws l a b z d t k e is none
        (place_to ws d (Cell (Callable k)) p a b i h) (procedure_to ws e k q b z j r))

    pub copy_typed : (d e : Place) (t : TypeNo) → IsPlain (tree types t) → PlaceTyped x ws d (tree types t)
        → PlaceTyped x ws e (tree types t) → StmtTyped x result ws l (stmt.Copy d e t)
    copy_typed d e t is p q =
        stmt_of (stmt.Copy d e t) (wanted_at m d) (wanted_at m e) (wants_copy m d e t)
        (λ a b z i j h k. typed.Copy ws l a b z d e t is (place_to ws d (tree types t) p a b i h)
        (place_to ws e (tree types t) q b z j k))

    pub copy_text_typed : (d : Place) (t : TypeNo) (n : ℕ) (text : List ℕ) → tree types t ≡ Array n (Cell (Natural 255))
        → length text ≤ n → list_all fits_character text ≡ true → PlaceTyped x ws d (tree types t)
        → StmtTyped x result ws l (stmt.CopyText d t text)
    copy_text_typed d t n text is less bytes p =
        stmt_of (stmt.CopyText d t text) (wanted_at m d) (made (text ∷ []) []) (wants_copy_text m d t text)
        (λ a b z i j h k.
        let there : HasText x b text = has_text x b text k.texts.0 bytes in
        let end : b + length text ≡ z = (let e : b + length text ≡ b + (length text + 0) = omega arith in e) ∙ j in
        subst (λ (c : ℕ). IsStmt x result ws l a c (stmt.CopyText d t text)) end
        (typed.CopyText ws l a b n d t text is less there (place_to ws d (tree types t) p a b i h)))

    pub call_typed : (c : Call) → CallTyped x ws c None → StmtTyped x result ws l (stmt.Call c)
    call_typed c p = stmt_by (stmt.Call c) (wanted_called m c) (wants_call m c)
        (λ a h. typed.ProcedureCall ws l a _ c (p a h))

    pub put_typed : (e : TypedExpr) → GivenTyped x ws e char → StmtTyped x result ws l (stmt.Put e)
    put_typed e p = stmt_by (stmt.Put e) (wanted_of m e) (wants_put m e)
        (λ a h. typed.Put ws l a _ e (given_to ws e char p a _ refl h))

    pub change_typed : (o : Change) (d : Place) (t u : TypeNo) (r : Scalar) (e : TypedExpr) → IsCell types t r
        → (scalar_at types t ≡ None → ⊥) → (scalar_at types (base_of types t) ≡ None → ⊥)
        → PlaceTyped x ws d (Cell r) → ExprTyped x ws e u → StmtTyped x result ws l (stmt.Change o d t e)
    change_typed o d t u r e c ranged based p q =
        stmt_of (stmt.Change o d t e) (wanted_at m d) (wanted_of m e) (wants_change m o d t e) (λ a b z i j h k.
        typed.Changed ws l a b z o d t u r e c ranged based (place_to ws d (Cell r) p a b i h)
        (expr_to ws e u q b z j k))

    pub member_typed : (o : Membership) (d : Place) (u : TypeNo) (r : Scalar) (e : TypedExpr) → IsCell types bitset r
        → PlaceTyped x ws d (Cell r) → ExprTyped x ws e u → StmtTyped x result ws l (stmt.Membership o d e)
    member_typed o d u r e c p q =
        stmt_of (stmt.Membership o d e) (wanted_at m d) (wanted_of m e) (wants_member m o d e)
        (λ a b z i j h k. typed.Member ws l a b z o d u r e c (place_to ws d (Cell r) p a b i h)
        (expr_to ws e u q b z j k))

    pub halt_typed : StmtTyped x result ws l stmt.Halt
    halt_typed = stmt_at stmt.Halt (wants_halt m) (λ a. typed.Halt ws l a)

    pub if_typed : (e : TypedExpr) (body : List TypedStmt) → TestTyped x ws e → EachTyped body
        → StmtTyped x result ws l (stmt.If e body None)
    if_typed e body p q =
        stmt_of (stmt.If e body None) (wanted_of m e) (beside (all_in m body) nothing) (wants_if m e body)
        (λ a b c i j h k.
        typed.If ws l a b c e body (test_to ws e p a b i h)
        (row_to body q b c (last_end b (all_in m body).texts ∙ j) (has_first x b (all_in m body) nothing k)))

    pub if_else_typed : (e : TypedExpr) (body others : List TypedStmt) → TestTyped x ws e → EachTyped body
        → EachTyped others → StmtTyped x result ws l (stmt.If e body (Some others))
    if_else_typed e body others p q r =
        stmt_of (stmt.If e body (Some others)) (wanted_of m e) (beside (all_in m body) (all_in m others))
        (wants_if_else m e body others) (λ a b z i j h k.
        typed.IfElse ws l a b (b + characters (all_in m body).texts) z e body others (test_to ws e p a b i h)
        (row_to body q b _ refl (has_first x b (all_in m body) (all_in m others) k))
        (row_to others r _ z (seam b (all_in m body).texts (all_in m others).texts ∙ j)
        (has_second x b (all_in m body) (all_in m others) k)))

    pub case_typed : (u : TypeNo) (e : TypedExpr) (arms : List TypedArm) → ExprTyped x ws e u → ArmsTyped arms
        → StmtTyped x result ws l (stmt.Case e arms None)
    case_typed u e arms p q =
        stmt_of (stmt.Case e arms None) (wanted_of m e) (beside (all_armed m arms) nothing) (wants_case m e arms)
        (λ a b c i j h k.
        typed.Case ws l a b c u e arms (expr_to ws e u p a b i h)
        (arms_to arms q b c (last_end b (all_armed m arms).texts ∙ j) (has_first x b (all_armed m arms) nothing k)))

    pub case_else_typed : (u : TypeNo) (e : TypedExpr) (arms : List TypedArm) (others : List TypedStmt)
        → ExprTyped x ws e u → ArmsTyped arms → EachTyped others
        → StmtTyped x result ws l (stmt.Case e arms (Some others))
    case_else_typed u e arms others p q r =
        stmt_of (stmt.Case e arms (Some others)) (wanted_of m e) (beside (all_armed m arms) (all_in m others))
        (wants_case_else m e arms others) (λ a b z i j h k.
        typed.CaseElse ws l a b (b + characters (all_armed m arms).texts) z u e arms others (expr_to ws e u p a b i h)
        (arms_to arms q b _ refl (has_first x b (all_armed m arms) (all_in m others) k))
        (row_to others r _ z (seam b (all_armed m arms).texts (all_in m others).texts ∙ j)
        (has_second x b (all_armed m arms) (all_in m others) k)))

    pub while_typed : (e : TypedExpr) (body : List TypedStmt) → TestTyped x ws e → EachTyped body
        → StmtTyped x result ws l (stmt.While e body)
    while_typed e body p q = stmt_of (stmt.While e body) (wanted_of m e) (all_in m body) (wants_while m e body)
        (λ a b c i j h k. typed.While ws l a b c e body (test_to ws e p a b i h) (row_to body q b c j k))

    pub repeat_typed : (body : List TypedStmt) (e : TypedExpr) → EachTyped body → TestTyped x ws e
        → StmtTyped x result ws l (stmt.Repeat body e)
    repeat_typed body e q p = stmt_of (stmt.Repeat body e) (all_in m body) (wanted_of m e) (wants_repeat m body e)
        (λ a b c i j h k. typed.Repeat ws l a b c body e (row_to body q a b i h) (test_to ws e p b c j k))

    pub return_typed : result ≡ None → StmtTyped x result ws l stmt.Return
    return_typed e = stmt_at stmt.Return (wants_return m) (λ a. typed.Return ws l a e)

    pub give_typed : (t : TypeNo) (r : Scalar) (e : TypedExpr) → result ≡ Some (tree types t) → IsCell types t r
        → GivenTyped x ws e t → StmtTyped x result ws l (stmt.Give t e)
    give_typed t r e i c p = stmt_by (stmt.Give t e) (wanted_of m e) (wants_give m t e)
        (λ a h. typed.Give ws l a _ t r e i c (given_to ws e t p a _ refl h))

    pub give_procedure_typed : (t : TypeNo) (k : Heading) (e : TypedExpr) → result ≡ Some (Cell (Callable k))
        → scalar_at types t ≡ None → tree types t ≡ Cell (Callable k) → ProcedureTyped x ws e k
        → StmtTyped x result ws l (stmt.Give t e)
    give_procedure_typed t k e i none type p =
        stmt_by (stmt.Give t e) (wanted_of m e) (wants_give m t e)
        (λ a h. typed.GiveProcedure ws l a _ t k e i none (procedure_to ws e k p a _ refl h) type)

  pub loop_typed : (ws : List Ty) (l : Bool) (body : List TypedStmt) → EachTyped ws true body
      → StmtTyped x result ws l (stmt.Loop body)
  loop_typed ws l body p = stmt_by ws l (stmt.Loop body) (all_in m body) (wants_loop m body)
      (λ a h. typed.Loop ws l a _ body (row_typed ws true body p a h))

  pub exit_typed : (ws : List Ty) → StmtTyped x result ws true stmt.Exit
  exit_typed ws = stmt_at ws true stmt.Exit (wants_exit m) (λ a. typed.Exit ws a)

  pub with_typed : (ws : List Ty) (l : Bool) (t : Ty) (d : Place) (body : List TypedStmt) → PlaceTyped x ws d t
      → EachTyped (ws ++ t ∷ []) l body → StmtTyped x result ws l (stmt.With d body)
  with_typed ws l t d body p q =
      stmt_of ws l (stmt.With d body) (wanted_at m d) (all_in m body) (wants_with m d body)
      (λ a b c i j h k. typed.With ws l a b c t d body (place_to ws d t p a b i h)
      (row_to (ws ++ t ∷ []) l body q b c j k))

  -- the control variable asks for nothing
  for_wants : (r : Root) (t : TypeNo) (start limit : TypedExpr) (by : ℤ) (body : List TypedStmt)
      → wanted_in m (stmt.For (root_place r) t start limit by body)
      ≡ beside (wanted_of m start) (beside (wanted_of m limit) (all_in m body))
  for_wants r t start limit by body = wants_for m (root_place r) t start limit by body
      ∙ ap (λ (w : Wanted). beside w (beside (wanted_of m start) (beside (wanted_of m limit) (all_in m body))))
      (wants_rooted m r)

  pub for_typed : (ws : List Ty) (l : Bool) (r : Root) (t u : TypeNo) (c : Scalar) (start limit : TypedExpr) (by : ℤ)
      (body : List TypedStmt) → IsCell types t c → (scalar_at types t ≡ None → ⊥) → IsControl x (root_place r) (Cell c)
      → negsuc 2147483647 ≤ℤ by → by ≤ℤ pos 4294967295 → GivenTyped x ws start t → ExprTyped x ws limit u
      → EachTyped ws l body → StmtTyped x result ws l (stmt.For (root_place r) t start limit by body)
  for_typed ws l r t u c start limit by body cell ranged control low high p q s =
      stmt_of ws l (stmt.For (root_place r) t start limit by body) (wanted_of m start)
      (beside (wanted_of m limit) (all_in m body)) (for_wants r t start limit by body) (λ a b z i j h k.
      typed.For ws l a b (b + characters (texts_of limit)) z (root_place r) t u c start limit by body cell ranged
      control low high (given_to ws start t p a b i h)
      (expr_to ws limit u q b _ refl (has_first x b (wanted_of m limit) (all_in m body) k))
      (row_to ws l body s _ z (seam b (texts_of limit) (all_in m body).texts ∙ j)
      (has_second x b (wanted_of m limit) (all_in m body) k)))
