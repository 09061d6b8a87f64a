-- The characters of the texts of each variant of a statement, from those of its parts.
use Rattle.std.proofs.Common.{◌≡◌, ℕ, ℤ, List, [], ◌∷◌, ◌++◌, map, Some, None, refl, ap, ◌∙◌, append_assoc}
use Rattle.std.specs.List.{flat_map}
use Rattle.std.proofs.lemmas.List.{append-nil}
use Rattle.typed_tree.specs.declared.types.TypeNo.{TypeNo}
use Rattle.typed_tree.specs.declared.computed.Place.{Place}
use Rattle.typed_tree.specs.declared.computed.TypedExpr.{TypedExpr}
use Rattle.typed_tree.specs.declared.computed.Call.{Call}
use Rattle.typed_tree.specs.declared.statement.Change.{Change}
use Rattle.typed_tree.specs.declared.statement.Membership.{Membership}
use Rattle.typed_tree.specs.declared.statement.TypedStmt.{TypedStmt, TypedStmt-F, out-TypedStmt, map-TypedStmt, fold_out-TypedStmt}
use Rattle.typed_tree.specs.declared.statement.TypedStmt.TheOpen as sl
use Rattle.typed_tree.specs.declared.statement.TypedStmt.TheVariants as sv
use Rattle.typed_tree.specs.declared.statement.TypedArm.{TypedArm, TypedArm-F, map-TypedArm, fold_out-TypedArm}
use Rattle.typed_tree.specs.declared.typed_module.Which.{Which}
use Rattle.typed_tree.specs.declared.typed_module.TypedModule.{TypedModule}
use Rattle.layout_storage.specs.Texts.{Texts, concatenation, texts_of, texts_at, texts_called, step_texts, arm_texts, texts_in, texts_armed, body_texts, which_texts}
use Rattle.def_scheme.specs.Modules.{all_characters}
use Rattle.emit_tables.specs.Written.{stmt_written, arm_written, which_written}
use Rattle.emit_tables.proofs.TextVariants.{both, one_text, walked}

two : {m n : List ℕ} (a b : Texts) → all_characters a ≡ m → all_characters b ≡ n → all_characters (a ++ b) ≡ (m ++ n)
two {m = m} a b e f = both a b ∙ ap (λ (k : List ℕ). (k ++ all_characters b)) e ∙ ap (λ (k : List ℕ). (m ++ k)) f

stmts : (xs : List TypedStmt) → all_characters (concatenation (map texts_in xs)) ≡ flat_map stmt_written xs
stmts xs = walked texts_in xs

arms : (xs : List TypedArm) → all_characters (concatenation (map texts_armed xs)) ≡ flat_map arm_written xs
arms xs = walked texts_armed xs

abbrev opened : TypedStmt-F TypedStmt TypedArm → TypedStmt-F Texts Texts
opened x = map-TypedStmt TypedStmt TypedArm Texts Texts texts_in texts_armed x

abbrev opened_arm : TypedArm-F TypedStmt TypedArm → TypedArm-F Texts Texts
opened_arm x = map-TypedArm TypedStmt TypedArm Texts Texts texts_in texts_armed x

at_stmt : (e : TypedStmt) (x : TypedStmt-F TypedStmt TypedArm) → out-TypedStmt e ≡ x
    → texts_in e ≡ step_texts (opened x)
unfolding texts_in texts_armed
at_stmt e x h = fold_out-TypedStmt Texts Texts step_texts arm_texts e
    ∙ ap (λ (y : TypedStmt-F TypedStmt TypedArm). step_texts (opened y)) h

pub arm_is : (x : TypedArm) → all_characters (texts_armed x) ≡ flat_map stmt_written x.body
unfolding texts_in texts_armed
arm_is x = ap all_characters (fold_out-TypedArm Texts Texts step_texts arm_texts x) ∙ stmts x.body

-- a body
flat : (xs : List TypedStmt) → body_texts xs ≡ concatenation (map texts_in xs)
flat [] = refl
flat (x ∷ xs) = ap (λ (ts : Texts). texts_in x ++ ts) (flat xs)

pub body_is : (xs : List TypedStmt) → all_characters (body_texts xs) ≡ flat_map stmt_written xs
body_is xs = ap all_characters (flat xs) ∙ stmts xs

-- a module
routines : (m : TypedModule) (ws : List Which) → flat_map (which_texts m) ws ≡ concatenation (map (which_texts m) ws)
routines m [] = refl
routines m (w ∷ ws) = ap (λ (ts : Texts). which_texts m w ++ ts) (routines m ws)

pub routines_are : (m : TypedModule) (ws : List Which)
    → all_characters (flat_map (which_texts m) ws) ≡ flat_map (which_written m) ws
routines_are m ws = ap all_characters (routines m ws) ∙ walked (which_texts m) ws

-- ---- variants

pub stmt_Assign : (d : Place) (t : TypeNo) (e : TypedExpr)
    → all_characters (texts_in (sv.Assign d t e)) ≡ (all_characters (texts_at d) ++ all_characters (texts_of e))
stmt_Assign d t e = ap all_characters (at_stmt (sv.Assign d t e) (sl.Assign d t e) (sv.outs-Assign d t e))
    ∙ both (texts_at d) (texts_of e)

pub stmt_Copy : (a b : Place) (t : TypeNo)
    → all_characters (texts_in (sv.Copy a b t)) ≡ (all_characters (texts_at a) ++ all_characters (texts_at b))
stmt_Copy a b t = ap all_characters (at_stmt (sv.Copy a b t) (sl.Copy a b t) (sv.outs-Copy a b t))
    ∙ both (texts_at a) (texts_at b)

pub stmt_CopyText : (d : Place) (t : TypeNo) (text : List ℕ)
    → all_characters (texts_in (sv.CopyText d t text)) ≡ (all_characters (texts_at d) ++ text)
stmt_CopyText d t text = ap all_characters
    (at_stmt (sv.CopyText d t text) (sl.CopyText d t text) (sv.outs-CopyText d t text))
    ∙ two (texts_at d) (text ∷ []) refl (one_text text)

pub stmt_Call : (c : Call) → all_characters (texts_in (sv.Call c)) ≡ all_characters (texts_called c)
stmt_Call c = ap all_characters (at_stmt (sv.Call c) (sl.Call c) (sv.outs-Call c))

pub stmt_Put : (e : TypedExpr) → all_characters (texts_in (sv.Put e)) ≡ all_characters (texts_of e)
stmt_Put e = ap all_characters (at_stmt (sv.Put e) (sl.Put e) (sv.outs-Put e))

pub stmt_Change : (o : Change) (d : Place) (t : TypeNo) (e : TypedExpr)
    → all_characters (texts_in (sv.Change o d t e)) ≡ (all_characters (texts_at d) ++ all_characters (texts_of e))
stmt_Change o d t e = ap all_characters (at_stmt (sv.Change o d t e) (sl.Change o d t e) (sv.outs-Change o d t e))
    ∙ both (texts_at d) (texts_of e)

pub stmt_Membership : (o : Membership) (d : Place) (e : TypedExpr)
    → all_characters (texts_in (sv.Membership o d e)) ≡ (all_characters (texts_at d) ++ all_characters (texts_of e))
stmt_Membership o d e = ap all_characters
    (at_stmt (sv.Membership o d e) (sl.Membership o d e) (sv.outs-Membership o d e)) ∙ both (texts_at d) (texts_of e)

pub stmt_Halt : all_characters (texts_in sv.Halt) ≡ []
stmt_Halt = ap all_characters (at_stmt sv.Halt sl.Halt sv.outs-Halt)

pub stmt_If_None : (e : TypedExpr) (xs : List TypedStmt)
    → all_characters (texts_in (sv.If e xs None)) ≡ (all_characters (texts_of e) ++ flat_map stmt_written xs)
stmt_If_None e xs =
    ap all_characters (at_stmt (sv.If e xs None) (sl.If e xs None) (sv.outs-If e xs None))
    ∙ two (texts_of e) (concatenation (map texts_in xs) ++ []) refl
    (ap all_characters (append-nil (concatenation (map texts_in xs))) ∙ stmts xs)

pub stmt_If_Some : (e : TypedExpr) (xs : List TypedStmt) (ys : List TypedStmt)
    → all_characters (texts_in (sv.If e xs (Some ys)))
    ≡ (all_characters (texts_of e) ++ (flat_map stmt_written xs ++ flat_map stmt_written ys))
stmt_If_Some e xs ys =
    ap all_characters (at_stmt (sv.If e xs (Some ys)) (sl.If e xs (Some ys)) (sv.outs-If e xs (Some ys)))
    ∙ two (texts_of e) (concatenation (map texts_in xs) ++ concatenation (map texts_in ys)) refl
    (two (concatenation (map texts_in xs)) (concatenation (map texts_in ys)) (stmts xs) (stmts ys))

pub stmt_Case_None : (e : TypedExpr) (xs : List TypedArm)
    → all_characters (texts_in (sv.Case e xs None)) ≡ (all_characters (texts_of e) ++ flat_map arm_written xs)
stmt_Case_None e xs =
    ap all_characters (at_stmt (sv.Case e xs None) (sl.Case e xs None) (sv.outs-Case e xs None))
    ∙ two (texts_of e) (concatenation (map texts_armed xs) ++ []) refl
    (ap all_characters (append-nil (concatenation (map texts_armed xs))) ∙ arms xs)

pub stmt_Case_Some : (e : TypedExpr) (xs : List TypedArm) (ys : List TypedStmt)
    → all_characters (texts_in (sv.Case e xs (Some ys)))
    ≡ (all_characters (texts_of e) ++ (flat_map arm_written xs ++ flat_map stmt_written ys))
stmt_Case_Some e xs ys =
    ap all_characters (at_stmt (sv.Case e xs (Some ys)) (sl.Case e xs (Some ys)) (sv.outs-Case e xs (Some ys)))
    ∙ two (texts_of e) (concatenation (map texts_armed xs) ++ concatenation (map texts_in ys)) refl
    (two (concatenation (map texts_armed xs)) (concatenation (map texts_in ys)) (arms xs) (stmts ys))

pub stmt_While : (e : TypedExpr) (xs : List TypedStmt)
    → all_characters (texts_in (sv.While e xs)) ≡ (all_characters (texts_of e) ++ flat_map stmt_written xs)
stmt_While e xs = ap all_characters (at_stmt (sv.While e xs) (sl.While e xs) (sv.outs-While e xs))
    ∙ two (texts_of e) (concatenation (map texts_in xs)) refl (stmts xs)

pub stmt_Repeat : (xs : List TypedStmt) (e : TypedExpr)
    → all_characters (texts_in (sv.Repeat xs e)) ≡ (flat_map stmt_written xs ++ all_characters (texts_of e))
stmt_Repeat xs e = ap all_characters (at_stmt (sv.Repeat xs e) (sl.Repeat xs e) (sv.outs-Repeat xs e))
    ∙ two (concatenation (map texts_in xs)) (texts_of e) (stmts xs) refl

pub stmt_Loop : (xs : List TypedStmt) → all_characters (texts_in (sv.Loop xs)) ≡ flat_map stmt_written xs
stmt_Loop xs = ap all_characters (at_stmt (sv.Loop xs) (sl.Loop xs) (sv.outs-Loop xs)) ∙ stmts xs

pub stmt_Exit : all_characters (texts_in sv.Exit) ≡ []
stmt_Exit = ap all_characters (at_stmt sv.Exit sl.Exit sv.outs-Exit)

pub stmt_Return : all_characters (texts_in sv.Return) ≡ []
stmt_Return = ap all_characters (at_stmt sv.Return sl.Return sv.outs-Return)

pub stmt_Give : (t : TypeNo) (e : TypedExpr) → all_characters (texts_in (sv.Give t e)) ≡ all_characters (texts_of e)
stmt_Give t e = ap all_characters (at_stmt (sv.Give t e) (sl.Give t e) (sv.outs-Give t e))

pub stmt_For : (d : Place) (t : TypeNo) (a b : TypedExpr) (n : ℤ) (xs : List TypedStmt)
    → all_characters (texts_in (sv.For d t a b n xs))
    ≡ (all_characters (texts_at d) ++ (all_characters (texts_of a)
    ++ (all_characters (texts_of b) ++ flat_map stmt_written xs)))
stmt_For d t a b n xs = ap all_characters
    (at_stmt (sv.For d t a b n xs) (sl.For d t a b n xs) (sv.outs-For d t a b n xs))
    ∙ two (texts_at d) ((texts_of a) ++ ((texts_of b) ++ (concatenation (map texts_in xs)))) refl
    (two (texts_of a) ((texts_of b) ++ (concatenation (map texts_in xs))) refl
    (two (texts_of b) (concatenation (map texts_in xs)) refl (stmts xs)))

pub stmt_With : (d : Place) (xs : List TypedStmt)
    → all_characters (texts_in (sv.With d xs)) ≡ (all_characters (texts_at d) ++ flat_map stmt_written xs)
stmt_With d xs = ap all_characters (at_stmt (sv.With d xs) (sl.With d xs) (sv.outs-With d xs))
    ∙ two (texts_at d) (concatenation (map texts_in xs)) refl (stmts xs)

-- all of these
pub ruleset stmt_variants = (
  append-nil,
  append_assoc,
  stmt_Assign,
  stmt_Copy,
  stmt_CopyText,
  stmt_Call,
  stmt_Put,
  stmt_Change,
  stmt_Membership,
  stmt_Halt,
  stmt_If_None,
  stmt_If_Some,
  stmt_Case_None,
  stmt_Case_Some,
  stmt_While,
  stmt_Repeat,
  stmt_Loop,
  stmt_Exit,
  stmt_Return,
  stmt_Give,
  stmt_For,
  stmt_With,
  arm_is,
)
