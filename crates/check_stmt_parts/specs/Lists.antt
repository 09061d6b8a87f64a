-- Lists of statements, and statements around them.
use Rattle.std.specs.Prelude.{List, [], ◌∷◌, ◌++◌, Option, Some, None, Result, Ok, Err}
use Rattle.typed_tree.specs.declared.types.TypeNo.{TypeNo}
use Rattle.typed_tree.specs.declared.computed.Place.{Place}
use Rattle.typed_tree.specs.declared.computed.TypedExpr.{TypedExpr}
use Rattle.typed_tree.specs.declared.statement.Label.{Label}
use Rattle.typed_tree.specs.declared.statement.TypedArm.{TypedArm}
use Rattle.typed_tree.specs.declared.statement.TypedStmt.{TypedStmt}
use Rattle.typed_tree.specs.declared.statement.TypedStmt.TheVariants as step
use Rattle.check_scope.specs.Elaborated.{Gathers, both, ◌▷◌}

-- one more of a list
abbrev pub with_next : (g : Gathers) {A : Type 0} → Result (List A) g.Reported → Result A g.Reported
    → Result (List A) g.Reported
with_next g so x = both g so x ▷ λ p. Ok (p.0 ++ p.1 ∷ [])

-- statements behind an ELSE that stands
abbrev pub standing : {T : Type 0} → Result (List TypedStmt) T → Result (Option (List TypedStmt)) T
standing body = body ▷ λ x. Ok (Some x)

abbrev pub if_statement : (g : Gathers) → Result TypedExpr g.Reported
    → Result (List TypedStmt) g.Reported → Result (Option (List TypedStmt)) g.Reported
    → Result TypedStmt g.Reported
if_statement g c body rest = both g c (both g body rest) ▷ λ p. Ok (step.If p.0 p.1.0 p.1.1)

-- an ELSIF is an IF in the ELSE
abbrev pub chosen_else : {T : Type 0} → Result TypedStmt T → Result (Option (List TypedStmt)) T
chosen_else s = s ▷ λ x. Ok (Some (x ∷ []))

-- the base type of a selector, if it has a meaning
abbrev pub base_in : {T : Type 0} → Result (TypeNo × TypedExpr) T → Option TypeNo
base_in (Ok x) = Some x.0
base_in (Err e) = None

abbrev pub case_statement : (g : Gathers) → Result (TypeNo × TypedExpr) g.Reported
    → Result (List TypedArm) g.Reported → Result (Option (List TypedStmt)) g.Reported
    → Result TypedStmt g.Reported
case_statement g selector arms otherwise =
    both g selector (both g arms otherwise) ▷ λ p. Ok (step.Case p.0.1 p.1.0 p.1.1)

abbrev pub arm_of : (g : Gathers) → Result (List Label) g.Reported
    → Result (List TypedStmt) g.Reported → Result TypedArm g.Reported
arm_of g labels body = both g labels body ▷ λ p. Ok (record { labels = p.0; body = p.1 })

abbrev pub repeated_while : (g : Gathers) → Result TypedExpr g.Reported
    → Result (List TypedStmt) g.Reported → Result TypedStmt g.Reported
repeated_while g c body = both g c body ▷ λ p. Ok (step.While p.0 p.1)

abbrev pub repeated_until : (g : Gathers) → Result (List TypedStmt) g.Reported
    → Result TypedExpr g.Reported → Result TypedStmt g.Reported
repeated_until g body c = both g body c ▷ λ p. Ok (step.Repeat p.0 p.1)

abbrev pub loop_statement : {T : Type 0} → Result (List TypedStmt) T → Result TypedStmt T
loop_statement body = body ▷ λ x. Ok (step.Loop x)

abbrev pub within : {T : Type 0} → Place → Result (List TypedStmt) T → Result TypedStmt T
within place body = body ▷ λ x. Ok (step.With place x)

-- what is broken in statements
abbrev pub reported_in : {T : Type 0} → Result (List TypedStmt) T → Result (Unit {0}) T
reported_in body = body ▷ λ x. Ok tt
