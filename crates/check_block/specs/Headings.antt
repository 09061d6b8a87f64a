-- Headings of procedures in blocks.
use Rattle.std.specs.Prelude.{ℕ, true, false, ◌==◌, not, cond, List, length, Option, Some, None, Result, Ok, Err}
use Rattle.m2_rule.specs.declared.rule.Rule.TheVariants as rule
use Rattle.m2_tree.specs.declared.pos.Pos.{Pos}
use Rattle.m2_tree.specs.declared.decl.Heading.{Heading}
use Rattle.typed_tree.specs.declared.types.TypeNo.{TypeNo}
use Rattle.typed_tree.specs.declared.shape.Made.{Made}
use Rattle.typed_tree.specs.declared.meaning.Procedure.{Procedure}
use Rattle.typed_tree.specs.declared.meaning.Meaning.{Meaning}
use Rattle.typed_tree.specs.declared.meaning.Meaning.TheVariants as meaning
use Rattle.typed_tree.specs.declared.known_types.Types.{Types}
use Rattle.typed_tree.specs.Known.{made_at}
use Rattle.typed_tree.specs.Names.{find_name}
use Rattle.check_scope.specs.declared.known.Origin.{Origin}
use Rattle.check_scope.specs.declared.known.Origin.TheVariants.{Here, Module, Export}
use Rattle.check_scope.specs.declared.known.Known.{Known}
use Rattle.check_scope.specs.declared.known.Known.TheVariants.{Later, Ahead, Begun, Headed, Declared}
use Rattle.check_scope.specs.declared.meaningless.Meaningless.{Meaningless}
use Rattle.check_scope.specs.declared.scope.Scope.{Scope}
use Rattle.check_scope.specs.Scopes.{State, heading_means, with_known}
use Rattle.check_scope.specs.Elaborated.{Gathers, report, reported_where, beside, ◌▷◌}
use Rattle.check_type_expr.specs.Headings.{heading_of, names_of}
use Rattle.check_type_expr.specs.Made.{nothing_of, with_made}
use Rattle.check_definition.specs.Declare.{procedure_meaning, with_procedure_type}
use Rattle.check_block.specs.declared.heading.Standing.{Standing}
use Rattle.check_block.specs.declared.heading.Standing.TheVariants.{Free, Awaited, Taken}
use Rattle.check_block.specs.Agreeing.{signature_of, agree}

-- ---- what stands under the name of a heading. A procedure of the module's own definition awaits
-- its heading.

abbrev pub standing_of : Meaning → Standing
standing_of (meaning.Procedure p) = Awaited p
standing_of (meaning.Constant v) = Taken
standing_of (meaning.Type t n) = Taken
standing_of (meaning.Variable v) = Taken
standing_of (meaning.Local v) = Taken
standing_of (meaning.Field f) = Taken
standing_of (meaning.LocalProcedure p) = Taken
standing_of meaning.Ahead = Taken
standing_of (meaning.Standard f) = Taken
standing_of (meaning.Module k) = Taken

abbrev pub standing_elaborated : {T : Type 0} → Result Meaning T → Standing
standing_elaborated (Ok m) = standing_of m
standing_elaborated (Err e) = Taken

abbrev pub standing_from : {T : Type 0} → Origin → Result Meaning T → Standing
standing_from Here m = standing_elaborated m
standing_from (Module k) m = Taken
standing_from (Export k) m = Taken

abbrev pub standing_known : {T : Type 0} → Known T → Standing
standing_known Later = Free
standing_known Ahead = Free
standing_known Begun = Taken
standing_known (Headed m) = Taken
standing_known (Declared o m) = standing_from o m

abbrev pub name_standing : {T : Type 0} → Option (Known T) → Standing
name_standing None = Free
name_standing (Some k) = standing_known k

-- ---- a procedure of the block itself

-- a procedure in a procedure
abbrev pub nested_meaning : {T : Type 0} → (level number : ℕ) → Result TypeNo T → Result Meaning T
nested_meaning level n t =
    t ▷ λ x. Ok (meaning.LocalProcedure (record { level = level; number = n; heading = x }))

abbrev pub set_heading : {T : Type 0} → List ℕ → Result Meaning (Meaningless T) → Scope T
    → Scope T
set_heading name m s = with_known name (Headed m) s

abbrev pub module_procedure : {T : Type 0} → Scope T → List ℕ → Result TypeNo T → Scope T
module_procedure s name t =
    set_heading name (heading_means false (procedure_meaning s.types.home (length s.procedures) t))
    (with_procedure_type s t)

abbrev pub new_procedure : {T : Type 0} → Scope T → List ℕ → (number : ℕ) → Result TypeNo T
    → Scope T
new_procedure s name n t =
    cond (s.level == 0) (module_procedure s name t)
    (set_heading name (heading_means true (nested_meaning s.level n t)) s)

abbrev pub with_new : {T : Type 0} → Scope T → List ℕ → (number : ℕ) → Result Made T
    → State (Unit {0}) T
with_new s name n made = let t = with_made s made in (new_procedure t.0 name n t.1, nothing_of t.1)

-- ---- a procedure of the module's own definition: its heading is the definition's

abbrev pub reported_of_other : (g : Gathers) → Types → Pos → Procedure → Made
    → Result (Unit {0}) g.Reported
reported_of_other g types at p m =
    reported_where g (not (agree (signature_of (Some m)) (signature_of (made_at types p.heading))))
    at rule.OtherHeading (Ok tt)

abbrev pub with_awaited : (g : Gathers) → Scope g.Reported → Heading → Procedure
    → Result Made g.Reported → State (Unit {0}) g.Reported
with_awaited g s h p made = (
  set_heading h.name.name (Ok (meaning.Procedure p)) s,
  made ▷ reported_of_other g s.types h.name.pos p,
)

-- ---- all of them

abbrev pub nothing_made : {T : Type 0} → Result Made T → Result (Unit {0}) T
nothing_made m = m ▷ λ x. Ok tt

abbrev pub headed_as : (g : Gathers) → Scope g.Reported → Heading → (number : ℕ)
    → Result Made g.Reported → Standing → State (Unit {0}) g.Reported
headed_as g s h n made Free = with_new s h.name.name n made
headed_as g s h n made (Awaited p) = with_awaited g s h p made
headed_as g s h n made Taken =
    (s, beside g (nothing_made made) (report g h.name.pos rule.DeclaredTwice))

-- a heading in a block; the number is for a procedure in a procedure
abbrev pub with_heading : (g : Gathers) → Scope g.Reported → (number : ℕ) → Heading
    → State (Unit {0}) g.Reported
with_heading g s n h =
    let st = headed_as g s h n (heading_of g s h) (name_standing (find_name h.name.name s.own)) in
    (st.0, beside g (names_of g h) st.1)
