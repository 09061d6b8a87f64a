-- The declarations of a block.
use Rattle.std.specs.Prelude.{ℕ, ◌==◌, Bool, true, false, ◌||◌, cond, List, length, Result, Ok}
use Rattle.std.specs.List.{fold}
use Rattle.m2_rule.specs.declared.rule.Rule.TheVariants as rule
use Rattle.m2_tree.specs.declared.pos.Pos.{Pos}
use Rattle.m2_tree.specs.declared.name.Ident.{Ident}
use Rattle.m2_tree.specs.declared.decl.Variables.{Variables}
use Rattle.m2_tree.specs.declared.decl.Heading.{Heading}
use Rattle.m2_tree.specs.declared.decl.Decl.{Decl, Decl-F, out-Decl}
use Rattle.m2_tree.specs.declared.decl.Decl.TheOpen as layer
use Rattle.m2_tree.specs.declared.decl.Module.{Module}
use Rattle.typed_tree.specs.declared.types.TypeNo.{TypeNo}
use Rattle.check_scope.specs.declared.known.Known.{Known}
use Rattle.check_scope.specs.declared.scope.Scope.{Scope}
use Rattle.check_scope.specs.Scopes.{State}
use Rattle.check_scope.specs.Elaborated.{Gathers, reported_where, beside}
use Rattle.check_definition.specs.declared.declare.Owner.TheVariants as owner
use Rattle.check_definition.specs.Declare.{with_constant, with_type, finished_owned, with_owned}
use Rattle.check_definition.specs.Again.{Passing, passed, again_constant, again_declared, again_variables}
use Rattle.check_definition.specs.Importing.{with_import}
use Rattle.check_block.specs.declared.heading.Standing.{Standing}
use Rattle.check_block.specs.declared.heading.Standing.TheVariants.{Free, Awaited, Taken}
use Rattle.check_block.specs.Nesting.{number_behind}
use Rattle.check_block.specs.Naming.{marked_decl, all_marked}
use Rattle.check_block.specs.Headings.{standing_known, with_heading}

-- ---- variables of a procedure

abbrev pub finished_local : {T : Type 0} → Result TypeNo T → Scope T → Ident → Scope T
finished_local t s name = finished_owned owner.Procedure t s name

abbrev pub with_locals : (g : Gathers) → State (Unit {0}) g.Reported → Variables
    → State (Unit {0}) g.Reported
with_locals g st v = with_owned g owner.Procedure st v

abbrev pub with_variables_of : (g : Gathers) → State (Unit {0}) g.Reported → List Variables
    → State (Unit {0}) g.Reported
with_variables_of g st vs =
    cond (st.0.level == 0) (fold (with_owned g owner.Module) st vs)
    (fold (with_owned g owner.Procedure) st vs)

-- ---- declarations, in order

-- the scope, what is reported, and the number of the next procedure in a procedure
abbrev pub Course : Type 0 → Type 0
Course T = Scope T × Result (Unit {0}) T × ℕ

abbrev pub going_on : {T : Type 0} → State (Unit {0}) T → ℕ → Course T
going_on st n = (st.0, st.1, n)

abbrev pub with_procedure : (g : Gathers) → (ends : List ℕ) → Course g.Reported → Heading
    → Course g.Reported
with_procedure g ends c h =
    let p = with_heading g c.0 c.2 h in (p.0, beside g c.1 p.1, number_behind ends c.2)

abbrev pub decl_layer : (g : Gathers) → {A B : Type 0} → (ends : List ℕ) → Course g.Reported
    → Decl-F A B → Course g.Reported
decl_layer g ends c (layer.Constants cs) = going_on (fold (with_constant g) (c.0, c.1) cs) c.2
decl_layer g ends c (layer.Types ts) = going_on (fold (with_type g) (c.0, c.1) ts) c.2
decl_layer g ends c (layer.Variables vs) = going_on (with_variables_of g (c.0, c.1) vs) c.2
decl_layer g ends c (layer.Procedure h b) = with_procedure g ends c h

abbrev pub with_decl : (g : Gathers) → (ends : List ℕ) → Course g.Reported → Decl
    → Course g.Reported
with_decl g ends c d = decl_layer g ends c (out-Decl d)

-- the same, read again
abbrev pub again_layer : (g : Gathers) → {A B : Type 0} → Scope g.Reported → Passing g.Reported
    → Decl-F A B → Passing g.Reported
again_layer g s p (layer.Constants cs) = fold (again_constant g s) p cs
again_layer g s p (layer.Types ts) = fold (again_declared g s) p ts
again_layer g s p (layer.Variables vs) = fold (again_variables g s) p vs
again_layer g s p (layer.Procedure h b) = (p.0, passed s p.1 h.name)

abbrev pub again_decl : (g : Gathers) → Scope g.Reported → Passing g.Reported → Decl
    → Passing g.Reported
again_decl g s p d = again_layer g s p (out-Decl d)

-- declarations of a block: the scope behind them, what is reported, and how many names stand before
-- each
abbrev pub Declared : Type 0 → Type 0
Declared T = Scope T × Result (Unit {0}) T × List ℕ

-- behind all headings constant expressions are read again
module _ {T X : Type 0} (marks : Scope T → X → Scope T) (declares : Course T → X → Course T)
    (again : Scope T → Passing T → X → Passing T) where
  abbrev pub all_declared : State (Unit {0}) T → (first : ℕ) → List X → Declared T
  all_declared st first xs =
      let m = all_marked marks st.0 xs in
      let c = fold declares (m.0, st.1, first) xs in
      (c.0, (fold (again c.0) (c.1, length st.0.own) xs).0, m.1)

abbrev pub declared_block : (g : Gathers) → (ends : List ℕ) → State (Unit {0}) g.Reported
    → (first : ℕ) → List Decl → Declared g.Reported
declared_block g ends st first decls =
    all_declared marked_decl (with_decl g ends) (again_decl g) st first decls

-- ---- a module's

-- a procedure of the definition that is still awaited
abbrev pub is_awaited : Standing → Bool
is_awaited Free = false
is_awaited (Awaited p) = true
is_awaited Taken = false

abbrev pub or_awaited : {T : Type 0} → Bool → List ℕ × Known T → Bool
or_awaited so e = so || is_awaited (standing_known e.1)

abbrev pub lacks : {T : Type 0} → List (List ℕ × Known T) → Bool
lacks own = fold or_awaited false own

abbrev pub reported_of_lack : (g : Gathers) → Pos → Scope g.Reported → Result (Unit {0}) g.Reported
reported_of_lack g at s = reported_where g (lacks s.own) at rule.MissingProcedure (Ok tt)

-- the imports of a module, and what its block declares
abbrev pub declared_module : (g : Gathers) → (modules : List (List ℕ × ℕ)) → (ends : List ℕ)
    → Scope g.Reported → Module → List Decl → Declared g.Reported
declared_module g modules ends s m decls =
    let d = declared_block g ends (fold (with_import g modules) (s, Ok tt) m.imports) 0 decls in
    (d.0, beside g d.1 (reported_of_lack g m.name.pos d.0), d.2)
