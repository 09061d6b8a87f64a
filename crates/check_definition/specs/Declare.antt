-- What declarations mean.
use Rattle.std.specs.Prelude.{ℕ, ◌+◌, false, [], ◌∷◌, ◌++◌, length, Result, Ok, Err}
use Rattle.std.specs.List.{fold}
use Rattle.m2_tree.specs.declared.name.Ident.{Ident}
use Rattle.m2_tree.specs.declared.decl.Constant.{Constant}
use Rattle.m2_tree.specs.declared.decl.TypeDecl.{TypeDecl}
use Rattle.m2_tree.specs.declared.decl.Variables.{Variables}
use Rattle.m2_tree.specs.declared.decl.Heading.{Heading}
use Rattle.m2_tree.specs.declared.decl.Def.{Def}
use Rattle.m2_tree.specs.declared.decl.Def.TheVariants as def
use Rattle.m2_tree.specs.declared.decl.Simple.{Simple}
use Rattle.m2_tree.specs.declared.decl.Simple.TheVariants as simple
use Rattle.m2_tree.specs.declared.decl.TypeExpr.{TypeExpr, TypeExpr-F, out-TypeExpr}
use Rattle.m2_tree.specs.declared.decl.TypeExpr.TheOpen as layer
use Rattle.m2_tree.specs.declared.decl.Field.{Field}
use Rattle.typed_tree.specs.declared.types.TypeNo.{TypeNo}
use Rattle.typed_tree.specs.declared.meaning.Value.{Value}
use Rattle.typed_tree.specs.declared.meaning.LocalKind.TheVariants as kind
use Rattle.typed_tree.specs.declared.meaning.Meaning.{Meaning}
use Rattle.typed_tree.specs.declared.meaning.Meaning.TheVariants as meaning
use Rattle.check_scope.specs.declared.scope.Scope.{Scope}
use Rattle.check_scope.specs.Scopes.{State, heading_means, begin_name, head_name, finish_name}
use Rattle.check_scope.specs.Elaborated.{Gathers, beside, ◌▷◌}
use Rattle.check_const.specs.Parts.{constant}
use Rattle.check_expr.specs.Meanings.{part}
use Rattle.check_type_expr.specs.Headings.{heading_of, names_of}
use Rattle.check_type_expr.specs.Made.{nothing_of, type_of, with_made}
use Rattle.check_definition.specs.declared.declare.Owner.{Owner}
use Rattle.check_definition.specs.declared.declare.Owner.TheVariants as owner

-- ---- constants

abbrev pub nothing_reported : {T : Type 0} → Result Value T → Result (Unit {0}) T
nothing_reported v = v ▷ λ x. Ok tt

abbrev pub constant_meaning : {T : Type 0} → Result Value T → Result Meaning T
constant_meaning v = v ▷ λ x. Ok (meaning.Constant x)

abbrev pub with_constant : (g : Gathers) → State (Unit {0}) g.Reported → Constant
    → State (Unit {0}) g.Reported
with_constant g st c =
    let b = begin_name g st.0 c.name in
    let v = constant g b.0 (part g c.value) in
    (finish_name b.0 c.name (constant_meaning v), beside g st.1 (beside g b.1 (nothing_reported v)))

-- ---- types

abbrev pub brings_simple : Simple → ℕ
brings_simple (simple.Named q) = 1
brings_simple (simple.Enumeration at names) = length names + 1
brings_simple (simple.Subrange of at low high) = 1

abbrev pub brings_layer : TypeExpr-F TypeExpr Field → ℕ
brings_layer (layer.Simple t) = brings_simple t
brings_layer (layer.Array at index of) = 1
brings_layer (layer.Record at fields) = 1
brings_layer (layer.Procedure at formals of) = 1

-- how many names come with a type: its own, and the constants of an enumeration that it is
abbrev pub brings_with : TypeExpr → ℕ
brings_with t = brings_layer (out-TypeExpr t)

abbrev pub type_meaning : {T : Type 0} → Result TypeNo T → ℕ → Result Meaning T
type_meaning t n = t ▷ λ x. Ok (meaning.Type x n)

abbrev pub with_type : (g : Gathers) → State (Unit {0}) g.Reported → TypeDecl
    → State (Unit {0}) g.Reported
with_type g st d =
    let b = begin_name g st.0 d.name in
    let t = type_of g d.of b.0 in (
      finish_name t.0 d.name (type_meaning t.1 (brings_with d.of)),
      beside g st.1 (beside g b.1 (nothing_of t.1)),
    )

-- ---- variables: the names of one list together

abbrev pub begun_name : (g : Gathers) → State (Unit {0}) g.Reported → Ident
    → State (Unit {0}) g.Reported
begun_name g st name = let b = begin_name g st.0 name in (b.0, beside g st.1 b.1)

abbrev pub variable_meaning : {T : Type 0} → ℕ → ℕ → Result TypeNo T → Result Meaning T
variable_meaning home n t =
    t ▷ λ x. Ok (meaning.Variable (record { home = home; number = n; of = x }))

-- a variable of a procedure is numbered behind its formals
abbrev pub local_meaning : {T : Type 0} → (level number : ℕ) → Result TypeNo T → Result Meaning T
local_meaning level n t =
    t ▷ λ x. Ok (meaning.Local (record { level = level; number = n; kind = kind.Variable; of = x }))

abbrev pub owned_meaning : {T : Type 0} → Owner → Scope T → Result TypeNo T → Result Meaning T
owned_meaning owner.Module s t = variable_meaning s.types.home (length s.variables) t
owned_meaning owner.Procedure s t = local_meaning s.level (length s.variables) t

abbrev pub with_variable_type : {T : Type 0} → Scope T → Result TypeNo T → Scope T
with_variable_type s (Ok t) = record s { variables = s.variables ++ t ∷ [] }
with_variable_type s (Err e) = s

abbrev pub finished_owned : {T : Type 0} → Owner → Result TypeNo T → Scope T → Ident → Scope T
finished_owned whose t s name =
    finish_name (with_variable_type s t) name (owned_meaning whose s t)

abbrev pub with_owned : (g : Gathers) → Owner → State (Unit {0}) g.Reported → Variables
    → State (Unit {0}) g.Reported
with_owned g whose st v =
    let b = fold (begun_name g) st v.names in
    let t = type_of g v.of b.0 in
    (fold (finished_owned whose t.1) t.0 v.names, beside g b.1 (nothing_of t.1))

-- those of a module
abbrev pub finished_variable : {T : Type 0} → Result TypeNo T → Scope T → Ident → Scope T
finished_variable t s name = finished_owned owner.Module t s name

abbrev pub with_variables : (g : Gathers) → State (Unit {0}) g.Reported → Variables
    → State (Unit {0}) g.Reported
with_variables g st v = with_owned g owner.Module st v

-- ---- procedures

abbrev pub procedure_meaning : {T : Type 0} → ℕ → ℕ → Result TypeNo T → Result Meaning T
procedure_meaning home n t =
    t ▷ λ x. Ok (meaning.Procedure (record { home = home; number = n; heading = x }))

abbrev pub with_procedure_type : {T : Type 0} → Scope T → Result TypeNo T → Scope T
with_procedure_type s (Ok t) = record s { procedures = s.procedures ++ t ∷ [] }
with_procedure_type s (Err e) = s

abbrev pub declared_procedure : (g : Gathers) → Scope g.Reported → Ident → Result TypeNo g.Reported
    → State (Unit {0}) g.Reported
declared_procedure g s name t =
    head_name g (with_procedure_type s t) name
    (heading_means false (procedure_meaning s.types.home (length s.procedures) t))

abbrev pub with_procedure : (g : Gathers) → State (Unit {0}) g.Reported → Heading
    → State (Unit {0}) g.Reported
with_procedure g st h =
    let t = with_made st.0 (heading_of g st.0 h) in
    let d = declared_procedure g t.0 h.name t.1 in
    (d.0, beside g st.1 (beside g (names_of g h) (beside g (nothing_of t.1) d.1)))

-- ---- all of them

abbrev pub with_def : (g : Gathers) → State (Unit {0}) g.Reported → Def
    → State (Unit {0}) g.Reported
with_def g st (def.Constants cs) = fold (with_constant g) st cs
with_def g st (def.Types ts) = fold (with_type g) st ts
with_def g st (def.Variables vs) = fold (with_variables g) st vs
with_def g st (def.Procedure h) = with_procedure g st h
