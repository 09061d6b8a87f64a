-- Headings of procedures, and procedure types.
use Rattle.std.specs.Prelude.{ℕ, Bool, not, List, [], ◌∷◌, ◌++◌, map, Option, Some, None, Result, Ok, Err}
use Rattle.std.specs.List.{fold}
use Rattle.m2_rule.specs.declared.rule.Rule.TheVariants as rule
use Rattle.m2_tree.specs.declared.pos.Pos.{Pos}
use Rattle.m2_tree.specs.declared.name.Ident.{Ident}
use Rattle.m2_tree.specs.declared.expr.Qualified.{Qualified}
use Rattle.m2_tree.specs.declared.decl.FormalType.{FormalType}
use Rattle.m2_tree.specs.declared.decl.Parameter.{Parameter}
use Rattle.m2_tree.specs.declared.decl.Section.{Section}
use Rattle.m2_tree.specs.declared.decl.Heading.{Heading}
use Rattle.typed_tree.specs.declared.types.TypeNo.{TypeNo}
use Rattle.typed_tree.specs.declared.shape.Formal.{Formal}
use Rattle.typed_tree.specs.declared.shape.Shape.TheVariants as shape
use Rattle.typed_tree.specs.declared.shape.Made.{Made}
use Rattle.typed_tree.specs.Types.{integer}
use Rattle.typed_tree.specs.declared.known_types.Types.{Types}
use Rattle.check_scope.specs.declared.scope.Scope.{Scope}
use Rattle.typed_tree.specs.Known.{is_result}
use Rattle.check_scope.specs.Elaborated.{Gathers, report, reported_where, both, ◌▷◌}
use Rattle.check_type_expr.specs.declared.field.Fields.{Fields}
use Rattle.check_type_expr.specs.Named.{first_of, named_type}
use Rattle.check_type_expr.specs.Fields.{no_fields, with_name}

abbrev pub formal_of : (g : Gathers) → Scope g.Reported → Bool → FormalType
    → Result Formal g.Reported
formal_of g s is_var f =
    named_type g s f.of ▷ λ t. Ok (record { is_var = is_var; is_open = f.is_open; of = t })

-- a function gives no arrays and no records
abbrev pub result_in : (g : Gathers) → Types → Pos → TypeNo → Result (Option TypeNo) g.Reported
result_in g types at t = reported_where g (not (is_result types t)) at rule.NoType (Ok (Some t))

abbrev pub result_of : (g : Gathers) → Scope g.Reported → Option Qualified
    → Result (Option TypeNo) g.Reported
result_of g s None = Ok None
result_of g s (Some q) = named_type g s q ▷ result_in g s.types (first_of q)

abbrev pub procedure_made : (g : Gathers) → Result (List Formal) g.Reported
    → Result (Option TypeNo) g.Reported → Result Made g.Reported
procedure_made g formals of =
    both g formals of ▷ λ p.
    Ok (record { shape = shape.Procedure (record { formals = p.0; result = p.1 }); cells = 1 })

-- ---- procedure types

abbrev pub joined_formal : (g : Gathers) → Result (List Formal) g.Reported
    → Result Formal g.Reported → Result (List Formal) g.Reported
joined_formal g so f = both g so f ▷ λ p. Ok (p.0 ++ p.1 ∷ [])

abbrev pub with_parameter : (g : Gathers) → Scope g.Reported → Result (List Formal) g.Reported
    → Parameter → Result (List Formal) g.Reported
with_parameter g s so p = joined_formal g so (formal_of g s p.is_var p.of)

abbrev pub procedure_type : (g : Gathers) → Scope g.Reported → List Parameter → Option Qualified
    → Result Made g.Reported
procedure_type g s ps of =
    procedure_made g (fold (with_parameter g s) (Ok []) ps) (result_of g s of)

-- ---- headings

abbrev pub formal_for_each : Formal → List Ident → List Formal
formal_for_each f names = map (λ n. f) names

abbrev pub joined_formals : (g : Gathers) → Result (List Formal) g.Reported
    → Result Formal g.Reported → List Ident → Result (List Formal) g.Reported
joined_formals g so f names = both g so f ▷ λ p. Ok (p.0 ++ formal_for_each p.1 names)

abbrev pub with_section : (g : Gathers) → Scope g.Reported → Result (List Formal) g.Reported
    → Section → Result (List Formal) g.Reported
with_section g s so x = joined_formals g so (formal_of g s x.is_var x.of) x.names

-- what a heading means, whatever the names of its formals
abbrev pub heading_of : (g : Gathers) → Scope g.Reported → Heading → Result Made g.Reported
heading_of g s h =
    procedure_made g (fold (with_section g s) (Ok []) h.formals) (result_of g s h.result)

-- the names of the formals so far, and what is reported of them
abbrev pub with_names : (g : Gathers) → Fields × Result (Unit {0}) g.Reported → Section
    → Fields × Result (Unit {0}) g.Reported
with_names g st x = fold (with_name g integer 0) st x.names

abbrev pub names_of : (g : Gathers) → Heading → Result (Unit {0}) g.Reported
names_of g h = (fold (with_names g) (no_fields, Ok tt) h.formals).1
