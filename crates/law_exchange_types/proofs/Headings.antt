-- Headings of check_type_expr, with other numbers of modules.
use Rattle.check_scope.specs.Elaborated.{Gathers}
use Rattle.check_scope.specs.declared.scope.Scope.{Scope}
use Rattle.check_type_expr.specs.Headings.{with_parameter, joined_formals, joined_formal, result_of, formal_of, with_section, heading_of, procedure_type, formal_for_each, result_in, procedure_made}
use Rattle.def_exchange.specs.Moved.{moved_formal, moved_made, moved_type, moved_types, Exchange}
use Rattle.law_exchange_types.proofs.Basics.{then_map, map_then, where_moves, both_moves}
use Rattle.law_exchange_types.proofs.Known.{is_result_moves}
use Rattle.law_exchange_types.proofs.Named.{named_type_moves}
use Rattle.law_exchange_types.specs.Pieces.{map_ok}
use Rattle.law_exchange_types.specs.Scopes.{moved_scope}
use Rattle.m2_tree.specs.declared.decl.FormalType.{FormalType}
use Rattle.m2_tree.specs.declared.decl.Heading.{Heading}
use Rattle.m2_tree.specs.declared.decl.Parameter.{Parameter}
use Rattle.m2_tree.specs.declared.decl.Section.{Section}
use Rattle.m2_tree.specs.declared.expr.Qualified.{Qualified}
use Rattle.m2_tree.specs.declared.name.Ident.{Ident}
use Rattle.m2_tree.specs.declared.pos.Pos.{Pos}
use Rattle.std.proofs.Common.{◌≡◌, refl, Bool, List, None, Ok, Option, Result, Some, ap, ap₂, fold, map, option_map, ◌∷◌, ◌∙◌, []}
use Rattle.std.proofs.lemmas.List.{map-append}
use Rattle.typed_tree.specs.declared.known_types.Types.{Types}
use Rattle.typed_tree.specs.declared.shape.Formal.{Formal}
use Rattle.typed_tree.specs.declared.types.TypeNo.{TypeNo}
use Rattle.law_exchange_types.proofs.Basics.{fold_moves}

pub formal_of_moves : (z : Exchange) (g : Gathers) (s : Scope g.Reported) (is_var : Bool) (f : FormalType)
    → formal_of g (moved_scope z s) is_var f ≡ map_ok (moved_formal z) (formal_of g s is_var f)
formal_of_moves z g s is_var f = simp (named_type_moves, then_map, map_then)

pub result_in_moves : (z : Exchange) (g : Gathers) (types : Types) (at : Pos) (t : TypeNo)
    → result_in g (moved_types z types) at (moved_type z t)
    ≡ map_ok (option_map (moved_type z)) (result_in g types at t)
result_in_moves z g types at t = simp (is_result_moves, where_moves)

pub result_of_moves : (z : Exchange) (g : Gathers) (s : Scope g.Reported) (a1 : Option Qualified)
    → result_of g (moved_scope z s) a1 ≡ map_ok (option_map (moved_type z)) (result_of g s a1)
result_of_moves z g s None = refl
result_of_moves z g s (Some q) = simp (named_type_moves, result_in_moves, then_map, map_then)

pub procedure_made_moves : (z : Exchange) (g : Gathers) (formals : Result (List Formal) g.Reported)
    (of : Result (Option TypeNo) g.Reported)
    → procedure_made g (map_ok (map (moved_formal z)) formals) (map_ok (option_map (moved_type z)) of)
    ≡ map_ok (moved_made z) (procedure_made g formals of)
procedure_made_moves z g formals of = simp (then_map, map_then, both_moves)

pub joined_formal_moves : (z : Exchange) (g : Gathers) (so : Result (List Formal) g.Reported)
    (f : Result Formal g.Reported)
    → joined_formal g (map_ok (map (moved_formal z)) so) (map_ok (moved_formal z) f)
    ≡ map_ok (map (moved_formal z)) (joined_formal g so f)
joined_formal_moves z g so f = simp (then_map, map_then, both_moves, map-append)

pub with_parameter_moves : (z : Exchange) (g : Gathers) (s : Scope g.Reported) (so : Result (List Formal) g.Reported)
    (p : Parameter)
    → with_parameter g (moved_scope z s) (map_ok (map (moved_formal z)) so) p
    ≡ map_ok (map (moved_formal z)) (with_parameter g s so p)
with_parameter_moves z g s so p = simp (joined_formal_moves, formal_of_moves)

pub procedure_type_moves : (z : Exchange) (g : Gathers) (s : Scope g.Reported) (ps : List Parameter)
    (of : Option Qualified)
    → procedure_type g (moved_scope z s) ps of ≡ map_ok (moved_made z) (procedure_type g s ps of)
procedure_type_moves z g s ps of =
    ap₂ (procedure_made g)
    (fold_moves (map_ok (map (moved_formal z))) (with_parameter g s) (with_parameter g (moved_scope z s))
    (with_parameter_moves z g s) (Ok []) ps)
    (result_of_moves z g s of)
    ∙ procedure_made_moves z g (fold (with_parameter g s) (Ok []) ps) (result_of g s of)

pub formal_for_each_moves : (z : Exchange) (f : Formal) (names : List Ident)
    → formal_for_each (moved_formal z f) names ≡ map (moved_formal z) (formal_for_each f names)
formal_for_each_moves z f [] = refl
formal_for_each_moves z f (n ∷ names) = ap (λ (fs : List Formal). moved_formal z f ∷ fs)
    (formal_for_each_moves z f names)

pub joined_formals_moves : (z : Exchange) (g : Gathers) (so : Result (List Formal) g.Reported)
    (f : Result Formal g.Reported) (names : List Ident)
    → joined_formals g (map_ok (map (moved_formal z)) so) (map_ok (moved_formal z) f) names
    ≡ map_ok (map (moved_formal z)) (joined_formals g so f names)
joined_formals_moves z g so f names = simp (formal_for_each_moves, then_map, map_then, both_moves, map-append)

pub with_section_moves : (z : Exchange) (g : Gathers) (s : Scope g.Reported) (so : Result (List Formal) g.Reported)
    (x : Section)
    → with_section g (moved_scope z s) (map_ok (map (moved_formal z)) so) x
    ≡ map_ok (map (moved_formal z)) (with_section g s so x)
with_section_moves z g s so x = simp (joined_formals_moves, formal_of_moves)

pub heading_of_moves : (z : Exchange) (g : Gathers) (s : Scope g.Reported) (h : Heading)
    → heading_of g (moved_scope z s) h ≡ map_ok (moved_made z) (heading_of g s h)
heading_of_moves z g s h =
    ap₂ (procedure_made g)
    (fold_moves (map_ok (map (moved_formal z))) (with_section g s) (with_section g (moved_scope z s))
    (with_section_moves z g s) (Ok []) h.formals)
    (result_of_moves z g s h.result)
    ∙ procedure_made_moves z g (fold (with_section g s) (Ok []) h.formals) (result_of g s h.result)
