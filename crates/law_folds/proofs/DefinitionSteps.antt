-- What a definition declares: what each entry of a name keeps, the whole definition keeps.
use Rattle.std.proofs.Common.{◌≡◌, ℕ, true, false, List, length, Result, Ok}
use Rattle.std.specs.List.{fold}
use Rattle.m2_rule.specs.declared.rule.Rule.TheVariants as rule
use Rattle.m2_tree.specs.declared.decl.Heading.{Heading}
use Rattle.m2_tree.specs.declared.decl.Def.{Def}
use Rattle.m2_tree.specs.declared.decl.Def.TheVariants as def
use Rattle.typed_tree.specs.declared.types.TypeNo.{TypeNo}
use Rattle.typed_tree.specs.Names.{find_name}
use Rattle.check_scope.specs.Elaborated.{Gathers, report}
use Rattle.check_scope.specs.Scopes.{State, is_free, with_known, heading_means}
use Rattle.check_scope.specs.declared.known.Known.{Known}
use Rattle.check_scope.specs.declared.known.Known.TheVariants.{Headed}
use Rattle.check_scope.specs.declared.scope.Scope.{Scope}
use Rattle.check_type_expr.specs.Headings.{heading_of}
use Rattle.check_type_expr.specs.Made.{with_made}
use Rattle.check_definition.specs.Declare.{with_constant, with_type, with_variables, procedure_meaning, with_procedure_type, with_procedure, with_def}
use Rattle.law_folds.proofs.Orders.{IsOrder, either, steps}
use Rattle.law_folds.proofs.NameSteps.{KeepsNames, Varies, VariablesEnd, constant_keeps, type_decl_keeps, variable_list_keeps}

pub record KeepsDefinitions (g : Gathers) (R : Scope g.Reported → Scope g.Reported → Type 0) : Type 0 where
  pub names : KeepsNames g R
  pub varied : Varies g R
  pub variable_ends : VariablesEnd g R
  pub headed : (s : Scope g.Reported) (t : Result TypeNo g.Reported) → R s (with_procedure_type s t)
  pub procedure : (s : Scope g.Reported) (name : List ℕ) (t : Result TypeNo g.Reported)
      → let p : Scope g.Reported = with_procedure_type s t in is_free (find_name name p.own) ≡ true
      → R s (with_known name (Headed (heading_means false (procedure_meaning s.types.home (length s.procedures) t))) p)

module _ (g : Gathers) {R : Scope g.Reported → Scope g.Reported → Type 0} (k : KeepsDefinitions g R) where
  abbrev St : Type 0
  St = State (Unit {0}) g.Reported

  abbrev order : IsOrder R
  order = k.names.types.order

  abbrev state : St → Scope g.Reported
  state st = st.0

  pub procedure_keeps : (st : St) (h : Heading) → R st.0 (with_procedure g st h).0
  procedure_keeps st h =
      let m : State TypeNo g.Reported = with_made st.0 (heading_of g st.0 h) in
      let s : Scope g.Reported = m.0 in
      let p : Scope g.Reported = with_procedure_type s m.1 in
      let n : Known g.Reported =
      Headed (heading_means false (procedure_meaning s.types.home (length s.procedures) m.1)) in
      order.next st.0 s _ (k.names.types.headings st.0 h)
      (either order s (is_free (find_name h.name.name p.own))
      (with_known h.name.name n p, Ok tt)
      (p, report g h.name.pos rule.DeclaredTwice) (k.procedure s h.name.name m.1) (k.headed s m.1))

  pub def_keeps : (st : St) (d : Def) → R st.0 (with_def g st d).0
  def_keeps st (def.Constants cs) = steps order state (with_constant g) (constant_keeps g k.names) cs st
  def_keeps st (def.Types ts) = steps order state (with_type g) (type_decl_keeps g k.names) ts st
  def_keeps st (def.Variables vs) =
      steps order state (with_variables g) (variable_list_keeps g k.names k.varied k.variable_ends) vs st
  def_keeps st (def.Procedure h) = procedure_keeps st h

  pub defs_keep : (ds : List Def) (st : St) → R st.0 (fold (with_def g) st ds).0
  defs_keep = steps order state (with_def g) def_keeps
