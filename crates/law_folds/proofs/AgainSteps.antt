-- Where constant expressions are read again, what was reported before is reported still.
use Rattle.std.proofs.Common.{◌≡◌, ℕ, List, [], ◌∷◌, Result, Ok, Err, length, ◌∙◌, ap, refl}
use Rattle.std.specs.Prelude.{map}
use Rattle.std.specs.List.{fold}
use Rattle.m2_tree.specs.declared.expr.Expr.{Expr}
use Rattle.m2_tree.specs.declared.decl.Constant.{Constant}
use Rattle.m2_tree.specs.declared.decl.TypeDecl.{TypeDecl}
use Rattle.m2_tree.specs.declared.decl.Variables.{Variables}
use Rattle.m2_tree.specs.declared.decl.Simple.{Simple}
use Rattle.m2_tree.specs.declared.decl.Simple.TheVariants as simple
use Rattle.m2_tree.specs.declared.decl.TypeExpr.{TypeExpr, TypeExpr-F, out-TypeExpr, map-TypeExpr, fold_out-TypeExpr}
use Rattle.m2_tree.specs.declared.decl.TypeExpr.TheOpen as layer
use Rattle.m2_tree.specs.declared.decl.Field.{Field, Field-F, out-Field, map-Field, fold_out-Field}
use Rattle.m2_tree.specs.declared.decl.Def.{Def}
use Rattle.m2_tree.specs.declared.decl.Def.TheVariants as def
use Rattle.m2_tree.specs.declared.decl.Decl.{Decl, Decl-F, out-Decl}
use Rattle.m2_tree.specs.declared.decl.Decl.TheOpen as decl
use Rattle.m2_tree.specs.declared.decl.Module.{Module}
use Rattle.check_scope.specs.Elaborated.{Gathers, beside}
use Rattle.check_scope.specs.Scopes.{State}
use Rattle.check_scope.specs.declared.scope.Scope.{Scope}
use Rattle.check_definition.specs.Again.{Passing, Passes, again_value, again_simple, then_passes, type_layer, field_layer, again_type, again_field, again_constant, again_declared, again_variables, again_def}
use Rattle.check_definition.specs.Marking.{marked_def}
use Rattle.check_definition.specs.Importing.{with_import}
use Rattle.check_definition.specs.Declare.{with_def}
use Rattle.check_definition.specs.Compiled.{declared_in}
use Rattle.check_block.specs.Naming.{marked_decl, all_marked}
use Rattle.check_block.specs.Declarations.{Course, with_decl, again_layer, again_decl, declared_block}
use Rattle.law_folds.proofs.TypeFolds.{Typed, Fielded, bare, all_trees}

module _ (g : Gathers) where
  -- nothing is reported, so nothing was before
  abbrev pub Reports : (Passing g.Reported → Passing g.Reported) → Type 0
  Reports f = (st : Passing g.Reported) → (f st).0 ≡ Ok tt → st.0 ≡ Ok tt

  pub first_of_beside : (a b : Result (Unit {0}) g.Reported) → beside g a b ≡ Ok tt → a ≡ Ok tt
  first_of_beside (Ok x) b e = refl
  first_of_beside (Err x) (Ok y) e = absurd cc
  first_of_beside (Err x) (Err y) e = absurd cc

  pub all_report : {X : Type 0} (f : Passing g.Reported → X → Passing g.Reported)
      → ((x : X) → Reports (λ st. f st x)) → (xs : List X) → Reports (λ st. fold f st xs)
  all_report f one [] st e = e
  all_report f one (x ∷ xs) st e = one x st (all_report f one xs (f st x) e)

  -- ---- types

  pub value_reports : (s : Scope g.Reported) (x : Expr) → Reports (again_value g s x)
  value_reports s x st e = first_of_beside st.0 _ e

  simple_reports : (t : Simple) (s : Scope g.Reported) → Reports (again_simple g t s)
  simple_reports (simple.Named q) s st e = e
  simple_reports (simple.Enumeration at names) s st e = e
  simple_reports (simple.Subrange of at low high) s st e =
      value_reports s low st (value_reports s high (again_value g s low st) e)

  abbrev pub again_opened : TypeExpr-F TypeExpr Field → TypeExpr-F (Passes g) (Passes g)
  again_opened x = map-TypeExpr TypeExpr Field (Passes g) (Passes g) (again_type g) (again_field g) x

  abbrev pub again_fields_opened : Field-F TypeExpr Field → Field-F (Passes g) (Passes g)
  again_fields_opened x = map-Field TypeExpr Field (Passes g) (Passes g) (again_type g) (again_field g) x

  pub again_at : (t : TypeExpr) (x : TypeExpr-F TypeExpr Field) → out-TypeExpr t ≡ x
      → again_type g t ≡ type_layer g (again_opened x)
  unfolding again_type again_field
  again_at t x h =
      fold_out-TypeExpr (Passes g) (Passes g) (type_layer g) (field_layer g) t
      ∙ ap (λ (y : TypeExpr-F TypeExpr Field). type_layer g (again_opened y)) h

  pub again_fields_at : (d : Field) (x : Field-F TypeExpr Field) → out-Field d ≡ x
      → again_field g d ≡ field_layer g (again_fields_opened x)
  unfolding again_type again_field
  again_fields_at d x h =
      fold_out-Field (Passes g) (Passes g) (type_layer g) (field_layer g) d
      ∙ ap (λ (y : Field-F TypeExpr Field). field_layer g (again_fields_opened y)) h

  abbrev AllReport : Passes g → Type 0
  AllReport f = (s : Scope g.Reported) → Reports (f s)

  abbrev Trees : Type 0
  Trees = Typed (again_type g) (again_field g) (λ t f. AllReport f) (λ d f. AllReport f)

  abbrev Lists : Type 0
  Lists = Fielded (again_type g) (again_field g) (λ t f. AllReport f) (λ d f. AllReport f)

  lists_report : (fs : List Lists) (s : Scope g.Reported)
      → Reports (λ st. fold (then_passes g s) st (map (again_field g) (map (λ (f : Lists). f.0) fs)))
  lists_report [] s st e = e
  lists_report (f ∷ fs) s st e = f.1 s st (lists_report fs s (again_field g f.0 s st) e)

  abbrev stripped : TypeExpr-F Trees Lists → TypeExpr-F TypeExpr Field
  stripped y = bare (again_type g) (again_field g) (λ t f. AllReport f) (λ d f. AllReport f) y

  layer_reports : (y : TypeExpr-F Trees Lists) → AllReport (type_layer g (again_opened (stripped y)))
  layer_reports (layer.Simple t) s st e = simple_reports t s st e
  layer_reports (layer.Array at index t) s st e =
      simple_reports index s st (t.1 s (again_simple g index s st) e)
  layer_reports (layer.Record at fields) s st e = lists_report fields s st e
  layer_reports (layer.Procedure at formals of) s st e = e

  pub type_reports : (t : TypeExpr) (s : Scope g.Reported) → Reports (again_type g t s)
  type_reports =
      all_trees (again_type g) (again_field g) (λ t f. AllReport f) (λ d f. AllReport f) (type_layer g) (field_layer g)
      again_at again_fields_at layer_reports (λ y s st e. y.of.1 s st e)

  -- ---- declarations

  constant_reports : (s : Scope g.Reported) (c : Constant) → Reports (λ st. again_constant g s st c)
  constant_reports s c st e = value_reports s c.value st e

  declared_reports : (s : Scope g.Reported) (d : TypeDecl) → Reports (λ st. again_declared g s st d)
  declared_reports s d st e = type_reports d.of s _ e

  variables_report : (s : Scope g.Reported) (v : Variables) → Reports (λ st. again_variables g s st v)
  variables_report s v st e = type_reports v.of s _ e

  pub def_reports : (s : Scope g.Reported) (d : Def) → Reports (λ st. again_def g s st d)
  def_reports s (def.Constants cs) = all_report (again_constant g s) (constant_reports s) cs
  def_reports s (def.Types ts) = all_report (again_declared g s) (declared_reports s) ts
  def_reports s (def.Variables vs) = all_report (again_variables g s) (variables_report s) vs
  def_reports s (def.Procedure h) = λ st e. e

  pub defs_report : (s : Scope g.Reported) (ds : List Def) → Reports (λ st. fold (again_def g s) st ds)
  defs_report s = all_report (again_def g s) (def_reports s)

  pub again_reports : {A B : Type 0} (s : Scope g.Reported) (y : Decl-F A B) → Reports (λ st. again_layer g s st y)
  again_reports s (decl.Constants cs) = all_report (again_constant g s) (constant_reports s) cs
  again_reports s (decl.Types ts) = all_report (again_declared g s) (declared_reports s) ts
  again_reports s (decl.Variables vs) = all_report (again_variables g s) (variables_report s) vs
  again_reports s (decl.Procedure h b) = λ st e. e

  pub decls_report : (s : Scope g.Reported) (ds : List Decl) → Reports (λ st. fold (again_decl g s) st ds)
  decls_report s = all_report (again_decl g s) (λ d. again_reports s (out-Decl d))

  -- ---- whole blocks and definitions: nothing was reported where constant expressions were read first

  pub block_reported : (ends : List ℕ) (st : State (Unit {0}) g.Reported) (first : ℕ) (ds : List Decl)
      → (declared_block g ends st first ds).1 ≡ Ok tt
      → (fold (with_decl g ends) ((all_marked marked_decl st.0 ds).0, st.1, first) ds).1 ≡ Ok tt
  block_reported ends st first ds e =
      let c : Course g.Reported = fold (with_decl g ends) ((all_marked marked_decl st.0 ds).0, st.1, first) ds in
      decls_report c.0 ds (c.1, length st.0.own) e

  pub definition_reported : (m : Module) (modules : List (List ℕ × ℕ)) (s : Scope g.Reported) (ds : List Def)
      → (declared_in g m modules s ds).1 ≡ Ok tt
      → (let i : State (Unit {0}) g.Reported = fold (with_import g modules) (s, Ok tt) m.imports in
      fold (with_def g) (fold marked_def i.0 ds, i.1) ds).1 ≡ Ok tt
  definition_reported m modules s ds e =
      let i : State (Unit {0}) g.Reported = fold (with_import g modules) (s, Ok tt) m.imports in
      let d : State (Unit {0}) g.Reported = fold (with_def g) (fold marked_def i.0 ds, i.1) ds in
      defs_report d.0 ds (d.1, length i.0.own) e
