-- Constant expressions that are read again, with other numbers of modules: the same is reported.
use Rattle.std.proofs.Common.{◌≡◌, ℕ, List, [], ◌∷◌, map, fold, Option, Result, Ok, Err, refl, ap, ◌∙◌}
use Rattle.m2_tree.specs.declared.name.Ident.{Ident}
use Rattle.m2_tree.specs.declared.expr.Expr.{Expr}
use Rattle.m2_tree.specs.declared.decl.Constant.{Constant}
use Rattle.m2_tree.specs.declared.decl.TypeDecl.{TypeDecl}
use Rattle.m2_tree.specs.declared.decl.Variables.{Variables}
use Rattle.m2_tree.specs.declared.decl.Def.{Def}
use Rattle.m2_tree.specs.declared.decl.Def.TheVariants as def
use Rattle.m2_tree.specs.declared.decl.Simple.{Simple}
use Rattle.m2_tree.specs.declared.decl.Simple.TheVariants as simple
use Rattle.m2_tree.specs.declared.decl.TypeExpr.{TypeExpr, TypeExpr-F}
use Rattle.m2_tree.specs.declared.decl.TypeExpr.TheOpen as layer
use Rattle.m2_tree.specs.declared.decl.Field.{Field, Field-F}
use Rattle.typed_tree.specs.declared.meaning.Value.{Value}
use Rattle.check_scope.specs.declared.scope.Scope.{Scope}
use Rattle.check_scope.specs.Inwards.{inwards}
use Rattle.check_scope.specs.Elaborated.{Gathers, beside}
use Rattle.check_const.specs.Parts.{constant}
use Rattle.check_expr.specs.Meanings.{part}
use Rattle.check_definition.specs.Declare.{nothing_reported}
use Rattle.check_definition.specs.Again.{Passing, Passes, one_more_if, passed, all_passed, reported_at, again_value, again_simple, then_passes, type_layer, field_layer, again_type, again_field, again_constant, again_declared, again_variables, again_def}
use Rattle.def_exchange.specs.Moved.{Exchange, moved_value}
use Rattle.law_folds.proofs.TypeFolds.{all_trees, bare, bare_field}
use Rattle.law_folds.proofs.AgainSteps.{again_opened, again_fields_opened, again_at, again_fields_at}
use Rattle.law_exchange_types.specs.Pieces.{map_ok}
use Rattle.law_exchange_types.specs.Scopes.{moved_known, moved_scope}
use Rattle.law_exchange_types.proofs.Basics.{fold_moves, place_moves}
use Rattle.law_exchange_types.proofs.InScope.{inwards_moves}
use Rattle.law_exchange_types.proofs.Fixed.{constant_moves}
use Rattle.law_exchange_types.proofs.Exprs.{part_moves}

-- what does the same at each step does the same along a list
pub same_fold : {A C : Type 0} (f k : A → C → A) → ((a : A) (c : C) → k a c ≡ f a c) → (a : A) (cs : List C)
    → fold k a cs ≡ fold f a cs
same_fold f k e a cs = fold_moves (λ x. x) f k e a cs

module _ (z : Exchange) (g : Gathers) where
  abbrev St : Type 0
  St = Passing g.Reported

  -- ---- names in front

  pub passed_moves : (s : Scope g.Reported) (n : ℕ) (name : Ident) → passed (moved_scope z s) n name ≡ passed s n name
  passed_moves s n name = ap (λ (p : Option ℕ). one_more_if p n) (place_moves (moved_known z) name.name s.own)

  all_passed_moves : (s : Scope g.Reported) (n : ℕ) (names : List Ident)
      → all_passed (moved_scope z s) n names ≡ all_passed s n names
  all_passed_moves s n names = same_fold (passed s) (passed (moved_scope z s)) (passed_moves s) n names

  pub passed_again : (s : Scope g.Reported) (st : St) (name : Ident)
      → ◌≡◌ {A = St} (st.0, passed (moved_scope z s) st.1 name) (st.0, passed s st.1 name)
  passed_again s st name = ap (λ (n : ℕ). (st.0, n)) (passed_moves s st.1 name)

  names_again : (s : Scope g.Reported) (st : St) (names : List Ident)
      → ◌≡◌ {A = St} (st.0, all_passed (moved_scope z s) st.1 names) (st.0, all_passed s st.1 names)
  names_again s st names = ap (λ (n : ℕ). (st.0, n)) (all_passed_moves s st.1 names)

  -- ---- constant expressions

  pub nothing_moves : (v : Result Value g.Reported) → nothing_reported (map_ok (moved_value z) v) ≡ nothing_reported v
  nothing_moves (Ok v) = refl
  nothing_moves (Err e) = refl

  reported_moves : (s : Scope g.Reported) (e : Expr) → reported_at g (moved_scope z s) e ≡ reported_at g s e
  reported_moves s e =
      ap nothing_reported (constant_moves z g s (part g e) (part_moves z g e)) ∙ nothing_moves (constant g s (part g e))

  value_again : (s : Scope g.Reported) (e : Expr) (st : St)
      → again_value g (moved_scope z s) e st ≡ again_value g s e st
  value_again s e st =
      ap (λ (r : Result (Unit {0}) g.Reported). (beside g st.0 r, st.1))
      (ap (λ (u : Scope g.Reported). reported_at g u e) (inwards_moves z s st.1) ∙ reported_moves (inwards s st.1) e)

  -- ---- types

  abbrev SameAgain : Passes g → Type 0
  SameAgain f = (s : Scope g.Reported) (st : St) → f (moved_scope z s) st ≡ f s st

  simple_again : (t : Simple) → SameAgain (again_simple g t)
  simple_again (simple.Named q) s st = refl
  simple_again (simple.Enumeration at names) s st = names_again s st names
  simple_again (simple.Subrange q at low high) s st =
      ap (again_value g (moved_scope z s) high) (value_again s low st) ∙ value_again s high (again_value g s low st)

  abbrev Typed : Type 0
  Typed = (t : TypeExpr) × SameAgain (again_type g t)

  abbrev Fielded : Type 0
  Fielded = (d : Field) × SameAgain (again_field g d)

  fields_again : (ds : List Fielded) (s : Scope g.Reported) (st : St)
      → fold (then_passes g (moved_scope z s)) st (map (again_field g) (map (λ (d : Fielded). d.0) ds))
      ≡ fold (then_passes g s) st (map (again_field g) (map (λ (d : Fielded). d.0) ds))
  fields_again [] s st = refl
  fields_again (d ∷ ds) s st =
      ap (λ (u : St). fold (then_passes g (moved_scope z s)) u (map (again_field g) (map (λ (d : Fielded). d.0) ds)))
      (d.1 s st)
      ∙ fields_again ds s (again_field g d.0 s st)

  abbrev bared : TypeExpr-F Typed Fielded → TypeExpr-F TypeExpr Field
  bared y = bare (again_type g) (again_field g) (λ t f. SameAgain f) (λ d f. SameAgain f) y

  abbrev bared_field : Field-F Typed Fielded → Field-F TypeExpr Field
  bared_field y = bare_field (again_type g) (again_field g) (λ t f. SameAgain f) (λ d f. SameAgain f) y

  layer_again : (y : TypeExpr-F Typed Fielded) → SameAgain (type_layer g (again_opened g (bared y)))
  layer_again (layer.Simple t) s st = simple_again t s st
  layer_again (layer.Array at index m) s st =
      ap (again_type g m.0 (moved_scope z s)) (simple_again index s st) ∙ m.1 s (again_simple g index s st)
  layer_again (layer.Record at ds) s st = fields_again ds s st
  layer_again (layer.Procedure at formals q) s st = refl

  list_again : (y : Field-F Typed Fielded) → SameAgain (field_layer g (again_fields_opened g (bared_field y)))
  list_again y s st = y.of.1 s st

  type_again : (t : TypeExpr) → SameAgain (again_type g t)
  type_again =
      all_trees (again_type g) (again_field g) (λ t f. SameAgain f) (λ d f. SameAgain f) (type_layer g) (field_layer g)
      (again_at g) (again_fields_at g) layer_again list_again

  -- ---- declarations

  constant_again : (s : Scope g.Reported) (st : St) (c : Constant)
      → again_constant g (moved_scope z s) st c ≡ again_constant g s st c
  constant_again s st c =
      ap (λ (p : St). (p.0, passed (moved_scope z s) p.1 c.name)) (value_again s c.value st)
      ∙ passed_again s (again_value g s c.value st) c.name

  declared_again : (s : Scope g.Reported) (st : St) (d : TypeDecl)
      → again_declared g (moved_scope z s) st d ≡ again_declared g s st d
  declared_again s st d =
      ap (again_type g d.of (moved_scope z s)) (passed_again s st d.name)
      ∙ type_again d.of s (st.0, passed s st.1 d.name)

  variables_again : (s : Scope g.Reported) (st : St) (v : Variables)
      → again_variables g (moved_scope z s) st v ≡ again_variables g s st v
  variables_again s st v =
      ap (again_type g v.of (moved_scope z s)) (names_again s st v.names)
      ∙ type_again v.of s (st.0, all_passed s st.1 v.names)

  pub constants_again : (s : Scope g.Reported) (st : St) (cs : List Constant)
      → fold (again_constant g (moved_scope z s)) st cs ≡ fold (again_constant g s) st cs
  constants_again s st cs =
      same_fold (again_constant g s) (again_constant g (moved_scope z s)) (constant_again s) st cs

  pub types_again : (s : Scope g.Reported) (st : St) (ts : List TypeDecl)
      → fold (again_declared g (moved_scope z s)) st ts ≡ fold (again_declared g s) st ts
  types_again s st ts = same_fold (again_declared g s) (again_declared g (moved_scope z s)) (declared_again s) st ts

  pub lists_again : (s : Scope g.Reported) (st : St) (vs : List Variables)
      → fold (again_variables g (moved_scope z s)) st vs ≡ fold (again_variables g s) st vs
  lists_again s st vs = same_fold (again_variables g s) (again_variables g (moved_scope z s)) (variables_again s) st vs

  def_again : (s : Scope g.Reported) (st : St) (d : Def) → again_def g (moved_scope z s) st d ≡ again_def g s st d
  def_again s st (def.Constants cs) = constants_again s st cs
  def_again s st (def.Types ts) = types_again s st ts
  def_again s st (def.Variables vs) = lists_again s st vs
  def_again s st (def.Procedure h) = passed_again s st h.name

  pub defs_again : (s : Scope g.Reported) (st : St) (ds : List Def)
      → fold (again_def g (moved_scope z s)) st ds ≡ fold (again_def g s) st ds
  defs_again s st ds = same_fold (again_def g s) (again_def g (moved_scope z s)) (def_again s) st ds
