-- What the one proof says in each of the three ways.
use Rattle.std.proofs.Common.{◌≡◌, ℕ, ◌+◌, ◌≤◌, List, [], ◌∷◌, Option, None, Result, refl, arith}
use Rattle.std.specs.Prelude.{◌-◌}
use Rattle.m2_tree.specs.declared.expr.Expr.{Expr}
use Rattle.m2_tree.specs.declared.expr.Designator.{Designator}
use Rattle.m2_tree.specs.declared.stmt.Stmt.{Stmt}
use Rattle.m2_tree.specs.declared.decl.Decl.{Decl}
use Rattle.m2_tree.specs.declared.decl.Module.{Module}
use Rattle.typed_tree.specs.declared.table.Table.{Table}
use Rattle.typed_tree.specs.declared.types.TypeNo.{TypeNo}
use Rattle.typed_tree.specs.declared.statement.TypedStmt.{TypedStmt}
use Rattle.check_value.specs.declared.computed.Computed.{Computed}
use Rattle.check_value.specs.declared.computed.Computed.TheVariants as value
use Rattle.check_value.specs.declared.computed.Designated.{Designated}
use Rattle.check_value.specs.declared.computed.Designated.TheVariants as designated
use Rattle.check_scope.specs.Elaborated.{Gathers}
use Rattle.check_scope.specs.declared.scope.Scope.{Scope}
use Rattle.check_expr.specs.Meanings.{meanings_of, head}
use Rattle.check_stmt_parts.specs.declared.around.Around.{Around}
use Rattle.check_stmt.specs.Statements.{statements}
use Rattle.check_body.specs.Bodies.{bodies_checked}
use Rattle.check_body.specs.Checked.{begun_module}
use Rattle.check_body.specs.Checks.{body_module, elaborate_body}
use Rattle.check_body.specs.Elaborating.{Elaborates, statements_of}
use Rattle.law_encoding.specs.Sizes.{size_expr, size_designator, size_stmts, size_module}
use Rattle.law_encoding.specs.Nesting.{◌⊔◌, deepest_of, depth_stmts, depth_module}
use Rattle.law_encoding.specs.TypedSizes.{size_body, size_bodies}
use Rattle.law_encoding.specs.TypedNesting.{depth_body, depth_bodies}
use Rattle.law_encoding.specs.Outward.{outward_body}
use Rattle.law_encoding.specs.OutwardMeant.{outward_value, outward_designated}
use Rattle.law_encoding.specs.Short.{beyond_routine, beyond_routines}
use Rattle.law_encoding.specs.Counted.{AtMost, size_value, size_designated}
use Rattle.law_encoding.proofs.Ways.{by_size, by_depth, by_distance, weight_value, weight_meant}
use Rattle.law_encoding.proofs.Results.{at_more, at_mapped}
use Rattle.law_encoding.proofs.Meanings.{meant_most, head_most}
use Rattle.law_encoding.proofs.Statements.{statements_most}
use Rattle.law_encoding.proofs.Blocks as blocks

-- ---- what expressions mean

value_size : (x : Computed) → size_value x ≡ weight_value by_size x
value_size (value.Constant v) = refl
value_size (value.Scalar t b e) = refl
value_size (value.Set e) = refl
value_size (value.Routine t e) = refl
value_size (value.Procedure f) = refl
value_size (value.Whole t d) = refl
value_size value.Untaken = refl

meant_size : (x : Designated) → size_designated x ≡ weight_meant by_size x
meant_size (designated.Value x) = value_size x
meant_size (designated.Variable t d) = refl
meant_size (designated.Open t slot) = refl
meant_size (designated.Type t) = refl
meant_size (designated.Procedure f) = refl
meant_size (designated.Nested f) = refl
meant_size (designated.Standard f) = refl
meant_size (designated.Module k) = refl

value_far : (level : ℕ) (x : Computed) → outward_value x ≤ weight_value (by_distance level) x
value_far level (value.Constant v) = omega arith
value_far level (value.Scalar t b e) = omega arith
value_far level (value.Set e) = omega arith
value_far level (value.Routine t e) = omega arith
value_far level (value.Procedure f) = omega arith
value_far level (value.Whole t d) = omega arith
value_far level value.Untaken = omega arith

meant_far : (level : ℕ) (x : Designated) → outward_designated x ≤ weight_meant (by_distance level) x
meant_far level (designated.Value x) = value_far level x
meant_far level (designated.Variable t d) = omega arith
meant_far level (designated.Open t slot) = omega arith
meant_far level (designated.Type t) = omega arith
meant_far level (designated.Procedure f) = omega arith
meant_far level (designated.Nested f) = omega arith
meant_far level (designated.Standard f) = omega arith
meant_far level (designated.Module k) = omega arith

as_far : {A : Type 0} (level : ℕ) (xs : List A) → deepest_of (λ (x : A). level) xs ≤ level
as_far level [] = omega arith
as_far level (x ∷ xs) = omega (arith, as_far level xs)

module _ (g : Gathers) where
  pub meanings_small : (s : Scope g.Reported) (e : Expr)
      → AtMost size_designated (size_expr e) ((meanings_of g e).means s)
  meanings_small s e = at_mapped (λ x l. omega (arith, l, meant_size x)) (meant_most by_size g s tt e)

  pub heads_small : (s : Scope g.Reported) (d : Designator)
      → AtMost size_designated (1 + size_designator d) ((head g d).means s)
  heads_small s d = at_mapped (λ x l. omega (arith, l, meant_size x)) (head_most by_size g s tt d)

  pub meanings_near : (s : Scope g.Reported) (e : Expr) → AtMost outward_designated s.level ((meanings_of g e).means s)
  meanings_near s e =
      at_mapped (λ x l. omega (arith, l, meant_far s.level x)) (meant_most (by_distance s.level) g s (omega arith) e)

  -- ---- statements

  pub statements_small : (s : Scope g.Reported) (a : Around g.Reported) (xs : List Stmt)
      → AtMost size_body (size_stmts xs) (statements g s a xs)
  statements_small s a xs = statements_most by_size g s a tt xs

  pub statements_shallow : (s : Scope g.Reported) (a : Around g.Reported) (xs : List Stmt)
      → AtMost depth_body (depth_stmts xs) (statements g s a xs)
  statements_shallow s a xs = statements_most by_depth g s a tt xs

  pub statements_near : (s : Scope g.Reported) (a : Around g.Reported) (xs : List Stmt)
      → AtMost outward_body s.level (statements g s a xs)
  statements_near s a xs = at_more (as_far s.level xs) (statements_most (by_distance s.level) g s a (omega arith) xs)

  -- ---- modules

  pub modules_small : (number : ℕ) (m : Module) (own : Option Table) (tables : List Table)
      → AtMost size_bodies (size_module m) (body_module g number m own tables)
  modules_small = blocks.module_most by_size g (elaborate_body g) (λ s r xs. statements_small s _ xs)

  pub modules_shallow : (number : ℕ) (m : Module) (own : Option Table) (tables : List Table)
      → AtMost depth_bodies (depth_module m) (body_module g number m own tables)
  modules_shallow = blocks.module_most by_depth g (elaborate_body g) (λ s r xs. statements_shallow s _ xs)

  module _ (elaborates : Elaborates g.Reported) (near : (s : Scope g.Reported) (r : Option (Result TypeNo g.Reported))
      (xs : List Stmt) → AtMost outward_body s.level (elaborates s r xs)) where
    -- how much further outwards than it stands deep
    beyond : (s : Scope g.Reported) (r : Option (Result TypeNo g.Reported)) (xs : List Stmt)
        → AtMost (λ (xs : List TypedStmt). outward_body xs - s.level) 0 (elaborates s r xs)
    beyond s r xs = at_mapped (λ x l. omega (arith, l)) (near s r xs)

    pub body_near : (s : Scope g.Reported) (r : Option (Result TypeNo g.Reported)) (body : Option (List Stmt))
        → AtMost outward_body s.level (statements_of elaborates s r body)
    body_near s r body =
        at_mapped (λ x l. omega (arith, l)) (blocks.statements_most (by_distance 0) g elaborates beyond s r body)

    pub walked_near : (ends : List ℕ) (modules : List (List ℕ × ℕ)) (s : Scope g.Reported) (m : Module) (ds : List Decl)
        → let w = begun_module g modules ends s m ds in
        let rs = (bodies_checked g elaborates ends None w.1 w.0 ds).bodies in
        deepest_of beyond_routine rs.procedures ⊔ deepest_of beyond_routine rs.locals ≤ 0
    walked_near ends modules s m ds =
        omega (arith, blocks.walked_bodies (by_distance 0) g elaborates beyond ends modules s m ds, as_far 0 ds)

  pub modules_near : (number : ℕ) (m : Module) (own : Option Table) (tables : List Table)
      → AtMost beyond_routines 0 (body_module g number m own tables)
  modules_near = blocks.module_most (by_distance 0) g (elaborate_body g)
      (beyond (elaborate_body g) (λ s r xs. statements_near s _ xs))
