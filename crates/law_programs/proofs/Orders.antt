-- The order of bodies: each procedure stands in it, or its body is empty.
use Rattle.std.proofs.Common.{◌≡◌, ◌⊎◌, inl, inr, ℕ, zero, suc, ◌==◌, Bool, true, false, ◌||◌, cond, List, [], ◌∷◌, ◌++◌, map, Option, Some, None, Result, Ok, Err, refl, sym, ap, subst, ◌∙◌}
use Rattle.std.specs.Prelude.{slice_get, slice_set}
use Rattle.std.specs.List.{fold, list_any}
use Rattle.std.proofs.lemmas.Bool.{or_left, or_right, eq-eqb}
use Rattle.std.proofs.lemmas.List.Folds.{list_any-append}
use Rattle.std.proofs.lemmas.Option.{same_Some}
use Rattle.m2_rule.specs.declared.rule.Rule.TheVariants as rule
use Rattle.m2_tree.specs.declared.name.Ident.{Ident}
use Rattle.m2_tree.specs.declared.stmt.Stmt.{Stmt}
use Rattle.m2_tree.specs.declared.decl.Heading.{Heading}
use Rattle.m2_tree.specs.declared.decl.Decl.{Decl, Decl-F}
use Rattle.m2_tree.specs.declared.decl.Decl.TheOpen as layer
use Rattle.m2_tree.specs.declared.decl.Block.{Block, out-Block}
use Rattle.m2_tree.specs.declared.decl.Contents.{Contents}
use Rattle.m2_tree.specs.declared.decl.Contents.TheVariants as contents
use Rattle.m2_tree.specs.declared.decl.Module.{Module}
use Rattle.typed_tree.specs.declared.statement.TypedStmt.{TypedStmt}
use Rattle.typed_tree.specs.declared.table.Table.{Table}
use Rattle.typed_tree.specs.declared.typed_module.Routine.{Routine}
use Rattle.typed_tree.specs.declared.typed_module.TypedModule.{TypedModule}
use Rattle.typed_tree.specs.declared.typed_module.Which.{Which}
use Rattle.typed_tree.specs.declared.typed_module.Which.TheVariants as which
use Rattle.typed_tree.specs.declared.types.TypeNo.{TypeNo}
use Rattle.typed_tree.specs.Types.{integer}
use Rattle.check_scope.specs.Elaborated.{Gathers, both, ◌▷◌}
use Rattle.check_scope.specs.declared.scope.Scope.{Scope}
use Rattle.layout_storage.specs.Texts.{is_which}
use Rattle.check_definition.specs.Predeclared.{console, first_scope}
use Rattle.check_definition.specs.Importing.{numbered_modules}
use Rattle.check_block.specs.Nesting.{procedure_ends}
use Rattle.check_body.specs.declared.routine.Bodies.{Bodies}
use Rattle.check_body.specs.declared.routine.Numbered.{Numbered}
use Rattle.check_body.specs.Own.{implementation_scope}
use Rattle.check_body.specs.Routines.{empty_routine, no_bodies, put_routine, routine, typed_module}
use Rattle.check_body.specs.declared.procedure.Walk.{Walk}
use Rattle.check_body.specs.Elaborating.{Elaborates}
use Rattle.check_body.specs.Inside.{which_of, begun_procedure, with_routine}
use Rattle.check_body.specs.Bodies.{Checked, Checks, ChecksBlock, Steps, checked_by, with_body, procedure_checked, steps_layer, block_layer, steps, checks_block, checks_decl}
use Rattle.check_body.specs.Checked.{begun_module, module_or, walk_body, of_body, of_implementation, of_contents}
use Rattle.check_body.specs.Checks.{elaborate_body, body_module}
use Rattle.law_well_formed.proofs.BodyFolds.{OfDecl, OfBlock, bare, opened, all_decls}
use Rattle.law_well_formed.specs.Formed.{Holds, fine, broken}
use Rattle.law_well_formed.proofs.Basics.{reported_holds}
use Rattle.law_well_formed.proofs.Places.{set_other}
use Rattle.law_programs.specs.TypingWants.{AreOrdered}

-- ---- one procedure

-- it stands in the order, or its body is empty
abbrev Stands : List Which → Which → Routine → Type 0
Stands order w r = (list_any (is_which w) order ≡ true) ⊎ (r.body ≡ [])

-- all of a list do
abbrev AllStand : List Which → (ℕ → Which) → List Routine → Type 0
AllStand order which_is rs = (n : ℕ) (r : Routine) → slice_get rs n ≡ Some r → Stands order (which_is n) r

-- all procedures do
abbrev BodiesStand : Bodies → Type 0
BodiesStand rs = AllStand rs.order which.Module rs.procedures × AllStand rs.order which.Local rs.locals

-- more of them stand in a longer order
stands_on : (order more : List Which) (w : Which) (r : Routine) → Stands order w r → Stands (order ++ more) w r
stands_on order more w r (inl e) = inl (list_any-append (is_which w) order more
    ∙ or_left (list_any (is_which w) order) (list_any (is_which w) more) e)
stands_on order more w r (inr e) = inr e

-- the last one stands in it
stands_last : (order : List Which) (w v : Which) (r : Routine) → is_which w v ≡ true → Stands (order ++ v ∷ []) w r
stands_last order w v r e =
    inl (list_any-append (is_which w) order (v ∷ [])
    ∙ or_right (list_any (is_which w) order) (is_which w v || false) (or_left (is_which w v) false e))

all_on : (order more : List Which) (which_is : ℕ → Which) (rs : List Routine) → AllStand order which_is rs
    → AllStand (order ++ more) which_is rs
all_on order more which_is rs all n r e = stands_on order more (which_is n) r (all n r e)

-- where one gets its body, it stands last
all_set : (order : List Which) (which_is : ℕ → Which) → ((n k : ℕ) → is_which (which_is n) (which_is k) ≡ (n == k))
    → (rs : List Routine) (k : ℕ) (x : Routine) → AllStand order which_is rs
    → AllStand (order ++ which_is k ∷ []) which_is (slice_set rs k x)
all_set order which_is same rs k x all n r e = by (n == k) refl where
  by : (b : Bool) → (n == k) ≡ b → Stands (order ++ which_is k ∷ []) (which_is n) r
  by true z = stands_last order (which_is n) (which_is k) r (same n k ∙ z)
  by false z = stands_on order (which_is k ∷ []) (which_is n) r
      (all n r (sym (set_other rs k n x (λ y. absurd (apart (eq-eqb n k y)))) ∙ e)) where
        apart : (n == k) ≡ true → ⊥
        apart y = cc (y, z)

-- one whose body is empty may stand behind them
all_push : (order : List Which) (which_is : ℕ → Which) (x : Routine) → x.body ≡ [] → (rs : List Routine)
    → AllStand order which_is rs → AllStand order which_is (rs ++ x ∷ [])
all_push order which_is x empty [] all zero r e = inr (ap (λ (y : Routine). y.body) (sym (same_Some x r e)) ∙ empty)
all_push order which_is x empty [] all (suc n) r e = absurd cc
all_push order which_is x empty (y ∷ rs) all zero r e = all zero r e
all_push order which_is x empty (y ∷ rs) all (suc n) r e =
    all_push order (λ k. which_is (suc k)) x empty rs (λ k q z. all (suc k) q z) n r e

all_unfilled : (order : List Which) (which_is : ℕ → Which) (hs : List TypeNo)
    → AllStand order which_is (map empty_routine hs)
all_unfilled order which_is [] n r e = absurd cc
all_unfilled order which_is (h ∷ hs) zero r e =
    inr (ap (λ (y : Routine). y.body) (sym (same_Some (empty_routine h) r e)))
all_unfilled order which_is (h ∷ hs) (suc n) r e = all_unfilled order (λ k. which_is (suc k)) hs n r e

-- ---- what becomes of the procedures in a walk

no_bodies_stand : (hs : List TypeNo) → BodiesStand (no_bodies hs)
no_bodies_stand hs = (all_unfilled [] which.Module hs, λ n r e. absurd cc)

begun_stand : (b : Bool) (rs : Bodies) → BodiesStand rs
    → BodiesStand (cond b rs (record rs { locals = rs.locals ++ empty_routine integer ∷ [] }))
begun_stand true rs all = all
begun_stand false rs all = (all.0, all_push rs.order which.Local (empty_routine integer) refl rs.locals all.1)

filled_stand : (rs : Bodies) (w : Which) (r : Routine) → BodiesStand rs → BodiesStand (put_routine rs w r)
filled_stand rs (which.Module k) r all = (
  all_set rs.order which.Module (λ n i. refl) rs.procedures k r all.0,
  all_on rs.order (which.Module k ∷ [])
      which.Local rs.locals all.1,
)
filled_stand rs (which.Local k) r all = (
  all_on rs.order (which.Local k ∷ []) which.Module rs.procedures all.0,
  all_set
      rs.order which.Local (λ n i. refl) rs.locals k r all.1,
)

routine_stands : {T : Type 0} (s : Scope T) (name : Ident) (around : Option Which) (n : ℕ) (p : Option Numbered)
    (xs : Result (List TypedStmt) T) (rs : Bodies)
    → BodiesStand rs → BodiesStand (with_routine s name around n p xs rs)
routine_stands s name around n None xs rs all = all
routine_stands s name around n (Some p) (Ok ys) rs all = filled_stand rs p.which (routine s name p around n ys) all
routine_stands s name around n (Some p) (Err e) rs all = all

-- ---- procedures in procedures

-- the procedures stand in the order behind it, where they do before it
abbrev Orders : {T : Type 0} → Checks T → Type 0
Orders {T} checks = (around : Option Which) (seen : ℕ) (w : Walk T) → BodiesStand w.bodies
    → BodiesStand (checks around seen w).bodies

abbrev OrdersBlock : {T : Type 0} → ChecksBlock T → Type 0
OrdersBlock {T} block = (around : Option Which) (returns : Option (Result TypeNo T)) (w : Walk T) → BodiesStand w.bodies
    → BodiesStand (block around returns w).0.bodies

module _ {T X : Type 0} (checks : X → Checks T) where
  abbrev EachOrders : List X → Type 0
  EachOrders [] = Unit {0}
  EachOrders (x ∷ xs) = Orders (checks x) × EachOrders xs

  fold_orders : (around : Option Which) (seen : List ℕ) (xs : List X) → EachOrders xs → (st : Walk T × ℕ)
      → BodiesStand st.0.bodies
      → BodiesStand (fold (with_body (λ (x : X). checks x around) seen) st xs).0.bodies
  fold_orders around seen [] each st all = all
  fold_orders around seen (x ∷ xs) each st all =
      fold_orders around seen xs each.1 (with_body (λ (y : X). checks y around) seen st x) (each.0 around _ st.0 all)

module _ (g : Gathers) (elaborates : Elaborates g.Reported) (ends : List ℕ) where
  procedure_orders : (h : Heading) (block : ChecksBlock g.Reported) → OrdersBlock block
      → Orders (procedure_checked g elaborates ends h block)
  procedure_orders h block k around seen w all =
      let b = begun_procedure g w seen h in
      let e = block (which_of b.1.procedure) b.1.returns b.0 in
      routine_stands e.0.scope h.name around b.1.formals b.1.procedure e.1 e.0.bodies
      (k (which_of b.1.procedure) b.1.returns b.0 (begun_stand _ w.bodies all))

  abbrev steps_of : Decl → Steps g.Reported
  steps_of = steps g elaborates ends

  abbrev block_of : Block → ChecksBlock g.Reported
  block_of = checks_block g elaborates ends

  abbrev SD : Type 0
  SD = OfDecl g elaborates ends (λ d x. Orders x.checks) (λ b c. OrdersBlock c)

  abbrev SB : Type 0
  SB = OfBlock g elaborates ends (λ d x. Orders x.checks) (λ b c. OrdersBlock c)

  abbrev stripped : Decl-F SD SB → Decl-F Decl Block
  stripped y = bare g elaborates ends (λ d x. Orders x.checks) (λ b c. OrdersBlock c) y

  each_of : (xs : List SD) → EachOrders checked_by (map steps_of (map (λ (x : SD). x.0) xs))
  each_of [] = tt
  each_of (x ∷ xs) = (x.1, each_of xs)

  step_at : (y : Decl-F SD SB) → Orders (steps_layer g elaborates ends (opened g elaborates ends (stripped y))).checks
  step_at (layer.Constants cs) = λ around seen w all. all
  step_at (layer.Types ts) = λ around seen w all. all
  step_at (layer.Variables vs) = λ around seen w all. all
  step_at (layer.Procedure h b) = procedure_orders h (block_of b.0) b.1

  block_at : (xs : List SD) (body : Option (List Stmt))
      → OrdersBlock (block_layer g elaborates ends
      (record { decls = map steps_of (map (λ (x : SD). x.0) xs); body = body }))
  block_at xs body around returns w all =
      fold_orders checked_by around _ (map steps_of (map (λ (x : SD). x.0) xs)) (each_of xs) _ all

  decls_order : (d : Decl) → Orders (steps_of d).checks
  decls_order =
      all_decls g elaborates ends (λ d x. Orders x.checks) (λ b c. OrdersBlock c) step_at (λ y. block_at y.decls y.body)

  each_decl : (ds : List Decl) → EachOrders (checks_decl g elaborates ends) ds
  each_decl [] = tt
  each_decl (d ∷ ds) = (decls_order d, each_decl ds)

-- ---- modules

both_ordered : (g : Gathers) (a : Result (Unit {0}) g.Reported) (r : Result (List TypedStmt) g.Reported)
    (f : List TypedStmt → TypedModule) → ((ys : List TypedStmt) → AreOrdered (f ys))
    → Holds AreOrdered (both g a r ▷ λ p. Ok (f p.1))
both_ordered g (Ok u) (Ok ys) f k = fine (f ys) (k ys)
both_ordered g (Ok u) (Err e) f k = broken e
both_ordered g (Err e) (Ok ys) f k = broken e
both_ordered g (Err e) (Err x) f k = broken (g.join e x)

-- a module with these procedures, in this order
ordered_of : (m : TypedModule) (rs : Bodies) → m.procedures ≡ rs.procedures → m.locals ≡ rs.locals → m.order ≡ rs.order
    → BodiesStand rs → AreOrdered m
ordered_of m rs p q o all (which.Module n) r e =
    subst (λ (vs : List Which). Stands vs (which.Module n) r) (sym o)
    (all.0 n r (ap (λ (xs : List Routine). slice_get xs n) (sym p) ∙ e))
ordered_of m rs p q o all (which.Local n) r e =
    subst (λ (vs : List Which). Stands vs (which.Local n) r) (sym o)
    (all.1 n r (ap (λ (xs : List Routine). slice_get xs n) (sym q) ∙ e))

module _ (g : Gathers) (elaborates : Elaborates g.Reported) where
  walk_ordered : (modules : List (List ℕ × ℕ)) (ends : List ℕ) (s : Scope g.Reported) (m : Module) (b : Block)
      → BodiesStand (walk_body g elaborates modules ends s m b).0.bodies
  walk_ordered modules ends s m b =
      let w = begun_module g modules ends s m (out-Block b).decls in
      fold_orders (checks_decl g elaborates ends) None w.1 (out-Block b).decls
      (each_decl g elaborates ends (out-Block b).decls) (w.0, 0) (no_bodies_stand w.0.scope.procedures)

  result_ordered : (modules : List (List ℕ × ℕ)) (own : Option Table) (m : Module) (c : Checked g.Reported)
      → BodiesStand c.0.bodies → Holds AreOrdered (module_or g modules own m c)
  result_ordered modules own m c all =
      both_ordered g c.0.so_far c.1 (λ ys. typed_module c.0.scope modules own m c.0.bodies ys)
      (λ ys. ordered_of (typed_module c.0.scope modules own m c.0.bodies ys) c.0.bodies refl refl refl all)

  body_ordered : (s : Scope g.Reported) (own : Option Table) (m : Module) (b : Block)
      → Holds AreOrdered (of_body g elaborates s own m b)
  body_ordered s own m b =
      let modules = (numbered_modules s.tables).0 in
      let ends = procedure_ends (out-Block b).decls in
      result_ordered modules own m (walk_body g elaborates modules ends s m b) (walk_ordered modules ends s m b)

  implementation_ordered : (m : Module) (own : Option Table) (tables : List Table) (b : Block)
      → Holds AreOrdered (of_implementation g elaborates m own tables b)
  implementation_ordered m None tables b = reported_holds g m.name.pos rule.LonelyModule
  implementation_ordered m (Some t) tables b = body_ordered (implementation_scope t tables) (Some t) m b

  contents_ordered : (number : ℕ) (m : Module) (own : Option Table) (tables : List Table) (c : Contents)
      → Holds AreOrdered (of_contents g elaborates number m own tables c)
  contents_ordered number m own tables (contents.Definition defs) = reported_holds g m.name.pos rule.LonelyModule
  contents_ordered number m own tables (contents.Implementation b) = implementation_ordered m own tables b
  contents_ordered number m own tables (contents.Program b) = body_ordered (first_scope number tables) None m b

pub bodies_ordered : (g : Gathers) (number : ℕ) (m : Module) (own : Option Table) (tables : List Table)
    → Holds AreOrdered (body_module g number m own tables)
bodies_ordered g number m own tables = contents_ordered g (elaborate_body g) number m own (tables ++ console ∷ [])
    m.contents
