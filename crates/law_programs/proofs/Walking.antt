-- Whole bodies: what the declarations of a block carry on stays in the bodies of its procedures.
use Rattle.std.proofs.Common.{◌≡◌, ℕ, ◌==◌, Bool, true, false, cond, List, [], ◌∷◌, ◌++◌, length, Option, Some, None, Result, sym, subst}
use Rattle.std.specs.Prelude.{map, slice_get}
use Rattle.std.specs.List.{AllByRecursion, fold}
use Rattle.std.specs.Option.{unwrap_or}
use Rattle.m2_rule.specs.declared.rule.Rule.TheVariants as rule
use Rattle.m2_tree.specs.declared.stmt.Stmt.{Stmt}
use Rattle.m2_tree.specs.declared.decl.Heading.{Heading}
use Rattle.m2_tree.specs.declared.decl.Module.{Module}
use Rattle.m2_tree.specs.declared.decl.Contents.{Contents}
use Rattle.m2_tree.specs.declared.decl.Contents.TheVariants as contents
use Rattle.m2_tree.specs.declared.decl.Decl.{Decl, Decl-F}
use Rattle.m2_tree.specs.declared.decl.Decl.TheOpen as layer
use Rattle.m2_tree.specs.declared.decl.Block.{Block, out-Block}
use Rattle.typed_tree.specs.declared.shape.Made.{Made}
use Rattle.typed_tree.specs.declared.shape.Shape.{Shape}
use Rattle.typed_tree.specs.declared.shape.Shape.TheVariants as shape
use Rattle.typed_tree.specs.declared.table.ModuleTypes.{ModuleTypes}
use Rattle.typed_tree.specs.declared.table.Table.{Table}
use Rattle.typed_tree.specs.declared.known_types.Types.{Types}
use Rattle.typed_tree.specs.declared.typed_module.TypedModule.{TypedModule}
use Rattle.typed_tree.specs.declared.typed_module.Which.{Which}
use Rattle.typed_tree.specs.declared.types.TypeNo.{TypeNo}
use Rattle.check_scope.specs.Elaborated.{Gathers}
use Rattle.check_scope.specs.declared.scope.Scope.{Scope}
use Rattle.check_definition.specs.Predeclared.{console, others_of, first_scope}
use Rattle.check_definition.specs.Importing.{numbered_modules}
use Rattle.check_block.specs.Nesting.{procedure_ends}
use Rattle.check_block.specs.Declarations.{Declared, all_declared, declared_block, declared_module}
use Rattle.check_body.specs.Own.{shape_copy, made_copy, types_made_in, implementation_scope}
use Rattle.check_body.specs.declared.procedure.Walk.{Walk}
use Rattle.check_body.specs.Elaborating.{Elaborates}
use Rattle.check_body.specs.Inside.{which_of, begun_procedure}
use Rattle.check_body.specs.Bodies.{ChecksBlock, Steps, marked_by, declared_by, again_by, checked_by, with_body, begun_from, procedure_checked, steps_layer, block_layer, steps, checks_block, checks_decl}
use Rattle.check_body.specs.Checked.{walk_body, of_body, of_contents, body_module}
use Rattle.law_well_formed.proofs.BodyFolds.{OfDecl, OfBlock, bare, opened, declared_same, all_decls as all_steps_by}
use Rattle.law_well_formed.specs.Formed.{Holds, fine}
use Rattle.law_well_formed.proofs.Basics.{then_holds, reported_holds, any_holds}
use Rattle.law_programs.specs.Carried.{ShapeIndexed, AllIndexed, TypesIndexed, TablesElsewhere, ReachedIndexed, TablesIndexed, implementation_types, BodyBegins}
use Rattle.law_programs.proofs.Declaring.{block_carries, module_carries_on}
use Rattle.law_programs.proofs.Reaching.{table_reach, tables_indexed}

module _ (g : Gathers) (elaborates : Elaborates g.Reported) (ends : List ℕ) where
  -- the types of a walk
  abbrev WalkIndexed : Walk g.Reported → Type 0
  WalkIndexed w = TypesIndexed w.scope.types

  abbrev CheckIndexed : (ℕ → Walk g.Reported → Walk g.Reported) → Type 0
  CheckIndexed f = (seen : ℕ) (w : Walk g.Reported) → WalkIndexed w → WalkIndexed (f seen w)

  abbrev StepIndexed : Steps g.Reported → Type 0
  StepIndexed x = (around : Option Which) → CheckIndexed (checked_by x around)

  abbrev BlockIndexed : ChecksBlock g.Reported → Type 0
  BlockIndexed block = (around : Option Which) (returns : Option (Result TypeNo g.Reported)) (w : Walk g.Reported)
      → WalkIndexed w → WalkIndexed (block around returns w).0

  -- ---- procedures

  procedure_indexed : (h : Heading) (block : ChecksBlock g.Reported) → BlockIndexed block → (around : Option Which)
      → CheckIndexed (procedure_checked g elaborates ends h block around)
  procedure_indexed h block f around seen w p = let b = begun_procedure g w seen h in
      f (which_of b.1.procedure) b.1.returns b.0 p

  bodies_indexed : {X : Type 0} (checks : X → ℕ → Walk g.Reported → Walk g.Reported) (seen : List ℕ) (xs : List X)
      → AllByRecursion (λ x. CheckIndexed (checks x)) xs → (st : Walk g.Reported × ℕ) → WalkIndexed st.0
      → WalkIndexed (fold (with_body checks seen) st xs).0
  bodies_indexed checks seen [] h st p = p
  bodies_indexed checks seen (x ∷ xs) h st p =
      bodies_indexed checks seen xs h.1 (with_body checks seen st x) (h.0 (unwrap_or (slice_get seen st.1) 0) st.0 p)

  -- ---- steps as declarations

  abbrev steps_of : Decl → Steps g.Reported
  steps_of = steps g elaborates ends

  abbrev block_of : Block → ChecksBlock g.Reported
  block_of = checks_block g elaborates ends

  -- ---- blocks, by induction

  abbrev SD : Type 0
  SD = OfDecl g elaborates ends (λ d x. StepIndexed x) (λ b c. BlockIndexed c)

  abbrev SB : Type 0
  SB = OfBlock g elaborates ends (λ d x. StepIndexed x) (λ b c. BlockIndexed c)

  abbrev stripped : Decl-F SD SB → Decl-F Decl Block
  stripped y = bare g elaborates ends (λ d x. StepIndexed x) (λ b c. BlockIndexed c) y

  abbrev decls_of : List SD → List Decl
  decls_of xs = map (λ (x : SD). x.0) xs

  all_steps : (xs : List SD) (around : Option Which)
      → AllByRecursion (λ x. CheckIndexed (checked_by x around)) (map steps_of (decls_of xs))
  all_steps [] around = tt
  all_steps (x ∷ xs) around = (x.1 around, all_steps xs around)

  block_indexed : (xs : List SD) (body : Option (List Stmt))
      → BlockIndexed (block_layer g elaborates ends (record { decls = map steps_of (decls_of xs); body = body }))
  block_indexed xs body around returns w p =
      let first : ℕ = length w.bodies.locals in
      let ys : List (Steps g.Reported) = map steps_of (decls_of xs) in
      let d : Declared g.Reported = all_declared marked_by declared_by again_by (w.scope, w.so_far) first ys in
      let is : d ≡ declared_block g ends (w.scope, w.so_far) first (decls_of xs) =
      declared_same g elaborates ends (decls_of xs) (w.scope, w.so_far) first in
      let start : WalkIndexed (begun_from d w.bodies) =
      subst (λ (d : Declared g.Reported). WalkIndexed (begun_from d w.bodies)) (sym is)
      (let c = block_carries g ends (w.scope, w.so_far) first (decls_of xs) in c.indexed p) in
      bodies_indexed (λ (x : Steps g.Reported). checked_by x around) d.2 ys (all_steps xs around)
      (begun_from d w.bodies, 0) start

  step_at : (y : Decl-F SD SB) → StepIndexed (steps_layer g elaborates ends (opened g elaborates ends (stripped y)))
  step_at (layer.Constants cs) = λ around seen w p. p
  step_at (layer.Types ts) = λ around seen w p. p
  step_at (layer.Variables vs) = λ around seen w p. p
  step_at (layer.Procedure h b) = λ around seen w p. procedure_indexed h (block_of b.0) b.1 around seen w p

  decl_indexed : (d : Decl) → StepIndexed (steps_of d)
  decl_indexed =
      all_steps_by g elaborates ends (λ d x. StepIndexed x) (λ b c. BlockIndexed c) step_at
      (λ y. block_indexed y.decls y.body)

  -- ---- modules

  all_decls : (ds : List Decl) (around : Option Which)
      → AllByRecursion (λ d. CheckIndexed (checks_decl g elaborates ends d around)) ds
  all_decls [] around = tt
  all_decls (d ∷ ds) around = (decl_indexed d around, all_decls ds around)

  walked_indexed : (modules : List (List ℕ × ℕ)) (s : Scope g.Reported) (m : Module) (b : Block)
      → TablesElsewhere s.types.home s.tables → TypesIndexed s.types
      → WalkIndexed (walk_body g elaborates modules ends s m b).0
  walked_indexed modules s m b e p =
      let ds : List Decl = (out-Block b).decls in
      let d : Declared g.Reported = declared_module g modules ends s m ds in
      bodies_indexed (λ (x : Decl). checks_decl g elaborates ends x None) d.2 ds (all_decls ds None) (_, 0)
      (let c = module_carries_on g modules ends s m ds e in c.indexed p)

module _ (g : Gathers) (elaborates : Elaborates g.Reported) where
  abbrev ModuleIndexed : TypedModule → Type 0
  ModuleIndexed t = TypesIndexed t.types

  body_indexed : (s : Scope g.Reported) (own : Option Table) (m : Module) (b : Block)
      → TablesElsewhere s.types.home s.tables → TypesIndexed s.types
      → Holds ModuleIndexed (of_body g elaborates s own m b)
  body_indexed s own m b e p = then_holds (any_holds _)
      (λ x k. fine _ (walked_indexed g elaborates (procedure_ends (out-Block b).decls) (numbered_modules s.tables).0 s m
      b e p))

  contents_indexed : (number : ℕ) (m : Module) (own : Option Table) (ts : List Table) (c : Contents)
      → BodyBegins number own ts c → Holds ModuleIndexed (of_contents g elaborates number m own ts c)
  contents_indexed number m own ts (contents.Definition ds) p = reported_holds g m.name.pos rule.LonelyModule
  contents_indexed number m None ts (contents.Implementation b) p = reported_holds g m.name.pos rule.LonelyModule
  contents_indexed number m (Some t) ts (contents.Implementation b) p =
      body_indexed (implementation_scope t ts) (Some t) m b p.1 p.0
  contents_indexed number m own ts (contents.Program b) p = body_indexed (first_scope number ts) None m b p.1 p.0

  pub checked_indexed : (number : ℕ) (m : Module) (own : Option Table) (ts : List Table)
      → BodyBegins number own (ts ++ console ∷ []) m.contents
      → Holds ModuleIndexed (body_module g elaborates number m own ts)
  checked_indexed number m own ts p = contents_indexed number m own (ts ++ console ∷ []) m.contents p

-- ---- where an implementation begins

module _ (types : Types) where
  copy_indexed : (s : Shape) → ShapeIndexed types s → ShapeIndexed types (shape_copy s)
  copy_indexed (shape.Array i e) p = p
  copy_indexed (shape.Scalar r) p = tt
  copy_indexed shape.Set p = tt
  copy_indexed (shape.Record fs) p = tt
  copy_indexed (shape.Procedure h) p = tt
  copy_indexed (shape.Open e) p = tt

  copies_indexed : (ms : List Made) → AllIndexed types ms → AllIndexed types (map made_copy ms)
  copies_indexed [] p = tt
  copies_indexed (m ∷ ms) p = (copy_indexed m.shape p.0, copies_indexed ms p.1)

  made_in_by : (b : Bool) (xs ys : List Made) → AllIndexed types xs → AllIndexed types ys
      → AllIndexed types (cond b xs ys)
  made_in_by true xs ys p q = p
  made_in_by false xs ys p q = q

  made_in_indexed : (home : ℕ) (ms : List ModuleTypes) → ReachedIndexed types ms
      → AllIndexed types (types_made_in home ms)
  made_in_indexed home [] p = tt
  made_in_indexed home (m ∷ ms) p = made_in_by (m.number == home) m.made (types_made_in home ms) p.0
      (made_in_indexed home ms p.1)

pub implementation_indexed : (own : Table) (tables : List Table)
    → ReachedIndexed (implementation_types own tables) own.reached
    → TablesIndexed (implementation_types own tables) tables → TypesIndexed (implementation_types own tables)
implementation_indexed own tables p q =
    let types : Types = implementation_types own tables in
    record {
      own = copies_indexed types (types_made_in own.number own.reached)
          (made_in_indexed types own.number own.reached p);
      others = table_reach types own.reached (others_of tables) p (tables_indexed types tables q);
    }
