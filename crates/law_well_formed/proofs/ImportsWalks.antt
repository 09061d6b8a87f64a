-- Walks over bodies keep the tables of a scope, and which module it is of.
use Rattle.std.proofs.Common.{ℕ, List, [], ◌∷◌, length, Option, None, Result, Ok, refl, ◌∙◌}
use Rattle.std.specs.Prelude.{map}
use Rattle.std.specs.List.{fold}
use Rattle.m2_tree.specs.declared.stmt.Stmt.{Stmt}
use Rattle.m2_tree.specs.declared.decl.Heading.{Heading}
use Rattle.m2_tree.specs.declared.decl.Decl.{Decl, Decl-F, out-Decl}
use Rattle.m2_tree.specs.declared.decl.Decl.TheOpen as layer
use Rattle.m2_tree.specs.declared.decl.Block.{Block, out-Block}
use Rattle.m2_tree.specs.declared.decl.Module.{Module}
use Rattle.typed_tree.specs.declared.types.TypeNo.{TypeNo}
use Rattle.typed_tree.specs.declared.typed_module.Which.{Which}
use Rattle.check_scope.specs.Elaborated.{Gathers}
use Rattle.check_scope.specs.Scopes.{State}
use Rattle.check_scope.specs.declared.scope.Scope.{Scope}
use Rattle.check_definition.specs.Importing.{with_import}
use Rattle.check_block.specs.Naming.{marked_decl, with_marks, all_marked}
use Rattle.check_definition.specs.Again.{Passing}
use Rattle.check_block.specs.Declarations.{Course, decl_layer, with_decl, again_decl, all_declared, declared_module}
use Rattle.check_body.specs.declared.procedure.Walk.{Walk}
use Rattle.check_body.specs.Elaborating.{Elaborates}
use Rattle.check_body.specs.Inside.{which_of, begun_procedure}
use Rattle.check_body.specs.Bodies.{begun_from, Checks, ChecksBlock, Steps, marked_by, declared_by, again_by, checked_by, with_body, with_bodies, procedure_checked, checks_layer, steps_layer, block_layer, steps, checks_block, checks_decl}
use Rattle.check_body.specs.Checked.{begun_module, walk_body}
use Rattle.law_folds.proofs.MarkSteps.{decl_layer_marks}
use Rattle.law_folds.proofs.BlockSteps.{KeepsBlocks}
use Rattle.law_folds.proofs.BlockSteps as all_blocks
use Rattle.law_well_formed.proofs.BodyFolds.{OfDecl, OfBlock, bare, opened, all_decls}
use Rattle.law_well_formed.proofs.NamedTables.{Keeps, fold_keeps, marks, variable_type_keeps, procedure_type_keeps, definitions, import_keeps}

-- ---- declarations of blocks

module _ (g : Gathers) where
  blocks : KeepsBlocks g Keeps
  blocks = record {
    marks = marks;
    names = (definitions g).names;
    varied = variable_type_keeps;
    variable_ends = λ s name t l e. variable_type_keeps s t;
    local_ends = λ s name t l e. variable_type_keeps s t;
    procedure = λ s name t l e. procedure_type_keeps s t;
    nested = λ s name n t l e. refl;
    awaited = λ s name p e. refl;
  }

  pub layer_keeps : {A B : Type 0} (ends : List ℕ) (c : Course g.Reported) (d : Decl-F A B)
      → Keeps c.0 (decl_layer g ends c d).0
  layer_keeps = all_blocks.layer_keeps g blocks

module _ {T X : Type 0} (marks : Scope T → X → Scope T) (declares : Course T → X → Course T)
    (again : Scope T → Passing T → X → Passing T)
    (k : (s : Scope T) (x : X) → Keeps s (marks s x)) (j : (c : Course T) (x : X) → Keeps c.0 (declares c x).0) where
  pub declared_keep : (st : State (Unit {0}) T) (first : ℕ) (xs : List X)
      → Keeps st.0 (all_declared marks declares again st first xs).0
  declared_keep st first xs =
      let m = all_marked marks st.0 xs in
      fold_keeps (λ (c : Course T). c.0) declares j xs (m.0, st.1, first)
      ∙ fold_keeps (λ (w : Scope T × List ℕ). w.0) (with_marks marks) (λ w x. k w.0 x) xs (st.0, [])

pub module_keeps : (g : Gathers) (modules : List (List ℕ × ℕ)) (ends : List ℕ) (s : Scope g.Reported) (m : Module)
    (ds : List Decl) → Keeps s (declared_module g modules ends s m ds).0
module_keeps g modules ends s m ds =
    let st = fold (with_import g modules) (s, Ok tt) m.imports in
    declared_keep marked_decl (with_decl g ends) (again_decl g) (λ s d. decl_layer_marks marks (out-Decl d) s)
    (λ c d. layer_keeps g ends c (out-Decl d)) st 0 ds ∙ import_keeps g modules m.imports (s, Ok tt)

-- ---- bodies

module _ {T : Type 0} where
  abbrev KeepingChecks : Checks T → Type 0
  KeepingChecks f = (around : Option Which) (seen : ℕ) (w : Walk T) → Keeps w.scope (f around seen w).scope

  abbrev KeepingBlock : ChecksBlock T → Type 0
  KeepingBlock f = (around : Option Which) (returns : Option (Result TypeNo T)) (w : Walk T)
      → Keeps w.scope (f around returns w).0.scope

  record KeepingSteps (x : Steps T) : Type 0 where
    pub marks : (s : Scope T) → Keeps s (x.marks s)
    pub declares : (c : Course T) → Keeps c.0 (x.declares c).0
    pub checks : KeepingChecks x.checks

  abbrev AllKeep : List (Steps T) → Type 0
  AllKeep [] = Unit {0}
  AllKeep (x ∷ xs) = KeepingSteps x × AllKeep xs

  abbrev scope_of : Walk T × ℕ → Scope T
  scope_of st = st.0.scope

  bodies_keep : {X : Type 0} (checks : X → (seen : ℕ) → Walk T → Walk T)
      (k : (x : X) (seen : ℕ) (w : Walk T) → Keeps w.scope (checks x seen w).scope) (seen : List ℕ) (w : Walk T)
      (xs : List X) → Keeps w.scope (with_bodies checks seen w xs).scope
  bodies_keep checks k seen w xs = fold_keeps scope_of (with_body checks seen) (λ st x. k x _ st.0) xs (w, 0)

  marks_all : (xs : List (Steps T)) → AllKeep xs → (st : Scope T × List ℕ)
      → Keeps st.0 (fold (with_marks marked_by) st xs).0
  marks_all [] all st = refl
  marks_all (x ∷ xs) all st = marks_all xs all.1 (with_marks marked_by st x) ∙ all.0.marks st.0

  declares_all : (xs : List (Steps T)) → AllKeep xs → (c : Course T) → Keeps c.0 (fold declared_by c xs).0
  declares_all [] all c = refl
  declares_all (x ∷ xs) all c = declares_all xs all.1 (declared_by c x) ∙ all.0.declares c

  checks_all : (around : Option Which) (seen : List ℕ) (xs : List (Steps T)) → AllKeep xs → (st : Walk T × ℕ)
      → Keeps st.0.scope (fold (with_body (λ x. checked_by x around) seen) st xs).0.scope
  checks_all around seen [] all st = refl
  checks_all around seen (x ∷ xs) all st =
      checks_all around seen xs all.1 (with_body (λ x. checked_by x around) seen st x) ∙ all.0.checks around _ st.0

module _ (g : Gathers) (elaborates : Elaborates g.Reported) (ends : List ℕ) where
  procedure_keeps : (h : Heading) (block : ChecksBlock g.Reported) → KeepingBlock block
      → KeepingChecks (procedure_checked g elaborates ends h block)
  procedure_keeps h block k around seen w = let b = begun_procedure g w seen h in
      k (which_of b.1.procedure) b.1.returns b.0

  block_keeps : (xs : List (Steps g.Reported)) (body : Option (List Stmt)) → AllKeep xs
      → KeepingBlock (block_layer g elaborates ends (record { decls = xs; body = body }))
  block_keeps xs body all around returns w =
      let d = all_declared marked_by declared_by again_by (w.scope, w.so_far) (length w.bodies.locals) xs in
      let m = all_marked marked_by w.scope xs in
      checks_all around d.2 xs all (begun_from d w.bodies, 0)
      ∙ (declares_all xs all (m.0, w.so_far, length w.bodies.locals) ∙ marks_all xs all (w.scope, []))

  abbrev SD : Type 0
  SD = OfDecl g elaborates ends (λ d x. KeepingSteps x) (λ b c. KeepingBlock c)

  abbrev SB : Type 0
  SB = OfBlock g elaborates ends (λ d x. KeepingSteps x) (λ b c. KeepingBlock c)

  abbrev stripped : Decl-F SD SB → Decl-F Decl Block
  stripped y = bare g elaborates ends (λ d x. KeepingSteps x) (λ b c. KeepingBlock c) y

  checks_at : (y : Decl-F SD SB)
      → KeepingChecks (checks_layer g elaborates ends (opened g elaborates ends (stripped y)))
  checks_at (layer.Constants cs) around seen w = refl
  checks_at (layer.Types ts) around seen w = refl
  checks_at (layer.Variables vs) around seen w = refl
  checks_at (layer.Procedure h b) around seen w =
      procedure_keeps h (checks_block g elaborates ends b.0) b.1 around seen w

  steps_at : (y : Decl-F SD SB) → KeepingSteps (steps_layer g elaborates ends (opened g elaborates ends (stripped y)))
  steps_at y = record {
    marks = λ s. decl_layer_marks marks (opened g elaborates ends (stripped y)) s;
    declares = λ c. layer_keeps g ends c (opened g elaborates ends (stripped y));
    checks = checks_at y;
  }

  all_at : (xs : List SD) → AllKeep (map (steps g elaborates ends) (map (λ (e : SD). e.0) xs))
  all_at [] = tt
  all_at (x ∷ xs) = (x.1, all_at xs)

  steps_keep : (d : Decl) → KeepingSteps (steps g elaborates ends d)
  steps_keep =
      all_decls g elaborates ends (λ d x. KeepingSteps x) (λ b c. KeepingBlock c) steps_at
      (λ y. block_keeps _ y.body (all_at y.decls))

  pub walk_keeps : (modules : List (List ℕ × ℕ)) (s : Scope g.Reported) (m : Module) (b : Block)
      → Keeps s (walk_body g elaborates modules ends s m b).0.scope
  walk_keeps modules s m b =
      let ds = (out-Block b).decls in
      let w = begun_module g modules ends s m ds in
      bodies_keep (λ d. checks_decl g elaborates ends d None) (λ d seen w. (steps_keep d).checks None seen w) w.1 w.0 ds
      ∙ module_keeps g modules ends s m ds
