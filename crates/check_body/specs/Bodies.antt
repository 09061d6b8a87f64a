-- The bodies of the procedures of a block, and of those in them.
use Rattle.std.specs.Prelude.{ℕ, ◌+◌, List, length, Option, Result, slice_get}
use Rattle.std.specs.List.{fold}
use Rattle.std.specs.Option.{unwrap_or}
use Rattle.m2_tree.specs.declared.stmt.Stmt.{Stmt}
use Rattle.m2_tree.specs.declared.decl.Heading.{Heading}
use Rattle.m2_tree.specs.declared.decl.Decl.{Decl, Decl-F, fold-Decl}
use Rattle.m2_tree.specs.declared.decl.Decl.TheOpen as layer
use Rattle.m2_tree.specs.declared.decl.Block.{Block, Block-F, fold-Block}
use Rattle.typed_tree.specs.declared.types.TypeNo.{TypeNo}
use Rattle.typed_tree.specs.declared.statement.TypedStmt.{TypedStmt}
use Rattle.typed_tree.specs.declared.typed_module.Which.{Which}
use Rattle.check_scope.specs.declared.scope.Scope.{Scope}
use Rattle.check_scope.specs.Elaborated.{Gathers}
use Rattle.check_block.specs.Naming.{marked_layer}
use Rattle.check_definition.specs.Again.{Passing}
use Rattle.check_block.specs.Declarations.{Course, Declared, decl_layer, again_layer, all_declared, declared_block}
use Rattle.check_body.specs.declared.routine.Bodies.{Bodies}
use Rattle.check_body.specs.declared.procedure.Walk.{Walk}
use Rattle.check_body.specs.Elaborating.{Elaborates, statements_of}
use Rattle.check_body.specs.Inside.{which_of, begun_procedure, ended_procedure}

-- the walk behind the declarations of a block
abbrev pub begun_from : {T : Type 0} → Declared T → Bodies → Walk T
begun_from d rs = record { scope = d.0; so_far = d.1; bodies = rs }

-- what a body comes to: the walk at its end, and its statements
abbrev pub Checked : Type 0 → Type 0
Checked T = Walk T × Result (List TypedStmt) T

-- the body of a procedure in a declaration, if it is one: in which procedure it stands, and how
-- many names of the block stand before it
abbrev pub Checks : Type 0 → Type 0
Checks T = (around : Option Which) → (seen : ℕ) → Walk T → Walk T

-- the block of a procedure: which procedure it is, and what it returns
abbrev pub ChecksBlock : Type 0 → Type 0
ChecksBlock T = (around : Option Which) → (returns : Option (Result TypeNo T)) → Walk T → Checked T

-- what comes of a declaration, in the four walks over its block
pub record Steps (T : Type 0) : Type 0 where
  -- its names are known to be declared
  pub marks : Scope T → Scope T
  -- it is declared
  pub declares : Course T → Course T
  -- its constant expressions are read again
  pub again : Scope T → Passing T → Passing T
  -- its body is checked
  pub checks : Checks T

module _ {T : Type 0} where
  abbrev pub marked_by : Scope T → Steps T → Scope T
  marked_by s x = x.marks s

  abbrev pub declared_by : Course T → Steps T → Course T
  declared_by c x = x.declares c

  abbrev pub again_by : Scope T → Passing T → Steps T → Passing T
  again_by s p x = x.again s p

  abbrev pub checked_by : Steps T → Checks T
  checked_by x = x.checks

-- ---- the bodies of a block, one after another, with how many names stand before each

module _ {T X : Type 0} (checks : X → (seen : ℕ) → Walk T → Walk T) (seen : List ℕ) where
  abbrev pub with_body : Walk T × ℕ → X → Walk T × ℕ
  with_body st x = (checks x (unwrap_or (slice_get seen st.1) 0) st.0, st.1 + 1)

  abbrev pub with_bodies : Walk T → List X → Walk T
  with_bodies w xs = (fold with_body (w, 0) xs).0

-- ---- a block

-- the walk behind the declarations of a procedure's block, and how many names stand before each;
-- its procedures are numbered behind those whose headings were met
abbrev pub begun_block : (g : Gathers) → (ends : List ℕ) → Walk g.Reported → List Decl
    → Walk g.Reported × List ℕ
begun_block g ends w ds =
    let d = declared_block g ends (w.scope, w.so_far) (length w.bodies.locals) ds in
    (begun_from d w.bodies, d.2)

-- behind its declarations the bodies in it, and then its own
module _ {T : Type 0} (elaborates : Elaborates T) where
  abbrev pub with_statements : Option (Result TypeNo T) → Option (List Stmt) → Walk T → Checked T
  with_statements returns body w = (w, statements_of elaborates w.scope returns body)

  abbrev pub block_from : {X : Type 0} → (checks : X → Checks T) → (around : Option Which)
      → Option (Result TypeNo T) → Declared T → List X → Option (List Stmt) → Bodies → Checked T
  block_from checks around returns d xs body rs =
      with_statements returns body (with_bodies (λ x. checks x around) d.2 (begun_from d rs) xs)

-- ---- procedures

module _ (g : Gathers) (elaborates : Elaborates g.Reported) (ends : List ℕ) where
  abbrev pub procedure_checked : Heading → ChecksBlock g.Reported → Checks g.Reported
  procedure_checked h block around seen w =
      let b = begun_procedure g w seen h in
      ended_procedure g h.name around b.1 (block (which_of b.1.procedure) b.1.returns b.0)

  abbrev pub checks_layer : Decl-F (Steps g.Reported) (ChecksBlock g.Reported) → Checks g.Reported
  checks_layer (layer.Constants cs) around seen w = w
  checks_layer (layer.Types ts) around seen w = w
  checks_layer (layer.Variables vs) around seen w = w
  checks_layer (layer.Procedure h block) around seen w = procedure_checked h block around seen w

  abbrev pub steps_layer : Decl-F (Steps g.Reported) (ChecksBlock g.Reported) → Steps g.Reported
  steps_layer x = record {
    marks = λ s. marked_layer s x;
    declares = λ c. decl_layer g ends c x;
    again = λ s p. again_layer g s p x;
    checks = checks_layer x;
  }

  abbrev pub block_layer : Block-F (Steps g.Reported) (ChecksBlock g.Reported)
      → ChecksBlock g.Reported
  block_layer b around returns w =
      let d =
      all_declared marked_by declared_by again_by (w.scope, w.so_far) (length w.bodies.locals)
      b.decls in
      block_from elaborates checked_by around returns d b.decls b.body w.bodies

  unfoldable pub steps : Decl → Steps g.Reported
  steps = fold-Decl (Steps g.Reported) (ChecksBlock g.Reported) steps_layer block_layer

  unfoldable pub checks_block : Block → ChecksBlock g.Reported
  checks_block = fold-Block (Steps g.Reported) (ChecksBlock g.Reported) steps_layer block_layer

  -- ---- the same, of declarations as they are written

  abbrev pub checks_decl : Decl → Checks g.Reported
  checks_decl d = (steps d).checks

  abbrev pub bodies_checked : (around : Option Which) → (seen : List ℕ) → Walk g.Reported
      → List Decl → Walk g.Reported
  bodies_checked around seen w ds = with_bodies (λ d. checks_decl d around) seen w ds
