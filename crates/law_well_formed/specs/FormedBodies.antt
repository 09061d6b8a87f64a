-- What checking the bodies of procedures keeps, and when what it adds is well formed.
use Rattle.std.specs.Prelude.{◌≡◌, ℕ, ◌+◌, ◌<◌, ◌≤◌, ◌==◌, Bool, true, false, List, [], length, Option, Some, Result, Ok, slice_get}
use Rattle.m2_tree.specs.declared.name.Ident.{Ident}
use Rattle.m2_tree.specs.declared.stmt.Stmt.{Stmt}
use Rattle.m2_tree.specs.declared.decl.Block.{Block}
use Rattle.typed_tree.specs.declared.shape.Made.{Made}
use Rattle.typed_tree.specs.declared.typed_module.Routine.{Routine}
use Rattle.typed_tree.specs.declared.typed_module.TypedModule.{TypedModule}
use Rattle.typed_tree.specs.declared.typed_module.Which.{Which}
use Rattle.typed_tree.specs.declared.types.TypeNo.{TypeNo}
use Rattle.typed_tree.specs.Known.{made_at}
use Rattle.typed_tree.specs.Names.{find_name}
use Rattle.check_scope.specs.Elaborated.{Gathers}
use Rattle.check_scope.specs.declared.scope.Scope.{Scope}
use Rattle.check_const.specs.Denote.{exported_meaning}
use Rattle.def_scheme.specs.Exprs.{is_there}
use Rattle.check_block.specs.Nesting.{within}
use Rattle.law_modules.specs.WellFormed.{AreStmts, IsBody}
use Rattle.law_well_formed.specs.Formed.{Holds, FormedMeaning, IsFormed}
use Rattle.law_well_formed.specs.FormedScopes.{holds_of, is_awaiting, AreFormedNames, AreFormedBlocks}
use Rattle.check_body.specs.declared.procedure.Walk.{Walk}
use Rattle.check_body.specs.Elaborating.{Elaborates}
use Rattle.check_body.specs.Bodies.{ChecksBlock, checks_block}

-- statements of bodies are well formed, if names mean what is there
abbrev pub FormsStatements : (g : Gathers) → Elaborates g.Reported → Type 0
FormsStatements g elaborates =
    (m : TypedModule) (opens : ℕ → Bool) (s : Scope g.Reported)
    → IsFormed g m opens 0 s
    → s.withs ≡ []
    → (returns : Option (Result TypeNo g.Reported)) (body : List Stmt)
    → Holds (AreStmts m (is_there returns) 0 false) (elaborates s returns body)

-- Procedures in procedures are numbered from here on, if this many stand within each.
abbrev pub AreNumbered : (ends : List ℕ) → (first : ℕ) → List ℕ → Type 0
AreNumbered ends first ks = (i c : ℕ) → slice_get ks i ≡ Some c
    → slice_get ends (first + i) ≡ Some (first + i + 1 + c)

-- all of a scope but its own names and variables
pub record Keeps {T : Type 0} (s s' : Scope T) : Type 0 where
  pub tables : s'.tables ≡ s.tables
  pub outer : s'.outer ≡ s.outer
  pub level : s'.level ≡ s.level
  pub withs : s'.withs ≡ s.withs
  pub home : s'.types.home ≡ s.types.home
  pub types : (t : TypeNo) (x : Made) → made_at s.types t ≡ Some x → made_at s'.types t ≡ Some x

-- procedures in procedures are added behind those that are there, each with its level
pub record Adds {T : Type 0} (w w' : Walk T) : Type 0 where
  pub procedures : w'.bodies.procedures ≡ w.bodies.procedures
  pub below : (n : ℕ) → n < length w.bodies.locals
      → slice_get w'.bodies.locals n ≡ slice_get w.bodies.locals n
  pub nested : (n : ℕ) → length w.bodies.locals ≤ n → n < length w'.bodies.locals
      → (r : Routine) × ((slice_get w'.bodies.locals n ≡ Some r) × (1 < r.level))

module _ (g : Gathers) (m : TypedModule) (opens : ℕ → Bool) where
  -- the module has what is added from one walk to the other
  pub record Suits (w w' : Walk g.Reported) : Type 0 where
    pub home : w.scope.types.home ≡ m.types.home
    pub types : (t : TypeNo) (x : Made) → made_at w'.scope.types t ≡ Some x
        → made_at m.types t ≡ Some x
    pub locals : (n : ℕ) → length w.bodies.locals ≤ n → n < length w'.bodies.locals
        → slice_get m.locals n ≡ slice_get w'.bodies.locals n
    pub members : (k : ℕ) (name : Ident) → opens k ≡ true
        → Holds (FormedMeaning m opens 0) (exported_meaning g w.scope.tables k name)
    pub outer : AreFormedBlocks m opens w.scope.outer
    pub withs : w.scope.withs ≡ []

  -- the procedures that are added are well formed
  abbrev pub AddsFormed : Walk g.Reported → Walk g.Reported → Type 0
  AddsFormed w w' = (n : ℕ) (r : Routine) → length w.bodies.locals ≤ n
      → slice_get w'.bodies.locals n ≡ Some r → IsBody m r

-- where the block of a procedure begins
pub record Begins {T : Type 0} (ends : List ℕ) (w : Walk T) (ks : List ℕ) : Type 0 where
  pub level : (w.scope.level == 0) ≡ false
  pub deep : 1 < length w.scope.outer
  pub awaits : (name : List ℕ) → holds_of is_awaiting (find_name name w.scope.own) ≡ false
  pub numbers : AreNumbered ends (length w.bodies.locals) ks

-- the block of a procedure, with this many procedures within each of those in it
pub record FormedBlock (g : Gathers) (ends : List ℕ) (block : ChecksBlock g.Reported) (ks : List ℕ)
    : Type 0 where
  pub keeps : (around : Option Which) (returns : Option (Result TypeNo g.Reported))
      (w : Walk g.Reported) → Keeps w.scope (block around returns w).0.scope
  pub reported : (around : Option Which) (returns : Option (Result TypeNo g.Reported))
      (w : Walk g.Reported) → (block around returns w).0.so_far ≡ Ok tt → w.so_far ≡ Ok tt
  pub count : (around : Option Which) (returns : Option (Result TypeNo g.Reported))
      (w : Walk g.Reported)
      → (w.scope.level == 0) ≡ false
      → 0 < length w.scope.outer
      → length (block around returns w).0.bodies.locals ≡ length w.bodies.locals + length ks
  pub adds : (around : Option Which) (returns : Option (Result TypeNo g.Reported))
      (w : Walk g.Reported)
      → Begins ends w ks
      → (block around returns w).0.so_far ≡ Ok tt
      → Adds w (block around returns w).0
  pub formed : (around : Option Which) (returns : Option (Result TypeNo g.Reported))
      (w : Walk g.Reported)
      → Begins ends w ks
      → (block around returns w).0.so_far ≡ Ok tt
      → (m : TypedModule) (opens : ℕ → Bool)
      → Suits g m opens w (block around returns w).0
      → AreFormedNames m opens w.scope.own
      → AddsFormed g m opens w (block around returns w).0
      × Holds (AreStmts m (is_there returns) 0 false) (block around returns w).1

-- the blocks of procedures are well formed, and what stands in them
abbrev pub BlocksAreFormed : Gathers → Type 0
BlocksAreFormed g =
    (elaborates : Elaborates g.Reported) → FormsStatements g elaborates → (ends : List ℕ)
    (b : Block) → FormedBlock g ends (checks_block g elaborates ends b) (within b)
