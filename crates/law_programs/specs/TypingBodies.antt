-- What the checker makes of the bodies of procedures is typed, if the module that it makes has
-- them.
use Rattle.std.specs.Prelude.{◌≡◌, ℕ, suc, ◌+◌, ◌≤◌, ◌<◌, ◌^◌, ◌==◌, Bool, true, false, ◌&&◌, List, [], ◌∷◌, ◌++◌, map, drop, length, Option, Some, None, Result, Ok, slice_get}
use Rattle.std.specs.List.{fold, list_all}
use Rattle.std.specs.Option.{unwrap_or}
use Rattle.m2_tree.specs.declared.name.Ident.{Ident}
use Rattle.m2_tree.specs.declared.stmt.Stmt.{Stmt}
use Rattle.m2_tree.specs.declared.decl.Heading.{Heading}
use Rattle.m2_tree.specs.declared.decl.Decl.{Decl, Decl-F, out-Decl, fold-Decl}
use Rattle.m2_tree.specs.declared.decl.Decl.TheOpen as layer
use Rattle.m2_tree.specs.declared.decl.Block.{Block, Block-F, out-Block, fold-Block}
use Rattle.m2_tree.specs.declared.decl.Module.{Module}
use Rattle.typed_tree.specs.declared.known_types.Types.{Types}
use Rattle.typed_tree.specs.declared.meaning.Meaning.{Meaning}
use Rattle.typed_tree.specs.declared.meaning.Meaning.TheVariants as meaning
use Rattle.typed_tree.specs.declared.meaning.Procedure.{Procedure}
use Rattle.typed_tree.specs.declared.shape.Formal.{Formal}
use Rattle.typed_tree.specs.declared.shape.Made.{Made}
use Rattle.typed_tree.specs.declared.statement.TypedStmt.{TypedStmt}
use Rattle.typed_tree.specs.declared.typed_module.Routine.{Routine}
use Rattle.typed_tree.specs.declared.typed_module.TypedModule.{TypedModule}
use Rattle.typed_tree.specs.declared.typed_module.Which.{Which}
use Rattle.typed_tree.specs.declared.typed_module.Which.TheVariants as which
use Rattle.typed_tree.specs.declared.types.TypeNo.{TypeNo}
use Rattle.typed_tree.specs.Known.{made_at}
use Rattle.typed_tree.specs.Names.{find_name}
use Rattle.check_scope.specs.Elaborated.{Gathers}
use Rattle.check_scope.specs.Scopes.{State}
use Rattle.check_scope.specs.declared.known.Known.{Known}
use Rattle.check_scope.specs.declared.known.Known.TheVariants.{Later, Ahead, Begun, Headed, Declared}
use Rattle.check_scope.specs.declared.scope.Block.{Block as Around}
use Rattle.check_scope.specs.declared.scope.Scope.{Scope}
use Rattle.check_const.specs.Denote.{exported_meaning}
use Rattle.layout_storage.specs.Types.{Ty}
use Rattle.layout_storage.specs.Frames.{formals_of}
use Rattle.layout_storage.specs.Shapes.{tree}
use Rattle.layout_storage.specs.Texts.{module_texts}
use Rattle.def_meaning.specs.Store.{Location}
use Rattle.def_meaning.specs.Environment.{Modules}
use Rattle.def_scheme.specs.Modules.{all_characters}
use Rattle.def_scheme.specs.Functions.{routine_of}
use Rattle.check_definition.specs.Importing.{with_import}
use Rattle.check_block.specs.declared.heading.Standing.TheVariants.{Awaited}
use Rattle.check_block.specs.Headings.{name_standing}
use Rattle.check_block.specs.Nesting.{within, procedure_ends}
use Rattle.check_block.specs.Declarations.{declared_block, declared_module}
use Rattle.check_scope.specs.Inwards.{inwards}
use Rattle.check_block.specs.Inner.{entered_procedure}
use Rattle.check_body.specs.declared.routine.Numbered.{Numbered}
use Rattle.check_body.specs.Routines.{numbered_known, procedure_named}
use Rattle.check_body.specs.declared.procedure.Walk.{Walk}
use Rattle.check_body.specs.Elaborating.{Elaborates}
use Rattle.check_body.specs.Inside.{returns_of}
use Rattle.check_body.specs.Bodies.{ChecksBlock, checks_block}
use Rattle.check_body.specs.Checked.{walk_body}
use Rattle.check_body.specs.Checks.{elaborate_body}
use Rattle.law_simulation.specs.Frames.{Kinds, Kept, formal_kind, kinds_of}
use Rattle.law_simulation.specs.Passing.{Result as Gives, result_of}
use Rattle.law_simulation.specs.TreesTyped.{Context, kinds_around}
use Rattle.law_simulation.specs.Linked.{environment_of, context}
use Rattle.law_well_formed.specs.Formed.{Holds}
use Rattle.law_well_formed.specs.FormedScopes.{AreFormedNames}
use Rattle.law_well_formed.specs.FormedBodies.{Keeps, Begins}
use Rattle.law_well_formed.specs.FormedNumbers.{IsNumbered, all_formals}
use Rattle.law_well_formed.specs.FormedRanges.{itself, fits_constant, fits_type_decl, fits_variables, ScopeRanged}
use Rattle.law_well_formed.specs.Ordered.{AreKnown}
use Rattle.law_well_formed.specs.FormedOrder.{ScopeOrdered}
use Rattle.law_programs.specs.Typing.{TypesTyped, MeaningTyped, IsTyped}
use Rattle.law_programs.specs.TypingStmts.{fits_stmt, StmtsTyped, AreReturned}
use Rattle.law_programs.specs.Carried.{ScopeWords}

-- ---- trees: all declarations and statements fit, those in procedures included

abbrev pub fits_body : Option (List Stmt) → Bool
fits_body None = true
fits_body (Some xs) = list_all fits_stmt xs

abbrev pub fits_inside_layer : Decl-F Bool Bool → Bool
fits_inside_layer (layer.Constants cs) = list_all fits_constant cs
fits_inside_layer (layer.Types ts) = list_all fits_type_decl ts
fits_inside_layer (layer.Variables vs) = list_all fits_variables vs
fits_inside_layer (layer.Procedure h block) = block

abbrev pub fits_whole_layer : Block-F Bool Bool → Bool
fits_whole_layer b = list_all itself b.decls && fits_body b.body

unfoldable pub fits_inside : Decl → Bool
fits_inside = fold-Decl Bool Bool fits_inside_layer fits_whole_layer

unfoldable pub fits_whole_block : Block → Bool
fits_whole_block = fold-Block Bool Bool fits_inside_layer fits_whole_layer

-- ---- where the trees of a module stand

-- the module at its place in a program, with the modules that names of it may stand for
pub record Stage : Type 0 where
  pub p : Modules
  pub base : List Ty
  pub texts : Location → ℕ → ℕ
  pub place : ℕ
  pub home : TypedModule
  pub opens : ℕ → Bool

-- in procedures with these frames
abbrev pub stands : Stage → List Kinds → Context
stands z kinds = context z.p z.base z.texts z.place z.home kinds

-- in the block of a procedure, this many procedures deep, or of the module
abbrev pub stands_in : Stage → (level : ℕ) → Option Which → Context
stands_in z level around = stands z (kinds_around z.home (suc level) around)

-- the module is there, its types are as the language has them, and its texts have room
pub record StageTyped (z : Stage) : Type 0 where
  pub there : slice_get z.p z.place ≡ Some z.home
  pub all : TypesTyped z.home.types
  pub room : length (all_characters (module_texts z.home)) ≤ 2 ^ 32

-- the body of a procedure is typed, and the types of its variables are known
abbrev pub BodyTyped : Stage → Routine → Type 0
BodyTyped z r =
    StmtsTyped (stands z (kinds_of z.home.types r ∷ environment_of z.home r))
    (result_of z.home.types r.heading) [] false r.body
    × AreKnown z.home.types r.variables

-- what statements are elaborated to be is typed, if names mean what is there
abbrev pub TypesStatements : (g : Gathers) → Elaborates g.Reported → Type 0
TypesStatements g elaborates =
    (x : Context) (opens : ℕ → Bool) (s : Scope g.Reported)
    → IsTyped g x [] opens s
    → ScopeRanged s
    → s.withs ≡ []
    → (returns : Option (Result TypeNo g.Reported)) (result : Gives)
    → AreReturned x.home.types returns result
    → (body : List Stmt)
    → list_all fits_stmt body ≡ true
    → Holds (StmtsTyped x result [] false) (elaborates s returns body)

-- ---- names that mean what is there

-- what is local stands in a procedure that is at most so deep
abbrev pub WithinLevel : (level : ℕ) → Meaning → Type 0
WithinLevel level (meaning.Constant v) = Unit {0}
WithinLevel level (meaning.Type t n) = Unit {0}
WithinLevel level (meaning.Variable v) = Unit {0}
WithinLevel level (meaning.Local v) = v.level ≤ level
WithinLevel level (meaning.Field f) = ⊥
WithinLevel level (meaning.Procedure p) = Unit {0}
WithinLevel level (meaning.LocalProcedure p) = p.level ≤ level
WithinLevel level meaning.Ahead = Unit {0}
WithinLevel level (meaning.Standard f) = Unit {0}
WithinLevel level (meaning.Module k) = Unit {0}

module _ (x : Context) (opens : ℕ → Bool) (level : ℕ) where
  abbrev pub MeaningThere : Meaning → Type 0
  MeaningThere m = MeaningTyped x [] opens level m × WithinLevel level m

  abbrev pub KnownThere : {T : Type 0} → Known T → Type 0
  KnownThere Later = Unit {0}
  KnownThere Ahead = Unit {0}
  KnownThere Begun = Unit {0}
  KnownThere (Headed r) = Holds MeaningThere r
  KnownThere (Declared o r) = Holds MeaningThere r

  abbrev pub NamesThere : {T : Type 0} → List (List ℕ × Known T) → Type 0
  NamesThere [] = Unit {0}
  NamesThere (e ∷ es) = KnownThere e.1 × NamesThere es

  abbrev pub BlocksThere : {T : Type 0} → List (Around T) → Type 0
  BlocksThere [] = Unit {0}
  BlocksThere (b ∷ bs) = NamesThere b.names × BlocksThere bs

-- ---- names that a procedure's block may declare: constants, types, local variables, and
-- procedures in it

abbrev pub MeaningLocal : Meaning → Type 0
MeaningLocal (meaning.Constant v) = Unit {0}
MeaningLocal (meaning.Type t n) = Unit {0}
MeaningLocal (meaning.Variable v) = ⊥
MeaningLocal (meaning.Local v) = Unit {0}
MeaningLocal (meaning.Field f) = ⊥
MeaningLocal (meaning.Procedure p) = ⊥
MeaningLocal (meaning.LocalProcedure p) = Unit {0}
MeaningLocal meaning.Ahead = Unit {0}
MeaningLocal (meaning.Standard f) = ⊥
MeaningLocal (meaning.Module k) = ⊥

abbrev pub KnownLocal : {T : Type 0} → Known T → Type 0
KnownLocal Later = Unit {0}
KnownLocal Ahead = Unit {0}
KnownLocal Begun = Unit {0}
KnownLocal (Headed r) = Holds MeaningLocal r
KnownLocal (Declared o r) = Holds MeaningLocal r

abbrev pub NamesLocal : {T : Type 0} → List (List ℕ × Known T) → Type 0
NamesLocal [] = Unit {0}
NamesLocal (e ∷ es) = KnownLocal e.1 × NamesLocal es

-- the declarations of a procedure's block keep to these names
abbrev pub LocalsStay : Gathers → Type 0
LocalsStay g =
    (ends : List ℕ) (st : State (Unit {0}) g.Reported) (first : ℕ) (ds : List Decl)
    → (st.0.level == 0) ≡ false
    → NamesLocal st.0.own
    → NamesLocal (declared_block g ends st first ds).0.own

-- ---- headings

-- no WITH is open
pub record IsFresh {T : Type 0} (s : Scope T) : Type 0 where
  pub withs : s.withs ≡ []

module _ (g : Gathers) where
  -- In this scope, and in all later types, the heading's type has the formals that are computed
  -- where its block is entered, and the same result.
  abbrev pub HeadingAgrees : Scope g.Reported → (seen : ℕ) → Heading → Type 0
  HeadingAgrees s seen h =
      (q : Numbered)
      → procedure_named s h.name ≡ Some q
      → (types : Types)
      → ((t : TypeNo) (x : Made) → made_at s.types t ≡ Some x → made_at types t ≡ Some x)
      → (formals_of types q.heading ≡ all_formals g (inwards s seen) h.formals)
      × AreReturned types (returns_of (entered_procedure g s seen h).1) (result_of types q.heading)

  -- so it is, if the declaration is a procedure, in each scope that has the same names and all
  -- types of this one
  abbrev pub DeclAgrees : {A B : Type 0} → Scope g.Reported → (seen : ℕ) → Decl-F A B → Type 0
  DeclAgrees a seen (layer.Constants cs) = Unit {0}
  DeclAgrees a seen (layer.Types ts) = Unit {0}
  DeclAgrees a seen (layer.Variables vs) = Unit {0}
  DeclAgrees a seen (layer.Procedure h b) =
      (s : Scope g.Reported) → Keeps a s → s.own ≡ a.own → s.withs ≡ [] → HeadingAgrees s seen h

  -- of all declarations, with how many names stand before each, from the i-th on
  abbrev pub DeclsAgree : Scope g.Reported → List ℕ → (i : ℕ) → List Decl → Type 0
  DeclsAgree a seen i [] = Unit {0}
  DeclsAgree a seen i (d ∷ ds) =
      DeclAgrees a (unwrap_or (slice_get seen i) 0) (out-Decl d) × DeclsAgree a seen (i + 1) ds

-- So it is of all procedures of a block, at its end, if its declarations break no rule.
abbrev pub HeadingsAgree : Gathers → Type 0
HeadingsAgree g =
    (ends : List ℕ) (st : State (Unit {0}) g.Reported) (first : ℕ) (ds : List Decl)
    → IsFresh st.0
    → (declared_block g ends st first ds).1 ≡ Ok tt
    → DeclsAgree g (declared_block g ends st first ds).0 (declared_block g ends st first ds).2 0 ds

-- ---- scopes

-- The types that are known have ranges of the language and stand in order, and constants are
-- numbers of their types.
pub record ScopeKnown (base : Types) {T : Type 0} (s : Scope T) : Type 0 where
  pub ranged : ScopeRanged s
  pub ordered : ScopeOrdered base s
  pub words : ScopeWords s

-- ---- blocks

-- as many blocks stand around as the level says
abbrev pub IsDeep : {T : Type 0} → Walk T → Type 0
IsDeep w = length w.scope.outer ≡ suc w.scope.level

module _ (g : Gathers) (z : Stage) where
  -- the module has what is added from one walk to the other, in the block of this procedure
  pub record Serves (around : Option Which) (w w' : Walk g.Reported) : Type 0 where
    pub home : w.scope.types.home ≡ z.home.types.home
    pub types : (t : TypeNo) (x : Made) → made_at w'.scope.types t ≡ Some x
        → made_at z.home.types t ≡ Some x
    pub locals : (n : ℕ) → length w.bodies.locals ≤ n → n < length w'.bodies.locals
        → slice_get z.home.locals n ≡ slice_get w'.bodies.locals n
    pub members : (k : ℕ) (name : Ident) → z.opens k ≡ true
        → Holds (MeaningThere (stands z []) z.opens 0) (exported_meaning g w.scope.tables k name)
    pub outer : BlocksThere (stands_in z w.scope.level around) z.opens w.scope.level w.scope.outer
    pub withs : w.scope.withs ≡ []

  -- the procedures that are added have typed bodies
  abbrev pub AddsTyped : Walk g.Reported → Walk g.Reported → Type 0
  AddsTyped w w' =
      (n : ℕ) (r : Routine) → length w.bodies.locals ≤ n → slice_get w'.bodies.locals n ≡ Some r
      → BodyTyped z r

-- the frame of the block has its formals, and behind them its variables
pub record HasFrame (z : Stage) (level : ℕ) (around : Option Which) (fs : List Formal)
    (variables : List TypeNo) : Type 0 where
  pub rest : List Kinds
  pub kinds : kinds_around z.home (suc level) around
      ≡ (map (formal_kind z.home.types) fs
      ++ map (λ t. Kept (tree z.home.types t)) (drop (length fs) variables))
      ∷ rest

-- where the block of a procedure with these formals begins
pub record Enters {T : Type 0} (base : Types) (ends : List ℕ) (fs : List Formal) (w : Walk T)
    (ks : List ℕ) : Type 0 where
  pub begins : Begins ends w ks
  pub deep : IsDeep w
  pub known : ScopeKnown base w.scope
  pub numbered : IsNumbered fs w.scope
  pub fresh : IsFresh w.scope
  pub locals : NamesLocal w.scope.own
  pub formed : (m : TypedModule) (opens : ℕ → Bool) → AreFormedNames m opens w.scope.own

-- the block of a procedure, with this many procedures within each of those in it
pub record TypedBlock (g : Gathers) (base : Types) (ends : List ℕ) (block : ChecksBlock g.Reported)
    (ks : List ℕ) : Type 0 where
  pub known : (around : Option Which) (returns : Option (Result TypeNo g.Reported))
      (w : Walk g.Reported)
      → (block around returns w).0.so_far ≡ Ok tt
      → ScopeKnown base w.scope
      → ScopeKnown base (block around returns w).0.scope
  pub typed : (fs : List Formal) (around : Option Which)
      (returns : Option (Result TypeNo g.Reported)) (w : Walk g.Reported)
      → Enters base ends fs w ks
      → (block around returns w).0.so_far ≡ Ok tt
      → (z : Stage)
      → StageTyped z
      → Serves g z around w (block around returns w).0
      → HasFrame z w.scope.level around fs (block around returns w).0.scope.variables
      → (result : Gives)
      → AreReturned z.home.types returns result
      → AddsTyped g z w (block around returns w).0
      × Holds (StmtsTyped (stands_in z w.scope.level around) result [] false)
      (block around returns w).1

-- the bodies of the procedures in a procedure's block are typed, and so is its own
abbrev pub BlocksAreTyped : Gathers → Type 0
BlocksAreTyped g = (base : Types) (ends : List ℕ) (b : Block) → fits_whole_block b ≡ true
    → TypedBlock g base ends (checks_block g (elaborate_body g) ends b) (within b)

-- ---- modules

abbrev pub number_by : Which → Option ℕ
number_by (which.Module n) = Some n
number_by (which.Local n) = None

module _ {T : Type 0} (own : List (List ℕ × Known T)) where
  abbrev pub number_in : Option Numbered → Option ℕ
  number_in None = None
  number_in (Some q) = number_by q.which

  -- the number of the module's procedure that a declaration is
  abbrev pub number_of : {A B : Type 0} → Decl-F A B → Option ℕ
  number_of (layer.Constants cs) = None
  number_of (layer.Types ts) = None
  number_of (layer.Variables vs) = None
  number_of (layer.Procedure h b) = number_in (numbered_known (find_name h.name.name own))

  abbrev pub OtherThan : Option ℕ → List Decl → Type 0
  OtherThan n [] = Unit {0}
  OtherThan n (d ∷ ds) =
      ((k : ℕ) → n ≡ Some k → number_of (out-Decl d) ≡ Some k → ⊥) × OtherThan n ds

  -- the procedures of a module have numbers of their own
  abbrev pub NumbersApart : List Decl → Type 0
  NumbersApart [] = Unit {0}
  NumbersApart (d ∷ ds) = OtherThan (number_of (out-Decl d)) ds × NumbersApart ds

-- procedures of the module's own definition that await their headings have its numbers
abbrev pub AwaitsOwn : {T : Type 0} → Scope T → Type 0
AwaitsOwn s =
    (name : List ℕ) (p : Procedure) → name_standing (find_name name s.own) ≡ Awaited p
    → (p.home ≡ s.types.home) × (slice_get s.procedures p.number ≡ Some p.heading)

-- and each has another number
abbrev pub AwaitsApart : {T : Type 0} → Scope T → Type 0
AwaitsApart s =
    (a b : List ℕ) (p q : Procedure) → name_standing (find_name a s.own) ≡ Awaited p
    → name_standing (find_name b s.own) ≡ Awaited q → p.number ≡ q.number → a ≡ b

-- Behind its imports, a module stands in no procedure and in no WITH, and procedures of its
-- definition have its numbers.
pub record ModuleBegins {T : Type 0} (s : Scope T) : Type 0 where
  pub level : (s.level == 0) ≡ true
  pub single : length s.outer ≡ 1
  pub withs : s.withs ≡ []
  pub awaits : AwaitsOwn s
  pub apart : AwaitsApart s

-- The names of a module, of what stands around it, and of its open modules mean what is there. It
-- has what the walk over its bodies leads to, and the variables that it declares.
pub record HasModule (g : Gathers) (base : Types) (z : Stage) (d : Scope g.Reported)
    (w : Walk g.Reported) : Type 0 where
  pub types : w.scope.types ≡ z.home.types
  pub procedures : w.bodies.procedures ≡ z.home.procedures
  pub locals : w.bodies.locals ≡ z.home.locals
  pub variables : d.variables ≡ z.home.variables
  pub known : ScopeKnown base d
  pub names : NamesThere (stands z []) z.opens 0 d.own
  pub outer : BlocksThere (stands z []) z.opens 0 d.outer
  pub members : (k : ℕ) (name : Ident) → z.opens k ≡ true
      → Holds (MeaningThere (stands z []) z.opens 0) (exported_meaning g d.tables k name)

-- the bodies of all procedures of a module, and its own, with the types of its variables
pub record AreBodiesTyped (z : Stage) (ss : List TypedStmt) : Type 0 where
  pub procedures : (w : Which) (r : Routine) → routine_of z.home w ≡ Some r → BodyTyped z r
  pub body : StmtsTyped (stands z []) None [] false ss
  pub variables : AreKnown z.home.types z.home.variables

-- The bodies of a module are typed, if its declarations and bodies break no rule.
abbrev pub ModulesAreTyped : Gathers → Type 0
ModulesAreTyped g =
    (base : Types) (modules : List (List ℕ × ℕ)) (s : Scope g.Reported) (m : Module) (b : Block)
    → fits_whole_block b ≡ true
    → ModuleBegins (fold (with_import g modules) (s, Ok tt) m.imports).0
    → let ds = (out-Block b).decls in
    let d = declared_module g modules (procedure_ends ds) s m ds in
    let w = walk_body g (elaborate_body g) modules (procedure_ends ds) s m b in
    w.0.so_far ≡ Ok tt → (z : Stage) → StageTyped z → HasModule g base z d.0 w.0
    → (body : List TypedStmt) → w.1 ≡ Ok body → AreBodiesTyped z body
