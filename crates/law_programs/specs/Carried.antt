-- What declarations carry on: arrays have indices of scalar types, variables stand where their
-- names say, and sets that are constants have 32 bits.
use Rattle.std.specs.Prelude.{◌≡◌, ℕ, ◌≤◌, true, List, [], ◌∷◌, ◌++◌, map, length, drop, Option, Some, None, Ok, slice_get}
use Rattle.std.specs.List.{fold}
use Rattle.std.specs.Option.{is_some}
use Rattle.m2_tree.specs.declared.expr.Expr.{Expr}
use Rattle.m2_tree.specs.declared.decl.Module.{Module}
use Rattle.m2_tree.specs.declared.decl.Contents.{Contents}
use Rattle.m2_tree.specs.declared.decl.Contents.TheVariants as contents
use Rattle.m2_tree.specs.declared.decl.Def.{Def}
use Rattle.m2_tree.specs.declared.decl.Decl.{Decl}
use Rattle.m2_tree.specs.declared.decl.Heading.{Heading}
use Rattle.m2_tree.specs.declared.decl.Section.{Section}
use Rattle.m2_tree.specs.declared.expr.Qualified.{Qualified}
use Rattle.typed_tree.specs.declared.types.TypeNo.{TypeNo}
use Rattle.typed_tree.specs.declared.shape.Shape.{Shape}
use Rattle.typed_tree.specs.declared.shape.Shape.TheVariants as shape
use Rattle.typed_tree.specs.declared.shape.Formal.{Formal}
use Rattle.typed_tree.specs.declared.shape.Made.{Made}
use Rattle.typed_tree.specs.declared.meaning.LocalKind.{LocalKind}
use Rattle.typed_tree.specs.declared.meaning.Meaning.{Meaning}
use Rattle.typed_tree.specs.declared.meaning.Meaning.TheVariants as meaning
use Rattle.typed_tree.specs.declared.table.ModuleTypes.{ModuleTypes}
use Rattle.typed_tree.specs.declared.table.Table.{Table}
use Rattle.typed_tree.specs.declared.known_types.Types.{Types}
use Rattle.typed_tree.specs.Known.{made_at, scalar_at}
use Rattle.check_scope.specs.Elaborated.{Gathers}
use Rattle.check_scope.specs.Scopes.{State}
use Rattle.check_scope.specs.declared.known.Known.{Known}
use Rattle.check_scope.specs.declared.known.Known.TheVariants.{Later, Ahead, Begun, Headed, Declared}
use Rattle.check_scope.specs.declared.scope.Block.{Block}
use Rattle.check_scope.specs.declared.scope.Scope.{Scope}
use Rattle.check_const.specs.Parts.{constant}
use Rattle.check_value.specs.Classes.{array_at}
use Rattle.check_expr.specs.Meanings.{part}
use Rattle.check_type_expr.specs.Headings.{with_section}
use Rattle.check_type_expr.specs.Named.{named_type}
use Rattle.check_definition.specs.Declare.{with_def}
use Rattle.check_definition.specs.Compiled.{declared_in}
use Rattle.check_definition.specs.Export.{exports, reached_of}
use Rattle.check_definition.specs.Predeclared.{console, first_scope}
use Rattle.check_block.specs.Declarations.{Course, with_decl, declared_block, declared_module}
use Rattle.check_scope.specs.declared.inner.Outside.{Outside}
use Rattle.check_scope.specs.Inwards.{inwards, left_procedure}
use Rattle.check_block.specs.Inner.{entered_procedure}
use Rattle.check_body.specs.Own.{implementation_scope}
use Rattle.check_body.specs.Elaborating.{Elaborates}
use Rattle.check_body.specs.Checked.{body_module}
use Rattle.law_well_formed.specs.Formed.{Holds}
use Rattle.law_well_formed.specs.FormedRanges.{first_types}
use Rattle.law_programs.specs.Typing.{IsWord, IsIndexed}
use Rattle.law_programs.specs.Scopes.{formal_slot, variable_slot}

-- ---- types

-- the index of an array is of a scalar type
abbrev pub ShapeIndexed : Types → Shape → Type 0
ShapeIndexed types (shape.Array i e) = is_some (scalar_at types i) ≡ true
ShapeIndexed types (shape.Scalar s) = Unit {0}
ShapeIndexed types shape.Set = Unit {0}
ShapeIndexed types (shape.Record fs) = Unit {0}
ShapeIndexed types (shape.Procedure p) = Unit {0}
ShapeIndexed types (shape.Open e) = Unit {0}

abbrev pub AllIndexed : Types → List Made → Type 0
AllIndexed types [] = Unit {0}
AllIndexed types (m ∷ ms) = ShapeIndexed types m.shape × AllIndexed types ms

abbrev pub OthersIndexed : Types → List (ℕ × List Made) → Type 0
OthersIndexed types [] = Unit {0}
OthersIndexed types (e ∷ es) = AllIndexed types e.1 × OthersIndexed types es

-- all types that are known
pub record TypesIndexed (types : Types) : Type 0 where
  pub own : AllIndexed types types.own
  pub others : OthersIndexed types types.others

-- ---- names

-- a variable of the module stands among its variables, with its type
abbrev pub MeaningPlaced : (home : ℕ) → List TypeNo → Meaning → Type 0
MeaningPlaced home vs (meaning.Variable v) = v.home ≡ home → slice_get vs v.number ≡ Some v.of
MeaningPlaced home vs (meaning.Constant v) = Unit {0}
MeaningPlaced home vs (meaning.Type t n) = Unit {0}
MeaningPlaced home vs (meaning.Local v) = Unit {0}
MeaningPlaced home vs (meaning.Field f) = Unit {0}
MeaningPlaced home vs (meaning.Procedure p) = Unit {0}
MeaningPlaced home vs (meaning.LocalProcedure p) = Unit {0}
MeaningPlaced home vs meaning.Ahead = Unit {0}
MeaningPlaced home vs (meaning.Standard f) = Unit {0}
MeaningPlaced home vs (meaning.Module k) = Unit {0}

abbrev pub KnownPlaced : {T : Type 0} → (home : ℕ) → List TypeNo → Known T → Type 0
KnownPlaced home vs Later = Unit {0}
KnownPlaced home vs Ahead = Unit {0}
KnownPlaced home vs Begun = Unit {0}
KnownPlaced home vs (Headed r) = Holds (MeaningPlaced home vs) r
KnownPlaced home vs (Declared o r) = Holds (MeaningPlaced home vs) r

abbrev pub NamesPlaced : {T : Type 0} → (home : ℕ) → List TypeNo → List (List ℕ × Known T) → Type 0
NamesPlaced home vs [] = Unit {0}
NamesPlaced home vs (e ∷ es) = KnownPlaced home vs e.1 × NamesPlaced home vs es

abbrev pub ScopePlaced : {T : Type 0} → Scope T → Type 0
ScopePlaced s = NamesPlaced s.types.home s.variables s.own

-- what another module exports: no variable of this one, and none of a procedure
abbrev pub IsElsewhere : (home : ℕ) → Meaning → Type 0
IsElsewhere home (meaning.Variable v) = v.home ≡ home → ⊥
IsElsewhere home (meaning.Local v) = ⊥
IsElsewhere home (meaning.Constant v) = Unit {0}
IsElsewhere home (meaning.Type t n) = Unit {0}
IsElsewhere home (meaning.Field f) = Unit {0}
IsElsewhere home (meaning.Procedure p) = Unit {0}
IsElsewhere home (meaning.LocalProcedure p) = Unit {0}
IsElsewhere home meaning.Ahead = Unit {0}
IsElsewhere home (meaning.Standard f) = Unit {0}
IsElsewhere home (meaning.Module k) = Unit {0}

abbrev pub ExportsElsewhere : (home : ℕ) → List (List ℕ × Meaning) → Type 0
ExportsElsewhere home [] = Unit {0}
ExportsElsewhere home (e ∷ es) = IsElsewhere home e.1 × ExportsElsewhere home es

abbrev pub TablesElsewhere : (home : ℕ) → List Table → Type 0
TablesElsewhere home [] = Unit {0}
TablesElsewhere home (t ∷ ts) = ExportsElsewhere home t.exported × TablesElsewhere home ts

-- ---- sets that are constants have 32 bits

abbrev pub MeaningWord : Meaning → Type 0
MeaningWord (meaning.Constant v) = IsWord v
MeaningWord (meaning.Type t n) = Unit {0}
MeaningWord (meaning.Variable v) = Unit {0}
MeaningWord (meaning.Local v) = Unit {0}
MeaningWord (meaning.Field f) = Unit {0}
MeaningWord (meaning.Procedure p) = Unit {0}
MeaningWord (meaning.LocalProcedure p) = Unit {0}
MeaningWord meaning.Ahead = Unit {0}
MeaningWord (meaning.Standard f) = Unit {0}
MeaningWord (meaning.Module k) = Unit {0}

abbrev pub KnownWord : {T : Type 0} → Known T → Type 0
KnownWord Later = Unit {0}
KnownWord Ahead = Unit {0}
KnownWord Begun = Unit {0}
KnownWord (Headed r) = Holds MeaningWord r
KnownWord (Declared o r) = Holds MeaningWord r

abbrev pub NamesWords : {T : Type 0} → List (List ℕ × Known T) → Type 0
NamesWords [] = Unit {0}
NamesWords (e ∷ es) = KnownWord e.1 × NamesWords es

abbrev pub BlocksWords : {T : Type 0} → List (Block T) → Type 0
BlocksWords [] = Unit {0}
BlocksWords (b ∷ bs) = NamesWords b.names × BlocksWords bs

abbrev pub ExportsWords : List (List ℕ × Meaning) → Type 0
ExportsWords [] = Unit {0}
ExportsWords (e ∷ es) = MeaningWord e.1 × ExportsWords es

abbrev pub TablesWords : List Table → Type 0
TablesWords [] = Unit {0}
TablesWords (t ∷ ts) = ExportsWords t.exported × TablesWords ts

-- the constants of a scope
pub record ScopeWords {T : Type 0} (s : Scope T) : Type 0 where
  pub names : NamesWords s.own
  pub outer : BlocksWords s.outer
  pub tables : TablesWords s.tables

-- a set that a constant expression means has 32 bits
abbrev pub ConstantsAreWords : Gathers → Type 0
ConstantsAreWords g =
    (s : Scope g.Reported) → ScopeWords s → (e : Expr) → Holds IsWord (constant g s (part g e))

-- ---- formals and variables of a procedure stand in the slots that their names say

-- behind these formals stand the other variables
abbrev pub slots_from : List Formal → List TypeNo → List (LocalKind × TypeNo)
slots_from fs vs = map formal_slot fs ++ map variable_slot (drop (length fs) vs)

-- a module has no slots
abbrev pub slots_in : Option (List Formal) → List TypeNo → List (LocalKind × TypeNo)
slots_in None vs = []
slots_in (Some fs) vs = slots_from fs vs

-- a scope of a module, or one of a procedure with these formals
abbrev pub StandsIn : {T : Type 0} → Option (List Formal) → Scope T → Type 0
StandsIn None s = s.level ≡ 0
StandsIn (Some fs) s = length fs ≤ length s.variables

abbrev pub MeaningSlot : List (LocalKind × TypeNo) → (level : ℕ) → Meaning → Type 0
MeaningSlot slots level (meaning.Local v) =
    (v.level ≡ level) × (slice_get slots v.number ≡ Some (v.kind, v.of))
MeaningSlot slots level (meaning.Constant v) = Unit {0}
MeaningSlot slots level (meaning.Type t n) = Unit {0}
MeaningSlot slots level (meaning.Variable v) = Unit {0}
MeaningSlot slots level (meaning.Field f) = Unit {0}
MeaningSlot slots level (meaning.Procedure p) = Unit {0}
MeaningSlot slots level (meaning.LocalProcedure p) = Unit {0}
MeaningSlot slots level meaning.Ahead = Unit {0}
MeaningSlot slots level (meaning.Standard f) = Unit {0}
MeaningSlot slots level (meaning.Module k) = Unit {0}

abbrev pub KnownSlot : {T : Type 0} → List (LocalKind × TypeNo) → (level : ℕ) → Known T → Type 0
KnownSlot slots level Later = Unit {0}
KnownSlot slots level Ahead = Unit {0}
KnownSlot slots level Begun = Unit {0}
KnownSlot slots level (Headed r) = Holds (MeaningSlot slots level) r
KnownSlot slots level (Declared o r) = Holds (MeaningSlot slots level) r

abbrev pub NamesSlots : {T : Type 0} → List (LocalKind × TypeNo) → (level : ℕ)
    → List (List ℕ × Known T) → Type 0
NamesSlots slots level [] = Unit {0}
NamesSlots slots level (e ∷ es) = KnownSlot slots level e.1 × NamesSlots slots level es

abbrev pub ScopeSlots : {T : Type 0} → Option (List Formal) → Scope T → Type 0
ScopeSlots o s = NamesSlots (slots_in o s.variables) s.level s.own

-- If the formals of a procedure break no rule in its scope, they are its first variables.
abbrev pub FormalsAreSlots : Gathers → Type 0
FormalsAreSlots g =
    (s : Scope g.Reported) (seen : ℕ) (h : Heading) (fs : List Formal)
    → fold (with_section g (inwards s seen)) (Ok []) h.formals ≡ Ok fs
    → let e = (entered_procedure g s seen h).0 in
    (e.variables ≡ map (λ f. f.of) fs) × ScopeSlots (Some fs) e

-- Two scopes in which names of types mean the same have the same formals.
abbrev pub FormalsStay : Gathers → Type 0
FormalsStay g =
    (a b : Scope g.Reported)
    → ((q : Qualified) (t : TypeNo) → named_type g a q ≡ Ok t → named_type g b q ≡ Ok t)
    → (xs : List Section) (fs : List Formal)
    → fold (with_section g a) (Ok []) xs ≡ Ok fs
    → fold (with_section g b) (Ok []) xs ≡ Ok fs

-- ---- what is carried from one scope to another

-- Types and variables stay, arrays keep indices of scalar types, variables stand where their names
-- say, variables of procedures stand in their slots, and sets that are constants have 32 bits.
pub record Carries {T : Type 0} (s s' : Scope T) : Type 0 where
  pub home : s'.types.home ≡ s.types.home
  pub tables : s'.tables ≡ s.tables
  pub types : (t : TypeNo) (m : Made) → made_at s.types t ≡ Some m → made_at s'.types t ≡ Some m
  pub variables : (n : ℕ) (t : TypeNo) → slice_get s.variables n ≡ Some t
      → slice_get s'.variables n ≡ Some t
  pub indexed : TypesIndexed s.types → TypesIndexed s'.types
  pub placed : ScopePlaced s → ScopePlaced s'
  pub words : ScopeWords s → ScopeWords s'
  pub longer : length s.variables ≤ length s'.variables
  pub level : s'.level ≡ s.level
  pub slots : (o : Option (List Formal)) → StandsIn o s → ScopeSlots o s → ScopeSlots o s'

-- ---- the laws

-- the index of an array that is known
abbrev pub IndexedAreKnown : Type 0
IndexedAreKnown =
    (types : Types) → TypesIndexed types → (t i e : TypeNo) → array_at types t ≡ Some (i, e)
    → IsIndexed types i

-- a declaration of a definition carries on,
abbrev pub DefsCarry : Gathers → Type 0
DefsCarry g = (st : State (Unit {0}) g.Reported) (d : Def) → Carries st.0 (with_def g st d).0

-- one of a block,
abbrev pub DeclsCarry : Gathers → Type 0
DeclsCarry g =
    (ends : List ℕ) (c : Course g.Reported) (d : Decl) → Carries c.0 (with_decl g ends c d).0

-- all declarations of a block,
abbrev pub BlocksCarry : Gathers → Type 0
BlocksCarry g =
    (ends : List ℕ) (st : State (Unit {0}) g.Reported) (first : ℕ) (ds : List Decl)
    → Carries st.0 (declared_block g ends st first ds).0

-- the declarations of a definition, behind its imports,
abbrev pub DefinitionsCarry : Gathers → Type 0
DefinitionsCarry g =
    (m : Module) (modules : List (List ℕ × ℕ)) (s : Scope g.Reported) (ds : List Def)
    → TablesElsewhere s.types.home s.tables → Carries s (declared_in g m modules s ds).0

-- and the declarations of a module
abbrev pub ModulesCarry : Gathers → Type 0
ModulesCarry g =
    (modules : List (List ℕ × ℕ)) (ends : List ℕ) (s : Scope g.Reported) (m : Module)
    (ds : List Decl)
    → TablesElsewhere s.types.home s.tables
    → Carries s (declared_module g modules ends s m ds).0

-- into a procedure and back the types stay, and sets that are constants have 32 bits
abbrev pub ProceduresStay : Gathers → Type 0
ProceduresStay g =
    (s : Scope g.Reported)
    → ((seen : ℕ) (h : Heading)
    → ((entered_procedure g s seen h).0.types ≡ s.types)
    × (ScopeWords s → ScopeWords (entered_procedure g s seen h).0))
    × ((o : Outside)
    → ((left_procedure o s).types ≡ s.types) × (ScopeWords s → ScopeWords (left_procedure o s)))

-- ---- where a module begins, and what its table reaches

abbrev pub ReachedIndexed : Types → List ModuleTypes → Type 0
ReachedIndexed types [] = Unit {0}
ReachedIndexed types (m ∷ ms) = AllIndexed types m.made × ReachedIndexed types ms

abbrev pub TablesIndexed : Types → List Table → Type 0
TablesIndexed types [] = Unit {0}
TablesIndexed types (t ∷ ts) = ReachedIndexed types t.reached × TablesIndexed types ts

-- The types that a module begins with have indices of scalar types, if the types that its tables
-- reach have. So have the types that its own table reaches,
abbrev pub TablesCarry : Type 0
TablesCarry =
    ((home : ℕ) (tables : List Table) → TablesIndexed (first_types home tables) tables
    → TypesIndexed (first_types home tables))
    × ((types : Types) → TypesIndexed types → ReachedIndexed types (reached_of types))

-- and what it reaches stays so for all who know more types
abbrev pub ReachedStay : Type 0
ReachedStay =
    (a b : Types) → ((t : TypeNo) (m : Made) → made_at a t ≡ Some m → made_at b t ≡ Some m)
    → (ms : List ModuleTypes) → ReachedIndexed a ms → ReachedIndexed b ms

-- the sets that are constants where a module begins have 32 bits, if those in its tables have; so
-- have those that it exports
abbrev pub WordsCarry : Gathers → Type 0
WordsCarry g =
    ((home : ℕ) (tables : List Table) → TablesWords tables
    → ScopeWords (first_scope {T = g.Reported} home tables))
    × ((s : Scope g.Reported) → ScopeWords s → ExportsWords (exports s.own))

-- what a module exports is no variable of a procedure
abbrev pub ExportsFree : List (List ℕ × Meaning) → Type 0
ExportsFree [] = Unit {0}
ExportsFree (e ∷ es) = MeaningSlot [] 0 e.1 × ExportsFree es

-- A module exports no variable of a procedure, and begins without one.
abbrev pub ModulesHaveNoSlots : Gathers → Type 0
ModulesHaveNoSlots g =
    ((s : Scope g.Reported) → s.level ≡ 0 → ScopeSlots None s → ExportsFree (exports s.own))
    × ((home : ℕ) (tables : List Table)
    → let s = first_scope {T = g.Reported} home tables in ScopeSlots None s × ScopePlaced s)
    × ((own : Table) (tables : List Table) → ExportsFree own.exported
    → ScopeSlots None (implementation_scope {T = g.Reported} own tables))

-- Where an implementation begins, sets that are constants have 32 bits, if those that its
-- definition and the other tables export have.
abbrev pub ImplementationsAreWords : Gathers → Type 0
ImplementationsAreWords g =
    (own : Table) (tables : List Table) → ExportsWords own.exported → TablesWords tables
    → ScopeWords (implementation_scope {T = g.Reported} own tables)

-- ---- whole bodies

-- the types that an implementation knows where it begins
abbrev pub implementation_types : (own : Table) → List Table → Types
implementation_types own tables = (implementation_scope {T = Unit {0}} own tables).types

-- a body begins with types that have indices of scalar types
abbrev pub BodyBegins : (number : ℕ) → Option Table → List Table → Contents → Type 0
BodyBegins number own tables (contents.Definition ds) = Unit {0}
BodyBegins number None tables (contents.Implementation b) = Unit {0}
BodyBegins number (Some own) tables (contents.Implementation b) =
    TypesIndexed (implementation_types own tables) × TablesElsewhere own.number tables
BodyBegins number own tables (contents.Program b) =
    TypesIndexed (first_types number tables) × TablesElsewhere number tables

-- then its module knows types of this kind
abbrev pub BodiesCarry : Gathers → Type 0
BodiesCarry g =
    (elaborates : Elaborates g.Reported) (number : ℕ) (m : Module) (own : Option Table)
    (tables : List Table)
    → BodyBegins number own (tables ++ console ∷ []) m.contents
    → Holds (λ t. TypesIndexed t.types) (body_module g elaborates number m own tables)

-- The types that an implementation begins with have indices of scalar types, if the types that its
-- definition and the other tables reach have.
abbrev pub ImplementationsCarry : Type 0
ImplementationsCarry =
    (own : Table) (tables : List Table)
    → ReachedIndexed (implementation_types own tables) own.reached
    → TablesIndexed (implementation_types own tables) tables
    → TypesIndexed (implementation_types own tables)
