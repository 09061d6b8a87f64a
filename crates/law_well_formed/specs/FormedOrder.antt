-- What the checker makes stands in order: the types that a scope knows, and those that its names
-- mean.
use Rattle.std.specs.Prelude.{◌≡◌, ℕ, true, false, List, [], ◌∷◌, ◌++◌, map, nat_eq}
use Rattle.std.specs.List.{AllByRecursion, list_any}
use Rattle.std.specs.Map.{lookup}
use Rattle.m2_tree.specs.declared.decl.Module.{Module}
use Rattle.m2_tree.specs.declared.decl.Def.{Def}
use Rattle.m2_tree.specs.declared.decl.Decl.{Decl}
use Rattle.m2_tree.specs.declared.decl.Heading.{Heading}
use Rattle.m2_tree.specs.declared.decl.TypeExpr.{TypeExpr}
use Rattle.typed_tree.specs.declared.types.TypeNo.{TypeNo}
use Rattle.typed_tree.specs.declared.shape.Shape.{Shape}
use Rattle.typed_tree.specs.declared.shape.Shape.TheVariants as shape
use Rattle.typed_tree.specs.declared.shape.Made.{Made}
use Rattle.typed_tree.specs.declared.meaning.Meaning.{Meaning}
use Rattle.typed_tree.specs.declared.meaning.Meaning.TheVariants as meaning
use Rattle.typed_tree.specs.declared.table.Table.{Table}
use Rattle.typed_tree.specs.declared.known_types.Types.{Types}
use Rattle.m2_tree.specs.Names.{same_name}
use Rattle.check_scope.specs.declared.known.Known.{Known}
use Rattle.check_scope.specs.declared.known.Known.TheVariants.{Later, Ahead, Begun, Headed, Declared}
use Rattle.check_scope.specs.declared.scope.Block.{Block}
use Rattle.check_scope.specs.declared.scope.Scope.{Scope}
use Rattle.check_scope.specs.Elaborated.{Gathers}
use Rattle.check_scope.specs.Scopes.{State}
use Rattle.check_type_expr.specs.Made.{type_of}
use Rattle.check_definition.specs.Declare.{with_def}
use Rattle.check_definition.specs.Compiled.{declared_in}
use Rattle.check_definition.specs.Export.{exports}
use Rattle.check_definition.specs.Predeclared.{others_of, first_scope}
use Rattle.check_block.specs.Declarations.{Course, with_decl, declared_block, declared_module}
use Rattle.check_scope.specs.declared.inner.Outside.{Outside}
use Rattle.check_scope.specs.Inwards.{left_procedure}
use Rattle.check_block.specs.Inner.{entered_procedure}
use Rattle.law_well_formed.specs.Formed.{Holds}
use Rattle.law_well_formed.specs.Ordered.{is_known, AreKnown, OthersOrdered, BeginsWith, AreOrdered}

-- ---- types

-- each name stands once
abbrev pub StandOnce : {V : Type 0} → List (List ℕ × V) → Type 0
StandOnce [] = Unit {0}
StandOnce (e ∷ es) = (list_any (λ k. same_name e.0 k) (map (λ x. x.0) es) ≡ false) × StandOnce es

-- a record has each field once
abbrev pub FieldsOnce : Shape → Type 0
FieldsOnce (shape.Record fs) = StandOnce fs
FieldsOnce (shape.Scalar s) = Unit {0}
FieldsOnce shape.Set = Unit {0}
FieldsOnce (shape.Array i e) = Unit {0}
FieldsOnce (shape.Procedure p) = Unit {0}
FieldsOnce (shape.Open e) = Unit {0}

abbrev pub AllOnce : List Made → Type 0
AllOnce ms = AllByRecursion (λ m. FieldsOnce m.shape) ms

-- these types are those, and further types of the module
pub record StartedFrom (base types : Types) : Type 0 where
  pub home : types.home ≡ base.home
  pub others : types.others ≡ base.others
  pub more : List Made
  pub own : types.own ≡ base.own ++ more

-- ---- names

module _ (types : Types) where
  -- the type that a name means, or the type of what it means, is known
  abbrev pub MeaningOrdered : Meaning → Type 0
  MeaningOrdered (meaning.Constant v) = Unit {0}
  MeaningOrdered (meaning.Type t n) = is_known types t ≡ true
  MeaningOrdered (meaning.Variable v) = is_known types v.of ≡ true
  MeaningOrdered (meaning.Local v) = is_known types v.of ≡ true
  MeaningOrdered (meaning.Field f) = Unit {0}
  MeaningOrdered (meaning.Procedure p) = is_known types p.heading ≡ true
  MeaningOrdered (meaning.LocalProcedure p) = is_known types p.heading ≡ true
  MeaningOrdered meaning.Ahead = Unit {0}
  MeaningOrdered (meaning.Standard f) = Unit {0}
  MeaningOrdered (meaning.Module k) = Unit {0}

  abbrev pub KnownOrdered : {T : Type 0} → Known T → Type 0
  KnownOrdered Later = Unit {0}
  KnownOrdered Ahead = Unit {0}
  KnownOrdered Begun = Unit {0}
  KnownOrdered (Headed r) = Holds MeaningOrdered r
  KnownOrdered (Declared o r) = Holds MeaningOrdered r

  abbrev pub NamesOrdered : {T : Type 0} → List (List ℕ × Known T) → Type 0
  NamesOrdered [] = Unit {0}
  NamesOrdered (e ∷ es) = KnownOrdered e.1 × NamesOrdered es

  abbrev pub BlocksOrdered : {T : Type 0} → List (Block T) → Type 0
  BlocksOrdered [] = Unit {0}
  BlocksOrdered (b ∷ bs) = NamesOrdered b.names × BlocksOrdered bs

  abbrev pub ExportsOrdered : List (List ℕ × Meaning) → Type 0
  ExportsOrdered [] = Unit {0}
  ExportsOrdered (e ∷ es) = MeaningOrdered e.1 × ExportsOrdered es

  abbrev pub TablesOrdered : List Table → Type 0
  TablesOrdered [] = Unit {0}
  TablesOrdered (t ∷ ts) = ExportsOrdered t.exported × TablesOrdered ts

-- ---- scopes

-- The types that a scope knows are the types of `base`, and further types of the module. They stand
-- in order. Its names mean types that it knows, and it knows the types of its variables.
pub record ScopeOrdered {T : Type 0} (base : Types) (s : Scope T) : Type 0 where
  pub started : StartedFrom base s.types
  pub types : AreOrdered s.types
  pub once : AllOnce s.types.own
  pub names : NamesOrdered s.types s.own
  pub outer : BlocksOrdered s.types s.outer
  pub tables : TablesOrdered s.types s.tables
  pub variables : AreKnown s.types s.variables

-- if no rule is broken
abbrev pub StateOrdered : {A T : Type 0} → Types → State A T → Type 0
StateOrdered base st = Holds (λ x. ScopeOrdered base st.0) st.1

-- a type that is made is known
abbrev pub MadeOrdered : {T : Type 0} → Types → State TypeNo T → Type 0
MadeOrdered base st = Holds (λ t. ScopeOrdered base st.0 × (is_known st.0.types t ≡ true)) st.1

-- ---- the laws

-- a type expression leads from a scope of this kind to another
abbrev pub TypesAreOrdered : Gathers → Type 0
TypesAreOrdered g =
    (base : Types) (s : Scope g.Reported) → ScopeOrdered base s → (t : TypeExpr)
    → MadeOrdered base (type_of g t s)

-- and so does a declaration of a definition,
abbrev pub DefsAreOrdered : Gathers → Type 0
DefsAreOrdered g =
    (base : Types) (st : State (Unit {0}) g.Reported) → StateOrdered base st → (d : Def)
    → StateOrdered base (with_def g st d)

-- and one of a block
abbrev pub DeclsAreOrdered : Gathers → Type 0
DeclsAreOrdered g =
    (base : Types) (ends : List ℕ) (c : Course g.Reported) → StateOrdered base (c.0, c.1)
    → (d : Decl) → StateOrdered base (let n = with_decl g ends c d in (n.0, n.1))

-- the imports and the declarations of a definition,
abbrev pub DefinitionsAreOrdered : Gathers → Type 0
DefinitionsAreOrdered g =
    (base : Types) (m : Module) (modules : List (List ℕ × ℕ)) (s : Scope g.Reported)
    → ScopeOrdered base s → (ds : List Def) → StateOrdered base (declared_in g m modules s ds)

-- the declarations of a block,
abbrev pub BlocksAreOrdered : Gathers → Type 0
BlocksAreOrdered g =
    (base : Types) (ends : List ℕ) (st : State (Unit {0}) g.Reported) (first : ℕ)
    → StateOrdered base st
    → (ds : List Decl)
    → StateOrdered base (let d = declared_block g ends st first ds in (d.0, d.1))

-- and the declarations of a module, behind its imports
abbrev pub ModulesAreOrdered : Gathers → Type 0
ModulesAreOrdered g =
    (base : Types) (modules : List (List ℕ × ℕ)) (ends : List ℕ) (s : Scope g.Reported) (m : Module)
    → ScopeOrdered base s
    → (ds : List Decl)
    → StateOrdered base (let d = declared_module g modules ends s m ds in (d.0, d.1))

-- the way into a procedure,
abbrev pub EnteredAreOrdered : Gathers → Type 0
EnteredAreOrdered g =
    (base : Types) (s : Scope g.Reported) (seen : ℕ) (h : Heading) → ScopeOrdered base s
    → ScopeOrdered base (entered_procedure g s seen h).0

-- and the way back, if the types of the variables outside are known there
abbrev pub LeftAreOrdered : Gathers → Type 0
LeftAreOrdered g =
    (base : Types) (o : Outside) (s : Scope g.Reported) → ScopeOrdered base s
    → AreKnown s.types o.variables → ScopeOrdered base (left_procedure o s)

-- ---- where a module begins, and what it exports

abbrev pub first_types : ℕ → List Table → Types
first_types home tables = record { home = home; own = []; others = others_of tables }

-- a module begins in a scope of this kind, if the types that its tables reach stand in order, and
-- their names mean these types
abbrev pub FirstAreOrdered : Gathers → Type 0
FirstAreOrdered g =
    (home : ℕ) (tables : List Table)
    → OthersOrdered [] (others_of tables)
    → BeginsWith [] (lookup (nat_eq home) (others_of tables))
    → TablesOrdered (first_types home tables) tables
    → ScopeOrdered (first_types home tables) (first_scope {T = g.Reported} home tables)

-- the types that it exports are known
abbrev pub ExportsAreOrdered : Gathers → Type 0
ExportsAreOrdered g =
    (base : Types) (s : Scope g.Reported) → ScopeOrdered base s
    → ExportsOrdered s.types (exports s.own)
