-- What the checker makes has ranges of the language: constants are numbers of their types, and
-- types have these ranges.
use Rattle.std.specs.Prelude.{◌≡◌, ℕ, ℤ, ◌≤ℤ◌, pos, negsuc, Bool, true, false, ◌&&◌, int_le, List, [], ◌∷◌, Option, Some, None}
use Rattle.std.specs.List.{list_all}
use Rattle.m2_tree.specs.declared.expr.Expr.{Expr, Expr-F, fold-Expr}
use Rattle.m2_tree.specs.declared.expr.Expr.TheOpen as layer
use Rattle.m2_tree.specs.declared.expr.Selector.{Selector-F}
use Rattle.m2_tree.specs.declared.expr.Designator.{Designator-F}
use Rattle.m2_tree.specs.declared.expr.Item.{Item-F}
use Rattle.m2_tree.specs.declared.name.Ident.{Ident}
use Rattle.m2_tree.specs.declared.decl.Simple.{Simple}
use Rattle.m2_tree.specs.declared.decl.Simple.TheVariants as simple
use Rattle.m2_tree.specs.declared.decl.TypeExpr.{TypeExpr, TypeExpr-F, fold-TypeExpr}
use Rattle.m2_tree.specs.declared.decl.TypeExpr.TheOpen as tlayer
use Rattle.m2_tree.specs.declared.decl.Field.{Field-F}
use Rattle.m2_tree.specs.declared.decl.Constant.{Constant}
use Rattle.m2_tree.specs.declared.decl.TypeDecl.{TypeDecl}
use Rattle.m2_tree.specs.declared.decl.Variables.{Variables}
use Rattle.m2_tree.specs.declared.decl.Heading.{Heading}
use Rattle.m2_tree.specs.declared.decl.Module.{Module}
use Rattle.m2_tree.specs.declared.decl.Def.{Def}
use Rattle.m2_tree.specs.declared.decl.Def.TheVariants as def
use Rattle.m2_tree.specs.declared.decl.Decl.{Decl, Decl-F, out-Decl}
use Rattle.m2_tree.specs.declared.decl.Decl.TheOpen as dlayer
use Rattle.typed_tree.specs.declared.types.TypeNo.{TypeNo}
use Rattle.typed_tree.specs.declared.shape.Scalar.{Scalar as Range}
use Rattle.typed_tree.specs.declared.shape.Shape.{Shape}
use Rattle.typed_tree.specs.declared.shape.Shape.TheVariants as shape
use Rattle.typed_tree.specs.declared.shape.Made.{Made}
use Rattle.typed_tree.specs.declared.meaning.Value.{Value}
use Rattle.typed_tree.specs.declared.meaning.Value.TheVariants as value
use Rattle.typed_tree.specs.declared.meaning.Meaning.{Meaning}
use Rattle.typed_tree.specs.declared.meaning.Meaning.TheVariants as meaning
use Rattle.typed_tree.specs.declared.table.ModuleTypes.{ModuleTypes}
use Rattle.typed_tree.specs.declared.table.Table.{Table}
use Rattle.typed_tree.specs.declared.known_types.Types.{Types}
use Rattle.typed_tree.specs.Known.{scalar_at}
use Rattle.check_scope.specs.declared.known.Known.{Known}
use Rattle.check_scope.specs.declared.known.Known.TheVariants.{Later, Ahead, Begun, Headed, Declared}
use Rattle.check_scope.specs.declared.scope.Block.{Block}
use Rattle.check_scope.specs.declared.scope.Scope.{Scope}
use Rattle.check_scope.specs.Elaborated.{Gathers}
use Rattle.check_const.specs.Parts.{constant}
use Rattle.check_expr.specs.Meanings.{part}
use Rattle.check_type_expr.specs.Made.{type_of}
use Rattle.check_definition.specs.Declare.{with_def}
use Rattle.check_definition.specs.Compiled.{declared_in}
use Rattle.check_definition.specs.Export.{exports, reached_of}
use Rattle.check_definition.specs.Predeclared.{others_of, first_scope}
use Rattle.check_scope.specs.Scopes.{State}
use Rattle.check_block.specs.Declarations.{Course, with_decl, declared_block, declared_module}
use Rattle.check_scope.specs.declared.inner.Outside.{Outside}
use Rattle.check_scope.specs.Inwards.{left_procedure}
use Rattle.check_block.specs.Inner.{entered_procedure}
use Rattle.law_well_formed.specs.Formed.{Holds}
use Rattle.law_modules.specs.Ranges.{AreRangedFrom, OthersRanged, AreRanged}

-- ---- trees: numbers and characters are as the scanner gives them, and an enumeration has a
-- constant

abbrev pub fits_character : ℕ → Bool
fits_character c = int_le (pos c) (pos 255)

abbrev pub both_fit : {O : Type 0} → O × Bool → Bool
both_fit x = x.1

abbrev pub itself : Bool → Bool
itself b = b

abbrev pub fit_if : Option (List Bool) → Bool
fit_if None = true
fit_if (Some bs) = list_all itself bs

abbrev pub fits_layer : Expr-F Bool Bool Bool Bool → Bool
fits_layer (layer.Number at n) = int_le (pos n) (pos 4294967295)
fits_layer (layer.Char at c) = fits_character c
fits_layer (layer.Text at t) = list_all fits_character t
fits_layer (layer.Set name at items) = true
fits_layer (layer.Not at e) = e
fits_layer (layer.Bracketed at e) = e
fits_layer (layer.Use d args) = d && fit_if args
fits_layer (layer.Term e rest) = e && list_all both_fit rest
fits_layer (layer.Sum sign e rest) = e && list_all both_fit rest
fits_layer (layer.Relation a o b) = a && b

abbrev pub fits_selector : Selector-F Bool Bool Bool Bool → Bool
fits_selector x = true

abbrev pub fits_designator : Designator-F Bool Bool Bool Bool → Bool
fits_designator x = true

abbrev pub fits_item : Item-F Bool Bool Bool Bool → Bool
fits_item x = true

unfoldable pub fits : Expr → Bool
fits = fold-Expr Bool Bool Bool Bool fits_layer fits_selector fits_designator fits_item

abbrev pub has_names : List Ident → Bool
has_names [] = false
has_names (x ∷ xs) = true

abbrev pub fits_simple : Simple → Bool
fits_simple (simple.Named q) = true
fits_simple (simple.Enumeration at names) = has_names names
fits_simple (simple.Subrange of at low high) = fits low && fits high

abbrev pub fits_type_layer : TypeExpr-F Bool Bool → Bool
fits_type_layer (tlayer.Simple t) = fits_simple t
fits_type_layer (tlayer.Array at index of) = fits_simple index && of
fits_type_layer (tlayer.Record at fields) = list_all itself fields
fits_type_layer (tlayer.Procedure at formals of) = true

abbrev pub fits_field : Field-F Bool Bool → Bool
fits_field f = f.of

unfoldable pub fits_type : TypeExpr → Bool
fits_type = fold-TypeExpr Bool Bool fits_type_layer fits_field

abbrev pub fits_constant : Constant → Bool
fits_constant c = fits c.value

abbrev pub fits_type_decl : TypeDecl → Bool
fits_type_decl d = fits_type d.of

abbrev pub fits_variables : Variables → Bool
fits_variables v = fits_type v.of

abbrev pub fits_def : Def → Bool
fits_def (def.Constants cs) = list_all fits_constant cs
fits_def (def.Types ts) = list_all fits_type_decl ts
fits_def (def.Variables vs) = list_all fits_variables vs
fits_def (def.Procedure h) = true

abbrev pub fits_decl_layer : {A B : Type 0} → Decl-F A B → Bool
fits_decl_layer (dlayer.Constants cs) = list_all fits_constant cs
fits_decl_layer (dlayer.Types ts) = list_all fits_type_decl ts
fits_decl_layer (dlayer.Variables vs) = list_all fits_variables vs
fits_decl_layer (dlayer.Procedure h b) = true

-- a declaration, and not what stands in its block
abbrev pub fits_decl : Decl → Bool
fits_decl d = fits_decl_layer (out-Decl d)

-- ---- numbers of types

module _ (types : Types) where
  -- a number of the type t, which computes in the type base
  pub record IsNumber (t base : TypeNo) (n : ℤ) : Type 0 where
    pub range : Range
    pub at : scalar_at types t ≡ Some range
    pub own : range.base ≡ base
    pub low : range.low ≤ℤ n
    pub high : n ≤ℤ range.high

  abbrev pub ValueRanged : Value → Type 0
  ValueRanged (value.Number n) = (negsuc 2147483647 ≤ℤ n) × (n ≤ℤ pos 4294967295)
  ValueRanged (value.Scalar s) = IsNumber s.of s.base s.number × IsNumber s.base s.base s.number
  ValueRanged (value.Set bits) = Unit {0}
  ValueRanged (value.Text text) = list_all fits_character text ≡ true

  -- what a scalar type computes in is known, computes in itself, and has all its numbers
  pub record IsBased (r : Range) : Type 0 where
    pub low : IsNumber r.base r.base r.low
    pub high : IsNumber r.base r.base r.high

  abbrev pub ShapeBased : Shape → Type 0
  ShapeBased (shape.Scalar r) = IsBased r
  ShapeBased shape.Set = Unit {0}
  ShapeBased (shape.Array i e) = Unit {0}
  ShapeBased (shape.Record fs) = Unit {0}
  ShapeBased (shape.Procedure p) = Unit {0}
  ShapeBased (shape.Open e) = Unit {0}

  abbrev pub AllBased : List Made → Type 0
  AllBased [] = Unit {0}
  AllBased (m ∷ ms) = ShapeBased m.shape × AllBased ms

  abbrev pub OthersBased : List (ℕ × List Made) → Type 0
  OthersBased [] = Unit {0}
  OthersBased (e ∷ es) = AllBased e.1 × OthersBased es

  -- ---- names

  abbrev pub MeaningRanged : Meaning → Type 0
  MeaningRanged (meaning.Constant v) = ValueRanged v
  MeaningRanged (meaning.Type t n) = Unit {0}
  MeaningRanged (meaning.Variable v) = Unit {0}
  MeaningRanged (meaning.Local v) = Unit {0}
  MeaningRanged (meaning.Field f) = Unit {0}
  MeaningRanged (meaning.Procedure p) = Unit {0}
  MeaningRanged (meaning.LocalProcedure p) = Unit {0}
  MeaningRanged meaning.Ahead = Unit {0}
  MeaningRanged (meaning.Standard f) = Unit {0}
  MeaningRanged (meaning.Module k) = Unit {0}

  abbrev pub KnownRanged : {T : Type 0} → Known T → Type 0
  KnownRanged Later = Unit {0}
  KnownRanged Ahead = Unit {0}
  KnownRanged Begun = Unit {0}
  KnownRanged (Headed r) = Holds MeaningRanged r
  KnownRanged (Declared o r) = Holds MeaningRanged r

  abbrev pub NamesRanged : {T : Type 0} → List (List ℕ × Known T) → Type 0
  NamesRanged [] = Unit {0}
  NamesRanged (e ∷ es) = KnownRanged e.1 × NamesRanged es

  abbrev pub BlocksRanged : {T : Type 0} → List (Block T) → Type 0
  BlocksRanged [] = Unit {0}
  BlocksRanged (b ∷ bs) = NamesRanged b.names × BlocksRanged bs

  abbrev pub ExportsRanged : List (List ℕ × Meaning) → Type 0
  ExportsRanged [] = Unit {0}
  ExportsRanged (e ∷ es) = MeaningRanged e.1 × ExportsRanged es

  abbrev pub TablesRanged : List Table → Type 0
  TablesRanged [] = Unit {0}
  TablesRanged (t ∷ ts) = ExportsRanged t.exported × TablesRanged ts

-- The types that a scope knows have ranges of the language, and its constants are numbers of their
-- types.
pub record ScopeRanged {T : Type 0} (s : Scope T) : Type 0 where
  pub types : AreRanged s.types
  pub own : AllBased s.types s.types.own
  pub others : OthersBased s.types s.types.others
  pub names : NamesRanged s.types s.own
  pub outer : BlocksRanged s.types s.outer
  pub tables : TablesRanged s.types s.tables

-- if no rule is broken
abbrev pub StateRanged : {A T : Type 0} → State A T → Type 0
StateRanged st = Holds (λ x. ScopeRanged st.0) st.1

-- ---- the laws

-- a constant expression means a number of its type
abbrev pub ConstantsAreRanged : Gathers → Type 0
ConstantsAreRanged g =
    (s : Scope g.Reported) → ScopeRanged s → (e : Expr) → fits e ≡ true
    → Holds (ValueRanged s.types) (constant g s (part g e))

-- a type expression leads from a scope of this kind to another
abbrev pub TypesAreRanged : Gathers → Type 0
TypesAreRanged g =
    (s : Scope g.Reported) → ScopeRanged s → (t : TypeExpr) → fits_type t ≡ true
    → StateRanged (type_of g t s)

-- and so does a declaration of a definition,
abbrev pub DefsAreRanged : Gathers → Type 0
DefsAreRanged g =
    (st : State (Unit {0}) g.Reported) → StateRanged st → (d : Def) → fits_def d ≡ true
    → StateRanged (with_def g st d)

-- and one of a block
abbrev pub DeclsAreRanged : Gathers → Type 0
DeclsAreRanged g =
    (ends : List ℕ) (c : Course g.Reported) → StateRanged (c.0, c.1) → (d : Decl)
    → fits_decl d ≡ true → StateRanged (let n = with_decl g ends c d in (n.0, n.1))

-- ---- whole blocks

-- the imports and the declarations of a definition
abbrev pub DefinitionsAreRanged : Gathers → Type 0
DefinitionsAreRanged g =
    (m : Module) (modules : List (List ℕ × ℕ)) (s : Scope g.Reported) → ScopeRanged s
    → (ds : List Def) → list_all fits_def ds ≡ true → StateRanged (declared_in g m modules s ds)

-- the declarations of a block,
abbrev pub BlocksAreRanged : Gathers → Type 0
BlocksAreRanged g =
    (ends : List ℕ) (st : State (Unit {0}) g.Reported) (first : ℕ)
    → StateRanged st
    → (ds : List Decl)
    → list_all fits_decl ds ≡ true
    → StateRanged (let d = declared_block g ends st first ds in (d.0, d.1))

-- and the declarations of a module, behind its imports
abbrev pub ModulesAreRanged : Gathers → Type 0
ModulesAreRanged g =
    (modules : List (List ℕ × ℕ)) (ends : List ℕ) (s : Scope g.Reported) (m : Module)
    → ScopeRanged s
    → (ds : List Decl)
    → list_all fits_decl ds ≡ true
    → StateRanged (let d = declared_module g modules ends s m ds in (d.0, d.1))

-- the way into a procedure,
abbrev pub EnteredAreRanged : Gathers → Type 0
EnteredAreRanged g =
    (s : Scope g.Reported) (seen : ℕ) (h : Heading) → ScopeRanged s
    → ScopeRanged (entered_procedure g s seen h).0

-- and the way back
abbrev pub LeftAreRanged : Gathers → Type 0
LeftAreRanged g =
    (o : Outside) (s : Scope g.Reported) → ScopeRanged s → ScopeRanged (left_procedure o s)

-- ---- where a module begins, and what it exports

abbrev pub first_types : ℕ → List Table → Types
first_types home tables = record { home = home; own = []; others = others_of tables }

-- a module begins in a scope of this kind, if the types that its tables reach have these ranges,
-- and their constants are numbers of their types
abbrev pub FirstAreRanged : Gathers → Type 0
FirstAreRanged g =
    (home : ℕ) (tables : List Table)
    → OthersRanged (others_of tables)
    → OthersBased (first_types home tables) (others_of tables)
    → TablesRanged (first_types home tables) tables
    → ScopeRanged (first_scope {T = g.Reported} home tables)

-- the constants that it exports are numbers of their types
abbrev pub ExportsAreRanged : Gathers → Type 0
ExportsAreRanged g = (s : Scope g.Reported) → ScopeRanged s → ExportsRanged s.types (exports s.own)

abbrev pub ReachedRanged : List ModuleTypes → Type 0
ReachedRanged [] = Unit {0}
ReachedRanged (m ∷ ms) = AreRangedFrom m.number 0 m.made × ReachedRanged ms

abbrev pub TablesReach : List Table → Type 0
TablesReach [] = Unit {0}
TablesReach (t ∷ ts) = ReachedRanged t.reached × TablesReach ts

-- the types that a table reaches have ranges of the language, and so have those that a module knows
-- of its tables
abbrev pub ReachedAreRanged : Type 0
ReachedAreRanged =
    ((types : Types) → AreRanged types → ReachedRanged (reached_of types))
    × ((ts : List Table) → TablesReach ts → OthersRanged (others_of ts))
