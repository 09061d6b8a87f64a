-- What a definition exports.
use Rattle.std.specs.Prelude.{◌≡◌, ℕ, ◌+◌, pos, List, [], ◌∷◌, ◌++◌, length, None, Some}
use Rattle.m2_tree.specs.declared.name.Ident.{Ident}
use Rattle.m2_tree.specs.declared.decl.Constant.{Constant}
use Rattle.m2_tree.specs.declared.decl.TypeDecl.{TypeDecl}
use Rattle.m2_tree.specs.declared.decl.Variables.{Variables}
use Rattle.m2_tree.specs.declared.decl.Heading.{Heading}
use Rattle.m2_tree.specs.declared.decl.TypeExpr.{TypeExpr, TypeExpr-F, out-TypeExpr}
use Rattle.m2_tree.specs.declared.decl.TypeExpr.TheOpen as layer
use Rattle.m2_tree.specs.declared.decl.Field.{Field}
use Rattle.typed_tree.specs.declared.types.TypeNo.{TypeNo}
use Rattle.typed_tree.specs.declared.meaning.Value.{Value}
use Rattle.typed_tree.specs.declared.meaning.Value.TheVariants as value
use Rattle.typed_tree.specs.declared.meaning.Meaning.{Meaning}
use Rattle.typed_tree.specs.declared.meaning.Meaning.TheVariants as meaning
use Rattle.typed_tree.specs.declared.shape.Made.{Made}
use Rattle.typed_tree.specs.declared.table.ModuleTypes.{ModuleTypes}
use Rattle.typed_tree.specs.declared.table.Table.{Table}
use Rattle.def_typing.specs.Parts.{Among}
use Rattle.typed_tree.specs.Names.{find_name}
use Rattle.def_typing.specs.Things.{Standing}
use Rattle.def_typing.specs.TypeExprs.{constants_listed, Member}
use Rattle.def_typing.specs.Declarations.{Declaration, OfConstant, OfType, OfVariables, OfProcedure, names_of, constants_of}
use Rattle.def_typing.specs.Definitions.{Placed, Means}
use Rattle.def_typing.specs.Imports.{Entry, Imported, OfModule, FromModule, OfName, IsFoundAt}
use Rattle.law_typing.specs.Known.{standing}

-- How many names come with a type that is declared: its own, and the constants of an enumeration.
abbrev pub names_in_layer : TypeExpr-F TypeExpr Field → ℕ
names_in_layer (layer.Simple x) = length (constants_listed x) + 1
names_in_layer other = 1

abbrev pub names_with : TypeExpr → ℕ
names_with e = names_in_layer (out-TypeExpr e)

abbrev pub variables_of : Declaration → ℕ
variables_of (OfVariables v) = length v.names
variables_of other = 0

abbrev pub procedures_of : Declaration → ℕ
procedures_of (OfProcedure h) = 1
procedures_of other = 0

abbrev pub constant_means : Member → Meaning
constant_means e =
    meaning.Constant (value.Scalar (record { of = e.0; base = e.0; number = pos e.1 }))

-- What a declaration enters for a name. The variables of a module are numbered in the order of the
-- text, and so are its procedures: the two numbers are the next ones.
pub data IsEntry (home variables procedures : ℕ) : Declaration → Ident → Meaning → Type 0 where
  a_constant : {c : Constant} {v : Value}
      → IsEntry home variables procedures (OfConstant c) c.name (meaning.Constant v)
  a_type : {d : TypeDecl} {t : TypeNo}
      → IsEntry home variables procedures (OfType d) d.name (meaning.Type t (names_with d.of))
  a_variable : {v : Variables} (before behind : List Ident) {x : Ident} {t : TypeNo}
      → v.names ≡ before ++ x ∷ behind
      → IsEntry home variables procedures (OfVariables v) x
      (meaning.Variable (record { home = home; number = variables + length before; of = t }))
  a_procedure : {h : Heading} {t : TypeNo}
      → IsEntry home variables procedures (OfProcedure h) h.name
      (meaning.Procedure (record { home = home; number = procedures; heading = t }))

-- the names with what they mean, in this order
pub data Lists (Is : Ident → Meaning → Type 0) : List Ident → List Entry → Type 0 where
  no_name : Lists Is [] []
  a_name : {x : Ident} {xs : List Ident} {m : Meaning} {es : List Entry} → Is x m → Lists Is xs es
      → Lists Is (x ∷ xs) ((x.name, m) ∷ es)

module _ (exports : ℕ → Ident → Standing) where
  -- A declaration's own name means what it says.
  pub record OwnMeans (variables procedures : ℕ) (p : Placed) (x : Ident) (m : Meaning)
      : Type 0 where
    pub entry : IsEntry p.at.types.home variables procedures p.what x m
    pub meaning : Means exports p (standing m)

  -- what a constant of an enumeration in its type means
  abbrev pub ConstantMeans : Placed → Ident → Meaning → Type 0
  ConstantMeans p x m =
      (e : Member) × (find_name x.name p.adds.brings ≡ Some e) × (m ≡ constant_means e)

  -- What declarations export, in the order of the text: the names of each, and behind them the
  -- constants of the enumerations in its type.
  pub data AreExported : (variables procedures : ℕ) → List Placed → List Entry → Type 0 where
    nothing_exported : {v p : ℕ} → AreExported v p [] []
    one_exports : {v p : ℕ} {d : Placed} {ds : List Placed} {own constants rest : List Entry}
        → Lists (OwnMeans v p d) (names_of d.what) own
        → Lists (ConstantMeans d) (constants_of d.what) constants
        → AreExported (v + variables_of d.what) (p + procedures_of d.what) ds rest
        → AreExported v p (d ∷ ds) (own ++ (constants ++ rest))

-- ---- the modules that it imports

-- a module that an import names
pub data NamesModule (name : Ident) : Imported → Type 0 where
  by_import : NamesModule name (OfModule name)
  by_from : NamesModule name (FromModule name)

-- The modules that imports name, each once, in the order of the text, with their numbers. As the
-- imports stand here, the last one comes first.
pub data AreModules (tables : List Table) : List Imported → List (List ℕ × ℕ) → Type 0 where
  no_import : AreModules tables [] []
  a_module : {x : Imported} {front : List Imported} {ms : List (List ℕ × ℕ)} {name : Ident}
      {t : Table} {k : ℕ} → AreModules tables front ms → NamesModule name x
      → IsFoundAt (λ t. t.name ≡ name.name) t tables k → find_name name.name ms ≡ None
      → AreModules tables (x ∷ front) (ms ++ (name.name, t.number) ∷ [])
  again : {x : Imported} {front : List Imported} {ms : List (List ℕ × ℕ)} {name : Ident}
      → AreModules tables front ms → NamesModule name x → (find_name name.name ms ≡ None → ⊥)
      → AreModules tables (x ∷ front) ms
  -- A module without a definition is refused.
  without_definition : {x : Imported} {front : List Imported} {ms : List (List ℕ × ℕ)}
      {name : Ident} → AreModules tables front ms → NamesModule name x
      → ((t : Table) (k : ℕ) → IsFoundAt (λ t. t.name ≡ name.name) t tables k → ⊥)
      → AreModules tables (x ∷ front) ms
  a_name_of_it : {from name : Ident} {front : List Imported} {ms : List (List ℕ × ℕ)}
      → AreModules tables front ms → AreModules tables (OfName from name ∷ front) ms

-- ---- the types that are met through it

abbrev pub all_reached : List Table → List ModuleTypes
all_reached [] = []
all_reached (t ∷ ts) = t.reached ++ all_reached ts

-- The types of each module, once: those that come first. As they stand here, the last ones come
-- first.
pub data AreMet : List ModuleTypes → List ModuleTypes → Type 0 where
  nothing_met : AreMet [] []
  first_met : {m : ModuleTypes} {front ms : List ModuleTypes} → AreMet front ms
      → ((x : ModuleTypes) → Among x ms → x.number ≡ m.number → ⊥)
      → AreMet (m ∷ front) (ms ++ m ∷ [])
  met_again : {m x : ModuleTypes} {front ms : List ModuleTypes} → AreMet front ms → Among x ms
      → x.number ≡ m.number → AreMet (m ∷ front) ms

-- its own types, if it makes some
abbrev pub own_met : ℕ → List Made → List ModuleTypes
own_met home [] = []
own_met home (m ∷ ms) = record { number = home; made = m ∷ ms } ∷ []
