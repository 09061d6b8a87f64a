-- Which modules a text imports.
use Rattle.std.specs.Prelude.{◌≡◌, ◌≤◌, ◌⊎◌, ℕ, List, [], ◌∷◌, Option, Some, None, map, length}
use Rattle.std.specs.List.{flat_map}
use Rattle.m2_tree.specs.declared.token.Token.{Token}
use Rattle.m2_tree.specs.declared.name.Ident.{Ident}
use Rattle.m2_tree.specs.declared.decl.Import.{Import}
use Rattle.m2_tree.specs.declared.decl.Module.{Module}
use Rattle.scan_tokens.specs.Division.{HasTokens, max_text}
use Rattle.def_grammar.specs.Refusal.{IsTree}

-- the module behind FROM, else each that is listed
abbrev pub named_in : Option Ident → List Ident → List (List ℕ)
named_in (Some from) names = from.name ∷ []
named_in None names = map (λ i. i.name) names

-- the modules that an import names
abbrev pub named_by : Import → List (List ℕ)
named_by i = named_in i.from i.names

-- the modules that a tree imports, as they are written
abbrev pub names_of_imports : Module → List (List ℕ)
names_of_imports tree = flat_map named_by tree.imports

-- the modules that tokens import: the imports of their tree, or none if they have no tree
abbrev pub TokensImport : List Token → List (List ℕ) → Type 0
TokensImport tokens names =
    ((tree : Module) × IsTree tokens tree × (names ≡ names_of_imports tree))
    ⊎ (((tree : Module) → IsTree tokens tree → ⊥) × (names ≡ []))

-- these are the tokens of the text
pub record AreTokens (text : List ℕ) (tokens : List Token) : Type 0 where
  pub short : length text ≤ max_text
  pub divides : HasTokens text tokens

-- the modules that a text imports: the imports of its tokens, or none if it has no tokens
abbrev pub Imports : (text : List ℕ) → (names : List (List ℕ)) → Type 0
Imports text names =
    ((tokens : List Token) × AreTokens text tokens × TokensImport tokens names)
    ⊎ (((tokens : List Token) → AreTokens text tokens → ⊥) × (names ≡ []))
