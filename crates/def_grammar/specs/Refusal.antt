-- Which lists of tokens have a tree, and which token of any other list is refused, and why.
use Rattle.std.specs.Prelude.{◌≡◌, ◌≤◌, ℕ, List, [], ◌∷◌, ◌++◌, length, Result, Ok, Err}
use Rattle.m2_tree.specs.declared.pos.Pos.{Pos}
use Rattle.m2_tree.specs.declared.token.Lexeme.{Lexeme}
use Rattle.m2_tree.specs.declared.token.Lexeme.TheVariants as lexeme
use Rattle.m2_tree.specs.declared.token.Symbol.TheVariants as symbol
use Rattle.m2_tree.specs.declared.token.Token.{Token}
use Rattle.m2_tree.specs.declared.decl.Module.{Module}
use Rattle.def_grammar.specs.declared.refusal.GrammarRule.{GrammarRule}
use Rattle.def_grammar.specs.declared.refusal.GrammarRule.TheVariants.{Unfit, Misnamed, TooDeep}
use Rattle.def_grammar.specs.declared.refusal.ParseRefusal.{ParseRefusal}
use Rattle.def_grammar.specs.declared.refusal.ParseError.{ParseError}
use Rattle.def_grammar.specs.declared.refusal.ParseError.TheVariants.{NoMemory, Refused}
use Rattle.def_grammar.specs.Rule.{module_rule}
use Rattle.def_grammar.specs.Grammar.{ast, rule}
use Rattle.def_grammar.specs.Spelling.{Spells, Breaks}

-- The tokens are a module by the grammar alone, and this is its tree.
abbrev pub IsModule : List Token → Module → Type 0
IsModule ts m = Spells (ast module_rule) (rule module_rule) m ts

abbrev pub max_nesting : ℕ
max_nesting = 200

-- A module, or the beginning of one, breaks the rule on closing names or the one on nesting where
-- `at` is what is left.
abbrev pub BreaksRule : List Token → List Token → GrammarRule → Type 0
BreaksRule ts at f = Breaks (ast module_rule) (rule module_rule) max_nesting ts at f

-- This is the tree of the tokens.
abbrev pub IsTree : List Token → Module → Type 0
IsTree ts m = IsModule ts m × ((at : List Token) (f : GrammarRule) → BreaksRule ts at f → ⊥)

-- some module begins with these tokens
abbrev pub IsOpen : List Token → Type 0
IsOpen front = (more : List Token) × (m : Module) × IsModule (front ++ more) m

-- no module goes on with the next token, or ends if there is none
abbrev pub IsUnfit : List Token → List Token → Type 0
IsUnfit front [] = (m : Module) → IsModule front m → ⊥
IsUnfit front (t ∷ ts) = IsOpen (front ++ t ∷ []) → ⊥

-- The tokens are refused for this fault where `at` is what is left of them.
abbrev pub IsRefused : List Token → List Token → GrammarRule → Type 0
IsRefused ts at Unfit = (front : List Token) × (ts ≡ front ++ at) × IsOpen front × IsUnfit front at
IsRefused ts at Misnamed = BreaksRule ts at Misnamed
IsRefused ts at TooDeep = BreaksRule ts at TooDeep

-- no fault comes before this place
abbrev pub IsLeast : List Token → List Token → Type 0
IsLeast ts at =
    (other : List Token) (f : GrammarRule) → IsRefused ts other f → length other ≤ length at

-- 13 for the words that stand in no module, or only at its head
abbrev pub unfit_number : Lexeme → ℕ
unfit_number (lexeme.Symbol symbol.Pointer) = 13
unfit_number (lexeme.Symbol symbol.Qualified) = 13
unfit_number (lexeme.Symbol symbol.Export) = 13
unfit_number (lexeme.Symbol symbol.Set) = 13
unfit_number (lexeme.Symbol symbol.Module) = 13
unfit_number _ = 10

abbrev pub number_of : GrammarRule → List Token → ℕ
number_of Misnamed at = 11
number_of TooDeep at = 12
number_of Unfit [] = 10
number_of Unfit (t ∷ ts) = unfit_number t.lexeme

abbrev pub place_of : List Token → Pos
place_of [] = record { line = 1; col = 1 }
place_of (t ∷ ts) = t.pos

pub record IsReported (ts : List Token) (r : ParseRefusal) : Type 0 where
  pub at : List Token
  pub broken : GrammarRule
  pub refused : IsRefused ts at broken
  pub least : IsLeast ts at
  pub pos : r.pos ≡ place_of at
  pub number : r.number ≡ number_of broken at

abbrev pub Parses : List Token → Result Module ParseError → Type 0
Parses ts (Ok m) = IsTree ts m
Parses ts (Err NoMemory) = Unit {0}
Parses ts (Err (Refused r)) = IsReported ts r

-- the answer, unless memory fails
abbrev pub Answers : Result Module ParseError → Module → Type 0
Answers (Ok m) tree = m ≡ tree
Answers (Err NoMemory) tree = Unit {0}
Answers (Err (Refused r)) tree = ⊥
