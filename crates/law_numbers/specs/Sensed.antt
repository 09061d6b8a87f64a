-- That names mean behind the declarations of a block what the rules say, by number.
use Rattle.std.specs.Prelude.{◌≡◌, ℕ, ◌==◌, true, false, List, [], length, Option, None, Ok}
use Rattle.m2_tree.specs.declared.name.Ident.{Ident}
use Rattle.m2_tree.specs.declared.decl.Decl.{Decl}
use Rattle.typed_tree.specs.declared.meaning.Meaning.{Meaning}
use Rattle.typed_tree.specs.Names.{find_name}
use Rattle.check_scope.specs.declared.scope.Scope.{Scope}
use Rattle.check_scope.specs.Elaborated.{Gathers}
use Rattle.check_scope.specs.Scopes.{looked_up}
use Rattle.check_block.specs.Declarations.{declared_block}
use Rattle.def_typing.specs.Things.{Standing}
use Rattle.def_typing.specs.Declarations.{Declared, declarations_of, in_order, AllStand}
use Rattle.def_typing.specs.Bodies.{Place}
use Rattle.def_typed.specs.Named.{named, named_by}
use Rattle.def_typed.specs.Blocks.{Before, MeansBehind}
use Rattle.law_numbers.specs.Counted.{AreCounted}
use Rattle.law_typing.specs.Judging.{Judges}
use Rattle.law_typing.specs.Exact.{Knows, TakenAs, is_nested}

-- what is known where a block begins
pub record Begins (g : Gathers) (j : Judges g) (exports : ℕ → Ident → Standing) (p : Place)
    (q : Before) (s : Scope g.Reported) (ends : List ℕ) (ds : List Decl) : Type 0 where
  pub names : Knows g j p.names exports s
  pub no_withs : s.withs ≡ []
  pub takes : (n : List ℕ) → TakenAs g j (p.taken n) (p.awaited n) (find_name n s.own)
  pub of_home : s.types.home ≡ q.home
  pub of_level : s.level ≡ q.level
  pub variables : length s.variables ≡ q.variables
  -- those of the module count where it begins
  pub procedures : (q.level == 0) ≡ true → length s.procedures ≡ q.procedures
  -- Seen from any level, names mean what the scope has.
  pub means : (name : Ident) (m : Meaning) → looked_up g s name ≡ Ok m
      → (level : ℕ) → named level (q.of_names name) ≡ named_by level m
  -- No procedure in a procedure is awaited.
  pub nested : (q.level == 0) ≡ false
      → ((n : List ℕ) → p.awaited n ≡ None) × AreCounted ends q.nested ds

-- what is known behind its declarations
pub record AreSensed (g : Gathers) (p : Place) (q : Before) (names : Ident → Standing)
    (ds : List Decl) (s : Scope g.Reported) : Type 0 where
  -- Each name means something there, if it has code.
  pub each : (name : Ident)
      → (o : Option Meaning) × MeansBehind q p.taken p.awaited names ds name o
  -- The scope has what it means by the rules.
  pub known : (name : Ident) (o : Option Meaning) → MeansBehind q p.taken p.awaited names ds name o
      → (m : Meaning) → looked_up g s name ≡ Ok m
      → (level : ℕ) → named level o ≡ named_by level m

-- Of the declarations nothing is reported, and names stand behind them for what the rules say.
abbrev pub SensesAreKnown : (g : Gathers) → Judges g → Type 0
SensesAreKnown g j =
    (exports : ℕ → Ident → Standing) (p : Place) (q : Before) (s : Scope g.Reported)
    (ends : List ℕ) (ds : List Decl) → Begins g j exports p q s ends ds
    → (declared_block g ends (s, Ok tt) q.nested ds).1 ≡ Ok tt
    → (whole : List Declared) → in_order whole ≡ declarations_of ds → (names : Ident → Standing)
    → AllStand s.types exports p.names p.taken p.awaited (is_nested s) (declarations_of ds) whole
    names
    → Knows g j names exports (declared_block g ends (s, Ok tt) q.nested ds).0
    → AreSensed g p q names ds (declared_block g ends (s, Ok tt) q.nested ds).0
