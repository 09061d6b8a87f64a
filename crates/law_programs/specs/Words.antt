-- Sets that are constants have 32 bits: so it is of the constants of all scopes of a walk.
use Rattle.std.specs.Prelude.{ℕ, List}
use Rattle.m2_tree.specs.declared.decl.Decl.{Decl}
use Rattle.m2_tree.specs.declared.decl.Heading.{Heading}
use Rattle.check_scope.specs.Elaborated.{Gathers}
use Rattle.check_scope.specs.Scopes.{State}
use Rattle.check_scope.specs.declared.scope.Scope.{Scope}
use Rattle.check_block.specs.Declarations.{declared_block}
use Rattle.check_scope.specs.declared.inner.Outside.{Outside}
use Rattle.check_scope.specs.Inwards.{left_procedure}
use Rattle.check_block.specs.Inner.{entered_procedure}
use Rattle.law_programs.specs.Carried.{ScopeWords}

-- The declarations of a block lead from a scope of this kind to another, and so do the ways into a
-- procedure and back.
pub record WordsStay (g : Gathers) : Type 0 where
  pub blocks : (ends : List ℕ) (st : State (Unit {0}) g.Reported) (first : ℕ) (ds : List Decl)
      → ScopeWords st.0 → ScopeWords (declared_block g ends st first ds).0
  pub entered : (s : Scope g.Reported) (seen : ℕ) (h : Heading) → ScopeWords s
      → ScopeWords (entered_procedure g s seen h).0
  pub left : (o : Outside) (s : Scope g.Reported) → ScopeWords s → ScopeWords (left_procedure o s)
