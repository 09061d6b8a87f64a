-- What the laws of bodies take of how statements are elaborated, and of the number of Console.
use Rattle.std.specs.Prelude.{◌≡◌, List, Option, Result}
use Rattle.m2_tree.specs.declared.stmt.Stmt.{Stmt}
use Rattle.typed_tree.specs.declared.types.TypeNo.{TypeNo}
use Rattle.check_scope.specs.declared.scope.Scope.{Scope}
use Rattle.check_scope.specs.Elaborated.{Gathers}
use Rattle.check_definition.specs.Predeclared.{console}
use Rattle.check_body.specs.Elaborating.{Elaborates}
use Rattle.def_exchange.specs.Moved.{Exchange}
use Rattle.law_exchange_types.specs.Scopes.{moved_scope}
use Rattle.law_exchange_bodies.specs.Modules.{moved_returns, moved_body}

module _ (x : Exchange) (g : Gathers) where
  -- the statements of a body, however they are elaborated
  abbrev pub BodiesElaborate : Elaborates g.Reported → Type 0
  BodiesElaborate elaborates =
      (s : Scope g.Reported) (returns : Option (Result TypeNo g.Reported)) (body : List Stmt)
      → elaborates (moved_scope x s) (moved_returns x returns) body
      ≡ moved_body x (elaborates s returns body)

-- the table of Console is the checker's own, so its number stays
abbrev pub KeepsConsole : Exchange → Type 0
KeepsConsole x = x.there console.number ≡ console.number
