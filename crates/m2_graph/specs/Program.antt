-- The modules of a program, and where each name stands among them.
use Rattle.std.specs.Prelude.{◌≡◌, ℕ, List, map}
use Rattle.std.specs.Borrow.{Bor}
use Rattle.m2_tree.specs.declared.decl.Module.{Module}
use Rattle.m2_graph.specs.declared.program.Program.{Program}
use Rattle.m2_graph.specs.declared.program.Part.TheVariants.{Definition, Implementation, Body}
use Rattle.m2_graph.specs.Imports.{is_program, first_that}
use Rattle.m2_graph.specs.Parts.{bears, number_at}

abbrev pub modules_of : Program → List Module
modules_of p = map (λ (m : Bor Module). m.now) p.modules.now

-- each table has for a name the first module that bears it
pub record IsIndexed (p : Program) : Type 0 where
  pub definitions : (name : List ℕ)
      → number_at p.definitions name ≡ first_that (bears Definition name) (modules_of p)
  pub implementations : (name : List ℕ)
      → number_at p.implementations name ≡ first_that (bears Implementation name) (modules_of p)
  pub bodies : (name : List ℕ)
      → number_at p.bodies name ≡ first_that (bears Body name) (modules_of p)
  pub program : p.program ≡ first_that is_program (modules_of p)
