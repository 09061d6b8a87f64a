-- The tables that the jobs of a build make reach the same types of each module, and the modules of
-- bodies know these types.
use Rattle.std.specs.Prelude.{◌≡◌, ℕ, suc, true, List, []}
use Rattle.std.specs.List.{list_all}
use Rattle.m2_tree.specs.declared.decl.Module.{Module}
use Rattle.typed_tree.specs.declared.shape.Made.{Made}
use Rattle.typed_tree.specs.declared.table.Table.{Table}
use Rattle.check_body.specs.Own.{types_made_in}
use Rattle.law_well_formed.specs.Formed.{Holds}
use Rattle.law_modules.specs.Ranges.{AreRanged}
use Rattle.law_well_formed.specs.Ordered.{AreOrdered}
use Rattle.law_well_formed.specs.FormedKnown.{fits_module, TableFormed}
use Rattle.build_jobs.specs.declared.outcome.Compiled.{Compiled}
use Rattle.build_jobs.specs.declared.outcome.Compiled.TheVariants.{Defined, Built, Refused, Blocked}
use Rattle.build_jobs.specs.Compiling.{tables_of, typed_body}
use Rattle.build_jobs.specs.Jobs.{compile_at}
use Rattle.build_jobs.specs.Jobs.{needed_of}

module _ (trees : List Module) (files : List ℕ) (jobs : List (List ℕ)) where
  -- what becomes of a job
  abbrev pub result_of : ℕ → Compiled
  result_of job = compile_at trees files job (needed_of trees files jobs job)

  abbrev pub made_by : Compiled → List Made
  made_by (Defined t) = types_made_in t.number t.reached
  made_by (Built b) = []
  made_by (Refused f) = []
  made_by Blocked = []

  -- the types that the definition of a job makes
  abbrev pub types_of : ℕ → List Made
  types_of job = made_by (result_of job)

-- All tables that jobs make reach the types that each module's own definition makes, and only of
-- modules whose jobs came before, and of the table's own. They stand in order, with ranges of the
-- language.
abbrev pub TablesReachSame : Type 0
TablesReachSame =
    (trees : List Module) (files : List ℕ) (jobs : List (List ℕ))
    → list_all fits_module trees ≡ true
    → (job : ℕ) (t : Table)
    → result_of trees files jobs job ≡ Defined t
    → (t.number ≡ job) × TableFormed (types_of trees files jobs) (suc job) t

-- The types that the module of a body knows have ranges of the language, and stand in order.
abbrev pub BodiesKnowTypes : Type 0
BodiesKnowTypes =
    (trees : List Module) (files : List ℕ) (jobs : List (List ℕ))
    → list_all fits_module trees ≡ true
    → (m : Module) (job : ℕ)
    → fits_module m ≡ true
    → Holds (λ t. AreRanged t.types × AreOrdered t.types)
    (typed_body m job (tables_of (needed_of trees files jobs job)))
