-- If a definition has no table, something is reported.
use Rattle.std.proofs.Common.{◌≡◌, ℕ, List, Err, refl}
use Rattle.m2_rule.specs.declared.breach.Breach.{Breach}
use Rattle.m2_tree.specs.declared.decl.Module.{Module}
use Rattle.typed_tree.specs.declared.table.Table.{Table}
use Rattle.check_scope.specs.Elaborated.{Gathers, least}
use Rattle.check_definition.specs.Compiled.{definition_table}
use Rattle.law_typing.specs.Judging.{Judges, the_least}

abbrev pub Finds : (g : Gathers) → Judges g → Type 0
Finds g j = (home : ℕ) (m : Module) (imported : List Table) (r : g.Reported)
    → definition_table g home m imported ≡ Err r → (f : Breach) × j.Among r f

pub least_finds : Finds least the_least
least_finds home m imported r e = (r, refl)
