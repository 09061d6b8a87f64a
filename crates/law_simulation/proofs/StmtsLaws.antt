-- The laws, from what is made of each statement.
use Rattle.std.proofs.Common.{◌≡◌, true, false, [], refl, sym, ap, ◌∙◌}
use Rattle.law_simulation.specs.StmtsLaws.{Bodies, Stays}
use Rattle.law_simulation.proofs.Staying.{is_left}
use Rattle.law_simulation.proofs.Stmts.{rows_made}

pub bodies : Bodies
bodies x ask result n a b body h = let m = rows_made x ask result n [] false a b body h in
    (m.placed, m.pins, m.executes)

true_false : true ≡ false → ⊥
true_false e = cc e

pub stays : Stays
stays x ask result n a b body h around s t e = let m = rows_made x ask result n [] false a b body h in
    true_false (sym (ap is_left e) ∙ m.stays refl around s)
