use Rattle.std.proofs.Common.{◌∷◌, []}
use Rattle.run_directory.proofs.Missing.{refused_behind}
use Rattle.run_directory.proofs.load.add_module.Goals as goal

pub returns-then-is_err-clause-err : goal.returns-then-is_err-clause-err
returns-then-is_err-clause-err g c =
    let found = c.in_ok-module.ensures.ok in
    (found.0 ∷ [], found.1, refused_behind found.0 c.args.name c.in_ok-module.module found.2)
