use Rattle.std.proofs.Common.{◌∷◌, [], Some}
use Rattle.run_directory.specs.Directory.{Read, file_of}
use Rattle.run_directory.proofs.Missing.{unencoded, not_valid}
use Rattle.run_directory.proofs.load.module_of.Goals as goal

pub returns-in-Err-clause-err : goal.returns-in-Err-clause-err
returns-in-Err-clause-err g c = (
  Read (file_of c.args.name.now) (Some c.in_ok-bytes.bytes.items) ∷ [],
  c.in_ok-bytes.ensures.ok,
  unencoded c.args.name c.in_ok-bytes.bytes.items c.deref.result.now c.deref.ensures.value c.in-Err.fault
      c.in-Err.ensures.exact,
)

pub returns-clause-err : goal.returns-clause-err
returns-clause-err g c = (
  Read (file_of c.args.name.now) (Some c.in_ok-bytes.bytes.items) ∷ [],
  c.in_ok-bytes.ensures.ok,
  not_valid c.args.name c.in_ok-bytes.bytes.items c.deref.result.now c.deref.ensures.value c.in-Ok.tree
      c.in-Err-validate.fault c.in-Ok.ensures.decided c.in-Err-validate.ensures,
)
