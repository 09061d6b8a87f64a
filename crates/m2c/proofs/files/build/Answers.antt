use Rattle.m2c.proofs.Alike.{only_built}
use Rattle.m2c.proofs.files.build.Goals as goal

pub returns-clause-one : goal.returns-clause-one
returns-clause-one g c = only_built c.args.files.now c.args.options.pages c.build_with.result c.build_with.ensures.built
