use Rattle.std.proofs.Common.{subst, map, List, String}
use Rattle.std.specs.String.{string_bytes}
use Rattle.std.specs.Global.{Global}
use Rattle.m2c_cli.specs.Compiled.{HasCompiled}
use Rattle.m2c_cli.proofs.run.Goals as goal

-- the slice that `compile` is given has the names that are asked for
pub returns : goal.returns
returns g c =
    subst (λ (files : List (String Global)). HasCompiled (map string_bytes files) c.args.asked.now.options
    c.compile-status.result c.args.files.now c.compile-status.new.files c.args.dir.now c.compile-status.new.dir
    c.args.out.now c.compile-status.new.out c.args.err.now c.compile-status.new.err)
    c.deref.ensures.value c.compile-status.ensures
