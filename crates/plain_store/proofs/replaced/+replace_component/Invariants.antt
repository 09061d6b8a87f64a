use Rattle.std.proofs.Common.{◌-◌, length}
use Rattle.plain_store.proofs.replaced.+replace_component.Given as goal

abbrev pub decreases-replace_component : goal.decreases-replace_component
decreases-replace_component l = length l.to.now - l.from
