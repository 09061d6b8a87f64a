use Rattle.std.proofs.Common.{◌≡◌, ◌++◌}
use Rattle.plain_store.specs.Contents.{repeat_item}
use Rattle.plain_store.proofs.copying.fill_parts.Given as goal

abbrev pub invariant-loop : goal.invariant-loop
invariant-loop l = l.all ≡ l.fn.parts ++ repeat_item l.counter l.one
