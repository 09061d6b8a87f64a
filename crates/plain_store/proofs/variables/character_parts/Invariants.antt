use Rattle.std.proofs.Common.{◌≡◌, take, map}
use Rattle.plain_store.specs.Characters.{character_part}
use Rattle.plain_store.proofs.variables.character_parts.Given as goal

abbrev pub invariant-loop-code : goal.invariant-loop-code
invariant-loop-code l = l.parts ≡ map character_part (take l.code-index l.text)
