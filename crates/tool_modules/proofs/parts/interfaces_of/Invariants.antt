use Rattle.std.proofs.Common.{take}
use Rattle.std.specs.List.{AllZip}
use Rattle.tool_modules.specs.Parts.{IsTold}
use Rattle.tool_modules.proofs.parts.interfaces_of.Given as goal

abbrev pub invariant-loop-it : goal.invariant-loop-it
invariant-loop-it l = AllZip (IsTold l.files) (take l.it-index l.needed) l.interfaces.items
