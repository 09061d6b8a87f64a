use Rattle.std.proofs.Common.{◌≡◌, drop}
use Rattle.std.specs.List.{list_any}
use Rattle.m2_tree.specs.Names.{same_name}
use Rattle.list_imports.specs.Listed.{texts}
use Rattle.list_imports.proofs.stands_there.Given as goal

abbrev pub invariant-loop-name : goal.invariant-loop-name
invariant-loop-name l =
    list_any (same_name l.text) (texts (drop l.name-index l.names)) ≡ list_any (same_name l.text) (texts l.names)
