use Rattle.std.proofs.Common.{◌≡◌, take}
use Rattle.std.specs.List.{flat_map}
use Rattle.list_imports.specs.Listed.{import_names, texts, told, with_new}
use Rattle.list_imports.proofs.add_imports.Given as goal

abbrev pub invariant-loop-import : goal.invariant-loop-import
invariant-loop-import l =
    texts l.names.items
    ≡ with_new (texts l.fn.names.items) (told (flat_map import_names (take l.import-index l.tree.imports)))
