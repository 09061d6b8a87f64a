use Rattle.std.proofs.Common.{◌≡◌, take}
use Rattle.list_imports.specs.Listed.{names_of, texts, told, with_new}
use Rattle.list_imports.proofs.add_each.Given as goal

abbrev pub invariant-loop-ident : goal.invariant-loop-ident
invariant-loop-ident l =
    texts l.names.items ≡ with_new (texts l.fn.names.items) (told (names_of (take l.ident-index l.idents)))
