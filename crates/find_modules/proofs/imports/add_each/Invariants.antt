use Rattle.std.proofs.Common.{◌≡◌, ◌++◌, map, take}
use Rattle.m2_tree.specs.declared.name.Ident.{Ident}
use Rattle.find_modules.proofs.imports.add_each.Given as goal

abbrev pub invariant-loop-ident : goal.invariant-loop-ident
invariant-loop-ident l = l.names.items ≡ l.fn.names.items ++ map (λ (i : Ident). i.name) (take l.ident-index l.idents)
