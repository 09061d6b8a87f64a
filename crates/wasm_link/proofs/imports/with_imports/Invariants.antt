use Rattle.std.proofs.Common.{◌≡◌, drop}
use Rattle.wasm_tree.specs.Linking.{each, with_import}
use Rattle.wasm_link.proofs.imports.with_imports.Given as goal

abbrev pub invariant-loop-import : goal.invariant-loop-import
invariant-loop-import l =
    each (with_import l.modules l.store l.tree) (drop l.import-index l.imports) l.instance
    ≡ each (with_import l.modules l.store l.tree) l.imports l.fn.instance
