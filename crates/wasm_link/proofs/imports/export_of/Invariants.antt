use Rattle.std.proofs.Common.{◌≡◌, drop}
use Rattle.wasm_tree.specs.Linking.{export_named}
use Rattle.wasm_link.proofs.imports.export_of.Given as goal

abbrev pub invariant-loop-export : goal.invariant-loop-export
invariant-loop-export l = export_named l.name (drop l.export-index l.exports) ≡ export_named l.name l.exports
