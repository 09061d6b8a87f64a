use Rattle.std.proofs.Common.{take}
use Rattle.std.specs.List.{flat_map}
use Rattle.show_code.specs.Pages.{Puts}
use Rattle.show_code.specs.Modules.{import_text}
use Rattle.show_code.proofs.module.put_imports.Given as goal

abbrev pub invariant-loop-import : goal.invariant-loop-import
invariant-loop-import l = Puts l.fn.page l.page (flat_map import_text (take l.import-index l.imports))
