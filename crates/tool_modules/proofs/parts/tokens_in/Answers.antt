use Rattle.std.proofs.Common.{◌≡◌, List, ℕ, Option, Some, IfOk, length, refl, sym, subst}
use Rattle.std.specs.Prelude.{slice_get}
use Rattle.std.specs.String.{string_bytes}
use Rattle.std.proofs.lemmas.Bool.{ltb-true}
use Rattle.std.proofs.lemmas.Option.{slice_get_read}
use Rattle.build_jobs.specs.declared.file.SourceFile.{SourceFile}
use Rattle.link_parts.specs.Sums.{IsInterfaceSum}
use Rattle.tool_modules.specs.Parts.{IsTokensSum}
use Rattle.tool_modules.proofs.parts.tokens_in.Goals as goal

pub returns-in-Some : goal.returns-in-Some
returns-in-Some c =
    let found = c.in-Some.ensures.lookup in
    let files = c.args.files.now in
    let there : slice_get files c.args.file ≡ Some c.in-Some.file.now =
    slice_get_read files (length files) c.args.file c.in-Some.file.now refl
    (ltb-true c.args.file (length files) (sym found.0)) found.1 in
    subst (λ (o : Option SourceFile). IfOk c.interface_sum.result (λ sum. IsTokensSum o (string_bytes sum))) (sym there)
    (subst (λ (bytes : List ℕ). IfOk c.interface_sum.result (λ sum. IsInterfaceSum bytes (string_bytes sum)))
    c.deref.ensures.value c.interface_sum.ensures)
