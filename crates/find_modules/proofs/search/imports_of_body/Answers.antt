use Rattle.std.proofs.lemmas.Result.{IfOk-weaker}
use Rattle.find_modules.proofs.Importing.{of_body}
use Rattle.find_modules.proofs.search.imports_of_body.Goals as goal

pub returns-in-Some : goal.returns-in-Some
returns-in-Some c = IfOk-weaker c.imports_of.result _ _
    (λ names. λ h. of_body c.args.text.now c.in-Some.text c.deref.result.now names.items c.in-Some.is
    c.deref.ensures.value h) c.imports_of.ensures
