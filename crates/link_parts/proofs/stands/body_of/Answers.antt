use Rattle.std.proofs.Common.{map, subst}
use Rattle.std.specs.String.{string_bytes}
use Rattle.std.proofs.lemmas.Result.{err_from_is_err_and}
use Rattle.link_parts.specs.Fitting.{names_of, IsOfNames}
use Rattle.link_parts.proofs.Naming.{of_more, imports_within}
use Rattle.link_parts.proofs.stands.body_of.Goals as goal

-- the fault of one of the imports
pub returns-in_err-imports-clause-fault : goal.returns-in_err-imports-clause-fault
returns-in_err-imports-clause-fault c =
    let p = err_from_is_err_and c.from_residual.result c.from_residual.ensures.1 in
    let fault = subst (λ ns. IsOfNames (map string_bytes ns) c.in_err-imports.field-0.0) c.deref.ensures.value
    c.in_err-imports.ensures.fault in
    rw (p.1, p.2) (of_more (map string_bytes c.args.part.now.imports.items) (names_of c.args.part.now)
    c.in_err-imports.field-0.0 (imports_within c.args.part.now) fault)
