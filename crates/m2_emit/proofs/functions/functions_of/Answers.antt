use Rattle.std.proofs.Common.{[], ◌∷◌, ◌++◌, ap, ◌∙◌}
use Rattle.m2_emit.proofs.Uncut.{functions_are}
use Rattle.m2_emit.proofs.functions.functions_of.Goals as goal

pub returns : goal.returns
returns c =
    functions_are c.args.home.now _ _ _ _ c.in_ok-found.ensures
    (c.in_ok-push.ensures.ok ∙ ap (λ f. c.in_ok-found.found ++ f ∷ []) c.in_ok-module_function.ensures)
    c.in_ok-push_procedures.ensures c.in_ok-push_locals.ensures
