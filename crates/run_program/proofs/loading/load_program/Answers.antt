use Rattle.std.proofs.Common.{sym, subst, List}
use Rattle.wasm_tree.specs.declared.module.WModule.{WModule}
use Rattle.run_program.specs.Runs.{IsProgramOf}
use Rattle.run_program.proofs.Decoded.{are_refused, program_read, read_or_memory, they_link}
use Rattle.run_program.proofs.loading.load_program.Goals as goal

pub returns-in-Refused-clause-loaded : goal.returns-in-Refused-clause-loaded
returns-in-Refused-clause-loaded g c = are_refused c.args.files.now c.args.options.pages c.in_ok-outcome.outcome
    c.in_ok-outcome.ensures.built c.in_ok-outcome.ensures.one c.in-Refused.refusals c.in-Refused.is

pub hand_on-requires : goal.hand_on-requires
hand_on-requires g c =
    read_or_memory c.args.files.now c.args.options.pages c.in_ok-outcome.outcome c.in_ok-outcome.ensures.built
    c.in_ok-outcome.ensures.one c.in-Built.link c.in-Built.others c.in-Built.is c.deref.result.now
    c.deref-in-Built.result.now
    c.deref.ensures.value c.deref-in-Built.ensures.value c.read_modules.result c.read_modules.ensures.err

pub of_modules-requires : goal.of_modules-requires
of_modules-requires g c =
    they_link c.args.files.now c.args.options.pages c.in_ok-modules-in-Built.modules.items
    (program_read c.args.files.now c.args.options.pages c.in_ok-outcome.outcome c.in_ok-outcome.ensures.built
    c.in_ok-outcome.ensures.one c.in-Built.link c.in-Built.others c.in-Built.is c.deref.result.now
    c.deref-in-Built.result.now
    c.deref.ensures.value c.deref-in-Built.ensures.value c.read_modules.result c.in_ok-modules-in-Built.modules
    c.in_ok-modules-in-Built.ensures c.read_modules.ensures.ok)

pub returns-in_ok-modules-in-Built-clause-loaded : goal.returns-in_ok-modules-in-Built-clause-loaded
returns-in_ok-modules-in-Built-clause-loaded g c =
    subst (λ (ms : List WModule). IsProgramOf c.args.files.now c.args.options.pages ms) (sym c.of_modules.ensures)
    (program_read c.args.files.now c.args.options.pages c.in_ok-outcome.outcome c.in_ok-outcome.ensures.built
    c.in_ok-outcome.ensures.one c.in-Built.link c.in-Built.others c.in-Built.is c.deref.result.now
    c.deref-in-Built.result.now
    c.deref.ensures.value c.deref-in-Built.ensures.value c.read_modules.result c.in_ok-modules-in-Built.modules
    c.in_ok-modules-in-Built.ensures c.read_modules.ensures.ok)
