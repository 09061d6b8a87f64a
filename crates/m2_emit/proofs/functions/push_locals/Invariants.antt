use Rattle.std.proofs.Common.{◌≡◌, ◌++◌, drop, map}
use Rattle.typed_tree.specs.declared.typed_module.Which.TheVariants as which
use Rattle.def_scheme.specs.Functions.{functions_from}
use Rattle.def_scheme.specs.Modules.{numbering_of}
use Rattle.emit_buffer.specs.Cut.{cut_function}
use Rattle.m2_emit.proofs.functions.push_locals.Given as goal

abbrev pub invariant-loop-number : goal.invariant-loop-number
invariant-loop-number l = l.functions ++ map cut_function
    (functions_from (numbering_of l.home) l.home which.Local l.number (drop l.number l.home.locals)) ≡ l.fn.functions
    ++ map cut_function (functions_from (numbering_of l.home) l.home which.Local 0 l.home.locals)
