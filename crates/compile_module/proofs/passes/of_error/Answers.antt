use Rattle.std.proofs.Common.{inl, subst}
use Rattle.m2_graph.specs.declared.error.GraphError.{GraphError}
use Rattle.m2_graph.specs.Files.{number_files}
use Rattle.m2_graph.specs.Graph.{IsRefusal}
use Rattle.compile_module.specs.Stands.{with_stands}
use Rattle.compile_module.proofs.passes.of_error.Goals as goal

pub returns-in-Refused : goal.returns-in-Refused
returns-in-Refused c = λ trees h.
    inl (
      c.in-Refused.refusals,
      subst (λ (e : GraphError). IsRefusal (number_files 0 (with_stands trees)) e)
          c.in-Refused.is h,
      c.without_stands.ensures,
    )
