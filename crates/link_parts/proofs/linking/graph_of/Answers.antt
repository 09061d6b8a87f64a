use Rattle.std.proofs.Common.{List, ap, subst, ◌∙◌}
use Rattle.m2_graph.specs.declared.error.GraphError.{GraphError}
use Rattle.m2_graph.specs.declared.error.GraphError.TheVariants.{Refused}
use Rattle.m2_graph.specs.Files.{File, files_of, number_files}
use Rattle.m2_graph.specs.Graph.{IsRefusal}
use Rattle.link_parts.specs.Linked.{first_number}
use Rattle.link_parts.proofs.linking.graph_of.Goals as goal

pub returns-in-Err-Refused-clause-fault : goal.returns-in-Err-Refused-clause-fault
returns-in-Err-Refused-clause-fault c = (
  c.in-Err-Refused.refusals,
  subst (λ (fs : List File). IsRefusal fs (Refused c.in-Err-Refused.refusals))
      (ap files_of c.deref.ensures.value ∙ ap (number_files 0) c.in_ok-trees.ensures)
      (subst (λ (e : GraphError). IsRefusal (files_of c.deref.result.now) e) c.in-Err-Refused.field-0-is
      c.in-Err-Refused.ensures.refused),
  c.first_number.ensures ∙ ap first_number c.deref-in-Err-Refused.ensures.value,
)
