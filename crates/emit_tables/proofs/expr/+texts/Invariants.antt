use Rattle.std.proofs.Common.{◌≡◌, ◌++◌, take}
use Rattle.std.specs.List.{flat_map}
use Rattle.emit_tables.specs.Written.{argument_written, component_written, link_written}
use Rattle.emit_tables.proofs.expr.+texts.Given as goal

abbrev pub invariant-push_arguments-loop-argument : goal.invariant-push_arguments-loop-argument
invariant-push_arguments-loop-argument l =
    l.characters ≡ l.fn.characters ++ flat_map argument_written (take l.argument-index l.arguments)

abbrev pub invariant-push_components-loop-component : goal.invariant-push_components-loop-component
invariant-push_components-loop-component l =
    l.characters ≡ l.fn.characters ++ flat_map component_written (take l.component-index l.components)

abbrev pub invariant-push_links-loop-link : goal.invariant-push_links-loop-link
invariant-push_links-loop-link l = l.characters ≡ l.fn.characters ++ flat_map link_written (take l.link-index l.links)
