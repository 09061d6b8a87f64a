use Rattle.std.proofs.Common.{◌≡◌, take}
use Rattle.std.specs.List.{fold}
use Rattle.layout_storage.specs.Counted.{with_argument, with_component, with_link}
use Rattle.layout_storage.proofs.counted.+count.Given as goal

abbrev pub invariant-arguments_count-loop-argument : goal.invariant-arguments_count-loop-argument
invariant-arguments_count-loop-argument l = l.all ≡ fold with_argument 0 (take l.argument-index l.arguments)

abbrev pub invariant-components_count-loop-component : goal.invariant-components_count-loop-component
invariant-components_count-loop-component l = l.all ≡ fold with_component 0 (take l.component-index l.components)

abbrev pub invariant-links_count-loop-link : goal.invariant-links_count-loop-link
invariant-links_count-loop-link l = l.all ≡ fold with_link 0 (take l.link-index l.links)
