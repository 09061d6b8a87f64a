use Rattle.std.proofs.Common.{◌≡◌, take}
use Rattle.std.specs.List.{fold}
use Rattle.emit_tables.specs.Needed.{with_argument, with_component, with_link}
use Rattle.emit_tables.proofs.exprs.+marks.Given as goal

abbrev pub invariant-arguments_marks-loop-argument : goal.invariant-arguments_marks-loop-argument
invariant-arguments_marks-loop-argument l =
    l.marks.items ≡ fold (with_argument l.module_body) l.fn.marks.items (take l.argument-index l.arguments)

abbrev pub invariant-components_marks-loop-component : goal.invariant-components_marks-loop-component
invariant-components_marks-loop-component l =
    l.marks.items ≡ fold (with_component l.module_body) l.fn.marks.items (take l.component-index l.components)

abbrev pub invariant-links_marks-loop-link : goal.invariant-links_marks-loop-link
invariant-links_marks-loop-link l = l.marks.items
    ≡ fold (with_link l.module_body) l.fn.marks.items (take l.link-index l.links)
