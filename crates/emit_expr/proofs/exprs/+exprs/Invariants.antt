use Rattle.std.proofs.Common.{◌≡◌, take}
use Rattle.std.specs.List.{fold}
use Rattle.emit_buffer.specs.Frames.{setting_of}
use Rattle.emit_expr.specs.Values.{with_argument, with_component, with_link}
use Rattle.emit_expr.proofs.exprs.+exprs.Given as goal

abbrev pub invariant-arguments_code-loop-argument : goal.invariant-arguments_code-loop-argument
invariant-arguments_code-loop-argument l =
    l.draft ≡ fold (with_argument (setting_of l.setting)) l.fn.draft (take l.argument-index l.arguments)

abbrev pub invariant-components_code-loop-component : goal.invariant-components_code-loop-component
invariant-components_code-loop-component l =
    l.draft ≡ fold (with_component (setting_of l.setting)) l.fn.draft (take l.component-index l.components)

abbrev pub invariant-links_code-loop-link : goal.invariant-links_code-loop-link
invariant-links_code-loop-link l = l.draft
    ≡ fold (with_link (setting_of l.setting)) l.fn.draft (take l.link-index l.links)
