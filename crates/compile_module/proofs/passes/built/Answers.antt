use Rattle.std.proofs.Common.{List, ap, ◌∙◌}
use Rattle.m2_tree.specs.declared.decl.Module.{Module}
use Rattle.build_results.proofs.Placed.{same_modules}
use Rattle.list_imports.specs.Listed.{told, once}
use Rattle.compile_module.specs.Told.{first_is_program, imports_of, interfaces_of}
use Rattle.compile_module.proofs.passes.built.Goals as goal

pub returns : goal.returns
returns c =
    let same = same_modules c.args.trees.now in (
      c.in_ok-share.ensures,
      record {
        is_program = c.is_program.ensures ∙ ap first_is_program same;
        are_imports = c.in_ok-imports_of.ensures ∙ ap (λ (ms : List Module). once (told (imports_of ms))) same;
        are_interfaces = c.in_ok-interfaces_of.ensures ∙ ap interfaces_of same;
      },
    )
