use Rattle.std.proofs.Common.{◌++◌, ap, ◌∙◌}
use Rattle.layout_storage.specs.Texts.{body_texts}
use Rattle.def_scheme.specs.Modules.{all_characters}
use Rattle.emit_tables.proofs.Begins.{texts_are}
use Rattle.emit_tables.proofs.texts.module_texts.Goals as goal

pub returns : goal.returns
returns c =
    let gathering = c.in_ok-characters.field-0 in
    texts_are c.args.module_body.now gathering c.push_body.new.characters c.len-body.result c.in_ok-characters.ensures
    c.len-body.ensures
    (c.in_ok-push_body.ensures ∙ ap (λ stmts. gathering.characters ++ all_characters (body_texts stmts))
    c.as_slice.ensures)
