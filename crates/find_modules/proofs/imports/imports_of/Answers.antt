use Rattle.find_modules.proofs.Importing.{of_no_tokens, unrefused}
use Rattle.find_modules.proofs.imports.imports_of.Goals as goal

pub returns-in-Err-Refused : goal.returns-in-Err-Refused
returns-in-Err-Refused c =
    of_no_tokens c.args.text.now c.new.result.items
    (λ ts short divides. unrefused c.in-Err-Refused.field-0 c.in-Err-Refused.field-0-0 c.in-Err-Refused.field-0-is
    (c.in-Err-Refused.ensures.accepted ts short divides)) c.new.ensures.items
