use Rattle.std.proofs.Common.{take}
use Rattle.std.specs.List.{flat_map}
use Rattle.show_code.specs.Pages.{Has}
use Rattle.show_tokens.specs.Tokens.{token_line}
use Rattle.show_tokens.proofs.tokens.show_tokens.Given as goal

abbrev pub invariant-loop-token : goal.invariant-loop-token
invariant-loop-token l = Has l.page (flat_map token_line (take l.token-index l.tokens))
