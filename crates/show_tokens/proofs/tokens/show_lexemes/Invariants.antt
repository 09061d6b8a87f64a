use Rattle.std.proofs.Common.{take}
use Rattle.std.specs.List.{flat_map}
use Rattle.show_code.specs.Pages.{Has}
use Rattle.show_tokens.specs.Tokens.{lexeme_line}
use Rattle.show_tokens.proofs.tokens.show_lexemes.Given as goal

abbrev pub invariant-loop-token : goal.invariant-loop-token
invariant-loop-token l = Has l.page (flat_map (λ t. lexeme_line t.lexeme) (take l.token-index l.tokens))
