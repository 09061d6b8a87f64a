-- What is no larger than its text is bounded, as texts are.
use Rattle.std.proofs.Common.{ℕ, ◌+◌, ◌*◌, ◌≤◌, List, length, Result, arith}
use Rattle.m2_tree.specs.declared.token.Token.{Token}
use Rattle.m2_tree.specs.declared.decl.Module.{Module}
use Rattle.typed_tree.specs.declared.typed_module.TypedModule.{TypedModule}
use Rattle.scan_tokens.specs.Division.{HasTokens, max_text}
use Rattle.def_grammar.specs.Refusal.{IsModule}
use Rattle.check_scope.specs.Elaborated.{Gathers}
use Rattle.law_encoding.specs.Sizes.{size_module}
use Rattle.law_encoding.specs.TypedSizes.{size_bodies}
use Rattle.law_encoding.specs.Counted.{AtMost}
use Rattle.law_encoding.specs.Small.{most}
use Rattle.law_encoding.proofs.Results.{at_more}
use Rattle.law_encoding.proofs.Texts.{text_below}
use Rattle.law_encoding.proofs.Weights.{module_below}

at_most : (n k l : ℕ) → n ≤ 4 * (1 + k) → k ≤ l → n ≤ 4 * (1 + l)
at_most n k l h i = omega (arith, h, i)

-- a tree of a text that is not too long
pub tree_bounded : (text : List ℕ) (ts : List Token) (m : Module) → length text ≤ max_text → HasTokens text ts
    → IsModule ts m → size_module m ≤ most
tree_bounded text ts m l h d = at_most (size_module m) (length text) max_text
    (text_below text ts (size_module m) h (module_below ts m d)) l

pub bounded : (g : Gathers) (text : List ℕ) (ts : List Token) (m : Module) → length text ≤ max_text → HasTokens text ts
    → IsModule ts m → {r : Result TypedModule g.Reported} → AtMost size_bodies (size_module m) r
    → AtMost size_bodies most r
bounded g text ts m l h d p = at_more (tree_bounded text ts m l h d) p
