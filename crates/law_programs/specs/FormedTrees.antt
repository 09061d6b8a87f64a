-- The trees of texts fit, with the statements in them: numbers and characters are as the scanner
-- gives them.
use Rattle.std.specs.Prelude.{◌≡◌, ℕ, Bool, true, List}
use Rattle.std.specs.List.{list_all}
use Rattle.m2_tree.specs.declared.token.Token.{Token}
use Rattle.m2_tree.specs.declared.decl.Contents.{Contents}
use Rattle.m2_tree.specs.declared.decl.Contents.TheVariants as contents
use Rattle.m2_tree.specs.declared.decl.Module.{Module}
use Rattle.scan_tokens.specs.Division.{HasTokens}
use Rattle.def_grammar.specs.Refusal.{IsModule}
use Rattle.law_well_formed.specs.FormedRanges.{fits_def}
use Rattle.law_well_formed.specs.FormedFits.{token_fits}
use Rattle.law_programs.specs.TypingBodies.{fits_whole_block}

abbrev pub fits_contents : Contents → Bool
fits_contents (contents.Definition defs) = list_all fits_def defs
fits_contents (contents.Implementation b) = fits_whole_block b
fits_contents (contents.Program b) = fits_whole_block b

-- The tree of tokens that fit, fits,
abbrev pub TreesFit : Type 0
TreesFit =
    (ts : List Token) (m : Module) → list_all token_fits ts ≡ true → IsModule ts m
    → fits_contents m.contents ≡ true

-- and so does the tree of a text.
abbrev pub TextsFit : Type 0
TextsFit =
    (text : List ℕ) (ts : List Token) (m : Module) → HasTokens text ts → IsModule ts m
    → fits_contents m.contents ≡ true
