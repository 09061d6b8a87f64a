-- Every text is scanned in one way, and every list of tokens is parsed in one way.
use Rattle.std.specs.Prelude.{◌≡◌, ◌≤◌, List, length, Result, Ok, Err}
use Rattle.m2_tree.specs.declared.token.Token.{Token}
use Rattle.m2_tree.specs.declared.decl.Module.{Module}
use Rattle.scan_tokens.specs.declared.refusal.ScanRefusal.{ScanRefusal}
use Rattle.scan_tokens.specs.Bytes.{Text}
use Rattle.scan_tokens.specs.Division.{HasTokens, Refuses, max_text}
use Rattle.def_grammar.specs.declared.refusal.ParseRefusal.{ParseRefusal}
use Rattle.def_grammar.specs.Refusal.{IsTree, IsReported}

-- This value has the property, and no other has it.
pub record IsOnly {A : Type 0} (P : A → Type 0) (x : A) : Type 0 where
  pub has : P x
  pub none_else : (y : A) → P y → y ≡ x

-- what a text is scanned as: its tokens, if it is not too long, or its refusal
abbrev pub IsScanned : Text → Result (List Token) ScanRefusal → Type 0
IsScanned text (Ok tokens) = (length text ≤ max_text) × HasTokens text tokens
IsScanned text (Err refusal) = Refuses text refusal

-- what tokens are parsed as: their tree or their refusal
abbrev pub IsParsed : List Token → Result Module ParseRefusal → Type 0
IsParsed tokens (Ok tree) = IsTree tokens tree
IsParsed tokens (Err refusal) = IsReported tokens refusal

-- every text has tokens or a refusal, and only one of them
abbrev pub TextsAreScanned : Type 0
TextsAreScanned =
    (text : Text) → (answer : Result (List Token) ScanRefusal) × IsOnly (IsScanned text) answer

-- every list of tokens has a tree or a refusal, and only one of them
abbrev pub TokensAreParsed : Type 0
TokensAreParsed =
    (tokens : List Token) → (answer : Result Module ParseRefusal) × IsOnly (IsParsed tokens) answer
