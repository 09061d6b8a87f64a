-- What is read of a text: its tree, or the rule that it breaks first.
use Rattle.std.specs.Prelude.{◌≡◌, ◌≤◌, ℕ, List, [], ◌∷◌, length, ◌⊎◌, IfSome, slice_get}
use Rattle.std.specs.Arc.{arc_value}
use Rattle.m2_tree.specs.declared.pos.Pos.{Pos}
use Rattle.m2_tree.specs.declared.token.Token.{Token}
use Rattle.m2_tree.specs.declared.decl.Module.{Module}
use Rattle.scan_tokens.specs.Division.{HasTokens, Refuses, max_text}
use Rattle.scan_tokens.specs.FaultNumber.{number_of}
use Rattle.scan_tokens.specs.declared.refusal.ScanRefusal.{ScanRefusal}
use Rattle.def_grammar.specs.Refusal.{IsTree, IsReported}
use Rattle.def_grammar.specs.declared.refusal.ParseRefusal.{ParseRefusal}
use Rattle.build_jobs.specs.declared.file.SourceFile.{SourceFile}
use Rattle.build_jobs.specs.declared.reading.Read.{Read}
use Rattle.build_jobs.specs.declared.reading.Read.TheVariants.{Parsed, Refused}

-- the tokens of a text that is not too long
pub record AreTokens (text : List ℕ) (tokens : List Token) : Type 0 where
  pub short : length text ≤ max_text
  pub divides : HasTokens text tokens

-- the text breaks a rule of tokens
pub record IsNoText (text : List ℕ) (pos : Pos) (number : ℕ) : Type 0 where
  pub refusal : ScanRefusal
  pub refuses : Refuses text refusal
  pub place : pos ≡ refusal.pos
  pub rule : number ≡ number_of refusal.broken

-- the text has tokens, and these have no tree
pub record IsNoTree (text : List ℕ) (pos : Pos) (number : ℕ) : Type 0 where
  pub tokens : List Token
  pub divides : AreTokens text tokens
  pub refusal : ParseRefusal
  pub reported : IsReported tokens refusal
  pub place : pos ≡ refusal.pos
  pub rule : number ≡ refusal.number

-- the text has tokens, and these have this tree
pub record HasTree (text : List ℕ) (tree : Module) : Type 0 where
  pub tokens : List Token
  pub divides : AreTokens text tokens
  pub is_tree : IsTree tokens tree

abbrev pub IsRead : List ℕ → Read → Type 0
IsRead text (Parsed tree) = HasTree text (arc_value tree)
IsRead text (Refused pos number) = IsNoText text pos number ⊎ IsNoTree text pos number

-- what is read of each file
abbrev pub AreRead : List SourceFile → List Read → Type 0
AreRead [] [] = Unit {0}
AreRead (f ∷ fs) (r ∷ rs) = IsRead f.bytes.items r × AreRead fs rs
AreRead [] (r ∷ rs) = ⊥
AreRead (f ∷ fs) [] = ⊥

-- what is read of the file in this place
abbrev pub IsReadAt : List SourceFile → ℕ → Read → Type 0
IsReadAt files job read = IfSome (slice_get files job) (λ f. IsRead f.bytes.items read)

-- the same tree, or the same refusal
abbrev pub AreSame : Read → Read → Type 0
AreSame (Parsed t) (Parsed u) = arc_value t ≡ arc_value u
AreSame (Parsed t) (Refused q m) = ⊥
AreSame (Refused p n) (Parsed u) = ⊥
AreSame (Refused p n) (Refused q m) = (p ≡ q) × (n ≡ m)
