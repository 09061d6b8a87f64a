-- What texts import, from what scanning and parsing them says.
use Rattle.std.proofs.Common.{◌≡◌, ◌≤◌, ◌⊎◌, inl, inr, ℕ, List, [], ◌++◌, length, Option, Some, sym, subst, ◌∙◌}
use Rattle.m2_tree.specs.declared.token.Token.{Token}
use Rattle.m2_tree.specs.declared.decl.Module.{Module}
use Rattle.scan_tokens.specs.Division.{HasTokens, max_text}
use Rattle.def_grammar.specs.Refusal.{IsTree}
use Rattle.std.specs.Global.{Vec}
use Rattle.scan_tokens.specs.declared.refusal.ScanError.{ScanError}
use Rattle.scan_tokens.specs.declared.refusal.ScanError.TheVariants.{Refused, NoMemory}
use Rattle.scan_tokens.specs.declared.refusal.ScanRefusal.{ScanRefusal}
use Rattle.find_modules.specs.Found.{BodyImports, TextsImport}
use Rattle.find_modules.specs.declared.found.Sources.{Sources}
use Rattle.find_modules.specs.Imports.{AreTokens, Imports, TokensImport, names_of_imports}

pub of_tree : (tokens : List Token) (tree : Module) (names : List (List ℕ)) → IsTree tokens tree
    → names ≡ names_of_imports tree → TokensImport tokens names
of_tree tokens tree names is e = inl (tree, is, e)

pub of_no_tree : (tokens : List Token) (names : List (List ℕ)) → ((tree : Module) → IsTree tokens tree → ⊥) → names ≡ []
    → TokensImport tokens names
of_no_tree tokens names lacks e = inr (lacks, e)

pub of_tokens : (text : List ℕ) (tokens : List Token) (names : List (List ℕ)) → length text ≤ max_text
    → HasTokens text tokens → TokensImport tokens names → Imports text names
of_tokens text tokens names short divides h = inl (tokens, record { short = short; divides = divides }, h)

pub of_no_tokens : (text : List ℕ) (names : List (List ℕ))
    → ((tokens : List Token) → length text ≤ max_text → HasTokens text tokens → ⊥) → names ≡ [] → Imports text names
of_no_tokens text names lacks e = inr ((λ tokens h. lacks tokens h.short h.divides), e)

pub unrefused : (e : ScanError) (r : ScanRefusal) → e ≡ Refused r → e ≡ NoMemory → ⊥
unrefused e r is other = let bad : Refused r ≡ NoMemory = sym is ∙ other in absurd (cc bad)

pub of_body : (found : Option (Vec ℕ)) (text : Vec ℕ) (slice : List ℕ) (names : List (List ℕ)) → found ≡ Some text
    → slice ≡ text.items → Imports slice names → BodyImports found names
of_body found text slice names is same h =
    subst (λ f. BodyImports f names) (sym is) (subst (λ t. Imports t names) same h)

pub of_texts : (s : Sources) (slice : List ℕ) (first more all : List (List ℕ)) → slice ≡ s.definition.items
    → Imports slice first → BodyImports s.implementation more → all ≡ first ++ more → TextsImport s all
of_texts s slice first more all same a b e =
    record {
      defined = first;
      implemented = more;
      definition = subst (λ t. Imports t first) same a;
      implementation = b;
      both = e;
    }
