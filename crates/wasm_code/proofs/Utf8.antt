-- The test of std for UTF-8, as a Boolean.
use Rattle.std.proofs.Common.{◌≡◌, ℕ, Bool, true, false, List, Result, Ok, Err, refl, sym, ◌∙◌}
use Rattle.std.specs.Prelude.{MatchResult, is_ok}
use Rattle.std.specs.Str.{is_utf8, IsUtf8, IsValidUpTo}
use Rattle.std.proofs.lemmas.Str.{IsUtf8-from_is_utf8, is_utf8-from_IsUtf8}

no : (b : Bool) → (b ≡ true → ⊥) → false ≡ b
no true h = absurd (h refl)
no false h = refl

pub test_gives : {S E : Type 0} (now : S → List ℕ) (upto : E → ℕ) (text : List ℕ) (r : Result S E)
    → MatchResult r (λ s. (now s ≡ text) × IsUtf8 text) (λ e. ¬ (IsUtf8 text) × IsValidUpTo text (upto e)) → (b : Bool)
    → b ≡ is_ok r → b ≡ is_utf8 text
test_gives now upto text (Ok s) h b e = e ∙ sym (is_utf8-from_IsUtf8 text h.1)
test_gives now upto text (Err x) h b e = e ∙ no (is_utf8 text) (λ t. h.0 (IsUtf8-from_is_utf8 text t))
