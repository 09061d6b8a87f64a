-- A text behind another one.
use Rattle.std.proofs.Common.{◌≡◌, ℕ, List, [], ◌++◌, IsOk, ap, sym, ◌∙◌, append_assoc}
use Rattle.std.proofs.lemmas.List.{append-nil}
use Rattle.show_code.specs.declared.page.Page.{Page}
use Rattle.show_code.specs.Pages.{Puts}

-- what was put between two pages stands before what was put then
pub before : (old between new : Page) (a b : List ℕ) → Puts old between a → Puts between new b → Puts old new (a ++ b)
before old between new a b h k ok =
    ((h (k ok).0).0, (k ok).1 ∙ ap (λ (t : List ℕ). t ++ b) (h (k ok).0).1 ∙ append_assoc old.text.items a b)

-- what stands on the page so far, and what is left to put, make the whole
abbrev pub Leads : (old so_far : Page) → (left whole : List ℕ) → Type 0
Leads old so_far left whole =
    IsOk so_far.written → IsOk old.written × (so_far.text.items ++ left ≡ old.text.items ++ whole)

-- the first part of what was left is put
pub goes_on : (old so_far new : Page) (one left rest whole : List ℕ) → left ≡ one ++ rest → Puts so_far new one
    → Leads old so_far left whole → Leads old new rest whole
goes_on old so_far new one left rest whole e h k ok = (
  (k (h ok).0).0,
  ap (λ (t : List ℕ). t ++ rest) (h ok).1 ∙ append_assoc so_far.text.items one rest
      ∙ ap (λ (t : List ℕ). so_far.text.items ++ t) (sym e) ∙ (k (h ok).0).1,
)

-- nothing is left
pub is_done : (old so_far : Page) (left whole : List ℕ) → left ≡ [] → Leads old so_far left whole
    → Puts old so_far whole
is_done old so_far left whole e k ok =
    ((k ok).0, sym (append-nil so_far.text.items) ∙ ap (λ (t : List ℕ). so_far.text.items ++ t) (sym e) ∙ (k ok).1)
