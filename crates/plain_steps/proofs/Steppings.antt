-- The steps of FOR.
use Rattle.std.proofs.Common.{◌≡◌, ℤ, Bool, true, false, refl, ap, sym, ◌∙◌}
use Rattle.std.specs.Prelude.{◌+ℤ◌, if◌then◌else◌}
use Rattle.typed_tree.specs.declared.types.TypeNo.{TypeNo}
use Rattle.typed_tree.specs.declared.known_types.Types.{Types}
use Rattle.def_meaning.specs.Store.{Location}
use Rattle.def_meaning.specs.Answer.{State as Meant, Answer as Given, Value, ◌▷◌}
use Rattle.def_meaning.specs.Expressions.{as_type}
use Rattle.def_meaning.specs.Statements.{store_number, has_passed}
use Rattle.plain_steps.specs.Parts.{turns_over}

abbrev later : Types → TypeNo → Location → Meant → ℤ → Given Bool
later types t l st w = as_type types t w st ▷ λ v st. Value false (store_number l v st)

pub step_over : (types : Types) (t : TypeNo) (l : Location) (by last w : ℤ) (st : Meant) → w ≡ st.store l +ℤ by
    → has_passed by last w ≡ true → turns_over types t l by last st ≡ Value true st
unfolding turns_over
step_over types t l by last w st e h = ap
    (λ (k : ℤ). if has_passed by last k then Value true st else later types t l st k) (sym e)
    ∙ ap (λ (b : Bool). if b then Value true st else later types t l st w) h

pub step_on : (types : Types) (t : TypeNo) (l : Location) (by last w : ℤ) (st : Meant) (r : Given Bool)
    → w ≡ st.store l +ℤ by → has_passed by last w ≡ false
    → r ≡ (as_type types t w st ▷ (λ v st. Value false (store_number l v st))) → r ≡ turns_over types t l by last st
unfolding turns_over
step_on types t l by last w st r e h g =
    g ∙ sym (ap (λ (k : ℤ). if has_passed by last k then Value true st else later types t l st k) (sym e)
    ∙ ap (λ (b : Bool). if b then Value true st else later types t l st w) h)

pub ruleset steppings = (step_over, step_on)
