-- The entries of all modules, one by one.
use Rattle.std.proofs.Common.{◌≡◌, ℕ, zero, suc, ◌+◌, ◌-◌, ◌<◌, ◌≤◌, List, [], ◌∷◌, ◌++◌, length, Option, Some, None, refl, ap, sym, ◌∙◌, Bool, true, false, ltb-true, ltb-false, arith}
use Rattle.std.specs.Prelude.{slice_get, nat_lt, if◌then◌else◌}
use Rattle.typed_tree.specs.declared.typed_module.Routine.{Routine}
use Rattle.typed_tree.specs.declared.typed_module.TypedModule.{TypedModule}
use Rattle.def_meaning.specs.Environment.{Entry, Body, Procedure, numbered_from, entries_from, entries_before}
use Rattle.plain_steps.specs.declared.callees.Found.{Found}
use Rattle.plain_steps.specs.Parts.{found_in, entries_at}

abbrev found : ℕ → ℕ → Option Found
found place number = Some (record { place = place; number = number })

own_from : (place n j : ℕ) (rs : List Routine) (es : List Entry) → j < length rs
    → slice_get (numbered_from place n rs ++ es) j ≡ Some (Procedure place (n + j))
own_from place n j [] es h = absurd (omega (arith, h))
own_from place n zero (r ∷ rs) es h = ap (λ (k : ℕ). Some (Procedure place k)) (omega arith)
own_from place n (suc j) (r ∷ rs) es h = own_from place (suc n) j rs es (omega (arith, h))
    ∙ ap (λ (k : ℕ). Some (Procedure place k)) (omega arith)

past_from : (place n j : ℕ) (rs : List Routine) (es : List Entry) → length rs ≤ j
    → slice_get (numbered_from place n rs ++ es) j ≡ slice_get es (j - length rs)
past_from place n j [] es h = ap (λ (i : ℕ). slice_get es i) (omega arith)
past_from place n zero (r ∷ rs) es h = absurd (omega (arith, h))
past_from place n (suc j) (r ∷ rs) es h = past_from place (suc n) j rs es (omega (arith, h))
    ∙ ap (λ (i : ℕ). slice_get es i) (omega arith)

entry_at : (place j : ℕ) (m : TypedModule) (ms : List TypedModule) (b : Bool) → nat_lt j (length m.procedures) ≡ b
    → entries_at (suc place) ms (j - length m.procedures)
    ≡ found_in (slice_get (entries_from (suc place) ms) (j - length m.procedures))
    → (if b then found place j else entries_at (suc place) ms (j - length m.procedures))
    ≡ found_in (slice_get (numbered_from place 0 m.procedures ++ entries_from (suc place) ms) j)
entry_at place j m ms true e r = ap (λ (i : ℕ). found place i) (nought j)
    ∙ sym (ap (λ (o : Option Entry). found_in o)
    (own_from place 0 j m.procedures (entries_from (suc place) ms) (ltb-true j (length m.procedures) e)))
  where
    nought : (j : ℕ) → j ≡ 0 + j
    nought j = omega arith
entry_at place j m ms false e r = r ∙ sym
    (ap (λ (o : Option Entry). found_in o)
    (past_from place 0 j m.procedures (entries_from (suc place) ms) (ltb-false j (length m.procedures) e)))

-- a procedure is found as it stands in the list of all entries
pub entries_found : (place : ℕ) (ms : List TypedModule) (k : ℕ)
    → entries_at place ms k ≡ found_in (slice_get (entries_from place ms) k)
entries_found place [] k = refl
entries_found place (m ∷ ms) zero = refl
entries_found place (m ∷ ms) (suc j) = entry_at place j m ms (nat_lt j (length m.procedures)) refl
    (entries_found (suc place) ms (j - length m.procedures))

pub before_more : (place d own n b : ℕ) (m : TypedModule) (ms : List TypedModule) → place ≡ suc d
    → own ≡ 1 + length m.procedures → b ≡ entries_before d ms → n ≡ own + b → n ≡ entries_before place (m ∷ ms)
before_more place d own n b m ms e f g h = sums (length m.procedures) own n b (entries_before d ms) f g h
    ∙ ap (λ (k : ℕ). entries_before k (m ∷ ms)) (sym e)
  where
    sums : (l own n b c : ℕ) → own ≡ 1 + l → b ≡ c → n ≡ own + b → n ≡ suc l + c
    sums l own n b c f g h = omega (arith, f, g, h)

pub before_none : (place : ℕ) (ms : List TypedModule) → place ≡ 0 → entries_before place ms ≡ 0
before_none place ms e = ap (λ (k : ℕ). entries_before k ms) e

pub ruleset entries = (before_more, before_none)
