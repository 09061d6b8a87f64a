-- Blocks inside one another.
use Rattle.std.proofs.Common.{◌≡◌, ℕ, suc, ◌+◌, ◌-◌, ◌<◌, ◌≤◌, List, [], ◌∷◌, ◌++◌, length, take, Some, refl, sym, ap, ◌∙◌, append_assoc, arith, ◌⊎◌, inl, inr}
use Rattle.std.specs.Prelude.{slice_get}
use Rattle.std.proofs.lemmas.List.{append-nil}
use Rattle.std.proofs.lemmas.Bool.{cases_lt}
use Rattle.wasm_tree.specs.declared.kinds.ValueType.{ValueType}
use Rattle.wasm_tree.specs.Validity.{Context}
use Rattle.wasm_tree.specs.Machine.{Label, split_last}
use Rattle.wasm_sound.specs.Sound.{Through, Level, Opens}
use Rattle.wasm_sound.proofs.Lists.{same_at, behind}

-- a context without labels
abbrev pub bare : Context → Context
bare c = record c { labels = [] }

-- blocks change the labels alone
pub same_names : (labels : List Label) (outer inner : Level) → Through Opens outer labels inner
    → bare inner.context ≡ bare outer.context
same_names [] outer inner h = ap (λ (l : Level). bare l.context) (sym h)
same_names (x ∷ xs) outer inner h = same_names xs h.0 inner h.2 ∙ ap bare h.1.context

-- what stands below a block stands below those inside it
pub higher : (labels : List Label) (outer inner : Level) → Through Opens outer labels inner → (more : List ValueType)
    × (inner.below ≡ outer.below ++ more)
higher [] outer inner h = ([], ap (λ (l : Level). l.below) (sym h) ∙ sym (append-nil outer.below))
higher (x ∷ xs) outer inner h =
    let rest = higher xs h.0 inner h.2 in (
      h.1.between ++ rest.0,
      rest.1 ∙ ap (λ (b : List ValueType). b ++ rest.0) h.1.below
          ∙ append_assoc outer.below h.1.between rest.0,
    )

-- the labels outside follow those of the blocks
pub past_labels : (labels : List Label) (outer inner : Level) (k : ℕ) → Through Opens outer labels inner
    → slice_get inner.context.labels (length labels + k) ≡ slice_get outer.context.labels k
past_labels [] outer inner k h =
    let same : 0 + k ≡ k = omega arith in
    ap (slice_get inner.context.labels) same ∙ ap (λ (l : Level). slice_get l.context.labels k) (sym h)
past_labels (x ∷ xs) outer inner k h =
    let same : suc (length xs) + k ≡ length xs + suc k = omega arith in
    ap (slice_get inner.context.labels) same ∙ past_labels xs h.0 inner (suc k) h.2
    ∙ ap (λ (c : Context). slice_get c.labels (suc k)) h.1.context

pub labels_long : (labels : List Label) (outer inner : Level) → Through Opens outer labels inner
    → length inner.context.labels ≡ length labels + length outer.context.labels
labels_long [] outer inner h =
    let same : length inner.context.labels ≡ length outer.context.labels =
    ap (λ (l : Level). length l.context.labels) (sym h) in
    omega (arith, same)
labels_long (x ∷ xs) outer inner h =
    let one : length h.0.context.labels ≡ suc (length outer.context.labels) =
    ap (λ (c : Context). length c.labels) h.1.context in
    omega (arith, one, labels_long xs h.0 inner h.2)

-- the block that a branch goes to
pub record Target (outer : Level) (labels : List Label) (inner : Level) (l : ℕ) (taken : List ValueType) : Type 0 where
  pub before : List Label
  pub label : Label
  pub is_last : split_last (take (length labels - l) labels) ≡ Some (before, label)
  pub at : Level
  pub inside : Level
  pub reached : Through Opens outer before at
  pub opens : Opens at label inside
  pub taken_is : opens.taken ≡ taken
  pub more : List ValueType
  pub below : inner.below ≡ inside.below ++ more

-- one block more outside
deeper : (x : Label) (xs : List Label) (outer next inner : Level) (l : ℕ) (taken : List ValueType) → l < length xs
    → Opens outer x next → Target next xs inner l taken → Target outer (x ∷ xs) inner l taken
deeper x xs outer next inner l taken lt o t = record {
  before = x ∷ t.before;
  label = t.label;
  is_last =
      let cut : suc (length xs) - l ≡ suc (length xs - l) = omega arith in
      ap (λ (n : ℕ). split_last (take n (x ∷ xs))) cut ∙ ap (behind x) t.is_last;
  at = t.at;
  inside = t.inside;
  reached = (next, o, t.reached);
  opens = t.opens;
  taken_is = t.taken_is;
  more = t.more;
  below = t.below;
}

here : (x : Label) (xs : List Label) (outer next inner : Level) (l : ℕ) (taken : List ValueType) → l ≡ length xs
    → Opens outer x next → Through Opens next xs inner → slice_get inner.context.labels l ≡ Some taken
    → Target outer (x ∷ xs) inner l taken
here x xs outer next inner l taken same o h e =
    let high = higher xs next inner h in
    let index : length xs + 0 ≡ l = omega (arith, same) in
    record {
      before = [];
      label = x;
      is_last =
          let cut : suc (length xs) - l ≡ 1 = omega (arith, same) in
          rw cut refl;
      at = outer;
      inside = next;
      reached = refl;
      opens = o;
      taken_is =
          same_at (slice_get inner.context.labels l) o.taken taken
          (ap (slice_get inner.context.labels) (sym index) ∙ past_labels xs next inner 0 h
          ∙ ap (λ (c : Context). slice_get c.labels 0) o.context) e;
      more = high.0;
      below = high.1;
    }

pub target : (labels : List Label) (outer inner : Level) (l : ℕ) (taken : List ValueType) → l < length labels
    → Through Opens outer labels inner → slice_get inner.context.labels l ≡ Some taken
    → Target outer labels inner l taken
target [] outer inner l taken lt h e = absurd (omega arith)
target (x ∷ xs) outer inner l taken lt h e =
    go (cases_lt l (length xs)) (λ less. target xs h.0 inner l taken less h.2 e)
  where
    go : (l < length xs) ⊎ (length xs ≤ l) → (l < length xs → Target h.0 xs inner l taken)
        → Target outer (x ∷ xs) inner l taken
    go (inl less) found = deeper x xs outer h.0 inner l taken less h.1 (found less)
    go (inr most) found = here x xs outer h.0 inner l taken (omega arith) h.1 h.2 e
