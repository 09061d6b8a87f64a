-- Functions that are made one procedure after another.
use Rattle.std.proofs.Common.{◌≡◌, ℕ, ◌+◌, ◌<◌, List, [], ◌∷◌, ◌++◌, map, length, drop, get_or, refl, sym, ap, ◌∙◌, subst, append_assoc, add-one, drop-cons}
use Rattle.std.specs.Prelude.{Some, slice_get}
use Rattle.std.proofs.lemmas.Option.{slice_get_read}
use Rattle.wasm_tree.specs.declared.module.Function.{Function}
use Rattle.typed_tree.specs.declared.typed_module.Routine.{Routine}
use Rattle.typed_tree.specs.declared.typed_module.Which.{Which}
use Rattle.typed_tree.specs.declared.typed_module.TypedModule.{TypedModule}
use Rattle.def_scheme.specs.Functions.{functions_from, routine_function}
use Rattle.def_scheme.specs.Modules.{numbering_of}
use Rattle.emit_buffer.specs.Cut.{cut_function}

-- the procedure at a place, of a list that was read
pub found_at : (rs qs : List Routine) (n : ℕ) (r : Routine) → qs ≡ rs → n < length qs → r ≡ get_or qs n r
    → slice_get rs n ≡ Some r
found_at rs qs n r same h e = subst (λ (xs : List Routine). slice_get xs n ≡ Some r) same
    (slice_get_read qs (length qs) n r refl h e)

module _ (m : TypedModule) (w : ℕ → Which) where
  abbrev from : ℕ → List Routine → List Function
  from n rs = map cut_function (functions_from (numbering_of m) m w n rs)

  one_of : (n : ℕ) (r : Routine) (rest : List Routine)
      → from n (r ∷ rest) ≡ cut_function (routine_function (numbering_of m) m (w n) r) ∷ from (n + 1) rest
  one_of n r rest = ap (λ (k : ℕ). cut_function (routine_function (numbering_of m) m (w n) r) ∷ from k rest)
      (sym (add-one n))

  next_is : (rs : List Routine) (n : ℕ) (r : Routine) → n < length rs → r ≡ get_or rs n r
      → drop n rs ≡ r ∷ drop (n + 1) rs
  next_is rs n r h e = drop-cons rs n r h ∙ ap (λ (k : ℕ). get_or rs n r ∷ drop k rs) (sym (add-one n))
      ∙ ap (λ (x : Routine). x ∷ drop (n + 1) rs) (sym e)

  pub one_more : (fs new all : List Function) (f : Function) (n : ℕ) (rs qs : List Routine) (r : Routine)
      → qs ≡ rs → n < length qs → r ≡ get_or qs n r → new ≡ fs ++ f ∷ []
      → f ≡ cut_function (routine_function (numbering_of m) m (w n) r)
      → fs ++ from n (drop n rs) ≡ all → new ++ from (n + 1) (drop (n + 1) rs) ≡ all
  one_more fs new all f n rs qs r same h e more is so_far =
      let rest = drop (n + 1) rs in
      let next = next_is rs n r (subst (λ (xs : List Routine). n < length xs) same h)
      (subst (λ (xs : List Routine). r ≡ get_or xs n r) same e) in
      ap (λ (xs : List Function). xs ++ from (n + 1) rest) more ∙ append_assoc fs (f ∷ []) (from (n + 1) rest)
      ∙ ap (λ (g : Function). fs ++ g ∷ from (n + 1) rest) is
      ∙ ap (λ (xs : List Function). fs ++ xs) (sym (one_of n r rest))
      ∙ ap (λ (xs : List Routine). fs ++ from n xs) (sym next) ∙ so_far
