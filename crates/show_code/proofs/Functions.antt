-- Functions that are put one behind another.
use Rattle.std.proofs.Common.{◌≡◌, ℕ, ◌+◌, ◌<◌, ◌≤◌, List, ◌∷◌, ◌++◌, length, drop, get_or, sym, ap, ◌∙◌, add-one, drop-cons}
use Rattle.std.specs.Global.{Vec}
use Rattle.std.proofs.lemmas.List.{drop_all}
use Rattle.wasm_tree.specs.declared.module.Function.{Function}
use Rattle.show_code.specs.declared.page.Page.{Page}
use Rattle.show_code.specs.Pages.{Puts}
use Rattle.show_code.specs.Modules.{function_text, functions_text, title_at}
use Rattle.show_code.proofs.Joined.{Leads, goes_on, is_done}

module _ (titles : List (Vec ℕ)) where
  abbrev from : ℕ → List Function → List ℕ
  from n fs = functions_text titles n fs

  one_of : (n : ℕ) (f : Function) (rest : List Function)
      → from n (f ∷ rest) ≡ function_text (title_at titles n) f ++ from (n + 1) rest
  one_of n f rest = ap (λ (k : ℕ). function_text (title_at titles n) f ++ from k rest) (sym (add-one n))

  next_is : (fs : List Function) (n : ℕ) (f : Function) → n < length fs → f ≡ get_or fs n f
      → drop n fs ≡ f ∷ drop (n + 1) fs
  next_is fs n f h e = drop-cons fs n f h ∙ ap (λ (k : ℕ). get_or fs n f ∷ drop k fs) (sym (add-one n))
      ∙ ap (λ (x : Function). x ∷ drop (n + 1) fs) (sym e)

  pub one_more : (old so_far new : Page) (all : List ℕ) (n : ℕ) (fs : List Function) (f : Function) → n < length fs
      → f ≡ get_or fs n f → Puts so_far new (function_text (title_at titles n) f)
      → Leads old so_far (from n (drop n fs)) all → Leads old new (from (n + 1) (drop (n + 1) fs)) all
  one_more old so_far new all n fs f h e more leads =
      let rest = drop (n + 1) fs in
      goes_on old so_far new (function_text (title_at titles n) f) (from n (drop n fs)) (from (n + 1) rest) all
      (ap (λ (xs : List Function). from n xs) (next_is fs n f h e) ∙ one_of n f rest) more leads

  pub no_more : (old so_far : Page) (all : List ℕ) (n : ℕ) (fs : List Function) → length fs ≤ n
      → Leads old so_far (from n (drop n fs)) all → Puts old so_far all
  no_more old so_far all n fs h leads =
      is_done old so_far (from n (drop n fs)) all (ap (λ (xs : List Function). from n xs) (drop_all n fs h)) leads
