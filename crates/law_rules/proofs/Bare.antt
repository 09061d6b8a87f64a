-- The names of a scope without those that are declared later.
use Rattle.std.proofs.Common.{◌≡◌, ℕ, Bool, true, false, cond, List, [], ◌∷◌, Option, Some, None, refl, sym, ap, subst, ◌∙◌}
use Rattle.typed_tree.specs.Names.{find_name}
use Rattle.check_scope.specs.declared.known.Known.{Known}
use Rattle.check_scope.specs.declared.scope.Scope.{Scope}
use Rattle.check_scope.specs.Scopes.{is_free}
use Rattle.law_typing.specs.Exact.{AreOnce, no_names, one_name}
use Rattle.law_typing.proofs.Combining.{Decided, holds, fails_it}
use Rattle.law_typing.proofs.Entering.{name_decided}

module _ {T : Type 0} where
  -- what is known of a name, if it is not declared later
  abbrev pub unmark : Option (Known T) → Option (Known T)
  unmark k = cond (is_free k) None k

  abbrev pub unmarked : List (List ℕ × Known T) → List (List ℕ × Known T)
  unmarked [] = []
  unmarked (e ∷ es) = cond (is_free (Some e.1)) (unmarked es) (e ∷ unmarked es)

  abbrev pub bare : Scope T → Scope T
  bare s = record s { own = unmarked s.own }

  pub unmark_settled : {k : Option (Known T)} → is_free k ≡ false → unmark k ≡ k
  unmark_settled {k = k} e = ap (λ (b : Bool). cond b None k) e

  pub found_bare : {es : List (List ℕ × Known T)} → AreOnce es → (n : List ℕ)
      → find_name n (unmarked es) ≡ unmark (find_name n es)
  found_bare no_names n = refl
  found_bare (one_name {e = e} {es = es} c o) n = by (is_free (Some e.1)) refl (found_bare o n)
    where
      left_out : is_free (Some e.1) ≡ true → {t : Bool} → Decided (n ≡ e.0) t
          → find_name n (unmarked es) ≡ unmark (find_name n es)
          → find_name n (unmarked es) ≡ unmark (cond t (Some e.1) (find_name n es))
      left_out q (holds w) h = h ∙ ap (λ (o : Option (Known T)). unmark o)
          (subst (λ (m : List ℕ). find_name m es ≡ None) (sym w) c) ∙ sym (ap (λ (b : Bool). cond b None (Some e.1)) q)
      left_out q (fails_it w) h = h

      kept : is_free (Some e.1) ≡ false → {t : Bool} → Decided (n ≡ e.0) t
          → find_name n (unmarked es) ≡ unmark (find_name n es)
          → cond t (Some e.1) (find_name n (unmarked es)) ≡ unmark (cond t (Some e.1) (find_name n es))
      kept q (holds w) h = sym (unmark_settled q)
      kept q (fails_it w) h = h

      by : (b : Bool) → is_free (Some e.1) ≡ b → find_name n (unmarked es) ≡ unmark (find_name n es)
          → find_name n (cond b (unmarked es) (e ∷ unmarked es)) ≡ unmark (find_name n (e ∷ es))
      by true q h = left_out q (name_decided n e.0) h
      by false q h = kept q (name_decided n e.0) h

  none_bare : {es : List (List ℕ × Known T)} (n : List ℕ) → AreOnce es → find_name n es ≡ None
      → find_name n (unmarked es) ≡ None
  none_bare n o e = found_bare o n ∙ ap (λ (k : Option (Known T)). unmark k) e

  once_by : (e : List ℕ × Known T) (es : List (List ℕ × Known T)) (b : Bool) → find_name e.0 (unmarked es) ≡ None
      → AreOnce (unmarked es) → AreOnce (cond b (unmarked es) (e ∷ unmarked es))
  once_by e es true c o = o
  once_by e es false c o = one_name c o

  pub once_bare : {es : List (List ℕ × Known T)} → AreOnce es → AreOnce (unmarked es)
  once_bare no_names = no_names
  once_bare (one_name {e = e} {es = es} c o) = once_by e es (is_free (Some e.1)) (none_bare e.0 o c) (once_bare o)
