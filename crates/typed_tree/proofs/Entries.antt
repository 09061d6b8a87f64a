-- Entries of a map as a list of names.
use Rattle.std.proofs.Common.{◌≡◌, ℕ, ◌+◌, suc, Bool, true, false, cond, not, List, [], ◌∷◌, length, Some, None, refl, ap, ◌∙◌}
use Rattle.std.specs.Prelude.{map, nat_lt}
use Rattle.std.specs.List.{position, prefix_len}
use Rattle.std.specs.Map.{lookup, keys_of}
use Rattle.indexmap.specs.IndexMap.{insert_entry}
use Rattle.m2_tree.specs.Names.{same_name}
use Rattle.typed_tree.specs.Names.{find_name, place_of, enter_name}

module _ {K V : Type 0} (items : K → List ℕ) where
  abbrev pub named : List (K × V) → List (List ℕ × V)
  named es = map (λ e. (items e.0, e.1)) es

  pub found_is : (name : List ℕ) (es : List (K × V))
      → lookup (λ k. same_name name (items k)) es ≡ find_name name (named es)
  found_is name [] = refl
  found_is name (e ∷ es) = ap (λ x. cond (same_name name (items e.0)) (Some e.1) x) (found_is name es)

  prefix_is : (name : List ℕ) (es : List (K × V))
      → prefix_len (λ k. not (same_name name (items k))) (keys_of es)
      ≡ prefix_len (λ e. not (same_name name e.0)) (named es)
  prefix_is name [] = refl
  prefix_is name (e ∷ es) = ap (λ n. cond (not (same_name name (items e.0))) (1 + n) 0) (prefix_is name es)

  same_length : (es : List (K × V)) → length (keys_of es) ≡ length (named es)
  same_length [] = refl
  same_length (e ∷ es) = ap suc (same_length es)

  pub place_is : (name : List ℕ) (es : List (K × V))
      → position (λ k. same_name name (items k)) (keys_of es) ≡ place_of name (named es)
  place_is name es = ap (λ n. cond (nat_lt n (length (keys_of es))) (Some n) None) (prefix_is name es)
      ∙ ap (λ (n : ℕ). cond (nat_lt (prefix_len (λ e. not (same_name name e.0)) (named es)) n)
      (Some (prefix_len (λ e. not (same_name name e.0)) (named es))) None) (same_length es)

  entered_case : (b : Bool) (k k' : K) (value v : V) (es es' : List (K × V)) (ns : List (List ℕ × V)) → named es' ≡ ns →
      named (cond b ((k', value) ∷ es) ((k', v) ∷ es')) ≡ cond b ((items k', value) ∷ named es) ((items k', v) ∷ ns)
  entered_case true k k' value v es es' ns e = refl
  entered_case false k k' value v es es' ns e = ap (λ x. (items k', v) ∷ x) e

  pub entered_is : (k : K) (value : V) (es : List (K × V))
      → named (insert_entry (λ a b. same_name (items a) (items b)) es k value) ≡ enter_name (items k) value (named es)
  entered_is k value [] = refl
  entered_is k value (e ∷ es) = entered_case (same_name (items k) (items e.0)) k e.0 value e.1 es
      (insert_entry (λ a b. same_name (items a) (items b)) es k value) (enter_name (items k) value (named es))
      (entered_is k value es)
