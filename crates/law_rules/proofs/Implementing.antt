-- Where the imports of an implementation stand, the names of its own definition are there.
use Rattle.std.proofs.Common.{◌≡◌, ℕ, Bool, true, false, List, [], ◌∷◌, Option, Some, None, Ok, refl, sym, subst}
use Rattle.std.specs.Prelude.{◌||◌, cond}
use Rattle.std.specs.List.{fold}
use Rattle.std.specs.Option.{is_some}
use Rattle.m2_tree.specs.Names.{same_name}
use Rattle.typed_tree.specs.declared.meaning.Meaning.{Meaning}
use Rattle.typed_tree.specs.Names.{find_name}
use Rattle.check_scope.specs.declared.known.Known.{Known}
use Rattle.check_scope.specs.declared.known.Known.TheVariants.{Declared}
use Rattle.check_scope.specs.declared.known.Origin.TheVariants.{Here}
use Rattle.check_scope.specs.Elaborated.{Gathers}
use Rattle.def_typing.specs.Imports.{Entry}
use Rattle.law_typing.specs.Judging.{Judges}
use Rattle.law_typing.proofs.Combining.{Lawful, Decided, holds, fails_it}
use Rattle.law_typing.proofs.Entering.{entered_all, name_decided}
use Rattle.law_rules.specs.Importing.{OwnAs, is_own, not_own, with_declared, ImplementationImportsAreExact}
use Rattle.law_rules.proofs.Behind.{imports_answer}

either : (t : Bool) (v : Meaning) (o : Option Meaning) (b : Bool)
    → (is_some o || (t || b)) ≡ (is_some (cond t (Some v) o) || b)
either true v None b = refl
either true v (Some w) b = refl
either false v None b = refl
either false v (Some w) b = refl

own_at : {T : Type 0} {e : Entry} {n : List ℕ} (b : Bool) {t : Bool} → Decided (n ≡ e.0) t → n ≡ e.0
    → OwnAs {T = T} (t || b) (Some (Declared Here (Ok e.1)))
own_at b (holds h) q = is_own
own_at b (fails_it c) q = absurd (c q)

own_still : {T : Type 0} {m n : List ℕ} (b : Bool) {t : Bool} {o : Option (Known T)} → Decided (n ≡ m) t → (m ≡ n → ⊥)
    → OwnAs b o → OwnAs (t || b) o
own_still b (holds h) q x = absurd (q (sym h))
own_still b (fails_it c) q x = x

own_entries : {T : Type 0} (es : List Entry) (old : List ℕ → Bool) (names : List (List ℕ × Known T))
    → ((n : List ℕ) → OwnAs (old n) (find_name n names)) → (n : List ℕ)
    → OwnAs (is_some (find_name n es) || old n) (find_name n (fold with_declared names es))
own_entries [] old names h n = h n
own_entries {T = T} (e ∷ es) old names h n =
    subst (λ (b : Bool). OwnAs b (find_name n (fold with_declared names (e ∷ es))))
    (either (same_name n e.0) e.1 (find_name n es) (old n))
    (own_entries es (λ n. same_name n e.0 || old n) (with_declared names e)
    (entered_all (λ n o. OwnAs {T = T} (same_name n e.0 || old n) o) e.0 (Declared Here (Ok e.1)) names
    (own_at {e = e} (old e.0) (name_decided e.0 e.0) refl) (λ n c. own_still (old n) (name_decided n e.0) c (h n))) n)

or_false : (b : Bool) → (b || false) ≡ b
or_false true = refl
or_false false = refl

pub implementation_imports : (g : Gathers) (j : Judges g) → Lawful g j → ImplementationImportsAreExact g j
implementation_imports g j lawful exported s e imports =
    imports_answer g j lawful (λ n. is_some (find_name n exported)) s
    (λ n. subst (λ (names : List (List ℕ × Known g.Reported)). OwnAs {T = g.Reported} (is_some (find_name n exported))
    (find_name n names)) (sym e)
    (subst (λ (b : Bool). OwnAs {T = g.Reported} b (find_name n (fold (with_declared {T = g.Reported}) [] exported)))
    (or_false (is_some (find_name n exported)))
    (own_entries {T = g.Reported} exported (λ n. false) [] (λ n. not_own refl) n)))
    imports
