-- Names that differ, and the names that link exports for modules.
use Rattle.std.proofs.Common.{◌≡◌, ◌≢◌, ℕ, true, false, List, [], ◌∷◌, drop, refl, sym, ap, subst, ◌∙◌}
use Rattle.std.specs.Str.{bytes_eq}
use Rattle.std.proofs.lemmas.Bool.{eq-eqb, false≢true}
use Rattle.def_scheme.specs.Scheme.{base_name, text_name, tab_name}

-- facts in a row, of a list written out
infixr 20 ◌▪◌
abbrev pub ◌▪◌ : {A B : Type 0} → A → B → A × B
a ▪ b = (a, b)

pub bytes_eq_same : (xs : List ℕ) → bytes_eq xs xs ≡ true
bytes_eq_same [] = refl
bytes_eq_same (x ∷ xs) = rw (eq-eqb x x refl) (bytes_eq_same xs)

pub differ : (xs ys : List ℕ) → bytes_eq xs ys ≡ false → xs ≢ ys
differ xs ys e is = false≢true (sym e ∙ subst (λ (zs : List ℕ). bytes_eq xs zs ≡ true) is (bytes_eq_same xs))

pub base_apart : (x y : List ℕ) → x ≢ y → base_name x ≢ base_name y
base_apart x y ne e = ne (ap (drop 5) e)

pub text_apart : (x y : List ℕ) → x ≢ y → text_name x ≢ text_name y
text_apart x y ne e = ne (ap (drop 5) e)

pub tab_apart : (x y : List ℕ) → x ≢ y → tab_name x ≢ tab_name y
tab_apart x y ne e = ne (ap (drop 4) e)
