-- What is reported of the names of formals: a name twice.
use Rattle.std.proofs.Common.{◌≡◌, ℕ, List, [], ◌∷◌, ◌++◌, Result, Ok, ◌⊎◌, inl, inr}
use Rattle.std.specs.List.{fold}
use Rattle.m2_rule.specs.declared.breach.Breach.{Breach}
use Rattle.m2_tree.specs.declared.name.Ident.{Ident}
use Rattle.m2_tree.specs.declared.decl.Section.{Section}
use Rattle.m2_tree.specs.declared.decl.Heading.{Heading}
use Rattle.typed_tree.specs.Types.{integer}
use Rattle.check_scope.specs.Elaborated.{Gathers}
use Rattle.check_type_expr.specs.declared.field.Fields.{Fields}
use Rattle.check_type_expr.specs.Fields.{no_fields}
use Rattle.check_type_expr.specs.Headings.{with_names, names_of}
use Rattle.def_typing.specs.TypeExprs.{Twice}
use Rattle.def_typing.specs.Declarations.{names_in}
use Rattle.law_typing.specs.Judging.{Judges}
use Rattle.law_typing.proofs.Combining.{Lawful, fails_it, Tells, silent, tells, Checks, passes, stops, checks_as}
use Rattle.law_typing.proofs.Beginning.{Adding}
use Rattle.law_typing.proofs.Recording.{Listed, NoTwice, Entries, listed_all, told_all}

pub twice_join : (There : List ℕ → Type 0) (xs ys : List Ident) (f : Breach) → Twice There xs f
    ⊎ Twice (Adding xs There) ys f → Twice There (xs ++ ys) f
twice_join There [] ys f (inl z) = absurd z
twice_join There [] ys f (inr t) = t
twice_join There (x ∷ xs) ys f (inl (inl h)) = inl h
twice_join There (x ∷ xs) ys f (inl (inr t)) = inr (twice_join (λ n. (x.name ≡ n) ⊎ There n) xs ys f (inl t))
twice_join There (x ∷ xs) ys f (inr t) = inr (twice_join (λ n. (x.name ≡ n) ⊎ There n) xs ys f (inr t))

pub twice_split : (There : List ℕ → Type 0) (xs ys : List Ident) (f : Breach) → Twice There (xs ++ ys) f
    → Twice There xs f ⊎ Twice (Adding xs There) ys f
twice_split There [] ys f t = inr t
twice_split There (x ∷ xs) ys f (inl h) = inl (inl h)
twice_split There (x ∷ xs) ys f (inr t) =
    elim (twice_split (λ n. (x.name ≡ n) ⊎ There n) xs ys f t) [ inl y ↦ inl (inr y) | inr y ↦ inr y ]

-- no name is there twice
abbrev AllNew : Type 0 → (List ℕ → Type 0) → List Section → Type 0
AllNew P There [] = P
AllNew P There (x ∷ xs) = AllNew (P × NoTwice There x.names) (Adding x.names There) xs

module _ (g : Gathers) (j : Judges g) (lawful : Lawful g j) (O : Breach → Type 0) where
  sections_told : (xs : List Section) {P : Type 0} {B : Breach → Type 0} {There : List ℕ → Type 0} (fs : Fields)
      (r : Result (Unit {0}) g.Reported) → Listed There fs → Checks g j lawful O {A = Unit {0}} P B r
      → Checks g j lawful O {A = Unit {0}} (AllNew P There xs) (λ f. B f ⊎ Twice There (names_in xs) f)
      (fold (with_names g) (fs, r) xs).1
  sections_told [] fs r l k = checks_as g j lawful O (λ p. p) (λ p. p) (λ f b. inl b)
      (λ f z. elim z [ inl b ↦ b | inr y ↦ absurd y ]) k
  sections_told (x ∷ xs) {P = P} {B = B} {There = There} fs r l k =
      checks_as g j lawful O {P = AllNew P There (x ∷ xs)} {Q = AllNew P There (x ∷ xs)} (λ p. p) (λ p. p)
      (λ f z. elim z [
        | inl y ↦ elim y [ inl b ↦ inl b | inr w ↦ inr (twice_join There x.names (names_in xs) f (inl w)) ]
        | inr w ↦ inr (twice_join There x.names (names_in xs) f (inr w))
      ])
      (λ f z. elim z [
        | inl b ↦ inl (inl b)
        | inr y ↦ elim (twice_split There x.names (names_in xs) f y)
            [ inl w ↦ inl (inr w) | inr w ↦ inr w ]
      ])
      (sections_told xs {P = P × NoTwice There x.names} {B = λ f. B f ⊎ Twice There x.names f}
      {There = Adding x.names There} (Entries g j lawful integer 0 fs r x.names).0
      (Entries g j lawful integer 0 fs r x.names).1 (listed_all g j lawful integer 0 x.names fs r l)
      (told_all g j lawful integer 0 x.names fs r l k))

  tells_checked : {P : Type 0} {B : Breach → Type 0} {r : Result (Unit {0}) g.Reported}
      → Checks g j lawful O {A = Unit {0}} P B r → Tells g j lawful O B r
  tells_checked (passes a p n) = silent n
  tells_checked (stops r a n) = tells r a

  pub formals_told : (h : Heading) → Tells g j lawful O (λ f. ⊥ ⊎ Twice (λ n. ⊥) (names_in h.formals) f) (names_of g h)
  formals_told h = tells_checked (sections_told h.formals {P = Unit {0}} {B = λ f. ⊥} {There = λ n. ⊥} no_fields (Ok tt)
      (λ n. fails_it (λ z. z)) (passes tt tt (λ f z. z)))
