-- Laws of tests.
use Rattle.std.proofs.Common.{◌≡◌, Bool, true, false, ◌&&◌, ◌||◌, refl, ap, subst, inl, inr, ◌⊎◌, rules}
use denote.Enum.Bare.{same_true, true_same}
use Rattle.m2_tree.specs.contracts.token.Symbol.{the_type}
use Rattle.m2_tree.specs.declared.token.Symbol.{Symbol}
use Rattle.def_grammar.specs.declared.kind.Kind.TheVariants as the
use Rattle.def_grammar.specs.declared.kind.Kind.{Kind}
use Rattle.def_grammar.specs.Kinds.{same_symbol, same_kind}

pub and_both : (a b : Bool) → (a && b) ≡ true → (a ≡ true) × (b ≡ true)
and_both true b e = (refl, e)
and_both false b e = absurd cc

pub or_either : (a b : Bool) → (a || b) ≡ true → (a ≡ true) ⊎ (b ≡ true)
or_either true b e = inl refl
or_either false b e = inr e

pub or_neither : (a b : Bool) → (a || b) ≡ false → (a ≡ false) × (b ≡ false)
or_neither true b e = absurd cc
or_neither false b e = (refl, e)

same_symbol-is : (a b : Symbol) → same_symbol a b ≡ true → a ≡ b
unfolding same_symbol
same_symbol-is a b e = same_true the_type (search rules) a b e

is-same_symbol : (a : Symbol) → same_symbol a a ≡ true
unfolding same_symbol
is-same_symbol a = true_same the_type a a refl

pub same_kind-is : (a b : Kind) → same_kind a b ≡ true → a ≡ b
unfolding same_kind
same_kind-is the.Name the.Name e = refl
same_kind-is the.Name the.Number e = absurd cc
same_kind-is the.Name the.Char e = absurd cc
same_kind-is the.Name the.Text e = absurd cc
same_kind-is the.Name (the.Symbol b) e = absurd cc
same_kind-is the.Name the.End e = absurd cc
same_kind-is the.Number the.Name e = absurd cc
same_kind-is the.Number the.Number e = refl
same_kind-is the.Number the.Char e = absurd cc
same_kind-is the.Number the.Text e = absurd cc
same_kind-is the.Number (the.Symbol b) e = absurd cc
same_kind-is the.Number the.End e = absurd cc
same_kind-is the.Char the.Name e = absurd cc
same_kind-is the.Char the.Number e = absurd cc
same_kind-is the.Char the.Char e = refl
same_kind-is the.Char the.Text e = absurd cc
same_kind-is the.Char (the.Symbol b) e = absurd cc
same_kind-is the.Char the.End e = absurd cc
same_kind-is the.Text the.Name e = absurd cc
same_kind-is the.Text the.Number e = absurd cc
same_kind-is the.Text the.Char e = absurd cc
same_kind-is the.Text the.Text e = refl
same_kind-is the.Text (the.Symbol b) e = absurd cc
same_kind-is the.Text the.End e = absurd cc
same_kind-is (the.Symbol a) the.Name e = absurd cc
same_kind-is (the.Symbol a) the.Number e = absurd cc
same_kind-is (the.Symbol a) the.Char e = absurd cc
same_kind-is (the.Symbol a) the.Text e = absurd cc
same_kind-is (the.Symbol a) (the.Symbol b) e = ap the.Symbol (same_symbol-is a b e)
same_kind-is (the.Symbol a) the.End e = absurd cc
same_kind-is the.End the.Name e = absurd cc
same_kind-is the.End the.Number e = absurd cc
same_kind-is the.End the.Char e = absurd cc
same_kind-is the.End the.Text e = absurd cc
same_kind-is the.End (the.Symbol b) e = absurd cc
same_kind-is the.End the.End e = refl

same_itself : (a : Kind) → same_kind a a ≡ true
unfolding same_kind
same_itself the.Name = refl
same_itself the.Number = refl
same_itself the.Char = refl
same_itself the.Text = refl
same_itself (the.Symbol a) = is-same_symbol a
same_itself the.End = refl

pub is-same_kind : (a b : Kind) → a ≡ b → same_kind a b ≡ true
is-same_kind a b e = subst (λ (k : Kind). same_kind a k ≡ true) e (same_itself a)

false_if : (b : Bool) → (b ≡ true → ⊥) → b ≡ false
false_if true f = absurd (f refl)
false_if false f = refl

pub other-same_kind : (a b : Kind) → (a ≡ b → ⊥) → same_kind a b ≡ false
other-same_kind a b f = false_if (same_kind a b) (λ e. f (same_kind-is a b e))

pub is_same : (a b : Symbol) → a ≡ b → same_symbol a b ≡ true
is_same a b e = subst (λ (s : Symbol). same_symbol a s ≡ true) e (is-same_symbol a)

pub other_symbol : (a b : Symbol) → (a ≡ b → ⊥) → same_symbol a b ≡ false
other_symbol a b f = false_if (same_symbol a b) (λ e. f (same_symbol-is a b e))

pub ruleset symbols = (is_same, other_symbol)

pub ruleset kinds = (is-same_kind, other-same_kind)
