-- The grammar's form of a factor and the plain one have the same texts and trees.
use Rattle.std.proofs.Common.{List, ◌++◌, refl, sym, subst, append_assoc}
use Rattle.m2_tree.specs.declared.token.Token.{Token}
use Rattle.m2_tree.specs.declared.expr.Expr.{Expr}
use Rattle.def_grammar.specs.Grammar.{El}
use Rattle.def_grammar.specs.Spelling.{Spells, made, pair, left, right, absent, there_is}
use Rattle.def_grammar.specs.Factored.{plain_shape, plain_factor, plain_tree, IsPlainFactor, IsFactor}

regroup : {y : El plain_shape} (ts us vs : List Token) → Spells plain_shape plain_factor y ((ts ++ us) ++ vs)
    → Spells plain_shape plain_factor y (ts ++ (us ++ vs))
regroup {y} ts us vs p = subst (λ (ws : List Token). Spells plain_shape plain_factor y ws) (append_assoc ts us vs) p

ungroup : {x : Expr} (ts us vs : List Token) → IsFactor x (ts ++ (us ++ vs)) → IsFactor x ((ts ++ us) ++ vs)
ungroup {x} ts us vs p = subst (λ (ws : List Token). IsFactor x ws) (sym (append_assoc ts us vs)) p

pub is_plain : {x : Expr} {ts : List Token} → IsFactor x ts → IsPlainFactor x ts
is_plain (made (left p)) = (_, left p, refl)
is_plain (made (right (left (pair i (left s))))) = (_, right (left (pair (there_is i) s)), refl)
is_plain (made (right (left (pair {ts = ts} i (right (pair {ts = us} {us = vs} s a)))))) =
    (_, regroup ts us vs (right (right (right (right (pair (made (pair i s)) a))))), refl)
is_plain (made (right (right (left s)))) = (_, right (left (pair absent s)), refl)
is_plain (made (right (right (right (left p))))) = (_, right (right (left p)), refl)
is_plain (made (right (right (right (right p))))) = (_, right (right (right (left p))), refl)

by_plain : {y : El plain_shape} {ts : List Token} → Spells plain_shape plain_factor y ts → IsFactor (plain_tree y) ts
by_plain (left p) = made (left p)
by_plain (right (left (pair (there_is i) s))) = made (right (left (pair i (left s))))
by_plain (right (left (pair absent s))) = made (right (right (left s)))
by_plain (right (right (left p))) = made (right (right (right (left p))))
by_plain (right (right (right (left p)))) = made (right (right (right (right p))))
by_plain (right (right (right (right (pair {us = vs} (made (pair {ts = ts} {us = us} i s)) a))))) =
    ungroup ts us vs (made (right (left (pair i (right (pair s a))))))

pub is_factor : (x : Expr) (ts : List Token) → IsPlainFactor x ts → IsFactor x ts
is_factor x ts p = subst (λ (x : Expr). IsFactor x ts) (sym p.2) (by_plain p.1)
