-- The least of what is refused, one after another.
use Rattle.std.proofs.Common.{◌≡◌, ◌<◌, ℕ, ◌+◌, Bool, true, false, cond, List, [], ◌∷◌, ◌++◌, length, take, get_or, map, fold, refl, sym, ap, ◌∙◌, Option, None}
use Rattle.std.specs.List.{flat_map, filter}
use Rattle.std.proofs.lemmas.List.{take_more, flat_map_more, map-append}
use Rattle.std.proofs.lemmas.List.Elements.{filter-append}
use Rattle.std.proofs.lemmas.List.Sums.{fold-append}
use Rattle.m2_rule.specs.declared.rule.Rule.TheVariants as rule
use Rattle.m2_tree.specs.declared.decl.Module.{Module}
use Rattle.m2_tree.specs.declared.name.Ident.{Ident}
use Rattle.m2_rule.specs.declared.breach.Breach.{Breach}
use Rattle.m2_graph.specs.Refused.{breach_where, least_with, least_of, is_bad_import, import_breaches}
use Rattle.m2_rule.specs.Breaches.{breach}

import_breaches-append : (ms : List Module) (m : Module) (xs ys : List Ident)
    → import_breaches ms m (xs ++ ys) ≡ import_breaches ms m xs ++ import_breaches ms m ys
import_breaches-append ms m xs ys = ap (map (λ (x : Ident). breach x.pos rule.MissingModule))
    (filter-append (λ (x : Ident). is_bad_import ms m x.name) xs ys)
    ∙ map-append (λ (x : Ident). breach x.pos rule.MissingModule) (filter (λ (x : Ident). is_bad_import ms m x.name) xs)
    (filter (λ (x : Ident). is_bad_import ms m x.name) ys)

mapped_where : (b : Bool) (x : Ident) → map (λ (y : Ident). breach y.pos rule.MissingModule) (cond b (x ∷ []) [])
    ≡ breach_where b x.pos rule.MissingModule
mapped_where true x = refl
mapped_where false x = refl

one_import : (ms : List Module) (m : Module) (x : Ident)
    → import_breaches ms m (x ∷ []) ≡ breach_where (is_bad_import ms m x.name) x.pos rule.MissingModule
one_import ms m x = mapped_where (is_bad_import ms m x.name) x

pub names_more : (ms : List Module) (m : Module) (xs : List Ident) (i : ℕ) (x : Ident) (b : Bool)
    (first found found' : Option Breach) → i < length xs → x ≡ get_or xs i x → b ≡ is_bad_import ms m x.name
    → found ≡ fold least_with first (import_breaches ms m (take i xs))
    → found' ≡ fold least_with found (breach_where b x.pos rule.MissingModule)
    → found' ≡ fold least_with first (import_breaches ms m (take (i + 1) xs))
names_more ms m xs i x b first found found' l e eb is is' =
    is' ∙ ap (λ c. fold least_with found (breach_where c x.pos rule.MissingModule)) eb
    ∙ ap (λ f. fold least_with f (breach_where (is_bad_import ms m x.name) x.pos rule.MissingModule)) is
    ∙ sym (fold-append least_with first (import_breaches ms m (take i xs))
    (breach_where (is_bad_import ms m x.name) x.pos rule.MissingModule))
    ∙ ap (fold least_with first) (ap (λ fs. import_breaches ms m (take i xs) ++ fs) (sym (one_import ms m x))
    ∙ sym (import_breaches-append ms m (take i xs) (x ∷ []))
    ∙ ap (import_breaches ms m) (ap (λ y. take i xs ++ y ∷ []) e ∙ sym (take_more xs i x l)))

pub one_more : (ms : List Module) (m : Module) (x : Ident) (b : Bool) (first found : Option Breach)
    → b ≡ is_bad_import ms m x.name → found ≡ fold least_with first (breach_where b x.pos rule.MissingModule)
    → found ≡ fold least_with first (import_breaches ms m (x ∷ []))
one_more ms m x b first found eb is = is ∙ ap (λ c. fold least_with first (breach_where c x.pos rule.MissingModule)) eb
    ∙ ap (fold least_with first) (sym (one_import ms m x))

pub imports_more : {X : Type 0} (ms : List Module) (m : Module) (g : X → List Ident) (xs : List X) (i : ℕ) (x : X)
    (found found' : Option Breach) → i < length xs → x ≡ get_or xs i x
    → found ≡ fold least_with None (import_breaches ms m (flat_map g (take i xs)))
    → found' ≡ fold least_with found (import_breaches ms m (g x))
    → found' ≡ fold least_with None (import_breaches ms m (flat_map g (take (i + 1) xs)))
imports_more ms m g xs i x found found' l e is is' =
    is' ∙ ap (λ f. fold least_with f (import_breaches ms m (g x))) is
    ∙ sym (fold-append least_with None (import_breaches ms m (flat_map g (take i xs))) (import_breaches ms m (g x)))
    ∙ ap (fold least_with None) (sym (import_breaches-append ms m (flat_map g (take i xs)) (g x))
    ∙ ap (import_breaches ms m) (flat_map_more g [] (take i xs) x
    ∙ ap (flat_map g) (ap (λ y. take i xs ++ y ∷ []) e ∙ sym (take_more xs i x l))))

pub then_least : (fs gs : List Breach) (r s : Option Breach) → r ≡ least_of fs → s ≡ fold least_with r gs
    → s ≡ least_of (fs ++ gs)
then_least fs gs r s e is = is ∙ ap (λ f. fold least_with f gs) e ∙ sym (fold-append least_with None fs gs)
