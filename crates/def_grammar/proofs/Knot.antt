-- The readers of the productions solve the grammar's equations: the bound on calls is never met.
use Rattle.std.proofs.Common.{◌≡◌, ℕ, zero, suc, ◌+◌, ◌*◌, ◌<◌, ◌≤◌, Bool, true, ◌&&◌, nat_lt, List, refl, ap, arith, lit<}
use Rattle.std.proofs.lemmas.Bool.{ltb-true}
use mathlib.Core.Path.{ap₂}
use Rattle.m2_tree.specs.declared.token.Token.{Token}
use Rattle.def_grammar.specs.Rule.{Rule, module_rule, import_rule, idents_rule, def_rule, block_rule, decl_rule, constant_rule, type_decl_rule, variables_rule, formals_rule, section_rule, formal_rule, qual_rule, simple_rule, type_rule, dims_rule, parameter_rule, field_rule, stmts_rule, stmt_rule, rest_rule, arm_rule, item_rule, desig_rule, selectors_rule, args_rule, expr_rule, sum_rule, term_rule, factor_rule, set_rule}
use Rattle.def_grammar.specs.Grammar.{Ty, Gr, tok, rule, ◌·◌, ◌∣◌, lead, trail, opt, many, nest, named}
use Rattle.def_grammar.specs.Ebnf.{grammar}
use Rattle.def_grammar.proofs.Truth.{and_both}
use Rattle.def_grammar.specs.Tables.{rank}
use Rattle.def_grammar.specs.Reading.{Readers, first, in_turn, either_of, after_word, with_end, if_begun, repetition_of, with_names, read_by, made_of, read_within, read_rule, read}

-- whether each production outside of a level of nesting has a rank below this one
abbrev below : {a : Ty} → ℕ → Gr a → Bool
below b (tok k ks) = true
below b (rule r) = nat_lt (rank r) b
below b (g · h) = below b g && below b h
below b (g ∣ h) = below b g && below b h
below b (lead k g) = below b g
below b (trail g k) = below b g
below b (opt g) = below b g
below b (many g) = below b g
below b (nest g) = true
below b (named g) = below b g

ranked : (r : Rule) → below (rank r) (grammar r).form ≡ true
ranked module_rule = refl
ranked import_rule = refl
ranked idents_rule = refl
ranked def_rule = refl
ranked block_rule = refl
ranked decl_rule = refl
ranked constant_rule = refl
ranked type_decl_rule = refl
ranked variables_rule = refl
ranked formals_rule = refl
ranked section_rule = refl
ranked formal_rule = refl
ranked qual_rule = refl
ranked simple_rule = refl
ranked type_rule = refl
ranked dims_rule = refl
ranked parameter_rule = refl
ranked field_rule = refl
ranked stmts_rule = refl
ranked stmt_rule = refl
ranked rest_rule = refl
ranked arm_rule = refl
ranked item_rule = refl
ranked desig_rule = refl
ranked selectors_rule = refl
ranked args_rule = refl
ranked expr_rule = refl
ranked sum_rule = refl
ranked term_rule = refl
ranked factor_rule = refl
ranked set_rule = refl

pub rank_small : (r : Rule) → rank r < 16
rank_small module_rule = lit< tt
rank_small _ = lit< tt

-- ---- what a part reads depends on the readers of its productions alone

all_same : (ρ σ : Readers) (n : ℕ) → ((m : ℕ) (r : Rule) → m ≤ n → ρ m r ≡ σ m r) → {a : Ty} (g : Gr a)
    → read_by ρ g n ≡ read_by σ g n
all_same ρ σ n h (tok k ks) = refl
all_same ρ σ n h (rule r) = h n r (omega arith)
all_same ρ σ n h (g · l) = ap₂ in_turn (all_same ρ σ n h g) (all_same ρ σ n h l)
all_same ρ σ n h (g ∣ l) = ap₂ (either_of (first g)) (all_same ρ σ n h g) (all_same ρ σ n h l)
all_same ρ σ n h (lead k g) = ap (after_word k) (all_same ρ σ n h g)
all_same ρ σ n h (trail g k) = ap (λ p. with_end p k) (all_same ρ σ n h g)
all_same ρ σ n h (opt g) = ap (if_begun (first g)) (all_same ρ σ n h g)
all_same ρ σ n h (many g) = ap (repetition_of (first g)) (all_same ρ σ n h g)
all_same ρ σ zero h (nest g) = refl
all_same ρ σ (suc n) h (nest g) = all_same ρ σ n (λ m r le. h m r (omega arith)) g
all_same ρ σ n h (named g) = ap with_names (all_same ρ σ n h g)

same : (ρ σ : Readers) (n b : ℕ) → ((r : Rule) → rank r < b → ρ n r ≡ σ n r)
    → ((m : ℕ) (r : Rule) → m < n → ρ m r ≡ σ m r) → {a : Ty} (g : Gr a) → below b g ≡ true
    → read_by ρ g n ≡ read_by σ g n
same ρ σ n b here under (tok k ks) e = refl
same ρ σ n b here under (rule r) e = here r (ltb-true (rank r) b e)
same ρ σ n b here under (g · l) e = let p = and_both _ _ e in
    ap₂ in_turn (same ρ σ n b here under g p.0) (same ρ σ n b here under l p.1)
same ρ σ n b here under (g ∣ l) e = let p = and_both _ _ e in
    ap₂ (either_of (first g)) (same ρ σ n b here under g p.0) (same ρ σ n b here under l p.1)
same ρ σ n b here under (lead k g) e = ap (after_word k) (same ρ σ n b here under g e)
same ρ σ n b here under (trail g k) e = ap (λ p. with_end p k) (same ρ σ n b here under g e)
same ρ σ n b here under (opt g) e = ap (if_begun (first g)) (same ρ σ n b here under g e)
same ρ σ n b here under (many g) e = ap (repetition_of (first g)) (same ρ σ n b here under g e)
same ρ σ zero b here under (nest g) e = refl
same ρ σ (suc n) b here under (nest g) e = all_same ρ σ n (λ m r le. under m r (omega arith)) g
same ρ σ n b here under (named g) e = ap with_names (same ρ σ n b here under g e)

agree : (k j n : ℕ) (r : Rule) → n * 16 + rank r < k → n * 16 + rank r < j → read_within k n r ≡ read_within j n r
unfolding read_within
agree zero j n r lk lj = absurd (omega arith)
agree (suc k) zero n r lk lj = absurd (omega arith)
agree (suc k) (suc j) n r lk lj =
    ap (made_of r) (same (read_within k) (read_within j) n (rank r)
    (λ s lt. agree k j n s (omega arith) (omega arith))
    (λ m s lt. agree k j m s (omega (arith, rank_small s)) (omega (arith, rank_small s)))
    (grammar r).form (ranked r))

pub read_rule-solves : (n : ℕ) (r : Rule) → read_rule n r ≡ made_of r (read (grammar r).form n)
unfolding read_rule read_within
read_rule-solves n r =
    ap (made_of r) (same (read_within (n * 16 + rank r)) read_rule n (rank r)
    (λ s lt. agree (n * 16 + rank r) (suc (n * 16 + rank s)) n s (omega arith) (omega arith))
    (λ m s lt. agree (n * 16 + rank r) (suc (m * 16 + rank s)) m s (omega (arith, rank_small s)) (omega arith))
    (grammar r).form (ranked r))

pub read_rule-is : (n : ℕ) (r : Rule) (ts : List Token) → read_rule n r ts ≡ made_of r (read (grammar r).form n) ts
read_rule-is n r ts = ap (λ p. p ts) (read_rule-solves n r)
