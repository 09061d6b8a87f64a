-- The productions in which no nesting counts read the same whatever levels are left.
use Rattle.std.proofs.Common.{◌≡◌, ℕ, zero, suc, ◌<◌, Bool, true, false, ◌&&◌, nat_lt, List, refl, sym, ap, ◌∙◌, arith}
use Rattle.std.proofs.lemmas.Bool.{ltb-true}
use mathlib.Core.Path.{ap₂}
use Rattle.m2_tree.specs.declared.token.Token.{Token}
use Rattle.def_grammar.specs.Rule.{Rule, import_rule, idents_rule, formals_rule, section_rule, formal_rule, qual_rule, parameter_rule}
use Rattle.def_grammar.specs.Grammar.{Ty, Gr, tok, rule, ◌·◌, ◌∣◌, lead, trail, opt, many, nest, named}
use Rattle.def_grammar.specs.Ebnf.{grammar, procedure_type}
use Rattle.def_grammar.specs.Tables.{rank}
use Rattle.def_grammar.specs.Reading.{first, in_turn, either_of, after_word, with_end, if_begun, repetition_of, with_names, made_of, read, read_rule}
use Rattle.def_grammar.proofs.Truth.{and_both}
use Rattle.def_grammar.proofs.Knot.{rank_small, read_rule-solves}

abbrev is_flat : Rule → Bool
is_flat import_rule = true
is_flat idents_rule = true
is_flat formals_rule = true
is_flat section_rule = true
is_flat formal_rule = true
is_flat qual_rule = true
is_flat parameter_rule = true
is_flat _ = false

-- whether each production of the part is flat and has a rank below this one
abbrev all_flat : {a : Ty} → ℕ → Gr a → Bool
all_flat b (tok k ks) = true
all_flat b (rule r) = is_flat r && nat_lt (rank r) b
all_flat b (g · h) = all_flat b g && all_flat b h
all_flat b (g ∣ h) = all_flat b g && all_flat b h
all_flat b (lead k g) = all_flat b g
all_flat b (trail g k) = all_flat b g
all_flat b (opt g) = all_flat b g
all_flat b (many g) = all_flat b g
all_flat b (nest g) = false
all_flat b (named g) = all_flat b g

flats : (r : Rule) → is_flat r ≡ true → all_flat (rank r) (grammar r).form ≡ true
flats import_rule e = refl
flats idents_rule e = refl
flats formals_rule e = refl
flats section_rule e = refl
flats formal_rule e = refl
flats qual_rule e = refl
flats parameter_rule e = refl
flats _ e = absurd cc

same_by : (n b : ℕ) → ((r : Rule) → is_flat r ≡ true → rank r < b → read_rule n r ≡ read_rule 0 r) → {a : Ty} (g : Gr a)
    → all_flat b g ≡ true → read g n ≡ read g 0
same_by n b h (tok k ks) e = refl
same_by n b h (rule r) e = let p = and_both _ _ e in h r p.0 (ltb-true (rank r) b p.1)
same_by n b h (g · l) e = let p = and_both _ _ e in ap₂ in_turn (same_by n b h g p.0) (same_by n b h l p.1)
same_by n b h (g ∣ l) e = let p = and_both _ _ e in
    ap₂ (either_of (first g)) (same_by n b h g p.0) (same_by n b h l p.1)
same_by n b h (lead k g) e = ap (after_word k) (same_by n b h g e)
same_by n b h (trail g k) e = ap (λ p. with_end p k) (same_by n b h g e)
same_by n b h (opt g) e = ap (if_begun (first g)) (same_by n b h g e)
same_by n b h (many g) e = ap (repetition_of (first g)) (same_by n b h g e)
same_by n b h (nest g) e = absurd cc
same_by n b h (named g) e = ap with_names (same_by n b h g e)

same_below : (n k : ℕ) (r : Rule) → is_flat r ≡ true → rank r < k → read_rule n r ≡ read_rule 0 r
same_below n zero r f lt = absurd (omega arith)
same_below n (suc k) r f lt =
    read_rule-solves n r ∙ ap (made_of r) (same_by n (rank r) (λ s g l. same_below n k s g (omega arith))
    (grammar r).form (flats r f)) ∙ sym (read_rule-solves 0 r)

-- a part whose productions are all flat
part_flat : {a : Ty} (n : ℕ) (g : Gr a) (ts : List Token) → all_flat 16 g ≡ true → read g n ts ≡ read g 0 ts
part_flat n g ts e = ap (λ p. p ts) (same_by n 16 (λ s f lt. same_below n 16 s f lt) g e)

flat_at : (n : ℕ) (r : Rule) (ts : List Token) → is_flat r ≡ true → read_rule n r ts ≡ read_rule 0 r ts
flat_at n r ts f = ap (λ p. p ts) (same_below n 16 r f (rank_small r))

pub import_flat : (n : ℕ) (ts : List Token) → read_rule n import_rule ts ≡ read_rule 0 import_rule ts
import_flat n ts = flat_at n import_rule ts refl

pub idents_flat : (n : ℕ) (ts : List Token) → read_rule n idents_rule ts ≡ read_rule 0 idents_rule ts
idents_flat n ts = flat_at n idents_rule ts refl

pub formals_flat : (n : ℕ) (ts : List Token) → read_rule n formals_rule ts ≡ read_rule 0 formals_rule ts
formals_flat n ts = flat_at n formals_rule ts refl

pub section_flat : (n : ℕ) (ts : List Token) → read_rule n section_rule ts ≡ read_rule 0 section_rule ts
section_flat n ts = flat_at n section_rule ts refl

pub formal_flat : (n : ℕ) (ts : List Token) → read_rule n formal_rule ts ≡ read_rule 0 formal_rule ts
formal_flat n ts = flat_at n formal_rule ts refl

pub qual_flat : (n : ℕ) (ts : List Token) → read_rule n qual_rule ts ≡ read_rule 0 qual_rule ts
qual_flat n ts = flat_at n qual_rule ts refl

pub parameter_flat : (n : ℕ) (ts : List Token) → read_rule n parameter_rule ts ≡ read_rule 0 parameter_rule ts
parameter_flat n ts = flat_at n parameter_rule ts refl

pub procedure_type_flat : (n : ℕ) (ts : List Token) → read procedure_type n ts ≡ read procedure_type 0 ts
procedure_type_flat n ts = part_flat n procedure_type ts refl
