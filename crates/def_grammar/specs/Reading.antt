-- Reading by one token ahead: what the parser's functions do. The contract of `parse` does not
-- speak of it.
use Rattle.std.specs.Prelude.{◌≡◌, ℕ, zero, suc, ◌+◌, ◌-◌, ◌*◌, ◌==◌, Bool, true, false, ◌||◌, ◌&&◌, if◌then◌else◌, List, [], ◌∷◌, ◌++◌, length, Option, Some, None, option_map, ◌⊎◌, Result, Ok, Err}
use Rattle.std.proofs.Common.{inl, inr}
use Rattle.std.specs.Str.{bytes_eq}
use Rattle.m2_tree.specs.declared.token.Lexeme.{Lexeme}
use Rattle.m2_tree.specs.declared.token.Token.{Token}
use Rattle.def_grammar.specs.declared.kind.Kind.{Kind}
use Rattle.def_grammar.specs.declared.kind.Kind.TheVariants as the
use Rattle.def_grammar.specs.declared.refusal.GrammarRule.{GrammarRule}
use Rattle.def_grammar.specs.declared.refusal.GrammarRule.TheVariants.{Unfit, Misnamed, TooDeep}
use Rattle.def_grammar.specs.declared.refusal.Stop.{Stop}
use Rattle.def_grammar.specs.declared.refusal.Stop.TheVariants.{NoMemory, Refused}
use Rattle.def_grammar.specs.Kinds.{kind_said, kind_of, same_kind}
use Rattle.def_grammar.specs.Rule.{Rule, Ast}
use Rattle.def_grammar.specs.Grammar.{Ty, El, Gr, tok, rule, ◌·◌, ◌∣◌, lead, trail, opt, many, nest, named}
use Rattle.def_grammar.specs.Ebnf.{grammar}
use Rattle.def_grammar.specs.Trees.{is_there, name_of, tree}
use Rattle.def_grammar.specs.Tables.{vanishes, starters, rank}

-- ---- what a part can begin with, and whether it can be nothing

abbrev pub nullable : {a : Ty} → Gr a → Bool
nullable (tok k ks) = false
nullable (rule r) = vanishes r
nullable (g · h) = nullable g && nullable h
nullable (g ∣ h) = nullable g || nullable h
nullable (lead k g) = false
nullable (trail g k) = false
nullable (opt g) = true
nullable (many g) = true
nullable (nest g) = nullable g
nullable (named g) = false

-- the tokens that a part begins with, if the productions begin with those
abbrev pub first_by : (Rule → List Kind) → {a : Ty} → Gr a → List Kind
first_by ρ (tok k ks) = k ∷ ks
first_by ρ (rule r) = ρ r
first_by ρ (g · h) = if nullable g then first_by ρ g ++ first_by ρ h else first_by ρ g
first_by ρ (g ∣ h) = first_by ρ g ++ first_by ρ h
first_by ρ (lead k g) = k ∷ []
first_by ρ (trail g k) = if nullable g then first_by ρ g ++ k ∷ [] else first_by ρ g
first_by ρ (opt g) = first_by ρ g
first_by ρ (many g) = first_by ρ g
first_by ρ (nest g) = first_by ρ g
first_by ρ (named g) = the.Name ∷ []

abbrev pub first : {a : Ty} → Gr a → List Kind
first g = first_by starters g

-- ---- readers

abbrev pub Outcome : Type 0 → Type 0
Outcome A = Result (A × List Token) (List Token × GrammarRule)

-- what comes of a list: the value with what is left, or what was left at the fault, and which one
-- it is
abbrev pub Reader : Type 0 → Type 0
Reader A = List Token → Outcome A

abbrev pub and_then : {A B : Type 0} → Outcome A → (A → Reader B) → Outcome B
and_then (Ok p) f = f p.0 p.1
and_then (Err e) f = Err e

abbrev pub kind_at : List Token → Kind
kind_at [] = the.End
kind_at (t ∷ ts) = kind_of t

abbrev pub is_among : Kind → List Kind → Bool
is_among k [] = false
is_among k (j ∷ js) = same_kind k j || is_among k js

abbrev pub begins : List Kind → List Token → Bool
begins ks ts = is_among (kind_at ts) ks

abbrev pub one_token : List Kind → Reader Token
one_token ks [] = Err ([], Unfit)
one_token ks (t ∷ ts) = if is_among (kind_of t) ks then Ok (t, ts) else Err (t ∷ ts, Unfit)

abbrev pub in_turn : {A B : Type 0} → Reader A → Reader B → Reader (A × B)
in_turn p q = λ ts. and_then (p ts) (λ x mid. and_then (q mid) (λ y rest. Ok ((x, y), rest)))

abbrev pub either_of : {A B : Type 0} → List Kind → Reader A → Reader B → Reader (A ⊎ B)
either_of ks p q =
    λ ts.
    if begins ks ts
    then and_then (p ts) (λ x rest. Ok (inl x, rest))
    else and_then (q ts) (λ y rest. Ok (inr y, rest))

abbrev pub after_word : {A : Type 0} → Kind → Reader A → Reader A
after_word k p = λ ts. and_then (one_token (k ∷ []) ts) (λ t mid. p mid)

abbrev pub with_end : {A : Type 0} → Reader A → Kind → Reader A
with_end p k =
    λ ts. and_then (p ts) (λ x mid. and_then (one_token (k ∷ []) mid) (λ t rest. Ok (x, rest)))

abbrev pub if_begun : {A : Type 0} → List Kind → Reader A → Reader (Option A)
if_begun ks p =
    λ ts. if begins ks ts then and_then (p ts) (λ x rest. Ok (Some x, rest)) else Ok (None, ts)

-- The number bounds the turns. Each takes a token, so the count of tokens is enough.
unfoldable pub turns : {A : Type 0} → List Kind → Reader A → ℕ → Reader (List A)
turns ks p zero ts = Ok ([], ts)
turns ks p (suc n) ts =
    if begins ks ts
    then and_then (p ts) (λ x mid. and_then (turns ks p n mid) (λ xs rest. Ok (x ∷ xs, rest)))
    else Ok ([], ts)

unfoldable pub repetition_of : {A : Type 0} → List Kind → Reader A → Reader (List A)
repetition_of ks p ts = turns ks p (length ts) ts

abbrev pub no_deeper : {A : Type 0} → List Kind → Reader A
no_deeper ks [] = Err ([], Unfit)
no_deeper ks (t ∷ ts) =
    if is_among (kind_of t) ks then Err (t ∷ ts, TooDeep) else Err (t ∷ ts, Unfit)

abbrev pub closing : List ℕ → Reader Token
closing name ts =
    and_then (one_token (the.Name ∷ []) ts) (λ u rest.
    if bytes_eq name (name_of u) then Ok (u, rest) else Err (ts, Misnamed))

abbrev pub with_names : {A : Type 0} → Reader A → Reader (Token × A)
with_names p =
    λ ts.
    and_then (one_token (the.Name ∷ []) ts) (λ t mid.
    and_then (p mid) (λ x rest.
    and_then (closing (name_of t) rest) (λ u after. Ok ((t, x), after))))

-- ---- the grammar's readers. The number says how many levels of nesting are left.

abbrev pub Readers : Type 0
Readers = ℕ → (r : Rule) → Reader (Ast r)

abbrev pub read_by : Readers → {a : Ty} → Gr a → ℕ → Reader (El a)
read_by ρ (tok k ks) n = one_token (k ∷ ks)
read_by ρ (rule r) n = ρ n r
read_by ρ (g · h) n = in_turn (read_by ρ g n) (read_by ρ h n)
read_by ρ (g ∣ h) n = either_of (first g) (read_by ρ g n) (read_by ρ h n)
read_by ρ (lead k g) n = after_word k (read_by ρ g n)
read_by ρ (trail g k) n = with_end (read_by ρ g n) k
read_by ρ (opt g) n = if_begun (first g) (read_by ρ g n)
read_by ρ (many g) n = repetition_of (first g) (read_by ρ g n)
read_by ρ (nest g) zero = no_deeper (first g)
read_by ρ (nest g) (suc n) = read_by ρ g n
read_by ρ (named g) n = with_names (read_by ρ g n)

abbrev pub made_of : (r : Rule) → Reader (El (grammar r).shape) → Reader (Ast r)
made_of r p = λ ts. and_then (p ts) (λ x rest. Ok (tree r x, rest))

-- The number bounds how deep the calls go.
unfoldable pub read_within : ℕ → Readers
read_within zero n r ts = Err (ts, Unfit)
read_within (suc k) n r ts = made_of r (read_by (read_within k) (grammar r).form n) ts

unfoldable pub read_rule : Readers
read_rule n r = read_within (suc (n * 16 + rank r)) n r

-- what a part reads
abbrev pub read : {a : Ty} → Gr a → ℕ → Reader (El a)
read g n = read_by read_rule g n

-- ---- what a function that reads ensures: the outcome, unless memory fails

abbrev pub Reads : {A : Type 0} → Outcome A → Result A Stop → List Token → Type 0
Reads outcome (Ok a) new = outcome ≡ Ok (a, new)
Reads outcome (Err NoMemory) new = Unit {0}
Reads outcome (Err (Refused f)) new = outcome ≡ Err (new, f)

-- the same, if the function answers what it makes of the value
abbrev pub ReadsAs : {A B : Type 0} → (A → B) → Outcome A → Result B Stop → List Token → Type 0
ReadsAs {A} view outcome (Ok b) new = (x : A) × (outcome ≡ Ok (x, new)) × (b ≡ view x)
ReadsAs view outcome (Err NoMemory) new = Unit {0}
ReadsAs view outcome (Err (Refused f)) new = outcome ≡ Err (new, f)

-- the same, if the function adds what it makes to a list
abbrev pub ReadsOnto : {A B : Type 0} → (A → List B) → Outcome A → List B → Result (Unit {0}) Stop
    → List B → List Token → Type 0
ReadsOnto {A} view outcome old (Ok b) found new =
    (x : A) × (outcome ≡ Ok (x, new)) × (found ≡ old ++ view x)
ReadsOnto view outcome old (Err NoMemory) found new = Unit {0}
ReadsOnto view outcome old (Err (Refused f)) found new = outcome ≡ Err (new, f)

-- ---- the cursor's own readers

abbrev pub map_outcome : {A B : Type 0} → (A → B) → Outcome A → Outcome B
map_outcome f outcome = and_then outcome (λ x rest. Ok (f x, rest))

-- what was found before, and what comes of the turns that follow
abbrev pub gather_turns : {A B : Type 0} → (List A → List B) → List B → Outcome (List A)
    → Outcome (List B)
gather_turns collect front outcome = map_outcome (λ xs. front ++ collect xs) outcome

-- the levels of nesting that are left inside of a part that begins with one of these kinds
abbrev pub enter_level : List Kind → ℕ → Reader ℕ
enter_level ks n ts = if n == 0 then no_deeper ks ts else Ok (n - 1, ts)

-- whether the token was taken
abbrev pub AteIf : Kind → List Token → Bool → List Token → Type 0
AteIf k ts true rest =
    (begins (k ∷ []) ts ≡ true) × (t : Token) × (one_token (k ∷ []) ts ≡ Ok (t, rest))
AteIf k ts false rest = (begins (k ∷ []) ts ≡ false) × (rest ≡ ts)

-- the same as one equation
abbrev pub HadIf : Kind → List Token → Bool → List Token → Type 0
HadIf k ts b rest =
    (o : Option Token) × (if_begun (k ∷ []) (one_token (k ∷ [])) ts ≡ Ok (o, rest))
    × (b ≡ is_there o)

-- what one of these tokens says, if the token is one and was taken
abbrev pub TookIf : {A : Type 0} → List Kind → (Token → A) → List Token → Option A → List Token
    → Type 0
TookIf ks f ts (Some x) rest =
    (begins ks ts ≡ true) × (t : Token) × (one_token ks ts ≡ Ok (t, rest)) × (x ≡ f t)
TookIf ks f ts None rest = (begins ks ts ≡ false) × (rest ≡ ts)

-- what one of these lexemes says
abbrev pub SaysIf : {A : Type 0} → List Kind → (Lexeme → A) → Lexeme → Option A → Type 0
SaysIf ks f l (Some x) = (is_among (kind_said l) ks ≡ true) × (x ≡ f l)
SaysIf ks f l None = is_among (kind_said l) ks ≡ false

-- the same as one equation
abbrev pub TookAs : {A : Type 0} → List Kind → (Token → A) → List Token → Option A → List Token
    → Type 0
TookAs ks f ts found rest =
    (o : Option Token) × (if_begun ks (one_token ks) ts ≡ Ok (o, rest)) × (found ≡ option_map f o)
