-- Which lists of tokens a grammar has, and with which trees.
use Rattle.std.specs.Prelude.{◌≡◌, ◌≢◌, ℕ, suc, List, [], ◌∷◌, ◌++◌, Some, None}
use Rattle.std.proofs.Common.{inl, inr}
use Rattle.def_grammar.specs.declared.kind.Kind.{Kind}
use Rattle.def_grammar.specs.declared.kind.Kind.TheVariants as the
use Rattle.m2_tree.specs.declared.token.Token.{Token}
use Rattle.def_grammar.specs.declared.refusal.GrammarRule.{GrammarRule}
use Rattle.def_grammar.specs.declared.refusal.GrammarRule.TheVariants.{Misnamed, TooDeep}
use Rattle.def_grammar.specs.Kinds.{kind_of}
use Rattle.def_grammar.specs.Rule.{Rule}
use Rattle.def_grammar.specs.Grammar.{Ty, El, Gr, tok, rule, ◌·◌, ◌∣◌, lead, trail, opt, many, nest, named}
use Rattle.def_grammar.specs.Ebnf.{grammar}
use Rattle.def_grammar.specs.Trees.{name_of, tree}

-- one of a list
pub data Among : Kind → List Kind → Type 0 where
  here : {k : Kind} {ks : List Kind} → Among k (k ∷ ks)
  there : {k j : Kind} {ks : List Kind} → Among k ks → Among k (j ∷ ks)

-- The tokens are a text of this part of the grammar, and this is what it leaves in the tree.
pub data Spells : (a : Ty) → Gr a → El a → List Token → Type 0 where
  one : {k : Kind} {ks : List Kind} {t : Token} → Among (kind_of t) (k ∷ ks)
      → Spells _ (tok k ks) t (t ∷ [])
  made : {r : Rule} {x : El (grammar r).shape} {ts : List Token} → Spells _ (grammar r).form x ts
      → Spells _ (rule r) (tree r x) ts
  pair : {a b : Ty} {g : Gr a} {h : Gr b} {x : El a} {y : El b} {ts us : List Token}
      → Spells _ g x ts → Spells _ h y us → Spells _ (g · h) (x, y) (ts ++ us)
  left : {a b : Ty} {g : Gr a} {h : Gr b} {x : El a} {ts : List Token} → Spells _ g x ts
      → Spells _ (g ∣ h) (inl x) ts
  right : {a b : Ty} {g : Gr a} {h : Gr b} {y : El b} {ts : List Token} → Spells _ h y ts
      → Spells _ (g ∣ h) (inr y) ts
  before : {a : Ty} {k : Kind} {g : Gr a} {x : El a} {t : Token} {ts : List Token} → kind_of t ≡ k
      → Spells _ g x ts → Spells _ (lead k g) x (t ∷ ts)
  behind : {a : Ty} {k : Kind} {g : Gr a} {x : El a} {ts : List Token} (t : Token) → Spells _ g x ts
      → kind_of t ≡ k → Spells _ (trail g k) x (ts ++ t ∷ [])
  absent : {a : Ty} {g : Gr a} → Spells _ (opt g) None []
  there_is : {a : Ty} {g : Gr a} {x : El a} {ts : List Token} → Spells _ g x ts
      → Spells _ (opt g) (Some x) ts
  none : {a : Ty} {g : Gr a} → Spells _ (many g) [] []
  more : {a : Ty} {g : Gr a} {x : El a} {xs : List (El a)} {ts us : List Token} → Spells _ g x ts
      → Spells _ (many g) xs us → Spells _ (many g) (x ∷ xs) (ts ++ us)
  nested : {a : Ty} {g : Gr a} {x : El a} {ts : List Token} → Spells _ g x ts
      → Spells _ (nest g) x ts
  -- that the two names are the same is a rule of its own
  closed : {a : Ty} {g : Gr a} {x : El a} {ts : List Token} (t u : Token) → kind_of t ≡ the.Name
      → Spells _ g x ts → kind_of u ≡ the.Name → Spells _ (named g) (t, x) (t ∷ ts ++ u ∷ [])

-- some text of the part begins with the token
abbrev pub CanBegin : {a : Ty} → Gr a → Token → Type 0
CanBegin {a} g t = (x : El a) × (ts : List Token) × Spells a g x (t ∷ ts)

-- Where the tokens, as far as they are a text of the part or the beginning of one, break a rule on
-- names or on nesting: `at` is what is left of them from that place on. The number says how many
-- levels of nesting are left.
pub data Breaks : (a : Ty) → Gr a → ℕ → List Token → List Token → GrammarRule → Type 0 where
  -- a part that counts begins, and no level is left for it
  too_deep : {a : Ty} {g : Gr a} {t : Token} {ts : List Token} → CanBegin g t
      → Breaks _ (nest g) 0 (t ∷ ts) (t ∷ ts) TooDeep
  -- the closing name is not the opening one
  misnamed : {a : Ty} {g : Gr a} {n : ℕ} {x : El a} {ts : List Token} (t u : Token)
      (us : List Token)
      → kind_of t ≡ the.Name
      → Spells _ g x ts
      → kind_of u ≡ the.Name
      → name_of t ≢ name_of u
      → Breaks _ (named g) n (t ∷ ts ++ u ∷ us) (u ∷ us) Misnamed
  -- in a part
  in_rule : {r : Rule} {n : ℕ} {ts at : List Token} {f : GrammarRule}
      → Breaks _ (grammar r).form n ts at f → Breaks _ (rule r) n ts at f
  in_first : {a b : Ty} {g : Gr a} {h : Gr b} {n : ℕ} {ts at : List Token} {f : GrammarRule}
      → Breaks _ g n ts at f → Breaks _ (g · h) n ts at f
  in_second :
      {a b : Ty} {g : Gr a} {h : Gr b} {n : ℕ} {x : El a} {us ts at : List Token} {f : GrammarRule}
      → Spells _ g x us → Breaks _ h n ts at f → Breaks _ (g · h) n (us ++ ts) at f
  in_left : {a b : Ty} {g : Gr a} {h : Gr b} {n : ℕ} {ts at : List Token} {f : GrammarRule}
      → Breaks _ g n ts at f → Breaks _ (g ∣ h) n ts at f
  in_right : {a b : Ty} {g : Gr a} {h : Gr b} {n : ℕ} {ts at : List Token} {f : GrammarRule}
      → Breaks _ h n ts at f → Breaks _ (g ∣ h) n ts at f
  in_rest : {a : Ty} {k : Kind} {g : Gr a} {n : ℕ} {t : Token} {ts at : List Token}
      {f : GrammarRule} → kind_of t ≡ k → Breaks _ g n ts at f → Breaks _ (lead k g) n (t ∷ ts) at f
  in_front : {a : Ty} {k : Kind} {g : Gr a} {n : ℕ} {ts at : List Token} {f : GrammarRule}
      → Breaks _ g n ts at f → Breaks _ (trail g k) n ts at f
  in_opt : {a : Ty} {g : Gr a} {n : ℕ} {ts at : List Token} {f : GrammarRule} → Breaks _ g n ts at f
      → Breaks _ (opt g) n ts at f
  in_turn_now : {a : Ty} {g : Gr a} {n : ℕ} {ts at : List Token} {f : GrammarRule}
      → Breaks _ g n ts at f → Breaks _ (many g) n ts at f
  in_turn_later : {a : Ty} {g : Gr a} {n : ℕ} {x : El a} {us ts at : List Token} {f : GrammarRule}
      → Spells _ g x us → Breaks _ (many g) n ts at f → Breaks _ (many g) n (us ++ ts) at f
  in_nest : {a : Ty} {g : Gr a} {n : ℕ} {ts at : List Token} {f : GrammarRule}
      → Breaks _ g n ts at f → Breaks _ (nest g) (suc n) ts at f
  in_named : {a : Ty} {g : Gr a} {n : ℕ} {t : Token} {ts at : List Token} {f : GrammarRule}
      → kind_of t ≡ the.Name → Breaks _ g n ts at f → Breaks _ (named g) n (t ∷ ts) at f
