-- At most one thing is read of a text.
use Rattle.std.proofs.Common.{◌≡◌, ◌⊎◌, inl, inr, ℕ, List, sym, ap, subst, ◌∙◌}
use Rattle.std.specs.Arc.{arc_value}
use Rattle.m2_tree.specs.declared.pos.Pos.{Pos}
use Rattle.m2_tree.specs.declared.token.Token.{Token}
use Rattle.m2_tree.specs.declared.decl.Module.{Module}
use Rattle.scan_tokens.specs.FaultNumber.{number_of}
use Rattle.scan_tokens.specs.declared.refusal.ScanRefusal.{ScanRefusal}
use Rattle.scan_tokens.proofs.Scanned.{tokens_once, never_both}
use Rattle.scan_tokens.proofs.Refusals.{one_refusal}
use Rattle.def_grammar.specs.Refusal.{IsTree, IsReported}
use Rattle.def_grammar.specs.declared.refusal.ParseRefusal.{ParseRefusal}
use Rattle.def_grammar.proofs.Exact.{at_most_one, refused_once}
use Rattle.def_grammar.proofs.Exact.{never_both as tree_or_refusal}
use Rattle.build_jobs.specs.declared.reading.Read.{Read}
use Rattle.build_jobs.specs.declared.reading.Read.TheVariants.{Parsed, Refused}
use Rattle.build_jobs.specs.Reading.{AreTokens, IsNoText, IsNoTree, HasTree, IsRead, AreSame}

same_tokens : (text : List ℕ) (ts us : List Token) → AreTokens text ts → AreTokens text us → ts ≡ us
same_tokens text ts us a b = tokens_once text ts us a.divides b.divides

tokens_or_fault : (text : List ℕ) (ts : List Token) (pos : Pos) (n : ℕ) → AreTokens text ts → IsNoText text pos n → ⊥
tokens_or_fault text ts pos n a h = never_both text ts h.refusal a.short a.divides h.refuses

tree_or_none : (text : List ℕ) (tree : Module) (pos : Pos) (n : ℕ) → HasTree text tree → IsNoTree text pos n → ⊥
tree_or_none text tree pos n h k = tree_or_refusal h.tokens tree k.refusal h.is_tree
    (subst (λ (ts : List Token). IsReported ts k.refusal) (same_tokens text k.tokens h.tokens k.divides h.divides)
    k.reported)

parsed_or_refused : (text : List ℕ) (tree : Module) (pos : Pos) (n : ℕ) → HasTree text tree → IsNoText text pos n
    ⊎ IsNoTree text pos n → ⊥
parsed_or_refused text tree pos n h (inl k) = tokens_or_fault text h.tokens pos n h.divides k
parsed_or_refused text tree pos n h (inr k) = tree_or_none text tree pos n h k

one_fault : (text : List ℕ) (p q : Pos) (n m : ℕ) → IsNoText text p n → IsNoText text q m → (p ≡ q) × (n ≡ m)
one_fault text p q n m h k =
    let e : h.refusal ≡ k.refusal = one_refusal text h.refusal k.refusal h.refuses k.refuses in (
      h.place ∙ ap (λ (r : ScanRefusal). r.pos) e ∙ sym k.place,
      h.rule ∙ ap (λ (r : ScanRefusal). number_of r.broken) e
          ∙ sym k.rule,
    )

one_unreported : (text : List ℕ) (p q : Pos) (n m : ℕ) → IsNoTree text p n → IsNoTree text q m → (p ≡ q) × (n ≡ m)
one_unreported text p q n m h k =
    let e : h.refusal ≡ k.refusal = refused_once h.tokens h.refusal k.refusal h.reported
    (subst (λ (ts : List Token). IsReported ts k.refusal) (same_tokens text k.tokens h.tokens k.divides h.divides)
    k.reported) in (
      h.place ∙ ap (λ (r : ParseRefusal). r.pos) e ∙ sym k.place,
      h.rule ∙ ap (λ (r : ParseRefusal). r.number) e
          ∙ sym k.rule,
    )

one_refused : (text : List ℕ) (p q : Pos) (n m : ℕ) → IsNoText text p n ⊎ IsNoTree text p n → IsNoText text q m
    ⊎ IsNoTree text q m → (p ≡ q) × (n ≡ m)
one_refused text p q n m (inl h) (inl k) = one_fault text p q n m h k
one_refused text p q n m (inl h) (inr k) = absurd (tokens_or_fault text k.tokens p n k.divides h)
one_refused text p q n m (inr h) (inl k) = absurd (tokens_or_fault text h.tokens q m h.divides k)
one_refused text p q n m (inr h) (inr k) = one_unreported text p q n m h k

pub one_read : (text : List ℕ) (a b : Read) → IsRead text a → IsRead text b → AreSame a b
one_read text (Parsed t) (Parsed u) h k =
    at_most_one h.tokens (arc_value t) (arc_value u) h.is_tree
    (subst (λ (ts : List Token). IsTree ts (arc_value u)) (same_tokens text k.tokens h.tokens k.divides h.divides)
    k.is_tree)
one_read text (Parsed t) (Refused q m) h k = parsed_or_refused text (arc_value t) q m h k
one_read text (Refused p n) (Parsed u) h k = parsed_or_refused text (arc_value u) p n k h
one_read text (Refused p n) (Refused q m) h k = one_refused text p q n m h k
