-- The reader of a module answers exactly what is defined: its tree, or the least place at which the tokens are refused.
use Rattle.std.proofs.Common.{◌≡◌, ◌<◌, ◌≤◌, List, [], ◌∷◌, ◌++◌, length, Ok, Err, refl, sym, ap, ◌∙◌, subst, arith, append_assoc, inl, inr}
use Rattle.std.proofs.lemmas.List.{length-append, append-nil, append_cancel_right}
use Rattle.std.proofs.lemmas.Bool.{cases_lt}
use Rattle.m2_tree.specs.declared.token.Token.{Token}
use Rattle.m2_tree.specs.declared.decl.Module.{Module}
use Rattle.def_grammar.specs.declared.refusal.GrammarRule.{GrammarRule}
use Rattle.def_grammar.specs.declared.refusal.GrammarRule.TheVariants.{Unfit, Misnamed, TooDeep}
use Rattle.def_grammar.specs.Rule.{module_rule}
use Rattle.def_grammar.specs.Grammar.{rule}
use Rattle.def_grammar.specs.declared.refusal.ParseRefusal.{ParseRefusal}
use Rattle.def_grammar.specs.Refusal.{IsModule, IsOpen, IsUnfit, IsRefused, BreaksRule, IsTree, IsLeast, IsReported, max_nesting, number_of, place_of}
use Rattle.def_grammar.specs.Reading.{Outcome, read_rule}
use Rattle.def_grammar.proofs.Sound.{Takes, Leads, Right, read_right}
use Rattle.def_grammar.proofs.Complete.{IsRule, Trips, Meets, complete}
use Rattle.def_grammar.proofs.Trips.{Fails, fails_within, trips}
use mathlib.Core.Path.{ap₂}
use Rattle.def_grammar.proofs.Onward.{onward}
use Rattle.def_grammar.proofs.Steady.{Moves, rule_steady}

abbrev pub outcome_of : List Token → Outcome Module
outcome_of ts = read_rule max_nesting module_rule ts

right_at : (ts : List Token) (o : Outcome Module) → outcome_of ts ≡ o → Right (rule module_rule) max_nesting ts o
right_at ts o e = subst (Right (rule module_rule) max_nesting ts) e (read_right (rule module_rule) max_nesting ts)

-- ---- texts

meets : (ts : List Token) (m : Module) → IsModule ts m → Meets (outcome_of ts) m []
meets ts m p = subst (λ (us : List Token). Meets (outcome_of us) m []) (append-nil ts)
    (complete p refl max_nesting [] refl)

no_err : (o : Outcome Module) (at : List Token) (m : Module) → o ≡ Err (at, Unfit) → Meets o m [] → ⊥
no_err o at m e (inl d) = absurd cc
no_err o at m e (inr t) = (subst (λ (o : Outcome Module). Trips o []) e t).0

rest_of : Outcome Module → List Token
rest_of (Ok p) = p.1
rest_of (Err e) = []

rest_clash : (o : Outcome Module) (m n : Module) (t : Token) (ts : List Token) → o ≡ Ok (m, t ∷ ts) → o ≡ Ok (n, []) → ⊥
unfolding rest_of
rest_clash o m n t ts e d = let same : t ∷ ts ≡ [] = sym (ap rest_of e) ∙ ap rest_of d in absurd cc

ok_rest : (o : Outcome Module) (m n : Module) (t : Token) (ts : List Token) → o ≡ Ok (m, t ∷ ts) → Meets o n [] → ⊥
ok_rest o m n t ts e (inl d) = rest_clash o m n t ts e d
ok_rest o m n t ts e (inr x) = subst (λ (o : Outcome Module). Trips o []) e x

-- the front is a front of a module, so each shorter one is too
cons_same : (u t : Token) (xs ys : List Token) → u ≡ t → xs ≡ ys → u ∷ xs ≡ t ∷ ys
cons_same u t xs ys d e = cc

split : (a b c d : List Token) → a ++ b ≡ c ++ d → length d < length b → (t : Token) × (us : List Token)
    × (bs : List Token) × (c ≡ a ++ t ∷ us) × (b ≡ t ∷ bs)
split [] [] c d e lt = absurd (omega arith)
split [] (t ∷ b) [] d e lt = absurd (omega (arith, ap length e))
split [] (t ∷ b) (u ∷ c) d e lt = (t, c, b, cc, refl)
split (t ∷ a) b [] d e lt = absurd (omega (arith, ap length e, length-append a b))
split (t ∷ a) b (u ∷ c) d e lt =
    let same : a ++ b ≡ c ++ d = cc in
    let r = split a b c d same lt in
    let head : u ≡ t = cc in
    (r.0, r.1, r.2, cons_same u t c (a ++ r.0 ∷ r.1) head r.3, r.4)

shorter_open : (front : List Token) (t : Token) (us : List Token) → IsOpen (front ++ t ∷ us) → IsOpen (front ++ t ∷ [])
shorter_open front t us o = (
  us ++ o.0,
  o.1,
  subst (λ (x : List Token). IsModule x o.1)
      (append_assoc front (t ∷ us) o.0 ∙ sym (append_assoc front (t ∷ []) (us ++ o.0))) o.2,
)

-- no fault of the grammar before the end of an open front
unfit_least : (ts front at other : List Token) → ts ≡ front ++ at → IsOpen front → IsRefused ts other Unfit
    → length other ≤ length at
unfit_least ts front at other e o r =
    elim (cases_lt (length at) (length other)) [
      | inl lt ↦
          let s = split r.0 other front at (sym r.1 ∙ e) lt in
          let open_here : IsOpen (r.0 ++ s.0 ∷ []) = shorter_open r.0 s.0 s.1 (subst IsOpen s.3 o) in
          absurd (subst (IsUnfit r.0) s.4 r.3 open_here)
      | inr le ↦ le
    ]

stops : (ts at other : List Token) (f g : GrammarRule) → outcome_of ts ≡ Err (at, f) → BreaksRule ts other g
    → Fails {A = Module} (Err (at, f)) other g
stops ts at other f g e b = subst (λ (o : Outcome Module). Fails o other g) e (trips b refl)

broken_least : (ts at other : List Token) (f g : GrammarRule) → outcome_of ts ≡ Err (at, f) → BreaksRule ts other g
    → length other ≤ length at
broken_least ts at other f g e b = fails_within (at, f) other g (stops ts at other f g e b)

-- ---- the tokens are refused

leads_open : (ts at : List Token) (l : Leads (rule module_rule) ts at) → IsOpen l.front
leads_open ts at l = (l.rest, l.value, l.spelt)

unfit_here : (ts at front : List Token) → ts ≡ front ++ at → outcome_of ts ≡ Err (at, Unfit) → IsUnfit front at
unfit_here ts [] front e is = λ m p. no_err (outcome_of ts) [] m is
    (meets ts m (subst (λ (us : List Token). IsModule us m) (sym (append-nil front) ∙ sym e) p))
unfit_here ts (t ∷ at) front e is = λ o.
    let here : outcome_of (front ++ t ∷ at) ≡ Err (t ∷ at, Unfit) =
    subst (λ (us : List Token). outcome_of us ≡ Err (t ∷ at, Unfit)) e is in
    let moved = subst (λ (x : Outcome Module). Moves t at o.0 x (outcome_of (front ++ t ∷ o.0))) here
    ((rule_steady max_nesting module_rule).moves t at o.0 front) [] refl in
    no_err (outcome_of (front ++ t ∷ o.0)) (t ∷ o.0) o.1 moved
    (meets (front ++ t ∷ o.0) o.1 (subst (λ (us : List Token). IsModule us o.1) (append_assoc front (t ∷ []) o.0)
    o.2))

refused_by : (ts at : List Token) (f : GrammarRule) → outcome_of ts ≡ Err (at, f)
    → Right (rule module_rule) max_nesting ts (Err (at, f)) → IsRefused ts at f
refused_by ts at Unfit e r = (r.0.front, r.0.parts, leads_open ts at r.0, unfit_here ts at r.0.front r.0.parts e)
refused_by ts at Misnamed e r = r.1
refused_by ts at TooDeep e r = r.1

pub refused : (ts at : List Token) (f : GrammarRule) → outcome_of ts ≡ Err (at, f) → IsRefused ts at f
refused ts at f e = refused_by ts at f e (right_at ts (Err (at, f)) e)

least_by : (ts at : List Token) (f : GrammarRule) → outcome_of ts ≡ Err (at, f)
    → Right (rule module_rule) max_nesting ts (Err (at, f)) → (other : List Token) (g : GrammarRule)
    → IsRefused ts other g → length other ≤ length at
least_by ts at f e r other Unfit x = unfit_least ts r.0.front at other r.0.parts (leads_open ts at r.0) x
least_by ts at f e r other Misnamed x = broken_least ts at other f Misnamed e x
least_by ts at f e r other TooDeep x = broken_least ts at other f TooDeep e x

pub least : (ts at : List Token) (f : GrammarRule) → outcome_of ts ≡ Err (at, f) → IsLeast ts at
least ts at f e = least_by ts at f e (right_at ts (Err (at, f)) e)

-- ---- a module, and tokens behind it

no_break : (ts rest : List Token) (m : Module) (at : List Token) (f : GrammarRule) → outcome_of ts ≡ Ok (m, rest)
    → BreaksRule ts at f → ⊥
no_break ts rest m at f e x = subst (λ (o : Outcome Module). Fails o at f) e (trips x refl)

pub is_module : (ts : List Token) (m : Module) → outcome_of ts ≡ Ok (m, []) → IsModule ts m
is_module ts m e =
    let r = right_at ts (Ok (m, [])) e in
    subst (λ (us : List Token). IsModule us m) (sym (r.parts ∙ append-nil r.text)) r.spelt

not_unfit : (ts front at : List Token) (m : Module) → ts ≡ front ++ at → IsModule ts m → IsUnfit front at → ⊥
not_unfit ts front [] m e p u = u m (subst (λ (us : List Token). IsModule us m) (e ∙ append-nil front) p)
not_unfit ts front (t ∷ at) m e p u = u (
  at,
  m,
  subst (λ (us : List Token). IsModule us m)
      (e ∙ sym (append_assoc front (t ∷ []) at)) p,
)

pub is_tree : (ts : List Token) (m : Module) → outcome_of ts ≡ Ok (m, []) → IsTree ts m
is_tree ts m e = (is_module ts m e, λ at f b. no_break ts [] m at f e b)

module _ (ts : List Token) (m : Module) (t : Token) (us : List Token) (e : outcome_of ts ≡ Ok (m, t ∷ us)) where
  rest_takes : Takes (rule module_rule) m ts (t ∷ us)
  rest_takes = right_at ts (Ok (m, t ∷ us)) e

  rest_open : (r : Takes (rule module_rule) m ts (t ∷ us)) → IsOpen r.text
  rest_open r = ([], m, subst (λ (x : List Token). IsModule x m) (sym (append-nil r.text)) r.spelt)

  rest_unfit : (front : List Token) → ts ≡ front ++ t ∷ us → IsUnfit front (t ∷ us)
  rest_unfit front d o =
      let here : outcome_of (front ++ t ∷ us) ≡ Ok (m, t ∷ us) =
      subst (λ (x : List Token). outcome_of x ≡ Ok (m, t ∷ us)) d e in
      let moved = subst (λ (x : Outcome Module). Moves t us o.0 x (outcome_of (front ++ t ∷ o.0))) here
      ((rule_steady max_nesting module_rule).moves t us o.0 front) [] refl in
      ok_rest (outcome_of (front ++ t ∷ o.0)) m o.1 t o.0 moved
      (meets (front ++ t ∷ o.0) o.1 (subst (λ (x : List Token). IsModule x o.1) (append_assoc front (t ∷ []) o.0)
      o.2))

  pub rest_refused : IsRefused ts (t ∷ us) Unfit
  rest_refused = let r = rest_takes in (r.text, r.parts, rest_open r, rest_unfit r.text r.parts)

  rest_least_by : (r : Takes (rule module_rule) m ts (t ∷ us)) (other : List Token) (g : GrammarRule)
      → IsRefused ts other g → length other ≤ length (t ∷ us)
  rest_least_by r other Unfit x = unfit_least ts r.text (t ∷ us) other r.parts (rest_open r) x
  rest_least_by r other Misnamed x = absurd (no_break ts (t ∷ us) m other Misnamed e x)
  rest_least_by r other TooDeep x = absurd (no_break ts (t ∷ us) m other TooDeep e x)

  pub rest_least : IsLeast ts (t ∷ us)
  rest_least = rest_least_by rest_takes

-- ---- what has a tree and breaks no rule is read

breaks_here : (ts at : List Token) (f : GrammarRule) → IsRule f → IsRefused ts at f → BreaksRule ts at f
breaks_here ts at Unfit x r = absurd x
breaks_here ts at Misnamed x r = r
breaks_here ts at TooDeep x r = r

answers_by : (ts : List Token) (m : Module) (o : Outcome Module) → outcome_of ts ≡ o
    → ((at : List Token) (f : GrammarRule) → BreaksRule ts at f → ⊥) → Meets o m [] → o ≡ Ok (m, [])
answers_by ts m o e a (inl d) = d
answers_by ts m (Ok p) e a (inr t) = absurd t
answers_by ts m (Err d) e a (inr t) = absurd (a d.0 d.1 (breaks_here ts d.0 d.1 t.0 (refused ts d.0 d.1 e)))

pub answers : (ts : List Token) (m : Module) → IsTree ts m → outcome_of ts ≡ Ok (m, [])
answers ts m p = answers_by ts m (outcome_of ts) refl p.1 (meets ts m p.0)

-- ---- what the parser reports

pub reported : (ts at : List Token) (f : GrammarRule) (r : ParseRefusal) → outcome_of ts ≡ Err (at, f)
    → r.pos ≡ place_of at → r.number ≡ number_of f at → IsReported ts r
reported ts at f r e p n = record {
  at = at;
  broken = f;
  refused = refused ts at f e;
  least = least ts at f e;
  pos =
      p;
  number = n;
}

pub reported_rest : (ts rest : List Token) (m : Module) (r : ParseRefusal) → outcome_of ts ≡ Ok (m, rest)
    → (rest ≡ [] → ⊥) → r.pos ≡ place_of rest → r.number ≡ number_of Unfit rest → IsReported ts r
reported_rest ts [] m r e ne p n = absurd (ne refl)
reported_rest ts (t ∷ us) m r e ne p n =
    record {
      at = t ∷ us;
      broken = Unfit;
      refused = rest_refused ts m t us e;
      least = rest_least ts m t us e;
      pos =
          p;
      number = n;
    }

err_clash : (o : Outcome Module) (d : List Token × GrammarRule) (m : Module) → o ≡ Err d → o ≡ Ok (m, []) → ⊥
err_clash o d m e f = cc

pub none_refused : (ts at : List Token) (f : GrammarRule) (m : Module) → outcome_of ts ≡ Err (at, f) → IsTree ts m → ⊥
none_refused ts at f m e p = err_clash (outcome_of ts) (at, f) m e (answers ts m p)

pub none_rest : (ts rest : List Token) (m n : Module) → outcome_of ts ≡ Ok (m, rest) → (rest ≡ [] → ⊥) → IsTree ts n → ⊥
none_rest ts [] m n e ne p = ne refl
none_rest ts (t ∷ us) m n e ne p = rest_clash (outcome_of ts) m n t us e (answers ts n p)

tree_of : Module → Outcome Module → Module
tree_of m (Ok p) = p.0
tree_of m (Err e) = m

pub one_tree : (ts : List Token) (m n : Module) → outcome_of ts ≡ Ok (m, []) → IsTree ts n → m ≡ n
unfolding tree_of
one_tree ts m n e p = sym (ap (tree_of n) e) ∙ ap (tree_of n) (answers ts n p)

-- ---- laws

pub at_most_one : (ts : List Token) (m n : Module) → IsTree ts m → IsTree ts n → m ≡ n
at_most_one ts m n p q = one_tree ts m n (answers ts m p) q

no_refusal : (ts at : List Token) (f : GrammarRule) (m : Module) → IsTree ts m → IsRefused ts at f → ⊥
no_refusal ts at Unfit m p r = not_unfit ts r.0 at m r.1 p.0 r.3
no_refusal ts at Misnamed m p r = p.1 at Misnamed r
no_refusal ts at TooDeep m p r = p.1 at TooDeep r

pub never_both : (ts : List Token) (m : Module) (r : ParseRefusal) → IsTree ts m → IsReported ts r → ⊥
never_both ts m r p reported = no_refusal ts reported.at reported.broken m p reported.refused

-- ---- one refusal

placed_at : (ts at front tail : List Token) (next : Token) → ts ≡ front ++ next ∷ tail → at ≡ next ∷ tail
    → ts ≡ front ++ at
placed_at ts at front tail next e h = e ∙ ap (λ (us : List Token). front ++ us) (sym h)

placed : (ts at : List Token) (f : GrammarRule) → IsRefused ts at f → (front : List Token) × (ts ≡ front ++ at)
placed ts at Unfit r = (r.0, r.1)
placed ts at Misnamed r = let o = onward r in (o.front, placed_at ts at o.front o.tail o.next o.parts o.here)
placed ts at TooDeep r = let o = onward r in (o.front, placed_at ts at o.front o.tail o.next o.parts o.here)

same_rest : (a b c d : List Token) → a ++ b ≡ c ++ d → length b ≤ length d → length d ≤ length b → b ≡ d
same_rest [] b [] d e le ge = e
same_rest [] b (t ∷ c) d e le ge = absurd (omega (arith, ap length e, length-append c d))
same_rest (t ∷ a) b [] d e le ge = absurd (omega (arith, ap length e, length-append a b))
same_rest (t ∷ a) b (u ∷ c) d e le ge = let same : a ++ b ≡ c ++ d = cc in same_rest a b c d same le ge

-- a token at which a rule is broken fits
fits : (ts at : List Token) (f : GrammarRule) → BreaksRule ts at f → IsRefused ts at Unfit → ⊥
fits ts at f b r =
    let o = onward b in
    let whole : r.0 ++ o.next ∷ o.tail ≡ o.front ++ o.next ∷ o.tail =
    subst (λ (us : List Token). r.0 ++ us ≡ o.front ++ o.next ∷ o.tail) o.here (sym r.1 ∙ o.parts) in
    let unfit : IsOpen (r.0 ++ o.next ∷ []) → ⊥ = subst (IsUnfit r.0) o.here r.3 in
    unfit (
      o.rest,
      o.value,
      subst (λ (us : List Token). IsModule us o.value)
          (ap (λ (us : List Token). us ++ o.next ∷ o.rest)
          (sym (append_cancel_right r.0 o.front (o.next ∷ o.tail) whole))
          ∙ sym (append_assoc r.0 (o.next ∷ []) o.rest)) o.spelt,
    )

one_rule_by : (ts at : List Token) (o : Outcome Module) → outcome_of ts ≡ o → IsLeast ts at → BreaksRule ts at Misnamed
    → BreaksRule ts at TooDeep → Fails o at Misnamed → Fails o at TooDeep → ⊥
one_rule_by ts at (Ok p) e l b c x y = x
one_rule_by ts at (Err d) e l b c (inl lt) y = let h = l d.0 d.1 (refused ts d.0 d.1 e) in absurd (omega arith)
one_rule_by ts at (Err d) e l b c (inr x) (inl lt) = let h = l d.0 d.1 (refused ts d.0 d.1 e) in absurd (omega arith)
one_rule_by ts at (Err d) e l b c (inr x) (inr y) = let same : Misnamed ≡ TooDeep =
    ap (λ (d : List Token × GrammarRule). d.1) (sym x ∙ y) in absurd cc

one_rule : (ts at : List Token) → IsLeast ts at → BreaksRule ts at Misnamed → BreaksRule ts at TooDeep → ⊥
one_rule ts at l b c = one_rule_by ts at (outcome_of ts) refl l b c (trips b refl) (trips c refl)

one_fault : (ts at : List Token) (f g : GrammarRule) → IsLeast ts at → IsRefused ts at f → IsRefused ts at g → f ≡ g
one_fault ts at Unfit Unfit l r s = refl
one_fault ts at Unfit Misnamed l r s = absurd (fits ts at Misnamed s r)
one_fault ts at Unfit TooDeep l r s = absurd (fits ts at TooDeep s r)
one_fault ts at Misnamed Unfit l r s = absurd (fits ts at Misnamed r s)
one_fault ts at Misnamed Misnamed l r s = refl
one_fault ts at Misnamed TooDeep l r s = absurd (one_rule ts at l r s)
one_fault ts at TooDeep Unfit l r s = absurd (fits ts at TooDeep r s)
one_fault ts at TooDeep Misnamed l r s = absurd (one_rule ts at l s r)
one_fault ts at TooDeep TooDeep l r s = refl

same_place : (ts at bt : List Token) (f g : GrammarRule) → IsRefused ts at f → IsLeast ts at → IsRefused ts bt g
    → IsLeast ts bt → at ≡ bt
same_place ts at bt f g r l s m =
    let p = placed ts at f r in
    let q = placed ts bt g s in
    same_rest p.0 at q.0 bt (sym p.1 ∙ q.1) (m at f r) (l bt g s)

reported_once : (ts : List Token) (r q : ParseRefusal) (x : IsReported ts r) (y : IsReported ts q) → x.at ≡ y.at
    → x.broken ≡ y.broken → r ≡ q
reported_once ts r q x y e f =
    let pos : r.pos ≡ q.pos = x.pos ∙ ap place_of e ∙ sym y.pos in
    let number : r.number ≡ q.number = x.number ∙ ap₂ number_of f e ∙ sym y.number in
    ap₂ (λ p n. record { pos = p; number = n }) pos number

pub refused_once : (ts : List Token) (r q : ParseRefusal) → IsReported ts r → IsReported ts q → r ≡ q
refused_once ts r q x y =
    let e = same_place ts x.at y.at x.broken y.broken x.refused x.least y.refused y.least in
    reported_once ts r q x y e (one_fault ts x.at x.broken y.broken x.least x.refused
    (subst (λ (us : List Token). IsRefused ts us y.broken) (sym e) y.refused))
