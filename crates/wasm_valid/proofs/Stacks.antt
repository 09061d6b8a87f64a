-- Operands that are known in part: what taking and putting does to the stacks that they stand for.
use Rattle.std.proofs.Common.{◌≡◌, ◌↔◌, ℕ, ◌+◌, ◌<◌, ◌≤◌, Bool, true, false, Result, Ok, Err, length, get_or, take, drop, add-one, arith, List, [], ◌∷◌, ◌++◌, refl, sym, ap, subst, ◌∙◌, append_assoc}
use Rattle.std.proofs.lemmas.List.{append-nil, drop_all, take_all, take-append-drop}
use Rattle.std.proofs.Math.Seq.{drop-cons}
use Rattle.wasm_tree.specs.declared.fault.WFault.{WFault}
use Rattle.wasm_tree.specs.declared.fault.WFault.TheVariants.{Malformed, OutsideProfile, Invalid, Unlinked, SegmentOutside, NoMemory}
use Rattle.wasm_tree.specs.declared.kinds.ValueType.{ValueType}
use Rattle.wasm_tree.specs.Validity.{Are}
use Rattle.wasm_valid.specs.declared.operands.Operands.{Operands}
use Rattle.wasm_valid.specs.Typing.{Refuses, Settles, Steps, StandsFor, Stands, Takes, Lacks, TakesIf, Puts, Moves, Halts, Change, Exchanges, Rule, Leaves, Drops}

-- ---- refusals

pub no_memory : (e : WFault) (refusal : Type 0) → e ≡ NoMemory → Refuses e refusal
no_memory e refusal h = subst (λ (x : WFault). Refuses x refusal) (sym h) tt

pub refuses_so : (e : WFault) (first other : Type 0) → (first → other) → Refuses e first → Refuses e other
refuses_so Malformed first other f h = h
refuses_so OutsideProfile first other f h = h
refuses_so Invalid first other f h = f h
refuses_so Unlinked first other f h = h
refuses_so SegmentOutside first other f h = h
refuses_so NoMemory first other f h = h

-- what the exit of a `?` answers
pub exit : {A : Type 0} (result : Result A WFault) (y e : WFault) (fact refusal : Type 0) → result ≡ Err y → y ≡ e
    → Refuses e refusal → Settles result fact refusal
exit {A} result y e fact refusal h g r =
    subst (λ (x : Result A WFault). Settles x fact refusal) (sym h)
    (subst (λ (x : WFault). Refuses x refusal) (sym g) r)

-- ---- lists with one more at the end

no_push : {A : Type 0} (xs : List A) (a : A) → xs ++ a ∷ [] ≡ [] → ⊥
no_push [] a e = cc
no_push (x ∷ xs) a e = cc

pub pushed : {A : Type 0} (xs ys : List A) (a b : A) → xs ++ a ∷ [] ≡ ys ++ b ∷ [] → (xs ≡ ys) × (a ≡ b)
pushed [] [] a b e = (refl, cc)
pushed [] (y ∷ ys) a b e =
    let h : ys ++ b ∷ [] ≡ [] = cc in absurd (no_push ys b h)
pushed (x ∷ xs) [] a b e =
    let h : xs ++ a ∷ [] ≡ [] = cc in absurd (no_push xs a h)
pushed (x ∷ xs) (y ∷ ys) a b e =
    let h : xs ++ a ∷ [] ≡ ys ++ b ∷ [] = cc in
    let r = pushed xs ys a b h in
    let front : xs ≡ ys = r.0 in
    let top : x ≡ y = cc in
    (cc, r.1)

-- ---- one operand

stands_pop : (any : Bool) (known stack : List ValueType) (t u : ValueType)
    → StandsFor any (known ++ t ∷ []) (stack ++ u ∷ []) → StandsFor any known stack × (u ≡ t)
stands_pop false known stack t u h = pushed stack known u t h
stands_pop true known stack t u (lower, e) =
    let r = pushed stack (lower ++ known) u t (e ∙ sym (append_assoc lower known (t ∷ []))) in
    ((lower, r.0), r.1)

stands_push : (any : Bool) (known stack : List ValueType) (t : ValueType) → StandsFor any known stack
    → StandsFor any (known ++ t ∷ []) (stack ++ t ∷ [])
stands_push false known stack t h = ap (λ (s : List ValueType). s ++ t ∷ []) h
stands_push true known stack t (lower, e) =
    (lower, ap (λ (s : List ValueType). s ++ t ∷ []) e ∙ append_assoc lower known (t ∷ []))

-- what is known stands for itself
stands_known : (any : Bool) (known : List ValueType) → StandsFor any known known
stands_known false known = refl
stands_known true known = ([], refl)

-- a state seen by its parts
StandsAt : (o : Operands) (any : Bool) (known : List ValueType) → o.any_below ≡ any → o.known ≡ known
    → (stack : List ValueType) → Stands o stack ↔ StandsFor any known stack
StandsAt o any known a k stack = (
  λ h. subst (λ (b : Bool). StandsFor b known stack) a
      (subst (λ (x : List ValueType). StandsFor o.any_below x stack) k h),
  λ h. subst
      (λ (x : List ValueType). StandsFor o.any_below x stack) (sym k)
      (subst (λ (b : Bool). StandsFor b known stack) (sym a) h),
)

takes_same : (old new : Operands) (top : ValueType) → old.known ≡ new.known ++ top ∷ [] → new.any_below ≡ old.any_below
    → Takes old new (top ∷ [])
takes_same old new top k a = record {
  same = λ stack.
      let at = StandsAt old new.any_below (new.known ++ top ∷ []) (sym a) k (stack ++ top ∷ []) in (
        λ h. at.1 (stands_push new.any_below new.known stack top h),
        λ h.
            (stands_pop new.any_below new.known stack top top (at.0 h)).0,
      );
}

lacks_other : (old new : Operands) (top wanted : ValueType) → old.known ≡ new.known ++ top ∷ [] → ¬ (top ≡ wanted)
    → Lacks old (wanted ∷ [])
lacks_other old new top wanted k differ = record {
  none = λ stack h.
      let at = StandsAt old old.any_below (new.known ++ top ∷ []) refl k (stack ++ wanted ∷ []) in
      differ (sym (stands_pop old.any_below new.known stack top wanted (at.0 h)).1);
}

pub takes_top : (found : Bool) (old new : Operands) (top wanted : ValueType) → old.known ≡ new.known ++ top ∷ []
    → new.any_below ≡ old.any_below → (found ≡ true) ↔ (top ≡ wanted) → TakesIf found old new (wanted ∷ [])
takes_top true old new top wanted k a f =
    subst (λ (t : ValueType). Takes old new (t ∷ [])) (f.0 refl) (takes_same old new top k a)
takes_top false old new top wanted k a f = lacks_other old new top wanted k (λ e. let h : false ≡ true = f.1 e in cc)

pub takes_below : (any : Bool) (old new : Operands) (wanted : ValueType) → old.any_below ≡ any → new.any_below ≡ any
    → old.known ≡ [] → new.known ≡ [] → TakesIf any old new (wanted ∷ [])
takes_below true old new wanted a b k l = record {
  same = λ stack. (
    λ h. (StandsAt old true [] a k (stack ++ wanted ∷ [])).1
        (stack ++ wanted ∷ [], sym (append-nil (stack ++ wanted ∷ []))),
    λ h. (StandsAt new true [] b l stack).1
        (stack, sym (append-nil stack)),
  );
}
takes_below false old new wanted a b k l = record {
  none = λ stack h. no_push stack wanted ((StandsAt old false [] a k (stack ++ wanted ∷ [])).0 h);
}

-- ---- lists of operands

pub takes_none : (o : Operands) → Takes o o []
takes_none o = record {
  same = λ stack. (
    λ h. subst (λ (s : List ValueType). Stands o s) (sym (append-nil stack)) h,
    λ h. subst
        (λ (s : List ValueType). Stands o s) (append-nil stack) h,
  );
}

-- first the later ones, then the earlier ones
pub takes_both : (old mid new : Operands) (first second : List ValueType) → Takes old mid second → Takes mid new first
    → Takes old new (first ++ second)
takes_both old mid new first second h g = record {
  same = λ stack.
      let joined = append_assoc stack first second in (
        λ s. subst (λ (x : List ValueType). Stands old x) joined ((h.same (stack ++ first)).0 ((g.same stack).0 s)),
        λ s.
            (g.same stack).1 ((h.same (stack ++ first)).1
            (subst (λ (x : List ValueType). Stands old x) (sym joined) s)),
      );
}

-- where the later ones were taken and one more is lacking
pub lacks_before : (old mid : Operands) (before first second : List ValueType) → Takes old mid second → Lacks mid first
    → Lacks old (before ++ (first ++ second))
lacks_before old mid before first second h g = record {
  none = λ stack s.
      let joined : stack ++ (before ++ (first ++ second)) ≡ ((stack ++ before) ++ first) ++ second =
      sym (append_assoc (stack ++ before) first second ∙ append_assoc stack before (first ++ second)) in
      g.none (stack ++ before) ((h.same ((stack ++ before) ++ first)).1
      (subst (λ (x : List ValueType). Stands old x) joined s));
}

pub lacks_after : (old : Operands) (first second : List ValueType) → Lacks old second → Lacks old (first ++ second)
lacks_after old first second h = record {
  none = λ stack s. h.none (stack ++ first)
      (subst (λ (x : List ValueType). Stands old x) (sym (append_assoc stack first second)) s);
}

pub lacks_first : (old mid : Operands) (first second : List ValueType) → Takes old mid second → Lacks mid first
    → Lacks old (first ++ second)
lacks_first old mid first second h g = record {
  none = λ stack s. g.none stack ((h.same (stack ++ first)).1
      (subst (λ (x : List ValueType). Stands old x) (sym (append_assoc stack first second)) s));
}

put_for : (any : Bool) (known given stack : List ValueType)
    → StandsFor any (known ++ given) stack ↔
    ((below : List ValueType) × (stack ≡ below ++ given) × StandsFor any known below)
put_for false known given stack = (λ e. (known, e, refl), λ h. h.1 ∙ ap (λ (s : List ValueType). s ++ given) h.2)
put_for true known given stack = (
  λ h. (h.0 ++ known, h.1 ∙ sym (append_assoc h.0 known given), (h.0, refl)),
  λ h. (h.2.0, h.1 ∙ ap (λ (s : List ValueType). s ++ given) h.2.1 ∙ append_assoc h.2.0 known given),
)

pub puts : (old new : Operands) (given : List ValueType) → new.known ≡ old.known ++ given
    → new.any_below ≡ old.any_below → Puts old new given
puts old new given k a = record {
  same = λ stack.
      let at = StandsAt new old.any_below (old.known ++ given) a k stack in
      let put = put_for old.any_below old.known given stack in
      (λ h. put.0 (at.0 h), λ h. at.1 (put.1 h));
}

-- ---- loops

cut : (w : List ValueType) (k : ℕ) (d : ValueType) → k < length w → drop k w ≡ get_or w k d ∷ drop (k + 1) w
cut w k d h = rw (add-one) (drop-cons w k d h)

pub takes_start : (o : Operands) (w : List ValueType) (k : ℕ) → length w ≤ k → Takes o o (drop k w)
takes_start o w k h = subst (λ (x : List ValueType). Takes o o x) (sym (drop_all k w h)) (takes_none o)

pub takes_more : (old mid new : Operands) (w : List ValueType) (k left : ℕ) (d : ValueType) → left ≡ k + 1
    → left ≤ length w → Takes mid new (get_or w k d ∷ []) → Takes old mid (drop left w) → Takes old new (drop k w)
takes_more old mid new w k left d e lt g h =
    let within : k < length w = omega arith in
    subst (λ (x : List ValueType). Takes old new x) (sym (cut w k d within))
    (takes_both old mid new (get_or w k d ∷ []) (drop (k + 1) w) (subst (λ (n : ℕ). Takes old mid (drop n w)) e h)
    g)

pub lacks_more : (old mid : Operands) (w : List ValueType) (k left : ℕ) (d : ValueType) → left ≡ k + 1 → left ≤ length w
    → Lacks mid (get_or w k d ∷ []) → Takes old mid (drop left w) → Lacks old w
lacks_more old mid w k left d e lt g h =
    let within : k < length w = omega arith in
    let whole : take k w ++ (get_or w k d ∷ drop (k + 1) w) ≡ w =
    ap (λ (x : List ValueType). take k w ++ x) (sym (cut w k d within)) ∙ take-append-drop k w in
    subst (λ (x : List ValueType). Lacks old x) whole
    (lacks_before old mid (take k w) (get_or w k d ∷ []) (drop (k + 1) w)
    (subst (λ (n : ℕ). Takes old mid (drop n w)) e h) g)

pub takes_end : (old new : Operands) (w : List ValueType) (k : ℕ) → k ≤ 0 → Takes old new (drop k w) → Takes old new w
takes_end old new w k h t =
    let e : k ≡ 0 = omega arith in subst (λ (n : ℕ). Takes old new (drop n w)) e t

pub puts_all : (old new : Operands) (given : List ValueType) (k : ℕ) → length given ≤ k
    → new.known ≡ old.known ++ take k given → new.any_below ≡ old.any_below → Puts old new given
puts_all old new given k all e a = puts old new given
    (e ∙ ap (λ (x : List ValueType). old.known ++ x) (take_all k given all)) a

-- ---- rules

-- the operands that an equation names, with those below
onto : (below params ps : List ValueType) (stack : List ValueType) → stack ≡ below ++ params → params ≡ ps
    → stack ≡ below ++ ps
onto below params ps stack e f = e ∙ ap (λ (x : List ValueType). below ++ x) f

pub exchanges : (old mid new : Operands) (ps rs : List ValueType) → Takes old mid ps → Puts mid new rs
    → Moves (λ p r. Are ps rs p r) old new
exchanges old mid new ps rs t p = record {
  same = λ after. (
    λ h.
        let put = (p.same after).0 h in
        (put.0 ++ ps, (t.same put.0).0 put.2, (put.0, ps, rs, (refl, refl), refl, put.1)),
    λ h.
        let a = h.2 in
        (p.same after).1 (
          a.0,
          onto a.0 a.2 rs after a.5 a.3.1,
          (t.same a.0).1
              (subst (λ (x : List ValueType). Stands old x) (onto a.0 a.1 ps h.0 a.4 a.3.0) h.1),
        ),
  );
}

-- the end of an exchange
pub exchanged : {A : Type 0} (result : Result A WFault) (old mid new : Operands) (ps rs : List ValueType)
    → Takes old mid ps → Settles result (Puts mid new rs) ⊥ → Steps result (λ p r. Are ps rs p r) old new
exchanged (Ok x) old mid new ps rs t p = exchanges old mid new ps rs t p
exchanged (Err e) old mid new ps rs t p = refuses_so e ⊥ (Halts (λ p r. Are ps rs p r) old) (λ h. absurd h) p

pub cannot_exchange : (old : Operands) (ps rs : List ValueType) → Lacks old ps → Halts (λ p r. Are ps rs p r) old
cannot_exchange old ps rs h = record {
  none = λ before after s a. h.none a.0 (subst (λ (x : List ValueType). Stands old x) (onto a.0 a.1 ps before a.4 a.3.0)
      s);
}

pub leaves : (old mid new : Operands) (ps : List ValueType) → Takes old mid ps → new.known ≡ [] → new.any_below ≡ true
    → Moves (λ p r. Rule (Leaves ps) p r) old new
leaves old mid new ps t k a = record {
  same = λ after. (
    λ h. (
      mid.known ++ ps,
      (t.same mid.known).0 (stands_known mid.any_below mid.known),
      ([], mid.known ++ ps, after, (mid.known, refl), refl, refl),
    ),
    λ h. (StandsAt new true [] a k after).1 (after, sym (append-nil after)),
  );
}

pub cannot_leave : (old : Operands) (ps : List ValueType) → Lacks old ps → Halts (λ p r. Rule (Leaves ps) p r) old
cannot_leave old ps h = record {
  none = λ before after s a. h.none (a.0 ++ a.3.0)
      (subst (λ (x : List ValueType). Stands old x)
      (onto a.0 a.1 (a.3.0 ++ ps) before a.4 a.3.1 ∙ sym (append_assoc a.0 a.3.0 ps)) s);
}

pub drops_top : (old new : Operands) (top : ValueType) → old.known ≡ new.known ++ top ∷ []
    → new.any_below ≡ old.any_below → Moves (λ p r. Rule Drops p r) old new
drops_top old new top k a = record {
  same = λ after. (
    λ h. (
      after ++ top ∷ [],
      (StandsAt old new.any_below (new.known ++ top ∷ []) (sym a) k (after ++ top ∷ [])).1
          (stands_push new.any_below new.known after top h),
      (after, top ∷ [], [], (top, (refl, refl)), refl, sym (append-nil after)),
    ),
    λ h.
        let x = h.2 in
        let t = x.3.0 in
        let at = StandsAt old new.any_below (new.known ++ top ∷ []) (sym a) k (x.0 ++ t ∷ []) in
        let here = at.0 (subst (λ (y : List ValueType). Stands old y) (onto x.0 x.1 (t ∷ []) h.0 x.4 x.3.1.0) h.1) in
        subst (λ (y : List ValueType). Stands new y) (sym (onto x.0 x.2 [] after x.5 x.3.1.1 ∙ append-nil x.0))
        (stands_pop new.any_below new.known x.0 top t here).0,
  );
}

pub drops_below : (old new : Operands) (t : ValueType) → old.any_below ≡ true → new.any_below ≡ true → old.known ≡ []
    → new.known ≡ [] → Moves (λ p r. Rule Drops p r) old new
drops_below old new t a b k l = record {
  same = λ after. (
    λ h. (
      after ++ t ∷ [],
      (StandsAt old true [] a k (after ++ t ∷ [])).1
          (after ++ t ∷ [], sym (append-nil (after ++ t ∷ []))),
      (after, t ∷ [], [], (t, (refl, refl)), refl, sym (append-nil after)),
    ),
    λ h. (StandsAt new true [] b l after).1 (after, sym (append-nil after)),
  );
}

pub cannot_drop : (old : Operands) → old.any_below ≡ false → old.known ≡ [] → Halts (λ p r. Rule Drops p r) old
cannot_drop old a k = record {
  none = λ before after s x. no_push x.0 x.3.0
      (sym (onto x.0 x.1 (x.3.0 ∷ []) before x.4 x.3.1.0) ∙ (StandsAt old false [] a k before).0 s);
}

-- ---- the end of code

empty_front : (any : Bool) (known : List ValueType) → StandsFor any known [] → known ≡ []
empty_front false known h = sym h
empty_front true known ([], e) = sym e
empty_front true known (x ∷ lower, e) = cc

empty_back : (any : Bool) (known : List ValueType) → known ≡ [] → StandsFor any known []
empty_back false known e = sym e
empty_back true known e = ([], sym e)

pub only_empty : (o : Operands) → Stands o [] ↔ (o.known ≡ [])
only_empty o = (λ h. empty_front o.any_below o.known h, λ e. empty_back o.any_below o.known e)

pub rule_same : (P Q : List ValueType → List ValueType → Type 0) (old new : Operands)
    → ((p r : List ValueType) → P p r → Q p r) → ((p r : List ValueType) → Q p r → P p r) → Moves P old new
    → Moves Q old new
rule_same P Q old new f g m = record {
  same = λ after. (
    λ h.
        let r = (m.same after).0 h in
        let a = r.2 in
        (r.0, r.1, (a.0, a.1, a.2, f a.1 a.2 a.3, a.4, a.5)),
    λ h.
        let a = h.2 in
        (m.same after).1 (h.0, h.1, (a.0, a.1, a.2, g a.1 a.2 a.3, a.4, a.5)),
  );
}

pub rule_halts : (P Q : List ValueType → List ValueType → Type 0) (old : Operands)
    → ((p r : List ValueType) → Q p r → P p r) → Halts P old → Halts Q old
rule_halts P Q old g m = record {
  none = λ before after s a. m.none before after s (a.0, a.1, a.2, g a.1 a.2 a.3, a.4, a.5);
}

-- ---- whether the operands may be these

pub may_be_none : (o : Operands) (wanted : List ValueType) → Lacks o wanted → ¬ Stands o wanted
may_be_none o wanted h = h.none []

pub may_be_these : (old new : Operands) (wanted : List ValueType) (found : Bool) → Takes old new wanted
    → (found ≡ true) ↔ (new.known ≡ []) → (found ≡ true) ↔ Stands old wanted
may_be_these old new wanted found t f = (
  λ h. (t.same []).0 ((only_empty new).1 (f.0 h)),
  λ h. f.1
      ((only_empty new).0 ((t.same []).1 h)),
)

-- ---- effects

pub affects : {A : Type 0} (result : Result A WFault) (ps rs : List ValueType) (e : Change) (old new : Operands)
    → Exchanges ps rs ≡ e → Steps result (λ p r. Are ps rs p r) old new → Steps result (Rule e) old new
affects result ps rs e old new h s = subst (λ (x : Change). Steps result (Rule x) old new) h s
