-- Uses of definitions that were held against one another agree, and what differs is among them.
use Rattle.std.proofs.Common.{◌≡◌, ◌≢◌, ℕ, zero, suc, ◌<◌, Bool, true, false, cond, List, [], ◌∷◌, ◌++◌, length, get_or, Option, Some, None, Result, Ok, Err, refl, sym, ap, subst, ◌∙◌, arith}
use Rattle.std.specs.List.{Contains}
use Rattle.std.proofs.lemmas.Option.{same_Some}
use lib.Pointwise.{bytes_decides}
use Rattle.m2_tree.specs.Names.{same_name}
use Rattle.typed_tree.specs.Names.{find_name, enter_name}
use Rattle.link_parts.specs.Fitting.{Use, Agree, Differ}
use Rattle.link_parts.specs.Held.{Known, held_against, with_use, with_uses, ◌>>=◌}

-- ---- names

same_refl : (name : List ℕ) → same_name name name ≡ true
same_refl name = (bytes_decides name name).1 refl

module _ {V : Type 0} where
  new_by : (b : Bool) (v : V) (e x : List ℕ × V) (f : Option V) (es more : List (List ℕ × V))
      → cond b (Some e.1) f ≡ None → (f ≡ None → more ≡ es ++ x ∷ [])
      → cond b ((e.0, v) ∷ es) (e ∷ more) ≡ e ∷ (es ++ x ∷ [])
  new_by true v e x f es more h k = absurd cc
  new_by false v e x f es more h k = ap (λ (xs : List (List ℕ × V)). e ∷ xs) (k h)

  -- a new name goes to the end
  enter_new : (n : List ℕ) (v : V) (es : List (List ℕ × V)) → find_name n es ≡ None
      → enter_name n v es ≡ es ++ (n, v) ∷ []
  enter_new n v [] h = refl
  enter_new n v (e ∷ es) h = new_by (same_name n e.0) v e (n, v) (find_name n es) es (enter_name n v es) h
      (enter_new n v es)

  front_by : (b : Bool) (v p : V) (f g : Option V) → cond b (Some v) f ≡ Some p → (f ≡ Some p → g ≡ Some p)
      → cond b (Some v) g ≡ Some p
  front_by true v p f g h k = h
  front_by false v p f g h k = k h

  -- what is found stays so
  in_front : (m : List ℕ) (p : V) (es xs : List (List ℕ × V)) → find_name m es ≡ Some p
      → find_name m (es ++ xs) ≡ Some p
  in_front m p [] xs h = absurd cc
  in_front m p (e ∷ es) xs h = front_by (same_name m e.0) e.1 p (find_name m es) (find_name m (es ++ xs)) h
      (in_front m p es xs)

  end_by : (b : Bool) (v p : V) (f g : Option V) → cond b (Some v) f ≡ None → (f ≡ None → g ≡ Some p)
      → cond b (Some v) g ≡ Some p
  end_by true v p f g h k = absurd cc
  end_by false v p f g h k = k h

  at_end : (n : List ℕ) (v : V) (es : List (List ℕ × V)) → find_name n es ≡ None
      → find_name n (es ++ (n, v) ∷ []) ≡ Some v
  at_end n v [] h = ap (λ (b : Bool). cond b (Some v) None) (same_refl n)
  at_end n v (e ∷ es) h = end_by (same_name n e.0) e.1 v (find_name n es) (find_name n (es ++ (n, v) ∷ [])) h
      (at_end n v es)

  -- it was found before, or it is the new one
  pub data Whence (m n : List ℕ) (v p : V) (es : List (List ℕ × V)) : Type 0 where
    was_there : find_name m es ≡ Some p → Whence m n v p es
    is_new : m ≡ n → v ≡ p → Whence m n v p es

  last_by : (b : Bool) (m n : List ℕ) (v p : V) → same_name m n ≡ b → cond b (Some v) None ≡ Some p → Whence m n v p []
  last_by true m n v p s h = is_new ((bytes_decides m n).0 s) (same_Some v p h)
  last_by false m n v p s h = absurd cc

  more_by : (b : Bool) (m n : List ℕ) (v p : V) (e : List ℕ × V) (es : List (List ℕ × V)) (g : Option V)
      → same_name m e.0 ≡ b → cond b (Some e.1) g ≡ Some p → (g ≡ Some p → Whence m n v p es) → Whence m n v p (e ∷ es)
  more_by true m n v p e es g s h k = was_there (ap (λ (b : Bool). cond b (Some e.1) (find_name m es)) s ∙ h)
  more_by false m n v p e es g s h k = lift (k h)
    where
      lift : Whence m n v p es → Whence m n v p (e ∷ es)
      lift (was_there f) = was_there (ap (λ (b : Bool). cond b (Some e.1) (find_name m es)) s ∙ f)
      lift (is_new a b) = is_new a b

  whence : (m n : List ℕ) (v p : V) (es : List (List ℕ × V)) → find_name m (es ++ (n, v) ∷ []) ≡ Some p
      → Whence m n v p es
  whence m n v p [] h = last_by (same_name m n) m n v p refl h
  whence m n v p (e ∷ es) h = more_by (same_name m e.0) m n v p e es (find_name m (es ++ (n, v) ∷ [])) refl h
      (whence m n v p es)

-- ---- one use

-- what became of a use
pub data Became (u : Use) (k : Known) : Result Known (ℕ × Use) → Type 0 where
  entered : find_name u.name k ≡ None → Became u k (Ok (k ++ (u.name, (u.by, u.sum)) ∷ []))
  agreed : (p : ℕ × List ℕ) → find_name u.name k ≡ Some p → p.1 ≡ u.sum → Became u k (Ok k)
  differed : (p : ℕ × List ℕ) → find_name u.name k ≡ Some p → p.1 ≢ u.sum → Became u k (Err (p.0, u))

held_by : (u : Use) (k : Known) (p : ℕ × List ℕ) (b : Bool) → find_name u.name k ≡ Some p → same_name p.1 u.sum ≡ b
    → Became u k (cond b (Ok k) (Err (p.0, u)))
held_by u k p true f s = agreed p f ((bytes_decides p.1 u.sum).0 s)
held_by u k p false f s = differed p f (λ e. let t : same_name p.1 u.sum ≡ true = (bytes_decides p.1 u.sum).1 e in
    absurd cc)

became_by : (u : Use) (k : Known) (o : Option (ℕ × List ℕ)) → find_name u.name k ≡ o → Became u k (held_against u k o)
became_by u k None f = subst (λ (t : Known). Became u k (Ok t)) (sym (enter_new u.name (u.by, u.sum) k f)) (entered f)
became_by u k (Some p) f = held_by u k p (same_name p.1 u.sum) f refl

became : (u : Use) (k : Known) → Became u k (with_use u k)
became u k = became_by u k (find_name u.name k) refl

-- ---- all uses

first_is : (u : Use) (us : List Use) → Contains (u ∷ us) u
first_is u us = (zero, omega arith, refl)

later_is : (u v : Use) (us : List Use) → Contains us v → Contains (u ∷ us) v
later_is u v us c = let lt = c.1 in (suc c.0, omega arith, c.2)

pub data Placed (u v : Use) (us : List Use) : Type 0 where
  is_first : u ≡ v → Placed u v us
  is_later : Contains us v → Placed u v us

placed_at : (u v : Use) (us : List Use) (i : ℕ) → i < length (u ∷ us) → get_or (u ∷ us) i v ≡ v → Placed u v us
placed_at u v us zero lt e = is_first e
placed_at u v us (suc i) lt e = is_later (i, omega arith, e)

placed : (u v : Use) (us : List Use) → Contains (u ∷ us) v → Placed u v us
placed u v us c = placed_at u v us c.0 c.1 c.2

-- What is known with all uses has each of them.
pub record Has (k t : Known) (us : List Use) : Type 0 where
  pub stays : (m : List ℕ) (p : ℕ × List ℕ) → find_name m k ≡ Some p → find_name m t ≡ Some p
  pub there : (u : Use) → Contains us u → (p : ℕ × List ℕ) × (find_name u.name t ≡ Some p) × (p.1 ≡ u.sum)

-- Or two of them differ, or one differs from what was known.
pub data Differs (k : Known) (us : List Use) (e : ℕ × Use) : Type 0 where
  from_known : Contains us e.1 → (p : ℕ × List ℕ) → find_name e.1.name k ≡ Some p → p.0 ≡ e.0 → p.1 ≢ e.1.sum
      → Differs k us e
  from_use : Contains us e.1 → (u : Use) → Contains us u → u.by ≡ e.0 → u.name ≡ e.1.name → u.sum ≢ e.1.sum
      → Differs k us e

abbrev pub Judged : Known → List Use → Result Known (ℕ × Use) → Type 0
Judged k us (Ok t) = Has k t us
Judged k us (Err e) = Differs k us e

no_uses : (k : Known) → Has k k []
no_uses k = record { stays = λ m p f. f; there = λ u c. let lt = c.1 in absurd (omega arith) }

-- behind a use that was entered
module _ (u : Use) (us : List Use) (k : Known) where
  abbrev more : Known
  more = k ++ (u.name, (u.by, u.sum)) ∷ []

  has_entered : (t : Known) → find_name u.name k ≡ None → Has more t us → Has k t (u ∷ us)
  has_entered t none h = record {
    stays = λ m p f. h.stays m p (in_front m p k ((u.name, (u.by, u.sum)) ∷ []) f);
    there = λ v c. by v (placed u v us c);
  }
    where
      by : (v : Use) → Placed u v us → (p : ℕ × List ℕ) × (find_name v.name t ≡ Some p) × (p.1 ≡ v.sum)
      by v (is_first e) = subst (λ (w : Use). (p : ℕ × List ℕ) × (find_name w.name t ≡ Some p) × (p.1 ≡ w.sum)) e
          ((u.by, u.sum), h.stays u.name (u.by, u.sum) (at_end u.name (u.by, u.sum) k none), refl)
      by v (is_later c) = h.there v c

  has_agreed : (t : Known) (p : ℕ × List ℕ) → find_name u.name k ≡ Some p → p.1 ≡ u.sum → Has k t us → Has k t (u ∷ us)
  has_agreed t p f s h = record { stays = h.stays; there = λ v c. by v (placed u v us c) }
    where
      by : (v : Use) → Placed u v us → (q : ℕ × List ℕ) × (find_name v.name t ≡ Some q) × (q.1 ≡ v.sum)
      by v (is_first e) = subst (λ (w : Use). (q : ℕ × List ℕ) × (find_name w.name t ≡ Some q) × (q.1 ≡ w.sum)) e
          (p, h.stays u.name p f, s)
      by v (is_later c) = h.there v c

  differs_entered : (e : ℕ × Use) → Differs more us e → Differs k (u ∷ us) e
  differs_entered e (from_use c v d by name sum) = from_use (later_is u e.1 us c) v (later_is u v us d) by name sum
  differs_entered e (from_known c p f by sum) = go (whence e.1.name u.name (u.by, u.sum) p k f)
    where
      go : Whence e.1.name u.name (u.by, u.sum) p k → Differs k (u ∷ us) e
      go (was_there g) = from_known (later_is u e.1 us c) p g by sum
      go (is_new same is) =
          from_use (later_is u e.1 us c) u (first_is u us) (ap (λ (q : ℕ × List ℕ). q.0) is ∙ by) (sym same)
          (λ z. sum (sym (ap (λ (q : ℕ × List ℕ). q.1) is) ∙ z))

  differs_agreed : (e : ℕ × Use) → Differs k us e → Differs k (u ∷ us) e
  differs_agreed e (from_use c v d by name sum) = from_use (later_is u e.1 us c) v (later_is u v us d) by name sum
  differs_agreed e (from_known c p f by sum) = from_known (later_is u e.1 us c) p f by sum

behind_entered : (u : Use) (us : List Use) (k : Known) (r : Result Known (ℕ × Use)) → find_name u.name k ≡ None
    → Judged (k ++ (u.name, (u.by, u.sum)) ∷ []) us r → Judged k (u ∷ us) r
behind_entered u us k (Ok t) none h = has_entered u us k t none h
behind_entered u us k (Err e) none h = differs_entered u us k e h

behind_agreed : (u : Use) (us : List Use) (k : Known) (r : Result Known (ℕ × Use)) (p : ℕ × List ℕ)
    → find_name u.name k ≡ Some p → p.1 ≡ u.sum → Judged k us r → Judged k (u ∷ us) r
behind_agreed u us k (Ok t) p f s h = has_agreed u us k t p f s h
behind_agreed u us k (Err e) p f s h = differs_agreed u us k e h

behind : (u : Use) (us : List Use) (k : Known) (r : Result Known (ℕ × Use)) → Became u k r
    → ((t : Known) → Judged t us (with_uses us t)) → Judged k (u ∷ us) (r >>= with_uses us)
behind u us k (Ok t) (entered none) h = behind_entered u us k (with_uses us t) none (h t)
behind u us k (Ok t) (agreed p f s) h = behind_agreed u us k (with_uses us k) p f s (h k)
behind u us k (Err e) (differed p f s) h = from_known (first_is u us) p f refl s

judged : (us : List Use) (k : Known) → Judged k us (with_uses us k)
unfolding with_uses
judged [] k = no_uses k
judged (u ∷ us) k = behind u us k (with_use u k) (became u k) (judged us)

-- ---- what is shown

pub agree : (us : List Use) (t : Known) → with_uses us [] ≡ Ok t → Agree us
agree us t h u v c d same =
    let all : Has [] t us = subst (λ (r : Result Known (ℕ × Use)). Judged [] us r) h (judged us []) in
    let p = all.there u c in
    let q = all.there v d in
    let one : Some p.0 ≡ Some q.0 = sym p.1 ∙ ap (λ (m : List ℕ). find_name m t) same ∙ q.1 in
    sym p.2 ∙ ap (λ (x : ℕ × List ℕ). x.1) (same_Some p.0 q.0 one) ∙ q.2

pub differ : (us : List Use) (e : ℕ × Use) → with_uses us [] ≡ Err e → Differ us e.0 e.1.by e.1.name
differ us e h = go (subst (λ (r : Result Known (ℕ × Use)). Judged [] us r) h (judged us []))
  where
    go : Differs [] us e → Differ us e.0 e.1.by e.1.name
    go (from_known c p f by sum) = absurd cc
    go (from_use c u d by name sum) = record {
      first = u;
      second = e.1;
      first_there = d;
      second_there = c;
      by_first = by;
      by_second = refl;
      of_first = name;
      of_second = refl;
      other_sums = sum;
    }
