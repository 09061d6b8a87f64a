-- A walk, frame by frame.
use Rattle.std.proofs.Common.{◌≡◌, ◌<◌, ◌≤◌, ℕ, ◌+◌, ◌-◌, Bool, true, false, cond, ◌||◌, ◌==◌, List, [], ◌∷◌, ◌++◌, length, drop, get_or, set, replicate, reverse, refl, sym, ap, subst, ◌∙◌, inl, inr, arith, append_assoc, Some}
use Rattle.std.specs.List.{All}
use Rattle.std.proofs.lemmas.Bool.{cases_Bool}
use Rattle.std.proofs.lemmas.List.{length-set, length-replicate, append-nil, reverse-append, drop_more, drop_all}
use Rattle.std.proofs.lemmas.List.Elements.{All-push, All-pop}
use Rattle.graph_walk.specs.Links.{has, flag, targets, AreNodes}
use Rattle.graph_walk.specs.Starts.{One, Each, Walks, Again, Enters, Nothing, Then, IsStartOrder}
use Rattle.graph_walk.specs.Frames.{entering, Rest, Going, frames_weight, Advances}
use Rattle.graph_walk.specs.declared.starts.Frame.{Frame}
use Rattle.graph_walk.proofs.Marking.{flag_set, flag_fresh, weight_set}

abbrev pub onward : Frame → Frame
onward f = record { node = f.node; next = f.next + 1 }

starts : (imports : List (List ℕ)) (f : Frame) (fs : List Frame) (e out : List ℕ)
    → length (targets imports f.node) ≤ f.next → Rest imports fs e out → Rest imports (f ∷ fs) e (f.node ∷ out)
starts imports f fs e out g h = record {
  started = [];
  later = e;
  more = out;
  walks = subst (λ (ns : List ℕ). Walks imports (Each ns) e [] e) (sym (drop_all f.next (targets imports f.node) g))
      (Nothing e);
  is = refl;
  rest = h;
}

again : (imports : List (List ℕ)) (f : Frame) (fs : List Frame) (e out : List ℕ) (t : ℕ)
    → f.next < length (targets imports f.node) → t ≡ get_or (targets imports f.node) f.next 0 → has e t ≡ true
    → Rest imports (onward f ∷ fs) e out → Rest imports (f ∷ fs) e out
again imports f fs e out t l is is_so h = record {
  started = h.started;
  later = h.later;
  more = h.more;
  walks = subst (λ (ns : List ℕ). Walks imports (Each ns) e h.started h.later)
      (ap (λ x. x ∷ drop (f.next + 1) (targets imports f.node)) is
      ∙ sym (drop_more (targets imports f.node) f.next 0 l))
      (Then t (drop (f.next + 1) (targets imports f.node)) e [] e h.started h.later (Again t e is_so) h.walks);
  is = h.is;
  rest = h.rest;
}

regroup : (a s n o : List ℕ) → a ++ ((s ++ n) ++ o) ≡ ((a ++ s) ++ n) ++ o
regroup a s n o = simp append_assoc

enters : (imports : List (List ℕ)) (f : Frame) (fs : List Frame) (e out : List ℕ) (t : ℕ)
    → f.next < length (targets imports f.node) → t ≡ get_or (targets imports f.node) f.next 0 → has e t ≡ false
    → Rest imports (entering t ∷ onward f ∷ fs) (t ∷ e) out → Rest imports (f ∷ fs) e out
enters imports f fs e out t l is not_so h = record {
  started = (h.started ++ t ∷ []) ++ h.rest.started;
  later = h.rest.later;
  more = h.rest.more;
  walks = subst (λ (ns : List ℕ). Walks imports (Each ns) e ((h.started ++ t ∷ []) ++ h.rest.started) h.rest.later)
      (ap (λ x. x ∷ drop (f.next + 1) (targets imports f.node)) is
      ∙ sym (drop_more (targets imports f.node) f.next 0 l))
      (Then t (drop (f.next + 1) (targets imports f.node)) e (h.started ++ t ∷ []) h.later h.rest.started h.rest.later
      (Enters t e h.started h.later not_so h.walks) h.rest.walks);
  is = h.is ∙ ap (λ (xs : List ℕ). (h.started ++ t ∷ []) ++ xs) h.rest.is
      ∙ regroup (h.started ++ t ∷ []) h.rest.started (f.node ∷ []) h.rest.more;
  rest = h.rest.rest;
}

-- ---- the frames that are left

on_top : (todo : List Frame) (f : Frame) → reverse (todo ++ f ∷ []) ≡ f ∷ reverse todo
on_top todo f = reverse-append todo (f ∷ [])

two_on_top : (todo : List Frame) (f g : Frame) → reverse ((todo ++ f ∷ []) ++ g ∷ []) ≡ g ∷ f ∷ reverse todo
two_on_top todo f g = on_top (todo ++ f ∷ []) g ∙ ap (λ fs. g ∷ fs) (on_top todo f)

weight_on_top : (imports : List (List ℕ)) (todo : List Frame) (f : Frame)
    → frames_weight imports (todo ++ f ∷ [])
    ≡ frames_weight imports todo + ((length (targets imports f.node) - f.next) + 1)
weight_on_top imports [] f = omega arith
weight_on_top imports (g ∷ todo) f = let h = weight_on_top imports todo f in omega (arith, h)

abbrev IsNode : List (List ℕ) → Frame → Type 0
IsNode imports f = f.node < length imports

pub going_first : (imports : List (List ℕ)) (from n : ℕ) → n ≡ length imports → from < n
    → Going imports from (set (replicate n false) from true) ([] ++ entering from ∷ []) []
going_first imports from n e l = record {
  same = length-set (replicate n false) from true ∙ length-replicate n false ∙ e;
  nodes = All-push (IsNode imports) [] (entering from) (λ k d l. absurd (omega arith)) (omega arith);
  walked = from ∷ [];
  marks = λ k. flag_set (replicate n false) from k (omega (arith, length-replicate n false))
      ∙ ap (λ b. b || has (from ∷ []) k) (flag_fresh n k);
  leads = λ out h. h;
}

pub going_last : (imports : List (List ℕ)) (from : ℕ) (entered : List Bool) (order : List ℕ)
    → Going imports from entered [] order → IsStartOrder imports from order
going_last imports from entered order g =
    let h = g.leads [] refl in (
      h.later,
      subst (λ (xs : List ℕ). Walks imports (One from) [] xs h.later) (last h.started h.more order h.rest h.is)
          (Enters from [] h.started h.later refl h.walks),
    )
  where
    last : (s more order : List ℕ) → more ≡ [] → order ++ [] ≡ (s ++ from ∷ []) ++ more → s ++ from ∷ [] ≡ order
    last s more order none is = sym (append-nil (s ++ from ∷ []))
        ∙ ap (λ (xs : List ℕ). (s ++ from ∷ []) ++ xs) (sym none) ∙ sym is ∙ append-nil order

pub advances_start : (imports : List (List ℕ)) (f : Frame) (entered : List Bool) (todo : List Frame) (order : List ℕ)
    → length (targets imports f.node) ≤ f.next
    → Advances imports entered (todo ++ f ∷ []) order entered todo (order ++ f.node ∷ [])
advances_start imports f entered todo order past = record {
  keeps = λ from g. record {
    same = g.same;
    nodes = (All-pop (IsNode imports) (todo ++ f ∷ []) todo (Some f) refl g.nodes).0;
    walked = g.walked;
    marks = g.marks;
    leads = λ out h. subst (λ (xs : List ℕ). Rest imports (entering from ∷ []) (from ∷ []) xs)
        (sym (append_assoc order (f.node ∷ []) out))
        (g.leads (f.node ∷ out) (subst (λ (fs : List Frame). Rest imports fs g.walked (f.node ∷ out))
        (sym (on_top todo f)) (starts imports f (reverse todo) g.walked out past h)));
  };
  less = omega (arith, weight_on_top imports todo f);
}

advances_again : (imports : List (List ℕ)) (f : Frame) (entered : List Bool) (todo : List Frame) (order : List ℕ)
    (t : ℕ) → f.next < length (targets imports f.node) → t ≡ get_or (targets imports f.node) f.next 0
    → flag entered t ≡ true → Advances imports entered (todo ++ f ∷ []) order entered (todo ++ onward f ∷ []) order
advances_again imports f entered todo order t l is is_so = record {
  keeps = λ from g. record {
    same = g.same;
    nodes = let p = All-pop (IsNode imports) (todo ++ f ∷ []) todo (Some f) refl g.nodes in
        All-push (IsNode imports) todo (onward f) p.0 p.1;
    walked = g.walked;
    marks = g.marks;
    leads = λ out h. g.leads out (subst (λ (fs : List Frame). Rest imports fs g.walked out) (sym (on_top todo f))
        (again imports f (reverse todo) g.walked out t l is (sym (g.marks t) ∙ is_so)
        (subst (λ (fs : List Frame). Rest imports fs g.walked out) (on_top todo (onward f)) h)));
  };
  less = omega (arith, weight_on_top imports todo f, weight_on_top imports todo (onward f));
}

advances_enters : (imports : List (List ℕ)) (f : Frame) (entered : List Bool) (todo : List Frame) (order : List ℕ)
    (t : ℕ) → f.next < length (targets imports f.node) → t ≡ get_or (targets imports f.node) f.next 0
    → t < length imports → length entered ≡ length imports → flag entered t ≡ false →
    Advances imports entered (todo ++ f ∷ []) order (set entered t true) ((todo ++ onward f ∷ []) ++ entering t ∷ [])
    order
advances_enters imports f entered todo order t l is node same not_so = record {
  keeps = λ from g. record {
    same = length-set entered t true ∙ g.same;
    nodes = let p = All-pop (IsNode imports) (todo ++ f ∷ []) todo (Some f) refl g.nodes in
        All-push (IsNode imports) (todo ++ onward f ∷ []) (entering t)
        (All-push (IsNode imports) todo (onward f) p.0 p.1) node;
    walked = t ∷ g.walked;
    marks = λ k. flag_set entered t k (omega arith) ∙ ap (λ b. b || has (t ∷ []) k) (g.marks k)
        ∙ swapped (has g.walked k) t k;
    leads = λ out h. g.leads out (subst (λ (fs : List Frame). Rest imports fs g.walked out) (sym (on_top todo f))
        (enters imports f (reverse todo) g.walked out t l is (sym (g.marks t) ∙ not_so)
        (subst (λ (fs : List Frame). Rest imports fs (t ∷ g.walked) out) (two_on_top todo (onward f) (entering t))
        h)));
  };
  less = omega (
    arith,
    weight_on_top imports todo f,
    weight_on_top imports todo (onward f),
    weight_on_top imports
        (todo ++ onward f ∷ []) (entering t),
    weight_set imports entered t (omega arith) not_so,
  );
}
  where
    bools : (a b : Bool) → (a || (b || false)) ≡ (b || a)
    bools true true = refl
    bools true false = refl
    bools false true = refl
    bools false false = refl

    swapped : (b : Bool) (t k : ℕ) → (b || has (t ∷ []) k) ≡ ((t == k) || b)
    swapped b t k = bools b (t == k)

pub advances_import : (imports : List (List ℕ)) (f : Frame) (entered entered' : List Bool) (todo todo' : List Frame)
    (order : List ℕ) (t : ℕ) → f.next < length (targets imports f.node) → t ≡ get_or (targets imports f.node) f.next 0
    → t < length imports → length entered ≡ length imports →
    entered' ≡ cond (flag entered t) entered (set entered t true)
    → todo' ≡ cond (flag entered t) (todo ++ onward f ∷ []) ((todo ++ onward f ∷ []) ++ entering t ∷ [])
    → Advances imports entered (todo ++ f ∷ []) order entered' todo' order
advances_import imports f entered entered' todo todo' order t l is node same e1 e2 =
    subst (λ (p : List Bool × List Frame). Advances imports entered (todo ++ f ∷ []) order p.0 p.1 order)
    (sym (let e : (entered', todo') ≡ (
      cond (flag entered t) entered (set entered t true),
      cond (flag entered t)
          (todo ++ onward f ∷ []) ((todo ++ onward f ∷ []) ++ entering t ∷ []),
    ) = cc in e))
    (elim (cases_Bool (flag entered t)) [ inl is_so ↦ yes_case is_so | inr not_so ↦ no_case not_so ])
  where
    yes_case : flag entered t ≡ true → Advances imports entered (todo ++ f ∷ []) order
        (cond (flag entered t) entered (set entered t true))
        (cond (flag entered t) (todo ++ onward f ∷ []) ((todo ++ onward f ∷ []) ++ entering t ∷ [])) order
    yes_case is_so = subst (λ (b : Bool). Advances imports entered (todo ++ f ∷ []) order
        (cond b entered (set entered t true))
        (cond b (todo ++ onward f ∷ []) ((todo ++ onward f ∷ []) ++ entering t ∷ [])) order) (sym is_so)
        (advances_again imports f entered todo order t l is is_so)

    no_case : flag entered t ≡ false → Advances imports entered (todo ++ f ∷ []) order
        (cond (flag entered t) entered (set entered t true))
        (cond (flag entered t) (todo ++ onward f ∷ []) ((todo ++ onward f ∷ []) ++ entering t ∷ [])) order
    no_case not_so = subst (λ (b : Bool). Advances imports entered (todo ++ f ∷ []) order
        (cond b entered (set entered t true))
        (cond b (todo ++ onward f ∷ []) ((todo ++ onward f ∷ []) ++ entering t ∷ [])) order) (sym not_so)
        (advances_enters imports f entered todo order t l is node same not_so)

pub going_begins : (imports : List (List ℕ)) (from n : ℕ) (entered : List Bool) (todo : List Frame) (order : List ℕ)
    → entered ≡ replicate n false → todo ≡ [] ++ entering from ∷ [] → order ≡ [] → n ≡ length imports
    → from < length imports → Going imports from (set entered from true) todo order
going_begins imports from n entered todo order e1 e2 e3 e4 l =
    subst (λ (p : List Bool × List Frame × List ℕ). Going imports from (set p.0 from true) p.1 p.2)
    (let e : (replicate n false, [] ++ entering from ∷ [], []) ≡ (entered, todo, order) = cc in e)
    (going_first imports from n e4 (omega arith))

pub going_ends : (imports : List (List ℕ)) (from : ℕ) (entered : List Bool) (todo : List Frame) (order : List ℕ)
    → todo ≡ [] → Going imports from entered todo order → IsStartOrder imports from order
going_ends imports from entered todo order e g =
    going_last imports from entered order (subst (λ (fs : List Frame). Going imports from entered fs order) e g)

pub top_within : (imports : List (List ℕ)) (from : ℕ) (entered : List Bool) (todo rest : List Frame) (order : List ℕ)
    (f : Frame) → todo ≡ rest ++ f ∷ [] → Going imports from entered todo order → f.node < length imports
top_within imports from entered todo rest order f e g = (All-pop (IsNode imports) todo rest (Some f) e g.nodes).1

pub advances_to : (imports : List (List ℕ)) (f : Frame) (entered entered' : List Bool) (todo between todo' : List Frame)
    (order ts : List ℕ) → ts ≡ targets imports f.node → f.next < length ts → AreNodes imports → f.node < length imports
    → length entered ≡ length imports → between ≡ todo ++ onward f ∷ [] →
    entered' ≡ cond (flag entered (get_or ts f.next 0)) entered (set entered (get_or ts f.next 0) true)
    → todo' ≡ cond (flag entered (get_or ts f.next 0)) between (between ++ entering (get_or ts f.next 0) ∷ [])
    → Advances imports entered (todo ++ f ∷ []) order entered' todo' order
advances_to imports f entered entered' todo between todo' order ts e1 l h w same e2 m1 m2 =
    let there : f.next < length (targets imports f.node) = omega (arith, ap length e1) in
    let all : All (λ t. t < length imports) (targets imports f.node) = h f.node [] w in
    let pair : (ts, between) ≡ (targets imports f.node, todo ++ onward f ∷ []) = cc in
    advances_import imports f entered entered' todo todo' order (get_or (targets imports f.node) f.next 0) there refl
    (all f.next 0 there) same
    (subst (λ (xs : List ℕ). entered' ≡ cond (flag entered (get_or xs f.next 0)) entered
    (set entered (get_or xs f.next 0) true)) e1 m1)
    (subst (λ (p : List ℕ × List Frame). todo'
    ≡ cond (flag entered (get_or p.0 f.next 0)) p.1 (p.1 ++ entering (get_or p.0 f.next 0) ∷ [])) pair m2)
