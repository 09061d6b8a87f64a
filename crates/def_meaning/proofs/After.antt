-- What is known of a part's end with one bound, and of its end with a greater one: they are alike, or the first goes
-- on.
use Rattle.std.proofs.Common.{ℕ, Bool, true, false, List, [], ◌++◌, refl, sym, ap, ◌∙◌, append_assoc}
use Rattle.std.specs.Prelude.{if◌then◌else◌}
use Rattle.std.proofs.lemmas.List.{append-nil}
use Rattle.def_meaning.specs.Answer.{State, Answer, Value, ◌▷◌, Ended, StillRunning}
use Rattle.def_meaning.specs.Outcome.{Outcome, Normal, Exited, Returned, sequence}
use Rattle.def_meaning.specs.Statements.{loop_left}
use Rattle.def_meaning.specs.Calls.{at_end, result}
use Rattle.def_meaning.specs.Runs.{then_body}
use Rattle.def_meaning.specs.Later.{output_of, Begins}

-- ---- beginnings

pub begins : (xs : List ℕ) → Begins xs xs
begins xs = record { more = []; rest = append-nil xs }

pub begins_more : (xs more : List ℕ) → Begins xs (xs ++ more)
begins_more xs more = record { more = more; rest = refl }

pub joined : {xs ys zs : List ℕ} → Begins xs ys → Begins ys zs → Begins xs zs
joined {xs = xs} b c = record {
  more = b.more ++ c.more;
  rest = sym (append_assoc xs b.more c.more)
      ∙ ap (λ (us : List ℕ). us ++ c.more) b.rest ∙ c.rest;
}

-- ---- the ends of expressions and of statements, where this was printed before

abbrev pub reported : {A : Type 0} → Answer A → List ℕ
reported (Value v st) = st.out
reported (Ended k out) = out
reported (StillRunning out) = out

pub data Later {A : Type 0} (out : List ℕ) : Answer A → Answer A → Type 0 where
  alike : (x : Answer A) → Begins out (reported x) → Later out x x
  going : (more : List ℕ) (x : Answer A) → Begins out more → Begins more (reported x) → Later out (StillRunning more) x

pub data After (out : List ℕ) : Outcome → Outcome → Type 0 where
  same : (x : Outcome) → Begins out (output_of x) → After out x x
  open_yet : (more : List ℕ) (x : Outcome) → Begins out more → Begins more (output_of x)
      → After out (StillRunning more) x

-- ---- the second of both

pub reported_later : {A : Type 0} {out : List ℕ} {x y : Answer A} → Later out x y → Begins out (reported y)
reported_later (alike x b) = b
reported_later (going more x b c) = joined b c

pub printed_later : {out : List ℕ} {x y : Outcome} → After out x y → Begins out (output_of y)
printed_later (same x b) = b
printed_later (open_yet more x b c) = joined b c

pub earlier : {A : Type 0} {out more : List ℕ} {x y : Answer A} → Begins out more → Later more x y → Later out x y
earlier d (alike x b) = alike x (joined d b)
earlier d (going more x b c) = going more x (joined d b) c

pub before : {out more : List ℕ} {x y : Outcome} → Begins out more → After more x y → After out x y
before d (same x b) = same x (joined d b)
before d (open_yet more x b c) = open_yet more x (joined d b) c

-- ---- one after the other

module _ {A B : Type 0} {f g : A → State → Answer B} (k : (v : A) (st : State) → Later st.out (f v st) (g v st)) where
  reported_on : {more : List ℕ} (x : Answer A) → Begins more (reported x) → Begins more (reported (x ▷ g))
  reported_on (Value v st) b = joined b (reported_later (k v st))
  reported_on (Ended n out) b = b
  reported_on (StillRunning out) b = b

  pub then_later : {out : List ℕ} {x y : Answer A} → Later out x y → Later out (x ▷ f) (y ▷ g)
  then_later (alike (Value v st) b) = earlier b (k v st)
  then_later (alike (Ended n out) b) = alike (Ended n out) b
  then_later (alike (StillRunning out) b) = alike (StillRunning out) b
  then_later (going more x b c) = going more (x ▷ g) b (reported_on x c)

module _ {A : Type 0} {f g : A → State → Outcome} (k : (v : A) (st : State) → After st.out (f v st) (g v st)) where
  answered_on : {more : List ℕ} (x : Answer A) → Begins more (reported x) → Begins more (output_of (x ▷ g))
  answered_on (Value v st) b = joined b (printed_later (k v st))
  answered_on (Ended n out) b = b
  answered_on (StillRunning out) b = b

  pub with_later : {out : List ℕ} {x y : Answer A} → Later out x y → After out (x ▷ f) (y ▷ g)
  with_later (alike (Value v st) b) = before b (k v st)
  with_later (alike (Ended n out) b) = same (Ended n out) b
  with_later (alike (StillRunning out) b) = same (StillRunning out) b
  with_later (going more x b c) = open_yet more (x ▷ g) b (answered_on x c)

module _ {f g : State → Outcome} (k : (st : State) → After st.out (f st) (g st)) where
  go_on : {more : List ℕ} (x : Outcome) → Begins more (output_of x) → Begins more (output_of (sequence x g))
  go_on (Value Normal st) b = joined b (printed_later (k st))
  go_on (Value Exited st) b = b
  go_on (Value (Returned v) st) b = b
  go_on (Ended n out) b = b
  go_on (StillRunning out) b = b

  pub go_later : {out : List ℕ} {x y : Outcome} → After out x y → After out (sequence x f) (sequence y g)
  go_later (same (Value Normal st) b) = before b (k st)
  go_later (same (Value Exited st) b) = same (Value Exited st) b
  go_later (same (Value (Returned v) st) b) = same (Value (Returned v) st) b
  go_later (same (Ended n out) b) = same (Ended n out) b
  go_later (same (StillRunning out) b) = same (StillRunning out) b
  go_later (open_yet more x b c) = open_yet more (sequence x g) b (go_on x c)

  left_on : {more : List ℕ} (x : Outcome) → Begins more (output_of x) → Begins more (output_of (loop_left x g))
  left_on (Value Normal st) b = joined b (printed_later (k st))
  left_on (Value Exited st) b = b
  left_on (Value (Returned v) st) b = b
  left_on (Ended n out) b = b
  left_on (StillRunning out) b = b

  pub left_later : {out : List ℕ} {x y : Outcome} → After out x y → After out (loop_left x f) (loop_left y g)
  left_later (same (Value Normal st) b) = before b (k st)
  left_later (same (Value Exited st) b) = same (Value Normal st) b
  left_later (same (Value (Returned v) st) b) = same (Value (Returned v) st) b
  left_later (same (Ended n out) b) = same (Ended n out) b
  left_later (same (StillRunning out) b) = same (StillRunning out) b
  left_later (open_yet more x b c) = open_yet more (loop_left x g) b (left_on x c)

  body_on : {more : List ℕ} (x : Outcome) → Begins more (output_of x) → Begins more (output_of (then_body x g))
  body_on (Value Normal st) b = joined b (printed_later (k st))
  body_on (Value Exited st) b = joined b (printed_later (k st))
  body_on (Value (Returned v) st) b = joined b (printed_later (k st))
  body_on (Ended n out) b = b
  body_on (StillRunning out) b = b

  pub body_later : {out : List ℕ} {x y : Outcome} → After out x y → After out (then_body x f) (then_body y g)
  body_later (same (Value Normal st) b) = before b (k st)
  body_later (same (Value Exited st) b) = before b (k st)
  body_later (same (Value (Returned v) st) b) = before b (k st)
  body_later (same (Ended n out) b) = same (Ended n out) b
  body_later (same (StillRunning out) b) = same (StillRunning out) b
  body_later (open_yet more x b c) = open_yet more (then_body x g) b (body_on x c)

-- ---- results of functions

end_reported : (function : Bool) (st : State) → Begins st.out (reported (at_end function st))
end_reported true st = begins st.out
end_reported false st = begins st.out

result_reported : {more : List ℕ} (function : Bool) (x : Outcome) → Begins more (output_of x)
    → Begins more (reported (result function x))
result_reported function (Value Normal st) b = joined b (end_reported function st)
result_reported function (Value Exited st) b = joined b (end_reported function st)
result_reported function (Value (Returned v) st) b = b
result_reported function (Ended n out) b = b
result_reported function (StillRunning out) b = b

pub result_later : {out : List ℕ} {x y : Outcome} (function : Bool) → After out x y
    → Later out (result function x) (result function y)
result_later function (same x b) = alike (result function x) (result_reported function x b)
result_later function (open_yet more x b c) = going more (result function x) b (result_reported function x c)

-- ---- choices

pub if_later : {A : Type 0} {out : List ℕ} {x y x' y' : Answer A} (b : Bool) → Later out x y → Later out x' y'
    → Later out (if b then x else x') (if b then y else y')
if_later true p q = p
if_later false p q = q

pub if_after : {out : List ℕ} {x y x' y' : Outcome} (b : Bool) → After out x y → After out x' y'
    → After out (if b then x else x') (if b then y else y')
if_after true p q = p
if_after false p q = q

-- what is at once given, and what ends at once
pub gave : {A : Type 0} (v : A) (st : State) → Later st.out (Value v st) (Value v st)
gave v st = alike (Value v st) (begins st.out)

pub ended : {A : Type 0} (k : ℕ) (out : List ℕ) → Later {A = A} out (Ended k out) (Ended k out)
ended k out = alike (Ended k out) (begins out)

pub went : (st : State) → After st.out (Value Normal st) (Value Normal st)
went st = same (Value Normal st) (begins st.out)
