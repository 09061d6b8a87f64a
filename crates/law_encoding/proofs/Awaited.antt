-- What the procedures of a scope count, and those that it awaits.
use Rattle.std.proofs.Common.{◌≡◌, ℕ, ◌+◌, ◌≤◌, Bool, true, false, cond, List, [], ◌∷◌, Option, Some, None, Result, Ok, Err, refl, ap, arith}
use Rattle.m2_rule.specs.declared.rule.Rule.TheVariants as rule
use Rattle.m2_tree.specs.declared.name.Ident.{Ident}
use Rattle.m2_tree.specs.Names.{same_name}
use Rattle.typed_tree.specs.declared.meaning.Meaning.{Meaning}
use Rattle.typed_tree.specs.declared.shape.Made.{Made}
use Rattle.typed_tree.specs.declared.types.TypeNo.{TypeNo}
use Rattle.typed_tree.specs.Names.{find_name, enter_name}
use Rattle.check_scope.specs.Elaborated.{Gathers, report}
use Rattle.check_scope.specs.Scopes.{State, is_free, with_known, unless_declared, begin_name, is_begun, finish_name, unless_marked, mark_name}
use Rattle.check_scope.specs.declared.known.Known.{Known}
use Rattle.check_scope.specs.declared.known.Known.TheVariants.{Later, Ahead, Begun, Headed, Declared}
use Rattle.check_scope.specs.declared.known.Origin.TheVariants.{Here}
use Rattle.check_scope.specs.declared.scope.Scope.{Scope}
use Rattle.check_type_expr.specs.Made.{with_shape, with_made}
use Rattle.check_block.specs.declared.heading.Standing.{Standing}
use Rattle.check_block.specs.declared.heading.Standing.TheVariants.{Free, Awaited, Taken}
use Rattle.check_block.specs.Headings.{standing_known, name_standing}
use Rattle.check_block.specs.Declarations.{is_awaited}
use Rattle.law_encoding.specs.Sizes.{sum_of}
use Rattle.law_well_formed.specs.FormedHeadings.{heading_in}
use Rattle.law_well_formed.specs.FormedScopes.{holds_of, is_awaiting}

abbrev pub Names : Type 0 → Type 0
Names T = List (List ℕ × Known T)

-- ---- what procedures count, by their headings

module _ (weight : TypeNo → ℕ) where
  -- a procedure that is awaited counts, and no other
  abbrev pub standing_weight : Standing → ℕ
  standing_weight Free = 0
  standing_weight (Awaited p) = weight p.heading
  standing_weight Taken = 0

  abbrev pub awaiting : {T : Type 0} → Names T → ℕ
  awaiting [] = 0
  awaiting (e ∷ es) = standing_weight (standing_known e.1) + awaiting es

  abbrev pub awaiting_of : {T : Type 0} → Option (Known T) → ℕ
  awaiting_of o = standing_weight (name_standing o)

  -- the heading that stands under a name counts at most so many
  abbrev pub HeadFits : {T : Type 0} → ℕ → Names T → List ℕ → Type 0
  HeadFits n es name = (m : Meaning) (t : TypeNo) → find_name name es ≡ Some (Headed (Ok m)) → heading_in m ≡ Some t
      → weight t ≤ n

  -- What procedures that come count, or those that are awaited no more, is at most so many.
  pub record Fills {T : Type 0} (n : ℕ) (s s' : Scope T) : Type 0 where
    pub most : sum_of weight s'.procedures + awaiting s.own ≤ n + sum_of weight s.procedures + awaiting s'.own

  abbrev pub Stays : {T : Type 0} → Scope T → Scope T → Type 0
  Stays s s' = Fills 0 s s'

none_in : (n : ℕ) → 0 ≤ n
none_in n = omega arith

at_head : (a b n m : ℕ) → a ≤ n → a + m ≤ n + (b + m)
at_head a b n m h = omega (arith, h)

behind_head : (a n k m : ℕ) → m ≤ n + k → a + m ≤ n + (a + k)
behind_head a n k m h = omega (arith, h)

refl_sum : (a b : ℕ) → a + b ≤ 0 + a + b
refl_sum a b = omega arith

then_sum : (a b c d e f n k : ℕ) → c + b ≤ n + a + d → e + d ≤ k + c + f → e + b ≤ n + k + a + f
then_sum a b c d e f n k h i = omega (arith, h, i)

known_sum : (a n m k : ℕ) → m ≤ n + k → a + m ≤ n + a + k
known_sum a n m k h = omega (arith, h)

module _ (weight : TypeNo → ℕ) where
  -- ---- one name more

  entered_by : {T : Type 0} (n : ℕ) (b : Bool) (k : Known T) (e : List ℕ × Known T) (es more : Names T)
      (o : Option (Known T)) → awaiting_of weight (cond b (Some e.1) o) ≤ n
      → (awaiting_of weight o ≤ n → awaiting weight es ≤ n + awaiting weight more)
      → awaiting weight (e ∷ es) ≤ n + awaiting weight (cond b ((e.0, k) ∷ es) (e ∷ more))
  entered_by n true k e es more o h i = at_head (standing_weight weight (standing_known e.1))
      (standing_weight weight (standing_known k)) n (awaiting weight es) h
  entered_by n false k e es more o h i = behind_head (standing_weight weight (standing_known e.1)) n
      (awaiting weight more) (awaiting weight es) (i h)

  entered_awaits : {T : Type 0} (n : ℕ) (name : List ℕ) (k : Known T) (es : Names T)
      → awaiting_of weight (find_name name es) ≤ n → awaiting weight es ≤ n + awaiting weight (enter_name name k es)
  entered_awaits n name k [] h = none_in _
  entered_awaits n name k (e ∷ es) h = entered_by n (same_name name e.0) k e es (enter_name name k es)
      (find_name name es) h (entered_awaits n name k es)

  pub no_weight : (s : Standing) → is_awaited s ≡ false → standing_weight weight s ≤ 0
  no_weight Free e = none_in 0
  no_weight (Awaited p) e = absurd cc
  no_weight Taken e = none_in 0

  pub none_awaited : {T : Type 0} (o : Option (Known T)) → holds_of is_awaiting o ≡ false → awaiting_of weight o ≤ 0
  none_awaited None e = none_in 0
  none_awaited (Some k) e = no_weight (standing_known k) e

module _ {weight : TypeNo → ℕ} where
  -- ---- steps

  pub stays_refl : {T : Type 0} (s : Scope T) → Stays weight s s
  stays_refl s = record { most = refl_sum (sum_of weight s.procedures) (awaiting weight s.own) }

  pub fills_then : {T : Type 0} {n k : ℕ} {a b c : Scope T} → Fills weight n a b → Fills weight k b c
      → Fills weight (n + k) a c
  fills_then {n = n} {k = k} {a = a} {b = b} {c = c} p q = record {
    most =
        then_sum (sum_of weight a.procedures) (awaiting weight a.own) (sum_of weight b.procedures)
        (awaiting weight b.own) (sum_of weight c.procedures) (awaiting weight c.own) n k
        p.most q.most;
  }

  pub stays_then : {T : Type 0} {a b c : Scope T} → Stays weight a b → Stays weight b c → Stays weight a c
  stays_then p q = fills_then p q

  pub known_fills : {T : Type 0} (n : ℕ) (s : Scope T) (name : List ℕ) (k : Known T)
      → awaiting_of weight (find_name name s.own) ≤ n → Fills weight n s (with_known name k s)
  known_fills n s name k h = record {
    most =
        known_sum (sum_of weight s.procedures) n _ _ (entered_awaits weight n name k s.own h);
  }

  pub known_stays : {T : Type 0} (s : Scope T) (name : List ℕ) (k : Known T)
      → holds_of is_awaiting (find_name name s.own) ≡ false → Stays weight s (with_known name k s)
  known_stays s name k h = known_fills 0 s name k (none_awaited weight (find_name name s.own) h)

pub free_unawaited : {T : Type 0} (o : Option (Known T)) → is_free o ≡ true → holds_of is_awaiting o ≡ false
free_unawaited None e = refl
free_unawaited (Some Later) e = refl
free_unawaited (Some Ahead) e = refl
free_unawaited (Some Begun) e = refl
free_unawaited (Some (Headed m)) e = refl
free_unawaited (Some (Declared o m)) e = absurd cc

begun_unawaited : {T : Type 0} (o : Option (Known T)) → is_begun o ≡ true → holds_of is_awaiting o ≡ false
begun_unawaited None e = refl
begun_unawaited (Some Later) e = refl
begun_unawaited (Some Ahead) e = refl
begun_unawaited (Some Begun) e = refl
begun_unawaited (Some (Headed m)) e = refl
begun_unawaited (Some (Declared o m)) e = absurd cc

module _ {weight : TypeNo → ℕ} (g : Gathers) (s : Scope g.Reported) (name : Ident) where
  unless_by : (b : Bool) (k : Known g.Reported) → (b ≡ true → Stays weight s (with_known name.name k s))
      → Stays weight s (cond {A = State (Unit {0}) g.Reported} b (with_known name.name k s, Ok tt)
      (s, report g name.pos rule.DeclaredTwice)).0
  unless_by true k p = p refl
  unless_by false k p = stays_refl s

  pub unless_stays : (k : Known g.Reported) → Stays weight s (unless_declared g s name k).0
  unless_stays k = unless_by (is_free (find_name name.name s.own)) k
      (λ e. known_stays s name.name k (free_unawaited (find_name name.name s.own) e))

  pub begun_stays : Stays weight s (begin_name g s name).0
  begun_stays = unless_stays Begun

finished_by : {weight : TypeNo → ℕ} {T : Type 0} (s : Scope T) (name : List ℕ) (k : Known T) (b : Bool)
    → (b ≡ true → Stays weight s (with_known name k s)) → Stays weight s (cond b (with_known name k s) s)
finished_by s name k true p = p refl
finished_by s name k false p = stays_refl s

pub finished_stays : {weight : TypeNo → ℕ} {T : Type 0} (s : Scope T) (name : Ident) (r : Result Meaning T)
    → Stays weight s (finish_name s name r)
finished_stays s name r = finished_by s name.name (Declared Here r) (is_begun (find_name name.name s.own))
    (λ e. known_stays s name.name (Declared Here r) (begun_unawaited (find_name name.name s.own) e))

marked_by : {weight : TypeNo → ℕ} {T : Type 0} (s : Scope T) (name : List ℕ) (k : Known T) (o : Option (Known T))
    → find_name name s.own ≡ o → Stays weight s (unless_marked name k s o)
marked_by s name k (Some x) e = stays_refl s
marked_by s name k None e = known_stays s name k (ap (λ (o : Option (Known _)). holds_of is_awaiting o) e)

pub marked_stays : {weight : TypeNo → ℕ} {T : Type 0} (s : Scope T) (name : Ident) (k : Known T)
    → Stays weight s (mark_name name k s)
marked_stays s name k = marked_by s name.name k (find_name name.name s.own) refl

-- ---- types

pub shape_stays : {weight : TypeNo → ℕ} {T : Type 0} (s : Scope T) (x : Made) → Stays weight s (with_shape s x)
shape_stays {weight = weight} s x = record { most = refl_sum (sum_of weight s.procedures) (awaiting weight s.own) }

pub made_stays : {weight : TypeNo → ℕ} {T : Type 0} (s : Scope T) (x : Result Made T) → Stays weight s (with_made s x).0
made_stays s (Ok x) = shape_stays s x
made_stays s (Err e) = stays_refl s
