-- The constants of an enumeration are entered into the scope, and known behind it.
use Rattle.std.proofs.Common.{◌≡◌, ℕ, Bool, true, false, cond, List, [], ◌∷◌, ◌++◌, Option, Some, None, Result, Ok, ◌⊎◌, inl, inr, refl, sym, ap, subst, ◌∙◌}
use Rattle.std.specs.Prelude.{◌+◌, ◌||◌, not, pos, slice_get}
use Rattle.std.specs.List.{fold}
use Rattle.std.specs.Option.{is_some}
use Rattle.m2_rule.specs.declared.breach.Breach.{Breach}
use Rattle.m2_rule.specs.declared.rule.Rule.{Rule}
use Rattle.m2_rule.specs.declared.rule.Rule.TheVariants as rule
use Rattle.m2_tree.specs.declared.pos.Pos.{Pos}
use Rattle.m2_tree.specs.declared.name.Ident.{Ident}
use Rattle.m2_tree.specs.Names.{same_name}
use Rattle.m2_tree.specs.declared.decl.Simple.TheVariants as simple
use Rattle.typed_tree.specs.declared.types.TypeNo.{TypeNo}
use Rattle.typed_tree.specs.declared.shape.Made.{Made}
use Rattle.typed_tree.specs.declared.meaning.Meaning.{Meaning}
use Rattle.typed_tree.specs.Names.{find_name, enter_name}
use Rattle.check_scope.specs.declared.known.Known.{Known}
use Rattle.check_scope.specs.declared.known.Known.TheVariants as known
use Rattle.check_scope.specs.declared.known.Origin.TheVariants.{Here}
use Rattle.check_scope.specs.declared.meaningless.Meaningless.{Meaningless}
use Rattle.check_scope.specs.declared.scope.OpenedRecord.{OpenedRecord}
use Rattle.check_scope.specs.declared.scope.Scope.{Scope}
use Rattle.check_scope.specs.Elaborated.{Gathers, report, beside}
use Rattle.check_scope.specs.Scopes.{State, is_free, with_known, declare_name, looked_up, means_as, means_or, or_around, known_outside, open_field}
use Rattle.check_type_expr.specs.Made.{next_type as next_in, with_shape, too_many, reported_at, enumeration_constant, enumeration_scalar, enumerate_name, enumeration_of, enumeration}
use Rattle.def_typing.specs.Operators.{◌!◌}
use Rattle.def_typing.specs.Things as things
use Rattle.def_typing.specs.Things.{Headless, Standing, Unknown}
use Rattle.def_typing.specs.Parts.{here, later, Named}
use Rattle.def_typing.specs.TypeExprs as rules
use Rattle.def_typing.specs.TypeExprs.{Twice, with_types, next_type, Member, member_stands, members_from, Added, enumeration_added, Setting, member_or, behind, IsSimpleType, SimpleAdds, BrokenSimpleType}
use Rattle.law_typing.specs.Judging.{Judges, Answers}
use Rattle.law_typing.specs.Exact.{Sees, sees, Knows, Repeats, of_heading, of_declaration, AreOnce}
use Rattle.law_typing.proofs.Combining.{Lawful, Decided, holds, fails_it, decided_as, Checks, passes, checks_as, more_checks, stopped, beside_checks, then_checked, exact, fine}
use Rattle.law_typing.proofs.Deciding.{decided_itself}
use Rattle.law_typing.proofs.Meeting.{either_decided}
use Rattle.law_typing.proofs.Entering.{name_decided, named_left, named_right, named_split, entered_all, once_more}

-- ---- what is known behind a type

abbrev pub MadeType : Type 0
MadeType = Added × TypeNo

-- these types are made, and these names are known
abbrev pub scope_with : {T : Type 0} → Scope T → List Made → List (List ℕ × Known T) → Scope T
scope_with s ms own = record s { own = own; types = with_types s.types ms }

abbrev pub set_in : {T : Type 0} → Scope T → (Ident → Standing) → (List ℕ → Bool) → Setting
set_in s names there = record { types = s.types; names = names; there = there }

abbrev pub member_known : {T : Type 0} → Member → Known T
member_known e = known.Declared Here (Ok (enumeration_constant e.0 (pos e.1)))

-- what is known of a name, if it may be a constant of these
abbrev pub entered : {T : Type 0} → Option Member → Option (Known T) → Option (Known T)
entered None k = k
entered (Some e) k = cond (is_free k) (Some (member_known e)) k

pub record Enters {T : Type 0} (bs : List (List ℕ × Member)) (before after : List (List ℕ × Known T)) : Type 0 where
  pub found : (n : List ℕ) → find_name n after ≡ entered (find_name n bs) (find_name n before)
  pub once : AreOnce before → AreOnce after

pub enters_nothing : {T : Type 0} (names : List (List ℕ × Known T)) → Enters [] names names
enters_nothing names = record { found = λ n. refl; once = λ o. o }

-- the names that are there are those that are not free
abbrev pub Frees : {T : Type 0} → Scope T → (List ℕ → Bool) → Type 0
Frees s there = (n : List ℕ) → there n ≡ not (is_free (find_name n s.own))

-- ---- lists one behind the other

abbrev or_found : {V : Type 0} → Option V → Option V → Option V
or_found (Some v) o = Some v
or_found None o = o

found_both : {V : Type 0} (n : List ℕ) (xs ys : List (List ℕ × V))
    → find_name n (xs ++ ys) ≡ or_found (find_name n xs) (find_name n ys)
found_both n [] ys = refl
found_both {V = V} n (e ∷ xs) ys = by (same_name n e.0) (found_both n xs ys)
  where
    by : (b : Bool) → find_name n (xs ++ ys) ≡ or_found (find_name n xs) (find_name n ys)
        → cond b (Some e.1) (find_name n (xs ++ ys)) ≡ or_found (cond b (Some e.1) (find_name n xs)) (find_name n ys)
    by true h = refl
    by false h = h

or_true : (t : Bool) → (t || true) ≡ true
or_true true = refl
or_true false = refl

or_none : (t : Bool) → (t || false) ≡ t
or_none true = refl
or_none false = refl

module _ {T : Type 0} where
  not_entered : (o : Option Member) (k : Option (Known T)) → is_free k ≡ false → entered o k ≡ k
  not_entered None k e = refl
  not_entered (Some x) k e = ap (λ (b : Bool). cond b (Some (member_known x)) k) e

  entered_both : (o p : Option Member) (k : Option (Known T)) → entered (or_found o p) k ≡ entered p (entered o k)
  entered_both None p k = refl
  entered_both (Some e) p k = by (is_free k) refl
    where
      by : (b : Bool) → is_free k ≡ b → cond b (Some (member_known e)) k ≡ entered p (cond b (Some (member_known e)) k)
      by true q = sym (not_entered p (Some (member_known e)) refl)
      by false q = sym (not_entered p k q)

  pub enters_both : (ks bs : List (List ℕ × Member)) (before between after : List (List ℕ × Known T))
      → Enters ks before between → Enters bs between after → Enters (ks ++ bs) before after
  enters_both ks bs before between after a b = record {
    found = λ n. b.found n ∙ ap (λ (k : Option (Known T)). entered (find_name n bs) k) (a.found n)
        ∙ sym (entered_both (find_name n ks) (find_name n bs) (find_name n before))
        ∙ ap (λ (o : Option Member). entered o (find_name n before)) (sym (found_both n ks bs));
    once = λ o. b.once (a.once o);
  }

  free_entered : (o : Option Member) (k : Option (Known T)) (t : Bool) → t ≡ not (is_free k)
      → (t || is_some o) ≡ not (is_free (entered o k))
  free_entered None k t e = or_none t ∙ e
  free_entered (Some x) k t e = by (is_free k) refl
    where
      by : (b : Bool) → is_free k ≡ b → (t || true) ≡ not (is_free (cond b (Some (member_known x)) k))
      by true q = or_true t
      by false q = or_true t ∙ sym (ap (λ (b : Bool). not b) q)

-- ---- which names are brought

either_found : {V : Type 0} (b : Bool) (v : V) (o : Option V) → is_some (cond b (Some v) o) ≡ (b || is_some o)
either_found true v o = refl
either_found false v o = refl

pub members_decided : (t : TypeNo) (k : ℕ) (xs : List Ident) (n : List ℕ)
    → Decided (Named xs n) (is_some (find_name n (members_from t k xs)))
members_decided t k [] n = fails_it (λ z. elim z.1 [ ])
members_decided t k (x ∷ xs) n = subst (λ (b : Bool). Decided (Named (x ∷ xs) n) b)
    (sym (either_found (same_name n x.name) (t, k) (find_name n (members_from t (k + 1) xs))))
    (decided_as (λ z. more z) (λ z. parts z) (either_decided (name_decided n x.name) (members_decided t (k + 1) xs n)))
  where
    more : (n ≡ x.name) ⊎ Named xs n → Named (x ∷ xs) n
    more (inl e) = (x, here, sym e)
    more (inr (y, m, e)) = (y, later m, e)

    parts : Named (x ∷ xs) n → (n ≡ x.name) ⊎ Named xs n
    parts (y, here, e) = inl (sym e)
    parts (y, later m, e) = inr (y, m, e)

some_found : {V : Type 0} (o p : Option V) → is_some (or_found o p) ≡ (is_some o || is_some p)
some_found None p = refl
some_found (Some v) p = refl

pub both_decided : (xs : List Ident) {ys : List Ident} (ks bs : List (List ℕ × Member)) (n : List ℕ)
    → Decided (Named xs n) (is_some (find_name n ks)) → Decided (Named ys n) (is_some (find_name n bs))
    → Decided (Named (xs ++ ys) n) (is_some (find_name n (ks ++ bs)))
both_decided xs {ys = ys} ks bs n a b = subst (λ (t : Bool). Decided (Named (xs ++ ys) n) t)
    (sym (ap (λ (o : Option Member). is_some o) (found_both n ks bs) ∙ some_found (find_name n ks) (find_name n bs)))
    (decided_as (λ z. elim z [ inl h ↦ named_left ys h | inr h ↦ named_right xs h ]) (λ z. named_split xs z)
    (either_decided a b))

-- ---- what names stand for behind a type

module _ (g : Gathers) (j : Judges g) (exports : ℕ → Ident → Standing) (s : Scope g.Reported) (no_withs : s.withs ≡ [])
    (a : Added) (own : List (List ℕ × Known g.Reported)) (enters : Enters a.brings s.own own) where
  abbrev there_now : (List ℕ → Bool) → List ℕ → Bool
  there_now there n = there n || is_some (find_name n a.brings)

  abbrev names_now : (Ident → Standing) → (List ℕ → Bool) → Ident → Standing
  names_now names there x = member_or (there x.name) (find_name x.name a.brings) (names x)

  abbrev now : Scope g.Reported
  now = scope_with s a.makes own

  abbrev looked : Option (Known g.Reported) → Ident → Result Meaning (Meaningless g.Reported)
  looked k name = means_as g name.pos (or_around k (known_outside name.name s.outer))

  looked_before : (name : Ident) → looked_up g s name ≡ looked (find_name name.name s.own) name
  looked_before name = ap (λ (ws : List OpenedRecord). means_or (open_field s.types name.name ws)
      (looked (find_name name.name s.own) name)) no_withs

  looked_now : (name : Ident) → looked_up g now name
      ≡ looked (entered (find_name name.name a.brings) (find_name name.name s.own)) name
  looked_now name = ap (λ (ws : List OpenedRecord). means_or (open_field now.types name.name ws)
      (looked (find_name name.name own) name)) no_withs
      ∙ ap (λ (k : Option (Known g.Reported)). looked k name) (enters.found name.name)

  seen_member : (name : Ident) (x : Member) (k : Option (Known g.Reported)) (st : Standing) (t b : Bool) → t ≡ not b
      → Sees g j name.pos st (looked k name)
      → Sees g j name.pos (member_or t (Some x) st) (looked (cond b (Some (member_known x)) k) name)
  seen_member name x k st true true e z = absurd cc
  seen_member name x k st true false e z = z
  seen_member name x k st false true e z = sees (enumeration_constant x.0 (pos x.1))
  seen_member name x k st false false e z = absurd cc

  seen_now : (name : Ident) (o : Option Member) (k : Option (Known g.Reported)) (st : Standing) (t : Bool)
      → t ≡ not (is_free k) → Sees g j name.pos st (looked k name)
      → Sees g j name.pos (member_or t o st) (looked (entered o k) name)
  seen_now name None k st true e z = z
  seen_now name None k st false e z = z
  seen_now name (Some x) k st t e z = seen_member name x k st t (is_free k) e z

  same_member : (name : Ident) (x : Member) (k : Option (Known g.Reported)) (st never : Standing) (t b : Bool)
      → t ≡ not b → (member_stands x ≡ never → ⊥) → member_or t (Some x) st ≡ never → (st ≡ never)
      × (looked (cond b (Some (member_known x)) k) name ≡ looked k name)
  same_member name x k st never true true e n q = absurd cc
  same_member name x k st never true false e n q = (q, refl)
  same_member name x k st never false true e n q = absurd (n q)
  same_member name x k st never false false e n q = absurd cc

  same_now : (name : Ident) (o : Option Member) (k : Option (Known g.Reported)) (st never : Standing) (t : Bool)
      → t ≡ not (is_free k) → ((x : Member) → member_stands x ≡ never → ⊥) → member_or t o st ≡ never → (st ≡ never)
      × (looked (entered o k) name ≡ looked k name)
  same_now name None k st never true e n q = (q, refl)
  same_now name None k st never false e n q = (q, refl)
  same_now name (Some x) k st never t e n q = same_member name x k st never t (is_free k) e (n x) q

  module _ {there : List ℕ → Bool} (frees : Frees s there) where
    pub frees_more : Frees now (there_now there)
    frees_more n = free_entered (find_name n a.brings) (find_name n s.own) (there n) (frees n)
        ∙ ap (λ (k : Option (Known g.Reported)). not (is_free k)) (sym (enters.found n))

    pub knows_more : {names : Ident → Standing} → Knows g j names exports s
        → Knows g j (names_now names there) exports now
    knows_more {names = names} k = record {
      of_names = λ name. subst (λ (r : Result Meaning (Meaningless g.Reported)). Sees g j name.pos
          (names_now names there name) r) (sym (looked_now name))
          (seen_now name (find_name name.name a.brings) (find_name name.name s.own) (names name) (there name.name)
          (frees name.name) (subst (λ (r : Result Meaning (Meaningless g.Reported)). Sees g j name.pos (names name)
          r) (looked_before name) (k.of_names name)));
      of_modules = k.of_modules;
    }

    module _ (names : Ident → Standing) where
      same_looked : (name : Ident) (never : Standing) → ((x : Member) → member_stands x ≡ never → ⊥)
          → names_now names there name ≡ never → (names name ≡ never) × (looked_up g s name ≡ looked_up g now name)
      same_looked name never n e = let q = same_now name (find_name name.name a.brings) (find_name name.name s.own)
          (names name) never (there name.name) (frees name.name) n e in
          (q.0, looked_before name ∙ sym q.1 ∙ sym (looked_now name))

      pub repeats_more : (f : Breach) → Repeats g j (names_now names there) now f → Repeats g j names s f
      repeats_more f (of_heading {name = name} {nested = b} e q m) = let z =
          same_looked name (things.Known (Headless b)) (λ x w. absurd cc) e in of_heading z.0 (z.1 ∙ q) m
      repeats_more f (of_declaration {name = name} e q m) = let z = same_looked name Unknown (λ x w. absurd cc) e in
          of_declaration z.0 (z.1 ∙ q) m

-- ---- an enumeration

module _ (g : Gathers) (j : Judges g) (lawful : Lawful g j) (O : Breach → Type 0) where
  abbrev pub Checked : (Breach → Type 0) → Result (Unit {0}) g.Reported → Type 0
  Checked B r = Checks g j lawful O {A = Unit {0}} ((f : Breach) → B f → ⊥) B r

  pub checked_as : {B C : Breach → Type 0} {r : Result (Unit {0}) g.Reported} → ((f : Breach) → B f → C f)
      → ((f : Breach) → C f → B f) → Checked B r → Checked C r
  checked_as bc cb c = checks_as g j lawful O (λ n f x. n f (cb f x)) (λ n f x. n f (bc f x)) bc cb c

  pub checked_beside : {B C : Breach → Type 0} {r q : Result (Unit {0}) g.Reported} → Checked B r → Checked C q
      → Checked (λ f. B f ⊎ C f) (beside g r q)
  checked_beside {B = B} {C = C} a b = checks_as g j lawful O {Q = (f : Breach) → B f ⊎ C f → ⊥}
      (λ p f z. elim z [ inl x ↦ p.0 f x | inr x ↦ p.1 f x ]) (λ n. ((λ f x. n f (inl x)), (λ f x. n f (inr x))))
      (λ f z. z) (λ f z. z) (beside_checks g j lawful O a b)

  pub checked_one : {B : Breach → Type 0} (at : Pos) (broken : Rule) → B (at ! broken)
      → ((h : Breach) → B h → h ≡ at ! broken) → Checked B (report g at broken)
  checked_one at broken b one = stopped g j lawful O at broken (λ n. n (at ! broken) b) b one

  -- there may not be a 257th constant
  abbrev Surplus : List Ident → Breach → Type 0
  Surplus xs f = (x : Ident) × (slice_get xs 256 ≡ Some x) × (f ≡ x.pos ! rule.ConstantCount)

  surplus_by : (o : Option Ident) → Checked (λ f. (x : Ident) × (o ≡ Some x) × (f ≡ x.pos ! rule.ConstantCount))
      (reported_at g o)
  surplus_by None = passes tt (λ f z. none z.1) (λ f z. none z.1)
    where
      none : {x : Ident} → None ≡ Some x → ⊥
      none e = absurd cc
  surplus_by (Some x) = checked_one x.pos rule.ConstantCount (x, refl, refl)
      (λ f z. z.2 ∙ sym (ap (λ (y : Ident). y.pos ! rule.ConstantCount) (same z.1)))
    where
      same : {y : Ident} → ◌≡◌ {A = Option Ident} (Some x) (Some y) → x ≡ y
      same e = cc

  module _ (t : TypeNo) where
    abbrev Entry : Scope g.Reported × ℕ × Result (Unit {0}) g.Reported → Ident → Scope g.Reported × ℕ
        × Result (Unit {0}) g.Reported
    Entry = enumerate_name g t

    -- names that are there
    abbrev AreThere : (List ℕ → Type 0) → Scope g.Reported → Type 0
    AreThere There s = (n : List ℕ) → Decided (There n) (not (is_free (find_name n s.own)))

    abbrev with_own : Scope g.Reported → List (List ℕ × Known g.Reported) → Scope g.Reported
    with_own s own = record s { own = own }

    -- ---- one name

    record One (There : List ℕ → Type 0) (x : Ident) (n : ℕ) (s : Scope g.Reported) (d : State (Unit {0}) g.Reported) :
        Type 0 where
      own : List (List ℕ × Known g.Reported)
      is : d.0 ≡ with_own s own
      enters : Enters ((x.name, (t, n)) ∷ []) s.own own
      there : AreThere (λ n. (x.name ≡ n) ⊎ There n) (with_own s own)
      told : Checked (λ f. There x.name × (f ≡ x.pos ! rule.DeclaredTwice)) d.1

    single : (P : Option Member → Type 0) {m n : List ℕ} {b : Bool} (e : Member) → Decided (m ≡ n) b
        → (m ≡ n → P (Some e)) → ((m ≡ n → ⊥) → P None) → P (cond b (Some e) None)
    single P e (holds q) h k = h q
    single P e (fails_it c) h k = k c

    not_there : {P : Type 0} {b : Bool} → Decided P (not b) → b ≡ true → P → ⊥
    not_there {b = true} (fails_it n) e = n
    not_there {b = false} d e = absurd cc

    is_there : {P : Type 0} {b : Bool} → Decided P (not b) → b ≡ false → P
    is_there {b = false} (holds p) e = p
    is_there {b = true} d e = absurd cc

    module _ (There : List ℕ → Type 0) (x : Ident) (n : ℕ) (s : Scope g.Reported) (th : AreThere There s) where
      abbrev new : Known g.Reported
      new = member_known (t, n)

      entry_by : (b : Bool) → is_free (find_name x.name s.own) ≡ b
          → One There x n s (cond b (with_known x.name new s, Ok tt) (s, report g x.pos rule.DeclaredTwice))
      entry_by true q = record {
        own = enter_name x.name new s.own;
        is = refl;
        enters = record {
          found = entered_all (λ m o. o ≡ entered (find_name m ((x.name, (t, n)) ∷ [])) (find_name m s.own)) x.name new
              s.own
              (single (λ o. Some new ≡ entered o (find_name x.name s.own)) (t, n) (name_decided x.name x.name)
              (λ e. sym (ap (λ (b : Bool). cond b (Some new) (find_name x.name s.own)) q)) (λ c. absurd (c refl)))
              (λ m c. single (λ o. find_name m s.own ≡ entered o (find_name m s.own)) (t, n) (name_decided m x.name)
              (λ e. absurd (c (sym e))) (λ z. refl));
          once = λ o. once_more x.name new o;
        };
        there = entered_all (λ m o. Decided ((x.name ≡ m) ⊎ There m) (not (is_free o))) x.name new s.own
            (holds (inl refl)) (λ m c. decided_as (λ h. inr h) (λ z. elim z [ inl e ↦ absurd (c e) | inr h ↦ h ])
            (th m));
        told = passes tt (λ f z. not_there (th x.name) q z.0) (λ f z. not_there (th x.name) q z.0);
      }
      entry_by false q = let h = is_there (th x.name) q in record {
        own = s.own;
        is = refl;
        enters = record {
          found = λ m. single (λ o. find_name m s.own ≡ entered o (find_name m s.own)) (t, n) (name_decided m x.name)
              (λ e. sym (not_entered (Some (t, n)) (find_name m s.own)
              (ap (λ (m : List ℕ). is_free (find_name m s.own)) e ∙ q))) (λ z. refl);
          once = λ o. o;
        };
        there = λ m. decided_as (λ z. inr z) (λ z. elim z [ inl e ↦ subst There e h | inr y ↦ y ]) (th m);
        told = checked_one x.pos rule.DeclaredTwice (h, refl) (λ f z. z.1);
      }

      entry : One There x n s (declare_name g s x (Ok (enumeration_constant t (pos n))))
      entry = entry_by (is_free (find_name x.name s.own)) refl

    -- ---- all names

    pub record Entered (There : List ℕ → Type 0) (xs : List Ident) (n : ℕ) (B : Breach → Type 0) (s : Scope g.Reported)
        (q : Scope g.Reported × ℕ × Result (Unit {0}) g.Reported) : Type 0 where
      pub own : List (List ℕ × Known g.Reported)
      pub is : q.0 ≡ with_own s own
      pub enters : Enters (members_from t n xs) s.own own
      pub told : Checked (λ f. B f ⊎ Twice There xs f) q.2

    abbrev All : Scope g.Reported × ℕ × Result (Unit {0}) g.Reported → List Ident → Scope g.Reported × ℕ
        × Result (Unit {0}) g.Reported
    All l xs = fold (enumerate_name g t) l xs

    entries : (xs : List Ident) (n : ℕ) (There : List ℕ → Type 0) (B : Breach → Type 0) (s : Scope g.Reported)
        (r : Result (Unit {0}) g.Reported) → AreThere There s → Checked B r → Entered There xs n B s (All (s, n, r) xs)
    entries [] n There B s r th c = record {
      own = s.own;
      is = refl;
      enters = enters_nothing s.own;
      told =
          checked_as (λ f b. inl b) (λ f z. elim z [ inl b ↦ b | inr y ↦ absurd y ]) c;
    }
    entries (x ∷ xs) n There B s r th c = let d = declare_name g s x (Ok (enumeration_constant t (pos n))) in
        let o = entry There x n s th in
        let z = entries xs (n + 1) (λ m. (x.name ≡ m) ⊎ There m)
        (λ f. B f ⊎ (There x.name × (f ≡ x.pos ! rule.DeclaredTwice))) (with_own s o.own) (beside g r d.1) o.there
        (checked_beside c o.told) in
        subst (λ (u : Scope g.Reported). Entered There (x ∷ xs) n B s (All (u, n + 1, beside g r d.1) xs)) (sym o.is)
        (record {
          own = z.own;
          is = z.is;
          enters = enters_both ((x.name, (t, n)) ∷ []) (members_from t (n + 1) xs) s.own o.own z.own o.enters z.enters;
          told = checked_as (λ f z. elim z [
            | inl y ↦ elim y [ inl b ↦ inl b | inr w ↦ inr (inl w) ]
            | inr w ↦ inr
                (inr w)
          ]) (λ f z. elim z [
            | inl b ↦ inl (inl b)
            | inr y ↦ elim y [ inl w ↦ inl (inr w) | inr w ↦ inr w ]
          ]) z.told;
        })

pub twice_as : {A B : List ℕ → Type 0} (xs : List Ident) (f : Breach) → ((n : List ℕ) → A n → B n) → Twice A xs f
    → Twice B xs f
twice_as [] f h t = t
twice_as (x ∷ xs) f h (inl t) = inl (h x.name t.0, t.1)
twice_as (x ∷ xs) f h (inr t) = inr (twice_as xs f (λ n z. elim z [ inl e ↦ inl e | inr y ↦ inr (h n y) ]) t)

module _ (g : Gathers) (j : Judges g) (lawful : Lawful g j) (exports : ℕ → Ident → Standing) (s : Scope g.Reported)
    (at : Pos) (xs : List Ident) where
  abbrev new_type : TypeNo
  new_type = next_in s

  abbrev pub adds : Added
  adds = enumeration_added (next_type s.types) xs

  abbrev NotFree : List ℕ → Type 0
  NotFree n = not (is_free (find_name n s.own)) ≡ true

  pub made : Entered g j lawful (λ f. ⊥) new_type NotFree xs 0 (Surplus g j lawful (λ f. ⊥) xs)
      (with_shape s (enumeration_scalar new_type xs))
      (enumeration_of g new_type (with_shape s (enumeration_scalar new_type xs)) (too_many g xs) xs)
  made = entries g j lawful (λ f. ⊥) new_type xs 0 NotFree (Surplus g j lawful (λ f. ⊥) xs)
      (with_shape s (enumeration_scalar new_type xs)) (too_many g xs)
      (λ n. decided_itself (not (is_free (find_name n s.own)))) (surplus_by g j lawful (λ f. ⊥) (slice_get xs 256))

  abbrev pub own_behind : List (List ℕ × Known g.Reported)
  own_behind = made.own

  pub scope_behind : (enumeration g s xs).0 ≡ scope_with s adds.makes own_behind
  scope_behind = made.is

  pub enters_behind : Enters adds.brings s.own own_behind
  enters_behind = made.enters

  module _ (names : Ident → Standing) {there : List ℕ → Bool} (frees : Frees s there) where
    abbrev w : Setting
    w = set_in s names there

    abbrev There : List ℕ → Type 0
    There n = there n ≡ true

    abbrev Told : Breach → Type 0
    Told f = Surplus g j lawful (λ f. ⊥) xs f ⊎ Twice There xs f

    told : Checked g j lawful (Repeats g j names s) Told
        (enumeration_of g new_type (with_shape s (enumeration_scalar new_type xs)) (too_many g xs) xs).2
    told = more_checks g j lawful (λ f z. absurd z)
        (checked_as g j lawful (λ f. ⊥) (λ f z. elim z
        [ inl y ↦ inl y | inr t ↦ inr (twice_as xs f (λ n e. frees n ∙ e) t) ])
        (λ f z. elim z [ inl y ↦ inl y | inr t ↦ inr (twice_as xs f (λ n e. sym (frees n) ∙ e) t) ]) made.told)

    abbrev Typed : MadeType → Type 0
    Typed k = IsSimpleType exports w (simple.Enumeration at xs) k.0 k.1

    abbrev Fails : Breach → Type 0
    Fails = BrokenSimpleType exports w (simple.Enumeration at xs)

    abbrev result : MadeType
    result = (adds, next_type s.types)

    few : (o : Option Ident) → slice_get xs 256 ≡ o → ((f : Breach) → Told f → ⊥) → slice_get xs 256 ≡ None
    few None e p = e
    few (Some x) e p = absurd (p (x.pos ! rule.ConstantCount) (inl (x, e, refl)))

    made_in : (k : MadeType) → ((f : Breach) → Told f → ⊥) × (k ≡ result) → Typed k
    made_in k z = subst Typed (sym z.1) (rules.enumeration (few (slice_get xs 256) refl z.0) (λ f t. z.0 f (inr t)))

    made_out : {a : Added} {t : TypeNo} → IsSimpleType exports w (simple.Enumeration at xs) a t
        → ((f : Breach) → Told f → ⊥) × (◌≡◌ {A = MadeType} (a, t) result)
    made_out (rules.enumeration e n) = ((λ f z. elim z [ inl y ↦ no_surplus e y.1 | inr t ↦ n f t ]), refl)
      where
        no_surplus : {x : Ident} {o : Option Ident} → o ≡ None → o ≡ Some x → ⊥
        no_surplus e q = let z = sym e ∙ q in absurd cc

    fails_in : (f : Breach) → Told f ⊎ (((f : Breach) → Told f → ⊥) × ⊥) → Fails f
    fails_in f (inl (inl z)) = subst Fails (sym z.2) (rules.too_many z.1)
    fails_in f (inl (inr t)) = rules.constant_twice t
    fails_in f (inr z) = absurd z.1

    fails_out : (f : Breach) → Fails f → Told f ⊎ (((f : Breach) → Told f → ⊥) × ⊥)
    fails_out f (rules.constant_twice t) = inl (inr t)
    fails_out f (rules.too_many {x = x} e) = inl (inl (x, e, refl))

    pub enumeration_answers : Answers g j (Repeats g j names s) (λ a k. k ≡ (adds, a)) Typed Fails
        (enumeration g s xs).1
    enumeration_answers = exact g j lawful (Repeats g j names s) made_in (λ k m. made_out m) fails_in fails_out
        (then_checked g j lawful (Repeats g j names s) {M = λ k. k ≡ result} {D = λ f. ⊥} told
        (λ a p. fine g j lawful (Repeats g j names s) (next_type s.types) result refl))
