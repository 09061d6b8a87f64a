-- The variables and procedures of a block, in the order of their names.
use Rattle.std.proofs.Common.{◌≡◌, ℕ, Bool, true, false, cond, List, [], ◌∷◌, ◌++◌, Option, Some, None, Result, Ok, Err, refl, sym, ap, subst, ◌∙◌}
use Rattle.std.proofs.lemmas.List.{append_assoc}
use Rattle.std.proofs.lemmas.List.Folds.{list_any-append}
use Rattle.typed_tree.specs.declared.meaning.Meaning.{Meaning}
use Rattle.typed_tree.specs.declared.meaning.Meaning.TheVariants as meaning
use Rattle.m2_tree.specs.Names.{same_name}
use Rattle.typed_tree.specs.Names.{find_name, enter_name}
use Rattle.check_scope.specs.Scopes.{is_free, is_begun}
use Rattle.check_scope.specs.declared.known.Origin.{Origin}
use Rattle.check_scope.specs.declared.known.Origin.TheVariants.{Here, Module, Export}
use Rattle.check_scope.specs.declared.known.Known.{Known}
use Rattle.check_scope.specs.declared.known.Known.TheVariants.{Later, Ahead, Begun, Headed, Declared}
use Rattle.law_well_formed.proofs.ImportsLists.{same_refl, same_is, or_left, or_right}
use Rattle.law_well_formed.specs.FormedScopes.{holds_of}
use Rattle.law_well_formed.proofs.Names.{found_self, kept_entered}
use Rattle.law_well_formed.proofs.HeadingsLists.{found_other}
use Rattle.law_well_formed.proofs.Order.{has, keys, Distinct, apart_from}

-- ---- variables and procedures

abbrev pub counted : Meaning → List Meaning
counted (meaning.Variable v) = meaning.Variable v ∷ []
counted (meaning.Procedure p) = meaning.Procedure p ∷ []
counted (meaning.Constant v) = []
counted (meaning.Type t n) = []
counted (meaning.Local v) = []
counted (meaning.Field f) = []
counted (meaning.LocalProcedure p) = []
counted meaning.Ahead = []
counted (meaning.Standard f) = []
counted (meaning.Module k) = []

-- ---- lists, and one of two types

abbrev pub BehindBy : Bool → (here there : Type 0) → Type 0
BehindBy true here there = here
BehindBy false here there = there

three : (xs ys zs : List Meaning) (m : Meaning) → xs ≡ m ∷ [] → ys ≡ [] → zs ≡ [] → xs ++ ys ≡ (zs ++ ys) ++ m ∷ []
three xs ys zs m c y z = ap (λ (ms : List Meaning). ms ++ ys) c ∙ ap (λ (ms : List Meaning). m ∷ ms) y
    ∙ sym (ap (λ (ms : List Meaning). (ms ++ ys) ++ m ∷ []) z ∙ ap (λ (ms : List Meaning). ms ++ m ∷ []) y)

here_by : (b : Bool) (here there : Type 0) → b ≡ true → here → BehindBy b here there
here_by true here there e h = h
here_by false here there e h = absurd cc

there_by : (b : Bool) (here there : Type 0) → b ≡ false → there → BehindBy b here there
there_by true here there e h = absurd cc
there_by false here there e h = h

abbrev pub counted_if : {E : Type 0} → Result Meaning E → List Meaning
counted_if (Ok m) = counted m
counted_if (Err e) = []

module _ {T : Type 0} where
  abbrev pub counted_from : Origin → Result Meaning T → List Meaning
  counted_from Here r = counted_if r
  counted_from (Module k) r = []
  counted_from (Export k) r = []

  abbrev pub counted_of : Known T → List Meaning
  counted_of Later = []
  counted_of Ahead = []
  counted_of Begun = []
  counted_of (Headed r) = counted_if r
  counted_of (Declared o r) = counted_from o r

  -- all that are declared
  abbrev pub done : List (List ℕ × Known T) → List Meaning
  done [] = []
  done (e ∷ es) = counted_of e.1 ++ done es

  -- ---- names that are settled

  abbrev pub is_settled : Known T → Bool
  is_settled Later = false
  is_settled Ahead = false
  is_settled Begun = false
  is_settled (Headed r) = true
  is_settled (Declared o r) = true

  abbrev pub SettledIn : List (List ℕ × Known T) → List ℕ → Type 0
  SettledIn es name = holds_of is_settled (find_name name es) ≡ true

  abbrev pub AllSettled : List (List ℕ) → List (List ℕ × Known T) → Type 0
  AllSettled ks es = (y : List ℕ) → has y ks ≡ true → SettledIn es y

  -- no variable or procedure stands behind a name that is not settled
  abbrev pub InFront : List (List ℕ × Known T) → Type 0
  InFront [] = Unit {0}
  InFront (e ∷ es) = (is_settled e.1 ≡ false → done es ≡ []) × InFront es

  unsettled_none : (k : Known T) → is_settled k ≡ false → counted_of k ≡ []
  unsettled_none Later e = refl
  unsettled_none Ahead e = refl
  unsettled_none Begun e = refl
  unsettled_none (Headed r) e = absurd cc
  unsettled_none (Declared o r) e = absurd cc

  pub free_unsettled : (o : Option (Known T)) → is_free o ≡ true → holds_of is_settled o ≡ false
  free_unsettled None e = refl
  free_unsettled (Some Later) e = refl
  free_unsettled (Some Ahead) e = refl
  free_unsettled (Some Begun) e = absurd cc
  free_unsettled (Some (Headed r)) e = absurd cc
  free_unsettled (Some (Declared o r)) e = absurd cc

  pub begun_unsettled : (o : Option (Known T)) → is_begun o ≡ true → holds_of is_settled o ≡ false
  begun_unsettled None e = absurd cc
  begun_unsettled (Some Later) e = absurd cc
  begun_unsettled (Some Ahead) e = absurd cc
  begun_unsettled (Some Begun) e = refl
  begun_unsettled (Some (Headed r)) e = absurd cc
  begun_unsettled (Some (Declared o r)) e = absurd cc

  pub free_unbegun : (o : Option (Known T)) → is_free o ≡ true → is_begun o ≡ false
  free_unbegun None e = refl
  free_unbegun (Some Later) e = refl
  free_unbegun (Some Ahead) e = refl
  free_unbegun (Some Begun) e = absurd cc
  free_unbegun (Some (Headed r)) e = absurd cc
  free_unbegun (Some (Declared o r)) e = absurd cc

  -- ---- a name that is not settled is entered

  pub settled_kept : (y name : List ℕ) (k : Known T) (es : List (List ℕ × Known T))
      → holds_of is_settled (find_name name es) ≡ false → SettledIn es y → SettledIn (enter_name name k es) y
  settled_kept y name k es u h = by (find_name y es) refl h where
    by : (o : Option (Known T)) → find_name y es ≡ o → holds_of is_settled o ≡ true → SettledIn (enter_name name k es) y
    by None e p = absurd cc
    by (Some x) e p = ap (holds_of is_settled) (kept_entered is_settled name k es y x p u e) ∙ p

  pub begun_kept : (y name : List ℕ) (k : Known T) (es : List (List ℕ × Known T)) → is_begun (Some k) ≡ false
      → is_begun (find_name name es) ≡ false → is_begun (find_name y (enter_name name k es)) ≡ is_begun (find_name y es)
  begun_kept y name k es n u = by (same_name y name) refl where
    by : (b : Bool) → same_name y name ≡ b → is_begun (find_name y (enter_name name k es)) ≡ is_begun (find_name y es)
    by true e = subst (λ (z : List ℕ). is_begun (find_name z (enter_name name k es)) ≡ is_begun (find_name z es))
        (sym (same_is y name e)) (ap is_begun (found_self name k es) ∙ n ∙ sym u)
    by false e = ap is_begun (found_other name k es y e)

  -- one that is no variable and no procedure

  done_by : (b : Bool) (k : Known T) (e : List ℕ × Known T) (es more : List (List ℕ × Known T)) (o : Option (Known T))
      → counted_of k ≡ [] → holds_of is_settled (cond b (Some e.1) o) ≡ false
      → (holds_of is_settled o ≡ false → done more ≡ done es)
      → done (cond b ((e.0, k) ∷ es) (e ∷ more)) ≡ done (e ∷ es)
  done_by true k e es more o n u f = ap (λ (xs : List Meaning). xs ++ done es) (n ∙ sym (unsettled_none e.1 u))
  done_by false k e es more o n u f = ap (λ (xs : List Meaning). counted_of e.1 ++ xs) (f u)

  pub other_done : (name : List ℕ) (k : Known T) (es : List (List ℕ × Known T)) → counted_of k ≡ []
      → holds_of is_settled (find_name name es) ≡ false → done (enter_name name k es) ≡ done es
  other_done name k [] n u = ap (λ (xs : List Meaning). xs ++ []) n
  other_done name k (e ∷ es) n u = done_by (same_name name e.0) k e es (enter_name name k es) (find_name name es) n u
      (λ v. other_done name k es n v)

  front_by : (b : Bool) (k : Known T) (e : List ℕ × Known T) (es more : List (List ℕ × Known T)) (o : Option (Known T))
      → holds_of is_settled (cond b (Some e.1) o) ≡ false → InFront (e ∷ es)
      → (holds_of is_settled o ≡ false → (done more ≡ done es) × InFront more)
      → InFront (cond b ((e.0, k) ∷ es) (e ∷ more))
  front_by true k e es more o u p f = (λ h. p.0 u, p.1)
  front_by false k e es more o u p f = let q = f u in (λ h. q.0 ∙ p.0 h, q.1)

  pub other_front : (name : List ℕ) (k : Known T) (es : List (List ℕ × Known T)) → counted_of k ≡ []
      → holds_of is_settled (find_name name es) ≡ false → InFront es → InFront (enter_name name k es)
  other_front name k [] n u p = (λ h. refl, tt)
  other_front name k (e ∷ es) n u p = front_by (same_name name e.0) k e es (enter_name name k es) (find_name name es) u
      p (λ v. (other_done name k es n v, other_front name k es n v p.1))

  -- ---- the next variable or procedure

  -- the name stands behind settled ones, and is not settled itself
  abbrev pub Behind : List ℕ → List (List ℕ × Known T) → Type 0
  Behind name [] = ⊥
  Behind name (e ∷ es) = BehindBy (same_name name e.0) (is_settled e.1 ≡ false)
      ((is_settled e.1 ≡ true) × Behind name es)

  next_by : (b : Bool) (k : Known T) (m : Meaning) (e : List ℕ × Known T) (es more : List (List ℕ × Known T))
      (behind : Type 0) → counted_of k ≡ m ∷ [] → BehindBy b (is_settled e.1 ≡ false) ((is_settled e.1 ≡ true) × behind)
      → InFront (e ∷ es) → (behind → done more ≡ done es ++ m ∷ [])
      → done (cond b ((e.0, k) ∷ es) (e ∷ more)) ≡ done (e ∷ es) ++ m ∷ []
  next_by true k m e es more behind c h p f =
      three (counted_of k) (done es) (counted_of e.1) m c (p.0 h) (unsettled_none e.1 h)
  next_by false k m e es more behind c h p f = ap (λ (xs : List Meaning). counted_of e.1 ++ xs) (f h.1)
      ∙ sym (append_assoc (counted_of e.1) (done es) (m ∷ []))

  pub next_done : (name : List ℕ) (k : Known T) (m : Meaning) (es : List (List ℕ × Known T)) → counted_of k ≡ m ∷ []
      → Behind name es → InFront es → done (enter_name name k es) ≡ done es ++ m ∷ []
  next_done name k m [] c h p = absurd h
  next_done name k m (e ∷ es) c h p = next_by (same_name name e.0) k m e es (enter_name name k es) (Behind name es) c h
      p (λ b. next_done name k m es c b p.1)

  next_front_by : (b : Bool) (k : Known T) (e : List ℕ × Known T) (es more : List (List ℕ × Known T)) (behind : Type 0)
      → is_settled k ≡ true → BehindBy b (is_settled e.1 ≡ false) ((is_settled e.1 ≡ true) × behind) → InFront (e ∷ es)
      → (behind → InFront more)
      → InFront (cond b ((e.0, k) ∷ es) (e ∷ more))
  next_front_by true k e es more behind s h p f = (λ u. absurd cc, p.1)
  next_front_by false k e es more behind s h p f = (λ u. absurd (let v = h.0 in cc), f h.1)

  pub next_front : (name : List ℕ) (k : Known T) (es : List (List ℕ × Known T)) → is_settled k ≡ true → Behind name es
      → InFront es → InFront (enter_name name k es)
  next_front name k [] s h p = absurd h
  next_front name k (e ∷ es) s h p = next_front_by (same_name name e.0) k e es (enter_name name k es) (Behind name es) s
      h p (λ b. next_front name k es s b p.1)

  -- ---- a name stands behind those before it

  entry_settled : (b : Bool) (k : Known T) (o : Option (Known T)) → b ≡ true
      → holds_of is_settled (cond b (Some k) o) ≡ true → is_settled k ≡ true
  entry_settled true k o e h = h
  entry_settled false k o e h = absurd cc

  rest_settled : (b : Bool) (k : Known T) (o : Option (Known T)) → b ≡ false
      → holds_of is_settled (cond b (Some k) o) ≡ true → holds_of is_settled o ≡ true
  rest_settled true k o e h = absurd cc
  rest_settled false k o e h = h

  entry_unsettled : (b : Bool) (k : Known T) (o : Option (Known T)) → b ≡ true
      → holds_of is_settled (cond b (Some k) o) ≡ false → is_settled k ≡ false
  entry_unsettled true k o e h = h
  entry_unsettled false k o e h = absurd cc

  far_by : (b : Bool) (k : Known T) (o : Option (Known T)) → holds_of is_settled (cond b (Some k) o) ≡ false
      → is_settled k ≡ true → (b ≡ false) × (holds_of is_settled o ≡ false)
  far_by true k o u s = absurd cc
  far_by false k o u s = (refl, u)

  pub behind_at : (name : List ℕ) (es : List (List ℕ × Known T)) (pre post : List (List ℕ)) → Distinct es
      → keys es ≡ pre ++ name ∷ post → AllSettled pre es → holds_of is_settled (find_name name es) ≡ false
      → Behind name es
  behind_at name [] [] post d e s u = absurd cc
  behind_at name [] (z ∷ pre) post d e s u = absurd cc
  behind_at name (x ∷ es) [] post d e s u =
      let same : name ≡ x.0 = cc in
      let q : same_name name x.0 ≡ true = subst (λ (y : List ℕ). same_name name y ≡ true) same (same_refl name) in
      here_by (same_name name x.0) _ _ q (entry_unsettled (same_name name x.0) x.1 (find_name name es) q u)
  behind_at name (x ∷ es) (z ∷ pre) post d e s u =
      let same : z ≡ x.0 = cc in
      let rest : keys es ≡ pre ++ name ∷ post = cc in
      let settled : is_settled x.1 ≡ true =
      entry_settled (same_name z x.0) x.1 (find_name z es)
      (subst (λ (y : List ℕ). same_name z y ≡ true) same (same_refl z))
      (s z (or_left (same_name z z) (has z pre) (same_refl z))) in
      let far = far_by (same_name name x.0) x.1 (find_name name es) u settled in
      there_by (same_name name x.0) _ _ far.0 (
        settled,
        behind_at name es pre post d.1 rest
            (λ y m. rest_settled (same_name y x.0) x.1 (find_name y es)
            (apart_from y x.0 (keys es) (ap (λ (ks : List (List ℕ)). has y ks) rest
            ∙ list_any-append (λ (l : List ℕ). same_name y l) pre (name ∷ post)
            ∙ or_left (has y pre) (has y (name ∷ post)) m) d.0)
            (s y (or_right (same_name y z) (has y pre) m))) far.1,
      )
