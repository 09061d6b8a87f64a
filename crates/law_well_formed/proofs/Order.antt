-- Names of a block: which are taken, and in which order procedures stand.
use Rattle.std.proofs.Common.{◌≡◌, ℕ, suc, Bool, true, false, ◌||◌, cond, List, [], ◌∷◌, ◌++◌, Option, Some, None, Result, Ok, Err, refl, sym, ap, subst, ◌∙◌}
use Rattle.std.specs.Prelude.{map}
use Rattle.std.specs.Option.{is_some}
use Rattle.std.specs.List.{list_any}
use Rattle.std.proofs.lemmas.List.Folds.{list_any-append}
use Rattle.typed_tree.specs.declared.meaning.Meaning.{Meaning}
use Rattle.typed_tree.specs.declared.meaning.Meaning.TheVariants as meaning
use Rattle.m2_tree.specs.Names.{same_name}
use Rattle.typed_tree.specs.Names.{find_name, enter_name}
use Rattle.check_scope.specs.Scopes.{is_free}
use Rattle.check_scope.specs.declared.known.Origin.{Origin}
use Rattle.check_scope.specs.declared.known.Origin.TheVariants.{Here, Module, Export}
use Rattle.check_scope.specs.declared.known.Known.{Known}
use Rattle.check_scope.specs.declared.known.Known.TheVariants.{Later, Ahead, Begun, Headed, Declared}
use Rattle.law_well_formed.proofs.ImportsLists.{same_refl, same_is, or_left, or_right}

-- ---- names

pub other_way : (a b : List ℕ) → same_name a b ≡ false → same_name b a ≡ false
other_way a b h = by (same_name b a) refl where
  by : (c : Bool) → same_name b a ≡ c → c ≡ false
  by false e = refl
  by true e = absurd (let same : b ≡ a = same_is b a e in
      let q : same_name a b ≡ true = subst (λ (x : List ℕ). same_name a x ≡ true) (sym same) (same_refl a) in cc)

abbrev pub has : List ℕ → List (List ℕ) → Bool
has name ks = list_any (λ k. same_name name k) ks

pub apart_from : (y x : List ℕ) (ks : List (List ℕ)) → has y ks ≡ true → has x ks ≡ false → same_name y x ≡ false
apart_from y x ks a b = by (same_name y x) refl where
  by : (c : Bool) → same_name y x ≡ c → c ≡ false
  by false e = refl
  by true e = absurd (let same : y ≡ x = same_is y x e in
      let q : has x ks ≡ true = subst (λ (z : List ℕ). has z ks ≡ true) same a in cc)

-- a new name goes to the end
abbrev pub mark_key : List (List ℕ) → List ℕ → List (List ℕ)
mark_key ks name = cond (has name ks) ks (ks ++ name ∷ [])

pub or_rest : (b a c : Bool) → (a ≡ false → c ≡ false) → (b || a) ≡ false → (b || c) ≡ false
or_rest true a c f h = absurd cc
or_rest false a c f h = f h

pub has_more : (name : List ℕ) (ks : List (List ℕ)) (x : List ℕ) → has name ks ≡ false → same_name name x ≡ false
    → has name (ks ++ x ∷ []) ≡ false
has_more name [] x h e = ap (λ (b : Bool). b || false) e
has_more name (k ∷ ks) x h e = or_rest (same_name name k) (has name ks) (has name (ks ++ x ∷ []))
    (λ q. has_more name ks x q e) h

cons_cond : (x name : List ℕ) (b : Bool) (ks : List (List ℕ))
    → (x ∷ cond b ks (ks ++ name ∷ [])) ≡ cond b (x ∷ ks) (x ∷ (ks ++ name ∷ []))
cons_cond x name true ks = refl
cons_cond x name false ks = refl

pub still_apart : (x name : List ℕ) (b : Bool) (ks : List (List ℕ)) → has x ks ≡ false → same_name x name ≡ false
    → has x (cond b ks (ks ++ name ∷ [])) ≡ false
still_apart x name true ks h e = h
still_apart x name false ks h e = has_more x ks name h e

abbrev pub number_in : Meaning → Option ℕ
number_in (meaning.Procedure p) = Some p.number
number_in (meaning.Constant v) = None
number_in (meaning.Type t n) = None
number_in (meaning.Variable v) = None
number_in (meaning.Local v) = None
number_in (meaning.Field f) = None
number_in (meaning.LocalProcedure p) = None
number_in meaning.Ahead = None
number_in (meaning.Standard f) = None
number_in (meaning.Module k) = None

-- Procedures have numbers from n on, up to c, and stand before all names that are not taken.
abbrev pub OrderBy : (number : Option ℕ) → (taken : Bool) → (n c : ℕ) → (here next none : Type 0) → Type 0
OrderBy (Some k) taken n c here next none = (k ≡ n) × next
OrderBy None true n c here next none = here
OrderBy None false n c here next none = (n ≡ c) × none

none_by : (n c : ℕ) (o : Option ℕ) (t : Bool) → o ≡ None → (here next none : Type 0) → here → none → n ≡ c
    → OrderBy o t n c here next none
none_by n c (Some k) t e here next none p q h = absurd cc
none_by n c None true e here next none p q h = p
none_by n c None false e here next none p q h = (h, q)

entered_by : (o : Option ℕ) (t : Bool) (n c : ℕ) (here next none : Type 0) → o ≡ None → t ≡ true → here
    → OrderBy o t n c here next none
entered_by (Some k) t n c here next none e h p = absurd cc
entered_by None true n c here next none e h p = p
entered_by None false n c here next none e h p = absurd cc

order_map : (o : Option ℕ) (t : Bool) (n c : ℕ) (here next none here' next' none' : Type 0) → (here → here')
    → (next → next') → (none → none') → OrderBy o t n c here next none → OrderBy o t n c here' next' none'
order_map (Some k) t n c here next none here' next' none' f p q h = (h.0, p h.1)
order_map None true n c here next none here' next' none' f p q h = f h
order_map None false n c here next none here' next' none' f p q h = (h.0, q h.1)

taken_on : (o : Option ℕ) (t : Bool) (n c d : ℕ) (here next none here' next' none' : Type 0) → t ≡ true → (here → here')
    → (next → next') → OrderBy o t n c here next none → OrderBy o t n d here' next' none'
taken_on (Some k) t n c d here next none here' next' none' e f p h = (h.0, p h.1)
taken_on None true n c d here next none here' next' none' e f p h = f h
taken_on None false n c d here next none here' next' none' e f p h = absurd cc

next_by : (n c : ℕ) (o : Option ℕ) (t : Bool) → o ≡ Some c → (here next none : Type 0) → c ≡ n → next
    → OrderBy o t n (suc c) here next none
next_by n c (Some x) t h here next none q p = (let same : x ≡ c = cc in same ∙ q, p)
next_by n c None t h here next none q p = absurd cc

module _ {V : Type 0} where
  abbrev pub keys : List (List ℕ × V) → List (List ℕ)
  keys es = map (λ e. e.0) es

  keys_by : (name : List ℕ) (k : V) (e : List ℕ × V) (es more : List (List ℕ × V)) (b : Bool)
      → keys more ≡ mark_key (keys es) name
      → keys (cond b ((e.0, k) ∷ es) (e ∷ more))
      ≡ cond (b || has name (keys es)) (e.0 ∷ keys es) (e.0 ∷ (keys es ++ name ∷ []))
  keys_by name k e es more true h = refl
  keys_by name k e es more false h = ap (λ (ks : List (List ℕ)). e.0 ∷ ks) h
      ∙ cons_cond e.0 name (has name (keys es)) (keys es)

  pub keys_entered : (name : List ℕ) (k : V) (es : List (List ℕ × V))
      → keys (enter_name name k es) ≡ mark_key (keys es) name
  keys_entered name k [] = refl
  keys_entered name k (e ∷ es) = keys_by name k e es (enter_name name k es) (same_name name e.0)
      (keys_entered name k es)

  -- ---- names that stand once

  abbrev pub Distinct : List (List ℕ × V) → Type 0
  Distinct [] = Unit {0}
  Distinct (e ∷ es) = (has e.0 (keys es) ≡ false) × Distinct es

  distinct_by : (name : List ℕ) (k : V) (e : List ℕ × V) (es : List (List ℕ × V)) (b : Bool) → same_name name e.0 ≡ b
      → Distinct (e ∷ es) → Distinct (enter_name name k es)
      → Distinct (cond b ((e.0, k) ∷ es) (e ∷ enter_name name k es))
  distinct_by name k e es true q d h = d
  distinct_by name k e es false q d h = (
    ap (λ (ks : List (List ℕ)). has e.0 ks) (keys_entered name k es)
        ∙ still_apart e.0 name (has name (keys es)) (keys es) d.0 (other_way name e.0 q),
    h,
  )

  pub distinct_entered : (name : List ℕ) (k : V) (es : List (List ℕ × V)) → Distinct es
      → Distinct (enter_name name k es)
  distinct_entered name k [] d = (refl, tt)
  distinct_entered name k (e ∷ es) d = distinct_by name k e es (same_name name e.0) refl d
      (distinct_entered name k es d.1)

abbrev pub number_if : {E : Type 0} → Result Meaning E → Option ℕ
number_if (Ok m) = number_in m
number_if (Err e) = None

module _ {T : Type 0} where
  -- ---- names that are taken

  abbrev pub is_taken : Known T → Bool
  is_taken Later = false
  is_taken Ahead = false
  is_taken Begun = true
  is_taken (Headed r) = true
  is_taken (Declared o r) = true

  abbrev pub holds_of : (Known T → Bool) → Option (Known T) → Bool
  holds_of pick None = false
  holds_of pick (Some k) = pick k

  abbrev pub TakenIn : List (List ℕ × Known T) → List ℕ → Type 0
  TakenIn es name = holds_of is_taken (find_name name es) ≡ true

  pub free_untaken : (k : Known T) → is_free (Some k) ≡ true → is_taken k ≡ false
  free_untaken Later h = refl
  free_untaken Ahead h = refl
  free_untaken Begun h = absurd cc
  free_untaken (Headed r) h = absurd cc
  free_untaken (Declared o r) h = absurd cc

  other_value : (c : Bool) (v k : Known T) (o : Option (Known T)) → is_taken k ≡ true
      → holds_of is_taken (cond c (Some v) o) ≡ true → holds_of is_taken (cond c (Some k) o) ≡ true
  other_value true v k o h p = h
  other_value false v k o h p = p

  pub other_rest : (c : Bool) (v : Known T) (o o' : Option (Known T))
      → (holds_of is_taken o ≡ true → holds_of is_taken o' ≡ true) → holds_of is_taken (cond c (Some v) o) ≡ true
      → holds_of is_taken (cond c (Some v) o') ≡ true
  other_rest true v o o' f p = p
  other_rest false v o o' f p = f p

  taken_by : (y name : List ℕ) (k : Known T) (e : List ℕ × Known T) (es : List (List ℕ × Known T)) (b : Bool)
      → is_taken k ≡ true → TakenIn (e ∷ es) y → (TakenIn es y → TakenIn (enter_name name k es) y)
      → TakenIn (cond b ((e.0, k) ∷ es) (e ∷ enter_name name k es)) y
  taken_by y name k e es true h p f = other_value (same_name y e.0) e.1 k (find_name y es) h p
  taken_by y name k e es false h p f = other_rest (same_name y e.0) e.1 (find_name y es)
      (find_name y (enter_name name k es)) f p

  pub taken_entered : (y name : List ℕ) (k : Known T) (es : List (List ℕ × Known T)) → is_taken k ≡ true → TakenIn es y
      → TakenIn (enter_name name k es) y
  taken_entered y name k [] h p = absurd cc
  taken_entered y name k (e ∷ es) h p = taken_by y name k e es (same_name name e.0) h p (taken_entered y name k es h)

  here_taken : (c : Bool) (k : Known T) (o : Option (Known T)) → c ≡ true → is_taken k ≡ true
      → holds_of is_taken (cond c (Some k) o) ≡ true
  here_taken true k o e h = h
  here_taken false k o e h = absurd cc

  there_taken : (c : Bool) (v : Known T) (o : Option (Known T)) → c ≡ false → holds_of is_taken o ≡ true
      → holds_of is_taken (cond c (Some v) o) ≡ true
  there_taken true v o e h = absurd cc
  there_taken false v o e h = h

  now_by : (name : List ℕ) (k : Known T) (e : List ℕ × Known T) (es : List (List ℕ × Known T)) (b : Bool)
      → same_name name e.0 ≡ b → is_taken k ≡ true → TakenIn (enter_name name k es) name
      → TakenIn (cond b ((e.0, k) ∷ es) (e ∷ enter_name name k es)) name
  now_by name k e es true q h p = here_taken (same_name name e.0) k (find_name name es) q h
  now_by name k e es false q h p = there_taken (same_name name e.0) e.1 (find_name name (enter_name name k es)) q p

  pub now_taken : (name : List ℕ) (k : Known T) (es : List (List ℕ × Known T)) → is_taken k ≡ true
      → TakenIn (enter_name name k es) name
  now_taken name k [] h = here_taken (same_name name name) k None (same_refl name) h
  now_taken name k (e ∷ es) h = now_by name k e es (same_name name e.0) refl h (now_taken name k es h)

  -- ---- procedures that are declared here, by their numbers

  abbrev pub number_from : Origin → Result Meaning T → Option ℕ
  number_from Here r = number_if r
  number_from (Module k) r = None
  number_from (Export k) r = None

  abbrev pub number_of : Known T → Option ℕ
  number_of Later = None
  number_of Ahead = None
  number_of Begun = None
  number_of (Headed r) = number_if r
  number_of (Declared o r) = number_from o r

  abbrev pub NoneDone : List (List ℕ × Known T) → Type 0
  NoneDone [] = Unit {0}
  NoneDone (e ∷ es) = (number_of e.1 ≡ None) × NoneDone es

  abbrev pub Order : (n c : ℕ) → List (List ℕ × Known T) → Type 0
  Order n c [] = n ≡ c
  Order n c (e ∷ es) = OrderBy (number_of e.1) (is_taken e.1) n c (Order n c es) (Order (suc n) c es) (NoneDone es)

  none_entered_by : (k : Known T) (e : List ℕ × Known T) (es more : List (List ℕ × Known T)) (b : Bool)
      → number_of k ≡ None → NoneDone (e ∷ es) → NoneDone more → NoneDone (cond b ((e.0, k) ∷ es) (e ∷ more))
  none_entered_by k e es more true h p q = (h, p.1)
  none_entered_by k e es more false h p q = (p.0, q)

  pub order_none : (n c : ℕ) (es : List (List ℕ × Known T)) → NoneDone es → n ≡ c → Order n c es
  order_none n c [] p h = h
  order_none n c (e ∷ es) p h = none_by n c (number_of e.1) (is_taken e.1) p.0 (Order n c es) (Order (suc n) c es)
      (NoneDone es) (order_none n c es p.1 h) p.1 h

  pub none_entered : (name : List ℕ) (k : Known T) (es : List (List ℕ × Known T)) → number_of k ≡ None → NoneDone es
      → NoneDone (enter_name name k es)
  none_entered name k [] h p = (h, tt)
  none_entered name k (e ∷ es) h p = none_entered_by k e es (enter_name name k es) (same_name name e.0) h p
      (none_entered name k es h p.1)

  -- the number of a procedure, if it is one that is declared
  abbrev pub is_done : Known T → Bool
  is_done k = is_some (number_of k)

  -- ---- a name that is not done is entered

  pub order_same : (n c : ℕ) (k : Known T) (e : List ℕ × Known T) (es : List (List ℕ × Known T)) (o : Option ℕ)
      (t : Bool) → number_of e.1 ≡ o → is_taken e.1 ≡ t → number_of k ≡ None → is_taken k ≡ true → is_some o ≡ false
      → OrderBy o t n c (Order n c es) (Order (suc n) c es) (NoneDone es) → Order n c ((e.0, k) ∷ es)
  order_same n c k e es (Some x) t a b h i d p = absurd cc
  order_same n c k e es None true a b h i d p = entered_by (number_of k) (is_taken k) n c _ _ _ h i p
  order_same n c k e es None false a b h i d p =
      entered_by (number_of k) (is_taken k) n c _ _ _ h i (order_none n c es p.1 p.0)

  order_by : (n c : ℕ) (name : List ℕ) (k : Known T) (e : List ℕ × Known T) (es : List (List ℕ × Known T)) (b : Bool)
      → number_of k ≡ None → is_taken k ≡ true → holds_of is_done (cond b (Some e.1) (find_name name es)) ≡ false
      → Order n c (e ∷ es) → (holds_of is_done (find_name name es) ≡ false → (i : ℕ) → Order i c es
      → Order i c (enter_name name k es)) → Order n c (cond b ((e.0, k) ∷ es) (e ∷ enter_name name k es))
  order_by n c name k e es true h i d p f = order_same n c k e es (number_of e.1) (is_taken e.1) refl refl h i d p
  order_by n c name k e es false h i d p f =
      order_map (number_of e.1) (is_taken e.1) n c (Order n c es) (Order (suc n) c es) (NoneDone es)
      (Order n c (enter_name name k es)) (Order (suc n) c (enter_name name k es)) (NoneDone (enter_name name k es))
      (f d n) (f d (suc n)) (none_entered name k es h) p

  pub order_entered : (name : List ℕ) (k : Known T) (es : List (List ℕ × Known T)) → number_of k ≡ None
      → is_taken k ≡ true → holds_of is_done (find_name name es) ≡ false → (n c : ℕ) → Order n c es
      → Order n c (enter_name name k es)
  order_entered name k [] h i d n c p = entered_by (number_of k) (is_taken k) n c _ _ _ h i p
  order_entered name k (e ∷ es) h i d n c p =
      order_by n c name k e es (same_name name e.0) h i d p (λ z j q. order_entered name k es h i z j c q)

  -- ---- the next procedure

  -- all of these names are taken
  abbrev pub AllTaken : List (List ℕ) → List (List ℕ × Known T) → Type 0
  AllTaken ks es = (y : List ℕ) → has y ks ≡ true → TakenIn es y

  free_not : (k : Known T) → is_free (Some k) ≡ true → is_taken k ≡ true → ⊥
  free_not k f t = let e : is_taken k ≡ false = free_untaken k f in cc

  free_number : (k : Known T) → is_free (Some k) ≡ true → number_of k ≡ None
  free_number Later h = refl
  free_number Ahead h = refl
  free_number Begun h = absurd cc
  free_number (Headed r) h = absurd cc
  free_number (Declared o r) h = absurd cc

  not_by : (b : Bool) (k : Known T) (o : Option (Known T)) → is_free (cond b (Some k) o) ≡ true → is_taken k ≡ true
      → (b ≡ false) × (is_free o ≡ true)
  not_by true k o f t = absurd (free_not k f t)
  not_by false k o f t = (refl, f)

  first_by : (n c : ℕ) (k : Known T) (e : List ℕ × Known T) (es : List (List ℕ × Known T)) (o : Option ℕ) (t : Bool)
      → o ≡ None → t ≡ false → number_of k ≡ Some c → OrderBy o t n c (Order n c es) (Order (suc n) c es) (NoneDone es)
      → Order n (suc c) ((e.0, k) ∷ es)
  first_by n c k e es (Some x) t a b h p = absurd cc
  first_by n c k e es None true a b h p = absurd cc
  first_by n c k e es None false a b h p =
      next_by n c (number_of k) (is_taken k) h _ _ _ (sym p.0) (order_none (suc n) (suc c) es p.1 (ap suc p.0))

  entry_taken : (b : Bool) (k : Known T) (o : Option (Known T)) → b ≡ true
      → holds_of is_taken (cond b (Some k) o) ≡ true → is_taken k ≡ true
  entry_taken true k o e h = h
  entry_taken false k o e h = absurd cc

  rest_taken : (b : Bool) (k : Known T) (o : Option (Known T)) → b ≡ false
      → holds_of is_taken (cond b (Some k) o) ≡ true → holds_of is_taken o ≡ true
  rest_taken true k o e h = absurd cc
  rest_taken false k o e h = h

  first_cond : (b : Bool) → b ≡ true → (n c : ℕ) (k : Known T) (e : List ℕ × Known T)
      (es more : List (List ℕ × Known T)) (o : Option (Known T)) → number_of k ≡ Some c
      → is_free (cond b (Some e.1) o) ≡ true → Order n c (e ∷ es) → Order n (suc c) (cond b ((e.0, k) ∷ es) (e ∷ more))
  first_cond true q n c k e es more o h f p =
      first_by n c k e es (number_of e.1) (is_taken e.1) (free_number e.1 f) (free_untaken e.1 f) h p
  first_cond false q n c k e es more o h f p = absurd cc

  next_cond : (b : Bool) → b ≡ false → (n c : ℕ) (k : Known T) (e : List ℕ × Known T)
      (es more : List (List ℕ × Known T)) → is_taken e.1 ≡ true → ((i : ℕ) → Order i c es → Order i (suc c) more)
      → Order n c (e ∷ es) → Order n (suc c) (cond b ((e.0, k) ∷ es) (e ∷ more))
  next_cond true q n c k e es more t f p = absurd cc
  next_cond false q n c k e es more t f p =
      taken_on (number_of e.1) (is_taken e.1) n c (suc c) (Order n c es) (Order (suc n) c es) (NoneDone es)
      (Order n (suc c) more) (Order (suc n) (suc c) more) (NoneDone more) t (f n) (f (suc n)) p

  pub next_entered : (name : List ℕ) (k : Known T) (c : ℕ) → number_of k ≡ Some c
      → (es : List (List ℕ × Known T)) (pre post : List (List ℕ)) → Distinct es → keys es ≡ pre ++ name ∷ post
      → AllTaken pre es → is_free (find_name name es) ≡ true → (n : ℕ) → Order n c es
      → Order n (suc c) (enter_name name k es)
  next_entered name k c h [] [] post d e t f n p = absurd cc
  next_entered name k c h [] (x ∷ pre) post d e t f n p = absurd cc
  next_entered name k c h (x ∷ es) [] post d e t f n p =
      let same : name ≡ x.0 = cc in
      first_cond (same_name name x.0) (subst (λ (y : List ℕ). same_name name y ≡ true) same (same_refl name)) n c k x es
      (enter_name name k es) (find_name name es) h f p
  next_entered name k c h (x ∷ es) (z ∷ pre) post d e t f n p =
      let same : z ≡ x.0 = cc in
      let rest : keys es ≡ pre ++ name ∷ post = cc in
      let taken : is_taken x.1 ≡ true =
      entry_taken (same_name z x.0) x.1 (find_name z es)
      (subst (λ (y : List ℕ). same_name z y ≡ true) same (same_refl z))
      (t z (or_left (same_name z z) (has z pre) (same_refl z))) in
      let far = not_by (same_name name x.0) x.1 (find_name name es) f taken in
      next_cond (same_name name x.0) far.0 n c k x es (enter_name name k es) taken
      (λ i q. next_entered name k c h es pre post d.1 rest
      (λ y m. rest_taken (same_name y x.0) x.1 (find_name y es)
      (apart_from y x.0 (keys es) (ap (λ (ks : List (List ℕ)). has y ks) rest
      ∙ list_any-append (λ (l : List ℕ). same_name y l) pre (name ∷ post)
      ∙ or_left (has y pre) (has y (name ∷ post)) m) d.0)
      (t y (or_right (same_name y z) (has y pre) m))) far.1 i q) p
