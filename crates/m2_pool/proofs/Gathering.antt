-- What the gatherer knows: of the jobs that are settled, and of the results so far.
use Rattle.std.proofs.Common.{◌≡◌, ℕ, zero, suc, ◌+◌, ◌<◌, ◌≤◌, Bool, true, false, List, [], ◌∷◌, ◌++◌, length, map, get_or, take, refl, sym, ap, ◌∙◌, subst, arith, length-append, append-nil, append_assoc, inl, inr, Option, Some, None}
use Rattle.std.specs.Prelude.{slice_get, IfSome, MatchOption, MatchResult, Result, Ok, Err, IsTrue, is_some}
use Rattle.std.proofs.lemmas.Bool.{cases_lt}
use Rattle.std.proofs.lemmas.List.Folds.{list_all_at}
use Rattle.std.proofs.lemmas.List.{length-map, take_more}
use Rattle.std.proofs.Math.Seq.{take-length}
use mathlib.Core.List.{map-append}
use Rattle.once_cell.specs.Once.{Agrees}
use Rattle.pool_board.specs.Lists.{times}
use Rattle.pool_board.specs.Graph.{prerequisites_of, IsJobGraph}
use Rattle.pool_board.specs.Results.{with_item, items_at, AreCoherent, IsCopy, IsRan}
use Rattle.pool_board.proofs.Picks.{get_in}
use Rattle.pool_board.proofs.Resulting.{get_before, get_last, inside, item, same_picked, here_once, there_too}
use Rattle.m2_pool.specs.Settled.{IsAnswered, IsFounded, IsSettled, all_settled, known_at, known_in}
use Rattle.m2_pool.proofs.Items.{next_in}

-- the names of the jobs' cells, where each job has one
in_range : (names ps : List ℕ) → ((p : ℕ) → 0 < times p ps → p < length names)
    → map Some (items_at names ps) ≡ map (slice_get names) ps
in_range names [] low = refl
in_range names (p ∷ ps) low =
    let here : slice_get names p ≡ Some (get_or names p 0) = get_in names p 0 (low p (here_once p ps)) in
    ap (λ (o : Option ℕ). map Some (with_item o (items_at names ps))) here
    ∙ (ap (λ l. Some (get_or names p 0) ∷ l) (in_range names ps (λ q l. low q (there_too p q ps l)))
    ∙ ap (λ (o : Option ℕ). o ∷ map (slice_get names) ps) (sym here))

its_cell_at : {N : Type 0} (cell_of : N → ℕ) (names jobs : List ℕ) (used : List N) (i : ℕ) (note : N)
    → map Some (map cell_of used) ≡ map (slice_get names) jobs → i < length used → get_or used i note ≡ note
    → (i < length jobs) × (slice_get names (get_or jobs i 0) ≡ Some (cell_of note))
its_cell_at cell_of names jobs [] i note e l is = absurd (omega arith)
its_cell_at cell_of names [] (u ∷ us) i note e l is = absurd (cc e)
its_cell_at cell_of names (j ∷ js) (u ∷ us) zero note e l is = let head : Some (cell_of u) ≡ slice_get names j = cc e in
    (omega arith, sym head ∙ ap (λ n. Some (cell_of n)) is)
its_cell_at cell_of names (j ∷ js) (u ∷ us) (suc i) note e l is =
    let tail : map Some (map cell_of us) ≡ map (slice_get names) js = cc e in
    let t = its_cell_at cell_of names js us i note tail (omega arith) is in
    let low : i < length js = t.0 in
    (omega arith, t.1)

pub same_long : {N : Type 0} (cell_of : N → ℕ) (names jobs : List ℕ) (used : List N)
    → map cell_of used ≡ items_at names jobs → ((p : ℕ) → 0 < times p jobs → p < length names)
    → length used ≡ length jobs
same_long cell_of names jobs used e low =
    sym (length-map used cell_of)
    ∙ (ap (λ l. length l) e
    ∙ (sym (length-map (items_at names jobs) Some)
    ∙ (ap (λ l. length l) (in_range names jobs low) ∙ length-map jobs (slice_get names))))

-- the cell of a note is that of its prerequisite
its_cell : {N : Type 0} (cell_of : N → ℕ) (names jobs : List ℕ) (used : List N) (i : ℕ) (note : N)
    → map cell_of used ≡ items_at names jobs → ((p : ℕ) → 0 < times p jobs → p < length names) → i < length used
    → get_or used i note ≡ note
    → (i < length jobs) × (slice_get names (get_or jobs i 0) ≡ Some (cell_of note))
its_cell cell_of names jobs used i note e low l is =
    its_cell_at cell_of names jobs used i note (ap (map Some) e ∙ in_range names jobs low) l is

-- the prerequisites of a job have cells
pub have_cells : {C : Type 0} (name : C → ℕ) (graph : List (List ℕ)) (cells : List C) (job : ℕ) → IsJobGraph graph
    → job < length graph → length cells ≡ length graph → (p : ℕ) → 0 < times p (prerequisites_of graph job)
    → p < length (map name cells)
have_cells name graph cells job is_graph low long p l =
    let less : p < job = (is_graph job p low).0 l in
    let same : length (map name cells) ≡ length cells = length-map cells name in
    omega arith

-- the next note is that of the cell of the next prerequisite
pub next_cell : {N : Type 0} (cell_of : N → ℕ) (names jobs : List ℕ) (used yielded rest more : List N) (note : N)
    (place : ℕ) → yielded ++ rest ≡ used → rest ≡ note ∷ more → place ≡ length yielded
    → map cell_of used ≡ items_at names jobs
    → ((p : ℕ) → 0 < times p jobs → p < length names) → (place < length jobs)
    × (slice_get names (get_or jobs place 0) ≡ Some (cell_of note))
next_cell cell_of names jobs used yielded rest more note place whole head is e low =
    let at = next_in yielded rest more used note whole head in
    rw is (its_cell cell_of names jobs used (length yielded) note e low at.0 (at.1 note))

none_there : {N : Type 0} (o : Option N) (result : Bool) (Q : N → Type 0)
    → MatchOption o (result ≡ false) (λ m. (result ≡ true) × Q m) → result ≡ false → is_some o ≡ false
none_there None result Q agrees not_it = refl
none_there (Some n) result Q agrees not_it = absurd (cc (agrees.0, not_it))

-- where the next is not settled, not all are
pub not_all : {N : Type 0} (settled before : List (Option N)) (listed jobs : List ℕ) (place : ℕ) (result : Bool)
    (Q : N → Type 0) → settled ≡ before → listed ≡ jobs → place < length jobs
    → MatchOption (get_or settled (get_or listed place 0) None) (result ≡ false) (λ m. (result ≡ true) × Q m)
    → result ≡ false → IsTrue (all_settled before jobs) → IsTrue false
not_all settled before listed jobs place result Q same is low agrees not_it all =
    let agrees' = rw (same, is) at agrees in
    let test : ℕ → Bool = λ p. is_some (get_or before p None) in
    let gone : is_some (get_or before (get_or jobs place 0) None) ≡ false =
    none_there (get_or before (get_or jobs place 0) None) result Q agrees' not_it in
    subst IsTrue (list_all_at test jobs place 0 low gone) all

no_items : {X : Type 0} (xs : List X) → length xs ≡ 0 → xs ≡ []
no_items [] none = refl
no_items (x ∷ xs) none = absurd (omega arith)

heads : {X : Type 0} (j : Option X) (x : X) (js : List (Option X)) (xs : List X) → j ≡ Some x → js ≡ map Some xs
    → j ∷ js ≡ map Some (x ∷ xs)
heads j x js xs here rest = cc

-- a list of answers that are all there, taken apart at its end
split : {X : Type 0} (ks : List (Option X)) (k : Option X) (outs : List X) → ks ++ k ∷ [] ≡ map Some outs
    → (before : List X) × (x : X) × (outs ≡ before ++ x ∷ []) × (ks ≡ map Some before) × (k ≡ Some x)
split [] k [] is = absurd (cc is)
split [] k (x ∷ []) is = ([], x, refl, refl, cc is)
split [] k (x ∷ y ∷ ys) is = absurd (cc is)
split (j ∷ js) k [] is = absurd (cc is)
split (j ∷ js) k (x ∷ xs) is =
    let tail : js ++ k ∷ [] ≡ map Some xs = cc is in
    let head : j ≡ Some x = cc is in
    let t = split js k xs tail in
    (x ∷ t.0, t.1, ap (λ l. x ∷ l) t.2, heads j x js t.0 head t.3, t.4)

-- one more that is settled or not
one_more_place : {N : Type 0} (Right : ℕ → N → Type 0) (os : List (Option N)) (o : Option N)
    → ((p : ℕ) → IfSome (get_or os p None) (Right p)) → IfSome o (Right (length os)) → (p : ℕ)
    → IfSome (get_or (os ++ o ∷ []) p None) (Right p)
one_more_place Right [] o before here zero = here
one_more_place Right [] o before here (suc p) = tt
one_more_place Right (q ∷ qs) o before here zero = before 0
one_more_place Right (q ∷ qs) o before here (suc p) =
    one_more_place (λ k. Right (suc k)) qs o (λ k. before (suc k)) here p

pub places_more : {N : Type 0} (Right : ℕ → N → Type 0) (os os' os'' : List (Option N)) (o o' : Option N) (j : ℕ)
    → os' ≡ os → os'' ≡ os' ++ o' ∷ [] → o' ≡ o → j ≡ length os
    → ((p : ℕ) → IfSome (get_or os p None) (Right p)) → IfSome o (Right j) → (p : ℕ)
    → IfSome (get_or os'' p None) (Right p)
places_more {N} Right os os' os'' o o' j same pushed note at all here p =
    let P : ℕ → Type 0 = λ i. IfSome o (Right i) in
    let Q : List (Option N) → Type 0 = λ l. IfSome (get_or l p None) (Right p) in
    let whole : os'' ≡ os ++ o ∷ [] = pushed
    ∙ (ap (λ l. l ++ o' ∷ []) same ∙ ap (λ (i : Option N). os ++ i ∷ []) note) in
    subst Q (sym whole) (one_more_place Right os o all (subst P at here) p)

-- nothing is settled at first
pub no_places_yet : {N : Type 0} (Right : ℕ → N → Type 0) (os : List (Option N)) → os ≡ [] → (p : ℕ)
    → IfSome (get_or os p None) (Right p)
no_places_yet Right os is p = rw is tt

-- what a worker ran is founded on the notes with which it agrees
pub ran_founded : {N X : Type 0} (cell_of : N → ℕ) (known_of : N → Option X) (names : List ℕ) (graph : List (List ℕ))
    (defines : ℕ → List X → X → Type 0) (job job' cell : ℕ) (known : Option X) (used : List N) (notes : List (Option N))
    → job' ≡ job
    → IsRan names graph defines job' cell known (map cell_of used) (map known_of used)
    → ((outs : List X) → map known_of used ≡ map Some outs
    → map (known_at known_of notes) (prerequisites_of graph job) ≡ map Some outs)
    → (s : IsSettled names job cell known) × IsFounded known_of notes defines (prerequisites_of graph job) job s.out
ran_founded {N} {X} cell_of known_of names graph defines job job' cell known used notes same ran agrees = (
  record {
    cell_is = subst (λ (j : ℕ). slice_get names j ≡ Some cell) same ran.cell_is;
    out = ran.x;
    out_is =
        ran.x_is;
  },
  record {
    outs = ran.outs;
    known_are = agrees ran.outs ran.outs_are;
    defined =
        subst (λ j. defines j ran.outs ran.x) same ran.defined;
  },
)

module _ {N X : Type 0} (cell_of : N → ℕ) (known_of : N → Option X) (names : List ℕ) where
  abbrev pub Settles : ℕ → N → Type 0
  Settles p n = IsSettled names p (cell_of n) (known_of n)

  -- a note of the same cell may be compared
  one_cell : (o : Option N) (p cell : ℕ) → IfSome o (Settles p) → slice_get names p ≡ Some cell
      → IfSome o (λ n. cell ≡ cell_of n)
  one_cell None p cell is here = tt
  one_cell (Some n) p cell is here = let at : slice_get names p ≡ Some (cell_of n) = is.cell_is in cc

  agreed : (k : Option X) (n : N) (p : ℕ) → IfSome k (Agrees (known_of n)) → Settles p n
      → IfSome k (λ x. known_of n ≡ Some x)
  agreed None n p agrees is = tt
  agreed (Some y) n p agrees is =
      let same : is.out ≡ y = subst (λ (o : Option X). Agrees o y) is.out_is agrees in
      is.out_is ∙ ap Some same

  -- what was used of a settled job is what its note knows
  it_is : (o : Option N) (result : Bool) (k : Option X) (p : ℕ)
      → MatchOption o (result ≡ false) (λ n. (result ≡ true) × IfSome k (Agrees (known_of n))) → IfSome o (Settles p)
      → result ≡ true → IfSome k (λ x. known_in known_of o ≡ Some x)
  it_is None result k p agrees is yes_it = absurd (cc (agrees, yes_it))
  it_is (Some n) result k p agrees is yes_it = agreed k n p agrees.1 is

  -- the next note may be compared
  pub next_compared : (settled before : List (Option N)) (listed jobs : List ℕ) (place cell : ℕ) → settled ≡ before
      → listed ≡ jobs → ((p : ℕ) → IfSome (get_or before p None) (Settles p))
      → slice_get names (get_or jobs place 0) ≡ Some cell
      → IfSome (get_or settled (get_or listed place 0) None) (λ n. cell ≡ cell_of n)
  next_compared settled before listed jobs place cell same is all here =
      rw (same, is) (one_cell (get_or before (get_or jobs place 0) None) (get_or jobs place 0) cell
      (all (get_or jobs place 0)) here)

  -- what the next note knows is what the job's own note knows
  pub next_agreed : (settled before : List (Option N)) (listed jobs : List ℕ) (place n : ℕ) (result : Bool)
      (k : Option X) → settled ≡ before → listed ≡ jobs → place ≡ n
      → ((p : ℕ) → IfSome (get_or before p None) (Settles p))
      → MatchOption (get_or settled (get_or listed place 0) None) (result ≡ false)
      (λ m. (result ≡ true) × IfSome k (Agrees (known_of m))) → result ≡ true
      → IfSome k (λ x. known_at known_of before (get_or jobs n 0) ≡ Some x)
  next_agreed settled before listed jobs place n result k same is at all agrees yes_it =
      let agrees' = rw (same, is, at) at agrees in
      it_is (get_or before (get_or jobs n 0) None) result k (get_or jobs n 0) agrees' (all (get_or jobs n 0)) yes_it

  pub one_more_used : (notes : List (Option N)) (jobs : List ℕ) (yielded : List N) (note : N)
      → length yielded < length jobs → ((outs : List X) → map known_of yielded ≡ map Some outs
      → map (known_at known_of notes) (take (length yielded) jobs) ≡ map Some outs)
      → IfSome (known_of note) (λ x. known_at known_of notes (get_or jobs (length yielded) 0) ≡ Some x)
      → (outs : List X) → map known_of (yielded ++ note ∷ []) ≡ map Some outs
      → map (known_at known_of notes) (take (length (yielded ++ note ∷ [])) jobs) ≡ map Some outs
  one_more_used notes jobs yielded note low before here outs is =
      let parts = split (map known_of yielded) (known_of note) outs (sym (map-append known_of yielded (note ∷ [])) ∙ is)
      in
      let one : known_at known_of notes (get_or jobs (length yielded) 0) ≡ Some parts.1 =
      subst (λ (k : Option X). IfSome k (λ x. known_at known_of notes (get_or jobs (length yielded) 0) ≡ Some x))
      parts.4 here in
      let more : map (known_at known_of notes) (take (length yielded) jobs) ≡ map Some parts.0 =
      before parts.0 parts.3 in
      let long : length (yielded ++ note ∷ []) ≡ length yielded + 1 = length-append yielded (note ∷ []) in
      let places : take (length (yielded ++ note ∷ [])) jobs ≡ take (length yielded) jobs
      ++ get_or jobs (length yielded) 0 ∷ [] = ap (λ n. take n jobs) long ∙ take_more jobs (length yielded) 0 low in
      ap (map (known_at known_of notes)) places
      ∙ (map-append (known_at known_of notes) (take (length yielded) jobs) (get_or jobs (length yielded) 0 ∷ [])
      ∙ (ap (λ l. l ++ known_at known_of notes (get_or jobs (length yielded) 0) ∷ []) more
      ∙ (ap (λ (o : Option X). map Some parts.0 ++ o ∷ []) one
      ∙ (sym (map-append Some parts.0 (parts.1 ∷ [])) ∙ ap (map Some) (sym parts.2)))))

  -- all was used
  pub all_used : (notes : List (Option N)) (jobs : List ℕ) (used yielded rest : List N) → yielded ++ rest ≡ used
      → length rest ≡ 0 → length used ≡ length jobs
      → ((outs : List X) → map known_of yielded ≡ map Some outs
      → map (known_at known_of notes) (take (length yielded) jobs) ≡ map Some outs)
      → (outs : List X) → map known_of used ≡ map Some outs → map (known_at known_of notes) jobs ≡ map Some outs
  all_used notes jobs used yielded rest whole none long before outs is =
      let same : yielded ≡ used = sym (append-nil yielded)
      ∙ (ap (λ l. yielded ++ l) (sym (no_items rest none)) ∙ whole) in
      let P : List ℕ → Type 0 = λ l. map (known_at known_of notes) l ≡ map Some outs in
      subst P (ap (λ n. take n jobs) (ap (λ l. length l) same ∙ long) ∙ take-length jobs)
      (before outs (ap (map known_of) same ∙ is))

  pub none_used : (notes : List (Option N)) (jobs : List ℕ) (outs : List X) → [] ≡ map Some outs
      → map (known_at known_of notes) (take 0 jobs) ≡ map Some outs
  none_used notes jobs outs is = is

  module _ (defines : ℕ → List X → X → Type 0) where
    abbrev pub Answers : List X → ℕ → N → Type 0
    Answers xs p n = IsAnswered names defines xs p (cell_of n) (known_of n)

    answered_at : (o : Option N) (xs : List X) (p : ℕ) (out : X) → known_in known_of o ≡ Some out
        → IfSome o (Answers xs p) → (x : X) × (slice_get xs p ≡ Some x) × IsCopy defines out x
    answered_at None xs p out is all = absurd (cc is)
    answered_at (Some n) xs p out is all =
        let known : known_of n ≡ Some all.settled.out = all.settled.out_is in
        let same : all.settled.out ≡ out = cc (known, is) in
        (all.x, all.x_is, subst (λ o. IsCopy defines o all.x) same all.copy)

    -- what comes of the cells comes of the answers, which are copies, one after another
    replaced : (notes : List (Option N)) (xs : List X) → ((p : ℕ) → IfSome (get_or notes p None) (Answers xs p))
        → (job : ℕ) (y : X) (ps : List ℕ) (before outs : List X) → map (known_at known_of notes) ps ≡ map Some outs
        → defines job (before ++ outs) y → defines job (before ++ items_at xs ps) y
    replaced notes xs all job y [] before [] e d = d
    replaced notes xs all job y [] before (o ∷ os) e d = absurd (cc e)
    replaced notes xs all job y (p ∷ ps) before [] e d = absurd (cc e)
    replaced notes xs all job y (p ∷ ps) before (o ∷ os) e d =
        let head : known_at known_of notes p ≡ Some o = cc e in
        let tail : map (known_at known_of notes) ps ≡ map Some os = cc e in
        let here = answered_at (get_or notes p None) xs p o head (all p) in
        let P : List X → Type 0 = λ l. defines job l y in
        let served = here.2.serves job before os y d in
        let onward = replaced notes xs all job y ps (before ++ here.0 ∷ []) os tail
        (subst P (sym (append_assoc before (here.0 ∷ []) os)) served) in
        subst (λ (i : Option X). defines job (before ++ with_item i (items_at xs ps)) y) (sym here.1)
        (subst P (append_assoc before (here.0 ∷ []) (items_at xs ps)) onward)

    pub of_answers : (notes : List (Option N)) (xs : List X) (ps : List ℕ) (job : ℕ) (x : X)
        → ((p : ℕ) → IfSome (get_or notes p None) (Answers xs p)) → IsFounded known_of notes defines ps job x
        → defines job (items_at xs ps) x
    of_answers notes xs ps job x all is = replaced notes xs all job x ps [] is.outs is.known_are is.defined

    -- what was kept of a job comes of the answers
    pub kept_from : {B : Type 0} (value : B → X) (notes : List (Option N)) (xs : List X) (ps : List ℕ) (job : ℕ)
        (kept : Option (Result N B)) → ((p : ℕ) → IfSome (get_or notes p None) (Answers xs p))
        → IfSome kept (λ k. MatchResult k (λ n. (s : Settles job n) × IsFounded known_of notes defines ps job s.out)
        (λ b. IsFounded known_of notes defines ps job (value b)))
        → IfSome kept (λ k. MatchResult k (λ n. (s : Settles job n) × defines job (items_at xs ps) s.out)
        (λ b. defines job (items_at xs ps) (value b)))
    kept_from value notes xs ps job None all is = tt
    kept_from value notes xs ps job (Some (Ok n)) all is = (is.0, of_answers notes xs ps job is.0.out all is.1)
    kept_from value notes xs ps job (Some (Err b)) all is = of_answers notes xs ps job (value b) all is

    -- a settled job is one that was answered
    pub settled_too : (o : Option N) (xs : List X) (p : ℕ) → IfSome o (Answers xs p) → IfSome o (Settles p)
    settled_too None xs p is = tt
    settled_too (Some n) xs p is = is.settled

    -- an answer stays where more are given
    answered_on : (o : Option N) (xs ys : List X) (p : ℕ) → IfSome o (Answers xs p) → IfSome o (Answers (xs ++ ys) p)
    answered_on None xs ys p is = tt
    answered_on (Some n) xs ys p is = record {
      settled = is.settled;
      x = is.x;
      x_is =
          get_before xs ys p (inside xs p is.x is.x_is) ∙ is.x_is;
      copy = is.copy;
    }

    newly : (o : Option N) (xs : List X) (x : X) (p : ℕ) → p ≡ length xs
        → IfSome o (λ n. (s : Settles p n) × IsCopy defines s.out x) → IfSome o (Answers (xs ++ x ∷ []) p)
    newly None xs x p at is = tt
    newly (Some n) xs x p at is = record { settled = is.0; x = x; x_is = get_last xs x p at; copy = is.1 }

    -- and one more is answered, and maybe settled
    pub answers_more : (os os' os'' : List (Option N)) (o : Option N) (j : ℕ) (xs xs' : List X) (x : X) → os' ≡ os
        → os'' ≡ os' ++ o ∷ [] → xs' ≡ xs ++ x ∷ [] → j ≡ length os → j ≡ length xs
        → ((p : ℕ) → IfSome (get_or os p None) (Answers xs p))
        → IfSome o (λ n. (s : Settles j n) × IsCopy defines s.out x) → (p : ℕ)
        → IfSome (get_or os'' p None) (Answers xs' p)
    answers_more os os' os'' o j xs xs' x same pushed pushed_x at at_x all here =
        subst (λ (ys : List X). (p : ℕ) → IfSome (get_or os'' p None) (Answers ys p)) (sym pushed_x)
        (places_more (Answers (xs ++ x ∷ [])) os os' os'' o o j same pushed refl at
        (λ p. answered_on (get_or os p None) xs (x ∷ []) p (all p)) (newly o xs x j at_x here))

-- as many are picked as places are there
pub picks_all : {X : Type 0} (xs : List X) (ps : List ℕ) → ((p : ℕ) → 0 < times p ps → p < length xs)
    → length (items_at xs ps) ≡ length ps
picks_all xs [] low = refl
picks_all {X} xs (p ∷ ps) low =
    let there = item xs p (low p (here_once p ps)) in
    ap (λ (o : Option X). length (with_item o (items_at xs ps))) there.1
    ∙ ap suc (picks_all xs ps (λ q l. low q (there_too p q ps l)))

module _ {X : Type 0} (graph : List (List ℕ)) (defines : ℕ → List X → X → Type 0) where
  -- and one more result
  pub next_result : IsJobGraph graph → (j : ℕ) (xs xs' : List X) (x : X) → j ≡ length xs → j < length graph
      → xs' ≡ xs ++ x ∷ [] → AreCoherent graph defines xs → defines j (items_at xs (prerequisites_of graph j)) x
      → AreCoherent graph defines xs'
  next_result is_graph j xs xs' x at low pushed are one =
      let picks : (k : ℕ) → k ≤ j → items_at xs (prerequisites_of graph k)
      ≡ items_at (xs ++ x ∷ []) (prerequisites_of graph k) =
      λ k most. same_picked xs (xs ++ x ∷ []) (prerequisites_of graph k)
      (λ p some_time. let less : p < k = (is_graph k p (omega (arith, most, low))).0 some_time in
      sym (get_before xs (x ∷ []) p (omega (arith, less, most, at)))) in
      let all : AreCoherent graph defines (xs ++ x ∷ []) = λ job y is. elim (cases_lt job (length xs)) [
        | inl less ↦ subst (λ l. defines job l y) (picks job (omega (arith, less, at)))
            (are job y (sym (get_before xs (x ∷ []) job less) ∙ is))
        | inr most ↦
            let long : length (xs ++ x ∷ []) ≡ length xs + 1 = length-append xs (x ∷ []) in
            let here : job ≡ length xs = omega (arith, most, long, inside (xs ++ x ∷ []) job y is) in
            let value : slice_get (xs ++ x ∷ []) job ≡ Some x = get_last xs x job here in
            let same : x ≡ y = cc (value, is) in
            let J : ℕ → Type 0 = λ k. defines k (items_at (xs ++ x ∷ []) (prerequisites_of graph k)) x in
            subst (λ z. defines job (items_at (xs ++ x ∷ []) (prerequisites_of graph job)) z) same
            (subst J (at ∙ sym here) (subst (λ l. defines j l x) (picks j (omega arith)) one))
      ] in
      subst (AreCoherent graph defines) (sym pushed) all

  pub none_yet : (xs : List X) → xs ≡ [] → AreCoherent graph defines xs
  none_yet xs none job x is = let gone : slice_get xs job ≡ None = ap (λ (l : List X). slice_get l job) none in
      absurd (cc (gone, is))
