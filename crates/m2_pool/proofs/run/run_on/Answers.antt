use Rattle.std.proofs.Common.{◌≡◌, ℕ, ◌<◌, List, All, length, map, get_or, zero, suc, [], ◌∷◌, ◌++◌, None, Some, refl, sym, ap, subst, ◌∙◌}
use Rattle.std.specs.Prelude.{slice_get}
use Rattle.pool_board.proofs.Resulting.{item}
use Rattle.std.proofs.lemmas.List.{length-map}
use Rattle.pool_board.specs.Lists.{times, one_list}
use Rattle.pool_board.specs.Seats.{SeatState}
use Rattle.m2_pool.proofs.Places.{match_some}
use Rattle.m2_pool.proofs.Tallying.{is_tally}
use Rattle.m2_pool.proofs.run.run_on.Goals as goal

-- the items, seen by f
row_of : {A B : Type 0} (f : A → B) (rows : List A) (k : ℕ) (d : A) → f (get_or rows k d) ≡ get_or (map f rows) k (f d)
row_of f [] k d = refl
row_of f (r ∷ rs) zero d = refl
row_of f (r ∷ rs) (suc k) d = row_of f rs k d

-- the item at a place, seen by f, and as it is
seen : {A B : Type 0} (f : A → B) (xs : List A) (k : ℕ) (d : B) (x : A) → slice_get xs k ≡ Some x
    → get_or (map f xs) k d ≡ f x
seen f [] k d x is = absurd (cc is)
seen f (y ∷ ys) zero d x is = let same : y ≡ x = cc is in ap f same
seen f (y ∷ ys) (suc k) d x is = seen f ys k d x is

at : {A : Type 0} (xs : List A) (k : ℕ) (d x : A) → slice_get xs k ≡ Some x → get_or xs k d ≡ x
at [] k d x is = absurd (cc is)
at (y ∷ ys) zero d x is = cc is
at (y ∷ ys) (suc k) d x is = at ys k d x is

-- lists that look the same are of one length
same_length : {A B C : Type 0} (f : A → C) (g : B → C) (xs : List A) (ys : List B) → map f xs ≡ map g ys
    → length xs ≡ length ys
same_length f g xs ys same = sym (length-map xs f) ∙ (ap (λ l. length l) same ∙ length-map ys g)

pub all_work-requires-clause-seats : goal.all_work-requires-clause-seats
all_work-requires-clause-seats g c κs within = λ k d l.
    let seats_are = c.in_ok-members.ensures.seats in
    let members = c.in_ok-members.members.items in
    let low : k < length c.args.seats.items = rw (← seats_are, length-map members (λ m. m.seat)) l in
    let seat_is = row_of (λ m. m.seat) members k d ∙ ap (λ (l : List SeatState). get_or l k d.seat) seats_are in (
      ap (λ (s : SeatState). s.board) seat_is ∙ c.requires.seats.0.each k d.seat low,
      ap (λ (s : SeatState). s.had) seat_is ∙ c.requires.new k d.seat low,
      c.in_ok-members.ensures.new k d l,
    )

pub close-tally-requires : goal.close-tally-requires
close-tally-requires g c =
    let members = c.in_ok-members.members.items in
    let count : length c.in_ok-seats.seats.items ≡ c.args.board.workers =
    c.in_ok-seats.ensures.count
    ∙ (c.in_ok-ended.ensures.count
    ∙ (sym (length-map members (λ m. m.seat))
    ∙ (ap (λ (l : List SeatState). length l) c.in_ok-members.ensures.seats ∙ c.requires.seats.0.count_is))) in
    record { count_is = count; each = λ k d l. (c.in_ok-seats.ensures.seats k d l).0 }

pub gather_results-requires-clause-places : goal.gather_results-requires-clause-places
gather_results-requires-clause-places g c κs within =
    λ k l. match_some (get_or c.in_ok-places.places.items k None) _ _ (c.in_ok-places.ensures.each k l)

pub returns-clause-seats : goal.returns-clause-seats
returns-clause-seats g c =
    let members = c.in_ok-members.members.items in
    same_length (λ l. l.items) (λ (s : SeatState). s.had) c.close-tally.result.seats.items c.in_ok-seats.seats.items
    c.close-tally.ensures.seats
    ∙ (c.in_ok-seats.ensures.count
    ∙ (c.in_ok-ended.ensures.count
    ∙ (sym (length-map members (λ m. m.seat))
    ∙ (ap (λ (l : List SeatState). length l) c.in_ok-members.ensures.seats ∙ c.requires.seats.0.count_is))))

-- what is true of each row is true of the rows of lists that look the same
all_rows : {A B C : Type 0} (P : C → Type 0) (f : A → C) (g : B → C) (xs : List A) (ys : List B) → map f xs ≡ map g ys
    → All (λ y. P (g y)) ys → All P (map f xs)
all_rows P f g xs ys same all = λ k d l.
    let low : k < length (map g ys) = rw (← same) l in
    let here : k < length ys = rw (← length-map ys g) low in
    let there = item ys k here in
    subst P (sym (ap (λ (zs : List _). get_or zs k d) same ∙ seen g ys k d there.0 there.1))
    (subst (λ y. P (g y)) (at ys k there.0 there.0 there.1) (all k there.0 here))

pub returns-clause-admitted : goal.returns-clause-admitted
returns-clause-admitted g c =
    all_rows (λ l. All (g.G.Gate.admits c.args.gate.now) l) (λ l. l.items) (λ (s : SeatState). s.had)
    c.close-tally.result.seats.items c.in_ok-seats.seats.items c.close-tally.ensures.seats
    c.in_ok-seats.ensures.admitted

pub returns-clause-tally : goal.returns-clause-tally
returns-clause-tally g c =
    let lists = map (λ l. l.items) c.close-tally.result.seats.items in
    let each : (job : ℕ) → job < length c.args.board.graph
    → times job (one_list lists ++ c.close-tally.result.gatherer.items) ≡ 1 = c.close-tally.ensures.each in
    let members = c.in_ok-members.members.items in
    let count : length c.in_ok-seats.seats.items ≡ c.args.board.workers =
    c.in_ok-seats.ensures.count
    ∙ (c.in_ok-ended.ensures.count
    ∙ (sym (length-map members (λ m. m.seat))
    ∙ (ap (λ (l : List SeatState). length l) c.in_ok-members.ensures.seats ∙ c.requires.seats.0.count_is))) in
    rw c.requires.graph.1 (is_tally c.args.board.graph c.in_ok-seats.seats.items lists
    c.close-tally.result.gatherer.items c.close-tally.ensures.seats c.close-tally.ensures.gatherer each
    c.close-tally.ensures.consistent
    c.args.board.workers count c.close-tally.ensures.sources
    (λ k d l. rw (← c.requires.graph.1) (c.in_ok-seats.ensures.seats k d l).1))
