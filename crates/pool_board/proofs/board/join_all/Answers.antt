use Rattle.std.proofs.Common.{◌≡◌, ◌<◌, List, [], ◌∷◌, ◌++◌, length, get_or, refl, sym, ap, ◌∙◌, arith, length-append}
use Rattle.pool_board.specs.Seats.{SeatState}
use Rattle.pool_board.proofs.Keeps.{enters, joins}
use Rattle.pool_board.proofs.board.join_all.Goals as goal

-- the item after those that were taken
after : {A : Type 0} (xs ys : List A) (x d : A) → get_or (xs ++ x ∷ ys) (length xs) d ≡ x
after [] ys x d = refl
after (z ∷ zs) ys x d = after zs ys x d

-- the next item is one of all
next_in : {A : Type 0} (xs zs ys all : List A) (x : A) → xs ++ zs ≡ all → zs ≡ x ∷ ys → (length xs < length all)
    × (get_or all (length xs) x ≡ x)
next_in xs zs ys all x is head =
    let whole : xs ++ x ∷ ys ≡ all = ap (λ l. xs ++ l) (sym head) ∙ is in
    let long : length (xs ++ x ∷ ys) ≡ length all = ap (λ l. length l) whole in
    (omega (arith, length-append xs (x ∷ ys)), ap (λ l. get_or l (length xs) x) (sym whole) ∙ after xs ys x x)

pub load_new_seat-whole-requires : goal.load_new_seat-whole-requires
load_new_seat-whole-requires c = (
  c.requires.words,
  enters (Unit {0}) c.args.table.now.shared.key.graph.value
      c.args.table.now.shared.key.workers _ 0,
)

pub join_seat-requires : goal.join_seat-requires
join_seat-requires c =
    let at = next_in c.loop-next.yielded _ _ c.args.seats.items c.in-Some.next c.loop-next.invariant.rest_is
    c.in-Some.ensures.steps.0 in
    let board : c.in-Some.next.board ≡ c.args.table.now.shared.table_id = ap (λ (s : SeatState). s.board) (sym at.1)
    ∙ c.requires.table (length c.loop-next.yielded) c.in-Some.next at.0 in (
      c.loop-next.invariant.table_is,
      ap (λ (s : SeatState). s.board) c.next-in-loop-next.view_is ∙ board,
      c.next-in-loop-next.invariant.free,
      c.requires.words,
      joins (Unit {0}) c.args.table.now.shared.key.graph.value c.args.table.now.shared.key.workers _ _ _ _,
    )
