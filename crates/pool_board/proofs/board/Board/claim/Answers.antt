use Rattle.std.proofs.Common.{◌≡◌, ℕ, ◌+◌, ◌<◌, suc, List, length, sym, ap, ◌∙◌, subst, arith, vec_len}
use Rattle.atomic_table.specs.Seated.{TableId}
use Rattle.pool_board.specs.Seats.{BoardState, SeatState}
use Rattle.pool_board.proofs.Keeps.{claims}
use Rattle.pool_board.proofs.Seated.{got, seat_room, seat_had}
use Rattle.pool_board.proofs.board.Board.claim.Goals as goal

pub swap-found-requires : goal.swap-found-requires
swap-found-requires c =
    let b = c.self.invariant in
    let here : c.self.inside.graph ≡ c.args.self.now.graph = ap (λ (b : BoardState). b.graph) c.self.view_is in
    let low : c.args.job < length c.self.inside.graph =
    subst (λ (g : List (List ℕ)). c.args.job < length g) (sym here) c.requires.job in
    let low' : c.args.job < length c.self.inside.table.shared.key.graph.value =
    subst (λ (g : List (List ℕ)). c.args.job < length g) (sym b.graph_is) low in
    let words = b.words_are in
    let share = c.seat.invariant.share_is in (
      ap (λ (s : SeatState). s.board) c.seat.view_is
          ∙ (c.requires.board ∙ sym (ap (λ (b : BoardState). b.id) c.self.view_is)),
      omega (arith, words),
      claims (Unit {0}) c.self.inside.table.shared.key.graph.value c.self.inside.table.shared.key.workers _ _ c.args.job
          _ low' (omega (arith, share)),
    )

-- the job's place on the board that the seat is of
low_word : (words n job : ℕ) → words ≡ suc (n + n) → job < n → suc (job + job) < words
low_word words n job w low = omega arith

pub push_reserved-requires : goal.push_reserved-requires
push_reserved-requires c =
    let here : c.self.inside.graph ≡ c.args.self.now.graph = ap (λ (b : BoardState). b.graph) c.self.view_is in
    let low : c.args.job < length c.self.inside.graph =
    subst (λ (g : List (List ℕ)). c.args.job < length g) (sym here) c.requires.job in
    let same = ap (λ (t : TableId). t.words)
    (ap (λ (s : SeatState). s.board) c.seat.view_is
    ∙ (c.requires.board ∙ sym (ap (λ (b : BoardState). b.id) c.self.view_is))) in
    let answered = got _ _ _ _ c.if-found-eq0.true c.swap-found.ensures.2 in
    let fits = seat_room _ _ c.args.job _ _ c.seat.invariant (low_word _ _ _ (same ∙ c.self.invariant.words_are) low)
    answered.2 in
    let len : vec_len c.seat.inside.had ≡ length c.seat.inside.had.items = c.seat.inside.had.ok.0 in
    omega (arith, fits, len)

pub invariant_of-seat : goal.invariant_of-seat
invariant_of-seat c =
    let here : c.self.inside.graph ≡ c.args.self.now.graph = ap (λ (b : BoardState). b.graph) c.self.view_is in
    let low : c.args.job < length c.self.inside.graph =
    subst (λ (g : List (List ℕ)). c.args.job < length g) (sym here) c.requires.job in
    let same = ap (λ (t : TableId). t.words)
    (ap (λ (s : SeatState). s.board) c.seat.view_is
    ∙ (c.requires.board ∙ sym (ap (λ (b : BoardState). b.id) c.self.view_is))) in
    let answered = got _ _ _ _ c.if-found-eq0.true c.swap-found.ensures.2 in
    let after = seat_had _ _ c.args.job _ _ c.swap-found.new.seat.me c.seat.invariant
    (low_word _ _ _ (same ∙ c.self.invariant.words_are) low) answered.0 answered.1 answered.2 in
    rw (
      ap (λ (t : TableId). t.words) c.swap-found.ensures.0,
      c.push_reserved.ensures.capacity,
      c.push_reserved.ensures.items,
    ) after
