use Rattle.std.proofs.Common.{IsTrue, eqb, eq-eqb, get_or, refl, ◌≡◌, ℕ, ◌+◌, ◌/◌, ◌<◌, suc, List, [], ◌∷◌, ◌++◌, length, sym, ap, ◌∙◌, subst, arith}
use Rattle.std.proofs.lemmas.Bool.{eqb-true}
use Rattle.atomic_table.specs.Seated.{TableId}
use Rattle.pool_board.specs.declared.rule.Counted.{Counted}
use Rattle.pool_board.specs.declared.rule.Record.{Record}
use Rattle.pool_board.specs.Lists.{times}
use Rattle.pool_board.specs.Graph.{targets_of}
use Rattle.pool_board.specs.Rule.{count_of_edge}
use Rattle.pool_board.specs.Seats.{BoardState, SeatState}
use Rattle.pool_board.specs.Steps.{count_of}
use Rattle.pool_board.proofs.Seated.{seat_counted}
use Rattle.pool_board.proofs.Targets.{target_names, low_source}
use Rattle.pool_board.proofs.board.Board.count_down.Goals as goal
use Rattle.pool_board.proofs.board.Board.count_down.Goals.{After-word_count}

pub targets-requires : goal.targets-requires
targets-requires c =
    let here : c.self.inside.graph ≡ c.args.self.now.graph = ap (λ (b : BoardState). b.graph) c.self.view_is in
    low_source c.self.inside.graph c.args.from c.args.edge c.self.invariant.is_graph
    (subst (λ (g : List (List ℕ)). c.args.edge < length (targets_of g c.args.from)) (sym here) c.requires.edge)

-- where the waiting words begin
half : (n : ℕ) → suc (n + n) / 2 ≡ n
half n = omega arith

edge_is : (c : After-word_count) → c.args.edge < length (targets_of c.self.inside.graph c.args.from)
edge_is c = subst (λ (g : List (List ℕ)). c.args.edge < length (targets_of g c.args.from))
    (sym (ap (λ (b : BoardState). b.graph) c.self.view_is)) c.requires.edge

target_low : (c : After-word_count) → get_or c.targets.result.now c.args.edge 0 < length c.self.inside.graph
target_low c = rw c.targets.ensures.targets ((target_names c.self.inside.graph c.args.from c.args.edge (edge_is c)).0)

first_waiting : (c : After-word_count) → c.word_count.result / 2 ≡ length c.self.inside.graph
first_waiting c = ap (λ (w : ℕ). w / 2) (c.word_count.ensures ∙ c.self.invariant.words_are)
    ∙ half (length c.self.inside.graph)

pub overflow_add-waiting : goal.overflow_add-waiting
overflow_add-waiting c = let small = c.word_count.type_inv in let words = c.self.invariant.words_are in
    let is = c.word_count.ensures in omega (arith, target_low c, first_waiting c)

pub count_word-found-requires-clause-may : goal.count_word-found-requires-clause-may
count_word-found-requires-clause-may c =
    let b = c.self.invariant in
    let w : After-word_count = (goal.at.count_word-found-requires-clause-may c).After-word_count in
    let seat = c.seat.invariant in record {
      seat_is = ap (λ (s : SeatState). s.board) c.seat.view_is
          ∙ (c.requires.board ∙ sym (ap (λ (b : BoardState). b.id) c.self.view_is));
      is_graph = rw b.graph_is b.is_graph;
      words_are = rw b.graph_is b.words_are;
      edge_is = rw b.graph_is (edge_is w);
      waiting_is = rw (b.graph_is, first_waiting w, c.targets.ensures.targets) refl;
      fresh = ap (count_of_edge c.args.from c.args.edge) (ap (λ (s : SeatState). s.counts) c.seat.view_is)
          ∙ c.requires.fresh;
      had = rw (seat.had_is, ap (λ (s : SeatState). s.had) c.seat.view_is) c.requires.had;
      share = omega (arith, seat.share_is);
    }

-- the number found was 1 where none is left
none_left : (found left : ℕ) → found ≡ suc left → (IsTrue (eqb found 1) → left ≡ 0) × (left ≡ 0 → IsTrue (eqb found 1))
none_left found left is = (
  (λ t. let one : found ≡ 1 = eqb-true found 1 t in omega arith),
  (λ z. eq-eqb found 1 (omega arith)),
)

pub returns-clause-counts : goal.returns-clause-counts
returns-clause-counts c =
    let t = c.count_word-found.ensures.count in (
      t.0,
      ap (λ (v : Record). v.counts) t.2
          ∙ ap (λ (l : List Counted). l ++ count_of c.args.from c.args.edge t.0 ∷ [])
          (ap (λ (s : SeatState). s.counts) c.seat.view_is),
      none_left c.count_word-found.result t.0 t.1,
    )

pub invariant_of-seat : goal.invariant_of-seat
invariant_of-seat c =
    let t = c.count_word-found.ensures.count in
    let had : 0 < times c.args.from c.seat.inside.had.items =
    rw (ap (λ (s : SeatState). s.had) c.seat.view_is) c.requires.had in
    rw (ap (λ (z : TableId). z.words) c.count_word-found.ensures.table.0)
    (seat_counted _ _ c.args.from c.args.edge t.0 _ _ c.count_word-found.new.seat.me c.seat.invariant
    c.count_word-found.ensures.table.2 t.2 had)
