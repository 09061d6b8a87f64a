-- The nodes of each graph stand in an order in which cycles are found.
use Rattle.std.proofs.Common.{◌≡◌, ◌<◌, ◌≤◌, ℕ, zero, suc, ◌+◌, cond, nat_lt, List, [], ◌∷◌, ◌++◌, length, take, get_or, set, replicate, refl, sym, ap, subst, ◌∙◌, arith}
use Rattle.std.proofs.lemmas.Bool.{le-ltb}
use Rattle.graph_walk.specs.Links.{times, targets, AreNodes}
use Rattle.graph_walk.specs.Turned.{Gathers, IsTurned}
use Rattle.graph_walk.specs.Cycles.{HasCycleOrder}
use Rattle.graph_walk.proofs.Chains.{pair_within, has_index}
use Rattle.graph_walk.proofs.Turning.{gathers_none, gathers_more, gathers_all, Turns, turns_none, turns_more, turned_all, nodes_more, cycle_order_from}
use Rattle.law_graph.proofs.Entering.{start_order}

-- pairs to a node are added to rows
gather : (to : ℕ) (rows : List (List ℕ)) (xs : List ℕ) → ((i : ℕ) → i < length xs → get_or xs i 0 < length rows)
    → (n : ℕ) → n ≤ length xs → (rows' : List (List ℕ)) × Gathers (take n xs) to rows rows'
gather to rows xs within zero l = (rows, gathers_none to rows)
gather to rows xs within (suc n) l =
    let r = gather to rows xs within n (omega arith) in
    let x = get_or xs n 0 in
    let more = set r.0 x (targets r.0 x ++ to ∷ []) in
    let inside : x < length r.0 = let w = within n (omega arith) in omega (arith, w, r.1.same) in
    let g : Gathers (take (n + 1) xs) to rows more = gathers_more xs n to rows r.0 more (omega arith) inside r.1 refl in
    let e : n + 1 ≡ suc n = omega arith in
    (more, subst (λ (m : ℕ). Gathers (take m xs) to rows more) e g)

module _ (links : List (List ℕ)) (nodes : AreNodes links) where
  turn : (n : ℕ) → n ≤ length links → (back : List (List ℕ)) × Turns links n back
  turn zero l = (replicate (length links) [], turns_none links (replicate (length links) []) (length links) refl refl)
  turn (suc n) l =
      let r = turn n (omega arith) in
      let xs = targets links n in
      let g = gather n r.0 xs (λ i m. let w = pair_within links n (get_or xs i 0) nodes (has_index xs i 0 m) in
      omega (arith, w, r.1.same)) (length xs) (omega arith) in
      let e : n + 1 ≡ suc n = omega arith in (
        g.0,
        subst (λ (m : ℕ). Turns links m g.0) e
            (turns_more links r.0 g.0 n xs refl r.1 (gathers_all xs (length xs) n r.0 g.0 (omega arith) g.1)),
      )

all_below : (n : ℕ) → (all : List ℕ) × ((k : ℕ) → times all k ≡ cond (nat_lt k n) 1 0)
all_below zero = ([], λ k. ap (λ b. cond b 1 0) (sym (le-ltb k 0 (omega arith))))
all_below (suc n) =
    let r = all_below n in
    let e : n + 1 ≡ suc n = omega arith in
    (r.0 ++ n ∷ [], λ k. nodes_more r.0 (r.0 ++ n ∷ []) n r.1 refl k ∙ ap (λ m. cond (nat_lt k m) 1 0) e)

pub cycle_order : (links : List (List ℕ)) → AreNodes links → HasCycleOrder links
cycle_order links nodes =
    let r = turn links nodes (length links) (omega arith) in
    let a = all_below (length links) in
    let back = r.0 ++ a.0 ∷ [] in
    let t : IsTurned links back = turned_all links r.0 back (length links) a.0 (omega arith) r.1 a.1 refl in
    let o = start_order back (length links) in
    (o.0, cycle_order_from links back o.0 nodes t o.1)
