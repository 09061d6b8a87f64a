-- The jobs that name a job stand in rising order.
use Rattle.std.proofs.Common.{◌≡◌, ℕ, Bool, ltb, cond, true, false, subst, zero, suc, ◌+◌, ◌-◌, ◌<◌, ◌≤◌, List, [], ◌∷◌, length, get_or, map, sym, refl, ap, ◌∙◌, ⊎_elim, arith}
use Rattle.std.proofs.lemmas.Bool.{ltb-true, cases_order}
use Rattle.pool_board.specs.Lists.{times}
use Rattle.pool_board.specs.Graph.{IsJobGraph, naming_from, prerequisites_of, targets_of, targets_from, targets_table}

-- what is known of each job in the list
abbrev pub Names : ℕ → List (List ℕ) → ℕ → ℕ → Type 0
Names first graph job t = (first ≤ t) × (t < first + length graph) × (0 < times job (get_or graph (t - first) []))

names_later : (first : ℕ) (ps : List ℕ) (rest : List (List ℕ)) (job t : ℕ) → Names (suc first) rest job t
    → Names first (ps ∷ rest) job t
names_later first ps rest job t n = let low : first ≤ t = omega (arith, n.0) in
    let next : t - first ≡ suc (t - suc first) = omega (arith, n.0) in
    (low, omega (arith, n.1), subst (λ (k : ℕ). 0 < times job (get_or (ps ∷ rest) k [])) (sym next) n.2)

each_step : (first : ℕ) (ps : List ℕ) (rest : List (List ℕ)) (job : ℕ) (L : List ℕ)
    → ((e : ℕ) → e < length L → Names (suc first) rest job (get_or L e 0))
    → (b : Bool) → ltb 0 (times job ps) ≡ b → (e : ℕ) → e < length (cond b (first ∷ L) L)
    → Names first (ps ∷ rest) job (get_or (cond b (first ∷ L) L) e 0)
each_step first ps rest job L ih true is zero l = let zero_back : first - first ≡ 0 = omega arith in
    let here : 0 < times job ps = ltb-true 0 (times job ps) is in
    (omega arith, omega arith, subst (λ (k : ℕ). 0 < times job (get_or (ps ∷ rest) k [])) (sym zero_back) here)
each_step first ps rest job L ih true is (suc e) l = names_later first ps rest job (get_or L e 0) (ih e (omega arith))
each_step first ps rest job L ih false is e l = names_later first ps rest job (get_or L e 0) (ih e l)

pub naming_each : (first : ℕ) (graph : List (List ℕ)) (job e : ℕ) → e < length (naming_from first graph job)
    → Names first graph job (get_or (naming_from first graph job) e 0)
naming_each first [] job e l = absurd (omega arith)
naming_each first (ps ∷ rest) job e l = each_step first ps rest job (naming_from (suc first) rest job)
    (naming_each (suc first) rest job) (ltb 0 (times job ps)) refl e l

rises_step : (first : ℕ) (L : List ℕ) → ((e : ℕ) → e < length L → suc first ≤ get_or L e 0)
    → ((d e : ℕ) → d < e → e < length L → get_or L d 0 < get_or L e 0)
    → (b : Bool) → (d e : ℕ) → d < e → e < length (cond b (first ∷ L) L)
    → get_or (cond b (first ∷ L) L) d 0 < get_or (cond b (first ∷ L) L) e 0
rises_step first L low ih true d zero less l = absurd (omega arith)
rises_step first L low ih true zero (suc e) less l = let k = low e (omega arith) in omega arith
rises_step first L low ih true (suc d) (suc e) less l = ih d e (omega arith) (omega arith)
rises_step first L low ih false d e less l = ih d e less l

pub naming_rises : (first : ℕ) (graph : List (List ℕ)) (job d e : ℕ) → d < e → e < length (naming_from first graph job)
    → get_or (naming_from first graph job) d 0 < get_or (naming_from first graph job) e 0
naming_rises first [] job d e less l = absurd (omega arith)
naming_rises first (ps ∷ rest) job d e less l =
    rises_step first (naming_from (suc first) rest job) (λ k h. (naming_each (suc first) rest job k h).0)
    (naming_rises (suc first) rest job) (ltb 0 (times job ps)) d e less l

-- an edge goes to a job that names its source
pub target_names : (graph : List (List ℕ)) (from edge : ℕ) → edge < length (targets_of graph from)
    → (get_or (targets_of graph from) edge 0 < length graph)
    × (0 < times from (prerequisites_of graph (get_or (targets_of graph from) edge 0)))
target_names graph from edge l = let n = naming_each 0 graph from edge l in
    let t : ℕ = get_or (targets_of graph from) edge 0 in let same : t - 0 ≡ t = omega arith in
    (omega (arith, n.1), subst (λ (k : ℕ). 0 < times from (get_or graph k [])) same n.2)

-- two edges of one job go to two jobs
pub targets_apart : (graph : List (List ℕ)) (from d e : ℕ) → d < length (targets_of graph from)
    → e < length (targets_of graph from)
    → get_or (targets_of graph from) d 0 ≡ get_or (targets_of graph from) e 0 → d ≡ e
targets_apart graph from d e ld le is =
    ⊎_elim (λ same. same) (⊎_elim (λ less. absurd (omega (arith, naming_rises 0 graph from d e less le)))
    (λ more. absurd (omega (arith, naming_rises 0 graph from e d more ld)))) (cases_order d e)

targets_from-length : (graph : List (List ℕ)) (first count : ℕ) → length (targets_from graph first count) ≡ count
targets_from-length graph first zero = refl
targets_from-length graph first (suc count) = omega (arith, targets_from-length graph (suc first) count)

targets_from-at : (graph : List (List ℕ)) (first count k : ℕ) → k < count
    → get_or (targets_from graph first count) k [] ≡ targets_of graph (first + k)
targets_from-at graph first zero k l = absurd (omega arith)
targets_from-at graph first (suc count) zero l = let same : first ≡ first + 0 = omega arith in
    ap (targets_of graph) same
targets_from-at graph first (suc count) (suc k) l = let same : suc first + k ≡ first + suc k = omega arith in
    targets_from-at graph (suc first) count k (omega arith) ∙ ap (targets_of graph) same

pub targets_table-length : (graph : List (List ℕ)) → length (targets_table graph) ≡ length graph
targets_table-length graph = targets_from-length graph 0 (length graph)

pub targets_table-at : (graph : List (List ℕ)) (job : ℕ) → job < length graph
    → get_or (targets_table graph) job [] ≡ targets_of graph job
targets_table-at graph job l = let same : 0 + job ≡ job = omega arith in
    targets_from-at graph 0 (length graph) job l ∙ ap (targets_of graph) same

-- a job with an edge is a job
pub low_source : (graph : List (List ℕ)) (from edge : ℕ) → IsJobGraph graph → edge < length (targets_of graph from)
    → from < length graph
low_source graph from edge is_graph l = let n = target_names graph from edge l in
    let less = (is_graph (get_or (targets_of graph from) edge 0) from n.0).0 n.1 in omega (arith, n.0)

-- the row of a table of lists
pub row_at : {R : Type 0} (f : R → List ℕ) (rows : List R) (k : ℕ) (d : R) → k < length rows
    → f (get_or rows k d) ≡ get_or (map f rows) k []
row_at f [] k d l = absurd (omega arith)
row_at f (r ∷ rs) zero d l = refl
row_at f (r ∷ rs) (suc k) d l = row_at f rs k d (omega arith)
