-- The jobs of files of which nothing is reported compile each of them once.
use Rattle.std.proofs.Common.{◌≡◌, ◌<◌, ◌≤◌, ℕ, zero, suc, ◌+◌, Bool, true, false, not, cond, ◌&&◌, ◌==◌, nat_lt, List, [], ◌∷◌, ◌++◌, length, get_or, map, refl, sym, ap, subst, ◌∙◌, inl, inr, arith, append_assoc, Option, Some, None, eq-eqb}
use Rattle.std.specs.List.Sorted.{IsPermutation}
use Rattle.std.proofs.lemmas.Bool.{cases_eq, cases_lt, false≢true, eqb-true, ne_eqb, lt-ltb, le-ltb}
use Rattle.std.proofs.lemmas.List.{get_or-map, get_or_past, length-map, length_push}
use Rattle.std.proofs.lemmas.List.Sorted.{IsPermutation-refl, IsPermutation-sym, IsPermutation-cons, IsPermutation-middle, IsPermutation-trans, IsPermutation-map}
use Rattle.m2_rule.specs.declared.rule.Rule.TheVariants as rule
use Rattle.m2_tree.specs.declared.decl.Module.{Module}
use Rattle.m2_tree.specs.declared.pos.Pos.{Pos}
use Rattle.graph_walk.specs.Links.{has, times, flag, targets, Leads}
use Rattle.graph_walk.specs.Cycles.{HasCycleOrder}
use Rattle.graph_walk.specs.Numbering.{IsNumbering}
use Rattle.graph_walk.proofs.Marking.{times-append, marked_within}
use Rattle.graph_walk.proofs.Chains.{times_has, has_times, leads_from}
use Rattle.graph_walk.proofs.Complete.{split_has, all_numbered, numbered_once}
use Rattle.m2_graph.specs.Files.{File, AreInOrder, trees, given_of}
use Rattle.m2_graph.specs.Imports.{is_definition, imports_of, links_of, links}
use Rattle.m2_graph.specs.Graph.{IsJobs, CompileEach}
use Rattle.m2_graph.specs.Order.{body_numbers}
use Rattle.m2_graph.specs.Refused.{breach_where, breaches_of, least_of}
use Rattle.m2_rule.specs.Breaches.{breach}
use Rattle.m2_tree.specs.declared.refusal.Refusal.{Refusal}
use Rattle.m2_graph.specs.Reported.{Reported, report_of, reported_at, cycle_breaches, AreCycles, refused_from, refused_of, IsReported}
use Rattle.m2_graph.proofs.Importing.{links_are_nodes}
use Rattle.m2_graph.proofs.Deciding.{never_none, nothing_reported}
use Rattle.m2_graph.proofs.Smaller.{linked, at_least, numbered_definition}
use Rattle.m2_graph.proofs.Tables.{lt_suc}

-- ---- where nothing is reported there is no cycle

rest_none : (xs ys : List Reported) → xs ++ ys ≡ [] → ys ≡ []
rest_none [] ys e = e
rest_none (x ∷ xs) ys e = cc

refused_somewhere : (ms : List Module) (t : ℕ × Pos) (before : List Module) (fs : List File)
    → refused_from ms (Some t) before fs ≡ [] → length before ≤ t.0 → t.0 < length before + length fs → ⊥
refused_somewhere ms t before [] e low high = omega arith
refused_somewhere ms t before (f ∷ fs) e low high = elim (cases_eq t.0 (length before)) [
  | inl s ↦ never_none (breaches_of ms before f.given f.tree) (breach t.1 rule.Cycle) []
      (ap (λ b. least_of (breaches_of ms before f.given f.tree ++ breach_where b t.1 rule.Cycle))
      (sym (eq-eqb t.0 (length before) s)) ∙ nothing_reported f.name
      (least_of (breaches_of ms before f.given f.tree ++ cycle_breaches (Some t) (length before)))
      (refused_from ms (Some t) (before ++ f.tree ∷ []) fs) e)
  | inr ne ↦ (let more = length_push before f.tree in
      refused_somewhere ms t (before ++ f.tree ∷ []) fs
      (rest_none (reported_at f.name (least_of
      (breaches_of ms before f.given f.tree ++ cycle_breaches (Some t) (length before))))
      (refused_from ms (Some t) (before ++ f.tree ∷ []) fs) e) (beyond ne more) (omega (arith, more)))
]
  where
    beyond : (t.0 ≡ length before → ⊥) → length (before ++ f.tree ∷ []) ≡ length before + 1
        → length (before ++ f.tree ∷ []) ≤ t.0
    beyond ne more = elim (cases_lt (length before) t.0) [ inl l ↦ omega arith | inr g ↦ absurd (ne (omega arith)) ]

many_links : (ms : List Module) → length (links ms) ≡ length ms
many_links ms = length-map ms (links_of ms)

cycle_refused : (fs : List File) (t : ℕ × Pos) → t.0 < length fs → refused_of fs (Some t) ≡ [] → ⊥
cycle_refused [] t l e = omega arith
cycle_refused (f ∷ fs) t l e = refused_somewhere (trees (f ∷ fs)) t [] (f ∷ fs) e (omega arith) (omega arith)

no_cycles : (fs : List File) → IsReported fs [] → (k : ℕ) → Leads (links (trees fs)) k k → ⊥
no_cycles fs h k l = step h.0 h.1 h.2
  where
    step : (c : Option (ℕ × Pos)) → AreCycles (trees fs) c → [] ≡ refused_of fs c → ⊥
    step None none e = none k l
    step (Some t) cycle e = cycle_refused fs t
        (let w = leads_from (links (trees fs)) t.0 t.0 cycle.on_cycle in let m = many_links (trees fs) in
        let n = length-map fs (λ (f : File). f.tree) in omega (arith, w, m, n)) (sym e)

-- ---- each module has one place in the order of the jobs

to_definitions : (ms : List Module) (node t : ℕ) → has (targets (links ms) node) t ≡ true
    → flag (map is_definition ms) t ≡ true
to_definitions [] node t h = absurd (false≢true h)
to_definitions (m ∷ ms) node t h = elim (cases_lt node (length (m ∷ ms))) [
  | inl l ↦ linked (m ∷ ms) (imports_of (get_or (m ∷ ms) node m)) t
      (ap (λ (ts : List ℕ). has ts t) (sym (get_or-map (links_of (m ∷ ms)) (m ∷ ms) node m [] l)) ∙ h)
  | inr g ↦ absurd (false≢true (ap (λ (ts : List ℕ). has ts t)
      (sym (get_or_past (links (m ∷ ms)) node [] (omega (arith, g, many_links (m ∷ ms))))) ∙ h))
]

numbered_times : (ms : List Module) (numbered : List ℕ) → HasCycleOrder (links ms)
    → ((k : ℕ) → Leads (links ms) k k → ⊥) → IsNumbering (links ms) (map is_definition ms) numbered → (k : ℕ)
    → times numbered k ≡ cond (flag (map is_definition ms) k) 1 0
numbered_times ms numbered o none n k = step (flag (map is_definition ms) k) refl
  where
    is_so : flag (map is_definition ms) k ≡ true → 1 ≤ times numbered k
    is_so d = times_has numbered k (all_numbered (links ms) (map is_definition ms) numbered o (links_are_nodes ms) none
        (to_definitions ms) n k (let w = marked_within (map is_definition ms) k d in
        let m = length-map ms is_definition in let q = many_links ms in omega (arith, w, m, q)) d)

    not_so : flag (map is_definition ms) k ≡ false → times numbered k ≡ 0
    not_so d = elim (cases_lt 0 (times numbered k)) [
      | inl l ↦ absurd (false≢true (sym d ∙ numbered_definition (links ms) (map is_definition ms) numbered k n
          (has_times numbered k (omega arith))))
      | inr g ↦ omega arith
    ]

    step : (b : Bool) → flag (map is_definition ms) k ≡ b → times numbered k ≡ cond b 1 0
    step true d = let l = is_so d in let u = numbered_once (links ms) (map is_definition ms) numbered n k in
        omega (arith, l, u)
    step false d = not_so d

no_times : (xs : List ℕ) (k : ℕ) → (has xs k ≡ true → ⊥) → times xs k ≡ 0
no_times xs k h = elim (cases_lt 0 (times xs k))
    [ inl l ↦ absurd (h (has_times xs k (omega arith))) | inr g ↦ omega arith ]

one_body : (b : Bool) (n j : ℕ) → times (cond b [] (n ∷ [])) j ≡ cond (not b && (n == j)) 1 0
one_body true n j = refl
one_body false n j = omega arith

body_times : (n : ℕ) (ms : List Module) (k j : ℕ) → j ≡ n + k
    → times (body_numbers n ms) j ≡ cond (nat_lt k (length ms) && not (flag (map is_definition ms) k)) 1 0
body_times n [] k j e = ap (λ b. cond (b && true) 1 0) (sym (le-ltb k 0 (omega arith)))
body_times n (m ∷ ms) zero j e =
    let a = times-append (cond (is_definition m) [] (n ∷ [])) (body_numbers (n + 1) ms) j in
    let b = one_body (is_definition m) n j in
    let c = no_times (body_numbers (n + 1) ms) j (λ h. let g = at_least (n + 1) ms j h in omega (arith, g.0)) in
    sums (times (cond (is_definition m) [] (n ∷ []) ++ body_numbers (n + 1) ms) j)
    (times (cond (is_definition m) [] (n ∷ [])) j) (times (body_numbers (n + 1) ms) j) (is_definition m) (n == j)
    (nat_lt 0 (length (m ∷ ms))) a b c (eq-eqb n j (omega arith)) (lt-ltb 0 (length (m ∷ ms)) (omega arith))
  where
    sums : (t x y : ℕ) (d s l : Bool) → t ≡ x + y → x ≡ cond (not d && s) 1 0 → y ≡ 0 → s ≡ true → l ≡ true
        → t ≡ cond (l && not d) 1 0
    sums t x y true true true e1 e2 e3 e4 e5 = omega arith
    sums t x y false true true e1 e2 e3 e4 e5 = omega arith
    sums t x y d false l e1 e2 e3 e4 e5 = absurd (false≢true e4)
    sums t x y d true false e1 e2 e3 e4 e5 = absurd (false≢true e5)
body_times n (m ∷ ms) (suc k) j e =
    let a = times-append (cond (is_definition m) [] (n ∷ [])) (body_numbers (n + 1) ms) j in
    let b = one_body (is_definition m) n j in
    let c = body_times (n + 1) ms k j (omega arith) in
    sums (times (cond (is_definition m) [] (n ∷ []) ++ body_numbers (n + 1) ms) j)
    (times (cond (is_definition m) [] (n ∷ [])) j) (times (body_numbers (n + 1) ms) j)
    (cond (nat_lt k (length ms) && not (flag (map is_definition ms) k)) 1 0) (is_definition m) (n == j) a b
    (ne_eqb n j (λ q. omega (arith, q))) c
    ∙ ap (λ b. cond (b && not (flag (map is_definition ms) k)) 1 0) (lt_suc k (length ms))
  where
    sums : (t x y z : ℕ) (d s : Bool) → t ≡ x + y → x ≡ cond (not d && s) 1 0 → s ≡ false → y ≡ z → t ≡ z
    sums t x y z true false e1 e2 e3 e4 = omega arith
    sums t x y z false false e1 e2 e3 e4 = omega arith
    sums t x y z d true e1 e2 e3 e4 = absurd (false≢true (sym e3))

-- ---- all numbers below another

abbrev upto : ℕ → ℕ → List ℕ
upto n zero = []
upto n (suc m) = n ∷ upto (n + 1) m

upto_before : (n m j : ℕ) → j < n → times (upto n m) j ≡ 0
upto_before n zero j l = refl
upto_before n (suc m) j l = let h = upto_before (n + 1) m j (omega arith) in
    let q : cond {A = ℕ} (n == j) 1 0 ≡ 0 = ap (λ b. cond b 1 0) (ne_eqb n j (λ e. omega (arith, e))) in
    omega (arith, h, q)

upto_times : (n m k j : ℕ) → j ≡ n + k → times (upto n m) j ≡ cond (nat_lt k m) 1 0
upto_times n zero k j e = ap (λ b. cond b 1 0) (sym (le-ltb k 0 (omega arith)))
upto_times n (suc m) zero j e =
    let h = upto_before (n + 1) m j (omega arith) in
    let q : cond {A = ℕ} (n == j) 1 0 ≡ 1 = ap (λ b. cond b 1 0) (eq-eqb n j (omega arith)) in
    let r : cond {A = ℕ} (nat_lt 0 (suc m)) 1 0 ≡ 1 = ap (λ b. cond b 1 0) (lt-ltb 0 (suc m) (omega arith)) in
    omega (arith, h, q, r)
upto_times n (suc m) (suc k) j e =
    let h = upto_times (n + 1) m k j (omega arith) in
    let q : cond {A = ℕ} (n == j) 1 0 ≡ 0 = ap (λ b. cond b 1 0) (ne_eqb n j (λ s. omega (arith, s))) in
    let r : cond {A = ℕ} (nat_lt k m) 1 0 ≡ cond (nat_lt (suc k) (suc m)) 1 0 = ap (λ b. cond b 1 0) (lt_suc k m) in
    omega (arith, h, q, r)

-- ---- lists with the same numbers

same_numbers : (xs ys : List ℕ) → ((k : ℕ) → times xs k ≡ times ys k) → IsPermutation xs ys
same_numbers [] [] h = IsPermutation-refl []
same_numbers [] (y ∷ ys) h = absurd (let e = h y in
    let q : cond {A = ℕ} (y == y) 1 0 ≡ 1 = ap (λ b. cond b 1 0) (eq-eqb y y refl) in omega (arith, e, q))
same_numbers (x ∷ xs) ys h =
    let one : cond {A = ℕ} (x == x) 1 0 ≡ 1 = ap (λ b. cond b 1 0) (eq-eqb x x refl) in
    let there = split_has ys x (has_times ys x (let e = h x in omega (arith, e, one))) in
    let rest : IsPermutation xs (there.0 ++ there.1) =
    same_numbers xs (there.0 ++ there.1) (λ k. let e = h k in
    let s : times ys k ≡ times there.0 k + (cond {A = ℕ} (x == k) 1 0 + times there.1 k) =
    ap (λ (zs : List ℕ). times zs k) there.2 ∙ times-append there.0 (x ∷ there.1) k in
    let t = times-append there.0 there.1 k in omega (arith, e, s, t)) in
    subst (λ (zs : List ℕ). IsPermutation (x ∷ xs) zs) (sym there.2)
    (IsPermutation-trans (x ∷ xs) (x ∷ (there.0 ++ there.1)) (there.0 ++ x ∷ there.1)
    (IsPermutation-cons x xs (there.0 ++ there.1) rest)
    (IsPermutation-sym (there.0 ++ x ∷ there.1) (x ∷ (there.0 ++ there.1))
    (IsPermutation-middle there.0 x there.1)))

order_times : (ms : List Module) (numbered order : List ℕ) → HasCycleOrder (links ms)
    → ((k : ℕ) → Leads (links ms) k k → ⊥) → IsNumbering (links ms) (map is_definition ms) numbered
    → order ≡ numbered ++ body_numbers 0 ms → (k : ℕ) → times (upto 0 (length ms)) k ≡ times order k
order_times ms numbered order o none n e k =
    let a : times order k ≡ times numbered k + times (body_numbers 0 ms) k = ap (λ (xs : List ℕ). times xs k) e
    ∙ times-append numbered (body_numbers 0 ms) k in
    sums (times (upto 0 (length ms)) k) (times order k) (times numbered k) (times (body_numbers 0 ms) k)
    (nat_lt k (length ms)) (flag (map is_definition ms) k) (upto_times 0 (length ms) k k (omega arith)) a
    (numbered_times ms numbered o none n k) (body_times 0 ms k k (omega arith))
    (λ d. lt-ltb k (length ms) (let w = marked_within (map is_definition ms) k d in
    let m = length-map ms is_definition in omega (arith, w, m)))
  where
    sums : (u t x y : ℕ) (l d : Bool) → u ≡ cond l 1 0 → t ≡ x + y → x ≡ cond d 1 0 → y ≡ cond (l && not d) 1 0
        → (d ≡ true → l ≡ true) → u ≡ t
    sums u t x y true true e1 e2 e3 e4 h = omega arith
    sums u t x y true false e1 e2 e3 e4 h = omega arith
    sums u t x y false true e1 e2 e3 e4 h = absurd (false≢true (h refl))
    sums u t x y false false e1 e2 e3 e4 h = omega arith

-- ---- the files

all_indexed : (before xs : List ℕ) (n : ℕ) → n ≡ length before
    → map (λ i. get_or (before ++ xs) i 0) (upto n (length xs)) ≡ xs
all_indexed before [] n e = refl
all_indexed before (x ∷ xs) n e =
    let more : before ++ x ∷ xs ≡ (before ++ x ∷ []) ++ xs = sym (append_assoc before (x ∷ []) xs) in
    let tail : map (λ i. get_or (before ++ x ∷ xs) i 0) (upto (n + 1) (length xs)) ≡ xs =
    ap (λ (ys : List ℕ). map (λ i. get_or ys i 0) (upto (n + 1) (length xs))) more
    ∙ all_indexed (before ++ x ∷ []) xs (n + 1) (ap (λ m. m + 1) e ∙ sym (length_push before x)) in
    ap (λ k. k ∷ map (λ i. get_or (before ++ x ∷ xs) i 0) (upto (n + 1) (length xs))) (here before n e)
    ∙ ap (λ ys. x ∷ ys) tail
  where
    here : (ys : List ℕ) (m : ℕ) → m ≡ length ys → get_or (ys ++ x ∷ xs) m 0 ≡ x
    here [] zero q = refl
    here [] (suc m) q = absurd (omega arith)
    here (y ∷ ys) zero q = absurd (omega arith)
    here (y ∷ ys) (suc m) q = here ys m (omega arith)

pub compiles_each : (fs : List File) (compiled : List ℕ) (jobs : List (List ℕ)) → IsReported fs []
    → HasCycleOrder (links (trees fs)) → IsJobs fs compiled jobs → CompileEach fs compiled
compiles_each fs compiled jobs fine o j =
    let ms = trees fs in
    let givens = map (λ (f : File). f.given) fs in
    let each : IsPermutation (upto 0 (length ms)) j.order =
    same_numbers (upto 0 (length ms)) j.order
    (order_times ms j.is_order.0 j.order o (no_cycles fs fine) j.is_order.1 j.is_order.2) in
    let many : length ms ≡ length givens = length-map fs (λ (f : File). f.tree)
    ∙ sym (length-map fs (λ (f : File). f.given)) in
    let all : map (given_of fs) (upto 0 (length ms)) ≡ givens = ap (λ n. map (given_of fs) (upto 0 n)) many
    ∙ all_indexed [] givens 0 refl in
    subst (λ (xs : List ℕ). IsPermutation givens xs) (sym j.compiled)
    (subst (λ (xs : List ℕ). IsPermutation xs (map (given_of fs) j.order)) all
    (IsPermutation-map (given_of fs) (upto 0 (length ms)) j.order each))

-- the same of files as they are given
pub compiles_given : (given ordered borrowed : List File) (compiled : List ℕ) → AreInOrder given ordered
    → borrowed ≡ ordered → CompileEach borrowed compiled → CompileEach given compiled
compiles_given given ordered borrowed compiled o e h =
    IsPermutation-trans (map (λ (f : File). f.given) given) (map (λ (f : File). f.given) ordered) compiled
    (IsPermutation-map (λ (f : File). f.given) given ordered o.same)
    (subst (λ (fs : List File). CompileEach fs compiled) e h)

pub compiles_reported : (ms : List Module) (fs : List File) (refusals : List Refusal) (compiled : List ℕ)
    (jobs : List (List ℕ)) → ms ≡ trees fs → IsReported fs (map report_of refusals) → refusals ≡ []
    → HasCycleOrder (links ms) → IsJobs fs compiled jobs → CompileEach fs compiled
compiles_reported ms fs refusals compiled jobs e reported_so none o j =
    compiles_each fs compiled jobs (subst (λ (rs : List Refusal). IsReported fs (map report_of rs)) none reported_so)
    (subst (λ (xs : List Module). HasCycleOrder (links xs)) e o) j

pub no_items : {X : Type 0} (xs : List X) (n : ℕ) → length xs ≡ n → true ≡ (n == 0) → xs ≡ []
no_items [] n e z = refl
no_items (x ∷ xs) n e z = absurd (let q : n ≡ 0 = eqb-true n 0 (sym z) in omega arith)
