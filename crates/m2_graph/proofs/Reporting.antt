-- What is reported of files, one after another.
use Rattle.std.proofs.Common.{◌≡◌, ◌<◌, ◌≤◌, ℕ, ◌+◌, List, [], ◌∷◌, ◌++◌, length, take, get_or, map, refl, sym, ap, subst, ◌∙◌, arith, append_assoc, Option}
use Rattle.std.proofs.lemmas.List.{append-nil, take_more, length-take-le, length-map, map-append, take_all, length_push, take-map}
use Rattle.m2_tree.specs.declared.decl.Module.{Module}
use Rattle.m2_tree.specs.declared.pos.Pos.{Pos}
use Rattle.m2_tree.specs.declared.refusal.Refusal.{Refusal}
use Rattle.m2_rule.specs.declared.breach.Breach.{Breach}
use Rattle.m2_graph.specs.declared.sources.Source.{Source}
use Rattle.m2_graph.specs.Refused.{breaches_of, least_of}
use Rattle.m2_graph.specs.Files.{File, trees}
use Rattle.m2_graph.specs.Sources.{file_of}
use Rattle.m2_graph.specs.Reported.{Reported, cycle_breaches, report_of, reported_at, refused_from, refused_of}

abbrev here : List Module → Option (ℕ × Pos) → List Module → ℕ → File → List Reported
here ms cycle before k f = reported_at f.name
    (least_of (breaches_of ms before f.given f.tree ++ cycle_breaches cycle k))

refused_push : (ms : List Module) (cycle : Option (ℕ × Pos)) (before : List Module) (fs : List File) (f : File) (k : ℕ)
    → length before + length fs ≡ k → refused_from ms cycle before (fs ++ f ∷ []) ≡ refused_from ms cycle before fs
    ++ here ms cycle (before ++ trees fs) k f
refused_push ms cycle before [] f k e = append-nil (here ms cycle before (length before) f)
    ∙ ap (λ (b : List Module). here ms cycle b (length before) f) (sym (append-nil before))
    ∙ ap (λ (n : ℕ). here ms cycle (before ++ []) n f) (let s : length before ≡ k = omega arith in s)
refused_push ms cycle before (g ∷ gs) f k e =
    let first = here ms cycle before (length before) g in
    let much : length (before ++ g.tree ∷ []) + length gs ≡ k = omega (arith, length_push before g.tree) in
    ap (λ (ts : List Reported). first ++ ts) (refused_push ms cycle (before ++ g.tree ∷ []) gs f k much
    ∙ ap (λ (b : List Module). refused_from ms cycle (before ++ g.tree ∷ []) gs ++ here ms cycle b k f)
    (append_assoc before (g.tree ∷ []) (trees gs)))
    ∙ sym (append_assoc first (refused_from ms cycle (before ++ g.tree ∷ []) gs)
    (here ms cycle (before ++ trees (g ∷ gs)) k f))

trees_take : (fs : List File) (i : ℕ) → trees (take i fs) ≡ take i (trees fs)
trees_take fs i = sym (take-map (λ (f : File). f.tree) i fs)

files_take : (xs : List Source) (i : ℕ) → map file_of (take i xs) ≡ take i (map file_of xs)
files_take xs i = sym (take-map file_of i xs)

pub refused_more : (cycle : Option (ℕ × Pos)) (xs : List Source) (i : ℕ) (d : Source) (breach : Option Breach)
    (all all' : List Refusal) → i < length xs →
    map report_of all ≡ refused_from (trees (map file_of xs)) cycle [] (map file_of (take i xs)) →
    breach ≡ least_of (breaches_of (trees (map file_of xs)) (take i (trees (map file_of xs))) (get_or xs i d).given
    (get_or xs i d).tree.now ++ cycle_breaches cycle i) →
    map report_of all' ≡ map report_of all ++ reported_at (get_or xs i d).name.now breach →
    map report_of all' ≡ refused_from (trees (map file_of xs)) cycle [] (map file_of (take (i + 1) xs))
refused_more cycle xs i d breach all all' l is found more =
    let ms = trees (map file_of xs) in
    let f = file_of (get_or xs i d) in
    let much : 0 + length (map file_of (take i xs)) ≡ i =
    rw length-map (omega (arith, length-take-le i xs (omega arith))) in
    let before : trees (map file_of (take i xs)) ≡ take i ms = ap trees (files_take xs i)
    ∙ trees_take (map file_of xs) i in
    more ∙ ap (λ (ts : List Reported). ts ++ reported_at f.name breach) is
    ∙ ap (λ (o : Option Breach). refused_from ms cycle [] (map file_of (take i xs)) ++ reported_at f.name o) found
    ∙ ap (λ (b : List Module). refused_from ms cycle [] (map file_of (take i xs)) ++ here ms cycle b i f) (sym before)
    ∙ sym (refused_push ms cycle [] (map file_of (take i xs)) f i much)
    ∙ ap (refused_from ms cycle []) (sym (map-append file_of (take i xs) (get_or xs i d ∷ []))
    ∙ ap (map file_of) (sym (take_more xs i d l)))

pub breach_within : (ms : List Module) (xs : List Source) (i : ℕ) → ms ≡ trees (map file_of xs) → i < length xs
    → i < length ms
breach_within ms xs i e l = omega (
  arith,
  ap length e,
  length-map (map file_of xs) (λ (f : File). f.tree),
  length-map xs
      file_of,
)

pub same_breach : (ms ns : List Module) (cycle : Option (ℕ × Pos)) (i given : ℕ) (tree : Module)
    (breach : Option Breach) → ms ≡ ns → breach
    ≡ least_of (breaches_of ms (take i ms) given tree ++ cycle_breaches cycle i)
    → breach ≡ least_of (breaches_of ns (take i ns) given tree ++ cycle_breaches cycle i)
same_breach ms ns cycle i given tree breach e h =
    subst (λ (xs : List Module). breach ≡ least_of (breaches_of xs (take i xs) given tree ++ cycle_breaches cycle i)) e
    h

pub refused_all : (cycle : Option (ℕ × Pos)) (xs : List Source) (i : ℕ) (all : List Refusal) → length xs ≤ i
    → map report_of all ≡ refused_from (trees (map file_of xs)) cycle [] (map file_of (take i xs))
    → map report_of all ≡ refused_from (trees (map file_of xs)) cycle [] (map file_of xs)
refused_all cycle xs i all g is = is ∙ ap
    (λ (ys : List Source). refused_from (trees (map file_of xs)) cycle [] (map file_of ys)) (take_all i xs g)

pub refused_some : (cycle : Option (ℕ × Pos)) (xs : List Source) (all : List Reported) → (xs ≡ [] → ⊥)
    → all ≡ refused_from (trees (map file_of xs)) cycle [] (map file_of xs) → all ≡ refused_of (map file_of xs) cycle
refused_some cycle [] all n is = absurd (n refl)
refused_some cycle (x ∷ xs) all n is = is

pub refused_next : (ms : List Module) (cycle : Option (ℕ × Pos)) (xs : List Source) (i : ℕ) (x : Source)
    (breach : Option Breach) (all all' : List Refusal) → ms ≡ trees (map file_of xs) → i < length xs → x ≡ get_or xs i x
    →
    map report_of all ≡ refused_from (trees (map file_of xs)) cycle [] (map file_of (take i xs)) →
    breach ≡ least_of (breaches_of ms (take i ms) x.given x.tree.now ++ cycle_breaches cycle i) →
    map report_of all' ≡ map report_of all ++ reported_at x.name.now breach →
    map report_of all' ≡ refused_from (trees (map file_of xs)) cycle [] (map file_of (take (i + 1) xs))
refused_next ms cycle xs i x breach all all' e0 l e is found more =
    let ns = trees (map file_of xs) in
    refused_more cycle xs i x breach all all' l is
    (subst (λ (y : Source). breach ≡ least_of (breaches_of ns (take i ns) y.given y.tree.now ++ cycle_breaches cycle i))
    e (same_breach ms ns cycle i x.given x.tree.now breach e0 found))
    (subst (λ (y : Source). map report_of all' ≡ map report_of all ++ reported_at y.name.now breach) e more)
