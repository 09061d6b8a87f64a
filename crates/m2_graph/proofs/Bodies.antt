-- The numbers of bodies, module by module.
use Rattle.std.proofs.Common.{◌≡◌, ◌<◌, ℕ, ◌+◌, cond, List, [], ◌∷◌, ◌++◌, length, take, get_or, map, sym, ap, subst, ◌∙◌, ◌≤◌, arith, append_assoc, Option, Bool, false, replicate, drop}
use Rattle.std.specs.List.{AllZip, filter_map}
use Rattle.graph_walk.specs.Links.{AreEachOnce, targets, flag}
use Rattle.m2_graph.specs.Jobs.{place_of, ArePlaces}
use Rattle.std.proofs.lemmas.List.{take_more, get_or-map, length-take-le, length-map, take_all, map-append, length-replicate}
use Rattle.std.specs.Borrow.{Bor}
use Rattle.m2_tree.specs.declared.decl.Module.{Module}
use Rattle.m2_graph.specs.Imports.{is_definition, needs_of}
use Rattle.m2_graph.specs.Order.{body_numbers, IsJob, IsJobBy, needs}
use Rattle.graph_walk.specs.Marks.{AreUnmarked}
use Rattle.graph_walk.proofs.Marking.{flag_fresh}
use Rattle.graph_walk.proofs.Reaching.{written_back}
use Rattle.m2_graph.proofs.Places.{job_by_places}

bodies_push : (n : ℕ) (xs : List Module) (x : Module) (k : ℕ) → n + length xs ≡ k
    → body_numbers n (xs ++ x ∷ []) ≡ body_numbers n xs ++ body_numbers k (x ∷ [])
bodies_push n [] x k e = ap (λ j. body_numbers j (x ∷ [])) (let s : n ≡ k = omega arith in s)
bodies_push n (y ∷ ys) x k e = ap (λ zs. cond (is_definition y) [] (n ∷ []) ++ zs)
    (bodies_push (n + 1) ys x k (omega arith))
    ∙ sym (append_assoc (cond (is_definition y) [] (n ∷ [])) (body_numbers (n + 1) ys) (body_numbers k (x ∷ [])))

pub bodies_more : (xs : List (Bor Module)) (i : ℕ) (b : Bor Module) (before out out' : List ℕ) → i < length xs
    → b ≡ get_or xs i b → out ≡ before ++ body_numbers 0 (take i (map (λ (m : Bor Module). m.now) xs))
    → out' ≡ out ++ body_numbers i (b.now ∷ [])
    → out' ≡ before ++ body_numbers 0 (take (i + 1) (map (λ (m : Bor Module). m.now) xs))
bodies_more xs i b before out out' l e is is' =
    let ms = map (λ (m : Bor Module). m.now) xs in
    let inside : i < length ms = rw length-map l in
    let here : get_or ms i b.now ≡ b.now = get_or-map (λ (m : Bor Module). m.now) xs i b b.now l
    ∙ ap (λ (m : Bor Module). m.now) (sym e) in
    let much : 0 + length (take i ms) ≡ i = omega (arith, length-take-le i ms (omega arith)) in
    is' ∙ ap (λ ys. ys ++ body_numbers i (b.now ∷ [])) is
    ∙ append_assoc before (body_numbers 0 (take i ms)) (body_numbers i (b.now ∷ []))
    ∙ ap (λ ys. before ++ ys) (sym (bodies_push 0 (take i ms) b.now i much)
    ∙ ap (body_numbers 0) (ap (λ y. take i ms ++ y ∷ []) (sym here) ∙ sym (take_more ms i b.now inside)))

pub needs_at : (xs : List (Bor Module)) (node : ℕ) (b : Bor Module) → node < length xs → b ≡ get_or xs node b
    → targets (needs (map (λ (m : Bor Module). m.now) xs)) node ≡ needs_of (map (λ (m : Bor Module). m.now) xs) b.now
needs_at xs node b l e =
    let ms = map (λ (m : Bor Module). m.now) xs in
    let inside : node < length ms = rw length-map l in
    get_or-map (needs_of ms) ms node b.now [] inside
    ∙ ap (needs_of ms) (get_or-map (λ (m : Bor Module). m.now) xs node b b.now l
    ∙ ap (λ (m : Bor Module). m.now) (sym e))

pub is_job : (xs : List (Bor Module)) (places : List (Option ℕ)) (node : ℕ) (b : Bor Module)
    (found borrowed job : List ℕ) → node < length xs → b ≡ get_or xs node b
    → found ≡ needs_of (map (λ (m : Bor Module). m.now) xs) b.now → borrowed ≡ found
    → AreEachOnce job (filter_map (place_of places) borrowed)
    → IsJobBy (map (λ (m : Bor Module). m.now) xs) places node job
is_job xs places node b found borrowed job l e e1 e2 h =
    subst (λ (ns : List ℕ). AreEachOnce job (filter_map (place_of places) ns)) (e2 ∙ e1 ∙ sym (needs_at xs node b l e))
    h

zip_push : {Y : Type 0} (R : ℕ → Y → Type 0) (xs : List ℕ) (ys : List Y) (x : ℕ) (y : Y) → AllZip R xs ys → R x y
    → AllZip R (xs ++ x ∷ []) (ys ++ y ∷ [])
zip_push R [] [] x y h r = (r, tt)
zip_push R [] (b ∷ bs) x y h r = absurd h
zip_push R (a ∷ more) [] x y h r = absurd h
zip_push R (a ∷ more) (b ∷ bs) x y h r = (h.0, zip_push R more bs x y h.1 r)

pub zip_more : {Y : Type 0} (R : ℕ → Y → Type 0) (xs : List ℕ) (ys ys' : List Y) (i : ℕ) (y : Y) → i < length xs
    → AllZip R (take i xs) ys → R (get_or xs i 0) y → ys' ≡ ys ++ y ∷ [] → AllZip R (take (i + 1) xs) ys'
zip_more {Y = Y} R xs ys ys' i y l h r e =
    subst (λ (zs : List Y). AllZip {A = ℕ} {B = Y} R (take (i + 1) xs) zs) (sym e)
    (subst (λ (zs : List ℕ). AllZip {A = ℕ} {B = Y} R zs (ys ++ y ∷ [])) (sym (take_more xs i 0 l))
    (zip_push R (take i xs) ys (get_or xs i 0) y h r))

pub zip_whole : {Y : Type 0} (R : ℕ → Y → Type 0) (xs : List ℕ) (ys : List Y) (i : ℕ) → length xs ≤ i
    → AllZip R (take i xs) ys → AllZip R xs ys
zip_whole {Y = Y} R xs ys i g h = subst (λ (zs : List ℕ). AllZip {A = ℕ} {B = Y} R zs ys) (take_all i xs g) h

pub zip_items : {J : Type 0} (f : J → List ℕ) (R : ℕ → List ℕ → Type 0) (xs : List ℕ) (js js' : List J) (i : ℕ) (j : J)
    → i < length xs → AllZip R (take i xs) (map f js) → R (get_or xs i 0) (f j) → js' ≡ js ++ j ∷ []
    → AllZip R (take (i + 1) xs) (map f js')
zip_items f R xs js js' i j l h r e = zip_more R xs (map f js) (map f js') i (f j) l h r
    (ap (map f) e ∙ map-append f js (j ∷ []))

-- the jobs so far, and no number that is marked
abbrev pub SoFar : List Module → (order : List ℕ) → ℕ → List (List ℕ) → List Bool → Type 0
SoFar ms order i jobs flags = AllZip (IsJob ms order) (take i order) jobs × (length flags ≡ length order)
    × AreUnmarked flags

pub so_far_none : {J : Type 0} (f : J → List ℕ) (ms : List Module) (order : List ℕ) (n : ℕ) (flags : List Bool)
    (js : List J) → js ≡ [] → flags ≡ replicate n false → n ≡ length order → SoFar ms order 0 (map f js) flags
so_far_none f ms order n flags js e0 e1 e2 = (
  subst (λ js. AllZip (IsJob ms order) (take 0 order) (map f js)) (sym e0) (nothing order),
  ap length e1
      ∙ length-replicate n false ∙ e2,
  (λ k. ap (λ (fs : List Bool). flag fs k) e1 ∙ flag_fresh n k),
)
  where
    nothing : (xs : List ℕ) → AllZip (IsJob ms order) (take 0 xs) []
    nothing [] = tt
    nothing (x ∷ xs) = tt

pub so_far_more : {J : Type 0} (f : J → List ℕ) (ms : List Module) (order : List ℕ) (places borrowed : List (Option ℕ))
    (i len : ℕ) (flags now flags' : List Bool) (js js' : List J) (j : J) → ArePlaces order places → borrowed ≡ places
    → i < length order → now ≡ flags → length flags ≡ len → SoFar ms order i (map f js) flags
    → IsJobBy ms borrowed (get_or order i 0) (f j) → length flags' ≡ length now → AreUnmarked flags'
    → js' ≡ js ++ j ∷ [] →
    SoFar ms order (i + 1) (map f js') (take len (flags' ++ drop (length flags') flags))
so_far_more f ms order places borrowed i len flags now flags' js js' j h e l e1 e2 s job same u e3 =
    let many : length flags' ≡ len = same ∙ ap length e1 ∙ e2 in
    let w : take len (flags' ++ drop (length flags') flags) ≡ flags' = written_back flags flags' len many e2 in (
      zip_items f (IsJob ms order) order js js' i j l s.0
          (job_by_places order places (targets (needs ms) (get_or order i 0)) (f j) h
          (subst (λ (ps : List (Option ℕ)). IsJobBy ms ps (get_or order i 0) (f j)) e job)) e3,
      ap length w ∙ same ∙ ap length e1 ∙ s.1,
      (λ k. ap (λ (fs : List Bool). flag fs k) w ∙ u k),
    )
