-- Where no module breaks a rule, none is blocked.
use Rattle.std.proofs.Common.{◌≡◌, ◌≢◌, ℕ, zero, suc, ◌+◌, ◌<◌, Bool, true, cond, List, [], ◌∷◌, ◌++◌, length, Option, Some, None, Result, Ok, Err, refl, sym, ap, subst, ◌∙◌, arith, inl, inr}
use Rattle.std.specs.Prelude.{slice_get, slice_index_or}
use Rattle.std.specs.Option.{option_and_then}
use Rattle.std.specs.List.{list_all}
use Rattle.std.proofs.lemmas.Bool.{cases_lt}
use Rattle.std.proofs.lemmas.Option.{same_Some, none-some, slice_get_within, get_or_from_slice_get}
use Rattle.m2_tree.specs.declared.pos.Pos.{Pos}
use Rattle.m2_tree.specs.declared.decl.Contents.{Contents}
use Rattle.m2_tree.specs.declared.decl.Contents.TheVariants as contents
use Rattle.m2_tree.specs.declared.decl.Module.{Module}
use Rattle.pool_board.specs.Graph.{prerequisites_of}
use Rattle.pool_board.specs.Results.{results_below, items_at, with_item}
use Rattle.pool_board.proofs.Resulting.{results-length}
use Rattle.m2_graph.specs.Files.{number_files}
use Rattle.m2_graph.specs.Graph.{CompileEach}
use Rattle.typed_tree.specs.declared.table.Table.{Table}
use Rattle.m2_rule.specs.declared.breach.Breach.{Breach}
use Rattle.layout_storage.specs.Layouts.{too_large}
use Rattle.build_jobs.specs.declared.outcome.Compiled.{Compiled}
use Rattle.build_jobs.specs.declared.outcome.Compiled.TheVariants.{Refused, Blocked}
use Rattle.build_jobs.specs.Compiling.{is_sound, tables_of, of_definition, of_fit, of_checked, of_contents, typed_body, compilation_of}
use Rattle.check_scope.specs.Elaborated.{least}
use Rattle.check_definition.specs.Compiled as types
use Rattle.std.proofs.lemmas.List.{length-map}
use Rattle.law_graph.proofs.Lists.{some_at}
use Rattle.typed_tree.specs.declared.typed_module.TypedModule.{TypedModule}
use Rattle.build_jobs.specs.Jobs.{compile_in_place, compile_at}
use Rattle.build_results.specs.Results.{refusal_in, refused_from, refused_by, result_at}
use Rattle.build_results.specs.Texts.{modules}
use Rattle.build_results.proofs.EachOnce.{job_of}

-- ---- one module

abbrev pub IsUnrefused : Compiled → Type 0
IsUnrefused c = (f : Breach) → c ≢ Refused f

definition_sound : (r : Result Table Breach) → IsUnrefused (of_definition r) → is_sound (of_definition r) ≡ true
definition_sound (Ok t) h = refl
definition_sound (Err f) h = absurd (h f refl)

fit_sound : (t : TypedModule) (o : Option Pos) → IsUnrefused (of_fit t o) → is_sound (of_fit t o) ≡ true
fit_sound t None h = refl
fit_sound t (Some at) h = absurd (h _ refl)

checked_sound : (r : Result TypedModule Breach) → IsUnrefused (of_checked r) → is_sound (of_checked r) ≡ true
checked_sound (Ok t) h = fit_sound t (too_large t) h
checked_sound (Err f) h = absurd (h f refl)

contents_sound : (m : Module) (n : ℕ) (ts : List Table) (c : Contents) → IsUnrefused (of_contents m n ts c)
    → is_sound (of_contents m n ts c) ≡ true
contents_sound m n ts (contents.Definition ds) h = definition_sound (types.definition_table least n m ts) h
contents_sound m n ts (contents.Implementation b) h = checked_sound (typed_body m n ts) h
contents_sound m n ts (contents.Program b) h = checked_sound (typed_body m n ts) h

-- a module whose needed ones are sound is compiled by its contents
pub compiled_is : (m : Module) (n : ℕ) (needed : List Compiled) → list_all is_sound needed ≡ true
    → compilation_of m n needed ≡ of_contents m n (tables_of needed) m.contents
unfolding compilation_of
compiled_is m n needed e = ap (λ (b : Bool). cond b (of_contents m n (tables_of needed) m.contents) Blocked) e

one_sound : (o : Option Module) (n : ℕ) (needed : List Compiled) → list_all is_sound needed ≡ true → (m : Module)
    → o ≡ Some m → IsUnrefused (compile_in_place o n needed) → is_sound (compile_in_place o n needed) ≡ true
one_sound None n needed e m there h = absurd (none-some m there)
one_sound (Some x) n needed e m there h =
    let is = compiled_is x n needed e in
    ap is_sound is ∙ contents_sound x n (tables_of needed) x.contents (subst IsUnrefused is h)

-- ---- lists

get_front : {X : Type 0} (xs ys : List X) (i : ℕ) → i < length xs → slice_get (xs ++ ys) i ≡ slice_get xs i
get_front [] ys i l = absurd (omega (arith, l))
get_front (x ∷ xs) ys zero l = refl
get_front (x ∷ xs) ys (suc i) l = get_front xs ys i (omega (arith, l))

get_last : {X : Type 0} (xs : List X) (x : X) (i : ℕ) → i ≡ length xs → slice_get (xs ++ x ∷ []) i ≡ Some x
get_last [] x zero e = refl
get_last [] x (suc i) e = absurd (omega (arith, e))
get_last (y ∷ ys) x zero e = absurd (omega (arith, e))
get_last (y ∷ ys) x (suc i) e = get_last ys x i (omega (arith, e))

picked_sound : (xs : List Compiled) (ps : List ℕ)
    → ((p : ℕ) (x : Compiled) → slice_get xs p ≡ Some x → is_sound x ≡ true) → list_all is_sound (items_at xs ps) ≡ true
picked_sound xs [] h = refl
picked_sound xs (p ∷ ps) h = by (slice_get xs p) refl (picked_sound xs ps h)
  where
    by : (o : Option Compiled) → slice_get xs p ≡ o → list_all is_sound (items_at xs ps) ≡ true
        → list_all is_sound (with_item o (items_at xs ps)) ≡ true
    by None e rest = rest
    by (Some x) e rest = rw (h p x e) rest

-- ---- what is reported

some_refused : (name : List ℕ) (f : Breach) → refusal_in name (Some (Refused f)) ≡ [] → ⊥
some_refused name f e = absurd cc

left_empty : {A : Type 0} (xs ys : List A) → xs ++ ys ≡ [] → xs ≡ []
left_empty [] ys e = refl
left_empty (x ∷ xs) ys e = absurd cc

right_empty : {A : Type 0} (xs ys : List A) → xs ++ ys ≡ [] → ys ≡ []
right_empty [] ys e = e
right_empty (x ∷ xs) ys e = absurd cc

unreported : (result : ℕ → Option Compiled) (n : ℕ) (fs : List (List ℕ × Module)) → refused_from result n fs ≡ []
    → (k : ℕ) → k < length fs → (name : List ℕ) × (refusal_in name (result (n + k)) ≡ [])
unreported result n [] e k l = absurd (omega (arith, l))
unreported result n (f ∷ fs) e zero l = let same : n ≡ n + 0 = omega arith in (
  f.0,
  ap (λ (m : ℕ). refusal_in f.0 (result m)) (sym same)
      ∙ left_empty (refusal_in f.0 (result n)) (refused_from result (n + 1) fs) e,
)
unreported result n (f ∷ fs) e (suc k) l =
    let r = unreported result (n + 1) fs (right_empty (refusal_in f.0 (result n)) (refused_from result (n + 1) fs) e) k
    (omega (arith, l)) in
    let same : (n + 1) + k ≡ n + suc k = omega arith in
    (r.0, ap (λ (m : ℕ). refusal_in r.0 (result m)) (sym same) ∙ r.1)

-- ---- all jobs

module _ (fs : List (List ℕ × Module)) (numbers : List ℕ) (jobs : List (List ℕ)) where
  abbrev below : ℕ → List Compiled
  below n = results_below jobs (compile_at (modules fs) numbers) n

  abbrev pub needed : ℕ → List Compiled
  needed n = items_at (below n) (prerequisites_of jobs n)

  abbrev pub one : ℕ → Compiled
  one n = compile_at (modules fs) numbers n (needed n)

  pub many : (n : ℕ) → length (below n) ≡ n
  many n = results-length jobs (compile_at (modules fs) numbers) n

  at_below : (n j : ℕ) → j < n → slice_get (below n) j ≡ Some (one j)
  at_below zero j l = absurd (omega (arith, l))
  at_below (suc n) j l = elim (cases_lt j n) [
    | inl less ↦ get_front (below n) (one n ∷ []) j (omega (arith, less, many n)) ∙ at_below n j less
    | inr le ↦ let e : j ≡ n = omega (arith, l, le) in
        get_last (below n) (one n) j (e ∙ sym (many n)) ∙ ap (λ (k : ℕ). Some (one k)) (sym e)
  ]

  -- a result is that of its job
  pub is_below : (n p : ℕ) (x : Compiled) → slice_get (below n) p ≡ Some x → one p ≡ x
  is_below n p x e = let l : p < n = (let w = slice_get_within (below n) p x e in omega (arith, w, many n)) in
      same_Some (one p) x (sym (at_below n p l) ∙ e)

  needed_sound : (n : ℕ) → ((j : ℕ) → j < n → is_sound (one j) ≡ true) → list_all is_sound (needed n) ≡ true
  needed_sound n h =
      picked_sound (below n) (prerequisites_of jobs n)
      (λ p x e. let l : p < n = (let w = slice_get_within (below n) p x e in omega (arith, w, many n)) in
      subst (λ (c : Compiled). is_sound c ≡ true) (same_Some (one p) x (sym (at_below n p l) ∙ e)) (h p l))

  abbrev tree_at : ℕ → Option Module
  tree_at j = slice_get (modules fs) (slice_index_or numbers j 0)

  abbrev HasTree : ℕ → Type 0
  HasTree j = (m : Module) × (tree_at j ≡ Some m)

  sound_below : (n : ℕ) → ((j : ℕ) → j < n → HasTree j) → ((j : ℕ) → j < n → IsUnrefused (one j)) → (j : ℕ) → j < n
      → is_sound (one j) ≡ true
  sound_below zero t h j l = absurd (omega (arith, l))
  sound_below (suc n) t h j l = elim (cases_lt j n) [
    | inl less ↦ sound_below n (λ i k. t i (omega (arith, k))) (λ i k. h i (omega (arith, k))) j less
    | inr le ↦
        let e : j ≡ n = omega (arith, l, le) in
        let all : list_all is_sound (needed n) ≡ true =
        needed_sound n (sound_below n (λ i k. t i (omega (arith, k))) (λ i k. h i (omega (arith, k)))) in
        let tree : HasTree n = t n (omega arith) in
        subst (λ (k : ℕ). is_sound (one k) ≡ true) (sym e)
        (one_sound (tree_at n) n (needed n) all tree.0 tree.1 (h n (omega arith)))
  ]

  module _ (each : CompileEach (number_files 0 fs) numbers) (same : length numbers ≡ length jobs) where
    -- what became of a file's module
    pub result_is : (j k : ℕ) → slice_get numbers j ≡ Some k → result_at fs numbers jobs k ≡ Some (one j)
    result_is j k e =
        let l : j < length jobs = (let w = slice_get_within numbers j k e in omega (arith, w, same)) in
        ap (option_and_then (slice_get (below (length jobs)))) (job_of fs numbers each j k e)
        ∙ at_below (length jobs) j l

    module _ (none : refused_by fs numbers jobs ≡ [])
        (within : (j k : ℕ) → slice_get numbers j ≡ Some k → k < length fs)
        (there : (j : ℕ) → j < length numbers → (k : ℕ) × (slice_get numbers j ≡ Some k)) where
      unrefused : (j : ℕ) → j < length jobs → IsUnrefused (one j)
      unrefused j l f e =
          let t = there j (omega (arith, l, same)) in
          let u = unreported (result_at fs numbers jobs) 0 fs none t.0 (within j t.0 t.1) in
          let zero_plus : 0 + t.0 ≡ t.0 = omega arith in
          some_refused u.0 f (ap (refusal_in u.0)
          (sym (ap (result_at fs numbers jobs) zero_plus ∙ result_is j t.0 t.1 ∙ ap (λ (c : Compiled). Some c) e))
          ∙ u.1)

      has_tree : (j : ℕ) → j < length jobs → HasTree j
      has_tree j l =
          let t = there j (omega (arith, l, same)) in
          let w = some_at (modules fs) t.0 (omega
          (arith, within j t.0 t.1, length-map fs (λ (f : List ℕ × Module). f.1))) in
          (w.0, ap (slice_get (modules fs)) (get_or_from_slice_get numbers j t.0 0 t.1) ∙ w.1)

      pub all_sound : (j : ℕ) → j < length jobs → list_all is_sound (needed j) ≡ true
      all_sound j l = needed_sound j (λ i k. sound_below (length jobs) has_tree unrefused i (omega (arith, k, l)))

      pub none_refused : (j : ℕ) → j < length jobs → IsUnrefused (one j)
      none_refused = unrefused
