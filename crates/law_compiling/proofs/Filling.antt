-- The modules that stand beside a body and definitions where it is compiled alone: of one sort and name there is one.
use Rattle.std.proofs.Common.{◌≡◌, inl, inr, ℕ, ◌≤◌, ◌+◌, Bool, true, false, cond, not, ◌&&◌, ◌||◌, List, [], ◌∷◌, ◌++◌, map, refl, sym, ap, subst, ◌∙◌, arith}
use Rattle.std.specs.Prelude.{slice_get}
use Rattle.std.specs.List.{flat_map}
use Rattle.std.specs.Cmp.Lexicographic.{bytes_decides}
use Rattle.std.proofs.lemmas.Bool.{false≢true, and_parts, cases_Bool}
use Rattle.m2_tree.specs.Names.{same_name}
use Rattle.m2_tree.specs.declared.decl.Module.{Module}
use Rattle.m2_graph.specs.Imports.{is_definition, is_program}
use Rattle.m2_graph.specs.Refused.{are_one_part}
use Rattle.empty_modules.specs.Empty.{import_of, empty_body, empty_program}
use Rattle.law_graph.specs.Started.{AreApart, names_of}
use Rattle.law_graph.proofs.Lists.{Among, none_among, later_among, among_cases, among_append_cases, among-map}
use Rattle.law_graph.proofs.Given.{given_trees}
use Rattle.law_separation.specs.Alike.{Tree}
use Rattle.law_linking.proofs.Alone.{one_part_is}
use Rattle.law_linking.proofs.Counting.{count, count-append, count_none, count_fewer}
use Rattle.law_linking.proofs.Standing.{program_kind}
use Rattle.compile_module.specs.Stands.{lacks_body, body_for, program_for, stands_for, stand_file}
use Rattle.law_compiling.proofs.Sources.{picked}
use Rattle.law_compiling.proofs.Refusing.{front_among, back_among}
use Rattle.law_compiling.proofs.Whole.{among_each, one_of}

-- ---- the modules

abbrev pub start_for : Module → Module
start_for body = empty_program [] (import_of body.name.name ∷ [])

abbrev pub bodies : Module → List Module → List Module
bodies body ms = flat_map (body_for body) ms

-- a body, definitions, and what stands beside them
abbrev pub filled : Module → List Module → List Module
filled body ds = (body ∷ ds) ++ stands_for (body ∷ ds)

pub filled_is : (front : List Tree) (ms : List Module)
    → given_trees (front ++ map (λ (m : Module). (stand_file, m)) ms) ≡ given_trees front ++ ms
filled_is [] [] = refl
filled_is [] (m ∷ ms) = ap (λ (xs : List Module). m ∷ xs) (filled_is [] ms)
filled_is (f ∷ front) ms = ap (λ (xs : List Module). f.1 ∷ xs) (filled_is front ms)

-- how a module came to be among them
pub data Fills (body : Module) (ds : List Module) (s : Module) : Type 0 where
  first : s ≡ body → Fills body ds s
  given : Among ds s → Fills body ds s
  stand : (d : Module) → Among ds d → (d.name.name ≡ body.name.name → ⊥) → s ≡ empty_body d.name.name []
      → Fills body ds s
  start : is_program body ≡ false → s ≡ start_for body → Fills body ds s

body_in : (body d s : Module) → Among (body_for body d) s
    → (lacks_body body d ≡ true) × (s ≡ empty_body d.name.name [])
body_in body d s a = by (lacks_body body d) refl a
  where
    by : (b : Bool) → lacks_body body d ≡ b → Among (cond b (empty_body d.name.name [] ∷ []) []) s
        → (lacks_body body d ≡ true) × (s ≡ empty_body d.name.name [])
    by true e a = (e, sym (one_of _ s a))
    by false e a = absurd (none_among s a)

program_in : (body s : Module) → Among (program_for body) s → (is_program body ≡ false) × (s ≡ start_for body)
program_in body s a = by (is_program body) refl a
  where
    by : (b : Bool) → is_program body ≡ b → Among (cond b [] (start_for body ∷ [])) s
        → (is_program body ≡ false) × (s ≡ start_for body)
    by true e a = absurd (none_among s a)
    by false e a = (e, sym (one_of _ s a))

other_name : (c s : Bool) → (c || not s) ≡ true → c ≡ false → s ≡ true → ⊥
other_name true s e f g = false≢true (sym f)
other_name false true e f g = false≢true e
other_name false false e f g = false≢true g

lacks_other : (body d : Module) → is_definition body ≡ false → lacks_body body d ≡ true
    → d.name.name ≡ body.name.name → ⊥
lacks_other body d kind e n =
    other_name (is_definition body) (same_name d.name.name body.name.name)
    (and_parts (is_definition d) (is_definition body || not (same_name d.name.name body.name.name)) e).1 kind
    ((bytes_decides d.name.name body.name.name).1 n)

-- a body that stands in is that of a definition of another module
stands_in : (body : Module) (ds : List Module) (s : Module) → is_definition body ≡ false
    → Among (bodies body (body ∷ ds)) s
    → (d : Module) × Among ds d × (d.name.name ≡ body.name.name → ⊥) × (s ≡ empty_body d.name.name [])
stands_in body ds s kind a =
    let w = among_each (body_for body) (body ∷ ds) s a in
    let r = body_in body w.0 s w.2 in
    elim (among_cases body ds w.0 w.1) [
      | inl e ↦ absurd (lacks_other body w.0 kind r.0 (ap (λ (m : Module). m.name.name) (sym e)))
      | inr more ↦ (w.0, more, lacks_other body w.0 kind r.0, r.1)
    ]

pub fills : (body : Module) (ds : List Module) (s : Module) → is_definition body ≡ false → Among (filled body ds) s
    → Fills body ds s
fills body ds s kind a = elim (among_append_cases (body ∷ ds) (stands_for (body ∷ ds)) s a) [
  | inl there ↦ elim (among_cases body ds s there) [ inl e ↦ first (sym e) | inr more ↦ given more ]
  | inr beside ↦ elim (among_append_cases (bodies body (body ∷ ds)) (program_for body) s beside) [
    | inl b ↦ (let r = stands_in body ds s kind b in stand r.0 r.1 r.2 r.3)
    | inr p ↦ (let r = program_in body s p in start r.0 r.1)
  ]
]

flat_among : {X Y : Type 0} (f : X → List Y) (xs : List X) (x : X) (y : Y) → Among xs x → Among (f x) y
    → Among (flat_map f xs) y
flat_among f [] x y a b = absurd (none_among x a)
flat_among {X} {Y} f (z ∷ xs) x y a b = elim (among_cases z xs x a) [
  | inl e ↦ front_among (f z) (flat_map f xs) y (subst (λ (w : X). Among (f w) y) (sym e) b)
  | inr more ↦ back_among (f z) (flat_map f xs) y (flat_among f xs x y more b)
]

pub text_fills : (body : Module) (ds : List Module) (m : Module) → Among (body ∷ ds) m → Among (filled body ds) m
text_fills body ds m a = front_among (body ∷ ds) (stands_for (body ∷ ds)) m a

pub stand_fills : (body : Module) (ds : List Module) (d : Module) → Among ds d → lacks_body body d ≡ true
    → Among (filled body ds) (empty_body d.name.name [])
stand_fills body ds d a e =
    back_among (body ∷ ds) (stands_for (body ∷ ds)) (empty_body d.name.name [])
    (front_among (bodies body (body ∷ ds)) (program_for body) (empty_body d.name.name [])
    (flat_among (body_for body) (body ∷ ds) d (empty_body d.name.name []) (later_among body ds d a)
    (0, ap (λ (b : Bool). slice_get (cond b (empty_body d.name.name [] ∷ []) []) 0) e)))

pub start_fills : (body : Module) (ds : List Module) → is_program body ≡ false → Among (filled body ds) (start_for body)
start_fills body ds e =
    back_among (body ∷ ds) (stands_for (body ∷ ds)) (start_for body)
    (back_among (bodies body (body ∷ ds)) (program_for body) (start_for body)
    (0, ap (λ (b : Bool). slice_get (cond b [] (start_for body ∷ [])) 0) e))

-- ---- how many there are

pub is_where : (b : Bool) → (b ≡ true → ⊥) → b ≡ false
is_where true h = absurd (h refl)
is_where false h = refl

with_one : (b : Bool) (k : ℕ) → (b ≡ true → k ≡ 0) → k ≤ 1 → cond b 1 0 + k ≤ 1
with_one true k h l = let e = h refl in omega (arith, e)
with_one false k h l = omega (arith, l)

-- of one name there is one
few_named : (n : List ℕ) (ms : List Module) → AreApart (names_of ms)
    → count (λ (m : Module). same_name n m.name.name) ms ≤ 1
unfolding count
few_named n [] a = omega arith
few_named n (m ∷ ms) a =
    with_one (same_name n m.name.name) (count (λ (x : Module). same_name n x.name.name) ms)
    (λ e. count_none (λ (x : Module). same_name n x.name.name) ms (λ x i. is_where (same_name n x.name.name) (λ s.
    picked (λ (y : List ℕ). m.name.name ≡ y → ⊥) (names_of ms) a.0 x.name.name
    (among-map (λ (y : Module). y.name.name) ms x i)
    (sym ((bytes_decides n m.name.name).0 e) ∙ (bytes_decides n x.name.name).0 s))))
    (few_named n ms a.1)

less_and : (c b : Bool) (k : ℕ) → k ≤ 0 → cond (c && b) 1 0 + k ≤ cond b 1 0
less_and true true k l = omega (arith, l)
less_and true false k l = omega (arith, l)
less_and false true k l = omega (arith, l)
less_and false false k l = omega (arith, l)

none_less : (b : Bool) → 0 ≤ cond b 1 0
none_less true = omega arith
none_less false = omega arith

one_body : (s : Module) (n : List ℕ) (b : Bool)
    → count (are_one_part s) (cond b (empty_body n [] ∷ []) []) ≤ cond (same_name s.name.name n) 1 0
unfolding count
one_body s n true = less_and (cond (is_definition s) false true) (same_name s.name.name n) 0 (omega arith)
one_body s n false = none_less (same_name s.name.name n)

few_stand : (s body : Module) (ms : List Module)
    → count (are_one_part s) (bodies body ms) ≤ count (λ (m : Module). same_name s.name.name m.name.name) ms
unfolding count
few_stand s body [] = omega arith
few_stand s body (m ∷ ms) =
    let e = count-append (are_one_part s) (body_for body m) (bodies body ms) in
    let l = one_body s m.name.name (lacks_body body m) in
    let k = few_stand s body ms in
    omega (arith, e, l, k)

at_most : (b : Bool) → cond b 1 0 ≤ 1
at_most true = omega arith
at_most false = omega arith

counted : (p : Module → Bool) (m : Module) (ms : List Module) → count p (m ∷ ms) ≡ cond (p m) 1 0 + count p ms
unfolding count
counted p m ms = refl

one_or_none : (p : Module → Bool) (m : Module) (b : Bool) → count p (cond b [] (m ∷ [])) ≤ 1
unfolding count
one_or_none p m true = omega arith
one_or_none p m false = let l = at_most (p m) in omega (arith, l)

one_program : (m : Module) (b : Bool) → cond b 1 0 + count is_program (cond b [] (m ∷ [])) ≤ 1
unfolding count
one_program m true = omega arith
one_program m false = let l = at_most (is_program m) in omega (arith, l)

module _ (body : Module) (ds : List Module) (kind : is_definition body ≡ false)
    (kinds : (d : Module) → Among ds d → is_definition d ≡ true) (apart : AreApart (names_of ds))
    (named : (m : Module) → Among (body ∷ ds) m → m.name.name ≡ [] → ⊥) where
  sums : (p : Module → Bool) → count p (filled body ds) ≡ (cond (p body) 1 0 + count p ds)
      + (count p (bodies body (body ∷ ds)) + count p (program_for body))
  unfolding count
  sums p =
      let a = count-append p (body ∷ ds) (stands_for (body ∷ ds)) in
      let b = count-append p (bodies body (body ∷ ds)) (program_for body) in
      omega (arith, a, b)

  module _ (s : Module) where
    none_of : (xs : List Module)
        → ((t : Module) → Among xs t → is_definition s ≡ is_definition t → s.name.name ≡ t.name.name → ⊥)
        → count (are_one_part s) xs ≡ 0
    none_of xs h = count_none (are_one_part s) xs
        (λ t a. is_where (are_one_part s t) (λ q. let w = one_part_is s t q in h t a w.0 w.1))

    not_first : (is_definition s ≡ is_definition body → s.name.name ≡ body.name.name → ⊥)
        → cond {A = ℕ} (are_one_part s body) 1 0 ≡ 0
    not_first h = ap (λ (b : Bool). cond {A = ℕ} b 1 0)
        (is_where (are_one_part s body) (λ q. let w = one_part_is s body q in h w.0 w.1))

    no_stand : (is_definition s ≡ false → (d : Module) → Among ds d → (d.name.name ≡ body.name.name → ⊥)
        → s.name.name ≡ d.name.name → ⊥) → count (are_one_part s) (bodies body (body ∷ ds)) ≡ 0
    no_stand h = none_of (bodies body (body ∷ ds)) (λ t a k n.
        let w = stands_in body ds t kind a in
        h (k ∙ ap is_definition w.3) w.0 w.1 w.2 (n ∙ ap (λ (m : Module). m.name.name) w.3))

    no_start : (is_definition s ≡ false → s.name.name ≡ [] → ⊥) → count (are_one_part s) (program_for body) ≡ 0
    no_start h = none_of (program_for body) (λ t a k n.
        let w = program_in body t a in
        h (k ∙ ap is_definition w.1) (n ∙ ap (λ (m : Module). m.name.name) w.1))

    few_start : count (are_one_part s) (program_for body) ≤ 1
    few_start = one_or_none (are_one_part s) (start_for body) (is_program body)

    few_bodies : count (are_one_part s) (bodies body (body ∷ ds)) ≤ 1
    few_bodies = elim (cases_Bool (same_name s.name.name body.name.name)) [
      | inl e ↦ (
          let same : s.name.name ≡ body.name.name = (bytes_decides s.name.name body.name.name).0 e in
          let z = no_stand (λ k d a other n. other (sym n ∙ same)) in
          omega (arith, z))
      | inr e ↦ (
          let l = few_stand s body (body ∷ ds) in
          let m = few_named s.name.name ds apart in
          let z : cond {A = ℕ} (same_name s.name.name body.name.name) 1 0 ≡ 0 =
          ap (λ (b : Bool). cond {A = ℕ} b 1 0) e in
          let c = counted (λ (m : Module). same_name s.name.name m.name.name) body ds in
          omega (arith, l, m, z, c))
    ]

    few_definitions : count (are_one_part s) ds ≤ 1
    few_definitions =
        let l = count_fewer (are_one_part s) (λ (m : Module). same_name s.name.name m.name.name) ds
        (λ m a e. (and_parts (cond (is_definition s) (is_definition m) (not (is_definition m)))
        (same_name s.name.name m.name.name) e).1) in
        let m = few_named s.name.name ds apart in
        omega (arith, l, m)

    no_definitions : is_definition s ≡ false → count (are_one_part s) ds ≡ 0
    no_definitions k = none_of ds (λ t a q n. false≢true (sym k ∙ q ∙ kinds t a))

    abbrev Few : Type 0
    Few = (cond (are_one_part s body) 1 0 + count (are_one_part s) ds)
        + (count (are_one_part s) (bodies body (body ∷ ds)) + count (are_one_part s) (program_for body)) ≤ 1

    few_sums : Few
    few_sums = elim (cases_Bool (is_definition s)) [
      | inl k ↦ (
          let b = not_first (λ q n. false≢true (sym kind ∙ sym q ∙ k)) in
          let f = no_stand (λ q d a o n. false≢true (sym q ∙ k)) in
          let p = no_start (λ q n. false≢true (sym q ∙ k)) in
          let d = few_definitions in
          omega (arith, b, f, p, d))
      | inr k ↦ elim (cases_Bool (same_name s.name.name body.name.name)) [
        | inl e ↦ (
            let same : s.name.name ≡ body.name.name = (bytes_decides s.name.name body.name.name).0 e in
            let b = at_most (are_one_part s body) in
            let f = no_stand (λ q d a other n. other (sym n ∙ same)) in
            let p = no_start (λ q n. named body (0, refl) (sym same ∙ n)) in
            let d = no_definitions k in
            omega (arith, b, f, p, d))
        | inr e ↦ (
            let b = not_first (λ q n. false≢true (sym e ∙ (bytes_decides s.name.name body.name.name).1 n)) in
            let d = no_definitions k in
            elim (cases_Bool (same_name s.name.name [])) [
              | inl z ↦ (
                  let none : s.name.name ≡ [] = (bytes_decides s.name.name []).0 z in
                  let f = no_stand (λ q d a other n. named d (later_among body ds d a) (sym n ∙ none)) in
                  let p = few_start in
                  omega (arith, b, f, p, d))
              | inr z ↦ (
                  let f = few_bodies in
                  let p = no_start (λ q n. false≢true (sym z ∙ (bytes_decides s.name.name []).1 n)) in
                  omega (arith, b, f, p, d))
            ])
      ]
    ]

    -- of one sort and name there is one
    pub few_parts : count (are_one_part s) (filled body ds) ≤ 1
    few_parts = let e = sums (are_one_part s) in let l = few_sums in omega (arith, e, l)

  -- there is one program module
  pub few_programs : count is_program (filled body ds) ≤ 1
  few_programs =
      let e = sums is_program in
      let d = count_none is_program ds
      (λ m a. is_where (is_program m) (λ p. false≢true (sym (program_kind m p) ∙ kinds m a))) in
      let f = count_none is_program (bodies body (body ∷ ds)) (λ m a.
      let w = stands_in body ds m kind a in ap is_program w.3) in
      let b = one_program (start_for body) (is_program body) in
      omega (arith, e, d, f, b)
