-- No two modules that stand for parts are of one sort and name.
use Rattle.std.proofs.Common.{◌≡◌, ◌≤◌, ℕ, ◌+◌, Bool, true, false, cond, not, ◌&&◌, List, [], ◌∷◌, ◌++◌, map, refl, sym, ap, subst, ◌∙◌, inl, inr, arith, Some}
use Rattle.std.specs.Prelude.{slice_get}
use Rattle.std.specs.List.{flat_map, All}
use Rattle.std.specs.String.{string_bytes}
use Rattle.std.specs.Cmp.Lexicographic.{bytes_decides}
use Rattle.std.proofs.lemmas.Bool.{false≢true, and_parts, cases_Bool}
use Rattle.std.proofs.lemmas.Option.{slice_get_within, get_or_from_slice_get}
use Rattle.m2_tree.specs.Names.{same_name}
use Rattle.m2_tree.specs.declared.decl.Module.{Module}
use Rattle.m2_graph.specs.Imports.{is_definition}
use Rattle.m2_graph.specs.Refused.{are_one_part}
use Rattle.empty_modules.specs.Empty.{empty_definition}
use Rattle.law_graph.specs.Started.{AreApart}
use Rattle.law_graph.proofs.Lists.{Among, none_among, later_among, among_cases, among_append_cases, among-map}
use Rattle.law_graph.proofs.Given.{given_trees}
use Rattle.link_parts.specs.declared.part.Part.{Part}
use Rattle.link_parts.specs.Stands.{body_of, stands_of, stands_for, trees_of}
use Rattle.law_linking.proofs.Counting.{count, count-append, count_none}
use Rattle.law_linking.proofs.Standing.{IsStand, standing, body_kind, body_name}

-- ---- the modules

snd_of : (st : List (Part × Module)) → given_trees (trees_of st) ≡ map (λ (t : Part × Module). t.1) st
snd_of [] = refl
snd_of (t ∷ ts) = ap (λ (ms : List Module). t.1 ∷ ms) (snd_of ts)

with_part : (q : Part) (ms : List Module) (rest : List (Part × Module))
    → map (λ (t : Part × Module). t.1) (map (λ (m : Module). (q, m)) ms ++ rest) ≡ ms
    ++ map (λ (t : Part × Module). t.1) rest
with_part q [] rest = refl
with_part q (m ∷ ms) rest = ap (λ (xs : List Module). m ∷ xs) (with_part q ms rest)

seconds : (ps : List Part) → map (λ (t : Part × Module). t.1) (stands_for ps) ≡ flat_map stands_of ps
seconds [] = refl
seconds (q ∷ qs) = with_part q (stands_of q) (stands_for qs) ∙ ap (λ (ms : List Module). stands_of q ++ ms) (seconds qs)

pub modules_of : (ps : List Part) → given_trees (trees_of (stands_for ps)) ≡ flat_map stands_of ps
modules_of ps = snd_of (stands_for ps) ∙ seconds ps

-- ---- what stands there for a part

among_left : {X : Type 0} (xs ys : List X) (x : X) → Among xs x → Among (xs ++ ys) x
among_left [] ys x a = absurd (none_among x a)
among_left (z ∷ xs) ys x a = elim (among_cases z xs x a)
    [ inl e ↦ (0, ap Some e) | inr more ↦ later_among z (xs ++ ys) x (among_left xs ys x more) ]

among_right : {X : Type 0} (xs ys : List X) (x : X) → Among ys x → Among (xs ++ ys) x
among_right [] ys x a = a
among_right (z ∷ xs) ys x a = later_among z (xs ++ ys) x (among_right xs ys x a)

stands_there : (ps : List Part) (p : Part) (s : Module) → Among ps p → Among (stands_of p) s
    → Among (flat_map stands_of ps) s
stands_there [] p s a b = absurd (none_among p a)
stands_there (q ∷ qs) p s a b = elim (among_cases q qs p a) [
  | inl e ↦ among_left (stands_of q) (flat_map stands_of qs) s (subst (λ (x : Part). Among (stands_of x) s) (sym e) b)
  | inr more ↦ among_right (stands_of q) (flat_map stands_of qs) s (stands_there qs p s more b)
]

body_among : (p : Part) → Among (stands_of p) (body_of p)
body_among p = by p.is_program
  where
    by : (c : Bool) → Among (cond c (body_of p ∷ []) (empty_definition (string_bytes p.name) ∷ body_of p ∷ []))
        (body_of p)
    by true = (0, refl)
    by false = (1, refl)

definition_among : (p : Part) → p.is_program ≡ false → Among (stands_of p) (empty_definition (string_bytes p.name))
definition_among p e = (
  0,
  ap (λ (c : Bool). slice_get
      (cond c (body_of p ∷ []) (empty_definition (string_bytes p.name) ∷ body_of p ∷ [])) 0) e,
)

-- The body of a part stands there, and its definition, if it is no program.
pub body_stands : (ps : List Part) (p : Part) → Among ps p → Among (given_trees (trees_of (stands_for ps))) (body_of p)
body_stands ps p a = subst (λ (ms : List Module). Among ms (body_of p)) (sym (modules_of ps))
    (stands_there ps p (body_of p) a (body_among p))

pub definition_stands : (ps : List Part) (p : Part) → Among ps p → p.is_program ≡ false
    → Among (given_trees (trees_of (stands_for ps))) (empty_definition (string_bytes p.name))
definition_stands ps p a e = subst (λ (ms : List Module). Among ms (empty_definition (string_bytes p.name)))
    (sym (modules_of ps)) (stands_there ps p (empty_definition (string_bytes p.name)) a (definition_among p e))

-- ---- how many are of one sort and name

pub stand_name : (p : Part) (s : Module) → IsStand p s → s.name.name ≡ string_bytes p.name
stand_name p s (inl e) = ap (λ (m : Module). m.name.name) e ∙ body_name p
stand_name p s (inr e) = ap (λ (m : Module). m.name.name) e.1

-- The modules are of one sort and name.
pub one_part : (s t : Module) → is_definition s ≡ is_definition t → s.name.name ≡ t.name.name → are_one_part s t ≡ true
one_part s t e n = by (is_definition s) (is_definition t) e ((bytes_decides s.name.name t.name.name).1 n)
  where
    by : (b c : Bool) → b ≡ c → same_name s.name.name t.name.name ≡ true
        → (cond b c (not c) && same_name s.name.name t.name.name) ≡ true
    by true true q n = n
    by false false q n = n
    by true false q n = absurd (false≢true (sym q))
    by false true q n = absurd (false≢true q)

pub one_part_is : (s t : Module) → are_one_part s t ≡ true → (is_definition s ≡ is_definition t)
    × (s.name.name ≡ t.name.name)
one_part_is s t e = let both = and_parts (cond (is_definition s) (is_definition t) (not (is_definition t)))
    (same_name s.name.name t.name.name) e in
    (by (is_definition s) (is_definition t) both.0, (bytes_decides s.name.name t.name.name).0 both.1)
  where
    by : (b c : Bool) → cond b c (not c) ≡ true → b ≡ c
    by true true q = refl
    by false false q = refl
    by true false q = sym q
    by false true q = q

not_one : (s t : Module) → (s.name.name ≡ t.name.name → ⊥) → are_one_part s t ≡ false
not_one s t h = elim (cases_Bool (are_one_part s t)) [ inl e ↦ absurd (h (one_part_is s t e).1) | inr e ↦ e ]

one_of_two : (d c b m n : Bool) → c ≡ true → b ≡ false
    → cond (cond d c (not c) && m) 1 0 + (cond (cond d b (not b) && n) 1 0 + 0) ≤ 1
one_of_two true true false true n e f = omega arith
one_of_two true true false false n e f = omega arith
one_of_two false true false m true e f = omega arith
one_of_two false true false m false e f = omega arith
one_of_two d false b m n e f = absurd (false≢true e)
one_of_two d true true m n e f = absurd (false≢true (sym f))

at_most : (b : Bool) → cond b 1 0 + 0 ≤ 1
at_most true = omega arith
at_most false = omega arith

-- a part has at most one
few_stands : (s : Module) (p : Part) → count (are_one_part s) (stands_of p) ≤ 1
unfolding count
few_stands s p = by p.is_program
  where
    by : (c : Bool) → count (are_one_part s)
        (cond c (body_of p ∷ []) (empty_definition (string_bytes p.name) ∷ body_of p ∷ [])) ≤ 1
    by true = at_most (are_one_part s (body_of p))
    by false = one_of_two (is_definition s) (is_definition (empty_definition (string_bytes p.name)))
        (is_definition (body_of p)) (same_name s.name.name (empty_definition (string_bytes p.name)).name.name)
        (same_name s.name.name (body_of p).name.name) refl (body_kind p)

among_flat : (ps : List Part) (s : Module) → Among (flat_map stands_of ps) s → (p : Part) × Among ps p
    × Among (stands_of p) s
among_flat [] s a = absurd (none_among s a)
among_flat (q ∷ qs) s a = elim (among_append_cases (stands_of q) (flat_map stands_of qs) s a) [
  | inl here ↦ (q, (0, refl), here)
  | inr more ↦ (let r = among_flat qs s more in (r.0, later_among q qs r.0 r.1, r.2))
]

all_at : {X : Type 0} (P : X → Type 0) (xs : List X) (x : X) → All P xs → Among xs x → P x
all_at P xs x all a = subst P (get_or_from_slice_get xs a.0 x x a.1) (all a.0 x (slice_get_within xs a.0 x a.1))

few_flat : (s : Module) (ps : List Part) → AreApart (map (λ (p : Part). string_bytes p.name) ps)
    → count (are_one_part s) (flat_map stands_of ps) ≤ 1
unfolding count
few_flat s [] apart = omega arith
few_flat s (q ∷ qs) apart = elim (cases_Bool (same_name s.name.name (string_bytes q.name)))
    [ inl e ↦ here e | inr e ↦ other e (few_flat s qs apart.1) ]
  where
    sum : count (are_one_part s) (stands_of q ++ flat_map stands_of qs)
        ≡ count (are_one_part s) (stands_of q) + count (are_one_part s) (flat_map stands_of qs)
    sum = count-append (are_one_part s) (stands_of q) (flat_map stands_of qs)

    none : same_name s.name.name (string_bytes q.name) ≡ true → (t : Module) → Among (flat_map stands_of qs) t
        → are_one_part s t ≡ false
    none e t a =
        let r = among_flat qs t a in
        not_one s t (λ n. all_at (λ (y : List ℕ). string_bytes q.name ≡ y → ⊥)
        (map (λ (p : Part). string_bytes p.name) qs) (string_bytes r.0.name) apart.0
        (among-map (λ (p : Part). string_bytes p.name) qs r.0 r.1)
        (sym ((bytes_decides s.name.name (string_bytes q.name)).0 e) ∙ n ∙ stand_name r.0 t (standing r.0 t r.2)))

    here : same_name s.name.name (string_bytes q.name) ≡ true
        → count (are_one_part s) (stands_of q ++ flat_map stands_of qs) ≤ 1
    here e = let l = few_stands s q in let z = count_none (are_one_part s) (flat_map stands_of qs) (none e) in
        let m = sum in omega (arith, l, z, m)

    nothing : same_name s.name.name (string_bytes q.name) ≡ false → (t : Module) → Among (stands_of q) t
        → are_one_part s t ≡ false
    nothing e t a = not_one s t (λ n. false≢true
        (sym e ∙ (bytes_decides s.name.name (string_bytes q.name)).1 (n ∙ stand_name q t (standing q t a))))

    other : same_name s.name.name (string_bytes q.name) ≡ false → count (are_one_part s) (flat_map stands_of qs) ≤ 1
        → count (are_one_part s) (stands_of q ++ flat_map stands_of qs) ≤ 1
    other e l = let z = count_none (are_one_part s) (stands_of q) (nothing e) in let m = sum in omega (arith, l, z, m)

-- Of one sort and name there is at most one.
pub few_alike : (ps : List Part) → AreApart (map (λ (p : Part). string_bytes p.name) ps) → (s : Module)
    → count (are_one_part s) (given_trees (trees_of (stands_for ps))) ≤ 1
few_alike ps apart s = subst (λ (ms : List Module). count (are_one_part s) ms ≤ 1) (sym (modules_of ps))
    (few_flat s ps apart)
