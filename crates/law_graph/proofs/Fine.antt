-- What holds of files of which nothing is reported.
use Rattle.std.proofs.Common.{◌≡◌, ℕ, zero, suc, Bool, true, false, cond, not, ◌&&◌, ◌||◌, ◌==◌, List, [], ◌∷◌, ◌++◌, length, take, map, refl, sym, ap, subst, ◌∙◌, inl, inr, append_assoc, Option, Some, None, ◌⊎◌}
use Rattle.std.specs.Prelude.{slice_get}
use Rattle.std.specs.List.{filter}
use Rattle.std.specs.Option.{is_some, is_none}
use Rattle.std.specs.Cmp.Lexicographic.{bytes_decides}
use Rattle.std.proofs.lemmas.Bool.{false≢true, cases_order, or_parts}
use Rattle.std.proofs.lemmas.List.{append-nil}
use Rattle.std.proofs.lemmas.Option.{none-some, same_Some}
use Rattle.m2_rule.specs.declared.rule.Rule.TheVariants as rule
use Rattle.m2_rule.specs.declared.rule.Rule.{Rule}
use Rattle.m2_tree.specs.declared.decl.Module.{Module}
use Rattle.m2_tree.specs.declared.name.Ident.{Ident}
use Rattle.m2_tree.specs.declared.pos.Pos.{Pos}
use Rattle.m2_rule.specs.declared.breach.Breach.{Breach}
use Rattle.m2_graph.specs.Files.{File, trees}
use Rattle.m2_tree.specs.Names.{same_name, is_console}
use Rattle.m2_graph.specs.Imports.{imports_of, is_definition, is_program, is_implementation, defines, implements, definition_of, first_that}
use Rattle.m2_graph.specs.Refused.{breach_where, first_place, least_of, is_bad_import, import_breaches, are_one_part, is_second, is_repeated, is_second_program, is_without_program, is_built_in, is_lone, max_files, breaches_of}
use Rattle.m2_rule.specs.Breaches.{breach}
use Rattle.m2_graph.specs.Reported.{Reported, reported_at, cycle_breaches, refused_from, refused_of, IsReported}
use Rattle.m2_graph.proofs.Deciding.{never_none, nothing_reported}
use Rattle.law_graph.proofs.Lists.{Among, none_among, among_cases}
use Rattle.law_graph.proofs.Passing.{some_that, none_that, among_taken}

-- what is not refused in a module behind others
pub record Fine (modules before : List Module) (given : ℕ) (m : Module) : Type 0 where
  pub imports : (x : Ident) → Among (imports_of m) x → is_bad_import modules m x.name ≡ false
  pub first : is_repeated before m ≡ false
  pub program : is_without_program modules before ≡ false
  pub whole : is_lone modules m ≡ false
  pub counted : (given == max_files) ≡ false

-- ---- nothing reported, nothing refused

none_least : (fs : List Breach) → least_of fs ≡ None → fs ≡ []
none_least [] e = refl
none_least (f ∷ fs) e = absurd (never_none [] f fs e)

parts_none : {X : Type 0} (xs ys : List X) → xs ++ ys ≡ [] → (xs ≡ []) × (ys ≡ [])
parts_none [] ys e = (refl, e)
parts_none (x ∷ xs) ys e = cc

where_none : (b : Bool) (pos : Pos) (n : Rule) → breach_where b pos n ≡ [] → b ≡ false
where_none true pos n e = cc
where_none false pos n e = refl

map_none : {X Y : Type 0} (f : X → Y) (xs : List X) → map f xs ≡ [] → xs ≡ []
map_none f [] e = refl
map_none f (x ∷ xs) e = cc

filter_none : {X : Type 0} (p : X → Bool) (xs : List X) (x : X) → filter p xs ≡ [] → Among xs x → p x ≡ false
filter_none p [] x e a = absurd (none_among x a)
filter_none {X} p (y ∷ xs) x e a = step (λ h b. filter_none p xs x h b) (p y) refl e
  where
    step : (filter p xs ≡ [] → Among xs x → p x ≡ false) → (b : Bool) → p y ≡ b
        → cond b (y ∷ filter p xs) (filter p xs) ≡ [] → p x ≡ false
    step later true g h = cc
    step later false g h = elim (among_cases y xs x a) [ inl s ↦ ap p (sym s) ∙ g | inr more ↦ later h more ]

fine_one : (modules before : List Module) (given : ℕ) (m : Module) (cycle : List Breach)
    → least_of (breaches_of modules before given m ++ cycle) ≡ None → Fine modules before given m
fine_one modules before given m cycle e =
    let a = import_breaches modules m (imports_of m) in
    let b = breach_where (is_repeated before m) m.name.pos rule.SecondFile in
    let c = breach_where (is_second_program before m) m.name.pos rule.ProgramCount in
    let d = breach_where (is_without_program modules before) first_place rule.ProgramCount in
    let f = breach_where (is_lone modules m) m.name.pos rule.LonelyModule in
    let g = breach_where (given == max_files) first_place rule.FileCount in
    let p = parts_none (breaches_of modules before given m) cycle
    (none_least (breaches_of modules before given m ++ cycle) e) in
    let q = parts_none (a ++ b ++ c ++ d ++ f) g p.0 in
    let r = parts_none (a ++ b ++ c ++ d) f q.0 in
    let s = parts_none (a ++ b ++ c) d r.0 in
    let t = parts_none (a ++ b) c s.0 in
    let u = parts_none a b t.0 in
    record {
      imports = λ x i. filter_none (λ (y : Ident). is_bad_import modules m y.name) (imports_of m) x
          (map_none (λ (y : Ident). breach y.pos rule.MissingModule)
          (filter (λ (y : Ident). is_bad_import modules m y.name) (imports_of m)) u.0) i;
      first = where_none (is_repeated before m) m.name.pos rule.SecondFile u.1;
      program = where_none (is_without_program modules before) first_place rule.ProgramCount s.1;
      whole = where_none (is_lone modules m) m.name.pos rule.LonelyModule r.1;
      counted = where_none (given == max_files) first_place rule.FileCount q.1;
    }

rest_none : (xs ys : List Reported) → xs ++ ys ≡ [] → ys ≡ []
rest_none xs ys e = (parts_none xs ys e).1

fine_from : (modules : List Module) (cycle : Option (ℕ × Pos)) (before : List Module) (fs : List File)
    → refused_from modules cycle before fs ≡ [] → (k : ℕ) (f : File) → slice_get fs k ≡ Some f
    → Fine modules (before ++ take k (trees fs)) f.given f.tree
fine_from modules cycle before [] e k f at = absurd (none-some f at)
fine_from modules cycle before (g ∷ fs) e zero f at =
    let o = least_of (breaches_of modules before g.given g.tree ++ cycle_breaches cycle (length before)) in
    let h : Fine modules before g.given g.tree =
    fine_one modules before g.given g.tree (cycle_breaches cycle (length before))
    (nothing_reported g.name o (refused_from modules cycle (before ++ g.tree ∷ []) fs) e) in
    subst (λ (x : File). Fine modules (before ++ []) x.given x.tree) (same_Some g f at)
    (subst (λ (xs : List Module). Fine modules xs g.given g.tree) (sym (append-nil before)) h)
fine_from modules cycle before (g ∷ fs) e (suc k) f at =
    let o = least_of (breaches_of modules before g.given g.tree ++ cycle_breaches cycle (length before)) in
    let h = fine_from modules cycle (before ++ g.tree ∷ []) fs
    (rest_none (reported_at g.name o) (refused_from modules cycle (before ++ g.tree ∷ []) fs) e) k f at in
    subst (λ (xs : List Module). Fine modules xs f.given f.tree) (append_assoc before (g.tree ∷ []) (take k (trees fs)))
    h

fine_of : (fs : List File) (cycle : Option (ℕ × Pos)) → refused_of fs cycle ≡ [] → (k : ℕ) (f : File)
    → slice_get fs k ≡ Some f → Fine (trees fs) (take k (trees fs)) f.given f.tree
fine_of [] cycle e k f at = absurd (none-some f at)
fine_of (g ∷ fs) cycle e k f at = fine_from (trees (g ∷ fs)) cycle [] (g ∷ fs) e k f at

pub fine_file : (fs : List File) → IsReported fs [] → (k : ℕ) (f : File) → slice_get fs k ≡ Some f
    → Fine (trees fs) (take k (trees fs)) f.given f.tree
fine_file fs h k f at = fine_of fs h.0 (sym h.2) k f at

-- ---- the program module

some_program : (modules : List Module) → is_without_program modules [] ≡ false → (i : ℕ)
    × (first_that is_program modules ≡ Some i)
some_program modules e = some_that is_program modules (not_false (is_some (first_that is_program modules)) e)
  where
    not_false : (b : Bool) → (true && not b) ≡ false → b ≡ true
    not_false true h = refl
    not_false false h = sym h

-- there is one
pub program_of : (fs : List File) → IsReported fs [] → (i : ℕ) × (first_that is_program (trees fs) ≡ Some i)
program_of [] h = absurd (let e : [] ≡ refused_of [] h.0 = h.2 in cc)
program_of (f ∷ fs) h = some_program (trees (f ∷ fs)) (fine_file (f ∷ fs) h 0 f refl).program

-- ---- the modules of such files

pub record AreFine (modules : List Module) : Type 0 where
  pub imports : (m : Module) (x : Ident) → Among modules m → Among (imports_of m) x → (is_console x.name ≡ true)
      ⊎ ((t : ℕ) × (definition_of modules x.name ≡ Some t))
  pub apart : (j k : ℕ) (m n : Module) → slice_get modules j ≡ Some m → slice_get modules k ≡ Some n
      → is_definition m ≡ is_definition n → m.name.name ≡ n.name.name → j ≡ k
  pub whole : (m : Module) → Among modules m → is_definition m ≡ true → (i : ℕ)
      × (first_that (implements m.name.name) modules ≡ Some i)

-- the file of a module
pub tree_at : (fs : List File) (k : ℕ) (m : Module) → slice_get (trees fs) k ≡ Some m → (f : File)
    × (slice_get fs k ≡ Some f) × (f.tree ≡ m)
tree_at [] k m e = absurd (none-some m e)
tree_at (f ∷ fs) zero m e = (f, refl, same_Some f.tree m e)
tree_at (f ∷ fs) (suc k) m e = tree_at fs k m e

fine_at : (fs : List File) → IsReported fs [] → (k : ℕ) (m : Module) → slice_get (trees fs) k ≡ Some m → (given : ℕ)
    × Fine (trees fs) (take k (trees fs)) given m
fine_at fs h k m e = let t = tree_at fs k m e in
    (t.0.given, subst (λ (x : Module). Fine (trees fs) (take k (trees fs)) t.0.given x) t.2 (fine_file fs h k t.0 t.1))

good_import : (c d : Bool) (o : Option ℕ) → ((not c && is_none o) || d) ≡ false → (c ≡ true) ⊎ ((t : ℕ) × (o ≡ Some t))
good_import true d o e = inl refl
good_import false d (Some t) e = inr (t, refl)
good_import false d None e = absurd (false≢true (sym e))

one_part : (b c s : Bool) → b ≡ c → s ≡ true → (cond b c (not c) && s) ≡ true
one_part true true true e g = refl
one_part false false true e g = refl
one_part true false s e g = absurd (false≢true (sym e))
one_part false true s e g = absurd (false≢true e)
one_part b c false e g = absurd (false≢true g)

second : (before : List Module) (m n : Module) → is_repeated before n ≡ false → Among before m
    → is_definition m ≡ is_definition n → m.name.name ≡ n.name.name → ⊥
second before m n e a d s =
    let none : are_one_part n m ≡ false = none_that (are_one_part n) before m
    (or_parts (is_second before n) (is_built_in n.name.name) e).0 a in
    let same : same_name n.name.name m.name.name ≡ true = (bytes_decides n.name.name m.name.name).1 (sym s) in
    false≢true (sym none ∙ one_part (is_definition n) (is_definition m) (same_name n.name.name m.name.name) (sym d)
    same)

not_lone : (i d a b : Bool) → ((i && not a) || (d && not b)) ≡ false → d ≡ true → b ≡ true
not_lone i d a true e g = refl
not_lone true true true false e g = sym e
not_lone true true false false e g = sym e
not_lone false true a false e g = sym e
not_lone i false a false e g = g

pub are_fine : (fs : List File) → IsReported fs [] → AreFine (trees fs)
are_fine fs h = record {
  imports = λ m x a i. good_import (is_console x.name) (not (is_definition m) && same_name x.name m.name.name)
      (definition_of (trees fs) x.name) ((fine_at fs h a.0 m a.1).1.imports x i);
  apart = λ j k m n e g d s. elim (cases_order j k) [
    | inl same ↦ same
    | inr other ↦ elim other [
      | inl l ↦ absurd (second (take k (trees fs)) m n (fine_at fs h k n g).1.first (among_taken (trees fs) j k m e l) d
          s)
      | inr l ↦ absurd (second (take j (trees fs)) n m (fine_at fs h j m e).1.first (among_taken (trees fs) k j n g l)
          (sym d) (sym s))
    ]
  ];
  whole = λ m a d. some_that (implements m.name.name) (trees fs)
      (not_lone (is_implementation m) (is_definition m) (is_some (first_that (defines m.name.name) (trees fs)))
      (is_some (first_that (implements m.name.name) (trees fs))) (fine_at fs h a.0 m a.1).1.whole d);
}
