-- A program has one program module, its implementations have definitions, and Console has none.
use Rattle.std.proofs.Common.{◌≡◌, ℕ, zero, suc, Bool, true, false, not, ◌&&◌, ◌||◌, ◌==◌, List, [], ◌∷◌, ◌++◌, length, take, refl, sym, ap, subst, ◌∙◌, append_assoc, inl, inr, Option, Some, None}
use Rattle.std.specs.Prelude.{slice_get, codes}
use Rattle.std.specs.Cmp.Lexicographic.{bytes_decides}
use Rattle.std.proofs.lemmas.Bool.{false≢true, cases_order, or_parts, and_parts}
use Rattle.std.proofs.lemmas.List.{append-nil}
use Rattle.std.proofs.lemmas.Option.{none-some, same_Some}
use Rattle.m2_rule.specs.declared.rule.Rule.TheVariants as rule
use Rattle.m2_rule.specs.declared.rule.Rule.{Rule}
use Rattle.m2_rule.specs.declared.breach.Breach.{Breach}
use Rattle.m2_tree.specs.declared.decl.Module.{Module}
use Rattle.m2_tree.specs.declared.pos.Pos.{Pos}
use Rattle.m2_tree.specs.Names.{is_console, same_name}
use Rattle.m2_graph.specs.Files.{File, trees}
use Rattle.m2_graph.specs.Imports.{imports_of, is_program, is_definition, is_implementation, defines, implements, definition_of}
use Rattle.m2_graph.specs.Refused.{breach_where, first_place, least_of, import_breaches, is_second, is_repeated, is_second_program, is_without_program, is_built_in, is_lone, max_files, breaches_of, any_that}
use Rattle.m2_graph.specs.Reported.{reported_at, cycle_breaches, refused_from, refused_of, IsReported}
use Rattle.m2_graph.proofs.Deciding.{never_none, nothing_reported}
use Rattle.law_graph.proofs.Passing.{none_that, some_that, found_at, among_taken}
use Rattle.law_graph.proofs.Fine.{Fine, fine_file, tree_at}

-- ---- nothing reported, nothing refused

none_least : (fs : List Breach) → least_of fs ≡ None → fs ≡ []
none_least [] e = refl
none_least (f ∷ fs) e = absurd (never_none [] f fs e)

parts_none : {X : Type 0} (xs ys : List X) → xs ++ ys ≡ [] → (xs ≡ []) × (ys ≡ [])
parts_none [] ys e = (refl, e)
parts_none (x ∷ xs) ys e = cc

where_none : (b : Bool) (pos : Pos) (n : Rule) → breach_where b pos n ≡ [] → b ≡ false
where_none true pos n e = cc
where_none false pos n e = refl

single_one : (modules before : List Module) (given : ℕ) (m : Module) (cycle : List Breach)
    → least_of (breaches_of modules before given m ++ cycle) ≡ None → is_second_program before m ≡ false
single_one modules before given m cycle e =
    let a = import_breaches modules m (imports_of m) in
    let b = breach_where (is_repeated before m) m.name.pos rule.SecondFile in
    let c = breach_where (is_second_program before m) m.name.pos rule.ProgramCount in
    let d = breach_where (is_without_program modules before) first_place rule.ProgramCount in
    let f = breach_where (is_lone modules m) m.name.pos rule.LonelyModule in
    let g = breach_where (given == max_files) first_place rule.FileCount in
    let p = parts_none (breaches_of modules before given m) cycle
    (none_least (breaches_of modules before given m ++ cycle) e) in
    let q = parts_none (a ++ b ++ c ++ d ++ f) g p.0 in
    let r = parts_none (a ++ b ++ c ++ d) f q.0 in
    let s = parts_none (a ++ b ++ c) d r.0 in
    let t = parts_none (a ++ b) c s.0 in
    where_none (is_second_program before m) m.name.pos rule.ProgramCount t.1

single_from : (modules : List Module) (cycle : Option (ℕ × Pos)) (before : List Module) (fs : List File)
    → refused_from modules cycle before fs ≡ [] → (k : ℕ) (f : File) → slice_get fs k ≡ Some f
    → is_second_program (before ++ take k (trees fs)) f.tree ≡ false
single_from modules cycle before [] e k f at = absurd (none-some f at)
single_from modules cycle before (g ∷ fs) e zero f at =
    let o = least_of (breaches_of modules before g.given g.tree ++ cycle_breaches cycle (length before)) in
    let h : is_second_program before g.tree ≡ false =
    single_one modules before g.given g.tree (cycle_breaches cycle (length before))
    (nothing_reported g.name o (refused_from modules cycle (before ++ g.tree ∷ []) fs) e) in
    subst (λ (x : File). is_second_program (before ++ []) x.tree ≡ false) (same_Some g f at)
    (subst (λ (xs : List Module). is_second_program xs g.tree ≡ false) (sym (append-nil before)) h)
single_from modules cycle before (g ∷ fs) e (suc k) f at =
    let o = least_of (breaches_of modules before g.given g.tree ++ cycle_breaches cycle (length before)) in
    let h = single_from modules cycle (before ++ g.tree ∷ []) fs
    (parts_none (reported_at g.name o) (refused_from modules cycle (before ++ g.tree ∷ []) fs) e).1 k f at in
    subst (λ (xs : List Module). is_second_program xs f.tree ≡ false)
    (append_assoc before (g.tree ∷ []) (take k (trees fs))) h

single_of : (fs : List File) (cycle : Option (ℕ × Pos)) → refused_of fs cycle ≡ [] → (k : ℕ) (f : File)
    → slice_get fs k ≡ Some f → is_second_program (take k (trees fs)) f.tree ≡ false
single_of [] cycle e k f at = absurd (none-some f at)
single_of (g ∷ fs) cycle e k f at = single_from (trees (g ∷ fs)) cycle [] (g ∷ fs) e k f at

single_at : (fs : List File) → IsReported fs [] → (k : ℕ) (m : Module) → slice_get (trees fs) k ≡ Some m
    → is_second_program (take k (trees fs)) m ≡ false
single_at fs h k m e = let t = tree_at fs k m e in
    subst (λ (x : Module). is_second_program (take k (trees fs)) x ≡ false) t.2 (single_of fs h.0 (sym h.2) k t.0 t.1)

not_second : (b c : Bool) → (b && c) ≡ false → b ≡ true → c ≡ false
not_second true c e g = e
not_second false c e g = absurd (false≢true g)

second : (before : List Module) (m n : Module) → is_second_program before n ≡ false
    → ((k : ℕ) × (slice_get before k ≡ Some m)) → is_program m ≡ true → is_program n ≡ true → ⊥
second before m n e a p q = false≢true (sym
    (none_that is_program before m (not_second (is_program n) (any_that is_program before) e q) a) ∙ p)

-- Two program modules are one.
pub one_program : (fs : List File) → IsReported fs [] → (j k : ℕ) (m n : Module) → slice_get (trees fs) j ≡ Some m
    → slice_get (trees fs) k ≡ Some n → is_program m ≡ true → is_program n ≡ true → j ≡ k
one_program fs h j k m n e g p q = elim (cases_order j k) [
  | inl same ↦ same
  | inr other ↦ elim other [
    | inl l ↦ absurd (second (take k (trees fs)) m n (single_at fs h k n g) (among_taken (trees fs) j k m e l) p q)
    | inr l ↦ absurd (second (take j (trees fs)) n m (single_at fs h j m e) (among_taken (trees fs) k j n g l) q p)
  ]
]

-- ---- names

fine_at : (fs : List File) → IsReported fs [] → (k : ℕ) (m : Module) → slice_get (trees fs) k ≡ Some m → (given : ℕ)
    × Fine (trees fs) (take k (trees fs)) given m
fine_at fs h k m e = let t = tree_at fs k m e in
    (t.0.given, subst (λ (x : Module). Fine (trees fs) (take k (trees fs)) t.0.given x) t.2 (fine_file fs h k t.0 t.1))

both_true : (i d a b : Bool) → ((i && not a) || (d && not b)) ≡ false → i ≡ true → a ≡ true
both_true i d true b e g = refl
both_true true true false true e g = sym e
both_true true true false false e g = sym e
both_true true false false b e g = sym e
both_true false d false b e g = g

-- An implementation has a definition.
pub has_definition : (fs : List File) → IsReported fs [] → (k : ℕ) (m : Module) → slice_get (trees fs) k ≡ Some m
    → is_implementation m ≡ true → (i : ℕ) × (definition_of (trees fs) m.name.name ≡ Some i)
has_definition fs h k m e is =
    let lone = (fine_at fs h k m e).1.whole in
    some_that (defines m.name.name) (trees fs)
    (both_true (is_implementation m) (is_definition m) (any_that (defines m.name.name) (trees fs))
    (any_that (implements m.name.name) (trees fs)) lone is)

-- Console has no definition.
pub no_console : (fs : List File) → IsReported fs [] → (n : List ℕ) → is_console n ≡ true
    → definition_of (trees fs) n ≡ None
no_console fs h n is = by (definition_of (trees fs) n) refl
  where
    by : (o : Option ℕ) → definition_of (trees fs) n ≡ o → o ≡ None
    by None e = refl
    by (Some i) e =
        let f = found_at (defines n) (trees fs) i e in
        let same : n ≡ f.0.name.name = (bytes_decides n f.0.name.name).0
        (and_parts (is_definition f.0) (same_name n f.0.name.name) f.2).1 in
        let first = (fine_at fs h i f.0 f.1).1.first in
        let other : is_console f.0.name.name ≡ false =
        (or_parts (is_console f.0.name.name) (same_name f.0.name.name (codes "link"))
        (or_parts (is_second (take i (trees fs)) f.0) (is_built_in f.0.name.name) first).1).0 in
        absurd (false≢true (sym other ∙ ap is_console (sym same) ∙ is))
