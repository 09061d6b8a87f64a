-- Nothing is refused of the empty modules that stand for parts, if whatever these import is there.
use Rattle.std.proofs.Common.{◌≡◌, ◌<◌, ◌≤◌, ℕ, zero, suc, ◌+◌, Bool, true, false, cond, not, ◌&&◌, ◌||◌, ◌==◌, List, [], ◌∷◌, length, map, take, refl, sym, ap, ap₂, subst, ◌∙◌, inl, inr, arith, Option, Some, None, option_map, ◌⊎◌}
use Rattle.std.specs.Prelude.{slice_get}
use Rattle.std.specs.List.{filter_map, Contains}
use Rattle.std.specs.Option.{is_none, is_some, unwrap_or}
use Rattle.std.specs.String.{string_bytes}
use Rattle.std.specs.Cmp.Lexicographic.{bytes_decides}
use Rattle.std.proofs.lemmas.Bool.{false≢true, cases_lt, or_parts, and_parts, ne_eqb, eqb-true}
use Rattle.std.proofs.lemmas.List.{length-map}
use Rattle.std.proofs.lemmas.List.Sorted.{IsPermutation-map, IsPermutation-sym, length_permutation}
use Rattle.std.proofs.lemmas.Option.{none-some, slice_get-get_or, slice_get_within, get_or_from_slice_get}
use Rattle.m2_tree.specs.Names.{same_name, is_console}
use Rattle.m2_tree.specs.declared.name.Ident.{Ident}
use Rattle.m2_tree.specs.declared.decl.Module.{Module}
use Rattle.graph_walk.specs.Links.{has, times, targets, Leads, Pair, Longer}
use Rattle.graph_walk.proofs.Chains.{first_step, has_times}
use Rattle.m2_graph.specs.Files.{File, AreInOrder, number_files, trees, given_of}
use Rattle.m2_graph.specs.Imports.{imports_of, is_definition, is_program, is_implementation, defines, implements, first_that, definition_of, links_of, links}
use Rattle.m2_graph.specs.Refused.{is_bad_import, are_one_part, is_second, is_built_in, is_second_program, is_without_program, is_lone, any_that, max_files}
use Rattle.m2_graph.specs.Reported.{IsReported}
use Rattle.empty_modules.specs.Empty.{empty_definition}
use Rattle.law_graph.specs.Started.{definition_imported, imported_by, all_imported}
use Rattle.law_graph.proofs.Lists.{Among, none_among, later_among, among_cases, has_among, among_has, among_append_cases, among_filtered, filtered_among, among-map, map_among, among-permutation, few_below}
use Rattle.law_graph.proofs.Passing.{found_at, some_that}
use Rattle.law_graph.proofs.Fine.{AreFine, Fine, are_fine, fine_file, tree_at}
use Rattle.law_graph.proofs.Given.{given_trees, tree_given, given_among, few_files}
use Rattle.law_graph.proofs.Starting.{same_at}
use Rattle.law_graph.proofs.Circling.{one_reported}
use Rattle.law_graph.proofs.Outcomes.{graph_or_refused}
use Rattle.law_separation.specs.Alike.{Tree, Jobs}
use Rattle.law_separation.proofs.Numbered.{row, row_at}
use Rattle.link_parts.specs.declared.part.Part.{Part}
use Rattle.link_parts.specs.Stands.{body_of, stands_for, trees_of}
use Rattle.law_linking.specs.Parts.{unless, IsPart, AreParts, AreWhole, PartsAreAccepted}
use Rattle.law_linking.proofs.Single.{one_program, has_definition}
use Rattle.law_linking.proofs.Circles.{no_cycles}
use Rattle.law_linking.proofs.Finding.{Meant, meant, Implemented, implemented}
use Rattle.law_linking.proofs.Standing.{Stand, stand_there, body_kind, body_program, body_name, body_imports, program_kind, part_is, place_of}
use Rattle.law_linking.proofs.Pairing.{is_body}
use Rattle.law_linking.proofs.Counting.{count, count-permutation, count_fewer, times_count, twice, taken_at, some_among}
use Rattle.law_linking.proofs.Alone.{body_stands, definition_stands, stand_name, one_part, one_part_is, few_alike}
use Rattle.law_linking.proofs.Passed.{Passes, nothing_refused}

-- ---- lists

contains_among : {X : Type 0} (xs : List X) (x : X) → Contains xs x → Among xs x
contains_among xs x c = (c.0, slice_get-get_or xs c.0 x c.1 ∙ ap Some c.2)

among_contains : {X : Type 0} (xs : List X) (x : X) → Among xs x → Contains xs x
among_contains xs x a = (a.0, slice_get_within xs a.0 x a.1, get_or_from_slice_get xs a.0 x x a.1)

-- what stands once was there, and has no mark
once_among : (names : List (List ℕ)) (marked : List ℕ → Bool) (n : List ℕ) → Among (unless marked names) n
    → Among names n × (marked n ≡ false)
once_among [] marked n a = absurd (none_among n a)
once_among (x ∷ xs) marked n a = by (marked x) refl (once_among xs marked n)
    (once_among xs (λ y. marked y || same_name x y) n) a
  where
    by : (b : Bool) → marked x ≡ b → (Among (unless marked xs) n → Among xs n × (marked n ≡ false))
        → (Among (unless (λ y. marked y || same_name x y) xs) n → Among xs n × ((marked n || same_name x n) ≡ false))
        → Among (cond b (unless marked xs) (x ∷ unless (λ y. marked y || same_name x y) xs)) n → Among (x ∷ xs) n
        × (marked n ≡ false)
    by true m out kept a = let r = out a in (later_among x xs n r.0, r.1)
    by false m out kept a = elim (among_cases x (unless (λ y. marked y || same_name x y) xs) n a) [
      | inl e ↦ ((0, ap Some e), ap marked (sym e) ∙ m)
      | inr more ↦ (let r = kept more in (later_among x xs n r.0, (or_parts (marked n) (same_name x n) r.1).0))
    ]

some_not_none : (o : Option ℕ) → is_some o ≡ true → is_none o ≡ false
some_not_none None e = absurd (false≢true e)
some_not_none (Some i) e = refl

numbered_length : (n : ℕ) (fs : List Tree) → length (number_files n fs) ≡ length fs
numbered_length n [] = refl
numbered_length n (f ∷ fs) = ap suc (numbered_length (n + 1) fs)

numbered_trees : (n : ℕ) (fs : List Tree) → trees (number_files n fs) ≡ given_trees fs
numbered_trees n [] = refl
numbered_trees n (f ∷ fs) = ap (λ (ms : List Module). f.1 ∷ ms) (numbered_trees (n + 1) fs)

numbered_below : (n : ℕ) (fs : List Tree) (k : ℕ) (f : File) → slice_get (number_files n fs) k ≡ Some f
    → f.given < n + length fs
numbered_below n [] k f e = absurd (none-some f e)
numbered_below n (t ∷ fs) zero f e = let g : n ≡ f.given = ap (λ (x : Option File). by x) e in omega (arith, g)
  where
    by : Option File → ℕ
    by None = n
    by (Some x) = x.given
numbered_below n (t ∷ fs) (suc k) f e = let l = numbered_below (n + 1) fs k f e in omega (arith, l)

is_where : (b : Bool) → (b ≡ true → ⊥) → b ≡ false
is_where true h = absurd (h refl)
is_where false h = refl

-- ---- what is imported

not_bad : (c : Bool) (o : Option ℕ) (d : Bool) → ((not c && is_none o) || d) ≡ false → c ≡ false
    → ((t : ℕ) × (o ≡ Some t)) × (d ≡ false)
not_bad true o d e f = absurd (false≢true (sym f))
not_bad false (Some t) d e f = ((t, refl), e)
not_bad false None d e f = absurd (false≢true (sym e))

good_import : (c : Bool) (o : Option ℕ) (b s : Bool) → is_none o ≡ false → s ≡ false
    → ((not c && is_none o) || (not b && s)) ≡ false
good_import true o true s e f = refl
good_import true o false s e f = f
good_import false o true s e f = ap (λ (n : Bool). n || false) e
good_import false o false s e f = ap₂ (λ (n m : Bool). n || m) e f

module _ (given : List Tree) (jobs : Jobs given) where
  abbrev ordered : List File
  ordered = jobs.is_graph.0

  abbrev whole : List Module
  whole = trees ordered

  reported : IsReported ordered []
  reported = jobs.is_graph.2.fine

  fine : AreFine whole
  fine = are_fine ordered reported

  fine_at : (k : ℕ) (m : Module) → slice_get whole k ≡ Some m → (g : ℕ) × Fine whole (take k whole) g m
  fine_at k m e = let t = tree_at ordered k m e in (
    t.0.given,
    subst (λ (x : Module). Fine whole (take k whole) t.0.given x) t.2
        (fine_file ordered reported k t.0 t.1),
  )

  -- a definition does not import itself
  not_itself : (k : ℕ) (d : Module) (x : Ident) (t : ℕ) → slice_get whole k ≡ Some d → is_definition d ≡ true
      → Among (imports_of d) x → definition_of whole x.name ≡ Some t → same_name x.name d.name.name ≡ false
  not_itself k d x t at is a e = is_where (same_name x.name d.name.name)
      (λ same. no_cycles ordered reported k (Pair k (circle same)))
    where
      here : Meant whole x.name t
      here = meant whole x.name t e

      circle : same_name x.name d.name.name ≡ true → has (targets (links whole) k) k ≡ true
      circle same =
          let q : t ≡ k = fine.apart t k here.m d here.at at (here.kind ∙ sym is)
          (sym here.same ∙ (bytes_decides x.name d.name.name).0 same) in
          let l : Among (links_of whole d) k =
          among_filtered (λ (i : Ident). definition_of whole i.name) (imports_of d) x k a (e ∙ ap Some q) in
          let r : targets (links whole) k ≡ links_of whole d = row_at (links_of whole) whole k
          ∙ ap (row (links_of whole)) at in
          among_has (targets (links whole) k) k (subst (λ (ks : List ℕ). Among ks k) (sym r) l)

  -- a name that is imported, but for Console, has a definition, and is another
  record Good (n other : List ℕ) : Type 0 where
    place : ℕ
    found : definition_of whole n ≡ Some place
    apart : same_name n other ≡ false

  good_own : (c : ℕ) (m : Module) (x : Ident) → slice_get whole c ≡ Some m → is_definition m ≡ false
      → Among (imports_of m) x → is_console x.name ≡ false → Good x.name m.name.name
  good_own c m x at d a n =
      let g = not_bad (is_console x.name) (definition_of whole x.name)
      (not (is_definition m) && same_name x.name m.name.name) ((fine_at c m at).1.imports x a) n in
      record {
        place = g.0.0;
        found = g.0.1;
        apart = ap (λ (b : Bool). not b && same_name x.name m.name.name) (sym d)
            ∙ g.1;
      }

  good_defined : (k : ℕ) (d : Module) (x : Ident) → slice_get whole k ≡ Some d → is_definition d ≡ true
      → Among (imports_of d) x → is_console x.name ≡ false → Good x.name d.name.name
  good_defined k d x at is a n =
      let g = not_bad (is_console x.name) (definition_of whole x.name)
      (not (is_definition d) && same_name x.name d.name.name) ((fine_at k d at).1.imports x a) n in
      record { place = g.0.0; found = g.0.1; apart = not_itself k d x g.0.0 at is a g.0.1 }

  good_imported : (c : ℕ) (m : Module) (x : Ident) → slice_get whole c ≡ Some m → is_definition m ≡ false
      → Among (all_imported (given_trees given) m) x → is_console x.name ≡ false → Good x.name m.name.name
  good_imported c m x at d a n = elim (among_append_cases
      (definition_imported (given_trees given) (definition_of (given_trees given) m.name.name)) (imports_of m) x a) [
        | inl i ↦ by (definition_of (given_trees given) m.name.name) refl i
        | inr i ↦ good_own c m x at d i n
      ]
    where
      by : (o : Option ℕ) → definition_of (given_trees given) m.name.name ≡ o
          → Among (definition_imported (given_trees given) o) x → Good x.name m.name.name
      by None e i = absurd (none_among x i)
      by (Some j) e i = there (meant (given_trees given) m.name.name j e)
        where
          there : Meant (given_trees given) m.name.name j → Good x.name m.name.name
          there f =
              let w = given_among given ordered jobs.is_graph.1 f.m (j, f.at) in
              let imported : Among (imports_of f.m) x = subst (λ (o : Option Module). Among (imported_by o) x) f.at i in
              subst (λ (name : List ℕ). Good x.name name) (sym f.same) (good_defined w.0 f.m x w.1 f.kind imported n)

-- ---- the modules that stand for parts

module _ (given : List Tree) (jobs : Jobs given) (ps : List Part) (parts : AreParts given jobs ps) (all : AreWhole ps)
    (others : List File) (o : AreInOrder (number_files 0 (trees_of (stands_for ps))) others) where
  abbrev stands : List Module
  stands = trees others

  stand_of : (k : ℕ) (s : Module) → slice_get stands k ≡ Some s → Stand ps (given_of others k) s
  stand_of k s e = stand_there ps (given_of others k) s (tree_given (trees_of (stands_for ps)) others o k s e)

  part_at : (p : Part) → Among ps p → IsPart given jobs p
  part_at p a = part_is given jobs ps parts p a

  -- where the body of a part is
  place_at : (p : Part) (is : IsPart given jobs p) → (r : ℕ) × (slice_get (whole given jobs) r ≡ Some is.body)
      × (given_of (ordered given jobs) r ≡ is.file)
  place_at p is = place_of given (ordered given jobs) jobs.is_graph.1 is.file is.body is.there

  there_body : (p : Part) → Among ps p → Among stands (body_of p)
  there_body p a = given_among (trees_of (stands_for ps)) others o (body_of p) (body_stands ps p a)

  there_definition : (p : Part) → Among ps p → p.is_program ≡ false
      → Among stands (empty_definition (string_bytes p.name))
  there_definition p a e = given_among (trees_of (stands_for ps)) others o (empty_definition (string_bytes p.name))
      (definition_stands ps p a e)

  -- ---- of one sort and name there is one

  few : (s : Module) → count (are_one_part s) stands ≤ 1
  few s =
      let e : count (are_one_part s) stands ≡ count (are_one_part s)
      (trees (number_files 0 (trees_of (stands_for ps)))) =
      count-permutation (are_one_part s) (trees (number_files 0 (trees_of (stands_for ps)))) stands
      (IsPermutation-map (λ (f : File). f.tree) (number_files 0 (trees_of (stands_for ps))) others o.same) in
      let d : count (are_one_part s) (trees (number_files 0 (trees_of (stands_for ps))))
      ≡ count (are_one_part s) (given_trees (trees_of (stands_for ps))) =
      ap (count (are_one_part s)) (numbered_trees 0 (trees_of (stands_for ps))) in
      let l = few_alike ps all.apart s in
      omega (arith, e, d, l)

  no_second : (k : ℕ) (s : Module) → slice_get stands k ≡ Some s → is_second (take k stands) s ≡ false
  no_second k s e = is_where (is_second (take k stands) s) (λ h. found (some_that (are_one_part s) (take k stands) h))
    where
      found : ((i : ℕ) × (first_that (are_one_part s) (take k stands) ≡ Some i)) → ⊥
      found i =
          let f = found_at (are_one_part s) (take k stands) i.0 i.1 in
          let t = taken_at k stands i.0 f.0 f.1 in
          let l = twice (are_one_part s) stands i.0 k f.0 s t.1 t.0 e f.2 (one_part s s refl refl) in
          let m = few s in
          absurd (omega (arith, l, m))

  -- a name that is built in
  not_built_in : (k : ℕ) (s : Module) → slice_get stands k ≡ Some s → is_built_in s.name.name ≡ false
  not_built_in k s e =
      let t = stand_of k s e in
      let is = part_at t.p t.among in
      let r = place_at t.p is in
      let name : s.name.name ≡ is.body.name.name = stand_name t.p s t.is ∙ is.name in
      ap is_built_in name ∙ (or_parts (is_second (take r.0 (whole given jobs)) is.body) (is_built_in is.body.name.name)
      (fine_at given jobs r.0 is.body r.1).1.first).1

  -- ---- programs

  program_there : Among stands (body_of all.program)
  program_there = there_body all.program (contains_among ps all.program all.program_there)

  some_program : any_that is_program stands ≡ true
  some_program = some_among is_program stands (body_of all.program) program_there
      (body_program all.program ∙ all.is_program)

  -- a program module in order stands for a part of which the body is the program module
  record Programs (s : Module) : Type 0 where
    body : Module
    place : ℕ
    at : slice_get (whole given jobs) place ≡ Some body
    is : is_program body ≡ true
    name : s.name.name ≡ body.name.name

  programs : (k : ℕ) (s : Module) → slice_get stands k ≡ Some s → is_program s ≡ true → Programs s
  programs k s e p = by (stand_of k s e)
    where
      by : Stand ps (given_of others k) s → Programs s
      by t = elim t.is [
        | inl b ↦ (
            let is = part_at t.p t.among in
            let r = place_at t.p is in
            record {
              body = is.body;
              place = r.0;
              at = r.1;
              is = sym is.program ∙ sym (body_program t.p) ∙ ap is_program (sym b) ∙ p;
              name = stand_name t.p s t.is ∙ is.name;
            })
        | inr d ↦ absurd (false≢true (sym (program_kind s p) ∙ ap is_definition d.1))
      ]

  one_stands : (j k : ℕ) (s t : Module) → slice_get stands j ≡ Some s → slice_get stands k ≡ Some t
      → is_program s ≡ true → is_program t ≡ true → are_one_part s t ≡ true
  one_stands j k s t e f p q =
      let a = programs j s e p in
      let b = programs k t f q in
      let i : a.place ≡ b.place = one_program (ordered given jobs) (reported given jobs) a.place b.place a.body b.body
      a.at b.at a.is b.is in
      let same : a.body ≡ b.body = same_at (slice_get (whole given jobs) b.place) a.body b.body
      (ap (slice_get (whole given jobs)) (sym i) ∙ a.at) b.at in
      one_part s t (program_kind s p ∙ sym (program_kind t q))
      (a.name ∙ ap (λ (m : Module). m.name.name) same ∙ sym b.name)

  no_second_program : (k : ℕ) (s : Module) → slice_get stands k ≡ Some s → is_second_program (take k stands) s ≡ false
  no_second_program k s e = is_where (is_second_program (take k stands) s) (λ h.
      let both = and_parts (is_program s) (any_that is_program (take k stands)) h in
      found both.0 (some_that is_program (take k stands) both.1))
    where
      found : is_program s ≡ true → ((i : ℕ) × (first_that is_program (take k stands) ≡ Some i)) → ⊥
      found p i =
          let f = found_at is_program (take k stands) i.0 i.1 in
          let t = taken_at k stands i.0 f.0 f.1 in
          let one = one_stands k i.0 s f.0 e t.0 p f.2 in
          let l = twice (are_one_part s) stands i.0 k f.0 s t.1 t.0 e one (one_part s s refl refl) in
          let m = few s in
          absurd (omega (arith, l, m))

  with_program : (before : List Module) → is_without_program stands before ≡ false
  with_program before = ap (λ (b : Bool). (length before == 0) && not b) some_program ∙ nothing (length before == 0)
    where
      nothing : (b : Bool) → (b && false) ≡ false
      nothing true = refl
      nothing false = refl

  -- ---- definitions and implementations

  not_lone : (k : ℕ) (s : Module) → slice_get stands k ≡ Some s → is_lone stands s ≡ false
  not_lone k s e = by (stand_of k s e)
    where
      none_left : (i : Bool) (a d b : Bool) → d ≡ false → (i ≡ true → a ≡ true) → ((i && not a) || (d && not b)) ≡ false
      none_left true true false b e h = refl
      none_left true false false b e h = absurd (false≢true (h refl))
      none_left false a false b e h = refl
      none_left i a true b e h = absurd (false≢true (sym e))

      none_right : (i : Bool) (a d b : Bool) → i ≡ false → b ≡ true → ((i && not a) || (d && not b)) ≡ false
      none_right false a true true e h = refl
      none_right false a false true e h = refl
      none_right i a d false e h = absurd (false≢true h)
      none_right true a d true e h = absurd (false≢true (sym e))

      by : Stand ps (given_of others k) s → is_lone stands s ≡ false
      by t = elim t.is [
        | inl b ↦ (
            let d : is_definition s ≡ false = ap is_definition b ∙ body_kind t.p in
            none_left (is_implementation s) (any_that (defines s.name.name) stands) (is_definition s)
            (any_that (implements s.name.name) stands) d (λ i. defined t b i))
        | inr b ↦ none_right (is_implementation s) (any_that (defines s.name.name) stands) (is_definition s)
            (any_that (implements s.name.name) stands) (ap is_implementation b.1) (implemented_there t b.0 b.1)
      ]
        where
          defined : (t : Stand ps (given_of others k) s) → s ≡ body_of t.p → is_implementation s ≡ true
              → any_that (defines s.name.name) stands ≡ true
          defined t b i =
              let p : is_program s ≡ false = (or_not (is_definition s) (is_program s) i) in
              let e : t.p.is_program ≡ false = sym (body_program t.p) ∙ ap is_program (sym b) ∙ p in
              let n : s.name.name ≡ string_bytes t.p.name = stand_name t.p s t.is in
              some_among (defines s.name.name) stands (empty_definition (string_bytes t.p.name))
              (there_definition t.p t.among e) ((bytes_decides s.name.name (string_bytes t.p.name)).1 n)
            where
              or_not : (c b : Bool) → not (c || b) ≡ true → b ≡ false
              or_not true b e = absurd (false≢true e)
              or_not false true e = absurd (false≢true e)
              or_not false false e = refl

          implemented_there : (t : Stand ps (given_of others k) s) → t.p.is_program ≡ false
              → s ≡ empty_definition (string_bytes t.p.name) → any_that (implements s.name.name) stands ≡ true
          implemented_there t e b =
              let n : s.name.name ≡ (body_of t.p).name.name = stand_name t.p s t.is ∙ sym (body_name t.p) in
              some_among (implements s.name.name) stands (body_of t.p) (there_body t.p t.among)
              (ap₂ (λ (c d : Bool). c && d) (is_body (body_of t.p) (body_kind t.p) (body_program t.p ∙ e))
              ((bytes_decides s.name.name (body_of t.p).name.name).1 n))

  -- ---- imports

  -- a definition imports nothing
  none_imported : (k : ℕ) (s : Module) → slice_get stands k ≡ Some s → is_definition s ≡ true → imports_of s ≡ []
  none_imported k s e d = by (stand_of k s e)
    where
      by : Stand ps (given_of others k) s → imports_of s ≡ []
      by t = elim t.is [
        | inl b ↦ absurd (false≢true (sym (body_kind t.p) ∙ ap is_definition (sym b) ∙ d))
        | inr b ↦ ap
            imports_of b.1
      ]

  -- a part whose name means a definition is no program
  is_no_program : (q : Part) (a : Among ps q) (n : List ℕ) (t : ℕ) → string_bytes q.name ≡ n
      → definition_of (whole given jobs) n ≡ Some t → q.is_program ≡ false
  is_no_program q a n t same e = by (part_at q a)
    where
      d : Meant (whole given jobs) n t
      d = meant (whole given jobs) n t e

      i : Implemented (whole given jobs) d.m
      i = implemented (whole given jobs) (fine given jobs) d.m (t, d.at) d.kind

      by : IsPart given jobs q → q.is_program ≡ false
      by is =
          let r = place_at q is in
          let name : is.body.name.name ≡ i.m.name.name = sym is.name ∙ same ∙ d.same ∙ i.same in
          let place : r.0 ≡ i.place = (fine given jobs).apart r.0 i.place is.body i.m r.1 i.at (is.kind ∙ sym i.kind)
          name in
          let body : is.body ≡ i.m = same_at (slice_get (whole given jobs) i.place) is.body i.m
          (ap (slice_get (whole given jobs)) (sym place) ∙ r.1) i.at in
          is.program ∙ ap is_program body ∙ i.no_program

  -- a part of this name, which means a definition, has an empty definition
  definition_found : (q : Part) (a : Among ps q) (n : List ℕ) (t : ℕ) → string_bytes q.name ≡ n
      → definition_of (whole given jobs) n ≡ Some t → is_none (definition_of stands n) ≡ false
  definition_found q a n t same e =
      some_not_none (definition_of stands n)
      (some_among (defines n) stands (empty_definition (string_bytes q.name))
      (there_definition q a (is_no_program q a n t same e)) ((bytes_decides n (string_bytes q.name)).1 (sym same)))

  body_import : (p : Part) → Among ps p → (is : IsPart given jobs p) (s : Module) → s.name.name ≡ is.body.name.name
      → (n : List ℕ) → Among (map string_bytes p.imports.items) n → is_bad_import stands s n ≡ false
  body_import p a is s name n i =
      good_import (is_console n) (definition_of stands n) (is_definition s) (same_name n s.name.name)
      (definition_found q.0 q.1 n good.place q.2 good.found) (ap (same_name n) name ∙ good.apart)
    where
      q : (q : Part) × Among ps q × (string_bytes q.name ≡ n)
      q = map_among (λ (x : Part). string_bytes x.name) ps n
          (contains_among (map (λ (x : Part). string_bytes x.name) ps) n
          (all.closed p n (among_contains ps p a) (among_contains (map string_bytes p.imports.items) n i)))

      names : List (List ℕ)
      names = map (λ (x : Ident). x.name) (all_imported (given_trees given) is.body)

      once : Among names n × (is_console n ≡ false)
      once = once_among names is_console n (subst (λ (ns : List (List ℕ)). Among ns n) is.imports i)

      good : Good given jobs n is.body.name.name
      good = by (map_among (λ (x : Ident). x.name) (all_imported (given_trees given) is.body) n once.0) (place_at p is)
        where
          by : ((x : Ident) × Among (all_imported (given_trees given) is.body) x × (x.name ≡ n))
              → ((r : ℕ) × (slice_get (whole given jobs) r ≡ Some is.body)
              × (given_of (ordered given jobs) r ≡ is.file)) → Good given jobs n is.body.name.name
          by x r = subst (λ (m : List ℕ). Good given jobs m is.body.name.name) x.2
              (good_imported given jobs r.0 is.body x.0 r.1 is.kind x.1 (ap is_console x.2 ∙ once.1))

  good_imports : (k : ℕ) (s : Module) → slice_get stands k ≡ Some s → (x : Ident) → Among (imports_of s) x
      → is_bad_import stands s x.name ≡ false
  good_imports k s e x i = by (stand_of k s e)
    where
      by : Stand ps (given_of others k) s → is_bad_import stands s x.name ≡ false
      by t = elim t.is [
        | inl b ↦ (
            let is = part_at t.p t.among in
            let name : s.name.name ≡ is.body.name.name = stand_name t.p s t.is ∙ is.name in
            let there : Among (imports_of (body_of t.p)) x = subst (λ (m : Module). Among (imports_of m) x) b i in
            let named : Among (map string_bytes t.p.imports.items) x.name =
            subst (λ (ns : List (List ℕ)). Among ns x.name) (body_imports t.p)
            (among-map (λ (y : Ident). y.name) (imports_of (body_of t.p)) x there) in
            body_import t.p t.among is s name x.name named)
        | inr b ↦ absurd (none_among x (subst (λ (m : Module). Among (imports_of m) x) b.1 i))
      ]

  -- ---- cycles

  ends : (from to : ℕ) → Leads (links stands) from to → (middle : ℕ) × (has (targets (links stands) middle) to ≡ true)
  ends from to (Pair _ h) = (from, h)
  ends from to (Longer middle _ l h) = (middle, h)

  -- what a pair goes to is a definition
  leads_to : (from to : ℕ) → has (targets (links stands) from) to ≡ true → (n : List ℕ)
      × (definition_of stands n ≡ Some to)
  leads_to from to h = by (slice_get stands from)
      (subst (λ (ks : List ℕ). Among ks to) (row_at (links_of stands) stands from)
      (has_among (targets (links stands) from) to h))
    where
      by : (o : Option Module) → Among (row (links_of stands) o) to → (n : List ℕ) × (definition_of stands n ≡ Some to)
      by None a = absurd (none_among to a)
      by (Some m) a = let f = filtered_among (λ (i : Ident). definition_of stands i.name) (imports_of m) to a in
          (f.0.name, f.2)

  nowhere : (node : ℕ) (s : Module) → slice_get stands node ≡ Some s → is_definition s ≡ true
      → targets (links stands) node ≡ []
  nowhere node s e d = row_at (links_of stands) stands node ∙ ap (row (links_of stands)) e
      ∙ ap (λ (is : List Ident). filter_map (λ (i : Ident). definition_of stands i.name) is) (none_imported node s e d)

  no_circle : (node : ℕ) → Leads (links stands) node node → ⊥
  no_circle node l = by (ends node node l) (first_step (links stands) node node l)
    where
      by : ((middle : ℕ) × (has (targets (links stands) middle) node ≡ true))
          → ((next : ℕ) × (has (targets (links stands) node) next ≡ true)
          × ((next ≡ node) ⊎ Leads (links stands) next node)) → ⊥
      by m n =
          let i = leads_to m.0 node m.1 in
          let d = meant stands i.0 node i.1 in
          false≢true (ap (λ (ks : List ℕ). has ks n.0) (sym (nowhere node d.m d.at d.kind)) ∙ n.1)

  -- ---- how many files there are

  -- the module of the program of this sort and name
  abbrev node_of : Module → ℕ
  node_of s = unwrap_or (first_that (are_one_part s) (whole given jobs)) 0

  record Node (s : Module) : Type 0 where
    m : Module
    at : slice_get (whole given jobs) (node_of s) ≡ Some m
    alike : are_one_part s m ≡ true

  alike_there : (k : ℕ) (s : Module) → slice_get stands k ≡ Some s → (m : Module) × Among (whole given jobs) m
      × (are_one_part s m ≡ true)
  alike_there k s e = by (stand_of k s e)
    where
      by : Stand ps (given_of others k) s → (m : Module) × Among (whole given jobs) m × (are_one_part s m ≡ true)
      by t = elim t.is [
        | inl b ↦ (
          is.body,
          (r.0, r.1),
          one_part s is.body (ap is_definition b ∙ body_kind t.p ∙ sym is.kind)
              (stand_name t.p s t.is ∙ is.name),
        )
        | inr b ↦ definition b.0 b.1
      ]
        where
          is : IsPart given jobs t.p
          is = part_at t.p t.among

          r : (r : ℕ) × (slice_get (whole given jobs) r ≡ Some is.body) × (given_of (ordered given jobs) r ≡ is.file)
          r = place_at t.p is

          definition : t.p.is_program ≡ false → s ≡ empty_definition (string_bytes t.p.name) → (m : Module)
              × Among (whole given jobs) m × (are_one_part s m ≡ true)
          definition p b =
              let i = has_definition (ordered given jobs) (reported given jobs) r.0 is.body r.1
              (is_body is.body is.kind (sym is.program ∙ p)) in
              let d = meant (whole given jobs) is.body.name.name i.0 i.1 in (
                d.m,
                (i.0, d.at),
                one_part s d.m (ap is_definition b ∙ sym d.kind)
                    (stand_name t.p s t.is ∙ is.name ∙ d.same),
              )

  node : (k : ℕ) (s : Module) → slice_get stands k ≡ Some s → Node s
  node k s e = by (alike_there k s e)
    where
      by : ((m : Module) × Among (whole given jobs) m × (are_one_part s m ≡ true)) → Node s
      by a =
          let i = some_that (are_one_part s) (whole given jobs)
          (some_among (are_one_part s) (whole given jobs) a.0 a.1 a.2) in
          let f = found_at (are_one_part s) (whole given jobs) i.0 i.1 in
          record {
            m = f.0;
            at = ap (λ (o : Option ℕ). slice_get (whole given jobs) (unwrap_or o 0)) i.1 ∙ f.1;
            alike =
                f.2;
          }

  nodes_apart : (x y : Module) → Among stands x → Among stands y → node_of y ≡ node_of x → are_one_part x y ≡ true
  nodes_apart x y a b e =
      let u = node a.0 x a.1 in
      let v = node b.0 y b.1 in
      let same : v.m ≡ u.m = same_at (slice_get (whole given jobs) (node_of x)) v.m u.m
      (ap (slice_get (whole given jobs)) (sym e) ∙ v.at) u.at in
      let l = one_part_is x u.m u.alike in
      let r = one_part_is y v.m v.alike in
      one_part x y (l.0 ∙ ap is_definition (sym same) ∙ sym r.0)
      (l.1 ∙ ap (λ (m : Module). m.name.name) (sym same) ∙ sym r.1)

  nodes_once : (k : ℕ) → times (map node_of stands) k ≤ 1
  nodes_once k = elim (cases_lt 1 (times (map node_of stands) k)) [
    | inr g ↦ omega (arith, g)
    | inl l ↦ (let s = some (map_among node_of stands k
        (has_among (map node_of stands) k (has_times (map node_of stands) k (omega (arith, l))))) in omega (arith, s))
  ]
    where
      some : ((x : Module) × Among stands x × (node_of x ≡ k)) → times (map node_of stands) k ≤ 1
      some x =
          let e = times_count node_of k stands in
          let l = count_fewer (λ (y : Module). node_of y == k) (are_one_part x.0) stands
          (λ y a h. nodes_apart x.0 y x.1 a (eqb-true (node_of y) k h ∙ sym x.2)) in
          let m = few x.0 in
          omega (arith, e, l, m)

  few_stands : length stands ≤ length (whole given jobs)
  few_stands =
      let l = few_below (length (whole given jobs)) (map node_of stands) nodes_once within in
      let m = length-map stands node_of in
      omega (arith, l, m)
    where
      within : (k : ℕ) → has (map node_of stands) k ≡ true → k < length (whole given jobs)
      within k h = by (map_among node_of stands k (has_among (map node_of stands) k h))
        where
          by : ((x : Module) × Among stands x × (node_of x ≡ k)) → k < length (whole given jobs)
          by x = let n = node x.1.0 x.0 x.1.1 in
              subst (λ (j : ℕ). j < length (whole given jobs)) x.2
              (slice_get_within (whole given jobs) (node_of x.0) n.m n.at)

  not_many : (k : ℕ) (f : File) → slice_get others k ≡ Some f → (f.given == max_files) ≡ false
  not_many k f e = ne_eqb f.given 1024 (λ q. absurd (omega (arith, q, below, few, many, same, long, files)))
    where
      fs : List Tree
      fs = trees_of (stands_for ps)

      a : Among (number_files 0 fs) f
      a = among-permutation others (number_files 0 fs) f (IsPermutation-sym (number_files 0 fs) others o.same) (k, e)

      below : f.given < 0 + length fs
      below = numbered_below 0 fs a.0 f a.1

      few : length stands ≤ length (whole given jobs)
      few = few_stands

      many : length (whole given jobs) ≤ 1024
      many = few_files given (ordered given jobs) jobs.is_graph.1 (reported given jobs)

      same : length others ≡ length (number_files 0 fs)
      same = length_permutation (number_files 0 fs) others o.same

      long : length (number_files 0 fs) ≡ length fs
      long = numbered_length 0 fs

      files : length stands ≡ length others
      files = length-map others (λ (g : File). g.tree)

  -- ---- the whole

  passes : (k : ℕ) (f : File) → slice_get others k ≡ Some f → (s : Module) → f.tree ≡ s → slice_get stands k ≡ Some s
      → Passes stands (take k stands) f.given s
  passes k f e s q at = record {
    imports = good_imports k s at;
    first = ap₂ (λ (b c : Bool). b || c) (no_second k s at) (not_built_in k s at);
    single = no_second_program k s at;
    program = with_program (take k stands);
    whole = not_lone k s at;
    counted = not_many k f e;
  }

  pub none_reported : IsReported others []
  none_reported = nothing_refused others program_there.0 (body_of all.program) program_there.1 no_circle
      (λ k f e. passes k f e f.tree refl (tree_in others k f e))
    where
      tree_in : (fs : List File) (k : ℕ) (f : File) → slice_get fs k ≡ Some f → slice_get (trees fs) k ≡ Some f.tree
      tree_in [] k f e = absurd (none-some f e)
      tree_in (g ∷ fs) zero f e = ap (λ (x : Option File). option_map (λ (h : File). h.tree) x) e
      tree_in (g ∷ fs) (suc k) f e = tree_in fs k f e

pub parts_accepted : PartsAreAccepted
parts_accepted given jobs ps parts all = elim (graph_or_refused (number_files 0 (trees_of (stands_for ps)))) [
  | inl g ↦ record { files = g.numbers; needs = g.jobs; starts = g.starts; is_graph = g.is_graph }
  | inr r ↦ absurd (r.some (one_reported r.ordered r.all [] r.reported
      (none_reported given jobs ps parts all r.ordered r.in_order)))
]
