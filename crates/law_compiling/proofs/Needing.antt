-- No rule of imports is broken where a body of a program is compiled alone with the definitions that it needs.
use Rattle.std.proofs.Common.{◌≡◌, ◌⊎◌, inl, inr, ◌<◌, ◌≤◌, ℕ, zero, suc, ◌+◌, Bool, true, false, cond, not, ◌&&◌, ◌||◌, ◌==◌, List, [], ◌∷◌, length, map, take, Option, Some, None, option_map, refl, sym, ap, ap₂, subst, ◌∙◌, arith}
use Rattle.std.specs.Prelude.{slice_get}
use Rattle.std.specs.List.Sorted.{IsPermutation}
use Rattle.std.specs.Option.{is_none, is_some, unwrap_or}
use Rattle.std.specs.Cmp.Lexicographic.{bytes_decides}
use Rattle.std.proofs.lemmas.Bool.{false≢true, cases_Bool, cases_lt, or_parts, and_parts, ne_eqb, eqb-true}
use Rattle.std.proofs.lemmas.List.{length-map}
use Rattle.std.proofs.lemmas.List.Sorted.{IsPermutation-map, length_permutation}
use Rattle.std.proofs.lemmas.Option.{none-some, same_Some, slice_get-map, slice_get_within, get_or_from_slice_get}
use Rattle.m2_tree.specs.Names.{same_name, is_console}
use Rattle.m2_tree.specs.declared.name.Ident.{Ident}
use Rattle.m2_tree.specs.declared.decl.Module.{Module}
use Rattle.graph_walk.specs.Links.{has, times, targets, Leads, Pair, Longer}
use Rattle.graph_walk.proofs.Chains.{has_times}
use Rattle.m2_graph.specs.Files.{File, AreInOrder, number_files, trees, given_of}
use Rattle.m2_graph.specs.Imports.{imports_of, is_definition, is_program, is_implementation, defines, implements, first_that, definition_of, links_of, links}
use Rattle.m2_graph.specs.Refused.{is_bad_import, are_one_part, is_second, is_built_in, is_second_program, is_without_program, any_that, max_files}
use Rattle.m2_graph.specs.Reported.{IsReported}
use Rattle.empty_modules.specs.Empty.{ident_of, empty_body}
use Rattle.law_graph.specs.Started.{AreApart, names_of}
use Rattle.law_graph.proofs.Lists.{Among, none_among, later_among, has_among, among_has, among_filtered, filtered_among, map_among, few_below}
use Rattle.law_graph.proofs.Passing.{found_at, some_that}
use Rattle.law_graph.proofs.Fine.{AreFine, Fine, are_fine, fine_file, program_of, tree_at}
use Rattle.law_graph.proofs.Given.{given_trees, tree_given, given_among, few_files}
use Rattle.law_graph.proofs.Starting.{same_at}
use Rattle.law_separation.specs.Alike.{Tree, Jobs}
use Rattle.law_separation.proofs.Numbered.{row, row_at}
use Rattle.law_linking.proofs.Circles.{no_cycles}
use Rattle.law_linking.proofs.Finding.{meant, implemented}
use Rattle.law_linking.proofs.Alone.{one_part, one_part_is}
use Rattle.law_linking.proofs.Counting.{count, count-permutation, count_fewer, times_count, twice, taken_at, some_among}
use Rattle.law_linking.proofs.Passed.{Passes, nothing_refused}
use Rattle.compile_module.specs.Stands.{lacks_body}
use Rattle.law_compiling.proofs.Importing.{defines_from, implementation_is}
use Rattle.law_compiling.proofs.Filling.{start_for, filled, Fills, first, given, stand, start, fills, text_fills, stand_fills, start_fills, is_where, few_parts, few_programs}

-- ---- a body of a program, and definitions of it, of which none is left out that is needed

pub record AreTogether (program : List Tree) (body : Module) (ds : List Module) : Type 0 where
  pub kind : is_definition body ≡ false
  pub kinds : (d : Module) → Among ds d → is_definition d ≡ true
  pub apart : AreApart (names_of ds)
  pub own : is_program body ≡ false → (d : Module) × Among ds d × (d.name.name ≡ body.name.name)
  pub closed : (m : Module) (x : Ident) → Among (body ∷ ds) m → Among (imports_of m) x
      → (is_console x.name ≡ true) ⊎ ((d : Module) × Among ds d × (d.name.name ≡ x.name))
  pub within : (m : Module) → Among (body ∷ ds) m → Among (given_trees program) m
  pub named : (m : Module) → Among (body ∷ ds) m → m.name.name ≡ [] → ⊥

-- ---- lists and numbers

numbered_trees : (n : ℕ) (fs : List Tree) → trees (number_files n fs) ≡ given_trees fs
numbered_trees n [] = refl
numbered_trees n (f ∷ fs) = ap (λ (ms : List Module). f.1 ∷ ms) (numbered_trees (n + 1) fs)

some_not_none : (o : Option ℕ) → is_some o ≡ true → is_none o ≡ false
some_not_none None e = absurd (false≢true e)
some_not_none (Some i) e = refl

none_bad : (c : Bool) (o : Option ℕ) (b : Bool) → (c ≡ true) ⊎ (is_none o ≡ false) → b ≡ false
    → ((not c && is_none o) || b) ≡ false
none_bad true o b h e = e
none_bad false o b (inl f) e = absurd (false≢true f)
none_bad false o b (inr f) e = ap₂ (λ (x y : Bool). x || y) f e

not_lone : (i a d b : Bool) → (i ≡ true → a ≡ true) → (d ≡ true → b ≡ true) → ((i && not a) || (d && not b)) ≡ false
not_lone true true true true h k = refl
not_lone true true true false h k = absurd (false≢true (k refl))
not_lone true true false b h k = refl
not_lone true false d b h k = absurd (false≢true (h refl))
not_lone false a true true h k = refl
not_lone false a true false h k = absurd (false≢true (k refl))
not_lone false a false b h k = refl

-- of one sort and name, or both programs
abbrev alike : Module → Module → Bool
alike s m = cond (is_program s) (is_program m) (are_one_part s m)

alike_parts : (b p q : Bool) → cond b p q ≡ true → ((b ≡ true) × (p ≡ true)) ⊎ ((b ≡ false) × (q ≡ true))
alike_parts true p q e = inl (refl, e)
alike_parts false p q e = inr (refl, e)

alike_program : (s m : Module) → is_program s ≡ true → is_program m ≡ true → alike s m ≡ true
alike_program s m e p = ap (λ (b : Bool). cond b (is_program m) (are_one_part s m)) e ∙ p

alike_part : (s m : Module) → is_program s ≡ false → are_one_part s m ≡ true → alike s m ≡ true
alike_part s m e p = ap (λ (b : Bool). cond b (is_program m) (are_one_part s m)) e ∙ p

module _ (program : List Tree) (jobs : Jobs program) (body : Module) (ds : List Module)
    (t : AreTogether program body ds) (fs : List Tree) (is : given_trees fs ≡ filled body ds)
    (others : List File) (o : AreInOrder (number_files 0 fs) others) where
  abbrev whole : List Module
  whole = trees jobs.is_graph.0

  abbrev reported : IsReported jobs.is_graph.0 []
  reported = jobs.is_graph.2.fine

  fine : AreFine whole
  fine = are_fine jobs.is_graph.0 reported

  fine_at : (k : ℕ) (m : Module) → slice_get whole k ≡ Some m → (g : ℕ) × Fine whole (take k whole) g m
  fine_at k m e = let f = tree_at jobs.is_graph.0 k m e in (
    f.0.given,
    subst (λ (x : Module). Fine whole (take k whole) f.0.given x) f.2
        (fine_file jobs.is_graph.0 reported k f.0 f.1),
  )

  abbrev stands : List Module
  stands = trees others

  -- ---- what is where

  in_whole : (m : Module) → Among (body ∷ ds) m → Among whole m
  in_whole m a = given_among program jobs.is_graph.0 jobs.is_graph.1 m (t.within m a)

  definition_in : (d : Module) → Among ds d → Among whole d
  definition_in d a = in_whole d (later_among body ds d a)

  same_in : (m n : Module) → Among whole m → Among whole n → is_definition m ≡ is_definition n
      → m.name.name ≡ n.name.name → m ≡ n
  same_in m n a b k e = same_at (slice_get whole b.0) m n
      (ap (slice_get whole) (sym (fine.apart a.0 b.0 m n a.1 b.1 k e)) ∙ a.1) b.1

  permuted : IsPermutation (given_trees fs) stands
  permuted = subst (λ (ms : List Module). IsPermutation ms stands) (numbered_trees 0 fs)
      (IsPermutation-map (λ (f : File). f.tree) (number_files 0 fs) others o.same)

  fills_at : (k : ℕ) (s : Module) → slice_get stands k ≡ Some s → Fills body ds s
  fills_at k s e = fills body ds s t.kind (
    given_of others k,
    ap (λ (ms : List Module). slice_get ms (given_of others k)) (sym is)
        ∙ tree_given fs others o k s e,
  )

  there : (s : Module) → Among (filled body ds) s → Among stands s
  there s a = given_among fs others o s (a.0, ap (λ (ms : List Module). slice_get ms a.0) is ∙ a.1)

  text_there : (m : Module) → Among (body ∷ ds) m → Among stands m
  text_there m a = there m (text_fills body ds m a)

  definition_there : (d : Module) → Among ds d → Among stands d
  definition_there d a = text_there d (later_among body ds d a)

  count_is : (p : Module → Bool) → count p stands ≡ count p (filled body ds)
  count_is p = count-permutation p (given_trees fs) stands permuted ∙ ap (count p) is

  few : (s : Module) → count (are_one_part s) stands ≤ 1
  few s = let e = count_is (are_one_part s) in let l = few_parts body ds t.kind t.kinds t.apart t.named s in
      omega (arith, e, l)

  few_are_programs : count is_program stands ≤ 1
  few_are_programs = let e = count_is is_program in let l = few_programs body ds t.kind t.kinds t.apart t.named in
      omega (arith, e, l)

  -- ---- second files

  no_second : (k : ℕ) (s : Module) → slice_get stands k ≡ Some s → is_second (take k stands) s ≡ false
  no_second k s e = is_where (is_second (take k stands) s) (λ h. found (some_that (are_one_part s) (take k stands) h))
    where
      found : ((i : ℕ) × (first_that (are_one_part s) (take k stands) ≡ Some i)) → ⊥
      found i =
          let f = found_at (are_one_part s) (take k stands) i.0 i.1 in
          let w = taken_at k stands i.0 f.0 f.1 in
          let l = twice (are_one_part s) stands i.0 k f.0 s w.1 w.0 e f.2 (one_part s s refl refl) in
          let m = few s in
          absurd (omega (arith, l, m))

  no_second_program : (k : ℕ) (s : Module) → slice_get stands k ≡ Some s → is_second_program (take k stands) s ≡ false
  no_second_program k s e = is_where (is_second_program (take k stands) s) (λ h.
      let both = and_parts (is_program s) (any_that is_program (take k stands)) h in
      found both.0 (some_that is_program (take k stands) both.1))
    where
      found : is_program s ≡ true → ((i : ℕ) × (first_that is_program (take k stands) ≡ Some i)) → ⊥
      found p i =
          let f = found_at is_program (take k stands) i.0 i.1 in
          let w = taken_at k stands i.0 f.0 f.1 in
          let l = twice is_program stands i.0 k f.0 s w.1 w.0 e f.2 p in
          let m = few_are_programs in
          absurd (omega (arith, l, m))

  text_built_in : (m : Module) → Among (body ∷ ds) m → is_built_in m.name.name ≡ false
  text_built_in m a =
      let w = in_whole m a in
      (or_parts (is_second (take w.0 whole) m) (is_built_in m.name.name) (fine_at w.0 m w.1).1.first).1

  not_built_in : (s : Module) → Fills body ds s → is_built_in s.name.name ≡ false
  not_built_in s (first e) = ap (λ (m : Module). is_built_in m.name.name) e ∙ text_built_in body (0, refl)
  not_built_in s (given a) = text_built_in s (later_among body ds s a)
  not_built_in s (stand d a other e) =
      ap (λ (m : Module). is_built_in m.name.name) e ∙ text_built_in d (later_among body ds d a)
  not_built_in s (start p e) = ap (λ (m : Module). is_built_in m.name.name) e

  -- ---- programs

  some_program : (m : Module) × Among stands m × (is_program m ≡ true)
  some_program = elim (cases_Bool (is_program body)) [
    | inl e ↦ (body, text_there body (0, refl), e)
    | inr e ↦ (start_for body, there (start_for body) (start_fills body ds e), refl)
  ]

  with_program : (before : List Module) → is_without_program stands before ≡ false
  with_program before =
      ap (λ (b : Bool). (length before == 0) && not b)
      (some_among is_program stands some_program.0 some_program.1 some_program.2) ∙ nothing (length before == 0)
    where
      nothing : (b : Bool) → (b && false) ≡ false
      nothing true = refl
      nothing false = refl

  -- ---- definitions and implementations

  -- a body whose definition is there is no program
  no_program : (d : Module) → Among ds d → d.name.name ≡ body.name.name → is_program body ≡ false
  no_program d a n =
      let i = implemented whole fine d (definition_in d a) (t.kinds d a) in
      let same = same_in i.m body (i.place, i.at) (in_whole body (0, refl)) (i.kind ∙ sym t.kind) (sym i.same ∙ n) in
      ap is_program (sym same) ∙ i.no_program

  defined : (d : Module) → Among ds d → (n : List ℕ) → n ≡ d.name.name → any_that (defines n) stands ≡ true
  defined d a n e = some_among (defines n) stands d (definition_there d a) (defines_from n d (t.kinds d a) e)

  is_defined : (s : Module) → Fills body ds s → is_implementation s ≡ true
      → any_that (defines s.name.name) stands ≡ true
  is_defined s (first e) i =
      let w = t.own (not_both (is_definition body) (is_program body) (ap is_implementation (sym e) ∙ i)) in
      defined w.0 w.1 s.name.name (ap (λ (m : Module). m.name.name) e ∙ sym w.2)
    where
      not_both : (c b : Bool) → not (c || b) ≡ true → b ≡ false
      not_both true b e = absurd (false≢true e)
      not_both false true e = absurd (false≢true e)
      not_both false false e = refl
  is_defined s (given a) i =
      absurd (false≢true (sym (ap (λ (b : Bool). not (b || is_program s)) (t.kinds s a)) ∙ i))
  is_defined s (stand d a other e) i = defined d a s.name.name (ap (λ (m : Module). m.name.name) e)
  is_defined s (start p e) i = absurd (false≢true (ap is_implementation (sym e) ∙ i))

  implements_from : (n : List ℕ) (m : Module) → is_implementation m ≡ true → n ≡ m.name.name → implements n m ≡ true
  implements_from n m i e = ap (λ (b : Bool). b && same_name n m.name.name) i ∙ (bytes_decides n m.name.name).1 e

  lacks : (d : Module) → Among ds d → same_name d.name.name body.name.name ≡ false → lacks_body body d ≡ true
  lacks d a e =
      ap₂ (λ (b c : Bool). b && (is_definition body || not c)) (t.kinds d a) e
      ∙ ap (λ (b : Bool). b || true) t.kind

  has_body : (d : Module) → Among ds d → any_that (implements d.name.name) stands ≡ true
  has_body d a = elim (cases_Bool (same_name d.name.name body.name.name)) [
    | inl e ↦ (
        let n : d.name.name ≡ body.name.name = (bytes_decides d.name.name body.name.name).0 e in
        some_among (implements d.name.name) stands body (text_there body (0, refl))
        (implements_from d.name.name body (implementation_is body t.kind (no_program d a n)) n))
    | inr e ↦ some_among (implements d.name.name) stands (empty_body d.name.name [])
        (there (empty_body d.name.name []) (stand_fills body ds d a (lacks d a e)))
        (implements_from d.name.name (empty_body d.name.name []) refl refl)
  ]

  is_implemented : (s : Module) → Fills body ds s → is_definition s ≡ true
      → any_that (implements s.name.name) stands ≡ true
  is_implemented s (first e) i = absurd (false≢true (sym t.kind ∙ ap is_definition (sym e) ∙ i))
  is_implemented s (given a) i = has_body s a
  is_implemented s (stand d a other e) i = absurd (false≢true (ap is_definition (sym e) ∙ i))
  is_implemented s (start p e) i = absurd (false≢true (ap is_definition (sym e) ∙ i))

  -- ---- imports

  found_there : (d : Module) → Among ds d → (n : List ℕ) → d.name.name ≡ n → is_none (definition_of stands n) ≡ false
  found_there d a n e = some_not_none (definition_of stands n) (defined d a n (sym e))

  text_imports : (m : Module) → Among (body ∷ ds) m → (x : Ident) → Among (imports_of m) x
      → is_bad_import stands m x.name ≡ false
  text_imports m a x i =
      let w = in_whole m a in
      none_bad (is_console x.name) (definition_of stands x.name) (not (is_definition m) && same_name x.name m.name.name)
      (elim (t.closed m x a i) [ inl c ↦ inl c | inr d ↦ inr (found_there d.0 d.1 x.name d.2) ])
      (or_parts (not (is_console x.name) && is_none (definition_of whole x.name))
      (not (is_definition m) && same_name x.name m.name.name) ((fine_at w.0 m w.1).1.imports x i)).1

  start_imports : is_program body ≡ false → (x : Ident) → Among (imports_of (start_for body)) x
      → is_bad_import stands (start_for body) x.name ≡ false
  start_imports p x i =
      let e : x.name ≡ body.name.name = named_so x i in
      let d = t.own p in
      none_bad (is_console x.name) (definition_of stands x.name) (same_name x.name [])
      (inr (found_there d.0 d.1 x.name (d.2 ∙ sym e)))
      (is_where (same_name x.name []) (λ s. t.named body (0, refl) (sym e ∙ (bytes_decides x.name []).0 s)))
    where
      named_so : (x : Ident) → Among (ident_of body.name.name ∷ []) x → x.name ≡ body.name.name
      named_so x (zero, e) = ap (λ (y : Ident). y.name) (sym (same_Some (ident_of body.name.name) x e))
      named_so x (suc k, e) = absurd (none-some x e)

  good_imports : (s : Module) → Fills body ds s → (x : Ident) → Among (imports_of s) x
      → is_bad_import stands s x.name ≡ false
  good_imports s (first e) x i = text_imports s (0, ap Some (sym e)) x i
  good_imports s (given a) x i = text_imports s (later_among body ds s a) x i
  good_imports s (stand d a other e) x i =
      absurd (none_among x (subst (λ (m : Module). Among (imports_of m) x) e i))
  good_imports s (start p e) x i =
      subst (λ (m : Module). is_bad_import stands m x.name ≡ false) (sym e)
      (start_imports p x (subst (λ (m : Module). Among (imports_of m) x) e i))

  -- ---- cycles

  -- the definition in this place has that place in the program
  record Both (k j : ℕ) : Type 0 where
    d : Module
    here : slice_get stands k ≡ Some d
    at : slice_get whole j ≡ Some d
    kind : is_definition d ≡ true

  definition_at : (s : Module) → Fills body ds s → is_definition s ≡ true → Among whole s
  definition_at s (first e) i = absurd (false≢true (sym t.kind ∙ ap is_definition (sym e) ∙ i))
  definition_at s (given a) i = definition_in s a
  definition_at s (stand d a other e) i = absurd (false≢true (ap is_definition (sym e) ∙ i))
  definition_at s (start p e) i = absurd (false≢true (ap is_definition (sym e) ∙ i))

  -- an import that makes a pair
  record Linked (from to : ℕ) : Type 0 where
    m : Module
    at : slice_get stands from ≡ Some m
    x : Ident
    imported : Among (imports_of m) x
    means : definition_of stands x.name ≡ Some to

  linked : (from to : ℕ) → has (targets (links stands) from) to ≡ true → Linked from to
  linked from to h = by (slice_get stands from) refl
      (subst (λ (ks : List ℕ). Among ks to) (row_at (links_of stands) stands from)
      (has_among (targets (links stands) from) to h))
    where
      by : (o : Option Module) → slice_get stands from ≡ o → Among (row (links_of stands) o) to → Linked from to
      by None e a = absurd (none_among to a)
      by (Some m) e a =
          let f = filtered_among (λ (i : Ident). definition_of stands i.name) (imports_of m) to a in
          record { m = m; at = e; x = f.0; imported = f.1; means = f.2 }

  both_of : (k : ℕ) (n : List ℕ) → definition_of stands n ≡ Some k → (j : ℕ) × (b : Both k j) × (n ≡ b.d.name.name)
  both_of k n e =
      let w = meant stands n k e in
      let a = definition_at w.m (fills_at k w.m w.at) w.kind in
      (a.0, record { d = w.m; here = w.at; at = a.1; kind = w.kind }, w.same)

  means_there : (n : List ℕ) (j : ℕ) (d : Module) → slice_get whole j ≡ Some d → is_definition d ≡ true
      → n ≡ d.name.name → definition_of whole n ≡ Some j
  means_there n j d at kind name =
      let f = some_that (defines n) whole (some_among (defines n) whole d (j, at) (defines_from n d kind name)) in
      let v = meant whole n f.0 f.1 in
      f.1 ∙ ap Some (fine.apart f.0 j v.m d v.at at (v.kind ∙ sym kind) (sym v.same ∙ name))

  -- the pair is one of the program
  pair_there : (from to j : ℕ) → Both from j → has (targets (links stands) from) to ≡ true
      → (i : ℕ) × Both to i × (has (targets (links whole) j) i ≡ true)
  pair_there from to j b h =
      let l = linked from to h in
      let w = both_of to l.x.name l.means in
      let same : l.m ≡ b.d = same_at (slice_get stands from) l.m b.d l.at b.here in
      let imported : Among (imports_of b.d) l.x = subst (λ (m : Module). Among (imports_of m) l.x) same l.imported in
      let found : Among (links_of whole b.d) w.0 =
      among_filtered (λ (i : Ident). definition_of whole i.name) (imports_of b.d) l.x w.0 imported
      (means_there l.x.name w.0 w.1.d w.1.at w.1.kind w.2) in
      let r : targets (links whole) j ≡ links_of whole b.d =
      row_at (links_of whole) whole j ∙ ap (row (links_of whole)) b.at in
      (w.0, w.1, among_has (targets (links whole) j) w.0 (subst (λ (ks : List ℕ). Among ks w.0) (sym r) found))

  chain_there : (from to j : ℕ) → Both from j → Leads (links stands) from to
      → (i : ℕ) × Both to i × Leads (links whole) j i
  chain_there from k j b (Pair to h) = let p = pair_there from to j b h in (p.0, p.1, Pair p.0 p.2)
  chain_there from k j b (Longer middle to l h) =
      let c = chain_there from middle j b l in
      let p = pair_there middle to c.0 c.1 h in
      (p.0, p.1, Longer c.0 p.0 c.2 p.2)

  last_pair : (from to : ℕ) → Leads (links stands) from to → (n : List ℕ) × (definition_of stands n ≡ Some to)
  last_pair from k (Pair to h) = let l = linked from to h in (l.x.name, l.means)
  last_pair from k (Longer middle to l h) = let p = linked middle to h in (p.x.name, p.means)

  no_circle : (node : ℕ) → Leads (links stands) node node → ⊥
  no_circle node l =
      let n = last_pair node node l in
      let b = both_of node n.0 n.1 in
      let c = chain_there node node b.0 b.1 l in
      let same : c.1.d ≡ b.1.d = same_at (slice_get stands node) c.1.d b.1.d c.1.here b.1.here in
      let place : c.0 ≡ b.0 = fine.apart c.0 b.0 c.1.d b.1.d c.1.at b.1.at (ap is_definition same)
      (ap (λ (m : Module). m.name.name) same) in
      no_cycles jobs.is_graph.0 reported b.0 (subst (λ (k : ℕ). Leads (links whole) b.0 k) place c.2)

  -- ---- how many files there are

  -- the module of the program of this sort and name, or its program module
  abbrev node_of : Module → ℕ
  node_of s = unwrap_or (first_that (alike s) whole) 0

  record Twin (s : Module) : Type 0 where
    m : Module
    among : Among whole m
    kind : is_program m ≡ is_program s
    part : is_program s ≡ false → are_one_part s m ≡ true

  its_twin : (s : Module) → Among (body ∷ ds) s → Twin s
  its_twin s a = record { m = s; among = in_whole s a; kind = refl; part = λ e. one_part s s refl refl }

  twin : (s : Module) → Fills body ds s → Twin s
  twin s (first e) = its_twin s (0, ap Some (sym e))
  twin s (given a) = its_twin s (later_among body ds s a)
  twin s (stand d a other e) =
      let i = implemented whole fine d (definition_in d a) (t.kinds d a) in
      record {
        m = i.m;
        among = (i.place, i.at);
        kind = i.no_program ∙ sym (ap is_program e);
        part = λ p. one_part s i.m (ap is_definition e ∙ sym i.kind) (ap (λ (x : Module). x.name.name) e ∙ i.same);
      }
  twin s (start p e) =
      let w = program_of jobs.is_graph.0 reported in
      let f = found_at is_program whole w.0 w.1 in
      record {
        m = f.0;
        among = (w.0, f.1);
        kind = f.2 ∙ sym (ap is_program e);
        part = λ q. absurd (false≢true (sym q ∙ ap is_program e));
      }

  record Node (s : Module) : Type 0 where
    m : Module
    at : slice_get whole (node_of s) ≡ Some m
    kind : is_program m ≡ is_program s
    part : is_program s ≡ false → are_one_part s m ≡ true

  node : (s : Module) → Fills body ds s → Node s
  node s w = by (twin s w)
    where
      by : Twin s → Node s
      by v = elim (cases_Bool (is_program s)) [
        | inl e ↦ here (alike_program s v.m e (v.kind ∙ e))
        | inr e ↦ here (alike_part s v.m e (v.part e))
      ]
        where
          here : alike s v.m ≡ true → Node s
          here h =
              let i = some_that (alike s) whole (some_among (alike s) whole v.m v.among h) in
              let f = found_at (alike s) whole i.0 i.1 in
              let at : slice_get whole (node_of s) ≡ Some f.0 =
              ap (λ (o : Option ℕ). slice_get whole (unwrap_or o 0)) i.1 ∙ f.1 in
              elim (alike_parts (is_program s) (is_program f.0) (are_one_part s f.0) f.2) [
                | inl p ↦ record {
                  m = f.0;
                  at = at;
                  kind = p.1 ∙ sym p.0;
                  part = λ q. absurd (false≢true (sym q ∙ p.0));
                }
                | inr p ↦ (
                    let x = one_part_is s f.0 p.1 in
                    let y = one_part_is s v.m (v.part p.0) in
                    let same : f.0 ≡ v.m = same_in f.0 v.m (i.0, f.1) v.among (sym x.0 ∙ y.0) (sym x.1 ∙ y.1) in
                    record { m = f.0; at = at; kind = ap is_program same ∙ v.kind; part = λ q. p.1 })
              ]

  nodes_apart : (x y : Module) → Among stands x → Among stands y → node_of y ≡ node_of x → alike x y ≡ true
  nodes_apart x y a b e =
      let u = node x (fills_at a.0 x a.1) in
      let v = node y (fills_at b.0 y b.1) in
      let same : v.m ≡ u.m = same_at (slice_get whole (node_of x)) v.m u.m (ap (slice_get whole) (sym e) ∙ v.at) u.at in
      let kinds : is_program y ≡ is_program x = sym v.kind ∙ ap is_program same ∙ u.kind in
      elim (cases_Bool (is_program x)) [
        | inl p ↦ alike_program x y p (kinds ∙ p)
        | inr p ↦ (
            let l = one_part_is x u.m (u.part p) in
            let r = one_part_is y v.m (v.part (kinds ∙ p)) in
            alike_part x y p (one_part x y (l.0 ∙ ap is_definition (sym same) ∙ sym r.0)
            (l.1 ∙ ap (λ (m : Module). m.name.name) (sym same) ∙ sym r.1)))
      ]

  few_alike : (s : Module) → count (alike s) stands ≤ 1
  few_alike s = elim (cases_Bool (is_program s)) [
    | inl e ↦ (let l = count_fewer (alike s) is_program stands
        (λ m a h. sym (ap (λ (b : Bool). cond b (is_program m) (are_one_part s m)) e) ∙ h) in
        let m = few_are_programs in omega (arith, l, m))
    | inr e ↦ (let l = count_fewer (alike s) (are_one_part s) stands
        (λ m a h. sym (ap (λ (b : Bool). cond b (is_program m) (are_one_part s m)) e) ∙ h) in
        let m = few s in omega (arith, l, m))
  ]

  nodes_once : (k : ℕ) → times (map node_of stands) k ≤ 1
  nodes_once k = elim (cases_lt 1 (times (map node_of stands) k)) [
    | inr g ↦ omega (arith, g)
    | inl l ↦ (let s = some (map_among node_of stands k
        (has_among (map node_of stands) k (has_times (map node_of stands) k (omega (arith, l))))) in omega (arith, s))
  ]
    where
      some : ((x : Module) × Among stands x × (node_of x ≡ k)) → times (map node_of stands) k ≤ 1
      some x =
          let e = times_count node_of k stands in
          let l = count_fewer (λ (y : Module). node_of y == k) (alike x.0) stands
          (λ y a h. nodes_apart x.0 y x.1 a (eqb-true (node_of y) k h ∙ sym x.2)) in
          let m = few_alike x.0 in
          omega (arith, e, l, m)

  few_stands : length stands ≤ length whole
  few_stands =
      let l = few_below (length whole) (map node_of stands) nodes_once within in
      let m = length-map stands node_of in
      omega (arith, l, m)
    where
      within : (k : ℕ) → has (map node_of stands) k ≡ true → k < length whole
      within k h = by (map_among node_of stands k (has_among (map node_of stands) k h))
        where
          by : ((x : Module) × Among stands x × (node_of x ≡ k)) → k < length whole
          by x = let n = node x.0 (fills_at x.1.0 x.0 x.1.1) in
              subst (λ (j : ℕ). j < length whole) x.2 (slice_get_within whole (node_of x.0) n.m n.at)

  not_many : (k : ℕ) (f : File) → slice_get others k ≡ Some f → slice_get stands k ≡ Some f.tree
      → (f.given == max_files) ≡ false
  not_many k f e at = ne_eqb f.given 1024 (λ q. absurd (omega (arith, q, below, place, few_stands, many, same)))
    where
      place : given_of others k ≡ f.given
      place = get_or_from_slice_get (map (λ (g : File). g.given) others) k f.given 0
          (slice_get-map (λ (g : File). g.given) others k
          ∙ ap (λ (x : Option File). option_map (λ (g : File). g.given) x) e)

      below : given_of others k < length (given_trees fs)
      below = slice_get_within (given_trees fs) (given_of others k) f.tree (tree_given fs others o k f.tree at)

      many : length whole ≤ 1024
      many = few_files program jobs.is_graph.0 jobs.is_graph.1 reported

      same : length stands ≡ length (given_trees fs)
      same = length_permutation (given_trees fs) stands permuted

  -- ---- the whole

  passes : (k : ℕ) (f : File) → slice_get others k ≡ Some f → (s : Module) → f.tree ≡ s → slice_get stands k ≡ Some s
      → Passes stands (take k stands) f.given s
  passes k f e s q at =
      let w = fills_at k s at in
      record {
        imports = good_imports s w;
        first = ap₂ (λ (b c : Bool). b || c) (no_second k s at) (not_built_in s w);
        single = no_second_program k s at;
        program = with_program (take k stands);
        whole = not_lone (is_implementation s) (any_that (defines s.name.name) stands) (is_definition s)
            (any_that (implements s.name.name) stands) (is_defined s w) (is_implemented s w);
        counted = not_many k f e (at ∙ ap Some (sym q));
      }

  pub none_reported : IsReported others []
  none_reported = nothing_refused others some_program.1.0 some_program.0 some_program.1.1 no_circle
      (λ k f e. passes k f e f.tree refl (tree_in others k f e))
    where
      tree_in : (gs : List File) (k : ℕ) (f : File) → slice_get gs k ≡ Some f → slice_get (trees gs) k ≡ Some f.tree
      tree_in [] k f e = absurd (none-some f e)
      tree_in (g ∷ gs) zero f e = ap (λ (x : Option File). option_map (λ (h : File). h.tree) x) e
      tree_in (g ∷ gs) (suc k) f e = tree_in gs k f e
