-- What a module that is compiled alone is told to import is what it imports in the program.
use Rattle.std.proofs.Common.{◌≡◌, ℕ, zero, suc, Bool, true, false, cond, ◌&&◌, List, [], ◌∷◌, ◌++◌, map, Option, Some, None, refl, sym, ap, ap₂, subst, ◌∙◌, inl, inr, arith}
use Rattle.std.specs.Prelude.{slice_get, not, ◌||◌}
use Rattle.std.specs.List.{flat_map}
use Rattle.std.specs.Option.{is_some}
use Rattle.std.specs.Cmp.Lexicographic.{bytes_decides}
use Rattle.std.proofs.lemmas.Bool.{false≢true, and_parts, cases_Bool}
use Rattle.std.proofs.lemmas.List.{map-append}
use Rattle.std.proofs.lemmas.Option.{none-some, same_Some}
use Rattle.m2_tree.specs.declared.name.Ident.{Ident}
use Rattle.m2_tree.specs.declared.decl.Import.{Import}
use Rattle.m2_tree.specs.declared.decl.Module.{Module}
use Rattle.m2_tree.specs.Names.{same_name}
use Rattle.m2_graph.specs.Files.{trees}
use Rattle.m2_graph.specs.Imports.{named_by, imports_of, is_definition, is_program, is_implementation, defines, definition_of}
use Rattle.list_imports.specs.Listed.{names_of, import_names, imported_by}
use Rattle.list_imports.specs.Listed.{named_by as names_by}
use Rattle.law_graph.specs.Started.{definition_imported, all_imported}
use Rattle.law_graph.specs.Started.{imported_by as imported_in}
use Rattle.law_graph.proofs.Lists.{Among, later_among}
use Rattle.law_graph.proofs.Passing.{none_that}
use Rattle.law_graph.proofs.Fine.{are_fine}
use Rattle.law_graph.proofs.Given.{given_trees, given_among, tree_given}
use Rattle.law_graph.proofs.Defined.{one_definition}
use Rattle.law_separation.specs.Alike.{Tree, Needs, own, Jobs}
use Rattle.law_linking.proofs.Finding.{meant, implemented}
use Rattle.law_linking.proofs.Single.{has_definition}
use Rattle.compile_module.specs.Alone.{HaveJobs}
use Rattle.compile_module.specs.Stands.{stand_file, stands_for, with_stands}
use Rattle.compile_module.specs.Told.{definition_imports}
use Rattle.compile_module.specs.Told.{imports_of as told_of}
use Rattle.law_exchange_jobs.specs.Sharing.{AreShared}
use Rattle.law_exchange_jobs.proofs.Coming.{own_definition}
use Rattle.law_compiling.proofs.Words.{AreWords, HasWords}
use Rattle.law_compiling.proofs.Places.{kept_front, one_place}

abbrev name_in : Ident → List ℕ
name_in i = i.name

-- ---- the imports of a module, as names

names_same : (o : Option Ident) (is : List Ident) → names_of (names_by o is) ≡ map name_in (named_by o is)
names_same None is = refl
names_same (Some i) is = refl

pub imported_names : (m : Module) → imported_by m ≡ map name_in (imports_of m)
imported_names m = by m.imports
  where
    by : (is : List Import) → flat_map import_names is
        ≡ map name_in (flat_map (λ (i : Import). named_by i.from i.names) is)
    by [] = refl
    by (i ∷ is) =
        ap₂ (λ (xs ys : List (List ℕ)). xs ++ ys) (names_same i.from i.names) (by is)
        ∙ sym (map-append name_in (named_by i.from i.names) (flat_map (λ (j : Import). named_by j.from j.names) is))

-- ---- the one definition of a name

module _ (name : List ℕ) where
  flat_none : (ms : List Module) → ((m : Module) → Among ms m → defines name m ≡ false)
      → flat_map (definition_imports name) ms ≡ []
  flat_none [] h = refl
  flat_none (m ∷ ms) h =
      ap (λ (b : Bool). cond b (imported_by m) [] ++ flat_map (definition_imports name) ms) (h m (0, refl))
      ∙ flat_none ms (λ x a. h x (later_among m ms x a))

  not_defined : (m : Module) → (defines name m ≡ true → ⊥) → defines name m ≡ false
  not_defined m h = elim (cases_Bool (defines name m)) [ inl e ↦ absurd (h e) | inr e ↦ e ]

  flat_one : (ms : List Module) (i : ℕ) (d : Module) → slice_get ms i ≡ Some d → defines name d ≡ true
      → ((j : ℕ) (m : Module) → slice_get ms j ≡ Some m → defines name m ≡ true → j ≡ i)
      → flat_map (definition_imports name) ms ≡ imported_by d
  flat_one [] i d e is h = absurd (none-some d e)
  flat_one (m ∷ ms) zero d e is h =
      let same : m ≡ d = same_Some m d e in
      ap₂ (λ (b : Bool) (xs : List (List ℕ)). cond b (imported_by m) [] ++ xs) (ap (defines name) same ∙ is)
      (flat_none ms (λ x a. not_defined x (λ p. let q = h (suc a.0) x a.1 p in absurd (omega (arith, q)))))
      ∙ nothing_behind (imported_by m) ∙ ap imported_by same
    where
      nothing_behind : (xs : List (List ℕ)) → xs ++ [] ≡ xs
      nothing_behind [] = refl
      nothing_behind (x ∷ xs) = ap (λ (ys : List (List ℕ)). x ∷ ys) (nothing_behind xs)
  flat_one (m ∷ ms) (suc i) d e is h =
      ap (λ (b : Bool). cond b (imported_by m) [] ++ flat_map (definition_imports name) ms)
      (not_defined m (λ p. let q = h zero m refl p in absurd (omega (arith, q))))
      ∙ flat_one ms i d e is (λ j x at p. let q = h (suc j) x at p in omega (arith, q))

defines_parts : (name : List ℕ) (m : Module) → defines name m ≡ true → (is_definition m ≡ true) × (name ≡ m.name.name)
defines_parts name m e =
    let both = and_parts (is_definition m) (same_name name m.name.name) e in
    (both.0, (bytes_decides name m.name.name).0 both.1)

pub defines_from : (name : List ℕ) (m : Module) → is_definition m ≡ true → name ≡ m.name.name → defines name m ≡ true
defines_from name m is e = ap (λ (b : Bool). b && same_name name m.name.name) is
    ∙ (bytes_decides name m.name.name).1 e

-- a body that is no program is an implementation
pub implementation_is : (m : Module) → is_definition m ≡ false → is_program m ≡ false → is_implementation m ≡ true
implementation_is m d p = ap (λ (b : Bool). not (b || is_program m)) d ∙ ap (λ (b : Bool). not (false || b)) p

-- ---- a body alone, and in the program

module _ (root : Module) (rest others : List Tree) (file : List ℕ) (numbers : List ℕ) (needs : List (List ℕ))
    (have : HaveJobs ((file, root) ∷ rest) numbers needs) (jobs : Jobs others) (place : ℕ)
    (both : AreShared ((file, root) ∷ rest) others 0 place root) (kind : is_definition root ≡ false) where
  abbrev alone : List Tree
  alone = (file, root) ∷ rest

  abbrev name : List ℕ
  name = root.name.name

  abbrev stands : List Tree
  stands = map (λ (m : Module). (stand_file, m)) (stands_for (given_trees alone))

  jobs_alone : Jobs (with_stands alone)
  jobs_alone = record { files = numbers; needs = needs; starts = have.starts; is_graph = have.is_graph }

  here : (k : ℕ) (m : Module) → slice_get (given_trees rest) k ≡ Some m
      → slice_get (given_trees (with_stands alone)) (suc k) ≡ Some m
  here k m e = kept_front alone stands (suc k) m e

  there_too : (k : ℕ) (d : Module) → slice_get (given_trees rest) k ≡ Some d → defines name d ≡ true → (j : ℕ)
      × (slice_get (given_trees others) j ≡ Some d)
  there_too k d e is =
      let p = defines_parts name d is in
      both.definitions (suc k) d e p.0
      (subst (λ (n : List ℕ). Needs alone root n) p.1 own)

  -- ---- its definition is there

  with_definition : (k : ℕ) (d : Module) → slice_get (given_trees rest) k ≡ Some d → defines name d ≡ true
      → flat_map (definition_imports name) (given_trees rest)
      ≡ map name_in (definition_imported (given_trees others) (definition_of (given_trees others) name))
  with_definition k d e is =
      let p = defines_parts name d is in
      let t = there_too k d e is in
      flat_one name (given_trees rest) k d e is
      (λ j m at q. let r = defines_parts name m q in
      let s = one_place (with_stands alone) jobs_alone (suc j) (suc k) m d (here j m at) (here k d e)
      (r.0 ∙ sym p.0) (sym r.1 ∙ p.1) in omega (arith, s))
      ∙ imported_names d
      ∙ ap (map name_in) (sym (ap (λ (n : List ℕ). definition_imported (given_trees others)
      (definition_of (given_trees others) n)) p.1
      ∙ one_definition others jobs.files jobs.needs jobs.starts jobs.is_graph d t p.0))

  -- ---- it has none

  -- an implementation has a definition among those that are there
  its_definition : is_program root ≡ false → (k : ℕ) × (d : Module) × (slice_get (given_trees rest) k ≡ Some d)
      × (defines name d ≡ true)
  its_definition other =
      let g = have.is_graph in
      let a = given_among (with_stands alone) g.0 g.1 root (0, refl) in
      let f = has_definition g.0 g.2.fine a.0 root a.1 (implementation_is root kind other) in
      let w = meant (trees g.0) name f.0 f.1 in
      let at = own_definition alone _ w.m (tree_given (with_stands alone) g.0 g.1 f.0 w.m w.at) w.kind in
      behind _ w.m at w.kind w.same
    where
      behind : (k : ℕ) (d : Module) → slice_get (given_trees alone) k ≡ Some d → is_definition d ≡ true
          → name ≡ d.name.name → (k : ℕ) × (d : Module) × (slice_get (given_trees rest) k ≡ Some d)
          × (defines name d ≡ true)
      behind zero d e is same =
          absurd (false≢true (sym kind ∙ ap is_definition (same_Some root d e) ∙ is))
      behind (suc k) d e is same = (k, d, e, defines_from name d is same)

  -- a program has none
  none_there : is_program root ≡ true → definition_of (given_trees others) name ≡ None
  none_there is = by (definition_of (given_trees others) name) refl
    where
      by : (o : Option ℕ) → definition_of (given_trees others) name ≡ o → o ≡ None
      by None e = refl
      by (Some i) e =
          let w = meant (given_trees others) name i e in
          let g = jobs.is_graph in
          let a = given_among others g.0 g.1 w.m (i, w.at) in
          let b = implemented (trees g.0) (are_fine g.0 g.2.fine) w.m a w.kind in
          let r = given_among others g.0 g.1 root (place, both.there) in
          let q : b.place ≡ r.0 = (are_fine g.0 g.2.fine).apart b.place r.0 b.m root b.at r.1 (b.kind ∙ sym kind)
          (sym b.same ∙ sym w.same) in
          let same : b.m ≡ root = same_Some b.m root (sym b.at ∙ ap (slice_get (trees g.0)) q ∙ r.1) in
          absurd (false≢true (sym b.no_program ∙ ap is_program same ∙ is))

  none_here : is_program root ≡ true → (m : Module) → Among (given_trees rest) m → defines name m ≡ false
  none_here is m a = not_defined name m (λ e.
      let t = there_too a.0 m a.1 e in
      let none : is_some (definition_of (given_trees others) name) ≡ false =
      ap (λ (o : Option ℕ). is_some o) (none_there is) in
      false≢true (sym (none_that (defines name) (given_trees others) m none t) ∙ e))

  definition_same : flat_map (definition_imports name) (given_trees rest)
      ≡ map name_in (definition_imported (given_trees others) (definition_of (given_trees others) name))
  definition_same = elim (cases_Bool (is_program root)) [
    | inl is ↦ flat_none name (given_trees rest) (none_here is)
        ∙ ap (λ (o : Option ℕ). map name_in (definition_imported (given_trees others) o)) (sym (none_there is))
    | inr other ↦ (let d = its_definition other in with_definition d.0 d.1 d.2 d.3)
  ]

  -- What it is told to import, it imports in the program.
  pub told_same : told_of (given_trees alone) ≡ map name_in (all_imported (given_trees others) root)
  told_same =
      ap₂ (λ (xs ys : List (List ℕ)). xs ++ ys) definition_same (imported_names root)
      ∙ sym (map-append name_in (definition_imported (given_trees others) (definition_of (given_trees others) name))
      (imports_of root))

-- ---- what is imported, in words

pub imported_words : (ms : List Module) → ((m : Module) → Among ms m → HasWords m) → (root : Module) → HasWords root
    → AreWords (all_imported ms root)
imported_words ms h root w = append _ _ (of_definition (definition_of ms root.name.name)) w.imports
  where
    append : (is js : List Ident) → AreWords is → AreWords js → AreWords (is ++ js)
    append [] js p q = q
    append (i ∷ is) js p q = (p.0, append is js p.1 q)

    of_module : (k : ℕ) (o : Option Module) → slice_get ms k ≡ o → AreWords (imported_in o)
    of_module k None e = tt
    of_module k (Some m) e = (h m (k, e)).imports

    of_definition : (o : Option ℕ) → AreWords (definition_imported ms o)
    of_definition None = tt
    of_definition (Some k) = of_module k (slice_get ms k) refl
