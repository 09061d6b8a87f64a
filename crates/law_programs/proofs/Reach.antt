-- The tables that jobs make, and the modules of bodies that are checked by them.
use Rattle.std.proofs.Common.{◌≡◌, ℕ, zero, suc, ◌+◌, ◌<◌, Bool, true, false, cond, List, [], ◌∷◌, ◌++◌, length, Option, Some, None, Result, Ok, Err, refl, sym, ap, subst, ◌∙◌, arith, inl, inr}
use Rattle.std.specs.Prelude.{slice_get, slice_index_or}
use Rattle.std.specs.List.{AllByRecursion, list_all}
use Rattle.std.proofs.lemmas.Bool.{cases_lt}
use Rattle.std.proofs.lemmas.Option.{same_Some, slice_get_within}
use Rattle.m2_tree.specs.declared.pos.Pos.{Pos}
use Rattle.m2_tree.specs.declared.decl.Contents.{Contents}
use Rattle.m2_tree.specs.declared.decl.Contents.TheVariants as contents
use Rattle.m2_tree.specs.declared.decl.Module.{Module}
use Rattle.pool_board.specs.Graph.{prerequisites_of}
use Rattle.pool_board.specs.Results.{results_below, items_at, with_item}
use Rattle.m2_tree.specs.Names.{same_name}
use Rattle.typed_tree.specs.declared.shape.Made.{Made}
use Rattle.typed_tree.specs.declared.table.ModuleTypes.{ModuleTypes}
use Rattle.typed_tree.specs.declared.table.Table.{Table}
use Rattle.typed_tree.specs.declared.typed_module.TypedModule.{TypedModule}
use Rattle.m2_rule.specs.declared.breach.Breach.{Breach}
use Rattle.check_scope.specs.Elaborated.{least}
use Rattle.layout_storage.specs.Layouts.{too_large}
use Rattle.check_definition.specs.Compiled as types
use Rattle.check_body.specs.Own.{types_made_in}
use Rattle.check_body.specs.Checks.{elaborate_body}
use Rattle.law_well_formed.specs.Formed.{Holds, fine, broken}
use Rattle.law_modules.specs.Ranges.{AreRanged}
use Rattle.law_well_formed.specs.Ordered.{AreOrdered}
use Rattle.law_well_formed.proofs.RangesTypes.{both_left, both_right}
use Rattle.law_well_formed.specs.FormedKnown.{fits_contents, fits_module, TableFormed, TablesFormed, OwnFormed}
use Rattle.law_well_formed.proofs.KnownDefinitions.{tables_formed}
use Rattle.law_well_formed.proofs.KnownWalks.{checked_formed}
use Rattle.build_jobs.specs.declared.outcome.Compiled.{Compiled}
use Rattle.build_jobs.specs.declared.outcome.Compiled.TheVariants.{Defined, Built, Refused, Blocked}
use Rattle.build_jobs.specs.Own.{own_table, tables_behind}
use Rattle.build_jobs.specs.Compiling.{is_sound, table_in, tables_of, of_definition, of_fit, of_checked, of_contents, typed_body, compilation_of}
use Rattle.build_jobs.specs.Jobs.{compile_in_place, compile_at}
use Rattle.build_jobs.specs.Jobs.{needed_of}
use Rattle.law_programs.specs.FormedReach.{result_of, made_by, types_of}

-- ---- lists

get_front : {X : Type 0} (xs ys : List X) (i : ℕ) → i < length xs → slice_get (xs ++ ys) i ≡ slice_get xs i
get_front [] ys i l = absurd (omega (arith, l))
get_front (x ∷ xs) ys zero l = refl
get_front (x ∷ xs) ys (suc i) l = get_front xs ys i (omega (arith, l))

get_last : {X : Type 0} (xs : List X) (x : X) (i : ℕ) → i ≡ length xs → slice_get (xs ++ x ∷ []) i ≡ Some x
get_last [] x zero e = refl
get_last [] x (suc i) e = absurd (omega (arith, e))
get_last (y ∷ ys) x zero e = absurd (omega (arith, e))
get_last (y ∷ ys) x (suc i) e = get_last ys x i (omega (arith, e))

long_more : {X : Type 0} (xs : List X) (x : X) → length (xs ++ x ∷ []) ≡ suc (length xs)
long_more [] x = refl
long_more (y ∷ xs) x = let k : length (xs ++ x ∷ []) ≡ suc (length xs) = long_more xs x in omega (arith, k)

pub tree_fits : (ms : List Module) → list_all fits_module ms ≡ true → (k : ℕ) (m : Module) → slice_get ms k ≡ Some m
    → fits_module m ≡ true
tree_fits [] e k m g = absurd cc
tree_fits (x ∷ ms) e zero m g = let same : x ≡ m = cc in
    subst (λ (y : Module). fits_module y ≡ true) same (both_left (fits_module x) (list_all fits_module ms) e)
tree_fits (x ∷ ms) e (suc k) m g = tree_fits ms (both_right (fits_module x) (list_all fits_module ms) e) k m g

-- ---- tables

-- what is so below a number is so below a greater one
below_by : (types_of : ℕ → List Made) (p n : ℕ) → p < n → (ms : List ModuleTypes)
    → AllByRecursion (λ m. (m.number < suc p) × (m.made ≡ types_of m.number)) ms
    → AllByRecursion (λ m. (m.number < n) × (m.made ≡ types_of m.number)) ms
below_by types_of p n l [] h = tt
below_by types_of p n l (m ∷ ms) h = (
  (let k : m.number < suc p = h.0.0 in omega (arith, k, l), h.0.1),
  below_by
      types_of p n l ms h.1,
)

formed_below : (types_of : ℕ → List Made) (p n : ℕ) (t : Table) → p < n → TableFormed types_of (suc p) t
    → TableFormed types_of n t
formed_below types_of p n t l h = record {
  reached = below_by types_of p n l t.reached h.reached;
  ordered = h.ordered;
  once = h.once;
  ranged = h.ranged;
  based = h.based;
  exports = h.exports;
}

module _ (trees : List Module) (files : List ℕ) (jobs : List (List ℕ)) (fit : list_all fits_module trees ≡ true) where
  abbrev its_types : ℕ → List Made
  its_types = types_of trees files jobs

  abbrev one : ℕ → Compiled
  one = result_of trees files jobs

  abbrev IsFormedAt : ℕ → Table → Type 0
  IsFormedAt p t = (t.number ≡ p) × TableFormed its_types (suc p) t

  -- of the table that a job makes, if it makes one
  abbrev Fact : ℕ → Type 0
  Fact p = (t : Table) → one p ≡ Defined t → IsFormedAt p t

  own_types_are : (p : ℕ) (t : Table) → one p ≡ Defined t → t.number ≡ p
      → types_made_in t.number t.reached ≡ its_types t.number
  own_types_are p t e q = sym (ap its_types q ∙ ap (made_by trees files jobs) e)

  -- ---- results of jobs

  abbrev below : ℕ → List Compiled
  below n = results_below jobs (compile_at trees files) n

  many : (n : ℕ) → length (below n) ≡ n
  many zero = refl
  many (suc n) = let k : length (below n) ≡ n = many n in
      let l : length (below (suc n)) ≡ suc (length (below n)) = long_more (below n) (one n) in omega (arith, k, l)

  at_below : (n j : ℕ) → j < n → slice_get (below n) j ≡ Some (one j)
  at_below zero j l = absurd (omega (arith, l))
  at_below (suc n) j l = elim (cases_lt j n) [
    | inl less ↦ get_front (below n) (one n ∷ []) j (omega (arith, less, many n)) ∙ at_below n j less
    | inr le ↦ let e : j ≡ n = omega (arith, l, le) in
        get_last (below n) (one n) j (e ∙ sym (many n)) ∙ ap (λ (k : ℕ). Some (one k)) (sym e)
  ]

  is_within : (n p : ℕ) (x : Compiled) → slice_get (below n) p ≡ Some x → p < n
  is_within n p x e = let w = slice_get_within (below n) p x e in omega (arith, w, many n)

  -- ---- what a job needs

  module _ (n : ℕ) (known : (p : ℕ) → p < n → Fact p) where
    -- a table that a job needs
    pub record IsNeeded (t : Table) : Type 0 where
      pub formed : TableFormed its_types n t
      pub own : types_made_in t.number t.reached ≡ its_types t.number
      pub made : one t.number ≡ Defined t
      pub before : t.number < n

    table_needed : (p : ℕ) (x : Compiled) → slice_get (below n) p ≡ Some x → (t : Table) → x ≡ Defined t → IsNeeded t
    table_needed p x e t q =
        let l : p < n = is_within n p x e in
        let is : one p ≡ Defined t = same_Some (one p) x (sym (at_below n p l) ∙ e) ∙ q in
        let f : IsFormedAt p t = known p l t is in
        record {
          formed = formed_below its_types p n t l f.1;
          own = own_types_are p t is f.0;
          made = ap one f.0 ∙ is;
          before = (let q : t.number ≡ p = f.0 in omega (arith, l, q));
        }

    with_one : (x : Compiled) (ts : List Table) → ((t : Table) → x ≡ Defined t → IsNeeded t)
        → AllByRecursion IsNeeded ts → AllByRecursion IsNeeded (table_in x ++ ts)
    with_one (Defined t) ts k h = (k t refl, h)
    with_one (Built b) ts k h = h
    with_one (Refused f) ts k h = h
    with_one Blocked ts k h = h

    with_picked : (p : ℕ) (xs : List Compiled) (o : Option Compiled) → slice_get (below n) p ≡ o
        → AllByRecursion IsNeeded (tables_of xs) → AllByRecursion IsNeeded (tables_of (with_item o xs))
    with_picked p xs None e h = h
    with_picked p xs (Some x) e h = with_one x (tables_of xs) (table_needed p x e) h

    all_needed : (ps : List ℕ) → AllByRecursion IsNeeded (tables_of (items_at (below n) ps))
    all_needed [] = tt
    all_needed (p ∷ ps) = with_picked p (items_at (below n) ps) (slice_get (below n) p) refl (all_needed ps)

    all_formed : (ts : List Table) → AllByRecursion IsNeeded ts → TablesFormed its_types n ts
    all_formed [] h = tt
    all_formed (t ∷ ts) h = (h.0.formed, all_formed ts h.1)

    -- ---- a definition

    result_formed : (t : Table) (r : Result Table Breach)
        → Holds (λ u. (u.number ≡ n) × (types_made_in n u.reached ≡ its_types n → TableFormed its_types (suc n) u)) r
        → (t.number ≡ n → types_made_in n t.reached ≡ its_types n) → of_definition r ≡ Defined t → IsFormedAt n t
    result_formed t _ (fine u h) k is = let same : u ≡ t = cc in
        let j = subst (λ (v : Table). (v.number ≡ n)
        × (types_made_in n v.reached ≡ its_types n → TableFormed its_types (suc n) v)) same h in (j.0, j.1 (k j.0))
    result_formed t _ (broken e) k is = absurd cc

    no_fit : (t : Table) (b : TypedModule) (o : Option Pos) → of_fit b o ≡ Defined t → ⊥
    no_fit t b None e = absurd cc
    no_fit t b (Some at) e = absurd cc

    no_body : (t : Table) (r : Result TypedModule Breach) → of_checked r ≡ Defined t → ⊥
    no_body t (Ok b) e = no_fit t b (too_large b) e
    no_body t (Err f) e = absurd cc

    from_contents : (m : Module) (ts : List Table) → fits_contents m.contents ≡ true → TablesFormed its_types n ts
        → (t : Table) → (t.number ≡ n → types_made_in n t.reached ≡ its_types n) → (c : Contents)
        → of_contents m n ts c ≡ Defined t → IsFormedAt n t
    from_contents m ts f p t k (contents.Definition ds) e =
        result_formed t (types.definition_table least n m ts) (tables_formed least its_types n m ts f p) k e
    from_contents m ts f p t k (contents.Implementation b) e = absurd (no_body t (typed_body m n ts) e)
    from_contents m ts f p t k (contents.Program b) e = absurd (no_body t (typed_body m n ts) e)

    from_compiled : (m : Module) → fits_contents m.contents ≡ true → (outs : List Compiled)
        → TablesFormed its_types n (tables_of outs) → (t : Table)
        → (t.number ≡ n → types_made_in n t.reached ≡ its_types n) → compilation_of m n outs ≡ Defined t
        → IsFormedAt n t
    unfolding compilation_of
    from_compiled m f outs p t k e = by (list_all is_sound outs) e where
      by : (b : Bool) → cond b (of_contents m n (tables_of outs) m.contents) Blocked ≡ Defined t → IsFormedAt n t
      by true e = from_contents m (tables_of outs) f p t k m.contents e
      by false e = absurd cc

    from_tree : (place : ℕ) (o : Option Module) → slice_get trees place ≡ o → (outs : List Compiled)
        → TablesFormed its_types n (tables_of outs) → (t : Table)
        → (t.number ≡ n → types_made_in n t.reached ≡ its_types n) → compile_in_place o n outs ≡ Defined t
        → IsFormedAt n t
    from_tree place None there outs p t k e = absurd cc
    from_tree place (Some m) there outs p t k e = from_compiled m (tree_fits trees fit place m there) outs p t k e

    fact_next : Fact n
    fact_next t e =
        from_tree (slice_index_or files n 0) (slice_get trees (slice_index_or files n 0)) refl
        (items_at (below n) (prerequisites_of jobs n))
        (all_formed (tables_of (items_at (below n) (prerequisites_of jobs n)))
        (all_needed (prerequisites_of jobs n))) t
        (λ q. ap (λ (k : ℕ). types_made_in k t.reached) (sym q) ∙ (own_types_are n t e q ∙ ap its_types q)) e

    -- ---- a body

    own_by : (b : Bool) (t : Table) → IsNeeded t → OwnFormed its_types n (cond b (Some t) None)
    own_by true t h = (h.formed, h.own)
    own_by false t h = tt

    pub own_formed : (m : Module) (ts : List Table) → AllByRecursion IsNeeded ts
        → OwnFormed its_types n (own_table m ts)
    own_formed m [] h = tt
    own_formed m (t ∷ ts) h = own_by (same_name t.name m.name.name) t h.0

    pub behind_formed : (o : Option Table) (ts : List Table) → AllByRecursion IsNeeded ts
        → TablesFormed its_types n (tables_behind o ts)
    behind_formed None ts h = all_formed ts h
    behind_formed (Some t) [] h = tt
    behind_formed (Some t) (u ∷ ts) h = all_formed ts h.1

    body_formed : (m : Module) → fits_module m ≡ true
        → Holds (λ t. AreRanged t.types × AreOrdered t.types)
        (typed_body m n (tables_of (items_at (below n) (prerequisites_of jobs n))))
    body_formed m f =
        let ts : List Table = tables_of (items_at (below n) (prerequisites_of jobs n)) in
        let h : AllByRecursion IsNeeded ts = all_needed (prerequisites_of jobs n) in
        checked_formed least (elaborate_body least) its_types n m (own_table m ts) (tables_behind (own_table m ts) ts) f
        (own_formed m ts h) (behind_formed (own_table m ts) ts h)

  -- ---- all jobs

  facts_below : (n p : ℕ) → p < n → Fact p
  facts_below zero p l = absurd (omega (arith, l))
  facts_below (suc n) p l = elim (cases_lt p n) [
    | inl less ↦ facts_below n p less
    | inr le ↦ let e : p ≡ n = omega (arith, l, le) in subst (λ (k : ℕ). Fact k) (sym e) (fact_next n (facts_below n))
  ]

  pub known_below : (n p : ℕ) → p < n → Fact p
  known_below = facts_below

  -- the tables that a job needs
  pub tables_needed : (n : ℕ) → AllByRecursion (IsNeeded n (known_below n)) (tables_of (needed_of trees files jobs n))
  tables_needed n = all_needed n (known_below n) (prerequisites_of jobs n)

  pub tables_same : (job : ℕ) (t : Table) → one job ≡ Defined t → IsFormedAt job t
  tables_same job = facts_below (suc job) job (omega arith)

  pub bodies_know : (m : Module) (job : ℕ) → fits_module m ≡ true
      → Holds (λ t. AreRanged t.types × AreOrdered t.types)
      (typed_body m job (tables_of (needed_of trees files jobs job)))
  bodies_know m job f = body_formed job (facts_below job) m f
