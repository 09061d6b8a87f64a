-- The body of one procedure in a procedure, checked.
use Rattle.std.proofs.Common.{◌≡◌, ℕ, zero, suc, ◌+◌, ◌<◌, ◌≤◌, ◌==◌, Bool, true, false, cond, List, [], ◌∷◌, ◌++◌, length, Option, Some, None, Result, Ok, Err, refl, sym, ap, subst, ◌∙◌, arith}
use Rattle.std.specs.Prelude.{slice_get, slice_set}
use Rattle.std.proofs.lemmas.Bool.{eqb-true}
use Rattle.std.proofs.lemmas.List.{length-append}
use Rattle.m2_tree.specs.declared.name.Ident.{Ident}
use Rattle.m2_tree.specs.declared.expr.Qualified.{Qualified}
use Rattle.m2_tree.specs.declared.decl.Heading.{Heading}
use Rattle.typed_tree.specs.declared.known_types.Types.{Types}
use Rattle.typed_tree.specs.declared.meaning.Meaning.TheVariants as meaning
use Rattle.typed_tree.specs.declared.shape.Made.{Made}
use Rattle.typed_tree.specs.declared.statement.TypedStmt.{TypedStmt}
use Rattle.typed_tree.specs.declared.typed_module.Routine.{Routine}
use Rattle.typed_tree.specs.declared.typed_module.TypedModule.{TypedModule}
use Rattle.typed_tree.specs.declared.typed_module.Which.{Which}
use Rattle.typed_tree.specs.declared.typed_module.Which.TheVariants as which
use Rattle.typed_tree.specs.declared.types.TypeNo.{TypeNo}
use Rattle.typed_tree.specs.Known.{made_at}
use Rattle.typed_tree.specs.Names.{find_name}
use Rattle.typed_tree.specs.Types.{integer}
use Rattle.check_scope.specs.Elaborated.{Gathers}
use Rattle.check_scope.specs.declared.known.Known.{Known}
use Rattle.check_scope.specs.declared.known.Known.TheVariants.{Headed}
use Rattle.check_scope.specs.declared.scope.Block.{Block}
use Rattle.check_scope.specs.declared.scope.Scope.{Scope}
use Rattle.check_type_expr.specs.Headings.{result_of}
use Rattle.def_scheme.specs.Exprs.{is_there, result_made, has_result}
use Rattle.check_scope.specs.Inwards.{inwards, split_last, pop_block}
use Rattle.check_body.specs.declared.routine.Bodies.{Bodies}
use Rattle.check_body.specs.declared.routine.Numbered.{Numbered}
use Rattle.check_body.specs.Routines.{numbered_known, empty_routine, put_routine, routine}
use Rattle.law_modules.specs.WellFormed.{IsRoutine, AreStmts, IsBody}
use Rattle.law_well_formed.specs.Formed.{Holds, fine, broken}
use Rattle.law_well_formed.specs.FormedScopes.{AreFormedNames, Leads}
use Rattle.law_well_formed.proofs.ScopesDeclarations.{ResultIs, beside_left, beside_right, result_holds}
use Rattle.check_body.specs.declared.procedure.Walk.{Walk}
use Rattle.check_body.specs.declared.procedure.Begun.{Begun}
use Rattle.check_body.specs.Elaborating.{Elaborates}
use Rattle.check_body.specs.Inside.{returns_of, which_of, begun_procedure, reported_in, with_routine}
use Rattle.check_body.specs.Bodies.{Checked, ChecksBlock, procedure_checked}
use Rattle.law_well_formed.specs.FormedBodies.{AreNumbered, Keeps, Adds, Suits, AddsFormed, Begins, FormedBlock}
use Rattle.law_well_formed.proofs.Places.{set_length, set_other, set_same, before_end}
use Rattle.law_well_formed.proofs.Scopes.{blocks_more, formals_formed, formals_await}

-- ---- what is kept

module _ {T : Type 0} where
  pub keeps_refl : (s : Scope T) → Keeps s s
  keeps_refl s = record { tables = refl; outer = refl; level = refl; withs = refl; home = refl; types = λ t x e. e }

  pub keeps_then : {a b c : Scope T} → Keeps a b → Keeps b c → Keeps a c
  keeps_then p q = record {
    tables = q.tables ∙ p.tables;
    outer = q.outer ∙ p.outer;
    level = q.level ∙ p.level;
    withs = q.withs ∙ p.withs;
    home = q.home ∙ p.home;
    types = λ t x e. q.types t x (p.types t x e);
  }

  pub leads_keeps : (m : TypedModule) (opens : ℕ → Bool) {a b : Scope T} → Leads m opens a b → Keeps a b
  leads_keeps m opens p = record {
    tables = p.tables;
    outer = p.outer;
    level = p.level;
    withs = p.withs;
    home = p.home;
    types = p.types;
  }

split_more : {A : Type 0} (xs : List A) (x : A) → split_last (xs ++ x ∷ []) ≡ Some (xs, x)
split_more [] x = refl
split_more {A = A} (y ∷ xs) x = ap (λ (o : Option (List A × A)). elim o
    [ None ↦ Some ([], y) | Some p ↦ Some (y ∷ p.0, p.1) ]) (split_more xs x)

-- ---- numbers

pub nonzero : (n : ℕ) → 0 < n → (n == 0) ≡ false
nonzero n h = by (n == 0) refl where
  by : (b : Bool) → (n == 0) ≡ b → (n == 0) ≡ false
  by false e = e
  by true e = let z : n ≡ 0 = eqb-true n 0 e in absurd (omega (arith, h, z))

pub data Placed (n k : ℕ) : Type 0 where
  there : k ≡ n → Placed n k
  past : n < k → Placed n k

pub placed : (n k : ℕ) → n ≤ k → Placed n k
placed zero zero h = there refl
placed zero (suc k) h = past (omega arith)
placed (suc n) zero h = absurd (omega (arith, h))
placed (suc n) (suc k) h = next (placed n k (omega (arith, h))) where
  next : Placed n k → Placed (suc n) (suc k)
  next (there e) = there (ap suc e)
  next (past e) = past (omega (arith, e))

-- ---- procedures in procedures

pub begun_locals : (b : Bool) → b ≡ false → (rs : Bodies)
    → (cond b rs (record rs { locals = rs.locals ++ empty_routine integer ∷ [] })).locals ≡ rs.locals
    ++ empty_routine integer ∷ []
begun_locals true e rs = absurd cc
begun_locals false e rs = refl

pub begun_module_locals : (b : Bool) → b ≡ true → (rs : Bodies)
    → (cond b rs (record rs { locals = rs.locals ++ empty_routine integer ∷ [] })) ≡ rs
begun_module_locals true e rs = refl
begun_module_locals false e rs = absurd cc

begun_procedures : (b : Bool) (rs : Bodies)
    → (cond b rs (record rs { locals = rs.locals ++ empty_routine integer ∷ [] })).procedures ≡ rs.procedures
begun_procedures true rs = refl
begun_procedures false rs = refl

filled_count : (rs : Bodies) (w : Which) (r : Routine) → length (put_routine rs w r).locals ≡ length rs.locals
filled_count rs (which.Module n) r = refl
filled_count rs (which.Local n) r = set_length rs.locals n r

routine_count : {T : Type 0} (s : Scope T) (name : Ident) (around : Option Which) (n : ℕ) (p : Option Numbered)
    (body : Result (List TypedStmt) T) (rs : Bodies)
    → length (with_routine s name around n p body rs).locals ≡ length rs.locals
routine_count s name around n None body rs = refl
routine_count s name around n (Some p) (Ok xs) rs = filled_count rs p.which (routine s name p around n xs)
routine_count s name around n (Some p) (Err e) rs = refl

pub body_of : {T : Type 0} (r : Result (List TypedStmt) T) → reported_in r ≡ Ok tt → (xs : List TypedStmt) × (r ≡ Ok xs)
body_of (Ok xs) e = (xs, refl)
body_of (Err x) e = absurd cc

-- ---- results

there_if : (g : Gathers) (o : Option Qualified) (r : Result (Option TypeNo) g.Reported) → is_there o ≡ true
    → Holds (λ x. is_there x ≡ is_there o) r → is_there (returns_of r) ≡ true
there_if g o _ e (fine None k) = k ∙ e
there_if g o _ e (fine (Some t) k) = refl
there_if g o _ e (broken x) = refl

returns_there : (g : Gathers) (s : Scope g.Reported) (o : Option Qualified)
    → is_there (returns_of (result_of g s o)) ≡ is_there o
returns_there g s None = refl
returns_there g s (Some q) = there_if g (Some q) (result_of g s (Some q)) refl (result_holds g s (Some q))

pub result_grown : (types : Types) (m : TypedModule) (t : TypeNo) (o : Option Qualified)
    → ((t : TypeNo) (x : Made) → made_at types t ≡ Some x → made_at m.types t ≡ Some x) → ResultIs types t o
    → has_result m.types t ≡ is_there o
result_grown types m t o k r = ap (λ (x : Option Made). result_made x) (k t r.0 r.1.0) ∙ r.1.1

pub holds_at : {A T : Type 0} {P : A → Type 0} (r : Result A T) → Holds P r → (x : A) → r ≡ Ok x → P x
holds_at {A = A} {P = P} _ (fine y p) x e = subst P (ap (λ r. or_else y r) e) p where
  or_else : {U : Type 0} → A → Result A U → A
  or_else d (Ok z) = z
  or_else d (Err z) = d
holds_at _ (broken y) x e = absurd cc

-- ---- one procedure

module _ (g : Gathers) (elaborates : Elaborates g.Reported) (ends : List ℕ) (h : Heading)
    (block : ChecksBlock g.Reported) (ks : List ℕ) (f : FormedBlock g ends block ks) (around : Option Which) (seen : ℕ)
    (w : Walk g.Reported) where
  -- where its block begins, where it ends, and behind the procedure
  abbrev pub entry : Walk g.Reported × Begun g.Reported
  entry = begun_procedure g w seen h

  abbrev pub inner : Checked g.Reported
  inner = block (which_of entry.1.procedure) entry.1.returns entry.0

  abbrev pub ended : Walk g.Reported
  ended = procedure_checked g elaborates ends h block around seen w

  pub inside : Keeps entry.0.scope inner.0.scope
  inside = f.keeps (which_of entry.1.procedure) entry.1.returns entry.0

  abbrev pub around_it : Block g.Reported
  around_it = record { names = w.scope.own; seen = seen }

  pub taken : pop_block (split_last inner.0.scope.outer) ≡ (w.scope.outer, w.scope.own)
  taken = ap (λ (bs : List (Block g.Reported)). pop_block (split_last bs)) inside.outer
      ∙ ap (λ (o : Option (List (Block g.Reported) × Block g.Reported)). pop_block o)
      (split_more w.scope.outer around_it)

  pub procedure_own : ended.scope.own ≡ w.scope.own
  procedure_own = ap (λ (p : List (Block g.Reported) × List (List ℕ × Known g.Reported)). p.1) taken

  pub procedure_keeps : Keeps w.scope ended.scope
  procedure_keeps = record {
    tables = inside.tables;
    outer = ap (λ (p : List (Block g.Reported) × List (List ℕ × Known g.Reported)). p.0) taken;
    level = refl;
    withs = inside.withs;
    home = inside.home;
    types = inside.types;
  }

  pub procedure_reported : ended.so_far ≡ Ok tt → w.so_far ≡ Ok tt
  procedure_reported e = f.reported (which_of entry.1.procedure) entry.1.returns entry.0
      (beside_left g inner.0.so_far (reported_in inner.1) e)

  pub inner_ok : ended.so_far ≡ Ok tt → inner.0.so_far ≡ Ok tt
  inner_ok e = beside_left g inner.0.so_far (reported_in inner.1) e

  pub body_ok : ended.so_far ≡ Ok tt → (xs : List TypedStmt) × (inner.1 ≡ Ok xs)
  body_ok e = body_of inner.1 (beside_right g inner.0.so_far (reported_in inner.1) e)

  pub inner_count : 0 < length w.scope.outer → length ended.bodies.locals ≡ length entry.0.bodies.locals + length ks
  inner_count deep =
      routine_count inner.0.scope h.name around entry.1.formals entry.1.procedure inner.1 inner.0.bodies
      ∙ f.count (which_of entry.1.procedure) entry.1.returns entry.0 (nonzero (length w.scope.outer) deep)
      (let e : length (w.scope.outer ++ around_it ∷ []) ≡ length w.scope.outer + 1 =
      length-append w.scope.outer (around_it ∷ []) in omega (arith, e))

  -- a heading with a result or without one, in the types that the module has
  pub gives_result : (m : TypedModule) (t : TypeNo) (types : Types)
      → ((t : TypeNo) (x : Made) → made_at types t ≡ Some x → made_at m.types t ≡ Some x) → ResultIs types t h.result
      → is_there entry.1.returns ≡ has_result m.types t
  gives_result m t types k r = returns_there g (inwards w.scope seen) h.result
      ∙ sym (result_grown types m t h.result k r)

  -- ---- in a procedure

  module _ (level : (w.scope.level == 0) ≡ false) where
    entry_locals : entry.0.bodies.locals ≡ w.bodies.locals ++ empty_routine integer ∷ []
    entry_locals = begun_locals (w.scope.level == 0) level w.bodies

    entry_length : length entry.0.bodies.locals ≡ length w.bodies.locals + 1
    entry_length = ap (λ (rs : List Routine). length rs) entry_locals
        ∙ length-append w.bodies.locals (empty_routine integer ∷ [])

    pub nested_count : 0 < length w.scope.outer
        → length ended.bodies.locals ≡ length w.bodies.locals + length (length ks ∷ ks)
    nested_count deep = let a = inner_count deep in let b = entry_length in omega (arith, a, b)

    module _ (deep : 1 < length w.scope.outer) (l : ℕ) (t : TypeNo)
        (head : find_name h.name.name w.scope.own
        ≡ Some (Headed (Ok (meaning.LocalProcedure
        (record { level = l; number = length w.bodies.locals; heading = t })))))
        (numbers : AreNumbered ends (length w.bodies.locals + 1) ks) (ok : ended.so_far ≡ Ok tt) where
      outer_length : length entry.0.scope.outer ≡ length w.scope.outer + 1
      outer_length = length-append w.scope.outer (around_it ∷ [])

      begins : Begins ends entry.0 ks
      begins = record {
        level = nonzero (length w.scope.outer) (omega (arith, deep));
        deep = let e = outer_length in omega (arith, deep, e);
        awaits = λ name. formals_await g (inwards w.scope seen) h.formals name;
        numbers = subst (λ (n : ℕ). AreNumbered ends n ks) (sym entry_length) numbers;
      }

      abbrev numbered : Numbered
      numbered = record { which = which.Local (length w.bodies.locals); heading = t }

      abbrev new : Routine
      new = routine inner.0.scope h.name numbered around entry.1.formals (body_ok ok).0

      bodies_are : ended.bodies ≡ put_routine inner.0.bodies (which.Local (length w.bodies.locals)) new
      bodies_are =
          ap (λ (o : Option (Known g.Reported)). with_routine inner.0.scope h.name around entry.1.formals
          (numbered_known o) inner.1 inner.0.bodies) head
          ∙ ap (λ (r : Result (List TypedStmt) g.Reported). with_routine inner.0.scope h.name around entry.1.formals
          (Some numbered) r inner.0.bodies) (body_ok ok).1

      locals_are : ended.bodies.locals ≡ slice_set inner.0.bodies.locals (length w.bodies.locals) new
      locals_are = ap (λ (rs : Bodies). rs.locals) bodies_are

      inner_adds : Adds entry.0 inner.0
      inner_adds = f.adds (which_of entry.1.procedure) entry.1.returns entry.0 begins (inner_ok ok)

      inner_length : length inner.0.bodies.locals ≡ length w.bodies.locals + 1 + length ks
      inner_length =
          let a = f.count (which_of entry.1.procedure) entry.1.returns entry.0 begins.level
          (let d = begins.deep in omega (arith, d)) in
          let b = entry_length in omega (arith, a, b)

      get_new : slice_get ended.bodies.locals (length w.bodies.locals) ≡ Some new
      get_new =
          ap (λ (rs : List Routine). slice_get rs (length w.bodies.locals)) locals_are
          ∙ set_same inner.0.bodies.locals (length w.bodies.locals) new (let e = inner_length in omega (arith, e))

      get_other : (k : ℕ) → (k ≡ length w.bodies.locals → ⊥)
          → slice_get ended.bodies.locals k ≡ slice_get inner.0.bodies.locals k
      get_other k apart = ap (λ (rs : List Routine). slice_get rs k) locals_are
          ∙ set_other inner.0.bodies.locals (length w.bodies.locals) k new apart

      new_level : new.level ≡ length w.scope.outer
      new_level = inside.level

      pub nested_routine : IsRoutine ended.bodies.locals (length w.bodies.locals) t
      nested_routine = (new, get_new, refl)

      nested_at : (k : ℕ) → k < length ended.bodies.locals → Placed (length w.bodies.locals) k → (r : Routine)
          × ((slice_get ended.bodies.locals k ≡ Some r) × (1 < r.level))
      nested_at k below (there e) = (
        new,
        (
          subst (λ (n : ℕ). slice_get ended.bodies.locals n ≡ Some new) (sym e) get_new,
          subst (λ (n : ℕ). 1 < n)
              (sym new_level) deep,
        ),
      )
      nested_at k below (past e) =
          let a = entry_length in
          let b = inner_length in
          let c = nested_count (omega (arith, deep)) in
          let r = inner_adds.nested k (omega (arith, a, e)) (omega (arith, b, c, below)) in
          (r.0, (get_other k (λ z. omega (arith, z, e)) ∙ r.1.0, r.1.1))

      pub nested_adds : Adds w ended
      nested_adds = record {
        procedures = ap (λ (rs : Bodies). rs.procedures) bodies_are ∙ inner_adds.procedures
            ∙ begun_procedures (w.scope.level == 0) w.bodies;
        below = λ n e.
            get_other n (λ z. omega (arith, z, e))
            ∙ inner_adds.below n (let a = entry_length in omega (arith, a, e))
            ∙ ap (λ (rs : List Routine). slice_get rs n) entry_locals
            ∙ before_end w.bodies.locals (empty_routine integer ∷ []) n e;
        nested = λ n a b. nested_at n b (placed (length w.bodies.locals) n a);
      }

      -- ---- what is added is well formed

      module _ (types : Types) (result : ResultIs types t h.result)
          (grown : (t : TypeNo) (x : Made) → made_at types t ≡ Some x → made_at w.scope.types t ≡ Some x)
          (m : TypedModule) (opens : ℕ → Bool) (suits : Suits g m opens w ended)
          (own : AreFormedNames m opens w.scope.own) where
        inner_suits : Suits g m opens entry.0 inner.0
        inner_suits = record {
          home = suits.home;
          types = suits.types;
          locals = λ n a b.
              let c = entry_length in
              let d = inner_length in
              let e = nested_count (omega (arith, deep)) in
              suits.locals n (omega (arith, a, c)) (omega (arith, b, d, e)) ∙ get_other n (λ z. omega (arith, z, a, c));
          members = suits.members;
          outer = blocks_more m opens w.scope.outer around_it suits.outer own;
          withs = suits.withs;
        }

        inner_formed : AddsFormed g m opens entry.0 inner.0
            × Holds (AreStmts m (is_there entry.1.returns) 0 false) inner.1
        inner_formed = f.formed (which_of entry.1.procedure) entry.1.returns entry.0 begins (inner_ok ok) m opens
            inner_suits (formals_formed m opens g (inwards w.scope seen) h.formals)

        new_formed : IsBody m new
        new_formed = record {
          body = subst (λ (b : Bool). AreStmts m b 0 false (body_ok ok).0)
              (gives_result m t types (λ u x e. suits.types u x (inside.types u x (grown u x e))) result)
              (holds_at inner.1 inner_formed.1 (body_ok ok).0 (body_ok ok).1);
        }

        formed_at : (k : ℕ) (r : Routine) → slice_get ended.bodies.locals k ≡ Some r → Placed (length w.bodies.locals) k
            → IsBody m r
        formed_at k r e (there z) = subst (λ (x : Routine). IsBody m x)
            (same_routine (sym get_new ∙ ap (λ (n : ℕ). slice_get ended.bodies.locals n) (sym z) ∙ e)) new_formed where
              same_routine : Some new ≡ Some r → new ≡ r
              same_routine q = ap (λ (o : Option Routine). or_new o) q where
                or_new : Option Routine → Routine
                or_new None = new
                or_new (Some x) = x
        formed_at k r e (past z) = inner_formed.0 k r (let a = entry_length in omega (arith, a, z))
            (sym (get_other k (λ y. omega (arith, y, z))) ∙ e)

        pub nested_formed : AddsFormed g m opens w ended
        nested_formed k r a e = formed_at k r e (placed (length w.bodies.locals) k a)
