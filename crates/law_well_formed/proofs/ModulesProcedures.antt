-- The bodies of a module's procedures.
use Rattle.std.proofs.Common.{◌≡◌, ℕ, zero, suc, ◌+◌, ◌<◌, ◌≤◌, ◌==◌, Bool, true, false, List, [], ◌∷◌, length, Option, Some, None, Result, Ok, refl, sym, ap, subst, ◌∙◌, arith}
use Rattle.std.specs.Prelude.{slice_get, slice_set}
use Rattle.std.specs.Option.{unwrap_or}
use Rattle.std.proofs.lemmas.List.{length-append}
use Rattle.m2_tree.specs.declared.decl.Heading.{Heading}
use Rattle.typed_tree.specs.declared.known_types.Types.{Types}
use Rattle.typed_tree.specs.declared.meaning.Meaning.TheVariants as meaning
use Rattle.typed_tree.specs.declared.meaning.Procedure.{Procedure}
use Rattle.typed_tree.specs.declared.shape.Made.{Made}
use Rattle.typed_tree.specs.declared.statement.TypedStmt.{TypedStmt}
use Rattle.typed_tree.specs.declared.table.Table.{Table}
use Rattle.typed_tree.specs.declared.typed_module.Routine.{Routine}
use Rattle.typed_tree.specs.declared.typed_module.TypedModule.{TypedModule}
use Rattle.typed_tree.specs.declared.typed_module.Which.{Which}
use Rattle.typed_tree.specs.declared.typed_module.Which.TheVariants as which
use Rattle.typed_tree.specs.declared.types.TypeNo.{TypeNo}
use Rattle.typed_tree.specs.Known.{made_at}
use Rattle.typed_tree.specs.Names.{find_name}
use Rattle.check_scope.specs.Elaborated.{Gathers}
use Rattle.check_scope.specs.declared.known.Known.{Known}
use Rattle.check_scope.specs.declared.known.Known.TheVariants.{Headed}
use Rattle.check_scope.specs.declared.scope.Block.{Block}
use Rattle.check_scope.specs.Inwards.{inwards}
use Rattle.check_body.specs.declared.routine.Bodies.{Bodies}
use Rattle.check_body.specs.declared.routine.Numbered.{Numbered}
use Rattle.check_body.specs.Routines.{numbered_known, put_routine, routine}
use Rattle.check_const.specs.Denote.{exported_meaning}
use Rattle.def_scheme.specs.Exprs.{is_there}
use Rattle.law_modules.specs.WellFormed.{IsRoutine, AreStmts, IsBody}
use Rattle.law_well_formed.specs.Formed.{Holds, FormedMeaning}
use Rattle.law_well_formed.specs.FormedScopes.{AreFormedNames, AreFormedBlocks}
use Rattle.law_well_formed.proofs.ScopesDeclarations.{ResultIs}
use Rattle.check_body.specs.declared.procedure.Walk.{Walk}
use Rattle.check_body.specs.Elaborating.{Elaborates}
use Rattle.check_body.specs.Inside.{with_routine}
use Rattle.check_body.specs.Bodies.{ChecksBlock, Steps, checked_by, with_body}
use Rattle.law_well_formed.specs.FormedBodies.{AreNumbered, Keeps, Adds, Suits, AddsFormed, Begins, FormedBlock}
use Rattle.law_well_formed.proofs.Places.{set_length, set_other, set_same, is_within}
use Rattle.law_well_formed.proofs.Scopes.{blocks_more, formals_formed, formals_await}
use Rattle.law_well_formed.proofs.Parts.{IsStep, constants_step, types_step, variables_step, procedure_step, AreSteps, no_steps, more_steps}
use Rattle.law_well_formed.proofs.Checks.{nonzero, begun_module_locals, holds_at, entry, inner, ended, inside, around_it, inner_ok, body_ok, inner_count, gives_result}
use Rattle.law_well_formed.proofs.BodiesBlocks.{Order, at_least, less, nat_order, from, step_own, step_keeps, all_keep, checked_reported}
use Rattle.law_well_formed.proofs.Heads.{ModuleHeadOf, ModuleHeadsIn}

-- procedures in procedures are added, whatever becomes of the module's own
pub record AddsNested {T : Type 0} (w w' : Walk T) : Type 0 where
  pub below : (n : ℕ) → n < length w.bodies.locals → slice_get w'.bodies.locals n ≡ slice_get w.bodies.locals n
  pub nested : (n : ℕ) → length w.bodies.locals ≤ n → n < length w'.bodies.locals → (r : Routine)
      × ((slice_get w'.bodies.locals n ≡ Some r) × (1 < r.level))

-- the module's procedures have these headings
abbrev pub Headings : List TypeNo → List Routine → Type 0
Headings procs rs = (n : ℕ) (t : TypeNo) → slice_get procs n ≡ Some t → IsRoutine rs n t

-- they stand in no procedure, and are well formed
abbrev pub AreOutermost : List Routine → Type 0
AreOutermost rs = (n : ℕ) (r : Routine) → slice_get rs n ≡ Some r → r.level ≡ 1

abbrev pub AreBodies : TypedModule → List Routine → Type 0
AreBodies m rs = (n : ℕ) (r : Routine) → slice_get rs n ≡ Some r → IsBody m r

pub data Same (n k : ℕ) : Type 0 where
  same : k ≡ n → Same n k
  other : (k ≡ n → ⊥) → Same n k

pub compared : (n k : ℕ) → Same n k
compared zero zero = same refl
compared zero (suc k) = other (λ e. omega (arith, e))
compared (suc n) zero = other (λ e. omega (arith, e))
compared (suc n) (suc k) = next (compared n k) where
  next : Same n k → Same (suc n) (suc k)
  next (same e) = same (ap suc e)
  next (other f) = other (λ e. f (omega (arith, e)))

module _ {A : Type 0} where
  some_is : (x y : A) → Some x ≡ Some y → x ≡ y
  some_is x y e = ap (λ (o : Option A). or_else o) e where
    or_else : Option A → A
    or_else None = x
    or_else (Some z) = z

  -- what holds of all elements holds where one is set for which it holds
  set_holds : (P : A → Type 0) (xs : List A) (n : ℕ) (x : A) → ((k : ℕ) (y : A) → slice_get xs k ≡ Some y → P y) → P x
      → (k : ℕ) (y : A) → slice_get (slice_set xs n x) k ≡ Some y → P y
  set_holds P xs n x all p k y e = by (compared n k) where
    by : Same n k → P y
    by (same z) = subst P (some_is x y (sym (set_same xs n x (within_of n z))
        ∙ sym (ap (λ (i : ℕ). slice_get (slice_set xs n x) i) z) ∙ e)) p where
          within_of : (n' : ℕ) → k ≡ n' → n < length xs
          within_of n' z' = subst (λ (l : ℕ). n < l) (set_length xs n x)
              (subst (λ (i : ℕ). i < length (slice_set xs n x)) z (is_within (slice_set xs n x) k y e))
    by (other f) = all k y (sym (set_other xs n k x f) ∙ e)

headings_set : (procs : List TypeNo) (rs : List Routine) (p : Procedure) (r : Routine)
    → slice_get procs p.number ≡ Some p.heading → r.heading ≡ p.heading → Headings procs rs
    → Headings procs (slice_set rs p.number r)
headings_set procs rs p r e h all n t k = by (compared p.number n) where
  by : Same p.number n → IsRoutine (slice_set rs p.number r) n t
  by (same z) =
      let old = all n t k in (
        r,
        ap (λ (i : ℕ). slice_get (slice_set rs p.number r) i) z
            ∙ set_same rs p.number r (subst (λ (i : ℕ). i < length rs) z (is_within rs n old.0 old.1)),
        h
            ∙ sym (some_is t p.heading (sym k ∙ ap (λ (i : ℕ). slice_get procs i) z ∙ e)),
      )
  by (other f) = let old = all n t k in (old.0, set_other rs p.number n r f ∙ old.1, old.2)

-- ---- one procedure

module _ (g : Gathers) (elaborates : Elaborates g.Reported) (ends : List ℕ) (h : Heading)
    (block : ChecksBlock g.Reported) (ks : List ℕ) (f : FormedBlock g ends block ks) (around : Option Which) (seen : ℕ)
    (w : Walk g.Reported)
    (level : (w.scope.level == 0) ≡ true) (single : length w.scope.outer ≡ 1) where
  abbrev first : Walk g.Reported
  first = (entry g elaborates ends h block ks f around seen w).0

  abbrev last : Walk g.Reported
  last = (inner g elaborates ends h block ks f around seen w).0

  abbrev behind : Walk g.Reported
  behind = ended g elaborates ends h block ks f around seen w

  first_bodies : first.bodies ≡ w.bodies
  first_bodies = begun_module_locals (w.scope.level == 0) level w.bodies

  pub module_count : length behind.bodies.locals ≡ length w.bodies.locals + length ks
  module_count = inner_count g elaborates ends h block ks f around seen w (omega (arith, single))
      ∙ ap (λ (rs : Bodies). length rs.locals + length ks) first_bodies

  module _ (p : Procedure) (head : find_name h.name.name w.scope.own ≡ Some (Headed (Ok (meaning.Procedure p))))
      (numbers : AreNumbered ends (length w.bodies.locals) ks) (ok : behind.so_far ≡ Ok tt) where
    begins : Begins ends first ks
    begins = record {
      level = nonzero (length w.scope.outer) (omega (arith, single));
      deep = let e : length first.scope.outer ≡ length w.scope.outer + 1 =
          length-append w.scope.outer (around_it g elaborates ends h block ks f around seen w ∷ []) in
          omega (arith, single, e);
      awaits = λ name. formals_await g (inwards w.scope seen) h.formals name;
      numbers = subst (λ (rs : Bodies). AreNumbered ends (length rs.locals) ks) (sym first_bodies) numbers;
    }

    abbrev numbered : Numbered
    numbered = record { which = which.Module p.number; heading = p.heading }

    abbrev statements : List TypedStmt
    statements = (body_ok g elaborates ends h block ks f around seen w ok).0

    abbrev new : Routine
    new = routine last.scope h.name numbered around (entry g elaborates ends h block ks f around seen w).1.formals
        statements

    bodies_are : behind.bodies ≡ put_routine last.bodies (which.Module p.number) new
    bodies_are =
        ap (λ (o : Option (Known g.Reported)). with_routine last.scope h.name around
        (entry g elaborates ends h block ks f around seen w).1.formals (numbered_known o)
        (inner g elaborates ends h block ks f around seen w).1 last.bodies) head
        ∙ ap (λ (r : Result (List TypedStmt) g.Reported). with_routine last.scope h.name around
        (entry g elaborates ends h block ks f around seen w).1.formals (Some numbered) r last.bodies)
        (body_ok g elaborates ends h block ks f around seen w ok).1

    locals_are : behind.bodies.locals ≡ last.bodies.locals
    locals_are = ap (λ (rs : Bodies). rs.locals) bodies_are

    inner_adds : Adds first last
    inner_adds = f.adds _ (entry g elaborates ends h block ks f around seen w).1.returns first begins
        (inner_ok g elaborates ends h block ks f around seen w ok)

    procedures_are : behind.bodies.procedures ≡ slice_set w.bodies.procedures p.number new
    procedures_are = ap (λ (rs : Bodies). rs.procedures) bodies_are
        ∙ ap (λ (rs : List Routine). slice_set rs p.number new)
        (inner_adds.procedures ∙ ap (λ (rs : Bodies). rs.procedures) first_bodies)

    new_level : new.level ≡ 1
    new_level = (inside g elaborates ends h block ks f around seen w).level ∙ single

    pub module_adds : AddsNested w behind
    module_adds = record {
      below = λ n e.
          ap (λ (rs : List Routine). slice_get rs n) locals_are
          ∙ inner_adds.below n (subst (λ (rs : Bodies). n < length rs.locals) (sym first_bodies) e)
          ∙ ap (λ (rs : Bodies). slice_get rs.locals n) first_bodies;
      nested = λ n a b.
          let r = inner_adds.nested n (subst (λ (rs : Bodies). length rs.locals ≤ n) (sym first_bodies) a)
          (subst (λ (rs : List Routine). n < length rs) locals_are b) in
          (r.0, (ap (λ (rs : List Routine). slice_get rs n) locals_are ∙ r.1.0, r.1.1));
    }

    pub module_outermost : AreOutermost w.bodies.procedures → AreOutermost behind.bodies.procedures
    module_outermost all = subst (λ (rs : List Routine). AreOutermost rs) (sym procedures_are)
        (set_holds (λ r. r.level ≡ 1) w.bodies.procedures p.number new all new_level)

    pub module_headings : (procs : List TypeNo) → slice_get procs p.number ≡ Some p.heading
        → Headings procs w.bodies.procedures → Headings procs behind.bodies.procedures
    module_headings procs e all = subst (λ (rs : List Routine). Headings procs rs) (sym procedures_are)
        (headings_set procs w.bodies.procedures p new e refl all)

    module _ (types : Types) (result : ResultIs types p.heading h.result)
        (grown : (t : TypeNo) (x : Made) → made_at types t ≡ Some x → made_at w.scope.types t ≡ Some x)
        (m : TypedModule) (opens : ℕ → Bool) (suits : Suits g m opens w behind)
        (own : AreFormedNames m opens w.scope.own) where
      inner_suits : Suits g m opens first last
      inner_suits = record {
        home = suits.home;
        types = suits.types;
        locals = λ n a b.
            suits.locals n (subst (λ (rs : Bodies). length rs.locals ≤ n) first_bodies a)
            (subst (λ (rs : List Routine). n < length rs) (sym locals_are) b)
            ∙ ap (λ (rs : List Routine). slice_get rs n) locals_are;
        members = suits.members;
        outer = blocks_more m opens w.scope.outer (around_it g elaborates ends h block ks f around seen w) suits.outer
            own;
        withs = suits.withs;
      }

      inner_formed : AddsFormed g m opens first last
          × Holds (AreStmts m (is_there (entry g elaborates ends h block ks f around seen w).1.returns) 0 false)
          (inner g elaborates ends h block ks f around seen w).1
      inner_formed = f.formed _ (entry g elaborates ends h block ks f around seen w).1.returns first begins
          (inner_ok g elaborates ends h block ks f around seen w ok) m opens inner_suits
          (formals_formed m opens g (inwards w.scope seen) h.formals)

      new_formed : IsBody m new
      new_formed = record {
        body = subst (λ (b : Bool). AreStmts m b 0 false statements)
            (gives_result g elaborates ends h block ks f around seen w m p.heading types
            (λ u x e. suits.types u x ((inside g elaborates ends h block ks f around seen w).types u x
            (grown u x e))) result)
            (holds_at (inner g elaborates ends h block ks f around seen w).1 inner_formed.1 statements
            (body_ok g elaborates ends h block ks f around seen w ok).1);
      }

      pub module_formed : AddsFormed g m opens w behind
      module_formed k r a e = inner_formed.0 k r (subst (λ (rs : Bodies). length rs.locals ≤ k) (sym first_bodies) a)
          (sym (ap (λ (rs : List Routine). slice_get rs k) locals_are) ∙ e)

      pub module_bodies : AreBodies m w.bodies.procedures → AreBodies m behind.bodies.procedures
      module_bodies all = subst (λ (rs : List Routine). AreBodies m rs) (sym procedures_are)
          (set_holds (IsBody m) w.bodies.procedures p.number new all new_formed)

-- ---- all of them

module _ (g : Gathers) (elaborates : Elaborates g.Reported) (ends : List ℕ) (around : Option Which) where
  -- the numbers of the procedures in each
  abbrev pub NumbersOf : (n : ℕ) {x : Steps g.Reported} {ks : List ℕ} → IsStep g elaborates ends x ks → Type 0
  NumbersOf n (constants_step cs) = Unit {0}
  NumbersOf n (types_step ts) = Unit {0}
  NumbersOf n (variables_step vs) = Unit {0}
  NumbersOf n (procedure_step h block ks f) = AreNumbered ends n ks

  abbrev pub count_of : {x : Steps g.Reported} {ks : List ℕ} → IsStep g elaborates ends x ks → ℕ
  count_of (constants_step cs) = 0
  count_of (types_step ts) = 0
  count_of (variables_step vs) = 0
  count_of (procedure_step h block ks f) = length ks

  abbrev pub NumbersIn : (n : ℕ) {xs : List (Steps g.Reported)} {ls : List ℕ} → AreSteps g elaborates ends xs ls
      → Type 0
  NumbersIn n no_steps = Unit {0}
  NumbersIn n (more_steps x xs ks ls p ps) = NumbersOf n p × NumbersIn (n + count_of p) ps

  module _ (own : List (List ℕ × Known g.Reported)) (types : Types) (procs : List TypeNo) where
    pub record Stands (w : Walk g.Reported) (n : ℕ) : Type 0 where
      pub names : w.scope.own ≡ own
      pub outermost : (w.scope.level == 0) ≡ true
      pub single : length w.scope.outer ≡ 1
      pub count : n ≡ length w.bodies.locals
      pub grown : (t : TypeNo) (y : Made) → made_at types t ≡ Some y → made_at w.scope.types t ≡ Some y

    abbrev HeadAt : {x : Steps g.Reported} {ks : List ℕ} → IsStep g elaborates ends x ks → Type 0
    HeadAt p = ModuleHeadOf g elaborates ends own types procs p

    step_count : {x : Steps g.Reported} {ks : List ℕ} (p : IsStep g elaborates ends x ks) (seen : ℕ)
        (w : Walk g.Reported) (n : ℕ) → Stands w n
        → length (checked_by x around seen w).bodies.locals ≡ length w.bodies.locals + count_of p
    step_count (constants_step cs) seen w n s = omega arith
    step_count (types_step ts) seen w n s = omega arith
    step_count (variables_step vs) seen w n s = omega arith
    step_count (procedure_step h block ks f) seen w n s =
        module_count g elaborates ends h block ks f around seen w s.outermost s.single

    pub record Goes (w w' : Walk g.Reported) : Type 0 where
      pub adds : AddsNested w w'
      pub outermost : AreOutermost w.bodies.procedures → AreOutermost w'.bodies.procedures
      pub headings : Headings procs w.bodies.procedures → Headings procs w'.bodies.procedures

    goes_refl : (w : Walk g.Reported) → Goes w w
    goes_refl w = record {
      adds = record { below = λ n e. refl; nested = λ n a b. absurd (omega (arith, a, b)) };
      outermost = λ all. all;
      headings = λ all. all;
    }

    step_goes : {x : Steps g.Reported} {ks : List ℕ} (p : IsStep g elaborates ends x ks) (seen : ℕ)
        (w : Walk g.Reported) (n : ℕ) → Stands w n → HeadAt p → NumbersOf n p
        → (checked_by x around seen w).so_far ≡ Ok tt → Goes w (checked_by x around seen w)
    step_goes (constants_step cs) seen w n s k u q = goes_refl w
    step_goes (types_step ts) seen w n s k u q = goes_refl w
    step_goes (variables_step vs) seen w n s k u q = goes_refl w
    step_goes (procedure_step h block ks f) seen w n s k u q =
        let head = ap (λ (es : List (List ℕ × Known g.Reported)). find_name h.name.name es) s.names ∙ k.1.0 in
        let numbers = subst (λ (i : ℕ). AreNumbered ends i ks) s.count u in
        record {
          adds = module_adds g elaborates ends h block ks f around seen w s.outermost s.single k.0 head numbers q;
          outermost = module_outermost g elaborates ends h block ks f around seen w s.outermost s.single k.0 head
              numbers q;
          headings = module_headings g elaborates ends h block ks f around seen w s.outermost s.single k.0 head numbers
              q procs k.1.1.0.1;
        }

    abbrev pub FormedTo : TypedModule → (ℕ → Bool) → Walk g.Reported → Walk g.Reported → Type 0
    FormedTo m opens w w' = AddsFormed g m opens w w'
        × (AreBodies m w.bodies.procedures → AreBodies m w'.bodies.procedures)

    none_formed : (m : TypedModule) (opens : ℕ → Bool) (w : Walk g.Reported) → FormedTo m opens w w
    none_formed m opens w = (
      λ n r a e. absurd
          (let b : n < length w.bodies.locals = is_within w.bodies.locals n r e in omega (arith, a, b)),
      λ all. all,
    )

    step_formed : {x : Steps g.Reported} {ks : List ℕ} (p : IsStep g elaborates ends x ks) (seen : ℕ)
        (w : Walk g.Reported) (n : ℕ) → Stands w n → HeadAt p → NumbersOf n p
        → (checked_by x around seen w).so_far ≡ Ok tt
        → (m : TypedModule) (opens : ℕ → Bool) → Suits g m opens w (checked_by x around seen w)
        → AreFormedNames m opens own → FormedTo m opens w (checked_by x around seen w)
    step_formed (constants_step cs) seen w n s k u q m opens suits o = none_formed m opens w
    step_formed (types_step ts) seen w n s k u q m opens suits o = none_formed m opens w
    step_formed (variables_step vs) seen w n s k u q m opens suits o = none_formed m opens w
    step_formed (procedure_step h block ks f) seen w n s k u q m opens suits o =
        let head = ap (λ (es : List (List ℕ × Known g.Reported)). find_name h.name.name es) s.names ∙ k.1.0 in
        let numbers = subst (λ (i : ℕ). AreNumbered ends i ks) s.count u in
        let names = subst (λ (es : List (List ℕ × Known g.Reported)). AreFormedNames m opens es) (sym s.names) o in (
          module_formed g elaborates ends h block ks f around seen w s.outermost s.single k.0 head numbers q types
              k.1.1.1 s.grown m opens suits names,
          module_bodies g elaborates ends h block ks f around seen w s.outermost s.single k.0 head numbers q types
              k.1.1.1 s.grown m opens suits names,
        )

    module _ (seen : List ℕ) where
      abbrev next : Walk g.Reported × ℕ → Steps g.Reported → Walk g.Reported × ℕ
      next st x = with_body (λ (x : Steps g.Reported). checked_by x around) seen st x

      abbrev end : Walk g.Reported × ℕ → List (Steps g.Reported) → Walk g.Reported
      end st xs = from g elaborates ends around seen st xs

      abbrev at_step : ℕ → ℕ
      at_step i = unwrap_or (slice_get seen i) 0

      stands_next : {x : Steps g.Reported} {ks : List ℕ} (p : IsStep g elaborates ends x ks) (st : Walk g.Reported × ℕ)
          (n : ℕ) → Stands st.0 n → Stands (next st x).0 (n + count_of p)
      stands_next p st n s =
          let k = step_keeps g elaborates ends around p (at_step st.1) st.0 in
          record {
            names = step_own g elaborates ends around p (at_step st.1) st.0 ∙ s.names;
            outermost = ap (λ (n : ℕ). n == 0) k.level ∙ s.outermost;
            single = ap (λ (bs : List (Block g.Reported)). length bs) k.outer ∙ s.single;
            count = let c = step_count p (at_step st.1) st.0 n s in let e = s.count in omega (arith, c, e);
            grown = λ t y e. k.types t y (s.grown t y e);
          }

      nested_by : (a b c : Walk g.Reported) → AddsNested a b → AddsNested b c → (n : ℕ) → length a.bodies.locals ≤ n
          → n < length c.bodies.locals → Order (length b.bodies.locals) n → (r : Routine)
          × ((slice_get c.bodies.locals n ≡ Some r) × (1 < r.level))
      nested_by a b c p q n e f (at_least z) = q.nested n z f
      nested_by a b c p q n e f (less z) = let r = p.nested n e z in (r.0, (q.below n z ∙ r.1.0, r.1.1))

      goes_then : (a b c : Walk g.Reported) → length a.bodies.locals ≤ length b.bodies.locals → Goes a b → Goes b c
          → Goes a c
      goes_then a b c grows p q = record {
        adds = record {
          below = λ n e. q.adds.below n (omega (arith, e, grows)) ∙ p.adds.below n e;
          nested = λ n e f. nested_by a b c p.adds q.adds n e f (nat_order (length b.bodies.locals) n);
        };
        outermost = λ all. q.outermost (p.outermost all);
        headings = λ all. q.headings (p.headings all);
      }

      pub all_go : {xs : List (Steps g.Reported)} {ls : List ℕ} (ps : AreSteps g elaborates ends xs ls)
          (st : Walk g.Reported × ℕ) (n : ℕ) → Stands st.0 n → ModuleHeadsIn g elaborates ends own types procs ps
          → NumbersIn n ps → (end st xs).so_far ≡ Ok tt → Goes st.0 (end st xs)
      all_go no_steps st n s k u q = goes_refl st.0
      all_go (more_steps x xs ks ls p ps) st n s k u q =
          goes_then st.0 (next st x).0 (end st (x ∷ xs))
          (let c = step_count p (at_step st.1) st.0 n s in omega (arith, c))
          (step_goes p (at_step st.1) st.0 n s k.0 u.0
          (checked_reported g elaborates ends around seen ps (next st x) q))
          (all_go ps (next st x) (n + count_of p) (stands_next p st n s) k.1 u.1 q)

      all_grow : {xs : List (Steps g.Reported)} {ls : List ℕ} (ps : AreSteps g elaborates ends xs ls)
          (st : Walk g.Reported × ℕ) (n : ℕ) → Stands st.0 n
          → length st.0.bodies.locals ≤ length (end st xs).bodies.locals
      all_grow no_steps st n s = omega arith
      all_grow (more_steps x xs ks ls p ps) st n s =
          let c = step_count p (at_step st.1) st.0 n s in
          let d = all_grow ps (next st x) (n + count_of p) (stands_next p st n s) in
          omega (arith, c, d)

      module _ (m : TypedModule) (opens : ℕ → Bool) where
        suits_first : (a b c : Walk g.Reported) → Keeps b.scope c.scope → AddsNested b c
            → length b.bodies.locals ≤ length c.bodies.locals → Suits g m opens a c → Suits g m opens a b
        suits_first a b c k p grows u = record {
          home = u.home;
          types = λ t x e. u.types t x (k.types t x e);
          locals = λ n e f. u.locals n e (omega (arith, f, grows)) ∙ p.below n f;
          members = u.members;
          outer = u.outer;
          withs = u.withs;
        }

        suits_rest : (a b c : Walk g.Reported) → Keeps a.scope b.scope → length a.bodies.locals ≤ length b.bodies.locals
            → Suits g m opens a c → Suits g m opens b c
        suits_rest a b c k grows u = record {
          home = k.home ∙ u.home;
          types = u.types;
          locals = λ n e f. u.locals n (omega (arith, e, grows)) f;
          members = λ i name e. subst (λ (ts : List Table). Holds (FormedMeaning m opens 0)
              (exported_meaning g ts i name)) (sym k.tables) (u.members i name e);
          outer = subst (λ (bs : List (Block g.Reported)). AreFormedBlocks m opens bs) (sym k.outer) u.outer;
          withs = k.withs ∙ u.withs;
        }

        added_by : (a b c : Walk g.Reported) → AddsNested b c → AddsFormed g m opens a b → AddsFormed g m opens b c
            → (n : ℕ) (r : Routine) → length a.bodies.locals ≤ n → slice_get c.bodies.locals n ≡ Some r
            → Order (length b.bodies.locals) n → IsBody m r
        added_by a b c d p q n r e f (at_least z) = q n r z f
        added_by a b c d p q n r e f (less z) = p n r e (sym (d.below n z) ∙ f)

        pub all_formed_to : {xs : List (Steps g.Reported)} {ls : List ℕ} (ps : AreSteps g elaborates ends xs ls)
            (st : Walk g.Reported × ℕ) (n : ℕ) → Stands st.0 n → ModuleHeadsIn g elaborates ends own types procs ps
            → NumbersIn n ps → (end st xs).so_far ≡ Ok tt
            → Suits g m opens st.0 (end st xs) → AreFormedNames m opens own → FormedTo m opens st.0 (end st xs)
        all_formed_to no_steps st n s k u q suits o = none_formed m opens st.0
        all_formed_to (more_steps x xs ks ls p ps) st n s k u q suits o =
            let one = next st x in
            let all : Walk g.Reported = end st (x ∷ xs) in
            let here = stands_next p st n s in
            let later = all_go ps one (n + count_of p) here k.1 u.1 q in
            let c = step_count p (at_step st.1) st.0 n s in
            let a = step_formed p (at_step st.1) st.0 n s k.0 u.0
            (checked_reported g elaborates ends around seen ps one q) m opens
            (suits_first st.0 one.0 all (all_keep g elaborates ends around seen ps one) later.adds
            (all_grow ps one (n + count_of p) here) suits) o in
            let b = all_formed_to ps one (n + count_of p) here k.1 u.1 q
            (suits_rest st.0 one.0 all (step_keeps g elaborates ends around p (at_step st.1) st.0)
            (omega (arith, c)) suits) o in (
              λ i r e f. added_by st.0 one.0 all later.adds a.0 b.0 i r e f (nat_order (length one.0.bodies.locals) i),
              λ z. b.1 (a.1 z),
            )
