-- The procedures of a module.
use Rattle.std.proofs.Common.{◌≡◌, ℕ, zero, suc, ◌+◌, ◌<◌, ◌≤◌, ◌==◌, true, List, [], ◌∷◌, ◌++◌, length, Option, Some, None, Result, Ok, refl, sym, ap, subst, ◌∙◌, append_assoc, arith}
use Rattle.std.specs.Prelude.{map, slice_get, slice_set}
use Rattle.std.specs.List.{fold}
use Rattle.std.specs.Option.{unwrap_or}
use Rattle.std.proofs.lemmas.List.{append-nil, length-append}
use Rattle.std.proofs.lemmas.Option.{same_Some}
use Rattle.m2_tree.specs.declared.decl.Decl.{Decl, Decl-F, out-Decl, map-Decl, fold_out-Decl}
use Rattle.m2_tree.specs.declared.decl.Decl.TheOpen as layer
use Rattle.m2_tree.specs.declared.decl.Block.{Block as BlockTree}
use Rattle.m2_tree.specs.declared.decl.Heading.{Heading}
use Rattle.typed_tree.specs.declared.known_types.Types.{Types}
use Rattle.typed_tree.specs.declared.meaning.Meaning.TheVariants as meaning
use Rattle.typed_tree.specs.declared.meaning.Procedure.{Procedure}
use Rattle.typed_tree.specs.declared.statement.TypedStmt.{TypedStmt}
use Rattle.typed_tree.specs.declared.typed_module.Routine.{Routine}
use Rattle.typed_tree.specs.declared.typed_module.Which.{Which}
use Rattle.typed_tree.specs.declared.typed_module.Which.TheVariants as which
use Rattle.typed_tree.specs.declared.types.TypeNo.{TypeNo}
use Rattle.typed_tree.specs.Names.{find_name}
use Rattle.check_scope.specs.Elaborated.{Gathers}
use Rattle.check_scope.specs.declared.known.Known.{Known}
use Rattle.check_scope.specs.declared.known.Known.TheVariants.{Headed}
use Rattle.check_scope.specs.declared.scope.Block.{Block}
use Rattle.check_scope.specs.Inwards.{inwards}
use Rattle.check_block.specs.Nesting as nesting
use Rattle.check_block.specs.Nesting.{within_decl, within, ends_from, with_procedure_ends, with_decl_ends}
use Rattle.check_body.specs.declared.routine.Bodies.{Bodies}
use Rattle.check_body.specs.declared.routine.Numbered.{Numbered}
use Rattle.check_body.specs.Routines.{numbered_known, put_routine, routine}
use Rattle.check_body.specs.declared.procedure.Walk.{Walk}
use Rattle.check_body.specs.Elaborating.{Elaborates}
use Rattle.check_body.specs.Inside.{which_of, with_routine}
use Rattle.check_body.specs.Bodies.{ChecksBlock, Steps, checked_by, with_body, steps}
use Rattle.law_well_formed.specs.FormedBodies.{AreNumbered, FormsStatements, Begins, FormedBlock}
use Rattle.law_well_formed.proofs.Places.{set_length, set_other, set_same, before_end, behind_end, is_within}
use Rattle.law_well_formed.proofs.Scopes.{formals_await}
use Rattle.law_well_formed.proofs.Parts.{IsStep, constants_step, types_step, variables_step, procedure_step, AreSteps, no_steps, more_steps}
use Rattle.law_well_formed.proofs.Checks.{nonzero, begun_module_locals, entry, inner, ended, around_it, inner_ok, body_ok}
use Rattle.law_well_formed.proofs.BodiesBlocks.{Order, at_least, less, nat_order, from, step_own, step_keeps, checked_reported}
use Rattle.law_well_formed.proofs.Heads.{ModuleHeadOf, ModuleHeadsIn}
use Rattle.law_well_formed.proofs.ModulesProcedures.{AddsNested, Same, same, other, compared, module_count, NumbersOf, count_of, NumbersIn, Stands, all_go}
use Rattle.law_well_formed.proofs.ModulesSteps.{inside as inside_of, total as total_of}
use Rattle.law_well_formed.proofs.Nested.{Nests, in_block, in_other, IsDeep, NestedBlock}
use Rattle.law_well_formed.proofs.FramesBlocks.{StepNests, AllNest, decls_nest}

-- it stands in a procedure of the module, or in another one of those that were added
pub data NestsIn (procs : List TypeNo) (rs : List Routine) (r : Routine) : Type 0 where
  in_module : (k : ℕ) (t : TypeNo) → slice_get procs k ≡ Some t → r.around ≡ Some (which.Module k) → r.level ≡ 2
      → NestsIn procs rs r
  in_local : (k : ℕ) (q : Routine) → slice_get rs k ≡ Some q → r.around ≡ Some (which.Local k) → r.level ≡ suc q.level
      → NestsIn procs rs r

abbrev pub AddsIn : {T : Type 0} → List TypeNo → Walk T → Walk T → Type 0
AddsIn procs w w' = (n : ℕ) (r : Routine) → length w.bodies.locals ≤ n → slice_get w'.bodies.locals n ≡ Some r
    → NestsIn procs w'.bodies.locals r

-- they stand there
abbrev pub AreApart : Option Which → List Routine → Type 0
AreApart around rs = (n : ℕ) (r : Routine) → slice_get rs n ≡ Some r → r.around ≡ around

-- what holds of all elements holds where one is set for which it holds
set_holds : {A : Type 0} (P : A → Type 0) (xs : List A) (n : ℕ) (x : A)
    → ((k : ℕ) (y : A) → slice_get xs k ≡ Some y → P y) → P x → (k : ℕ) (y : A)
    → slice_get (slice_set xs n x) k ≡ Some y → P y
set_holds P xs n x all p k y e = by (compared n k) where
  by : Same n k → P y
  by (same z) = subst P (same_Some x y (sym (set_same xs n x (within_of n z))
      ∙ sym (ap (λ (i : ℕ). slice_get (slice_set xs n x) i) z) ∙ e)) p where
        within_of : (n' : ℕ) → k ≡ n' → n < length xs
        within_of n' z' = subst (λ (l : ℕ). n < l) (set_length xs n x)
            (subst (λ (i : ℕ). i < length (slice_set xs n x)) z (is_within (slice_set xs n x) k y e))
  by (other f) = all k y (sym (set_other xs n k x f) ∙ e)

-- ---- one procedure

module _ (g : Gathers) (elaborates : Elaborates g.Reported) (ends : List ℕ) (h : Heading)
    (block : ChecksBlock g.Reported) (ks : List ℕ) (f : FormedBlock g ends block ks) (b : NestedBlock g ends block ks)
    (around : Option Which) (seen : ℕ) (w : Walk g.Reported) (level : (w.scope.level == 0) ≡ true)
    (single : length w.scope.outer ≡ 1) where
  abbrev first : Walk g.Reported
  first = (entry g elaborates ends h block ks f around seen w).0

  abbrev last : Walk g.Reported
  last = (inner g elaborates ends h block ks f around seen w).0

  abbrev behind : Walk g.Reported
  behind = ended g elaborates ends h block ks f around seen w

  abbrev own : Option Which
  own = which_of (entry g elaborates ends h block ks f around seen w).1.procedure

  first_bodies : first.bodies ≡ w.bodies
  first_bodies = begun_module_locals (w.scope.level == 0) level w.bodies

  first_outer : length first.scope.outer ≡ length w.scope.outer + 1
  first_outer = length-append w.scope.outer (around_it g elaborates ends h block ks f around seen w ∷ [])

  first_deep : IsDeep first
  first_deep = let e = first_outer in omega (arith, e)

  module _ (p : Procedure) (head : find_name h.name.name w.scope.own ≡ Some (Headed (Ok (meaning.Procedure p))))
      (numbers : AreNumbered ends (length w.bodies.locals) ks) (ok : behind.so_far ≡ Ok tt) where
    begins : Begins ends first ks
    begins = record {
      level = nonzero (length w.scope.outer) (omega (arith, single));
      deep = let e = first_outer in omega (arith, single, e);
      awaits = λ name. formals_await g (inwards w.scope seen) h.formals name;
      numbers = subst (λ (rs : Bodies). AreNumbered ends (length rs.locals) ks) (sym first_bodies) numbers;
    }

    abbrev numbered : Numbered
    numbered = record { which = which.Module p.number; heading = p.heading }

    abbrev new : Routine
    new = routine last.scope h.name numbered around (entry g elaborates ends h block ks f around seen w).1.formals
        (body_ok g elaborates ends h block ks f around seen w ok).0

    own_is : own ≡ Some (which.Module p.number)
    own_is = ap (λ (o : Option (Known g.Reported)). which_of (numbered_known o)) head

    bodies_are : behind.bodies ≡ put_routine last.bodies (which.Module p.number) new
    bodies_are =
        ap (λ (o : Option (Known g.Reported)). with_routine last.scope h.name around
        (entry g elaborates ends h block ks f around seen w).1.formals (numbered_known o)
        (inner g elaborates ends h block ks f around seen w).1 last.bodies) head
        ∙ ap (λ (r : Result (List TypedStmt) g.Reported). with_routine last.scope h.name around
        (entry g elaborates ends h block ks f around seen w).1.formals (Some numbered) r last.bodies)
        (body_ok g elaborates ends h block ks f around seen w ok).1

    locals_are : behind.bodies.locals ≡ last.bodies.locals
    locals_are = ap (λ (rs : Bodies). rs.locals) bodies_are

    procedures_are : behind.bodies.procedures ≡ slice_set w.bodies.procedures p.number new
    procedures_are =
        ap (λ (rs : Bodies). rs.procedures) bodies_are
        ∙ ap (λ (rs : List Routine). slice_set rs p.number new)
        ((f.adds own (entry g elaborates ends h block ks f around seen w).1.returns first begins
        (inner_ok g elaborates ends h block ks f around seen w ok)).procedures
        ∙ ap (λ (rs : Bodies). rs.procedures) first_bodies)

    pub module_apart : AreApart around w.bodies.procedures → AreApart around behind.bodies.procedures
    module_apart all = subst (λ (rs : List Routine). AreApart around rs) (sym procedures_are)
        (set_holds (λ r. r.around ≡ around) w.bodies.procedures p.number new all refl)

    by : (procs : List TypeNo) → slice_get procs p.number ≡ Some p.heading → (r : Routine)
        → Nests last.bodies.locals (length first.bodies.locals) own first.scope.level r
        → NestsIn procs last.bodies.locals r
    by procs e r (in_block k q) = in_module p.number p.heading e (k ∙ own_is) (q ∙ ap suc single)
    by procs e r (in_other k x a z u v) = in_local k x z u v

    pub module_nests : (procs : List TypeNo) → slice_get procs p.number ≡ Some p.heading → AddsIn procs w behind
    module_nests procs e n r a z =
        subst (λ (rs : List Routine). NestsIn procs rs r) (sym locals_are)
        (by procs e r (b.nests own (entry g elaborates ends h block ks f around seen w).1.returns first begins
        first_deep (inner_ok g elaborates ends h block ks f around seen w ok) n r
        (subst (λ (rs : Bodies). length rs.locals ≤ n) (sym first_bodies) a)
        (sym (ap (λ (rs : List Routine). slice_get rs n) locals_are) ∙ z)))

-- ---- all of them

nests_on : {T : Type 0} (procs : List TypeNo) (b c : Walk T) (r : Routine) → AddsNested b c
    → NestsIn procs b.bodies.locals r → NestsIn procs c.bodies.locals r
nests_on procs b c r d (in_module k t e u v) = in_module k t e u v
nests_on procs b c r d (in_local k q e u v) = in_local k q (d.below k (is_within b.bodies.locals k q e) ∙ e) u v

nests_by : {T : Type 0} (procs : List TypeNo) (a b c : Walk T) → AddsNested b c → AddsIn procs a b → AddsIn procs b c
    → (n : ℕ) (r : Routine) → length a.bodies.locals ≤ n → slice_get c.bodies.locals n ≡ Some r
    → Order (length b.bodies.locals) n → NestsIn procs c.bodies.locals r
nests_by procs a b c d p q n r e f (at_least z) = q n r z f
nests_by procs a b c d p q n r e f (less z) = nests_on procs b c r d (p n r e (sym (d.below n z) ∙ f))

module _ (g : Gathers) (elaborates : Elaborates g.Reported) (ends : List ℕ) (around : Option Which)
    (own : List (List ℕ × Known g.Reported)) (types : Types) (procs : List TypeNo) where
  abbrev StandsAt : Walk g.Reported → ℕ → Type 0
  StandsAt w n = Stands g elaborates ends around own types procs w n

  step_count : {x : Steps g.Reported} {ks : List ℕ} (p : IsStep g elaborates ends x ks) (seen : ℕ) (w : Walk g.Reported)
      (n : ℕ) → StandsAt w n → length (checked_by x around seen w).bodies.locals
      ≡ length w.bodies.locals + count_of g elaborates ends around p
  step_count (constants_step cs) seen w n s = omega arith
  step_count (types_step ts) seen w n s = omega arith
  step_count (variables_step vs) seen w n s = omega arith
  step_count (procedure_step h block ks f) seen w n s =
      module_count g elaborates ends h block ks f around seen w s.outermost s.single

  -- procedures that are added stand where they are to stand
  pub record Nested (w w' : Walk g.Reported) : Type 0 where
    pub nests : AddsIn procs w w'
    pub apart : AreApart around w.bodies.procedures → AreApart around w'.bodies.procedures

  nested_none : (w : Walk g.Reported) → Nested w w
  nested_none w = record {
    nests = λ n r a e. absurd (let b : n < length w.bodies.locals = is_within w.bodies.locals n r e in
        omega (arith, a, b));
    apart = λ all. all;
  }

  step_nested : {x : Steps g.Reported} {ks : List ℕ} (p : IsStep g elaborates ends x ks) → StepNests g elaborates ends p
      → (seen : ℕ) (w : Walk g.Reported) (n : ℕ) → StandsAt w n → ModuleHeadOf g elaborates ends own types procs p
      → NumbersOf g elaborates ends around n p
      → (checked_by x around seen w).so_far ≡ Ok tt → Nested w (checked_by x around seen w)
  step_nested (constants_step cs) b seen w n s k u q = nested_none w
  step_nested (types_step ts) b seen w n s k u q = nested_none w
  step_nested (variables_step vs) b seen w n s k u q = nested_none w
  step_nested (procedure_step h block ks f) b seen w n s k u q =
      let head = ap (λ (es : List (List ℕ × Known g.Reported)). find_name h.name.name es) s.names ∙ k.1.0 in
      let numbers = subst (λ (i : ℕ). AreNumbered ends i ks) s.count u in
      record {
        nests = module_nests g elaborates ends h block ks f b around seen w s.outermost s.single k.0 head numbers q
            procs k.1.1.0.1;
        apart = module_apart g elaborates ends h block ks f b around seen w s.outermost s.single k.0 head numbers q;
      }

  module _ (seen : List ℕ) where
    abbrev next : Walk g.Reported × ℕ → Steps g.Reported → Walk g.Reported × ℕ
    next st x = with_body (λ (x : Steps g.Reported). checked_by x around) seen st x

    abbrev end : Walk g.Reported × ℕ → List (Steps g.Reported) → Walk g.Reported
    end st xs = from g elaborates ends around seen st xs

    abbrev at_step : ℕ → ℕ
    at_step i = unwrap_or (slice_get seen i) 0

    stands_next : {x : Steps g.Reported} {ks : List ℕ} (p : IsStep g elaborates ends x ks) (st : Walk g.Reported × ℕ)
        (n : ℕ) → StandsAt st.0 n → StandsAt (next st x).0 (n + count_of g elaborates ends around p)
    stands_next p st n s =
        let k = step_keeps g elaborates ends around p (at_step st.1) st.0 in
        record {
          names = step_own g elaborates ends around p (at_step st.1) st.0 ∙ s.names;
          outermost = ap (λ (n : ℕ). n == 0) k.level ∙ s.outermost;
          single = ap (λ (bs : List (Block g.Reported)). length bs) k.outer ∙ s.single;
          count = let c = step_count p (at_step st.1) st.0 n s in let e = s.count in omega (arith, c, e);
          grown = λ t y e. k.types t y (s.grown t y e);
        }

    nested_then : (a b c : Walk g.Reported) → AddsNested b c → Nested a b → Nested b c → Nested a c
    nested_then a b c d p q = record {
      nests = λ n r e f. nests_by procs a b c d p.nests q.nests n r e f (nat_order (length b.bodies.locals) n);
      apart = λ all. q.apart (p.apart all);
    }

    pub all_nested : {xs : List (Steps g.Reported)} {ls : List ℕ} (ps : AreSteps g elaborates ends xs ls)
        → AllNest g elaborates ends ps → (st : Walk g.Reported × ℕ) (n : ℕ) → StandsAt st.0 n
        → ModuleHeadsIn g elaborates ends own types procs ps → NumbersIn g elaborates ends around n ps
        → (end st xs).so_far ≡ Ok tt → Nested st.0 (end st xs)
    all_nested no_steps bs st n s k u q = nested_none st.0
    all_nested (more_steps x xs ks ls p ps) bs st n s k u q =
        nested_then st.0 (next st x).0 (end st (x ∷ xs))
        (all_go g elaborates ends around own types procs seen ps (next st x) (n + count_of g elaborates ends around p)
        (stands_next p st n s) k.1 u.1 q).adds
        (step_nested p bs.0 (at_step st.1) st.0 n s k.0 u.0
        (checked_reported g elaborates ends around seen ps (next st x) q))
        (all_nested ps bs.1 (next st x) (n + count_of g elaborates ends around p) (stands_next p st n s) k.1 u.1 q)

-- ---- the numbers of the procedures in each declaration

ends_length : (n : ℕ) (ks : List ℕ) → length (ends_from n ks) ≡ length ks
ends_length n [] = refl
ends_length n (k ∷ ks) = ap suc (ends_length (n + 1) ks)

ends_at : (n : ℕ) (ks : List ℕ) (i c : ℕ) → slice_get ks i ≡ Some c
    → slice_get (ends_from n ks) i ≡ Some (n + i + 1 + c)
ends_at n [] i c e = absurd cc
ends_at n (k ∷ ks) zero c e = let a : n + 1 + c ≡ n + 0 + 1 + c = omega arith in
    ap (λ (o : Option ℕ). by o) e ∙ ap (λ (x : ℕ). Some x) a where
      by : Option ℕ → Option ℕ
      by None = None
      by (Some x) = Some (n + 1 + x)
ends_at n (k ∷ ks) (suc i) c e =
    let a : n + 1 + i + 1 + c ≡ n + suc i + 1 + c = omega arith in
    ends_at (n + 1) ks i c e ∙ ap (λ (x : ℕ). Some x) a

counted_layer : Decl-F Decl BlockTree → List ℕ
counted_layer x = nesting.decl_layer (map-Decl Decl BlockTree (List ℕ) (List ℕ) within_decl within x)

layer_ends : (so : List ℕ) (x : Decl-F Decl BlockTree)
    → with_procedure_ends so x ≡ so ++ ends_from (length so) (inside_of (counted_layer x))
unfolding counted_layer
layer_ends so (layer.Constants cs) = sym (append-nil so)
layer_ends so (layer.Types ts) = sym (append-nil so)
layer_ends so (layer.Variables vs) = sym (append-nil so)
layer_ends so (layer.Procedure h b) = refl

counted : (d : Decl) → within_decl d ≡ counted_layer (out-Decl d)
unfolding within_decl within counted_layer
counted d = fold_out-Decl (List ℕ) (List ℕ) nesting.decl_layer nesting.block_layer d

decl_ends : (so : List ℕ) (d : Decl) → with_decl_ends so d ≡ so ++ ends_from (length so) (inside_of (within_decl d))
decl_ends so d = layer_ends so (out-Decl d)
    ∙ ap (λ (ks : List ℕ). so ++ ends_from (length so) (inside_of ks)) (sym (counted d))

ends_more : (so : List ℕ) (ds : List Decl) → (more : List ℕ) × (fold with_decl_ends so ds ≡ so ++ more)
ends_more so [] = ([], sym (append-nil so))
ends_more so (d ∷ ds) =
    let k = ends_more (with_decl_ends so d) ds in
    let new : List ℕ = ends_from (length so) (inside_of (within_decl d)) in
    (new ++ k.0, k.1 ∙ ap (λ (es : List ℕ). es ++ k.0) (decl_ends so d) ∙ append_assoc so new k.0)

-- ---- the declarations of a module, whose blocks nest

module _ (g : Gathers) (elaborates : Elaborates g.Reported) (forms : FormsStatements g elaborates) (ends : List ℕ) where
  abbrev pub total : List Decl → List ℕ
  total ds = total_of g elaborates forms ends ds

  pub are_steps : (ds : List Decl) → AreSteps g elaborates ends (map (steps g elaborates ends) ds) (total ds)
  are_steps [] = no_steps
  are_steps (d ∷ ds) = more_steps (steps g elaborates ends d) (map (steps g elaborates ends) ds) (within_decl d)
      (total ds) (decls_nest g elaborates forms ends d).step (are_steps ds)

  pub they_nest : (ds : List Decl) → AllNest g elaborates ends (are_steps ds)
  unfolding are_steps
  they_nest [] = tt
  they_nest (d ∷ ds) = ((decls_nest g elaborates forms ends d).nests, they_nest ds)

  module _ (around : Option Which) where
    step_numbers : {x : Steps g.Reported} {ks : List ℕ} (p : IsStep g elaborates ends x ks) (n : ℕ)
        → AreNumbered ends n (inside_of ks) → NumbersOf g elaborates ends around n p
    step_numbers (constants_step cs) n k = tt
    step_numbers (types_step ts) n k = tt
    step_numbers (variables_step vs) n k = tt
    step_numbers (procedure_step h block ks f) n k = k

    count_is : {x : Steps g.Reported} {ks : List ℕ} (p : IsStep g elaborates ends x ks)
        → count_of g elaborates ends around p ≡ length (inside_of ks)
    count_is (constants_step cs) = refl
    count_is (types_step ts) = refl
    count_is (variables_step vs) = refl
    count_is (procedure_step h block ks f) = refl

    first_numbers : (so : List ℕ) (d : Decl) (ds : List Decl) → ends ≡ fold with_decl_ends so (d ∷ ds)
        → AreNumbered ends (length so) (inside_of (within_decl d))
    first_numbers so d ds q i c e =
        let ks : List ℕ = inside_of (within_decl d) in
        let new : List ℕ = ends_from (length so) ks in
        let k = ends_more (with_decl_ends so d) ds in
        let all : ends ≡ so ++ (new ++ k.0) = q ∙ k.1 ∙ ap (λ (es : List ℕ). es ++ k.0) (decl_ends so d)
        ∙ append_assoc so new k.0 in
        ap (λ (es : List ℕ). slice_get es (length so + i)) all ∙ behind_end so (new ++ k.0) i
        ∙ before_end new k.0 i (subst (λ (l : ℕ). i < l) (sym (ends_length (length so) ks)) (is_within ks i c e))
        ∙ ends_at (length so) ks i c e

    numbers_from : (so : List ℕ) (ds : List Decl) → ends ≡ fold with_decl_ends so ds
        → NumbersIn g elaborates ends around (length so) (are_steps ds)
    unfolding are_steps
    numbers_from so [] q = tt
    numbers_from so (d ∷ ds) q =
        let p = (decls_nest g elaborates forms ends d).step in
        let ks : List ℕ = inside_of (within_decl d) in
        let l : length (with_decl_ends so d) ≡ length so + count_of g elaborates ends around p =
        ap (λ (es : List ℕ). length es) (decl_ends so d) ∙ length-append so (ends_from (length so) ks)
        ∙ ap (λ (n : ℕ). length so + n) (ends_length (length so) ks ∙ sym (count_is p)) in (
          step_numbers p (length so) (first_numbers so d ds q),
          subst (λ (n : ℕ). NumbersIn g elaborates ends around n (are_steps ds)) l
              (numbers_from (with_decl_ends so d) ds q),
        )

    pub numbers_in : (ds : List Decl) → ends ≡ nesting.procedure_ends ds
        → NumbersIn g elaborates ends around 0 (are_steps ds)
    numbers_in ds q = numbers_from [] ds q
